use Rattle.dav_index.specs.Tables.{waiting_so}
use Rattle.dav_index.proofs.EntryLemmas.{entry_changed, none_changed}
use Rattle.dav_index.proofs.entries.Entries.wait.Goals as goal

pub returns-in-Some : goal.returns-in-Some
returns-in-Some c =
    entry_changed c.args.path.now (waiting_so c.args.waiting) c.deref.result.now c.self.inside.items.items c.args.self.now c.write.new.self c.in-Some.place c.index.result.now c.entry.result.now c.waiting_so-entry.result
    c.deref.ensures.value c.self.view_is c.in-Some.ensures c.index.ensures c.entry.ensures c.waiting_so-entry.ensures c.write.ensures

pub returns-in_default : goal.returns-in_default
returns-in_default c =
    none_changed c.args.path.now (waiting_so c.args.waiting) c.deref.result.now c.self.inside.items.items c.args.self.now c.deref.ensures.value c.self.view_is c.in_default.ensures
