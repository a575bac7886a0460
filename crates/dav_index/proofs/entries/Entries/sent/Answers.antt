use Rattle.dav_index.specs.Tables.{sent_entry}
use Rattle.dav_index.proofs.EntryLemmas.{entry_changed, none_changed}
use Rattle.dav_index.proofs.entries.Entries.sent.Goals as goal

pub returns-in-Some : goal.returns-in-Some
returns-in-Some c =
    entry_changed c.args.path.now (sent_entry c.args.file c.args.seen.now c.args.row) c.deref.result.now c.self.inside.items.items c.args.self.now c.write.new.self c.in-Some.place c.index.result.now c.entry.result.now c.sent-entry.result
    c.deref.ensures.value c.self.view_is c.in-Some.ensures c.index.ensures c.entry.ensures c.sent-entry.ensures c.write.ensures

pub returns-in_default : goal.returns-in_default
returns-in_default c =
    none_changed c.args.path.now (sent_entry c.args.file c.args.seen.now c.args.row) c.deref.result.now c.self.inside.items.items c.args.self.now c.deref.ensures.value c.self.view_is c.in_default.ensures
