use Rattle.std.proofs.Common.{sym}
use Rattle.dav_index.proofs.EntryLemmas.{entry_read, none_read}
use Rattle.dav_index.proofs.entries.Entries.get.Goals as goal

pub returns-in-Some : goal.returns-in-Some
returns-in-Some c =
    sym (entry_read c.args.path.now c.deref.result.now c.self.inside.items.items c.args.self.now c.in-Some.place c.index.result.now c.entry.result.now c.deref.ensures.value c.self.view_is c.in-Some.ensures c.index.ensures c.entry.ensures)

pub returns-in-None : goal.returns-in-None
returns-in-None c =
    sym (none_read c.args.path.now c.deref.result.now c.self.inside.items.items c.args.self.now c.deref.ensures.value c.self.view_is c.in-None.ensures)
