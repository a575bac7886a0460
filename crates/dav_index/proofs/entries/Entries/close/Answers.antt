use Rattle.std.proofs.Common.{◌≡◌, None, length, sym, subst, refl}
use Rattle.dav_text.specs.Path.{PathParts}
use Rattle.dav_index.specs.Items.{entry_at}
use Rattle.dav_index.specs.Records.{IsBare}
use Rattle.dav_index.proofs.EntryLemmas.{entry_read, none_read, entry_changed, closed_again, closed_first, fresh_for, not_given, own_fresh}
use Rattle.dav_index.proofs.entries.Entries.close.Goals as goal

pub returns-in-Some : goal.returns-in-Some
returns-in-Some c =
    let path = c.args.path.now in
    let listed = c.deref.result.now in
    let items = c.self.inside.items.items in
    closed_again path c.args.body c.args.row c.args.self.now c.write.new.self c.entry.result.now c.closed-entry.result
    (entry_read path listed items c.args.self.now c.in-Some.place c.index.result.now c.entry.result.now c.deref.ensures.value c.self.view_is c.in-Some.ensures c.index.ensures c.entry.ensures)
    c.closed-entry.ensures
    (entry_changed path (λ _. c.closed-entry.result) listed items c.args.self.now c.write.new.self c.in-Some.place c.index.result.now c.entry.result.now c.closed-entry.result
    c.deref.ensures.value c.self.view_is c.in-Some.ensures c.index.ensures c.entry.ensures refl c.write.ensures)

pub add-requires-clause-bare : goal.add-requires-clause-bare
add-requires-clause-bare c =
    let none = none_read c.args.path.now c.deref.result.now c.self.inside.items.items c.args.self.now c.deref.ensures.value c.self.view_is c.in-None.ensures in
    let is = fresh_for c.args.path.now (length c.args.self.now) (entry_at c.args.path.now c.args.self.now) c.args.fresh c.in-Some-fresh.fresh c.requires.fresh none c.in-Some-fresh.is in
    subst IsBare (sym is.path_is) c.requires.bare

pub add-requires-clause-fresh : goal.add-requires-clause-fresh
add-requires-clause-fresh c =
    let none = none_read c.args.path.now c.deref.result.now c.self.inside.items.items c.args.self.now c.deref.ensures.value c.self.view_is c.in-None.ensures in
    let is = fresh_for c.args.path.now (length c.args.self.now) (entry_at c.args.path.now c.args.self.now) c.args.fresh c.in-Some-fresh.fresh c.requires.fresh none c.in-Some-fresh.is in
    own_fresh c.args.path.now (length c.args.self.now) c.in-Some-fresh.fresh is

pub add-requires-clause-absent : goal.add-requires-clause-absent
add-requires-clause-absent c =
    let none = none_read c.args.path.now c.deref.result.now c.self.inside.items.items c.args.self.now c.deref.ensures.value c.self.view_is c.in-None.ensures in
    let is = fresh_for c.args.path.now (length c.args.self.now) (entry_at c.args.path.now c.args.self.now) c.args.fresh c.in-Some-fresh.fresh c.requires.fresh none c.in-Some-fresh.is in
    subst (λ (p : PathParts). entry_at p c.args.self.now ≡ None) (sym is.path_is) none

pub unreachable-requires : goal.unreachable-requires
unreachable-requires c =
    not_given c.args.path.now (length c.args.self.now) (entry_at c.args.path.now c.args.self.now) c.args.fresh c.requires.fresh
    (none_read c.args.path.now c.deref.result.now c.self.inside.items.items c.args.self.now c.deref.ensures.value c.self.view_is c.in-None.ensures) c.in-None-fresh.is

pub returns-in-Some-fresh : goal.returns-in-Some-fresh
returns-in-Some-fresh c =
    let none = none_read c.args.path.now c.deref.result.now c.self.inside.items.items c.args.self.now c.deref.ensures.value c.self.view_is c.in-None.ensures in
    let is = fresh_for c.args.path.now (length c.args.self.now) (entry_at c.args.path.now c.args.self.now) c.args.fresh c.in-Some-fresh.fresh c.requires.fresh none c.in-Some-fresh.is in
    closed_first c.args.path.now c.in-Some-fresh.fresh.path c.args.body c.args.row c.args.self.now c.add.new.self c.new.result none c.new.ensures is.path_is c.add.ensures
