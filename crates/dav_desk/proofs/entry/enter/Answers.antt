use Rattle.std.proofs.Common.{◌≡◌, ◌≢◌, inr, ℕ, List, [], Option, sym, ◌∙◌, ap, subst, arith}
use Rattle.dav_recorder.specs.Planned.{IsPlanned}
use Rattle.dav_deeds.specs.Legal.{new_body, table_after}
use Rattle.dav_desk.proofs.Entering.{entry_planned, entry_quiet, row_empty, row_full}
use Rattle.std.specs.List.{Contains}
use Rattle.dav_recorder.specs.Files.{ChangesOnly, IsStored}
use Rattle.dav_recorder.specs.Stands.{IsWritten}
use Rattle.dav_recorder.proofs.Filing.{changes_wider}
use Rattle.dav_recorder.specs.Calls.{entry_calls, freeing_calls, IsUnder}
use Rattle.dav_desk.specs.Calls.{row_calls}
use Rattle.dav_desk.specs.Entry.{file_in}
use Rattle.dav_desk.proofs.Calling.{full_calls}
use Rattle.dav_desk.proofs.entry.enter.Goals as goal

pub returns-in-Ok-clause-live : goal.returns-in-Ok-clause-live
returns-in-Ok-clause-live g c h url opening start given entry is =
    let t = table_after opening c.args.recorder.now.trace.steps.items in
    let none : c.args.row.now ≡ [] = row_empty c.args.row.now c.is_empty.result c.is_empty.ensures c.if-is_empty.true in
    c.in-Ok.ensures.live h url opening start given entry.legal (entry_quiet t c.args.step given c.args.bytes.now c.args.row.now c.args.freed.now entry none) is

pub returns-in-Err-clause-left : goal.returns-in-Err-clause-left
returns-in-Err-clause-left g c h url opening start given entry is =
    let t = table_after opening c.args.recorder.now.trace.steps.items in
    let none : c.args.row.now ≡ [] = row_empty c.args.row.now c.is_empty.result c.is_empty.ensures c.if-is_empty.true in
    c.in-Err.ensures.left h url opening start given (entry_quiet t c.args.step given c.args.bytes.now c.args.row.now c.args.freed.now entry none) is

pub returns-in-Ok-enter-clause-live : goal.returns-in-Ok-enter-clause-live
returns-in-Ok-enter-clause-live g c h url opening start given entry is =
    let t = table_after opening c.args.recorder.now.trace.steps.items in
    let none : c.args.row.now ≢ [] = row_full c.args.row.now c.is_empty.result c.is_empty.ensures c.if-is_empty.false in
    c.in-Ok-enter.ensures.live h url opening start given entry.legal
    (subst (λ (o : Option ℕ). IsPlanned t c.args.step given o c.args.bytes.now c.args.row.now c.args.freed.now) (sym c.fresh_of-fresh.ensures) (entry_planned t c.args.step given c.args.bytes.now c.args.row.now c.args.freed.now entry none)) is

pub returns-in-Err-enter-clause-left : goal.returns-in-Err-enter-clause-left
returns-in-Err-enter-clause-left g c h url opening start given entry is =
    let t = table_after opening c.args.recorder.now.trace.steps.items in
    let none : c.args.row.now ≢ [] = row_full c.args.row.now c.is_empty.result c.is_empty.ensures c.if-is_empty.false in
    c.in-Err-enter.ensures.left h url opening start given entry.legal
    (subst (λ (o : Option ℕ). IsPlanned t c.args.step given o c.args.bytes.now c.args.row.now c.args.freed.now) (sym c.fresh_of-fresh.ensures) (entry_planned t c.args.step given c.args.bytes.now c.args.row.now c.args.freed.now entry none)) is

pub returns-in-Ok-clause-changes : goal.returns-in-Ok-clause-changes
returns-in-Ok-clause-changes g c h =
    changes_wider g.D.Disk.moment g.D.Disk.seen g.D.Disk.past (Contains c.args.freed.now) (IsWritten (file_in (new_body c.args.step.deed)) c.args.freed.now) c.args.recorder.now.disk c.enter_quiet.new.self.disk (λ f freed. inr (inr freed)) (c.enter_quiet.ensures.changes h)

pub returns-in-Err-clause-changes : goal.returns-in-Err-clause-changes
returns-in-Err-clause-changes g c h =
    changes_wider g.D.Disk.moment g.D.Disk.seen g.D.Disk.past (Contains c.args.freed.now) (IsWritten (file_in (new_body c.args.step.deed)) c.args.freed.now) c.args.recorder.now.disk c.enter_quiet.new.self.disk (λ f freed. inr (inr freed)) (c.enter_quiet.ensures.changes h)

pub returns-in-Ok-enter-clause-changes : goal.returns-in-Ok-enter-clause-changes
returns-in-Ok-enter-clause-changes g c h =
    subst (λ (o : Option ℕ). ChangesOnly g.D.Disk.moment g.D.Disk.seen g.D.Disk.past (IsWritten o c.args.freed.now) c.args.recorder.now.disk c.enter.new.self.disk) c.fresh_of-fresh.ensures (c.enter.ensures.changes h)

pub returns-in-Err-enter-clause-changes : goal.returns-in-Err-enter-clause-changes
returns-in-Err-enter-clause-changes g c h =
    subst (λ (o : Option ℕ). ChangesOnly g.D.Disk.moment g.D.Disk.seen g.D.Disk.past (IsWritten o c.args.freed.now) c.args.recorder.now.disk c.enter.new.self.disk) c.fresh_of-fresh.ensures (c.enter.ensures.changes h)

pub returns-in-Ok-clause-stored : goal.returns-in-Ok-clause-stored
returns-in-Ok-clause-stored g c h some = absurd (some (row_empty c.args.row.now c.is_empty.result c.is_empty.ensures c.if-is_empty.true))

pub returns-in-Ok-enter-clause-stored : goal.returns-in-Ok-enter-clause-stored
returns-in-Ok-enter-clause-stored g c h some =
    let disk = c.enter.new.self.disk in
    subst (λ (o : Option ℕ). IsStored o c.args.bytes.now c.args.freed.now (g.D.Disk.seen disk) (g.D.Disk.past disk (g.D.Disk.moment disk))) c.fresh_of-fresh.ensures (c.in-Ok-enter.ensures.stored h)

pub returns-in-Ok-clause-counts : goal.returns-in-Ok-clause-counts
returns-in-Ok-clause-counts g c =
    let none : c.args.row.now ≡ [] = row_empty c.args.row.now c.is_empty.result c.is_empty.ensures c.if-is_empty.true in
    let calls : row_calls c.args.row.now (file_in (new_body c.args.step.deed)) c.args.freed.now ≡ freeing_calls c.args.freed.now = ap (λ (l : List ℕ). row_calls l (file_in (new_body c.args.step.deed)) c.args.freed.now) none in
    record { later = c.in-Ok.ensures.counts.later; all = omega (arith, c.in-Ok.ensures.counts.all, calls); no_more = omega (arith, c.in-Ok.ensures.counts.no_more, calls) }

pub returns-in-Err-clause-counts : goal.returns-in-Err-clause-counts
returns-in-Err-clause-counts g c =
    let none : c.args.row.now ≡ [] = row_empty c.args.row.now c.is_empty.result c.is_empty.ensures c.if-is_empty.true in
    let calls : row_calls c.args.row.now (file_in (new_body c.args.step.deed)) c.args.freed.now ≡ freeing_calls c.args.freed.now = ap (λ (l : List ℕ). row_calls l (file_in (new_body c.args.step.deed)) c.args.freed.now) none in
    record { later = c.in-Err.ensures.counts.later; all = tt; no_more = omega (arith, c.in-Err.ensures.counts.no_more, calls) }

pub returns-in-Ok-enter-clause-counts : goal.returns-in-Ok-enter-clause-counts
returns-in-Ok-enter-clause-counts g c =
    let some : c.args.row.now ≢ [] = row_full c.args.row.now c.is_empty.result c.is_empty.ensures c.if-is_empty.false in
    let calls : row_calls c.args.row.now (file_in (new_body c.args.step.deed)) c.args.freed.now ≡ entry_calls c.fresh_of-fresh.result c.args.freed.now =
    full_calls c.args.row.now (file_in (new_body c.args.step.deed)) c.args.freed.now some ∙ ap (λ (o : Option ℕ). entry_calls o c.args.freed.now) (sym c.fresh_of-fresh.ensures) in
    record { later = c.in-Ok-enter.ensures.counts.later; all = omega (arith, c.in-Ok-enter.ensures.counts.all, calls); no_more = omega (arith, c.in-Ok-enter.ensures.counts.no_more, calls) }

pub returns-in-Err-enter-clause-counts : goal.returns-in-Err-enter-clause-counts
returns-in-Err-enter-clause-counts g c =
    let some : c.args.row.now ≢ [] = row_full c.args.row.now c.is_empty.result c.is_empty.ensures c.if-is_empty.false in
    let calls : row_calls c.args.row.now (file_in (new_body c.args.step.deed)) c.args.freed.now ≡ entry_calls c.fresh_of-fresh.result c.args.freed.now =
    full_calls c.args.row.now (file_in (new_body c.args.step.deed)) c.args.freed.now some ∙ ap (λ (o : Option ℕ). entry_calls o c.args.freed.now) (sym c.fresh_of-fresh.ensures) in
    record { later = c.in-Err-enter.ensures.counts.later; all = tt; no_more = omega (arith, c.in-Err-enter.ensures.counts.no_more, calls) }

pub returns-in-Err-clause-quiet : goal.returns-in-Err-clause-quiet
returns-in-Err-clause-quiet g c none = c.in-Err.ensures.stopped.4

pub returns-in-Err-clause-under : goal.returns-in-Err-clause-under
returns-in-Err-clause-under g c some = absurd (some (row_empty c.args.row.now c.is_empty.result c.is_empty.ensures c.if-is_empty.true))

pub returns-in-Err-enter-clause-quiet : goal.returns-in-Err-enter-clause-quiet
returns-in-Err-enter-clause-quiet g c none = absurd (row_full c.args.row.now c.is_empty.result c.is_empty.ensures c.if-is_empty.false none)

pub returns-in-Err-enter-clause-under : goal.returns-in-Err-enter-clause-under
returns-in-Err-enter-clause-under g c some =
    let old = c.args.recorder.now in
    let new = c.enter.new.self in
    subst (λ (o : Option ℕ). IsUnder g.D.Disk.honest g.D.Disk.moment g.D.Disk.seen g.D.Disk.past o c.args.bytes.now c.args.freed.now c.args.step old.disk new.disk old.under new.under) c.fresh_of-fresh.ensures c.in-Err-enter.ensures.under

pub returns-in-Ok-clause-quietly : goal.returns-in-Ok-clause-quietly
returns-in-Ok-clause-quietly g c h none = c.enter_quiet.ensures.changes h

pub returns-in-Err-clause-quietly : goal.returns-in-Err-clause-quietly
returns-in-Err-clause-quietly g c h none = c.enter_quiet.ensures.changes h

pub returns-in-Ok-enter-clause-quietly : goal.returns-in-Ok-enter-clause-quietly
returns-in-Ok-enter-clause-quietly g c h none = absurd (row_full c.args.row.now c.is_empty.result c.is_empty.ensures c.if-is_empty.false none)

pub returns-in-Err-enter-clause-quietly : goal.returns-in-Err-enter-clause-quietly
returns-in-Err-enter-clause-quietly g c h none = absurd (row_full c.args.row.now c.is_empty.result c.is_empty.ensures c.if-is_empty.false none)
