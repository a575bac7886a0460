use Rattle.std.proofs.Common.{ℕ, Ok, Err, refl, sym, ap, ◌∙◌, subst}
use Rattle.dav_index.specs.Bounds.{queued_count}
use Rattle.dav_upload.specs.Desks.{disk_view}
use Rattle.dav_run.specs.Said.{state_of}
use Rattle.dav_run.specs.Codes.{IsBehind}
use Rattle.dav_run.specs.Run.{SaysFault, SaysLeft, SaysMemory, left_of, left_text}
use Rattle.dav_run.specs.Shell.{with_table}
use Rattle.dav_run.proofs.LastLines.{drain_next, drained_as, ends, left_as, short_behind, stop_next}
use Rattle.dav_run.proofs.whole.finish.Goals as goal

pub ask_desk-requires-clause-readied : goal.ask_desk-requires-clause-readied
ask_desk-requires-clause-readied g c = c.requires.readied

pub ask_desk-requires-clause-resting : goal.ask_desk-requires-clause-resting
ask_desk-requires-clause-resting g c = c.requires.resting

pub returns-in-Err-clause-does : goal.returns-in-Err-clause-does
returns-in-Err-clause-does g c =
    stop_next (disk_view g.D.Disk.honest g.D.Disk.moment g.D.Disk.seen g.D.Disk.past g.D.Disk.faults) _ _ _ _ c.args.shell.now.desk c.ask_desk.new.desk _ c.args.base.now (state_of c.args.shell.now) (Err c.in-Err.fault) _ refl c.in-Err.ensures.asks
    (ends (disk_view g.D.Disk.honest g.D.Disk.moment g.D.Disk.seen g.D.Disk.past g.D.Disk.faults) _ _ _ _ (SaysFault c.in-Err.fault) (with_table (state_of c.args.shell.now) c.ask_desk.new.desk.table) _ c.tell_fault.ensures.says)

pub returns-in-Err-clause-behind : goal.returns-in-Err-clause-behind
returns-in-Err-clause-behind g c = short_behind _ c.tell_fault.ensures.short

pub drain-requires-clause-readied : goal.drain-requires-clause-readied
drain-requires-clause-readied g c = c.in-Ok.ensures.readied

pub drain-requires-clause-resting : goal.drain-requires-clause-resting
drain-requires-clause-resting g c = c.in-Ok.ensures.resting

pub drain-requires-clause-stopping : goal.drain-requires-clause-stopping
drain-requires-clause-stopping g c = c.in-Ok.ensures.stopping refl

pub returns-in-Ok-drain-clause-does : goal.returns-in-Ok-drain-clause-does
returns-in-Ok-drain-clause-does g c =
    let st = (state_of c.args.shell.now) in
    let t = c.drain.new.desk.table in
    let told = ap (λ (q : ℕ). left_text q c.lost_count-lost.result) c.queued_count-queued.ensures ∙ ap (λ (l : ℕ). left_text (queued_count t.index.entries) l) c.lost_count-lost.ensures in
    stop_next (disk_view g.D.Disk.honest g.D.Disk.moment g.D.Disk.seen g.D.Disk.past g.D.Disk.faults) _ _ _ _ c.args.shell.now.desk c.ask_desk.new.desk _ c.args.base.now st (Ok c.in-Ok.field-0) _ refl c.in-Ok.ensures.asks
    (drain_next (disk_view g.D.Disk.honest g.D.Disk.moment g.D.Disk.seen g.D.Disk.past g.D.Disk.faults) _ _ _ _ c.ask_desk.new.desk c.drain.new.desk c.args.base.now c.in-Ok.field-0 (with_table st c.ask_desk.new.desk.table) (Ok tt) _ refl c.in-Ok-drain.ensures.does
    (ends (disk_view g.D.Disk.honest g.D.Disk.moment g.D.Disk.seen g.D.Disk.past g.D.Disk.faults) _ _ _ _ (SaysLeft (left_of t) c.args.shell.now.faulty) (with_table st t) _ (left_as _ _ (left_of t) _ c.args.shell.now.faulty _ told c.tell_left.ensures.says)))

pub returns-in-Ok-drain-clause-behind : goal.returns-in-Ok-drain-clause-behind
returns-in-Ok-drain-clause-behind g c = c.tell_left.ensures.behind

pub returns-in-Err-Desk-clause-does : goal.returns-in-Err-Desk-clause-does
returns-in-Err-Desk-clause-does g c =
    let st = (state_of c.args.shell.now) in
    let t = c.drain.new.desk.table in
    stop_next (disk_view g.D.Disk.honest g.D.Disk.moment g.D.Disk.seen g.D.Disk.past g.D.Disk.faults) _ _ _ _ c.args.shell.now.desk c.ask_desk.new.desk _ c.args.base.now st (Ok c.in-Ok.field-0) _ refl c.in-Ok.ensures.asks
    (drain_next (disk_view g.D.Disk.honest g.D.Disk.moment g.D.Disk.seen g.D.Disk.past g.D.Disk.faults) _ _ _ _ c.ask_desk.new.desk c.drain.new.desk c.args.base.now c.in-Ok.field-0 (with_table st c.ask_desk.new.desk.table) _ _ refl (drained_as (disk_view g.D.Disk.honest g.D.Disk.moment g.D.Disk.seen g.D.Disk.past g.D.Disk.faults) _ _ c.ask_desk.new.desk _ c.args.base.now t _ _ c.in-Err-Desk.field-0-is c.in-Err-Desk.ensures.does)
    (ends (disk_view g.D.Disk.honest g.D.Disk.moment g.D.Disk.seen g.D.Disk.past g.D.Disk.faults) _ _ _ _ (SaysFault c.in-Err-Desk.fault) (with_table st t) _ c.tell_fault-in-Err-Desk.ensures.says))

pub returns-in-Err-Desk-clause-behind : goal.returns-in-Err-Desk-clause-behind
returns-in-Err-Desk-clause-behind g c = short_behind _ c.tell_fault-in-Err-Desk.ensures.short

pub returns-in-Err-Memory-clause-does : goal.returns-in-Err-Memory-clause-does
returns-in-Err-Memory-clause-does g c =
    let st = (state_of c.args.shell.now) in
    let t = c.drain.new.desk.table in
    stop_next (disk_view g.D.Disk.honest g.D.Disk.moment g.D.Disk.seen g.D.Disk.past g.D.Disk.faults) _ _ _ _ c.args.shell.now.desk c.ask_desk.new.desk _ c.args.base.now st (Ok c.in-Ok.field-0) _ refl c.in-Ok.ensures.asks
    (drain_next (disk_view g.D.Disk.honest g.D.Disk.moment g.D.Disk.seen g.D.Disk.past g.D.Disk.faults) _ _ _ _ c.ask_desk.new.desk c.drain.new.desk c.args.base.now c.in-Ok.field-0 (with_table st c.ask_desk.new.desk.table) _ _ refl (drained_as (disk_view g.D.Disk.honest g.D.Disk.moment g.D.Disk.seen g.D.Disk.past g.D.Disk.faults) _ _ c.ask_desk.new.desk _ c.args.base.now t _ _ c.in-Err-Memory.field-0-is c.in-Err-Memory.ensures.does)
    (ends (disk_view g.D.Disk.honest g.D.Disk.moment g.D.Disk.seen g.D.Disk.past g.D.Disk.faults) _ _ _ _ SaysMemory (with_table st t) _ c.tell_memory.ensures.says))

pub returns-in-Err-Memory-clause-behind : goal.returns-in-Err-Memory-clause-behind
returns-in-Err-Memory-clause-behind g c = subst IsBehind (sym c.tell_memory.ensures.status) tt
