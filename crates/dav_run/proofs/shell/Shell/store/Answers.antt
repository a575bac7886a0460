use Rattle.std.proofs.Common.{◌++◌, ℕ, List, length, None, Ok, Err, refl, ap, ◌∙◌}
use Rattle.dav_upload.specs.Desks.{disk_view}
use Rattle.dav_run.specs.Said.{state_of}
use Rattle.dav_run.specs.Shell.{closed_line, lined, makes_room, with_table}
use Rattle.dav_run.specs.declared.shell.Said.TheVariants as saids
use Rattle.dav_run.proofs.Desking.{gives, line_memory, line_puts, said_is, store_next}
use Rattle.dav_run.proofs.Fitting.{fit_with}
use Rattle.dav_run.proofs.shell.Shell.store.Goals as goal

pub returns-in_default-clause-does : goal.returns-in_default-clause-does
returns-in_default-clause-does g c = λ line put.
    line_memory (disk_view g.D.Disk.honest g.D.Disk.moment g.D.Disk.seen g.D.Disk.past g.D.Disk.faults) _ _ (state_of c.args.self.now) line _ c.starve.ensures.same.0 (said_is _ saids.Memory c.starve.new.self.text.items _ _ c.starve.ensures.said c.starve.ensures.state)

pub returns-in_default-clause-fit : goal.returns-in_default-clause-fit
returns-in_default-clause-fit g c =
    fit_with g.D.Disk.honest g.D.Disk.moment g.D.Disk.seen g.D.Disk.past c.starve.new.self _ _ c.starve.ensures.same.1 c.starve.ensures.same.0 c.requires.fit.path c.requires.fit.readied c.requires.fit.resting

pub ask_desk-requires-clause-ask : goal.ask_desk-requires-clause-ask
ask_desk-requires-clause-ask g c = c.requires.path

pub ask_desk-requires-clause-readied : goal.ask_desk-requires-clause-readied
ask_desk-requires-clause-readied g c = c.requires.fit.readied

pub ask_desk-requires-clause-resting : goal.ask_desk-requires-clause-resting
ask_desk-requires-clause-resting g c = c.requires.fit.resting

pub returns-in-Ok-ask_desk-clause-does : goal.returns-in-Ok-ask_desk-clause-does
returns-in-Ok-ask_desk-clause-does g c = λ line put.
    let st = state_of c.args.self.now in
    let path = c.args.put.path in
    let bytes = c.args.put.bytes in
    let after = with_table st c.ask_desk.new.desk.table in
    let printed = c.in-Ok.ensures ∙ ap (λ (l : List ℕ). l ++ closed_line c.args.put.path c.len.result) c.clear.ensures.items ∙ ap (closed_line c.args.put.path) c.len.ensures in
    line_puts (disk_view g.D.Disk.honest g.D.Disk.moment g.D.Disk.seen g.D.Disk.past g.D.Disk.faults) _ _ st line path bytes _ put
    (store_next (disk_view g.D.Disk.honest g.D.Disk.moment g.D.Disk.seen g.D.Disk.past g.D.Disk.faults) _ c.ask_desk.new.desk _ st path bytes _ (makes_room path bytes) (Ok c.in-Ok-ask_desk.field-0) _ refl refl c.in-Ok-ask_desk.ensures.asks
    (gives (disk_view g.D.Disk.honest g.D.Disk.moment g.D.Disk.seen g.D.Disk.past g.D.Disk.faults) _ _ (lined (closed_line path (length bytes)) after None) _ refl (ap (λ (text : List ℕ). lined text after None) printed)))

pub returns-in-Ok-ask_desk-clause-fit : goal.returns-in-Ok-ask_desk-clause-fit
returns-in-Ok-ask_desk-clause-fit g c =
    fit_with g.D.Disk.honest g.D.Disk.moment g.D.Disk.seen g.D.Disk.past _ c.args.self.now.current c.ask_desk.new.desk refl refl c.requires.fit.path c.in-Ok-ask_desk.ensures.readied c.in-Ok-ask_desk.ensures.resting

pub refused-requires-clause-fit : goal.refused-requires-clause-fit
refused-requires-clause-fit g c =
    fit_with g.D.Disk.honest g.D.Disk.moment g.D.Disk.seen g.D.Disk.past _ c.args.self.now.current c.ask_desk.new.desk refl refl c.requires.fit.path c.in-Err.ensures.readied c.in-Err.ensures.resting

pub refused-requires-clause-ask : goal.refused-requires-clause-ask
refused-requires-clause-ask g c = c.requires.path

pub refused-requires-clause-oldest : goal.refused-requires-clause-oldest
refused-requires-clause-oldest g c = c.in-Err.ensures.oldest

pub returns-clause-does : goal.returns-clause-does
returns-clause-does g c = λ line put.
    let st = state_of c.args.self.now in
    let path = c.args.put.path in
    let bytes = c.args.put.bytes in
    let printed = c.in-Ok.ensures ∙ ap (λ (l : List ℕ). l ++ closed_line c.args.put.path c.len.result) c.clear.ensures.items ∙ ap (closed_line c.args.put.path) c.len.ensures in
    line_puts (disk_view g.D.Disk.honest g.D.Disk.moment g.D.Disk.seen g.D.Disk.past g.D.Disk.faults) _ _ st line path bytes _ put
    (store_next (disk_view g.D.Disk.honest g.D.Disk.moment g.D.Disk.seen g.D.Disk.past g.D.Disk.faults) _ c.ask_desk.new.desk _ st path bytes _ (makes_room path bytes) (Err c.in-Err.fault) _ refl refl c.in-Err.ensures.asks
    (c.refused.ensures.does path bytes refl printed))

pub returns-clause-fit : goal.returns-clause-fit
returns-clause-fit g c = c.refused.ensures.fit
