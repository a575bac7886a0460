use Rattle.std.proofs.Common.{◌≡◌, ◌<◌, ◌∙◌, ℕ, List, length, ap, subst}
use Rattle.dav_upload.specs.Desks.{disk_view}
use Rattle.dav_run.specs.Answering.{DoesLine}
use Rattle.dav_run.specs.Carrying.{line_at}
use Rattle.dav_run.specs.Pending.{HoldsAs}
use Rattle.dav_run.specs.Said.{state_of}
use Rattle.dav_run.specs.declared.pending.Fits.{Fits}
use Rattle.dav_run.specs.declared.shell.Said.TheVariants as saids
use Rattle.dav_run.proofs.CarryingOut.{long_line, long_no_put}
use Rattle.dav_run.proofs.Desking.{line_memory, line_syntax, said_is}
use Rattle.dav_run.proofs.Fitting.{fit_with}
use Rattle.dav_run.proofs.input.answer_to.Goals as goal

pub answer-requires : goal.answer-requires
answer-requires g c = c.requires

pub returns-in-Whole-clause-does : goal.returns-in-Whole-clause-does
returns-in-Whole-clause-does g c = λ begun holds.
    let bytes = c.args.pending.now.bytes.items in
    let held : bytes ≡ begun = subst (λ (fits : Fits). HoldsAs fits bytes begun) c.in-Whole.is holds in
    let is = c.line_of.ensures ∙ ap (line_at c.args.fed) (c.as_slice.ensures.value ∙ held) in
    subst (λ (line : List ℕ). DoesLine (disk_view g.D.Disk.honest g.D.Disk.moment g.D.Disk.seen g.D.Disk.past g.D.Disk.faults) c.args.shell.now.desk c.answer.new.self.desk
    (state_of c.args.shell.now) line c.answer.result c.answer.new.self.text.items (state_of c.answer.new.self)) is c.answer.ensures.does

pub returns-in-Whole-clause-fit : goal.returns-in-Whole-clause-fit
returns-in-Whole-clause-fit g c = c.answer.ensures.fit

pub returns-in-TooLong-clause-does : goal.returns-in-TooLong-clause-does
returns-in-TooLong-clause-does g c = λ begun holds.
    let st = state_of c.args.shell.now in
    let long : 65536 < length begun = subst (λ (fits : Fits). HoldsAs fits c.args.pending.now.bytes.items begun) c.in-TooLong.is holds in
    line_syntax (disk_view g.D.Disk.honest g.D.Disk.moment g.D.Disk.seen g.D.Disk.past g.D.Disk.faults) _ _ st (line_at c.args.fed begun) _ c.refuse.ensures.same.0
    (long_line c.args.fed begun long) (long_no_put st c.args.fed begun long) (said_is _ saids.Syntax c.refuse.new.self.text.items _ _ c.refuse.ensures.said c.refuse.ensures.state)

pub returns-in-TooLong-clause-fit : goal.returns-in-TooLong-clause-fit
returns-in-TooLong-clause-fit g c =
    fit_with g.D.Disk.honest g.D.Disk.moment g.D.Disk.seen g.D.Disk.past c.refuse.new.self _ _ c.refuse.ensures.same.1 c.refuse.ensures.same.0 c.requires.path c.requires.readied c.requires.resting

pub returns-in-NoMemory-clause-does : goal.returns-in-NoMemory-clause-does
returns-in-NoMemory-clause-does g c = λ begun holds.
    line_memory (disk_view g.D.Disk.honest g.D.Disk.moment g.D.Disk.seen g.D.Disk.past g.D.Disk.faults) _ _ (state_of c.args.shell.now) (line_at c.args.fed begun) _ c.starve.ensures.same.0
    (said_is _ saids.Memory c.starve.new.self.text.items _ _ c.starve.ensures.said c.starve.ensures.state)

pub returns-in-NoMemory-clause-fit : goal.returns-in-NoMemory-clause-fit
returns-in-NoMemory-clause-fit g c =
    fit_with g.D.Disk.honest g.D.Disk.moment g.D.Disk.seen g.D.Disk.past c.starve.new.self _ _ c.starve.ensures.same.1 c.starve.ensures.same.0 c.requires.path c.requires.readied c.requires.resting
