use Rattle.std.proofs.Common.{sym, ◌∙◌, ap}
use Rattle.dav_deeds.specs.DeskTable.{DeskTable}
use Rattle.dav_deeds.specs.Refusals.{queued_with, queued_fault}
use Rattle.dav_deeds.proofs.Making.{forget_is}
use Rattle.dav_deeds.proofs.desk_table.DeskTable.plan_forget.Goals as goal

pub returns-in-Some : goal.returns-in-Some
returns-in-Some c =
    forget_is c.args.self.now c.args.who c.args.now c.args.path.now c.in_ok-asked.asked c.args.locks c.args.below c.in-Some.fault c.in_ok-planned.planned _ c.in_ok-asked.ensures
    (ap (λ (t : DeskTable). queued_fault (queued_with c.args.path.now c.args.below t.index.entries)) (sym c.self.view_is) ∙ sym c.in_ok-fault.ensures ∙ c.in-Some.is)
    c.requires.blank c.in_ok-planned.ensures
