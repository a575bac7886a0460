use Rattle.std.proofs.Common.{sym, ◌∙◌, ap}
use Rattle.dav_deeds.specs.DeskTable.{DeskTable}
use Rattle.dav_deeds.specs.Refusals.{store_refusal}
use Rattle.dav_deeds.proofs.Making.{store_is}
use Rattle.dav_deeds.proofs.desk_table.DeskTable.plan_store.Goals as goal

pub returns-in-Some : goal.returns-in-Some
returns-in-Some c =
    store_is c.args.self.now c.args.who c.args.now c.args.path.now c.in_ok-asked.asked c.len-len.result c.args.bytes.now c.in-Some.fault c.in_ok-planned.planned _ c.in_ok-asked.ensures c.len-len.ensures
    (ap (λ (t : DeskTable). store_refusal t.index c.args.path.now c.len-len.result) (sym c.self.view_is) ∙ sym c.in_ok-fault.ensures ∙ c.in-Some.is)
    c.requires.blank c.in_ok-planned.ensures
