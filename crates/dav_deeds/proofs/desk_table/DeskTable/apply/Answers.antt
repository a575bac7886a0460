use Rattle.std.proofs.Common.{Option, refl, sym, ◌∙◌, ap, subst}
use Rattle.dav_deeds.specs.DeskTable.{DeskTable}
use Rattle.dav_deeds.specs.DeskView.{table_of}
use Rattle.dav_deeds.specs.declared.answer.Flight.{Flight}
use Rattle.dav_deeds.specs.Change.{CanChange, IsChange, job_with}
use Rattle.dav_deeds.specs.Effects.{after, effect_of}
use Rattle.dav_deeds.proofs.Making.{applied_is, applied_sound}
use Rattle.dav_deeds.proofs.desk_table.DeskTable.apply.Goals as goal

pub note-requires : goal.note-requires
note-requires c =
    let can = subst (λ (t : DeskTable). CanChange t c.args.change) (sym c.self.view_is) c.requires in
    ((effect_of (table_of c.self.inside) can.now can.deed).on_record, can.change.noting)

pub invariant_of-self : goal.invariant_of-self
invariant_of-self c =
    applied_sound c.self.inside c.args.change c.note.new.index c.wait.new.index c.job_with.result c.jobs_with-self-inside.result c.args.change.stopping c.note.ensures c.wait.ensures
    (c.job_with.ensures ∙ ap (λ (j : Option Flight). job_with j c.args.change.job) c.take.ensures.value) c.jobs_with-self-inside.ensures refl
    (subst (λ (t : DeskTable). CanChange t c.args.change) (sym c.self.view_is) c.requires) c.self.invariant

pub returns : goal.returns
returns c now deed is =
    applied_is c.self.inside c.args.change c.note.new.index c.wait.new.index c.job_with.result c.jobs_with-self-inside.result c.args.change.stopping c.note.ensures c.wait.ensures
    (c.job_with.ensures ∙ ap (λ (j : Option Flight). job_with j c.args.change.job) c.take.ensures.value) c.jobs_with-self-inside.ensures refl now deed
    (subst (λ (t : DeskTable). IsChange t (effect_of t now deed) c.args.change) (sym c.self.view_is) is)
    ∙ ap (λ (t : DeskTable). after t now deed) c.self.view_is
