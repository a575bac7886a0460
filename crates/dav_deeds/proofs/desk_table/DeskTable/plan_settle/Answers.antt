use Rattle.std.proofs.Common.{◌≡◌, Option, Some, None, [], sym, ◌∙◌, ap, subst}
use Rattle.dav_deeds.specs.declared.ask.Done.{Done}
use Rattle.dav_deeds.specs.declared.deed.Deed.TheVariants as deeds
use Rattle.dav_deeds.specs.declared.deed.Mark.TheVariants as marks
use Rattle.dav_deeds.specs.declared.fault.DeskFault.TheVariants.{NoSuchJob}
use Rattle.dav_deeds.specs.Effects.{quiet, settle_by_fate, fated_of}
use Rattle.dav_deeds.specs.Change.{IsPlannedBy}
use Rattle.dav_deeds.specs.DeskTable.{DeskTable}
use Rattle.dav_deeds.specs.Sound.{IsFlightWithin, IsJobWithin}
use Rattle.dav_deeds.specs.declared.answer.Flight.{Flight}
use Rattle.dav_deeds.proofs.Making.{settle_is, no_job}
use Rattle.dav_deeds.proofs.desk_table.DeskTable.plan_settle.Goals as goal

same_some : (a b : Flight) → ◌≡◌ {A = Option Flight} (Some a) (Some b) → a ≡ b
same_some a b h = cc

not_none : (a : Flight) → ◌≡◌ {A = Option Flight} None (Some a) → ⊥
not_none a h = cc

pub returns-in_default : goal.returns-in_default
returns-in_default c =
    no_job c.args.self.now c.args.who c.args.now c.args.job c.args.done.now c.in_ok-planned.planned _
    (λ flight is same. not_none flight (sym c.in_default.is ∙ ap (λ (t : DeskTable). t.job) c.self.view_is ∙ is))
    c.requires.blank (subst (λ (d : Done). IsPlannedBy c.args.self.now c.args.who c.args.now (deeds.Settle c.args.job d) (quiet c.args.self.now (marks.Refused (NoSuchJob c.args.job)) None) c.in_ok-planned.planned []) c.copy.ensures c.in_ok-planned.ensures)

pub returns-then-flight-job : goal.returns-then-flight-job
returns-then-flight-job c =
    no_job c.args.self.now c.args.who c.args.now c.args.job c.args.done.now c.in_ok-planned-2.planned _
    (λ flight is same.
    let eq : c.in-Some.flight ≡ flight = same_some c.in-Some.flight flight (sym c.in-Some.is ∙ ap (λ (t : DeskTable). t.job) c.self.view_is ∙ is) in
    c.if-flight-job.true (ap (λ (f : Flight). f.number) eq ∙ same))
    c.requires.blank (subst (λ (d : Done). IsPlannedBy c.args.self.now c.args.who c.args.now (deeds.Settle c.args.job d) (quiet c.args.self.now (marks.Refused (NoSuchJob c.args.job)) None) c.in_ok-planned-2.planned []) c.copy.ensures c.in_ok-planned-2.ensures)

pub new-requires-clause-bare : goal.new-requires-clause-bare
new-requires-clause-bare c =
    let within : IsFlightWithin c.in-Some.flight c.self.inside.index = subst (λ (job : Option Flight). IsJobWithin job c.self.inside.index) c.in-Some.is c.self.invariant.job in
    within.bare

pub returns : goal.returns
returns c =
    settle_is c.args.self.now c.args.who c.args.now c.args.job c.args.done.now c.in-Some.flight c.land.result c.land.new.row.items
    (sym (ap (λ (t : DeskTable). t.job) c.self.view_is) ∙ c.in-Some.is) c.if-flight-job.false
    (subst (λ (d : Done). IsPlannedBy c.args.self.now c.args.who c.args.now (deeds.Settle c.args.job d) (settle_by_fate c.args.self.now c.in-Some.flight c.args.done.now (fated_of c.args.self.now.index c.in-Some.flight c.args.now c.args.done.now)) c.land.result c.land.new.row.items) c.copy.ensures c.land.ensures)
