use Rattle.std.proofs.Common.{Bool, true, Some, None, [], ◌∷◌, sym, ap, ◌∙◌}
use Rattle.std.proofs.lemmas.Bool.Decides.{Decides-eqb}
use Rattle.std.proofs.lemmas.Slice.Eq.{strip_suffix_is}
use Rattle.dav_run.specs.Carrying.{line_at}
use Rattle.dav_run.proofs.CarryingOut.{without_return-ended, without_return-none}
use Rattle.dav_run.proofs.input.line_of.Goals as goal

pub returns-in-Some : goal.returns-in-Some
returns-in-Some c =
    let bytes = c.args.bytes.now in
    let is = strip_suffix_is Decides-eqb bytes (13 ∷ []) (Some c.in-Some.line) c.in-Some.ensures.cases in
    sym (ap (λ (fed : Bool). line_at fed bytes) c.if-not-fed.false ∙ ap (line_at true) is ∙ without_return-ended c.in-Some.line.now)

pub returns-in-None : goal.returns-in-None
returns-in-None c =
    let bytes = c.args.bytes.now in
    let none = strip_suffix_is Decides-eqb bytes (13 ∷ []) None c.in-None.ensures.cases in
    sym (ap (λ (fed : Bool). line_at fed bytes) c.if-not-fed.false ∙ without_return-none bytes none)
