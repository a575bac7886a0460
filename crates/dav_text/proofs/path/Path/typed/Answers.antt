use Rattle.std.proofs.Common.{None, Some, List, ℕ, arith, refl, sym, ap, ◌∙◌}
use Rattle.std.proofs.lemmas.Str.Pattern.{strip_prefix_char}
use Rattle.dav_text.specs.Path.{PathParts}
use Rattle.dav_text.specs.Reading.{folded, parts_of}
use Rattle.dav_text.proofs.ReadLemmas.{typed_top, typed_below, fitting_told}
use Rattle.dav_text.proofs.path.Path.typed.Goals as goal

pub returns-in_ok-add_parts-2 : goal.returns-in_ok-add_parts-2
returns-in_ok-add_parts-2 c =
    let below = strip_prefix_char 47 c.args.word.now None c.in_default.ensures.cases (omega arith) in
    let path = c.in_ok-add_parts-2.ensures ∙ ap (λ (p : PathParts). folded p (parts_of c.args.word.now)) c.in_ok-path.ensures in
    fitting_told c.fitting-in_default.result _ _ c.fitting-in_default.ensures (typed_below c.args.here.now c.args.word.now _ below path)
