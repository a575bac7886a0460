use Rattle.std.proofs.Common.{rules, ◌≡◌, ◌≢◌, ◌∙◌, sym, true, Result, Ok, Some, arith, [], ◌∷◌, ◌++◌}
use Rattle.std.proofs.lemmas.Str.Pattern.{strip_suffix_char}
use lib.Utf8 as utf8
use Rattle.dav_text.specs.Path.{PathParts}
use Rattle.dav_text.specs.declared.fault.PathFault.{PathFault}
use Rattle.dav_deeds.specs.Effects.{bare}
use Rattle.dav_deeds.proofs.Slashes.{ends, rest_reads}
use Rattle.dav_deeds.proofs.bare.bare_path.Goals as goal

same_ok : (p q : PathParts) → ◌≡◌ {A = Result PathParts PathFault} (Ok p) (Ok q) → p ≡ q
same_ok p q h = cc

pub unreachable-requires : goal.unreachable-requires
unfolding utf8.encode
unreachable-requires c =
    let on : c.args.path.now.slash ≡ true = search rules in
    ends c.args.path.now on (λ front h. c.in_default.ensures.cases front (c.as_str.ensures ∙ c.in_ok-text.ensures ∙ h))

pub returns-in-Ok : goal.returns-in-Ok
returns-in-Ok c =
    let on : c.args.path.now.slash ≡ true = search rules in
    let some : c.in-Some.rest.now ≢ [] = search rules in
    let cut : c.as_str.result.now ≡ c.in-Some.rest.now ++ 47 ∷ [] = strip_suffix_char 47 c.as_str.result.now (Some c.in-Some.rest) c.in-Some.ensures.cases (omega arith) in
    same_ok c.in-Ok.bare (bare c.args.path.now)
    (sym c.in-Ok.ensures ∙ rest_reads c.args.path.now c.in-Some.rest.now c.requires on (sym c.in_ok-text.ensures ∙ sym c.as_str.ensures ∙ cut) some)
