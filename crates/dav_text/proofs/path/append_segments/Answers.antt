use Rattle.std.proofs.Common.{rules, ◌≡◌, [], ◌∷◌, ◌++◌, length, get_or, take, ◌<◌, arith, ap, subst, ◌∙◌, List, ℕ}
use Rattle.std.proofs.lemmas.List.{append_assoc}
use Rattle.percent_encoding.specs.Percent.{percent_encode}
use Rattle.dav_text.specs.declared.sets.TheConstants.{ESCAPED}
use Rattle.dav_text.specs.Path.{BeginsWith, escaped_segments}
use Rattle.dav_text.proofs.PathLemmas.{grown, BeginsWith-front, escaped_segments_more}
use Rattle.dav_text.proofs.path.append_segments.Goals as goal

pub returns-in_err-append_escaped-clause-err : goal.returns-in_err-append_escaped-clause-err
returns-in_err-append_escaped-clause-err c =
    let old = c.args.out.now.items in
    let front = escaped_segments (take c.loop-segment.segment-index c.args.segments.now) in
    let now : c.push.new.self.items ≡ old ++ (front ++ 47 ∷ []) = c.in_ok-push.ensures.items ∙ ap (λ x. x ++ 47 ∷ []) c.loop-segment.invariant ∙ append_assoc old front (47 ∷ []) in
    let kept : BeginsWith (old ++ (front ++ 47 ∷ [])) c.append_escaped.new.out.items = subst (λ (x : List ℕ). BeginsWith x c.append_escaped.new.out.items) now c.in_err-append_escaped.ensures.err in
    let held : BeginsWith old c.append_escaped.new.out.items = BeginsWith-front old (front ++ 47 ∷ []) c.append_escaped.new.out.items kept in
    search rules

pub loop-segment-preserved : goal.loop-segment-preserved
loop-segment-preserved c =
    let old = c.args.out.now.items in
    let segments = c.args.segments.now in
    let i = c.loop-segment.segment-index in
    let segment = c.segment-item.result in
    let within : i < length segments = omega arith in
    let front = escaped_segments (take i segments) in
    let bytes : c.as_bytes.result.now ≡ get_or segments i segment = c.as_bytes.ensures ∙ c.segment-item.is in
    let text = percent_encode ESCAPED c.as_bytes.result.now in
    let grew = c.in_ok-append_escaped.ensures.ok ∙ ap (λ x. x ++ text) c.in_ok-push.ensures.items ∙ append_assoc c.loop-segment.out.items (47 ∷ []) text ∙ ap (λ x. c.loop-segment.out.items ++ 47 ∷ percent_encode ESCAPED x) bytes in
    grown old front (47 ∷ percent_encode ESCAPED (get_or segments i segment)) _ c.loop-segment.out.items _ c.loop-segment.invariant grew (escaped_segments_more segments i segment within)
