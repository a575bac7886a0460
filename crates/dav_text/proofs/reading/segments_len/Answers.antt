use Rattle.std.proofs.Common.{◌≡◌, ◌<◌, ℕ, List, length, get_or, arith, sym, ap, ◌∙◌}
use Rattle.percent_encoding.specs.Percent.{percent_encode}
use Rattle.dav_text.specs.declared.sets.TheConstants.{ESCAPED}
use Rattle.dav_text.proofs.ReadLemmas.{longer_by_segment}
use Rattle.dav_text.proofs.reading.segments_len.Goals as goal

pub loop-segment-preserved : goal.loop-segment-preserved
loop-segment-preserved c =
    let segments = c.args.segments.now in
    let i = c.loop-segment.segment-index in
    let segment = c.segment-item.result in
    let within : i < length segments = omega arith in
    let e = longer_by_segment segments i segment within in
    let same : length (percent_encode ESCAPED c.as_bytes.result.now) ≡ length (percent_encode ESCAPED (get_or segments i segment)) = ap (λ (x : List ℕ). length (percent_encode ESCAPED x)) (c.as_bytes.ensures ∙ c.segment-item.is) in
    omega arith
