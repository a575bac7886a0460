use Rattle.std.proofs.Common.{[], ◌∷◌, ◌++◌, length, get_or, take, ◌<◌, arith, sym, ap, ◌∙◌}
use Rattle.std.proofs.lemmas.List.{append-nil}
use Rattle.percent_encoding.specs.Percent.{percent_encode, percent_encode_byte}
use Rattle.percent_encoding.proofs.PercentLemmas.{percent_encode-nil}
use Rattle.dav_text.specs.declared.sets.TheConstants.{ESCAPED}
use Rattle.dav_text.proofs.PathLemmas.{grown, percent_encode_escaped_more, percent_encode_kept_more}
use Rattle.dav_text.proofs.path.append_escaped.Goals as goal
use Rattle.dav_text.proofs.path.append_escaped.Goals.{then-should_percent_encode+in_ok-extend_from_slice, else-should_percent_encode+in_ok-push}

pub loop-byte-init : goal.loop-byte-init
loop-byte-init c = rw percent_encode-nil (sym (append-nil _))

pub loop-byte-preserved : goal.loop-byte-preserved
loop-byte-preserved c =
    let bytes = c.args.segment.now in
    let i = c.loop-byte.byte-index in
    let old = c.args.out.now.items in
    let within : i < length bytes = omega arith in
    elim c.if-should_percent_encode.branch [
      | then-should_percent_encode+in_ok-extend_from_slice w ↦
          let more = percent_encode_escaped_more ESCAPED bytes i within (sym c.should_percent_encode.ensures ∙ w.if-should_percent_encode.true) in
          let piece = c.loop-byte.out.items in
          rw w.out-is (grown old (percent_encode ESCAPED (take i bytes)) (percent_encode_byte (get_or bytes i 0)) _ piece _ c.loop-byte.invariant (w.in_ok-extend_from_slice.ensures.items ∙ ap (λ x. piece ++ x) (w.as_bytes.ensures.value ∙ w.percent_encode_byte.ensures)) more)
      | else-should_percent_encode+in_ok-push w ↦
          let more = percent_encode_kept_more ESCAPED bytes i within (sym c.should_percent_encode.ensures ∙ w.if-should_percent_encode.false) in
          rw w.out-is (grown old (percent_encode ESCAPED (take i bytes)) (get_or bytes i 0 ∷ []) _ c.loop-byte.out.items _ c.loop-byte.invariant w.in_ok-push.ensures.items more)
    ]
