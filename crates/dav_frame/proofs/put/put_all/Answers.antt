use Rattle.std.proofs.Common.{◌∙◌, take, flat_map}
use Rattle.dav_frame.proofs.PutLemmas.{at_err, begins_append}
use Rattle.dav_frame.proofs.put.put_all.Goals as goal

pub returns-in_err-extend_from_slice-clause-err : goal.returns-in_err-extend_from_slice-clause-err
returns-in_err-extend_from_slice-clause-err c =
    at_err c.from_residual.result _
    (begins_append c.args.out.now.items (flat_map (λ p. p.now) (take c.loop-part.part-index c.args.parts.now)) c.extend_from_slice.new.self.items
    (c.in_err-extend_from_slice.ensures.items ∙ c.loop-part.invariant))
