use Rattle.std.proofs.Common.{arith}
use Rattle.dav_run.proofs.PutLines.{unbroken_all}
use Rattle.dav_run.proofs.line.first_blank.Goals as goal

pub returns : goal.returns
returns c = unbroken_all c.args.bytes.now (λ k below. c.loop-at.invariant k (omega arith))
