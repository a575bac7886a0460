use Rattle.dav_text.proofs.ReadLemmas.{longer_from_front, front_from_longer}
use Rattle.dav_text.proofs.path.is_longer.Goals as goal

pub returns-then-top-segments : goal.returns-then-top-segments
returns-then-top-segments c = (
  λ same. longer_from_front c.args.segments.now c.args.top.now c.if-top-segments.true (c.same_segments.ensures.0 same),
  λ longer. c.same_segments.ensures.1 (front_from_longer c.args.segments.now c.args.top.now longer),
)
