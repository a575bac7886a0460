-- What the bytes of a head so far are: RFC 9112 sections 2 to 5.
use Rattle.std.specs.Prelude.{ℕ, List}
use Rattle.httparse.specs.Grammar.{HasNoResponse, NeverHasResponse, MayBecomeResponse}
use Rattle.httparse.specs.declared.spans.HeaderSpan.{HeaderSpan}
use Rattle.httparse.specs.Spans.{IsResponseOf, IsResponseWithin}
use Rattle.dav_head.specs.declared.head.HeadState.{HeadState}
use Rattle.dav_head.specs.declared.head.HeadState.TheVariants.{Open, Whole, Refused}

-- the judgement is right of these bytes: no head is at their front and they are the front of one, or a
-- head is there and the spans cover its parts, or no bytes can follow that make a head
abbrev pub JudgesHead : List ℕ → List HeaderSpan → HeadState → Type 0
JudgesHead bytes headers Open = HasNoResponse bytes × MayBecomeResponse bytes
JudgesHead bytes headers (Whole spans) = IsResponseOf bytes headers spans × IsResponseWithin bytes headers spans
JudgesHead bytes headers Refused = NeverHasResponse bytes
