-- The trailers of a chunked body, with the empty line that ends them: RFC 9112 section 7.1.2.
use Rattle.std.specs.Prelude.{◌≡◌, ℕ, ◌≤◌, List, length, drop}
use Rattle.httparse.specs.Grammar.{Field, LineEnd, print_section, ReadsSection, HasNoSection, NeverHasSection, MayBecomeSection}
use Rattle.dav_head.specs.declared.trailers.TrailersState.{TrailersState}
use Rattle.dav_head.specs.declared.trailers.TrailersState.TheVariants.{Open, Whole, Refused}

-- the first `used` bytes are trailers
pub record AreTrailers (bytes : List ℕ) (used : ℕ) : Type 0 where
  pub fields : List Field
  pub last : LineEnd
  pub reads : ReadsSection bytes fields last (drop used bytes)
  pub size : used ≡ length (print_section fields last)
  pub inside : used ≤ length bytes

-- the judgement is right of these bytes: no trailers are at their front and they are the front of some,
-- or the first `used` bytes are trailers, or no bytes can follow that make trailers
abbrev pub JudgesTrailers : List ℕ → TrailersState → Type 0
JudgesTrailers bytes Open = HasNoSection bytes × MayBecomeSection bytes
JudgesTrailers bytes (Whole used) = AreTrailers bytes used
JudgesTrailers bytes Refused = NeverHasSection bytes
