-- What a stream of bytes gives as one reply: RFC 9112 sections 2 to 7, narrowed.
use Rattle.std.specs.Prelude.{◌≡◌, ℕ, ◌+◌, ◌<◌, ◌≤◌, ◌==◌, ◌&&◌, Bool, true, false, List, [], ◌∷◌, ◌++◌, length, take, drop, All, Option, Some, None, Result, Ok, Err, if◌then◌else◌, nat_le, nat_lt}
use Rattle.httparse.specs.Grammar.{ResponseHead, IsResponseHead, print_response, status_code, NeverHasResponse, Field, LineEnd, IsField, print_section, ChunkLine, print_chunk_line, chunk_size}
use Rattle.dav_text.specs.declared.method.Method.{Method}
use Rattle.dav_head.specs.Body.{body_of, is_interim, may_persist}
use Rattle.dav_head.specs.Fields.{head_map}
use Rattle.dav_head.specs.Line.{IsSizeLine, HasNoLine, NeverHasLine}
use Rattle.dav_head.specs.declared.body.Body.{Body}
use Rattle.dav_head.specs.declared.body.Body.TheVariants as bodies
use Rattle.dav_head.specs.declared.body.BodyFault.{BodyFault}
use Rattle.dav_head.specs.declared.body.BodyFault.TheVariants as body_faults
use Rattle.dav_head.specs.declared.body.TheConstants.{BODY_LIMIT}
use Rattle.dav_frame.specs.Front.{Verdict, Found, FoundPast, Refused, Overrun, Open, Finds}
use Rattle.dav_frame.specs.declared.fault.FrameFault.{FrameFault}
use Rattle.dav_frame.specs.declared.fault.FrameFault.TheVariants.{NotAReply, BadLength, BadChunk, Coding, HeadLimit, BodyLimit}
use Rattle.dav_frame.specs.declared.phase.FinalHead.{FinalHead}

-- a final head and the body behind it
pub record Message : Type 0 where
  pub head : FinalHead
  pub body : List ℕ

abbrev pub message : FinalHead → List ℕ → Message
message head body = record { head = head; body = body }

-- what a stream gives so far: a reply and the bytes after it, a reply if the connection ends here, the first
-- fault, or nothing yet
pub data Outcome : Type 0 where
  Gives : Message → List ℕ → Outcome
  Closes : Message → Outcome
  Faults : FrameFault → Outcome
  Short : Outcome

-- a body of a stated length, which wants so many bytes more after those that it has
abbrev pub sized_body : FinalHead → List ℕ → ℕ → List ℕ → Outcome
sized_body head had need rest =
    if nat_le need (length rest)
    then Gives (message head (had ++ take need rest)) (drop need rest)
    else Short

-- a body that ends with the connection, after the bytes that it has
abbrev pub open_body : FinalHead → List ℕ → List ℕ → Outcome
open_body head had rest =
    if nat_le (length had + length rest) BODY_LIMIT
    then Closes (message head (had ++ rest))
    else Faults BodyLimit

-- the trailers of a chunked body, with the empty line that ends them
pub record Trailers : Type 0 where
  pub fields : List Field
  pub last : LineEnd

abbrev pub AreTrailers : Trailers → Type 0
AreTrailers trailers = All IsField trailers.fields

abbrev pub print_trailers : Trailers → List ℕ
print_trailers trailers = print_section trailers.fields trailers.last

-- what follows the last chunk's line, by the verdict on the trailers that begin at this offset
abbrev pub by_trailers : FinalHead → ℕ → List ℕ → Verdict Trailers → Outcome
by_trailers head at had (Found trailers rest) = Gives (message head had) rest
by_trailers head at had (FoundPast trailers) = Faults HeadLimit
by_trailers head at had Refused = Faults (BadChunk at)
by_trailers head at had Overrun = Faults HeadLimit
by_trailers head at had Open = Short

-- what the stream from the trailers on gives, where so many bytes of heads came before
pub record FromTrailers (head : FinalHead) (before at : ℕ) (had stream : List ℕ) (outcome : Outcome) : Type 0 where
  pub verdict : Verdict Trailers
  pub finds : Finds Trailers AreTrailers print_trailers before stream verdict
  pub is : outcome ≡ by_trailers head at had verdict

-- the outcome where the CR LF behind the data of a chunk isn't whole: it may yet come, or never can
abbrev pub ending_lf : ℕ → List ℕ → Option Outcome
ending_lf at [] = Some Short
ending_lf at (b ∷ rest) = if b == 10 then None else Some (Faults (BadChunk at))

abbrev pub ending : ℕ → List ℕ → Option Outcome
ending at [] = Some Short
ending at (b ∷ rest) = if b == 13 then ending_lf at rest else Some (Faults (BadChunk at))

-- the outcome where the data of a chunk, so many bytes behind a body of `had` bytes, and its CR LF aren't
-- whole: the body passes its limit, or the chunk may yet come, or never can
abbrev pub unended : ℕ → ℕ → ℕ → List ℕ → Option Outcome
unended at had need rest =
    if nat_lt BODY_LIMIT (had + need) && nat_lt BODY_LIMIT (had + length rest) then Some (Faults BodyLimit)
    else if nat_lt (length rest) need then Some Short
    else ending at (drop need rest)

-- a chunk with data: RFC 9112 section 7.1
pub record Chunk : Type 0 where
  pub line : ChunkLine
  pub data_ : List ℕ

pub record IsChunk (c : Chunk) : Type 0 where
  pub line : IsSizeLine c.line
  pub some : 0 < chunk_size c.line
  pub size : length c.data_ ≡ chunk_size c.line

-- the chunk and the bytes behind it
abbrev pub chunk_and : Chunk → List ℕ → List ℕ
chunk_and c rest = print_chunk_line c.line ++ (c.data_ ++ 13 ∷ 10 ∷ rest)

abbrev pub chunk_length : Chunk → ℕ
chunk_length c = length (print_chunk_line c.line) + (length c.data_ + 2)

-- What the stream from a chunk on gives, which begins at this offset, behind the body so far: the chunk is whole
-- and the next one follows; it is the last one, and trailers follow; its size line is whole, and the rest isn't;
-- no continuation makes a size line; or one may yet come.
pub data FromChunks (head : FinalHead) (before : ℕ) : ℕ → List ℕ → List ℕ → Outcome → Type 0 where
  chunk : (at : ℕ) (had stream : List ℕ) (outcome : Outcome) (c : Chunk) (rest : List ℕ)
      → IsChunk c → length had + length c.data_ ≤ BODY_LIMIT → stream ≡ chunk_and c rest
      → FromChunks head before (at + chunk_length c) (had ++ c.data_) rest outcome
      → FromChunks head before at had stream outcome
  last : (at : ℕ) (had stream : List ℕ) (outcome : Outcome) (line : ChunkLine) (rest : List ℕ)
      → IsSizeLine line → chunk_size line ≡ 0 → stream ≡ print_chunk_line line ++ rest
      → FromTrailers head before (at + length (print_chunk_line line)) had rest outcome
      → FromChunks head before at had stream outcome
  begun : (at : ℕ) (had stream : List ℕ) (outcome : Outcome) (line : ChunkLine) (rest : List ℕ)
      → IsSizeLine line → 0 < chunk_size line → stream ≡ print_chunk_line line ++ rest
      → unended at (length had) (chunk_size line) rest ≡ Some outcome
      → FromChunks head before at had stream outcome
  bad : (at : ℕ) (had stream : List ℕ) (outcome : Outcome) (front rest : List ℕ)
      → stream ≡ front ++ rest → NeverHasLine front → outcome ≡ Faults (BadChunk at)
      → FromChunks head before at had stream outcome
  waits : (at : ℕ) (had stream : List ℕ) (outcome : Outcome)
      → HasNoLine stream → ¬ (NeverHasLine stream) → outcome ≡ Short
      → FromChunks head before at had stream outcome

-- what the stream from the body on gives, which begins at this offset
abbrev pub FromBody : FinalHead → ℕ → Body → List ℕ → Outcome → Type 0
FromBody head at bodies.Empty rest outcome = outcome ≡ Gives (message head []) rest
FromBody head at (bodies.Sized need) rest outcome = outcome ≡ sized_body head [] need rest
FromBody head at bodies.Chunked rest outcome = FromChunks head at at [] rest outcome
FromBody head at bodies.ToEnd rest outcome = outcome ≡ open_body head [] rest

-- what is kept of a final head with this body
abbrev pub final_head : ResponseHead → Body → FinalHead
final_head h body = record {
  status = status_code h;
  fields = head_map h;
  persists = may_persist h.minor (head_map h) body;
}

-- the fault of a final head, whose last byte is the first past the limit or not: a coding and a length come before
-- that limit, which comes before the body's
abbrev pub fault_of : Bool → BodyFault → FrameFault
fault_of past body_faults.Coding = Coding
fault_of past body_faults.BadLength = BadLength
fault_of true body_faults.BodyLimit = HeadLimit
fault_of false body_faults.BodyLimit = BodyLimit

-- the fault of a head, interim or final, whose last byte is the first past the limit
abbrev pub past_fault : Bool → Result Body BodyFault → FrameFault
past_fault true decided = HeadLimit
past_fault false (Ok body) = HeadLimit
past_fault false (Err fault) = fault_of true fault

-- what follows a final head within the limit, by where its body ends
abbrev pub FromDecided : ResponseHead → ℕ → Result Body BodyFault → List ℕ → Outcome → Type 0
FromDecided h at (Ok body) rest outcome = FromBody (final_head h body) at body rest outcome
FromDecided h at (Err fault) rest outcome = outcome ≡ Faults (fault_of false fault)

abbrev pub FindsHead : ℕ → List ℕ → Verdict ResponseHead → Type 0
FindsHead = Finds ResponseHead IsResponseHead print_response

-- what the stream gives, by the verdict on its front, where that isn't an interim head within the limit
abbrev pub FromVerdict : Method → ℕ → Verdict ResponseHead → Outcome → Type 0
FromVerdict method before (Found h rest) outcome =
    (is_interim (status_code h) ≡ false)
    × FromDecided h (before + length (print_response h)) (body_of method (status_code h) (head_map h)) rest outcome
FromVerdict method before (FoundPast h) outcome =
    outcome ≡ Faults (past_fault (is_interim (status_code h)) (body_of method (status_code h) (head_map h)))
FromVerdict method before Refused outcome = outcome ≡ Faults (NotAReply before)
FromVerdict method before Overrun outcome = outcome ≡ Faults HeadLimit
FromVerdict method before Open outcome = outcome ≡ Short

-- What the stream from a head on gives, where so many bytes of interim heads came before: an interim head, and what
-- follows it, or whatever else is at the front.
pub data FromHeads (method : Method) : ℕ → List ℕ → Outcome → Type 0 where
  interim : (before : ℕ) (stream : List ℕ) (outcome : Outcome) (h : ResponseHead) (rest : List ℕ)
      → FindsHead before stream (Found h rest) → is_interim (status_code h) ≡ true
      → FromHeads method (before + length (print_response h)) rest outcome
      → FromHeads method before stream outcome
  other : (before : ℕ) (stream : List ℕ) (outcome : Outcome) (verdict : Verdict ResponseHead)
      → FindsHead before stream verdict → FromVerdict method before verdict outcome
      → FromHeads method before stream outcome

-- what the stream gives as the reply to a request of this method
abbrev pub Framing : Method → List ℕ → Outcome → Type 0
Framing method stream outcome = FromHeads method 0 stream outcome

-- the shortest front of the stream that no continuation makes a head has so many bytes
pub record IsShortestDead (stream : List ℕ) (size : ℕ) : Type 0 where
  pub inside : size ≤ length stream
  pub dead : NeverHasResponse (take size stream)
  pub first : (k : ℕ) → k < size → ¬ (NeverHasResponse (take k stream))

-- no chunk, and no line of a last chunk, is at the front of the bytes
pub record HasNoChunk (bytes : List ℕ) : Type 0 where
  pub chunk : (c : Chunk) (rest : List ℕ) → IsChunk c → ¬ (bytes ≡ chunk_and c rest)
  pub last : (line : ChunkLine) (rest : List ℕ) → IsSizeLine line → chunk_size line ≡ 0
      → ¬ (bytes ≡ print_chunk_line line ++ rest)

-- nor can one be with any bytes after them
abbrev pub NeverHasChunk : List ℕ → Type 0
NeverHasChunk bytes = (more : List ℕ) → HasNoChunk (bytes ++ more)
