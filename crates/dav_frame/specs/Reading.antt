-- What the rest of a stream gives, from a phase of the reader on.
use Rattle.std.specs.Prelude.{◌≡◌, ◌≢◌, ◌⊎◌, ℕ, ◌+◌, ◌*◌, ◌<◌, ◌≤◌, ◌&&◌, Bool, true, false, List, [], ◌∷◌, ◌++◌, length, Some, Result, Ok, Err}
use Rattle.httparse.specs.Grammar.{ResponseHead, print_response, status_code, HasNoResponse, NeverHasResponse, HasNoSection, NeverHasSection}
use Rattle.dav_text.specs.declared.method.Method.{Method}
use Rattle.dav_head.specs.Limit.{IsWithin}
use Rattle.dav_head.specs.Line.{HasNoLine, NeverHasLine}
use Rattle.dav_head.specs.Body.{body_of, is_interim}
use Rattle.dav_head.specs.Fields.{head_map}
use Rattle.dav_head.specs.declared.body.TheConstants.{BODY_LIMIT}
use Rattle.dav_frame.specs.Framing.{Message, message, Outcome, Gives, Closes, Faults, Short, Framing, FromHeads, FromDecided, FromChunks, FromTrailers, sized_body, open_body, unended, ending, ending_lf, past_fault}
use Rattle.dav_frame.specs.declared.fault.FrameFault.{FrameFault}
use Rattle.dav_frame.specs.declared.fault.FrameFault.TheVariants.{Cut, Memory}
use Rattle.dav_frame.specs.declared.phase.Chunks.{Chunks}
use Rattle.dav_frame.specs.declared.phase.FinalHead.{FinalHead}
use Rattle.dav_frame.specs.declared.phase.Phase.{Phase}
use Rattle.dav_frame.specs.declared.phase.Phase.TheVariants.{AtHead, InBody, ToEnd, AtLine, InData, AfterData, AtTrailers, Whole, Failed}
use Rattle.dav_frame.specs.declared.reader.Reply.{Reply}

-- what the rest gives after a fault: of the stream itself nothing is known after want of memory
abbrev pub AfterFault : FrameFault → Outcome → Type 0
AfterFault fault outcome = (fault ≢ Memory) × (outcome ≡ Faults fault)

-- What the rest gives from the data of a chunk on, which begins at the offset `at`, behind the body so far and after
-- so many bytes of the reply: its need bytes and CR LF aren't whole, or the next chunk follows.
pub data FromData (head : FinalHead) (before at : ℕ) (had : List ℕ) (got need : ℕ) (stream : List ℕ) (outcome : Outcome) : Type 0 where
  part : unended at (length had) need stream ≡ Some outcome → FromData head before at had got need stream outcome
  ended : (data_ rest : List ℕ) → length data_ ≡ need → length had + need ≤ BODY_LIMIT
      → stream ≡ data_ ++ 13 ∷ 10 ∷ rest
      → FromChunks head before (got + need + 2) (had ++ data_) rest outcome
      → FromData head before at had got need stream outcome

-- the same from behind the data on, where the CR has come or not
pub data FromEnd (head : FinalHead) (before at : ℕ) (had : List ℕ) (got : ℕ) : Bool → List ℕ → Outcome → Type 0 where
  open_cr : (stream : List ℕ) (outcome : Outcome) → ending at stream ≡ Some outcome
      → FromEnd head before at had got false stream outcome
  open_lf : (stream : List ℕ) (outcome : Outcome) → ending_lf at stream ≡ Some outcome
      → FromEnd head before at had got true stream outcome
  ended_cr : (stream rest : List ℕ) (outcome : Outcome) → stream ≡ 13 ∷ 10 ∷ rest
      → FromChunks head before (got + 2) had rest outcome
      → FromEnd head before at had got false stream outcome
  ended_lf : (stream rest : List ℕ) (outcome : Outcome) → stream ≡ 10 ∷ rest
      → FromChunks head before (got + 1) had rest outcome
      → FromEnd head before at had got true stream outcome

-- what the rest of the stream gives from this phase on
abbrev pub FromPhase : Phase → List ℕ → Outcome → Type 0
FromPhase (AtHead method before kept) rest outcome = FromHeads method before (kept.items ++ rest) outcome
FromPhase (InBody head at body need) rest outcome = outcome ≡ sized_body head body.items need rest
FromPhase (ToEnd head at body) rest outcome = outcome ≡ open_body head body.items rest
FromPhase (AtLine c kept) rest outcome =
    FromChunks c.head c.before c.at c.body.items (kept.items ++ rest) outcome
FromPhase (InData c got need) rest outcome =
    FromData c.head c.before c.at c.body.items got need rest outcome
FromPhase (AfterData c got has_cr) rest outcome =
    FromEnd c.head c.before c.at c.body.items got has_cr rest outcome
FromPhase (AtTrailers c kept) rest outcome =
    FromTrailers c.head c.before c.at c.body.items (kept.items ++ rest) outcome
FromPhase (Whole head body alone) rest outcome = outcome ≡ Gives (message head body.items) rest
FromPhase (Failed fault) rest outcome = AfterFault fault outcome

-- the piece leads from one phase to the next, and leaves the bytes left
abbrev pub Leads : Phase → List ℕ → Phase → List ℕ → Type 0
Leads old piece new left =
    (more : List ℕ) (outcome : Outcome) → FromPhase new (left ++ more) outcome
    → FromPhase old (piece ++ more) outcome

-- the phase is where these bytes of a stream lead
abbrev pub Continues : Method → List ℕ → Phase → Type 0
Continues method got phase =
    (more : List ℕ) (outcome : Outcome) → FromPhase phase more outcome
    → Framing method (got ++ more) outcome

-- the bytes up to this offset are not many more than those of the body: each chunk has some
abbrev pub IsCounted : ℕ → List ℕ → Type 0
IsCounted at body = (at ≤ 65537 + 4100 * length body) × (length body ≤ BODY_LIMIT)

-- so many bytes of the end of a chunk are still to come
abbrev pub end_left : Bool → ℕ
end_left false = 2
end_left true = 1

-- what is known of each phase: nothing is decided while the reader waits for more
abbrev pub IsSound : Phase → Type 0
IsSound (AtHead method before kept) =
    HasNoResponse kept.items × (¬ (NeverHasResponse kept.items)) × IsWithin before kept.items
    × (before + length kept.items ≤ 65536)
IsSound (InBody head at body need) =
    (0 < need) × (at ≤ 65536) × (length body.items + need ≤ BODY_LIMIT)
IsSound (ToEnd head at body) = (at ≤ 65536) × (length body.items ≤ BODY_LIMIT)
IsSound (AtLine c kept) =
    HasNoLine kept.items × (¬ (NeverHasLine kept.items)) × (c.before ≤ 65536) × IsCounted c.at c.body.items
IsSound (InData c got need) =
    (0 < need) × (c.before ≤ 65536) × (got + 3 ≤ 65537 + 4100 * (length c.body.items + 1))
    × (length c.body.items ≤ BODY_LIMIT)
IsSound (AfterData c got has_cr) = (c.before ≤ 65536) × IsCounted (got + end_left has_cr) c.body.items
IsSound (AtTrailers c kept) =
    HasNoSection kept.items × (¬ (NeverHasSection kept.items)) × IsWithin c.before kept.items
    × (c.before + length kept.items ≤ 65536) × (c.at ≤ 69640 + 4100 * length c.body.items)
    × (length c.body.items ≤ BODY_LIMIT)
IsSound (Whole head body alone) = Unit {0}
IsSound (Failed fault) = Unit {0}

-- the reply is whole
abbrev pub IsWhole : Phase → Type 0
IsWhole (Whole head body alone) = Unit {0}
IsWhole phase = ⊥

-- the body ends with the connection
abbrev pub IsToEnd : Phase → Type 0
IsToEnd (ToEnd head at body) = Unit {0}
IsToEnd phase = ⊥

-- the reader waits for more bytes
abbrev pub IsReading : Phase → Type 0
IsReading (Whole head body alone) = ⊥
IsReading (Failed fault) = ⊥
IsReading phase = Unit {0}

-- nothing but the connection's end was seen behind the reply, in the piece in which it ended
abbrev pub is_alone : Phase → Bool
is_alone (Whole head body alone) = alone
is_alone phase = false

-- the bytes so far are no reply, or are one if the connection ends here
abbrev pub Waits : Phase → Type 0
Waits phase = FromPhase phase [] Short ⊎ ((m : Message) × FromPhase phase [] (Closes m))

-- the reply with this message
abbrev pub reply_of : Message → Bool → Reply
reply_of m alone = record {
  status = m.head.status;
  fields = m.head.fields;
  body = m.body;
  reusable = m.head.persists && alone;
}

-- how many bytes of the reply have been read, and 0 once it is whole or has failed
abbrev pub bytes_read : Phase → ℕ
bytes_read (AtHead method before kept) = before + length kept.items
bytes_read (InBody head at body need) = at + length body.items
bytes_read (ToEnd head at body) = at + length body.items
bytes_read (AtLine c kept) = c.at + length kept.items
bytes_read (InData c got need) = got
bytes_read (AfterData c got has_cr) = got
bytes_read (AtTrailers c kept) = c.at + length kept.items
bytes_read (Whole head body alone) = 0
bytes_read (Failed fault) = 0

-- the answer at the end of the stream, behind a whole reply
abbrev pub IsWholeEnd : Phase → Result Reply FrameFault → Type 0
IsWholeEnd phase result =
    (m : Message) × (result ≡ Ok (reply_of m (is_alone phase)))
    × ((rest : List ℕ) → FromPhase phase rest (Gives m rest))

-- and where the reader waits for more bytes: the reply that the end closes, or how many bytes there were of one
abbrev pub IsReadingEnd : Phase → Result Reply FrameFault → Type 0
IsReadingEnd phase result =
    ((m : Message) × (result ≡ Ok (reply_of m false)) × FromPhase phase [] (Closes m))
    ⊎ ((result ≡ Err (Cut (bytes_read phase))) × FromPhase phase [] Short)

-- unless the step ends the reply, it has read so many bytes more
abbrev pub Counts : ℕ → ℕ → Phase → Type 0
Counts before used phase = IsReading phase → bytes_read phase ≡ before + used

-- what follows a head, whose last byte is the first past the limit or not, and which is an interim one or not
abbrev pub AfterHead : Method → ℕ → ResponseHead → Bool → Bool → List ℕ → Outcome → Type 0
AfterHead method before h true interim rest outcome =
    outcome ≡ Faults (past_fault interim (body_of method (status_code h) (head_map h)))
AfterHead method before h false true rest outcome =
    FromHeads method (before + length (print_response h)) rest outcome
AfterHead method before h false false rest outcome =
    FromDecided h (before + length (print_response h)) (body_of method (status_code h) (head_map h)) rest outcome

-- the phase leads where the head does
abbrev pub Begins : Method → ℕ → ResponseHead → Bool → Phase → Type 0
Begins method before h past phase =
    (rest : List ℕ) (outcome : Outcome) → FromPhase phase rest outcome
    → AfterHead method before h past (is_interim (status_code h)) rest outcome

-- what the rest gives behind the size line of a chunk, which begins at the offset `at` and ends at `got`: of the last
-- chunk, or of one with data
abbrev pub AfterLine : Chunks → ℕ → ℕ → List ℕ → Outcome → Type 0
AfterLine c got size rest outcome =
    ((size ≡ 0) × FromTrailers c.head c.before got c.body.items rest outcome)
    ⊎ ((0 < size) × FromData c.head c.before c.at c.body.items got size rest outcome)
