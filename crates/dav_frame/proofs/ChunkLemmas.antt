-- What each answer to a piece of a chunked body says of the stream.
use Rattle.std.proofs.Common.{◌≡◌, ◌≢◌, ℕ, ◌+◌, ◌-◌, ◌<◌, ◌≤◌, Bool, true, false, List, [], ◌∷◌, ◌++◌, length, take, drop, refl, ap, sym, ◌∙◌, arith, subst, append_assoc, length-append, append-nil, inl, inr, ◌&&◌, ◌==◌, None, nat_lt, get_or, codes, flat_map}
use Rattle.std.specs.Char.{is_ascii_hexdigit}
use Rattle.std.proofs.lemmas.List.Elements.{All-nil}
use Rattle.std.proofs.lemmas.List.Sums.{AllPass-from_list_all}
use Rattle.std.proofs.lemmas.Bool.Decides.{nat_tests}
use Rattle.std.proofs.lemmas.Grind.{common_steps}
use Rattle.std.proofs.lemmas.List.{take-append-drop}
use Rattle.std.proofs.Math.Seq.{drop-append_seam, drop-append-add}
use Rattle.httparse.specs.Grammar.{ChunkLine, print_chunk_line, chunk_size, print_extension, print_end, crlf, lf, Field, IsField, LineEnd, print_field, print_section, is_ows, HasNoSection, NeverHasSection, MayBecomeSection}
use Rattle.httparse.specs.Spans.{IsChunkLineAt}
use Rattle.dav_head.specs.Limit.{Keeps}
use Rattle.dav_head.specs.Line.{IsSizeLine, HasNoLine, NeverHasLine}
use Rattle.dav_head.specs.Trailers.{AreTrailers as AreTrailersAt}
use Rattle.dav_head.specs.declared.body.TheConstants.{BODY_LIMIT}
use Rattle.dav_frame.specs.Front.{Verdict, Refused, Overrun, HasNone, NeverHas, Finds}
use Rattle.dav_frame.specs.Framing.{Outcome, Faults, Trailers, AreTrailers, print_trailers, by_trailers, FromTrailers, FromChunks, chunk, last, begun, bad, unended}
use Rattle.dav_frame.specs.Reading.{FromData, part, ended, FromEnd, open_cr, open_lf, ended_cr, ended_lf, AfterLine}
use Rattle.dav_frame.specs.declared.fault.FrameFault.TheVariants.{BadChunk, HeadLimit, BodyLimit}
use Rattle.dav_frame.specs.declared.phase.Chunks.{Chunks}
use Rattle.dav_frame.specs.declared.phase.FinalHead.{FinalHead}
use Rattle.dav_frame.proofs.FrontLemmas.{refused_at, overrun_at, kept_all, Ends, ends_in, found_at, verdict_of}

-- ---- the size line

-- a line that ends within the piece
pub line_ends : (kept piece new : List ℕ) → new ≡ kept ++ piece → HasNoLine kept → (size used : ℕ) (l : ChunkLine) → IsSizeLine l
    → IsChunkLineAt new used size l → Ends ChunkLine IsSizeLine print_chunk_line kept piece l used
line_ends kept piece new is none size used l valid at =
    ends_in ChunkLine IsSizeLine print_chunk_line [] (sym is ∙ sym (append-nil new)) (λ k rest r. none k rest r.0 r.1) l used (valid, at.reads.1) at.len_is

pub line_bad : (head : FinalHead) (before at : ℕ) (had kept piece new : List ℕ) → new ≡ kept ++ piece → NeverHasLine new
    → (more : List ℕ) (o : Outcome) → o ≡ Faults (BadChunk at) → FromChunks head before at had (kept ++ (piece ++ more)) o
line_bad head before at had kept piece new is dead more o e =
    bad at had _ o new more (sym (append_assoc kept piece more) ∙ ap (λ s. s ++ more) (sym is)) dead e

pub line_open : (head : FinalHead) (before at : ℕ) (had kept piece new : List ℕ) → new ≡ kept ++ piece
    → (more : List ℕ) (o : Outcome) → FromChunks head before at had (new ++ (drop (length piece) piece ++ more)) o
    → FromChunks head before at had (kept ++ (piece ++ more)) o
line_open head before at had kept piece new is more o from =
    let none : drop (length piece) piece ≡ [] = grind (arith, common_steps) in
    let same : new ++ (drop (length piece) piece ++ more) ≡ kept ++ (piece ++ more) =
    ap (λ s. new ++ (s ++ more)) none ∙ ap (λ s. s ++ more) is ∙ append_assoc kept piece more in
    let P : List ℕ → Type 0 = λ s. FromChunks head before at had s o in subst P same from

line_then : (kept piece : List ℕ) (l : ChunkLine) (used : ℕ) → Ends ChunkLine IsSizeLine print_chunk_line kept piece l used → (more : List ℕ)
    → kept ++ (piece ++ more) ≡ print_chunk_line l ++ (drop (used - length kept) piece ++ more)
line_then kept piece l used ends more =
    sym (append_assoc kept piece more) ∙ ap (λ s. s ++ more) ends.reads ∙ append_assoc (print_chunk_line l) (drop (used - length kept) piece) more

chunk_from : (head : FinalHead) (before at : ℕ) (had s rest : List ℕ) (o : Outcome) (l : ChunkLine) (got : ℕ) → IsSizeLine l → 0 < chunk_size l
    → got ≡ at + length (print_chunk_line l) → s ≡ print_chunk_line l ++ rest → FromData head before at had got (chunk_size l) rest o
    → FromChunks head before at had s o
chunk_from head before at had s rest o l got valid some is split (part un) = begun at had s o l rest valid some split un
chunk_from head before at had s rest o l got valid some is split (ended data_ left size fits e from) =
    let N : ℕ → Type 0 = λ n. FromChunks head before n (had ++ data_) left o in
    let next : got + chunk_size l + 2 ≡ at + (length (print_chunk_line l) + (length data_ + 2)) = omega (arith, is, size) in
    chunk at had s o (record { line = l; data_ = data_ }) left (record { line = valid; some = some; size = size }) (omega (arith, size, fits))
    (split ∙ ap (λ t. print_chunk_line l ++ t) e) (subst N next from)

pub line_whole : (c : Chunks) (kept piece new : List ℕ) → new ≡ kept ++ piece → HasNoLine kept → (size used got : ℕ) (l : ChunkLine) → IsSizeLine l
    → IsChunkLineAt new used size l → got ≡ c.at + used → (more : List ℕ) (o : Outcome)
    → AfterLine c got size (drop (used - length kept) piece ++ more) o
    → FromChunks c.head c.before c.at c.body.items (kept ++ (piece ++ more)) o
line_whole c kept piece new is none size used got l valid at ends more o (inl (zero, from)) =
    let e = line_ends kept piece new is none size used l valid at in
    let N : ℕ → Type 0 = λ n. FromTrailers c.head c.before n c.body.items (drop (used - length kept) piece ++ more) o in
    last c.at c.body.items _ o l (drop (used - length kept) piece ++ more) valid (sym at.size_is ∙ zero)
    (line_then kept piece l used e more) (subst N (ends ∙ ap (λ n. c.at + n) at.len_is) from)
line_whole c kept piece new is none size used got l valid at ends more o (inr (some, from)) =
    let e = line_ends kept piece new is none size used l valid at in
    let D : ℕ → Type 0 = λ n. FromData c.head c.before c.at c.body.items got n (drop (used - length kept) piece ++ more) o in
    chunk_from c.head c.before c.at c.body.items _ (drop (used - length kept) piece ++ more) o l got valid (omega (arith, some, at.size_is))
    (ends ∙ ap (λ n. c.at + n) at.len_is) (line_then kept piece l used e more) (subst D at.size_is from)

-- ---- the data

-- what isn't whole isn't so after a part of the data either
unended_more : (at : ℕ) (had data_ s : List ℕ) (k : ℕ)
    → unended at (length (had ++ data_)) k s ≡ unended at (length had) (length data_ + k) (data_ ++ s)
unended_more at had data_ s k =
    let a : length (had ++ data_) + k ≡ length had + (length data_ + k) = omega (arith, length-append had data_) in
    let b : length (had ++ data_) + length s ≡ length had + length (data_ ++ s) = omega (arith, length-append had data_, length-append data_ s) in
    let t : nat_lt (length (data_ ++ s)) (length data_ + k) ≡ nat_lt (length s) k = rw length-append (grind (arith, nat_tests)) in
    let d : drop (length data_ + k) (data_ ++ s) ≡ drop k s = drop-append-add data_ s k in
    rw (a, b, t, d) refl

data_more_by : (head : FinalHead) (before at : ℕ) (had data_ s : List ℕ) (got k : ℕ) (o : Outcome)
    → FromData head before at (had ++ data_) (got + length data_) k s o → FromData head before at had got (length data_ + k) (data_ ++ s) o
data_more_by head before at had data_ s got k o (part un) = part (sym (unended_more at had data_ s k) ∙ un)
data_more_by head before at had data_ s got k o (ended d rest size fits e from) =
    let len = length-append had data_ in
    let N : ℕ → Type 0 = λ n. FromChunks head before n ((had ++ data_) ++ d) rest o in
    let next : got + length data_ + k + 2 ≡ got + (length data_ + k) + 2 = omega arith in
    let H : List ℕ → Type 0 = λ h. FromChunks head before (got + (length data_ + k) + 2) h rest o in
    ended (data_ ++ d) rest (omega (arith, length-append data_ d, size)) (omega (arith, len, fits))
    (ap (λ t. data_ ++ t) e ∙ sym (append_assoc data_ d (13 ∷ 10 ∷ rest)))
    (subst H (append_assoc had data_ d) (subst N next from))

-- the data goes on behind a piece
pub data_more : (head : FinalHead) (before at : ℕ) (had piece more : List ℕ) (got need : ℕ) (o : Outcome) → length piece < need
    → FromData head before at (had ++ piece) (got + length piece) (need - length piece) more o
    → FromData head before at had got need (piece ++ more) o
data_more head before at had piece more got need o h from =
    let e : length piece + (need - length piece) ≡ need = omega arith in
    let N : ℕ → Type 0 = λ n. FromData head before at had got n (piece ++ more) o in
    subst N e (data_more_by head before at had piece more got (need - length piece) o from)

-- the body passes its limit
pub data_over : (head : FinalHead) (before at : ℕ) (had s : List ℕ) (got need : ℕ) (o : Outcome) → BODY_LIMIT < length had + need
    → BODY_LIMIT < length had + length s → o ≡ Faults BodyLimit → FromData head before at had got need s o
data_over head before at had s got need o a b e =
    let p : nat_lt BODY_LIMIT (length had + need) ≡ true = grind (arith, nat_tests) in
    let q : nat_lt BODY_LIMIT (length had + length s) ≡ true = grind (arith, nat_tests) in
    part (rw (p, q, e) refl)

data_end_by : (head : FinalHead) (before at : ℕ) (had data_ s : List ℕ) (got : ℕ) (o : Outcome) → length had + length data_ ≤ BODY_LIMIT
    → FromEnd head before at (had ++ data_) (got + length data_) false s o
    → FromData head before at had got (length data_) (data_ ++ s) o
data_end_by head before at had data_ s got o fits (open_cr _ _ un) =
    let p : nat_lt BODY_LIMIT (length had + length data_) ≡ false = grind (arith, nat_tests) in
    let q : nat_lt (length (data_ ++ s)) (length data_) ≡ false = rw length-append (grind (arith, nat_tests)) in
    let d : drop (length data_) (data_ ++ s) ≡ s = drop-append_seam data_ s in
    part (rw (p, q, d) un)
data_end_by head before at had data_ s got o fits (ended_cr _ rest _ e from) =
    ended data_ rest refl fits (ap (λ t. data_ ++ t) e) from

-- the data ends with a piece
pub data_end : (head : FinalHead) (before at : ℕ) (had data_ s : List ℕ) (got need : ℕ) (o : Outcome) → length data_ ≡ need → length had + need ≤ BODY_LIMIT
    → FromEnd head before at (had ++ data_) (got + length data_) false s o
    → FromData head before at had got need (data_ ++ s) o
data_end head before at had data_ s got need o size fits from =
    let N : ℕ → Type 0 = λ n. FromData head before at had got n (data_ ++ s) o in
    subst N size (data_end_by head before at had data_ s got o (omega (arith, size, fits)) from)

-- a piece of which the front is the data, which isn't whole with it
pub in_data_more : (head : FinalHead) (before at : ℕ) (had new piece data_ more : List ℕ) (got now need left used : ℕ) (o : Outcome) → new ≡ had ++ data_
    → data_ ≡ take need piece → used ≡ length data_ → used < need → now ≡ got + used → left ≡ need - used
    → FromData head before at new now left (drop used piece ++ more) o → FromData head before at had got need (piece ++ more) o
in_data_more head before at had new piece data_ more got now need left used o is front size some counts wants from =
    let short_ : length (take need piece) < need = omega (arith, size, some, ap length front) in
    let all : take need piece ≡ piece = grind (arith, common_steps) in
    let same : data_ ≡ piece = front ∙ all in
    let len : used ≡ length piece = size ∙ ap length same in
    let none : drop used piece ≡ [] = grind (arith, common_steps) in
    let F : List ℕ → ℕ → ℕ → List ℕ → Type 0 = λ h n l s. FromData head before at h n l (s ++ more) o in
    let a : F (had ++ piece) now left (drop used piece) = let P : List ℕ → Type 0 = λ h. F h now left (drop used piece) in subst P (is ∙ ap (λ d. had ++ d) same) from in
    let b : F (had ++ piece) (got + length piece) left (drop used piece) = let P : ℕ → Type 0 = λ n. F (had ++ piece) n left (drop used piece) in subst P (counts ∙ ap (λ n. got + n) len) a in
    let d : F (had ++ piece) (got + length piece) (need - length piece) (drop used piece) = let P : ℕ → Type 0 = λ n. F (had ++ piece) (got + length piece) n (drop used piece) in subst P (wants ∙ ap (λ n. need - n) len) b in
    let e : F (had ++ piece) (got + length piece) (need - length piece) [] = let P : List ℕ → Type 0 = λ s. F (had ++ piece) (got + length piece) (need - length piece) s in subst P none d in
    data_more head before at had piece more got need o (omega (arith, len, some)) e

-- or is
pub in_data_end : (head : FinalHead) (before at : ℕ) (had new piece data_ more : List ℕ) (got now need used : ℕ) (o : Outcome) → new ≡ had ++ data_
    → data_ ≡ take need piece → used ≡ length data_ → need ≤ used → length had + length data_ ≤ BODY_LIMIT → now ≡ got + used
    → FromEnd head before at new now false (drop used piece ++ more) o → FromData head before at had got need (piece ++ more) o
in_data_end head before at had new piece data_ more got now need used o is front size all fits counts from =
    let len : length data_ ≡ need = grind (arith, common_steps) in
    let whole : piece ≡ data_ ++ drop used piece =
    sym (take-append-drop need piece) ∙ ap (λ s. s ++ drop need piece) (sym front) ∙ ap (λ n. data_ ++ drop n piece) (sym (size ∙ len)) in
    let a : FromEnd head before at (had ++ data_) now false (drop used piece ++ more) o = let P : List ℕ → Type 0 = λ h. FromEnd head before at h now false (drop used piece ++ more) o in subst P is from in
    let b : FromEnd head before at (had ++ data_) (got + length data_) false (drop used piece ++ more) o = let P : ℕ → Type 0 = λ n. FromEnd head before at (had ++ data_) n false (drop used piece ++ more) o in subst P (counts ∙ ap (λ n. got + n) size) a in
    let P : List ℕ → Type 0 = λ s. FromData head before at had got need s o in
    subst P (sym (ap (λ s. s ++ more) whole ∙ append_assoc data_ (drop used piece) more))
    (data_end head before at had data_ (drop used piece ++ more) got need o len (omega (arith, len, fits)) b)

-- ---- the CR LF behind the data

pub end_bad : (head : FinalHead) (before at : ℕ) (had s : List ℕ) (got b wanted : ℕ) (o : Outcome) (has_cr : Bool)
    → (has_cr ≡ false → wanted ≡ 13) → (has_cr ≡ true → wanted ≡ 10) → b ≢ wanted
    → o ≡ Faults (BadChunk at) → FromEnd head before at had got has_cr (b ∷ s) o
end_bad head before at had s got b wanted o false cr lf_ other e =
    let is : wanted ≡ 13 = cr refl in
    let t : (b == 13) ≡ false = grind (arith, nat_tests) in
    open_cr (b ∷ s) o (rw (t, e) refl)
end_bad head before at had s got b wanted o true cr lf_ other e =
    let is : wanted ≡ 10 = lf_ refl in
    let t : (b == 10) ≡ false = grind (arith, nat_tests) in
    open_lf (b ∷ s) o (rw (t, e) refl)

pub end_cr : (head : FinalHead) (before at : ℕ) (had s : List ℕ) (got : ℕ) (o : Outcome)
    → FromEnd head before at had (got + 1) true s o → FromEnd head before at had got false (13 ∷ s) o
end_cr head before at had s got o (open_lf _ _ un) = open_cr (13 ∷ s) o un
end_cr head before at had s got o (ended_lf _ rest _ e from) =
    let N : ℕ → Type 0 = λ n. FromChunks head before n had rest o in
    let next : got + 1 + 1 ≡ got + 2 = omega arith in
    ended_cr (13 ∷ s) rest o (ap (λ t. 13 ∷ t) e) (subst N next from)

pub end_lf : (head : FinalHead) (before at : ℕ) (had s : List ℕ) (got : ℕ) (o : Outcome)
    → FromChunks head before (got + 1) had s o → FromEnd head before at had got true (10 ∷ s) o
end_lf head before at had s got o from = ended_lf (10 ∷ s) s o refl from

pub first_byte : (piece : List ℕ) → 0 < length piece → piece ≡ get_or piece 0 0 ∷ drop 1 piece
first_byte [] some = absurd (omega (arith, some))
first_byte (b ∷ s) some = refl

-- ---- no bytes

pub line_end : (l : ChunkLine) → 2 ≤ length (print_chunk_line l)
unfolding print_chunk_line
line_end l = omega (arith, length-append (l.digits ++ l.pad ++ print_extension l.extension) (print_end crlf))

-- no line is empty
pub none_is_no_line : HasNoLine []
none_is_no_line l rest valid e = omega (arith, ap length e, length-append (print_chunk_line l) rest, line_end l)

abbrev last_line : ChunkLine
last_line = record { digits = codes "0"; pad = []; extension = None }

-- but the empty text is the front of one
pub none_is_line_front : NeverHasLine [] → ⊥
unfolding print_chunk_line
none_is_line_front dead =
    dead (codes "0\r\n") last_line [] (
    record {
      valid = record {
        digits = (omega arith, omega arith, AllPass-from_list_all is_ascii_hexdigit (codes "0") refl);
        pad = AllPass-from_list_all is_ows [] refl;
        extension = tt;
      };
      few = omega arith;
      fits = omega arith;
    }
    ) refl

section_end : (t : LineEnd) (fields : List Field) → 1 ≤ length (print_section fields t)
section_end crlf fields = omega (arith, length-append (flat_map print_field fields) (print_end crlf))
section_end lf fields = omega (arith, length-append (flat_map print_field fields) (print_end lf))

-- no trailers are empty
pub none_is_no_section : HasNoSection []
none_is_no_section fields t rest reads = omega (arith, ap length reads.1, length-append (print_section fields t) rest, section_end t fields)

pub none_is_section_front : NeverHasSection [] → ⊥
none_is_section_front dead = dead (codes "\n") [] lf [] (All-nil IsField, refl)

-- ---- the trailers

none_there : (s : List ℕ) → HasNoSection s → HasNone Trailers AreTrailers print_trailers s
none_there s none t rest r = none t.fields t.last rest r

never_there : (s : List ℕ) → NeverHasSection s → NeverHas Trailers AreTrailers print_trailers s
never_there s dead more t rest r = dead more t.fields t.last rest r

may_be_there : (s : List ℕ) → MayBecomeSection s → NeverHas Trailers AreTrailers print_trailers s → ⊥
may_be_there s (more, fields, end, reads) dead = dead more (record { fields = fields; last = end }) [] reads

pub section_alive : (s : List ℕ) → MayBecomeSection s → NeverHasSection s → ⊥
section_alive s (more, fields, end, reads) dead = dead more fields end [] reads

trailers_as : (head : FinalHead) (before at : ℕ) (had s : List ℕ) (o : Outcome) (v : Verdict Trailers) → Finds Trailers AreTrailers print_trailers before s v
    → o ≡ by_trailers head at had v → FromTrailers head before at had s o
trailers_as head before at had s o v finds e = record { verdict = v; finds = finds; is = e }

pub trailers_never : (head : FinalHead) (at : ℕ) (had : List ℕ) {before : ℕ} {old piece new : List ℕ} {flag : Bool} → Keeps before old piece new flag → NeverHasSection new
    → (more : List ℕ) (o : Outcome) → o ≡ Faults (BadChunk at) → FromTrailers head before at had (old ++ (piece ++ more)) o
trailers_never head at had {before} {old} {piece} {new} k dead more o e =
    trailers_as head before at had _ o Refused (refused_at Trailers AreTrailers print_trailers k (never_there new dead) more) e

pub trailers_limit : (head : FinalHead) (at : ℕ) (had : List ℕ) {before : ℕ} {old piece new : List ℕ} → Keeps before old piece new true → HasNoSection new → MayBecomeSection new
    → (more : List ℕ) (o : Outcome) → o ≡ Faults HeadLimit → FromTrailers head before at had (old ++ (piece ++ more)) o
trailers_limit head at had {before} {old} {piece} {new} k none may more o e =
    trailers_as head before at had _ o Overrun (overrun_at Trailers AreTrailers print_trailers k (none_there new none) (may_be_there new may) more) e

pub trailers_open : (head : FinalHead) (at : ℕ) (had : List ℕ) {before : ℕ} {old piece new : List ℕ} → Keeps before old piece new false
    → (more : List ℕ) (o : Outcome) → FromTrailers head before at had (new ++ (drop (length piece) piece ++ more)) o
    → FromTrailers head before at had (old ++ (piece ++ more)) o
trailers_open head at had {before} k more o from =
    let P : List ℕ → Type 0 = λ s. FromTrailers head before at had s o in subst P (sym (kept_all k more)) from

trailers_text : {s : List ℕ} {used : ℕ} → AreTrailersAt s used → Trailers
trailers_text at = record { fields = at.fields; last = at.last }

pub trailers_end : {before : ℕ} {old piece new : List ℕ} {flag : Bool} → Keeps before old piece new flag → HasNoSection old → {used : ℕ} → (at : AreTrailersAt new used)
    → Ends Trailers AreTrailers print_trailers old piece (record { fields = at.fields; last = at.last }) used
trailers_end {before} {old} {piece} {new} k none {used} at =
    ends_in Trailers AreTrailers print_trailers k.left k.split (none_there old none) (record { fields = at.fields; last = at.last }) used at.reads at.size

pub trailers_whole : (head : FinalHead) (offset : ℕ) (had : List ℕ) {before : ℕ} {old piece new : List ℕ} (passed : Bool) → Keeps before old piece new passed → HasNoSection old
    → (used : ℕ) → AreTrailersAt new used → (flag : Bool) → flag ≡ (passed && (used == length new)) → (more : List ℕ) (o : Outcome)
    → o ≡ by_trailers head offset had (verdict_of flag (record { fields = []; last = lf }) (drop (used - length old) piece ++ more))
    → FromTrailers head before offset had (old ++ (piece ++ more)) o
trailers_whole head offset had {before} {old} {piece} {new} passed k none used at true flag_is more o e =
    trailers_as head before offset had _ o _
    (found_at Trailers AreTrailers print_trailers passed k (none_there old none) (record { fields = at.fields; last = at.last }) used at.reads at.size at.inside true flag_is more) e
trailers_whole head offset had {before} {old} {piece} {new} passed k none used at false flag_is more o e =
    trailers_as head before offset had _ o _
    (found_at Trailers AreTrailers print_trailers passed k (none_there old none) (record { fields = at.fields; last = at.last }) used at.reads at.size at.inside false flag_is more) e
