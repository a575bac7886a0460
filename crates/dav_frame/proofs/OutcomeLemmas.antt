-- A stream gives one outcome.
use Rattle.std.proofs.Common.{◌≡◌, ℕ, ◌+◌, ◌<◌, ◌≤◌, true, false, List, [], ◌∷◌, ◌++◌, length, take, drop, refl, ap, sym, ◌∙◌, arith, subst, append_assoc, length-append, Option, Some, None, Result, Ok, Err, nat_lt}
use Rattle.std.proofs.lemmas.Bool.Decides.{nat_tests}
use Rattle.std.proofs.Math.Seq.{take-append_seam, drop-append_seam}
use Rattle.dav_text.specs.declared.method.Method.{Method}
use Rattle.httparse.specs.Grammar.{Field, LineEnd, ResponseHead, IsResponseHead, print_response, status_code, ChunkLine, print_chunk_line, chunk_size}
use Rattle.httparse.proofs.GrammarLemmas.{response_unique, section_unique}
use Rattle.httparse.proofs.ChunkLemmas.{chunk_line_unique}
use Rattle.dav_head.specs.Body.{body_of, is_interim}
use Rattle.dav_head.specs.Fields.{head_map}
use Rattle.dav_head.specs.Line.{IsSizeLine, HasNoLine, NeverHasLine}
use Rattle.dav_head.specs.declared.body.Body.{Body}
use Rattle.dav_head.specs.declared.body.Body.TheVariants as bodies
use Rattle.dav_head.specs.declared.body.BodyFault.{BodyFault}
use Rattle.dav_head.specs.declared.body.TheConstants.{BODY_LIMIT}
use Rattle.dav_frame.specs.Front.{Verdict, Found, FoundPast, Refused, Overrun, Open}
use Rattle.dav_frame.specs.Framing.{Outcome, Faults, Short, Trailers, AreTrailers, print_trailers, by_trailers, FromTrailers, Chunk, IsChunk, chunk_and, chunk_length, FromChunks, chunk, last, begun, bad, waits, unended, FromBody, FromDecided, FindsHead, FromVerdict, FromHeads, interim, other, Framing}
use Rattle.dav_frame.specs.declared.fault.FrameFault.TheVariants.{BadChunk}
use Rattle.dav_frame.specs.declared.phase.FinalHead.{FinalHead}
use Rattle.dav_frame.proofs.FrontLemmas.{IsUnique, finds_unique}

head_unique : IsUnique ResponseHead IsResponseHead print_response
head_unique s a b r q x y = response_unique s a b r q x y

same_trailers : (f g : List Field) (l k : LineEnd) → f ≡ g → l ≡ k
    → (let t : Trailers = record { fields = f; last = l } in t) ≡ record { fields = g; last = k }
same_trailers f g l k e d = rw (e, d) refl

trailers_unique : IsUnique Trailers AreTrailers print_trailers
trailers_unique s a b r q x y =
    let u = section_unique s a.fields b.fields a.last b.last r q x y in
    (same_trailers a.fields b.fields a.last b.last u.0 u.1, u.2)

pub from_trailers_unique : (head : FinalHead) (before at : ℕ) (had s : List ℕ) (o p : Outcome) → FromTrailers head before at had s o
    → FromTrailers head before at had s p → o ≡ p
from_trailers_unique head before at had s o p x y =
    let v = finds_unique Trailers AreTrailers print_trailers trailers_unique before s x.verdict y.verdict x.finds y.finds in
    x.is ∙ ap (by_trailers head at had) v ∙ sym y.is

-- ---- chunks

pub line_unique : (s : List ℕ) (l k : ChunkLine) (r q : List ℕ) → IsSizeLine l → IsSizeLine k → s ≡ print_chunk_line l ++ r → s ≡ print_chunk_line k ++ q
    → (l ≡ k) × (r ≡ q)
line_unique s l k r q x y e d = chunk_line_unique s l k r q (x.valid, e) (y.valid, d)

-- two splits of one text at one length
pub split_unique : (a b c d : List ℕ) → length a ≡ length c → a ++ b ≡ c ++ d → (a ≡ c) × (b ≡ d)
split_unique a b c d h e = (
  sym (take-append_seam a b) ∙ ap (λ n. take n (a ++ b)) h ∙ ap (λ s. take (length c) s) e ∙ take-append_seam c d,
  sym (drop-append_seam a b) ∙ ap (λ n. drop n (a ++ b)) h ∙ ap (λ s. drop (length c) s) e ∙ drop-append_seam c d,
)

same_chunk : (l k : ChunkLine) (a b : List ℕ) → l ≡ k → a ≡ b
    → (let c : Chunk = record { line = l; data_ = a } in c) ≡ record { line = k; data_ = b }
same_chunk l k a b e d = rw (e, d) refl

chunk_unique : (s : List ℕ) (c d : Chunk) (r q : List ℕ) → IsChunk c → IsChunk d → s ≡ chunk_and c r → s ≡ chunk_and d q → (c ≡ d) × (r ≡ q)
chunk_unique s c d r q x y e f =
    let u = line_unique s c.line d.line (c.data_ ++ 13 ∷ 10 ∷ r) (d.data_ ++ 13 ∷ 10 ∷ q) x.line y.line e f in
    let size : length c.data_ ≡ length d.data_ = x.size ∙ ap chunk_size u.0 ∙ sym y.size in
    let v = split_unique c.data_ (13 ∷ 10 ∷ r) d.data_ (13 ∷ 10 ∷ q) size u.1 in
    let tails : r ≡ q = ap (λ t. drop 2 t) v.1 in
    (same_chunk c.line d.line c.data_ d.data_ u.0 v.0, tails)

-- a whole chunk isn't one that is not whole
unended_none : (at had : ℕ) (data_ r : List ℕ) (size : ℕ) → length data_ ≡ size → had + length data_ ≤ BODY_LIMIT
    → unended at had size (data_ ++ 13 ∷ 10 ∷ r) ≡ None
unended_none at had data_ r size is fits =
    let p : nat_lt BODY_LIMIT (had + size) ≡ false = grind (arith, nat_tests) in
    let q : nat_lt (length (data_ ++ 13 ∷ 10 ∷ r)) size ≡ false = rw length-append (grind (arith, nat_tests)) in
    let d : drop size (data_ ++ 13 ∷ 10 ∷ r) ≡ 13 ∷ 10 ∷ r = ap (λ n. drop n (data_ ++ 13 ∷ 10 ∷ r)) (sym is) ∙ drop-append_seam data_ (13 ∷ 10 ∷ r) in
    rw (p, q, d) refl

none_is_some : {X : Type 0} (x : X) (v : Option X) → v ≡ None → v ≡ Some x → ⊥
none_is_some x v e d = cc

chunk_begun : (at : ℕ) (had s : List ℕ) (p : Outcome) (c : Chunk) (r : List ℕ) → IsChunk c → length had + length c.data_ ≤ BODY_LIMIT → s ≡ chunk_and c r
    → (l : ChunkLine) (q : List ℕ) → IsSizeLine l → s ≡ print_chunk_line l ++ q → unended at (length had) (chunk_size l) q ≡ Some p → ⊥
chunk_begun at had s p c r is fits e l q valid d un =
    let u = line_unique s c.line l (c.data_ ++ 13 ∷ 10 ∷ r) q is.line valid e d in
    let none : unended at (length had) (chunk_size l) q ≡ None =
    ap (λ t. unended at (length had) (chunk_size l) t) (sym u.1)
    ∙ unended_none at (length had) c.data_ r (chunk_size l) (is.size ∙ ap chunk_size u.0) fits in
    none_is_some p _ none un

two_sizes : (s : List ℕ) (l k : ChunkLine) (r q : List ℕ) → IsSizeLine l → IsSizeLine k → s ≡ print_chunk_line l ++ r → s ≡ print_chunk_line k ++ q
    → 0 < chunk_size l → chunk_size k ≡ 0 → ⊥
two_sizes s l k r q x y e d some zero = let u = line_unique s l k r q x y e d in omega (arith, some, zero, ap chunk_size u.0)

-- a stream with a front that no continuation makes a line has no line
dead_line : (s f q : List ℕ) → s ≡ f ++ q → NeverHasLine f → (l : ChunkLine) (r : List ℕ) → IsSizeLine l → s ≡ print_chunk_line l ++ r → ⊥
dead_line s f q e dead l r valid d = dead q l r valid (sym e ∙ d)

pub dead_line_longer : (s f q : List ℕ) → s ≡ f ++ q → NeverHasLine f → NeverHasLine s
dead_line_longer s f q e dead more l r valid d =
    dead (q ++ more) l r valid (sym (append_assoc f q more) ∙ ap (λ x. x ++ more) (sym e) ∙ d)

-- the other outcome, where the first one is of a whole chunk
chunk_or : (head : FinalHead) (before at : ℕ) (had s : List ℕ) (o p : Outcome) (c : Chunk) (r : List ℕ) → IsChunk c
    → length had + length c.data_ ≤ BODY_LIMIT → s ≡ chunk_and c r
    → (FromChunks head before (at + chunk_length c) (had ++ c.data_) r p → o ≡ p) → FromChunks head before at had s p → o ≡ p
chunk_or head before at had s o p c r is fits e later (chunk _ _ _ _ d q are fit f too) =
    let u = chunk_unique s c d r q is are e f in
    let P : Chunk → Type 0 = λ x. FromChunks head before (at + chunk_length x) (had ++ x.data_) q p in
    let Q : List ℕ → Type 0 = λ x. FromChunks head before (at + chunk_length c) (had ++ c.data_) x p in
    later (subst Q (sym u.1) (subst P (sym u.0) too))
chunk_or head before at had s o p c r is fits e later (last _ _ _ _ l q valid zero f too) =
    absurd (two_sizes s c.line l (c.data_ ++ 13 ∷ 10 ∷ r) q is.line valid e f is.some zero)
chunk_or head before at had s o p c r is fits e later (begun _ _ _ _ l q valid some f un) =
    absurd (chunk_begun at had s p c r is fits e l q valid f un)
chunk_or head before at had s o p c r is fits e later (bad _ _ _ _ f q d dead z) =
    absurd (dead_line s f q d dead c.line (c.data_ ++ 13 ∷ 10 ∷ r) is.line e)
chunk_or head before at had s o p c r is fits e later (waits _ _ _ _ none alive z) =
    absurd (none c.line (c.data_ ++ 13 ∷ 10 ∷ r) is.line e)

last_or : (head : FinalHead) (before at : ℕ) (had s : List ℕ) (o p : Outcome) (l : ChunkLine) (r : List ℕ) → IsSizeLine l
    → chunk_size l ≡ 0 → s ≡ print_chunk_line l ++ r → FromTrailers head before (at + length (print_chunk_line l)) had r o
    → FromChunks head before at had s p → o ≡ p
last_or head before at had s o p l r valid zero e from (chunk _ _ _ _ d q are fit f too) =
    absurd (two_sizes s d.line l (d.data_ ++ 13 ∷ 10 ∷ q) r are.line valid f e are.some zero)
last_or head before at had s o p l r valid zero e from (last _ _ _ _ k q valid_k zero_k f too) =
    let u = line_unique s l k r q valid valid_k e f in
    let P : ChunkLine → Type 0 = λ x. FromTrailers head before (at + length (print_chunk_line x)) had q p in
    let Q : List ℕ → Type 0 = λ x. FromTrailers head before (at + length (print_chunk_line l)) had x p in
    from_trailers_unique head before (at + length (print_chunk_line l)) had r o p from (subst Q (sym u.1) (subst P (sym u.0) too))
last_or head before at had s o p l r valid zero e from (begun _ _ _ _ k q valid_k some f un) =
    absurd (two_sizes s k l q r valid_k valid f e some zero)
last_or head before at had s o p l r valid zero e from (bad _ _ _ _ f q d dead z) = absurd (dead_line s f q d dead l r valid e)
last_or head before at had s o p l r valid zero e from (waits _ _ _ _ none alive z) = absurd (none l r valid e)

same_some : (o p : Outcome) (v w : Option Outcome) → v ≡ w → v ≡ Some o → w ≡ Some p → o ≡ p
same_some o p v w e x y = let s : Some o ≡ Some p = sym x ∙ e ∙ y in cc

begun_or : (head : FinalHead) (before at : ℕ) (had s : List ℕ) (o p : Outcome) (l : ChunkLine) (r : List ℕ) → IsSizeLine l
    → 0 < chunk_size l → s ≡ print_chunk_line l ++ r → unended at (length had) (chunk_size l) r ≡ Some o
    → FromChunks head before at had s p → o ≡ p
begun_or head before at had s o p l r valid some e un (chunk _ _ _ _ d q are fit f too) =
    absurd (chunk_begun at had s o d q are fit f l r valid e un)
begun_or head before at had s o p l r valid some e un (last _ _ _ _ k q valid_k zero f too) =
    absurd (two_sizes s l k r q valid valid_k e f some zero)
begun_or head before at had s o p l r valid some e un (begun _ _ _ _ k q valid_k some_k f too) =
    let u = line_unique s l k r q valid valid_k e f in
    same_some o p _ _ (ap (λ x. unended at (length had) (chunk_size x) r) u.0 ∙ ap (λ x. unended at (length had) (chunk_size k) x) u.1) un too
begun_or head before at had s o p l r valid some e un (bad _ _ _ _ f q d dead z) = absurd (dead_line s f q d dead l r valid e)
begun_or head before at had s o p l r valid some e un (waits _ _ _ _ none alive z) = absurd (none l r valid e)

bad_or : (head : FinalHead) (before at : ℕ) (had s : List ℕ) (o p : Outcome) (g r : List ℕ) → s ≡ g ++ r → NeverHasLine g
    → o ≡ Faults (BadChunk at) → FromChunks head before at had s p → o ≡ p
bad_or head before at had s o p g r e dead is (chunk _ _ _ _ d q are fit f too) =
    absurd (dead_line s g r e dead d.line (d.data_ ++ 13 ∷ 10 ∷ q) are.line f)
bad_or head before at had s o p g r e dead is (last _ _ _ _ k q valid zero f too) = absurd (dead_line s g r e dead k q valid f)
bad_or head before at had s o p g r e dead is (begun _ _ _ _ k q valid some f too) = absurd (dead_line s g r e dead k q valid f)
bad_or head before at had s o p g r e dead is (bad _ _ _ _ f q d dies z) = is ∙ sym z
bad_or head before at had s o p g r e dead is (waits _ _ _ _ none alive z) = absurd (alive (dead_line_longer s g r e dead))

waits_or : (head : FinalHead) (before at : ℕ) (had s : List ℕ) (o p : Outcome) → HasNoLine s → ¬ (NeverHasLine s)
    → o ≡ Short → FromChunks head before at had s p → o ≡ p
waits_or head before at had s o p none alive is (chunk _ _ _ _ d q are fit f too) = absurd (none d.line (d.data_ ++ 13 ∷ 10 ∷ q) are.line f)
waits_or head before at had s o p none alive is (last _ _ _ _ k q valid zero f too) = absurd (none k q valid f)
waits_or head before at had s o p none alive is (begun _ _ _ _ k q valid some f too) = absurd (none k q valid f)
waits_or head before at had s o p none alive is (bad _ _ _ _ f q d dies z) = absurd (alive (dead_line_longer s f q d dies))
waits_or head before at had s o p none alive is (waits _ _ _ _ hasnt lives z) = is ∙ sym z

pub chunks_unique : (head : FinalHead) (before at : ℕ) (had s : List ℕ) (o p : Outcome) → FromChunks head before at had s o → FromChunks head before at had s p → o ≡ p
chunks_unique head before at had s o p (chunk a h t w c r is fits e from) y =
    chunk_or head before a h t w p c r is fits e (λ too. chunks_unique head before (a + chunk_length c) (h ++ c.data_) r w p from too) y
chunks_unique head before at had s o p (last a h t w l r valid zero e from) y = last_or head before a h t w p l r valid zero e from y
chunks_unique head before at had s o p (begun a h t w l r valid some e un) y = begun_or head before a h t w p l r valid some e un y
chunks_unique head before at had s o p (bad a h t w f r e dead is) y = bad_or head before a h t w p f r e dead is y
chunks_unique head before at had s o p (waits a h t w none alive is) y = waits_or head before a h t w p none alive is y

-- ---- the body and the heads

body_unique : (head : FinalHead) (at : ℕ) (body : Body) (s : List ℕ) (o p : Outcome) → FromBody head at body s o → FromBody head at body s p → o ≡ p
body_unique head at bodies.Empty s o p x y = x ∙ sym y
body_unique head at (bodies.Sized need) s o p x y = x ∙ sym y
body_unique head at bodies.Chunked s o p x y = chunks_unique head at at [] s o p x y
body_unique head at bodies.ToEnd s o p x y = x ∙ sym y

decided_unique : (h : ResponseHead) (at : ℕ) (d : Result Body BodyFault) (s : List ℕ) (o p : Outcome) → FromDecided h at d s o → FromDecided h at d s p → o ≡ p
decided_unique h at (Ok body) s o p x y = body_unique _ at body s o p x y
decided_unique h at (Err fault) s o p x y = x ∙ sym y

verdict_unique : (method : Method) (before : ℕ) (v : Verdict ResponseHead) (o p : Outcome) → FromVerdict method before v o → FromVerdict method before v p → o ≡ p
verdict_unique method before (Found h rest) o p x y = decided_unique h _ (body_of method (status_code h) (head_map h)) rest o p x.1 y.1
verdict_unique method before (FoundPast h) o p x y = x ∙ sym y
verdict_unique method before Refused o p x y = x ∙ sym y
verdict_unique method before Overrun o p x y = x ∙ sym y
verdict_unique method before Open o p x y = x ∙ sym y

interim_final : (h k : ResponseHead) (r q : List ℕ) → Found h r ≡ Found k q → is_interim (status_code h) ≡ true → is_interim (status_code k) ≡ false → ⊥
interim_final h k r q e x y =
    let same : h ≡ k = cc in
    let t : true ≡ false = sym x ∙ ap (λ z. is_interim (status_code z)) same ∙ y in cc

interim_other : (method : Method) (before : ℕ) (h : ResponseHead) (r : List ℕ) (v : Verdict ResponseHead) (p : Outcome) → Found h r ≡ v
    → is_interim (status_code h) ≡ true → FromVerdict method before v p → ⊥
interim_other method before h r (Found k q) p e is from = interim_final h k r q e is from.0
interim_other method before h r (FoundPast k) p e is from = cc
interim_other method before h r Refused p e is from = cc
interim_other method before h r Overrun p e is from = cc
interim_other method before h r Open p e is from = cc

interim_or : (method : Method) (before : ℕ) (s : List ℕ) (o p : Outcome) (h : ResponseHead) (r : List ℕ) → FindsHead before s (Found h r)
    → is_interim (status_code h) ≡ true → (FromHeads method (before + length (print_response h)) r p → o ≡ p) → FromHeads method before s p → o ≡ p
interim_or method before s o p h r finds is later (interim _ _ _ k q finds_k is_k too) =
    let u = finds_unique ResponseHead IsResponseHead print_response head_unique before s (Found h r) (Found k q) finds finds_k in
    let heads : h ≡ k = cc in
    let rests : r ≡ q = cc in
    let P : ResponseHead → Type 0 = λ x. FromHeads method (before + length (print_response x)) q p in
    let Q : List ℕ → Type 0 = λ x. FromHeads method (before + length (print_response h)) x p in
    later (subst Q (sym rests) (subst P (sym heads) too))
interim_or method before s o p h r finds is later (other _ _ _ v finds_v too) =
    absurd (interim_other method before h r v p (finds_unique ResponseHead IsResponseHead print_response head_unique before s (Found h r) v finds finds_v) is too)

other_or : (method : Method) (before : ℕ) (s : List ℕ) (o p : Outcome) (v : Verdict ResponseHead) → FindsHead before s v → FromVerdict method before v o
    → FromHeads method before s p → o ≡ p
other_or method before s o p v finds from (interim _ _ _ k q finds_k is_k too) =
    absurd (interim_other method before k q v o (finds_unique ResponseHead IsResponseHead print_response head_unique before s (Found k q) v finds_k finds) is_k from)
other_or method before s o p v finds from (other _ _ _ w finds_w too) =
    let u = finds_unique ResponseHead IsResponseHead print_response head_unique before s w v finds_w finds in
    let P : Verdict ResponseHead → Type 0 = λ x. FromVerdict method before x p in
    verdict_unique method before v o p from (subst P u too)

pub heads_unique : (method : Method) (before : ℕ) (s : List ℕ) (o p : Outcome) → FromHeads method before s o → FromHeads method before s p → o ≡ p
heads_unique method before s o p (interim b t w h r finds is from) y =
    interim_or method b t w p h r finds is (λ too. heads_unique method (b + length (print_response h)) r w p from too) y
heads_unique method before s o p (other b t w v finds from) y = other_or method b t w p v finds from y

pub unique : (method : Method) (s : List ℕ) (o p : Outcome) → Framing method s o → Framing method s p → o ≡ p
unique method s o p x y = heads_unique method 0 s o p x y
