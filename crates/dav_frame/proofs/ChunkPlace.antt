-- A stream from a chunk on has the fault of that chunk exactly where no continuation makes a chunk of it.
use Rattle.std.proofs.Common.{◌≡◌, ◌≢◌, ℕ, ◌+◌, ◌-◌, ◌<◌, ◌≤◌, ◌↔◌, Bool, true, false, List, [], ◌∷◌, ◌++◌, length, take, drop, refl, ap, sym, ◌∙◌, arith, subst, append_assoc, append-nil, length-append, inl, inr, ◌⊎◌, ◌==◌, ◌&&◌, Some, None, nat_lt, zero, suc}
use Rattle.std.proofs.lemmas.Bool.Decides.{nat_tests}
use Rattle.std.proofs.lemmas.Bool.{cases_lt}
use Rattle.std.proofs.lemmas.Grind.{common_steps}
use Rattle.std.proofs.lemmas.List.{take-append-drop, drop-append-le}
use Rattle.std.proofs.Math.Seq.{drop-append_seam}
use Rattle.httparse.specs.Grammar.{ChunkLine, print_chunk_line, chunk_size}
use Rattle.dav_head.specs.Line.{IsSizeLine, HasNoLine}
use Rattle.dav_head.specs.declared.body.TheConstants.{BODY_LIMIT}
use Rattle.dav_frame.specs.Front.{Verdict, Found, FoundPast, Refused, Overrun, Open}
use Rattle.dav_frame.specs.Framing.{Outcome, Faults, Short, Trailers, by_trailers, Chunk, IsChunk, chunk_and, chunk_length, FromChunks, chunk, last, begun, bad, waits, unended, ending, ending_lf, NeverHasChunk}
use Rattle.dav_frame.specs.declared.fault.FrameFault.TheVariants.{BadChunk, BodyLimit}
use Rattle.dav_frame.specs.declared.phase.FinalHead.{FinalHead}
use Rattle.dav_frame.proofs.FrontLemmas.{front_of}
use Rattle.dav_frame.proofs.ChunkLemmas.{line_end}
use Rattle.dav_frame.proofs.OutcomeLemmas.{line_unique, dead_line_longer}

-- ---- what an unended chunk may be

-- the data is not whole, or what is behind it is not CR LF or a beginning of it
data Rest (at had need : ℕ) (rest : List ℕ) (o : Outcome) : Type 0 where
  over : o ≡ Faults BodyLimit → Rest at had need rest o
  part : length rest < need → o ≡ Short → Rest at had need rest o
  data_ : need ≤ length rest → ending at (drop need rest) ≡ Some o → Rest at had need rest o

some_is : (o p : Outcome) → Some o ≡ Some p → p ≡ o
some_is o p e = cc

rest_by : (at had need : ℕ) (rest : List ℕ) (o : Outcome) (a b : Bool) → (nat_lt BODY_LIMIT (had + need) && nat_lt BODY_LIMIT (had + length rest)) ≡ a
    → nat_lt (length rest) need ≡ b → unended at had need rest ≡ Some o → Rest at had need rest o
rest_by at had need rest o true b x y un = over (some_is (Faults BodyLimit) o (rw x at un))
rest_by at had need rest o false true x y un = part (grind (arith, nat_tests)) (some_is Short o (rw (x, y) at un))
rest_by at had need rest o false false x y un = data_ (grind (arith, nat_tests)) (rw (x, y) at un)

rest_of : (at had need : ℕ) (rest : List ℕ) (o : Outcome) → unended at had need rest ≡ Some o → Rest at had need rest o
rest_of at had need rest o un = rest_by at had need rest o _ _ refl refl un

-- the end of a chunk: it may come yet, or a byte is another one
data End (at : ℕ) (s : List ℕ) (o : Outcome) : Type 0 where
  comes : (more : List ℕ) → s ≡ more → ((more ≡ []) ⊎ (more ≡ 13 ∷ [])) → o ≡ Short → End at s o
  other : ((r more : List ℕ) → ¬ (s ++ more ≡ 13 ∷ 10 ∷ r)) → o ≡ Faults (BadChunk at) → End at s o

end_lf_by : (at b : ℕ) (s : List ℕ) (o : Outcome) (t : Bool) → (b == 10) ≡ t → ending_lf at (b ∷ s) ≡ Some o → End at (13 ∷ b ∷ s) o
end_lf_by at b s o true is e = absurd (let n : None ≡ Some o = rw is at e in (let z : ⊥ = cc in z))
end_lf_by at b s o false is e =
    let not_lf : b ≢ 10 = λ same. (let t : (b == 10) ≡ true = grind (arith, nat_tests) in let z : true ≡ false = sym t ∙ is in (let y : ⊥ = cc in y)) in
    other (λ r more same. not_lf (let h : b ∷ (s ++ more) ≡ 10 ∷ r = ap (λ x. drop 1 x) same in cc)) (some_is (Faults (BadChunk at)) o (rw is at e))

end_cr_by : (at b : ℕ) (s : List ℕ) (o : Outcome) (t : Bool) → (b == 13) ≡ t → ending at (b ∷ s) ≡ Some o → End at (b ∷ s) o
end_cr_by at b s o false is e =
    let not_cr : b ≢ 13 = λ same. (let t : (b == 13) ≡ true = grind (arith, nat_tests) in let z : true ≡ false = sym t ∙ is in (let y : ⊥ = cc in y)) in
    other (λ r more same. not_cr cc) (some_is (Faults (BadChunk at)) o (rw is at e))
end_cr_by at b [] o true is e =
    let same : b ≡ 13 = grind (arith, nat_tests) in
    comes (b ∷ []) refl (inr (ap (λ x. x ∷ []) same)) (some_is Short o (rw is at e))
end_cr_by at b (c ∷ s) o true is e =
    let same : b ≡ 13 = grind (arith, nat_tests) in
    let P : ℕ → Type 0 = λ x. End at (x ∷ c ∷ s) o in
    subst P (sym same) (end_lf_by at c s o _ refl (rw is at e))

end_of : (at : ℕ) (s : List ℕ) (o : Outcome) → ending at s ≡ Some o → End at s o
end_of at [] o e = comes [] refl (inl refl) (some_is Short o e)
end_of at (b ∷ s) o e = end_cr_by at b s o _ refl e

-- ---- no continuation makes a chunk

begun_chunk : (s : List ℕ) (l : ChunkLine) (rest bytes_ more r : List ℕ) → IsSizeLine l → 0 < chunk_size l → s ≡ print_chunk_line l ++ rest
    → length bytes_ ≡ chunk_size l → rest ++ more ≡ bytes_ ++ 13 ∷ 10 ∷ r → NeverHasChunk s → ⊥
begun_chunk s l rest bytes_ more r valid some e size is never =
    (never more).chunk (record { line = l; data_ = bytes_ }) r (record { line = valid; some = some; size = size })
    (ap (λ x. x ++ more) e ∙ append_assoc (print_chunk_line l) rest more ∙ ap (λ x. print_chunk_line l ++ x) is)

-- so many bytes
zeros : ℕ → List ℕ
zeros zero = []
zeros (suc n) = 0 ∷ zeros n

length-zeros : (n : ℕ) → length (zeros n) ≡ n
unfolding zeros
length-zeros zero = refl
length-zeros (suc n) = ap (λ k. suc k) (length-zeros n)

-- a whole line and bytes_ that isn't whole have a continuation
part_never : (s : List ℕ) (l : ChunkLine) (rest : List ℕ) → IsSizeLine l → 0 < chunk_size l → s ≡ print_chunk_line l ++ rest
    → length rest < chunk_size l → NeverHasChunk s → ⊥
part_never s l rest valid some e short_ never =
    let fill = zeros (chunk_size l - length rest) in
    let size : length (rest ++ fill) ≡ chunk_size l = omega (arith, length-append rest fill, length-zeros (chunk_size l - length rest)) in
    begun_chunk s l rest (rest ++ fill) (fill ++ 13 ∷ 10 ∷ []) [] valid some e size (sym (append_assoc rest fill (13 ∷ 10 ∷ []))) never

-- so have whole bytes_ and a beginning of CR LF
comes_never : (s : List ℕ) (l : ChunkLine) (rest more : List ℕ) → IsSizeLine l → 0 < chunk_size l → s ≡ print_chunk_line l ++ rest
    → chunk_size l ≤ length rest → drop (chunk_size l) rest ≡ more → ((more ≡ []) ⊎ (more ≡ 13 ∷ [])) → NeverHasChunk s → ⊥
comes_never s l rest more valid some e enough is (inl none) never =
    let n = chunk_size l in
    let bytes_ = take n rest in
    let size : length bytes_ ≡ n = grind (arith, common_steps) in
    let all : rest ≡ bytes_ = sym (take-append-drop n rest) ∙ ap (λ x. bytes_ ++ x) (is ∙ none) ∙ append-nil bytes_ in
    begun_chunk s l rest bytes_ (13 ∷ 10 ∷ []) [] valid some e size (ap (λ x. x ++ 13 ∷ 10 ∷ []) all) never
comes_never s l rest more valid some e enough is (inr half) never =
    let n = chunk_size l in
    let bytes_ = take n rest in
    let size : length bytes_ ≡ n = grind (arith, common_steps) in
    let all : rest ≡ bytes_ ++ 13 ∷ [] = sym (take-append-drop n rest) ∙ ap (λ x. bytes_ ++ x) (is ∙ half) in
    begun_chunk s l rest bytes_ (10 ∷ []) [] valid some e size (ap (λ x. x ++ 10 ∷ []) all ∙ append_assoc bytes_ (13 ∷ []) (10 ∷ [])) never

end_bad : (at : ℕ) (s : List ℕ) (l : ChunkLine) (rest : List ℕ) (o : Outcome) → IsSizeLine l → 0 < chunk_size l → s ≡ print_chunk_line l ++ rest
    → chunk_size l ≤ length rest → End at (drop (chunk_size l) rest) o → NeverHasChunk s → o ≡ Faults (BadChunk at)
end_bad at s l rest o valid some e enough (comes more is half z) never = absurd (comes_never s l rest more valid some e enough is half never)
end_bad at s l rest o valid some e enough (other differs z) never = z

rest_bad : (at had : ℕ) (s : List ℕ) (l : ChunkLine) (rest : List ℕ) (o : Outcome) → IsSizeLine l → 0 < chunk_size l → s ≡ print_chunk_line l ++ rest
    → Rest at had (chunk_size l) rest o → (o ≡ Faults BodyLimit → ⊥) → NeverHasChunk s → o ≡ Faults (BadChunk at)
rest_bad at had s l rest o valid some e (over z) fits never = absurd (fits z)
rest_bad at had s l rest o valid some e (part short_ z) fits never = absurd (part_never s l rest valid some e short_ never)
rest_bad at had s l rest o valid some e (data_ enough end) fits never = end_bad at s l rest o valid some e enough (end_of at (drop (chunk_size l) rest) o end) never

-- a line may come yet, so a chunk may
line_comes : (s more : List ℕ) (l : ChunkLine) (r : List ℕ) → HasNoLine s → IsSizeLine l → s ++ more ≡ print_chunk_line l ++ r → NeverHasChunk s → ⊥
line_comes s more l r none valid e never =
    let p = print_chunk_line l in
    let n = chunk_size l in
    elim (cases_lt (length s) (length p)) [
      | inr ge ↦ none l (drop (length p) s) valid (front_of p r s more (sym e) ge)
      | inl lt ↦ let whole : p ≡ s ++ drop (length s) p = front_of s more p r e (omega arith) in
          let tail = drop (length s) p in
          elim (cases_lt 0 n) [
            | inl some ↦ let bytes_ = zeros n in
                (never (tail ++ (bytes_ ++ 13 ∷ 10 ∷ []))).chunk (record { line = l; data_ = bytes_ }) []
                (record { line = valid; some = some; size = length-zeros n })
                (sym (append_assoc s tail (bytes_ ++ 13 ∷ 10 ∷ [])) ∙ ap (λ x. x ++ (bytes_ ++ 13 ∷ 10 ∷ [])) (sym whole))
            | inr zero_ ↦ (never tail).last l [] valid (omega arith) (sym whole ∙ sym (append-nil p))
          ]
    ]

never_bad : (head : FinalHead) (before at : ℕ) (had s : List ℕ) (o : Outcome) → FromChunks head before at had s o → (o ≡ Faults BodyLimit → ⊥)
    → NeverHasChunk s → o ≡ Faults (BadChunk at)
never_bad head before at had s o (chunk a h t w c r is few e from) fits never =
    absurd ((never []).chunk c r is (append-nil t ∙ e))
never_bad head before at had s o (last a h t w l r valid zero_ e from) fits never = absurd ((never []).last l r valid zero_ (append-nil t ∙ e))
never_bad head before at had s o (begun a h t w l r valid some e un) fits never =
    rest_bad a (length h) t l r w valid some e (rest_of a (length h) (chunk_size l) r w un) fits never
never_bad head before at had s o (bad a h t w f r e dead is) fits never = is
never_bad head before at had s o (waits a h t w none alive is) fits never =
    absurd (alive (λ more l r valid e. line_comes t more l r none valid e never))

-- ---- and the other way

-- the fault of a later chunk, or of the trailers, is at a later offset
later_trailers : (head : FinalHead) (at k : ℕ) (had : List ℕ) (v : Verdict Trailers) → by_trailers head at had v ≡ Faults (BadChunk k) → at ≤ k
later_trailers head at k had (Found t r) e = cc
later_trailers head at k had (FoundPast t) e = cc
later_trailers head at k had Refused e = let same : at ≡ k = cc in omega (arith, same)
later_trailers head at k had Overrun e = cc
later_trailers head at k had Open e = cc

end_at : (at k : ℕ) (s : List ℕ) (o : Outcome) → End at s o → o ≡ Faults (BadChunk k) → at ≡ k
end_at at k s o (comes more is half z) e = let t : Short ≡ Faults (BadChunk k) = sym z ∙ e in cc
end_at at k s o (other differs z) e = let t : Faults (BadChunk at) ≡ Faults (BadChunk k) = sym z ∙ e in cc

rest_at : (at had need k : ℕ) (rest : List ℕ) (o : Outcome) → Rest at had need rest o → o ≡ Faults (BadChunk k) → at ≡ k
rest_at at had need k rest o (over z) e = let t : Faults BodyLimit ≡ Faults (BadChunk k) = sym z ∙ e in cc
rest_at at had need k rest o (part short_ z) e = let t : Short ≡ Faults (BadChunk k) = sym z ∙ e in cc
rest_at at had need k rest o (data_ enough end) e = end_at at k (drop need rest) o (end_of at (drop need rest) o end) e

later : (head : FinalHead) (before at k : ℕ) (had s : List ℕ) (o : Outcome) → FromChunks head before at had s o → o ≡ Faults (BadChunk k) → at ≤ k
later head before at k had s o (chunk a h t w c r is few e from) z =
    let i = later head before (a + chunk_length c) k (h ++ c.data_) r w from z in omega (arith, i)
later head before at k had s o (last a h t w l r valid zero_ e from) z =
    let i = later_trailers head (a + length (print_chunk_line l)) k h from.verdict (sym from.is ∙ z) in omega (arith, i)
later head before at k had s o (begun a h t w l r valid some e un) z =
    let i = rest_at a (length h) (chunk_size l) k r w (rest_of a (length h) (chunk_size l) r w un) z in omega (arith, i)
later head before at k had s o (bad a h t w f r e dead is) z =
    let same : Faults (BadChunk a) ≡ Faults (BadChunk k) = sym is ∙ z in let i : a ≡ k = cc in omega (arith, i)
later head before at k had s o (waits a h t w none alive is) z =
    let same : Short ≡ Faults (BadChunk k) = sym is ∙ z in cc

-- the bytes_ of another chunk would end elsewhere
end_not : (at : ℕ) (s : List ℕ) (l : ChunkLine) (rest more : List ℕ) (c : Chunk) (r : List ℕ) (o : Outcome) → IsSizeLine l → s ≡ print_chunk_line l ++ rest
    → chunk_size l ≤ length rest → End at (drop (chunk_size l) rest) o → o ≡ Faults (BadChunk at) → IsChunk c → s ++ more ≡ chunk_and c r → ⊥
end_not at s l rest more c r o valid e enough (comes m is half z) bad_ ok same = let t : Short ≡ Faults (BadChunk at) = sym z ∙ bad_ in cc
end_not at s l rest more c r o valid e enough (other differs z) bad_ ok same =
    let n = chunk_size l in
    let split : s ++ more ≡ print_chunk_line l ++ (rest ++ more) = ap (λ x. x ++ more) e ∙ append_assoc (print_chunk_line l) rest more in
    let u = line_unique (s ++ more) l c.line (rest ++ more) (c.data_ ++ 13 ∷ 10 ∷ r) valid ok.line split same in
    let size : length c.data_ ≡ n = ok.size ∙ ap chunk_size (sym u.0) in
    let tail : drop n (rest ++ more) ≡ 13 ∷ 10 ∷ r =
    ap (λ x. drop n x) u.1 ∙ ap (λ k. drop k (c.data_ ++ 13 ∷ 10 ∷ r)) (sym size) ∙ drop-append_seam c.data_ (13 ∷ 10 ∷ r) in
    differs r more (sym (drop-append-le n rest more enough) ∙ tail)

rest_not : (at had : ℕ) (s : List ℕ) (l : ChunkLine) (rest more : List ℕ) (c : Chunk) (r : List ℕ) (o : Outcome) → IsSizeLine l → s ≡ print_chunk_line l ++ rest
    → Rest at had (chunk_size l) rest o → o ≡ Faults (BadChunk at) → IsChunk c → s ++ more ≡ chunk_and c r → ⊥
rest_not at had s l rest more c r o valid e (over z) bad_ ok same = let t : Faults BodyLimit ≡ Faults (BadChunk at) = sym z ∙ bad_ in cc
rest_not at had s l rest more c r o valid e (part short_ z) bad_ ok same = let t : Short ≡ Faults (BadChunk at) = sym z ∙ bad_ in cc
rest_not at had s l rest more c r o valid e (data_ enough end) bad_ ok same = end_not at s l rest more c r o valid e enough (end_of at (drop (chunk_size l) rest) o end) bad_ ok same

last_not : (s : List ℕ) (l k : ChunkLine) (rest more q : List ℕ) → IsSizeLine l → 0 < chunk_size l → s ≡ print_chunk_line l ++ rest → IsSizeLine k
    → chunk_size k ≡ 0 → s ++ more ≡ print_chunk_line k ++ q → ⊥
last_not s l k rest more q valid some e valid_k none same =
    let split : s ++ more ≡ print_chunk_line l ++ (rest ++ more) = ap (λ x. x ++ more) e ∙ append_assoc (print_chunk_line l) rest more in
    let u = line_unique (s ++ more) l k (rest ++ more) q valid valid_k split same in
    omega (arith, some, none, ap chunk_size u.0)

bad_never : (head : FinalHead) (before at : ℕ) (had s : List ℕ) (o : Outcome) → FromChunks head before at had s o → o ≡ Faults (BadChunk at) → NeverHasChunk s
bad_never head before at had s o (chunk a h t w c r is few e from) z =
    let i = later head before (a + chunk_length c) a (h ++ c.data_) r w from z in absurd (omega (arith, i))
bad_never head before at had s o (last a h t w l r valid zero_ e from) z =
    let i = later_trailers head (a + length (print_chunk_line l)) a h from.verdict (sym from.is ∙ z) in
    absurd (omega (arith, i, line_end l))
bad_never head before at had s o (begun a h t w l r valid some e un) z = λ more. record {
  chunk = λ c q ok same. rest_not a (length h) t l r more c q w valid e (rest_of a (length h) (chunk_size l) r w un) z ok same;
  last = λ k q valid_k none same. last_not t l k r more q valid some e valid_k none same;
}
bad_never head before at had s o (bad a h t w f r e dead is) z = λ more. record {
  chunk = λ c q ok same. dead_line_longer t f r e dead more c.line (c.data_ ++ 13 ∷ 10 ∷ q) ok.line same;
  last = λ k q valid_k none same. dead_line_longer t f r e dead more k q valid_k same;
}
bad_never head before at had s o (waits a h t w none alive is) z = let same : Short ≡ Faults (BadChunk a) = sym is ∙ z in cc

pub chunk_place : (head : FinalHead) (before at : ℕ) (had s : List ℕ) (o : Outcome) → FromChunks head before at had s o → (o ≡ Faults BodyLimit → ⊥)
    → (NeverHasChunk s ↔ (o ≡ Faults (BadChunk at)))
chunk_place head before at had s o from fits = (λ never. never_bad head before at had s o from fits never, λ z. bad_never head before at had s o from z)
