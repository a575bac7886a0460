-- What each judgement on the kept bytes of a text says of the stream, and that a stream has one verdict.
use Rattle.std.proofs.Common.{◌≡◌, ℕ, ◌+◌, ◌-◌, ◌<◌, ◌≤◌, Bool, true, false, List, [], ◌∷◌, ◌++◌, length, take, drop, refl, ap, sym, ◌∙◌, arith, subst, append_assoc, length-append, append-nil, inl, inr, ◌⊎◌, ◌&&◌, ◌==◌}
use Rattle.std.proofs.lemmas.Bool.Decides.{nat_tests}
use Rattle.std.proofs.lemmas.Bool.{cases_lt}
use Rattle.std.proofs.lemmas.Grind.{common_steps}
use Rattle.std.proofs.lemmas.List.{take-append-le}
use Rattle.std.proofs.Math.Seq.{drop-append_seam, drop-append-add}
use Rattle.dav_head.specs.Limit.{feeds, IsFree, IsWithin, IsReached, IsPast, Keeps}
use Rattle.dav_frame.specs.Front.{HasNone, NeverHas, Verdict, Found, FoundPast, Refused, Overrun, Finds, found, found_past, refused, overrun, opens}

-- of two fronts of one text, the longer begins with the shorter
pub front_of : (a b c d : List ℕ) → a ++ b ≡ c ++ d → length a ≤ length c → c ≡ a ++ drop (length a) c
front_of [] b c d e h = refl
front_of (x ∷ a) b [] d e h = absurd (omega arith)
front_of (x ∷ a) b (y ∷ c) d e h =
    let tails : a ++ b ≡ c ++ d = cc in
    let heads : x ≡ y = cc in
    let i = front_of a b c d tails (omega arith) in
    rw heads (ap (λ s. y ∷ s) i)

regroup : {before : ℕ} {old piece new : List ℕ} {flag : Bool} (k : Keeps before old piece new flag) (more : List ℕ)
    → old ++ (piece ++ more) ≡ new ++ (k.left ++ more)
regroup {before} {old} {piece} {new} k more =
    sym (append_assoc old piece more) ∙ ap (λ s. s ++ more) k.split ∙ append_assoc new k.left more

pub refused_at : (T : Type 0) (Valid : T → Type 0) (print : T → List ℕ) {before : ℕ} {old piece new : List ℕ} {flag : Bool}
    → Keeps before old piece new flag → NeverHas T Valid print new
    → (more : List ℕ) → Finds T Valid print before (old ++ (piece ++ more)) Refused
refused_at T Valid print {before} {old} {piece} {new} k dead more = refused new (k.left ++ more) (regroup k more) dead k.reached refl

pub overrun_at : (T : Type 0) (Valid : T → Type 0) (print : T → List ℕ) {before : ℕ} {old piece new : List ℕ}
    → Keeps before old piece new true → HasNone T Valid print new → ¬ (NeverHas T Valid print new)
    → (more : List ℕ) → Finds T Valid print before (old ++ (piece ++ more)) Overrun
overrun_at T Valid print {before} {old} {piece} {new} k none alive more =
    overrun new (k.left ++ more) (regroup k more) none alive (k.passes refl) refl

-- a piece that was kept whole
pub kept_all : {before : ℕ} {old piece new : List ℕ} → Keeps before old piece new false → (more : List ℕ)
    → old ++ (piece ++ more) ≡ new ++ (drop (length piece) piece ++ more)
kept_all {before} {old} {piece} {new} k more =
    let none : drop (length piece) piece ≡ [] = grind (arith, common_steps) in
    let left : k.left ≡ [] = (k.within refl).1 in
    regroup k more ∙ ap (λ s. new ++ (s ++ more)) (left ∙ sym none)

-- a text of so many bytes that ends within the piece
pub record Ends (T : Type 0) (Valid : T → Type 0) (print : T → List ℕ) (old piece : List ℕ) (text : T) (len : ℕ) : Type 0 where
  pub past : length old < len
  pub inside : len - length old ≤ length piece
  pub valid : Valid text
  pub reads : old ++ piece ≡ print text ++ drop (len - length old) piece

-- a text at the front of the kept bytes ends within the piece, since none was there before
pub ends_in : (T : Type 0) (Valid : T → Type 0) (print : T → List ℕ) {old piece new : List ℕ} (left : List ℕ)
    → old ++ piece ≡ new ++ left → HasNone T Valid print old
    → (text : T) (len : ℕ) → Valid text × (new ≡ print text ++ drop len new) → len ≡ length (print text)
    → Ends T Valid print old piece text len
ends_in T Valid print {old} {piece} {new} left split none text len reads is =
    let p = print text in
    let both : p ++ (drop len new ++ left) ≡ old ++ piece =
    sym (append_assoc p (drop len new) left) ∙ ap (λ s. s ++ left) (sym reads.1) ∙ sym split in
    let past : length old < len = elim (cases_lt (length old) len) [
      | inl lt ↦ lt
      | inr ge ↦ absurd (none text (drop (length p) old) (reads.0, front_of p (drop len new ++ left) old piece both (omega arith)))
    ] in
    let total : length p + length (drop len new ++ left) ≡ length old + length piece =
    sym (length-append p (drop len new ++ left)) ∙ ap length both ∙ length-append old piece in
    let tail : drop len new ++ left ≡ drop (len - length old) piece =
    let a : drop (length p) (p ++ (drop len new ++ left)) ≡ drop len new ++ left = drop-append_seam p (drop len new ++ left) in
    let b : drop (length old + (len - length old)) (old ++ piece) ≡ drop (len - length old) piece = drop-append-add old piece (len - length old) in
    let n : length old + (len - length old) ≡ length p = omega arith in
    sym a ∙ ap (λ s. drop (length p) s) both ∙ ap (λ m. drop m (old ++ piece)) (sym n) ∙ b in
    record {
      past = past;
      inside = omega arith;
      valid = reads.0;
      reads = sym both ∙ ap (λ s. p ++ s) tail;
    }

-- the limit at a byte of a front counts what stands before that byte alone
front_free : (before : ℕ) (p r : List ℕ) (n : ℕ) → n < length p → IsFree before (p ++ r) n → IsFree before p n
front_free before p r n h f = let e : take n (p ++ r) ≡ take n p = take-append-le n p r (omega arith) in (f.0, omega (arith, ap feeds e, f.1))

pub free_in_front : (before : ℕ) (s p r : List ℕ) → s ≡ p ++ r → (n : ℕ) → n < length p → IsFree before s n → IsFree before p n
free_in_front before s p r e n h f = let P : List ℕ → Type 0 = λ t. IsFree before t n in front_free before p r n h (subst P e f)

pub free_in_whole : (before : ℕ) (s p r : List ℕ) → s ≡ p ++ r → (n : ℕ) → n < length p → IsFree before p n → IsFree before s n
free_in_whole before s p r e n h f =
    let t : take n s ≡ take n p = ap (λ x. take n x) e ∙ take-append-le n p r (omega arith) in (f.0, omega (arith, ap feeds t, f.1))

within_front : {before : ℕ} {old piece new : List ℕ} {flag : Bool} → Keeps before old piece new flag → (p rest : List ℕ)
    → new ≡ p ++ rest → (flag ≡ false) ⊎ (length p < length new) → IsWithin before p
within_front {before} {old} {piece} {new} k p rest reads (inl none) =
    let total : length new ≡ length p + length rest = ap length reads ∙ length-append p rest in
    let less : (n : ℕ) → n < length p → n < length new = λ n lt. omega arith in
    λ n lt. free_in_front before new p rest reads n lt ((k.within none).0 n (less n lt))
within_front {before} {old} {piece} {new} k p rest reads (inr lt) =
    λ n less. free_in_front before new p rest reads n less (k.reached n (omega arith))

passes_front : {before : ℕ} {old piece new : List ℕ} → Keeps before old piece new true → (p rest : List ℕ)
    → new ≡ p ++ rest → length p ≡ length new → IsPast before p
passes_front {before} {old} {piece} {new} k p rest reads all =
    let total : length new ≡ length p + length rest = ap length reads ∙ length-append p rest in
    let none : rest ≡ [] = grind (arith, common_steps) in
    let same : new ≡ p = reads ∙ rw none (append-nil p) in
    let P : List ℕ → Type 0 = λ s. IsPast before s in
    subst P same (k.passes refl)

-- the verdict on a text that is at the front
abbrev pub verdict_of : {T : Type 0} → Bool → T → List ℕ → Verdict T
verdict_of true text rest = FoundPast text
verdict_of false text rest = Found text rest

whole_reads : (T : Type 0) (Valid : T → Type 0) (print : T → List ℕ) {old piece : List ℕ} {text : T} {len : ℕ}
    → Ends T Valid print old piece text len → (more : List ℕ)
    → Valid text × (old ++ (piece ++ more) ≡ print text ++ (drop (len - length old) piece ++ more))
whole_reads T Valid print {old} {piece} {text} {len} ends more = (
  ends.valid,
  sym (append_assoc old piece more) ∙ ap (λ s. s ++ more) ends.reads ∙ append_assoc (print text) (drop (len - length old) piece) more,
)

pub found_at : (T : Type 0) (Valid : T → Type 0) (print : T → List ℕ) {before : ℕ} {old piece new : List ℕ} (passed : Bool)
    → Keeps before old piece new passed → HasNone T Valid print old
    → (text : T) (len : ℕ) → Valid text × (new ≡ print text ++ drop len new) → len ≡ length (print text) → len ≤ length new
    → (flag : Bool) → flag ≡ (passed && (len == length new)) → (more : List ℕ)
    → Finds T Valid print before (old ++ (piece ++ more)) (verdict_of flag text (drop (len - length old) piece ++ more))
found_at T Valid print {before} {old} {piece} {new} false k none text len reads is fits flag e more =
    rw e (found text (drop (len - length old) piece ++ more)
    (whole_reads T Valid print (ends_in T Valid print k.left k.split none text len reads is) more)
    (within_front k (print text) (drop len new) reads.1 (inl refl)) refl)
found_at T Valid print {before} {old} {piece} {new} true k none text len reads is fits flag e more =
    elim (cases_lt len (length new)) [
      | inl lt ↦ let no : (len == length new) ≡ false = grind (arith, nat_tests) in
          rw (e, no) (found text (drop (len - length old) piece ++ more)
          (whole_reads T Valid print (ends_in T Valid print k.left k.split none text len reads is) more)
          (within_front k (print text) (drop len new) reads.1 (inr (omega arith))) refl)
      | inr ge ↦ let all : len ≡ length new = omega arith in
          let yes : (len == length new) ≡ true = grind (arith, nat_tests) in
          rw (e, yes) (found_past text (drop (len - length old) piece ++ more)
          (whole_reads T Valid print (ends_in T Valid print k.left k.split none text len reads is) more)
          (passes_front k (print text) (drop len new) reads.1 (omega arith)) refl)
    ]

-- ---- one verdict

-- a stream with a front that no continuation makes a text has no text
dead_reads : (T : Type 0) (Valid : T → Type 0) (print : T → List ℕ) (s f r : List ℕ) → s ≡ f ++ r → NeverHas T Valid print f
    → (text : T) (rest : List ℕ) → Valid text × (s ≡ print text ++ rest) → ⊥
dead_reads T Valid print s f r e dead text rest reads = dead r text rest (reads.0, sym e ∙ reads.1)

pub dead_longer : (T : Type 0) (Valid : T → Type 0) (print : T → List ℕ) (s f r : List ℕ) → s ≡ f ++ r → NeverHas T Valid print f
    → NeverHas T Valid print s
dead_longer T Valid print s f r e dead more text rest reads =
    dead (r ++ more) text rest (reads.0, sym (append_assoc f r more) ∙ ap (λ x. x ++ more) (sym e) ∙ reads.1)

-- a text that is reached leaves no room for a front past the limit that has no text
limit_reads : (T : Type 0) (Valid : T → Type 0) (print : T → List ℕ) (before : ℕ) (s f r : List ℕ) → s ≡ f ++ r
    → HasNone T Valid print f → IsPast before f → (text : T) (rest : List ℕ) → Valid text × (s ≡ print text ++ rest)
    → IsReached before (print text) → ⊥
limit_reads T Valid print before s f r e none past text rest reads reached =
    let p = print text in
    let both : p ++ rest ≡ f ++ r = sym reads.1 ∙ e in
    elim (cases_lt (length f) (length p)) [
      | inl lt ↦ past.full (free_in_front before s f r e past.place (omega (arith, past.last))
          (free_in_whole before s p rest reads.1 past.place (omega (arith, past.last)) (reached past.place (omega (arith, past.last)))))
      | inr ge ↦ none text (drop (length p) f) (reads.0, front_of p rest f r both ge)
    ]

limit_dead : (T : Type 0) (Valid : T → Type 0) (print : T → List ℕ) (before : ℕ) (s f r g q : List ℕ) → s ≡ f ++ r
    → NeverHas T Valid print f → IsReached before f → s ≡ g ++ q → ¬ (NeverHas T Valid print g) → IsPast before g → ⊥
limit_dead T Valid print before s f r g q e dead reached d alive past =
    elim (cases_lt (length g) (length f)) [
      | inl lt ↦ past.full (free_in_front before s g q d past.place (omega (arith, past.last))
          (free_in_whole before s f r e past.place (omega (arith, past.last)) (reached past.place (omega (arith, past.last)))))
      | inr ge ↦ alive (dead_longer T Valid print g f (drop (length f) g) (front_of f r g q (sym e ∙ d) ge) dead)
    ]

within_passes : (before : ℕ) (s f r : List ℕ) → s ≡ f ++ r → IsWithin before s → IsPast before f → ⊥
within_passes before s f r e within past =
    let l : length s ≡ length f + length r = ap length e ∙ length-append f r in
    past.full (free_in_front before s f r e past.place (omega (arith, past.last)) (within past.place (omega (arith, past.last))))

reached_from : (before : ℕ) (p : List ℕ) → IsWithin before p → IsReached before p
reached_from before p w n h = w n (omega arith)

within_past : (before : ℕ) (p q : List ℕ) → p ≡ q → IsWithin before p → IsPast before q → ⊥
within_past before p q e within past =
    let W : List ℕ → Type 0 = λ s. IsWithin before s in
    past.full ((subst W e within) past.place (omega (arith, past.last)))

-- a stream begins with one text of the grammar at most
abbrev pub IsUnique : (T : Type 0) → (T → Type 0) → (T → List ℕ) → Type 0
IsUnique T Valid print = (s : List ℕ) (a b : T) (r q : List ℕ)
    → Valid a × (s ≡ print a ++ r) → Valid b × (s ≡ print b ++ q) → (a ≡ b) × (r ≡ q)

pub finds_unique : (T : Type 0) (Valid : T → Type 0) (print : T → List ℕ) → IsUnique T Valid print
    → (before : ℕ) (s : List ℕ) (v w : Verdict T) → Finds T Valid print before s v → Finds T Valid print before s w → v ≡ w
finds_unique T V p u n s v w (found a r x i e) (found b q y j d) = let k = u s a b r q x y in rw (e, d, k.0, k.1) refl
finds_unique T V p u n s v w (found a r x i e) (found_past b q y j d) = absurd (within_past n (p a) (p b) (ap p (u s a b r q x y).0) i j)
finds_unique T V p u n s v w (found a r x i e) (refused f q d dead reached z) = absurd (dead_reads T V p s f q d dead a r x)
finds_unique T V p u n s v w (found a r x i e) (overrun f q d none alive past z) = absurd (limit_reads T V p n s f q d none past a r x (reached_from n (p a) i))
finds_unique T V p u n s v w (found a r x i e) (opens none alive within z) = absurd (none a r x)
finds_unique T V p u n s v w (found_past a r x i e) (found b q y j d) = absurd (within_past n (p b) (p a) (ap p (u s b a q r y x).0) j i)
finds_unique T V p u n s v w (found_past a r x i e) (found_past b q y j d) = let k = u s a b r q x y in rw (e, d, k.0) refl
finds_unique T V p u n s v w (found_past a r x i e) (refused f q d dead reached z) = absurd (dead_reads T V p s f q d dead a r x)
finds_unique T V p u n s v w (found_past a r x i e) (overrun f q d none alive past z) = absurd (limit_reads T V p n s f q d none past a r x i.first)
finds_unique T V p u n s v w (found_past a r x i e) (opens none alive within z) = absurd (none a r x)
finds_unique T V p u n s v w (refused f q d dead reached z) (found a r x i e) = absurd (dead_reads T V p s f q d dead a r x)
finds_unique T V p u n s v w (refused f q d dead reached z) (found_past a r x i e) = absurd (dead_reads T V p s f q d dead a r x)
finds_unique T V p u n s v w (refused f q d dead reached z) (refused g r b dies reaches e) = z ∙ sym e
finds_unique T V p u n s v w (refused f q d dead reached z) (overrun g r b none alive past e) = absurd (limit_dead T V p n s f q g r d dead reached b alive past)
finds_unique T V p u n s v w (refused f q d dead reached z) (opens none alive within e) = absurd (alive (dead_longer T V p s f q d dead))
finds_unique T V p u n s v w (overrun f q d none alive past z) (found a r x i e) = absurd (limit_reads T V p n s f q d none past a r x (reached_from n (p a) i))
finds_unique T V p u n s v w (overrun f q d none alive past z) (found_past a r x i e) = absurd (limit_reads T V p n s f q d none past a r x i.first)
finds_unique T V p u n s v w (overrun f q d none alive past z) (refused g r b dies reaches e) = absurd (limit_dead T V p n s g r f q b dies reaches d alive past)
finds_unique T V p u n s v w (overrun f q d none alive past z) (overrun g r b hasnt lives passes e) = z ∙ sym e
finds_unique T V p u n s v w (overrun f q d none alive past z) (opens hasnt lives within e) = absurd (within_passes n s f q d within past)
finds_unique T V p u n s v w (opens none alive within z) (found a r x i e) = absurd (none a r x)
finds_unique T V p u n s v w (opens none alive within z) (found_past a r x i e) = absurd (none a r x)
finds_unique T V p u n s v w (opens none alive within z) (refused f q d dead reached e) = absurd (alive (dead_longer T V p s f q d dead))
finds_unique T V p u n s v w (opens none alive within z) (overrun f q d hasnt lives past e) = absurd (within_passes n s f q d within past)
finds_unique T V p u n s v w (opens none alive within z) (opens hasnt lives in_ e) = z ∙ sym e
