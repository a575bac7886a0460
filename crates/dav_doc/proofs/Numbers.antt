-- Character references by number: fronts, whole ones, and that each front goes on.
use Rattle.std.proofs.Common.{◌≡◌, ℕ, ◌+◌, ◌*◌, ◌≤◌, Bool, true, false, ◌&&◌, ◌||◌, List, [], ◌∷◌, ◌++◌, refl, ap, sym, ◌∙◌, subst, arith, Option, Some, None}
use Rattle.std.specs.Prelude.{◌==◌, nat_le, cond}
use Rattle.std.proofs.lemmas.Bool.{eqb-true, le-leb, leb-true, leb-false}
use Rattle.dav_doc.specs.References.{is_allowed, utf_8, decimal_digit, hex_digit, on_digit, if_digit, last_of, number, number_front, number_reference, may_number}
use Rattle.dav_doc.proofs.KindFacts.{and_both, and_of}

-- a digit is no semicolon
abbrev pub NoDigit : (ℕ → Option ℕ) → Type 0
NoDigit digit = digit 59 ≡ None

digit_not : (digit : ℕ → Option ℕ) → NoDigit digit → (b n : ℕ) → digit b ≡ Some n → (x : Bool) → (b == 59) ≡ x → (b == 59) ≡ false
digit_not digit ends b n h false e = e
digit_not digit ends b n h true e = let k : None ≡ Some n = sym ends ∙ ap digit (sym (eqb-true b 59 e)) ∙ h in cc

bounded_none : (x : Bool) (y : Option (List ℕ)) → (x ≡ true → y ≡ None) → cond x y None ≡ None
bounded_none true y f = f refl
bounded_none false y f = refl

abbrev pub next_number : (ℕ → Option ℕ) → ℕ → ℕ → List ℕ → ℕ → Option (List ℕ)
next_number digit base v s n = cond (nat_le (base * v + n) 1114111) (number digit base (base * v + n) true s) None

-- one more digit
number_step : (digit : ℕ → Option ℕ) → NoDigit digit → (base v : ℕ) (some : Bool) (b n : ℕ) (s : List ℕ) → digit b ≡ Some n → nat_le (base * v + n) 1114111 ≡ true
    → number digit base v some (b ∷ s) ≡ number digit base (base * v + n) true s
number_step digit ends base v some b n s e h =
    ap (λ z. cond z (last_of some v s) (on_digit (digit b) (next_number digit base v s))) (digit_not digit ends b n e (b == 59) refl)
    ∙ ap (λ z. on_digit z (next_number digit base v s)) e ∙ ap (λ z. cond z (number digit base (base * v + n) true s) None) h

abbrev pub next_front : (ℕ → Option ℕ) → ℕ → ℕ → List ℕ → ℕ → Bool
next_front digit base v s n = nat_le (base * v + n) 1114111 && number_front digit base (base * v + n) s

-- a digit of a front
pub record IsDigit (digit : ℕ → Option ℕ) (base v b : ℕ) (s : List ℕ) : Type 0 where
  pub number : ℕ
  pub is : digit b ≡ Some number
  pub bound : nat_le (base * v + number) 1114111 ≡ true
  pub front : number_front digit base (base * v + number) s ≡ true

digit_by : (digit : ℕ → Option ℕ) (base v b : ℕ) (s : List ℕ) (x : Option ℕ) → digit b ≡ x → if_digit x (next_front digit base v s) ≡ true → IsDigit digit base v b s
digit_by digit base v b s None e h = cc
digit_by digit base v b s (Some n) e h =
    let q = and_both (nat_le (base * v + n) 1114111) (number_front digit base (base * v + n) s) h in
    record { number = n; is = e; bound = q.0; front = q.1 }

digit_of : (digit : ℕ → Option ℕ) (base v b : ℕ) (s : List ℕ) → number_front digit base v (b ∷ s) ≡ true → IsDigit digit base v b s
digit_of digit base v b s h = digit_by digit base v b s (digit b) refl h

front_none : (digit : ℕ → Option ℕ) → NoDigit digit → (base v : ℕ) (some : Bool) (p : List ℕ) → number_front digit base v p ≡ true → number digit base v some p ≡ None
front_none digit ends base v some [] h = refl
front_none digit ends base v some (b ∷ p) h =
    let d = digit_of digit base v b p h in
    number_step digit ends base v some b d.number p d.is d.bound ∙ front_none digit ends base (base * v + d.number) true p d.front

last_none : (some : Bool) (v : ℕ) (p q : List ℕ) (c : ℕ) → last_of some v (p ++ (c ∷ q)) ≡ None
last_none some v [] q c = refl
last_none some v (b ∷ p) q c = refl

whole_le : (digit : ℕ → Option ℕ) (base v n : ℕ) (p t : List ℕ) (m : List ℕ) (x : Bool) → nat_le (base * v + n) 1114111 ≡ x
    → (number digit base (base * v + n) true t ≡ Some m → number_front digit base (base * v + n) p ≡ true)
    → cond x (number digit base (base * v + n) true t) None ≡ Some m → next_front digit base v p n ≡ true
whole_le digit base v n p t m true e f h = and_of _ _ e (f h)
whole_le digit base v n p t m false e f h = cc

whole_digit : (digit : ℕ → Option ℕ) (base v b : ℕ) (p t : List ℕ) (m : List ℕ) (x : Option ℕ) → digit b ≡ x
    → ((w : ℕ) → number digit base w true t ≡ Some m → number_front digit base w p ≡ true)
    → on_digit x (next_number digit base v t) ≡ Some m → number_front digit base v (b ∷ p) ≡ true
whole_digit digit base v b p t m None e f h = cc
whole_digit digit base v b p t m (Some n) e f h =
    ap (λ z. if_digit z (next_front digit base v p)) e ∙ whole_le digit base v n p t m (nat_le (base * v + n) 1114111) refl (f (base * v + n)) h

whole_by : (digit : ℕ → Option ℕ) (base v : ℕ) (some : Bool) (b : ℕ) (p q : List ℕ) (c : ℕ) (m : List ℕ) (x : Bool)
    → ((w : ℕ) → number digit base w true (p ++ (c ∷ q)) ≡ Some m → number_front digit base w p ≡ true)
    → cond x (last_of some v (p ++ (c ∷ q))) (on_digit (digit b) (next_number digit base v (p ++ (c ∷ q)))) ≡ Some m → number_front digit base v (b ∷ p) ≡ true
whole_by digit base v some b p q c m true f h = let k : None ≡ Some m = sym (last_none some v p q c) ∙ h in cc
whole_by digit base v some b p q c m false f h = whole_digit digit base v b p (p ++ (c ∷ q)) m (digit b) refl f h

whole_front : (digit : ℕ → Option ℕ) (base v : ℕ) (some : Bool) (p q : List ℕ) (c : ℕ) (m : List ℕ) → number digit base v some (p ++ (c ∷ q)) ≡ Some m → number_front digit base v p ≡ true
whole_front digit base v some [] q c m h = refl
whole_front digit base v some (b ∷ p) q c m h = whole_by digit base v some b p q c m (b == 59) (λ w k. whole_front digit base w true p q c m k) h

prefix_by : (x : ℕ) (p q : List ℕ) (c : ℕ) (m : List ℕ) (y : Bool) → (x == 120) ≡ y
    → cond y (number hex_digit 16 0 false (p ++ (c ∷ q))) (number decimal_digit 10 0 false (x ∷ (p ++ (c ∷ q)))) ≡ Some m
    → (number_reference (x ∷ p) ≡ None) × (may_number (x ∷ p) ≡ true)
prefix_by x p q c m true e h =
    let f = whole_front hex_digit 16 0 false p q c m h in (
      ap (λ z. cond z (number hex_digit 16 0 false p) (number decimal_digit 10 0 false (x ∷ p))) e ∙ front_none hex_digit refl 16 0 false p f,
      ap (λ z. cond z (number_front hex_digit 16 0 p) (number_front decimal_digit 10 0 (x ∷ p))) e ∙ f,
    )
prefix_by x p q c m false e h =
    let f = whole_front decimal_digit 10 0 false (x ∷ p) q c m h in (
      ap (λ z. cond z (number hex_digit 16 0 false p) (number decimal_digit 10 0 false (x ∷ p))) e ∙ front_none decimal_digit refl 10 0 false (x ∷ p) f,
      ap (λ z. cond z (number_front hex_digit 16 0 p) (number_front decimal_digit 10 0 (x ∷ p))) e ∙ f,
    )

-- a front of a whole reference by number is a front, and not whole
pub number_prefix : (p q : List ℕ) (c : ℕ) (m : List ℕ) → number_reference (p ++ (c ∷ q)) ≡ Some m → (number_reference p ≡ None) × (may_number p ≡ true)
number_prefix [] q c m h = (refl, refl)
number_prefix (x ∷ p) q c m h = prefix_by x p q c m (x == 120) refl h

-- Each front goes on.
abbrev pub digit_or : Option ℕ → ℕ
digit_or None = 0
digit_or (Some n) = n

abbrev pub value : (ℕ → Option ℕ) → ℕ → ℕ → List ℕ → ℕ
value digit base v [] = v
value digit base v (b ∷ p) = value digit base (base * v + digit_or (digit b)) p

abbrev pub some_after : Bool → List ℕ → Bool
some_after some [] = some
some_after some (b ∷ p) = true

some_true : (p : List ℕ) → some_after true p ≡ true
some_true [] = refl
some_true (b ∷ p) = refl

number_skip : (digit : ℕ → Option ℕ) → NoDigit digit → (base v : ℕ) (some : Bool) (p s : List ℕ) → number_front digit base v p ≡ true
    → number digit base v some (p ++ s) ≡ number digit base (value digit base v p) (some_after some p) s
number_skip digit ends base v some [] s h = refl
number_skip digit ends base v some (b ∷ p) s h =
    let d = digit_of digit base v b p h in
    number_step digit ends base v some b d.number (p ++ s) d.is d.bound ∙ number_skip digit ends base (base * v + d.number) true p s d.front
    ∙ ap (λ z. number digit base (value digit base (base * v + digit_or z) p) (some_after true p) s) (sym d.is)
    ∙ ap (λ z. number digit base (value digit base (base * v + digit_or (digit b)) p) z s) (some_true p)

value_bound : (digit : ℕ → Option ℕ) (base v : ℕ) (p : List ℕ) → number_front digit base v p ≡ true → v ≤ 1114111 → value digit base v p ≤ 1114111
value_bound digit base v [] h l = l
value_bound digit base v (b ∷ p) h l =
    let d = digit_of digit base v b p h in
    let e : digit_or (digit b) ≡ d.number = ap digit_or d.is in
    let k = leb-true (base * v + d.number) 1114111 d.bound in
    subst (λ (z : ℕ). value digit base (base * v + z) p ≤ 1114111) (sym e) (value_bound digit base (base * v + d.number) p d.front k)

or_right : (x y : Bool) → y ≡ true → (x || y) ≡ true
or_right true y h = refl
or_right false y h = h

allowed_low : (v : ℕ) → 32 ≤ v → v ≤ 55295 → is_allowed v ≡ true
allowed_low v h g =
    ap (λ z. z || ((nat_le 57344 v && nat_le v 65533) || ((nat_le 65536 v && nat_le v 1114111) || ((v == 9) || (v == 10) || (v == 13)))))
    (and_of _ _ (le-leb 32 v h) (le-leb v 55295 g))

allowed_high : (v : ℕ) → 65536 ≤ v → v ≤ 1114111 → is_allowed v ≡ true
allowed_high v h g =
    or_right (nat_le 32 v && nat_le v 55295) _ (or_right (nat_le 57344 v && nat_le v 65533) _
    (ap (λ z. z || ((v == 9) || (v == 10) || (v == 13))) (and_of _ _ (le-leb 65536 v h) (le-leb v 1114111 g))))

-- the number goes on to a whole one
pub record Ending (digit : ℕ → Option ℕ) (base v : ℕ) (some : Bool) : Type 0 where
  pub first : ℕ
  pub rest : List ℕ
  pub means : List ℕ
  pub is : number digit base v some (first ∷ rest) ≡ Some means

ends_now : (digit : ℕ → Option ℕ) (base v : ℕ) (some : Bool) → some ≡ true → is_allowed v ≡ true → Ending digit base v some
ends_now digit base v some h a = record { first = 59; rest = []; means = utf_8 v; is = ap (λ z. cond z (Some (utf_8 v)) None) (and_of some (is_allowed v) h a) }

one_more : (digit : ℕ → Option ℕ) → NoDigit digit → (base v : ℕ) (some : Bool) (b n : ℕ) → digit b ≡ Some n → base * v + n ≤ 1114111 → Ending digit base (base * v + n) true → Ending digit base v some
one_more digit ends base v some b n e l k = record {
  first = b;
  rest = k.first ∷ k.rest;
  means = k.means;
  is = number_step digit ends base v some b n (k.first ∷ k.rest) e (le-leb (base * v + n) 1114111 l) ∙ k.is;
}

hex_big : (v : ℕ) (some : Bool) → some ≡ true → 216 ≤ v → v ≤ 1114111 → (x y : Bool) → nat_le v 55295 ≡ x → nat_le v 65535 ≡ y → Ending hex_digit 16 v some
hex_big v some s h l true y e f = ends_now hex_digit 16 v some s (let k = leb-true v 55295 e in allowed_low v (omega arith) k)
hex_big v some s h l false true e f =
    let k = leb-false v 55295 e in
    let j = leb-true v 65535 f in
    one_more hex_digit refl 16 v some 48 0 refl (omega arith) (ends_now hex_digit 16 (16 * v + 0) true refl (allowed_high (16 * v + 0) (omega arith) (omega arith)))
hex_big v some s h l false false e f =
    let j = leb-false v 65535 f in
    ends_now hex_digit 16 v some s (allowed_high v (omega arith) l)

hex_ending : (v : ℕ) (some : Bool) → (216 ≤ v → some ≡ true) → v ≤ 1114111 → (x : Bool) → nat_le v 215 ≡ x → Ending hex_digit 16 v some
hex_ending v some s l true e =
    let k = leb-true v 215 e in
    one_more hex_digit refl 16 v some 57 9 refl (omega arith) (one_more hex_digit refl 16 (16 * v + 9) true 57 9 refl (omega arith)
    (ends_now hex_digit 16 (16 * (16 * v + 9) + 9) true refl (allowed_low (16 * (16 * v + 9) + 9) (omega arith) (omega arith))))
hex_ending v some s l false e =
    let k = leb-false v 215 e in
    let g : 216 ≤ v = omega arith in
    hex_big v some (s g) g l (nat_le v 55295) (nat_le v 65535) refl refl

decimal_big : (v : ℕ) (some : Bool) → some ≡ true → 216 ≤ v → v ≤ 1114111 → (x y : Bool) → nat_le v 55295 ≡ x → nat_le v 65535 ≡ y → Ending decimal_digit 10 v some
decimal_big v some s h l true y e f = ends_now decimal_digit 10 v some s (let k = leb-true v 55295 e in allowed_low v (omega arith) k)
decimal_big v some s h l false true e f =
    let k = leb-false v 55295 e in
    let j = leb-true v 65535 f in
    one_more decimal_digit refl 10 v some 48 0 refl (omega arith) (ends_now decimal_digit 10 (10 * v + 0) true refl (allowed_high (10 * v + 0) (omega arith) (omega arith)))
decimal_big v some s h l false false e f =
    let j = leb-false v 65535 f in
    ends_now decimal_digit 10 v some s (allowed_high v (omega arith) l)

decimal_ending : (v : ℕ) (some : Bool) → (216 ≤ v → some ≡ true) → v ≤ 1114111 → (x : Bool) → nat_le v 215 ≡ x → Ending decimal_digit 10 v some
decimal_ending v some s l true e =
    let k = leb-true v 215 e in
    one_more decimal_digit refl 10 v some 57 9 refl (omega arith) (one_more decimal_digit refl 10 (10 * v + 9) true 57 9 refl (omega arith)
    (ends_now decimal_digit 10 (10 * (10 * v + 9) + 9) true refl (allowed_low (10 * (10 * v + 9) + 9) (omega arith) (omega arith))))
decimal_ending v some s l false e =
    let k = leb-false v 215 e in
    let g : 216 ≤ v = omega arith in
    decimal_big v some (s g) g l (nat_le v 55295) (nat_le v 65535) refl refl

some_digit : (digit : ℕ → Option ℕ) (base : ℕ) (p : List ℕ) → 216 ≤ value digit base 0 p → some_after false p ≡ true
some_digit digit base [] h = absurd (omega arith)
some_digit digit base (b ∷ p) h = refl

-- a front of a reference by number goes on to a whole one
pub record Finishes (r : List ℕ) : Type 0 where
  pub first : ℕ
  pub rest : List ℕ
  pub means : List ℕ
  pub is : number_reference (r ++ (first ∷ rest)) ≡ Some means

finishes_by : (b : ℕ) (r : List ℕ) (x : Bool) → (b == 120) ≡ x → cond x (number_front hex_digit 16 0 r) (number_front decimal_digit 10 0 (b ∷ r)) ≡ true → Finishes (b ∷ r)
finishes_by b r true e h =
    let v = value hex_digit 16 0 r in
    let k = hex_ending v (some_after false r) (some_digit hex_digit 16 r) (value_bound hex_digit 16 0 r h (omega arith)) (nat_le v 215) refl in
    let t = r ++ (k.first ∷ k.rest) in
    record {
      first = k.first;
      rest = k.rest;
      means = k.means;
      is = ap (λ z. cond z (number hex_digit 16 0 false t) (number decimal_digit 10 0 false (b ∷ t))) e ∙ number_skip hex_digit refl 16 0 false r (k.first ∷ k.rest) h ∙ k.is;
    }
finishes_by b r false e h =
    let v = value decimal_digit 10 0 (b ∷ r) in
    let k = decimal_ending v true (λ l. refl) (value_bound decimal_digit 10 0 (b ∷ r) h (omega arith)) (nat_le v 215) refl in
    let t = r ++ (k.first ∷ k.rest) in
    record {
      first = k.first;
      rest = k.rest;
      means = k.means;
      is = ap (λ z. cond z (number hex_digit 16 0 false t) (number decimal_digit 10 0 false (b ∷ t))) e ∙ number_skip decimal_digit refl 10 0 false (b ∷ r) (k.first ∷ k.rest) h ∙ k.is;
    }

pub finishes : (r : List ℕ) → may_number r ≡ true → Finishes r
finishes [] h = record { first = 57; rest = 59 ∷ []; means = 9 ∷ []; is = refl }
finishes (b ∷ r) h = finishes_by b r (b == 120) refl h
