-- The bytes of references are of ASCII.
use Rattle.std.proofs.Common.{◌≡◌, ℕ, ◌+◌, ◌*◌, ◌≤◌, Bool, true, false, ◌&&◌, ◌||◌, List, [], ◌∷◌, refl, ap, ◌∙◌, arith, Option, Some, None}
use Rattle.std.specs.Prelude.{◌==◌, nat_le, cond, bytes_eq, codes}
use Rattle.std.specs.List.{list_all}
use Rattle.std.proofs.lemmas.Bool.{eqb-true, le-leb, leb-true}
use Rattle.dav_doc.specs.Characters.{is_ascii}
use Rattle.dav_doc.specs.References.{decimal_digit, hex_digit, on_digit, last_of, number, number_reference, named_reference, stands_for}
use Rattle.dav_doc.proofs.KindFacts.{and_both, and_of, same}
use Rattle.dav_doc.proofs.Numbers.{next_number}

or_left : (x y : Bool) → x ≡ true → (x || y) ≡ true
or_left true y h = refl
or_left false y h = cc

within_ascii : (low high b : ℕ) → 32 ≤ low → high ≤ 127 → (nat_le low b && nat_le b high) ≡ true → is_ascii b ≡ true
within_ascii low high b l m h =
    let q = and_both (nat_le low b) (nat_le b high) h in
    let f = leb-true low b q.0 in
    let g = leb-true b high q.1 in
    or_left (nat_le 32 b && nat_le b 127) _ (and_of _ _ (le-leb 32 b (omega arith)) (le-leb b 127 (omega arith)))

abbrev pub IsAsciiDigit : (ℕ → Option ℕ) → Type 0
IsAsciiDigit digit = (b n : ℕ) → digit b ≡ Some n → is_ascii b ≡ true

range_by : (b n low high v : ℕ) (other : Option ℕ) (x : Bool) → (nat_le low b && nat_le b high) ≡ x → 32 ≤ low → high ≤ 127
    → (other ≡ Some n → is_ascii b ≡ true) → cond x (Some v) other ≡ Some n → is_ascii b ≡ true
range_by b n low high v other true e l m f h = within_ascii low high b l m e
range_by b n low high v other false e l m f h = f h

no_range : (b n : ℕ) → None ≡ Some n → is_ascii b ≡ true
no_range b n h = cc

decimal_ascii : IsAsciiDigit decimal_digit
decimal_ascii b n h = range_by b n 48 57 _ None _ refl (omega arith) (omega arith) (no_range b n) h

hex_ascii : IsAsciiDigit hex_digit
hex_ascii b n h =
    range_by b n 48 57 _ _ _ refl (omega arith) (omega arith) (range_by b n 97 102 _ _ _ refl (omega arith) (omega arith)
    (range_by b n 65 70 _ None _ refl (omega arith) (omega arith) (no_range b n))) h

last_ascii : (some : Bool) (v : ℕ) (s m : List ℕ) → last_of some v s ≡ Some m → list_all is_ascii s ≡ true
last_ascii some v [] m h = refl
last_ascii some v (b ∷ s) m h = cc

bound_by : (s m : List ℕ) (x : Bool) (other : Option (List ℕ)) → (other ≡ Some m → list_all is_ascii s ≡ true) → cond x other None ≡ Some m → list_all is_ascii s ≡ true
bound_by s m true other f h = f h
bound_by s m false other f h = cc

digit_by : (digit : ℕ → Option ℕ) → IsAsciiDigit digit → (base v b : ℕ) (s m : List ℕ) (x : Option ℕ) → digit b ≡ x
    → ((w : ℕ) → number digit base w true s ≡ Some m → list_all is_ascii s ≡ true) → on_digit x (next_number digit base v s) ≡ Some m
    → list_all is_ascii (b ∷ s) ≡ true
digit_by digit d base v b s m None e f h = cc
digit_by digit d base v b s m (Some n) e f h = and_of _ _ (d b n e) (bound_by s m _ _ (f (base * v + n)) h)

number_by : (digit : ℕ → Option ℕ) → IsAsciiDigit digit → (base v : ℕ) (some : Bool) (b : ℕ) (s m : List ℕ) (x : Bool) → (b == 59) ≡ x
    → ((w : ℕ) → number digit base w true s ≡ Some m → list_all is_ascii s ≡ true)
    → cond x (last_of some v s) (on_digit (digit b) (next_number digit base v s)) ≡ Some m → list_all is_ascii (b ∷ s) ≡ true
number_by digit d base v some b s m true e f h = and_of _ _ (ap is_ascii (eqb-true b 59 e)) (last_ascii some v s m h)
number_by digit d base v some b s m false e f h = digit_by digit d base v b s m (digit b) refl f h

number_ascii : (digit : ℕ → Option ℕ) → IsAsciiDigit digit → (base v : ℕ) (some : Bool) (s m : List ℕ) → number digit base v some s ≡ Some m → list_all is_ascii s ≡ true
number_ascii digit d base v some [] m h = refl
number_ascii digit d base v some (b ∷ s) m h = number_by digit d base v some b s m (b == 59) refl (λ w k. number_ascii digit d base w true s m k) h

base_by : (b : ℕ) (r m : List ℕ) (x : Bool) → (b == 120) ≡ x → cond x (number hex_digit 16 0 false r) (number decimal_digit 10 0 false (b ∷ r)) ≡ Some m
    → list_all is_ascii (b ∷ r) ≡ true
base_by b r m true e h = and_of _ _ (ap is_ascii (eqb-true b 120 e)) (number_ascii hex_digit hex_ascii 16 0 false r m h)
base_by b r m false e h = number_ascii decimal_digit decimal_ascii 10 0 false (b ∷ r) m h

number_reference_ascii : (r m : List ℕ) → number_reference r ≡ Some m → list_all is_ascii r ≡ true
number_reference_ascii [] m h = refl
number_reference_ascii (b ∷ r) m h = base_by b r m (b == 120) refl h

named_by : (r l m n : List ℕ) (other : Option (List ℕ)) (x : Bool) → bytes_eq r l ≡ x → list_all is_ascii l ≡ true
    → (other ≡ Some m → list_all is_ascii r ≡ true) → cond x (Some n) other ≡ Some m → list_all is_ascii r ≡ true
named_by r l m n other true e i f h = ap (list_all is_ascii) (same r l e) ∙ i
named_by r l m n other false e i f h = f h

no_name : (r m : List ℕ) → None ≡ Some m → list_all is_ascii r ≡ true
no_name r m h = cc

named_ascii : (r m : List ℕ) → named_reference r ≡ Some m → list_all is_ascii r ≡ true
named_ascii r m h =
    named_by r (codes "lt;") m _ _ _ refl refl (named_by r (codes "gt;") m _ _ _ refl refl (named_by r (codes "amp;") m _ _ _ refl refl
    (named_by r (codes "apos;") m _ _ _ refl refl (named_by r (codes "quot;") m _ None _ refl refl (no_name r m))))) h

stands_by : (b : ℕ) (r m : List ℕ) (x : Bool) → (b == 35) ≡ x → cond x (number_reference r) (named_reference (b ∷ r)) ≡ Some m → list_all is_ascii (b ∷ r) ≡ true
stands_by b r m true e h = and_of _ _ (ap is_ascii (eqb-true b 35 e)) (number_reference_ascii r m h)
stands_by b r m false e h = named_ascii (b ∷ r) m h

pub reference_ascii : (r m : List ℕ) → stands_for r ≡ Some m → list_all is_ascii r ≡ true
reference_ascii [] m h = refl
reference_ascii (b ∷ r) m h = stands_by b r m (b == 35) refl h
