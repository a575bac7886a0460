-- What a stop may leave of one file.
use Rattle.std.proofs.Common.{◌≡◌, ◌⊎◌, inl, inr, ℕ, ◌+◌, ◌-◌, ◌<◌, ◌≤◌, Bool, true, false, List, [], ◌∷◌, length, get_or, take, drop, leb, if◌then◌else◌, refl, sym, ◌∙◌, ap, subst, arith}
use Rattle.std.proofs.lemmas.List.{ext_get_or, length-take-le, get_or-take, get_or-drop, length-drop}
use Rattle.std.proofs.lemmas.Bool.Decides.{nat_tests}
use Rattle.dav_disk.specs.Disk.{Doubt, IsOutside, IsOutcome, settled, touched_by_write, with_change, after_write}
use Rattle.dav_disk.specs.declared.change.Change.{Change}
use Rattle.dav_disk.specs.declared.change.Change.TheVariants.{Span, Tail}

-- a stop leaves what is settled, and nothing else
pub settled_only : (bytes c : List ℕ) → IsOutcome (settled bytes) c → c ≡ bytes
settled_only bytes c left = ext_get_or 0 c bytes (omega (arith, left.no_shorter, left.no_longer)) (λ i lt. left.kept i lt tt)

pub settled_outcome : (bytes : List ℕ) → IsOutcome (settled bytes) bytes
settled_outcome bytes = record { no_shorter = omega arith; no_longer = omega arith; kept = λ i lt out. refl }

-- a file of which nothing was settled but that it is empty
pub settled_is : {d : Doubt} {bytes : List ℕ} → d ≡ settled bytes → (c : List ℕ) → IsOutcome d c → c ≡ bytes
settled_is {d} {bytes} is c left = settled_only bytes c (subst (λ (e : Doubt). IsOutcome e c) is left)

below_change : (b : Bool) (i at end : ℕ) → i < at → IsOutside i ((if b then Span at end else Tail at) ∷ [])
below_change true i at end lt = (inl lt, tt)
below_change false i at end lt = (lt, tt)

pub below_write : (i at n size : ℕ) → i < at → IsOutside i (touched_by_write at n size ∷ [])
below_write i at n size lt = below_change (leb (at + n) size) i at (at + n) lt

pub write_within : (at n size : ℕ) → at + n ≤ size → touched_by_write at n size ≡ Span at (at + n)
write_within at n size le = let e : leb (at + n) size ≡ true = grind (arith, nat_tests) in ap (λ (b : Bool). if b then Span at (at + n) else Tail at) e

-- an outcome of a write is one of the touched range, or of before where the write would end past the greatest u64
either_write : (b : Bool) (change : Change) (end : ℕ) (old c : List ℕ) → IsOutcome (if b then with_change change end (settled old) else settled old) c
    → IsOutcome (with_change change end (settled old)) c ⊎ (c ≡ old)
either_write true change end old c left = inl left
either_write false change end old c left = inr (settled_only old c left)

pub write_either : (at n : ℕ) (old c : List ℕ) → IsOutcome (after_write at n (length old) (settled old)) c
    → IsOutcome (with_change (touched_by_write at n (length old)) (at + n) (settled old)) c ⊎ (c ≡ old)
write_either at n old c left = either_write (leb (at + n) 18446744073709551615) (touched_by_write at n (length old)) (at + n) old c left

same_front : (n : ℕ) (c d : List ℕ) → n ≤ length c → n ≤ length d → ((i : ℕ) → i < n → get_or c i 0 ≡ get_or d i 0) → take n c ≡ take n d
same_front n c d lc ld same = ext_get_or 0 (take n c) (take n d) (length-take-le n c lc ∙ sym (length-take-le n d ld))
    (λ i lt. let below : i < n = omega (arith, length-take-le n c lc) in get_or-take n c i 0 below ∙ same i below ∙ sym (get_or-take n d i 0 below))

-- what stands before a write stays
pub write_keeps_front : (at n : ℕ) (old c : List ℕ) → at ≤ length old → IsOutcome (after_write at n (length old) (settled old)) c → take at c ≡ take at old
write_keeps_front at n old c le left = elim (write_either at n old c left) [
  | inl torn ↦ same_front at c old (omega (arith, torn.no_shorter)) le (λ i lt. torn.kept i (omega (arith, torn.no_shorter)) (below_write i at n (length old) lt))
  | inr same ↦ ap (λ (l : List ℕ). take at l) same
]

-- a write within a file keeps its length, and what stands behind
pub write_within_length : (at n : ℕ) (old c : List ℕ) → at + n ≤ length old → IsOutcome (after_write at n (length old) (settled old)) c → length c ≡ length old
write_within_length at n old c le left = elim (write_either at n old c left) [
  | inl torn ↦ omega (arith, torn.no_shorter, torn.no_longer)
  | inr same ↦ ap length same
]

pub write_within_back : (at n : ℕ) (old c : List ℕ) → at + n ≤ length old → IsOutcome (after_write at n (length old) (settled old)) c → drop (at + n) c ≡ drop (at + n) old
write_within_back at n old c le left = elim (write_either at n old c left) [
  | inl torn ↦
      let long : length c ≡ length old = omega (arith, torn.no_shorter, torn.no_longer) in
      ext_get_or 0 (drop (at + n) c) (drop (at + n) old) (length-drop (at + n) c ∙ ap (λ (l : ℕ). l - (at + n)) long ∙ sym (length-drop (at + n) old))
      (λ i lt.
      let inside : at + n + i < length c = omega (arith, length-drop (at + n) c) in
      let out : IsOutside (at + n + i) (touched_by_write at n (length old) ∷ []) = subst (λ (w : Change). IsOutside (at + n + i) (w ∷ [])) (sym (write_within at n (length old) le)) (inr (omega arith), tt) in
      get_or-drop (at + n) c i 0 ∙ torn.kept (at + n + i) inside out ∙ sym (get_or-drop (at + n) old i 0))
  | inr same ↦ ap (λ (l : List ℕ). drop (at + n) l) same
]
