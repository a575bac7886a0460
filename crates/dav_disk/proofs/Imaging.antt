-- That a chosen image is one of those that a stop may leave, and that each of these can be chosen.
use Rattle.std.proofs.Common.{◌≡◌, ◌⊎◌, inl, inr, ℕ, ◌-◌, ◌<◌, ◌≤◌, min, max, List, length, get_or, take, sym, ◌∙◌, ap, subst, arith}
use Rattle.std.proofs.lemmas.List.{ext_get_or, take_all}
use Rattle.std.specs.Prelude.{Result, Ok, Err, IfOk, Vec}
use Rattle.std.specs.declared.alloc.Global.{Global}
use Rattle.std.proofs.lemmas.Bool.{cases_lt}
use Rattle.dav_disk.specs.Disk.{IsOutcome}
use Rattle.dav_disk.specs.Image.{Shows, IsPicked}
use Rattle.dav_disk.specs.Record.{FileState, state_of, past_of, IsFair}
use Rattle.dav_disk.specs.declared.call.Call.{Call}

pub is_image : (s : FileState) (seen synced bytes wish : List ℕ) (least greatest len : ℕ) → Shows seen synced least greatest s → IsOutcome s.doubt s.seen → length bytes ≡ len → len ≡ min (max (length wish) least) greatest
    → ((i : ℕ) → i < len → IsPicked s synced wish bytes i) → IsOutcome s.doubt bytes
is_image s seen synced bytes wish least greatest len shows fair long clamped each = record {
  no_shorter = omega (arith, shows.shortest, shows.longest, fair.no_shorter, fair.no_longer);
  no_longer = omega (arith, shows.shortest, shows.longest, fair.no_shorter, fair.no_longer);
  kept = λ i lt out. elim (each i (omega arith)) [
    | inl spared ↦ spared.1 ∙ ap (λ (l : List ℕ). get_or l i 0) shows.settled
    | inr touched ↦ absurd (touched.0 out)
  ];
}

pub that_image : (s : FileState) (seen synced bytes wish : List ℕ) (least greatest len : ℕ) → Shows seen synced least greatest s → length bytes ≡ len → len ≡ min (max (length wish) least) greatest
    → ((i : ℕ) → i < len → IsPicked s synced wish bytes i) → IsOutcome s.doubt wish → bytes ≡ wish
that_image s seen synced bytes wish least greatest len shows long clamped each left =
    let same : length bytes ≡ length wish = omega (arith, shows.shortest, shows.longest, left.no_shorter, left.no_longer) in
    ext_get_or 0 bytes wish same (λ i lt. elim (each i (omega arith)) [
      | inl spared ↦ spared.1 ∙ ap (λ (l : List ℕ). get_or l i 0) shows.settled ∙ sym (left.kept i (omega arith) spared.0)
      | inr touched ↦ touched.1
    ])

-- at a moment past the end of the record stands what stands at its end
pub at_moment : (first : ℕ) (calls : List Call) (moment count : ℕ) → count ≡ min (moment - first) (length calls) → take count calls ≡ take (moment - first) calls
at_moment first calls moment count is = elim (cases (moment - first) (length calls)) [
  | inl below ↦ ap (λ (n : ℕ). take n calls) (omega arith)
  | inr past ↦ take_all count calls (omega arith) ∙ sym (take_all (moment - first) calls past)
]
  where
    cases : (a b : ℕ) → (a ≤ b) ⊎ (b ≤ a)
    cases a b = elim (cases_lt a b) [ inl lt ↦ inl (omega arith) | inr le ↦ inr le ]

both_ok : {E : Type 0} (r : Result (Vec ℕ Global) E) (P Q R : Vec ℕ Global → Type 0) → IfOk r P → IfOk r Q → ((v : Vec ℕ Global) → P v → Q v → R v) → IfOk r R
both_ok (Ok v) P Q R p q f = f v p q
both_ok (Err e) P Q R p q f = tt

module _ {E : Type 0} (r : Result (Vec ℕ Global) E) (first moment file : ℕ) (calls used : List Call) (seen synced wish : List ℕ) (least greatest len : ℕ)
    (of_moment : used ≡ take (moment - first) calls) (fair : IsFair used) (shows : Shows seen synced least greatest (state_of file used)) (clamped : len ≡ min (max (length wish) least) greatest)
    (long : IfOk r (λ v. length v.items ≡ len)) (each : IfOk r (λ v. (i : ℕ) → i < len → IsPicked (state_of file used) synced wish v.items i)) where
  pub one_image : IfOk r (λ v. IsOutcome (past_of first calls moment file) v.items)
  one_image = both_ok r (λ v. length v.items ≡ len) (λ v. (i : ℕ) → i < len → IsPicked (state_of file used) synced wish v.items i) (λ v. IsOutcome (past_of first calls moment file) v.items) long each
      (λ v l e. subst (λ (c : List Call). IsOutcome (state_of file c).doubt v.items) of_moment (is_image (state_of file used) seen synced v.items wish least greatest len shows (fair.reads file) l clamped e))

  pub any_image : IsOutcome (past_of first calls moment file) wish → IfOk r (λ v. v.items ≡ wish)
  any_image left = both_ok r (λ v. length v.items ≡ len) (λ v. (i : ℕ) → i < len → IsPicked (state_of file used) synced wish v.items i) (λ v. v.items ≡ wish) long each
      (λ v l e. that_image (state_of file used) seen synced v.items wish least greatest len shows l clamped e (subst (λ (c : List Call). IsOutcome (state_of file c).doubt wish) (sym of_moment) left))
