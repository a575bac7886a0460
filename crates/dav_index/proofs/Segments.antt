-- Tests on paths, and what they say.
use Rattle.std.proofs.Common.{◌≡◌, ℕ, Bool, true, false, List, length, refl, sym, ap, ◌∙◌, IsTrue}
use Rattle.std.specs.Prelude.{◌↔◌, ◌&&◌, nat_lt}
use Rattle.std.specs.Ordering.{nat_cmp, is_lt, ordering_reverse}
use Rattle.std.specs.declared.cmp.Ordering.{Ordering}
use Rattle.std.specs.declared.cmp.Ordering.TheVariants.{Less, Equal, Greater}
use Rattle.std.specs.Cmp.Lexicographic.{slice_cmp, nat_list_cmp_total}
use Rattle.std.proofs.lemmas.Bool.{false≢true}
use Rattle.std.proofs.lemmas.Bool.Decides.{Decides-ltb}
use Rattle.std.proofs.lemmas.Slice.Eq.{slice_eq-Decides, bytes_eq-Decides}
use Rattle.dav_text.specs.Path.{PathParts, IsSame, IsUnder, IsLonger}
use Rattle.dav_text.proofs.ReadLemmas.{longer_from_front, front_from_longer, deeper_from_longer}
use Rattle.dav_index.specs.Items.{same_segments, same_path, is_below, comes_before, key_of}

pub same_true : (a b : List (List ℕ)) → a ≡ b → same_segments a b ≡ true
same_true a b e = (slice_eq-Decides bytes_eq-Decides a b (same_segments a b) refl).1 e

pub from_same : (a b : List (List ℕ)) → same_segments a b ≡ true → a ≡ b
from_same a b e = (slice_eq-Decides bytes_eq-Decides a b (same_segments a b) refl).0 e

pub not_true : (b : Bool) → (b ≡ true → ⊥) → b ≡ false
not_true true h = absurd (h refl)
not_true false h = refl

-- two tests of one fact agree
pub same_test : (P : Type 0) (r b : Bool) → (r ≡ true → P) → (P → r ≡ true) → (b ≡ true → P) → (P → b ≡ true) → r ≡ b
same_test P true true from to bfrom bto = refl
same_test P true false from to bfrom bto = sym (bto (from refl))
same_test P false true from to bfrom bto = to (bfrom refl)
same_test P false false from to bfrom bto = refl

pub same_is : (a b : PathParts) (r : Bool) → (IsTrue r ↔ IsSame a b) → r ≡ same_path a b
same_is a b r h = same_test (a.segments ≡ b.segments) r (same_path a b) h.0 h.1 (from_same a.segments b.segments) (same_true a.segments b.segments)

pub and_first : (a b : Bool) → (a && b) ≡ true → a ≡ true
and_first true b h = refl
and_first false b h = h

pub and_second : (a b : Bool) → (a && b) ≡ true → b ≡ true
and_second true b h = h
and_second false b h = absurd (false≢true h)

pub and_both : (a b : Bool) → a ≡ true → b ≡ true → (a && b) ≡ true
and_both a b p q = ap (λ c. c && b) p ∙ q

pub below_is : (path top : PathParts) (r : Bool) → (IsTrue r ↔ IsUnder path top) → r ≡ is_below top path
below_is path top r h =
    let xs = path.segments in
    let ys = top.segments in
    same_test (IsLonger xs ys) r (is_below top path) h.0 h.1
    (λ e. longer_from_front xs ys ((Decides-ltb (length ys) (length xs)).0 (and_first _ _ e)) (from_same _ _ (and_second (nat_lt (length ys) (length xs)) _ e)))
    (λ longer. and_both _ _ ((Decides-ltb (length ys) (length xs)).1 (deeper_from_longer xs ys longer)) (same_true _ _ (front_from_longer xs ys longer)))

pub same_refl : (a : PathParts) → same_path a a ≡ true
same_refl a = same_true a.segments a.segments refl

pub other_sym : (a b : PathParts) → same_path a b ≡ false → same_path b a ≡ false
other_sym a b f = not_true (same_path b a) (λ e. false≢true (sym f ∙ same_true a.segments b.segments (sym (from_same b.segments a.segments e))))

-- the order of paths by their texts
abbrev pub order : PathParts → PathParts → Ordering
order a b = slice_cmp nat_cmp (key_of a) (key_of b)

less_from : (o : Ordering) → is_lt o ≡ true → o ≡ Less
less_from Less e = refl
less_from Equal e = absurd (false≢true e)
less_from Greater e = absurd (false≢true e)

-- what does not come before one path does not come before an earlier one
pub stays_behind : (a b c : PathParts) → comes_before a b ≡ true → comes_before c b ≡ false → comes_before c a ≡ false
stays_behind a b c before behind =
    not_true (comes_before c a)
    (λ e. false≢true (sym behind ∙ ap is_lt (nat_list_cmp_total.trans (key_of c) (key_of a) (key_of b) (less_from (order c a) e) (less_from (order a b) before))))

no_less : Less ≡ Greater → ⊥
no_less e = cc

pub not_before_itself : (a : PathParts) → comes_before a a ≡ false
not_before_itself a = by (order a a) (nat_list_cmp_total.antisymm (key_of a) (key_of a))
  where
    by : (o : Ordering) → o ≡ ordering_reverse o → is_lt o ≡ false
    by Less e = absurd (no_less e)
    by Equal e = refl
    by Greater e = refl

pub not_both_ways : (a b : PathParts) → comes_before a b ≡ true → comes_before b a ≡ false
not_both_ways a b before = stays_behind a b b before (not_before_itself b)
