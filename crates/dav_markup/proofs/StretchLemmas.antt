-- Stretches with one byte more.
use Rattle.std.proofs.Common.{◌≡◌, ℕ, ◌+◌, ◌<◌, ◌≤◌, Bool, List, [], ◌∷◌, ◌++◌, length, take, get_or, refl, ap, sym, ◌∙◌, append_assoc, arith, Option, Some, None}
use Rattle.std.proofs.lemmas.List.{append-nil, take_more}
use Rattle.dav_doc.specs.Characters.{Owed, owed_after, owed_by, on_owed}
use Rattle.dav_doc.specs.Names.{Plain, Qualified}
use Rattle.dav_markup.specs.Stretch.{after_alike, after_all, longer_by}

on_some : (p : ℕ → Bool) (x : Option Owed) → on_owed x (after_all p []) ≡ x
on_some p None = refl
on_some p (Some o) = refl

more_by : (p : ℕ → Bool) (s : List ℕ) (b : ℕ) (v : Owed) (x : Option Owed)
    → ((o : Owed) → after_all p s o ≡ Some v → after_all p (s ++ (b ∷ [])) o ≡ after_alike p v b)
    → on_owed x (after_all p s) ≡ Some v → on_owed x (after_all p (s ++ (b ∷ []))) ≡ after_alike p v b
more_by p s b v None f h = absurd cc
more_by p s b v (Some o) f h = f o h

pub after_more : (p : ℕ → Bool) (s : List ℕ) (b : ℕ) (o v : Owed) → after_all p s o ≡ Some v → after_all p (s ++ (b ∷ [])) o ≡ after_alike p v b
after_more p [] b o v h = let e : o ≡ v = cc in on_some p (after_alike p o b) ∙ ap (λ z. after_alike p z b) e
after_more p (c ∷ s) b o v h = more_by p s b v (after_alike p o c) (λ q. after_more p s b q v) h

-- the next byte is one of these too
pub all_more : (p : ℕ → Bool) (s : List ℕ) (i : ℕ) (o v w : Owed) → i < length s → after_all p (take i s) o ≡ Some v → Some w ≡ after_alike p v (get_or s i 0)
    → after_all p (take (i + 1) s) o ≡ Some w
all_more p s i o v w h f g =
    ap (λ z. after_all p z o) (take_more s i 0 h) ∙ after_more p (take i s) (get_or s i 0) o v f ∙ sym g

owing_some : (x : Option Owed) → on_owed x (owed_by []) ≡ x
owing_some None = refl
owing_some (Some o) = refl

owing_by : (s : List ℕ) (b : ℕ) (v : Owed) (x : Option Owed) → ((o : Owed) → owed_by s o ≡ Some v → owed_by (s ++ (b ∷ [])) o ≡ owed_after v b)
    → on_owed x (owed_by s) ≡ Some v → on_owed x (owed_by (s ++ (b ∷ []))) ≡ owed_after v b
owing_by s b v None f h = absurd cc
owing_by s b v (Some o) f h = f o h

pub owing_more : (s : List ℕ) (b : ℕ) (o v : Owed) → owed_by s o ≡ Some v → owed_by (s ++ (b ∷ [])) o ≡ owed_after v b
owing_more [] b o v h = let e : o ≡ v = cc in owing_some (owed_after o b) ∙ ap (λ z. owed_after z b) e
owing_more (c ∷ s) b o v h = owing_by s b v (owed_after o c) (λ q. owing_more s b q v) h

-- so many bytes are in common
pub record AreShared (word : List ℕ) (o : Owed) (s : List ℕ) (n : ℕ) (behind : Owed) : Type 0 where
  pub within : n ≤ length s
  pub short : n ≤ length word
  pub same : take n s ≡ take n word
  pub owed : owed_by (take n s) o ≡ Some behind

-- the next byte is in common too
pub shared_more : (word : List ℕ) (o : Owed) (s : List ℕ) (n : ℕ) (v w : Owed) → AreShared word o s n v → n < length s → n < length word
    → get_or s n 0 ≡ get_or word n 0 → Some w ≡ owed_after v (get_or s n 0) → AreShared word o s (n + 1) w
shared_more word o s n v w a h g e f = record {
  within = omega arith;
  short = omega arith;
  same = take_more s n 0 h ∙ ap (λ z. z ++ (get_or s n 0 ∷ [])) a.same ∙ ap (λ z. take n word ++ (z ∷ [])) e ∙ sym (take_more word n 0 g);
  owed = ap (λ z. owed_by z o) (take_more s n 0 h) ∙ owing_more (take n s) (get_or s n 0) o v a.owed ∙ sym f;
}

pub longer_plain : (l s : List ℕ) → longer_by (Plain l) s ≡ Plain (l ++ s)
longer_plain l [] = ap Plain (sym (append-nil l))
longer_plain l (b ∷ s) = longer_plain (l ++ (b ∷ [])) s ∙ ap Plain (append_assoc l (b ∷ []) s)

pub longer_qualified : (p l s : List ℕ) → longer_by (Qualified p l) s ≡ Qualified p (l ++ s)
longer_qualified p l [] = ap (Qualified p) (sym (append-nil l))
longer_qualified p l (b ∷ s) = longer_qualified p (l ++ (b ∷ [])) s ∙ ap (Qualified p) (append_assoc l (b ∷ []) s)
