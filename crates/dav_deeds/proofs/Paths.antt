-- Tests of paths, and what a test says.
use Rattle.std.proofs.Common.{◌≡◌, ℕ, Bool, true, false, ◌&&◌, ◌||◌, List, [], ◌∷◌, length, take, nat_eq, refl, sym, ◌∙◌, ap}
use Rattle.std.specs.Prelude.{nat_lt}
use Rattle.std.specs.Cmp.Lexicographic.{pointwise, same_text}
use Rattle.std.proofs.lemmas.Bool.{false≢true}
use Rattle.std.proofs.lemmas.Cmp.{nat_list_eq_equiv, lists_equiv}
use Rattle.dav_text.specs.Path.{PathParts}
use Rattle.dav_index.specs.Item.{Item}
use Rattle.dav_index.specs.Items.{same_segments, same_path, is_below, goes_with}

-- by a test
pub by_test : {A : Type 0} (b : Bool) → (b ≡ true → A) → (b ≡ false → A) → A
by_test true f g = f refl
by_test false f g = g refl

both_true : (a b : Bool) → (a && b) ≡ true → (a ≡ true) × (b ≡ true)
both_true true true h = (refl, refl)
both_true true false h = absurd (false≢true h)
both_true false b h = absurd (false≢true h)

pub segments_same : (a b : List (List ℕ)) → same_segments a b ≡ true → a ≡ b
segments_same [] [] h = refl
segments_same [] (y ∷ ys) h = absurd (false≢true h)
segments_same (x ∷ xs) [] h = absurd (false≢true h)
segments_same (x ∷ xs) (y ∷ ys) h =
    let parts : (pointwise nat_eq x y ≡ true) × (same_segments xs ys ≡ true) = both_true (pointwise nat_eq x y) (same_segments xs ys) h in
    let head : x ≡ y = same_text x y (sym parts.0) in
    let rest : xs ≡ ys = segments_same xs ys parts.1 in
    cc

pub segments_self : (a : List (List ℕ)) → same_segments a a ≡ true
segments_self a = (lists_equiv nat_list_eq_equiv).refl a

-- a path that is the same is the same for each test
pub same_of : (p q r : PathParts) → same_path p q ≡ true → same_path p r ≡ same_path q r
same_of p q r same = ap (λ (s : List (List ℕ)). same_segments s r.segments) (segments_same p.segments q.segments same)

pub same_to : (p q r : PathParts) → same_path p q ≡ true → same_path r p ≡ same_path r q
same_to p q r same = ap (λ (s : List (List ℕ)). same_segments r.segments s) (segments_same p.segments q.segments same)

pub same_self : (p : PathParts) → same_path p p ≡ true
same_self p = segments_self p.segments

pub same_back : (p q : PathParts) → same_path p q ≡ true → same_path q p ≡ true
same_back p q same = same_to p q q same ∙ same_self q

pub not_back : (p q : PathParts) → same_path p q ≡ false → same_path q p ≡ false
not_back p q other = by_test (same_path q p) (λ h. absurd (false≢true (sym other ∙ same_back q p h))) (λ h. h)

-- whether an entry of this path goes
abbrev pub goes_at : PathParts → Bool → PathParts → Bool
goes_at top below p = same_path top p || (below && is_below top p)

pub goes_like : (top : PathParts) (below : Bool) (p : PathParts) (x : Item) → same_path p x.path ≡ true → goes_with top below x ≡ goes_at top below p
goes_like top below p x same =
    let P : List (List ℕ) → Bool = λ (s : List (List ℕ)). same_segments top.segments s
    || (below && (nat_lt (length top.segments) (length s) && same_segments (take (length top.segments) s) top.segments)) in
    ap P (sym (segments_same p.segments x.path.segments same))
