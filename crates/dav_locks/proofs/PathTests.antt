-- Tests on paths, and what they say.
use Rattle.std.proofs.Common.{◌≡◌, ℕ, suc, ◌+◌, Bool, true, false, List, [], ◌∷◌, ◌++◌, length, refl, sym, ap, ◌∙◌, IsTrue, arith, length-append, eqb-true, eq-eqb}
use Rattle.std.specs.Prelude.{◌↔◌, ◌&&◌, ◌||◌}
use Rattle.std.proofs.lemmas.Bool.{false≢true, and_parts, and_from}
use Rattle.std.proofs.lemmas.Bool.Decides.{Decides-ltb}
use Rattle.std.proofs.lemmas.Slice.Eq.{slice_eq-Decides, bytes_eq-Decides}
use Rattle.dav_text.specs.Path.{PathParts, IsSame, IsUnder, IsParent}
use Rattle.dav_text.proofs.ReadLemmas.{longer_from_front, front_from_longer, deeper_from_longer}
use Rattle.dav_locks.specs.Paths.{same_segments, same_path, is_below, is_child}
use Rattle.dav_locks.specs.Submitted.{IsSubmitted, direct, from_above, from_below, of_parent, is_infinite, is_of_member, is_submitted}
use Rattle.dav_locks.specs.declared.lock.Lock.{Lock}
use Rattle.dav_locks.specs.declared.reach.Depth.{Depth}
use Rattle.dav_locks.specs.declared.reach.Depth.TheVariants.{Zero, Infinity}
use Rattle.dav_locks.specs.declared.reach.Use.{Use}
use Rattle.dav_locks.specs.declared.reach.Use.TheVariants.{Itself, Member}

to_same : (a b : List (List ℕ)) → a ≡ b → same_segments a b ≡ true
to_same a b e = (slice_eq-Decides bytes_eq-Decides a b (same_segments a b) refl).1 e

from_same : (a b : List (List ℕ)) → same_segments a b ≡ true → a ≡ b
from_same a b e = (slice_eq-Decides bytes_eq-Decides a b (same_segments a b) refl).0 e

from_below_test : (top path : PathParts) → is_below top path ≡ true → IsUnder path top
from_below_test top path is =
    let xs = path.segments in
    let ys = top.segments in
    let both = and_parts _ _ is in
    longer_from_front xs ys ((Decides-ltb (length ys) (length xs)).0 both.0) (from_same _ _ both.1)

to_below_test : (top path : PathParts) → IsUnder path top → is_below top path ≡ true
to_below_test top path under =
    let xs = path.segments in
    let ys = top.segments in
    and_from _ _ ((Decides-ltb (length ys) (length xs)).1 (deeper_from_longer xs ys under)) (to_same _ _ (front_from_longer xs ys under))

-- a list of one
only : (xs : List (List ℕ)) → length xs ≡ 1 → (x : List ℕ) × (xs ≡ x ∷ [])
only [] is = absurd (omega arith)
only (x ∷ []) is = (x, refl)
only (x ∷ y ∷ more) is = absurd (omega arith)

from_child_test : (parent path : PathParts) → is_child parent path ≡ true → IsParent parent path
from_child_test parent path is =
    let xs = path.segments in
    let ys = parent.segments in
    let both = and_parts _ _ is in
    let long : length xs ≡ suc (length ys) = eqb-true _ _ both.0 in
    let under = from_below_test parent path both.1 in
    let sum : length xs ≡ length ys + length under.rest = ap length under.split ∙ length-append ys under.rest in
    let one = only under.rest (omega arith) in
    record { name = one.0; split = under.split ∙ ap (λ (r : List (List ℕ)). ys ++ r) one.1 }

to_child_test : (parent path : PathParts) → IsParent parent path → is_child parent path ≡ true
to_child_test parent path child =
    let xs = path.segments in
    let ys = parent.segments in
    let long : length xs ≡ suc (length ys) = ap length child.split ∙ length-append ys (child.name ∷ []) ∙ omega arith in
    and_from _ _ (eq-eqb _ _ long) (to_below_test parent path (record { rest = child.name ∷ []; split = child.split; some = λ none. cc }))

-- two tests of one fact agree
same_test : (P : Type 0) (r b : Bool) → (r ≡ true → P) → (P → r ≡ true) → (b ≡ true → P) → (P → b ≡ true) → r ≡ b
same_test P true true from to bfrom bto = refl
same_test P true false from to bfrom bto = sym (bto (from refl))
same_test P false true from to bfrom bto = to (bfrom refl)
same_test P false false from to bfrom bto = refl

pub same_is : (a b : PathParts) (r : Bool) → (IsTrue r ↔ IsSame a b) → r ≡ same_path a b
same_is a b r h = same_test (IsSame a b) r (same_path a b) h.0 h.1 (from_same a.segments b.segments) (to_same a.segments b.segments)

pub below_is : (path top : PathParts) (r : Bool) → (IsTrue r ↔ IsUnder path top) → r ≡ is_below top path
below_is path top r h = same_test (IsUnder path top) r (is_below top path) h.0 h.1 (from_below_test top path) (to_below_test top path)

pub child_is : (parent path : PathParts) (r : Bool) → (IsTrue r ↔ IsParent parent path) → r ≡ is_child parent path
child_is parent path r h = same_test (IsParent parent path) r (is_child parent path) h.0 h.1 (from_child_test parent path) (to_child_test parent path)

-- ---- the four cases

is_reaching : (depth : Depth) → is_infinite depth ≡ true → depth ≡ Infinity
is_reaching Zero is = absurd (false≢true is)
is_reaching Infinity is = refl

is_changing : (how : Use) → is_of_member how ≡ true → how ≡ Member
is_changing Itself is = absurd (false≢true is)
is_changing Member is = refl

or_cases : {P : Type 0} (a b : Bool) → (a ≡ true → P) → (b ≡ true → P) → (a || b) ≡ true → P
or_cases true b left right is = left refl
or_cases false b left right is = right is

or_left : (a b : Bool) → a ≡ true → (a || b) ≡ true
or_left a b is = rw is refl

or_right : (a b : Bool) → b ≡ true → (a || b) ≡ true
or_right true b is = refl
or_right false b is = is

pub by_cases : (how : Use) (path : PathParts) (depth : Depth) (lock : Lock) → is_submitted how path depth lock ≡ true → IsSubmitted how path depth lock
by_cases how path depth lock =
    let same = same_path lock.root path in
    let above = is_infinite lock.depth && is_below lock.root path in
    let below = is_infinite depth && is_below path lock.root in
    let child = is_of_member how && is_child lock.root path in
    or_cases (same || above || below) child
    (or_cases (same || above) below
    (or_cases same above
    (λ is. direct (from_same lock.root.segments path.segments is))
    (λ is. let both = and_parts _ _ is in from_above (is_reaching lock.depth both.0) (from_below_test lock.root path both.1)))
    (λ is. let both = and_parts _ _ is in from_below (is_reaching depth both.0) (from_below_test path lock.root both.1)))
    (λ is. let both = and_parts _ _ is in of_parent (is_changing how both.0) (from_child_test lock.root path both.1))

pub by_test : (how : Use) (path : PathParts) (depth : Depth) (lock : Lock) → IsSubmitted how path depth lock → is_submitted how path depth lock ≡ true
by_test how path depth lock (direct same) =
    or_left _ _ (or_left _ _ (or_left _ _ (to_same lock.root.segments path.segments same)))
by_test how path depth lock (from_above reaches under) =
    or_left _ _ (or_left _ _ (or_right (same_path lock.root path) _ (and_from _ _ (ap is_infinite reaches) (to_below_test lock.root path under))))
by_test how path depth lock (from_below reaches under) =
    or_left _ _ (or_right (same_path lock.root path || (is_infinite lock.depth && is_below lock.root path)) _ (and_from _ _ (ap is_infinite reaches) (to_below_test path lock.root under)))
by_test how path depth lock (of_parent is parent) =
    or_right (same_path lock.root path || (is_infinite lock.depth && is_below lock.root path) || (is_infinite depth && is_below path lock.root)) _ (and_from _ _ (ap is_of_member is) (to_child_test lock.root path parent))
