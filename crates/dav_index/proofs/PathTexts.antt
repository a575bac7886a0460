-- The texts of paths.
use Rattle.std.proofs.Common.{◌≡◌, ◌≢◌, ℕ, ◌<◌, ◌≤◌, Bool, true, false, List, [], ◌∷◌, ◌++◌, length, Result, Ok, Err, refl, sym, ap, subst, ◌∙◌, arith, length-append}
use Rattle.std.specs.Str.{IsUtf8}
use Rattle.std.proofs.lemmas.Str.{IsUtf8-from_ascii}
use Rattle.std.proofs.lemmas.Slice.Eq.{bytes_eq-Decides}
use Rattle.std.proofs.lemmas.Bool.{false≢true}
use Rattle.std.specs.Str.{bytes_eq}
use Rattle.dav_text.specs.Path.{PathParts, IsPath, escaped, escaped_parts}
use Rattle.dav_text.specs.Reading.{path_of}
use Rattle.dav_text.specs.declared.fault.PathFault.{PathFault}
use Rattle.dav_text.proofs.PathLemmas.{IsAscii-escaped}
use Rattle.dav_text.proofs.RoundTrip.{read_back}
use Rattle.dav_index.specs.Records.{IsBare}

-- the text of a path is text
pub utf8_of : (path : PathParts) (text : List ℕ) → escaped path ≡ text → IsUtf8 text
utf8_of path text e = subst IsUtf8 e (IsUtf8-from_ascii (escaped path) (IsAscii-escaped path))

-- what is the text of a path is read as that path
pub read_as : (path : PathParts) (text : List ℕ) → IsPath path → escaped path ≡ text → path_of text ≡ Ok path
read_as path text is e = sym (ap path_of e) ∙ read_back path is

same_ok : (p q : PathParts) → ◌≡◌ {A = Result PathParts PathFault} (Ok p) (Ok q) → p ≡ q
same_ok p q e = cc

no_ok : (p : PathParts) (f : PathFault) → ◌≡◌ {A = Result PathParts PathFault} (Ok p) (Err f) → ⊥
no_ok p f e = cc

-- a text is that of one path
pub one_path : (p q : PathParts) (text : List ℕ) → path_of text ≡ Ok p → IsPath q → escaped q ≡ text → p ≡ q
one_path p q text read is e = same_ok p q (sym read ∙ read_as q text is e)

-- a text that isn't read as a path is that of none
pub no_path : (f : PathFault) (text : List ℕ) → path_of text ≡ Err f → (path : PathParts) → IsPath path → escaped path ≡ text → ⊥
no_path f text read path is e = no_ok path f (sym (read_as path text is e) ∙ read)

-- two paths have one text only if they are one
pub same_text : (p q : PathParts) → IsPath p → IsPath q → escaped p ≡ escaped q → p ≡ q
same_text p q left right e = one_path p q (escaped q) (read_as p (escaped q) left e) right refl

too_long : (first : ℕ) (text : List ℕ) → length ((first ∷ text) ++ 47 ∷ []) ≤ 1 → ⊥
too_long first text short = absurd (omega (arith, length-append (first ∷ text) (47 ∷ [])))

-- a path with a segment and a slash at its end has a longer text than a slash
pub long_text : (path : PathParts) → path.slash ≡ true → length (escaped path) ≤ 1 → path.segments ≡ []
long_text path slash short = by path.segments path.slash slash short
  where
    by : (segments : List (List ℕ)) (slash : Bool) → slash ≡ true → length (escaped_parts segments slash) ≤ 1 → segments ≡ []
    by [] slash is short = refl
    by (segment ∷ segments) true is short = absurd (too_long 47 _ short)
    by (segment ∷ segments) false is short = absurd (let no : false ≡ true = is in cc)

-- the text of a path without segments is a slash
pub short_text : (path : PathParts) → path.segments ≡ [] → length (escaped path) ≡ 1
short_text path none = ap (λ segments. length (escaped_parts segments path.slash)) none

pub same_bytes : (xs ys : List ℕ) → bytes_eq xs ys ≡ true → xs ≡ ys
same_bytes xs ys e = (bytes_eq-Decides xs ys).0 e

pub other_bytes : (xs ys : List ℕ) → bytes_eq xs ys ≡ false → xs ≢ ys
other_bytes xs ys f e = false≢true (sym f ∙ (bytes_eq-Decides xs ys).1 e)

-- the text of an entry's path is that of no other path
pub slash_alone : (p q : PathParts) (text : List ℕ) → IsPath p → escaped p ≡ text → IsBare q → escaped q ≡ text → p.slash ≡ true → 1 < length text → ⊥
slash_alone p q text is e other f slash long =
    let same : p ≡ q = same_text p q is other.is_path (e ∙ sym f) in
    let none : q.segments ≡ [] = other.top_alone (sym (ap (λ (r : PathParts). r.slash) same) ∙ slash) in
    absurd (omega (arith, short_text q none, ap length f))

pub bare_alone : (p : PathParts) (text : List ℕ) → IsPath p → escaped p ≡ text → (p.slash ≡ true → length text ≤ 1) → IsBare p
bare_alone p text is e short = record { is_path = is; top_alone = λ slash. long_text p slash (omega (arith, ap length e, short slash)) }
