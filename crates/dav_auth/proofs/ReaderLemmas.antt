-- What a reader of all bytes may say of them.
use Rattle.std.proofs.Common.{◌≡◌, ℕ, suc, ◌+◌, ◌<◌, ◌≤◌, Bool, true, false, List, [], ◌∷◌, ◌++◌, length, take, drop, get_or, refl, ap, sym, subst, ◌∙◌, append_assoc, arith, add-one, Option, Some, None}
use Rattle.std.proofs.Math.Seq.{take-suc, take-length}
use Rattle.std.proofs.lemmas.List.{append-nil, take-append-drop}
use Rattle.dav_auth.specs.Elements.{Elements}
use Rattle.dav_auth.specs.Kind.{kind_of}
use Rattle.dav_auth.specs.Reading.{IsBad}
use Rattle.dav_auth.specs.Scan.{step, finish, before, following, all_before, at_end, run}
use Rattle.dav_auth.specs.declared.piece.Piece.{Piece}
use Rattle.dav_auth.specs.declared.piece.Piece.TheVariants.{Scheme, Parameter}
use Rattle.dav_auth.specs.declared.place.Moved.{Moved}
use Rattle.dav_auth.specs.declared.place.Place.{Place}
use Rattle.dav_auth.specs.declared.place.Place.TheVariants.{Start, First, Spaces, Mixed, Tabs, Second, AfterSecond, Pad, AfterPad, Token68, Padding, AfterToken68, Name, AfterName, Equals, Token, String, Pair, AfterValue}
use Rattle.dav_auth.proofs.SoundLemmas.{sound}
use Rattle.dav_auth.proofs.CompleteLemmas.{complete}

-- bytes that go on to a list
record Goes (place : Place) : Type 0 where
  rest : List ℕ
  pieces : List Piece
  is : run rest place ≡ Some pieces

-- from each place some bytes go on to a list
alive : (place : Place) → Goes place
unfolding run
alive (Start may) = record { rest = []; pieces = []; is = refl }
alive (First may w) = record { rest = []; pieces = Scheme w ∷ []; is = refl }
alive (Spaces may w) = record { rest = []; pieces = Scheme w ∷ []; is = refl }
alive (Mixed may w) = record { rest = []; pieces = Scheme w ∷ []; is = refl }
alive (Tabs may w) = record { rest = []; pieces = Scheme w ∷ []; is = refl }
alive (Second w) = record { rest = []; pieces = []; is = refl }
alive (AfterSecond w) = record { rest = []; pieces = []; is = refl }
alive (Pad w) = record { rest = []; pieces = []; is = refl }
alive (AfterPad w) = record { rest = []; pieces = []; is = refl }
alive Token68 = record { rest = []; pieces = []; is = refl }
alive Padding = record { rest = []; pieces = []; is = refl }
alive AfterToken68 = record { rest = []; pieces = []; is = refl }
alive (Name n) = record { rest = 61 ∷ 120 ∷ []; pieces = Parameter n (120 ∷ []) ∷ []; is = refl }
alive (AfterName n) = record { rest = 61 ∷ 120 ∷ []; pieces = Parameter n (120 ∷ []) ∷ []; is = refl }
alive (Equals n) = record { rest = 120 ∷ []; pieces = Parameter n (120 ∷ []) ∷ []; is = refl }
alive (Token n v) = record { rest = []; pieces = Parameter n v ∷ []; is = refl }
alive (String n v) = record { rest = 34 ∷ []; pieces = Parameter n v ∷ []; is = refl }
alive (Pair n v) = record { rest = 120 ∷ 34 ∷ []; pieces = Parameter n (v ++ 120 ∷ []) ∷ []; is = refl }
alive AfterValue = record { rest = []; pieces = []; is = refl }

-- whatever follows these bytes, it is read as from the place, behind the parts
abbrev pub Reads : Bool → List ℕ → List Piece → Place → Type 0
Reads may front pieces place = (rest : List ℕ) → run (front ++ rest) (Start may) ≡ all_before pieces (run rest place)

nothing_before : (o : Option (List Piece)) → o ≡ all_before [] o
nothing_before None = refl
nothing_before (Some others) = refl

-- nothing is read yet
pub reads_none : (may : Bool) → Reads may [] [] (Start may)
reads_none may rest = nothing_before (run rest (Start may))

-- parts known one after another
before_is : (pieces : List Piece) (piece : Option Piece) (o : Option (List Piece)) → all_before pieces (before piece o) ≡ all_before (pieces ++ at_end piece) o
before_is pieces None None = refl
before_is pieces None (Some others) = ap (λ ps. Some (ps ++ others)) (sym (append-nil pieces))
before_is pieces (Some piece) None = refl
before_is pieces (Some piece) (Some others) = ap (λ ps. Some ps) (sym (append_assoc pieces (piece ∷ []) others))

-- one byte more
pub reads_more : (may : Bool) (front : List ℕ) (pieces : List Piece) (place : Place) (b : ℕ) (moved : Moved) → Reads may front pieces place
    → step place (kind_of b) b ≡ Some moved → Reads may (front ++ b ∷ []) (pieces ++ at_end moved.piece) moved.place
unfolding run
reads_more may front pieces place b moved reads leads rest =
    ap (λ t. run t (Start may)) (append_assoc front (b ∷ []) rest) ∙ reads (b ∷ rest)
    ∙ ap (λ m. all_before pieces (following m (λ p. run rest p))) leads ∙ before_is pieces moved.piece (run rest moved.place)

-- all bytes
pub whole_list : (may : Bool) (text : List ℕ) (pieces : List Piece) (place : Place) (last : Option Piece) → Reads may text pieces place
    → Some (at_end last) ≡ finish place → Elements may (pieces ++ at_end last) text
unfolding run
whole_list may text pieces place last reads ends =
    sound may text (pieces ++ at_end last)
    (ap (λ t. run t (Start may)) (sym (append-nil text)) ∙ reads [] ∙ ap (λ o. all_before pieces o) (sym ends))

-- nothing is before the end of what is read
all_none : (pieces : List Piece) → all_before pieces None ≡ None
all_none pieces = refl

none_is : {A : Type 0} (a : A) (o : Option A) → o ≡ None → o ≡ Some a → ⊥
none_is a o e f = cc

goes_on : (may : Bool) (front : List ℕ) (pieces : List Piece) (place : Place) → Reads may front pieces place
    → (rest : List ℕ) × (others : List Piece) × Elements may others (front ++ rest)
goes_on may front pieces place reads =
    let g = alive place in
    (g.rest, pieces ++ g.pieces, sound may (front ++ g.rest) (pieces ++ g.pieces) (reads g.rest ∙ ap (λ o. all_before pieces o) g.is))

at_all : (may : Bool) (text : List ℕ) → (rest : List ℕ) × (others : List Piece) × Elements may others (text ++ rest)
    → (rest : List ℕ) × (others : List Piece) × Elements may others (take (length text) text ++ rest)
at_all may text goes =
    let P : List ℕ → Type 0 = λ t. (rest : List ℕ) × (others : List Piece) × Elements may others (t ++ rest) in
    subst P (sym (take-length text)) goes

-- the bytes end inside a list
pub bad_at_end : (may : Bool) (text : List ℕ) (pieces : List Piece) (place : Place) → Reads may text pieces place → finish place ≡ None
    → IsBad may text (length text)
unfolding run
bad_at_end may text pieces place reads ends = record {
  within = omega arith;
  none = λ others is.
      none_is others (run text (Start may))
      (ap (λ t. run t (Start may)) (sym (append-nil text)) ∙ reads [] ∙ ap (λ o. all_before pieces o) ends) (complete is);
  goes_on = at_all may text (goes_on may text pieces place reads);
  stops = λ before_end. absurd (omega (arith, before_end));
}

-- with a byte that leads nowhere no list goes on
leads_nowhere : (may : Bool) (front : List ℕ) (pieces : List Piece) (place : Place) (b : ℕ) → Reads may front pieces place → step place (kind_of b) b ≡ None
    → (rest : List ℕ) → run ((front ++ b ∷ []) ++ rest) (Start may) ≡ None
unfolding run
leads_nowhere may front pieces place b reads nowhere rest =
    ap (λ t. run t (Start may)) (append_assoc front (b ∷ []) rest) ∙ reads (b ∷ rest) ∙ ap (λ m. all_before pieces (following m (λ p. run rest p))) nowhere

-- the first byte that no list has there
pub bad_at_byte : (may : Bool) (text : List ℕ) (i : ℕ) (pieces : List Piece) (place : Place) → i < length text → Reads may (take i text) pieces place
    → step place (kind_of (get_or text i 0)) (get_or text i 0) ≡ None → IsBad may text i
bad_at_byte may text i pieces place within reads nowhere =
    let b : ℕ = get_or text i 0 in
    let one : take (suc i) text ≡ take i text ++ b ∷ [] = take-suc text i 0 within in
    let none_from : (rest : List ℕ) → run (take (suc i) text ++ rest) (Start may) ≡ None =
    λ rest. ap (λ t. run (t ++ rest) (Start may)) one ∙ leads_nowhere may (take i text) pieces place b reads nowhere rest in
    record {
      within = omega arith;
      none = λ others is.
          none_is others (run text (Start may))
          (ap (λ t. run t (Start may)) (sym (take-append-drop (suc i) text)) ∙ none_from (drop (suc i) text)) (complete is);
      goes_on = goes_on may (take i text) pieces place reads;
      stops = λ inside rest others is. none_is others (run (take (suc i) text ++ rest) (Start may)) (none_from rest) (complete is);
    }
