-- Lists of parameters are lists whose parts are parameters alone, and a list has one reading.
use Rattle.std.proofs.Common.{◌≡◌, ℕ, Bool, true, false, List, [], ◌∷◌, ◌++◌, map, codes, if◌then◌else◌, refl, ap, sym, subst, ◌∙◌, Option, Some, None}
use Rattle.std.specs.List.{list_any}
use Rattle.dav_auth.specs.Grammar.{Parameter as Named, Among, Parameters}
use Rattle.dav_auth.specs.Grammar.Parameters.{blank as blank_list, last as last_list, empty as empty_list, more as more_list}
use Rattle.dav_auth.specs.Elements.{piece_of, Element, Elements, Challenges}
use Rattle.dav_auth.specs.Elements.Element.{alone, spaced, token68, first, next}
use Rattle.dav_auth.specs.Elements.Elements.{blank, last, empty, more}
use Rattle.dav_auth.specs.Chosen.{parameters_in}
use Rattle.dav_auth.specs.Info.{is_scheme, first_text, said_in}
use Rattle.dav_auth.specs.Reading.{IsBad}
use Rattle.dav_auth.specs.Scan.{run}
use Rattle.dav_auth.specs.declared.piece.Piece.{Piece}
use Rattle.dav_auth.specs.declared.piece.Piece.TheVariants.{Scheme, Parameter}
use Rattle.dav_auth.specs.declared.place.Place.TheVariants.{Start}
use Rattle.dav_auth.proofs.CompleteLemmas.{complete}

same : (one other : List Piece) (o : Option (List Piece)) → o ≡ Some one → o ≡ Some other → one ≡ other
same one other o e f = cc

none_is_some : (text : List ℕ) → (let o : Option (List ℕ) = None in o) ≡ Some text → ⊥
none_is_some text e = cc

-- a text is one list at most
pub one_list : (may : Bool) (text : List ℕ) (one other : List Piece) → Elements may one text → Elements may other text → one ≡ other
one_list may text one other is_one is_other = same one other (run text (Start may)) (complete is_one) (complete is_other)

-- parameters are elements
pub as_elements : {ps : List Named} {text : List ℕ} → Parameters ps text → Elements true (map piece_of ps) text
as_elements (blank_list {text = text} k) = blank text k
as_elements (last_list {text = text} a) = last text (next text a)
as_elements (empty_list text k onward) = empty text k (as_elements onward)
as_elements (more_list text a onward) = more text (next text a) (as_elements onward)

no_scheme : (ps : List Named) → list_any is_scheme (map piece_of ps) ≡ false
no_scheme [] = refl
no_scheme (p ∷ ps) = no_scheme ps

pub parameters_back : (ps : List Named) → parameters_in (map piece_of ps) ≡ ps
parameters_back [] = refl
parameters_back (p ∷ ps) = ap (λ others. p ∷ others) (parameters_back ps)

-- elements that are parameters alone are parameters
pub as_parameters : {pieces : List Piece} {text : List ℕ} → Elements true pieces text → list_any is_scheme pieces ≡ false → Parameters (parameters_in pieces) text
as_parameters (blank text k) alike = blank_list k
as_parameters (last text (next {p = p} text2 a)) alike = last_list a
as_parameters (last text (alone _ _ _ _ _ _ _)) alike = cc
as_parameters (last text (spaced _ _ _ _ _ _)) alike = cc
as_parameters (last text (token68 _ _ _ _ _ _ _ _ _ _)) alike = cc
as_parameters (last text (first _ _ _ _ _ _)) alike = cc
as_parameters (empty text k onward) alike = empty_list text k (as_parameters onward alike)
as_parameters (more text (next {p = p} text2 a) onward) alike = more_list text a (as_parameters onward alike)
as_parameters (more text (alone _ _ _ _ _ _ _) onward) alike = cc
as_parameters (more text (spaced _ _ _ _ _ _) onward) alike = cc
as_parameters (more text (token68 _ _ _ _ _ _ _ _ _ _) onward) alike = cc
as_parameters (more text (first _ _ _ _ _ _) onward) alike = cc

-- ---- what a reply says

-- the bytes are no list
pub none_of_bad : (value : List ℕ) (at : ℕ) (name : List ℕ) → IsBad true value at → (ps : List Named) → Parameters ps value → first_text name ps ≡ None
none_of_bad value at name bad ps is = absurd (bad.none (map piece_of ps) (as_elements is))

-- the parts say nothing
pub none_said : (value : List ℕ) (parts : List Piece) → Elements true parts value → said_in parts ≡ None
    → (ps : List Named) → Parameters ps value → first_text (codes "rspauth") ps ≡ None
none_said value parts is none ps params =
    let same_parts = one_list true value parts (map piece_of ps) is (as_elements params) in
    let said : said_in (map piece_of ps) ≡ None = ap (λ others. said_in others) (sym same_parts) ∙ none in
    let plain : first_text (codes "rspauth") (parameters_in (map piece_of ps)) ≡ None =
    let F : Bool → Type 0 = λ b. (if b then None else first_text (codes "rspauth") (parameters_in (map piece_of ps))) ≡ None in
    subst F (no_scheme ps) said in
    ap (λ others. first_text (codes "rspauth") others) (sym (parameters_back ps)) ∙ plain

-- the parts say a text
record Says (value text : List ℕ) : Type 0 where
  ps : List Named
  params : Parameters ps value
  first : first_text (codes "rspauth") ps ≡ Some text

by_scheme : (value text : List ℕ) (parts : List Piece) (b : Bool) → Elements true parts value → list_any is_scheme parts ≡ b
    → (if b then None else first_text (codes "rspauth") (parameters_in parts)) ≡ Some text → Says value text
by_scheme value text parts true is alike said = absurd (none_is_some text said)
by_scheme value text parts false is alike said = record { ps = parameters_in parts; params = as_parameters is alike; first = said }

pub some_said : (value text : List ℕ) (parts : List Piece) → Elements true parts value → said_in parts ≡ Some text
    → (ps : List Named) × Parameters ps value × (first_text (codes "rspauth") ps ≡ Some text)
some_said value text parts is said = let r = by_scheme value text parts (list_any is_scheme parts) is refl said in (r.ps, r.params, r.first)
