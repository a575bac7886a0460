-- What a word of text that is typed below a path stands for is a path.
use Rattle.std.proofs.Common.{◌≡◌, ◌≢◌, ℕ, zero, suc, ◌+◌, ◌-◌, Bool, true, false, ◌||◌, if◌then◌else◌, eqb, leb, min, Ok, Err, List, [], ◌∷◌, ◌++◌, length, take, get_or, inl, inr, refl, sym, ap, subst, ◌∙◌, arith, append_assoc, append-nil}
use Rattle.std.specs.List.{All, AllByRecursion as Every}
use Rattle.std.specs.Str.{IsUtf8, bytes_eq}
use Rattle.std.proofs.Math.Seq.{take-append_seam, drop-append-add, get_or-append_seam}
use Rattle.std.proofs.lemmas.Bool.{cond-true, cond-false, cases_Bool, cond_both, leb-true}
use Rattle.std.proofs.lemmas.Bool.Decides.{nat_tests}
use Rattle.std.proofs.lemmas.Slice.Eq.{bytes_eq-Decides}
use Rattle.std.proofs.lemmas.List.{length-append}
use Rattle.std.proofs.lemmas.List.Elements.{All-nil, All-cons, All-append}
use Rattle.std.proofs.lemmas.List.Splits.{slice_split_none, slice_split_at}
use Rattle.std.proofs.lemmas.Str.{IsUtf8-take, IsUtf8-drop, IsCharBoundary-before_ascii, IsCharBoundary-after_ascii}
use Rattle.dav_text.specs.Path.{PathParts, IsSegment, IsPath, escaped, is_here, is_up}
use Rattle.dav_text.specs.Reading.{top_path, parts_of, with_part, folded, fitting, typed_of}
use Rattle.dav_text.specs.declared.fault.PathFault.TheVariants.{TooLong}

-- no byte is a slash
abbrev IsPart : List ℕ → Type 0
IsPart bytes = All (λ b. eqb b 47 ≡ false) bytes

front_is_text : (front rest : List ℕ) → IsUtf8 (front ++ 47 ∷ rest) → IsUtf8 front
front_is_text front rest valid =
    let here : get_or (front ++ 47 ∷ rest) (length front) 0 ≡ 47 = get_or-append_seam front 47 rest 0 in
    let long : length (front ++ 47 ∷ rest) ≡ length front + suc (length rest) = length-append front (47 ∷ rest) in
    subst IsUtf8 (take-append_seam front (47 ∷ rest))
    (IsUtf8-take (front ++ 47 ∷ rest) (length front) valid (IsCharBoundary-before_ascii (front ++ 47 ∷ rest) (length front) (omega arith) (omega arith)))

rest_is_text : (front rest : List ℕ) → IsUtf8 (front ++ 47 ∷ rest) → IsUtf8 rest
rest_is_text front rest valid =
    let here : get_or (front ++ 47 ∷ rest) (length front) 0 ≡ 47 = get_or-append_seam front 47 rest 0 in
    let long : length (front ++ 47 ∷ rest) ≡ length front + suc (length rest) = length-append front (47 ∷ rest) in
    subst IsUtf8 (drop-append-add front (47 ∷ rest) 1)
    (IsUtf8-drop (front ++ 47 ∷ rest) (length front + 1) valid (IsCharBoundary-after_ascii (front ++ 47 ∷ rest) (length front) valid (omega arith) (omega arith)))

is_slash : (b : ℕ) → eqb b 47 ≡ true → b ≡ 47
is_slash b test = grind (arith, nat_tests)

-- the parts of a text between slashes are text
parts_from : (front rest : List ℕ) → IsPart front → IsUtf8 (front ++ rest) → Every IsUtf8 (parts_of (front ++ rest))
parts_from front [] part valid =
    let same : front ++ [] ≡ front = append-nil front in
    subst (λ (l : List ℕ). Every IsUtf8 (parts_of l)) (sym same)
    (subst (Every IsUtf8) (sym (slice_split_none (λ b. eqb b 47) front part)) (subst IsUtf8 same valid, tt))
parts_from front (b ∷ rest) part valid = elim (cases_Bool (eqb b 47)) [
  | inl slash ↦
      let is : b ≡ 47 = is_slash b slash in
      let text : IsUtf8 (front ++ 47 ∷ rest) = subst (λ (c : ℕ). IsUtf8 (front ++ c ∷ rest)) is valid in
      subst (Every IsUtf8) (sym (slice_split_at (λ b. eqb b 47) front b rest part slash))
      (front_is_text front rest text, parts_from [] rest (All-nil (λ (c : ℕ). eqb c 47 ≡ false)) (rest_is_text front rest text))
  | inr other ↦
      let more : IsPart (front ++ b ∷ []) = All-append (λ (c : ℕ). eqb c 47 ≡ false) front (b ∷ []) part (All-cons (λ (c : ℕ). eqb c 47 ≡ false) b [] other (All-nil (λ (c : ℕ). eqb c 47 ≡ false))) in
      let same : (front ++ b ∷ []) ++ rest ≡ front ++ b ∷ rest = append_assoc front (b ∷ []) rest in
      subst (λ (l : List ℕ). Every IsUtf8 (parts_of l)) same (parts_from (front ++ b ∷ []) rest more (subst IsUtf8 (sym same) valid))
]

parts_are_text : (text : List ℕ) → IsUtf8 text → Every IsUtf8 (parts_of text)
parts_are_text text valid = parts_from [] text (All-nil (λ (c : ℕ). eqb c 47 ≡ false)) valid

-- a path but for its length
record IsBegun (path : PathParts) : Type 0 where
  segments : Every IsSegment path.segments
  top : path.segments ≡ [] → path.slash ≡ true

every_take : {X : Type 0} (P : X → Type 0) (n : ℕ) (xs : List X) → Every P xs → Every P (take n xs)
every_take P zero xs are = tt
every_take P (suc n) [] are = tt
every_take P (suc n) (x ∷ xs) are = (are.0, every_take P n xs are.1)

every_push : {X : Type 0} (P : X → Type 0) (xs : List X) (y : X) → Every P xs → P y → Every P (xs ++ y ∷ [])
every_push P [] y are is = (is, tt)
every_push P (x ∷ xs) y are is = (are.0, every_push P xs y are.1 is)

pushed_some : (xs : List (List ℕ)) (y : List ℕ) → xs ++ y ∷ [] ≡ [] → ⊥
pushed_some [] y none = cc
pushed_some (x ∷ xs) y none = cc

or_parts : (x y : Bool) → (x || y) ≡ false → (x ≡ false) × (y ≡ false)
or_parts true y e = cc
or_parts false y e = (refl, e)

other_than : (a b : List ℕ) → bytes_eq a b ≡ false → a ≢ b
other_than a b test is = let h : false ≡ true = sym test ∙ (bytes_eq-Decides a b).1 is in cc

begun_part : (path : PathParts) (part : List ℕ) → IsUtf8 part → IsBegun path → IsBegun (with_part path part)
begun_part path part valid begun =
    cond_both (is_here part) (record { segments = path.segments; slash = true })
    (if is_up part then record { segments = take (length path.segments - 1) path.segments; slash = true } else record { segments = path.segments ++ part ∷ []; slash = false })
    IsBegun
    (λ here. record { segments = begun.segments; top = λ none. refl })
    (λ elsewhere. cond_both (is_up part) (record { segments = take (length path.segments - 1) path.segments; slash = true }) (record { segments = path.segments ++ part ∷ []; slash = false }) IsBegun
    (λ up. record { segments = every_take IsSegment (length path.segments - 1) path.segments begun.segments; top = λ none. refl })
    (λ below.
    let here = or_parts (bytes_eq part []) (bytes_eq part (46 ∷ [])) elsewhere in
    record {
      segments = every_push IsSegment path.segments part begun.segments (record { utf8 = valid; not_here = other_than part [] here.0; not_dot = other_than part (46 ∷ []) here.1; not_up = other_than part (46 ∷ 46 ∷ []) below });
      top = λ none. absurd (pushed_some path.segments part none);
    }))

begun_parts : (path : PathParts) (parts : List (List ℕ)) → Every IsUtf8 parts → IsBegun path → IsBegun (folded path parts)
begun_parts path [] are begun = begun
begun_parts path (part ∷ parts) are begun = begun_parts (with_part path part) parts are.1 (begun_part path part are.0 begun)

fitting_is : (path found : PathParts) → IsBegun path → fitting path ≡ Ok found → IsPath found
fitting_is path found begun is =
    elim (cases_Bool (leb (length (escaped path)) 1024)) [
      | inl short ↦
          let h : Ok path ≡ Ok found = sym (cond-true _ _ _ short) ∙ is in
          let same : path ≡ found = cc in
          subst IsPath same (record { segments = begun.segments; top = begun.top; short = leb-true (length (escaped path)) 1024 short })
      | inr long ↦ let h : Err (TooLong (min (length (escaped path)) 18446744073709551615)) ≡ Ok found = sym (cond-false _ _ _ long) ∙ is in cc
    ]

begun_here : (here : PathParts) → IsPath here → IsBegun here
begun_here here is = record { segments = is.segments; top = is.top }

begun_top : IsBegun top_path
begun_top = record { segments = tt; top = λ none. refl }

pub typed_is_path : (here : PathParts) (word : List ℕ) (found : PathParts) → IsPath here → IsUtf8 word → typed_of here word ≡ Ok found → IsPath found
typed_is_path here [] found path valid is = fitting_is (folded here (parts_of [])) found (begun_parts here (parts_of []) (parts_are_text [] valid) (begun_here here path)) is
typed_is_path here (first ∷ rest) found path valid is = elim (cases_Bool (eqb first 47)) [
  | inl slash ↦
      let text : IsUtf8 ([] ++ 47 ∷ rest) = subst (λ (c : ℕ). IsUtf8 (c ∷ rest)) (is_slash first slash) valid in
      fitting_is (folded top_path (parts_of rest)) found (begun_parts top_path (parts_of rest) (parts_are_text rest (rest_is_text [] rest text)) begun_top)
      (sym (ap fitting (cond-true (eqb first 47) (folded top_path (parts_of rest)) (folded here (parts_of (first ∷ rest))) slash)) ∙ is)
  | inr other ↦
      fitting_is (folded here (parts_of (first ∷ rest))) found (begun_parts here (parts_of (first ∷ rest)) (parts_are_text (first ∷ rest) valid) (begun_here here path))
      (sym (ap fitting (cond-false (eqb first 47) (folded top_path (parts_of rest)) (folded here (parts_of (first ∷ rest))) other)) ∙ is)
]
