-- The place of a field among the others.
use Rattle.std.proofs.Common.{◌≡◌, ℕ, suc, ◌+◌, ◌<◌, ◌≤◌, ◌==◌, true, false, IsTrue, List, [], ◌∷◌, ◌++◌, length, take, drop, refl, ap, sym, ◌∙◌, arith, nat_lt, inl, inr, ◌⊎◌, get_or, All, set, append_assoc}
use Rattle.std.proofs.lemmas.Bool.{cases_lt}
use Rattle.std.proofs.lemmas.Bool.Decides.{nat_tests}
use Rattle.std.proofs.lemmas.Grind.{common_steps}
use Rattle.std.proofs.lemmas.List.Elements.{All-nil, All-cons, All-tail, All-weaker}
use Rattle.std.proofs.lemmas.List.{take-append-drop, take_more}
use Rattle.std.proofs.Math.Seq.{set-append_seam, drop-cons}
use Rattle.std.specs.List.{insert}
use Rattle.dav_frame.specs.declared.fields.FieldName.{FieldName}
use Rattle.dav_frame.specs.Fields.{place_of, IsOrdered, AreFields, is_clean, with_value}

abbrev pub Entry : Type 0
Entry = FieldName × List ℕ

-- where the first i fields stand before the name, its place is among the others
abbrev pub Passes : List Entry → FieldName → ℕ → Type 0
Passes fields name i = (value : List ℕ) → with_value fields name value ≡ take i fields ++ with_value (drop i fields) name value

split_at : (fields : List Entry) (i : ℕ) (f : Entry) → i < length fields → f ≡ get_or fields i f → drop i fields ≡ f ∷ drop (i + 1) fields
split_at fields i f h is =
    let e : i + 1 ≡ suc i = omega arith in
    drop-cons fields i f h ∙ rw (e, ← is) refl

with_same : (f : Entry) (fields : List Entry) (name : FieldName) (value : List ℕ) → place_of f.0 ≡ place_of name
    → with_value (f ∷ fields) name value ≡ (name, value) ∷ fields
with_same f fields name value h =
    let a : nat_lt (place_of f.0) (place_of name) ≡ false = grind (arith, nat_tests) in
    let b : (place_of f.0 == place_of name) ≡ true = grind (arith, nat_tests) in
    rw (a, b) refl

with_before : (f : Entry) (fields : List Entry) (name : FieldName) (value : List ℕ) → place_of f.0 < place_of name
    → with_value (f ∷ fields) name value ≡ f ∷ with_value fields name value
with_before f fields name value h =
    let a : nat_lt (place_of f.0) (place_of name) ≡ true = grind (arith, nat_tests) in rw a refl

with_after : (f : Entry) (fields : List Entry) (name : FieldName) (value : List ℕ) → place_of name < place_of f.0
    → with_value (f ∷ fields) name value ≡ (name, value) ∷ f ∷ fields
with_after f fields name value h =
    let a : nat_lt (place_of f.0) (place_of name) ≡ false = grind (arith, nat_tests) in
    let b : (place_of f.0 == place_of name) ≡ false = grind (arith, nat_tests) in
    rw (a, b) refl

set_split : (fields : List Entry) (i : ℕ) (f : Entry) → i < length fields → set fields i f ≡ take i fields ++ f ∷ drop (i + 1) fields
set_split fields i f h =
    let front : length (take i fields) ≡ i = grind (arith, common_steps) in
    let s : fields ≡ take i fields ++ get_or fields i f ∷ drop (i + 1) fields =
    sym (take-append-drop i fields) ∙ ap (λ t. take i fields ++ t) (drop-cons fields i f h ∙ let e : i + 1 ≡ suc i = omega arith in rw e refl) in
    ap (λ t. set t i f) s ∙ ap (λ k. set (take i fields ++ get_or fields i f ∷ drop (i + 1) fields) k f) (sym front)
    ∙ set-append_seam (take i fields) (get_or fields i f) (drop (i + 1) fields) f

pub found : (fields : List Entry) (name : FieldName) (i : ℕ) (f : Entry) → Passes fields name i → i < length fields → f ≡ get_or fields i f
    → place_of f.0 ≡ place_of name → (value : List ℕ) → with_value fields name value ≡ set fields i (name, value)
found fields name i f passes h is same value =
    passes value ∙ ap (λ t. take i fields ++ with_value t name value) (split_at fields i f h is)
    ∙ ap (λ t. take i fields ++ t) (with_same f (drop (i + 1) fields) name value same) ∙ sym (set_split fields i (name, value) h)

pub found_after : (fields : List Entry) (name : FieldName) (i : ℕ) (f : Entry) → Passes fields name i → i < length fields → f ≡ get_or fields i f
    → place_of name < place_of f.0 → (value : List ℕ) → with_value fields name value ≡ insert fields i (name, value)
found_after fields name i f passes h is less value =
    passes value ∙ ap (λ t. take i fields ++ with_value t name value) (split_at fields i f h is)
    ∙ ap (λ t. take i fields ++ t) (with_after f (drop (i + 1) fields) name value less)
    ∙ ap (λ t. take i fields ++ (name, value) ∷ t) (sym (split_at fields i f h is))

pub found_none : (fields : List Entry) (name : FieldName) (i : ℕ) → Passes fields name i → length fields ≤ i
    → (value : List ℕ) → with_value fields name value ≡ insert fields (length fields) (name, value)
found_none fields name i passes h value =
    let none : drop i fields ≡ [] = grind (arith, common_steps) in
    let none_more : drop (length fields) fields ≡ [] = grind (arith, common_steps) in
    let all : take i fields ≡ fields = grind (arith, common_steps) in
    let all_more : take (length fields) fields ≡ fields = grind (arith, common_steps) in
    passes value ∙ rw (none, none_more, all, all_more) refl

pub passes_none : (fields : List Entry) (name : FieldName) → Passes fields name 0
passes_none fields name value = refl

pub passes_more : (fields : List Entry) (name : FieldName) (i : ℕ) (f : Entry) → Passes fields name i → i < length fields → f ≡ get_or fields i f
    → place_of f.0 < place_of name → Passes fields name (i + 1)
passes_more fields name i f passes h is less value =
    let t : take (i + 1) fields ≡ take i fields ++ f ∷ [] = take_more fields i f h ∙ rw (← is) refl in
    passes value ∙ ap (λ t. take i fields ++ with_value t name value) (split_at fields i f h is)
    ∙ ap (λ t. take i fields ++ t) (with_before f (drop (i + 1) fields) name value less)
    ∙ sym (append_assoc (take i fields) (f ∷ []) (with_value (drop (i + 1) fields) name value))
    ∙ ap (λ s. s ++ with_value (drop (i + 1) fields) name value) (sym t)

cases_three : (a b : ℕ) → (a < b) ⊎ ((a ≡ b) ⊎ (b < a))
cases_three a b = elim (cases_lt a b) [
  | inl lt ↦ inl lt
  | inr ge ↦ elim (cases_lt b a) [
    | inl gt ↦ inr (inr gt)
    | inr le ↦ inr (inl (omega arith))
  ]
]

-- what holds of each field and of the new one
All-with_value : (P : Entry → Type 0) (fields : List Entry) (name : FieldName) (value : List ℕ) → All P fields → P (name, value)
    → All P (with_value fields name value)
All-with_value P [] name value all new = All-cons P (name, value) [] new (All-nil P)
All-with_value P (f ∷ fields) name value all new =
    let first : P f = all 0 f (omega arith) in
    let rest = All-tail P f fields all in
    elim (cases_three (place_of f.0) (place_of name)) [
      | inl lt ↦ rw (with_before f fields name value lt) (All-cons P f (with_value fields name value) first (All-with_value P fields name value rest new))
      | inr ge ↦ elim ge [
        | inl same ↦ rw (with_same f fields name value same) (All-cons P (name, value) fields new rest)
        | inr gt ↦ rw (with_after f fields name value gt) (All-cons P (name, value) (f ∷ fields) new all)
      ]
    ]

ordered_with : (fields : List Entry) (name : FieldName) (value : List ℕ) → IsOrdered fields → IsOrdered (with_value fields name value)
ordered_with [] name value ordered = (All-nil (λ g. place_of name < place_of g.0), tt)
ordered_with (f ∷ fields) name value ordered =
    let After : ℕ → Entry → Type 0 = λ n g. n < place_of g.0 in
    elim (cases_three (place_of f.0) (place_of name)) [
      | inl lt ↦ rw (with_before f fields name value lt)
          (All-with_value (After (place_of f.0)) fields name value ordered.0 lt, ordered_with fields name value ordered.1)
      | inr ge ↦ elim ge [
        | inl same ↦ rw (with_same f fields name value same)
            (All-weaker (After (place_of f.0)) (After (place_of name)) (λ g h. omega (arith, same, h)) fields ordered.0, ordered.1)
        | inr gt ↦ rw (with_after f fields name value gt) (
          All-cons (After (place_of name)) f fields gt
              (All-weaker (After (place_of f.0)) (After (place_of name)) (λ g h. omega (arith, gt, h)) fields ordered.0),
          ordered,
        )
      ]
    ]

pub fields_with : (fields : List Entry) (name : FieldName) (value : List ℕ) → AreFields fields → IsTrue (is_clean value)
    → AreFields (with_value fields name value)
fields_with fields name value are clean = record {
  ordered = ordered_with fields name value are.ordered;
  clean = All-with_value (λ f. IsTrue (is_clean f.1)) fields name value are.clean clean;
}
