-- The elements in a row give the properties that their tree has.
use Rattle.std.proofs.Common.{◌≡◌, ℕ, ◌+◌, ◌-◌, ◌<◌, ◌≤◌, Bool, true, false, List, [], ◌∷◌, ◌++◌, refl, ap, sym, ◌∙◌, Option, Some, None, eq-eqb, append_assoc, arith, inl, inr}
use Rattle.std.specs.Prelude.{◌==◌, cond, map, codes, filter, flat_map, if◌then◌else◌}
use Rattle.std.proofs.lemmas.Bool.Decides.{nat_tests, leb_tells}
use Rattle.dav_walk.specs.Tree.{Item, is_dav}
use Rattle.dav_walk.specs.Reading.{Child, Given, children, named, given_by, of_prop, of_props, on_code, of_propstat, of_propstats, propstat_code}
use Rattle.dav_walk.specs.Props.{given_here, context_of, context_in, context_after, left_from}
use Rattle.dav_walk.specs.declared.props.Context.{Context}
use Rattle.dav_walk.specs.declared.props.Context.TheVariants.{Aside, Propstat, Prop}
use Rattle.dav_walk.proofs.ReadingLemmas.{deeper, past}

-- how far an element is below a depth
data Level (d n : ℕ) : Type 0 where
  above : n ≤ d → Level d n
  first : n ≡ d + 1 → Level d n
  second : n ≡ d + 2 → Level d n
  third : n ≡ d + 3 → Level d n
  further : d + 3 < n → Level d n

level_of : (d n : ℕ) → Level d n
level_of d n =
    elim (leb_tells n d) [
      | inl h ↦ above h.1
      | inr h ↦ elim (leb_tells n (d + 1)) [
        | inl g ↦ first (omega arith)
        | inr g ↦ elim (leb_tells n (d + 2)) [
          | inl f ↦ second (omega arith)
          | inr f ↦ elim (leb_tells n (d + 3)) [ inl e ↦ third (omega arith) | inr e ↦ further e.1 ]
        ]
      ]
    ]

pub differs : (a b : ℕ) → b < a → (a == b) ≡ false
differs a b h = grind (arith, nat_tests)

children_above : (d p : ℕ) (x : Item) (xs : List Item) → x.depth ≤ d → children d p (x ∷ xs) ≡ []
children_above d p x xs h =
    let c : Child = record { place = p; item = x; following = xs } in
    ap (λ (t : Bool). cond t [] (cond (x.depth - d == 1) (c ∷ children d (p + 1) xs) (children d (p + 1) xs))) (past x.depth d h)

children_open : (d p : ℕ) (x : Item) (xs : List Item) (b : Bool) → d < x.depth → (x.depth - d == 1) ≡ b
    → children d p (x ∷ xs) ≡ cond b (record { place = p; item = x; following = xs } ∷ children d (p + 1) xs) (children d (p + 1) xs)
children_open d p x xs b h e =
    let c : Child = record { place = p; item = x; following = xs } in
    ap (λ (t : Bool). cond t [] (cond (x.depth - d == 1) (c ∷ children d (p + 1) xs) (children d (p + 1) xs))) (deeper x.depth d h)
    ∙ ap (λ (t : Bool). cond t (c ∷ children d (p + 1) xs) (children d (p + 1) xs)) e

children_first : (d p : ℕ) (x : Item) (xs : List Item) → x.depth ≡ d + 1
    → children d p (x ∷ xs) ≡ record { place = p; item = x; following = xs } ∷ children d (p + 1) xs
children_first d p x xs h = children_open d p x xs true (omega arith) (eq-eqb (x.depth - d) 1 (omega arith))

children_further : (d p : ℕ) (x : Item) (xs : List Item) → d + 1 < x.depth → children d p (x ∷ xs) ≡ children d (p + 1) xs
children_further d p x xs h = children_open d p x xs false (omega arith) (differs (x.depth - d) 1 (omega arith))

left_above : (d p : ℕ) (x : Item) (xs : List Item) (c : Context) → x.depth ≤ d → left_from d p (x ∷ xs) c ≡ []
left_above d p x xs c h =
    ap (λ (t : Bool). cond t [] (given_here (x.depth - d) p c ++ left_from d (p + 1) xs (context_after (x.depth - d) x xs c))) (past x.depth d h)

pub left_at : (level d p : ℕ) (x : Item) (xs : List Item) (c : Context) → d < x.depth → x.depth - d ≡ level
    → left_from d p (x ∷ xs) c ≡ given_here level p c ++ left_from d (p + 1) xs (context_after level x xs c)
left_at level d p x xs c h e =
    ap (λ (t : Bool). cond t [] (given_here (x.depth - d) p c ++ left_from d (p + 1) xs (context_after (x.depth - d) x xs c))) (deeper x.depth d h)
    ∙ ap (λ l. given_here l p c ++ left_from d (p + 1) xs (context_after l x xs c)) e

pub nothing_here : (level p : ℕ) (c : Context) → (level == 3) ≡ false → given_here level p c ≡ []
nothing_here level p Aside e = refl
nothing_here level p (Propstat code) e = refl
nothing_here level p (Prop code) e = ap (λ (t : Bool). cond t (record { status = code; place = p } ∷ []) []) e

left_quiet : (level d p : ℕ) (x : Item) (xs : List Item) (c : Context) → d < x.depth → x.depth - d ≡ level → (level == 3) ≡ false
    → left_from d p (x ∷ xs) c ≡ left_from d (p + 1) xs (context_after level x xs c)
left_quiet level d p x xs c h e q =
    left_at level d p x xs c h e ∙ ap (λ z. z ++ left_from d (p + 1) xs (context_after level x xs c)) (nothing_here level p c q)

left_first : (d p : ℕ) (x : Item) (xs : List Item) (c : Context) → x.depth ≡ d + 1
    → left_from d p (x ∷ xs) c ≡ left_from d (p + 1) xs (if is_dav x.ns x.name (codes "propstat") then context_of (propstat_code x.depth xs) else Aside)
left_first d p x xs c h = left_quiet 1 d p x xs c (omega arith) (omega arith) refl

left_second : (d p : ℕ) (x : Item) (xs : List Item) (c : Context) → x.depth ≡ d + 2
    → left_from d p (x ∷ xs) c ≡ left_from d (p + 1) xs (context_in (is_dav x.ns x.name (codes "prop")) c)
left_second d p x xs c h = left_quiet 2 d p x xs c (omega arith) (omega arith) refl

left_third : (d p : ℕ) (x : Item) (xs : List Item) (c : Context) → x.depth ≡ d + 3
    → left_from d p (x ∷ xs) c ≡ given_here 3 p c ++ left_from d (p + 1) xs c
left_third d p x xs c h = left_at 3 d p x xs c (omega arith) (omega arith)

same_context : (level : ℕ) (x : Item) (xs : List Item) (c : Context) → 3 < level → context_after level x xs c ≡ c
same_context level x xs c h =
    ap (λ (t : Bool). cond t (if is_dav x.ns x.name (codes "propstat") then context_of (propstat_code x.depth xs) else Aside) (cond (level == 2) (context_in (is_dav x.ns x.name (codes "prop")) c) c)) (differs level 1 (omega arith))
    ∙ ap (λ (t : Bool). cond t (context_in (is_dav x.ns x.name (codes "prop")) c) c) (differs level 2 (omega arith))

left_further : (d p : ℕ) (x : Item) (xs : List Item) (c : Context) → d + 3 < x.depth → left_from d p (x ∷ xs) c ≡ left_from d (p + 1) xs c
left_further d p x xs c h =
    left_quiet (x.depth - d) d p x xs c (omega arith) refl (differs (x.depth - d) 3 (omega arith))
    ∙ ap (left_from d (p + 1) xs) (same_context (x.depth - d) x xs c (omega arith))

-- an equation of `f B ++ C` from one of what its parts are
joined : (f : List Child → List Given) (a a1 c c1 : List Given) (b b1 : List Child) → a ≡ a1 → b ≡ b1 → c ≡ c1 → a1 ≡ f b1 ++ c1 → a ≡ f b ++ c
joined f a a1 c c1 b b1 p q r e = p ∙ e ∙ sym (ap (λ z. f z ++ c) q ∙ ap (λ z. f b1 ++ z) r)

same_in : (is_prop : Bool) (code : ℕ) → context_in is_prop (Prop code) ≡ context_in is_prop (Propstat code)
same_in true code = refl
same_in false code = refl

-- within a `prop`: its children, and then what follows in the `propstat`
prop_left : (d code p : ℕ) (xs : List Item)
    → left_from d p xs (Prop code) ≡ map (given_by code) (children (d + 2) p xs) ++ left_from d p xs (Propstat code)
prop_left d code p [] = refl
prop_left d code p (x ∷ xs) =
    let again = prop_left d code (p + 1) xs in
    elim (level_of d x.depth) [
      | above h ↦ joined (map (given_by code)) _ [] _ [] _ [] (left_above d p x xs (Prop code) h) (children_above (d + 2) p x xs (omega arith)) (left_above d p x xs (Propstat code) h) refl
      | first h ↦
          let s = left_from d (p + 1) xs (if is_dav x.ns x.name (codes "propstat") then context_of (propstat_code x.depth xs) else Aside) in
          joined (map (given_by code)) _ s _ s _ [] (left_first d p x xs (Prop code) h) (children_above (d + 2) p x xs (omega arith)) (left_first d p x xs (Propstat code) h) refl
      | second h ↦
          joined (map (given_by code)) _ _ _ (left_from d (p + 1) xs (context_in (is_dav x.ns x.name (codes "prop")) (Propstat code))) _ [] (left_second d p x xs (Prop code) h) (children_above (d + 2) p x xs (omega arith)) (left_second d p x xs (Propstat code) h)
          (ap (left_from d (p + 1) xs) (same_in (is_dav x.ns x.name (codes "prop")) code))
      | third h ↦
          let c : Child = record { place = p; item = x; following = xs } in
          joined (map (given_by code)) _ (given_by code c ∷ left_from d (p + 1) xs (Prop code)) _ (left_from d (p + 1) xs (Propstat code)) _ (c ∷ children (d + 2) (p + 1) xs)
          (left_third d p x xs (Prop code) h) (children_first (d + 2) p x xs (omega arith)) (left_third d p x xs (Propstat code) h)
          (ap (λ z. given_by code c ∷ z) again)
      | further h ↦
          joined (map (given_by code)) _ (left_from d (p + 1) xs (Prop code)) _ (left_from d (p + 1) xs (Propstat code)) _ (children (d + 2) (p + 1) xs)
          (left_further d p x xs (Prop code) h) (children_further (d + 2) p x xs (omega arith)) (left_further d p x xs (Propstat code) h) again
    ]

-- a child of a `propstat`
prop_or_not : (is_prop : Bool) (d code p : ℕ) (x : Item) (xs : List Item) → x.depth ≡ d + 2
    → left_from d (p + 1) xs (Propstat code) ≡ of_props code (children (d + 1) (p + 1) xs) ++ left_from d (p + 1) xs Aside
    → left_from d (p + 1) xs (context_in is_prop (Propstat code))
    ≡ flat_map (of_prop code) (cond is_prop (record { place = p; item = x; following = xs } ∷ filter (named (codes "prop")) (children (d + 1) (p + 1) xs)) (filter (named (codes "prop")) (children (d + 1) (p + 1) xs)))
    ++ left_from d (p + 1) xs Aside
prop_or_not false d code p x xs h again = again
prop_or_not true d code p x xs h again =
    prop_left d code (p + 1) xs
    ∙ ap (λ z. map (given_by code) (children (d + 2) (p + 1) xs) ++ z) again
    ∙ sym (append_assoc (map (given_by code) (children (d + 2) (p + 1) xs)) (of_props code (children (d + 1) (p + 1) xs)) (left_from d (p + 1) xs Aside))
    ∙ ap (λ n. (map (given_by code) (children n (p + 1) xs) ++ of_props code (children (d + 1) (p + 1) xs)) ++ left_from d (p + 1) xs Aside) (sym h)

-- within a `propstat`: what its children give, and then what follows it
propstat_left : (d code p : ℕ) (xs : List Item)
    → left_from d p xs (Propstat code) ≡ of_props code (children (d + 1) p xs) ++ left_from d p xs Aside
propstat_left d code p [] = refl
propstat_left d code p (x ∷ xs) =
    let again = propstat_left d code (p + 1) xs in
    elim (level_of d x.depth) [
      | above h ↦ joined (of_props code) _ [] _ [] _ [] (left_above d p x xs (Propstat code) h) (children_above (d + 1) p x xs (omega arith)) (left_above d p x xs Aside h) refl
      | first h ↦
          let s = left_from d (p + 1) xs (if is_dav x.ns x.name (codes "propstat") then context_of (propstat_code x.depth xs) else Aside) in
          joined (of_props code) _ s _ s _ [] (left_first d p x xs (Propstat code) h) (children_above (d + 1) p x xs (omega arith)) (left_first d p x xs Aside h) refl
      | second h ↦
          let c : Child = record { place = p; item = x; following = xs } in
          joined (of_props code) _ _ _ (left_from d (p + 1) xs Aside) _ (c ∷ children (d + 1) (p + 1) xs)
          (left_second d p x xs (Propstat code) h) (children_first (d + 1) p x xs (omega arith)) (left_second d p x xs Aside h)
          (prop_or_not (is_dav x.ns x.name (codes "prop")) d code p x xs h again)
      | third h ↦
          joined (of_props code) _ (left_from d (p + 1) xs (Propstat code)) _ (left_from d (p + 1) xs Aside) _ (children (d + 1) (p + 1) xs)
          (left_third d p x xs (Propstat code) h) (children_further (d + 1) p x xs (omega arith)) (left_third d p x xs Aside h) again
      | further h ↦
          joined (of_props code) _ (left_from d (p + 1) xs (Propstat code)) _ (left_from d (p + 1) xs Aside) _ (children (d + 1) (p + 1) xs)
          (left_further d p x xs (Propstat code) h) (children_further (d + 1) p x xs (omega arith)) (left_further d p x xs Aside h) again
    ]

with_code : (code : Option ℕ) (d p : ℕ) (x : Item) (xs : List Item) → x.depth ≡ d + 1
    → left_from d (p + 1) xs (context_of code) ≡ on_code code (children x.depth (p + 1) xs) ++ left_from d (p + 1) xs Aside
with_code None d p x xs h = refl
with_code (Some code) d p x xs h =
    propstat_left d code (p + 1) xs ∙ ap (λ n. of_props code (children n (p + 1) xs) ++ left_from d (p + 1) xs Aside) (sym h)

-- a child of a response
propstat_or_not : (is_propstat : Bool) (d p : ℕ) (x : Item) (xs : List Item) → x.depth ≡ d + 1
    → left_from d (p + 1) xs Aside ≡ of_propstats (children d (p + 1) xs)
    → left_from d (p + 1) xs (cond is_propstat (context_of (propstat_code x.depth xs)) Aside)
    ≡ flat_map of_propstat (cond is_propstat (record { place = p; item = x; following = xs } ∷ filter (named (codes "propstat")) (children d (p + 1) xs)) (filter (named (codes "propstat")) (children d (p + 1) xs)))
propstat_or_not false d p x xs h again = again
propstat_or_not true d p x xs h again =
    with_code (propstat_code x.depth xs) d p x xs h ∙ ap (λ z. on_code (propstat_code x.depth xs) (children x.depth (p + 1) xs) ++ z) again

-- the elements below a response give its properties
pub all_left : (d p : ℕ) (xs : List Item) → left_from d p xs Aside ≡ of_propstats (children d p xs)
all_left d p [] = refl
all_left d p (x ∷ xs) =
    let again = all_left d (p + 1) xs in
    elim (level_of d x.depth) [
      | above h ↦ left_above d p x xs Aside h ∙ sym (ap of_propstats (children_above d p x xs h))
      | first h ↦
          left_first d p x xs Aside h
          ∙ propstat_or_not (is_dav x.ns x.name (codes "propstat")) d p x xs h again
          ∙ sym (ap of_propstats (children_first d p x xs h))
      | second h ↦ left_second d p x xs Aside h ∙ again ∙ sym (ap of_propstats (children_further d p x xs (omega arith)))
      | third h ↦ left_third d p x xs Aside h ∙ again ∙ sym (ap of_propstats (children_further d p x xs (omega arith)))
      | further h ↦ left_further d p x xs Aside h ∙ again ∙ sym (ap of_propstats (children_further d p x xs (omega arith)))
    ]
