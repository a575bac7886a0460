-- Children of an element and what they say.
use Rattle.std.proofs.Common.{◌≡◌, ℕ, ◌+◌, ◌-◌, ◌<◌, ◌≤◌, Bool, true, false, List, [], ◌∷◌, refl, ap, sym, ◌∙◌, Option, Some, None, length, eq-eqb, arith}
use Rattle.std.specs.Prelude.{nat_le, ◌==◌, ◌&&◌, cond, option_map, find, if◌then◌else◌}
use Rattle.std.specs.List.{list_all}
use Rattle.std.proofs.lemmas.Bool.Decides.{nat_tests}
use Rattle.dav_walk.specs.Tree.{Item, is_dav}
use Rattle.dav_walk.specs.Reading.{Child, children, named, first_child, is_fine}

pub deeper : (a b : ℕ) → b < a → nat_le a b ≡ false
deeper a b h = grind (arith, nat_tests)

pub past : (a b : ℕ) → a ≤ b → nat_le a b ≡ true
past a b h = grind (arith, nat_tests)

abbrev first_at : List ℕ → ℕ → ℕ → List Item → Option Item
first_at word depth place xs = option_map (λ c. c.item) (find (named word) (children depth place xs))

-- what the first element gives, by whether it is past, a child, and of the name
abbrev first_by : (ends is_child is_it : Bool) → Item → Option Item → Option Item
first_by ends is_child is_it x a = cond ends None (cond is_child (cond is_it (Some x) a) a)

first_step : (ends is_child : Bool) (word : List ℕ) (x : Item) (place : ℕ) (xs : List Item) (cs : List Child)
    → option_map (λ c. c.item) (find (named word) (cond ends [] (cond is_child (record { place = place; item = x; following = xs } ∷ cs) cs)))
    ≡ first_by ends is_child (is_dav x.ns x.name word) x (option_map (λ c. c.item) (find (named word) cs))
first_step true is_child word x place xs cs = refl
first_step false false word x place xs cs = refl
first_step false true word x place xs cs =
    elim (is_dav x.ns x.name word) as (λ t. option_map (λ (c : Child). c.item) (cond t (Some (record { place = place; item = x; following = xs })) (find (named word) cs))
    ≡ cond t (Some x) (option_map (λ (c : Child). c.item) (find (named word) cs))) [ true ↦ refl | false ↦ refl ]

at_first : (word : List ℕ) (depth place : ℕ) (x : Item) (xs : List Item)
    → first_at word depth place (x ∷ xs) ≡ first_by (nat_le x.depth depth) (x.depth - depth == 1) (is_dav x.ns x.name word) x (first_at word depth (place + 1) xs)
at_first word depth place x xs = first_step (nat_le x.depth depth) (x.depth - depth == 1) word x place xs (children depth (place + 1) xs)

-- the first of a name does not depend on where the places begin
first_anywhere : (word : List ℕ) (depth p q : ℕ) (xs : List Item) → first_at word depth p xs ≡ first_at word depth q xs
first_anywhere word depth p q [] = refl
first_anywhere word depth p q (x ∷ xs) =
    at_first word depth p x xs
    ∙ ap (first_by (nat_le x.depth depth) (x.depth - depth == 1) (is_dav x.ns x.name word) x) (first_anywhere word depth (p + 1) (q + 1) xs)
    ∙ sym (at_first word depth q x xs)

missed_by : (is_child is_it : Bool) (x : Item) (a : Option Item) → (is_child && is_it) ≡ false → first_by false is_child is_it x a ≡ a
missed_by false is_it x a e = refl
missed_by true false x a e = refl
missed_by true true x a e = cc

found_by : (is_child is_it : Bool) (x : Item) (a : Option Item) → (is_child && is_it) ≡ true → first_by false is_child is_it x a ≡ Some x
found_by false is_it x a e = cc
found_by true false x a e = cc
found_by true true x a e = refl

pub first_missed : (word : List ℕ) (depth : ℕ) (x : Item) (xs : List Item) → depth < x.depth → ((x.depth - depth == 1) && is_dav x.ns x.name word) ≡ false
    → first_child word depth (x ∷ xs) ≡ first_child word depth xs
first_missed word depth x xs h e =
    at_first word depth 0 x xs
    ∙ ap (λ t. first_by t (x.depth - depth == 1) (is_dav x.ns x.name word) x (first_at word depth 1 xs)) (deeper x.depth depth h)
    ∙ missed_by (x.depth - depth == 1) (is_dav x.ns x.name word) x (first_at word depth 1 xs) e
    ∙ first_anywhere word depth 1 0 xs

pub first_found : (word : List ℕ) (depth : ℕ) (x : Item) (xs : List Item) → depth < x.depth → ((x.depth - depth == 1) && is_dav x.ns x.name word) ≡ true
    → first_child word depth (x ∷ xs) ≡ Some x
first_found word depth x xs h e =
    at_first word depth 0 x xs
    ∙ ap (λ t. first_by t (x.depth - depth == 1) (is_dav x.ns x.name word) x (first_at word depth 1 xs)) (deeper x.depth depth h)
    ∙ found_by (x.depth - depth == 1) (is_dav x.ns x.name word) x (first_at word depth 1 xs) e

pub first_ended : (word : List ℕ) (depth : ℕ) (x : Item) (xs : List Item) → x.depth ≤ depth → first_child word depth (x ∷ xs) ≡ None
first_ended word depth x xs h =
    at_first word depth 0 x xs
    ∙ ap (λ t. first_by t (x.depth - depth == 1) (is_dav x.ns x.name word) x (first_at word depth 1 xs)) (past x.depth depth h)

fine_at : (ends is_child : Bool) (c : Child) (cs : List Child)
    → list_all is_fine (cond ends [] (cond is_child (c ∷ cs) cs)) ≡ cond ends true ((if is_child then is_fine c else true) && list_all is_fine cs)
fine_at true is_child c cs = refl
fine_at false true c cs = refl
fine_at false false c cs = refl

at_fine : (depth place : ℕ) (x : Item) (xs : List Item)
    → list_all is_fine (children depth place (x ∷ xs))
    ≡ cond (nat_le x.depth depth) true ((if x.depth - depth == 1 then is_fine (record { place = place; item = x; following = xs }) else true) && list_all is_fine (children depth (place + 1) xs))
at_fine depth place x xs = fine_at (nat_le x.depth depth) (x.depth - depth == 1) (record { place = place; item = x; following = xs }) (children depth (place + 1) xs)

pub fine_anywhere : (depth p q : ℕ) (xs : List Item) → list_all is_fine (children depth p xs) ≡ list_all is_fine (children depth q xs)
fine_anywhere depth p q [] = refl
fine_anywhere depth p q (x ∷ xs) =
    at_fine depth p x xs
    ∙ ap (λ t. cond (nat_le x.depth depth) true ((if x.depth - depth == 1 then is_fine (record { place = p; item = x; following = xs }) else true) && t)) (fine_anywhere depth (p + 1) (q + 1) xs)
    ∙ sym (at_fine depth q x xs)

fine_open : (depth place : ℕ) (x : Item) (xs : List Item) → depth < x.depth
    → list_all is_fine (children depth place (x ∷ xs))
    ≡ ((if x.depth - depth == 1 then is_fine (record { place = place; item = x; following = xs }) else true) && list_all is_fine (children depth (place + 1) xs))
fine_open depth place x xs h =
    at_fine depth place x xs
    ∙ ap (λ t. cond t true ((if x.depth - depth == 1 then is_fine (record { place = place; item = x; following = xs }) else true) && list_all is_fine (children depth (place + 1) xs))) (deeper x.depth depth h)

pub fine_step : (depth place : ℕ) (x : Item) (xs : List Item) → depth < x.depth
    → (if x.depth - depth == 1 then is_fine (record { place = place; item = x; following = xs }) else true) ≡ true
    → list_all is_fine (children depth place (x ∷ xs)) ≡ list_all is_fine (children depth (place + 1) xs)
fine_step depth place x xs h e = fine_open depth place x xs h ∙ ap (λ t. t && list_all is_fine (children depth (place + 1) xs)) e

pub fine_missed : (depth place : ℕ) (x : Item) (xs : List Item) → depth < x.depth
    → (if x.depth - depth == 1 then is_fine (record { place = place; item = x; following = xs }) else true) ≡ false
    → list_all is_fine (children depth place (x ∷ xs)) ≡ false
fine_missed depth place x xs h e = fine_open depth place x xs h ∙ ap (λ t. t && list_all is_fine (children depth (place + 1) xs)) e

pub fine_ended : (depth place : ℕ) (x : Item) (xs : List Item) → x.depth ≤ depth → list_all is_fine (children depth place (x ∷ xs)) ≡ true
fine_ended depth place x xs h =
    at_fine depth place x xs
    ∙ ap (λ t. cond t true ((if x.depth - depth == 1 then is_fine (record { place = place; item = x; following = xs }) else true) && list_all is_fine (children depth (place + 1) xs))) (past x.depth depth h)

pub fine_child : (level depth : ℕ) (c : Child) → level ≡ c.item.depth - depth → level ≡ 1
    → is_fine c ≡ (if c.item.depth - depth == 1 then is_fine c else true)
fine_child level depth c e f = sym (ap (λ t. if t then is_fine c else true) (eq-eqb (c.item.depth - depth) 1 (sym e ∙ f)))

pub nothing_left : {A : Type 0} (xs : List A) → length xs ≡ 0 → xs ≡ []
nothing_left [] e = refl
nothing_left (x ∷ xs) e = absurd (omega (arith, e))
