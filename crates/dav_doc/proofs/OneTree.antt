-- A text spells one tree: events tell trees apart.
use Rattle.std.proofs.Common.{◌≡◌, ℕ, ◌+◌, List, [], ◌∷◌, ◌++◌, refl, ap, sym, ◌∙◌, append_assoc, append-nil, subst, Some}
use Rattle.dav_doc.specs.Document.{Forest, Nil, Chars, Element, Event, Start, Char, End, events, Spells}
use Rattle.dav_doc.specs.Machine.{Text, Zero, Ran}
use Rattle.dav_doc.proofs.Completing.{complete}

-- no tree goes on with these events
abbrev pub IsOver : List Event → Type 0
IsOver [] = Unit {0}
IsOver (Start d ns name ∷ e) = ⊥
IsOver (Char b ∷ e) = ⊥
IsOver (End d ∷ e) = Unit {0}

pub record Alike (f g : Forest) (r q : List Event) : Type 0 where
  pub trees : f ≡ g
  pub rest : r ≡ q

not_over : (x : Event) (e r : List Event) → r ≡ x ∷ e → IsOver r → IsOver (x ∷ e)
not_over x e r h i = subst (λ (t : List Event). IsOver t) h i

same_tail : (x y : Event) (e f : List Event) → x ∷ e ≡ y ∷ f → e ≡ f
same_tail x y e f h = cc

-- the events of an element, and what comes after them
element_events : (d : ℕ) (inside after : Forest) (r : List Event)
    → ((events (d + 1) inside ++ (End d ∷ [])) ++ events d after) ++ r ≡ events (d + 1) inside ++ (End d ∷ (events d after ++ r))
element_events d inside after r =
    append_assoc (events (d + 1) inside ++ (End d ∷ [])) (events d after) r ∙ append_assoc (events (d + 1) inside) (End d ∷ []) (events d after ++ r)

told_apart : (f g : Forest) (d : ℕ) (r q : List Event) → IsOver r → IsOver q → events d f ++ r ≡ events d g ++ q → Alike f g r q
told_apart Nil Nil d r q u v h = record { trees = refl; rest = h }
told_apart Nil (Chars b g) d r q u v h = absurd (not_over (Char b) (events d g ++ q) r h u)
told_apart Nil (Element ns name i a) d r q u v h = absurd (not_over (Start d ns name) (((events (d + 1) i ++ (End d ∷ [])) ++ events d a) ++ q) r h u)
told_apart (Chars b f) Nil d r q u v h = absurd (not_over (Char b) (events d f ++ r) q (sym h) v)
told_apart (Element ns name i a) Nil d r q u v h = absurd (not_over (Start d ns name) (((events (d + 1) i ++ (End d ∷ [])) ++ events d a) ++ r) q (sym h) v)
told_apart (Chars b f) (Chars c g) d r q u v h =
    let k = told_apart f g d r q u v (same_tail (Char b) (Char c) _ _ h) in
    let e : b ≡ c = cc in
    record { trees = ap (λ z. Chars z f) e ∙ ap (Chars c) k.trees; rest = k.rest }
told_apart (Chars b f) (Element ns name i a) d r q u v h = cc
told_apart (Element ns name i a) (Chars b f) d r q u v h = cc
told_apart (Element ns name i a) (Element ms other j c) d r q u v h =
    let e1 : ns ≡ ms = cc in
    let e2 : name ≡ other = cc in
    let t = same_tail (Start d ns name) (Start d ms other) _ _ h in
    let k = told_apart i j (d + 1) (End d ∷ (events d a ++ r)) (End d ∷ (events d c ++ q)) tt tt (sym (element_events d i a r) ∙ t ∙ element_events d j c q) in
    let l = told_apart a c d r q u v (same_tail (End d) (End d) _ _ k.rest) in
    record {
      trees = ap (λ z. Element z name i a) e1 ∙ ap (λ z. Element ms z i a) e2 ∙ ap (λ z. Element ms other z a) k.trees ∙ ap (Element ms other j) l.trees;
      rest = l.rest;
    }

same_events : (x y : Ran) → Some x ≡ Some y → x.events ≡ y.events
same_events x y h = let e : x ≡ y = cc in ap (λ (z : Ran). z.events) e

pub one_tree : (s : List ℕ) (a b : Forest) → Spells a s → Spells b s → a ≡ b
one_tree s a b x y =
    let g : events 1 a ≡ events 1 b =
    same_events (record { state = Text [] Zero; events = events 1 a }) (record { state = Text [] Zero; events = events 1 b }) (sym (complete a s x) ∙ complete b s y) in
    (told_apart a b 1 [] [] tt tt (append-nil (events 1 a) ∙ g ∙ sym (append-nil (events 1 b)))).trees
