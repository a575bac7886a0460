-- The parts of trees tell the trees apart.
use Rattle.std.proofs.Common.{◌≡◌, ℕ, ◌+◌, ◌<◌, ◌≤◌, List, [], ◌∷◌, ◌++◌, refl, ap, sym, ◌∙◌, append_assoc, append-nil, subst, arith}
use Rattle.dav_doc.specs.Document.{Forest, Nil, Chars, Element}
use Rattle.dav_xml.specs.Nodes.{Part, Named, Byte, parts}

-- no part of an element of this depth comes next
abbrev pub IsOver : ℕ → List Part → Type 0
IsOver d [] = Unit {0}
IsOver d (Named s ns name ∷ p) = s ≤ d
IsOver d (Byte s b ∷ p) = s < d

pub record Alike (f g : Forest) (r q : List Part) : Type 0 where
  pub trees : f ≡ g
  pub rest : r ≡ q

over_inside : (d : ℕ) (f : Forest) (r : List Part) → IsOver d r → IsOver (d + 1) (parts d f ++ r)
over_inside d Nil [] h = tt
over_inside d Nil (Named s ns name ∷ r) h = omega (arith, h)
over_inside d Nil (Byte s b ∷ r) h = omega (arith, h)
over_inside d (Chars b f) r h = omega arith
over_inside d (Element ns name i a) r h = omega arith

byte_over : (d b : ℕ) (p r : List Part) → r ≡ Byte d b ∷ p → IsOver d r → ⊥
byte_over d b p r e h = let k : d < d = subst (λ (z : List Part). IsOver d z) e h in omega (arith, k)

named_over : (d : ℕ) (ns name : List ℕ) (p r : List Part) → r ≡ Named (d + 1) ns name ∷ p → IsOver d r → ⊥
named_over d ns name p r e h = let k : d + 1 ≤ d = subst (λ (z : List Part). IsOver d z) e h in omega (arith, k)

same_tail : (x y : Part) (p q : List Part) → x ∷ p ≡ y ∷ q → p ≡ q
same_tail x y p q h = cc

told_apart : (f g : Forest) (d : ℕ) (r q : List Part) → IsOver d r → IsOver d q → parts d f ++ r ≡ parts d g ++ q → Alike f g r q
told_apart Nil Nil d r q u v h = record { trees = refl; rest = h }
told_apart Nil (Chars b g) d r q u v h = absurd (byte_over d b (parts d g ++ q) r h u)
told_apart Nil (Element ns name i a) d r q u v h = absurd (named_over d ns name ((parts (d + 1) i ++ parts d a) ++ q) r h u)
told_apart (Chars b f) Nil d r q u v h = absurd (byte_over d b (parts d f ++ r) q (sym h) v)
told_apart (Element ns name i a) Nil d r q u v h = absurd (named_over d ns name ((parts (d + 1) i ++ parts d a) ++ r) q (sym h) v)
told_apart (Chars b f) (Chars c g) d r q u v h =
    let k = told_apart f g d r q u v (same_tail (Byte d b) (Byte d c) _ _ h) in
    let e : b ≡ c = cc in
    record { trees = ap (λ z. Chars z f) e ∙ ap (Chars c) k.trees; rest = k.rest }
told_apart (Chars b f) (Element ns name i a) d r q u v h = cc
told_apart (Element ns name i a) (Chars b f) d r q u v h = cc
told_apart (Element ns name i a) (Element ms other j c) d r q u v h =
    let e1 : ns ≡ ms = cc in
    let e2 : name ≡ other = cc in
    let t = same_tail (Named (d + 1) ns name) (Named (d + 1) ms other) _ _ h in
    let k = told_apart i j (d + 1) (parts d a ++ r) (parts d c ++ q) (over_inside d a r u) (over_inside d c q v)
    (sym (append_assoc (parts (d + 1) i) (parts d a) r) ∙ t ∙ append_assoc (parts (d + 1) j) (parts d c) q) in
    let l = told_apart a c d r q u v k.rest in
    record {
      trees = ap (λ z. Element z name i a) e1 ∙ ap (λ z. Element ms z i a) e2 ∙ ap (λ z. Element ms other z a) k.trees ∙ ap (Element ms other j) l.trees;
      rest = l.rest;
    }

pub parts_tell : (f g : Forest) → parts 0 f ≡ parts 0 g → f ≡ g
parts_tell f g h = (told_apart f g 0 [] [] tt tt (append-nil (parts 0 f) ∙ h ∙ sym (append-nil (parts 0 g)))).trees
