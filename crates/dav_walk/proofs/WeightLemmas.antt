-- How much events hold, and what each response holds when it ends.
use Rattle.std.proofs.Common.{◌≡◌, ℕ, ◌+◌, List, [], ◌∷◌, ◌++◌, length, length-append, refl, ap, sym, ◌∙◌, append_assoc, arith}
use Rattle.dav_doc.specs.Document.{Forest, Nil, Chars, Element, Event, Start, Char, End, events}
use Rattle.dav_walk.specs.Tree.{Item, direct, items, weight}
use Rattle.dav_walk.specs.Gathering.{Opened, Gathering, next, ended, ended_by}
use Rattle.dav_walk.specs.Whole.{after, given}

-- the bytes of namespaces, names and texts that events bring
abbrev pub adds : List Event → ℕ
adds [] = 0
adds (Start d ns name ∷ es) = (length ns + length name) + adds es
adds (Char b ∷ es) = 1 + adds es
adds (End d ∷ es) = adds es

pub adds-append : (es later : List Event) → adds (es ++ later) ≡ adds es + adds later
adds-append [] later = omega arith
adds-append (Start d ns name ∷ es) later = let h = adds-append es later in omega arith
adds-append (Char b ∷ es) later = let h = adds-append es later in omega arith
adds-append (End d ∷ es) later = adds-append es later

pub weight-append : (xs ys : List Item) → weight (xs ++ ys) ≡ weight xs + weight ys
weight-append [] ys = omega arith
weight-append (x ∷ xs) ys = let h = weight-append xs ys in omega arith

-- the events of trees bring what the trees hold
pub adds_tree : (d : ℕ) (f : Forest) → adds (events d f) ≡ weight (items d f) + length (direct f)
adds_tree d Nil = omega arith
adds_tree d (Chars b f) = let h = adds_tree d f in omega arith
adds_tree d (Element ns name inside f) =
    let a = adds_tree (d + 1) inside in
    let b = adds_tree d f in
    let c = adds-append (events (d + 1) inside ++ (End d ∷ [])) (events d f) in
    let e = adds-append (events (d + 1) inside) (End d ∷ []) in
    let w = weight-append (items (d + 1) inside) (items d f) in
    omega arith

-- what the response that ends with an event holds
abbrev pub held_by : Gathering → List Opened → List ℕ
held_by g [] = []
held_by g (o ∷ []) = g.held ∷ []
held_by g (o ∷ p ∷ os) = []

abbrev pub held_at : Gathering → Event → List ℕ
held_at g (Start d ns name) = []
held_at g (Char b) = []
held_at g (End d) = held_by g g.opened

abbrev pub helds : Gathering → List Event → List ℕ
helds g [] = []
helds g (e ∷ es) = held_at g e ++ helds (next g e) es

pub helds-append : (g : Gathering) (es later : List Event) → helds g (es ++ later) ≡ helds g es ++ helds (after g es) later
helds-append g [] later = refl
helds-append g (e ∷ es) later =
    ap (λ z. held_at g e ++ z) (helds-append (next g e) es later)
    ∙ sym (append_assoc (held_at g e) (helds (next g e) es) (helds (after (next g e) es) later))

as_many_by : (g : Gathering) (os : List Opened) → length (held_by g os) ≡ length (ended_by g os)
as_many_by g [] = refl
as_many_by g (o ∷ []) = refl
as_many_by g (o ∷ p ∷ os) = refl

as_many_at : (g : Gathering) (e : Event) → length (held_at g e) ≡ length (ended g e)
as_many_at g (Start d ns name) = refl
as_many_at g (Char b) = refl
as_many_at g (End d) = as_many_by g g.opened

-- one number for each response that ends
pub as_many : (g : Gathering) (es : List Event) → length (helds g es) ≡ length (given g es)
as_many g [] = refl
as_many g (e ∷ es) =
    let h = as_many_at g e in
    let k = as_many (next g e) es in
    omega (arith, length-append (held_at g e) (helds (next g e) es), length-append (ended g e) (given (next g e) es))
