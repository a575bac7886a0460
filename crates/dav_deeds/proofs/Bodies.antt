-- Sums over the bodies that a table names, and facts of each.
use Rattle.std.proofs.Common.{◌≡◌, ℕ, ◌+◌, ◌<◌, Bool, true, false, List, [], ◌∷◌, ◌++◌, map, Option, Some, None, nat_eq, refl, sym, ◌∙◌, ap, subst, arith, sum_by, if◌then◌else◌}
use Rattle.std.specs.List.{filter_map, cons_option, list_any}
use Rattle.std.proofs.lemmas.Bool.Decides.{nat_tests}
use Rattle.std.proofs.lemmas.List.Sums.{sum_by-cons, sum_by-append}
use Rattle.dav_store.specs.declared.body_id.BodyId.{BodyId}
use Rattle.dav_index.specs.Item.{Item}
use Rattle.dav_index.specs.Items.{Every}
use Rattle.dav_index.specs.Bounds.{bodies_of}
use Rattle.dav_index.specs.declared.entry.Entry.{Entry}
use Rattle.dav_index.specs.declared.lost.LostItem.{LostItem}
use Rattle.dav_index.specs.declared.table.Table.{Table}
use Rattle.dav_index.proofs.Weights.{weight, EachEntry}

-- what a body weighs, where there is one
abbrev pub of_body : (BodyId → ℕ) → Option BodyId → ℕ
of_body c None = 0
of_body c (Some b) = c b

abbrev pub of_entry : (BodyId → ℕ) → Entry → ℕ
of_entry c e = of_body c e.body

-- 1 for a body in this file
abbrev pub in_file : ℕ → BodyId → ℕ
in_file file b = if nat_eq b.file file then 1 else 0

sum_map : {X Y : Type 0} (c : Y → ℕ) (f : X → Y) (xs : List X) → sum_by c (map f xs) ≡ sum_by (λ x. c (f x)) xs
sum_map c f [] = refl
sum_map c f (x ∷ xs) = sum_by-cons c (f x) (map f xs) ∙ ap (λ n. c (f x) + n) (sum_map c f xs) ∙ sym (sum_by-cons (λ x. c (f x)) x xs)

sum_bodies : (c : BodyId → ℕ) (items : List Item) → sum_by c (filter_map (λ (item : Item). item.entry.body) items) ≡ weight (of_entry c) items
sum_bodies c [] = refl
sum_bodies c (x ∷ xs) = by x.entry.body (sum_bodies c xs) ∙ sym (sum_by-cons (λ (item : Item). of_entry c item.entry) x xs)
  where
    by : (o : Option BodyId) → sum_by c (filter_map (λ (item : Item). item.entry.body) xs) ≡ weight (of_entry c) xs
        → sum_by c (cons_option o (filter_map (λ (item : Item). item.entry.body) xs)) ≡ of_body c o + weight (of_entry c) xs
    by None ih = omega arith
    by (Some b) ih = sum_by-cons c b (filter_map (λ (item : Item). item.entry.body) xs) ∙ ap (λ n. c b + n) ih

pub bodies_weight : (c : BodyId → ℕ) (t : Table) → sum_by c (bodies_of t) ≡ weight (of_entry c) t.entries + sum_by (λ (l : LostItem). c l.body) t.lost
bodies_weight c t =
    sum_by-append c (filter_map (λ (item : Item). item.entry.body) t.entries) (map (λ (l : LostItem). l.body) t.lost)
    ∙ ap (λ n. n + sum_by c (map (λ (l : LostItem). l.body) t.lost)) (sum_bodies c t.entries)
    ∙ ap (λ n. weight (of_entry c) t.entries + n) (sum_map c (λ (l : LostItem). l.body) t.lost)

-- a fact of the body of an entry, where there is one
abbrev pub OfBody : (BodyId → Type 0) → Entry → Type 0
OfBody Q e = (b : BodyId) → e.body ≡ Some b → Q b

each_of : (Q : BodyId → Type 0) (items : List Item) → Every Q (filter_map (λ (item : Item). item.entry.body) items) → EachEntry (OfBody Q) items
each_of Q [] h = tt
each_of Q (x ∷ xs) h = by x.entry.body refl h (λ r. each_of Q xs r)
  where
    by : (o : Option BodyId) → x.entry.body ≡ o → Every Q (cons_option o (filter_map (λ (item : Item). item.entry.body) xs)) → (Every Q (filter_map (λ (item : Item). item.entry.body) xs) → EachEntry (OfBody Q) xs) → EachEntry (OfBody Q) (x ∷ xs)
    by None is h rest = ((λ b at. let no : None ≡ Some b = sym is ∙ at in cc), rest h)
    by (Some c) is h rest = ((λ b at. let same : Some c ≡ Some b = sym is ∙ at in let eq : c ≡ b = cc in subst Q eq h.0), rest h.1)

each_back : (Q : BodyId → Type 0) (items : List Item) → EachEntry (OfBody Q) items → Every Q (filter_map (λ (item : Item). item.entry.body) items)
each_back Q [] h = tt
each_back Q (x ∷ xs) h = by x.entry.body refl (each_back Q xs h.1)
  where
    by : (o : Option BodyId) → x.entry.body ≡ o → Every Q (filter_map (λ (item : Item). item.entry.body) xs) → Every Q (cons_option o (filter_map (λ (item : Item). item.entry.body) xs))
    by None is rest = rest
    by (Some c) is rest = (h.0 c is, rest)

lost_each : (Q : BodyId → Type 0) (ls : List LostItem) → Every Q (map (λ (l : LostItem). l.body) ls) → Every (λ (l : LostItem). Q l.body) ls
lost_each Q [] h = tt
lost_each Q (l ∷ ls) h = (h.0, lost_each Q ls h.1)

lost_back : (Q : BodyId → Type 0) (ls : List LostItem) → Every (λ (l : LostItem). Q l.body) ls → Every Q (map (λ (l : LostItem). l.body) ls)
lost_back Q [] h = tt
lost_back Q (l ∷ ls) h = (h.0, lost_back Q ls h.1)

pub every_append : {X : Type 0} (Q : X → Type 0) (xs ys : List X) → Every Q xs → Every Q ys → Every Q (xs ++ ys)
every_append Q [] ys h k = k
every_append Q (x ∷ xs) ys h k = (h.0, every_append Q xs ys h.1 k)

every_front : {X : Type 0} (Q : X → Type 0) (xs ys : List X) → Every Q (xs ++ ys) → Every Q xs
every_front Q [] ys h = tt
every_front Q (x ∷ xs) ys h = (h.0, every_front Q xs ys h.1)

every_back : {X : Type 0} (Q : X → Type 0) (xs ys : List X) → Every Q (xs ++ ys) → Every Q ys
every_back Q [] ys h = h
every_back Q (x ∷ xs) ys h = every_back Q xs ys h.1

pub every_weaker : {X : Type 0} (P Q : X → Type 0) (xs : List X) → ((x : X) → P x → Q x) → Every P xs → Every Q xs
every_weaker P Q [] f h = h
every_weaker P Q (x ∷ xs) f h = (f x h.0, every_weaker P Q xs f h.1)

-- a fact of each body, in the entries and among the lost files
pub record EachBody (Q : BodyId → Type 0) (items : List Item) (lost : List LostItem) : Type 0 where
  pub kept : EachEntry (OfBody Q) items
  pub gone : Every (λ (l : LostItem). Q l.body) lost

pub each_body : (Q : BodyId → Type 0) (t : Table) → Every Q (bodies_of t) → EachBody Q t.entries t.lost
each_body Q t h = record {
  kept = each_of Q t.entries (every_front Q (filter_map (λ (item : Item). item.entry.body) t.entries) (map (λ (l : LostItem). l.body) t.lost) h);
  gone = lost_each Q t.lost (every_back Q (filter_map (λ (item : Item). item.entry.body) t.entries) (map (λ (l : LostItem). l.body) t.lost) h);
}

pub bodies_each : (Q : BodyId → Type 0) (t : Table) → EachBody Q t.entries t.lost → Every Q (bodies_of t)
bodies_each Q t h = every_append Q (filter_map (λ (item : Item). item.entry.body) t.entries) (map (λ (l : LostItem). l.body) t.lost) (each_back Q t.entries h.kept) (lost_back Q t.lost h.gone)

-- no body is in a file beyond all of them
pub none_beyond : (file : ℕ) (bs : List BodyId) → Every (λ (b : BodyId). b.file < file) bs → sum_by (in_file file) bs ≡ 0
none_beyond file [] h = refl
none_beyond file (b ∷ bs) h =
    let off : nat_eq b.file file ≡ false = let l : b.file < file = h.0 in grind (arith, nat_tests) in
    let head : sum_by (in_file file) (b ∷ bs) ≡ in_file file b + sum_by (in_file file) bs = sum_by-cons (in_file file) b bs in
    let zero : in_file file b ≡ 0 = ap (λ (t : Bool). if t then 1 else 0) off in
    let ih : sum_by (in_file file) bs ≡ 0 = none_beyond file bs h.1 in
    omega arith

pub not_mentioned : (file : ℕ) (bs : List BodyId) → sum_by (in_file file) bs ≡ 0 → list_any (λ (b : BodyId). nat_eq b.file file) bs ≡ false
not_mentioned file [] h = refl
not_mentioned file (b ∷ bs) h = by (nat_eq b.file file) refl (λ z. not_mentioned file bs z)
  where
    head : sum_by (in_file file) (b ∷ bs) ≡ in_file file b + sum_by (in_file file) bs
    head = sum_by-cons (in_file file) b bs

    by : (t : Bool) → nat_eq b.file file ≡ t → (sum_by (in_file file) bs ≡ 0 → list_any (λ (b : BodyId). nat_eq b.file file) bs ≡ false) → list_any (λ (b : BodyId). nat_eq b.file file) (b ∷ bs) ≡ false
    by true is ih =
        let one : in_file file b ≡ 1 = ap (λ (t : Bool). if t then 1 else 0) is in
        absurd (let e : 0 ≡ 1 + sum_by (in_file file) bs = sym h ∙ head ∙ ap (λ n. n + sum_by (in_file file) bs) one in omega arith)
    by false is ih =
        let zero : in_file file b ≡ 0 = ap (λ (t : Bool). if t then 1 else 0) is in
        rw is (ih (let e : 0 ≡ in_file file b + sum_by (in_file file) bs = sym h ∙ head in omega arith))
