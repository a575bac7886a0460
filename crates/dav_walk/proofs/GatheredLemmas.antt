-- Elements whose text is at the end of a buffer that grows.
use Rattle.std.proofs.Common.{◌≡◌, ℕ, zero, suc, ◌<◌, ◌≤◌, List, [], ◌∷◌, ◌++◌, refl, ap, ◌∙◌, length, length-append, length-drop, take, drop, get_or, set, arith}
use Rattle.std.specs.Prelude.{All}
use Rattle.std.proofs.lemmas.List.{take-append-le, drop-append-le, take_all, map-append}
use Rattle.std.proofs.lemmas.List.Elements.{All-append}
use Rattle.std.proofs.Math.Seq.{drop-append_seam}
use Rattle.dav_walk.specs.declared.node.Span.{Span}
use Rattle.dav_walk.specs.declared.node.Node.{Node}
use Rattle.dav_walk.specs.Tree.{Item}
use Rattle.dav_walk.specs.View.{part, item_of, items_of}
use Rattle.dav_walk.specs.Gathering.{with_text}
use Rattle.dav_walk.specs.GatheredView.{ends_within, IsWithin}

all_first : {X : Type 0} (P : X → Type 0) (x : X) (xs : List X) → All P (x ∷ xs) → P x
all_first P x xs h = h 0 x (omega arith)

all_others : {X : Type 0} (P : X → Type 0) (x : X) (xs : List X) → All P (x ∷ xs) → All P xs
all_others P x xs h = λ k d l. h (suc k) d (omega arith)

one : {X : Type 0} (P : X → Type 0) (x : X) → P x → All P (x ∷ [])
one P x h zero d l = h
one P x h (suc k) d l = absurd (omega arith)

part_kept : (text more : List ℕ) (s : Span) → ends_within (length text) s → part (text ++ more) s ≡ part text s
part_kept text more s h =
    ap (take s.len) (drop-append-le s.at text more (omega arith))
    ∙ take-append-le s.len (drop s.at text) more (omega (arith, length-drop s.at text))

pub part_end : (text bytes : List ℕ) (s : Span) → s.at ≡ length text → s.len ≡ length bytes → part (text ++ bytes) s ≡ bytes
part_end text bytes s e f =
    ap (λ n. take s.len (drop n (text ++ bytes))) e ∙ ap (take s.len) (drop-append_seam text bytes) ∙ take_all s.len bytes (omega arith)

item_kept : (text more : List ℕ) (n : Node) → IsWithin (length text) n → item_of (text ++ more) n ≡ item_of text n
item_kept text more n h =
    ap (λ z. let x : Item = record { depth = n.depth; ns = z; name = part (text ++ more) n.name; text = part (text ++ more) n.text } in x) (part_kept text more n.ns h.ns)
    ∙ ap (λ z. let x : Item = record { depth = n.depth; ns = part text n.ns; name = z; text = part (text ++ more) n.text } in x) (part_kept text more n.name h.name)
    ∙ ap (λ z. let x : Item = record { depth = n.depth; ns = part text n.ns; name = part text n.name; text = z } in x) (part_kept text more n.text h.text)

pub items_kept : (nodes : List Node) (text more : List ℕ) → All (IsWithin (length text)) nodes → items_of nodes (text ++ more) ≡ items_of nodes text
items_kept [] text more h = refl
items_kept (n ∷ nodes) text more h =
    ap (λ z. z ∷ items_of nodes (text ++ more)) (item_kept text more n (all_first (IsWithin (length text)) n nodes h))
    ∙ ap (λ z. item_of text n ∷ z) (items_kept nodes text more (all_others (IsWithin (length text)) n nodes h))

pub within_more : (nodes : List Node) (m n : ℕ) → m ≤ n → All (IsWithin m) nodes → All (IsWithin n) nodes
within_more nodes m n l h = λ k d i. let a = h k d i in record { ns = omega (arith, a.ns); name = omega (arith, a.name); text = omega (arith, a.text) }

-- one more element, with its namespace and its name at the end of the text
pub item_added : (nodes : List Node) (text ns name : List ℕ) (n : Node) → All (IsWithin (length text)) nodes
    → n.ns.at ≡ length text → n.ns.len ≡ length ns → n.name.at ≡ length (text ++ ns) → n.name.len ≡ length name → n.text ≡ record { at = 0; len = 0 }
    → items_of (nodes ++ (n ∷ [])) ((text ++ ns) ++ name) ≡ items_of nodes text ++ (record { depth = n.depth; ns = ns; name = name; text = [] } ∷ [])
item_added nodes text ns name n h a b c d e =
    let long = (text ++ ns) ++ name in
    map-append (item_of long) nodes (n ∷ [])
    ∙ ap (λ z. z ++ (item_of long n ∷ [])) (items_kept nodes (text ++ ns) name (within_more nodes (length text) (length (text ++ ns)) (omega (arith, length-append text ns)) h) ∙ items_kept nodes text ns h)
    ∙ ap (λ z. let x : Item = record { depth = n.depth; ns = z; name = part long n.name; text = part long n.text } in items_of nodes text ++ (x ∷ []))
    (part_kept (text ++ ns) name n.ns (omega (arith, length-append text ns)) ∙ part_end text ns n.ns a b)
    ∙ ap (λ z. let x : Item = record { depth = n.depth; ns = ns; name = z; text = part long n.text } in items_of nodes text ++ (x ∷ [])) (part_end (text ++ ns) name n.name c d)
    ∙ ap (λ s. let x : Item = record { depth = n.depth; ns = ns; name = name; text = part long s } in items_of nodes text ++ (x ∷ [])) e

pub node_added : (nodes : List Node) (text ns name : List ℕ) (n : Node) → All (IsWithin (length text)) nodes
    → n.ns.at ≡ length text → n.ns.len ≡ length ns → n.name.at ≡ length (text ++ ns) → n.name.len ≡ length name → n.text ≡ record { at = 0; len = 0 }
    → All (IsWithin (length ((text ++ ns) ++ name))) (nodes ++ (n ∷ []))
node_added nodes text ns name n h a b c d e =
    let long = length ((text ++ ns) ++ name) in
    let l = length-append text ns in
    let m = length-append (text ++ ns) name in
    let t : n.text.at ≡ 0 = ap (λ (s : Span). s.at) e in
    let u : n.text.len ≡ 0 = ap (λ (s : Span). s.len) e in
    let w : IsWithin long n = record { ns = omega arith; name = omega arith; text = omega arith } in
    All-append (IsWithin long) nodes (n ∷ []) (within_more nodes (length text) long (omega arith) h) (one (IsWithin long) n w)

-- the element at a place with its text at the end of the buffer
pub text_set : (nodes : List Node) (place : ℕ) (text bytes : List ℕ) (s : Span) (d : Node) → All (IsWithin (length text)) nodes
    → s.at ≡ length text → s.len ≡ length bytes → place < length nodes
    → items_of (set nodes place (record { depth = (get_or nodes place d).depth; ns = (get_or nodes place d).ns; name = (get_or nodes place d).name; text = s })) (text ++ bytes)
    ≡ with_text place bytes (items_of nodes text)
text_set [] place text bytes s d h a b l = absurd (omega arith)
text_set (n ∷ nodes) zero text bytes s d h a b l =
    let w = all_first (IsWithin (length text)) n nodes h in
    ap (λ z. let x : Item = record { depth = n.depth; ns = z; name = part (text ++ bytes) n.name; text = part (text ++ bytes) s } in x ∷ items_of nodes (text ++ bytes)) (part_kept text bytes n.ns w.ns)
    ∙ ap (λ z. let x : Item = record { depth = n.depth; ns = part text n.ns; name = z; text = part (text ++ bytes) s } in x ∷ items_of nodes (text ++ bytes)) (part_kept text bytes n.name w.name)
    ∙ ap (λ z. let x : Item = record { depth = n.depth; ns = part text n.ns; name = part text n.name; text = z } in x ∷ items_of nodes (text ++ bytes)) (part_end text bytes s a b)
    ∙ ap (λ z. let x : Item = record { depth = n.depth; ns = part text n.ns; name = part text n.name; text = bytes } in x ∷ z) (items_kept nodes text bytes (all_others (IsWithin (length text)) n nodes h))
text_set (n ∷ nodes) (suc place) text bytes s d h a b l =
    ap (λ z. z ∷ items_of (set nodes place (record { depth = (get_or nodes place d).depth; ns = (get_or nodes place d).ns; name = (get_or nodes place d).name; text = s })) (text ++ bytes)) (item_kept text bytes n (all_first (IsWithin (length text)) n nodes h))
    ∙ ap (λ z. item_of text n ∷ z) (text_set nodes place text bytes s d (all_others (IsWithin (length text)) n nodes h) a b (omega arith))

-- past the last element nothing changes
pub text_past : (xs : List Item) (place : ℕ) (text : List ℕ) → length xs ≤ place → with_text place text xs ≡ xs
text_past [] place text l = refl
text_past (x ∷ xs) zero text l = absurd (omega arith)
text_past (x ∷ xs) (suc place) text l = ap (λ z. x ∷ z) (text_past xs place text (omega arith))

pub items_length : (nodes : List Node) (text : List ℕ) → length (items_of nodes text) ≡ length nodes
items_length [] text = refl
items_length (n ∷ nodes) text = let h = items_length nodes text in omega arith
