-- The parts of events, and of trees.
use Rattle.std.proofs.Common.{◌≡◌, ℕ, ◌+◌, ◌-◌, List, [], ◌∷◌, ◌++◌, refl, ap, sym, ◌∙◌, append_assoc, append-nil, arith}
use Rattle.dav_doc.specs.Document.{Forest, Event, Nil, Chars, Element, Start, Char, End, events}
use Rattle.dav_doc.specs.Machine.{chars}
use Rattle.dav_xml.specs.declared.document.Node.{Node}
use Rattle.dav_xml.specs.declared.document.Node.TheVariants as nodes
use Rattle.dav_xml.specs.declared.document.Tree.{Tree}
use Rattle.dav_xml.specs.Nodes.{Named, Byte, parts, bytes_at, part_in, parts_in, parts_from, depth_from, HasGrown}

pub parts_append : (d : ℕ) (a b : List Event) → parts_from d (a ++ b) ≡ parts_from d a ++ parts_from (depth_from d a) b
parts_append d [] b = refl
parts_append d (Start s ns name ∷ a) b = ap (λ z. Named s ns name ∷ z) (parts_append s a b)
parts_append d (Char c ∷ a) b = ap (λ z. Byte d c ∷ z) (parts_append d a b)
parts_append d (End s ∷ a) b = parts_append (s - 1) a b

pub depth_append : (d : ℕ) (a b : List Event) → depth_from d (a ++ b) ≡ depth_from (depth_from d a) b
depth_append d [] b = refl
depth_append d (Start s ns name ∷ a) b = depth_append s a b
depth_append d (Char c ∷ a) b = depth_append d a b
depth_append d (End s ∷ a) b = depth_append (s - 1) a b

pub parts_chars : (d : ℕ) (s : List ℕ) → parts_from d (chars s) ≡ bytes_at d s
parts_chars d [] = refl
parts_chars d (b ∷ s) = ap (λ z. Byte d b ∷ z) (parts_chars d s)

pub depth_chars : (d : ℕ) (s : List ℕ) → depth_from d (chars s) ≡ d
depth_chars d [] = refl
depth_chars d (b ∷ s) = depth_chars d s

pub bytes_append : (d : ℕ) (s t : List ℕ) → bytes_at d (s ++ t) ≡ bytes_at d s ++ bytes_at d t
bytes_append d [] t = refl
bytes_append d (b ∷ s) t = ap (λ z. Byte d b ∷ z) (bytes_append d s t)

pub nodes_append : (a b : List Node) → parts_in (a ++ b) ≡ parts_in a ++ parts_in b
nodes_append [] b = refl
nodes_append (n ∷ a) b = ap (λ z. part_in n ++ z) (nodes_append a b) ∙ sym (append_assoc (part_in n) (parts_in a) (parts_in b))

-- one node more
pub node_more : (a : List Node) (n : Node) → parts_in (a ++ (n ∷ [])) ≡ parts_in a ++ part_in n
node_more a n = nodes_append a (n ∷ []) ∙ ap (λ z. parts_in a ++ z) (append-nil (part_in n))

-- the events of trees give their parts
pub tree_parts : (d : ℕ) (f : Forest) (e : List Event) → parts_from d (events (d + 1) f ++ e) ≡ parts d f ++ parts_from d e
tree_parts d Nil e = refl
tree_parts d (Chars b f) e = ap (λ z. Byte d b ∷ z) (tree_parts d f e)
tree_parts d (Element ns name inside after) e =
    let up : d + 1 - 1 ≡ d = omega arith in
    ap (λ z. Named (d + 1) ns name ∷ parts_from (d + 1) z)
    (append_assoc (events (d + 1 + 1) inside ++ (End (d + 1) ∷ [])) (events (d + 1) after) e
    ∙ append_assoc (events (d + 1 + 1) inside) (End (d + 1) ∷ []) (events (d + 1) after ++ e))
    ∙ ap (λ z. Named (d + 1) ns name ∷ z)
    (tree_parts (d + 1) inside (End (d + 1) ∷ (events (d + 1) after ++ e))
    ∙ ap (λ k. parts (d + 1) inside ++ parts_from k (events (d + 1) after ++ e)) up
    ∙ ap (λ z. parts (d + 1) inside ++ z) (tree_parts d after e)
    ∙ sym (append_assoc (parts (d + 1) inside) (parts d after) (parts_from d e)))

pub whole_parts : (tree : Forest) → parts_from 0 (events 1 tree) ≡ parts 0 tree
whole_parts tree = ap (parts_from 0) (sym (append-nil (events 1 tree))) ∙ tree_parts 0 tree [] ∙ append-nil (parts 0 tree)

-- a tree under way with an event more
pub begins : (old new : Tree) (given : List Event) (depth : ℕ) (ns name : List ℕ) → HasGrown old given → old.text.items ≡ []
    → new.nodes.items ≡ old.nodes.items ++ (nodes.Element depth ns name ∷ []) → new.text.items ≡ old.text.items → new.depth ≡ depth
    → HasGrown new (given ++ (Start depth ns name ∷ []))
begins old new given depth ns name h t n u d = record {
  parts =
      ap (λ z. parts_in new.nodes.items ++ bytes_at new.depth z) (u ∙ t) ∙ append-nil (parts_in new.nodes.items)
      ∙ ap parts_in n ∙ node_more old.nodes.items (nodes.Element depth ns name)
      ∙ ap (λ z. z ++ (Named depth ns name ∷ [])) (sym (append-nil (parts_in old.nodes.items)) ∙ ap (λ z. parts_in old.nodes.items ++ bytes_at old.depth z) (sym t) ∙ h.parts)
      ∙ sym (parts_append 0 given (Start depth ns name ∷ []));
  depth = d ∙ sym (depth_append 0 given (Start depth ns name ∷ []));
}

pub ends : (old new : Tree) (given : List Event) (depth : ℕ) → HasGrown old given → old.text.items ≡ []
    → new.nodes.items ≡ old.nodes.items → new.text.items ≡ old.text.items → new.depth ≡ depth - 1
    → HasGrown new (given ++ (End depth ∷ []))
ends old new given depth h t n u d = record {
  parts =
      ap (λ z. parts_in new.nodes.items ++ bytes_at new.depth z) (u ∙ t) ∙ ap (λ z. parts_in z ++ []) n
      ∙ ap (λ z. parts_in old.nodes.items ++ bytes_at old.depth z) (sym t) ∙ h.parts
      ∙ sym (append-nil (parts_from 0 given))
      ∙ sym (parts_append 0 given (End depth ∷ []));
  depth = d ∙ sym (depth_append 0 given (End depth ∷ []));
}

pub says : (old new : Tree) (given : List Event) (s : List ℕ) → HasGrown old given
    → new.nodes.items ≡ old.nodes.items → new.text.items ≡ old.text.items ++ s → new.depth ≡ old.depth
    → HasGrown new (given ++ chars s)
says old new given s h n u d = record {
  parts =
      ap (λ z. parts_in z ++ bytes_at new.depth new.text.items) n
      ∙ ap (λ z. parts_in old.nodes.items ++ bytes_at z new.text.items) d
      ∙ ap (λ z. parts_in old.nodes.items ++ bytes_at old.depth z) u
      ∙ ap (λ z. parts_in old.nodes.items ++ z) (bytes_append old.depth old.text.items s)
      ∙ sym (append_assoc (parts_in old.nodes.items) (bytes_at old.depth old.text.items) (bytes_at old.depth s))
      ∙ ap (λ z. z ++ bytes_at old.depth s) h.parts
      ∙ ap (λ z. parts_from 0 given ++ bytes_at z s) h.depth
      ∙ ap (λ z. parts_from 0 given ++ z) (sym (parts_chars (depth_from 0 given) s))
      ∙ sym (parts_append 0 given (chars s));
  depth = d ∙ h.depth ∙ sym (depth_chars (depth_from 0 given) s) ∙ sym (depth_append 0 given (chars s));
}

-- the text that waited is a node
pub pauses : (old new : Tree) (given : List Event) → HasGrown old given
    → new.nodes.items ≡ old.nodes.items ++ (nodes.Text old.depth old.text.items ∷ []) → new.text.items ≡ [] → new.depth ≡ old.depth
    → HasGrown new given
pauses old new given h n u d = record {
  parts =
      ap (λ z. parts_in new.nodes.items ++ bytes_at new.depth z) u ∙ append-nil (parts_in new.nodes.items)
      ∙ ap parts_in n ∙ node_more old.nodes.items (nodes.Text old.depth old.text.items) ∙ h.parts;
  depth = d ∙ h.depth;
}
