-- Where the responses of a document end in its text.
use Rattle.std.specs.Prelude.{ℕ, ◌+◌, Bool, true, false, nat_le, List, [], ◌∷◌, ◌++◌, length, codes, if◌then◌else◌}
use Rattle.dav_doc.specs.Names.{Binding, local_of}
use Rattle.dav_doc.specs.Document as document
use Rattle.dav_doc.specs.Document.{Forest, Nil, start_tag, empty_tag, end_tag, section_open, Content, nothing, text, line_end, lone_return, reference, comment, instruction, section, empty, element, alone, full, IsDocument}
use Rattle.dav_walk.specs.declared.root.Root.{Root}
use Rattle.dav_walk.specs.declared.root.Root.TheVariants.{Multistatus, Prop}
use Rattle.dav_walk.specs.Tree.{Item, is_dav, whole}
use Rattle.dav_walk.specs.Lending.{Response}

-- a response, and how many bytes of the document there are up to its last one, which counts
pub record Placed : Type 0 where
  pub items : List Item
  pub past : ℕ

abbrev pub placed_by : Bool → Placed → List Placed → List Placed
placed_by true p later = p ∷ later
placed_by false p later = later

-- the responses among the trees of a text that stands behind so many bytes
abbrev pub placed_among : {scope : List Binding} {f : Forest} {s : List ℕ} → ℕ → Content scope f s → List Placed
placed_among at nothing = []
placed_among at (text b is lone ends c) = placed_among (at + 1) c
placed_among at (line_end c) = placed_among (at + 2) c
placed_among at (lone_return feed c) = placed_among (at + 1) c
placed_among at (reference r m is c) = placed_among (at + length (38 ∷ r)) c
placed_among at (comment r is c) = placed_among (at + length (60 ∷ 33 ∷ 45 ∷ 45 ∷ r)) c
placed_among at (instruction r is c) = placed_among (at + length (60 ∷ 63 ∷ r)) c
placed_among at (section d r is c) = placed_among (at + length (section_open r)) c
placed_among at (empty t w ns is blank known c) =
    let past = at + length (empty_tag t w) in
    placed_by (is_dav ns (local_of t.name) (codes "response")) (record { items = whole 2 ns (local_of t.name) Nil; past = past }) (placed_among past c)
placed_among at (element {inside = inside} {s = s} t w v ns is blank blanks known c d) =
    let past = at + length (start_tag t w ++ (s ++ end_tag t.name v)) in
    placed_by (is_dav ns (local_of t.name) (codes "response")) (record { items = whole 2 ns (local_of t.name) inside; past = past }) (placed_among past d)

-- those of a root that stands behind so many bytes
abbrev pub placed_in : {f : Forest} {s : List ℕ} → Root → ℕ → document.Root f s → List Placed
placed_in Multistatus at (alone t w ns is blank known) = []
placed_in Multistatus at (full t w v ns is blank blanks known c) = placed_among (at + length (start_tag t w)) c
placed_in Prop at (alone t w ns is blank known) = record { items = whole 1 ns (local_of t.name) Nil; past = at + length (empty_tag t w) } ∷ []
placed_in Prop at (full {inside = inside} {s = s} t w v ns is blank blanks known c) =
    record { items = whole 1 ns (local_of t.name) inside; past = at + length (start_tag t w ++ (s ++ end_tag t.name v)) } ∷ []

-- the responses of a document
abbrev pub placed : {tree : Forest} {s : List ℕ} → Root → IsDocument tree s → List Placed
placed root d =
    let before = d.spells.mark ++ (d.spells.declared.first ++ d.spells.declared.rooted.front) in
    placed_in root (length before) d.spells.declared.rooted.root

-- those of which the last byte is one of so many first bytes, each with the number of those before it in the document
abbrev pub ended_in : ℕ → ℕ → List Placed → List Response
ended_in first count [] = []
ended_in first count (p ∷ ps) =
    if nat_le p.past count then record { items = p.items; index = first } ∷ ended_in (first + 1) count ps else ended_in (first + 1) count ps

abbrev pub all_placed : List Placed → List (List Item)
all_placed [] = []
all_placed (p ∷ ps) = p.items ∷ all_placed ps
