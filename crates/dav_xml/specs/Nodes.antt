-- A document as its elements and bytes of text in document order, each with its depth, and why a text is none.
use Rattle.std.specs.Prelude.{◌≡◌, ℕ, ◌+◌, ◌-◌, List, [], ◌∷◌, ◌++◌, Some}
use Rattle.dav_doc.specs.Document as document
use Rattle.dav_doc.specs.Document.{Forest, Event, IsDocument, Nil, Chars}
use Rattle.dav_xml.specs.declared.document.Node.{Node}
use Rattle.dav_xml.specs.declared.document.Node.TheVariants as nodes
use Rattle.dav_xml.specs.declared.document.Tree.{Tree}
use Rattle.dav_xml.specs.declared.fault.XmlFault.{XmlFault}
use Rattle.dav_xml.specs.declared.fault.XmlFault.TheVariants as faults
use Rattle.dav_xml.specs.declared.scan.Scan.{Scan}
use Rattle.dav_xml.specs.Events.{later_in}
use Rattle.dav_xml.specs.Read.{HasRead, Stops}
use Rattle.dav_xml.specs.Reading.{Reading, begin, reads}

-- an element at its depth, or a byte of text directly in the innermost element of that depth
pub data Part : Type 0 where
  Named : ℕ → List ℕ → List ℕ → Part
  Byte : ℕ → ℕ → Part

-- the parts of trees in an element of this depth, each element before what it holds
abbrev pub parts : ℕ → Forest → List Part
parts d Nil = []
parts d (Chars b f) = Byte d b ∷ parts d f
parts d (document.Element ns name inside after) = Named (d + 1) ns name ∷ (parts (d + 1) inside ++ parts d after)

abbrev pub bytes_at : ℕ → List ℕ → List Part
bytes_at d [] = []
bytes_at d (b ∷ s) = Byte d b ∷ bytes_at d s

abbrev pub part_in : Node → List Part
part_in (nodes.Element depth ns name) = Named depth ns name ∷ []
part_in (nodes.Text depth bytes) = bytes_at depth bytes

abbrev pub parts_in : List Node → List Part
parts_in [] = []
parts_in (n ∷ ns) = part_in n ++ parts_in ns

-- the parts that events give, which begin in an element of this depth
abbrev pub parts_from : ℕ → List Event → List Part
parts_from d [] = []
parts_from d (document.Start s ns name ∷ e) = Named s ns name ∷ parts_from s e
parts_from d (document.Char b ∷ e) = Byte d b ∷ parts_from d e
parts_from d (document.End s ∷ e) = parts_from (s - 1) e

-- the depth of the innermost open element behind them
abbrev pub depth_from : ℕ → List Event → ℕ
depth_from d [] = d
depth_from d (document.Start s ns name ∷ e) = depth_from s e
depth_from d (document.Char b ∷ e) = depth_from d e
depth_from d (document.End s ∷ e) = depth_from (s - 1) e

-- the nodes so far, and text that is no node yet
abbrev pub grown : Tree → List Part
grown tree = parts_in tree.nodes.items ++ bytes_at tree.depth tree.text.items

-- the tree under way is of these events
pub record HasGrown (tree : Tree) (given : List Event) : Type 0 where
  pub parts : grown tree ≡ parts_from 0 given
  pub depth : tree.depth ≡ depth_from 0 given

-- the scanner has read the whole text, whose events the tree has
pub record Gathered (scan : Scan) (text : List ℕ) (tree : Tree) : Type 0 where
  pub given : List Event
  pub read : HasRead scan text given
  pub quiet : later_in scan.lent ≡ []
  pub grown : HasGrown tree given

-- all bytes are read, and no tree is spelled
pub record IsCut (text : List ℕ) : Type 0 where
  pub reading : Reading
  pub read : reads text begin ≡ Some reading
  pub none : (tree : Forest) → IsDocument tree text → ⊥

-- some byte is the first with that fault
pub record Breaks (text : List ℕ) (fault : XmlFault) : Type 0 where
  pub given : List Event
  pub stops : Stops [] given text fault

-- the first fault of a text as a document
abbrev pub FirstFault : List ℕ → XmlFault → Type 0
FirstFault text (faults.Bad at) = Breaks text (faults.Bad at)
FirstFault text (faults.Limit which) = Breaks text (faults.Limit which)
FirstFault text faults.Cut = IsCut text
FirstFault text faults.Memory = ⊥
