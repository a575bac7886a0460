-- The responses of a document (RFC 4918, section 14.24), each as the list of its elements in document order.
use Rattle.std.specs.Prelude.{ℕ, ◌+◌, Bool, ◌&&◌, List, [], ◌∷◌, ◌++◌, length, bytes_eq, codes, if◌then◌else◌}
use Rattle.dav_doc.specs.Document.{Forest, Nil, Chars, Element}
use Rattle.dav_walk.specs.declared.root.Root.{Root}
use Rattle.dav_walk.specs.declared.root.Root.TheVariants.{Multistatus, Prop}

-- an element: how deep it is, where the root of its document is at 1, its namespace and name, and its text without that of its children
pub record Item : Type 0 where
  pub depth : ℕ
  pub ns : List ℕ
  pub name : List ℕ
  pub text : List ℕ

-- the name is this one in the namespace `DAV:`
abbrev pub is_dav : List ℕ → List ℕ → List ℕ → Bool
is_dav ns name word = bytes_eq ns (codes "DAV:") && bytes_eq name word

-- the text of an element that holds these trees, without that of its children
abbrev pub direct : Forest → List ℕ
direct Nil = []
direct (Chars b f) = b ∷ direct f
direct (Element ns name inside after) = direct after

-- the elements of trees at a depth, in document order
abbrev pub items : ℕ → Forest → List Item
items d Nil = []
items d (Chars b f) = items d f
items d (Element ns name inside after) =
    record { depth = d; ns = ns; name = name; text = direct inside } ∷ (items (d + 1) inside ++ items d after)

-- an element and all below it
abbrev pub whole : ℕ → List ℕ → List ℕ → Forest → List Item
whole d ns name inside = record { depth = d; ns = ns; name = name; text = direct inside } ∷ items (d + 1) inside

-- the bytes of the namespaces, names and texts of some elements
abbrev pub weight : List Item → ℕ
weight [] = 0
weight (x ∷ xs) = ((length x.ns + length x.name) + length x.text) + weight xs

-- the responses among the children of a root
abbrev pub among : Forest → List (List Item)
among Nil = []
among (Chars b f) = among f
among (Element ns name inside after) =
    if is_dav ns name (codes "response") then whole 2 ns name inside ∷ among after else among after

-- the responses of a document: of a multistatus the children `response` of its root, else the root itself
abbrev pub responses : Root → Forest → List (List Item)
responses root Nil = []
responses root (Chars b f) = responses root f
responses Multistatus (Element ns name inside after) = among inside
responses Prop (Element ns name inside after) = whole 1 ns name inside ∷ []
