-- What a walk tells of the responses of a whole document, of which only a front has come.
use Rattle.std.specs.Prelude.{◌≡◌, ℕ, ◌<◌, ◌≤◌, ◌⊎◌, true, false, List, [], ◌∷◌, ◌++◌, length}
use Rattle.dav_doc.specs.Document.{Forest, Nil, Element}
use Rattle.dav_text.specs.declared.which.Which.{Which}
use Rattle.dav_text.specs.declared.which.Which.TheVariants.{Nodes, Held}
use Rattle.dav_walk.specs.declared.root.Root.{Root}
use Rattle.dav_walk.specs.declared.root.Root.TheVariants.{Multistatus}
use Rattle.dav_walk.specs.Tree.{Item, is_dav, weight, responses}
use Rattle.dav_walk.specs.Whole.{numbered}
use Rattle.dav_walk.specs.Lending.{Response}
use Rattle.dav_walk.specs.Gathering.{root_name}
use Rattle.dav_walk.specs.Reading.{has_href, has_codes}

-- these are the first responses of the tree, each with the number of those before it
pub record AreFirst (root : Root) (tree : Forest) (lent : List Response) : Type 0 where
  pub later : List Response
  pub all : numbered 0 (responses root tree) ≡ lent ++ later

-- the tree is of a multistatus; so many responses come before this one, and they are these
pub record StandsBehind (root : Root) (tree : Forest) (index : ℕ) (lent : List Response) (response : List Item) : Type 0 where
  pub before : List (List Item)
  pub after : List (List Item)
  pub listing : root ≡ Multistatus
  pub split : responses root tree ≡ before ++ (response ∷ after)
  pub place : index ≡ length before
  pub first : lent ≡ numbered 0 before

-- the response behind these has no child `href`
pub record LacksHref (root : Root) (tree : Forest) (index : ℕ) (lent : List Response) : Type 0 where
  pub response : List Item
  pub stands : StandsBehind root tree index lent response
  pub lacks : has_href response ≡ false

-- the response behind these has a child `href`, and a `status` that is none, or a `propstat` without one
pub record LacksStatus (root : Root) (tree : Forest) (index : ℕ) (lent : List Response) : Type 0 where
  pub response : List Item
  pub stands : StandsBehind root tree index lent response
  pub href : has_href response ≡ true
  pub lacks : has_codes response ≡ false

-- the root of the tree isn't the one that is asked for
pub record HasOtherRoot (root : Root) (tree : Forest) : Type 0 where
  pub ns : List ℕ
  pub name : List ℕ
  pub inside : Forest
  pub is : tree ≡ Element ns name inside Nil
  pub other : is_dav ns name (root_name root) ≡ false

-- more than 4,096 elements, or more than 1,048,576 bytes of namespaces, names and texts
abbrev pub Exceeds : Which → List Item → Type 0
Exceeds which response = ((which ≡ Nodes) × (4096 < length response)) ⊎ ((which ≡ Held) × (1048576 < weight response))

-- the response behind these passes the limit
pub record HasLarge (root : Root) (tree : Forest) (lent : List Response) (which : Which) : Type 0 where
  pub response : List Item
  pub before : List (List Item)
  pub after : List (List Item)
  pub split : responses root tree ≡ before ++ (response ∷ after)
  pub first : lent ≡ numbered 0 before
  pub large : Exceeds which response

-- at most 4,096 elements, and in a multistatus an `href` and nothing but status lines
pub record Fits (root : Root) (response : List Item) : Type 0 where
  pub few : length response ≤ 4096
  pub href : root ≡ Multistatus → has_href response ≡ true
  pub codes : root ≡ Multistatus → has_codes response ≡ true

-- each of these fits
abbrev pub AllFit : Root → List Response → Type 0
AllFit root [] = Unit {0}
AllFit root (x ∷ xs) = Fits root x.items × AllFit root xs
