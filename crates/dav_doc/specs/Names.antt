-- Names, attributes, and what prefixes stand for (Namespaces in XML 1.0).
use Rattle.std.specs.Prelude.{◌≡◌, ℕ, ◌<◌, Bool, true, false, not, ◌&&◌, ◌||◌, List, [], ◌∷◌, ◌++◌, length, Option, Some, None, is_some, bytes_eq, codes, if◌then◌else◌}
use Rattle.std.specs.List.{list_all}
use Rattle.dav_doc.specs.References.{stands_for}
use Rattle.dav_doc.specs.Bytes.{Quote, starts_name, in_name, in_value, blanks}

-- a qualified name: a name, or a prefix and a name (section 4)
pub data Name : Type 0 where
  Plain : List ℕ → Name
  Qualified : List ℕ → List ℕ → Name

abbrev pub written : Name → List ℕ
written (Plain l) = l
written (Qualified p l) = p ++ (58 ∷ l)

-- an unprefixed name has the empty prefix
abbrev pub prefix_of : Name → List ℕ
prefix_of (Plain l) = []
prefix_of (Qualified p l) = p

abbrev pub local_of : Name → List ℕ
local_of (Plain l) = l
local_of (Qualified p l) = l

-- a name without a colon
abbrev pub is_plain : List ℕ → Bool
is_plain [] = false
is_plain (b ∷ s) = starts_name b && list_all in_name s

abbrev pub is_name : Name → Bool
is_name (Plain l) = is_plain l
is_name (Qualified p l) = is_plain p && is_plain l

-- a part of a value: a byte that stands for itself, or a reference and what it stands for
pub data Part : Type 0 where
  Byte : ℕ → Part
  Reference : List ℕ → List ℕ → Part

abbrev pub part_text : Part → List ℕ
part_text (Byte b) = b ∷ []
part_text (Reference r m) = 38 ∷ r

abbrev pub part_value : Part → List ℕ
part_value (Byte b) = b ∷ []
part_value (Reference r m) = m

abbrev pub parts_text : List Part → List ℕ
parts_text [] = []
parts_text (p ∷ ps) = part_text p ++ parts_text ps

abbrev pub parts_value : List Part → List ℕ
parts_value [] = []
parts_value (p ∷ ps) = part_value p ++ parts_value ps

-- an attribute as it is written: the blanks before it, its name, the blanks around its equals sign, its quotes and its value
pub record Attribute : Type 0 where
  pub lead : List ℕ
  pub name : Name
  pub before : List ℕ
  pub after : List ℕ
  pub quote : Quote
  pub parts : List Part

abbrev pub value_of : Attribute → List ℕ
value_of a = parts_value a.parts

-- a namespace for a prefix
pub record Binding : Type 0 where
  pub prefix : List ℕ
  pub ns : List ℕ

-- a name that declares: `xmlns`, or `xmlns:` and a prefix (section 3)
abbrev pub declares : Name → Option (List ℕ)
declares (Plain l) = if bytes_eq l (codes "xmlns") then Some [] else None
declares (Qualified p l) = if bytes_eq p (codes "xmlns") then Some l else None

abbrev pub declare_by : Option (List ℕ) → List ℕ → List Binding → List Binding
declare_by None ns scope = scope
declare_by (Some p) ns scope = record { prefix = p; ns = ns } ∷ scope

-- the declarations below a tag, the innermost first; of two in one tag the first counts
abbrev pub declared : List Attribute → List Binding → List Binding
declared [] scope = scope
declared (a ∷ rest) scope = declare_by (declares a.name) (value_of a) (declared rest scope)

abbrev pub lookup : List Binding → List ℕ → Option (List ℕ)
lookup [] p = None
lookup (b ∷ scope) p = if bytes_eq b.prefix p then Some b.ns else lookup scope p

-- above the root: no namespace for unprefixed names, and `xml`
abbrev pub base : List Binding
base =
    record { prefix = []; ns = [] }
    ∷ record { prefix = codes "xml"; ns = codes "http://www.w3.org/XML/1998/namespace" } ∷ []

-- the attribute declares, or its prefix is declared
abbrev pub is_bound : List Binding → Attribute → Bool
is_bound scope a = is_some (declares a.name) || is_some (lookup scope (prefix_of a.name))

abbrev pub undeclares : Name → List ℕ → Bool
undeclares (Plain l) value = false
undeclares (Qualified p l) value = bytes_eq p (codes "xmlns") && bytes_eq value []

-- no declaration takes a prefix away (section 2.2)
abbrev pub is_fine : Attribute → Bool
is_fine a = not (undeclares a.name (value_of a))

-- the namespace of an element, where all prefixes of its tag are declared (section 5)
abbrev pub resolved : List Binding → Name → List Attribute → Option (List ℕ)
resolved scope name attributes =
    if list_all (is_bound (declared attributes scope)) attributes
    then lookup (declared attributes scope) (prefix_of name) else None

abbrev pub IsPart : Quote → Part → Type 0
IsPart q (Byte b) = in_value q b ≡ true
IsPart q (Reference r m) = stands_for r ≡ Some m

abbrev pub AreParts : Quote → List Part → Type 0
AreParts q [] = Unit {0}
AreParts q (p ∷ ps) = IsPart q p × AreParts q ps

-- what holds of an attribute as it is written (XML 1.0, production 41)
pub record IsAttribute (a : Attribute) : Type 0 where
  pub some : 0 < length a.lead
  pub lead : blanks a.lead ≡ true
  pub name : is_name a.name ≡ true
  pub before : blanks a.before ≡ true
  pub after : blanks a.after ≡ true
  pub parts : AreParts a.quote a.parts
  pub fine : is_fine a ≡ true

abbrev pub AreAttributes : List Attribute → Type 0
AreAttributes [] = Unit {0}
AreAttributes (a ∷ rest) = IsAttribute a × AreAttributes rest
