-- What a response says, read from its elements (RFC 4918, sections 14.24 and 14.22).
use Rattle.std.specs.Prelude.{ℕ, ◌+◌, ◌-◌, Bool, true, false, ◌==◌, nat_le, List, [], ◌∷◌, map, take, drop, Option, Some, None, is_some, option_map, bytes_eq, codes, find, filter, flat_map, if◌then◌else◌}
use Rattle.std.specs.List.{list_all}
use Rattle.dav_doc.specs.Bytes.{is_blank}
use Rattle.dav_text.specs.Blanks.{trimmed as without_blanks}
use Rattle.dav_text.specs.Digits.{number_of}
use Rattle.dav_text.specs.declared.blanks.Blanks.TheVariants.{Document}
use Rattle.dav_walk.specs.Tree.{Item, is_dav}

-- the text without blanks at its ends
abbrev pub trimmed : List ℕ → List ℕ
trimmed s = without_blanks Document s

-- what follows the bytes before the first blank
abbrev pub after_word : List ℕ → List ℕ
after_word [] = []
after_word (b ∷ s) = if is_blank b then b ∷ s else after_word s

abbrev pub ends_code : List ℕ → Bool
ends_code [] = true
ends_code (b ∷ s) = b == 32

abbrev pub code_by : ℕ → ℕ → ℕ → List ℕ → Option ℕ
code_by a b c rest = if ends_code rest then number_of 3 (a ∷ b ∷ c ∷ []) else None

-- three digits, and then the end or a space
abbrev pub code_in : List ℕ → Option ℕ
code_in [] = None
code_in (a ∷ []) = None
code_in (a ∷ b ∷ []) = None
code_in (a ∷ b ∷ c ∷ rest) = code_by a b c rest

-- a space and a code
abbrev pub spaced_code : List ℕ → Option ℕ
spaced_code [] = None
spaced_code (b ∷ s) = if b == 32 then code_in s else None

-- a version, which is a byte or more that are no blanks, then a space and a code
abbrev pub versioned_code : List ℕ → Option ℕ
versioned_code [] = None
versioned_code (b ∷ s) = if is_blank b then None else spaced_code (after_word s)

-- the code of a status line (RFC 9112, section 4)
abbrev pub line_code : List ℕ → Option ℕ
line_code s = if bytes_eq (take 5 s) (codes "HTTP/") then versioned_code (drop 5 s) else None

-- the code of a text that is a status line between blanks
abbrev pub code_of : List ℕ → Option ℕ
code_of text = line_code (trimmed text)

-- an element of a list, its place there, and what follows it
pub record Child : Type 0 where
  pub place : ℕ
  pub item : Item
  pub following : List Item

-- the children of an element at a depth, where these elements follow it and the first of them has that place
abbrev pub children : ℕ → ℕ → List Item → List Child
children depth place [] = []
children depth place (x ∷ xs) =
    if nat_le x.depth depth then []
    else (if x.depth - depth == 1 then record { place = place; item = x; following = xs } ∷ children depth (place + 1) xs
    else children depth (place + 1) xs)

abbrev pub named : List ℕ → Child → Bool
named word c = is_dav c.item.ns c.item.name word

abbrev pub children_of : Child → List Child
children_of c = children c.item.depth (c.place + 1) c.following

-- the first child with this name in `DAV:` of an element at a depth, where these elements follow it
abbrev pub first_child : List ℕ → ℕ → List Item → Option Item
first_child word depth xs = option_map (λ c. c.item) (find (named word) (children depth 0 xs))

abbrev pub text_of : Option Item → List ℕ
text_of None = []
text_of (Some x) = trimmed x.text

abbrev pub code_at : Option Item → Option ℕ
code_at None = None
code_at (Some x) = code_of x.text

-- the first element is `response` in `DAV:`
abbrev pub is_response : List Item → Bool
is_response [] = false
is_response (x ∷ xs) = is_dav x.ns x.name (codes "response")

-- the first child with this name of the first element
abbrev pub own : List ℕ → List Item → Option Item
own word [] = None
own word (x ∷ xs) = first_child word x.depth xs

-- the text of the first child `href`
abbrev pub href : List Item → List ℕ
href xs = text_of (own (codes "href") xs)

-- the code of the first child `status` of a response
abbrev pub status : List Item → Option ℕ
status xs = if is_response xs then code_at (own (codes "status") xs) else None

-- a property that a response gives: the code of its `propstat`, and the place of its element
pub record Given : Type 0 where
  pub status : ℕ
  pub place : ℕ

abbrev pub given_by : ℕ → Child → Given
given_by code c = record { status = code; place = c.place }

-- the children of an element `prop`
abbrev pub of_prop : ℕ → Child → List Given
of_prop code p = map (given_by code) (children_of p)

abbrev pub of_props : ℕ → List Child → List Given
of_props code cs = flat_map (of_prop code) (filter (named (codes "prop")) cs)

-- the code of the first child `status` of a `propstat`
abbrev pub propstat_code : ℕ → List Item → Option ℕ
propstat_code depth xs = code_at (first_child (codes "status") depth xs)

abbrev pub on_code : Option ℕ → List Child → List Given
on_code None cs = []
on_code (Some code) cs = of_props code cs

-- the children of the children `prop` of a `propstat` that has a code
abbrev pub of_propstat : Child → List Given
of_propstat c = on_code (propstat_code c.item.depth c.following) (children_of c)

abbrev pub of_propstats : List Child → List Given
of_propstats cs = flat_map of_propstat (filter (named (codes "propstat")) cs)

abbrev pub of_response : List Item → List Given
of_response [] = []
of_response (x ∷ xs) = of_propstats (children x.depth 1 xs)

-- the properties of a response, in document order
abbrev pub props : List Item → List Given
props xs = if is_response xs then of_response xs else []

-- it has a child `href`
abbrev pub has_href : List Item → Bool
has_href xs = is_some (own (codes "href") xs)

-- a `status` is a status line, and the first `status` of a `propstat` is there and is one
abbrev pub is_fine : Child → Bool
is_fine c =
    if named (codes "status") c then is_some (code_of c.item.text)
    else (if named (codes "propstat") c then is_some (propstat_code c.item.depth c.following) else true)

-- each child of the first element is
abbrev pub has_codes : List Item → Bool
has_codes [] = true
has_codes (x ∷ xs) = list_all is_fine (children x.depth 1 xs)
