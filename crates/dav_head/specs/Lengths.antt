-- The length of a body that the Content-Length fields state: RFC 9110 section 8.6, RFC 9112 section 6.3.
use Rattle.std.specs.Prelude.{ℕ, ◌==◌, Bool, false, List, [], ◌∷◌, fold, Option, Some, None, if◌then◌else◌, codes}
use Rattle.std.specs.List.{list_all}
use Rattle.httparse.specs.Grammar.{trim_ows}
use Rattle.http_header.specs.FieldValue.{FieldValue}
use Rattle.http_header.specs.HeaderMap.{Entries}
use Rattle.dav_text.specs.Digits.{number_of as number_up_to}
use Rattle.dav_head.specs.Elements.{elements, parts}
use Rattle.dav_head.specs.declared.lengths.Length.{Length}
use Rattle.dav_head.specs.declared.lengths.Length.TheVariants.{Missing, Stated, Bad}

-- the number that 1 to 15 digits write
abbrev pub number_of : List ℕ → Option ℕ
number_of text = number_up_to 15 text

abbrev pub is_some_number : ℕ → Option ℕ → Bool
is_some_number n None = false
is_some_number n (Some m) = n == m

-- the element writes this number
abbrev pub writes : ℕ → List ℕ → Bool
writes n element = is_some_number n (number_of (trim_ows element))

-- what a first element with this number states, and those after it
abbrev pub stated_from : Option ℕ → List (List ℕ) → Length
stated_from None more = Bad
stated_from (Some n) more = if list_all (writes n) more then Stated n else Bad

-- what a list of lengths states: each element must be a number, and all of them one
abbrev pub stated_in : List (List ℕ) → Length
stated_in [] = Missing
stated_in (first ∷ more) = stated_from (number_of (trim_ows first)) more

-- what the fields state
abbrev pub content_length : Entries FieldValue → Length
content_length fields = stated_in (elements fields (codes "content-length"))

-- what is known after an element with this number, from what was known before it
abbrev pub with_number : Length → Option ℕ → Length
with_number Bad number = Bad
with_number Missing None = Bad
with_number Missing (Some n) = Stated n
with_number (Stated m) None = Bad
with_number (Stated m) (Some n) = if m == n then Stated m else Bad

-- the same of an element
abbrev pub with_element : Length → List ℕ → Length
with_element length element = with_number length (number_of (trim_ows element))

-- the same of a whole value
abbrev pub with_value : Length → FieldValue → Length
with_value length value = fold with_element length (parts value)
