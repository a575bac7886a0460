-- What the fields of a reply say of its codings and of the connection: RFC 9112 sections 6.1 and 9.6,
-- RFC 9110 section 8.4.
use Rattle.std.specs.Prelude.{ℕ, ◌||◌, not, Bool, List, [], ◌∷◌, fold, if◌then◌else◌, codes}
use Rattle.std.specs.List.{list_any}
use Rattle.http_header.specs.FieldValue.{FieldValue}
use Rattle.http_header.specs.HeaderMap.{Entries}
use Rattle.dav_head.specs.Elements.{elements, parts, is_token}
use Rattle.dav_head.specs.declared.codings.Transfer.{Transfer}
use Rattle.dav_head.specs.declared.codings.Transfer.TheVariants.{Missing, Chunked, Other}

-- what a list of transfer codings is: `chunked` alone, or another list
abbrev pub transfer_in : List (List ℕ) → Transfer
transfer_in [] = Missing
transfer_in (coding ∷ []) = if is_token (codes "chunked") coding then Chunked else Other
transfer_in (coding ∷ next ∷ more) = Other

-- what the Transfer-Encoding fields say
abbrev pub transfer_coding : Entries FieldValue → Transfer
transfer_coding fields = transfer_in (elements fields (codes "transfer-encoding"))

-- the content coding is another than `identity`
abbrev pub is_other_coding : List ℕ → Bool
is_other_coding coding = not (is_token (codes "identity") coding)

-- a Content-Encoding field has such a coding
abbrev pub is_encoded : Entries FieldValue → Bool
is_encoded fields = list_any is_other_coding (elements fields (codes "content-encoding"))

-- the connection option is `close`
abbrev pub is_close : List ℕ → Bool
is_close option = is_token (codes "close") option

-- a Connection field has it
abbrev pub says_close : Entries FieldValue → Bool
says_close fields = list_any is_close (elements fields (codes "connection"))

-- what is known after one transfer coding more, from what was known before it
abbrev pub with_coding : Transfer → List ℕ → Transfer
with_coding Missing coding = if is_token (codes "chunked") coding then Chunked else Other
with_coding Chunked coding = Other
with_coding Other coding = Other

-- the same of a whole value
abbrev pub with_codings : Transfer → FieldValue → Transfer
with_codings transfer value = fold with_coding transfer (parts value)

-- whether an element that passes the test was found, after one value more
abbrev pub found_in : (List ℕ → Bool) → Bool → FieldValue → Bool
found_in test found value = fold (λ now element. now || test element) found (parts value)
