-- What is known of a file after a reply: RFC 9110 sections 8.8.3 and 15.
use Rattle.std.specs.Prelude.{◌≡◌, ℕ, ◌==◌, ◌||◌, if◌then◌else◌, List, [], ◌∷◌, codes}
use Rattle.http_header.specs.FieldValue.{FieldValue}
use Rattle.http_header.specs.HeaderMap.{Entries, get_all}
use Rattle.dav_text.specs.Tag.{IsKept}
use Rattle.dav_text.specs.declared.method.Method.{Method}
use Rattle.dav_text.specs.declared.method.Method.TheVariants.{Options, Get, Head, Put, Delete, Mkcol, Copy, Move, Lock, Unlock, Propfind, Proppatch}
use Rattle.dav_text.specs.declared.tag.Seen.{Seen}
use Rattle.dav_text.specs.declared.tag.Seen.TheVariants.{Unknown, Absent, Untagged, Tagged}
use Rattle.dav_verbs.specs.Outcome.{is_success}
use Rattle.dav_verbs.specs.declared.seen.News.{News}
use Rattle.dav_verbs.specs.declared.seen.News.TheVariants.{There, Gone, Same}

-- there is one ETag field alone, and its value is a tag that can be kept: a strong one of at most 128 bytes
pub record HasTag (fields : Entries FieldValue) (tag : List ℕ) : Type 0 where
  pub value : FieldValue
  pub only : get_all fields (codes "etag") ≡ value ∷ []
  pub bytes : value.bytes ≡ tag
  pub kept : IsKept tag

abbrev pub HasNoTag : Entries FieldValue → Type 0
HasNoTag fields = (tag : List ℕ) → ¬ (HasTag fields tag)

-- the fields of a reply that shows the file tell this of it
abbrev pub IsShown : Entries FieldValue → Seen → Type 0
IsShown fields Unknown = ⊥
IsShown fields Absent = ⊥
IsShown fields Untagged = HasNoTag fields
IsShown fields (Tagged tag) = HasTag fields tag

-- the status of a look at a file: it is there, or it isn't, or nothing is said of it
abbrev pub looked : ℕ → News
looked status = if status == 200 then There else (if status == 404 || status == 410 then Gone else Same)

-- what a status says of the file of a request with this method
abbrev pub news_of : Method → ℕ → News
news_of Get status = looked status
news_of Head status = looked status
news_of Put status = if is_success status then There else Same
news_of Options status = Same
news_of Delete status = Same
news_of Mkcol status = Same
news_of Copy status = Same
news_of Move status = Same
news_of Lock status = Same
news_of Unlock status = Same
news_of Propfind status = Same
news_of Proppatch status = Same

-- what is known after such news, of what was known before
abbrev pub IsKnownAfter : News → Seen → Entries FieldValue → Seen → Type 0
IsKnownAfter There seen fields after = IsShown fields after
IsKnownAfter Gone seen fields after = after ≡ Absent
IsKnownAfter Same seen fields after = after ≡ seen

-- what is known after a reply with this status and these fields
abbrev pub IsSeenAfter : Seen → Method → ℕ → Entries FieldValue → Seen → Type 0
IsSeenAfter seen method status fields after = IsKnownAfter (news_of method status) seen fields after
