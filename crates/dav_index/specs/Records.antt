-- The records of the cache's index, and the text of each.
use Rattle.std.specs.Prelude.{◌≡◌, ◌<◌, ◌≤◌, ◌+◌, ◌^◌, ℕ, Bool, true, List, [], ◌∷◌, ◌++◌, length, if◌then◌else◌}
use Rattle.std.specs.Int.{w16, w32, w64, to_be_bytes}
use Rattle.dav_text.specs.Path.{PathParts, IsPath, escaped}
use Rattle.dav_text.specs.Tag.{IsKept}
use Rattle.dav_text.specs.declared.tag.Seen.{Seen}
use Rattle.dav_text.specs.declared.tag.Seen.TheVariants.{Unknown, Absent, Untagged, Tagged}
use Rattle.dav_store.specs.declared.body_id.BodyId.{BodyId}
use Rattle.dav_index.specs.declared.record.Record.{Record}
use Rattle.dav_index.specs.declared.record.Record.TheVariants.{Forgot, Closed, Sent, Lost, Dropped}

-- a number in two, four or eight bytes, the highest first
unfoldable pub two_bytes : ℕ → List ℕ
two_bytes n = to_be_bytes w16 n

unfoldable pub four_bytes : ℕ → List ℕ
four_bytes n = to_be_bytes w32 n

unfoldable pub eight_bytes : ℕ → List ℕ
eight_bytes n = to_be_bytes w64 n

-- a path: the length of its escaped text in two bytes, and that text
abbrev pub path_text : PathParts → List ℕ
path_text path = two_bytes (length (escaped path)) ++ escaped path

-- a body: its file in four bytes, its length in eight, and its sum
abbrev pub body_text : BodyId → List ℕ
body_text body = four_bytes body.file ++ eight_bytes body.len ++ body.sum

-- what is known of a file: 1 for none, 2 for one without a tag, and 3, the length of the tag and the tag
abbrev pub seen_text : Seen → List ℕ
seen_text Unknown = []
seen_text Absent = 1 ∷ []
seen_text Untagged = 2 ∷ []
seen_text (Tagged tag) = 3 ∷ length tag ∷ tag

-- the text of a record that bytes were sent, up to what is known of the file since
abbrev pub sent_begun : PathParts → ℕ → List ℕ
sent_begun path file = 4 ∷ path_text path ++ four_bytes file

-- the flags of what is forgotten: 1 for locks, 2 for what stands below
abbrev pub flags_of : Bool → Bool → ℕ
flags_of locks below = (if locks then 1 else 0) + (if below then 2 else 0)

abbrev pub bit_of : Bool → ℕ
bit_of b = if b then 1 else 0

-- the text of a record: its kind and its fields
abbrev pub text_of : Record → List ℕ
text_of (Forgot path locks below) = 2 ∷ path_text path ++ flags_of locks below ∷ []
text_of (Closed path body) = 3 ∷ path_text path ++ body_text body
text_of (Sent path file seen) = 4 ∷ path_text path ++ four_bytes file ++ seen_text seen
text_of (Lost number path stays) = 5 ∷ four_bytes number ++ path_text path ++ bit_of stays ∷ []
text_of (Dropped number) = 6 ∷ four_bytes number

-- a path as an entry keeps it: no slash stands at its end, but for `/` itself
pub record IsBare (path : PathParts) : Type 0 where
  pub is_path : IsPath path
  pub top_alone : path.slash ≡ true → path.segments ≡ []

-- a body that a record may name: files 0 and 1 hold no bodies
pub record IsBody (body : BodyId) : Type 0 where
  pub file : 2 ≤ body.file
  pub file_fits : body.file < 2 ^ 32
  pub len_fits : body.len < 2 ^ 64
  pub sum_size : length body.sum ≡ 32

-- what may be on record as known of a file
abbrev pub IsNoted : Seen → Type 0
IsNoted Unknown = ⊥
IsNoted Absent = Unit {0}
IsNoted Untagged = Unit {0}
IsNoted (Tagged tag) = IsKept tag

-- what the fields of a record may be
abbrev pub IsRecord : Record → Type 0
IsRecord (Forgot path locks below) = IsPath path
IsRecord (Closed path body) = IsBare path × IsBody body
IsRecord (Sent path file seen) = IsBare path × (file < 2 ^ 32) × IsNoted seen
IsRecord (Lost number path stays) = IsBare path × (number < 2 ^ 32)
IsRecord (Dropped number) = number < 2 ^ 32
