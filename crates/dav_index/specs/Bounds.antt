-- What a table holds, and the bounds of a table.
use Rattle.std.specs.Prelude.{◌≢◌, ℕ, ◌+◌, ◌<◌, ◌≤◌, Bool, List, ◌++◌, length, map, find, count_by, sum_by, Option, Some, None, is_some, nat_eq}
use Rattle.std.specs.List.{list_any, filter_map}
use Rattle.dav_text.specs.declared.tag.Seen.TheVariants.{Unknown}
use Rattle.dav_store.specs.declared.body_id.BodyId.{BodyId}
use Rattle.dav_index.specs.Item.{Item}
use Rattle.dav_index.specs.Items.{Every, IsMap}
use Rattle.dav_index.specs.Records.{IsBare}
use Rattle.dav_index.specs.Tables.{queued_body}
use Rattle.dav_index.specs.declared.lost.LostItem.{LostItem}
use Rattle.dav_index.specs.declared.table.Table.{Table}

-- the lost bytes of a number
abbrev pub lost_at : ℕ → List LostItem → Option LostItem
lost_at number lost = find (λ item. nat_eq item.number number) lost

-- the bodies that a table names
abbrev pub bodies_of : Table → List BodyId
bodies_of t = filter_map (λ (item : Item). item.entry.body) t.entries ++ map (λ (item : LostItem). item.body) t.lost

-- whether a body in this file is named
abbrev pub mentions : Table → ℕ → Bool
mentions t file = list_any (λ (body : BodyId). nat_eq body.file file) (bodies_of t)

abbrev pub is_queued : Item → Bool
is_queued item = is_some item.entry.queued

-- how many entries are queued
abbrev pub queued_count : List Item → ℕ
queued_count items = count_by is_queued items

abbrev pub len_of : Option BodyId → ℕ
len_of None = 0
len_of (Some body) = body.len

-- how many bytes are queued
abbrev pub queued_bytes : List Item → ℕ
queued_bytes items = sum_by (λ (item : Item). len_of (queued_body item.entry)) items

-- what is queued is a body
abbrev pub HasBody : Item → Type 0
HasBody item = item.entry.queued ≢ None → item.entry.body ≢ None

-- the table is within its bounds
pub record IsWithin (t : Table) : Type 0 where
  -- the entries are in order, and each is of a file of which something is known
  pub in_order : IsMap t.entries
  pub known : Every (λ (item : Item). item.entry.seen ≢ Unknown) t.entries
  pub queued_have_bodies : Every HasBody t.entries
  pub lost_paths : Every (λ (item : LostItem). IsBare item.path) t.lost
  -- the limits
  pub few_known : length t.entries ≤ 16384
  pub few_kept : queued_count t.entries + length t.lost ≤ 4096
  pub few_bytes : queued_bytes t.entries ≤ 1073741824
  pub short_bodies : Every (λ (body : BodyId). body.len ≤ 8388608) (bodies_of t)
  -- no two bodies are in one file, and each file number is below the next one
  pub files_differ : (file : ℕ) → count_by (λ (body : BodyId). nat_eq body.file file) (bodies_of t) ≤ 1
  pub files_begin : Every (λ (body : BodyId). 2 ≤ body.file) (bodies_of t)
  pub files_known : Every (λ (body : BodyId). body.file < t.next_file) (bodies_of t)
  pub files_left : t.next_file ≤ 4294967295
  -- no two lost bytes have one number, and each number is below the next one
  pub numbers_differ : (number : ℕ) → count_by (λ (item : LostItem). nat_eq item.number number) t.lost ≤ 1
  pub numbers_known : Every (λ (item : LostItem). item.number < t.next_lost) t.lost
  pub numbers_begin : 1 ≤ t.next_lost
  -- all that is queued can be lost
  pub room_for_lost : t.next_lost + queued_count t.entries < t.next_file
