-- The bounds of a table as tests.
use Rattle.std.specs.Prelude.{ℕ, ◌+◌, ◌<◌, ◌≤◌, Bool, true, false, not, ◌&&◌, ◌||◌, nat_le, nat_lt, length, count_by, Option, Some, None, is_some, nat_eq}
use Rattle.dav_text.specs.declared.tag.Seen.{Seen}
use Rattle.dav_text.specs.declared.tag.Seen.TheVariants.{Unknown, Absent, Untagged, Tagged}
use Rattle.dav_store.specs.declared.body_id.BodyId.{BodyId}
use Rattle.dav_index.specs.Item.{Item}
use Rattle.dav_index.specs.Bounds.{queued_count, queued_bytes}
use Rattle.dav_index.specs.Tables.{has_file}
use Rattle.dav_index.specs.declared.entry.Entry.{Entry}
use Rattle.dav_index.specs.declared.lost.LostItem.{LostItem}
use Rattle.dav_index.specs.declared.record.Record.{Record}
use Rattle.dav_index.specs.declared.record.Record.TheVariants.{Forgot, Closed, Sent, Lost, Dropped}
use Rattle.dav_index.specs.declared.table.Table.{Table}

abbrev pub is_known : Seen → Bool
is_known Unknown = false
is_known Absent = true
is_known Untagged = true
is_known (Tagged tag) = true

-- a body is short enough, and in a file between the first one for bodies and the next one
abbrev pub is_body_within : ℕ → BodyId → Bool
is_body_within next body = nat_le body.len 8388608 && (nat_le 2 body.file && nat_lt body.file next)

abbrev pub is_kept_within : ℕ → Option BodyId → Bool
is_kept_within next None = true
is_kept_within next (Some body) = is_body_within next body

-- what waits is a body
abbrev pub waits_well : Entry → Bool
waits_well entry = not (is_some entry.queued) || is_some entry.body

abbrev pub is_entry_within : ℕ → Entry → Bool
is_entry_within next entry = is_known entry.seen && (waits_well entry && is_kept_within next entry.body)

abbrev pub is_lost_within : ℕ → ℕ → LostItem → Bool
is_lost_within next_file next_lost item = is_body_within next_file item.body && nat_lt item.number next_lost

-- how many bodies are in this file
abbrev pub file_count : Table → ℕ → ℕ
file_count t file = count_by (λ (item : Item). has_file file item.entry.body) t.entries + count_by (λ (item : LostItem). nat_eq item.body.file file) t.lost

-- how many lost bytes have this number
abbrev pub number_count : Table → ℕ → ℕ
number_count t number = count_by (λ (item : LostItem). nat_eq item.number number) t.lost

-- whether no other body of the table is in the file of the one that the record brings
abbrev pub is_apart : Record → Table → Bool
is_apart (Forgot path locks below) t = true
is_apart (Closed path body) t = nat_le (file_count t body.file) 1
is_apart (Sent path file seen) t = true
is_apart (Lost number path stays) t = true
is_apart (Dropped number) t = true

-- whether no other lost bytes of the table have the number that the record gives
abbrev pub is_numbered_apart : Record → Table → Bool
is_numbered_apart (Forgot path locks below) t = true
is_numbered_apart (Closed path body) t = true
is_numbered_apart (Sent path file seen) t = true
is_numbered_apart (Lost number path stays) t = nat_le (number_count t number) 1
is_numbered_apart (Dropped number) t = true

-- the limits on how many there are
pub record HasRoom (t : Table) : Type 0 where
  pub few_known : length t.entries ≤ 16384
  pub few_kept : queued_count t.entries + length t.lost ≤ 4096
  pub few_bytes : queued_bytes t.entries ≤ 1073741824
  pub files_left : t.next_file ≤ 4294967295
  pub numbers_begin : 1 ≤ t.next_lost
  pub room_for_lost : t.next_lost + queued_count t.entries < t.next_file
