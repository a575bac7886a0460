-- The table of a cache, and what each record does to it.
use Rattle.std.specs.Prelude.{ℕ, ◌+◌, max, Bool, false, not, if◌then◌else◌, List, [], ◌∷◌, ◌++◌, map, filter, Option, Some, None, nat_eq, option_map, option_and_then}
use Rattle.dav_text.specs.Path.{PathParts}
use Rattle.dav_text.specs.declared.tag.Seen.{Seen}
use Rattle.dav_text.specs.declared.tag.Seen.TheVariants.{Unknown, Absent, Untagged, Tagged}
use Rattle.dav_store.specs.declared.body_id.BodyId.{BodyId}
use Rattle.dav_index.specs.Item.{Item}
use Rattle.dav_index.specs.Items.{entry_at, with_entry, with_changed, without_entry}
use Rattle.dav_index.specs.declared.entry.Entry.{Entry}
use Rattle.dav_index.specs.declared.entry.Waiting.{Waiting}
use Rattle.dav_index.specs.declared.lost.LostItem.{LostItem}
use Rattle.dav_index.specs.declared.record.Record.{Record}
use Rattle.dav_index.specs.declared.record.Record.TheVariants.{Forgot, Closed, Sent, Lost, Dropped}
use Rattle.dav_index.specs.declared.table.Table.{Table}

-- the table of a cache without records
abbrev pub fresh_table : Table
fresh_table = record { entries = []; lost = []; records = 0; next_file = 2; next_lost = 1 }

-- how bytes wait after a start
abbrev pub fresh_waiting : Waiting
fresh_waiting = record { attempts = 0; due = 0; tried = false }

-- the body that waits to be sent
abbrev pub waiting_body : Option Waiting → Option BodyId → Option BodyId
waiting_body None body = None
waiting_body (Some waiting) body = body

abbrev pub queued_body : Entry → Option BodyId
queued_body entry = waiting_body entry.queued entry.body

-- the body that is queued of a path
abbrev pub queued_at : PathParts → List Item → Option BodyId
queued_at path items = option_and_then queued_body (entry_at path items)

-- what is known of a file once it was closed
abbrev pub closed_seen : Seen → Seen
closed_seen Unknown = Absent
closed_seen Absent = Absent
closed_seen Untagged = Untagged
closed_seen (Tagged tag) = Tagged tag

abbrev pub seen_before_close : Option Entry → Seen
seen_before_close None = Absent
seen_before_close (Some entry) = closed_seen entry.seen

-- the entry of a path once it was closed with this body
abbrev pub closed_entry : BodyId → ℕ → Option Entry → Entry
closed_entry body row old =
    record { seen = seen_before_close old; body = Some body; queued = Some fresh_waiting; age = row }

-- whether the body is in this file
abbrev pub has_file : ℕ → Option BodyId → Bool
has_file file None = false
has_file file (Some body) = nat_eq body.file file

-- the entry of a path once a body in this file was sent: nothing waits any more if it was that body
abbrev pub sent_entry : ℕ → Seen → ℕ → Entry → Entry
sent_entry file seen row entry =
    record { seen = seen; body = entry.body; queued = if has_file file entry.body then None else entry.queued; age = row }

-- the entry of a path that stays without its bytes
abbrev pub emptied_entry : ℕ → Entry → Entry
emptied_entry row entry = record { seen = entry.seen; body = None; queued = None; age = row }

-- the entries once the queued body of the path, if there is one, was lost
abbrev pub entries_after_loss : PathParts → Bool → ℕ → List Item → Option BodyId → List Item
entries_after_loss path stays row items None = items
entries_after_loss path stays row items (Some body) =
    if stays then with_changed path (emptied_entry row) items else without_entry path false items

-- the entries after the record with this place in the life of the cache
abbrev pub entries_after : List Item → ℕ → Record → List Item
entries_after items row (Forgot path locks below) = without_entry path below items
entries_after items row (Closed path body) = with_entry path (closed_entry body row (entry_at path items)) items
entries_after items row (Sent path file seen) = with_changed path (sent_entry file seen row) items
entries_after items row (Lost number path stays) = entries_after_loss path stays row items (queued_at path items)
entries_after items row (Dropped number) = items

-- the queued body of a path as lost bytes with this number
abbrev pub lost_as : ℕ → PathParts → Option BodyId → List LostItem
lost_as number path None = []
lost_as number path (Some body) = record { number = number; path = path; body = body } ∷ []

-- the lost bytes but those of this number
unfoldable pub without_number : ℕ → List LostItem → List LostItem
without_number number lost = filter (λ item. not (nat_eq item.number number)) lost

-- the lost bytes after a record
abbrev pub lost_after : List Item → List LostItem → Record → List LostItem
lost_after items lost (Forgot path locks below) = lost
lost_after items lost (Closed path body) = lost
lost_after items lost (Sent path file seen) = lost
lost_after items lost (Lost number path stays) = lost ++ lost_as number path (queued_at path items)
lost_after items lost (Dropped number) = without_number number lost

-- one more than the file number that a record names, or 0
abbrev pub file_above : Record → ℕ
file_above (Forgot path locks below) = 0
file_above (Closed path body) = body.file + 1
file_above (Sent path file seen) = file + 1
file_above (Lost number path stays) = 0
file_above (Dropped number) = 0

-- one more than the number of lost bytes that a record names, or 0
abbrev pub number_above : Record → ℕ
number_above (Forgot path locks below) = 0
number_above (Closed path body) = 0
number_above (Sent path file seen) = 0
number_above (Lost number path stays) = number + 1
number_above (Dropped number) = number + 1

-- the table after a record
abbrev pub replay : Table → Record → Table
replay t r = record {
  entries = entries_after t.entries (t.records + 1) r;
  lost = lost_after t.entries t.lost r;
  records = t.records + 1;
  next_file = max t.next_file (file_above r);
  next_lost = max t.next_lost (number_above r);
}

-- the table after these records
abbrev pub replayed : Table → List Record → Table
replayed t [] = t
replayed t (r ∷ rs) = replayed (replay t r) rs

-- an entry with what waits as after a start
abbrev pub restarted_waiting : Option Waiting → Option Waiting
restarted_waiting None = None
restarted_waiting (Some waiting) = Some fresh_waiting

abbrev pub restarted_item : Item → Item
restarted_item item = record {
  path = item.path;
  entry = record { seen = item.entry.seen; body = item.entry.body; queued = restarted_waiting item.entry.queued; age = item.entry.age };
}

-- the table as after a start: attempts, moments and tries aren't on record
abbrev pub restarted : Table → Table
restarted t = record t { entries = map restarted_item t.entries }

-- the entry, what waits of it waiting so
abbrev pub waiting_so : Waiting → Entry → Entry
waiting_so waiting entry =
    record { seen = entry.seen; body = entry.body; queued = option_map (λ _. waiting) entry.queued; age = entry.age }

-- the table, what waits of the path waiting so; this is not on record
abbrev pub with_waiting : PathParts → Waiting → Table → Table
with_waiting path waiting t = record t { entries = with_changed path (waiting_so waiting) t.entries }
