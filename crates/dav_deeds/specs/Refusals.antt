-- Which deeds are refused, and why: the first cause in the order in which they stand.
use Rattle.std.specs.Prelude.{ℕ, ◌+◌, ◌-◌, Bool, true, false, not, ◌&&◌, List, length, find, Option, Some, None, if◌then◌else◌, nat_eq, nat_le, nat_lt}
use Rattle.dav_text.specs.Path.{PathParts}
use Rattle.dav_text.specs.declared.which.Which.TheVariants as limits
use Rattle.dav_index.specs.Item.{Item}
use Rattle.dav_index.specs.Items.{entry_at, goes_with}
use Rattle.dav_index.specs.Tables.{queued_at}
use Rattle.dav_index.specs.Bounds.{is_queued, queued_count, len_of, queued_bytes}
use Rattle.dav_index.specs.Queries.{oldest_clean}
use Rattle.dav_index.specs.declared.table.Table.{Table}
use Rattle.dav_deeds.specs.declared.answer.Flight.{Flight}
use Rattle.dav_deeds.specs.declared.deed.Deed.{Deed}
use Rattle.dav_deeds.specs.declared.deed.Deed.TheVariants.{Store, Forget, Take, Settle, Stop}
use Rattle.dav_deeds.specs.declared.fault.DeskFault.{DeskFault}
use Rattle.dav_deeds.specs.declared.fault.DeskFault.TheVariants.{Queued, NoSuchJob, Crowded, Limit}
use Rattle.dav_deeds.specs.DeskTable.{DeskTable}

-- whether there is one
abbrev pub is_there : {X : Type 0} → Option X → Bool
is_there None = false
is_there (Some x) = true

-- the path can't be queued, since it isn't and as many files as may be are queued or lost
abbrev pub lacks_place : Table → PathParts → Bool
lacks_place t path = not (is_there (queued_at path t.entries)) && nat_le 4096 (queued_count t.entries + length t.lost)

-- the bytes of all that is queued, these being the path's own, would be too many
abbrev pub lacks_bytes : Table → PathParts → ℕ → Bool
lacks_bytes t path len = nat_lt 1073741824 (queued_bytes t.entries - len_of (queued_at path t.entries) + len)

-- the path would be one more known path than may be
abbrev pub lacks_known : Table → PathParts → Bool
lacks_known t path = not (is_there (entry_at path t.entries)) && nat_le 16384 (length t.entries)

-- the known path that has to be forgotten first
abbrev pub crowding : Table → PathParts → Option Item
crowding t path = if lacks_known t path then oldest_clean t.entries else None

abbrev pub full_or_crowded : ℕ → Option Item → Option DeskFault
full_or_crowded next_file (Some item) = Some (Crowded item.path)
full_or_crowded next_file None = if nat_le 4294967295 next_file then Some (Limit limits.Files) else None

abbrev pub store_refusal : Table → PathParts → ℕ → Option DeskFault
store_refusal t path len =
    if nat_lt 8388608 len then Some (Limit limits.Body) else
    (if lacks_place t path then Some (Limit limits.Queue) else
    (if lacks_bytes t path len then Some (Limit limits.Bytes) else
    full_or_crowded t.next_file (crowding t path)))

-- the first queued entry that goes with the path, by its path's text
abbrev pub queued_with : PathParts → Bool → List Item → Option Item
queued_with path below items = find (λ (item : Item). is_queued item && goes_with path below item) items

abbrev pub queued_fault : Option Item → Option DeskFault
queued_fault None = None
queued_fault (Some item) = Some (Queued item.path)

abbrev pub job_fault : ℕ → Option Flight → Option DeskFault
job_fault job None = Some (NoSuchJob job)
job_fault job (Some flight) = if nat_eq flight.number job then None else Some (NoSuchJob job)

-- why the deed is refused, if it is
abbrev pub refusal_of : DeskTable → Deed → Option DeskFault
refusal_of t (Store path len body) = store_refusal t.index path len
refusal_of t (Forget path locks below) = queued_fault (queued_with path below t.index.entries)
refusal_of t Take = None
refusal_of t (Settle job done) = job_fault job t.job
refusal_of t Stop = None
