-- What every table of a desk holds to.
use Rattle.std.specs.Prelude.{◌≡◌, ◌≢◌, ◌<◌, ◌≤◌, true, Option, Some, None}
use Rattle.dav_index.specs.Item.{Item}
use Rattle.dav_index.specs.Items.{Every, same_path}
use Rattle.dav_index.specs.Records.{IsBare}
use Rattle.dav_index.specs.Tables.{queued_at}
use Rattle.dav_index.specs.Bounds.{IsWithin}
use Rattle.dav_index.specs.declared.lost.LostItem.{LostItem}
use Rattle.dav_index.specs.declared.table.Table.{Table}
use Rattle.dav_store.specs.declared.body_id.BodyId.{BodyId}
use Rattle.dav_deeds.specs.declared.answer.Flight.{Flight}
use Rattle.dav_deeds.specs.DeskTable.{DeskTable}

-- of an entry with a body in the job's file the path is that of the job
pub record IsOwn (flight : Flight) (item : Item) : Type 0 where
  pub own : (body : BodyId) → item.entry.body ≡ Some body → body.file ≡ flight.body.file → same_path flight.path item.path ≡ true

-- the path of a job in flight is queued, its file is one of bodies, and no other path has bytes in it
pub record IsFlightWithin (flight : Flight) (t : Table) : Type 0 where
  pub bare : IsBare flight.path
  pub queued : queued_at flight.path t.entries ≢ None
  pub file_begins : 2 ≤ flight.body.file
  pub file_known : flight.body.file < t.next_file
  pub owned : Every (IsOwn flight) t.entries
  pub not_lost : Every (λ (item : LostItem). item.body.file ≢ flight.body.file) t.lost

abbrev pub IsJobWithin : Option Flight → Table → Type 0
IsJobWithin None t = Unit {0}
IsJobWithin (Some flight) t = IsFlightWithin flight t

-- the index is within its bounds, and so is the job in flight
pub record IsSound (t : DeskTable) : Type 0 where
  pub index : IsWithin t.index
  pub job : IsJobWithin t.job t.index
