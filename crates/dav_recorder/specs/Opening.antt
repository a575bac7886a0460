-- What an opening index says: its table, or where it is none.
use Rattle.std.specs.Prelude.{◌≡◌, ◌≢◌, ◌⊎◌, ℕ, ◌<◌, List, ◌++◌, length, Option, Some}
use Rattle.std.specs.Str.{IsUtf8}
use Rattle.dav_machine.specs.Log.{Rose}
use Rattle.dav_store.specs.declared.body_id.BodyId.{BodyId}
use Rattle.dav_store.specs.Body.{IsSumOf}
use Rattle.dav_disk.specs.Disk.{Doubt}
use Rattle.dav_store.specs.Rows.{Rows, Spells, HasRow, IsBroken, IsReading, IsAtRest}
use Rattle.dav_store.specs.Start.{IsNothing, IsRefused, head_of}
use Rattle.dav_store.specs.declared.fault.StoreFault.{StoreFault}
use Rattle.dav_store.specs.declared.fault.StoreFault.TheVariants as store
use Rattle.dav_deeds.specs.declared.fault.DeskFault.{DeskFault}
use Rattle.dav_deeds.specs.declared.fault.DeskFault.TheVariants.{Disk, NotACache, Damaged, OtherServer, Queued, NoSuchJob, Crowded, Limit, Memory}
use Rattle.dav_index.specs.Records.{text_of, IsRecord}
use Rattle.dav_index.specs.Tables.{replay, fresh_table}
use Rattle.dav_index.specs.Bounds.{IsWithin}
use Rattle.dav_index.specs.declared.table.Table.{Table}
use Rattle.dav_index.specs.Faults.{IsRefused as IsNotRecord}
use Rattle.dav_index.specs.declared.fault.RecordFault.{RecordFault}
use Rattle.dav_index.specs.declared.record.Record.{Record}
use Rattle.dav_recorder.specs.Recovers.{Replays, rows_of}

-- the file is an index of this URL and of this table, or nothing stands in it and the table is a fresh one
abbrev pub IsIndexOf : List ℕ → Table → List ℕ → Type 0
IsIndexOf url table file = (IsNothing file × (table ≡ fresh_table)) ⊎ ((records : List Record) × Replays fresh_table records table × Spells (rows_of url records) file)

-- the row is the text of no record, or that of a record after which the table is not within bounds
abbrev pub IsNoRecord : Table → List ℕ → Type 0
IsNoRecord table row = ((fault : RecordFault) × IsNotRecord row fault) ⊎ ((r : Record) × IsRecord r × (row ≡ text_of r) × (IsWithin (replay table r) → ⊥))

-- behind a head with this URL and some records, each of them to a table within bounds, stands no further one: the row is cut off,
-- its length is 0, its gate is missing, or it is no record
pub record IsBadRow (url : List ℕ) (at : ℕ) (file : List ℕ) : Type 0 where
  pub records : List Record
  pub table : Table
  pub front : List ℕ
  pub rest : List ℕ
  pub replays : Replays fresh_table records table
  pub open_rows : Rows (rows_of url records) front
  pub split : file ≡ front ++ rest
  pub size : at ≡ length front
  pub bad : IsBroken rest ⊎ ((row : List ℕ) × HasRow row rest × IsNoRecord table row)

-- the file is no longer than an index may be, and begins with a head, and what that names is no text
abbrev pub IsNoText : ℕ → List ℕ → Type 0
IsNoText at file = (at ≡ 0) × (length file < 1099511627776) × ((kept : List ℕ) × HasRow (head_of kept) file × (IsUtf8 kept → ⊥))

-- the offset at which the file is no index of this URL: 2^40 where it has 2^40 bytes or more, else that of the first row that is
-- not as it must be
abbrev pub IsNoCache : List ℕ → ℕ → List ℕ → Type 0
IsNoCache url at file = IsRefused at file ⊎ (IsNoText at file ⊎ ((length file < 1099511627776) × IsBadRow url at file))

-- Why a start gives up: the disk failed in it, or, where the disk is honest, the file is no index, or one of another URL. A file that is
-- too long is no index, whatever it begins with.
abbrev pub IsStartFault : Type 0 → List ℕ → List ℕ → ℕ → ℕ → DeskFault → Type 0
IsStartFault honest url file before now Disk = Rose before now
IsStartFault honest url file before now (NotACache at) = honest → IsNoCache url at file
IsStartFault honest url file before now (Damaged number stored found) = ⊥
IsStartFault honest url file before now (OtherServer kept asked) = (asked ≡ url) × (honest → (kept ≢ url) × HasRow (head_of kept) file × (length file < 1099511627776))
IsStartFault honest url file before now (Queued path) = ⊥
IsStartFault honest url file before now (NoSuchJob number) = ⊥
IsStartFault honest url file before now (Crowded oldest) = ⊥
IsStartFault honest url file before now (Limit which) = ⊥
IsStartFault honest url file before now Memory = Unit {0}

-- the answer where this head is not the one of this URL
abbrev pub IsOther : List ℕ → List ℕ → DeskFault → Type 0
IsOther url head Disk = ⊥
IsOther url head (NotACache at) = (at ≡ 0) × ((text : List ℕ) → head ≡ head_of text → IsUtf8 text → ⊥)
IsOther url head (Damaged number stored found) = ⊥
IsOther url head (OtherServer kept asked) = (asked ≡ url) × ((text : List ℕ) → head ≡ head_of text → kept ≡ text)
IsOther url head (Queued path) = ⊥
IsOther url head (NoSuchJob number) = ⊥
IsOther url head (Crowded oldest) = ⊥
IsOther url head (Limit which) = ⊥
IsOther url head Memory = Unit {0}

-- why no bytes of a body are given: the disk failed in the call; those that were read have another SHA-256, and where the disk is
-- honest the file begins with them; or there was no memory
abbrev pub IsFetchFault : Type 0 → BodyId → List ℕ → ℕ → ℕ → DeskFault → Type 0
IsFetchFault honest id file before now Disk = Rose before now
IsFetchFault honest id file before now (NotACache at) = ⊥
IsFetchFault honest id file before now (Damaged number stored found) = (number ≡ id.file) × (stored ≡ id.sum) × (found ≢ stored) × IsSumOf honest id file found
IsFetchFault honest id file before now (OtherServer kept asked) = ⊥
IsFetchFault honest id file before now (Queued path) = ⊥
IsFetchFault honest id file before now (NoSuchJob number) = ⊥
IsFetchFault honest id file before now (Crowded oldest) = ⊥
IsFetchFault honest id file before now (Limit which) = ⊥
IsFetchFault honest id file before now Memory = Unit {0}

-- no body is told to be damaged
abbrev pub IsUndamaged : DeskFault → Type 0
IsUndamaged Disk = Unit {0}
IsUndamaged (NotACache at) = Unit {0}
IsUndamaged (Damaged number stored found) = ⊥
IsUndamaged (OtherServer kept asked) = Unit {0}
IsUndamaged (Queued path) = Unit {0}
IsUndamaged (NoSuchJob number) = Unit {0}
IsUndamaged (Crowded oldest) = Unit {0}
IsUndamaged (Limit which) = Unit {0}
IsUndamaged Memory = Unit {0}

-- a fault of the index or of the bodies as one of the desk
abbrev pub desk_fault : StoreFault → DeskFault
desk_fault store.Disk = Disk
desk_fault (store.NotACache at) = NotACache at
desk_fault (store.Damaged file stored found) = Damaged file stored found
desk_fault store.Memory = Memory

-- after that fault of a body the desk is dead, unless there was only no memory
abbrev pub dead_after : Option DeskFault → StoreFault → Option DeskFault
dead_after old store.Disk = Some Disk
dead_after old (store.NotACache at) = Some (NotACache at)
dead_after old (store.Damaged file stored found) = Some (Damaged file stored found)
dead_after old store.Memory = old

-- so far these records were read, and they led to the table
pub record IsRead (url : List ℕ) (records : List Record) (table : Table) (end : ℕ) (seen : List ℕ) (doubt : Doubt) : Type 0 where
  pub reading : IsReading (rows_of url records) end seen doubt
  pub replays : Replays fresh_table records table

-- these records are all, they led to the table, and the closed gate behind them is at this offset
pub record IsOpened (url : List ℕ) (table : Table) (end : ℕ) (seen : List ℕ) (doubt : Doubt) : Type 0 where
  pub records : List Record
  pub replays : Replays fresh_table records table
  pub index : IsAtRest (rows_of url records) end seen doubt
