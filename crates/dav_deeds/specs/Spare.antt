-- The memory that the end of a job needs, whatever the end will be.
use Rattle.std.specs.Prelude.{◌≡◌, ℕ, ◌+◌, ◌<◌, ◌≤◌, Bool, false, [], length, Option, Some, None}
use Rattle.std.specs.Prelude.{nat_eq}
use Rattle.std.specs.Vec.{vec_capacity}
use Rattle.dav_index.specs.Ready.{HasLoss}
use Rattle.dav_index.specs.Records.{sent_begun, text_of}
use Rattle.dav_index.specs.declared.record.Record.TheVariants.{Lost}
use Rattle.dav_index.specs.declared.table.Table.{Table}
use Rattle.dav_deeds.specs.declared.answer.Flight.{Flight}
use Rattle.dav_deeds.specs.declared.answer.Told.{Told}
use Rattle.dav_deeds.specs.declared.ask.Ask.{Ask}
use Rattle.dav_deeds.specs.declared.ask.Ask.TheVariants as asks
use Rattle.dav_deeds.specs.declared.deed.Deed.{Deed}
use Rattle.dav_deeds.specs.declared.deed.Deed.TheVariants as deeds
use Rattle.dav_deeds.specs.declared.spare.Rows.{Rows}
use Rattle.dav_deeds.specs.declared.spare.Spare.{Spare}
use Rattle.dav_deeds.specs.Answers.{Kind, Tells, Gives, Idles, Ends, kind_told}
use Rattle.dav_deeds.specs.DeskTable.{DeskTable}

-- one record more can be counted, and two
abbrev pub HasNext : Table → Type 0
HasNext t = t.records + 1 < 18446744073709551616

abbrev pub HasTwo : Table → Type 0
HasTwo t = t.records + 2 < 18446744073709551616

-- the path of the job, the row where its bytes were sent, with room for what is seen then, the row where they are lost, and what the
-- table needs for that
pub record AreRows (t : Table) (flight : Flight) (rows : Rows) : Type 0 where
  pub path : rows.path ≡ flight.path
  pub sent : rows.sent.items ≡ sent_begun flight.path flight.body.file
  pub sent_room : length rows.sent.items + 130 ≤ vec_capacity rows.sent
  pub lost : rows.lost.items ≡ text_of (Lost t.next_lost flight.path false)
  pub loss : HasLoss flight.path (length t.lost) rows.loss.loss
  pub next : HasNext t

-- all that the end of the job needs over this table
pub record IsSpare (t : Table) (flight : Flight) (spare : Spare) : Type 0 where
  pub rows : AreRows t flight spare.rows
  pub waits : spare.waits ≡ flight.path
  pub released : spare.released.items ≡ []
  pub room : 0 < vec_capacity spare.released

-- it is there where a job is in flight
abbrev pub HasSpareOf : Table → Option Flight → Option Spare → Type 0
HasSpareOf t None spare = Unit {0}
HasSpareOf t (Some flight) None = ⊥
HasSpareOf t (Some flight) (Some spare) = IsSpare t flight spare

abbrev pub HasSpare : DeskTable → Option Spare → Type 0
HasSpare t spare = HasSpareOf t.index t.job spare

abbrev pub IsNoSpare : Table → Option Spare → Type 0
IsNoSpare t None = HasTwo t
IsNoSpare t (Some spare) = ⊥

abbrev pub IsSpareTaken : Table → Flight → Option Spare → Type 0
IsSpareTaken t flight None = ⊥
IsSpareTaken t flight (Some spare) = IsSpare t flight spare × HasTwo t

-- what is taken with an answer: with a job what its end needs, and else nothing. But for the end of a job there is a number for a
-- record of this step and for one more.
abbrev pub IsSavedBy : Table → Kind → Option Spare → Type 0
IsSavedBy t Tells saved = IsNoSpare t saved
IsSavedBy t (Gives flight) saved = IsSpareTaken t flight saved
IsSavedBy t Idles saved = IsNoSpare t saved
IsSavedBy t Ends saved = saved ≡ None

abbrev pub IsSaved : Table → Option Told → Option Spare → Type 0
IsSaved t told saved = IsSavedBy t (kind_told told) saved

-- what is taken stands in place of what was there
abbrev pub kept_spare : Option Spare → Option Spare → Option Spare
kept_spare None old = old
kept_spare (Some spare) old = Some spare

-- the number of the job that an ask, or a deed, ends
abbrev pub job_ended : Ask → Option ℕ
job_ended (asks.Settle number done) = Some number
job_ended ask = None

abbrev pub deed_ends : Deed → Option ℕ
deed_ends (deeds.Settle number done) = Some number
deed_ends deed = None

-- whether it is the number of the job in flight
abbrev pub is_flight : Option Flight → Option ℕ → Bool
is_flight job None = false
is_flight None (Some number) = false
is_flight (Some flight) (Some number) = nat_eq flight.number number

-- whether the ask is the end of the job in flight
abbrev pub ends_job : Option Flight → Ask → Bool
ends_job job ask = is_flight job (job_ended ask)
