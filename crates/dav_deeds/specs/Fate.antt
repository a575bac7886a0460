-- What became of the bytes that were closed last of each path.
use Rattle.std.specs.Prelude.{◌≡◌, ℕ, ◌+◌, List, [], ◌∷◌, ◌++◌, length, Option, Some, None, Bool, true, false, if◌then◌else◌, ◌&&◌, Contains}
use Rattle.dav_text.specs.Path.{PathParts}
use Rattle.dav_text.specs.declared.tag.Seen.{Seen}
use Rattle.dav_store.specs.declared.body_id.BodyId.{BodyId}
use Rattle.dav_index.specs.Item.{Item}
use Rattle.dav_index.specs.Items.{same_path}
use Rattle.dav_index.specs.Tables.{has_file, queued_body, queued_at}
use Rattle.dav_index.specs.declared.lost.LostItem.{LostItem}
use Rattle.dav_index.specs.declared.table.Table.{Table}
use Rattle.dav_deeds.specs.declared.answer.Flight.{Flight}
use Rattle.dav_deeds.specs.declared.answer.Told.{Told}
use Rattle.dav_deeds.specs.declared.answer.Told.TheVariants as answers
use Rattle.dav_deeds.specs.declared.ask.Done.{Done}
use Rattle.dav_deeds.specs.declared.ask.Done.TheVariants as ends
use Rattle.dav_deeds.specs.declared.deed.Deed.{Deed}
use Rattle.dav_deeds.specs.declared.deed.Deed.TheVariants as deeds
use Rattle.dav_deeds.specs.declared.deed.Mark.{Mark}
use Rattle.dav_deeds.specs.declared.deed.Mark.TheVariants as marks
use Rattle.dav_deeds.specs.declared.deed.Step.{Step}
use Rattle.dav_deeds.specs.DeskTable.{DeskTable}
use Rattle.dav_deeds.specs.Legal.{table_after}

-- of the bytes closed last: they are queued, were sent by the step at this place, or were lost under
-- this number
pub data Fate : Type 0 where
  Queued : Fate
  Sent : ℕ → Fate
  Lost : ℕ → Fate

-- of one path: the body closed last and its fate, beside the job in flight and the number of steps
pub record Story : Type 0 where
  pub last : Option BodyId
  pub fate : Fate
  pub job : Option Flight
  pub count : ℕ

abbrev pub is_queued : Fate → Bool
is_queued Queued = true
is_queued (Sent place) = false
is_queued (Lost number) = false

-- whether the job was taken with the very file of the body closed last, of which nothing became yet
abbrev pub is_about : PathParts → Story → Option Flight → Bool
is_about path story None = false
is_about path story (Some flight) = same_path path flight.path && (is_queued story.fate && has_file flight.body.file story.last)

-- the fate after a settling with this mark
abbrev pub fate_settled : PathParts → Story → Done → Mark → Fate
fate_settled path story (ends.Sent seen) marks.Plain = if is_about path story story.job then Sent story.count else story.fate
fate_settled path story done (marks.LostAs number) = if is_about path story story.job then Lost number else story.fate
fate_settled path story done mark = story.fate

-- whether a deed with this mark says that the bytes of the job in flight were sent
abbrev pub tells_sent : Deed → Mark → Bool
tells_sent (deeds.Settle number (ends.Sent seen)) marks.Plain = true
tells_sent deed mark = false

-- the story after a deed with this mark and this answer
abbrev pub tell : PathParts → Story → Deed → Mark → Option Told → Story
tell path story (deeds.Store closed len body) (marks.Body id) told =
    record {
      last = if same_path path closed then Some id else story.last;
      fate = if same_path path closed then Queued else story.fate;
      job = story.job;
      count = story.count + 1;
    }
tell path story deeds.Take (marks.Job number) (Some (answers.Took flight)) =
    record { last = story.last; fate = story.fate; job = Some flight; count = story.count + 1 }
tell path story (deeds.Settle job done) marks.Plain told =
    record { last = story.last; fate = fate_settled path story done marks.Plain; job = None; count = story.count + 1 }
tell path story (deeds.Settle job done) (marks.LostAs number) told =
    record { last = story.last; fate = fate_settled path story done (marks.LostAs number); job = None; count = story.count + 1 }
tell path story deed mark told =
    record { last = story.last; fate = story.fate; job = story.job; count = story.count + 1 }

abbrev pub told_on : PathParts → Story → List Step → Story
told_on path story [] = story
told_on path story (s ∷ steps) = told_on path (tell path story s.deed s.mark s.told) steps

-- the story of a path over these steps. Where none of them closes it, its last close is the body
-- that was queued before them
abbrev pub story : DeskTable → List Step → PathParts → Story
story opening steps path =
    told_on path (record { last = queued_at path opening.index.entries; fate = Queued; job = opening.job; count = 0 }) steps

-- the job is of an entry of the table, and has its path, its queued body, and what it says is known
pub record IsOfTable (flight : Flight) (t : Table) : Type 0 where
  pub item : Item
  pub among : Contains t.entries item
  pub path_is : item.path ≡ flight.path
  pub body_is : queued_body item.entry ≡ Some flight.body
  pub seen_is : item.entry.seen ≡ flight.seen

-- the job was given in one of these steps, with what the table before that step had of its path
pub record IsTaken (opening : DeskTable) (steps : List Step) (flight : Flight) : Type 0 where
  pub before : List Step
  pub take : Step
  pub since : List Step
  pub split : steps ≡ before ++ take ∷ since
  pub deed_is : take.deed ≡ deeds.Take
  pub told_is : take.told ≡ Some (answers.Took flight)
  pub of_table : IsOfTable flight (table_after opening before).index

-- the step at this place settles with Sent the job in flight, which was taken with this very file and with
-- what was known of the path then
pub record IsSentAt (opening : DeskTable) (steps : List Step) (path : PathParts) (place : ℕ) (body : BodyId) : Type 0 where
  pub before : List Step
  pub step : Step
  pub since : List Step
  pub split : steps ≡ before ++ step ∷ since
  pub place_is : length before ≡ place
  pub flight : Flight
  pub seen : Seen
  pub in_flight : (table_after opening before).job ≡ Some flight
  pub deed_is : step.deed ≡ deeds.Settle flight.number (ends.Sent seen)
  pub mark_is : step.mark ≡ marks.Plain
  pub taken : IsTaken opening before flight
  pub path_is : same_path path flight.path ≡ true
  pub file_is : flight.body.file ≡ body.file

-- the body is among the lost files, under this number and of this path
pub record IsLostAs (t : Table) (path : PathParts) (number : ℕ) (body : BodyId) : Type 0 where
  pub item : LostItem
  pub among : Contains t.lost item
  pub number_is : item.number ≡ number
  pub path_is : same_path path item.path ≡ true
  pub body_is : item.body ≡ body

-- what a table holds of a path whose body closed last has this fate
abbrev pub IsKeptAs : DeskTable → List Step → Table → PathParts → Option BodyId → Fate → Type 0
IsKeptAs opening steps t path None fate = Unit {0}
IsKeptAs opening steps t path (Some body) Queued = queued_at path t.entries ≡ Some body
IsKeptAs opening steps t path (Some body) (Sent place) = IsSentAt opening steps path place body
IsKeptAs opening steps t path (Some body) (Lost number) = IsLostAs t path number body

-- the bytes closed last of each path are queued, were sent, or are among the lost files, and what was lost
-- before is still there
pub record IsKept (opening : DeskTable) (steps : List Step) (t : Table) : Type 0 where
  pub last_close : (path : PathParts) → IsKeptAs opening steps t path (story opening steps path).last (story opening steps path).fate
  pub lost_stays : (item : LostItem) → Contains opening.index.lost item → Contains t.lost item
