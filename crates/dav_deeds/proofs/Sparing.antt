-- The memory that the end of a job needs.
use Rattle.std.proofs.Common.{◌≡◌, ℕ, ◌+◌, ◌≤◌, Bool, true, false, List, [], ◌∷◌, length, max, Option, Some, None, nat_eq, if◌then◌else◌, refl, sym, ◌∙◌, ap, subst, arith}
use Rattle.std.proofs.lemmas.Bool.{eq-eqb}
use Rattle.dav_text.specs.Path.{PathParts}
use Rattle.dav_store.specs.Body.{id_of}
use Rattle.dav_store.specs.declared.body_id.BodyId.{BodyId}
use Rattle.dav_index.specs.Item.{Item}
use Rattle.dav_index.specs.Ready.{HasLoss, NeedsLoss}
use Rattle.dav_index.specs.Records.{text_of}
use Rattle.dav_index.specs.Tables.{replay}
use Rattle.dav_index.specs.declared.fresh.Loss.{Loss}
use Rattle.dav_index.specs.declared.record.Record.{Record}
use Rattle.dav_index.specs.declared.record.Record.TheVariants as records
use Rattle.dav_index.specs.declared.table.Table.{Table}
use Rattle.dav_deeds.specs.DeskTable.{DeskTable}
use Rattle.dav_deeds.specs.Effects.{Wait, Effect, going, forgot_record, taken, tried, take_effect, store_effect, forget_effect, settle_effect, effect_done, effect_unless, effect_of, fated_of, settle_by_fate, record_of_fate, waited, recorded, changed, after, told_of}
use Rattle.dav_deeds.specs.Legal.{IsDone, body_unless, deed_of}
use Rattle.dav_deeds.specs.Made.{AreRecords}
use Rattle.dav_deeds.specs.Refusals.{store_refusal, job_fault, refusal_of}
use Rattle.dav_deeds.specs.Sound.{IsSound}
use Rattle.dav_deeds.specs.Spare.{HasNext, IsSpare, HasSpareOf, HasSpare, IsNoSpare, IsSpareTaken, IsSaved, kept_spare}
use Rattle.dav_deeds.specs.declared.answer.Fated.{Fated}
use Rattle.dav_deeds.specs.declared.answer.Fated.TheVariants as fates
use Rattle.dav_deeds.specs.declared.answer.Flight.{Flight}
use Rattle.dav_deeds.specs.declared.answer.Told.TheVariants as answers
use Rattle.dav_deeds.specs.declared.ask.Done.{Done}
use Rattle.dav_deeds.specs.declared.deed.Deed.{Deed}
use Rattle.dav_deeds.specs.declared.deed.Deed.TheVariants as deeds
use Rattle.dav_deeds.specs.declared.fault.DeskFault.{DeskFault}
use Rattle.dav_deeds.specs.declared.fault.DeskFault.TheVariants.{NoSuchJob}
use Rattle.dav_deeds.specs.declared.spare.Spare.{Spare}
use Rattle.dav_deeds.proofs.Sounds.{Fits, settle_record, loss_is}

-- what the end of the job puts on record is a record
pub fits_are : (t : DeskTable) (s : IsSound t) (o : Option Record) → Fits t s o → AreRecords o
fits_are t s None h = tt
fits_are t s (Some r) h = h

pub end_recorded : (t : DeskTable) (s : IsSound t) (flight : Flight) (now : ℕ) (done : Done) → t.job ≡ Some flight → IsDone done → AreRecords (record_of_fate flight done (fated_of t.index flight now done))
end_recorded t s flight now done flies noted = fits_are t s (record_of_fate flight done (fated_of t.index flight now done)) (settle_record t s (Some flight) now done flies noted)

pub end_numbered : (t : Table) (flight : Flight) (now : ℕ) (done : Done) (fated : Fated) → fated ≡ fated_of t flight now done → (n : ℕ) → fated ≡ fates.Lost n → n ≡ t.next_lost
end_numbered t flight now done fated same n is = (loss_is t flight now done n (sym same ∙ is)).0

-- memory to lose bytes is enough for a record that does
pub loss_ready : (path : PathParts) (count : ℕ) (body : Option BodyId) (loss : Option Loss) → HasLoss path count loss → NeedsLoss path count body loss
loss_ready path count None loss h = tt
loss_ready path count (Some body) loss h = h

-- a table that differs in nothing that the end of the job looks at
spare_like : (t u : Table) (flight : Flight) (spare : Spare) → u.next_lost ≡ t.next_lost → u.lost ≡ t.lost → HasNext u → IsSpare t flight spare → IsSpare u flight spare
spare_like t u flight spare number lost next is =
    record {
      rows = record {
        path = is.rows.path;
        sent = is.rows.sent;
        sent_room = is.rows.sent_room;
        lost = is.rows.lost ∙ ap (λ (n : ℕ). text_of (records.Lost n flight.path false)) (sym number);
        loss = subst (λ (n : ℕ). HasLoss flight.path n spare.rows.loss.loss) (sym (ap length lost)) is.rows.loss;
        next = next;
      };
      waits = is.waits;
      released = is.released;
      room = is.room;
    }

has_like : (t u : Table) (job : Option Flight) (o : Option Spare) → u.next_lost ≡ t.next_lost → u.lost ≡ t.lost → HasNext u → HasSpareOf t job o → HasSpareOf u job o
has_like t u None o number lost next is = tt
has_like t u (Some flight) None number lost next is = absurd is
has_like t u (Some flight) (Some spare) number lost next is = spare_like t u flight spare number lost next is

-- how bytes wait is nothing of it
waited_like : (t : Table) (w : Option Wait) → ((waited t w).next_lost ≡ t.next_lost) × ((waited t w).lost ≡ t.lost) × ((waited t w).records ≡ t.records)
waited_like t None = (refl, refl, refl)
waited_like t (Some w) = (refl, refl, refl)

-- nothing was taken, and the table went on by at most one record, which loses nothing
module _ (t : Table) (job : Option Flight) (old : Option Spare) (is : HasSpareOf t job old) where
  pub unsaved : (u : Table) (saved : Option Spare) → u.next_lost ≡ t.next_lost → u.lost ≡ t.lost → u.records ≤ t.records + 1 → IsNoSpare t saved → HasSpareOf u job (kept_spare saved old)
  unsaved u None number lost count two = has_like t u job old number lost (omega (arith, count, two)) is
  unsaved u (Some s) number lost count none = absurd none

  unsaved_waits : (u : Table) (w : Option Wait) (saved : Option Spare) → u.next_lost ≡ t.next_lost → u.lost ≡ t.lost → u.records ≤ t.records + 1 → IsNoSpare t saved → HasSpareOf (waited u w) job (kept_spare saved old)
  unsaved_waits u w saved number lost count two =
      let like = waited_like u w in
      unsaved (waited u w) saved (like.0 ∙ number) (like.1 ∙ lost) (omega (arith, like.2, count)) two

max_none : (n : ℕ) → max n 0 ≡ n
max_none n = omega arith

module _ (t : DeskTable) (old saved : Option Spare) (is : HasSpare t old) where
  abbrev Holds : Effect → Type 0
  Holds e = IsSaved t.index e.told saved → HasSpareOf (changed t e).index (changed t e).job (kept_spare saved old)

  pub store_holds : (path : PathParts) (now : ℕ) (body : Option BodyId) → Holds (store_effect t path now body)
  store_holds path now None taken = unsaved t.index t.job old is t.index saved refl refl (omega arith) taken
  store_holds path now (Some body) taken =
      let e = store_effect t path now (Some body) in
      unsaved_waits t.index t.job old is (recorded t.index e.on_record) e.waits saved (max_none t.index.next_lost) refl (omega arith) taken

  pub forget_holds : (path : PathParts) (locks below : Bool) → Holds (forget_effect t path locks below)
  forget_holds path locks below taken = by (going path below t.index.entries)
    where
      by : (items : List Item) → HasSpareOf (recorded t.index (forgot_record path locks below items)) t.job (kept_spare saved old)
      by [] = unsaved t.index t.job old is t.index saved refl refl (omega arith) taken
      by (x ∷ xs) = unsaved t.index t.job old is (replay t.index (records.Forgot path locks below)) saved (max_none t.index.next_lost) refl (omega arith) taken

  pub take_holds : (o : Option Flight) → Holds (take_effect t o)
  take_holds None given = unsaved t.index t.job old is t.index saved refl refl (omega arith) given
  take_holds (Some flight) given = by saved given
    where
      by : (s : Option Spare) → IsSpareTaken t.index flight s → HasSpareOf (waited t.index (tried t flight)) (Some flight) (kept_spare s old)
      by None none = absurd none
      by (Some s) h =
          let like = waited_like t.index (tried t flight) in
          spare_like t.index (waited t.index (tried t flight)) flight s like.0 like.1 (omega (arith, like.2, h.1)) h.0

  pub settle_holds : (job : Option Flight) (now : ℕ) (done : Done) → Holds (settle_effect t job now done)
  settle_holds None now done taken = unsaved t.index t.job old is t.index saved refl refl (omega arith) taken
  settle_holds (Some flight) now done taken = tt

-- a settling of the job in flight
pub settled_effect : (t : DeskTable) (now job : ℕ) (done : Done) (flight : Flight) → t.job ≡ Some flight → flight.number ≡ job → effect_of t now (deeds.Settle job done) ≡ settle_by_fate t flight done (fated_of t.index flight now done)
settled_effect t now job done flight flies same =
    ap (λ (r : Option DeskFault). effect_unless r t now (deeds.Settle job done)) free
    ∙ ap (λ (o : Option Flight). settle_effect t o now done) flies
  where
    free : job_fault job t.job ≡ None
    free = ap (job_fault job) flies ∙ ap (λ (b : Bool). if b then None else Some (NoSuchJob job)) (eq-eqb flight.number job same)
