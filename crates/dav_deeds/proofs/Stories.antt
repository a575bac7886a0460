-- Over a legal trace what is queued of a path stays in line with what became of its last bytes.
use Rattle.std.proofs.Common.{◌≡◌, ℕ, Bool, true, false, List, [], ◌∷◌, ◌++◌, length, Option, Some, None, nat_eq, Contains, refl, sym, ◌∙◌, ap, subst, arith, append_assoc, length-append, if◌then◌else◌}
use Rattle.std.proofs.lemmas.Bool.{eqb-true}
use Rattle.dav_text.specs.Path.{PathParts}
use Rattle.dav_text.specs.declared.tag.Seen.{Seen}
use Rattle.dav_store.specs.declared.body_id.BodyId.{BodyId}
use Rattle.dav_index.specs.Item.{Item}
use Rattle.dav_index.specs.Items.{same_path}
use Rattle.dav_index.specs.Tables.{queued_at}
use Rattle.dav_index.specs.declared.lost.LostItem.{LostItem}
use Rattle.dav_index.specs.declared.table.Table.{Table}
use Rattle.dav_deeds.specs.declared.answer.Fated.{Fated}
use Rattle.dav_deeds.specs.declared.answer.Fated.TheVariants as fates
use Rattle.dav_deeds.specs.declared.answer.Flight.{Flight}
use Rattle.dav_deeds.specs.declared.answer.Told.{Told}
use Rattle.dav_deeds.specs.declared.ask.Done.{Done}
use Rattle.dav_deeds.specs.declared.ask.Done.TheVariants as ends
use Rattle.dav_deeds.specs.declared.deed.Deed.{Deed}
use Rattle.dav_deeds.specs.declared.deed.Deed.TheVariants.{Store, Forget, Take, Settle, Stop}
use Rattle.dav_deeds.specs.declared.deed.Mark.{Mark}
use Rattle.dav_deeds.specs.declared.deed.Mark.TheVariants as marks
use Rattle.dav_deeds.specs.declared.deed.Step.{Step}
use Rattle.dav_deeds.specs.declared.fault.DeskFault.{DeskFault}
use Rattle.dav_deeds.specs.declared.fault.DeskFault.TheVariants.{NoSuchJob}
use Rattle.dav_deeds.specs.DeskTable.{DeskTable}
use Rattle.dav_deeds.specs.Refusals.{job_fault, refusal_of}
use Rattle.dav_deeds.specs.Effects.{store_effect, going, forgot_record, forget_effect, tried, take_effect, taken, fated_of, settle_effect, settle_by_fate, effect_done, effect_unless, is_current, recorded, changed, after, mark_of}
use Rattle.dav_deeds.specs.Legal.{IsLegal, table_after, Legal}
use Rattle.dav_deeds.specs.Fate.{Fate, Queued, Sent, Lost, Story, tell, told_on, story, IsSentAt, IsLostAs, IsKeptAs, IsKept}
use Rattle.dav_deeds.proofs.AllRows.{step_fits, lost_step, find_take}
use Rattle.dav_deeds.proofs.Fits.{Fits, StepFits}
use Rattle.dav_deeds.proofs.Taking.{table_push}

-- the steps in front of legal ones are legal
pub legal_front : (t : DeskTable) (front rest : List Step) → Legal t (front ++ rest) → Legal t front
legal_front t [] rest legal = tt
legal_front t (s ∷ front) rest legal = (legal.0, legal_front (after t s.now s.deed) front rest legal.1)

-- and so are they with one more
pub legal_push : (t : DeskTable) (steps : List Step) (s : Step) → Legal t steps → IsLegal (table_after t steps) s → Legal t (steps ++ s ∷ [])
legal_push t [] s legal is = (is, tt)
legal_push t (x ∷ steps) s legal is = (legal.0, legal_push (after t x.now x.deed) steps s legal.1 is)

-- a settling that isn't refused is of the number of the job in flight
job_number : (number : ℕ) (flight : Flight) → job_fault number (Some flight) ≡ None → flight.number ≡ number
job_number number flight free = by (nat_eq flight.number number) refl free
  where
    by : (b : Bool) → nat_eq flight.number number ≡ b → (if b then None else Some (NoSuchJob number)) ≡ None → flight.number ≡ number
    by true is free = eqb-true flight.number number is
    by false is free = cc

-- a settling with Sent that isn't refused has a plain mark
sent_mark : (t : DeskTable) (now number : ℕ) (seen : Seen) (flight : Flight) → t.job ≡ Some flight → refusal_of t (Settle number (ends.Sent seen)) ≡ None → mark_of t now (Settle number (ends.Sent seen)) ≡ marks.Plain
sent_mark t now number seen flight flies free =
    ap (λ (r : Option DeskFault). (effect_unless r t now (Settle number (ends.Sent seen))).mark) free
    ∙ ap (λ (job : Option Flight). (settle_effect t job now (ends.Sent seen)).mark) flies
    ∙ by (is_current t.index flight)
  where
    by : (b : Bool) → (settle_by_fate t flight (ends.Sent seen) (if b then fates.Clean else fates.Superseded)).mark ≡ marks.Plain
    by true = refl
    by false = refl

module _ (opening : DeskTable) (none : opening.job ≡ None) (whole : List Step) (path : PathParts) where
  abbrev Went : ℕ → BodyId → Type 0
  Went place b = IsSentAt opening whole path place b

  abbrev FitsNow : DeskTable → Story → Type 0
  FitsNow t st = Fits Went (IsLostAs t.index path) (queued_at path t.index.entries) st.last st.fate

  walk : (front rest : List Step) (t : DeskTable) (st : Story) → whole ≡ front ++ rest → table_after opening front ≡ t → length front ≡ st.count → st.job ≡ t.job → Legal opening front → Legal t rest → FitsNow t st → FitsNow (table_after t rest) (told_on path st rest)
  walk front [] t st split at place job before legal fit = fit
  walk front (s ∷ rest) t st split at place job before legal fit =
      let goes : StepFits Went path st s.deed s.mark s.told (after t s.now s.deed) =
      subst (λ (m : Mark). StepFits Went path st s.deed m s.told (after t s.now s.deed)) (sym legal.0.mark)
      (subst (λ (o : Option Told). StepFits Went path st s.deed (mark_of t s.now s.deed) o (after t s.now s.deed)) (sym legal.0.told)
      (step_fits Went path t st s.now s.deed job good fit)) in
      walk (front ++ s ∷ []) rest (after t s.now s.deed) (tell path st s.deed s.mark s.told)
      (split ∙ sym (append_assoc front (s ∷ []) rest))
      (table_push opening front s ∙ ap (λ (t : DeskTable). after t s.now s.deed) at)
      (omega (arith, length-append front (s ∷ []), place, goes.count))
      goes.job
      (legal_push opening front s before (subst (λ (u : DeskTable). IsLegal u s) (sym at) legal.0))
      legal.1 goes.fits
    where
      good : (flight : Flight) (b : BodyId) (number : ℕ) (seen : Seen) → s.deed ≡ Settle number (ends.Sent seen) → refusal_of t s.deed ≡ None → t.job ≡ Some flight → same_path path flight.path ≡ true → nat_eq b.file flight.body.file ≡ true → Went st.count b
      good flight b number seen deed_is free flies on file =
          let free' : refusal_of t (Settle number (ends.Sent seen)) ≡ None = subst (λ (d : Deed). refusal_of t d ≡ None) deed_is free in
          let num : flight.number ≡ number = job_number number flight (subst (λ (o : Option Flight). job_fault number o ≡ None) flies free') in
          record {
            before = front;
            step = s;
            since = rest;
            split = split;
            place_is = place;
            flight = flight;
            seen = seen;
            in_flight = ap (λ (t : DeskTable). t.job) at ∙ flies;
            deed_is = deed_is ∙ ap (λ (n : ℕ). Settle n (ends.Sent seen)) (sym num);
            mark_is = legal.0.mark ∙ ap (mark_of t s.now) deed_is ∙ sent_mark t s.now number seen flight flies free';
            taken = find_take opening flight [] front opening refl before (λ h. let no_job : None ≡ Some flight = sym none ∙ h in cc) (ap (λ (t : DeskTable). t.job) at ∙ flies);
            path_is = on;
            file_is = sym (eqb-true b.file flight.body.file file);
          }

  start_fits : FitsNow opening (record { last = queued_at path opening.index.entries; fate = Queued; job = opening.job; count = 0 })
  start_fits = by (queued_at path opening.index.entries) refl
    where
      by : (q : Option BodyId) → queued_at path opening.index.entries ≡ q → Fits Went (IsLostAs opening.index path) (queued_at path opening.index.entries) q Queued
      by None is = is
      by (Some b) is = is

  fated : Legal opening whole → FitsNow (table_after opening whole) (story opening whole path)
  fated legal = walk [] whole opening (record { last = queued_at path opening.index.entries; fate = Queued; job = opening.job; count = 0 }) refl refl refl refl tt legal start_fits

  kept_as : (t : Table) (last : Option BodyId) (fate : Fate) → Fits Went (IsLostAs t path) (queued_at path t.entries) last fate → IsKeptAs opening whole t path last fate
  kept_as t None fate fit = tt
  kept_as t (Some b) Queued fit = fit
  kept_as t (Some b) (Sent place) fit = fit.1
  kept_as t (Some b) (Lost n) fit = fit.1

  pub last_close : Legal opening whole → IsKeptAs opening whole (table_after opening whole).index path (story opening whole path).last (story opening whole path).fate
  last_close legal = kept_as (table_after opening whole).index (story opening whole path).last (story opening whole path).fate (fated legal)

lost_stays : (t : DeskTable) (steps : List Step) (x : LostItem) → Contains t.index.lost x → Contains (table_after t steps).index.lost x
lost_stays t [] x there = there
lost_stays t (s ∷ steps) x there = lost_stays (after t s.now s.deed) steps x (lost_step t s.now s.deed x there)

pub kept : (opening : DeskTable) (steps : List Step) → opening.job ≡ None → Legal opening steps → IsKept opening steps (table_after opening steps).index
kept opening steps none legal = record {
  last_close = λ path. last_close opening none steps path legal;
  lost_stays = λ x there. lost_stays opening steps x there;
}
