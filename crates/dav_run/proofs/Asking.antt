-- What a step of the desk says of an ask of the shell.
use Rattle.std.proofs.Common.{◌≡◌, ◌≢◌, ◌≤◌, inl, inr, ℕ, List, [], ◌∷◌, fold, Bool, true, false, if◌then◌else◌, nat_le, nat_lt, Option, Some, None, IfOk, IfErr, OnOk, refl, sym, ◌∙◌, ap, subst}
use Rattle.dav_machine.specs.Log.{event}
use Rattle.dav_text.specs.Path.{PathParts, IsPath}
use Rattle.dav_text.specs.declared.which.Which.TheVariants as limits
use Rattle.dav_index.specs.Item.{Item}
use Rattle.dav_index.specs.Items.{Every}
use Rattle.dav_index.specs.Queries.{is_older, older, oldest_clean}
use Rattle.dav_index.specs.Records.{IsBare}
use Rattle.dav_deeds.specs.DeskTable.{DeskTable}
use Rattle.dav_deeds.specs.Effects.{told_of, effect_unless, effect_done, settle_effect, take_effect, taken}
use Rattle.dav_deeds.specs.Legal.{IsAsk, IsOfShell, deed_of}
use Rattle.dav_deeds.specs.Made.{answer_by}
use Rattle.dav_deeds.specs.Refusals.{lacks_place, lacks_bytes, lacks_known, crowding, full_or_crowded, store_refusal, queued_with, queued_fault, job_fault, refusal_of}
use Rattle.dav_deeds.specs.Sound.{IsSound}
use Rattle.dav_deeds.specs.declared.answer.Flight.{Flight}
use Rattle.dav_deeds.specs.declared.ask.Ask.{Ask}
use Rattle.dav_deeds.specs.declared.ask.Ask.TheVariants.{Stop}
use Rattle.dav_deeds.specs.declared.ask.Who.TheVariants.{Shell}
use Rattle.dav_deeds.specs.declared.deed.Deed.{Deed}
use Rattle.dav_deeds.specs.declared.deed.Deed.TheVariants as deeds
use Rattle.dav_deeds.specs.declared.fault.DeskFault.{DeskFault}
use Rattle.dav_deeds.specs.declared.fault.DeskFault.TheVariants as faults
use Rattle.dav_desk.specs.Ended.{IsAsked, HasCause}
use Rattle.dav_desk.specs.Ends.{IsEnd, IsEndIfAny}
use Rattle.dav_desk.specs.Verdict.{Verdict, Went, Stopped, Starved, with_bytes, result_by, table_by}
use Rattle.dav_desk.specs.Working.{AreGiven, HasBytes, HasSum, IsReadied}
use Rattle.dav_desk.specs.declared.desk.Desk.{Desk}
use Rattle.dav_upload.specs.Asking.{asking, Met, Answered, Asks, answer_met}
use Rattle.dav_upload.specs.Desks.{DiskView, Works, Stops, HasBytesIf, HasSumIf, WasAsked}
use Rattle.dav_upload.specs.Resting.{IsResting}
use Rattle.dav_upload.proofs.Asks.{bytes_so, sums_so}
use Rattle.dav_upload.proofs.ShellAsks.{shell_rests}
use Rattle.dav_run.specs.Answering.{DoesDesk, HasPath}
use Rattle.dav_run.proofs.Desking.{asked_once}

-- the path of a crowded desk is one of its entries

older_keeps : (P : Item → Type 0) (best : Option Item) (items : List Item) (found : Item) → ((x : Item) → best ≡ Some x → P x) → Every P items → fold older best items ≡ Some found → P found
older_keeps P best [] found first each is = first found is
older_keeps P best (x ∷ xs) found first each is = older_keeps P (older best x) xs found (by (is_older best x)) each.1 is
  where
    by : (b : Bool) → (y : Item) → (if b then Some x else best) ≡ Some y → P y
    by true y h = let same : x ≡ y = cc in subst P same each.0
    by false y h = first y h

crowding_path : (t : DeskTable) (path : PathParts) (found : Item) → IsSound t → crowding t.index path ≡ Some found → IsPath found.path
crowding_path t path found sound is = by (lacks_known t.index path) is
  where
    by : (b : Bool) → (if b then oldest_clean t.index.entries else None) ≡ Some found → IsPath found.path
    by true h = (older_keeps (λ (item : Item). IsBare item.path) None t.index.entries found (λ x none. absurd (cc)) sound.index.in_order.paths h).is_path
    by false h = absurd (cc)

limit_path : (fault : DeskFault) (next_file : ℕ) → (if nat_le 4294967295 next_file then Some (faults.Limit limits.Files) else None) ≡ Some fault → HasPath fault
limit_path fault next_file is = by (nat_le 4294967295 next_file) is
  where
    by : (b : Bool) → (if b then Some (faults.Limit limits.Files) else None) ≡ Some fault → HasPath fault
    by true h = let same : faults.Limit limits.Files ≡ fault = cc in subst HasPath same tt
    by false h = absurd (cc)

full_path : (t : DeskTable) (path : PathParts) (fault : DeskFault) → IsSound t → full_or_crowded t.index.next_file (crowding t.index path) ≡ Some fault → HasPath fault
full_path t path fault sound is = by (crowding t.index path) refl is
  where
    by : (c : Option Item) → crowding t.index path ≡ c → full_or_crowded t.index.next_file c ≡ Some fault → HasPath fault
    by (Some item) here h = let same : faults.Crowded item.path ≡ fault = cc in subst HasPath same (crowding_path t path item sound here)
    by None here h = limit_path fault t.index.next_file h

store_path : (t : DeskTable) (path : PathParts) (len : ℕ) (fault : DeskFault) → IsSound t → store_refusal t.index path len ≡ Some fault → HasPath fault
store_path t path len fault sound is = by (nat_lt 8388608 len) (lacks_place t.index path) (lacks_bytes t.index path len) is
  where
    by : (long full many : Bool) → (if long then Some (faults.Limit limits.Body) else (if full then Some (faults.Limit limits.Queue) else (if many then Some (faults.Limit limits.Bytes) else full_or_crowded t.index.next_file (crowding t.index path)))) ≡ Some fault
        → HasPath fault
    by true full many h = let same : faults.Limit limits.Body ≡ fault = cc in subst HasPath same tt
    by false true many h = let same : faults.Limit limits.Queue ≡ fault = cc in subst HasPath same tt
    by false false true h = let same : faults.Limit limits.Bytes ≡ fault = cc in subst HasPath same tt
    by false false false h = full_path t path fault sound h

queued_path : (found : Option Item) (fault : DeskFault) → queued_fault found ≡ Some fault → HasPath fault
queued_path None fault is = absurd (cc)
queued_path (Some item) fault is = let same : faults.Queued item.path ≡ fault = cc in subst HasPath same tt

job_path : (job : ℕ) (found : Option Flight) (fault : DeskFault) → job_fault job found ≡ Some fault → HasPath fault
job_path job None fault is = let same : faults.NoSuchJob job ≡ fault = cc in subst HasPath same tt
job_path job (Some flight) fault is = by _ is
  where
    by : (b : Bool) → (if b then None else Some (faults.NoSuchJob job)) ≡ Some fault → HasPath fault
    by true h = absurd (cc)
    by false h = let same : faults.NoSuchJob job ≡ fault = cc in subst HasPath same tt

refusal_path : (t : DeskTable) (deed : Deed) (fault : DeskFault) → IsSound t → refusal_of t deed ≡ Some fault → HasPath fault
refusal_path t (deeds.Store path len body) fault sound is = store_path t path len fault sound is
refusal_path t (deeds.Forget path locks below) fault sound is = queued_path (queued_with path below t.index.entries) fault is
refusal_path t deeds.Take fault sound is = absurd (cc)
refusal_path t (deeds.Settle job done) fault sound is = job_path job t.job fault is
refusal_path t deeds.Stop fault sound is = absurd (cc)

-- a deed that isn't refused is answered, or there is no memory
done_path : (t : DeskTable) (deed : Deed) (bytes : List ℕ) → IfErr (with_bytes (answer_by (effect_done t 0 deed).mark (effect_done t 0 deed).told) bytes) HasPath
done_path t (deeds.Store path len None) bytes = tt
done_path t (deeds.Store path len (Some body)) bytes = tt
done_path t (deeds.Forget path locks below) bytes = tt
done_path t deeds.Take bytes = by (taken t 0)
  where
    by : (found : Option Flight) → IfErr (with_bytes (answer_by (take_effect t found).mark (take_effect t found).told) bytes) HasPath
    by None = tt
    by (Some flight) = tt
done_path t (deeds.Settle job done) bytes = by t.job
  where
    by : (found : Option Flight) → IfErr (with_bytes (answer_by (settle_effect t found 0 done).mark (settle_effect t found 0 done).told) bytes) HasPath
    by None = tt
    by (Some flight) = tt
done_path t deeds.Stop bytes = tt

went_path : (t : DeskTable) (deed : Deed) (bytes : List ℕ) (refusal : Option DeskFault) → IsSound t → refusal_of t deed ≡ refusal
    → IfErr (with_bytes (answer_by (effect_unless refusal t 0 deed).mark (effect_unless refusal t 0 deed).told) bytes) HasPath
went_path t deed bytes None sound is = done_path t deed bytes
went_path t deed bytes (Some fault) sound is = refusal_path t deed fault sound is

end_path : (fault : DeskFault) → IsEnd fault → HasPath fault
end_path faults.Disk is = tt
end_path (faults.NotACache at) is = tt
end_path (faults.Damaged file kept found) is = tt
end_path (faults.OtherServer kept asked) is = absurd is
end_path (faults.Queued path) is = absurd is
end_path (faults.NoSuchJob number) is = absurd is
end_path (faults.Crowded oldest) is = absurd is
end_path (faults.Limit which) is = absurd is
end_path faults.Memory is = absurd is

module _ {D : Type 0} (view : DiskView D) where
  pub path_so : (ask : Ask) (x y : Desk D) (result : Answered) → IsSound x.table → IsReadied view.honest view.moment view.seen view.past x
      → IsAsked view.honest view.moment view.seen view.faults Shell 0 ask x y result → IfErr result HasPath
  path_so ask x y result sound readied asked = subst (λ (r : Answered). IfErr r HasPath) (sym asked.answer) (by asked.verdict asked.cause)
    where
      dead_end : (fault : DeskFault) (dead : Option DeskFault) → IsEndIfAny dead → dead ≡ Some fault → IsEnd fault
      dead_end fault None ends is = absurd (cc)
      dead_end fault (Some other) ends is = let same : other ≡ fault = cc in subst IsEnd same ends

      by : (v : Verdict) → HasCause view.honest view.moment view.seen view.faults Shell 0 ask v x y → IfErr (result_by v x.table 0 ask asked.bytes) HasPath
      by Went cause = went_path x.table (deed_of x.table ask) asked.bytes (refusal_of x.table (deed_of x.table ask)) sound refl
      by (Stopped fault) (inl was) = end_path fault (dead_end fault x.recorder.dead readied.end was.dead)
      by (Stopped fault) (inr died) = end_path fault died.ends
      by Starved cause = tt

  pub asks_so : (ask : Ask) (x y : Desk D) (result : Answered) → IsAsk ask → (asked : IsAsked view.honest view.moment view.seen view.faults Shell 0 ask x y result)
      → (view.honest y.recorder.disk → (url : List ℕ) (opening : DeskTable) (start : ℕ) (given : ℕ → List ℕ) → AreGiven x.table given ask → Works view url opening start given x → y.recorder.dead ≡ None → Works view url opening start given y)
      → (view.honest y.recorder.disk → (url : List ℕ) (opening : DeskTable) (start : ℕ) (given : ℕ → List ℕ) → AreGiven x.table given ask → Works view url opening start given x → y.recorder.dead ≢ None → Stops view url opening start given y)
      → (view.honest y.recorder.disk → IfOk result (λ answer. (url : List ℕ) (opening : DeskTable) (start : ℕ) (given : ℕ → List ℕ) → Works view url opening start given x → HasBytes given (told_of x.table 0 (deed_of x.table ask)) answer))
      → IfOk result (HasSum (told_of x.table 0 (deed_of x.table ask))) → (view.honest y.recorder.disk → view.honest x.recorder.disk) → view.faults x.recorder.disk ≤ view.faults y.recorder.disk
      → DoesDesk view x y (Asks x.table (asking Shell 0 ask)) (result, y.table)
  asks_so ask x y result is_ask asked working stopped bytes sum keeps no_fewer =
      let met : Met = record { verdict = asked.verdict; bytes = asked.bytes } in
      let pair : Answered → DeskTable → Answered × DeskTable = λ r t. (r, t) in
      let was : WasAsked view (event (asking Shell 0 ask) met) x y = record {
        is_ask = is_ask;
        table = asked.table;
        steps = asked.steps;
        cause = asked.cause;
        working = working;
        stopped = stopped;
        bytes = λ honest url opening start given works. subst (HasBytesIf given (told_of x.table 0 (deed_of x.table ask))) asked.answer (bytes_so view x (told_of x.table 0 (deed_of x.table ask)) result (bytes honest) url opening start given works);
        sums = subst (HasSumIf (told_of x.table 0 (deed_of x.table ask))) asked.answer (sums_so (told_of x.table 0 (deed_of x.table ask)) result sum);
        keeps = keeps;
        no_fewer = no_fewer;
      } in
      subst (λ (r : Answered). DoesDesk view x y (Asks x.table (asking Shell 0 ask)) (r, y.table)) (sym asked.answer)
      (subst (λ (t : DeskTable). DoesDesk view x y (Asks x.table (asking Shell 0 ask)) (answer_met x.table (asking Shell 0 ask) met, t)) (sym asked.table)
      (asked_once view x y (asking Shell 0 ask) met was))

  pub rests_so : (ask : Ask) (x y : Desk D) (result : Answered) → IsAsk ask → IsOfShell ask → IsResting x.table → IsAsked view.honest view.moment view.seen view.faults Shell 0 ask x y result → IsResting y.table
  rests_so ask x y result is of rests asked = subst IsResting (sym asked.table) (shell_rests x.table 0 ask asked.verdict is of rests)

  pub stops_so : (ask : Ask) (x y : Desk D) (result : Answered) → IsAsked view.honest view.moment view.seen view.faults Shell 0 ask x y result → ask ≡ Stop → OnOk result (y.table.stopping ≡ true)
  stops_so ask x y result asked is =
      subst (λ (r : Answered). OnOk r (y.table.stopping ≡ true)) (sym (asked.answer ∙ ap (λ (a : Ask). result_by asked.verdict x.table 0 a asked.bytes) is))
      (by asked.verdict (asked.table ∙ ap (λ (a : Ask). table_by asked.verdict x.table 0 a) is))
    where
      by : (v : Verdict) → y.table ≡ table_by v x.table 0 Stop → OnOk (result_by v x.table 0 Stop asked.bytes) (y.table.stopping ≡ true)
      by Went table = ap (λ (t : DeskTable). t.stopping) table
      by (Stopped fault) table = tt
      by Starved table = tt
