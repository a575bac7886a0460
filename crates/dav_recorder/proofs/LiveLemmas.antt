-- How a desk on a disk goes on from step to step.
use Rattle.std.proofs.Common.{◌≡◌, ◌⊎◌, inl, inr, ℕ, ◌<◌, ◌≤◌, List, [], ◌∷◌, ◌++◌, Option, Some, None, false, refl, sym, ◌∙◌, ap, subst, arith, append_assoc}
use Rattle.std.proofs.lemmas.List.{append-nil}
use Rattle.std.proofs.lemmas.Bool.{cases_lt}
use Rattle.dav_disk.specs.Disk.{Doubt, IsOutcome, IsImage, Touches}
use Rattle.dav_index.specs.Items.{Every}
use Rattle.dav_index.specs.Tables.{replay, fresh_table, restarted}
use Rattle.dav_index.specs.declared.table.Table.{Table}
use Rattle.dav_index.specs.declared.record.Record.{Record}
use Rattle.dav_deeds.specs.DeskTable.{DeskTable, started}
use Rattle.dav_deeds.specs.Effects.{after, record_of, recorded}
use Rattle.dav_deeds.specs.Legal.{IsLegal, Legal, table_after}
use Rattle.dav_deeds.specs.declared.deed.Step.{Step}
use Rattle.dav_deeds.proofs.Stories.{legal_front, legal_push}
use Rattle.dav_deeds.proofs.Restart.{changed_reopens, reopens}
use Rattle.dav_deeds.specs.declared.deed.Mark.TheVariants.{Plain}
use Rattle.dav_deeds.proofs.Taking.{table_push}
use Rattle.dav_index.specs.Bounds.{bodies_of}
use Rattle.dav_recorder.specs.Stands.{EachBody, EachImage, Stands}
use Rattle.dav_recorder.specs.Recovers.{Replays, rows_of, Recovers, RecoversEither, IsConsistent}
use Rattle.dav_recorder.specs.Planned.{kept_table}
use Rattle.dav_recorder.specs.Survives.{IsFront, HasUnder, Survives, SurviveAll, with_under, IsLive, IsLeft}
use Rattle.dav_recorder.specs.declared.recorder.Recorder.{Recorder}
use Rattle.dav_recorder.proofs.Standing.{safe_stands, safe_still, stands_still}

later_push : (m : ℕ) (steps : List Step) (s : Step) → Every (λ (x : Step). m < x.moment) steps → m < s.moment → Every (λ (x : Step). m < x.moment) (steps ++ s ∷ [])
later_push m [] s all lt = (lt, tt)
later_push m (x ∷ steps) s all lt = (all.0, later_push m steps s all.1 lt)

later_sooner : (m k : ℕ) (steps : List Step) → m ≤ k → Every (λ (x : Step). k < x.moment) steps → Every (λ (x : Step). m < x.moment) steps
later_sooner m k [] le all = tt
later_sooner m k (s ∷ steps) le all = (omega (arith, all.0), later_sooner m k steps le all.1)

-- what is at rest recovers in each image
pub consistent_image : {url : List ℕ} {table : Table} {bodies : ℕ → List ℕ} {end : ℕ} {seen : ℕ → List ℕ} {doubts : ℕ → Doubt} → IsConsistent url table bodies end seen doubts → (image : ℕ → List ℕ) → IsImage doubts image → Recovers url table bodies image
consistent_image is image left = inr (record { records = is.records; replays = is.replays; stands = safe_stands is.safe image left })

module _ (url : List ℕ) (opening : DeskTable) (bodies : ℕ → List ℕ) where
  -- all steps so far
  pub survives_all : (steps : List Step) (under : Option Step) (m : ℕ) (image : ℕ → List ℕ) → Recovers url (kept_table (table_after opening steps)) bodies image → Survives url opening steps under bodies m image
  survives_all steps under m image recovers = record { done = steps; some_of = inl (record { rest = []; split = sym (append-nil steps); later = tt }); recovers = recovers }

  -- and the one under way
  survives_with : (steps : List Step) (s : Step) (m : ℕ) (image : ℕ → List ℕ) → Recovers url (kept_table (after (table_after opening steps) s.now s.deed)) bodies image → Survives url opening steps (Some s) bodies m image
  survives_with steps s m image recovers = record {
    done = steps ++ s ∷ [];
    some_of = inr (s, refl, refl);
    recovers = subst (λ (t : DeskTable). Recovers url (kept_table t) bodies image) (sym (table_push opening steps s)) recovers;
  }

  idle_front : (m : ℕ) (steps done : List Step) → IsFront m steps done ⊎ HasUnder None steps done → IsFront m steps done
  idle_front m steps done (inl front) = front
  idle_front m steps done (inr over) = let none : None ≡ Some over.0 = over.1 in cc none

  pub survives_under : (steps : List Step) (under : Option Step) (m : ℕ) (image : ℕ → List ℕ) → Survives url opening steps None bodies m image → Survives url opening steps under bodies m image
  survives_under steps under m image is = record { done = is.done; some_of = inl (idle_front m steps is.done is.some_of); recovers = is.recovers }

  -- a step that ended after that moment
  survives_more : (steps : List Step) (s : Step) (m : ℕ) (image : ℕ → List ℕ) → m < s.moment → Survives url opening steps None bodies m image → Survives url opening (steps ++ s ∷ []) None bodies m image
  survives_more steps s m image lt is =
      let front = idle_front m steps is.done is.some_of in
      record {
        done = is.done;
        some_of = inl (record {
          rest = front.rest ++ s ∷ [];
          split = ap (λ (l : List Step). l ++ s ∷ []) front.split ∙ append_assoc is.done front.rest (s ∷ []);
          later = later_push m front.rest s front.later lt;
        });
        recovers = is.recovers;
      }

  -- what survives at a moment survives for each one before it
  pub survives_sooner : (steps : List Step) (under : Option Step) (m k : ℕ) (image : ℕ → List ℕ) → m ≤ k → Survives url opening steps under bodies k image → Survives url opening steps under bodies m image
  survives_sooner steps under m k image le is = record {
    done = is.done;
    some_of = elim is.some_of [
      | inl front ↦ inl (record { rest = front.rest; split = front.split; later = later_sooner m k front.rest le front.later })
      | inr over ↦ inr over
    ];
    recovers = is.recovers;
  }

  -- one step, at a stretch of calls
  module _ (steps : List Step) {start from : ℕ} {old new : ℕ → ℕ → Doubt} (so_far : SurviveAll old start from url opening steps None bodies) (before : (k f : ℕ) → k ≤ from → new k f ≡ old k f) where
    earlier : (k : ℕ) (image : ℕ → List ℕ) → start ≤ k → k ≤ from → IsImage (new k) image → Survives url opening steps None bodies k image
    earlier k image lo le left = so_far k image lo le (λ f. subst (λ (d : Doubt). IsOutcome d (image f)) (before k f le) (left f))

    -- nothing of it is on the disk
    pub survive_without : {to : ℕ} (under : Option Step) → EachImage new from to (Recovers url (kept_table (table_after opening steps)) bodies) → SurviveAll new start to url opening steps under bodies
    survive_without {to} under images k image lo hi left = elim (cases_lt from k) [
      | inl past_from ↦ survives_all steps under k image (images k image (omega arith) hi left)
      | inr le ↦ survives_under steps under k image (earlier k image lo le left)
    ]

    module _ {to : ℕ} (s : Step) (either : EachImage new from to (RecoversEither url (kept_table (table_after opening steps)) (kept_table (after (table_after opening steps) s.now s.deed)) bodies)) where
      -- it may be on the disk
      pub survive_under : SurviveAll new start to url opening steps (Some s) bodies
      survive_under k image lo hi left = elim (cases_lt from k) [
        | inl past_from ↦ elim (either k image (omega arith) hi left) [
          | inl without ↦ survives_all steps (Some s) k image without
          | inr with_it ↦ survives_with steps s k image with_it
        ]
        | inr le ↦ survives_under steps (Some s) k image (earlier k image lo le left)
      ]

      -- it is on the disk
      pub survive_on : s.moment ≡ to → ((image : ℕ → List ℕ) → IsImage (new to) image → Recovers url (kept_table (after (table_after opening steps) s.now s.deed)) bodies image) → SurviveAll new start to url opening (steps ++ s ∷ []) None bodies
      survive_on at_end ended k image lo hi left = elim (cases_lt k to) [
        | inl lt ↦ elim (cases_lt from k) [
          | inl past_from ↦ elim (either k image (omega arith) hi left) [
            | inl without ↦ survives_more steps s k image (omega arith) (survives_all steps None k image without)
            | inr with_it ↦ with_all k image with_it
          ]
          | inr le ↦ survives_more steps s k image (omega arith) (earlier k image lo le left)
        ]
        | inr ge ↦ let same : k ≡ to = omega arith in with_all k image (ended image (subst (λ (n : ℕ). IsImage (new n) image) same left))
      ]
        where
          with_all : (k : ℕ) (image : ℕ → List ℕ) → Recovers url (kept_table (after (table_after opening steps) s.now s.deed)) bodies image → Survives url opening (steps ++ s ∷ []) None bodies k image
          with_all k image r = survives_all (steps ++ s ∷ []) None k image (subst (λ (t : DeskTable). Recovers url (kept_table t) bodies image) (sym (table_push opening steps s)) r)

-- the kept table after a step, by its record
pub kept_after : (t : DeskTable) (s : Step) (r : Record) → record_of t s.now s.deed ≡ Some r → kept_table (after t s.now s.deed) ≡ replay (kept_table t) r
kept_after t s r is = ap (λ (d : DeskTable). d.index) (reopens t s.now s.deed) ∙ ap (λ (o : Option Record). recorded (kept_table t) o) is

pub kept_quiet : (t : DeskTable) (s : Step) → record_of t s.now s.deed ≡ None → kept_table (after t s.now s.deed) ≡ kept_table t
kept_quiet t s is = ap (λ (d : DeskTable). d.index) (reopens t s.now s.deed) ∙ ap (λ (o : Option Record). recorded (kept_table t) o) is

-- the step with the number of calls at its end
abbrev pub stamped : Step → ℕ → Step
stamped s n = record { who = s.who; now = s.now; deed = s.deed; mark = s.mark; told = s.told; moment = n }

legal_stamped : (t : DeskTable) (s : Step) (n : ℕ) → IsLegal t s → IsLegal t (stamped s n)
legal_stamped t s n legal = record { deed = legal.deed; mark = legal.mark; told = legal.told; stands = legal.stands }

-- a desk that makes a step
module _ {D : Type 0} (moment : D → ℕ) (seen : D → ℕ → List ℕ) (past : D → ℕ → ℕ → Doubt) (url : List ℕ) (opening : DeskTable) (start : ℕ) (bodies : ℕ → List ℕ) (old : Recorder D) (is : IsLive moment seen past url opening start bodies old) where
  abbrev pub steps : List Step
  steps = old.trace.steps.items

  abbrev pub now_table : DeskTable
  now_table = table_after opening steps

  module _ (new : Recorder D) {F : ℕ → Type 0} (touches : Touches F (moment old.disk) (moment new.disk) (past old.disk) (past new.disk)) where
    -- nothing of the step is on the disk
    pub left_before : EachImage (past new.disk) (moment old.disk) (moment new.disk) (Recovers url (kept_table now_table) bodies) → new.trace.steps.items ≡ steps → new.under ≡ old.under → IsLeft moment past url opening start bodies new
    left_before images same under =
        let idle : new.under ≡ None = under ∙ is.idle in
        record {
          legal = subst (λ (u : Option Step). Legal opening (with_under new.trace.steps.items u)) (sym idle) (subst (λ (l : List Step). Legal opening l) (sym same) is.legal);
          survive = subst (λ (l : List Step). SurviveAll (past new.disk) start (moment new.disk) url opening l new.under bodies) (sym same)
              (survive_without url opening bodies steps is.survive touches.before new.under images);
        }

    module _ (s : Step) (legal : IsLegal now_table s) (then : Table) (kept : kept_table (after now_table s.now s.deed) ≡ then) (either : EachImage (past new.disk) (moment old.disk) (moment new.disk) (RecoversEither url (kept_table now_table) then bodies)) where
      either_kept : EachImage (past new.disk) (moment old.disk) (moment new.disk) (RecoversEither url (kept_table now_table) (kept_table (after now_table s.now s.deed)) bodies)
      either_kept = subst (λ (t : Table). EachImage (past new.disk) (moment old.disk) (moment new.disk) (RecoversEither url (kept_table now_table) t bodies)) (sym kept) either

      pub left_under : (n : ℕ) → new.trace.steps.items ≡ steps → new.under ≡ Some (stamped s n) → IsLeft moment past url opening start bodies new
      left_under n same under = record {
        legal = subst (λ (u : Option Step). Legal opening (with_under new.trace.steps.items u)) (sym under)
            (subst (λ (l : List Step). Legal opening (l ++ stamped s n ∷ [])) (sym same) (legal_push opening steps (stamped s n) is.legal (legal_stamped now_table s n legal)));
        survive = subst (λ (l : List Step). SurviveAll (past new.disk) start (moment new.disk) url opening l new.under bodies) (sym same)
            (subst (λ (u : Option Step). SurviveAll (past new.disk) start (moment new.disk) url opening steps u bodies) (sym under)
            (survive_under url opening bodies steps is.survive touches.before (stamped s n) either_kept));
      }

      pub live_on : IsConsistent url then bodies new.journal.end (seen new.disk) (past new.disk (moment new.disk)) → new.trace.steps.items ≡ steps ++ stamped s (moment new.disk) ∷ [] → new.under ≡ None → IsLive moment seen past url opening start bodies new
      live_on consistent grown idle =
          let last = stamped s (moment new.disk) in
          let there : kept_table (table_after opening new.trace.steps.items) ≡ then = ap (λ (l : List Step). kept_table (table_after opening l)) grown ∙ ap (λ (t : DeskTable). kept_table t) (table_push opening steps last) ∙ kept in
          record {
            begun = omega (arith, is.begun, touches.later);
            legal = subst (λ (l : List Step). Legal opening l) (sym grown) (legal_push opening steps last is.legal (legal_stamped now_table s (moment new.disk) legal));
            consistent = subst (λ (t : Table). IsConsistent url t bodies new.journal.end (seen new.disk) (past new.disk (moment new.disk))) (sym there) consistent;
            survive = subst (λ (l : List Step). SurviveAll (past new.disk) start (moment new.disk) url opening l None bodies) (sym grown)
                (survive_on url opening bodies steps is.survive touches.before last either_kept refl
                (λ image left. subst (λ (t : Table). Recovers url t bodies image) (sym kept) (consistent_image consistent image left)));
            idle = idle;
          }

  -- a look at the disk
  pub live_looks : (new : Recorder D) → Touches (λ _. ⊥) (moment old.disk) (moment new.disk) (past old.disk) (past new.disk) → seen new.disk 0 ≡ seen old.disk 0 → new.journal.end ≡ old.journal.end → new.trace.steps.items ≡ steps → new.under ≡ old.under
      → IsLive moment seen past url opening start bodies new
  live_looks new touches seen_same end_same same under =
      let c = is.consistent in
      let there : kept_table now_table ≡ kept_table (table_after opening new.trace.steps.items) = ap (λ (l : List Step). kept_table (table_after opening l)) (sym same) in
      let spared : EachBody (bodies_of (kept_table now_table)) (λ id. ⊥ → ⊥) = λ id named never. never in
      let safe = safe_still touches (bodies_of (kept_table now_table)) bodies spared c.safe.kept (rows_of url c.records) old.journal.end (seen old.disk) c.safe.index (λ never. never) (seen new.disk) seen_same in
      let images : EachImage (past new.disk) (moment old.disk) (moment new.disk) (Recovers url (kept_table now_table) bodies) =
      λ k image lo hi left. inr (record {
        records = c.records;
        replays = c.replays;
        stands = stands_still touches (bodies_of (kept_table now_table)) bodies spared c.safe.kept (rows_of url c.records) old.journal.end (seen old.disk) c.safe.index (λ never. never) k image lo hi left;
      }) in
      record {
        begun = omega (arith, is.begun, touches.later);
        legal = subst (λ (l : List Step). Legal opening l) (sym same) is.legal;
        consistent = subst (λ (t : Table). IsConsistent url t bodies new.journal.end (seen new.disk) (past new.disk (moment new.disk))) there
            (subst (λ (n : ℕ). IsConsistent url (kept_table now_table) bodies n (seen new.disk) (past new.disk (moment new.disk))) (sym end_same)
            (record { records = c.records; replays = c.replays; safe = safe }));
        survive = subst (λ (l : List Step). SurviveAll (past new.disk) start (moment new.disk) url opening l None bodies) (sym same)
            (survive_without url opening bodies steps is.survive touches.before None images);
        idle = under ∙ is.idle;
      }

-- files that no body is kept in are emptied
pub quiet_images : {url : List ℕ} {table : Table} {bodies : ℕ → List ℕ} {end : ℕ} {seen : ℕ → List ℕ} {doubts : ℕ → Doubt} (is : IsConsistent url table bodies end seen doubts) (past : ℕ → ℕ → Doubt) (from to : ℕ)
    → EachImage past from to (Stands (rows_of url is.records) (bodies_of table) bodies) → EachImage past from to (Recovers url table bodies)
quiet_images is past from to images k image lo hi left = inr (record { records = is.records; replays = is.replays; stands = images k image lo hi left })

-- a replay and a start in either order
replay_restarts : (t : Table) (r : Record) → restarted (replay t r) ≡ replay (restarted t) r
replay_restarts t r = ap (λ (d : DeskTable). d.index) (changed_reopens (started t) (record {
  mark = Plain;
  told = None;
  on_record = Some r;
  waits = None;
  released = [];
  job = None;
  jobs = 0;
  stopping = false;
}))

restarted_same : (before : Table) (records : List Record) (after : Table) → restarted before ≡ before → Replays before records after → restarted after ≡ after
restarted_same before [] after same is = ap restarted is ∙ same ∙ sym is
restarted_same before (r ∷ records) after same is = restarted_same (replay before r) records after (replay_restarts before r ∙ ap (λ (t : Table). replay t r) same) is.2

-- a desk that has just begun
pub live_begin : {D : Type 0} (moment : D → ℕ) (seen : D → ℕ → List ℕ) (past : D → ℕ → ℕ → Doubt) (url : List ℕ) (table : Table) (start : ℕ) (bodies : ℕ → List ℕ) (desk : Recorder D) → start ≤ moment desk.disk
    → IsConsistent url table bodies desk.journal.end (seen desk.disk) (past desk.disk (moment desk.disk)) → EachImage (past desk.disk) start (moment desk.disk) (Recovers url table bodies) → desk.trace.steps.items ≡ [] → desk.under ≡ None
    → IsLive moment seen past url (started table) start bodies desk
live_begin moment seen past url table start bodies desk begun consistent images none idle =
    let same : restarted table ≡ table = restarted_same fresh_table consistent.records table refl consistent.replays in
    let there : table ≡ kept_table (table_after (started table) desk.trace.steps.items) = sym same ∙ ap (λ (l : List Step). kept_table (table_after (started table) l)) (sym none) in
    record {
      begun = begun;
      legal = subst (λ (l : List Step). Legal (started table) l) (sym none) tt;
      consistent = subst (λ (t : Table). IsConsistent url t bodies desk.journal.end (seen desk.disk) (past desk.disk (moment desk.disk))) there consistent;
      survive = λ k image lo hi left. survives_all url (started table) bodies desk.trace.steps.items None k image (subst (λ (t : Table). Recovers url t bodies image) there (images k image lo hi left));
      idle = idle;
    }

pub live_begin_at : {D : Type 0} (moment : D → ℕ) (seen : D → ℕ → List ℕ) (past : D → ℕ → ℕ → Doubt) (url : List ℕ) (table : Table) (start : ℕ) (bodies : ℕ → List ℕ) (desk : Recorder D) (disk : D) (end : ℕ) → desk.disk ≡ disk → desk.journal.end ≡ end → start ≤ moment disk
    → IsConsistent url table bodies end (seen disk) (past disk (moment disk)) → EachImage (past disk) start (moment disk) (Recovers url table bodies) → desk.trace.steps.items ≡ [] → desk.under ≡ None
    → IsLive moment seen past url (started table) start bodies desk
live_begin_at {D} moment seen past url table start bodies desk disk end disk_is end_is begun consistent images none idle =
    live_begin moment seen past url table start bodies desk (subst (λ (d : D). start ≤ moment d) (sym disk_is) begun)
    (subst (λ (d : D). IsConsistent url table bodies desk.journal.end (seen d) (past d (moment d))) (sym disk_is) (subst (λ (n : ℕ). IsConsistent url table bodies n (seen disk) (past disk (moment disk))) (sym end_is) consistent))
    (subst (λ (d : D). EachImage (past d) start (moment d) (Recovers url table bodies)) (sym disk_is) images) none idle

legal_steps : (opening : DeskTable) (steps : List Step) (under : Option Step) → Legal opening (with_under steps under) → Legal opening steps
legal_steps opening all None legal = legal
legal_steps opening all (Some s) legal = legal_front opening all (s ∷ []) legal

-- the steps that survive are legal
pub legal_done : (opening : DeskTable) (m : ℕ) (steps done : List Step) (under : Option Step) → Legal opening (with_under steps under) → IsFront m steps done ⊎ HasUnder under steps done → Legal opening done
legal_done opening m all done under legal (inl front) = legal_front opening done front.rest (subst (λ (l : List Step). Legal opening l) front.split (legal_steps opening all under legal))
legal_done opening m all done under legal (inr over) = subst (λ (l : List Step). Legal opening l) (sym over.2) (subst (λ (u : Option Step). Legal opening (with_under all u)) over.1 legal)
