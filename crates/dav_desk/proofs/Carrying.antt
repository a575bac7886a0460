-- A step that is carried out, at each of its exits.
use Rattle.std.proofs.Common.{◌≡◌, ◌≢◌, ◌⊎◌, inl, inr, ℕ, ◌≤◌, List, [], ◌∷◌, ◌++◌, length, ◌+◌, Option, Some, None, Result, Err, refl, sym, ◌∙◌, ap, subst, arith}
use Rattle.std.specs.Vec.{vec_capacity}
use Rattle.dav_disk.specs.Disk.{Doubt}
use Rattle.dav_machine.specs.Log.{Rose}
use Rattle.dav_machine.proofs.Logs.{then_rose}
use Rattle.dav_index.specs.Bounds.{bodies_of}
use Rattle.dav_deeds.specs.Answers.{Ends, kind_told, wanted}
use Rattle.dav_deeds.specs.DeskTable.{DeskTable}
use Rattle.dav_deeds.specs.Change.{IsPlannedBy}
use Rattle.dav_deeds.specs.Effects.{after, effect_of, told_of}
use Rattle.dav_deeds.specs.Legal.{bytes_in, deed_of, table_after}
use Rattle.dav_deeds.specs.Sound.{IsSound}
use Rattle.dav_deeds.specs.declared.answer.Answer.{Answer}
use Rattle.dav_deeds.specs.declared.answer.Told.{Told}
use Rattle.dav_deeds.specs.Spare.{HasSpare}
use Rattle.dav_deeds.specs.declared.spare.Spare.{Spare}
use Rattle.dav_deeds.specs.declared.ask.Ask.{Ask}
use Rattle.dav_deeds.specs.declared.ask.Who.{Who}
use Rattle.dav_deeds.specs.declared.deed.Deed.{Deed}
use Rattle.dav_deeds.specs.declared.deed.Step.{Step}
use Rattle.dav_deeds.specs.declared.deed.Trace.{Trace}
use Rattle.std.specs.List.{Contains}
use Rattle.dav_deeds.specs.declared.fault.DeskFault.{DeskFault}
use Rattle.dav_deeds.specs.declared.fault.DeskFault.TheVariants.{Disk, Memory}
use Rattle.dav_deeds.specs.declared.plan.Planned.{Planned}
use Rattle.dav_recorder.specs.Planned.{kept_table}
use Rattle.dav_recorder.specs.Survives.{IsLive, IsLeft}
use Rattle.dav_recorder.specs.declared.recorder.Recorder.{Recorder}
use Rattle.dav_recorder.proofs.LiveLemmas.{stamped}
use Rattle.dav_store.specs.declared.body_id.BodyId.{BodyId}
use Rattle.dav_deeds.proofs.Rows.{end_wants}
use Rattle.dav_desk.specs.declared.desk.Desk.{Desk}
use Rattle.dav_desk.specs.Ended.{IsAsked}
use Rattle.dav_desk.specs.Entry.{IsEntry, IsMissing}
use Rattle.dav_desk.specs.Verdict.{with_bytes}
use Rattle.dav_desk.specs.Working.{AreGiven, IsReadied, IsWorking}
use Rattle.dav_desk.proofs.Asking.{end_of, asked_starved, asked_missing, asked_failed, asked_went, stamped_is}
use Rattle.dav_desk.proofs.Entering.{live_left, planned_entry}
use Rattle.dav_desk.specs.Room.{slots, HasSlotOf, IsHeldFor}
use Rattle.dav_desk.proofs.Rooming.{room_like, held_room, slot_after}
use Rattle.dav_desk.proofs.Going.{CanRecord, records_reserved, readied_alive, readied_dead, lives_reserved, works_still, works_on}
use Rattle.dav_desk.proofs.Telling.{told_kept}

-- the desk from before, the ask and its plan, and the recorder once there is room for a step more
pub record Base {D : Type 0} (honest : D → Type 0) (moment : D → ℕ) (seen : D → ℕ → List ℕ) (past : D → ℕ → ℕ → Doubt) (old : Desk D) (ask : Ask) (planned : Planned) (row : List ℕ) (r : Recorder D) : Type 0 where
  pub alive : old.recorder.dead ≡ None
  pub sound : IsSound old.table
  pub plan : IsPlannedBy old.table planned.made.step.who planned.made.step.now (deed_of old.table ask) (effect_of old.table planned.made.step.now (deed_of old.table ask)) planned row
  pub ready : honest old.recorder.disk → CanRecord honest moment seen past old.recorder
  pub held : IsHeldFor planned.made.step.told old
  pub rest : r ≡ record old.recorder { trace = r.trace }
  pub room : r.trace.steps.items ≡ old.recorder.trace.steps.items
  pub more : vec_capacity old.recorder.trace.steps ≤ vec_capacity r.trace.steps

-- the recorder once the bytes of the job are read, or are not to be had
pub record Read {D : Type 0} (honest : D → Type 0) (moment : D → ℕ) (seen : D → ℕ → List ℕ) (past : D → ℕ → ℕ → Doubt) (faults : D → ℕ) (r q : Recorder D) : Type 0 where
  pub trace : (q.trace ≡ r.trace) × (q.under ≡ r.under)
  pub more : faults r.disk ≤ faults q.disk
  pub keeps : honest q.disk → honest r.disk
  pub ready : honest q.disk → CanRecord honest moment seen past r → CanRecord honest moment seen past q
  pub live : honest q.disk → (url : List ℕ) (opening : DeskTable) (start : ℕ) (given : ℕ → List ℕ) → IsLive moment seen past url opening start given r → IsLive moment seen past url opening start given q

-- the recorder once the step stands on the disk, and the table then
pub record Stood {D : Type 0} (moment : D → ℕ) (faults : D → ℕ) (old : Desk D) (ask : Ask) (planned : Planned) (r q p : Recorder D) (t : DeskTable) : Type 0 where
  pub kept : q.dead ≡ r.dead
  pub later : faults q.disk ≤ faults p.disk
  pub ended : (p.trace.steps.items ≡ q.trace.steps.items ++ stamped planned.made.step (moment p.disk) ∷ []) × (p.under ≡ q.under) × (p.dead ≡ q.dead)
  pub applied : t ≡ after old.table planned.made.step.now (deed_of old.table ask)

module _ {D : Type 0} (honest : D → Type 0) (moment : D → ℕ) (seen : D → ℕ → List ℕ) (past : D → ℕ → ℕ → Doubt) (faults : D → ℕ) (old : Desk D) (ask : Ask) (planned : Planned) (row : List ℕ) (r : Recorder D)
    (b : Base honest moment seen past old ask planned row r) where
  abbrev pub who : Who
  who = planned.made.step.who

  abbrev pub now : ℕ
  now = planned.made.step.now

  abbrev pub with_recorder : Recorder D → Desk D
  with_recorder x = record { alloc = old.alloc; recorder = x; table = old.table; spare = old.spare }

  same_disk : r.disk ≡ old.recorder.disk
  same_disk = ap (λ (x : Recorder D). x.disk) b.rest

  same_dead : r.dead ≡ None
  same_dead = ap (λ (x : Recorder D). x.dead) b.rest ∙ b.alive

  same_under : r.under ≡ old.recorder.under
  same_under = ap (λ (x : Recorder D). x.under) b.rest

  pub can_record : honest r.disk → CanRecord honest moment seen past r
  can_record h = records_reserved honest moment seen past old.recorder r b.rest (b.ready (subst honest same_disk h))

  same_faults : faults r.disk ≡ faults old.recorder.disk
  same_faults = ap faults same_disk

  -- there was no room for a step more
  pub starved_asked : IsAsked honest moment seen faults who now ask old (with_recorder r) (Err Memory)
  starved_asked = asked_starved honest moment seen faults who now ask old (with_recorder r) b.alive same_disk (same_dead ∙ sym b.alive) same_under b.room refl

  pub starved_readied : (kind_told planned.made.step.told ≡ Ends → ⊥) → IsReadied honest moment seen past (with_recorder r)
  starved_readied other = readied_alive honest moment seen past (with_recorder r) same_dead can_record (room_like old r b.room b.more (held_room old planned.made.step.told other b.held))

  pub starved_faults : faults old.recorder.disk ≤ faults r.disk
  starved_faults = omega (arith, same_faults)

  module _ (url : List ℕ) (opening : DeskTable) (start : ℕ) (given : ℕ → List ℕ) (is : IsWorking moment seen past url opening start given old) where
    pub lives : IsLive moment seen past url opening start given r
    lives = lives_reserved moment seen past url opening start given old.recorder r b.rest b.room is.live

    pub starved_works : IsWorking moment seen past url opening start given (with_recorder r)
    starved_works = works_still moment seen past url opening start given old (with_recorder r) refl b.room same_dead is lives

  pub starved_lives_on : r.dead ≢ None → ⊥
  starved_lives_on dead = dead same_dead

  told_is : planned.made.step.told ≡ told_of old.table now (deed_of old.table ask)
  told_is = ap (λ (s : Step). s.told) b.plan.step

  module _ (q : Recorder D) (k : Read honest moment seen past faults r q) where
    same_items : q.trace.steps.items ≡ old.recorder.trace.steps.items
    same_items = ap (λ (t : Trace). t.steps.items) k.trace.0 ∙ b.room

    pub read_faults : faults old.recorder.disk ≤ faults q.disk
    read_faults = omega (arith, same_faults, k.more)

    module _ (e : DeskFault) (missing : IsMissing (honest q.disk) (seen r.disk) (seen q.disk) (faults r.disk) (faults q.disk) planned.made.step.told e)
        (starved : e ≡ Memory → (q.disk ≡ r.disk) × (q.dead ≡ r.dead)) (stopped : e ≢ Memory → q.dead ≡ Some e) where
      missing_old : IsMissing (honest q.disk) (seen old.recorder.disk) (seen q.disk) (faults old.recorder.disk) (faults q.disk) (told_of old.table now (deed_of old.table ask)) e
      missing_old =
          subst (λ (d : D). IsMissing (honest q.disk) (seen d) (seen q.disk) (faults d) (faults q.disk) (told_of old.table now (deed_of old.table ask)) e) same_disk
          (subst (λ (o : Option Told). IsMissing (honest q.disk) (seen r.disk) (seen q.disk) (faults r.disk) (faults q.disk) o e) told_is missing)

      pub missing_asked : IsAsked honest moment seen faults who now ask old (with_recorder q) (Err e)
      missing_asked = asked_missing honest moment seen faults who now ask old (with_recorder q) e b.alive missing_old
          (λ want. ((starved want).0 ∙ same_disk, (starved want).1 ∙ same_dead ∙ sym b.alive)) stopped (k.trace.1 ∙ same_under) same_items refl

      wants : kind_told planned.made.step.told ≡ Ends → ⊥
      wants end = let no : None ≡ Some missing.body = sym (end_wants planned.made.step.told end) ∙ missing.is_wanted in cc no

      pub missing_readied : IsReadied honest moment seen past (with_recorder q)
      missing_readied = elim (end_of (honest q.disk) missing.body (seen r.disk missing.body.file) (faults r.disk) (faults q.disk) e missing.cause) [
        | inl want ↦ readied_alive honest moment seen past (with_recorder q) ((starved want).1 ∙ same_dead) (λ h. k.ready h (can_record (k.keeps h)))
            (room_like old q same_items (subst (λ (t : Trace). vec_capacity old.recorder.trace.steps ≤ vec_capacity t.steps) (sym k.trace.0) b.more)
            (held_room old planned.made.step.told wants b.held))
        | inr end ↦ readied_dead honest moment seen past (with_recorder q) e (stopped end.1) end.0
      ]

    module _ (h : honest q.disk) (url : List ℕ) (opening : DeskTable) (start : ℕ) (given : ℕ → List ℕ) (is : IsWorking moment seen past url opening start given old) where
      pub lives_read : IsLive moment seen past url opening start given q
      lives_read = k.live h url opening start given (lives url opening start given is)

      pub read_works : q.dead ≡ None → IsWorking moment seen past url opening start given (with_recorder q)
      read_works dead = works_still moment seen past url opening start given old (with_recorder q) refl same_items dead is lives_read

      pub read_left : IsLeft moment past url opening start given q
      read_left = live_left moment seen past url opening start given q lives_read

      -- what is put on the disk then
      pub read_entry : AreGiven old.table given ask → (bytes freed : List ℕ) → bytes ≡ bytes_in ask → freed ≡ planned.made.released.items → IsEntry (table_after opening q.trace.steps.items) planned.made.step given bytes row freed
      read_entry has bytes freed bytes_is freed_is =
          let table : old.table ≡ table_after opening q.trace.steps.items = is.table ∙ ap (λ (l : List Step). table_after opening l) (sym same_items) in
          let entry = planned_entry old.table who now ask planned row given b.sound has b.plan in
          subst (λ (t : DeskTable). IsEntry t planned.made.step given bytes row freed) table
          (subst (λ (l : List ℕ). IsEntry old.table planned.made.step given l row freed) (sym bytes_is)
          (subst (λ (l : List ℕ). IsEntry old.table planned.made.step given (bytes_in ask) row l) (sym freed_is) entry))

      -- the body whose bytes are told is one of the table
      pub read_named : (body : BodyId) → wanted planned.made.step.told ≡ Some body → Contains (bodies_of (kept_table (table_after opening r.trace.steps.items))) body
      read_named body is_told =
          let table : old.table ≡ table_after opening r.trace.steps.items = is.table ∙ ap (λ (l : List Step). table_after opening l) (sym b.room) in
          subst (λ (t : DeskTable). Contains (bodies_of (kept_table t)) body) table
          (told_kept old.table now (deed_of old.table ask) body (ap wanted (sym told_is) ∙ is_told))

    -- the recorder once the step was to be put on the disk
    module _ (p : Recorder D) (later : faults q.disk ≤ faults p.disk) where
      pub entered_faults : faults old.recorder.disk ≤ faults p.disk
      entered_faults = omega (arith, read_faults, later)

      pub failed_asked : (e : DeskFault) → (e ≡ Disk) × (p.dead ≡ Some Disk) × Rose (faults q.disk) (faults p.disk) × (p.trace.steps.items ≡ q.trace.steps.items) × ((p.under ≡ q.under) ⊎ (p.under ≡ Some (stamped planned.made.step (moment p.disk))))
          → IsAsked honest moment seen faults who now ask old (with_recorder p) (Err e)
      failed_asked e s =
          asked_failed honest moment seen faults who now ask old (with_recorder p) e b.alive s.0 s.1 (then_rose (faults old.recorder.disk) (faults q.disk) (faults p.disk) read_faults s.2)
          (elim s.4 [ inl same ↦ inl (same ∙ k.trace.1 ∙ same_under) | inr begun ↦ inr (begun ∙ ap (λ (x : Step). Some x) (stamped_is old.table who now ask planned row (moment p.disk) b.plan)) ])
          (s.3 ∙ same_items) refl

      pub failed_readied : p.dead ≡ Some Disk → IsReadied honest moment seen past (with_recorder p)
      failed_readied dead = readied_dead honest moment seen past (with_recorder p) Disk dead tt

      pub failed_not_alive : p.dead ≡ Some Disk → p.dead ≡ None → ⊥
      failed_not_alive dead none = let no : Some Disk ≡ None = sym dead ∙ none in cc no

    -- the step stands, and the table is changed
    module _ (p : Recorder D) (t : DeskTable) (s : Option Spare) (m : Stood moment faults old ask planned r q p t) where
      still_alive : p.dead ≡ None
      still_alive = m.ended.2 ∙ m.kept ∙ same_dead

      grown : p.trace.steps.items ≡ old.recorder.trace.steps.items ++ stamped planned.made.step (moment p.disk) ∷ []
      grown = m.ended.0 ∙ ap (λ (l : List Step). l ++ stamped planned.made.step (moment p.disk) ∷ []) same_items

      pub went_asked : (bytes : List ℕ) (result : Result Answer DeskFault) → result ≡ with_bytes planned.made.answer bytes → IsAsked honest moment seen faults who now ask old (record { alloc = old.alloc; recorder = p; table = t; spare = s }) result
      went_asked bytes result is =
          asked_went honest moment seen faults who now ask old (record { alloc = old.alloc; recorder = p; table = t; spare = s }) planned row bytes result b.alive b.plan is m.applied grown (still_alive ∙ sym b.alive) (m.ended.1 ∙ k.trace.1 ∙ same_under)

      pub went_readied : (honest p.disk → CanRecord honest moment seen past p) → HasSpare (after old.table now (deed_of old.table ask)) s
          → length r.trace.steps.items + slots planned.made.step.told ≤ vec_capacity r.trace.steps → vec_capacity q.trace.steps ≤ vec_capacity p.trace.steps
          → IsReadied honest moment seen past (record { alloc = old.alloc; recorder = p; table = t; spare = s })
      went_readied can spare two more =
          let desk : Desk D = record { alloc = old.alloc; recorder = p; table = t; spare = s } in
          let more' : vec_capacity r.trace.steps ≤ vec_capacity p.trace.steps = subst (λ (x : Trace). vec_capacity x.steps ≤ vec_capacity p.trace.steps) k.trace.0 more in
          let two' : length old.recorder.trace.steps.items + slots (told_of old.table now (deed_of old.table ask)) ≤ vec_capacity r.trace.steps =
          subst (λ (l : List Step). length l + slots (told_of old.table now (deed_of old.table ask)) ≤ vec_capacity r.trace.steps) b.room
          (subst (λ (o : Option Told). length r.trace.steps.items + slots o ≤ vec_capacity r.trace.steps) told_is two) in
          readied_alive honest moment seen past desk still_alive can (record {
            spare = subst (λ (u : DeskTable). HasSpare u s) (sym m.applied) spare;
            slot = subst (λ (u : DeskTable). HasSlotOf u.job (length p.trace.steps.items) (vec_capacity p.trace.steps)) (sym m.applied)
                (slot_after old.table now (deed_of old.table ask) old.recorder.trace.steps.items p.trace.steps.items (stamped planned.made.step (moment p.disk)) (vec_capacity r.trace.steps) (vec_capacity p.trace.steps) grown two' more');
          })

      pub went_works : (url : List ℕ) (opening : DeskTable) (start : ℕ) (given : ℕ → List ℕ) → IsWorking moment seen past url opening start given old → IsLive moment seen past url opening start given p
          → IsWorking moment seen past url opening start given (record { alloc = old.alloc; recorder = p; table = t; spare = s })
      went_works url opening start given is live =
          works_on moment seen past url opening start given old (record { alloc = old.alloc; recorder = p; table = t; spare = s }) planned.made.step (moment p.disk)
          (m.applied ∙ ap (λ (d : Deed). after old.table now d) (sym (ap (λ (s : Step). s.deed) b.plan.step))) grown still_alive is live

      pub went_lives_on : p.dead ≢ None → ⊥
      went_lives_on dead = dead still_alive
