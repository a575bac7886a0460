-- The laws on deeds, each from what is owed of each deed.
use Rattle.std.proofs.Common.{◌≡◌, ◌≢◌, ◌⊎◌, inl, inr, ℕ, suc, ◌+◌, ◌<◌, ◌≤◌, max, Bool, true, false, List, [], ◌∷◌, ◌++◌, length, Option, Some, None, nat_eq, Contains, refl, sym, ◌∙◌, ap, subst, arith, append_assoc, append-nil}
use Rattle.std.proofs.Math.Nat.{le-max_right}
use Rattle.sha2.proofs.Facts256.{length-sha256}
use Rattle.dav_text.specs.Path.{PathParts}
use Rattle.dav_store.specs.Body.{id_of}
use Rattle.dav_store.specs.declared.body_id.BodyId.{BodyId}
use Rattle.dav_index.specs.Items.{Every}
use Rattle.dav_index.specs.Tables.{queued_at}
use Rattle.dav_index.specs.Bounds.{bodies_of}
use Rattle.dav_index.specs.Records.{IsRecord}
use Rattle.dav_index.specs.declared.lost.LostItem.{LostItem}
use Rattle.dav_index.specs.declared.record.Record.{Record}
use Rattle.dav_deeds.specs.declared.answer.Flight.{Flight}
use Rattle.dav_deeds.specs.declared.answer.Told.{Told}
use Rattle.dav_deeds.specs.declared.answer.Told.TheVariants.{Took}
use Rattle.dav_deeds.specs.declared.ask.Ask.{Ask}
use Rattle.dav_deeds.specs.declared.ask.Ask.TheVariants as asks
use Rattle.dav_deeds.specs.declared.deed.Deed.{Deed}
use Rattle.dav_deeds.specs.declared.deed.Deed.TheVariants.{Store, Forget, Take, Settle, Stop}
use Rattle.dav_deeds.specs.declared.deed.Step.{Step}
use Rattle.dav_deeds.specs.declared.fault.DeskFault.{DeskFault}
use Rattle.dav_deeds.specs.declared.spare.Spare.{Spare}
use Rattle.dav_deeds.specs.Answers.{Kind, Tells, Gives, Idles, Ends, kind_told, job_by, wanted}
use Rattle.dav_deeds.specs.DeskTable.{DeskTable}
use Rattle.dav_deeds.specs.Effects.{Effect, effect_of, effect_unless, after, record_of, released_of, mark_of, told_of, taken, changed, is_flying}
use Rattle.dav_deeds.specs.Fate.{Story, IsLostAs, IsOfTable, IsTaken}
use Rattle.dav_deeds.specs.Legal.{IsAsk, IsDeed, IsBodyUnless, IsOfShell, body_unless, bytes_in, deed_of, new_body, table_after, Legal}
use Rattle.dav_deeds.specs.Made.{AreRecords}
use Rattle.dav_deeds.specs.Refusals.{store_refusal, refusal_of}
use Rattle.dav_deeds.specs.Sound.{IsSound}
use Rattle.dav_deeds.specs.Spare.{HasSpare, IsSaved, kept_spare, is_flight, job_ended, deed_ends, ends_job}
use Rattle.dav_deeds.proofs.Fits.{Fits, StepFits}
use Rattle.dav_deeds.proofs.Flying.{every_at}
use Rattle.dav_deeds.proofs.Released.{total, apart}
use Rattle.dav_deeds.proofs.Rows.{IsRow, IsGiven, IsIdle, MayGo}
use Rattle.dav_deeds.proofs.StoreRow.{store_row}
use Rattle.dav_deeds.proofs.ForgetRow.{forget_row}
use Rattle.dav_deeds.proofs.TakeRow.{take_row}
use Rattle.dav_deeds.proofs.SettleRow.{settle_row}
use Rattle.dav_deeds.proofs.StopRow.{stop_row}
use Rattle.dav_deeds.proofs.Taking.{IsTakenNow, taken_of, table_push}

-- what is owed of each deed
pub row : (t : DeskTable) (now : ℕ) (deed : Deed) → IsRow t now deed (effect_of t now deed)
row t now (Store path len body) = store_row t now path len body (refusal_of t (Store path len body)) refl
row t now (Forget path locks below) = forget_row t now path locks below (refusal_of t (Forget path locks below)) refl
row t now Take = take_row t now (taken t now) refl
row t now (Settle number done) = settle_row t now number done (refusal_of t (Settle number done)) refl
row t now Stop = stop_row t now

-- the deed that an ask is
body_by : (r : Option DeskFault) (file : ℕ) (bytes : List ℕ) → IsBodyUnless r file (length bytes) (body_unless r (id_of file bytes))
body_by None file bytes = (refl, refl, length-sha256 bytes)
body_by (Some fault) file bytes = tt

pub ask_is_deed : (t : DeskTable) (ask : Ask) → IsAsk ask → IsDeed t (deed_of t ask)
ask_is_deed t (asks.Store path bytes) is = (is, body_by (store_refusal t.index path (length bytes)) t.index.next_file bytes)
ask_is_deed t (asks.Forget path locks below) is = is
ask_is_deed t asks.Take is = tt
ask_is_deed t (asks.Settle job done) is = is
ask_is_deed t asks.Stop is = tt

pub same_end : (t : DeskTable) (ask : Ask) → deed_ends (deed_of t ask) ≡ job_ended ask
same_end t (asks.Store path bytes) = refl
same_end t (asks.Forget path locks below) = refl
same_end t asks.Take = refl
same_end t (asks.Settle job done) = refl
same_end t asks.Stop = refl

-- an ask of a shell takes no job and ends none
pub shell_takes : (t : DeskTable) (ask : Ask) → IsOfShell ask → deed_of t ask ≡ Take → ⊥
shell_takes t (asks.Store path bytes) of is = cc is
shell_takes t (asks.Forget path locks below) of is = cc is
shell_takes t asks.Take of is = of
shell_takes t (asks.Settle job done) of is = of
shell_takes t asks.Stop of is = cc is

pub shell_ends : (ask : Ask) → IsOfShell ask → job_ended ask ≡ None
shell_ends (asks.Store path bytes) of = refl
shell_ends (asks.Forget path locks below) of = refl
shell_ends asks.Take of = absurd of
shell_ends (asks.Settle job done) of = absurd of
shell_ends asks.Stop of = refl

-- the new body of a deed is made of the bytes of the ask
pub body_made : (t : DeskTable) (ask : Ask) (id : BodyId) → new_body (deed_of t ask) ≡ Some id → id ≡ id_of t.index.next_file (bytes_in ask)
body_made t (asks.Store path bytes) id some = by (store_refusal t.index path (length bytes)) some
  where
    by : (r : Option DeskFault) → body_unless r (id_of t.index.next_file bytes) ≡ Some id → id ≡ id_of t.index.next_file bytes
    by None is = let same : id_of t.index.next_file bytes ≡ id = cc is in sym same
    by (Some fault) is = cc is
body_made t (asks.Forget path locks below) id some = cc some
body_made t asks.Take id some = cc some
body_made t (asks.Settle job done) id some = cc some
body_made t asks.Stop id some = cc some

-- and its file is below the next one afterwards
closed_next : (t : DeskTable) (now : ℕ) (path : PathParts) (bytes : List ℕ) → store_refusal t.index path (length bytes) ≡ None → t.index.next_file < (after t now (deed_of t (asks.Store path bytes))).index.next_file
closed_next t now path bytes is =
    subst (λ (o : Option DeskFault). t.index.next_file < (changed t (effect_unless (store_refusal t.index path (length bytes)) t now (Store path (length bytes) (body_unless o id)))).index.next_file) (sym is)
    (subst (λ (o : Option DeskFault). t.index.next_file < (changed t (effect_unless o t now (Store path (length bytes) (Some id)))).index.next_file) (sym is)
    (let above : t.index.next_file + 1 ≤ max t.index.next_file (t.index.next_file + 1) = le-max_right t.index.next_file (t.index.next_file + 1) in omega (arith, above)))
  where
    id : BodyId
    id = id_of t.index.next_file bytes

pub body_next : (t : DeskTable) (now : ℕ) (ask : Ask) (id : BodyId) → new_body (deed_of t ask) ≡ Some id → t.index.next_file < (after t now (deed_of t ask)).index.next_file
body_next t now (asks.Store path bytes) id some = by (store_refusal t.index path (length bytes)) refl some
  where
    by : (r : Option DeskFault) → store_refusal t.index path (length bytes) ≡ r → body_unless r (id_of t.index.next_file bytes) ≡ Some id → t.index.next_file < (after t now (deed_of t (asks.Store path bytes))).index.next_file
    by None free is = closed_next t now path bytes free
    by (Some fault) free is = cc is
body_next t now (asks.Forget path locks below) id some = cc some
body_next t now asks.Take id some = cc some
body_next t now (asks.Settle job done) id some = cc some
body_next t now asks.Stop id some = cc some

module _ (t : DeskTable) (s : IsSound t) where
  -- each deed keeps a table sound
  pub after_sound : (now : ℕ) (deed : Deed) → IsDeed t deed → IsSound (after t now deed)
  after_sound now deed is = (row t now deed).sound s is

  -- what is put on record is a record
  pub is_record : (now : ℕ) (deed : Deed) (r : Record) → IsDeed t deed → record_of t now deed ≡ Some r → IsRecord r
  is_record now deed r is at = subst AreRecords at ((row t now deed).recorded s is)

  -- a file that is released is that of no body afterwards, and is one of bodies
  pub spared : (now : ℕ) (deed : Deed) → IsDeed t deed → (file : ℕ) → Contains (released_of t now deed) file
      → ((id : BodyId) → Contains (bodies_of (after t now deed).index) id → id.file ≢ file) × (is_flying (after t now deed).job file ≡ false)
  spared now deed is file there =
      let none : (total file (after t now deed).index ≡ 0) × (is_flying (after t now deed).job file ≡ false) = (row t now deed).spares s is file there in
      ((λ id c. every_at (λ (b : BodyId). b.file ≢ file) (bodies_of (after t now deed).index) id (apart file (bodies_of (after t now deed).index) none.0) c), none.1)

  pub released_begin : (now : ℕ) (deed : Deed) (file : ℕ) → Contains (released_of t now deed) file → 2 ≤ file
  released_begin now deed file there = (row t now deed).begins s file there

  -- and so is that of a new body
  pub new_begins : (deed : Deed) (id : BodyId) → IsDeed t deed → new_body deed ≡ Some id → 2 ≤ id.file
  new_begins deed id is some =
      let at : id.file ≡ t.index.next_file = ((row t 0 deed).new is id some).0 in
      omega (arith, at, s.index.numbers_begin, s.index.room_for_lost)

-- a new body is in the next file, and there is a record of it
pub new_file : (t : DeskTable) (deed : Deed) (id : BodyId) → IsDeed t deed → new_body deed ≡ Some id → id.file ≡ t.index.next_file
new_file t deed id is some = ((row t 0 deed).new is id some).0

pub new_recorded : (t : DeskTable) (now : ℕ) (deed : Deed) (id : BodyId) → IsDeed t deed → new_body deed ≡ Some id → record_of t now deed ≢ None
new_recorded t now deed id is some = ((row t now deed).new is id some).1

pub steps_sound : (t : DeskTable) (steps : List Step) → IsSound t → Legal t steps → IsSound (table_after t steps)
steps_sound t [] s legal = s
steps_sound t (x ∷ steps) s legal = steps_sound (after t x.now x.deed) steps (after_sound t s x.now x.deed legal.0.deed) legal.1

every_itself : {X : Type 0} (xs ys : List X) → ((x : X) → Contains ys x → Contains xs x) → Every (Contains xs) ys
every_itself xs [] h = tt
every_itself xs (y ∷ ys) h = (h y (0, omega arith, refl), every_itself xs ys (λ x c. h x (suc c.0, omega (arith, c.1), c.2)))

every_weakly : {X : Type 0} (P Q : X → Type 0) (xs : List X) → ((x : X) → P x → Q x) → Every P xs → Every Q xs
every_weakly P Q [] f h = h
every_weakly P Q (x ∷ xs) f h = (f x h.0, every_weakly P Q xs f h.1)

-- no body is named afterwards but those before and the new one
pub named : (t : DeskTable) → IsSound t → (now : ℕ) (deed : Deed) → IsDeed t deed → (id : BodyId) → Contains (bodies_of (after t now deed).index) id → Contains (bodies_of t.index) id ⊎ (new_body deed ≡ Some id)
named t s now deed is id there =
    let Q : BodyId → Type 0 = λ (b : BodyId). Contains (bodies_of t.index) b ⊎ (new_body deed ≡ Some b) in
    every_at Q (bodies_of (after t now deed).index) id
    ((row t now deed).stays s is Q (every_weakly (Contains (bodies_of t.index)) Q (bodies_of t.index) (λ b c. inl c) (every_itself (bodies_of t.index) (bodies_of t.index) (λ x c. c))) (λ b new. inr new)) there

-- the body whose bytes are told is one of the table
pub told_named : (t : DeskTable) (now : ℕ) (deed : Deed) (body : BodyId) → wanted (told_of t now deed) ≡ Some body → Contains (bodies_of t.index) body
told_named t now deed body is = ((row t now deed).named body is).0

-- and then nothing is put on record
pub told_quiet : (t : DeskTable) (now : ℕ) (deed : Deed) (body : BodyId) → wanted (told_of t now deed) ≡ Some body → record_of t now deed ≡ None
told_quiet t now deed body is = ((row t now deed).named body is).1

-- what finds nothing to take changes nothing
pub idle_is : (t : DeskTable) (now : ℕ) (deed : Deed) → kind_told (told_of t now deed) ≡ Idles → IsIdle t deed (effect_of t now deed)
idle_is t now deed is = (row t now deed).idle is

-- the job in flight after a deed
pub job_after : (t : DeskTable) (now : ℕ) (deed : Deed) → (after t now deed).job ≡ job_by t.job (kind_told (told_of t now deed))
job_after t now deed = (row t now deed).job

pub given_is : (t : DeskTable) (now : ℕ) (deed : Deed) (flight : Flight) → kind_told (told_of t now deed) ≡ Gives flight → IsGiven t now deed (told_of t now deed) flight
given_is t now deed flight is = (row t now deed).given flight is

-- an ask is the end of the job in flight exactly where that is told
pub end_told : (t : DeskTable) (now : ℕ) (ask : Ask) → ends_job t.job ask ≡ true → kind_told (told_of t now (deed_of t ask)) ≡ Ends
end_told t now ask is = (row t now (deed_of t ask)).ended (subst (λ (n : Option ℕ). is_flight t.job n ≡ true) (sym (same_end t ask)) is)

pub told_ends : (t : DeskTable) (now : ℕ) (ask : Ask) → kind_told (told_of t now (deed_of t ask)) ≡ Ends → ends_job t.job ask ≡ true
told_ends t now ask is = subst (λ (n : Option ℕ). is_flight t.job n ≡ true) (same_end t ask) ((row t now (deed_of t ask)).ends is)

-- only where a job is in flight an ask is its end
pub end_flies : (job : Option Flight) (ask : Ask) → ends_job job ask ≡ true → (flight : Flight) × (job ≡ Some flight)
end_flies job ask ends = by job (job_ended ask) ends
  where
    by : (j : Option Flight) (n : Option ℕ) → is_flight j n ≡ true → (flight : Flight) × (j ≡ Some flight)
    by j None is = cc is
    by None (Some number) is = cc is
    by (Some flight) (Some number) is = (flight, refl)

-- what a shell asks leaves the job in flight as it is
pub shell_flies : (t : DeskTable) (now : ℕ) (ask : Ask) → IsOfShell ask → (after t now (deed_of t ask)).job ≡ t.job
shell_flies t now ask of = job_after t now (deed_of t ask) ∙ by (kind_told (told_of t now (deed_of t ask))) refl
  where
    by : (k : Kind) → kind_told (told_of t now (deed_of t ask)) ≡ k → job_by t.job k ≡ t.job
    by Tells is = refl
    by Idles is = refl
    by (Gives flight) is = absurd (shell_takes t ask of (given_is t now (deed_of t ask) flight is).deed_is)
    by Ends is = absurd (none (subst (λ (n : Option ℕ). is_flight t.job n ≡ true) (shell_ends ask of) (told_ends t now ask is)))
      where
        none : is_flight t.job None ≡ true → ⊥
        none h = cc h

-- after a deed the memory is there that the end of the job in flight needs
pub spare_after : (t : DeskTable) (now : ℕ) (deed : Deed) (old saved : Option Spare) → HasSpare t old → IsSaved t.index (told_of t now deed) saved → HasSpare (after t now deed) (kept_spare saved old)
spare_after t now deed old saved is taken = (row t now deed).holds old saved is taken

-- a job that is in flight after a deed was so before, or was taken by it
pub job_step : (t : DeskTable) (now : ℕ) (deed : Deed) (flight : Flight) → (after t now deed).job ≡ Some flight → (t.job ≡ Some flight) ⊎ IsTakenNow t deed (told_of t now deed) flight
job_step t now deed flight is = by (kind_told (told_of t now deed)) refl (sym (job_after t now deed) ∙ is)
  where
    given : (f : Flight) → kind_told (told_of t now deed) ≡ Gives f → IsTakenNow t deed (told_of t now deed) f
    given f kind = let g = given_is t now deed f kind in record { deed_is = g.deed_is; told_is = g.told_is; of_table = (taken_of t now f g.taken_is).1 }

    by : (k : Kind) → kind_told (told_of t now deed) ≡ k → job_by t.job k ≡ Some flight → (t.job ≡ Some flight) ⊎ IsTakenNow t deed (told_of t now deed) flight
    by Tells kind job = inl job
    by Idles kind job = inl job
    by (Gives f) kind job = let same : f ≡ flight = cc job in inr (subst (IsTakenNow t deed (told_of t now deed)) same (given f kind))
    by Ends kind job = cc job

pub find_take : (opening : DeskTable) (flight : Flight) (front rest : List Step) (t : DeskTable) → table_after opening front ≡ t → Legal t rest → (t.job ≡ Some flight → IsTaken opening front flight) → (table_after t rest).job ≡ Some flight → IsTaken opening (front ++ rest) flight
find_take opening flight front [] t at legal so_far is = subst (λ (l : List Step). IsTaken opening l flight) (sym (append-nil front)) (so_far is)
find_take opening flight front (s ∷ rest) t at legal so_far is =
    subst (λ (l : List Step). IsTaken opening l flight) (append_assoc front (s ∷ []) rest)
    (find_take opening flight (front ++ s ∷ []) rest (after t s.now s.deed) (table_push opening front s ∙ ap (λ (t : DeskTable). after t s.now s.deed) at) legal.1 (λ here. by (job_step t s.now s.deed flight here)) is)
  where
    more : IsTaken opening front flight → IsTaken opening (front ++ s ∷ []) flight
    more k = record {
      before = k.before;
      take = k.take;
      since = k.since ++ s ∷ [];
      split = ap (λ (l : List Step). l ++ s ∷ []) k.split ∙ append_assoc k.before (k.take ∷ k.since) (s ∷ []);
      deed_is = k.deed_is;
      told_is = k.told_is;
      of_table = k.of_table;
    }

    by : (t.job ≡ Some flight) ⊎ IsTakenNow t s.deed (told_of t s.now s.deed) flight → IsTaken opening (front ++ s ∷ []) flight
    by (inl h) = more (so_far h)
    by (inr h) = record {
      before = front;
      take = s;
      since = [];
      split = refl;
      deed_is = h.deed_is;
      told_is = legal.0.told ∙ h.told_is;
      of_table = subst (λ (u : DeskTable). IsOfTable flight u.index) (sym at) h.of_table;
    }

-- what was lost stays so
pub lost_step : (t : DeskTable) (now : ℕ) (deed : Deed) (x : LostItem) → Contains t.index.lost x → Contains (after t now deed).index.lost x
lost_step t now deed x there = (row t now deed).lost x there

-- the story of a path goes with the table
module _ (Went : ℕ → BodyId → Type 0) where
  pub step_fits : (path : PathParts) (t : DeskTable) (st : Story) (now : ℕ) (deed : Deed) → st.job ≡ t.job → MayGo t deed path Went st.count
      → Fits Went (IsLostAs t.index path) (queued_at path t.index.entries) st.last st.fate
      → StepFits Went path st deed (mark_of t now deed) (told_of t now deed) (after t now deed)
  step_fits path t st now deed same good fit =
      subst (λ (job : Option Flight). StepFits Went path (record { last = st.last; fate = st.fate; job = job; count = st.count }) deed (mark_of t now deed) (told_of t now deed) (after t now deed)) (sym same)
      ((row t now deed).fits Went path st.last st.fate st.count fit good)
