-- Why a run ended by its disk or by its cache.
use Rattle.std.proofs.Common.{◌≡◌, ◌≢◌, ◌⊎◌, inl, inr, ℕ, ◌<◌, ◌≤◌, List, [], ◌∷◌, ◌++◌, length, take, fold, find, Bool, true, false, not, ◌&&◌, ◌||◌, cond, if◌then◌else◌, nat_le, nat_lt, Option, Some, None, Ok, Err, refl, sym, ◌∙◌, ap, subst}
use Rattle.dav_machine.specs.Log.{event, any_failed, Rose}
use Rattle.dav_machine.specs.Devices.{one_device, answers_before}
use Rattle.dav_machine.specs.Machine.{Run, run_with, prepend, give}
use Rattle.dav_machine.proofs.Logs.{then_rose}
use Rattle.dav_edge.specs.Device.{DeviceLog, given, is_failure}
use Rattle.dav_uri.specs.Target.{BaseParts}
use Rattle.dav_text.specs.Path.{PathParts}
use Rattle.dav_text.specs.declared.which.Which.{Which}
use Rattle.dav_text.specs.declared.which.Which.TheVariants as limits
use Rattle.dav_store.specs.Body.{id_of}
use Rattle.dav_store.specs.declared.body_id.BodyId.{BodyId}
use Rattle.dav_index.specs.Bounds.{is_queued}
use Rattle.dav_index.specs.Item.{Item}
use Rattle.dav_index.specs.Items.{Every, has_path, goes_with, PathsDiffer}
use Rattle.dav_index.specs.Queries.{is_older, older, oldest_clean}
use Rattle.dav_deeds.specs.DeskTable.{DeskTable}
use Rattle.dav_deeds.specs.Effects.{mark_of, effect_unless, changed}
use Rattle.dav_deeds.specs.Legal.{deed_of, body_unless}
use Rattle.dav_deeds.specs.Made.{answer_by}
use Rattle.dav_deeds.specs.Refusals.{lacks_known, crowding, full_or_crowded, lacks_place, lacks_bytes, store_refusal, queued_with, queued_fault}
use Rattle.dav_deeds.specs.Sound.{IsSound}
use Rattle.dav_deeds.specs.declared.answer.Answer.TheVariants as answers
use Rattle.dav_deeds.specs.declared.answer.Told.{Told as Said}
use Rattle.dav_deeds.specs.declared.ask.Ask.TheVariants.{Store, Forget}
use Rattle.dav_deeds.specs.declared.deed.Deed.{Deed}
use Rattle.dav_deeds.specs.declared.deed.Deed.TheVariants as deeds
use Rattle.dav_deeds.specs.declared.deed.Step.{Step}
use Rattle.dav_deeds.specs.declared.fault.DeskFault.{DeskFault}
use Rattle.dav_deeds.specs.declared.fault.DeskFault.TheVariants as faults
use Rattle.dav_deeds.proofs.Paths.{not_back}
use Rattle.dav_recorder.specs.Opening.{IsFetchFault, IsStartFault, IsIndexOf}
use Rattle.dav_desk.specs.Ended.{HasCause, HasDied}
use Rattle.dav_desk.specs.Ends.{IsEnd}
use Rattle.dav_desk.specs.Verdict.{Verdict, Went, Stopped, Starved, with_bytes, result_by, table_by}
use Rattle.dav_desk.specs.declared.desk.Desk.{Desk}
use Rattle.dav_upload.specs.Asking.{Met, Asked, Answered, table_met, answer_met}
use Rattle.dav_upload.specs.Desks.{DiskView, WereAsked}
use Rattle.dav_upload.proofs.Asks.{an_answer, a_fault}
use Rattle.dav_run.specs.declared.ended.Status.{Status}
use Rattle.dav_run.specs.declared.ended.Status.TheVariants as status
use Rattle.dav_run.specs.declared.stop.Stop.{Stop}
use Rattle.dav_run.specs.declared.stop.Stop.TheVariants as stops
use Rattle.dav_run.specs.Causes.{cause_of}
use Rattle.dav_run.specs.Devices.{Answers, all}
use Rattle.dav_run.specs.Function.{none_left}
use Rattle.dav_run.specs.Headline.{IsDamage, IsCacheCause, IsGoing, HasIndex}
use Rattle.dav_run.specs.Kept.{Told, asked_by}
use Rattle.dav_run.specs.Ran.{Started, Unstarted, uncalled, refused as start_refused, NotStarted, Ran}
use Rattle.dav_run.specs.Run.{Ending, Opened, no_desk, Runs, refused as words_refused_, unread, unopened, on}
use Rattle.dav_run.specs.Shell.{State, fresh_state, counted, faulted, starved, with_table, Lined, lined, closed_line, limit_line, memory_line, syntax_line, store_ask, forget_ask, OnCrowded, stored, StoresOr, IsStillCrowded, tells as still_tells, memory as still_memory, StillCrowded, unforgotten, forgotten, makes_room, Lines, nothing, syntax, puts, memory}
use Rattle.dav_run.specs.Words.{IsBase}
use Rattle.dav_run.proofs.Closing.{StoreStep, refuses, stores, store_step}
use Rattle.dav_run.proofs.DrainAsks.{HasStopped, stopped_first, stopped_later, stopped_front, stopped_behind}
use Rattle.dav_run.proofs.Faulting.{line_leads}
use Rattle.dav_run.proofs.Finishing.{EndRun, Ended, IsCause, told_words, told_memory, told_fault}
use Rattle.dav_run.proofs.Keeping.{last_disk, last_cache, IsOver, whole_made, whole_outcome, whole_grew, whole_rests, whole_traces, whole_asks, quiet_whole, quiet_does, whole_quiet}
use Rattle.dav_run.proofs.OneAsk.{AskRun, asked_once}
use Rattle.dav_run.proofs.OneRun.{base_unique, opened_with, not_opened}
use Rattle.dav_run.proofs.Telling.{Halts}
use Rattle.dav_run.proofs.Tracing.{AllAsks, AllStopped, dead_stays, honest_before, went, stopped, starved as starves, Traces, asks_sound, asks_front, asks_behind}

-- one of the asks was stopped by the fault, from the first one on
abbrev AnyStopped : DeskFault → List Asked → Type 0
AnyStopped fault [] = ⊥
AnyStopped fault (e ∷ es) = (e.answer.verdict ≡ Stopped fault) ⊎ AnyStopped fault es

any_at : (fault : DeskFault) (before : List Asked) (e : Asked) (since : List Asked) → e.answer.verdict ≡ Stopped fault → AnyStopped fault (before ++ e ∷ since)
any_at fault [] e since is = inl is
any_at fault (b ∷ before) e since is = inr (any_at fault before e since is)

any_stopped : (fault : DeskFault) (es : List Asked) → HasStopped fault es → AnyStopped fault es
any_stopped fault es has = subst (AnyStopped fault) (sym has.split) (any_at fault has.before has.stopped has.since has.verdict)

verdict_fault : (v : Verdict) (one other : DeskFault) → v ≡ Stopped one → v ≡ Stopped other → one ≡ other
verdict_fault v one other is same = let both : Stopped one ≡ Stopped other = sym is ∙ same in cc

stopped_same : (fault other : DeskFault) (es : List Asked) → AllStopped other es → AnyStopped fault es → fault ≡ other
stopped_same fault other [] all_stopped any = absurd any
stopped_same fault other (e ∷ es) all_stopped (inl is) = verdict_fault e.answer.verdict fault other is all_stopped.0
stopped_same fault other (e ∷ es) all_stopped (inr later) = stopped_same fault other es all_stopped.1 later

-- the causes of a fault by which a desk died
record Died {D : Type 0} (view : DiskView D) (x z : Desk D) (fault : DeskFault) : Type 0 where
  disk : fault ≡ faults.Disk → Rose (view.faults x.recorder.disk) (view.faults z.recorder.disk)
  damage : fault ≢ faults.Disk → IsDamage (view.honest z.recorder.disk) (view.seen z.recorder.disk) (view.faults x.recorder.disk) (view.faults z.recorder.disk) fault

-- the file reads the same later, where the disk is honest
fetch_later : (honest : Type 0) (id : BodyId) (file now_file : List ℕ) (before now : ℕ) (fault : DeskFault) → (honest → now_file ≡ file) → IsFetchFault honest id file before now fault → IsFetchFault honest id now_file before now fault
fetch_later honest id file now_file before now faults.Disk same cause = cause
fetch_later honest id file now_file before now (faults.NotACache at) same cause = cause
fetch_later honest id file now_file before now (faults.Damaged number kept found) same cause = (
  cause.0,
  cause.1,
  cause.2,
  record {
    bytes = cause.3.bytes;
    no_longer = cause.3.no_longer;
    is_sum = cause.3.is_sum;
    first = λ h. cause.3.first h ∙ ap (λ (l : List ℕ). take id.len l) (sym (same h));
  },
)
fetch_later honest id file now_file before now (faults.OtherServer kept asked) same cause = cause
fetch_later honest id file now_file before now (faults.Queued path) same cause = cause
fetch_later honest id file now_file before now (faults.NoSuchJob number) same cause = cause
fetch_later honest id file now_file before now (faults.Crowded oldest) same cause = cause
fetch_later honest id file now_file before now (faults.Limit which) same cause = cause
fetch_later honest id file now_file before now faults.Memory same cause = cause

fetch_wider : (honest : Type 0) (id : BodyId) (file : List ℕ) (early before now : ℕ) (fault : DeskFault) → early ≤ before → IsFetchFault honest id file before now fault → IsFetchFault honest id file early now fault
fetch_wider honest id file early before now faults.Disk less cause = then_rose early before now less cause
fetch_wider honest id file early before now (faults.NotACache at) less cause = cause
fetch_wider honest id file early before now (faults.Damaged number kept found) less cause = cause
fetch_wider honest id file early before now (faults.OtherServer kept asked) less cause = cause
fetch_wider honest id file early before now (faults.Queued path) less cause = cause
fetch_wider honest id file early before now (faults.NoSuchJob number) less cause = cause
fetch_wider honest id file early before now (faults.Crowded oldest) less cause = cause
fetch_wider honest id file early before now (faults.Limit which) less cause = cause
fetch_wider honest id file early before now faults.Memory less cause = cause

module _ {D : Type 0} (view : DiskView D) where
  died_wider : (x y z : Desk D) (fault : DeskFault) → view.faults x.recorder.disk ≤ view.faults y.recorder.disk → Died view y z fault → Died view x z fault
  died_wider x y z fault less one = record {
    disk = λ is. then_rose (view.faults x.recorder.disk) (view.faults y.recorder.disk) (view.faults z.recorder.disk) less (one.disk is);
    damage = λ other.
        let d = one.damage other in
        record { body = d.body; cause = fetch_wider (view.honest z.recorder.disk) d.body (view.seen z.recorder.disk d.body.file) (view.faults x.recorder.disk) (view.faults y.recorder.disk) (view.faults z.recorder.disk) fault less d.cause };
  }

  -- a desk that died of it has its cause
  died_of : (e : Asked) (x y : Desk D) (fault : DeskFault) → HasDied view.honest view.moment view.seen view.faults e.asked.who e.asked.now e.asked.ask fault x y → Died view x y fault
  died_of e x y fault one = elim one.cause [
    | inl failed ↦ record { disk = λ is. failed.1; damage = λ other. absurd (other failed.0) }
    | inr unread_ ↦ record {
      disk = λ is. subst (IsFetchFault (view.honest y.recorder.disk) unread_.body (view.seen x.recorder.disk unread_.body.file) (view.faults x.recorder.disk) (view.faults y.recorder.disk)) is unread_.cause;
      damage = λ other. record {
        body = unread_.body;
        cause = fetch_later (view.honest y.recorder.disk) unread_.body (view.seen x.recorder.disk unread_.body.file) (view.seen y.recorder.disk unread_.body.file) (view.faults x.recorder.disk) (view.faults y.recorder.disk) fault
            (λ h. unread_.files h unread_.body.file) unread_.cause;
      };
    }
  ]

  died_next : (fault : DeskFault) (e : Asked) (es : List Asked) (x z : Desk D) (were : WereAsked view (e ∷ es) x z) → x.recorder.dead ≡ None → AnyStopped fault (e ∷ es)
      → (were.0.recorder.dead ≡ None → AnyStopped fault es → Died view were.0 z fault) → Died view x z fault
  died_next fault e es x z were alive any rest = by e.answer.verdict refl were.1.cause any
    where
      mid : Desk D
      mid = were.0

      other_verdict : (v : Verdict) → e.answer.verdict ≡ v → (v ≡ Stopped fault → ⊥) → (e.answer.verdict ≡ Stopped fault) ⊎ AnyStopped fault es → AnyStopped fault es
      other_verdict v is other (inl same) = absurd (other (sym is ∙ same))
      other_verdict v is other (inr later) = later

      by : (v : Verdict) → e.answer.verdict ≡ v → HasCause view.honest view.moment view.seen view.faults e.asked.who e.asked.now e.asked.ask v x mid → (e.answer.verdict ≡ Stopped fault) ⊎ AnyStopped fault es → Died view x z fault
      by Went is cause a = died_wider x mid z fault were.1.no_fewer (rest cause.0.dead (other_verdict Went is (λ h. cc) a))
      by (Stopped other) is (inl was) a = let x_ : None ≡ Some other = sym alive ∙ was.dead in absurd (cc)
      by (Stopped other) is (inr one) a =
          let stays = dead_stays view es mid z other one.dead were.2 in
          let same : fault ≡ other = stopped_same fault other (e ∷ es) (is, stays.1) a in
          subst (λ (d : Desk D). Died view x d fault) (sym stays.0) (died_of e x mid fault (subst (λ (f : DeskFault). HasDied view.honest view.moment view.seen view.faults e.asked.who e.asked.now e.asked.ask f x mid) (sym same) one))
      by Starved is cause a = died_wider x mid z fault were.1.no_fewer (rest cause.lives.dead (other_verdict Starved is (λ h. cc) a))

  died : (fault : DeskFault) (es : List Asked) (x z : Desk D) → x.recorder.dead ≡ None → WereAsked view es x z → AnyStopped fault es → Died view x z fault
  died fault [] x z alive same any = absurd any
  died fault (e ∷ es) x z alive were any = died_next fault e es x z were alive any (λ alive_now later. died fault es were.0 z alive_now were.2 later)

-- the path that is forgotten for another is not queued

-- the item is one of these
abbrev Among : Item → List Item → Type 0
Among x [] = ⊥
Among x (y ∷ ys) = (x ≡ y) ⊎ Among x ys

among_every : (P : Item → Type 0) (x : Item) (items : List Item) → Every P items → Among x items → P x
among_every P x [] each among = absurd among
among_every P x (y ∷ ys) each (inl is) = subst P (sym is) each.0
among_every P x (y ∷ ys) each (inr later) = among_every P x ys each.1 later

abbrev IsClean : List Item → Item → Type 0
IsClean whole x = (is_queued x ≡ false) × Among x whole

older_clean : (best : Option Item) (x : Item) → is_older best x ≡ true → is_queued x ≡ false
older_clean best x is = by (is_queued x) refl
  where
    turned : (o : Option Item) → is_queued x ≡ true → is_older o x ≡ false
    turned None h = ap not h
    turned (Some old) h = ap (λ (q : Bool). not q && nat_lt x.entry.age old.entry.age) h

    by : (b : Bool) → is_queued x ≡ b → is_queued x ≡ false
    by false same = same
    by true same = let x_ : false ≡ true = sym (turned best same) ∙ is in absurd (cc)

fold_clean : (whole : List Item) (best : Option Item) (items : List Item) (found : Item) → ((x : Item) → best ≡ Some x → IsClean whole x) → ((x : Item) → Among x items → Among x whole) → fold older best items ≡ Some found → IsClean whole found
fold_clean whole best [] found first inside is = first found is
fold_clean whole best (x ∷ xs) found first inside is = fold_clean whole (older best x) xs found (by (is_older best x) refl) (λ y among. inside y (inr among)) is
  where
    by : (b : Bool) → is_older best x ≡ b → (y : Item) → (if b then Some x else best) ≡ Some y → IsClean whole y
    by true older_is y h = let same : x ≡ y = cc in subst (IsClean whole) same (older_clean best x older_is, inside x (inl refl))
    by false older_is y h = first y h

oldest_is_clean : (items : List Item) (found : Item) → oldest_clean items ≡ Some found → IsClean items found
oldest_is_clean items found is = fold_clean items None items found (λ x none. let h : no_item ≡ Some x = none in absurd (cc)) (λ x among. among) is
  where
    no_item : Option Item
    no_item = None

-- whether an item stands against forgetting a path alone
abbrev stands_against : PathParts → Item → Bool
stands_against path item = is_queued item && goes_with path false item

off_path : (path : PathParts) (item : Item) → has_path path item ≡ false → stands_against path item ≡ false
off_path path item off = ap (λ (b : Bool). is_queued item && (b || false)) off ∙ never (is_queued item)
  where
    never : (b : Bool) → (b && false) ≡ false
    never true = refl
    never false = refl

off_queue : (path : PathParts) (item : Item) → is_queued item ≡ false → stands_against path item ≡ false
off_queue path item off = ap (λ (b : Bool). b && goes_with path false item) off

find_later : (path : PathParts) (y : Item) (ys : List Item) → stands_against path y ≡ false → find (stands_against path) ys ≡ None → find (stands_against path) (y ∷ ys) ≡ None
find_later path y ys off rest = ap (λ (b : Bool). cond b (Some y) (find (stands_against path) ys)) off ∙ rest

find_none : (path : PathParts) (items : List Item) → Every (λ (item : Item). has_path path item ≡ false) items → find (stands_against path) items ≡ None
find_none path [] each = refl
find_none path (y ∷ ys) each = find_later path y ys (off_path path y each.0) (find_none path ys each.1)

clean_alone : (x : Item) (items : List Item) → PathsDiffer items → is_queued x ≡ false → Among x items → find (stands_against x.path) items ≡ None
clean_alone x [] differ clean among = absurd among
clean_alone x (y ∷ ys) differ clean (inl is) =
    find_later x.path y ys (off_queue x.path y (subst (λ (z : Item). is_queued z ≡ false) is clean))
    (find_none x.path ys (subst (λ (z : Item). Every (λ (later : Item). has_path z.path later ≡ false) ys) (sym is) differ.0))
clean_alone x (y ∷ ys) differ clean (inr later) =
    find_later x.path y ys (off_path x.path y (not_back y.path x.path (among_every (λ (item : Item). has_path y.path item ≡ false) x ys differ.0 later)))
    (clean_alone x ys differ.1 clean later)

oldest_goes : (t : DeskTable) (found : Item) → IsSound t → oldest_clean t.index.entries ≡ Some found → queued_with found.path false t.index.entries ≡ None
oldest_goes t found sound is =
    let clean = oldest_is_clean t.index.entries found is in
    clean_alone found t.index.entries sound.index.in_order.differ clean.0 clean.1

-- why a store is refused
data WhyNot (t : DeskTable) (fault : DeskFault) : Type 0 where
  limit : (which : Which) → fault ≡ faults.Limit which → WhyNot t fault
  crowd : (item : Item) → fault ≡ faults.Crowded item.path → oldest_clean t.index.entries ≡ Some item → WhyNot t fault

full_why : (t : DeskTable) (path : PathParts) (fault : DeskFault) → full_or_crowded t.index.next_file (crowding t.index path) ≡ Some fault → WhyNot t fault
full_why t path fault is = by (lacks_known t.index path) is
  where
    full : (b : Bool) → (if b then Some (faults.Limit limits.Files) else None) ≡ Some fault → WhyNot t fault
    full true h = let same : fault ≡ faults.Limit limits.Files = cc in limit limits.Files same
    full false h = absurd (cc)

    found : (o : Option Item) → oldest_clean t.index.entries ≡ o → full_or_crowded t.index.next_file o ≡ Some fault → WhyNot t fault
    found (Some item) here h = let same : fault ≡ faults.Crowded item.path = cc in crowd item same here
    found None here h = full (nat_le 4294967295 t.index.next_file) h

    by : (b : Bool) → full_or_crowded t.index.next_file (if b then oldest_clean t.index.entries else None) ≡ Some fault → WhyNot t fault
    by true h = found (oldest_clean t.index.entries) refl h
    by false h = full (nat_le 4294967295 t.index.next_file) h

why_not : (t : DeskTable) (path : PathParts) (len : ℕ) (fault : DeskFault) → store_refusal t.index path len ≡ Some fault → WhyNot t fault
why_not t path len fault is = by (nat_lt 8388608 len) (lacks_place t.index path) (lacks_bytes t.index path len) is
  where
    by : (long full many : Bool)
        → (if long then Some (faults.Limit limits.Body) else (if full then Some (faults.Limit limits.Queue) else (if many then Some (faults.Limit limits.Bytes) else full_or_crowded t.index.next_file (crowding t.index path)))) ≡ Some fault → WhyNot t fault
    by true full many h = let same : fault ≡ faults.Limit limits.Body = cc in limit limits.Body same
    by false true many h = let same : fault ≡ faults.Limit limits.Queue = cc in limit limits.Queue same
    by false false true h = let same : fault ≡ faults.Limit limits.Bytes = cc in limit limits.Bytes same
    by false false false h = full_why t path fault h

-- each of the asks that was stopped was stopped by a fault that ends a desk

abbrev EndsWell : Verdict → Type 0
EndsWell Went = Unit {0}
EndsWell (Stopped fault) = IsEnd fault
EndsWell Starved = Unit {0}

abbrev AllEnds : List Asked → Type 0
AllEnds [] = Unit {0}
AllEnds (e ∷ es) = EndsWell e.answer.verdict × AllEnds es

stopped_ends : (fault : DeskFault) (es : List Asked) → IsEnd fault → AllStopped fault es → AllEnds es
stopped_ends fault [] ends all_stopped = tt
stopped_ends fault (e ∷ es) ends all_stopped = (subst EndsWell (sym all_stopped.0) ends, stopped_ends fault es ends all_stopped.1)

traces_ends : (es : List Asked) (t : DeskTable) (steps : List Step) (under : Option Step) → Traces t es steps under → AllEnds es
traces_ends [] t steps under traces = tt
traces_ends (e ∷ es) t steps under (went moment rest is steps_are later) = (subst EndsWell (sym is) tt, traces_ends es (table_by Went t e.asked.now e.asked.ask) rest under later)
traces_ends (e ∷ es) t steps under (stopped fault is ends all_stopped none of) = (subst EndsWell (sym is) ends, stopped_ends fault es ends all_stopped)
traces_ends (e ∷ es) t steps under (starves is later) = (subst EndsWell (sym is) tt, traces_ends es t steps under later)

ends_front : (es fs : List Asked) → AllEnds (es ++ fs) → AllEnds es
ends_front [] fs both = tt
ends_front (e ∷ es) fs both = (both.0, ends_front es fs both.1)

ends_behind : (es fs : List Asked) → AllEnds (es ++ fs) → AllEnds fs
ends_behind [] fs both = both
ends_behind (e ∷ es) fs both = ends_behind es fs both.1

-- a line on the desk that was stopped

abbrev DeskRun : Type 0
DeskRun = Run (List Asked) (List Met) Lined

-- a fault of a store by which a line stops the desk
abbrev IsHalting : DeskFault → Type 0
IsHalting faults.Disk = Unit {0}
IsHalting (faults.NotACache at) = Unit {0}
IsHalting (faults.Damaged file kept found) = Unit {0}
IsHalting (faults.OtherServer kept asked) = Unit {0}
IsHalting (faults.Queued path) = Unit {0}
IsHalting (faults.NoSuchJob number) = Unit {0}
IsHalting (faults.Crowded oldest) = ⊥
IsHalting (faults.Limit which) = ⊥
IsHalting faults.Memory = ⊥

abbrev no_fault : Option DeskFault
no_fault = None

goes_on : (l : Lined) (answers : List Met) (run : DeskRun) (fault : DeskFault) → l.fault ≡ None → give one_device l answers run → run.result.fault ≡ Some fault → ⊥
goes_on l answers run fault none does is = let x_ : no_fault ≡ Some fault = sym none ∙ sym (ap (λ (r : DeskRun). r.result.fault) does) ∙ is in cc

stops_by : (l : Lined) (answers : List Met) (run : DeskRun) (one fault : DeskFault) → l.fault ≡ Some one → give one_device l answers run → run.result.fault ≡ Some fault → one ≡ fault
stops_by l answers run one fault some does is = let x_ : Some one ≡ Some fault = sym some ∙ sym (ap (λ (r : DeskRun). r.result.fault) does) ∙ is in cc

-- what is done where no more paths can be known, where this holds of the table and of the path
abbrev HaltsOn : (DeskTable → PathParts → Type 0) → OnCrowded → Type 0
HaltsOn Good crowded = (oldest : PathParts) (st : State) (answers : List Met) (run : DeskRun) (fault : DeskFault) → crowded oldest st answers run → AllEnds run.made → Good st.table oldest → run.result.fault ≡ Some fault → HasStopped fault run.made

abbrev Anything : DeskTable → PathParts → Type 0
Anything t path = Unit {0}

still_halts : HaltsOn Anything StillCrowded
still_halts oldest st answers run fault d ends good is = absurd (by d.is)
  where
    none_is : run.result.fault ≡ None → ⊥
    none_is none = let x_ : no_fault ≡ Some fault = sym none ∙ is in cc

    by : IsStillCrowded oldest st run.result → ⊥
    by (still_tells same) = none_is (ap (λ (l : Lined). l.fault) same)
    by (still_memory same) = none_is (ap (λ (l : Lined). l.fault) same)

stored_halts : (Good : DeskTable → PathParts → Type 0) (path : PathParts) (bytes : List ℕ) (crowded : OnCrowded) → HaltsOn Good crowded → (answered : Answered) (st : State) (answers : List Met) (run : DeskRun) (fault : DeskFault)
    → stored path bytes crowded answered st answers run → AllEnds run.made → ((oldest : PathParts) → answered ≡ Err (faults.Crowded oldest) → Good st.table oldest) → run.result.fault ≡ Some fault
    → ((answered ≡ Err fault) × IsHalting fault) ⊎ HasStopped fault run.made
stored_halts Good path bytes crowded handles (Ok answer) st answers run fault does ends good is = absurd (goes_on (lined (closed_line path (length bytes)) st None) answers run fault refl does is)
stored_halts Good path bytes crowded handles (Err faults.Disk) st answers run fault does ends good is =
    let same = stops_by (lined [] st (Some faults.Disk)) answers run faults.Disk fault refl does is in inl (ap a_fault same, subst IsHalting same tt)
stored_halts Good path bytes crowded handles (Err (faults.NotACache at)) st answers run fault does ends good is =
    let same = stops_by (lined [] st (Some (faults.NotACache at))) answers run (faults.NotACache at) fault refl does is in inl (ap a_fault same, subst IsHalting same tt)
stored_halts Good path bytes crowded handles (Err (faults.Damaged file kept found)) st answers run fault does ends good is =
    let same = stops_by (lined [] st (Some (faults.Damaged file kept found))) answers run (faults.Damaged file kept found) fault refl does is in inl (ap a_fault same, subst IsHalting same tt)
stored_halts Good path bytes crowded handles (Err (faults.OtherServer kept asked)) st answers run fault does ends good is =
    let same = stops_by (lined [] st (Some (faults.OtherServer kept asked))) answers run (faults.OtherServer kept asked) fault refl does is in inl (ap a_fault same, subst IsHalting same tt)
stored_halts Good path bytes crowded handles (Err (faults.Queued other)) st answers run fault does ends good is =
    let same = stops_by (lined [] st (Some (faults.Queued other))) answers run (faults.Queued other) fault refl does is in inl (ap a_fault same, subst IsHalting same tt)
stored_halts Good path bytes crowded handles (Err (faults.NoSuchJob number)) st answers run fault does ends good is =
    let same = stops_by (lined [] st (Some (faults.NoSuchJob number))) answers run (faults.NoSuchJob number) fault refl does is in inl (ap a_fault same, subst IsHalting same tt)
stored_halts Good path bytes crowded handles (Err (faults.Crowded oldest)) st answers run fault does ends good is = inr (handles oldest st answers run fault does ends (good oldest refl) is)
stored_halts Good path bytes crowded handles (Err (faults.Limit which)) st answers run fault does ends good is = absurd (goes_on (lined (limit_line which) (faulted st) None) answers run fault refl does is)
stored_halts Good path bytes crowded handles (Err faults.Memory) st answers run fault does ends good is = absurd (goes_on (lined memory_line (starved st) None) answers run fault refl does is)

not_halting : (t : DeskTable) (one fault : DeskFault) → WhyNot t one → one ≡ fault → IsHalting fault → ⊥
not_halting t one fault (limit which is) same halting = subst IsHalting (sym same ∙ is) halting
not_halting t one fault (crowd item is clean) same halting = subst IsHalting (sym same ∙ is) halting

-- a store whose fault stops the desk was stopped by it
store_stopped : (t : DeskTable) (path : PathParts) (bytes : List ℕ) (met : Met) (fault : DeskFault) → answer_met t (store_ask path bytes) met ≡ a_fault fault → IsHalting fault → met.verdict ≡ Stopped fault
store_stopped t path bytes met fault is halting = by met.verdict refl is
  where
    went_by : StoreStep t 0 path bytes (deed_of t (Store path bytes)) → result_by Went t 0 (Store path bytes) met.bytes ≡ a_fault fault → ⊥
    went_by (refuses one why off answer) so =
        let both : a_fault one ≡ a_fault fault = sym (answer met.bytes) ∙ so in
        let same : one ≡ fault = cc in
        not_halting t one fault (why_not t path (length bytes) one why) same halting
    went_by (stores none deed mark told) so =
        let closed_ : Answered = Ok (answers.Closed (id_of t.index.next_file bytes)) in
        let no_ : closed_ ≡ a_fault fault = sym (ap (λ (o : Option Said). with_bytes (answer_by (mark_of t 0 (deed_of t (Store path bytes))) o) met.bytes) told) ∙ so in
        cc

    by : (v : Verdict) → met.verdict ≡ v → result_by v t 0 (Store path bytes) met.bytes ≡ a_fault fault → met.verdict ≡ Stopped fault
    by Went went_ so = absurd (went_by (store_step t 0 path bytes) so)
    by (Stopped one) went_ so = let both : a_fault one ≡ a_fault fault = so in let same : one ≡ fault = cc in went_ ∙ ap Stopped same
    by Starved went_ so = let both : a_fault faults.Memory ≡ a_fault fault = so in let same : faults.Memory ≡ fault = cc in absurd (subst IsHalting (sym same) halting)

-- the path is that of the entry that is to be forgotten first
record IsOldest (t : DeskTable) (oldest : PathParts) : Type 0 where
  item : Item
  is : oldest ≡ item.path
  clean : oldest_clean t.index.entries ≡ Some item

abbrev SoundOldest : DeskTable → PathParts → Type 0
SoundOldest t oldest = IsSound t × IsOldest t oldest

-- a store that is refused changes nothing
refused_table : (t : DeskTable) (path : PathParts) (bytes : List ℕ) (fault : DeskFault) → store_refusal t.index path (length bytes) ≡ Some fault → table_by Went t 0 (Store path bytes) ≡ t
refused_table t path bytes fault is =
    let deed : Deed = deeds.Store path (length bytes) (body_unless (store_refusal t.index path (length bytes)) (id_of t.index.next_file bytes)) in
    ap (λ (o : Option DeskFault). changed t (effect_unless o t 0 deed)) is

crowded_why : (t : DeskTable) (one : DeskFault) (oldest : PathParts) → one ≡ faults.Crowded oldest → WhyNot t one → IsOldest t oldest
crowded_why t one oldest same (limit which is) = let x_ : faults.Limit which ≡ faults.Crowded oldest = sym is ∙ same in absurd (cc)
crowded_why t one oldest same (crowd item is clean) =
    let x_ : faults.Crowded oldest ≡ faults.Crowded item.path = sym same ∙ is in
    record { item = item; is = cc; clean = clean }

-- a crowded desk names the oldest path of its table
names_oldest : (t : DeskTable) (path : PathParts) (bytes : List ℕ) (met : Met) (oldest : PathParts) → IsSound t → EndsWell met.verdict → answer_met t (store_ask path bytes) met ≡ a_fault (faults.Crowded oldest)
    → SoundOldest (table_met t (store_ask path bytes) met) oldest
names_oldest t path bytes met oldest sound ends is = by met.verdict refl ends is
  where
    went_by : StoreStep t 0 path bytes (deed_of t (Store path bytes)) → result_by Went t 0 (Store path bytes) met.bytes ≡ a_fault (faults.Crowded oldest) → SoundOldest (table_by Went t 0 (Store path bytes)) oldest
    went_by (refuses one why off answer) so =
        let both : a_fault one ≡ a_fault (faults.Crowded oldest) = sym (answer met.bytes) ∙ so in
        let same : one ≡ faults.Crowded oldest = cc in
        subst (λ (u : DeskTable). SoundOldest u oldest) (sym (refused_table t path bytes one why)) (sound, crowded_why t one oldest same (why_not t path (length bytes) one why))
    went_by (stores none deed mark told) so =
        let closed_ : Answered = Ok (answers.Closed (id_of t.index.next_file bytes)) in
        let no_ : closed_ ≡ a_fault (faults.Crowded oldest) = sym (ap (λ (o : Option Said). with_bytes (answer_by (mark_of t 0 (deed_of t (Store path bytes))) o) met.bytes) told) ∙ so in
        absurd (cc)

    by : (v : Verdict) → met.verdict ≡ v → EndsWell v → result_by v t 0 (Store path bytes) met.bytes ≡ a_fault (faults.Crowded oldest) → SoundOldest (table_met t (store_ask path bytes) met) oldest
    by Went went_ well so = subst (λ (v : Verdict). SoundOldest (table_by v t 0 (Store path bytes)) oldest) (sym went_) (went_by (store_step t 0 path bytes) so)
    by (Stopped one) went_ well so = let both : a_fault one ≡ a_fault (faults.Crowded oldest) = so in let same : one ≡ faults.Crowded oldest = cc in absurd (subst IsEnd same well)
    by Starved went_ well so = let x_ : a_fault faults.Memory ≡ a_fault (faults.Crowded oldest) = so in absurd (cc)

stores_halts : (Good : DeskTable → PathParts → Type 0) (path : PathParts) (bytes : List ℕ) (crowded : OnCrowded) → HaltsOn Good crowded → (st : State) (given_ : List Met) (run : DeskRun) (fault : DeskFault)
    → StoresOr path bytes crowded st given_ run → AllEnds run.made
    → ((met : Met) (oldest : PathParts) → EndsWell met.verdict → answer_met st.table (store_ask path bytes) met ≡ a_fault (faults.Crowded oldest) → Good (table_met st.table (store_ask path bytes) met) oldest)
    → run.result.fault ≡ Some fault → HasStopped fault run.made
stores_halts Good path bytes crowded handles st given_ run fault d ends good is =
    let one = asked_once st.table (store_ask path bytes) given_ d.before d.begins in
    let e : Asked = event (store_ask path bytes) one.met in
    let u : DeskTable = table_met st.table (store_ask path bytes) one.met in
    let whole : run ≡ prepend one_device (e ∷ []) d.after = d.whole ∙ ap (λ (r : AskRun). prepend one_device r.made d.after) one.is in
    let after : stored path bytes crowded (answer_met st.table (store_ask path bytes) one.met) (with_table st u) one.more d.after =
    subst (λ (r : AskRun). stored path bytes crowded r.result.0 (with_table st r.result.1) r.left d.after) one.is d.goes_on in
    let ends_all : AllEnds (e ∷ d.after.made) = subst (λ (r : DeskRun). AllEnds r.made) whole ends in
    subst (λ (r : DeskRun). HasStopped fault r.made) (sym whole)
    (elim (stored_halts Good path bytes crowded handles (answer_met st.table (store_ask path bytes) one.met) (with_table st u) one.more d.after fault after ends_all.1
    (λ oldest told. good one.met oldest ends_all.0 told) (ap (λ (r : DeskRun). r.result.fault) (sym whole) ∙ is)) [
      | inl here ↦ stopped_first fault e d.after.made (store_stopped st.table path bytes one.met fault here.0 here.1)
      | inr later ↦ stopped_later fault e d.after.made later
    ])

-- why a path wasn't forgotten
unforgotten_halts : (one : DeskFault) (st : State) (given_ : List Met) (run : DeskRun) (fault : DeskFault) → unforgotten (cause_of one) st given_ run → run.result.fault ≡ Some fault → (one ≡ fault) × (one ≢ faults.Memory)
unforgotten_halts faults.Disk st given_ run fault does is = (stops_by (lined [] st (Some faults.Disk)) given_ run faults.Disk fault refl does is, λ h. cc)
unforgotten_halts (faults.NotACache at) st given_ run fault does is = (stops_by (lined [] st (Some (faults.NotACache at))) given_ run (faults.NotACache at) fault refl does is, λ h. cc)
unforgotten_halts (faults.Damaged file kept found) st given_ run fault does is = (stops_by (lined [] st (Some (faults.Damaged file kept found))) given_ run (faults.Damaged file kept found) fault refl does is, λ h. cc)
unforgotten_halts (faults.OtherServer kept asked) st given_ run fault does is = (stops_by (lined [] st (Some (faults.OtherServer kept asked))) given_ run (faults.OtherServer kept asked) fault refl does is, λ h. cc)
unforgotten_halts (faults.Queued path) st given_ run fault does is = (stops_by (lined [] st (Some (faults.Queued path))) given_ run (faults.Queued path) fault refl does is, λ h. cc)
unforgotten_halts (faults.NoSuchJob number) st given_ run fault does is = (stops_by (lined [] st (Some (faults.NoSuchJob number))) given_ run (faults.NoSuchJob number) fault refl does is, λ h. cc)
unforgotten_halts (faults.Crowded oldest) st given_ run fault does is = (stops_by (lined [] st (Some (faults.Crowded oldest))) given_ run (faults.Crowded oldest) fault refl does is, λ h. cc)
unforgotten_halts (faults.Limit which) st given_ run fault does is = (stops_by (lined [] st (Some (faults.Limit which))) given_ run (faults.Limit which) fault refl does is, λ h. cc)
unforgotten_halts faults.Memory st given_ run fault does is = absurd (goes_on (lined memory_line (starved st) None) given_ run fault refl does is)

-- the oldest path is forgotten, unless the desk is stopped or there is no memory
forget_stopped : (t : DeskTable) (oldest : PathParts) (met : Met) (one : DeskFault) → SoundOldest t oldest → answer_met t (forget_ask oldest) met ≡ a_fault one → one ≢ faults.Memory → met.verdict ≡ Stopped one
forget_stopped t oldest met one good is other = by met.verdict refl is
  where
    free : queued_with oldest false t.index.entries ≡ None
    free = ap (λ (p : PathParts). queued_with p false t.index.entries) good.1.is ∙ oldest_goes t good.1.item good.0 good.1.clean

    forgot : result_by Went t 0 (Forget oldest false false) met.bytes ≡ an_answer answers.Forgot
    forgot = ap (λ (o : Option Item). with_bytes (answer_by (effect_unless (queued_fault o) t 0 (deeds.Forget oldest false false)).mark (effect_unless (queued_fault o) t 0 (deeds.Forget oldest false false)).told) met.bytes) free

    by : (v : Verdict) → met.verdict ≡ v → result_by v t 0 (Forget oldest false false) met.bytes ≡ a_fault one → met.verdict ≡ Stopped one
    by Went went_ so = let x_ : an_answer answers.Forgot ≡ a_fault one = sym forgot ∙ so in absurd (cc)
    by (Stopped fault) went_ so = let both : a_fault fault ≡ a_fault one = so in let same : fault ≡ one = cc in went_ ∙ ap Stopped same
    by Starved went_ so = let both : a_fault faults.Memory ≡ a_fault one = so in let same : one ≡ faults.Memory = cc in absurd (other same)

room_halts : (path : PathParts) (bytes : List ℕ) → HaltsOn SoundOldest (makes_room path bytes)
room_halts path bytes oldest st given_ run fault d ends good is =
    let one = asked_once st.table (forget_ask oldest) given_ d.before d.begins in
    let e : Asked = event (forget_ask oldest) one.met in
    let u : DeskTable = table_met st.table (forget_ask oldest) one.met in
    let whole : run ≡ prepend one_device (e ∷ []) d.after = d.whole ∙ ap (λ (r : AskRun). prepend one_device r.made d.after) one.is in
    let after : forgotten path bytes (answer_met st.table (forget_ask oldest) one.met) (with_table st u) one.more d.after =
    subst (λ (r : AskRun). forgotten path bytes r.result.0 (with_table st r.result.1) r.left d.after) one.is d.goes_on in
    let ends_all : AllEnds (e ∷ d.after.made) = subst (λ (r : DeskRun). AllEnds r.made) whole ends in
    subst (λ (r : DeskRun). HasStopped fault r.made) (sym whole)
    (by one.met u e (answer_met st.table (forget_ask oldest) one.met) refl one.more d.after after ends_all.1 (ap (λ (r : DeskRun). r.result.fault) (sym whole) ∙ is))
  where
    by : (met : Met) (u : DeskTable) (e : Asked) (answered : Answered) → answer_met st.table (forget_ask oldest) met ≡ answered → (more : List Met) (after : DeskRun) → forgotten path bytes answered (with_table st u) more after → AllEnds after.made
        → after.result.fault ≡ Some fault → HasStopped fault (event (forget_ask oldest) met ∷ after.made)
    by met u e (Ok answer) told more after does ends_later same =
        stopped_later fault (event (forget_ask oldest) met) after.made
        (stores_halts Anything path bytes StillCrowded still_halts (with_table st u) more after fault does ends_later (λ met_ oldest_ well told_. tt) same)
    by met u e (Err one) told more after does ends_later same =
        let halts = unforgotten_halts one (with_table st u) more after fault does same in
        stopped_first fault (event (forget_ask oldest) met) after.made (forget_stopped st.table oldest met one good told halts.1 ∙ ap Stopped halts.0)

line_halts : (before : State) (line : List ℕ) (given_ : List Met) (run : DeskRun) (fault : DeskFault) → IsSound before.table → AllEnds run.made → Lines before line given_ run → run.result.fault ≡ Some fault → HasStopped fault run.made
line_halts before line given_ run fault sound ends (nothing empty does) is = absurd (goes_on (lined [] before None) given_ run fault refl does is)
line_halts before line given_ run fault sound ends (syntax some none does) is = absurd (goes_on (lined syntax_line (faulted before) None) given_ run fault refl does is)
line_halts before line given_ run fault sound ends (puts path bytes put does) is =
    stores_halts SoundOldest path bytes (makes_room path bytes) (room_halts path bytes) before given_ run fault does ends (λ met oldest well told. names_oldest before.table path bytes met oldest sound well told) is
line_halts before line given_ run fault sound ends (memory does) is = absurd (goes_on (lined memory_line (starved before) None) given_ run fault refl does is)

halts_stopped : (told : List Told) (before : State) (fault : DeskFault) → IsSound before.table → AllAsks (asked_by told) → AllEnds (asked_by told) → Halts before told fault → HasStopped fault (asked_by told)
halts_stopped [] before fault sound all_asks ends halts = absurd halts
halts_stopped (t ∷ told) before fault sound all_asks ends (l, line, inl (last, is)) =
    stopped_front fault t.asked (asked_by told)
    (line_halts before t.line (answers_before t.asked []) (run_with l t.asked []) fault sound (ends_front t.asked (asked_by told) ends) line.does is)
halts_stopped (t ∷ told) before fault sound all_asks ends (l, line, inr (going, halts)) =
    let leads = line_leads before t.line (answers_before t.asked []) (run_with l t.asked []) line.does in
    let sound_now : IsSound l.now.table = subst IsSound (sym leads.table) (asks_sound t.asked before.table (asks_front t.asked (asked_by told) all_asks) sound) in
    stopped_behind fault t.asked (asked_by told)
    (halts_stopped told (counted l.now) fault sound_now (asks_behind t.asked (asked_by told) all_asks) (ends_behind t.asked (asked_by told) ends) halts)

-- a run over a desk that started
module _ {D : Type 0} (view : DiskView D) (words : List (List ℕ)) (bytes : List ℕ) (failed : Bool) (o p u v : DeviceLog) (disk_old disk_new : D) (steps : List Step) (under : Option Step) (end : Ending)
    (ran : Started view words bytes failed o p u v disk_old disk_new steps under end) where
  cause_stopped : (stop : Stop) (fault : DeskFault) → stop ≡ (whole_outcome view words bytes failed o p u v disk_old disk_new steps under end ran).stop
      → IsCause stop fault (whole_outcome view words bytes failed o p u v disk_old disk_new steps under end ran).behind_them → HasStopped fault (whole_made view words bytes failed o p u v disk_old disk_new steps under end ran).desk
  cause_stopped stop fault at cause =
      let out = whole_outcome view words bytes failed o p u v disk_old disk_new steps under end ran in
      let made = whole_made view words bytes failed o p u v disk_old disk_new steps under end ran in
      let asks_all : AllAsks (asked_by out.told ++ out.behind_them) = subst AllAsks out.asks (whole_asks view words bytes failed o p u v disk_old disk_new steps under end ran) in
      let ends_all : AllEnds (asked_by out.told ++ out.behind_them) =
      subst AllEnds out.asks (traces_ends made.desk ran.first.table steps under (whole_traces view words bytes failed o p u v disk_old disk_new steps under end ran)) in
      subst (HasStopped fault) (sym out.asks) (elim cause [
        | inl is ↦
            stopped_front fault (asked_by out.told) out.behind_them
            (halts_stopped out.told (fresh_state ran.base.path ran.first.table) fault (whole_rests view words bytes failed o p u v disk_old disk_new steps under end ran).sound
            (asks_front (asked_by out.told) out.behind_them asks_all) (ends_front (asked_by out.told) out.behind_them ends_all) (out.halted fault (sym at ∙ is)))
        | inr has ↦ stopped_behind fault (asked_by out.told) out.behind_them has
      ])

  started_died : (fault : DeskFault) → IsCause (whole_outcome view words bytes failed o p u v disk_old disk_new steps under end ran).stop fault (whole_outcome view words bytes failed o p u v disk_old disk_new steps under end ran).behind_them
      → Died view ran.first ran.last fault
  started_died fault cause =
      let made = whole_made view words bytes failed o p u v disk_old disk_new steps under end ran in
      died view fault made.desk ran.first ran.last ran.start.dead (whole_grew view words bytes failed o p u v disk_old disk_new steps under end ran).desk
      (any_stopped fault made.desk (cause_stopped (whole_outcome view words bytes failed o p u v disk_old disk_new steps under end ran).stop fault refl cause))

  started_disk : end.status ≡ status.Disk → Rose (view.faults disk_old) (view.faults disk_new)
  started_disk is =
      let one = started_died faults.Disk ((whole_outcome view words bytes failed o p u v disk_old disk_new steps under end ran).cause_disk is) in
      subst (λ (d : D). Rose (view.faults disk_old) (view.faults d)) (sym ran.disk)
      (then_rose (view.faults disk_old) (view.faults ran.first.recorder.disk) (view.faults ran.last.recorder.disk) ran.start.no_fewer (one.disk refl))

  started_cache : (fault : DeskFault) → end.status ≡ status.Cache fault → IsDamage (view.honest disk_new) (view.seen disk_new) (view.faults disk_old) (view.faults disk_new) fault
  started_cache fault is =
      let cause = (whole_outcome view words bytes failed o p u v disk_old disk_new steps under end ran).cause_cache fault is in
      let d = (started_died fault cause.0).damage cause.1.0 in
      subst (λ (x : D). IsDamage (view.honest x) (view.seen x) (view.faults disk_old) (view.faults x) fault) (sym ran.disk)
      (record {
        body = d.body;
        cause = fetch_wider (view.honest ran.last.recorder.disk) d.body (view.seen ran.last.recorder.disk d.body.file) (view.faults disk_old) (view.faults ran.first.recorder.disk) (view.faults ran.last.recorder.disk) fault ran.start.no_fewer d.cause;
      })

  started_index : view.honest disk_new → HasIndex words (view.seen disk_old 0)
  started_index honest =
      let made = whole_made view words bytes failed o p u v disk_old disk_new steps under end ran in
      let grew = whole_grew view words bytes failed o p u v disk_old disk_new steps under end ran in
      let honest_first = honest_before view made.desk ran.first ran.last grew.desk (subst view.honest ran.disk honest) in
      λ base named. (
        ran.first.table.index,
        subst (λ (b : BaseParts). (length (view.seen disk_old 0) < 1099511627776) × IsIndexOf b.text ran.first.table.index (view.seen disk_old 0)) (base_unique words ran.base base ran.named named) (ran.start.opened honest_first),
      )

-- a run without a desk
module _ {D : Type 0} (view : DiskView D) (words : List (List ℕ)) (o p u v : DeviceLog) (disk_old disk_new : D) (steps : List Step) (under : Option Step) (end : Ending)
    (ran : NotStarted view words o p u v disk_old disk_new steps under end) where
  -- the start failed by this fault
  record StartFailed (fault : DeskFault) : Type 0 where
    base : BaseParts
    named : IsBase words base
    cause : IsStartFault (view.honest disk_new) base.text (view.seen disk_old 0) (view.faults disk_old) (view.faults disk_new) fault

  start_failed : (opened : Opened) (fault : DeskFault) → Unstarted view words disk_old disk_new opened → opened ≡ Err fault → fault ≢ faults.Memory → StartFailed fault
  start_failed opened fault (uncalled same) is other = absurd (other (let x_ : not_opened faults.Memory ≡ not_opened fault = is in cc))
  start_failed opened fault (start_refused base one named start) is other =
      let x_ : not_opened one ≡ not_opened fault = is in
      let same : one ≡ fault = cc in
      record { base = base; named = named; cause = subst (IsStartFault (view.honest disk_new) base.text (view.seen disk_old 0) (view.faults disk_old) (view.faults disk_new)) same start.cause }

  none_opened : (opened : Opened) (table : DeskTable) → Unstarted view words disk_old disk_new opened → opened ≡ Ok table → ⊥
  none_opened opened table (uncalled same) is = let x_ : not_opened faults.Memory ≡ opened_with table = is in cc
  none_opened opened table (start_refused base one named start) is = let x_ : not_opened one ≡ opened_with table = is in cc

  quiet_fault : (fault : DeskFault) → ((end.status ≡ status.Disk) × (fault ≡ faults.Disk)) ⊎ (end.status ≡ status.Cache fault) → StartFailed fault
  quiet_fault fault of = by (quiet_does view words o p u v disk_old disk_new steps under end ran)
    where
      answers_ : Answers
      answers_ = all.answered ran.does.made none_left

      run : EndRun
      run = quiet_whole view words o p u v disk_old disk_new steps under end ran

      not_words : end.status ≡ status.Words → ⊥
      not_words is = elim of [
        | inl disk ↦ let x_ : status.Words ≡ status.Disk = sym is ∙ disk.0 in cc
        | inr cache ↦ let x_ : status.Words ≡ status.Cache fault = sym is ∙ cache in cc
      ]

      caused : (one : DeskFault) (Caused : DeskFault → Type 0) → Ended (stops.Desk one) Caused no_desk run → Caused fault × (fault ≢ faults.Memory)
      caused one Caused ended = elim of [
        | inl disk ↦ (subst Caused (sym disk.1) (last_disk (stops.Desk one) Caused no_desk.table false end.status run.made.out ended.last disk.0), λ h. let x_ : faults.Disk ≡ faults.Memory = sym disk.1 ∙ h in cc)
        | inr cache ↦ let found = last_cache (stops.Desk one) Caused no_desk.table false end.status run.made.out fault ended.last cache in (found.0, found.1.1)
      ]

      by : Runs words [] false ran.opened answers_ run → StartFailed fault
      by (words_refused_ no_base does) = absurd (not_words (ap (λ (e : Ending). e.status) (told_words no_desk answers_ run does).0))
      by (unread empty fine does) = absurd ((caused faults.Memory (λ one. ⊥) (told_memory no_desk answers_ run does)).0)
      by (unopened base one named is empty fine does) =
          let found = caused one (λ other. other ≡ one) (told_fault one no_desk answers_ run does) in
          start_failed ran.opened fault ran.start (is ∙ ap not_opened (sym found.0)) found.1
      by (on base table named is does) = absurd (none_opened ran.opened table ran.start is)

  quiet_disk : end.status ≡ status.Disk → Rose (view.faults disk_old) (view.faults disk_new)
  quiet_disk is = (quiet_fault faults.Disk (inl (is, refl))).cause

  quiet_cache : (fault : DeskFault) → end.status ≡ status.Cache fault → StartFailed fault
  quiet_cache fault is = quiet_fault fault (inr is)

-- a run without a desk doesn't go on
going_over : (s : Status) → IsOver s → IsGoing s → ⊥
going_over s over (inl is) = subst IsOver is over
going_over s over (inr (inl is)) = subst IsOver is over
going_over s over (inr (inr (inl is))) = subst IsOver is over
going_over s over (inr (inr (inr is))) = subst IsOver is over

module _ {D : Type 0} (view : DiskView D) (words : List (List ℕ)) (s0 s1 o p u v : DeviceLog) (disk_old disk_new : D) (steps : List Step) (under : Option Step) (end : Ending)
    (ran : Ran view words s0 s1 o p u v disk_old disk_new steps under end) where
  pub disk_rose : end.status ≡ status.Disk → Rose (view.faults disk_old) (view.faults disk_new)
  disk_rose is = elim ran.does [
    | inl started_ ↦ started_disk view words (given ran.heard) (any_failed is_failure ran.heard) o p u v disk_old disk_new steps under end started_ is
    | inr quiet ↦ quiet_disk view words o p u v disk_old disk_new steps under end quiet.1 is
  ]

  pub cache_caused : (fault : DeskFault) → end.status ≡ status.Cache fault → IsCacheCause (view.honest disk_new) words (view.seen disk_old) (view.seen disk_new) (view.faults disk_old) (view.faults disk_new) fault
  cache_caused fault is = elim ran.does [
    | inl started_ ↦ inr (started_cache view words (given ran.heard) (any_failed is_failure ran.heard) o p u v disk_old disk_new steps under end started_ fault is)
    | inr quiet ↦ let failed_ = quiet_cache view words o p u v disk_old disk_new steps under end quiet.1 fault is in inl (failed_.base, failed_.named, failed_.cause)
  ]

  pub has_index : view.honest disk_new → IsGoing end.status → HasIndex words (view.seen disk_old 0)
  has_index honest going = elim ran.does [
    | inl started_ ↦ started_index view words (given ran.heard) (any_failed is_failure ran.heard) o p u v disk_old disk_new steps under end started_ honest
    | inr quiet ↦ absurd (going_over end.status (whole_quiet view words o p u v disk_old disk_new steps under end quiet.1).over going)
  ]
