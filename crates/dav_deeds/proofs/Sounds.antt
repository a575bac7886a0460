-- Each deed keeps a table sound.
use Rattle.std.proofs.Common.{◌≡◌, ◌≢◌, ℕ, ◌+◌, ◌-◌, ◌^◌, ◌<◌, ◌≤◌, Bool, true, false, not, ◌&&◌, List, [], ◌∷◌, ◌++◌, length, Option, Some, None, nat_le, fold, refl, sym, ◌∙◌, ap, subst, arith, length-append, append-nil, if◌then◌else◌}
use Rattle.std.specs.Prelude.{nat_lt, option_and_then}
use Rattle.std.proofs.lemmas.Bool.{false≢true}
use Rattle.std.proofs.lemmas.Bool.Decides.{nat_tests}
use Rattle.std.proofs.lemmas.List.Sums.{sum_by-cons}
use Rattle.dav_text.specs.Path.{PathParts, IsPath, escaped, escaped_segments}
use Rattle.dav_text.specs.declared.which.Which.TheVariants as limits
use Rattle.dav_store.specs.declared.body_id.BodyId.{BodyId}
use Rattle.dav_index.specs.Item.{Item}
use Rattle.dav_index.specs.Items.{entry_at}
use Rattle.dav_index.specs.Records.{IsBare, IsRecord}
use Rattle.dav_index.specs.Tables.{queued_body, queued_at, replay}
use Rattle.dav_index.specs.Bounds.{is_queued, queued_count, len_of, queued_bytes, IsWithin}
use Rattle.dav_index.specs.Queries.{is_older, older, oldest_clean}
use Rattle.dav_index.specs.declared.entry.Entry.{Entry}
use Rattle.dav_index.specs.declared.record.Record.{Record}
use Rattle.dav_index.specs.declared.record.Record.TheVariants as records
use Rattle.dav_index.specs.declared.table.Table.{Table}
use Rattle.dav_deeds.specs.declared.answer.Fated.{Fated}
use Rattle.dav_deeds.specs.declared.answer.Fated.TheVariants as fates
use Rattle.dav_deeds.specs.declared.answer.Flight.{Flight}
use Rattle.dav_deeds.specs.declared.ask.Done.{Done}
use Rattle.dav_deeds.specs.declared.ask.Done.TheVariants as ends
use Rattle.dav_deeds.specs.declared.deed.Deed.{Deed}
use Rattle.dav_deeds.specs.declared.deed.Deed.TheVariants.{Store, Forget, Take, Settle, Stop}
use Rattle.dav_deeds.specs.declared.deed.Step.{Step}
use Rattle.dav_deeds.specs.declared.fault.DeskFault.{DeskFault}
use Rattle.dav_deeds.specs.declared.fault.DeskFault.TheVariants.{Limit}
use Rattle.dav_deeds.specs.DeskTable.{DeskTable}
use Rattle.dav_deeds.specs.Refusals.{is_there, lacks_place, lacks_bytes, crowding, full_or_crowded, store_refusal, queued_with, queued_fault, refusal_of}
use Rattle.dav_deeds.specs.Effects.{Effect, bare, moment, pause, is_nothing, store_effect, going, forgot_record, forget_effect, tried, take_effect, taken, is_current, fated_current, waiting_at, fated_of, settle_by_fate, settle_effect, effect_done, effect_unless, waited, recorded, changed, after, loss_of_fate, record_of_fate, record_of}
use Rattle.dav_deeds.specs.Legal.{IsDone, IsBodyUnless, IsDeed, table_after, Legal}
use Rattle.dav_deeds.specs.Sound.{IsFlightWithin, IsJobWithin, IsSound}
use Rattle.dav_deeds.proofs.Paths.{same_self}
use Rattle.dav_deeds.proofs.Entries.{entry_same}
use Rattle.dav_deeds.proofs.Taking.{taken_of}
use Rattle.dav_index.proofs.Weights.{weight}
use Rattle.dav_deeds.proofs.Within.{queued_one, one_if, waited_within, sent_within, forgot_within, lost_within}
use Rattle.dav_deeds.proofs.Closing.{MayClose, close_within}
use Rattle.dav_deeds.proofs.Flying.{taken_within, waited_flight, closed_flight, forgot_flight}

unless_none : {X : Type 0} (b : Bool) (x : X) (rest : Option X) → (if b then Some x else rest) ≡ None → (b ≡ false) × (rest ≡ None)
unless_none true x rest h = cc
unless_none false x rest h = (refl, h)

-- entries none of which may be forgotten for another are all queued
some_stays : (x : Item) (items : List Item) → fold older (Some x) items ≢ None
some_stays x [] = λ h. cc
some_stays x (y ∷ ys) = by (is_older (Some x) y) (some_stays y ys) (some_stays x ys)
  where
    by : (b : Bool) → fold older (Some y) ys ≢ None → fold older (Some x) ys ≢ None → fold older (if b then Some y else Some x) ys ≢ None
    by true h k = h
    by false h k = k

pub all_queued : (items : List Item) → oldest_clean items ≡ None → length items ≤ weight queued_one items
all_queued [] h = omega arith
all_queued (x ∷ xs) h = by (is_queued x) refl h (λ k. all_queued xs k)
  where
    by : (b : Bool) → is_queued x ≡ b → fold older (if not b then Some x else None) xs ≡ None → (oldest_clean xs ≡ None → length xs ≤ weight queued_one xs) → length (x ∷ xs) ≤ weight queued_one (x ∷ xs)
    by false is none ih = absurd (some_stays x xs none)
    by true is none ih =
        let head : weight queued_one (x ∷ xs) ≡ queued_one x.entry + weight queued_one xs = sum_by-cons (λ (item : Item). queued_one item.entry) x xs in
        let one : queued_one x.entry ≡ 1 = ap one_if is in
        omega (arith, ih none)

-- what a store that isn't refused finds
pub record IsFree (t : Table) (path : PathParts) (len : ℕ) : Type 0 where
  pub short : len ≤ 8388608
  pub files_left : t.next_file < 4294967295
  pub place : queued_at path t.entries ≡ None → queued_count t.entries + length t.lost < 4096
  pub bytes : queued_bytes t.entries - len_of (queued_at path t.entries) + len ≤ 1073741824
  pub known : entry_at path t.entries ≡ None → length t.entries < 16384

free_known : (t : Table) (path : PathParts) → IsWithin t → crowding t path ≡ None → entry_at path t.entries ≡ None → length t.entries < 16384
free_known t path w none absent =
    by (nat_le 16384 (length t.entries)) refl (subst (λ (o : Option Entry). (if not (is_there o) && nat_le 16384 (length t.entries) then oldest_clean t.entries else None) ≡ None) absent none)
  where
    by : (b : Bool) → nat_le 16384 (length t.entries) ≡ b → (if true && b then oldest_clean t.entries else None) ≡ None → length t.entries < 16384
    by false is h = grind (arith, nat_tests)
    by true is h =
        let queued : length t.entries ≤ weight queued_one t.entries = all_queued t.entries h in
        omega (arith, w.few_kept)

free_place : (t : Table) (path : PathParts) → lacks_place t path ≡ false → queued_at path t.entries ≡ None → queued_count t.entries + length t.lost < 4096
free_place t path off none =
    let test : (true && nat_le 4096 (queued_count t.entries + length t.lost)) ≡ false = subst (λ (o : Option BodyId). (not (is_there o) && nat_le 4096 (queued_count t.entries + length t.lost)) ≡ false) none off in
    below (queued_count t.entries + length t.lost) test
  where
    below : (n : ℕ) → (true && nat_le 4096 n) ≡ false → n < 4096
    below n h = grind (arith, nat_tests)

at_most : (m n : ℕ) → nat_lt m n ≡ false → n ≤ m
at_most m n h = grind (arith, nat_tests)

under : (m n : ℕ) → nat_le m n ≡ false → n < m
under m n h = grind (arith, nat_tests)

pub store_free : (t : Table) (path : PathParts) (len : ℕ) → IsWithin t → store_refusal t path len ≡ None → IsFree t path len
store_free t path len w free =
    let one : (nat_lt 8388608 len ≡ false) × ((if lacks_place t path then Some (Limit limits.Queue) else (if lacks_bytes t path len then Some (Limit limits.Bytes) else full_or_crowded t.next_file (crowding t path))) ≡ None) =
    unless_none (nat_lt 8388608 len) (Limit limits.Body) (if lacks_place t path then Some (Limit limits.Queue) else (if lacks_bytes t path len then Some (Limit limits.Bytes) else full_or_crowded t.next_file (crowding t path))) free in
    let two : (lacks_place t path ≡ false) × ((if lacks_bytes t path len then Some (Limit limits.Bytes) else full_or_crowded t.next_file (crowding t path)) ≡ None) =
    unless_none (lacks_place t path) (Limit limits.Queue) (if lacks_bytes t path len then Some (Limit limits.Bytes) else full_or_crowded t.next_file (crowding t path)) one.1 in
    let three : (lacks_bytes t path len ≡ false) × (full_or_crowded t.next_file (crowding t path) ≡ None) =
    unless_none (lacks_bytes t path len) (Limit limits.Bytes) (full_or_crowded t.next_file (crowding t path)) two.1 in
    let last : (crowding t path ≡ None) × (t.next_file < 4294967295) = files (crowding t path) refl three.1 in
    record {
      short = at_most 8388608 len one.0;
      files_left = last.1;
      place = λ none. free_place t path two.0 none;
      bytes = at_most 1073741824 (queued_bytes t.entries - len_of (queued_at path t.entries) + len) three.0;
      known = λ none. free_known t path w last.0 none;
    }
  where
    files : (o : Option Item) → crowding t path ≡ o → full_or_crowded t.next_file o ≡ None → (crowding t path ≡ None) × (t.next_file < 4294967295)
    files (Some x) is h = cc
    files None is h = (is, under 4294967295 t.next_file (unless_none (nat_le 4294967295 t.next_file) (Limit limits.Files) None h).0)

-- the path of an ask, as an entry keeps it
pub bare_is : (path : PathParts) → IsPath path → IsBare (bare path)
bare_is path is = record {
  is_path = record { segments = is.segments; top = λ none. at_top path.segments none; short = short path.segments path.slash is.short };
  top_alone = λ on. top path.segments on;
}
  where
    at_top : (s : List (List ℕ)) → s ≡ [] → is_nothing s ≡ true
    at_top [] h = refl
    at_top (x ∷ xs) h = cc

    top : (s : List (List ℕ)) → is_nothing s ≡ true → s ≡ []
    top [] h = refl
    top (x ∷ xs) h = absurd (false≢true h)

    short : (s : List (List ℕ)) (slash : Bool) → length (escaped (record { segments = s; slash = slash })) ≤ 1024 → length (escaped (record { segments = s; slash = is_nothing s })) ≤ 1024
    short [] slash h = h
    short (x ∷ xs) true h =
        let more : length (escaped_segments (x ∷ xs) ++ 47 ∷ []) ≡ length (escaped_segments (x ∷ xs)) + 1 = length-append (escaped_segments (x ∷ xs)) (47 ∷ []) in
        let none : length (escaped_segments (x ∷ xs) ++ []) ≡ length (escaped_segments (x ∷ xs)) = ap length (append-nil (escaped_segments (x ∷ xs))) in
        omega arith
    short (x ∷ xs) false h = h

-- bytes are lost only where they are still queued, and under the next number
pub loss_is : (t : Table) (flight : Flight) (now : ℕ) (done : Done) (n : ℕ) → fated_of t flight now done ≡ fates.Lost n → (n ≡ t.next_lost) × (is_current t flight ≡ true)
loss_is t flight now done n is = by (is_current t flight) is done
  where
    same_number : (m : ℕ) → fates.Lost m ≡ fates.Lost n → n ≡ m
    same_number m h = cc

    again : (b : Bool) (a d : ℕ) → (if b then fates.Waits a d else fates.Lost t.next_lost) ≡ fates.Lost n → n ≡ t.next_lost
    again true a d h = cc
    again false a d h = same_number t.next_lost h

    current : (done : Done) → fated_current t flight now done ≡ fates.Lost n → n ≡ t.next_lost
    current (ends.Sent seen) h = cc
    current (ends.Again after) h = again (nat_lt ((waiting_at flight.path t.entries).attempts + 1) 15) ((waiting_at flight.path t.entries).attempts + 1) (moment (now + pause ((waiting_at flight.path t.entries).attempts + 1) after)) h
    current ends.Refused h = same_number t.next_lost h

    by : (c : Bool) → (if c then fated_current t flight now done else fates.Superseded) ≡ fates.Lost n → (d : Done) → (n ≡ t.next_lost) × (c ≡ true)
    by true h d = (current done h, refl)
    by false h d = cc

pub no_fault : (found : Option Item) → queued_fault found ≡ None → found ≡ None
no_fault None is = refl
no_fault (Some item) is = cc

abbrev pub Sounds : DeskTable → Effect → Type 0
Sounds t e = IsSound (changed t e)

job_moves : (job : Option Flight) (t u : Table) → ((flight : Flight) → IsFlightWithin flight t → IsFlightWithin flight u) → IsJobWithin job t → IsJobWithin job u
job_moves None t u moves h = h
job_moves (Some flight) t u moves h = moves flight h

module _ (t : DeskTable) (s : IsSound t) where
  pub quiet_sound : (e : Effect) → e.on_record ≡ None → e.waits ≡ None → e.job ≡ t.job → Sounds t e
  quiet_sound e none still same =
      let at : waited (recorded t.index e.on_record) e.waits ≡ t.index = ap (λ (r : Option Record). waited (recorded t.index r) e.waits) none ∙ ap (waited t.index) still in
      record {
        index = subst IsWithin (sym at) s.index;
        job = subst (λ (u : Table). IsJobWithin e.job u) (sym at) (subst (λ (job : Option Flight). IsJobWithin job t.index) (sym same) s.job);
      }

  pub store_sound : (now : ℕ) (path : PathParts) (len : ℕ) (body : Option BodyId) → IsPath path → store_refusal t.index path len ≡ None → IsBodyUnless None t.index.next_file len body → Sounds t (store_effect t path now body)
  store_sound now path len None is free h = absurd h
  store_sound now path len (Some body) is free h =
      let f : IsFree t.index path len = store_free t.index path len s.index free in
      let may : MayClose t.index (bare path) body = record {
        bare = bare_is path is;
        file_is = h.0;
        short = omega (arith, h.1, f.short);
        files_left = f.files_left;
        place = λ none. f.place (same_queued ∙ none);
        bytes = subst (λ (o : Option BodyId). queued_bytes t.index.entries - len_of o + body.len ≤ 1073741824) same_queued (subst (λ n. queued_bytes t.index.entries - len_of (queued_at path t.index.entries) + n ≤ 1073741824) (sym h.1) f.bytes);
        known = λ none. f.known (same_entry ∙ none);
      } in
      record {
        index = waited_within (replay t.index (records.Closed (bare path) body)) (store_effect t path now (Some body)).waits (close_within t.index (bare path) body may s.index);
        job = job_moves t.job t.index (changed t (store_effect t path now (Some body))).index
            (λ flight within. waited_flight (replay t.index (records.Closed (bare path) body)) (store_effect t path now (Some body)).waits flight (closed_flight t.index path body flight h.0 within)) s.job;
      }
    where
      same_entry : entry_at path t.index.entries ≡ entry_at (bare path) t.index.entries
      same_entry = entry_same path (bare path) t.index.entries (same_self path)

      same_queued : queued_at path t.index.entries ≡ queued_at (bare path) t.index.entries
      same_queued = ap (option_and_then queued_body) same_entry

  pub forget_sound : (path : PathParts) (locks below : Bool) → queued_with path below t.index.entries ≡ None → Sounds t (forget_effect t path locks below)
  forget_sound path locks below none = by (going path below t.index.entries)
    where
      by : (items : List Item) → IsSound (record { index = recorded t.index (forgot_record path locks below items); job = t.job; jobs = t.jobs; stopping = t.stopping })
      by [] = s
      by (x ∷ xs) = record {
        index = forgot_within t.index path locks below s.index;
        job = job_moves t.job t.index (replay t.index (records.Forgot path locks below)) (λ flight within. forgot_flight t.index path locks below flight none within) s.job;
      }

  pub take_sound : (now : ℕ) (o : Option Flight) → taken t now ≡ o → Sounds t (take_effect t o)
  take_sound now None is = quiet_sound (take_effect t None) refl refl refl
  take_sound now (Some flight) is = record {
    index = waited_within t.index (tried t flight) s.index;
    job = waited_flight t.index (tried t flight) flight (taken_within t.index flight s.index (taken_of t now flight is).1);
  }

  -- the bytes of the job are lost
  loss_sound : (flight : Flight) (n : ℕ) → IsFlightWithin flight t.index → (n ≡ t.index.next_lost) × (is_current t.index flight ≡ true) → IsWithin (replay t.index (records.Lost n flight.path false))
  loss_sound flight n within lost = by (queued_at flight.path t.index.entries) refl
    where
      by : (q : Option BodyId) → queued_at flight.path t.index.entries ≡ q → IsWithin (replay t.index (records.Lost n flight.path false))
      by None is = absurd (within.queued is)
      by (Some b) is = subst (λ m. IsWithin (replay t.index (records.Lost m flight.path false))) (sym lost.0) (lost_within t.index flight.path b is within.bare s.index)

  fate_sound : (flight : Flight) (done : Done) (fated : Fated) → IsFlightWithin flight t.index → IsDone done → ((n : ℕ) → fated ≡ fates.Lost n → (n ≡ t.index.next_lost) × (is_current t.index flight ≡ true)) → Sounds t (settle_by_fate t flight done fated)
  fate_sound flight (ends.Sent seen) fated within noted lost =
      record { index = waited_within (replay t.index (records.Sent flight.path flight.body.file seen)) (settle_by_fate t flight (ends.Sent seen) fated).waits (sent_within t.index flight.path flight.body.file seen noted within.file_known s.index); job = tt }
  fate_sound flight (ends.Again after) fates.Clean within noted lost = record { index = s.index; job = tt }
  fate_sound flight (ends.Again after) fates.Superseded within noted lost = record { index = s.index; job = tt }
  fate_sound flight (ends.Again after) (fates.Waits n due) within noted lost = record { index = waited_within t.index (settle_by_fate t flight (ends.Again after) (fates.Waits n due)).waits s.index; job = tt }
  fate_sound flight (ends.Again after) (fates.Lost n) within noted lost = record { index = loss_sound flight n within (lost n refl); job = tt }
  fate_sound flight ends.Refused fates.Clean within noted lost = record { index = s.index; job = tt }
  fate_sound flight ends.Refused fates.Superseded within noted lost = record { index = s.index; job = tt }
  fate_sound flight ends.Refused (fates.Waits n due) within noted lost = record { index = waited_within t.index (settle_by_fate t flight ends.Refused (fates.Waits n due)).waits s.index; job = tt }
  fate_sound flight ends.Refused (fates.Lost n) within noted lost = record { index = loss_sound flight n within (lost n refl); job = tt }

  pub settle_sound : (job : Option Flight) (now : ℕ) (done : Done) → t.job ≡ job → IsDone done → Sounds t (settle_effect t job now done)
  settle_sound None now done same noted = quiet_sound (settle_effect t None now done) refl refl refl
  settle_sound (Some flight) now done same noted =
      fate_sound flight done (fated_of t.index flight now done) (subst (λ (job : Option Flight). IsJobWithin job t.index) same s.job) noted (λ n is. loss_is t.index flight now done n is)

-- what is put on record is a record
module _ (t : DeskTable) (s : IsSound t) where
  abbrev pub Fits : Option Record → Type 0
  Fits None = Unit {0}
  Fits (Some r) = IsRecord r

  known_file : (flight : Flight) → IsFlightWithin flight t.index → flight.body.file < 2 ^ 32
  known_file flight within = omega (arith, within.file_known, s.index.files_left)

  pub store_record : (now : ℕ) (path : PathParts) (len : ℕ) (body : Option BodyId) → IsPath path → store_refusal t.index path len ≡ None → IsBodyUnless None t.index.next_file len body → Fits (store_effect t path now body).on_record
  store_record now path len None is free h = tt
  store_record now path len (Some body) is free h =
      let f : IsFree t.index path len = store_free t.index path len s.index free in (
        bare_is path is,
        record {
          file = omega (arith, h.0, s.index.room_for_lost, s.index.numbers_begin);
          file_fits = omega (arith, h.0, f.files_left);
          len_fits = omega (arith, h.1, f.short);
          sum_size = h.2;
        },
      )

  pub closed_record : (now : ℕ) (path : PathParts) (len : ℕ) (body : BodyId) → IsPath path → store_refusal t.index path len ≡ None → IsBodyUnless None t.index.next_file len (Some body) → IsRecord (records.Closed (bare path) body)
  closed_record now path len body is free h = store_record now path len (Some body) is free h

  pub forget_record : (path : PathParts) (locks below : Bool) → IsPath path → (items : List Item) → Fits (forgot_record path locks below items)
  forget_record path locks below is [] = tt
  forget_record path locks below is (x ∷ xs) = is

  loss_record : (flight : Flight) (fated : Fated) → IsFlightWithin flight t.index → ((n : ℕ) → fated ≡ fates.Lost n → (n ≡ t.index.next_lost) × (is_current t.index flight ≡ true)) → Fits (loss_of_fate flight fated)
  loss_record flight fates.Clean within lost = tt
  loss_record flight fates.Superseded within lost = tt
  loss_record flight (fates.Waits n due) within lost = tt
  loss_record flight (fates.Lost n) within lost =
      let number : n ≡ t.index.next_lost = (lost n refl).0 in
      (within.bare, omega (arith, number, s.index.room_for_lost, s.index.files_left))

  fate_record : (flight : Flight) (done : Done) (fated : Fated) → IsFlightWithin flight t.index → IsDone done → ((n : ℕ) → fated ≡ fates.Lost n → (n ≡ t.index.next_lost) × (is_current t.index flight ≡ true)) → Fits (record_of_fate flight done fated)
  fate_record flight (ends.Sent seen) fated within noted lost = (within.bare, known_file flight within, noted)
  fate_record flight (ends.Again after) fated within noted lost = loss_record flight fated within lost
  fate_record flight ends.Refused fated within noted lost = loss_record flight fated within lost

  pub settle_record : (job : Option Flight) (now : ℕ) (done : Done) → t.job ≡ job → IsDone done → Fits (settle_effect t job now done).on_record
  settle_record None now done same noted = tt
  settle_record (Some flight) now done same noted =
      fate_record flight done (fated_of t.index flight now done) (subst (λ (job : Option Flight). IsJobWithin job t.index) same s.job) noted (λ n is. loss_is t.index flight now done n is)

  pub take_record : (o : Option Flight) → Fits (take_effect t o).on_record
  take_record None = tt
  take_record (Some flight) = tt
