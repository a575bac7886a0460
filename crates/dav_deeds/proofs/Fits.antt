-- Each deed keeps what is queued of a path and what became of its last bytes in line.
use Rattle.std.proofs.Common.{◌≡◌, ℕ, ◌+◌, Bool, true, false, ◌&&◌, List, [], ◌∷◌, Option, Some, None, nat_eq, Contains, refl, sym, ◌∙◌, ap, subst, if◌then◌else◌}
use Rattle.std.specs.Prelude.{option_and_then}
use Rattle.std.proofs.lemmas.Bool.{false≢true}
use Rattle.dav_text.specs.Path.{PathParts}
use Rattle.dav_text.specs.declared.tag.Seen.{Seen}
use Rattle.dav_store.specs.declared.body_id.BodyId.{BodyId}
use Rattle.dav_index.specs.Item.{Item}
use Rattle.dav_index.specs.Items.{same_path}
use Rattle.dav_index.specs.Tables.{has_file, queued_body, queued_at, replay}
use Rattle.dav_index.specs.declared.lost.LostItem.{LostItem}
use Rattle.dav_index.specs.declared.record.Record.TheVariants as records
use Rattle.dav_index.specs.declared.table.Table.{Table}
use Rattle.dav_deeds.specs.declared.answer.Fated.{Fated}
use Rattle.dav_deeds.specs.declared.answer.Fated.TheVariants as fates
use Rattle.dav_deeds.specs.declared.answer.Flight.{Flight}
use Rattle.dav_deeds.specs.declared.answer.Told.{Told}
use Rattle.dav_deeds.specs.declared.ask.Done.{Done}
use Rattle.dav_deeds.specs.declared.ask.Done.TheVariants as ends
use Rattle.dav_deeds.specs.declared.deed.Deed.{Deed}
use Rattle.dav_deeds.specs.declared.deed.Deed.TheVariants.{Store, Forget, Take, Settle, Stop}
use Rattle.dav_deeds.specs.declared.deed.Mark.{Mark}
use Rattle.dav_deeds.specs.declared.deed.Mark.TheVariants as marks
use Rattle.dav_deeds.specs.declared.fault.DeskFault.{DeskFault}
use Rattle.dav_deeds.specs.DeskTable.{DeskTable}
use Rattle.dav_deeds.specs.Refusals.{queued_with, queued_fault, refusal_of}
use Rattle.dav_deeds.specs.Effects.{Wait, Effect, quiet, bare, store_effect, going, forgot_record, forget_effect, tried, take_effect, taken, is_current, fated_current, fated_of, settle_by_fate, settle_effect, stop_effect, effect_done, effect_unless, waited, recorded, changed, after, mark_of, told_of}
use Rattle.dav_deeds.specs.Fate.{Fate, Queued, Sent, Lost, Story, is_queued, is_about, tell, IsLostAs}
use Rattle.dav_deeds.proofs.Paths.{by_test}
use Rattle.dav_deeds.proofs.Entries.{entry_same}
use Rattle.dav_deeds.proofs.Queued.{without, waited_queued, waited_lost, lost_more, closed_here, closed_other, sent_here, sent_other, lost_here, lost_other, lost_new, lost_before, forgot_queued}

-- what is queued of a path, by its body closed last and the fate of that
abbrev pub Fits : (ℕ → BodyId → Type 0) → (ℕ → BodyId → Type 0) → Option BodyId → Option BodyId → Fate → Type 0
Fits Went IsGone q None fate = q ≡ None
Fits Went IsGone q (Some b) Queued = q ≡ Some b
Fits Went IsGone q (Some b) (Sent k) = (q ≡ None) × Went k b
Fits Went IsGone q (Some b) (Lost n) = (q ≡ None) × IsGone n b

pub no_fault : (found : Option Item) → queued_fault found ≡ None → found ≡ None
no_fault None is = refl
no_fault (Some item) is = cc

-- the same path has the same queued body
queued_same : (p q : PathParts) (t : Table) → same_path p q ≡ true → queued_at p t.entries ≡ queued_at q t.entries
queued_same p q t same = ap (option_and_then queued_body) (entry_same p q t.entries same)

-- whether the body closed last still waits and is in this file
abbrev waits_in : ℕ → Fate → Option BodyId → Bool
waits_in file fate last = is_queued fate && has_file file last

module _ (Went : ℕ → BodyId → Type 0) where
  fits_moves : (L M : ℕ → BodyId → Type 0) (q last : Option BodyId) (fate : Fate) → ((n : ℕ) (b : BodyId) → L n b → M n b) → Fits Went L q last fate → Fits Went M q last fate
  fits_moves L M q None fate more fit = fit
  fits_moves L M q (Some b) Queued more fit = fit
  fits_moves L M q (Some b) (Sent k) more fit = fit
  fits_moves L M q (Some b) (Lost n) more fit = (fit.0, more n b fit.1)

  fits_sent : (L : ℕ → BodyId → Type 0) (q last : Option BodyId) (fate : Fate) (file k : ℕ) → ((b : BodyId) → nat_eq b.file file ≡ true → Went k b)
      → Fits Went L q last fate → Fits Went L (without file q) last (if waits_in file fate last then Sent k else fate)
  fits_sent L q None Queued file k good fit = ap (without file) fit
  fits_sent L q None (Sent m) file k good fit = ap (without file) fit
  fits_sent L q None (Lost m) file k good fit = ap (without file) fit
  fits_sent L q (Some b) (Sent m) file k good fit = (ap (without file) fit.0, fit.1)
  fits_sent L q (Some b) (Lost m) file k good fit = (ap (without file) fit.0, fit.1)
  fits_sent L q (Some b) Queued file k good fit =
      subst (λ (q : Option BodyId). Fits Went L (without file q) (Some b) (if nat_eq b.file file then Sent k else Queued)) (sym fit) (by (nat_eq b.file file) refl)
    where
      by : (t : Bool) → nat_eq b.file file ≡ t → Fits Went L (if t then None else Some b) (Some b) (if t then Sent k else Queued)
      by true is = (refl, good b is)
      by false is = refl

  fits_lost : (L M : ℕ → BodyId → Type 0) (q last : Option BodyId) (fate : Fate) (file n : ℕ) → ((n : ℕ) (b : BodyId) → L n b → M n b) → ((b : BodyId) → q ≡ Some b → M n b) → has_file file q ≡ true
      → Fits Went L q last fate → Fits Went M None last (if waits_in file fate last then Lost n else fate)
  fits_lost L M q None Queued file n more new holds fit = refl
  fits_lost L M q None (Sent m) file n more new holds fit = refl
  fits_lost L M q None (Lost m) file n more new holds fit = refl
  fits_lost L M q (Some b) (Sent m) file n more new holds fit = (refl, fit.1)
  fits_lost L M q (Some b) (Lost m) file n more new holds fit = (refl, more m b fit.1)
  fits_lost L M q (Some b) Queued file n more new holds fit =
      let h : nat_eq b.file file ≡ true = subst (λ (q : Option BodyId). has_file file q ≡ true) fit holds in
      subst (λ (t : Bool). Fits Went M None (Some b) (if t then Lost n else Queued)) (sym h) (refl, new b fit)

  -- a story that goes with a table, one step later
  pub record StoryFits (path : PathParts) (before : ℕ) (st : Story) (t : DeskTable) : Type 0 where
    pub job : st.job ≡ t.job
    pub count : st.count ≡ before + 1
    pub fits : Fits Went (IsLostAs t.index path) (queued_at path t.index.entries) st.last st.fate

  -- a step from a story to a table
  abbrev pub StepFits : PathParts → Story → Deed → Mark → Option Told → DeskTable → Type 0
  StepFits path st deed mark told t = StoryFits path st.count (tell path st deed mark told) t

  module _ (path : PathParts) (t : DeskTable) (last : Option BodyId) (fate : Fate) (count : ℕ) (fit : Fits Went (IsLostAs t.index path) (queued_at path t.index.entries) last fate) where
    abbrev at : Option Flight → Story
    at job = record { last = last; fate = fate; job = job; count = count }

    -- the deed, with this effect, fits
    abbrev pub EffectFits : Option Flight → Deed → Effect → Type 0
    EffectFits job deed e = StepFits path (at job) deed e.mark e.told (changed t e)

    -- another table with the same queued body and no less lost
    abbrev FitsOn : Table → Type 0
    FitsOn u = Fits Went (IsLostAs u path) (queued_at path u.entries) last fate

    fits_on : (u : Table) → queued_at path u.entries ≡ queued_at path t.index.entries → ((x : LostItem) → Contains t.index.lost x → Contains u.lost x) → FitsOn u
    fits_on u same more =
        subst (λ (q : Option BodyId). Fits Went (IsLostAs u path) q last fate) (sym same)
        (fits_moves (IsLostAs t.index path) (IsLostAs u path) (queued_at path t.index.entries) last fate (λ n b l. lost_more t.index u path n b more l) fit)

    fits_waited : (w : Option Wait) → FitsOn (waited t.index w)
    fits_waited w = fits_on (waited t.index w) (waited_queued path t.index w) (λ x there. subst (λ (ls : List LostItem). Contains ls x) (sym (waited_lost t.index w)) there)

    abbrev closed_table : PathParts → ℕ → BodyId → Table
    closed_table p now b = (changed t (store_effect t p now (Some b))).index

    abbrev ClosedFits : PathParts → ℕ → BodyId → Bool → Type 0
    ClosedFits p now b c = Fits Went (IsLostAs (closed_table p now b) path) (queued_at path (closed_table p now b).entries) (if c then Some b else last) (if c then Queued else fate)

    pub store_fits : (job : Option Flight) (p : PathParts) (len now : ℕ) (body : Option BodyId) → job ≡ t.job → EffectFits job (Store p len body) (store_effect t p now body)
    store_fits job p len now None same = record { job = same; count = refl; fits = fit }
    store_fits job p len now (Some b) same = record { job = same; count = refl; fits = by_test (same_path path p) here other }
      where
        here : same_path path p ≡ true → ClosedFits p now b (same_path path p)
        here is = subst (ClosedFits p now b) (sym is) (waited_queued path (replay t.index (records.Closed (bare p) b)) (store_effect t p now (Some b)).waits ∙ closed_here path p b t.index is)

        other : same_path path p ≡ false → ClosedFits p now b (same_path path p)
        other is = subst (ClosedFits p now b) (sym is) (fits_on (closed_table p now b) (waited_queued path (replay t.index (records.Closed (bare p) b)) (store_effect t p now (Some b)).waits ∙ closed_other path p b t.index is) (λ x there. there))

    pub forget_fits : (job : Option Flight) (p : PathParts) (locks below : Bool) → job ≡ t.job → queued_with p below t.index.entries ≡ None → EffectFits job (Forget p locks below) (forget_effect t p locks below)
    forget_fits job p locks below same none = record { job = same; count = refl; fits = by (going p below t.index.entries) }
      where
        by : (items : List Item) → FitsOn (recorded t.index (forgot_record p locks below items))
        by [] = fit
        by (x ∷ xs) = fits_on (replay t.index (records.Forgot p locks below)) (forgot_queued path p locks below t.index none) (λ x there. there)

    pub take_fits : (job flight : Option Flight) → job ≡ t.job → EffectFits job Take (take_effect t flight)
    take_fits job None same = record { job = same; count = refl; fits = fit }
    take_fits job (Some flight) same = record { job = refl; count = refl; fits = fits_waited (tried t flight) }

    stop_fits : (job : Option Flight) → job ≡ t.job → EffectFits job Stop (stop_effect t)
    stop_fits job same = record { job = same; count = refl; fits = fit }

    module _ (flight : Flight) (number : ℕ) where
      abbrev sent_table : Seen → Table
      sent_table seen = replay t.index (records.Sent flight.path flight.body.file seen)

      abbrev SentFits : Seen → Bool → Type 0
      SentFits seen c = Fits Went (IsLostAs (sent_table seen) path) (queued_at path (sent_table seen).entries) last (if c && waits_in flight.body.file fate last then Sent count else fate)

      abbrev lost_table : ℕ → Table
      lost_table n = replay t.index (records.Lost n flight.path false)

      abbrev LostFits : ℕ → Bool → Type 0
      LostFits n c = Fits Went (IsLostAs (lost_table n) path) (queued_at path (lost_table n).entries) last (if c && waits_in flight.body.file fate last then Lost n else fate)

      sent_on : (seen : Seen) → ((b : BodyId) → same_path path flight.path ≡ true → nat_eq b.file flight.body.file ≡ true → Went count b)
          → Fits Went (IsLostAs (replay t.index (records.Sent flight.path flight.body.file seen)) path) (queued_at path (replay t.index (records.Sent flight.path flight.body.file seen)).entries) last (if is_about path (at (Some flight)) (Some flight) then Sent count else fate)
      sent_on seen good = by_test (same_path path flight.path) here other
        where
          here : same_path path flight.path ≡ true → SentFits seen (same_path path flight.path)
          here is = subst (SentFits seen) (sym is)
              (subst (λ (q : Option BodyId). Fits Went (IsLostAs (sent_table seen) path) q last (if waits_in flight.body.file fate last then Sent count else fate)) (sym (sent_here path flight.path flight.body.file seen t.index is))
              (fits_sent (IsLostAs (sent_table seen) path) (queued_at path t.index.entries) last fate flight.body.file count (λ b on. good b is on)
              (fits_moves (IsLostAs t.index path) (IsLostAs (sent_table seen) path) (queued_at path t.index.entries) last fate (λ n b l. lost_more t.index (sent_table seen) path n b (λ x there. there) l) fit)))

          other : same_path path flight.path ≡ false → SentFits seen (same_path path flight.path)
          other is = subst (SentFits seen) (sym is) (fits_on (sent_table seen) (sent_other path flight.path flight.body.file seen t.index is) (λ x there. there))

      lost_on : (n : ℕ) (b : BodyId) → queued_at flight.path t.index.entries ≡ Some b → nat_eq b.file flight.body.file ≡ true
          → Fits Went (IsLostAs (replay t.index (records.Lost n flight.path false)) path) (queued_at path (replay t.index (records.Lost n flight.path false)).entries) last (if is_about path (at (Some flight)) (Some flight) then Lost n else fate)
      lost_on n b is file = by_test (same_path path flight.path) here other
        where
          more : (m : ℕ) (c : BodyId) → IsLostAs t.index path m c → IsLostAs (lost_table n) path m c
          more m c l = lost_more t.index (lost_table n) path m c (λ x there. lost_before flight.path n t.index x there) l

          here : same_path path flight.path ≡ true → LostFits n (same_path path flight.path)
          here same =
              let at_path : queued_at path t.index.entries ≡ Some b = queued_same path flight.path t.index same ∙ is in
              subst (LostFits n) (sym same)
              (subst (λ (q : Option BodyId). Fits Went (IsLostAs (lost_table n) path) q last (if waits_in flight.body.file fate last then Lost n else fate)) (sym (lost_here path flight.path n t.index b is same))
              (fits_lost (IsLostAs t.index path) (IsLostAs (lost_table n) path) (queued_at path t.index.entries) last fate flight.body.file n more
              (λ c on. lost_new path flight.path n t.index c (sym (queued_same path flight.path t.index same) ∙ on) same) (ap (has_file flight.body.file) at_path ∙ file) fit))

          other : same_path path flight.path ≡ false → LostFits n (same_path path flight.path)
          other off = subst (LostFits n) (sym off) (fits_on (lost_table n) (lost_other path flight.path n t.index b is off) (λ x there. lost_before flight.path n t.index x there))

      -- a settling that isn't Sent, by what becomes of the bytes
      again_fits : (after : ℕ) (fated : Fated) → ((n : ℕ) → fated ≡ fates.Lost n → is_current t.index flight ≡ true) → EffectFits (Some flight) (Settle number (ends.Again after)) (settle_by_fate t flight (ends.Again after) fated)
      again_fits after fates.Clean lost = record { job = refl; count = refl; fits = fit }
      again_fits after fates.Superseded lost = record { job = refl; count = refl; fits = fit }
      again_fits after (fates.Waits n due) lost = record { job = refl; count = refl; fits = fits_waited (settle_by_fate t flight (ends.Again after) (fates.Waits n due)).waits }
      again_fits after (fates.Lost n) lost = by (queued_at flight.path t.index.entries) refl
        where
          by : (q : Option BodyId) → queued_at flight.path t.index.entries ≡ q → EffectFits (Some flight) (Settle number (ends.Again after)) (settle_by_fate t flight (ends.Again after) (fates.Lost n))
          by None is = absurd (false≢true (sym (ap (has_file flight.body.file) is) ∙ lost n refl))
          by (Some b) is = record { job = refl; count = refl; fits = lost_on n b is (sym (ap (has_file flight.body.file) is) ∙ lost n refl) }

      refused_job_fits : (fated : Fated) → ((n : ℕ) → fated ≡ fates.Lost n → is_current t.index flight ≡ true) → EffectFits (Some flight) (Settle number ends.Refused) (settle_by_fate t flight ends.Refused fated)
      refused_job_fits fates.Clean lost = record { job = refl; count = refl; fits = fit }
      refused_job_fits fates.Superseded lost = record { job = refl; count = refl; fits = fit }
      refused_job_fits (fates.Waits n due) lost = record { job = refl; count = refl; fits = fits_waited (settle_by_fate t flight ends.Refused (fates.Waits n due)).waits }
      refused_job_fits (fates.Lost n) lost = by (queued_at flight.path t.index.entries) refl
        where
          by : (q : Option BodyId) → queued_at flight.path t.index.entries ≡ q → EffectFits (Some flight) (Settle number ends.Refused) (settle_by_fate t flight ends.Refused (fates.Lost n))
          by None is = absurd (false≢true (sym (ap (has_file flight.body.file) is) ∙ lost n refl))
          by (Some b) is = record { job = refl; count = refl; fits = lost_on n b is (sym (ap (has_file flight.body.file) is) ∙ lost n refl) }

      sent_fits : (seen : Seen) (current : Bool) → ((b : BodyId) → same_path path flight.path ≡ true → nat_eq b.file flight.body.file ≡ true → Went count b)
          → EffectFits (Some flight) (Settle number (ends.Sent seen)) (settle_by_fate t flight (ends.Sent seen) (if current then fates.Clean else fates.Superseded))
      sent_fits seen true good = record { job = refl; count = refl; fits = sent_on seen good }
      sent_fits seen false good = record { job = refl; count = refl; fits = sent_on seen good }

      -- bytes are lost only where they are still queued
      loss_is_current : (now : ℕ) (done : Done) (n : ℕ) → fated_of t.index flight now done ≡ fates.Lost n → is_current t.index flight ≡ true
      loss_is_current now done n is = by (is_current t.index flight) is
        where
          by : (c : Bool) → (if c then fated_current t.index flight now done else fates.Superseded) ≡ fates.Lost n → c ≡ true
          by true is = refl
          by false is = cc

      job_fits : (now : ℕ) (done : Done) → ((b : BodyId) (seen : Seen) → done ≡ ends.Sent seen → same_path path flight.path ≡ true → nat_eq b.file flight.body.file ≡ true → Went count b)
          → EffectFits (Some flight) (Settle number done) (settle_by_fate t flight done (fated_of t.index flight now done))
      job_fits now (ends.Sent seen) good = sent_fits seen (is_current t.index flight) (λ b same file. good b seen refl same file)
      job_fits now (ends.Again after) good = again_fits after (fated_of t.index flight now (ends.Again after)) (λ n is. loss_is_current now (ends.Again after) n is)
      job_fits now ends.Refused good = refused_job_fits (fated_of t.index flight now ends.Refused) (λ n is. loss_is_current now ends.Refused n is)

    pub settle_fits : (job : Option Flight) (number now : ℕ) (done : Done) → job ≡ t.job
        → ((flight : Flight) (b : BodyId) (seen : Seen) → done ≡ ends.Sent seen → job ≡ Some flight → same_path path flight.path ≡ true → nat_eq b.file flight.body.file ≡ true → Went count b)
        → EffectFits job (Settle number done) (settle_effect t job now done)
    settle_fits None number now (ends.Sent seen) same good = record { job = same; count = refl; fits = fit }
    settle_fits None number now (ends.Again after) same good = record { job = same; count = refl; fits = fit }
    settle_fits None number now ends.Refused same good = record { job = same; count = refl; fits = fit }
    settle_fits (Some flight) number now done same good = job_fits flight number now done (λ b seen is path file. good flight b seen is refl path file)
