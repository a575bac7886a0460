-- Which bodies a table names after a deed, and that no file of them is released.
use Rattle.std.proofs.Common.{◌≡◌, ◌⊎◌, inl, inr, ℕ, suc, ◌+◌, max, Bool, true, false, List, [], ◌∷◌, ◌++◌, Option, Some, None, Contains, refl, sym, subst, arith}
use Rattle.dav_text.specs.Path.{PathParts, IsPath}
use Rattle.dav_store.specs.declared.body_id.BodyId.{BodyId}
use Rattle.dav_index.specs.Item.{Item}
use Rattle.dav_index.specs.Items.{Every, entry_at, with_changed, with_entry, without_entry}
use Rattle.dav_index.specs.Tables.{queued_at, closed_entry, sent_entry, entries_after_loss, lost_as, replay, waiting_so}
use Rattle.dav_index.specs.Bounds.{bodies_of}
use Rattle.dav_index.specs.declared.entry.Entry.{Entry}
use Rattle.dav_index.specs.declared.record.Record.TheVariants as records
use Rattle.dav_index.specs.declared.table.Table.{Table}
use Rattle.dav_deeds.specs.declared.answer.Fated.{Fated}
use Rattle.dav_deeds.specs.declared.answer.Fated.TheVariants as fates
use Rattle.dav_deeds.specs.declared.answer.Flight.{Flight}
use Rattle.dav_deeds.specs.declared.ask.Done.{Done}
use Rattle.dav_deeds.specs.declared.ask.Done.TheVariants as ends
use Rattle.dav_deeds.specs.declared.deed.Deed.{Deed}
use Rattle.dav_deeds.specs.declared.deed.Deed.TheVariants.{Store, Forget, Take, Settle, Stop}
use Rattle.dav_deeds.specs.declared.fault.DeskFault.{DeskFault}
use Rattle.dav_deeds.specs.DeskTable.{DeskTable}
use Rattle.dav_deeds.specs.Refusals.{refusal_of}
use Rattle.dav_deeds.specs.Effects.{Wait, Effect, bare, store_effect, going, forgot_record, forget_effect, tried, take_effect, taken, is_current, fated_of, settle_by_fate, settle_effect, effect_done, effect_unless, effect_of, waited, recorded, changed, after}
use Rattle.dav_deeds.specs.Legal.{IsDone, IsDeed, new_body}
use Rattle.dav_deeds.specs.Sound.{IsFlightWithin, IsJobWithin, IsSound}
use Rattle.dav_deeds.proofs.Bodies.{OfBody, EachBody, each_body, bodies_each}
use Rattle.dav_deeds.proofs.Within.{IsLess, Puts, puts_by, mild_less, gone_less, so_mild, sent_mild, IsQueuedEntry, queued_entry, lost_bodies}
use Rattle.dav_deeds.proofs.Flying.{every_at}
use Rattle.dav_deeds.proofs.Sounds.{bare_is, loss_is}

less_bodies : (t : Table) (ys : List Item) (row f l : ℕ) → IsLess t.entries ys → (Q : BodyId → Type 0) → Every Q (bodies_of t) → Every Q (bodies_of (record { entries = ys; lost = t.lost; records = row; next_file = f; next_lost = l }))
less_bodies t ys row f l less Q h =
    let e : EachBody Q t.entries t.lost = each_body Q t h in
    bodies_each Q (record { entries = ys; lost = t.lost; records = row; next_file = f; next_lost = l }) (record { kept = less.each Q e.kept; gone = e.gone })

waited_bodies : (t : Table) (w : Option Wait) (Q : BodyId → Type 0) → Every Q (bodies_of t) → Every Q (bodies_of (waited t w))
waited_bodies t None Q h = h
waited_bodies t (Some w) Q h = less_bodies t (with_changed w.path (waiting_so w.waiting) t.entries) t.records t.next_file t.next_lost (mild_less w.path (waiting_so w.waiting) t.entries (so_mild w.waiting)) Q h

-- a fact of each body of the table, and of a new one, is one of each body afterwards
abbrev pub Stays : DeskTable → Deed → Effect → (BodyId → Type 0) → Type 0
Stays t deed e Q = Every Q (bodies_of t.index) → ((b : BodyId) → new_body deed ≡ Some b → Q b) → Every Q (bodies_of (changed t e).index)

module _ (t : DeskTable) (s : IsSound t) (Q : BodyId → Type 0) where
  pub store_stays : (now : ℕ) (path : PathParts) (len : ℕ) (body : Option BodyId) → IsPath path → Stays t (Store path len body) (store_effect t path now body) Q
  store_stays now path len None is h new = h
  store_stays now path len (Some b) is h new =
      let e : EachBody Q t.index.entries t.index.lost = each_body Q t.index h in
      let entry : Entry = closed_entry b (t.index.records + 1) (entry_at (bare path) t.index.entries) in
      let puts : Puts (entry_at (bare path) t.index.entries) entry t.index.entries (with_entry (bare path) entry t.index.entries) = puts_by (bare path) entry t.index.entries (bare_is path is) s.index.in_order (entry_at (bare path) t.index.entries) refl in
      waited_bodies (replay t.index (records.Closed (bare path) b)) (store_effect t path now (Some b)).waits Q
      (bodies_each Q (replay t.index (records.Closed (bare path) b)) (record { kept = puts.each (OfBody Q) (λ c on. let same : b ≡ c = same_some b c on in subst Q same (new b refl)) e.kept; gone = e.gone }))
    where
      same_some : (a b : BodyId) → Some a ≡ Some b → a ≡ b
      same_some a b is = cc

  pub forget_stays : (path : PathParts) (locks below : Bool) → Stays t (Forget path locks below) (forget_effect t path locks below) Q
  forget_stays path locks below h new = by (going path below t.index.entries)
    where
      by : (items : List Item) → Every Q (bodies_of (recorded t.index (forgot_record path locks below items)))
      by [] = h
      by (x ∷ xs) = less_bodies t.index (without_entry path below t.index.entries) (t.index.records + 1) (max t.index.next_file 0) (max t.index.next_lost 0) (gone_less path below t.index.entries) Q h

  pub take_stays : (o : Option Flight) → Stays t Take (take_effect t o) Q
  take_stays None h new = h
  take_stays (Some flight) h new = waited_bodies t.index (tried t flight) Q h

  loss_stays : (flight : Flight) (n : ℕ) → (n ≡ t.index.next_lost) × (is_current t.index flight ≡ true) → IsFlightWithin flight t.index → Every Q (bodies_of t.index) → Every Q (bodies_of (replay t.index (records.Lost n flight.path false)))
  loss_stays flight n lost within h = by (queued_at flight.path t.index.entries) refl
    where
      by : (q : Option BodyId) → queued_at flight.path t.index.entries ≡ q → Every Q (bodies_of (replay t.index (records.Lost n flight.path false)))
      by None is = absurd (within.queued is)
      by (Some b) is =
          let at : (old : Entry) × IsQueuedEntry flight.path t.index.entries b old = queued_entry flight.path t.index.entries b is in
          let P : Option BodyId → ℕ → Type 0 = λ (o : Option BodyId) (m : ℕ). Every Q (bodies_of (record { entries = entries_after_loss flight.path false (t.index.records + 1) t.index.entries o; lost = t.index.lost ++ lost_as m flight.path o; records = t.index.records + 1; next_file = max t.index.next_file 0; next_lost = max t.index.next_lost (m + 1) })) in
          subst (λ (o : Option BodyId). P o n) (sym is) (subst (λ m. P (Some b) m) (sym lost.0) (lost_bodies t.index flight.path b within.bare s.index at.0 at.1 Q h))

  fate_stays : (flight : Flight) (number : ℕ) (done : Done) (fated : Fated) → IsDone done → IsFlightWithin flight t.index → ((n : ℕ) → fated ≡ fates.Lost n → (n ≡ t.index.next_lost) × (is_current t.index flight ≡ true)) → Stays t (Settle number done) (settle_by_fate t flight done fated) Q
  fate_stays flight number (ends.Sent seen) fated noted within lost h new =
      waited_bodies (replay t.index (records.Sent flight.path flight.body.file seen)) (settle_by_fate t flight (ends.Sent seen) fated).waits Q
      (less_bodies t.index (with_changed flight.path (sent_entry flight.body.file seen (t.index.records + 1)) t.index.entries) (t.index.records + 1) (max t.index.next_file (flight.body.file + 1)) (max t.index.next_lost 0) (mild_less flight.path (sent_entry flight.body.file seen (t.index.records + 1)) t.index.entries (sent_mild flight.body.file (t.index.records + 1) seen noted)) Q h)
  fate_stays flight number (ends.Again after) fates.Clean noted within lost h new = h
  fate_stays flight number (ends.Again after) fates.Superseded noted within lost h new = h
  fate_stays flight number (ends.Again after) (fates.Waits n due) noted within lost h new = waited_bodies t.index (settle_by_fate t flight (ends.Again after) (fates.Waits n due)).waits Q h
  fate_stays flight number (ends.Again after) (fates.Lost n) noted within lost h new = loss_stays flight n (lost n refl) within h
  fate_stays flight number ends.Refused fates.Clean noted within lost h new = h
  fate_stays flight number ends.Refused fates.Superseded noted within lost h new = h
  fate_stays flight number ends.Refused (fates.Waits n due) noted within lost h new = waited_bodies t.index (settle_by_fate t flight ends.Refused (fates.Waits n due)).waits Q h
  fate_stays flight number ends.Refused (fates.Lost n) noted within lost h new = loss_stays flight n (lost n refl) within h

  pub settle_stays : (job : Option Flight) (number now : ℕ) (done : Done) → t.job ≡ job → IsDone done → Stays t (Settle number done) (settle_effect t job now done) Q
  settle_stays None number now done same noted h new = h
  settle_stays (Some flight) number now done same noted h new =
      fate_stays flight number done (fated_of t.index flight now done) noted (subst (λ (job : Option Flight). IsJobWithin job t.index) same s.job) (λ n is. loss_is t.index flight now done n is) h new
