-- A close keeps the bounds of a table.
use Rattle.std.proofs.Common.{◌≡◌, ◌≢◌, ◌⊎◌, inl, inr, ℕ, ◌+◌, ◌-◌, ◌<◌, ◌≤◌, max, Bool, true, false, List, length, Option, Some, None, is_some, nat_eq, refl, sym, ◌∙◌, ap, subst, arith, sum_by, if◌then◌else◌}
use Rattle.std.specs.Prelude.{option_and_then}
use Rattle.std.proofs.lemmas.Bool.{eqb-true}
use Rattle.dav_text.specs.Path.{PathParts}
use Rattle.dav_text.specs.declared.tag.Seen.{Seen}
use Rattle.dav_text.specs.declared.tag.Seen.TheVariants.{Unknown, Absent, Untagged, Tagged}
use Rattle.dav_store.specs.declared.body_id.BodyId.{BodyId}
use Rattle.dav_index.specs.Item.{Item}
use Rattle.dav_index.specs.Items.{Every, entry_at, with_entry}
use Rattle.dav_index.specs.Records.{IsBare}
use Rattle.dav_index.specs.Tables.{waiting_body, queued_body, queued_at, closed_seen, seen_before_close, closed_entry, replay}
use Rattle.dav_index.specs.Bounds.{bodies_of, len_of, queued_count, queued_bytes, IsWithin}
use Rattle.dav_index.specs.declared.entry.Entry.{Entry}
use Rattle.dav_index.specs.declared.entry.Waiting.{Waiting}
use Rattle.dav_index.specs.declared.lost.LostItem.{LostItem}
use Rattle.dav_index.specs.declared.record.Record.TheVariants.{Closed}
use Rattle.dav_index.specs.declared.table.Table.{Table}
use Rattle.dav_index.proofs.Weights.{weight, length_weight}
use Rattle.dav_deeds.proofs.Bodies.{of_entry, in_file, bodies_weight, OfBody, EachBody, each_body, bodies_each, every_weaker, none_beyond}
use Rattle.dav_deeds.proofs.Within.{IsKnown, KeepsBody, queued_one, bytes_in, old_weight, Puts, puts_by, one_if}

closed_known : (seen : Seen) → closed_seen seen ≢ Unknown
closed_known Unknown = λ e. cc
closed_known Absent = λ e. cc
closed_known Untagged = λ e. cc
closed_known (Tagged tag) = λ e. cc

close_is_known : (o : Option Entry) → seen_before_close o ≢ Unknown
close_is_known None = λ e. cc
close_is_known (Some e) = closed_known e.seen

-- what is asked of the body and of the table that it is closed in
pub record MayClose (t : Table) (q : PathParts) (body : BodyId) : Type 0 where
  pub bare : IsBare q
  pub file_is : body.file ≡ t.next_file
  pub short : body.len ≤ 8388608
  pub files_left : t.next_file < 4294967295
  pub place : queued_at q t.entries ≡ None → queued_count t.entries + length t.lost < 4096
  pub bytes : queued_bytes t.entries - len_of (queued_at q t.entries) + body.len ≤ 1073741824
  pub known : entry_at q t.entries ≡ None → length t.entries < 16384

old_queued : (o : Option Entry) → (old_weight queued_one o ≡ 1) ⊎ (option_and_then queued_body o ≡ None)
old_queued None = inr refl
old_queued (Some e) = by e.queued
  where
    by : (q : Option Waiting) → ◌≡◌ {A = ℕ} (if is_some q then 1 else 0) 1 ⊎ (waiting_body q e.body ≡ None)
    by None = inr refl
    by (Some w) = inl refl

old_bytes : (o : Option Entry) → old_weight bytes_in o ≡ len_of (option_and_then queued_body o)
old_bytes None = refl
old_bytes (Some e) = refl

module _ (t : Table) (q : PathParts) (body : BodyId) (may : MayClose t q body) (w : IsWithin t) where
  abbrev entry : Entry
  entry = closed_entry body (t.records + 1) (entry_at q t.entries)

  abbrev items : List Item
  items = with_entry q entry t.entries

  abbrev closed_table : Table
  closed_table = record t { entries = items; records = t.records + 1; next_file = t.next_file + 1 }

  puts : Puts (entry_at q t.entries) entry t.entries items
  puts = puts_by q entry t.entries may.bare w.in_order (entry_at q t.entries) refl

  each_of : (Q : BodyId → Type 0) → Q body → Every Q (bodies_of t) → Every Q (bodies_of closed_table)
  each_of Q new h =
      let e : EachBody Q t.entries t.lost = each_body Q t h in
      bodies_each Q closed_table (record { kept = puts.each (OfBody Q) (λ b is. let same : body ≡ b = same_some body b is in subst Q same new) e.kept; gone = e.gone })
    where
      same_some : (a b : BodyId) → Some a ≡ Some b → a ≡ b
      same_some a b is = cc

  files : (file : ℕ) → sum_by (in_file file) (bodies_of closed_table) ≤ 1
  files file = by (nat_eq body.file file) refl
    where
      before : sum_by (in_file file) (bodies_of t) ≡ weight (of_entry (in_file file)) t.entries + sum_by (λ (l : LostItem). in_file file l.body) t.lost
      before = bodies_weight (in_file file) t

      now : sum_by (in_file file) (bodies_of closed_table) ≡ weight (of_entry (in_file file)) items + sum_by (λ (l : LostItem). in_file file l.body) t.lost
      now = bodies_weight (in_file file) closed_table

      sums : weight (of_entry (in_file file)) items + old_weight (of_entry (in_file file)) (entry_at q t.entries) ≡ weight (of_entry (in_file file)) t.entries + in_file file body
      sums = puts.sum (of_entry (in_file file))

      by : (c : Bool) → nat_eq body.file file ≡ c → sum_by (in_file file) (bodies_of closed_table) ≤ 1
      by true is =
          let same : t.next_file ≡ file = sym may.file_is ∙ eqb-true body.file file is in
          let none : sum_by (in_file file) (bodies_of t) ≡ 0 = none_beyond file (bodies_of t) (subst (λ n. Every (λ (b : BodyId). b.file < n) (bodies_of t)) same w.files_known) in
          let one : in_file file body ≡ 1 = ap one_if is in
          omega (arith, before, now, sums)
      by false is =
          let zero : in_file file body ≡ 0 = ap one_if is in
          let was : sum_by (in_file file) (bodies_of t) ≤ 1 = w.files_differ file in
          omega (arith, before, now, sums)

  two_files : 2 ≤ body.file
  two_files = omega (arith, may.file_is, w.room_for_lost, w.numbers_begin)

  queued_now : weight queued_one items + old_weight queued_one (entry_at q t.entries) ≡ weight queued_one t.entries + 1
  queued_now = puts.sum queued_one

  closed_within : IsWithin closed_table
  closed_within = record {
    in_order = puts.in_order;
    known = puts.each IsKnown (close_is_known (entry_at q t.entries)) w.known;
    queued_have_bodies = puts.each KeepsBody (λ h none. cc) w.queued_have_bodies;
    lost_paths = w.lost_paths;
    few_known =
        let old : length t.entries ≡ weight (λ e. 1) t.entries = length_weight t.entries in
        let new : length items ≡ weight (λ e. 1) items = length_weight items in
        let sum : weight (λ e. 1) items + old_weight (λ e. 1) (entry_at q t.entries) ≡ weight (λ e. 1) t.entries + 1 = puts.sum (λ e. 1) in
        by_entry (entry_at q t.entries) refl (weight (λ e. 1) items) (weight (λ e. 1) t.entries) sum (omega (arith, w.few_known)) (λ none. omega (arith, may.known none)) (length items) new;
    few_kept = kept (old_queued (entry_at q t.entries));
    few_bytes =
        let sum : weight bytes_in items + old_weight bytes_in (entry_at q t.entries) ≡ weight bytes_in t.entries + body.len = puts.sum bytes_in in
        let own : old_weight bytes_in (entry_at q t.entries) ≡ len_of (queued_at q t.entries) = old_bytes (entry_at q t.entries) in
        let may_be : weight bytes_in t.entries - len_of (queued_at q t.entries) + body.len ≤ 1073741824 = may.bytes in
        let l : weight bytes_in items ≤ 1073741824 = omega arith in l;
    short_bodies = each_of (λ (b : BodyId). b.len ≤ 8388608) may.short w.short_bodies;
    files_differ = files;
    files_begin = each_of (λ (b : BodyId). 2 ≤ b.file) two_files w.files_begin;
    files_known = each_of (λ (b : BodyId). b.file < t.next_file + 1) (omega (arith, may.file_is))
        (every_weaker (λ (b : BodyId). b.file < t.next_file) (λ (b : BodyId). b.file < t.next_file + 1) (bodies_of t) (λ b k. omega arith) w.files_known);
    files_left = omega (arith, may.files_left);
    numbers_differ = w.numbers_differ;
    numbers_known = w.numbers_known;
    numbers_begin = w.numbers_begin;
    room_for_lost = omega (arith, queued_now, w.room_for_lost);
  }
    where
      kept : (old_weight queued_one (entry_at q t.entries) ≡ 1) ⊎ (queued_at q t.entries ≡ None) → queued_count items + length t.lost ≤ 4096
      kept (inl one) = omega (arith, queued_now, w.few_kept)
      kept (inr none) = omega (arith, queued_now, may.place none)

      by_entry : (o : Option Entry) → entry_at q t.entries ≡ o → (a b : ℕ) → a + old_weight (λ e. 1) (entry_at q t.entries) ≡ b + 1 → b ≤ 16384 → (entry_at q t.entries ≡ None → b < 16384) → (n : ℕ) → n ≡ a → n ≤ 16384
      by_entry None is a b sum few less n same = omega (arith, less is)
      by_entry (Some old) is a b sum few less n same =
          let one : old_weight (λ e. 1) (entry_at q t.entries) ≡ 1 = ap (old_weight (λ e. 1)) is in
          omega arith

pub close_within : (t : Table) (q : PathParts) (body : BodyId) → MayClose t q body → IsWithin t → IsWithin (replay t (Closed q body))
close_within t q body may w =
    let f : t.next_file + 1 ≡ max t.next_file (body.file + 1) = omega (arith, may.file_is) in
    let l : t.next_lost ≡ max t.next_lost 0 = omega arith in
    let P : ℕ → ℕ → Type 0 = λ (n m : ℕ). IsWithin (record t { entries = with_entry q (closed_entry body (t.records + 1) (entry_at q t.entries)) t.entries; records = t.records + 1; next_file = n; next_lost = m }) in
    subst (λ n. P n (max t.next_lost 0)) f (subst (λ m. P (t.next_file + 1) m) l (closed_within t q body may w))
