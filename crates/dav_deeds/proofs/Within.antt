-- Each change of a table keeps its bounds.
use Rattle.std.proofs.Common.{◌≡◌, ◌≢◌, ℕ, ◌+◌, ◌<◌, ◌≤◌, max, Bool, true, false, List, [], ◌∷◌, ◌++◌, length, Option, Some, None, is_some, nat_eq, refl, sym, ◌∙◌, ap, subst, arith, sum_by, count_by, length-append, if◌then◌else◌}
use Rattle.std.specs.Prelude.{option_map, option_and_then, filter}
use Rattle.std.proofs.lemmas.Bool.Decides.{nat_tests}
use Rattle.std.proofs.lemmas.List.Sums.{sum_by-cons, sum_by_push}
use Rattle.dav_text.specs.Path.{PathParts}
use Rattle.dav_text.specs.declared.tag.Seen.{Seen}
use Rattle.dav_text.specs.declared.tag.Seen.TheVariants.{Unknown, Absent, Untagged, Tagged}
use Rattle.dav_store.specs.declared.body_id.BodyId.{BodyId}
use Rattle.dav_index.specs.Item.{Item}
use Rattle.dav_index.specs.Items.{Every, has_path, same_path, comes_before, IsOrdered, PathsDiffer, IsMap, entry_at, with_changed, with_new, with_entry_for, goes_with, without_entry}
use Rattle.dav_index.specs.Records.{IsBare, IsNoted}
use Rattle.dav_index.specs.Tables.{waiting_body, queued_body, queued_at, has_file, sent_entry, entries_after_loss, lost_as, replay, waiting_so}
use Rattle.dav_index.specs.Bounds.{bodies_of, len_of, IsWithin}
use Rattle.dav_index.specs.declared.entry.Entry.{Entry}
use Rattle.dav_index.specs.declared.entry.Waiting.{Waiting}
use Rattle.dav_index.specs.declared.lost.LostItem.{LostItem}
use Rattle.dav_index.specs.declared.record.Record.TheVariants.{Forgot, Sent, Lost}
use Rattle.dav_index.specs.declared.table.Table.{Table}
use Rattle.dav_deeds.specs.Effects.{Wait, waited}
use Rattle.dav_index.proofs.HeadLemmas.{head_changed, head_without, none_changed, none_without}
use Rattle.dav_deeds.proofs.Ordered.{new_is_map}
use Rattle.dav_index.proofs.Weights.{weight, EachEntry, each_found, changed_weight, changed_less, new_weight, without_weight, going_weight, changed_each, new_each, without_each, changed_paths, length_weight}
use Rattle.dav_deeds.proofs.Bodies.{of_body, of_entry, in_file, bodies_weight, OfBody, EachBody, each_body, bodies_each, every_append, every_weaker}

-- what the bounds ask of an entry
abbrev pub IsKnown : Entry → Type 0
IsKnown e = e.seen ≢ Unknown

abbrev pub KeepsBody : Entry → Type 0
KeepsBody e = e.queued ≢ None → e.body ≢ None

abbrev pub queued_one : Entry → ℕ
queued_one e = if is_some e.queued then 1 else 0

abbrev pub bytes_in : Entry → ℕ
bytes_in e = len_of (queued_body e)

changed_map : (q : PathParts) (f : Entry → Entry) (items : List Item) → IsOrdered items → PathsDiffer items → IsOrdered (with_changed q f items) × PathsDiffer (with_changed q f items)
changed_map q f [] o d = subst (λ (l : List Item). IsOrdered l × PathsDiffer l) (sym (none_changed q f)) (tt, tt)
changed_map q f (x ∷ xs) o d = by (has_path q x) refl (changed_map q f xs o.1 d.1)
  where
    by : (b : Bool) → has_path q x ≡ b → IsOrdered (with_changed q f xs) × PathsDiffer (with_changed q f xs) → IsOrdered (with_changed q f (x ∷ xs)) × PathsDiffer (with_changed q f (x ∷ xs))
    by true is ih = subst (λ (l : List Item). IsOrdered l × PathsDiffer l) (sym (head_changed q f x xs true is)) (o, d)
    by false is ih = subst (λ (l : List Item). IsOrdered l × PathsDiffer l) (sym (head_changed q f x xs false is))
        ((changed_paths q f (λ p. comes_before p x.path ≡ false) xs o.0, ih.0), (changed_paths q f (λ p. same_path x.path p ≡ false) xs d.0, ih.1))

changed_is_map : (q : PathParts) (f : Entry → Entry) (items : List Item) → IsMap items → IsMap (with_changed q f items)
changed_is_map q f items m =
    let both : IsOrdered (with_changed q f items) × PathsDiffer (with_changed q f items) = changed_map q f items m.ordered m.differ in
    record { ordered = both.0; differ = both.1; paths = changed_paths q f IsBare items m.paths }

without_map : (q : PathParts) (below : Bool) (items : List Item) → IsOrdered items → PathsDiffer items → IsOrdered (without_entry q below items) × PathsDiffer (without_entry q below items)
without_map q below [] o d = subst (λ (l : List Item). IsOrdered l × PathsDiffer l) (sym (none_without q below)) (tt, tt)
without_map q below (x ∷ xs) o d = by (goes_with q below x) refl (without_map q below xs o.1 d.1)
  where
    by : (b : Bool) → goes_with q below x ≡ b → IsOrdered (without_entry q below xs) × PathsDiffer (without_entry q below xs) → IsOrdered (without_entry q below (x ∷ xs)) × PathsDiffer (without_entry q below (x ∷ xs))
    by true is ih = subst (λ (l : List Item). IsOrdered l × PathsDiffer l) (sym (head_without q below x xs true is)) ih
    by false is ih = subst (λ (l : List Item). IsOrdered l × PathsDiffer l) (sym (head_without q below x xs false is))
        ((without_each q below (λ (y : Item). comes_before y.path x.path ≡ false) xs o.0, ih.0), (without_each q below (λ (y : Item). has_path x.path y ≡ false) xs d.0, ih.1))

without_is_map : (q : PathParts) (below : Bool) (items : List Item) → IsMap items → IsMap (without_entry q below items)
without_is_map q below items m =
    let both : IsOrdered (without_entry q below items) × PathsDiffer (without_entry q below items) = without_map q below items m.ordered m.differ in
    record { ordered = both.0; differ = both.1; paths = without_each q below (λ (y : Item). IsBare y.path) items m.paths }

-- entries that hold no more than others, and are known and have bodies as they do
pub record IsLess (xs ys : List Item) : Type 1 where
  pub in_order : IsMap xs → IsMap ys
  pub known : EachEntry IsKnown xs → EachEntry IsKnown ys
  pub bodies : EachEntry KeepsBody xs → EachEntry KeepsBody ys
  pub each : (Q : BodyId → Type 0) → EachEntry (OfBody Q) xs → EachEntry (OfBody Q) ys
  pub count : length ys ≤ length xs
  pub queued : weight queued_one ys ≤ weight queued_one xs
  pub bytes : weight bytes_in ys ≤ weight bytes_in xs
  pub files : (c : BodyId → ℕ) → weight (of_entry c) ys ≤ weight (of_entry c) xs

-- a table with fewer entries, at another record
pub less_within : (t : Table) (ys : List Item) (row : ℕ) → IsLess t.entries ys → IsWithin t → IsWithin (record t { entries = ys; records = row })
less_within t ys row less w = record {
  in_order = less.in_order w.in_order;
  known = less.known w.known;
  queued_have_bodies = less.bodies w.queued_have_bodies;
  lost_paths = w.lost_paths;
  few_known = omega (arith, less.count, w.few_known);
  few_kept = omega (arith, less.queued, w.few_kept);
  few_bytes = omega (arith, less.bytes, w.few_bytes);
  short_bodies = bodies (λ (b : BodyId). b.len ≤ 8388608) w.short_bodies;
  files_differ = λ file.
      let old : sum_by (in_file file) (bodies_of t) ≡ weight (of_entry (in_file file)) t.entries + sum_by (λ (l : LostItem). in_file file l.body) t.lost = bodies_weight (in_file file) t in
      let new : sum_by (in_file file) (bodies_of u) ≡ weight (of_entry (in_file file)) ys + sum_by (λ (l : LostItem). in_file file l.body) t.lost = bodies_weight (in_file file) u in
      let fewer : weight (of_entry (in_file file)) ys ≤ weight (of_entry (in_file file)) t.entries = less.files (in_file file) in
      let one : sum_by (in_file file) (bodies_of t) ≤ 1 = w.files_differ file in
      let l : sum_by (in_file file) (bodies_of u) ≤ 1 = omega arith in
      l;
  files_begin = bodies (λ (b : BodyId). 2 ≤ b.file) w.files_begin;
  files_known = bodies (λ (b : BodyId). b.file < t.next_file) w.files_known;
  files_left = w.files_left;
  numbers_differ = w.numbers_differ;
  numbers_known = w.numbers_known;
  numbers_begin = w.numbers_begin;
  room_for_lost = omega (arith, less.queued, w.room_for_lost);
}
  where
    u : Table
    u = record t { entries = ys; records = row }

    bodies : (Q : BodyId → Type 0) → Every Q (bodies_of t) → Every Q (bodies_of u)
    bodies Q h = let e : EachBody Q t.entries t.lost = each_body Q t h in bodies_each Q u (record { kept = less.each Q e.kept; gone = e.gone })

-- a change of an entry by which it holds no more
pub record IsMild (f : Entry → Entry) : Type 0 where
  pub known : (e : Entry) → IsKnown e → IsKnown (f e)
  pub keeps : (e : Entry) → KeepsBody e → KeepsBody (f e)
  pub body : (e : Entry) → (f e).body ≡ e.body
  pub queued : (e : Entry) → queued_one (f e) ≤ queued_one e
  pub bytes : (e : Entry) → bytes_in (f e) ≤ bytes_in e

pub mild_less : (q : PathParts) (f : Entry → Entry) (items : List Item) → IsMild f → IsLess items (with_changed q f items)
mild_less q f items m = record {
  in_order = changed_is_map q f items;
  known = changed_each q f IsKnown m.known items;
  bodies = changed_each q f KeepsBody m.keeps items;
  each = λ Q. changed_each q f (OfBody Q) (λ e h b is. h b (sym (m.body e) ∙ is)) items;
  count =
      let old : length items ≡ weight (λ e. 1) items = length_weight items in
      let new : length (with_changed q f items) ≡ weight (λ e. 1) (with_changed q f items) = length_weight (with_changed q f items) in
      let less : weight (λ e. 1) (with_changed q f items) ≤ weight (λ e. 1) items = changed_less q f (λ e. 1) (λ e. omega arith) items in
      omega arith;
  queued = changed_less q f queued_one m.queued items;
  bytes = changed_less q f bytes_in m.bytes items;
  files = λ c. changed_less q f (of_entry c) (λ e. let same : of_body c (f e).body ≡ of_body c e.body = ap (of_body c) (m.body e) in omega arith) items;
}

pub gone_less : (q : PathParts) (below : Bool) (items : List Item) → IsLess items (without_entry q below items)
gone_less q below items = record {
  in_order = without_is_map q below items;
  known = without_each q below (λ (x : Item). IsKnown x.entry) items;
  bodies = without_each q below (λ (x : Item). KeepsBody x.entry) items;
  each = λ Q. without_each q below (λ (x : Item). OfBody Q x.entry) items;
  count =
      let old : length items ≡ weight (λ e. 1) items = length_weight items in
      let new : length (without_entry q below items) ≡ weight (λ e. 1) (without_entry q below items) = length_weight (without_entry q below items) in
      let less : weight (λ e. 1) (without_entry q below items) ≤ weight (λ e. 1) items = less_of (λ e. 1) in
      omega arith;
  queued = less_of queued_one;
  bytes = less_of bytes_in;
  files = λ c. less_of (of_entry c);
}
  where
    less_of : (g : Entry → ℕ) → weight g (without_entry q below items) ≤ weight g items
    less_of g = let both : weight g (without_entry q below items) + weight g (filter (goes_with q below) items) ≡ weight g items = without_weight q below g items in omega arith

-- bytes that wait otherwise
pub so_mild : (w : Waiting) → IsMild (waiting_so w)
so_mild w = record {
  known = λ e h. h;
  keeps = λ e h q. h (λ none. q (ap (option_map (λ _. w)) none));
  body = λ e. refl;
  queued = λ e. one e.queued;
  bytes = λ e. len e.queued e.body;
}
  where
    one : (q : Option Waiting) → (if is_some (option_map (λ _. w) q) then 1 else 0) ≤ (if is_some q then 1 else 0)
    one None = omega arith
    one (Some old) = omega arith

    len : (q : Option Waiting) (b : Option BodyId) → len_of (waiting_body (option_map (λ _. w) q) b) ≤ len_of (waiting_body q b)
    len None b = omega arith
    len (Some old) b = omega arith

noted_known : (seen : Seen) → IsNoted seen → seen ≢ Unknown
noted_known Unknown h = absurd h
noted_known Absent h = λ e. cc
noted_known Untagged h = λ e. cc
noted_known (Tagged tag) h = λ e. cc

-- a body that was sent
pub sent_mild : (file row : ℕ) (seen : Seen) → IsNoted seen → IsMild (sent_entry file seen row)
sent_mild file row seen noted = record {
  known = λ e h. noted_known seen noted;
  keeps = λ e h. keeps (has_file file e.body) e.queued e.body h;
  body = λ e. refl;
  queued = λ e. one (has_file file e.body) e.queued;
  bytes = λ e. len (has_file file e.body) e.queued e.body;
}
  where
    keeps : (t : Bool) (q : Option Waiting) (b : Option BodyId) → (q ≢ None → b ≢ None) → (if t then None else q) ≢ None → b ≢ None
    keeps true q b h k = absurd (k refl)
    keeps false q b h k = h k

    one : (t : Bool) (q : Option Waiting) → (if is_some (if t then None else q) then 1 else 0) ≤ (if is_some q then 1 else 0)
    one true None = omega arith
    one true (Some w) = omega arith
    one false q = omega arith

    len : (t : Bool) (q : Option Waiting) (b : Option BodyId) → len_of (waiting_body (if t then None else q) b) ≤ len_of (waiting_body q b)
    len true None b = omega arith
    len true (Some w) b = omega arith
    len false q b = omega arith

pub waited_within : (t : Table) (w : Option Wait) → IsWithin t → IsWithin (waited t w)
waited_within t None h = h
waited_within t (Some w) h = less_within t (with_changed w.path (waiting_so w.waiting) t.entries) t.records (mild_less w.path (waiting_so w.waiting) t.entries (so_mild w.waiting)) h

pub sent_within : (t : Table) (q : PathParts) (file : ℕ) (seen : Seen) → IsNoted seen → file < t.next_file → IsWithin t → IsWithin (replay t (Sent q file seen))
sent_within t q file seen noted known w =
    let new : List Item = with_changed q (sent_entry file seen (t.records + 1)) t.entries in
    let P : ℕ → ℕ → Type 0 = λ (f l : ℕ). IsWithin (record t { entries = new; records = t.records + 1; next_file = f; next_lost = l }) in
    let file_same : t.next_file ≡ max t.next_file (file + 1) = omega arith in
    let lost_same : t.next_lost ≡ max t.next_lost 0 = omega arith in
    subst (λ f. P f (max t.next_lost 0)) file_same (subst (λ l. P t.next_file l) lost_same
    (less_within t new (t.records + 1) (mild_less q (sent_entry file seen (t.records + 1)) t.entries (sent_mild file (t.records + 1) seen noted)) w))

pub forgot_within : (t : Table) (q : PathParts) (locks below : Bool) → IsWithin t → IsWithin (replay t (Forgot q locks below))
forgot_within t q locks below w =
    let new : List Item = without_entry q below t.entries in
    let P : ℕ → ℕ → Type 0 = λ (f l : ℕ). IsWithin (record t { entries = new; records = t.records + 1; next_file = f; next_lost = l }) in
    let file_same : t.next_file ≡ max t.next_file 0 = omega arith in
    let lost_same : t.next_lost ≡ max t.next_lost 0 = omega arith in
    subst (λ f. P f (max t.next_lost 0)) file_same (subst (λ l. P t.next_file l) lost_same
    (less_within t new (t.records + 1) (gone_less q below t.entries) w))

-- what the entry that a path had weighs
abbrev pub old_weight : (Entry → ℕ) → Option Entry → ℕ
old_weight g None = 0
old_weight g (Some old) = g old

-- the entries with one in the place of what a path had
pub record Puts (o : Option Entry) (e : Entry) (xs ys : List Item) : Type 1 where
  pub in_order : IsMap ys
  pub each : (P : Entry → Type 0) → P e → EachEntry P xs → EachEntry P ys
  pub sum : (g : Entry → ℕ) → weight g ys + old_weight g o ≡ weight g xs + g e

pub puts_by : (q : PathParts) (e : Entry) (items : List Item) → IsBare q → IsMap items → (o : Option Entry) → entry_at q items ≡ o → Puts o e items (with_entry_for o q e items)
puts_by q e items bare m None is = record {
  in_order = new_is_map q e items bare is m;
  each = λ P new h. new_each q e P new items h;
  sum = λ g. let w : weight g (with_new q e items) ≡ g e + weight g items = new_weight q e g items in omega arith;
}
puts_by q e items bare m (Some old) is = record {
  in_order = changed_is_map q (λ _. e) items m;
  each = λ P new h. changed_each q (λ _. e) P (λ _ _. new) items h;
  sum = λ g. changed_weight q (λ _. e) g old items is;
}

-- the entry whose body is queued
pub record IsQueuedEntry (q : PathParts) (items : List Item) (b : BodyId) (old : Entry) : Type 0 where
  pub found : entry_at q items ≡ Some old
  pub body : old.body ≡ Some b
  pub one : queued_one old ≡ 1

queued_parts : (q : Option Waiting) (o : Option BodyId) (b : BodyId) → waiting_body q o ≡ Some b → (o ≡ Some b) × ◌≡◌ {A = ℕ} (if is_some q then 1 else 0) 1
queued_parts None o b is = cc
queued_parts (Some w) o b is = (is, refl)

pub queued_entry : (q : PathParts) (items : List Item) (b : BodyId) → queued_at q items ≡ Some b → (old : Entry) × IsQueuedEntry q items b old
queued_entry q items b is = by (entry_at q items) refl is
  where
    by : (o : Option Entry) → entry_at q items ≡ o → option_and_then queued_body o ≡ Some b → (old : Entry) × IsQueuedEntry q items b old
    by None found is = cc
    by (Some old) found is =
        let parts : (old.body ≡ Some b) × (queued_one old ≡ 1) = queued_parts old.queued old.body b is in
        (old, record { found = found; body = parts.0; one = parts.1 })

abbrev pub one_if : Bool → ℕ
one_if t = if t then 1 else 0

-- 1 for lost bytes with this number
abbrev numbered : ℕ → LostItem → ℕ
numbered n x = if nat_eq x.number n then 1 else 0

count_push : (n m : ℕ) (ls : List LostItem) (l : LostItem) → sum_by (numbered n) (ls ++ l ∷ []) ≡ sum_by (numbered n) ls + numbered n l
count_push n m ls l = sum_by_push (numbered n) ls l

none_numbered : (n : ℕ) (ls : List LostItem) → Every (λ (x : LostItem). x.number < n) ls → sum_by (numbered n) ls ≡ 0
none_numbered n [] h = refl
none_numbered n (l ∷ ls) h =
    let off : nat_eq l.number n ≡ false = let k : l.number < n = h.0 in grind (arith, nat_tests) in
    let head : sum_by (numbered n) (l ∷ ls) ≡ numbered n l + sum_by (numbered n) ls = sum_by-cons (numbered n) l ls in
    let zero : numbered n l ≡ 0 = ap one_if off in
    let ih : sum_by (numbered n) ls ≡ 0 = none_numbered n ls h.1 in
    omega arith

-- the queued bytes of a path are lost
module _ (t : Table) (q : PathParts) (b : BodyId) (bare : IsBare q) (w : IsWithin t) where
  abbrev lost_item : LostItem
  lost_item = record { number = t.next_lost; path = q; body = b }

  abbrev lost_entries : List Item
  lost_entries = without_entry q false t.entries

  abbrev lost_table : Table
  lost_table = record t { entries = lost_entries; lost = t.lost ++ lost_item ∷ []; records = t.records + 1; next_lost = t.next_lost + 1 }

  module _ (old : Entry) (at : IsQueuedEntry q t.entries b old) where
    fewer : (g : Entry → ℕ) → weight g lost_entries + g old ≤ weight g t.entries
    fewer g =
        let both : weight g lost_entries + weight g (filter (goes_with q false) t.entries) ≡ weight g t.entries = without_weight q false g t.entries in
        let own : g old ≤ weight g (filter (goes_with q false) t.entries) = going_weight q g old t.entries at.found in
        omega arith

    pub lost_bodies : (Q : BodyId → Type 0) → Every Q (bodies_of t) → Every Q (bodies_of lost_table)
    lost_bodies Q h =
        let e : EachBody Q t.entries t.lost = each_body Q t h in
        bodies_each Q lost_table (record {
          kept = without_each q false (λ (x : Item). OfBody Q x.entry) t.entries e.kept;
          gone = every_append (λ (l : LostItem). Q l.body) t.lost (lost_item ∷ []) e.gone (own_body Q e.kept, tt);
        })
      where
        own_body : (Q : BodyId → Type 0) → EachEntry (OfBody Q) t.entries → Q b
        own_body Q h = each_found q (OfBody Q) t.entries old at.found h b at.body

    one_each : (n : ℕ) → count_by (λ (x : LostItem). nat_eq x.number n) (t.lost ++ lost_item ∷ []) ≤ 1
    one_each n = by (nat_eq t.next_lost n) refl
      where
        by : (c : Bool) → nat_eq t.next_lost n ≡ c → count_by (λ (x : LostItem). nat_eq x.number n) (t.lost ++ lost_item ∷ []) ≤ 1
        by true is =
            let same : t.next_lost ≡ n = grind (arith, nat_tests) in
            let none : sum_by (numbered n) t.lost ≡ 0 = none_numbered n t.lost (subst (λ m. Every (λ (x : LostItem). x.number < m) t.lost) same w.numbers_known) in
            let push : sum_by (numbered n) (t.lost ++ lost_item ∷ []) ≡ sum_by (numbered n) t.lost + numbered n lost_item = count_push n 0 t.lost lost_item in
            let one : numbered n lost_item ≡ 1 = ap one_if is in
            let l : sum_by (numbered n) (t.lost ++ lost_item ∷ []) ≤ 1 = omega arith in l
        by false is =
            let was : sum_by (numbered n) t.lost ≤ 1 = w.numbers_differ n in
            let push : sum_by (numbered n) (t.lost ++ lost_item ∷ []) ≡ sum_by (numbered n) t.lost + numbered n lost_item = count_push n 0 t.lost lost_item in
            let zero : numbered n lost_item ≡ 0 = ap one_if is in
            let l : sum_by (numbered n) (t.lost ++ lost_item ∷ []) ≤ 1 = omega arith in l

    table_within : IsWithin lost_table
    table_within = record {
      in_order = without_is_map q false t.entries w.in_order;
      known = without_each q false (λ (x : Item). IsKnown x.entry) t.entries w.known;
      queued_have_bodies = without_each q false (λ (x : Item). KeepsBody x.entry) t.entries w.queued_have_bodies;
      lost_paths = every_append (λ (l : LostItem). IsBare l.path) t.lost (lost_item ∷ []) w.lost_paths (bare, tt);
      few_known =
          let less : IsLess t.entries lost_entries = gone_less q false t.entries in
          omega (arith, less.count, w.few_known);
      few_kept =
          let f : weight queued_one lost_entries + queued_one old ≤ weight queued_one t.entries = fewer queued_one in
          let len : length (t.lost ++ lost_item ∷ []) ≡ length t.lost + 1 = length-append t.lost (lost_item ∷ []) in
          let was : weight queued_one t.entries + length t.lost ≤ 4096 = w.few_kept in
          let l : weight queued_one lost_entries + length (t.lost ++ lost_item ∷ []) ≤ 4096 = omega (arith, at.one) in l;
      few_bytes =
          let f : weight bytes_in lost_entries + bytes_in old ≤ weight bytes_in t.entries = fewer bytes_in in
          let was : weight bytes_in t.entries ≤ 1073741824 = w.few_bytes in
          let l : weight bytes_in lost_entries ≤ 1073741824 = omega arith in l;
      short_bodies = lost_bodies (λ (b : BodyId). b.len ≤ 8388608) w.short_bodies;
      files_differ = λ file.
          let before : sum_by (in_file file) (bodies_of t) ≡ weight (of_entry (in_file file)) t.entries + sum_by (λ (l : LostItem). in_file file l.body) t.lost = bodies_weight (in_file file) t in
          let now : sum_by (in_file file) (bodies_of lost_table) ≡ weight (of_entry (in_file file)) lost_entries + sum_by (λ (l : LostItem). in_file file l.body) (t.lost ++ lost_item ∷ []) = bodies_weight (in_file file) lost_table in
          let push : sum_by (λ (l : LostItem). in_file file l.body) (t.lost ++ lost_item ∷ []) ≡ sum_by (λ (l : LostItem). in_file file l.body) t.lost + in_file file b = sum_by_push (λ (l : LostItem). in_file file l.body) t.lost lost_item in
          let f : weight (of_entry (in_file file)) lost_entries + of_entry (in_file file) old ≤ weight (of_entry (in_file file)) t.entries = fewer (of_entry (in_file file)) in
          let own : of_entry (in_file file) old ≡ in_file file b = ap (of_body (in_file file)) at.body in
          let one : sum_by (in_file file) (bodies_of t) ≤ 1 = w.files_differ file in
          let l : sum_by (in_file file) (bodies_of lost_table) ≤ 1 = omega arith in l;
      files_begin = lost_bodies (λ (b : BodyId). 2 ≤ b.file) w.files_begin;
      files_known = lost_bodies (λ (b : BodyId). b.file < t.next_file) w.files_known;
      files_left = w.files_left;
      numbers_differ = one_each;
      numbers_known = every_append (λ (l : LostItem). l.number < t.next_lost + 1) t.lost (lost_item ∷ [])
          (every_weaker (λ (l : LostItem). l.number < t.next_lost) (λ (l : LostItem). l.number < t.next_lost + 1) t.lost (λ l k. omega arith) w.numbers_known) (omega arith, tt);
      numbers_begin = omega (arith, w.numbers_begin);
      room_for_lost =
          let f : weight queued_one lost_entries + queued_one old ≤ weight queued_one t.entries = fewer queued_one in
          let was : t.next_lost + weight queued_one t.entries < t.next_file = w.room_for_lost in
          let l : t.next_lost + 1 + weight queued_one lost_entries < t.next_file = omega (arith, at.one) in l;
    }

pub lost_within : (t : Table) (q : PathParts) (b : BodyId) → queued_at q t.entries ≡ Some b → IsBare q → IsWithin t → IsWithin (replay t (Lost t.next_lost q false))
lost_within t q b is bare w =
    let at : (old : Entry) × IsQueuedEntry q t.entries b old = queued_entry q t.entries b is in
    let same : lost_table t q b bare w ≡ record t { entries = lost_entries t q b bare w; lost = t.lost ++ lost_item t q b bare w ∷ []; records = t.records + 1; next_file = max t.next_file 0; next_lost = max t.next_lost (t.next_lost + 1) } =
    let f : t.next_file ≡ max t.next_file 0 = omega arith in
    let l : t.next_lost + 1 ≡ max t.next_lost (t.next_lost + 1) = omega arith in
    ap (λ n. record t { entries = lost_entries t q b bare w; lost = t.lost ++ lost_item t q b bare w ∷ []; records = t.records + 1; next_file = n; next_lost = t.next_lost + 1 }) f
    ∙ ap (λ n. record t { entries = lost_entries t q b bare w; lost = t.lost ++ lost_item t q b bare w ∷ []; records = t.records + 1; next_file = max t.next_file 0; next_lost = n }) l in
    let P : Option BodyId → Type 0 = λ (o : Option BodyId). IsWithin (record t { entries = entries_after_loss q false (t.records + 1) t.entries o; lost = t.lost ++ lost_as t.next_lost q o; records = t.records + 1; next_file = max t.next_file 0; next_lost = max t.next_lost (t.next_lost + 1) }) in
    subst P (sym is) (subst IsWithin same (table_within t q b bare w at.0 at.1))
