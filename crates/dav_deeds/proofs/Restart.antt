-- A start finds the table that the records give.
use Rattle.std.proofs.Common.{◌≡◌, ℕ, ◌+◌, Bool, true, false, List, [], ◌∷◌, ◌++◌, map, Option, Some, None, refl, sym, ◌∙◌, ap, if◌then◌else◌}
use Rattle.std.specs.Prelude.{option_map, option_and_then}
use Rattle.dav_text.specs.Path.{PathParts}
use Rattle.dav_text.specs.declared.tag.Seen.{Seen}
use Rattle.dav_store.specs.declared.body_id.BodyId.{BodyId}
use Rattle.dav_index.specs.Item.{Item}
use Rattle.dav_index.specs.Items.{has_path, comes_before, entry_at, with_changed, with_new, with_entry_for, with_entry, goes_with, without_entry}
use Rattle.dav_index.specs.Tables.{waiting_body, queued_body, queued_at, closed_entry, has_file, sent_entry, emptied_entry, entries_after_loss, entries_after, lost_as, lost_after, replay, restarted_waiting, restarted_item, restarted, waiting_so}
use Rattle.dav_index.specs.declared.entry.Entry.{Entry}
use Rattle.dav_index.specs.declared.entry.Waiting.{Waiting}
use Rattle.dav_index.specs.declared.lost.LostItem.{LostItem}
use Rattle.dav_index.specs.declared.record.Record.{Record}
use Rattle.dav_index.specs.declared.record.Record.TheVariants.{Forgot, Closed, Sent, Lost, Dropped}
use Rattle.dav_index.specs.declared.table.Table.{Table}
use Rattle.dav_index.proofs.HeadLemmas.{head_found, head_changed, head_new, head_without, none_found, none_changed, none_new, none_without}
use Rattle.dav_deeds.specs.DeskTable.{DeskTable, reopened, started}
use Rattle.dav_deeds.specs.declared.deed.Deed.{Deed}
use Rattle.dav_deeds.specs.Effects.{Wait, Effect, waited, recorded, changed, effect_of, after, record_of}

abbrev restarted_entry : Entry → Entry
restarted_entry e = record { seen = e.seen; body = e.body; queued = restarted_waiting e.queued; age = e.age }

abbrev again : List Item → List Item
again items = map restarted_item items

found_again : (q : PathParts) (items : List Item) → entry_at q (again items) ≡ option_map restarted_entry (entry_at q items)
found_again q [] = none_found q ∙ sym (ap (option_map restarted_entry) (none_found q))
found_again q (x ∷ xs) = by (has_path q x) refl (found_again q xs)
  where
    by : (b : Bool) → has_path q x ≡ b → entry_at q (again xs) ≡ option_map restarted_entry (entry_at q xs) → entry_at q (restarted_item x ∷ again xs) ≡ option_map restarted_entry (entry_at q (x ∷ xs))
    by true is ih = head_found q (restarted_item x) (again xs) true is ∙ sym (ap (option_map restarted_entry) (head_found q x xs true is))
    by false is ih = head_found q (restarted_item x) (again xs) false is ∙ ih ∙ sym (ap (option_map restarted_entry) (head_found q x xs false is))

changed_again : (q : PathParts) (f g : Entry → Entry) → ((e : Entry) → restarted_entry (f e) ≡ g (restarted_entry e)) → (items : List Item) → again (with_changed q f items) ≡ with_changed q g (again items)
changed_again q f g both [] = ap again (none_changed q f) ∙ sym (none_changed q g)
changed_again q f g both (x ∷ xs) = by (has_path q x) refl (changed_again q f g both xs)
  where
    by : (b : Bool) → has_path q x ≡ b → again (with_changed q f xs) ≡ with_changed q g (again xs) → again (with_changed q f (x ∷ xs)) ≡ with_changed q g (again (x ∷ xs))
    by true is ih = ap again (head_changed q f x xs true is) ∙ ap (λ (e : Entry). record { path = x.path; entry = e } ∷ again xs) (both x.entry) ∙ sym (head_changed q g (restarted_item x) (again xs) true is)
    by false is ih = ap again (head_changed q f x xs false is) ∙ ap (λ (l : List Item). restarted_item x ∷ l) ih ∙ sym (head_changed q g (restarted_item x) (again xs) false is)

-- a change that a start undoes
undone_again : (q : PathParts) (f : Entry → Entry) → ((e : Entry) → restarted_entry (f e) ≡ restarted_entry e) → (items : List Item) → again (with_changed q f items) ≡ again items
undone_again q f same [] = ap again (none_changed q f)
undone_again q f same (x ∷ xs) = by (has_path q x) refl (undone_again q f same xs)
  where
    by : (b : Bool) → has_path q x ≡ b → again (with_changed q f xs) ≡ again xs → again (with_changed q f (x ∷ xs)) ≡ again (x ∷ xs)
    by true is ih = ap again (head_changed q f x xs true is) ∙ ap (λ (e : Entry). record { path = x.path; entry = e } ∷ again xs) (same x.entry)
    by false is ih = ap again (head_changed q f x xs false is) ∙ ap (λ (l : List Item). restarted_item x ∷ l) ih

new_again : (q : PathParts) (e : Entry) (items : List Item) → again (with_new q e items) ≡ with_new q (restarted_entry e) (again items)
new_again q e [] = ap again (none_new q e) ∙ sym (none_new q (restarted_entry e))
new_again q e (x ∷ xs) = by (comes_before q x.path) refl (new_again q e xs)
  where
    by : (b : Bool) → comes_before q x.path ≡ b → again (with_new q e xs) ≡ with_new q (restarted_entry e) (again xs) → again (with_new q e (x ∷ xs)) ≡ with_new q (restarted_entry e) (again (x ∷ xs))
    by true is ih = ap again (head_new q e x xs true is) ∙ sym (head_new q (restarted_entry e) (restarted_item x) (again xs) true is)
    by false is ih = ap again (head_new q e x xs false is) ∙ ap (λ (l : List Item). restarted_item x ∷ l) ih ∙ sym (head_new q (restarted_entry e) (restarted_item x) (again xs) false is)

without_again : (q : PathParts) (below : Bool) (items : List Item) → again (without_entry q below items) ≡ without_entry q below (again items)
without_again q below [] = ap again (none_without q below) ∙ sym (none_without q below)
without_again q below (x ∷ xs) = by (goes_with q below x) refl (without_again q below xs)
  where
    by : (b : Bool) → goes_with q below x ≡ b → again (without_entry q below xs) ≡ without_entry q below (again xs) → again (without_entry q below (x ∷ xs)) ≡ without_entry q below (again (x ∷ xs))
    by true is ih = ap again (head_without q below x xs true is) ∙ ih ∙ sym (head_without q below (restarted_item x) (again xs) true is)
    by false is ih = ap again (head_without q below x xs false is) ∙ ap (λ (l : List Item). restarted_item x ∷ l) ih ∙ sym (head_without q below (restarted_item x) (again xs) false is)

entry_again : (q : PathParts) (e : Entry) (items : List Item) → again (with_entry q e items) ≡ with_entry q (restarted_entry e) (again items)
entry_again q e items = by (entry_at q items) ∙ ap (λ (o : Option Entry). with_entry_for o q (restarted_entry e) (again items)) (sym (found_again q items))
  where
    by : (o : Option Entry) → again (with_entry_for o q e items) ≡ with_entry_for (option_map restarted_entry o) q (restarted_entry e) (again items)
    by None = new_again q e items
    by (Some old) = changed_again q (λ _. e) (λ _. restarted_entry e) (λ _. refl) items

waiting_again : (q : Option Waiting) (b : Option BodyId) → waiting_body (restarted_waiting q) b ≡ waiting_body q b
waiting_again None b = refl
waiting_again (Some w) b = refl

queued_again : (q : PathParts) (items : List Item) → queued_at q (again items) ≡ queued_at q items
queued_again q items = ap (option_and_then queued_body) (found_again q items) ∙ by (entry_at q items)
  where
    by : (o : Option Entry) → option_and_then queued_body (option_map restarted_entry o) ≡ option_and_then queued_body o
    by None = refl
    by (Some e) = waiting_again e.queued e.body

closed_again : (body : BodyId) (row : ℕ) (o : Option Entry) → restarted_entry (closed_entry body row o) ≡ closed_entry body row (option_map restarted_entry o)
closed_again body row None = refl
closed_again body row (Some e) = refl

sent_again : (file row : ℕ) (seen : Seen) (e : Entry) → restarted_entry (sent_entry file seen row e) ≡ sent_entry file seen row (restarted_entry e)
sent_again file row seen e = by (has_file file e.body)
  where
    by : (b : Bool) → restarted_entry (record { seen = seen; body = e.body; queued = if b then None else e.queued; age = row })
        ≡ record { seen = seen; body = e.body; queued = if b then None else restarted_waiting e.queued; age = row }
    by true = refl
    by false = refl

loss_again : (q : PathParts) (stays : Bool) (row : ℕ) (items : List Item) (o : Option BodyId) → again (entries_after_loss q stays row items o) ≡ entries_after_loss q stays row (again items) o
loss_again q stays row items None = refl
loss_again q true row items (Some b) = changed_again q (emptied_entry row) (emptied_entry row) (λ e. refl) items
loss_again q false row items (Some b) = without_again q false items

-- a start after a record finds what the record does to what a start before it finds
entries_again : (items : List Item) (row : ℕ) (r : Record) → again (entries_after items row r) ≡ entries_after (again items) row r
entries_again items row (Forgot q locks below) = without_again q below items
entries_again items row (Closed q body) =
    entry_again q (closed_entry body row (entry_at q items)) items
    ∙ ap (λ (e : Entry). with_entry q e (again items)) (closed_again body row (entry_at q items) ∙ ap (closed_entry body row) (sym (found_again q items)))
entries_again items row (Sent q file seen) = changed_again q (sent_entry file seen row) (sent_entry file seen row) (sent_again file row seen) items
entries_again items row (Lost n q stays) =
    loss_again q stays row items (queued_at q items) ∙ ap (entries_after_loss q stays row (again items)) (sym (queued_again q items))
entries_again items row (Dropped n) = refl

lost_again : (items : List Item) (lost : List LostItem) (r : Record) → lost_after items lost r ≡ lost_after (again items) lost r
lost_again items lost (Forgot q locks below) = refl
lost_again items lost (Closed q body) = refl
lost_again items lost (Sent q file seen) = refl
lost_again items lost (Lost n q stays) = ap (λ (o : Option BodyId). lost ++ lost_as n q o) (sym (queued_again q items))
lost_again items lost (Dropped n) = refl

replay_again : (t : Table) (r : Record) → restarted (replay t r) ≡ replay (restarted t) r
replay_again t r =
    let entries : again (entries_after t.entries (t.records + 1) r) ≡ entries_after (again t.entries) (t.records + 1) r = entries_again t.entries (t.records + 1) r in
    let lost : lost_after t.entries t.lost r ≡ lost_after (again t.entries) t.lost r = lost_again t.entries t.lost r in
    cc

recorded_again : (t : Table) (o : Option Record) → restarted (recorded t o) ≡ recorded (restarted t) o
recorded_again t None = refl
recorded_again t (Some r) = replay_again t r

so_again : (w : Waiting) (e : Entry) → restarted_entry (waiting_so w e) ≡ restarted_entry e
so_again w e = ap (λ (q : Option Waiting). record { seen = e.seen; body = e.body; queued = q; age = e.age }) (by e.queued)
  where
    by : (q : Option Waiting) → restarted_waiting (option_map (λ _. w) q) ≡ restarted_waiting q
    by None = refl
    by (Some old) = refl

waited_again : (t : Table) (w : Option Wait) → restarted (waited t w) ≡ restarted t
waited_again t None = refl
waited_again t (Some w) = ap (λ (items : List Item). record t { entries = items }) (undone_again w.path (waiting_so w.waiting) (so_again w.waiting) t.entries)

pub changed_reopens : (t : DeskTable) (e : Effect) → reopened (changed t e) ≡ started (recorded (restarted t.index) e.on_record)
changed_reopens t e = ap started (waited_again (recorded t.index e.on_record) e.waits ∙ recorded_again t.index e.on_record)

pub reopens : (t : DeskTable) (now : ℕ) (deed : Deed) → reopened (after t now deed) ≡ started (recorded (reopened t).index (record_of t now deed))
reopens t now deed = changed_reopens t (effect_of t now deed)
