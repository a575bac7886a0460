-- A record brings together only what it names: each other file has no more bodies after it than before, and each other
-- number no more lost bytes.
use Rattle.std.proofs.Common.{◌≡◌, ℕ, ◌+◌, ◌≤◌, Bool, true, false, cond, List, [], ◌∷◌, ◌++◌, Option, Some, None, filter, refl, sym, ◌∙◌, ap, subst, arith, sum_by}
use Rattle.std.specs.Prelude.{nat_eq, not, option_and_then}
use Rattle.std.proofs.lemmas.Bool.{eqb-true, leb-true, le-leb}
use Rattle.std.proofs.lemmas.List.Sums.{sum_by-cons, sum_by-append}
use Rattle.dav_text.specs.Path.{PathParts}
use Rattle.dav_store.specs.declared.body_id.BodyId.{BodyId}
use Rattle.dav_index.specs.Item.{Item}
use Rattle.dav_index.specs.Items.{entry_at, with_entry_for, without_entry, goes_with}
use Rattle.dav_index.specs.Bounds.{IsWithin}
use Rattle.dav_index.specs.Tables.{waiting_body, queued_body, queued_at, has_file, closed_entry, sent_entry, emptied_entry, entries_after_loss, lost_as, without_number, replay}
use Rattle.dav_index.specs.Tests.{file_count, number_count, is_apart, is_numbered_apart}
use Rattle.dav_index.specs.declared.entry.Entry.{Entry}
use Rattle.dav_index.specs.declared.entry.Waiting.{Waiting}
use Rattle.dav_index.specs.declared.lost.LostItem.{LostItem}
use Rattle.dav_index.specs.declared.record.Record.{Record}
use Rattle.dav_index.specs.declared.record.Record.TheVariants.{Forgot, Closed, Sent, Lost, Dropped}
use Rattle.dav_index.specs.declared.table.Table.{Table}
use Rattle.dav_index.proofs.Weights.{weight, changed_weight, changed_less, new_weight, without_weight, going_weight}
use Rattle.dav_index.proofs.BoundLemmas.{Limits, within_to}

abbrev one_if : Bool → ℕ
one_if b = cond b 1 0

-- 1 for a body in this file
abbrev kept_in : ℕ → Entry → ℕ
kept_in file entry = one_if (has_file file entry.body)

abbrev lost_in : ℕ → LostItem → ℕ
lost_in file item = one_if (nat_eq item.body.file file)

-- 1 for lost bytes with this number
abbrev numbered : ℕ → LostItem → ℕ
numbered number item = one_if (nat_eq item.number number)

-- ---- files

without_less : (path : PathParts) (below : Bool) (g : Entry → ℕ) (items : List Item) → weight g (without_entry path below items) ≤ weight g items
without_less path below g items =
    let both : weight g (without_entry path below items) + weight g (filter (goes_with path below) items) ≡ weight g items = without_weight path below g items in
    omega arith

-- an entry that is put weighs what it weighs at most
put_less : (path : PathParts) (entry : Entry) (g : Entry → ℕ) (items : List Item) (o : Option Entry) → entry_at path items ≡ o → weight g (with_entry_for o path entry items) ≤ g entry + weight g items
put_less path entry g items None found =
    let new : weight g (with_entry_for None path entry items) ≡ g entry + weight g items = new_weight path entry g items in
    omega arith
put_less path entry g items (Some old) found =
    let new : weight g (with_entry_for (Some old) path entry items) + g old ≡ weight g items + g entry = changed_weight path (λ _. entry) g old items found in
    omega arith

-- the entry whose body is queued
record IsQueuedEntry (path : PathParts) (items : List Item) (body : BodyId) (old : Entry) : Type 0 where
  found : entry_at path items ≡ Some old
  body_is : old.body ≡ Some body

waiting_is : (queued : Option Waiting) (kept : Option BodyId) (body : BodyId) → waiting_body queued kept ≡ Some body → kept ≡ Some body
waiting_is None kept body is = cc
waiting_is (Some waiting) kept body is = is

queued_entry : (path : PathParts) (items : List Item) (body : BodyId) → queued_at path items ≡ Some body → (old : Entry) × IsQueuedEntry path items body old
queued_entry path items body is = by (entry_at path items) refl is
  where
    by : (o : Option Entry) → entry_at path items ≡ o → option_and_then queued_body o ≡ Some body → (old : Entry) × IsQueuedEntry path items body old
    by None found is = cc
    by (Some old) found is = (old, record { found = found; body_is = waiting_is old.queued old.body body is })

-- what is lost of a path leaves its entry
left_less : (path : PathParts) (stays : Bool) (row file : ℕ) (items : List Item) (body : BodyId) (old : Entry) → IsQueuedEntry path items body old
    → weight (kept_in file) (entries_after_loss path stays row items (Some body)) + one_if (nat_eq body.file file) ≤ weight (kept_in file) items
left_less path true row file items body old at =
    let own : kept_in file old ≡ one_if (nat_eq body.file file) = ap (λ (o : Option BodyId). one_if (has_file file o)) at.body_is in
    let left : weight (kept_in file) (entries_after_loss path true row items (Some body)) + kept_in file old ≡ weight (kept_in file) items + 0 = changed_weight path (emptied_entry row) (kept_in file) old items at.found in
    omega arith
left_less path false row file items body old at =
    let own : kept_in file old ≡ one_if (nat_eq body.file file) = ap (λ (o : Option BodyId). one_if (has_file file o)) at.body_is in
    let both : weight (kept_in file) (without_entry path false items) + weight (kept_in file) (filter (goes_with path false) items) ≡ weight (kept_in file) items = without_weight path false (kept_in file) items in
    let gone : kept_in file old ≤ weight (kept_in file) (filter (goes_with path false) items) = going_weight path (kept_in file) old items at.found in
    let left : weight (kept_in file) (entries_after_loss path false row items (Some body)) + one_if (nat_eq body.file file) ≤ weight (kept_in file) items = omega arith in left

-- how many bodies are in a file, of these entries and lost bytes
abbrev bodies_in : ℕ → List Item → List LostItem → ℕ
bodies_in file items lost = weight (kept_in file) items + sum_by (lost_in file) lost

loss_moves : (number : ℕ) (path : PathParts) (stays : Bool) (row file : ℕ) (items : List Item) (lost : List LostItem) (o : Option BodyId) → queued_at path items ≡ o
    → bodies_in file (entries_after_loss path stays row items o) (lost ++ lost_as number path o) ≤ bodies_in file items lost
loss_moves number path stays row file items lost None is =
    let same : sum_by (lost_in file) (lost ++ []) ≡ sum_by (lost_in file) lost + 0 = sum_by-append (lost_in file) lost [] in
    omega arith
loss_moves number path stays row file items lost (Some body) is =
    let at : (old : Entry) × IsQueuedEntry path items body old = queued_entry path items body is in
    let item : LostItem = record { number = number; path = path; body = body } in
    let left : weight (kept_in file) (entries_after_loss path stays row items (Some body)) + one_if (nat_eq body.file file) ≤ weight (kept_in file) items = left_less path stays row file items body at.0 at.1 in
    let more : sum_by (lost_in file) (lost ++ item ∷ []) ≡ sum_by (lost_in file) lost + sum_by (lost_in file) (item ∷ []) = sum_by-append (lost_in file) lost (item ∷ []) in
    let one : sum_by (lost_in file) (item ∷ []) ≡ one_if (nat_eq body.file file) + 0 = sum_by-cons (lost_in file) item [] in
    let l : weight (kept_in file) (entries_after_loss path stays row items (Some body)) + sum_by (lost_in file) (lost ++ item ∷ []) ≤ weight (kept_in file) items + sum_by (lost_in file) lost = omega arith in l

-- lost bytes that are dropped were in some file and had some number
dropped_less : (number : ℕ) (g : LostItem → ℕ) (lost : List LostItem) → sum_by g (without_number number lost) ≤ sum_by g lost
unfolding without_number
dropped_less number g [] = omega arith
dropped_less number g (x ∷ xs) = by (nat_eq x.number number) (dropped_less number g xs)
  where
    by : (b : Bool) → sum_by g (without_number number xs) ≤ sum_by g xs → sum_by g (cond (not b) (x ∷ without_number number xs) (without_number number xs)) ≤ sum_by g (x ∷ xs)
    by true less = let whole : sum_by g (x ∷ xs) ≡ g x + sum_by g xs = sum_by-cons g x xs in omega arith
    by false less =
        let whole : sum_by g (x ∷ xs) ≡ g x + sum_by g xs = sum_by-cons g x xs in
        let kept : sum_by g (x ∷ without_number number xs) ≡ g x + sum_by g (without_number number xs) = sum_by-cons g x (without_number number xs) in
        let l : sum_by g (x ∷ without_number number xs) ≤ sum_by g (x ∷ xs) = omega arith in l

-- a body that the record brings adds one to its own file alone
closed_file : (t : Table) (path : PathParts) (body : BodyId) (file : ℕ) → file_count t file ≤ 1 → is_apart (Closed path body) (replay t (Closed path body)) ≡ true → file_count (replay t (Closed path body)) file ≤ 1
closed_file t path body file was apart = by (nat_eq body.file file) refl
  where
    new : Table
    new = replay t (Closed path body)

    entry : Entry
    entry = closed_entry body (t.records + 1) (entry_at path t.entries)

    by : (b : Bool) → nat_eq body.file file ≡ b → file_count new file ≤ 1
    by true same = let P : ℕ → Type 0 = λ n. file_count new n ≤ 1 in subst P (eqb-true body.file file same) (leb-true (file_count new body.file) 1 apart)
    by false other =
        let put : weight (kept_in file) new.entries ≤ kept_in file entry + weight (kept_in file) t.entries = put_less path entry (kept_in file) t.entries (entry_at path t.entries) refl in
        let none : kept_in file entry ≡ 0 = ap one_if other in
        let old : weight (kept_in file) t.entries + sum_by (lost_in file) t.lost ≤ 1 = was in
        let l : weight (kept_in file) new.entries + sum_by (lost_in file) t.lost ≤ 1 = omega arith in l

file_after : (t : Table) (r : Record) (file : ℕ) → file_count t file ≤ 1 → is_apart r (replay t r) ≡ true → file_count (replay t r) file ≤ 1
file_after t (Forgot path locks below) file was apart =
    let less : weight (kept_in file) (without_entry path below t.entries) ≤ weight (kept_in file) t.entries = without_less path below (kept_in file) t.entries in
    let old : weight (kept_in file) t.entries + sum_by (lost_in file) t.lost ≤ 1 = was in
    let l : weight (kept_in file) (without_entry path below t.entries) + sum_by (lost_in file) t.lost ≤ 1 = omega arith in l
file_after t (Closed path body) file was apart = closed_file t path body file was apart
file_after t (Sent path sent seen) file was apart =
    let new : List Item = (replay t (Sent path sent seen)).entries in
    let less : weight (kept_in file) new ≤ weight (kept_in file) t.entries = changed_less path (sent_entry sent seen (t.records + 1)) (kept_in file) (λ e. omega arith) t.entries in
    let old : weight (kept_in file) t.entries + sum_by (lost_in file) t.lost ≤ 1 = was in
    let l : weight (kept_in file) new + sum_by (lost_in file) t.lost ≤ 1 = omega arith in l
file_after t (Lost number path stays) file was apart =
    let new : Table = replay t (Lost number path stays) in
    let moved : bodies_in file new.entries new.lost ≤ bodies_in file t.entries t.lost = loss_moves number path stays (t.records + 1) file t.entries t.lost (queued_at path t.entries) refl in
    let old : bodies_in file t.entries t.lost ≤ 1 = was in
    let l : bodies_in file new.entries new.lost ≤ 1 = omega arith in l
file_after t (Dropped number) file was apart =
    let less : sum_by (lost_in file) (without_number number t.lost) ≤ sum_by (lost_in file) t.lost = dropped_less number (lost_in file) t.lost in
    let old : weight (kept_in file) t.entries + sum_by (lost_in file) t.lost ≤ 1 = was in
    let l : weight (kept_in file) t.entries + sum_by (lost_in file) (without_number number t.lost) ≤ 1 = omega arith in l

-- ---- numbers

-- lost bytes add one to their own number alone
lost_number : (number other : ℕ) (path : PathParts) (lost : List LostItem) (o : Option BodyId) → nat_eq number other ≡ false → sum_by (numbered other) (lost ++ lost_as number path o) ≡ sum_by (numbered other) lost
lost_number number other path lost None differs = sum_by-append (numbered other) lost [] ∙ omega arith
lost_number number other path lost (Some body) differs =
    let item : LostItem = record { number = number; path = path; body = body } in
    let more : sum_by (numbered other) (lost ++ item ∷ []) ≡ sum_by (numbered other) lost + sum_by (numbered other) (item ∷ []) = sum_by-append (numbered other) lost (item ∷ []) in
    let one : sum_by (numbered other) (item ∷ []) ≡ numbered other item + 0 = sum_by-cons (numbered other) item [] in
    let none : numbered other item ≡ 0 = ap one_if differs in
    omega arith

number_after : (t : Table) (r : Record) (number : ℕ) → number_count t number ≤ 1 → is_numbered_apart r (replay t r) ≡ true → number_count (replay t r) number ≤ 1
number_after t (Forgot path locks below) number was apart = was
number_after t (Closed path body) number was apart = was
number_after t (Sent path file seen) number was apart = was
number_after t (Lost named path stays) number was apart = by (nat_eq named number) refl
  where
    new : Table
    new = replay t (Lost named path stays)

    by : (b : Bool) → nat_eq named number ≡ b → number_count new number ≤ 1
    by true same = let P : ℕ → Type 0 = λ n. number_count new n ≤ 1 in subst P (eqb-true named number same) (leb-true (number_count new named) 1 apart)
    by false other =
        let is : number_count new number ≡ number_count t number = lost_number named number path t.lost (queued_at path t.entries) other in
        let l : number_count new number ≤ 1 = omega (arith, was) in l
number_after t (Dropped named) number was apart =
    let less : sum_by (numbered number) (without_number named t.lost) ≤ sum_by (numbered number) t.lost = dropped_less named (numbered number) t.lost in
    let old : sum_by (numbered number) t.lost ≤ 1 = was in
    let l : sum_by (numbered number) (without_number named t.lost) ≤ 1 = omega arith in l

-- ---- the table after a record

pub files_after : (before t : Table) (r : Record) → IsWithin before → t ≡ replay before r → is_apart r t ≡ true → (file : ℕ) → file_count t file ≤ 1
files_after before t r within is apart file =
    let old : Limits before = within_to before within in
    let P : Table → Type 0 = λ (u : Table). is_apart r u ≡ true → file_count u file ≤ 1 in
    subst P (sym is) (file_after before r file (old.files file)) apart

pub numbers_after : (before t : Table) (r : Record) → IsWithin before → t ≡ replay before r → is_numbered_apart r t ≡ true → (number : ℕ) → number_count t number ≤ 1
numbers_after before t r within is apart number =
    let old : Limits before = within_to before within in
    let P : Table → Type 0 = λ (u : Table). is_numbered_apart r u ≡ true → number_count u number ≤ 1 in
    subst P (sym is) (number_after before r number (old.numbers number)) apart

-- and what a table within its bounds passes
pub apart_so : (t : Table) (r : Record) → Limits t → is_apart r t ≡ true
apart_so t (Forgot path locks below) h = refl
apart_so t (Closed path body) h = le-leb (file_count t body.file) 1 (h.files body.file)
apart_so t (Sent path file seen) h = refl
apart_so t (Lost number path stays) h = refl
apart_so t (Dropped number) h = refl

pub numbered_apart_so : (t : Table) (r : Record) → Limits t → is_numbered_apart r t ≡ true
numbered_apart_so t (Forgot path locks below) h = refl
numbered_apart_so t (Closed path body) h = refl
numbered_apart_so t (Sent path file seen) h = refl
numbered_apart_so t (Lost number path stays) h = le-leb (number_count t number) 1 (h.numbers number)
numbered_apart_so t (Dropped number) h = refl
