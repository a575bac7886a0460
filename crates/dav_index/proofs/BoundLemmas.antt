-- The tests of a table's bounds, and the bounds.
use Rattle.std.proofs.Common.{◌≡◌, ◌≢◌, ℕ, ◌+◌, ◌<◌, ◌≤◌, Bool, true, cond, List, [], ◌∷◌, ◌++◌, Option, Some, None, refl, sym, ap, subst, ◌∙◌, arith}
use Rattle.std.specs.Prelude.{map, count_by, nat_eq, nat_le, nat_lt, not, ◌&&◌, ◌||◌, is_some}
use Rattle.std.specs.List.{list_all, filter_map, cons_option}
use Rattle.std.proofs.lemmas.Bool.{false≢true, leb-true, le-leb}
use Rattle.std.proofs.lemmas.Bool.Decides.{Decides-ltb}
use Rattle.std.proofs.lemmas.List.Sums.{sum_by-cons, sum_by-append}
use Rattle.dav_text.specs.declared.tag.Seen.{Seen}
use Rattle.dav_text.specs.declared.tag.Seen.TheVariants.{Unknown, Absent, Untagged, Tagged}
use Rattle.dav_store.specs.declared.body_id.BodyId.{BodyId}
use Rattle.dav_index.specs.Item.{Item}
use Rattle.dav_index.specs.Items.{Every, IsMap}
use Rattle.dav_index.specs.Records.{IsBare}
use Rattle.dav_index.specs.Tables.{fresh_table, has_file}
use Rattle.dav_index.specs.Bounds.{IsWithin, HasBody, bodies_of}
use Rattle.dav_index.specs.Tests.{HasRoom, is_known, is_body_within, is_kept_within, waits_well, is_entry_within, is_lost_within, file_count, number_count}
use Rattle.dav_index.specs.declared.entry.Waiting.{Waiting}
use Rattle.dav_index.specs.declared.lost.LostItem.{LostItem}
use Rattle.dav_index.specs.declared.table.Table.{Table}
use Rattle.dav_index.proofs.Segments.{and_first, and_second, and_both}

-- ---- lists

pub all_from : {X : Type 0} (p : X → Bool) (xs : List X) → list_all p xs ≡ true → Every (λ x. p x ≡ true) xs
all_from p [] h = tt
all_from p (x ∷ xs) h = (and_first (p x) (list_all p xs) h, all_from p xs (and_second (p x) (list_all p xs) h))

pub all_to : {X : Type 0} (p : X → Bool) (xs : List X) → Every (λ x. p x ≡ true) xs → list_all p xs ≡ true
all_to p [] h = refl
all_to p (x ∷ xs) h = and_both (p x) (list_all p xs) h.0 (all_to p xs h.1)

pub every_so : {X : Type 0} (P Q : X → Type 0) (xs : List X) → ((x : X) → P x → Q x) → Every P xs → Every Q xs
every_so P Q [] so h = h
every_so P Q (x ∷ xs) so h = (so x h.0, every_so P Q xs so h.1)

pub every_two : {X : Type 0} (P Q R : X → Type 0) (xs : List X) → ((x : X) → P x → Q x → R x) → Every P xs → Every Q xs → Every R xs
every_two P Q R [] so h k = h
every_two P Q R (x ∷ xs) so h k = (so x h.0 k.0, every_two P Q R xs so h.1 k.1)

every_append : {X : Type 0} (P : X → Type 0) (xs ys : List X) → Every P xs → Every P ys → Every P (xs ++ ys)
every_append P [] ys h k = k
every_append P (x ∷ xs) ys h k = (h.0, every_append P xs ys h.1 k)

every_front : {X : Type 0} (P : X → Type 0) (xs ys : List X) → Every P (xs ++ ys) → Every P xs
every_front P [] ys h = tt
every_front P (x ∷ xs) ys h = (h.0, every_front P xs ys h.1)

every_back : {X : Type 0} (P : X → Type 0) (xs ys : List X) → Every P (xs ++ ys) → Every P ys
every_back P [] ys h = h
every_back P (x ∷ xs) ys h = every_back P xs ys h.1

-- a fact of a body, if there is one
abbrev pub IfBody : (BodyId → Type 0) → Option BodyId → Type 0
IfBody P None = Unit {0}
IfBody P (Some body) = P body

kept_from : (P : BodyId → Type 0) (items : List Item) → Every (λ (item : Item). IfBody P item.entry.body) items → Every P (filter_map (λ (item : Item). item.entry.body) items)
kept_from P [] h = tt
kept_from P (x ∷ xs) h = by x.entry.body h.0 (kept_from P xs h.1)
  where
    by : (o : Option BodyId) → IfBody P o → Every P (filter_map (λ (item : Item). item.entry.body) xs) → Every P (cons_option o (filter_map (λ (item : Item). item.entry.body) xs))
    by None here rest = rest
    by (Some body) here rest = (here, rest)

kept_to : (P : BodyId → Type 0) (items : List Item) → Every P (filter_map (λ (item : Item). item.entry.body) items) → Every (λ (item : Item). IfBody P item.entry.body) items
kept_to P [] h = tt
kept_to P (x ∷ xs) h = (head x.entry.body h, kept_to P xs (tail x.entry.body h))
  where
    head : (o : Option BodyId) → Every P (cons_option o (filter_map (λ (item : Item). item.entry.body) xs)) → IfBody P o
    head None all = tt
    head (Some body) all = all.0

    tail : (o : Option BodyId) → Every P (cons_option o (filter_map (λ (item : Item). item.entry.body) xs)) → Every P (filter_map (λ (item : Item). item.entry.body) xs)
    tail None all = all
    tail (Some body) all = all.1

lost_from : (P : BodyId → Type 0) (lost : List LostItem) → Every (λ (item : LostItem). P item.body) lost → Every P (map (λ (item : LostItem). item.body) lost)
lost_from P [] h = tt
lost_from P (x ∷ xs) h = (h.0, lost_from P xs h.1)

lost_to : (P : BodyId → Type 0) (lost : List LostItem) → Every P (map (λ (item : LostItem). item.body) lost) → Every (λ (item : LostItem). P item.body) lost
lost_to P [] h = tt
lost_to P (x ∷ xs) h = (h.0, lost_to P xs h.1)

pub bodies_from : (P : BodyId → Type 0) (t : Table) → Every (λ (item : Item). IfBody P item.entry.body) t.entries → Every (λ (item : LostItem). P item.body) t.lost → Every P (bodies_of t)
bodies_from P t kept lost = every_append P _ _ (kept_from P t.entries kept) (lost_from P t.lost lost)

pub bodies_kept : (P : BodyId → Type 0) (t : Table) → Every P (bodies_of t) → Every (λ (item : Item). IfBody P item.entry.body) t.entries
bodies_kept P t h = kept_to P t.entries (every_front P _ (map (λ (item : LostItem). item.body) t.lost) h)

pub bodies_lost : (P : BodyId → Type 0) (t : Table) → Every P (bodies_of t) → Every (λ (item : LostItem). P item.body) t.lost
bodies_lost P t h = lost_to P t.lost (every_back P (filter_map (λ (item : Item). item.entry.body) t.entries) _ h)

-- ---- counts

count_cons : {X : Type 0} (p : X → Bool) (x : X) (xs : List X) → count_by p (x ∷ xs) ≡ cond (p x) 1 0 + count_by p xs
count_cons p x xs = sum_by-cons (λ y. cond (p y) 1 0) x xs

count_kept : (file : ℕ) (items : List Item) → count_by (λ (body : BodyId). nat_eq body.file file) (filter_map (λ (item : Item). item.entry.body) items) ≡ count_by (λ (item : Item). has_file file item.entry.body) items
count_kept file [] = refl
count_kept file (x ∷ xs) = by x.entry.body (count_kept file xs) ∙ sym (count_cons (λ (item : Item). has_file file item.entry.body) x xs)
  where
    by : (o : Option BodyId) → count_by (λ (body : BodyId). nat_eq body.file file) (filter_map (λ (item : Item). item.entry.body) xs) ≡ count_by (λ (item : Item). has_file file item.entry.body) xs
        → count_by (λ (body : BodyId). nat_eq body.file file) (cons_option o (filter_map (λ (item : Item). item.entry.body) xs)) ≡ cond (has_file file o) 1 0 + count_by (λ (item : Item). has_file file item.entry.body) xs
    by None rest = omega (arith, rest)
    by (Some body) rest = count_cons (λ (b : BodyId). nat_eq b.file file) body (filter_map (λ (item : Item). item.entry.body) xs) ∙ ap (λ n. cond (nat_eq body.file file) 1 0 + n) rest

count_lost : (file : ℕ) (lost : List LostItem) → count_by (λ (body : BodyId). nat_eq body.file file) (map (λ (item : LostItem). item.body) lost) ≡ count_by (λ (item : LostItem). nat_eq item.body.file file) lost
count_lost file [] = refl
count_lost file (x ∷ xs) =
    count_cons (λ (b : BodyId). nat_eq b.file file) x.body (map (λ (item : LostItem). item.body) xs) ∙ ap (λ n. cond (nat_eq x.body.file file) 1 0 + n) (count_lost file xs)
    ∙ sym (count_cons (λ (item : LostItem). nat_eq item.body.file file) x xs)

pub file_count_is : (t : Table) (file : ℕ) → count_by (λ (body : BodyId). nat_eq body.file file) (bodies_of t) ≡ file_count t file
file_count_is t file =
    sum_by-append (λ (body : BodyId). cond (nat_eq body.file file) 1 0) (filter_map (λ (item : Item). item.entry.body) t.entries) (map (λ (item : LostItem). item.body) t.lost)
    ∙ ap (λ n. n + count_by (λ (body : BodyId). nat_eq body.file file) (map (λ (item : LostItem). item.body) t.lost)) (count_kept file t.entries)
    ∙ ap (λ n. count_by (λ (item : Item). has_file file item.entry.body) t.entries + n) (count_lost file t.lost)

-- ---- one entry, one body

le_from : (a b : ℕ) → nat_le a b ≡ true → a ≤ b
le_from a b e = leb-true a b e

le_to : (a b : ℕ) → a ≤ b → nat_le a b ≡ true
le_to a b h = le-leb a b h

lt_from : (a b : ℕ) → nat_lt a b ≡ true → a < b
lt_from a b e = (Decides-ltb a b).0 e

lt_to : (a b : ℕ) → a < b → nat_lt a b ≡ true
lt_to a b h = (Decides-ltb a b).1 h

pub known_from : (seen : Seen) → is_known seen ≡ true → seen ≢ Unknown
known_from Unknown h e = false≢true h
known_from Absent h e = cc
known_from Untagged h e = cc
known_from (Tagged tag) h e = cc

pub known_to : (seen : Seen) → seen ≢ Unknown → is_known seen ≡ true
known_to Unknown h = absurd (h refl)
known_to Absent h = refl
known_to Untagged h = refl
known_to (Tagged tag) h = refl

-- what waits is a body
abbrev pub Waits : Option Waiting → Option BodyId → Type 0
Waits queued body = queued ≢ None → body ≢ None

waits_from : (queued : Option Waiting) (body : Option BodyId) → (not (is_some queued) || is_some body) ≡ true → Waits queued body
waits_from None body h = λ no. absurd (no refl)
waits_from (Some w) None h = absurd (false≢true h)
waits_from (Some w) (Some body) h = λ _ e. cc

waits_to : (queued : Option Waiting) (body : Option BodyId) → Waits queued body → (not (is_some queued) || is_some body) ≡ true
waits_to None body h = refl
waits_to (Some w) None h = absurd (h (λ e. cc) refl)
waits_to (Some w) (Some body) h = refl

-- a body as the bounds want it
pub record BodyFits (next : ℕ) (body : BodyId) : Type 0 where
  pub short : body.len ≤ 8388608
  pub begins : 2 ≤ body.file
  pub known : body.file < next

body_from : (next : ℕ) (body : BodyId) → is_body_within next body ≡ true → BodyFits next body
body_from next body h =
    let rest = and_second (nat_le body.len 8388608) (nat_le 2 body.file && nat_lt body.file next) h in
    record {
      short = le_from body.len 8388608 (and_first (nat_le body.len 8388608) (nat_le 2 body.file && nat_lt body.file next) h);
      begins = le_from 2 body.file (and_first (nat_le 2 body.file) (nat_lt body.file next) rest);
      known = lt_from body.file next (and_second (nat_le 2 body.file) (nat_lt body.file next) rest);
    }

body_to : (next : ℕ) (body : BodyId) → BodyFits next body → is_body_within next body ≡ true
body_to next body h =
    and_both (nat_le body.len 8388608) (nat_le 2 body.file && nat_lt body.file next) (le_to _ _ h.short)
    (and_both (nat_le 2 body.file) (nat_lt body.file next) (le_to _ _ h.begins) (lt_to _ _ h.known))

kept_body_from : (next : ℕ) (o : Option BodyId) → is_kept_within next o ≡ true → IfBody (BodyFits next) o
kept_body_from next None h = tt
kept_body_from next (Some body) h = body_from next body h

kept_body_to : (next : ℕ) (o : Option BodyId) → IfBody (BodyFits next) o → is_kept_within next o ≡ true
kept_body_to next None h = refl
kept_body_to next (Some body) h = body_to next body h

pub record EntryFits (next : ℕ) (item : Item) : Type 0 where
  pub known : item.entry.seen ≢ Unknown
  pub waits : HasBody item
  pub body : IfBody (BodyFits next) item.entry.body

entry_from : (next : ℕ) (item : Item) → is_entry_within next item.entry ≡ true → EntryFits next item
entry_from next item h =
    let rest = and_second (is_known item.entry.seen) (waits_well item.entry && is_kept_within next item.entry.body) h in
    record {
      known = known_from item.entry.seen (and_first (is_known item.entry.seen) (waits_well item.entry && is_kept_within next item.entry.body) h);
      waits = waits_from item.entry.queued item.entry.body (and_first (waits_well item.entry) (is_kept_within next item.entry.body) rest);
      body = kept_body_from next item.entry.body (and_second (waits_well item.entry) (is_kept_within next item.entry.body) rest);
    }

entry_to : (next : ℕ) (item : Item) → EntryFits next item → is_entry_within next item.entry ≡ true
entry_to next item h =
    and_both (is_known item.entry.seen) (waits_well item.entry && is_kept_within next item.entry.body) (known_to item.entry.seen h.known)
    (and_both (waits_well item.entry) (is_kept_within next item.entry.body) (waits_to item.entry.queued item.entry.body h.waits) (kept_body_to next item.entry.body h.body))

-- the limits that a table keeps to
pub record Limits (t : Table) : Type 0 where
  pub room : HasRoom t
  pub entries : list_all (λ (item : Item). is_entry_within t.next_file item.entry) t.entries ≡ true
  pub lost : list_all (is_lost_within t.next_file t.next_lost) t.lost ≡ true
  pub files : (file : ℕ) → file_count t file ≤ 1
  pub numbers : (number : ℕ) → number_count t number ≤ 1

pub within_so : (t : Table) → IsMap t.entries → Every (λ (item : LostItem). IsBare item.path) t.lost → Limits t → IsWithin t
within_so t in_order paths h =
    let next = t.next_file in
    let entries : Every (EntryFits next) t.entries =
    every_so (λ (item : Item). is_entry_within next item.entry ≡ true) (EntryFits next) t.entries (entry_from next) (all_from (λ (item : Item). is_entry_within next item.entry) t.entries h.entries) in
    let lost = all_from (is_lost_within next t.next_lost) t.lost h.lost in
    let bodies : Every (BodyFits next) (bodies_of t) =
    bodies_from (BodyFits next) t
    (every_so (EntryFits next) (λ (item : Item). IfBody (BodyFits next) item.entry.body) t.entries (λ item fits. fits.body) entries)
    (every_so (λ (item : LostItem). is_lost_within next t.next_lost item ≡ true) (λ (item : LostItem). BodyFits next item.body) t.lost
    (λ item e. body_from next item.body (and_first (is_body_within next item.body) (nat_lt item.number t.next_lost) e)) lost) in
    record {
      in_order = in_order;
      known = every_so (EntryFits next) (λ (item : Item). item.entry.seen ≢ Unknown) t.entries (λ item fits. fits.known) entries;
      queued_have_bodies = every_so (EntryFits next) HasBody t.entries (λ item fits. fits.waits) entries;
      lost_paths = paths;
      few_known = h.room.few_known;
      few_kept = h.room.few_kept;
      few_bytes = h.room.few_bytes;
      short_bodies = every_so (BodyFits next) (λ (body : BodyId). body.len ≤ 8388608) (bodies_of t) (λ body fits. fits.short) bodies;
      files_differ = λ file. let P : ℕ → Type 0 = λ n. n ≤ 1 in subst P (sym (file_count_is t file)) (h.files file);
      files_begin = every_so (BodyFits next) (λ (body : BodyId). 2 ≤ body.file) (bodies_of t) (λ body fits. fits.begins) bodies;
      files_known = every_so (BodyFits next) (λ (body : BodyId). body.file < next) (bodies_of t) (λ body fits. fits.known) bodies;
      files_left = h.room.files_left;
      numbers_differ = h.numbers;
      numbers_known = every_so (λ (item : LostItem). is_lost_within next t.next_lost item ≡ true) (λ (item : LostItem). item.number < t.next_lost) t.lost
          (λ item e. lt_from item.number t.next_lost (and_second (is_body_within next item.body) (nat_lt item.number t.next_lost) e)) lost;
      numbers_begin = h.room.numbers_begin;
      room_for_lost = h.room.room_for_lost;
    }

pub within_to : (t : Table) → IsWithin t → Limits t
within_to t w =
    let next = t.next_file in
    let bodies : Every (BodyFits next) (bodies_of t) =
    every_two (λ (body : BodyId). body.len ≤ 8388608) (λ (body : BodyId). (2 ≤ body.file) × (body.file < next)) (BodyFits next) (bodies_of t)
    (λ body short file. record { short = short; begins = file.0; known = file.1 }) w.short_bodies
    (every_two (λ (body : BodyId). 2 ≤ body.file) (λ (body : BodyId). body.file < next) (λ (body : BodyId). (2 ≤ body.file) × (body.file < next)) (bodies_of t) (λ body a b. (a, b)) w.files_begin w.files_known) in
    let kept = bodies_kept (BodyFits next) t bodies in
    let entries : Every (EntryFits next) t.entries =
    every_two (λ (item : Item). item.entry.seen ≢ Unknown) (λ (item : Item). HasBody item × IfBody (BodyFits next) item.entry.body) (EntryFits next) t.entries
    (λ item known rest. record { known = known; waits = rest.0; body = rest.1 }) w.known
    (every_two HasBody (λ (item : Item). IfBody (BodyFits next) item.entry.body) (λ (item : Item). HasBody item × IfBody (BodyFits next) item.entry.body) t.entries (λ item a b. (a, b)) w.queued_have_bodies kept) in
    record {
      room = record {
        few_known = w.few_known;
        few_kept = w.few_kept;
        few_bytes = w.few_bytes;
        files_left = w.files_left;
        numbers_begin = w.numbers_begin;
        room_for_lost = w.room_for_lost;
      };
      entries = all_to (λ (item : Item). is_entry_within next item.entry) t.entries (every_so (EntryFits next) (λ (item : Item). is_entry_within next item.entry ≡ true) t.entries (entry_to next) entries);
      lost = all_to (is_lost_within next t.next_lost) t.lost
          (every_two (λ (item : LostItem). BodyFits next item.body) (λ (item : LostItem). item.number < t.next_lost) (λ (item : LostItem). is_lost_within next t.next_lost item ≡ true) t.lost
          (λ item fits known. and_both (is_body_within next item.body) (nat_lt item.number t.next_lost) (body_to next item.body fits) (lt_to item.number t.next_lost known)) (bodies_lost (BodyFits next) t bodies) w.numbers_known);
      files = λ file. let P : ℕ → Type 0 = λ n. n ≤ 1 in subst P (file_count_is t file) (w.files_differ file);
      numbers = w.numbers_differ;
    }

-- a cache without records is within its bounds
pub fresh_within : IsWithin fresh_table
fresh_within = record {
  in_order = record { ordered = tt; differ = tt; paths = tt };
  known = tt;
  queued_have_bodies = tt;
  lost_paths = tt;
  few_known = omega arith;
  few_kept = omega arith;
  few_bytes = omega arith;
  short_bodies = tt;
  files_differ = λ file. omega arith;
  files_begin = tt;
  files_known = tt;
  files_left = omega arith;
  numbers_differ = λ number. omega arith;
  numbers_known = tt;
  numbers_begin = omega arith;
  room_for_lost = omega arith;
}
