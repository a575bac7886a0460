-- What a start reads, and what it leaves.
use Rattle.std.proofs.Common.{◌≡◌, ◌≢◌, ◌⊎◌, inl, inr, Option, Some, ℕ, ◌/◌, ◌%◌, ◌<◌, ◌≤◌, List, [], ◌∷◌, ◌++◌, length, map, drop, take, Bool, true, false, if◌then◌else◌, nat_eq, refl, sym, ◌∙◌, ap, subst, arith, append_assoc, length-append}
use Rattle.std.proofs.lemmas.List.{map-append, drop_at}
use Rattle.std.proofs.lemmas.Bool.{cases_eq, eq-eqb, eqb-true}
use Rattle.std.proofs.lemmas.List.Elements.{All-contains, All-from_recursion}
use Rattle.std.specs.List.{Contains}
use Rattle.dav_disk.specs.Disk.{Doubt, IsOutcome, IsImage, Touches, LeavesOnly}
use Rattle.dav_store.specs.Rows.{row_text, Rows, Spells, HasRow, IsBroken, IsReading, IsAtRest}
use Rattle.dav_machine.specs.Log.{Rose}
use Rattle.sha2.specs.Sha256.{sha256}
use Rattle.dav_store.specs.Body.{IsDamage, id_of}
use Rattle.dav_store.specs.Cause.{IsNoDamage}
use Rattle.dav_store.specs.declared.fault.StoreFault.{StoreFault}
use Rattle.dav_store.specs.declared.fault.StoreFault.TheVariants as store
use Rattle.dav_deeds.specs.declared.fault.DeskFault.{DeskFault}
use Rattle.dav_deeds.specs.declared.fault.DeskFault.TheVariants as faults
use Rattle.dav_store.specs.Start.{IsHead, IsNothing, head_of}
use Rattle.dav_store.specs.declared.body_id.BodyId.{BodyId}
use Rattle.dav_store.proofs.RowLemmas.{same_parts, spells_unique}
use Rattle.dav_index.specs.Records.{text_of, IsRecord}
use Rattle.dav_index.specs.Tables.{replay, fresh_table}
use Rattle.dav_index.specs.Bounds.{bodies_of, IsWithin}
use Rattle.dav_index.specs.declared.table.Table.{Table}
use Rattle.dav_index.specs.declared.record.Record.{Record}
use Rattle.dav_recorder.specs.Stands.{EachBody, IsIn, IsHeld, EachImage}
use Rattle.dav_recorder.specs.Recovers.{Replays, rows_of, IsRecorded, Recovers, AllRecover, IsConsistent}
use Rattle.dav_recorder.specs.Opening.{IsIndexOf, IsNoRecord, IsBadRow, IsNoCache, IsRead, IsOpened, IsStartFault, IsOther, IsFetchFault, IsUndamaged, desk_fault, dead_after}
use Rattle.dav_recorder.proofs.Standing.{images_quiet, rest_spells}

-- where a row stands, something stands
pub something : (row : List ℕ) (rows : List (List ℕ)) (c : List ℕ) → Spells (row ∷ rows) c → IsNothing c → ⊥
something row rows c s none =
    let o = s.open_rows in
    let is : c ≡ o.0 ∷ (length row / 256 ∷ length row % 256 ∷ row ++ o.1) ++ 0 ∷ s.rest = s.split ∙ ap (λ (l : List ℕ). l ++ 0 ∷ s.rest) o.4 in
    elim none [
      | inl few ↦ absurd (omega (arith, few, ap length is, length-append (length row / 256 ∷ length row % 256 ∷ row ++ o.1) (0 ∷ s.rest)))
      | inr shut ↦ let zero : o.0 ≡ 0 = cc (is, shut.1) in o.2 zero
    ]

open_stands : (x y : ℕ) (more : List ℕ) → x ≢ 0 → IsNothing (x ∷ y ∷ more) → ⊥
open_stands x y more is_open (inl few) = absurd (omega (arith, few))
open_stands x y more is_open (inr shut) = let e : x ∷ y ∷ more ≡ 0 ∷ shut.0 = shut.1 in let zero : x ≡ 0 = cc e in is_open zero

pub nothing_or : (file : List ℕ) → IsNothing file ⊎ (IsNothing file → ⊥)
nothing_or [] = inl (inl (omega arith))
nothing_or (x ∷ []) = inl (inl (omega arith))
nothing_or (x ∷ y ∷ more) = elim (cases_eq x 0) [
  | inl shut ↦ inl (inr (y ∷ more, ap (λ (n : ℕ). n ∷ y ∷ more) shut))
  | inr is_open ↦ inr (open_stands x y more is_open)
]

pub replays_push : (before : Table) (records : List Record) (r : Record) (mid : Table) → Replays before records mid → IsRecord r → IsWithin (replay mid r) → Replays before (records ++ r ∷ []) (replay mid r)
replays_push before [] r mid is record_is within = (record_is, subst (λ (t : Table). IsWithin (replay t r)) is within, ap (λ (t : Table). replay t r) is)
replays_push before (x ∷ records) r mid is record_is within = (is.0, is.1, replays_push (replay before x) records r mid is.2 record_is within)

pub replays_same : (before : Table) (records : List Record) (a b : Table) → Replays before records a → Replays before records b → a ≡ b
replays_same before [] a b x y = x ∙ sym y
replays_same before (r ∷ records) a b x y = replays_same (replay before r) records a b x.2 y.2

pub rows_push : (url : List ℕ) (records : List Record) (r : Record) (row : List ℕ) → row ≡ text_of r → rows_of url records ++ row ∷ [] ≡ rows_of url (records ++ r ∷ [])
rows_push url records r row text = ap (λ (t : List ℕ). rows_of url records ++ t ∷ []) text ∙ ap (λ (l : List (List ℕ)). head_of url ∷ l) (sym (map-append text_of records (r ∷ [])))

pub reads_more : {url : List ℕ} {records : List Record} {table : Table} {end end2 : ℕ} {seen seen2 : List ℕ} {doubt doubt2 : Doubt} (r : Record) (row : List ℕ) → IsRead url records table end seen doubt → IsRecord r → row ≡ text_of r → IsWithin (replay table r)
    → IsReading (rows_of url records ++ row ∷ []) end2 seen2 doubt2 → IsRead url (records ++ r ∷ []) (replay table r) end2 seen2 doubt2
reads_more {url} {records} {table} {end} {end2} {seen} {seen2} {doubt} {doubt2} r row is record_is text within reading =
    let rows = rows_push url records r row text in
    record {
      reading = subst (λ (l : List (List ℕ)). IsReading l end2 seen2 doubt2) rows reading;
      replays = replays_push fresh_table records r table is.replays record_is within;
    }

-- why a row ends the reading
abbrev pub IsBadRest : Table → List ℕ → Type 0
IsBadRest table rest = IsBroken rest ⊎ ((row : List ℕ) × HasRow row rest × IsNoRecord table row)

pub bad_row : {url : List ℕ} {records : List Record} {table : Table} {end : ℕ} {seen : List ℕ} {doubt : Doubt} → IsRead url records table end seen doubt → IsBadRest table (drop end seen) → IsBadRow url end seen
bad_row {url} {records} {table} {end} {seen} {doubt} is bad =
    let r = is.reading in
    let rest : drop end seen ≡ r.rest = ap (λ (l : List ℕ). drop end l) r.split ∙ drop_at r.front r.rest end r.size in
    record { records = records; table = table; front = r.front; rest = r.rest; replays = is.replays; open_rows = r.open_rows; split = r.split; size = sym r.size; bad = subst (λ (l : List ℕ). IsBadRest table l) rest bad }

-- records with the same texts are the same
same_records : (text_unique : (r s : Record) → IsRecord r → IsRecord s → text_of r ≡ text_of s → r ≡ s) (before other : Table) (xs ys : List Record) (a b : Table) → Replays before xs a → Replays other ys b → map text_of xs ≡ map text_of ys → xs ≡ ys
same_records text_unique before other [] [] a b x y same = refl
same_records text_unique before other [] (s ∷ ys) a b x y same = let e : [] ≡ text_of s ∷ map text_of ys = same in cc e
same_records text_unique before other (r ∷ xs) [] a b x y same = let e : text_of r ∷ map text_of xs ≡ [] = same in cc e
same_records text_unique before other (r ∷ xs) (s ∷ ys) a b x y same =
    let e : text_of r ∷ map text_of xs ≡ text_of s ∷ map text_of ys = same in
    let first : text_of r ≡ text_of s = cc e in
    let rest : map text_of xs ≡ map text_of ys = cc e in
    let one = text_unique r s x.0 y.0 first in
    let more = same_records text_unique (replay before r) (replay other s) xs ys a b x.2 y.2 rest in
    λ i. one i ∷ more i

-- other bytes in one file
abbrev put_in : ℕ → List ℕ → (ℕ → List ℕ) → ℕ → List ℕ
put_in file c seen f = if nat_eq f file then c else seen f

put_here : (file : ℕ) (c : List ℕ) (seen : ℕ → List ℕ) → put_in file c seen file ≡ c
put_here file c seen = ap (λ (b : Bool). if b then c else seen file) (eq-eqb file file refl)

put_image : (file : ℕ) (c : List ℕ) (seen : ℕ → List ℕ) (doubts : ℕ → Doubt) → IsOutcome (doubts file) c → IsImage doubts seen → IsImage doubts (put_in file c seen)
put_image file c seen doubts here rest f = by (nat_eq f file) refl
  where
    by : (b : Bool) → nat_eq f file ≡ b → IsOutcome (doubts f) (if b then c else seen f)
    by true same = subst (λ (n : ℕ). IsOutcome (doubts n) c) (sym (eqb-true f file same)) here
    by false other = rest f

contains_none : (id : BodyId) → Contains [] id → ⊥
contains_none id named = absurd (omega (arith, named.1))

none_named : (bodies : ℕ → List ℕ) (image : ℕ → List ℕ) (table : Table) → table ≡ fresh_table → EachBody (bodies_of table) (IsIn bodies image)
none_named bodies image table fresh id named = absurd (contains_none id (subst (λ (t : Table). Contains (bodies_of t) id) fresh named))

-- while the index is settled and made, each image recovers to what each image recovers to from before
agrees : {from to : ℕ} {old new : ℕ → ℕ → Doubt} → Touches (λ f. f ≡ 0) from to old new → (k : ℕ) (image : ℕ → List ℕ) → from ≤ k → k ≤ to → IsImage (new k) image → IsOutcome (old from 0) (image 0) → IsImage (old from) image
agrees {from} {to} {old} {new} touches k image lo hi left index f = elim (cases_eq f 0) [
  | inl same ↦ subst (λ (n : ℕ). IsOutcome (old from n) (image n)) (sym same) index
  | inr other ↦ subst (λ (d : Doubt). IsOutcome d (image f)) (touches.others k f lo hi other) (left f)
]

pub opening_images : (url head : List ℕ) (table : Table) (bodies : ℕ → List ℕ) {from to : ℕ} {old new : ℕ → ℕ → Doubt} (seen : ℕ → List ℕ) → head ≡ head_of url → AllRecover url table bodies (old from) → IsImage (old from) seen → Touches (λ f. f ≡ 0) from to old new
    → ((IsNothing (seen 0) → ⊥) → LeavesOnly new 0 from to (IsOutcome (old from 0)))
    → LeavesOnly new 0 from to (λ c. IsOutcome (old from 0) c ⊎ (IsNothing c ⊎ Spells (head ∷ []) c))
    → EachImage new from to (Recovers url table bodies)
opening_images url head table bodies {from} {to} {old} {new} seen head_is all here touches stays any k image lo hi left = elim (all seen here) [
  | inl nothing ↦ elim (any k (image 0) lo hi (left 0)) [
    | inl before ↦ all image (agrees touches k image lo hi left before)
    | inr made ↦ elim made [
      | inl none ↦ inl (none, nothing.1)
      | inr row ↦ inr (record { records = []; replays = nothing.1; stands = record { index = subst (λ (l : List ℕ). Spells (l ∷ []) (image 0)) head_is row; kept = none_named bodies image table nothing.1 } })
    ]
  ]
  | inr recorded ↦ all image (agrees touches k image lo hi left (stays (something (head_of url) (map text_of recorded.records) (seen 0) recorded.stands.index) k (image 0) lo hi (left 0)))
]

last_within : (before : Table) (records : List Record) (after : Table) → Replays before records after → IsWithin after ⊎ (after ≡ before)
last_within before [] after is = inr is
last_within before (r ∷ records) after is = elim (last_within (replay before r) records after is.2) [
  | inl within ↦ inl within
  | inr same ↦ inl (subst IsWithin (sym same) is.1)
]

bodies_apart : (records : List Record) (table : Table) → Replays fresh_table records table → EachBody (bodies_of table) (λ id. 2 ≤ id.file)
bodies_apart records table is id named = elim (last_within fresh_table records table is) [
  | inl within ↦ All-contains (λ (b : BodyId). 2 ≤ b.file) (bodies_of table) id (All-from_recursion (λ (b : BodyId). 2 ≤ b.file) (bodies_of table) within.files_begin) named
  | inr fresh ↦ absurd (contains_none id (subst (λ (t : Table). Contains (bodies_of t) id) fresh named))
]

-- the table that was read is the one that each image recovers to, and all of it is on the disk
module _ (text_unique : (r s : Record) → IsRecord r → IsRecord s → text_of r ≡ text_of s → r ≡ s) (url : List ℕ) (table read : Table) (bodies : ℕ → List ℕ) (doubts : ℕ → Doubt) (seen : ℕ → List ℕ) (end : ℕ)
    (all : AllRecover url table bodies doubts) (here : IsImage doubts seen) (is : IsOpened url read end (seen 0) (doubts 0)) where
  recorded : (image : ℕ → List ℕ) → IsImage doubts image → IsRecorded url table bodies image
  recorded image left = elim (all image left) [
    | inl nothing ↦ absurd (something (head_of url) (map text_of is.records) (image 0) (rest_spells is.index (image 0) (left 0)) nothing.0)
    | inr r ↦ r
  ]

  pub same_table : read ≡ table
  same_table =
      let r = recorded seen here in
      let rows : rows_of url is.records ≡ rows_of url r.records = spells_unique (rows_of url is.records) (rows_of url r.records) (seen 0) (rest_spells is.index (seen 0) (here 0)) r.stands.index in
      let texts : map text_of is.records ≡ map text_of r.records = cc rows in
      let same = same_records text_unique fresh_table fresh_table is.records r.records read table is.replays r.replays texts in
      replays_same fresh_table is.records read table is.replays (subst (λ (l : List Record). Replays fresh_table l table) (sym same) r.replays)

  held : EachBody (bodies_of table) (IsHeld bodies doubts)
  held id named =
      let r = recorded seen here in
      record {
        is_body = (r.stands.kept id named).0;
        apart = bodies_apart r.records table r.replays id named;
        begins = λ c left.
            ap (λ (l : List ℕ). take id.len l) (sym (put_here id.file c seen))
            ∙ ((recorded (put_in id.file c seen) (put_image id.file c seen doubts left here)).stands.kept id named).1;
      }

  pub consistent : IsConsistent url table bodies end seen doubts
  consistent = record { records = is.records; replays = subst (λ (t : Table). Replays fresh_table is.records t) same_table is.replays; safe = record { index = is.index; kept = held } }

-- the index that was read is that of the file from before the start
pub index_same : {url : List ℕ} {read : Table} {end : ℕ} {seen : List ℕ} {doubt : Doubt} (file : List ℕ) → IsOpened url read end seen doubt → seen ≡ file → IsIndexOf url read file
index_same {url} file is same = inr (is.records, is.replays, record { front = is.index.front; rest = is.index.rest; open_rows = is.index.open_rows; split = sym same ∙ is.index.split })

-- where the index was made, it has no record
pub index_made : {url : List ℕ} {read : Table} {end end2 : ℕ} {seen seen2 : List ℕ} {doubt doubt2 : Doubt} (file : List ℕ) → IsNothing file → IsAtRest (head_of url ∷ []) end2 seen2 doubt2 → seen ≡ seen2 → IsOpened url read end seen doubt → IsIndexOf url read file
index_made {url} {read} {end} {end2} {seen} {seen2} {doubt} {doubt2} file none made same is =
    let one : Spells (head_of url ∷ []) seen = record { front = made.front; rest = made.rest; open_rows = made.open_rows; split = same ∙ made.split } in
    let all : Spells (rows_of url is.records) seen = record { front = is.index.front; rest = is.index.rest; open_rows = is.index.open_rows; split = is.index.split } in
    inl (none, no_records is.records read is.replays (spells_unique (rows_of url is.records) (head_of url ∷ []) seen all one))
  where
    no_records : (records : List Record) (t : Table) → Replays fresh_table records t → rows_of url records ≡ head_of url ∷ [] → t ≡ fresh_table
    no_records [] t replays rows = replays
    no_records (r ∷ records) t replays rows = let e : head_of url ∷ text_of r ∷ map text_of records ≡ head_of url ∷ [] = rows in cc e

pub start_fault : (honest : Type 0) (url file : List ℕ) (before mid now : ℕ) (e : StoreFault) → before ≤ mid → (e ≡ store.Disk → Rose mid now) → (honest → (at : ℕ) → e ≡ store.NotACache at → IsNoCache url at file) → IsNoDamage e → IsStartFault honest url file before now (desk_fault e)
start_fault honest url file before mid now store.Disk le rose bad undamaged = omega (arith, le, rose refl)
start_fault honest url file before mid now (store.NotACache at) le rose bad undamaged = λ h. bad h at refl
start_fault honest url file before mid now (store.Damaged number stored found) le rose bad undamaged = undamaged
start_fault honest url file before mid now store.Memory le rose bad undamaged = tt

-- the head that was found is another
pub other_fault : (honest : Type 0) (url head file : List ℕ) (before now : ℕ) (e : DeskFault) → head ≢ head_of url → (honest → IsNothing file → head ≡ head_of url) → (honest → (IsNothing file → ⊥) → IsHead head × HasRow head file) → (honest → length file < 1099511627776)
    → IsOther url head e → IsStartFault honest url file before now e
other_fault honest url head file before now e differ made opened short says = by e says
  where
    found : honest → IsHead head × HasRow head file
    found h = opened h (λ none. differ (made h none))

    row : (h : honest) → HasRow (head_of (found h).0.0) file
    row h = let f = found h in subst (λ (l : List ℕ). HasRow l file) f.0.2 f.1

    by : (e : DeskFault) → IsOther url head e → IsStartFault honest url file before now e
    by faults.Disk says = absurd says
    by (faults.NotACache at) says = λ h. inr (inl (says.0, short h, ((found h).0.0, row h, says.1 (found h).0.0 (found h).0.2)))
    by (faults.Damaged number stored sum) says = absurd says
    by (faults.OtherServer kept asked) says = (
      says.0,
      λ h.
          let is : kept ≡ (found h).0.0 = says.1 (found h).0.0 (found h).0.2 in
          ((λ same. differ ((found h).0.2 ∙ ap (λ (l : List ℕ). head_of l) (sym is ∙ same))), subst (λ (l : List ℕ). HasRow (head_of l) file) (sym is) (row h), short h),
    )
    by (faults.Queued path) says = absurd says
    by (faults.NoSuchJob number) says = absurd says
    by (faults.Crowded oldest) says = absurd says
    by (faults.Limit which) says = absurd says
    by faults.Memory says = tt

-- the index is read once it was opened
pub opened_images : (url head : List ℕ) (table : Table) (bodies : ℕ → List ℕ) {from mid to : ℕ} {a b c : ℕ → ℕ → Doubt} (seen : ℕ → List ℕ) → head ≡ head_of url → AllRecover url table bodies (a from) → IsImage (a from) seen → Touches (λ f. f ≡ 0) from mid a b
    → ((IsNothing (seen 0) → ⊥) → LeavesOnly b 0 from mid (IsOutcome (a from 0)))
    → LeavesOnly b 0 from mid (λ l. IsOutcome (a from 0) l ⊎ (IsNothing l ⊎ Spells (head ∷ []) l))
    → Touches (λ _. ⊥) mid to b c → EachImage c from to (Recovers url table bodies)
opened_images url head table bodies seen head_is all here touches stays any quiet =
    images_quiet (Recovers url table bodies) touches.later (opening_images url head table bodies seen head_is all here touches stays any) quiet

pub opened_index : {url : List ℕ} {read : Table} {end end2 : ℕ} {now mid : List ℕ} {doubt doubt2 : Doubt} (file : List ℕ) → IsOpened url read end now doubt → now ≡ mid → ((IsNothing file → ⊥) → mid ≡ file)
    → (IsNothing file → IsAtRest (head_of url ∷ []) end2 mid doubt2) → IsIndexOf url read file
opened_index file is quiet same made = elim (nothing_or file) [
  | inl none ↦ index_made file none (made none) quiet is
  | inr some ↦ index_same file is (quiet ∙ same some)
]

-- an index that was made has no bad row
no_more : (records : List Record) (table : Table) (text rest tail : List ℕ) → Rows (map text_of records) text → IsBadRest table rest → 0 ∷ tail ≡ text ++ rest → ⊥
no_more [] table text rest tail none bad zero =
    let is : rest ≡ 0 ∷ tail = sym (zero ∙ ap (λ (l : List ℕ). l ++ rest) none) in
    elim bad [
      | inl broken ↦ broken.0 (tail, is)
      | inr row ↦ let has = row.1 in let shut : has.0 ≡ 0 = cc (sym has.4 ∙ is) in has.2 shut
    ]
no_more (r ∷ records) table text rest tail more bad zero =
    let shut : more.0 ≡ 0 = cc (zero ∙ ap (λ (l : List ℕ). l ++ rest) more.4) in more.2 shut

made_sound : (url : List ℕ) (at : ℕ) {end : ℕ} {seen : List ℕ} {doubt : Doubt} → IsAtRest (head_of url ∷ []) end seen doubt → IsBadRow url at seen → ⊥
made_sound url at made bad =
    let a = made.open_rows in
    let b = bad.open_rows in
    let row = head_of url in
    let is : row_text a.0 row ++ (a.1 ++ 0 ∷ made.rest) ≡ row_text b.0 row ++ (b.1 ++ bad.rest) =
    sym (ap (λ (l : List ℕ). l ++ 0 ∷ made.rest) a.4 ∙ append_assoc (row_text a.0 row) a.1 (0 ∷ made.rest)) ∙ sym made.split ∙ bad.split ∙ ap (λ (l : List ℕ). l ++ bad.rest) b.4 ∙ append_assoc (row_text b.0 row) b.1 bad.rest in
    let tails = (same_parts (row_text a.0 row) (row_text b.0 row) (a.1 ++ 0 ∷ made.rest) (b.1 ++ bad.rest) refl is).1 in
    no_more bad.records bad.table b.1 bad.rest made.rest b.5 bad.bad (sym (ap (λ (l : List ℕ). l ++ 0 ∷ made.rest) a.5) ∙ tails)

-- a bad row that was read stood in the file from before
pub bad_before : {url : List ℕ} {at end : ℕ} {mid : List ℕ} {doubt : Doubt} (file : List ℕ) → length file < 1099511627776 → IsBadRow url at mid → ((IsNothing file → ⊥) → mid ≡ file) → (IsNothing file → IsAtRest (head_of url ∷ []) end mid doubt) → IsNoCache url at file
bad_before {url} {at} file short bad same made = elim (nothing_or file) [
  | inl none ↦ absurd (made_sound url at (made none) bad)
  | inr some ↦ inr (inr (short, subst (λ (l : List ℕ). IsBadRow url at l) (same some) bad))
]

pub fetch_fault : (honest : Type 0) (id : BodyId) (file : List ℕ) (before now : ℕ) (e : StoreFault) → (e ≡ store.Disk → Rose before now) → IsDamage honest id file e → IsFetchFault honest id file before now (desk_fault e)
fetch_fault honest id file before now store.Disk rose damage = rose refl
fetch_fault honest id file before now (store.NotACache at) rose damage = damage
fetch_fault honest id file before now (store.Damaged number stored found) rose damage = damage
fetch_fault honest id file before now store.Memory rose damage = tt

-- a body whose file begins with the bytes that it is of is not damaged
pub fetch_undamaged : (honest : Type 0) (h : honest) (id : BodyId) (file given : List ℕ) (e : StoreFault) → IsDamage honest id file e → take id.len file ≡ given → id ≡ id_of id.file given → IsUndamaged (desk_fault e)
fetch_undamaged honest h id file given store.Disk damage begins is = tt
fetch_undamaged honest h id file given (store.NotACache at) damage begins is = tt
fetch_undamaged honest h id file given (store.Damaged number stored found) damage begins is =
    absurd (damage.2 (damage.3.is_sum ∙ ap sha256 (damage.3.first h ∙ begins) ∙ sym (ap (λ (i : BodyId). i.sum) is) ∙ sym damage.1))
fetch_undamaged honest h id file given store.Memory damage begins is = tt

-- a desk is dead after every fault but want of memory
pub dead_of : (old : Option DeskFault) (e : StoreFault) → (desk_fault e ≢ faults.Memory) → dead_after old e ≡ Some (desk_fault e)
dead_of old store.Disk differs = refl
dead_of old (store.NotACache at) differs = refl
dead_of old (store.Damaged number stored found) differs = refl
dead_of old store.Memory differs = absurd (differs refl)

pub starved_of : (old : Option DeskFault) (e : StoreFault) → desk_fault e ≡ faults.Memory → (e ≡ store.Memory) × (dead_after old e ≡ old)
starved_of old store.Disk is = cc is
starved_of old (store.NotACache at) is = cc is
starved_of old (store.Damaged number stored found) is = cc is
starved_of old store.Memory is = (refl, refl)

-- a cache without records is within its bounds
pub fresh_within : IsWithin fresh_table
fresh_within = record {
  in_order = record { ordered = tt; differ = tt; paths = tt };
  known = tt;
  queued_have_bodies = tt;
  lost_paths = tt;
  few_known = omega arith;
  few_kept = omega arith;
  few_bytes = omega arith;
  short_bodies = tt;
  files_differ = λ file. omega arith;
  files_begin = tt;
  files_known = tt;
  files_left = omega arith;
  numbers_differ = λ number. omega arith;
  numbers_known = tt;
  numbers_begin = omega arith;
  room_for_lost = omega arith;
}
