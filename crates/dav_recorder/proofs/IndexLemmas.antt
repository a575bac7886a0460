-- An index that spells given records, whatever a disk shows.
use Rattle.std.proofs.Common.{◌≡◌, ◌≢◌, ℕ, ◌<◌, List, [], ◌∷◌, ◌++◌, length, map, inr, refl, sym, subst, arith}
use Rattle.dav_store.specs.Rows.{row_text, Rows}
use Rattle.dav_index.specs.Records.{text_of, IsRecord}
use Rattle.dav_index.specs.Bounds.{IsWithin}
use Rattle.dav_index.specs.Tables.{replay, fresh_table}
use Rattle.dav_index.specs.declared.table.Table.{Table}
use Rattle.dav_index.specs.declared.record.Record.{Record}
use Rattle.dav_index.specs.declared.record.Record.TheVariants as records
use Rattle.dav_index.proofs.LawLemmas.{text_fits}
use Rattle.dav_recorder.specs.Opening.{IsIndexOf}
use Rattle.dav_recorder.specs.Recovers.{Replays, rows_of}
use Rattle.dav_recorder.proofs.StartLemmas.{replays_push}

-- the records are read one by one
abbrev pub HasReplayed : Table → Type 0
HasReplayed table = (records : List Record) × Replays fresh_table records table

pub replayed_more : (before after : Table) (r : Record) → IsRecord r → after ≡ replay before r → IsWithin after → HasReplayed before → HasReplayed after
replayed_more before after r is same within so_far =
    subst HasReplayed (sym same) (so_far.0 ++ r ∷ [], replays_push fresh_table so_far.0 r before so_far.1 is (subst IsWithin same within))

text_some : (r : Record) → 0 < length (text_of r)
text_some (records.Forgot path locks below) = omega arith
text_some (records.Closed path body) = omega arith
text_some (records.Sent path file seen) = omega arith
text_some (records.Lost number path stays) = omega arith
text_some (records.Dropped number) = omega arith

abbrev spelled : List (List ℕ) → List ℕ
spelled [] = []
spelled (row ∷ rows) = row_text 1 row ++ spelled rows

open_gate : ◌≢◌ {A = ℕ} 1 0
open_gate is = cc is

spelled_records : (before : Table) (all : List Record) (after : Table) → Replays before all after → Rows (map text_of all) (spelled (map text_of all))
spelled_records before [] after is = refl
spelled_records before (r ∷ all) after is =
    (1, spelled (map text_of all), open_gate, (text_some r, text_fits r is.0), refl, spelled_records (replay before r) all after is.2)

-- there are bytes that spell an index of this URL and of this table
pub replayed_index : (url : List ℕ) (table : Table) → length url < 65505 → HasReplayed table → (file : List ℕ) × IsIndexOf url table file
replayed_index url table short is =
    let front : List ℕ = spelled (rows_of url is.0) in (
      front ++ 0 ∷ [],
      inr (
        is.0,
        is.1,
        record {
          front = front;
          rest = [];
          open_rows = (1, spelled (map text_of is.0), open_gate, (omega arith, omega (arith, short)), refl, spelled_records fresh_table is.0 table is.1);
          split = refl;
        },
      ),
    )
