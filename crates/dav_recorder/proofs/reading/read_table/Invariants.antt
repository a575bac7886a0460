use Rattle.std.proofs.Common.{◌≡◌, ℕ, ◌+◌, ◌≤◌, List, [], ◌∷◌}
use Rattle.dav_disk.specs.Disk.{Touches, AllStay}
use Rattle.dav_store.specs.Rows.{IsReading}
use Rattle.dav_store.specs.Start.{head_of}
use Rattle.dav_index.specs.Bounds.{IsWithin}
use Rattle.dav_index.specs.declared.record.Record.{Record}
use Rattle.dav_index.specs.Tables.{fresh_table}
use Rattle.dav_recorder.specs.Opening.{IsRead}
use Rattle.dav_recorder.specs.Recovers.{Replays}
use Rattle.dav_recorder.proofs.reading.read_table.Given as goal

abbrev pub invariant-loop-row : goal.invariant-loop-row
invariant-loop-row g l = record {
  counted : l.row ≡ l.table.records + 1;
  within : IsWithin l.table;
  read : g.D.Disk.honest l.disk → (url : List ℕ) → IsReading (head_of url ∷ []) l.fn.journal.end (g.D.Disk.seen l.initial.disk 0) (g.D.Disk.past l.initial.disk (g.D.Disk.moment l.initial.disk) 0)
      → (records : List Record) × IsRead url records l.table l.journal.end (g.D.Disk.seen l.disk 0) (g.D.Disk.past l.disk (g.D.Disk.moment l.disk) 0);
  touches : g.D.Disk.honest l.disk → Touches (λ _. ⊥) (g.D.Disk.moment l.initial.disk) (g.D.Disk.moment l.disk) (g.D.Disk.past l.initial.disk) (g.D.Disk.past l.disk);
  seen : g.D.Disk.honest l.disk → AllStay (g.D.Disk.seen l.initial.disk) (g.D.Disk.seen l.disk);
  keeps : g.D.Disk.honest l.disk → g.D.Disk.honest l.initial.disk;
  replayed : (records : List Record) × Replays fresh_table records l.table;
  moments : g.D.Disk.moment l.initial.disk ≤ g.D.Disk.moment l.disk;
  faults : g.D.Disk.faults l.initial.disk ≤ g.D.Disk.faults l.disk;
}
