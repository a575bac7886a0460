use Rattle.std.proofs.Common.{◌≡◌, ℕ, ◌+◌, ◌*◌, ◌≤◌, List}
use Rattle.std.specs.List.{Contains}
use Rattle.dav_disk.specs.Disk.{Touches}
use Rattle.dav_store.specs.Rows.{IsReady}
use Rattle.dav_store.specs.declared.body_id.BodyId.{BodyId}
use Rattle.dav_recorder.specs.Stands.{EachImage, IsSafe, Stands, Spares}
use Rattle.dav_recorder.specs.Files.{RestStays}
use Rattle.dav_recorder.proofs.Filing.{AreEmptyTo}
use Rattle.dav_recorder.proofs.commit.release.Given as goal

abbrev pub invariant-loop-file : goal.invariant-loop-file
invariant-loop-file g l = record {
  still : g.D.Disk.honest l.disk → (rows : List (List ℕ)) (holds : List BodyId) (given : ℕ → List ℕ) (end : ℕ) → Spares l.freed holds
      → IsSafe rows holds given end (g.D.Disk.seen l.initial.disk) (g.D.Disk.past l.initial.disk (g.D.Disk.moment l.initial.disk))
      → IsSafe rows holds given end (g.D.Disk.seen l.disk) (g.D.Disk.past l.disk (g.D.Disk.moment l.disk))
      × EachImage (g.D.Disk.past l.disk) (g.D.Disk.moment l.initial.disk) (g.D.Disk.moment l.disk) (Stands rows holds given);
  ready : g.D.Disk.honest l.disk → (end : ℕ) → IsReady end (g.D.Disk.seen l.initial.disk 0) (g.D.Disk.past l.initial.disk (g.D.Disk.moment l.initial.disk) 0)
      → IsReady end (g.D.Disk.seen l.disk 0) (g.D.Disk.past l.disk (g.D.Disk.moment l.disk) 0);
  touches : g.D.Disk.honest l.disk → Touches (Contains l.freed) (g.D.Disk.moment l.initial.disk) (g.D.Disk.moment l.disk) (g.D.Disk.past l.initial.disk) (g.D.Disk.past l.disk);
  others : g.D.Disk.honest l.disk → RestStays (Contains l.freed) (g.D.Disk.seen l.initial.disk) (g.D.Disk.seen l.disk);
  emptied : g.D.Disk.honest l.disk → AreEmptyTo l.file-index l.freed (g.D.Disk.seen l.disk) (g.D.Disk.past l.disk (g.D.Disk.moment l.disk));
  keeps : g.D.Disk.honest l.disk → g.D.Disk.honest l.initial.disk;
  moments : g.D.Disk.moment l.disk ≡ g.D.Disk.moment l.initial.disk + 2 * l.file-index;
  faults : g.D.Disk.faults l.initial.disk ≤ g.D.Disk.faults l.disk;
}
