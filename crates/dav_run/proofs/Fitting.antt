-- Where a shell is fit for an ask.
use Rattle.std.proofs.Common.{◌≡◌, ℕ, List, sym, ap, subst}
use Rattle.dav_disk.specs.Disk.{Doubt}
use Rattle.dav_text.specs.Path.{PathParts, IsPath}
use Rattle.dav_deeds.specs.DeskTable.{DeskTable, started}
use Rattle.dav_deeds.specs.Sound.{IsSound}
use Rattle.dav_deeds.specs.declared.fault.DeskFault.{DeskFault}
use Rattle.dav_deeds.specs.declared.fault.DeskFault.TheVariants as faults
use Rattle.dav_desk.specs.Working.{IsReadied}
use Rattle.dav_desk.specs.declared.desk.Desk.{Desk}
use Rattle.dav_upload.specs.Resting.{IsResting}
use Rattle.dav_run.specs.Answering.{IsFit, HasPath}
use Rattle.dav_run.specs.Causes.{cause_of}
use Rattle.dav_run.specs.declared.cause.Cause.TheVariants.{Crowded, Limit, Memory, Disk, Cache}
use Rattle.dav_run.specs.declared.shell.Shell.{Shell}

-- the shell has this current path, and this desk
pub fit_with : {D : Type 0} (honest : D → Type 0) (moment : D → ℕ) (seen : D → ℕ → List ℕ) (past : D → ℕ → ℕ → Doubt) (shell : Shell D) (current : PathParts) (desk : Desk D)
    → shell.current ≡ current → shell.desk ≡ desk → IsPath current → IsReadied honest moment seen past desk → IsResting desk.table → IsFit honest moment seen past shell
fit_with {D} honest moment seen past shell current desk here same path readied resting = record {
  path = subst IsPath (sym here) path;
  readied = subst (IsReadied honest moment seen past) (sym same) readied;
  resting = subst (λ (d : Desk D). IsResting d.table) (sym same) resting;
}

-- a desk that has just started rests
pub started_rests : (t : DeskTable) → IsSound t → t ≡ started t.index → IsResting t
started_rests t sound is = record { sound = sound; free = ap (λ (u : DeskTable). u.job) is }

-- the path that is to be forgotten
pub cause_path : (fault : DeskFault) (oldest : PathParts) → Crowded oldest ≡ cause_of fault → HasPath fault → IsPath oldest
cause_path (faults.Crowded other) oldest is path = let h : Crowded oldest ≡ Crowded other = is in let same : oldest ≡ other = cc in subst IsPath (sym same) path
cause_path faults.Disk oldest is path = let h : Crowded oldest ≡ Disk = is in absurd (cc)
cause_path (faults.NotACache at) oldest is path = let h : Crowded oldest ≡ Cache (faults.NotACache at) = is in absurd (cc)
cause_path (faults.Damaged file kept found) oldest is path = let h : Crowded oldest ≡ Cache (faults.Damaged file kept found) = is in absurd (cc)
cause_path (faults.OtherServer kept asked) oldest is path = let h : Crowded oldest ≡ Cache (faults.OtherServer kept asked) = is in absurd (cc)
cause_path (faults.Queued path_) oldest is path = let h : Crowded oldest ≡ Cache (faults.Queued path_) = is in absurd (cc)
cause_path (faults.NoSuchJob number) oldest is path = let h : Crowded oldest ≡ Cache (faults.NoSuchJob number) = is in absurd (cc)
cause_path (faults.Limit which) oldest is path = let h : Crowded oldest ≡ Limit which = is in absurd (cc)
cause_path faults.Memory oldest is path = let h : Crowded oldest ≡ Memory = is in absurd (cc)
