-- The drain, turn by turn.
use Rattle.std.proofs.Common.{◌≡◌, ℕ, ◌<◌, List, Some, None, Ok, Err, true, refl, sym, ◌∙◌, subst}
use Rattle.dav_machine.specs.Machine.{Reaches, Does}
use Rattle.dav_edge.specs.Device.{DeviceLog}
use Rattle.dav_uri.specs.Target.{BaseParts}
use Rattle.dav_index.specs.Queries.{next_due}
use Rattle.dav_deeds.specs.DeskTable.{DeskTable}
use Rattle.dav_deeds.specs.declared.answer.Fated.{Fated}
use Rattle.dav_desk.specs.declared.desk.Desk.{Desk}
use Rattle.dav_upload.specs.declared.did.Did.{Did}
use Rattle.dav_upload.specs.declared.did.Did.TheVariants as did
use Rattle.dav_upload.specs.declared.did.UploadFault.{UploadFault}
use Rattle.dav_upload.specs.declared.did.UploadFault.TheVariants as faults
use Rattle.dav_upload.specs.AtWork.{IsAfter}
use Rattle.dav_upload.specs.Desks.{DiskView}
use Rattle.dav_upload.specs.Drain.{Turned, Drained, drained_by, Drains, TurnSo}
use Rattle.dav_upload.specs.Pair.{pair, PairGrew}
use Rattle.dav_upload.specs.Resting.{IsResting}
use Rattle.dav_upload.proofs.TurnRuns.{pair_then, turn_does, drain_goes_on, drain_ends}
use Rattle.dav_upload.proofs.TurnTables.{due_count, turn_sound, turn_settles, turn_none, none_next, settling_falls, settling_idle, settling_stops}

module _ {D : Type 0} (view : DiskView D) (base : BaseParts) (now : ℕ) (a b c : DeviceLog) (x y z : Desk D) where
  -- one turn more
  pub drains_on : (fated : Fated) → Reaches pair (PairGrew view a b x y) (Drains base now x.table) (Drains base now y.table) → TurnSo view base now b c y z (Ok (did.Settled fated))
      → Reaches pair (PairGrew view a c x z) (Drains base now x.table) (Drains base now z.table)
  drains_on fated so_far one =
      pair_then view a b c x y z (Drains base now x.table) (Drains base now y.table) (Drains base now z.table) so_far
      (drain_goes_on view b c y z base now fated (turn_does view b c y z base now (Ok (did.Settled fated)) one))

  -- the last turn
  pub drains_end : (turned : Turned) (drained : Drained) → drained_by turned ≡ Some drained → Reaches pair (PairGrew view a b x y) (Drains base now x.table) (Drains base now y.table) → TurnSo view base now b c y z turned
      → Does pair (PairGrew view a c x z) (Drains base now x.table) (drained, z.table)
  drains_end turned drained ends so_far one =
      pair_then view a b c x y z (Drains base now x.table) (Drains base now y.table) _ so_far
      (drain_ends view b c y z base now turned drained ends (turn_does view b c y z base now turned one))

module _ {D : Type 0} (view : DiskView D) (base : BaseParts) (now : ℕ) (b c : DeviceLog) (y z : Desk D) where
  pub turn_rests : (fated : Fated) → TurnSo view base now b c y z (Ok (did.Settled fated)) → IsResting y.table → IsResting z.table
  turn_rests fated one rests = record {
    sound = turn_sound view base b c y z now (Ok (did.Settled fated)) one rests.sound;
    free = settling_idle y.table z.table now (turn_settles view base b c y z now (Ok (did.Settled fated)) fated one refl);
  }

  pub turn_stops : (fated : Fated) → TurnSo view base now b c y z (Ok (did.Settled fated)) → y.table.stopping ≡ true → z.table.stopping ≡ true
  turn_stops fated one stopping = settling_stops y.table z.table now (turn_settles view base b c y z now (Ok (did.Settled fated)) fated one refl) ∙ stopping

  pub turn_falls : (fated : Fated) → TurnSo view base now b c y z (Ok (did.Settled fated)) → IsResting y.table → y.table.stopping ≡ true → now < 18446744073709551615 → due_count now z.table < due_count now y.table
  turn_falls fated one rests stopping early = settling_falls y.table z.table now (turn_settles view base b c y z now (Ok (did.Settled fated)) fated one refl) rests.sound stopping early

  pub turn_empties : TurnSo view base now b c y z (Ok did.Nothing) → IsResting y.table → y.table.stopping ≡ true → (next_due now true z.table.index.entries ≡ None) × IsResting z.table × (z.table.stopping ≡ true)
  turn_empties one rests stopping =
      let none = none_next y.table z.table now (turn_none view base b c y z now (Ok did.Nothing) one refl) rests.sound stopping rests.free in
      (none.0, record { sound = turn_sound view base b c y z now (Ok did.Nothing) one rests.sound; free = none.1 }, none.2)

abbrev turned_fault : UploadFault → Turned
turned_fault fault = Err fault

abbrev drained_fault : UploadFault → Drained
drained_fault fault = Err fault

-- where the desk stands hangs on the fault alone
pub after_fault : {D : Type 0} (view : DiskView D) (base : BaseParts) (url : List ℕ) (opening : DeskTable) (start : ℕ) (given : ℕ → List ℕ) (begun wire : DeviceLog) (x : Desk D) (fault : UploadFault) (turned : Turned) (drained : Drained)
    → turned ≡ Err fault → drained ≡ Err fault → IsAfter turned view base url opening start given begun wire x → IsAfter drained view base url opening start given begun wire x
after_fault view base url opening start given begun wire x fault turned drained is ends after =
    subst (λ (r : Drained). IsAfter r view base url opening start given begun wire x) (sym ends)
    (by fault (subst (λ (r : Turned). IsAfter r view base url opening start given begun wire x) is after))
  where
    by : (f : UploadFault) → IsAfter (turned_fault f) view base url opening start given begun wire x → IsAfter (drained_fault f) view base url opening start given begun wire x
    by (faults.Desk inner) h = h
    by faults.Memory h = h

abbrev did_so : Did → Turned
did_so d = Ok d

-- the turn that did this
pub turned_so : {D : Type 0} (view : DiskView D) (base : BaseParts) (now : ℕ) (b c : DeviceLog) (y z : Desk D) (d e : Did) → d ≡ e → TurnSo view base now b c y z (Ok d) → TurnSo view base now b c y z (Ok e)
turned_so view base now b c y z d e is one = subst (λ (x : Did). TurnSo view base now b c y z (did_so x)) is one
