-- How runs over the sink, the wire and the desk join.
use Rattle.std.proofs.Common.{List, refl}
use Rattle.dav_machine.specs.Devices.{one_device}
use Rattle.dav_machine.specs.Machine.{Reaches, Does}
use Rattle.dav_machine.specs.Part.{lift}
use Rattle.dav_machine.proofs.Logs.{grows_same, grows_then}
use Rattle.dav_machine.proofs.Reaching.{reaches_same, reaches_then, does_lifted}
use Rattle.dav_edge.specs.Device.{DeviceLog, Grew, ByteMachine, is_failure}
use Rattle.dav_edge.specs.Whole.{DoesOn}
use Rattle.dav_desk.specs.declared.desk.Desk.{Desk}
use Rattle.dav_upload.specs.Asking.{Asked}
use Rattle.dav_upload.specs.Desks.{DiskView, WereAsked}
use Rattle.dav_upload.specs.Pair.{pair, PairGrew, PairMachine}
use Rattle.dav_upload.proofs.Asks.{were_then}
use Rattle.dav_run.specs.Answering.{DoesDesk}
use Rattle.dav_run.specs.Devices.{all, the_sink, the_desk, the_pair, RunMachine, AllGrew}
use Rattle.dav_run.specs.Shell.{DeskMachine}

module _ {D : Type 0} (view : DiskView D) where
  pub all_then : {R : Type 0} (o p q u v w : DeviceLog) (x y z : Desk D) (f g h : RunMachine R) → Reaches all (AllGrew view o p u v x y) f g → Reaches all (AllGrew view p q v w y z) g h
      → Reaches all (AllGrew view o q u w x z) f h
  all_then o p q u v w x y z f g h one two =
      reaches_then all (AllGrew view o p u v x y) (AllGrew view p q v w y z) (AllGrew view o q u w x z) f g h
      (λ a b first second. record {
        out = grows_then is_failure o p q a.out b.out first.out second.out;
        up = grows_then is_failure u v w a.up b.up first.up second.up;
        desk = were_then view a.desk b.desk x y z first.desk second.desk;
      })
      one two

  pub all_same : {R : Type 0} (o u : DeviceLog) (x : Desk D) (f : RunMachine R) → Reaches all (AllGrew view o o u u x x) f f
  all_same o u x f = reaches_same all (AllGrew view o o u u x x) f (record { out = grows_same is_failure o; up = grows_same is_failure u; desk = refl })

  -- calls on the sink alone, asks of the desk alone, and calls on the wire with asks of the desk
  pub on_sink : {R : Type 0} (o p u : DeviceLog) (x : Desk D) (f : ByteMachine R) (r : R) → DoesOn o p f r → Does all (AllGrew view o p u u x x) (lift the_sink f) r
  on_sink o p u x f r one =
      does_lifted one_device all the_sink (Grew o p) (AllGrew view o p u u x x) f r (λ a grew. record { out = grew; up = grows_same is_failure u; desk = refl }) one

  pub on_desk : {R : Type 0} (o u : DeviceLog) (x y : Desk D) (f : DeskMachine R) (r : R) → DoesDesk view x y f r → Does all (AllGrew view o o u u x y) (lift the_desk f) r
  on_desk o u x y f r one =
      does_lifted one_device all the_desk (λ (asked : List Asked). WereAsked view asked x y) (AllGrew view o o u u x y) f r
      (λ a were. record { out = grows_same is_failure o; up = grows_same is_failure u; desk = were }) one

  pub on_pair : {R : Type 0} (o u v : DeviceLog) (x y : Desk D) (f : PairMachine R) (r : R) → Does pair (PairGrew view u v x y) f r → Does all (AllGrew view o o u v x y) (lift the_pair f) r
  on_pair o u v x y f r one =
      does_lifted pair all the_pair (PairGrew view u v x y) (AllGrew view o o u v x y) f r
      (λ a grew. record { out = grows_same is_failure o; up = grew.up; desk = grew.desk }) one

  -- asks of a desk join
  pub desk_then : {R : Type 0} (x y z : Desk D) (f g h : DeskMachine R) → Reaches one_device (λ (asked : List Asked). WereAsked view asked x y) f g
      → Reaches one_device (λ (asked : List Asked). WereAsked view asked y z) g h → Reaches one_device (λ (asked : List Asked). WereAsked view asked x z) f h
  desk_then x y z f g h one two =
      reaches_then one_device (λ (asked : List Asked). WereAsked view asked x y) (λ (asked : List Asked). WereAsked view asked y z) (λ (asked : List Asked). WereAsked view asked x z) f g h
      (λ a b first second. were_then view a b x y z first second) one two

  pub desk_same : {R : Type 0} (x : Desk D) (f : DeskMachine R) → Reaches one_device (λ (asked : List Asked). WereAsked view asked x x) f f
  desk_same x f = reaches_same one_device (λ (asked : List Asked). WereAsked view asked x x) f refl
