-- A wire and a desk together.
use Rattle.std.specs.Prelude.{List, [], ◌++◌, refl}
use Rattle.std.proofs.Common.{append_assoc, append-nil, ap, ◌∙◌}
use Rattle.dav_machine.specs.Devices.{Devices, one_device, answers_before, answers_before-append}
use Rattle.dav_machine.specs.Machine.{Machine}
use Rattle.dav_machine.specs.Part.{Part}
use Rattle.dav_edge.specs.Device.{Call, Answer, Happened, DeviceLog, Grew}
use Rattle.dav_desk.specs.declared.desk.Desk.{Desk}
use Rattle.dav_upload.specs.Asking.{Asking, Met, Asked}
use Rattle.dav_upload.specs.Desks.{DiskView, WereAsked}

-- the calls on the wire, and the asks of the desk
pub record Made : Type 0 where
  pub up : List Happened
  pub desk : List Asked

-- the answers of the wire, and how the asks go
pub record Answers : Type 0 where
  pub up : List Answer
  pub desk : List Met

abbrev pub calls_on : List Happened → List Asked → Made
calls_on up desk = record { up = up; desk = desk }

abbrev pub answers_of : List Answer → List Met → Answers
answers_of up desk = record { up = up; desk = desk }

abbrev pub pair : Devices Made Answers
pair = record {
  nothing = calls_on [] [];
  joined = λ a b. calls_on (a.up ++ b.up) (a.desk ++ b.desk);
  answered = λ a more. answers_of (answers_before a.up more.up) (answers_before a.desk more.desk);
  joined_nothing = λ a. ap (λ (u : List Happened). calls_on u (a.desk ++ [])) (append-nil a.up) ∙ ap (λ (d : List Asked). calls_on a.up d) (append-nil a.desk);
  nothing_joined = λ a. refl;
  joined_again = λ a b c. ap (λ (u : List Happened). calls_on u ((a.desk ++ b.desk) ++ c.desk)) (append_assoc a.up b.up c.up)
      ∙ ap (λ (d : List Asked). calls_on (a.up ++ (b.up ++ c.up)) d) (append_assoc a.desk b.desk c.desk);
  answered_nothing = λ more. refl;
  answered_joined = λ a b more. ap (λ (u : List Answer). answers_of u (answers_before (a.desk ++ b.desk) more.desk)) (answers_before-append a.up b.up more.up)
      ∙ ap (λ (d : List Met). answers_of (answers_before a.up (answers_before b.up more.up)) d) (answers_before-append a.desk b.desk more.desk);
}

abbrev pub the_wire : Part (one_device {C = Call} {A = Answer}) pair
the_wire = record {
  calls = λ es. calls_on es [];
  look = λ answers. answers.up;
  put = λ left answers. answers_of left answers.desk;
  calls_joined = λ a b. refl;
  look_answered = λ a more. refl;
  put_answered = λ left a more. refl;
  calls_nothing = refl;
  put_look = λ more. refl;
}

abbrev pub the_desk : Part (one_device {C = Asking} {A = Met}) pair
the_desk = record {
  calls = λ es. calls_on [] es;
  look = λ answers. answers.desk;
  put = λ left answers. answers_of answers.up left;
  calls_joined = λ a b. refl;
  look_answered = λ a more. refl;
  put_answered = λ left a more. refl;
  calls_nothing = refl;
  put_look = λ more. refl;
}

abbrev pub PairMachine : Type 0 → Type 1
PairMachine R = Machine Made Answers R

-- the calls came on top of the wire's log, and the desk was asked the asks
pub record PairGrew {D : Type 0} (view : DiskView D) (up_old up_new : DeviceLog) (desk_old desk_new : Desk D) (made : Made) : Type 0 where
  pub up : Grew up_old up_new made.up
  pub desk : WereAsked view made.desk desk_old desk_new
