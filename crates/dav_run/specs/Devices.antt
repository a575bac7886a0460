-- The sink, the uploader's wire and the desk together.
use Rattle.std.specs.Prelude.{List, [], ◌++◌, refl}
use Rattle.std.proofs.Common.{append_assoc, append-nil, ap, ◌∙◌}
use Rattle.dav_machine.specs.Devices.{Devices, one_device, answers_before, answers_before-append}
use Rattle.dav_machine.specs.Machine.{Machine}
use Rattle.dav_machine.specs.Part.{Part}
use Rattle.dav_edge.specs.Device.{Call, Answer, Happened, DeviceLog, Grew}
use Rattle.dav_upload.specs.Asking.{Asking, Met, Asked}
use Rattle.dav_desk.specs.declared.desk.Desk.{Desk}
use Rattle.dav_upload.specs.Desks.{DiskView, WereAsked}
use Rattle.dav_upload.specs.Pair.{pair, answers_of as answers_of_pair}

-- the calls on the sink and on the wire, and the asks of the desk
pub record Made : Type 0 where
  pub out : List Happened
  pub up : List Happened
  pub desk : List Asked

-- the answers of the sink and of the wire, and how the asks go
pub record Answers : Type 0 where
  pub out : List Answer
  pub up : List Answer
  pub desk : List Met

abbrev pub calls_on : List Happened → List Happened → List Asked → Made
calls_on out up desk = record { out = out; up = up; desk = desk }

abbrev pub answers_of : List Answer → List Answer → List Met → Answers
answers_of out up desk = record { out = out; up = up; desk = desk }

abbrev pub all : Devices Made Answers
all = record {
  nothing = calls_on [] [] [];
  joined = λ a b. calls_on (a.out ++ b.out) (a.up ++ b.up) (a.desk ++ b.desk);
  answered = λ a more. answers_of (answers_before a.out more.out) (answers_before a.up more.up) (answers_before a.desk more.desk);
  joined_nothing = λ a. ap (λ (o : List Happened). calls_on o (a.up ++ []) (a.desk ++ [])) (append-nil a.out)
      ∙ ap (λ (u : List Happened). calls_on a.out u (a.desk ++ [])) (append-nil a.up)
      ∙ ap (λ (d : List Asked). calls_on a.out a.up d) (append-nil a.desk);
  nothing_joined = λ a. refl;
  joined_again = λ a b c. ap (λ (o : List Happened). calls_on o ((a.up ++ b.up) ++ c.up) ((a.desk ++ b.desk) ++ c.desk)) (append_assoc a.out b.out c.out)
      ∙ ap (λ (u : List Happened). calls_on (a.out ++ (b.out ++ c.out)) u ((a.desk ++ b.desk) ++ c.desk)) (append_assoc a.up b.up c.up)
      ∙ ap (λ (d : List Asked). calls_on (a.out ++ (b.out ++ c.out)) (a.up ++ (b.up ++ c.up)) d) (append_assoc a.desk b.desk c.desk);
  answered_nothing = λ more. refl;
  answered_joined = λ a b more. ap (λ (o : List Answer). answers_of o (answers_before (a.up ++ b.up) more.up) (answers_before (a.desk ++ b.desk) more.desk)) (answers_before-append a.out b.out more.out)
      ∙ ap (λ (u : List Answer). answers_of (answers_before a.out (answers_before b.out more.out)) u (answers_before (a.desk ++ b.desk) more.desk)) (answers_before-append a.up b.up more.up)
      ∙ ap (λ (d : List Met). answers_of (answers_before a.out (answers_before b.out more.out)) (answers_before a.up (answers_before b.up more.up)) d) (answers_before-append a.desk b.desk more.desk);
}

abbrev pub the_sink : Part (one_device {C = Call} {A = Answer}) all
the_sink = record {
  calls = λ es. calls_on es [] [];
  look = λ answers. answers.out;
  put = λ left answers. answers_of left answers.up answers.desk;
  calls_joined = λ a b. refl;
  look_answered = λ a more. refl;
  put_answered = λ left a more. refl;
  calls_nothing = refl;
  put_look = λ more. refl;
}

abbrev pub the_desk : Part (one_device {C = Asking} {A = Met}) all
the_desk = record {
  calls = λ es. calls_on [] [] es;
  look = λ answers. answers.desk;
  put = λ left answers. answers_of answers.out answers.up left;
  calls_joined = λ a b. refl;
  look_answered = λ a more. refl;
  put_answered = λ left a more. refl;
  calls_nothing = refl;
  put_look = λ more. refl;
}

-- the wire with the desk
abbrev pub the_pair : Part pair all
the_pair = record {
  calls = λ made. calls_on [] made.up made.desk;
  look = λ answers. answers_of_pair answers.up answers.desk;
  put = λ left answers. answers_of answers.out left.up left.desk;
  calls_joined = λ a b. refl;
  look_answered = λ a more. refl;
  put_answered = λ left a more. refl;
  calls_nothing = refl;
  put_look = λ more. refl;
}

abbrev pub RunMachine : Type 0 → Type 1
RunMachine R = Machine Made Answers R

-- the calls of a run came on top of the logs of the sink and the wire, and the desk was asked the asks
pub record AllGrew {D : Type 0} (view : DiskView D) (out_old out_new up_old up_new : DeviceLog) (desk_old desk_new : Desk D) (made : Made) : Type 0 where
  pub out : Grew out_old out_new made.out
  pub up : Grew up_old up_new made.up
  pub desk : WereAsked view made.desk desk_old desk_new
