use Rattle.std.proofs.Common.{refl, subst, Some}
use Rattle.dav_doc.specs.Machine as machine
use Rattle.dav_xml.specs.Moves.{Moves}
use Rattle.dav_xml.specs.Stands.{stack_of}
use Rattle.dav_xml.specs.declared.step.Step.{Step}
use Rattle.dav_xml.proofs.TurnLemmas.{emptied_event}
use Rattle.dav_xml.proofs.turn.take_step.Goals as goal

pub returns-in_ok-start-in-Empty : goal.returns-in_ok-start-in-Empty
returns-in_ok-start-in-Empty c = λ st b d m. let e = subst (λ (s : Step). Moves (Some s) (stack_of c.args.opens.now.items) st b) c.in-Empty.is m in record {
  state = machine.Text (stack_of c.args.opens.now.items) machine.Zero;
  is = emptied_event c.args.opens.now.items c.in-Empty.tag c.in-Empty.ns c.in_ok-start-in-Empty.field-0 c.args.depth st b d e c.in_ok-start-in-Empty.ensures;
  stands = refl;
  depth = d;
}
