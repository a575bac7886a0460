use Rattle.std.proofs.Common.{◌∷◌, length, length-append, refl, ap, ◌∙◌, arith}
use Rattle.dav_doc.specs.Machine as machine
use Rattle.dav_doc.specs.Machine.{scope_of}
use Rattle.dav_doc.specs.Names.{declared}
use Rattle.dav_xml.specs.Stands.{stack_of}
use Rattle.dav_xml.proofs.TurnLemmas.{opened_stack, opened_event}
use Rattle.dav_xml.proofs.turn.open.Goals as goal

pub returns : goal.returns
returns c = λ st b d m. record {
  state = machine.Text (record { name = m.t.name; scope = declared m.t.attributes (scope_of (stack_of c.args.opens.now.items)) } ∷ stack_of c.args.opens.now.items) machine.Zero;
  is = opened_event c.args.opens.now.items c.args.tag c.args.ns c.in_ok-lent.lent c.args.depth st b d m c.in_ok-lent.ensures;
  stands = opened_stack c.args.opens.now.items c.push.new.self.items c.args.tag c.args.ns _ st b m c.in_ok-push.ensures.items refl refl;
  depth =
      let e = ap length c.in_ok-push.ensures.items ∙ length-append c.args.opens.now.items _ in omega (arith, d, e);
}
