use Rattle.std.proofs.Common.{◌≡◌, length, ap, sym, arith}
use Rattle.dav_doc.specs.Machine as machine
use Rattle.dav_xml.proofs.TurnLemmas.{popped, closed_event}
use Rattle.dav_xml.proofs.turn.close.Goals as goal

pub returns : goal.returns
returns c = λ st b d m.
    let p = popped c.args.opens.now.items c.pop.new.self.items c.pop.result m.inside c.pop.ensures.items (λ h. c.pop.ensures.variant.1 (omega (arith, h))) in
    let n : c.saturating_sub.result ≡ length c.pop.new.self.items = omega (arith, c.saturating_sub.ensures, p.length, d) in
    record {
      state = machine.Text m.inside.around machine.Zero;
      is = closed_event c.args.opens.now.items c.args.depth st b d m;
      stands = ap (λ z. machine.Text z machine.Zero) (sym p.around);
      depth = n;
    }
