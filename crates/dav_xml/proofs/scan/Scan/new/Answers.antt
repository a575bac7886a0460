use Rattle.std.proofs.Common.{refl, ap, sym, length}
use Rattle.dav_doc.specs.Machine.{Begin}
use Rattle.dav_xml.specs.Stands.{stack_of}
use Rattle.dav_xml.proofs.scan.Scan.new.Goals as goal

pub returns : goal.returns
returns c = record {
  state = Begin;
  read = refl;
  stands = (ap stack_of c.new.ensures.items, refl);
  depth = ap length (sym c.new.ensures.items);
  at = refl;
  going = refl;
}
