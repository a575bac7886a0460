use Rattle.std.proofs.Common.{refl, ap, subst, arith, List, ℕ, ◌++◌}
use Rattle.dav_xml.specs.Events.{later_in, lent_in}
use Rattle.dav_xml.specs.Read.{HasRead}
use Rattle.dav_xml.proofs.AheadLemmas.{one_taken}
use Rattle.dav_xml.proofs.scan.Scan.take_byte.Goals as goal

pub take-requires : goal.take-requires
take-requires c = omega (arith, c.requires.room, c.requires.some)

pub returns-in-Ok-clause-goes : goal.returns-in-Ok-clause-goes
returns-in-Ok-clause-goes c = λ text given h.
    subst (λ (z : List ℕ). HasRead c.take.new.self z (given ++ lent_in c.take.new.self.lent)) (one_taken text c.args.bytes.now _ c.requires.some refl)
    (c.in-Ok.ensures.goes text given h (ap later_in c.requires.quiet))

pub returns-in-Err-clause-stops : goal.returns-in-Err-clause-stops
returns-in-Err-clause-stops c = λ text given h. c.in-Err.ensures.stops text given h (ap later_in c.requires.quiet)
