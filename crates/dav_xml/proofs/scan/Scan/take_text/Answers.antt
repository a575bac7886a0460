use Rattle.std.proofs.Common.{refl, ap, inl, ◌≡◌, ◌+◌, arith, length, take, length-take}
use Rattle.dav_xml.specs.Events.{later_in}
use Rattle.dav_xml.proofs.AheadLemmas.{takes_text}
use Rattle.dav_xml.proofs.scan.Scan.take_text.Goals as goal

pub returns-in_default-clause-goes : goal.returns-in_default-clause-goes
returns-in_default-clause-goes c = λ text given h. tt

pub returns-in_default-clause-stops : goal.returns-in_default-clause-stops
returns-in_default-clause-stops c = λ text given h. inl refl

pub returns-clause-goes : goal.returns-clause-goes
returns-clause-goes c = λ text given h.
    let n : c.args.self.now.at + c.args.stretch.len ≡ c.args.self.now.at + length (take c.args.stretch.len c.args.bytes.now) =
    simp length-take (omega (arith, c.requires.ahead.1)) in
    takes_text c.args.self.now _ text given (take c.args.stretch.len c.args.bytes.now) c.in-Ok.copy c.args.stretch.owed h (ap later_in c.requires.quiet)
    c.requires.ahead.2 c.in-Ok.ensures refl refl refl refl refl refl n refl

pub returns-clause-stops : goal.returns-clause-stops
returns-clause-stops c = λ text given h. tt
