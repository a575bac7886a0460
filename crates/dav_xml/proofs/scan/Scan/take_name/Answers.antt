use Rattle.std.proofs.Common.{refl, ap, inl, ◌≡◌, ◌+◌, sym, subst, arith, length, take, length-take}
use Rattle.dav_markup.specs.Owing.{owed_in}
use Rattle.dav_xml.specs.declared.position.Position.{Position}
use Rattle.dav_xml.specs.Ahead.{Lengthens, CanLengthen}
use Rattle.dav_xml.specs.Events.{later_in}
use Rattle.dav_xml.proofs.AheadLemmas.{takes_name, can_lengthen, small_name}
use Rattle.dav_xml.proofs.scan.Scan.take_name.Goals as goal

pub longer-requires : goal.longer-requires
longer-requires c =
    subst (λ (z : Position). CanLengthen z (take c.args.stretch.len c.args.bytes.now)) (sym c.replace-position.ensures.value)
    (can_lengthen c.args.self.now.position c.args.self.now.size (take c.args.stretch.len c.args.bytes.now) (owed_in c.args.self.now.owed) (owed_in c.args.stretch.owed) c.requires.ahead.2)

pub overflow_add-self : goal.overflow_add-self
overflow_add-self c =
    let s = small_name c.args.self.now.position c.args.self.now.size (take c.args.stretch.len c.args.bytes.now) (owed_in c.args.self.now.owed) (owed_in c.args.stretch.owed) c.requires.ahead.2 in
    let n : length (take c.args.stretch.len c.args.bytes.now) ≡ c.args.stretch.len = simp length-take (omega (arith, c.requires.ahead.1)) in
    omega (arith, s, n)

pub returns-in_default-clause-goes : goal.returns-in_default-clause-goes
returns-in_default-clause-goes c = λ text given h. tt

pub returns-in_default-clause-stops : goal.returns-in_default-clause-stops
returns-in_default-clause-stops c = λ text given h. inl refl

pub returns-clause-goes : goal.returns-clause-goes
returns-clause-goes c = λ text given h.
    let run = take c.args.stretch.len c.args.bytes.now in
    let n : length run ≡ c.args.stretch.len = simp length-take (omega (arith, c.requires.ahead.1)) in
    let g : Lengthens c.args.self.now.position run c.in-Ok.position =
    subst (λ (z : Position). Lengthens z run c.in-Ok.position) c.replace-position.ensures.value c.in-Ok.ensures in
    takes_name c.args.self.now _ text given run c.args.stretch.owed h (ap later_in c.requires.quiet) c.requires.quiet c.requires.ahead.2 g
    refl refl refl (ap (λ z. c.args.self.now.size + z) (sym n)) refl (ap (λ z. c.args.self.now.at + z) (sym n)) refl

pub returns-clause-stops : goal.returns-clause-stops
returns-clause-stops c = λ text given h. tt
