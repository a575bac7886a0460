use Rattle.std.proofs.Common.{refl, inl, inr, arith, Ok, Err}
use Rattle.dav_markup.specs.Owing.{owed_in}
use Rattle.dav_xml.proofs.ScanLemmas.{character_fails, step_fails, same_step, within, takes}
use Rattle.dav_xml.proofs.scan.Scan.take.Goals as goal

pub returns-in_default-clause-stops : goal.returns-in_default-clause-stops
returns-in_default-clause-stops c = λ text given h l. inr (character_fails c.args.self.now text given c.args.byte h l c.in_default.ensures)

pub returns-in-Err-clause-stops : goal.returns-in-Err-clause-stops
returns-in-Err-clause-stops c = λ text given h l.
    step_fails c.args.self.now text given c.args.byte (owed_in c.in-Some.owed) c.in-Err.fault h l c.in-Some.ensures
    (same_step _ c.args.self.now.position c.deref.result.now c.args.self.now.opens.items c.args.self.now.at c.args.self.now.depth c.args.self.now.size c.args.byte
    (Err c.in-Err.fault) c.replace-position.ensures.value c.deref.ensures.value c.in-Err.ensures)

pub take_step-requires : goal.take_step-requires
take_step-requires c = (within c.in-Ok.step c.args.self.now.depth c.args.self.now.size c.in-Ok.ensures.1).0

pub returns-in_default-take_step-clause-stops : goal.returns-in_default-take_step-clause-stops
returns-in_default-take_step-clause-stops c = λ text given h l. inl refl

pub size_at-self-requires : goal.size_at-self-requires
size_at-self-requires c = (within c.in-Ok.step c.args.self.now.depth c.args.self.now.size c.in-Ok.ensures.1).1

pub overflow_add-self : goal.overflow_add-self
overflow_add-self c = omega (arith, c.requires)

pub returns-clause-goes : goal.returns-clause-goes
returns-clause-goes c = λ text given h l.
    let k = same_step _ c.args.self.now.position c.deref.result.now c.args.self.now.opens.items c.args.self.now.at c.args.self.now.depth c.args.self.now.size c.args.byte
    (Ok c.in-Ok.step) c.replace-position.ensures.value c.deref.ensures.value c.in-Ok.ensures in
    takes c.args.self.now _ text given c.args.byte c.in-Some.owed c.in-Ok.step c.in-Ok-take_step.turn h l c.in-Some.ensures k.0 k.1
    c.in-Ok-take_step.ensures c.size_at-self.ensures refl refl refl refl refl refl

pub returns-clause-at : goal.returns-clause-at
returns-clause-at c = refl
