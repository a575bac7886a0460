use Rattle.std.proofs.Common.{◌∙◌, refl, ap, sym, arith, subst, inl, Ok, Err}
use Rattle.dav_frame.specs.Framing.{message}
use Rattle.dav_frame.specs.Reading.{IsSound, IsWholeEnd, IsReadingEnd}
use Rattle.dav_frame.specs.declared.fault.FrameFault.TheVariants.{Cut}
use Rattle.dav_frame.specs.declared.phase.Phase.{Phase}
use Rattle.dav_frame.specs.declared.phase.Phase.TheVariants as phases
use Rattle.dav_frame.proofs.ReadingLemmas.{closes_body, cut_here}
use Rattle.dav_frame.proofs.reader.at_end.Goals as goal

pub returns-in-Whole-clause-whole : goal.returns-in-Whole-clause-whole
returns-in-Whole-clause-whole c is =
    let P : Phase → Type 0 = λ p. IsWholeEnd p (Ok c.reply_of.result) in
    subst P (sym c.in-Whole.is) (message c.in-Whole.head c.in-Whole.body.items, ap (λ r. Ok r) c.reply_of.ensures, λ rest. refl)

pub returns-in-ToEnd-clause-ended : goal.returns-in-ToEnd-clause-ended
returns-in-ToEnd-clause-ended c is =
    let S : Phase → Type 0 = λ p. IsSound p in
    let sound = subst S c.in-ToEnd.is c.requires in
    let P : Phase → Type 0 = λ p. IsReadingEnd p (Ok c.reply_of-in-ToEnd.result) in
    subst P (sym c.in-ToEnd.is) (inl (message c.in-ToEnd.head c.in-ToEnd.body.items, ap (λ r. Ok r) c.reply_of-in-ToEnd.ensures, closes_body c.in-ToEnd.head c.in-ToEnd.body.items sound.1))

pub returns-in-AtHead-clause-ended : goal.returns-in-AtHead-clause-ended
returns-in-AtHead-clause-ended c is =
    let S : Phase → Type 0 = λ p. IsSound p in
    let sound = subst S c.in-AtHead.is c.requires in
    let P : Phase → Type 0 = λ p. IsReadingEnd p c.cut.result in
    subst P (sym c.in-AtHead.is) (cut_here (phases.AtHead c.in-AtHead.method c.in-AtHead.before c.in-AtHead.kept) c.cut.result sound tt (λ x. x) (c.cut.ensures ∙ ap (λ n. Err (Cut n)) (omega arith)))

pub returns-in-AtLine-clause-ended : goal.returns-in-AtLine-clause-ended
returns-in-AtLine-clause-ended c is =
    let S : Phase → Type 0 = λ p. IsSound p in
    let sound = subst S c.in-AtLine.is c.requires in
    let P : Phase → Type 0 = λ p. IsReadingEnd p c.cut-in-AtLine.result in
    subst P (sym c.in-AtLine.is) (cut_here (phases.AtLine c.in-AtLine.chunks c.in-AtLine.kept) c.cut-in-AtLine.result sound tt (λ x. x) (c.cut-in-AtLine.ensures ∙ ap (λ n. Err (Cut n)) (omega arith)))

pub returns-in-AfterData-clause-ended : goal.returns-in-AfterData-clause-ended
returns-in-AfterData-clause-ended c is =
    let S : Phase → Type 0 = λ p. IsSound p in
    let sound = subst S c.in-AfterData.is c.requires in
    let P : Phase → Type 0 = λ p. IsReadingEnd p c.cut-in-AfterData.result in
    subst P (sym c.in-AfterData.is) (cut_here (phases.AfterData c.in-AfterData.chunks c.in-AfterData.got c.in-AfterData.has_cr) c.cut-in-AfterData.result sound tt (λ x. x) (c.cut-in-AfterData.ensures ∙ refl))

pub returns-clause-ended : goal.returns-clause-ended
returns-clause-ended c is =
    let S : Phase → Type 0 = λ p. IsSound p in
    let sound = subst S c.in-AtTrailers.is c.requires in
    let P : Phase → Type 0 = λ p. IsReadingEnd p c.cut-in-AtTrailers.result in
    subst P (sym c.in-AtTrailers.is) (cut_here (phases.AtTrailers c.in-AtTrailers.chunks c.in-AtTrailers.kept) c.cut-in-AtTrailers.result sound tt (λ x. x) (c.cut-in-AtTrailers.ensures ∙ ap (λ n. Err (Cut n)) (omega arith)))
