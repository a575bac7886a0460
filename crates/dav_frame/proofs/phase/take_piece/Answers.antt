use Rattle.std.proofs.Common.{subst, ◌++◌, sym}
use Rattle.dav_frame.specs.Reading.{FromPhase}
use Rattle.dav_frame.specs.declared.phase.Phase.{Phase}
use Rattle.dav_frame.specs.declared.phase.Phase.TheVariants as phases
use Rattle.dav_frame.proofs.ReadingLemmas.{leads_front}
use Rattle.dav_frame.proofs.phase.take_piece.Goals as goal

pub returns-in-AtHead-clause-leads : goal.returns-in-AtHead-clause-leads
returns-in-AtHead-clause-leads c more o q =
    let P : Phase → Type 0 = λ p. FromPhase p (c.args.piece.now ++ more) o in
    subst P (sym c.in-AtHead.is)
    (leads_front (phases.AtHead c.in-AtHead.method c.in-AtHead.before c.in-AtHead.kept) c.in_head.result.phase c.args.piece.now c.first_line.result.now c.in_head.result.used c.first_line.ensures.front c.in_head.ensures.used c.in_head.ensures.leads more o q)

pub returns-in-AtLine-clause-leads : goal.returns-in-AtLine-clause-leads
returns-in-AtLine-clause-leads c more o q =
    let P : Phase → Type 0 = λ p. FromPhase p (c.args.piece.now ++ more) o in
    subst P (sym c.in-AtLine.is)
    (leads_front (phases.AtLine c.in-AtLine.chunks c.in-AtLine.kept) c.in_line.result.phase c.args.piece.now c.first_line-in-AtLine.result.now c.in_line.result.used c.first_line-in-AtLine.ensures.front c.in_line.ensures.used c.in_line.ensures.leads more o q)

pub returns-in-InData-clause-leads : goal.returns-in-InData-clause-leads
returns-in-InData-clause-leads c more o q =
    let P : Phase → Type 0 = λ p. FromPhase p (c.args.piece.now ++ more) o in
    subst P (sym c.in-InData.is) (c.in_data.ensures.leads more o q)

pub returns-in-AtTrailers-clause-leads : goal.returns-in-AtTrailers-clause-leads
returns-in-AtTrailers-clause-leads c more o q =
    let P : Phase → Type 0 = λ p. FromPhase p (c.args.piece.now ++ more) o in
    subst P (sym c.in-AtTrailers.is)
    (leads_front (phases.AtTrailers c.in-AtTrailers.chunks c.in-AtTrailers.kept) c.in_trailers.result.phase c.args.piece.now c.first_line-in-AtTrailers.result.now c.in_trailers.result.used c.first_line-in-AtTrailers.ensures.front c.in_trailers.ensures.used c.in_trailers.ensures.leads more o q)
