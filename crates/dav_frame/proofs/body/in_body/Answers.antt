use Rattle.std.proofs.Common.{rules, ◌≡◌, ◌∙◌, arith, ◌++◌, [], drop, length}
use Rattle.std.proofs.lemmas.Grind.{common_steps}
use Rattle.dav_frame.proofs.BodyLemmas.{body_more}
use Rattle.dav_frame.proofs.body.in_body.Goals as goal

pub returns-then-piece-need-clause-leads : goal.returns-then-piece-need-clause-leads
returns-then-piece-need-clause-leads c more o e =
    let none : drop (length c.args.piece.now) c.args.piece.now ≡ [] = grind (arith, common_steps) in
    let is : c.extend_from_slice.new.self.items ≡ c.args.body.items ++ c.args.piece.now = search rules in
    let g = body_more c.args.head c.args.body.items c.args.need c.args.piece.now more c.if-piece-need.true in
    (rw (is, none) at e) ∙ g
