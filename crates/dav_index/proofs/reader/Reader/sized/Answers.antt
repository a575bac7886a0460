use Rattle.std.proofs.Common.{sym, subst, length, ◌+◌}
use Rattle.dav_index.specs.Left.{Left}
use Rattle.dav_index.specs.Reading.{Begins, sized}
use Rattle.dav_index.proofs.FieldLemmas.{taken, front_within, length-sized}
use Rattle.dav_index.proofs.reader.Reader.sized.Goals as goal

pub skip-requires : goal.skip-requires
skip-requires c =
    let text = sized c.in-Some.text.now in
    let front = subst (λ (l : Left). Begins text l.rest) c.self.view_is c.in-Some.ensures.1 in
    front_within text c.args.self.now.rest (2 + length c.in-Some.text.now) front (sym (length-sized c.in-Some.text.now))

pub returns : goal.returns
returns c =
    let text = sized c.in-Some.text.now in
    let front = subst (λ (l : Left). Begins text l.rest) c.self.view_is c.in-Some.ensures.1 in
    (c.in-Some.ensures.0, taken text c.args.self.now c.skip.new.self (2 + length c.in-Some.text.now) front (sym (length-sized c.in-Some.text.now)) c.skip.ensures)
