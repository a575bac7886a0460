use Rattle.std.proofs.Common.{sym, subst}
use Rattle.dav_index.specs.Left.{Left}
use Rattle.dav_index.specs.Records.{four_bytes}
use Rattle.dav_index.specs.Reading.{Begins}
use Rattle.dav_index.specs.Faults.{a_number}
use Rattle.dav_index.proofs.CutLemmas.{number_cut}
use Rattle.dav_index.proofs.FieldLemmas.{taken, front_within, length-four_bytes}
use Rattle.dav_index.proofs.ReadingLemmas.{field_cut}
use Rattle.dav_index.proofs.reader.Reader.number.Goals as goal

pub returns-in_default : goal.returns-in_default
returns-in_default c = λ _. field_cut a_number c.self.inside.rest.now c.self.inside.at c.args.self.now c.self.view_is (number_cut c.self.inside.rest.now c.in_default.ensures)

pub skip-requires : goal.skip-requires
skip-requires c =
    let text = four_bytes c.in-Some.number in
    let front = subst (λ (l : Left). Begins text l.rest) c.self.view_is c.in-Some.ensures.1 in
    front_within text c.args.self.now.rest 4 front (sym (length-four_bytes c.in-Some.number))

pub returns : goal.returns
returns c =
    let text = four_bytes c.in-Some.number in
    let front = subst (λ (l : Left). Begins text l.rest) c.self.view_is c.in-Some.ensures.1 in
    (c.in-Some.ensures.0, taken text c.args.self.now c.skip.new.self 4 front (sym (length-four_bytes c.in-Some.number)) c.skip.ensures)
