use Rattle.std.proofs.Common.{sym, subst}
use Rattle.dav_index.specs.Left.{Left}
use Rattle.dav_index.specs.Records.{body_text}
use Rattle.dav_index.specs.Reading.{Begins}
use Rattle.dav_index.specs.Faults.{a_body}
use Rattle.dav_index.proofs.CutLemmas.{body_cut}
use Rattle.dav_index.proofs.WrongLemmas.{wrong_body, length-body_text}
use Rattle.dav_index.proofs.FieldLemmas.{taken, front_within}
use Rattle.dav_index.proofs.ReadingLemmas.{field_cut, field_wrong}
use Rattle.dav_index.proofs.reader.Reader.body.Goals as goal

pub returns-in_default : goal.returns-in_default
returns-in_default c = λ _. field_cut a_body c.self.inside.rest.now c.self.inside.at c.args.self.now c.self.view_is (body_cut c.self.inside.rest.now c.in_default.ensures)

pub returns-then-body-lt-FIRST_FILE : goal.returns-then-body-lt-FIRST_FILE
returns-then-body-lt-FIRST_FILE c =
    λ _. field_wrong a_body c.self.inside.rest.now c.self.inside.at c.args.self.now c.self.view_is
    (wrong_body c.in-Some.body c.self.inside.rest.now c.in-Some.ensures.0 c.in-Some.ensures.1 c.if-body-lt-FIRST_FILE.true)

pub skip-requires : goal.skip-requires
skip-requires c =
    let text = body_text c.in-Some.body in
    let front = subst (λ (l : Left). Begins text l.rest) c.self.view_is c.in-Some.ensures.1 in
    front_within text c.args.self.now.rest 44 front (sym (length-body_text c.in-Some.body c.in-Some.ensures.0.sum_size))

pub returns : goal.returns
returns c =
    let text = body_text c.in-Some.body in
    let is = c.in-Some.ensures.0 in
    let front = subst (λ (l : Left). Begins text l.rest) c.self.view_is c.in-Some.ensures.1 in (
      record { file = c.if-body-lt-FIRST_FILE.false; file_fits = is.file_fits; len_fits = is.len_fits; sum_size = is.sum_size },
      taken text c.args.self.now c.skip.new.self 44 front (sym (length-body_text c.in-Some.body is.sum_size)) c.skip.ensures,
    )
