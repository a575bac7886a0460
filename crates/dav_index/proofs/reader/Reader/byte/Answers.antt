use Rattle.std.proofs.Common.{arith}
use Rattle.dav_index.specs.Faults.{a_byte}
use Rattle.dav_index.proofs.CutLemmas.{byte_cut}
use Rattle.dav_index.proofs.WrongLemmas.{wrong_byte}
use Rattle.dav_index.proofs.ReadingLemmas.{field_cut, field_wrong}
use Rattle.dav_index.proofs.reader.Reader.byte.Goals as goal

pub returns-in_default : goal.returns-in_default
returns-in_default c = λ _. field_cut (a_byte c.args.most) c.self.inside.rest.now c.self.inside.at c.args.self.now c.self.view_is (byte_cut c.args.most c.self.inside.rest.now (omega (arith, c.in_default.ensures.cases)))

pub returns-then-byte-most : goal.returns-then-byte-most
returns-then-byte-most c = λ _. field_wrong (a_byte c.args.most) c.self.inside.rest.now c.self.inside.at c.args.self.now c.self.view_is (wrong_byte c.args.most c.in-Some.byte.now c.self.inside.rest.now c.in-Some.field-0-1.now c.in-Some.ensures.cases.0 c.if-byte-most.true)
