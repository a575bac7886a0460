use Rattle.std.proofs.Common.{refl, ap, ◌∙◌, arith}
use Rattle.std.specs.Int.{w16, from_be_bytes}
use Rattle.dav_index.specs.Records.{two_bytes}
use Rattle.dav_index.proofs.FieldLemmas.{two_read, split_read, begins_sized}
use Rattle.dav_index.proofs.CutLemmas.{length_cut, text_cut}
use Rattle.dav_index.proofs.reader.sized_of.Goals as goal

pub returns-in_default : goal.returns-in_default
returns-in_default c = length_cut c.args.bytes.now (λ i. omega (arith, c.type_inv.bytes i)) c.in_default.ensures.cases

pub returns-then-rest-len : goal.returns-then-rest-len
returns-then-rest-len c =
    let is =
    two_read c.args.bytes.now c.from_be_bytes.result (c.in-Some.ensures.variant.0 refl) (λ i. omega (arith, c.type_inv.bytes i))
    (c.from_be_bytes.ensures ∙ ap (from_be_bytes w16) c.in-Some.ensures.cases.0) in
    text_cut c.args.bytes.now c.in-Some.rest.now c.from_be_bytes.result
    (split_read (two_bytes c.from_be_bytes.result) 2 c.args.bytes.now c.in-Some.rest.now is c.in-Some.ensures.cases.1)
    c.from_be_bytes.type_inv
    (omega (arith, c.from-len.ensures, c.if-rest-len.true))

pub returns : goal.returns
returns c =
    let is =
    two_read c.args.bytes.now c.from_be_bytes.result (c.in-Some.ensures.variant.0 refl) (λ i. omega (arith, c.type_inv.bytes i))
    (c.from_be_bytes.ensures ∙ ap (from_be_bytes w16) c.in-Some.ensures.cases.0) in
    begins_sized c.args.bytes.now c.in-Some.rest.now c.from_be_bytes.result c.from-len.result
    (split_read (two_bytes c.from_be_bytes.result) 2 c.args.bytes.now c.in-Some.rest.now is c.in-Some.ensures.cases.1)
    c.from_be_bytes.type_inv c.from-len.ensures c.if-rest-len.false
