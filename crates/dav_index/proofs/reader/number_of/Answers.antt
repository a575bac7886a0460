use Rattle.std.proofs.Common.{refl, ap, ◌∙◌, arith}
use Rattle.std.specs.Int.{w32, from_be_bytes}
use Rattle.dav_index.proofs.FieldLemmas.{four_read, begins_front}
use Rattle.dav_index.proofs.reader.number_of.Goals as goal

pub returns : goal.returns
returns c =
    let is =
    four_read c.args.bytes.now c.from_be_bytes.result (c.in-Some.ensures.variant.0 refl) (λ i. omega (arith, c.type_inv.bytes i))
    (c.from_be_bytes.ensures ∙ ap (from_be_bytes w32) c.in-Some.ensures.cases.0) in
    (c.from_be_bytes.type_inv, begins_front _ 4 c.args.bytes.now is)
