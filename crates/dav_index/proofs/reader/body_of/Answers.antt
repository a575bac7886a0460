use Rattle.std.proofs.Common.{refl, sym, ap, subst, ◌∙◌, length, arith}
use Rattle.std.specs.Int.{w32, w64, from_be_bytes}
use Rattle.std.proofs.lemmas.List.{length-take-le}
use Rattle.dav_index.specs.Records.{four_bytes, eight_bytes}
use Rattle.dav_index.proofs.FieldLemmas.{AreBytes, bytes_behind, four_read, eight_read, split_read, begins_body}
use Rattle.dav_index.proofs.reader.body_of.Goals as goal

pub returns : goal.returns
returns c =
    let bytes = c.args.bytes.now in
    let rest = c.in-Some.rest.now in
    let more = c.in-Some-split_first_chunk.rest.now in
    let small : AreBytes bytes = λ i. omega (arith, c.type_inv.bytes i) in
    let small_rest : AreBytes rest = subst AreBytes (sym c.in-Some.ensures.cases.1) (bytes_behind 4 bytes small) in
    let file =
    four_read bytes c.from_be_bytes.result (c.in-Some.ensures.variant.0 refl) small
    (c.from_be_bytes.ensures ∙ ap (from_be_bytes w32) c.in-Some.ensures.cases.0) in
    let len =
    eight_read rest c.from_be_bytes-2.result (c.in-Some-split_first_chunk.ensures.variant.0 refl) small_rest
    (c.from_be_bytes-2.ensures ∙ ap (from_be_bytes w64) c.in-Some-split_first_chunk.ensures.cases.0) in (
      record {
        file_fits = c.from_be_bytes.type_inv;
        len_fits = c.from_be_bytes-2.type_inv;
        sum_size = ap length c.in-Some-split_first_chunk-2.ensures.cases.0 ∙ length-take-le 32 more (c.in-Some-split_first_chunk-2.ensures.variant.0 refl);
      },
      (
        c.in-Some-split_first_chunk-2.field-0-1.now,
        begins_body _ _ _ bytes rest more _
            (split_read (four_bytes c.from_be_bytes.result) 4 bytes rest file c.in-Some.ensures.cases.1)
            (split_read (eight_bytes c.from_be_bytes-2.result) 8 rest more len c.in-Some-split_first_chunk.ensures.cases.1)
            (split_read c.in-Some-split_first_chunk-2.sum.now 32 more c.in-Some-split_first_chunk-2.field-0-1.now c.in-Some-split_first_chunk-2.ensures.cases.0 c.in-Some-split_first_chunk-2.ensures.cases.1),
      ),
    )
