use Rattle.std.proofs.Common.{take, sym, subst, arith}
use Rattle.dav_text.specs.Tag.{IsKept}
use Rattle.dav_index.proofs.FieldLemmas.{begins_tagged}
use Rattle.dav_index.proofs.CutLemmas.{tag_cut}
use Rattle.dav_index.proofs.WrongLemmas.{wrong_tag}
use Rattle.dav_index.proofs.reader.tagged_of.Goals as goal

pub returns-then-bytes-len : goal.returns-then-bytes-len
returns-then-bytes-len c = tag_cut c.args.len c.args.bytes.now (omega (arith, c.from-len.ensures, c.if-bytes-len.true))

pub returns-in-Some : goal.returns-in-Some
returns-in-Some c = (
  subst IsKept (sym c.in-Some.ensures.0) c.in-Some.ensures.1,
  begins_tagged c.args.len c.from-len.result c.args.bytes.now c.in-Some.tag c.from-len.ensures c.if-bytes-len.false c.in-Some.ensures.0,
)

pub returns-in-None : goal.returns-in-None
returns-in-None c =
    wrong_tag c.args.len c.args.bytes.now (omega (arith, c.from-len.ensures, c.if-bytes-len.false))
    (λ kept. c.in-None.ensures (subst (λ n. IsKept (take n c.args.bytes.now)) (sym c.from-len.ensures) kept))
