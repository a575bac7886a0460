use Rattle.std.proofs.Common.{arith}
use Rattle.dav_index.proofs.CutLemmas.{seen_cut_empty, seen_cut_marked}
use Rattle.dav_index.proofs.WrongLemmas.{wrong_mark}
use Rattle.dav_index.proofs.reader.seen_of.Goals as goal

pub returns-in_default : goal.returns-in_default
returns-in_default c = seen_cut_empty c.args.bytes.now c.in_default.ensures.cases

pub returns-in-None : goal.returns-in-None
returns-in-None c =
    seen_cut_marked c.args.bytes.now c.in-Some.rest.now c.in-Some.mark.now c.in-Some.ensures.cases.0 c.in-3.is c.in-None.ensures.cases

pub returns-in_default-mark : goal.returns-in_default-mark
returns-in_default-mark c =
    wrong_mark c.in-Some.mark.now c.args.bytes.now c.in-Some.rest.now c.in-Some.ensures.cases.0 (λ e. absurd (omega arith)) (λ e. absurd (omega arith)) (λ e. absurd (omega arith))
