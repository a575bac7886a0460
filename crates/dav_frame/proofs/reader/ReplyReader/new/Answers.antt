use Rattle.std.proofs.Common.{List, ℕ, ◌+◌, ◌≤◌, length, sym, subst, arith}
use Rattle.httparse.specs.Grammar.{HasNoResponse, NeverHasResponse}
use Rattle.dav_head.specs.Limit.{IsWithin}
use Rattle.dav_frame.proofs.HeadLemmas.{none_is_no_head, none_is_alive}
use Rattle.dav_frame.proofs.reader.ReplyReader.new.Goals as goal

pub invariant_of-result : goal.invariant_of-result
invariant_of-result c =
    let P : List ℕ → Type 0 = λ s. HasNoResponse s × (¬ (NeverHasResponse s)) × IsWithin 0 s × (0 + length s ≤ 65536) in
    subst P (sym c.new.ensures.items) (none_is_no_head, none_is_alive, λ n h. absurd (omega arith), omega arith)
