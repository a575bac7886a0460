use Rattle.std.proofs.Common.{List, ℕ, ◌+◌, ◌≤◌, length, sym, subst, arith}
use Rattle.httparse.specs.Grammar.{HasNoResponse, NeverHasResponse}
use Rattle.dav_head.specs.Limit.{IsWithin}
use Rattle.dav_frame.proofs.HeadLemmas.{none_is_no_head, none_is_alive}
use Rattle.dav_frame.proofs.head.after_head.Goals as goal

pub returns-clause-sound : goal.returns-clause-sound
returns-clause-sound c =
    let at = c.args.before + c.args.spans.len in
    let P : List ℕ → Type 0 = λ s. HasNoResponse s × (¬ (NeverHasResponse s)) × IsWithin at s × (at + length s ≤ 65536) in
    subst P (sym c.new-kept.ensures.items) (none_is_no_head, none_is_alive, λ n h. absurd (omega arith), omega (arith, c.requires.heads c.if-past.false))
