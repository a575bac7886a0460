use Rattle.std.proofs.Common.{◌≡◌, List, ℕ, length, sym, subst, arith, ap}
use Rattle.dav_head.specs.Line.{HasNoLine, NeverHasLine}
use Rattle.dav_frame.proofs.ChunkLemmas.{none_is_no_line, none_is_line_front}
use Rattle.dav_frame.proofs.body.begin.Goals as goal

pub returns-in-Chunked-clause-sound : goal.returns-in-Chunked-clause-sound
returns-in-Chunked-clause-sound c =
    let P : List ℕ → Type 0 = λ s. HasNoLine s × (¬ (NeverHasLine s)) in
    let front = subst P (sym c.new-kept.ensures.items) (none_is_no_line, none_is_line_front) in
    let none : length c.new-bytes.result.items ≡ 0 = ap length c.new-bytes.ensures.items in
    (front.0, front.1, c.requires.heads, (omega (arith, c.requires.heads), omega (arith, none)))
