use Rattle.std.proofs.Common.{List, ℕ, ◌+◌, ◌≤◌, length, sym, subst, arith, inr}
use Rattle.httparse.specs.Grammar.{HasNoSection, NeverHasSection}
use Rattle.dav_head.specs.Limit.{IsWithin}
use Rattle.dav_frame.proofs.ChunkLemmas.{none_is_no_section, none_is_section_front}
use Rattle.dav_frame.proofs.chunk.after_line.Goals as goal

pub returns-then-size-gt0-clause-leads : goal.returns-then-size-gt0-clause-leads
returns-then-size-gt0-clause-leads c rest o from = inr (c.if-size-gt0.true, from)

pub returns-clause-sound : goal.returns-clause-sound
returns-clause-sound c =
    let before = c.args.chunks.before in
    let P : List ℕ → Type 0 = λ s. HasNoSection s × (¬ (NeverHasSection s)) × IsWithin before s × (before + length s ≤ 65536) in
    let at = subst P (sym c.new-kept.ensures.items) (none_is_no_section, none_is_section_front, λ n h. absurd (omega arith), omega (arith, c.requires.heads)) in
    (at.0, at.1, at.2, at.3, omega (arith, c.requires.few), c.requires.fits)
