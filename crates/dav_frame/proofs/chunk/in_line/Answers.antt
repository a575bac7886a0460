use Rattle.std.proofs.Common.{rules, ◌≡◌, ◌∙◌, ◌+◌, ◌-◌, ◌++◌, arith, subst, refl, ℕ, length, drop}
use Rattle.dav_frame.specs.Reading.{FromPhase}
use Rattle.dav_frame.specs.declared.phase.Step.{Step}
use Rattle.dav_frame.proofs.ChunkLemmas.{line_bad, line_ends, line_whole}
use Rattle.dav_frame.proofs.chunk.in_line.Goals as goal

pub overflow_sub-result : goal.overflow_sub-result
overflow_sub-result c =
    let is : c.extend_from_slice.new.self.items ≡ c.args.kept.items ++ c.args.piece.now = search rules in
    let l = c.in-Whole.ensures in
    let e = line_ends c.args.kept.items c.args.piece.now c.deref.result.now (c.deref.ensures.value ∙ is) c.requires.0 c.in-Whole.size c.in-Whole.used l.0 l.1 l.2 in
    omega (arith, e.past)

pub returns-in-Refused-clause-leads : goal.returns-in-Refused-clause-leads
returns-in-Refused-clause-leads c more o q =
    let is : c.extend_from_slice.new.self.items ≡ c.args.kept.items ++ c.args.piece.now = search rules in
    line_bad c.args.chunks.head c.args.chunks.before c.args.chunks.at c.args.chunks.body.items c.args.kept.items c.args.piece.now c.deref.result.now
    (c.deref.ensures.value ∙ is) c.in-Refused.ensures more o
    (let F : Step → Type 0 = λ s. FromPhase s.phase (drop s.used c.args.piece.now ++ more) o in (subst F c.bad.ensures q).1)

pub returns-in-Whole-clause-moves : goal.returns-in-Whole-clause-moves
returns-in-Whole-clause-moves c some =
    let is : c.extend_from_slice.new.self.items ≡ c.args.kept.items ++ c.args.piece.now = search rules in
    let l = c.in-Whole.ensures in
    let e = line_ends c.args.kept.items c.args.piece.now c.deref.result.now (c.deref.ensures.value ∙ is) c.requires.0 c.in-Whole.size c.in-Whole.used l.0 l.1 l.2 in
    omega (arith, e.past)

pub returns-in-Whole-clause-counts : goal.returns-in-Whole-clause-counts
returns-in-Whole-clause-counts c reading =
    let is : c.extend_from_slice.new.self.items ≡ c.args.kept.items ++ c.args.piece.now = search rules in
    let l = c.in-Whole.ensures in
    let e = line_ends c.args.kept.items c.args.piece.now c.deref.result.now (c.deref.ensures.value ∙ is) c.requires.0 c.in-Whole.size c.in-Whole.used l.0 l.1 l.2 in
    let counts = c.after_line.ensures.counts reading in
    let old : c.len-old.result ≡ length c.args.kept.items = omega arith in
    omega (arith, e.past, counts, old)

pub returns-in-Whole-clause-leads : goal.returns-in-Whole-clause-leads
returns-in-Whole-clause-leads c more o q =
    let is : c.extend_from_slice.new.self.items ≡ c.args.kept.items ++ c.args.piece.now = search rules in
    let l = c.in-Whole.ensures in
    let old : c.len-old.result ≡ length c.args.kept.items = omega arith in
    let D : ℕ → Type 0 = λ n. FromPhase c.after_line.result (drop (c.in-Whole.used - n) c.args.piece.now ++ more) o in
    let from = c.after_line.ensures.leads (drop (c.in-Whole.used - length c.args.kept.items) c.args.piece.now ++ more) o (subst D old q) in
    line_whole c.args.chunks c.args.kept.items c.args.piece.now c.deref.result.now (c.deref.ensures.value ∙ is) c.requires.0
    c.in-Whole.size c.in-Whole.used (c.args.chunks.at + c.in-Whole.used) l.0 l.1 l.2 refl more o from
