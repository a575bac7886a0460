use Rattle.std.proofs.Common.{◌≡◌, ◌-◌, ◌∙◌, ◌++◌, ◌==◌, ◌&&◌, Bool, arith, ap, sym, subst, List, ℕ, length, drop}
use Rattle.httparse.specs.Grammar.{ReadsResponse, HasNoResponse, NeverHasResponse, MayBecomeResponse}
use Rattle.httparse.specs.Spans.{IsResponseAt}
use Rattle.dav_head.specs.Limit.{Keeps}
use Rattle.dav_frame.specs.Reading.{FromPhase}
use Rattle.dav_frame.specs.declared.phase.Step.{Step}
use Rattle.dav_frame.proofs.HeadLemmas.{never_from, limit_from, open_from, ends_at, whole_from, head_fits}
use Rattle.dav_frame.proofs.head.in_head.Goals as goal

pub returns-then-past-clause-leads : goal.returns-then-past-clause-leads
returns-then-past-clause-leads c more o q =
    let P : List ℕ → Type 0 = λ s. HasNoResponse s × MayBecomeResponse s in
    let open_ = subst P c.deref.ensures.value c.in-Open.ensures in
    let K : Bool → Type 0 = λ b. Keeps c.args.before c.args.kept.items c.args.piece.now c.keep.new.kept.items b in
    limit_from c.args.method (subst K c.if-past.true c.in-Ok.ensures.ok) open_.0 open_.1 more o
    (let F : Step → Type 0 = λ s. FromPhase s.phase (drop s.used c.args.piece.now ++ more) o in (subst F c.failed-then-past.ensures q).1)

pub returns-in-Refused-clause-leads : goal.returns-in-Refused-clause-leads
returns-in-Refused-clause-leads c more o q =
    let P : List ℕ → Type 0 = λ s. NeverHasResponse s in
    never_from c.args.method c.in-Ok.ensures.ok (subst P c.deref.ensures.value c.in-Refused.ensures) more o
    (let F : Step → Type 0 = λ s. FromPhase s.phase (drop s.used c.args.piece.now ++ more) o in (subst F c.failed-in-Refused.ensures q).1)

pub returns-else-past-clause-leads : goal.returns-else-past-clause-leads
returns-else-past-clause-leads c more o q =
    let K : Bool → Type 0 = λ b. Keeps c.args.before c.args.kept.items c.args.piece.now c.keep.new.kept.items b in
    open_from c.args.method (subst K c.if-past.false c.in-Ok.ensures.ok) more o q

pub overflow_sub-result : goal.overflow_sub-result
overflow_sub-result c =
    let e = ends_at c.in-Ok.ensures.ok c.requires.0 c.deref.ensures.value c.in-Whole.ensures.0.0 c.in-Whole.ensures.0.1 in
    omega (arith, e.past)

pub returns-in-Whole-clause-used : goal.returns-in-Whole-clause-used
returns-in-Whole-clause-used c =
    let e = ends_at c.in-Ok.ensures.ok c.requires.0 c.deref.ensures.value c.in-Whole.ensures.0.0 c.in-Whole.ensures.0.1 in
    omega (arith, e.inside)

pub returns-in-Whole-clause-leads : goal.returns-in-Whole-clause-leads
returns-in-Whole-clause-leads c more o q =
    let h = c.in-Whole.ensures.0.0 in
    let at = c.in-Whole.ensures.0.1 in
    let len = c.in-Whole.spans.len in
    let R : List ℕ → Type 0 = λ s. ReadsResponse s h (drop len s) in
    let same : c.deref.result.now ≡ c.deref-in-Whole.result.now = c.deref.ensures.value ∙ sym c.deref-in-Whole.ensures.value in
    let A : List ℕ → Type 0 = λ s. IsResponseAt s c.judge_head.new.headers c.in-Whole.spans h in
    let D : ℕ → Type 0 = λ n. FromPhase c.after_head.result (drop (len - n) c.args.piece.now ++ more) o in
    let before : c.len-old.result ≡ length c.args.kept.items = omega arith in
    let begun = c.after_head.ensures.begins h (subst A same at) (drop (len - length c.args.kept.items) c.args.piece.now ++ more) o (subst D before q) in
    let kept : c.len.result ≡ length c.keep.new.kept.items = omega arith in
    whole_from c.args.method c.in-Ok.past c.in-Ok.ensures.ok c.requires.0 h len (subst R c.deref.ensures.value at.reads) at.len
    (let w = c.in-Whole.ensures.1.section.len_fits in omega (arith, w, ap length c.deref.ensures.value)) c.ends_past-ends.result
    (c.ends_past-ends.ensures ∙ ap (λ n. c.in-Ok.past && (len == n)) kept) more o begun

pub returns-in-Whole-clause-moves : goal.returns-in-Whole-clause-moves
returns-in-Whole-clause-moves c some =
    let e = ends_at c.in-Ok.ensures.ok c.requires.0 c.deref.ensures.value c.in-Whole.ensures.0.0 c.in-Whole.ensures.0.1 in
    omega (arith, e.past)

pub returns-in-Whole-clause-counts : goal.returns-in-Whole-clause-counts
returns-in-Whole-clause-counts c reading =
    let e = ends_at c.in-Ok.ensures.ok c.requires.0 c.deref.ensures.value c.in-Whole.ensures.0.0 c.in-Whole.ensures.0.1 in
    let before : c.len-old.result ≡ length c.args.kept.items = omega arith in
    let counts = c.after_head.ensures.counts reading in
    omega (arith, e.past, before, counts)

pub after_head-requires-clause-heads : goal.after_head-requires-clause-heads
after_head-requires-clause-heads c none =
    let kept : c.len.result ≡ length c.keep.new.kept.items = omega arith in
    let w = c.in-Whole.ensures.1.section.len_fits in
    head_fits c.in-Ok.past c.in-Ok.ensures.ok (omega (arith, c.requires.3)) c.in-Whole.spans.len (omega (arith, w, ap length c.deref.ensures.value))
    (ap (λ n. c.in-Ok.past && (c.in-Whole.spans.len == n)) (sym kept) ∙ sym c.ends_past-ends.ensures ∙ none)
