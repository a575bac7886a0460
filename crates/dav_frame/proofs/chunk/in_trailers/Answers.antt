use Rattle.std.proofs.Common.{◌≡◌, ◌-◌, ◌∙◌, ◌++◌, ◌==◌, ◌&&◌, Bool, true, false, refl, arith, ap, sym, subst, List, ℕ, length, drop}
use Rattle.httparse.specs.Grammar.{HasNoSection, NeverHasSection, MayBecomeSection}
use Rattle.dav_head.specs.Limit.{Keeps}
use Rattle.dav_head.specs.Trailers.{AreTrailers}
use Rattle.dav_head.proofs.KeepLemmas.{within_size}
use Rattle.dav_frame.specs.Framing.{Gives, message}
use Rattle.dav_frame.specs.Reading.{FromPhase}
use Rattle.dav_frame.specs.declared.phase.Step.{Step}
use Rattle.dav_frame.proofs.ChunkLemmas.{section_alive, trailers_never, trailers_limit, trailers_open, trailers_end, trailers_whole}
use Rattle.dav_frame.proofs.chunk.in_trailers.Goals as goal

pub returns-then-past-clause-leads : goal.returns-then-past-clause-leads
returns-then-past-clause-leads c more o q =
    let P : List ℕ → Type 0 = λ s. HasNoSection s × MayBecomeSection s in
    let open_ = subst P c.deref.ensures.value c.in-Open.ensures in
    let K : Bool → Type 0 = λ b. Keeps c.args.chunks.before c.args.kept.items c.args.piece.now c.keep.new.kept.items b in
    trailers_limit c.args.chunks.head c.args.chunks.at c.args.chunks.body.items (subst K c.if-past.true c.in-Ok.ensures.ok) open_.0 open_.1 more o
    (let F : Step → Type 0 = λ s. FromPhase s.phase (drop s.used c.args.piece.now ++ more) o in (subst F c.failed-then-past.ensures q).1)

pub returns-in-Refused-clause-leads : goal.returns-in-Refused-clause-leads
returns-in-Refused-clause-leads c more o q =
    let P : List ℕ → Type 0 = λ s. NeverHasSection s in
    trailers_never c.args.chunks.head c.args.chunks.at c.args.chunks.body.items c.in-Ok.ensures.ok (subst P c.deref.ensures.value c.in-Refused.ensures) more o
    (let F : Step → Type 0 = λ s. FromPhase s.phase (drop s.used c.args.piece.now ++ more) o in (subst F c.bad.ensures q).1)

pub returns-else-past-clause-leads : goal.returns-else-past-clause-leads
returns-else-past-clause-leads c more o q =
    let K : Bool → Type 0 = λ b. Keeps c.args.chunks.before c.args.kept.items c.args.piece.now c.keep.new.kept.items b in
    trailers_open c.args.chunks.head c.args.chunks.at c.args.chunks.body.items (subst K c.if-past.false c.in-Ok.ensures.ok) more o q

pub returns-else-past-clause-sound : goal.returns-else-past-clause-sound
returns-else-past-clause-sound c =
    let P : List ℕ → Type 0 = λ s. HasNoSection s × MayBecomeSection s in
    let open_ = subst P c.deref.ensures.value c.in-Open.ensures in
    let K : Bool → Type 0 = λ b. Keeps c.args.chunks.before c.args.kept.items c.args.piece.now c.keep.new.kept.items b in
    let within = ((subst K c.if-past.false c.in-Ok.ensures.ok).within refl).0 in
    (open_.0, section_alive _ open_.1, within, within_size _ _ (omega (arith, c.requires.3)) within, c.requires.4, c.requires.5)

pub overflow_sub-result : goal.overflow_sub-result
overflow_sub-result c =
    let P : List ℕ → Type 0 = λ s. AreTrailers s c.in-Whole.used in
    let e = trailers_end c.in-Ok.ensures.ok c.requires.0 (subst P c.deref.ensures.value c.in-Whole.ensures) in
    omega (arith, e.past)

pub returns-else-ends-clause-used : goal.returns-else-ends-clause-used
returns-else-ends-clause-used c =
    let P : List ℕ → Type 0 = λ s. AreTrailers s c.in-Whole.used in
    let e = trailers_end c.in-Ok.ensures.ok c.requires.0 (subst P c.deref.ensures.value c.in-Whole.ensures) in
    omega (arith, e.inside)

pub returns-else-ends-clause-moves : goal.returns-else-ends-clause-moves
returns-else-ends-clause-moves c some =
    let P : List ℕ → Type 0 = λ s. AreTrailers s c.in-Whole.used in
    let e = trailers_end c.in-Ok.ensures.ok c.requires.0 (subst P c.deref.ensures.value c.in-Whole.ensures) in
    omega (arith, e.past)

pub returns-then-ends-clause-leads : goal.returns-then-ends-clause-leads
returns-then-ends-clause-leads c more o q =
    let P : List ℕ → Type 0 = λ s. AreTrailers s c.in-Whole.used in
    let kept : c.len.result ≡ length c.keep.new.kept.items = omega arith in
    trailers_whole c.args.chunks.head c.args.chunks.at c.args.chunks.body.items c.in-Ok.past c.in-Ok.ensures.ok c.requires.0 c.in-Whole.used
    (subst P c.deref.ensures.value c.in-Whole.ensures) true
    (sym c.if-ends.true ∙ c.ends_past-ends.ensures ∙ ap (λ n. c.in-Ok.past && (c.in-Whole.used == n)) kept) more o
    (let F : Step → Type 0 = λ s. FromPhase s.phase (drop s.used c.args.piece.now ++ more) o in (subst F c.failed-then-ends.ensures q).1)

pub returns-else-ends-clause-leads : goal.returns-else-ends-clause-leads
returns-else-ends-clause-leads c more o q =
    let P : List ℕ → Type 0 = λ s. AreTrailers s c.in-Whole.used in
    let kept : c.len.result ≡ length c.keep.new.kept.items = omega arith in
    let old : c.len-old.result ≡ length c.args.kept.items = omega arith in
    let G : ℕ → Type 0 = λ n. o ≡ Gives (message c.args.chunks.head c.args.chunks.body.items) (drop (c.in-Whole.used - n) c.args.piece.now ++ more) in
    trailers_whole c.args.chunks.head c.args.chunks.at c.args.chunks.body.items c.in-Ok.past c.in-Ok.ensures.ok c.requires.0 c.in-Whole.used
    (subst P c.deref.ensures.value c.in-Whole.ensures) false
    (sym c.if-ends.false ∙ c.ends_past-ends.ensures ∙ ap (λ n. c.in-Ok.past && (c.in-Whole.used == n)) kept) more o (subst G old q)
