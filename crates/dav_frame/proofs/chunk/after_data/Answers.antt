use Rattle.std.proofs.Common.{◌≡◌, ◌∙◌, ◌+◌, ◌*◌, ◌≤◌, ◌++◌, ◌∷◌, Bool, ap, sym, subst, List, ℕ, length, drop, get_or}
use Rattle.dav_head.specs.Line.{HasNoLine, NeverHasLine}
use Rattle.dav_frame.specs.Framing.{FromChunks}
use Rattle.dav_frame.specs.Reading.{FromPhase, FromEnd, end_left}
use Rattle.dav_frame.specs.declared.phase.Step.{Step}
use Rattle.dav_frame.proofs.ChunkLemmas.{none_is_no_line, none_is_line_front, first_byte, end_bad, end_cr, end_lf}
use Rattle.dav_frame.proofs.chunk.after_data.Goals as goal

pub returns-then-piece-wanted-clause-leads : goal.returns-then-piece-wanted-clause-leads
returns-then-piece-wanted-clause-leads c more o q =
    let piece = c.args.piece.now in
    let k = c.args.chunks in
    let P : List ℕ → Type 0 = λ s. FromEnd k.head k.before k.at k.body.items c.args.got c.args.has_cr (s ++ more) o in
    let F : Step → Type 0 = λ s. FromPhase s.phase (drop s.used piece ++ more) o in
    subst P (sym (first_byte piece c.requires.some))
    (end_bad k.head k.before k.at k.body.items (drop 1 piece ++ more) c.args.got (get_or piece 0 0) c.end_byte-wanted.result o c.args.has_cr
    c.end_byte-wanted.ensures.cr c.end_byte-wanted.ensures.lf c.if-piece-wanted.true (subst F c.bad.ensures q).1)

pub returns-then-not-has_cr-clause-leads : goal.returns-then-not-has_cr-clause-leads
returns-then-not-has_cr-clause-leads c more o q =
    let piece = c.args.piece.now in
    let k = c.args.chunks in
    let byte : get_or piece 0 0 ≡ 13 = c.if-piece-wanted.false ∙ c.end_byte-wanted.ensures.cr c.if-not-has_cr.true in
    let whole : piece ≡ 13 ∷ drop 1 piece = first_byte piece c.requires.some ∙ ap (λ b. b ∷ drop 1 piece) byte in
    let P : List ℕ → Type 0 = λ s. FromEnd k.head k.before k.at k.body.items c.args.got c.args.has_cr (s ++ more) o in
    let B : Bool → Type 0 = λ b. FromEnd k.head k.before k.at k.body.items c.args.got b (13 ∷ (drop 1 piece ++ more)) o in
    subst P (sym whole) (subst B (sym c.if-not-has_cr.true) (end_cr k.head k.before k.at k.body.items (drop 1 piece ++ more) c.args.got o q))

pub returns-clause-sound : goal.returns-clause-sound
returns-clause-sound c =
    let P : List ℕ → Type 0 = λ s. HasNoLine s × (¬ (NeverHasLine s)) in
    let front = subst P (sym c.new-kept.ensures.items) (none_is_no_line, none_is_line_front) in
    let cr = c.if-not-has_cr.false in
    let few = c.requires.sound.1.0 in
    (front.0, front.1, c.requires.sound.0, (let L : Bool → Type 0 = λ b. c.args.got + end_left b ≤ 65537 + 4100 * length c.args.chunks.body.items in subst L cr few, c.requires.sound.1.1))

pub returns-clause-leads : goal.returns-clause-leads
returns-clause-leads c more o q =
    let piece = c.args.piece.now in
    let k = c.args.chunks in
    let byte : get_or piece 0 0 ≡ 10 = c.if-piece-wanted.false ∙ c.end_byte-wanted.ensures.lf c.if-not-has_cr.false in
    let whole : piece ≡ 10 ∷ drop 1 piece = first_byte piece c.requires.some ∙ ap (λ b. b ∷ drop 1 piece) byte in
    let P : List ℕ → Type 0 = λ s. FromEnd k.head k.before k.at k.body.items c.args.got c.args.has_cr (s ++ more) o in
    let B : Bool → Type 0 = λ b. FromEnd k.head k.before k.at k.body.items c.args.got b (10 ∷ (drop 1 piece ++ more)) o in
    let K : List ℕ → Type 0 = λ s. FromChunks k.head k.before (c.args.got + 1) k.body.items (s ++ (drop 1 piece ++ more)) o in
    subst P (sym whole) (subst B (sym c.if-not-has_cr.false)
    (end_lf k.head k.before k.at k.body.items (drop 1 piece ++ more) c.args.got o (subst K c.new-kept.ensures.items q)))
