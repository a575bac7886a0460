use Rattle.std.proofs.Common.{rules, refl, ap, sym, ◌∙◌, arith, Err, inl, inr, length}
use Rattle.dav_xml.proofs.FeedLemmas.{left_length, more_within, fed_none, fed_more, fed_ready, fed_all, fed_later, stopped, going_not, fed_stops}
use Rattle.dav_xml.proofs.scan.Scan.feed.Goals as goal

pub returns-in-Some-clause-stops : goal.returns-in-Some-clause-stops
returns-in-Some-clause-stops c = λ text given h. absurd (going_not c.args.self.now text given c.in-Some.fault h c.in-Some.is)

pub returns-in-Some-clause-fails : goal.returns-in-Some-clause-fails
returns-in-Some-clause-fails c = c.in-Some.is

pub returns-in-Some-clause-same : goal.returns-in-Some-clause-same
returns-in-Some-clause-same c = λ fault e. ap Err (stopped c.args.self.now c.in-Some.fault fault c.in-Some.is e)

pub returns-in-Some-later-clause-goes : goal.returns-in-Some-later-clause-goes
returns-in-Some-later-clause-goes c = λ text given h.
    fed_later c.args.self.now _ text c.args.piece.now given _ refl refl refl refl refl refl refl c.in-Some-later.ensures.0 c.in-Some-later.ensures.1 c.in-Some-later.ensures.2
    refl refl h

pub returns-in-Some-later-clause-same : goal.returns-in-Some-later-clause-same
returns-in-Some-later-clause-same c = λ fault e. absurd (c.in_default.not-Some fault e)

pub returns-in-Some-later-clause-advances : goal.returns-in-Some-later-clause-advances
returns-in-Some-later-clause-advances c = λ r. inr (c.in-Some-later.ensures.3, ap length c.in-Some-later.ensures.1)

pub loop-used-init : goal.loop-used-init
loop-used-init c = fed_none c.args.self.now _ c.args.piece.now c.in_default-later.ensures refl refl refl refl refl refl refl refl

pub slice_bounds-advance-count : goal.slice_bounds-advance-count
slice_bounds-advance-count c = c.loop-used.invariant.within

pub slice_bounds-advance-start : goal.slice_bounds-advance-start
slice_bounds-advance-start c = c.loop-used.invariant.within

pub slice_bounds-advance-end : goal.slice_bounds-advance-end
slice_bounds-advance-end c = search rules

pub advance-requires-clause-room : goal.advance-requires-clause-room
advance-requires-clause-room c =
    let k = left_length c.args.piece.now c.loop-used.used in
    omega (arith, k, c.requires, c.loop-used.invariant.at, c.loop-used.invariant.within)

pub advance-requires-clause-some : goal.advance-requires-clause-some
advance-requires-clause-some c =
    let k = left_length c.args.piece.now c.loop-used.used in
    omega (arith, k, c.loop-used-test.true)

pub advance-requires-clause-quiet : goal.advance-requires-clause-quiet
advance-requires-clause-quiet c = c.loop-used.invariant.quiet

pub overflow_add-used : goal.overflow_add-used
overflow_add-used c =
    let k = more_within c.args.piece.now c.loop-used.used c.in-Ok.count c.loop-used.invariant.within c.in-Ok.ensures.used.1 in
    omega (arith, k, c.requires)

pub returns-in-Err-clause-stops : goal.returns-in-Err-clause-stops
returns-in-Err-clause-stops c = λ text given h.
    fed_stops c.args.self.now c.loop-used.self text c.args.piece.now given c.loop-used.used c.in-Err.fault c.loop-used.invariant c.loop-used-test.true c.in-Err.ensures.stops h

pub returns-in-Err-clause-fails : goal.returns-in-Err-clause-fails
returns-in-Err-clause-fails c = refl

pub returns-in-Err-clause-same : goal.returns-in-Err-clause-same
returns-in-Err-clause-same c = λ fault e. absurd (c.in_default.not-Some fault e)

pub returns-then-is_ready-clause-goes : goal.returns-then-is_ready-clause-goes
returns-then-is_ready-clause-goes c = λ text given h.
    fed_ready c.args.self.now c.loop-used.self c.advance.new.self text c.args.piece.now given c.loop-used.used c.in-Ok.count _ c.loop-used.invariant c.in-Ok.ensures.used.1
    c.in-Ok.ensures.goes (sym c.is_ready.ensures ∙ c.if-is_ready.true) refl refl h

pub returns-then-is_ready-clause-advances : goal.returns-then-is_ready-clause-advances
returns-then-is_ready-clause-advances c = λ r. let k = c.in-Ok.ensures.used.0 in inl (omega (arith, k))

pub returns-then-is_ready-clause-same : goal.returns-then-is_ready-clause-same
returns-then-is_ready-clause-same c = λ fault e. absurd (c.in_default.not-Some fault e)

pub loop-used-smaller : goal.loop-used-smaller
loop-used-smaller c =
    let k = more_within c.args.piece.now c.loop-used.used c.in-Ok.count c.loop-used.invariant.within c.in-Ok.ensures.used.1 in
    let n = c.in-Ok.ensures.used.0 in
    omega (arith, k, n)

pub loop-used-preserved : goal.loop-used-preserved
loop-used-preserved c =
    fed_more c.args.self.now c.loop-used.self c.advance.new.self c.args.piece.now c.loop-used.used c.in-Ok.count c.loop-used.invariant c.in-Ok.ensures.used.1
    c.in-Ok.ensures.at c.in-Ok.ensures.goes (sym c.is_ready.ensures ∙ c.if-is_ready.false)

pub returns-clause-goes : goal.returns-clause-goes
returns-clause-goes c = λ text given h.
    fed_all c.args.self.now c.loop-used.self text c.args.piece.now given c.loop-used.used _ c.loop-used.invariant c.loop-used-test.false refl refl h

pub returns-clause-advances : goal.returns-clause-advances
returns-clause-advances c = λ r. absurd cc

pub returns-clause-same : goal.returns-clause-same
returns-clause-same c = λ fault e. absurd (c.in_default.not-Some fault e)
