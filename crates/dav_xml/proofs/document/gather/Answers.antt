use Rattle.std.proofs.Common.{rules, ◌-◌, List, ◌++◌, length, take, drop, subst, refl, inl}
use Rattle.dav_doc.specs.Document.{Event}
use Rattle.dav_xml.specs.Nodes.{HasGrown}
use Rattle.dav_xml.proofs.GatherLemmas.{midway_begins, midway_room, midway_on, midway_through, midway_fails}
use Rattle.dav_xml.proofs.PieceLemmas.{rest_of, passes_on, ready_true}
use Rattle.dav_xml.proofs.document.gather.Goals as goal

pub feed-requires : goal.feed-requires
feed-requires c = midway_room c.loop-fed.scan c.loop-fed.tree c.args.bytes.now c.loop-fed.rest.now c.loop-fed.invariant c.requires.small

pub returns-in-Err-clause-fault : goal.returns-in-Err-clause-fault
returns-in-Err-clause-fault c =
    let m = c.loop-fed.invariant in
    midway_fails c.loop-fed.scan c.loop-fed.tree c.args.bytes.now c.loop-fed.rest.now c.in-Err.fault m (c.in-Err.ensures.stops m.front m.given m.read)

pub returns-then-not-fed-clause-whole : goal.returns-then-not-fed-clause-whole
returns-then-not-fed-clause-whole c =
    let m = c.loop-fed.invariant in
    midway_through c.loop-fed.scan c.feed.new.self c.loop-fed.tree c.args.bytes.now c.loop-fed.rest.now c.in-Ok.fed m (c.in-Ok.ensures.goes m.front m.given m.read) c.if-not-fed.true

pub slice_bounds-rest-count : goal.slice_bounds-rest-count
slice_bounds-rest-count c = let m = c.loop-fed.invariant in (c.in-Ok.ensures.goes m.front m.given m.read).within

pub slice_bounds-rest-start : goal.slice_bounds-rest-start
slice_bounds-rest-start c = let m = c.loop-fed.invariant in (c.in-Ok.ensures.goes m.front m.given m.read).within

pub loop-fed-init : goal.loop-fed-init
loop-fed-init c = midway_begins c.args.scan.now c.args.tree.now c.args.bytes.now c.requires.reads c.requires.grows

pub loop-fed-preserved : goal.loop-fed-preserved
loop-fed-preserved c =
    let m = c.loop-fed.invariant in
    let P : List Event → Type 0 = λ e. HasGrown c.add.new.self (m.given ++ e) in
    midway_on c.loop-fed.scan c.feed.new.self c.loop-fed.tree c.add.new.self c.args.bytes.now c.loop-fed.rest.now
    (take (length c.loop-fed.rest.now - c.in-Ok.fed.used) (drop c.in-Ok.fed.used c.loop-fed.rest.now)) c.in-Ok.fed m (c.in-Ok.ensures.goes m.front m.given m.read)
    (rest_of c.loop-fed.rest.now c.in-Ok.fed.used) (subst P c.event.ensures (c.in-Ok-add.ensures m.given m.grown))

pub loop-fed-smaller : goal.loop-fed-smaller
loop-fed-smaller c =
    let m = c.loop-fed.invariant in
    passes_on c.loop-fed.scan c.feed.new.self c.loop-fed.rest.now c.in-Ok.fed (c.in-Ok.ensures.goes m.front m.given m.read).within
    (c.in-Ok.ensures.advances (ready_true c.in-Ok.fed.ready c.if-not-fed.false))

pub returns-in_default-clause-fault : goal.returns-in_default-clause-fault
returns-in_default-clause-fault c = inl refl

pub slice_bounds-rest-end : goal.slice_bounds-rest-end
slice_bounds-rest-end c = search rules
