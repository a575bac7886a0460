use Rattle.std.proofs.Common.{◌≡◌, ℕ, ◌-◌, take, drop, length, inl, inr, List, [], Ok, sym, ap, subst}
use Rattle.dav_doc.specs.Document.{Event}
use Rattle.dav_walk.specs.declared.handler.Next.TheVariants.{Go, Stop}
use Rattle.dav_walk.specs.declared.fault.WalkFault.{WalkFault}
use Rattle.dav_walk.specs.Lending.{LentAll, LentToStop}
use Rattle.dav_walk.specs.Gathering.{walk, Goes, Fails}
use Rattle.dav_walk.specs.Collecting.{gathering_of}
use Rattle.dav_walk.specs.Walking.{Ends, of_xml}
use Rattle.dav_walk.proofs.Midway.{in_begins, in_room, in_on, in_through, midway_begins, midway_on, midway_through, midway_stops, midway_starved, midway_refused, midway_unfit, midway_at, midway_rest, ready_not, rest_of, IsIn}
use Rattle.dav_xml.proofs.PieceLemmas.{passes_on, ready_true}
use Rattle.dav_walk.proofs.walker.pass.Goals as goal

pub feed-requires : goal.feed-requires
feed-requires g c = in_room c.loop-fed.scan c.loop-fed.rest.now c.loop-fed.invariant.reads

pub returns-in-Err-clause-fault : goal.returns-in-Err-clause-fault
returns-in-Err-clause-fault g c = λ root text lent s.
    let m = c.loop-fed.invariant.walks root text lent s in
    let P : WalkFault → Type 0 = λ f. Ends g.H.Handler.lends root text c.args.piece.now lent c.args.handler.now c.loop-fed.handler f in
    subst P (sym c.of_xml.ensures)
    (elim (c.in-Err.ensures.stops _ m.given m.read) [
      | inl e ↦ midway_starved g.H.Handler.lends root c.loop-fed.scan (gathering_of c.loop-fed.collector) text c.args.piece.now c.loop-fed.rest.now lent c.args.handler.now c.loop-fed.handler (of_xml c.in-Err.fault) m (ap of_xml e)
      | inr e ↦ midway_refused g.H.Handler.lends root c.loop-fed.scan (gathering_of c.loop-fed.collector) text c.args.piece.now c.loop-fed.rest.now lent c.args.handler.now c.loop-fed.handler c.in-Err.fault m e
    ])

pub returns-then-not-fed-clause-going : goal.returns-then-not-fed-clause-going
returns-then-not-fed-clause-going g c = λ root text lent s r.
    let m = c.loop-fed.invariant.walks root text lent s in
    midway_through g.H.Handler.lends root c.loop-fed.scan c.feed.new.self (gathering_of c.loop-fed.collector) text c.args.piece.now c.loop-fed.rest.now lent c.args.handler.now c.loop-fed.handler c.in-Ok.fed m
    (c.in-Ok.ensures.goes _ m.given m.read) (ready_not c.in-Ok.fed.ready c.if-not-fed.true)

pub returns-then-not-fed-clause-reading : goal.returns-then-not-fed-clause-reading
returns-then-not-fed-clause-reading g c = λ r.
    let i = c.loop-fed.invariant.reads in
    in_through c.loop-fed.scan c.feed.new.self c.loop-fed.rest.now c.in-Ok.fed i (c.in-Ok.ensures.goes i.text i.given i.read) (ready_not c.in-Ok.fed.ready c.if-not-fed.true)

pub returns-in-Ok-Stop-clause-stopped : goal.returns-in-Ok-Stop-clause-stopped
returns-in-Ok-Stop-clause-stopped g c = λ root text lent s r.
    let m = c.loop-fed.invariant.walks root text lent s in
    let t : c.take.result ≡ Ok Stop = cc in
    let k = c.take.ensures.stop t in
    let P : List Event → Type 0 = λ e. ((walk (gathering_of c.loop-fed.collector) e).outcome ≡ Goes (gathering_of c.take.new.self)) × LentToStop g.H.Handler.lends c.loop-fed.handler (walk (gathering_of c.loop-fed.collector) e).ended c.take.new.handler in
    let q = subst P c.event.ensures k in
    midway_stops g.H.Handler.lends root c.loop-fed.scan c.feed.new.self (gathering_of c.loop-fed.collector) (gathering_of c.take.new.self) text c.args.piece.now c.loop-fed.rest.now lent c.args.handler.now c.loop-fed.handler c.take.new.handler c.in-Ok.fed m
    (c.in-Ok.ensures.goes _ m.given m.read) q.0 q.1

pub returns-in-Err-take-clause-fault : goal.returns-in-Err-take-clause-fault
returns-in-Err-take-clause-fault g c = λ root text lent s.
    let lends = g.H.Handler.lends in
    let h = gathering_of c.loop-fed.collector in
    let k = c.in-Err-take.ensures.err in
    let m = midway_at lends root c.loop-fed.scan h text c.args.piece.now c.loop-fed.rest.now lent c.args.handler.now c.loop-fed.handler c.take.new.handler k.0 (c.loop-fed.invariant.walks root text lent s) in
    elim k.1 [
      | inl e ↦ midway_starved lends root c.loop-fed.scan h text c.args.piece.now c.loop-fed.rest.now lent c.args.handler.now c.take.new.handler c.in-Err-take.fault m e
      | inr e ↦
          let P : List Event → Type 0 = λ es. walk h es ≡ record { ended = []; outcome = Fails c.in-Err-take.fault } in
          midway_unfit lends root c.loop-fed.scan c.feed.new.self h text c.args.piece.now c.loop-fed.rest.now lent c.args.handler.now c.take.new.handler c.in-Ok.fed c.in-Err-take.fault m
          (c.in-Ok.ensures.goes _ m.given m.read) (subst P c.event.ensures e)
    ]

pub slice_bounds-rest-count : goal.slice_bounds-rest-count
slice_bounds-rest-count g c = let i = c.loop-fed.invariant.reads in (c.in-Ok.ensures.goes i.text i.given i.read).within

pub slice_bounds-rest-start : goal.slice_bounds-rest-start
slice_bounds-rest-start g c = let i = c.loop-fed.invariant.reads in (c.in-Ok.ensures.goes i.text i.given i.read).within

pub loop-fed-init : goal.loop-fed-init
loop-fed-init g c = record {
  reads = in_begins c.args.scan.now c.args.piece.now c.requires.reading c.requires.room;
  walks = λ root text lent s. midway_begins g.H.Handler.lends root c.args.scan.now (gathering_of c.args.collector.now) text c.args.piece.now lent c.args.handler.now s;
}

pub loop-fed-preserved : goal.loop-fed-preserved
loop-fed-preserved g c =
    let lends = g.H.Handler.lends in
    let h = gathering_of c.loop-fed.collector in
    let i = c.loop-fed.invariant.reads in
    let rest = rest_of c.loop-fed.rest.now c.in-Ok.fed.used in
    let t : c.take.result ≡ Ok Go = cc in
    let P : List Event → Type 0 = λ e. ((walk h e).outcome ≡ Goes (gathering_of c.take.new.self)) × LentAll lends c.loop-fed.handler (walk h e).ended c.take.new.handler in
    let q = subst P c.event.ensures (c.take.ensures.go t) in
    let In : List ℕ → Type 0 = λ z. IsIn c.feed.new.self z in
    record {
      reads = subst In (sym rest) (in_on c.loop-fed.scan c.feed.new.self c.loop-fed.rest.now c.in-Ok.fed i (c.in-Ok.ensures.goes i.text i.given i.read));
      walks = λ root text lent s.
          let m = c.loop-fed.invariant.walks root text lent s in
          midway_rest lends root c.feed.new.self (gathering_of c.take.new.self) text c.args.piece.now (drop c.in-Ok.fed.used c.loop-fed.rest.now) (take (length c.loop-fed.rest.now - c.in-Ok.fed.used) (drop c.in-Ok.fed.used c.loop-fed.rest.now)) lent c.args.handler.now c.take.new.handler (sym rest)
          (midway_on lends root c.loop-fed.scan c.feed.new.self h (gathering_of c.take.new.self) text c.args.piece.now c.loop-fed.rest.now lent c.args.handler.now c.loop-fed.handler c.take.new.handler c.in-Ok.fed m
          (c.in-Ok.ensures.goes _ m.given m.read) q.0 q.1);
    }

pub loop-fed-smaller : goal.loop-fed-smaller
loop-fed-smaller g c =
    let i = c.loop-fed.invariant.reads in
    passes_on c.loop-fed.scan c.feed.new.self c.loop-fed.rest.now c.in-Ok.fed (c.in-Ok.ensures.goes i.text i.given i.read).within
    (c.in-Ok.ensures.advances (ready_true c.in-Ok.fed.ready c.if-not-fed.false))
