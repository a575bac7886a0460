use Rattle.std.proofs.Common.{length, ◌-◌, ◌≡◌}
use Rattle.dav_walk.specs.PropsView.{left}
use Rattle.dav_walk.proofs.props.PropsIterator.next.Given as goal

abbrev pub invariant-loop-self : goal.invariant-loop-self
invariant-loop-self l = left l.self ≡ left l.initial.self

abbrev pub decreases-loop-self : goal.decreases-loop-self
decreases-loop-self l = length l.self.nodes.now - l.self.at
