use Rattle.std.proofs.Common.{ℕ, ◌+◌, ◌*◌, List, length}
use Rattle.dav_xml.specs.Read.{waiting}
use Rattle.dav_walk.specs.declared.root.Root.{Root}
use Rattle.dav_walk.specs.Lending.{Response}
use Rattle.dav_walk.specs.Collecting.{gathering_of}
use Rattle.dav_walk.specs.Walking.{Stands}
use Rattle.dav_walk.proofs.Midway.{Midway, IsIn}
use Rattle.dav_walk.proofs.walker.pass.Given as goal

abbrev pub invariant-loop-fed : goal.invariant-loop-fed
invariant-loop-fed g l = record {
  reads : IsIn l.scan l.rest;
  walks : (root : Root) (text : List ℕ) (lent : List Response) → Stands root l.fn.scan (gathering_of l.fn.collector) text lent
      → Midway g.H.Handler.lends root l.scan (gathering_of l.collector) text l.fn.piece l.rest lent l.fn.handler l.handler;
}

-- twice the bytes that are left, and the event that is waiting
abbrev pub decreases-loop-fed : goal.decreases-loop-fed
decreases-loop-fed g l = 2 * length l.rest + waiting l.scan
