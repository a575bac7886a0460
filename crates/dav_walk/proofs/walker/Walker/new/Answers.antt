use Rattle.std.proofs.Common.{[], refl}
use Rattle.dav_walk.specs.Collecting.{gathering_of}
use Rattle.dav_walk.proofs.WalkerLemmas.{begins_quiet, walks_from}
use Rattle.dav_walk.proofs.walker.Walker.new.Goals as goal

pub invariant_of-result : goal.invariant_of-result
invariant_of-result c = λ s. record { text = []; given = []; read = c.in-Ok.ensures; quiet = begins_quiet c.in-Ok.scan c.in-Ok.ensures }

pub returns-in-Ok : goal.returns-in-Ok
returns-in-Ok c = (
  record {
    stands = record {
      given = [];
      read = c.in-Ok.ensures;
      quiet = begins_quiet c.in-Ok.scan c.in-Ok.ensures;
      walked = walks_from c.args.root (gathering_of c.new-in-Ok.result) c.new-in-Ok.ensures;
    };
    going = refl;
  },
  refl,
)
