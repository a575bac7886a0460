use Rattle.std.proofs.Common.{◌≡◌, ◌≤◌, length, take, refl, arith}
use Rattle.std.proofs.lemmas.Grind.{common_steps}
use Rattle.dav_store.proofs.FetchLemmas.{differ}
use Rattle.dav_store.proofs.bodies.Bodies.fetch.Goals as goal

pub returns-then-ne-clause-damaged : goal.returns-then-ne-clause-damaged
returns-then-ne-clause-damaged g c =
    let seen = g.D.Disk.seen c.args.disk.now c.args.id.now.file in
    let within : length c.as_slice.result.now ≤ c.args.id.now.len = grind (arith, common_steps) in (
      refl,
      refl,
      differ c.sum_of-found.result c.args.id.now.sum c.if-ne.ensures,
      record {
        bytes = c.as_slice.result.now;
        no_longer = within;
        is_sum = c.sum_of-found.ensures;
        first = λ h. let bytes : c.as_slice.result.now ≡ take c.args.id.now.len seen = grind (arith, common_steps) in bytes;
      },
    )
