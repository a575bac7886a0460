use Rattle.std.proofs.Common.{arith}
use Rattle.dav_recorder.proofs.LiveLemmas.{survives_sooner}
use Rattle.dav_recorder.proofs.laws.survives_from.Goals as goal

pub returns : goal.returns
returns c past start now url opening steps under bodies all m image begun left =
    survives_sooner url opening bodies steps under m left.0 image left.1 (all left.0 image (omega (arith, begun, left.1)) left.2 left.3)
