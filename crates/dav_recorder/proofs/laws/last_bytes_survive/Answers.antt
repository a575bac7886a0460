use Rattle.dav_deeds.proofs.Stories.{kept}
use Rattle.dav_recorder.proofs.LiveLemmas.{legal_done}
use Rattle.dav_recorder.proofs.laws.last_bytes_survive.Goals as goal

pub returns : goal.returns
returns c url opening steps under bodies m image idle legal is =
    (is.done, is.some_of, is.recovers, kept opening is.done idle (legal_done opening m steps is.done under legal is.some_of))
