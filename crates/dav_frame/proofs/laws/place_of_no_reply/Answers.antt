use Rattle.dav_frame.proofs.PlaceLemmas.{place}
use Rattle.dav_frame.proofs.laws.place_of_no_reply.Goals as goal

pub returns : goal.returns
returns c = place
