use Rattle.dav_frame.proofs.ChunkPlace.{chunk_place}
use Rattle.dav_frame.proofs.laws.place_of_bad_chunk.Goals as goal

pub returns : goal.returns
returns c = chunk_place
