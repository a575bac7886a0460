use Rattle.dav_frame.proofs.RunLemmas.{continues_more, gives_reply, gives_fault, gives_end}
use Rattle.dav_frame.proofs.laws.pieces_join.Goals as goal

pub returns : goal.returns
returns c = record {
  more = continues_more;
  reply = gives_reply;
  fault = gives_fault;
  end = gives_end;
}
