use Rattle.std.proofs.Common.{take}
use Rattle.dav_auth.proofs.ReaderLemmas.{Reads}
use Rattle.dav_auth.proofs.reader.read_pieces.Given as goal

-- whatever follows the bytes so far, it is read as from the place so far, behind the parts so far
abbrev pub invariant-loop-at : goal.invariant-loop-at
invariant-loop-at l = Reads l.may (take l.at l.text) l.pieces.items l.place
