use Rattle.dav_frame.proofs.FieldLemmas.{Passes}
use Rattle.dav_frame.proofs.fields.place_in.Given as goal

-- the entries so far stand before the name
abbrev pub invariant-loop-i : goal.invariant-loop-i
invariant-loop-i l = Passes l.entries l.name l.i
