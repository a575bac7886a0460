-- An end tag of the code as states of the machine.
use Rattle.std.specs.Prelude.{ℕ, ◌+◌, Bool, List, [], take, drop}
use Rattle.dav_doc.specs.Names.{written}
use Rattle.dav_doc.specs.Machine.{Open, State, Move, Bad, To, on, end_next}

-- behind so many bytes of the name of an open element
abbrev pub end_at : Open → List Open → ℕ → State
end_at o os came = end_next o os (take came (written o.name)) (drop came (written o.name))

-- where a byte of the name leads, if it is the next
abbrev pub name_in_end : Open → List Open → ℕ → Bool → Move
name_in_end o os came x = on x (To (end_at o os (came + 1)) []) Bad
