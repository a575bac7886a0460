-- Text of the code as states of the machine.
use Rattle.std.specs.Prelude.{List, [], ◌∷◌}
use Rattle.dav_doc.specs.Document.{Char}
use Rattle.dav_doc.specs.Machine as machine
use Rattle.dav_doc.specs.Machine.{Open, Move, To, Below, InReference}
use Rattle.dav_markup.specs.Section.{brackets_in}
use Rattle.dav_markup.specs.declared.run.Read.{Read}
use Rattle.dav_markup.specs.declared.run.Read.TheVariants.{Bad, Markup, Reference, Plain, Return, Nothing}

-- where the byte leads in the innermost of these open elements
abbrev pub read_in : Read → Open → List Open → Move
read_in Bad o os = machine.Bad
read_in Markup o os = To (machine.Markup (Below (o ∷ os))) []
read_in Reference o os = To (InReference o os []) []
read_in (Plain n b) o os = To (machine.Text (o ∷ os) (brackets_in n)) (Char b ∷ [])
read_in Return o os = To (machine.Return o os) (Char 10 ∷ [])
read_in Nothing o os = To (machine.Text (o ∷ os) machine.Zero) []
