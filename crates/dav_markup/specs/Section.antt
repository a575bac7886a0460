-- CDATA sections of the code as states of the machine.
use Rattle.std.specs.Prelude.{List, [], ◌∷◌, ◌++◌, codes}
use Rattle.dav_doc.specs.Document.{Char}
use Rattle.dav_doc.specs.Machine as machine
use Rattle.dav_doc.specs.Machine.{State, Open, Move, To, SectionWord, InSection, SectionReturn, held}
use Rattle.dav_markup.specs.declared.section.Brackets.{Brackets}
use Rattle.dav_markup.specs.declared.section.Brackets.TheVariants.{Zero, One, Two}
use Rattle.dav_markup.specs.declared.section.Section.{Section}
use Rattle.dav_markup.specs.declared.section.Section.TheVariants.{WantsC, WantsD, WantsFirstA, WantsT, WantsSecondA, WantsBracket, Inside, Return as Behind_return}
use Rattle.dav_markup.specs.declared.section.Ran.{Ran}
use Rattle.dav_markup.specs.declared.section.Ran.TheVariants.{Bad, Further, Held, Text, Return, Ended}

abbrev pub brackets_in : Brackets → machine.Brackets
brackets_in Zero = machine.Zero
brackets_in One = machine.One
brackets_in Two = machine.Two

abbrev pub section_in : Section → Open → List Open → State
section_in WantsC o os = SectionWord o os [] 67 (codes "DATA[")
section_in WantsD o os = SectionWord o os (codes "C") 68 (codes "ATA[")
section_in WantsFirstA o os = SectionWord o os (codes "CD") 65 (codes "TA[")
section_in WantsT o os = SectionWord o os (codes "CDA") 84 (codes "A[")
section_in WantsSecondA o os = SectionWord o os (codes "CDAT") 65 (codes "[")
section_in WantsBracket o os = SectionWord o os (codes "CDATA") 91 []
section_in (Inside n) o os = InSection o os (brackets_in n)
section_in Behind_return o os = SectionReturn o os

-- where the byte leads, below these open elements
abbrev pub ran_in : Ran → Open → List Open → Move
ran_in Bad o os = machine.Bad
ran_in (Further section) o os = To (section_in section o os) []
ran_in Held o os = To (InSection o os machine.Two) (Char 93 ∷ [])
ran_in (Text n b) o os = To (InSection o os machine.Zero) (held (brackets_in n) ++ (Char b ∷ []))
ran_in (Return n) o os = To (SectionReturn o os) (held (brackets_in n) ++ (Char 10 ∷ []))
ran_in Ended o os = To (machine.Text (o ∷ os) machine.Zero) []
