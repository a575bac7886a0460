-- The choice behind `<` of the code as states of the machine.
use Rattle.std.specs.Prelude.{List, [], ◌∷◌}
use Rattle.dav_doc.specs.Names as names
use Rattle.dav_doc.specs.Names.{written}
use Rattle.dav_doc.specs.Machine as machine
use Rattle.dav_doc.specs.Machine.{Open, Move, To, InName, OpenComment, InTarget, DeclareX, end_next}
use Rattle.dav_markup.specs.Aside.{target_in}
use Rattle.dav_markup.specs.Section.{section_in}
use Rattle.dav_markup.specs.declared.section.Section.TheVariants.{WantsC}
use Rattle.dav_markup.specs.declared.markup.Place.{Place}
use Rattle.dav_markup.specs.declared.markup.Place.TheVariants.{First, Before, Inside, Behind}
use Rattle.dav_markup.specs.declared.markup.Begun.{Begun}
use Rattle.dav_markup.specs.declared.markup.Begun.TheVariants.{Bad, Tag, EndTag, Mark, Question}
use Rattle.dav_markup.specs.declared.markup.Marked.{Marked}
use Rattle.dav_markup.specs.declared.markup.Marked.TheVariants as marks
use Rattle.dav_markup.specs.declared.markup.Asked.{Asked}
use Rattle.dav_markup.specs.declared.markup.Asked.TheVariants as asks

-- the open elements there, where these are those of a place inside
abbrev pub opens_in : Place → Open → List Open → List Open
opens_in Inside o os = o ∷ os
opens_in place o os = []

abbrev pub place_in : Place → Open → List Open → machine.Place
place_in First o os = machine.First
place_in Before o os = machine.Before
place_in Inside o os = machine.Below (o ∷ os)
place_in Behind o os = machine.Below []

abbrev pub begun_in : Begun → Place → Open → List Open → Move
begun_in Bad place o os = machine.Bad
begun_in (Tag b) place o os = To (InName (opens_in place o os) (names.Plain (b ∷ []))) []
begun_in EndTag place o os = To (end_next o os [] (written o.name)) []
begun_in Mark place o os = To (machine.Mark (place_in place o os)) []
begun_in Question place o os = To (machine.Question (place_in place o os)) []

abbrev pub marked_in : Marked → Place → Open → List Open → Move
marked_in marks.Bad place o os = machine.Bad
marked_in marks.Comment place o os = To (OpenComment (place_in place o os)) []
marked_in marks.Section place o os = To (section_in WantsC o os) []

abbrev pub asked_in : Asked → Place → Open → List Open → Move
asked_in asks.Bad place o os = machine.Bad
asked_in asks.Declaration place o os = To DeclareX []
asked_in (asks.Instruction target) place o os = To (InTarget (place_in place o os) (target_in target)) []
