-- What stands before the root as states of the machine.
use Rattle.std.specs.Prelude.{[]}
use Rattle.dav_doc.specs.Machine as machine
use Rattle.dav_doc.specs.Machine.{State, Move, To}
use Rattle.dav_markup.specs.Aside.{aside_in}
use Rattle.dav_markup.specs.Declaration.{want_in}
use Rattle.dav_markup.specs.declared.outer.Outer.{Outer}
use Rattle.dav_markup.specs.declared.outer.Outer.TheVariants.{Begin, MarkSecond, MarkThird, Opening, DeclareX, DeclareXm, DeclareXml, Declaring, Outside}
use Rattle.dav_markup.specs.declared.outer.Way.{Way}
use Rattle.dav_markup.specs.declared.outer.Way.TheVariants.{Bad, Further, FirstMarkup, Markup, Instruction}

abbrev pub outer_in : Outer → State
outer_in Begin = machine.Begin
outer_in MarkSecond = machine.MarkSecond
outer_in MarkThird = machine.MarkThird
outer_in Opening = machine.Opening
outer_in DeclareX = machine.DeclareX
outer_in DeclareXm = machine.DeclareXm
outer_in DeclareXml = machine.DeclareXml
outer_in (Declaring declaration) = machine.Declaring (want_in declaration)
outer_in Outside = machine.Outside

-- where the byte leads
abbrev pub way_in : Way → Move
way_in Bad = machine.Bad
way_in (Further outer) = To (outer_in outer) []
way_in FirstMarkup = To (machine.Markup machine.First) []
way_in Markup = To (machine.Markup machine.Before) []
way_in (Instruction aside) = To (aside_in aside machine.First) []
