-- Comments and instructions of the code as states of the machine.
use Rattle.dav_doc.specs.Document as document
use Rattle.dav_doc.specs.Machine as machine
use Rattle.dav_doc.specs.Machine.{State, Place, Move, To, at}
use Rattle.std.specs.Prelude.{[]}
use Rattle.dav_markup.specs.declared.aside.Target.{Target}
use Rattle.dav_markup.specs.declared.aside.Target.TheVariants.{Unlike, X, Xm, Xml}
use Rattle.dav_markup.specs.declared.aside.Aside.{Aside}
use Rattle.dav_markup.specs.declared.aside.Aside.TheVariants.{OpenComment, InComment, CommentDash, CommentClose, InTarget, TargetEnd, InInstruction, InstructionEnd}
use Rattle.dav_markup.specs.declared.aside.After.{After}
use Rattle.dav_markup.specs.declared.aside.After.TheVariants.{Bad, Further, Ended}

abbrev pub target_in : Target → document.Target
target_in Unlike = document.Unlike
target_in X = document.X
target_in Xm = document.Xm
target_in Xml = document.Xml

abbrev pub aside_in : Aside → Place → State
aside_in OpenComment p = machine.OpenComment p
aside_in InComment p = machine.InComment p
aside_in CommentDash p = machine.CommentDash p
aside_in CommentClose p = machine.CommentClose p
aside_in (InTarget t) p = machine.InTarget p (target_in t)
aside_in TargetEnd p = machine.TargetEnd p
aside_in InInstruction p = machine.InInstruction p
aside_in InstructionEnd p = machine.InstructionEnd p

-- where the byte leads, in that place of a document
abbrev pub after_in : After → Place → Move
after_in Bad p = machine.Bad
after_in (Further aside) p = To (aside_in aside p) []
after_in Ended p = To (at p) []
