-- What a scanner lends, as events of the document.
use Rattle.std.specs.Prelude.{Bool, true, false, List, [], ◌∷◌}
use Rattle.dav_doc.specs.Document as document
use Rattle.dav_doc.specs.Machine.{chars}
use Rattle.dav_markup.specs.Few.{few_in}
use Rattle.dav_xml.specs.declared.event.Event.{Event}
use Rattle.dav_xml.specs.declared.event.Event.TheVariants as events
use Rattle.dav_xml.specs.declared.event.Lent.{Lent}
use Rattle.dav_xml.specs.declared.event.Lent.TheVariants.{Nothing, Chars, Run, Start, End}

-- a byte of text is an event of its own
abbrev pub event_in : Event → List document.Event
event_in (events.Start depth ns name) = document.Start depth ns.now name.now ∷ []
event_in (events.Chars bytes) = chars bytes.now
event_in (events.End depth) = document.End depth ∷ []

abbrev pub lent_in : Lent → List document.Event
lent_in Nothing = []
lent_in (Chars few) = chars (few_in few)
lent_in (Run bytes) = chars bytes
lent_in (Start depth ns name empty) = document.Start depth ns name ∷ []
lent_in (End depth) = document.End depth ∷ []

-- the end of an empty element whose start is lent
abbrev pub later_in : Lent → List document.Event
later_in (Start depth ns name true) = document.End depth ∷ []
later_in lent = []

abbrev pub is_ready : Lent → Bool
is_ready Nothing = false
is_ready lent = true
