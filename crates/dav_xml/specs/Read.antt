-- What a scanner has read, and where it stops.
use Rattle.std.specs.Prelude.{◌≡◌, ℕ, ◌≤◌, ◌<◌, ◌⊎◌, true, false, List, ◌∷◌, ◌++◌, length, take, Some, None}
use Rattle.dav_doc.specs.Document as document
use Rattle.dav_doc.specs.Machine.{State}
use Rattle.dav_markup.specs.Owing.{owed_in}
use Rattle.dav_xml.specs.declared.fault.XmlFault.{XmlFault}
use Rattle.dav_xml.specs.declared.fault.XmlFault.TheVariants as faults
use Rattle.dav_xml.specs.declared.scan.Fed.{Fed}
use Rattle.dav_xml.specs.declared.scan.Scan.{Scan}
use Rattle.dav_xml.specs.Events.{lent_in, later_in, is_ready}
use Rattle.dav_xml.specs.Reading.{Stand, Refused, Passes, begin, next, reads}
use Rattle.dav_xml.specs.Stands.{Stands, stack_of}

-- the events of what is ready: one start or end, or some text
abbrev pub lent : Scan → List document.Event
lent scan = lent_in scan.lent

-- the scanner has read this text and given these events; it has met no fault
pub record HasRead (scan : Scan) (text : List ℕ) (given : List document.Event) : Type 0 where
  pub state : State
  pub read : reads text begin
      ≡ Some (record {
        stand = record { state = state; owed = owed_in scan.owed; size = scan.size };
        events = given ++ later_in scan.lent;
      })
  pub stands : Stands scan.position (stack_of scan.opens.items) state
  pub depth : scan.depth ≡ length scan.opens.items
  pub at : scan.at ≡ length text
  pub going : scan.fault ≡ None

-- behind a text with these events, the scanner took the front of the piece and gives the next event; where it gives none it took all
pub record Feeds (text : List ℕ) (given : List document.Event) (piece : List ℕ) (fed : Fed) (scan : Scan) : Type 0 where
  pub within : fed.used ≤ length piece
  pub read : HasRead scan (text ++ take fed.used piece) (given ++ lent scan)
  pub ready : fed.ready ≡ is_ready scan.lent
  pub all : fed.ready ≡ false → fed.used ≡ length piece

-- how many events are still to be lent of those that the last byte gave: the end of an empty element, or none
abbrev pub waiting : Scan → ℕ
waiting scan = length (later_in scan.lent)

-- where an event is ready, a byte was taken, or the event that was waiting is lent and none is waiting now
abbrev pub Advances : Scan → Fed → Scan → Type 0
Advances old fed new = fed.ready ≡ true → (0 < fed.used) ⊎ ((waiting old ≡ 1) × (waiting new ≡ 0))

-- why no scanner goes on with the byte behind that text
abbrev pub Why : List ℕ → Stand → ℕ → XmlFault → Type 0
Why text x b (faults.Bad at) = (at ≡ length text) × (next x b ≡ Refused)
Why text x b (faults.Limit which) = next x b ≡ Passes which
Why text x b faults.Cut = ⊥
Why text x b faults.Memory = ⊥

-- the byte behind that text is the first with a fault, and all events before it were given
pub record Fails (text : List ℕ) (given : List document.Event) (b : ℕ) (fault : XmlFault) : Type 0 where
  pub stand : Stand
  pub read : reads text begin ≡ Some (record { stand = stand; events = given })
  pub why : Why text stand b fault

-- some byte of the piece behind that text is the first with a fault
pub record Stops (text : List ℕ) (given : List document.Event) (piece : List ℕ) (fault : XmlFault) : Type 0 where
  pub front : List ℕ
  pub byte : ℕ
  pub rest : List ℕ
  pub split : piece ≡ front ++ (byte ∷ rest)
  pub fails : Fails (text ++ front) given byte fault
