-- What a walker has taken, and what it lends.
use Rattle.std.specs.Prelude.{◌≡◌, ℕ, List, [], ◌∷◌, ◌++◌, Some}
use Rattle.dav_doc.specs.Document.{Event}
use Rattle.dav_xml.specs.declared.scan.Scan.{Scan}
use Rattle.dav_xml.specs.declared.fault.XmlFault.{XmlFault}
use Rattle.dav_xml.specs.declared.fault.XmlFault.TheVariants as xml
use Rattle.dav_xml.specs.Events.{later_in}
use Rattle.dav_xml.specs.Read.{HasRead, Fails}
use Rattle.dav_xml.specs.Reading.{Stand, begin, reads}
use Rattle.dav_walk.specs.declared.root.Root.{Root}
use Rattle.dav_walk.specs.declared.handler.Next.{Next}
use Rattle.dav_walk.specs.declared.fault.WalkFault.{WalkFault}
use Rattle.dav_walk.specs.declared.fault.WalkFault.TheVariants as faults
use Rattle.dav_walk.specs.Lending.{Response, LentAll, LentToStop}
use Rattle.dav_walk.specs.Gathering as gathering
use Rattle.dav_walk.specs.Gathering.{Gathering, between, walk, Goes}

-- the scanner has read some text, and has no event left
pub record IsReading (scan : Scan) : Type 0 where
  pub text : List ℕ
  pub given : List Event
  pub read : HasRead scan text given
  pub quiet : later_in scan.lent ≡ []

-- the scanner and what is gathered stand behind this text, in which these responses end
pub record Stands (root : Root) (scan : Scan) (g : Gathering) (text : List ℕ) (lent : List Response) : Type 0 where
  pub given : List Event
  pub read : HasRead scan text given
  pub quiet : later_in scan.lent ≡ []
  pub walked : walk (between root 0) given ≡ record { ended = lent; outcome = Goes g }

-- behind the piece too, and the handler was lent the responses that end in it
pub record GoesOn {S : Type 0} (lends : S → Response → Next → S → Type 0) (root : Root) (scan : Scan) (g : Gathering) (text piece : List ℕ) (lent : List Response) (old new : S) : Type 0 where
  pub more : List Response
  pub stands : Stands root scan g (text ++ piece) (lent ++ more)
  pub handed : LentAll lends old more new

-- behind a front of the piece, with whose last byte the response ended at which the handler stopped
pub record StopsIn {S : Type 0} (lends : S → Response → Next → S → Type 0) (root : Root) (scan : Scan) (g : Gathering) (text piece : List ℕ) (lent : List Response) (old new : S) : Type 0 where
  pub front : List ℕ
  pub rest : List ℕ
  pub split : piece ≡ front ++ rest
  pub given : List Event
  pub read : HasRead scan (text ++ front) given
  pub more : List Response
  pub walked : walk (between root 0) given ≡ record { ended = lent ++ more; outcome = Goes g }
  pub handed : LentToStop lends old more new

-- the events of a front of the text have that fault, and before it these responses end
pub record GathersTo (root : Root) (text : List ℕ) (lent : List Response) (outcome : gathering.Outcome) : Type 0 where
  pub given : List Event
  pub later : List Event
  pub stand : Stand
  pub read : reads text begin ≡ Some (record { stand = stand; events = given ++ later })
  pub walked : walk (between root 0) given ≡ record { ended = lent; outcome = outcome }

-- the byte behind that front of the text is the first that the scanner refuses
pub record Refuses (root : Root) (text : List ℕ) (byte : ℕ) (lent : List Response) (fault : XmlFault) : Type 0 where
  pub given : List Event
  pub fails : Fails text given byte fault
  pub h : Gathering
  pub walked : walk (between root 0) given ≡ record { ended = lent; outcome = Goes h }

abbrev pub of_xml : XmlFault → WalkFault
of_xml (xml.Bad at) = faults.Xml at
of_xml xml.Cut = faults.Cut
of_xml (xml.Limit which) = faults.Limit which
of_xml xml.Memory = faults.Memory

-- the first fault is the scanner's at a byte of the piece
pub record XmlFails {S : Type 0} (lends : S → Response → Next → S → Type 0) (root : Root) (text piece : List ℕ) (lent : List Response) (old new : S) (fault : WalkFault) : Type 0 where
  pub front : List ℕ
  pub byte : ℕ
  pub rest : List ℕ
  pub split : piece ≡ front ++ (byte ∷ rest)
  pub why : XmlFault
  pub is : fault ≡ of_xml why
  pub more : List Response
  pub refuses : Refuses root (text ++ front) byte (lent ++ more) why
  pub handed : LentAll lends old more new

-- the first fault is one of the responses', at the last byte of a front of the piece
pub record GatheringFails {S : Type 0} (lends : S → Response → Next → S → Type 0) (root : Root) (text piece : List ℕ) (lent : List Response) (old new : S) (outcome : gathering.Outcome) : Type 0 where
  pub front : List ℕ
  pub rest : List ℕ
  pub split : piece ≡ front ++ rest
  pub more : List Response
  pub gathers : GathersTo root (text ++ front) (lent ++ more) outcome
  pub handed : LentAll lends old more new

-- why a walk ends at a piece: want of memory somewhere in it, or its first fault
pub data Ends {S : Type 0} (lends : S → Response → Next → S → Type 0) (root : Root) (text piece : List ℕ) (lent : List Response) (old new : S) : WalkFault → Type 0 where
  starved : (h : Gathering) → GatheringFails lends root text piece lent old new (Goes h) → Ends lends root text piece lent old new faults.Memory
  refused : (fault : WalkFault) → XmlFails lends root text piece lent old new fault → Ends lends root text piece lent old new fault
  unfit : (fault : WalkFault) → GatheringFails lends root text piece lent old new (gathering.Fails fault) → Ends lends root text piece lent old new fault
