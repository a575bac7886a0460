-- A walker as contracts see it, and what it has done with a text.
use Rattle.std.specs.Prelude.{◌≡◌, ℕ, List, ◌++◌, length}
use Rattle.dav_doc.specs.Document.{Event, Forest, IsDocument}
use Rattle.dav_xml.specs.declared.scan.Scan.{Scan}
use Rattle.dav_xml.specs.Read.{HasRead}
use Rattle.dav_walk.specs.declared.root.Root.{Root}
use Rattle.dav_walk.specs.declared.handler.Next.{Next}
use Rattle.dav_walk.specs.declared.walker.State.{State}
use Rattle.dav_walk.specs.declared.walker.State.TheVariants.{Going, Stopped}
use Rattle.dav_walk.specs.Tree.{responses}
use Rattle.dav_walk.specs.Whole.{numbered}
use Rattle.dav_walk.specs.Lending.{Response, LentAll, LentToStop}
use Rattle.dav_walk.specs.Gathering.{Gathering, between, walk, Goes}
use Rattle.dav_walk.specs.Walking.{Stands}

-- the root that is expected, the scanner, what is gathered, and whether the walk goes on
pub record Walking : Type 0 where
  pub root : Root
  pub scan : Scan
  pub gathered : Gathering
  pub state : State

-- how many bytes it has taken
abbrev pub taken : Walking → ℕ
taken w = w.scan.at

-- it waits behind this text, in which these responses end, each of which it has lent once
pub record HasWalked (w : Walking) (text : List ℕ) (lent : List Response) : Type 0 where
  pub stands : Stands w.root w.scan w.gathered text lent
  pub going : w.state ≡ Going

-- it was stopped behind this text, at the last of these responses
pub record HasStopped (w : Walking) (text : List ℕ) (lent : List Response) : Type 0 where
  pub given : List Event
  pub read : HasRead w.scan text given
  pub walked : walk (between w.root 0) given ≡ record { ended = lent; outcome = Goes w.gathered }
  pub stopped : w.state ≡ Stopped

-- it waits behind the piece too, and the handler was lent the responses that end in it
pub record Takes {S : Type 0} (lends : S → Response → Next → S → Type 0) (new : Walking) (text piece : List ℕ) (lent : List Response) (a b : S) : Type 0 where
  pub more : List Response
  pub walked : HasWalked new (text ++ piece) (lent ++ more)
  pub handed : LentAll lends a more b

-- it was stopped behind a front of the piece
pub record StopsAt {S : Type 0} (lends : S → Response → Next → S → Type 0) (new : Walking) (text piece : List ℕ) (lent : List Response) (a b : S) : Type 0 where
  pub front : List ℕ
  pub rest : List ℕ
  pub split : piece ≡ front ++ rest
  pub more : List Response
  pub stopped : HasStopped new (text ++ front) (lent ++ more)
  pub handed : LentToStop lends a more b

-- the document with its responses, which are as many as were counted
pub record Finishes (root : Root) (text : List ℕ) (lent : List Response) (count : ℕ) : Type 0 where
  pub tree : Forest
  pub document : IsDocument tree text
  pub all : lent ≡ numbered 0 (responses root tree)
  pub many : count ≡ length (responses root tree)
