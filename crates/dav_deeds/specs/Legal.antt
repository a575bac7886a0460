-- Which steps follow from a table, and the table after them.
use Rattle.std.specs.Prelude.{◌≡◌, ◌≢◌, ℕ, List, [], ◌∷◌, length, Option, Some, None}
use Rattle.dav_text.specs.Path.{IsPath}
use Rattle.dav_store.specs.Body.{id_of}
use Rattle.dav_store.specs.declared.body_id.BodyId.{BodyId}
use Rattle.dav_index.specs.Records.{IsNoted}
use Rattle.dav_deeds.specs.declared.answer.Told.TheVariants.{Idle}
use Rattle.dav_deeds.specs.declared.ask.Ask.{Ask}
use Rattle.dav_deeds.specs.declared.ask.Ask.TheVariants as asks
use Rattle.dav_deeds.specs.declared.ask.Done.{Done}
use Rattle.dav_deeds.specs.declared.ask.Done.TheVariants.{Sent, Again, Refused}
use Rattle.dav_deeds.specs.declared.deed.Deed.{Deed}
use Rattle.dav_deeds.specs.declared.deed.Deed.TheVariants.{Store, Forget, Take, Settle, Stop}
use Rattle.dav_deeds.specs.declared.deed.Step.{Step}
use Rattle.dav_deeds.specs.declared.fault.DeskFault.{DeskFault}
use Rattle.dav_deeds.specs.DeskTable.{DeskTable}
use Rattle.dav_deeds.specs.Refusals.{store_refusal}
use Rattle.dav_deeds.specs.Effects.{after, mark_of, told_of}

-- the body that bytes become unless they are refused
abbrev pub body_unless : Option DeskFault → BodyId → Option BodyId
body_unless None body = Some body
body_unless (Some fault) body = None

-- the deed that an ask is
abbrev pub deed_of : DeskTable → Ask → Deed
deed_of t (asks.Store path bytes) =
    Store path (length bytes) (body_unless (store_refusal t.index path (length bytes)) (id_of t.index.next_file bytes))
deed_of t (asks.Forget path locks below) = Forget path locks below
deed_of t asks.Take = Take
deed_of t (asks.Settle job done) = Settle job done
deed_of t asks.Stop = Stop

-- the bytes that an ask brings for its new body
abbrev pub bytes_in : Ask → List ℕ
bytes_in (asks.Store path bytes) = bytes
bytes_in ask = []

-- what is said to be known of a file on the server isn't nothing
abbrev pub IsDone : Done → Type 0
IsDone (Sent seen) = IsNoted seen
IsDone (Again after) = Unit {0}
IsDone Refused = Unit {0}

-- the paths of an ask are paths, and what it says to be known of a file isn't nothing
abbrev pub IsAsk : Ask → Type 0
IsAsk (asks.Store path bytes) = IsPath path
IsAsk (asks.Forget path locks below) = IsPath path
IsAsk asks.Take = Unit {0}
IsAsk (asks.Settle job done) = IsDone done
IsAsk asks.Stop = Unit {0}

-- a body of this length in the next file, and none exactly where the bytes were refused
abbrev pub IsBodyUnless : Option DeskFault → ℕ → ℕ → Option BodyId → Type 0
IsBodyUnless None file len None = ⊥
IsBodyUnless None file len (Some body) = (body.file ≡ file) × (body.len ≡ len) × (length body.sum ≡ 32)
IsBodyUnless (Some fault) file len None = Unit {0}
IsBodyUnless (Some fault) file len (Some body) = ⊥

-- a deed that an ask may be
abbrev pub IsDeed : DeskTable → Deed → Type 0
IsDeed t (Store path len body) = IsPath path × IsBodyUnless (store_refusal t.index path len) t.index.next_file len body
IsDeed t (Forget path locks below) = IsPath path
IsDeed t Take = Unit {0}
IsDeed t (Settle job done) = IsDone done
IsDeed t Stop = Unit {0}

-- the body that a deed names
abbrev pub new_body : Deed → Option BodyId
new_body (Store path len body) = body
new_body deed = None

-- an ask of a shell: it takes no job and settles none
abbrev pub IsOfShell : Ask → Type 0
IsOfShell asks.Take = ⊥
IsOfShell (asks.Settle job done) = ⊥
IsOfShell ask = Unit {0}

-- a step of a desk with this table. A take that finds nothing is no step
pub record IsLegal (t : DeskTable) (s : Step) : Type 0 where
  pub deed : IsDeed t s.deed
  pub mark : s.mark ≡ mark_of t s.now s.deed
  pub told : s.told ≡ told_of t s.now s.deed
  pub stands : s.told ≢ Some Idle

-- the table after these steps
abbrev pub table_after : DeskTable → List Step → DeskTable
table_after t [] = t
table_after t (s ∷ steps) = table_after (after t s.now s.deed) steps

-- steps of a desk that begins with this table
abbrev pub Legal : DeskTable → List Step → Type 0
Legal t [] = Unit {0}
Legal t (s ∷ steps) = IsLegal t s × Legal (after t s.now s.deed) steps
