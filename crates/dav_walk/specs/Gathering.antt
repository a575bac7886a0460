-- Responses as they come: what is kept of the events so far, what each event gives, and where one is at fault.
use Rattle.std.specs.Prelude.{ℕ, zero, suc, ◌+◌, Bool, true, false, not, ◌&&◌, ◌||◌, ◌==◌, nat_le, List, [], ◌∷◌, ◌++◌, length, Option, Some, None, codes, if◌then◌else◌}
use Rattle.dav_doc.specs.Document.{Event, Start, Char, End}
use Rattle.dav_text.specs.declared.which.Which.TheVariants.{Nodes, Held}
use Rattle.dav_walk.specs.declared.root.Root.{Root}
use Rattle.dav_walk.specs.declared.root.Root.TheVariants.{Multistatus, Prop}
use Rattle.dav_walk.specs.declared.fault.WalkFault.{WalkFault}
use Rattle.dav_walk.specs.declared.fault.WalkFault.TheVariants.{WrongRoot, NoHref, BadStatus, Limit}
use Rattle.dav_walk.specs.Tree.{Item, is_dav}
use Rattle.dav_walk.specs.Reading.{has_href, has_codes}
use Rattle.dav_walk.specs.Lending.{Response}

-- an open element of a response: the place of its item, and its text so far
pub record Opened : Type 0 where
  pub place : ℕ
  pub text : List ℕ

-- the response that is open, if one is: its items so far, where the text of an open element is still missing, the open elements, the
-- innermost first, the bytes of its namespaces, names and texts, and how many bytes the last character still needs; and how many
-- responses have ended
pub record Gathering : Type 0 where
  pub root : Root
  pub items : List Item
  pub opened : List Opened
  pub held : ℕ
  pub owed : ℕ
  pub index : ℕ

-- no response is open
abbrev pub between : Root → ℕ → Gathering
between root index = record { root = root; items = []; opened = []; held = 0; owed = 0; index = index }

abbrev pub is_open : List Opened → Bool
is_open [] = false
is_open (o ∷ os) = true

-- the element begins a response
abbrev pub begins : Root → ℕ → List ℕ → List ℕ → Bool
begins Multistatus d ns name = (d == 2) && is_dav ns name (codes "response")
begins Prop d ns name = d == 1

-- the element is one of a response
abbrev pub is_kept : Gathering → ℕ → List ℕ → List ℕ → Bool
is_kept g d ns name = is_open g.opened || begins g.root d ns name

-- the name of the root element
abbrev pub root_name : Root → List ℕ
root_name Multistatus = codes "multistatus"
root_name Prop = codes "prop"

abbrev pub with_start : Gathering → ℕ → List ℕ → List ℕ → Gathering
with_start g d ns name = record {
  root = g.root;
  items = g.items ++ (record { depth = d; ns = ns; name = name; text = [] } ∷ []);
  opened = record { place = length g.items; text = [] } ∷ g.opened;
  held = g.held + (length ns + length name);
  owed = g.owed;
  index = g.index;
}

-- how many bytes follow one that begins a character (RFC 3629, section 3)
abbrev pub following : ℕ → ℕ
following b = if nat_le 240 b then 3 else (if nat_le 224 b then 2 else (if nat_le 192 b then 1 else 0))

abbrev pub owed_after : ℕ → ℕ → ℕ
owed_after zero b = following b
owed_after (suc n) b = n

-- the innermost open element with one more byte of text
abbrev pub with_longer : List Opened → ℕ → List Opened
with_longer [] b = []
with_longer (o ∷ os) b = record { place = o.place; text = o.text ++ (b ∷ []) } ∷ os

abbrev pub with_byte : Gathering → List Opened → ℕ → Gathering
with_byte g [] b = g
with_byte g (o ∷ os) b = record {
  root = g.root;
  items = g.items;
  opened = with_longer (o ∷ os) b;
  held = g.held + 1;
  owed = owed_after g.owed b;
  index = g.index;
}

-- the items with a text for the one at a place
abbrev pub with_text : ℕ → List ℕ → List Item → List Item
with_text place text [] = []
with_text zero text (x ∷ xs) = record { depth = x.depth; ns = x.ns; name = x.name; text = text } ∷ xs
with_text (suc place) text (x ∷ xs) = x ∷ with_text place text xs

abbrev pub with_end : Gathering → List Opened → Gathering
with_end g [] = g
with_end g (o ∷ []) = between g.root (g.index + 1)
with_end g (o ∷ p ∷ os) =
    record { root = g.root; items = with_text o.place o.text g.items; opened = p ∷ os; held = g.held; owed = g.owed; index = g.index }

abbrev pub next : Gathering → Event → Gathering
next g (Start d ns name) = if is_kept g d ns name then with_start g d ns name else g
next g (Char b) = with_byte g g.opened b
next g (End d) = with_end g g.opened

abbrev pub ended_by : Gathering → List Opened → List Response
ended_by g [] = []
ended_by g (o ∷ []) = record { items = with_text o.place o.text g.items; index = g.index } ∷ []
ended_by g (o ∷ p ∷ os) = []

-- the responses that end with an event
abbrev pub ended : Gathering → Event → List Response
ended g (Start d ns name) = []
ended g (Char b) = []
ended g (End d) = ended_by g g.opened

-- a response holds at most 4,096 elements, and 1,048,576 bytes of namespaces, names and texts
abbrev pub held_fault : ℕ → Option WalkFault
held_fault held = if nat_le held 1048576 then None else Some (Limit Held)

abbrev pub count_fault : ℕ → ℕ → Option WalkFault
count_fault count held = if nat_le count 4096 then held_fault held else Some (Limit Nodes)

abbrev pub start_fault : Gathering → ℕ → List ℕ → List ℕ → Option WalkFault
start_fault g d ns name =
    if (d == 1) && not (is_dav ns name (root_name g.root)) then Some WrongRoot
    else (if is_kept g d ns name then count_fault (length g.items + 1) (g.held + (length ns + length name)) else None)

-- a character that passes the limit is at fault with its last byte
abbrev pub byte_fault : Gathering → List Opened → ℕ → Option WalkFault
byte_fault g [] b = None
byte_fault g (o ∷ os) b = if owed_after g.owed b == 0 then held_fault (g.held + 1) else None

abbrev pub response_fault : Root → ℕ → List Item → Option WalkFault
response_fault Prop index xs = None
response_fault Multistatus index xs =
    if has_href xs then (if has_codes xs then None else Some (BadStatus index)) else Some (NoHref index)

abbrev pub end_fault : Gathering → List Opened → Option WalkFault
end_fault g [] = None
end_fault g (o ∷ []) = response_fault g.root g.index (with_text o.place o.text g.items)
end_fault g (o ∷ p ∷ os) = None

-- the fault of an event, if it has one
abbrev pub fault_of : Gathering → Event → Option WalkFault
fault_of g (Start d ns name) = start_fault g d ns name
fault_of g (Char b) = byte_fault g g.opened b
fault_of g (End d) = end_fault g g.opened

-- what is kept behind events without a fault, or the first fault
pub data Outcome : Type 0 where
  Goes : Gathering → Outcome
  Fails : WalkFault → Outcome

-- the responses that end with some events, up to the first fault
pub record Walked : Type 0 where
  pub ended : List Response
  pub outcome : Outcome

abbrev pub walk_by : Option WalkFault → List Response → Walked → Walked
walk_by (Some fault) here later = record { ended = []; outcome = Fails fault }
walk_by None here later = record { ended = here ++ later.ended; outcome = later.outcome }

abbrev pub walk : Gathering → List Event → Walked
walk g [] = record { ended = []; outcome = Goes g }
walk g (e ∷ es) = walk_by (fault_of g e) (ended g e) (walk (next g e) es)
