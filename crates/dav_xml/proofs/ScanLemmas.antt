-- One byte taken by the scanner.
use Rattle.std.proofs.Common.{◌≡◌, ℕ, ◌+◌, ◌<◌, Bool, true, false, List, [], ◌∷◌, ◌++◌, refl, ap, sym, subst, ◌∙◌, arith, Some, None, inl, inr, length-append}
use Rattle.std.specs.Prelude.{◌⊎◌, nat_le, cond, if◌then◌else◌, Result, Err}
use Rattle.std.proofs.lemmas.Bool.{leb-false}
use Rattle.dav_doc.specs.Characters.{Owed, owed_after}
use Rattle.dav_doc.specs.Document.{Event}
use Rattle.dav_markup.specs.Owing.{owed_in}
use Rattle.dav_markup.specs.declared.character.Owed.{Owed as CodeOwed}
use Rattle.dav_markup.specs.declared.scope.Open.{Open}
use Rattle.dav_text.specs.declared.which.Which.{Which}
use Rattle.dav_text.specs.declared.which.Which.TheVariants.{Depth, Attributes, Tag}
use Rattle.dav_xml.specs.declared.fault.XmlFault.{XmlFault}
use Rattle.dav_xml.specs.declared.fault.XmlFault.TheVariants as faults
use Rattle.dav_xml.specs.declared.position.Position.{Position}
use Rattle.dav_xml.specs.declared.scan.Scan.{Scan}
use Rattle.dav_xml.specs.declared.step.Step.{Step}
use Rattle.dav_xml.specs.declared.step.Step.TheVariants.{Further, Text, Opens, Empty, Closes}
use Rattle.dav_xml.specs.declared.turn.Turn.{Turn}
use Rattle.dav_xml.specs.Events.{lent_in, later_in}
use Rattle.dav_xml.specs.Moves.{Steps}
use Rattle.dav_xml.specs.Parts.{StepAt}
use Rattle.dav_xml.specs.Read.{HasRead, Fails}
use Rattle.dav_xml.specs.Reading.{Stand, begin, reads, limit_by, tag_limit}
use Rattle.dav_xml.specs.Stands.{stack_of}
use Rattle.dav_xml.specs.Turn.{begun_by, attributes_by, is_tag_at, IsShallow, Turns}
use Rattle.dav_xml.proofs.FeedLemmas.{given_now}
use Rattle.dav_xml.proofs.StackLemmas.{stack_length}
use Rattle.dav_xml.proofs.TakeLemmas.{passes, refuses_character, refuses_byte, taken}

abbrev pub stand_of : (scan : Scan) (text : List ℕ) (given : List Event) → HasRead scan text given → Stand
stand_of scan text given h = record { state = h.state; owed = owed_in scan.owed; size = scan.size }

pub read_now : (scan : Scan) (text : List ℕ) (given : List Event) → (h : HasRead scan text given) → later_in scan.lent ≡ []
    → reads text begin ≡ Some (record { stand = stand_of scan text given h; events = given })
read_now scan text given h l = h.read ∙ ap (λ z. Some (record { stand = stand_of scan text given h; events = z })) (given_now given scan.lent l)

-- a byte that no character has there
pub character_fails : (scan : Scan) (text : List ℕ) (given : List Event) (b : ℕ) → HasRead scan text given → later_in scan.lent ≡ [] → None ≡ owed_after (owed_in scan.owed) b
    → Fails text given b (faults.Bad scan.at)
character_fails scan text given b h l n = record {
  stand = stand_of scan text given h;
  read = read_now scan text given h l;
  why = (h.at, refuses_character (stand_of scan text given h) b (sym n));
}

-- a step that passes a limit
pub limit_fails : (scan : Scan) (text : List ℕ) (given : List Event) (b : ℕ) (o : Owed) (s : Step) (which : Which) → HasRead scan text given → later_in scan.lent ≡ []
    → Some o ≡ owed_after (owed_in scan.owed) b → Steps scan.position (Some s) (stack_of scan.opens.items) b
    → Some which ≡ limit_by (begun_by s scan.depth) (attributes_by s) scan.size → Fails text given b (faults.Limit which)
limit_fails scan text given b o s which h l w k p = record {
  stand = stand_of scan text given h;
  read = read_now scan text given h l;
  why =
      passes (stand_of scan text given h) b scan.depth o s (stack_of scan.opens.items) which (sym w) (k h.state h.stands)
      (h.depth ∙ sym (stack_length scan.opens.items)) p;
}

-- no step, or one that passes a limit
pub step_fails : (scan : Scan) (text : List ℕ) (given : List Event) (b : ℕ) (o : Owed) (fault : XmlFault) → HasRead scan text given → later_in scan.lent ≡ []
    → Some o ≡ owed_after (owed_in scan.owed) b → StepAt scan.position (stack_of scan.opens.items) scan.at scan.depth scan.size b (Err fault) → (fault ≡ faults.Memory) ⊎ Fails text given b fault
step_fails scan text given b o (faults.Bad at) h l w k =
    inr
    (record {
      stand = stand_of scan text given h;
      read = read_now scan text given h l;
      why = (k.0 ∙ h.at, refuses_byte (stand_of scan text given h) b o (sym w) (k.1 h.state h.stands));
    })
step_fails scan text given b o faults.Cut h l w k = absurd k
step_fails scan text given b o (faults.Limit which) h l w k = inr (limit_fails scan text given b o k.step which h l w k.moves k.limit)
step_fails scan text given b o faults.Memory h l w k = inl refl

-- a byte that is taken
pub takes : (old new : Scan) (text : List ℕ) (given : List Event) (b : ℕ) (owed : CodeOwed) (s : Step) (turn : Turn) → HasRead old text given → later_in old.lent ≡ []
    → Some (owed_in owed) ≡ owed_after (owed_in old.owed) b → Steps old.position (Some s) (stack_of old.opens.items) b
    → None ≡ limit_by (begun_by s old.depth) (attributes_by s) old.size → Turns s old.opens.items old.depth turn new.opens.items
    → new.size ≡ (if is_tag_at turn.position then old.size + 1 else 0)
    → new.position ≡ turn.position → new.depth ≡ turn.depth → new.lent ≡ turn.lent → new.owed ≡ owed → new.at ≡ old.at + 1 → new.fault ≡ old.fault
    → HasRead new (text ++ (b ∷ [])) (given ++ lent_in new.lent)
takes old new text given b owed s turn h l w k n t z p d e o a f =
    let x = stand_of old text given h in
    let y = taken x text given b old.depth new.size (owed_in owed) s old.opens.items new.opens.items turn (read_now old text given h l) (sym w) h.depth
    (k h.state h.stands) n t z in
    record {
      state = y.state;
      read = rw (o, e) y.read;
      stands = rw p y.stands;
      depth = d ∙ y.depth;
      at = a ∙ ap (λ q. q + 1) h.at ∙ sym (length-append text (b ∷ []));
      going = f ∙ h.going;
    }

small_tag : (x : Bool) (size : ℕ) → nat_le 65536 size ≡ x → None ≡ cond x (Some Tag) None → size < 65536
small_tag true size h e = let k : None ≡ Some Tag = e in absurd cc
small_tag false size h e = leb-false 65536 size h

tag_small : (size : ℕ) → None ≡ tag_limit size → size < 65536
tag_small size e = small_tag (nat_le 65536 size) size refl e

-- what holds where a step passes no limit
by_attributes : (x : Bool) (size : ℕ) → None ≡ cond x (Some Attributes) (tag_limit size) → size < 65536
by_attributes true size e = let k : None ≡ Some Attributes = e in absurd cc
by_attributes false size e = tag_small size e

by_depth : (x : Bool) (d attributes size : ℕ) → nat_le 33 d ≡ x → None ≡ cond x (Some Depth) (cond (nat_le 65 attributes) (Some Attributes) (tag_limit size)) → (d < 33) × (size < 65536)
by_depth true d attributes size h e = let k : None ≡ Some Depth = e in absurd cc
by_depth false d attributes size h e = (leb-false 33 d h, by_attributes (nat_le 65 attributes) size e)

pub within : (s : Step) (depth size : ℕ) → None ≡ limit_by (begun_by s depth) (attributes_by s) size → (IsShallow s depth) × (size < 65536)
within (Further p) depth size e = (tt, tag_small size e)
within (Text p few) depth size e = (tt, tag_small size e)
within Closes depth size e = (tt, tag_small size e)
within (Opens tag ns) depth size e =
    let k = by_depth (nat_le 33 (depth + 1)) (depth + 1) (attributes_by (Opens tag ns)) size refl e in
    let n : depth < 32 = omega (arith, k.0) in (n, k.1)
within (Empty tag ns) depth size e =
    let k = by_depth (nat_le 33 (depth + 1)) (depth + 1) (attributes_by (Empty tag ns)) size refl e in
    let n : depth < 32 = omega (arith, k.0) in (n, k.1)

-- the same position and the same elements
pub same_step : (p q : Position) (xs ys : List Open) (at depth size b : ℕ) (r : Result Step XmlFault) → p ≡ q → xs ≡ ys → StepAt p (stack_of xs) at depth size b r → StepAt q (stack_of ys) at depth size b r
same_step p q xs ys at depth size b r e f h =
    subst (λ (z : Position). StepAt z (stack_of ys) at depth size b r) e (subst (λ (z : List Open). StepAt p (stack_of z) at depth size b r) f h)
