-- What a walker does behind a piece and at the end.
use Rattle.std.proofs.Common.{◌≡◌, ℕ, ◌+◌, Bool, true, false, List, [], ◌∷◌, ◌++◌, length, length-append, zero-add, Ok, Err, Option, Some, None, refl, ap, sym, ◌∙◌, append-nil, arith}
use Rattle.std.specs.Prelude.{Result, if◌then◌else◌}
use Rattle.dav_doc.specs.Document as document
use Rattle.dav_doc.specs.Document.{Forest, Event, Start, Char, End, Nil, IsDocument, events, alone, full}
use Rattle.dav_doc.specs.Names.{local_of}
use Rattle.dav_xml.specs.declared.scan.Scan.{Scan}
use Rattle.dav_xml.specs.Events.{later_in}
use Rattle.dav_xml.specs.Read.{HasRead}
use Rattle.dav_xml.specs.Reading.{Reading}
use Rattle.dav_walk.specs.declared.root.Root.{Root}
use Rattle.dav_walk.specs.declared.handler.Next.{Next}
use Rattle.dav_walk.specs.declared.walker.State.TheVariants.{Going, Stopped, Failed}
use Rattle.dav_walk.specs.declared.walker.Walk.{Walk}
use Rattle.dav_walk.specs.declared.walker.Walk.TheVariants as walks
use Rattle.dav_walk.specs.declared.fault.WalkFault.{WalkFault}
use Rattle.dav_walk.specs.Tree.{responses}
use Rattle.dav_walk.specs.Lending.{Response}
use Rattle.dav_walk.specs.Gathering.{Gathering, Opened, Walked, Goes, between, is_kept, with_start, with_byte, with_end, ended_by, next, ended, walk}
use Rattle.dav_walk.specs.Whole.{after, given}
use Rattle.dav_walk.specs.Walking.{GoesOn, StopsIn}
use Rattle.dav_walk.specs.WalkerView.{Walking, Takes, StopsAt, Finishes}
use Rattle.dav_walk.proofs.TreeLemmas.{Gives, gives_responses}
use Rattle.dav_walk.proofs.WalkLemmas.{walk_given}

pub takes : {S : Type 0} (lends : S → Response → Next → S → Type 0) (w : Walking) (text piece : List ℕ) (lent : List Response) (a b : S)
    → GoesOn lends w.root w.scan w.gathered text piece lent a b → w.state ≡ Going → Takes lends w text piece lent a b
takes lends w text piece lent a b k s = record { more = k.more; walked = record { stands = k.stands; going = s }; handed = k.handed }

pub stops : {S : Type 0} (lends : S → Response → Next → S → Type 0) (w : Walking) (text piece : List ℕ) (lent : List Response) (a b : S)
    → StopsIn lends w.root w.scan w.gathered text piece lent a b → w.state ≡ Stopped → StopsAt lends w text piece lent a b
stops lends w text piece lent a b k s = record {
  front = k.front;
  rest = k.rest;
  split = k.split;
  more = k.more;
  stopped = record { given = k.given; read = k.read; walked = k.walked; stopped = s };
  handed = k.handed;
}

pub gives_tree : (root : Root) (tree : Forest) (s : List ℕ) → document.Root tree s → Gives root 0 (events 1 tree) (responses root tree)
gives_tree root tree s (alone t w ns a b c) = gives_responses root ns (local_of t.name) Nil
gives_tree root tree s (full {inside = inside} t w v ns a b c d e) = gives_responses root ns (local_of t.name) inside

pub finishes : (root : Root) (g : Gathering) (text : List ℕ) (es later : List Event) (lent : List Response) (tree : Forest)
    → IsDocument tree text → events 1 tree ≡ es ++ later → later ≡ [] → walk (between root 0) es ≡ record { ended = lent; outcome = Goes g }
    → Finishes root text lent g.index
finishes root g text es later lent tree d e q w =
    let same : events 1 tree ≡ es = e ∙ ap (λ z. es ++ z) q ∙ append-nil es in
    let all = gives_tree root tree _ d.spells.declared.rooted.root in
    let k = walk_given (between root 0) g es (ap (λ (v : Walked). v.outcome) w) in
    record {
      tree = tree;
      document = d;
      all = sym (ap (λ (v : Walked). v.ended) w) ∙ k.1 ∙ ap (given (between root 0)) (sym same) ∙ all.given;
      many = ap (λ (h : Gathering). h.index) (k.0 ∙ ap (after (between root 0)) (sym same) ∙ all.leads) ∙ omega arith;
    }

-- each response that ends is counted
start_index : (kept : Bool) (g : Gathering) (d : ℕ) (ns name : List ℕ) → (if kept then with_start g d ns name else g).index ≡ g.index
start_index true g d ns name = refl
start_index false g d ns name = refl

byte_index : (g : Gathering) (os : List Opened) (b : ℕ) → (with_byte g os b).index ≡ g.index
byte_index g [] b = refl
byte_index g (o ∷ os) b = refl

end_index : (g : Gathering) (os : List Opened) → (with_end g os).index ≡ g.index + length (ended_by g os)
end_index g [] = omega arith
end_index g (o ∷ []) = omega arith
end_index g (o ∷ p ∷ os) = omega arith

next_index : (g : Gathering) (e : Event) → (next g e).index ≡ g.index + length (ended g e)
next_index g (Start d ns name) = let h = start_index (is_kept g d ns name) g d ns name in omega arith
next_index g (Char b) = let h = byte_index g g.opened b in omega arith
next_index g (End d) = end_index g g.opened

after_index : (g : Gathering) (es : List Event) → (after g es).index ≡ g.index + length (given g es)
after_index g [] = omega arith
after_index g (e ∷ es) =
    let h = next_index g e in
    let k = after_index (next g e) es in
    omega (arith, length-append (ended g e) (given (next g e) es))

pub walk_count : (root : Root) (g : Gathering) (es : List Event) (lent : List Response) → walk (between root 0) es ≡ record { ended = lent; outcome = Goes g } → g.index ≡ length lent
walk_count root g es lent w =
    let k = walk_given (between root 0) g es (ap (λ (v : Walked). v.outcome) w) in
    ap (λ (h : Gathering). h.index) k.0 ∙ after_index (between root 0) es ∙ ap (λ z. 0 + length z) (sym k.1 ∙ ap (λ (v : Walked). v.ended) w) ∙ zero-add (length lent)

-- the states are apart, and so are the answers
pub going_stopped : Going ≡ Stopped → ⊥
going_stopped e = cc

pub going_failed : {fault : WalkFault} → Going ≡ Failed fault → ⊥
going_failed e = cc

pub stopped_failed : {fault : WalkFault} → Stopped ≡ Failed fault → ⊥
stopped_failed e = cc

abbrev answer : Walk → Result Walk WalkFault
answer walk = Ok walk

abbrev failed : WalkFault → Result Walk WalkFault
failed fault = Err fault

pub stopped_going : answer walks.Stopped ≡ answer walks.Going → ⊥
stopped_going e = cc

pub err_ok : (fault : WalkFault) (walk : Walk) → failed fault ≡ answer walk → ⊥
err_ok fault walk e = cc

pub same_fault : (a b : WalkFault) → Failed a ≡ Failed b → failed a ≡ failed b
same_fault a b e = cc

-- before the first byte
events_of : Option Reading → List Event
events_of None = []
events_of (Some r) = r.events

pub begins_quiet : (scan : Scan) → HasRead scan [] [] → later_in scan.lent ≡ []
unfolding events_of
begins_quiet scan h = sym (ap events_of h.read)

pub walks_from : (root : Root) (g : Gathering) → g ≡ between root 0 → walk (between root 0) [] ≡ record { ended = []; outcome = Goes g }
walks_from root g e = ap (λ (h : Gathering). let w : Walked = record { ended = []; outcome = Goes h } in w) (sym e)
