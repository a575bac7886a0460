-- A walk over a front of a document, and the responses of the whole.
use Rattle.std.proofs.Common.{◌≡◌, ℕ, ◌+◌, Bool, true, false, List, [], ◌∷◌, ◌++◌, length, refl, ap, sym, ◌∙◌, append_assoc, append-nil, zero-add, Option, Some, None, arith}
use Rattle.std.specs.Prelude.{◌==◌, ◌&&◌, not, nat_le, if◌then◌else◌}
use Rattle.dav_doc.specs.Document.{Forest, Event, Start, Char, End, IsDocument, events}
use Rattle.dav_doc.proofs.Agreement.{so_far}
use Rattle.dav_xml.specs.declared.fault.XmlFault.{XmlFault}
use Rattle.dav_xml.specs.Events.{later_in}
use Rattle.dav_xml.specs.Reading.{begin}
use Rattle.dav_xml.proofs.LawLemmas.{read_first}
use Rattle.dav_xml.proofs.ReadLemmas.{reads_run}
use Rattle.dav_text.specs.declared.which.Which.TheVariants.{Nodes, Held}
use Rattle.dav_walk.specs.declared.root.Root.{Root}
use Rattle.dav_walk.specs.declared.root.Root.TheVariants.{Multistatus, Prop}
use Rattle.dav_walk.specs.declared.fault.WalkFault.{WalkFault}
use Rattle.dav_walk.specs.declared.fault.WalkFault.TheVariants as faults
use Rattle.dav_walk.specs.Tree.{Item, is_dav, responses}
use Rattle.dav_walk.specs.Lending.{Response}
use Rattle.dav_walk.specs.Reading.{has_href, has_codes}
use Rattle.dav_walk.specs.Gathering as gathering
use Rattle.dav_walk.specs.Gathering.{Gathering, Opened, Goes, Fails, Walked, between, root_name, is_kept, with_start, with_byte, with_text, with_end, next, ended, ended_by, fault_of, start_fault, byte_fault, end_fault, response_fault, walk_by, walk}
use Rattle.dav_walk.specs.Whole.{after, given, numbered}
use Rattle.dav_walk.specs.Walking.{GathersTo, Refuses}
use Rattle.dav_walk.specs.WalkerView.{Walking, HasWalked, HasStopped}
use Rattle.dav_walk.specs.Places.{placed, ended_in}
use Rattle.dav_walk.specs.SoFar.{AreFirst, StandsBehind, LacksHref, LacksStatus}
use Rattle.dav_walk.proofs.TreeLemmas.{given-append}
use Rattle.dav_walk.proofs.WalkerLemmas.{gives_tree}
use Rattle.dav_walk.proofs.WalkLemmas.{walk_given}
use Rattle.dav_walk.proofs.PlaceLemmas.{given_end}

-- the responses that the first events of a tree give are its first
pub first_by : (root : Root) (text : List ℕ) (tree : Forest) (es later : List Event) (lent : List Response) → IsDocument tree text → events 1 tree ≡ es ++ later
    → lent ≡ given (between root 0) es → AreFirst root tree lent
first_by root text tree es later lent d e l =
    let all = gives_tree root tree _ d.spells.declared.rooted.root in
    record {
      later = given (after (between root 0) es) later;
      all =
          sym all.given
          ∙ ap (given (between root 0)) e
          ∙ given-append (between root 0) es later
          ∙ ap (λ z. z ++ given (after (between root 0) es) later) (sym l);
    }

-- a walk up to its first fault: the events before it, and the one that has it
pub record Fell (g : Gathering) (es : List Event) (lent : List Response) (fault : WalkFault) : Type 0 where
  pub front : List Event
  pub event : Event
  pub back : List Event
  pub split : es ≡ front ++ (event ∷ back)
  pub lends : lent ≡ given g front
  pub fails : fault_of (after g front) event ≡ Some fault

fell_here : (g : Gathering) (e : Event) (es : List Event) (lent : List Response) (fault other : WalkFault) → fault_of g e ≡ Some other
    → ◌≡◌ {A = Walked} (record { ended = []; outcome = Fails other }) (record { ended = lent; outcome = Fails fault }) → Fell g (e ∷ es) lent fault
fell_here g e es lent fault other h w = record {
  front = [];
  event = e;
  back = es;
  split = refl;
  lends = sym (ap (λ (v : Walked). v.ended) w);
  fails = h ∙ (let o : Fails other ≡ Fails fault = ap (λ (v : Walked). v.outcome) w in let k : other ≡ fault = cc in ap Some k);
}

fell_by : (g : Gathering) (e : Event) (es : List Event) (lent : List Response) (fault : WalkFault) (o : Option WalkFault) → fault_of g e ≡ o
    → walk_by o (ended g e) (walk (next g e) es) ≡ record { ended = lent; outcome = Fails fault }
    → ((later : List Response) → walk (next g e) es ≡ record { ended = later; outcome = Fails fault } → Fell (next g e) es later fault)
    → Fell g (e ∷ es) lent fault
fell_by g e es lent fault (Some other) h w ih = fell_here g e es lent fault other h w
fell_by g e es lent fault None h w ih =
    let rest = walk (next g e) es in
    let k = ih rest.ended (ap (λ (v : Walked). let u : Walked = record { ended = rest.ended; outcome = v.outcome } in u) w) in
    record {
      front = e ∷ k.front;
      event = k.event;
      back = k.back;
      split = ap (λ z. e ∷ z) k.split;
      lends = sym (ap (λ (v : Walked). v.ended) w) ∙ ap (λ z. ended g e ++ z) k.lends;
      fails = k.fails;
    }

pub fell : (g : Gathering) (es : List Event) (lent : List Response) (fault : WalkFault) → walk g es ≡ record { ended = lent; outcome = Fails fault } → Fell g es lent fault
fell g [] lent fault w = let o : Goes g ≡ Fails fault = ap (λ (v : Walked). v.outcome) w in absurd cc
fell g (e ∷ es) lent fault w = fell_by g e es lent fault (fault_of g e) refl w (λ later k. fell (next g e) es later fault k)

-- the events of a front, where the first fault is one of the responses'
pub gathers_first : (root : Root) (text t : List ℕ) (lent : List Response) (outcome : gathering.Outcome) (tree : Forest) → (h : GathersTo root text lent outcome) → IsDocument tree (text ++ t)
    → (later : List Event) × (events 1 tree ≡ h.given ++ later)
gathers_first root text t lent outcome tree h d =
    let k = so_far text t _ tree (reads_run text begin _ h.read).run d.spells in
    (h.later ++ k.0, k.1 ∙ append_assoc h.given h.later k.0)

pub gathers_are_first : (root : Root) (text t : List ℕ) (lent : List Response) (fault : WalkFault) (tree : Forest) → GathersTo root text lent (Fails fault) → IsDocument tree (text ++ t)
    → AreFirst root tree lent
gathers_are_first root text t lent fault tree h d =
    let k = gathers_first root text t lent (Fails fault) tree h d in
    let f = fell (between root 0) h.given lent fault h.walked in
    first_by root (text ++ t) tree f.front (f.event ∷ f.back ++ k.0) lent d
    (k.1 ∙ ap (λ z. z ++ k.0) f.split ∙ append_assoc f.front (f.event ∷ f.back) k.0) f.lends

pub refuses_are_first : (root : Root) (text t : List ℕ) (byte : ℕ) (lent : List Response) (why : XmlFault) (tree : Forest) → Refuses root text byte lent why → IsDocument tree (text ++ t)
    → AreFirst root tree lent
refuses_are_first root text t byte lent why tree h d =
    let k = so_far text t _ tree (reads_run text begin _ h.fails.read).run d.spells in
    let g = walk_given (between root 0) h.h h.given (ap (λ (v : Walked). v.outcome) h.walked) in
    first_by root (text ++ t) tree h.given k.0 lent d k.1 (sym (ap (λ (v : Walked). v.ended) h.walked) ∙ g.1)

pub walked_are_first : (w : Walking) (text t : List ℕ) (lent : List Response) (tree : Forest) → HasWalked w text lent → IsDocument tree (text ++ t) → AreFirst w.root tree lent
walked_are_first w text t lent tree h d =
    let s = h.stands in
    let k = read_first w.scan text t s.given tree s.read d in
    let g = walk_given (between w.root 0) w.gathered s.given (ap (λ (v : Walked). v.outcome) s.walked) in
    first_by w.root (text ++ t) tree s.given k.0 lent d k.1 (sym (ap (λ (v : Walked). v.ended) s.walked) ∙ g.1)

pub stopped_are_first : (w : Walking) (text t : List ℕ) (lent : List Response) (tree : Forest) → HasStopped w text lent → IsDocument tree (text ++ t) → AreFirst w.root tree lent
stopped_are_first w text t lent tree h d =
    let k = read_first w.scan text t h.given tree h.read d in
    let g = walk_given (between w.root 0) w.gathered h.given (ap (λ (v : Walked). v.outcome) h.walked) in
    first_by w.root (text ++ t) tree h.given k.0 lent d k.1 (sym (ap (λ (v : Walked). v.ended) h.walked) ∙ g.1)

-- Which end in the text.

pub walked_end : (w : Walking) (text t : List ℕ) (lent : List Response) (tree : Forest) → HasWalked w text lent → (d : IsDocument tree (text ++ t))
    → lent ≡ ended_in 0 (length text) (placed w.root d)
walked_end w text t lent tree h d =
    let s = h.stands in
    let r = reads_run text begin _ s.read.read in
    let g = walk_given (between w.root 0) w.gathered s.given (ap (λ (v : Walked). v.outcome) s.walked) in
    let e : s.given ≡ s.given ++ later_in w.scan.lent = sym (append-nil s.given) ∙ ap (λ z. s.given ++ z) (sym s.quiet) in
    sym (ap (λ (v : Walked). v.ended) s.walked)
    ∙ g.1
    ∙ ap (given (between w.root 0)) e
    ∙ given_end w.root text t tree s.read.state (s.given ++ later_in w.scan.lent) r.run d

pub refused_end : (root : Root) (text t : List ℕ) (byte : ℕ) (lent : List Response) (why : XmlFault) (tree : Forest) → Refuses root text byte lent why → (d : IsDocument tree (text ++ t))
    → lent ≡ ended_in 0 (length text) (placed root d)
refused_end root text t byte lent why tree h d =
    let r = reads_run text begin _ h.fails.read in
    let g = walk_given (between root 0) h.h h.given (ap (λ (v : Walked). v.outcome) h.walked) in
    sym (ap (λ (v : Walked). v.ended) h.walked) ∙ g.1 ∙ given_end root text t tree h.fails.stand.state h.given r.run d

-- Which response is at fault.

-- an end at which a response is at fault
pub record AtEnd (g : Gathering) (e : Event) (fault : WalkFault) : Type 0 where
  pub response : List Item
  pub ends : ended g e ≡ record { items = response; index = g.index } ∷ []
  pub fails : response_fault g.root g.index response ≡ Some fault

at_end : (g : Gathering) (d : ℕ) (os : List Opened) (fault : WalkFault) → g.opened ≡ os → end_fault g os ≡ Some fault → AtEnd g (End d) fault
at_end g d [] fault e h = let k : None ≡ Some fault = h in absurd cc
at_end g d (o ∷ []) fault e h = record { response = with_text o.place o.text g.items; ends = ap (ended_by g) e; fails = h }
at_end g d (o ∷ p ∷ os) fault e h = let k : None ≡ Some fault = h in absurd cc

-- a fault that is told when a response ends
abbrev judges : WalkFault → Bool
judges (faults.NoHref index) = true
judges (faults.BadStatus index) = true
judges fault = false

none_not : (fault : WalkFault) → None ≡ Some fault → ⊥
none_not fault h = cc

other_not : (other fault : WalkFault) → judges other ≡ false → judges fault ≡ true → Some other ≡ Some fault → ⊥
other_not other fault o j h = let k : other ≡ fault = cc in let n : false ≡ true = sym o ∙ ap judges k ∙ j in cc

held_not : (fits : Bool) (fault : WalkFault) → judges fault ≡ true → (if fits then None else Some (faults.Limit Held)) ≡ Some fault → ⊥
held_not true fault j h = none_not fault h
held_not false fault j h = other_not (faults.Limit Held) fault refl j h

count_not : (few : Bool) (fits : Bool) (fault : WalkFault) → judges fault ≡ true → (if few then (if fits then None else Some (faults.Limit Held)) else Some (faults.Limit Nodes)) ≡ Some fault → ⊥
count_not true fits fault j h = held_not fits fault j h
count_not false fits fault j h = other_not (faults.Limit Nodes) fault refl j h

start_not : (wrong kept few fits : Bool) (fault : WalkFault) → judges fault ≡ true
    → (if wrong then Some faults.WrongRoot else (if kept then (if few then (if fits then None else Some (faults.Limit Held)) else Some (faults.Limit Nodes)) else None)) ≡ Some fault → ⊥
start_not true kept few fits fault j h = other_not faults.WrongRoot fault refl j h
start_not false true few fits fault j h = count_not few fits fault j h
start_not false false few fits fault j h = none_not fault h

byte_by : (whole fits : Bool) (fault : WalkFault) → judges fault ≡ true → (if whole then (if fits then None else Some (faults.Limit Held)) else None) ≡ Some fault → ⊥
byte_by true fits fault j h = held_not fits fault j h
byte_by false fits fault j h = none_not fault h

byte_not : (g : Gathering) (os : List Opened) (b : ℕ) (fault : WalkFault) → judges fault ≡ true → byte_fault g os b ≡ Some fault → ⊥
byte_not g [] b fault j h = none_not fault h
byte_not g (o ∷ os) b fault j h = byte_by _ _ fault j h

judged_end : (g : Gathering) (e : Event) (fault : WalkFault) → judges fault ≡ true → fault_of g e ≡ Some fault → AtEnd g e fault
judged_end g (Start d ns name) fault j h =
    absurd
    (start_not ((d == 1) && not (is_dav ns name (root_name g.root))) (is_kept g d ns name) (nat_le (length g.items + 1) 4096) (nat_le (g.held + (length ns + length name)) 1048576) fault j h)
judged_end g (Char b) fault j h = absurd (byte_not g g.opened b fault j h)
judged_end g (End d) fault j h = at_end g d g.opened fault refl h

-- the kind of document stays
start_root : (kept : Bool) (g : Gathering) (d : ℕ) (ns name : List ℕ) → (if kept then with_start g d ns name else g).root ≡ g.root
start_root true g d ns name = refl
start_root false g d ns name = refl

byte_root : (g : Gathering) (os : List Opened) (b : ℕ) → (with_byte g os b).root ≡ g.root
byte_root g [] b = refl
byte_root g (o ∷ os) b = refl

end_root : (g : Gathering) (os : List Opened) → (with_end g os).root ≡ g.root
end_root g [] = refl
end_root g (o ∷ []) = refl
end_root g (o ∷ p ∷ os) = refl

pub next_root : (g : Gathering) (e : Event) → (next g e).root ≡ g.root
next_root g (Start d ns name) = start_root (is_kept g d ns name) g d ns name
next_root g (Char b) = byte_root g g.opened b
next_root g (End d) = end_root g g.opened

pub after_root : (g : Gathering) (es : List Event) → (after g es).root ≡ g.root
after_root g [] = refl
after_root g (e ∷ es) = after_root (next g e) es ∙ next_root g e

-- one of some responses in a row
pub record IsAt (first : ℕ) (all : List (List Item)) (a : List Response) (r : Response) : Type 0 where
  pub before : List (List Item)
  pub back : List (List Item)
  pub split : all ≡ before ++ (r.items ∷ back)
  pub index : r.index ≡ first + length before
  pub lent : a ≡ numbered first before

pub is_at : (first : ℕ) (all : List (List Item)) (a : List Response) (r : Response) (rest : List Response) → numbered first all ≡ a ++ (r ∷ rest) → IsAt first all a r
is_at first [] [] r rest e = absurd cc
is_at first [] (y ∷ a) r rest e = absurd cc
is_at first (x ∷ xs) [] r rest e =
    let p : record { items = x; index = first } ≡ r = cc in
    record { before = []; back = xs; split = ap (λ (z : Response). z.items ∷ xs) p; index = sym (ap (λ (z : Response). z.index) p) ∙ omega arith; lent = refl }
is_at first (x ∷ xs) (y ∷ a) r rest e =
    let p : record { items = x; index = first } ≡ y = cc in
    let q : numbered (first + 1) xs ≡ a ++ (r ∷ rest) = cc in
    let m = is_at (first + 1) xs a r rest q in
    record {
      before = x ∷ m.before;
      back = m.back;
      split = ap (λ z. x ∷ z) m.split;
      index = m.index ∙ omega arith;
      lent = ap (λ z. y ∷ z) m.lent ∙ ap (λ z. z ∷ numbered (first + 1) m.before) (sym p);
    }

-- the response that has the fault
record Found_at (root : Root) (tree : Forest) (lent : List Response) (fault : WalkFault) : Type 0 where
  response : List Item
  index : ℕ
  at : IsAt 0 (responses root tree) lent (record { items = response; index = index })
  fails : response_fault root index response ≡ Some fault

found_at : (root : Root) (text t : List ℕ) (lent : List Response) (fault : WalkFault) (tree : Forest) → judges fault ≡ true → GathersTo root text lent (Fails fault) → IsDocument tree (text ++ t)
    → Found_at root tree lent fault
found_at root text t lent fault tree j h d =
    let k = gathers_first root text t lent (Fails fault) tree h d in
    let f = fell (between root 0) h.given lent fault h.walked in
    let g = after (between root 0) f.front in
    let e = judged_end g f.event fault j f.fails in
    let r : Response = record { items = e.response; index = g.index } in
    let later = f.event ∷ (f.back ++ k.0) in
    let all = gives_tree root tree _ d.spells.declared.rooted.root in
    let split : events 1 tree ≡ f.front ++ later = k.1 ∙ ap (λ z. z ++ k.0) f.split ∙ append_assoc f.front (f.event ∷ f.back) k.0 in
    let row : numbered 0 (responses root tree) ≡ lent ++ (r ∷ given (next g f.event) (f.back ++ k.0)) =
    sym all.given
    ∙ ap (given (between root 0)) split
    ∙ given-append (between root 0) f.front later
    ∙ ap (λ z. z ++ given g later) (sym f.lends)
    ∙ ap (λ z. lent ++ (z ++ given (next g f.event) (f.back ++ k.0))) e.ends in
    record {
      response = e.response;
      index = g.index;
      at = is_at 0 (responses root tree) lent r (given (next g f.event) (f.back ++ k.0)) row;
      fails = ap (λ z. response_fault z g.index e.response) (sym (after_root (between root 0) f.front)) ∙ e.fails;
    }

href_by : (href codes : Bool) (index i : ℕ) → (if href then (if codes then None else Some (faults.BadStatus index)) else Some (faults.NoHref index)) ≡ Some (faults.NoHref i)
    → (index ≡ i) × (href ≡ false)
href_by true true index i h = absurd (none_not _ h)
href_by true false index i h = let k : faults.BadStatus index ≡ faults.NoHref i = cc in absurd cc
href_by false codes index i h = let k : faults.NoHref index ≡ faults.NoHref i = cc in (cc, refl)

status_by : (href codes : Bool) (index i : ℕ) → (if href then (if codes then None else Some (faults.BadStatus index)) else Some (faults.NoHref index)) ≡ Some (faults.BadStatus i)
    → (index ≡ i) × (href ≡ true) × (codes ≡ false)
status_by true true index i h = absurd (none_not _ h)
status_by true false index i h = let k : faults.BadStatus index ≡ faults.BadStatus i = cc in (cc, refl, refl)
status_by false codes index i h = let k : faults.NoHref index ≡ faults.BadStatus i = cc in absurd cc

href_judged : (root : Root) (index i : ℕ) (xs : List Item) → response_fault root index xs ≡ Some (faults.NoHref i) → (root ≡ Multistatus) × (index ≡ i) × (has_href xs ≡ false)
href_judged Prop index i xs h = absurd (none_not _ h)
href_judged Multistatus index i xs h = let k = href_by (has_href xs) (has_codes xs) index i h in (refl, k.0, k.1)

status_judged : (root : Root) (index i : ℕ) (xs : List Item) → response_fault root index xs ≡ Some (faults.BadStatus i)
    → (root ≡ Multistatus) × (index ≡ i) × (has_href xs ≡ true) × (has_codes xs ≡ false)
status_judged Prop index i xs h = absurd (none_not _ h)
status_judged Multistatus index i xs h = let k = status_by (has_href xs) (has_codes xs) index i h in (refl, k.0, k.1, k.2)

stands_behind : (root : Root) (tree : Forest) (lent : List Response) (fault : WalkFault) (f : Found_at root tree lent fault) (index : ℕ) → root ≡ Multistatus → f.index ≡ index
    → StandsBehind root tree index lent f.response
stands_behind root tree lent fault f index m e = record {
  before = f.at.before;
  after = f.at.back;
  listing = m;
  split = f.at.split;
  place = sym e ∙ f.at.index ∙ zero-add (length f.at.before);
  first = f.at.lent;
}

pub lacks_href : (root : Root) (text t : List ℕ) (lent : List Response) (index : ℕ) (tree : Forest) → GathersTo root text lent (Fails (faults.NoHref index)) → IsDocument tree (text ++ t)
    → LacksHref root tree index lent
lacks_href root text t lent index tree h d =
    let f = found_at root text t lent (faults.NoHref index) tree refl h d in
    let k = href_judged root f.index index f.response f.fails in
    record { response = f.response; stands = stands_behind root tree lent (faults.NoHref index) f index k.0 k.1; lacks = k.2 }

pub lacks_status : (root : Root) (text t : List ℕ) (lent : List Response) (index : ℕ) (tree : Forest) → GathersTo root text lent (Fails (faults.BadStatus index)) → IsDocument tree (text ++ t)
    → LacksStatus root tree index lent
lacks_status root text t lent index tree h d =
    let f = found_at root text t lent (faults.BadStatus index) tree refl h d in
    let k = status_judged root f.index index f.response f.fails in
    record { response = f.response; stands = stands_behind root tree lent (faults.BadStatus index) f index k.0 k.1; href = k.2; lacks = k.3 }
