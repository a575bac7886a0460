-- A document whose root isn't the one that is asked for.
use Rattle.std.proofs.Common.{◌≡◌, ℕ, ◌+◌, ◌<◌, ◌⊎◌, inl, inr, Bool, true, false, List, [], ◌∷◌, ◌++◌, refl, ap, sym, subst, ◌∙◌, append_assoc, append-nil, Some, None, arith}
use Rattle.std.specs.Prelude.{◌==◌, ◌&&◌, not, nat_le, length, if◌then◌else◌}
use Rattle.dav_doc.specs.Document as document
use Rattle.dav_doc.specs.Document.{Forest, Nil, Chars, Element, Event, Start, Char, End, IsDocument, events, alone, full}
use Rattle.dav_doc.specs.Machine.{State, Begin, run}
use Rattle.dav_doc.specs.Names.{local_of}
use Rattle.dav_xml.specs.Reading.{begin}
use Rattle.dav_xml.proofs.LawLemmas.{read_first}
use Rattle.dav_xml.proofs.ReadLemmas.{reads_run}
use Rattle.dav_text.specs.declared.which.Which.TheVariants.{Nodes, Held}
use Rattle.dav_walk.specs.declared.root.Root.{Root}
use Rattle.dav_walk.specs.declared.root.Root.TheVariants.{Multistatus, Prop}
use Rattle.dav_walk.specs.declared.fault.WalkFault.{WalkFault}
use Rattle.dav_walk.specs.declared.fault.WalkFault.TheVariants as faults
use Rattle.dav_walk.specs.Tree.{Item, is_dav}
use Rattle.dav_walk.specs.Lending.{Response}
use Rattle.dav_walk.specs.Reading.{has_href, has_codes}
use Rattle.dav_walk.specs.Gathering.{Gathering, Opened, Walked, Goes, Fails, between, root_name, is_kept, with_text, owed_after, next, fault_of, count_fault, byte_fault, end_fault, response_fault, walk_by, walk}
use Rattle.dav_walk.specs.Whole.{after, given}
use Rattle.dav_walk.specs.Walking.{GathersTo}
use Rattle.dav_walk.specs.WalkerView.{Walking, HasWalked}
use Rattle.dav_walk.specs.SoFar.{HasOtherRoot}
use Rattle.dav_walk.proofs.PropsLemmas.{differs}
use Rattle.dav_walk.proofs.SoFarLemmas.{fell, gathers_first, after_root}

-- a document is one element
record OneRoot (tree : Forest) : Type 0 where
  ns : List ℕ
  name : List ℕ
  inside : Forest
  is : tree ≡ Element ns name inside Nil

one_root : (tree : Forest) (s : List ℕ) → document.Root tree s → OneRoot tree
one_root tree s (alone t w ns a b c) = record { ns = ns; name = local_of t.name; inside = Nil; is = refl }
one_root tree s (full {inside = inside} t w v ns a b c d e) = record { ns = ns; name = local_of t.name; inside = inside; is = refl }

-- no element at depth 1 begins
abbrev IsBelow : List Event → Type 0
IsBelow [] = Unit {0}
IsBelow (Start d ns name ∷ es) = ((d == 1) ≡ false) × IsBelow es
IsBelow (Char b ∷ es) = IsBelow es
IsBelow (End d ∷ es) = IsBelow es

below_append : (es later : List Event) → IsBelow es → IsBelow later → IsBelow (es ++ later)
below_append [] later h k = k
below_append (Start d ns name ∷ es) later h k = (h.0, below_append es later h.1 k)
below_append (Char b ∷ es) later h k = below_append es later h k
below_append (End d ∷ es) later h k = below_append es later h k

below_back : (es later : List Event) → IsBelow (es ++ later) → IsBelow later
below_back [] later h = h
below_back (Start d ns name ∷ es) later h = below_back es later h.1
below_back (Char b ∷ es) later h = below_back es later h
below_back (End d ∷ es) later h = below_back es later h

below_tree : (d : ℕ) (f : Forest) → 1 < d → IsBelow (events d f)
below_tree d Nil h = tt
below_tree d (Chars b f) h = below_tree d f h
below_tree d (Element ns name inside f) h = (
  differs d 1 h,
  below_append (events (d + 1) inside ++ (End d ∷ [])) (events d f)
      (below_append (events (d + 1) inside) (End d ∷ []) (below_tree (d + 1) inside (omega arith)) tt) (below_tree d f h),
)

-- the events of a document behind its first
abbrev behind_root : Forest → List Event
behind_root inside = (events 2 inside ++ (End 1 ∷ [])) ++ []

below_root : (inside : Forest) → IsBelow (behind_root inside)
below_root inside = below_append (events 2 inside ++ (End 1 ∷ [])) [] (below_append (events 2 inside) (End 1 ∷ []) (below_tree 2 inside (omega arith)) tt) tt

-- the start of an element at depth 1 with another name
record IsWrong (g : Gathering) (e : Event) : Type 0 where
  depth : ℕ
  ns : List ℕ
  name : List ℕ
  is : e ≡ Start depth ns name
  first : (depth == 1) ≡ true
  other : is_dav ns name (root_name g.root) ≡ false

none_wrong : None ≡ Some faults.WrongRoot → ⊥
none_wrong h = cc

held_wrong : (fits : Bool) → (if fits then None else Some (faults.Limit Held)) ≡ Some faults.WrongRoot → ⊥
held_wrong true h = none_wrong h
held_wrong false h = let k : Some (faults.Limit Held) ≡ Some faults.WrongRoot = h in cc

count_wrong : (few fits : Bool) → (if few then (if fits then None else Some (faults.Limit Held)) else Some (faults.Limit Nodes)) ≡ Some faults.WrongRoot → ⊥
count_wrong true fits h = held_wrong fits h
count_wrong false fits h = let k : Some (faults.Limit Nodes) ≡ Some faults.WrongRoot = h in cc

start_wrong : (first same kept few fits : Bool)
    → (if first && not same then Some faults.WrongRoot else (if kept then (if few then (if fits then None else Some (faults.Limit Held)) else Some (faults.Limit Nodes)) else None)) ≡ Some faults.WrongRoot
    → (first ≡ true) × (same ≡ false)
start_wrong true false kept few fits h = (refl, refl)
start_wrong true true true few fits h = absurd (count_wrong few fits h)
start_wrong true true false few fits h = absurd (none_wrong h)
start_wrong false same true few fits h = absurd (count_wrong few fits h)
start_wrong false same false few fits h = absurd (none_wrong h)

whole_wrong : (whole fits : Bool) → (if whole then (if fits then None else Some (faults.Limit Held)) else None) ≡ Some faults.WrongRoot → ⊥
whole_wrong true fits h = held_wrong fits h
whole_wrong false fits h = none_wrong h

byte_wrong : (g : Gathering) (os : List Opened) (b : ℕ) → byte_fault g os b ≡ Some faults.WrongRoot → ⊥
byte_wrong g [] b h = none_wrong h
byte_wrong g (o ∷ os) b h = whole_wrong (owed_after g.owed b == 0) (nat_le (g.held + 1) 1048576) h

status_wrong : (href fine : Bool) (index : ℕ) → (if href then (if fine then None else Some (faults.BadStatus index)) else Some (faults.NoHref index)) ≡ Some faults.WrongRoot → ⊥
status_wrong true true index h = none_wrong h
status_wrong true false index h = let k : Some (faults.BadStatus index) ≡ Some faults.WrongRoot = h in cc
status_wrong false fine index h = let k : Some (faults.NoHref index) ≡ Some faults.WrongRoot = h in cc

judged_wrong : (root : Root) (index : ℕ) (xs : List Item) → response_fault root index xs ≡ Some faults.WrongRoot → ⊥
judged_wrong Prop index xs h = none_wrong h
judged_wrong Multistatus index xs h = status_wrong (has_href xs) (has_codes xs) index h

end_wrong : (g : Gathering) (os : List Opened) → end_fault g os ≡ Some faults.WrongRoot → ⊥
end_wrong g [] h = none_wrong h
end_wrong g (o ∷ []) h = judged_wrong g.root g.index (with_text o.place o.text g.items) h
end_wrong g (o ∷ p ∷ os) h = none_wrong h

is_wrong : (g : Gathering) (e : Event) → fault_of g e ≡ Some faults.WrongRoot → IsWrong g e
is_wrong g (Start d ns name) h =
    let k = start_wrong (d == 1) (is_dav ns name (root_name g.root)) (is_kept g d ns name) (nat_le (length g.items + 1) 4096) (nat_le (g.held + (length ns + length name)) 1048576) h in
    record { depth = d; ns = ns; name = name; is = refl; first = k.0; other = k.1 }
is_wrong g (Char b) h = absurd (byte_wrong g g.opened b h)
is_wrong g (End d) h = absurd (end_wrong g g.opened h)

-- it is the first event of a document
record IsFirst (front : List Event) (ns name ms other : List ℕ) : Type 0 where
  none : front ≡ []
  space : ns ≡ ms
  same : name ≡ other

is_first : (front back es : List Event) (d : ℕ) (ns name ms other : List ℕ) → IsBelow es → (d == 1) ≡ true → Start 1 ns name ∷ es ≡ front ++ (Start d ms other ∷ back)
    → IsFirst front ns name ms other
is_first [] back es d ns name ms other b one e = record { none = refl; space = cc; same = cc }
is_first (x ∷ front) back es d ns name ms other b one e =
    let k : es ≡ front ++ (Start d ms other ∷ back) = cc in
    let n : IsBelow (Start d ms other ∷ back) = below_back front (Start d ms other ∷ back) (subst (λ (z : List Event). IsBelow z) k b) in
    let c : true ≡ false = sym one ∙ n.0 in
    absurd cc

pub wrong_root : (root : Root) (text t : List ℕ) (lent : List Response) (tree : Forest) → GathersTo root text lent (Fails faults.WrongRoot) → IsDocument tree (text ++ t)
    → HasOtherRoot root tree × (lent ≡ [])
wrong_root root text t lent tree h d =
    let start = between root 0 in
    let k = gathers_first root text t lent (Fails faults.WrongRoot) tree h d in
    let f = fell start h.given lent faults.WrongRoot h.walked in
    let w = is_wrong (after start f.front) f.event f.fails in
    let o = one_root tree _ d.spells.declared.rooted.root in
    let split : Start 1 o.ns o.name ∷ behind_root o.inside ≡ f.front ++ (Start w.depth w.ns w.name ∷ (f.back ++ k.0)) =
    ap (events 1) (sym o.is) ∙ k.1 ∙ ap (λ z. z ++ k.0) f.split ∙ append_assoc f.front (f.event ∷ f.back) k.0
    ∙ ap (λ e. f.front ++ (e ∷ (f.back ++ k.0))) w.is in
    let i = is_first f.front (f.back ++ k.0) (behind_root o.inside) w.depth o.ns o.name w.ns w.name (below_root o.inside) w.first split in (
      record {
        ns = o.ns;
        name = o.name;
        inside = o.inside;
        is = o.is;
        other =
            ap (λ z. is_dav z o.name (root_name root)) i.space
            ∙ ap (λ z. is_dav w.ns z (root_name root)) i.same
            ∙ ap (λ r. is_dav w.ns w.name (root_name r)) (sym (after_root start f.front))
            ∙ w.other;
      },
      f.lends ∙ ap (given start) i.none,
    )

-- the first event of a document with another root
falls : (root : Root) (ns name : List ℕ) (es : List Event) → is_dav ns name (root_name root) ≡ false
    → walk (between root 0) (Start 1 ns name ∷ es) ≡ record { ended = []; outcome = Fails faults.WrongRoot }
falls root ns name es h =
    ap
    (λ (same : Bool). walk_by (if not same then Some faults.WrongRoot else (if is_kept (between root 0) 1 ns name then count_fault 1 (0 + (length ns + length name)) else None)) []
    (walk (next (between root 0) (Start 1 ns name)) es))
    h

-- of its events no front but the empty one is walked
abbrev Falls : Walked → Type 0
Falls w = w ≡ record { ended = []; outcome = Fails faults.WrongRoot }

front_falls : (root : Root) (tree : Forest) (es later : List Event) → HasOtherRoot root tree → events 1 tree ≡ es ++ later → (es ≡ []) ⊎ Falls (walk (between root 0) es)
front_falls root tree [] later o e = inl refl
front_falls root tree (x ∷ es) later o e =
    let split : Start 1 o.ns o.name ∷ behind_root o.inside ≡ x ∷ (es ++ later) = ap (events 1) (sym o.is) ∙ e in
    let first : Start 1 o.ns o.name ≡ x = cc in
    inr (ap (λ z. walk (between root 0) (z ∷ es)) (sym first) ∙ falls root o.ns o.name es o.other)

goes_fails : (g : Gathering) (fault : WalkFault) → Goes g ≡ Fails fault → ⊥
goes_fails g fault h = cc

same_fault : (a b : WalkFault) → Fails a ≡ Fails b → b ≡ a
same_fault a b h = cc

by_front : (root : Root) (es : List Event) (lent : List Response) (fault : WalkFault) → walk (between root 0) es ≡ record { ended = lent; outcome = Fails fault }
    → (es ≡ []) ⊎ Falls (walk (between root 0) es) → fault ≡ faults.WrongRoot
by_front root es lent fault w (inl e) =
    absurd (goes_fails (between root 0) fault (ap (λ (v : Walked). v.outcome) (ap (walk (between root 0)) (sym e) ∙ w)))
by_front root es lent fault w (inr e) = same_fault faults.WrongRoot fault (ap (λ (v : Walked). v.outcome) (sym e ∙ w))

pub only_wrong_root : (root : Root) (text t : List ℕ) (lent : List Response) (fault : WalkFault) (tree : Forest) → GathersTo root text lent (Fails fault) → IsDocument tree (text ++ t)
    → HasOtherRoot root tree → fault ≡ faults.WrongRoot
only_wrong_root root text t lent fault tree h d o =
    let k = gathers_first root text t lent (Fails fault) tree h d in
    by_front root h.given lent fault h.walked (front_falls root tree h.given k.0 o k.1)

none_given : (root : Root) (g : Gathering) (es : List Event) (lent : List Response) → walk (between root 0) es ≡ record { ended = lent; outcome = Goes g }
    → (es ≡ []) ⊎ Falls (walk (between root 0) es) → es ≡ []
none_given root g es lent w (inl e) = e
none_given root g es lent w (inr e) = absurd (goes_fails g faults.WrongRoot (ap (λ (v : Walked). v.outcome) (sym w ∙ e)))

pub waits_for_root : (w : Walking) (text t : List ℕ) (lent : List Response) (tree : Forest) → HasWalked w text lent → IsDocument tree (text ++ t) → HasOtherRoot w.root tree
    → (st : State) × (run text Begin ≡ Some (record { state = st; events = [] }))
waits_for_root w text t lent tree h d o =
    let s = h.stands in
    let k = read_first w.scan text t s.given tree s.read d in
    let n = none_given w.root w.gathered s.given lent s.walked (front_falls w.root tree s.given k.0 o k.1) in
    let r = reads_run text begin _ s.read.read in (
      s.read.state,
      r.run ∙ ap (λ z. Some (record { state = s.read.state; events = z })) (ap (λ z. s.given ++ z) s.quiet ∙ append-nil s.given ∙ n),
    )
