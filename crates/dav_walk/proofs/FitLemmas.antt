-- What a walk without a fault has lent fits.
use Rattle.std.proofs.Common.{◌≡◌, ℕ, ◌+◌, ◌≤◌, Bool, true, false, List, [], ◌∷◌, ◌++◌, length, length-append, refl, ap, sym, subst, Option, Some, None, arith}
use Rattle.std.specs.Prelude.{◌==◌, ◌&&◌, not, nat_le, if◌then◌else◌}
use Rattle.std.proofs.lemmas.Bool.{leb-true}
use Rattle.dav_doc.specs.Document.{Event, Start, Char, End}
use Rattle.dav_text.specs.declared.which.Which.TheVariants.{Nodes}
use Rattle.dav_walk.specs.declared.root.Root.{Root}
use Rattle.dav_walk.specs.declared.root.Root.TheVariants.{Multistatus, Prop}
use Rattle.dav_walk.specs.declared.fault.WalkFault.{WalkFault}
use Rattle.dav_walk.specs.declared.fault.WalkFault.TheVariants as faults
use Rattle.dav_walk.specs.Tree.{Item, is_dav}
use Rattle.dav_walk.specs.Lending.{Response}
use Rattle.dav_walk.specs.Reading.{has_href, has_codes}
use Rattle.dav_walk.specs.Gathering.{Gathering, Opened, Goes, Fails, Walked, between, root_name, is_kept, with_start, with_byte, with_text, with_end, next, ended, ended_by, fault_of, end_fault, response_fault, held_fault, walk_by, walk}
use Rattle.dav_walk.specs.WalkerView.{Walking, HasWalked}
use Rattle.dav_walk.specs.SoFar.{Fits, AllFit}
use Rattle.dav_walk.proofs.LimitLemmas.{length_with_text}
use Rattle.dav_walk.proofs.SoFarLemmas.{next_root}

-- the walk goes on, and what ends with the event comes first
record Passes (fault : Option WalkFault) (here : List Response) (later : Walked) (g : Gathering) : Type 0 where
  none : fault ≡ None
  goes : later.outcome ≡ Goes g

passes : (fault : Option WalkFault) (here : List Response) (later : Walked) (g : Gathering) → (walk_by fault here later).outcome ≡ Goes g → Passes fault here later g
passes (Some fault) here later g h = let k : Fails fault ≡ Goes g = h in absurd cc
passes None here later g h = record { none = refl; goes = h }

some_none : (fault : WalkFault) → Some fault ≡ None → ⊥
some_none fault h = cc

-- an event without a fault leaves at most 4,096 elements
start_few : (wrong kept few : Bool) (held : Option WalkFault) → (if wrong then Some faults.WrongRoot else (if kept then (if few then held else Some (faults.Limit Nodes)) else None)) ≡ None
    → kept ≡ true → few ≡ true
start_few true kept few held h k = absurd (some_none faults.WrongRoot h)
start_few false true true held h k = refl
start_few false true false held h k = absurd (some_none (faults.Limit Nodes) h)
start_few false false few held h k = absurd cc

started_few : (g : Gathering) (d : ℕ) (ns name : List ℕ) (kept : Bool) → length g.items ≤ 4096 → (kept ≡ true → nat_le (length g.items + 1) 4096 ≡ true)
    → length (if kept then with_start g d ns name else g).items ≤ 4096
started_few g d ns name true n f =
    let m = leb-true (length g.items + 1) 4096 (f refl) in
    omega (arith, m, length-append g.items (record { depth = d; ns = ns; name = name; text = [] } ∷ []))
started_few g d ns name false n f = n

byte_few : (g : Gathering) (os : List Opened) (b : ℕ) → length g.items ≤ 4096 → length (with_byte g os b).items ≤ 4096
byte_few g [] b n = n
byte_few g (o ∷ os) b n = n

end_few : (g : Gathering) (os : List Opened) → length g.items ≤ 4096 → length (with_end g os).items ≤ 4096
end_few g [] n = n
end_few g (o ∷ []) n = omega arith
end_few g (o ∷ p ∷ os) n = omega (arith, n, length_with_text o.place o.text g.items)

next_few : (g : Gathering) (e : Event) → length g.items ≤ 4096 → fault_of g e ≡ None → length (next g e).items ≤ 4096
next_few g (Start d ns name) n h =
    started_few g d ns name (is_kept g d ns name) n
    (start_few ((d == 1) && not (is_dav ns name (root_name g.root))) (is_kept g d ns name) (nat_le (length g.items + 1) 4096) (held_fault (g.held + (length ns + length name))) h)
next_few g (Char b) n h = byte_few g g.opened b n
next_few g (End d) n h = end_few g g.opened n

-- a response that ends without a fault
judged : (href codes : Bool) (index : ℕ) → (if href then (if codes then None else Some (faults.BadStatus index)) else Some (faults.NoHref index)) ≡ None → (href ≡ true) × (codes ≡ true)
judged true true index h = (refl, refl)
judged true false index h = absurd (some_none (faults.BadStatus index) h)
judged false codes index h = absurd (some_none (faults.NoHref index) h)

prop_not : Prop ≡ Multistatus → ⊥
prop_not h = cc

response_fits : (root : Root) (index : ℕ) (xs : List Item) → length xs ≤ 4096 → response_fault root index xs ≡ None → Fits root xs
response_fits Prop index xs n h = record { few = n; href = λ m. absurd (prop_not m); codes = λ m. absurd (prop_not m) }
response_fits Multistatus index xs n h = let k = judged (has_href xs) (has_codes xs) index h in record { few = n; href = λ m. k.0; codes = λ m. k.1 }

end_fits : (g : Gathering) (os : List Opened) → length g.items ≤ 4096 → end_fault g os ≡ None → AllFit g.root (ended_by g os)
end_fits g [] n h = tt
end_fits g (o ∷ []) n h =
    (response_fits g.root g.index (with_text o.place o.text g.items) (omega (arith, n, length_with_text o.place o.text g.items)) h, tt)
end_fits g (o ∷ p ∷ os) n h = tt

event_fits : (g : Gathering) (e : Event) → length g.items ≤ 4096 → fault_of g e ≡ None → AllFit g.root (ended g e)
event_fits g (Start d ns name) n h = tt
event_fits g (Char b) n h = tt
event_fits g (End d) n h = end_fits g g.opened n h

all_fit_append : (root : Root) (xs ys : List Response) → AllFit root xs → AllFit root ys → AllFit root (xs ++ ys)
all_fit_append root [] ys h k = k
all_fit_append root (x ∷ xs) ys h k = (h.0, all_fit_append root xs ys h.1 k)

-- one event, and the rest
one_fits : (g h : Gathering) (here : List Response) (fault : Option WalkFault) (later : Walked) → fault ≡ None → AllFit g.root here → AllFit g.root later.ended
    → AllFit g.root (walk_by fault here later).ended
one_fits g h here fault later n a b =
    let P : Option WalkFault → Type 0 = λ f. AllFit g.root (walk_by f here later).ended in
    subst P (sym n) (all_fit_append g.root here later.ended a b)

all_fit : (g h : Gathering) (es : List Event) → length g.items ≤ 4096 → (walk g es).outcome ≡ Goes h → AllFit g.root (walk g es).ended
all_fit g h [] n w = tt
all_fit g h (e ∷ es) n w =
    let k = passes (fault_of g e) (ended g e) (walk (next g e) es) h w in
    let P : Root → Type 0 = λ r. AllFit r (walk (next g e) es).ended in
    one_fits g h (ended g e) (fault_of g e) (walk (next g e) es) k.none (event_fits g e n k.none)
    (subst P (next_root g e) (all_fit (next g e) h es (next_few g e n k.none) k.goes))

pub lent_fit : (w : Walking) (text : List ℕ) (lent : List Response) → HasWalked w text lent → AllFit w.root lent
lent_fit w text lent h =
    let s = h.stands in
    let P : List Response → Type 0 = λ z. AllFit w.root z in
    subst P (ap (λ (v : Walked). v.ended) s.walked) (all_fit (between w.root 0) w.gathered s.given (omega arith) (ap (λ (v : Walked). v.outcome) s.walked))
