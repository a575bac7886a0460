-- A response that passes a limit while it comes, and the same response of the whole document.
use Rattle.std.proofs.Common.{◌≡◌, ℕ, zero, suc, ◌+◌, ◌<◌, ◌≤◌, ◌⊎◌, inl, inr, Bool, true, false, List, [], ◌∷◌, ◌++◌, length, length-append, refl, ap, sym, ◌∙◌, append_assoc, Some, None, arith}
use Rattle.std.specs.Prelude.{◌==◌, ◌&&◌, not, map, nat_le, if◌then◌else◌}
use Rattle.std.proofs.lemmas.Bool.{leb-false}
use Rattle.dav_doc.specs.Document.{Forest, Event, Start, Char, End, IsDocument, events}
use Rattle.dav_text.specs.declared.which.Which.{Which}
use Rattle.dav_text.specs.declared.which.Which.TheVariants.{Nodes, Held}
use Rattle.dav_walk.specs.declared.root.Root.{Root}
use Rattle.dav_walk.specs.declared.root.Root.TheVariants.{Multistatus, Prop}
use Rattle.dav_walk.specs.declared.fault.WalkFault.TheVariants as faults
use Rattle.dav_walk.specs.Tree.{Item, is_dav, weight, responses}
use Rattle.dav_walk.specs.Lending.{Response}
use Rattle.dav_walk.specs.Reading.{has_href, has_codes}
use Rattle.dav_walk.specs.Gathering.{Gathering, Opened, Fails, between, is_open, root_name, is_kept, with_start, with_byte, with_text, next, ended, owed_after, fault_of, byte_fault, end_fault, response_fault}
use Rattle.dav_walk.specs.Whole.{after, given, numbered}
use Rattle.dav_walk.specs.Walking.{GathersTo}
use Rattle.dav_walk.specs.SoFar.{Exceeds, HasLarge}
use Rattle.dav_walk.proofs.TreeLemmas.{within, after-append, given-append}
use Rattle.dav_walk.proofs.WeightLemmas.{held_at, helds, helds-append, as_many}
use Rattle.dav_walk.proofs.WalkerLemmas.{gives_tree}
use Rattle.dav_walk.proofs.SoFarLemmas.{fell, gathers_first, is_at}

pub length_with_text : (place : ℕ) (text : List ℕ) (xs : List Item) → length (with_text place text xs) ≡ length xs
length_with_text place text [] = refl
length_with_text zero text (x ∷ xs) = refl
length_with_text (suc place) text (x ∷ xs) = ap suc (length_with_text place text xs)

-- the response that is open ends with these events, has at least its elements so far, and holds at least its bytes so far
record Ripens (g : Gathering) (es : List Event) : Type 0 where
  items : List Item
  rest : List Response
  holds : ℕ
  more : List ℕ
  given : given g es ≡ record { items = items; index = g.index } ∷ rest
  helds : helds g es ≡ holds ∷ more
  long : length g.items ≤ length items
  heavy : g.held ≤ holds

never : true ≡ false → ⊥
never e = cc

not_open : false ≡ true → ⊥
not_open e = cc

ripens : (root : Root) (index : ℕ) (xs : List Item) (os : List Opened) (held owed : ℕ) (es : List Event)
    → is_open os ≡ true → is_open (after (within root index xs os held owed) es).opened ≡ false → Ripens (within root index xs os held owed) es
ripens root index xs [] held owed es h e = absurd (not_open h)
ripens root index xs (o ∷ os) held owed [] h e = absurd (never e)
ripens root index xs (o ∷ os) held owed (Start d ns name ∷ es) h e =
    let x : Item = record { depth = d; ns = ns; name = name; text = [] } in
    let k = ripens root index (xs ++ (x ∷ [])) (record { place = length xs; text = [] } ∷ o ∷ os) (held + (length ns + length name)) owed es refl e in
    record {
      items = k.items;
      rest = k.rest;
      holds = k.holds;
      more = k.more;
      given = k.given;
      helds = k.helds;
      long = (let p = k.long in omega (arith, p, length-append xs (x ∷ [])));
      heavy = (let p = k.heavy in omega (arith, p));
    }
ripens root index xs (o ∷ os) held owed (Char b ∷ es) h e =
    let k = ripens root index xs (record { place = o.place; text = o.text ++ (b ∷ []) } ∷ os) (held + 1) (owed_after owed b) es refl e in
    record {
      items = k.items;
      rest = k.rest;
      holds = k.holds;
      more = k.more;
      given = k.given;
      helds = k.helds;
      long = k.long;
      heavy = (let p = k.heavy in omega (arith, p));
    }
ripens root index xs (o ∷ []) held owed (End d ∷ es) h e = record {
  items = with_text o.place o.text xs;
  rest = given (between root (index + 1)) es;
  holds = held;
  more = helds (between root (index + 1)) es;
  given = refl;
  helds = refl;
  long = omega (arith, length_with_text o.place o.text xs);
  heavy = omega arith;
}
ripens root index xs (o ∷ p ∷ os) held owed (End d ∷ es) h e =
    let k = ripens root index (with_text o.place o.text xs) (p ∷ os) held owed es refl e in
    record {
      items = k.items;
      rest = k.rest;
      holds = k.holds;
      more = k.more;
      given = k.given;
      helds = k.helds;
      long = (let q = k.long in omega (arith, q, length_with_text o.place o.text xs));
      heavy = k.heavy;
    }

-- the gathered response passes the limit
abbrev pub IsOver : Which → Gathering → Type 0
IsOver which g = ((which ≡ Nodes) × (4096 < length g.items)) ⊎ ((which ≡ Held) × (1048576 < g.held))

-- with an event that ends no response, an open one passes the limit
pub record PassesAt (g : Gathering) (e : Event) (which : Which) : Type 0 where
  pub new : Gathering
  pub is : next g e ≡ new
  pub kept : is_open new.opened ≡ true
  pub over : IsOver which new
  pub none : ended g e ≡ []
  pub light : held_at g e ≡ []

none_limit : (which : Which) → None ≡ Some (faults.Limit which) → ⊥
none_limit which h = cc

held_limit : (fits : Bool) (which : Which) → (if fits then None else Some (faults.Limit Held)) ≡ Some (faults.Limit which) → (fits ≡ false) × (which ≡ Held)
held_limit true which h = absurd (none_limit which h)
held_limit false which h = let k : Some (faults.Limit Held) ≡ Some (faults.Limit which) = h in (refl, cc)

count_limit : (few fits : Bool) (which : Which) → (if few then (if fits then None else Some (faults.Limit Held)) else Some (faults.Limit Nodes)) ≡ Some (faults.Limit which)
    → ((few ≡ false) × (which ≡ Nodes)) ⊎ ((fits ≡ false) × (which ≡ Held))
count_limit true fits which h = inr (held_limit fits which h)
count_limit false fits which h = let k : Some (faults.Limit Nodes) ≡ Some (faults.Limit which) = h in inl (refl, cc)

start_limit : (wrong kept few fits : Bool) (which : Which)
    → (if wrong then Some faults.WrongRoot else (if kept then (if few then (if fits then None else Some (faults.Limit Held)) else Some (faults.Limit Nodes)) else None)) ≡ Some (faults.Limit which)
    → (kept ≡ true) × (((few ≡ false) × (which ≡ Nodes)) ⊎ ((fits ≡ false) × (which ≡ Held)))
start_limit true kept few fits which h = let k : Some faults.WrongRoot ≡ Some (faults.Limit which) = h in absurd cc
start_limit false true few fits which h = (refl, count_limit few fits which h)
start_limit false false few fits which h = absurd (none_limit which h)

start_over : (g : Gathering) (d : ℕ) (ns name : List ℕ) (which : Which)
    → ((nat_le (length g.items + 1) 4096 ≡ false) × (which ≡ Nodes)) ⊎ ((nat_le (g.held + (length ns + length name)) 1048576 ≡ false) × (which ≡ Held))
    → IsOver which (with_start g d ns name)
start_over g d ns name which (inl k) =
    let n = leb-false (length g.items + 1) 4096 k.0 in
    inl (k.1, omega (arith, n, length-append g.items (record { depth = d; ns = ns; name = name; text = [] } ∷ [])))
start_over g d ns name which (inr k) = inr (k.1, leb-false (g.held + (length ns + length name)) 1048576 k.0)

start_passes : (g : Gathering) (d : ℕ) (ns name : List ℕ) (which : Which) → fault_of g (Start d ns name) ≡ Some (faults.Limit which) → PassesAt g (Start d ns name) which
start_passes g d ns name which h =
    let k = start_limit ((d == 1) && not (is_dav ns name (root_name g.root))) (is_kept g d ns name) (nat_le (length g.items + 1) 4096) (nat_le (g.held + (length ns + length name)) 1048576) which h in
    record {
      new = with_start g d ns name;
      is = ap (λ (t : Bool). if t then with_start g d ns name else g) k.0;
      kept = refl;
      over = start_over g d ns name which k.1;
      none = refl;
      light = refl;
    }

whole_limit : (whole fits : Bool) (which : Which) → (if whole then (if fits then None else Some (faults.Limit Held)) else None) ≡ Some (faults.Limit which) → (fits ≡ false) × (which ≡ Held)
whole_limit true fits which h = held_limit fits which h
whole_limit false fits which h = absurd (none_limit which h)

byte_passes : (g : Gathering) (os : List Opened) (b : ℕ) (which : Which) → g.opened ≡ os → byte_fault g os b ≡ Some (faults.Limit which) → PassesAt g (Char b) which
byte_passes g [] b which e h = absurd (none_limit which h)
byte_passes g (o ∷ os) b which e h =
    let k = whole_limit (owed_after g.owed b == 0) (nat_le (g.held + 1) 1048576) which h in
    record {
      new = with_byte g (o ∷ os) b;
      is = ap (λ z. with_byte g z b) e;
      kept = refl;
      over = inr (k.1, leb-false (g.held + 1) 1048576 k.0);
      none = refl;
      light = refl;
    }

status_limit : (href fine : Bool) (index : ℕ) (which : Which)
    → (if href then (if fine then None else Some (faults.BadStatus index)) else Some (faults.NoHref index)) ≡ Some (faults.Limit which) → ⊥
status_limit true true index which h = none_limit which h
status_limit true false index which h = let k : Some (faults.BadStatus index) ≡ Some (faults.Limit which) = h in cc
status_limit false fine index which h = let k : Some (faults.NoHref index) ≡ Some (faults.Limit which) = h in cc

judged_limit : (root : Root) (index : ℕ) (xs : List Item) (which : Which) → response_fault root index xs ≡ Some (faults.Limit which) → ⊥
judged_limit Prop index xs which h = none_limit which h
judged_limit Multistatus index xs which h = status_limit (has_href xs) (has_codes xs) index which h

end_limit : (g : Gathering) (os : List Opened) (which : Which) → end_fault g os ≡ Some (faults.Limit which) → ⊥
end_limit g [] which h = none_limit which h
end_limit g (o ∷ []) which h = judged_limit g.root g.index (with_text o.place o.text g.items) which h
end_limit g (o ∷ p ∷ os) which h = none_limit which h

pub passes_at : (g : Gathering) (e : Event) (which : Which) → fault_of g e ≡ Some (faults.Limit which) → PassesAt g e which
passes_at g (Start d ns name) which h = start_passes g d ns name which h
passes_at g (Char b) which h = byte_passes g g.opened b which refl h
passes_at g (End d) which h = absurd (end_limit g g.opened which h)

-- two lists that meet behind fronts of one length
heads_meet : (a b : List ℕ) (x y : ℕ) (p q : List ℕ) → length a ≡ length b → a ++ (x ∷ p) ≡ b ++ (y ∷ q) → x ≡ y
heads_meet [] [] x y p q n e = cc
heads_meet [] (c ∷ b) x y p q n e = absurd (omega (arith, n))
heads_meet (c ∷ a) [] x y p q n e = absurd (omega (arith, n))
heads_meet (c ∷ a) (k ∷ b) x y p q n e = heads_meet a b x y p q (omega (arith, n)) cc

length_numbered : (index : ℕ) (xs : List (List Item)) → length (numbered index xs) ≡ length xs
length_numbered index [] = refl
length_numbered index (x ∷ xs) = ap suc (length_numbered (index + 1) xs)

length_weights : (xs : List (List Item)) → length (map weight xs) ≡ length xs
length_weights [] = refl
length_weights (x ∷ xs) = ap suc (length_weights xs)

weights_split : (xs ys : List (List Item)) → map weight (xs ++ ys) ≡ map weight xs ++ map weight ys
weights_split [] ys = refl
weights_split (x ∷ xs) ys = ap (λ z. weight x ∷ z) (weights_split xs ys)

-- what is gathered so far is no more than the whole response
exceeds : (which : Which) (g : Gathering) (response : List Item) → IsOver which g → length g.items ≤ length response → g.held ≤ weight response → Exceeds which response
exceeds which g response (inl h) n m = let k = h.1 in inl (h.0, omega (arith, k, n))
exceeds which g response (inr h) n m = let k = h.1 in inr (h.0, omega (arith, k, m))

pub has_large : (root : Root) (text t : List ℕ) (lent : List Response) (which : Which) (tree : Forest) → GathersTo root text lent (Fails (faults.Limit which)) → IsDocument tree (text ++ t)
    → HasLarge root tree lent which
has_large root text t lent which tree h d =
    let start = between root 0 in
    let k = gathers_first root text t lent (Fails (faults.Limit which)) tree h d in
    let f = fell start h.given lent (faults.Limit which) h.walked in
    let g = after start f.front in
    let p = passes_at g f.event which f.fails in
    let later = f.back ++ k.0 in
    let all = gives_tree root tree _ d.spells.declared.rooted.root in
    let split : events 1 tree ≡ f.front ++ (f.event ∷ later) = k.1 ∙ ap (λ z. z ++ k.0) f.split ∙ append_assoc f.front (f.event ∷ f.back) k.0 in
    let closed : after p.new later ≡ between root (0 + length (responses root tree)) =
    ap (λ z. after z later) (sym p.is) ∙ sym (after-append start f.front (f.event ∷ later)) ∙ ap (after start) (sym split) ∙ all.leads in
    let u = ripens p.new.root p.new.index p.new.items p.new.opened p.new.held p.new.owed later p.kept (ap (λ (z : Gathering). is_open z.opened) closed) in
    let r : Response = record { items = u.items; index = p.new.index } in
    let row : numbered 0 (responses root tree) ≡ lent ++ (r ∷ u.rest) =
    sym all.given
    ∙ ap (given start) split
    ∙ given-append start f.front (f.event ∷ later)
    ∙ ap (λ z. z ++ given g (f.event ∷ later)) (sym f.lends)
    ∙ ap (λ z. lent ++ (z ++ given (next g f.event) later)) p.none
    ∙ ap (λ z. lent ++ given z later) p.is
    ∙ ap (λ z. lent ++ z) u.given in
    let at = is_at 0 (responses root tree) lent r u.rest row in
    let weights : map weight at.before ++ (weight u.items ∷ map weight at.back) ≡ helds start f.front ++ (u.holds ∷ u.more) =
    sym (weights_split at.before (u.items ∷ at.back))
    ∙ ap (map weight) (sym at.split)
    ∙ sym all.heavy
    ∙ ap (helds start) split
    ∙ helds-append start f.front (f.event ∷ later)
    ∙ ap (λ z. helds start f.front ++ (z ++ helds (next g f.event) later)) p.light
    ∙ ap (λ z. helds start f.front ++ helds z later) p.is
    ∙ ap (λ z. helds start f.front ++ z) u.helds in
    let many : length (map weight at.before) ≡ length (helds start f.front) =
    length_weights at.before ∙ sym (length_numbered 0 at.before) ∙ ap length (sym at.lent) ∙ ap length f.lends ∙ sym (as_many start f.front) in
    let same : weight u.items ≡ u.holds = heads_meet (map weight at.before) (helds start f.front) (weight u.items) u.holds (map weight at.back) u.more many weights in
    record {
      response = u.items;
      before = at.before;
      after = at.back;
      split = at.split;
      first = at.lent;
      large = exceeds which p.new u.items p.over u.long (let q = u.heavy in omega (arith, q, same));
    }
