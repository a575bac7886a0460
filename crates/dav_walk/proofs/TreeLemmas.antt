-- The events of a tree give its responses.
use Rattle.std.proofs.Common.{◌≡◌, ℕ, ◌+◌, ◌<◌, Bool, true, false, List, [], ◌∷◌, ◌++◌, refl, ap, sym, ◌∙◌, length, append_assoc, append-nil, subst, arith}
use Rattle.std.specs.Prelude.{◌&&◌, map, cond, codes, if◌then◌else◌}
use Rattle.dav_doc.specs.Document.{Forest, Nil, Chars, Element, Event, Start, Char, End, events}
use Rattle.dav_walk.specs.declared.root.Root.{Root}
use Rattle.dav_walk.specs.declared.root.Root.TheVariants.{Multistatus, Prop}
use Rattle.dav_walk.specs.Tree.{Item, is_dav, direct, items, weight, whole, among, responses}
use Rattle.dav_walk.specs.Gathering.{Opened, Gathering, between, begins, with_start, with_text, owed_after, next, ended}
use Rattle.dav_walk.specs.Whole.{after, given, numbered}
use Rattle.dav_walk.proofs.PropsLemmas.{differs}
use Rattle.dav_walk.proofs.WeightLemmas.{adds, adds-append, adds_tree, helds, helds-append}

pub after-append : (g : Gathering) (es later : List Event) → after g (es ++ later) ≡ after (after g es) later
after-append g [] later = refl
after-append g (e ∷ es) later = after-append (next g e) es later

pub given-append : (g : Gathering) (es later : List Event) → given g (es ++ later) ≡ given g es ++ given (after g es) later
given-append g [] later = refl
given-append g (e ∷ es) later =
    ap (λ z. ended g e ++ z) (given-append (next g e) es later)
    ∙ sym (append_assoc (ended g e) (given (next g e) es) (given (after (next g e) es) later))

-- within a response
abbrev pub within : Root → ℕ → List Item → List Opened → ℕ → ℕ → Gathering
within root index xs os held owed = record { root = root; items = xs; opened = os; held = held; owed = owed; index = index }

-- the events end no response, and lead from these items and open elements to those
pub record Gathered (root : Root) (index : ℕ) (es : List Event) (xs : List Item) (os : List Opened) (held owed : ℕ) (ys : List Item) (ps : List Opened) : Type 0 where
  pub holds : ℕ
  pub owes : ℕ
  pub leads : after (within root index xs os held owed) es ≡ within root index ys ps holds owes
  pub none : given (within root index xs os held owed) es ≡ []
  pub sum : holds ≡ held + adds es
  pub light : helds (within root index xs os held owed) es ≡ []

abbrev pub Gathers : Root → ℕ → List Event → List Item → List Opened → List Item → List Opened → Type 0
Gathers root index es xs os ys ps = (held owed : ℕ) → Gathered root index es xs os held owed ys ps

gathers_none : (root : Root) (index : ℕ) (xs : List Item) (os : List Opened) → Gathers root index [] xs os xs os
gathers_none root index xs os = λ held owed. record { holds = held; owes = owed; leads = refl; none = refl; sum = omega arith; light = refl }

gathers_then : (root : Root) (index : ℕ) (es later : List Event) (xs ys zs : List Item) (os ps qs : List Opened)
    → Gathers root index es xs os ys ps → Gathers root index later ys ps zs qs → Gathers root index (es ++ later) xs os zs qs
gathers_then root index es later xs ys zs os ps qs f g = λ held owed.
    let a = f held owed in
    let b = g a.holds a.owes in
    record {
      holds = b.holds;
      owes = b.owes;
      leads = after-append (within root index xs os held owed) es later ∙ ap (λ h. after h later) a.leads ∙ b.leads;
      none =
          given-append (within root index xs os held owed) es later
          ∙ ap (λ z. z ++ given (after (within root index xs os held owed) es) later) a.none
          ∙ ap (λ h. given h later) a.leads
          ∙ b.none;
      sum = (let p = a.sum in let q = b.sum in omega (arith, adds-append es later));
      light =
          helds-append (within root index xs os held owed) es later
          ∙ ap (λ z. z ++ helds (after (within root index xs os held owed) es) later) a.light
          ∙ ap (λ h. helds h later) a.leads
          ∙ b.light;
    }

gathers_start : (root : Root) (index d : ℕ) (ns name : List ℕ) (xs : List Item) (o : Opened) (os : List Opened)
    → Gathers root index (Start d ns name ∷ []) xs (o ∷ os) (xs ++ (record { depth = d; ns = ns; name = name; text = [] } ∷ [])) (record { place = length xs; text = [] } ∷ o ∷ os)
gathers_start root index d ns name xs o os = λ held owed. record { holds = held + (length ns + length name); owes = owed; leads = refl; none = refl; sum = omega arith; light = refl }

gathers_byte : (root : Root) (index b : ℕ) (xs : List Item) (o : Opened) (os : List Opened)
    → Gathers root index (Char b ∷ []) xs (o ∷ os) xs (record { place = o.place; text = o.text ++ (b ∷ []) } ∷ os)
gathers_byte root index b xs o os = λ held owed. record { holds = held + 1; owes = owed_after owed b; leads = refl; none = refl; sum = omega arith; light = refl }

gathers_end : (root : Root) (index d : ℕ) (xs : List Item) (o p : Opened) (os : List Opened)
    → Gathers root index (End d ∷ []) xs (o ∷ p ∷ os) (with_text o.place o.text xs) (p ∷ os)
gathers_end root index d xs o p os = λ held owed. record { holds = held; owes = owed; leads = refl; none = refl; sum = omega arith; light = refl }

gathers_as : (root : Root) (index : ℕ) (es : List Event) (xs ys zs : List Item) (os ps qs : List Opened) → ys ≡ zs → ps ≡ qs
    → Gathers root index es xs os ys ps → Gathers root index es xs os zs qs
gathers_as root index es xs ys zs os ps qs e f g = λ held owed.
    let a = g held owed in
    record { holds = a.holds; owes = a.owes; leads = a.leads ∙ ap (λ z. within root index z ps a.holds a.owes) e ∙ ap (λ z. within root index zs z a.holds a.owes) f; none = a.none; sum = a.sum; light = a.light }

-- the text of the element behind these items
with_text_at : (xs ys : List Item) (x : Item) (text : List ℕ)
    → with_text (length xs) text ((xs ++ (x ∷ [])) ++ ys) ≡ xs ++ (record { depth = x.depth; ns = x.ns; name = x.name; text = text } ∷ ys)
with_text_at [] ys x text = refl
with_text_at (y ∷ xs) ys x text = ap (λ z. y ∷ z) (with_text_at xs ys x text)

-- the events of trees in an open element
pub gathers_all : (root : Root) (index d : ℕ) (f : Forest) (xs : List Item) (o : Opened) (os : List Opened)
    → Gathers root index (events d f) xs (o ∷ os) (xs ++ items d f) (record { place = o.place; text = o.text ++ direct f } ∷ os)
gathers_all root index d Nil xs o os =
    gathers_as root index [] xs xs (xs ++ []) (o ∷ os) (o ∷ os) _ (sym (append-nil xs)) (ap (λ t. let p : Opened = record { place = o.place; text = t } in p ∷ os) (sym (append-nil o.text))) (gathers_none root index xs (o ∷ os))
gathers_all root index d (Chars b f) xs o os =
    let p : Opened = record { place = o.place; text = o.text ++ (b ∷ []) } in
    gathers_as root index (events d (Chars b f)) xs (xs ++ items d f) _ (o ∷ os) (record { place = o.place; text = (o.text ++ (b ∷ [])) ++ direct f } ∷ os) _ refl
    (ap (λ t. let q : Opened = record { place = o.place; text = t } in q ∷ os) (append_assoc o.text (b ∷ []) (direct f)))
    (gathers_then root index (Char b ∷ []) (events d f) xs xs (xs ++ items d f) (o ∷ os) (p ∷ os) _ (gathers_byte root index b xs o os) (gathers_all root index d f xs p os))
gathers_all root index d (Element ns name inside f) xs o os =
    let x : Item = record { depth = d; ns = ns; name = name; text = [] } in
    let y : Item = record { depth = d; ns = ns; name = name; text = direct inside } in
    let p : Opened = record { place = length xs; text = [] } in
    let q : Opened = record { place = length xs; text = direct inside } in
    let below = items (d + 1) inside in
    let ended_at : with_text (length xs) (direct inside) ((xs ++ (x ∷ [])) ++ below) ≡ xs ++ (y ∷ below) = with_text_at xs below x (direct inside) in
    gathers_as root index (events d (Element ns name inside f)) xs ((xs ++ (y ∷ below)) ++ items d f) _ (o ∷ os) (record { place = o.place; text = o.text ++ direct f } ∷ os) _
    (append_assoc xs (y ∷ below) (items d f)) refl
    (gathers_then root index (Start d ns name ∷ []) ((events (d + 1) inside ++ (End d ∷ [])) ++ events d f) xs (xs ++ (x ∷ [])) _ (o ∷ os) (p ∷ o ∷ os) _
    (gathers_start root index d ns name xs o os)
    (gathers_then root index (events (d + 1) inside ++ (End d ∷ [])) (events d f) (xs ++ (x ∷ [])) (xs ++ (y ∷ below)) _ (p ∷ o ∷ os) (o ∷ os) _
    (gathers_then root index (events (d + 1) inside) (End d ∷ []) (xs ++ (x ∷ [])) ((xs ++ (x ∷ [])) ++ below) (xs ++ (y ∷ below)) (p ∷ o ∷ os) (q ∷ o ∷ os) (o ∷ os)
    (gathers_all root index (d + 1) inside (xs ++ (x ∷ [])) p (o ∷ os))
    (gathers_as root index (End d ∷ []) ((xs ++ (x ∷ [])) ++ below) (with_text (length xs) (direct inside) ((xs ++ (x ∷ [])) ++ below)) (xs ++ (y ∷ below)) (q ∷ o ∷ os) (o ∷ os) (o ∷ os) ended_at refl
    (gathers_end root index d ((xs ++ (x ∷ [])) ++ below) q o os)))
    (gathers_all root index d f (xs ++ (y ∷ below)) o os)))

-- the events lead from between responses to between responses, and give these
pub record Gives (root : Root) (index : ℕ) (es : List Event) (xs : List (List Item)) : Type 0 where
  pub leads : after (between root index) es ≡ between root (index + length xs)
  pub given : given (between root index) es ≡ numbered index xs
  pub heavy : helds (between root index) es ≡ map weight xs

gives_none : (root : Root) (index : ℕ) → Gives root index [] []
gives_none root index = record { leads = ap (between root) (omega arith); given = refl; heavy = refl }

weights-append : (xs ys : List (List Item)) → map weight (xs ++ ys) ≡ map weight xs ++ map weight ys
weights-append [] ys = refl
weights-append (x ∷ xs) ys = ap (λ z. weight x ∷ z) (weights-append xs ys)

numbered-append : (index : ℕ) (xs ys : List (List Item)) → numbered index (xs ++ ys) ≡ numbered index xs ++ numbered (index + length xs) ys
numbered-append index [] ys = ap (λ i. numbered i ys) (omega arith)
numbered-append index (x ∷ xs) ys =
    ap (λ z. record { items = x; index = index } ∷ z) (numbered-append (index + 1) xs ys ∙ ap (λ i. numbered (index + 1) xs ++ numbered i ys) (omega arith))

length_more : (xs ys : List (List Item)) → length (xs ++ ys) ≡ length xs + length ys
length_more [] ys = omega arith
length_more (x ∷ xs) ys = let h = length_more xs ys in omega arith

gives_then : (root : Root) (index : ℕ) (es later : List Event) (xs ys : List (List Item))
    → Gives root index es xs → Gives root (index + length xs) later ys → Gives root index (es ++ later) (xs ++ ys)
gives_then root index es later xs ys f g = record {
  leads = after-append (between root index) es later ∙ ap (λ h. after h later) f.leads ∙ g.leads ∙ ap (between root) (omega (arith, length_more xs ys));
  given =
      given-append (between root index) es later
      ∙ ap (λ z. z ++ given (after (between root index) es) later) f.given
      ∙ ap (λ h. numbered index xs ++ given h later) f.leads
      ∙ ap (λ z. numbered index xs ++ z) g.given
      ∙ sym (numbered-append index xs ys);
  heavy =
      helds-append (between root index) es later
      ∙ ap (λ z. z ++ helds (after (between root index) es) later) f.heavy
      ∙ ap (λ h. map weight xs ++ helds h later) f.leads
      ∙ ap (λ z. map weight xs ++ z) g.heavy
      ∙ sym (weights-append xs ys);
}

-- a response: its start, what it holds and its end
gives_whole : (root : Root) (index d e held owed : ℕ) (ns name : List ℕ) (inside : Forest)
    → next (between root index) (Start d ns name) ≡ within root index (record { depth = d; ns = ns; name = name; text = [] } ∷ []) (record { place = 0; text = [] } ∷ []) held owed
    → held ≡ length ns + length name → Gives root index (Start d ns name ∷ (events (d + 1) inside ++ (End e ∷ []))) (whole d ns name inside ∷ [])
gives_whole root index d e held owed ns name inside is long =
    let x : Item = record { depth = d; ns = ns; name = name; text = [] } in
    let p : Opened = record { place = 0; text = [] } in
    let q : Opened = record { place = 0; text = direct inside } in
    let begun = within root index (x ∷ []) (p ∷ []) held owed in
    let a = gathers_all root index (d + 1) inside (x ∷ []) p [] held owed in
    record {
      leads =
          ap (λ g. after g (events (d + 1) inside ++ (End e ∷ []))) is
          ∙ after-append begun (events (d + 1) inside) (End e ∷ [])
          ∙ ap (λ g. after g (End e ∷ [])) a.leads;
      given =
          ap (λ g. given g (events (d + 1) inside ++ (End e ∷ []))) is
          ∙ given-append begun (events (d + 1) inside) (End e ∷ [])
          ∙ ap (λ z. z ++ given (after begun (events (d + 1) inside)) (End e ∷ [])) a.none
          ∙ ap (λ g. given g (End e ∷ [])) a.leads;
      heavy =
          ap (λ g. helds g (events (d + 1) inside ++ (End e ∷ []))) is
          ∙ helds-append begun (events (d + 1) inside) (End e ∷ [])
          ∙ ap (λ z. z ++ helds (after begun (events (d + 1) inside)) (End e ∷ [])) a.light
          ∙ ap (λ g. helds g (End e ∷ [])) a.leads
          ∙ ap (λ n. n ∷ []) (let p = a.sum in let q = adds_tree (d + 1) inside in omega arith);
    }

-- `index + 0`
gives_from : (root : Root) (index : ℕ) (es : List Event) (xs : List (List Item)) → Gives root index es xs → Gives root (index + 0) es xs
gives_from root index es xs g = let P : ℕ → Type 0 = λ i. Gives root i es xs in subst P (omega arith) g

gives_as : (root : Root) (index : ℕ) (es : List Event) (xs ys : List (List Item)) → xs ≡ ys → Gives root index es xs → Gives root index es ys
gives_as root index es xs ys e g = let P : List (List Item) → Type 0 = λ z. Gives root index es z in subst P e g

-- a start that begins no response, a byte and an end
pub quiet_start : (root : Root) (index d : ℕ) (ns name : List ℕ) → begins root d ns name ≡ false → Gives root index (Start d ns name ∷ []) []
quiet_start root index d ns name e = record {
  leads = ap (λ (t : Bool). if t then with_start (between root index) d ns name else between root index) e ∙ ap (between root) (omega arith);
  given = refl;
  heavy = refl;
}

quiet_byte : (root : Root) (index b : ℕ) → Gives root index (Char b ∷ []) []
quiet_byte root index b = record { leads = ap (between root) (omega arith); given = refl; heavy = refl }

quiet_end : (root : Root) (index d : ℕ) → Gives root index (End d ∷ []) []
quiet_end root index d = record { leads = ap (between root) (omega arith); given = refl; heavy = refl }

-- an element that begins no response, and what follows it
gives_around : (root : Root) (index d : ℕ) (ns name : List ℕ) (inside f : Forest) (xs ys : List (List Item)) → begins root d ns name ≡ false
    → Gives root index (events (d + 1) inside) xs → Gives root (index + length xs) (events d f) ys
    → Gives root index (events d (Element ns name inside f)) (xs ++ ys)
gives_around root index d ns name inside f xs ys e g h =
    gives_then root index (Start d ns name ∷ []) ((events (d + 1) inside ++ (End d ∷ [])) ++ events d f) [] (xs ++ ys) (quiet_start root index d ns name e)
    (gives_from root index ((events (d + 1) inside ++ (End d ∷ [])) ++ events d f) (xs ++ ys)
    (gives_then root index (events (d + 1) inside ++ (End d ∷ [])) (events d f) xs ys
    (gives_as root index (events (d + 1) inside ++ (End d ∷ [])) (xs ++ []) xs (append-nil xs)
    (gives_then root index (events (d + 1) inside) (End d ∷ []) xs [] g (quiet_end root (index + length xs) d))) h))

gives_byte : (root : Root) (index d b : ℕ) (f : Forest) (xs : List (List Item)) → Gives root index (events d f) xs → Gives root index (events d (Chars b f)) xs
gives_byte root index d b f xs g = gives_then root index (Char b ∷ []) (events d f) [] xs (quiet_byte root index b) (gives_from root index (events d f) xs g)

-- trees below the children of the root
gives_skipped : (index d : ℕ) (f : Forest) → 2 < d → Gives Multistatus index (events d f) []
gives_skipped index d Nil h = gives_none Multistatus index
gives_skipped index d (Chars b f) h = gives_byte Multistatus index d b f [] (gives_skipped index d f h)
gives_skipped index d (Element ns name inside f) h =
    gives_around Multistatus index d ns name inside f [] [] (ap (λ (t : Bool). t && is_dav ns name (codes "response")) (differs d 2 h))
    (gives_skipped index (d + 1) inside (omega arith)) (gives_from Multistatus index (events d f) [] (gives_skipped index d f h))

-- a child of the root, and what follows it
pub gives_child : (is_response : Bool) (index : ℕ) (ns name : List ℕ) (inside f : Forest) → is_dav ns name (codes "response") ≡ is_response
    → ((i : ℕ) → Gives Multistatus i (events 2 f) (among f))
    → Gives Multistatus index (events 2 (Element ns name inside f)) (cond is_response (whole 2 ns name inside ∷ among f) (among f))
gives_child true index ns name inside f e later =
    gives_then Multistatus index (Start 2 ns name ∷ (events 3 inside ++ (End 2 ∷ []))) (events 2 f) (whole 2 ns name inside ∷ []) (among f)
    (gives_whole Multistatus index 2 2 (0 + (length ns + length name)) 0 ns name inside
    (ap (λ (t : Bool). if t then with_start (between Multistatus index) 2 ns name else between Multistatus index) e) (omega arith))
    (later (index + 1))
gives_child false index ns name inside f e later =
    gives_around Multistatus index 2 ns name inside f [] (among f) e (gives_skipped index 3 inside (omega arith)) (gives_from Multistatus index (events 2 f) (among f) (later index))

gives_among : (index : ℕ) (f : Forest) → Gives Multistatus index (events 2 f) (among f)
gives_among index Nil = gives_none Multistatus index
gives_among index (Chars b f) = gives_byte Multistatus index 2 b f (among f) (gives_among index f)
gives_among index (Element ns name inside f) = gives_child (is_dav ns name (codes "response")) index ns name inside f refl (λ i. gives_among i f)

-- a document
pub gives_responses : (root : Root) (ns name : List ℕ) (inside : Forest)
    → Gives root 0 (events 1 (Element ns name inside Nil)) (responses root (Element ns name inside Nil))
gives_responses Multistatus ns name inside =
    gives_as Multistatus 0 (events 1 (Element ns name inside Nil)) (among inside ++ []) (among inside) (append-nil (among inside))
    (gives_around Multistatus 0 1 ns name inside Nil (among inside) [] refl (gives_among 0 inside) (gives_none Multistatus (0 + length (among inside))))
gives_responses Prop ns name inside =
    gives_then Prop 0 (Start 1 ns name ∷ (events 2 inside ++ (End 1 ∷ []))) [] (whole 1 ns name inside ∷ []) []
    (gives_whole Prop 0 1 1 (0 + (length ns + length name)) 0 ns name inside refl (omega arith)) (gives_none Prop 1)
