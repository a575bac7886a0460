-- The responses of a document end where its text says.
use Rattle.std.proofs.Common.{◌≡◌, ℕ, ◌+◌, Bool, true, false, ◌&&◌, List, [], ◌∷◌, ◌++◌, length, length-append, refl, ap, sym, ◌∙◌, append_assoc, append-nil, zero-add, subst, arith, Some, inl, inr}
use Rattle.std.specs.Prelude.{◌==◌, ◌⊎◌, nat_le, codes, if◌then◌else◌}
use Rattle.std.proofs.lemmas.Bool.{eqb-true}
use Rattle.dav_doc.specs.Bytes.{Kind, Less, Ampersand, Blank, Greater, kind, text_kind, blanks, begins_greater, begins_bracket, begins_end}
use Rattle.dav_doc.specs.Names.{written, local_of, Binding, declared, resolved, base}
use Rattle.dav_doc.specs.References.{stands_for}
use Rattle.dav_doc.specs.Document as document
use Rattle.dav_doc.specs.Document.{Forest, Nil, Element, Event, Start, Char, End, said, events, Tag, IsTag, tag_text, start_tag, empty_tag, end_tag, section_open, SectionRest, Content, nothing, text, line_end, lone_return, reference, comment, instruction, section, empty, element, Around, ended, space, remark, advice, alone, full, begins_feed, IsDeclaration, IsDocument}
use Rattle.dav_doc.specs.Machine.{Open, Brackets, Zero, One, Two, Place, First, Before, Below, State, Begin, MarkSecond, MarkThird, Return, Opening, Outside, Text, Markup, InReference, InName, InTag, EmptyTag, EndBlanks, To, at, scope_of, chars, begin_step, outside_step, epilog_step, bracket_by, brackets, ends_section, text_by, text_step, end_next, letter_step, on, slashed, step, run}
use Rattle.dav_doc.specs.Names.{Plain}
use Rattle.dav_doc.proofs.Meaning.{Free}
use Rattle.dav_doc.proofs.KindFacts.{IsKind, is_kind}
use Rattle.dav_doc.proofs.Runs.{Goes, goes_cons, goes_by, goes_then}
use Rattle.dav_doc.proofs.Tokens.{is_blank_kind, blanks_go, end_spaces, reference_goes}
use Rattle.dav_doc.proofs.Marking.{remark_goes, advice_goes, opening_goes, declaration_goes}
use Rattle.dav_doc.proofs.Completing.{tag_goes, opens_go, left_goes, end_from, end_goes, inner, content_goes, refers_text, text_references, IsAround}
use Rattle.dav_walk.specs.declared.root.Root.{Root}
use Rattle.dav_walk.specs.declared.root.Root.TheVariants.{Multistatus, Prop}
use Rattle.dav_walk.specs.Tree.{Item, is_dav, direct, items, whole, among, responses}
use Rattle.dav_walk.specs.Lending.{Response}
use Rattle.dav_walk.specs.Gathering.{Opened, between, with_start, next}
use Rattle.dav_walk.specs.Whole.{after, given}
use Rattle.dav_walk.specs.Places.{Placed, placed_by, placed_among, placed_in, placed, ended_in, all_placed}
use Rattle.dav_walk.proofs.TreeLemmas.{within, gathers_all, gives_child}
use Rattle.dav_walk.proofs.Timing.{Timed, stamped, timed_by, timed, bare, bare-append, bare_stamped, split_at, Told, told, told-append, told_none, ended_among, quiet, quiet_end, ended_front}

-- these responses in a row, the first of which has that number before it
abbrev rows : ℕ → List Placed → List Told
rows i [] = []
rows i (p ∷ ps) = record { response = record { items = p.items; index = i }; past = p.past } ∷ rows (i + 1) ps

-- an end that is the last event of a whole response
closes : (root : Root) (i p d e held owed : ℕ) (ns name : List ℕ) (inside : Forest) (xs ys : List Timed)
    → next (between root i) (Start d ns name) ≡ within root i (record { depth = d; ns = ns; name = name; text = [] } ∷ []) (record { place = 0; text = [] } ∷ []) held owed
    → bare xs ≡ Start d ns name ∷ events (d + 1) inside
    → told (between root i) (xs ++ (record { event = End e; past = p } ∷ ys))
    ≡ record { response = record { items = whole d ns name inside; index = i }; past = p } ∷ told (between root (i + 1)) ys
closes root i p d e held owed ns name inside xs ys is b =
    let x : Item = record { depth = d; ns = ns; name = name; text = [] } in
    let o : Opened = record { place = 0; text = [] } in
    let a = gathers_all root i (d + 1) inside (x ∷ []) o [] held owed in
    let leads : after (between root i) (bare xs) ≡ within root i ((x ∷ []) ++ items (d + 1) inside) (record { place = 0; text = [] ++ direct inside } ∷ []) a.holds a.owes =
    ap (after (between root i)) b ∙ ap (λ g. after g (events (d + 1) inside)) is ∙ a.leads in
    let none : given (between root i) (bare xs) ≡ [] = ap (given (between root i)) b ∙ ap (λ g. given g (events (d + 1) inside)) is ∙ a.none in
    told-append (between root i) xs (record { event = End e; past = p } ∷ ys)
    ∙ ap (λ z. z ++ told (after (between root i) (bare xs)) (record { event = End e; past = p } ∷ ys)) (told_none (between root i) xs none)
    ∙ ap (λ g. told g (record { event = End e; past = p } ∷ ys)) leads

-- a child of the root, and what follows it
child_told : (response : Bool) (i p : ℕ) (ns name : List ℕ) (inside : Forest) (xs ys : List Timed) (later : List Placed) → is_dav ns name (codes "response") ≡ response
    → bare xs ≡ Start 2 ns name ∷ events 3 inside → ((i : ℕ) → told (between Multistatus i) ys ≡ rows i later)
    → told (between Multistatus i) (xs ++ (record { event = End 2; past = p } ∷ ys)) ≡ rows i (placed_by response (record { items = whole 2 ns name inside; past = p }) later)
child_told true i p ns name inside xs ys later e b h =
    closes Multistatus i p 2 2 (0 + (length ns + length name)) 0 ns name inside xs ys
    (ap (λ (t : Bool). if t then with_start (between Multistatus i) 2 ns name else between Multistatus i) e) b
    ∙ ap (λ z. record { response = record { items = whole 2 ns name inside; index = i }; past = p } ∷ z) (h (i + 1))
child_told false i p ns name inside xs ys later e b h =
    let last : Timed = record { event = End 2; past = p } in
    let g = gives_child false i ns name inside Nil e (λ k. record { leads = ap (between Multistatus) (omega arith); given = refl; heavy = refl }) in
    let es : bare (xs ++ (last ∷ [])) ≡ events 2 (Element ns name inside Nil) =
    bare-append xs (last ∷ []) ∙ ap (λ z. z ++ (End 2 ∷ [])) b ∙ ap (λ z. Start 2 ns name ∷ z) (sym (append-nil (events 3 inside ++ (End 2 ∷ [])))) in
    ap (told (between Multistatus i)) (sym (append_assoc xs (last ∷ []) ys))
    ∙ told-append (between Multistatus i) (xs ++ (last ∷ [])) ys
    ∙ ap (λ z. z ++ told (after (between Multistatus i) (bare (xs ++ (last ∷ [])))) ys) (told_none (between Multistatus i) (xs ++ (last ∷ [])) (ap (given (between Multistatus i)) es ∙ g.given))
    ∙ ap (λ z. told (after (between Multistatus i) z) ys) es
    ∙ ap (λ z. told z ys) g.leads
    ∙ h (i + 0)
    ∙ ap (λ k. rows k later) (omega arith)

-- Tags up to their last byte.

-- an empty tag without it
abbrev empty_front : Tag → List ℕ → List ℕ
empty_front t w = 60 ∷ (tag_text t ++ (w ++ (47 ∷ [])))

-- a start tag, what it opens, and an end tag without its last byte
abbrev end_front : Tag → List ℕ → List ℕ
end_front t v = 60 ∷ 47 ∷ (written t.name ++ v)

abbrev whole_front : Tag → List ℕ → List ℕ → List ℕ → List ℕ
whole_front t w s v = start_tag t w ++ (s ++ end_front t v)

empty_split : (t w rest : List ℕ) → (60 ∷ (t ++ (w ++ (47 ∷ 62 ∷ [])))) ++ rest ≡ (60 ∷ (t ++ (w ++ (47 ∷ [])))) ++ (62 ∷ rest)
empty_split t w rest = simp append_assoc

empty_length : (t w : List ℕ) → length (60 ∷ (t ++ (w ++ (47 ∷ 62 ∷ [])))) ≡ length (60 ∷ (t ++ (w ++ (47 ∷ [])))) + 1
empty_length t w = omega (arith, length-append t (w ++ (47 ∷ 62 ∷ [])), length-append w (47 ∷ 62 ∷ []), length-append t (w ++ (47 ∷ [])), length-append w (47 ∷ []))

whole_split : (a s n v rest : List ℕ) → (a ++ (s ++ (60 ∷ 47 ∷ (n ++ (v ++ (62 ∷ [])))))) ++ rest ≡ (a ++ (s ++ (60 ∷ 47 ∷ (n ++ v)))) ++ (62 ∷ rest)
whole_split a s n v rest = simp append_assoc

whole_length : (a s n v : List ℕ) → length (a ++ (s ++ (60 ∷ 47 ∷ (n ++ (v ++ (62 ∷ [])))))) ≡ length (a ++ (s ++ (60 ∷ 47 ∷ (n ++ v)))) + 1
whole_length a s n v = omega (
  arith,
  length-append a (s ++ (60 ∷ 47 ∷ (n ++ (v ++ (62 ∷ []))))),
  length-append s (60 ∷ 47 ∷ (n ++ (v ++ (62 ∷ [])))),
  length-append n (v ++ (62 ∷ [])),
  length-append v (62 ∷ []),
  length-append a (s ++ (60 ∷ 47 ∷ (n ++ v))),
  length-append s (60 ∷ 47 ∷ (n ++ v)),
  length-append n v,
)

empty_goes : (st : State) (p : Place) (os : List Open) (t : Tag) (w ns : List ℕ) → step st 60 ≡ To (Markup p) [] → ((b : ℕ) → letter_step p b ≡ To (InName os (Plain (b ∷ []))) [])
    → IsTag t → blanks w ≡ true → resolved (scope_of os) t.name t.attributes ≡ Some ns → Goes st (empty_front t w) (EmptyTag os t w ns) []
empty_goes st p os t w ns opens letters is bl known =
    goes_cons st (Markup p) (EmptyTag os t w ns) 60 (tag_text t ++ (w ++ (47 ∷ []))) [] [] opens
    (tag_goes p os t w (47 ∷ []) (EmptyTag os t w ns) [] letters is bl refl
    (goes_cons (InTag os t w) (EmptyTag os t w ns) (EmptyTag os t w ns) 47 [] [] [] (ap (slashed os t w) known) refl))

end_front_goes : (st : State) (o : Open) (os : List Open) (v : List ℕ) → step st 60 ≡ To (Markup (Below (o ∷ os))) [] → blanks v ≡ true
    → Goes st (60 ∷ 47 ∷ (written o.name ++ v)) (EndBlanks o os v) []
end_front_goes st o os v begins bv =
    goes_cons st (Markup (Below (o ∷ os))) (EndBlanks o os v) 60 (47 ∷ (written o.name ++ v)) [] [] begins
    (goes_cons (Markup (Below (o ∷ os))) (end_next o os [] (written o.name)) (EndBlanks o os v) 47 (written o.name ++ v) [] [] refl
    (left_goes o os [] (written o.name) v (EndBlanks o os v) []
    (goes_by (EndBlanks o os []) (EndBlanks o os v) (v ++ []) v [] (append-nil v)
    (blanks_go (EndBlanks o os) (end_spaces o os) [] v [] (EndBlanks o os v) [] bv refl))))

start_split : (t w s : List ℕ) → 60 ∷ (t ++ (w ++ (62 ∷ s))) ≡ (60 ∷ (t ++ (w ++ (62 ∷ [])))) ++ s
start_split t w s = simp append_assoc

whole_goes : {inside : Forest} {s : List ℕ} (st : State) (p : Place) (os : List Open) (t : Tag) (w v ns : List ℕ) → step st 60 ≡ To (Markup p) []
    → ((b : ℕ) → letter_step p b ≡ To (InName os (Plain (b ∷ []))) []) → IsTag t → blanks w ≡ true → blanks v ≡ true → resolved (scope_of os) t.name t.attributes ≡ Some ns
    → Content (declared t.attributes (scope_of os)) inside s
    → Goes st (whole_front t w s v) (EndBlanks (record { name = t.name; scope = declared t.attributes (scope_of os) }) os v)
    (Start (length os + 1) ns (local_of t.name) ∷ events (length os + 1 + 1) inside)
whole_goes {inside} {s} st p os t w v ns opens letters is bl bv known i =
    let o : Open = record { name = t.name; scope = declared t.attributes (scope_of os) } in
    let c = EndBlanks o os v in
    let z = end_front t v in
    let deep : length (o ∷ os) + 1 ≡ length os + 1 + 1 = omega arith in
    let g = content_goes i o os Zero refl tt z c [] (λ m. end_front_goes (Text (o ∷ os) m) o os v refl bv) (end_front_goes (Return o os) o os v refl bv) in
    let e = events (length (o ∷ os) + 1) inside ++ [] in
    let q : e ≡ events (length os + 1 + 1) inside = append-nil (events (length (o ∷ os) + 1) inside) ∙ ap (λ n. events n inside) deep in
    let d = Start (length os + 1) ns (local_of t.name) ∷ e in
    let P : List Event → Type 0 = λ y. Goes st (whole_front t w s v) c (Start (length os + 1) ns (local_of t.name) ∷ y) in
    subst P q
    (goes_by st c (60 ∷ (tag_text t ++ (w ++ (62 ∷ (s ++ z))))) (whole_front t w s v) d (start_split (tag_text t) w (s ++ z))
    (goes_cons st (Markup p) c 60 (tag_text t ++ (w ++ (62 ∷ (s ++ z)))) [] d opens
    (tag_goes p os t w (62 ∷ (s ++ z)) c d letters is bl refl (opens_go os t w ns (s ++ z) c e known g))))

stamped_append : (n : ℕ) (es fs : List Event) → stamped n (es ++ fs) ≡ stamped n es ++ stamped n fs
stamped_append n [] fs = refl
stamped_append n (e ∷ es) fs = ap (λ z. record { event = e; past = n } ∷ z) (stamped_append n es fs)

-- a text that ends an element with a `>`, and what follows
record Tagged (k : ℕ) (all front rest : List ℕ) (a c : State) (d : ℕ) (es : List Event) : Type 0 where
  before : List Timed
  is : timed k all a ≡ before ++ (record { event = End d; past = k + length front + 1 } ∷ timed (k + length front + 1) rest c)
  bare : bare before ≡ es

tagged : (k : ℕ) (all front rest : List ℕ) (a b c : State) (d : ℕ) (e f es : List Event) → all ≡ front ++ (62 ∷ rest) → Goes a front b e → step b 62 ≡ To c (f ++ (End d ∷ []))
    → e ++ f ≡ es → Tagged k all front rest a c d es
tagged k all front rest a b c d e f es w g st q =
    let n = k + length front + 1 in
    let p = split_at k front (62 ∷ rest) a b e g in
    let here = timed k front a in
    let last : Timed = record { event = End d; past = n } in
    let there = timed n rest c in
    record {
      before = here ++ stamped n f;
      is =
          ap (λ z. timed k z a) w
          ∙ p.splits
          ∙ ap (λ m. here ++ timed_by n m (timed n rest)) st
          ∙ ap (λ z. here ++ (z ++ there)) (stamped_append n f (End d ∷ []))
          ∙ ap (λ z. here ++ z) (append_assoc (stamped n f) (last ∷ []) there)
          ∙ sym (append_assoc here (stamped n f) (last ∷ there));
      bare =
          bare-append here (stamped n f)
          ∙ ap (λ z. z ++ bare (stamped n f)) p.bare
          ∙ ap (λ z. e ++ z) (bare_stamped n f)
          ∙ q;
    }

-- Content of the root.

-- what follows the content ends no response
record Still (o : Open) (rest : List ℕ) : Type 0 where
  text : (m : Brackets) (i k : ℕ) → told (between Multistatus i) (timed k rest (Text (o ∷ []) m)) ≡ []
  later : (i k : ℕ) → told (between Multistatus i) (timed k rest (Return o [])) ≡ []

plain_step : (o : Open) (os : List Open) (n : Brackets) (b : ℕ) (k : Kind) → text_kind k ≡ true → (b == 13) ≡ false → text_step o os n b k ≡ text_by o os n b (ends_section n k)
plain_step o os n b Less h r = cc
plain_step o os n b Ampersand h r = cc
plain_step o os n b Blank h r = ap (λ x. on x (To (Return o os) (Char 10 ∷ [])) (text_by o os n b (ends_section n Blank))) r
plain_step o os n b k h r = refl

greater_is : (b : ℕ) (k : Kind) → IsKind b k → (b == 62) ≡ false → ends_section Two k ≡ false
greater_is b Greater is h = let e : (b == 62) ≡ true = ap (λ z. z == 62) is.shows in cc
greater_is b k is h = refl

ends_not : (n : Brackets) (b : ℕ) (s : List ℕ) → Free n (b ∷ s) → ends_section n (kind b) ≡ false
ends_not Zero b s h = refl
ends_not One b s h = refl
ends_not Two b s h = greater_is b (kind b) (is_kind b) h.0

and_under : (x y : Bool) → x ≡ true → (x && y) ≡ false → y ≡ false
and_under x y h g = ap (λ z. z && y) (sym h) ∙ g

free_after : (n : Brackets) (b : ℕ) (s : List ℕ) (x : Bool) → (b == 93) ≡ x → Free n (b ∷ s) → begins_end (b ∷ s) ≡ false → Free (bracket_by n x) s
free_after n b s false e h g = tt
free_after Zero b s true e h g = and_under (b == 93) (begins_bracket s) e g
free_after One b s true e h g = (and_under (b == 93) (begins_greater s) e h, and_under (b == 93) (begins_bracket s) e g)
free_after Two b s true e h g = (and_under (b == 93) (begins_greater s) e h.1, and_under (b == 93) (begins_bracket s) e g)

-- a part that ends no response
part_told : (i k : ℕ) (all x rest : List ℕ) (a b : State) (e : List Event) → all ≡ x ++ rest → Goes a x b e → given (between Multistatus i) e ≡ [] → after (between Multistatus i) e ≡ between Multistatus i
    → told (between Multistatus i) (timed k all a) ≡ told (between Multistatus i) (timed (k + length x) rest b)
part_told i k all x rest a b e w g n l =
    ap (λ z. told (between Multistatus i) (timed k z a)) w ∙ quiet (between Multistatus i) (between Multistatus i) k x rest a b e g n l

chars_given : (i : ℕ) (m : List ℕ) → given (between Multistatus i) (chars m) ≡ []
chars_given i [] = refl
chars_given i (b ∷ m) = chars_given i m

chars_after : (i : ℕ) (m : List ℕ) → after (between Multistatus i) (chars m) ≡ between Multistatus i
chars_after i [] = refl
chars_after i (b ∷ m) = chars_after i m

reference_part : (o : Open) (n : Brackets) (r m : List ℕ) → stands_for r ≡ Some m → Goes (Text (o ∷ []) n) (38 ∷ r) (Text (o ∷ []) Zero) (chars m)
reference_part o n r m is =
    let c = Text (o ∷ []) Zero in
    let P : List Event → Type 0 = λ e. Goes (Text (o ∷ []) n) (38 ∷ r) c e in
    subst P (append-nil (chars m))
    (goes_cons (Text (o ∷ []) n) (InReference o [] []) c 38 r [] (chars m ++ []) refl
    (goes_by (InReference o [] []) c (r ++ []) r (chars m ++ []) (append-nil r)
    (reference_goes (InReference o []) (refers_text o []) (text_references o []) r m is [] c c (chars m) [] refl refl)))

section_part : (o : Open) (n : Brackets) (m r : List ℕ) → SectionRest m r → Goes (Text (o ∷ []) n) (section_open r) (Text (o ∷ []) Zero) (chars m)
section_part o n m r is =
    let c = Text (o ∷ []) Zero in
    let P : List Event → Type 0 = λ e. Goes (Text (o ∷ []) n) (section_open r) c e in
    subst P (append-nil (chars m))
    (goes_by (Text (o ∷ []) n) c (section_open (r ++ [])) (section_open r) (chars m ++ []) (ap section_open (append-nil r)) (opening_goes o [] n m r [] c [] is refl))

return_told : (o : Open) (s rest : List ℕ) (i k : ℕ) (r : List Told) → begins_feed s ≡ false → Still o rest
    → told (between Multistatus i) (timed k (s ++ rest) (Text (o ∷ []) Zero)) ≡ r → told (between Multistatus i) (timed k (s ++ rest) (Return o [])) ≡ r
return_told o [] rest i k r feed q h = q.later i k ∙ sym (q.text Zero i k) ∙ h
return_told o (b ∷ s) rest i k r feed q h =
    ap (λ x. told (between Multistatus i) (timed_by (k + 1) (on x (To (Text (o ∷ []) Zero) []) (text_step o [] Zero b (kind b))) (timed (k + 1) (s ++ rest)))) feed ∙ h

two_more : (k : ℕ) → k + 1 + 1 ≡ k + 2
two_more k = omega arith

past_by : (k n m : ℕ) → m ≡ n + 1 → k + n + 1 ≡ k + m
past_by k n m h = omega (arith, h)

element_split : (a s n v r rest : List ℕ) → (a ++ (s ++ ((60 ∷ 47 ∷ (n ++ (v ++ (62 ∷ [])))) ++ r))) ++ rest ≡ (a ++ (s ++ (60 ∷ 47 ∷ (n ++ v)))) ++ (62 ∷ (r ++ rest))
element_split a s n v r rest = simp append_assoc

empty_more : (t w s rest : List ℕ) → ((60 ∷ (t ++ (w ++ (47 ∷ 62 ∷ [])))) ++ s) ++ rest ≡ (60 ∷ (t ++ (w ++ (47 ∷ [])))) ++ (62 ∷ (s ++ rest))
empty_more t w s rest = simp append_assoc

content_told : {scope : List Binding} {f : Forest} {s : List ℕ} (d : Content scope f s) (o : Open) (n : Brackets) (i k : ℕ) (rest : List ℕ) → o.scope ≡ scope → Free n s → Still o rest
    → told (between Multistatus i) (timed k (s ++ rest) (Text (o ∷ []) n)) ≡ rows i (placed_among k d)
content_told nothing o n i k rest h free q = q.text n i k
content_told (text {s = s} b is lone ends d) o n i k rest h free q =
    ap (λ m. told (between Multistatus i) (timed_by (k + 1) m (timed (k + 1) (s ++ rest)))) (plain_step o [] n b (kind b) is lone ∙ ap (text_by o [] n b) (ends_not n b s free))
    ∙ content_told d o (brackets n b) i (k + 1) rest h (free_after n b s (b == 93) refl free ends) q
content_told (line_end {s = s} d) o n i k rest h free q =
    ap (λ j. told (between Multistatus i) (timed j (s ++ rest) (Text (o ∷ []) Zero))) (two_more k) ∙ content_told d o Zero i (k + 2) rest h tt q
content_told (lone_return {s = s} feed d) o n i k rest h free q =
    return_told o s rest i (k + 1) (rows i (placed_among (k + 1) d)) feed q (content_told d o Zero i (k + 1) rest h tt q)
content_told (reference {s = s} r m is d) o n i k rest h free q =
    part_told i k ((38 ∷ (r ++ s)) ++ rest) (38 ∷ r) (s ++ rest) (Text (o ∷ []) n) (Text (o ∷ []) Zero) (chars m) (ap (λ z. 38 ∷ z) (append_assoc r s rest)) (reference_part o n r m is)
    (chars_given i m) (chars_after i m)
    ∙ content_told d o Zero i (k + length (38 ∷ r)) rest h tt q
content_told (comment {s = s} r is d) o n i k rest h free q =
    let a = Text (o ∷ []) n in
    let c = Text (o ∷ []) Zero in
    part_told i k ((60 ∷ 33 ∷ 45 ∷ 45 ∷ (r ++ s)) ++ rest) (60 ∷ 33 ∷ 45 ∷ 45 ∷ r) (s ++ rest) a c [] (ap (λ z. 60 ∷ 33 ∷ 45 ∷ 45 ∷ z) (append_assoc r s rest))
    (goes_by a c (60 ∷ 33 ∷ 45 ∷ 45 ∷ (r ++ [])) (60 ∷ 33 ∷ 45 ∷ 45 ∷ r) [] (ap (λ z. 60 ∷ 33 ∷ 45 ∷ 45 ∷ z) (append-nil r)) (remark_goes a (Below (o ∷ [])) r [] c [] refl is refl)) refl refl
    ∙ content_told d o Zero i (k + length (60 ∷ 33 ∷ 45 ∷ 45 ∷ r)) rest h tt q
content_told (instruction {s = s} r is d) o n i k rest h free q =
    let a = Text (o ∷ []) n in
    let c = Text (o ∷ []) Zero in
    part_told i k ((60 ∷ 63 ∷ (r ++ s)) ++ rest) (60 ∷ 63 ∷ r) (s ++ rest) a c [] (ap (λ z. 60 ∷ 63 ∷ z) (append_assoc r s rest))
    (goes_by a c (60 ∷ 63 ∷ (r ++ [])) (60 ∷ 63 ∷ r) [] (ap (λ z. 60 ∷ 63 ∷ z) (append-nil r)) (advice_goes a (Below (o ∷ [])) r [] c [] refl is refl)) refl refl
    ∙ content_told d o Zero i (k + length (60 ∷ 63 ∷ r)) rest h tt q
content_told (section {s = s} m r is d) o n i k rest h free q =
    part_told i k (section_open (r ++ s) ++ rest) (section_open r) (s ++ rest) (Text (o ∷ []) n) (Text (o ∷ []) Zero) (chars m) (ap section_open (append_assoc r s rest)) (section_part o n m r is)
    (chars_given i m) (chars_after i m)
    ∙ content_told d o Zero i (k + length (section_open r)) rest h tt q
content_told (empty {s = s} t w ns is bl known d) o n i k rest h free q =
    let a = Text (o ∷ []) n in
    let c = Text (o ∷ []) Zero in
    let front = empty_front t w in
    let past = k + length front + 1 in
    let response = is_dav ns (local_of t.name) (codes "response") in
    let res : resolved o.scope t.name t.attributes ≡ Some ns = subst (λ (sc : List Binding). resolved sc t.name t.attributes ≡ Some ns) (sym h) known in
    let p = tagged k ((empty_tag t w ++ s) ++ rest) front (s ++ rest) a (EmptyTag (o ∷ []) t w ns) c 2 [] (Start 2 ns (local_of t.name) ∷ []) (Start 2 ns (local_of t.name) ∷ [])
    (empty_more (tag_text t) w s rest) (empty_goes a (Below (o ∷ [])) (o ∷ []) t w ns refl (λ b. refl) is bl res) refl refl in
    ap (told (between Multistatus i)) p.is
    ∙ child_told response i past ns (local_of t.name) Nil p.before (timed past (s ++ rest) c) (placed_among past d) refl p.bare (λ j. content_told d o Zero j past rest h tt q)
    ∙ ap (λ z. rows i (placed_by response (record { items = whole 2 ns (local_of t.name) Nil; past = z }) (placed_among z d)))
    (past_by k (length front) (length (empty_tag t w)) (empty_length (tag_text t) w))
content_told (element {inside = inside} {s = s} {r = r} t w v ns is bl bv known j d) o n i k rest h free q =
    let a = Text (o ∷ []) n in
    let c = Text (o ∷ []) Zero in
    let front = whole_front t w s v in
    let past = k + length front + 1 in
    let response = is_dav ns (local_of t.name) (codes "response") in
    let res : resolved o.scope t.name t.attributes ≡ Some ns = subst (λ (sc : List Binding). resolved sc t.name t.attributes ≡ Some ns) (sym h) known in
    let below : Content (declared t.attributes o.scope) inside s = subst (λ (sc : List Binding). Content (declared t.attributes sc) inside s) (sym h) j in
    let b = EndBlanks (record { name = t.name; scope = declared t.attributes o.scope }) (o ∷ []) v in
    let es = Start 2 ns (local_of t.name) ∷ events 3 inside in
    let p = tagged k ((start_tag t w ++ (s ++ (end_tag t.name v ++ r))) ++ rest) front (r ++ rest) a b c 2 es [] es
    (element_split (start_tag t w) s (written t.name) v r rest) (whole_goes a (Below (o ∷ [])) (o ∷ []) t w v ns refl (λ b. refl) is bl bv res below) refl (append-nil es) in
    ap (told (between Multistatus i)) p.is
    ∙ child_told response i past ns (local_of t.name) inside p.before (timed past (r ++ rest) c) (placed_among past d) refl p.bare (λ j. content_told d o Zero j past rest h tt q)
    ∙ ap (λ z. rows i (placed_by response (record { items = whole 2 ns (local_of t.name) inside; past = z }) (placed_among z d)))
    (past_by k (length front) (length (start_tag t w ++ (s ++ end_tag t.name v))) (whole_length (start_tag t w) s (written t.name) v))

-- The root.

full_split : (a s e back : List ℕ) → (a ++ (s ++ e)) ++ back ≡ a ++ (s ++ (e ++ back))
full_split a s e back = simp append_assoc

start_part : (st : State) (p : Place) (t : Tag) (w ns : List ℕ) → step st 60 ≡ To (Markup p) [] → ((b : ℕ) → letter_step p b ≡ To (InName [] (Plain (b ∷ []))) []) → IsTag t → blanks w ≡ true
    → resolved base t.name t.attributes ≡ Some ns → Goes st (start_tag t w) (inner [] t) (Start 1 ns (local_of t.name) ∷ [])
start_part st p t w ns opens letters is bl known =
    goes_cons st (Markup p) (inner [] t) 60 (tag_text t ++ (w ++ (62 ∷ []))) [] (Start 1 ns (local_of t.name) ∷ []) opens
    (tag_goes p [] t w (62 ∷ []) (inner [] t) (Start 1 ns (local_of t.name) ∷ []) letters is bl refl (opens_go [] t w ns [] (inner [] t) [] known refl))

root_told : {f : Forest} {s : List ℕ} (root : Root) (r : document.Root f s) (st : State) (p : Place) (k : ℕ) (back : List ℕ) → step st 60 ≡ To (Markup p) []
    → ((b : ℕ) → letter_step p b ≡ To (InName [] (Plain (b ∷ []))) []) → Goes (Text [] Zero) back (Text [] Zero) [] → told (between root 0) (timed k (s ++ back) st) ≡ rows 0 (placed_in root k r)
root_told Multistatus (alone t w ns is bl known) st p k back opens letters g =
    let c = Text [] Zero in
    let d = Start 1 ns (local_of t.name) ∷ End 1 ∷ [] in
    quiet_end (between Multistatus 0) k (empty_tag t w ++ back) st c d
    (goes_by st c (empty_front t w ++ (62 ∷ back)) (empty_tag t w ++ back) d (sym (empty_split (tag_text t) w back))
    (goes_then st (EmptyTag [] t w ns) c (empty_front t w) (62 ∷ back) [] d (empty_goes st p [] t w ns opens letters is bl known)
    (goes_cons (EmptyTag [] t w ns) c c 62 back d [] refl g))) refl
root_told Multistatus (full {inside = inside} {s = s} t w v ns is bl bv known d) st p k back opens letters g =
    let o : Open = record { name = t.name; scope = declared t.attributes base } in
    let rest = end_tag t.name v ++ back in
    let still : Still o rest = record {
      text = λ m i j. quiet_end (between Multistatus i) j rest (Text (o ∷ []) m) (Text [] Zero) (End 1 ∷ []) (end_goes o [] m v back (Text [] Zero) [] bv g) refl;
      later = λ i j. quiet_end (between Multistatus i) j rest (Return o []) (Text [] Zero) (End 1 ∷ []) (end_from (Return o []) o [] v back (Text [] Zero) [] refl bv g) refl;
    } in
    part_told 0 k ((start_tag t w ++ (s ++ end_tag t.name v)) ++ back) (start_tag t w) (s ++ rest) st (inner [] t) (Start 1 ns (local_of t.name) ∷ []) (full_split (start_tag t w) s (end_tag t.name v) back)
    (start_part st p t w ns opens letters is bl known) refl refl
    ∙ content_told d o Zero 0 (k + length (start_tag t w)) rest refl tt still
root_told Prop (alone t w ns is bl known) st p k back opens letters g =
    let c = Text [] Zero in
    let front = empty_front t w in
    let past = k + length front + 1 in
    let q = tagged k (empty_tag t w ++ back) front back st (EmptyTag [] t w ns) c 1 [] (Start 1 ns (local_of t.name) ∷ []) (Start 1 ns (local_of t.name) ∷ [])
    (empty_split (tag_text t) w back) (empty_goes st p [] t w ns opens letters is bl known) refl refl in
    ap (told (between Prop 0)) q.is
    ∙ closes Prop 0 past 1 1 (0 + (length ns + length (local_of t.name))) 0 ns (local_of t.name) Nil q.before (timed past back c) refl q.bare
    ∙ ap (λ z. record { response = record { items = whole 1 ns (local_of t.name) Nil; index = 0 }; past = past } ∷ z) (quiet_end (between Prop 1) past back c c [] g refl)
    ∙ ap (λ z. let x : Told = record { response = record { items = whole 1 ns (local_of t.name) Nil; index = 0 }; past = z } in x ∷ [])
    (past_by k (length front) (length (empty_tag t w)) (empty_length (tag_text t) w))
root_told Prop (full {inside = inside} {s = s} t w v ns is bl bv known d) st p k back opens letters g =
    let c = Text [] Zero in
    let front = whole_front t w s v in
    let past = k + length front + 1 in
    let b = EndBlanks (record { name = t.name; scope = declared t.attributes base }) [] v in
    let es = Start 1 ns (local_of t.name) ∷ events 2 inside in
    let q = tagged k ((start_tag t w ++ (s ++ end_tag t.name v)) ++ back) front back st b c 1 es [] es
    (whole_split (start_tag t w) s (written t.name) v back) (whole_goes st p [] t w v ns opens letters is bl bv known d) refl (append-nil es) in
    ap (told (between Prop 0)) q.is
    ∙ closes Prop 0 past 1 1 (0 + (length ns + length (local_of t.name))) 0 ns (local_of t.name) inside q.before (timed past back c) refl q.bare
    ∙ ap (λ z. record { response = record { items = whole 1 ns (local_of t.name) inside; index = 0 }; past = past } ∷ z) (quiet_end (between Prop 1) past back c c [] g refl)
    ∙ ap (λ z. let x : Told = record { response = record { items = whole 1 ns (local_of t.name) inside; index = 0 }; past = z } in x ∷ [])
    (past_by k (length front) (length (start_tag t w ++ (s ++ end_tag t.name v))) (whole_length (start_tag t w) s (written t.name) v))

-- What stands before and after it.

space_step : (p : Place) (b : ℕ) → IsAround p → kind b ≡ Blank → step (at p) b ≡ To (at p) []
space_step First b h e = absurd h
space_step Before b h e = ap (outside_step b) e
space_step (Below []) b h e = ap (epilog_step b) e
space_step (Below (o ∷ os)) b h e = absurd h

less_step : (p : Place) → IsAround p → step (at p) 60 ≡ To (Markup p) []
less_step First h = absurd h
less_step Before h = refl
less_step (Below []) h = refl
less_step (Below (o ∷ os)) h = absurd h

around_part : {s : List ℕ} → Around s → (p : Place) → IsAround p → Goes (at p) s (at p) []
around_part ended p h = refl
around_part (space {s = s} b is i) p h = goes_cons (at p) (at p) (at p) b s [] [] (space_step p b h (is_blank_kind (kind b) is)) (around_part i p h)
around_part (remark {s = s} r is i) p h = remark_goes (at p) p r s (at p) [] (less_step p h) is (around_part i p h)
around_part (advice {s = s} r is i) p h = advice_goes (at p) p r s (at p) [] (less_step p h) is (around_part i p h)

-- before the root, behind this text
record Starts (a : State) (s : List ℕ) : Type 0 where
  state : State
  place : Place
  opens : step state 60 ≡ To (Markup place) []
  letters : (b : ℕ) → letter_step place b ≡ To (InName [] (Plain (b ∷ []))) []
  goes : Goes a s state []

-- at the first byte, behind a mark or without one
record IsFirst (st : State) : Type 0 where
  blank : (b : ℕ) → kind b ≡ Blank → step st b ≡ To Outside []
  less : step st 60 ≡ To (Markup First) []

outside : (a : State) (s : List ℕ) → Goes a s Outside [] → Starts a s
outside a s g = record { state = Outside; place = Before; opens = refl; letters = λ b. refl; goes = g }

starts_around : {s : List ℕ} → Around s → (st : State) → IsFirst st → Starts st s
starts_around ended st h = record { state = st; place = First; opens = h.less; letters = λ b. refl; goes = refl }
starts_around (space {s = s} b is i) st h = outside st (b ∷ s) (goes_cons st Outside Outside b s [] [] (h.blank b (is_blank_kind (kind b) is)) (around_part i Before tt))
starts_around (remark {s = s} r is i) st h = outside st (60 ∷ 33 ∷ 45 ∷ 45 ∷ (r ++ s)) (remark_goes st First r s Outside [] h.less is (around_part i Before tt))
starts_around (advice {s = s} r is i) st h = outside st (60 ∷ 63 ∷ (r ++ s)) (advice_goes st First r s Outside [] h.less is (around_part i Before tt))

starts_declared : (first front : List ℕ) → IsDeclaration first → Around front → (st : State) → IsFirst st → ((x : List ℕ) → run (60 ∷ x) st ≡ run (60 ∷ x) Opening) → Starts st (first ++ front)
starts_declared first front (inl e) i st h same = subst (λ (z : List ℕ). Starts st (z ++ front)) (sym e) (starts_around i st h)
starts_declared first front (inr e) i st h same =
    outside st (first ++ front)
    (goes_by st Outside ((60 ∷ 63 ∷ e.0) ++ front) (first ++ front) [] (ap (λ z. z ++ front) (sym e.1))
    (same (63 ∷ (e.0 ++ front)) ∙ declaration_goes e.0 front Outside [] e.2 (around_part i Before tt)))

opening_first : IsFirst Opening
opening_first = record { blank = λ b e. ap (begin_step b) e; less = refl }

begin_blank : (mark : Bool) (b : ℕ) → (b == 239) ≡ mark → kind b ≡ Blank → on mark (To MarkSecond []) (begin_step b (kind b)) ≡ To Outside []
begin_blank true b h e = let k : kind 239 ≡ Blank = ap kind (sym (eqb-true b 239 h)) ∙ e in absurd cc
begin_blank false b h e = ap (begin_step b) e

begin_first : IsFirst Begin
begin_first = record { blank = λ b e. begin_blank (b == 239) b refl e; less = refl }

starts_marked : (mark first front : List ℕ) → (mark ≡ []) ⊎ (mark ≡ 239 ∷ 187 ∷ 191 ∷ []) → IsDeclaration first → Around front → Starts Begin (mark ++ (first ++ front))
starts_marked mark first front (inl e) d i =
    subst (λ (z : List ℕ). Starts Begin (z ++ (first ++ front))) (sym e) (starts_declared first front d i Begin begin_first (λ x. refl))
starts_marked mark first front (inr e) d i =
    let s = starts_declared first front d i Opening opening_first (λ x. refl) in
    let rest = first ++ front in
    subst (λ (z : List ℕ). Starts Begin (z ++ rest)) (sym e)
    (record {
      state = s.state;
      place = s.place;
      opens = s.opens;
      letters = s.letters;
      goes =
          goes_cons Begin MarkSecond s.state 239 (187 ∷ 191 ∷ rest) [] [] refl
          (goes_cons MarkSecond MarkThird s.state 187 (191 ∷ rest) [] [] refl (goes_cons MarkThird Opening s.state 191 rest [] [] refl s.goes));
    })

whole_text : (m f a b c s t r : List ℕ) → s ≡ m ++ t → t ≡ f ++ r → r ≡ a ++ (b ++ c) → s ≡ (m ++ (f ++ a)) ++ (b ++ c)
whole_text m f a b c s t r x y z =
    x ∙ ap (λ q. m ++ q) (y ∙ ap (λ q. f ++ q) z ∙ sym (append_assoc f a (b ++ c))) ∙ sym (append_assoc m (f ++ a) (b ++ c))

document_told : {tree : Forest} {s : List ℕ} (root : Root) (d : IsDocument tree s) → told (between root 0) (timed 0 s Begin) ≡ rows 0 (placed root d)
document_told {tree} {s} root d =
    let p = d.spells in
    let h = p.declared in
    let r = h.rooted in
    let before = p.mark ++ (h.first ++ r.front) in
    let f = starts_marked p.mark h.first r.front p.marked h.declared r.before in
    ap (λ z. told (between root 0) (timed 0 z Begin)) (whole_text p.mark h.first r.front r.middle r.back s p.document h.rest p.split h.split r.split)
    ∙ quiet (between root 0) (between root 0) 0 before (r.middle ++ r.back) Begin f.state [] f.goes refl refl
    ∙ root_told root r.root f.state f.place (0 + length before) r.back f.opens f.letters (around_part r.after (Below []) tt)
    ∙ ap (λ k. rows 0 (placed_in root k r.root)) (zero-add (length before))

among_rows : (n i : ℕ) (ps : List Placed) → ended_among n (rows i ps) ≡ ended_in i n ps
among_rows n i [] = refl
among_rows n i (p ∷ ps) = ap (λ z. let r : Response = record { items = p.items; index = i } in if nat_le p.past n then r ∷ z else z) (among_rows n (i + 1) ps)

-- the responses that the events of a front give are those that end in it
pub given_end : (root : Root) (s t : List ℕ) (tree : Forest) (st : State) (e : List Event) → Goes Begin s st e → (d : IsDocument tree (s ++ t))
    → given (between root 0) e ≡ ended_in 0 (length s) (placed root d)
given_end root s t tree st e g d =
    sym (ended_front (between root 0) s t Begin st e g) ∙ ap (ended_among (length s)) (document_told root d) ∙ among_rows (length s) 0 (placed root d)

-- The responses with their places are those of the tree.

among_said : (m : List ℕ) (f : Forest) → among (said m f) ≡ among f
among_said [] f = refl
among_said (b ∷ m) f = among_said m f

placed_child : (response : Bool) (p : Placed) (ps : List Placed) (xs : List (List Item)) → all_placed ps ≡ xs → all_placed (placed_by response p ps) ≡ (if response then p.items ∷ xs else xs)
placed_child true p ps xs h = ap (λ z. p.items ∷ z) h
placed_child false p ps xs h = h

all_among : {scope : List Binding} {f : Forest} {s : List ℕ} (k : ℕ) (d : Content scope f s) → all_placed (placed_among k d) ≡ among f
all_among k nothing = refl
all_among k (text b is lone ends d) = all_among (k + 1) d
all_among k (line_end d) = all_among (k + 2) d
all_among k (lone_return feed d) = all_among (k + 1) d
all_among k (reference {f = f} r m is d) = all_among (k + length (38 ∷ r)) d ∙ sym (among_said m f)
all_among k (comment r is d) = all_among (k + length (60 ∷ 33 ∷ 45 ∷ 45 ∷ r)) d
all_among k (instruction r is d) = all_among (k + length (60 ∷ 63 ∷ r)) d
all_among k (section {f = f} m r is d) = all_among (k + length (section_open r)) d ∙ sym (among_said m f)
all_among k (empty {after = f} t w ns is bl known d) =
    placed_child (is_dav ns (local_of t.name) (codes "response")) _ (placed_among (k + length (empty_tag t w)) d) (among f) (all_among (k + length (empty_tag t w)) d)
all_among k (element {after = f} {s = s} t w v ns is bl bv known j d) =
    placed_child (is_dav ns (local_of t.name) (codes "response")) _ (placed_among (k + length (start_tag t w ++ (s ++ end_tag t.name v))) d) (among f)
    (all_among (k + length (start_tag t w ++ (s ++ end_tag t.name v))) d)

all_in_root : {f : Forest} {s : List ℕ} (root : Root) (k : ℕ) (r : document.Root f s) → all_placed (placed_in root k r) ≡ responses root f
all_in_root Multistatus k (alone t w ns is bl known) = refl
all_in_root Multistatus k (full t w v ns is bl bv known d) = all_among (k + length (start_tag t w)) d
all_in_root Prop k (alone t w ns is bl known) = refl
all_in_root Prop k (full t w v ns is bl bv known d) = refl

pub all_are_placed : {tree : Forest} {s : List ℕ} (root : Root) (d : IsDocument tree s) → all_placed (placed root d) ≡ responses root tree
all_are_placed root d = all_in_root root _ d.spells.declared.rooted.root
