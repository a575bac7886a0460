-- A piece taken byte by byte.
use Rattle.std.proofs.Common.{◌≡◌, ℕ, ◌+◌, ◌<◌, ◌≤◌, Bool, true, false, List, [], ◌∷◌, ◌++◌, length, take, drop, get_or, refl, ap, sym, ◌∙◌, subst, append_assoc, add-one, add-zero, add_assoc, arith, ◌-◌, length-drop, Some, None, inl, inr}
use Rattle.std.specs.Prelude.{◌⊎◌, ◌&&◌, ◌==◌}
use Rattle.std.proofs.lemmas.List.{append-nil, take-append-drop, get_or-drop}
use Rattle.std.proofs.Math.Seq.{drop-cons, take-add}
use Rattle.dav_xml.proofs.PieceLemmas.{rest_of}
use Rattle.dav_doc.specs.Characters as characters
use Rattle.dav_doc.specs.Characters.{Whole, owed_by}
use Rattle.dav_doc.specs.Document.{Event, Forest, IsDocument, events}
use Rattle.dav_doc.specs.Machine as machine
use Rattle.dav_doc.specs.Machine.{run, Ran, Begin, State}
use Rattle.dav_doc.proofs.Agreement.{whole_sound, whole_complete}
use Rattle.dav_markup.specs.Owing.{owed_in}
use Rattle.dav_xml.specs.declared.fault.XmlFault.{XmlFault}
use Rattle.dav_xml.specs.declared.fault.XmlFault.TheVariants as faults
use Rattle.dav_xml.specs.declared.scan.Scan.{Scan}
use Rattle.dav_xml.specs.declared.event.Lent.{Lent}
use Rattle.dav_xml.specs.declared.event.Lent.TheVariants as lents
use Rattle.dav_markup.specs.declared.character.Owed as owings_type
use Rattle.dav_markup.specs.declared.character.Owed.TheVariants as owings
use Rattle.dav_markup.specs.declared.scope.Open.{Open}
use Rattle.std.proofs.lemmas.Bool.{eqb-true}
use Rattle.dav_xml.specs.Ending.{is_outside, is_whole, is_over}
use Rattle.dav_xml.specs.Stands.{stack_of}
use Rattle.dav_xml.proofs.StackLemmas.{stack_none}
use Rattle.dav_xml.proofs.OverLemmas.{outside_over, over_outside, nothing_owed}
use Rattle.dav_xml.specs.Events.{lent_in, later_in, is_ready}
use Rattle.dav_xml.specs.Read.{HasRead, Feeds, Fails, Stops}
use Rattle.dav_xml.specs.declared.scan.Fed.{Fed}
use Rattle.dav_xml.specs.Reading.{begin}
use Rattle.dav_xml.proofs.ReadLemmas.{reads_run}

-- what a scanner has read, where only what it lends has changed
pub lends : (old new : Scan) (text : List ℕ) (given more : List Event) → HasRead old text given
    → new.position ≡ old.position → new.opens.items ≡ old.opens.items → new.owed ≡ old.owed → new.size ≡ old.size → new.depth ≡ old.depth → new.at ≡ old.at → new.fault ≡ old.fault
    → given ++ later_in old.lent ≡ more ++ later_in new.lent → HasRead new text more
lends old new text given more h p o w s d a f e = record {
  state = h.state;
  read = h.read
      ∙ ap (λ z. Some (record { stand = record { state = h.state; owed = owed_in old.owed; size = old.size }; events = z })) e
      ∙ ap (λ z. Some (record { stand = record { state = h.state; owed = owed_in z; size = old.size }; events = more ++ later_in new.lent })) (sym w)
      ∙ ap (λ z. Some (record { stand = record { state = h.state; owed = owed_in new.owed; size = z }; events = more ++ later_in new.lent })) (sym s);
  stands = rw (p, o) h.stands;
  depth = d ∙ h.depth ∙ ap length (sym o);
  at = a ∙ h.at;
  going = f ∙ h.going;
}

-- the events where nothing is to be lent later
pub given_now : (given : List Event) (lent : Lent) → later_in lent ≡ [] → given ++ later_in lent ≡ given
given_now given lent h = ap (λ z. given ++ z) h ∙ append-nil given

-- the byte at a place of the piece is the first with a fault
pub stops_at : (text piece : List ℕ) (given : List Event) (i b : ℕ) (fault : XmlFault) → i < length piece → b ≡ get_or piece i 0 → Fails (text ++ take i piece) given b fault → Stops text given piece fault
stops_at text piece given i b fault h e f = record {
  front = take i piece;
  byte = b;
  rest = drop (i + 1) piece;
  split = sym (take-append-drop i piece)
      ∙ ap (λ z. take i piece ++ z) (drop-cons piece i 0 h ∙ ap (λ k. get_or piece i 0 ∷ drop k piece) (sym (add-one i)))
      ∙ ap (λ z. take i piece ++ (z ∷ drop (i + 1) piece)) (sym e);
  fails = f;
}

pub waits : (lent : Lent) → is_ready lent ≡ false → lent ≡ lents.Nothing
waits lents.Nothing h = refl
waits (lents.Chars few) h = absurd cc
waits (lents.Run bytes) h = absurd cc
waits (lents.Start depth ns name empty) h = absurd cc
waits (lents.End depth) h = absurd cc

some_owed : (x y : characters.Owed) → Some x ≡ Some y → x ≡ y
some_owed x y h = cc

some_state : (x y : Ran) → Some x ≡ Some y → x.state ≡ y.state
some_state x y h = let k : x ≡ y = cc in ap (λ z. z.state) k

-- where a document is over
-- the parts of a test
and_parts : (x y z : Bool) → (x && y && z) ≡ true → (x ≡ true) × (y ≡ true) × (z ≡ true)
and_parts true true true h = (refl, refl, refl)
and_parts true true false h = absurd cc
and_parts true false z h = absurd cc
and_parts false y z h = absurd cc

whole_by : (o : owings_type.Owed) → is_whole o ≡ true → o ≡ owings.Whole
whole_by owings.Whole h = refl
whole_by (owings.Owes low high further) h = absurd cc
whole_by owings.Special h = absurd cc

none_by : (opens : List Open) → (length opens == 0) ≡ true → opens ≡ []
none_by [] h = refl
none_by (o ∷ opens) h = let k : length (o ∷ opens) ≡ 0 = eqb-true (length (o ∷ opens)) 0 h in absurd (omega arith)

pub over_whole : (scan : Scan) (text : List ℕ) (given : List Event) → HasRead scan text given → is_over scan ≡ true
    → (tree : Forest) × IsDocument tree text × (events 1 tree ≡ given ++ later_in scan.lent)
over_whole scan text given h over =
    let parts = and_parts (is_whole scan.owed) (length scan.opens.items == 0) (is_outside scan.position) over in
    let w = whole_by scan.owed parts.0 in
    let o = none_by scan.opens.items parts.1 in
    let p = parts.2 in
    let ran = reads_run text begin _ h.read in
    let e : h.state ≡ machine.Text [] machine.Zero =
    outside_over scan.position (stack_of scan.opens.items) h.state p h.stands ∙ ap (λ z. machine.Text (stack_of z) machine.Zero) o in
    let d = whole_sound text (given ++ later_in scan.lent) (ran.owed ∙ ap (λ z. Some (owed_in z)) w)
    (ran.run ∙ ap (λ z. Some (record { state = z; events = given ++ later_in scan.lent })) e) in
    (d.0, d.1, sym d.2)

pub over_cut : (scan : Scan) (text : List ℕ) (given : List Event) → HasRead scan text given → is_over scan ≡ false → (tree : Forest) → IsDocument tree text → ⊥
over_cut scan text given h cut tree is =
    let ran = reads_run text begin _ h.read in
    let k = whole_complete tree text is in
    let o : owed_in scan.owed ≡ Whole = some_owed (owed_in scan.owed) Whole (sym ran.owed ∙ k.0) in
    let e : h.state ≡ machine.Text [] machine.Zero = some_state _ _ (sym ran.run ∙ k.1) in
    let over = over_outside scan.position (stack_of scan.opens.items) h.state h.stands e in
    let w : is_whole scan.owed ≡ true = ap is_whole (nothing_owed scan.owed o) in
    let z : (length scan.opens.items == 0) ≡ true = ap (λ (q : List Open). length q == 0) (stack_none scan.opens.items over.closed) in
    let k : true ≡ false =
    sym (ap (λ q. q && (length scan.opens.items == 0) && is_outside scan.position) w ∙ ap (λ q. true && q && is_outside scan.position) z ∙ ap (λ q. true && true && q) over.outside) ∙ cut in
    cc

-- what holds behind so many bytes of the piece, none of which gave an event
pub record HasFed (old now : Scan) (piece : List ℕ) (i : ℕ) : Type 0 where
  pub at : now.at ≡ old.at + i
  pub within : i ≤ length piece
  pub quiet : now.lent ≡ lents.Nothing
  pub read : (text : List ℕ) (given : List Event) → HasRead old text given → HasRead now (text ++ take i piece) given

pub fed_none : (old now : Scan) (piece : List ℕ) → later_in old.lent ≡ []
    → now.position ≡ old.position → now.opens.items ≡ old.opens.items → now.owed ≡ old.owed → now.size ≡ old.size → now.depth ≡ old.depth → now.at ≡ old.at → now.fault ≡ old.fault
    → now.lent ≡ lents.Nothing → HasFed old now piece 0
fed_none old now piece l p o w s d a f n = record {
  at = a ∙ sym (add-zero old.at);
  within = omega arith;
  quiet = n;
  read = λ text given h.
      let k : given ++ later_in old.lent ≡ given ++ later_in now.lent = ap (λ z. given ++ z) (l ∙ sym (ap later_in n)) in
      rw append-nil (lends old now text given given h p o w s d a f k);
}

-- what is left of the piece
abbrev pub left_of : List ℕ → ℕ → List ℕ
left_of piece i = take (length piece - i) (drop i piece)

pub left_length : (piece : List ℕ) (i : ℕ) → length (left_of piece i) ≡ length piece - i
left_length piece i = ap length (rest_of piece i) ∙ length-drop i piece

-- a front of the piece with more bytes
more_taken : (text piece : List ℕ) (i n : ℕ) → (text ++ take i piece) ++ take n (left_of piece i) ≡ text ++ take (i + n) piece
more_taken text piece i n =
    append_assoc text (take i piece) (take n (left_of piece i)) ∙ ap (λ z. text ++ (take i piece ++ take n z)) (rest_of piece i)
    ∙ ap (λ z. text ++ z) (sym (take-add i n piece))

-- more bytes are within the piece
pub more_within : (piece : List ℕ) (i n : ℕ) → i ≤ length piece → n ≤ length (left_of piece i) → i + n ≤ length piece
more_within piece i n h m = let k : length (left_of piece i) ≡ length piece - i = left_length piece i in omega (arith, h, m, k)

-- the next bytes, which gave no event
pub fed_more : (old now new : Scan) (piece : List ℕ) (i n : ℕ) → HasFed old now piece i → n ≤ length (left_of piece i) → new.at ≡ now.at + n
    → ((text : List ℕ) (given : List Event) → HasRead now text given → HasRead new (text ++ take n (left_of piece i)) (given ++ lent_in new.lent))
    → is_ready new.lent ≡ false → HasFed old new piece (i + n)
fed_more old now new piece i n f h a t r =
    let w = waits new.lent r in
    record {
      at = a ∙ ap (λ z. z + n) f.at ∙ add_assoc old.at i n;
      within = more_within piece i n f.within h;
      quiet = w;
      read = λ text given k.
          let x = t (text ++ take i piece) given (f.read text given k) in
          let q : given ++ lent_in new.lent ≡ given = ap (λ z. given ++ lent_in z) w ∙ append-nil given in
          subst (λ (z : List ℕ). HasRead new z given) (more_taken text piece i n)
          (subst (λ (z : List Event). HasRead new ((text ++ take i piece) ++ take n (left_of piece i)) z) q x);
    }

-- the next bytes, which gave one
pub fed_ready : (old now new : Scan) (text piece : List ℕ) (given : List Event) (i n : ℕ) (fed : Fed) → HasFed old now piece i → n ≤ length (left_of piece i)
    → ((text : List ℕ) (given : List Event) → HasRead now text given → HasRead new (text ++ take n (left_of piece i)) (given ++ lent_in new.lent))
    → is_ready new.lent ≡ true → fed.used ≡ i + n → fed.ready ≡ true → HasRead old text given → Feeds text given piece fed new
fed_ready old now new text piece given i n fed f h t r u y k =
    let x = t (text ++ take i piece) given (f.read text given k) in
    let p : (text ++ take i piece) ++ take n (left_of piece i) ≡ text ++ take fed.used piece = more_taken text piece i n ∙ ap (λ z. text ++ take z piece) (sym u) in
    let w = more_within piece i n f.within h in
    record {
      within = omega (arith, u, w);
      read = subst (λ (z : List ℕ). HasRead new z (given ++ lent_in new.lent)) p x;
      ready = y ∙ sym r;
      all = λ z. let q : true ≡ false = sym y ∙ z in absurd cc;
    }

-- no byte is left
pub fed_all : (old now : Scan) (text piece : List ℕ) (given : List Event) (i : ℕ) (fed : Fed) → HasFed old now piece i → length piece ≤ i
    → fed.used ≡ i → fed.ready ≡ false → HasRead old text given → Feeds text given piece fed now
fed_all old now text piece given i fed f h u y k =
    let w = f.within in
    let q : given ≡ given ++ lent_in now.lent = sym (append-nil given) ∙ ap (λ z. given ++ lent_in z) (sym f.quiet) in
    record {
      within = omega (arith, u, w);
      read =
          subst (λ (z : List Event). HasRead now (text ++ take fed.used piece) z) q
          (subst (λ (z : ℕ). HasRead now (text ++ take z piece) given) (sym u) (f.read text given k));
      ready = y ∙ ap is_ready (sym f.quiet);
      all = λ _. omega (arith, u, w, h);
    }

-- the end of an empty element
pub fed_later : (old new : Scan) (text piece : List ℕ) (given : List Event) (fed : Fed)
    → new.position ≡ old.position → new.opens.items ≡ old.opens.items → new.owed ≡ old.owed → new.size ≡ old.size → new.depth ≡ old.depth → new.at ≡ old.at → new.fault ≡ old.fault
    → lent_in new.lent ≡ later_in old.lent → later_in new.lent ≡ [] → is_ready new.lent ≡ true → fed.used ≡ 0 → fed.ready ≡ true → HasRead old text given → Feeds text given piece fed new
fed_later old new text piece given fed p o w s d a e l n r u y k =
    let v : given ++ later_in old.lent ≡ (given ++ lent_in new.lent) ++ later_in new.lent =
    ap (λ z. given ++ z) (sym l) ∙ sym (append-nil (given ++ lent_in new.lent)) ∙ ap (λ z. (given ++ lent_in new.lent) ++ z) (sym n) in
    let x = lends old new text given (given ++ lent_in new.lent) k p o w s d a e v in
    let q : text ≡ text ++ take fed.used piece = sym (append-nil text) ∙ ap (λ z. text ++ take z piece) (sym u) in
    record {
      within = omega (arith, u);
      read = subst (λ (z : List ℕ). HasRead new z (given ++ lent_in new.lent)) q x;
      ready = y ∙ sym r;
      all = λ z. let f : true ≡ false = sym y ∙ z in absurd cc;
    }

-- a scanner with a fault has that one, and has read nothing
pub stopped : (scan : Scan) (one other : XmlFault) → scan.fault ≡ Some one → scan.fault ≡ Some other → one ≡ other
stopped scan one other h g = cc

pub going_not : (scan : Scan) (text : List ℕ) (given : List Event) (fault : XmlFault) → HasRead scan text given → scan.fault ≡ Some fault → ⊥
going_not scan text given fault h e = let k : None ≡ Some fault = sym h.going ∙ e in cc

by_fault : (text piece : List ℕ) (given : List Event) (i b : ℕ) (fault : XmlFault) → i < length piece → b ≡ get_or piece i 0
    → (fault ≡ faults.Memory) ⊎ Fails (text ++ take i piece) given b fault → (fault ≡ faults.Memory) ⊎ Stops text given piece fault
by_fault text piece given i b fault h e (inl m) = inl m
by_fault text piece given i b fault h e (inr f) = inr (stops_at text piece given i b fault h e f)

first_left : (piece : List ℕ) (i : ℕ) → get_or (left_of piece i) 0 0 ≡ get_or piece i 0
first_left piece i = ap (λ z. get_or z 0 0) (rest_of piece i) ∙ get_or-drop i piece 0 0 ∙ ap (λ z. get_or piece z 0) (add-zero i)

-- the next byte met a fault
pub fed_stops : (old now : Scan) (text piece : List ℕ) (given : List Event) (i : ℕ) (fault : XmlFault) → HasFed old now piece i → i < length piece
    → ((text : List ℕ) (given : List Event) → HasRead now text given → (fault ≡ faults.Memory) ⊎ Fails text given (get_or (left_of piece i) 0 0) fault)
    → HasRead old text given → (fault ≡ faults.Memory) ⊎ Stops text given piece fault
fed_stops old now text piece given i fault f h t k =
    by_fault text piece given i (get_or (left_of piece i) 0 0) fault h (first_left piece i) (t (text ++ take i piece) given (f.read text given k))
