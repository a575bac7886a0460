-- A whole text gathered to a tree.
use Rattle.std.proofs.Common.{◌≡◌, ℕ, ◌+◌, ◌<◌, ◌⊎◌, inl, inr, Bool, true, false, List, [], ◌∷◌, ◌++◌, length, length-append, take, drop, take_all, refl, ap, sym, ◌∙◌, append_assoc, append-nil, subst, Option, Some, None, arith}
use Rattle.std.proofs.lemmas.List.{take-append-drop}
use Rattle.std.specs.Prelude.{not}
use Rattle.dav_doc.specs.Document.{Forest, Event, IsDocument, events}
use Rattle.dav_text.specs.declared.which.Which.{Which}
use Rattle.dav_xml.specs.declared.document.Tree.{Tree}
use Rattle.dav_xml.specs.declared.event.Lent.{Lent}
use Rattle.dav_xml.specs.declared.event.Lent.TheVariants as lents
use Rattle.dav_xml.specs.declared.fault.XmlFault.{XmlFault}
use Rattle.dav_xml.specs.declared.fault.XmlFault.TheVariants as faults
use Rattle.dav_xml.specs.declared.scan.Fed.{Fed}
use Rattle.dav_xml.specs.declared.scan.Scan.{Scan}
use Rattle.dav_xml.specs.Events.{lent_in, later_in, is_ready}
use Rattle.dav_xml.specs.Nodes.{parts, grown, bytes_at, parts_in, parts_from, HasGrown, Gathered, Breaks, FirstFault}
use Rattle.dav_xml.specs.Read.{HasRead, Feeds, Stops, Why, lent as lent_of}
use Rattle.dav_xml.specs.Reading.{Stand, Reading, Verdict, Refused, Passes, Goes, begin, next, on_verdict, behind, reads}
use Rattle.dav_xml.proofs.LawLemmas.{bad_never}
use Rattle.dav_xml.proofs.NodeLemmas.{whole_parts}
use Rattle.dav_xml.proofs.ReadLemmas.{reads_append, on_reading}

-- the front of the text is gathered
pub record Midway (scan : Scan) (tree : Tree) (text rest : List ℕ) : Type 0 where
  pub front : List ℕ
  pub split : text ≡ front ++ rest
  pub given : List Event
  pub read : HasRead scan front given
  pub grown : HasGrown tree given

pub midway_begins : (scan : Scan) (tree : Tree) (text : List ℕ) → HasRead scan [] [] → HasGrown tree [] → Midway scan tree text text
midway_begins scan tree text h g = record { front = []; split = refl; given = []; read = h; grown = g }

pub midway_room : (scan : Scan) (tree : Tree) (text rest : List ℕ) → Midway scan tree text rest → length text < 18446744073709551616 → scan.at + length rest < 18446744073709551616
midway_room scan tree text rest m n =
    let a = m.read.at in
    let e : length text ≡ length m.front + length rest = ap length m.split ∙ length-append m.front rest in
    omega (arith, a, e, n)

pub midway_on : (scan next : Scan) (tree new : Tree) (text rest left : List ℕ) (fed : Fed) → (m : Midway scan tree text rest) → Feeds m.front m.given rest fed next
    → left ≡ drop fed.used rest → HasGrown new (m.given ++ lent_of next) → Midway next new text left
midway_on scan next tree new text rest left fed m f e g = record {
  front = m.front ++ take fed.used rest;
  split =
      m.split ∙ ap (λ z. m.front ++ z) (sym (take-append-drop fed.used rest)) ∙ sym (append_assoc m.front (take fed.used rest) (drop fed.used rest))
      ∙ ap (λ z. (m.front ++ take fed.used rest) ++ z) (sym e);
  given = m.given ++ lent_of next;
  read = f.read;
  grown = g;
}

nothing_lent : (lent : Lent) → is_ready lent ≡ false → (lent_in lent ≡ []) × (later_in lent ≡ [])
nothing_lent lents.Nothing e = (refl, refl)
nothing_lent (lents.Chars few) e = cc
nothing_lent (lents.Run bytes) e = cc
nothing_lent (lents.Start depth ns name empty) e = cc
nothing_lent (lents.End depth) e = cc

not_ready : (ready : Bool) → not ready ≡ true → ready ≡ false
not_ready true e = cc
not_ready false e = refl

-- the text is through
pub midway_through : (scan next : Scan) (tree : Tree) (text rest : List ℕ) (fed : Fed) → (m : Midway scan tree text rest) → Feeds m.front m.given rest fed next
    → not fed.ready ≡ true → Gathered next text tree
midway_through scan next tree text rest fed m f n =
    let r = not_ready fed.ready n in
    let q = nothing_lent next.lent (sym f.ready ∙ r) in
    let P : List ℕ → Type 0 = λ s. HasRead next s m.given in
    let Q : List Event → Type 0 = λ e. HasRead next (m.front ++ take fed.used rest) e in
    let read : HasRead next (m.front ++ take fed.used rest) m.given = subst Q (ap (λ e. m.given ++ e) q.0 ∙ append-nil m.given) f.read in
    record {
      given = m.given;
      read = subst P (ap (λ z. m.front ++ z) (take_all fed.used rest (omega (arith, f.all r))) ∙ sym m.split) read;
      quiet = q.1;
      grown = m.grown;
    }

-- the scanner refuses a byte
pub midway_stops : (scan : Scan) (tree : Tree) (text rest : List ℕ) (fault : XmlFault) → (m : Midway scan tree text rest) → Stops m.front m.given rest fault → Breaks text fault
midway_stops scan tree text rest fault m s = record {
  given = m.given;
  stops = record {
    front = m.front ++ s.front;
    byte = s.byte;
    rest = s.rest;
    split = m.split ∙ ap (λ z. m.front ++ z) s.split ∙ sym (append_assoc m.front s.front (s.byte ∷ s.rest));
    fails = s.fails;
  };
}

pub midway_fails : (scan : Scan) (tree : Tree) (text rest : List ℕ) (fault : XmlFault) → (m : Midway scan tree text rest)
    → (fault ≡ faults.Memory) ⊎ Stops m.front m.given rest fault → (fault ≡ faults.Memory) ⊎ Breaks text fault
midway_fails scan tree text rest fault m (inl e) = inl e
midway_fails scan tree text rest fault m (inr s) = inr (midway_stops scan tree text rest fault m s)

-- what stops a text is its first fault
pub breaks_first : (text : List ℕ) (fault : XmlFault) → (fault ≡ faults.Memory) ⊎ Breaks text fault → (fault ≡ faults.Memory) ⊎ FirstFault text fault
breaks_first text fault (inl e) = inl e
breaks_first text (faults.Bad at) (inr b) = inr b
breaks_first text (faults.Limit which) (inr b) = inr b
breaks_first text faults.Cut (inr b) = absurd b.stops.fails.why
breaks_first text faults.Memory (inr b) = inl refl

-- at the end of a text that is no document
pub cut_first : (scan : Scan) (tree : Tree) (text : List ℕ) (fault : XmlFault) → (g : Gathered scan text tree)
    → (fault ≡ faults.Cut) × ((f : Forest) → IsDocument f text → ⊥) → (fault ≡ faults.Memory) ⊎ FirstFault text fault
cut_first scan tree text fault g k =
    let P : XmlFault → Type 0 = λ z. (z ≡ faults.Memory) ⊎ FirstFault text z in
    subst P (sym k.0) (inr (record { reading = _; read = g.read.read; none = k.1 }))

nothing_waits : (tree : Tree) → tree.text.items ≡ [] → parts_in tree.nodes.items ++ [] ≡ grown tree
nothing_waits tree t = ap (λ z. parts_in tree.nodes.items ++ bytes_at tree.depth z) (sym t)

-- at the end of a document
pub gathered_whole : (scan : Scan) (tree last : Tree) (text : List ℕ) → (g : Gathered scan text tree)
    → (f : Forest) × IsDocument f text × (events 1 f ≡ g.given ++ later_in scan.lent)
    → HasGrown last g.given → last.text.items ≡ [] → (f : Forest) × IsDocument f text × (parts_in last.nodes.items ≡ parts 0 f)
gathered_whole scan tree last text g k h t =
    let e : events 1 k.0 ≡ g.given = k.2 ∙ ap (λ z. g.given ++ z) g.quiet ∙ append-nil g.given in
    (k.0, k.1, sym (append-nil (parts_in last.nodes.items)) ∙ nothing_waits last t ∙ h.parts ∙ ap (parts_from 0) (sym e) ∙ whole_parts k.0)

-- a text with a fault at a byte is not read whole
no_reading : (text : List ℕ) (x : Stand) (b : ℕ) (rest : List ℕ) (e : List Event) (v : Verdict) → next x b ≡ v → ((y : Stand) (f : List Event) → v ≡ Goes y f → ⊥)
    → reads text begin ≡ Some (record { stand = x; events = e }) → reads (text ++ (b ∷ rest)) begin ≡ None
no_reading text x b rest e Refused n g h = reads_append text (b ∷ rest) begin ∙ ap (λ z. on_reading z (b ∷ rest)) h ∙ ap (λ z. behind e (on_verdict z (reads rest))) n
no_reading text x b rest e (Passes which) n g h = reads_append text (b ∷ rest) begin ∙ ap (λ z. on_reading z (b ∷ rest)) h ∙ ap (λ z. behind e (on_verdict z (reads rest))) n
no_reading text x b rest e (Goes y f) n g h = absurd (g y f refl)

refused_goes : (y : Stand) (f : List Event) → Refused ≡ Goes y f → ⊥
refused_goes y f h = cc

passes_goes : (which : Which) (y : Stand) (f : List Event) → Passes which ≡ Goes y f → ⊥
passes_goes which y f h = cc

why_none : (text : List ℕ) (x : Stand) (b : ℕ) (rest : List ℕ) (e : List Event) (fault : XmlFault) → Why text x b fault
    → reads text begin ≡ Some (record { stand = x; events = e }) → reads (text ++ (b ∷ rest)) begin ≡ None
why_none text x b rest e (faults.Bad at) w h = no_reading text x b rest e Refused w.1 refused_goes h
why_none text x b rest e (faults.Limit which) w h = no_reading text x b rest e (Passes which) w (passes_goes which) h
why_none text x b rest e faults.Cut w h = absurd w
why_none text x b rest e faults.Memory w h = absurd w

breaks_none : (text : List ℕ) (fault : XmlFault) → Breaks text fault → reads text begin ≡ None
breaks_none text fault k =
    let s = k.stops in
    ap (λ z. reads z begin) s.split ∙ why_none s.front s.fails.stand s.byte s.rest k.given fault s.fails.why s.fails.read

not_both : (o : Option Reading) (r : Reading) → o ≡ Some r → o ≡ None → ⊥
not_both o r h k = let e : Some r ≡ None = sym h ∙ k in cc

-- a document whose bytes are all read has no fault
pub read_faultless : (text : List ℕ) (fault : XmlFault) (tree : Forest) (r : Reading) → IsDocument tree text → reads text begin ≡ Some r → FirstFault text fault → ⊥
read_faultless text (faults.Bad at) tree r d h k = not_both (reads text begin) r h (breaks_none text (faults.Bad at) k)
read_faultless text (faults.Limit which) tree r d h k = not_both (reads text begin) r h (breaks_none text (faults.Limit which) k)
read_faultless text faults.Cut tree r d h k = k.none tree d
read_faultless text faults.Memory tree r d h k = k

-- a document has none but a limit
pub spelled_limit : (text : List ℕ) (fault : XmlFault) (tree : Forest) → IsDocument tree text → FirstFault text fault → (which : Which) × (fault ≡ faults.Limit which)
spelled_limit text (faults.Bad at) tree d k =
    let s = k.stops in
    let P : List ℕ → Type 0 = λ z. IsDocument tree z in
    absurd (bad_never s.front k.given s.byte at s.fails s.rest tree (subst P (s.split ∙ sym (append_assoc s.front (s.byte ∷ []) s.rest)) d))
spelled_limit text (faults.Limit which) tree d k = (which, refl)
spelled_limit text faults.Cut tree d k = absurd (k.none tree d)
spelled_limit text faults.Memory tree d k = absurd k
