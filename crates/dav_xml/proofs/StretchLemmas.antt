-- The machines over a stretch of bytes.
use Rattle.std.proofs.Common.{◌≡◌, ℕ, suc, ◌+◌, ◌<◌, ◌≤◌, Bool, true, false, List, [], ◌∷◌, ◌++◌, length, take, drop, get_or, refl, ap, sym, ◌∙◌, add-one, arith, Option, Some, None}
use Rattle.std.specs.Prelude.{◌==◌, ◌||◌, not, nat_le, if◌then◌else◌}
use Rattle.std.proofs.lemmas.Bool.Decides.{nat_tests}
use Rattle.std.proofs.Math.Seq.{drop-cons}
use Rattle.dav_doc.specs.Bytes as bytes
use Rattle.dav_doc.specs.Bytes.{kind, name_kind, in_name}
use Rattle.dav_doc.specs.Characters.{Owed, owed_after, owed_by, on_owed}
use Rattle.dav_doc.specs.Document.{Event, Char}
use Rattle.dav_doc.specs.Machine as machine
use Rattle.dav_doc.specs.Machine.{State, Text, To, step, on, text_by, bracket_by, chars, longer, name_next, end_next}
use Rattle.dav_doc.specs.Names.{Name, Plain, Qualified, written}
use Rattle.dav_doc.proofs.KindFacts.{Shows, shows}
use Rattle.dav_markup.specs.End.{end_at}
use Rattle.dav_markup.specs.Name.{is_begun}
use Rattle.dav_markup.specs.Stretch.{is_plain, after_all, longer_by}
use Rattle.dav_markup.proofs.EndLemmas.{named}
use Rattle.dav_text.specs.declared.which.Which.TheVariants as which
use Rattle.dav_xml.specs.Reading.{is_tag, tag_limit, Stand, begin, Goes, next, on_verdict, behind, reads}
use Rattle.dav_xml.proofs.ReadLemmas.{reads_append, on_reading}
use Rattle.dav_xml.proofs.TakeLemmas.{goes_on, end_tag}

-- a text, and then another
pub reads_then : (s u : List ℕ) (x y : Stand) (e f : List Event) → reads s begin ≡ Some (record { stand = x; events = e }) → reads u x ≡ Some (record { stand = y; events = f })
    → reads (s ++ u) begin ≡ Some (record { stand = y; events = e ++ f })
reads_then s u x y e f h g = reads_append s u begin ∙ ap (λ z. on_reading z u) h ∙ ap (behind e) g

-- a byte, and then a text
pub reads_cons : (b : ℕ) (s : List ℕ) (x y z : Stand) (e f : List Event) → next x b ≡ Goes y e → reads s y ≡ Some (record { stand = z; events = f })
    → reads (b ∷ s) x ≡ Some (record { stand = z; events = e ++ f })
reads_cons b s x y z e f h g = ap (λ v. on_verdict v (reads s)) h ∙ ap (behind e) g

-- a byte that stands for itself

five : (x y z u v : Bool) → not (x || y || z || u || v) ≡ true → (z ≡ false) × (u ≡ false)
five true y z u v h = absurd cc
five false true z u v h = absurd cc
five false false true u v h = absurd cc
five false false false true v h = absurd cc
five false false false false v h = (refl, refl)

plain_to : (o : machine.Open) (os : List machine.Open) (b : ℕ) (x : Bool) → x ≡ false
    → To (Text (o ∷ os) (bracket_by machine.Zero x)) (Char b ∷ []) ≡ To (Text (o ∷ os) machine.Zero) (Char b ∷ [])
plain_to o os b x h = ap (λ z. To (Text (o ∷ os) (bracket_by machine.Zero z)) (Char b ∷ [])) h

plain_by : (o : machine.Open) (os : List machine.Open) (b : ℕ) (k : bytes.Kind) → Shows b k → is_plain b ≡ true → (b == 13) ≡ false → (b == 93) ≡ false
    → machine.text_step o os machine.Zero b k ≡ To (Text (o ∷ os) machine.Zero) (Char b ∷ [])
plain_by o os b bytes.Less s h r e = let k : true ≡ false = sym h ∙ ap is_plain s in absurd cc
plain_by o os b bytes.Ampersand s h r e = let k : true ≡ false = sym h ∙ ap is_plain s in absurd cc
plain_by o os b bytes.Blank s h r e =
    ap (λ z. on z (To (machine.Return o os) (Char 10 ∷ [])) (text_by o os machine.Zero b false)) r ∙ plain_to o os b (b == 93) e
plain_by o os b bytes.Greater s h r e = plain_to o os b (b == 93) e
plain_by o os b bytes.DoubleQuote s h r e = plain_to o os b (b == 93) e
plain_by o os b bytes.SingleQuote s h r e = plain_to o os b (b == 93) e
plain_by o os b bytes.Equals s h r e = plain_to o os b (b == 93) e
plain_by o os b bytes.Slash s h r e = plain_to o os b (b == 93) e
plain_by o os b bytes.Colon s h r e = plain_to o os b (b == 93) e
plain_by o os b bytes.Exclamation s h r e = plain_to o os b (b == 93) e
plain_by o os b bytes.Letter s h r e = plain_to o os b (b == 93) e
plain_by o os b bytes.Digit s h r e = plain_to o os b (b == 93) e
plain_by o os b bytes.Other s h r e = plain_to o os b (b == 93) e

plain_step : (o : machine.Open) (os : List machine.Open) (b : ℕ) → is_plain b ≡ true → step (Text (o ∷ os) machine.Zero) b ≡ To (Text (o ∷ os) machine.Zero) (Char b ∷ [])
plain_step o os b h =
    let k = five (b == 60) (b == 38) (b == 13) (b == 93) (b == 62) h in plain_by o os b (kind b) (shows b) h k.0 k.1

abbrev pub in_text_at : machine.Open → List machine.Open → Owed → Stand
in_text_at o os w = record { state = Text (o ∷ os) machine.Zero; owed = w; size = 0 }

-- text that stands for itself
module _ (o : machine.Open) (os : List machine.Open) where
  text_by_byte : (b : ℕ) (s : List ℕ) (w v : Owed) (t : Bool) (q : Option Owed) → is_plain b ≡ t → owed_after w b ≡ q
      → on_owed (if t then q else None) (after_all is_plain s) ≡ Some v
      → ((y : Owed) → after_all is_plain s y ≡ Some v → reads s (in_text_at o os y) ≡ Some (record { stand = in_text_at o os v; events = chars s }))
      → reads (b ∷ s) (in_text_at o os w) ≡ Some (record { stand = in_text_at o os v; events = chars (b ∷ s) })
  text_by_byte b s w v false q h g a f = absurd cc
  text_by_byte b s w v true None h g a f = absurd cc
  text_by_byte b s w v true (Some y) h g a f =
      reads_cons b s (in_text_at o os w) (in_text_at o os y) (in_text_at o os v) (Char b ∷ []) (chars s)
      (goes_on (in_text_at o os w) b 0 y (Text (o ∷ os) machine.Zero) (Char b ∷ []) g (plain_step o os b h) refl refl) (f y a)

  pub reads_text : (s : List ℕ) (w v : Owed) → after_all is_plain s w ≡ Some v → reads s (in_text_at o os w) ≡ Some (record { stand = in_text_at o os v; events = chars s })
  reads_text [] w v h = let e : w ≡ v = cc in ap (λ z. Some (record { stand = in_text_at o os z; events = [] })) e
  reads_text (b ∷ s) w v h = text_by_byte b s w v (is_plain b) (owed_after w b) refl refl h (λ y. reads_text s y v)

-- a byte in a tag has room
small : (size : ℕ) → size < 65536 → tag_limit size ≡ None
small size h = let k : nat_le 65536 size ≡ false = grind (arith, nat_tests) in ap (λ (z : Bool). if z then Some which.Tag else None) k

tag_goes : (x : Stand) (b : ℕ) (o : Owed) (new : State) → owed_after x.owed b ≡ Some o → step x.state b ≡ To new [] → is_tag new ≡ true → x.size < 65536
    → next x b ≡ Goes (record { state = new; owed = o; size = x.size + 1 }) []
tag_goes x b o new h g t n = goes_on x b (x.size + 1) o new [] h g (small x.size n) (ap (λ z. if z then x.size + 1 else 0) t)

-- a name of a start tag
begun_longer : (n : Name) (b : ℕ) → is_begun n ≡ true → is_begun (longer n b) ≡ true
begun_longer (Plain l) b h = refl
begun_longer (Qualified p []) b h = absurd cc
begun_longer (Qualified p (c ∷ l)) b h = refl

digit_begun : (n : Name) (b : ℕ) → is_begun n ≡ true → machine.digit_longer n b ≡ Some (longer n b)
digit_begun (Plain l) b h = refl
digit_begun (Qualified p []) b h = absurd cc
digit_begun (Qualified p (c ∷ l)) b h = refl

begun_next : (n : Name) (b : ℕ) (k : bytes.Kind) → name_kind k ≡ true → is_begun n ≡ true → name_next n b k ≡ Some (longer n b)
begun_next n b bytes.Letter h g = refl
begun_next n b bytes.Digit h g = digit_begun n b g
begun_next n b k h g = absurd cc

-- the machine in such names, whatever is around them
module _ (at : Name → State) (tags : (n : Name) → is_tag (at n) ≡ true)
    (moves : (n : Name) (b : ℕ) → name_next n b (kind b) ≡ Some (longer n b) → step (at n) b ≡ To (at (longer n b)) []) where
  abbrev pub naming : Name → Owed → ℕ → Stand
  naming n w size = record { state = at n; owed = w; size = size }

  name_by_byte : (n : Name) (b : ℕ) (s : List ℕ) (w v : Owed) (size : ℕ) (t : Bool) (q : Option Owed) → in_name b ≡ t → owed_after w b ≡ q
      → on_owed (if t then q else None) (after_all in_name s) ≡ Some v → is_begun n ≡ true → size < 65536
      → ((y : Owed) → after_all in_name s y ≡ Some v
      → reads s (naming (longer n b) y (size + 1)) ≡ Some (record { stand = naming (longer_by (longer n b) s) v (size + 1 + length s); events = [] }))
      → reads (b ∷ s) (naming n w size) ≡ Some (record { stand = naming (longer_by (longer n b) s) v (size + 1 + length s); events = [] })
  name_by_byte n b s w v size false q h g a i m f = absurd cc
  name_by_byte n b s w v size true None h g a i m f = absurd cc
  name_by_byte n b s w v size true (Some y) h g a i m f =
      reads_cons b s (naming n w size) (naming (longer n b) y (size + 1)) _ [] []
      (tag_goes (naming n w size) b y (at (longer n b)) g (moves n b (begun_next n b (kind b) h i)) (tags (longer n b)) m) (f y a)

  pub reads_name : (s : List ℕ) (n : Name) (w v : Owed) (size : ℕ) → is_begun n ≡ true → size + length s ≤ 65536 → after_all in_name s w ≡ Some v
      → reads s (naming n w size) ≡ Some (record { stand = naming (longer_by n s) v (size + length s); events = [] })
  reads_name [] n w v size i m h =
      let e : w ≡ v = cc in let k : size ≡ size + 0 = omega arith in
      ap (λ z. Some (record { stand = naming n z size; events = [] })) e ∙ ap (λ z. Some (record { stand = naming n v z; events = [] })) k
  reads_name (b ∷ s) n w v size i m h =
      let k : size + 1 + length s ≡ size + length (b ∷ s) = omega arith in
      let l : size < 65536 = omega arith in
      let j : size + 1 + length s ≤ 65536 = omega arith in
      name_by_byte n b s w v size (in_name b) (owed_after w b) refl refl h i l
      (λ y. reads_name s (longer n b) y v (size + 1) (begun_longer n b i) j)
      ∙ ap (λ z. Some (record { stand = naming (longer_by (longer n b) s) v z; events = [] })) k

-- the name of an end tag
module _ (o : machine.Open) (os : List machine.Open) where
  abbrev pub ending : ℕ → Owed → ℕ → Stand
  ending came w size = record { state = end_at o os came; owed = w; size = size }

  end_by_byte : (came : ℕ) (b : ℕ) (s : List ℕ) (w v : Owed) (size : ℕ) (q : Option Owed) → owed_after w b ≡ q → on_owed q (owed_by s) ≡ Some v
      → b ≡ get_or (written o.name) came 0 → came < length (written o.name) → size < 65536
      → ((y : Owed) → owed_by s y ≡ Some v
      → reads s (ending (came + 1) y (size + 1)) ≡ Some (record { stand = ending (came + 1 + length s) v (size + 1 + length s); events = [] }))
      → reads (b ∷ s) (ending came w size) ≡ Some (record { stand = ending (came + 1 + length s) v (size + 1 + length s); events = [] })
  end_by_byte came b s w v size None g a e c m f = absurd cc
  end_by_byte came b s w v size (Some y) g a e c m f =
      let t : true ≡ (b == get_or (written o.name) came 0) = grind (arith, nat_tests) in
      let k : step (end_at o os came) b ≡ To (end_at o os (came + 1)) [] = named o os came b (written o.name) true refl c t in
      reads_cons b s (ending came w size) (ending (came + 1) y (size + 1)) _ [] []
      (tag_goes (ending came w size) b y (end_at o os (came + 1)) g k (end_tag o os (take (came + 1) (written o.name)) (drop (came + 1) (written o.name))) m) (f y a)

  -- a front of what is left of the name
  front_of : (b c : ℕ) (s t : List ℕ) → b ∷ s ≡ take (suc (length s)) (c ∷ t) → (b ≡ c) × (s ≡ take (length s) t)
  front_of b c s t h = let k : b ∷ s ≡ c ∷ take (length s) t = h in (cc, cc)

  pub reads_end : (s : List ℕ) (came : ℕ) (w v : Owed) (size : ℕ) → s ≡ take (length s) (drop came (written o.name)) → came + length s ≤ length (written o.name)
      → size + length s ≤ 65536 → owed_by s w ≡ Some v
      → reads s (ending came w size) ≡ Some (record { stand = ending (came + length s) v (size + length s); events = [] })
  reads_end [] came w v size e c m h =
      let d : w ≡ v = cc in let k : size ≡ size + 0 = omega arith in let l : came ≡ came + 0 = omega arith in
      ap (λ z. Some (record { stand = ending came z size; events = [] })) d ∙ ap (λ z. Some (record { stand = ending came v z; events = [] })) k
      ∙ ap (λ z. Some (record { stand = ending z v (size + 0); events = [] })) l
  reads_end (b ∷ s) came w v size e c m h =
      let n = written o.name in
      let i : came < length n = omega arith in
      let d : drop came n ≡ get_or n came 0 ∷ drop (came + 1) n = drop-cons n came 0 i ∙ ap (λ z. get_or n came 0 ∷ drop z n) (sym (add-one came)) in
      let f = front_of b (get_or n came 0) s (drop (came + 1) n) (e ∙ ap (take (suc (length s))) d) in
      let l : size < 65536 = omega arith in
      let j : came + 1 + length s ≤ length n = omega arith in
      let k : size + 1 + length s ≤ 65536 = omega arith in
      let p : came + 1 + length s ≡ came + length (b ∷ s) = omega arith in
      let q : size + 1 + length s ≡ size + length (b ∷ s) = omega arith in
      end_by_byte came b s w v size (owed_after w b) refl h f.0 i l (λ y. reads_end s (came + 1) y v (size + 1) f.1 j k)
      ∙ ap (λ z. Some (record { stand = ending z v (size + 1 + length s); events = [] })) p
      ∙ ap (λ z. Some (record { stand = ending (came + length (b ∷ s)) v z; events = [] })) q
