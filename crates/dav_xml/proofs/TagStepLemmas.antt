-- Steps in start tags.
use Rattle.std.proofs.Common.{◌≡◌, ℕ, Bool, true, false, List, [], ◌∷◌, ◌++◌, refl, ap, sym, ◌∙◌, append_assoc, Option, Some, None}
use Rattle.std.specs.Prelude.{not}
use Rattle.std.proofs.lemmas.List.{append-nil}
use Rattle.dav_doc.specs.Bytes as bytes
use Rattle.dav_doc.specs.Bytes.{kind, sort}
use Rattle.dav_doc.specs.Document as document
use Rattle.dav_doc.specs.Document.{Event}
use Rattle.dav_doc.specs.Machine as machine
use Rattle.dav_doc.specs.Machine.{State, Move, To, step, on, name_next, name_step, attribute_step, value_step, value_reference_step, with_part}
use Rattle.dav_doc.specs.Names as names
use Rattle.dav_doc.specs.Names.{Attribute, Part, Byte, Reference, part_value, parts_value, value_of, is_name, is_fine, undeclares}
use Rattle.dav_markup.specs.Choice.{in_tag_by}
use Rattle.dav_markup.specs.Reference.{GoesOn, IsWrong, means}
use Rattle.dav_markup.specs.declared.choice.InTag.{InTag}
use Rattle.dav_markup.specs.declared.reference.Reference.{Reference as CodeReference}
use Rattle.dav_xml.specs.declared.position.Value.{Value}
use Rattle.dav_xml.specs.declared.step.Step.{Step}
use Rattle.dav_xml.specs.declared.step.Step.TheVariants.{Further, Text, Opens, Empty, Closes}
use Rattle.dav_xml.specs.Moves.{Moves}
use Rattle.dav_xml.specs.Reading.{attributes_of}
use Rattle.dav_xml.specs.Stands.{are_some, IsValue, IsFront}
use Rattle.dav_xml.proofs.StepLemmas.{goes_unended, goes_front}

-- two states of which a byte makes the same
pub moves_as : (s : Option Step) (os : List machine.Open) (st old : State) (b : ℕ) → step st b ≡ step old b → attributes_of st ≡ attributes_of old → Moves s os old b → Moves s os st b
moves_as None os st old b h g m = h ∙ m
moves_as (Some (Further p)) os st old b h g m = record { state = m.state; is = h ∙ m.is; stands = m.stands }
moves_as (Some (Text p few)) os st old b h g m = record { state = m.state; is = h ∙ m.is; stands = m.stands }
moves_as (Some (Opens tag ns)) os st old b h g m = record { t = m.t; fits = m.fits; count = g ∙ m.count; is = h ∙ m.is }
moves_as (Some (Empty tag ns)) os st old b h g m = record { t = m.t; fits = m.fits; count = g ∙ m.count; is = h ∙ m.is }
moves_as (Some Closes) os st old b h g m = record { inside = m.inside; is = h ∙ m.is }

-- the blanks right before a byte of a tag
pub between_step : (x : Bool) (r : InTag) (os : List machine.Open) (t : document.Tag) (w : List ℕ) (b : ℕ) → are_some w ≡ x
    → (x ≡ false → (os : List machine.Open) (t : document.Tag) → step (machine.InTag os t []) b ≡ in_tag_by r os t [] b)
    → (x ≡ true → (os : List machine.Open) (t : document.Tag) (c : ℕ) (w : List ℕ) → step (machine.InTag os t (c ∷ w)) b ≡ in_tag_by r os t (c ∷ w) b)
    → step (machine.InTag os t w) b ≡ in_tag_by r os t w b
between_step x r os t [] b h f g = f (sym h) os t
between_step x r os t (c ∷ w) b h f g = g (sym h) os t c w

pub some_more : (w : List ℕ) (b : ℕ) → are_some (w ++ (b ∷ [])) ≡ true
some_more [] b = refl
some_more (c ∷ w) b = refl

-- a name goes on, is none, or ends
pub name_longer : (os : List machine.Open) (n m : names.Name) (b : ℕ) (k : bytes.Kind) → k ≡ kind b → name_next n b k ≡ Some m → step (machine.InName os n) b ≡ To (machine.InName os m) []
name_longer os n m b k e h = ap (name_step os n b (kind b)) (ap (name_next n b) (sym e) ∙ h)

pub name_ended : (os : List machine.Open) (n : names.Name) (b : ℕ) (k : bytes.Kind) (x : Bool) → k ≡ kind b → name_next n b k ≡ None → is_name n ≡ x
    → step (machine.InName os n) b ≡ on x (step (machine.InTag os (record { name = n; attributes = [] }) []) b) machine.Bad
name_ended os n b k x e h i =
    ap (name_step os n b (kind b)) (ap (name_next n b) (sym e) ∙ h)
    ∙ ap (λ z. on z (step (machine.InTag os (record { name = n; attributes = [] }) []) b) machine.Bad) i

pub attribute_longer : (os : List machine.Open) (t : document.Tag) (w : List ℕ) (n m : names.Name) (b : ℕ) (k : bytes.Kind) → k ≡ kind b → name_next n b k ≡ Some m
    → step (machine.AtName os t w n) b ≡ To (machine.AtName os t w m) []
attribute_longer os t w n m b k e h = ap (attribute_step os t w n b (kind b)) (ap (name_next n b) (sym e) ∙ h)

pub attribute_ended : (os : List machine.Open) (t : document.Tag) (w : List ℕ) (n : names.Name) (b : ℕ) (k : bytes.Kind) (x : Bool) → k ≡ kind b → name_next n b k ≡ None → is_name n ≡ x
    → step (machine.AtName os t w n) b ≡ on x (step (machine.BeforeEquals os t w n []) b) machine.Bad
attribute_ended os t w n b k x e h i =
    ap (attribute_step os t w n b (kind b)) (ap (name_next n b) (sym e) ∙ h) ∙ ap (λ z. on z (step (machine.BeforeEquals os t w n []) b) machine.Bad) i

-- the value with one more part
parts_more : (ps : List Part) (p : Part) → parts_value (ps ++ (p ∷ [])) ≡ parts_value ps ++ part_value p
parts_more [] p = append-nil (part_value p)
parts_more (q ∷ ps) p = ap (λ z. part_value q ++ z) (parts_more ps p) ∙ sym (append_assoc (part_value q) (parts_value ps) (part_value p))

pub value_more : (v new : Value) (t : document.Tag) (a : Attribute) (p : Part) (m : List ℕ) → IsValue v t a → m ≡ part_value p → new ≡ record v { bytes = v.bytes ++ m }
    → IsValue new t (with_part a p)
value_more v new t a p m i e h =
    let at : Value = record v { bytes = v.bytes ++ m } in
    let k : IsValue at t (with_part a p) = record {
      fits = i.fits;
      name = i.name;
      quote = i.quote;
      bytes = ap (λ z. z ++ m) i.bytes ∙ ap (λ z. value_of a ++ z) e ∙ sym (parts_more a.parts p);
    } in
    rw h k

-- the byte's sort in a value
pub value_sort : (os : List machine.Open) (t : document.Tag) (a : Attribute) (b : ℕ) (q : bytes.Quote) (x : bytes.Sort) → q ≡ a.quote → x ≡ sort q (kind b)
    → step (machine.InValue os t a) b ≡ value_step os t a b x
value_sort os t a b q x e h = ap (value_step os t a b) (ap (λ z. sort z (kind b)) (sym e) ∙ sym h)

-- whether the value may end
pub fine_by : (a : Attribute) (n : names.Name) (v : List ℕ) (x : Bool) → n ≡ a.name → v ≡ value_of a → x ≡ undeclares n v → is_fine a ≡ not x
fine_by a n v x e f h = ap not (ap (λ z. undeclares z (value_of a)) (sym e) ∙ ap (undeclares n) (sym f) ∙ sym h)

-- a reference in a value
pub value_reference_goes : (os : List machine.Open) (t : document.Tag) (a : Attribute) (old new : CodeReference) (text : List ℕ) (b : ℕ) → GoesOn old b new → IsFront old text
    → step (machine.ValueReference os t a text) b ≡ To (machine.ValueReference os t a (text ++ (b ∷ []))) []
value_reference_goes os t a old new text b g f =
    ap (value_reference_step os t a (text ++ (b ∷ []))) (goes_unended old new text b g f)
    ∙ ap (λ z. on z (To (machine.ValueReference os t a (text ++ (b ∷ []))) []) machine.Bad) (goes_front old new text b g f)

pub value_reference_wrong : (os : List machine.Open) (t : document.Tag) (a : Attribute) (old : CodeReference) (text : List ℕ) (b : ℕ) → IsWrong old b → IsFront old text
    → step (machine.ValueReference os t a text) b ≡ machine.Bad
value_reference_wrong os t a old text b w f =
    ap (value_reference_step os t a (text ++ (b ∷ []))) (sym (f.means (b ∷ [])) ∙ w.none)
    ∙ ap (λ z. on z (To (machine.ValueReference os t a (text ++ (b ∷ []))) []) machine.Bad) (sym (f.may (b ∷ [])) ∙ w.no_front)

pub value_reference_stands : (os : List machine.Open) (t : document.Tag) (a : Attribute) (old : CodeReference) (text m : List ℕ) (b : ℕ) → means old (b ∷ []) ≡ Some m → IsFront old text
    → step (machine.ValueReference os t a text) b ≡ To (machine.InValue os t (with_part a (Reference (text ++ (b ∷ [])) m))) []
value_reference_stands os t a old text m b w f = ap (value_reference_step os t a (text ++ (b ∷ []))) (sym (f.means (b ∷ [])) ∙ w)
