-- A stretch of a piece taken by the code.
use Rattle.std.proofs.Common.{◌≡◌, ℕ, ◌+◌, ◌<◌, ◌≤◌, Bool, true, false, List, [], ◌∷◌, ◌++◌, length, take, drop, get_or, refl, ap, sym, ◌∙◌, subst, arith, Option, Some, None}
use Rattle.std.specs.Prelude.{if◌then◌else◌}
use Rattle.std.proofs.lemmas.List.{append-nil, length-append, take_more}
use Rattle.dav_doc.specs.Bytes.{kind}
use Rattle.dav_doc.specs.Characters.{Owed, owed_after}
use Rattle.dav_doc.specs.Document.{Event}
use Rattle.dav_doc.specs.Machine as machine
use Rattle.dav_doc.specs.Machine.{State, Move, Bad, To, chars, longer}
use Rattle.dav_doc.specs.Names.{written}
use Rattle.dav_markup.specs.End.{end_at}
use Rattle.dav_markup.specs.Name.{name_in}
use Rattle.dav_markup.specs.Owing.{owed_in}
use Rattle.dav_markup.specs.Stretch.{longer_by}
use Rattle.dav_markup.specs.declared.character.Owed.{Owed as CodeOwed}
use Rattle.dav_markup.specs.declared.name.Name.{Name}
use Rattle.dav_markup.specs.declared.scope.Open.{Open}
use Rattle.dav_markup.specs.declared.scope.Tag.{Tag}
use Rattle.dav_xml.specs.declared.event.Lent.TheVariants as lents
use Rattle.dav_xml.specs.declared.position.Position.{Position}
use Rattle.dav_xml.specs.declared.position.Position.TheVariants as positions
use Rattle.dav_xml.specs.declared.position.StartTag.{StartTag}
use Rattle.dav_xml.specs.declared.position.StartTag.TheVariants as starting
use Rattle.dav_xml.specs.declared.scan.Scan.{Scan}
use Rattle.dav_xml.specs.Ahead.{IsText, IsNaming, IsEnding, IsOfName, in_start, in_end, is_naming, Lengthens, LengthensName, CanLengthen}
use Rattle.dav_xml.specs.Events.{lent_in, later_in}
use Rattle.dav_xml.specs.Read.{HasRead}
use Rattle.dav_xml.specs.Reading.{is_tag, attributes_of, begins, limit_by, size_by, Stand, begin, Verdict, Refused, Passes, Goes, judged, next, Reading, behind, on_verdict, reads}
use Rattle.dav_xml.specs.Stands.{Stands, StartsAt, InEndName, stack_of}
use Rattle.dav_xml.proofs.ReadLemmas.{by_limit}
use Rattle.dav_xml.proofs.ScanLemmas.{stand_of, read_now}
use Rattle.dav_xml.proofs.StepLemmas.{inside_of}
use Rattle.dav_xml.proofs.StretchLemmas.{reads_then, in_text_at, reads_text, reads_name, reads_end}
use Rattle.dav_xml.proofs.TagStepLemmas.{name_longer, attribute_longer}

-- no bytes of a tag are counted outside of tags
abbrev Tidy : Stand → Type 0
Tidy x = is_tag x.state ≡ false → x.size ≡ 0

tidy_by : (x : Stand) (o : Option Owed) (m : Move) (y : Stand) (e : List Event) → judged x o m ≡ Goes y e → Tidy y
tidy_by x None m y e h = let k : Refused ≡ Goes y e = h in absurd cc
tidy_by x (Some o) Bad y e h = let k : Refused ≡ Goes y e = h in absurd cc
tidy_by x (Some o) (To st f) y e h =
    let z : Stand = record { state = st; owed = o; size = size_by x.size st } in
    let k = by_limit (limit_by (begins f) (attributes_of x.state) x.size) z y f e h in
    subst (λ (q : Stand). Tidy q) k.0 (λ t. ap (λ (q : Bool). if q then x.size + 1 else 0) t)

tidy_reading : (s : List ℕ) (y : Stand) (e : List Event) (r : Reading) (o : Option Reading) → reads s y ≡ o → behind e o ≡ Some r
    → ((q : Reading) → reads s y ≡ Some q → Tidy q.stand) → Tidy r.stand
tidy_reading s y e r None h g f = absurd cc
tidy_reading s y e r (Some q) h g f =
    let d : record { stand = q.stand; events = e ++ q.events } ≡ r = cc in subst (λ (z : Reading). Tidy z.stand) d (f q h)

tidy_verdict : (s : List ℕ) (b : ℕ) (x : Stand) (r : Reading) (v : Verdict) → next x b ≡ v → on_verdict v (reads s) ≡ Some r
    → ((y : Stand) (q : Reading) → Tidy y → reads s y ≡ Some q → Tidy q.stand) → Tidy r.stand
tidy_verdict s b x r Refused h g f = absurd cc
tidy_verdict s b x r (Passes which) h g f = absurd cc
tidy_verdict s b x r (Goes y e) h g f = tidy_reading s y e r (reads s y) refl g (λ q. f y q (tidy_by x (owed_after x.owed b) (machine.step x.state b) y e h))

reads_tidy : (s : List ℕ) (x : Stand) (r : Reading) → Tidy x → reads s x ≡ Some r → Tidy r.stand
reads_tidy [] x r t h = let e : record { stand = x; events = [] } ≡ r = cc in subst (λ (z : Reading). Tidy z.stand) e t
reads_tidy (b ∷ s) x r t h = tidy_verdict s b x r (next x b) refl h (reads_tidy s)

-- where the machines lead over the bytes, the scanner has read them
passed : (old new : Scan) (text : List ℕ) (given : List Event) (run : List ℕ) (st : State) → (h : HasRead old text given) → later_in old.lent ≡ []
    → reads run (stand_of old text given h)
    ≡ Some (record { stand = record { state = st; owed = owed_in new.owed; size = new.size }; events = lent_in new.lent })
    → later_in new.lent ≡ [] → Stands new.position (stack_of new.opens.items) st → new.depth ≡ old.depth → new.opens.items ≡ old.opens.items
    → new.at ≡ old.at + length run → new.fault ≡ old.fault → HasRead new (text ++ run) (given ++ lent_in new.lent)
passed old new text given run st h l r n p d o a f = record {
  state = st;
  read = reads_then text run _ _ given (lent_in new.lent) (read_now old text given h l) r
      ∙ ap (λ z. Some (record { stand = record { state = st; owed = owed_in new.owed; size = new.size }; events = z }))
      (sym (ap (λ z. (given ++ lent_in new.lent) ++ z) n ∙ append-nil (given ++ lent_in new.lent)));
  stands = p;
  depth = d ∙ h.depth ∙ ap length (sym o);
  at = a ∙ ap (λ z. z + length run) h.at ∙ sym (length-append text run);
  going = f ∙ h.going;
}

not_none : (opens : List Open) → 0 < length opens → opens ≡ [] → ⊥
not_none opens h e = let k : length opens ≡ 0 = ap length e in omega (arith, h, k)

pub takes_text : (old new : Scan) (text : List ℕ) (given : List Event) (run bytes : List ℕ) (owed : CodeOwed) → HasRead old text given → later_in old.lent ≡ []
    → IsText old.position old.opens.items run (owed_in old.owed) (owed_in owed) → bytes ≡ run → new.lent ≡ lents.Run bytes → new.position ≡ old.position
    → new.opens.items ≡ old.opens.items → new.depth ≡ old.depth → new.size ≡ old.size → new.owed ≡ owed → new.at ≡ old.at + length run → new.fault ≡ old.fault
    → HasRead new (text ++ run) (given ++ lent_in new.lent)
takes_text old new text given run bytes owed h l t b n p o d s w a f =
    let os = stack_of old.opens.items in
    let i = inside_of old.opens.items (not_none old.opens.items t.inside) in
    let k : h.state ≡ machine.Text os machine.Zero = subst (λ (z : Position). Stands z os h.state) t.is h.stands in
    let x = stand_of old text given h in
    let z : old.size ≡ 0 = reads_tidy text begin _ (λ q. refl) h.read (ap is_tag k) in
    let inside : State = machine.Text (i.element ∷ i.around) machine.Zero in
    let e : x ≡ in_text_at i.element i.around (owed_in old.owed) =
    ap (λ q. record { state = q; owed = owed_in old.owed; size = old.size }) (k ∙ ap (λ q. machine.Text q machine.Zero) i.split)
    ∙ ap (λ q. record { state = inside; owed = owed_in old.owed; size = q }) z in
    let y : 0 ≡ new.size = sym (s ∙ z) in
    let r : reads run x ≡ Some (record { stand = record { state = inside; owed = owed_in new.owed; size = new.size }; events = lent_in new.lent }) =
    ap (reads run) e ∙ reads_text i.element i.around run (owed_in old.owed) (owed_in owed) t.all
    ∙ ap (λ q. Some (record { stand = record { state = inside; owed = owed_in q; size = 0 }; events = chars run })) (sym w)
    ∙ ap (λ q. Some (record { stand = record { state = inside; owed = owed_in new.owed; size = q }; events = chars run })) y
    ∙ ap (λ q. Some (record { stand = record { state = inside; owed = owed_in new.owed; size = new.size }; events = q })) (ap chars (sym b) ∙ ap lent_in (sym n)) in
    let g : Stands new.position (stack_of new.opens.items) inside =
    subst (λ (q : Position). Stands q (stack_of new.opens.items) inside) (sym (p ∙ t.is))
    (ap (λ q. machine.Text q machine.Zero) (sym i.split) ∙ ap (λ q. machine.Text (stack_of q) machine.Zero) (sym o)) in
    passed old new text given run inside h l r (ap later_in n) g d o a f

-- where the machine stands in a longer name
record LeadsOn (st : State) (w v : Owed) (size : ℕ) (run : List ℕ) (next : Position) (os : List machine.Open) : Type 0 where
  state : State
  read : reads run (record { state = st; owed = w; size = size }) ≡ Some (record { stand = record { state = state; owed = v; size = size + length run }; events = [] })
  stands : Stands next os state

start_goes : (start more : StartTag) (os : List machine.Open) (st : State) (w v : Owed) (size : ℕ) (run : List ℕ) → IsNaming (positions.Start start) size run w v → is_naming start ≡ true
    → StartsAt start os st → LengthensName start run more → LeadsOn st w v size run (positions.Start more) os
start_goes (starting.Name name) more os st w v size run n i h g = record {
  state = machine.InName os (longer_by (name_in name) run);
  read = ap (λ z. reads run (record { state = z; owed = w; size = size })) h
      ∙ reads_name (machine.InName os) (λ m. refl) (λ m b e. name_longer os m (longer m b) b (kind b) refl e) run (name_in name) w v size i n.small n.all;
  stands = subst (λ (z : StartTag). StartsAt z os (machine.InName os (longer_by (name_in name) run))) (sym g.1) (ap (machine.InName os) (sym g.2));
}
start_goes (starting.Attribute tag name) more os st w v size run n i h g = record {
  state = machine.AtName os h.t h.blanks (longer_by (name_in name) run);
  read = ap (λ z. reads run (record { state = z; owed = w; size = size })) h.is
      ∙ reads_name (machine.AtName os h.t h.blanks) (λ m. refl) (λ m b e. attribute_longer os h.t h.blanks m (longer m b) b (kind b) refl e)
      run (name_in name) w v size i n.small n.all;
  stands = subst (λ (z : StartTag). StartsAt z os (machine.AtName os h.t h.blanks (longer_by (name_in name) run))) (sym g.1)
      (record { t = h.t; blanks = h.blanks; fits = h.fits; is = ap (machine.AtName os h.t h.blanks) (sym g.2) });
}
start_goes (starting.Between tag some) more os st w v size run n i h g = absurd cc
start_goes (starting.Slash tag ns) more os st w v size run n i h g = absurd cc
start_goes (starting.BeforeEquals tag name) more os st w v size run n i h g = absurd cc
start_goes (starting.AfterEquals tag name) more os st w v size run n i h g = absurd cc
start_goes (starting.Value value) more os st w v size run n i h g = absurd cc
start_goes (starting.ValueReference value reference) more os st w v size run n i h g = absurd cc

end_goes : (name : List ℕ) (came : ℕ) (os : List machine.Open) (st : State) (w v : Owed) (size : ℕ) (run : List ℕ) → IsEnding (positions.End name came) size run w v
    → came + length run ≤ length name → run ≡ take (length run) (drop came name) → InEndName name came os st → LeadsOn st w v size run (positions.End name (came + length run)) os
end_goes name came os st w v size run n c e h =
    let o = h.inside.element in let ar = h.inside.around in
    let s : run ≡ take (length run) (drop came (written o.name)) = subst (λ (z : List ℕ). run ≡ take (length run) (drop came z)) h.name e in
    let k : came + length run ≤ length (written o.name) = subst (λ (z : List ℕ). came + length run ≤ length z) h.name c in
    record {
      state = end_at o ar (came + length run);
      read = ap (λ z. reads run (record { state = z; owed = w; size = size })) h.is ∙ reads_end o ar run came w v size s k n.small n.owed;
      stands = record { inside = h.inside; name = h.name; is = refl };
    }

name_goes : (p next : Position) (os : List machine.Open) (st : State) (w v : Owed) (size : ℕ) (run : List ℕ) → IsOfName p size run w v → Stands p os st → Lengthens p run next
    → LeadsOn st w v size run next os
name_goes p next os st w v size run (in_start n) h g =
    let k : Lengthens (positions.Start n.start) run next = subst (λ (z : Position). Lengthens z run next) n.is g in
    let m : IsNaming (positions.Start n.start) size run w v = record { start = n.start; is = refl; naming = n.naming; small = n.small; all = n.all } in
    let q : LeadsOn st w v size run (positions.Start k.0) os = start_goes n.start k.0 os st w v size run m n.naming (subst (λ (z : Position). Stands z os st) n.is h) k.2 in
    subst (λ (z : Position). LeadsOn st w v size run z os) (sym k.1) q
name_goes p next os st w v size run (in_end n) h g =
    let k : Lengthens (positions.End n.name n.came) run next = subst (λ (z : Position). Lengthens z run next) n.is g in
    let m : IsEnding (positions.End n.name n.came) size run w v =
    record { name = n.name; came = n.came; is = refl; fits = n.fits; short = n.short; same = n.same; small = n.small; owed = n.owed } in
    let q = end_goes n.name n.came os st w v size run m n.short n.same (subst (λ (z : Position). Stands z os st) n.is h) in
    subst (λ (z : Position). LeadsOn st w v size run z os) (sym k) q

pub can_lengthen : (p : Position) (size : ℕ) (run : List ℕ) (w v : Owed) → IsOfName p size run w v → CanLengthen p run
can_lengthen p size run w v (in_start n) = subst (λ (z : Position). CanLengthen z run) (sym n.is) tt
can_lengthen p size run w v (in_end n) = subst (λ (z : Position). CanLengthen z run) (sym n.is) n.fits

pub small_name : (p : Position) (size : ℕ) (run : List ℕ) (w v : Owed) → IsOfName p size run w v → size + length run ≤ 65536
small_name p size run w v (in_start n) = n.small
small_name p size run w v (in_end n) = n.small

pub takes_name : (old new : Scan) (text : List ℕ) (given : List Event) (run : List ℕ) (owed : CodeOwed) → HasRead old text given → later_in old.lent ≡ []
    → old.lent ≡ lents.Nothing → IsOfName old.position old.size run (owed_in old.owed) (owed_in owed) → Lengthens old.position run new.position → new.lent ≡ old.lent
    → new.opens.items ≡ old.opens.items → new.depth ≡ old.depth → new.size ≡ old.size + length run → new.owed ≡ owed → new.at ≡ old.at + length run → new.fault ≡ old.fault
    → HasRead new (text ++ run) (given ++ lent_in new.lent)
takes_name old new text given run owed h l q n g y o d s w a f =
    let os = stack_of old.opens.items in
    let k = name_goes old.position new.position os h.state (owed_in old.owed) (owed_in owed) old.size run n h.stands g in
    let r : reads run (stand_of old text given h) ≡ Some (record { stand = record { state = k.state; owed = owed_in new.owed; size = new.size }; events = lent_in new.lent }) =
    k.read
    ∙ ap (λ z. Some (record { stand = record { state = k.state; owed = owed_in z; size = old.size + length run }; events = [] })) (sym w)
    ∙ ap (λ z. Some (record { stand = record { state = k.state; owed = owed_in new.owed; size = z }; events = [] })) (sym s)
    ∙ ap (λ z. Some (record { stand = record { state = k.state; owed = owed_in new.owed; size = new.size }; events = lent_in z })) (sym (y ∙ q)) in
    passed old new text given run k.state h l r (ap later_in (y ∙ q)) (subst (λ (z : List Open). Stands new.position (stack_of z) k.state) (sym o) k.stands) d o a f

-- the first byte
pub one_taken : (text bytes : List ℕ) (b : ℕ) → 0 < length bytes → b ≡ get_or bytes 0 0 → text ++ (b ∷ []) ≡ text ++ take 1 bytes
one_taken text bytes b h e = ap (λ z. text ++ (z ∷ [])) e ∙ ap (λ z. text ++ z) (sym (take_more bytes 0 0 h))

-- what stands in the default arm of the tag's names
pub unnamed : (start : StartTag) (run : List ℕ) → ((name : Name) → start ≡ starting.Name name → ⊥) → ((tag : Tag) (name : Name) → start ≡ starting.Attribute tag name → ⊥) → LengthensName start run start
unnamed (starting.Name name) run f g = absurd (f name refl)
unnamed (starting.Attribute tag name) run f g = absurd (g tag name refl)
unnamed (starting.Between tag some) run f g = refl
unnamed (starting.Slash tag ns) run f g = refl
unnamed (starting.BeforeEquals tag name) run f g = refl
unnamed (starting.AfterEquals tag name) run f g = refl
unnamed (starting.Value value) run f g = refl
unnamed (starting.ValueReference value reference) run f g = refl
