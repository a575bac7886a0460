-- The reading of a text as the two machines.
use Rattle.std.proofs.Common.{◌≡◌, ℕ, List, [], ◌∷◌, ◌++◌, refl, ap, sym, ◌∙◌, append_assoc, Option, Some, None, inl, inr}
use Rattle.std.specs.Prelude.{◌⊎◌}
use Rattle.std.proofs.lemmas.List.{append-nil}
use Rattle.dav_doc.specs.Characters.{Owed, owed_after, owed_by, on_owed}
use Rattle.dav_doc.specs.Document.{Event}
use Rattle.dav_doc.specs.Machine.{Move, Bad, To, step, run, gives, move_on}
use Rattle.dav_text.specs.declared.which.Which.{Which}
use Rattle.dav_xml.specs.Reading.{begins, attributes_of, limit_by, size_by, Stand, begin, Verdict, Refused, Passes, Goes, goes_by, judged, next, Reading, behind, on_verdict, reads}

behind_behind : (e f : List Event) (x : Option Reading) → behind e (behind f x) ≡ behind (e ++ f) x
behind_behind e f None = refl
behind_behind e f (Some r) = ap (λ z. Some (record { stand = r.stand; events = z })) (sym (append_assoc e f r.events))

abbrev pub on_reading : Option Reading → List ℕ → Option Reading
on_reading None t = None
on_reading (Some r) t = behind r.events (reads t r.stand)

on_behind : (e : List Event) (x : Option Reading) (t : List ℕ) → behind e (on_reading x t) ≡ on_reading (behind e x) t
on_behind e None t = refl
on_behind e (Some r) t = behind_behind e r.events (reads t r.stand)

behind_nothing : (x : Option Reading) → x ≡ behind [] x
behind_nothing None = refl
behind_nothing (Some r) = refl

verdict_append : (v : Verdict) (s t : List ℕ) → ((x : Stand) → reads (s ++ t) x ≡ on_reading (reads s x) t)
    → on_verdict v (reads (s ++ t)) ≡ on_reading (on_verdict v (reads s)) t
verdict_append Refused s t h = refl
verdict_append (Passes which) s t h = refl
verdict_append (Goes x e) s t h = ap (behind e) (h x) ∙ on_behind e (reads s x) t

pub reads_append : (s t : List ℕ) (x : Stand) → reads (s ++ t) x ≡ on_reading (reads s x) t
reads_append [] t x = behind_nothing (reads t x)
reads_append (b ∷ s) t x = verdict_append (next x b) s t (reads_append s t)

-- one byte more
pub reads_more : (s : List ℕ) (b : ℕ) (x y : Stand) (e f : List Event) → reads s begin ≡ Some (record { stand = x; events = e }) → next x b ≡ Goes y f
    → reads (s ++ (b ∷ [])) begin ≡ Some (record { stand = y; events = e ++ f })
reads_more s b x y e f h g =
    reads_append s (b ∷ []) begin ∙ ap (λ z. on_reading z (b ∷ [])) h
    ∙ ap (λ z. behind e (on_verdict z (reads []))) g
    ∙ ap (λ z. Some (record { stand = y; events = e ++ z })) (append-nil f)

-- the machine's move and what is owed, where the reading goes on
pub record Went (x : Stand) (o : Option Owed) (m : Move) (y : Stand) (e : List Event) : Type 0 where
  pub owed : o ≡ Some y.owed
  pub move : m ≡ To y.state e

pub by_limit : (l : Option Which) (z y : Stand) (f e : List Event) → goes_by l z f ≡ Goes y e → (z ≡ y) × (f ≡ e)
by_limit (Some which) z y f e h = let k : Passes which ≡ Goes y e = h in absurd cc
by_limit None z y f e h = let k : Goes z f ≡ Goes y e = h in (cc, cc)

went : (x : Stand) (o : Option Owed) (m : Move) (y : Stand) (e : List Event) → judged x o m ≡ Goes y e → Went x o m y e
went x None m y e h = let k : Refused ≡ Goes y e = h in absurd cc
went x (Some o) Bad y e h = let k : Refused ≡ Goes y e = h in absurd cc
went x (Some o) (To st f) y e h =
    let z : Stand = record { state = st; owed = o; size = size_by x.size st } in
    let k = by_limit (limit_by (begins f) (attributes_of x.state) x.size) z y f e h in
    record { owed = ap (λ s. Some s.owed) k.0; move = ap (λ s. To s.state f) k.0 ∙ ap (To y.state) k.1 }

pub record Ran_as (s : List ℕ) (x : Stand) (r : Reading) : Type 0 where
  pub run : run s x.state ≡ Some (record { state = r.stand.state; events = r.events })
  pub owed : owed_by s x.owed ≡ Some r.stand.owed

by_reading : (s : List ℕ) (b : ℕ) (x : Stand) (r : Reading) (y : Stand) (e : List Event) (o : Option Reading) → reads s y ≡ o → behind e o ≡ Some r
    → Went x (owed_after x.owed b) (step x.state b) y e → ((y : Stand) (q : Reading) → reads s y ≡ Some q → Ran_as s y q) → Ran_as (b ∷ s) x r
by_reading s b x r y e None h g w ih = absurd cc
by_reading s b x r y e (Some q) h g w ih =
    let k = ih y q h in
    let d : record { stand = q.stand; events = e ++ q.events } ≡ r = cc in
    record {
      run = ap (λ m. move_on m (run s)) w.move ∙ ap (gives e) k.run ∙ ap (λ z. Some (record { state = z.stand.state; events = z.events })) d;
      owed = ap (λ o. on_owed o (owed_by s)) w.owed ∙ k.owed ∙ ap (λ z. Some z.stand.owed) d;
    }

by_verdict : (s : List ℕ) (b : ℕ) (x : Stand) (r : Reading) (v : Verdict) → next x b ≡ v → on_verdict v (reads s) ≡ Some r
    → ((y : Stand) (q : Reading) → reads s y ≡ Some q → Ran_as s y q) → Ran_as (b ∷ s) x r
by_verdict s b x r Refused h g ih = absurd cc
by_verdict s b x r (Passes which) h g ih = absurd cc
by_verdict s b x r (Goes y e) h g ih = by_reading s b x r y e (reads s y) refl g (went x (owed_after x.owed b) (step x.state b) y e h) ih

-- a text that is read runs through both machines
pub reads_run : (s : List ℕ) (x : Stand) (r : Reading) → reads s x ≡ Some r → Ran_as s x r
reads_run [] x r h = let d : record { stand = x; events = [] } ≡ r = cc in record {
  run = ap (λ z. Some (record { state = z.stand.state; events = z.events })) d;
  owed = ap (λ z. Some z.stand.owed) d;
}
reads_run (b ∷ s) x r h = by_verdict s b x r (next x b) refl h (reads_run s)

limited : (l : Option Which) (z : Stand) (f : List Event) → goes_by l z f ≡ Refused → ⊥
limited (Some which) z f h = let k : Passes which ≡ Refused = h in cc
limited None z f h = let k : Goes z f ≡ Refused = h in cc

-- a refused byte is bad to one of the machines
pub refused : (x : Stand) (o : Option Owed) (m : Move) → judged x o m ≡ Refused → (o ≡ None) ⊎ (m ≡ Bad)
refused x None m h = inl refl
refused x (Some o) Bad h = inr refl
refused x (Some o) (To st f) h =
    absurd (limited (limit_by (begins f) (attributes_of x.state) x.size) (record { state = st; owed = o; size = size_by x.size st }) f h)
