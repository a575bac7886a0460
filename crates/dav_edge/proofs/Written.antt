-- A sink in memory keeps exactly the bytes that it told to have taken.
use Rattle.std.proofs.Common.{◌≡◌, List, [], ◌∷◌, ◌++◌, ℕ, Option, Some, None, inl, inr, refl, sym, ap, ◌∙◌, subst, append-nil}
use Rattle.std.specs.Option.{ForSome}
use Rattle.dav_edge.specs.Device.{Happened, DeviceLog, bytes_taken, taken}
use Rattle.dav_edge.specs.History.{told_and, Wrote, Faulted}
use Rattle.dav_edge.proofs.Taking.{taken-append}

abbrev pub Tells : Option (List Happened) → List ℕ → Type 0
Tells told written = ForSome told (λ events. written ≡ taken events)

taken-one_more : (es : List Happened) (e : Happened) → taken (es ++ e ∷ []) ≡ taken es ++ bytes_taken e
taken-one_more es e = taken-append es (e ∷ []) ∙ ap (λ (l : List ℕ). taken es ++ l) (append-nil (bytes_taken e))

tells_none : (new : Option (List Happened)) (written : List ℕ) → new ≡ None → Tells new written
tells_none new written is = λ events some. absurd (cc)

tells_one_more : (old : Option (List Happened)) (e : Happened) (before after : List ℕ)
    → after ≡ before ++ bytes_taken e → Tells old before → Tells (told_and old e) after
tells_one_more None e before after is tells = λ events some. absurd (cc)
tells_one_more (Some es) e before after is tells = λ events some.
    let events_are : es ++ e ∷ [] ≡ events = cc in
    is ∙ ap (λ (l : List ℕ). l ++ bytes_taken e) (tells es refl) ∙ sym (taken-one_more es e) ∙ ap taken events_are

pub tells_wrote : (old new : DeviceLog) (e : Happened) (before after : List ℕ) → Wrote old new e
    → after ≡ before ++ bytes_taken e → Tells old.told before → Tells new.told after
tells_wrote old new e before after wrote is tells =
    subst (λ (told : Option (List Happened)). Tells told after) (sym wrote.told) (tells_one_more old.told e before after is tells)

pub tells_faulted : (old new : DeviceLog) (e : Happened) (written : List ℕ) → Faulted old new e
    → bytes_taken e ≡ [] → Tells old.told written → Tells new.told written
tells_faulted old new e written faulted none tells =
    elim faulted.told [
      | inl stopped ↦ tells_none new.told written stopped
      | inr told ↦ subst (λ (t : Option (List Happened)). Tells t written) (sym told)
          (tells_one_more old.told e written written (sym (ap (λ (l : List ℕ). written ++ l) none ∙ append-nil written)) tells)
    ]
