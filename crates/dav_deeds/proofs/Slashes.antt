-- The text of a path without the slash at its end.
use Rattle.std.proofs.Common.{◌≡◌, ◌≢◌, ℕ, Bool, true, false, List, [], ◌∷◌, ◌++◌, length, Ok, refl, sym, ◌∙◌, ap, arith, append-nil, length-append}
use Rattle.std.proofs.lemmas.Bool.{false≢true}
use Rattle.std.proofs.lemmas.List.{append_cancel_right}
use Rattle.dav_text.specs.Path.{PathParts, IsPath, escaped, escaped_parts, escaped_segments}
use Rattle.dav_text.specs.Reading.{path_of}
use Rattle.dav_text.proofs.RoundTrip.{read_back}
use Rattle.dav_deeds.specs.Effects.{bare, is_nothing}
use Rattle.dav_deeds.proofs.Sounds.{bare_is}

pub no_slash : (p : PathParts) → IsPath p → p.slash ≡ false → p ≡ bare p
no_slash p is off = ap (λ (b : Bool). record { segments = p.segments; slash = b }) (by p.segments (λ none. is.top none))
  where
    by : (s : List (List ℕ)) → (s ≡ [] → p.slash ≡ true) → p.slash ≡ is_nothing s
    by [] h = absurd (false≢true (sym off ∙ h refl))
    by (x ∷ xs) h = off

last_cut : (a b : List ℕ) → a ++ 47 ∷ [] ≡ b ++ 47 ∷ [] → a ≡ b
last_cut a b h = append_cancel_right a b (47 ∷ []) h

pub ends : (p : PathParts) → p.slash ≡ true → ((front : List ℕ) → escaped p ≢ front ++ 47 ∷ []) → ⊥
ends p on none = by p.segments p.slash on none
  where
    by : (s : List (List ℕ)) (b : Bool) → b ≡ true → ((front : List ℕ) → escaped_parts s b ≢ front ++ 47 ∷ []) → ⊥
    by [] b on none = none [] refl
    by (x ∷ xs) true on none = none (escaped_segments (x ∷ xs)) refl
    by (x ∷ xs) false on none = false≢true on

pub top_only : (p : PathParts) (rest : List ℕ) → p.slash ≡ true → escaped p ≡ rest ++ 47 ∷ [] → rest ≡ [] → p ≡ bare p
top_only p rest on text none = ap (λ (b : Bool). record { segments = p.segments; slash = b }) (on ∙ by p.segments p.slash on (text ∙ ap (λ (r : List ℕ). r ++ 47 ∷ []) none))
  where
    by : (s : List (List ℕ)) (b : Bool) → b ≡ true → escaped_parts s b ≡ 47 ∷ [] → true ≡ is_nothing s
    by [] b on h = refl
    by (x ∷ xs) false on h = absurd (false≢true on)
    by (x ∷ xs) true on h =
        let n : length (escaped_segments (x ∷ xs) ++ 47 ∷ []) ≡ 1 = ap length h in
        absurd (omega (arith, n, length-append (escaped_segments (x ∷ xs)) (47 ∷ [])))

pub rest_reads : (p : PathParts) (rest : List ℕ) → IsPath p → p.slash ≡ true → escaped p ≡ rest ++ 47 ∷ [] → rest ≢ [] → path_of rest ≡ Ok (bare p)
rest_reads p rest is on text some =
    ap path_of (by p.segments p.slash on text) ∙ read_back (bare p) (bare_is p is).is_path
  where
    by : (s : List (List ℕ)) (b : Bool) → b ≡ true → escaped_parts s b ≡ rest ++ 47 ∷ [] → rest ≡ escaped_parts s (is_nothing s)
    by [] b on h = absurd (some (sym (last_cut [] rest h)))
    by (x ∷ xs) false on h = absurd (false≢true on)
    by (x ∷ xs) true on h = sym (last_cut (escaped_segments (x ∷ xs)) rest h) ∙ sym (append-nil (escaped_segments (x ∷ xs)))
