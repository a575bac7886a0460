-- What stands after a text that was appended to in part.
use Rattle.std.proofs.Common.{◌≡◌, ℕ, List, ◌++◌, length, take, drop, ap, sym, ◌∙◌, subst, append_assoc, Result, Ok, Err}
use Rattle.std.proofs.lemmas.List.{take-append-drop}
use Rattle.std.proofs.Math.Seq.{take-append_seam}
use Rattle.std.specs.Result.{OnErr}
use Rattle.dav_frame.specs.Request.{BeginsWith}

-- what holds anyway holds at an error
pub at_err : {X Y : Type 0} (r : Result X Y) (P : Type 0) → P → OnErr r P
at_err (Ok x) P p = tt
at_err (Err e) P p = p

-- an old text begins the text with more
pub begins_append : (old more new : List ℕ) → new ≡ old ++ more → BeginsWith old new
begins_append old more new is = ap (λ s. take (length old) s) is ∙ take-append_seam old more

pub begins_more : (old more new : List ℕ) → BeginsWith (old ++ more) new → BeginsWith old new
begins_more old more new begins =
    let size = length (old ++ more) in
    begins_append old (more ++ drop size new) new
    (sym (take-append-drop size new) ∙ ap (λ s. s ++ drop size new) begins ∙ append_assoc old more (drop size new))

-- an old text that grew, and then grew in part
pub begins_grown : (old more mid new : List ℕ) → mid ≡ old ++ more → BeginsWith mid new → BeginsWith old new
begins_grown old more mid new is begins =
    let P : List ℕ → Type 0 = λ s. BeginsWith s new in begins_more old more new (subst P is begins)
