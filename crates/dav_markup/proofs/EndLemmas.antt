-- A byte of an end tag's name.
use Rattle.std.proofs.Common.{◌≡◌, ℕ, ◌+◌, ◌<◌, Bool, List, [], ◌∷◌, length, take, drop, get_or, ap, sym, subst, ◌∙◌, add-one}
use Rattle.std.specs.Prelude.{◌==◌}
use Rattle.std.proofs.lemmas.List.{take_more}
use Rattle.std.proofs.Math.Seq.{drop-cons}
use Rattle.dav_doc.specs.Names.{written}
use Rattle.dav_doc.specs.Machine.{Open, Bad, To, on, end_next, step}
use Rattle.dav_markup.specs.End.{end_at, name_in_end}

pub named : (o : Open) (os : List Open) (n b : ℕ) (s : List ℕ) (x : Bool) → written o.name ≡ s → n < length s → x ≡ (b == get_or s n 0)
    → step (end_at o os n) b ≡ name_in_end o os n x
named o os n b s x w h e =
    let t = written o.name in
    let inside : n < length t = subst (λ (z : List ℕ). n < length z) (sym w) h in
    let c = get_or t n 0 in
    let d : drop n t ≡ c ∷ drop (n + 1) t = drop-cons t n 0 inside ∙ ap (λ k. c ∷ drop k t) (sym (add-one n)) in
    ap (λ z. step (end_next o os (take n t) z) b) d
    ∙ ap (λ z. on (b == c) (To (end_next o os z (drop (n + 1) t)) []) Bad) (sym (take_more t n 0 inside))
    ∙ ap (λ z. on z (To (end_at o os (n + 1)) []) Bad) (ap (λ z. b == get_or z n 0) w ∙ sym e)
