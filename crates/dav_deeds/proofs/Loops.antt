-- One more entry of a fold.
use Rattle.std.proofs.Common.{◌≡◌, ℕ, ◌+◌, ◌<◌, Bool, List, length, take, get_or, Option, Some, None, fold, sym, ◌∙◌, ap, if◌then◌else◌}
use Rattle.std.proofs.lemmas.List.Sums.{fold_more}
use Rattle.dav_index.specs.Item.{Item}

-- the best one so far, with one more entry that passes or doesn't
pub best_more : (test : Option Item → Item → Bool) (xs : List Item) (i : ℕ) (best : Option Item) (x : Item) (b : Bool)
    → i < length xs → x ≡ get_or xs i x → b ≡ test best x → best ≡ fold (λ (o : Option Item) (y : Item). if test o y then Some y else o) None (take i xs)
    → (if b then Some x else best) ≡ fold (λ (o : Option Item) (y : Item). if test o y then Some y else o) None (take (i + 1) xs)
best_more test xs i best x b lt is tested so_far =
    let f : Option Item → Item → Option Item = λ (o : Option Item) (y : Item). if test o y then Some y else o in
    let step : fold f None (take (i + 1) xs) ≡ f (fold f None (take i xs)) (get_or xs i x) = fold_more f None xs i x lt in
    ap (λ (c : Bool). if c then Some x else best) tested ∙ ap (λ (o : Option Item). f o x) so_far ∙ ap (f (fold f None (take i xs))) is ∙ sym step
