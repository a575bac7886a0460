-- Whether some element is open.
use Rattle.std.proofs.Common.{◌≡◌, true, List, [], ◌∷◌, refl, sym, ap, ◌∙◌, length, arith}
use Rattle.std.specs.Prelude.{not, fold, ◌==◌}
use Rattle.dav_walk.specs.Gathering as gathering
use Rattle.dav_walk.specs.Gathering.{is_open}
use Rattle.dav_walk.specs.declared.opened.Opened.{Opened}
use Rattle.dav_walk.specs.OpenedView.{onto, opened_in}
use Rattle.dav_walk.proofs.PropsLemmas.{differs}

open_onto : (xs : List Opened) (o : gathering.Opened) (os : List gathering.Opened) → is_open (fold onto (o ∷ os) xs) ≡ true
open_onto [] o os = refl
open_onto (x ∷ xs) o os = open_onto xs (opened_in x) (o ∷ os)

pub none_open : (xs : List Opened) → (length xs == 0) ≡ not (is_open (fold onto [] xs))
none_open [] = refl
none_open (x ∷ xs) = differs (length (x ∷ xs)) 0 (omega arith) ∙ ap not (sym (open_onto xs (opened_in x) []))
