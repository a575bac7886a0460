-- The ways that a start may take, over what its parts say.
use Rattle.std.proofs.Common.{◌≡◌, inl, inr, ℕ, ◌/◌, ◌%◌, ◌≤◌, List, [], ◌∷◌, ◌++◌, length, drop, Bool, true, false, refl, sym, ◌∙◌, ap, subst, arith}
use Rattle.std.specs.Prelude.{Result, Ok, Err, IfOk, IfErr}
use Rattle.std.proofs.lemmas.Bool.{cases_lt}
use Rattle.dav_disk.specs.Disk.{Doubt, IsOutcome, Touches, LeavesOnly, settled}
use Rattle.dav_store.specs.Rows.{HasRow, IsBroken, IsReading, Spells}
use Rattle.dav_store.specs.Start.{IsHead, IsNothing, LacksHead}
use Rattle.dav_store.specs.Found.{IsFound}
use Rattle.dav_store.specs.declared.starting.Found.TheVariants.{Nothing}
use Rattle.dav_store.specs.declared.fault.StoreFault.{StoreFault}
use Rattle.dav_store.specs.declared.fault.StoreFault.TheVariants.{NotACache}
use Rattle.dav_store.proofs.RowLemmas.{same_parts}

pub ok_weaker : {T E : Type 0} (r : Result T E) {P Q : T → Type 0} → IfOk r P → ((v : T) → P v → Q v) → IfOk r Q
ok_weaker (Ok v) p f = f v p
ok_weaker (Err e) p f = tt

pub err_weaker : {T E : Type 0} (r : Result T E) {P Q : E → Type 0} → IfErr r P → ((e : E) → P e → Q e) → IfErr r Q
err_weaker (Ok v) p f = tt
err_weaker (Err e) p f = f e p

one_row : (row row2 rest : List ℕ) → HasRow row rest → HasRow row2 rest → row2 ≡ row
one_row row row2 rest a b =
    let e : b.0 ∷ length row2 / 256 ∷ length row2 % 256 ∷ (row2 ++ b.1) ≡ a.0 ∷ length row / 256 ∷ length row % 256 ∷ (row ++ a.1) = sym b.4 ∙ a.4 in
    let high : length row2 / 256 ≡ length row / 256 = cc e in
    let low : length row2 % 256 ≡ length row % 256 = cc e in
    let tails : row2 ++ b.1 ≡ row ++ a.1 = cc e in
    (same_parts row2 row b.1 a.1 (omega arith) tails).0

pub broken_lacks : (end : ℕ) (file : List ℕ) → end ≡ 0 → (IsNothing file → ⊥) → IsBroken (drop end file) → LacksHead file
broken_lacks end file none stands broken = let here = subst (λ (n : ℕ). IsBroken (drop n file)) none broken in (stands, λ row has head. here.1 row has)

pub other_lacks : (end : ℕ) (row file : List ℕ) → end ≡ 0 → (IsNothing file → ⊥) → HasRow row (drop end file) → (IsHead row → ⊥) → LacksHead file
other_lacks end row file none stands has lacks = let here = subst (λ (n : ℕ). HasRow row (drop n file)) none has in (stands, λ row2 has2 head2. lacks (subst IsHead (one_row row row2 file here has2) head2))

pub reads_none : (end : ℕ) (seen : List ℕ) (doubt : Doubt) → end ≡ 0 → doubt ≡ settled seen → IsReading [] end seen doubt
reads_none end seen doubt none durable = record { front = []; rest = seen; open_rows = refl; split = refl; size = sym none; durable = durable }

pub spells_none : (c : List ℕ) → Spells [] c → IsNothing c
spells_none c s = inr (s.rest, s.split ∙ ap (λ (l : List ℕ). l ++ 0 ∷ s.rest) s.open_rows)

pub found_nothing : (closed : Bool) (file : List ℕ) → IsFound file (Nothing closed) → IsNothing file
found_nothing true file found = inr found.1
found_nothing false file few = inl few

-- one stretch behind another
pub leaves_join : {from mid to : ℕ} {a b : ℕ → ℕ → Doubt} {file : ℕ} {P Q R : List ℕ → Type 0} → LeavesOnly a file from mid P → ((k f : ℕ) → k ≤ mid → b k f ≡ a k f) → LeavesOnly b file mid to Q
    → ((c : List ℕ) → P c → R c) → ((c : List ℕ) → Q c → R c) → LeavesOnly b file from to R
leaves_join {from} {mid} {to} {a} {b} {file} first before second p q = λ k c lo hi left. elim (cases_lt mid k) [
  | inl past ↦ q c (second k c (omega arith) hi left)
  | inr le ↦ p c (first k c lo le (subst (λ (d : Doubt). IsOutcome d c) (before k file le) left))
]

-- a stretch that changes nothing
pub leaves_quiet : {from mid to : ℕ} {a b : ℕ → ℕ → Doubt} {file : ℕ} {P : List ℕ → Type 0} → from ≤ mid → LeavesOnly a file from mid P → Touches (λ _. ⊥) mid to a b → LeavesOnly b file from to P
leaves_quiet {from} {mid} {to} {a} {b} {file} lo first quiet = λ k c lo2 hi left. elim (cases_lt mid k) [
  | inl past ↦ first mid c lo (omega arith) (subst (λ (d : Doubt). IsOutcome d c) (quiet.others k file (omega arith) hi (λ never. never)) left)
  | inr le ↦ first k c lo2 le (subst (λ (d : Doubt). IsOutcome d c) (quiet.before k file le) left)
]

pub same_fault : (at : ℕ) (e : StoreFault) → e ≡ NotACache 0 → e ≡ NotACache at → at ≡ 0
same_fault at e none is = let both : NotACache 0 ≡ NotACache at = sym none ∙ is in sym (cc both)
