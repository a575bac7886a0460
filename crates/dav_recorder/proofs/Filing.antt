-- What files hold while calls go on.
use Rattle.std.proofs.Common.{◌≡◌, inl, inr, ℕ, ◌+◌, ◌<◌, ◌≤◌, List, [], length, get_or, Option, Some, None, refl, sym, ◌∙◌, ap, subst, arith}
use Rattle.std.proofs.lemmas.Bool.{cases_eq, cases_lt}
use Rattle.std.proofs.lemmas.Grind.{get_or_default_zero}
use Rattle.std.specs.List.{Contains}
use Rattle.dav_disk.specs.Disk.{Doubt, Touches, OthersStay}
use Rattle.dav_recorder.specs.Stands.{IsFile, IsWritten}
use Rattle.dav_disk.proofs.Stretch.{touches_begin, touches_join, touches_wider}
use Rattle.dav_recorder.specs.Files.{RestStays, ChangesOnly, Holds, IsStored}

-- calls on other files leave what a file holds
pub holds_still : {F : ℕ → Type 0} {from to : ℕ} {old new : ℕ → ℕ → Doubt} (seen now : ℕ → List ℕ) (bytes : List ℕ) (f : ℕ) → Touches F from to old new → RestStays F seen now → (F f → ⊥) → Holds bytes seen (old from) f → Holds bytes now (new to) f
holds_still {F} {from} {to} seen now bytes f touches others out is = (others f out ∙ is.0, touches.others to f touches.later (omega arith) out ∙ is.1)

-- the first files of a list are empty
abbrev pub AreEmptyTo : ℕ → List ℕ → (ℕ → List ℕ) → (ℕ → Doubt) → Type 0
AreEmptyTo n freed seen doubts = (j d : ℕ) → j < n → Holds [] seen doubts (get_or freed j d)

-- and one more
pub empties_next : {from to : ℕ} {a b : ℕ → ℕ → Doubt} (freed : List ℕ) (i : ℕ) (seen now : ℕ → List ℕ) → i < length freed → Touches (λ f. f ≡ get_or freed i 0) from to a b → OthersStay (get_or freed i 0) seen now
    → Holds [] now (b to) (get_or freed i 0) → AreEmptyTo i freed seen (a from) → AreEmptyTo (i + 1) freed now (b to)
empties_next {from} {to} {a} {b} freed i seen now within touches others empty so_far j d lt = elim (cases_lt j i) [
  | inl before ↦ elim (cases_eq (get_or freed j d) (get_or freed i 0)) [
    | inl same ↦ subst (λ (f : ℕ). Holds [] now (b to) f) (sym same) empty
    | inr other ↦ holds_still seen now [] (get_or freed j d) touches others other (so_far j d before)
  ]
  | inr here ↦
      let last : j ≡ i = omega (arith, lt) in
      subst (λ (f : ℕ). Holds [] now (b to) f) (sym (ap (λ (n : ℕ). get_or freed n d) last ∙ get_or_default_zero freed i d within)) empty
]

-- the files but those of a list, and one of the list
pub rest_goes : (freed : List ℕ) (file : ℕ) (first seen now : ℕ → List ℕ) → Contains freed file → RestStays (Contains freed) first seen → OthersStay file seen now → RestStays (Contains freed) first now
rest_goes freed file first seen now among so_far others f out = others f (λ same. out (subst (Contains freed) (sym same) among)) ∙ so_far f out

pub stored_none : (fresh : Option ℕ) (bytes freed : List ℕ) (seen : ℕ → List ℕ) (doubts : ℕ → Doubt) → fresh ≡ None → IsStored fresh bytes freed seen doubts
stored_none fresh bytes freed seen doubts none f is out = absurd (subst (λ (o : Option ℕ). IsFile o f) none is)

pub stored_some : (fresh : Option ℕ) (file : ℕ) (bytes freed : List ℕ) (seen : ℕ → List ℕ) (doubts : ℕ → Doubt) → fresh ≡ Some file → Holds bytes seen doubts file → IsStored fresh bytes freed seen doubts
stored_some fresh file bytes freed seen doubts some holds f is out = let same : f ≡ file = subst (λ (o : Option ℕ). IsFile o f) some is in subst (λ (n : ℕ). Holds bytes seen doubts n) (sym same) holds

file_some : (fresh : Option ℕ) (f : ℕ) → IsFile fresh f → fresh ≡ Some f
file_some None f is = absurd is
file_some (Some file) f is = ap (λ (n : ℕ). Some n) (sym is)

-- a new body while a row is added
pub stored_row : {from to : ℕ} {a b : ℕ → ℕ → Doubt} (fresh : Option ℕ) (bytes freed : List ℕ) (seen now : ℕ → List ℕ) → ((f : ℕ) → fresh ≡ Some f → 2 ≤ f) → IsStored fresh bytes [] seen (a from)
    → Touches (λ f. f ≡ 0) from to a b → OthersStay 0 seen now → IsStored fresh bytes freed now (b to)
stored_row fresh bytes freed seen now apart stored row others f is out =
    let begins : 2 ≤ f = apart f (file_some fresh f is) in
    holds_still seen now bytes f row others (λ first. absurd (omega (arith, begins, first))) (stored f is (λ none. absurd (omega (arith, none.1))))

-- a new body while a row is added and files are emptied
pub stored_after : {from mid to : ℕ} {a b c : ℕ → ℕ → Doubt} (fresh : Option ℕ) (bytes freed : List ℕ) (seen then now : ℕ → List ℕ) → ((f : ℕ) → fresh ≡ Some f → 2 ≤ f) → IsStored fresh bytes [] seen (a from)
    → Touches (λ f. f ≡ 0) from mid a b → OthersStay 0 seen then → Touches (Contains freed) mid to b c → RestStays (Contains freed) then now → IsStored fresh bytes freed now (c to)
stored_after fresh bytes freed seen then now apart stored row row_others frees free_others f is out =
    let begins : 2 ≤ f = apart f (file_some fresh f is) in
    holds_still then now bytes f frees free_others out
    (holds_still seen then bytes f row row_others (λ first. absurd (omega (arith, begins, first))) (stored f is (λ none. absurd (omega (arith, none.1)))))

-- the row's file and the new body's, and those that are emptied
pub rest_after : (fresh : Option ℕ) (freed : List ℕ) (seen kept then now : ℕ → List ℕ) → RestStays (IsFile fresh) seen kept → OthersStay 0 kept then → RestStays (Contains freed) then now → RestStays (IsWritten fresh freed) seen now
rest_after fresh freed seen kept then now one two three f out = three f (λ freed_too. out (inr (inr freed_too))) ∙ two f (λ first. out (inl first)) ∙ one f (λ fresh_too. out (inr (inl fresh_too)))

-- what calls change
module _ {D : Type 0} (moment : D → ℕ) (seen : D → ℕ → List ℕ) (past : D → ℕ → ℕ → Doubt) where
  pub changes_none : (F : ℕ → Type 0) (old new : D) → new ≡ old → ChangesOnly moment seen past F old new
  changes_none F old new same = subst (λ (d : D). ChangesOnly moment seen past F old d) (sym same) (record { touches = touches_begin F (moment old) (past old); others = λ f out. refl })

  pub changes_wider : (F G : ℕ → Type 0) (old new : D) → ((f : ℕ) → F f → G f) → ChangesOnly moment seen past F old new → ChangesOnly moment seen past G old new
  changes_wider F G old new wider is = record { touches = touches_wider is.touches wider; others = λ f out. is.others f (λ in_f. out (wider f in_f)) }

  pub changes_join : (F : ℕ → Type 0) (old mid new : D) → ChangesOnly moment seen past F old mid → ChangesOnly moment seen past F mid new → ChangesOnly moment seen past F old new
  changes_join F old mid new one two = record { touches = touches_join one.touches two.touches; others = λ f out. two.others f out ∙ one.others f out }

  -- calls that only look, and others behind them
  pub changes_behind : (F : ℕ → Type 0) (old mid new : D) → ChangesOnly moment seen past (λ _. ⊥) old mid → ChangesOnly moment seen past F mid new → ChangesOnly moment seen past F old new
  changes_behind F old mid new looks is = changes_join F old mid new (changes_wider (λ _. ⊥) F old mid (λ f never. absurd never) looks) is
