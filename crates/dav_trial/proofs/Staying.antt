-- What is read of a file stays where calls touch others alone.
use Rattle.std.specs.Prelude.{◌≡◌, ℕ, List}
use Rattle.std.proofs.Common.{sym, subst, arith}
use Rattle.dav_disk.specs.Disk.{Doubt, Touches}

pub doubt_stays : {F : ℕ → Type 0} {from to : ℕ} {old new : ℕ → ℕ → Doubt} → Touches F from to old new → (file : ℕ) → (F file → ⊥) → new to file ≡ old from file
doubt_stays {F} {from} {to} touches file out = touches.others to file touches.later (omega arith) out

pub stays : (P : List ℕ → Doubt → Type 0) (old new : List ℕ) (before after : Doubt) → new ≡ old → after ≡ before → P old before → P new after
stays P old new before after seen doubt p = subst (λ (s : List ℕ). P s after) (sym seen) (subst (λ (d : Doubt). P old d) (sym doubt) p)
