-- What a shell asks leaves a desk resting.
use Rattle.std.proofs.Common.{◌≡◌, ◌⊎◌, inl, inr, ℕ, List, length, Option, Some, None, true, refl, sym, ◌∙◌, subst}
use Rattle.dav_deeds.specs.DeskTable.{DeskTable}
use Rattle.dav_deeds.specs.Effects.{after}
use Rattle.dav_deeds.specs.Legal.{IsAsk, IsOfShell, deed_of}
use Rattle.dav_deeds.specs.declared.answer.Answer.{Answer}
use Rattle.dav_deeds.specs.declared.ask.Ask.{Ask}
use Rattle.dav_deeds.specs.declared.ask.Ask.TheVariants.{Stop}
use Rattle.dav_deeds.specs.declared.fault.DeskFault.{DeskFault}
use Rattle.dav_deeds.specs.declared.fault.DeskFault.TheVariants as desk
use Rattle.dav_deeds.proofs.AllRows.{after_sound, ask_is_deed, shell_flies}
use Rattle.dav_desk.specs.Verdict.{Verdict, Went, Stopped, Starved, result_by, table_by}
use Rattle.dav_upload.specs.Resting.{IsResting}
use Rattle.dav_upload.proofs.Asks.{an_answer, a_fault}

pub shell_rests : (t : DeskTable) (now : ℕ) (ask : Ask) (v : Verdict) → IsAsk ask → IsOfShell ask → IsResting t → IsResting (table_by v t now ask)
shell_rests t now ask Went is of rests = record { sound = after_sound t rests.sound now (deed_of t ask) (ask_is_deed t ask is); free = shell_flies t now ask of ∙ rests.free }
shell_rests t now ask (Stopped fault) is of rests = rests
shell_rests t now ask Starved is of rests = rests

-- a desk that was told to stop is about to end
pub stop_stops : (t : DeskTable) (now : ℕ) (ask : Ask) (v : Verdict) (bytes : List ℕ) (answer : Answer) → an_answer answer ≡ result_by v t now ask bytes → ask ≡ Stop → (table_by v t now ask).stopping ≡ true
stop_stops t now ask v bytes answer told is = subst (λ (a : Ask). (table_by v t now a).stopping ≡ true) (sym is) (by v (subst (λ (a : Ask). an_answer answer ≡ result_by v t now a bytes) is told))
  where
    by : (w : Verdict) → an_answer answer ≡ result_by w t now Stop bytes → (table_by w t now Stop).stopping ≡ true
    by Went so = refl
    by (Stopped fault) so = let h : an_answer answer ≡ a_fault fault = so in cc
    by Starved so = let h : an_answer answer ≡ a_fault desk.Memory = so in cc
