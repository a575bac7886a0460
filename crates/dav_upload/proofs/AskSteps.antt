-- The steps of asks of a desk.
use Rattle.std.proofs.Common.{◌≡◌, ◌≢◌, ℕ, Bool, true, false, List, [], ◌∷◌, ◌++◌, Option, Some, if◌then◌else◌, refl, sym, ◌∙◌, ap, subst}
use Rattle.std.proofs.lemmas.Bool.{false≢true}
use Rattle.dav_deeds.specs.Answers.{Kind, Tells, Gives, Idles, Ends, is_idle, kind_told}
use Rattle.dav_deeds.specs.DeskTable.{DeskTable}
use Rattle.dav_deeds.specs.Effects.{after, told_of}
use Rattle.dav_deeds.specs.Legal.{deed_of}
use Rattle.dav_deeds.specs.declared.answer.Flight.{Flight}
use Rattle.dav_deeds.specs.declared.answer.Told.{Told}
use Rattle.dav_deeds.specs.declared.answer.Told.TheVariants.{Idle}
use Rattle.dav_deeds.specs.declared.ask.Ask.{Ask}
use Rattle.dav_deeds.specs.declared.ask.Who.{Who}
use Rattle.dav_deeds.specs.declared.deed.Deed.{Deed}
use Rattle.dav_deeds.specs.declared.deed.Step.{Step}
use Rattle.dav_deeds.proofs.AllRows.{idle_is}
use Rattle.dav_desk.specs.Verdict.{Went, step_of, steps_by, table_by}

-- a take that finds nothing changes nothing
pub idle_same : (t : DeskTable) (now : ℕ) (deed : Deed) → told_of t now deed ≡ Some Idle → after t now deed ≡ t
idle_same t now deed is = (idle_is t now deed (ap kind_told is)).same

idle_kind : (k : Kind) → is_idle k ≡ true → k ≡ Idles
idle_kind Tells is = absurd (false≢true is)
idle_kind (Gives flight) is = absurd (false≢true is)
idle_kind Idles is = refl
idle_kind Ends is = absurd (false≢true is)

-- Of an ask that went: what holds of the table after it and of the steps behind it holds of the table before and all of the steps, where it holds of
-- one step before steps.
pub steps_then : (Holds : DeskTable → List Step → Type 0) (t : DeskTable) (who : Who) (now : ℕ) (ask : Ask) (moment : ℕ) (rest : List Step)
    → (told_of t now (deed_of t ask) ≢ Some Idle → Holds (table_by Went t now ask) rest → Holds t (step_of t who now ask moment ∷ rest))
    → Holds (table_by Went t now ask) rest → Holds t (steps_by Went t who now ask moment ++ rest)
steps_then Holds t who now ask moment rest one later = by (is_idle (kind_told (told_of t now (deed_of t ask)))) refl
  where
    by : (b : Bool) → is_idle (kind_told (told_of t now (deed_of t ask))) ≡ b → Holds t ((if b then [] else step_of t who now ask moment ∷ []) ++ rest)
    by false is = one (λ idle. false≢true (sym is ∙ ap (λ (o : Option Told). is_idle (kind_told o)) idle)) later
    by true is = subst (λ (u : DeskTable). Holds u rest) (idle_is t now (deed_of t ask) (idle_kind (kind_told (told_of t now (deed_of t ask))) is)).same later
