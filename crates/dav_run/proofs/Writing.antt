-- What the sink took of some texts, one behind another.
use Rattle.std.proofs.Common.{◌≡◌, ℕ, List, [], ◌++◌, Bool, true, false, not, refl, sym, ◌∙◌, ap, subst, append_assoc}
use Rattle.dav_machine.specs.Log.{any_failed}
use Rattle.dav_machine.specs.Machine.{Run}
use Rattle.dav_machine.proofs.Logs.{any_failed-append}
use Rattle.dav_edge.specs.Device.{Answer, Happened, is_failure, taken}
use Rattle.dav_edge.proofs.Sending.{SentSo}
use Rattle.dav_edge.proofs.Taking.{taken-append}
use Rattle.dav_run.specs.Kept.{Wrote}

pub wrote_none : Wrote [] []
wrote_none = record { cut = []; beginning = refl; whole = λ fine. refl }

-- where nothing failed, all was sent
all_sent : (all : Bool) → not all ≡ false → all ≡ true
all_sent true is = refl
all_sent false is = cc

pub wrote_sent : (bytes : List ℕ) (run : Run (List Happened) (List Answer) Bool) → SentSo bytes run → Wrote run.made bytes
wrote_sent bytes run so = record {
  cut = so.not_taken;
  beginning = so.beginning;
  whole = λ fine. so.whole (all_sent run.result (sym so.failed ∙ fine));
}

pub wrote_as : (es fs : List Happened) (s t : List ℕ) → es ≡ fs → s ≡ t → Wrote es s → Wrote fs t
wrote_as es fs s t made text one =
    subst (λ (l : List ℕ). Wrote fs l) text (subst (λ (l : List Happened). Wrote l s) made one)

-- two texts, the first of them whole
pub wrote_then : (es fs : List Happened) (s t : List ℕ) → any_failed is_failure es ≡ false → Wrote es s → Wrote fs t → Wrote (es ++ fs) (s ++ t)
wrote_then es fs s t fine one two =
    let first : taken (es ++ fs) ≡ s ++ taken fs = taken-append es fs ∙ ap (λ (l : List ℕ). l ++ taken fs) (one.whole fine) in record {
      cut = two.cut;
      beginning = ap (λ (l : List ℕ). l ++ two.cut) first ∙ append_assoc s (taken fs) two.cut ∙ ap (λ (l : List ℕ). s ++ l) two.beginning;
      whole = λ none. first ∙ ap (λ (l : List ℕ). s ++ l) (two.whole (sym (any_failed-append is_failure es fs fine) ∙ none));
    }

-- a text in which the sink failed, and what would have come behind it
pub wrote_cut : (es : List Happened) (s t : List ℕ) → any_failed is_failure es ≡ true → Wrote es s → Wrote es (s ++ t)
wrote_cut es s t failed one = record {
  cut = one.cut ++ t;
  beginning = sym (append_assoc (taken es) one.cut t) ∙ ap (λ (l : List ℕ). l ++ t) one.beginning;
  whole = λ fine. let no : true ≡ false = sym failed ∙ fine in absurd (cc);
}
