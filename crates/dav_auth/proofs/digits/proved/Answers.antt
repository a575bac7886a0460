use Rattle.std.proofs.Common.{◌≡◌, ℕ, List, get_or, ap, sym, ◌∙◌}
use Rattle.std.proofs.Math.ListN.{get_or-map}
use Rattle.dav_auth.specs.Digits.{lower_digit, lower_digits}
use Rattle.dav_auth.proofs.digits.proved.Goals as goal

-- where all digits are the same, those at an index are
lowered_at : (want got : List ℕ) (i : ℕ) → lower_digits want ≡ lower_digits got → lower_digit (get_or want i 0) ≡ lower_digit (get_or got i 0)
lowered_at want got i same =
    sym (get_or-map lower_digit want i 0) ∙ ap (λ digits. get_or digits i 0) same ∙ get_or-map lower_digit got i 0

pub returns-then-lower_digit : goal.returns-then-lower_digit
returns-then-lower_digit c = (
  λ truth. cc,
  λ same. absurd (c.if-lower_digit.true
      (c.lower_digit.ensures ∙ lowered_at c.args.want.now c.args.got.now c.loop-i.i same ∙ sym c.lower_digit-in-loop-i.ensures)),
)
