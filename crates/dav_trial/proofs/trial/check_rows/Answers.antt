use Rattle.std.proofs.Common.{[], ◌∷◌, ◌++◌, refl}
use Rattle.dav_trial.proofs.trial.check_rows.Goals as goal

pub returns-in-None-clause-ready : goal.returns-in-None-clause-ready
returns-in-None-clause-ready g c h rows is =
    let before = c.loop-number.invariant.1 (c.next_row.ensures.keeps h) rows is in
    let rest = rw c.in-None.is at c.in_ok-next_row.ensures.at_rest h in
    (before.0, rest refl before.0 before.1)

pub loop-number-preserved : goal.loop-number-preserved
loop-number-preserved g c = (
  λ h. c.loop-number.invariant.0 (c.next_row.ensures.keeps (c.check_row.ensures.keeps h)),
  λ h rows is.
      let before = c.loop-number.invariant.1 (c.next_row.ensures.keeps (c.check_row.ensures.keeps h)) rows is in
      let read = rw c.in-Some.is at c.in_ok-next_row.ensures.reading (c.check_row.ensures.keeps h) in
      (before.0 ++ c.in-Some.row ∷ [], c.check_row.ensures.reading h (before.0 ++ c.in-Some.row ∷ []) c.next_row.new.self.end (read before.0 before.1)),
)
