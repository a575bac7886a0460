use Rattle.std.proofs.Common.{◌∷◌, [], ℕ, sym, subst}
use Rattle.dav_edge.specs.Listed.{number_or_last, listed_log, one_call_more}
use Rattle.dav_edge.specs.Numbers.{NumbersGrew, number_given}
use Rattle.dav_edge.specs.ListClock.{moments_of, clock_calls, clock_log}
use Rattle.dav_edge.proofs.Numbering.{listed_grew}
use Rattle.dav_edge.proofs.list_clock.ListClockClock.now.Goals as goal

pub returns-clause-log : goal.returns-clause-log
returns-clause-log c =
    let clock = c.args.self.now in
    let answer : ℕ → ℕ = number_or_last (moments_of clock) in
    subst (λ (calls : ℕ). NumbersGrew (clock_log clock) (listed_log answer calls) (number_given c.next-moment.result ∷ [])) (sym c.saturating_add-self.ensures)
    (subst (λ (moment : ℕ). NumbersGrew (clock_log clock) (listed_log answer (one_call_more (clock_calls clock))) (number_given moment ∷ [])) (sym c.next-moment.ensures)
    (listed_grew answer (clock_calls clock)))
