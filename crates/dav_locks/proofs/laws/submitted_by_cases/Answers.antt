use Rattle.dav_locks.proofs.PathTests.{by_cases, by_test}
use Rattle.dav_locks.proofs.laws.submitted_by_cases.Goals as goal

pub returns : goal.returns
returns c = λ how path depth lock. (by_cases how path depth lock, by_test how path depth lock)
