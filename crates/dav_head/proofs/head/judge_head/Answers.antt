use Rattle.std.proofs.Common.{ap, Err, subst, ℕ}
use Rattle.httparse.specs.Spans.{ResponseExceeds}
use Rattle.dav_head.proofs.FeedLemmas.{not_over}
use Rattle.dav_head.proofs.head.judge_head.Goals as goal

pub returns-in-Err : goal.returns-in-Err
returns-in-Err c =
    let P : ℕ → Type 0 = λ n. ResponseExceeds n c.args.bytes.now in
    c.in-Err.ensures.invalid (λ e. not_over c.args.bytes.now c.requires.few
    (subst P c.requires.room (c.in-Err.ensures.too_many (ap (λ x. Err x) e))))
