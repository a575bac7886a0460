use Rattle.std.proofs.Common.{ap, Err}
use Rattle.dav_head.proofs.FeedLemmas.{not_over-section}
use Rattle.dav_head.proofs.trailers.judge_trailers.Goals as goal

pub returns-in-Err : goal.returns-in-Err
returns-in-Err c =
    c.in-Err.ensures.invalid (λ e. not_over-section c.args.bytes.now c.requires
    (c.in-Err.ensures.too_many (ap (λ x. Err x) e)))
