use Rattle.dav_markup.specs.Owing.{owed_in}
use Rattle.dav_markup.specs.Stretch.{is_alike}
use Rattle.dav_markup.proofs.StretchLemmas.{all_more}
use Rattle.dav_markup.proofs.stretch.longest.Goals as goal

pub loop-index-preserved : goal.loop-index-preserved
loop-index-preserved c =
    all_more (is_alike c.args.alike) c.args.bytes.now c.loop-index.index (owed_in c.args.owed) (owed_in c.loop-index.behind) (owed_in c.in-Some.next)
    c.loop-index-test.true c.loop-index.invariant c.in-Some.ensures
