use Rattle.dav_markup.specs.Owing.{owed_in}
use Rattle.dav_markup.proofs.StretchLemmas.{shared_more}
use Rattle.dav_markup.proofs.stretch.shared.Goals as goal

pub loop-len-preserved : goal.loop-len-preserved
loop-len-preserved c =
    shared_more c.args.word.now (owed_in c.args.owed) c.args.bytes.now c.loop-len.len (owed_in c.loop-len.behind) (owed_in c.in-Some.next) c.loop-len.invariant
    c.loop-len-test.true c.if-len-word.true c.if-bytes-len.false c.in-Some.ensures
