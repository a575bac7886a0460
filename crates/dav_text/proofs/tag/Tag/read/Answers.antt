use Rattle.std.proofs.Common.{◌<◌, length, arith, ◌∙◌}
use Rattle.std.proofs.Math.ListN.{length-set}
use Rattle.dav_text.proofs.TagLemmas.{copied_more}
use Rattle.dav_text.proofs.tag.Tag.read.Goals as goal

pub loop-i-preserved : goal.loop-i-preserved
loop-i-preserved c =
    let long = c.loop-i.invariant.long in
    let within : c.loop-i.i < length c.loop-i.bytes = omega arith in
    let inside : c.loop-i.i < length c.args.value.now = omega arith in
    record {
      copied = copied_more c.loop-i.bytes c.args.value.now c.loop-i.i within inside c.loop-i.invariant.copied;
      long = length-set _ _ _ ∙ long;
    }
