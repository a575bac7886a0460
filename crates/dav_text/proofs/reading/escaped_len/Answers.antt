use Rattle.std.proofs.Common.{◌≡◌, ◌<◌, length, get_or, arith, sym, ap, ◌∙◌}
use Rattle.dav_text.specs.declared.sets.TheConstants.{ESCAPED}
use Rattle.dav_text.proofs.ReadLemmas.{longer, nothing_long}
use Rattle.dav_text.proofs.reading.escaped_len.Goals as goal

pub loop-byte-init : goal.loop-byte-init
loop-byte-init c = let e = nothing_long ESCAPED in omega arith

pub loop-byte-preserved : goal.loop-byte-preserved
loop-byte-preserved c =
    let within : c.loop-byte.byte-index < length c.args.segment.now = omega arith in
    let e = longer ESCAPED c.args.segment.now c.loop-byte.byte-index within in
    omega arith
