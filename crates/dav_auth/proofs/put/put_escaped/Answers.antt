use Rattle.std.proofs.Common.{◌<◌, length, get_or, take, arith}
use Rattle.dav_auth.specs.Quoted.{escape, escape_byte}
use Rattle.dav_auth.proofs.QuoteLemmas.{escape_more, grown}
use Rattle.dav_auth.proofs.put.put_escaped.Goals as goal

pub loop-byte-preserved : goal.loop-byte-preserved
loop-byte-preserved c =
    let bytes = c.args.bytes.now in
    let i = c.loop-byte.byte-index in
    let within : i < length bytes = omega arith in
    grown c.args.out.now.items (escape (take i bytes)) (escape_byte (get_or bytes i 0)) _ c.loop-byte.out.items _ c.loop-byte.invariant
    c.in_ok-put_byte.ensures (escape_more bytes i within)
