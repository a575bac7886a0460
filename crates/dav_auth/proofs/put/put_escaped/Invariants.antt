use Rattle.std.proofs.Common.{◌≡◌, ◌++◌, take}
use Rattle.dav_auth.specs.Quoted.{escape}
use Rattle.dav_auth.proofs.put.put_escaped.Given as goal

-- the bytes so far stand after the old ones
abbrev pub invariant-loop-byte : goal.invariant-loop-byte
invariant-loop-byte l = l.out.items ≡ l.fn.out.items ++ escape (take l.byte-index l.bytes)
