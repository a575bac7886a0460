use Rattle.std.proofs.Common.{◌≡◌, ◌++◌, take, flat_map}
use Rattle.dav_auth.proofs.put.put_all.Given as goal

-- the parts so far stand after the old bytes
abbrev pub invariant-loop-part : goal.invariant-loop-part
invariant-loop-part l = l.out.items ≡ l.fn.out.items ++ flat_map (λ p. p.now) (take l.part-index l.parts)
