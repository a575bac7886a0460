use Rattle.std.proofs.Common.{◌≡◌, ℕ, ◌<◌, ◌≤◌, ◌-◌, ◌^◌, ◌*◌, min, sym, ap, arith}
use Rattle.std.proofs.Math.Pow.{pow_mono}
use Rattle.dav_deeds.specs.Effects.{doubled}
use Rattle.dav_deeds.proofs.pause.doubled.Goals as goal

late : (n : ℕ) → 4 < n → 300 ≡ min (30 * 2 ^ (n - 1)) 300
late n h =
    let p : 2 ^ 4 ≤ 2 ^ (n - 1) = pow_mono {i = 4} {j = n - 1} (omega arith) in
    let q : 16 ≤ 2 ^ (n - 1) = p in
    omega arith

pub returns-then-attempts-gt4 : goal.returns-then-attempts-gt4
returns-then-attempts-gt4 c = late c.args.attempts c.if-attempts-gt4.true

pub returns-then-attempts-eq1 : goal.returns-then-attempts-eq1
returns-then-attempts-eq1 c = ap doubled (sym c.if-attempts-eq1.true)

pub returns-then-attempts-eq2 : goal.returns-then-attempts-eq2
returns-then-attempts-eq2 c = ap doubled (sym c.if-attempts-eq2.true)

pub returns-then-attempts-eq3 : goal.returns-then-attempts-eq3
returns-then-attempts-eq3 c = ap doubled (sym c.if-attempts-eq3.true)

pub returns-else-attempts-eq3 : goal.returns-else-attempts-eq3
returns-else-attempts-eq3 c = let four : 4 ≡ c.args.attempts = omega arith in ap doubled four
