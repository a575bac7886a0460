use Rattle.std.proofs.Common.{◌≡◌, ℕ, suc, ◌+◌, ◌-◌, ◌*◌, ◌<◌, ◌≤◌, ◌^◌, arith, length, get_or, true, sym}
use Rattle.std.proofs.lemmas.Bool.Decides.{nat_tests}
use Rattle.std.proofs.Math.Nat.{pow-le-pow_right, pow-suc}
use Rattle.std.proofs.lemmas.Int.Digits.{digits_value_more}
use Rattle.std.proofs.lemmas.List.Folds.{list_all_more}
use Rattle.std.specs.Char.{is_ascii_digit, digit_value}
use Rattle.dav_text.proofs.digits.number_of.Goals as goal

below : (n i : ℕ) → n < 10 ^ i → i ≤ 18 → n < 1000000000000000000
below n i h k = let p : 10 ^ i ≤ 10 ^ 18 = pow-le-pow_right (omega arith) k in omega (arith, p)

digit_small : (b : ℕ) → is_ascii_digit b ≡ true → (48 ≤ b) × (b ≤ 57)
digit_small b h = (grind (arith, nat_tests), grind (arith, nat_tests))

digit_is : (b : ℕ) → is_ascii_digit b ≡ true → digit_value b ≡ b - 48
digit_is b h = grind (arith, nat_tests)

pub overflow_mul-number : goal.overflow_mul-number
overflow_mul-number c =
    let b = below c.loop-byte.number c.loop-byte.byte-index c.loop-byte.invariant.bound (omega arith) in omega (arith, b)

pub overflow_add-number : goal.overflow_add-number
overflow_add-number c =
    let b = below c.loop-byte.number c.loop-byte.byte-index c.loop-byte.invariant.bound (omega arith) in
    let d = digit_small (get_or c.args.text.now c.loop-byte.byte-index 0) (sym c.if-not-is_ascii_digit.ensures.value) in omega (arith, b, d.1)

pub loop-byte-preserved : goal.loop-byte-preserved
loop-byte-preserved c =
    let x = get_or c.args.text.now c.loop-byte.byte-index 0 in
    let i = c.loop-byte.byte-index in
    let is : is_ascii_digit x ≡ true = sym c.if-not-is_ascii_digit.ensures.value in
    let h : i < length c.args.text.now = omega arith in
    let v = digits_value_more 10 c.args.text.now i h in
    record {
      value = rw (v, digit_is x is, ← c.loop-byte.invariant.value);
      bound = let s : 10 ^ (suc i) ≡ 10 ^ i * 10 = pow-suc 10 i in let d = digit_small x is in let t : i + 1 ≡ suc i = omega arith in rw t (omega (arith, s, d.1));
      digits = rw (list_all_more is_ascii_digit c.args.text.now i 0 h, c.loop-byte.invariant.digits) is;
    }
