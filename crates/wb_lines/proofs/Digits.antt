-- How far a number of nine digits at most goes.
use Rattle.std.proofs.Common.{◌≡◌, ℕ, ◌+◌, ◌-◌, ◌*◌, ◌^◌, ◌<◌, ◌≤◌, true, arith, lit<}
use Rattle.std.proofs.Math.Nat.{pow-le-pow_right}
use Rattle.std.proofs.lemmas.Bool.Decides.{nat_tests}
use Rattle.std.proofs.lemmas.Grind.{common_steps, pow_more}
use Rattle.wb_language.specs.Words.{is_digit}

pub digit_at_most_nine : (byte : ℕ) → is_digit byte ≡ true → byte - 48 ≤ 9
digit_at_most_nine byte digit = grind (arith, common_steps, nat_tests)

-- one more digit after fewer than nine
pub one_more_digit : (i value digit : ℕ) → i < 9 → value < 10 ^ i → digit ≤ 9 → 10 * value + digit < 10 ^ (i + 1)
one_more_digit i value digit few below one = omega (arith, pow_more 10 i)

pub nine_digits : (i value : ℕ) → i ≤ 9 → value < 10 ^ i → value < 10 ^ 9
nine_digits i value few below =
    let longer : 10 ^ i ≤ 10 ^ 9 = pow-le-pow_right (lit< tt) few in
    omega arith
