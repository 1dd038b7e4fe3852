-- How long a line gets by what is put into it.
use Rattle.std.proofs.Common.{◌≡◌, ℕ, ◌+◌, ◌<◌, ◌≤◌, ◌^◌, List, ◌++◌, length, decimal, arith, ap, length-append}
use Rattle.std.proofs.lemmas.Fmt.{length-decimal-le}

-- a number of 32 bits has ten decimal digits at most
pub ten_digits : (n : ℕ) → n < 2 ^ 32 → length (decimal n) ≤ 10
ten_digits n fits = length-decimal-le 10 n (omega arith) (omega arith) (omega arith)

-- so the line gets longer by ten bytes at most
pub longer_by_digits : (new old : List ℕ) (n : ℕ) → n < 2 ^ 32 → new ≡ decimal n ++ old → length new ≤ 10 + length old
longer_by_digits new old n fits is = omega (arith, ten_digits n fits, length-append (decimal n) old, ap length is)
