-- What is printable: texts that are written out, numbers, and each line that `print` makes.
use Rattle.std.proofs.Common.{◌≡◌, ℕ, zero, suc, ◌+◌, ◌/◌, ◌%◌, ◌<◌, eqb, Bool, true, false, ◌&&◌, ◌||◌, cond, List, [], ◌∷◌, ℤ, pos, negsuc, get_or, take, nat_le, nat_lt, arith, ltb-true, ltb-false, leb-true, refl}
use Rattle.std.specs.Fmt.{digit_glyph, digits_onto, digits, decimal, signed_decimal}
use Rattle.std.specs.List.{list_all}
use Rattle.std.proofs.lemmas.Bool.{and_parts}
use Rattle.std.proofs.lemmas.List.Elements.{All-nil, All-cons, All-map}
use Rattle.wb_basics.specs.declared.limits.TheConstants.{LONGEST_PRINTED}
use Rattle.wb_meaning.specs.Printable.{IsPrintable, ArePrintable}
use Rattle.wb_heap_model.specs.Texts.{printed_unit, printed}

-- a text that is written out, by a test of its bytes
abbrev pub is_printable : ℕ → Bool
is_printable byte = nat_le 32 byte && nat_le byte 126

pub printable_by_test : (bytes : List ℕ) → list_all is_printable bytes ≡ true → ArePrintable bytes
printable_by_test [] passes = All-nil IsPrintable
printable_by_test (byte ∷ bytes) passes =
    let (here, rest) = and_parts (is_printable byte) (list_all is_printable bytes) passes in
    let (low, high) = and_parts (nat_le 32 byte) (nat_le byte 126) here in
    All-cons IsPrintable byte bytes (leb-true 32 byte low, leb-true byte 126 high) (printable_by_test bytes rest)

-- ---- numbers

glyph-printable : (d : ℕ) → d < 16 → IsPrintable (digit_glyph false d)
glyph-printable d small = by (nat_lt d 10) refl
  where
    by : (b : Bool) → nat_lt d 10 ≡ b → IsPrintable (cond b (48 + d) (87 + d))
    by true low = let less = ltb-true d 10 low in (omega (arith, less), omega (arith, less))
    by false high = (omega (arith, small), omega (arith, small))

onto-printable : (base : ℕ) → ((n : ℕ) → n % base < 16) → (k n : ℕ) (following : List ℕ) → ArePrintable following → ArePrintable (digits_onto k base false n following)
onto-printable base small zero n following are = are
onto-printable base small (suc k) n following are =
    let more = All-cons IsPrintable (digit_glyph false (n % base)) following (glyph-printable (n % base) (small n)) are in
    either (eqb (n / base) 0) _ _ more (onto-printable base small k (n / base) _ more)
  where
    either : (b : Bool) (xs ys : List ℕ) → ArePrintable xs → ArePrintable ys → ArePrintable (cond b xs ys)
    either true xs ys p q = p
    either false xs ys p q = q

digits-printable : (base : ℕ) → ((n : ℕ) → n % base < 16) → (n : ℕ) → ArePrintable (digits base false n)
unfolding digits
digits-printable base small n = onto-printable base small 64 n [] (All-nil IsPrintable)

pub decimal-printable : (n : ℕ) → ArePrintable (decimal n)
decimal-printable = digits-printable 10 (λ n. omega arith)

pub hexadecimal-printable : (n : ℕ) → ArePrintable (digits 16 false n)
hexadecimal-printable = digits-printable 16 (λ n. omega arith)

pub signed_decimal-printable : (z : ℤ) → ArePrintable (signed_decimal z)
signed_decimal-printable (pos n) = decimal-printable n
signed_decimal-printable (negsuc n) = All-cons IsPrintable 45 (decimal (suc n)) (omega arith, omega arith) (decimal-printable (suc n))

-- ---- texts

printed_unit-printable : (u : ℕ) → IsPrintable (printed_unit u)
printed_unit-printable u = by (nat_lt u 32) (nat_lt 126 u) refl refl
  where
    by : (low high : Bool) → nat_lt u 32 ≡ low → nat_lt 126 u ≡ high → IsPrintable (cond (low || high) 46 u)
    by true high l h = (omega arith, omega arith)
    by false true l h = (omega arith, omega arith)
    by false false l h = (ltb-false u 32 l, ltb-false 126 u h)

pub printed-printable : (us : List ℕ) → ArePrintable (printed us)
printed-printable us = All-map IsPrintable printed_unit (take LONGEST_PRINTED us) (λ k d lt. printed_unit-printable (get_or (take LONGEST_PRINTED us) k d))
