use Rattle.std.proofs.Common.{◌+◌, ◌*◌, slice_index, sym, ◌∙◌, arith}
use Rattle.wb_lines.proofs.Digits.{digit_at_most_nine, one_more_digit, nine_digits}
use Rattle.wb_lines.proofs.words.digits_of.Goals as goal

pub overflow_mul-value : goal.overflow_mul-value
overflow_mul-value c =
    let longer = one_more_digit c.loop-byte.byte-index c.loop-byte.value 0 (omega arith) c.loop-byte.invariant.bound (omega arith) in
    omega (arith, nine_digits (c.loop-byte.byte-index + 1) (10 * c.loop-byte.value + 0) (omega arith) longer)

pub overflow_add-value : goal.overflow_add-value
overflow_add-value c =
    let digit = digit_at_most_nine (slice_index c.args.word.now c.loop-byte.byte-index) (sym c.is_digit.ensures ∙ c.if-not-is_digit.false) in
    let longer = one_more_digit c.loop-byte.byte-index c.loop-byte.value _ (omega arith) c.loop-byte.invariant.bound digit in
    omega (arith, nine_digits (c.loop-byte.byte-index + 1) _ (omega arith) longer)
