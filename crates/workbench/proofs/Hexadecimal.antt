-- Eight hexadecimal digits, as a format pads them.
use Rattle.std.proofs.Common.{◌≡◌, ℕ, ◌-◌, ◌^◌, [], false, Some, ap, ◌∙◌}
use Rattle.std.proofs.lemmas.List.{append-nil}
use Rattle.std.proofs.Math.Nat.{sub-zero}
use Rattle.std.specs.Option.{option_map}
use Rattle.std.specs.Fmt.{padded_integral, before_digits, char_count, format_spec, digits, digits_output, styled_digits_output, shown_prefix, radix_prefix}
use Rattle.workbench.specs.EndWords.{eight_digits}

pub eight_digits_padded : (n : ℕ) → padded_integral (format_spec 32 0 4 8 (2 ^ 64 - 1)) false [] (digits 16 false n) ≡ eight_digits n
unfolding padded_integral char_count
eight_digits_padded n = simp (append-nil, before_digits, sub-zero)

-- a hole `{:08x}` writes eight digits
pub eight_digits_styled : (n : ℕ) (d : _) (s : _) → s ≡ format_spec 32 0 4 8 (2 ^ 64 - 1) → digits_output d ≡ Some (digits 16 false n)
    → styled_digits_output d s ≡ Some (eight_digits n)
eight_digits_styled n d s layout shown =
    ap (λ x. option_map (padded_integral x false (shown_prefix x (radix_prefix d.base))) (digits_output d)) layout
    ∙ ap (option_map (padded_integral (format_spec 32 0 4 8 (2 ^ 64 - 1)) false [])) shown
    ∙ ap Some (eight_digits_padded n)
