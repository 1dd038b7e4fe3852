use Rattle.std.proofs.Common.{ap, ◌∙◌, sym}
use Rattle.std.specs.Int.{w32}
use Rattle.std.specs.Prelude.{nat_eq}
use Rattle.std.proofs.lemmas.Nat.Bits.{bit_at_set_same, bit_at_set_other, bit_at_clear_same, bit_at_clear_other}
use Rattle.wb_cells.proofs.bits.with_bit.Goals as goal

pub returns-then-on : goal.returns-then-on
returns-then-on c = record {
  here = ap (λ b. nat_eq b 1) (bit_at_set_same w32 c.args.word c.args.bit c.requires) ∙ sym c.if-on.true;
  elsewhere = λ k lt other. bit_at_set_other w32 c.args.word c.args.bit c.requires k other;
}

pub returns-else-on : goal.returns-else-on
returns-else-on c = record {
  here = ap (λ b. nat_eq b 1) (bit_at_clear_same w32 c.args.word c.args.bit c.requires) ∙ sym c.if-on.false;
  elsewhere = λ k lt other. bit_at_clear_other w32 c.args.word c.args.bit c.requires k lt other;
}
