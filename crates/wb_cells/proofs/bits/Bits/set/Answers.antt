use Rattle.std.proofs.Common.{◌*◌, ◌%◌, ◌<◌, length, slice_set, ap, ◌∙◌, sym, subst, arith}
use Rattle.wb_cells.specs.Bits.{bits_of, IsWithBit}
use Rattle.wb_cells.proofs.Packing.{length-bits_of, bits_of-set}
use Rattle.wb_cells.proofs.bits.Bits.set.Goals as goal

pub word-requires : goal.word-requires
word-requires c = omega (arith, c.requires, ap length (sym c.self.view_is), length-bits_of c.self.inside.words)

pub set_word-requires : goal.set_word-requires
set_word-requires c = omega (arith, c.requires, ap length (sym c.self.view_is), length-bits_of c.self.inside.words)

pub returns : goal.returns
returns c =
    let words = c.self.inside.words in
    let word = c.with_bit-word.result in
    let within : c.args.at < 32 * length words = omega (arith, c.requires, ap length (sym c.self.view_is), length-bits_of words) in
    let changed = subst (λ w. IsWithBit w word (c.args.at % 32) c.args.on) c.word.ensures c.with_bit-word.ensures in
    ap bits_of c.set_word.ensures ∙ bits_of-set words c.args.at word c.args.on within changed
    ∙ ap (λ b. slice_set b c.args.at c.args.on) c.self.view_is
