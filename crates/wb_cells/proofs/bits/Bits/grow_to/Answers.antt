use Rattle.std.proofs.Common.{◌≡◌, ◌+◌, ◌-◌, ◌*◌, ◌/◌, ◌++◌, length, replicate, false, ap, sym, ◌∙◌, arith}
use Rattle.std.proofs.lemmas.Result.{on_ok_weaker}
use Rattle.wb_cells.specs.Bits.{bits_of}
use Rattle.wb_cells.proofs.Packing.{length-bits_of, bits_of-append, bits_of-zeros}
use Rattle.wb_cells.proofs.bits.Bits.grow_to.Goals as goal

pub returns-clause-grown : goal.returns-clause-grown
returns-clause-grown c =
    let words = c.self.inside.words in
    let more = c.div_ceil.result - length words in
    let bits : 32 * more ≡ 32 * ((c.args.count + 31) / 32) - length c.args.self.now =
    omega (arith, c.div_ceil.ensures, ap length (sym c.self.view_is), length-bits_of words) in
    on_ok_weaker c.grow_to.result (λ grown.
    ap bits_of grown ∙ bits_of-append words (replicate more 0) ∙ ap (λ b. bits_of words ++ b) (bits_of-zeros more ∙ ap (λ k. replicate k false) bits)
    ∙ ap (λ b. b ++ replicate (32 * ((c.args.count + 31) / 32) - length c.args.self.now) false) c.self.view_is) c.grow_to.ensures.grown

-- where there are so many bits, there are words for them
pub returns-clause-enough : goal.returns-clause-enough
returns-clause-enough c few =
    c.grow_to.ensures.enough (omega (arith, few, c.div_ceil.ensures, ap length (sym c.self.view_is), length-bits_of c.self.inside.words))
