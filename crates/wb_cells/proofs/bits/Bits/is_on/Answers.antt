use Rattle.std.proofs.Common.{◌%◌, get_or, false, ap, ◌∙◌, sym, arith}
use Rattle.std.specs.Int.{bit_at}
use Rattle.std.specs.Prelude.{nat_eq}
use Rattle.std.proofs.lemmas.List.{get_or_past}
use Rattle.std.proofs.lemmas.Nat.Bits.{shr_and_one}
use Rattle.wb_cells.specs.Bits.{bits_of}
use Rattle.wb_cells.proofs.Packing.{length-bits_of, get_or-bits_of}
use Rattle.wb_cells.proofs.bits.Bits.is_on.Goals as goal

pub returns-then-words-index : goal.returns-then-words-index
returns-then-words-index c =
    let words = c.self.inside.words in
    sym (ap (λ b. get_or b c.args.at false) (sym c.self.view_is)
    ∙ get_or_past (bits_of words) c.args.at false (omega (arith, length-bits_of words, c.if-words-index.true, c.words.ensures.count)))

pub returns : goal.returns
returns c =
    let words = c.self.inside.words in
    ap (λ b. nat_eq b 1) (shr_and_one c.word.result (c.args.at % 32) ∙ ap (λ w. bit_at w (c.args.at % 32)) c.word.ensures)
    ∙ sym (get_or-bits_of words c.args.at)
    ∙ ap (λ b. get_or b c.args.at false) c.self.view_is
