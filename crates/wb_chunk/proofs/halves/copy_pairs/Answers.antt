use Rattle.std.proofs.Common.{◌≡◌, ◌*◌, ◌/◌, suc, ap, ◌∙◌, arith}
use Rattle.wb_chunk.specs.Halves.{halves_from, with_halves}
use Rattle.wb_chunk.proofs.WrittenHalves.{pairs-moved, pairs-shifted}
use Rattle.wb_chunk.proofs.halves.copy_pairs.Goals as goal

pub returns-then-from-eq0 : goal.returns-then-from-eq0
returns-then-from-eq0 c =
    let old = c.args.words.now in
    let t = c.args.to in
    let n = c.args.n in
    let start : 2 * (c.args.from / 2) ≡ c.args.from = omega (arith, c.if-from-eq0.true) in
    pairs-moved old c.move_words.new.words (c.args.from / 2) t n c.move_words.auto.words c.requires.target c.requires.fit c.move_words.ensures
    ∙ ap (λ k. with_halves old (2 * t) (halves_from old k (2 * n))) start

pub returns-else-from-eq0 : goal.returns-else-from-eq0
returns-else-from-eq0 c =
    let old = c.args.words.now in
    let t = c.args.to in
    let n = c.args.n in
    let start : suc (2 * (c.args.from / 2)) ≡ c.args.from = omega (arith, c.if-from-eq0.false) in
    pairs-shifted old c.shift_words.new.words (c.args.from / 2) t n c.shift_words.auto.words c.requires.target c.requires.fit c.shift_words.ensures
    ∙ ap (λ k. with_halves old (2 * t) (halves_from old k (2 * n))) start
