use Rattle.std.proofs.Common.{◌+◌, ◌-◌, ◌*◌, ◌/◌, ◌%◌, ◌<◌, arith}
use Rattle.wb_chunk.proofs.MovedWords.{moved-before}
use Rattle.wb_chunk.proofs.moves.move_up.Goals as goal

pub loop-block-preserved : goal.loop-block-preserved
loop-block-preserved c =
    let at = c.args.n - (c.loop-block.block + 1) * 16 in
    let next = c.args.n - c.loop-block.block * 16 in
    let less : c.loop-block.block < c.args.n / 16 = c.loop-block-test.true in
    moved-before c.args.shifted c.args.words.now c.loop-block.words c.move_block.new.words (c.args.from + next) (c.args.to + next) (c.args.from + at) (c.args.to + at) (c.loop-block.block * 16) 16 _
    (omega (arith, c.requires.order)) (omega (arith, less)) (omega (arith, less)) (omega arith)
    c.loop-block.invariant c.move_block.ensures

pub loop-i-preserved : goal.loop-i-preserved
loop-i-preserved c =
    let rest = c.args.n % 16 in
    let at = rest - (c.loop-i.i + 1) in
    let next = rest - c.loop-i.i in
    let less = c.loop-i-test.true in
    moved-before c.args.shifted c.args.words.now c.loop-i.words c.move_word.new.words (c.args.from + next) (c.args.to + next) (c.args.from + at) (c.args.to + at) (c.args.n - next) 1 _
    (omega (arith, c.requires.order)) (omega (arith, less)) (omega (arith, less)) (omega (arith, less))
    c.loop-i.invariant c.move_word.ensures
