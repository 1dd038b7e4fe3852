use Rattle.std.proofs.Common.{◌+◌, ◌*◌, refl, arith}
use Rattle.wb_chunk.proofs.MovedWords.{moved-after}
use Rattle.wb_chunk.proofs.moves.move_down.Goals as goal

pub loop-block-preserved : goal.loop-block-preserved
loop-block-preserved c =
    let done = c.loop-block.block * 16 in
    moved-after c.args.shifted c.args.words.now c.loop-block.words c.move_block.new.words c.args.from c.args.to (c.args.from + done) (c.args.to + done) done 16 _ c.requires.order refl refl (omega arith)
    c.loop-block.invariant c.move_block.ensures

pub loop-i-preserved : goal.loop-i-preserved
loop-i-preserved c =
    let done = c.loop-i.i in
    moved-after c.args.shifted c.args.words.now c.loop-i.words c.move_word.new.words c.args.from c.args.to (c.args.from + done) (c.args.to + done) done 1 _ c.requires.order refl refl refl
    c.loop-i.invariant c.move_word.ensures
