use Rattle.std.proofs.Common.{◌+◌, ◌-◌, ◌*◌, ◌/◌, ◌<◌, ◌≤◌, length, arith}
use Rattle.std.proofs.lemmas.Bool.{ltb-false}
use Rattle.wb_chunk.proofs.MarkedWords.{block-filled, blocks-left}
use Rattle.wb_chunk.proofs.marks.zero.Goals as goal

pub loop-block-preserved : goal.loop-block-preserved
loop-block-preserved c =
    let old = c.args.words.now in
    let ws = c.loop-block.words in
    let marks = c.loop-block.marks in
    let end = c.args.i + c.args.n in
    let block = c.loop-block.block in
    let next = c.next_marked-block-in-loop-block.ensures in
    let from : c.args.i / 256 ≤ block = c.loop-block.invariant.0 in
    let before : block * 256 < end = omega (arith, c.loop-block-test.true, c.div_ceil-blocks.ensures) in
    let fits : end ≤ length ws = omega (arith, c.requires.within, c.loop-block.auto.words) in
    let covered : length ws ≤ 256 * length marks = omega (arith, c.requires.covered, c.loop-block.auto.words, c.loop-block.auto.marks) in (
      omega (arith, from, next.after),
      next.within,
      blocks-left old _ _ c.args.i end (block + 1) c.next_marked-block-in-loop-block.result
          (block-filled old ws c.fill.new.self marks c.args.i end block c.max-first.result c.min-last.result _ c.loop-block.invariant.2 c.max-first.ensures c.min-last.ensures
          (omega (arith, before, from, c.max-first.ensures, c.min-last.ensures)) fits covered from before (c.fill.ensures.after (λ y e. e))
          (λ off. ltb-false (c.min-last.result - c.max-first.result) 256 off))
          next.passed,
    )
