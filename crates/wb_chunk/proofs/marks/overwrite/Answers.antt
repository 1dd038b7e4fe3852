use Rattle.std.proofs.Common.{◌≡◌, ◌+◌, ◌-◌, ◌*◌, ◌<◌, ◌≤◌, length, take, drop, ap, ◌∙◌, arith}
use Rattle.std.proofs.lemmas.List.{length-take-le, length-drop}
use Rattle.wb_chunk.proofs.MarkedWords.{all-copied, block-of-zeros, block-put, blocks-same}
use Rattle.wb_chunk.proofs.WrittenHalves.{zeros}
use Rattle.wb_chunk.proofs.marks.overwrite.Goals as goal
use Rattle.wb_chunk.proofs.marks.overwrite.Goals.{then-source_marks-block, else-source_marks-block}

pub loop-block-preserved : goal.loop-block-preserved
loop-block-preserved c =
    let source = c.args.source.now in
    let others = c.args.source_marks.now in
    let ws = c.loop-block.words in
    let marks = c.loop-block.marks in
    let block = c.loop-block.block in
    let last = c.min-last.result in
    let done = c.loop-block.invariant.1 in
    let next = c.next_in_either-block-in-loop-block.ensures in
    let long : length source ≡ length ws = omega (arith, c.requires.as_many, c.loop-block.auto.words) in
    let before : block * 256 < length source = omega (arith, c.loop-block-test.true, c.div_ceil-blocks.ensures) in
    let fits : block < length marks = omega (arith, before, c.requires.as_many, c.requires.covered, c.loop-block.auto.marks) in
    let le : block * 256 ≤ last = omega (arith, before, c.min-last.ensures) in
    elim c.if-source_marks-block.branch [
      | then-source_marks-block w ↦ (
        next.within,
        rw w.words-is (blocks-same source _ _ others (block + 1) c.next_in_either-block-in-loop-block.result
            (block-put source ws w.copy_from_slice.new.self marks others block last done c.requires.source_marked fits long c.min-last.ensures le w.copy_from_slice.ensures.after)
            c.requires.source_marked next.passed.0 next.passed.1),
      )
      | else-source_marks-block w ↦
          let room : length (take (last - block * 256) (drop (block * 256) ws)) ≡ last - block * 256 =
          length-take-le (last - block * 256) (drop (block * 256) ws) (omega (arith, length-drop (block * 256) ws, c.min-last.ensures, long)) in
          let clear : zeros (last - block * 256) ≡ take (last - block * 256) (drop (block * 256) source) =
          block-of-zeros source others block last c.requires.source_marked w.if-source_marks-block.false le (omega (arith, c.min-last.ensures)) (omega (arith, c.min-last.ensures)) in (
            next.within,
            rw w.words-is (blocks-same source _ _ others (block + 1) c.next_in_either-block-in-loop-block.result
                (block-put source ws w.fill.new.self marks others block last done c.requires.source_marked fits long c.min-last.ensures le (w.fill.ensures.after (λ y e. e) ∙ ap zeros room ∙ clear))
                c.requires.source_marked next.passed.0 next.passed.1),
          )
    ]

pub returns-clause-same : goal.returns-clause-same
returns-clause-same c =
    all-copied c.args.source.now c.loop-block.words c.loop-block.marks c.loop-block.block c.loop-block.invariant.1
    (omega (arith, c.requires.as_many, c.loop-block.auto.words)) (omega (arith, c.loop-block-test.false, c.div_ceil-blocks.ensures))
