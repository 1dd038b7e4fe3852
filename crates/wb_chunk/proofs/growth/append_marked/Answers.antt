use Rattle.std.proofs.Common.{◌≡◌, ◌+◌, ◌-◌, ◌*◌, ◌++◌, ◌≤◌, length, take, drop, replicate, ap, ◌∙◌, arith}
use Rattle.wb_chunk.proofs.MarkedWords.{block-of-zeros, next-block}
use Rattle.wb_chunk.proofs.growth.append_marked.Goals as goal
use Rattle.wb_chunk.proofs.growth.append_marked.Goals.{then-marks-block, else-marks-block}

pub loop-block-preserved : goal.loop-block-preserved
loop-block-preserved c =
    let ws = c.args.words.now in
    let block = c.loop-block.block in
    let first = c.loop-block.block * 256 in
    let last = c.min-last.result in
    let is = c.loop-block.invariant in
    let within : block * 256 ≤ length ws = omega (arith, c.loop-block-test.true, c.div_ceil-block-end.ensures) in
    let one : block * 256 + 256 ≡ (block + 1) * 256 = omega arith in
    let more = next-block ws first last c.min-last.ensures within ∙ ap (λ n. take n ws) one in
    elim c.if-marks-block.branch [
      | then-marks-block w ↦
          rw w.region-is (
            w.append_words.ensures.words ∙ ap (λ us. us ++ take (last - first) (drop first ws)) is.0 ∙ more,
            w.append_words.ensures.room.0 ∙ is.1,
            w.append_words.ensures.room.1 ∙ is.2,
          )
      | else-marks-block w ↦
          let zeros = block-of-zeros ws c.args.marks.now block last c.requires.marked w.if-marks-block.false
          (omega (arith, c.min-last.ensures, within)) (omega (arith, c.min-last.ensures)) (omega (arith, c.min-last.ensures)) in
          rw w.region-is (
            w.append_zeros.ensures.words ∙ ap (λ us. us ++ replicate (last - first) 0) is.0 ∙ ap (λ us. take first ws ++ us) zeros ∙ more,
            w.append_zeros.ensures.room.0 ∙ is.1,
            w.append_zeros.ensures.room.1 ∙ is.2,
          )
    ]
