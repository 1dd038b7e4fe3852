use Rattle.std.proofs.Common.{◌+◌, sym, ◌∙◌, arith}
use Rattle.std.proofs.lemmas.Bool.{false≢true}
use Rattle.wb_chunk.proofs.NextMarks.{next-in-either}
use Rattle.wb_chunk.proofs.next_marks.search_either.Goals as goal
use Rattle.wb_chunk.proofs.next_marks.search_either.Goals.{then-has_mark-via-then-has_mark, then-has_mark-via-else-has_mark+then-has_mark-2}

pub returns-then-has_mark : goal.returns-then-has_mark
returns-then-has_mark c =
    let before = c.loop-block.invariant in
    next-in-either c.args.marks.now c.args.others.now c.args.from c.args.end c.loop-block.block (c.loop-block.block + 64) c.first_in_either.result before.0 (omega (arith, before.1, c.loop-block-test.true)) before.2 before.3
    c.first_in_either.ensures
    (λ none nor. elim c.then-has_mark.branch [
      | then-has_mark-via-then-has_mark w ↦ false≢true (sym (c.has_mark.ensures.on none) ∙ w.if-has_mark.true)
      | then-has_mark-via-else-has_mark+then-has_mark-2 w ↦ false≢true (sym (w.has_mark-else-has_mark.ensures.on nor) ∙ w.if-has_mark-2.true)
    ])
