use Rattle.std.proofs.Common.{◌+◌, sym, ◌∙◌, arith}
use Rattle.std.proofs.lemmas.Bool.{false≢true}
use Rattle.wb_chunk.proofs.NextMarks.{next-marked}
use Rattle.wb_chunk.proofs.next_marks.search_marked.Goals as goal

pub returns-then-has_mark : goal.returns-then-has_mark
returns-then-has_mark c =
    let before = c.loop-block.invariant in
    next-marked c.args.marks.now c.args.from c.args.end c.loop-block.block (c.loop-block.block + 64) c.first_marked.result before.0 (omega (arith, before.1, c.loop-block-test.true)) before.2 c.first_marked.ensures
    (λ none. false≢true (sym (c.has_mark.ensures.on none) ∙ c.if-has_mark.true))
