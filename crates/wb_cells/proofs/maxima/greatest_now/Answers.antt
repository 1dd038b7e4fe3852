use Rattle.std.proofs.Common.{slice_index, sym, subst, arith}
use Rattle.wb_cells.specs.Maxima.{IsGreatest}
use Rattle.wb_cells.proofs.Spans.{greatest_up, changed_most}
use Rattle.wb_cells.proofs.maxima.greatest_now.Goals as goal

pub returns-then-was-now : goal.returns-then-was-now
returns-then-was-now c f old others is =
    subst (IsGreatest (slice_index c.args.numbers.now) c.args.from c.args.end) (sym c.number-now.ensures)
    (greatest_up f (slice_index c.args.numbers.now) c.args.from c.args.end c.args.was c.args.at c.requires.between.0 c.requires.between.1 others
    (omega (arith, c.if-was-now.true, c.number-now.ensures)) is)

pub returns-then-old-was : goal.returns-then-old-was
returns-then-old-was c f old others is =
    c.greatest_among.ensures (changed_most f (slice_index c.args.numbers.now) c.args.from c.args.end c.args.was c.args.at others
    (omega (arith, c.if-was-now.false, c.number-now.ensures)) is)
