use Rattle.std.proofs.Common.{arith}
use Rattle.wb_heap_model.specs.Row.{headers}
use Rattle.wb_rheap.proofs.LongestRuns.{longest_above}
use Rattle.wb_rheap.proofs.space.longest_run.Goals as goal

pub returns : goal.returns
returns c =
    omega (arith, c.max.ensures, c.longest_gap.ensures.gap, c.top.ensures.end, longest_above (headers c.args.cells.now.row) 0 c.args.committed c.requires)
