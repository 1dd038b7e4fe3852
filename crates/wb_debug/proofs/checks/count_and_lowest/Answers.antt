use Rattle.wb_heap_model.specs.Row.{headers}
use Rattle.wb_debug.specs.Levels.{is_counted}
use Rattle.wb_debug.proofs.Tallies.{below-zero}
use Rattle.wb_debug.proofs.checks.count_and_lowest.Goals as goal

pub returns-in-All-clause-lowest : goal.returns-in-All-clause-lowest
returns-in-All-clause-lowest c = below-zero (is_counted c.args.levels) (headers c.args.heap.now.row)

pub returns-in-None-clause-lowest : goal.returns-in-None-clause-lowest
returns-in-None-clause-lowest c = below-zero (is_counted c.args.levels) (headers c.args.heap.now.row)
