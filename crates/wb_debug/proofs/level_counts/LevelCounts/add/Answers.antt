use Rattle.std.proofs.Common.{zero-add}
use Rattle.wb_debug.proofs.LevelCounts.{counted-nowhere}
use Rattle.wb_debug.proofs.level_counts.LevelCounts.add.Goals as goal

-- the level has no count
pub returns-in-Err : goal.returns-in-Err
returns-in-Err c = rw (counted-nowhere _ _ _ c.in-Err.ensures.absent, zero-add c.args.count) c.insert.ensures
