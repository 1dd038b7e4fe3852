use Rattle.std.proofs.Common.{◌≡◌, ap, sym, subst}
use Rattle.wb_debug.specs.LevelCounts.{IsRising, LevelCounts}
use Rattle.wb_debug.proofs.LevelCounts.{counted-there, counted-nowhere}
use Rattle.wb_debug.proofs.level_counts.LevelCounts.counted.Goals as goal

-- the level is at its place, and the count there is the one that was read
pub returns-in-Ok : goal.returns-in-Ok
returns-in-Ok c =
    let is : c.self.inside.counts.items ≡ c.args.self.now.counts = ap (λ (t : LevelCounts). t.counts) c.self.view_is in
    rw (c.deref.ensures.0, is) (sym (counted-there _ (subst IsRising is c.self.invariant) _ _ c.in-Ok.ensures.found))

-- the level has no count
pub returns-in-Err : goal.returns-in-Err
returns-in-Err c = sym (counted-nowhere _ _ _ c.in-Err.ensures.absent)
