use Rattle.std.proofs.Common.{◌≡◌, ap, subst}
use Rattle.wb_debug.specs.LevelCounts.{Edits, IsRising, LevelCounts, counted_at, one_less, set_at}
use Rattle.wb_debug.proofs.LevelCounts.{counted-nowhere, counted-there, edits-set, sets-nothing}
use Rattle.wb_debug.proofs.level_counts.LevelCounts.take.Goals as goal

-- the count that was read is the level's
pub returns-in-Ok : goal.returns-in-Ok
returns-in-Ok c =
    let old = c.args.self.now in
    let is : c.self.inside.counts.items ≡ old.counts = ap (λ (t : LevelCounts). t.counts) c.self.view_is in
    let fewer : c.one_less-fewer.result ≡ one_less (counted_at old.counts c.args.level) =
    rw (counted-there old.counts (subst IsRising is c.self.invariant) c.args.level c.in-Ok.at c.in-Ok.ensures.found, ← is, ← c.deref.ensures.0) c.one_less-fewer.ensures in
    subst (λ cells. Edits (set_at old.counts c.args.level cells) old c.replace.new.self) fewer c.replace.ensures

-- the level has no count
pub returns-in_default : goal.returns-in_default
returns-in_default c = rw (counted-nowhere _ _ _ c.in_default.ensures.absent) (edits-set _ _ _ _ _ (sets-nothing _ _ _ c.in_default.ensures.absent))
