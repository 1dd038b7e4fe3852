use Rattle.std.proofs.Common.{◌≡◌, ap, subst}
use Rattle.wb_debug.specs.LevelCounts.{Edits, IsRising, LevelCounts, counted_at, set_at, with_more}
use Rattle.wb_debug.proofs.LevelCounts.{counted-there}
use Rattle.wb_debug.proofs.level_counts.LevelCounts.add_at.Goals as goal

-- the count that was read is the level's
pub returns-in-Some : goal.returns-in-Some
returns-in-Some c =
    let old = c.args.self.now in
    let is : c.self.inside.counts.items ≡ old.counts = ap (λ (t : LevelCounts). t.counts) c.self.view_is in
    let more : c.in-Some.more ≡ with_more (counted_at old.counts c.args.level) c.args.count c.args.lowest =
    rw (counted-there old.counts (subst IsRising is c.self.invariant) c.args.level c.args.at c.requires, ← is, ← c.deref.ensures.0) c.in-Some.ensures in
    subst (λ cells. Edits (set_at old.counts c.args.level cells) old c.replace.new.self) more c.replace.ensures
