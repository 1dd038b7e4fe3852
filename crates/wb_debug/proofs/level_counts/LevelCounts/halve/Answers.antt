use Rattle.std.proofs.lemmas.List.Sorted.{answers_always}
use Rattle.std.proofs.Common.{◌≡◌, ◌∙◌, ap, sym, subst, rules}
use Rattle.wb_debug.specs.declared.level_counts.LevelCount.{LevelCount}
use Rattle.wb_debug.specs.LevelCounts.{IsRising, LevelCounts}
use Rattle.wb_debug.proofs.LevelCounts.{searched}
use Rattle.wb_debug.proofs.level_counts.LevelCounts.halve.Goals as goal

-- the closure gives a count's level, and the slice is the counts
pub returns : goal.returns
returns c =
    let facts = c.binary_search_by_key.ensures in
    let by_key = facts.position (λ (count : LevelCount). count.level) (answers_always _ _ _ (λ f a r g called. search rules)) in
    let same : c.deref.result.now ≡ c.args.self.now.counts = c.deref.ensures.0 ∙ ap (λ (t : LevelCounts). t.counts) c.self.view_is in
    rw (← same) (searched _ (subst IsRising (sym c.deref.ensures.0) c.self.invariant) c.args.level _ facts.bound by_key)
