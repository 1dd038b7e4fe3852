use Rattle.std.proofs.Common.{◌∙◌, refl, sym, subst}
use Rattle.wb_debug.specs.LevelCounts.{Edits, counted_at, set_at, with_more}
use Rattle.wb_debug.specs.Tally.{Tally, IsTally}
use Rattle.wb_debug.proofs.Tallies.{tally-moved}
use Rattle.wb_debug.proofs.tally.Tally.put_at.Goals as goal

pub returns-then-has_level : goal.returns-then-has_level
returns-then-has_level c row new moved is kind level placed was =
    let levels = c.self.inside.levels in
    let cell = c.args.cell in
    tally-moved (record { total = c.self.inside.total; levels = levels }) (record { total = c.self.inside.total; levels = c.add.new.self }) row new cell moved
    (sym c.has_level.ensures ∙ c.if-has_level.true) kind level refl
    (subst (λ p. Edits (set_at levels.counts cell.level (with_more (counted_at levels.counts cell.level) 0 p)) levels c.add.new.self) (sym placed) c.add.ensures) is
    (subst (λ (t : Tally). IsTally t row) (sym c.self.view_is) was)
