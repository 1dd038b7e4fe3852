use Rattle.std.proofs.Common.{◌∙◌, refl, sym, subst, ◌+◌}
use Rattle.wb_debug.specs.Tally.{Tally, IsTally}
use Rattle.wb_debug.proofs.Tallies.{tally-granted, tally-past}
use Rattle.wb_debug.proofs.tally.Tally.grant.Goals as goal

pub returns-then-has_level : goal.returns-then-has_level
returns-then-has_level c row more is was =
    tally-granted (record { total = c.self.inside.total; levels = c.self.inside.levels }) (record { total = c.self.inside.total + 1; levels = c.add.new.self })
    row more c.args.cell (sym c.has_level.ensures ∙ c.if-has_level.true) refl c.add.ensures is (subst (λ (t : Tally). IsTally t row) (sym c.self.view_is) was)

pub returns-else-has_level : goal.returns-else-has_level
returns-else-has_level c row more is was = tally-past c.args.self.now row more c.args.cell (sym c.has_level.ensures ∙ c.if-has_level.false) is was
