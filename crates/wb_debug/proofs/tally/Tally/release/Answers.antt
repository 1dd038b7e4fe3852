use Rattle.std.proofs.Common.{◌∙◌, sym, subst, arith}
use Rattle.wb_debug.specs.Tally.{Tally, IsTally}
use Rattle.wb_debug.proofs.Tallies.{tally-before, tally-released}
use Rattle.wb_debug.proofs.tally.Tally.release.Goals as goal

pub returns-then-has_level : goal.returns-then-has_level
returns-then-has_level c row less is was =
    tally-released (record { total = c.self.inside.total; levels = c.self.inside.levels }) (record { total = c.saturating_sub-self-inside.result; levels = c.take.new.self }) row less
    c.args.cell (sym c.has_level.ensures ∙ c.if-has_level.true) (omega (arith, c.saturating_sub-self-inside.ensures)) c.take.ensures is (subst (λ (t : Tally). IsTally t row) (sym c.self.view_is) was)

pub returns-else-has_level : goal.returns-else-has_level
returns-else-has_level c row less is was =
    tally-before c.args.self.now row less c.args.cell (sym c.has_level.ensures ∙ c.if-has_level.false) is was
