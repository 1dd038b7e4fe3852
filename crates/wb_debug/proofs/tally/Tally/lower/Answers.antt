use Rattle.std.proofs.Common.{refl, sym, subst}
use Rattle.wb_heap_model.specs.Row.{headers}
use Rattle.wb_debug.specs.Tally.{Tally, IsTally}
use Rattle.wb_debug.proofs.LoweredTallies.{tally-lowered}
use Rattle.wb_debug.proofs.tally.Tally.lower.Goals as goal

pub returns : goal.returns
returns c row was =
    tally-lowered (record { total = c.self.inside.total; levels = c.self.inside.levels }) (record { total = c.self.inside.total; levels = c.lower.new.self }) c.args.level
    row c.requires refl c.lower.ensures (subst (λ (t : Tally). IsTally t (headers row)) (sym c.self.view_is) was)
