use Rattle.std.proofs.Common.{refl, sym, ◌∙◌}
use Rattle.wb_cleanup.proofs.Growing.{started, uncut}
use Rattle.wb_cleanup.proofs.cleanup.Cleanup.start.Goals as goal

pub unreachable-requires : goal.unreachable-requires
unreachable-requires c =
    uncut c.args.heap.now c.attempt_alloc.new.self c.in_ok-cell.ensures.sound c.requires.first (sym c.in-Ceiling.is ∙ c.in_ok-cell.ensures.gave) c.in_ok-cell.ensures.made

pub returns-in-Granted-clause-stands : goal.returns-in-Granted-clause-stands
returns-in-Granted-clause-stands c =
    (started c.args.heap.now c.attempt_alloc.new.self c.in_ok-cell.ensures.sound _ c.in-Granted.cell
    (sym c.in-Granted.is ∙ c.in_ok-cell.ensures.gave) c.in_ok-cell.ensures.made refl refl refl).is
