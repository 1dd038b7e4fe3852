use Rattle.wb_cells.proofs.Sound.{sound_now}
use Rattle.wb_cells.proofs.cells.Cells.held.Goals as goal

pub returns-clause-sound : goal.returns-clause-sound
returns-clause-sound c = sound_now _ _ _ _ c.self.invariant.laid c.args.self.now c.self.view_is
