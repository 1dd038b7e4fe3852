use Rattle.std.proofs.Common.{◌∙◌, ap}
use Rattle.wb_heap_model.specs.Row.{headers, top_of}
use Rattle.wb_heap_model.specs.Space.{free_runs, longest}
use Rattle.wb_cells.proofs.Listing.{longest_is}
use Rattle.wb_cells.proofs.Sound.{sound_now}
use Rattle.wb_cells.proofs.cells.Cells.longest_gap.Goals as goal

pub returns-clause-gap : goal.returns-clause-gap
returns-clause-gap c =
    longest_is _ _ _ _ c.self.invariant.laid _ c.self.invariant.listed _ c.longest.ensures
    ∙ ap (λ v. longest (free_runs 0 (headers v.row) (top_of (headers v.row)))) c.self.view_is

pub returns-clause-sound : goal.returns-clause-sound
returns-clause-sound c = sound_now _ _ _ _ c.self.invariant.laid c.args.self.now c.self.view_is
