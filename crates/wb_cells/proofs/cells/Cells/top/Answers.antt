use Rattle.std.proofs.Common.{sym, ◌∙◌, ap, zero-add}
use Rattle.wb_heap_model.specs.Row.{headers, top_of}
use Rattle.wb_cells.proofs.Laying.{spelled-laid, top_from-row}
use Rattle.wb_cells.proofs.Sound.{sound_now}
use Rattle.wb_cells.proofs.cells.Cells.top.Goals as goal

pub returns-clause-end : goal.returns-clause-end
returns-clause-end c =
    let laid = c.self.invariant.laid in
    laid.ends ∙ sym (ap (λ v. top_of (headers v.row)) (sym c.self.view_is) ∙ ap (λ r. top_of (headers r)) (spelled-laid _ _ _ _ laid) ∙ top_from-row laid.segments 0 laid.merged ∙ zero-add _)

pub returns-clause-sound : goal.returns-clause-sound
returns-clause-sound c = sound_now _ _ _ _ c.self.invariant.laid c.args.self.now c.self.view_is
