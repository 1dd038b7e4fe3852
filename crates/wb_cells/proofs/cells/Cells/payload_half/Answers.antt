use Rattle.std.proofs.Common.{◌+◌, ◌*◌, ◌/◌, ◌<◌, length, ap, sym, ◌∙◌, arith}
use Rattle.wb_chunk.specs.Halves.{half_of}
use Rattle.wb_heap_model.specs.CellRow.{payload_of}
use Rattle.wb_cells.proofs.Halving.{half_of-at}
use Rattle.wb_cells.proofs.Changing.{reached, payload_within, word_of-payload}
use Rattle.wb_cells.proofs.Sound.{sound_now}
use Rattle.wb_cells.proofs.cells.Cells.payload_half.Goals as goal

pub overflow_add-payload_at : goal.overflow_add-payload_at
overflow_add-payload_at c =
    let lt : c.args.i / 2 < length (payload_of c.args.ptr c.args.self.now.row) = omega (arith, c.requires) in
    let r = reached _ _ _ _ c.self.invariant.laid c.args.ptr (c.args.i / 2) _ (ap (λ v. v.row) c.self.view_is) lt in
    omega (arith, payload_within _ _ _ _ r.cell, r.within, c.self.invariant.laid.bounded, c.payload_at.ensures)

pub half-requires : goal.half-requires
half-requires c =
    let lt : c.args.i / 2 < length (payload_of c.args.ptr c.args.self.now.row) = omega (arith, c.requires) in
    let r = reached _ _ _ _ c.self.invariant.laid c.args.ptr (c.args.i / 2) _ (ap (λ v. v.row) c.self.view_is) lt in
    omega (arith, payload_within _ _ _ _ r.cell, r.within, c.payload_at.ensures)

pub returns-clause-half : goal.returns-clause-half
returns-clause-half c =
    let lt : c.args.i / 2 < length (payload_of c.args.ptr c.args.self.now.row) = omega (arith, c.requires) in
    let r = reached _ _ _ _ c.self.invariant.laid c.args.ptr (c.args.i / 2) _ (ap (λ v. v.row) c.self.view_is) lt in
    c.half.ensures ∙ ap (λ k. half_of c.self.inside.words (2 * k + c.args.i)) c.payload_at.ensures ∙ half_of-at c.self.inside.words r.cell.body (c.args.ptr.place / 16 * 4 + 4) c.args.i (word_of-payload _ _ _ _ r.cell (c.args.i / 2) r.within)
    ∙ ap (λ b. half_of b c.args.i) (sym r.payload)

pub returns-clause-sound : goal.returns-clause-sound
returns-clause-sound c = sound_now _ _ _ _ c.self.invariant.laid c.args.self.now c.self.view_is
