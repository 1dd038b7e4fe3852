use Rattle.std.proofs.Common.{◌+◌, ◌*◌, ◌/◌, ◌<◌, length, get_or, ap, ◌∙◌, arith}
use Rattle.std.proofs.lemmas.List.{length-set}
use Rattle.wb_chunk.specs.Halves.{with_half}
use Rattle.wb_heap_model.specs.CellRow.{payload_of}
use Rattle.wb_cells.proofs.Halving.{mixed, with_half-at}
use Rattle.wb_cells.proofs.Changing.{reached, payload_within, word_of-payload, set_holds, view_changed}
use Rattle.wb_cells.proofs.Indexed.{indexed_changed}
use Rattle.wb_cells.proofs.Sound.{sound_laid}
use Rattle.wb_cells.proofs.cells.Cells.set_payload_half.Goals as goal

pub overflow_add-payload_at : goal.overflow_add-payload_at
overflow_add-payload_at c =
    let lt : c.args.i / 2 < length (payload_of c.args.ptr c.args.self.now.row) = omega (arith, c.requires) in
    let r = reached _ _ _ _ c.self.invariant.laid c.args.ptr (c.args.i / 2) _ (ap (λ v. v.row) c.self.view_is) lt in
    omega (arith, payload_within _ _ _ _ r.cell, r.within, c.self.invariant.laid.bounded, c.payload_at.ensures)

pub set_half-requires : goal.set_half-requires
set_half-requires c =
    let lt : c.args.i / 2 < length (payload_of c.args.ptr c.args.self.now.row) = omega (arith, c.requires) in
    let r = reached _ _ _ _ c.self.invariant.laid c.args.ptr (c.args.i / 2) _ (ap (λ v. v.row) c.self.view_is) lt in
    omega (arith, payload_within _ _ _ _ r.cell, r.within, c.payload_at.ensures)

pub invariant_of-self : goal.invariant_of-self
invariant_of-self c =
    let lt : c.args.i / 2 < length (payload_of c.args.ptr c.args.self.now.row) = omega (arith, c.requires) in
    let r = reached _ _ _ _ c.self.invariant.laid c.args.ptr (c.args.i / 2) _ (ap (λ v. v.row) c.self.view_is) lt in
    let word = word_of-payload _ _ _ _ r.cell (c.args.i / 2) r.within in
    let new = mixed (get_or r.cell.body (c.args.i / 2) 0) c.args.i c.args.v in
    let holds = c.set_half.ensures ∙ ap (λ k. with_half c.self.inside.words (2 * k + c.args.i) c.args.v) c.payload_at.ensures ∙ with_half-at c.self.inside.words r.cell.body (c.args.ptr.place / 16 * 4 + 4) c.args.i c.args.v word
    ∙ set_holds _ _ _ _ r.cell (c.args.i / 2) new r.within in
    indexed_changed _ _ _ _ _ c.self.invariant c.args.ptr r.cell _ _ (length-set r.cell.body (c.args.i / 2) new) holds

pub returns-clause-changed : goal.returns-clause-changed
returns-clause-changed c =
    let lt : c.args.i / 2 < length (payload_of c.args.ptr c.args.self.now.row) = omega (arith, c.requires) in
    let r = reached _ _ _ _ c.self.invariant.laid c.args.ptr (c.args.i / 2) _ (ap (λ v. v.row) c.self.view_is) lt in
    let word = word_of-payload _ _ _ _ r.cell (c.args.i / 2) r.within in
    let new = mixed (get_or r.cell.body (c.args.i / 2) 0) c.args.i c.args.v in
    let holds = c.set_half.ensures ∙ ap (λ k. with_half c.self.inside.words (2 * k + c.args.i) c.args.v) c.payload_at.ensures ∙ with_half-at c.self.inside.words r.cell.body (c.args.ptr.place / 16 * 4 + 4) c.args.i c.args.v word
    ∙ set_holds _ _ _ _ r.cell (c.args.i / 2) new r.within in
    view_changed _ _ _ _ c.self.invariant.laid c.args.ptr r.cell _ (λ b. with_half b c.args.i c.args.v) (length-set r.cell.body (c.args.i / 2) new) holds
    c.args.self.now c.self.view_is r.payload

pub returns-clause-sound : goal.returns-clause-sound
returns-clause-sound c = sound_laid _ _ _ _ (invariant_of-self c).laid
