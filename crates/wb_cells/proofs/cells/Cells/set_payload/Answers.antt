use Rattle.std.proofs.Common.{◌+◌, slice_set, ap, ◌∙◌, arith}
use Rattle.std.proofs.lemmas.List.{length-set}
use Rattle.wb_cells.proofs.Changing.{reached, payload_within, set_holds, view_changed}
use Rattle.wb_cells.proofs.Indexed.{indexed_changed}
use Rattle.wb_cells.proofs.Sound.{sound_laid}
use Rattle.wb_cells.proofs.cells.Cells.set_payload.Goals as goal

pub overflow_add-payload_at : goal.overflow_add-payload_at
overflow_add-payload_at c =
    let r = reached _ _ _ _ c.self.invariant.laid c.args.ptr c.args.i _ (ap (λ v. v.row) c.self.view_is) c.requires in
    omega (arith, payload_within _ _ _ _ r.cell, r.within, c.self.invariant.laid.bounded, c.payload_at.ensures)

pub set_word-requires : goal.set_word-requires
set_word-requires c =
    let r = reached _ _ _ _ c.self.invariant.laid c.args.ptr c.args.i _ (ap (λ v. v.row) c.self.view_is) c.requires in
    omega (arith, payload_within _ _ _ _ r.cell, r.within, c.payload_at.ensures)

-- whichever word of the payload is written
pub invariant_of-self : goal.invariant_of-self
invariant_of-self c =
    let r = reached _ _ _ _ c.self.invariant.laid c.args.ptr c.args.i _ (ap (λ v. v.row) c.self.view_is) c.requires in
    let holds = c.set_word.ensures ∙ ap (λ k. slice_set c.self.inside.words (k + c.args.i) c.args.v) c.payload_at.ensures ∙ set_holds _ _ _ _ r.cell _ c.args.v (omega (arith, r.within)) in
    indexed_changed _ _ _ _ _ c.self.invariant c.args.ptr r.cell _ _ (length-set r.cell.body _ c.args.v) holds

pub returns-clause-changed : goal.returns-clause-changed
returns-clause-changed c =
    let r = reached _ _ _ _ c.self.invariant.laid c.args.ptr c.args.i _ (ap (λ v. v.row) c.self.view_is) c.requires in
    let holds = c.set_word.ensures ∙ ap (λ k. slice_set c.self.inside.words (k + c.args.i) c.args.v) c.payload_at.ensures ∙ set_holds _ _ _ _ r.cell c.args.i c.args.v r.within in
    view_changed _ _ _ _ c.self.invariant.laid c.args.ptr r.cell _ (λ b. slice_set b c.args.i c.args.v) (length-set r.cell.body c.args.i c.args.v) holds c.args.self.now c.self.view_is r.payload

pub returns-clause-sound : goal.returns-clause-sound
returns-clause-sound c = sound_laid _ _ _ _ (invariant_of-self c).laid
