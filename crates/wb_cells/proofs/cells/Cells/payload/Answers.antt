use Rattle.std.proofs.Common.{◌+◌, get_or, slice_index, ap, sym, ◌∙◌, arith}
use Rattle.wb_cells.proofs.Changing.{reached, payload_within, word_of-payload}
use Rattle.wb_cells.proofs.Sound.{sound_now}
use Rattle.wb_cells.proofs.cells.Cells.payload.Goals as goal

pub overflow_add-payload_at : goal.overflow_add-payload_at
overflow_add-payload_at c =
    let r = reached _ _ _ _ c.self.invariant.laid c.args.ptr c.args.i _ (ap (λ v. v.row) c.self.view_is) c.requires in
    omega (arith, payload_within _ _ _ _ r.cell, r.within, c.self.invariant.laid.bounded, c.payload_at.ensures)

pub word-requires : goal.word-requires
word-requires c =
    let r = reached _ _ _ _ c.self.invariant.laid c.args.ptr c.args.i _ (ap (λ v. v.row) c.self.view_is) c.requires in
    omega (arith, payload_within _ _ _ _ r.cell, r.within, c.payload_at.ensures)

pub returns-clause-word : goal.returns-clause-word
returns-clause-word c =
    let r = reached _ _ _ _ c.self.invariant.laid c.args.ptr c.args.i _ (ap (λ v. v.row) c.self.view_is) c.requires in
    c.word.ensures ∙ ap (λ k. slice_index c.self.inside.words (k + c.args.i)) c.payload_at.ensures ∙ word_of-payload _ _ _ _ r.cell c.args.i r.within ∙ ap (λ b. get_or b c.args.i 0) (sym r.payload)

pub returns-clause-sound : goal.returns-clause-sound
returns-clause-sound c = sound_now _ _ _ _ c.self.invariant.laid c.args.self.now c.self.view_is
