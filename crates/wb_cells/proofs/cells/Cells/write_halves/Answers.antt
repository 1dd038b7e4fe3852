use Rattle.std.proofs.Common.{◌+◌, ◌*◌, ◌≤◌, length, ap, subst, ◌∙◌, arith}
use Rattle.wb_chunk.specs.Halves.{with_halves}
use Rattle.wb_chunk.proofs.WrittenHalves.{length-with_halves}
use Rattle.wb_cells.proofs.Changing.{valid, some_cell, payload_within, view_changed}
use Rattle.wb_cells.proofs.Indexed.{indexed_changed}
use Rattle.wb_cells.proofs.Runs.{run_holds}
use Rattle.wb_cells.proofs.Sound.{sound_laid}
use Rattle.wb_cells.proofs.cells.Cells.write_halves.Goals as goal

pub overflow_add-payload_at : goal.overflow_add-payload_at
overflow_add-payload_at c =
    let v = valid _ _ _ _ c.self.invariant.laid c.args.ptr _ (ap (λ v. v.row) c.self.view_is) (some_cell c.args.ptr c.args.self.now.row c.requires.live) in
    omega (arith, payload_within _ _ _ _ v.cell, ap length v.payload, c.requires.within, c.self.invariant.laid.bounded, c.payload_at.ensures)

pub write_halves-requires : goal.write_halves-requires
write_halves-requires c =
    let v = valid _ _ _ _ c.self.invariant.laid c.args.ptr _ (ap (λ v. v.row) c.self.view_is) (some_cell c.args.ptr c.args.self.now.row c.requires.live) in
    omega (arith, payload_within _ _ _ _ v.cell, ap length v.payload, c.requires.within, c.payload_at.ensures)

pub invariant_of-self : goal.invariant_of-self
invariant_of-self c =
    let v = valid _ _ _ _ c.self.invariant.laid c.args.ptr _ (ap (λ v. v.row) c.self.view_is) (some_cell c.args.ptr c.args.self.now.row c.requires.live) in
    let within = subst (λ b. c.args.i + length c.args.halves.now ≤ 2 * length b) v.payload c.requires.within in
    let holds = c.write_halves.ensures ∙ ap (λ k. with_halves c.self.inside.words (2 * k + c.args.i) c.args.halves.now) c.payload_at.ensures
    ∙ run_holds _ _ _ _ v.cell c.args.i c.args.halves.now within in
    indexed_changed _ _ _ _ _ c.self.invariant c.args.ptr v.cell _ _ (length-with_halves v.cell.body c.args.i c.args.halves.now) holds

pub returns-clause-changed : goal.returns-clause-changed
returns-clause-changed c =
    let v = valid _ _ _ _ c.self.invariant.laid c.args.ptr _ (ap (λ v. v.row) c.self.view_is) (some_cell c.args.ptr c.args.self.now.row c.requires.live) in
    let within = subst (λ b. c.args.i + length c.args.halves.now ≤ 2 * length b) v.payload c.requires.within in
    let holds = c.write_halves.ensures ∙ ap (λ k. with_halves c.self.inside.words (2 * k + c.args.i) c.args.halves.now) c.payload_at.ensures
    ∙ run_holds _ _ _ _ v.cell c.args.i c.args.halves.now within in
    view_changed _ _ _ _ c.self.invariant.laid c.args.ptr v.cell _ (λ b. with_halves b c.args.i c.args.halves.now) (length-with_halves v.cell.body c.args.i c.args.halves.now) holds
    c.args.self.now c.self.view_is v.payload

pub returns-clause-sound : goal.returns-clause-sound
returns-clause-sound c = sound_laid _ _ _ _ (invariant_of-self c).laid
