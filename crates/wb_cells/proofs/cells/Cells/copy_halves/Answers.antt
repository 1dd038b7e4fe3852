use Rattle.std.proofs.Common.{◌≡◌, ◌+◌, ◌*◌, ◌≤◌, length, subst, ap, sym, ◌∙◌, arith}
use Rattle.wb_chunk.specs.Halves.{halves_from, with_halves}
use Rattle.wb_chunk.proofs.WrittenHalves.{length-halves_from, length-with_halves}
use Rattle.wb_heap_model.specs.CellRow.{payload_of, with_payload}
use Rattle.wb_cells.specs.Inside.{cells_in}
use Rattle.wb_cells.proofs.Changing.{valid, some_cell, payload_within, view_changed}
use Rattle.wb_cells.proofs.Indexed.{indexed_changed}
use Rattle.wb_cells.proofs.Runs.{run_holds, run_of}
use Rattle.wb_cells.proofs.Sound.{sound_laid}
use Rattle.wb_cells.proofs.cells.Cells.copy_halves.Goals as goal

pub overflow_add-payload_at : goal.overflow_add-payload_at
overflow_add-payload_at c =
    let v = valid _ _ _ _ c.self.invariant.laid c.args.from _ (ap (λ v. v.row) c.self.view_is) (some_cell c.args.from c.args.self.now.row c.requires.from_live) in
    omega (arith, payload_within _ _ _ _ v.cell, ap length v.payload, c.requires.source, c.self.invariant.laid.bounded, c.payload_at.ensures)

pub overflow_add-payload_at-2 : goal.overflow_add-payload_at-2
overflow_add-payload_at-2 c =
    let v = valid _ _ _ _ c.self.invariant.laid c.args.to _ (ap (λ v. v.row) c.self.view_is) (some_cell c.args.to c.args.self.now.row c.requires.to_live) in
    omega (arith, payload_within _ _ _ _ v.cell, ap length v.payload, c.requires.target, c.self.invariant.laid.bounded, c.payload_at-2.ensures)

pub copy_halves-requires-clause-source : goal.copy_halves-requires-clause-source
copy_halves-requires-clause-source c =
    let v = valid _ _ _ _ c.self.invariant.laid c.args.from _ (ap (λ v. v.row) c.self.view_is) (some_cell c.args.from c.args.self.now.row c.requires.from_live) in
    omega (arith, payload_within _ _ _ _ v.cell, ap length v.payload, c.requires.source, c.payload_at.ensures)

pub copy_halves-requires-clause-target : goal.copy_halves-requires-clause-target
copy_halves-requires-clause-target c =
    let v = valid _ _ _ _ c.self.invariant.laid c.args.to _ (ap (λ v. v.row) c.self.view_is) (some_cell c.args.to c.args.self.now.row c.requires.to_live) in
    omega (arith, payload_within _ _ _ _ v.cell, ap length v.payload, c.requires.target, c.payload_at-2.ensures)

pub invariant_of-self : goal.invariant_of-self
invariant_of-self c =
    let ws = c.self.inside.words in
    let n = c.args.n in
    let v = valid _ _ _ _ c.self.invariant.laid c.args.from _ (ap (λ v. v.row) c.self.view_is) (some_cell c.args.from c.args.self.now.row c.requires.from_live) in
    let w = valid _ _ _ _ c.self.invariant.laid c.args.to _ (ap (λ v. v.row) c.self.view_is) (some_cell c.args.to c.args.self.now.row c.requires.to_live) in
    let source = subst (λ b. c.args.fi + n ≤ 2 * length b) v.payload c.requires.source in
    let target = subst (λ b. c.args.ti + n ≤ 2 * length b) w.payload c.requires.target in
    let hs = halves_from v.cell.body c.args.fi n in
    let holds = c.copy_halves.ensures
    ∙ ap (λ k. with_halves ws (2 * c.payload_at-2.result + c.args.ti) (halves_from ws (2 * k + c.args.fi) n)) c.payload_at.ensures
    ∙ ap (λ us. with_halves ws (2 * c.payload_at-2.result + c.args.ti) us) (run_of _ _ _ _ v.cell c.args.fi n source)
    ∙ ap (λ k. with_halves ws (2 * k + c.args.ti) hs) c.payload_at-2.ensures
    ∙ run_holds _ _ _ _ w.cell c.args.ti hs (omega (arith, target, length-halves_from v.cell.body c.args.fi n)) in
    indexed_changed _ _ _ _ _ c.self.invariant c.args.to w.cell _ _ (length-with_halves w.cell.body c.args.ti hs) holds

pub returns-clause-copied : goal.returns-clause-copied
returns-clause-copied c =
    let ws = c.self.inside.words in
    let n = c.args.n in
    let v = valid _ _ _ _ c.self.invariant.laid c.args.from _ (ap (λ v. v.row) c.self.view_is) (some_cell c.args.from c.args.self.now.row c.requires.from_live) in
    let w = valid _ _ _ _ c.self.invariant.laid c.args.to _ (ap (λ v. v.row) c.self.view_is) (some_cell c.args.to c.args.self.now.row c.requires.to_live) in
    let source = subst (λ b. c.args.fi + n ≤ 2 * length b) v.payload c.requires.source in
    let target = subst (λ b. c.args.ti + n ≤ 2 * length b) w.payload c.requires.target in
    let hs = halves_from v.cell.body c.args.fi n in
    let holds = c.copy_halves.ensures
    ∙ ap (λ k. with_halves ws (2 * c.payload_at-2.result + c.args.ti) (halves_from ws (2 * k + c.args.fi) n)) c.payload_at.ensures
    ∙ ap (λ us. with_halves ws (2 * c.payload_at-2.result + c.args.ti) us) (run_of _ _ _ _ v.cell c.args.fi n source)
    ∙ ap (λ k. with_halves ws (2 * k + c.args.ti) hs) c.payload_at-2.ensures
    ∙ run_holds _ _ _ _ w.cell c.args.ti hs (omega (arith, target, length-halves_from v.cell.body c.args.fi n)) in
    subst (λ s. cells_in c.copy_halves.new.self c.self.inside.ends.top
    ≡ record { row = with_payload c.args.to (with_halves (payload_of c.args.to c.args.self.now.row) c.args.ti (halves_from s c.args.fi n)) c.args.self.now.row; held = c.args.self.now.held }) (sym v.payload)
    (view_changed _ _ _ _ c.self.invariant.laid c.args.to w.cell _ (λ b. with_halves b c.args.ti hs) (length-with_halves w.cell.body c.args.ti hs) holds
    c.args.self.now c.self.view_is w.payload)

pub returns-clause-sound : goal.returns-clause-sound
returns-clause-sound c = sound_laid _ _ _ _ (invariant_of-self c).laid
