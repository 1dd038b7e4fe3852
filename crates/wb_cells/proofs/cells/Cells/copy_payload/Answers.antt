use Rattle.std.proofs.Common.{◌≡◌, ◌+◌, ◌*◌, ◌/◌, ◌++◌, ◌≤◌, take, drop, length, subst, ap, sym, ◌∙◌, arith}
use Rattle.std.specs.Prelude.{slice_range}
use Rattle.std.specs.List.{replace_range}
use Rattle.wb_heap_model.specs.CellRow.{payload_of, with_payload}
use Rattle.wb_cells.specs.Inside.{cells_in}
use Rattle.wb_cells.proofs.Changing.{valid, some_cell, payload_within, copy_holds, length-copied, view_changed}
use Rattle.wb_cells.proofs.Indexed.{indexed_changed}
use Rattle.wb_cells.proofs.Sound.{sound_laid}
use Rattle.wb_cells.proofs.cells.Cells.copy_payload.Goals as goal

pub copy-requires-clause-source : goal.copy-requires-clause-source
copy-requires-clause-source c =
    let v = valid _ _ _ _ c.self.invariant.laid c.args.from _ (ap (λ v. v.row) c.self.view_is) (some_cell c.args.from c.args.self.now.row c.requires.from_live) in
    omega (arith, payload_within _ _ _ _ v.cell, ap length v.payload, c.requires.source, c.payload_at.ensures)

pub copy-requires-clause-target : goal.copy-requires-clause-target
copy-requires-clause-target c =
    let v = valid _ _ _ _ c.self.invariant.laid c.args.to _ (ap (λ v. v.row) c.self.view_is) (some_cell c.args.to c.args.self.now.row c.requires.to_live) in
    omega (arith, payload_within _ _ _ _ v.cell, ap length v.payload, c.requires.target, c.payload_at-2.ensures)

pub invariant_of-self : goal.invariant_of-self
invariant_of-self c =
    let v = valid _ _ _ _ c.self.invariant.laid c.args.from _ (ap (λ v. v.row) c.self.view_is) (some_cell c.args.from c.args.self.now.row c.requires.from_live) in
    let w = valid _ _ _ _ c.self.invariant.laid c.args.to _ (ap (λ v. v.row) c.self.view_is) (some_cell c.args.to c.args.self.now.row c.requires.to_live) in
    let source = subst (λ b. c.args.n ≤ length b) v.payload c.requires.source in
    let target = subst (λ b. c.args.n ≤ length b) w.payload c.requires.target in
    let moved = c.copy.ensures ∙ ap (λ k. replace_range c.self.inside.words c.payload_at-2.result (c.payload_at-2.result + c.args.n) (slice_range c.self.inside.words k (k + c.args.n))) c.payload_at.ensures
    ∙ ap (λ k. replace_range c.self.inside.words k (k + c.args.n) (slice_range c.self.inside.words (c.args.from.place / 16 * 4 + 4) (c.args.from.place / 16 * 4 + 4 + c.args.n))) c.payload_at-2.ensures in
    let same = length-copied _ _ _ _ _ v.cell w.cell c.args.n source target in
    indexed_changed _ _ _ _ _ c.self.invariant c.args.to w.cell _ _ same (moved ∙ copy_holds _ _ _ _ _ v.cell w.cell c.args.n source target)

pub returns-clause-copied : goal.returns-clause-copied
returns-clause-copied c =
    let v = valid _ _ _ _ c.self.invariant.laid c.args.from _ (ap (λ v. v.row) c.self.view_is) (some_cell c.args.from c.args.self.now.row c.requires.from_live) in
    let w = valid _ _ _ _ c.self.invariant.laid c.args.to _ (ap (λ v. v.row) c.self.view_is) (some_cell c.args.to c.args.self.now.row c.requires.to_live) in
    let source = subst (λ b. c.args.n ≤ length b) v.payload c.requires.source in
    let target = subst (λ b. c.args.n ≤ length b) w.payload c.requires.target in
    let moved = c.copy.ensures ∙ ap (λ k. replace_range c.self.inside.words c.payload_at-2.result (c.payload_at-2.result + c.args.n) (slice_range c.self.inside.words k (k + c.args.n))) c.payload_at.ensures
    ∙ ap (λ k. replace_range c.self.inside.words k (k + c.args.n) (slice_range c.self.inside.words (c.args.from.place / 16 * 4 + 4) (c.args.from.place / 16 * 4 + 4 + c.args.n))) c.payload_at-2.ensures in
    let same = length-copied _ _ _ _ _ v.cell w.cell c.args.n source target in
    subst (λ s. cells_in c.copy.new.self c.self.inside.ends.top ≡ record { row = with_payload c.args.to (take c.args.n s ++ drop c.args.n (payload_of c.args.to c.args.self.now.row)) c.args.self.now.row; held = c.args.self.now.held }) (sym v.payload)
    (view_changed _ _ _ _ c.self.invariant.laid c.args.to w.cell _ (λ b. take c.args.n v.cell.body ++ drop c.args.n b) same
    (moved ∙ copy_holds _ _ _ _ _ v.cell w.cell c.args.n source target) c.args.self.now c.self.view_is w.payload)

pub returns-clause-sound : goal.returns-clause-sound
returns-clause-sound c = sound_laid _ _ _ _ (invariant_of-self c).laid
