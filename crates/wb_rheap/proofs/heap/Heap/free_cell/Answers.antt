use Rattle.std.proofs.Common.{option_map, ap, ◌∙◌, arith}
use Rattle.wb_heap_model.specs.Row.{cell_at}
use Rattle.wb_rheap.proofs.HeapFields.{released, released-kept}
use Rattle.wb_rheap.proofs.heap.Heap.free_cell.Goals as goal

pub overflow_sub-self-2 : goal.overflow_sub-self-2
overflow_sub-self-2 c =
    let found = ap (λ h. option_map (λ d. d.head) (cell_at c.args.ptr h.row)) c.self.view_is ∙ c.requires in
    let less = released c.self.inside c.args.ptr c.args.cell found c.self.invariant in
    omega (arith, less.totalled, c.self.invariant.totalled)

pub invariant_of-self : goal.invariant_of-self
invariant_of-self c =
    let found = ap (λ h. option_map (λ d. d.head) (cell_at c.args.ptr h.row)) c.self.view_is ∙ c.requires in
    released-kept c.self.inside c.give.new.self c.args.ptr c.args.cell found c.give.ensures.given c.self.invariant

pub returns-clause-sound : goal.returns-clause-sound
returns-clause-sound c = (invariant_of-self c).sound
