use Rattle.std.proofs.Common.{rules, ◌≡◌, ◌∙◌}
use Rattle.std.specs.Prelude.{IsSome}
use Rattle.wb_heap_model.specs.Row.{cell_at}
use Rattle.wb_heap_tests.proofs.Levels.{level-stays}
use Rattle.wb_heap_tests.proofs.debug_calls.Marked.realloc.Goals as goal

pub invariant_of-self : goal.invariant_of-self
invariant_of-self c =
    let call = c.attempt_realloc in
    let live : IsSome (cell_at c.pointer-ptr.result c.args.self.now.heap.heap.row) = search rules in
    let level : call.new.self.heap.level ≡ c.args.self.now.heap.heap.level =
    level-stays call.result c.args.self.now.heap call.new.self (cell_at c.pointer-ptr.result c.args.self.now.heap.heap.row) c.args.bytes live call.ensures.made call.ensures.err in
    let open_before : c.args.self.now.heap.heap.level ≡ c.args.self.now.marks = search rules in
    record { «open» = level ∙ open_before }
