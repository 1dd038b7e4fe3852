use Rattle.std.proofs.Common.{rules, ◌≡◌, ◌∙◌}
use Rattle.wb_heap_tests.proofs.Levels.{alloc-level-stays}
use Rattle.wb_heap_tests.proofs.debug_calls.Marked.attempt.Goals as goal

pub invariant_of-self : goal.invariant_of-self
invariant_of-self c =
    let call = c.attempt_alloc in
    let level : call.new.self.heap.level ≡ c.args.self.now.heap.heap.level =
    alloc-level-stays call.result c.args.self.now.heap call.new.self c.args.bytes c.args.kind call.ensures.made call.ensures.err in
    let open_before : c.args.self.now.heap.heap.level ≡ c.args.self.now.marks = search rules in
    record { «open» = level ∙ open_before }
