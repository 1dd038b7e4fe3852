use Rattle.std.proofs.Common.{arith}
use Rattle.wb_rheap.proofs.Numbers.{below_reallocated}
use Rattle.wb_heap_tests.proofs.heap_calls.Numbered.regrant.Goals as goal

pub invariant_of-self : goal.invariant_of-self
invariant_of-self c =
    let next = c.in-Some.ensures in
    record {
      numbered = omega (arith, next.1);
      below = below_reallocated c.args.self.now.heap c.realloc-granted.new.self c.args.ptr c.args.length c.args.self.now.next c.in-Some.next
          c.realloc-granted.result c.realloc-granted.ensures.done c.realloc-granted.ensures.err (omega (arith, next.1)) c.args.self.now.below;
    }
