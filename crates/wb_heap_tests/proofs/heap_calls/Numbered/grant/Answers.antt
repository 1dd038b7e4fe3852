use Rattle.std.proofs.Common.{arith}
use Rattle.wb_rheap.proofs.Numbers.{below_granted}
use Rattle.wb_heap_tests.proofs.heap_calls.Numbered.grant.Goals as goal

pub invariant_of-self : goal.invariant_of-self
invariant_of-self c =
    let next = c.in-Some.ensures in
    record {
      numbered = omega (arith, next.1);
      below = below_granted c.args.self.now.heap c.alloc-granted.new.self c.args.length _ c.args.self.now.next 0 c.in-Some.next c.alloc-granted.result
          c.alloc-granted.ensures.granted c.alloc-granted.ensures.err (omega (arith, next.1)) c.args.self.now.below;
    }
