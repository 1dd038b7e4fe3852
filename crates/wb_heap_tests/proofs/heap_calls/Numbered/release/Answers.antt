use Rattle.wb_rheap.proofs.Numbers.{below_released}
use Rattle.wb_heap_tests.proofs.heap_calls.Numbered.release.Goals as goal

pub invariant_of-self-clause-below : goal.invariant_of-self-clause-below
invariant_of-self-clause-below c = below_released c.args.self.now.heap c.free.new.self c.args.ptr c.args.self.now.next c.free.result c.free.ensures.freed c.free.ensures.err c.args.self.now.below
