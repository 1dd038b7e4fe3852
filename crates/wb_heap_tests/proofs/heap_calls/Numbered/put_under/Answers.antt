use Rattle.wb_rheap.proofs.Numbers.{below_leveled}
use Rattle.wb_heap_tests.proofs.heap_calls.Numbered.put_under.Goals as goal

pub invariant_of-self-clause-below : goal.invariant_of-self-clause-below
invariant_of-self-clause-below c =
    below_leveled c.args.self.now.heap c.set_level.new.self c.args.ptr c.args.level c.args.self.now.next c.set_level.ensures.leveled c.args.self.now.below
