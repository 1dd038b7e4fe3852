use Rattle.wb_rheap.proofs.Numbers.{below_changed}
use Rattle.wb_heap_tests.proofs.heap_calls.Numbered.copy_halves.Goals as goal

pub invariant_of-self-clause-below : goal.invariant_of-self-clause-below
invariant_of-self-clause-below c =
    below_changed c.args.self.now.heap c.copy_halves.new.self c.args.to _ c.args.self.now.next c.copy_halves.ensures.changed c.args.self.now.below
