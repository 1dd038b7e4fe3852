use Rattle.wb_rheap.proofs.HeapFields.{leveled-kept}
use Rattle.wb_rheap.proofs.heap.Heap.set_level.Goals as goal

pub invariant_of-self : goal.invariant_of-self
invariant_of-self c = leveled-kept c.self.inside c.set_level.new.self c.args.ptr c.args.level c.set_level.ensures.changed c.self.invariant

pub returns-clause-sound : goal.returns-clause-sound
returns-clause-sound c = (invariant_of-self c).sound
