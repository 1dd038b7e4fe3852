use Rattle.wb_debug.proofs.DebugFields.{kept-sound, changed-kept}
use Rattle.wb_debug.proofs.debug_heap.DebugHeap.zero_halves.Goals as goal

pub invariant_of-self : goal.invariant_of-self
invariant_of-self c = changed-kept c.self.inside c.zero_halves.new.self _ _ c.zero_halves.ensures.changed c.zero_halves.ensures.sound c.self.invariant

pub returns-clause-sound : goal.returns-clause-sound
returns-clause-sound c = kept-sound _ (invariant_of-self c)
