use Rattle.wb_debug.proofs.DebugFields.{kept-sound, changed-kept}
use Rattle.wb_debug.proofs.debug_heap.DebugHeap.copy_halves.Goals as goal

pub invariant_of-self : goal.invariant_of-self
invariant_of-self c = changed-kept c.self.inside c.copy_halves.new.self _ _ c.copy_halves.ensures.changed c.copy_halves.ensures.sound c.self.invariant

pub returns-clause-sound : goal.returns-clause-sound
returns-clause-sound c = kept-sound _ (invariant_of-self c)
