use Rattle.wb_debug.proofs.DebugFields.{kept-sound, changed-kept}
use Rattle.wb_debug.proofs.debug_heap.DebugHeap.set_payload_half.Goals as goal

pub invariant_of-self : goal.invariant_of-self
invariant_of-self c = changed-kept c.self.inside c.set_payload_half.new.self _ _ c.set_payload_half.ensures.changed c.set_payload_half.ensures.sound c.self.invariant

pub returns-clause-sound : goal.returns-clause-sound
returns-clause-sound c = kept-sound _ (invariant_of-self c)
