use Rattle.wb_debug.proofs.DebugFields.{kept-sound, compressed-kept}
use Rattle.wb_debug.proofs.debug_heap.DebugHeap.note_compress.Goals as goal

pub invariant_of-self : goal.invariant_of-self
invariant_of-self c = compressed-kept c.self.inside c.compress.new.self c.compress.ensures.fallen c.compress.ensures.sound c.self.invariant

pub returns-clause-sound : goal.returns-clause-sound
returns-clause-sound c = kept-sound _ (invariant_of-self c)
