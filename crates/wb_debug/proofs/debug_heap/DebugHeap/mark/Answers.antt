use Rattle.std.proofs.Common.{refl}
use Rattle.wb_debug.proofs.DebugFields.{kept-sound, set-kept}
use Rattle.wb_debug.proofs.debug_heap.DebugHeap.mark.Goals as goal

pub returns-clause-sound : goal.returns-clause-sound
returns-clause-sound c = kept-sound _ (set-kept c.self.inside _ _ _ _ refl refl c.self.invariant)
