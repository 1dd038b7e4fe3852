use Rattle.std.proofs.Common.{refl}
use Rattle.wb_debug.specs.declared.setting.Setting.TheVariants.{Never}
use Rattle.wb_debug.proofs.DebugFields.{kept-sound, set-kept}
use Rattle.wb_debug.proofs.debug_heap.DebugHeap.fail_none.Goals as goal

pub returns-clause-sound : goal.returns-clause-sound
returns-clause-sound c =
    kept-sound _ (set-kept c.self.inside c.self.inside.heap c.self.inside.level Never c.self.inside.log refl refl c.self.invariant)
