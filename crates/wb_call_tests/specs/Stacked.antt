-- A cleanup stack that is kept beside its heap.
use Rattle.wb_heap_model.specs.Debug.{Debug, IsSoundDebug}
use Rattle.wb_cleanup.specs.declared.cleanup.Cleanup.{Cleanup}
use Rattle.wb_cleanup.specs.Stacks.{IsStack}

-- the stack is in the heap
pub record IsStacked (stack : Cleanup) (heap : Debug) : Type 0 where
  pub stands : IsStack stack heap
  pub sound : IsSoundDebug heap
