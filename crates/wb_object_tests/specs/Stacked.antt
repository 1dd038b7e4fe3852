-- A cleanup stack that is kept beside its heap.
use Rattle.std.specs.Prelude.{◌≡◌, ◌<◌, Bool, false}
use Rattle.wb_heap_model.specs.Debug.{Debug, IsSoundDebug}
use Rattle.wb_cleanup.specs.declared.cleanup.Cleanup.{Cleanup}
use Rattle.wb_cleanup.specs.Stacks.{IsStack, count_of, slots_of}

-- the stack is in the heap, and where it isn't full has a slot for the next item
pub record IsStacked (stack : Cleanup) (heap : Debug) (full : Bool) : Type 0 where
  pub stands : IsStack stack heap
  pub sound : IsSoundDebug heap
  pub room : full ≡ false → count_of stack < slots_of stack
