-- What a cell holds, by its kind.
use Rattle.std.specs.Prelude.{ℕ, ℤ, List, Option, Some, None}
use Rattle.wb_heap_model.specs.declared.heap.Ptr.{Ptr}
use Rattle.wb_heap_model.specs.declared.heap.Kind.{Kind}
use Rattle.wb_heap_model.specs.declared.heap.Kind.TheVariants.{Object}

-- what a cell holds, by its kind; a cleanup cell's items are in the state itself
pub data Content : Type 0 where
  words : List ℤ → Content
  fields : List Ptr → Content
  units : List ℕ → Content
  none : Content

-- the class of an object
abbrev pub class_of : Kind → Option ℕ
class_of (Object k) = Some k
class_of _ = None
