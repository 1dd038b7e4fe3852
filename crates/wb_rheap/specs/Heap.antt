-- What contracts see of the heap, from what it holds, and what it keeps beside its cells.
use Rattle.std.specs.Prelude.{◌≡◌, length}
use Rattle.wb_heap_model.specs.Row.{headers, total_length}
use Rattle.wb_heap_model.specs.LimitedHeap.{LimitedHeap, IsSoundHeap}
use Rattle.wb_rheap.specs.declared.heap.Heap.TheInside.{Inside}

-- the cells hold memory for the greatest committed length so far
abbrev pub heap_of : Inside → LimitedHeap
heap_of inside = record {
  row = inside.cells.row;
  limit = inside.limit;
  shape = inside.shape;
  committed = inside.committed;
  held = inside.cells.held;
}

-- the counters are of the live cells and their lengths
pub record IsKept (inside : Inside) : Type 0 where
  pub sound : IsSoundHeap (heap_of inside)
  pub counted : inside.count ≡ length inside.cells.row
  pub totalled : inside.total ≡ total_length (headers inside.cells.row)
