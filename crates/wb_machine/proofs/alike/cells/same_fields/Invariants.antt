use Rattle.wb_heap_model.specs.CellRow.{payload_of}
use Rattle.wb_machine.specs.Alike.{ArePairsAlike, IsGrown}
use Rattle.wb_machine.proofs.likeness.CellsAlike.{ArePairsFrom}
use Rattle.wb_machine.proofs.likeness.GrownMaps.{LeadsTo}
use Rattle.wb_machine.proofs.alike.cells.same_fields.Given as goal

abbrev pub invariant-loop-i : goal.invariant-loop-i
invariant-loop-i l = record {
  lead : LeadsTo (ArePairsFrom l.i (payload_of l.ptr l.heap.heap.row) (payload_of l.other l.other_heap.heap.row))
      (λ more. ArePairsAlike more (payload_of l.ptr l.heap.heap.row) (payload_of l.other l.other_heap.heap.row)) l.names.names;
  grown : IsGrown l.initial.names l.names;
}
