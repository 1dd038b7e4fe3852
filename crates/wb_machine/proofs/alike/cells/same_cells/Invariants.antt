use Rattle.std.proofs.Common.{length}
use Rattle.wb_tree.specs.declared.script.Script.{Script}
use Rattle.wb_heap_model.specs.Row.{headers}
use Rattle.wb_heap_model.proofs.Onward.{onward}
use Rattle.wb_machine.specs.Alike.{IsGrown}
use Rattle.wb_machine.proofs.likeness.CellsAlike.{AreCellsAlike, AreRowsAlike}
use Rattle.wb_machine.proofs.likeness.GrownMaps.{LeadsTo}
use Rattle.wb_machine.proofs.alike.cells.same_cells.Given as goal

abbrev pub invariant-loop-cell : goal.invariant-loop-cell
invariant-loop-cell l = record {
  lead : (script : Script) → LeadsTo (AreCellsAlike script l.at l.heap.heap.row l.other.heap.row) (AreRowsAlike script l.heap.heap.row l.other.heap.row) l.names.names;
  grown : IsGrown l.initial.names l.names;
}

abbrev pub decreases-loop-cell : goal.decreases-loop-cell
decreases-loop-cell l = length (onward l.at (headers l.heap.heap.row))
