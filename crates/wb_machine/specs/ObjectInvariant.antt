-- Rows whose cells read as what their kinds hold.
use Rattle.std.specs.Prelude.{ℕ, List, All}
use Rattle.wb_tree.specs.declared.script.Script.{Script}
use Rattle.wb_heap_model.specs.Row.{Cell}
use Rattle.wb_meaning.specs.Throughout.{HoldsItsKind}
use Rattle.wb_machine.specs.RunState.{RunState, read_row}

-- each cell reads as what its kind holds, so that an object has a pointer for each field of its class
abbrev pub AreWhole : Script → List (Cell (List ℕ)) → Type 0
AreWhole script row = All (HoldsItsKind script) (read_row script row)

-- the cells of one state read so where those of another did
abbrev pub StaysWhole : Script → RunState → RunState → Type 0
StaysWhole script before after = AreWhole script before.debug.heap.row → AreWhole script after.debug.heap.row
