use Rattle.wb_cells.proofs.Indexed.{indexed_empty}
use Rattle.wb_cells.proofs.cells.Cells.new.Goals as goal

pub invariant_of-result : goal.invariant_of-result
invariant_of-result c = rw (c.new.ensures, c.new-2.ensures, c.new-3.ensures) indexed_empty
