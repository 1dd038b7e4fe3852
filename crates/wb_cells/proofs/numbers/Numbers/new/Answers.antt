use Rattle.wb_cells.proofs.LastBits.{none_marked}
use Rattle.wb_cells.proofs.numbers.Numbers.new.Goals as goal

pub invariant_of-result : goal.invariant_of-result
invariant_of-result c = rw (c.new.ensures, c.new-2.ensures) none_marked
