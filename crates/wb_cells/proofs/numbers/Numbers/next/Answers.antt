use Rattle.std.proofs.Common.{length, slice_index, subst}
use Rattle.wb_cells.specs.Maxima.{IsFirst}
use Rattle.wb_cells.proofs.LastBits.{next_marked}
use Rattle.wb_cells.proofs.numbers.Numbers.next.Goals as goal

pub returns : goal.returns
returns c =
    subst (λ l. IsFirst (slice_index l) c.args.from (length l) 1 c.next.result) c.self.view_is
    (next_marked c.self.inside.words c.self.inside.marks c.args.from c.self.invariant c.next.result c.next.ensures)
