use Rattle.std.proofs.Common.{slice_index, subst}
use Rattle.wb_cells.specs.Maxima.{IsLast}
use Rattle.wb_cells.proofs.LastBits.{last_marked}
use Rattle.wb_cells.proofs.numbers.Numbers.last.Goals as goal

pub returns : goal.returns
returns c =
    subst (λ l. IsLast (slice_index l) c.args.from c.args.end c.last.result) c.self.view_is
    (last_marked c.self.inside.words c.self.inside.marks c.args.from c.args.end c.self.invariant c.last.result c.last.ensures)
