use Rattle.std.proofs.Common.{length, ap, sym, arith}
use Rattle.wb_cells.proofs.Packing.{length-bits_of}
use Rattle.wb_cells.proofs.bits.Bits.count.Goals as goal

pub returns-clause-count : goal.returns-clause-count
returns-clause-count c = omega (arith, c.words.ensures.count, ap length (sym c.self.view_is), length-bits_of c.self.inside.words)

pub returns-clause-most : goal.returns-clause-most
returns-clause-most c = omega (arith, c.self.invariant, ap length (sym c.self.view_is), length-bits_of c.self.inside.words)
