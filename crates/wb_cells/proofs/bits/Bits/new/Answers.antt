use Rattle.std.proofs.Common.{ap, ◌∙◌}
use Rattle.wb_cells.specs.Bits.{bits_of}
use Rattle.wb_cells.proofs.Packing.{bits_of-nil}
use Rattle.wb_cells.proofs.bits.Bits.new.Goals as goal

pub returns : goal.returns
returns c = ap bits_of c.new.ensures ∙ bits_of-nil
