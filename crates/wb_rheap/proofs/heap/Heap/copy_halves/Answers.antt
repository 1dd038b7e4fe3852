use Rattle.wb_chunk.specs.Halves.{halves_from}
use Rattle.wb_heap_model.specs.CellRow.{payload_of}
use Rattle.wb_chunk.proofs.WrittenHalves.{length-with_halves}
use Rattle.wb_rheap.proofs.HeapFields.{changed-kept}
use Rattle.wb_rheap.proofs.heap.Heap.copy_halves.Goals as goal

pub invariant_of-self : goal.invariant_of-self
invariant_of-self c = changed-kept c.self.inside c.copy_halves.new.self c.args.to _ c.copy_halves.ensures.copied (length-with_halves (payload_of c.args.to c.self.inside.cells.row) c.args.ti (halves_from (payload_of c.args.from c.self.inside.cells.row) c.args.fi c.args.n)) c.self.invariant

pub returns-clause-sound : goal.returns-clause-sound
returns-clause-sound c = (invariant_of-self c).sound
