use Rattle.wb_heap_model.specs.CellRow.{payload_of}
use Rattle.wb_chunk.proofs.WrittenHalves.{length-with_halves}
use Rattle.wb_rheap.proofs.HeapFields.{changed-kept}
use Rattle.wb_rheap.proofs.heap.Heap.write_halves.Goals as goal

pub invariant_of-self : goal.invariant_of-self
invariant_of-self c = changed-kept c.self.inside c.write_halves.new.self c.args.ptr _ c.write_halves.ensures.changed (length-with_halves (payload_of c.args.ptr c.self.inside.cells.row) c.args.i c.args.halves.now) c.self.invariant

pub returns-clause-sound : goal.returns-clause-sound
returns-clause-sound c = (invariant_of-self c).sound
