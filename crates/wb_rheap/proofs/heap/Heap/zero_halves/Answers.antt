use Rattle.std.proofs.Common.{replicate}
use Rattle.wb_heap_model.specs.CellRow.{payload_of}
use Rattle.wb_chunk.proofs.WrittenHalves.{length-with_halves}
use Rattle.wb_rheap.proofs.HeapFields.{changed-kept}
use Rattle.wb_rheap.proofs.heap.Heap.zero_halves.Goals as goal

pub invariant_of-self : goal.invariant_of-self
invariant_of-self c = changed-kept c.self.inside c.zero_halves.new.self c.args.ptr _ c.zero_halves.ensures.changed (length-with_halves (payload_of c.args.ptr c.self.inside.cells.row) c.args.i (replicate c.args.n 0)) c.self.invariant

pub returns-clause-sound : goal.returns-clause-sound
returns-clause-sound c = (invariant_of-self c).sound
