use Rattle.std.proofs.Common.{◌∙◌, ap, arith}
use Rattle.wb_heap_model.specs.Space.{compressed_to}
use Rattle.wb_heap_model.specs.LimitedHeap.{space_in}
use Rattle.wb_heap_model.proofs.LimitedHeaps.{top_of-committed}
use Rattle.wb_rheap.specs.Heap.{heap_of}
use Rattle.wb_rheap.proofs.HeapFields.{compressed-kept}
use Rattle.wb_rheap.proofs.heap.Heap.compress.Goals as goal

pub compressed_for-committed-requires-clause-top : goal.compressed_for-committed-requires-clause-top
compressed_for-committed-requires-clause-top c =
    omega (arith, c.top.ensures.end, top_of-committed (heap_of c.self.inside) c.self.invariant.sound, c.self.invariant.sound.bound, c.self.invariant.sound.limit)

pub invariant_of-self : goal.invariant_of-self
invariant_of-self c =
    compressed-kept c.self.inside _ (c.compressed_for-committed.ensures
    ∙ ap (λ n. compressed_to (space_in (heap_of c.self.inside)) c.self.inside.committed n) c.top.ensures.end) c.self.invariant

pub returns-clause-sound : goal.returns-clause-sound
returns-clause-sound c = (invariant_of-self c).sound
