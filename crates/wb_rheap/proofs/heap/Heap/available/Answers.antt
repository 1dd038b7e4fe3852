use Rattle.std.proofs.Common.{◌≡◌, ◌-◌, sum, ◌∙◌, ap, arith}
use Rattle.wb_heap_model.specs.LimitedHeap.{runs_in}
use Rattle.wb_heap_model.specs.Row.{headers}
use Rattle.wb_heap_model.proofs.FreeRuns.{free_runs-are}
use Rattle.wb_heap_model.proofs.LimitedHeaps.{top_of-committed}
use Rattle.wb_rheap.specs.Heap.{heap_of}
use Rattle.wb_rheap.proofs.Counters.{total-within}
use Rattle.wb_rheap.proofs.heap.Heap.available.Goals as goal

pub overflow_sub-result : goal.overflow_sub-result
overflow_sub-result c = omega (arith, total-within (heap_of c.self.inside) c.self.invariant.sound, c.self.invariant.totalled)

pub longest_run-requires : goal.longest_run-requires
longest_run-requires c = top_of-committed (heap_of c.self.inside) c.self.invariant.sound

pub returns-clause-total : goal.returns-clause-total
returns-clause-total c =
    let sound = c.self.invariant.sound in
    let runs = free_runs-are (headers c.self.inside.cells.row) c.self.inside.committed sound.row.spaced (top_of-committed (heap_of c.self.inside) sound) in
    let left : c.self.inside.committed - c.self.inside.total ≡ sum (runs_in (heap_of c.self.inside)) = omega (arith, runs.total, c.self.invariant.totalled) in
    left ∙ ap (λ h. sum (runs_in h)) c.self.view_is
