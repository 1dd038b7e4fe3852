-- The longest free run is the longest free cell or the one above the last cell.
use Rattle.std.proofs.Common.{◌≡◌, ℕ, ◌-◌, ◌≤◌, List, [], ◌∷◌, max, arith}
use Rattle.wb_heap_model.specs.declared.heap.Header.{Header}
use Rattle.wb_heap_model.specs.Row.{end_of, top_from}
use Rattle.wb_heap_model.specs.Space.{free_runs, longest}

pub longest_above : (hs : List Header) (at committed : ℕ) → top_from at hs ≤ committed →
    longest (free_runs at hs committed) ≡ max (longest (free_runs at hs (top_from at hs))) (committed - top_from at hs)
longest_above [] at committed within = omega arith
longest_above (h ∷ hs) at committed within = omega (arith, longest_above hs (end_of h) committed within)
