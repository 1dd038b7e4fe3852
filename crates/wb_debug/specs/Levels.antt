-- Which cells a check counts.
use Rattle.std.specs.Prelude.{Bool, ◌&&◌, not, nat_eq}
use Rattle.wb_heap_model.specs.declared.heap.Header.{Header}
use Rattle.wb_heap_model.specs.Heap.{is_cleanup}
use Rattle.wb_debug.specs.declared.checks.Levels.{Levels}
use Rattle.wb_debug.specs.declared.checks.Levels.TheVariants.{One, All}

-- the cleanup stack's cell is of no level
abbrev pub is_counted : Levels → Header → Bool
is_counted (One level) h = nat_eq h.level level && not (is_cleanup h.kind)
is_counted All h = not (is_cleanup h.kind)
