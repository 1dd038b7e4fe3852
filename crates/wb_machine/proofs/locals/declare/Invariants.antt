use Rattle.std.proofs.Common.{◌≡◌, ◌≤◌, ◌++◌, map, take, vec_len}
use Rattle.wb_meaning.specs.State.{initial}
use Rattle.wb_machine.specs.LocalValues.{values_stored, AreAscending}
use Rattle.wb_machine.proofs.locals.declare.Given as goal

abbrev pub invariant-loop-local : goal.invariant-loop-local
invariant-loop-local l =
    (values_stored l.buffers.items l.slots.items ≡ values_stored l.fn.buffers.items l.fn.slots.items ++ map initial (take l.local-index l.locals))
    × AreAscending 0 (vec_len l.buffers) l.slots.items
    × (vec_len l.fn.slots ≤ vec_len l.slots)
