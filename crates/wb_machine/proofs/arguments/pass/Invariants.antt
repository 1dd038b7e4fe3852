use Rattle.std.proofs.Common.{◌≡◌, ℕ, ◌≤◌, List, ◌++◌, map, take, drop, vec_len}
use Rattle.wb_heap_model.specs.Texts.{Buffer}
use Rattle.wb_machine.specs.LocalValues.{values_stored, AreAscending, passed_over}
use Rattle.wb_machine.proofs.arguments.pass.Given as goal

abbrev pub invariant-loop-argument : goal.invariant-loop-argument
invariant-loop-argument l =
    ((buffers : List Buffer) →
    values_stored buffers l.slots.items
    ≡ values_stored buffers l.fn.slots.items
    ++ map (passed_over l.fn.context.script.now l.fn.context.heap.now l.fn.context.this (drop l.base (values_stored buffers l.fn.slots.items))) (take l.argument-index l.arguments))
    × ((end : ℕ) → AreAscending 0 end l.fn.slots.items → AreAscending 0 end l.slots.items)
    × (vec_len l.fn.slots ≤ vec_len l.slots)
