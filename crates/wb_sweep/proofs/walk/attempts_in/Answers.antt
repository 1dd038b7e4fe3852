use Rattle.std.proofs.Common.{◌≡◌, ◌-◌, List, [], ◌∷◌, length, arith, Some, sym}
use Rattle.std.specs.Prelude.{slice_get}
use Rattle.wb_heap_model.specs.declared.heap.Attempt.{Attempt}
use Rattle.wb_sweep.specs.Sweeping.{IsNumbered}
use Rattle.wb_sweep.proofs.walk.attempts_in.Goals as goal

last_number : (ts : List Attempt) (t : Attempt) → IsNumbered ts → Some t ≡ slice_get ts (length ts - 1) → t.number ≡ length ts
last_number [] t are e = cc
last_number (u ∷ ts) t are e = omega (arith, are (length (u ∷ ts) - 1) t (sym e))

pub returns-in-Some : goal.returns-in-Some
returns-in-Some c = last_number c.args.trace.now c.in-Some.attempt.now c.requires c.in-Some.ensures.value
