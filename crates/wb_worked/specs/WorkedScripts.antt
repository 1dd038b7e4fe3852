-- Two small scripts, the heap in which they run, and the runs of them that leak.
use Rattle.std.specs.Prelude.{ℕ, pos, negsuc, List, [], ◌∷◌, Some, None}
use Rattle.wb_heap_model.specs.declared.heap.Answer.{Answer}
use Rattle.wb_heap_model.specs.declared.heap.Answer.TheVariants.{Granted, Simulated}
use Rattle.wb_heap_model.specs.declared.heap.Attempt.{Attempt}
use Rattle.wb_heap_model.specs.declared.heap.Shape.{Shape}
use Rattle.wb_runs.specs.declared.part.Part.{Part}
use Rattle.wb_meaning.specs.declared.run.Outcome.TheVariants.{Ended}
use Rattle.wb_meaning.specs.declared.run.RunResult.{RunResult}
use Rattle.wb_tree.specs.declared.script.Condition.TheVariants.{IsNull}
use Rattle.wb_tree.specs.declared.script.Holder.TheVariants as H
use Rattle.wb_tree.specs.declared.script.Local.TheVariants.{OfPointer}
use Rattle.wb_tree.specs.declared.script.Number.TheVariants.{Constant}
use Rattle.wb_tree.specs.declared.script.Pointer.{Pointer}
use Rattle.wb_tree.specs.declared.script.Pointer.TheVariants.{Held}
use Rattle.wb_tree.specs.declared.script.Refusal.TheVariants.{GivesNull}
use Rattle.wb_tree.specs.declared.script.Script.{Script}
use Rattle.wb_tree.specs.declared.script.Statement.TheOpen.{Statement-F}
use Rattle.wb_tree.specs.declared.script.StatementAt.{StatementAt}
use Rattle.wb_worked.specs.Shorthands.{on, script, procedure, body, result, leak, shaped, line, part}

abbrev pub heap : Shape
heap = shaped 4096 4096

abbrev a : Pointer
a = Held (H.Local 0)

abbrev b : Pointer
b = Held (H.Local 1)

abbrev main_of : List StatementAt → Script
main_of statements = script [] (procedure 1 [] (body (OfPointer None ∷ OfPointer None ∷ []) statements) ∷ []) [] [] 0

abbrev alloc_at : ℕ → Pointer → StatementAt
alloc_at number pointer = on number (Statement-F.Alloc pointer (Constant (pos 16)) GivesNull)

abbrev if_null_at : ℕ → Pointer → List StatementAt → StatementAt
if_null_at number pointer statements = on number (Statement-F.If (IsNull pointer) statements)

abbrev free_at : ℕ → Pointer → StatementAt
free_at number pointer = on number (Statement-F.Free pointer)

abbrev leave_at : ℕ → StatementAt
leave_at number = on number (Statement-F.Leave (Constant (negsuc 3)))

-- One cell is had, and another is tried three times. Where all three tries fail, the script leaves, and the first cell leaks.
abbrev pub three_tries : Script
three_tries =
    main_of (alloc_at 4 b ∷ alloc_at 5 a
    ∷ if_null_at 6 a (alloc_at 7 a ∷ if_null_at 8 a (alloc_at 9 a ∷ if_null_at 10 a (leave_at 11 ∷ []) ∷ []) ∷ [])
    ∷ free_at 15 a ∷ free_at 16 b ∷ [])

-- Each of two cells is tried twice. Where the second can't be had, the script leaves, and the first leaks if it was had.
abbrev pub two_tries_each : Script
two_tries_each =
    main_of (alloc_at 4 a ∷ if_null_at 5 a (alloc_at 6 a ∷ [])
    ∷ alloc_at 8 b ∷ if_null_at 9 b (alloc_at 10 b ∷ if_null_at 11 b (leave_at 12 ∷ []) ∷ [])
    ∷ free_at 15 a ∷ free_at 16 b ∷ [])

-- attempt 1, whose cell is that of the cleanup stack
abbrev pub first : Attempt
first = line 1 144 0 Granted

-- an attempt to get a cell of 32 bytes
abbrev pub cell : ℕ → ℕ → Answer → Attempt
cell number place answer = line number 32 place answer

-- a run that ends, and one that is left with a leak, after so many steps
abbrev pub ended_after : List Attempt → ℕ → RunResult
ended_after trace steps = result (Ended None []) trace [] [] steps

abbrev pub left_with : ℕ → List Attempt → ℕ → RunResult
left_with number trace steps = result (Ended (Some (negsuc 3)) (leak number 32 144 ∷ [])) trace [] [] steps

-- of `three_tries` under {3, 4, 5}
abbrev pub three_fail : RunResult
three_fail = left_with 2 (first ∷ cell 2 144 Granted ∷ cell 3 176 Simulated ∷ cell 4 176 Simulated ∷ cell 5 176 Simulated ∷ []) 8

-- of `two_tries_each` under {3, 4}, and under {2, 4, 5}
abbrev pub second_fails : RunResult
second_fails = left_with 2 (first ∷ cell 2 144 Granted ∷ cell 3 176 Simulated ∷ cell 4 176 Simulated ∷ []) 7

abbrev pub second_fails_later : RunResult
second_fails_later = left_with 3 (first ∷ cell 2 144 Simulated ∷ cell 3 144 Granted ∷ cell 4 176 Simulated ∷ cell 5 176 Simulated ∷ []) 8

-- the part of the numbers from one to another
abbrev pub from_to : ℕ → ℕ → Part
from_to from to = part from to
