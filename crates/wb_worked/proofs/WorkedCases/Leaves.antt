-- Worked cases of `leaves`, each by computing. Written by tools/cases_to_theorems.py; edit nothing here.
use Rattle.std.specs.Prelude.{◌≡◌, refl, pos, negsuc, [], ◌∷◌, Some, None}
use Rattle.wb_heap_model.specs.declared.heap.Rule.TheVariants as R
use Rattle.wb_tree.specs.declared.script.Holder.TheVariants as H
use Rattle.wb_heap_model.specs.declared.heap.Answer.TheVariants.{Granted, Simulated}
use Rattle.wb_meaning.specs.declared.run.Outcome.TheVariants.{Ended}
use Rattle.wb_tree.specs.declared.script.Script.{Script}
use Rattle.wb_tree.specs.declared.script.Parameter.TheVariants as Par
use Rattle.wb_tree.specs.declared.script.Local.TheVariants.{OfPointer, OfNumber}
use Rattle.wb_tree.specs.declared.script.Pointer.TheVariants.{Held}
use Rattle.wb_tree.specs.declared.script.Number.TheVariants.{Constant, Variable}
use Rattle.wb_tree.specs.declared.script.Readable.TheVariants.{Quoted}
use Rattle.wb_tree.specs.declared.script.Condition.TheVariants.{NotNull}
use Rattle.wb_tree.specs.declared.script.Argument.TheVariants.{Passed}
use Rattle.wb_tree.specs.declared.script.Refusal.TheVariants.{Leaves}
use Rattle.wb_tree.specs.declared.script.Statement.TheOpen.{Statement-F}
use Rattle.wb_meaning.specs.Run.{run}
use Rattle.wb_worked.specs.Shorthands.{everything, on, script, procedure, body, result, leak, shaped, line}

abbrev script_leak_of_a_cell_that_a_frame_named_run : Script
script_leak_of_a_cell_that_a_frame_named_run = script [] ((procedure 1 [] (body ((OfPointer None) ∷ []) ((on 3 (Statement-F.Alloc (Held
    (H.Local 0)) (Constant (pos 4)) Leaves)) ∷ (on 4 (Statement-F.Leave (Constant (negsuc 1)))) ∷ []))) ∷ (procedure 6 [] (body (OfNumber ∷
    []) ((on 8 (Statement-F.Trap 0 ((on 9 (Statement-F.Call 0 [])) ∷ []))) ∷ (on 11 (Statement-F.PrintNumber (Variable 0))) ∷ []))) ∷ []) []
    [] 1

leak_of_a_cell_that_a_frame_named_run : run script_leak_of_a_cell_that_a_frame_named_run R.Unlimited 10000 (shaped 4096 4096) ≡ result
    (Ended None ((leak 2 32 144) ∷ [])) ((line 1 144 0 Granted) ∷ (line 2 32 144 Granted) ∷ []) ((45 ∷ 50 ∷ []) ∷ []) [] 5
unfolding everything
leak_of_a_cell_that_a_frame_named_run = refl

abbrev script_leave_ends_main_run : Script
script_leave_ends_main_run = script [] ((procedure 1 [] (body [] ((on 2 (Statement-F.PrintText (Quoted 0))) ∷ (on 3 (Statement-F.Leave
    (Constant (negsuc 5)))) ∷ (on 4 (Statement-F.PrintText (Quoted 1))) ∷ []))) ∷ []) [] ((98 ∷ 101 ∷ 102 ∷ 111 ∷ 114 ∷ 101 ∷ []) ∷ (110 ∷
    101 ∷ 118 ∷ 101 ∷ 114 ∷ []) ∷ []) 0

leave_ends_main_run : run script_leave_ends_main_run R.Unlimited 10000 (shaped 4096 4096) ≡ result (Ended (Some (negsuc 5)) []) ((line 1 144
    0 Granted) ∷ []) ((98 ∷ 101 ∷ 102 ∷ 111 ∷ 114 ∷ 101 ∷ []) ∷ []) [] 2
unfolding everything
leave_ends_main_run = refl

abbrev script_leave_goes_to_the_innermost_trap_run : Script
script_leave_goes_to_the_innermost_trap_run = script [] ((procedure 1 [] (body (OfNumber ∷ OfNumber ∷ []) ((on 4 (Statement-F.SetNumber 0
    (Constant (pos 1)))) ∷ (on 5 (Statement-F.Trap 0 ((on 6 (Statement-F.Trap 1 ((on 7 (Statement-F.Leave (Constant (negsuc 2)))) ∷ []))) ∷
    (on 9 (Statement-F.PrintNumber (Variable 1))) ∷ (on 10 (Statement-F.Leave (Constant (negsuc 3)))) ∷ []))) ∷ (on 12
    (Statement-F.PrintNumber (Variable 0))) ∷ (on 13 (Statement-F.PrintNumber (Variable 1))) ∷ []))) ∷ []) [] [] 0

leave_goes_to_the_innermost_trap_run : run script_leave_goes_to_the_innermost_trap_run R.Unlimited 10000 (shaped 4096 4096) ≡ result (Ended
    None []) ((line 1 144 0 Granted) ∷ []) ((45 ∷ 51 ∷ []) ∷ (45 ∷ 52 ∷ []) ∷ (45 ∷ 51 ∷ []) ∷ []) [] 8
unfolding everything
leave_goes_to_the_innermost_trap_run = refl

abbrev script_leave_if_error_asks_for_less_than_zero_run : Script
script_leave_if_error_asks_for_less_than_zero_run = script [] ((procedure 1 [] (body (OfNumber ∷ []) ((on 3 (Statement-F.LeaveIfError
    (Constant (pos 0)))) ∷ (on 4 (Statement-F.LeaveIfError (Constant (pos 4)))) ∷ (on 5 (Statement-F.Trap 0 ((on 6 (Statement-F.LeaveIfError
    (Constant (negsuc 0)))) ∷ (on 7 (Statement-F.PrintText (Quoted 0))) ∷ []))) ∷ (on 9 (Statement-F.PrintNumber (Variable 0))) ∷ (on 10
    (Statement-F.SetNumber 0 (Constant (negsuc 11)))) ∷ (on 11 (Statement-F.LeaveIfError (Variable 0))) ∷ []))) ∷ []) [] ((110 ∷ 101 ∷ 118 ∷
    101 ∷ 114 ∷ []) ∷ []) 0

leave_if_error_asks_for_less_than_zero_run : run script_leave_if_error_asks_for_less_than_zero_run R.Unlimited 10000 (shaped 4096 4096) ≡
    result (Ended (Some (negsuc 11)) []) ((line 1 144 0 Granted) ∷ []) ((45 ∷ 49 ∷ []) ∷ []) [] 7
unfolding everything
leave_if_error_asks_for_less_than_zero_run = refl

abbrev script_leave_keeps_what_locals_became_run : Script
script_leave_keeps_what_locals_became_run = script [] ((procedure 1 ((Par.OfPointer None) ∷ []) (body [] ((on 2 (Statement-F.Store (Held
    (H.Local 0)) (Constant (pos 0)) (Constant (pos 8)))) ∷ (on 3 (Statement-F.Leave (Constant (negsuc 0)))) ∷ []))) ∷ (procedure 5 [] (body
    (OfNumber ∷ OfNumber ∷ (OfPointer None) ∷ []) ((on 9 (Statement-F.Alloc (Held (H.Local 2)) (Constant (pos 4)) Leaves)) ∷ (on 10
    (Statement-F.Trap 0 ((on 11 (Statement-F.SetNumber 1 (Constant (pos 5)))) ∷ (on 12 (Statement-F.Call 0 ((Passed (Held (H.Local 2))) ∷
    []))) ∷ []))) ∷ (on 14 (Statement-F.PrintNumber (Variable 1))) ∷ (on 15 (Statement-F.Load 1 (Held (H.Local 2)) (Constant (pos 0)))) ∷
    (on 16 (Statement-F.PrintNumber (Variable 1))) ∷ (on 17 (Statement-F.Free (Held (H.Local 2)))) ∷ []))) ∷ []) [] [] 1

leave_keeps_what_locals_became_run : run script_leave_keeps_what_locals_became_run R.Unlimited 10000 (shaped 4096 4096) ≡ result (Ended None
    []) ((line 1 144 0 Granted) ∷ (line 2 32 144 Granted) ∷ []) ((53 ∷ []) ∷ (56 ∷ []) ∷ []) [] 10
unfolding everything
leave_keeps_what_locals_became_run = refl

abbrev script_leave_of_nothing_is_a_leave_run : Script
script_leave_of_nothing_is_a_leave_run = script [] ((procedure 1 [] (body (OfNumber ∷ []) ((on 3 (Statement-F.SetNumber 0 (Constant (pos
    9)))) ∷ (on 4 (Statement-F.Trap 0 ((on 5 (Statement-F.Leave (Constant (pos 0)))) ∷ (on 6 (Statement-F.PrintText (Quoted 0))) ∷ []))) ∷
    (on 8 (Statement-F.PrintNumber (Variable 0))) ∷ (on 9 (Statement-F.Leave (Constant (pos 3)))) ∷ []))) ∷ []) [] ((110 ∷ 101 ∷ 118 ∷ 101 ∷
    114 ∷ []) ∷ []) 0

leave_of_nothing_is_a_leave_run : run script_leave_of_nothing_is_a_leave_run R.Unlimited 10000 (shaped 4096 4096) ≡ result (Ended (Some (pos
    3)) []) ((line 1 144 0 Granted) ∷ []) ((48 ∷ []) ∷ []) [] 5
unfolding everything
leave_of_nothing_is_a_leave_run = refl

abbrev script_leaving_allocation_that_is_refused_keeps_its_pointer_run : Script
script_leaving_allocation_that_is_refused_keeps_its_pointer_run = script [] ((procedure 1 [] (body ((OfPointer None) ∷ (OfPointer None) ∷
    OfNumber ∷ []) ((on 5 (Statement-F.Alloc (Held (H.Local 0)) (Constant (pos 4)) Leaves)) ∷ (on 6 (Statement-F.Set (Held (H.Local 1))
    (Held (H.Local 0)))) ∷ (on 7 (Statement-F.Trap 2 ((on 8 (Statement-F.FailNext (Constant (pos 1)))) ∷ (on 9 (Statement-F.Alloc (Held
    (H.Local 1)) (Constant (pos 4)) Leaves)) ∷ []))) ∷ (on 11 (Statement-F.PrintNumber (Variable 2))) ∷ (on 12 (Statement-F.Free (Held
    (H.Local 1)))) ∷ (on 13 (Statement-F.Trap 2 ((on 14 (Statement-F.FailNext (Constant (pos 1)))) ∷ (on 15 (Statement-F.NewText (Held
    (H.Local 0)) (Constant (pos 4)) Leaves)) ∷ []))) ∷ (on 17 (Statement-F.PrintNumber (Variable 2))) ∷ (on 18 (Statement-F.If (NotNull
    (Held (H.Local 0))) ((on 19 (Statement-F.PrintText (Quoted 0))) ∷ []))) ∷ []))) ∷ []) [] ((115 ∷ 116 ∷ 97 ∷ 108 ∷ 101 ∷ []) ∷ []) 0

leaving_allocation_that_is_refused_keeps_its_pointer_run : run script_leaving_allocation_that_is_refused_keeps_its_pointer_run R.Unlimited
    10000 (shaped 4096 4096) ≡ result (Ended None []) ((line 1 144 0 Granted) ∷ (line 2 32 144 Granted) ∷ (line 3 32 176 Simulated) ∷ (line
    4 32 144 Simulated) ∷ []) ((45 ∷ 52 ∷ []) ∷ (45 ∷ 52 ∷ []) ∷ (115 ∷ 116 ∷ 97 ∷ 108 ∷ 101 ∷ []) ∷ []) [] 13
unfolding everything
leaving_allocation_that_is_refused_keeps_its_pointer_run = refl

abbrev script_leaving_growth_that_is_refused_keeps_the_cell_run : Script
script_leaving_growth_that_is_refused_keeps_the_cell_run = script [] ((procedure 1 [] (body ((OfPointer None) ∷ OfNumber ∷ []) ((on 4
    (Statement-F.Alloc (Held (H.Local 0)) (Constant (pos 4)) Leaves)) ∷ (on 5 (Statement-F.Trap 1 ((on 6 (Statement-F.FailNext (Constant
    (pos 1)))) ∷ (on 7 (Statement-F.Realloc (Held (H.Local 0)) (Held (H.Local 0)) (Constant (pos 100)) Leaves)) ∷ []))) ∷ (on 9
    (Statement-F.PrintNumber (Variable 1))) ∷ (on 10 (Statement-F.Free (Held (H.Local 0)))) ∷ []))) ∷ []) [] [] 0

leaving_growth_that_is_refused_keeps_the_cell_run : run script_leaving_growth_that_is_refused_keeps_the_cell_run R.Unlimited 10000 (shaped
    4096 4096) ≡ result (Ended None []) ((line 1 144 0 Granted) ∷ (line 2 32 144 Granted) ∷ (line 3 128 144 Simulated) ∷ []) ((45 ∷ 52 ∷ [])
    ∷ []) [] 6
unfolding everything
leaving_growth_that_is_refused_keeps_the_cell_run = refl

abbrev script_trap_that_ends_plainly_is_left_run : Script
script_trap_that_ends_plainly_is_left_run = script [] ((procedure 1 [] (body (OfNumber ∷ []) ((on 3 (Statement-F.SetNumber 0 (Constant (pos
    9)))) ∷ (on 4 (Statement-F.Trap 0 ((on 5 (Statement-F.PrintText (Quoted 0))) ∷ []))) ∷ (on 7 (Statement-F.PrintNumber (Variable 0))) ∷
    (on 8 (Statement-F.Leave (Constant (negsuc 4)))) ∷ []))) ∷ []) [] ((105 ∷ 110 ∷ 32 ∷ 105 ∷ 116 ∷ []) ∷ []) 0

trap_that_ends_plainly_is_left_run : run script_trap_that_ends_plainly_is_left_run R.Unlimited 10000 (shaped 4096 4096) ≡ result (Ended
    (Some (negsuc 4)) []) ((line 1 144 0 Granted) ∷ []) ((105 ∷ 110 ∷ 32 ∷ 105 ∷ 116 ∷ []) ∷ (48 ∷ []) ∷ []) [] 5
unfolding everything
trap_that_ends_plainly_is_left_run = refl
