-- Worked cases of `cleanup`, each by computing. Written by tools/cases_to_theorems.py; edit nothing here.
use Rattle.std.specs.Prelude.{◌≡◌, refl, pos, negsuc, [], ◌∷◌, Some, None}
use Rattle.wb_heap_model.specs.declared.heap.Rule.TheVariants as R
use Rattle.wb_heap_model.specs.declared.heap.Panic.TheVariants as P
use Rattle.wb_tree.specs.declared.script.Holder.TheVariants as H
use Rattle.wb_heap_model.specs.declared.heap.Answer.TheVariants.{Granted, Simulated, Refused}
use Rattle.wb_meaning.specs.declared.run.Why.TheVariants.{Budget, Ceiling}
use Rattle.wb_meaning.specs.declared.run.Outcome.TheVariants.{Ended, Panicked, Cut}
use Rattle.wb_tree.specs.declared.script.Script.{Script}
use Rattle.wb_tree.specs.declared.script.Local.TheVariants.{OfPointer, OfNumber}
use Rattle.wb_tree.specs.declared.script.Pointer.TheVariants.{Held}
use Rattle.wb_tree.specs.declared.script.Number.TheVariants.{Constant, Variable}
use Rattle.wb_tree.specs.declared.script.Readable.TheVariants.{Quoted}
use Rattle.wb_tree.specs.declared.script.Refusal.TheVariants.{GivesNull, Leaves}
use Rattle.wb_tree.specs.declared.script.Statement.TheOpen.{Statement-F}
use Rattle.wb_meaning.specs.Run.{run}
use Rattle.wb_worked.specs.Shorthands.{everything, on, script, procedure, body, result, leak, shaped, line}

abbrev script_budget_cuts_before_the_first_item_run : Script
script_budget_cuts_before_the_first_item_run = script [] ((procedure 1 [] (body ((OfPointer None) ∷ (OfPointer None) ∷ (OfPointer None) ∷
    []) ((on 5 (Statement-F.Alloc (Held (H.Local 0)) (Constant (pos 16)) Leaves)) ∷ (on 6 (Statement-F.Push (Held (H.Local 0)))) ∷ (on 7
    (Statement-F.Alloc (Held (H.Local 1)) (Constant (pos 16)) Leaves)) ∷ (on 8 (Statement-F.Push (Held (H.Local 1)))) ∷ (on 9
    (Statement-F.Alloc (Held (H.Local 2)) (Constant (pos 16)) Leaves)) ∷ (on 10 (Statement-F.Push (Held (H.Local 2)))) ∷ (on 11
    (Statement-F.PopDestroy (Constant (pos 3)))) ∷ (on 12 (Statement-F.PrintText (Quoted 0))) ∷ []))) ∷ []) [] ((110 ∷ 111 ∷ 110 ∷ 101 ∷ 32
    ∷ 105 ∷ 115 ∷ 32 ∷ 108 ∷ 101 ∷ 102 ∷ 116 ∷ []) ∷ []) 0

budget_cuts_before_the_first_item_run : run script_budget_cuts_before_the_first_item_run R.Unlimited 7 (shaped 4096 4096) ≡ result (Cut
    Budget) ((line 1 144 0 Granted) ∷ (line 2 32 144 Granted) ∷ (line 3 32 176 Granted) ∷ (line 4 32 208 Granted) ∷ []) [] [] 7
unfolding everything
budget_cuts_before_the_first_item_run = refl

abbrev script_budget_cuts_between_two_items_of_a_leave_run : Script
script_budget_cuts_between_two_items_of_a_leave_run = script [] ((procedure 1 [] (body ((OfPointer None) ∷ (OfPointer None) ∷ OfNumber ∷ [])
    ((on 5 (Statement-F.Trap 2 ((on 6 (Statement-F.Alloc (Held (H.Local 0)) (Constant (pos 16)) Leaves)) ∷ (on 7 (Statement-F.Push (Held
    (H.Local 0)))) ∷ (on 8 (Statement-F.Alloc (Held (H.Local 1)) (Constant (pos 16)) Leaves)) ∷ (on 9 (Statement-F.Push (Held (H.Local 1))))
    ∷ (on 10 (Statement-F.Leave (Constant (negsuc 8)))) ∷ []))) ∷ (on 12 (Statement-F.PrintNumber (Variable 2))) ∷ []))) ∷ []) [] [] 0

budget_cuts_between_two_items_of_a_leave_run : run script_budget_cuts_between_two_items_of_a_leave_run R.Unlimited 7 (shaped 4096 4096) ≡
    result (Cut Budget) ((line 1 144 0 Granted) ∷ (line 2 32 144 Granted) ∷ (line 3 32 176 Granted) ∷ []) [] [] 7
unfolding everything
budget_cuts_between_two_items_of_a_leave_run = refl

abbrev script_budget_cuts_between_two_items_run : Script
script_budget_cuts_between_two_items_run = script [] ((procedure 1 [] (body ((OfPointer None) ∷ (OfPointer None) ∷ (OfPointer None) ∷ [])
    ((on 5 (Statement-F.Alloc (Held (H.Local 0)) (Constant (pos 16)) Leaves)) ∷ (on 6 (Statement-F.Push (Held (H.Local 0)))) ∷ (on 7
    (Statement-F.Alloc (Held (H.Local 1)) (Constant (pos 16)) Leaves)) ∷ (on 8 (Statement-F.Push (Held (H.Local 1)))) ∷ (on 9
    (Statement-F.Alloc (Held (H.Local 2)) (Constant (pos 16)) Leaves)) ∷ (on 10 (Statement-F.Push (Held (H.Local 2)))) ∷ (on 11
    (Statement-F.PopDestroy (Constant (pos 3)))) ∷ (on 12 (Statement-F.PrintText (Quoted 0))) ∷ []))) ∷ []) [] ((110 ∷ 111 ∷ 110 ∷ 101 ∷ 32
    ∷ 105 ∷ 115 ∷ 32 ∷ 108 ∷ 101 ∷ 102 ∷ 116 ∷ []) ∷ []) 0

budget_cuts_between_two_items_run : run script_budget_cuts_between_two_items_run R.Unlimited 9 (shaped 4096 4096) ≡ result (Cut Budget)
    ((line 1 144 0 Granted) ∷ (line 2 32 144 Granted) ∷ (line 3 32 176 Granted) ∷ (line 4 32 208 Granted) ∷ []) [] [] 9
unfolding everything
budget_cuts_between_two_items_run = refl

abbrev script_budget_is_enough_for_each_item_run : Script
script_budget_is_enough_for_each_item_run = script [] ((procedure 1 [] (body ((OfPointer None) ∷ (OfPointer None) ∷ (OfPointer None) ∷ [])
    ((on 5 (Statement-F.Alloc (Held (H.Local 0)) (Constant (pos 16)) Leaves)) ∷ (on 6 (Statement-F.Push (Held (H.Local 0)))) ∷ (on 7
    (Statement-F.Alloc (Held (H.Local 1)) (Constant (pos 16)) Leaves)) ∷ (on 8 (Statement-F.Push (Held (H.Local 1)))) ∷ (on 9
    (Statement-F.Alloc (Held (H.Local 2)) (Constant (pos 16)) Leaves)) ∷ (on 10 (Statement-F.Push (Held (H.Local 2)))) ∷ (on 11
    (Statement-F.PopDestroy (Constant (pos 3)))) ∷ (on 12 (Statement-F.PrintText (Quoted 0))) ∷ []))) ∷ []) [] ((110 ∷ 111 ∷ 110 ∷ 101 ∷ 32
    ∷ 105 ∷ 115 ∷ 32 ∷ 108 ∷ 101 ∷ 102 ∷ 116 ∷ []) ∷ []) 0

budget_is_enough_for_each_item_run : run script_budget_is_enough_for_each_item_run R.Unlimited 11 (shaped 4096 4096) ≡ result (Ended None
    []) ((line 1 144 0 Granted) ∷ (line 2 32 144 Granted) ∷ (line 3 32 176 Granted) ∷ (line 4 32 208 Granted) ∷ []) ((110 ∷ 111 ∷ 110 ∷ 101
    ∷ 32 ∷ 105 ∷ 115 ∷ 32 ∷ 108 ∷ 101 ∷ 102 ∷ 116 ∷ []) ∷ []) [] 11
unfolding everything
budget_is_enough_for_each_item_run = refl

abbrev script_budget_is_enough_for_the_items_of_a_leave_run : Script
script_budget_is_enough_for_the_items_of_a_leave_run = script [] ((procedure 1 [] (body ((OfPointer None) ∷ (OfPointer None) ∷ OfNumber ∷
    []) ((on 5 (Statement-F.Trap 2 ((on 6 (Statement-F.Alloc (Held (H.Local 0)) (Constant (pos 16)) Leaves)) ∷ (on 7 (Statement-F.Push (Held
    (H.Local 0)))) ∷ (on 8 (Statement-F.Alloc (Held (H.Local 1)) (Constant (pos 16)) Leaves)) ∷ (on 9 (Statement-F.Push (Held (H.Local 1))))
    ∷ (on 10 (Statement-F.Leave (Constant (negsuc 8)))) ∷ []))) ∷ (on 12 (Statement-F.PrintNumber (Variable 2))) ∷ []))) ∷ []) [] [] 0

budget_is_enough_for_the_items_of_a_leave_run : run script_budget_is_enough_for_the_items_of_a_leave_run R.Unlimited 9 (shaped 4096 4096) ≡
    result (Ended None []) ((line 1 144 0 Granted) ∷ (line 2 32 144 Granted) ∷ (line 3 32 176 Granted) ∷ []) ((45 ∷ 57 ∷ []) ∷ []) [] 9
unfolding everything
budget_is_enough_for_the_items_of_a_leave_run = refl

abbrev script_callee_pops_an_item_of_its_caller_run : Script
script_callee_pops_an_item_of_its_caller_run = script [] ((procedure 1 [] (body [] ((on 2 (Statement-F.Pop (Constant (pos 1)))) ∷ []))) ∷
    (procedure 4 [] (body ((OfPointer None) ∷ []) ((on 6 (Statement-F.Push (Held (H.Local 0)))) ∷ (on 7 (Statement-F.Call 0 [])) ∷ []))) ∷
    []) [] [] 1

callee_pops_an_item_of_its_caller_run : run script_callee_pops_an_item_of_its_caller_run R.Unlimited 10000 (shaped 4096 4096) ≡ result
    (Ended None []) ((line 1 144 0 Granted) ∷ []) [] [] 3
unfolding everything
callee_pops_an_item_of_its_caller_run = refl

abbrev script_cell_that_grew_at_its_place_is_still_the_item_run : Script
script_cell_that_grew_at_its_place_is_still_the_item_run = script [] ((procedure 1 [] (body ((OfPointer None) ∷ []) ((on 3
    (Statement-F.Alloc (Held (H.Local 0)) (Constant (pos 16)) GivesNull)) ∷ (on 4 (Statement-F.Push (Held (H.Local 0)))) ∷ (on 5
    (Statement-F.Realloc (Held (H.Local 0)) (Held (H.Local 0)) (Constant (pos 64)) GivesNull)) ∷ (on 6 (Statement-F.PopCheck (Held (H.Local
    0)))) ∷ (on 7 (Statement-F.Push (Held (H.Local 0)))) ∷ (on 8 (Statement-F.PopDestroy (Constant (pos 1)))) ∷ []))) ∷ []) [] [] 0

cell_that_grew_at_its_place_is_still_the_item_run : run script_cell_that_grew_at_its_place_is_still_the_item_run R.Unlimited 10000 (shaped
    4096 4096) ≡ result (Ended None []) ((line 1 144 0 Granted) ∷ (line 2 32 144 Granted) ∷ (line 3 80 144 Granted) ∷ []) [] [] 7
unfolding everything
cell_that_grew_at_its_place_is_still_the_item_run = refl

abbrev script_check_names_a_cell_after_the_stack_moved_run : Script
script_check_names_a_cell_after_the_stack_moved_run = script [] ((procedure 1 [] (body ((OfPointer None) ∷ (OfPointer None) ∷ []) ((on 4
    (Statement-F.Alloc (Held (H.Local 0)) (Constant (pos 1)) GivesNull)) ∷ (on 5 (Statement-F.Push (Held (H.Local 0)))) ∷ (on 6
    (Statement-F.Push (Held (H.Local 0)))) ∷ (on 7 (Statement-F.Push (Held (H.Local 0)))) ∷ (on 8 (Statement-F.Push (Held (H.Local 0)))) ∷
    (on 9 (Statement-F.Push (Held (H.Local 0)))) ∷ (on 10 (Statement-F.Push (Held (H.Local 0)))) ∷ (on 11 (Statement-F.Push (Held (H.Local
    0)))) ∷ (on 12 (Statement-F.Push (Held (H.Local 0)))) ∷ (on 13 (Statement-F.Alloc (Held (H.Local 1)) (Constant (pos 100)) GivesNull)) ∷
    (on 14 (Statement-F.Pop (Constant (pos 8)))) ∷ (on 15 Statement-F.Mark) ∷ (on 16 (Statement-F.Alloc (Held (H.Local 1)) (Constant (pos
    4)) GivesNull)) ∷ (on 17 (Statement-F.Check (Constant (pos 0)))) ∷ []))) ∷ []) [] [] 0

check_names_a_cell_after_the_stack_moved_run : run script_check_names_a_cell_after_the_stack_moved_run R.Unlimited 10000 (shaped 4096 4096)
    ≡ result (Panicked (P.Alloc 384)) ((line 1 144 0 Granted) ∷ (line 2 32 144 Granted) ∷ (line 3 208 176 Granted) ∷ (line 4 128 0 Granted)
    ∷ (line 5 32 384 Granted) ∷ []) [] [] 14
unfolding everything
check_names_a_cell_after_the_stack_moved_run = refl

abbrev script_check_names_the_cell_at_place_zero_run : Script
script_check_names_the_cell_at_place_zero_run = script [] ((procedure 1 [] (body ((OfPointer None) ∷ (OfPointer None) ∷ []) ((on 4
    (Statement-F.Alloc (Held (H.Local 0)) (Constant (pos 1)) GivesNull)) ∷ (on 5 (Statement-F.Push (Held (H.Local 0)))) ∷ (on 6
    (Statement-F.Push (Held (H.Local 0)))) ∷ (on 7 (Statement-F.Push (Held (H.Local 0)))) ∷ (on 8 (Statement-F.Push (Held (H.Local 0)))) ∷
    (on 9 (Statement-F.Push (Held (H.Local 0)))) ∷ (on 10 (Statement-F.Push (Held (H.Local 0)))) ∷ (on 11 (Statement-F.Push (Held (H.Local
    0)))) ∷ (on 12 (Statement-F.Push (Held (H.Local 0)))) ∷ (on 13 Statement-F.Mark) ∷ (on 14 (Statement-F.Alloc (Held (H.Local 1))
    (Constant (pos 100)) GivesNull)) ∷ (on 15 (Statement-F.Check (Constant (pos 0)))) ∷ []))) ∷ []) [] [] 0

check_names_the_cell_at_place_zero_run : run script_check_names_the_cell_at_place_zero_run R.Unlimited 10000 (shaped 4096 4096) ≡ result
    (Panicked (P.Alloc 0)) ((line 1 144 0 Granted) ∷ (line 2 32 144 Granted) ∷ (line 3 208 176 Granted) ∷ (line 4 128 0 Granted) ∷ []) [] []
    12
unfolding everything
check_names_the_cell_at_place_zero_run = refl

abbrev script_eighth_push_grows_the_cleanup_cell_run : Script
script_eighth_push_grows_the_cleanup_cell_run = script [] ((procedure 1 [] (body ((OfPointer None) ∷ []) ((on 3 (Statement-F.Repeat
    (Constant (pos 8)) ((on 4 (Statement-F.Alloc (Held (H.Local 0)) (Constant (pos 16)) Leaves)) ∷ (on 5 (Statement-F.Push (Held (H.Local
    0)))) ∷ []))) ∷ (on 7 (Statement-F.PopDestroy (Constant (pos 8)))) ∷ []))) ∷ []) [] [] 0

eighth_push_grows_the_cleanup_cell_run : run script_eighth_push_grows_the_cleanup_cell_run R.Unlimited 10000 (shaped 4096 4096) ≡ result
    (Ended None []) ((line 1 144 0 Granted) ∷ (line 2 32 144 Granted) ∷ (line 3 32 176 Granted) ∷ (line 4 32 208 Granted) ∷ (line 5 32 240
    Granted) ∷ (line 6 32 272 Granted) ∷ (line 7 32 304 Granted) ∷ (line 8 32 336 Granted) ∷ (line 9 32 368 Granted) ∷ (line 10 208 400
    Granted) ∷ []) [] [] 34
unfolding everything
eighth_push_grows_the_cleanup_cell_run = refl

abbrev script_fewer_than_none_are_popped_and_destroyed_run : Script
script_fewer_than_none_are_popped_and_destroyed_run = script [] ((procedure 1 [] (body ((OfPointer None) ∷ []) ((on 3 (Statement-F.Push
    (Held (H.Local 0)))) ∷ (on 4 (Statement-F.PopDestroy (Constant (negsuc 0)))) ∷ []))) ∷ []) [] [] 0

fewer_than_none_are_popped_and_destroyed_run : run script_fewer_than_none_are_popped_and_destroyed_run R.Unlimited 10000 (shaped 4096 4096)
    ≡ result (Panicked (P.Workbench 9)) ((line 1 144 0 Granted) ∷ []) [] [] 2
unfolding everything
fewer_than_none_are_popped_and_destroyed_run = refl

abbrev script_fewer_than_none_are_popped_run : Script
script_fewer_than_none_are_popped_run = script [] ((procedure 1 [] (body ((OfPointer None) ∷ []) ((on 3 (Statement-F.Push (Held (H.Local
    0)))) ∷ (on 4 (Statement-F.Pop (Constant (negsuc 0)))) ∷ []))) ∷ []) [] [] 0

fewer_than_none_are_popped_run : run script_fewer_than_none_are_popped_run R.Unlimited 10000 (shaped 4096 4096) ≡ result (Panicked
    (P.Workbench 9)) ((line 1 144 0 Granted) ∷ []) [] [] 2
unfolding everything
fewer_than_none_are_popped_run = refl

abbrev script_growth_counts_for_the_setting_run : Script
script_growth_counts_for_the_setting_run = script [] ((procedure 1 [] (body ((OfPointer None) ∷ (OfPointer None) ∷ []) ((on 4
    (Statement-F.FailEvery (Constant (pos 2)))) ∷ (on 5 (Statement-F.Alloc (Held (H.Local 0)) (Constant (pos 16)) GivesNull)) ∷ (on 6
    (Statement-F.Repeat (Constant (pos 7)) ((on 7 (Statement-F.Push (Held (H.Local 1)))) ∷ []))) ∷ (on 9 (Statement-F.Push (Held (H.Local
    1)))) ∷ []))) ∷ []) [] [] 0

growth_counts_for_the_setting_run : run script_growth_counts_for_the_setting_run R.Unlimited 10000 (shaped 4096 4096) ≡ result (Ended (Some
    (negsuc 3)) ((leak 2 32 144) ∷ [])) ((line 1 144 0 Granted) ∷ (line 2 32 144 Granted) ∷ (line 3 208 176 Simulated) ∷ []) [] [] 26
unfolding everything
growth_counts_for_the_setting_run = refl

abbrev script_growth_past_the_ceiling_cuts_the_run_run : Script
script_growth_past_the_ceiling_cuts_the_run_run = script [] ((procedure 1 [] (body ((OfPointer None) ∷ (OfPointer None) ∷ []) ((on 4
    (Statement-F.Repeat (Constant (pos 15)) ((on 5 (Statement-F.Alloc (Held (H.Local 0)) (Constant (pos 1048576)) GivesNull)) ∷ []))) ∷ (on
    7 (Statement-F.Alloc (Held (H.Local 0)) (Constant (pos 1048176)) GivesNull)) ∷ (on 8 (Statement-F.Repeat (Constant (pos 8)) ((on 9
    (Statement-F.Push (Held (H.Local 1)))) ∷ []))) ∷ (on 11 (Statement-F.Pop (Constant (pos 8)))) ∷ []))) ∷ []) [] [] 0

growth_past_the_ceiling_cuts_the_run_run : run script_growth_past_the_ceiling_cuts_the_run_run R.Unlimited 10000 (shaped 4096 4096) ≡ result
    (Cut Ceiling) ((line 1 144 0 Granted) ∷ (line 2 1048592 144 Granted) ∷ (line 3 1048592 1048736 Granted) ∷ (line 4 1048592 2097328
    Granted) ∷ (line 5 1048592 3145920 Granted) ∷ (line 6 1048592 4194512 Granted) ∷ (line 7 1048592 5243104 Granted) ∷ (line 8 1048592
    6291696 Granted) ∷ (line 9 1048592 7340288 Granted) ∷ (line 10 1048592 8388880 Granted) ∷ (line 11 1048592 9437472 Granted) ∷ (line 12
    1048592 10486064 Granted) ∷ (line 13 1048592 11534656 Granted) ∷ (line 14 1048592 12583248 Granted) ∷ (line 15 1048592 13631840 Granted)
    ∷ (line 16 1048592 14680432 Granted) ∷ (line 17 1048192 15729024 Granted) ∷ []) [] [] 49
unfolding everything
growth_past_the_ceiling_cuts_the_run_run = refl

abbrev script_growth_that_fails_with_the_setting_and_the_limit_run : Script
script_growth_that_fails_with_the_setting_and_the_limit_run = script [] ((procedure 1 [] (body ((OfPointer None) ∷ OfNumber ∷ []) ((on 4
    (Statement-F.FailNext (Constant (pos 1)))) ∷ (on 5 (Statement-F.Trap 1 ((on 6 (Statement-F.Repeat (Constant (pos 8)) ((on 7
    (Statement-F.Push (Held (H.Local 0)))) ∷ []))) ∷ []))) ∷ (on 10 (Statement-F.PrintNumber (Variable 1))) ∷ (on 11 (Statement-F.Trap 1
    ((on 12 (Statement-F.Repeat (Constant (pos 8)) ((on 13 (Statement-F.Push (Held (H.Local 0)))) ∷ []))) ∷ []))) ∷ (on 16
    (Statement-F.PrintNumber (Variable 1))) ∷ []))) ∷ []) [] [] 0

growth_that_fails_with_the_setting_and_the_limit_run : run script_growth_that_fails_with_the_setting_and_the_limit_run (R.Limit 200) 10000
    (shaped 4096 4096) ≡ result (Ended None []) ((line 1 144 0 Granted) ∷ (line 2 208 0 Simulated) ∷ (line 3 208 0 Refused) ∷ []) ((45 ∷ 52
    ∷ []) ∷ (45 ∷ 52 ∷ []) ∷ []) [] 55
unfolding everything
growth_that_fails_with_the_setting_and_the_limit_run = refl

abbrev script_item_left_at_the_end_of_a_trap_run : Script
script_item_left_at_the_end_of_a_trap_run = script [] ((procedure 1 [] (body ((OfPointer None) ∷ OfNumber ∷ []) ((on 4 (Statement-F.Trap 1
    ((on 5 (Statement-F.Push (Held (H.Local 0)))) ∷ []))) ∷ []))) ∷ []) [] [] 0

item_left_at_the_end_of_a_trap_run : run script_item_left_at_the_end_of_a_trap_run R.Unlimited 10000 (shaped 4096 4096) ≡ result (Panicked
    (P.Workbench 5)) ((line 1 144 0 Granted) ∷ []) [] [] 2
unfolding everything
item_left_at_the_end_of_a_trap_run = refl

abbrev script_item_left_at_the_end_of_main_run : Script
script_item_left_at_the_end_of_main_run = script [] ((procedure 1 [] (body ((OfPointer None) ∷ []) ((on 3 (Statement-F.Alloc (Held (H.Local
    0)) (Constant (pos 16)) GivesNull)) ∷ (on 4 (Statement-F.Push (Held (H.Local 0)))) ∷ (on 5 (Statement-F.PrintText (Quoted 0))) ∷ []))) ∷
    []) [] ((100 ∷ 111 ∷ 110 ∷ 101 ∷ []) ∷ []) 0

item_left_at_the_end_of_main_run : run script_item_left_at_the_end_of_main_run R.Unlimited 10000 (shaped 4096 4096) ≡ result (Panicked
    (P.Workbench 5)) ((line 1 144 0 Granted) ∷ (line 2 32 144 Granted) ∷ []) ((100 ∷ 111 ∷ 110 ∷ 101 ∷ []) ∷ []) [] 3
unfolding everything
item_left_at_the_end_of_main_run = refl

abbrev script_item_of_a_callee_is_left_at_the_end_of_a_trap_run : Script
script_item_of_a_callee_is_left_at_the_end_of_a_trap_run = script [] ((procedure 1 [] (body ((OfPointer None) ∷ []) ((on 3
    (Statement-F.Alloc (Held (H.Local 0)) (Constant (pos 16)) Leaves)) ∷ (on 4 (Statement-F.Push (Held (H.Local 0)))) ∷ []))) ∷ (procedure 6
    [] (body (OfNumber ∷ []) ((on 8 (Statement-F.Trap 0 ((on 9 (Statement-F.Call 0 [])) ∷ []))) ∷ (on 11 (Statement-F.PrintNumber (Variable
    0))) ∷ []))) ∷ []) [] [] 1

item_of_a_callee_is_left_at_the_end_of_a_trap_run : run script_item_of_a_callee_is_left_at_the_end_of_a_trap_run R.Unlimited 10000 (shaped
    4096 4096) ≡ result (Panicked (P.Workbench 5)) ((line 1 144 0 Granted) ∷ (line 2 32 144 Granted) ∷ []) [] [] 4
unfolding everything
item_of_a_callee_is_left_at_the_end_of_a_trap_run = refl

abbrev script_item_of_a_mark_is_freed_by_a_leave_run : Script
script_item_of_a_mark_is_freed_by_a_leave_run = script [] ((procedure 1 [] (body ((OfPointer None) ∷ OfNumber ∷ []) ((on 4 Statement-F.Mark)
    ∷ (on 5 (Statement-F.Trap 1 ((on 6 (Statement-F.Alloc (Held (H.Local 0)) (Constant (pos 16)) Leaves)) ∷ (on 7 (Statement-F.Push (Held
    (H.Local 0)))) ∷ (on 8 (Statement-F.Leave (Constant (negsuc 0)))) ∷ []))) ∷ (on 10 (Statement-F.MarkEnd (Constant (pos 0)))) ∷ []))) ∷
    []) [] [] 0

item_of_a_mark_is_freed_by_a_leave_run : run script_item_of_a_mark_is_freed_by_a_leave_run R.Unlimited 10000 (shaped 4096 4096) ≡ result
    (Ended None []) ((line 1 144 0 Granted) ∷ (line 2 32 144 Granted) ∷ []) [] [] 7
unfolding everything
item_of_a_mark_is_freed_by_a_leave_run = refl

abbrev script_item_of_a_text_is_freed_run : Script
script_item_of_a_text_is_freed_run = script [] ((procedure 1 [] (body ((OfPointer None) ∷ OfNumber ∷ []) ((on 4 (Statement-F.Trap 1 ((on 5
    (Statement-F.NewText (Held (H.Local 0)) (Constant (pos 4)) Leaves)) ∷ (on 6 (Statement-F.Push (Held (H.Local 0)))) ∷ (on 7
    (Statement-F.PopDestroy (Constant (pos 1)))) ∷ []))) ∷ (on 9 (Statement-F.PrintNumber (Variable 1))) ∷ []))) ∷ []) [] [] 0

item_of_a_text_is_freed_run : run script_item_of_a_text_is_freed_run R.Unlimited 10000 (shaped 4096 4096) ≡ result (Ended None []) ((line 1
    144 0 Granted) ∷ (line 2 32 144 Granted) ∷ []) ((48 ∷ []) ∷ []) [] 6
unfolding everything
item_of_a_text_is_freed_run = refl

abbrev script_item_of_an_outer_trap_outlives_a_leave_run : Script
script_item_of_an_outer_trap_outlives_a_leave_run = script [] ((procedure 1 [] (body ((OfPointer None) ∷ (OfPointer None) ∷ OfNumber ∷
    OfNumber ∷ []) ((on 6 (Statement-F.Trap 2 ((on 7 (Statement-F.Alloc (Held (H.Local 0)) (Constant (pos 16)) Leaves)) ∷ (on 8
    (Statement-F.Push (Held (H.Local 0)))) ∷ (on 9 (Statement-F.Trap 3 ((on 10 (Statement-F.Alloc (Held (H.Local 1)) (Constant (pos 32))
    Leaves)) ∷ (on 11 (Statement-F.Push (Held (H.Local 1)))) ∷ (on 12 (Statement-F.Leave (Constant (negsuc 4)))) ∷ []))) ∷ (on 14
    (Statement-F.PrintNumber (Variable 3))) ∷ (on 15 (Statement-F.PopCheck (Held (H.Local 0)))) ∷ (on 16 (Statement-F.Push (Held (H.Local
    0)))) ∷ (on 17 (Statement-F.PopDestroy (Constant (pos 1)))) ∷ []))) ∷ (on 19 (Statement-F.PrintNumber (Variable 2))) ∷ []))) ∷ []) [] []
    0

item_of_an_outer_trap_outlives_a_leave_run : run script_item_of_an_outer_trap_outlives_a_leave_run R.Unlimited 10000 (shaped 4096 4096) ≡
    result (Ended None []) ((line 1 144 0 Granted) ∷ (line 2 32 144 Granted) ∷ (line 3 48 176 Granted) ∷ []) ((45 ∷ 53 ∷ []) ∷ (48 ∷ []) ∷
    []) [] 14
unfolding everything
item_of_an_outer_trap_outlives_a_leave_run = refl

abbrev script_item_of_main_outlives_a_leave_run : Script
script_item_of_main_outlives_a_leave_run = script [] ((procedure 1 [] (body ((OfPointer None) ∷ (OfPointer None) ∷ OfNumber ∷ []) ((on 5
    (Statement-F.Alloc (Held (H.Local 0)) (Constant (pos 16)) Leaves)) ∷ (on 6 (Statement-F.Push (Held (H.Local 0)))) ∷ (on 7
    (Statement-F.Trap 2 ((on 8 (Statement-F.Alloc (Held (H.Local 1)) (Constant (pos 32)) Leaves)) ∷ (on 9 (Statement-F.Push (Held (H.Local
    1)))) ∷ (on 10 (Statement-F.Leave (Constant (negsuc 4)))) ∷ []))) ∷ (on 12 (Statement-F.PrintNumber (Variable 2))) ∷ (on 13
    (Statement-F.PopCheck (Held (H.Local 0)))) ∷ (on 14 (Statement-F.Free (Held (H.Local 0)))) ∷ []))) ∷ []) [] [] 0

item_of_main_outlives_a_leave_run : run script_item_of_main_outlives_a_leave_run R.Unlimited 10000 (shaped 4096 4096) ≡ result (Ended None
    []) ((line 1 144 0 Granted) ∷ (line 2 32 144 Granted) ∷ (line 3 48 176 Granted) ∷ []) ((45 ∷ 53 ∷ []) ∷ []) [] 10
unfolding everything
item_of_main_outlives_a_leave_run = refl

abbrev script_item_that_was_pushed_twice_is_freed_once_run : Script
script_item_that_was_pushed_twice_is_freed_once_run = script [] ((procedure 1 [] (body ((OfPointer None) ∷ []) ((on 3 (Statement-F.Alloc
    (Held (H.Local 0)) (Constant (pos 16)) GivesNull)) ∷ (on 4 (Statement-F.Push (Held (H.Local 0)))) ∷ (on 5 (Statement-F.Push (Held
    (H.Local 0)))) ∷ (on 6 (Statement-F.PopDestroy (Constant (pos 2)))) ∷ []))) ∷ []) [] [] 0

item_that_was_pushed_twice_is_freed_once_run : run script_item_that_was_pushed_twice_is_freed_once_run R.Unlimited 10000 (shaped 4096 4096)
    ≡ result (Panicked (P.User 42)) ((line 1 144 0 Granted) ∷ (line 2 32 144 Granted) ∷ []) [] [] 6
unfolding everything
item_that_was_pushed_twice_is_freed_once_run = refl

abbrev script_items_are_popped_by_a_variable_run : Script
script_items_are_popped_by_a_variable_run = script [] ((procedure 1 [] (body ((OfPointer None) ∷ (OfPointer None) ∷ OfNumber ∷ []) ((on 5
    (Statement-F.Alloc (Held (H.Local 0)) (Constant (pos 16)) GivesNull)) ∷ (on 6 (Statement-F.Alloc (Held (H.Local 1)) (Constant (pos 16))
    GivesNull)) ∷ (on 7 (Statement-F.Push (Held (H.Local 0)))) ∷ (on 8 (Statement-F.Push (Held (H.Local 1)))) ∷ (on 9 (Statement-F.SetNumber
    2 (Constant (pos 2)))) ∷ (on 10 (Statement-F.Pop (Variable 2))) ∷ (on 11 (Statement-F.Free (Held (H.Local 0)))) ∷ (on 12
    (Statement-F.Free (Held (H.Local 1)))) ∷ []))) ∷ []) [] [] 0

items_are_popped_by_a_variable_run : run script_items_are_popped_by_a_variable_run R.Unlimited 10000 (shaped 4096 4096) ≡ result (Ended None
    []) ((line 1 144 0 Granted) ∷ (line 2 32 144 Granted) ∷ (line 3 32 176 Granted) ∷ []) [] [] 8
unfolding everything
items_are_popped_by_a_variable_run = refl

abbrev script_items_left_at_the_plain_end_of_a_trap_run : Script
script_items_left_at_the_plain_end_of_a_trap_run = script [] ((procedure 1 [] (body ((OfPointer None) ∷ OfNumber ∷ []) ((on 4
    (Statement-F.Alloc (Held (H.Local 0)) (Constant (pos 10)) GivesNull)) ∷ (on 5 (Statement-F.Trap 1 ((on 6 (Statement-F.Push (Held
    (H.Local 0)))) ∷ []))) ∷ (on 8 (Statement-F.PrintNumber (Constant (pos 1)))) ∷ []))) ∷ []) [] [] 0

items_left_at_the_plain_end_of_a_trap_run : run script_items_left_at_the_plain_end_of_a_trap_run R.Unlimited 10000 (shaped 4096 4096) ≡
    result (Panicked (P.Workbench 5)) ((line 1 144 0 Granted) ∷ (line 2 32 144 Granted) ∷ []) [] [] 3
unfolding everything
items_left_at_the_plain_end_of_a_trap_run = refl
