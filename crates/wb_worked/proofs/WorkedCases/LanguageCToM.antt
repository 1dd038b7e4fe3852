-- Worked cases of `language`, each by computing. Written by tools/cases_to_theorems.py; edit nothing here.
use Rattle.std.specs.Prelude.{◌≡◌, refl, pos, negsuc, [], ◌∷◌, None}
use Rattle.wb_heap_model.specs.declared.heap.Rule.TheVariants as R
use Rattle.wb_heap_model.specs.declared.heap.Panic.TheVariants as P
use Rattle.wb_tree.specs.declared.script.Holder.TheVariants as H
use Rattle.wb_heap_model.specs.declared.heap.Answer.TheVariants.{Granted, Simulated}
use Rattle.wb_meaning.specs.declared.run.Outcome.TheVariants.{Ended, Panicked, NoCleanup}
use Rattle.wb_tree.specs.declared.script.Script.{Script}
use Rattle.wb_tree.specs.declared.script.Local.TheVariants.{OfPointer, OfNumber}
use Rattle.wb_tree.specs.declared.script.Pointer.TheVariants.{Held}
use Rattle.wb_tree.specs.declared.script.Number.TheVariants.{Constant, Variable}
use Rattle.wb_tree.specs.declared.script.Refusal.TheVariants.{GivesNull}
use Rattle.wb_tree.specs.declared.script.Statement.TheOpen.{Statement-F}
use Rattle.wb_meaning.specs.Run.{run}
use Rattle.wb_worked.specs.Shorthands.{everything, on, script, procedure, body, result, leak, shaped, line}

abbrev script_cell_behind_a_pointer_made_null_leaks_run : Script
script_cell_behind_a_pointer_made_null_leaks_run = script [] ((procedure 1 [] (body ((OfPointer None) ∷ []) ((on 3 (Statement-F.Alloc (Held
    (H.Local 0)) (Constant (pos 1)) GivesNull)) ∷ (on 4 (Statement-F.SetNull (Held (H.Local 0)))) ∷ (on 5 (Statement-F.Free (Held (H.Local
    0)))) ∷ []))) ∷ []) [] [] 0

cell_behind_a_pointer_made_null_leaks_run : run script_cell_behind_a_pointer_made_null_leaks_run R.Unlimited 10000 (shaped 4096 4096) ≡
    result (Ended None ((leak 2 32 144) ∷ [])) ((line 1 144 0 Granted) ∷ (line 2 32 144 Granted) ∷ []) [] [] 3
unfolding everything
cell_behind_a_pointer_made_null_leaks_run = refl

abbrev script_cells_are_reallocated_one_after_another_run : Script
script_cells_are_reallocated_one_after_another_run = script [] ((procedure 2 [] (body ((OfPointer None) ∷ (OfPointer None) ∷ (OfPointer
    None) ∷ OfNumber ∷ []) ((on 7 (Statement-F.Alloc (Held (H.Local 0)) (Constant (pos 16)) GivesNull)) ∷ (on 8 (Statement-F.Store (Held
    (H.Local 0)) (Constant (pos 0)) (Constant (pos 5)))) ∷ (on 9 (Statement-F.Realloc (Held (H.Local 1)) (Held (H.Local 0)) (Constant (pos
    100)) GivesNull)) ∷ (on 10 (Statement-F.Load 3 (Held (H.Local 0)) (Constant (pos 0)))) ∷ (on 11 (Statement-F.PrintNumber (Variable 3)))
    ∷ (on 12 (Statement-F.Alloc (Held (H.Local 2)) (Constant (pos 16)) GivesNull)) ∷ (on 13 (Statement-F.Realloc (Held (H.Local 1)) (Held
    (H.Local 1)) (Constant (pos 200)) GivesNull)) ∷ (on 14 (Statement-F.Realloc (Held (H.Local 1)) (Held (H.Local 1)) (Constant (pos 16))
    GivesNull)) ∷ (on 15 (Statement-F.Load 3 (Held (H.Local 1)) (Constant (pos 0)))) ∷ (on 16 (Statement-F.PrintNumber (Variable 3))) ∷ (on
    17 (Statement-F.SetNull (Held (H.Local 0)))) ∷ (on 18 (Statement-F.Realloc (Held (H.Local 0)) (Held (H.Local 0)) (Constant (pos 16))
    GivesNull)) ∷ (on 19 (Statement-F.FailNext (Constant (pos 1)))) ∷ (on 20 (Statement-F.Realloc (Held (H.Local 0)) (Held (H.Local 1))
    (Constant (pos 100)) GivesNull)) ∷ (on 21 (Statement-F.Realloc (Held (H.Local 0)) (Held (H.Local 0)) (Constant (pos 16)) GivesNull)) ∷
    (on 22 (Statement-F.CheckAll (Constant (pos 4)))) ∷ []))) ∷ []) [] [] 0

cells_are_reallocated_one_after_another_run : run script_cells_are_reallocated_one_after_another_run R.Unlimited 10000 (shaped 4096 4096) ≡
    result (Ended None ((leak 6 32 144) ∷ (leak 8 32 176) ∷ (leak 4 32 272) ∷ (leak 5 32 304) ∷ [])) ((line 1 144 0 Granted) ∷ (line 2 32
    144 Granted) ∷ (line 3 128 144 Granted) ∷ (line 4 32 272 Granted) ∷ (line 5 224 304 Granted) ∷ (line 6 32 144 Granted) ∷ (line 7 128 304
    Simulated) ∷ (line 8 32 176 Granted) ∷ []) ((53 ∷ []) ∷ (53 ∷ []) ∷ []) [] 16
unfolding everything
cells_are_reallocated_one_after_another_run = refl

abbrev script_check_finds_a_cell_of_its_level_run : Script
script_check_finds_a_cell_of_its_level_run = script [] ((procedure 1 [] (body ((OfPointer None) ∷ (OfPointer None) ∷ []) ((on 4
    (Statement-F.Alloc (Held (H.Local 0)) (Constant (pos 1)) GivesNull)) ∷ (on 5 Statement-F.Mark) ∷ (on 6 (Statement-F.Alloc (Held (H.Local
    1)) (Constant (pos 1)) GivesNull)) ∷ (on 7 (Statement-F.Check (Constant (pos 0)))) ∷ []))) ∷ []) [] [] 0

check_finds_a_cell_of_its_level_run : run script_check_finds_a_cell_of_its_level_run R.Unlimited 10000 (shaped 4096 4096) ≡ result (Panicked
    (P.Alloc 176)) ((line 1 144 0 Granted) ∷ (line 2 32 144 Granted) ∷ (line 3 32 176 Granted) ∷ []) [] [] 4
unfolding everything
check_finds_a_cell_of_its_level_run = refl

abbrev script_check_leaves_other_levels_alone_run : Script
script_check_leaves_other_levels_alone_run = script [] ((procedure 1 [] (body ((OfPointer None) ∷ []) ((on 3 (Statement-F.Alloc (Held
    (H.Local 0)) (Constant (pos 1)) GivesNull)) ∷ (on 4 Statement-F.Mark) ∷ (on 5 (Statement-F.Check (Constant (pos 1)))) ∷ []))) ∷ []) []
    [] 0

check_leaves_other_levels_alone_run : run script_check_leaves_other_levels_alone_run R.Unlimited 10000 (shaped 4096 4096) ≡ result (Panicked
    (P.Alloc 0)) ((line 1 144 0 Granted) ∷ (line 2 32 144 Granted) ∷ []) [] [] 3
unfolding everything
check_leaves_other_levels_alone_run = refl

abbrev script_check_of_a_cell_without_a_mark_run : Script
script_check_of_a_cell_without_a_mark_run = script [] ((procedure 2 [] (body ((OfPointer None) ∷ []) ((on 4 (Statement-F.Alloc (Held
    (H.Local 0)) (Constant (pos 16)) GivesNull)) ∷ (on 5 (Statement-F.Check (Constant (pos 0)))) ∷ []))) ∷ []) [] [] 0

check_of_a_cell_without_a_mark_run : run script_check_of_a_cell_without_a_mark_run R.Unlimited 10000 (shaped 4096 4096) ≡ result (Panicked
    (P.Alloc 144)) ((line 1 144 0 Granted) ∷ (line 2 32 144 Granted) ∷ []) [] [] 2
unfolding everything
check_of_a_cell_without_a_mark_run = refl

abbrev script_check_of_all_levels_counts_outer_cells_run : Script
script_check_of_all_levels_counts_outer_cells_run = script [] ((procedure 2 [] (body ((OfPointer None) ∷ []) ((on 4 (Statement-F.Alloc (Held
    (H.Local 0)) (Constant (pos 16)) GivesNull)) ∷ (on 5 Statement-F.Mark) ∷ (on 6 (Statement-F.CheckAll (Constant (pos 2)))) ∷ []))) ∷ [])
    [] [] 0

check_of_all_levels_counts_outer_cells_run : run script_check_of_all_levels_counts_outer_cells_run R.Unlimited 10000 (shaped 4096 4096) ≡
    result (Panicked (P.Alloc 144)) ((line 1 144 0 Granted) ∷ (line 2 32 144 Granted) ∷ []) [] [] 3
unfolding everything
check_of_all_levels_counts_outer_cells_run = refl

abbrev script_check_of_all_levels_finds_no_cell_run : Script
script_check_of_all_levels_finds_no_cell_run = script [] ((procedure 1 [] (body [] ((on 2 (Statement-F.CheckAll (Constant (pos 1)))) ∷ [])))
    ∷ []) [] [] 0

check_of_all_levels_finds_no_cell_run : run script_check_of_all_levels_finds_no_cell_run R.Unlimited 10000 (shaped 4096 4096) ≡ result
    (Panicked (P.Alloc 0)) ((line 1 144 0 Granted) ∷ []) [] [] 1
unfolding everything
check_of_all_levels_finds_no_cell_run = refl

abbrev script_check_of_all_levels_names_the_lowest_cell_run : Script
script_check_of_all_levels_names_the_lowest_cell_run = script [] ((procedure 1 [] (body ((OfPointer None) ∷ (OfPointer None) ∷ []) ((on 4
    (Statement-F.Alloc (Held (H.Local 0)) (Constant (pos 1)) GivesNull)) ∷ (on 5 Statement-F.Mark) ∷ (on 6 (Statement-F.Alloc (Held (H.Local
    1)) (Constant (pos 1)) GivesNull)) ∷ (on 7 (Statement-F.CheckAll (Constant (pos 1)))) ∷ []))) ∷ []) [] [] 0

check_of_all_levels_names_the_lowest_cell_run : run script_check_of_all_levels_names_the_lowest_cell_run R.Unlimited 10000 (shaped 4096
    4096) ≡ result (Panicked (P.Alloc 144)) ((line 1 144 0 Granted) ∷ (line 2 32 144 Granted) ∷ (line 3 32 176 Granted) ∷ []) [] [] 4
unfolding everything
check_of_all_levels_names_the_lowest_cell_run = refl

abbrev script_check_of_all_levels_of_fewer_than_none_run : Script
script_check_of_all_levels_of_fewer_than_none_run = script [] ((procedure 2 [] (body [] ((on 3 (Statement-F.CheckAll (Constant (negsuc 0))))
    ∷ []))) ∷ []) [] [] 0

check_of_all_levels_of_fewer_than_none_run : run script_check_of_all_levels_of_fewer_than_none_run R.Unlimited 10000 (shaped 4096 4096) ≡
    result (Panicked (P.Workbench 9)) ((line 1 144 0 Granted) ∷ []) [] [] 1
unfolding everything
check_of_all_levels_of_fewer_than_none_run = refl

abbrev script_check_of_fewer_than_none_run : Script
script_check_of_fewer_than_none_run = script [] ((procedure 1 [] (body (OfNumber ∷ []) ((on 3 (Statement-F.Add 0 (Constant (negsuc 0)))) ∷
    (on 4 (Statement-F.Check (Variable 0))) ∷ []))) ∷ []) [] [] 0

check_of_fewer_than_none_run : run script_check_of_fewer_than_none_run R.Unlimited 10000 (shaped 4096 4096) ≡ result (Panicked (P.Workbench
    9)) ((line 1 144 0 Granted) ∷ []) [] [] 2
unfolding everything
check_of_fewer_than_none_run = refl

abbrev script_every_none_to_fail_run : Script
script_every_none_to_fail_run = script [] ((procedure 1 [] (body [] ((on 2 (Statement-F.FailEvery (Constant (pos 0)))) ∷ []))) ∷ []) [] [] 0

every_none_to_fail_run : run script_every_none_to_fail_run R.Unlimited 10000 (shaped 4096 4096) ≡ result (Panicked (P.Workbench 9)) ((line 1
    144 0 Granted) ∷ []) [] [] 1
unfolding everything
every_none_to_fail_run = refl

abbrev script_every_second_request_fails_run : Script
script_every_second_request_fails_run = script [] ((procedure 1 [] (body ((OfPointer None) ∷ (OfPointer None) ∷ (OfPointer None) ∷
    (OfPointer None) ∷ []) ((on 6 (Statement-F.FailEvery (Constant (pos 2)))) ∷ (on 7 (Statement-F.Alloc (Held (H.Local 0)) (Constant (pos
    1)) GivesNull)) ∷ (on 8 (Statement-F.Alloc (Held (H.Local 1)) (Constant (pos 1)) GivesNull)) ∷ (on 9 (Statement-F.Alloc (Held (H.Local
    2)) (Constant (pos 1)) GivesNull)) ∷ (on 10 (Statement-F.Alloc (Held (H.Local 3)) (Constant (pos 1)) GivesNull)) ∷ (on 11
    (Statement-F.Free (Held (H.Local 0)))) ∷ (on 12 (Statement-F.Free (Held (H.Local 1)))) ∷ (on 13 (Statement-F.Free (Held (H.Local 2)))) ∷
    (on 14 (Statement-F.Free (Held (H.Local 3)))) ∷ []))) ∷ []) [] [] 0

every_second_request_fails_run : run script_every_second_request_fails_run R.Unlimited 10000 (shaped 4096 4096) ≡ result (Ended None [])
    ((line 1 144 0 Granted) ∷ (line 2 32 144 Granted) ∷ (line 3 32 176 Simulated) ∷ (line 4 32 176 Granted) ∷ (line 5 32 208 Simulated) ∷
    []) [] [] 9
unfolding everything
every_second_request_fails_run = refl

abbrev script_failures_are_switched_off_run : Script
script_failures_are_switched_off_run = script [] ((procedure 1 [] (body ((OfPointer None) ∷ []) ((on 3 (Statement-F.FailEvery (Constant (pos
    1)))) ∷ (on 4 (Statement-F.Alloc (Held (H.Local 0)) (Constant (pos 1)) GivesNull)) ∷ (on 5 (Statement-F.Alloc (Held (H.Local 0))
    (Constant (pos 1)) GivesNull)) ∷ (on 6 Statement-F.FailNone) ∷ (on 7 (Statement-F.Alloc (Held (H.Local 0)) (Constant (pos 1))
    GivesNull)) ∷ (on 8 (Statement-F.Free (Held (H.Local 0)))) ∷ []))) ∷ []) [] [] 0

failures_are_switched_off_run : run script_failures_are_switched_off_run R.Unlimited 10000 (shaped 4096 4096) ≡ result (Ended None [])
    ((line 1 144 0 Granted) ∷ (line 2 32 144 Simulated) ∷ (line 3 32 144 Simulated) ∷ (line 4 32 144 Granted) ∷ []) [] [] 6
unfolding everything
failures_are_switched_off_run = refl

abbrev script_fifteen_largest_cells_fit_run : Script
script_fifteen_largest_cells_fit_run = script [] ((procedure 2 [] (body ((OfPointer None) ∷ []) ((on 4 (Statement-F.Alloc (Held (H.Local 0))
    (Constant (pos 1048576)) GivesNull)) ∷ (on 5 (Statement-F.Alloc (Held (H.Local 0)) (Constant (pos 1048576)) GivesNull)) ∷ (on 6
    (Statement-F.Alloc (Held (H.Local 0)) (Constant (pos 1048576)) GivesNull)) ∷ (on 7 (Statement-F.Alloc (Held (H.Local 0)) (Constant (pos
    1048576)) GivesNull)) ∷ (on 8 (Statement-F.Alloc (Held (H.Local 0)) (Constant (pos 1048576)) GivesNull)) ∷ (on 9 (Statement-F.Alloc
    (Held (H.Local 0)) (Constant (pos 1048576)) GivesNull)) ∷ (on 10 (Statement-F.Alloc (Held (H.Local 0)) (Constant (pos 1048576))
    GivesNull)) ∷ (on 11 (Statement-F.Alloc (Held (H.Local 0)) (Constant (pos 1048576)) GivesNull)) ∷ (on 12 (Statement-F.Alloc (Held
    (H.Local 0)) (Constant (pos 1048576)) GivesNull)) ∷ (on 13 (Statement-F.Alloc (Held (H.Local 0)) (Constant (pos 1048576)) GivesNull)) ∷
    (on 14 (Statement-F.Alloc (Held (H.Local 0)) (Constant (pos 1048576)) GivesNull)) ∷ (on 15 (Statement-F.Alloc (Held (H.Local 0))
    (Constant (pos 1048576)) GivesNull)) ∷ (on 16 (Statement-F.Alloc (Held (H.Local 0)) (Constant (pos 1048576)) GivesNull)) ∷ (on 17
    (Statement-F.Alloc (Held (H.Local 0)) (Constant (pos 1048576)) GivesNull)) ∷ (on 18 (Statement-F.Alloc (Held (H.Local 0)) (Constant (pos
    1048576)) GivesNull)) ∷ []))) ∷ []) [] [] 0

fifteen_largest_cells_fit_run : run script_fifteen_largest_cells_fit_run R.Unlimited 10000 (shaped 4096 4096) ≡ result (Ended None ((leak 2
    1048592 144) ∷ (leak 3 1048592 1048736) ∷ (leak 4 1048592 2097328) ∷ (leak 5 1048592 3145920) ∷ (leak 6 1048592 4194512) ∷ (leak 7
    1048592 5243104) ∷ (leak 8 1048592 6291696) ∷ (leak 9 1048592 7340288) ∷ (leak 10 1048592 8388880) ∷ (leak 11 1048592 9437472) ∷ (leak
    12 1048592 10486064) ∷ (leak 13 1048592 11534656) ∷ (leak 14 1048592 12583248) ∷ (leak 15 1048592 13631840) ∷ (leak 16 1048592 14680432)
    ∷ [])) ((line 1 144 0 Granted) ∷ (line 2 1048592 144 Granted) ∷ (line 3 1048592 1048736 Granted) ∷ (line 4 1048592 2097328 Granted) ∷
    (line 5 1048592 3145920 Granted) ∷ (line 6 1048592 4194512 Granted) ∷ (line 7 1048592 5243104 Granted) ∷ (line 8 1048592 6291696
    Granted) ∷ (line 9 1048592 7340288 Granted) ∷ (line 10 1048592 8388880 Granted) ∷ (line 11 1048592 9437472 Granted) ∷ (line 12 1048592
    10486064 Granted) ∷ (line 13 1048592 11534656 Granted) ∷ (line 14 1048592 12583248 Granted) ∷ (line 15 1048592 13631840 Granted) ∷ (line
    16 1048592 14680432 Granted) ∷ []) [] [] 15
unfolding everything
fifteen_largest_cells_fit_run = refl

abbrev script_first_attempt_fails_run : Script
script_first_attempt_fails_run = script [] ((procedure 1 [] (body ((OfPointer None) ∷ []) ((on 3 (Statement-F.Alloc (Held (H.Local 0))
    (Constant (pos 1)) GivesNull)) ∷ (on 4 (Statement-F.Free (Held (H.Local 0)))) ∷ []))) ∷ []) [] [] 0

first_attempt_fails_run : run script_first_attempt_fails_run (R.Number 1) 10000 (shaped 4096 4096) ≡ result NoCleanup ((line 1 144 0
    Simulated) ∷ []) [] [] 0
unfolding everything
first_attempt_fails_run = refl

abbrev script_growth_with_a_number_fails_run : Script
script_growth_with_a_number_fails_run = script [] ((procedure 1 [] (body ((OfPointer None) ∷ (OfPointer None) ∷ []) ((on 4
    (Statement-F.Alloc (Held (H.Local 0)) (Constant (pos 1)) GivesNull)) ∷ (on 5 (Statement-F.Realloc (Held (H.Local 1)) (Held (H.Local 0))
    (Constant (pos 17)) GivesNull)) ∷ (on 6 (Statement-F.Free (Held (H.Local 0)))) ∷ (on 7 (Statement-F.Free (Held (H.Local 1)))) ∷ []))) ∷
    []) [] [] 0

growth_with_a_number_fails_run : run script_growth_with_a_number_fails_run (R.Number 3) 10000 (shaped 4096 4096) ≡ result (Ended None [])
    ((line 1 144 0 Granted) ∷ (line 2 32 144 Granted) ∷ (line 3 48 144 Simulated) ∷ []) [] [] 4
unfolding everything
growth_with_a_number_fails_run = refl

abbrev script_largest_cell_is_freed_twice_run : Script
script_largest_cell_is_freed_twice_run = script [] ((procedure 2 [] (body ((OfPointer None) ∷ []) ((on 4 (Statement-F.Alloc (Held (H.Local
    0)) (Constant (pos 1048576)) GivesNull)) ∷ (on 5 (Statement-F.Free (Held (H.Local 0)))) ∷ (on 6 (Statement-F.Free (Held (H.Local 0)))) ∷
    []))) ∷ []) [] [] 0

largest_cell_is_freed_twice_run : run script_largest_cell_is_freed_twice_run R.Unlimited 10000 (shaped 4096 4096) ≡ result (Panicked (P.User
    42)) ((line 1 144 0 Granted) ∷ (line 2 1048592 144 Granted) ∷ []) [] [] 3
unfolding everything
largest_cell_is_freed_twice_run = refl

abbrev script_mark_end_finds_no_cell_run : Script
script_mark_end_finds_no_cell_run = script [] ((procedure 1 [] (body [] ((on 2 Statement-F.Mark) ∷ (on 3 (Statement-F.MarkEnd (Constant (pos
    1)))) ∷ []))) ∷ []) [] [] 0

mark_end_finds_no_cell_run : run script_mark_end_finds_no_cell_run R.Unlimited 10000 (shaped 4096 4096) ≡ result (Panicked (P.Alloc 0))
    ((line 1 144 0 Granted) ∷ []) [] [] 2
unfolding everything
mark_end_finds_no_cell_run = refl

abbrev script_mark_end_finds_too_few_cells_run : Script
script_mark_end_finds_too_few_cells_run = script [] ((procedure 1 [] (body ((OfPointer None) ∷ (OfPointer None) ∷ []) ((on 4
    (Statement-F.Alloc (Held (H.Local 0)) (Constant (pos 1)) GivesNull)) ∷ (on 5 Statement-F.Mark) ∷ (on 6 (Statement-F.Alloc (Held (H.Local
    1)) (Constant (pos 1)) GivesNull)) ∷ (on 7 (Statement-F.MarkEnd (Constant (pos 2)))) ∷ []))) ∷ []) [] [] 0

mark_end_finds_too_few_cells_run : run script_mark_end_finds_too_few_cells_run R.Unlimited 10000 (shaped 4096 4096) ≡ result (Panicked
    (P.Alloc 176)) ((line 1 144 0 Granted) ∷ (line 2 32 144 Granted) ∷ (line 3 32 176 Granted) ∷ []) [] [] 4
unfolding everything
mark_end_finds_too_few_cells_run = refl

abbrev script_mark_end_leaves_other_levels_alone_run : Script
script_mark_end_leaves_other_levels_alone_run = script [] ((procedure 2 [] (body ((OfPointer None) ∷ []) ((on 4 (Statement-F.Alloc (Held
    (H.Local 0)) (Constant (pos 16)) GivesNull)) ∷ (on 5 Statement-F.Mark) ∷ (on 6 (Statement-F.MarkEnd (Constant (pos 1)))) ∷ []))) ∷ [])
    [] [] 0

mark_end_leaves_other_levels_alone_run : run script_mark_end_leaves_other_levels_alone_run R.Unlimited 10000 (shaped 4096 4096) ≡ result
    (Panicked (P.Alloc 0)) ((line 1 144 0 Granted) ∷ (line 2 32 144 Granted) ∷ []) [] [] 3
unfolding everything
mark_end_leaves_other_levels_alone_run = refl

abbrev script_mark_end_of_fewer_than_none_run : Script
script_mark_end_of_fewer_than_none_run = script [] ((procedure 1 [] (body [] ((on 2 (Statement-F.MarkEnd (Constant (negsuc 0)))) ∷ []))) ∷
    []) [] [] 0

mark_end_of_fewer_than_none_run : run script_mark_end_of_fewer_than_none_run R.Unlimited 10000 (shaped 4096 4096) ≡ result (Panicked
    (P.Workbench 9)) ((line 1 144 0 Granted) ∷ []) [] [] 1
unfolding everything
mark_end_of_fewer_than_none_run = refl

abbrev script_mark_end_without_a_mark_run : Script
script_mark_end_without_a_mark_run = script [] ((procedure 1 [] (body ((OfPointer None) ∷ []) ((on 3 (Statement-F.Alloc (Held (H.Local 0))
    (Constant (pos 1)) GivesNull)) ∷ (on 4 (Statement-F.MarkEnd (Constant (pos 1)))) ∷ []))) ∷ []) [] [] 0

mark_end_without_a_mark_run : run script_mark_end_without_a_mark_run R.Unlimited 10000 (shaped 4096 4096) ≡ result (Panicked (P.Workbench
    6)) ((line 1 144 0 Granted) ∷ (line 2 32 144 Granted) ∷ []) [] [] 2
unfolding everything
mark_end_without_a_mark_run = refl

abbrev script_mark_left_open_at_the_end_run : Script
script_mark_left_open_at_the_end_run = script [] ((procedure 1 [] (body ((OfPointer None) ∷ []) ((on 3 Statement-F.Mark) ∷ (on 4
    (Statement-F.Alloc (Held (H.Local 0)) (Constant (pos 1)) GivesNull)) ∷ (on 5 (Statement-F.Free (Held (H.Local 0)))) ∷ []))) ∷ []) [] []
    0

mark_left_open_at_the_end_run : run script_mark_left_open_at_the_end_run R.Unlimited 10000 (shaped 4096 4096) ≡ result (Ended None [])
    ((line 1 144 0 Granted) ∷ (line 2 32 144 Granted) ∷ []) [] [] 3
unfolding everything
mark_left_open_at_the_end_run = refl

abbrev script_marks_and_checks_that_hold_run : Script
script_marks_and_checks_that_hold_run = script [] ((procedure 1 [] (body ((OfPointer None) ∷ (OfPointer None) ∷ []) ((on 4
    (Statement-F.CheckAll (Constant (pos 0)))) ∷ (on 5 (Statement-F.Alloc (Held (H.Local 0)) (Constant (pos 1)) GivesNull)) ∷ (on 6
    (Statement-F.Check (Constant (pos 1)))) ∷ (on 7 Statement-F.Mark) ∷ (on 8 (Statement-F.Check (Constant (pos 0)))) ∷ (on 9
    (Statement-F.Alloc (Held (H.Local 1)) (Constant (pos 1)) GivesNull)) ∷ (on 10 (Statement-F.Check (Constant (pos 1)))) ∷ (on 11
    (Statement-F.CheckAll (Constant (pos 2)))) ∷ (on 12 (Statement-F.MarkEnd (Constant (pos 1)))) ∷ (on 13 (Statement-F.Check (Constant (pos
    2)))) ∷ (on 14 (Statement-F.Free (Held (H.Local 0)))) ∷ (on 15 (Statement-F.Free (Held (H.Local 1)))) ∷ (on 16 (Statement-F.CheckAll
    (Constant (pos 0)))) ∷ []))) ∷ []) [] [] 0

marks_and_checks_that_hold_run : run script_marks_and_checks_that_hold_run R.Unlimited 10000 (shaped 4096 4096) ≡ result (Ended None [])
    ((line 1 144 0 Granted) ∷ (line 2 32 144 Granted) ∷ (line 3 32 176 Granted) ∷ []) [] [] 13
unfolding everything
marks_and_checks_that_hold_run = refl

abbrev script_marks_and_failures_one_after_another_run : Script
script_marks_and_failures_one_after_another_run = script [] ((procedure 2 [] (body ((OfPointer None) ∷ (OfPointer None) ∷ (OfPointer None) ∷
    []) ((on 6 (Statement-F.Alloc (Held (H.Local 0)) (Constant (pos 16)) GivesNull)) ∷ (on 7 Statement-F.Mark) ∷ (on 8 (Statement-F.Alloc
    (Held (H.Local 1)) (Constant (pos 16)) GivesNull)) ∷ (on 9 (Statement-F.Check (Constant (pos 1)))) ∷ (on 10 (Statement-F.CheckAll
    (Constant (pos 2)))) ∷ (on 11 (Statement-F.MarkEnd (Constant (pos 1)))) ∷ (on 12 (Statement-F.Check (Constant (pos 2)))) ∷ (on 13
    (Statement-F.FailEvery (Constant (pos 2)))) ∷ (on 14 (Statement-F.Alloc (Held (H.Local 2)) (Constant (pos 16)) GivesNull)) ∷ (on 15
    (Statement-F.Alloc (Held (H.Local 2)) (Constant (pos 16)) GivesNull)) ∷ (on 16 (Statement-F.FailNext (Constant (pos 2)))) ∷ (on 17
    Statement-F.FailNone) ∷ (on 18 (Statement-F.Alloc (Held (H.Local 2)) (Constant (pos 16)) GivesNull)) ∷ (on 19 (Statement-F.Alloc (Held
    (H.Local 2)) (Constant (pos 16)) GivesNull)) ∷ []))) ∷ []) [] [] 0

marks_and_failures_one_after_another_run : run script_marks_and_failures_one_after_another_run R.Unlimited 10000 (shaped 4096 4096) ≡ result
    (Ended None ((leak 2 32 144) ∷ (leak 3 32 176) ∷ (leak 4 32 208) ∷ (leak 6 32 240) ∷ (leak 7 32 272) ∷ [])) ((line 1 144 0 Granted) ∷
    (line 2 32 144 Granted) ∷ (line 3 32 176 Granted) ∷ (line 4 32 208 Granted) ∷ (line 5 32 240 Simulated) ∷ (line 6 32 240 Granted) ∷
    (line 7 32 272 Granted) ∷ []) [] [] 14
unfolding everything
marks_and_failures_one_after_another_run = refl

abbrev script_moved_cell_keeps_its_level_run : Script
script_moved_cell_keeps_its_level_run = script [] ((procedure 1 [] (body ((OfPointer None) ∷ (OfPointer None) ∷ []) ((on 4
    (Statement-F.Alloc (Held (H.Local 0)) (Constant (pos 16)) GivesNull)) ∷ (on 5 (Statement-F.Alloc (Held (H.Local 1)) (Constant (pos 16))
    GivesNull)) ∷ (on 6 Statement-F.Mark) ∷ (on 7 (Statement-F.Realloc (Held (H.Local 0)) (Held (H.Local 0)) (Constant (pos 48)) GivesNull))
    ∷ (on 8 (Statement-F.Check (Constant (pos 0)))) ∷ (on 9 (Statement-F.MarkEnd (Constant (pos 0)))) ∷ (on 10 (Statement-F.Check (Constant
    (pos 2)))) ∷ (on 11 (Statement-F.Free (Held (H.Local 0)))) ∷ (on 12 (Statement-F.Free (Held (H.Local 1)))) ∷ []))) ∷ []) [] [] 0

moved_cell_keeps_its_level_run : run script_moved_cell_keeps_its_level_run R.Unlimited 10000 (shaped 4096 4096) ≡ result (Ended None [])
    ((line 1 144 0 Granted) ∷ (line 2 32 144 Granted) ∷ (line 3 32 176 Granted) ∷ (line 4 64 208 Granted) ∷ []) [] [] 9
unfolding everything
moved_cell_keeps_its_level_run = refl
