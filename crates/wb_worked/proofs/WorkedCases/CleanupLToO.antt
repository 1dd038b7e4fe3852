-- Worked cases of `cleanup`, each by computing. Written by tools/cases_to_theorems.py; edit nothing here.
use Rattle.std.specs.Prelude.{◌≡◌, refl, pos, negsuc, [], ◌∷◌, Some, None}
use Rattle.wb_heap_model.specs.declared.heap.Rule.TheVariants as R
use Rattle.wb_heap_model.specs.declared.heap.Panic.TheVariants as P
use Rattle.wb_tree.specs.declared.script.Holder.TheVariants as H
use Rattle.wb_heap_model.specs.declared.heap.Answer.TheVariants.{Granted, Simulated, Refused}
use Rattle.wb_heap_model.specs.declared.reported.Note.TheVariants.{Heap, Available}
use Rattle.wb_meaning.specs.declared.run.Outcome.TheVariants.{Ended, Panicked}
use Rattle.wb_tree.specs.declared.script.Script.{Script}
use Rattle.wb_tree.specs.declared.script.Parameter.TheVariants as Par
use Rattle.wb_tree.specs.declared.script.Local.TheVariants.{OfPointer, OfNumber}
use Rattle.wb_tree.specs.declared.script.Pointer.TheVariants.{Held}
use Rattle.wb_tree.specs.declared.script.Number.TheVariants.{Constant, Variable}
use Rattle.wb_tree.specs.declared.script.Argument.TheVariants.{Passed}
use Rattle.wb_tree.specs.declared.script.Refusal.TheVariants.{GivesNull, Leaves}
use Rattle.wb_tree.specs.declared.script.Statement.TheOpen.{Statement-F}
use Rattle.wb_meaning.specs.Run.{run}
use Rattle.wb_worked.specs.Shorthands.{everything, on, script, procedure, body, result, shaped, line}

abbrev script_leave_destroys_a_stale_item_run : Script
script_leave_destroys_a_stale_item_run = script [] ((procedure 1 [] (body ((OfPointer None) ∷ (OfPointer None) ∷ OfNumber ∷ []) ((on 5
    (Statement-F.Trap 2 ((on 6 (Statement-F.Alloc (Held (H.Local 0)) (Constant (pos 16)) Leaves)) ∷ (on 7 (Statement-F.Push (Held (H.Local
    0)))) ∷ (on 8 (Statement-F.Alloc (Held (H.Local 1)) (Constant (pos 16)) Leaves)) ∷ (on 9 (Statement-F.Push (Held (H.Local 1)))) ∷ (on 10
    (Statement-F.Free (Held (H.Local 0)))) ∷ (on 11 (Statement-F.Leave (Constant (negsuc 4)))) ∷ []))) ∷ (on 13 (Statement-F.PrintNumber
    (Variable 2))) ∷ []))) ∷ []) [] [] 0

leave_destroys_a_stale_item_run : run script_leave_destroys_a_stale_item_run R.Unlimited 10000 (shaped 4096 4096) ≡ result (Panicked (P.User
    42)) ((line 1 144 0 Granted) ∷ (line 2 32 144 Granted) ∷ (line 3 32 176 Granted) ∷ []) [] [] 9
unfolding everything
leave_destroys_a_stale_item_run = refl

abbrev script_leave_destroys_the_items_of_all_callees_run : Script
script_leave_destroys_the_items_of_all_callees_run = script [] ((procedure 1 [] (body ((OfPointer None) ∷ []) ((on 3 (Statement-F.Alloc
    (Held (H.Local 0)) (Constant (pos 16)) Leaves)) ∷ (on 4 (Statement-F.Push (Held (H.Local 0)))) ∷ (on 5 (Statement-F.Leave (Constant
    (negsuc 6)))) ∷ []))) ∷ (procedure 7 [] (body ((OfPointer None) ∷ []) ((on 9 (Statement-F.Alloc (Held (H.Local 0)) (Constant (pos 32))
    Leaves)) ∷ (on 10 (Statement-F.Push (Held (H.Local 0)))) ∷ (on 11 (Statement-F.Call 0 [])) ∷ (on 12 (Statement-F.PopDestroy (Constant
    (pos 1)))) ∷ []))) ∷ (procedure 14 [] (body ((OfPointer None) ∷ []) ((on 16 (Statement-F.Alloc (Held (H.Local 0)) (Constant (pos 48))
    Leaves)) ∷ (on 17 (Statement-F.Push (Held (H.Local 0)))) ∷ (on 18 (Statement-F.Call 1 [])) ∷ (on 19 (Statement-F.PopDestroy (Constant
    (pos 1)))) ∷ []))) ∷ (procedure 21 [] (body (OfNumber ∷ []) ((on 23 (Statement-F.Trap 0 ((on 24 (Statement-F.Call 2 [])) ∷ []))) ∷ (on
    26 (Statement-F.PrintNumber (Variable 0))) ∷ []))) ∷ []) [] [] 3

leave_destroys_the_items_of_all_callees_run : run script_leave_destroys_the_items_of_all_callees_run R.Unlimited 10000 (shaped 4096 4096) ≡
    result (Ended None []) ((line 1 144 0 Granted) ∷ (line 2 64 144 Granted) ∷ (line 3 48 208 Granted) ∷ (line 4 32 256 Granted) ∷ []) ((45
    ∷ 55 ∷ []) ∷ []) [] 15
unfolding everything
leave_destroys_the_items_of_all_callees_run = refl

abbrev script_leave_out_of_callees_ends_main_run : Script
script_leave_out_of_callees_ends_main_run = script [] ((procedure 1 [] (body ((OfPointer None) ∷ []) ((on 3 (Statement-F.Alloc (Held
    (H.Local 0)) (Constant (pos 16)) Leaves)) ∷ (on 4 (Statement-F.Push (Held (H.Local 0)))) ∷ (on 5 (Statement-F.Leave (Constant (negsuc
    6)))) ∷ []))) ∷ (procedure 7 [] (body ((OfPointer None) ∷ []) ((on 9 (Statement-F.Alloc (Held (H.Local 0)) (Constant (pos 32)) Leaves))
    ∷ (on 10 (Statement-F.Push (Held (H.Local 0)))) ∷ (on 11 (Statement-F.Call 0 [])) ∷ (on 12 (Statement-F.PopDestroy (Constant (pos 1))))
    ∷ []))) ∷ []) [] [] 1

leave_out_of_callees_ends_main_run : run script_leave_out_of_callees_ends_main_run R.Unlimited 10000 (shaped 4096 4096) ≡ result (Ended
    (Some (negsuc 6)) []) ((line 1 144 0 Granted) ∷ (line 2 48 144 Granted) ∷ (line 3 32 192 Granted) ∷ []) [] [] 8
unfolding everything
leave_out_of_callees_ends_main_run = refl

abbrev script_leave_that_goes_on_destroys_trap_by_trap_run : Script
script_leave_that_goes_on_destroys_trap_by_trap_run = script [] ((procedure 1 [] (body ((OfPointer None) ∷ (OfPointer None) ∷ (OfPointer
    None) ∷ OfNumber ∷ OfNumber ∷ []) ((on 7 (Statement-F.Alloc (Held (H.Local 0)) (Constant (pos 16)) Leaves)) ∷ (on 8 (Statement-F.Push
    (Held (H.Local 0)))) ∷ (on 9 (Statement-F.Trap 3 ((on 10 (Statement-F.Alloc (Held (H.Local 1)) (Constant (pos 32)) Leaves)) ∷ (on 11
    (Statement-F.Push (Held (H.Local 1)))) ∷ (on 12 (Statement-F.Trap 4 ((on 13 (Statement-F.Alloc (Held (H.Local 2)) (Constant (pos 48))
    Leaves)) ∷ (on 14 (Statement-F.Push (Held (H.Local 2)))) ∷ (on 15 (Statement-F.Leave (Constant (negsuc 4)))) ∷ []))) ∷ (on 17
    Statement-F.NoteHeap) ∷ (on 18 (Statement-F.Leave (Variable 4))) ∷ []))) ∷ (on 20 Statement-F.NoteHeap) ∷ (on 21 (Statement-F.Leave
    (Variable 3))) ∷ []))) ∷ []) [] [] 0

leave_that_goes_on_destroys_trap_by_trap_run : run script_leave_that_goes_on_destroys_trap_by_trap_run R.Unlimited 10000 (shaped 4096 4096)
    ≡ result (Ended (Some (negsuc 4)) []) ((line 1 144 0 Granted) ∷ (line 2 32 144 Granted) ∷ (line 3 48 176 Granted) ∷ (line 4 64 224
    Granted) ∷ []) [] ((Heap 3 224 4096) ∷ (Heap 2 176 4096) ∷ []) 16
unfolding everything
leave_that_goes_on_destroys_trap_by_trap_run = refl

abbrev script_leave_without_items_of_its_trap_destroys_none_run : Script
script_leave_without_items_of_its_trap_destroys_none_run = script [] ((procedure 1 [] (body ((OfPointer None) ∷ OfNumber ∷ []) ((on 4
    (Statement-F.Alloc (Held (H.Local 0)) (Constant (pos 16)) Leaves)) ∷ (on 5 (Statement-F.Push (Held (H.Local 0)))) ∷ (on 6
    (Statement-F.Trap 1 ((on 7 (Statement-F.Leave (Constant (negsuc 4)))) ∷ []))) ∷ (on 9 (Statement-F.PopDestroy (Constant (pos 1)))) ∷
    []))) ∷ []) [] [] 0

leave_without_items_of_its_trap_destroys_none_run : run script_leave_without_items_of_its_trap_destroys_none_run R.Unlimited 10000 (shaped
    4096 4096) ≡ result (Ended None []) ((line 1 144 0 Granted) ∷ (line 2 32 144 Granted) ∷ []) [] [] 6
unfolding everything
leave_without_items_of_its_trap_destroys_none_run = refl

abbrev script_limit_stops_the_stack_above_a_large_hole_run : Script
script_limit_stops_the_stack_above_a_large_hole_run = script [] ((procedure 1 [] (body ((OfPointer None) ∷ (OfPointer None) ∷ []) ((on 4
    (Statement-F.Alloc (Held (H.Local 0)) (Constant (pos 200)) GivesNull)) ∷ (on 5 (Statement-F.Repeat (Constant (pos 8)) ((on 6
    (Statement-F.Push (Held (H.Local 1)))) ∷ []))) ∷ (on 8 (Statement-F.Free (Held (H.Local 0)))) ∷ (on 9 Statement-F.NoteAvailable) ∷ (on
    10 (Statement-F.Repeat (Constant (pos 4)) ((on 11 (Statement-F.Push (Held (H.Local 1)))) ∷ []))) ∷ []))) ∷ []) [] [] 0

limit_stops_the_stack_above_a_large_hole_run : run script_limit_stops_the_stack_above_a_large_hole_run (R.Limit 639) 10000 (shaped 4096
    4096) ≡ result (Ended (Some (negsuc 3)) []) ((line 1 144 0 Granted) ∷ (line 2 224 144 Granted) ∷ (line 3 208 368 Granted) ∷ (line 4 272
    368 Refused) ∷ []) [] ((Available 416 368) ∷ []) 41
unfolding everything
limit_stops_the_stack_above_a_large_hole_run = refl

abbrev script_lines_have_their_words_as_names_too_run : Script
script_lines_have_their_words_as_names_too_run = script [] ((procedure 1 ((Par.OfPointer None) ∷ []) (body ((OfPointer None) ∷ []) ((on 3
    (Statement-F.Set (Held (H.Local 1)) (Held (H.Local 0)))) ∷ (on 4 (Statement-F.Push (Held (H.Local 1)))) ∷ []))) ∷ (procedure 6 [] (body
    ((OfPointer None) ∷ OfNumber ∷ []) ((on 9 (Statement-F.Alloc (Held (H.Local 0)) (Constant (pos 16)) Leaves)) ∷ (on 10 (Statement-F.Call
    0 ((Passed (Held (H.Local 0))) ∷ []))) ∷ (on 11 (Statement-F.PopCheck (Held (H.Local 0)))) ∷ (on 12 (Statement-F.Push (Held (H.Local
    0)))) ∷ (on 13 (Statement-F.SetNumber 1 (Constant (pos 1)))) ∷ (on 14 (Statement-F.PopDestroy (Variable 1))) ∷ []))) ∷ []) [] [] 1

lines_have_their_words_as_names_too_run : run script_lines_have_their_words_as_names_too_run R.Unlimited 10000 (shaped 4096 4096) ≡ result
    (Ended None []) ((line 1 144 0 Granted) ∷ (line 2 32 144 Granted) ∷ []) [] [] 9
unfolding everything
lines_have_their_words_as_names_too_run = refl

abbrev script_mark_end_of_a_level_that_the_stack_grew_in_run : Script
script_mark_end_of_a_level_that_the_stack_grew_in_run = script [] ((procedure 1 [] (body ((OfPointer None) ∷ (OfPointer None) ∷ []) ((on 4
    (Statement-F.Alloc (Held (H.Local 0)) (Constant (pos 16)) GivesNull)) ∷ (on 5 Statement-F.Mark) ∷ (on 6 (Statement-F.Repeat (Constant
    (pos 8)) ((on 7 (Statement-F.Push (Held (H.Local 1)))) ∷ []))) ∷ (on 9 (Statement-F.MarkEnd (Constant (pos 0)))) ∷ (on 10
    (Statement-F.Check (Constant (pos 1)))) ∷ (on 11 (Statement-F.Repeat (Constant (pos 4)) ((on 12 (Statement-F.Push (Held (H.Local 1)))) ∷
    []))) ∷ (on 14 (Statement-F.CheckAll (Constant (pos 1)))) ∷ (on 15 (Statement-F.Pop (Constant (pos 12)))) ∷ (on 16 (Statement-F.Free
    (Held (H.Local 0)))) ∷ []))) ∷ []) [] [] 0

mark_end_of_a_level_that_the_stack_grew_in_run : run script_mark_end_of_a_level_that_the_stack_grew_in_run R.Unlimited 10000 (shaped 4096
    4096) ≡ result (Ended None []) ((line 1 144 0 Granted) ∷ (line 2 32 144 Granted) ∷ (line 3 208 176 Granted) ∷ (line 4 272 176 Granted) ∷
    []) [] [] 33
unfolding everything
mark_end_of_a_level_that_the_stack_grew_in_run = refl

abbrev script_marks_never_count_the_cleanup_cell_run : Script
script_marks_never_count_the_cleanup_cell_run = script [] ((procedure 1 [] (body ((OfPointer None) ∷ []) ((on 3 Statement-F.Mark) ∷ (on 4
    (Statement-F.Repeat (Constant (pos 8)) ((on 5 (Statement-F.Push (Held (H.Local 0)))) ∷ []))) ∷ (on 7 (Statement-F.Pop (Constant (pos
    8)))) ∷ (on 8 (Statement-F.MarkEnd (Constant (pos 0)))) ∷ []))) ∷ []) [] [] 0

marks_never_count_the_cleanup_cell_run : run script_marks_never_count_the_cleanup_cell_run R.Unlimited 10000 (shaped 4096 4096) ≡ result
    (Ended None []) ((line 1 144 0 Granted) ∷ (line 2 208 0 Granted) ∷ []) [] [] 20
unfolding everything
marks_never_count_the_cleanup_cell_run = refl

abbrev script_moved_cell_leaves_a_stale_item_run : Script
script_moved_cell_leaves_a_stale_item_run = script [] ((procedure 1 [] (body ((OfPointer None) ∷ (OfPointer None) ∷ []) ((on 4
    (Statement-F.Alloc (Held (H.Local 0)) (Constant (pos 16)) GivesNull)) ∷ (on 5 (Statement-F.Push (Held (H.Local 0)))) ∷ (on 6
    (Statement-F.Alloc (Held (H.Local 1)) (Constant (pos 16)) GivesNull)) ∷ (on 7 (Statement-F.Realloc (Held (H.Local 0)) (Held (H.Local 0))
    (Constant (pos 64)) GivesNull)) ∷ (on 8 (Statement-F.Free (Held (H.Local 1)))) ∷ (on 9 (Statement-F.PopDestroy (Constant (pos 1)))) ∷
    []))) ∷ []) [] [] 0

moved_cell_leaves_a_stale_item_run : run script_moved_cell_leaves_a_stale_item_run R.Unlimited 10000 (shaped 4096 4096) ≡ result (Panicked
    (P.User 42)) ((line 1 144 0 Granted) ∷ (line 2 32 144 Granted) ∷ (line 3 32 176 Granted) ∷ (line 4 80 208 Granted) ∷ []) [] [] 7
unfolding everything
moved_cell_leaves_a_stale_item_run = refl

abbrev script_moved_stack_keeps_its_items_run : Script
script_moved_stack_keeps_its_items_run = script [] ((procedure 1 [] (body ((OfPointer None) ∷ (OfPointer None) ∷ (OfPointer None) ∷ []) ((on
    5 (Statement-F.Alloc (Held (H.Local 0)) (Constant (pos 16)) GivesNull)) ∷ (on 6 (Statement-F.Push (Held (H.Local 0)))) ∷ (on 7
    (Statement-F.Alloc (Held (H.Local 1)) (Constant (pos 32)) GivesNull)) ∷ (on 8 (Statement-F.Push (Held (H.Local 1)))) ∷ (on 9
    (Statement-F.Repeat (Constant (pos 6)) ((on 10 (Statement-F.Push (Held (H.Local 2)))) ∷ []))) ∷ (on 12 (Statement-F.Pop (Constant (pos
    6)))) ∷ (on 13 (Statement-F.PopCheck (Held (H.Local 1)))) ∷ (on 14 (Statement-F.PopCheck (Held (H.Local 0)))) ∷ (on 15 (Statement-F.Free
    (Held (H.Local 0)))) ∷ (on 16 (Statement-F.Free (Held (H.Local 1)))) ∷ []))) ∷ []) [] [] 0

moved_stack_keeps_its_items_run : run script_moved_stack_keeps_its_items_run R.Unlimited 10000 (shaped 4096 4096) ≡ result (Ended None [])
    ((line 1 144 0 Granted) ∷ (line 2 32 144 Granted) ∷ (line 3 48 176 Granted) ∷ (line 4 208 224 Granted) ∷ []) [] [] 22
unfolding everything
moved_stack_keeps_its_items_run = refl

abbrev script_next_push_asks_for_the_growth_again_run : Script
script_next_push_asks_for_the_growth_again_run = script [] ((procedure 1 [] (body ((OfPointer None) ∷ (OfPointer None) ∷ OfNumber ∷ []) ((on
    5 (Statement-F.Repeat (Constant (pos 7)) ((on 6 (Statement-F.Push (Held (H.Local 1)))) ∷ []))) ∷ (on 8 (Statement-F.Alloc (Held (H.Local
    0)) (Constant (pos 16)) GivesNull)) ∷ (on 9 (Statement-F.FailNext (Constant (pos 1)))) ∷ (on 10 (Statement-F.Trap 2 ((on 11
    (Statement-F.Push (Held (H.Local 0)))) ∷ []))) ∷ (on 13 (Statement-F.PrintNumber (Variable 2))) ∷ (on 14 (Statement-F.Alloc (Held
    (H.Local 0)) (Constant (pos 16)) GivesNull)) ∷ (on 15 (Statement-F.Push (Held (H.Local 0)))) ∷ (on 16 (Statement-F.PopDestroy (Constant
    (pos 1)))) ∷ (on 17 (Statement-F.Pop (Constant (pos 7)))) ∷ []))) ∷ []) [] [] 0

next_push_asks_for_the_growth_again_run : run script_next_push_asks_for_the_growth_again_run R.Unlimited 10000 (shaped 4096 4096) ≡ result
    (Ended None []) ((line 1 144 0 Granted) ∷ (line 2 32 144 Granted) ∷ (line 3 208 176 Simulated) ∷ (line 4 32 144 Granted) ∷ (line 5 208
    176 Granted) ∷ []) ((45 ∷ 52 ∷ []) ∷ []) [] 26
unfolding everything
next_push_asks_for_the_growth_again_run = refl

abbrev script_none_are_popped_run : Script
script_none_are_popped_run = script [] ((procedure 1 [] (body ((OfPointer None) ∷ OfNumber ∷ []) ((on 4 (Statement-F.Pop (Constant (pos
    0)))) ∷ (on 5 (Statement-F.PopDestroy (Constant (pos 0)))) ∷ (on 6 (Statement-F.Alloc (Held (H.Local 0)) (Constant (pos 16)) GivesNull))
    ∷ (on 7 (Statement-F.Push (Held (H.Local 0)))) ∷ (on 8 (Statement-F.Trap 1 ((on 9 (Statement-F.Pop (Constant (pos 0)))) ∷ (on 10
    (Statement-F.PopDestroy (Constant (pos 0)))) ∷ []))) ∷ (on 12 (Statement-F.PopCheck (Held (H.Local 0)))) ∷ (on 13 (Statement-F.Free
    (Held (H.Local 0)))) ∷ []))) ∷ []) [] [] 0

none_are_popped_run : run script_none_are_popped_run R.Unlimited 10000 (shaped 4096 4096) ≡ result (Ended None []) ((line 1 144 0 Granted) ∷
    (line 2 32 144 Granted) ∷ []) [] [] 9
unfolding everything
none_are_popped_run = refl

abbrev script_null_items_are_destroyed_one_step_each_run : Script
script_null_items_are_destroyed_one_step_each_run = script [] ((procedure 1 [] (body ((OfPointer None) ∷ (OfPointer None) ∷ []) ((on 4
    (Statement-F.Push (Held (H.Local 1)))) ∷ (on 5 (Statement-F.Alloc (Held (H.Local 0)) (Constant (pos 16)) GivesNull)) ∷ (on 6
    (Statement-F.Push (Held (H.Local 0)))) ∷ (on 7 (Statement-F.Push (Held (H.Local 1)))) ∷ (on 8 (Statement-F.PopDestroy (Constant (pos
    3)))) ∷ []))) ∷ []) [] [] 0

null_items_are_destroyed_one_step_each_run : run script_null_items_are_destroyed_one_step_each_run R.Unlimited 10000 (shaped 4096 4096) ≡
    result (Ended None []) ((line 1 144 0 Granted) ∷ (line 2 32 144 Granted) ∷ []) [] [] 8
unfolding everything
null_items_are_destroyed_one_step_each_run = refl

abbrev script_one_too_many_is_popped_and_destroyed_run : Script
script_one_too_many_is_popped_and_destroyed_run = script [] ((procedure 1 [] (body ((OfPointer None) ∷ []) ((on 3 (Statement-F.Alloc (Held
    (H.Local 0)) (Constant (pos 16)) GivesNull)) ∷ (on 4 (Statement-F.Push (Held (H.Local 0)))) ∷ (on 5 (Statement-F.PopDestroy (Constant
    (pos 2)))) ∷ []))) ∷ []) [] [] 0

one_too_many_is_popped_and_destroyed_run : run script_one_too_many_is_popped_and_destroyed_run R.Unlimited 10000 (shaped 4096 4096) ≡ result
    (Panicked (P.Workbench 3)) ((line 1 144 0 Granted) ∷ (line 2 32 144 Granted) ∷ []) [] [] 3
unfolding everything
one_too_many_is_popped_and_destroyed_run = refl

abbrev script_one_too_many_is_popped_in_an_inner_trap_run : Script
script_one_too_many_is_popped_in_an_inner_trap_run = script [] ((procedure 1 [] (body ((OfPointer None) ∷ OfNumber ∷ OfNumber ∷ []) ((on 5
    (Statement-F.Push (Held (H.Local 0)))) ∷ (on 6 (Statement-F.Trap 1 ((on 7 (Statement-F.Push (Held (H.Local 0)))) ∷ (on 8
    (Statement-F.Push (Held (H.Local 0)))) ∷ (on 9 (Statement-F.Trap 2 ((on 10 (Statement-F.Push (Held (H.Local 0)))) ∷ (on 11
    (Statement-F.Pop (Constant (pos 2)))) ∷ []))) ∷ []))) ∷ []))) ∷ []) [] [] 0

one_too_many_is_popped_in_an_inner_trap_run : run script_one_too_many_is_popped_in_an_inner_trap_run R.Unlimited 10000 (shaped 4096 4096) ≡
    result (Panicked (P.Workbench 3)) ((line 1 144 0 Granted) ∷ []) [] [] 7
unfolding everything
one_too_many_is_popped_in_an_inner_trap_run = refl

abbrev script_one_too_many_is_popped_run : Script
script_one_too_many_is_popped_run = script [] ((procedure 1 [] (body ((OfPointer None) ∷ []) ((on 3 (Statement-F.Push (Held (H.Local 0)))) ∷
    (on 4 (Statement-F.Push (Held (H.Local 0)))) ∷ (on 5 (Statement-F.Pop (Constant (pos 3)))) ∷ []))) ∷ []) [] [] 0

one_too_many_is_popped_run : run script_one_too_many_is_popped_run R.Unlimited 10000 (shaped 4096 4096) ≡ result (Panicked (P.Workbench 3))
    ((line 1 144 0 Granted) ∷ []) [] [] 3
unfolding everything
one_too_many_is_popped_run = refl
