-- Worked cases of `cleanup`, each by computing. Written by tools/cases_to_theorems.py; edit nothing here.
use Rattle.std.specs.Prelude.{◌≡◌, refl, pos, negsuc, [], ◌∷◌, Some, None}
use Rattle.wb_heap_model.specs.declared.heap.Rule.TheVariants as R
use Rattle.wb_heap_model.specs.declared.heap.Panic.TheVariants as P
use Rattle.wb_tree.specs.declared.script.Holder.TheVariants as H
use Rattle.wb_heap_model.specs.declared.heap.Answer.TheVariants.{Granted, Simulated, Refused}
use Rattle.wb_meaning.specs.declared.run.Outcome.TheVariants.{Ended, Panicked}
use Rattle.wb_tree.specs.declared.script.Script.{Script}
use Rattle.wb_tree.specs.declared.script.Parameter.TheVariants as Par
use Rattle.wb_tree.specs.declared.script.Local.TheVariants.{OfPointer, OfNumber}
use Rattle.wb_tree.specs.declared.script.Pointer.TheVariants.{Held}
use Rattle.wb_tree.specs.declared.script.Number.TheVariants.{Constant, Variable}
use Rattle.wb_tree.specs.declared.script.Condition.TheVariants.{Equal}
use Rattle.wb_tree.specs.declared.script.Argument.TheVariants.{Given}
use Rattle.wb_tree.specs.declared.script.Refusal.TheVariants.{GivesNull, Leaves}
use Rattle.wb_tree.specs.declared.script.Statement.TheOpen.{Statement-F}
use Rattle.wb_meaning.specs.Run.{run}
use Rattle.wb_worked.specs.Shorthands.{everything, on, script, procedure, body, result, leak, shaped, line}

abbrev script_pop_below_the_trap_run : Script
script_pop_below_the_trap_run = script [] ((procedure 1 [] (body ((OfPointer None) ∷ OfNumber ∷ []) ((on 4 (Statement-F.Push (Held (H.Local
    0)))) ∷ (on 5 (Statement-F.Trap 1 ((on 6 (Statement-F.Pop (Constant (pos 1)))) ∷ []))) ∷ []))) ∷ []) [] [] 0

pop_below_the_trap_run : run script_pop_below_the_trap_run R.Unlimited 10000 (shaped 4096 4096) ≡ result (Panicked (P.Workbench 3)) ((line 1
    144 0 Granted) ∷ []) [] [] 3
unfolding everything
pop_below_the_trap_run = refl

abbrev script_pop_expects_a_cell_that_moved_run : Script
script_pop_expects_a_cell_that_moved_run = script [] ((procedure 1 [] (body ((OfPointer None) ∷ (OfPointer None) ∷ []) ((on 4
    (Statement-F.Alloc (Held (H.Local 0)) (Constant (pos 16)) Leaves)) ∷ (on 5 (Statement-F.Push (Held (H.Local 0)))) ∷ (on 6
    (Statement-F.Alloc (Held (H.Local 1)) (Constant (pos 16)) Leaves)) ∷ (on 7 (Statement-F.Realloc (Held (H.Local 0)) (Held (H.Local 0))
    (Constant (pos 64)) Leaves)) ∷ (on 8 (Statement-F.PopCheck (Held (H.Local 0)))) ∷ []))) ∷ []) [] [] 0

pop_expects_a_cell_that_moved_run : run script_pop_expects_a_cell_that_moved_run R.Unlimited 10000 (shaped 4096 4096) ≡ result (Panicked
    (P.Workbench 4)) ((line 1 144 0 Granted) ∷ (line 2 32 144 Granted) ∷ (line 3 32 176 Granted) ∷ (line 4 80 208 Granted) ∷ []) [] [] 5
unfolding everything
pop_expects_a_cell_that_moved_run = refl

abbrev script_pop_expects_a_freed_cell_and_finds_it_run : Script
script_pop_expects_a_freed_cell_and_finds_it_run = script [] ((procedure 1 [] (body ((OfPointer None) ∷ []) ((on 3 (Statement-F.Alloc (Held
    (H.Local 0)) (Constant (pos 16)) Leaves)) ∷ (on 4 (Statement-F.Push (Held (H.Local 0)))) ∷ (on 5 (Statement-F.Free (Held (H.Local 0))))
    ∷ (on 6 (Statement-F.PopCheck (Held (H.Local 0)))) ∷ []))) ∷ []) [] [] 0

pop_expects_a_freed_cell_and_finds_it_run : run script_pop_expects_a_freed_cell_and_finds_it_run R.Unlimited 10000 (shaped 4096 4096) ≡
    result (Ended None []) ((line 1 144 0 Granted) ∷ (line 2 32 144 Granted) ∷ []) [] [] 4
unfolding everything
pop_expects_a_freed_cell_and_finds_it_run = refl

abbrev script_pop_expects_a_new_cell_at_an_old_place_run : Script
script_pop_expects_a_new_cell_at_an_old_place_run = script [] ((procedure 1 [] (body ((OfPointer None) ∷ (OfPointer None) ∷ []) ((on 4
    (Statement-F.Alloc (Held (H.Local 0)) (Constant (pos 16)) Leaves)) ∷ (on 5 (Statement-F.Push (Held (H.Local 0)))) ∷ (on 6
    (Statement-F.Free (Held (H.Local 0)))) ∷ (on 7 (Statement-F.Alloc (Held (H.Local 1)) (Constant (pos 16)) Leaves)) ∷ (on 8
    (Statement-F.PopCheck (Held (H.Local 1)))) ∷ []))) ∷ []) [] [] 0

pop_expects_a_new_cell_at_an_old_place_run : run script_pop_expects_a_new_cell_at_an_old_place_run R.Unlimited 10000 (shaped 4096 4096) ≡
    result (Panicked (P.Workbench 4)) ((line 1 144 0 Granted) ∷ (line 2 32 144 Granted) ∷ (line 3 32 144 Granted) ∷ []) [] [] 5
unfolding everything
pop_expects_a_new_cell_at_an_old_place_run = refl

abbrev script_pop_expects_an_item_below_the_trap_run : Script
script_pop_expects_an_item_below_the_trap_run = script [] ((procedure 1 [] (body ((OfPointer None) ∷ OfNumber ∷ []) ((on 4 (Statement-F.Push
    (Held (H.Local 0)))) ∷ (on 5 (Statement-F.Trap 1 ((on 6 (Statement-F.PopCheck (Held (H.Local 0)))) ∷ []))) ∷ []))) ∷ []) [] [] 0

pop_expects_an_item_below_the_trap_run : run script_pop_expects_an_item_below_the_trap_run R.Unlimited 10000 (shaped 4096 4096) ≡ result
    (Panicked (P.Workbench 3)) ((line 1 144 0 Granted) ∷ []) [] [] 3
unfolding everything
pop_expects_an_item_below_the_trap_run = refl

abbrev script_pop_expects_an_item_of_an_empty_stack_run : Script
script_pop_expects_an_item_of_an_empty_stack_run = script [] ((procedure 1 [] (body ((OfPointer None) ∷ []) ((on 3 (Statement-F.PopCheck
    (Held (H.Local 0)))) ∷ []))) ∷ []) [] [] 0

pop_expects_an_item_of_an_empty_stack_run : run script_pop_expects_an_item_of_an_empty_stack_run R.Unlimited 10000 (shaped 4096 4096) ≡
    result (Panicked (P.Workbench 3)) ((line 1 144 0 Granted) ∷ []) [] [] 1
unfolding everything
pop_expects_an_item_of_an_empty_stack_run = refl

abbrev script_pop_expects_another_item_and_none_is_of_the_trap_run : Script
script_pop_expects_another_item_and_none_is_of_the_trap_run = script [] ((procedure 1 [] (body ((OfPointer None) ∷ (OfPointer None) ∷
    OfNumber ∷ []) ((on 5 (Statement-F.Alloc (Held (H.Local 0)) (Constant (pos 16)) Leaves)) ∷ (on 6 (Statement-F.Push (Held (H.Local 0))))
    ∷ (on 7 (Statement-F.Trap 2 ((on 8 (Statement-F.PopCheck (Held (H.Local 1)))) ∷ []))) ∷ []))) ∷ []) [] [] 0

pop_expects_another_item_and_none_is_of_the_trap_run : run script_pop_expects_another_item_and_none_is_of_the_trap_run R.Unlimited 10000
    (shaped 4096 4096) ≡ result (Panicked (P.Workbench 3)) ((line 1 144 0 Granted) ∷ (line 2 32 144 Granted) ∷ []) [] [] 4
unfolding everything
pop_expects_another_item_and_none_is_of_the_trap_run = refl

abbrev script_pop_expects_another_item_run : Script
script_pop_expects_another_item_run = script [] ((procedure 1 [] (body ((OfPointer None) ∷ (OfPointer None) ∷ []) ((on 4 (Statement-F.Alloc
    (Held (H.Local 0)) (Constant (pos 16)) Leaves)) ∷ (on 5 (Statement-F.Push (Held (H.Local 1)))) ∷ (on 6 (Statement-F.PopCheck (Held
    (H.Local 0)))) ∷ []))) ∷ []) [] [] 0

pop_expects_another_item_run : run script_pop_expects_another_item_run R.Unlimited 10000 (shaped 4096 4096) ≡ result (Panicked (P.Workbench
    4)) ((line 1 144 0 Granted) ∷ (line 2 32 144 Granted) ∷ []) [] [] 3
unfolding everything
pop_expects_another_item_run = refl

abbrev script_pop_expects_null_and_finds_a_cell_run : Script
script_pop_expects_null_and_finds_a_cell_run = script [] ((procedure 1 [] (body ((OfPointer None) ∷ (OfPointer None) ∷ []) ((on 4
    (Statement-F.Alloc (Held (H.Local 0)) (Constant (pos 16)) Leaves)) ∷ (on 5 (Statement-F.Push (Held (H.Local 0)))) ∷ (on 6
    (Statement-F.PopCheck (Held (H.Local 1)))) ∷ []))) ∷ []) [] [] 0

pop_expects_null_and_finds_a_cell_run : run script_pop_expects_null_and_finds_a_cell_run R.Unlimited 10000 (shaped 4096 4096) ≡ result
    (Panicked (P.Workbench 4)) ((line 1 144 0 Granted) ∷ (line 2 32 144 Granted) ∷ []) [] [] 3
unfolding everything
pop_expects_null_and_finds_a_cell_run = refl

abbrev script_pop_expects_null_and_finds_null_run : Script
script_pop_expects_null_and_finds_null_run = script [] ((procedure 1 [] (body ((OfPointer None) ∷ []) ((on 3 (Statement-F.Push (Held
    (H.Local 0)))) ∷ (on 4 (Statement-F.PopCheck (Held (H.Local 0)))) ∷ []))) ∷ []) [] [] 0

pop_expects_null_and_finds_null_run : run script_pop_expects_null_and_finds_null_run R.Unlimited 10000 (shaped 4096 4096) ≡ result (Ended
    None []) ((line 1 144 0 Granted) ∷ []) [] [] 2
unfolding everything
pop_expects_null_and_finds_null_run = refl

abbrev script_pop_expects_the_item_below_the_top_run : Script
script_pop_expects_the_item_below_the_top_run = script [] ((procedure 1 [] (body ((OfPointer None) ∷ (OfPointer None) ∷ []) ((on 4
    (Statement-F.Alloc (Held (H.Local 0)) (Constant (pos 16)) Leaves)) ∷ (on 5 (Statement-F.Alloc (Held (H.Local 1)) (Constant (pos 16))
    Leaves)) ∷ (on 6 (Statement-F.Push (Held (H.Local 0)))) ∷ (on 7 (Statement-F.Push (Held (H.Local 1)))) ∷ (on 8 (Statement-F.PopCheck
    (Held (H.Local 1)))) ∷ (on 9 (Statement-F.Push (Held (H.Local 1)))) ∷ (on 10 (Statement-F.PopCheck (Held (H.Local 0)))) ∷ []))) ∷ []) []
    [] 0

pop_expects_the_item_below_the_top_run : run script_pop_expects_the_item_below_the_top_run R.Unlimited 10000 (shaped 4096 4096) ≡ result
    (Panicked (P.Workbench 4)) ((line 1 144 0 Granted) ∷ (line 2 32 144 Granted) ∷ (line 3 32 176 Granted) ∷ []) [] [] 7
unfolding everything
pop_expects_the_item_below_the_top_run = refl

abbrev script_pop_expects_the_item_of_an_outer_trap_after_its_own_run : Script
script_pop_expects_the_item_of_an_outer_trap_after_its_own_run = script [] ((procedure 1 [] (body ((OfPointer None) ∷ (OfPointer None) ∷
    OfNumber ∷ []) ((on 5 (Statement-F.Alloc (Held (H.Local 0)) (Constant (pos 16)) Leaves)) ∷ (on 6 (Statement-F.Push (Held (H.Local 0))))
    ∷ (on 7 (Statement-F.Trap 2 ((on 8 (Statement-F.Alloc (Held (H.Local 1)) (Constant (pos 16)) Leaves)) ∷ (on 9 (Statement-F.Push (Held
    (H.Local 1)))) ∷ (on 10 (Statement-F.PopCheck (Held (H.Local 1)))) ∷ (on 11 (Statement-F.PopCheck (Held (H.Local 0)))) ∷ []))) ∷ []))) ∷
    []) [] [] 0

pop_expects_the_item_of_an_outer_trap_after_its_own_run : run script_pop_expects_the_item_of_an_outer_trap_after_its_own_run R.Unlimited
    10000 (shaped 4096 4096) ≡ result (Panicked (P.Workbench 3)) ((line 1 144 0 Granted) ∷ (line 2 32 144 Granted) ∷ (line 3 32 176 Granted)
    ∷ []) [] [] 7
unfolding everything
pop_expects_the_item_of_an_outer_trap_after_its_own_run = refl

abbrev script_pop_expects_the_newest_item_run : Script
script_pop_expects_the_newest_item_run = script [] ((procedure 1 [] (body ((OfPointer None) ∷ (OfPointer None) ∷ []) ((on 4
    (Statement-F.Alloc (Held (H.Local 0)) (Constant (pos 16)) Leaves)) ∷ (on 5 (Statement-F.Push (Held (H.Local 0)))) ∷ (on 6
    (Statement-F.Alloc (Held (H.Local 1)) (Constant (pos 16)) Leaves)) ∷ (on 7 (Statement-F.Push (Held (H.Local 1)))) ∷ (on 8
    (Statement-F.PopCheck (Held (H.Local 1)))) ∷ (on 9 (Statement-F.PopCheck (Held (H.Local 0)))) ∷ (on 10 (Statement-F.Free (Held (H.Local
    1)))) ∷ (on 11 (Statement-F.Free (Held (H.Local 0)))) ∷ []))) ∷ []) [] [] 0

pop_expects_the_newest_item_run : run script_pop_expects_the_newest_item_run R.Unlimited 10000 (shaped 4096 4096) ≡ result (Ended None [])
    ((line 1 144 0 Granted) ∷ (line 2 32 144 Granted) ∷ (line 3 32 176 Granted) ∷ []) [] [] 8
unfolding everything
pop_expects_the_newest_item_run = refl

abbrev script_popped_item_is_not_freed_run : Script
script_popped_item_is_not_freed_run = script [] ((procedure 1 [] (body ((OfPointer None) ∷ []) ((on 3 (Statement-F.Alloc (Held (H.Local 0))
    (Constant (pos 16)) GivesNull)) ∷ (on 4 (Statement-F.Push (Held (H.Local 0)))) ∷ (on 5 (Statement-F.Pop (Constant (pos 1)))) ∷ []))) ∷
    []) [] [] 0

popped_item_is_not_freed_run : run script_popped_item_is_not_freed_run R.Unlimited 10000 (shaped 4096 4096) ≡ result (Ended None ((leak 2 32
    144) ∷ [])) ((line 1 144 0 Granted) ∷ (line 2 32 144 Granted) ∷ []) [] [] 3
unfolding everything
popped_item_is_not_freed_run = refl

abbrev script_popped_items_are_not_destroyed_by_a_leave_run : Script
script_popped_items_are_not_destroyed_by_a_leave_run = script [] ((procedure 1 [] (body ((OfPointer None) ∷ (OfPointer None) ∷ OfNumber ∷
    []) ((on 5 (Statement-F.Trap 2 ((on 6 (Statement-F.Alloc (Held (H.Local 0)) (Constant (pos 16)) Leaves)) ∷ (on 7 (Statement-F.Push (Held
    (H.Local 0)))) ∷ (on 8 (Statement-F.Alloc (Held (H.Local 1)) (Constant (pos 16)) Leaves)) ∷ (on 9 (Statement-F.Push (Held (H.Local 1))))
    ∷ (on 10 (Statement-F.PopCheck (Held (H.Local 1)))) ∷ (on 11 (Statement-F.Leave (Constant (negsuc 4)))) ∷ []))) ∷ (on 13
    (Statement-F.Free (Held (H.Local 1)))) ∷ []))) ∷ []) [] [] 0

popped_items_are_not_destroyed_by_a_leave_run : run script_popped_items_are_not_destroyed_by_a_leave_run R.Unlimited 10000 (shaped 4096
    4096) ≡ result (Ended None []) ((line 1 144 0 Granted) ∷ (line 2 32 144 Granted) ∷ (line 3 32 176 Granted) ∷ []) [] [] 9
unfolding everything
popped_items_are_not_destroyed_by_a_leave_run = refl

abbrev script_procedure_returns_a_pushed_cell_run : Script
script_procedure_returns_a_pushed_cell_run = script [] ((procedure 1 (Par.OfNumber ∷ []) (body ((OfPointer None) ∷ []) ((on 3
    (Statement-F.Alloc (Held (H.Local 1)) (Variable 0) Leaves)) ∷ (on 4 (Statement-F.Push (Held (H.Local 1)))) ∷ (on 5
    (Statement-F.ReturnPointer (Held (H.Local 1)))) ∷ []))) ∷ (procedure 7 [] (body ((OfPointer None) ∷ []) ((on 9 (Statement-F.CallTo 0 0
    ((Given (Constant (pos 40))) ∷ []))) ∷ (on 10 (Statement-F.PopDestroy (Constant (pos 1)))) ∷ []))) ∷ []) [] [] 1

procedure_returns_a_pushed_cell_run : run script_procedure_returns_a_pushed_cell_run R.Unlimited 10000 (shaped 4096 4096) ≡ result (Ended
    None []) ((line 1 144 0 Granted) ∷ (line 2 64 144 Granted) ∷ []) [] [] 6
unfolding everything
procedure_returns_a_pushed_cell_run = refl

abbrev script_push_past_the_limit_destroys_all_items_run : Script
script_push_past_the_limit_destroys_all_items_run = script [] ((procedure 1 [] (body ((OfPointer None) ∷ (OfPointer None) ∷ []) ((on 4
    (Statement-F.Alloc (Held (H.Local 0)) (Constant (pos 16)) GivesNull)) ∷ (on 5 (Statement-F.Push (Held (H.Local 0)))) ∷ (on 6
    (Statement-F.Repeat (Constant (pos 7)) ((on 7 (Statement-F.Push (Held (H.Local 1)))) ∷ []))) ∷ (on 9 (Statement-F.PopDestroy (Constant
    (pos 8)))) ∷ []))) ∷ []) [] [] 0

push_past_the_limit_destroys_all_items_run : run script_push_past_the_limit_destroys_all_items_run (R.Limit 383) 10000 (shaped 4096 4096) ≡
    result (Ended (Some (negsuc 3)) []) ((line 1 144 0 Granted) ∷ (line 2 32 144 Granted) ∷ (line 3 208 176 Refused) ∷ []) [] [] 25
unfolding everything
push_past_the_limit_destroys_all_items_run = refl

abbrev script_push_that_cannot_grow_keeps_its_item_run : Script
script_push_that_cannot_grow_keeps_its_item_run = script [] ((procedure 1 [] (body ((OfPointer None) ∷ []) ((on 3 (Statement-F.Repeat
    (Constant (pos 8)) ((on 4 (Statement-F.Alloc (Held (H.Local 0)) (Constant (pos 16)) Leaves)) ∷ (on 5 (Statement-F.Push (Held (H.Local
    0)))) ∷ []))) ∷ (on 7 (Statement-F.PopDestroy (Constant (pos 8)))) ∷ []))) ∷ []) [] [] 0

push_that_cannot_grow_keeps_its_item_run : run script_push_that_cannot_grow_keeps_its_item_run (R.Number 10) 10000 (shaped 4096 4096) ≡
    result (Ended (Some (negsuc 3)) []) ((line 1 144 0 Granted) ∷ (line 2 32 144 Granted) ∷ (line 3 32 176 Granted) ∷ (line 4 32 208
    Granted) ∷ (line 5 32 240 Granted) ∷ (line 6 32 272 Granted) ∷ (line 7 32 304 Granted) ∷ (line 8 32 336 Granted) ∷ (line 9 32 368
    Granted) ∷ (line 10 208 400 Simulated) ∷ []) [] [] 33
unfolding everything
push_that_cannot_grow_keeps_its_item_run = refl

abbrev script_push_that_fails_by_number_destroys_all_items_run : Script
script_push_that_fails_by_number_destroys_all_items_run = script [] ((procedure 1 [] (body ((OfPointer None) ∷ (OfPointer None) ∷ []) ((on 4
    (Statement-F.Alloc (Held (H.Local 0)) (Constant (pos 16)) GivesNull)) ∷ (on 5 (Statement-F.Push (Held (H.Local 0)))) ∷ (on 6
    (Statement-F.Repeat (Constant (pos 7)) ((on 7 (Statement-F.Push (Held (H.Local 1)))) ∷ []))) ∷ (on 9 (Statement-F.PopDestroy (Constant
    (pos 8)))) ∷ []))) ∷ []) [] [] 0

push_that_fails_by_number_destroys_all_items_run : run script_push_that_fails_by_number_destroys_all_items_run (R.Number 3) 10000 (shaped
    4096 4096) ≡ result (Ended (Some (negsuc 3)) []) ((line 1 144 0 Granted) ∷ (line 2 32 144 Granted) ∷ (line 3 208 176 Simulated) ∷ []) []
    [] 25
unfolding everything
push_that_fails_by_number_destroys_all_items_run = refl

abbrev script_push_that_just_fits_the_limit_run : Script
script_push_that_just_fits_the_limit_run = script [] ((procedure 1 [] (body ((OfPointer None) ∷ (OfPointer None) ∷ []) ((on 4
    (Statement-F.Alloc (Held (H.Local 0)) (Constant (pos 16)) GivesNull)) ∷ (on 5 (Statement-F.Push (Held (H.Local 0)))) ∷ (on 6
    (Statement-F.Repeat (Constant (pos 7)) ((on 7 (Statement-F.Push (Held (H.Local 1)))) ∷ []))) ∷ (on 9 (Statement-F.PopDestroy (Constant
    (pos 8)))) ∷ []))) ∷ []) [] [] 0

push_that_just_fits_the_limit_run : run script_push_that_just_fits_the_limit_run (R.Limit 384) 10000 (shaped 4096 4096) ≡ result (Ended None
    []) ((line 1 144 0 Granted) ∷ (line 2 32 144 Granted) ∷ (line 3 208 176 Granted) ∷ []) [] [] 26
unfolding everything
push_that_just_fits_the_limit_run = refl

abbrev script_push_that_the_script_refuses_destroys_its_own_item_run : Script
script_push_that_the_script_refuses_destroys_its_own_item_run = script [] ((procedure 1 [] (body ((OfPointer None) ∷ (OfPointer None) ∷
    OfNumber ∷ []) ((on 5 (Statement-F.Alloc (Held (H.Local 0)) (Constant (pos 16)) GivesNull)) ∷ (on 6 (Statement-F.FailNext (Constant (pos
    1)))) ∷ (on 7 (Statement-F.Trap 2 ((on 8 (Statement-F.Repeat (Constant (pos 7)) ((on 9 (Statement-F.Push (Held (H.Local 1)))) ∷ []))) ∷
    (on 11 (Statement-F.Push (Held (H.Local 0)))) ∷ []))) ∷ (on 13 (Statement-F.PrintNumber (Variable 2))) ∷ (on 14 (Statement-F.Free (Held
    (H.Local 0)))) ∷ []))) ∷ []) [] [] 0

push_that_the_script_refuses_destroys_its_own_item_run : run script_push_that_the_script_refuses_destroys_its_own_item_run R.Unlimited 10000
    (shaped 4096 4096) ≡ result (Panicked (P.User 42)) ((line 1 144 0 Granted) ∷ (line 2 32 144 Granted) ∷ (line 3 208 176 Simulated) ∷ [])
    ((45 ∷ 52 ∷ []) ∷ []) [] 29
unfolding everything
push_that_the_script_refuses_destroys_its_own_item_run = refl

abbrev script_recursion_leaves_its_items_in_each_frame_run : Script
script_recursion_leaves_its_items_in_each_frame_run = script [] ((procedure 1 (Par.OfNumber ∷ []) (body ((OfPointer None) ∷ []) ((on 3
    (Statement-F.Alloc (Held (H.Local 1)) (Constant (pos 16)) Leaves)) ∷ (on 4 (Statement-F.Push (Held (H.Local 1)))) ∷ (on 5
    (Statement-F.If (Equal (Variable 0) (Constant (pos 0))) ((on 6 (Statement-F.Leave (Constant (negsuc 2)))) ∷ []))) ∷ (on 8
    (Statement-F.Add 0 (Constant (negsuc 0)))) ∷ (on 9 (Statement-F.Call 0 ((Given (Variable 0)) ∷ []))) ∷ (on 10 (Statement-F.PopDestroy
    (Constant (pos 1)))) ∷ []))) ∷ (procedure 12 [] (body (OfNumber ∷ []) ((on 14 (Statement-F.Trap 0 ((on 15 (Statement-F.Call 0 ((Given
    (Constant (pos 4))) ∷ []))) ∷ []))) ∷ (on 17 (Statement-F.PrintNumber (Variable 0))) ∷ []))) ∷ []) [] [] 1

recursion_leaves_its_items_in_each_frame_run : run script_recursion_leaves_its_items_in_each_frame_run R.Unlimited 10000 (shaped 4096 4096)
    ≡ result (Ended None []) ((line 1 144 0 Granted) ∷ (line 2 32 144 Granted) ∷ (line 3 32 176 Granted) ∷ (line 4 32 208 Granted) ∷ (line 5
    32 240 Granted) ∷ (line 6 32 272 Granted) ∷ []) ((45 ∷ 51 ∷ []) ∷ []) [] 32
unfolding everything
recursion_leaves_its_items_in_each_frame_run = refl

abbrev script_refused_request_destroys_the_items_before_it_run : Script
script_refused_request_destroys_the_items_before_it_run = script [] ((procedure 1 [] (body ((OfPointer None) ∷ (OfPointer None) ∷ (OfPointer
    None) ∷ OfNumber ∷ []) ((on 6 (Statement-F.Trap 3 ((on 7 (Statement-F.Alloc (Held (H.Local 0)) (Constant (pos 16)) Leaves)) ∷ (on 8
    (Statement-F.Push (Held (H.Local 0)))) ∷ (on 9 (Statement-F.Alloc (Held (H.Local 1)) (Constant (pos 16)) Leaves)) ∷ (on 10
    (Statement-F.Push (Held (H.Local 1)))) ∷ (on 11 (Statement-F.Alloc (Held (H.Local 2)) (Constant (pos 16)) Leaves)) ∷ (on 12
    (Statement-F.Push (Held (H.Local 2)))) ∷ (on 13 (Statement-F.PopDestroy (Constant (pos 3)))) ∷ []))) ∷ (on 15 (Statement-F.PrintNumber
    (Variable 3))) ∷ []))) ∷ []) [] [] 0

refused_request_destroys_the_items_before_it_run : run script_refused_request_destroys_the_items_before_it_run (R.Number 4) 10000 (shaped
    4096 4096) ≡ result (Ended None []) ((line 1 144 0 Granted) ∷ (line 2 32 144 Granted) ∷ (line 3 32 176 Granted) ∷ (line 4 32 208
    Simulated) ∷ []) ((45 ∷ 52 ∷ []) ∷ []) [] 9
unfolding everything
refused_request_destroys_the_items_before_it_run = refl

abbrev script_return_from_main_with_an_item_run : Script
script_return_from_main_with_an_item_run = script [] ((procedure 1 [] (body ((OfPointer None) ∷ []) ((on 3 (Statement-F.Push (Held (H.Local
    0)))) ∷ (on 4 Statement-F.Return) ∷ []))) ∷ []) [] [] 0

return_from_main_with_an_item_run : run script_return_from_main_with_an_item_run R.Unlimited 10000 (shaped 4096 4096) ≡ result (Panicked
    (P.Workbench 5)) ((line 1 144 0 Granted) ∷ []) [] [] 2
unfolding everything
return_from_main_with_an_item_run = refl
