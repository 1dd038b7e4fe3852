-- Worked cases of `sweep`, each by computing. Written by tools/cases_to_theorems.py; edit nothing here.
use Rattle.std.specs.Prelude.{◌≡◌, refl, pos, negsuc, [], ◌∷◌, length, Some, None}
use Rattle.wb_runs.specs.declared.failures.Failures.TheVariants.{Single}
use Rattle.wb_heap_model.specs.declared.heap.Panic.TheVariants as P
use Rattle.wb_tree.specs.declared.script.Holder.TheVariants as H
use Rattle.wb_heap_model.specs.declared.heap.Answer.TheVariants.{Granted, Simulated}
use Rattle.wb_meaning.specs.declared.run.Why.TheVariants.{Budget}
use Rattle.wb_meaning.specs.declared.run.Outcome.TheVariants.{Ended, Panicked, Cut}
use Rattle.wb_tree.specs.declared.script.Script.{Script}
use Rattle.wb_tree.specs.declared.script.Parameter.TheVariants as Par
use Rattle.wb_tree.specs.declared.script.Local.TheVariants.{OfPointer, OfNumber}
use Rattle.wb_tree.specs.declared.script.Pointer.TheVariants.{Held, Field}
use Rattle.wb_tree.specs.declared.script.Number.TheVariants.{Constant, Variable}
use Rattle.wb_tree.specs.declared.script.Readable.TheVariants.{Quoted}
use Rattle.wb_tree.specs.declared.script.Condition.TheVariants.{IsNull}
use Rattle.wb_tree.specs.declared.script.Argument.TheVariants.{Given}
use Rattle.wb_tree.specs.declared.script.Refusal.TheVariants.{GivesNull, Leaves}
use Rattle.wb_tree.specs.declared.script.Statement.TheOpen.{Statement-F}
use Rattle.wb_meaning.specs.Run.{required, rises}
use Rattle.wb_runs.specs.Sweeps.{runs_of, least_bad_or_cut}
use Rattle.wb_worked.specs.Shorthands.{everything, on, script, class_of, procedure, body, result, leak, shaped, line, rise}

abbrev script_budget_is_enough_for_each_item_check : Script
script_budget_is_enough_for_each_item_check = script [] ((procedure 1 [] (body ((OfPointer None) ∷ (OfPointer None) ∷ (OfPointer None) ∷ [])
    ((on 5 (Statement-F.Alloc (Held (H.Local 0)) (Constant (pos 16)) Leaves)) ∷ (on 6 (Statement-F.Push (Held (H.Local 0)))) ∷ (on 7
    (Statement-F.Alloc (Held (H.Local 1)) (Constant (pos 16)) Leaves)) ∷ (on 8 (Statement-F.Push (Held (H.Local 1)))) ∷ (on 9
    (Statement-F.Alloc (Held (H.Local 2)) (Constant (pos 16)) Leaves)) ∷ (on 10 (Statement-F.Push (Held (H.Local 2)))) ∷ (on 11
    (Statement-F.PopDestroy (Constant (pos 3)))) ∷ (on 12 (Statement-F.PrintText (Quoted 0))) ∷ []))) ∷ []) [] ((110 ∷ 111 ∷ 110 ∷ 101 ∷ 32
    ∷ 105 ∷ 115 ∷ 32 ∷ 108 ∷ 101 ∷ 102 ∷ 116 ∷ []) ∷ []) 0

budget_is_enough_for_each_item_check : (required script_budget_is_enough_for_each_item_check 10000 (shaped 4096 4096) ≡ 240) × (rises
    script_budget_is_enough_for_each_item_check 10000 (shaped 4096 4096) ≡ (rise 1 144) ∷ (rise 2 176) ∷ (rise 3 208) ∷ (rise 4 240) ∷ []) ×
    (length (runs_of Single script_budget_is_enough_for_each_item_check 10000 (shaped 4096 4096) 0).trace ≡ 4) × (least_bad_or_cut Single
    script_budget_is_enough_for_each_item_check 10000 (shaped 4096 4096) ≡ None)
unfolding everything
budget_is_enough_for_each_item_check = (refl, refl, refl, refl)

abbrev script_eighth_push_grows_the_cleanup_cell_check : Script
script_eighth_push_grows_the_cleanup_cell_check = script [] ((procedure 1 [] (body ((OfPointer None) ∷ []) ((on 3 (Statement-F.Repeat
    (Constant (pos 8)) ((on 4 (Statement-F.Alloc (Held (H.Local 0)) (Constant (pos 16)) Leaves)) ∷ (on 5 (Statement-F.Push (Held (H.Local
    0)))) ∷ []))) ∷ (on 7 (Statement-F.PopDestroy (Constant (pos 8)))) ∷ []))) ∷ []) [] [] 0

eighth_push_grows_the_cleanup_cell_check : (required script_eighth_push_grows_the_cleanup_cell_check 10000 (shaped 4096 4096) ≡ 608) ×
    (rises script_eighth_push_grows_the_cleanup_cell_check 10000 (shaped 4096 4096) ≡ (rise 1 144) ∷ (rise 2 176) ∷ (rise 3 208) ∷ (rise 4
    240) ∷ (rise 5 272) ∷ (rise 6 304) ∷ (rise 7 336) ∷ (rise 8 368) ∷ (rise 9 400) ∷ (rise 10 608) ∷ []) × (length (runs_of Single
    script_eighth_push_grows_the_cleanup_cell_check 10000 (shaped 4096 4096) 0).trace ≡ 10) × (least_bad_or_cut Single
    script_eighth_push_grows_the_cleanup_cell_check 10000 (shaped 4096 4096) ≡ None)
unfolding everything
eighth_push_grows_the_cleanup_cell_check = (refl, refl, refl, refl)

abbrev script_eighth_push_grows_the_cleanup_cell_sweep : Script
script_eighth_push_grows_the_cleanup_cell_sweep = script [] ((procedure 1 [] (body ((OfPointer None) ∷ []) ((on 3 (Statement-F.Repeat
    (Constant (pos 8)) ((on 4 (Statement-F.Alloc (Held (H.Local 0)) (Constant (pos 16)) Leaves)) ∷ (on 5 (Statement-F.Push (Held (H.Local
    0)))) ∷ []))) ∷ (on 7 (Statement-F.PopDestroy (Constant (pos 8)))) ∷ []))) ∷ []) [] [] 0

eighth_push_grows_the_cleanup_cell_sweep : (length (runs_of Single script_eighth_push_grows_the_cleanup_cell_sweep 10000 (shaped 4096 4096)
    0).trace ≡ 10) × (least_bad_or_cut Single script_eighth_push_grows_the_cleanup_cell_sweep 10000 (shaped 4096 4096) ≡ None)
unfolding everything
eighth_push_grows_the_cleanup_cell_sweep = (refl, refl)

abbrev script_empty_main_check : Script
script_empty_main_check = script [] ((procedure 1 [] (body [] [])) ∷ []) [] [] 0

empty_main_check : (required script_empty_main_check 10000 (shaped 4096 4096) ≡ 144) × (rises script_empty_main_check 10000 (shaped 4096
    4096) ≡ (rise 1 144) ∷ []) × (length (runs_of Single script_empty_main_check 10000 (shaped 4096 4096) 0).trace ≡ 1) × (least_bad_or_cut
    Single script_empty_main_check 10000 (shaped 4096 4096) ≡ None)
unfolding everything
empty_main_check = (refl, refl, refl, refl)

abbrev script_failure_that_outruns_the_budget_check : Script
script_failure_that_outruns_the_budget_check = script [] ((procedure 1 [] (body ((OfPointer None) ∷ []) ((on 3 (Statement-F.Alloc (Held
    (H.Local 0)) (Constant (pos 16)) GivesNull)) ∷ (on 4 (Statement-F.If (IsNull (Held (H.Local 0))) ((on 5 (Statement-F.Repeat (Constant
    (pos 20000)) [])) ∷ []))) ∷ (on 8 (Statement-F.Free (Held (H.Local 0)))) ∷ []))) ∷ []) [] [] 0

failure_that_outruns_the_budget_check : (required script_failure_that_outruns_the_budget_check 10000 (shaped 4096 4096) ≡ 176) × (rises
    script_failure_that_outruns_the_budget_check 10000 (shaped 4096 4096) ≡ (rise 1 144) ∷ (rise 2 176) ∷ []) × (least_bad_or_cut Single
    script_failure_that_outruns_the_budget_check 10000 (shaped 4096 4096) ≡ Some 2) × ((runs_of Single
    script_failure_that_outruns_the_budget_check 10000 (shaped 4096 4096) 2).outcome ≡ Cut Budget)
unfolding everything
failure_that_outruns_the_budget_check = (refl, refl, refl, refl)

abbrev script_failure_that_outruns_the_budget_sweep : Script
script_failure_that_outruns_the_budget_sweep = script [] ((procedure 1 [] (body ((OfPointer None) ∷ []) ((on 3 (Statement-F.Alloc (Held
    (H.Local 0)) (Constant (pos 16)) GivesNull)) ∷ (on 4 (Statement-F.If (IsNull (Held (H.Local 0))) ((on 5 (Statement-F.Repeat (Constant
    (pos 20000)) [])) ∷ []))) ∷ (on 8 (Statement-F.Free (Held (H.Local 0)))) ∷ []))) ∷ []) [] [] 0

failure_that_outruns_the_budget_sweep : (least_bad_or_cut Single script_failure_that_outruns_the_budget_sweep 10000 (shaped 4096 4096) ≡
    Some 2) × ((runs_of Single script_failure_that_outruns_the_budget_sweep 10000 (shaped 4096 4096) 2).outcome ≡ Cut Budget)
unfolding everything
failure_that_outruns_the_budget_sweep = (refl, refl)

abbrev script_first_fit_reuses_hole_check : Script
script_first_fit_reuses_hole_check = script [] ((procedure 1 [] (body ((OfPointer None) ∷ (OfPointer None) ∷ (OfPointer None) ∷ []) ((on 5
    (Statement-F.Alloc (Held (H.Local 0)) (Constant (pos 10)) GivesNull)) ∷ (on 6 (Statement-F.Alloc (Held (H.Local 1)) (Constant (pos 100))
    GivesNull)) ∷ (on 7 (Statement-F.Free (Held (H.Local 0)))) ∷ (on 8 (Statement-F.Alloc (Held (H.Local 2)) (Constant (pos 16)) GivesNull))
    ∷ (on 9 (Statement-F.Free (Held (H.Local 1)))) ∷ (on 10 (Statement-F.Free (Held (H.Local 2)))) ∷ []))) ∷ []) [] [] 0

first_fit_reuses_hole_check : (required script_first_fit_reuses_hole_check 10000 (shaped 4096 4096) ≡ 304) × (rises
    script_first_fit_reuses_hole_check 10000 (shaped 4096 4096) ≡ (rise 1 144) ∷ (rise 2 176) ∷ (rise 3 304) ∷ []) × (length (runs_of Single
    script_first_fit_reuses_hole_check 10000 (shaped 4096 4096) 0).trace ≡ 4) × (least_bad_or_cut Single script_first_fit_reuses_hole_check
    10000 (shaped 4096 4096) ≡ None)
unfolding everything
first_fit_reuses_hole_check = (refl, refl, refl, refl)

abbrev script_item_that_was_freed_by_hand_check : Script
script_item_that_was_freed_by_hand_check = script [] ((procedure 1 [] (body ((OfPointer None) ∷ (OfPointer None) ∷ []) ((on 4
    (Statement-F.Alloc (Held (H.Local 0)) (Constant (pos 16)) Leaves)) ∷ (on 5 (Statement-F.Push (Held (H.Local 0)))) ∷ (on 6
    (Statement-F.Free (Held (H.Local 0)))) ∷ (on 7 (Statement-F.Alloc (Held (H.Local 1)) (Constant (pos 16)) Leaves)) ∷ (on 8
    (Statement-F.Pop (Constant (pos 1)))) ∷ (on 9 (Statement-F.Free (Held (H.Local 1)))) ∷ []))) ∷ []) [] [] 0

item_that_was_freed_by_hand_check : (required script_item_that_was_freed_by_hand_check 10000 (shaped 4096 4096) ≡ 176) × (rises
    script_item_that_was_freed_by_hand_check 10000 (shaped 4096 4096) ≡ (rise 1 144) ∷ (rise 2 176) ∷ []) × (length (runs_of Single
    script_item_that_was_freed_by_hand_check 10000 (shaped 4096 4096) 0).trace ≡ 3) × (least_bad_or_cut Single
    script_item_that_was_freed_by_hand_check 10000 (shaped 4096 4096) ≡ Some 3) × (runs_of Single script_item_that_was_freed_by_hand_check
    10000 (shaped 4096 4096) 3 ≡ result (Panicked (P.User 42)) ((line 1 144 0 Granted) ∷ (line 2 32 144 Granted) ∷ (line 3 32 144 Simulated)
    ∷ []) [] [] 5)
unfolding everything
item_that_was_freed_by_hand_check = (refl, refl, refl, refl, refl)

abbrev script_leak_that_needs_two_failures_sweep : Script
script_leak_that_needs_two_failures_sweep = script [] ((procedure 1 [] (body ((OfPointer None) ∷ (OfPointer None) ∷ (OfPointer None) ∷ [])
    ((on 5 (Statement-F.Alloc (Held (H.Local 0)) (Constant (pos 16)) GivesNull)) ∷ (on 6 (Statement-F.Alloc (Held (H.Local 1)) (Constant
    (pos 16)) GivesNull)) ∷ (on 7 (Statement-F.Alloc (Held (H.Local 2)) (Constant (pos 16)) GivesNull)) ∷ (on 8 (Statement-F.If (IsNull
    (Held (H.Local 0))) ((on 9 (Statement-F.If (IsNull (Held (H.Local 2))) ((on 10 (Statement-F.Leave (Constant (negsuc 3)))) ∷ []))) ∷
    []))) ∷ (on 13 (Statement-F.Free (Held (H.Local 0)))) ∷ (on 14 (Statement-F.Free (Held (H.Local 1)))) ∷ (on 15 (Statement-F.Free (Held
    (H.Local 2)))) ∷ []))) ∷ []) [] [] 0

leak_that_needs_two_failures_sweep : (length (runs_of Single script_leak_that_needs_two_failures_sweep 10000 (shaped 4096 4096) 0).trace ≡
    4) × (least_bad_or_cut Single script_leak_that_needs_two_failures_sweep 10000 (shaped 4096 4096) ≡ None)
unfolding everything
leak_that_needs_two_failures_sweep = (refl, refl)

abbrev script_leak_without_any_failure_sweep : Script
script_leak_without_any_failure_sweep = script [] ((procedure 1 [] (body ((OfPointer None) ∷ []) ((on 3 (Statement-F.Alloc (Held (H.Local
    0)) (Constant (pos 16)) GivesNull)) ∷ []))) ∷ []) [] [] 0

leak_without_any_failure_sweep : (length (runs_of Single script_leak_without_any_failure_sweep 10000 (shaped 4096 4096) 0).trace ≡ 2) ×
    (least_bad_or_cut Single script_leak_without_any_failure_sweep 10000 (shaped 4096 4096) ≡ Some 0) × (runs_of Single
    script_leak_without_any_failure_sweep 10000 (shaped 4096 4096) 0 ≡ result (Ended None ((leak 2 32 144) ∷ [])) ((line 1 144 0 Granted) ∷
    (line 2 32 144 Granted) ∷ []) [] [] 1)
unfolding everything
leak_without_any_failure_sweep = (refl, refl, refl)

abbrev script_leave_destroys_the_items_of_all_callees_sweep : Script
script_leave_destroys_the_items_of_all_callees_sweep = script [] ((procedure 1 [] (body ((OfPointer None) ∷ []) ((on 3 (Statement-F.Alloc
    (Held (H.Local 0)) (Constant (pos 16)) Leaves)) ∷ (on 4 (Statement-F.Push (Held (H.Local 0)))) ∷ (on 5 (Statement-F.Leave (Constant
    (negsuc 6)))) ∷ []))) ∷ (procedure 7 [] (body ((OfPointer None) ∷ []) ((on 9 (Statement-F.Alloc (Held (H.Local 0)) (Constant (pos 32))
    Leaves)) ∷ (on 10 (Statement-F.Push (Held (H.Local 0)))) ∷ (on 11 (Statement-F.Call 0 [])) ∷ (on 12 (Statement-F.PopDestroy (Constant
    (pos 1)))) ∷ []))) ∷ (procedure 14 [] (body ((OfPointer None) ∷ []) ((on 16 (Statement-F.Alloc (Held (H.Local 0)) (Constant (pos 48))
    Leaves)) ∷ (on 17 (Statement-F.Push (Held (H.Local 0)))) ∷ (on 18 (Statement-F.Call 1 [])) ∷ (on 19 (Statement-F.PopDestroy (Constant
    (pos 1)))) ∷ []))) ∷ (procedure 21 [] (body (OfNumber ∷ []) ((on 23 (Statement-F.Trap 0 ((on 24 (Statement-F.Call 2 [])) ∷ []))) ∷ (on
    26 (Statement-F.PrintNumber (Variable 0))) ∷ []))) ∷ []) [] [] 3

leave_destroys_the_items_of_all_callees_sweep : (length (runs_of Single script_leave_destroys_the_items_of_all_callees_sweep 10000 (shaped
    4096 4096) 0).trace ≡ 4) × (least_bad_or_cut Single script_leave_destroys_the_items_of_all_callees_sweep 10000 (shaped 4096 4096) ≡
    None)
unfolding everything
leave_destroys_the_items_of_all_callees_sweep = (refl, refl)

abbrev script_marks_never_count_the_cleanup_cell_check : Script
script_marks_never_count_the_cleanup_cell_check = script [] ((procedure 1 [] (body ((OfPointer None) ∷ []) ((on 3 Statement-F.Mark) ∷ (on 4
    (Statement-F.Repeat (Constant (pos 8)) ((on 5 (Statement-F.Push (Held (H.Local 0)))) ∷ []))) ∷ (on 7 (Statement-F.Pop (Constant (pos
    8)))) ∷ (on 8 (Statement-F.MarkEnd (Constant (pos 0)))) ∷ []))) ∷ []) [] [] 0

marks_never_count_the_cleanup_cell_check : (required script_marks_never_count_the_cleanup_cell_check 10000 (shaped 4096 4096) ≡ 208) ×
    (rises script_marks_never_count_the_cleanup_cell_check 10000 (shaped 4096 4096) ≡ (rise 1 144) ∷ (rise 2 208) ∷ []) × (length (runs_of
    Single script_marks_never_count_the_cleanup_cell_check 10000 (shaped 4096 4096) 0).trace ≡ 2) × (least_bad_or_cut Single
    script_marks_never_count_the_cleanup_cell_check 10000 (shaped 4096 4096) ≡ None)
unfolding everything
marks_never_count_the_cleanup_cell_check = (refl, refl, refl, refl)

abbrev script_next_push_asks_for_the_growth_again_check : Script
script_next_push_asks_for_the_growth_again_check = script [] ((procedure 1 [] (body ((OfPointer None) ∷ (OfPointer None) ∷ OfNumber ∷ [])
    ((on 5 (Statement-F.Repeat (Constant (pos 7)) ((on 6 (Statement-F.Push (Held (H.Local 1)))) ∷ []))) ∷ (on 8 (Statement-F.Alloc (Held
    (H.Local 0)) (Constant (pos 16)) GivesNull)) ∷ (on 9 (Statement-F.FailNext (Constant (pos 1)))) ∷ (on 10 (Statement-F.Trap 2 ((on 11
    (Statement-F.Push (Held (H.Local 0)))) ∷ []))) ∷ (on 13 (Statement-F.PrintNumber (Variable 2))) ∷ (on 14 (Statement-F.Alloc (Held
    (H.Local 0)) (Constant (pos 16)) GivesNull)) ∷ (on 15 (Statement-F.Push (Held (H.Local 0)))) ∷ (on 16 (Statement-F.PopDestroy (Constant
    (pos 1)))) ∷ (on 17 (Statement-F.Pop (Constant (pos 7)))) ∷ []))) ∷ []) [] [] 0

next_push_asks_for_the_growth_again_check : (required script_next_push_asks_for_the_growth_again_check 10000 (shaped 4096 4096) ≡ 384) ×
    (rises script_next_push_asks_for_the_growth_again_check 10000 (shaped 4096 4096) ≡ (rise 1 144) ∷ (rise 2 176) ∷ (rise 5 384) ∷ []) ×
    (length (runs_of Single script_next_push_asks_for_the_growth_again_check 10000 (shaped 4096 4096) 0).trace ≡ 5) × (least_bad_or_cut
    Single script_next_push_asks_for_the_growth_again_check 10000 (shaped 4096 4096) ≡ None)
unfolding everything
next_push_asks_for_the_growth_again_check = (refl, refl, refl, refl)

abbrev script_panic_without_any_failure_sweep : Script
script_panic_without_any_failure_sweep = script [] ((procedure 1 [] (body ((OfPointer None) ∷ (OfPointer None) ∷ []) ((on 4
    (Statement-F.Alloc (Held (H.Local 0)) (Constant (pos 16)) GivesNull)) ∷ (on 5 (Statement-F.Free (Held (H.Local 0)))) ∷ (on 6
    (Statement-F.Alloc (Held (H.Local 1)) (Constant (pos 16)) GivesNull)) ∷ (on 7 (Statement-F.Free (Held (H.Local 0)))) ∷ []))) ∷ []) [] []
    0

panic_without_any_failure_sweep : (length (runs_of Single script_panic_without_any_failure_sweep 10000 (shaped 4096 4096) 0).trace ≡ 3) ×
    (least_bad_or_cut Single script_panic_without_any_failure_sweep 10000 (shaped 4096 4096) ≡ Some 0) × (runs_of Single
    script_panic_without_any_failure_sweep 10000 (shaped 4096 4096) 0 ≡ result (Panicked (P.User 42)) ((line 1 144 0 Granted) ∷ (line 2 32
    144 Granted) ∷ (line 3 32 144 Granted) ∷ []) [] [] 4)
unfolding everything
panic_without_any_failure_sweep = (refl, refl, refl)

abbrev script_popped_item_of_a_refused_request_sweep : Script
script_popped_item_of_a_refused_request_sweep = script [] ((procedure 1 [] (body ((OfPointer None) ∷ (OfPointer None) ∷ []) ((on 4
    (Statement-F.Alloc (Held (H.Local 0)) (Constant (pos 16)) Leaves)) ∷ (on 5 (Statement-F.Push (Held (H.Local 0)))) ∷ (on 6
    (Statement-F.Pop (Constant (pos 1)))) ∷ (on 7 (Statement-F.Alloc (Held (H.Local 1)) (Constant (pos 16)) Leaves)) ∷ (on 8
    (Statement-F.Free (Held (H.Local 1)))) ∷ (on 9 (Statement-F.Free (Held (H.Local 0)))) ∷ []))) ∷ []) [] [] 0

popped_item_of_a_refused_request_sweep : (length (runs_of Single script_popped_item_of_a_refused_request_sweep 10000 (shaped 4096 4096)
    0).trace ≡ 3) × (least_bad_or_cut Single script_popped_item_of_a_refused_request_sweep 10000 (shaped 4096 4096) ≡ Some 3) × (runs_of
    Single script_popped_item_of_a_refused_request_sweep 10000 (shaped 4096 4096) 3 ≡ result (Ended (Some (negsuc 3)) ((leak 2 32 144) ∷
    [])) ((line 1 144 0 Granted) ∷ (line 2 32 144 Granted) ∷ (line 3 32 176 Simulated) ∷ []) [] [] 4)
unfolding everything
popped_item_of_a_refused_request_sweep = (refl, refl, refl)

abbrev script_procedure_returns_a_pushed_cell_check : Script
script_procedure_returns_a_pushed_cell_check = script [] ((procedure 1 (Par.OfNumber ∷ []) (body ((OfPointer None) ∷ []) ((on 3
    (Statement-F.Alloc (Held (H.Local 1)) (Variable 0) Leaves)) ∷ (on 4 (Statement-F.Push (Held (H.Local 1)))) ∷ (on 5
    (Statement-F.ReturnPointer (Held (H.Local 1)))) ∷ []))) ∷ (procedure 7 [] (body ((OfPointer None) ∷ []) ((on 9 (Statement-F.CallTo 0 0
    ((Given (Constant (pos 40))) ∷ []))) ∷ (on 10 (Statement-F.PopDestroy (Constant (pos 1)))) ∷ []))) ∷ []) [] [] 1

procedure_returns_a_pushed_cell_check : (required script_procedure_returns_a_pushed_cell_check 10000 (shaped 4096 4096) ≡ 208) × (rises
    script_procedure_returns_a_pushed_cell_check 10000 (shaped 4096 4096) ≡ (rise 1 144) ∷ (rise 2 208) ∷ []) × (length (runs_of Single
    script_procedure_returns_a_pushed_cell_check 10000 (shaped 4096 4096) 0).trace ≡ 2) × (least_bad_or_cut Single
    script_procedure_returns_a_pushed_cell_check 10000 (shaped 4096 4096) ≡ None)
unfolding everything
procedure_returns_a_pushed_cell_check = (refl, refl, refl, refl)

abbrev script_push_that_the_script_refuses_destroys_its_own_item_sweep : Script
script_push_that_the_script_refuses_destroys_its_own_item_sweep = script [] ((procedure 1 [] (body ((OfPointer None) ∷ (OfPointer None) ∷
    OfNumber ∷ []) ((on 5 (Statement-F.Alloc (Held (H.Local 0)) (Constant (pos 16)) GivesNull)) ∷ (on 6 (Statement-F.FailNext (Constant (pos
    1)))) ∷ (on 7 (Statement-F.Trap 2 ((on 8 (Statement-F.Repeat (Constant (pos 7)) ((on 9 (Statement-F.Push (Held (H.Local 1)))) ∷ []))) ∷
    (on 11 (Statement-F.Push (Held (H.Local 0)))) ∷ []))) ∷ (on 13 (Statement-F.PrintNumber (Variable 2))) ∷ (on 14 (Statement-F.Free (Held
    (H.Local 0)))) ∷ []))) ∷ []) [] [] 0

push_that_the_script_refuses_destroys_its_own_item_sweep : (length (runs_of Single
    script_push_that_the_script_refuses_destroys_its_own_item_sweep 10000 (shaped 4096 4096) 0).trace ≡ 3) × (least_bad_or_cut Single
    script_push_that_the_script_refuses_destroys_its_own_item_sweep 10000 (shaped 4096 4096) ≡ Some 0) × (runs_of Single
    script_push_that_the_script_refuses_destroys_its_own_item_sweep 10000 (shaped 4096 4096) 0 ≡ result (Panicked (P.User 42)) ((line 1 144
    0 Granted) ∷ (line 2 32 144 Granted) ∷ (line 3 208 176 Simulated) ∷ []) ((45 ∷ 52 ∷ []) ∷ []) [] 29)
unfolding everything
push_that_the_script_refuses_destroys_its_own_item_sweep = (refl, refl, refl)

abbrev script_pushed_object_survives_every_failure_sweep : Script
script_pushed_object_survives_every_failure_sweep = script ((class_of 1 16 (None ∷ []) (Some (body [] ((on 4 (Statement-F.NewText (Field
    H.This 0 0) (Constant (pos 4)) Leaves)) ∷ []))) (Some (body [] ((on 7 (Statement-F.Free (Field H.This 0 0))) ∷ [])))) ∷ []) ((procedure
    10 [] (body ((OfPointer (Some 0)) ∷ []) ((on 12 (Statement-F.New (Held (H.Local 0)) 0 Leaves)) ∷ (on 13 (Statement-F.PushObject (Held
    (H.Local 0)))) ∷ (on 14 (Statement-F.Construct (Held (H.Local 0)))) ∷ (on 15 (Statement-F.Pop (Constant (pos 1)))) ∷ (on 16
    (Statement-F.Delete (Held (H.Local 0)))) ∷ []))) ∷ []) [] [] 0

pushed_object_survives_every_failure_sweep : (length (runs_of Single script_pushed_object_survives_every_failure_sweep 10000 (shaped 4096
    4096) 0).trace ≡ 3) × (least_bad_or_cut Single script_pushed_object_survives_every_failure_sweep 10000 (shaped 4096 4096) ≡ None)
unfolding everything
pushed_object_survives_every_failure_sweep = (refl, refl)

abbrev script_retry_that_fails_again_sweep : Script
script_retry_that_fails_again_sweep = script [] ((procedure 1 [] (body ((OfPointer None) ∷ (OfPointer None) ∷ []) ((on 4 (Statement-F.Alloc
    (Held (H.Local 1)) (Constant (pos 16)) GivesNull)) ∷ (on 5 (Statement-F.Alloc (Held (H.Local 0)) (Constant (pos 16)) GivesNull)) ∷ (on 6
    (Statement-F.If (IsNull (Held (H.Local 0))) ((on 7 (Statement-F.Alloc (Held (H.Local 0)) (Constant (pos 16)) GivesNull)) ∷ (on 8
    (Statement-F.If (IsNull (Held (H.Local 0))) ((on 9 (Statement-F.Leave (Constant (negsuc 3)))) ∷ []))) ∷ []))) ∷ (on 12 (Statement-F.Free
    (Held (H.Local 0)))) ∷ (on 13 (Statement-F.Free (Held (H.Local 1)))) ∷ []))) ∷ []) [] [] 0

retry_that_fails_again_sweep : (length (runs_of Single script_retry_that_fails_again_sweep 10000 (shaped 4096 4096) 0).trace ≡ 3) ×
    (least_bad_or_cut Single script_retry_that_fails_again_sweep 10000 (shaped 4096 4096) ≡ None)
unfolding everything
retry_that_fails_again_sweep = (refl, refl)

abbrev script_stack_that_moves_check : Script
script_stack_that_moves_check = script [] ((procedure 1 [] (body ((OfPointer None) ∷ (OfPointer None) ∷ (OfPointer None) ∷ []) ((on 5
    (Statement-F.Alloc (Held (H.Local 0)) (Constant (pos 16)) GivesNull)) ∷ (on 6 (Statement-F.Repeat (Constant (pos 8)) ((on 7
    (Statement-F.Push (Held (H.Local 2)))) ∷ []))) ∷ (on 9 Statement-F.NoteHeap) ∷ (on 10 Statement-F.NoteAvailable) ∷ (on 11
    (Statement-F.Alloc (Held (H.Local 1)) (Constant (pos 112)) GivesNull)) ∷ (on 12 (Statement-F.Repeat (Constant (pos 4)) ((on 13
    (Statement-F.Push (Held (H.Local 2)))) ∷ []))) ∷ (on 15 Statement-F.NoteHeap) ∷ (on 16 Statement-F.NoteAvailable) ∷ (on 17
    (Statement-F.Pop (Constant (pos 12)))) ∷ (on 18 (Statement-F.Free (Held (H.Local 0)))) ∷ (on 19 (Statement-F.Free (Held (H.Local 1)))) ∷
    []))) ∷ []) [] [] 0

stack_that_moves_check : (required script_stack_that_moves_check 10000 (shaped 4096 4096) ≡ 448) × (rises script_stack_that_moves_check
    10000 (shaped 4096 4096) ≡ (rise 1 144) ∷ (rise 2 176) ∷ (rise 3 384) ∷ (rise 5 448) ∷ []) × (length (runs_of Single
    script_stack_that_moves_check 10000 (shaped 4096 4096) 0).trace ≡ 5) × (least_bad_or_cut Single script_stack_that_moves_check 10000
    (shaped 4096 4096) ≡ Some 3) × (runs_of Single script_stack_that_moves_check 10000 (shaped 4096 4096) 3 ≡ result (Ended (Some (negsuc
    3)) ((leak 2 32 144) ∷ [])) ((line 1 144 0 Granted) ∷ (line 2 32 144 Granted) ∷ (line 3 208 176 Simulated) ∷ []) [] [] 26)
unfolding everything
stack_that_moves_check = (refl, refl, refl, refl, refl)

abbrev script_top_cell_grows_in_place_check : Script
script_top_cell_grows_in_place_check = script [] ((procedure 1 [] (body ((OfPointer None) ∷ (OfPointer None) ∷ (OfPointer None) ∷ []) ((on 5
    (Statement-F.Alloc (Held (H.Local 0)) (Constant (pos 48)) GivesNull)) ∷ (on 6 (Statement-F.Alloc (Held (H.Local 1)) (Constant (pos 16))
    GivesNull)) ∷ (on 7 (Statement-F.Free (Held (H.Local 0)))) ∷ (on 8 (Statement-F.Realloc (Held (H.Local 2)) (Held (H.Local 1)) (Constant
    (pos 48)) GivesNull)) ∷ (on 9 (Statement-F.IfElse (IsNull (Held (H.Local 2))) ((on 10 (Statement-F.Free (Held (H.Local 1)))) ∷ []) ((on
    12 (Statement-F.Free (Held (H.Local 2)))) ∷ []))) ∷ []))) ∷ []) [] [] 0

top_cell_grows_in_place_check : (required script_top_cell_grows_in_place_check 10000 (shaped 4096 4096) ≡ 272) × (rises
    script_top_cell_grows_in_place_check 10000 (shaped 4096 4096) ≡ (rise 1 144) ∷ (rise 2 208) ∷ (rise 3 240) ∷ (rise 4 272) ∷ []) ×
    (length (runs_of Single script_top_cell_grows_in_place_check 10000 (shaped 4096 4096) 0).trace ≡ 4) × (least_bad_or_cut Single
    script_top_cell_grows_in_place_check 10000 (shaped 4096 4096) ≡ None)
unfolding everything
top_cell_grows_in_place_check = (refl, refl, refl, refl)

abbrev script_unpushed_object_leaks_when_construction_fails_check : Script
script_unpushed_object_leaks_when_construction_fails_check = script ((class_of 1 16 (None ∷ []) (Some (body [] ((on 4 (Statement-F.NewText
    (Field H.This 0 0) (Constant (pos 4)) Leaves)) ∷ []))) (Some (body [] ((on 7 (Statement-F.Free (Field H.This 0 0))) ∷ [])))) ∷ [])
    ((procedure 10 [] (body ((OfPointer (Some 0)) ∷ []) ((on 12 (Statement-F.New (Held (H.Local 0)) 0 Leaves)) ∷ (on 13
    (Statement-F.Construct (Held (H.Local 0)))) ∷ (on 14 (Statement-F.Delete (Held (H.Local 0)))) ∷ []))) ∷ []) [] [] 0

unpushed_object_leaks_when_construction_fails_check : (required script_unpushed_object_leaks_when_construction_fails_check 10000 (shaped
    4096 4096) ≡ 224) × (rises script_unpushed_object_leaks_when_construction_fails_check 10000 (shaped 4096 4096) ≡ (rise 1 144) ∷ (rise 2
    192) ∷ (rise 3 224) ∷ []) × (length (runs_of Single script_unpushed_object_leaks_when_construction_fails_check 10000 (shaped 4096 4096)
    0).trace ≡ 3) × (least_bad_or_cut Single script_unpushed_object_leaks_when_construction_fails_check 10000 (shaped 4096 4096) ≡ Some 3) ×
    (runs_of Single script_unpushed_object_leaks_when_construction_fails_check 10000 (shaped 4096 4096) 3 ≡ result (Ended (Some (negsuc 3))
    ((leak 2 48 144) ∷ [])) ((line 1 144 0 Granted) ∷ (line 2 48 144 Granted) ∷ (line 3 32 192 Simulated) ∷ []) [] [] 3)
unfolding everything
unpushed_object_leaks_when_construction_fails_check = (refl, refl, refl, refl, refl)

abbrev script_unpushed_object_leaks_when_construction_fails_sweep : Script
script_unpushed_object_leaks_when_construction_fails_sweep = script ((class_of 1 16 (None ∷ []) (Some (body [] ((on 4 (Statement-F.NewText
    (Field H.This 0 0) (Constant (pos 4)) Leaves)) ∷ []))) (Some (body [] ((on 7 (Statement-F.Free (Field H.This 0 0))) ∷ [])))) ∷ [])
    ((procedure 10 [] (body ((OfPointer (Some 0)) ∷ []) ((on 12 (Statement-F.New (Held (H.Local 0)) 0 Leaves)) ∷ (on 13
    (Statement-F.Construct (Held (H.Local 0)))) ∷ (on 14 (Statement-F.Delete (Held (H.Local 0)))) ∷ []))) ∷ []) [] [] 0

unpushed_object_leaks_when_construction_fails_sweep : (length (runs_of Single script_unpushed_object_leaks_when_construction_fails_sweep
    10000 (shaped 4096 4096) 0).trace ≡ 3) × (least_bad_or_cut Single script_unpushed_object_leaks_when_construction_fails_sweep 10000
    (shaped 4096 4096) ≡ Some 3) × (runs_of Single script_unpushed_object_leaks_when_construction_fails_sweep 10000 (shaped 4096 4096) 3 ≡
    result (Ended (Some (negsuc 3)) ((leak 2 48 144) ∷ [])) ((line 1 144 0 Granted) ∷ (line 2 48 144 Granted) ∷ (line 3 32 192 Simulated) ∷
    []) [] [] 3)
unfolding everything
unpushed_object_leaks_when_construction_fails_sweep = (refl, refl, refl)
