-- Worked cases of `idioms`, each by computing. Written by tools/cases_to_theorems.py; edit nothing here.
use Rattle.std.specs.Prelude.{◌≡◌, refl, pos, negsuc, [], ◌∷◌, length, Some, None}
use Rattle.wb_runs.specs.declared.failures.Failures.TheVariants.{Single}
use Rattle.wb_heap_model.specs.declared.heap.Rule.TheVariants as R
use Rattle.wb_tree.specs.declared.script.Holder.TheVariants as H
use Rattle.wb_heap_model.specs.declared.heap.Answer.TheVariants.{Granted, Simulated}
use Rattle.wb_meaning.specs.declared.run.Outcome.TheVariants.{Ended}
use Rattle.wb_tree.specs.declared.script.Script.{Script}
use Rattle.wb_tree.specs.declared.script.Parameter.TheVariants as Par
use Rattle.wb_tree.specs.declared.script.Local.TheVariants.{OfPointer, OfNumber}
use Rattle.wb_tree.specs.declared.script.Pointer.TheVariants.{Held, Field}
use Rattle.wb_tree.specs.declared.script.Number.TheVariants.{Constant, Variable}
use Rattle.wb_tree.specs.declared.script.Readable.TheVariants.{Quoted}
use Rattle.wb_tree.specs.declared.script.Condition.TheVariants.{IsNull, Equal, Less}
use Rattle.wb_tree.specs.declared.script.Argument.TheVariants.{Passed}
use Rattle.wb_tree.specs.declared.script.Refusal.TheVariants.{GivesNull, Leaves}
use Rattle.wb_tree.specs.declared.script.Statement.TheOpen.{Statement-F}
use Rattle.wb_meaning.specs.Run.{run, required, rises}
use Rattle.wb_runs.specs.Sweeps.{runs_of, least_bad_or_cut}
use Rattle.wb_worked.specs.Shorthands.{everything, on, script, class_of, procedure, operation, body, result, leak, shaped, line, rise}

abbrev script_base_construct_check : Script
script_base_construct_check = script ((class_of 2 4 (None ∷ None ∷ []) (Some (body [] ((on 6 (Statement-F.Call 0 ((Passed (Held H.This)) ∷
    []))) ∷ (on 7 (Statement-F.Alloc (Field H.This 0 1) (Constant (pos 40)) Leaves)) ∷ []))) (Some (body [] ((on 10 (Statement-F.Free (Field
    H.This 0 1))) ∷ (on 11 (Statement-F.Free (Field H.This 0 0))) ∷ [])))) ∷ []) ((procedure 15 ((Par.OfPointer (Some 0)) ∷ []) (body []
    ((on 16 (Statement-F.NewText (Field (H.Local 0) 0 0) (Constant (pos 16)) Leaves)) ∷ []))) ∷ (procedure 19 [] (body ((OfPointer (Some 0))
    ∷ []) ((on 21 (Statement-F.New (Held (H.Local 0)) 0 Leaves)) ∷ (on 22 (Statement-F.PushObject (Held (H.Local 0)))) ∷ (on 23
    (Statement-F.Construct (Held (H.Local 0)))) ∷ (on 24 (Statement-F.PopDestroy (Constant (pos 1)))) ∷ []))) ∷ []) [] [] 1

base_construct_check : (required script_base_construct_check 10000 (shaped 4096 4096) ≡ 320) × (rises script_base_construct_check 10000
    (shaped 4096 4096) ≡ (rise 1 144) ∷ (rise 2 192) ∷ (rise 3 256) ∷ (rise 4 320) ∷ []) × (length (runs_of Single
    script_base_construct_check 10000 (shaped 4096 4096) 0).trace ≡ 4) × (least_bad_or_cut Single script_base_construct_check 10000 (shaped
    4096 4096) ≡ None)
unfolding everything
base_construct_check = (refl, refl, refl, refl)

abbrev script_cache_freed_for_a_second_try_check : Script
script_cache_freed_for_a_second_try_check = script [] ((procedure 2 [] (body ((OfPointer None) ∷ (OfPointer None) ∷ []) ((on 5
    (Statement-F.Alloc (Held (H.Local 0)) (Constant (pos 1000)) GivesNull)) ∷ (on 6 (Statement-F.Alloc (Held (H.Local 1)) (Constant (pos
    2000)) GivesNull)) ∷ (on 7 (Statement-F.If (IsNull (Held (H.Local 1))) ((on 8 (Statement-F.Free (Held (H.Local 0)))) ∷ (on 9
    (Statement-F.SetNull (Held (H.Local 0)))) ∷ (on 10 (Statement-F.Alloc (Held (H.Local 1)) (Constant (pos 2000)) Leaves)) ∷ []))) ∷ (on 12
    (Statement-F.Free (Held (H.Local 1)))) ∷ (on 13 (Statement-F.Free (Held (H.Local 0)))) ∷ []))) ∷ []) [] [] 0

cache_freed_for_a_second_try_check : (required script_cache_freed_for_a_second_try_check 10000 (shaped 4096 4096) ≡ 3184) × (rises
    script_cache_freed_for_a_second_try_check 10000 (shaped 4096 4096) ≡ (rise 1 144) ∷ (rise 2 1168) ∷ (rise 3 3184) ∷ []) × (length
    (runs_of Single script_cache_freed_for_a_second_try_check 10000 (shaped 4096 4096) 0).trace ≡ 3) × (least_bad_or_cut Single
    script_cache_freed_for_a_second_try_check 10000 (shaped 4096 4096) ≡ None)
unfolding everything
cache_freed_for_a_second_try_check = (refl, refl, refl, refl)

abbrev script_commit_and_rollback_check : Script
script_commit_and_rollback_check = script [] ((procedure 7 ((Par.OfPointer None) ∷ []) (body ((OfPointer None) ∷ []) ((on 9
    (Statement-F.Store (Held (H.Local 0)) (Constant (pos 0)) (Constant (pos 1)))) ∷ (on 10 (Statement-F.PushOperation (Held (H.Local 0)) 0))
    ∷ (on 11 (Statement-F.NewText (Held (H.Local 1)) (Constant (pos 20)) Leaves)) ∷ (on 12 (Statement-F.Free (Held (H.Local 1)))) ∷ (on 13
    (Statement-F.Store (Held (H.Local 0)) (Constant (pos 0)) (Constant (pos 2)))) ∷ (on 14 (Statement-F.PopCheck (Held (H.Local 0)))) ∷
    []))) ∷ (procedure 17 [] (body ((OfPointer None) ∷ OfNumber ∷ OfNumber ∷ []) ((on 21 (Statement-F.Alloc (Held (H.Local 0)) (Constant
    (pos 8)) Leaves)) ∷ (on 22 (Statement-F.Push (Held (H.Local 0)))) ∷ (on 23 (Statement-F.Trap 2 ((on 24 (Statement-F.Call 0 ((Passed
    (Held (H.Local 0))) ∷ []))) ∷ []))) ∷ (on 26 (Statement-F.Load 1 (Held (H.Local 0)) (Constant (pos 0)))) ∷ (on 27
    (Statement-F.PrintNumber (Variable 1))) ∷ (on 28 (Statement-F.PopDestroy (Constant (pos 1)))) ∷ []))) ∷ []) ((operation 2 (body [] ((on
    3 (Statement-F.Store (Held (H.Local 0)) (Constant (pos 0)) (Constant (pos 0)))) ∷ (on 4 (Statement-F.PrintText (Quoted 0))) ∷ []))) ∷
    []) ((114 ∷ 111 ∷ 108 ∷ 108 ∷ 101 ∷ 100 ∷ 32 ∷ 98 ∷ 97 ∷ 99 ∷ 107 ∷ []) ∷ []) 1

commit_and_rollback_check : (required script_commit_and_rollback_check 10000 (shaped 4096 4096) ≡ 240) × (rises
    script_commit_and_rollback_check 10000 (shaped 4096 4096) ≡ (rise 1 144) ∷ (rise 2 176) ∷ (rise 3 240) ∷ []) × (length (runs_of Single
    script_commit_and_rollback_check 10000 (shaped 4096 4096) 0).trace ≡ 3) × (least_bad_or_cut Single script_commit_and_rollback_check
    10000 (shaped 4096 4096) ≡ None)
unfolding everything
commit_and_rollback_check = (refl, refl, refl, refl)

abbrev script_failnext_loop_check : Script
script_failnext_loop_check = script [] ((procedure 2 [] (body ((OfPointer None) ∷ (OfPointer None) ∷ []) ((on 5 (Statement-F.Alloc (Held
    (H.Local 0)) (Constant (pos 40)) Leaves)) ∷ (on 6 (Statement-F.Push (Held (H.Local 0)))) ∷ (on 7 (Statement-F.NewText (Held (H.Local 1))
    (Constant (pos 8)) Leaves)) ∷ (on 8 (Statement-F.Push (Held (H.Local 1)))) ∷ (on 9 (Statement-F.PopDestroy (Constant (pos 2)))) ∷ [])))
    ∷ (procedure 12 [] (body (OfNumber ∷ OfNumber ∷ []) ((on 15 (Statement-F.SetNumber 1 (Constant (negsuc 3)))) ∷ (on 16
    (Statement-F.Repeat (Constant (pos 20)) ((on 17 (Statement-F.If (Equal (Variable 1) (Constant (negsuc 3))) ((on 18 (Statement-F.Add 0
    (Constant (pos 1)))) ∷ (on 19 Statement-F.Mark) ∷ (on 20 (Statement-F.FailNext (Variable 0))) ∷ (on 21 (Statement-F.Trap 1 ((on 22
    (Statement-F.Call 0 [])) ∷ []))) ∷ (on 24 Statement-F.FailNone) ∷ (on 25 (Statement-F.MarkEnd (Constant (pos 0)))) ∷ []))) ∷ []))) ∷ (on
    29 (Statement-F.If (Less (Variable 1) (Constant (pos 0))) ((on 30 (Statement-F.Leave (Variable 1))) ∷ []))) ∷ (on 32
    (Statement-F.PrintNumber (Variable 0))) ∷ []))) ∷ []) [] [] 1

failnext_loop_check : (required script_failnext_loop_check 10000 (shaped 4096 4096) ≡ 256) × (rises script_failnext_loop_check 10000 (shaped
    4096 4096) ≡ (rise 1 144) ∷ (rise 3 208) ∷ (rise 6 256) ∷ []) × (length (runs_of Single script_failnext_loop_check 10000 (shaped 4096
    4096) 0).trace ≡ 6) × (least_bad_or_cut Single script_failnext_loop_check 10000 (shaped 4096 4096) ≡ None)
unfolding everything
failnext_loop_check = (refl, refl, refl, refl)

abbrev script_file_in_a_cell_check : Script
script_file_in_a_cell_check = script [] ((procedure 11 [] (body ((OfPointer None) ∷ (OfPointer None) ∷ []) ((on 14 (Statement-F.Alloc (Held
    (H.Local 0)) (Constant (pos 8)) Leaves)) ∷ (on 15 (Statement-F.PushOperation (Held (H.Local 0)) 0)) ∷ (on 16 (Statement-F.Store (Held
    (H.Local 0)) (Constant (pos 0)) (Constant (pos 1)))) ∷ (on 17 (Statement-F.NewText (Held (H.Local 1)) (Constant (pos 50)) Leaves)) ∷ (on
    18 (Statement-F.Free (Held (H.Local 1)))) ∷ (on 19 (Statement-F.PopDestroy (Constant (pos 1)))) ∷ []))) ∷ []) ((operation 2 (body
    (OfNumber ∷ []) ((on 4 (Statement-F.Load 1 (Held (H.Local 0)) (Constant (pos 0)))) ∷ (on 5 (Statement-F.If (Less (Constant (pos 0))
    (Variable 1)) ((on 6 (Statement-F.PrintText (Quoted 0))) ∷ []))) ∷ (on 8 (Statement-F.Free (Held (H.Local 0)))) ∷ []))) ∷ []) ((99 ∷ 108
    ∷ 111 ∷ 115 ∷ 101 ∷ 100 ∷ []) ∷ []) 0

file_in_a_cell_check : (required script_file_in_a_cell_check 10000 (shaped 4096 4096) ≡ 304) × (rises script_file_in_a_cell_check 10000
    (shaped 4096 4096) ≡ (rise 1 144) ∷ (rise 2 176) ∷ (rise 3 304) ∷ []) × (length (runs_of Single script_file_in_a_cell_check 10000
    (shaped 4096 4096) 0).trace ≡ 3) × (least_bad_or_cut Single script_file_in_a_cell_check 10000 (shaped 4096 4096) ≡ None)
unfolding everything
file_in_a_cell_check = (refl, refl, refl, refl)

abbrev script_file_without_a_cell_check : Script
script_file_without_a_cell_check = script [] ((procedure 6 [] (body ((OfPointer None) ∷ (OfPointer None) ∷ []) ((on 9
    (Statement-F.PushOperation (Held (H.Local 0)) 0)) ∷ (on 10 (Statement-F.NewText (Held (H.Local 1)) (Constant (pos 50)) Leaves)) ∷ (on 11
    (Statement-F.Free (Held (H.Local 1)))) ∷ (on 12 (Statement-F.PopDestroy (Constant (pos 1)))) ∷ []))) ∷ []) ((operation 2 (body [] ((on 3
    (Statement-F.PrintText (Quoted 0))) ∷ []))) ∷ []) ((99 ∷ 108 ∷ 111 ∷ 115 ∷ 101 ∷ 100 ∷ []) ∷ []) 0

file_without_a_cell_check : (required script_file_without_a_cell_check 10000 (shaped 4096 4096) ≡ 272) × (rises
    script_file_without_a_cell_check 10000 (shaped 4096 4096) ≡ (rise 1 144) ∷ (rise 2 272) ∷ []) × (length (runs_of Single
    script_file_without_a_cell_check 10000 (shaped 4096 4096) 0).trace ≡ 2) × (least_bad_or_cut Single script_file_without_a_cell_check
    10000 (shaped 4096 4096) ≡ None)
unfolding everything
file_without_a_cell_check = (refl, refl, refl, refl)

abbrev script_function_that_returns_a_count_check : Script
script_function_that_returns_a_count_check = script [] ((procedure 2 ((Par.OfPointer None) ∷ []) (body (OfNumber ∷ []) ((on 4
    (Statement-F.Load 1 (Held (H.Local 0)) (Constant (pos 0)))) ∷ (on 5 (Statement-F.Leave (Variable 1))) ∷ []))) ∷ (procedure 8 [] (body
    ((OfPointer None) ∷ OfNumber ∷ []) ((on 11 (Statement-F.Alloc (Held (H.Local 0)) (Constant (pos 40)) Leaves)) ∷ (on 12
    (Statement-F.Store (Held (H.Local 0)) (Constant (pos 0)) (Constant (pos 3)))) ∷ (on 13 (Statement-F.Trap 1 ((on 14 (Statement-F.Call 0
    ((Passed (Held (H.Local 0))) ∷ []))) ∷ []))) ∷ (on 16 (Statement-F.PrintNumber (Variable 1))) ∷ (on 17 (Statement-F.Free (Held (H.Local
    0)))) ∷ []))) ∷ []) [] [] 1

function_that_returns_a_count_check : (required script_function_that_returns_a_count_check 10000 (shaped 4096 4096) ≡ 208) × (rises
    script_function_that_returns_a_count_check 10000 (shaped 4096 4096) ≡ (rise 1 144) ∷ (rise 2 208) ∷ []) × (length (runs_of Single
    script_function_that_returns_a_count_check 10000 (shaped 4096 4096) 0).trace ≡ 2) × (least_bad_or_cut Single
    script_function_that_returns_a_count_check 10000 (shaped 4096 4096) ≡ None)
unfolding everything
function_that_returns_a_count_check = (refl, refl, refl, refl)

abbrev script_function_that_returns_an_error_code_check : Script
script_function_that_returns_an_error_code_check = script [] ((procedure 2 ((Par.OfPointer None) ∷ []) (body ((OfPointer None) ∷ []) ((on 4
    (Statement-F.Alloc (Held (H.Local 1)) (Constant (pos 200)) GivesNull)) ∷ (on 5 (Statement-F.If (IsNull (Held (H.Local 1))) ((on 7
    (Statement-F.Leave (Constant (negsuc 3)))) ∷ []))) ∷ (on 9 (Statement-F.Free (Held (H.Local 1)))) ∷ (on 10 (Statement-F.Store (Held
    (H.Local 0)) (Constant (pos 0)) (Constant (pos 1)))) ∷ []))) ∷ (procedure 13 [] (body ((OfPointer None) ∷ OfNumber ∷ []) ((on 16
    (Statement-F.Alloc (Held (H.Local 0)) (Constant (pos 16)) Leaves)) ∷ (on 17 (Statement-F.Push (Held (H.Local 0)))) ∷ (on 18
    (Statement-F.Trap 1 ((on 19 (Statement-F.Call 0 ((Passed (Held (H.Local 0))) ∷ []))) ∷ []))) ∷ (on 21 (Statement-F.LeaveIfError
    (Variable 1))) ∷ (on 22 (Statement-F.PopDestroy (Constant (pos 1)))) ∷ []))) ∷ []) [] [] 1

function_that_returns_an_error_code_check : (required script_function_that_returns_an_error_code_check 10000 (shaped 4096 4096) ≡ 400) ×
    (rises script_function_that_returns_an_error_code_check 10000 (shaped 4096 4096) ≡ (rise 1 144) ∷ (rise 2 176) ∷ (rise 3 400) ∷ []) ×
    (length (runs_of Single script_function_that_returns_an_error_code_check 10000 (shaped 4096 4096) 0).trace ≡ 3) × (least_bad_or_cut
    Single script_function_that_returns_an_error_code_check 10000 (shaped 4096 4096) ≡ None)
unfolding everything
function_that_returns_an_error_code_check = (refl, refl, refl, refl)

abbrev script_grown_while_pushed_check : Script
script_grown_while_pushed_check = script ((class_of 2 0 (None ∷ []) None (Some (body [] ((on 5 (Statement-F.Free (Field H.This 0 0))) ∷
    [])))) ∷ []) ((procedure 9 [] (body ((OfPointer (Some 0)) ∷ (OfPointer None) ∷ []) ((on 12 (Statement-F.New (Held (H.Local 0)) 0
    Leaves)) ∷ (on 13 (Statement-F.PushObject (Held (H.Local 0)))) ∷ (on 14 (Statement-F.Alloc (Held (H.Local 1)) (Constant (pos 16))
    Leaves)) ∷ (on 15 (Statement-F.Push (Held (H.Local 1)))) ∷ (on 16 (Statement-F.NewText (Field (H.Local 0) 0 0) (Constant (pos 8))
    Leaves)) ∷ (on 17 (Statement-F.Realloc (Held (H.Local 1)) (Held (H.Local 1)) (Constant (pos 100)) Leaves)) ∷ (on 18 (Statement-F.Pop
    (Constant (pos 1)))) ∷ (on 19 (Statement-F.Push (Held (H.Local 1)))) ∷ (on 20 (Statement-F.PopDestroy (Constant (pos 2)))) ∷ []))) ∷ [])
    [] [] 0

grown_while_pushed_check : (required script_grown_while_pushed_check 10000 (shaped 4096 4096) ≡ 384) × (rises
    script_grown_while_pushed_check 10000 (shaped 4096 4096) ≡ (rise 1 144) ∷ (rise 2 176) ∷ (rise 3 208) ∷ (rise 4 256) ∷ (rise 5 384) ∷
    []) × (length (runs_of Single script_grown_while_pushed_check 10000 (shaped 4096 4096) 0).trace ≡ 5) × (least_bad_or_cut Single
    script_grown_while_pushed_check 10000 (shaped 4096 4096) ≡ None)
unfolding everything
grown_while_pushed_check = (refl, refl, refl, refl)

abbrev script_leave_if_null_check : Script
script_leave_if_null_check = script [] ((procedure 2 [] (body ((OfPointer None) ∷ (OfPointer None) ∷ []) ((on 5 (Statement-F.Alloc (Held
    (H.Local 0)) (Constant (pos 40)) GivesNull)) ∷ (on 6 (Statement-F.LeaveIfNull (Held (H.Local 0)))) ∷ (on 7 (Statement-F.Push (Held
    (H.Local 0)))) ∷ (on 8 (Statement-F.Alloc (Held (H.Local 1)) (Constant (pos 20)) GivesNull)) ∷ (on 9 (Statement-F.LeaveIfNull (Held
    (H.Local 1)))) ∷ (on 10 (Statement-F.Free (Held (H.Local 1)))) ∷ (on 11 (Statement-F.PopDestroy (Constant (pos 1)))) ∷ []))) ∷ []) [] []
    0

leave_if_null_check : (required script_leave_if_null_check 10000 (shaped 4096 4096) ≡ 256) × (rises script_leave_if_null_check 10000 (shaped
    4096 4096) ≡ (rise 1 144) ∷ (rise 2 208) ∷ (rise 3 256) ∷ []) × (length (runs_of Single script_leave_if_null_check 10000 (shaped 4096
    4096) 0).trace ≡ 3) × (least_bad_or_cut Single script_leave_if_null_check 10000 (shaped 4096 4096) ≡ None)
unfolding everything
leave_if_null_check = (refl, refl, refl, refl)

abbrev script_member_by_newl_check : Script
script_member_by_newl_check = script ((class_of 2 0 (None ∷ []) (Some (body [] ((on 5 (Statement-F.Alloc (Field H.This 0 0) (Constant (pos
    64)) Leaves)) ∷ []))) (Some (body [] ((on 8 (Statement-F.Free (Field H.This 0 0))) ∷ [])))) ∷ (class_of 12 0 ((Some 0) ∷ []) (Some (body
    ((OfPointer (Some 0)) ∷ []) ((on 16 (Statement-F.CallTo 0 0 [])) ∷ (on 17 (Statement-F.Set (Field H.This 1 0) (Held (H.Local 0)))) ∷
    []))) (Some (body [] ((on 20 (Statement-F.Delete (Field H.This 1 0))) ∷ [])))) ∷ []) ((procedure 24 [] (body ((OfPointer (Some 0)) ∷ [])
    ((on 26 (Statement-F.New (Held (H.Local 0)) 0 Leaves)) ∷ (on 27 (Statement-F.PushObject (Held (H.Local 0)))) ∷ (on 28
    (Statement-F.Construct (Held (H.Local 0)))) ∷ (on 29 (Statement-F.PopCheck (Held (H.Local 0)))) ∷ (on 30 (Statement-F.ReturnPointer
    (Held (H.Local 0)))) ∷ []))) ∷ (procedure 33 [] (body ((OfPointer (Some 1)) ∷ []) ((on 35 (Statement-F.New (Held (H.Local 0)) 1 Leaves))
    ∷ (on 36 (Statement-F.PushObject (Held (H.Local 0)))) ∷ (on 37 (Statement-F.Construct (Held (H.Local 0)))) ∷ (on 38
    (Statement-F.PopDestroy (Constant (pos 1)))) ∷ []))) ∷ []) [] [] 1

member_by_newl_check : (required script_member_by_newl_check 10000 (shaped 4096 4096) ≡ 288) × (rises script_member_by_newl_check 10000
    (shaped 4096 4096) ≡ (rise 1 144) ∷ (rise 2 176) ∷ (rise 3 208) ∷ (rise 4 288) ∷ []) × (length (runs_of Single
    script_member_by_newl_check 10000 (shaped 4096 4096) 0).trace ≡ 4) × (least_bad_or_cut Single script_member_by_newl_check 10000 (shaped
    4096 4096) ≡ None)
unfolding everything
member_by_newl_check = (refl, refl, refl, refl)

abbrev script_object_pushed_as_a_cell_check : Script
script_object_pushed_as_a_cell_check = script ((class_of 2 4 (None ∷ []) (Some (body [] ((on 5 (Statement-F.NewText (Field H.This 0 0)
    (Constant (pos 16)) Leaves)) ∷ []))) (Some (body [] ((on 8 (Statement-F.Free (Field H.This 0 0))) ∷ [])))) ∷ []) ((procedure 12 [] (body
    ((OfPointer (Some 0)) ∷ (OfPointer None) ∷ []) ((on 15 (Statement-F.New (Held (H.Local 0)) 0 Leaves)) ∷ (on 16 (Statement-F.Push (Held
    (H.Local 0)))) ∷ (on 17 (Statement-F.Construct (Held (H.Local 0)))) ∷ (on 18 (Statement-F.NewText (Held (H.Local 1)) (Constant (pos 20))
    Leaves)) ∷ (on 19 (Statement-F.Free (Held (H.Local 1)))) ∷ (on 20 (Statement-F.Pop (Constant (pos 1)))) ∷ (on 21 (Statement-F.Delete
    (Held (H.Local 0)))) ∷ []))) ∷ []) [] [] 0

object_pushed_as_a_cell_check : (required script_object_pushed_as_a_cell_check 10000 (shaped 4096 4096) ≡ 320) × (rises
    script_object_pushed_as_a_cell_check 10000 (shaped 4096 4096) ≡ (rise 1 144) ∷ (rise 2 192) ∷ (rise 3 256) ∷ (rise 4 320) ∷ []) ×
    (length (runs_of Single script_object_pushed_as_a_cell_check 10000 (shaped 4096 4096) 0).trace ≡ 4) × (least_bad_or_cut Single
    script_object_pushed_as_a_cell_check 10000 (shaped 4096 4096) ≡ Some 4) × (runs_of Single script_object_pushed_as_a_cell_check 10000
    (shaped 4096 4096) 4 ≡ result (Ended (Some (negsuc 3)) ((leak 3 64 192) ∷ [])) ((line 1 144 0 Granted) ∷ (line 2 48 144 Granted) ∷ (line
    3 64 192 Granted) ∷ (line 4 64 256 Simulated) ∷ []) [] [] 6)
unfolding everything
object_pushed_as_a_cell_check = (refl, refl, refl, refl, refl)

abbrev script_operation_deletes_an_object_check : Script
script_operation_deletes_an_object_check = script ((class_of 2 16 [] None None) ∷ []) ((procedure 9 [] (body ((OfPointer None) ∷ (OfPointer
    None) ∷ []) ((on 12 (Statement-F.New (Held (H.Local 0)) 0 Leaves)) ∷ (on 13 (Statement-F.PushOperation (Held (H.Local 0)) 0)) ∷ (on 14
    (Statement-F.NewText (Held (H.Local 1)) (Constant (pos 20)) Leaves)) ∷ (on 15 (Statement-F.Free (Held (H.Local 1)))) ∷ (on 16
    (Statement-F.PopDestroy (Constant (pos 1)))) ∷ []))) ∷ []) ((operation 5 (body [] ((on 6 (Statement-F.Delete (Held (H.Local 0)))) ∷
    []))) ∷ []) [] 0

operation_deletes_an_object_check : (required script_operation_deletes_an_object_check 10000 (shaped 4096 4096) ≡ 256) × (rises
    script_operation_deletes_an_object_check 10000 (shaped 4096 4096) ≡ (rise 1 144) ∷ (rise 2 192) ∷ (rise 3 256) ∷ []) × (length (runs_of
    Single script_operation_deletes_an_object_check 10000 (shaped 4096 4096) 0).trace ≡ 3) × (least_bad_or_cut Single
    script_operation_deletes_an_object_check 10000 (shaped 4096 4096) ≡ None)
unfolding everything
operation_deletes_an_object_check = (refl, refl, refl, refl)

abbrev script_pop_and_destroy_with_a_pointer_check : Script
script_pop_and_destroy_with_a_pointer_check = script ((class_of 2 4 (None ∷ []) (Some (body [] ((on 5 (Statement-F.NewText (Field H.This 0
    0) (Constant (pos 16)) Leaves)) ∷ []))) (Some (body [] ((on 8 (Statement-F.Free (Field H.This 0 0))) ∷ [])))) ∷ []) ((procedure 12 []
    (body ((OfPointer (Some 0)) ∷ []) ((on 14 (Statement-F.New (Held (H.Local 0)) 0 Leaves)) ∷ (on 15 (Statement-F.PushObject (Held (H.Local
    0)))) ∷ (on 16 (Statement-F.Construct (Held (H.Local 0)))) ∷ (on 17 (Statement-F.PopCheck (Held (H.Local 0)))) ∷ (on 18
    (Statement-F.Delete (Held (H.Local 0)))) ∷ []))) ∷ []) [] [] 0

pop_and_destroy_with_a_pointer_check : (required script_pop_and_destroy_with_a_pointer_check 10000 (shaped 4096 4096) ≡ 256) × (rises
    script_pop_and_destroy_with_a_pointer_check 10000 (shaped 4096 4096) ≡ (rise 1 144) ∷ (rise 2 192) ∷ (rise 3 256) ∷ []) × (length
    (runs_of Single script_pop_and_destroy_with_a_pointer_check 10000 (shaped 4096 4096) 0).trace ≡ 3) × (least_bad_or_cut Single
    script_pop_and_destroy_with_a_pointer_check 10000 (shaped 4096 4096) ≡ None)
unfolding everything
pop_and_destroy_with_a_pointer_check = (refl, refl, refl, refl)

abbrev script_release_check : Script
script_release_check = script [] ((procedure 12 [] (body ((OfPointer None) ∷ (OfPointer None) ∷ []) ((on 15 (Statement-F.Alloc (Held
    (H.Local 0)) (Constant (pos 8)) Leaves)) ∷ (on 16 (Statement-F.Store (Held (H.Local 0)) (Constant (pos 0)) (Constant (pos 1)))) ∷ (on 17
    (Statement-F.PushOperation (Held (H.Local 0)) 0)) ∷ (on 18 (Statement-F.NewText (Held (H.Local 1)) (Constant (pos 20)) Leaves)) ∷ (on 19
    (Statement-F.Free (Held (H.Local 1)))) ∷ (on 20 (Statement-F.PopDestroy (Constant (pos 1)))) ∷ []))) ∷ []) ((operation 2 (body (OfNumber
    ∷ []) ((on 4 (Statement-F.Load 1 (Held (H.Local 0)) (Constant (pos 0)))) ∷ (on 5 (Statement-F.Add 1 (Constant (negsuc 0)))) ∷ (on 6
    (Statement-F.Store (Held (H.Local 0)) (Constant (pos 0)) (Variable 1))) ∷ (on 7 (Statement-F.If (Less (Variable 1) (Constant (pos 1)))
    ((on 8 (Statement-F.Free (Held (H.Local 0)))) ∷ []))) ∷ []))) ∷ []) [] 0

release_check : (required script_release_check 10000 (shaped 4096 4096) ≡ 240) × (rises script_release_check 10000 (shaped 4096 4096) ≡
    (rise 1 144) ∷ (rise 2 176) ∷ (rise 3 240) ∷ []) × (length (runs_of Single script_release_check 10000 (shaped 4096 4096) 0).trace ≡ 3) ×
    (least_bad_or_cut Single script_release_check 10000 (shaped 4096 4096) ≡ None)
unfolding everything
release_check = (refl, refl, refl, refl)

abbrev script_rollback_after_a_failure_run : Script
script_rollback_after_a_failure_run = script [] ((procedure 7 ((Par.OfPointer None) ∷ []) (body ((OfPointer None) ∷ []) ((on 9
    (Statement-F.Store (Held (H.Local 0)) (Constant (pos 0)) (Constant (pos 1)))) ∷ (on 10 (Statement-F.PushOperation (Held (H.Local 0)) 0))
    ∷ (on 11 (Statement-F.NewText (Held (H.Local 1)) (Constant (pos 20)) Leaves)) ∷ (on 12 (Statement-F.Free (Held (H.Local 1)))) ∷ (on 13
    (Statement-F.Store (Held (H.Local 0)) (Constant (pos 0)) (Constant (pos 2)))) ∷ (on 14 (Statement-F.PopCheck (Held (H.Local 0)))) ∷
    []))) ∷ (procedure 17 [] (body ((OfPointer None) ∷ OfNumber ∷ OfNumber ∷ []) ((on 21 (Statement-F.Alloc (Held (H.Local 0)) (Constant
    (pos 8)) Leaves)) ∷ (on 22 (Statement-F.Push (Held (H.Local 0)))) ∷ (on 23 (Statement-F.Trap 2 ((on 24 (Statement-F.Call 0 ((Passed
    (Held (H.Local 0))) ∷ []))) ∷ []))) ∷ (on 26 (Statement-F.Load 1 (Held (H.Local 0)) (Constant (pos 0)))) ∷ (on 27
    (Statement-F.PrintNumber (Variable 1))) ∷ (on 28 (Statement-F.PopDestroy (Constant (pos 1)))) ∷ []))) ∷ []) ((operation 2 (body [] ((on
    3 (Statement-F.Store (Held (H.Local 0)) (Constant (pos 0)) (Constant (pos 0)))) ∷ (on 4 (Statement-F.PrintText (Quoted 0))) ∷ []))) ∷
    []) ((114 ∷ 111 ∷ 108 ∷ 108 ∷ 101 ∷ 100 ∷ 32 ∷ 98 ∷ 97 ∷ 99 ∷ 107 ∷ []) ∷ []) 1

rollback_after_a_failure_run : run script_rollback_after_a_failure_run (R.Number 3) 10000 (shaped 4096 4096) ≡ result (Ended None []) ((line
    1 144 0 Granted) ∷ (line 2 32 144 Granted) ∷ (line 3 64 176 Simulated) ∷ []) ((114 ∷ 111 ∷ 108 ∷ 108 ∷ 101 ∷ 100 ∷ 32 ∷ 98 ∷ 97 ∷ 99 ∷
    107 ∷ []) ∷ (48 ∷ []) ∷ []) [] 14
unfolding everything
rollback_after_a_failure_run = refl
