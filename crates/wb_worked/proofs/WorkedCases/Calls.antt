-- Worked cases of `calls`, each by computing. Written by tools/cases_to_theorems.py; edit nothing here.
use Rattle.std.specs.Prelude.{◌≡◌, refl, pos, negsuc, [], ◌∷◌, Some, None}
use Rattle.wb_heap_model.specs.declared.heap.Rule.TheVariants as R
use Rattle.wb_heap_model.specs.declared.heap.Panic.TheVariants as P
use Rattle.wb_tree.specs.declared.script.Holder.TheVariants as H
use Rattle.wb_heap_model.specs.declared.heap.Answer.TheVariants.{Granted}
use Rattle.wb_meaning.specs.declared.run.Outcome.TheVariants.{Ended, Panicked}
use Rattle.wb_tree.specs.declared.script.Script.{Script}
use Rattle.wb_tree.specs.declared.script.Parameter.TheVariants as Par
use Rattle.wb_tree.specs.declared.script.Local.TheVariants.{OfPointer, OfNumber, OfBuffer}
use Rattle.wb_tree.specs.declared.script.Pointer.TheVariants.{Held}
use Rattle.wb_tree.specs.declared.script.Number.TheVariants.{Constant, Variable}
use Rattle.wb_tree.specs.declared.script.Writable.TheVariants.{OwnBuffer, InCell}
use Rattle.wb_tree.specs.declared.script.Readable.TheVariants.{Of, Quoted}
use Rattle.wb_tree.specs.declared.script.Condition.TheVariants.{IsNull, NotNull, Equal, Less}
use Rattle.wb_tree.specs.declared.script.Argument.TheVariants.{Passed, Given}
use Rattle.wb_tree.specs.declared.script.Refusal.TheVariants.{GivesNull, Leaves}
use Rattle.wb_tree.specs.declared.script.Statement.TheOpen.{Statement-F}
use Rattle.wb_meaning.specs.Run.{run}
use Rattle.wb_worked.specs.Shorthands.{everything, on, script, procedure, body, result, shaped, line}

abbrev script_arguments_are_copies_run : Script
script_arguments_are_copies_run = script [] ((procedure 1 (Par.OfNumber ∷ (Par.OfPointer None) ∷ []) (body [] ((on 2 (Statement-F.Add 0
    (Constant (pos 1)))) ∷ (on 3 (Statement-F.SetNull (Held (H.Local 1)))) ∷ []))) ∷ (procedure 5 [] (body (OfNumber ∷ (OfPointer None) ∷
    []) ((on 8 (Statement-F.Alloc (Held (H.Local 1)) (Constant (pos 1)) GivesNull)) ∷ (on 9 (Statement-F.SetNumber 0 (Constant (pos 5)))) ∷
    (on 10 (Statement-F.Call 0 ((Given (Variable 0)) ∷ (Passed (Held (H.Local 1))) ∷ []))) ∷ (on 11 (Statement-F.PrintNumber (Variable 0)))
    ∷ (on 12 (Statement-F.Free (Held (H.Local 1)))) ∷ []))) ∷ []) [] [] 1

arguments_are_copies_run : run script_arguments_are_copies_run R.Unlimited 10000 (shaped 4096 4096) ≡ result (Ended None []) ((line 1 144 0
    Granted) ∷ (line 2 32 144 Granted) ∷ []) ((53 ∷ []) ∷ []) [] 7
unfolding everything
arguments_are_copies_run = refl

abbrev script_body_that_runs_out_gives_null_run : Script
script_body_that_runs_out_gives_null_run = script [] ((procedure 1 [] (body [] [])) ∷ (procedure 3 [] (body ((OfPointer None) ∷ []) ((on 5
    (Statement-F.Alloc (Held (H.Local 0)) (Constant (pos 1)) GivesNull)) ∷ (on 6 (Statement-F.Free (Held (H.Local 0)))) ∷ (on 7
    (Statement-F.CallTo 0 0 [])) ∷ (on 8 (Statement-F.If (IsNull (Held (H.Local 0))) ((on 9 (Statement-F.PrintText (Quoted 0))) ∷ []))) ∷
    []))) ∷ []) [] ((110 ∷ 117 ∷ 108 ∷ 108 ∷ []) ∷ []) 1

body_that_runs_out_gives_null_run : run script_body_that_runs_out_gives_null_run R.Unlimited 10000 (shaped 4096 4096) ≡ result (Ended None
    []) ((line 1 144 0 Granted) ∷ (line 2 32 144 Granted) ∷ []) ((110 ∷ 117 ∷ 108 ∷ 108 ∷ []) ∷ []) [] 5
unfolding everything
body_that_runs_out_gives_null_run = refl

abbrev script_call_of_a_later_procedure_run : Script
script_call_of_a_later_procedure_run = script [] ((procedure 1 [] (body [] ((on 2 (Statement-F.Call 1 ((Given (Constant (pos 3))) ∷ []))) ∷
    []))) ∷ (procedure 4 (Par.OfNumber ∷ []) (body [] ((on 5 (Statement-F.PrintNumber (Variable 0))) ∷ []))) ∷ []) [] [] 0

call_of_a_later_procedure_run : run script_call_of_a_later_procedure_run R.Unlimited 10000 (shaped 4096 4096) ≡ result (Ended None [])
    ((line 1 144 0 Granted) ∷ []) ((51 ∷ []) ∷ []) [] 2
unfolding everything
call_of_a_later_procedure_run = refl

abbrev script_callee_appends_to_a_text_that_it_was_passed_run : Script
script_callee_appends_to_a_text_that_it_was_passed_run = script [] ((procedure 1 ((Par.OfPointer None) ∷ []) (body [] ((on 2
    (Statement-F.Append (InCell (Held (H.Local 0))) (Quoted 0))) ∷ (on 3 (Statement-F.Append (InCell (Held (H.Local 0))) (Of (InCell (Held
    (H.Local 0)))))) ∷ []))) ∷ (procedure 5 [] (body ((OfPointer None) ∷ OfNumber ∷ []) ((on 8 (Statement-F.NewText (Held (H.Local 0))
    (Constant (pos 6)) Leaves)) ∷ (on 9 (Statement-F.Call 0 ((Passed (Held (H.Local 0))) ∷ []))) ∷ (on 10 (Statement-F.GetLength 1 (Of
    (InCell (Held (H.Local 0)))))) ∷ (on 11 (Statement-F.PrintNumber (Variable 1))) ∷ (on 12 (Statement-F.PrintText (Of (InCell (Held
    (H.Local 0)))))) ∷ (on 13 (Statement-F.Free (Held (H.Local 0)))) ∷ []))) ∷ []) [] ((97 ∷ 98 ∷ []) ∷ []) 1

callee_appends_to_a_text_that_it_was_passed_run : run script_callee_appends_to_a_text_that_it_was_passed_run R.Unlimited 10000 (shaped 4096
    4096) ≡ result (Ended None []) ((line 1 144 0 Granted) ∷ (line 2 32 144 Granted) ∷ []) ((52 ∷ []) ∷ (97 ∷ 98 ∷ 97 ∷ 98 ∷ []) ∷ []) [] 8
unfolding everything
callee_appends_to_a_text_that_it_was_passed_run = refl

abbrev script_callee_frees_what_it_was_passed_run : Script
script_callee_frees_what_it_was_passed_run = script [] ((procedure 1 ((Par.OfPointer None) ∷ []) (body [] ((on 2 (Statement-F.Free (Held
    (H.Local 0)))) ∷ (on 3 (Statement-F.SetNull (Held (H.Local 0)))) ∷ []))) ∷ (procedure 5 [] (body ((OfPointer None) ∷ OfNumber ∷ []) ((on
    8 (Statement-F.Alloc (Held (H.Local 0)) (Constant (pos 8)) Leaves)) ∷ (on 9 (Statement-F.Call 0 ((Passed (Held (H.Local 0))) ∷ []))) ∷
    (on 10 (Statement-F.If (NotNull (Held (H.Local 0))) ((on 11 (Statement-F.PrintText (Quoted 0))) ∷ []))) ∷ (on 13 (Statement-F.Load 1
    (Held (H.Local 0)) (Constant (pos 0)))) ∷ []))) ∷ []) [] ((107 ∷ 101 ∷ 112 ∷ 116 ∷ []) ∷ []) 1

callee_frees_what_it_was_passed_run : run script_callee_frees_what_it_was_passed_run R.Unlimited 10000 (shaped 4096 4096) ≡ result (Panicked
    (P.Workbench 1)) ((line 1 144 0 Granted) ∷ (line 2 32 144 Granted) ∷ []) ((107 ∷ 101 ∷ 112 ∷ 116 ∷ []) ∷ []) [] 7
unfolding everything
callee_frees_what_it_was_passed_run = refl

abbrev script_callee_writes_into_what_it_was_passed_run : Script
script_callee_writes_into_what_it_was_passed_run = script [] ((procedure 1 ((Par.OfPointer None) ∷ Par.OfNumber ∷ []) (body [] ((on 2
    (Statement-F.Store (Held (H.Local 0)) (Constant (pos 0)) (Variable 1))) ∷ (on 3 (Statement-F.Add 1 (Constant (pos 1)))) ∷ (on 4
    (Statement-F.Store (Held (H.Local 0)) (Constant (pos 1)) (Variable 1))) ∷ (on 5 (Statement-F.SetNull (Held (H.Local 0)))) ∷ []))) ∷
    (procedure 7 [] (body ((OfPointer None) ∷ OfNumber ∷ []) ((on 10 (Statement-F.Alloc (Held (H.Local 0)) (Constant (pos 8)) Leaves)) ∷ (on
    11 (Statement-F.SetNumber 1 (Constant (pos 41)))) ∷ (on 12 (Statement-F.Call 0 ((Passed (Held (H.Local 0))) ∷ (Given (Variable 1)) ∷
    []))) ∷ (on 13 (Statement-F.PrintNumber (Variable 1))) ∷ (on 14 (Statement-F.Load 1 (Held (H.Local 0)) (Constant (pos 0)))) ∷ (on 15
    (Statement-F.PrintNumber (Variable 1))) ∷ (on 16 (Statement-F.Load 1 (Held (H.Local 0)) (Constant (pos 1)))) ∷ (on 17
    (Statement-F.PrintNumber (Variable 1))) ∷ (on 18 (Statement-F.Free (Held (H.Local 0)))) ∷ []))) ∷ []) [] [] 1

callee_writes_into_what_it_was_passed_run : run script_callee_writes_into_what_it_was_passed_run R.Unlimited 10000 (shaped 4096 4096) ≡
    result (Ended None []) ((line 1 144 0 Granted) ∷ (line 2 32 144 Granted) ∷ []) ((52 ∷ 49 ∷ []) ∷ (52 ∷ 49 ∷ []) ∷ (52 ∷ 50 ∷ []) ∷ [])
    [] 13
unfolding everything
callee_writes_into_what_it_was_passed_run = refl

abbrev script_frames_are_given_back_by_a_leave_run : Script
script_frames_are_given_back_by_a_leave_run = script [] ((procedure 1 (Par.OfNumber ∷ []) (body [] ((on 2 (Statement-F.If (Equal (Variable
    0) (Constant (pos 0))) ((on 3 (Statement-F.Leave (Constant (negsuc 6)))) ∷ []))) ∷ (on 5 (Statement-F.Add 0 (Constant (negsuc 0)))) ∷
    (on 6 (Statement-F.Call 0 ((Given (Variable 0)) ∷ []))) ∷ []))) ∷ (procedure 8 [] (body (OfNumber ∷ []) ((on 10 (Statement-F.Repeat
    (Constant (pos 3)) ((on 11 (Statement-F.Trap 0 ((on 12 (Statement-F.Call 0 ((Given (Constant (pos 100))) ∷ []))) ∷ []))) ∷ (on 14
    (Statement-F.PrintNumber (Variable 0))) ∷ []))) ∷ []))) ∷ []) [] [] 1

frames_are_given_back_by_a_leave_run : run script_frames_are_given_back_by_a_leave_run R.Unlimited 10000 (shaped 4096 4096) ≡ result (Ended
    None []) ((line 1 144 0 Granted) ∷ []) ((45 ∷ 55 ∷ []) ∷ (45 ∷ 55 ∷ []) ∷ (45 ∷ 55 ∷ []) ∷ []) [] 919
unfolding everything
frames_are_given_back_by_a_leave_run = refl

abbrev script_frames_run_out_at_the_one_hundred_and_twenty_ninth_run : Script
script_frames_run_out_at_the_one_hundred_and_twenty_ninth_run = script [] ((procedure 1 (Par.OfNumber ∷ []) (body [] ((on 2 (Statement-F.If
    (Less (Constant (pos 1)) (Variable 0)) ((on 3 (Statement-F.Add 0 (Constant (negsuc 0)))) ∷ (on 4 (Statement-F.Call 0 ((Given (Variable
    0)) ∷ []))) ∷ []))) ∷ []))) ∷ (procedure 7 [] (body [] ((on 8 (Statement-F.Call 0 ((Given (Constant (pos 127))) ∷ []))) ∷ (on 9
    (Statement-F.PrintText (Quoted 0))) ∷ (on 10 (Statement-F.Call 0 ((Given (Constant (pos 128))) ∷ []))) ∷ []))) ∷ []) [] ((97 ∷ 115 ∷ 32
    ∷ 109 ∷ 97 ∷ 110 ∷ 121 ∷ 32 ∷ 97 ∷ 115 ∷ 32 ∷ 116 ∷ 104 ∷ 101 ∷ 114 ∷ 101 ∷ 32 ∷ 109 ∷ 97 ∷ 121 ∷ 32 ∷ 98 ∷ 101 ∷ []) ∷ []) 1

frames_run_out_at_the_one_hundred_and_twenty_ninth_run : run script_frames_run_out_at_the_one_hundred_and_twenty_ninth_run R.Unlimited 10000
    (shaped 4096 4096) ≡ result (Panicked (P.Workbench 7)) ((line 1 144 0 Granted) ∷ []) ((97 ∷ 115 ∷ 32 ∷ 109 ∷ 97 ∷ 110 ∷ 121 ∷ 32 ∷ 97 ∷
    115 ∷ 32 ∷ 116 ∷ 104 ∷ 101 ∷ 114 ∷ 101 ∷ 32 ∷ 109 ∷ 97 ∷ 121 ∷ 32 ∷ 98 ∷ 101 ∷ []) ∷ []) [] 763
unfolding everything
frames_run_out_at_the_one_hundred_and_twenty_ninth_run = refl

abbrev script_locals_begin_anew_with_each_call_run : Script
script_locals_begin_anew_with_each_call_run = script [] ((procedure 1 [] (body (OfNumber ∷ (OfBuffer 4) ∷ []) ((on 4 (Statement-F.Add 0
    (Constant (pos 1)))) ∷ (on 5 (Statement-F.Append (OwnBuffer 1) (Quoted 0))) ∷ (on 6 (Statement-F.PrintNumber (Variable 0))) ∷ (on 7
    (Statement-F.PrintText (Of (OwnBuffer 1)))) ∷ []))) ∷ (procedure 9 [] (body [] ((on 10 (Statement-F.Call 0 [])) ∷ (on 11
    (Statement-F.Call 0 [])) ∷ []))) ∷ []) [] ((97 ∷ []) ∷ []) 1

locals_begin_anew_with_each_call_run : run script_locals_begin_anew_with_each_call_run R.Unlimited 10000 (shaped 4096 4096) ≡ result (Ended
    None []) ((line 1 144 0 Granted) ∷ []) ((49 ∷ []) ∷ (97 ∷ []) ∷ (49 ∷ []) ∷ (97 ∷ []) ∷ []) [] 10
unfolding everything
locals_begin_anew_with_each_call_run = refl

abbrev script_null_leaves_with_no_memory_run : Script
script_null_leaves_with_no_memory_run = script [] ((procedure 1 [] (body ((OfPointer None) ∷ OfNumber ∷ []) ((on 4 (Statement-F.Alloc (Held
    (H.Local 0)) (Constant (pos 0)) GivesNull)) ∷ (on 5 (Statement-F.LeaveIfNull (Held (H.Local 0)))) ∷ (on 6 (Statement-F.PrintText (Quoted
    0))) ∷ (on 7 (Statement-F.Free (Held (H.Local 0)))) ∷ (on 8 (Statement-F.SetNull (Held (H.Local 0)))) ∷ (on 9 (Statement-F.Trap 1 ((on
    10 (Statement-F.LeaveIfNull (Held (H.Local 0)))) ∷ (on 11 (Statement-F.PrintText (Quoted 1))) ∷ []))) ∷ (on 13 (Statement-F.PrintNumber
    (Variable 1))) ∷ (on 14 (Statement-F.LeaveIfNull (Held (H.Local 0)))) ∷ (on 15 (Statement-F.PrintText (Quoted 2))) ∷ []))) ∷ []) []
    ((116 ∷ 104 ∷ 101 ∷ 114 ∷ 101 ∷ []) ∷ (110 ∷ 101 ∷ 118 ∷ 101 ∷ 114 ∷ []) ∷ (110 ∷ 101 ∷ 118 ∷ 101 ∷ 114 ∷ []) ∷ []) 0

null_leaves_with_no_memory_run : run script_null_leaves_with_no_memory_run R.Unlimited 10000 (shaped 4096 4096) ≡ result (Ended (Some
    (negsuc 3)) []) ((line 1 144 0 Granted) ∷ (line 2 16 144 Granted) ∷ []) ((116 ∷ 104 ∷ 101 ∷ 114 ∷ 101 ∷ []) ∷ (45 ∷ 52 ∷ []) ∷ []) [] 9
unfolding everything
null_leaves_with_no_memory_run = refl

abbrev script_procedure_that_calls_itself_run : Script
script_procedure_that_calls_itself_run = script [] ((procedure 1 (Par.OfNumber ∷ []) (body [] ((on 2 (Statement-F.If (Less (Constant (pos
    0)) (Variable 0)) ((on 3 (Statement-F.PrintNumber (Variable 0))) ∷ (on 4 (Statement-F.Add 0 (Constant (negsuc 0)))) ∷ (on 5
    (Statement-F.Call 0 ((Given (Variable 0)) ∷ []))) ∷ (on 6 (Statement-F.PrintNumber (Variable 0))) ∷ []))) ∷ []))) ∷ (procedure 9 []
    (body [] ((on 10 (Statement-F.Call 0 ((Given (Constant (pos 2))) ∷ []))) ∷ []))) ∷ []) [] [] 1

procedure_that_calls_itself_run : run script_procedure_that_calls_itself_run R.Unlimited 10000 (shaped 4096 4096) ≡ result (Ended None [])
    ((line 1 144 0 Granted) ∷ []) ((50 ∷ []) ∷ (49 ∷ []) ∷ (48 ∷ []) ∷ (49 ∷ []) ∷ []) [] 12
unfolding everything
procedure_that_calls_itself_run = refl

abbrev script_return_ends_main_run : Script
script_return_ends_main_run = script [] ((procedure 1 [] (body [] ((on 2 (Statement-F.PrintText (Quoted 0))) ∷ (on 3 Statement-F.Return) ∷
    (on 4 (Statement-F.PrintText (Quoted 1))) ∷ []))) ∷ []) [] ((111 ∷ 110 ∷ 101 ∷ []) ∷ (116 ∷ 119 ∷ 111 ∷ []) ∷ []) 0

return_ends_main_run : run script_return_ends_main_run R.Unlimited 10000 (shaped 4096 4096) ≡ result (Ended None []) ((line 1 144 0 Granted)
    ∷ []) ((111 ∷ 110 ∷ 101 ∷ []) ∷ []) [] 2
unfolding everything
return_ends_main_run = refl

abbrev script_return_ends_the_body_at_once_run : Script
script_return_ends_the_body_at_once_run = script [] ((procedure 1 ((Par.OfPointer None) ∷ Par.OfNumber ∷ []) (body [] ((on 2 (Statement-F.If
    (Less (Variable 1) (Constant (pos 1))) ((on 3 Statement-F.Return) ∷ []))) ∷ (on 5 (Statement-F.PrintNumber (Variable 1))) ∷ (on 6
    (Statement-F.Free (Held (H.Local 0)))) ∷ []))) ∷ (procedure 8 (Par.OfNumber ∷ []) (body ((OfPointer None) ∷ []) ((on 10 (Statement-F.If
    (Equal (Variable 0) (Constant (pos 0))) ((on 11 Statement-F.Return) ∷ []))) ∷ (on 13 (Statement-F.Alloc (Held (H.Local 1)) (Variable 0)
    Leaves)) ∷ (on 14 (Statement-F.ReturnPointer (Held (H.Local 1)))) ∷ []))) ∷ (procedure 16 [] (body ((OfPointer None) ∷ (OfPointer None)
    ∷ []) ((on 19 (Statement-F.CallTo 0 1 ((Given (Constant (pos 20))) ∷ []))) ∷ (on 20 (Statement-F.CallTo 1 1 ((Given (Constant (pos 0)))
    ∷ []))) ∷ (on 21 (Statement-F.If (NotNull (Held (H.Local 1))) ((on 22 (Statement-F.PrintText (Quoted 0))) ∷ []))) ∷ (on 24
    (Statement-F.Call 0 ((Passed (Held (H.Local 0))) ∷ (Given (Constant (pos 0))) ∷ []))) ∷ (on 25 (Statement-F.Call 0 ((Passed (Held
    (H.Local 0))) ∷ (Given (Constant (pos 7))) ∷ []))) ∷ []))) ∷ []) [] ((110 ∷ 101 ∷ 118 ∷ 101 ∷ 114 ∷ []) ∷ []) 2

return_ends_the_body_at_once_run : run script_return_ends_the_body_at_once_run R.Unlimited 10000 (shaped 4096 4096) ≡ result (Ended None [])
    ((line 1 144 0 Granted) ∷ (line 2 48 144 Granted) ∷ []) ((55 ∷ []) ∷ []) [] 15
unfolding everything
return_ends_the_body_at_once_run = refl

abbrev script_return_in_a_repetition_ends_the_body_run : Script
script_return_in_a_repetition_ends_the_body_run = script [] ((procedure 1 [] (body (OfNumber ∷ []) ((on 3 (Statement-F.Repeat (Constant (pos
    5)) ((on 4 (Statement-F.Add 0 (Constant (pos 1)))) ∷ (on 5 (Statement-F.If (Equal (Variable 0) (Constant (pos 2))) ((on 6
    (Statement-F.PrintNumber (Variable 0))) ∷ (on 7 Statement-F.Return) ∷ []))) ∷ []))) ∷ (on 10 (Statement-F.PrintText (Quoted 0))) ∷ [])))
    ∷ (procedure 12 [] (body [] ((on 13 (Statement-F.Call 0 [])) ∷ []))) ∷ []) [] ((110 ∷ 101 ∷ 118 ∷ 101 ∷ 114 ∷ []) ∷ []) 1

return_in_a_repetition_ends_the_body_run : run script_return_in_a_repetition_ends_the_body_run R.Unlimited 10000 (shaped 4096 4096) ≡ result
    (Ended None []) ((line 1 144 0 Granted) ∷ []) ((50 ∷ []) ∷ []) [] 10
unfolding everything
return_in_a_repetition_ends_the_body_run = refl
