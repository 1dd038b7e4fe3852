-- Worked cases of `language`, each by computing. Written by tools/cases_to_theorems.py; edit nothing here.
use Rattle.std.specs.Prelude.{◌≡◌, refl, pos, negsuc, [], ◌∷◌, None}
use Rattle.wb_heap_model.specs.declared.heap.Rule.TheVariants as R
use Rattle.wb_heap_model.specs.declared.heap.Panic.TheVariants as P
use Rattle.wb_tree.specs.declared.script.Holder.TheVariants as H
use Rattle.wb_heap_model.specs.declared.heap.Answer.TheVariants.{Granted, Simulated, Refused}
use Rattle.wb_meaning.specs.declared.run.Outcome.TheVariants.{Ended, Panicked}
use Rattle.wb_tree.specs.declared.script.Script.{Script}
use Rattle.wb_tree.specs.declared.script.Local.TheVariants.{OfPointer, OfNumber, OfBuffer}
use Rattle.wb_tree.specs.declared.script.Pointer.TheVariants.{Held}
use Rattle.wb_tree.specs.declared.script.Number.TheVariants.{Constant, Variable}
use Rattle.wb_tree.specs.declared.script.Writable.TheVariants.{OwnBuffer}
use Rattle.wb_tree.specs.declared.script.Readable.TheVariants.{Quoted}
use Rattle.wb_tree.specs.declared.script.Refusal.TheVariants.{GivesNull}
use Rattle.wb_tree.specs.declared.script.Statement.TheOpen.{Statement-F}
use Rattle.wb_meaning.specs.Run.{run}
use Rattle.wb_worked.specs.Shorthands.{everything, on, script, procedure, body, result, leak, shaped, line}

abbrev script_new_setting_counts_anew_run : Script
script_new_setting_counts_anew_run = script [] ((procedure 1 [] (body ((OfPointer None) ∷ (OfPointer None) ∷ (OfPointer None) ∷ []) ((on 5
    (Statement-F.FailEvery (Constant (pos 2)))) ∷ (on 6 (Statement-F.Alloc (Held (H.Local 0)) (Constant (pos 1)) GivesNull)) ∷ (on 7
    (Statement-F.FailNext (Constant (pos 2)))) ∷ (on 8 (Statement-F.Alloc (Held (H.Local 1)) (Constant (pos 1)) GivesNull)) ∷ (on 9
    (Statement-F.Alloc (Held (H.Local 2)) (Constant (pos 1)) GivesNull)) ∷ (on 10 (Statement-F.Alloc (Held (H.Local 2)) (Constant (pos 1))
    GivesNull)) ∷ (on 11 (Statement-F.Free (Held (H.Local 0)))) ∷ (on 12 (Statement-F.Free (Held (H.Local 1)))) ∷ (on 13 (Statement-F.Free
    (Held (H.Local 2)))) ∷ []))) ∷ []) [] [] 0

new_setting_counts_anew_run : run script_new_setting_counts_anew_run R.Unlimited 10000 (shaped 4096 4096) ≡ result (Ended None []) ((line 1
    144 0 Granted) ∷ (line 2 32 144 Granted) ∷ (line 3 32 176 Granted) ∷ (line 4 32 208 Simulated) ∷ (line 5 32 208 Granted) ∷ []) [] [] 9
unfolding everything
new_setting_counts_anew_run = refl

abbrev script_next_but_none_to_fail_run : Script
script_next_but_none_to_fail_run = script [] ((procedure 1 [] (body [] ((on 2 (Statement-F.FailNext (Constant (pos 0)))) ∷ []))) ∷ []) [] []
    0

next_but_none_to_fail_run : run script_next_but_none_to_fail_run R.Unlimited 10000 (shaped 4096 4096) ≡ result (Panicked (P.Workbench 9))
    ((line 1 144 0 Granted) ∷ []) [] [] 1
unfolding everything
next_but_none_to_fail_run = refl

abbrev script_number_is_stored_loaded_and_measured_run : Script
script_number_is_stored_loaded_and_measured_run = script [] ((procedure 2 [] (body ((OfPointer None) ∷ (OfPointer None) ∷ OfNumber ∷
    OfNumber ∷ []) ((on 7 (Statement-F.SetNumber 2 (Constant (pos 5)))) ∷ (on 8 (Statement-F.Add 2 (Constant (negsuc 6)))) ∷ (on 9
    (Statement-F.Add 2 (Variable 2))) ∷ (on 10 (Statement-F.PrintNumber (Variable 2))) ∷ (on 11 (Statement-F.Alloc (Held (H.Local 0))
    (Constant (pos 20)) GivesNull)) ∷ (on 12 (Statement-F.Store (Held (H.Local 0)) (Constant (pos 1)) (Constant (negsuc 8)))) ∷ (on 13
    (Statement-F.Load 3 (Held (H.Local 0)) (Constant (pos 1)))) ∷ (on 14 (Statement-F.PrintNumber (Variable 3))) ∷ (on 15
    (Statement-F.AllocLen 3 (Held (H.Local 0)))) ∷ (on 16 (Statement-F.PrintNumber (Variable 3))) ∷ (on 17 (Statement-F.Set (Held (H.Local
    1)) (Held (H.Local 0)))) ∷ (on 18 (Statement-F.SetNull (Held (H.Local 0)))) ∷ (on 19 (Statement-F.Free (Held (H.Local 0)))) ∷ (on 20
    (Statement-F.Free (Held (H.Local 1)))) ∷ []))) ∷ []) [] [] 0

number_is_stored_loaded_and_measured_run : run script_number_is_stored_loaded_and_measured_run R.Unlimited 10000 (shaped 4096 4096) ≡ result
    (Ended None []) ((line 1 144 0 Granted) ∷ (line 2 48 144 Granted) ∷ []) ((45 ∷ 52 ∷ []) ∷ (45 ∷ 57 ∷ []) ∷ (51 ∷ 50 ∷ []) ∷ []) [] 14
unfolding everything
number_is_stored_loaded_and_measured_run = refl

abbrev script_number_past_the_last_attempt_run : Script
script_number_past_the_last_attempt_run = script [] ((procedure 1 [] (body ((OfPointer None) ∷ []) ((on 3 (Statement-F.Alloc (Held (H.Local
    0)) (Constant (pos 1)) GivesNull)) ∷ (on 4 (Statement-F.Free (Held (H.Local 0)))) ∷ []))) ∷ []) [] [] 0

number_past_the_last_attempt_run : run script_number_past_the_last_attempt_run (R.Number 16777216) 10000 (shaped 4096 4096) ≡ result (Ended
    None []) ((line 1 144 0 Granted) ∷ (line 2 32 144 Granted) ∷ []) [] [] 2
unfolding everything
number_past_the_last_attempt_run = refl

abbrev script_number_zero_fails_nothing_run : Script
script_number_zero_fails_nothing_run = script [] ((procedure 1 [] (body ((OfPointer None) ∷ []) ((on 3 (Statement-F.Alloc (Held (H.Local 0))
    (Constant (pos 1)) GivesNull)) ∷ (on 4 (Statement-F.Free (Held (H.Local 0)))) ∷ []))) ∷ []) [] [] 0

number_zero_fails_nothing_run : run script_number_zero_fails_nothing_run (R.Number 0) 10000 (shaped 4096 4096) ≡ result (Ended None [])
    ((line 1 144 0 Granted) ∷ (line 2 32 144 Granted) ∷ []) [] [] 2
unfolding everything
number_zero_fails_nothing_run = refl

abbrev script_numbers_are_set_and_added_run : Script
script_numbers_are_set_and_added_run = script [] ((procedure 1 [] (body (OfNumber ∷ OfNumber ∷ []) ((on 4 (Statement-F.PrintNumber (Variable
    0))) ∷ (on 5 (Statement-F.SetNumber 0 (Constant (pos 5)))) ∷ (on 6 (Statement-F.Add 0 (Constant (negsuc 6)))) ∷ (on 7
    (Statement-F.PrintNumber (Variable 0))) ∷ (on 8 (Statement-F.SetNumber 1 (Variable 0))) ∷ (on 9 (Statement-F.Add 1 (Variable 1))) ∷ (on
    10 (Statement-F.PrintNumber (Variable 1))) ∷ (on 11 (Statement-F.PrintNumber (Constant (negsuc 11)))) ∷ []))) ∷ []) [] [] 0

numbers_are_set_and_added_run : run script_numbers_are_set_and_added_run R.Unlimited 10000 (shaped 4096 4096) ≡ result (Ended None [])
    ((line 1 144 0 Granted) ∷ []) ((48 ∷ []) ∷ (45 ∷ 50 ∷ []) ∷ (45 ∷ 52 ∷ []) ∷ (45 ∷ 49 ∷ 50 ∷ []) ∷ []) [] 8
unfolding everything
numbers_are_set_and_added_run = refl

abbrev script_numbers_in_the_place_of_numerals_run : Script
script_numbers_in_the_place_of_numerals_run = script [] ((procedure 2 [] (body ((OfPointer None) ∷ (OfPointer None) ∷ OfNumber ∷ OfNumber ∷
    OfNumber ∷ OfNumber ∷ []) ((on 9 (Statement-F.SetNumber 2 (Constant (pos 16)))) ∷ (on 10 (Statement-F.SetNumber 3 (Constant (pos 3)))) ∷
    (on 11 (Statement-F.SetNumber 4 (Constant (pos 7)))) ∷ (on 12 (Statement-F.SetNumber 5 (Constant (pos 1)))) ∷ (on 13 Statement-F.Mark) ∷
    (on 14 (Statement-F.Alloc (Held (H.Local 0)) (Variable 2) GivesNull)) ∷ (on 15 (Statement-F.Store (Held (H.Local 0)) (Variable 3)
    (Variable 4))) ∷ (on 16 (Statement-F.Add 2 (Variable 2))) ∷ (on 17 (Statement-F.Realloc (Held (H.Local 1)) (Held (H.Local 0)) (Variable
    2) GivesNull)) ∷ (on 18 (Statement-F.Load 4 (Held (H.Local 1)) (Variable 3))) ∷ (on 19 (Statement-F.PrintNumber (Variable 4))) ∷ (on 20
    (Statement-F.Store (Held (H.Local 1)) (Variable 5) (Variable 3))) ∷ (on 21 (Statement-F.Load 4 (Held (H.Local 0)) (Variable 5))) ∷ (on
    22 (Statement-F.PrintNumber (Variable 4))) ∷ (on 23 (Statement-F.Check (Variable 5))) ∷ (on 24 (Statement-F.CheckAll (Variable 5))) ∷
    (on 25 (Statement-F.MarkEnd (Variable 5))) ∷ (on 26 (Statement-F.FailNext (Variable 5))) ∷ (on 27 (Statement-F.Alloc (Held (H.Local 0))
    (Variable 5) GivesNull)) ∷ (on 28 (Statement-F.FailEvery (Variable 5))) ∷ (on 29 (Statement-F.Alloc (Held (H.Local 0)) (Variable 2)
    GivesNull)) ∷ (on 30 Statement-F.FailNone) ∷ (on 31 (Statement-F.Free (Held (H.Local 1)))) ∷ []))) ∷ []) [] [] 0

numbers_in_the_place_of_numerals_run : run script_numbers_in_the_place_of_numerals_run R.Unlimited 10000 (shaped 4096 4096) ≡ result (Ended
    None []) ((line 1 144 0 Granted) ∷ (line 2 32 144 Granted) ∷ (line 3 48 144 Granted) ∷ (line 4 32 192 Simulated) ∷ (line 5 48 192
    Simulated) ∷ []) ((55 ∷ []) ∷ (51 ∷ []) ∷ []) [] 23
unfolding everything
numbers_in_the_place_of_numerals_run = refl

abbrev script_numerals_and_what_they_are_run : Script
script_numerals_and_what_they_are_run = script [] ((procedure 2 [] (body ((OfBuffer 0) ∷ OfNumber ∷ []) ((on 5 (Statement-F.PrintNumber
    (Constant (pos 0)))) ∷ (on 6 (Statement-F.PrintNumber (Constant (pos 7)))) ∷ (on 7 (Statement-F.PrintNumber (Constant (negsuc 6)))) ∷
    (on 8 (Statement-F.PrintNumber (Constant (pos 999999999)))) ∷ (on 9 (Statement-F.PrintNumber (Constant (negsuc 999999998)))) ∷ (on 10
    (Statement-F.GetMaximum 1 (OwnBuffer 0))) ∷ (on 11 (Statement-F.PrintNumber (Variable 1))) ∷ []))) ∷ []) [] [] 0

numerals_and_what_they_are_run : run script_numerals_and_what_they_are_run R.Unlimited 10000 (shaped 4096 4096) ≡ result (Ended None [])
    ((line 1 144 0 Granted) ∷ []) ((48 ∷ []) ∷ (55 ∷ []) ∷ (45 ∷ 55 ∷ []) ∷ (57 ∷ 57 ∷ 57 ∷ 57 ∷ 57 ∷ 57 ∷ 57 ∷ 57 ∷ 57 ∷ []) ∷ (45 ∷ 57 ∷
    57 ∷ 57 ∷ 57 ∷ 57 ∷ 57 ∷ 57 ∷ 57 ∷ 57 ∷ []) ∷ (48 ∷ []) ∷ []) [] 7
unfolding everything
numerals_and_what_they_are_run = refl

abbrev script_prints_around_a_leak_run : Script
script_prints_around_a_leak_run = script [] ((procedure 2 [] (body ((OfPointer None) ∷ []) ((on 4 (Statement-F.PrintNumber (Constant (negsuc
    69)))) ∷ (on 5 (Statement-F.Alloc (Held (H.Local 0)) (Constant (pos 16)) GivesNull)) ∷ (on 6 (Statement-F.PrintText (Quoted 0))) ∷ (on 7
    (Statement-F.PrintNumber (Constant (pos 0)))) ∷ []))) ∷ []) [] ((111 ∷ 117 ∷ 116 ∷ 32 ∷ 111 ∷ 102 ∷ 32 ∷ 109 ∷ 101 ∷ 109 ∷ 111 ∷ 114 ∷
    121 ∷ []) ∷ []) 0

prints_around_a_leak_run : run script_prints_around_a_leak_run R.Unlimited 10000 (shaped 4096 4096) ≡ result (Ended None ((leak 2 32 144) ∷
    [])) ((line 1 144 0 Granted) ∷ (line 2 32 144 Granted) ∷ []) ((45 ∷ 55 ∷ 48 ∷ []) ∷ (111 ∷ 117 ∷ 116 ∷ 32 ∷ 111 ∷ 102 ∷ 32 ∷ 109 ∷ 101 ∷
    109 ∷ 111 ∷ 114 ∷ 121 ∷ []) ∷ (48 ∷ []) ∷ []) [] 4
unfolding everything
prints_around_a_leak_run = refl

abbrev script_reallocating_a_freed_cell_run : Script
script_reallocating_a_freed_cell_run = script [] ((procedure 1 [] (body ((OfPointer None) ∷ []) ((on 3 (Statement-F.Alloc (Held (H.Local 0))
    (Constant (pos 16)) GivesNull)) ∷ (on 4 (Statement-F.Free (Held (H.Local 0)))) ∷ (on 5 (Statement-F.Realloc (Held (H.Local 0)) (Held
    (H.Local 0)) (Constant (negsuc 0)) GivesNull)) ∷ []))) ∷ []) [] [] 0

reallocating_a_freed_cell_run : run script_reallocating_a_freed_cell_run R.Unlimited 10000 (shaped 4096 4096) ≡ result (Panicked (P.User
    42)) ((line 1 144 0 Granted) ∷ (line 2 32 144 Granted) ∷ []) [] [] 3
unfolding everything
reallocating_a_freed_cell_run = refl

abbrev script_reallocating_by_a_copied_pointer_run : Script
script_reallocating_by_a_copied_pointer_run = script [] ((procedure 2 [] (body ((OfPointer None) ∷ (OfPointer None) ∷ []) ((on 5
    (Statement-F.Alloc (Held (H.Local 0)) (Constant (pos 16)) GivesNull)) ∷ (on 6 (Statement-F.Set (Held (H.Local 1)) (Held (H.Local 0)))) ∷
    (on 7 (Statement-F.Free (Held (H.Local 0)))) ∷ (on 8 (Statement-F.Realloc (Held (H.Local 0)) (Held (H.Local 1)) (Constant (pos 9))
    GivesNull)) ∷ []))) ∷ []) [] [] 0

reallocating_by_a_copied_pointer_run : run script_reallocating_by_a_copied_pointer_run R.Unlimited 10000 (shaped 4096 4096) ≡ result
    (Panicked (P.User 42)) ((line 1 144 0 Granted) ∷ (line 2 32 144 Granted) ∷ []) [] [] 4
unfolding everything
reallocating_by_a_copied_pointer_run = refl

abbrev script_reallocating_null_allocates_run : Script
script_reallocating_null_allocates_run = script [] ((procedure 1 [] (body ((OfPointer None) ∷ (OfPointer None) ∷ []) ((on 4
    (Statement-F.Realloc (Held (H.Local 1)) (Held (H.Local 0)) (Constant (pos 40)) GivesNull)) ∷ (on 5 (Statement-F.Store (Held (H.Local 1))
    (Constant (pos 11)) (Constant (pos 3)))) ∷ (on 6 (Statement-F.Free (Held (H.Local 1)))) ∷ []))) ∷ []) [] [] 0

reallocating_null_allocates_run : run script_reallocating_null_allocates_run R.Unlimited 10000 (shaped 4096 4096) ≡ result (Ended None [])
    ((line 1 144 0 Granted) ∷ (line 2 64 144 Granted) ∷ []) [] [] 3
unfolding everything
reallocating_null_allocates_run = refl

abbrev script_reallocating_null_refused_gives_null_run : Script
script_reallocating_null_refused_gives_null_run = script [] ((procedure 1 [] (body ((OfPointer None) ∷ (OfPointer None) ∷ []) ((on 4
    (Statement-F.Alloc (Held (H.Local 1)) (Constant (pos 1)) GivesNull)) ∷ (on 5 (Statement-F.FailNext (Constant (pos 1)))) ∷ (on 6
    (Statement-F.Realloc (Held (H.Local 1)) (Held (H.Local 0)) (Constant (pos 40)) GivesNull)) ∷ (on 7 (Statement-F.Free (Held (H.Local
    1)))) ∷ []))) ∷ []) [] [] 0

reallocating_null_refused_gives_null_run : run script_reallocating_null_refused_gives_null_run R.Unlimited 10000 (shaped 4096 4096) ≡ result
    (Ended None ((leak 2 32 144) ∷ [])) ((line 1 144 0 Granted) ∷ (line 2 32 144 Granted) ∷ (line 3 64 176 Simulated) ∷ []) [] [] 4
unfolding everything
reallocating_null_refused_gives_null_run = refl

abbrev script_reallocating_past_one_mebibyte_run : Script
script_reallocating_past_one_mebibyte_run = script [] ((procedure 1 [] (body ((OfPointer None) ∷ (OfPointer None) ∷ []) ((on 4
    (Statement-F.Realloc (Held (H.Local 1)) (Held (H.Local 0)) (Constant (pos 1048577)) GivesNull)) ∷ []))) ∷ []) [] [] 0

reallocating_past_one_mebibyte_run : run script_reallocating_past_one_mebibyte_run R.Unlimited 10000 (shaped 4096 4096) ≡ result (Panicked
    (P.Workbench 9)) ((line 1 144 0 Granted) ∷ []) [] [] 1
unfolding everything
reallocating_past_one_mebibyte_run = refl

abbrev script_reallocating_to_less_than_nothing_run : Script
script_reallocating_to_less_than_nothing_run = script [] ((procedure 1 [] (body ((OfPointer None) ∷ []) ((on 3 (Statement-F.Alloc (Held
    (H.Local 0)) (Constant (pos 16)) GivesNull)) ∷ (on 4 (Statement-F.Realloc (Held (H.Local 0)) (Held (H.Local 0)) (Constant (negsuc 0))
    GivesNull)) ∷ []))) ∷ []) [] [] 0

reallocating_to_less_than_nothing_run : run script_reallocating_to_less_than_nothing_run R.Unlimited 10000 (shaped 4096 4096) ≡ result
    (Panicked (P.Workbench 9)) ((line 1 144 0 Granted) ∷ (line 2 32 144 Granted) ∷ []) [] [] 2
unfolding everything
reallocating_to_less_than_nothing_run = refl

abbrev script_refused_growth_keeps_the_cell_run : Script
script_refused_growth_keeps_the_cell_run = script [] ((procedure 1 [] (body ((OfPointer None) ∷ (OfPointer None) ∷ OfNumber ∷ []) ((on 5
    (Statement-F.Alloc (Held (H.Local 0)) (Constant (pos 16)) GivesNull)) ∷ (on 6 (Statement-F.Store (Held (H.Local 0)) (Constant (pos 0))
    (Constant (pos 9)))) ∷ (on 7 (Statement-F.FailNext (Constant (pos 1)))) ∷ (on 8 (Statement-F.Realloc (Held (H.Local 1)) (Held (H.Local
    0)) (Constant (pos 32)) GivesNull)) ∷ (on 9 (Statement-F.Load 2 (Held (H.Local 0)) (Constant (pos 0)))) ∷ (on 10
    (Statement-F.PrintNumber (Variable 2))) ∷ (on 11 (Statement-F.Free (Held (H.Local 0)))) ∷ (on 12 (Statement-F.Free (Held (H.Local 1))))
    ∷ []))) ∷ []) [] [] 0

refused_growth_keeps_the_cell_run : run script_refused_growth_keeps_the_cell_run R.Unlimited 10000 (shaped 4096 4096) ≡ result (Ended None
    []) ((line 1 144 0 Granted) ∷ (line 2 32 144 Granted) ∷ (line 3 48 144 Simulated) ∷ []) ((57 ∷ []) ∷ []) [] 8
unfolding everything
refused_growth_keeps_the_cell_run = refl

abbrev script_refused_growth_over_its_own_pointer_leaks_run : Script
script_refused_growth_over_its_own_pointer_leaks_run = script [] ((procedure 1 [] (body ((OfPointer None) ∷ []) ((on 3 (Statement-F.Alloc
    (Held (H.Local 0)) (Constant (pos 16)) GivesNull)) ∷ (on 4 (Statement-F.FailNext (Constant (pos 1)))) ∷ (on 5 (Statement-F.Realloc (Held
    (H.Local 0)) (Held (H.Local 0)) (Constant (pos 32)) GivesNull)) ∷ (on 6 (Statement-F.Free (Held (H.Local 0)))) ∷ []))) ∷ []) [] [] 0

refused_growth_over_its_own_pointer_leaks_run : run script_refused_growth_over_its_own_pointer_leaks_run R.Unlimited 10000 (shaped 4096
    4096) ≡ result (Ended None ((leak 2 32 144) ∷ [])) ((line 1 144 0 Granted) ∷ (line 2 32 144 Granted) ∷ (line 3 48 144 Simulated) ∷ [])
    [] [] 4
unfolding everything
refused_growth_over_its_own_pointer_leaks_run = refl

abbrev script_request_for_fewer_than_no_bytes_run : Script
script_request_for_fewer_than_no_bytes_run = script [] ((procedure 2 [] (body ((OfPointer None) ∷ []) ((on 4 (Statement-F.Alloc (Held
    (H.Local 0)) (Constant (negsuc 11)) GivesNull)) ∷ []))) ∷ []) [] [] 0

request_for_fewer_than_no_bytes_run : run script_request_for_fewer_than_no_bytes_run R.Unlimited 10000 (shaped 4096 4096) ≡ result (Panicked
    (P.Workbench 9)) ((line 1 144 0 Granted) ∷ []) [] [] 1
unfolding everything
request_for_fewer_than_no_bytes_run = refl

abbrev script_second_next_request_fails_run : Script
script_second_next_request_fails_run = script [] ((procedure 1 [] (body ((OfPointer None) ∷ (OfPointer None) ∷ (OfPointer None) ∷ []) ((on 5
    (Statement-F.FailNext (Constant (pos 2)))) ∷ (on 6 (Statement-F.Alloc (Held (H.Local 0)) (Constant (pos 1)) GivesNull)) ∷ (on 7
    (Statement-F.Alloc (Held (H.Local 1)) (Constant (pos 1)) GivesNull)) ∷ (on 8 (Statement-F.Alloc (Held (H.Local 2)) (Constant (pos 1))
    GivesNull)) ∷ (on 9 (Statement-F.Free (Held (H.Local 0)))) ∷ (on 10 (Statement-F.Free (Held (H.Local 1)))) ∷ (on 11 (Statement-F.Free
    (Held (H.Local 2)))) ∷ []))) ∷ []) [] [] 0

second_next_request_fails_run : run script_second_next_request_fails_run R.Unlimited 10000 (shaped 4096 4096) ≡ result (Ended None [])
    ((line 1 144 0 Granted) ∷ (line 2 32 144 Granted) ∷ (line 3 32 176 Simulated) ∷ (line 4 32 176 Granted) ∷ []) [] [] 7
unfolding everything
second_next_request_fails_run = refl

abbrev script_setting_and_number_refuse_one_after_the_other_run : Script
script_setting_and_number_refuse_one_after_the_other_run = script [] ((procedure 1 [] (body ((OfPointer None) ∷ []) ((on 3
    (Statement-F.FailNext (Constant (pos 1)))) ∷ (on 4 (Statement-F.Alloc (Held (H.Local 0)) (Constant (pos 1)) GivesNull)) ∷ (on 5
    (Statement-F.Alloc (Held (H.Local 0)) (Constant (pos 1)) GivesNull)) ∷ (on 6 (Statement-F.Alloc (Held (H.Local 0)) (Constant (pos 1))
    GivesNull)) ∷ (on 7 (Statement-F.Free (Held (H.Local 0)))) ∷ []))) ∷ []) [] [] 0

setting_and_number_refuse_one_after_the_other_run : run script_setting_and_number_refuse_one_after_the_other_run (R.Number 3) 10000 (shaped
    4096 4096) ≡ result (Ended None []) ((line 1 144 0 Granted) ∷ (line 2 32 144 Simulated) ∷ (line 3 32 144 Simulated) ∷ (line 4 32 144
    Granted) ∷ []) [] [] 5
unfolding everything
setting_and_number_refuse_one_after_the_other_run = refl

abbrev script_setting_counts_what_the_number_refuses_run : Script
script_setting_counts_what_the_number_refuses_run = script [] ((procedure 1 [] (body ((OfPointer None) ∷ []) ((on 3 (Statement-F.FailNext
    (Constant (pos 2)))) ∷ (on 4 (Statement-F.Alloc (Held (H.Local 0)) (Constant (pos 1)) GivesNull)) ∷ (on 5 (Statement-F.Alloc (Held
    (H.Local 0)) (Constant (pos 1)) GivesNull)) ∷ (on 6 (Statement-F.Alloc (Held (H.Local 0)) (Constant (pos 1)) GivesNull)) ∷ (on 7
    (Statement-F.Free (Held (H.Local 0)))) ∷ []))) ∷ []) [] [] 0

setting_counts_what_the_number_refuses_run : run script_setting_counts_what_the_number_refuses_run (R.Number 2) 10000 (shaped 4096 4096) ≡
    result (Ended None []) ((line 1 144 0 Granted) ∷ (line 2 32 144 Simulated) ∷ (line 3 32 144 Simulated) ∷ (line 4 32 144 Granted) ∷ [])
    [] [] 5
unfolding everything
setting_counts_what_the_number_refuses_run = refl

abbrev script_setting_is_asked_before_the_limit_run : Script
script_setting_is_asked_before_the_limit_run = script [] ((procedure 1 [] (body ((OfPointer None) ∷ []) ((on 3 (Statement-F.FailNext
    (Constant (pos 1)))) ∷ (on 4 (Statement-F.Alloc (Held (H.Local 0)) (Constant (pos 1)) GivesNull)) ∷ (on 5 (Statement-F.Alloc (Held
    (H.Local 0)) (Constant (pos 1)) GivesNull)) ∷ (on 6 (Statement-F.Free (Held (H.Local 0)))) ∷ []))) ∷ []) [] [] 0

setting_is_asked_before_the_limit_run : run script_setting_is_asked_before_the_limit_run (R.Limit 175) 10000 (shaped 4096 4096) ≡ result
    (Ended None []) ((line 1 144 0 Granted) ∷ (line 2 32 144 Simulated) ∷ (line 3 32 144 Refused) ∷ []) [] [] 4
unfolding everything
setting_is_asked_before_the_limit_run = refl

abbrev script_shrinking_is_no_attempt_run : Script
script_shrinking_is_no_attempt_run = script [] ((procedure 1 [] (body ((OfPointer None) ∷ (OfPointer None) ∷ []) ((on 4 (Statement-F.Alloc
    (Held (H.Local 0)) (Constant (pos 32)) GivesNull)) ∷ (on 5 (Statement-F.FailNext (Constant (pos 1)))) ∷ (on 6 (Statement-F.Realloc (Held
    (H.Local 0)) (Held (H.Local 0)) (Constant (pos 5)) GivesNull)) ∷ (on 7 (Statement-F.Realloc (Held (H.Local 1)) (Held (H.Local 0))
    (Constant (pos 17)) GivesNull)) ∷ (on 8 (Statement-F.Free (Held (H.Local 0)))) ∷ []))) ∷ []) [] [] 0

shrinking_is_no_attempt_run : run script_shrinking_is_no_attempt_run R.Unlimited 10000 (shaped 4096 4096) ≡ result (Ended None []) ((line 1
    144 0 Granted) ∷ (line 2 48 144 Granted) ∷ (line 3 48 144 Simulated) ∷ []) [] [] 5
unfolding everything
shrinking_is_no_attempt_run = refl

abbrev script_stale_pointer_can_be_copied_run : Script
script_stale_pointer_can_be_copied_run = script [] ((procedure 1 [] (body ((OfPointer None) ∷ (OfPointer None) ∷ []) ((on 4
    (Statement-F.Alloc (Held (H.Local 0)) (Constant (pos 1)) GivesNull)) ∷ (on 5 (Statement-F.Free (Held (H.Local 0)))) ∷ (on 6
    (Statement-F.Set (Held (H.Local 1)) (Held (H.Local 0)))) ∷ (on 7 (Statement-F.SetNull (Held (H.Local 0)))) ∷ (on 8 (Statement-F.Free
    (Held (H.Local 0)))) ∷ (on 9 (Statement-F.Free (Held (H.Local 1)))) ∷ []))) ∷ []) [] [] 0

stale_pointer_can_be_copied_run : run script_stale_pointer_can_be_copied_run R.Unlimited 10000 (shaped 4096 4096) ≡ result (Panicked (P.User
    42)) ((line 1 144 0 Granted) ∷ (line 2 32 144 Granted) ∷ []) [] [] 6
unfolding everything
stale_pointer_can_be_copied_run = refl

abbrev script_sum_below_the_least_number_run : Script
script_sum_below_the_least_number_run = script [] ((procedure 1 [] (body (OfNumber ∷ []) ((on 3 (Statement-F.SetNumber 0 (Constant (negsuc
    999999998)))) ∷ (on 4 (Statement-F.Add 0 (Variable 0))) ∷ (on 5 (Statement-F.Add 0 (Constant (negsuc 147483649)))) ∷ (on 6
    (Statement-F.PrintNumber (Variable 0))) ∷ (on 7 (Statement-F.Add 0 (Constant (negsuc 0)))) ∷ []))) ∷ []) [] [] 0

sum_below_the_least_number_run : run script_sum_below_the_least_number_run R.Unlimited 10000 (shaped 4096 4096) ≡ result (Panicked
    (P.Workbench 9)) ((line 1 144 0 Granted) ∷ []) ((45 ∷ 50 ∷ 49 ∷ 52 ∷ 55 ∷ 52 ∷ 56 ∷ 51 ∷ 54 ∷ 52 ∷ 56 ∷ []) ∷ []) [] 5
unfolding everything
sum_below_the_least_number_run = refl

abbrev script_sum_of_the_ends_is_in_range_run : Script
script_sum_of_the_ends_is_in_range_run = script [] ((procedure 1 [] (body (OfNumber ∷ OfNumber ∷ []) ((on 4 (Statement-F.SetNumber 0
    (Constant (pos 999999999)))) ∷ (on 5 (Statement-F.Add 0 (Variable 0))) ∷ (on 6 (Statement-F.Add 0 (Constant (pos 147483649)))) ∷ (on 7
    (Statement-F.Add 1 (Constant (negsuc 0)))) ∷ (on 8 (Statement-F.Add 0 (Variable 1))) ∷ (on 9 (Statement-F.PrintNumber (Variable 0))) ∷
    []))) ∷ []) [] [] 0

sum_of_the_ends_is_in_range_run : run script_sum_of_the_ends_is_in_range_run R.Unlimited 10000 (shaped 4096 4096) ≡ result (Ended None [])
    ((line 1 144 0 Granted) ∷ []) ((50 ∷ 49 ∷ 52 ∷ 55 ∷ 52 ∷ 56 ∷ 51 ∷ 54 ∷ 52 ∷ 54 ∷ []) ∷ []) [] 6
unfolding everything
sum_of_the_ends_is_in_range_run = refl

abbrev script_sum_past_the_greatest_number_run : Script
script_sum_past_the_greatest_number_run = script [] ((procedure 1 [] (body (OfNumber ∷ []) ((on 3 (Statement-F.SetNumber 0 (Constant (pos
    999999999)))) ∷ (on 4 (Statement-F.Add 0 (Variable 0))) ∷ (on 5 (Statement-F.Add 0 (Constant (pos 147483649)))) ∷ (on 6
    (Statement-F.PrintNumber (Variable 0))) ∷ (on 7 (Statement-F.Add 0 (Constant (pos 1)))) ∷ []))) ∷ []) [] [] 0

sum_past_the_greatest_number_run : run script_sum_past_the_greatest_number_run R.Unlimited 10000 (shaped 4096 4096) ≡ result (Panicked
    (P.Workbench 9)) ((line 1 144 0 Granted) ∷ []) ((50 ∷ 49 ∷ 52 ∷ 55 ∷ 52 ∷ 56 ∷ 51 ∷ 54 ∷ 52 ∷ 55 ∷ []) ∷ []) [] 5
unfolding everything
sum_past_the_greatest_number_run = refl

abbrev script_tail_of_a_shrunk_cell_is_reused_run : Script
script_tail_of_a_shrunk_cell_is_reused_run = script [] ((procedure 1 [] (body ((OfPointer None) ∷ (OfPointer None) ∷ (OfPointer None) ∷ [])
    ((on 5 (Statement-F.Alloc (Held (H.Local 0)) (Constant (pos 64)) GivesNull)) ∷ (on 6 (Statement-F.Alloc (Held (H.Local 1)) (Constant
    (pos 1)) GivesNull)) ∷ (on 7 (Statement-F.Realloc (Held (H.Local 0)) (Held (H.Local 0)) (Constant (pos 16)) GivesNull)) ∷ (on 8
    (Statement-F.Alloc (Held (H.Local 2)) (Constant (pos 32)) GivesNull)) ∷ (on 9 (Statement-F.Free (Held (H.Local 0)))) ∷ (on 10
    (Statement-F.Free (Held (H.Local 1)))) ∷ (on 11 (Statement-F.Free (Held (H.Local 2)))) ∷ []))) ∷ []) [] [] 0

tail_of_a_shrunk_cell_is_reused_run : run script_tail_of_a_shrunk_cell_is_reused_run R.Unlimited 10000 (shaped 4096 4096) ≡ result (Ended
    None []) ((line 1 144 0 Granted) ∷ (line 2 80 144 Granted) ∷ (line 3 32 224 Granted) ∷ (line 4 48 176 Granted) ∷ []) [] [] 7
unfolding everything
tail_of_a_shrunk_cell_is_reused_run = refl

abbrev script_texts_of_two_procedures_run : Script
script_texts_of_two_procedures_run = script [] ((procedure 3 [] (body [] ((on 4 (Statement-F.PrintText (Quoted 0))) ∷ []))) ∷ (procedure 6
    [] (body ((OfPointer None) ∷ (OfPointer None) ∷ []) ((on 9 (Statement-F.Alloc (Held (H.Local 1)) (Constant (pos 12)) GivesNull)) ∷ (on
    10 (Statement-F.Free (Held (H.Local 0)))) ∷ (on 11 (Statement-F.PrintNumber (Constant (pos 7)))) ∷ (on 12 (Statement-F.PrintText (Quoted
    1))) ∷ (on 13 (Statement-F.PrintText (Quoted 2))) ∷ (on 14 (Statement-F.PrintText (Quoted 3))) ∷ []))) ∷ []) [] ((97 ∷ 32 ∷ []) ∷ (98 ∷
    35 ∷ []) ∷ (97 ∷ 32 ∷ 32 ∷ 98 ∷ []) ∷ [] ∷ []) 1

texts_of_two_procedures_run : run script_texts_of_two_procedures_run R.Unlimited 10000 (shaped 4096 4096) ≡ result (Ended None ((leak 2 32
    144) ∷ [])) ((line 1 144 0 Granted) ∷ (line 2 32 144 Granted) ∷ []) ((55 ∷ []) ∷ (98 ∷ 35 ∷ []) ∷ (97 ∷ 32 ∷ 32 ∷ 98 ∷ []) ∷ [] ∷ []) []
    6
unfolding everything
texts_of_two_procedures_run = refl

abbrev script_two_pointers_name_one_cell_run : Script
script_two_pointers_name_one_cell_run = script [] ((procedure 1 [] (body ((OfPointer None) ∷ (OfPointer None) ∷ OfNumber ∷ []) ((on 5
    (Statement-F.Alloc (Held (H.Local 0)) (Constant (pos 8)) GivesNull)) ∷ (on 6 (Statement-F.Set (Held (H.Local 1)) (Held (H.Local 0)))) ∷
    (on 7 (Statement-F.Store (Held (H.Local 1)) (Constant (pos 0)) (Constant (negsuc 4)))) ∷ (on 8 (Statement-F.Load 2 (Held (H.Local 0))
    (Constant (pos 0)))) ∷ (on 9 (Statement-F.PrintNumber (Variable 2))) ∷ (on 10 (Statement-F.Free (Held (H.Local 1)))) ∷ (on 11
    (Statement-F.Load 2 (Held (H.Local 0)) (Constant (pos 0)))) ∷ []))) ∷ []) [] [] 0

two_pointers_name_one_cell_run : run script_two_pointers_name_one_cell_run R.Unlimited 10000 (shaped 4096 4096) ≡ result (Panicked
    (P.Workbench 1)) ((line 1 144 0 Granted) ∷ (line 2 32 144 Granted) ∷ []) ((45 ∷ 53 ∷ []) ∷ []) [] 7
unfolding everything
two_pointers_name_one_cell_run = refl
