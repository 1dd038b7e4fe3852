-- Worked cases of `all-and-parts`, each by computing. Written by tools/cases_to_theorems.py; edit nothing here.
use Rattle.std.specs.Prelude.{◌≡◌, refl, pos, negsuc, [], ◌∷◌, length, Some, None}
use Rattle.wb_runs.specs.declared.failures.Failures.TheVariants.{Single, Every}
use Rattle.wb_heap_model.specs.declared.heap.Panic.TheVariants as P
use Rattle.wb_tree.specs.declared.script.Holder.TheVariants as H
use Rattle.wb_heap_model.specs.declared.heap.Answer.TheVariants.{Granted, Simulated}
use Rattle.wb_runs.specs.declared.run_end.RunEnd.TheVariants as E
use Rattle.wb_meaning.specs.declared.run.Why.TheVariants.{Budget, Ceiling}
use Rattle.wb_meaning.specs.declared.run.Outcome.TheVariants.{Ended, Panicked, Cut}
use Rattle.wb_tree.specs.declared.script.Script.{Script}
use Rattle.wb_tree.specs.declared.script.Local.TheVariants.{OfPointer}
use Rattle.wb_tree.specs.declared.script.Pointer.TheVariants.{Held}
use Rattle.wb_tree.specs.declared.script.Number.TheVariants.{Constant}
use Rattle.wb_tree.specs.declared.script.Condition.TheVariants.{IsNull}
use Rattle.wb_tree.specs.declared.script.Refusal.TheVariants.{GivesNull, Leaves}
use Rattle.wb_tree.specs.declared.script.Statement.TheOpen.{Statement-F}
use Rattle.wb_meaning.specs.Run.{required, rises}
use Rattle.wb_runs.specs.AllNumbers.{unfine_in, unfine_numbers}
use Rattle.wb_runs.specs.Sweeps.{runs_of}
use Rattle.wb_worked.specs.Shorthands.{everything, on, script, procedure, body, result, leak, shaped, line, rise, ending, part}

abbrev script_cut_number_before_a_bad_one_all_sweep : Script
script_cut_number_before_a_bad_one_all_sweep = script [] ((procedure 1 [] (body ((OfPointer None) ∷ (OfPointer None) ∷ []) ((on 4
    (Statement-F.Alloc (Held (H.Local 0)) (Constant (pos 16)) GivesNull)) ∷ (on 5 (Statement-F.If (IsNull (Held (H.Local 0))) ((on 6
    (Statement-F.Repeat (Constant (pos 20000)) [])) ∷ []))) ∷ (on 9 (Statement-F.Alloc (Held (H.Local 1)) (Constant (pos 16)) Leaves)) ∷ (on
    10 (Statement-F.Free (Held (H.Local 0)))) ∷ (on 11 (Statement-F.Free (Held (H.Local 1)))) ∷ []))) ∷ []) [] [] 0

cut_number_before_a_bad_one_all_sweep : (length ((runs_of Single script_cut_number_before_a_bad_one_all_sweep 10000 (shaped 4096 4096))
    0).trace ≡ 3) × (unfine_in (runs_of Single script_cut_number_before_a_bad_one_all_sweep 10000 (shaped 4096 4096)) (part 0 16777216) ≡
    (ending 2 (E.Cut Budget)) ∷ (ending 3 (E.Leaked 1)) ∷ []) × ((runs_of Single script_cut_number_before_a_bad_one_all_sweep 10000 (shaped
    4096 4096)) 3 ≡ result (Ended (Some (negsuc 3)) ((leak 2 32 144) ∷ [])) ((line 1 144 0 Granted) ∷ (line 2 32 144 Granted) ∷ (line 3 32
    176 Simulated) ∷ []) [] [] 3)
unfolding everything
cut_number_before_a_bad_one_all_sweep = (refl, refl, refl)

abbrev script_each_number_ends_in_its_own_way_sweep : Script
script_each_number_ends_in_its_own_way_sweep = script [] ((procedure 1 [] (body ((OfPointer None) ∷ (OfPointer None) ∷ (OfPointer None) ∷
    (OfPointer None) ∷ []) ((on 6 (Statement-F.Alloc (Held (H.Local 0)) (Constant (pos 16)) GivesNull)) ∷ (on 7 (Statement-F.Store (Held
    (H.Local 0)) (Constant (pos 0)) (Constant (pos 1)))) ∷ (on 8 (Statement-F.Alloc (Held (H.Local 1)) (Constant (pos 16)) Leaves)) ∷ (on 9
    (Statement-F.Alloc (Held (H.Local 2)) (Constant (pos 16)) GivesNull)) ∷ (on 10 (Statement-F.If (IsNull (Held (H.Local 2))) ((on 11
    (Statement-F.Free (Held (H.Local 1)))) ∷ (on 12 (Statement-F.Free (Held (H.Local 1)))) ∷ []))) ∷ (on 14 (Statement-F.Alloc (Held
    (H.Local 3)) (Constant (pos 16)) GivesNull)) ∷ (on 15 (Statement-F.If (IsNull (Held (H.Local 3))) ((on 16 (Statement-F.Check (Constant
    (pos 9)))) ∷ []))) ∷ (on 18 (Statement-F.Free (Held (H.Local 0)))) ∷ (on 19 (Statement-F.Free (Held (H.Local 1)))) ∷ (on 20
    (Statement-F.Free (Held (H.Local 2)))) ∷ (on 21 (Statement-F.Free (Held (H.Local 3)))) ∷ []))) ∷ []) [] [] 0

each_number_ends_in_its_own_way_sweep : (length ((runs_of Single script_each_number_ends_in_its_own_way_sweep 10000 (shaped 4096 4096))
    0).trace ≡ 5) × (unfine_in (runs_of Single script_each_number_ends_in_its_own_way_sweep 10000 (shaped 4096 4096)) (part 0 16777216) ≡
    (ending 2 (E.Panicked (P.Workbench 1))) ∷ (ending 3 (E.Leaked 1)) ∷ (ending 4 (E.Panicked (P.User 42))) ∷ (ending 5 (E.Panicked (P.Alloc
    144))) ∷ []) × ((runs_of Single script_each_number_ends_in_its_own_way_sweep 10000 (shaped 4096 4096)) 2 ≡ result (Panicked (P.Workbench
    1)) ((line 1 144 0 Granted) ∷ (line 2 32 144 Simulated) ∷ []) [] [] 2)
unfolding everything
each_number_ends_in_its_own_way_sweep = (refl, refl, refl)

abbrev script_each_rate_ends_in_its_own_way_sweep : Script
script_each_rate_ends_in_its_own_way_sweep = script [] ((procedure 1 [] (body ((OfPointer None) ∷ (OfPointer None) ∷ (OfPointer None) ∷
    (OfPointer None) ∷ []) ((on 6 (Statement-F.Alloc (Held (H.Local 0)) (Constant (pos 16)) GivesNull)) ∷ (on 7 (Statement-F.Store (Held
    (H.Local 0)) (Constant (pos 0)) (Constant (pos 1)))) ∷ (on 8 (Statement-F.Alloc (Held (H.Local 1)) (Constant (pos 16)) Leaves)) ∷ (on 9
    (Statement-F.Alloc (Held (H.Local 2)) (Constant (pos 16)) GivesNull)) ∷ (on 10 (Statement-F.If (IsNull (Held (H.Local 2))) ((on 11
    (Statement-F.Free (Held (H.Local 1)))) ∷ (on 12 (Statement-F.Free (Held (H.Local 1)))) ∷ []))) ∷ (on 14 (Statement-F.Alloc (Held
    (H.Local 3)) (Constant (pos 16)) GivesNull)) ∷ (on 15 (Statement-F.If (IsNull (Held (H.Local 3))) ((on 16 (Statement-F.Check (Constant
    (pos 9)))) ∷ []))) ∷ (on 18 (Statement-F.Free (Held (H.Local 0)))) ∷ (on 19 (Statement-F.Free (Held (H.Local 1)))) ∷ (on 20
    (Statement-F.Free (Held (H.Local 2)))) ∷ (on 21 (Statement-F.Free (Held (H.Local 3)))) ∷ []))) ∷ []) [] [] 0

each_rate_ends_in_its_own_way_sweep : (length ((runs_of Every script_each_rate_ends_in_its_own_way_sweep 10000 (shaped 4096 4096)) 0).trace
    ≡ 5) × (unfine_in (runs_of Every script_each_rate_ends_in_its_own_way_sweep 10000 (shaped 4096 4096)) (part 0 16777216) ≡ (ending 2
    (E.Panicked (P.Workbench 1))) ∷ (ending 3 (E.Leaked 1)) ∷ (ending 4 (E.Panicked (P.User 42))) ∷ (ending 5 (E.Panicked (P.Alloc 144))) ∷
    []) × ((runs_of Every script_each_rate_ends_in_its_own_way_sweep 10000 (shaped 4096 4096)) 2 ≡ result (Panicked (P.Workbench 1)) ((line
    1 144 0 Granted) ∷ (line 2 32 144 Simulated) ∷ []) [] [] 2)
unfolding everything
each_rate_ends_in_its_own_way_sweep = (refl, refl, refl)

abbrev script_empty_main_all_json_check : Script
script_empty_main_all_json_check = script [] ((procedure 1 [] (body [] [])) ∷ []) [] [] 0

empty_main_all_json_check : (required script_empty_main_all_json_check 10000 (shaped 4096 4096) ≡ 144) × (rises
    script_empty_main_all_json_check 10000 (shaped 4096 4096) ≡ (rise 1 144) ∷ []) × (length ((runs_of Single
    script_empty_main_all_json_check 10000 (shaped 4096 4096)) 0).trace ≡ 1) × (unfine_in (runs_of Single script_empty_main_all_json_check
    10000 (shaped 4096 4096)) (part 0 16777216) ≡ [])
unfolding everything
empty_main_all_json_check = (refl, refl, refl, refl)

abbrev script_empty_main_all_sweep : Script
script_empty_main_all_sweep = script [] ((procedure 1 [] (body [] [])) ∷ []) [] [] 0

empty_main_all_sweep : (length ((runs_of Single script_empty_main_all_sweep 10000 (shaped 4096 4096)) 0).trace ≡ 1) × (unfine_in (runs_of
    Single script_empty_main_all_sweep 10000 (shaped 4096 4096)) (part 0 16777216) ≡ [])
unfolding everything
empty_main_all_sweep = (refl, refl)

abbrev script_failure_that_outruns_the_budget_all_json_sweep : Script
script_failure_that_outruns_the_budget_all_json_sweep = script [] ((procedure 1 [] (body ((OfPointer None) ∷ []) ((on 3 (Statement-F.Alloc
    (Held (H.Local 0)) (Constant (pos 16)) GivesNull)) ∷ (on 4 (Statement-F.If (IsNull (Held (H.Local 0))) ((on 5 (Statement-F.Repeat
    (Constant (pos 20000)) [])) ∷ []))) ∷ (on 8 (Statement-F.Free (Held (H.Local 0)))) ∷ []))) ∷ []) [] [] 0

failure_that_outruns_the_budget_all_json_sweep : (length ((runs_of Every script_failure_that_outruns_the_budget_all_json_sweep 10000 (shaped
    4096 4096)) 0).trace ≡ 2) × (unfine_in (runs_of Every script_failure_that_outruns_the_budget_all_json_sweep 10000 (shaped 4096 4096))
    (part 0 16777216) ≡ (ending 2 (E.Cut Budget)) ∷ [])
unfolding everything
failure_that_outruns_the_budget_all_json_sweep = (refl, refl)

abbrev script_failure_that_outruns_the_budget_all_sweep : Script
script_failure_that_outruns_the_budget_all_sweep = script [] ((procedure 1 [] (body ((OfPointer None) ∷ []) ((on 3 (Statement-F.Alloc (Held
    (H.Local 0)) (Constant (pos 16)) GivesNull)) ∷ (on 4 (Statement-F.If (IsNull (Held (H.Local 0))) ((on 5 (Statement-F.Repeat (Constant
    (pos 20000)) [])) ∷ []))) ∷ (on 8 (Statement-F.Free (Held (H.Local 0)))) ∷ []))) ∷ []) [] [] 0

failure_that_outruns_the_budget_all_sweep : (length ((runs_of Single script_failure_that_outruns_the_budget_all_sweep 10000 (shaped 4096
    4096)) 0).trace ≡ 2) × (unfine_in (runs_of Single script_failure_that_outruns_the_budget_all_sweep 10000 (shaped 4096 4096)) (part 0
    16777216) ≡ (ending 2 (E.Cut Budget)) ∷ [])
unfolding everything
failure_that_outruns_the_budget_all_sweep = (refl, refl)

abbrev script_failure_that_passes_the_ceiling_all_sweep : Script
script_failure_that_passes_the_ceiling_all_sweep = script [] ((procedure 1 [] (body ((OfPointer None) ∷ []) ((on 3 (Statement-F.Alloc (Held
    (H.Local 0)) (Constant (pos 16)) GivesNull)) ∷ (on 4 (Statement-F.If (IsNull (Held (H.Local 0))) ((on 5 (Statement-F.Repeat (Constant
    (pos 17)) ((on 6 (Statement-F.Alloc (Held (H.Local 0)) (Constant (pos 1048560)) GivesNull)) ∷ []))) ∷ []))) ∷ (on 9 (Statement-F.Free
    (Held (H.Local 0)))) ∷ []))) ∷ []) [] [] 0

failure_that_passes_the_ceiling_all_sweep : (length ((runs_of Single script_failure_that_passes_the_ceiling_all_sweep 10000 (shaped 4096
    4096)) 0).trace ≡ 2) × (unfine_in (runs_of Single script_failure_that_passes_the_ceiling_all_sweep 10000 (shaped 4096 4096)) (part 0
    16777216) ≡ (ending 2 (E.Cut Ceiling)) ∷ [])
unfolding everything
failure_that_passes_the_ceiling_all_sweep = (refl, refl)

abbrev script_leak_that_needs_two_failures_all_sweep : Script
script_leak_that_needs_two_failures_all_sweep = script [] ((procedure 1 [] (body ((OfPointer None) ∷ (OfPointer None) ∷ (OfPointer None) ∷
    []) ((on 5 (Statement-F.Alloc (Held (H.Local 0)) (Constant (pos 16)) GivesNull)) ∷ (on 6 (Statement-F.Alloc (Held (H.Local 1)) (Constant
    (pos 16)) GivesNull)) ∷ (on 7 (Statement-F.Alloc (Held (H.Local 2)) (Constant (pos 16)) GivesNull)) ∷ (on 8 (Statement-F.If (IsNull
    (Held (H.Local 0))) ((on 9 (Statement-F.If (IsNull (Held (H.Local 2))) ((on 10 (Statement-F.Leave (Constant (negsuc 3)))) ∷ []))) ∷
    []))) ∷ (on 13 (Statement-F.Free (Held (H.Local 0)))) ∷ (on 14 (Statement-F.Free (Held (H.Local 1)))) ∷ (on 15 (Statement-F.Free (Held
    (H.Local 2)))) ∷ []))) ∷ []) [] [] 0

leak_that_needs_two_failures_all_sweep : (length ((runs_of Single script_leak_that_needs_two_failures_all_sweep 10000 (shaped 4096 4096))
    0).trace ≡ 4) × (unfine_in (runs_of Single script_leak_that_needs_two_failures_all_sweep 10000 (shaped 4096 4096)) (part 0 16777216) ≡
    [])
unfolding everything
leak_that_needs_two_failures_all_sweep = (refl, refl)

abbrev script_leak_that_needs_two_failures_every_all_sweep : Script
script_leak_that_needs_two_failures_every_all_sweep = script [] ((procedure 1 [] (body ((OfPointer None) ∷ (OfPointer None) ∷ (OfPointer
    None) ∷ []) ((on 5 (Statement-F.Alloc (Held (H.Local 0)) (Constant (pos 16)) GivesNull)) ∷ (on 6 (Statement-F.Alloc (Held (H.Local 1))
    (Constant (pos 16)) GivesNull)) ∷ (on 7 (Statement-F.Alloc (Held (H.Local 2)) (Constant (pos 16)) GivesNull)) ∷ (on 8 (Statement-F.If
    (IsNull (Held (H.Local 0))) ((on 9 (Statement-F.If (IsNull (Held (H.Local 2))) ((on 10 (Statement-F.Leave (Constant (negsuc 3)))) ∷
    []))) ∷ []))) ∷ (on 13 (Statement-F.Free (Held (H.Local 0)))) ∷ (on 14 (Statement-F.Free (Held (H.Local 1)))) ∷ (on 15 (Statement-F.Free
    (Held (H.Local 2)))) ∷ []))) ∷ []) [] [] 0

leak_that_needs_two_failures_every_all_sweep : (length ((runs_of Every script_leak_that_needs_two_failures_every_all_sweep 10000 (shaped
    4096 4096)) 0).trace ≡ 4) × (unfine_in (runs_of Every script_leak_that_needs_two_failures_every_all_sweep 10000 (shaped 4096 4096))
    (part 0 16777216) ≡ (ending 2 (E.Leaked 1)) ∷ []) × ((runs_of Every script_leak_that_needs_two_failures_every_all_sweep 10000 (shaped
    4096 4096)) 2 ≡ result (Ended (Some (negsuc 3)) ((leak 3 32 144) ∷ [])) ((line 1 144 0 Granted) ∷ (line 2 32 144 Simulated) ∷ (line 3 32
    144 Granted) ∷ (line 4 32 176 Simulated) ∷ []) [] [] 6)
unfolding everything
leak_that_needs_two_failures_every_all_sweep = (refl, refl, refl)

abbrev script_leak_without_any_failure_all_sweep : Script
script_leak_without_any_failure_all_sweep = script [] ((procedure 1 [] (body ((OfPointer None) ∷ []) ((on 3 (Statement-F.Alloc (Held
    (H.Local 0)) (Constant (pos 16)) GivesNull)) ∷ []))) ∷ []) [] [] 0

leak_without_any_failure_all_sweep : (length ((runs_of Single script_leak_without_any_failure_all_sweep 10000 (shaped 4096 4096)) 0).trace ≡
    2) × (unfine_in (runs_of Single script_leak_without_any_failure_all_sweep 10000 (shaped 4096 4096)) (part 0 16777216) ≡ (ending 0
    (E.Leaked 1)) ∷ []) × ((runs_of Single script_leak_without_any_failure_all_sweep 10000 (shaped 4096 4096)) 0 ≡ result (Ended None ((leak
    2 32 144) ∷ [])) ((line 1 144 0 Granted) ∷ (line 2 32 144 Granted) ∷ []) [] [] 1)
unfolding everything
leak_without_any_failure_all_sweep = (refl, refl, refl)

abbrev script_part_above_the_last_attempt_all_sweep : Script
script_part_above_the_last_attempt_all_sweep = script [] ((procedure 1 [] (body ((OfPointer None) ∷ (OfPointer None) ∷ (OfPointer None) ∷
    []) ((on 5 (Statement-F.Alloc (Held (H.Local 0)) (Constant (pos 16)) Leaves)) ∷ (on 6 (Statement-F.Alloc (Held (H.Local 1)) (Constant
    (pos 16)) Leaves)) ∷ (on 7 (Statement-F.Alloc (Held (H.Local 2)) (Constant (pos 16)) Leaves)) ∷ (on 8 (Statement-F.Free (Held (H.Local
    0)))) ∷ (on 9 (Statement-F.Free (Held (H.Local 1)))) ∷ (on 10 (Statement-F.Free (Held (H.Local 2)))) ∷ []))) ∷ []) [] [] 0

part_above_the_last_attempt_all_sweep : (length ((runs_of Single script_part_above_the_last_attempt_all_sweep 10000 (shaped 4096 4096))
    0).trace ≡ 4) × (unfine_in (runs_of Single script_part_above_the_last_attempt_all_sweep 10000 (shaped 4096 4096)) (part 5 16777216) ≡
    [])
unfolding everything
part_above_the_last_attempt_all_sweep = (refl, refl)

abbrev script_part_above_the_last_attempt_sweep : Script
script_part_above_the_last_attempt_sweep = script [] ((procedure 1 [] (body ((OfPointer None) ∷ (OfPointer None) ∷ (OfPointer None) ∷ [])
    ((on 5 (Statement-F.Alloc (Held (H.Local 0)) (Constant (pos 16)) Leaves)) ∷ (on 6 (Statement-F.Alloc (Held (H.Local 1)) (Constant (pos
    16)) Leaves)) ∷ (on 7 (Statement-F.Alloc (Held (H.Local 2)) (Constant (pos 16)) Leaves)) ∷ (on 8 (Statement-F.Free (Held (H.Local 0))))
    ∷ (on 9 (Statement-F.Free (Held (H.Local 1)))) ∷ (on 10 (Statement-F.Free (Held (H.Local 2)))) ∷ []))) ∷ []) [] [] 0

part_above_the_last_attempt_sweep : (length ((runs_of Single script_part_above_the_last_attempt_sweep 10000 (shaped 4096 4096)) 0).trace ≡
    4) × (unfine_in (runs_of Single script_part_above_the_last_attempt_sweep 10000 (shaped 4096 4096)) (part 5 9) ≡ [])
unfolding everything
part_above_the_last_attempt_sweep = (refl, refl)

abbrev script_part_from_the_last_attempt_sweep : Script
script_part_from_the_last_attempt_sweep = script [] ((procedure 1 [] (body ((OfPointer None) ∷ (OfPointer None) ∷ (OfPointer None) ∷ [])
    ((on 5 (Statement-F.Alloc (Held (H.Local 0)) (Constant (pos 16)) Leaves)) ∷ (on 6 (Statement-F.Alloc (Held (H.Local 1)) (Constant (pos
    16)) Leaves)) ∷ (on 7 (Statement-F.Alloc (Held (H.Local 2)) (Constant (pos 16)) Leaves)) ∷ (on 8 (Statement-F.Free (Held (H.Local 0))))
    ∷ (on 9 (Statement-F.Free (Held (H.Local 1)))) ∷ (on 10 (Statement-F.Free (Held (H.Local 2)))) ∷ []))) ∷ []) [] [] 0

part_from_the_last_attempt_sweep : (length ((runs_of Single script_part_from_the_last_attempt_sweep 10000 (shaped 4096 4096)) 0).trace ≡ 4)
    × (unfine_numbers (runs_of Single script_part_from_the_last_attempt_sweep 10000 (shaped 4096 4096)) 4 0 ≡ []) × ((runs_of Single
    script_part_from_the_last_attempt_sweep 10000 (shaped 4096 4096)) 4 ≡ result (Ended (Some (negsuc 3)) ((leak 2 32 144) ∷ (leak 3 32 176)
    ∷ [])) ((line 1 144 0 Granted) ∷ (line 2 32 144 Granted) ∷ (line 3 32 176 Granted) ∷ (line 4 32 208 Simulated) ∷ []) [] [] 3)
unfolding everything
part_from_the_last_attempt_sweep = (refl, refl, refl)

abbrev script_part_of_a_run_that_is_cut_sweep : Script
script_part_of_a_run_that_is_cut_sweep = script [] ((procedure 1 [] (body [] ((on 2 (Statement-F.Repeat (Constant (pos 20000)) [])) ∷ [])))
    ∷ []) [] [] 0

part_of_a_run_that_is_cut_sweep : (unfine_numbers (runs_of Single script_part_of_a_run_that_is_cut_sweep 10000 (shaped 4096 4096)) 1 0 ≡ [])
    × (((runs_of Single script_part_of_a_run_that_is_cut_sweep 10000 (shaped 4096 4096)) 0).outcome ≡ Cut Budget)
unfolding everything
part_of_a_run_that_is_cut_sweep = (refl, refl)

abbrev script_part_of_one_number_json_sweep : Script
script_part_of_one_number_json_sweep = script [] ((procedure 1 [] (body ((OfPointer None) ∷ (OfPointer None) ∷ (OfPointer None) ∷ []) ((on 5
    (Statement-F.Alloc (Held (H.Local 0)) (Constant (pos 16)) Leaves)) ∷ (on 6 (Statement-F.Alloc (Held (H.Local 1)) (Constant (pos 16))
    Leaves)) ∷ (on 7 (Statement-F.Alloc (Held (H.Local 2)) (Constant (pos 16)) Leaves)) ∷ (on 8 (Statement-F.Free (Held (H.Local 0)))) ∷ (on
    9 (Statement-F.Free (Held (H.Local 1)))) ∷ (on 10 (Statement-F.Free (Held (H.Local 2)))) ∷ []))) ∷ []) [] [] 0

part_of_one_number_json_sweep : (length ((runs_of Single script_part_of_one_number_json_sweep 10000 (shaped 4096 4096)) 0).trace ≡ 4) ×
    (unfine_numbers (runs_of Single script_part_of_one_number_json_sweep 10000 (shaped 4096 4096)) 3 0 ≡ []) × ((runs_of Single
    script_part_of_one_number_json_sweep 10000 (shaped 4096 4096)) 3 ≡ result (Ended (Some (negsuc 3)) ((leak 2 32 144) ∷ [])) ((line 1 144
    0 Granted) ∷ (line 2 32 144 Granted) ∷ (line 3 32 176 Simulated) ∷ []) [] [] 2)
unfolding everything
part_of_one_number_json_sweep = (refl, refl, refl)

abbrev script_part_of_one_number_sweep : Script
script_part_of_one_number_sweep = script [] ((procedure 1 [] (body ((OfPointer None) ∷ (OfPointer None) ∷ (OfPointer None) ∷ []) ((on 5
    (Statement-F.Alloc (Held (H.Local 0)) (Constant (pos 16)) Leaves)) ∷ (on 6 (Statement-F.Alloc (Held (H.Local 1)) (Constant (pos 16))
    Leaves)) ∷ (on 7 (Statement-F.Alloc (Held (H.Local 2)) (Constant (pos 16)) Leaves)) ∷ (on 8 (Statement-F.Free (Held (H.Local 0)))) ∷ (on
    9 (Statement-F.Free (Held (H.Local 1)))) ∷ (on 10 (Statement-F.Free (Held (H.Local 2)))) ∷ []))) ∷ []) [] [] 0

part_of_one_number_sweep : (length ((runs_of Single script_part_of_one_number_sweep 10000 (shaped 4096 4096)) 0).trace ≡ 4) ×
    (unfine_numbers (runs_of Single script_part_of_one_number_sweep 10000 (shaped 4096 4096)) 3 0 ≡ []) × ((runs_of Single
    script_part_of_one_number_sweep 10000 (shaped 4096 4096)) 3 ≡ result (Ended (Some (negsuc 3)) ((leak 2 32 144) ∷ [])) ((line 1 144 0
    Granted) ∷ (line 2 32 144 Granted) ∷ (line 3 32 176 Simulated) ∷ []) [] [] 2)
unfolding everything
part_of_one_number_sweep = (refl, refl, refl)

abbrev script_part_of_the_rates_sweep : Script
script_part_of_the_rates_sweep = script [] ((procedure 1 [] (body ((OfPointer None) ∷ (OfPointer None) ∷ (OfPointer None) ∷ []) ((on 5
    (Statement-F.Alloc (Held (H.Local 0)) (Constant (pos 16)) GivesNull)) ∷ (on 6 (Statement-F.Alloc (Held (H.Local 1)) (Constant (pos 16))
    GivesNull)) ∷ (on 7 (Statement-F.Alloc (Held (H.Local 2)) (Constant (pos 16)) GivesNull)) ∷ (on 8 (Statement-F.If (IsNull (Held (H.Local
    0))) ((on 9 (Statement-F.If (IsNull (Held (H.Local 2))) ((on 10 (Statement-F.Leave (Constant (negsuc 3)))) ∷ []))) ∷ []))) ∷ (on 13
    (Statement-F.Free (Held (H.Local 0)))) ∷ (on 14 (Statement-F.Free (Held (H.Local 1)))) ∷ (on 15 (Statement-F.Free (Held (H.Local 2)))) ∷
    []))) ∷ []) [] [] 0

part_of_the_rates_sweep : (length ((runs_of Every script_part_of_the_rates_sweep 10000 (shaped 4096 4096)) 0).trace ≡ 4) × (unfine_in
    (runs_of Every script_part_of_the_rates_sweep 10000 (shaped 4096 4096)) (part 3 16777216) ≡ [])
unfolding everything
part_of_the_rates_sweep = (refl, refl)

abbrev script_part_past_a_cut_number_sweep : Script
script_part_past_a_cut_number_sweep = script [] ((procedure 1 [] (body ((OfPointer None) ∷ (OfPointer None) ∷ []) ((on 4 (Statement-F.Alloc
    (Held (H.Local 0)) (Constant (pos 16)) GivesNull)) ∷ (on 5 (Statement-F.If (IsNull (Held (H.Local 0))) ((on 6 (Statement-F.Repeat
    (Constant (pos 20000)) [])) ∷ []))) ∷ (on 9 (Statement-F.Alloc (Held (H.Local 1)) (Constant (pos 16)) Leaves)) ∷ (on 10
    (Statement-F.Free (Held (H.Local 0)))) ∷ (on 11 (Statement-F.Free (Held (H.Local 1)))) ∷ []))) ∷ []) [] [] 0

part_past_a_cut_number_sweep : (length ((runs_of Single script_part_past_a_cut_number_sweep 10000 (shaped 4096 4096)) 0).trace ≡ 3) ×
    (unfine_numbers (runs_of Single script_part_past_a_cut_number_sweep 10000 (shaped 4096 4096)) 3 0 ≡ []) × ((runs_of Single
    script_part_past_a_cut_number_sweep 10000 (shaped 4096 4096)) 3 ≡ result (Ended (Some (negsuc 3)) ((leak 2 32 144) ∷ [])) ((line 1 144 0
    Granted) ∷ (line 2 32 144 Granted) ∷ (line 3 32 176 Simulated) ∷ []) [] [] 3)
unfolding everything
part_past_a_cut_number_sweep = (refl, refl, refl)

abbrev script_part_that_ends_at_a_cut_number_sweep : Script
script_part_that_ends_at_a_cut_number_sweep = script [] ((procedure 1 [] (body ((OfPointer None) ∷ (OfPointer None) ∷ []) ((on 4
    (Statement-F.Alloc (Held (H.Local 0)) (Constant (pos 16)) GivesNull)) ∷ (on 5 (Statement-F.If (IsNull (Held (H.Local 0))) ((on 6
    (Statement-F.Repeat (Constant (pos 20000)) [])) ∷ []))) ∷ (on 9 (Statement-F.Alloc (Held (H.Local 1)) (Constant (pos 16)) Leaves)) ∷ (on
    10 (Statement-F.Free (Held (H.Local 0)))) ∷ (on 11 (Statement-F.Free (Held (H.Local 1)))) ∷ []))) ∷ []) [] [] 0

part_that_ends_at_a_cut_number_sweep : (unfine_numbers (runs_of Single script_part_that_ends_at_a_cut_number_sweep 10000 (shaped 4096 4096))
    0 2 ≡ []) × (((runs_of Single script_part_that_ends_at_a_cut_number_sweep 10000 (shaped 4096 4096)) 2).outcome ≡ Cut Budget)
unfolding everything
part_that_ends_at_a_cut_number_sweep = (refl, refl)

abbrev script_part_that_finds_nothing_sweep : Script
script_part_that_finds_nothing_sweep = script [] ((procedure 1 [] (body ((OfPointer None) ∷ (OfPointer None) ∷ (OfPointer None) ∷ []) ((on 5
    (Statement-F.Alloc (Held (H.Local 0)) (Constant (pos 16)) Leaves)) ∷ (on 6 (Statement-F.Alloc (Held (H.Local 1)) (Constant (pos 16))
    Leaves)) ∷ (on 7 (Statement-F.Alloc (Held (H.Local 2)) (Constant (pos 16)) Leaves)) ∷ (on 8 (Statement-F.Free (Held (H.Local 0)))) ∷ (on
    9 (Statement-F.Free (Held (H.Local 1)))) ∷ (on 10 (Statement-F.Free (Held (H.Local 2)))) ∷ []))) ∷ []) [] [] 0

part_that_finds_nothing_sweep : (length ((runs_of Single script_part_that_finds_nothing_sweep 10000 (shaped 4096 4096)) 0).trace ≡ 4) ×
    (unfine_in (runs_of Single script_part_that_finds_nothing_sweep 10000 (shaped 4096 4096)) (part 0 2) ≡ [])
unfolding everything
part_that_finds_nothing_sweep = (refl, refl)

abbrev script_part_with_all_its_numbers_sweep : Script
script_part_with_all_its_numbers_sweep = script [] ((procedure 1 [] (body ((OfPointer None) ∷ (OfPointer None) ∷ (OfPointer None) ∷ []) ((on
    5 (Statement-F.Alloc (Held (H.Local 0)) (Constant (pos 16)) Leaves)) ∷ (on 6 (Statement-F.Alloc (Held (H.Local 1)) (Constant (pos 16))
    Leaves)) ∷ (on 7 (Statement-F.Alloc (Held (H.Local 2)) (Constant (pos 16)) Leaves)) ∷ (on 8 (Statement-F.Free (Held (H.Local 0)))) ∷ (on
    9 (Statement-F.Free (Held (H.Local 1)))) ∷ (on 10 (Statement-F.Free (Held (H.Local 2)))) ∷ []))) ∷ []) [] [] 0

part_with_all_its_numbers_sweep : (length ((runs_of Single script_part_with_all_its_numbers_sweep 10000 (shaped 4096 4096)) 0).trace ≡ 4) ×
    (unfine_in (runs_of Single script_part_with_all_its_numbers_sweep 10000 (shaped 4096 4096)) (part 4 16777216) ≡ (ending 4 (E.Leaked 2))
    ∷ []) × ((runs_of Single script_part_with_all_its_numbers_sweep 10000 (shaped 4096 4096)) 4 ≡ result (Ended (Some (negsuc 3)) ((leak 2
    32 144) ∷ (leak 3 32 176) ∷ [])) ((line 1 144 0 Granted) ∷ (line 2 32 144 Granted) ∷ (line 3 32 176 Granted) ∷ (line 4 32 208 Simulated)
    ∷ []) [] [] 3)
unfolding everything
part_with_all_its_numbers_sweep = (refl, refl, refl)

abbrev script_part_without_the_run_without_failure_sweep : Script
script_part_without_the_run_without_failure_sweep = script [] ((procedure 1 [] (body ((OfPointer None) ∷ []) ((on 3 (Statement-F.Alloc (Held
    (H.Local 0)) (Constant (pos 16)) GivesNull)) ∷ []))) ∷ []) [] [] 0

part_without_the_run_without_failure_sweep : (length ((runs_of Single script_part_without_the_run_without_failure_sweep 10000 (shaped 4096
    4096)) 0).trace ≡ 2) × (unfine_in (runs_of Single script_part_without_the_run_without_failure_sweep 10000 (shaped 4096 4096)) (part 1
    16777216) ≡ [])
unfolding everything
part_without_the_run_without_failure_sweep = (refl, refl)

abbrev script_run_without_failure_is_cut_all_json_sweep : Script
script_run_without_failure_is_cut_all_json_sweep = script [] ((procedure 1 [] (body [] ((on 2 (Statement-F.Repeat (Constant (pos 20000))
    [])) ∷ []))) ∷ []) [] [] 0

run_without_failure_is_cut_all_json_sweep : ((runs_of Single script_run_without_failure_is_cut_all_json_sweep 10000 (shaped 4096 4096))
    0).outcome ≡ Cut Budget
unfolding everything
run_without_failure_is_cut_all_json_sweep = refl

abbrev script_run_without_failure_is_cut_all_sweep : Script
script_run_without_failure_is_cut_all_sweep = script [] ((procedure 1 [] (body [] ((on 2 (Statement-F.Repeat (Constant (pos 20000)) [])) ∷
    []))) ∷ []) [] [] 0

run_without_failure_is_cut_all_sweep : ((runs_of Single script_run_without_failure_is_cut_all_sweep 10000 (shaped 4096 4096)) 0).outcome ≡
    Cut Budget
unfolding everything
run_without_failure_is_cut_all_sweep = refl

abbrev script_two_of_four_numbers_leak_all_check : Script
script_two_of_four_numbers_leak_all_check = script [] ((procedure 1 [] (body ((OfPointer None) ∷ (OfPointer None) ∷ (OfPointer None) ∷ [])
    ((on 5 (Statement-F.Alloc (Held (H.Local 0)) (Constant (pos 16)) Leaves)) ∷ (on 6 (Statement-F.Alloc (Held (H.Local 1)) (Constant (pos
    16)) Leaves)) ∷ (on 7 (Statement-F.Alloc (Held (H.Local 2)) (Constant (pos 16)) Leaves)) ∷ (on 8 (Statement-F.Free (Held (H.Local 0))))
    ∷ (on 9 (Statement-F.Free (Held (H.Local 1)))) ∷ (on 10 (Statement-F.Free (Held (H.Local 2)))) ∷ []))) ∷ []) [] [] 0

two_of_four_numbers_leak_all_check : (required script_two_of_four_numbers_leak_all_check 10000 (shaped 4096 4096) ≡ 240) × (rises
    script_two_of_four_numbers_leak_all_check 10000 (shaped 4096 4096) ≡ (rise 1 144) ∷ (rise 2 176) ∷ (rise 3 208) ∷ (rise 4 240) ∷ []) ×
    (length ((runs_of Single script_two_of_four_numbers_leak_all_check 10000 (shaped 4096 4096)) 0).trace ≡ 4) × (unfine_in (runs_of Single
    script_two_of_four_numbers_leak_all_check 10000 (shaped 4096 4096)) (part 0 16777216) ≡ (ending 3 (E.Leaked 1)) ∷ (ending 4 (E.Leaked
    2)) ∷ []) × ((runs_of Single script_two_of_four_numbers_leak_all_check 10000 (shaped 4096 4096)) 3 ≡ result (Ended (Some (negsuc 3))
    ((leak 2 32 144) ∷ [])) ((line 1 144 0 Granted) ∷ (line 2 32 144 Granted) ∷ (line 3 32 176 Simulated) ∷ []) [] [] 2)
unfolding everything
two_of_four_numbers_leak_all_check = (refl, refl, refl, refl, refl)

abbrev script_two_of_four_numbers_leak_json_sweep : Script
script_two_of_four_numbers_leak_json_sweep = script [] ((procedure 1 [] (body ((OfPointer None) ∷ (OfPointer None) ∷ (OfPointer None) ∷ [])
    ((on 5 (Statement-F.Alloc (Held (H.Local 0)) (Constant (pos 16)) Leaves)) ∷ (on 6 (Statement-F.Alloc (Held (H.Local 1)) (Constant (pos
    16)) Leaves)) ∷ (on 7 (Statement-F.Alloc (Held (H.Local 2)) (Constant (pos 16)) Leaves)) ∷ (on 8 (Statement-F.Free (Held (H.Local 0))))
    ∷ (on 9 (Statement-F.Free (Held (H.Local 1)))) ∷ (on 10 (Statement-F.Free (Held (H.Local 2)))) ∷ []))) ∷ []) [] [] 0

two_of_four_numbers_leak_json_sweep : (length ((runs_of Single script_two_of_four_numbers_leak_json_sweep 10000 (shaped 4096 4096)) 0).trace
    ≡ 4) × (unfine_in (runs_of Single script_two_of_four_numbers_leak_json_sweep 10000 (shaped 4096 4096)) (part 0 16777216) ≡ (ending 3
    (E.Leaked 1)) ∷ (ending 4 (E.Leaked 2)) ∷ []) × ((runs_of Single script_two_of_four_numbers_leak_json_sweep 10000 (shaped 4096 4096)) 3
    ≡ result (Ended (Some (negsuc 3)) ((leak 2 32 144) ∷ [])) ((line 1 144 0 Granted) ∷ (line 2 32 144 Granted) ∷ (line 3 32 176 Simulated)
    ∷ []) [] [] 2)
unfolding everything
two_of_four_numbers_leak_json_sweep = (refl, refl, refl)

abbrev script_two_of_four_numbers_leak_sweep : Script
script_two_of_four_numbers_leak_sweep = script [] ((procedure 1 [] (body ((OfPointer None) ∷ (OfPointer None) ∷ (OfPointer None) ∷ []) ((on
    5 (Statement-F.Alloc (Held (H.Local 0)) (Constant (pos 16)) Leaves)) ∷ (on 6 (Statement-F.Alloc (Held (H.Local 1)) (Constant (pos 16))
    Leaves)) ∷ (on 7 (Statement-F.Alloc (Held (H.Local 2)) (Constant (pos 16)) Leaves)) ∷ (on 8 (Statement-F.Free (Held (H.Local 0)))) ∷ (on
    9 (Statement-F.Free (Held (H.Local 1)))) ∷ (on 10 (Statement-F.Free (Held (H.Local 2)))) ∷ []))) ∷ []) [] [] 0

two_of_four_numbers_leak_sweep : (length ((runs_of Single script_two_of_four_numbers_leak_sweep 10000 (shaped 4096 4096)) 0).trace ≡ 4) ×
    (unfine_in (runs_of Single script_two_of_four_numbers_leak_sweep 10000 (shaped 4096 4096)) (part 0 16777216) ≡ (ending 3 (E.Leaked 1)) ∷
    (ending 4 (E.Leaked 2)) ∷ []) × ((runs_of Single script_two_of_four_numbers_leak_sweep 10000 (shaped 4096 4096)) 3 ≡ result (Ended (Some
    (negsuc 3)) ((leak 2 32 144) ∷ [])) ((line 1 144 0 Granted) ∷ (line 2 32 144 Granted) ∷ (line 3 32 176 Simulated) ∷ []) [] [] 2)
unfolding everything
two_of_four_numbers_leak_sweep = (refl, refl, refl)
