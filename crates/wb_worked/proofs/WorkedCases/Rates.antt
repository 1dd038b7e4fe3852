-- Worked cases of `rates`, each by computing. Written by tools/cases_to_theorems.py; edit nothing here.
use Rattle.std.specs.Prelude.{◌≡◌, refl, pos, negsuc, [], ◌∷◌, length, Some, None}
use Rattle.wb_runs.specs.declared.failures.Failures.TheVariants.{Every}
use Rattle.wb_heap_model.specs.declared.heap.Rule.TheVariants as R
use Rattle.wb_heap_model.specs.declared.heap.Panic.TheVariants as P
use Rattle.wb_tree.specs.declared.script.Holder.TheVariants as H
use Rattle.wb_heap_model.specs.declared.heap.Answer.TheVariants.{Granted, Simulated}
use Rattle.wb_meaning.specs.declared.run.Why.TheVariants.{Budget}
use Rattle.wb_meaning.specs.declared.run.Outcome.TheVariants.{Ended, Panicked, Cut}
use Rattle.wb_tree.specs.declared.script.Script.{Script}
use Rattle.wb_tree.specs.declared.script.Local.TheVariants.{OfPointer}
use Rattle.wb_tree.specs.declared.script.Pointer.TheVariants.{Held}
use Rattle.wb_tree.specs.declared.script.Number.TheVariants.{Constant}
use Rattle.wb_tree.specs.declared.script.Condition.TheVariants.{IsNull, NotNull}
use Rattle.wb_tree.specs.declared.script.Refusal.TheVariants.{GivesNull, Leaves}
use Rattle.wb_tree.specs.declared.script.Statement.TheOpen.{Statement-F}
use Rattle.wb_meaning.specs.Run.{run, required, rises}
use Rattle.wb_runs.specs.Sweeps.{runs_of, least_bad_or_cut}
use Rattle.wb_worked.specs.Shorthands.{everything, on, script, procedure, body, result, leak, shaped, line, rise}

abbrev script_attempts_that_the_script_refuses_count_run : Script
script_attempts_that_the_script_refuses_count_run = script [] ((procedure 1 [] (body ((OfPointer None) ∷ []) ((on 3 (Statement-F.FailEvery
    (Constant (pos 1)))) ∷ (on 4 (Statement-F.Alloc (Held (H.Local 0)) (Constant (pos 0)) GivesNull)) ∷ (on 5 (Statement-F.Alloc (Held
    (H.Local 0)) (Constant (pos 0)) GivesNull)) ∷ (on 6 Statement-F.FailNone) ∷ (on 7 (Statement-F.Alloc (Held (H.Local 0)) (Constant (pos
    0)) GivesNull)) ∷ (on 8 (Statement-F.Alloc (Held (H.Local 0)) (Constant (pos 0)) GivesNull)) ∷ []))) ∷ []) [] [] 0

attempts_that_the_script_refuses_count_run : run script_attempts_that_the_script_refuses_count_run (R.Every 4) 10000 (shaped 4096 4096) ≡
    result (Ended None ((leak 5 16 144) ∷ [])) ((line 1 144 0 Granted) ∷ (line 2 16 144 Simulated) ∷ (line 3 16 144 Simulated) ∷ (line 4 16
    144 Simulated) ∷ (line 5 16 144 Granted) ∷ []) [] [] 6
unfolding everything
attempts_that_the_script_refuses_count_run = refl

abbrev script_eighth_push_grows_the_cleanup_cell_every_sweep : Script
script_eighth_push_grows_the_cleanup_cell_every_sweep = script [] ((procedure 1 [] (body ((OfPointer None) ∷ []) ((on 3 (Statement-F.Repeat
    (Constant (pos 8)) ((on 4 (Statement-F.Alloc (Held (H.Local 0)) (Constant (pos 16)) Leaves)) ∷ (on 5 (Statement-F.Push (Held (H.Local
    0)))) ∷ []))) ∷ (on 7 (Statement-F.PopDestroy (Constant (pos 8)))) ∷ []))) ∷ []) [] [] 0

eighth_push_grows_the_cleanup_cell_every_sweep : (length (runs_of Every script_eighth_push_grows_the_cleanup_cell_every_sweep 10000 (shaped
    4096 4096) 0).trace ≡ 10) × (least_bad_or_cut Every script_eighth_push_grows_the_cleanup_cell_every_sweep 10000 (shaped 4096 4096) ≡
    None)
unfolding everything
eighth_push_grows_the_cleanup_cell_every_sweep = (refl, refl)

abbrev script_fallback_that_rate_3_refuses_sweep : Script
script_fallback_that_rate_3_refuses_sweep = script [] ((procedure 1 [] (body ((OfPointer None) ∷ (OfPointer None) ∷ []) ((on 4
    (Statement-F.Alloc (Held (H.Local 1)) (Constant (pos 16)) GivesNull)) ∷ (on 5 (Statement-F.Alloc (Held (H.Local 0)) (Constant (pos 16))
    GivesNull)) ∷ (on 6 (Statement-F.If (IsNull (Held (H.Local 0))) ((on 7 (Statement-F.Free (Held (H.Local 1)))) ∷ (on 8 (Statement-F.Alloc
    (Held (H.Local 1)) (Constant (pos 16)) GivesNull)) ∷ (on 9 (Statement-F.Free (Held (H.Local 1)))) ∷ (on 10 (Statement-F.Alloc (Held
    (H.Local 1)) (Constant (pos 16)) GivesNull)) ∷ (on 11 (Statement-F.Alloc (Held (H.Local 0)) (Constant (pos 0)) GivesNull)) ∷ (on 12
    (Statement-F.Store (Held (H.Local 0)) (Constant (pos 0)) (Constant (pos 7)))) ∷ []))) ∷ (on 14 (Statement-F.Free (Held (H.Local 0)))) ∷
    (on 15 (Statement-F.Free (Held (H.Local 1)))) ∷ []))) ∷ []) [] [] 0

fallback_that_rate_3_refuses_sweep : (length (runs_of Every script_fallback_that_rate_3_refuses_sweep 10000 (shaped 4096 4096) 0).trace ≡ 3)
    × (least_bad_or_cut Every script_fallback_that_rate_3_refuses_sweep 10000 (shaped 4096 4096) ≡ Some 3) × (runs_of Every
    script_fallback_that_rate_3_refuses_sweep 10000 (shaped 4096 4096) 3 ≡ result (Panicked (P.Workbench 1)) ((line 1 144 0 Granted) ∷ (line
    2 32 144 Granted) ∷ (line 3 32 176 Simulated) ∷ (line 4 32 144 Granted) ∷ (line 5 32 144 Granted) ∷ (line 6 16 176 Simulated) ∷ []) []
    [] 9)
unfolding everything
fallback_that_rate_3_refuses_sweep = (refl, refl, refl)

abbrev script_first_rate_that_is_cut_check : Script
script_first_rate_that_is_cut_check = script [] ((procedure 1 [] (body ((OfPointer None) ∷ []) ((on 3 (Statement-F.Alloc (Held (H.Local 0))
    (Constant (pos 16)) GivesNull)) ∷ (on 4 (Statement-F.If (IsNull (Held (H.Local 0))) ((on 5 (Statement-F.Repeat (Constant (pos 200)) []))
    ∷ []))) ∷ (on 8 (Statement-F.Free (Held (H.Local 0)))) ∷ []))) ∷ []) [] [] 0

first_rate_that_is_cut_check : (required script_first_rate_that_is_cut_check 100 (shaped 4096 4096) ≡ 176) × (rises
    script_first_rate_that_is_cut_check 100 (shaped 4096 4096) ≡ (rise 1 144) ∷ (rise 2 176) ∷ []) × (least_bad_or_cut Every
    script_first_rate_that_is_cut_check 100 (shaped 4096 4096) ≡ Some 2) × ((runs_of Every script_first_rate_that_is_cut_check 100 (shaped
    4096 4096) 2).outcome ≡ Cut Budget)
unfolding everything
first_rate_that_is_cut_check = (refl, refl, refl, refl)

abbrev script_first_rate_that_is_cut_sweep : Script
script_first_rate_that_is_cut_sweep = script [] ((procedure 1 [] (body ((OfPointer None) ∷ []) ((on 3 (Statement-F.Alloc (Held (H.Local 0))
    (Constant (pos 16)) GivesNull)) ∷ (on 4 (Statement-F.If (IsNull (Held (H.Local 0))) ((on 5 (Statement-F.Repeat (Constant (pos 200)) []))
    ∷ []))) ∷ (on 8 (Statement-F.Free (Held (H.Local 0)))) ∷ []))) ∷ []) [] [] 0

first_rate_that_is_cut_sweep : (least_bad_or_cut Every script_first_rate_that_is_cut_sweep 100 (shaped 4096 4096) ≡ Some 2) × ((runs_of
    Every script_first_rate_that_is_cut_sweep 100 (shaped 4096 4096) 2).outcome ≡ Cut Budget)
unfolding everything
first_rate_that_is_cut_sweep = (refl, refl)

abbrev script_last_rate_that_can_differ_sweep : Script
script_last_rate_that_can_differ_sweep = script [] ((procedure 1 [] (body ((OfPointer None) ∷ (OfPointer None) ∷ []) ((on 4
    (Statement-F.Alloc (Held (H.Local 0)) (Constant (pos 16)) GivesNull)) ∷ (on 5 (Statement-F.Alloc (Held (H.Local 1)) (Constant (pos 16))
    GivesNull)) ∷ (on 6 (Statement-F.Store (Held (H.Local 1)) (Constant (pos 0)) (Constant (pos 7)))) ∷ (on 7 (Statement-F.Free (Held
    (H.Local 0)))) ∷ (on 8 (Statement-F.Free (Held (H.Local 1)))) ∷ []))) ∷ []) [] [] 0

last_rate_that_can_differ_sweep : (length (runs_of Every script_last_rate_that_can_differ_sweep 10000 (shaped 4096 4096) 0).trace ≡ 3) ×
    (least_bad_or_cut Every script_last_rate_that_can_differ_sweep 10000 (shaped 4096 4096) ≡ Some 3) × (runs_of Every
    script_last_rate_that_can_differ_sweep 10000 (shaped 4096 4096) 3 ≡ result (Panicked (P.Workbench 1)) ((line 1 144 0 Granted) ∷ (line 2
    32 144 Granted) ∷ (line 3 32 176 Simulated) ∷ []) [] [] 3)
unfolding everything
last_rate_that_can_differ_sweep = (refl, refl, refl)

abbrev script_leak_before_a_cut_at_a_greater_rate_sweep : Script
script_leak_before_a_cut_at_a_greater_rate_sweep = script [] ((procedure 1 [] (body ((OfPointer None) ∷ (OfPointer None) ∷ (OfPointer None)
    ∷ []) ((on 5 (Statement-F.Alloc (Held (H.Local 0)) (Constant (pos 16)) GivesNull)) ∷ (on 6 (Statement-F.Alloc (Held (H.Local 1))
    (Constant (pos 16)) GivesNull)) ∷ (on 7 (Statement-F.If (IsNull (Held (H.Local 0))) ((on 8 (Statement-F.SetNull (Held (H.Local 1)))) ∷
    []))) ∷ (on 10 (Statement-F.If (IsNull (Held (H.Local 1))) ((on 11 (Statement-F.If (NotNull (Held (H.Local 0))) ((on 12
    (Statement-F.Repeat (Constant (pos 200)) [])) ∷ []))) ∷ []))) ∷ (on 16 (Statement-F.Free (Held (H.Local 0)))) ∷ (on 17 (Statement-F.Free
    (Held (H.Local 1)))) ∷ []))) ∷ []) [] [] 0

leak_before_a_cut_at_a_greater_rate_sweep : (length (runs_of Every script_leak_before_a_cut_at_a_greater_rate_sweep 100 (shaped 4096 4096)
    0).trace ≡ 3) × (least_bad_or_cut Every script_leak_before_a_cut_at_a_greater_rate_sweep 100 (shaped 4096 4096) ≡ Some 2) × (runs_of
    Every script_leak_before_a_cut_at_a_greater_rate_sweep 100 (shaped 4096 4096) 2 ≡ result (Ended None ((leak 3 32 144) ∷ [])) ((line 1
    144 0 Granted) ∷ (line 2 32 144 Simulated) ∷ (line 3 32 144 Granted) ∷ []) [] [] 8)
unfolding everything
leak_before_a_cut_at_a_greater_rate_sweep = (refl, refl, refl)

abbrev script_leak_that_needs_two_failures_every_json_sweep : Script
script_leak_that_needs_two_failures_every_json_sweep = script [] ((procedure 1 [] (body ((OfPointer None) ∷ (OfPointer None) ∷ (OfPointer
    None) ∷ []) ((on 5 (Statement-F.Alloc (Held (H.Local 0)) (Constant (pos 16)) GivesNull)) ∷ (on 6 (Statement-F.Alloc (Held (H.Local 1))
    (Constant (pos 16)) GivesNull)) ∷ (on 7 (Statement-F.Alloc (Held (H.Local 2)) (Constant (pos 16)) GivesNull)) ∷ (on 8 (Statement-F.If
    (IsNull (Held (H.Local 0))) ((on 9 (Statement-F.If (IsNull (Held (H.Local 2))) ((on 10 (Statement-F.Leave (Constant (negsuc 3)))) ∷
    []))) ∷ []))) ∷ (on 13 (Statement-F.Free (Held (H.Local 0)))) ∷ (on 14 (Statement-F.Free (Held (H.Local 1)))) ∷ (on 15 (Statement-F.Free
    (Held (H.Local 2)))) ∷ []))) ∷ []) [] [] 0

leak_that_needs_two_failures_every_json_sweep : (length (runs_of Every script_leak_that_needs_two_failures_every_json_sweep 10000 (shaped
    4096 4096) 0).trace ≡ 4) × (least_bad_or_cut Every script_leak_that_needs_two_failures_every_json_sweep 10000 (shaped 4096 4096) ≡ Some
    2) × (runs_of Every script_leak_that_needs_two_failures_every_json_sweep 10000 (shaped 4096 4096) 2 ≡ result (Ended (Some (negsuc 3))
    ((leak 3 32 144) ∷ [])) ((line 1 144 0 Granted) ∷ (line 2 32 144 Simulated) ∷ (line 3 32 144 Granted) ∷ (line 4 32 176 Simulated) ∷ [])
    [] [] 6)
unfolding everything
leak_that_needs_two_failures_every_json_sweep = (refl, refl, refl)

abbrev script_leak_that_needs_two_failures_every_run : Script
script_leak_that_needs_two_failures_every_run = script [] ((procedure 1 [] (body ((OfPointer None) ∷ (OfPointer None) ∷ (OfPointer None) ∷
    []) ((on 5 (Statement-F.Alloc (Held (H.Local 0)) (Constant (pos 16)) GivesNull)) ∷ (on 6 (Statement-F.Alloc (Held (H.Local 1)) (Constant
    (pos 16)) GivesNull)) ∷ (on 7 (Statement-F.Alloc (Held (H.Local 2)) (Constant (pos 16)) GivesNull)) ∷ (on 8 (Statement-F.If (IsNull
    (Held (H.Local 0))) ((on 9 (Statement-F.If (IsNull (Held (H.Local 2))) ((on 10 (Statement-F.Leave (Constant (negsuc 3)))) ∷ []))) ∷
    []))) ∷ (on 13 (Statement-F.Free (Held (H.Local 0)))) ∷ (on 14 (Statement-F.Free (Held (H.Local 1)))) ∷ (on 15 (Statement-F.Free (Held
    (H.Local 2)))) ∷ []))) ∷ []) [] [] 0

leak_that_needs_two_failures_every_run : run script_leak_that_needs_two_failures_every_run (R.Every 2) 10000 (shaped 4096 4096) ≡ result
    (Ended (Some (negsuc 3)) ((leak 3 32 144) ∷ [])) ((line 1 144 0 Granted) ∷ (line 2 32 144 Simulated) ∷ (line 3 32 144 Granted) ∷ (line 4
    32 176 Simulated) ∷ []) [] [] 6
unfolding everything
leak_that_needs_two_failures_every_run = refl

abbrev script_leak_that_needs_two_failures_every_sweep : Script
script_leak_that_needs_two_failures_every_sweep = script [] ((procedure 1 [] (body ((OfPointer None) ∷ (OfPointer None) ∷ (OfPointer None) ∷
    []) ((on 5 (Statement-F.Alloc (Held (H.Local 0)) (Constant (pos 16)) GivesNull)) ∷ (on 6 (Statement-F.Alloc (Held (H.Local 1)) (Constant
    (pos 16)) GivesNull)) ∷ (on 7 (Statement-F.Alloc (Held (H.Local 2)) (Constant (pos 16)) GivesNull)) ∷ (on 8 (Statement-F.If (IsNull
    (Held (H.Local 0))) ((on 9 (Statement-F.If (IsNull (Held (H.Local 2))) ((on 10 (Statement-F.Leave (Constant (negsuc 3)))) ∷ []))) ∷
    []))) ∷ (on 13 (Statement-F.Free (Held (H.Local 0)))) ∷ (on 14 (Statement-F.Free (Held (H.Local 1)))) ∷ (on 15 (Statement-F.Free (Held
    (H.Local 2)))) ∷ []))) ∷ []) [] [] 0

leak_that_needs_two_failures_every_sweep : (length (runs_of Every script_leak_that_needs_two_failures_every_sweep 10000 (shaped 4096 4096)
    0).trace ≡ 4) × (least_bad_or_cut Every script_leak_that_needs_two_failures_every_sweep 10000 (shaped 4096 4096) ≡ Some 2) × (runs_of
    Every script_leak_that_needs_two_failures_every_sweep 10000 (shaped 4096 4096) 2 ≡ result (Ended (Some (negsuc 3)) ((leak 3 32 144) ∷
    [])) ((line 1 144 0 Granted) ∷ (line 2 32 144 Simulated) ∷ (line 3 32 144 Granted) ∷ (line 4 32 176 Simulated) ∷ []) [] [] 6)
unfolding everything
leak_that_needs_two_failures_every_sweep = (refl, refl, refl)

abbrev script_rate_0_finds_a_leak_sweep : Script
script_rate_0_finds_a_leak_sweep = script [] ((procedure 1 [] (body ((OfPointer None) ∷ []) ((on 3 (Statement-F.Alloc (Held (H.Local 0))
    (Constant (pos 16)) GivesNull)) ∷ []))) ∷ []) [] [] 0

rate_0_finds_a_leak_sweep : (length (runs_of Every script_rate_0_finds_a_leak_sweep 10000 (shaped 4096 4096) 0).trace ≡ 2) ×
    (least_bad_or_cut Every script_rate_0_finds_a_leak_sweep 10000 (shaped 4096 4096) ≡ Some 0) × (runs_of Every
    script_rate_0_finds_a_leak_sweep 10000 (shaped 4096 4096) 0 ≡ result (Ended None ((leak 2 32 144) ∷ [])) ((line 1 144 0 Granted) ∷ (line
    2 32 144 Granted) ∷ []) [] [] 1)
unfolding everything
rate_0_finds_a_leak_sweep = (refl, refl, refl)

abbrev script_rate_0_refuses_nothing_run : Script
script_rate_0_refuses_nothing_run = script [] ((procedure 1 [] (body ((OfPointer None) ∷ []) ((on 3 (Statement-F.Alloc (Held (H.Local 0))
    (Constant (pos 16)) GivesNull)) ∷ (on 4 (Statement-F.Realloc (Held (H.Local 0)) (Held (H.Local 0)) (Constant (pos 32)) GivesNull)) ∷ (on
    5 (Statement-F.Free (Held (H.Local 0)))) ∷ []))) ∷ []) [] [] 0

rate_0_refuses_nothing_run : run script_rate_0_refuses_nothing_run (R.Every 0) 10000 (shaped 4096 4096) ≡ result (Ended None []) ((line 1
    144 0 Granted) ∷ (line 2 32 144 Granted) ∷ (line 3 48 144 Granted) ∷ []) [] [] 3
unfolding everything
rate_0_refuses_nothing_run = refl

abbrev script_rate_counts_from_attempt_1_run : Script
script_rate_counts_from_attempt_1_run = script [] ((procedure 1 [] (body ((OfPointer None) ∷ (OfPointer None) ∷ (OfPointer None) ∷
    (OfPointer None) ∷ (OfPointer None) ∷ []) ((on 7 (Statement-F.Alloc (Held (H.Local 0)) (Constant (pos 16)) GivesNull)) ∷ (on 8
    (Statement-F.FailEvery (Constant (pos 4)))) ∷ (on 9 (Statement-F.Alloc (Held (H.Local 1)) (Constant (pos 16)) GivesNull)) ∷ (on 10
    (Statement-F.Alloc (Held (H.Local 2)) (Constant (pos 16)) GivesNull)) ∷ (on 11 Statement-F.FailNone) ∷ (on 12 (Statement-F.Alloc (Held
    (H.Local 3)) (Constant (pos 16)) GivesNull)) ∷ (on 13 (Statement-F.Alloc (Held (H.Local 4)) (Constant (pos 16)) GivesNull)) ∷ []))) ∷
    []) [] [] 0

rate_counts_from_attempt_1_run : run script_rate_counts_from_attempt_1_run (R.Every 3) 10000 (shaped 4096 4096) ≡ result (Ended None ((leak
    2 32 144) ∷ (leak 4 32 176) ∷ (leak 5 32 208) ∷ [])) ((line 1 144 0 Granted) ∷ (line 2 32 144 Granted) ∷ (line 3 32 176 Simulated) ∷
    (line 4 32 176 Granted) ∷ (line 5 32 208 Granted) ∷ (line 6 32 240 Simulated) ∷ []) [] [] 7
unfolding everything
rate_counts_from_attempt_1_run = refl

abbrev script_retry_that_fails_again_every_sweep : Script
script_retry_that_fails_again_every_sweep = script [] ((procedure 1 [] (body ((OfPointer None) ∷ (OfPointer None) ∷ []) ((on 4
    (Statement-F.Alloc (Held (H.Local 1)) (Constant (pos 16)) GivesNull)) ∷ (on 5 (Statement-F.Alloc (Held (H.Local 0)) (Constant (pos 16))
    GivesNull)) ∷ (on 6 (Statement-F.If (IsNull (Held (H.Local 0))) ((on 7 (Statement-F.Alloc (Held (H.Local 0)) (Constant (pos 16))
    GivesNull)) ∷ (on 8 (Statement-F.If (IsNull (Held (H.Local 0))) ((on 9 (Statement-F.Leave (Constant (negsuc 3)))) ∷ []))) ∷ []))) ∷ (on
    12 (Statement-F.Free (Held (H.Local 0)))) ∷ (on 13 (Statement-F.Free (Held (H.Local 1)))) ∷ []))) ∷ []) [] [] 0

retry_that_fails_again_every_sweep : (length (runs_of Every script_retry_that_fails_again_every_sweep 10000 (shaped 4096 4096) 0).trace ≡ 3)
    × (least_bad_or_cut Every script_retry_that_fails_again_every_sweep 10000 (shaped 4096 4096) ≡ None)
unfolding everything
retry_that_fails_again_every_sweep = (refl, refl)

abbrev script_setting_and_rate_name_one_attempt_run : Script
script_setting_and_rate_name_one_attempt_run = script [] ((procedure 1 [] (body ((OfPointer None) ∷ (OfPointer None) ∷ (OfPointer None) ∷
    (OfPointer None) ∷ []) ((on 6 (Statement-F.FailEvery (Constant (pos 3)))) ∷ (on 7 (Statement-F.Alloc (Held (H.Local 0)) (Constant (pos
    0)) GivesNull)) ∷ (on 8 (Statement-F.Alloc (Held (H.Local 1)) (Constant (pos 0)) GivesNull)) ∷ (on 9 (Statement-F.Alloc (Held (H.Local
    2)) (Constant (pos 0)) GivesNull)) ∷ (on 10 (Statement-F.Alloc (Held (H.Local 3)) (Constant (pos 0)) GivesNull)) ∷ []))) ∷ []) [] [] 0

setting_and_rate_name_one_attempt_run : run script_setting_and_rate_name_one_attempt_run (R.Every 2) 10000 (shaped 4096 4096) ≡ result
    (Ended None ((leak 3 16 144) ∷ (leak 5 16 160) ∷ [])) ((line 1 144 0 Granted) ∷ (line 2 16 144 Simulated) ∷ (line 3 16 144 Granted) ∷
    (line 4 16 160 Simulated) ∷ (line 5 16 160 Granted) ∷ []) [] [] 5
unfolding everything
setting_and_rate_name_one_attempt_run = refl
