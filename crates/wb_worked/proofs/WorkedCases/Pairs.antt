-- Worked cases of `pairs`, each by computing. Written by tools/cases_to_theorems.py; edit nothing here.
use Rattle.std.specs.Prelude.{◌≡◌, refl, pos, negsuc, [], ◌∷◌, length, Some, None}
use Rattle.wb_runs.specs.declared.failures.Failures.TheVariants.{Pairs}
use Rattle.wb_heap_model.specs.declared.heap.Rule.TheVariants as R
use Rattle.wb_tree.specs.declared.script.Holder.TheVariants as H
use Rattle.wb_heap_model.specs.declared.heap.Answer.TheVariants.{Granted, Simulated}
use Rattle.wb_meaning.specs.declared.run.Outcome.TheVariants.{Ended}
use Rattle.wb_tree.specs.declared.script.Script.{Script}
use Rattle.wb_tree.specs.declared.script.Local.TheVariants.{OfPointer}
use Rattle.wb_tree.specs.declared.script.Pointer.TheVariants.{Held}
use Rattle.wb_tree.specs.declared.script.Number.TheVariants.{Constant}
use Rattle.wb_tree.specs.declared.script.Condition.TheVariants.{IsNull}
use Rattle.wb_tree.specs.declared.script.Refusal.TheVariants.{GivesNull, Leaves}
use Rattle.wb_tree.specs.declared.script.Statement.TheOpen.{Statement-F}
use Rattle.wb_meaning.specs.Run.{run}
use Rattle.wb_runs.specs.Pairs.{pair_run, least_bad_or_cut_pair}
use Rattle.wb_runs.specs.Sweeps.{runs_of, least_bad_or_cut}
use Rattle.wb_worked.specs.Shorthands.{everything, on, script, procedure, body, result, leak, shaped, line}

abbrev script_eighth_push_grows_the_cleanup_cell_pairs_sweep : Script
script_eighth_push_grows_the_cleanup_cell_pairs_sweep = script [] ((procedure 1 [] (body ((OfPointer None) ∷ []) ((on 3 (Statement-F.Repeat
    (Constant (pos 8)) ((on 4 (Statement-F.Alloc (Held (H.Local 0)) (Constant (pos 16)) Leaves)) ∷ (on 5 (Statement-F.Push (Held (H.Local
    0)))) ∷ []))) ∷ (on 7 (Statement-F.PopDestroy (Constant (pos 8)))) ∷ []))) ∷ []) [] [] 0

eighth_push_grows_the_cleanup_cell_pairs_sweep : (length (runs_of Pairs script_eighth_push_grows_the_cleanup_cell_pairs_sweep 10000 (shaped
    4096 4096) 0).trace ≡ 10) × (least_bad_or_cut Pairs script_eighth_push_grows_the_cleanup_cell_pairs_sweep 10000 (shaped 4096 4096) ≡
    None) × (least_bad_or_cut_pair script_eighth_push_grows_the_cleanup_cell_pairs_sweep 10000 (shaped 4096 4096) ≡ None)
unfolding everything
eighth_push_grows_the_cleanup_cell_pairs_sweep = (refl, refl, refl)

abbrev script_leak_that_needs_two_failures_pair_run : Script
script_leak_that_needs_two_failures_pair_run = script [] ((procedure 1 [] (body ((OfPointer None) ∷ (OfPointer None) ∷ (OfPointer None) ∷
    []) ((on 5 (Statement-F.Alloc (Held (H.Local 0)) (Constant (pos 16)) GivesNull)) ∷ (on 6 (Statement-F.Alloc (Held (H.Local 1)) (Constant
    (pos 16)) GivesNull)) ∷ (on 7 (Statement-F.Alloc (Held (H.Local 2)) (Constant (pos 16)) GivesNull)) ∷ (on 8 (Statement-F.If (IsNull
    (Held (H.Local 0))) ((on 9 (Statement-F.If (IsNull (Held (H.Local 2))) ((on 10 (Statement-F.Leave (Constant (negsuc 3)))) ∷ []))) ∷
    []))) ∷ (on 13 (Statement-F.Free (Held (H.Local 0)))) ∷ (on 14 (Statement-F.Free (Held (H.Local 1)))) ∷ (on 15 (Statement-F.Free (Held
    (H.Local 2)))) ∷ []))) ∷ []) [] [] 0

leak_that_needs_two_failures_pair_run : run script_leak_that_needs_two_failures_pair_run (R.Pair 2 4) 10000 (shaped 4096 4096) ≡ result
    (Ended (Some (negsuc 3)) ((leak 3 32 144) ∷ [])) ((line 1 144 0 Granted) ∷ (line 2 32 144 Simulated) ∷ (line 3 32 144 Granted) ∷ (line 4
    32 176 Simulated) ∷ []) [] [] 6
unfolding everything
leak_that_needs_two_failures_pair_run = refl

abbrev script_leak_that_needs_two_failures_pairs_json_sweep : Script
script_leak_that_needs_two_failures_pairs_json_sweep = script [] ((procedure 1 [] (body ((OfPointer None) ∷ (OfPointer None) ∷ (OfPointer
    None) ∷ []) ((on 5 (Statement-F.Alloc (Held (H.Local 0)) (Constant (pos 16)) GivesNull)) ∷ (on 6 (Statement-F.Alloc (Held (H.Local 1))
    (Constant (pos 16)) GivesNull)) ∷ (on 7 (Statement-F.Alloc (Held (H.Local 2)) (Constant (pos 16)) GivesNull)) ∷ (on 8 (Statement-F.If
    (IsNull (Held (H.Local 0))) ((on 9 (Statement-F.If (IsNull (Held (H.Local 2))) ((on 10 (Statement-F.Leave (Constant (negsuc 3)))) ∷
    []))) ∷ []))) ∷ (on 13 (Statement-F.Free (Held (H.Local 0)))) ∷ (on 14 (Statement-F.Free (Held (H.Local 1)))) ∷ (on 15 (Statement-F.Free
    (Held (H.Local 2)))) ∷ []))) ∷ []) [] [] 0

leak_that_needs_two_failures_pairs_json_sweep : (length (runs_of Pairs script_leak_that_needs_two_failures_pairs_json_sweep 10000 (shaped
    4096 4096) 0).trace ≡ 4) × (least_bad_or_cut Pairs script_leak_that_needs_two_failures_pairs_json_sweep 10000 (shaped 4096 4096) ≡ None)
    × (least_bad_or_cut_pair script_leak_that_needs_two_failures_pairs_json_sweep 10000 (shaped 4096 4096) ≡ Some (2, 4)) × (pair_run
    script_leak_that_needs_two_failures_pairs_json_sweep 10000 (shaped 4096 4096) 2 4 ≡ result (Ended (Some (negsuc 3)) ((leak 3 32 144) ∷
    [])) ((line 1 144 0 Granted) ∷ (line 2 32 144 Simulated) ∷ (line 3 32 144 Granted) ∷ (line 4 32 176 Simulated) ∷ []) [] [] 6)
unfolding everything
leak_that_needs_two_failures_pairs_json_sweep = (refl, refl, refl, refl)

abbrev script_leak_that_needs_two_failures_pairs_sweep : Script
script_leak_that_needs_two_failures_pairs_sweep = script [] ((procedure 1 [] (body ((OfPointer None) ∷ (OfPointer None) ∷ (OfPointer None) ∷
    []) ((on 5 (Statement-F.Alloc (Held (H.Local 0)) (Constant (pos 16)) GivesNull)) ∷ (on 6 (Statement-F.Alloc (Held (H.Local 1)) (Constant
    (pos 16)) GivesNull)) ∷ (on 7 (Statement-F.Alloc (Held (H.Local 2)) (Constant (pos 16)) GivesNull)) ∷ (on 8 (Statement-F.If (IsNull
    (Held (H.Local 0))) ((on 9 (Statement-F.If (IsNull (Held (H.Local 2))) ((on 10 (Statement-F.Leave (Constant (negsuc 3)))) ∷ []))) ∷
    []))) ∷ (on 13 (Statement-F.Free (Held (H.Local 0)))) ∷ (on 14 (Statement-F.Free (Held (H.Local 1)))) ∷ (on 15 (Statement-F.Free (Held
    (H.Local 2)))) ∷ []))) ∷ []) [] [] 0

leak_that_needs_two_failures_pairs_sweep : (length (runs_of Pairs script_leak_that_needs_two_failures_pairs_sweep 10000 (shaped 4096 4096)
    0).trace ≡ 4) × (least_bad_or_cut Pairs script_leak_that_needs_two_failures_pairs_sweep 10000 (shaped 4096 4096) ≡ None) ×
    (least_bad_or_cut_pair script_leak_that_needs_two_failures_pairs_sweep 10000 (shaped 4096 4096) ≡ Some (2, 4)) × (pair_run
    script_leak_that_needs_two_failures_pairs_sweep 10000 (shaped 4096 4096) 2 4 ≡ result (Ended (Some (negsuc 3)) ((leak 3 32 144) ∷ []))
    ((line 1 144 0 Granted) ∷ (line 2 32 144 Simulated) ∷ (line 3 32 144 Granted) ∷ (line 4 32 176 Simulated) ∷ []) [] [] 6)
unfolding everything
leak_that_needs_two_failures_pairs_sweep = (refl, refl, refl, refl)

abbrev script_leak_without_any_failure_pairs_sweep : Script
script_leak_without_any_failure_pairs_sweep = script [] ((procedure 1 [] (body ((OfPointer None) ∷ []) ((on 3 (Statement-F.Alloc (Held
    (H.Local 0)) (Constant (pos 16)) GivesNull)) ∷ []))) ∷ []) [] [] 0

leak_without_any_failure_pairs_sweep : (length (runs_of Pairs script_leak_without_any_failure_pairs_sweep 10000 (shaped 4096 4096) 0).trace
    ≡ 2) × (least_bad_or_cut Pairs script_leak_without_any_failure_pairs_sweep 10000 (shaped 4096 4096) ≡ Some 0) × (runs_of Pairs
    script_leak_without_any_failure_pairs_sweep 10000 (shaped 4096 4096) 0 ≡ result (Ended None ((leak 2 32 144) ∷ [])) ((line 1 144 0
    Granted) ∷ (line 2 32 144 Granted) ∷ []) [] [] 1)
unfolding everything
leak_without_any_failure_pairs_sweep = (refl, refl, refl)

abbrev script_retry_that_fails_again_pairs_sweep : Script
script_retry_that_fails_again_pairs_sweep = script [] ((procedure 1 [] (body ((OfPointer None) ∷ (OfPointer None) ∷ []) ((on 4
    (Statement-F.Alloc (Held (H.Local 1)) (Constant (pos 16)) GivesNull)) ∷ (on 5 (Statement-F.Alloc (Held (H.Local 0)) (Constant (pos 16))
    GivesNull)) ∷ (on 6 (Statement-F.If (IsNull (Held (H.Local 0))) ((on 7 (Statement-F.Alloc (Held (H.Local 0)) (Constant (pos 16))
    GivesNull)) ∷ (on 8 (Statement-F.If (IsNull (Held (H.Local 0))) ((on 9 (Statement-F.Leave (Constant (negsuc 3)))) ∷ []))) ∷ []))) ∷ (on
    12 (Statement-F.Free (Held (H.Local 0)))) ∷ (on 13 (Statement-F.Free (Held (H.Local 1)))) ∷ []))) ∷ []) [] [] 0

retry_that_fails_again_pairs_sweep : (length (runs_of Pairs script_retry_that_fails_again_pairs_sweep 10000 (shaped 4096 4096) 0).trace ≡ 3)
    × (least_bad_or_cut Pairs script_retry_that_fails_again_pairs_sweep 10000 (shaped 4096 4096) ≡ None) × (least_bad_or_cut_pair
    script_retry_that_fails_again_pairs_sweep 10000 (shaped 4096 4096) ≡ Some (3, 4)) × (pair_run script_retry_that_fails_again_pairs_sweep
    10000 (shaped 4096 4096) 3 4 ≡ result (Ended (Some (negsuc 3)) ((leak 2 32 144) ∷ [])) ((line 1 144 0 Granted) ∷ (line 2 32 144 Granted)
    ∷ (line 3 32 176 Simulated) ∷ (line 4 32 176 Simulated) ∷ []) [] [] 6)
unfolding everything
retry_that_fails_again_pairs_sweep = (refl, refl, refl, refl)
