-- Worked cases of `lengths`, each by computing. Written by tools/cases_to_theorems.py; edit nothing here.
use Rattle.std.specs.Prelude.{◌≡◌, refl, pos, negsuc, [], ◌∷◌, Some, None}
use Rattle.wb_heap_model.specs.declared.heap.Panic.TheVariants as P
use Rattle.wb_tree.specs.declared.script.Holder.TheVariants as H
use Rattle.wb_heap_model.specs.declared.heap.Answer.TheVariants.{Granted, Simulated, Refused}
use Rattle.wb_runs.specs.declared.run_end.RunEnd.TheVariants as E
use Rattle.wb_meaning.specs.declared.run.Why.TheVariants.{Budget}
use Rattle.wb_meaning.specs.declared.run.Outcome.TheVariants.{Ended, Panicked}
use Rattle.wb_tree.specs.declared.script.Script.{Script}
use Rattle.wb_tree.specs.declared.script.Local.TheVariants.{OfPointer, OfNumber}
use Rattle.wb_tree.specs.declared.script.Pointer.TheVariants.{Held, Field}
use Rattle.wb_tree.specs.declared.script.Number.TheVariants.{Constant, Variable}
use Rattle.wb_tree.specs.declared.script.Condition.TheVariants.{IsNull}
use Rattle.wb_tree.specs.declared.script.Refusal.TheVariants.{GivesNull, Leaves}
use Rattle.wb_tree.specs.declared.script.Statement.TheOpen.{Statement-F}
use Rattle.wb_runs.specs.Lengths.{end_in, run_in}
use Rattle.wb_worked.specs.Shorthands.{everything, on, script, class_of, procedure, body, result, leak, shaped, line}

abbrev script_answer_stored_through_unasked_lengths : Script
script_answer_stored_through_unasked_lengths = script [] ((procedure 1 [] (body ((OfPointer None) ∷ []) ((on 3 (Statement-F.Alloc (Held
    (H.Local 0)) (Constant (pos 16)) GivesNull)) ∷ (on 4 (Statement-F.Store (Held (H.Local 0)) (Constant (pos 0)) (Constant (pos 1)))) ∷ (on
    5 (Statement-F.Free (Held (H.Local 0)))) ∷ []))) ∷ []) [] [] 0

answer_stored_through_unasked_lengths : (end_in script_answer_stored_through_unasked_lengths 10000 (shaped 4096 4096) 0 ≡ E.NoCleanup) ×
    (end_in script_answer_stored_through_unasked_lengths 10000 (shaped 4096 4096) 143 ≡ E.NoCleanup) × (end_in
    script_answer_stored_through_unasked_lengths 10000 (shaped 4096 4096) 144 ≡ E.Panicked (P.Workbench 1)) × (end_in
    script_answer_stored_through_unasked_lengths 10000 (shaped 4096 4096) 175 ≡ E.Panicked (P.Workbench 1)) × (end_in
    script_answer_stored_through_unasked_lengths 10000 (shaped 4096 4096) 176 ≡ E.Plain) × (end_in
    script_answer_stored_through_unasked_lengths 10000 (shaped 4096 4096) 16777216 ≡ E.Plain) × (run_in
    script_answer_stored_through_unasked_lengths 10000 (shaped 4096 4096) 144 ≡ result (Panicked (P.Workbench 1)) ((line 1 144 0 Granted) ∷
    (line 2 32 144 Refused) ∷ []) [] [] 2)
unfolding everything
answer_stored_through_unasked_lengths = (refl, refl, refl, refl, refl, refl, refl)

abbrev script_cell_within_a_mark_lengths : Script
script_cell_within_a_mark_lengths = script [] ((procedure 1 [] (body ((OfPointer None) ∷ []) ((on 3 Statement-F.Mark) ∷ (on 4
    (Statement-F.Alloc (Held (H.Local 0)) (Constant (pos 16)) GivesNull)) ∷ (on 5 (Statement-F.MarkEnd (Constant (pos 0)))) ∷ []))) ∷ []) []
    [] 0

cell_within_a_mark_lengths : (end_in script_cell_within_a_mark_lengths 10000 (shaped 4096 4096) 0 ≡ E.NoCleanup) × (end_in
    script_cell_within_a_mark_lengths 10000 (shaped 4096 4096) 143 ≡ E.NoCleanup) × (end_in script_cell_within_a_mark_lengths 10000 (shaped
    4096 4096) 144 ≡ E.Plain) × (end_in script_cell_within_a_mark_lengths 10000 (shaped 4096 4096) 175 ≡ E.Plain) × (end_in
    script_cell_within_a_mark_lengths 10000 (shaped 4096 4096) 176 ≡ E.Panicked (P.Alloc 144)) × (end_in script_cell_within_a_mark_lengths
    10000 (shaped 4096 4096) 16777216 ≡ E.Panicked (P.Alloc 144)) × (run_in script_cell_within_a_mark_lengths 10000 (shaped 4096 4096) 176 ≡
    result (Panicked (P.Alloc 144)) ((line 1 144 0 Granted) ∷ (line 2 32 144 Granted) ∷ []) [] [] 3)
unfolding everything
cell_within_a_mark_lengths = (refl, refl, refl, refl, refl, refl, refl)

abbrev script_cut_above_a_leak_lengths : Script
script_cut_above_a_leak_lengths = script [] ((procedure 1 [] (body ((OfPointer None) ∷ (OfPointer None) ∷ []) ((on 4 (Statement-F.Alloc
    (Held (H.Local 0)) (Constant (pos 16)) Leaves)) ∷ (on 5 (Statement-F.Alloc (Held (H.Local 1)) (Constant (pos 16)) Leaves)) ∷ (on 6
    (Statement-F.Repeat (Constant (pos 30)) [])) ∷ (on 8 (Statement-F.Free (Held (H.Local 0)))) ∷ (on 9 (Statement-F.Free (Held (H.Local
    1)))) ∷ []))) ∷ []) [] [] 0

cut_above_a_leak_lengths : (end_in script_cut_above_a_leak_lengths 20 (shaped 4096 4096) 0 ≡ E.NoCleanup) × (end_in
    script_cut_above_a_leak_lengths 20 (shaped 4096 4096) 143 ≡ E.NoCleanup) × (end_in script_cut_above_a_leak_lengths 20 (shaped 4096 4096)
    144 ≡ E.Left (negsuc 3)) × (end_in script_cut_above_a_leak_lengths 20 (shaped 4096 4096) 175 ≡ E.Left (negsuc 3)) × (end_in
    script_cut_above_a_leak_lengths 20 (shaped 4096 4096) 176 ≡ E.Leaked 1) × (end_in script_cut_above_a_leak_lengths 20 (shaped 4096 4096)
    207 ≡ E.Leaked 1) × (end_in script_cut_above_a_leak_lengths 20 (shaped 4096 4096) 208 ≡ E.Cut Budget) × (end_in
    script_cut_above_a_leak_lengths 20 (shaped 4096 4096) 16777216 ≡ E.Cut Budget) × (run_in script_cut_above_a_leak_lengths 20 (shaped 4096
    4096) 176 ≡ result (Ended (Some (negsuc 3)) ((leak 2 32 144) ∷ [])) ((line 1 144 0 Granted) ∷ (line 2 32 144 Granted) ∷ (line 3 32 176
    Refused) ∷ []) [] [] 2)
unfolding everything
cut_above_a_leak_lengths = (refl, refl, refl, refl, refl, refl, refl, refl, refl)

abbrev script_cut_at_each_length_with_a_heap_lengths : Script
script_cut_at_each_length_with_a_heap_lengths = script [] ((procedure 1 [] (body [] ((on 2 (Statement-F.Repeat (Constant (pos 3)) [])) ∷
    []))) ∷ []) [] [] 0

cut_at_each_length_with_a_heap_lengths : (end_in script_cut_at_each_length_with_a_heap_lengths 3 (shaped 4096 4096) 0 ≡ E.NoCleanup) ×
    (end_in script_cut_at_each_length_with_a_heap_lengths 3 (shaped 4096 4096) 143 ≡ E.NoCleanup) × (end_in
    script_cut_at_each_length_with_a_heap_lengths 3 (shaped 4096 4096) 144 ≡ E.Cut Budget) × (end_in
    script_cut_at_each_length_with_a_heap_lengths 3 (shaped 4096 4096) 16777216 ≡ E.Cut Budget)
unfolding everything
cut_at_each_length_with_a_heap_lengths = (refl, refl, refl, refl)

abbrev script_cut_below_a_leak_lengths : Script
script_cut_below_a_leak_lengths = script [] ((procedure 1 [] (body ((OfPointer None) ∷ []) ((on 3 (Statement-F.Alloc (Held (H.Local 0))
    (Constant (pos 16)) GivesNull)) ∷ (on 4 (Statement-F.If (IsNull (Held (H.Local 0))) ((on 5 (Statement-F.Repeat (Constant (pos 20000))
    [])) ∷ []))) ∷ []))) ∷ []) [] [] 0

cut_below_a_leak_lengths : (end_in script_cut_below_a_leak_lengths 10000 (shaped 4096 4096) 0 ≡ E.NoCleanup) × (end_in
    script_cut_below_a_leak_lengths 10000 (shaped 4096 4096) 143 ≡ E.NoCleanup) × (end_in script_cut_below_a_leak_lengths 10000 (shaped 4096
    4096) 144 ≡ E.Cut Budget) × (end_in script_cut_below_a_leak_lengths 10000 (shaped 4096 4096) 175 ≡ E.Cut Budget) × (end_in
    script_cut_below_a_leak_lengths 10000 (shaped 4096 4096) 176 ≡ E.Leaked 1) × (end_in script_cut_below_a_leak_lengths 10000 (shaped 4096
    4096) 16777216 ≡ E.Leaked 1) × (run_in script_cut_below_a_leak_lengths 10000 (shaped 4096 4096) 176 ≡ result (Ended None ((leak 2 32
    144) ∷ [])) ((line 1 144 0 Granted) ∷ (line 2 32 144 Granted) ∷ []) [] [] 2)
unfolding everything
cut_below_a_leak_lengths = (refl, refl, refl, refl, refl, refl, refl)

abbrev script_eighth_push_grows_the_cleanup_cell_lengths : Script
script_eighth_push_grows_the_cleanup_cell_lengths = script [] ((procedure 1 [] (body ((OfPointer None) ∷ []) ((on 3 (Statement-F.Repeat
    (Constant (pos 8)) ((on 4 (Statement-F.Alloc (Held (H.Local 0)) (Constant (pos 16)) Leaves)) ∷ (on 5 (Statement-F.Push (Held (H.Local
    0)))) ∷ []))) ∷ (on 7 (Statement-F.PopDestroy (Constant (pos 8)))) ∷ []))) ∷ []) [] [] 0

eighth_push_grows_the_cleanup_cell_lengths : (end_in script_eighth_push_grows_the_cleanup_cell_lengths 10000 (shaped 4096 4096) 0 ≡
    E.NoCleanup) × (end_in script_eighth_push_grows_the_cleanup_cell_lengths 10000 (shaped 4096 4096) 143 ≡ E.NoCleanup) × (end_in
    script_eighth_push_grows_the_cleanup_cell_lengths 10000 (shaped 4096 4096) 144 ≡ E.Left (negsuc 3)) × (end_in
    script_eighth_push_grows_the_cleanup_cell_lengths 10000 (shaped 4096 4096) 607 ≡ E.Left (negsuc 3)) × (end_in
    script_eighth_push_grows_the_cleanup_cell_lengths 10000 (shaped 4096 4096) 608 ≡ E.Plain) × (end_in
    script_eighth_push_grows_the_cleanup_cell_lengths 10000 (shaped 4096 4096) 16777216 ≡ E.Plain)
unfolding everything
eighth_push_grows_the_cleanup_cell_lengths = (refl, refl, refl, refl, refl, refl)

abbrev script_empty_main_json_lengths : Script
script_empty_main_json_lengths = script [] ((procedure 1 [] (body [] [])) ∷ []) [] [] 0

empty_main_json_lengths : (end_in script_empty_main_json_lengths 10000 (shaped 4096 4096) 0 ≡ E.NoCleanup) × (end_in
    script_empty_main_json_lengths 10000 (shaped 4096 4096) 143 ≡ E.NoCleanup) × (end_in script_empty_main_json_lengths 10000 (shaped 4096
    4096) 144 ≡ E.Plain) × (end_in script_empty_main_json_lengths 10000 (shaped 4096 4096) 16777216 ≡ E.Plain)
unfolding everything
empty_main_json_lengths = (refl, refl, refl, refl)

abbrev script_empty_main_lengths : Script
script_empty_main_lengths = script [] ((procedure 1 [] (body [] [])) ∷ []) [] [] 0

empty_main_lengths : (end_in script_empty_main_lengths 10000 (shaped 4096 4096) 0 ≡ E.NoCleanup) × (end_in script_empty_main_lengths 10000
    (shaped 4096 4096) 143 ≡ E.NoCleanup) × (end_in script_empty_main_lengths 10000 (shaped 4096 4096) 144 ≡ E.Plain) × (end_in
    script_empty_main_lengths 10000 (shaped 4096 4096) 16777216 ≡ E.Plain)
unfolding everything
empty_main_lengths = (refl, refl, refl, refl)

abbrev script_ends_at_the_ceiling_lengths : Script
script_ends_at_the_ceiling_lengths = script [] ((procedure 1 [] (body ((OfPointer None) ∷ []) ((on 3 (Statement-F.Repeat (Constant (pos 15))
    ((on 4 (Statement-F.Alloc (Held (H.Local 0)) (Constant (pos 1048560)) Leaves)) ∷ (on 5 (Statement-F.Push (Held (H.Local 0)))) ∷ []))) ∷
    (on 7 (Statement-F.Alloc (Held (H.Local 0)) (Constant (pos 1047600)) Leaves)) ∷ (on 8 (Statement-F.Push (Held (H.Local 0)))) ∷ (on 9
    (Statement-F.PopDestroy (Constant (pos 16)))) ∷ []))) ∷ []) [] [] 0

ends_at_the_ceiling_lengths : (end_in script_ends_at_the_ceiling_lengths 10000 (shaped 4096 4096) 0 ≡ E.NoCleanup) × (end_in
    script_ends_at_the_ceiling_lengths 10000 (shaped 4096 4096) 143 ≡ E.NoCleanup) × (end_in script_ends_at_the_ceiling_lengths 10000
    (shaped 4096 4096) 144 ≡ E.Left (negsuc 3)) × (end_in script_ends_at_the_ceiling_lengths 10000 (shaped 4096 4096) 16777215 ≡ E.Left
    (negsuc 3)) × (end_in script_ends_at_the_ceiling_lengths 10000 (shaped 4096 4096) 16777216 ≡ E.Plain)
unfolding everything
ends_at_the_ceiling_lengths = (refl, refl, refl, refl, refl)

abbrev script_every_second_attempt_refused_by_the_script_lengths : Script
script_every_second_attempt_refused_by_the_script_lengths = script [] ((procedure 1 [] (body ((OfPointer None) ∷ (OfPointer None) ∷ []) ((on
    4 (Statement-F.FailEvery (Constant (pos 2)))) ∷ (on 5 (Statement-F.Alloc (Held (H.Local 0)) (Constant (pos 16)) GivesNull)) ∷ (on 6
    (Statement-F.Alloc (Held (H.Local 1)) (Constant (pos 16)) GivesNull)) ∷ (on 7 (Statement-F.Free (Held (H.Local 1)))) ∷ (on 8
    (Statement-F.Alloc (Held (H.Local 1)) (Constant (pos 64)) GivesNull)) ∷ (on 9 (Statement-F.If (IsNull (Held (H.Local 1))) ((on 10
    (Statement-F.Leave (Constant (negsuc 5)))) ∷ []))) ∷ (on 12 (Statement-F.Free (Held (H.Local 0)))) ∷ (on 13 (Statement-F.Free (Held
    (H.Local 1)))) ∷ []))) ∷ []) [] [] 0

every_second_attempt_refused_by_the_script_lengths : (end_in script_every_second_attempt_refused_by_the_script_lengths 10000 (shaped 4096
    4096) 0 ≡ E.NoCleanup) × (end_in script_every_second_attempt_refused_by_the_script_lengths 10000 (shaped 4096 4096) 143 ≡ E.NoCleanup) ×
    (end_in script_every_second_attempt_refused_by_the_script_lengths 10000 (shaped 4096 4096) 144 ≡ E.Left (negsuc 5)) × (end_in
    script_every_second_attempt_refused_by_the_script_lengths 10000 (shaped 4096 4096) 175 ≡ E.Left (negsuc 5)) × (end_in
    script_every_second_attempt_refused_by_the_script_lengths 10000 (shaped 4096 4096) 176 ≡ E.Leaked 1) × (end_in
    script_every_second_attempt_refused_by_the_script_lengths 10000 (shaped 4096 4096) 255 ≡ E.Leaked 1) × (end_in
    script_every_second_attempt_refused_by_the_script_lengths 10000 (shaped 4096 4096) 256 ≡ E.Plain) × (end_in
    script_every_second_attempt_refused_by_the_script_lengths 10000 (shaped 4096 4096) 16777216 ≡ E.Plain) × (run_in
    script_every_second_attempt_refused_by_the_script_lengths 10000 (shaped 4096 4096) 176 ≡ result (Ended (Some (negsuc 5)) ((leak 2 32
    144) ∷ [])) ((line 1 144 0 Granted) ∷ (line 2 32 144 Granted) ∷ (line 3 32 176 Simulated) ∷ (line 4 80 176 Refused) ∷ []) [] [] 7)
unfolding everything
every_second_attempt_refused_by_the_script_lengths = (refl, refl, refl, refl, refl, refl, refl, refl, refl)

abbrev script_failure_that_outruns_the_budget_json_lengths : Script
script_failure_that_outruns_the_budget_json_lengths = script [] ((procedure 1 [] (body ((OfPointer None) ∷ []) ((on 3 (Statement-F.Alloc
    (Held (H.Local 0)) (Constant (pos 16)) GivesNull)) ∷ (on 4 (Statement-F.If (IsNull (Held (H.Local 0))) ((on 5 (Statement-F.Repeat
    (Constant (pos 20000)) [])) ∷ []))) ∷ (on 8 (Statement-F.Free (Held (H.Local 0)))) ∷ []))) ∷ []) [] [] 0

failure_that_outruns_the_budget_json_lengths : (end_in script_failure_that_outruns_the_budget_json_lengths 10000 (shaped 4096 4096) 0 ≡
    E.NoCleanup) × (end_in script_failure_that_outruns_the_budget_json_lengths 10000 (shaped 4096 4096) 143 ≡ E.NoCleanup) × (end_in
    script_failure_that_outruns_the_budget_json_lengths 10000 (shaped 4096 4096) 144 ≡ E.Cut Budget) × (end_in
    script_failure_that_outruns_the_budget_json_lengths 10000 (shaped 4096 4096) 175 ≡ E.Cut Budget) × (end_in
    script_failure_that_outruns_the_budget_json_lengths 10000 (shaped 4096 4096) 176 ≡ E.Plain) × (end_in
    script_failure_that_outruns_the_budget_json_lengths 10000 (shaped 4096 4096) 16777216 ≡ E.Plain)
unfolding everything
failure_that_outruns_the_budget_json_lengths = (refl, refl, refl, refl, refl, refl)

abbrev script_failure_that_outruns_the_budget_lengths : Script
script_failure_that_outruns_the_budget_lengths = script [] ((procedure 1 [] (body ((OfPointer None) ∷ []) ((on 3 (Statement-F.Alloc (Held
    (H.Local 0)) (Constant (pos 16)) GivesNull)) ∷ (on 4 (Statement-F.If (IsNull (Held (H.Local 0))) ((on 5 (Statement-F.Repeat (Constant
    (pos 20000)) [])) ∷ []))) ∷ (on 8 (Statement-F.Free (Held (H.Local 0)))) ∷ []))) ∷ []) [] [] 0

failure_that_outruns_the_budget_lengths : (end_in script_failure_that_outruns_the_budget_lengths 10000 (shaped 4096 4096) 0 ≡ E.NoCleanup) ×
    (end_in script_failure_that_outruns_the_budget_lengths 10000 (shaped 4096 4096) 143 ≡ E.NoCleanup) × (end_in
    script_failure_that_outruns_the_budget_lengths 10000 (shaped 4096 4096) 144 ≡ E.Cut Budget) × (end_in
    script_failure_that_outruns_the_budget_lengths 10000 (shaped 4096 4096) 175 ≡ E.Cut Budget) × (end_in
    script_failure_that_outruns_the_budget_lengths 10000 (shaped 4096 4096) 176 ≡ E.Plain) × (end_in
    script_failure_that_outruns_the_budget_lengths 10000 (shaped 4096 4096) 16777216 ≡ E.Plain)
unfolding everything
failure_that_outruns_the_budget_lengths = (refl, refl, refl, refl, refl, refl)

abbrev script_fallback_to_a_smaller_cell_lengths : Script
script_fallback_to_a_smaller_cell_lengths = script [] ((procedure 1 [] (body ((OfPointer None) ∷ []) ((on 3 (Statement-F.Alloc (Held
    (H.Local 0)) (Constant (pos 200)) GivesNull)) ∷ (on 4 (Statement-F.If (IsNull (Held (H.Local 0))) ((on 5 (Statement-F.Alloc (Held
    (H.Local 0)) (Constant (pos 20)) GivesNull)) ∷ []))) ∷ (on 7 (Statement-F.If (IsNull (Held (H.Local 0))) ((on 8 (Statement-F.Leave
    (Constant (negsuc 3)))) ∷ []))) ∷ (on 10 (Statement-F.Free (Held (H.Local 0)))) ∷ []))) ∷ []) [] [] 0

fallback_to_a_smaller_cell_lengths : (end_in script_fallback_to_a_smaller_cell_lengths 10000 (shaped 4096 4096) 0 ≡ E.NoCleanup) × (end_in
    script_fallback_to_a_smaller_cell_lengths 10000 (shaped 4096 4096) 143 ≡ E.NoCleanup) × (end_in
    script_fallback_to_a_smaller_cell_lengths 10000 (shaped 4096 4096) 144 ≡ E.Left (negsuc 3)) × (end_in
    script_fallback_to_a_smaller_cell_lengths 10000 (shaped 4096 4096) 191 ≡ E.Left (negsuc 3)) × (end_in
    script_fallback_to_a_smaller_cell_lengths 10000 (shaped 4096 4096) 192 ≡ E.Plain) × (end_in script_fallback_to_a_smaller_cell_lengths
    10000 (shaped 4096 4096) 16777216 ≡ E.Plain)
unfolding everything
fallback_to_a_smaller_cell_lengths = (refl, refl, refl, refl, refl, refl)

abbrev script_good_length_between_two_bad_ones_lengths : Script
script_good_length_between_two_bad_ones_lengths = script [] ((procedure 1 [] (body ((OfPointer None) ∷ (OfPointer None) ∷ []) ((on 4
    (Statement-F.Alloc (Held (H.Local 0)) (Constant (pos 16)) GivesNull)) ∷ (on 5 (Statement-F.Store (Held (H.Local 0)) (Constant (pos 0))
    (Constant (pos 1)))) ∷ (on 6 (Statement-F.Free (Held (H.Local 0)))) ∷ (on 7 (Statement-F.Alloc (Held (H.Local 1)) (Constant (pos 48))
    GivesNull)) ∷ (on 8 (Statement-F.If (IsNull (Held (H.Local 1))) ((on 9 (Statement-F.Leave (Constant (negsuc 3)))) ∷ []))) ∷ []))) ∷ [])
    [] [] 0

good_length_between_two_bad_ones_lengths : (end_in script_good_length_between_two_bad_ones_lengths 10000 (shaped 4096 4096) 0 ≡ E.NoCleanup)
    × (end_in script_good_length_between_two_bad_ones_lengths 10000 (shaped 4096 4096) 143 ≡ E.NoCleanup) × (end_in
    script_good_length_between_two_bad_ones_lengths 10000 (shaped 4096 4096) 144 ≡ E.Panicked (P.Workbench 1)) × (end_in
    script_good_length_between_two_bad_ones_lengths 10000 (shaped 4096 4096) 175 ≡ E.Panicked (P.Workbench 1)) × (end_in
    script_good_length_between_two_bad_ones_lengths 10000 (shaped 4096 4096) 176 ≡ E.Left (negsuc 3)) × (end_in
    script_good_length_between_two_bad_ones_lengths 10000 (shaped 4096 4096) 207 ≡ E.Left (negsuc 3)) × (end_in
    script_good_length_between_two_bad_ones_lengths 10000 (shaped 4096 4096) 208 ≡ E.Leaked 1) × (end_in
    script_good_length_between_two_bad_ones_lengths 10000 (shaped 4096 4096) 16777216 ≡ E.Leaked 1) × (run_in
    script_good_length_between_two_bad_ones_lengths 10000 (shaped 4096 4096) 144 ≡ result (Panicked (P.Workbench 1)) ((line 1 144 0 Granted)
    ∷ (line 2 32 144 Refused) ∷ []) [] [] 2)
unfolding everything
good_length_between_two_bad_ones_lengths = (refl, refl, refl, refl, refl, refl, refl, refl, refl)

abbrev script_growth_in_place_that_is_refused_lengths : Script
script_growth_in_place_that_is_refused_lengths = script [] ((procedure 1 [] (body ((OfPointer None) ∷ (OfPointer None) ∷ []) ((on 4
    (Statement-F.Alloc (Held (H.Local 0)) (Constant (pos 16)) GivesNull)) ∷ (on 5 (Statement-F.If (IsNull (Held (H.Local 0))) ((on 6
    (Statement-F.Leave (Constant (negsuc 3)))) ∷ []))) ∷ (on 8 (Statement-F.Realloc (Held (H.Local 1)) (Held (H.Local 0)) (Constant (pos
    48)) GivesNull)) ∷ (on 9 (Statement-F.If (IsNull (Held (H.Local 1))) ((on 10 (Statement-F.Free (Held (H.Local 0)))) ∷ (on 11
    (Statement-F.Leave (Constant (negsuc 4)))) ∷ []))) ∷ (on 13 (Statement-F.Free (Held (H.Local 1)))) ∷ []))) ∷ []) [] [] 0

growth_in_place_that_is_refused_lengths : (end_in script_growth_in_place_that_is_refused_lengths 10000 (shaped 4096 4096) 0 ≡ E.NoCleanup) ×
    (end_in script_growth_in_place_that_is_refused_lengths 10000 (shaped 4096 4096) 143 ≡ E.NoCleanup) × (end_in
    script_growth_in_place_that_is_refused_lengths 10000 (shaped 4096 4096) 144 ≡ E.Left (negsuc 3)) × (end_in
    script_growth_in_place_that_is_refused_lengths 10000 (shaped 4096 4096) 175 ≡ E.Left (negsuc 3)) × (end_in
    script_growth_in_place_that_is_refused_lengths 10000 (shaped 4096 4096) 176 ≡ E.Left (negsuc 4)) × (end_in
    script_growth_in_place_that_is_refused_lengths 10000 (shaped 4096 4096) 207 ≡ E.Left (negsuc 4)) × (end_in
    script_growth_in_place_that_is_refused_lengths 10000 (shaped 4096 4096) 208 ≡ E.Plain) × (end_in
    script_growth_in_place_that_is_refused_lengths 10000 (shaped 4096 4096) 16777216 ≡ E.Plain)
unfolding everything
growth_in_place_that_is_refused_lengths = (refl, refl, refl, refl, refl, refl, refl, refl)

abbrev script_leak_in_middle_lengths_alone_lengths : Script
script_leak_in_middle_lengths_alone_lengths = script [] ((procedure 1 [] (body ((OfPointer None) ∷ []) ((on 3 (Statement-F.Alloc (Held
    (H.Local 0)) (Constant (pos 200)) GivesNull)) ∷ (on 4 (Statement-F.If (IsNull (Held (H.Local 0))) ((on 5 (Statement-F.Alloc (Held
    (H.Local 0)) (Constant (pos 20)) GivesNull)) ∷ (on 6 (Statement-F.Alloc (Held (H.Local 0)) (Constant (pos 20)) GivesNull)) ∷ []))) ∷ (on
    8 (Statement-F.Free (Held (H.Local 0)))) ∷ []))) ∷ []) [] [] 0

leak_in_middle_lengths_alone_lengths : (end_in script_leak_in_middle_lengths_alone_lengths 10000 (shaped 4096 4096) 0 ≡ E.NoCleanup) ×
    (end_in script_leak_in_middle_lengths_alone_lengths 10000 (shaped 4096 4096) 143 ≡ E.NoCleanup) × (end_in
    script_leak_in_middle_lengths_alone_lengths 10000 (shaped 4096 4096) 144 ≡ E.Plain) × (end_in
    script_leak_in_middle_lengths_alone_lengths 10000 (shaped 4096 4096) 191 ≡ E.Plain) × (end_in
    script_leak_in_middle_lengths_alone_lengths 10000 (shaped 4096 4096) 192 ≡ E.Leaked 1) × (end_in
    script_leak_in_middle_lengths_alone_lengths 10000 (shaped 4096 4096) 367 ≡ E.Leaked 1) × (end_in
    script_leak_in_middle_lengths_alone_lengths 10000 (shaped 4096 4096) 368 ≡ E.Plain) × (end_in
    script_leak_in_middle_lengths_alone_lengths 10000 (shaped 4096 4096) 16777216 ≡ E.Plain) × (run_in
    script_leak_in_middle_lengths_alone_lengths 10000 (shaped 4096 4096) 192 ≡ result (Ended None ((leak 3 48 144) ∷ [])) ((line 1 144 0
    Granted) ∷ (line 2 224 144 Refused) ∷ (line 3 48 144 Granted) ∷ (line 4 48 192 Refused) ∷ []) [] [] 5)
unfolding everything
leak_in_middle_lengths_alone_lengths = (refl, refl, refl, refl, refl, refl, refl, refl, refl)

abbrev script_leak_without_any_failure_lengths : Script
script_leak_without_any_failure_lengths = script [] ((procedure 1 [] (body ((OfPointer None) ∷ []) ((on 3 (Statement-F.Alloc (Held (H.Local
    0)) (Constant (pos 16)) GivesNull)) ∷ []))) ∷ []) [] [] 0

leak_without_any_failure_lengths : (end_in script_leak_without_any_failure_lengths 10000 (shaped 4096 4096) 0 ≡ E.NoCleanup) × (end_in
    script_leak_without_any_failure_lengths 10000 (shaped 4096 4096) 143 ≡ E.NoCleanup) × (end_in script_leak_without_any_failure_lengths
    10000 (shaped 4096 4096) 144 ≡ E.Plain) × (end_in script_leak_without_any_failure_lengths 10000 (shaped 4096 4096) 175 ≡ E.Plain) ×
    (end_in script_leak_without_any_failure_lengths 10000 (shaped 4096 4096) 176 ≡ E.Leaked 1) × (end_in
    script_leak_without_any_failure_lengths 10000 (shaped 4096 4096) 16777216 ≡ E.Leaked 1) × (run_in
    script_leak_without_any_failure_lengths 10000 (shaped 4096 4096) 176 ≡ result (Ended None ((leak 2 32 144) ∷ [])) ((line 1 144 0
    Granted) ∷ (line 2 32 144 Granted) ∷ []) [] [] 1)
unfolding everything
leak_without_any_failure_lengths = (refl, refl, refl, refl, refl, refl, refl)

abbrev script_leave_codes_of_all_signs_lengths : Script
script_leave_codes_of_all_signs_lengths = script [] ((procedure 1 [] (body ((OfPointer None) ∷ (OfPointer None) ∷ (OfPointer None) ∷ [])
    ((on 5 (Statement-F.Alloc (Held (H.Local 0)) (Constant (pos 16)) GivesNull)) ∷ (on 6 (Statement-F.If (IsNull (Held (H.Local 0))) ((on 7
    (Statement-F.Leave (Constant (negsuc 0)))) ∷ []))) ∷ (on 9 (Statement-F.Free (Held (H.Local 0)))) ∷ (on 10 (Statement-F.Alloc (Held
    (H.Local 1)) (Constant (pos 48)) GivesNull)) ∷ (on 11 (Statement-F.If (IsNull (Held (H.Local 1))) ((on 12 (Statement-F.Leave (Constant
    (pos 0)))) ∷ []))) ∷ (on 14 (Statement-F.Free (Held (H.Local 1)))) ∷ (on 15 (Statement-F.Alloc (Held (H.Local 2)) (Constant (pos 80))
    GivesNull)) ∷ (on 16 (Statement-F.If (IsNull (Held (H.Local 2))) ((on 17 (Statement-F.Leave (Constant (pos 5)))) ∷ []))) ∷ (on 19
    (Statement-F.Free (Held (H.Local 2)))) ∷ []))) ∷ []) [] [] 0

leave_codes_of_all_signs_lengths : (end_in script_leave_codes_of_all_signs_lengths 10000 (shaped 4096 4096) 0 ≡ E.NoCleanup) × (end_in
    script_leave_codes_of_all_signs_lengths 10000 (shaped 4096 4096) 143 ≡ E.NoCleanup) × (end_in script_leave_codes_of_all_signs_lengths
    10000 (shaped 4096 4096) 144 ≡ E.Left (negsuc 0)) × (end_in script_leave_codes_of_all_signs_lengths 10000 (shaped 4096 4096) 175 ≡
    E.Left (negsuc 0)) × (end_in script_leave_codes_of_all_signs_lengths 10000 (shaped 4096 4096) 176 ≡ E.Left (pos 0)) × (end_in
    script_leave_codes_of_all_signs_lengths 10000 (shaped 4096 4096) 207 ≡ E.Left (pos 0)) × (end_in script_leave_codes_of_all_signs_lengths
    10000 (shaped 4096 4096) 208 ≡ E.Left (pos 5)) × (end_in script_leave_codes_of_all_signs_lengths 10000 (shaped 4096 4096) 239 ≡ E.Left
    (pos 5)) × (end_in script_leave_codes_of_all_signs_lengths 10000 (shaped 4096 4096) 240 ≡ E.Plain) × (end_in
    script_leave_codes_of_all_signs_lengths 10000 (shaped 4096 4096) 16777216 ≡ E.Plain)
unfolding everything
leave_codes_of_all_signs_lengths = (refl, refl, refl, refl, refl, refl, refl, refl, refl, refl)

abbrev script_leave_through_sixteen_traps_lengths : Script
script_leave_through_sixteen_traps_lengths = script [] ((procedure 1 [] (body ((OfPointer None) ∷ OfNumber ∷ []) ((on 4 (Statement-F.Trap 1
    ((on 5 (Statement-F.Trap 1 ((on 6 (Statement-F.Trap 1 ((on 7 (Statement-F.Trap 1 ((on 8 (Statement-F.Trap 1 ((on 9 (Statement-F.Trap 1
    ((on 10 (Statement-F.Trap 1 ((on 11 (Statement-F.Trap 1 ((on 12 (Statement-F.Trap 1 ((on 13 (Statement-F.Trap 1 ((on 14
    (Statement-F.Trap 1 ((on 15 (Statement-F.Trap 1 ((on 16 (Statement-F.Trap 1 ((on 17 (Statement-F.Trap 1 ((on 18 (Statement-F.Trap 1 ((on
    19 (Statement-F.Trap 1 ((on 20 (Statement-F.Alloc (Held (H.Local 0)) (Constant (pos 16)) Leaves)) ∷ (on 21 (Statement-F.Free (Held
    (H.Local 0)))) ∷ []))) ∷ (on 23 (Statement-F.LeaveIfError (Variable 1))) ∷ []))) ∷ (on 25 (Statement-F.LeaveIfError (Variable 1))) ∷
    []))) ∷ (on 27 (Statement-F.LeaveIfError (Variable 1))) ∷ []))) ∷ (on 29 (Statement-F.LeaveIfError (Variable 1))) ∷ []))) ∷ (on 31
    (Statement-F.LeaveIfError (Variable 1))) ∷ []))) ∷ (on 33 (Statement-F.LeaveIfError (Variable 1))) ∷ []))) ∷ (on 35
    (Statement-F.LeaveIfError (Variable 1))) ∷ []))) ∷ (on 37 (Statement-F.LeaveIfError (Variable 1))) ∷ []))) ∷ (on 39
    (Statement-F.LeaveIfError (Variable 1))) ∷ []))) ∷ (on 41 (Statement-F.LeaveIfError (Variable 1))) ∷ []))) ∷ (on 43
    (Statement-F.LeaveIfError (Variable 1))) ∷ []))) ∷ (on 45 (Statement-F.LeaveIfError (Variable 1))) ∷ []))) ∷ (on 47
    (Statement-F.LeaveIfError (Variable 1))) ∷ []))) ∷ (on 49 (Statement-F.LeaveIfError (Variable 1))) ∷ []))) ∷ (on 51
    (Statement-F.LeaveIfError (Variable 1))) ∷ []))) ∷ (on 53 (Statement-F.LeaveIfError (Variable 1))) ∷ []))) ∷ []) [] [] 0

leave_through_sixteen_traps_lengths : (end_in script_leave_through_sixteen_traps_lengths 10000 (shaped 4096 4096) 0 ≡ E.NoCleanup) × (end_in
    script_leave_through_sixteen_traps_lengths 10000 (shaped 4096 4096) 143 ≡ E.NoCleanup) × (end_in
    script_leave_through_sixteen_traps_lengths 10000 (shaped 4096 4096) 144 ≡ E.Left (negsuc 3)) × (end_in
    script_leave_through_sixteen_traps_lengths 10000 (shaped 4096 4096) 175 ≡ E.Left (negsuc 3)) × (end_in
    script_leave_through_sixteen_traps_lengths 10000 (shaped 4096 4096) 176 ≡ E.Plain) × (end_in script_leave_through_sixteen_traps_lengths
    10000 (shaped 4096 4096) 16777216 ≡ E.Plain)
unfolding everything
leave_through_sixteen_traps_lengths = (refl, refl, refl, refl, refl, refl)

abbrev script_more_leaks_in_longer_heaps_lengths : Script
script_more_leaks_in_longer_heaps_lengths = script [] ((procedure 1 [] (body ((OfPointer None) ∷ []) ((on 3 (Statement-F.Repeat (Constant
    (pos 3)) ((on 4 (Statement-F.Alloc (Held (H.Local 0)) (Constant (pos 16)) GivesNull)) ∷ []))) ∷ []))) ∷ []) [] [] 0

more_leaks_in_longer_heaps_lengths : (end_in script_more_leaks_in_longer_heaps_lengths 10000 (shaped 4096 4096) 0 ≡ E.NoCleanup) × (end_in
    script_more_leaks_in_longer_heaps_lengths 10000 (shaped 4096 4096) 143 ≡ E.NoCleanup) × (end_in
    script_more_leaks_in_longer_heaps_lengths 10000 (shaped 4096 4096) 144 ≡ E.Plain) × (end_in script_more_leaks_in_longer_heaps_lengths
    10000 (shaped 4096 4096) 175 ≡ E.Plain) × (end_in script_more_leaks_in_longer_heaps_lengths 10000 (shaped 4096 4096) 176 ≡ E.Leaked 1) ×
    (end_in script_more_leaks_in_longer_heaps_lengths 10000 (shaped 4096 4096) 207 ≡ E.Leaked 1) × (end_in
    script_more_leaks_in_longer_heaps_lengths 10000 (shaped 4096 4096) 208 ≡ E.Leaked 2) × (end_in script_more_leaks_in_longer_heaps_lengths
    10000 (shaped 4096 4096) 239 ≡ E.Leaked 2) × (end_in script_more_leaks_in_longer_heaps_lengths 10000 (shaped 4096 4096) 240 ≡ E.Leaked
    3) × (end_in script_more_leaks_in_longer_heaps_lengths 10000 (shaped 4096 4096) 16777216 ≡ E.Leaked 3) × (run_in
    script_more_leaks_in_longer_heaps_lengths 10000 (shaped 4096 4096) 176 ≡ result (Ended None ((leak 2 32 144) ∷ [])) ((line 1 144 0
    Granted) ∷ (line 2 32 144 Granted) ∷ (line 3 32 176 Refused) ∷ (line 4 32 176 Refused) ∷ []) [] [] 7)
unfolding everything
more_leaks_in_longer_heaps_lengths = (refl, refl, refl, refl, refl, refl, refl, refl, refl, refl, refl)

abbrev script_moved_cell_freed_by_its_old_pointer_lengths : Script
script_moved_cell_freed_by_its_old_pointer_lengths = script [] ((procedure 1 [] (body ((OfPointer None) ∷ (OfPointer None) ∷ (OfPointer
    None) ∷ []) ((on 5 (Statement-F.Alloc (Held (H.Local 0)) (Constant (pos 16)) GivesNull)) ∷ (on 6 (Statement-F.Alloc (Held (H.Local 1))
    (Constant (pos 16)) GivesNull)) ∷ (on 7 (Statement-F.Realloc (Held (H.Local 2)) (Held (H.Local 0)) (Constant (pos 48)) GivesNull)) ∷ (on
    8 (Statement-F.Free (Held (H.Local 0)))) ∷ (on 9 (Statement-F.Free (Held (H.Local 1)))) ∷ []))) ∷ []) [] [] 0

moved_cell_freed_by_its_old_pointer_lengths : (end_in script_moved_cell_freed_by_its_old_pointer_lengths 10000 (shaped 4096 4096) 0 ≡
    E.NoCleanup) × (end_in script_moved_cell_freed_by_its_old_pointer_lengths 10000 (shaped 4096 4096) 143 ≡ E.NoCleanup) × (end_in
    script_moved_cell_freed_by_its_old_pointer_lengths 10000 (shaped 4096 4096) 144 ≡ E.Plain) × (end_in
    script_moved_cell_freed_by_its_old_pointer_lengths 10000 (shaped 4096 4096) 271 ≡ E.Plain) × (end_in
    script_moved_cell_freed_by_its_old_pointer_lengths 10000 (shaped 4096 4096) 272 ≡ E.Panicked (P.User 42)) × (end_in
    script_moved_cell_freed_by_its_old_pointer_lengths 10000 (shaped 4096 4096) 16777216 ≡ E.Panicked (P.User 42)) × (run_in
    script_moved_cell_freed_by_its_old_pointer_lengths 10000 (shaped 4096 4096) 272 ≡ result (Panicked (P.User 42)) ((line 1 144 0 Granted)
    ∷ (line 2 32 144 Granted) ∷ (line 3 32 176 Granted) ∷ (line 4 64 208 Granted) ∷ []) [] [] 4)
unfolding everything
moved_cell_freed_by_its_old_pointer_lengths = (refl, refl, refl, refl, refl, refl, refl)

abbrev script_objects_that_own_one_another_lengths : Script
script_objects_that_own_one_another_lengths = script ((class_of 1 0 ((Some 0) ∷ []) None (Some (body [] ((on 4 (Statement-F.Delete (Field
    H.This 0 0))) ∷ [])))) ∷ []) ((procedure 7 [] (body ((OfPointer (Some 0)) ∷ (OfPointer (Some 0)) ∷ []) ((on 10 (Statement-F.New (Held
    (H.Local 0)) 0 Leaves)) ∷ (on 11 (Statement-F.New (Held (H.Local 1)) 0 Leaves)) ∷ (on 12 (Statement-F.Set (Field (H.Local 0) 0 0) (Held
    (H.Local 1)))) ∷ (on 13 (Statement-F.Set (Field (H.Local 1) 0 0) (Held (H.Local 0)))) ∷ (on 14 (Statement-F.Delete (Held (H.Local 0))))
    ∷ []))) ∷ []) [] [] 0

objects_that_own_one_another_lengths : (end_in script_objects_that_own_one_another_lengths 10000 (shaped 4096 4096) 0 ≡ E.NoCleanup) ×
    (end_in script_objects_that_own_one_another_lengths 10000 (shaped 4096 4096) 143 ≡ E.NoCleanup) × (end_in
    script_objects_that_own_one_another_lengths 10000 (shaped 4096 4096) 144 ≡ E.Left (negsuc 3)) × (end_in
    script_objects_that_own_one_another_lengths 10000 (shaped 4096 4096) 175 ≡ E.Left (negsuc 3)) × (end_in
    script_objects_that_own_one_another_lengths 10000 (shaped 4096 4096) 176 ≡ E.Leaked 1) × (end_in
    script_objects_that_own_one_another_lengths 10000 (shaped 4096 4096) 207 ≡ E.Leaked 1) × (end_in
    script_objects_that_own_one_another_lengths 10000 (shaped 4096 4096) 208 ≡ E.Panicked (P.Workbench 7)) × (end_in
    script_objects_that_own_one_another_lengths 10000 (shaped 4096 4096) 16777216 ≡ E.Panicked (P.Workbench 7)) × (run_in
    script_objects_that_own_one_another_lengths 10000 (shaped 4096 4096) 176 ≡ result (Ended (Some (negsuc 3)) ((leak 2 32 144) ∷ []))
    ((line 1 144 0 Granted) ∷ (line 2 32 144 Granted) ∷ (line 3 32 176 Refused) ∷ []) [] [] 2)
unfolding everything
objects_that_own_one_another_lengths = (refl, refl, refl, refl, refl, refl, refl, refl, refl)
