-- Worked cases of `json`, each by computing. Written by tools/cases_to_theorems.py; edit nothing here.
use Rattle.std.specs.Prelude.{◌≡◌, refl, pos, [], ◌∷◌, length, Some, None}
use Rattle.wb_runs.specs.declared.failures.Failures.TheVariants.{Single}
use Rattle.wb_heap_model.specs.declared.heap.Rule.TheVariants as R
use Rattle.wb_heap_model.specs.declared.heap.Panic.TheVariants as P
use Rattle.wb_tree.specs.declared.script.Holder.TheVariants as H
use Rattle.wb_heap_model.specs.declared.heap.Answer.TheVariants.{Granted, Simulated}
use Rattle.wb_meaning.specs.declared.run.Why.TheVariants.{Budget}
use Rattle.wb_meaning.specs.declared.run.Outcome.TheVariants.{Ended, Panicked, Cut}
use Rattle.wb_tree.specs.declared.script.Script.{Script}
use Rattle.wb_tree.specs.declared.script.Parameter.TheVariants as Par
use Rattle.wb_tree.specs.declared.script.Local.TheVariants.{OfPointer, OfNumber}
use Rattle.wb_tree.specs.declared.script.Pointer.TheVariants.{Held, Field}
use Rattle.wb_tree.specs.declared.script.Number.TheVariants.{Constant, Variable}
use Rattle.wb_tree.specs.declared.script.Condition.TheVariants.{IsNull, Less}
use Rattle.wb_tree.specs.declared.script.Argument.TheVariants.{Passed}
use Rattle.wb_tree.specs.declared.script.Refusal.TheVariants.{GivesNull, Leaves}
use Rattle.wb_tree.specs.declared.script.Statement.TheOpen.{Statement-F}
use Rattle.wb_meaning.specs.Run.{run, required, rises}
use Rattle.wb_runs.specs.Sweeps.{runs_of, least_bad_or_cut}
use Rattle.wb_worked.specs.Shorthands.{everything, on, script, class_of, procedure, body, result, leak, shaped, line, rise}

abbrev script_empty_main_json_with_kind_check : Script
script_empty_main_json_with_kind_check = script [] ((procedure 1 [] (body [] [])) ∷ []) [] [] 0

empty_main_json_with_kind_check : (required script_empty_main_json_with_kind_check 10000 (shaped 4096 4096) ≡ 144) × (rises
    script_empty_main_json_with_kind_check 10000 (shaped 4096 4096) ≡ (rise 1 144) ∷ []) × (length (runs_of Single
    script_empty_main_json_with_kind_check 10000 (shaped 4096 4096) 0).trace ≡ 1) × (least_bad_or_cut Single
    script_empty_main_json_with_kind_check 10000 (shaped 4096 4096) ≡ None)
unfolding everything
empty_main_json_with_kind_check = (refl, refl, refl, refl)

abbrev script_empty_main_json_with_kind_run : Script
script_empty_main_json_with_kind_run = script [] ((procedure 1 [] (body [] [])) ∷ []) [] [] 0

empty_main_json_with_kind_run : run script_empty_main_json_with_kind_run R.Unlimited 10000 (shaped 4096 4096) ≡ result (Ended None [])
    ((line 1 144 0 Granted) ∷ []) [] [] 0
unfolding everything
empty_main_json_with_kind_run = refl

abbrev script_empty_main_json_with_kind_size : Script
script_empty_main_json_with_kind_size = script [] ((procedure 1 [] (body [] [])) ∷ []) [] [] 0

empty_main_json_with_kind_size : (required script_empty_main_json_with_kind_size 10000 (shaped 4096 4096) ≡ 144) × (rises
    script_empty_main_json_with_kind_size 10000 (shaped 4096 4096) ≡ (rise 1 144) ∷ [])
unfolding everything
empty_main_json_with_kind_size = (refl, refl)

abbrev script_failure_that_outruns_the_budget_json_with_kind_check : Script
script_failure_that_outruns_the_budget_json_with_kind_check = script [] ((procedure 1 [] (body ((OfPointer None) ∷ []) ((on 3
    (Statement-F.Alloc (Held (H.Local 0)) (Constant (pos 16)) GivesNull)) ∷ (on 4 (Statement-F.If (IsNull (Held (H.Local 0))) ((on 5
    (Statement-F.Repeat (Constant (pos 20000)) [])) ∷ []))) ∷ (on 8 (Statement-F.Free (Held (H.Local 0)))) ∷ []))) ∷ []) [] [] 0

failure_that_outruns_the_budget_json_with_kind_check : (required script_failure_that_outruns_the_budget_json_with_kind_check 10000 (shaped
    4096 4096) ≡ 176) × (rises script_failure_that_outruns_the_budget_json_with_kind_check 10000 (shaped 4096 4096) ≡ (rise 1 144) ∷ (rise 2
    176) ∷ []) × (least_bad_or_cut Single script_failure_that_outruns_the_budget_json_with_kind_check 10000 (shaped 4096 4096) ≡ Some 2) ×
    ((runs_of Single script_failure_that_outruns_the_budget_json_with_kind_check 10000 (shaped 4096 4096) 2).outcome ≡ Cut Budget)
unfolding everything
failure_that_outruns_the_budget_json_with_kind_check = (refl, refl, refl, refl)

abbrev script_leak_without_any_failure_json_with_kind_sweep : Script
script_leak_without_any_failure_json_with_kind_sweep = script [] ((procedure 1 [] (body ((OfPointer None) ∷ []) ((on 3 (Statement-F.Alloc
    (Held (H.Local 0)) (Constant (pos 16)) GivesNull)) ∷ []))) ∷ []) [] [] 0

leak_without_any_failure_json_with_kind_sweep : (length (runs_of Single script_leak_without_any_failure_json_with_kind_sweep 10000 (shaped
    4096 4096) 0).trace ≡ 2) × (least_bad_or_cut Single script_leak_without_any_failure_json_with_kind_sweep 10000 (shaped 4096 4096) ≡ Some
    0) × (runs_of Single script_leak_without_any_failure_json_with_kind_sweep 10000 (shaped 4096 4096) 0 ≡ result (Ended None ((leak 2 32
    144) ∷ [])) ((line 1 144 0 Granted) ∷ (line 2 32 144 Granted) ∷ []) [] [] 1)
unfolding everything
leak_without_any_failure_json_with_kind_sweep = (refl, refl, refl)

abbrev script_object_deleted_twice_check : Script
script_object_deleted_twice_check = script ((class_of 2 4 [] None None) ∷ (class_of 5 0 ((Some 0) ∷ None ∷ []) None (Some (body [] ((on 9
    (Statement-F.Delete (Field H.This 1 0))) ∷ (on 10 (Statement-F.Free (Field H.This 1 1))) ∷ [])))) ∷ []) ((procedure 14 ((Par.OfPointer
    (Some 1)) ∷ (Par.OfPointer (Some 0)) ∷ []) (body [] ((on 16 (Statement-F.Set (Field (H.Local 0) 1 0) (Held (H.Local 1)))) ∷ (on 17
    (Statement-F.Alloc (Field (H.Local 0) 1 1) (Constant (pos 40)) Leaves)) ∷ []))) ∷ (procedure 20 [] (body ((OfPointer (Some 1)) ∷
    (OfPointer (Some 0)) ∷ OfNumber ∷ []) ((on 24 (Statement-F.New (Held (H.Local 0)) 1 Leaves)) ∷ (on 25 (Statement-F.PushObject (Held
    (H.Local 0)))) ∷ (on 26 (Statement-F.New (Held (H.Local 1)) 0 Leaves)) ∷ (on 27 (Statement-F.Trap 2 ((on 28 (Statement-F.Call 0 ((Passed
    (Held (H.Local 0))) ∷ (Passed (Held (H.Local 1))) ∷ []))) ∷ []))) ∷ (on 30 (Statement-F.If (Less (Variable 2) (Constant (pos 0))) ((on
    31 (Statement-F.Delete (Held (H.Local 1)))) ∷ []))) ∷ (on 33 (Statement-F.PopDestroy (Constant (pos 1)))) ∷ []))) ∷ []) [] [] 1

object_deleted_twice_check : (required script_object_deleted_twice_check 10000 (shaped 4096 4096) ≡ 288) × (rises
    script_object_deleted_twice_check 10000 (shaped 4096 4096) ≡ (rise 1 144) ∷ (rise 2 192) ∷ (rise 3 224) ∷ (rise 4 288) ∷ []) × (length
    (runs_of Single script_object_deleted_twice_check 10000 (shaped 4096 4096) 0).trace ≡ 4) × (least_bad_or_cut Single
    script_object_deleted_twice_check 10000 (shaped 4096 4096) ≡ Some 4) × (runs_of Single script_object_deleted_twice_check 10000 (shaped
    4096 4096) 4 ≡ result (Panicked (P.Workbench 1)) ((line 1 144 0 Granted) ∷ (line 2 48 144 Granted) ∷ (line 3 32 192 Granted) ∷ (line 4
    64 224 Simulated) ∷ []) [] [] 15)
unfolding everything
object_deleted_twice_check = (refl, refl, refl, refl, refl)
