-- Worked runs and sweeps in which failure persists from an attempt on, each by computing.
use Rattle.std.specs.Prelude.{◌≡◌, refl, pos, negsuc, [], ◌∷◌, length, Some, None}
use Rattle.wb_runs.specs.declared.failures.Failures.TheVariants.{Single, Persistent}
use Rattle.wb_heap_model.specs.declared.heap.Rule.TheVariants as R
use Rattle.wb_heap_model.specs.declared.heap.Panic.TheVariants as P
use Rattle.wb_tree.specs.declared.script.Holder.TheVariants as H
use Rattle.wb_heap_model.specs.declared.heap.Answer.TheVariants.{Granted, Simulated}
use Rattle.wb_runs.specs.declared.run_end.RunEnd.TheVariants as E
use Rattle.wb_meaning.specs.declared.run.Why.TheVariants.{Budget}
use Rattle.wb_meaning.specs.declared.run.Outcome.TheVariants.{Ended, Panicked, NoCleanup, Cut}
use Rattle.wb_tree.specs.declared.script.Script.{Script}
use Rattle.wb_tree.specs.declared.script.Local.TheVariants.{OfPointer, OfNumber}
use Rattle.wb_tree.specs.declared.script.Pointer.TheVariants.{Held}
use Rattle.wb_tree.specs.declared.script.Number.TheVariants.{Constant}
use Rattle.wb_tree.specs.declared.script.Readable.TheVariants.{Quoted}
use Rattle.wb_tree.specs.declared.script.Condition.TheVariants.{IsNull}
use Rattle.wb_tree.specs.declared.script.Refusal.TheVariants.{GivesNull, Leaves}
use Rattle.wb_tree.specs.declared.script.Statement.TheOpen.{Statement-F}
use Rattle.wb_meaning.specs.Run.{run, required, rises}
use Rattle.wb_runs.specs.AllNumbers.{unfine_in}
use Rattle.wb_runs.specs.Sweeps.{runs_of, least_bad_or_cut}
use Rattle.wb_worked.specs.Shorthands.{
  everything,
  on,
  script,
  procedure,
  body,
  result,
  leak,
  shaped,
  shaped_moving,
  line,
  rise,
  ending,
  part,
}

abbrev script_cut_later_sweep : Script
script_cut_later_sweep = script [] ((procedure 2 [] (body ((OfPointer None) ∷ []) ((on 4 (Statement-F.Repeat (Constant (pos 200)) ((on 5
    (Statement-F.If (IsNull (Held (H.Local 0))) ((on 6 (Statement-F.Alloc (Held (H.Local 0)) (Constant (pos 16)) GivesNull)) ∷ []))) ∷ [])))
    ∷ (on 9 (Statement-F.Free (Held (H.Local 0)))) ∷ []))) ∷ []) [] [] 0

cut_later_sweep : (least_bad_or_cut Persistent script_cut_later_sweep 500 (shaped 4096 4096) ≡ Some 2) × ((runs_of Persistent
    script_cut_later_sweep 500 (shaped 4096 4096) 2).outcome ≡ Cut Budget)
unfolding everything
cut_later_sweep = (refl, refl)

abbrev script_empty_main_sweep : Script
script_empty_main_sweep = script [] ((procedure 1 [] (body [] [])) ∷ []) [] [] 0

empty_main_sweep : (length (runs_of Persistent script_empty_main_sweep 10000 (shaped 4096 4096) 0).trace ≡ 1) × (least_bad_or_cut Persistent
    script_empty_main_sweep 10000 (shaped 4096 4096) ≡ None)
unfolding everything
empty_main_sweep = (refl, refl)

abbrev script_full_heap_persistent_moving_check : Script
script_full_heap_persistent_moving_check = script [] ((procedure 1 [] (body ((OfPointer None) ∷ (OfPointer None) ∷ []) ((on 4
    (Statement-F.Alloc (Held (H.Local 0)) (Constant (pos 1000)) GivesNull)) ∷ (on 5 (Statement-F.If (IsNull (Held (H.Local 0))) ((on 6
    (Statement-F.Alloc (Held (H.Local 1)) (Constant (pos 50)) GivesNull)) ∷ (on 7 (Statement-F.If (IsNull (Held (H.Local 1))) ((on 8
    (Statement-F.Free (Held (H.Local 1)))) ∷ (on 9 (Statement-F.Store (Held (H.Local 1)) (Constant (pos 0)) (Constant (pos 1)))) ∷ []))) ∷
    (on 11 (Statement-F.Free (Held (H.Local 1)))) ∷ []))) ∷ (on 13 (Statement-F.Free (Held (H.Local 0)))) ∷ []))) ∷ []) [] [] 0

full_heap_persistent_moving_check : (required script_full_heap_persistent_moving_check 10000 (shaped_moving 4096 4096) ≡ 1168) × (rises
    script_full_heap_persistent_moving_check 10000 (shaped_moving 4096 4096) ≡ (rise 1 144) ∷ (rise 2 1168) ∷ []) × (length (runs_of
    Persistent script_full_heap_persistent_moving_check 10000 (shaped_moving 4096 4096) 0).trace ≡ 2) × (least_bad_or_cut Persistent
    script_full_heap_persistent_moving_check 10000 (shaped_moving 4096 4096) ≡ Some 2) × (runs_of Persistent
    script_full_heap_persistent_moving_check 10000 (shaped_moving 4096 4096) 2 ≡ result (Panicked (P.Workbench 1)) ((line 1 144 0 Granted) ∷
    (line 2 1024 144 Simulated) ∷ (line 3 80 144 Simulated) ∷ []) [] [] 6)
unfolding everything
full_heap_persistent_moving_check = (refl, refl, refl, refl, refl)

abbrev script_full_heap_persistent_sweep : Script
script_full_heap_persistent_sweep = script [] ((procedure 1 [] (body ((OfPointer None) ∷ (OfPointer None) ∷ []) ((on 4 (Statement-F.Alloc
    (Held (H.Local 0)) (Constant (pos 1000)) GivesNull)) ∷ (on 5 (Statement-F.If (IsNull (Held (H.Local 0))) ((on 6 (Statement-F.Alloc (Held
    (H.Local 1)) (Constant (pos 50)) GivesNull)) ∷ (on 7 (Statement-F.If (IsNull (Held (H.Local 1))) ((on 8 (Statement-F.Free (Held (H.Local
    1)))) ∷ (on 9 (Statement-F.Store (Held (H.Local 1)) (Constant (pos 0)) (Constant (pos 1)))) ∷ []))) ∷ (on 11 (Statement-F.Free (Held
    (H.Local 1)))) ∷ []))) ∷ (on 13 (Statement-F.Free (Held (H.Local 0)))) ∷ []))) ∷ []) [] [] 0

full_heap_persistent_sweep : (length (runs_of Persistent script_full_heap_persistent_sweep 10000 (shaped 4096 4096) 0).trace ≡ 2) ×
    (least_bad_or_cut Persistent script_full_heap_persistent_sweep 10000 (shaped 4096 4096) ≡ Some 2) × (runs_of Persistent
    script_full_heap_persistent_sweep 10000 (shaped 4096 4096) 2 ≡ result (Panicked (P.Workbench 1)) ((line 1 144 0 Granted) ∷ (line 2 1024
    144 Simulated) ∷ (line 3 80 144 Simulated) ∷ []) [] [] 6)
unfolding everything
full_heap_persistent_sweep = (refl, refl, refl)

abbrev script_full_heap_sweep : Script
script_full_heap_sweep = script [] ((procedure 1 [] (body ((OfPointer None) ∷ (OfPointer None) ∷ []) ((on 4 (Statement-F.Alloc (Held
    (H.Local 0)) (Constant (pos 1000)) GivesNull)) ∷ (on 5 (Statement-F.If (IsNull (Held (H.Local 0))) ((on 6 (Statement-F.Alloc (Held
    (H.Local 1)) (Constant (pos 50)) GivesNull)) ∷ (on 7 (Statement-F.If (IsNull (Held (H.Local 1))) ((on 8 (Statement-F.Free (Held (H.Local
    1)))) ∷ (on 9 (Statement-F.Store (Held (H.Local 1)) (Constant (pos 0)) (Constant (pos 1)))) ∷ []))) ∷ (on 11 (Statement-F.Free (Held
    (H.Local 1)))) ∷ []))) ∷ (on 13 (Statement-F.Free (Held (H.Local 0)))) ∷ []))) ∷ []) [] [] 0

full_heap_sweep : (length (runs_of Single script_full_heap_sweep 10000 (shaped 4096 4096) 0).trace ≡ 2) × (least_bad_or_cut Single
    script_full_heap_sweep 10000 (shaped 4096 4096) ≡ None)
unfolding everything
full_heap_sweep = (refl, refl)

abbrev script_gives_up_0_run : Script
script_gives_up_0_run = script [] ((procedure 2 [] (body ((OfPointer None) ∷ (OfPointer None) ∷ []) ((on 5 (Statement-F.Alloc (Held (H.Local
    0)) (Constant (pos 16)) GivesNull)) ∷ (on 6 (Statement-F.If (IsNull (Held (H.Local 0))) ((on 7 Statement-F.Return) ∷ []))) ∷ (on 9
    (Statement-F.Alloc (Held (H.Local 1)) (Constant (pos 64)) GivesNull)) ∷ (on 10 (Statement-F.If (IsNull (Held (H.Local 1))) ((on 11
    (Statement-F.Alloc (Held (H.Local 1)) (Constant (pos 64)) GivesNull)) ∷ []))) ∷ (on 13 (Statement-F.If (IsNull (Held (H.Local 1))) ((on
    14 (Statement-F.Alloc (Held (H.Local 1)) (Constant (pos 64)) GivesNull)) ∷ []))) ∷ (on 16 (Statement-F.If (IsNull (Held (H.Local 1)))
    ((on 17 (Statement-F.Leave (Constant (negsuc 3)))) ∷ []))) ∷ (on 19 (Statement-F.Free (Held (H.Local 1)))) ∷ (on 20 (Statement-F.Free
    (Held (H.Local 0)))) ∷ []))) ∷ []) [] [] 0

gives_up_0_run : run script_gives_up_0_run (R.From 0) 10000 (shaped 4096 4096) ≡ result (Ended None []) ((line 1 144 0 Granted) ∷ (line 2 32
    144 Granted) ∷ (line 3 80 176 Granted) ∷ []) [] [] 8
unfolding everything
gives_up_0_run = refl

abbrev script_gives_up_1_run : Script
script_gives_up_1_run = script [] ((procedure 2 [] (body ((OfPointer None) ∷ (OfPointer None) ∷ []) ((on 5 (Statement-F.Alloc (Held (H.Local
    0)) (Constant (pos 16)) GivesNull)) ∷ (on 6 (Statement-F.If (IsNull (Held (H.Local 0))) ((on 7 Statement-F.Return) ∷ []))) ∷ (on 9
    (Statement-F.Alloc (Held (H.Local 1)) (Constant (pos 64)) GivesNull)) ∷ (on 10 (Statement-F.If (IsNull (Held (H.Local 1))) ((on 11
    (Statement-F.Alloc (Held (H.Local 1)) (Constant (pos 64)) GivesNull)) ∷ []))) ∷ (on 13 (Statement-F.If (IsNull (Held (H.Local 1))) ((on
    14 (Statement-F.Alloc (Held (H.Local 1)) (Constant (pos 64)) GivesNull)) ∷ []))) ∷ (on 16 (Statement-F.If (IsNull (Held (H.Local 1)))
    ((on 17 (Statement-F.Leave (Constant (negsuc 3)))) ∷ []))) ∷ (on 19 (Statement-F.Free (Held (H.Local 1)))) ∷ (on 20 (Statement-F.Free
    (Held (H.Local 0)))) ∷ []))) ∷ []) [] [] 0

gives_up_1_run : run script_gives_up_1_run (R.From 1) 10000 (shaped 4096 4096) ≡ result NoCleanup ((line 1 144 0 Simulated) ∷ []) [] [] 0
unfolding everything
gives_up_1_run = refl

abbrev script_gives_up_all_sweep : Script
script_gives_up_all_sweep = script [] ((procedure 2 [] (body ((OfPointer None) ∷ (OfPointer None) ∷ []) ((on 5 (Statement-F.Alloc (Held
    (H.Local 0)) (Constant (pos 16)) GivesNull)) ∷ (on 6 (Statement-F.If (IsNull (Held (H.Local 0))) ((on 7 Statement-F.Return) ∷ []))) ∷
    (on 9 (Statement-F.Alloc (Held (H.Local 1)) (Constant (pos 64)) GivesNull)) ∷ (on 10 (Statement-F.If (IsNull (Held (H.Local 1))) ((on 11
    (Statement-F.Alloc (Held (H.Local 1)) (Constant (pos 64)) GivesNull)) ∷ []))) ∷ (on 13 (Statement-F.If (IsNull (Held (H.Local 1))) ((on
    14 (Statement-F.Alloc (Held (H.Local 1)) (Constant (pos 64)) GivesNull)) ∷ []))) ∷ (on 16 (Statement-F.If (IsNull (Held (H.Local 1)))
    ((on 17 (Statement-F.Leave (Constant (negsuc 3)))) ∷ []))) ∷ (on 19 (Statement-F.Free (Held (H.Local 1)))) ∷ (on 20 (Statement-F.Free
    (Held (H.Local 0)))) ∷ []))) ∷ []) [] [] 0

gives_up_all_sweep : (length ((runs_of Persistent script_gives_up_all_sweep 10000 (shaped 4096 4096)) 0).trace ≡ 3) × (unfine_in (runs_of
    Persistent script_gives_up_all_sweep 10000 (shaped 4096 4096)) (part 0 16777216) ≡ (ending 3 (E.Leaked 1)) ∷ []) × ((runs_of Persistent
    script_gives_up_all_sweep 10000 (shaped 4096 4096)) 3 ≡ result (Ended (Some (negsuc 3)) ((leak 2 32 144) ∷ [])) ((line 1 144 0 Granted)
    ∷ (line 2 32 144 Granted) ∷ (line 3 80 176 Simulated) ∷ (line 4 80 176 Simulated) ∷ (line 5 80 176 Simulated) ∷ []) [] [] 9)
unfolding everything
gives_up_all_sweep = (refl, refl, refl)

abbrev script_gives_up_before_sweep : Script
script_gives_up_before_sweep = script [] ((procedure 2 [] (body ((OfPointer None) ∷ (OfPointer None) ∷ []) ((on 5 (Statement-F.Alloc (Held
    (H.Local 0)) (Constant (pos 16)) GivesNull)) ∷ (on 6 (Statement-F.If (IsNull (Held (H.Local 0))) ((on 7 Statement-F.Return) ∷ []))) ∷
    (on 9 (Statement-F.Alloc (Held (H.Local 1)) (Constant (pos 64)) GivesNull)) ∷ (on 10 (Statement-F.If (IsNull (Held (H.Local 1))) ((on 11
    (Statement-F.Alloc (Held (H.Local 1)) (Constant (pos 64)) GivesNull)) ∷ []))) ∷ (on 13 (Statement-F.If (IsNull (Held (H.Local 1))) ((on
    14 (Statement-F.Alloc (Held (H.Local 1)) (Constant (pos 64)) GivesNull)) ∷ []))) ∷ (on 16 (Statement-F.If (IsNull (Held (H.Local 1)))
    ((on 17 (Statement-F.Leave (Constant (negsuc 3)))) ∷ []))) ∷ (on 19 (Statement-F.Free (Held (H.Local 1)))) ∷ (on 20 (Statement-F.Free
    (Held (H.Local 0)))) ∷ []))) ∷ []) [] [] 0

gives_up_before_sweep : (length ((runs_of Persistent script_gives_up_before_sweep 10000 (shaped 4096 4096)) 0).trace ≡ 3) × (unfine_in
    (runs_of Persistent script_gives_up_before_sweep 10000 (shaped 4096 4096)) (part 0 2) ≡ [])
unfolding everything
gives_up_before_sweep = (refl, refl)

abbrev script_gives_up_check : Script
script_gives_up_check = script [] ((procedure 2 [] (body ((OfPointer None) ∷ (OfPointer None) ∷ []) ((on 5 (Statement-F.Alloc (Held (H.Local
    0)) (Constant (pos 16)) GivesNull)) ∷ (on 6 (Statement-F.If (IsNull (Held (H.Local 0))) ((on 7 Statement-F.Return) ∷ []))) ∷ (on 9
    (Statement-F.Alloc (Held (H.Local 1)) (Constant (pos 64)) GivesNull)) ∷ (on 10 (Statement-F.If (IsNull (Held (H.Local 1))) ((on 11
    (Statement-F.Alloc (Held (H.Local 1)) (Constant (pos 64)) GivesNull)) ∷ []))) ∷ (on 13 (Statement-F.If (IsNull (Held (H.Local 1))) ((on
    14 (Statement-F.Alloc (Held (H.Local 1)) (Constant (pos 64)) GivesNull)) ∷ []))) ∷ (on 16 (Statement-F.If (IsNull (Held (H.Local 1)))
    ((on 17 (Statement-F.Leave (Constant (negsuc 3)))) ∷ []))) ∷ (on 19 (Statement-F.Free (Held (H.Local 1)))) ∷ (on 20 (Statement-F.Free
    (Held (H.Local 0)))) ∷ []))) ∷ []) [] [] 0

gives_up_check : (required script_gives_up_check 10000 (shaped 4096 4096) ≡ 256) × (rises script_gives_up_check 10000 (shaped 4096 4096) ≡
    (rise 1 144) ∷ (rise 2 176) ∷ (rise 3 256) ∷ []) × (length (runs_of Persistent script_gives_up_check 10000 (shaped 4096 4096) 0).trace ≡
    3) × (least_bad_or_cut Persistent script_gives_up_check 10000 (shaped 4096 4096) ≡ Some 3) × (runs_of Persistent script_gives_up_check
    10000 (shaped 4096 4096) 3 ≡ result (Ended (Some (negsuc 3)) ((leak 2 32 144) ∷ [])) ((line 1 144 0 Granted) ∷ (line 2 32 144 Granted) ∷
    (line 3 80 176 Simulated) ∷ (line 4 80 176 Simulated) ∷ (line 5 80 176 Simulated) ∷ []) [] [] 9)
unfolding everything
gives_up_check = (refl, refl, refl, refl, refl)

abbrev script_gives_up_far_run : Script
script_gives_up_far_run = script [] ((procedure 2 [] (body ((OfPointer None) ∷ (OfPointer None) ∷ []) ((on 5 (Statement-F.Alloc (Held
    (H.Local 0)) (Constant (pos 16)) GivesNull)) ∷ (on 6 (Statement-F.If (IsNull (Held (H.Local 0))) ((on 7 Statement-F.Return) ∷ []))) ∷
    (on 9 (Statement-F.Alloc (Held (H.Local 1)) (Constant (pos 64)) GivesNull)) ∷ (on 10 (Statement-F.If (IsNull (Held (H.Local 1))) ((on 11
    (Statement-F.Alloc (Held (H.Local 1)) (Constant (pos 64)) GivesNull)) ∷ []))) ∷ (on 13 (Statement-F.If (IsNull (Held (H.Local 1))) ((on
    14 (Statement-F.Alloc (Held (H.Local 1)) (Constant (pos 64)) GivesNull)) ∷ []))) ∷ (on 16 (Statement-F.If (IsNull (Held (H.Local 1)))
    ((on 17 (Statement-F.Leave (Constant (negsuc 3)))) ∷ []))) ∷ (on 19 (Statement-F.Free (Held (H.Local 1)))) ∷ (on 20 (Statement-F.Free
    (Held (H.Local 0)))) ∷ []))) ∷ []) [] [] 0

gives_up_far_run : run script_gives_up_far_run (R.From 16777216) 10000 (shaped 4096 4096) ≡ result (Ended None []) ((line 1 144 0 Granted) ∷
    (line 2 32 144 Granted) ∷ (line 3 80 176 Granted) ∷ []) [] [] 8
unfolding everything
gives_up_far_run = refl

abbrev script_gives_up_json_sweep : Script
script_gives_up_json_sweep = script [] ((procedure 2 [] (body ((OfPointer None) ∷ (OfPointer None) ∷ []) ((on 5 (Statement-F.Alloc (Held
    (H.Local 0)) (Constant (pos 16)) GivesNull)) ∷ (on 6 (Statement-F.If (IsNull (Held (H.Local 0))) ((on 7 Statement-F.Return) ∷ []))) ∷
    (on 9 (Statement-F.Alloc (Held (H.Local 1)) (Constant (pos 64)) GivesNull)) ∷ (on 10 (Statement-F.If (IsNull (Held (H.Local 1))) ((on 11
    (Statement-F.Alloc (Held (H.Local 1)) (Constant (pos 64)) GivesNull)) ∷ []))) ∷ (on 13 (Statement-F.If (IsNull (Held (H.Local 1))) ((on
    14 (Statement-F.Alloc (Held (H.Local 1)) (Constant (pos 64)) GivesNull)) ∷ []))) ∷ (on 16 (Statement-F.If (IsNull (Held (H.Local 1)))
    ((on 17 (Statement-F.Leave (Constant (negsuc 3)))) ∷ []))) ∷ (on 19 (Statement-F.Free (Held (H.Local 1)))) ∷ (on 20 (Statement-F.Free
    (Held (H.Local 0)))) ∷ []))) ∷ []) [] [] 0

gives_up_json_sweep : (length (runs_of Persistent script_gives_up_json_sweep 10000 (shaped 4096 4096) 0).trace ≡ 3) × (least_bad_or_cut
    Persistent script_gives_up_json_sweep 10000 (shaped 4096 4096) ≡ Some 3) × (runs_of Persistent script_gives_up_json_sweep 10000 (shaped
    4096 4096) 3 ≡ result (Ended (Some (negsuc 3)) ((leak 2 32 144) ∷ [])) ((line 1 144 0 Granted) ∷ (line 2 32 144 Granted) ∷ (line 3 80
    176 Simulated) ∷ (line 4 80 176 Simulated) ∷ (line 5 80 176 Simulated) ∷ []) [] [] 9)
unfolding everything
gives_up_json_sweep = (refl, refl, refl)

abbrev script_gives_up_part_sweep : Script
script_gives_up_part_sweep = script [] ((procedure 2 [] (body ((OfPointer None) ∷ (OfPointer None) ∷ []) ((on 5 (Statement-F.Alloc (Held
    (H.Local 0)) (Constant (pos 16)) GivesNull)) ∷ (on 6 (Statement-F.If (IsNull (Held (H.Local 0))) ((on 7 Statement-F.Return) ∷ []))) ∷
    (on 9 (Statement-F.Alloc (Held (H.Local 1)) (Constant (pos 64)) GivesNull)) ∷ (on 10 (Statement-F.If (IsNull (Held (H.Local 1))) ((on 11
    (Statement-F.Alloc (Held (H.Local 1)) (Constant (pos 64)) GivesNull)) ∷ []))) ∷ (on 13 (Statement-F.If (IsNull (Held (H.Local 1))) ((on
    14 (Statement-F.Alloc (Held (H.Local 1)) (Constant (pos 64)) GivesNull)) ∷ []))) ∷ (on 16 (Statement-F.If (IsNull (Held (H.Local 1)))
    ((on 17 (Statement-F.Leave (Constant (negsuc 3)))) ∷ []))) ∷ (on 19 (Statement-F.Free (Held (H.Local 1)))) ∷ (on 20 (Statement-F.Free
    (Held (H.Local 0)))) ∷ []))) ∷ []) [] [] 0

gives_up_part_sweep : (length ((runs_of Persistent script_gives_up_part_sweep 10000 (shaped 4096 4096)) 0).trace ≡ 3) × (unfine_in (runs_of
    Persistent script_gives_up_part_sweep 10000 (shaped 4096 4096)) (part 4 16777216) ≡ [])
unfolding everything
gives_up_part_sweep = (refl, refl)

abbrev script_gives_up_run : Script
script_gives_up_run = script [] ((procedure 2 [] (body ((OfPointer None) ∷ (OfPointer None) ∷ []) ((on 5 (Statement-F.Alloc (Held (H.Local
    0)) (Constant (pos 16)) GivesNull)) ∷ (on 6 (Statement-F.If (IsNull (Held (H.Local 0))) ((on 7 Statement-F.Return) ∷ []))) ∷ (on 9
    (Statement-F.Alloc (Held (H.Local 1)) (Constant (pos 64)) GivesNull)) ∷ (on 10 (Statement-F.If (IsNull (Held (H.Local 1))) ((on 11
    (Statement-F.Alloc (Held (H.Local 1)) (Constant (pos 64)) GivesNull)) ∷ []))) ∷ (on 13 (Statement-F.If (IsNull (Held (H.Local 1))) ((on
    14 (Statement-F.Alloc (Held (H.Local 1)) (Constant (pos 64)) GivesNull)) ∷ []))) ∷ (on 16 (Statement-F.If (IsNull (Held (H.Local 1)))
    ((on 17 (Statement-F.Leave (Constant (negsuc 3)))) ∷ []))) ∷ (on 19 (Statement-F.Free (Held (H.Local 1)))) ∷ (on 20 (Statement-F.Free
    (Held (H.Local 0)))) ∷ []))) ∷ []) [] [] 0

gives_up_run : run script_gives_up_run (R.From 3) 10000 (shaped 4096 4096) ≡ result (Ended (Some (negsuc 3)) ((leak 2 32 144) ∷ [])) ((line
    1 144 0 Granted) ∷ (line 2 32 144 Granted) ∷ (line 3 80 176 Simulated) ∷ (line 4 80 176 Simulated) ∷ (line 5 80 176 Simulated) ∷ []) []
    [] 9
unfolding everything
gives_up_run = refl

abbrev script_gives_up_single_sweep : Script
script_gives_up_single_sweep = script [] ((procedure 2 [] (body ((OfPointer None) ∷ (OfPointer None) ∷ []) ((on 5 (Statement-F.Alloc (Held
    (H.Local 0)) (Constant (pos 16)) GivesNull)) ∷ (on 6 (Statement-F.If (IsNull (Held (H.Local 0))) ((on 7 Statement-F.Return) ∷ []))) ∷
    (on 9 (Statement-F.Alloc (Held (H.Local 1)) (Constant (pos 64)) GivesNull)) ∷ (on 10 (Statement-F.If (IsNull (Held (H.Local 1))) ((on 11
    (Statement-F.Alloc (Held (H.Local 1)) (Constant (pos 64)) GivesNull)) ∷ []))) ∷ (on 13 (Statement-F.If (IsNull (Held (H.Local 1))) ((on
    14 (Statement-F.Alloc (Held (H.Local 1)) (Constant (pos 64)) GivesNull)) ∷ []))) ∷ (on 16 (Statement-F.If (IsNull (Held (H.Local 1)))
    ((on 17 (Statement-F.Leave (Constant (negsuc 3)))) ∷ []))) ∷ (on 19 (Statement-F.Free (Held (H.Local 1)))) ∷ (on 20 (Statement-F.Free
    (Held (H.Local 0)))) ∷ []))) ∷ []) [] [] 0

gives_up_single_sweep : (length (runs_of Single script_gives_up_single_sweep 10000 (shaped 4096 4096) 0).trace ≡ 3) × (least_bad_or_cut
    Single script_gives_up_single_sweep 10000 (shaped 4096 4096) ≡ None)
unfolding everything
gives_up_single_sweep = (refl, refl)

abbrev script_gives_up_sweep : Script
script_gives_up_sweep = script [] ((procedure 2 [] (body ((OfPointer None) ∷ (OfPointer None) ∷ []) ((on 5 (Statement-F.Alloc (Held (H.Local
    0)) (Constant (pos 16)) GivesNull)) ∷ (on 6 (Statement-F.If (IsNull (Held (H.Local 0))) ((on 7 Statement-F.Return) ∷ []))) ∷ (on 9
    (Statement-F.Alloc (Held (H.Local 1)) (Constant (pos 64)) GivesNull)) ∷ (on 10 (Statement-F.If (IsNull (Held (H.Local 1))) ((on 11
    (Statement-F.Alloc (Held (H.Local 1)) (Constant (pos 64)) GivesNull)) ∷ []))) ∷ (on 13 (Statement-F.If (IsNull (Held (H.Local 1))) ((on
    14 (Statement-F.Alloc (Held (H.Local 1)) (Constant (pos 64)) GivesNull)) ∷ []))) ∷ (on 16 (Statement-F.If (IsNull (Held (H.Local 1)))
    ((on 17 (Statement-F.Leave (Constant (negsuc 3)))) ∷ []))) ∷ (on 19 (Statement-F.Free (Held (H.Local 1)))) ∷ (on 20 (Statement-F.Free
    (Held (H.Local 0)))) ∷ []))) ∷ []) [] [] 0

gives_up_sweep : (length (runs_of Persistent script_gives_up_sweep 10000 (shaped 4096 4096) 0).trace ≡ 3) × (least_bad_or_cut Persistent
    script_gives_up_sweep 10000 (shaped 4096 4096) ≡ Some 3) × (runs_of Persistent script_gives_up_sweep 10000 (shaped 4096 4096) 3 ≡ result
    (Ended (Some (negsuc 3)) ((leak 2 32 144) ∷ [])) ((line 1 144 0 Granted) ∷ (line 2 32 144 Granted) ∷ (line 3 80 176 Simulated) ∷ (line 4
    80 176 Simulated) ∷ (line 5 80 176 Simulated) ∷ []) [] [] 9)
unfolding everything
gives_up_sweep = (refl, refl, refl)

abbrev script_own_setting_sweep : Script
script_own_setting_sweep = script [] ((procedure 1 [] (body ((OfPointer None) ∷ (OfPointer None) ∷ []) ((on 4 (Statement-F.FailNext
    (Constant (pos 1)))) ∷ (on 5 (Statement-F.Alloc (Held (H.Local 0)) (Constant (pos 16)) GivesNull)) ∷ (on 6 (Statement-F.Alloc (Held
    (H.Local 1)) (Constant (pos 16)) GivesNull)) ∷ (on 7 (Statement-F.If (IsNull (Held (H.Local 1))) ((on 8 (Statement-F.Push (Held (H.Local
    0)))) ∷ []))) ∷ (on 10 (Statement-F.Free (Held (H.Local 0)))) ∷ (on 11 (Statement-F.Free (Held (H.Local 1)))) ∷ []))) ∷ []) [] [] 0

own_setting_sweep : (length (runs_of Persistent script_own_setting_sweep 10000 (shaped 4096 4096) 0).trace ≡ 3) × (least_bad_or_cut
    Persistent script_own_setting_sweep 10000 (shaped 4096 4096) ≡ Some 2) × (runs_of Persistent script_own_setting_sweep 10000 (shaped 4096
    4096) 2 ≡ result (Panicked (P.Workbench 5)) ((line 1 144 0 Granted) ∷ (line 2 32 144 Simulated) ∷ (line 3 32 144 Simulated) ∷ []) [] []
    7)
unfolding everything
own_setting_sweep = (refl, refl, refl)

abbrev script_persistent_none_sweep : Script
script_persistent_none_sweep = script [] ((procedure 1 [] (body ((OfPointer None) ∷ (OfPointer None) ∷ (OfPointer None) ∷ []) ((on 5
    (Statement-F.Alloc (Held (H.Local 0)) (Constant (pos 16)) GivesNull)) ∷ (on 6 (Statement-F.Alloc (Held (H.Local 1)) (Constant (pos 16))
    GivesNull)) ∷ (on 7 (Statement-F.Alloc (Held (H.Local 2)) (Constant (pos 16)) GivesNull)) ∷ (on 8 (Statement-F.If (IsNull (Held (H.Local
    0))) ((on 9 (Statement-F.If (IsNull (Held (H.Local 2))) ((on 10 (Statement-F.Leave (Constant (negsuc 3)))) ∷ []))) ∷ []))) ∷ (on 13
    (Statement-F.Free (Held (H.Local 0)))) ∷ (on 14 (Statement-F.Free (Held (H.Local 1)))) ∷ (on 15 (Statement-F.Free (Held (H.Local 2)))) ∷
    []))) ∷ []) [] [] 0

persistent_none_sweep : (length (runs_of Persistent script_persistent_none_sweep 10000 (shaped 4096 4096) 0).trace ≡ 4) × (least_bad_or_cut
    Persistent script_persistent_none_sweep 10000 (shaped 4096 4096) ≡ None)
unfolding everything
persistent_none_sweep = (refl, refl)

abbrev script_swallowed_all_sweep : Script
script_swallowed_all_sweep = script [] ((procedure 2 [] (body ((OfPointer None) ∷ []) ((on 4 (Statement-F.Alloc (Held (H.Local 0)) (Constant
    (pos 40)) Leaves)) ∷ (on 5 (Statement-F.PrintText (Quoted 0))) ∷ (on 6 (Statement-F.Free (Held (H.Local 0)))) ∷ []))) ∷ (procedure 8 []
    (body (OfNumber ∷ []) ((on 10 (Statement-F.Trap 0 ((on 11 (Statement-F.Call 0 [])) ∷ []))) ∷ (on 13 (Statement-F.PrintText (Quoted 1)))
    ∷ []))) ∷ []) [] ((115 ∷ 97 ∷ 118 ∷ 101 ∷ 100 ∷ []) ∷ (100 ∷ 111 ∷ 110 ∷ 101 ∷ []) ∷ []) 1

swallowed_all_sweep : (length ((runs_of Single script_swallowed_all_sweep 10000 (shaped 4096 4096)) 0).trace ≡ 2) × (unfine_in (runs_of
    Single script_swallowed_all_sweep 10000 (shaped 4096 4096)) (part 0 16777216) ≡ [])
unfolding everything
swallowed_all_sweep = (refl, refl)
