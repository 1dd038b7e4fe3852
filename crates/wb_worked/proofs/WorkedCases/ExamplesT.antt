-- Worked cases of `examples`, each by computing. Written by tools/cases_to_theorems.py; edit nothing here.
use Rattle.std.specs.Prelude.{◌≡◌, refl, pos, negsuc, [], ◌∷◌, length, Some, None}
use Rattle.wb_runs.specs.declared.failures.Failures.TheVariants.{Single, Every}
use Rattle.wb_heap_model.specs.declared.heap.Rule.TheVariants as R
use Rattle.wb_tree.specs.declared.script.Holder.TheVariants as H
use Rattle.wb_heap_model.specs.declared.heap.Answer.TheVariants.{Granted, Simulated}
use Rattle.wb_meaning.specs.declared.run.Outcome.TheVariants.{Ended}
use Rattle.wb_tree.specs.declared.script.Script.{Script}
use Rattle.wb_tree.specs.declared.script.Local.TheVariants.{OfPointer, OfNumber}
use Rattle.wb_tree.specs.declared.script.Pointer.TheVariants.{Held}
use Rattle.wb_tree.specs.declared.script.Number.TheVariants.{Constant, Variable}
use Rattle.wb_tree.specs.declared.script.Writable.TheVariants.{InCell}
use Rattle.wb_tree.specs.declared.script.Readable.TheVariants.{Quoted}
use Rattle.wb_tree.specs.declared.script.Condition.TheVariants.{Less}
use Rattle.wb_tree.specs.declared.script.Refusal.TheVariants.{Leaves}
use Rattle.wb_tree.specs.declared.script.Statement.TheOpen.{Statement-F}
use Rattle.wb_meaning.specs.Run.{run, required, rises}
use Rattle.wb_runs.specs.Sweeps.{runs_of, least_bad_or_cut}
use Rattle.wb_worked.specs.Shorthands.{everything, on, script, procedure, body, result, leak, shaped, line, rise}

abbrev script_test_loop_check : Script
script_test_loop_check = script [] ((procedure 3 [] (body ((OfPointer None) ∷ (OfPointer None) ∷ []) ((on 6 (Statement-F.Alloc (Held
    (H.Local 0)) (Constant (pos 40)) Leaves)) ∷ (on 7 (Statement-F.Push (Held (H.Local 0)))) ∷ (on 8 (Statement-F.NewText (Held (H.Local 1))
    (Constant (pos 8)) Leaves)) ∷ (on 9 (Statement-F.Push (Held (H.Local 1)))) ∷ (on 10 (Statement-F.Copy (InCell (Held (H.Local 1)))
    (Quoted 0))) ∷ (on 11 (Statement-F.PopDestroy (Constant (pos 2)))) ∷ []))) ∷ (procedure 14 [] (body (OfNumber ∷ OfNumber ∷ []) ((on 17
    (Statement-F.Repeat (Constant (pos 4)) ((on 18 (Statement-F.Add 0 (Constant (pos 1)))) ∷ (on 19 Statement-F.Mark) ∷ (on 21
    (Statement-F.FailEvery (Variable 0))) ∷ (on 22 (Statement-F.Trap 1 ((on 23 (Statement-F.Call 0 [])) ∷ []))) ∷ (on 25
    Statement-F.FailNone) ∷ (on 27 (Statement-F.MarkEnd (Constant (pos 0)))) ∷ (on 29 (Statement-F.PrintNumber (Variable 1))) ∷ []))) ∷
    []))) ∷ []) [] ((112 ∷ 114 ∷ 105 ∷ 99 ∷ 101 ∷ 115 ∷ []) ∷ []) 1

test_loop_check : (required script_test_loop_check 10000 (shaped 4096 4096) ≡ 256) × (rises script_test_loop_check 10000 (shaped 4096 4096)
    ≡ (rise 1 144) ∷ (rise 3 208) ∷ (rise 6 256) ∷ []) × (length (runs_of Single script_test_loop_check 10000 (shaped 4096 4096) 0).trace ≡
    8) × (least_bad_or_cut Single script_test_loop_check 10000 (shaped 4096 4096) ≡ None)
unfolding everything
test_loop_check = (refl, refl, refl, refl)

abbrev script_test_loop_every_sweep : Script
script_test_loop_every_sweep = script [] ((procedure 3 [] (body ((OfPointer None) ∷ (OfPointer None) ∷ []) ((on 6 (Statement-F.Alloc (Held
    (H.Local 0)) (Constant (pos 40)) Leaves)) ∷ (on 7 (Statement-F.Push (Held (H.Local 0)))) ∷ (on 8 (Statement-F.NewText (Held (H.Local 1))
    (Constant (pos 8)) Leaves)) ∷ (on 9 (Statement-F.Push (Held (H.Local 1)))) ∷ (on 10 (Statement-F.Copy (InCell (Held (H.Local 1)))
    (Quoted 0))) ∷ (on 11 (Statement-F.PopDestroy (Constant (pos 2)))) ∷ []))) ∷ (procedure 14 [] (body (OfNumber ∷ OfNumber ∷ []) ((on 17
    (Statement-F.Repeat (Constant (pos 4)) ((on 18 (Statement-F.Add 0 (Constant (pos 1)))) ∷ (on 19 Statement-F.Mark) ∷ (on 21
    (Statement-F.FailEvery (Variable 0))) ∷ (on 22 (Statement-F.Trap 1 ((on 23 (Statement-F.Call 0 [])) ∷ []))) ∷ (on 25
    Statement-F.FailNone) ∷ (on 27 (Statement-F.MarkEnd (Constant (pos 0)))) ∷ (on 29 (Statement-F.PrintNumber (Variable 1))) ∷ []))) ∷
    []))) ∷ []) [] ((112 ∷ 114 ∷ 105 ∷ 99 ∷ 101 ∷ 115 ∷ []) ∷ []) 1

test_loop_every_sweep : (length (runs_of Every script_test_loop_every_sweep 10000 (shaped 4096 4096) 0).trace ≡ 8) × (least_bad_or_cut Every
    script_test_loop_every_sweep 10000 (shaped 4096 4096) ≡ None)
unfolding everything
test_loop_every_sweep = (refl, refl)

abbrev script_test_loop_run : Script
script_test_loop_run = script [] ((procedure 3 [] (body ((OfPointer None) ∷ (OfPointer None) ∷ []) ((on 6 (Statement-F.Alloc (Held (H.Local
    0)) (Constant (pos 40)) Leaves)) ∷ (on 7 (Statement-F.Push (Held (H.Local 0)))) ∷ (on 8 (Statement-F.NewText (Held (H.Local 1))
    (Constant (pos 8)) Leaves)) ∷ (on 9 (Statement-F.Push (Held (H.Local 1)))) ∷ (on 10 (Statement-F.Copy (InCell (Held (H.Local 1)))
    (Quoted 0))) ∷ (on 11 (Statement-F.PopDestroy (Constant (pos 2)))) ∷ []))) ∷ (procedure 14 [] (body (OfNumber ∷ OfNumber ∷ []) ((on 17
    (Statement-F.Repeat (Constant (pos 4)) ((on 18 (Statement-F.Add 0 (Constant (pos 1)))) ∷ (on 19 Statement-F.Mark) ∷ (on 21
    (Statement-F.FailEvery (Variable 0))) ∷ (on 22 (Statement-F.Trap 1 ((on 23 (Statement-F.Call 0 [])) ∷ []))) ∷ (on 25
    Statement-F.FailNone) ∷ (on 27 (Statement-F.MarkEnd (Constant (pos 0)))) ∷ (on 29 (Statement-F.PrintNumber (Variable 1))) ∷ []))) ∷
    []))) ∷ []) [] ((112 ∷ 114 ∷ 105 ∷ 99 ∷ 101 ∷ 115 ∷ []) ∷ []) 1

test_loop_run : run script_test_loop_run R.Unlimited 10000 (shaped 4096 4096) ≡ result (Ended None []) ((line 1 144 0 Granted) ∷ (line 2 64
    144 Simulated) ∷ (line 3 64 144 Granted) ∷ (line 4 48 208 Simulated) ∷ (line 5 64 144 Granted) ∷ (line 6 48 208 Granted) ∷ (line 7 64
    144 Granted) ∷ (line 8 48 208 Granted) ∷ []) ((45 ∷ 52 ∷ []) ∷ (45 ∷ 52 ∷ []) ∷ (48 ∷ []) ∷ (48 ∷ []) ∷ []) [] 58
unfolding everything
test_loop_run = refl

abbrev script_trap_by_hand_check : Script
script_trap_by_hand_check = script [] ((procedure 2 [] (body ((OfPointer None) ∷ (OfPointer None) ∷ OfNumber ∷ []) ((on 6 (Statement-F.Trap
    2 ((on 7 (Statement-F.Alloc (Held (H.Local 0)) (Constant (pos 20)) Leaves)) ∷ (on 8 (Statement-F.Alloc (Held (H.Local 1)) (Constant (pos
    60)) Leaves)) ∷ (on 9 (Statement-F.Store (Held (H.Local 1)) (Constant (pos 14)) (Constant (pos 1)))) ∷ []))) ∷ (on 12 (Statement-F.Free
    (Held (H.Local 0)))) ∷ (on 13 (Statement-F.Free (Held (H.Local 1)))) ∷ (on 15 (Statement-F.LeaveIfError (Variable 2))) ∷ []))) ∷ []) []
    [] 0

trap_by_hand_check : (required script_trap_by_hand_check 10000 (shaped 4096 4096) ≡ 272) × (rises script_trap_by_hand_check 10000 (shaped
    4096 4096) ≡ (rise 1 144) ∷ (rise 2 192) ∷ (rise 3 272) ∷ []) × (length (runs_of Single script_trap_by_hand_check 10000 (shaped 4096
    4096) 0).trace ≡ 3) × (least_bad_or_cut Single script_trap_by_hand_check 10000 (shaped 4096 4096) ≡ None)
unfolding everything
trap_by_hand_check = (refl, refl, refl, refl)

abbrev script_trap_by_hand_refused_run : Script
script_trap_by_hand_refused_run = script [] ((procedure 2 [] (body ((OfPointer None) ∷ (OfPointer None) ∷ OfNumber ∷ []) ((on 6
    (Statement-F.Trap 2 ((on 7 (Statement-F.Alloc (Held (H.Local 0)) (Constant (pos 20)) Leaves)) ∷ (on 8 (Statement-F.Alloc (Held (H.Local
    1)) (Constant (pos 60)) Leaves)) ∷ (on 9 (Statement-F.Store (Held (H.Local 1)) (Constant (pos 14)) (Constant (pos 1)))) ∷ []))) ∷ (on 12
    (Statement-F.Free (Held (H.Local 0)))) ∷ (on 13 (Statement-F.Free (Held (H.Local 1)))) ∷ (on 15 (Statement-F.LeaveIfError (Variable 2)))
    ∷ []))) ∷ []) [] [] 0

trap_by_hand_refused_run : run script_trap_by_hand_refused_run (R.Number 3) 10000 (shaped 4096 4096) ≡ result (Ended (Some (negsuc 3)) [])
    ((line 1 144 0 Granted) ∷ (line 2 48 144 Granted) ∷ (line 3 80 192 Simulated) ∷ []) [] [] 6
unfolding everything
trap_by_hand_refused_run = refl

abbrev script_two_phase_check : Script
script_two_phase_check = script [] ((procedure 2 [] (body ((OfPointer None) ∷ OfNumber ∷ []) ((on 5 (Statement-F.Alloc (Held (H.Local 0))
    (Constant (pos 16)) Leaves)) ∷ (on 6 (Statement-F.Store (Held (H.Local 0)) (Constant (pos 0)) (Constant (pos 1)))) ∷ (on 7
    (Statement-F.Trap 1 ((on 8 (Statement-F.Realloc (Held (H.Local 0)) (Held (H.Local 0)) (Constant (pos 200)) Leaves)) ∷ []))) ∷ (on 11
    (Statement-F.If (Less (Variable 1) (Constant (pos 0))) ((on 12 (Statement-F.Free (Held (H.Local 0)))) ∷ (on 13 (Statement-F.Leave
    (Variable 1))) ∷ []))) ∷ (on 15 (Statement-F.ReturnPointer (Held (H.Local 0)))) ∷ []))) ∷ (procedure 18 [] (body ((OfPointer None) ∷
    OfNumber ∷ []) ((on 21 (Statement-F.Trap 1 ((on 22 (Statement-F.CallTo 0 0 [])) ∷ []))) ∷ (on 24 (Statement-F.Free (Held (H.Local 0))))
    ∷ []))) ∷ []) [] [] 1

two_phase_check : (required script_two_phase_check 10000 (shaped 4096 4096) ≡ 368) × (rises script_two_phase_check 10000 (shaped 4096 4096)
    ≡ (rise 1 144) ∷ (rise 2 176) ∷ (rise 3 368) ∷ []) × (length (runs_of Single script_two_phase_check 10000 (shaped 4096 4096) 0).trace ≡
    3) × (least_bad_or_cut Single script_two_phase_check 10000 (shaped 4096 4096) ≡ None)
unfolding everything
two_phase_check = (refl, refl, refl, refl)

abbrev script_two_phase_leaks_check : Script
script_two_phase_leaks_check = script [] ((procedure 3 [] (body ((OfPointer None) ∷ []) ((on 5 (Statement-F.Alloc (Held (H.Local 0))
    (Constant (pos 16)) Leaves)) ∷ (on 6 (Statement-F.Store (Held (H.Local 0)) (Constant (pos 0)) (Constant (pos 1)))) ∷ (on 8
    (Statement-F.Realloc (Held (H.Local 0)) (Held (H.Local 0)) (Constant (pos 200)) Leaves)) ∷ (on 9 (Statement-F.ReturnPointer (Held
    (H.Local 0)))) ∷ []))) ∷ (procedure 12 [] (body ((OfPointer None) ∷ OfNumber ∷ []) ((on 15 (Statement-F.Trap 1 ((on 16
    (Statement-F.CallTo 0 0 [])) ∷ []))) ∷ (on 18 (Statement-F.Free (Held (H.Local 0)))) ∷ []))) ∷ []) [] [] 1

two_phase_leaks_check : (required script_two_phase_leaks_check 10000 (shaped 4096 4096) ≡ 368) × (rises script_two_phase_leaks_check 10000
    (shaped 4096 4096) ≡ (rise 1 144) ∷ (rise 2 176) ∷ (rise 3 368) ∷ []) × (length (runs_of Single script_two_phase_leaks_check 10000
    (shaped 4096 4096) 0).trace ≡ 3) × (least_bad_or_cut Single script_two_phase_leaks_check 10000 (shaped 4096 4096) ≡ Some 3) × (runs_of
    Single script_two_phase_leaks_check 10000 (shaped 4096 4096) 3 ≡ result (Ended None ((leak 2 32 144) ∷ [])) ((line 1 144 0 Granted) ∷
    (line 2 32 144 Granted) ∷ (line 3 224 144 Simulated) ∷ []) [] [] 6)
unfolding everything
two_phase_leaks_check = (refl, refl, refl, refl, refl)

abbrev script_two_phase_refused_run : Script
script_two_phase_refused_run = script [] ((procedure 2 [] (body ((OfPointer None) ∷ OfNumber ∷ []) ((on 5 (Statement-F.Alloc (Held (H.Local
    0)) (Constant (pos 16)) Leaves)) ∷ (on 6 (Statement-F.Store (Held (H.Local 0)) (Constant (pos 0)) (Constant (pos 1)))) ∷ (on 7
    (Statement-F.Trap 1 ((on 8 (Statement-F.Realloc (Held (H.Local 0)) (Held (H.Local 0)) (Constant (pos 200)) Leaves)) ∷ []))) ∷ (on 11
    (Statement-F.If (Less (Variable 1) (Constant (pos 0))) ((on 12 (Statement-F.Free (Held (H.Local 0)))) ∷ (on 13 (Statement-F.Leave
    (Variable 1))) ∷ []))) ∷ (on 15 (Statement-F.ReturnPointer (Held (H.Local 0)))) ∷ []))) ∷ (procedure 18 [] (body ((OfPointer None) ∷
    OfNumber ∷ []) ((on 21 (Statement-F.Trap 1 ((on 22 (Statement-F.CallTo 0 0 [])) ∷ []))) ∷ (on 24 (Statement-F.Free (Held (H.Local 0))))
    ∷ []))) ∷ []) [] [] 1

two_phase_refused_run : run script_two_phase_refused_run (R.Number 3) 10000 (shaped 4096 4096) ≡ result (Ended None []) ((line 1 144 0
    Granted) ∷ (line 2 32 144 Granted) ∷ (line 3 224 144 Simulated) ∷ []) [] [] 10
unfolding everything
two_phase_refused_run = refl
