-- Worked cases of `examples`, each by computing. Written by tools/cases_to_theorems.py; edit nothing here.
use Rattle.std.specs.Prelude.{◌≡◌, refl, pos, negsuc, [], ◌∷◌, length, Some, None}
use Rattle.wb_runs.specs.declared.failures.Failures.TheVariants.{Single, Every, Pairs}
use Rattle.wb_heap_model.specs.declared.heap.Rule.TheVariants as R
use Rattle.wb_heap_model.specs.declared.heap.Panic.TheVariants as P
use Rattle.wb_tree.specs.declared.script.Holder.TheVariants as H
use Rattle.wb_heap_model.specs.declared.heap.Answer.TheVariants.{Granted, Simulated}
use Rattle.wb_meaning.specs.declared.run.Outcome.TheVariants.{Ended, Panicked}
use Rattle.wb_tree.specs.declared.script.Script.{Script}
use Rattle.wb_tree.specs.declared.script.Parameter.TheVariants as Par
use Rattle.wb_tree.specs.declared.script.Local.TheVariants.{OfPointer, OfNumber}
use Rattle.wb_tree.specs.declared.script.Pointer.TheVariants.{Held, Field}
use Rattle.wb_tree.specs.declared.script.Number.TheVariants.{Constant, Variable}
use Rattle.wb_tree.specs.declared.script.Writable.TheVariants.{InCell}
use Rattle.wb_tree.specs.declared.script.Readable.TheVariants.{Of, Quoted}
use Rattle.wb_tree.specs.declared.script.Condition.TheVariants.{Less}
use Rattle.wb_tree.specs.declared.script.Argument.TheVariants.{Passed}
use Rattle.wb_tree.specs.declared.script.Refusal.TheVariants.{GivesNull, Leaves}
use Rattle.wb_tree.specs.declared.script.Statement.TheOpen.{Statement-F}
use Rattle.wb_meaning.specs.Run.{run, required, rises}
use Rattle.wb_runs.specs.Pairs.{pair_run, least_bad_or_cut_pair}
use Rattle.wb_runs.specs.Sweeps.{runs_of, least_bad_or_cut}
use Rattle.wb_worked.specs.Shorthands.{everything, on, script, class_of, procedure, body, result, leak, shaped, line, rise}

abbrev script_append_too_long_run : Script
script_append_too_long_run = script [] ((procedure 2 [] (body ((OfPointer None) ∷ OfNumber ∷ []) ((on 6 (Statement-F.NewText (Held (H.Local
    0)) (Constant (pos 5)) GivesNull)) ∷ (on 7 (Statement-F.GetMaximum 1 (InCell (Held (H.Local 0))))) ∷ (on 8 (Statement-F.PrintNumber
    (Variable 1))) ∷ (on 9 (Statement-F.Append (InCell (Held (H.Local 0))) (Quoted 0))) ∷ (on 11 (Statement-F.Append (InCell (Held (H.Local
    0))) (Quoted 1))) ∷ (on 12 (Statement-F.Free (Held (H.Local 0)))) ∷ []))) ∷ []) [] ((104 ∷ 101 ∷ 97 ∷ 112 ∷ []) ∷ (32 ∷ 102 ∷ 117 ∷ 108
    ∷ 108 ∷ []) ∷ []) 0

append_too_long_run : run script_append_too_long_run R.Unlimited 10000 (shaped 4096 4096) ≡ result (Panicked (P.User 11)) ((line 1 144 0
    Granted) ∷ (line 2 32 144 Granted) ∷ []) ((54 ∷ []) ∷ []) [] 5
unfolding everything
append_too_long_run = refl

abbrev script_clean_up_fails_check : Script
script_clean_up_fails_check = script ((class_of 4 4 (None ∷ []) (Some (body [] ((on 7 (Statement-F.NewText (Field H.This 0 0) (Constant (pos
    20)) Leaves)) ∷ (on 8 (Statement-F.Copy (InCell (Field H.This 0 0)) (Quoted 0))) ∷ []))) (Some (body [] ((on 11 (Statement-F.Free (Field
    H.This 0 0))) ∷ [])))) ∷ []) ((procedure 15 [] (body ((OfPointer None) ∷ []) ((on 17 (Statement-F.NewText (Held (H.Local 0)) (Constant
    (pos 30)) Leaves)) ∷ (on 18 (Statement-F.Copy (InCell (Held (H.Local 0))) (Quoted 1))) ∷ (on 19 (Statement-F.PrintText (Of (InCell (Held
    (H.Local 0)))))) ∷ (on 20 (Statement-F.Free (Held (H.Local 0)))) ∷ []))) ∷ (procedure 23 [] (body ((OfPointer (Some 0)) ∷ OfNumber ∷ [])
    ((on 26 (Statement-F.New (Held (H.Local 0)) 0 Leaves)) ∷ (on 27 (Statement-F.Trap 1 ((on 28 (Statement-F.Construct (Held (H.Local 0))))
    ∷ []))) ∷ (on 30 (Statement-F.If (Less (Variable 1) (Constant (pos 0))) ((on 32 (Statement-F.Call 0 [])) ∷ (on 33 (Statement-F.Delete
    (Held (H.Local 0)))) ∷ (on 34 (Statement-F.Leave (Variable 1))) ∷ []))) ∷ (on 36 (Statement-F.PrintText (Of (InCell (Field (H.Local 0) 0
    0))))) ∷ (on 37 (Statement-F.Delete (Held (H.Local 0)))) ∷ []))) ∷ []) [] ((65 ∷ 110 ∷ 110 ∷ 97 ∷ []) ∷ (110 ∷ 111 ∷ 32 ∷ 109 ∷ 101 ∷
    109 ∷ 111 ∷ 114 ∷ 121 ∷ 32 ∷ 102 ∷ 111 ∷ 114 ∷ 32 ∷ 97 ∷ 32 ∷ 99 ∷ 111 ∷ 110 ∷ 116 ∷ 97 ∷ 99 ∷ 116 ∷ []) ∷ []) 1

clean_up_fails_check : (required script_clean_up_fails_check 10000 (shaped 4096 4096) ≡ 256) × (rises script_clean_up_fails_check 10000
    (shaped 4096 4096) ≡ (rise 1 144) ∷ (rise 2 192) ∷ (rise 3 256) ∷ []) × (length (runs_of Single script_clean_up_fails_check 10000
    (shaped 4096 4096) 0).trace ≡ 3) × (least_bad_or_cut Single script_clean_up_fails_check 10000 (shaped 4096 4096) ≡ None)
unfolding everything
clean_up_fails_check = (refl, refl, refl, refl)

abbrev script_clean_up_fails_every_sweep : Script
script_clean_up_fails_every_sweep = script ((class_of 4 4 (None ∷ []) (Some (body [] ((on 7 (Statement-F.NewText (Field H.This 0 0)
    (Constant (pos 20)) Leaves)) ∷ (on 8 (Statement-F.Copy (InCell (Field H.This 0 0)) (Quoted 0))) ∷ []))) (Some (body [] ((on 11
    (Statement-F.Free (Field H.This 0 0))) ∷ [])))) ∷ []) ((procedure 15 [] (body ((OfPointer None) ∷ []) ((on 17 (Statement-F.NewText (Held
    (H.Local 0)) (Constant (pos 30)) Leaves)) ∷ (on 18 (Statement-F.Copy (InCell (Held (H.Local 0))) (Quoted 1))) ∷ (on 19
    (Statement-F.PrintText (Of (InCell (Held (H.Local 0)))))) ∷ (on 20 (Statement-F.Free (Held (H.Local 0)))) ∷ []))) ∷ (procedure 23 []
    (body ((OfPointer (Some 0)) ∷ OfNumber ∷ []) ((on 26 (Statement-F.New (Held (H.Local 0)) 0 Leaves)) ∷ (on 27 (Statement-F.Trap 1 ((on 28
    (Statement-F.Construct (Held (H.Local 0)))) ∷ []))) ∷ (on 30 (Statement-F.If (Less (Variable 1) (Constant (pos 0))) ((on 32
    (Statement-F.Call 0 [])) ∷ (on 33 (Statement-F.Delete (Held (H.Local 0)))) ∷ (on 34 (Statement-F.Leave (Variable 1))) ∷ []))) ∷ (on 36
    (Statement-F.PrintText (Of (InCell (Field (H.Local 0) 0 0))))) ∷ (on 37 (Statement-F.Delete (Held (H.Local 0)))) ∷ []))) ∷ []) [] ((65 ∷
    110 ∷ 110 ∷ 97 ∷ []) ∷ (110 ∷ 111 ∷ 32 ∷ 109 ∷ 101 ∷ 109 ∷ 111 ∷ 114 ∷ 121 ∷ 32 ∷ 102 ∷ 111 ∷ 114 ∷ 32 ∷ 97 ∷ 32 ∷ 99 ∷ 111 ∷ 110 ∷ 116
    ∷ 97 ∷ 99 ∷ 116 ∷ []) ∷ []) 1

clean_up_fails_every_sweep : (length (runs_of Every script_clean_up_fails_every_sweep 10000 (shaped 4096 4096) 0).trace ≡ 3) ×
    (least_bad_or_cut Every script_clean_up_fails_every_sweep 10000 (shaped 4096 4096) ≡ None)
unfolding everything
clean_up_fails_every_sweep = (refl, refl)

abbrev script_clean_up_fails_mended_check : Script
script_clean_up_fails_mended_check = script ((class_of 2 4 (None ∷ []) (Some (body [] ((on 5 (Statement-F.NewText (Field H.This 0 0)
    (Constant (pos 20)) Leaves)) ∷ (on 6 (Statement-F.Copy (InCell (Field H.This 0 0)) (Quoted 0))) ∷ []))) (Some (body [] ((on 9
    (Statement-F.Free (Field H.This 0 0))) ∷ [])))) ∷ []) ((procedure 13 [] (body ((OfPointer None) ∷ []) ((on 15 (Statement-F.NewText (Held
    (H.Local 0)) (Constant (pos 30)) Leaves)) ∷ (on 16 (Statement-F.Copy (InCell (Held (H.Local 0))) (Quoted 1))) ∷ (on 17
    (Statement-F.PrintText (Of (InCell (Held (H.Local 0)))))) ∷ (on 18 (Statement-F.Free (Held (H.Local 0)))) ∷ []))) ∷ (procedure 21 []
    (body ((OfPointer (Some 0)) ∷ OfNumber ∷ []) ((on 24 (Statement-F.New (Held (H.Local 0)) 0 Leaves)) ∷ (on 25 (Statement-F.Trap 1 ((on 26
    (Statement-F.Construct (Held (H.Local 0)))) ∷ []))) ∷ (on 28 (Statement-F.If (Less (Variable 1) (Constant (pos 0))) ((on 29
    (Statement-F.Delete (Held (H.Local 0)))) ∷ (on 30 (Statement-F.Call 0 [])) ∷ (on 31 (Statement-F.Leave (Variable 1))) ∷ []))) ∷ (on 33
    (Statement-F.PrintText (Of (InCell (Field (H.Local 0) 0 0))))) ∷ (on 34 (Statement-F.Delete (Held (H.Local 0)))) ∷ []))) ∷ []) [] ((65 ∷
    110 ∷ 110 ∷ 97 ∷ []) ∷ (110 ∷ 111 ∷ 32 ∷ 109 ∷ 101 ∷ 109 ∷ 111 ∷ 114 ∷ 121 ∷ 32 ∷ 102 ∷ 111 ∷ 114 ∷ 32 ∷ 97 ∷ 32 ∷ 99 ∷ 111 ∷ 110 ∷ 116
    ∷ 97 ∷ 99 ∷ 116 ∷ []) ∷ []) 1

clean_up_fails_mended_check : (required script_clean_up_fails_mended_check 10000 (shaped 4096 4096) ≡ 256) × (rises
    script_clean_up_fails_mended_check 10000 (shaped 4096 4096) ≡ (rise 1 144) ∷ (rise 2 192) ∷ (rise 3 256) ∷ []) × (length (runs_of Single
    script_clean_up_fails_mended_check 10000 (shaped 4096 4096) 0).trace ≡ 3) × (least_bad_or_cut Single script_clean_up_fails_mended_check
    10000 (shaped 4096 4096) ≡ None)
unfolding everything
clean_up_fails_mended_check = (refl, refl, refl, refl)

abbrev script_clean_up_fails_mended_pairs_sweep : Script
script_clean_up_fails_mended_pairs_sweep = script ((class_of 2 4 (None ∷ []) (Some (body [] ((on 5 (Statement-F.NewText (Field H.This 0 0)
    (Constant (pos 20)) Leaves)) ∷ (on 6 (Statement-F.Copy (InCell (Field H.This 0 0)) (Quoted 0))) ∷ []))) (Some (body [] ((on 9
    (Statement-F.Free (Field H.This 0 0))) ∷ [])))) ∷ []) ((procedure 13 [] (body ((OfPointer None) ∷ []) ((on 15 (Statement-F.NewText (Held
    (H.Local 0)) (Constant (pos 30)) Leaves)) ∷ (on 16 (Statement-F.Copy (InCell (Held (H.Local 0))) (Quoted 1))) ∷ (on 17
    (Statement-F.PrintText (Of (InCell (Held (H.Local 0)))))) ∷ (on 18 (Statement-F.Free (Held (H.Local 0)))) ∷ []))) ∷ (procedure 21 []
    (body ((OfPointer (Some 0)) ∷ OfNumber ∷ []) ((on 24 (Statement-F.New (Held (H.Local 0)) 0 Leaves)) ∷ (on 25 (Statement-F.Trap 1 ((on 26
    (Statement-F.Construct (Held (H.Local 0)))) ∷ []))) ∷ (on 28 (Statement-F.If (Less (Variable 1) (Constant (pos 0))) ((on 29
    (Statement-F.Delete (Held (H.Local 0)))) ∷ (on 30 (Statement-F.Call 0 [])) ∷ (on 31 (Statement-F.Leave (Variable 1))) ∷ []))) ∷ (on 33
    (Statement-F.PrintText (Of (InCell (Field (H.Local 0) 0 0))))) ∷ (on 34 (Statement-F.Delete (Held (H.Local 0)))) ∷ []))) ∷ []) [] ((65 ∷
    110 ∷ 110 ∷ 97 ∷ []) ∷ (110 ∷ 111 ∷ 32 ∷ 109 ∷ 101 ∷ 109 ∷ 111 ∷ 114 ∷ 121 ∷ 32 ∷ 102 ∷ 111 ∷ 114 ∷ 32 ∷ 97 ∷ 32 ∷ 99 ∷ 111 ∷ 110 ∷ 116
    ∷ 97 ∷ 99 ∷ 116 ∷ []) ∷ []) 1

clean_up_fails_mended_pairs_sweep : (length (runs_of Pairs script_clean_up_fails_mended_pairs_sweep 10000 (shaped 4096 4096) 0).trace ≡ 3) ×
    (least_bad_or_cut Pairs script_clean_up_fails_mended_pairs_sweep 10000 (shaped 4096 4096) ≡ None) × (least_bad_or_cut_pair
    script_clean_up_fails_mended_pairs_sweep 10000 (shaped 4096 4096) ≡ None)
unfolding everything
clean_up_fails_mended_pairs_sweep = (refl, refl, refl)

abbrev script_clean_up_fails_pair_run : Script
script_clean_up_fails_pair_run = script ((class_of 4 4 (None ∷ []) (Some (body [] ((on 7 (Statement-F.NewText (Field H.This 0 0) (Constant
    (pos 20)) Leaves)) ∷ (on 8 (Statement-F.Copy (InCell (Field H.This 0 0)) (Quoted 0))) ∷ []))) (Some (body [] ((on 11 (Statement-F.Free
    (Field H.This 0 0))) ∷ [])))) ∷ []) ((procedure 15 [] (body ((OfPointer None) ∷ []) ((on 17 (Statement-F.NewText (Held (H.Local 0))
    (Constant (pos 30)) Leaves)) ∷ (on 18 (Statement-F.Copy (InCell (Held (H.Local 0))) (Quoted 1))) ∷ (on 19 (Statement-F.PrintText (Of
    (InCell (Held (H.Local 0)))))) ∷ (on 20 (Statement-F.Free (Held (H.Local 0)))) ∷ []))) ∷ (procedure 23 [] (body ((OfPointer (Some 0)) ∷
    OfNumber ∷ []) ((on 26 (Statement-F.New (Held (H.Local 0)) 0 Leaves)) ∷ (on 27 (Statement-F.Trap 1 ((on 28 (Statement-F.Construct (Held
    (H.Local 0)))) ∷ []))) ∷ (on 30 (Statement-F.If (Less (Variable 1) (Constant (pos 0))) ((on 32 (Statement-F.Call 0 [])) ∷ (on 33
    (Statement-F.Delete (Held (H.Local 0)))) ∷ (on 34 (Statement-F.Leave (Variable 1))) ∷ []))) ∷ (on 36 (Statement-F.PrintText (Of (InCell
    (Field (H.Local 0) 0 0))))) ∷ (on 37 (Statement-F.Delete (Held (H.Local 0)))) ∷ []))) ∷ []) [] ((65 ∷ 110 ∷ 110 ∷ 97 ∷ []) ∷ (110 ∷ 111
    ∷ 32 ∷ 109 ∷ 101 ∷ 109 ∷ 111 ∷ 114 ∷ 121 ∷ 32 ∷ 102 ∷ 111 ∷ 114 ∷ 32 ∷ 97 ∷ 32 ∷ 99 ∷ 111 ∷ 110 ∷ 116 ∷ 97 ∷ 99 ∷ 116 ∷ []) ∷ []) 1

clean_up_fails_pair_run : run script_clean_up_fails_pair_run (R.Pair 3 4) 10000 (shaped 4096 4096) ≡ result (Ended (Some (negsuc 3)) ((leak
    2 48 144) ∷ [])) ((line 1 144 0 Granted) ∷ (line 2 48 144 Granted) ∷ (line 3 64 192 Simulated) ∷ (line 4 80 192 Simulated) ∷ []) [] [] 7
unfolding everything
clean_up_fails_pair_run = refl

abbrev script_clean_up_fails_pairs_check : Script
script_clean_up_fails_pairs_check = script ((class_of 4 4 (None ∷ []) (Some (body [] ((on 7 (Statement-F.NewText (Field H.This 0 0)
    (Constant (pos 20)) Leaves)) ∷ (on 8 (Statement-F.Copy (InCell (Field H.This 0 0)) (Quoted 0))) ∷ []))) (Some (body [] ((on 11
    (Statement-F.Free (Field H.This 0 0))) ∷ [])))) ∷ []) ((procedure 15 [] (body ((OfPointer None) ∷ []) ((on 17 (Statement-F.NewText (Held
    (H.Local 0)) (Constant (pos 30)) Leaves)) ∷ (on 18 (Statement-F.Copy (InCell (Held (H.Local 0))) (Quoted 1))) ∷ (on 19
    (Statement-F.PrintText (Of (InCell (Held (H.Local 0)))))) ∷ (on 20 (Statement-F.Free (Held (H.Local 0)))) ∷ []))) ∷ (procedure 23 []
    (body ((OfPointer (Some 0)) ∷ OfNumber ∷ []) ((on 26 (Statement-F.New (Held (H.Local 0)) 0 Leaves)) ∷ (on 27 (Statement-F.Trap 1 ((on 28
    (Statement-F.Construct (Held (H.Local 0)))) ∷ []))) ∷ (on 30 (Statement-F.If (Less (Variable 1) (Constant (pos 0))) ((on 32
    (Statement-F.Call 0 [])) ∷ (on 33 (Statement-F.Delete (Held (H.Local 0)))) ∷ (on 34 (Statement-F.Leave (Variable 1))) ∷ []))) ∷ (on 36
    (Statement-F.PrintText (Of (InCell (Field (H.Local 0) 0 0))))) ∷ (on 37 (Statement-F.Delete (Held (H.Local 0)))) ∷ []))) ∷ []) [] ((65 ∷
    110 ∷ 110 ∷ 97 ∷ []) ∷ (110 ∷ 111 ∷ 32 ∷ 109 ∷ 101 ∷ 109 ∷ 111 ∷ 114 ∷ 121 ∷ 32 ∷ 102 ∷ 111 ∷ 114 ∷ 32 ∷ 97 ∷ 32 ∷ 99 ∷ 111 ∷ 110 ∷ 116
    ∷ 97 ∷ 99 ∷ 116 ∷ []) ∷ []) 1

clean_up_fails_pairs_check : (required script_clean_up_fails_pairs_check 10000 (shaped 4096 4096) ≡ 256) × (rises
    script_clean_up_fails_pairs_check 10000 (shaped 4096 4096) ≡ (rise 1 144) ∷ (rise 2 192) ∷ (rise 3 256) ∷ []) × (length (runs_of Pairs
    script_clean_up_fails_pairs_check 10000 (shaped 4096 4096) 0).trace ≡ 3) × (least_bad_or_cut Pairs script_clean_up_fails_pairs_check
    10000 (shaped 4096 4096) ≡ None) × (least_bad_or_cut_pair script_clean_up_fails_pairs_check 10000 (shaped 4096 4096) ≡ Some (3, 4)) ×
    (pair_run script_clean_up_fails_pairs_check 10000 (shaped 4096 4096) 3 4 ≡ result (Ended (Some (negsuc 3)) ((leak 2 48 144) ∷ []))
    ((line 1 144 0 Granted) ∷ (line 2 48 144 Granted) ∷ (line 3 64 192 Simulated) ∷ (line 4 80 192 Simulated) ∷ []) [] [] 7)
unfolding everything
clean_up_fails_pairs_check = (refl, refl, refl, refl, refl, refl)

abbrev script_clean_up_fails_pairs_json_check : Script
script_clean_up_fails_pairs_json_check = script ((class_of 4 4 (None ∷ []) (Some (body [] ((on 7 (Statement-F.NewText (Field H.This 0 0)
    (Constant (pos 20)) Leaves)) ∷ (on 8 (Statement-F.Copy (InCell (Field H.This 0 0)) (Quoted 0))) ∷ []))) (Some (body [] ((on 11
    (Statement-F.Free (Field H.This 0 0))) ∷ [])))) ∷ []) ((procedure 15 [] (body ((OfPointer None) ∷ []) ((on 17 (Statement-F.NewText (Held
    (H.Local 0)) (Constant (pos 30)) Leaves)) ∷ (on 18 (Statement-F.Copy (InCell (Held (H.Local 0))) (Quoted 1))) ∷ (on 19
    (Statement-F.PrintText (Of (InCell (Held (H.Local 0)))))) ∷ (on 20 (Statement-F.Free (Held (H.Local 0)))) ∷ []))) ∷ (procedure 23 []
    (body ((OfPointer (Some 0)) ∷ OfNumber ∷ []) ((on 26 (Statement-F.New (Held (H.Local 0)) 0 Leaves)) ∷ (on 27 (Statement-F.Trap 1 ((on 28
    (Statement-F.Construct (Held (H.Local 0)))) ∷ []))) ∷ (on 30 (Statement-F.If (Less (Variable 1) (Constant (pos 0))) ((on 32
    (Statement-F.Call 0 [])) ∷ (on 33 (Statement-F.Delete (Held (H.Local 0)))) ∷ (on 34 (Statement-F.Leave (Variable 1))) ∷ []))) ∷ (on 36
    (Statement-F.PrintText (Of (InCell (Field (H.Local 0) 0 0))))) ∷ (on 37 (Statement-F.Delete (Held (H.Local 0)))) ∷ []))) ∷ []) [] ((65 ∷
    110 ∷ 110 ∷ 97 ∷ []) ∷ (110 ∷ 111 ∷ 32 ∷ 109 ∷ 101 ∷ 109 ∷ 111 ∷ 114 ∷ 121 ∷ 32 ∷ 102 ∷ 111 ∷ 114 ∷ 32 ∷ 97 ∷ 32 ∷ 99 ∷ 111 ∷ 110 ∷ 116
    ∷ 97 ∷ 99 ∷ 116 ∷ []) ∷ []) 1

clean_up_fails_pairs_json_check : (required script_clean_up_fails_pairs_json_check 10000 (shaped 4096 4096) ≡ 256) × (rises
    script_clean_up_fails_pairs_json_check 10000 (shaped 4096 4096) ≡ (rise 1 144) ∷ (rise 2 192) ∷ (rise 3 256) ∷ []) × (length (runs_of
    Pairs script_clean_up_fails_pairs_json_check 10000 (shaped 4096 4096) 0).trace ≡ 3) × (least_bad_or_cut Pairs
    script_clean_up_fails_pairs_json_check 10000 (shaped 4096 4096) ≡ None) × (least_bad_or_cut_pair script_clean_up_fails_pairs_json_check
    10000 (shaped 4096 4096) ≡ Some (3, 4)) × (pair_run script_clean_up_fails_pairs_json_check 10000 (shaped 4096 4096) 3 4 ≡ result (Ended
    (Some (negsuc 3)) ((leak 2 48 144) ∷ [])) ((line 1 144 0 Granted) ∷ (line 2 48 144 Granted) ∷ (line 3 64 192 Simulated) ∷ (line 4 80 192
    Simulated) ∷ []) [] [] 7)
unfolding everything
clean_up_fails_pairs_json_check = (refl, refl, refl, refl, refl, refl)

abbrev script_clean_up_fails_pairs_sweep : Script
script_clean_up_fails_pairs_sweep = script ((class_of 4 4 (None ∷ []) (Some (body [] ((on 7 (Statement-F.NewText (Field H.This 0 0)
    (Constant (pos 20)) Leaves)) ∷ (on 8 (Statement-F.Copy (InCell (Field H.This 0 0)) (Quoted 0))) ∷ []))) (Some (body [] ((on 11
    (Statement-F.Free (Field H.This 0 0))) ∷ [])))) ∷ []) ((procedure 15 [] (body ((OfPointer None) ∷ []) ((on 17 (Statement-F.NewText (Held
    (H.Local 0)) (Constant (pos 30)) Leaves)) ∷ (on 18 (Statement-F.Copy (InCell (Held (H.Local 0))) (Quoted 1))) ∷ (on 19
    (Statement-F.PrintText (Of (InCell (Held (H.Local 0)))))) ∷ (on 20 (Statement-F.Free (Held (H.Local 0)))) ∷ []))) ∷ (procedure 23 []
    (body ((OfPointer (Some 0)) ∷ OfNumber ∷ []) ((on 26 (Statement-F.New (Held (H.Local 0)) 0 Leaves)) ∷ (on 27 (Statement-F.Trap 1 ((on 28
    (Statement-F.Construct (Held (H.Local 0)))) ∷ []))) ∷ (on 30 (Statement-F.If (Less (Variable 1) (Constant (pos 0))) ((on 32
    (Statement-F.Call 0 [])) ∷ (on 33 (Statement-F.Delete (Held (H.Local 0)))) ∷ (on 34 (Statement-F.Leave (Variable 1))) ∷ []))) ∷ (on 36
    (Statement-F.PrintText (Of (InCell (Field (H.Local 0) 0 0))))) ∷ (on 37 (Statement-F.Delete (Held (H.Local 0)))) ∷ []))) ∷ []) [] ((65 ∷
    110 ∷ 110 ∷ 97 ∷ []) ∷ (110 ∷ 111 ∷ 32 ∷ 109 ∷ 101 ∷ 109 ∷ 111 ∷ 114 ∷ 121 ∷ 32 ∷ 102 ∷ 111 ∷ 114 ∷ 32 ∷ 97 ∷ 32 ∷ 99 ∷ 111 ∷ 110 ∷ 116
    ∷ 97 ∷ 99 ∷ 116 ∷ []) ∷ []) 1

clean_up_fails_pairs_sweep : (length (runs_of Pairs script_clean_up_fails_pairs_sweep 10000 (shaped 4096 4096) 0).trace ≡ 3) ×
    (least_bad_or_cut Pairs script_clean_up_fails_pairs_sweep 10000 (shaped 4096 4096) ≡ None) × (least_bad_or_cut_pair
    script_clean_up_fails_pairs_sweep 10000 (shaped 4096 4096) ≡ Some (3, 4)) × (pair_run script_clean_up_fails_pairs_sweep 10000 (shaped
    4096 4096) 3 4 ≡ result (Ended (Some (negsuc 3)) ((leak 2 48 144) ∷ [])) ((line 1 144 0 Granted) ∷ (line 2 48 144 Granted) ∷ (line 3 64
    192 Simulated) ∷ (line 4 80 192 Simulated) ∷ []) [] [] 7)
unfolding everything
clean_up_fails_pairs_sweep = (refl, refl, refl, refl)

abbrev script_clean_up_fails_sweep : Script
script_clean_up_fails_sweep = script ((class_of 4 4 (None ∷ []) (Some (body [] ((on 7 (Statement-F.NewText (Field H.This 0 0) (Constant (pos
    20)) Leaves)) ∷ (on 8 (Statement-F.Copy (InCell (Field H.This 0 0)) (Quoted 0))) ∷ []))) (Some (body [] ((on 11 (Statement-F.Free (Field
    H.This 0 0))) ∷ [])))) ∷ []) ((procedure 15 [] (body ((OfPointer None) ∷ []) ((on 17 (Statement-F.NewText (Held (H.Local 0)) (Constant
    (pos 30)) Leaves)) ∷ (on 18 (Statement-F.Copy (InCell (Held (H.Local 0))) (Quoted 1))) ∷ (on 19 (Statement-F.PrintText (Of (InCell (Held
    (H.Local 0)))))) ∷ (on 20 (Statement-F.Free (Held (H.Local 0)))) ∷ []))) ∷ (procedure 23 [] (body ((OfPointer (Some 0)) ∷ OfNumber ∷ [])
    ((on 26 (Statement-F.New (Held (H.Local 0)) 0 Leaves)) ∷ (on 27 (Statement-F.Trap 1 ((on 28 (Statement-F.Construct (Held (H.Local 0))))
    ∷ []))) ∷ (on 30 (Statement-F.If (Less (Variable 1) (Constant (pos 0))) ((on 32 (Statement-F.Call 0 [])) ∷ (on 33 (Statement-F.Delete
    (Held (H.Local 0)))) ∷ (on 34 (Statement-F.Leave (Variable 1))) ∷ []))) ∷ (on 36 (Statement-F.PrintText (Of (InCell (Field (H.Local 0) 0
    0))))) ∷ (on 37 (Statement-F.Delete (Held (H.Local 0)))) ∷ []))) ∷ []) [] ((65 ∷ 110 ∷ 110 ∷ 97 ∷ []) ∷ (110 ∷ 111 ∷ 32 ∷ 109 ∷ 101 ∷
    109 ∷ 111 ∷ 114 ∷ 121 ∷ 32 ∷ 102 ∷ 111 ∷ 114 ∷ 32 ∷ 97 ∷ 32 ∷ 99 ∷ 111 ∷ 110 ∷ 116 ∷ 97 ∷ 99 ∷ 116 ∷ []) ∷ []) 1

clean_up_fails_sweep : (length (runs_of Single script_clean_up_fails_sweep 10000 (shaped 4096 4096) 0).trace ≡ 3) × (least_bad_or_cut Single
    script_clean_up_fails_sweep 10000 (shaped 4096 4096) ≡ None)
unfolding everything
clean_up_fails_sweep = (refl, refl)

abbrev script_double_delete_check : Script
script_double_delete_check = script ((class_of 2 4 [] None None) ∷ (class_of 5 0 ((Some 0) ∷ None ∷ []) None (Some (body [] ((on 9
    (Statement-F.Delete (Field H.This 1 0))) ∷ (on 10 (Statement-F.Free (Field H.This 1 1))) ∷ [])))) ∷ []) ((procedure 14 ((Par.OfPointer
    (Some 1)) ∷ (Par.OfPointer (Some 0)) ∷ []) (body [] ((on 16 (Statement-F.Set (Field (H.Local 0) 1 0) (Held (H.Local 1)))) ∷ (on 17
    (Statement-F.Alloc (Field (H.Local 0) 1 1) (Constant (pos 40)) Leaves)) ∷ []))) ∷ (procedure 20 [] (body ((OfPointer (Some 1)) ∷
    (OfPointer (Some 0)) ∷ OfNumber ∷ []) ((on 24 (Statement-F.New (Held (H.Local 0)) 1 Leaves)) ∷ (on 25 (Statement-F.PushObject (Held
    (H.Local 0)))) ∷ (on 26 (Statement-F.New (Held (H.Local 1)) 0 Leaves)) ∷ (on 27 (Statement-F.Trap 2 ((on 28 (Statement-F.Call 0 ((Passed
    (Held (H.Local 0))) ∷ (Passed (Held (H.Local 1))) ∷ []))) ∷ []))) ∷ (on 30 (Statement-F.If (Less (Variable 2) (Constant (pos 0))) ((on
    31 (Statement-F.Delete (Held (H.Local 1)))) ∷ []))) ∷ (on 33 (Statement-F.PopDestroy (Constant (pos 1)))) ∷ []))) ∷ []) [] [] 1

double_delete_check : (required script_double_delete_check 10000 (shaped 4096 4096) ≡ 288) × (rises script_double_delete_check 10000 (shaped
    4096 4096) ≡ (rise 1 144) ∷ (rise 2 192) ∷ (rise 3 224) ∷ (rise 4 288) ∷ []) × (length (runs_of Single script_double_delete_check 10000
    (shaped 4096 4096) 0).trace ≡ 4) × (least_bad_or_cut Single script_double_delete_check 10000 (shaped 4096 4096) ≡ Some 4) × (runs_of
    Single script_double_delete_check 10000 (shaped 4096 4096) 4 ≡ result (Panicked (P.Workbench 1)) ((line 1 144 0 Granted) ∷ (line 2 48
    144 Granted) ∷ (line 3 32 192 Granted) ∷ (line 4 64 224 Simulated) ∷ []) [] [] 15)
unfolding everything
double_delete_check = (refl, refl, refl, refl, refl)

abbrev script_double_delete_mended_check : Script
script_double_delete_mended_check = script ((class_of 2 4 [] None None) ∷ (class_of 5 0 ((Some 0) ∷ None ∷ []) None (Some (body [] ((on 9
    (Statement-F.Delete (Field H.This 1 0))) ∷ (on 10 (Statement-F.Free (Field H.This 1 1))) ∷ [])))) ∷ []) ((procedure 14 ((Par.OfPointer
    (Some 1)) ∷ (Par.OfPointer (Some 0)) ∷ []) (body [] ((on 16 (Statement-F.Set (Field (H.Local 0) 1 0) (Held (H.Local 1)))) ∷ (on 17
    (Statement-F.Alloc (Field (H.Local 0) 1 1) (Constant (pos 40)) Leaves)) ∷ []))) ∷ (procedure 20 [] (body ((OfPointer (Some 1)) ∷
    (OfPointer (Some 0)) ∷ OfNumber ∷ []) ((on 24 (Statement-F.New (Held (H.Local 0)) 1 Leaves)) ∷ (on 25 (Statement-F.PushObject (Held
    (H.Local 0)))) ∷ (on 26 (Statement-F.New (Held (H.Local 1)) 0 Leaves)) ∷ (on 27 (Statement-F.Trap 2 ((on 28 (Statement-F.Call 0 ((Passed
    (Held (H.Local 0))) ∷ (Passed (Held (H.Local 1))) ∷ []))) ∷ []))) ∷ (on 30 (Statement-F.LeaveIfError (Variable 2))) ∷ (on 31
    (Statement-F.PopDestroy (Constant (pos 1)))) ∷ []))) ∷ []) [] [] 1

double_delete_mended_check : (required script_double_delete_mended_check 10000 (shaped 4096 4096) ≡ 288) × (rises
    script_double_delete_mended_check 10000 (shaped 4096 4096) ≡ (rise 1 144) ∷ (rise 2 192) ∷ (rise 3 224) ∷ (rise 4 288) ∷ []) × (length
    (runs_of Single script_double_delete_mended_check 10000 (shaped 4096 4096) 0).trace ≡ 4) × (least_bad_or_cut Single
    script_double_delete_mended_check 10000 (shaped 4096 4096) ≡ None)
unfolding everything
double_delete_mended_check = (refl, refl, refl, refl)

abbrev script_double_free_run : Script
script_double_free_run = script [] ((procedure 2 [] (body ((OfPointer None) ∷ (OfPointer None) ∷ []) ((on 5 (Statement-F.Alloc (Held
    (H.Local 0)) (Constant (pos 40)) GivesNull)) ∷ (on 6 (Statement-F.Free (Held (H.Local 0)))) ∷ (on 7 (Statement-F.Alloc (Held (H.Local
    1)) (Constant (pos 40)) GivesNull)) ∷ (on 8 (Statement-F.PrintText (Quoted 0))) ∷ (on 9 (Statement-F.Free (Held (H.Local 0)))) ∷ []))) ∷
    []) [] ((116 ∷ 104 ∷ 101 ∷ 32 ∷ 112 ∷ 108 ∷ 97 ∷ 99 ∷ 101 ∷ 115 ∷ 32 ∷ 97 ∷ 114 ∷ 101 ∷ 32 ∷ 116 ∷ 104 ∷ 101 ∷ 32 ∷ 115 ∷ 97 ∷ 109 ∷ 101
    ∷ 44 ∷ 32 ∷ 116 ∷ 104 ∷ 101 ∷ 32 ∷ 97 ∷ 108 ∷ 108 ∷ 111 ∷ 99 ∷ 97 ∷ 116 ∷ 105 ∷ 111 ∷ 110 ∷ 32 ∷ 110 ∷ 117 ∷ 109 ∷ 98 ∷ 101 ∷ 114 ∷ 115
    ∷ 32 ∷ 97 ∷ 114 ∷ 101 ∷ 110 ∷ 39 ∷ 116 ∷ []) ∷ []) 0

double_free_run : run script_double_free_run R.Unlimited 10000 (shaped 4096 4096) ≡ result (Panicked (P.User 42)) ((line 1 144 0 Granted) ∷
    (line 2 64 144 Granted) ∷ (line 3 64 144 Granted) ∷ []) ((116 ∷ 104 ∷ 101 ∷ 32 ∷ 112 ∷ 108 ∷ 97 ∷ 99 ∷ 101 ∷ 115 ∷ 32 ∷ 97 ∷ 114 ∷ 101 ∷
    32 ∷ 116 ∷ 104 ∷ 101 ∷ 32 ∷ 115 ∷ 97 ∷ 109 ∷ 101 ∷ 44 ∷ 32 ∷ 116 ∷ 104 ∷ 101 ∷ 32 ∷ 97 ∷ 108 ∷ 108 ∷ 111 ∷ 99 ∷ 97 ∷ 116 ∷ 105 ∷ 111 ∷
    110 ∷ 32 ∷ 110 ∷ 117 ∷ 109 ∷ 98 ∷ 101 ∷ 114 ∷ 115 ∷ 32 ∷ 97 ∷ 114 ∷ 101 ∷ 110 ∷ 39 ∷ 116 ∷ []) ∷ []) [] 5
unfolding everything
double_free_run = refl
