-- Worked cases of `examples`, each by computing. Written by tools/cases_to_theorems.py; edit nothing here.
use Rattle.std.specs.Prelude.{◌≡◌, refl, pos, negsuc, [], ◌∷◌, length, Some, None}
use Rattle.wb_runs.specs.declared.failures.Failures.TheVariants.{Single, Every, Pairs}
use Rattle.wb_heap_model.specs.declared.heap.Rule.TheVariants as R
use Rattle.wb_heap_model.specs.declared.heap.Panic.TheVariants as P
use Rattle.wb_tree.specs.declared.script.Holder.TheVariants as H
use Rattle.wb_heap_model.specs.declared.heap.Answer.TheVariants.{Granted, Simulated, Refused}
use Rattle.wb_runs.specs.declared.run_end.RunEnd.TheVariants as E
use Rattle.wb_meaning.specs.declared.run.Outcome.TheVariants.{Ended, Panicked}
use Rattle.wb_tree.specs.declared.script.Script.{Script}
use Rattle.wb_tree.specs.declared.script.Parameter.TheVariants as Par
use Rattle.wb_tree.specs.declared.script.Local.TheVariants.{OfPointer, OfNumber}
use Rattle.wb_tree.specs.declared.script.Pointer.TheVariants.{Held, Field}
use Rattle.wb_tree.specs.declared.script.Number.TheVariants.{Constant}
use Rattle.wb_tree.specs.declared.script.Writable.TheVariants.{InCell}
use Rattle.wb_tree.specs.declared.script.Readable.TheVariants.{Of, Quoted}
use Rattle.wb_tree.specs.declared.script.Condition.TheVariants.{IsNull}
use Rattle.wb_tree.specs.declared.script.Argument.TheVariants.{Passed}
use Rattle.wb_tree.specs.declared.script.Refusal.TheVariants.{GivesNull, Leaves}
use Rattle.wb_tree.specs.declared.script.Statement.TheOpen.{Statement-F}
use Rattle.wb_meaning.specs.Run.{run, required, rises}
use Rattle.wb_runs.specs.Lengths.{end_in, run_in}
use Rattle.wb_runs.specs.Pairs.{least_bad_or_cut_pair}
use Rattle.wb_runs.specs.Sweeps.{runs_of, least_bad_or_cut}
use Rattle.wb_worked.specs.Shorthands.{everything, on, script, class_of, procedure, body, result, leak, shaped, shaped_moving, line, rise}

abbrev script_item_names_the_old_cell_check : Script
script_item_names_the_old_cell_check = script [] ((procedure 4 [] (body ((OfPointer None) ∷ (OfPointer None) ∷ []) ((on 7
    (Statement-F.NewText (Held (H.Local 0)) (Constant (pos 8)) Leaves)) ∷ (on 8 (Statement-F.Push (Held (H.Local 0)))) ∷ (on 9
    (Statement-F.Append (InCell (Held (H.Local 0))) (Quoted 0))) ∷ (on 10 (Statement-F.ReallocText (Held (H.Local 1)) (Held (H.Local 0))
    (Constant (pos 24)))) ∷ (on 11 (Statement-F.LeaveIfNull (Held (H.Local 1)))) ∷ (on 13 (Statement-F.Set (Held (H.Local 0)) (Held (H.Local
    1)))) ∷ (on 14 (Statement-F.Append (InCell (Held (H.Local 0))) (Quoted 1))) ∷ (on 15 (Statement-F.PrintText (Of (InCell (Held (H.Local
    0)))))) ∷ (on 16 (Statement-F.PopDestroy (Constant (pos 1)))) ∷ []))) ∷ []) [] ((72 ∷ 97 ∷ 114 ∷ 98 ∷ 111 ∷ 117 ∷ 114 ∷ []) ∷ (44 ∷ 32 ∷
    115 ∷ 101 ∷ 101 ∷ 110 ∷ 32 ∷ 98 ∷ 121 ∷ 32 ∷ 110 ∷ 105 ∷ 103 ∷ 104 ∷ 116 ∷ []) ∷ []) 0

item_names_the_old_cell_check : (required script_item_names_the_old_cell_check 10000 (shaped 4096 4096) ≡ 224) × (rises
    script_item_names_the_old_cell_check 10000 (shaped 4096 4096) ≡ (rise 1 144) ∷ (rise 2 192) ∷ (rise 3 224) ∷ []) × (length (runs_of
    Single script_item_names_the_old_cell_check 10000 (shaped 4096 4096) 0).trace ≡ 3) × (least_bad_or_cut Single
    script_item_names_the_old_cell_check 10000 (shaped 4096 4096) ≡ None)
unfolding everything
item_names_the_old_cell_check = (refl, refl, refl, refl)

abbrev script_item_names_the_old_cell_mended_check : Script
script_item_names_the_old_cell_mended_check = script [] ((procedure 3 [] (body ((OfPointer None) ∷ (OfPointer None) ∷ []) ((on 6
    (Statement-F.NewText (Held (H.Local 0)) (Constant (pos 8)) Leaves)) ∷ (on 7 (Statement-F.Push (Held (H.Local 0)))) ∷ (on 8
    (Statement-F.Append (InCell (Held (H.Local 0))) (Quoted 0))) ∷ (on 9 (Statement-F.ReallocText (Held (H.Local 1)) (Held (H.Local 0))
    (Constant (pos 24)))) ∷ (on 10 (Statement-F.LeaveIfNull (Held (H.Local 1)))) ∷ (on 11 (Statement-F.Pop (Constant (pos 1)))) ∷ (on 12
    (Statement-F.Set (Held (H.Local 0)) (Held (H.Local 1)))) ∷ (on 13 (Statement-F.Push (Held (H.Local 0)))) ∷ (on 14 (Statement-F.Append
    (InCell (Held (H.Local 0))) (Quoted 1))) ∷ (on 15 (Statement-F.PrintText (Of (InCell (Held (H.Local 0)))))) ∷ (on 16
    (Statement-F.PopDestroy (Constant (pos 1)))) ∷ []))) ∷ []) [] ((72 ∷ 97 ∷ 114 ∷ 98 ∷ 111 ∷ 117 ∷ 114 ∷ []) ∷ (44 ∷ 32 ∷ 115 ∷ 101 ∷ 101
    ∷ 110 ∷ 32 ∷ 98 ∷ 121 ∷ 32 ∷ 110 ∷ 105 ∷ 103 ∷ 104 ∷ 116 ∷ []) ∷ []) 0

item_names_the_old_cell_mended_check : (required script_item_names_the_old_cell_mended_check 10000 (shaped 4096 4096) ≡ 224) × (rises
    script_item_names_the_old_cell_mended_check 10000 (shaped 4096 4096) ≡ (rise 1 144) ∷ (rise 2 192) ∷ (rise 3 224) ∷ []) × (length
    (runs_of Single script_item_names_the_old_cell_mended_check 10000 (shaped 4096 4096) 0).trace ≡ 3) × (least_bad_or_cut Single
    script_item_names_the_old_cell_mended_check 10000 (shaped 4096 4096) ≡ None)
unfolding everything
item_names_the_old_cell_mended_check = (refl, refl, refl, refl)

abbrev script_item_names_the_old_cell_moving_check : Script
script_item_names_the_old_cell_moving_check = script [] ((procedure 4 [] (body ((OfPointer None) ∷ (OfPointer None) ∷ []) ((on 7
    (Statement-F.NewText (Held (H.Local 0)) (Constant (pos 8)) Leaves)) ∷ (on 8 (Statement-F.Push (Held (H.Local 0)))) ∷ (on 9
    (Statement-F.Append (InCell (Held (H.Local 0))) (Quoted 0))) ∷ (on 10 (Statement-F.ReallocText (Held (H.Local 1)) (Held (H.Local 0))
    (Constant (pos 24)))) ∷ (on 11 (Statement-F.LeaveIfNull (Held (H.Local 1)))) ∷ (on 13 (Statement-F.Set (Held (H.Local 0)) (Held (H.Local
    1)))) ∷ (on 14 (Statement-F.Append (InCell (Held (H.Local 0))) (Quoted 1))) ∷ (on 15 (Statement-F.PrintText (Of (InCell (Held (H.Local
    0)))))) ∷ (on 16 (Statement-F.PopDestroy (Constant (pos 1)))) ∷ []))) ∷ []) [] ((72 ∷ 97 ∷ 114 ∷ 98 ∷ 111 ∷ 117 ∷ 114 ∷ []) ∷ (44 ∷ 32 ∷
    115 ∷ 101 ∷ 101 ∷ 110 ∷ 32 ∷ 98 ∷ 121 ∷ 32 ∷ 110 ∷ 105 ∷ 103 ∷ 104 ∷ 116 ∷ []) ∷ []) 0

item_names_the_old_cell_moving_check : (required script_item_names_the_old_cell_moving_check 10000 (shaped_moving 4096 4096) ≡ 272) × (rises
    script_item_names_the_old_cell_moving_check 10000 (shaped_moving 4096 4096) ≡ (rise 1 144) ∷ (rise 2 192) ∷ (rise 3 272) ∷ []) × (length
    (runs_of Single script_item_names_the_old_cell_moving_check 10000 (shaped_moving 4096 4096) 0).trace ≡ 3) × (least_bad_or_cut Single
    script_item_names_the_old_cell_moving_check 10000 (shaped_moving 4096 4096) ≡ Some 0) × (runs_of Single
    script_item_names_the_old_cell_moving_check 10000 (shaped_moving 4096 4096) 0 ≡ result (Panicked (P.User 42)) ((line 1 144 0 Granted) ∷
    (line 2 48 144 Granted) ∷ (line 3 80 192 Granted) ∷ []) ((72 ∷ 97 ∷ 114 ∷ 98 ∷ 111 ∷ 117 ∷ 114 ∷ 44 ∷ 32 ∷ 115 ∷ 101 ∷ 101 ∷ 110 ∷ 32 ∷
    98 ∷ 121 ∷ 32 ∷ 110 ∷ 105 ∷ 103 ∷ 104 ∷ 116 ∷ []) ∷ []) [] 10)
unfolding everything
item_names_the_old_cell_moving_check = (refl, refl, refl, refl, refl)

abbrev script_item_names_the_old_cell_moving_run : Script
script_item_names_the_old_cell_moving_run = script [] ((procedure 4 [] (body ((OfPointer None) ∷ (OfPointer None) ∷ []) ((on 7
    (Statement-F.NewText (Held (H.Local 0)) (Constant (pos 8)) Leaves)) ∷ (on 8 (Statement-F.Push (Held (H.Local 0)))) ∷ (on 9
    (Statement-F.Append (InCell (Held (H.Local 0))) (Quoted 0))) ∷ (on 10 (Statement-F.ReallocText (Held (H.Local 1)) (Held (H.Local 0))
    (Constant (pos 24)))) ∷ (on 11 (Statement-F.LeaveIfNull (Held (H.Local 1)))) ∷ (on 13 (Statement-F.Set (Held (H.Local 0)) (Held (H.Local
    1)))) ∷ (on 14 (Statement-F.Append (InCell (Held (H.Local 0))) (Quoted 1))) ∷ (on 15 (Statement-F.PrintText (Of (InCell (Held (H.Local
    0)))))) ∷ (on 16 (Statement-F.PopDestroy (Constant (pos 1)))) ∷ []))) ∷ []) [] ((72 ∷ 97 ∷ 114 ∷ 98 ∷ 111 ∷ 117 ∷ 114 ∷ []) ∷ (44 ∷ 32 ∷
    115 ∷ 101 ∷ 101 ∷ 110 ∷ 32 ∷ 98 ∷ 121 ∷ 32 ∷ 110 ∷ 105 ∷ 103 ∷ 104 ∷ 116 ∷ []) ∷ []) 0

item_names_the_old_cell_moving_run : run script_item_names_the_old_cell_moving_run R.Unlimited 10000 (shaped_moving 4096 4096) ≡ result
    (Panicked (P.User 42)) ((line 1 144 0 Granted) ∷ (line 2 48 144 Granted) ∷ (line 3 80 192 Granted) ∷ []) ((72 ∷ 97 ∷ 114 ∷ 98 ∷ 111 ∷
    117 ∷ 114 ∷ 44 ∷ 32 ∷ 115 ∷ 101 ∷ 101 ∷ 110 ∷ 32 ∷ 98 ∷ 121 ∷ 32 ∷ 110 ∷ 105 ∷ 103 ∷ 104 ∷ 116 ∷ []) ∷ []) [] 10
unfolding everything
item_names_the_old_cell_moving_run = refl

abbrev script_item_names_the_old_cell_run : Script
script_item_names_the_old_cell_run = script [] ((procedure 4 [] (body ((OfPointer None) ∷ (OfPointer None) ∷ []) ((on 7 (Statement-F.NewText
    (Held (H.Local 0)) (Constant (pos 8)) Leaves)) ∷ (on 8 (Statement-F.Push (Held (H.Local 0)))) ∷ (on 9 (Statement-F.Append (InCell (Held
    (H.Local 0))) (Quoted 0))) ∷ (on 10 (Statement-F.ReallocText (Held (H.Local 1)) (Held (H.Local 0)) (Constant (pos 24)))) ∷ (on 11
    (Statement-F.LeaveIfNull (Held (H.Local 1)))) ∷ (on 13 (Statement-F.Set (Held (H.Local 0)) (Held (H.Local 1)))) ∷ (on 14
    (Statement-F.Append (InCell (Held (H.Local 0))) (Quoted 1))) ∷ (on 15 (Statement-F.PrintText (Of (InCell (Held (H.Local 0)))))) ∷ (on 16
    (Statement-F.PopDestroy (Constant (pos 1)))) ∷ []))) ∷ []) [] ((72 ∷ 97 ∷ 114 ∷ 98 ∷ 111 ∷ 117 ∷ 114 ∷ []) ∷ (44 ∷ 32 ∷ 115 ∷ 101 ∷ 101
    ∷ 110 ∷ 32 ∷ 98 ∷ 121 ∷ 32 ∷ 110 ∷ 105 ∷ 103 ∷ 104 ∷ 116 ∷ []) ∷ []) 0

item_names_the_old_cell_run : run script_item_names_the_old_cell_run R.Unlimited 10000 (shaped 4096 4096) ≡ result (Ended None []) ((line 1
    144 0 Granted) ∷ (line 2 48 144 Granted) ∷ (line 3 80 144 Granted) ∷ []) ((72 ∷ 97 ∷ 114 ∷ 98 ∷ 111 ∷ 117 ∷ 114 ∷ 44 ∷ 32 ∷ 115 ∷ 101 ∷
    101 ∷ 110 ∷ 32 ∷ 98 ∷ 121 ∷ 32 ∷ 110 ∷ 105 ∷ 103 ∷ 104 ∷ 116 ∷ []) ∷ []) [] 10
unfolding everything
item_names_the_old_cell_run = refl

abbrev script_item_outlives_its_cell_check : Script
script_item_outlives_its_cell_check = script [] ((procedure 3 [] (body ((OfPointer None) ∷ (OfPointer None) ∷ OfNumber ∷ []) ((on 7
    (Statement-F.Trap 2 ((on 8 (Statement-F.NewText (Held (H.Local 0)) (Constant (pos 20)) Leaves)) ∷ (on 9 (Statement-F.Push (Held (H.Local
    0)))) ∷ (on 10 (Statement-F.Append (InCell (Held (H.Local 0))) (Quoted 0))) ∷ (on 11 (Statement-F.PrintText (Of (InCell (Held (H.Local
    0)))))) ∷ (on 13 (Statement-F.Free (Held (H.Local 0)))) ∷ (on 14 (Statement-F.NewText (Held (H.Local 1)) (Constant (pos 40)) Leaves)) ∷
    (on 15 (Statement-F.Free (Held (H.Local 1)))) ∷ (on 16 (Statement-F.Pop (Constant (pos 1)))) ∷ []))) ∷ []))) ∷ []) [] ((68 ∷ 101 ∷ 97 ∷
    114 ∷ 32 ∷ 65 ∷ 100 ∷ 97 ∷ []) ∷ []) 0

item_outlives_its_cell_check : (required script_item_outlives_its_cell_check 10000 (shaped 4096 4096) ≡ 256) × (rises
    script_item_outlives_its_cell_check 10000 (shaped 4096 4096) ≡ (rise 1 144) ∷ (rise 2 208) ∷ (rise 3 256) ∷ []) × (length (runs_of
    Single script_item_outlives_its_cell_check 10000 (shaped 4096 4096) 0).trace ≡ 3) × (least_bad_or_cut Single
    script_item_outlives_its_cell_check 10000 (shaped 4096 4096) ≡ Some 3) × (runs_of Single script_item_outlives_its_cell_check 10000
    (shaped 4096 4096) 3 ≡ result (Panicked (P.User 42)) ((line 1 144 0 Granted) ∷ (line 2 64 144 Granted) ∷ (line 3 112 144 Simulated) ∷
    []) ((68 ∷ 101 ∷ 97 ∷ 114 ∷ 32 ∷ 65 ∷ 100 ∷ 97 ∷ []) ∷ []) [] 8)
unfolding everything
item_outlives_its_cell_check = (refl, refl, refl, refl, refl)

abbrev script_item_outlives_its_cell_mended_check : Script
script_item_outlives_its_cell_mended_check = script [] ((procedure 2 [] (body ((OfPointer None) ∷ (OfPointer None) ∷ OfNumber ∷ []) ((on 6
    (Statement-F.Trap 2 ((on 7 (Statement-F.NewText (Held (H.Local 0)) (Constant (pos 20)) Leaves)) ∷ (on 8 (Statement-F.Push (Held (H.Local
    0)))) ∷ (on 9 (Statement-F.Append (InCell (Held (H.Local 0))) (Quoted 0))) ∷ (on 10 (Statement-F.PrintText (Of (InCell (Held (H.Local
    0)))))) ∷ (on 12 (Statement-F.PopDestroy (Constant (pos 1)))) ∷ (on 13 (Statement-F.NewText (Held (H.Local 1)) (Constant (pos 40))
    Leaves)) ∷ (on 14 (Statement-F.Free (Held (H.Local 1)))) ∷ []))) ∷ []))) ∷ []) [] ((68 ∷ 101 ∷ 97 ∷ 114 ∷ 32 ∷ 65 ∷ 100 ∷ 97 ∷ []) ∷ [])
    0

item_outlives_its_cell_mended_check : (required script_item_outlives_its_cell_mended_check 10000 (shaped 4096 4096) ≡ 256) × (rises
    script_item_outlives_its_cell_mended_check 10000 (shaped 4096 4096) ≡ (rise 1 144) ∷ (rise 2 208) ∷ (rise 3 256) ∷ []) × (length
    (runs_of Single script_item_outlives_its_cell_mended_check 10000 (shaped 4096 4096) 0).trace ≡ 3) × (least_bad_or_cut Single
    script_item_outlives_its_cell_mended_check 10000 (shaped 4096 4096) ≡ None)
unfolding everything
item_outlives_its_cell_mended_check = (refl, refl, refl, refl)

abbrev script_item_outlives_its_cell_run : Script
script_item_outlives_its_cell_run = script [] ((procedure 3 [] (body ((OfPointer None) ∷ (OfPointer None) ∷ OfNumber ∷ []) ((on 7
    (Statement-F.Trap 2 ((on 8 (Statement-F.NewText (Held (H.Local 0)) (Constant (pos 20)) Leaves)) ∷ (on 9 (Statement-F.Push (Held (H.Local
    0)))) ∷ (on 10 (Statement-F.Append (InCell (Held (H.Local 0))) (Quoted 0))) ∷ (on 11 (Statement-F.PrintText (Of (InCell (Held (H.Local
    0)))))) ∷ (on 13 (Statement-F.Free (Held (H.Local 0)))) ∷ (on 14 (Statement-F.NewText (Held (H.Local 1)) (Constant (pos 40)) Leaves)) ∷
    (on 15 (Statement-F.Free (Held (H.Local 1)))) ∷ (on 16 (Statement-F.Pop (Constant (pos 1)))) ∷ []))) ∷ []))) ∷ []) [] ((68 ∷ 101 ∷ 97 ∷
    114 ∷ 32 ∷ 65 ∷ 100 ∷ 97 ∷ []) ∷ []) 0

item_outlives_its_cell_run : run script_item_outlives_its_cell_run R.Unlimited 10000 (shaped 4096 4096) ≡ result (Ended None []) ((line 1
    144 0 Granted) ∷ (line 2 64 144 Granted) ∷ (line 3 112 144 Granted) ∷ []) ((68 ∷ 101 ∷ 97 ∷ 114 ∷ 32 ∷ 65 ∷ 100 ∷ 97 ∷ []) ∷ []) [] 9
unfolding everything
item_outlives_its_cell_run = refl

abbrev script_leak_under_failure_check : Script
script_leak_under_failure_check = script [] ((procedure 4 [] (body ((OfPointer None) ∷ []) ((on 6 (Statement-F.Alloc (Held (H.Local 0))
    (Constant (pos 16)) GivesNull)) ∷ (on 7 (Statement-F.Realloc (Held (H.Local 0)) (Held (H.Local 0)) (Constant (pos 32)) GivesNull)) ∷ (on
    9 (Statement-F.Free (Held (H.Local 0)))) ∷ []))) ∷ []) [] [] 0

leak_under_failure_check : (required script_leak_under_failure_check 10000 (shaped 4096 4096) ≡ 192) × (rises
    script_leak_under_failure_check 10000 (shaped 4096 4096) ≡ (rise 1 144) ∷ (rise 2 176) ∷ (rise 3 192) ∷ []) × (length (runs_of Single
    script_leak_under_failure_check 10000 (shaped 4096 4096) 0).trace ≡ 3) × (least_bad_or_cut Single script_leak_under_failure_check 10000
    (shaped 4096 4096) ≡ Some 3) × (runs_of Single script_leak_under_failure_check 10000 (shaped 4096 4096) 3 ≡ result (Ended None ((leak 2
    32 144) ∷ [])) ((line 1 144 0 Granted) ∷ (line 2 32 144 Granted) ∷ (line 3 48 144 Simulated) ∷ []) [] [] 3)
unfolding everything
leak_under_failure_check = (refl, refl, refl, refl, refl)

abbrev script_leak_under_failure_in_a_large_heap_run : Script
script_leak_under_failure_in_a_large_heap_run = script [] ((procedure 4 [] (body ((OfPointer None) ∷ []) ((on 6 (Statement-F.Alloc (Held
    (H.Local 0)) (Constant (pos 16)) GivesNull)) ∷ (on 7 (Statement-F.Realloc (Held (H.Local 0)) (Held (H.Local 0)) (Constant (pos 32))
    GivesNull)) ∷ (on 9 (Statement-F.Free (Held (H.Local 0)))) ∷ []))) ∷ []) [] [] 0

leak_under_failure_in_a_large_heap_run : run script_leak_under_failure_in_a_large_heap_run R.Unlimited 10000 (shaped 4096 4096) ≡ result
    (Ended None []) ((line 1 144 0 Granted) ∷ (line 2 32 144 Granted) ∷ (line 3 48 144 Granted) ∷ []) [] [] 3
unfolding everything
leak_under_failure_in_a_large_heap_run = refl

abbrev script_leak_under_failure_run : Script
script_leak_under_failure_run = script [] ((procedure 4 [] (body ((OfPointer None) ∷ []) ((on 6 (Statement-F.Alloc (Held (H.Local 0))
    (Constant (pos 16)) GivesNull)) ∷ (on 7 (Statement-F.Realloc (Held (H.Local 0)) (Held (H.Local 0)) (Constant (pos 32)) GivesNull)) ∷ (on
    9 (Statement-F.Free (Held (H.Local 0)))) ∷ []))) ∷ []) [] [] 0

leak_under_failure_run : run script_leak_under_failure_run (R.Number 3) 10000 (shaped 4096 4096) ≡ result (Ended None ((leak 2 32 144) ∷
    [])) ((line 1 144 0 Granted) ∷ (line 2 32 144 Granted) ∷ (line 3 48 144 Simulated) ∷ []) [] [] 3
unfolding everything
leak_under_failure_run = refl

abbrev script_loader_leaks_check : Script
script_loader_leaks_check = script [] ((procedure 4 [] (body ((OfPointer None) ∷ (OfPointer None) ∷ []) ((on 7 (Statement-F.Alloc (Held
    (H.Local 0)) (Constant (pos 16)) Leaves)) ∷ (on 8 (Statement-F.Alloc (Held (H.Local 1)) (Constant (pos 4000)) GivesNull)) ∷ (on 9
    (Statement-F.If (IsNull (Held (H.Local 1))) ((on 10 (Statement-F.Alloc (Held (H.Local 1)) (Constant (pos 2000)) GivesNull)) ∷ []))) ∷
    (on 12 (Statement-F.If (IsNull (Held (H.Local 1))) ((on 14 (Statement-F.Alloc (Held (H.Local 1)) (Constant (pos 1000)) Leaves)) ∷ [])))
    ∷ (on 16 (Statement-F.Free (Held (H.Local 1)))) ∷ (on 17 (Statement-F.Free (Held (H.Local 0)))) ∷ []))) ∷ []) [] [] 0

loader_leaks_check : (required script_loader_leaks_check 10000 (shaped 4096 4096) ≡ 4192) × (rises script_loader_leaks_check 10000 (shaped
    4096 4096) ≡ (rise 1 144) ∷ (rise 2 176) ∷ (rise 3 4192) ∷ []) × (length (runs_of Single script_loader_leaks_check 10000 (shaped 4096
    4096) 0).trace ≡ 3) × (least_bad_or_cut Single script_loader_leaks_check 10000 (shaped 4096 4096) ≡ None)
unfolding everything
loader_leaks_check = (refl, refl, refl, refl)

abbrev script_loader_leaks_every_sweep : Script
script_loader_leaks_every_sweep = script [] ((procedure 4 [] (body ((OfPointer None) ∷ (OfPointer None) ∷ []) ((on 7 (Statement-F.Alloc
    (Held (H.Local 0)) (Constant (pos 16)) Leaves)) ∷ (on 8 (Statement-F.Alloc (Held (H.Local 1)) (Constant (pos 4000)) GivesNull)) ∷ (on 9
    (Statement-F.If (IsNull (Held (H.Local 1))) ((on 10 (Statement-F.Alloc (Held (H.Local 1)) (Constant (pos 2000)) GivesNull)) ∷ []))) ∷
    (on 12 (Statement-F.If (IsNull (Held (H.Local 1))) ((on 14 (Statement-F.Alloc (Held (H.Local 1)) (Constant (pos 1000)) Leaves)) ∷ [])))
    ∷ (on 16 (Statement-F.Free (Held (H.Local 1)))) ∷ (on 17 (Statement-F.Free (Held (H.Local 0)))) ∷ []))) ∷ []) [] [] 0

loader_leaks_every_sweep : (length (runs_of Every script_loader_leaks_every_sweep 10000 (shaped 4096 4096) 0).trace ≡ 3) × (least_bad_or_cut
    Every script_loader_leaks_every_sweep 10000 (shaped 4096 4096) ≡ None)
unfolding everything
loader_leaks_every_sweep = (refl, refl)

abbrev script_loader_leaks_in_a_short_heap_run : Script
script_loader_leaks_in_a_short_heap_run = script [] ((procedure 4 [] (body ((OfPointer None) ∷ (OfPointer None) ∷ []) ((on 7
    (Statement-F.Alloc (Held (H.Local 0)) (Constant (pos 16)) Leaves)) ∷ (on 8 (Statement-F.Alloc (Held (H.Local 1)) (Constant (pos 4000))
    GivesNull)) ∷ (on 9 (Statement-F.If (IsNull (Held (H.Local 1))) ((on 10 (Statement-F.Alloc (Held (H.Local 1)) (Constant (pos 2000))
    GivesNull)) ∷ []))) ∷ (on 12 (Statement-F.If (IsNull (Held (H.Local 1))) ((on 14 (Statement-F.Alloc (Held (H.Local 1)) (Constant (pos
    1000)) Leaves)) ∷ []))) ∷ (on 16 (Statement-F.Free (Held (H.Local 1)))) ∷ (on 17 (Statement-F.Free (Held (H.Local 0)))) ∷ []))) ∷ []) []
    [] 0

loader_leaks_in_a_short_heap_run : run script_loader_leaks_in_a_short_heap_run (R.Limit 1199) 10000 (shaped 4096 4096) ≡ result (Ended (Some
    (negsuc 3)) ((leak 2 32 144) ∷ [])) ((line 1 144 0 Granted) ∷ (line 2 32 144 Granted) ∷ (line 3 4016 176 Refused) ∷ (line 4 2016 176
    Refused) ∷ (line 5 1024 176 Refused) ∷ []) [] [] 6
unfolding everything
loader_leaks_in_a_short_heap_run = refl

abbrev script_loader_leaks_json_lengths : Script
script_loader_leaks_json_lengths = script [] ((procedure 4 [] (body ((OfPointer None) ∷ (OfPointer None) ∷ []) ((on 7 (Statement-F.Alloc
    (Held (H.Local 0)) (Constant (pos 16)) Leaves)) ∷ (on 8 (Statement-F.Alloc (Held (H.Local 1)) (Constant (pos 4000)) GivesNull)) ∷ (on 9
    (Statement-F.If (IsNull (Held (H.Local 1))) ((on 10 (Statement-F.Alloc (Held (H.Local 1)) (Constant (pos 2000)) GivesNull)) ∷ []))) ∷
    (on 12 (Statement-F.If (IsNull (Held (H.Local 1))) ((on 14 (Statement-F.Alloc (Held (H.Local 1)) (Constant (pos 1000)) Leaves)) ∷ [])))
    ∷ (on 16 (Statement-F.Free (Held (H.Local 1)))) ∷ (on 17 (Statement-F.Free (Held (H.Local 0)))) ∷ []))) ∷ []) [] [] 0

loader_leaks_json_lengths : (end_in script_loader_leaks_json_lengths 10000 (shaped 4096 4096) 0 ≡ E.NoCleanup) × (end_in
    script_loader_leaks_json_lengths 10000 (shaped 4096 4096) 143 ≡ E.NoCleanup) × (end_in script_loader_leaks_json_lengths 10000 (shaped
    4096 4096) 144 ≡ E.Left (negsuc 3)) × (end_in script_loader_leaks_json_lengths 10000 (shaped 4096 4096) 175 ≡ E.Left (negsuc 3)) ×
    (end_in script_loader_leaks_json_lengths 10000 (shaped 4096 4096) 176 ≡ E.Leaked 1) × (end_in script_loader_leaks_json_lengths 10000
    (shaped 4096 4096) 1199 ≡ E.Leaked 1) × (end_in script_loader_leaks_json_lengths 10000 (shaped 4096 4096) 1200 ≡ E.Plain) × (end_in
    script_loader_leaks_json_lengths 10000 (shaped 4096 4096) 16777216 ≡ E.Plain) × (run_in script_loader_leaks_json_lengths 10000 (shaped
    4096 4096) 176 ≡ result (Ended (Some (negsuc 3)) ((leak 2 32 144) ∷ [])) ((line 1 144 0 Granted) ∷ (line 2 32 144 Granted) ∷ (line 3
    4016 176 Refused) ∷ (line 4 2016 176 Refused) ∷ (line 5 1024 176 Refused) ∷ []) [] [] 6)
unfolding everything
loader_leaks_json_lengths = (refl, refl, refl, refl, refl, refl, refl, refl, refl)

abbrev script_loader_leaks_lengths : Script
script_loader_leaks_lengths = script [] ((procedure 4 [] (body ((OfPointer None) ∷ (OfPointer None) ∷ []) ((on 7 (Statement-F.Alloc (Held
    (H.Local 0)) (Constant (pos 16)) Leaves)) ∷ (on 8 (Statement-F.Alloc (Held (H.Local 1)) (Constant (pos 4000)) GivesNull)) ∷ (on 9
    (Statement-F.If (IsNull (Held (H.Local 1))) ((on 10 (Statement-F.Alloc (Held (H.Local 1)) (Constant (pos 2000)) GivesNull)) ∷ []))) ∷
    (on 12 (Statement-F.If (IsNull (Held (H.Local 1))) ((on 14 (Statement-F.Alloc (Held (H.Local 1)) (Constant (pos 1000)) Leaves)) ∷ [])))
    ∷ (on 16 (Statement-F.Free (Held (H.Local 1)))) ∷ (on 17 (Statement-F.Free (Held (H.Local 0)))) ∷ []))) ∷ []) [] [] 0

loader_leaks_lengths : (end_in script_loader_leaks_lengths 10000 (shaped 4096 4096) 0 ≡ E.NoCleanup) × (end_in script_loader_leaks_lengths
    10000 (shaped 4096 4096) 143 ≡ E.NoCleanup) × (end_in script_loader_leaks_lengths 10000 (shaped 4096 4096) 144 ≡ E.Left (negsuc 3)) ×
    (end_in script_loader_leaks_lengths 10000 (shaped 4096 4096) 175 ≡ E.Left (negsuc 3)) × (end_in script_loader_leaks_lengths 10000
    (shaped 4096 4096) 176 ≡ E.Leaked 1) × (end_in script_loader_leaks_lengths 10000 (shaped 4096 4096) 1199 ≡ E.Leaked 1) × (end_in
    script_loader_leaks_lengths 10000 (shaped 4096 4096) 1200 ≡ E.Plain) × (end_in script_loader_leaks_lengths 10000 (shaped 4096 4096)
    16777216 ≡ E.Plain) × (run_in script_loader_leaks_lengths 10000 (shaped 4096 4096) 176 ≡ result (Ended (Some (negsuc 3)) ((leak 2 32
    144) ∷ [])) ((line 1 144 0 Granted) ∷ (line 2 32 144 Granted) ∷ (line 3 4016 176 Refused) ∷ (line 4 2016 176 Refused) ∷ (line 5 1024 176
    Refused) ∷ []) [] [] 6)
unfolding everything
loader_leaks_lengths = (refl, refl, refl, refl, refl, refl, refl, refl, refl)

abbrev script_loader_leaks_mended_check : Script
script_loader_leaks_mended_check = script [] ((procedure 2 [] (body ((OfPointer None) ∷ (OfPointer None) ∷ []) ((on 5 (Statement-F.Alloc
    (Held (H.Local 0)) (Constant (pos 16)) Leaves)) ∷ (on 6 (Statement-F.Push (Held (H.Local 0)))) ∷ (on 7 (Statement-F.Alloc (Held (H.Local
    1)) (Constant (pos 4000)) GivesNull)) ∷ (on 8 (Statement-F.If (IsNull (Held (H.Local 1))) ((on 9 (Statement-F.Alloc (Held (H.Local 1))
    (Constant (pos 2000)) GivesNull)) ∷ []))) ∷ (on 11 (Statement-F.If (IsNull (Held (H.Local 1))) ((on 12 (Statement-F.Alloc (Held (H.Local
    1)) (Constant (pos 1000)) Leaves)) ∷ []))) ∷ (on 14 (Statement-F.Free (Held (H.Local 1)))) ∷ (on 15 (Statement-F.PopDestroy (Constant
    (pos 1)))) ∷ []))) ∷ []) [] [] 0

loader_leaks_mended_check : (required script_loader_leaks_mended_check 10000 (shaped 4096 4096) ≡ 4192) × (rises
    script_loader_leaks_mended_check 10000 (shaped 4096 4096) ≡ (rise 1 144) ∷ (rise 2 176) ∷ (rise 3 4192) ∷ []) × (length (runs_of Single
    script_loader_leaks_mended_check 10000 (shaped 4096 4096) 0).trace ≡ 3) × (least_bad_or_cut Single script_loader_leaks_mended_check
    10000 (shaped 4096 4096) ≡ None)
unfolding everything
loader_leaks_mended_check = (refl, refl, refl, refl)

abbrev script_loader_leaks_mended_lengths : Script
script_loader_leaks_mended_lengths = script [] ((procedure 2 [] (body ((OfPointer None) ∷ (OfPointer None) ∷ []) ((on 5 (Statement-F.Alloc
    (Held (H.Local 0)) (Constant (pos 16)) Leaves)) ∷ (on 6 (Statement-F.Push (Held (H.Local 0)))) ∷ (on 7 (Statement-F.Alloc (Held (H.Local
    1)) (Constant (pos 4000)) GivesNull)) ∷ (on 8 (Statement-F.If (IsNull (Held (H.Local 1))) ((on 9 (Statement-F.Alloc (Held (H.Local 1))
    (Constant (pos 2000)) GivesNull)) ∷ []))) ∷ (on 11 (Statement-F.If (IsNull (Held (H.Local 1))) ((on 12 (Statement-F.Alloc (Held (H.Local
    1)) (Constant (pos 1000)) Leaves)) ∷ []))) ∷ (on 14 (Statement-F.Free (Held (H.Local 1)))) ∷ (on 15 (Statement-F.PopDestroy (Constant
    (pos 1)))) ∷ []))) ∷ []) [] [] 0

loader_leaks_mended_lengths : (end_in script_loader_leaks_mended_lengths 10000 (shaped 4096 4096) 0 ≡ E.NoCleanup) × (end_in
    script_loader_leaks_mended_lengths 10000 (shaped 4096 4096) 143 ≡ E.NoCleanup) × (end_in script_loader_leaks_mended_lengths 10000
    (shaped 4096 4096) 144 ≡ E.Left (negsuc 3)) × (end_in script_loader_leaks_mended_lengths 10000 (shaped 4096 4096) 1199 ≡ E.Left (negsuc
    3)) × (end_in script_loader_leaks_mended_lengths 10000 (shaped 4096 4096) 1200 ≡ E.Plain) × (end_in script_loader_leaks_mended_lengths
    10000 (shaped 4096 4096) 16777216 ≡ E.Plain)
unfolding everything
loader_leaks_mended_lengths = (refl, refl, refl, refl, refl, refl)

abbrev script_loader_leaks_pairs_sweep : Script
script_loader_leaks_pairs_sweep = script [] ((procedure 4 [] (body ((OfPointer None) ∷ (OfPointer None) ∷ []) ((on 7 (Statement-F.Alloc
    (Held (H.Local 0)) (Constant (pos 16)) Leaves)) ∷ (on 8 (Statement-F.Alloc (Held (H.Local 1)) (Constant (pos 4000)) GivesNull)) ∷ (on 9
    (Statement-F.If (IsNull (Held (H.Local 1))) ((on 10 (Statement-F.Alloc (Held (H.Local 1)) (Constant (pos 2000)) GivesNull)) ∷ []))) ∷
    (on 12 (Statement-F.If (IsNull (Held (H.Local 1))) ((on 14 (Statement-F.Alloc (Held (H.Local 1)) (Constant (pos 1000)) Leaves)) ∷ [])))
    ∷ (on 16 (Statement-F.Free (Held (H.Local 1)))) ∷ (on 17 (Statement-F.Free (Held (H.Local 0)))) ∷ []))) ∷ []) [] [] 0

loader_leaks_pairs_sweep : (length (runs_of Pairs script_loader_leaks_pairs_sweep 10000 (shaped 4096 4096) 0).trace ≡ 3) × (least_bad_or_cut
    Pairs script_loader_leaks_pairs_sweep 10000 (shaped 4096 4096) ≡ None) × (least_bad_or_cut_pair script_loader_leaks_pairs_sweep 10000
    (shaped 4096 4096) ≡ None)
unfolding everything
loader_leaks_pairs_sweep = (refl, refl, refl)

abbrev script_loader_leaks_sweep : Script
script_loader_leaks_sweep = script [] ((procedure 4 [] (body ((OfPointer None) ∷ (OfPointer None) ∷ []) ((on 7 (Statement-F.Alloc (Held
    (H.Local 0)) (Constant (pos 16)) Leaves)) ∷ (on 8 (Statement-F.Alloc (Held (H.Local 1)) (Constant (pos 4000)) GivesNull)) ∷ (on 9
    (Statement-F.If (IsNull (Held (H.Local 1))) ((on 10 (Statement-F.Alloc (Held (H.Local 1)) (Constant (pos 2000)) GivesNull)) ∷ []))) ∷
    (on 12 (Statement-F.If (IsNull (Held (H.Local 1))) ((on 14 (Statement-F.Alloc (Held (H.Local 1)) (Constant (pos 1000)) Leaves)) ∷ [])))
    ∷ (on 16 (Statement-F.Free (Held (H.Local 1)))) ∷ (on 17 (Statement-F.Free (Held (H.Local 0)))) ∷ []))) ∷ []) [] [] 0

loader_leaks_sweep : (length (runs_of Single script_loader_leaks_sweep 10000 (shaped 4096 4096) 0).trace ≡ 3) × (least_bad_or_cut Single
    script_loader_leaks_sweep 10000 (shaped 4096 4096) ≡ None)
unfolding everything
loader_leaks_sweep = (refl, refl)

abbrev script_member_not_cleared_check : Script
script_member_not_cleared_check = script ((class_of 2 4 (None ∷ []) (Some (body [] ((on 5 (Statement-F.NewText (Field H.This 0 0) (Constant
    (pos 8)) Leaves)) ∷ []))) (Some (body [] ((on 8 (Statement-F.Free (Field H.This 0 0))) ∷ [])))) ∷ []) ((procedure 12 ((Par.OfPointer
    (Some 0)) ∷ []) (body [] ((on 13 (Statement-F.Free (Field (H.Local 0) 0 0))) ∷ (on 15 (Statement-F.NewText (Field (H.Local 0) 0 0)
    (Constant (pos 20)) Leaves)) ∷ []))) ∷ (procedure 18 [] (body ((OfPointer (Some 0)) ∷ []) ((on 20 (Statement-F.New (Held (H.Local 0)) 0
    Leaves)) ∷ (on 21 (Statement-F.PushObject (Held (H.Local 0)))) ∷ (on 22 (Statement-F.Construct (Held (H.Local 0)))) ∷ (on 23
    (Statement-F.Call 0 ((Passed (Held (H.Local 0))) ∷ []))) ∷ (on 24 (Statement-F.PopDestroy (Constant (pos 1)))) ∷ []))) ∷ []) [] [] 1

member_not_cleared_check : (required script_member_not_cleared_check 10000 (shaped 4096 4096) ≡ 256) × (rises
    script_member_not_cleared_check 10000 (shaped 4096 4096) ≡ (rise 1 144) ∷ (rise 2 192) ∷ (rise 3 240) ∷ (rise 4 256) ∷ []) × (length
    (runs_of Single script_member_not_cleared_check 10000 (shaped 4096 4096) 0).trace ≡ 4) × (least_bad_or_cut Single
    script_member_not_cleared_check 10000 (shaped 4096 4096) ≡ Some 4) × (runs_of Single script_member_not_cleared_check 10000 (shaped 4096
    4096) 4 ≡ result (Panicked (P.User 42)) ((line 1 144 0 Granted) ∷ (line 2 48 144 Granted) ∷ (line 3 48 192 Granted) ∷ (line 4 64 192
    Simulated) ∷ []) [] [] 10)
unfolding everything
member_not_cleared_check = (refl, refl, refl, refl, refl)

abbrev script_member_not_cleared_mended_check : Script
script_member_not_cleared_mended_check = script ((class_of 2 4 (None ∷ []) (Some (body [] ((on 5 (Statement-F.NewText (Field H.This 0 0)
    (Constant (pos 8)) Leaves)) ∷ []))) (Some (body [] ((on 8 (Statement-F.Free (Field H.This 0 0))) ∷ [])))) ∷ []) ((procedure 12
    ((Par.OfPointer (Some 0)) ∷ []) (body [] ((on 13 (Statement-F.Free (Field (H.Local 0) 0 0))) ∷ (on 14 (Statement-F.SetNull (Field
    (H.Local 0) 0 0))) ∷ (on 15 (Statement-F.NewText (Field (H.Local 0) 0 0) (Constant (pos 20)) Leaves)) ∷ []))) ∷ (procedure 18 [] (body
    ((OfPointer (Some 0)) ∷ []) ((on 20 (Statement-F.New (Held (H.Local 0)) 0 Leaves)) ∷ (on 21 (Statement-F.PushObject (Held (H.Local 0))))
    ∷ (on 22 (Statement-F.Construct (Held (H.Local 0)))) ∷ (on 23 (Statement-F.Call 0 ((Passed (Held (H.Local 0))) ∷ []))) ∷ (on 24
    (Statement-F.PopDestroy (Constant (pos 1)))) ∷ []))) ∷ []) [] [] 1

member_not_cleared_mended_check : (required script_member_not_cleared_mended_check 10000 (shaped 4096 4096) ≡ 256) × (rises
    script_member_not_cleared_mended_check 10000 (shaped 4096 4096) ≡ (rise 1 144) ∷ (rise 2 192) ∷ (rise 3 240) ∷ (rise 4 256) ∷ []) ×
    (length (runs_of Single script_member_not_cleared_mended_check 10000 (shaped 4096 4096) 0).trace ≡ 4) × (least_bad_or_cut Single
    script_member_not_cleared_mended_check 10000 (shaped 4096 4096) ≡ None)
unfolding everything
member_not_cleared_mended_check = (refl, refl, refl, refl)
