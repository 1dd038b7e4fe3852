-- Worked cases of `moving`, each by computing. Written by tools/cases_to_theorems.py; edit nothing here.
use Rattle.std.specs.Prelude.{◌≡◌, refl, pos, negsuc, [], ◌∷◌, length, Some, None}
use Rattle.wb_runs.specs.declared.failures.Failures.TheVariants.{Single, Pairs}
use Rattle.wb_heap_model.specs.declared.heap.Rule.TheVariants as R
use Rattle.wb_heap_model.specs.declared.heap.Panic.TheVariants as P
use Rattle.wb_tree.specs.declared.script.Holder.TheVariants as H
use Rattle.wb_heap_model.specs.declared.heap.Answer.TheVariants.{Granted, Simulated, Refused}
use Rattle.wb_runs.specs.declared.run_end.RunEnd.TheVariants as E
use Rattle.wb_meaning.specs.declared.run.Outcome.TheVariants.{Ended, Panicked}
use Rattle.wb_tree.specs.declared.script.Script.{Script}
use Rattle.wb_tree.specs.declared.script.Parameter.TheVariants as Par
use Rattle.wb_tree.specs.declared.script.Local.TheVariants.{OfPointer}
use Rattle.wb_tree.specs.declared.script.Pointer.TheVariants.{Held, Field}
use Rattle.wb_tree.specs.declared.script.Number.TheVariants.{Constant}
use Rattle.wb_tree.specs.declared.script.Writable.TheVariants.{InCell}
use Rattle.wb_tree.specs.declared.script.Readable.TheVariants.{Of, Quoted}
use Rattle.wb_tree.specs.declared.script.Condition.TheVariants.{IsNull, NotNull}
use Rattle.wb_tree.specs.declared.script.Refusal.TheVariants.{GivesNull, Leaves}
use Rattle.wb_tree.specs.declared.script.Statement.TheOpen.{Statement-F}
use Rattle.wb_meaning.specs.Run.{run, required, rises}
use Rattle.wb_runs.specs.Lengths.{end_in, run_in}
use Rattle.wb_runs.specs.Pairs.{pair_run, least_bad_or_cut_pair}
use Rattle.wb_runs.specs.Sweeps.{runs_of, least_bad_or_cut}
use Rattle.wb_worked.specs.Shorthands.{everything, on, script, class_of, procedure, body, result, shaped, shaped_moving, line, rise}

abbrev script_marks_count_a_moved_cell_where_it_was_made_run : Script
script_marks_count_a_moved_cell_where_it_was_made_run = script [] ((procedure 1 [] (body ((OfPointer None) ∷ []) ((on 3 (Statement-F.Alloc
    (Held (H.Local 0)) (Constant (pos 16)) GivesNull)) ∷ (on 4 Statement-F.Mark) ∷ (on 5 (Statement-F.Realloc (Held (H.Local 0)) (Held
    (H.Local 0)) (Constant (pos 64)) GivesNull)) ∷ (on 6 (Statement-F.MarkEnd (Constant (pos 0)))) ∷ (on 7 (Statement-F.Check (Constant (pos
    1)))) ∷ (on 8 (Statement-F.Free (Held (H.Local 0)))) ∷ []))) ∷ []) [] [] 0

marks_count_a_moved_cell_where_it_was_made_run : run script_marks_count_a_moved_cell_where_it_was_made_run R.Unlimited 10000 (shaped_moving
    4096 4096) ≡ result (Ended None []) ((line 1 144 0 Granted) ∷ (line 2 32 144 Granted) ∷ (line 3 80 176 Granted) ∷ []) [] [] 6
unfolding everything
marks_count_a_moved_cell_where_it_was_made_run = refl

abbrev script_needs_two_failures_and_a_move_pairs_sweep : Script
script_needs_two_failures_and_a_move_pairs_sweep = script [] ((procedure 1 [] (body ((OfPointer None) ∷ (OfPointer None) ∷ (OfPointer None)
    ∷ []) ((on 5 (Statement-F.Alloc (Held (H.Local 0)) (Constant (pos 16)) GivesNull)) ∷ (on 6 (Statement-F.If (IsNull (Held (H.Local 0)))
    ((on 7 Statement-F.Return) ∷ []))) ∷ (on 9 (Statement-F.Realloc (Held (H.Local 2)) (Held (H.Local 0)) (Constant (pos 48)) GivesNull)) ∷
    (on 10 (Statement-F.If (IsNull (Held (H.Local 2))) ((on 11 (Statement-F.Realloc (Held (H.Local 2)) (Held (H.Local 0)) (Constant (pos
    32)) GivesNull)) ∷ (on 12 (Statement-F.If (IsNull (Held (H.Local 2))) ((on 13 (Statement-F.Set (Held (H.Local 1)) (Held (H.Local 0)))) ∷
    (on 14 (Statement-F.Realloc (Held (H.Local 0)) (Held (H.Local 0)) (Constant (pos 96)) GivesNull)) ∷ (on 15 (Statement-F.If (IsNull (Held
    (H.Local 0))) ((on 16 (Statement-F.Set (Held (H.Local 0)) (Held (H.Local 1)))) ∷ []))) ∷ (on 18 (Statement-F.Store (Held (H.Local 1))
    (Constant (pos 0)) (Constant (pos 1)))) ∷ (on 19 (Statement-F.Free (Held (H.Local 0)))) ∷ (on 20 Statement-F.Return) ∷ []))) ∷ []))) ∷
    (on 23 (Statement-F.Free (Held (H.Local 2)))) ∷ []))) ∷ []) [] [] 0

needs_two_failures_and_a_move_pairs_sweep : (length (runs_of Pairs script_needs_two_failures_and_a_move_pairs_sweep 10000 (shaped_moving
    4096 4096) 0).trace ≡ 3) × (least_bad_or_cut Pairs script_needs_two_failures_and_a_move_pairs_sweep 10000 (shaped_moving 4096 4096) ≡
    None) × (least_bad_or_cut_pair script_needs_two_failures_and_a_move_pairs_sweep 10000 (shaped_moving 4096 4096) ≡ Some (3, 4)) ×
    (pair_run script_needs_two_failures_and_a_move_pairs_sweep 10000 (shaped_moving 4096 4096) 3 4 ≡ result (Panicked (P.Workbench 1))
    ((line 1 144 0 Granted) ∷ (line 2 32 144 Granted) ∷ (line 3 64 176 Simulated) ∷ (line 4 48 176 Simulated) ∷ (line 5 112 176 Granted) ∷
    []) [] [] 10)
unfolding everything
needs_two_failures_and_a_move_pairs_sweep = (refl, refl, refl, refl)

abbrev script_needs_two_failures_and_a_move_set_run : Script
script_needs_two_failures_and_a_move_set_run = script [] ((procedure 1 [] (body ((OfPointer None) ∷ (OfPointer None) ∷ (OfPointer None) ∷
    []) ((on 5 (Statement-F.Alloc (Held (H.Local 0)) (Constant (pos 16)) GivesNull)) ∷ (on 6 (Statement-F.If (IsNull (Held (H.Local 0)))
    ((on 7 Statement-F.Return) ∷ []))) ∷ (on 9 (Statement-F.Realloc (Held (H.Local 2)) (Held (H.Local 0)) (Constant (pos 48)) GivesNull)) ∷
    (on 10 (Statement-F.If (IsNull (Held (H.Local 2))) ((on 11 (Statement-F.Realloc (Held (H.Local 2)) (Held (H.Local 0)) (Constant (pos
    32)) GivesNull)) ∷ (on 12 (Statement-F.If (IsNull (Held (H.Local 2))) ((on 13 (Statement-F.Set (Held (H.Local 1)) (Held (H.Local 0)))) ∷
    (on 14 (Statement-F.Realloc (Held (H.Local 0)) (Held (H.Local 0)) (Constant (pos 96)) GivesNull)) ∷ (on 15 (Statement-F.If (IsNull (Held
    (H.Local 0))) ((on 16 (Statement-F.Set (Held (H.Local 0)) (Held (H.Local 1)))) ∷ []))) ∷ (on 18 (Statement-F.Store (Held (H.Local 1))
    (Constant (pos 0)) (Constant (pos 1)))) ∷ (on 19 (Statement-F.Free (Held (H.Local 0)))) ∷ (on 20 Statement-F.Return) ∷ []))) ∷ []))) ∷
    (on 23 (Statement-F.Free (Held (H.Local 2)))) ∷ []))) ∷ []) [] [] 0

needs_two_failures_and_a_move_set_run : run script_needs_two_failures_and_a_move_set_run (R.Set (3 ∷ 4 ∷ [])) 10000 (shaped_moving 4096
    4096) ≡ result (Panicked (P.Workbench 1)) ((line 1 144 0 Granted) ∷ (line 2 32 144 Granted) ∷ (line 3 64 176 Simulated) ∷ (line 4 48 176
    Simulated) ∷ (line 5 112 176 Granted) ∷ []) [] [] 10
unfolding everything
needs_two_failures_and_a_move_set_run = refl

abbrev script_needs_two_failures_and_a_move_sweep : Script
script_needs_two_failures_and_a_move_sweep = script [] ((procedure 1 [] (body ((OfPointer None) ∷ (OfPointer None) ∷ (OfPointer None) ∷ [])
    ((on 5 (Statement-F.Alloc (Held (H.Local 0)) (Constant (pos 16)) GivesNull)) ∷ (on 6 (Statement-F.If (IsNull (Held (H.Local 0))) ((on 7
    Statement-F.Return) ∷ []))) ∷ (on 9 (Statement-F.Realloc (Held (H.Local 2)) (Held (H.Local 0)) (Constant (pos 48)) GivesNull)) ∷ (on 10
    (Statement-F.If (IsNull (Held (H.Local 2))) ((on 11 (Statement-F.Realloc (Held (H.Local 2)) (Held (H.Local 0)) (Constant (pos 32))
    GivesNull)) ∷ (on 12 (Statement-F.If (IsNull (Held (H.Local 2))) ((on 13 (Statement-F.Set (Held (H.Local 1)) (Held (H.Local 0)))) ∷ (on
    14 (Statement-F.Realloc (Held (H.Local 0)) (Held (H.Local 0)) (Constant (pos 96)) GivesNull)) ∷ (on 15 (Statement-F.If (IsNull (Held
    (H.Local 0))) ((on 16 (Statement-F.Set (Held (H.Local 0)) (Held (H.Local 1)))) ∷ []))) ∷ (on 18 (Statement-F.Store (Held (H.Local 1))
    (Constant (pos 0)) (Constant (pos 1)))) ∷ (on 19 (Statement-F.Free (Held (H.Local 0)))) ∷ (on 20 Statement-F.Return) ∷ []))) ∷ []))) ∷
    (on 23 (Statement-F.Free (Held (H.Local 2)))) ∷ []))) ∷ []) [] [] 0

needs_two_failures_and_a_move_sweep : (length (runs_of Single script_needs_two_failures_and_a_move_sweep 10000 (shaped_moving 4096 4096)
    0).trace ≡ 3) × (least_bad_or_cut Single script_needs_two_failures_and_a_move_sweep 10000 (shaped_moving 4096 4096) ≡ None)
unfolding everything
needs_two_failures_and_a_move_sweep = (refl, refl)

abbrev script_nine_items_run : Script
script_nine_items_run = script [] ((procedure 2 [] (body ((OfPointer None) ∷ []) ((on 4 (Statement-F.Alloc (Held (H.Local 0)) (Constant (pos
    8)) Leaves)) ∷ (on 5 (Statement-F.Push (Held (H.Local 0)))) ∷ (on 6 (Statement-F.SetNull (Held (H.Local 0)))) ∷ (on 7 (Statement-F.Push
    (Held (H.Local 0)))) ∷ (on 8 (Statement-F.Push (Held (H.Local 0)))) ∷ (on 9 (Statement-F.Push (Held (H.Local 0)))) ∷ (on 10
    (Statement-F.Push (Held (H.Local 0)))) ∷ (on 11 (Statement-F.Push (Held (H.Local 0)))) ∷ (on 12 (Statement-F.Push (Held (H.Local 0)))) ∷
    (on 13 (Statement-F.Push (Held (H.Local 0)))) ∷ (on 14 (Statement-F.Push (Held (H.Local 0)))) ∷ (on 15 (Statement-F.PopDestroy (Constant
    (pos 9)))) ∷ []))) ∷ []) [] [] 0

nine_items_run : run script_nine_items_run R.Unlimited 10000 (shaped_moving 4096 4096) ≡ result (Ended None []) ((line 1 144 0 Granted) ∷
    (line 2 32 144 Granted) ∷ (line 3 208 176 Granted) ∷ []) [] [] 21
unfolding everything
nine_items_run = refl

abbrev script_nine_items_size : Script
script_nine_items_size = script [] ((procedure 2 [] (body ((OfPointer None) ∷ []) ((on 4 (Statement-F.Alloc (Held (H.Local 0)) (Constant
    (pos 8)) Leaves)) ∷ (on 5 (Statement-F.Push (Held (H.Local 0)))) ∷ (on 6 (Statement-F.SetNull (Held (H.Local 0)))) ∷ (on 7
    (Statement-F.Push (Held (H.Local 0)))) ∷ (on 8 (Statement-F.Push (Held (H.Local 0)))) ∷ (on 9 (Statement-F.Push (Held (H.Local 0)))) ∷
    (on 10 (Statement-F.Push (Held (H.Local 0)))) ∷ (on 11 (Statement-F.Push (Held (H.Local 0)))) ∷ (on 12 (Statement-F.Push (Held (H.Local
    0)))) ∷ (on 13 (Statement-F.Push (Held (H.Local 0)))) ∷ (on 14 (Statement-F.Push (Held (H.Local 0)))) ∷ (on 15 (Statement-F.PopDestroy
    (Constant (pos 9)))) ∷ []))) ∷ []) [] [] 0

nine_items_size : (required script_nine_items_size 10000 (shaped_moving 4096 4096) ≡ 384) × (rises script_nine_items_size 10000
    (shaped_moving 4096 4096) ≡ (rise 1 144) ∷ (rise 2 176) ∷ (rise 3 384) ∷ [])
unfolding everything
nine_items_size = (refl, refl)

abbrev script_nine_items_sweep : Script
script_nine_items_sweep = script [] ((procedure 2 [] (body ((OfPointer None) ∷ []) ((on 4 (Statement-F.Alloc (Held (H.Local 0)) (Constant
    (pos 8)) Leaves)) ∷ (on 5 (Statement-F.Push (Held (H.Local 0)))) ∷ (on 6 (Statement-F.SetNull (Held (H.Local 0)))) ∷ (on 7
    (Statement-F.Push (Held (H.Local 0)))) ∷ (on 8 (Statement-F.Push (Held (H.Local 0)))) ∷ (on 9 (Statement-F.Push (Held (H.Local 0)))) ∷
    (on 10 (Statement-F.Push (Held (H.Local 0)))) ∷ (on 11 (Statement-F.Push (Held (H.Local 0)))) ∷ (on 12 (Statement-F.Push (Held (H.Local
    0)))) ∷ (on 13 (Statement-F.Push (Held (H.Local 0)))) ∷ (on 14 (Statement-F.Push (Held (H.Local 0)))) ∷ (on 15 (Statement-F.PopDestroy
    (Constant (pos 9)))) ∷ []))) ∷ []) [] [] 0

nine_items_sweep : (length (runs_of Single script_nine_items_sweep 10000 (shaped_moving 4096 4096) 0).trace ≡ 3) × (least_bad_or_cut Single
    script_nine_items_sweep 10000 (shaped_moving 4096 4096) ≡ None)
unfolding everything
nine_items_sweep = (refl, refl)

abbrev script_old_pointer_kept_where_growth_fails_run : Script
script_old_pointer_kept_where_growth_fails_run = script [] ((procedure 2 [] (body ((OfPointer None) ∷ (OfPointer None) ∷ []) ((on 5
    (Statement-F.NewText (Held (H.Local 0)) (Constant (pos 8)) GivesNull)) ∷ (on 6 (Statement-F.LeaveIfNull (Held (H.Local 0)))) ∷ (on 7
    (Statement-F.ReallocText (Held (H.Local 1)) (Held (H.Local 0)) (Constant (pos 60)))) ∷ (on 8 (Statement-F.If (NotNull (Held (H.Local
    1))) ((on 9 (Statement-F.Set (Held (H.Local 0)) (Held (H.Local 1)))) ∷ []))) ∷ (on 11 (Statement-F.Copy (InCell (Held (H.Local 0)))
    (Quoted 0))) ∷ (on 12 (Statement-F.PrintText (Of (InCell (Held (H.Local 0)))))) ∷ (on 13 (Statement-F.Free (Held (H.Local 0)))) ∷ [])))
    ∷ []) [] ((101 ∷ 105 ∷ 116 ∷ 104 ∷ 101 ∷ 114 ∷ []) ∷ []) 0

old_pointer_kept_where_growth_fails_run : run script_old_pointer_kept_where_growth_fails_run R.Unlimited 10000 (shaped_moving 4096 4096) ≡
    result (Ended None []) ((line 1 144 0 Granted) ∷ (line 2 48 144 Granted) ∷ (line 3 144 192 Granted) ∷ []) ((101 ∷ 105 ∷ 116 ∷ 104 ∷ 101
    ∷ 114 ∷ []) ∷ []) [] 8
unfolding everything
old_pointer_kept_where_growth_fails_run = refl

abbrev script_popcheck_after_growth_check : Script
script_popcheck_after_growth_check = script [] ((procedure 1 [] (body ((OfPointer None) ∷ (OfPointer None) ∷ []) ((on 4 (Statement-F.Alloc
    (Held (H.Local 0)) (Constant (pos 16)) Leaves)) ∷ (on 5 (Statement-F.Push (Held (H.Local 0)))) ∷ (on 6 (Statement-F.Realloc (Held
    (H.Local 1)) (Held (H.Local 0)) (Constant (pos 80)) GivesNull)) ∷ (on 7 (Statement-F.LeaveIfNull (Held (H.Local 1)))) ∷ (on 8
    (Statement-F.PopCheck (Held (H.Local 1)))) ∷ (on 9 (Statement-F.Free (Held (H.Local 1)))) ∷ []))) ∷ []) [] [] 0

popcheck_after_growth_check : (required script_popcheck_after_growth_check 10000 (shaped_moving 4096 4096) ≡ 272) × (rises
    script_popcheck_after_growth_check 10000 (shaped_moving 4096 4096) ≡ (rise 1 144) ∷ (rise 2 176) ∷ (rise 3 272) ∷ []) × (length (runs_of
    Single script_popcheck_after_growth_check 10000 (shaped_moving 4096 4096) 0).trace ≡ 3) × (least_bad_or_cut Single
    script_popcheck_after_growth_check 10000 (shaped_moving 4096 4096) ≡ Some 0) × (runs_of Single script_popcheck_after_growth_check 10000
    (shaped_moving 4096 4096) 0 ≡ result (Panicked (P.Workbench 4)) ((line 1 144 0 Granted) ∷ (line 2 32 144 Granted) ∷ (line 3 96 176
    Granted) ∷ []) [] [] 5)
unfolding everything
popcheck_after_growth_check = (refl, refl, refl, refl, refl)

abbrev script_pushed_text_grows_check : Script
script_pushed_text_grows_check = script [] ((procedure 2 [] (body ((OfPointer None) ∷ (OfPointer None) ∷ []) ((on 5 (Statement-F.NewText
    (Held (H.Local 0)) (Constant (pos 10)) Leaves)) ∷ (on 6 (Statement-F.Push (Held (H.Local 0)))) ∷ (on 7 (Statement-F.Copy (InCell (Held
    (H.Local 0))) (Quoted 0))) ∷ (on 8 (Statement-F.ReallocText (Held (H.Local 1)) (Held (H.Local 0)) (Constant (pos 40)))) ∷ (on 9
    (Statement-F.LeaveIfNull (Held (H.Local 1)))) ∷ (on 10 (Statement-F.Set (Held (H.Local 0)) (Held (H.Local 1)))) ∷ (on 11
    (Statement-F.Append (InCell (Held (H.Local 0))) (Quoted 1))) ∷ (on 12 (Statement-F.PrintText (Of (InCell (Held (H.Local 0)))))) ∷ (on 13
    (Statement-F.PopDestroy (Constant (pos 1)))) ∷ []))) ∷ []) [] ((65 ∷ 110 ∷ 110 ∷ 97 ∷ []) ∷ (32 ∷ 97 ∷ 110 ∷ 100 ∷ 32 ∷ 66 ∷ 101 ∷ 114 ∷
    116 ∷ 104 ∷ 97 ∷ 44 ∷ 32 ∷ 97 ∷ 110 ∷ 100 ∷ 32 ∷ 67 ∷ 97 ∷ 114 ∷ 108 ∷ []) ∷ []) 0

pushed_text_grows_check : (required script_pushed_text_grows_check 10000 (shaped_moving 4096 4096) ≡ 304) × (rises
    script_pushed_text_grows_check 10000 (shaped_moving 4096 4096) ≡ (rise 1 144) ∷ (rise 2 192) ∷ (rise 3 304) ∷ []) × (length (runs_of
    Single script_pushed_text_grows_check 10000 (shaped_moving 4096 4096) 0).trace ≡ 3) × (least_bad_or_cut Single
    script_pushed_text_grows_check 10000 (shaped_moving 4096 4096) ≡ Some 0) × (runs_of Single script_pushed_text_grows_check 10000
    (shaped_moving 4096 4096) 0 ≡ result (Panicked (P.User 42)) ((line 1 144 0 Granted) ∷ (line 2 48 144 Granted) ∷ (line 3 112 192 Granted)
    ∷ []) ((65 ∷ 110 ∷ 110 ∷ 97 ∷ 32 ∷ 97 ∷ 110 ∷ 100 ∷ 32 ∷ 66 ∷ 101 ∷ 114 ∷ 116 ∷ 104 ∷ 97 ∷ 44 ∷ 32 ∷ 97 ∷ 110 ∷ 100 ∷ 32 ∷ 67 ∷ 97 ∷ 114
    ∷ 108 ∷ []) ∷ []) [] 10)
unfolding everything
pushed_text_grows_check = (refl, refl, refl, refl, refl)

abbrev script_pushed_text_grows_fail_run : Script
script_pushed_text_grows_fail_run = script [] ((procedure 2 [] (body ((OfPointer None) ∷ (OfPointer None) ∷ []) ((on 5 (Statement-F.NewText
    (Held (H.Local 0)) (Constant (pos 10)) Leaves)) ∷ (on 6 (Statement-F.Push (Held (H.Local 0)))) ∷ (on 7 (Statement-F.Copy (InCell (Held
    (H.Local 0))) (Quoted 0))) ∷ (on 8 (Statement-F.ReallocText (Held (H.Local 1)) (Held (H.Local 0)) (Constant (pos 40)))) ∷ (on 9
    (Statement-F.LeaveIfNull (Held (H.Local 1)))) ∷ (on 10 (Statement-F.Set (Held (H.Local 0)) (Held (H.Local 1)))) ∷ (on 11
    (Statement-F.Append (InCell (Held (H.Local 0))) (Quoted 1))) ∷ (on 12 (Statement-F.PrintText (Of (InCell (Held (H.Local 0)))))) ∷ (on 13
    (Statement-F.PopDestroy (Constant (pos 1)))) ∷ []))) ∷ []) [] ((65 ∷ 110 ∷ 110 ∷ 97 ∷ []) ∷ (32 ∷ 97 ∷ 110 ∷ 100 ∷ 32 ∷ 66 ∷ 101 ∷ 114 ∷
    116 ∷ 104 ∷ 97 ∷ 44 ∷ 32 ∷ 97 ∷ 110 ∷ 100 ∷ 32 ∷ 67 ∷ 97 ∷ 114 ∷ 108 ∷ []) ∷ []) 0

pushed_text_grows_fail_run : run script_pushed_text_grows_fail_run (R.Number 3) 10000 (shaped_moving 4096 4096) ≡ result (Ended (Some
    (negsuc 3)) []) ((line 1 144 0 Granted) ∷ (line 2 48 144 Granted) ∷ (line 3 112 192 Simulated) ∷ []) [] [] 6
unfolding everything
pushed_text_grows_fail_run = refl

abbrev script_pushed_text_grows_in_place_lengths : Script
script_pushed_text_grows_in_place_lengths = script [] ((procedure 2 [] (body ((OfPointer None) ∷ (OfPointer None) ∷ []) ((on 5
    (Statement-F.NewText (Held (H.Local 0)) (Constant (pos 10)) Leaves)) ∷ (on 6 (Statement-F.Push (Held (H.Local 0)))) ∷ (on 7
    (Statement-F.Copy (InCell (Held (H.Local 0))) (Quoted 0))) ∷ (on 8 (Statement-F.ReallocText (Held (H.Local 1)) (Held (H.Local 0))
    (Constant (pos 40)))) ∷ (on 9 (Statement-F.LeaveIfNull (Held (H.Local 1)))) ∷ (on 10 (Statement-F.Set (Held (H.Local 0)) (Held (H.Local
    1)))) ∷ (on 11 (Statement-F.Append (InCell (Held (H.Local 0))) (Quoted 1))) ∷ (on 12 (Statement-F.PrintText (Of (InCell (Held (H.Local
    0)))))) ∷ (on 13 (Statement-F.PopDestroy (Constant (pos 1)))) ∷ []))) ∷ []) [] ((65 ∷ 110 ∷ 110 ∷ 97 ∷ []) ∷ (32 ∷ 97 ∷ 110 ∷ 100 ∷ 32 ∷
    66 ∷ 101 ∷ 114 ∷ 116 ∷ 104 ∷ 97 ∷ 44 ∷ 32 ∷ 97 ∷ 110 ∷ 100 ∷ 32 ∷ 67 ∷ 97 ∷ 114 ∷ 108 ∷ []) ∷ []) 0

pushed_text_grows_in_place_lengths : (end_in script_pushed_text_grows_in_place_lengths 10000 (shaped 4096 4096) 0 ≡ E.NoCleanup) × (end_in
    script_pushed_text_grows_in_place_lengths 10000 (shaped 4096 4096) 143 ≡ E.NoCleanup) × (end_in
    script_pushed_text_grows_in_place_lengths 10000 (shaped 4096 4096) 144 ≡ E.Left (negsuc 3)) × (end_in
    script_pushed_text_grows_in_place_lengths 10000 (shaped 4096 4096) 255 ≡ E.Left (negsuc 3)) × (end_in
    script_pushed_text_grows_in_place_lengths 10000 (shaped 4096 4096) 256 ≡ E.Plain) × (end_in script_pushed_text_grows_in_place_lengths
    10000 (shaped 4096 4096) 16777216 ≡ E.Plain)
unfolding everything
pushed_text_grows_in_place_lengths = (refl, refl, refl, refl, refl, refl)

abbrev script_pushed_text_grows_in_place_run : Script
script_pushed_text_grows_in_place_run = script [] ((procedure 2 [] (body ((OfPointer None) ∷ (OfPointer None) ∷ []) ((on 5
    (Statement-F.NewText (Held (H.Local 0)) (Constant (pos 10)) Leaves)) ∷ (on 6 (Statement-F.Push (Held (H.Local 0)))) ∷ (on 7
    (Statement-F.Copy (InCell (Held (H.Local 0))) (Quoted 0))) ∷ (on 8 (Statement-F.ReallocText (Held (H.Local 1)) (Held (H.Local 0))
    (Constant (pos 40)))) ∷ (on 9 (Statement-F.LeaveIfNull (Held (H.Local 1)))) ∷ (on 10 (Statement-F.Set (Held (H.Local 0)) (Held (H.Local
    1)))) ∷ (on 11 (Statement-F.Append (InCell (Held (H.Local 0))) (Quoted 1))) ∷ (on 12 (Statement-F.PrintText (Of (InCell (Held (H.Local
    0)))))) ∷ (on 13 (Statement-F.PopDestroy (Constant (pos 1)))) ∷ []))) ∷ []) [] ((65 ∷ 110 ∷ 110 ∷ 97 ∷ []) ∷ (32 ∷ 97 ∷ 110 ∷ 100 ∷ 32 ∷
    66 ∷ 101 ∷ 114 ∷ 116 ∷ 104 ∷ 97 ∷ 44 ∷ 32 ∷ 97 ∷ 110 ∷ 100 ∷ 32 ∷ 67 ∷ 97 ∷ 114 ∷ 108 ∷ []) ∷ []) 0

pushed_text_grows_in_place_run : run script_pushed_text_grows_in_place_run R.Unlimited 10000 (shaped 4096 4096) ≡ result (Ended None [])
    ((line 1 144 0 Granted) ∷ (line 2 48 144 Granted) ∷ (line 3 112 144 Granted) ∷ []) ((65 ∷ 110 ∷ 110 ∷ 97 ∷ 32 ∷ 97 ∷ 110 ∷ 100 ∷ 32 ∷ 66
    ∷ 101 ∷ 114 ∷ 116 ∷ 104 ∷ 97 ∷ 44 ∷ 32 ∷ 97 ∷ 110 ∷ 100 ∷ 32 ∷ 67 ∷ 97 ∷ 114 ∷ 108 ∷ []) ∷ []) [] 10
unfolding everything
pushed_text_grows_in_place_run = refl

abbrev script_pushed_text_grows_json_check : Script
script_pushed_text_grows_json_check = script [] ((procedure 2 [] (body ((OfPointer None) ∷ (OfPointer None) ∷ []) ((on 5
    (Statement-F.NewText (Held (H.Local 0)) (Constant (pos 10)) Leaves)) ∷ (on 6 (Statement-F.Push (Held (H.Local 0)))) ∷ (on 7
    (Statement-F.Copy (InCell (Held (H.Local 0))) (Quoted 0))) ∷ (on 8 (Statement-F.ReallocText (Held (H.Local 1)) (Held (H.Local 0))
    (Constant (pos 40)))) ∷ (on 9 (Statement-F.LeaveIfNull (Held (H.Local 1)))) ∷ (on 10 (Statement-F.Set (Held (H.Local 0)) (Held (H.Local
    1)))) ∷ (on 11 (Statement-F.Append (InCell (Held (H.Local 0))) (Quoted 1))) ∷ (on 12 (Statement-F.PrintText (Of (InCell (Held (H.Local
    0)))))) ∷ (on 13 (Statement-F.PopDestroy (Constant (pos 1)))) ∷ []))) ∷ []) [] ((65 ∷ 110 ∷ 110 ∷ 97 ∷ []) ∷ (32 ∷ 97 ∷ 110 ∷ 100 ∷ 32 ∷
    66 ∷ 101 ∷ 114 ∷ 116 ∷ 104 ∷ 97 ∷ 44 ∷ 32 ∷ 97 ∷ 110 ∷ 100 ∷ 32 ∷ 67 ∷ 97 ∷ 114 ∷ 108 ∷ []) ∷ []) 0

pushed_text_grows_json_check : (required script_pushed_text_grows_json_check 10000 (shaped_moving 4096 4096) ≡ 304) × (rises
    script_pushed_text_grows_json_check 10000 (shaped_moving 4096 4096) ≡ (rise 1 144) ∷ (rise 2 192) ∷ (rise 3 304) ∷ []) × (length
    (runs_of Single script_pushed_text_grows_json_check 10000 (shaped_moving 4096 4096) 0).trace ≡ 3) × (least_bad_or_cut Single
    script_pushed_text_grows_json_check 10000 (shaped_moving 4096 4096) ≡ Some 0) × (runs_of Single script_pushed_text_grows_json_check
    10000 (shaped_moving 4096 4096) 0 ≡ result (Panicked (P.User 42)) ((line 1 144 0 Granted) ∷ (line 2 48 144 Granted) ∷ (line 3 112 192
    Granted) ∷ []) ((65 ∷ 110 ∷ 110 ∷ 97 ∷ 32 ∷ 97 ∷ 110 ∷ 100 ∷ 32 ∷ 66 ∷ 101 ∷ 114 ∷ 116 ∷ 104 ∷ 97 ∷ 44 ∷ 32 ∷ 97 ∷ 110 ∷ 100 ∷ 32 ∷ 67 ∷
    97 ∷ 114 ∷ 108 ∷ []) ∷ []) [] 10)
unfolding everything
pushed_text_grows_json_check = (refl, refl, refl, refl, refl)

abbrev script_pushed_text_grows_lengths : Script
script_pushed_text_grows_lengths = script [] ((procedure 2 [] (body ((OfPointer None) ∷ (OfPointer None) ∷ []) ((on 5 (Statement-F.NewText
    (Held (H.Local 0)) (Constant (pos 10)) Leaves)) ∷ (on 6 (Statement-F.Push (Held (H.Local 0)))) ∷ (on 7 (Statement-F.Copy (InCell (Held
    (H.Local 0))) (Quoted 0))) ∷ (on 8 (Statement-F.ReallocText (Held (H.Local 1)) (Held (H.Local 0)) (Constant (pos 40)))) ∷ (on 9
    (Statement-F.LeaveIfNull (Held (H.Local 1)))) ∷ (on 10 (Statement-F.Set (Held (H.Local 0)) (Held (H.Local 1)))) ∷ (on 11
    (Statement-F.Append (InCell (Held (H.Local 0))) (Quoted 1))) ∷ (on 12 (Statement-F.PrintText (Of (InCell (Held (H.Local 0)))))) ∷ (on 13
    (Statement-F.PopDestroy (Constant (pos 1)))) ∷ []))) ∷ []) [] ((65 ∷ 110 ∷ 110 ∷ 97 ∷ []) ∷ (32 ∷ 97 ∷ 110 ∷ 100 ∷ 32 ∷ 66 ∷ 101 ∷ 114 ∷
    116 ∷ 104 ∷ 97 ∷ 44 ∷ 32 ∷ 97 ∷ 110 ∷ 100 ∷ 32 ∷ 67 ∷ 97 ∷ 114 ∷ 108 ∷ []) ∷ []) 0

pushed_text_grows_lengths : (end_in script_pushed_text_grows_lengths 10000 (shaped_moving 4096 4096) 0 ≡ E.NoCleanup) × (end_in
    script_pushed_text_grows_lengths 10000 (shaped_moving 4096 4096) 143 ≡ E.NoCleanup) × (end_in script_pushed_text_grows_lengths 10000
    (shaped_moving 4096 4096) 144 ≡ E.Left (negsuc 3)) × (end_in script_pushed_text_grows_lengths 10000 (shaped_moving 4096 4096) 303 ≡
    E.Left (negsuc 3)) × (end_in script_pushed_text_grows_lengths 10000 (shaped_moving 4096 4096) 304 ≡ E.Panicked (P.User 42)) × (end_in
    script_pushed_text_grows_lengths 10000 (shaped_moving 4096 4096) 16777216 ≡ E.Panicked (P.User 42)) × (run_in
    script_pushed_text_grows_lengths 10000 (shaped_moving 4096 4096) 304 ≡ result (Panicked (P.User 42)) ((line 1 144 0 Granted) ∷ (line 2
    48 144 Granted) ∷ (line 3 112 192 Granted) ∷ []) ((65 ∷ 110 ∷ 110 ∷ 97 ∷ 32 ∷ 97 ∷ 110 ∷ 100 ∷ 32 ∷ 66 ∷ 101 ∷ 114 ∷ 116 ∷ 104 ∷ 97 ∷ 44
    ∷ 32 ∷ 97 ∷ 110 ∷ 100 ∷ 32 ∷ 67 ∷ 97 ∷ 114 ∷ 108 ∷ []) ∷ []) [] 10)
unfolding everything
pushed_text_grows_lengths = (refl, refl, refl, refl, refl, refl, refl)

abbrev script_pushed_text_grows_limit_run : Script
script_pushed_text_grows_limit_run = script [] ((procedure 2 [] (body ((OfPointer None) ∷ (OfPointer None) ∷ []) ((on 5 (Statement-F.NewText
    (Held (H.Local 0)) (Constant (pos 10)) Leaves)) ∷ (on 6 (Statement-F.Push (Held (H.Local 0)))) ∷ (on 7 (Statement-F.Copy (InCell (Held
    (H.Local 0))) (Quoted 0))) ∷ (on 8 (Statement-F.ReallocText (Held (H.Local 1)) (Held (H.Local 0)) (Constant (pos 40)))) ∷ (on 9
    (Statement-F.LeaveIfNull (Held (H.Local 1)))) ∷ (on 10 (Statement-F.Set (Held (H.Local 0)) (Held (H.Local 1)))) ∷ (on 11
    (Statement-F.Append (InCell (Held (H.Local 0))) (Quoted 1))) ∷ (on 12 (Statement-F.PrintText (Of (InCell (Held (H.Local 0)))))) ∷ (on 13
    (Statement-F.PopDestroy (Constant (pos 1)))) ∷ []))) ∷ []) [] ((65 ∷ 110 ∷ 110 ∷ 97 ∷ []) ∷ (32 ∷ 97 ∷ 110 ∷ 100 ∷ 32 ∷ 66 ∷ 101 ∷ 114 ∷
    116 ∷ 104 ∷ 97 ∷ 44 ∷ 32 ∷ 97 ∷ 110 ∷ 100 ∷ 32 ∷ 67 ∷ 97 ∷ 114 ∷ 108 ∷ []) ∷ []) 0

pushed_text_grows_limit_run : run script_pushed_text_grows_limit_run (R.Limit 256) 10000 (shaped_moving 4096 4096) ≡ result (Ended (Some
    (negsuc 3)) []) ((line 1 144 0 Granted) ∷ (line 2 48 144 Granted) ∷ (line 3 112 192 Refused) ∷ []) [] [] 6
unfolding everything
pushed_text_grows_limit_run = refl

abbrev script_pushed_text_grows_mended_check : Script
script_pushed_text_grows_mended_check = script [] ((procedure 1 [] (body ((OfPointer None) ∷ (OfPointer None) ∷ []) ((on 4
    (Statement-F.NewText (Held (H.Local 0)) (Constant (pos 10)) Leaves)) ∷ (on 5 (Statement-F.Push (Held (H.Local 0)))) ∷ (on 6
    (Statement-F.Copy (InCell (Held (H.Local 0))) (Quoted 0))) ∷ (on 7 (Statement-F.ReallocText (Held (H.Local 1)) (Held (H.Local 0))
    (Constant (pos 40)))) ∷ (on 8 (Statement-F.LeaveIfNull (Held (H.Local 1)))) ∷ (on 9 (Statement-F.Pop (Constant (pos 1)))) ∷ (on 10
    (Statement-F.Set (Held (H.Local 0)) (Held (H.Local 1)))) ∷ (on 11 (Statement-F.Push (Held (H.Local 0)))) ∷ (on 12 (Statement-F.Append
    (InCell (Held (H.Local 0))) (Quoted 1))) ∷ (on 13 (Statement-F.PrintText (Of (InCell (Held (H.Local 0)))))) ∷ (on 14
    (Statement-F.PopDestroy (Constant (pos 1)))) ∷ []))) ∷ []) [] ((65 ∷ 110 ∷ 110 ∷ 97 ∷ []) ∷ (32 ∷ 97 ∷ 110 ∷ 100 ∷ 32 ∷ 66 ∷ 101 ∷ 114 ∷
    116 ∷ 104 ∷ 97 ∷ 44 ∷ 32 ∷ 97 ∷ 110 ∷ 100 ∷ 32 ∷ 67 ∷ 97 ∷ 114 ∷ 108 ∷ []) ∷ []) 0

pushed_text_grows_mended_check : (required script_pushed_text_grows_mended_check 10000 (shaped_moving 4096 4096) ≡ 304) × (rises
    script_pushed_text_grows_mended_check 10000 (shaped_moving 4096 4096) ≡ (rise 1 144) ∷ (rise 2 192) ∷ (rise 3 304) ∷ []) × (length
    (runs_of Single script_pushed_text_grows_mended_check 10000 (shaped_moving 4096 4096) 0).trace ≡ 3) × (least_bad_or_cut Single
    script_pushed_text_grows_mended_check 10000 (shaped_moving 4096 4096) ≡ None)
unfolding everything
pushed_text_grows_mended_check = (refl, refl, refl, refl)

abbrev script_pushed_text_grows_mended_lengths : Script
script_pushed_text_grows_mended_lengths = script [] ((procedure 1 [] (body ((OfPointer None) ∷ (OfPointer None) ∷ []) ((on 4
    (Statement-F.NewText (Held (H.Local 0)) (Constant (pos 10)) Leaves)) ∷ (on 5 (Statement-F.Push (Held (H.Local 0)))) ∷ (on 6
    (Statement-F.Copy (InCell (Held (H.Local 0))) (Quoted 0))) ∷ (on 7 (Statement-F.ReallocText (Held (H.Local 1)) (Held (H.Local 0))
    (Constant (pos 40)))) ∷ (on 8 (Statement-F.LeaveIfNull (Held (H.Local 1)))) ∷ (on 9 (Statement-F.Pop (Constant (pos 1)))) ∷ (on 10
    (Statement-F.Set (Held (H.Local 0)) (Held (H.Local 1)))) ∷ (on 11 (Statement-F.Push (Held (H.Local 0)))) ∷ (on 12 (Statement-F.Append
    (InCell (Held (H.Local 0))) (Quoted 1))) ∷ (on 13 (Statement-F.PrintText (Of (InCell (Held (H.Local 0)))))) ∷ (on 14
    (Statement-F.PopDestroy (Constant (pos 1)))) ∷ []))) ∷ []) [] ((65 ∷ 110 ∷ 110 ∷ 97 ∷ []) ∷ (32 ∷ 97 ∷ 110 ∷ 100 ∷ 32 ∷ 66 ∷ 101 ∷ 114 ∷
    116 ∷ 104 ∷ 97 ∷ 44 ∷ 32 ∷ 97 ∷ 110 ∷ 100 ∷ 32 ∷ 67 ∷ 97 ∷ 114 ∷ 108 ∷ []) ∷ []) 0

pushed_text_grows_mended_lengths : (end_in script_pushed_text_grows_mended_lengths 10000 (shaped_moving 4096 4096) 0 ≡ E.NoCleanup) ×
    (end_in script_pushed_text_grows_mended_lengths 10000 (shaped_moving 4096 4096) 143 ≡ E.NoCleanup) × (end_in
    script_pushed_text_grows_mended_lengths 10000 (shaped_moving 4096 4096) 144 ≡ E.Left (negsuc 3)) × (end_in
    script_pushed_text_grows_mended_lengths 10000 (shaped_moving 4096 4096) 303 ≡ E.Left (negsuc 3)) × (end_in
    script_pushed_text_grows_mended_lengths 10000 (shaped_moving 4096 4096) 304 ≡ E.Plain) × (end_in script_pushed_text_grows_mended_lengths
    10000 (shaped_moving 4096 4096) 16777216 ≡ E.Plain)
unfolding everything
pushed_text_grows_mended_lengths = (refl, refl, refl, refl, refl, refl)

abbrev script_pushed_text_grows_run : Script
script_pushed_text_grows_run = script [] ((procedure 2 [] (body ((OfPointer None) ∷ (OfPointer None) ∷ []) ((on 5 (Statement-F.NewText (Held
    (H.Local 0)) (Constant (pos 10)) Leaves)) ∷ (on 6 (Statement-F.Push (Held (H.Local 0)))) ∷ (on 7 (Statement-F.Copy (InCell (Held
    (H.Local 0))) (Quoted 0))) ∷ (on 8 (Statement-F.ReallocText (Held (H.Local 1)) (Held (H.Local 0)) (Constant (pos 40)))) ∷ (on 9
    (Statement-F.LeaveIfNull (Held (H.Local 1)))) ∷ (on 10 (Statement-F.Set (Held (H.Local 0)) (Held (H.Local 1)))) ∷ (on 11
    (Statement-F.Append (InCell (Held (H.Local 0))) (Quoted 1))) ∷ (on 12 (Statement-F.PrintText (Of (InCell (Held (H.Local 0)))))) ∷ (on 13
    (Statement-F.PopDestroy (Constant (pos 1)))) ∷ []))) ∷ []) [] ((65 ∷ 110 ∷ 110 ∷ 97 ∷ []) ∷ (32 ∷ 97 ∷ 110 ∷ 100 ∷ 32 ∷ 66 ∷ 101 ∷ 114 ∷
    116 ∷ 104 ∷ 97 ∷ 44 ∷ 32 ∷ 97 ∷ 110 ∷ 100 ∷ 32 ∷ 67 ∷ 97 ∷ 114 ∷ 108 ∷ []) ∷ []) 0

pushed_text_grows_run : run script_pushed_text_grows_run R.Unlimited 10000 (shaped_moving 4096 4096) ≡ result (Panicked (P.User 42)) ((line
    1 144 0 Granted) ∷ (line 2 48 144 Granted) ∷ (line 3 112 192 Granted) ∷ []) ((65 ∷ 110 ∷ 110 ∷ 97 ∷ 32 ∷ 97 ∷ 110 ∷ 100 ∷ 32 ∷ 66 ∷ 101
    ∷ 114 ∷ 116 ∷ 104 ∷ 97 ∷ 44 ∷ 32 ∷ 97 ∷ 110 ∷ 100 ∷ 32 ∷ 67 ∷ 97 ∷ 114 ∷ 108 ∷ []) ∷ []) [] 10
unfolding everything
pushed_text_grows_run = refl

abbrev script_second_pointer_to_a_grown_cell_check : Script
script_second_pointer_to_a_grown_cell_check = script [] ((procedure 1 [] (body ((OfPointer None) ∷ (OfPointer None) ∷ []) ((on 4
    (Statement-F.Alloc (Held (H.Local 0)) (Constant (pos 16)) GivesNull)) ∷ (on 5 (Statement-F.If (IsNull (Held (H.Local 0))) ((on 6
    (Statement-F.Leave (Constant (negsuc 3)))) ∷ []))) ∷ (on 8 (Statement-F.Set (Held (H.Local 1)) (Held (H.Local 0)))) ∷ (on 9
    (Statement-F.Realloc (Held (H.Local 1)) (Held (H.Local 1)) (Constant (pos 64)) GivesNull)) ∷ (on 10 (Statement-F.If (IsNull (Held
    (H.Local 1))) ((on 11 (Statement-F.Free (Held (H.Local 0)))) ∷ (on 12 (Statement-F.Leave (Constant (negsuc 3)))) ∷ []))) ∷ (on 14
    (Statement-F.Store (Held (H.Local 0)) (Constant (pos 0)) (Constant (pos 7)))) ∷ (on 15 (Statement-F.Free (Held (H.Local 1)))) ∷ []))) ∷
    []) [] [] 0

second_pointer_to_a_grown_cell_check : (required script_second_pointer_to_a_grown_cell_check 10000 (shaped_moving 4096 4096) ≡ 256) × (rises
    script_second_pointer_to_a_grown_cell_check 10000 (shaped_moving 4096 4096) ≡ (rise 1 144) ∷ (rise 2 176) ∷ (rise 3 256) ∷ []) × (length
    (runs_of Single script_second_pointer_to_a_grown_cell_check 10000 (shaped_moving 4096 4096) 0).trace ≡ 3) × (least_bad_or_cut Single
    script_second_pointer_to_a_grown_cell_check 10000 (shaped_moving 4096 4096) ≡ Some 0) × (runs_of Single
    script_second_pointer_to_a_grown_cell_check 10000 (shaped_moving 4096 4096) 0 ≡ result (Panicked (P.Workbench 1)) ((line 1 144 0
    Granted) ∷ (line 2 32 144 Granted) ∷ (line 3 80 176 Granted) ∷ []) [] [] 6)
unfolding everything
second_pointer_to_a_grown_cell_check = (refl, refl, refl, refl, refl)

abbrev script_shortened_cell_stays_run : Script
script_shortened_cell_stays_run = script [] ((procedure 1 [] (body ((OfPointer None) ∷ (OfPointer None) ∷ []) ((on 4 (Statement-F.Alloc
    (Held (H.Local 0)) (Constant (pos 200)) Leaves)) ∷ (on 5 (Statement-F.Push (Held (H.Local 0)))) ∷ (on 6 (Statement-F.Realloc (Held
    (H.Local 1)) (Held (H.Local 0)) (Constant (pos 10)) GivesNull)) ∷ (on 7 (Statement-F.PopCheck (Held (H.Local 1)))) ∷ (on 8
    (Statement-F.Free (Held (H.Local 0)))) ∷ []))) ∷ []) [] [] 0

shortened_cell_stays_run : run script_shortened_cell_stays_run R.Unlimited 10000 (shaped_moving 4096 4096) ≡ result (Ended None []) ((line 1
    144 0 Granted) ∷ (line 2 224 144 Granted) ∷ []) [] [] 5
unfolding everything
shortened_cell_stays_run = refl

abbrev script_two_owners_of_a_grown_table_run : Script
script_two_owners_of_a_grown_table_run = script ((class_of 1 4 (None ∷ None ∷ []) (Some (body [] ((on 5 (Statement-F.Alloc (Field H.This 0
    0) (Constant (pos 16)) Leaves)) ∷ (on 6 (Statement-F.Set (Field H.This 0 1) (Field H.This 0 0))) ∷ []))) (Some (body [] ((on 9
    (Statement-F.Free (Field H.This 0 0))) ∷ [])))) ∷ []) ((procedure 12 ((Par.OfPointer None) ∷ Par.OfNumber ∷ []) (body [] [])) ∷
    (procedure 14 [] (body ((OfPointer (Some 0)) ∷ (OfPointer None) ∷ []) ((on 17 (Statement-F.New (Held (H.Local 0)) 0 Leaves)) ∷ (on 18
    (Statement-F.PushObject (Held (H.Local 0)))) ∷ (on 19 (Statement-F.Construct (Held (H.Local 0)))) ∷ (on 20 (Statement-F.Realloc (Held
    (H.Local 1)) (Field (H.Local 0) 0 0) (Constant (pos 64)) GivesNull)) ∷ (on 21 (Statement-F.LeaveIfNull (Held (H.Local 1)))) ∷ (on 22
    (Statement-F.Set (Field (H.Local 0) 0 0) (Held (H.Local 1)))) ∷ (on 23 (Statement-F.Store (Field (H.Local 0) 0 1) (Constant (pos 0))
    (Constant (pos 1)))) ∷ (on 24 (Statement-F.PopDestroy (Constant (pos 1)))) ∷ []))) ∷ []) [] [] 1

two_owners_of_a_grown_table_run : run script_two_owners_of_a_grown_table_run R.Unlimited 10000 (shaped_moving 4096 4096) ≡ result (Panicked
    (P.Workbench 1)) ((line 1 144 0 Granted) ∷ (line 2 48 144 Granted) ∷ (line 3 32 192 Granted) ∷ (line 4 80 224 Granted) ∷ []) [] [] 9
unfolding everything
two_owners_of_a_grown_table_run = refl
