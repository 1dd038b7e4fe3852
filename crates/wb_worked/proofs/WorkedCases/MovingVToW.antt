-- Worked cases of `moving`, each by computing. Written by tools/cases_to_theorems.py; edit nothing here.
use Rattle.std.specs.Prelude.{◌≡◌, refl, pos, negsuc, [], ◌∷◌, length, Some, None}
use Rattle.wb_runs.specs.declared.failures.Failures.TheVariants.{Single}
use Rattle.wb_heap_model.specs.declared.heap.Rule.TheVariants as R
use Rattle.wb_heap_model.specs.declared.heap.Panic.TheVariants as P
use Rattle.wb_tree.specs.declared.script.Holder.TheVariants as H
use Rattle.wb_heap_model.specs.declared.heap.Answer.TheVariants.{Granted}
use Rattle.wb_meaning.specs.declared.run.Outcome.TheVariants.{Ended, Panicked}
use Rattle.wb_tree.specs.declared.script.Script.{Script}
use Rattle.wb_tree.specs.declared.script.Local.TheVariants.{OfPointer, OfNumber, OfView}
use Rattle.wb_tree.specs.declared.script.Pointer.TheVariants.{Held}
use Rattle.wb_tree.specs.declared.script.Number.TheVariants.{Constant, Variable}
use Rattle.wb_tree.specs.declared.script.Writable.TheVariants.{InCell}
use Rattle.wb_tree.specs.declared.script.Readable.TheVariants.{Of, ViewOf, Quoted}
use Rattle.wb_tree.specs.declared.script.Condition.TheVariants.{IsNull, NotNull}
use Rattle.wb_tree.specs.declared.script.Refusal.TheVariants.{GivesNull, Leaves}
use Rattle.wb_tree.specs.declared.script.Statement.TheOpen.{Statement-F}
use Rattle.wb_meaning.specs.Run.{run, required, rises}
use Rattle.wb_runs.specs.Sweeps.{runs_of, least_bad_or_cut}
use Rattle.wb_worked.specs.Shorthands.{everything, on, script, procedure, body, result, shaped_moving, line, rise}

abbrev script_view_of_a_grown_text_check : Script
script_view_of_a_grown_text_check = script [] ((procedure 1 [] (body ((OfPointer None) ∷ (OfPointer None) ∷ OfView ∷ []) ((on 5
    (Statement-F.NewText (Held (H.Local 0)) (Constant (pos 8)) GivesNull)) ∷ (on 6 (Statement-F.LeaveIfNull (Held (H.Local 0)))) ∷ (on 7
    (Statement-F.Copy (InCell (Held (H.Local 0))) (Quoted 0))) ∷ (on 8 (Statement-F.Left 2 (Of (InCell (Held (H.Local 0)))) (Constant (pos
    3)))) ∷ (on 9 (Statement-F.ReallocText (Held (H.Local 1)) (Held (H.Local 0)) (Constant (pos 100)))) ∷ (on 10 (Statement-F.If (IsNull
    (Held (H.Local 1))) ((on 11 (Statement-F.PrintText (ViewOf 2))) ∷ (on 12 (Statement-F.Free (Held (H.Local 0)))) ∷ (on 13
    Statement-F.Return) ∷ []))) ∷ (on 15 (Statement-F.PrintText (ViewOf 2))) ∷ (on 16 (Statement-F.Free (Held (H.Local 1)))) ∷ []))) ∷ [])
    [] ((97 ∷ 98 ∷ 99 ∷ 100 ∷ 101 ∷ 102 ∷ []) ∷ []) 0

view_of_a_grown_text_check : (required script_view_of_a_grown_text_check 10000 (shaped_moving 4096 4096) ≡ 416) × (rises
    script_view_of_a_grown_text_check 10000 (shaped_moving 4096 4096) ≡ (rise 1 144) ∷ (rise 2 192) ∷ (rise 3 416) ∷ []) × (length (runs_of
    Single script_view_of_a_grown_text_check 10000 (shaped_moving 4096 4096) 0).trace ≡ 3) × (least_bad_or_cut Single
    script_view_of_a_grown_text_check 10000 (shaped_moving 4096 4096) ≡ Some 0) × (runs_of Single script_view_of_a_grown_text_check 10000
    (shaped_moving 4096 4096) 0 ≡ result (Panicked (P.Workbench 1)) ((line 1 144 0 Granted) ∷ (line 2 48 144 Granted) ∷ (line 3 224 192
    Granted) ∷ []) [] [] 7)
unfolding everything
view_of_a_grown_text_check = (refl, refl, refl, refl, refl)

abbrev script_words_are_kept_where_the_cell_moves_run : Script
script_words_are_kept_where_the_cell_moves_run = script [] ((procedure 1 [] (body ((OfPointer None) ∷ OfNumber ∷ []) ((on 4
    (Statement-F.Alloc (Held (H.Local 0)) (Constant (pos 16)) Leaves)) ∷ (on 5 (Statement-F.Store (Held (H.Local 0)) (Constant (pos 0))
    (Constant (pos 11)))) ∷ (on 6 (Statement-F.Store (Held (H.Local 0)) (Constant (pos 3)) (Constant (negsuc 6)))) ∷ (on 7
    (Statement-F.Realloc (Held (H.Local 0)) (Held (H.Local 0)) (Constant (pos 64)) GivesNull)) ∷ (on 8 (Statement-F.If (NotNull (Held
    (H.Local 0))) ((on 9 (Statement-F.Load 1 (Held (H.Local 0)) (Constant (pos 0)))) ∷ (on 10 (Statement-F.PrintNumber (Variable 1))) ∷ (on
    11 (Statement-F.Load 1 (Held (H.Local 0)) (Constant (pos 3)))) ∷ (on 12 (Statement-F.PrintNumber (Variable 1))) ∷ (on 13
    (Statement-F.Load 1 (Held (H.Local 0)) (Constant (pos 15)))) ∷ (on 14 (Statement-F.PrintNumber (Variable 1))) ∷ []))) ∷ (on 16
    (Statement-F.Free (Held (H.Local 0)))) ∷ []))) ∷ []) [] [] 0

words_are_kept_where_the_cell_moves_run : run script_words_are_kept_where_the_cell_moves_run R.Unlimited 10000 (shaped_moving 4096 4096) ≡
    result (Ended None []) ((line 1 144 0 Granted) ∷ (line 2 32 144 Granted) ∷ (line 3 80 176 Granted) ∷ []) ((49 ∷ 49 ∷ []) ∷ (45 ∷ 55 ∷
    []) ∷ (48 ∷ []) ∷ []) [] 12
unfolding everything
words_are_kept_where_the_cell_moves_run = refl
