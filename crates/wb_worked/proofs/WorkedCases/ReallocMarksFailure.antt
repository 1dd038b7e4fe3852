-- Worked cases of `realloc-marks-failure`, each by computing. Written by tools/cases_to_theorems.py; edit nothing here.
use Rattle.std.specs.Prelude.{◌≡◌, refl, pos, [], ◌∷◌, None}
use Rattle.wb_heap_model.specs.declared.heap.Rule.TheVariants as R
use Rattle.wb_heap_model.specs.declared.heap.Panic.TheVariants as P
use Rattle.wb_tree.specs.declared.script.Holder.TheVariants as H
use Rattle.wb_heap_model.specs.declared.heap.Answer.TheVariants.{Granted, Simulated, Refused}
use Rattle.wb_heap_model.specs.declared.reported.Note.TheVariants.{Heap}
use Rattle.wb_meaning.specs.declared.run.Outcome.TheVariants.{Ended, Panicked}
use Rattle.wb_tree.specs.declared.script.Script.{Script}
use Rattle.wb_tree.specs.declared.script.Local.TheVariants.{OfPointer, OfNumber}
use Rattle.wb_tree.specs.declared.script.Pointer.TheVariants.{Held}
use Rattle.wb_tree.specs.declared.script.Number.TheVariants.{Constant, Variable}
use Rattle.wb_tree.specs.declared.script.Refusal.TheVariants.{GivesNull}
use Rattle.wb_tree.specs.declared.script.Statement.TheOpen.{Statement-F}
use Rattle.wb_meaning.specs.Run.{run}
use Rattle.wb_worked.specs.Shorthands.{everything, on, script, procedure, body, result, leak, shaped, line}

abbrev script_cell_for_zero_bytes_run : Script
script_cell_for_zero_bytes_run = script [] ((procedure 1 [] (body ((OfPointer None) ∷ OfNumber ∷ []) ((on 4 (Statement-F.Alloc (Held
    (H.Local 0)) (Constant (pos 0)) GivesNull)) ∷ (on 5 (Statement-F.AllocLen 1 (Held (H.Local 0)))) ∷ (on 6 (Statement-F.PrintNumber
    (Variable 1))) ∷ (on 7 (Statement-F.Free (Held (H.Local 0)))) ∷ []))) ∷ []) [] [] 0

cell_for_zero_bytes_run : run script_cell_for_zero_bytes_run R.Unlimited 10000 (shaped 4096 4096) ≡ result (Ended None []) ((line 1 144 0
    Granted) ∷ (line 2 16 144 Granted) ∷ []) ((48 ∷ []) ∷ []) [] 4
unfolding everything
cell_for_zero_bytes_run = refl

abbrev script_fail_next_fires_once_run : Script
script_fail_next_fires_once_run = script [] ((procedure 1 [] (body ((OfPointer None) ∷ []) ((on 3 (Statement-F.FailNext (Constant (pos 1))))
    ∷ (on 4 (Statement-F.Alloc (Held (H.Local 0)) (Constant (pos 16)) GivesNull)) ∷ (on 5 (Statement-F.Alloc (Held (H.Local 0)) (Constant
    (pos 16)) GivesNull)) ∷ (on 6 (Statement-F.Free (Held (H.Local 0)))) ∷ []))) ∷ []) [] [] 0

fail_next_fires_once_run : run script_fail_next_fires_once_run R.Unlimited 10000 (shaped 4096 4096) ≡ result (Ended None []) ((line 1 144 0
    Granted) ∷ (line 2 32 144 Simulated) ∷ (line 3 32 144 Granted) ∷ []) [] [] 4
unfolding everything
fail_next_fires_once_run = refl

abbrev script_growth_past_the_hole_moves_run : Script
script_growth_past_the_hole_moves_run = script [] ((procedure 1 [] (body ((OfPointer None) ∷ (OfPointer None) ∷ (OfPointer None) ∷ []) ((on
    5 (Statement-F.Alloc (Held (H.Local 0)) (Constant (pos 16)) GivesNull)) ∷ (on 6 (Statement-F.Alloc (Held (H.Local 1)) (Constant (pos
    16)) GivesNull)) ∷ (on 7 (Statement-F.Alloc (Held (H.Local 2)) (Constant (pos 16)) GivesNull)) ∷ (on 8 (Statement-F.Free (Held (H.Local
    1)))) ∷ (on 9 (Statement-F.Realloc (Held (H.Local 0)) (Held (H.Local 0)) (Constant (pos 49)) GivesNull)) ∷ (on 10 Statement-F.NoteHeap)
    ∷ []))) ∷ []) [] [] 0

growth_past_the_hole_moves_run : run script_growth_past_the_hole_moves_run R.Unlimited 10000 (shaped 4096 4096) ≡ result (Ended None ((leak
    4 32 208) ∷ (leak 5 80 240) ∷ [])) ((line 1 144 0 Granted) ∷ (line 2 32 144 Granted) ∷ (line 3 32 176 Granted) ∷ (line 4 32 208 Granted)
    ∷ (line 5 80 240 Granted) ∷ []) [] ((Heap 3 256 4096) ∷ []) 6
unfolding everything
growth_past_the_hole_moves_run = refl

abbrev script_growth_that_exactly_fills_the_hole_run : Script
script_growth_that_exactly_fills_the_hole_run = script [] ((procedure 1 [] (body ((OfPointer None) ∷ (OfPointer None) ∷ (OfPointer None) ∷
    []) ((on 5 (Statement-F.Alloc (Held (H.Local 0)) (Constant (pos 16)) GivesNull)) ∷ (on 6 (Statement-F.Alloc (Held (H.Local 1)) (Constant
    (pos 16)) GivesNull)) ∷ (on 7 (Statement-F.Alloc (Held (H.Local 2)) (Constant (pos 16)) GivesNull)) ∷ (on 8 (Statement-F.Free (Held
    (H.Local 1)))) ∷ (on 9 (Statement-F.Store (Held (H.Local 0)) (Constant (pos 3)) (Constant (pos 7)))) ∷ (on 10 (Statement-F.Realloc (Held
    (H.Local 0)) (Held (H.Local 0)) (Constant (pos 48)) GivesNull)) ∷ (on 11 Statement-F.NoteHeap) ∷ []))) ∷ []) [] [] 0

growth_that_exactly_fills_the_hole_run : run script_growth_that_exactly_fills_the_hole_run R.Unlimited 10000 (shaped 4096 4096) ≡ result
    (Ended None ((leak 2 64 144) ∷ (leak 4 32 208) ∷ [])) ((line 1 144 0 Granted) ∷ (line 2 32 144 Granted) ∷ (line 3 32 176 Granted) ∷
    (line 4 32 208 Granted) ∷ (line 5 64 144 Granted) ∷ []) [] ((Heap 3 240 4096) ∷ []) 7
unfolding everything
growth_that_exactly_fills_the_hole_run = refl

abbrev script_mark_end_finds_live_cells_run : Script
script_mark_end_finds_live_cells_run = script [] ((procedure 1 [] (body ((OfPointer None) ∷ (OfPointer None) ∷ []) ((on 4 Statement-F.Mark)
    ∷ (on 5 (Statement-F.Alloc (Held (H.Local 0)) (Constant (pos 16)) GivesNull)) ∷ (on 6 (Statement-F.Alloc (Held (H.Local 1)) (Constant
    (pos 16)) GivesNull)) ∷ (on 7 (Statement-F.MarkEnd (Constant (pos 0)))) ∷ []))) ∷ []) [] [] 0

mark_end_finds_live_cells_run : run script_mark_end_finds_live_cells_run R.Unlimited 10000 (shaped 4096 4096) ≡ result (Panicked (P.Alloc
    144)) ((line 1 144 0 Granted) ∷ (line 2 32 144 Granted) ∷ (line 3 32 176 Granted) ∷ []) [] [] 4
unfolding everything
mark_end_finds_live_cells_run = refl

abbrev script_mark_end_hands_cells_to_the_outer_level_run : Script
script_mark_end_hands_cells_to_the_outer_level_run = script [] ((procedure 1 [] (body ((OfPointer None) ∷ (OfPointer None) ∷ []) ((on 4
    Statement-F.Mark) ∷ (on 5 (Statement-F.Alloc (Held (H.Local 0)) (Constant (pos 16)) GivesNull)) ∷ (on 6 (Statement-F.Alloc (Held
    (H.Local 1)) (Constant (pos 16)) GivesNull)) ∷ (on 7 (Statement-F.MarkEnd (Constant (pos 2)))) ∷ (on 8 (Statement-F.Check (Constant (pos
    2)))) ∷ (on 9 (Statement-F.Free (Held (H.Local 0)))) ∷ (on 10 (Statement-F.Free (Held (H.Local 1)))) ∷ []))) ∷ []) [] [] 0

mark_end_hands_cells_to_the_outer_level_run : run script_mark_end_hands_cells_to_the_outer_level_run R.Unlimited 10000 (shaped 4096 4096) ≡
    result (Ended None []) ((line 1 144 0 Granted) ∷ (line 2 32 144 Granted) ∷ (line 3 32 176 Granted) ∷ []) [] [] 7
unfolding everything
mark_end_hands_cells_to_the_outer_level_run = refl

abbrev script_moved_cell_leaves_a_stale_pointer_run : Script
script_moved_cell_leaves_a_stale_pointer_run = script [] ((procedure 1 [] (body ((OfPointer None) ∷ (OfPointer None) ∷ (OfPointer None) ∷
    OfNumber ∷ []) ((on 6 (Statement-F.Alloc (Held (H.Local 0)) (Constant (pos 16)) GivesNull)) ∷ (on 7 (Statement-F.Store (Held (H.Local
    0)) (Constant (pos 0)) (Constant (pos 77)))) ∷ (on 8 (Statement-F.Alloc (Held (H.Local 1)) (Constant (pos 16)) GivesNull)) ∷ (on 9
    (Statement-F.Realloc (Held (H.Local 2)) (Held (H.Local 0)) (Constant (pos 32)) GivesNull)) ∷ (on 10 (Statement-F.Load 3 (Held (H.Local
    2)) (Constant (pos 0)))) ∷ (on 11 (Statement-F.PrintNumber (Variable 3))) ∷ (on 12 (Statement-F.Load 3 (Held (H.Local 0)) (Constant (pos
    0)))) ∷ []))) ∷ []) [] [] 0

moved_cell_leaves_a_stale_pointer_run : run script_moved_cell_leaves_a_stale_pointer_run R.Unlimited 10000 (shaped 4096 4096) ≡ result
    (Panicked (P.Workbench 1)) ((line 1 144 0 Granted) ∷ (line 2 32 144 Granted) ∷ (line 3 32 176 Granted) ∷ (line 4 48 208 Granted) ∷ [])
    ((55 ∷ 55 ∷ []) ∷ []) [] 7
unfolding everything
moved_cell_leaves_a_stale_pointer_run = refl

abbrev script_nested_marks_hand_cells_outward_run : Script
script_nested_marks_hand_cells_outward_run = script [] ((procedure 1 [] (body ((OfPointer None) ∷ (OfPointer None) ∷ []) ((on 4
    Statement-F.Mark) ∷ (on 5 Statement-F.Mark) ∷ (on 6 (Statement-F.Alloc (Held (H.Local 0)) (Constant (pos 1)) GivesNull)) ∷ (on 7
    (Statement-F.MarkEnd (Constant (pos 1)))) ∷ (on 8 (Statement-F.Check (Constant (pos 1)))) ∷ (on 9 (Statement-F.Alloc (Held (H.Local 1))
    (Constant (pos 1)) GivesNull)) ∷ (on 10 (Statement-F.MarkEnd (Constant (pos 2)))) ∷ (on 11 (Statement-F.Check (Constant (pos 2)))) ∷
    []))) ∷ []) [] [] 0

nested_marks_hand_cells_outward_run : run script_nested_marks_hand_cells_outward_run R.Unlimited 10000 (shaped 4096 4096) ≡ result (Ended
    None ((leak 2 32 144) ∷ (leak 3 32 176) ∷ [])) ((line 1 144 0 Granted) ∷ (line 2 32 144 Granted) ∷ (line 3 32 176 Granted) ∷ []) [] [] 8
unfolding everything
nested_marks_hand_cells_outward_run = refl

abbrev script_refused_top_cell_stays_and_leaks_run : Script
script_refused_top_cell_stays_and_leaks_run = script [] ((procedure 1 [] (body ((OfPointer None) ∷ (OfPointer None) ∷ (OfPointer None) ∷ [])
    ((on 5 (Statement-F.Alloc (Held (H.Local 0)) (Constant (pos 48)) GivesNull)) ∷ (on 6 (Statement-F.Alloc (Held (H.Local 1)) (Constant
    (pos 16)) GivesNull)) ∷ (on 7 (Statement-F.Free (Held (H.Local 0)))) ∷ (on 8 (Statement-F.Realloc (Held (H.Local 2)) (Held (H.Local 1))
    (Constant (pos 48)) GivesNull)) ∷ (on 9 (Statement-F.Free (Held (H.Local 2)))) ∷ []))) ∷ []) [] [] 0

refused_top_cell_stays_and_leaks_run : run script_refused_top_cell_stays_and_leaks_run (R.Limit 256) 10000 (shaped 4096 4096) ≡ result
    (Ended None ((leak 3 32 208) ∷ [])) ((line 1 144 0 Granted) ∷ (line 2 64 144 Granted) ∷ (line 3 32 208 Granted) ∷ (line 4 64 208
    Refused) ∷ []) [] [] 5
unfolding everything
refused_top_cell_stays_and_leaks_run = refl

abbrev script_second_attempt_fails_run : Script
script_second_attempt_fails_run = script [] ((procedure 1 [] (body ((OfPointer None) ∷ (OfPointer None) ∷ (OfPointer None) ∷ []) ((on 5
    (Statement-F.Alloc (Held (H.Local 0)) (Constant (pos 10)) GivesNull)) ∷ (on 6 (Statement-F.Alloc (Held (H.Local 1)) (Constant (pos 100))
    GivesNull)) ∷ (on 7 (Statement-F.Free (Held (H.Local 0)))) ∷ (on 8 (Statement-F.Alloc (Held (H.Local 2)) (Constant (pos 16)) GivesNull))
    ∷ (on 9 (Statement-F.Free (Held (H.Local 1)))) ∷ (on 10 (Statement-F.Free (Held (H.Local 2)))) ∷ []))) ∷ []) [] [] 0

second_attempt_fails_run : run script_second_attempt_fails_run (R.Number 2) 10000 (shaped 4096 4096) ≡ result (Ended None []) ((line 1 144 0
    Granted) ∷ (line 2 32 144 Simulated) ∷ (line 3 128 144 Granted) ∷ (line 4 32 272 Granted) ∷ []) [] [] 6
unfolding everything
second_attempt_fails_run = refl
