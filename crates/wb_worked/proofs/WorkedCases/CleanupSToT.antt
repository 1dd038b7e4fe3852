-- Worked cases of `cleanup`, each by computing. Written by tools/cases_to_theorems.py; edit nothing here.
use Rattle.std.specs.Prelude.{◌≡◌, refl, pos, [], ◌∷◌, None}
use Rattle.wb_heap_model.specs.declared.heap.Rule.TheVariants as R
use Rattle.wb_heap_model.specs.declared.heap.Panic.TheVariants as P
use Rattle.wb_tree.specs.declared.script.Holder.TheVariants as H
use Rattle.wb_heap_model.specs.declared.heap.Answer.TheVariants.{Granted, Simulated}
use Rattle.wb_heap_model.specs.declared.reported.Note.TheVariants.{Heap, Available, Compress}
use Rattle.wb_meaning.specs.declared.run.Outcome.TheVariants.{Ended, Panicked}
use Rattle.wb_tree.specs.declared.script.Script.{Script}
use Rattle.wb_tree.specs.declared.script.Local.TheVariants.{OfPointer, OfNumber}
use Rattle.wb_tree.specs.declared.script.Pointer.TheVariants.{Held}
use Rattle.wb_tree.specs.declared.script.Number.TheVariants.{Constant, Variable}
use Rattle.wb_tree.specs.declared.script.Refusal.TheVariants.{GivesNull, Leaves}
use Rattle.wb_tree.specs.declared.script.Statement.TheOpen.{Statement-F}
use Rattle.wb_meaning.specs.Run.{run}
use Rattle.wb_worked.specs.Shorthands.{everything, on, script, procedure, body, result, shaped, line}

abbrev script_stack_grows_at_its_place_four_times_run : Script
script_stack_grows_at_its_place_four_times_run = script [] ((procedure 1 [] (body ((OfPointer None) ∷ []) ((on 3 (Statement-F.Repeat
    (Constant (pos 20)) ((on 4 (Statement-F.Push (Held (H.Local 0)))) ∷ []))) ∷ (on 6 Statement-F.NoteHeap) ∷ (on 7
    Statement-F.NoteAvailable) ∷ (on 8 (Statement-F.Pop (Constant (pos 20)))) ∷ (on 9 Statement-F.NoteCompress) ∷ []))) ∷ []) [] [] 0

stack_grows_at_its_place_four_times_run : run script_stack_grows_at_its_place_four_times_run R.Unlimited 10000 (shaped 0 16) ≡ result (Ended
    None []) ((line 1 144 0 Granted) ∷ (line 2 208 0 Granted) ∷ (line 3 272 0 Granted) ∷ (line 4 336 0 Granted) ∷ (line 5 400 0 Granted) ∷
    []) [] ((Heap 1 400 400) ∷ (Available 0 0) ∷ (Compress 0) ∷ []) 45
unfolding everything
stack_grows_at_its_place_four_times_run = refl

abbrev script_stack_grows_into_the_hole_behind_it_run : Script
script_stack_grows_into_the_hole_behind_it_run = script [] ((procedure 1 [] (body ((OfPointer None) ∷ (OfPointer None) ∷ (OfPointer None) ∷
    []) ((on 5 (Statement-F.Alloc (Held (H.Local 0)) (Constant (pos 300)) GivesNull)) ∷ (on 6 (Statement-F.Alloc (Held (H.Local 1))
    (Constant (pos 16)) GivesNull)) ∷ (on 7 (Statement-F.Free (Held (H.Local 0)))) ∷ (on 8 (Statement-F.Repeat (Constant (pos 12)) ((on 9
    (Statement-F.Push (Held (H.Local 2)))) ∷ []))) ∷ (on 11 (Statement-F.Alloc (Held (H.Local 0)) (Constant (pos 16)) GivesNull)) ∷ (on 12
    (Statement-F.Pop (Constant (pos 12)))) ∷ (on 13 (Statement-F.Free (Held (H.Local 0)))) ∷ (on 14 (Statement-F.Free (Held (H.Local 1)))) ∷
    []))) ∷ []) [] [] 0

stack_grows_into_the_hole_behind_it_run : run script_stack_grows_into_the_hole_behind_it_run R.Unlimited 10000 (shaped 4096 4096) ≡ result
    (Ended None []) ((line 1 144 0 Granted) ∷ (line 2 320 144 Granted) ∷ (line 3 32 464 Granted) ∷ (line 4 208 0 Granted) ∷ (line 5 272 0
    Granted) ∷ (line 6 32 272 Granted) ∷ []) [] [] 32
unfolding everything
stack_grows_into_the_hole_behind_it_run = refl

abbrev script_stack_grows_with_its_notes_run : Script
script_stack_grows_with_its_notes_run = script [] ((procedure 1 [] (body ((OfPointer None) ∷ []) ((on 3 Statement-F.NoteHeap) ∷ (on 4
    (Statement-F.Repeat (Constant (pos 7)) ((on 5 (Statement-F.Push (Held (H.Local 0)))) ∷ []))) ∷ (on 7 Statement-F.NoteHeap) ∷ (on 8
    (Statement-F.Push (Held (H.Local 0)))) ∷ (on 9 Statement-F.NoteHeap) ∷ (on 10 (Statement-F.Repeat (Constant (pos 3)) ((on 11
    (Statement-F.Push (Held (H.Local 0)))) ∷ []))) ∷ (on 13 Statement-F.NoteHeap) ∷ (on 14 (Statement-F.Push (Held (H.Local 0)))) ∷ (on 15
    Statement-F.NoteHeap) ∷ (on 16 (Statement-F.Pop (Constant (pos 12)))) ∷ (on 17 Statement-F.NoteHeap) ∷ []))) ∷ []) [] [] 0

stack_grows_with_its_notes_run : run script_stack_grows_with_its_notes_run R.Unlimited 10000 (shaped 0 16) ≡ result (Ended None []) ((line 1
    144 0 Granted) ∷ (line 2 208 0 Granted) ∷ (line 3 272 0 Granted) ∷ []) [] ((Heap 1 144 144) ∷ (Heap 1 144 144) ∷ (Heap 1 208 208) ∷
    (Heap 1 208 208) ∷ (Heap 1 272 272) ∷ (Heap 1 272 272) ∷ []) 31
unfolding everything
stack_grows_with_its_notes_run = refl

abbrev script_stack_moves_behind_a_live_cell_run : Script
script_stack_moves_behind_a_live_cell_run = script [] ((procedure 1 [] (body ((OfPointer None) ∷ (OfPointer None) ∷ (OfPointer None) ∷ [])
    ((on 5 (Statement-F.Alloc (Held (H.Local 0)) (Constant (pos 16)) GivesNull)) ∷ (on 6 (Statement-F.Repeat (Constant (pos 8)) ((on 7
    (Statement-F.Push (Held (H.Local 2)))) ∷ []))) ∷ (on 9 Statement-F.NoteHeap) ∷ (on 10 Statement-F.NoteAvailable) ∷ (on 11
    (Statement-F.Alloc (Held (H.Local 1)) (Constant (pos 112)) GivesNull)) ∷ (on 12 (Statement-F.Repeat (Constant (pos 4)) ((on 13
    (Statement-F.Push (Held (H.Local 2)))) ∷ []))) ∷ (on 15 Statement-F.NoteHeap) ∷ (on 16 Statement-F.NoteAvailable) ∷ (on 17
    (Statement-F.Pop (Constant (pos 12)))) ∷ (on 18 (Statement-F.Free (Held (H.Local 0)))) ∷ (on 19 (Statement-F.Free (Held (H.Local 1)))) ∷
    []))) ∷ []) [] [] 0

stack_moves_behind_a_live_cell_run : run script_stack_moves_behind_a_live_cell_run R.Unlimited 10000 (shaped 0 16) ≡ result (Ended None [])
    ((line 1 144 0 Granted) ∷ (line 2 32 144 Granted) ∷ (line 3 208 176 Granted) ∷ (line 4 128 0 Granted) ∷ (line 5 272 176 Granted) ∷ [])
    [] ((Heap 2 240 384) ∷ (Available 144 144) ∷ (Heap 3 432 448) ∷ (Available 16 16) ∷ []) 35
unfolding everything
stack_moves_behind_a_live_cell_run = refl

abbrev script_stack_moves_down_again_run : Script
script_stack_moves_down_again_run = script [] ((procedure 1 [] (body ((OfPointer None) ∷ (OfPointer None) ∷ (OfPointer None) ∷ []) ((on 5
    (Statement-F.Alloc (Held (H.Local 0)) (Constant (pos 200)) GivesNull)) ∷ (on 6 (Statement-F.Repeat (Constant (pos 8)) ((on 7
    (Statement-F.Push (Held (H.Local 2)))) ∷ []))) ∷ (on 9 (Statement-F.Alloc (Held (H.Local 1)) (Constant (pos 144)) GivesNull)) ∷ (on 10
    (Statement-F.Free (Held (H.Local 0)))) ∷ (on 11 (Statement-F.Repeat (Constant (pos 4)) ((on 12 (Statement-F.Push (Held (H.Local 2)))) ∷
    []))) ∷ (on 14 (Statement-F.Pop (Constant (pos 12)))) ∷ (on 15 (Statement-F.Free (Held (H.Local 1)))) ∷ []))) ∷ []) [] [] 0

stack_moves_down_again_run : run script_stack_moves_down_again_run R.Unlimited 10000 (shaped 4096 4096) ≡ result (Ended None []) ((line 1
    144 0 Granted) ∷ (line 2 224 144 Granted) ∷ (line 3 208 368 Granted) ∷ (line 4 160 576 Granted) ∷ (line 5 272 0 Granted) ∷ []) [] [] 31
unfolding everything
stack_moves_down_again_run = refl

abbrev script_stack_that_moved_is_not_counted_in_a_mark_run : Script
script_stack_that_moved_is_not_counted_in_a_mark_run = script [] ((procedure 1 [] (body ((OfPointer None) ∷ (OfPointer None) ∷ []) ((on 4
    Statement-F.Mark) ∷ (on 5 (Statement-F.Alloc (Held (H.Local 0)) (Constant (pos 16)) GivesNull)) ∷ (on 6 (Statement-F.Repeat (Constant
    (pos 8)) ((on 7 (Statement-F.Push (Held (H.Local 1)))) ∷ []))) ∷ (on 9 (Statement-F.Check (Constant (pos 1)))) ∷ (on 10
    (Statement-F.CheckAll (Constant (pos 1)))) ∷ (on 11 (Statement-F.Pop (Constant (pos 8)))) ∷ (on 12 (Statement-F.Free (Held (H.Local
    0)))) ∷ (on 13 (Statement-F.MarkEnd (Constant (pos 0)))) ∷ []))) ∷ []) [] [] 0

stack_that_moved_is_not_counted_in_a_mark_run : run script_stack_that_moved_is_not_counted_in_a_mark_run R.Unlimited 10000 (shaped 4096
    4096) ≡ result (Ended None []) ((line 1 144 0 Granted) ∷ (line 2 32 144 Granted) ∷ (line 3 208 176 Granted) ∷ []) [] [] 24
unfolding everything
stack_that_moved_is_not_counted_in_a_mark_run = refl

abbrev script_stale_item_below_is_destroyed_second_run : Script
script_stale_item_below_is_destroyed_second_run = script [] ((procedure 1 [] (body ((OfPointer None) ∷ (OfPointer None) ∷ []) ((on 4
    (Statement-F.Alloc (Held (H.Local 0)) (Constant (pos 16)) GivesNull)) ∷ (on 5 (Statement-F.Alloc (Held (H.Local 1)) (Constant (pos 32))
    GivesNull)) ∷ (on 6 (Statement-F.Push (Held (H.Local 0)))) ∷ (on 7 (Statement-F.Push (Held (H.Local 1)))) ∷ (on 8 (Statement-F.Free
    (Held (H.Local 0)))) ∷ (on 9 (Statement-F.PopDestroy (Constant (pos 2)))) ∷ []))) ∷ []) [] [] 0

stale_item_below_is_destroyed_second_run : run script_stale_item_below_is_destroyed_second_run R.Unlimited 10000 (shaped 4096 4096) ≡ result
    (Panicked (P.User 42)) ((line 1 144 0 Granted) ∷ (line 2 32 144 Granted) ∷ (line 3 48 176 Granted) ∷ []) [] [] 8
unfolding everything
stale_item_below_is_destroyed_second_run = refl

abbrev script_stale_item_on_top_is_destroyed_first_run : Script
script_stale_item_on_top_is_destroyed_first_run = script [] ((procedure 1 [] (body ((OfPointer None) ∷ (OfPointer None) ∷ []) ((on 4
    (Statement-F.Alloc (Held (H.Local 0)) (Constant (pos 16)) GivesNull)) ∷ (on 5 (Statement-F.Alloc (Held (H.Local 1)) (Constant (pos 32))
    GivesNull)) ∷ (on 6 (Statement-F.Push (Held (H.Local 1)))) ∷ (on 7 (Statement-F.Push (Held (H.Local 0)))) ∷ (on 8 (Statement-F.Free
    (Held (H.Local 0)))) ∷ (on 9 (Statement-F.PopDestroy (Constant (pos 2)))) ∷ []))) ∷ []) [] [] 0

stale_item_on_top_is_destroyed_first_run : run script_stale_item_on_top_is_destroyed_first_run R.Unlimited 10000 (shaped 4096 4096) ≡ result
    (Panicked (P.User 42)) ((line 1 144 0 Granted) ∷ (line 2 32 144 Granted) ∷ (line 3 48 176 Granted) ∷ []) [] [] 7
unfolding everything
stale_item_on_top_is_destroyed_first_run = refl

abbrev script_too_many_items_to_destroy_destroys_none_run : Script
script_too_many_items_to_destroy_destroys_none_run = script [] ((procedure 1 [] (body ((OfPointer None) ∷ (OfPointer None) ∷ OfNumber ∷ [])
    ((on 5 (Statement-F.Alloc (Held (H.Local 0)) (Constant (pos 16)) Leaves)) ∷ (on 6 (Statement-F.Push (Held (H.Local 0)))) ∷ (on 7
    (Statement-F.Trap 2 ((on 8 (Statement-F.Alloc (Held (H.Local 1)) (Constant (pos 16)) Leaves)) ∷ (on 9 (Statement-F.Push (Held (H.Local
    1)))) ∷ (on 10 (Statement-F.PopDestroy (Constant (pos 2)))) ∷ []))) ∷ []))) ∷ []) [] [] 0

too_many_items_to_destroy_destroys_none_run : run script_too_many_items_to_destroy_destroys_none_run R.Unlimited 10000 (shaped 4096 4096) ≡
    result (Panicked (P.Workbench 3)) ((line 1 144 0 Granted) ∷ (line 2 32 144 Granted) ∷ (line 3 32 176 Granted) ∷ []) [] [] 6
unfolding everything
too_many_items_to_destroy_destroys_none_run = refl

abbrev script_trap_that_is_repeated_begins_with_its_own_items_run : Script
script_trap_that_is_repeated_begins_with_its_own_items_run = script [] ((procedure 1 [] (body ((OfPointer None) ∷ OfNumber ∷ []) ((on 4
    (Statement-F.Repeat (Constant (pos 3)) ((on 5 (Statement-F.Trap 1 ((on 6 (Statement-F.Alloc (Held (H.Local 0)) (Constant (pos 16))
    Leaves)) ∷ (on 7 (Statement-F.Push (Held (H.Local 0)))) ∷ (on 8 (Statement-F.Leave (Constant (pos 6)))) ∷ []))) ∷ []))) ∷ (on 11
    (Statement-F.PrintNumber (Variable 1))) ∷ []))) ∷ []) [] [] 0

trap_that_is_repeated_begins_with_its_own_items_run : run script_trap_that_is_repeated_begins_with_its_own_items_run R.Unlimited 10000
    (shaped 4096 4096) ≡ result (Ended None []) ((line 1 144 0 Granted) ∷ (line 2 32 144 Granted) ∷ (line 3 32 144 Granted) ∷ (line 4 32 144
    Granted) ∷ []) ((54 ∷ []) ∷ []) [] 20
unfolding everything
trap_that_is_repeated_begins_with_its_own_items_run = refl

abbrev script_twelfth_push_is_refused_run : Script
script_twelfth_push_is_refused_run = script [] ((procedure 1 [] (body ((OfPointer None) ∷ OfNumber ∷ []) ((on 4 (Statement-F.Trap 1 ((on 5
    (Statement-F.Repeat (Constant (pos 12)) ((on 6 (Statement-F.Push (Held (H.Local 0)))) ∷ []))) ∷ (on 8 (Statement-F.Pop (Constant (pos
    12)))) ∷ []))) ∷ (on 10 (Statement-F.PrintNumber (Variable 1))) ∷ (on 11 Statement-F.NoteHeap) ∷ []))) ∷ []) [] [] 0

twelfth_push_is_refused_run : run script_twelfth_push_is_refused_run (R.Number 3) 10000 (shaped 4096 4096) ≡ result (Ended None []) ((line 1
    144 0 Granted) ∷ (line 2 208 0 Granted) ∷ (line 3 272 0 Simulated) ∷ []) ((45 ∷ 52 ∷ []) ∷ []) ((Heap 1 208 4096) ∷ []) 40
unfolding everything
twelfth_push_is_refused_run = refl
