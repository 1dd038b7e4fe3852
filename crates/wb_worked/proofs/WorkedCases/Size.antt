-- Worked cases of `size`, each by computing. Written by tools/cases_to_theorems.py; edit nothing here.
use Rattle.std.specs.Prelude.{◌≡◌, refl, pos, [], ◌∷◌, Some, None}
use Rattle.wb_heap_model.specs.declared.heap.Rule.TheVariants as R
use Rattle.wb_tree.specs.declared.script.Holder.TheVariants as H
use Rattle.wb_meaning.specs.declared.run.Why.TheVariants.{Budget, Ceiling}
use Rattle.wb_meaning.specs.declared.run.Outcome.TheVariants.{Cut}
use Rattle.wb_tree.specs.declared.script.Script.{Script}
use Rattle.wb_tree.specs.declared.script.Parameter.TheVariants as Par
use Rattle.wb_tree.specs.declared.script.Local.TheVariants.{OfPointer, OfNumber}
use Rattle.wb_tree.specs.declared.script.Pointer.TheVariants.{Held, Field}
use Rattle.wb_tree.specs.declared.script.Number.TheVariants.{Constant, Variable}
use Rattle.wb_tree.specs.declared.script.Writable.TheVariants.{InCell}
use Rattle.wb_tree.specs.declared.script.Readable.TheVariants.{Of, Quoted}
use Rattle.wb_tree.specs.declared.script.Condition.TheVariants.{IsNull}
use Rattle.wb_tree.specs.declared.script.Argument.TheVariants.{Given}
use Rattle.wb_tree.specs.declared.script.Refusal.TheVariants.{GivesNull, Leaves}
use Rattle.wb_tree.specs.declared.script.Statement.TheOpen.{Statement-F}
use Rattle.wb_meaning.specs.Run.{run, required, rises}
use Rattle.wb_worked.specs.Shorthands.{everything, on, script, class_of, procedure, body, shaped, rise}

abbrev script_cell_for_zero_bytes_size : Script
script_cell_for_zero_bytes_size = script [] ((procedure 1 [] (body ((OfPointer None) ∷ OfNumber ∷ []) ((on 4 (Statement-F.Alloc (Held
    (H.Local 0)) (Constant (pos 0)) GivesNull)) ∷ (on 5 (Statement-F.AllocLen 1 (Held (H.Local 0)))) ∷ (on 6 (Statement-F.PrintNumber
    (Variable 1))) ∷ (on 7 (Statement-F.Free (Held (H.Local 0)))) ∷ []))) ∷ []) [] [] 0

cell_for_zero_bytes_size : (required script_cell_for_zero_bytes_size 10000 (shaped 4096 4096) ≡ 160) × (rises
    script_cell_for_zero_bytes_size 10000 (shaped 4096 4096) ≡ (rise 1 144) ∷ (rise 2 160) ∷ [])
unfolding everything
cell_for_zero_bytes_size = (refl, refl)

abbrev script_eighth_push_grows_the_cleanup_cell_size : Script
script_eighth_push_grows_the_cleanup_cell_size = script [] ((procedure 1 [] (body ((OfPointer None) ∷ []) ((on 3 (Statement-F.Repeat
    (Constant (pos 8)) ((on 4 (Statement-F.Alloc (Held (H.Local 0)) (Constant (pos 16)) Leaves)) ∷ (on 5 (Statement-F.Push (Held (H.Local
    0)))) ∷ []))) ∷ (on 7 (Statement-F.PopDestroy (Constant (pos 8)))) ∷ []))) ∷ []) [] [] 0

eighth_push_grows_the_cleanup_cell_size : (required script_eighth_push_grows_the_cleanup_cell_size 10000 (shaped 4096 4096) ≡ 608) × (rises
    script_eighth_push_grows_the_cleanup_cell_size 10000 (shaped 4096 4096) ≡ (rise 1 144) ∷ (rise 2 176) ∷ (rise 3 208) ∷ (rise 4 240) ∷
    (rise 5 272) ∷ (rise 6 304) ∷ (rise 7 336) ∷ (rise 8 368) ∷ (rise 9 400) ∷ (rise 10 608) ∷ [])
unfolding everything
eighth_push_grows_the_cleanup_cell_size = (refl, refl)

abbrev script_empty_main_size : Script
script_empty_main_size = script [] ((procedure 1 [] (body [] [])) ∷ []) [] [] 0

empty_main_size : (required script_empty_main_size 10000 (shaped 4096 4096) ≡ 144) × (rises script_empty_main_size 10000 (shaped 4096 4096)
    ≡ (rise 1 144) ∷ [])
unfolding everything
empty_main_size = (refl, refl)

abbrev script_first_fit_reuses_hole_size : Script
script_first_fit_reuses_hole_size = script [] ((procedure 1 [] (body ((OfPointer None) ∷ (OfPointer None) ∷ (OfPointer None) ∷ []) ((on 5
    (Statement-F.Alloc (Held (H.Local 0)) (Constant (pos 10)) GivesNull)) ∷ (on 6 (Statement-F.Alloc (Held (H.Local 1)) (Constant (pos 100))
    GivesNull)) ∷ (on 7 (Statement-F.Free (Held (H.Local 0)))) ∷ (on 8 (Statement-F.Alloc (Held (H.Local 2)) (Constant (pos 16)) GivesNull))
    ∷ (on 9 (Statement-F.Free (Held (H.Local 1)))) ∷ (on 10 (Statement-F.Free (Held (H.Local 2)))) ∷ []))) ∷ []) [] [] 0

first_fit_reuses_hole_size : (required script_first_fit_reuses_hole_size 10000 (shaped 4096 4096) ≡ 304) × (rises
    script_first_fit_reuses_hole_size 10000 (shaped 4096 4096) ≡ (rise 1 144) ∷ (rise 2 176) ∷ (rise 3 304) ∷ [])
unfolding everything
first_fit_reuses_hole_size = (refl, refl)

abbrev script_freed_neighbours_merge_size : Script
script_freed_neighbours_merge_size = script [] ((procedure 1 [] (body ((OfPointer None) ∷ (OfPointer None) ∷ (OfPointer None) ∷ (OfPointer
    None) ∷ (OfPointer None) ∷ []) ((on 7 (Statement-F.Alloc (Held (H.Local 0)) (Constant (pos 16)) GivesNull)) ∷ (on 8 (Statement-F.Alloc
    (Held (H.Local 1)) (Constant (pos 16)) GivesNull)) ∷ (on 9 (Statement-F.Alloc (Held (H.Local 2)) (Constant (pos 16)) GivesNull)) ∷ (on
    10 (Statement-F.Alloc (Held (H.Local 3)) (Constant (pos 16)) GivesNull)) ∷ (on 11 (Statement-F.Free (Held (H.Local 1)))) ∷ (on 12
    (Statement-F.Free (Held (H.Local 0)))) ∷ (on 13 (Statement-F.Free (Held (H.Local 2)))) ∷ (on 14 (Statement-F.Alloc (Held (H.Local 4))
    (Constant (pos 80)) GivesNull)) ∷ (on 15 (Statement-F.Free (Held (H.Local 3)))) ∷ (on 16 (Statement-F.Free (Held (H.Local 4)))) ∷ [])))
    ∷ []) [] [] 0

freed_neighbours_merge_size : (required script_freed_neighbours_merge_size 10000 (shaped 4096 4096) ≡ 272) × (rises
    script_freed_neighbours_merge_size 10000 (shaped 4096 4096) ≡ (rise 1 144) ∷ (rise 2 176) ∷ (rise 3 208) ∷ (rise 4 240) ∷ (rise 5 272) ∷
    [])
unfolding everything
freed_neighbours_merge_size = (refl, refl)

abbrev script_items_that_are_destroyed_leave_their_room_size : Script
script_items_that_are_destroyed_leave_their_room_size = script [] ((procedure 1 [] (body ((OfPointer None) ∷ []) ((on 3 (Statement-F.Repeat
    (Constant (pos 8)) ((on 4 (Statement-F.Alloc (Held (H.Local 0)) (Constant (pos 100)) Leaves)) ∷ (on 5 (Statement-F.Push (Held (H.Local
    0)))) ∷ (on 6 (Statement-F.PopDestroy (Constant (pos 1)))) ∷ []))) ∷ (on 8 (Statement-F.Alloc (Held (H.Local 0)) (Constant (pos 16))
    Leaves)) ∷ (on 9 (Statement-F.Push (Held (H.Local 0)))) ∷ (on 10 (Statement-F.Alloc (Held (H.Local 0)) (Constant (pos 16)) Leaves)) ∷
    (on 11 (Statement-F.Push (Held (H.Local 0)))) ∷ (on 12 (Statement-F.PopDestroy (Constant (pos 2)))) ∷ []))) ∷ []) [] [] 0

items_that_are_destroyed_leave_their_room_size : (required script_items_that_are_destroyed_leave_their_room_size 10000 (shaped 4096 4096) ≡
    272) × (rises script_items_that_are_destroyed_leave_their_room_size 10000 (shaped 4096 4096) ≡ (rise 1 144) ∷ (rise 2 272) ∷ [])
unfolding everything
items_that_are_destroyed_leave_their_room_size = (refl, refl)

abbrev script_last_cell_ends_at_the_ceiling_size : Script
script_last_cell_ends_at_the_ceiling_size = script [] ((procedure 1 [] (body ((OfPointer None) ∷ []) ((on 3 (Statement-F.Repeat (Constant
    (pos 15)) ((on 4 (Statement-F.Alloc (Held (H.Local 0)) (Constant (pos 1048560)) GivesNull)) ∷ []))) ∷ (on 6 (Statement-F.Alloc (Held
    (H.Local 0)) (Constant (pos 1048416)) GivesNull)) ∷ []))) ∷ []) [] [] 0

last_cell_ends_at_the_ceiling_size : (required script_last_cell_ends_at_the_ceiling_size 10000 (shaped 4096 4096) ≡ 16777216) × (rises
    script_last_cell_ends_at_the_ceiling_size 10000 (shaped 4096 4096) ≡ (rise 1 144) ∷ (rise 2 1048720) ∷ (rise 3 2097296) ∷ (rise 4
    3145872) ∷ (rise 5 4194448) ∷ (rise 6 5243024) ∷ (rise 7 6291600) ∷ (rise 8 7340176) ∷ (rise 9 8388752) ∷ (rise 10 9437328) ∷ (rise 11
    10485904) ∷ (rise 12 11534480) ∷ (rise 13 12583056) ∷ (rise 14 13631632) ∷ (rise 15 14680208) ∷ (rise 16 15728784) ∷ (rise 17 16777216)
    ∷ [])
unfolding everything
last_cell_ends_at_the_ceiling_size = (refl, refl)

abbrev script_last_cell_passes_the_ceiling_size : Script
script_last_cell_passes_the_ceiling_size = script [] ((procedure 1 [] (body ((OfPointer None) ∷ []) ((on 3 (Statement-F.Repeat (Constant
    (pos 15)) ((on 4 (Statement-F.Alloc (Held (H.Local 0)) (Constant (pos 1048560)) GivesNull)) ∷ []))) ∷ (on 6 (Statement-F.Alloc (Held
    (H.Local 0)) (Constant (pos 1048417)) GivesNull)) ∷ []))) ∷ []) [] [] 0

last_cell_passes_the_ceiling_size : (run script_last_cell_passes_the_ceiling_size R.Unlimited 10000 (shaped 4096 4096)).outcome ≡ Cut
    Ceiling
unfolding everything
last_cell_passes_the_ceiling_size = refl

abbrev script_marks_never_count_the_cleanup_cell_size : Script
script_marks_never_count_the_cleanup_cell_size = script [] ((procedure 1 [] (body ((OfPointer None) ∷ []) ((on 3 Statement-F.Mark) ∷ (on 4
    (Statement-F.Repeat (Constant (pos 8)) ((on 5 (Statement-F.Push (Held (H.Local 0)))) ∷ []))) ∷ (on 7 (Statement-F.Pop (Constant (pos
    8)))) ∷ (on 8 (Statement-F.MarkEnd (Constant (pos 0)))) ∷ []))) ∷ []) [] [] 0

marks_never_count_the_cleanup_cell_size : (required script_marks_never_count_the_cleanup_cell_size 10000 (shaped 4096 4096) ≡ 208) × (rises
    script_marks_never_count_the_cleanup_cell_size 10000 (shaped 4096 4096) ≡ (rise 1 144) ∷ (rise 2 208) ∷ [])
unfolding everything
marks_never_count_the_cleanup_cell_size = (refl, refl)

abbrev script_objects_that_delete_each_other_small_budget_size : Script
script_objects_that_delete_each_other_small_budget_size = script ((class_of 1 0 ((Some 0) ∷ []) None (Some (body [] ((on 4
    (Statement-F.Delete (Field H.This 0 0))) ∷ [])))) ∷ []) ((procedure 7 [] (body ((OfPointer (Some 0)) ∷ (OfPointer (Some 0)) ∷ []) ((on
    10 (Statement-F.New (Held (H.Local 0)) 0 Leaves)) ∷ (on 11 (Statement-F.New (Held (H.Local 1)) 0 Leaves)) ∷ (on 12 (Statement-F.Set
    (Field (H.Local 0) 0 0) (Held (H.Local 1)))) ∷ (on 13 (Statement-F.Set (Field (H.Local 1) 0 0) (Held (H.Local 0)))) ∷ (on 14
    (Statement-F.Delete (Held (H.Local 0)))) ∷ []))) ∷ []) [] [] 0

objects_that_delete_each_other_small_budget_size : (run script_objects_that_delete_each_other_small_budget_size R.Unlimited 20 (shaped 4096
    4096)).outcome ≡ Cut Budget
unfolding everything
objects_that_delete_each_other_small_budget_size = refl

abbrev script_procedure_returns_a_pushed_cell_size : Script
script_procedure_returns_a_pushed_cell_size = script [] ((procedure 1 (Par.OfNumber ∷ []) (body ((OfPointer None) ∷ []) ((on 3
    (Statement-F.Alloc (Held (H.Local 1)) (Variable 0) Leaves)) ∷ (on 4 (Statement-F.Push (Held (H.Local 1)))) ∷ (on 5
    (Statement-F.ReturnPointer (Held (H.Local 1)))) ∷ []))) ∷ (procedure 7 [] (body ((OfPointer None) ∷ []) ((on 9 (Statement-F.CallTo 0 0
    ((Given (Constant (pos 40))) ∷ []))) ∷ (on 10 (Statement-F.PopDestroy (Constant (pos 1)))) ∷ []))) ∷ []) [] [] 1

procedure_returns_a_pushed_cell_size : (required script_procedure_returns_a_pushed_cell_size 10000 (shaped 4096 4096) ≡ 208) × (rises
    script_procedure_returns_a_pushed_cell_size 10000 (shaped 4096 4096) ≡ (rise 1 144) ∷ (rise 2 208) ∷ [])
unfolding everything
procedure_returns_a_pushed_cell_size = (refl, refl)

abbrev script_pushed_object_made_and_deleted_size : Script
script_pushed_object_made_and_deleted_size = script ((class_of 1 16 (None ∷ []) (Some (body [] ((on 4 (Statement-F.NewText (Field H.This 0
    0) (Constant (pos 4)) Leaves)) ∷ []))) (Some (body [] ((on 7 (Statement-F.Free (Field H.This 0 0))) ∷ [])))) ∷ []) ((procedure 10 []
    (body ((OfPointer (Some 0)) ∷ []) ((on 12 (Statement-F.New (Held (H.Local 0)) 0 Leaves)) ∷ (on 13 (Statement-F.PushObject (Held (H.Local
    0)))) ∷ (on 14 (Statement-F.Construct (Held (H.Local 0)))) ∷ (on 15 (Statement-F.Pop (Constant (pos 1)))) ∷ (on 16 (Statement-F.Delete
    (Held (H.Local 0)))) ∷ []))) ∷ []) [] [] 0

pushed_object_made_and_deleted_size : (required script_pushed_object_made_and_deleted_size 10000 (shaped 4096 4096) ≡ 224) × (rises
    script_pushed_object_made_and_deleted_size 10000 (shaped 4096 4096) ≡ (rise 1 144) ∷ (rise 2 192) ∷ (rise 3 224) ∷ [])
unfolding everything
pushed_object_made_and_deleted_size = (refl, refl)

abbrev script_simulated_refusal_needs_no_room_size : Script
script_simulated_refusal_needs_no_room_size = script [] ((procedure 1 [] (body ((OfPointer None) ∷ (OfPointer None) ∷ []) ((on 4
    (Statement-F.NewText (Held (H.Local 0)) (Constant (pos 4)) Leaves)) ∷ (on 5 (Statement-F.Append (InCell (Held (H.Local 0))) (Quoted 0)))
    ∷ (on 6 (Statement-F.FailNext (Constant (pos 1)))) ∷ (on 7 (Statement-F.ReallocText (Held (H.Local 1)) (Held (H.Local 0)) (Constant (pos
    20)))) ∷ (on 8 (Statement-F.PrintText (Of (InCell (Held (H.Local 0)))))) ∷ (on 9 (Statement-F.Free (Held (H.Local 0)))) ∷ []))) ∷ []) []
    ((97 ∷ 98 ∷ 99 ∷ []) ∷ []) 0

simulated_refusal_needs_no_room_size : (required script_simulated_refusal_needs_no_room_size 10000 (shaped 4096 4096) ≡ 176) × (rises
    script_simulated_refusal_needs_no_room_size 10000 (shaped 4096 4096) ≡ (rise 1 144) ∷ (rise 2 176) ∷ [])
unfolding everything
simulated_refusal_needs_no_room_size = (refl, refl)

abbrev script_stack_that_moves_size : Script
script_stack_that_moves_size = script [] ((procedure 1 [] (body ((OfPointer None) ∷ (OfPointer None) ∷ (OfPointer None) ∷ []) ((on 5
    (Statement-F.Alloc (Held (H.Local 0)) (Constant (pos 16)) GivesNull)) ∷ (on 6 (Statement-F.Repeat (Constant (pos 8)) ((on 7
    (Statement-F.Push (Held (H.Local 2)))) ∷ []))) ∷ (on 9 Statement-F.NoteHeap) ∷ (on 10 Statement-F.NoteAvailable) ∷ (on 11
    (Statement-F.Alloc (Held (H.Local 1)) (Constant (pos 112)) GivesNull)) ∷ (on 12 (Statement-F.Repeat (Constant (pos 4)) ((on 13
    (Statement-F.Push (Held (H.Local 2)))) ∷ []))) ∷ (on 15 Statement-F.NoteHeap) ∷ (on 16 Statement-F.NoteAvailable) ∷ (on 17
    (Statement-F.Pop (Constant (pos 12)))) ∷ (on 18 (Statement-F.Free (Held (H.Local 0)))) ∷ (on 19 (Statement-F.Free (Held (H.Local 1)))) ∷
    []))) ∷ []) [] [] 0

stack_that_moves_size : (required script_stack_that_moves_size 10000 (shaped 4096 4096) ≡ 448) × (rises script_stack_that_moves_size 10000
    (shaped 4096 4096) ≡ (rise 1 144) ∷ (rise 2 176) ∷ (rise 3 384) ∷ (rise 5 448) ∷ [])
unfolding everything
stack_that_moves_size = (refl, refl)

abbrev script_top_cell_grows_in_place_size : Script
script_top_cell_grows_in_place_size = script [] ((procedure 1 [] (body ((OfPointer None) ∷ (OfPointer None) ∷ (OfPointer None) ∷ []) ((on 5
    (Statement-F.Alloc (Held (H.Local 0)) (Constant (pos 48)) GivesNull)) ∷ (on 6 (Statement-F.Alloc (Held (H.Local 1)) (Constant (pos 16))
    GivesNull)) ∷ (on 7 (Statement-F.Free (Held (H.Local 0)))) ∷ (on 8 (Statement-F.Realloc (Held (H.Local 2)) (Held (H.Local 1)) (Constant
    (pos 48)) GivesNull)) ∷ (on 9 (Statement-F.IfElse (IsNull (Held (H.Local 2))) ((on 10 (Statement-F.Free (Held (H.Local 1)))) ∷ []) ((on
    12 (Statement-F.Free (Held (H.Local 2)))) ∷ []))) ∷ []))) ∷ []) [] [] 0

top_cell_grows_in_place_size : (required script_top_cell_grows_in_place_size 10000 (shaped 4096 4096) ≡ 272) × (rises
    script_top_cell_grows_in_place_size 10000 (shaped 4096 4096) ≡ (rise 1 144) ∷ (rise 2 208) ∷ (rise 3 240) ∷ (rise 4 272) ∷ [])
unfolding everything
top_cell_grows_in_place_size = (refl, refl)
