-- Worked cases of `classes`, each by computing. Written by tools/cases_to_theorems.py; edit nothing here.
use Rattle.std.specs.Prelude.{◌≡◌, refl, pos, negsuc, [], ◌∷◌, Some, None}
use Rattle.wb_heap_model.specs.declared.heap.Rule.TheVariants as R
use Rattle.wb_heap_model.specs.declared.heap.Panic.TheVariants as P
use Rattle.wb_tree.specs.declared.script.Holder.TheVariants as H
use Rattle.wb_heap_model.specs.declared.heap.Answer.TheVariants.{Granted}
use Rattle.wb_heap_model.specs.declared.reported.Note.TheVariants.{Heap}
use Rattle.wb_meaning.specs.declared.run.Outcome.TheVariants.{Ended, Panicked}
use Rattle.wb_tree.specs.declared.script.Script.{Script}
use Rattle.wb_tree.specs.declared.script.Parameter.TheVariants as Par
use Rattle.wb_tree.specs.declared.script.Local.TheVariants.{OfPointer, OfNumber}
use Rattle.wb_tree.specs.declared.script.Pointer.TheVariants.{Held, Field}
use Rattle.wb_tree.specs.declared.script.Number.TheVariants.{Constant, Variable}
use Rattle.wb_tree.specs.declared.script.Writable.TheVariants.{InCell}
use Rattle.wb_tree.specs.declared.script.Readable.TheVariants.{Of, Quoted}
use Rattle.wb_tree.specs.declared.script.Condition.TheVariants.{IsNull, NotNull}
use Rattle.wb_tree.specs.declared.script.Argument.TheVariants.{Passed, Given}
use Rattle.wb_tree.specs.declared.script.Refusal.TheVariants.{GivesNull, Leaves}
use Rattle.wb_tree.specs.declared.script.Statement.TheOpen.{Statement-F}
use Rattle.wb_meaning.specs.Run.{run}
use Rattle.wb_worked.specs.Shorthands.{everything, on, script, class_of, procedure, body, result, leak, shaped, line}

abbrev script_argument_of_a_parameter_with_a_class_may_be_of_another_run : Script
script_argument_of_a_parameter_with_a_class_may_be_of_another_run = script ((class_of 1 0 [] None None) ∷ (class_of 3 0 (None ∷ []) None
    None) ∷ []) ((procedure 6 ((Par.OfPointer (Some 1)) ∷ []) (body [] ((on 7 (Statement-F.PrintText (Quoted 0))) ∷ (on 8 (Statement-F.Free
    (Field (H.Local 0) 1 0))) ∷ []))) ∷ (procedure 10 [] (body ((OfPointer (Some 0)) ∷ []) ((on 12 (Statement-F.New (Held (H.Local 0)) 0
    Leaves)) ∷ (on 13 (Statement-F.Call 0 ((Passed (Held (H.Local 0))) ∷ []))) ∷ []))) ∷ []) [] ((104 ∷ 101 ∷ 114 ∷ 101 ∷ []) ∷ []) 1

argument_of_a_parameter_with_a_class_may_be_of_another_run : run script_argument_of_a_parameter_with_a_class_may_be_of_another_run
    R.Unlimited 10000 (shaped 4096 4096) ≡ result (Panicked (P.Workbench 2)) ((line 1 144 0 Granted) ∷ (line 2 32 144 Granted) ∷ []) ((104 ∷
    101 ∷ 114 ∷ 101 ∷ []) ∷ []) [] 4
unfolding everything
argument_of_a_parameter_with_a_class_may_be_of_another_run = refl

abbrev script_arguments_with_fields_are_refused_before_the_frame_run : Script
script_arguments_with_fields_are_refused_before_the_frame_run = script ((class_of 1 0 (None ∷ []) None None) ∷ []) ((procedure 4
    ((Par.OfPointer None) ∷ Par.OfNumber ∷ []) (body [] ((on 5 (Statement-F.PrintText (Quoted 0))) ∷ []))) ∷ (procedure 7 [] (body
    ((OfPointer (Some 0)) ∷ []) ((on 9 (Statement-F.Call 0 ((Passed (Field (H.Local 0) 0 0)) ∷ (Given (Constant (pos 3))) ∷ []))) ∷ []))) ∷
    []) [] ((110 ∷ 101 ∷ 118 ∷ 101 ∷ 114 ∷ []) ∷ []) 1

arguments_with_fields_are_refused_before_the_frame_run : run script_arguments_with_fields_are_refused_before_the_frame_run R.Unlimited 10000
    (shaped 4096 4096) ≡ result (Panicked (P.Workbench 1)) ((line 1 144 0 Granted) ∷ []) [] [] 1
unfolding everything
arguments_with_fields_are_refused_before_the_frame_run = refl

abbrev script_condition_on_a_field_of_null_run : Script
script_condition_on_a_field_of_null_run = script ((class_of 1 0 (None ∷ []) None None) ∷ []) ((procedure 4 [] (body ((OfPointer (Some 0)) ∷
    []) ((on 6 (Statement-F.If (NotNull (Field (H.Local 0) 0 0)) [])) ∷ []))) ∷ []) [] [] 0

condition_on_a_field_of_null_run : run script_condition_on_a_field_of_null_run R.Unlimited 10000 (shaped 4096 4096) ≡ result (Panicked
    (P.Workbench 1)) ((line 1 144 0 Granted) ∷ []) [] [] 1
unfolding everything
condition_on_a_field_of_null_run = refl

abbrev script_construct_and_delete_take_steps_without_bodies_run : Script
script_construct_and_delete_take_steps_without_bodies_run = script ((class_of 1 0 [] None None) ∷ []) ((procedure 3 [] (body ((OfPointer
    (Some 0)) ∷ []) ((on 5 (Statement-F.New (Held (H.Local 0)) 0 Leaves)) ∷ (on 6 (Statement-F.Construct (Held (H.Local 0)))) ∷ (on 7
    (Statement-F.Delete (Held (H.Local 0)))) ∷ []))) ∷ []) [] [] 0

construct_and_delete_take_steps_without_bodies_run : run script_construct_and_delete_take_steps_without_bodies_run R.Unlimited 10000 (shaped
    4096 4096) ≡ result (Ended None []) ((line 1 144 0 Granted) ∷ (line 2 32 144 Granted) ∷ []) [] [] 4
unfolding everything
construct_and_delete_take_steps_without_bodies_run = refl

abbrev script_construct_of_another_kind_run : Script
script_construct_of_another_kind_run = script ((class_of 1 0 [] None None) ∷ []) ((procedure 3 [] (body ((OfPointer (Some 0)) ∷ []) ((on 5
    (Statement-F.Alloc (Held (H.Local 0)) (Constant (pos 4)) GivesNull)) ∷ (on 6 (Statement-F.Construct (Held (H.Local 0)))) ∷ []))) ∷ [])
    [] [] 0

construct_of_another_kind_run : run script_construct_of_another_kind_run R.Unlimited 10000 (shaped 4096 4096) ≡ result (Panicked
    (P.Workbench 2)) ((line 1 144 0 Granted) ∷ (line 2 32 144 Granted) ∷ []) [] [] 2
unfolding everything
construct_of_another_kind_run = refl

abbrev script_construct_of_null_run : Script
script_construct_of_null_run = script ((class_of 1 0 [] None None) ∷ []) ((procedure 3 [] (body ((OfPointer (Some 0)) ∷ []) ((on 5
    (Statement-F.Construct (Held (H.Local 0)))) ∷ []))) ∷ []) [] [] 0

construct_of_null_run : run script_construct_of_null_run R.Unlimited 10000 (shaped 4096 4096) ≡ result (Panicked (P.Workbench 1)) ((line 1
    144 0 Granted) ∷ []) [] [] 1
unfolding everything
construct_of_null_run = refl

abbrev script_delete_item_of_a_raw_cell_run : Script
script_delete_item_of_a_raw_cell_run = script [] ((procedure 1 [] (body ((OfPointer None) ∷ []) ((on 3 (Statement-F.Alloc (Held (H.Local 0))
    (Constant (pos 1)) GivesNull)) ∷ (on 4 (Statement-F.PushObject (Held (H.Local 0)))) ∷ (on 5 (Statement-F.PopDestroy (Constant (pos 1))))
    ∷ []))) ∷ []) [] [] 0

delete_item_of_a_raw_cell_run : run script_delete_item_of_a_raw_cell_run R.Unlimited 10000 (shaped 4096 4096) ≡ result (Panicked
    (P.Workbench 2)) ((line 1 144 0 Granted) ∷ (line 2 32 144 Granted) ∷ []) [] [] 5
unfolding everything
delete_item_of_a_raw_cell_run = refl

abbrev script_delete_item_of_an_object_that_is_gone_run : Script
script_delete_item_of_an_object_that_is_gone_run = script ((class_of 1 0 [] None None) ∷ []) ((procedure 3 [] (body ((OfPointer (Some 0)) ∷
    []) ((on 5 (Statement-F.New (Held (H.Local 0)) 0 Leaves)) ∷ (on 6 (Statement-F.PushObject (Held (H.Local 0)))) ∷ (on 7 (Statement-F.Free
    (Held (H.Local 0)))) ∷ (on 8 (Statement-F.PopDestroy (Constant (pos 1)))) ∷ []))) ∷ []) [] [] 0

delete_item_of_an_object_that_is_gone_run : run script_delete_item_of_an_object_that_is_gone_run R.Unlimited 10000 (shaped 4096 4096) ≡
    result (Panicked (P.Workbench 1)) ((line 1 144 0 Granted) ∷ (line 2 32 144 Granted) ∷ []) [] [] 6
unfolding everything
delete_item_of_an_object_that_is_gone_run = refl

abbrev script_delete_of_an_object_that_is_gone_run : Script
script_delete_of_an_object_that_is_gone_run = script ((class_of 1 0 [] None None) ∷ []) ((procedure 3 [] (body ((OfPointer (Some 0)) ∷ [])
    ((on 5 (Statement-F.New (Held (H.Local 0)) 0 Leaves)) ∷ (on 6 (Statement-F.Delete (Held (H.Local 0)))) ∷ (on 7 (Statement-F.Delete (Held
    (H.Local 0)))) ∷ []))) ∷ []) [] [] 0

delete_of_an_object_that_is_gone_run : run script_delete_of_an_object_that_is_gone_run R.Unlimited 10000 (shaped 4096 4096) ≡ result
    (Panicked (P.Workbench 1)) ((line 1 144 0 Granted) ∷ (line 2 32 144 Granted) ∷ []) [] [] 5
unfolding everything
delete_of_an_object_that_is_gone_run = refl

abbrev script_delete_of_another_kind_run : Script
script_delete_of_another_kind_run = script ((class_of 1 0 [] None None) ∷ []) ((procedure 3 [] (body ((OfPointer (Some 0)) ∷ []) ((on 5
    (Statement-F.Alloc (Held (H.Local 0)) (Constant (pos 4)) GivesNull)) ∷ (on 6 (Statement-F.Delete (Held (H.Local 0)))) ∷ []))) ∷ []) []
    [] 0

delete_of_another_kind_run : run script_delete_of_another_kind_run R.Unlimited 10000 (shaped 4096 4096) ≡ result (Panicked (P.Workbench 2))
    ((line 1 144 0 Granted) ∷ (line 2 32 144 Granted) ∷ []) [] [] 3
unfolding everything
delete_of_another_kind_run = refl

abbrev script_delete_of_null_takes_one_step_run : Script
script_delete_of_null_takes_one_step_run = script ((class_of 1 0 [] None (Some (body [] ((on 3 (Statement-F.PrintText (Quoted 0))) ∷ []))))
    ∷ []) ((procedure 6 [] (body ((OfPointer (Some 0)) ∷ []) ((on 8 (Statement-F.Delete (Held (H.Local 0)))) ∷ []))) ∷ []) [] ((110 ∷ 101 ∷
    118 ∷ 101 ∷ 114 ∷ []) ∷ []) 0

delete_of_null_takes_one_step_run : run script_delete_of_null_takes_one_step_run R.Unlimited 10000 (shaped 4096 4096) ≡ result (Ended None
    []) ((line 1 144 0 Granted) ∷ []) [] [] 1
unfolding everything
delete_of_null_takes_one_step_run = refl

abbrev script_destructor_runs_before_the_cell_is_released_run : Script
script_destructor_runs_before_the_cell_is_released_run = script ((class_of 1 0 (None ∷ []) None (Some (body [] ((on 4 Statement-F.NoteHeap)
    ∷ (on 5 (Statement-F.Free (Field H.This 0 0))) ∷ (on 6 Statement-F.NoteHeap) ∷ [])))) ∷ []) ((procedure 9 [] (body ((OfPointer (Some 0))
    ∷ []) ((on 11 (Statement-F.New (Held (H.Local 0)) 0 Leaves)) ∷ (on 12 (Statement-F.Alloc (Field (H.Local 0) 0 0) (Constant (pos 4))
    GivesNull)) ∷ (on 13 (Statement-F.Delete (Held (H.Local 0)))) ∷ (on 14 Statement-F.NoteHeap) ∷ []))) ∷ []) [] [] 0

destructor_runs_before_the_cell_is_released_run : run script_destructor_runs_before_the_cell_is_released_run R.Unlimited 10000 (shaped 4096
    4096) ≡ result (Ended None []) ((line 1 144 0 Granted) ∷ (line 2 32 144 Granted) ∷ (line 3 32 176 Granted) ∷ []) [] ((Heap 3 208 4096) ∷
    (Heap 2 176 4096) ∷ (Heap 1 144 4096) ∷ []) 8
unfolding everything
destructor_runs_before_the_cell_is_released_run = refl

abbrev script_destructor_that_frees_its_own_cell_run : Script
script_destructor_that_frees_its_own_cell_run = script ((class_of 1 0 [] None (Some (body [] ((on 3 (Statement-F.Free (Held H.This))) ∷
    [])))) ∷ []) ((procedure 6 [] (body ((OfPointer (Some 0)) ∷ []) ((on 8 (Statement-F.New (Held (H.Local 0)) 0 Leaves)) ∷ (on 9
    (Statement-F.Delete (Held (H.Local 0)))) ∷ []))) ∷ []) [] [] 0

destructor_that_frees_its_own_cell_run : run script_destructor_that_frees_its_own_cell_run R.Unlimited 10000 (shaped 4096 4096) ≡ result
    (Panicked (P.User 42)) ((line 1 144 0 Granted) ∷ (line 2 32 144 Granted) ∷ []) [] [] 4
unfolding everything
destructor_that_frees_its_own_cell_run = refl

abbrev script_extra_bytes_are_asked_for_run : Script
script_extra_bytes_are_asked_for_run = script ((class_of 1 8 [] None None) ∷ (class_of 3 9 [] None None) ∷ []) ((procedure 5 [] (body
    ((OfPointer (Some 0)) ∷ (OfPointer (Some 1)) ∷ []) ((on 8 (Statement-F.New (Held (H.Local 0)) 0 Leaves)) ∷ (on 9 (Statement-F.New (Held
    (H.Local 1)) 1 Leaves)) ∷ (on 10 (Statement-F.Free (Held (H.Local 0)))) ∷ (on 11 (Statement-F.Free (Held (H.Local 1)))) ∷ []))) ∷ []) []
    [] 0

extra_bytes_are_asked_for_run : run script_extra_bytes_are_asked_for_run R.Unlimited 10000 (shaped 4096 4096) ≡ result (Ended None [])
    ((line 1 144 0 Granted) ∷ (line 2 32 144 Granted) ∷ (line 3 48 176 Granted) ∷ []) [] [] 4
unfolding everything
extra_bytes_are_asked_for_run = refl

abbrev script_field_is_passed_run : Script
script_field_is_passed_run = script ((class_of 1 0 (None ∷ []) None None) ∷ []) ((procedure 4 ((Par.OfPointer None) ∷ []) (body [] ((on 5
    (Statement-F.Store (Held (H.Local 0)) (Constant (pos 0)) (Constant (pos 9)))) ∷ (on 6 (Statement-F.Free (Held (H.Local 0)))) ∷ []))) ∷
    (procedure 8 [] (body ((OfPointer (Some 0)) ∷ []) ((on 10 (Statement-F.New (Held (H.Local 0)) 0 Leaves)) ∷ (on 11 (Statement-F.Alloc
    (Field (H.Local 0) 0 0) (Constant (pos 4)) GivesNull)) ∷ (on 12 (Statement-F.Call 0 ((Passed (Field (H.Local 0) 0 0)) ∷ []))) ∷ (on 13
    (Statement-F.Delete (Held (H.Local 0)))) ∷ []))) ∷ []) [] [] 1

field_is_passed_run : run script_field_is_passed_run R.Unlimited 10000 (shaped 4096 4096) ≡ result (Ended None []) ((line 1 144 0 Granted) ∷
    (line 2 32 144 Granted) ∷ (line 3 32 176 Granted) ∷ []) [] [] 7
unfolding everything
field_is_passed_run = refl

abbrev script_field_is_pushed_and_popped_run : Script
script_field_is_pushed_and_popped_run = script ((class_of 1 0 (None ∷ []) None None) ∷ []) ((procedure 4 [] (body ((OfPointer (Some 0)) ∷
    []) ((on 6 (Statement-F.New (Held (H.Local 0)) 0 Leaves)) ∷ (on 7 (Statement-F.Alloc (Field (H.Local 0) 0 0) (Constant (pos 4)) Leaves))
    ∷ (on 8 (Statement-F.Push (Field (H.Local 0) 0 0))) ∷ (on 9 (Statement-F.PopCheck (Field (H.Local 0) 0 0))) ∷ (on 10
    (Statement-F.LeaveIfNull (Field (H.Local 0) 0 0))) ∷ (on 11 (Statement-F.Free (Field (H.Local 0) 0 0))) ∷ (on 12 (Statement-F.Free (Held
    (H.Local 0)))) ∷ []))) ∷ []) [] [] 0

field_is_pushed_and_popped_run : run script_field_is_pushed_and_popped_run R.Unlimited 10000 (shaped 4096 4096) ≡ result (Ended None [])
    ((line 1 144 0 Granted) ∷ (line 2 32 144 Granted) ∷ (line 3 32 176 Granted) ∷ []) [] [] 7
unfolding everything
field_is_pushed_and_popped_run = refl

abbrev script_field_is_refused_before_a_cell_run : Script
script_field_is_refused_before_a_cell_run = script ((class_of 1 0 (None ∷ []) None None) ∷ []) ((procedure 4 [] (body ((OfPointer (Some 0))
    ∷ (OfPointer None) ∷ []) ((on 7 (Statement-F.Realloc (Field (H.Local 0) 0 0) (Held (H.Local 1)) (Constant (negsuc 0)) GivesNull)) ∷
    []))) ∷ []) [] [] 0

field_is_refused_before_a_cell_run : run script_field_is_refused_before_a_cell_run R.Unlimited 10000 (shaped 4096 4096) ≡ result (Panicked
    (P.Workbench 1)) ((line 1 144 0 Granted) ∷ []) [] [] 1
unfolding everything
field_is_refused_before_a_cell_run = refl

abbrev script_field_is_refused_before_a_range_run : Script
script_field_is_refused_before_a_range_run = script ((class_of 1 0 (None ∷ []) None None) ∷ []) ((procedure 4 [] (body ((OfPointer (Some 0))
    ∷ []) ((on 6 (Statement-F.Alloc (Field (H.Local 0) 0 0) (Constant (negsuc 0)) GivesNull)) ∷ []))) ∷ []) [] [] 0

field_is_refused_before_a_range_run : run script_field_is_refused_before_a_range_run R.Unlimited 10000 (shaped 4096 4096) ≡ result (Panicked
    (P.Workbench 1)) ((line 1 144 0 Granted) ∷ []) [] [] 1
unfolding everything
field_is_refused_before_a_range_run = refl

abbrev script_field_is_returned_run : Script
script_field_is_returned_run = script ((class_of 1 0 (None ∷ []) None None) ∷ []) ((procedure 4 ((Par.OfPointer (Some 0)) ∷ []) (body []
    ((on 5 (Statement-F.ReturnPointer (Field (H.Local 0) 0 0))) ∷ []))) ∷ (procedure 7 [] (body ((OfPointer (Some 0)) ∷ (OfPointer None) ∷
    []) ((on 10 (Statement-F.New (Held (H.Local 0)) 0 Leaves)) ∷ (on 11 (Statement-F.Alloc (Field (H.Local 0) 0 0) (Constant (pos 4))
    Leaves)) ∷ (on 12 (Statement-F.CallTo 1 0 ((Passed (Held (H.Local 0))) ∷ []))) ∷ (on 13 (Statement-F.Free (Held (H.Local 1)))) ∷ (on 14
    (Statement-F.Free (Held (H.Local 0)))) ∷ []))) ∷ []) [] [] 1

field_is_returned_run : run script_field_is_returned_run R.Unlimited 10000 (shaped 4096 4096) ≡ result (Ended None []) ((line 1 144 0
    Granted) ∷ (line 2 32 144 Granted) ∷ (line 3 32 176 Granted) ∷ []) [] [] 6
unfolding everything
field_is_returned_run = refl

abbrev script_field_of_an_object_that_is_gone_run : Script
script_field_of_an_object_that_is_gone_run = script ((class_of 1 0 (None ∷ []) None None) ∷ []) ((procedure 4 [] (body ((OfPointer (Some 0))
    ∷ []) ((on 6 (Statement-F.New (Held (H.Local 0)) 0 Leaves)) ∷ (on 7 (Statement-F.Delete (Held (H.Local 0)))) ∷ (on 8 (Statement-F.If
    (IsNull (Field (H.Local 0) 0 0)) ((on 9 (Statement-F.PrintText (Quoted 0))) ∷ []))) ∷ []))) ∷ []) [] ((110 ∷ 101 ∷ 118 ∷ 101 ∷ 114 ∷ [])
    ∷ []) 0

field_of_an_object_that_is_gone_run : run script_field_of_an_object_that_is_gone_run R.Unlimited 10000 (shaped 4096 4096) ≡ result (Panicked
    (P.Workbench 1)) ((line 1 144 0 Granted) ∷ (line 2 32 144 Granted) ∷ []) [] [] 4
unfolding everything
field_of_an_object_that_is_gone_run = refl

abbrev script_field_of_another_class_run : Script
script_field_of_another_class_run = script ((class_of 1 0 (None ∷ []) None None) ∷ (class_of 4 0 (None ∷ []) None None) ∷ []) ((procedure 7
    [] (body ((OfPointer (Some 0)) ∷ []) ((on 9 (Statement-F.New (Held (H.Local 0)) 1 Leaves)) ∷ (on 10 (Statement-F.SetNull (Field (H.Local
    0) 0 0))) ∷ []))) ∷ []) [] [] 0

field_of_another_class_run : run script_field_of_another_class_run R.Unlimited 10000 (shaped 4096 4096) ≡ result (Panicked (P.Workbench 2))
    ((line 1 144 0 Granted) ∷ (line 2 32 144 Granted) ∷ []) [] [] 2
unfolding everything
field_of_another_class_run = refl

abbrev script_field_of_another_kind_run : Script
script_field_of_another_kind_run = script ((class_of 1 0 (None ∷ []) None None) ∷ []) ((procedure 4 [] (body ((OfPointer (Some 0)) ∷ [])
    ((on 6 (Statement-F.Alloc (Held (H.Local 0)) (Constant (pos 100)) GivesNull)) ∷ (on 7 (Statement-F.SetNull (Field (H.Local 0) 0 0))) ∷
    []))) ∷ []) [] [] 0

field_of_another_kind_run : run script_field_of_another_kind_run R.Unlimited 10000 (shaped 4096 4096) ≡ result (Panicked (P.Workbench 2))
    ((line 1 144 0 Granted) ∷ (line 2 128 144 Granted) ∷ []) [] [] 2
unfolding everything
field_of_another_kind_run = refl

abbrev script_field_of_null_is_returned_run : Script
script_field_of_null_is_returned_run = script ((class_of 1 0 (None ∷ []) None None) ∷ []) ((procedure 4 ((Par.OfPointer (Some 0)) ∷ [])
    (body [] ((on 5 (Statement-F.ReturnPointer (Field (H.Local 0) 0 0))) ∷ []))) ∷ (procedure 7 [] (body ((OfPointer (Some 0)) ∷ (OfPointer
    None) ∷ []) ((on 10 (Statement-F.CallTo 1 0 ((Passed (Held (H.Local 0))) ∷ []))) ∷ []))) ∷ []) [] [] 1

field_of_null_is_returned_run : run script_field_of_null_is_returned_run R.Unlimited 10000 (shaped 4096 4096) ≡ result (Panicked
    (P.Workbench 1)) ((line 1 144 0 Granted) ∷ []) [] [] 2
unfolding everything
field_of_null_is_returned_run = refl

abbrev script_field_of_null_run : Script
script_field_of_null_run = script ((class_of 1 0 (None ∷ []) None None) ∷ []) ((procedure 4 [] (body ((OfPointer (Some 0)) ∷ []) ((on 6
    (Statement-F.Set (Field (H.Local 0) 0 0) (Held (H.Local 0)))) ∷ []))) ∷ []) [] [] 0

field_of_null_run : run script_field_of_null_run R.Unlimited 10000 (shaped 4096 4096) ≡ result (Panicked (P.Workbench 1)) ((line 1 144 0
    Granted) ∷ []) [] [] 1
unfolding everything
field_of_null_run = refl

abbrev script_fields_are_null_at_first_run : Script
script_fields_are_null_at_first_run = script ((class_of 1 0 (None ∷ (Some 0) ∷ []) None None) ∷ []) ((procedure 5 [] (body ((OfPointer (Some
    0)) ∷ []) ((on 7 (Statement-F.New (Held (H.Local 0)) 0 Leaves)) ∷ (on 8 (Statement-F.If (IsNull (Field (H.Local 0) 0 0)) ((on 9
    (Statement-F.PrintText (Quoted 0))) ∷ []))) ∷ (on 11 (Statement-F.If (IsNull (Field (H.Local 0) 0 1)) ((on 12 (Statement-F.PrintText
    (Quoted 1))) ∷ []))) ∷ (on 14 (Statement-F.Free (Held (H.Local 0)))) ∷ []))) ∷ []) [] ((97 ∷ []) ∷ (98 ∷ []) ∷ []) 0

fields_are_null_at_first_run : run script_fields_are_null_at_first_run R.Unlimited 10000 (shaped 4096 4096) ≡ result (Ended None []) ((line
    1 144 0 Granted) ∷ (line 2 48 144 Granted) ∷ []) ((97 ∷ []) ∷ (98 ∷ []) ∷ []) [] 6
unfolding everything
fields_are_null_at_first_run = refl

abbrev script_fields_are_refused_from_left_to_right_run : Script
script_fields_are_refused_from_left_to_right_run = script ((class_of 1 0 (None ∷ []) None None) ∷ []) ((procedure 4 [] (body ((OfPointer
    (Some 0)) ∷ (OfPointer (Some 0)) ∷ []) ((on 7 (Statement-F.Alloc (Held (H.Local 1)) (Constant (pos 4)) GivesNull)) ∷ (on 8
    (Statement-F.Set (Field (H.Local 0) 0 0) (Field (H.Local 1) 0 0))) ∷ []))) ∷ []) [] [] 0

fields_are_refused_from_left_to_right_run : run script_fields_are_refused_from_left_to_right_run R.Unlimited 10000 (shaped 4096 4096) ≡
    result (Panicked (P.Workbench 1)) ((line 1 144 0 Granted) ∷ (line 2 32 144 Granted) ∷ []) [] [] 2
unfolding everything
fields_are_refused_from_left_to_right_run = refl

abbrev script_free_runs_no_destructor_run : Script
script_free_runs_no_destructor_run = script ((class_of 1 0 (None ∷ []) None (Some (body [] ((on 4 (Statement-F.Free (Field H.This 0 0))) ∷
    [])))) ∷ []) ((procedure 7 [] (body ((OfPointer (Some 0)) ∷ []) ((on 9 (Statement-F.New (Held (H.Local 0)) 0 Leaves)) ∷ (on 10
    (Statement-F.Alloc (Field (H.Local 0) 0 0) (Constant (pos 4)) GivesNull)) ∷ (on 11 (Statement-F.Free (Held (H.Local 0)))) ∷ []))) ∷ [])
    [] [] 0

free_runs_no_destructor_run : run script_free_runs_no_destructor_run R.Unlimited 10000 (shaped 4096 4096) ≡ result (Ended None ((leak 3 32
    176) ∷ [])) ((line 1 144 0 Granted) ∷ (line 2 32 144 Granted) ∷ (line 3 32 176 Granted) ∷ []) [] [] 3
unfolding everything
free_runs_no_destructor_run = refl

abbrev script_hbuf_in_a_field_is_reallocated_run : Script
script_hbuf_in_a_field_is_reallocated_run = script ((class_of 1 0 (None ∷ []) None None) ∷ []) ((procedure 4 [] (body ((OfPointer (Some 0))
    ∷ []) ((on 6 (Statement-F.New (Held (H.Local 0)) 0 Leaves)) ∷ (on 7 (Statement-F.NewText (Field (H.Local 0) 0 0) (Constant (pos 4))
    Leaves)) ∷ (on 8 (Statement-F.Copy (InCell (Field (H.Local 0) 0 0)) (Quoted 0))) ∷ (on 9 (Statement-F.ReallocText (Field (H.Local 0) 0
    0) (Field (H.Local 0) 0 0) (Constant (pos 20)))) ∷ (on 10 (Statement-F.Append (InCell (Field (H.Local 0) 0 0)) (Quoted 1))) ∷ (on 11
    (Statement-F.PrintText (Of (InCell (Field (H.Local 0) 0 0))))) ∷ (on 12 (Statement-F.Free (Field (H.Local 0) 0 0))) ∷ (on 13
    (Statement-F.Free (Held (H.Local 0)))) ∷ []))) ∷ []) [] ((97 ∷ 98 ∷ 99 ∷ 100 ∷ []) ∷ (101 ∷ 102 ∷ []) ∷ []) 0

hbuf_in_a_field_is_reallocated_run : run script_hbuf_in_a_field_is_reallocated_run R.Unlimited 10000 (shaped 4096 4096) ≡ result (Ended None
    []) ((line 1 144 0 Granted) ∷ (line 2 32 144 Granted) ∷ (line 3 32 176 Granted) ∷ (line 4 64 176 Granted) ∷ []) ((97 ∷ 98 ∷ 99 ∷ 100 ∷
    101 ∷ 102 ∷ []) ∷ []) [] 8
unfolding everything
hbuf_in_a_field_is_reallocated_run = refl

abbrev script_hbuf_in_a_field_shorter_than_its_text_run : Script
script_hbuf_in_a_field_shorter_than_its_text_run = script ((class_of 1 0 (None ∷ []) None None) ∷ []) ((procedure 4 [] (body ((OfPointer
    (Some 0)) ∷ []) ((on 6 (Statement-F.New (Held (H.Local 0)) 0 Leaves)) ∷ (on 7 (Statement-F.NewText (Field (H.Local 0) 0 0) (Constant
    (pos 4)) Leaves)) ∷ (on 8 (Statement-F.Copy (InCell (Field (H.Local 0) 0 0)) (Quoted 0))) ∷ (on 9 (Statement-F.ReallocText (Field
    (H.Local 0) 0 0) (Field (H.Local 0) 0 0) (Constant (pos 2)))) ∷ []))) ∷ []) [] ((97 ∷ 98 ∷ 99 ∷ []) ∷ []) 0

hbuf_in_a_field_shorter_than_its_text_run : run script_hbuf_in_a_field_shorter_than_its_text_run R.Unlimited 10000 (shaped 4096 4096) ≡
    result (Panicked (P.Workbench 8)) ((line 1 144 0 Granted) ∷ (line 2 32 144 Granted) ∷ (line 3 32 176 Granted) ∷ []) [] [] 4
unfolding everything
hbuf_in_a_field_shorter_than_its_text_run = refl

abbrev script_leave_in_a_construct_body_is_trapped_run : Script
script_leave_in_a_construct_body_is_trapped_run = script ((class_of 1 0 (None ∷ []) (Some (body [] ((on 4 (Statement-F.Alloc (Field H.This 0
    0) (Constant (pos 4)) Leaves)) ∷ (on 5 (Statement-F.Leave (Constant (negsuc 6)))) ∷ []))) (Some (body [] ((on 8 (Statement-F.Free (Field
    H.This 0 0))) ∷ [])))) ∷ []) ((procedure 11 [] (body ((OfPointer (Some 0)) ∷ OfNumber ∷ []) ((on 14 (Statement-F.New (Held (H.Local 0))
    0 Leaves)) ∷ (on 15 (Statement-F.Trap 1 ((on 16 (Statement-F.Construct (Held (H.Local 0)))) ∷ []))) ∷ (on 18 (Statement-F.PrintNumber
    (Variable 1))) ∷ (on 19 (Statement-F.Delete (Held (H.Local 0)))) ∷ []))) ∷ []) [] [] 0

leave_in_a_construct_body_is_trapped_run : run script_leave_in_a_construct_body_is_trapped_run R.Unlimited 10000 (shaped 4096 4096) ≡ result
    (Ended None []) ((line 1 144 0 Granted) ∷ (line 2 32 144 Granted) ∷ (line 3 32 176 Granted) ∷ []) ((45 ∷ 55 ∷ []) ∷ []) [] 9
unfolding everything
leave_in_a_construct_body_is_trapped_run = refl

abbrev script_locals_of_both_bodies_of_a_class_run : Script
script_locals_of_both_bodies_of_a_class_run = script ((class_of 1 0 [] (Some (body (OfNumber ∷ OfNumber ∷ OfNumber ∷ OfNumber ∷ OfNumber ∷
    OfNumber ∷ OfNumber ∷ OfNumber ∷ OfNumber ∷ OfNumber ∷ OfNumber ∷ OfNumber ∷ OfNumber ∷ OfNumber ∷ OfNumber ∷ OfNumber ∷ OfNumber ∷
    OfNumber ∷ OfNumber ∷ OfNumber ∷ OfNumber ∷ OfNumber ∷ OfNumber ∷ OfNumber ∷ OfNumber ∷ OfNumber ∷ OfNumber ∷ OfNumber ∷ OfNumber ∷
    OfNumber ∷ OfNumber ∷ OfNumber ∷ []) [])) (Some (body (OfNumber ∷ OfNumber ∷ OfNumber ∷ OfNumber ∷ OfNumber ∷ OfNumber ∷ OfNumber ∷
    OfNumber ∷ OfNumber ∷ OfNumber ∷ OfNumber ∷ OfNumber ∷ OfNumber ∷ OfNumber ∷ OfNumber ∷ OfNumber ∷ OfNumber ∷ OfNumber ∷ OfNumber ∷
    OfNumber ∷ OfNumber ∷ OfNumber ∷ OfNumber ∷ OfNumber ∷ OfNumber ∷ OfNumber ∷ OfNumber ∷ OfNumber ∷ OfNumber ∷ OfNumber ∷ OfNumber ∷
    OfNumber ∷ []) []))) ∷ []) ((procedure 71 [] (body ((OfPointer (Some 0)) ∷ []) ((on 73 (Statement-F.New (Held (H.Local 0)) 0 Leaves)) ∷
    (on 74 (Statement-F.Construct (Held (H.Local 0)))) ∷ (on 75 (Statement-F.Delete (Held (H.Local 0)))) ∷ []))) ∷ []) [] [] 0

locals_of_both_bodies_of_a_class_run : run script_locals_of_both_bodies_of_a_class_run R.Unlimited 10000 (shaped 4096 4096) ≡ result (Ended
    None []) ((line 1 144 0 Granted) ∷ (line 2 32 144 Granted) ∷ []) [] [] 4
unfolding everything
locals_of_both_bodies_of_a_class_run = refl
