-- Worked cases of `classes`, each by computing. Written by tools/cases_to_theorems.py; edit nothing here.
use Rattle.std.specs.Prelude.{◌≡◌, refl, pos, negsuc, [], ◌∷◌, Some, None}
use Rattle.wb_heap_model.specs.declared.heap.Rule.TheVariants as R
use Rattle.wb_heap_model.specs.declared.heap.Panic.TheVariants as P
use Rattle.wb_tree.specs.declared.script.Holder.TheVariants as H
use Rattle.wb_heap_model.specs.declared.heap.Answer.TheVariants.{Granted, Simulated}
use Rattle.wb_meaning.specs.declared.run.Why.TheVariants.{Budget}
use Rattle.wb_meaning.specs.declared.run.Outcome.TheVariants.{Ended, Panicked, Cut}
use Rattle.wb_tree.specs.declared.script.Script.{Script}
use Rattle.wb_tree.specs.declared.script.Parameter.TheVariants as Par
use Rattle.wb_tree.specs.declared.script.Local.TheVariants.{OfPointer, OfNumber}
use Rattle.wb_tree.specs.declared.script.Pointer.TheVariants.{Held, Field}
use Rattle.wb_tree.specs.declared.script.Number.TheVariants.{Constant, Variable}
use Rattle.wb_tree.specs.declared.script.Readable.TheVariants.{Quoted}
use Rattle.wb_tree.specs.declared.script.Condition.TheVariants.{IsNull, NotNull}
use Rattle.wb_tree.specs.declared.script.Argument.TheVariants.{Passed}
use Rattle.wb_tree.specs.declared.script.Refusal.TheVariants.{GivesNull, Leaves}
use Rattle.wb_tree.specs.declared.script.Statement.TheOpen.{Statement-F}
use Rattle.wb_meaning.specs.Run.{run}
use Rattle.wb_worked.specs.Shorthands.{everything, on, script, class_of, procedure, operation, body, result, shaped, line}

abbrev script_marks_count_objects_run : Script
script_marks_count_objects_run = script ((class_of 1 0 [] None None) ∷ []) ((procedure 3 [] (body ((OfPointer (Some 0)) ∷ []) ((on 5
    Statement-F.Mark) ∷ (on 6 (Statement-F.New (Held (H.Local 0)) 0 Leaves)) ∷ (on 7 (Statement-F.MarkEnd (Constant (pos 0)))) ∷ []))) ∷ [])
    [] [] 0

marks_count_objects_run : run script_marks_count_objects_run R.Unlimited 10000 (shaped 4096 4096) ≡ result (Panicked (P.Alloc 144)) ((line 1
    144 0 Granted) ∷ (line 2 32 144 Granted) ∷ []) [] [] 3
unfolding everything
marks_count_objects_run = refl

abbrev script_members_are_destroyed_by_their_owner_run : Script
script_members_are_destroyed_by_their_owner_run = script ((class_of 1 0 [] None (Some (body [] ((on 3 (Statement-F.PrintText (Quoted 0))) ∷
    [])))) ∷ (class_of 6 0 ((Some 0) ∷ (Some 0) ∷ []) (Some (body [] ((on 10 (Statement-F.New (Field H.This 1 0) 0 Leaves)) ∷ (on 11
    (Statement-F.New (Field H.This 1 1) 0 Leaves)) ∷ []))) (Some (body [] ((on 14 (Statement-F.PrintText (Quoted 1))) ∷ (on 15
    (Statement-F.Delete (Field H.This 1 1))) ∷ (on 16 (Statement-F.Delete (Field H.This 1 0))) ∷ [])))) ∷ []) ((procedure 19 [] (body
    ((OfPointer (Some 1)) ∷ []) ((on 21 (Statement-F.New (Held (H.Local 0)) 1 Leaves)) ∷ (on 22 (Statement-F.Construct (Held (H.Local 0))))
    ∷ (on 23 (Statement-F.Delete (Held (H.Local 0)))) ∷ []))) ∷ []) [] ((112 ∷ 97 ∷ 114 ∷ 116 ∷ []) ∷ (119 ∷ 104 ∷ 111 ∷ 108 ∷ 101 ∷ []) ∷
    []) 0

members_are_destroyed_by_their_owner_run : run script_members_are_destroyed_by_their_owner_run R.Unlimited 10000 (shaped 4096 4096) ≡ result
    (Ended None []) ((line 1 144 0 Granted) ∷ (line 2 48 144 Granted) ∷ (line 3 32 192 Granted) ∷ (line 4 32 224 Granted) ∷ []) ((119 ∷ 104
    ∷ 111 ∷ 108 ∷ 101 ∷ []) ∷ (112 ∷ 97 ∷ 114 ∷ 116 ∷ []) ∷ (112 ∷ 97 ∷ 114 ∷ 116 ∷ []) ∷ []) [] 13
unfolding everything
members_are_destroyed_by_their_owner_run = refl

abbrev script_new_into_a_field_that_is_refused_gives_null_run : Script
script_new_into_a_field_that_is_refused_gives_null_run = script ((class_of 1 0 ((Some 0) ∷ []) None None) ∷ []) ((procedure 4 [] (body
    ((OfPointer (Some 0)) ∷ []) ((on 6 (Statement-F.New (Held (H.Local 0)) 0 Leaves)) ∷ (on 7 (Statement-F.Set (Field (H.Local 0) 0 0) (Held
    (H.Local 0)))) ∷ (on 8 (Statement-F.FailNext (Constant (pos 1)))) ∷ (on 9 (Statement-F.New (Field (H.Local 0) 0 0) 0 GivesNull)) ∷ (on
    10 (Statement-F.If (IsNull (Field (H.Local 0) 0 0)) ((on 11 (Statement-F.PrintText (Quoted 0))) ∷ []))) ∷ (on 13 (Statement-F.Delete
    (Held (H.Local 0)))) ∷ []))) ∷ []) [] ((110 ∷ 117 ∷ 108 ∷ 108 ∷ []) ∷ []) 0

new_into_a_field_that_is_refused_gives_null_run : run script_new_into_a_field_that_is_refused_gives_null_run R.Unlimited 10000 (shaped 4096
    4096) ≡ result (Ended None []) ((line 1 144 0 Granted) ∷ (line 2 32 144 Granted) ∷ (line 3 32 176 Simulated) ∷ []) ((110 ∷ 117 ∷ 108 ∷
    108 ∷ []) ∷ []) [] 8
unfolding everything
new_into_a_field_that_is_refused_gives_null_run = refl

abbrev script_new_that_is_refused_gives_null_run : Script
script_new_that_is_refused_gives_null_run = script ((class_of 1 0 [] None None) ∷ []) ((procedure 3 [] (body ((OfPointer (Some 0)) ∷ [])
    ((on 5 (Statement-F.New (Held (H.Local 0)) 0 GivesNull)) ∷ (on 6 (Statement-F.If (IsNull (Held (H.Local 0))) ((on 7
    (Statement-F.PrintText (Quoted 0))) ∷ []))) ∷ []))) ∷ []) [] ((110 ∷ 111 ∷ 110 ∷ 101 ∷ []) ∷ []) 0

new_that_is_refused_gives_null_run : run script_new_that_is_refused_gives_null_run (R.Number 2) 10000 (shaped 4096 4096) ≡ result (Ended
    None []) ((line 1 144 0 Granted) ∷ (line 2 32 144 Simulated) ∷ []) ((110 ∷ 111 ∷ 110 ∷ 101 ∷ []) ∷ []) [] 3
unfolding everything
new_that_is_refused_gives_null_run = refl

abbrev script_newest_object_is_destroyed_first_run : Script
script_newest_object_is_destroyed_first_run = script ((class_of 1 0 [] None (Some (body [] ((on 3 (Statement-F.PrintText (Quoted 0))) ∷
    [])))) ∷ (class_of 6 0 [] None (Some (body [] ((on 8 (Statement-F.PrintText (Quoted 1))) ∷ [])))) ∷ []) ((procedure 11 [] (body
    ((OfPointer (Some 0)) ∷ (OfPointer (Some 1)) ∷ []) ((on 14 (Statement-F.New (Held (H.Local 0)) 0 Leaves)) ∷ (on 15
    (Statement-F.PushObject (Held (H.Local 0)))) ∷ (on 16 (Statement-F.New (Held (H.Local 1)) 1 Leaves)) ∷ (on 17 (Statement-F.PushObject
    (Held (H.Local 1)))) ∷ (on 18 (Statement-F.Leave (Constant (negsuc 4)))) ∷ []))) ∷ []) [] ((65 ∷ []) ∷ (66 ∷ []) ∷ []) 0

newest_object_is_destroyed_first_run : run script_newest_object_is_destroyed_first_run R.Unlimited 10000 (shaped 4096 4096) ≡ result (Ended
    (Some (negsuc 4)) []) ((line 1 144 0 Granted) ∷ (line 2 32 144 Granted) ∷ (line 3 32 176 Granted) ∷ []) ((66 ∷ []) ∷ (65 ∷ []) ∷ []) []
    11
unfolding everything
newest_object_is_destroyed_first_run = refl

abbrev script_newleave_into_a_field_that_is_refused_keeps_it_run : Script
script_newleave_into_a_field_that_is_refused_keeps_it_run = script ((class_of 1 0 ((Some 0) ∷ []) None None) ∷ []) ((procedure 4 [] (body
    ((OfPointer (Some 0)) ∷ OfNumber ∷ []) ((on 7 (Statement-F.New (Held (H.Local 0)) 0 Leaves)) ∷ (on 8 (Statement-F.Set (Field (H.Local 0)
    0 0) (Held (H.Local 0)))) ∷ (on 9 (Statement-F.FailNext (Constant (pos 1)))) ∷ (on 10 (Statement-F.Trap 1 ((on 11 (Statement-F.New
    (Field (H.Local 0) 0 0) 0 Leaves)) ∷ []))) ∷ (on 13 (Statement-F.If (NotNull (Field (H.Local 0) 0 0)) ((on 14 (Statement-F.PrintNumber
    (Variable 1))) ∷ []))) ∷ (on 16 (Statement-F.Delete (Held (H.Local 0)))) ∷ []))) ∷ []) [] [] 0

newleave_into_a_field_that_is_refused_keeps_it_run : run script_newleave_into_a_field_that_is_refused_keeps_it_run R.Unlimited 10000 (shaped
    4096 4096) ≡ result (Ended None []) ((line 1 144 0 Granted) ∷ (line 2 32 144 Granted) ∷ (line 3 32 176 Simulated) ∷ []) ((45 ∷ 52 ∷ [])
    ∷ []) [] 9
unfolding everything
newleave_into_a_field_that_is_refused_keeps_it_run = refl

abbrev script_newleave_that_is_refused_leaves_run : Script
script_newleave_that_is_refused_leaves_run = script ((class_of 1 0 (None ∷ []) None None) ∷ []) ((procedure 4 [] (body ((OfPointer (Some 0))
    ∷ (OfPointer None) ∷ OfNumber ∷ []) ((on 8 (Statement-F.New (Held (H.Local 0)) 0 Leaves)) ∷ (on 9 (Statement-F.Alloc (Field (H.Local 0)
    0 0) (Constant (pos 4)) GivesNull)) ∷ (on 10 (Statement-F.Set (Held (H.Local 1)) (Field (H.Local 0) 0 0))) ∷ (on 11 (Statement-F.Trap 2
    ((on 12 (Statement-F.New (Field (H.Local 0) 0 0) 0 Leaves)) ∷ []))) ∷ (on 14 (Statement-F.PrintNumber (Variable 2))) ∷ (on 15
    (Statement-F.Free (Field (H.Local 0) 0 0))) ∷ (on 16 (Statement-F.Free (Held (H.Local 0)))) ∷ []))) ∷ []) [] [] 0

newleave_that_is_refused_leaves_run : run script_newleave_that_is_refused_leaves_run (R.Number 4) 10000 (shaped 4096 4096) ≡ result (Ended
    None []) ((line 1 144 0 Granted) ∷ (line 2 32 144 Granted) ∷ (line 3 32 176 Granted) ∷ (line 4 32 208 Simulated) ∷ []) ((45 ∷ 52 ∷ []) ∷
    []) [] 8
unfolding everything
newleave_that_is_refused_leaves_run = refl

abbrev script_object_made_and_deleted_run : Script
script_object_made_and_deleted_run = script ((class_of 1 16 (None ∷ []) (Some (body [] ((on 4 (Statement-F.NewText (Field H.This 0 0)
    (Constant (pos 4)) Leaves)) ∷ []))) (Some (body [] ((on 7 (Statement-F.Free (Field H.This 0 0))) ∷ [])))) ∷ []) ((procedure 10 [] (body
    ((OfPointer (Some 0)) ∷ []) ((on 12 (Statement-F.New (Held (H.Local 0)) 0 Leaves)) ∷ (on 13 (Statement-F.Construct (Held (H.Local 0))))
    ∷ (on 14 (Statement-F.Delete (Held (H.Local 0)))) ∷ []))) ∷ []) [] [] 0

object_made_and_deleted_run : run script_object_made_and_deleted_run R.Unlimited 10000 (shaped 4096 4096) ≡ result (Ended None []) ((line 1
    144 0 Granted) ∷ (line 2 48 144 Granted) ∷ (line 3 32 192 Granted) ∷ []) [] [] 6
unfolding everything
object_made_and_deleted_run = refl

abbrev script_object_of_a_class_below_run : Script
script_object_of_a_class_below_run = script ((class_of 7 0 (None ∷ []) None (Some (body [] ((on 10 (Statement-F.Free (Field H.This 0 0))) ∷
    [])))) ∷ []) ((procedure 1 [] (body ((OfPointer (Some 0)) ∷ []) ((on 3 (Statement-F.New (Held (H.Local 0)) 0 Leaves)) ∷ (on 4
    (Statement-F.Alloc (Field (H.Local 0) 0 0) (Constant (pos 4)) Leaves)) ∷ (on 5 (Statement-F.Delete (Held (H.Local 0)))) ∷ []))) ∷ []) []
    [] 0

object_of_a_class_below_run : run script_object_of_a_class_below_run R.Unlimited 10000 (shaped 4096 4096) ≡ result (Ended None []) ((line 1
    144 0 Granted) ∷ (line 2 32 144 Granted) ∷ (line 3 32 176 Granted) ∷ []) [] [] 5
unfolding everything
object_of_a_class_below_run = refl

abbrev script_object_that_deletes_itself_while_it_is_made_run : Script
script_object_that_deletes_itself_while_it_is_made_run = script ((class_of 1 0 (None ∷ []) (Some (body [] ((on 4 (Statement-F.Delete (Held
    H.This))) ∷ (on 5 (Statement-F.SetNull (Field H.This 0 0))) ∷ []))) None) ∷ []) ((procedure 8 [] (body ((OfPointer (Some 0)) ∷ []) ((on
    10 (Statement-F.New (Held (H.Local 0)) 0 Leaves)) ∷ (on 11 (Statement-F.Construct (Held (H.Local 0)))) ∷ []))) ∷ []) [] [] 0

object_that_deletes_itself_while_it_is_made_run : run script_object_that_deletes_itself_while_it_is_made_run R.Unlimited 10000 (shaped 4096
    4096) ≡ result (Panicked (P.Workbench 1)) ((line 1 144 0 Granted) ∷ (line 2 32 144 Granted) ∷ []) [] [] 5
unfolding everything
object_that_deletes_itself_while_it_is_made_run = refl

abbrev script_objects_that_construct_each_other_run : Script
script_objects_that_construct_each_other_run = script ((class_of 1 0 ((Some 0) ∷ []) (Some (body [] ((on 4 (Statement-F.Construct (Field
    H.This 0 0))) ∷ []))) None) ∷ []) ((procedure 7 [] (body ((OfPointer (Some 0)) ∷ []) ((on 9 (Statement-F.New (Held (H.Local 0)) 0
    Leaves)) ∷ (on 10 (Statement-F.Set (Field (H.Local 0) 0 0) (Held (H.Local 0)))) ∷ (on 11 (Statement-F.Construct (Held (H.Local 0)))) ∷
    []))) ∷ []) [] [] 0

objects_that_construct_each_other_run : run script_objects_that_construct_each_other_run R.Unlimited 10000 (shaped 4096 4096) ≡ result
    (Panicked (P.Workbench 7)) ((line 1 144 0 Granted) ∷ (line 2 32 144 Granted) ∷ []) [] [] 130
unfolding everything
objects_that_construct_each_other_run = refl

abbrev script_objects_that_delete_each_other_budget_just_enough_run : Script
script_objects_that_delete_each_other_budget_just_enough_run = script ((class_of 1 0 ((Some 0) ∷ []) None (Some (body [] ((on 4
    (Statement-F.Delete (Field H.This 0 0))) ∷ [])))) ∷ []) ((procedure 7 [] (body ((OfPointer (Some 0)) ∷ (OfPointer (Some 0)) ∷ []) ((on
    10 (Statement-F.New (Held (H.Local 0)) 0 Leaves)) ∷ (on 11 (Statement-F.New (Held (H.Local 1)) 0 Leaves)) ∷ (on 12 (Statement-F.Set
    (Field (H.Local 0) 0 0) (Held (H.Local 1)))) ∷ (on 13 (Statement-F.Set (Field (H.Local 1) 0 0) (Held (H.Local 0)))) ∷ (on 14
    (Statement-F.Delete (Held (H.Local 0)))) ∷ []))) ∷ []) [] [] 0

objects_that_delete_each_other_budget_just_enough_run : run script_objects_that_delete_each_other_budget_just_enough_run R.Unlimited 260
    (shaped 4096 4096) ≡ result (Panicked (P.Workbench 7)) ((line 1 144 0 Granted) ∷ (line 2 32 144 Granted) ∷ (line 3 32 176 Granted) ∷ [])
    [] [] 260
unfolding everything
objects_that_delete_each_other_budget_just_enough_run = refl

abbrev script_objects_that_delete_each_other_one_step_short_run : Script
script_objects_that_delete_each_other_one_step_short_run = script ((class_of 1 0 ((Some 0) ∷ []) None (Some (body [] ((on 4
    (Statement-F.Delete (Field H.This 0 0))) ∷ [])))) ∷ []) ((procedure 7 [] (body ((OfPointer (Some 0)) ∷ (OfPointer (Some 0)) ∷ []) ((on
    10 (Statement-F.New (Held (H.Local 0)) 0 Leaves)) ∷ (on 11 (Statement-F.New (Held (H.Local 1)) 0 Leaves)) ∷ (on 12 (Statement-F.Set
    (Field (H.Local 0) 0 0) (Held (H.Local 1)))) ∷ (on 13 (Statement-F.Set (Field (H.Local 1) 0 0) (Held (H.Local 0)))) ∷ (on 14
    (Statement-F.Delete (Held (H.Local 0)))) ∷ []))) ∷ []) [] [] 0

objects_that_delete_each_other_one_step_short_run : run script_objects_that_delete_each_other_one_step_short_run R.Unlimited 259 (shaped
    4096 4096) ≡ result (Cut Budget) ((line 1 144 0 Granted) ∷ (line 2 32 144 Granted) ∷ (line 3 32 176 Granted) ∷ []) [] [] 259
unfolding everything
objects_that_delete_each_other_one_step_short_run = refl

abbrev script_objects_that_delete_each_other_run : Script
script_objects_that_delete_each_other_run = script ((class_of 1 0 ((Some 0) ∷ []) None (Some (body [] ((on 4 (Statement-F.Delete (Field
    H.This 0 0))) ∷ [])))) ∷ []) ((procedure 7 [] (body ((OfPointer (Some 0)) ∷ (OfPointer (Some 0)) ∷ []) ((on 10 (Statement-F.New (Held
    (H.Local 0)) 0 Leaves)) ∷ (on 11 (Statement-F.New (Held (H.Local 1)) 0 Leaves)) ∷ (on 12 (Statement-F.Set (Field (H.Local 0) 0 0) (Held
    (H.Local 1)))) ∷ (on 13 (Statement-F.Set (Field (H.Local 1) 0 0) (Held (H.Local 0)))) ∷ (on 14 (Statement-F.Delete (Held (H.Local 0))))
    ∷ []))) ∷ []) [] [] 0

objects_that_delete_each_other_run : run script_objects_that_delete_each_other_run R.Unlimited 10000 (shaped 4096 4096) ≡ result (Panicked
    (P.Workbench 7)) ((line 1 144 0 Granted) ∷ (line 2 32 144 Granted) ∷ (line 3 32 176 Granted) ∷ []) [] [] 260
unfolding everything
objects_that_delete_each_other_run = refl

abbrev script_objects_that_delete_each_other_small_budget_run : Script
script_objects_that_delete_each_other_small_budget_run = script ((class_of 1 0 ((Some 0) ∷ []) None (Some (body [] ((on 4
    (Statement-F.Delete (Field H.This 0 0))) ∷ [])))) ∷ []) ((procedure 7 [] (body ((OfPointer (Some 0)) ∷ (OfPointer (Some 0)) ∷ []) ((on
    10 (Statement-F.New (Held (H.Local 0)) 0 Leaves)) ∷ (on 11 (Statement-F.New (Held (H.Local 1)) 0 Leaves)) ∷ (on 12 (Statement-F.Set
    (Field (H.Local 0) 0 0) (Held (H.Local 1)))) ∷ (on 13 (Statement-F.Set (Field (H.Local 1) 0 0) (Held (H.Local 0)))) ∷ (on 14
    (Statement-F.Delete (Held (H.Local 0)))) ∷ []))) ∷ []) [] [] 0

objects_that_delete_each_other_small_budget_run : run script_objects_that_delete_each_other_small_budget_run R.Unlimited 20 (shaped 4096
    4096) ≡ result (Cut Budget) ((line 1 144 0 Granted) ∷ (line 2 32 144 Granted) ∷ (line 3 32 176 Granted) ∷ []) [] [] 20
unfolding everything
objects_that_delete_each_other_small_budget_run = refl

abbrev script_one_field_name_in_two_classes_run : Script
script_one_field_name_in_two_classes_run = script ((class_of 1 0 (None ∷ None ∷ []) None None) ∷ (class_of 5 0 (None ∷ []) None None) ∷ [])
    ((procedure 8 [] (body ((OfPointer (Some 0)) ∷ (OfPointer (Some 1)) ∷ []) ((on 11 (Statement-F.New (Held (H.Local 0)) 0 Leaves)) ∷ (on
    12 (Statement-F.New (Held (H.Local 1)) 1 Leaves)) ∷ (on 13 (Statement-F.Set (Field (H.Local 0) 0 1) (Held (H.Local 1)))) ∷ (on 14
    (Statement-F.Set (Field (H.Local 1) 1 0) (Held (H.Local 0)))) ∷ (on 15 (Statement-F.Delete (Field (H.Local 0) 0 1))) ∷ (on 16
    (Statement-F.Delete (Field (H.Local 1) 1 0))) ∷ []))) ∷ []) [] [] 0

one_field_name_in_two_classes_run : run script_one_field_name_in_two_classes_run R.Unlimited 10000 (shaped 4096 4096) ≡ result (Panicked
    (P.Workbench 1)) ((line 1 144 0 Granted) ∷ (line 2 48 144 Granted) ∷ (line 3 32 192 Granted) ∷ []) [] [] 7
unfolding everything
one_field_name_in_two_classes_run = refl

abbrev script_operation_deletes_an_object_run : Script
script_operation_deletes_an_object_run = script ((class_of 8 0 (None ∷ []) None (Some (body [] ((on 11 (Statement-F.PrintText (Quoted 0))) ∷
    [])))) ∷ []) ((procedure 14 [] (body ((OfPointer (Some 0)) ∷ []) ((on 16 (Statement-F.New (Held (H.Local 0)) 0 Leaves)) ∷ (on 17
    (Statement-F.PushOperation (Held (H.Local 0)) 0)) ∷ (on 18 (Statement-F.Alloc (Field (H.Local 0) 0 0) (Constant (pos 4)) GivesNull)) ∷
    (on 19 (Statement-F.Leave (Constant (negsuc 0)))) ∷ []))) ∷ []) ((operation 1 (body ((OfPointer (Some 0)) ∷ []) ((on 3 (Statement-F.Set
    (Held (H.Local 1)) (Held (H.Local 0)))) ∷ (on 4 (Statement-F.Free (Field (H.Local 1) 0 0))) ∷ (on 5 (Statement-F.SetNull (Field (H.Local
    1) 0 0))) ∷ (on 6 (Statement-F.Delete (Held (H.Local 1)))) ∷ []))) ∷ []) ((103 ∷ 111 ∷ 110 ∷ 101 ∷ []) ∷ []) 0

operation_deletes_an_object_run : run script_operation_deletes_an_object_run R.Unlimited 10000 (shaped 4096 4096) ≡ result (Ended (Some
    (negsuc 0)) []) ((line 1 144 0 Granted) ∷ (line 2 32 144 Granted) ∷ (line 3 32 176 Granted) ∷ []) ((103 ∷ 111 ∷ 110 ∷ 101 ∷ []) ∷ []) []
    11
unfolding everything
operation_deletes_an_object_run = refl

abbrev script_own_class_is_constructed_and_destroyed_run : Script
script_own_class_is_constructed_and_destroyed_run = script ((class_of 1 0 [] (Some (body [] ((on 3 (Statement-F.PrintText (Quoted 0))) ∷
    []))) (Some (body [] ((on 6 (Statement-F.PrintText (Quoted 1))) ∷ [])))) ∷ (class_of 9 0 [] (Some (body [] ((on 11
    (Statement-F.PrintText (Quoted 2))) ∷ []))) (Some (body [] ((on 14 (Statement-F.PrintText (Quoted 3))) ∷ [])))) ∷ []) ((procedure 17 []
    (body ((OfPointer (Some 0)) ∷ []) ((on 19 (Statement-F.New (Held (H.Local 0)) 1 Leaves)) ∷ (on 20 (Statement-F.Construct (Held (H.Local
    0)))) ∷ (on 21 (Statement-F.Delete (Held (H.Local 0)))) ∷ []))) ∷ []) [] ((65 ∷ 32 ∷ 109 ∷ 97 ∷ 100 ∷ 101 ∷ []) ∷ (65 ∷ 32 ∷ 103 ∷ 111 ∷
    110 ∷ 101 ∷ []) ∷ (66 ∷ 32 ∷ 109 ∷ 97 ∷ 100 ∷ 101 ∷ []) ∷ (66 ∷ 32 ∷ 103 ∷ 111 ∷ 110 ∷ 101 ∷ []) ∷ []) 0

own_class_is_constructed_and_destroyed_run : run script_own_class_is_constructed_and_destroyed_run R.Unlimited 10000 (shaped 4096 4096) ≡
    result (Ended None []) ((line 1 144 0 Granted) ∷ (line 2 32 144 Granted) ∷ []) ((66 ∷ 32 ∷ 109 ∷ 97 ∷ 100 ∷ 101 ∷ []) ∷ (66 ∷ 32 ∷ 103 ∷
    111 ∷ 110 ∷ 101 ∷ []) ∷ []) [] 6
unfolding everything
own_class_is_constructed_and_destroyed_run = refl

abbrev script_popdestroy_destroys_objects_run : Script
script_popdestroy_destroys_objects_run = script ((class_of 1 0 (None ∷ []) None (Some (body [] ((on 4 (Statement-F.Free (Field H.This 0 0)))
    ∷ (on 5 (Statement-F.PrintText (Quoted 0))) ∷ [])))) ∷ []) ((procedure 8 [] (body ((OfPointer (Some 0)) ∷ []) ((on 10 (Statement-F.New
    (Held (H.Local 0)) 0 Leaves)) ∷ (on 11 (Statement-F.PushObject (Held (H.Local 0)))) ∷ (on 12 (Statement-F.Alloc (Field (H.Local 0) 0 0)
    (Constant (pos 4)) GivesNull)) ∷ (on 13 (Statement-F.PopDestroy (Constant (pos 1)))) ∷ []))) ∷ []) [] ((103 ∷ 111 ∷ 110 ∷ 101 ∷ []) ∷
    []) 0

popdestroy_destroys_objects_run : run script_popdestroy_destroys_objects_run R.Unlimited 10000 (shaped 4096 4096) ≡ result (Ended None [])
    ((line 1 144 0 Granted) ∷ (line 2 32 144 Granted) ∷ (line 3 32 176 Granted) ∷ []) ((103 ∷ 111 ∷ 110 ∷ 101 ∷ []) ∷ []) [] 8
unfolding everything
popdestroy_destroys_objects_run = refl

abbrev script_pushed_null_object_is_one_step_run : Script
script_pushed_null_object_is_one_step_run = script ((class_of 1 0 [] None None) ∷ []) ((procedure 3 [] (body ((OfPointer (Some 0)) ∷ [])
    ((on 5 (Statement-F.PushObject (Held (H.Local 0)))) ∷ (on 6 (Statement-F.PopDestroy (Constant (pos 1)))) ∷ []))) ∷ []) [] [] 0

pushed_null_object_is_one_step_run : run script_pushed_null_object_is_one_step_run R.Unlimited 10000 (shaped 4096 4096) ≡ result (Ended None
    []) ((line 1 144 0 Granted) ∷ []) [] [] 3
unfolding everything
pushed_null_object_is_one_step_run = refl

abbrev script_pushed_object_made_and_deleted_run : Script
script_pushed_object_made_and_deleted_run = script ((class_of 1 16 (None ∷ []) (Some (body [] ((on 4 (Statement-F.NewText (Field H.This 0 0)
    (Constant (pos 4)) Leaves)) ∷ []))) (Some (body [] ((on 7 (Statement-F.Free (Field H.This 0 0))) ∷ [])))) ∷ []) ((procedure 10 [] (body
    ((OfPointer (Some 0)) ∷ []) ((on 12 (Statement-F.New (Held (H.Local 0)) 0 Leaves)) ∷ (on 13 (Statement-F.PushObject (Held (H.Local 0))))
    ∷ (on 14 (Statement-F.Construct (Held (H.Local 0)))) ∷ (on 15 (Statement-F.Pop (Constant (pos 1)))) ∷ (on 16 (Statement-F.Delete (Held
    (H.Local 0)))) ∷ []))) ∷ []) [] [] 0

pushed_object_made_and_deleted_run : run script_pushed_object_made_and_deleted_run R.Unlimited 10000 (shaped 4096 4096) ≡ result (Ended None
    []) ((line 1 144 0 Granted) ∷ (line 2 48 144 Granted) ∷ (line 3 32 192 Granted) ∷ []) [] [] 8
unfolding everything
pushed_object_made_and_deleted_run = refl

abbrev script_return_ends_a_construct_body_run : Script
script_return_ends_a_construct_body_run = script ((class_of 1 4 [] (Some (body [] ((on 3 (Statement-F.PrintText (Quoted 0))) ∷ (on 4
    Statement-F.Return) ∷ (on 5 (Statement-F.PrintText (Quoted 1))) ∷ []))) None) ∷ []) ((procedure 8 [] (body ((OfPointer (Some 0)) ∷ [])
    ((on 10 (Statement-F.New (Held (H.Local 0)) 0 Leaves)) ∷ (on 11 (Statement-F.Construct (Held (H.Local 0)))) ∷ (on 12 (Statement-F.Delete
    (Held (H.Local 0)))) ∷ []))) ∷ []) [] ((111 ∷ 110 ∷ 101 ∷ []) ∷ (116 ∷ 119 ∷ 111 ∷ []) ∷ []) 0

return_ends_a_construct_body_run : run script_return_ends_a_construct_body_run R.Unlimited 10000 (shaped 4096 4096) ≡ result (Ended None [])
    ((line 1 144 0 Granted) ∷ (line 2 32 144 Granted) ∷ []) ((111 ∷ 110 ∷ 101 ∷ []) ∷ []) [] 6
unfolding everything
return_ends_a_construct_body_run = refl

abbrev script_right_field_is_refused_second_run : Script
script_right_field_is_refused_second_run = script ((class_of 1 0 (None ∷ []) None None) ∷ []) ((procedure 4 [] (body ((OfPointer (Some 0)) ∷
    (OfPointer (Some 0)) ∷ []) ((on 7 (Statement-F.Alloc (Held (H.Local 1)) (Constant (pos 4)) GivesNull)) ∷ (on 8 (Statement-F.New (Held
    (H.Local 0)) 0 Leaves)) ∷ (on 9 (Statement-F.Set (Field (H.Local 0) 0 0) (Field (H.Local 1) 0 0))) ∷ []))) ∷ []) [] [] 0

right_field_is_refused_second_run : run script_right_field_is_refused_second_run R.Unlimited 10000 (shaped 4096 4096) ≡ result (Panicked
    (P.Workbench 2)) ((line 1 144 0 Granted) ∷ (line 2 32 144 Granted) ∷ (line 3 32 176 Granted) ∷ []) [] [] 3
unfolding everything
right_field_is_refused_second_run = refl

abbrev script_second_object_takes_the_place_of_the_first_run : Script
script_second_object_takes_the_place_of_the_first_run = script ((class_of 1 0 (None ∷ []) None None) ∷ []) ((procedure 4 [] (body
    ((OfPointer (Some 0)) ∷ (OfPointer (Some 0)) ∷ []) ((on 7 (Statement-F.New (Held (H.Local 0)) 0 Leaves)) ∷ (on 8 (Statement-F.Alloc
    (Field (H.Local 0) 0 0) (Constant (pos 4)) Leaves)) ∷ (on 9 (Statement-F.Free (Field (H.Local 0) 0 0))) ∷ (on 10 (Statement-F.Delete
    (Held (H.Local 0)))) ∷ (on 11 (Statement-F.New (Held (H.Local 1)) 0 Leaves)) ∷ (on 12 (Statement-F.If (IsNull (Field (H.Local 1) 0 0))
    ((on 13 (Statement-F.PrintText (Quoted 0))) ∷ []))) ∷ (on 15 (Statement-F.Delete (Held (H.Local 0)))) ∷ []))) ∷ []) [] ((110 ∷ 117 ∷ 108
    ∷ 108 ∷ []) ∷ []) 0

second_object_takes_the_place_of_the_first_run : run script_second_object_takes_the_place_of_the_first_run R.Unlimited 10000 (shaped 4096
    4096) ≡ result (Panicked (P.Workbench 1)) ((line 1 144 0 Granted) ∷ (line 2 32 144 Granted) ∷ (line 3 32 176 Granted) ∷ (line 4 32 144
    Granted) ∷ []) ((110 ∷ 117 ∷ 108 ∷ 108 ∷ []) ∷ []) [] 10
unfolding everything
second_object_takes_the_place_of_the_first_run = refl

abbrev script_self_freed_while_it_is_made_run : Script
script_self_freed_while_it_is_made_run = script ((class_of 1 0 (None ∷ []) (Some (body [] ((on 4 (Statement-F.Free (Held H.This))) ∷ (on 5
    (Statement-F.If (IsNull (Field H.This 0 0)) [])) ∷ []))) None) ∷ []) ((procedure 9 [] (body ((OfPointer (Some 0)) ∷ []) ((on 11
    (Statement-F.New (Held (H.Local 0)) 0 Leaves)) ∷ (on 12 (Statement-F.Construct (Held (H.Local 0)))) ∷ []))) ∷ []) [] [] 0

self_freed_while_it_is_made_run : run script_self_freed_while_it_is_made_run R.Unlimited 10000 (shaped 4096 4096) ≡ result (Panicked
    (P.Workbench 1)) ((line 1 144 0 Granted) ∷ (line 2 32 144 Granted) ∷ []) [] [] 4
unfolding everything
self_freed_while_it_is_made_run = refl

abbrev script_self_is_compared_and_kept_run : Script
script_self_is_compared_and_kept_run = script ((class_of 1 0 ((Some 0) ∷ []) (Some (body [] ((on 4 (Statement-F.Set (Field H.This 0 0) (Held
    H.This))) ∷ []))) (Some (body [] ((on 7 (Statement-F.SetNull (Field H.This 0 0))) ∷ [])))) ∷ []) ((procedure 10 [] (body ((OfPointer
    (Some 0)) ∷ []) ((on 12 (Statement-F.New (Held (H.Local 0)) 0 Leaves)) ∷ (on 13 (Statement-F.Construct (Held (H.Local 0)))) ∷ (on 14
    (Statement-F.PushObject (Field (H.Local 0) 0 0))) ∷ (on 15 (Statement-F.PopCheck (Held (H.Local 0)))) ∷ (on 16 (Statement-F.Delete (Held
    (H.Local 0)))) ∷ []))) ∷ []) [] [] 0

self_is_compared_and_kept_run : run script_self_is_compared_and_kept_run R.Unlimited 10000 (shaped 4096 4096) ≡ result (Ended None [])
    ((line 1 144 0 Granted) ∷ (line 2 32 144 Granted) ∷ []) [] [] 8
unfolding everything
self_is_compared_and_kept_run = refl

abbrev script_self_is_passed_and_a_procedure_has_none_of_its_own_run : Script
script_self_is_passed_and_a_procedure_has_none_of_its_own_run = script ((class_of 1 0 (None ∷ []) (Some (body [] ((on 4 (Statement-F.Call 0
    ((Passed (Held H.This)) ∷ []))) ∷ []))) (Some (body [] ((on 7 (Statement-F.Free (Field H.This 0 0))) ∷ [])))) ∷ []) ((procedure 10
    ((Par.OfPointer (Some 0)) ∷ []) (body [] ((on 11 (Statement-F.Alloc (Field (H.Local 0) 0 0) (Constant (pos 4)) Leaves)) ∷ []))) ∷
    (procedure 13 [] (body ((OfPointer (Some 0)) ∷ []) ((on 15 (Statement-F.New (Held (H.Local 0)) 0 Leaves)) ∷ (on 16
    (Statement-F.Construct (Held (H.Local 0)))) ∷ (on 17 (Statement-F.Delete (Held (H.Local 0)))) ∷ []))) ∷ []) [] [] 1

self_is_passed_and_a_procedure_has_none_of_its_own_run : run script_self_is_passed_and_a_procedure_has_none_of_its_own_run R.Unlimited 10000
    (shaped 4096 4096) ≡ result (Ended None []) ((line 1 144 0 Granted) ∷ (line 2 32 144 Granted) ∷ (line 3 32 176 Granted) ∷ []) [] [] 7
unfolding everything
self_is_passed_and_a_procedure_has_none_of_its_own_run = refl
