-- Worked cases of `guide`, each by computing. Written by tools/cases_to_theorems.py; edit nothing here.
use Rattle.std.specs.Prelude.{◌≡◌, refl, pos, negsuc, [], ◌∷◌, Some, None}
use Rattle.wb_heap_model.specs.declared.heap.Rule.TheVariants as R
use Rattle.wb_heap_model.specs.declared.heap.Panic.TheVariants as P
use Rattle.wb_tree.specs.declared.script.Holder.TheVariants as H
use Rattle.wb_heap_model.specs.declared.heap.Answer.TheVariants.{Granted, Simulated}
use Rattle.wb_meaning.specs.declared.run.Outcome.TheVariants.{Ended, Panicked}
use Rattle.wb_tree.specs.declared.script.Script.{Script}
use Rattle.wb_tree.specs.declared.script.Parameter.TheVariants as Par
use Rattle.wb_tree.specs.declared.script.Local.TheVariants.{OfPointer, OfNumber, OfBuffer, OfView}
use Rattle.wb_tree.specs.declared.script.Pointer.TheVariants.{Held, Field}
use Rattle.wb_tree.specs.declared.script.Number.TheVariants.{Constant, Variable}
use Rattle.wb_tree.specs.declared.script.Writable.TheVariants.{OwnBuffer, InCell}
use Rattle.wb_tree.specs.declared.script.Readable.TheVariants.{Of, ViewOf, Quoted}
use Rattle.wb_tree.specs.declared.script.Condition.TheVariants.{NotNull, Less}
use Rattle.wb_tree.specs.declared.script.Argument.TheVariants.{Passed, Given}
use Rattle.wb_tree.specs.declared.script.Refusal.TheVariants.{GivesNull, Leaves}
use Rattle.wb_tree.specs.declared.script.Statement.TheOpen.{Statement-F}
use Rattle.wb_meaning.specs.Run.{run}
use Rattle.wb_worked.specs.Shorthands.{everything, on, script, class_of, procedure, operation, body, result, leak, shaped, line}

abbrev script_cell_in_a_mark_run : Script
script_cell_in_a_mark_run = script [] ((procedure 2 [] (body ((OfPointer None) ∷ (OfPointer None) ∷ []) ((on 5 (Statement-F.Alloc (Held
    (H.Local 0)) (Constant (pos 1)) GivesNull)) ∷ (on 6 Statement-F.Mark) ∷ (on 7 (Statement-F.Alloc (Held (H.Local 1)) (Constant (pos 1))
    GivesNull)) ∷ (on 8 (Statement-F.Check (Constant (pos 1)))) ∷ (on 9 (Statement-F.CheckAll (Constant (pos 2)))) ∷ (on 10
    (Statement-F.MarkEnd (Constant (pos 0)))) ∷ []))) ∷ []) [] [] 0

cell_in_a_mark_run : run script_cell_in_a_mark_run R.Unlimited 10000 (shaped 4096 4096) ≡ result (Panicked (P.Alloc 176)) ((line 1 144 0
    Granted) ∷ (line 2 32 144 Granted) ∷ (line 3 32 176 Granted) ∷ []) [] [] 6
unfolding everything
cell_in_a_mark_run = refl

abbrev script_failing_requests_run : Script
script_failing_requests_run = script [] ((procedure 2 [] (body ((OfPointer None) ∷ (OfPointer None) ∷ []) ((on 5 (Statement-F.FailNext
    (Constant (pos 2)))) ∷ (on 6 (Statement-F.Alloc (Held (H.Local 0)) (Constant (pos 1)) GivesNull)) ∷ (on 7 (Statement-F.Alloc (Held
    (H.Local 1)) (Constant (pos 1)) GivesNull)) ∷ (on 8 (Statement-F.FailEvery (Constant (pos 1)))) ∷ (on 9 (Statement-F.Realloc (Held
    (H.Local 1)) (Held (H.Local 1)) (Constant (pos 17)) GivesNull)) ∷ (on 10 Statement-F.FailNone) ∷ (on 11 (Statement-F.Realloc (Held
    (H.Local 0)) (Held (H.Local 0)) (Constant (pos 17)) GivesNull)) ∷ (on 12 (Statement-F.Free (Held (H.Local 0)))) ∷ []))) ∷ []) [] [] 0

failing_requests_run : run script_failing_requests_run R.Unlimited 10000 (shaped 4096 4096) ≡ result (Ended None []) ((line 1 144 0 Granted)
    ∷ (line 2 32 144 Granted) ∷ (line 3 32 176 Simulated) ∷ (line 4 48 176 Simulated) ∷ (line 5 48 144 Granted) ∷ []) [] [] 8
unfolding everything
failing_requests_run = refl

abbrev script_items_come_off_run : Script
script_items_come_off_run = script [] ((procedure 2 [] (body ((OfPointer None) ∷ (OfPointer None) ∷ (OfPointer None) ∷ OfNumber ∷ []) ((on 7
    (Statement-F.NewText (Held (H.Local 0)) (Constant (pos 4)) Leaves)) ∷ (on 8 (Statement-F.Push (Held (H.Local 0)))) ∷ (on 9
    (Statement-F.Alloc (Held (H.Local 1)) (Constant (pos 16)) Leaves)) ∷ (on 10 (Statement-F.Push (Held (H.Local 1)))) ∷ (on 11
    (Statement-F.Alloc (Held (H.Local 2)) (Constant (pos 100)) Leaves)) ∷ (on 12 (Statement-F.Push (Held (H.Local 2)))) ∷ (on 13
    (Statement-F.PopDestroy (Constant (pos 2)))) ∷ (on 14 (Statement-F.CheckAll (Constant (pos 1)))) ∷ (on 15 (Statement-F.Pop (Constant
    (pos 1)))) ∷ (on 17 (Statement-F.AllocLen 3 (Held (H.Local 0)))) ∷ (on 18 (Statement-F.PrintNumber (Variable 3))) ∷ (on 19
    (Statement-F.Free (Held (H.Local 0)))) ∷ []))) ∷ []) [] [] 0

items_come_off_run : run script_items_come_off_run R.Unlimited 10000 (shaped 4096 4096) ≡ result (Ended None []) ((line 1 144 0 Granted) ∷
    (line 2 32 144 Granted) ∷ (line 3 32 176 Granted) ∷ (line 4 128 208 Granted) ∷ []) ((49 ∷ 54 ∷ []) ∷ []) [] 14
unfolding everything
items_come_off_run = refl

abbrev script_items_of_a_leave_run : Script
script_items_of_a_leave_run = script [] ((procedure 2 [] (body ((OfPointer None) ∷ (OfPointer None) ∷ OfNumber ∷ []) ((on 6
    (Statement-F.Alloc (Held (H.Local 0)) (Constant (pos 16)) Leaves)) ∷ (on 7 (Statement-F.Push (Held (H.Local 0)))) ∷ (on 8
    (Statement-F.Trap 2 ((on 9 (Statement-F.Alloc (Held (H.Local 1)) (Constant (pos 100)) Leaves)) ∷ (on 10 (Statement-F.Push (Held (H.Local
    1)))) ∷ (on 11 (Statement-F.Leave (Constant (negsuc 19)))) ∷ []))) ∷ (on 13 (Statement-F.PrintNumber (Variable 2))) ∷ (on 15
    (Statement-F.CheckAll (Constant (pos 1)))) ∷ (on 16 (Statement-F.PopCheck (Held (H.Local 0)))) ∷ (on 17 (Statement-F.Free (Held (H.Local
    0)))) ∷ []))) ∷ []) [] [] 0

items_of_a_leave_run : run script_items_of_a_leave_run R.Unlimited 10000 (shaped 4096 4096) ≡ result (Ended None []) ((line 1 144 0 Granted)
    ∷ (line 2 32 144 Granted) ∷ (line 3 128 176 Granted) ∷ []) ((45 ∷ 50 ∷ 48 ∷ []) ∷ []) [] 11
unfolding everything
items_of_a_leave_run = refl

abbrev script_leave_is_trapped_run : Script
script_leave_is_trapped_run = script [] ((procedure 2 [] (body ((OfPointer None) ∷ (OfPointer None) ∷ OfNumber ∷ []) ((on 6
    (Statement-F.FailNext (Constant (pos 2)))) ∷ (on 7 (Statement-F.Trap 2 ((on 8 (Statement-F.Alloc (Held (H.Local 0)) (Constant (pos 20))
    Leaves)) ∷ (on 9 (Statement-F.Alloc (Held (H.Local 1)) (Constant (pos 20)) Leaves)) ∷ (on 10 (Statement-F.PrintText (Quoted 0))) ∷ [])))
    ∷ (on 12 (Statement-F.PrintNumber (Variable 2))) ∷ (on 13 (Statement-F.Free (Held (H.Local 0)))) ∷ (on 14 (Statement-F.Free (Held
    (H.Local 1)))) ∷ []))) ∷ []) [] ((98 ∷ 111 ∷ 116 ∷ 104 ∷ []) ∷ []) 0

leave_is_trapped_run : run script_leave_is_trapped_run R.Unlimited 10000 (shaped 4096 4096) ≡ result (Ended None []) ((line 1 144 0 Granted)
    ∷ (line 2 48 144 Granted) ∷ (line 3 48 192 Simulated) ∷ []) ((45 ∷ 52 ∷ []) ∷ []) [] 7
unfolding everything
leave_is_trapped_run = refl

abbrev script_name_in_a_cell_run : Script
script_name_in_a_cell_run = script [] ((procedure 2 [] (body ((OfPointer None) ∷ OfNumber ∷ []) ((on 5 (Statement-F.NewText (Held (H.Local
    0)) (Constant (pos 4)) GivesNull)) ∷ (on 6 (Statement-F.GetMaximum 1 (InCell (Held (H.Local 0))))) ∷ (on 7 (Statement-F.PrintNumber
    (Variable 1))) ∷ (on 8 (Statement-F.Append (InCell (Held (H.Local 0))) (Quoted 0))) ∷ (on 9 (Statement-F.ReallocText (Held (H.Local 0))
    (Held (H.Local 0)) (Constant (pos 10)))) ∷ (on 10 (Statement-F.Append (InCell (Held (H.Local 0))) (Quoted 1))) ∷ (on 11
    (Statement-F.PrintText (Of (InCell (Held (H.Local 0)))))) ∷ (on 12 (Statement-F.Free (Held (H.Local 0)))) ∷ []))) ∷ []) [] ((83 ∷ 121 ∷
    109 ∷ []) ∷ (98 ∷ 105 ∷ 97 ∷ 110 ∷ 32 ∷ 79 ∷ 83 ∷ []) ∷ []) 0

name_in_a_cell_run : run script_name_in_a_cell_run R.Unlimited 10000 (shaped 4096 4096) ≡ result (Ended None []) ((line 1 144 0 Granted) ∷
    (line 2 32 144 Granted) ∷ (line 3 48 144 Granted) ∷ []) ((54 ∷ []) ∷ (83 ∷ 121 ∷ 109 ∷ 98 ∷ 105 ∷ 97 ∷ 110 ∷ 32 ∷ 79 ∷ 83 ∷ []) ∷ []) []
    8
unfolding everything
name_in_a_cell_run = refl

abbrev script_note_that_owns_its_text_run : Script
script_note_that_owns_its_text_run = script ((class_of 2 4 (None ∷ []) (Some (body [] ((on 5 (Statement-F.NewText (Field H.This 0 0)
    (Constant (pos 16)) Leaves)) ∷ (on 6 (Statement-F.Copy (InCell (Field H.This 0 0)) (Quoted 0))) ∷ []))) (Some (body [] ((on 9
    (Statement-F.Free (Field H.This 0 0))) ∷ [])))) ∷ []) ((procedure 12 [] (body ((OfPointer (Some 0)) ∷ []) ((on 14 (Statement-F.New (Held
    (H.Local 0)) 0 Leaves)) ∷ (on 15 (Statement-F.PushObject (Held (H.Local 0)))) ∷ (on 16 (Statement-F.Construct (Held (H.Local 0)))) ∷ (on
    17 (Statement-F.PrintText (Of (InCell (Field (H.Local 0) 0 0))))) ∷ (on 18 (Statement-F.PopDestroy (Constant (pos 1)))) ∷ []))) ∷ []) []
    ((109 ∷ 105 ∷ 108 ∷ 107 ∷ []) ∷ []) 0

note_that_owns_its_text_run : run script_note_that_owns_its_text_run R.Unlimited 10000 (shaped 4096 4096) ≡ result (Ended None []) ((line 1
    144 0 Granted) ∷ (line 2 48 144 Granted) ∷ (line 3 64 192 Granted) ∷ []) ((109 ∷ 105 ∷ 108 ∷ 107 ∷ []) ∷ []) [] 10
unfolding everything
note_that_owns_its_text_run = refl

abbrev script_numbers_below_six_run : Script
script_numbers_below_six_run = script [] ((procedure 2 [] (body (OfNumber ∷ OfNumber ∷ []) ((on 5 (Statement-F.Repeat (Constant (pos 10))
    ((on 6 (Statement-F.IfElse (Less (Variable 0) (Constant (pos 6))) ((on 7 (Statement-F.Add 1 (Constant (pos 1)))) ∷ []) ((on 9
    (Statement-F.PrintNumber (Variable 0))) ∷ []))) ∷ (on 11 (Statement-F.Add 0 (Constant (pos 1)))) ∷ []))) ∷ (on 13
    (Statement-F.PrintNumber (Variable 1))) ∷ []))) ∷ []) [] [] 0

numbers_below_six_run : run script_numbers_below_six_run R.Unlimited 10000 (shaped 4096 4096) ≡ result (Ended None []) ((line 1 144 0
    Granted) ∷ []) ((54 ∷ []) ∷ (55 ∷ []) ∷ (56 ∷ []) ∷ (57 ∷ []) ∷ (54 ∷ []) ∷ []) [] 42
unfolding everything
numbers_below_six_run = refl

abbrev script_numbers_run : Script
script_numbers_run = script [] ((procedure 2 [] (body (OfNumber ∷ OfNumber ∷ []) ((on 5 (Statement-F.PrintNumber (Variable 0))) ∷ (on 6
    (Statement-F.SetNumber 0 (Constant (pos 3)))) ∷ (on 7 (Statement-F.Add 0 (Constant (negsuc 0)))) ∷ (on 8 (Statement-F.SetNumber 1
    (Constant (pos 40)))) ∷ (on 9 (Statement-F.Add 1 (Variable 0))) ∷ (on 10 (Statement-F.PrintNumber (Variable 1))) ∷ []))) ∷ []) [] [] 0

numbers_run : run script_numbers_run R.Unlimited 10000 (shaped 4096 4096) ≡ result (Ended None []) ((line 1 144 0 Granted) ∷ []) ((48 ∷ [])
    ∷ (52 ∷ 50 ∷ []) ∷ []) [] 6
unfolding everything
numbers_run = refl

abbrev script_operation_of_an_item_run : Script
script_operation_of_an_item_run = script [] ((procedure 11 [] (body ((OfPointer None) ∷ OfNumber ∷ []) ((on 14 (Statement-F.Trap 1 ((on 15
    (Statement-F.Alloc (Held (H.Local 0)) (Constant (pos 8)) Leaves)) ∷ (on 16 (Statement-F.Store (Held (H.Local 0)) (Constant (pos 0))
    (Constant (pos 1)))) ∷ (on 17 (Statement-F.PushOperation (Held (H.Local 0)) 0)) ∷ (on 18 (Statement-F.Leave (Constant (negsuc 19)))) ∷
    []))) ∷ (on 20 (Statement-F.PrintNumber (Variable 1))) ∷ (on 21 (Statement-F.CheckAll (Constant (pos 0)))) ∷ []))) ∷ []) ((operation 2
    (body (OfNumber ∷ []) ((on 4 (Statement-F.Load 1 (Held (H.Local 0)) (Constant (pos 0)))) ∷ (on 5 (Statement-F.If (Less (Constant (pos
    0)) (Variable 1)) ((on 6 (Statement-F.PrintText (Quoted 0))) ∷ (on 7 (Statement-F.Store (Held (H.Local 0)) (Constant (pos 0)) (Constant
    (pos 0)))) ∷ []))) ∷ (on 9 (Statement-F.Free (Held (H.Local 0)))) ∷ []))) ∷ []) ((99 ∷ 108 ∷ 111 ∷ 115 ∷ 105 ∷ 110 ∷ 103 ∷ []) ∷ []) 0

operation_of_an_item_run : run script_operation_of_an_item_run R.Unlimited 10000 (shaped 4096 4096) ≡ result (Ended None []) ((line 1 144 0
    Granted) ∷ (line 2 32 144 Granted) ∷ []) ((99 ∷ 108 ∷ 111 ∷ 115 ∷ 105 ∷ 110 ∷ 103 ∷ []) ∷ (45 ∷ 50 ∷ 48 ∷ []) ∷ []) [] 13
unfolding everything
operation_of_an_item_run = refl

abbrev script_owner_deletes_its_member_run : Script
script_owner_deletes_its_member_run = script ((class_of 2 0 ((Some 1) ∷ []) None (Some (body [] ((on 5 (Statement-F.PrintText (Quoted 0))) ∷
    [])))) ∷ (class_of 8 0 ((Some 0) ∷ []) (Some (body ((OfPointer (Some 0)) ∷ []) ((on 12 (Statement-F.New (Held (H.Local 0)) 0 Leaves)) ∷
    (on 13 (Statement-F.Set (Field H.This 1 0) (Held (H.Local 0)))) ∷ (on 14 (Statement-F.Set (Field (H.Local 0) 0 0) (Held H.This))) ∷
    []))) (Some (body [] ((on 17 (Statement-F.Delete (Field H.This 1 0))) ∷ (on 18 (Statement-F.PrintText (Quoted 1))) ∷ [])))) ∷ [])
    ((procedure 21 [] (body ((OfPointer (Some 1)) ∷ []) ((on 23 (Statement-F.New (Held (H.Local 0)) 1 Leaves)) ∷ (on 24
    (Statement-F.Construct (Held (H.Local 0)))) ∷ (on 25 (Statement-F.Delete (Held (H.Local 0)))) ∷ []))) ∷ []) [] ((105 ∷ 116 ∷ 101 ∷ 109 ∷
    []) ∷ (108 ∷ 105 ∷ 115 ∷ 116 ∷ []) ∷ []) 0

owner_deletes_its_member_run : run script_owner_deletes_its_member_run R.Unlimited 10000 (shaped 4096 4096) ≡ result (Ended None []) ((line
    1 144 0 Granted) ∷ (line 2 32 144 Granted) ∷ (line 3 32 176 Granted) ∷ []) ((105 ∷ 116 ∷ 101 ∷ 109 ∷ []) ∷ (108 ∷ 105 ∷ 115 ∷ 116 ∷ [])
    ∷ []) [] 11
unfolding everything
owner_deletes_its_member_run = refl

abbrev script_pointer_to_a_moved_cell_run : Script
script_pointer_to_a_moved_cell_run = script [] ((procedure 2 [] (body ((OfPointer None) ∷ (OfPointer None) ∷ (OfPointer None) ∷ []) ((on 6
    (Statement-F.Alloc (Held (H.Local 0)) (Constant (pos 16)) GivesNull)) ∷ (on 7 (Statement-F.Alloc (Held (H.Local 1)) (Constant (pos 16))
    GivesNull)) ∷ (on 8 (Statement-F.Set (Held (H.Local 2)) (Held (H.Local 0)))) ∷ (on 9 (Statement-F.Realloc (Held (H.Local 0)) (Held
    (H.Local 0)) (Constant (pos 32)) GivesNull)) ∷ (on 10 (Statement-F.Free (Held (H.Local 1)))) ∷ (on 11 (Statement-F.SetNull (Held
    (H.Local 1)))) ∷ (on 12 (Statement-F.Free (Held (H.Local 1)))) ∷ (on 13 (Statement-F.Free (Held (H.Local 2)))) ∷ []))) ∷ []) [] [] 0

pointer_to_a_moved_cell_run : run script_pointer_to_a_moved_cell_run R.Unlimited 10000 (shaped 4096 4096) ≡ result (Panicked (P.User 42))
    ((line 1 144 0 Granted) ∷ (line 2 32 144 Granted) ∷ (line 3 32 176 Granted) ∷ (line 4 48 208 Granted) ∷ []) [] [] 8
unfolding everything
pointer_to_a_moved_cell_run = refl

abbrev script_push_that_leaves_run : Script
script_push_that_leaves_run = script [] ((procedure 2 [] (body ((OfPointer None) ∷ OfNumber ∷ []) ((on 6 (Statement-F.FailNext (Constant
    (pos 9)))) ∷ (on 7 (Statement-F.Trap 1 ((on 8 (Statement-F.Repeat (Constant (pos 8)) ((on 9 (Statement-F.Alloc (Held (H.Local 0))
    (Constant (pos 16)) Leaves)) ∷ (on 10 (Statement-F.Push (Held (H.Local 0)))) ∷ []))) ∷ (on 12 (Statement-F.PopDestroy (Constant (pos
    8)))) ∷ []))) ∷ (on 14 (Statement-F.PrintNumber (Variable 1))) ∷ (on 15 (Statement-F.CheckAll (Constant (pos 0)))) ∷ []))) ∷ []) [] [] 0

push_that_leaves_run : run script_push_that_leaves_run R.Unlimited 10000 (shaped 4096 4096) ≡ result (Ended None []) ((line 1 144 0 Granted)
    ∷ (line 2 32 144 Granted) ∷ (line 3 32 176 Granted) ∷ (line 4 32 208 Granted) ∷ (line 5 32 240 Granted) ∷ (line 6 32 272 Granted) ∷
    (line 7 32 304 Granted) ∷ (line 8 32 336 Granted) ∷ (line 9 32 368 Granted) ∷ (line 10 208 400 Simulated) ∷ []) ((45 ∷ 52 ∷ []) ∷ []) []
    37
unfolding everything
push_that_leaves_run = refl

abbrev script_table_from_a_procedure_run : Script
script_table_from_a_procedure_run = script [] ((procedure 2 (Par.OfNumber ∷ []) (body ((OfPointer None) ∷ OfNumber ∷ []) ((on 6
    (Statement-F.Repeat (Variable 0) ((on 7 (Statement-F.Add 2 (Constant (pos 4)))) ∷ []))) ∷ (on 9 (Statement-F.Alloc (Held (H.Local 1))
    (Variable 2) GivesNull)) ∷ (on 10 (Statement-F.ReturnPointer (Held (H.Local 1)))) ∷ []))) ∷ (procedure 13 ((Par.OfPointer None) ∷
    Par.OfNumber ∷ []) (body (OfNumber ∷ []) ((on 15 (Statement-F.Repeat (Variable 1) ((on 16 (Statement-F.Store (Held (H.Local 0))
    (Variable 2) (Constant (pos 7)))) ∷ (on 17 (Statement-F.Add 2 (Constant (pos 1)))) ∷ []))) ∷ []))) ∷ (procedure 21 [] (body ((OfPointer
    None) ∷ OfNumber ∷ []) ((on 24 (Statement-F.CallTo 0 0 ((Given (Constant (pos 3))) ∷ []))) ∷ (on 25 (Statement-F.If (NotNull (Held
    (H.Local 0))) ((on 26 (Statement-F.Call 1 ((Passed (Held (H.Local 0))) ∷ (Given (Constant (pos 3))) ∷ []))) ∷ (on 27 (Statement-F.Load 1
    (Held (H.Local 0)) (Constant (pos 2)))) ∷ (on 28 (Statement-F.PrintNumber (Variable 1))) ∷ (on 29 (Statement-F.Free (Held (H.Local 0))))
    ∷ []))) ∷ []))) ∷ []) [] [] 2

table_from_a_procedure_run : run script_table_from_a_procedure_run R.Unlimited 10000 (shaped 4096 4096) ≡ result (Ended None []) ((line 1
    144 0 Granted) ∷ (line 2 32 144 Granted) ∷ []) ((55 ∷ []) ∷ []) [] 25
unfolding everything
table_from_a_procedure_run = refl

abbrev script_two_cells_run : Script
script_two_cells_run = script [] ((procedure 2 [] (body ((OfPointer None) ∷ (OfPointer None) ∷ []) ((on 5 (Statement-F.Alloc (Held (H.Local
    0)) (Constant (pos 10)) GivesNull)) ∷ (on 6 (Statement-F.Alloc (Held (H.Local 1)) (Constant (pos 100)) GivesNull)) ∷ (on 7
    (Statement-F.Free (Held (H.Local 0)))) ∷ (on 8 (Statement-F.PrintText (Quoted 0))) ∷ []))) ∷ []) [] ((111 ∷ 110 ∷ 101 ∷ 32 ∷ 105 ∷ 115 ∷
    32 ∷ 108 ∷ 101 ∷ 102 ∷ 116 ∷ []) ∷ []) 0

two_cells_run : run script_two_cells_run R.Unlimited 10000 (shaped 4096 4096) ≡ result (Ended None ((leak 3 128 176) ∷ [])) ((line 1 144 0
    Granted) ∷ (line 2 32 144 Granted) ∷ (line 3 128 176 Granted) ∷ []) ((111 ∷ 110 ∷ 101 ∷ 32 ∷ 105 ∷ 115 ∷ 32 ∷ 108 ∷ 101 ∷ 102 ∷ 116 ∷
    []) ∷ []) [] 4
unfolding everything
two_cells_run = refl

abbrev script_views_of_a_date_run : Script
script_views_of_a_date_run = script [] ((procedure 2 [] (body ((OfBuffer 8) ∷ OfView ∷ OfView ∷ []) ((on 6 (Statement-F.Copy (OwnBuffer 0)
    (Quoted 0))) ∷ (on 7 (Statement-F.Left 1 (Of (OwnBuffer 0)) (Constant (pos 4)))) ∷ (on 8 (Statement-F.Right 2 (Of (OwnBuffer 0))
    (Constant (pos 2)))) ∷ (on 9 (Statement-F.PrintText (ViewOf 1))) ∷ (on 10 (Statement-F.PrintText (ViewOf 2))) ∷ (on 11 (Statement-F.Mid
    2 (Of (OwnBuffer 0)) (Constant (pos 4)) (Constant (pos 2)))) ∷ (on 12 (Statement-F.Copy (OwnBuffer 0) (Quoted 1))) ∷ (on 13
    (Statement-F.PrintText (ViewOf 1))) ∷ (on 14 (Statement-F.PrintText (ViewOf 2))) ∷ []))) ∷ []) [] ((50 ∷ 48 ∷ 48 ∷ 51 ∷ 49 ∷ 50 ∷ 50 ∷
    52 ∷ []) ∷ (49 ∷ 57 ∷ 57 ∷ 57 ∷ []) ∷ []) 0

views_of_a_date_run : run script_views_of_a_date_run R.Unlimited 10000 (shaped 4096 4096) ≡ result (Ended None []) ((line 1 144 0 Granted) ∷
    []) ((50 ∷ 48 ∷ 48 ∷ 51 ∷ []) ∷ (50 ∷ 52 ∷ []) ∷ (49 ∷ 57 ∷ 57 ∷ 57 ∷ []) ∷ (46 ∷ 46 ∷ []) ∷ []) [] 9
unfolding everything
views_of_a_date_run = refl

abbrev script_weather_in_a_buffer_run : Script
script_weather_in_a_buffer_run = script [] ((procedure 2 [] (body ((OfBuffer 12) ∷ OfNumber ∷ []) ((on 5 (Statement-F.Copy (OwnBuffer 0)
    (Quoted 0))) ∷ (on 6 (Statement-F.Insert (OwnBuffer 0) (Constant (pos 0)) (Quoted 1))) ∷ (on 7 (Statement-F.DeleteText (OwnBuffer 0)
    (Constant (pos 0)) (Constant (pos 1)))) ∷ (on 8 (Statement-F.Append (OwnBuffer 0) (Quoted 2))) ∷ (on 9 (Statement-F.Insert (OwnBuffer 0)
    (Constant (pos 4)) (Quoted 3))) ∷ (on 10 (Statement-F.PrintText (Of (OwnBuffer 0)))) ∷ (on 11 (Statement-F.SetLength (OwnBuffer 0)
    (Constant (pos 4)))) ∷ (on 12 (Statement-F.GetLength 1 (Of (OwnBuffer 0)))) ∷ (on 13 (Statement-F.PrintNumber (Variable 1))) ∷ (on 14
    (Statement-F.GetMaximum 1 (OwnBuffer 0))) ∷ (on 15 (Statement-F.PrintNumber (Variable 1))) ∷ []))) ∷ []) [] ((99 ∷ 111 ∷ 108 ∷ 100 ∷ [])
    ∷ (115 ∷ []) ∷ (32 ∷ 100 ∷ 97 ∷ 121 ∷ []) ∷ (101 ∷ 114 ∷ []) ∷ []) 0

weather_in_a_buffer_run : run script_weather_in_a_buffer_run R.Unlimited 10000 (shaped 4096 4096) ≡ result (Ended None []) ((line 1 144 0
    Granted) ∷ []) ((99 ∷ 111 ∷ 108 ∷ 100 ∷ 101 ∷ 114 ∷ 32 ∷ 100 ∷ 97 ∷ 121 ∷ []) ∷ (52 ∷ []) ∷ (49 ∷ 50 ∷ []) ∷ []) [] 11
unfolding everything
weather_in_a_buffer_run = refl

abbrev script_what_leaves_and_what_does_not_run : Script
script_what_leaves_and_what_does_not_run = script [] ((procedure 2 [] (body ((OfPointer None) ∷ (OfPointer None) ∷ OfNumber ∷ []) ((on 6
    (Statement-F.Trap 2 ((on 7 (Statement-F.LeaveIfError (Constant (pos 0)))) ∷ (on 8 (Statement-F.LeaveIfNull (Held (H.Local 0)))) ∷ (on 9
    (Statement-F.PrintText (Quoted 0))) ∷ []))) ∷ (on 11 (Statement-F.PrintNumber (Variable 2))) ∷ (on 12 (Statement-F.Trap 2 ((on 13
    (Statement-F.NewText (Held (H.Local 1)) (Constant (pos 4)) Leaves)) ∷ (on 14 (Statement-F.Append (InCell (Held (H.Local 1))) (Quoted
    1))) ∷ (on 15 (Statement-F.LeaveIfError (Constant (negsuc 19)))) ∷ []))) ∷ (on 17 (Statement-F.PrintNumber (Variable 2))) ∷ (on 18
    (Statement-F.PrintText (Of (InCell (Held (H.Local 1)))))) ∷ (on 19 (Statement-F.Free (Held (H.Local 1)))) ∷ (on 20 (Statement-F.Leave
    (Constant (pos 3)))) ∷ []))) ∷ []) [] ((110 ∷ 101 ∷ 118 ∷ 101 ∷ 114 ∷ []) ∷ (111 ∷ 107 ∷ []) ∷ []) 0

what_leaves_and_what_does_not_run : run script_what_leaves_and_what_does_not_run R.Unlimited 10000 (shaped 4096 4096) ≡ result (Ended (Some
    (pos 3)) []) ((line 1 144 0 Granted) ∷ (line 2 32 144 Granted) ∷ []) ((45 ∷ 52 ∷ []) ∷ (45 ∷ 50 ∷ 48 ∷ []) ∷ (111 ∷ 107 ∷ []) ∷ []) []
    12
unfolding everything
what_leaves_and_what_does_not_run = refl

abbrev script_words_of_a_table_run : Script
script_words_of_a_table_run = script [] ((procedure 2 [] (body ((OfPointer None) ∷ OfNumber ∷ OfNumber ∷ []) ((on 6 (Statement-F.Alloc (Held
    (H.Local 0)) (Constant (pos 10)) GivesNull)) ∷ (on 7 (Statement-F.AllocLen 1 (Held (H.Local 0)))) ∷ (on 8 (Statement-F.PrintNumber
    (Variable 1))) ∷ (on 9 (Statement-F.Store (Held (H.Local 0)) (Constant (pos 3)) (Constant (negsuc 6)))) ∷ (on 10 (Statement-F.Realloc
    (Held (H.Local 0)) (Held (H.Local 0)) (Constant (pos 40)) GivesNull)) ∷ (on 11 (Statement-F.AllocLen 1 (Held (H.Local 0)))) ∷ (on 12
    (Statement-F.PrintNumber (Variable 1))) ∷ (on 13 (Statement-F.Load 2 (Held (H.Local 0)) (Constant (pos 3)))) ∷ (on 14
    (Statement-F.PrintNumber (Variable 2))) ∷ (on 15 (Statement-F.Load 2 (Held (H.Local 0)) (Constant (pos 11)))) ∷ (on 16
    (Statement-F.PrintNumber (Variable 2))) ∷ (on 17 (Statement-F.Free (Held (H.Local 0)))) ∷ []))) ∷ []) [] [] 0

words_of_a_table_run : run script_words_of_a_table_run R.Unlimited 10000 (shaped 4096 4096) ≡ result (Ended None []) ((line 1 144 0 Granted)
    ∷ (line 2 32 144 Granted) ∷ (line 3 64 144 Granted) ∷ []) ((49 ∷ 54 ∷ []) ∷ (52 ∷ 56 ∷ []) ∷ (45 ∷ 55 ∷ []) ∷ (48 ∷ []) ∷ []) [] 12
unfolding everything
words_of_a_table_run = refl
