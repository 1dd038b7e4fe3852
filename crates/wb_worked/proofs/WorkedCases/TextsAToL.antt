-- Worked cases of `texts`, each by computing. Written by tools/cases_to_theorems.py; edit nothing here.
use Rattle.std.specs.Prelude.{◌≡◌, refl, pos, negsuc, [], ◌∷◌, None}
use Rattle.wb_heap_model.specs.declared.heap.Rule.TheVariants as R
use Rattle.wb_heap_model.specs.declared.heap.Panic.TheVariants as P
use Rattle.wb_tree.specs.declared.script.Holder.TheVariants as H
use Rattle.wb_heap_model.specs.declared.heap.Answer.TheVariants.{Granted}
use Rattle.wb_meaning.specs.declared.run.Outcome.TheVariants.{Ended, Panicked}
use Rattle.wb_tree.specs.declared.script.Script.{Script}
use Rattle.wb_tree.specs.declared.script.Local.TheVariants.{OfPointer, OfNumber, OfBuffer, OfView}
use Rattle.wb_tree.specs.declared.script.Pointer.TheVariants.{Held}
use Rattle.wb_tree.specs.declared.script.Number.TheVariants.{Constant, Variable}
use Rattle.wb_tree.specs.declared.script.Writable.TheVariants.{OwnBuffer, InCell}
use Rattle.wb_tree.specs.declared.script.Readable.TheVariants.{Of, ViewOf, Quoted}
use Rattle.wb_tree.specs.declared.script.Refusal.TheVariants.{GivesNull}
use Rattle.wb_tree.specs.declared.script.Statement.TheOpen.{Statement-F}
use Rattle.wb_meaning.specs.Run.{run}
use Rattle.wb_worked.specs.Shorthands.{everything, on, script, procedure, body, result, shaped, line}

abbrev script_append_of_null_run : Script
script_append_of_null_run = script [] ((procedure 2 [] (body ((OfPointer None) ∷ (OfBuffer 3) ∷ []) ((on 5 (Statement-F.Append (OwnBuffer 1)
    (Of (InCell (Held (H.Local 0)))))) ∷ []))) ∷ []) [] [] 0

append_of_null_run : run script_append_of_null_run R.Unlimited 10000 (shaped 4096 4096) ≡ result (Panicked (P.Workbench 1)) ((line 1 144 0
    Granted) ∷ []) [] [] 1
unfolding everything
append_of_null_run = refl

abbrev script_append_past_the_end_of_the_buffer_run : Script
script_append_past_the_end_of_the_buffer_run = script [] ((procedure 1 [] (body ((OfBuffer 3) ∷ []) ((on 3 (Statement-F.Append (OwnBuffer 0)
    (Quoted 0))) ∷ (on 4 (Statement-F.Append (OwnBuffer 0) (Quoted 1))) ∷ []))) ∷ []) [] ((97 ∷ 98 ∷ []) ∷ (99 ∷ 100 ∷ []) ∷ []) 0

append_past_the_end_of_the_buffer_run : run script_append_past_the_end_of_the_buffer_run R.Unlimited 10000 (shaped 4096 4096) ≡ result
    (Panicked (P.User 11)) ((line 1 144 0 Granted) ∷ []) [] [] 2
unfolding everything
append_past_the_end_of_the_buffer_run = refl

abbrev script_buffer_is_copied_appended_and_inserted_run : Script
script_buffer_is_copied_appended_and_inserted_run = script [] ((procedure 1 [] (body ((OfBuffer 10) ∷ OfNumber ∷ []) ((on 4
    (Statement-F.GetMaximum 1 (OwnBuffer 0))) ∷ (on 5 (Statement-F.PrintNumber (Variable 1))) ∷ (on 6 (Statement-F.PrintText (Of (OwnBuffer
    0)))) ∷ (on 7 (Statement-F.Copy (OwnBuffer 0) (Quoted 0))) ∷ (on 8 (Statement-F.Insert (OwnBuffer 0) (Constant (pos 0)) (Quoted 1))) ∷
    (on 9 (Statement-F.Insert (OwnBuffer 0) (Constant (pos 4)) (Quoted 2))) ∷ (on 10 (Statement-F.Append (OwnBuffer 0) (Quoted 3))) ∷ (on 11
    (Statement-F.GetLength 1 (Of (OwnBuffer 0)))) ∷ (on 12 (Statement-F.PrintNumber (Variable 1))) ∷ (on 13 (Statement-F.PrintText (Of
    (OwnBuffer 0)))) ∷ (on 14 (Statement-F.Copy (OwnBuffer 0) (Quoted 4))) ∷ (on 15 (Statement-F.GetLength 1 (Of (OwnBuffer 0)))) ∷ (on 16
    (Statement-F.PrintNumber (Variable 1))) ∷ []))) ∷ []) [] ((98 ∷ 99 ∷ 100 ∷ []) ∷ (97 ∷ []) ∷ (122 ∷ []) ∷ (33 ∷ []) ∷ [] ∷ []) 0

buffer_is_copied_appended_and_inserted_run : run script_buffer_is_copied_appended_and_inserted_run R.Unlimited 10000 (shaped 4096 4096) ≡
    result (Ended None []) ((line 1 144 0 Granted) ∷ []) ((49 ∷ 48 ∷ []) ∷ [] ∷ (54 ∷ []) ∷ (97 ∷ 98 ∷ 99 ∷ 100 ∷ 122 ∷ 33 ∷ []) ∷ (48 ∷ [])
    ∷ []) [] 13
unfolding everything
buffer_is_copied_appended_and_inserted_run = refl

abbrev script_buffer_is_edited_again_and_again_run : Script
script_buffer_is_edited_again_and_again_run = script [] ((procedure 2 [] (body ((OfBuffer 8) ∷ OfNumber ∷ []) ((on 5 (Statement-F.Copy
    (OwnBuffer 0) (Quoted 0))) ∷ (on 6 (Statement-F.Append (OwnBuffer 0) (Quoted 1))) ∷ (on 7 (Statement-F.Insert (OwnBuffer 0) (Constant
    (pos 1)) (Quoted 2))) ∷ (on 8 (Statement-F.DeleteText (OwnBuffer 0) (Constant (pos 0)) (Constant (pos 1)))) ∷ (on 9
    (Statement-F.DeleteText (OwnBuffer 0) (Constant (pos 5)) (Constant (pos 99)))) ∷ (on 10 (Statement-F.PrintText (Of (OwnBuffer 0)))) ∷
    (on 11 (Statement-F.SetLength (OwnBuffer 0) (Constant (pos 7)))) ∷ (on 12 (Statement-F.PrintText (Of (OwnBuffer 0)))) ∷ (on 13
    (Statement-F.SetLength (OwnBuffer 0) (Constant (pos 3)))) ∷ (on 14 (Statement-F.Append (OwnBuffer 0) (Of (OwnBuffer 0)))) ∷ (on 15
    (Statement-F.PrintText (Of (OwnBuffer 0)))) ∷ (on 16 (Statement-F.GetLength 1 (Of (OwnBuffer 0)))) ∷ (on 17 (Statement-F.PrintNumber
    (Variable 1))) ∷ (on 18 (Statement-F.GetMaximum 1 (OwnBuffer 0))) ∷ (on 19 (Statement-F.PrintNumber (Variable 1))) ∷ []))) ∷ []) [] ((97
    ∷ 98 ∷ []) ∷ (99 ∷ 100 ∷ 101 ∷ 102 ∷ []) ∷ (97 ∷ 98 ∷ []) ∷ []) 0

buffer_is_edited_again_and_again_run : run script_buffer_is_edited_again_and_again_run R.Unlimited 10000 (shaped 4096 4096) ≡ result (Ended
    None []) ((line 1 144 0 Granted) ∷ []) ((97 ∷ 98 ∷ 98 ∷ 99 ∷ 100 ∷ []) ∷ (97 ∷ 98 ∷ 98 ∷ 99 ∷ 100 ∷ 46 ∷ 46 ∷ []) ∷ (97 ∷ 98 ∷ 98 ∷ 97 ∷
    98 ∷ 98 ∷ []) ∷ (54 ∷ []) ∷ (56 ∷ []) ∷ []) [] 15
unfolding everything
buffer_is_edited_again_and_again_run = refl

abbrev script_cell_text_appended_to_itself_past_its_maximum_run : Script
script_cell_text_appended_to_itself_past_its_maximum_run = script [] ((procedure 2 [] (body ((OfPointer None) ∷ []) ((on 4
    (Statement-F.NewText (Held (H.Local 0)) (Constant (pos 5)) GivesNull)) ∷ (on 5 (Statement-F.Copy (InCell (Held (H.Local 0))) (Quoted
    0))) ∷ (on 6 (Statement-F.Append (InCell (Held (H.Local 0))) (Of (InCell (Held (H.Local 0)))))) ∷ []))) ∷ []) [] ((99 ∷ 100 ∷ 101 ∷ 102
    ∷ []) ∷ []) 0

cell_text_appended_to_itself_past_its_maximum_run : run script_cell_text_appended_to_itself_past_its_maximum_run R.Unlimited 10000 (shaped
    4096 4096) ≡ result (Panicked (P.User 11)) ((line 1 144 0 Granted) ∷ (line 2 32 144 Granted) ∷ []) [] [] 3
unfolding everything
cell_text_appended_to_itself_past_its_maximum_run = refl

abbrev script_cell_text_appended_to_itself_run : Script
script_cell_text_appended_to_itself_run = script [] ((procedure 1 [] (body ((OfPointer None) ∷ OfView ∷ []) ((on 4 (Statement-F.NewText
    (Held (H.Local 0)) (Constant (pos 6)) GivesNull)) ∷ (on 5 (Statement-F.Copy (InCell (Held (H.Local 0))) (Quoted 0))) ∷ (on 6
    (Statement-F.Append (InCell (Held (H.Local 0))) (Of (InCell (Held (H.Local 0)))))) ∷ (on 7 (Statement-F.PrintText (Of (InCell (Held
    (H.Local 0)))))) ∷ (on 8 (Statement-F.Right 1 (Of (InCell (Held (H.Local 0)))) (Constant (pos 2)))) ∷ (on 9 (Statement-F.Copy (InCell
    (Held (H.Local 0))) (ViewOf 1))) ∷ (on 10 (Statement-F.PrintText (Of (InCell (Held (H.Local 0)))))) ∷ (on 11 (Statement-F.Free (Held
    (H.Local 0)))) ∷ []))) ∷ []) [] ((97 ∷ 98 ∷ 99 ∷ []) ∷ []) 0

cell_text_appended_to_itself_run : run script_cell_text_appended_to_itself_run R.Unlimited 10000 (shaped 4096 4096) ≡ result (Ended None [])
    ((line 1 144 0 Granted) ∷ (line 2 32 144 Granted) ∷ []) ((97 ∷ 98 ∷ 99 ∷ 97 ∷ 98 ∷ 99 ∷ []) ∷ (98 ∷ 99 ∷ []) ∷ []) [] 8
unfolding everything
cell_text_appended_to_itself_run = refl

abbrev script_copy_longer_than_the_buffer_run : Script
script_copy_longer_than_the_buffer_run = script [] ((procedure 1 [] (body ((OfBuffer 3) ∷ []) ((on 3 (Statement-F.Copy (OwnBuffer 0) (Quoted
    0))) ∷ (on 4 (Statement-F.PrintText (Of (OwnBuffer 0)))) ∷ (on 5 (Statement-F.Copy (OwnBuffer 0) (Quoted 1))) ∷ []))) ∷ []) [] ((97 ∷ 98
    ∷ 99 ∷ []) ∷ (97 ∷ 98 ∷ 99 ∷ 100 ∷ []) ∷ []) 0

copy_longer_than_the_buffer_run : run script_copy_longer_than_the_buffer_run R.Unlimited 10000 (shaped 4096 4096) ≡ result (Panicked (P.User
    11)) ((line 1 144 0 Granted) ∷ []) ((97 ∷ 98 ∷ 99 ∷ []) ∷ []) [] 3
unfolding everything
copy_longer_than_the_buffer_run = refl

abbrev script_copy_to_null_run : Script
script_copy_to_null_run = script [] ((procedure 2 [] (body ((OfPointer None) ∷ []) ((on 4 (Statement-F.Copy (InCell (Held (H.Local 0)))
    (Quoted 0))) ∷ []))) ∷ []) [] ((99 ∷ 100 ∷ 101 ∷ 102 ∷ []) ∷ []) 0

copy_to_null_run : run script_copy_to_null_run R.Unlimited 10000 (shaped 4096 4096) ≡ result (Panicked (P.Workbench 1)) ((line 1 144 0
    Granted) ∷ []) [] [] 1
unfolding everything
copy_to_null_run = refl

abbrev script_deletion_at_null_run : Script
script_deletion_at_null_run = script [] ((procedure 2 [] (body ((OfPointer None) ∷ []) ((on 4 (Statement-F.DeleteText (InCell (Held (H.Local
    0))) (Constant (negsuc 0)) (Constant (negsuc 0)))) ∷ []))) ∷ []) [] [] 0

deletion_at_null_run : run script_deletion_at_null_run R.Unlimited 10000 (shaped 4096 4096) ≡ result (Panicked (P.Workbench 1)) ((line 1 144
    0 Granted) ∷ []) [] [] 1
unfolding everything
deletion_at_null_run = refl

abbrev script_deletion_in_a_cell_of_words_run : Script
script_deletion_in_a_cell_of_words_run = script [] ((procedure 2 [] (body ((OfPointer None) ∷ []) ((on 4 (Statement-F.Alloc (Held (H.Local
    0)) (Constant (pos 16)) GivesNull)) ∷ (on 5 (Statement-F.DeleteText (InCell (Held (H.Local 0))) (Constant (negsuc 0)) (Constant (negsuc
    0)))) ∷ []))) ∷ []) [] [] 0

deletion_in_a_cell_of_words_run : run script_deletion_in_a_cell_of_words_run R.Unlimited 10000 (shaped 4096 4096) ≡ result (Panicked
    (P.Workbench 2)) ((line 1 144 0 Granted) ∷ (line 2 32 144 Granted) ∷ []) [] [] 2
unfolding everything
deletion_in_a_cell_of_words_run = refl

abbrev script_deletion_of_fewer_than_none_run : Script
script_deletion_of_fewer_than_none_run = script [] ((procedure 1 [] (body ((OfBuffer 8) ∷ []) ((on 3 (Statement-F.Copy (OwnBuffer 0) (Quoted
    0))) ∷ (on 4 (Statement-F.DeleteText (OwnBuffer 0) (Constant (pos 9)) (Constant (negsuc 0)))) ∷ []))) ∷ []) [] ((97 ∷ 98 ∷ 99 ∷ []) ∷
    []) 0

deletion_of_fewer_than_none_run : run script_deletion_of_fewer_than_none_run R.Unlimited 10000 (shaped 4096 4096) ≡ result (Panicked
    (P.Workbench 9)) ((line 1 144 0 Granted) ∷ []) [] [] 2
unfolding everything
deletion_of_fewer_than_none_run = refl

abbrev script_deletion_stops_at_the_end_run : Script
script_deletion_stops_at_the_end_run = script [] ((procedure 1 [] (body ((OfBuffer 8) ∷ []) ((on 3 (Statement-F.Copy (OwnBuffer 0) (Quoted
    0))) ∷ (on 4 (Statement-F.DeleteText (OwnBuffer 0) (Constant (pos 1)) (Constant (pos 2)))) ∷ (on 5 (Statement-F.PrintText (Of (OwnBuffer
    0)))) ∷ (on 6 (Statement-F.DeleteText (OwnBuffer 0) (Constant (pos 4)) (Constant (pos 5)))) ∷ (on 7 (Statement-F.PrintText (Of
    (OwnBuffer 0)))) ∷ (on 8 (Statement-F.DeleteText (OwnBuffer 0) (Constant (pos 2)) (Constant (pos 99)))) ∷ (on 9 (Statement-F.PrintText
    (Of (OwnBuffer 0)))) ∷ (on 10 (Statement-F.DeleteText (OwnBuffer 0) (Constant (pos 3)) (Constant (pos 0)))) ∷ []))) ∷ []) [] ((97 ∷ 98 ∷
    99 ∷ 100 ∷ 101 ∷ 102 ∷ []) ∷ []) 0

deletion_stops_at_the_end_run : run script_deletion_stops_at_the_end_run R.Unlimited 10000 (shaped 4096 4096) ≡ result (Panicked (P.User
    10)) ((line 1 144 0 Granted) ∷ []) ((97 ∷ 100 ∷ 101 ∷ 102 ∷ []) ∷ (97 ∷ 100 ∷ 101 ∷ 102 ∷ []) ∷ (97 ∷ 100 ∷ []) ∷ []) [] 8
unfolding everything
deletion_stops_at_the_end_run = refl

abbrev script_growing_a_cell_as_a_text_run : Script
script_growing_a_cell_as_a_text_run = script [] ((procedure 1 [] (body ((OfPointer None) ∷ []) ((on 3 (Statement-F.Alloc (Held (H.Local 0))
    (Constant (pos 1)) GivesNull)) ∷ (on 4 (Statement-F.ReallocText (Held (H.Local 0)) (Held (H.Local 0)) (Constant (pos 9)))) ∷ []))) ∷ [])
    [] [] 0

growing_a_cell_as_a_text_run : run script_growing_a_cell_as_a_text_run R.Unlimited 10000 (shaped 4096 4096) ≡ result (Panicked (P.Workbench
    2)) ((line 1 144 0 Granted) ∷ (line 2 32 144 Granted) ∷ []) [] [] 2
unfolding everything
growing_a_cell_as_a_text_run = refl

abbrev script_growing_a_cell_of_words_to_less_than_nothing_run : Script
script_growing_a_cell_of_words_to_less_than_nothing_run = script [] ((procedure 2 [] (body ((OfPointer None) ∷ (OfPointer None) ∷ []) ((on 5
    (Statement-F.Alloc (Held (H.Local 0)) (Constant (pos 16)) GivesNull)) ∷ (on 6 (Statement-F.ReallocText (Held (H.Local 1)) (Held (H.Local
    0)) (Constant (negsuc 0)))) ∷ []))) ∷ []) [] [] 0

growing_a_cell_of_words_to_less_than_nothing_run : run script_growing_a_cell_of_words_to_less_than_nothing_run R.Unlimited 10000 (shaped
    4096 4096) ≡ result (Panicked (P.Workbench 2)) ((line 1 144 0 Granted) ∷ (line 2 32 144 Granted) ∷ []) [] [] 2
unfolding everything
growing_a_cell_of_words_to_less_than_nothing_run = refl

abbrev script_growing_a_text_as_a_cell_run : Script
script_growing_a_text_as_a_cell_run = script [] ((procedure 1 [] (body ((OfPointer None) ∷ []) ((on 3 (Statement-F.NewText (Held (H.Local
    0)) (Constant (pos 1)) GivesNull)) ∷ (on 4 (Statement-F.Realloc (Held (H.Local 0)) (Held (H.Local 0)) (Constant (negsuc 0)) GivesNull))
    ∷ []))) ∷ []) [] [] 0

growing_a_text_as_a_cell_run : run script_growing_a_text_as_a_cell_run R.Unlimited 10000 (shaped 4096 4096) ≡ result (Panicked (P.Workbench
    2)) ((line 1 144 0 Granted) ∷ (line 2 32 144 Granted) ∷ []) [] [] 2
unfolding everything
growing_a_text_as_a_cell_run = refl

abbrev script_growing_a_text_past_one_mebibyte_run : Script
script_growing_a_text_past_one_mebibyte_run = script [] ((procedure 1 [] (body ((OfPointer None) ∷ []) ((on 3 (Statement-F.NewText (Held
    (H.Local 0)) (Constant (pos 1)) GivesNull)) ∷ (on 4 (Statement-F.ReallocText (Held (H.Local 0)) (Held (H.Local 0)) (Constant (pos
    524287)))) ∷ []))) ∷ []) [] [] 0

growing_a_text_past_one_mebibyte_run : run script_growing_a_text_past_one_mebibyte_run R.Unlimited 10000 (shaped 4096 4096) ≡ result
    (Panicked (P.Workbench 9)) ((line 1 144 0 Granted) ∷ (line 2 32 144 Granted) ∷ []) [] [] 2
unfolding everything
growing_a_text_past_one_mebibyte_run = refl

abbrev script_growing_a_text_to_fewer_than_no_units_run : Script
script_growing_a_text_to_fewer_than_no_units_run = script [] ((procedure 2 [] (body ((OfPointer None) ∷ []) ((on 4 (Statement-F.NewText
    (Held (H.Local 0)) (Constant (pos 0)) GivesNull)) ∷ (on 5 (Statement-F.ReallocText (Held (H.Local 0)) (Held (H.Local 0)) (Constant
    (negsuc 0)))) ∷ []))) ∷ []) [] [] 0

growing_a_text_to_fewer_than_no_units_run : run script_growing_a_text_to_fewer_than_no_units_run R.Unlimited 10000 (shaped 4096 4096) ≡
    result (Panicked (P.Workbench 9)) ((line 1 144 0 Granted) ∷ (line 2 32 144 Granted) ∷ []) [] [] 2
unfolding everything
growing_a_text_to_fewer_than_no_units_run = refl

abbrev script_growing_no_text_run : Script
script_growing_no_text_run = script [] ((procedure 1 [] (body ((OfPointer None) ∷ []) ((on 3 (Statement-F.ReallocText (Held (H.Local 0))
    (Held (H.Local 0)) (Constant (negsuc 0)))) ∷ []))) ∷ []) [] [] 0

growing_no_text_run : run script_growing_no_text_run R.Unlimited 10000 (shaped 4096 4096) ≡ result (Panicked (P.Workbench 1)) ((line 1 144 0
    Granted) ∷ []) [] [] 1
unfolding everything
growing_no_text_run = refl

abbrev script_grown_text_moves_with_its_units_run : Script
script_grown_text_moves_with_its_units_run = script [] ((procedure 1 [] (body ((OfPointer None) ∷ (OfPointer None) ∷ OfNumber ∷ []) ((on 5
    (Statement-F.NewText (Held (H.Local 0)) (Constant (pos 4)) GivesNull)) ∷ (on 6 (Statement-F.Alloc (Held (H.Local 1)) (Constant (pos 1))
    GivesNull)) ∷ (on 7 (Statement-F.Append (InCell (Held (H.Local 0))) (Quoted 0))) ∷ (on 8 (Statement-F.ReallocText (Held (H.Local 0))
    (Held (H.Local 0)) (Constant (pos 20)))) ∷ (on 9 (Statement-F.Append (InCell (Held (H.Local 0))) (Quoted 1))) ∷ (on 10
    (Statement-F.PrintText (Of (InCell (Held (H.Local 0)))))) ∷ (on 11 (Statement-F.GetMaximum 2 (InCell (Held (H.Local 0))))) ∷ (on 12
    (Statement-F.PrintNumber (Variable 2))) ∷ (on 13 (Statement-F.Free (Held (H.Local 1)))) ∷ (on 14 (Statement-F.Free (Held (H.Local 0))))
    ∷ []))) ∷ []) [] ((97 ∷ 98 ∷ 99 ∷ []) ∷ (100 ∷ 101 ∷ 102 ∷ 103 ∷ []) ∷ []) 0

grown_text_moves_with_its_units_run : run script_grown_text_moves_with_its_units_run R.Unlimited 10000 (shaped 4096 4096) ≡ result (Ended
    None []) ((line 1 144 0 Granted) ∷ (line 2 32 144 Granted) ∷ (line 3 32 176 Granted) ∷ (line 4 64 208 Granted) ∷ []) ((97 ∷ 98 ∷ 99 ∷
    100 ∷ 101 ∷ 102 ∷ 103 ∷ []) ∷ (50 ∷ 50 ∷ []) ∷ []) [] 10
unfolding everything
grown_text_moves_with_its_units_run = refl

abbrev script_insert_asks_for_the_position_first_run : Script
script_insert_asks_for_the_position_first_run = script [] ((procedure 1 [] (body ((OfBuffer 3) ∷ []) ((on 3 (Statement-F.Copy (OwnBuffer 0)
    (Quoted 0))) ∷ (on 4 (Statement-F.Insert (OwnBuffer 0) (Constant (pos 4)) (Quoted 1))) ∷ []))) ∷ []) [] ((97 ∷ 98 ∷ 99 ∷ []) ∷ (102 ∷ 97
    ∷ 114 ∷ 32 ∷ 116 ∷ 111 ∷ 111 ∷ 32 ∷ 108 ∷ 111 ∷ 110 ∷ 103 ∷ []) ∷ []) 0

insert_asks_for_the_position_first_run : run script_insert_asks_for_the_position_first_run R.Unlimited 10000 (shaped 4096 4096) ≡ result
    (Panicked (P.User 10)) ((line 1 144 0 Granted) ∷ []) [] [] 2
unfolding everything
insert_asks_for_the_position_first_run = refl

abbrev script_insert_before_the_first_unit_run : Script
script_insert_before_the_first_unit_run = script [] ((procedure 1 [] (body ((OfBuffer 3) ∷ []) ((on 3 (Statement-F.Insert (OwnBuffer 0)
    (Constant (negsuc 0)) (Quoted 0))) ∷ []))) ∷ []) [] ((97 ∷ []) ∷ []) 0

insert_before_the_first_unit_run : run script_insert_before_the_first_unit_run R.Unlimited 10000 (shaped 4096 4096) ≡ result (Panicked
    (P.Workbench 9)) ((line 1 144 0 Granted) ∷ []) [] [] 1
unfolding everything
insert_before_the_first_unit_run = refl

abbrev script_insert_of_a_cell_of_words_run : Script
script_insert_of_a_cell_of_words_run = script [] ((procedure 2 [] (body ((OfPointer None) ∷ (OfBuffer 3) ∷ []) ((on 5 (Statement-F.Alloc
    (Held (H.Local 0)) (Constant (pos 16)) GivesNull)) ∷ (on 6 (Statement-F.Insert (OwnBuffer 1) (Constant (negsuc 0)) (Of (InCell (Held
    (H.Local 0)))))) ∷ []))) ∷ []) [] [] 0

insert_of_a_cell_of_words_run : run script_insert_of_a_cell_of_words_run R.Unlimited 10000 (shaped 4096 4096) ≡ result (Panicked
    (P.Workbench 2)) ((line 1 144 0 Granted) ∷ (line 2 32 144 Granted) ∷ []) [] [] 2
unfolding everything
insert_of_a_cell_of_words_run = refl

abbrev script_insert_of_a_text_into_itself_run : Script
script_insert_of_a_text_into_itself_run = script [] ((procedure 1 [] (body ((OfBuffer 8) ∷ []) ((on 3 (Statement-F.Copy (OwnBuffer 0)
    (Quoted 0))) ∷ (on 4 (Statement-F.Insert (OwnBuffer 0) (Constant (pos 99)) (Of (OwnBuffer 0)))) ∷ []))) ∷ []) [] ((97 ∷ 98 ∷ []) ∷ []) 0

insert_of_a_text_into_itself_run : run script_insert_of_a_text_into_itself_run R.Unlimited 10000 (shaped 4096 4096) ≡ result (Panicked
    (P.Workbench 9)) ((line 1 144 0 Granted) ∷ []) [] [] 2
unfolding everything
insert_of_a_text_into_itself_run = refl

abbrev script_insert_of_a_text_under_another_name_run : Script
script_insert_of_a_text_under_another_name_run = script [] ((procedure 1 [] (body ((OfPointer None) ∷ (OfPointer None) ∷ []) ((on 4
    (Statement-F.NewText (Held (H.Local 0)) (Constant (pos 4)) GivesNull)) ∷ (on 5 (Statement-F.Set (Held (H.Local 1)) (Held (H.Local 0))))
    ∷ (on 6 (Statement-F.Insert (InCell (Held (H.Local 0))) (Constant (pos 0)) (Of (InCell (Held (H.Local 1)))))) ∷ []))) ∷ []) [] [] 0

insert_of_a_text_under_another_name_run : run script_insert_of_a_text_under_another_name_run R.Unlimited 10000 (shaped 4096 4096) ≡ result
    (Panicked (P.Workbench 9)) ((line 1 144 0 Granted) ∷ (line 2 32 144 Granted) ∷ []) [] [] 3
unfolding everything
insert_of_a_text_under_another_name_run = refl

abbrev script_insert_of_a_view_of_a_freed_text_run : Script
script_insert_of_a_view_of_a_freed_text_run = script [] ((procedure 2 [] (body ((OfPointer None) ∷ (OfBuffer 3) ∷ OfView ∷ []) ((on 6
    (Statement-F.NewText (Held (H.Local 0)) (Constant (pos 0)) GivesNull)) ∷ (on 7 (Statement-F.Left 2 (Of (InCell (Held (H.Local 0))))
    (Constant (pos 0)))) ∷ (on 8 (Statement-F.Free (Held (H.Local 0)))) ∷ (on 9 (Statement-F.Insert (OwnBuffer 1) (Constant (negsuc 0))
    (ViewOf 2))) ∷ []))) ∷ []) [] [] 0

insert_of_a_view_of_a_freed_text_run : run script_insert_of_a_view_of_a_freed_text_run R.Unlimited 10000 (shaped 4096 4096) ≡ result
    (Panicked (P.Workbench 1)) ((line 1 144 0 Granted) ∷ (line 2 32 144 Granted) ∷ []) [] [] 4
unfolding everything
insert_of_a_view_of_a_freed_text_run = refl

abbrev script_insert_past_the_maximum_run : Script
script_insert_past_the_maximum_run = script [] ((procedure 1 [] (body ((OfBuffer 3) ∷ []) ((on 3 (Statement-F.Copy (OwnBuffer 0) (Quoted
    0))) ∷ (on 4 (Statement-F.Insert (OwnBuffer 0) (Constant (pos 3)) (Quoted 1))) ∷ []))) ∷ []) [] ((97 ∷ 98 ∷ 99 ∷ []) ∷ (100 ∷ []) ∷ [])
    0

insert_past_the_maximum_run : run script_insert_past_the_maximum_run R.Unlimited 10000 (shaped 4096 4096) ≡ result (Panicked (P.User 11))
    ((line 1 144 0 Granted) ∷ []) [] [] 2
unfolding everything
insert_past_the_maximum_run = refl

abbrev script_left_longer_than_the_text_run : Script
script_left_longer_than_the_text_run = script [] ((procedure 1 [] (body (OfView ∷ []) ((on 3 (Statement-F.Left 0 (Quoted 0) (Constant (pos
    3)))) ∷ (on 4 (Statement-F.PrintText (ViewOf 0))) ∷ (on 5 (Statement-F.Left 0 (Quoted 1) (Constant (pos 4)))) ∷ []))) ∷ []) [] ((97 ∷ 98
    ∷ 99 ∷ []) ∷ (97 ∷ 98 ∷ 99 ∷ []) ∷ []) 0

left_longer_than_the_text_run : run script_left_longer_than_the_text_run R.Unlimited 10000 (shaped 4096 4096) ≡ result (Panicked (P.User
    10)) ((line 1 144 0 Granted) ∷ []) ((97 ∷ 98 ∷ 99 ∷ []) ∷ []) [] 3
unfolding everything
left_longer_than_the_text_run = refl

abbrev script_left_of_fewer_than_none_run : Script
script_left_of_fewer_than_none_run = script [] ((procedure 2 [] (body (OfView ∷ []) ((on 4 (Statement-F.Left 0 (Quoted 0) (Constant (negsuc
    0)))) ∷ []))) ∷ []) [] ((97 ∷ 98 ∷ []) ∷ []) 0

left_of_fewer_than_none_run : run script_left_of_fewer_than_none_run R.Unlimited 10000 (shaped 4096 4096) ≡ result (Panicked (P.Workbench
    9)) ((line 1 144 0 Granted) ∷ []) [] [] 1
unfolding everything
left_of_fewer_than_none_run = refl

abbrev script_length_below_zero_run : Script
script_length_below_zero_run = script [] ((procedure 1 [] (body ((OfBuffer 4) ∷ []) ((on 3 (Statement-F.SetLength (OwnBuffer 0) (Constant
    (negsuc 0)))) ∷ []))) ∷ []) [] [] 0

length_below_zero_run : run script_length_below_zero_run R.Unlimited 10000 (shaped 4096 4096) ≡ result (Panicked (P.Workbench 9)) ((line 1
    144 0 Granted) ∷ []) [] [] 1
unfolding everything
length_below_zero_run = refl

abbrev script_length_of_a_cell_of_words_run : Script
script_length_of_a_cell_of_words_run = script [] ((procedure 2 [] (body ((OfPointer None) ∷ OfNumber ∷ []) ((on 5 (Statement-F.Alloc (Held
    (H.Local 0)) (Constant (pos 16)) GivesNull)) ∷ (on 6 (Statement-F.GetLength 1 (Of (InCell (Held (H.Local 0)))))) ∷ []))) ∷ []) [] [] 0

length_of_a_cell_of_words_run : run script_length_of_a_cell_of_words_run R.Unlimited 10000 (shaped 4096 4096) ≡ result (Panicked
    (P.Workbench 2)) ((line 1 144 0 Granted) ∷ (line 2 32 144 Granted) ∷ []) [] [] 2
unfolding everything
length_of_a_cell_of_words_run = refl

abbrev script_length_past_the_maximum_of_a_cell_run : Script
script_length_past_the_maximum_of_a_cell_run = script [] ((procedure 2 [] (body ((OfPointer None) ∷ []) ((on 4 (Statement-F.NewText (Held
    (H.Local 0)) (Constant (pos 5)) GivesNull)) ∷ (on 5 (Statement-F.SetLength (InCell (Held (H.Local 0))) (Constant (pos 6)))) ∷ (on 6
    (Statement-F.SetLength (InCell (Held (H.Local 0))) (Constant (pos 7)))) ∷ []))) ∷ []) [] [] 0

length_past_the_maximum_of_a_cell_run : run script_length_past_the_maximum_of_a_cell_run R.Unlimited 10000 (shaped 4096 4096) ≡ result
    (Panicked (P.User 11)) ((line 1 144 0 Granted) ∷ (line 2 32 144 Granted) ∷ []) [] [] 3
unfolding everything
length_past_the_maximum_of_a_cell_run = refl

abbrev script_length_set_at_null_run : Script
script_length_set_at_null_run = script [] ((procedure 2 [] (body ((OfPointer None) ∷ []) ((on 4 (Statement-F.SetLength (InCell (Held
    (H.Local 0))) (Constant (negsuc 0)))) ∷ []))) ∷ []) [] [] 0

length_set_at_null_run : run script_length_set_at_null_run R.Unlimited 10000 (shaped 4096 4096) ≡ result (Panicked (P.Workbench 1)) ((line 1
    144 0 Granted) ∷ []) [] [] 1
unfolding everything
length_set_at_null_run = refl

abbrev script_length_set_in_a_cell_of_words_run : Script
script_length_set_in_a_cell_of_words_run = script [] ((procedure 2 [] (body ((OfPointer None) ∷ []) ((on 4 (Statement-F.Alloc (Held (H.Local
    0)) (Constant (pos 16)) GivesNull)) ∷ (on 5 (Statement-F.SetLength (InCell (Held (H.Local 0))) (Constant (negsuc 0)))) ∷ []))) ∷ []) []
    [] 0

length_set_in_a_cell_of_words_run : run script_length_set_in_a_cell_of_words_run R.Unlimited 10000 (shaped 4096 4096) ≡ result (Panicked
    (P.Workbench 2)) ((line 1 144 0 Granted) ∷ (line 2 32 144 Granted) ∷ []) [] [] 2
unfolding everything
length_set_in_a_cell_of_words_run = refl
