-- Worked cases of `texts`, each by computing. Written by tools/cases_to_theorems.py; edit nothing here.
use Rattle.std.specs.Prelude.{◌≡◌, refl, pos, negsuc, [], ◌∷◌, None}
use Rattle.wb_heap_model.specs.declared.heap.Rule.TheVariants as R
use Rattle.wb_heap_model.specs.declared.heap.Panic.TheVariants as P
use Rattle.wb_tree.specs.declared.script.Holder.TheVariants as H
use Rattle.wb_heap_model.specs.declared.heap.Answer.TheVariants.{Granted, Simulated}
use Rattle.wb_meaning.specs.declared.run.Outcome.TheVariants.{Ended, Panicked}
use Rattle.wb_tree.specs.declared.script.Script.{Script}
use Rattle.wb_tree.specs.declared.script.Local.TheVariants.{OfPointer, OfNumber, OfBuffer, OfView}
use Rattle.wb_tree.specs.declared.script.Pointer.TheVariants.{Held}
use Rattle.wb_tree.specs.declared.script.Number.TheVariants.{Constant, Variable}
use Rattle.wb_tree.specs.declared.script.Writable.TheVariants.{OwnBuffer, InCell}
use Rattle.wb_tree.specs.declared.script.Readable.TheVariants.{Of, ViewOf, Quoted}
use Rattle.wb_tree.specs.declared.script.Refusal.TheVariants.{GivesNull, Leaves}
use Rattle.wb_tree.specs.declared.script.Statement.TheOpen.{Statement-F}
use Rattle.wb_meaning.specs.Run.{run}
use Rattle.wb_worked.specs.Shorthands.{everything, on, script, procedure, body, result, leak, shaped, line}

abbrev script_maximum_of_a_freed_text_run : Script
script_maximum_of_a_freed_text_run = script [] ((procedure 1 [] (body ((OfPointer None) ∷ OfNumber ∷ []) ((on 4 (Statement-F.NewText (Held
    (H.Local 0)) (Constant (pos 4)) GivesNull)) ∷ (on 5 (Statement-F.Free (Held (H.Local 0)))) ∷ (on 6 (Statement-F.GetMaximum 1 (InCell
    (Held (H.Local 0))))) ∷ []))) ∷ []) [] [] 0

maximum_of_a_freed_text_run : run script_maximum_of_a_freed_text_run R.Unlimited 10000 (shaped 4096 4096) ≡ result (Panicked (P.Workbench
    1)) ((line 1 144 0 Granted) ∷ (line 2 32 144 Granted) ∷ []) [] [] 3
unfolding everything
maximum_of_a_freed_text_run = refl

abbrev script_maximum_of_null_run : Script
script_maximum_of_null_run = script [] ((procedure 2 [] (body ((OfPointer None) ∷ OfNumber ∷ []) ((on 5 (Statement-F.GetMaximum 1 (InCell
    (Held (H.Local 0))))) ∷ []))) ∷ []) [] [] 0

maximum_of_null_run : run script_maximum_of_null_run R.Unlimited 10000 (shaped 4096 4096) ≡ result (Panicked (P.Workbench 1)) ((line 1 144 0
    Granted) ∷ []) [] [] 1
unfolding everything
maximum_of_null_run = refl

abbrev script_mid_before_the_beginning_run : Script
script_mid_before_the_beginning_run = script [] ((procedure 1 [] (body (OfView ∷ []) ((on 3 (Statement-F.Mid 0 (Quoted 0) (Constant (negsuc
    0)) (Constant (pos 1)))) ∷ []))) ∷ []) [] ((97 ∷ 98 ∷ 99 ∷ []) ∷ []) 0

mid_before_the_beginning_run : run script_mid_before_the_beginning_run R.Unlimited 10000 (shaped 4096 4096) ≡ result (Panicked (P.Workbench
    9)) ((line 1 144 0 Granted) ∷ []) [] [] 1
unfolding everything
mid_before_the_beginning_run = refl

abbrev script_mid_of_fewer_than_none_run : Script
script_mid_of_fewer_than_none_run = script [] ((procedure 2 [] (body (OfView ∷ []) ((on 4 (Statement-F.Mid 0 (Quoted 0) (Constant (pos 3))
    (Constant (negsuc 0)))) ∷ []))) ∷ []) [] ((97 ∷ 98 ∷ []) ∷ []) 0

mid_of_fewer_than_none_run : run script_mid_of_fewer_than_none_run R.Unlimited 10000 (shaped 4096 4096) ≡ result (Panicked (P.Workbench 9))
    ((line 1 144 0 Granted) ∷ []) [] [] 1
unfolding everything
mid_of_fewer_than_none_run = refl

abbrev script_mid_past_the_end_run : Script
script_mid_past_the_end_run = script [] ((procedure 1 [] (body (OfView ∷ []) ((on 3 (Statement-F.Mid 0 (Quoted 0) (Constant (pos 3))
    (Constant (pos 0)))) ∷ (on 4 (Statement-F.Mid 0 (Quoted 1) (Constant (pos 2)) (Constant (pos 2)))) ∷ []))) ∷ []) [] ((97 ∷ 98 ∷ 99 ∷ [])
    ∷ (97 ∷ 98 ∷ 99 ∷ []) ∷ []) 0

mid_past_the_end_run : run script_mid_past_the_end_run R.Unlimited 10000 (shaped 4096 4096) ≡ result (Panicked (P.User 10)) ((line 1 144 0
    Granted) ∷ []) [] [] 2
unfolding everything
mid_past_the_end_run = refl

abbrev script_numbers_in_the_place_of_positions_run : Script
script_numbers_in_the_place_of_positions_run = script [] ((procedure 2 [] (body ((OfPointer None) ∷ (OfPointer None) ∷ (OfBuffer 7) ∷ OfView
    ∷ OfNumber ∷ OfNumber ∷ []) ((on 9 (Statement-F.SetNumber 4 (Constant (pos 1)))) ∷ (on 10 (Statement-F.SetNumber 5 (Constant (pos 2))))
    ∷ (on 11 (Statement-F.NewText (Held (H.Local 0)) (Variable 5) GivesNull)) ∷ (on 12 (Statement-F.Copy (InCell (Held (H.Local 0))) (Quoted
    0))) ∷ (on 13 (Statement-F.Insert (InCell (Held (H.Local 0))) (Variable 4) (Quoted 1))) ∷ (on 14 (Statement-F.PrintText (Of (InCell
    (Held (H.Local 0)))))) ∷ (on 15 (Statement-F.DeleteText (InCell (Held (H.Local 0))) (Variable 5) (Variable 4))) ∷ (on 16
    (Statement-F.PrintText (Of (InCell (Held (H.Local 0)))))) ∷ (on 17 (Statement-F.Left 3 (Quoted 2) (Variable 5))) ∷ (on 18
    (Statement-F.PrintText (ViewOf 3))) ∷ (on 19 (Statement-F.Right 3 (ViewOf 3) (Variable 4))) ∷ (on 20 (Statement-F.PrintText (ViewOf 3)))
    ∷ (on 21 (Statement-F.Mid 3 (Quoted 3) (Variable 4) (Variable 5))) ∷ (on 22 (Statement-F.PrintText (ViewOf 3))) ∷ (on 23
    (Statement-F.Insert (OwnBuffer 2) (Constant (pos 0)) (ViewOf 3))) ∷ (on 24 (Statement-F.SetLength (OwnBuffer 2) (Variable 4))) ∷ (on 25
    (Statement-F.PrintText (Of (OwnBuffer 2)))) ∷ (on 26 (Statement-F.ReallocText (Held (H.Local 1)) (Held (H.Local 0)) (Variable 4))) ∷
    []))) ∷ []) [] ((97 ∷ 98 ∷ 99 ∷ []) ∷ (120 ∷ 121 ∷ []) ∷ (97 ∷ 98 ∷ 99 ∷ []) ∷ (97 ∷ 98 ∷ 99 ∷ 100 ∷ []) ∷ []) 0

numbers_in_the_place_of_positions_run : run script_numbers_in_the_place_of_positions_run R.Unlimited 10000 (shaped 4096 4096) ≡ result
    (Panicked (P.Workbench 8)) ((line 1 144 0 Granted) ∷ (line 2 32 144 Granted) ∷ []) ((97 ∷ 120 ∷ 121 ∷ 98 ∷ 99 ∷ []) ∷ (97 ∷ 120 ∷ 98 ∷
    99 ∷ []) ∷ (97 ∷ 98 ∷ []) ∷ (98 ∷ []) ∷ (98 ∷ 99 ∷ []) ∷ (98 ∷ []) ∷ []) [] 18
unfolding everything
numbers_in_the_place_of_positions_run = refl

abbrev script_print_stops_at_eighty_units_run : Script
script_print_stops_at_eighty_units_run = script [] ((procedure 1 [] (body ((OfBuffer 90) ∷ []) ((on 3 (Statement-F.PrintText (Quoted 0))) ∷
    (on 4 (Statement-F.SetLength (OwnBuffer 0) (Constant (pos 90)))) ∷ (on 5 (Statement-F.PrintText (Of (OwnBuffer 0)))) ∷ []))) ∷ []) []
    ((48 ∷ 49 ∷ 50 ∷ 51 ∷ 52 ∷ 53 ∷ 54 ∷ 55 ∷ 56 ∷ 57 ∷ 48 ∷ 49 ∷ 50 ∷ 51 ∷ 52 ∷ 53 ∷ 54 ∷ 55 ∷ 56 ∷ 57 ∷ 48 ∷ 49 ∷ 50 ∷ 51 ∷ 52 ∷ 53 ∷ 54 ∷
    55 ∷ 56 ∷ 57 ∷ 48 ∷ 49 ∷ 50 ∷ 51 ∷ 52 ∷ 53 ∷ 54 ∷ 55 ∷ 56 ∷ 57 ∷ 48 ∷ 49 ∷ 50 ∷ 51 ∷ 52 ∷ 53 ∷ 54 ∷ 55 ∷ 56 ∷ 57 ∷ 48 ∷ 49 ∷ 50 ∷ 51 ∷
    52 ∷ 53 ∷ 54 ∷ 55 ∷ 56 ∷ 57 ∷ 48 ∷ 49 ∷ 50 ∷ 51 ∷ 52 ∷ 53 ∷ 54 ∷ 55 ∷ 56 ∷ 57 ∷ 48 ∷ 49 ∷ 50 ∷ 51 ∷ 52 ∷ 53 ∷ 54 ∷ 55 ∷ 56 ∷ 57 ∷ 48 ∷
    49 ∷ 50 ∷ 51 ∷ 52 ∷ []) ∷ []) 0

print_stops_at_eighty_units_run : run script_print_stops_at_eighty_units_run R.Unlimited 10000 (shaped 4096 4096) ≡ result (Ended None [])
    ((line 1 144 0 Granted) ∷ []) ((48 ∷ 49 ∷ 50 ∷ 51 ∷ 52 ∷ 53 ∷ 54 ∷ 55 ∷ 56 ∷ 57 ∷ 48 ∷ 49 ∷ 50 ∷ 51 ∷ 52 ∷ 53 ∷ 54 ∷ 55 ∷ 56 ∷ 57 ∷ 48 ∷
    49 ∷ 50 ∷ 51 ∷ 52 ∷ 53 ∷ 54 ∷ 55 ∷ 56 ∷ 57 ∷ 48 ∷ 49 ∷ 50 ∷ 51 ∷ 52 ∷ 53 ∷ 54 ∷ 55 ∷ 56 ∷ 57 ∷ 48 ∷ 49 ∷ 50 ∷ 51 ∷ 52 ∷ 53 ∷ 54 ∷ 55 ∷
    56 ∷ 57 ∷ 48 ∷ 49 ∷ 50 ∷ 51 ∷ 52 ∷ 53 ∷ 54 ∷ 55 ∷ 56 ∷ 57 ∷ 48 ∷ 49 ∷ 50 ∷ 51 ∷ 52 ∷ 53 ∷ 54 ∷ 55 ∷ 56 ∷ 57 ∷ 48 ∷ 49 ∷ 50 ∷ 51 ∷ 52 ∷
    53 ∷ 54 ∷ 55 ∷ 56 ∷ 57 ∷ []) ∷ (46 ∷ 46 ∷ 46 ∷ 46 ∷ 46 ∷ 46 ∷ 46 ∷ 46 ∷ 46 ∷ 46 ∷ 46 ∷ 46 ∷ 46 ∷ 46 ∷ 46 ∷ 46 ∷ 46 ∷ 46 ∷ 46 ∷ 46 ∷ 46 ∷
    46 ∷ 46 ∷ 46 ∷ 46 ∷ 46 ∷ 46 ∷ 46 ∷ 46 ∷ 46 ∷ 46 ∷ 46 ∷ 46 ∷ 46 ∷ 46 ∷ 46 ∷ 46 ∷ 46 ∷ 46 ∷ 46 ∷ 46 ∷ 46 ∷ 46 ∷ 46 ∷ 46 ∷ 46 ∷ 46 ∷ 46 ∷
    46 ∷ 46 ∷ 46 ∷ 46 ∷ 46 ∷ 46 ∷ 46 ∷ 46 ∷ 46 ∷ 46 ∷ 46 ∷ 46 ∷ 46 ∷ 46 ∷ 46 ∷ 46 ∷ 46 ∷ 46 ∷ 46 ∷ 46 ∷ 46 ∷ 46 ∷ 46 ∷ 46 ∷ 46 ∷ 46 ∷ 46 ∷
    46 ∷ 46 ∷ 46 ∷ 46 ∷ 46 ∷ []) ∷ []) [] 3
unfolding everything
print_stops_at_eighty_units_run = refl

abbrev script_refused_growth_of_a_text_in_place_run : Script
script_refused_growth_of_a_text_in_place_run = script [] ((procedure 1 [] (body ((OfPointer None) ∷ (OfPointer None) ∷ []) ((on 4
    (Statement-F.NewText (Held (H.Local 0)) (Constant (pos 4)) GivesNull)) ∷ (on 5 (Statement-F.Append (InCell (Held (H.Local 0))) (Quoted
    0))) ∷ (on 6 (Statement-F.ReallocText (Held (H.Local 1)) (Held (H.Local 0)) (Constant (pos 20)))) ∷ (on 7 (Statement-F.PrintText (Of
    (InCell (Held (H.Local 0)))))) ∷ (on 8 (Statement-F.Free (Held (H.Local 0)))) ∷ (on 9 (Statement-F.Free (Held (H.Local 1)))) ∷ []))) ∷
    []) [] ((97 ∷ 98 ∷ 99 ∷ []) ∷ []) 0

refused_growth_of_a_text_in_place_run : run script_refused_growth_of_a_text_in_place_run (R.Number 3) 10000 (shaped 4096 4096) ≡ result
    (Ended None []) ((line 1 144 0 Granted) ∷ (line 2 32 144 Granted) ∷ (line 3 64 144 Simulated) ∷ []) ((97 ∷ 98 ∷ 99 ∷ []) ∷ []) [] 6
unfolding everything
refused_growth_of_a_text_in_place_run = refl

abbrev script_refused_text_is_null_run : Script
script_refused_text_is_null_run = script [] ((procedure 1 [] (body ((OfPointer None) ∷ OfNumber ∷ []) ((on 4 (Statement-F.FailNext (Constant
    (pos 1)))) ∷ (on 5 (Statement-F.NewText (Held (H.Local 0)) (Constant (pos 4)) GivesNull)) ∷ (on 6 (Statement-F.GetLength 1 (Of (InCell
    (Held (H.Local 0)))))) ∷ []))) ∷ []) [] [] 0

refused_text_is_null_run : run script_refused_text_is_null_run R.Unlimited 10000 (shaped 4096 4096) ≡ result (Panicked (P.Workbench 1))
    ((line 1 144 0 Granted) ∷ (line 2 32 144 Simulated) ∷ []) [] [] 3
unfolding everything
refused_text_is_null_run = refl

abbrev script_right_longer_than_the_text_run : Script
script_right_longer_than_the_text_run = script [] ((procedure 1 [] (body (OfView ∷ []) ((on 3 (Statement-F.Right 0 (Quoted 0) (Constant (pos
    3)))) ∷ (on 4 (Statement-F.Right 0 (ViewOf 0) (Constant (pos 4)))) ∷ []))) ∷ []) [] ((97 ∷ 98 ∷ 99 ∷ []) ∷ []) 0

right_longer_than_the_text_run : run script_right_longer_than_the_text_run R.Unlimited 10000 (shaped 4096 4096) ≡ result (Panicked (P.User
    10)) ((line 1 144 0 Granted) ∷ []) [] [] 2
unfolding everything
right_longer_than_the_text_run = refl

abbrev script_right_of_fewer_than_none_run : Script
script_right_of_fewer_than_none_run = script [] ((procedure 2 [] (body (OfView ∷ []) ((on 4 (Statement-F.Right 0 (Quoted 0) (Constant
    (negsuc 0)))) ∷ []))) ∷ []) [] ((97 ∷ 98 ∷ []) ∷ []) 0

right_of_fewer_than_none_run : run script_right_of_fewer_than_none_run R.Unlimited 10000 (shaped 4096 4096) ≡ result (Panicked (P.Workbench
    9)) ((line 1 144 0 Granted) ∷ []) [] [] 1
unfolding everything
right_of_fewer_than_none_run = refl

abbrev script_shortened_text_keeps_no_unit_run : Script
script_shortened_text_keeps_no_unit_run = script [] ((procedure 1 [] (body ((OfBuffer 4) ∷ []) ((on 3 (Statement-F.Copy (OwnBuffer 0)
    (Quoted 0))) ∷ (on 4 (Statement-F.SetLength (OwnBuffer 0) (Constant (pos 1)))) ∷ (on 5 (Statement-F.SetLength (OwnBuffer 0) (Constant
    (pos 3)))) ∷ (on 6 (Statement-F.PrintText (Of (OwnBuffer 0)))) ∷ (on 7 (Statement-F.SetLength (OwnBuffer 0) (Constant (pos 5)))) ∷ [])))
    ∷ []) [] ((97 ∷ 98 ∷ 99 ∷ 100 ∷ []) ∷ []) 0

shortened_text_keeps_no_unit_run : run script_shortened_text_keeps_no_unit_run R.Unlimited 10000 (shaped 4096 4096) ≡ result (Panicked
    (P.User 11)) ((line 1 144 0 Granted) ∷ []) ((97 ∷ 46 ∷ 46 ∷ []) ∷ []) [] 5
unfolding everything
shortened_text_keeps_no_unit_run = refl

abbrev script_shortened_text_still_needs_its_units_run : Script
script_shortened_text_still_needs_its_units_run = script [] ((procedure 1 [] (body ((OfPointer None) ∷ []) ((on 3 (Statement-F.NewText (Held
    (H.Local 0)) (Constant (pos 3)) Leaves)) ∷ (on 4 (Statement-F.Copy (InCell (Held (H.Local 0))) (Quoted 0))) ∷ (on 5
    (Statement-F.SetLength (InCell (Held (H.Local 0))) (Constant (pos 1)))) ∷ (on 6 (Statement-F.ReallocText (Held (H.Local 0)) (Held
    (H.Local 0)) (Constant (pos 1)))) ∷ (on 7 (Statement-F.PrintText (Of (InCell (Held (H.Local 0)))))) ∷ (on 8 (Statement-F.ReallocText
    (Held (H.Local 0)) (Held (H.Local 0)) (Constant (pos 0)))) ∷ []))) ∷ []) [] ((97 ∷ 98 ∷ 99 ∷ []) ∷ []) 0

shortened_text_still_needs_its_units_run : run script_shortened_text_still_needs_its_units_run R.Unlimited 10000 (shaped 4096 4096) ≡ result
    (Panicked (P.Workbench 8)) ((line 1 144 0 Granted) ∷ (line 2 32 144 Granted) ∷ []) ((97 ∷ []) ∷ []) [] 6
unfolding everything
shortened_text_still_needs_its_units_run = refl

abbrev script_shrunk_text_loses_room_run : Script
script_shrunk_text_loses_room_run = script [] ((procedure 1 [] (body ((OfPointer None) ∷ OfNumber ∷ []) ((on 4 (Statement-F.NewText (Held
    (H.Local 0)) (Constant (pos 20)) GivesNull)) ∷ (on 5 (Statement-F.Copy (InCell (Held (H.Local 0))) (Quoted 0))) ∷ (on 6
    (Statement-F.ReallocText (Held (H.Local 0)) (Held (H.Local 0)) (Constant (pos 6)))) ∷ (on 7 (Statement-F.GetMaximum 1 (InCell (Held
    (H.Local 0))))) ∷ (on 8 (Statement-F.PrintNumber (Variable 1))) ∷ (on 9 (Statement-F.Append (InCell (Held (H.Local 0))) (Quoted 1))) ∷
    []))) ∷ []) [] ((97 ∷ 98 ∷ 99 ∷ 100 ∷ 101 ∷ 102 ∷ []) ∷ (103 ∷ []) ∷ []) 0

shrunk_text_loses_room_run : run script_shrunk_text_loses_room_run R.Unlimited 10000 (shaped 4096 4096) ≡ result (Panicked (P.User 11))
    ((line 1 144 0 Granted) ∷ (line 2 64 144 Granted) ∷ []) ((54 ∷ []) ∷ []) [] 6
unfolding everything
shrunk_text_loses_room_run = refl

abbrev script_source_is_looked_at_before_the_position_run : Script
script_source_is_looked_at_before_the_position_run = script [] ((procedure 1 [] (body ((OfPointer None) ∷ (OfBuffer 4) ∷ []) ((on 4
    (Statement-F.Insert (OwnBuffer 1) (Constant (negsuc 0)) (Of (InCell (Held (H.Local 0)))))) ∷ []))) ∷ []) [] [] 0

source_is_looked_at_before_the_position_run : run script_source_is_looked_at_before_the_position_run R.Unlimited 10000 (shaped 4096 4096) ≡
    result (Panicked (P.Workbench 1)) ((line 1 144 0 Granted) ∷ []) [] [] 1
unfolding everything
source_is_looked_at_before_the_position_run = refl

abbrev script_target_is_looked_at_before_the_source_run : Script
script_target_is_looked_at_before_the_source_run = script [] ((procedure 1 [] (body ((OfPointer None) ∷ (OfPointer None) ∷ []) ((on 4
    (Statement-F.Alloc (Held (H.Local 0)) (Constant (pos 1)) GivesNull)) ∷ (on 5 (Statement-F.Copy (InCell (Held (H.Local 0))) (Of (InCell
    (Held (H.Local 1)))))) ∷ []))) ∷ []) [] [] 0

target_is_looked_at_before_the_source_run : run script_target_is_looked_at_before_the_source_run R.Unlimited 10000 (shaped 4096 4096) ≡
    result (Panicked (P.Workbench 2)) ((line 1 144 0 Granted) ∷ (line 2 32 144 Granted) ∷ []) [] [] 2
unfolding everything
target_is_looked_at_before_the_source_run = refl

abbrev script_text_appended_to_itself_past_its_maximum_run : Script
script_text_appended_to_itself_past_its_maximum_run = script [] ((procedure 2 [] (body ((OfBuffer 3) ∷ []) ((on 4 (Statement-F.Copy
    (OwnBuffer 0) (Quoted 0))) ∷ (on 5 (Statement-F.Append (OwnBuffer 0) (Of (OwnBuffer 0)))) ∷ []))) ∷ []) [] ((97 ∷ 98 ∷ []) ∷ []) 0

text_appended_to_itself_past_its_maximum_run : run script_text_appended_to_itself_past_its_maximum_run R.Unlimited 10000 (shaped 4096 4096)
    ≡ result (Panicked (P.User 11)) ((line 1 144 0 Granted) ∷ []) [] [] 2
unfolding everything
text_appended_to_itself_past_its_maximum_run = refl

abbrev script_text_appended_to_itself_run : Script
script_text_appended_to_itself_run = script [] ((procedure 1 [] (body ((OfBuffer 8) ∷ OfView ∷ []) ((on 4 (Statement-F.Copy (OwnBuffer 0)
    (Quoted 0))) ∷ (on 5 (Statement-F.Append (OwnBuffer 0) (Of (OwnBuffer 0)))) ∷ (on 6 (Statement-F.PrintText (Of (OwnBuffer 0)))) ∷ (on 7
    (Statement-F.Mid 1 (Of (OwnBuffer 0)) (Constant (pos 1)) (Constant (pos 2)))) ∷ (on 8 (Statement-F.Copy (OwnBuffer 0) (ViewOf 1))) ∷ (on
    9 (Statement-F.PrintText (Of (OwnBuffer 0)))) ∷ (on 10 (Statement-F.Append (OwnBuffer 0) (ViewOf 1))) ∷ (on 11 (Statement-F.PrintText
    (Of (OwnBuffer 0)))) ∷ []))) ∷ []) [] ((97 ∷ 98 ∷ []) ∷ []) 0

text_appended_to_itself_run : run script_text_appended_to_itself_run R.Unlimited 10000 (shaped 4096 4096) ≡ result (Ended None []) ((line 1
    144 0 Granted) ∷ []) ((97 ∷ 98 ∷ 97 ∷ 98 ∷ []) ∷ (98 ∷ 97 ∷ []) ∷ (98 ∷ 97 ∷ 97 ∷ 46 ∷ []) ∷ []) [] 8
unfolding everything
text_appended_to_itself_run = refl

abbrev script_text_at_null_run : Script
script_text_at_null_run = script [] ((procedure 1 [] (body ((OfPointer None) ∷ []) ((on 3 (Statement-F.Append (InCell (Held (H.Local 0)))
    (Quoted 0))) ∷ []))) ∷ []) [] ((97 ∷ []) ∷ []) 0

text_at_null_run : run script_text_at_null_run R.Unlimited 10000 (shaped 4096 4096) ≡ result (Panicked (P.Workbench 1)) ((line 1 144 0
    Granted) ∷ []) [] [] 1
unfolding everything
text_at_null_run = refl

abbrev script_text_cell_is_made_as_long_as_its_text_run : Script
script_text_cell_is_made_as_long_as_its_text_run = script [] ((procedure 1 [] (body ((OfPointer None) ∷ []) ((on 3 (Statement-F.NewText
    (Held (H.Local 0)) (Constant (pos 6)) Leaves)) ∷ (on 4 (Statement-F.Copy (InCell (Held (H.Local 0))) (Quoted 0))) ∷ (on 5
    (Statement-F.ReallocText (Held (H.Local 0)) (Held (H.Local 0)) (Constant (pos 3)))) ∷ (on 6 (Statement-F.PrintText (Of (InCell (Held
    (H.Local 0)))))) ∷ (on 7 (Statement-F.ReallocText (Held (H.Local 0)) (Held (H.Local 0)) (Constant (pos 2)))) ∷ []))) ∷ []) [] ((97 ∷ 98
    ∷ 99 ∷ []) ∷ []) 0

text_cell_is_made_as_long_as_its_text_run : run script_text_cell_is_made_as_long_as_its_text_run R.Unlimited 10000 (shaped 4096 4096) ≡
    result (Panicked (P.Workbench 8)) ((line 1 144 0 Granted) ∷ (line 2 32 144 Granted) ∷ []) ((97 ∷ 98 ∷ 99 ∷ []) ∷ []) [] 5
unfolding everything
text_cell_is_made_as_long_as_its_text_run = refl

abbrev script_text_copied_between_cells_and_buffers_run : Script
script_text_copied_between_cells_and_buffers_run = script [] ((procedure 1 [] (body ((OfPointer None) ∷ (OfPointer None) ∷ (OfBuffer 4) ∷
    []) ((on 5 (Statement-F.NewText (Held (H.Local 0)) (Constant (pos 6)) GivesNull)) ∷ (on 6 (Statement-F.NewText (Held (H.Local 1))
    (Constant (pos 6)) GivesNull)) ∷ (on 7 (Statement-F.Copy (InCell (Held (H.Local 0))) (Quoted 0))) ∷ (on 8 (Statement-F.Copy (InCell
    (Held (H.Local 1))) (Of (InCell (Held (H.Local 0)))))) ∷ (on 9 (Statement-F.DeleteText (InCell (Held (H.Local 1))) (Constant (pos 0))
    (Constant (pos 2)))) ∷ (on 10 (Statement-F.Copy (OwnBuffer 2) (Of (InCell (Held (H.Local 1)))))) ∷ (on 11 (Statement-F.Append (InCell
    (Held (H.Local 1))) (Of (OwnBuffer 2)))) ∷ []))) ∷ []) [] ((97 ∷ 98 ∷ 99 ∷ 100 ∷ 101 ∷ 102 ∷ []) ∷ []) 0

text_copied_between_cells_and_buffers_run : run script_text_copied_between_cells_and_buffers_run R.Unlimited 10000 (shaped 4096 4096) ≡
    result (Panicked (P.User 11)) ((line 1 144 0 Granted) ∷ (line 2 32 144 Granted) ∷ (line 3 32 176 Granted) ∷ []) [] [] 7
unfolding everything
text_copied_between_cells_and_buffers_run = refl

abbrev script_text_counts_in_marks_and_leaks_run : Script
script_text_counts_in_marks_and_leaks_run = script [] ((procedure 1 [] (body ((OfPointer None) ∷ []) ((on 3 Statement-F.Mark) ∷ (on 4
    (Statement-F.NewText (Held (H.Local 0)) (Constant (pos 4)) GivesNull)) ∷ (on 5 (Statement-F.MarkEnd (Constant (pos 1)))) ∷ (on 6
    (Statement-F.SetNull (Held (H.Local 0)))) ∷ []))) ∷ []) [] [] 0

text_counts_in_marks_and_leaks_run : run script_text_counts_in_marks_and_leaks_run R.Unlimited 10000 (shaped 4096 4096) ≡ result (Ended None
    ((leak 2 32 144) ∷ [])) ((line 1 144 0 Granted) ∷ (line 2 32 144 Granted) ∷ []) [] [] 4
unfolding everything
text_counts_in_marks_and_leaks_run = refl

abbrev script_text_in_a_cell_is_edited_run : Script
script_text_in_a_cell_is_edited_run = script [] ((procedure 1 [] (body ((OfPointer None) ∷ OfNumber ∷ []) ((on 4 (Statement-F.NewText (Held
    (H.Local 0)) (Constant (pos 0)) GivesNull)) ∷ (on 5 (Statement-F.GetMaximum 1 (InCell (Held (H.Local 0))))) ∷ (on 6
    (Statement-F.PrintNumber (Variable 1))) ∷ (on 7 (Statement-F.AllocLen 1 (Held (H.Local 0)))) ∷ (on 8 (Statement-F.PrintNumber (Variable
    1))) ∷ (on 9 (Statement-F.Copy (InCell (Held (H.Local 0))) (Quoted 0))) ∷ (on 10 (Statement-F.Insert (InCell (Held (H.Local 0)))
    (Constant (pos 1)) (Quoted 1))) ∷ (on 11 (Statement-F.Insert (InCell (Held (H.Local 0))) (Constant (pos 0)) (Quoted 2))) ∷ (on 12
    (Statement-F.Append (InCell (Held (H.Local 0))) (Quoted 3))) ∷ (on 13 (Statement-F.PrintText (Of (InCell (Held (H.Local 0)))))) ∷ (on 14
    (Statement-F.DeleteText (InCell (Held (H.Local 0))) (Constant (pos 1)) (Constant (pos 2)))) ∷ (on 15 (Statement-F.PrintText (Of (InCell
    (Held (H.Local 0)))))) ∷ (on 16 (Statement-F.SetLength (InCell (Held (H.Local 0))) (Constant (pos 5)))) ∷ (on 17 (Statement-F.PrintText
    (Of (InCell (Held (H.Local 0)))))) ∷ (on 18 (Statement-F.SetLength (InCell (Held (H.Local 0))) (Constant (pos 1)))) ∷ (on 19
    (Statement-F.Append (InCell (Held (H.Local 0))) (Quoted 4))) ∷ (on 20 (Statement-F.GetLength 1 (Of (InCell (Held (H.Local 0)))))) ∷ (on
    21 (Statement-F.PrintNumber (Variable 1))) ∷ (on 22 (Statement-F.PrintText (Of (InCell (Held (H.Local 0)))))) ∷ (on 23 (Statement-F.Free
    (Held (H.Local 0)))) ∷ []))) ∷ []) [] ((98 ∷ 100 ∷ []) ∷ (99 ∷ []) ∷ (97 ∷ []) ∷ (101 ∷ 102 ∷ []) ∷ (122 ∷ []) ∷ []) 0

text_in_a_cell_is_edited_run : run script_text_in_a_cell_is_edited_run R.Unlimited 10000 (shaped 4096 4096) ≡ result (Ended None []) ((line
    1 144 0 Granted) ∷ (line 2 32 144 Granted) ∷ []) ((54 ∷ []) ∷ (49 ∷ 54 ∷ []) ∷ (97 ∷ 98 ∷ 99 ∷ 100 ∷ 101 ∷ 102 ∷ []) ∷ (97 ∷ 100 ∷ 101 ∷
    102 ∷ []) ∷ (97 ∷ 100 ∷ 101 ∷ 102 ∷ 46 ∷ []) ∷ (50 ∷ []) ∷ (97 ∷ 122 ∷ []) ∷ []) [] 20
unfolding everything
text_in_a_cell_is_edited_run = refl

abbrev script_text_in_a_cell_is_grown_and_edited_run : Script
script_text_in_a_cell_is_grown_and_edited_run = script [] ((procedure 2 [] (body ((OfPointer None) ∷ (OfPointer None) ∷ OfNumber ∷ []) ((on
    6 (Statement-F.NewText (Held (H.Local 0)) (Constant (pos 4)) GivesNull)) ∷ (on 7 (Statement-F.GetMaximum 2 (InCell (Held (H.Local 0)))))
    ∷ (on 8 (Statement-F.PrintNumber (Variable 2))) ∷ (on 9 (Statement-F.Copy (InCell (Held (H.Local 0))) (Quoted 0))) ∷ (on 10
    (Statement-F.Append (InCell (Held (H.Local 0))) (Quoted 1))) ∷ (on 11 (Statement-F.ReallocText (Held (H.Local 1)) (Held (H.Local 0))
    (Constant (pos 7)))) ∷ (on 12 (Statement-F.GetMaximum 2 (InCell (Held (H.Local 1))))) ∷ (on 13 (Statement-F.PrintNumber (Variable 2))) ∷
    (on 14 (Statement-F.Insert (InCell (Held (H.Local 1))) (Constant (pos 4)) (Quoted 2))) ∷ (on 15 (Statement-F.PrintText (Of (InCell (Held
    (H.Local 0)))))) ∷ (on 16 (Statement-F.DeleteText (InCell (Held (H.Local 0))) (Constant (pos 2)) (Constant (pos 5)))) ∷ (on 17
    (Statement-F.PrintText (Of (InCell (Held (H.Local 1)))))) ∷ (on 18 (Statement-F.SetLength (InCell (Held (H.Local 1))) (Constant (pos
    2)))) ∷ (on 19 (Statement-F.GetLength 2 (Of (InCell (Held (H.Local 0)))))) ∷ (on 20 (Statement-F.PrintNumber (Variable 2))) ∷ (on 21
    (Statement-F.Free (Held (H.Local 0)))) ∷ []))) ∷ []) [] ((99 ∷ 100 ∷ 101 ∷ 102 ∷ []) ∷ (97 ∷ 98 ∷ []) ∷ (99 ∷ 100 ∷ 101 ∷ 102 ∷ []) ∷
    []) 0

text_in_a_cell_is_grown_and_edited_run : run script_text_in_a_cell_is_grown_and_edited_run R.Unlimited 10000 (shaped 4096 4096) ≡ result
    (Ended None []) ((line 1 144 0 Granted) ∷ (line 2 32 144 Granted) ∷ (line 3 48 144 Granted) ∷ []) ((54 ∷ []) ∷ (49 ∷ 52 ∷ []) ∷ (99 ∷
    100 ∷ 101 ∷ 102 ∷ 99 ∷ 100 ∷ 101 ∷ 102 ∷ 97 ∷ 98 ∷ []) ∷ (99 ∷ 100 ∷ 102 ∷ 97 ∷ 98 ∷ []) ∷ (50 ∷ []) ∷ []) [] 16
unfolding everything
text_in_a_cell_is_grown_and_edited_run = refl

abbrev script_text_in_a_cell_of_words_run : Script
script_text_in_a_cell_of_words_run = script [] ((procedure 1 [] (body ((OfPointer None) ∷ []) ((on 3 (Statement-F.Alloc (Held (H.Local 0))
    (Constant (pos 16)) GivesNull)) ∷ (on 4 (Statement-F.PrintText (Of (InCell (Held (H.Local 0)))))) ∷ []))) ∷ []) [] [] 0

text_in_a_cell_of_words_run : run script_text_in_a_cell_of_words_run R.Unlimited 10000 (shaped 4096 4096) ≡ result (Panicked (P.Workbench
    2)) ((line 1 144 0 Granted) ∷ (line 2 32 144 Granted) ∷ []) [] [] 2
unfolding everything
text_in_a_cell_of_words_run = refl

abbrev script_text_of_fewer_than_no_units_run : Script
script_text_of_fewer_than_no_units_run = script [] ((procedure 1 [] (body ((OfPointer None) ∷ []) ((on 3 (Statement-F.NewText (Held (H.Local
    0)) (Constant (negsuc 0)) GivesNull)) ∷ []))) ∷ []) [] [] 0

text_of_fewer_than_no_units_run : run script_text_of_fewer_than_no_units_run R.Unlimited 10000 (shaped 4096 4096) ≡ result (Panicked
    (P.Workbench 9)) ((line 1 144 0 Granted) ∷ []) [] [] 1
unfolding everything
text_of_fewer_than_no_units_run = refl

abbrev script_text_past_one_mebibyte_run : Script
script_text_past_one_mebibyte_run = script [] ((procedure 1 [] (body ((OfPointer None) ∷ []) ((on 3 (Statement-F.NewText (Held (H.Local 0))
    (Constant (pos 524286)) GivesNull)) ∷ (on 4 (Statement-F.NewText (Held (H.Local 0)) (Constant (pos 524287)) GivesNull)) ∷ []))) ∷ []) []
    [] 0

text_past_one_mebibyte_run : run script_text_past_one_mebibyte_run R.Unlimited 10000 (shaped 4096 4096) ≡ result (Panicked (P.Workbench 9))
    ((line 1 144 0 Granted) ∷ (line 2 1048592 144 Granted) ∷ []) [] [] 2
unfolding everything
text_past_one_mebibyte_run = refl

abbrev script_text_that_the_heap_refuses_run : Script
script_text_that_the_heap_refuses_run = script [] ((procedure 2 [] (body ((OfPointer None) ∷ (OfPointer None) ∷ []) ((on 5
    (Statement-F.NewText (Held (H.Local 0)) (Constant (pos 2)) GivesNull)) ∷ (on 6 (Statement-F.Copy (InCell (Held (H.Local 0))) (Quoted
    0))) ∷ (on 7 (Statement-F.NewText (Held (H.Local 1)) (Constant (pos 2)) GivesNull)) ∷ (on 8 (Statement-F.FailNext (Constant (pos 1)))) ∷
    (on 9 (Statement-F.ReallocText (Held (H.Local 1)) (Held (H.Local 0)) (Constant (pos 9)))) ∷ (on 10 (Statement-F.PrintText (Of (InCell
    (Held (H.Local 0)))))) ∷ (on 11 (Statement-F.Free (Held (H.Local 1)))) ∷ (on 12 (Statement-F.FailNext (Constant (pos 1)))) ∷ (on 13
    (Statement-F.NewText (Held (H.Local 0)) (Constant (pos 2)) GivesNull)) ∷ (on 14 (Statement-F.Free (Held (H.Local 0)))) ∷ []))) ∷ []) []
    ((97 ∷ 98 ∷ []) ∷ []) 0

text_that_the_heap_refuses_run : run script_text_that_the_heap_refuses_run R.Unlimited 10000 (shaped 4096 4096) ≡ result (Ended None ((leak
    2 32 144) ∷ (leak 3 32 176) ∷ [])) ((line 1 144 0 Granted) ∷ (line 2 32 144 Granted) ∷ (line 3 32 176 Granted) ∷ (line 4 48 208
    Simulated) ∷ (line 5 32 208 Simulated) ∷ []) ((97 ∷ 98 ∷ []) ∷ []) [] 10
unfolding everything
text_that_the_heap_refuses_run = refl
