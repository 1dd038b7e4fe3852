-- Worked cases of `machine`, each by computing. Written by tools/cases_to_theorems.py; edit nothing here.
use Rattle.std.specs.Prelude.{◌≡◌, refl, pos, negsuc, [], ◌∷◌, Some, None}
use Rattle.wb_heap_model.specs.declared.heap.Rule.TheVariants as R
use Rattle.wb_heap_model.specs.declared.heap.Panic.TheVariants as P
use Rattle.wb_tree.specs.declared.script.Holder.TheVariants as H
use Rattle.wb_heap_model.specs.declared.heap.Answer.TheVariants.{Granted, Simulated, Refused}
use Rattle.wb_meaning.specs.declared.run.Why.TheVariants.{Budget, Ceiling}
use Rattle.wb_meaning.specs.declared.run.Outcome.TheVariants.{Ended, Panicked, Cut}
use Rattle.wb_tree.specs.declared.script.Script.{Script}
use Rattle.wb_tree.specs.declared.script.Local.TheVariants.{OfPointer, OfNumber, OfView}
use Rattle.wb_tree.specs.declared.script.Pointer.TheVariants.{Held}
use Rattle.wb_tree.specs.declared.script.Number.TheVariants.{Constant, Variable}
use Rattle.wb_tree.specs.declared.script.Writable.TheVariants.{InCell}
use Rattle.wb_tree.specs.declared.script.Readable.TheVariants.{Of, Quoted}
use Rattle.wb_tree.specs.declared.script.Condition.TheVariants.{IsNull}
use Rattle.wb_tree.specs.declared.script.Refusal.TheVariants.{GivesNull, Leaves}
use Rattle.wb_tree.specs.declared.script.Statement.TheOpen.{Statement-F}
use Rattle.wb_meaning.specs.Run.{run}
use Rattle.wb_worked.specs.Shorthands.{everything, on, script, procedure, body, result, leak, shaped, line}

abbrev script_budget_ends_before_the_frames_do_run : Script
script_budget_ends_before_the_frames_do_run = script [] ((procedure 1 [] (body [] ((on 2 (Statement-F.Call 0 [])) ∷ []))) ∷ (procedure 4 []
    (body [] ((on 5 (Statement-F.Call 0 [])) ∷ []))) ∷ []) [] [] 1

budget_ends_before_the_frames_do_run : run script_budget_ends_before_the_frames_do_run R.Unlimited 127 (shaped 4096 4096) ≡ result (Cut
    Budget) ((line 1 144 0 Granted) ∷ []) [] [] 127
unfolding everything
budget_ends_before_the_frames_do_run = refl

abbrev script_endless_calls_run_out_of_frames_run : Script
script_endless_calls_run_out_of_frames_run = script [] ((procedure 1 [] (body [] ((on 2 (Statement-F.Call 0 [])) ∷ []))) ∷ (procedure 4 []
    (body [] ((on 5 (Statement-F.Call 0 [])) ∷ []))) ∷ []) [] [] 1

endless_calls_run_out_of_frames_run : run script_endless_calls_run_out_of_frames_run R.Unlimited 10000 (shaped 4096 4096) ≡ result (Panicked
    (P.Workbench 7)) ((line 1 144 0 Granted) ∷ []) [] [] 128
unfolding everything
endless_calls_run_out_of_frames_run = refl

abbrev script_every_second_attempt_fails_run : Script
script_every_second_attempt_fails_run = script [] ((procedure 1 [] (body ((OfPointer None) ∷ []) ((on 3 (Statement-F.FailEvery (Constant
    (pos 2)))) ∷ (on 4 (Statement-F.Repeat (Constant (pos 4)) ((on 5 (Statement-F.Alloc (Held (H.Local 0)) (Constant (pos 16)) GivesNull)) ∷
    (on 6 (Statement-F.Free (Held (H.Local 0)))) ∷ []))) ∷ []))) ∷ []) [] [] 0

every_second_attempt_fails_run : run script_every_second_attempt_fails_run R.Unlimited 10000 (shaped 4096 4096) ≡ result (Ended None [])
    ((line 1 144 0 Granted) ∷ (line 2 32 144 Granted) ∷ (line 3 32 144 Simulated) ∷ (line 4 32 144 Granted) ∷ (line 5 32 144 Simulated) ∷
    []) [] [] 14
unfolding everything
every_second_attempt_fails_run = refl

abbrev script_last_cell_passes_the_ceiling_run : Script
script_last_cell_passes_the_ceiling_run = script [] ((procedure 1 [] (body ((OfPointer None) ∷ []) ((on 3 (Statement-F.Repeat (Constant (pos
    15)) ((on 4 (Statement-F.Alloc (Held (H.Local 0)) (Constant (pos 1048560)) GivesNull)) ∷ []))) ∷ (on 6 (Statement-F.Alloc (Held (H.Local
    0)) (Constant (pos 1048417)) GivesNull)) ∷ []))) ∷ []) [] [] 0

last_cell_passes_the_ceiling_run : run script_last_cell_passes_the_ceiling_run R.Unlimited 10000 (shaped 4096 4096) ≡ result (Cut Ceiling)
    ((line 1 144 0 Granted) ∷ (line 2 1048576 144 Granted) ∷ (line 3 1048576 1048720 Granted) ∷ (line 4 1048576 2097296 Granted) ∷ (line 5
    1048576 3145872 Granted) ∷ (line 6 1048576 4194448 Granted) ∷ (line 7 1048576 5243024 Granted) ∷ (line 8 1048576 6291600 Granted) ∷
    (line 9 1048576 7340176 Granted) ∷ (line 10 1048576 8388752 Granted) ∷ (line 11 1048576 9437328 Granted) ∷ (line 12 1048576 10485904
    Granted) ∷ (line 13 1048576 11534480 Granted) ∷ (line 14 1048576 12583056 Granted) ∷ (line 15 1048576 13631632 Granted) ∷ (line 16
    1048576 14680208 Granted) ∷ []) [] [] 32
unfolding everything
last_cell_passes_the_ceiling_run = refl

abbrev script_limit_at_the_ceiling_refuses_instead_of_cutting_run : Script
script_limit_at_the_ceiling_refuses_instead_of_cutting_run = script [] ((procedure 1 [] (body ((OfPointer None) ∷ []) ((on 3
    (Statement-F.Repeat (Constant (pos 15)) ((on 4 (Statement-F.Alloc (Held (H.Local 0)) (Constant (pos 1048560)) GivesNull)) ∷ []))) ∷ (on
    6 (Statement-F.Alloc (Held (H.Local 0)) (Constant (pos 1048417)) GivesNull)) ∷ []))) ∷ []) [] [] 0

limit_at_the_ceiling_refuses_instead_of_cutting_run : run script_limit_at_the_ceiling_refuses_instead_of_cutting_run (R.Limit 16777216)
    10000 (shaped 4096 4096) ≡ result (Ended None ((leak 2 1048576 144) ∷ (leak 3 1048576 1048720) ∷ (leak 4 1048576 2097296) ∷ (leak 5
    1048576 3145872) ∷ (leak 6 1048576 4194448) ∷ (leak 7 1048576 5243024) ∷ (leak 8 1048576 6291600) ∷ (leak 9 1048576 7340176) ∷ (leak 10
    1048576 8388752) ∷ (leak 11 1048576 9437328) ∷ (leak 12 1048576 10485904) ∷ (leak 13 1048576 11534480) ∷ (leak 14 1048576 12583056) ∷
    (leak 15 1048576 13631632) ∷ (leak 16 1048576 14680208) ∷ [])) ((line 1 144 0 Granted) ∷ (line 2 1048576 144 Granted) ∷ (line 3 1048576
    1048720 Granted) ∷ (line 4 1048576 2097296 Granted) ∷ (line 5 1048576 3145872 Granted) ∷ (line 6 1048576 4194448 Granted) ∷ (line 7
    1048576 5243024 Granted) ∷ (line 8 1048576 6291600 Granted) ∷ (line 9 1048576 7340176 Granted) ∷ (line 10 1048576 8388752 Granted) ∷
    (line 11 1048576 9437328 Granted) ∷ (line 12 1048576 10485904 Granted) ∷ (line 13 1048576 11534480 Granted) ∷ (line 14 1048576 12583056
    Granted) ∷ (line 15 1048576 13631632 Granted) ∷ (line 16 1048576 14680208 Granted) ∷ (line 17 1048448 15728784 Refused) ∷ []) [] [] 32
unfolding everything
limit_at_the_ceiling_refuses_instead_of_cutting_run = refl

abbrev script_limit_just_enough_run : Script
script_limit_just_enough_run = script [] ((procedure 1 [] (body ((OfPointer None) ∷ (OfPointer None) ∷ (OfPointer None) ∷ []) ((on 5
    (Statement-F.Alloc (Held (H.Local 0)) (Constant (pos 48)) GivesNull)) ∷ (on 6 (Statement-F.Alloc (Held (H.Local 1)) (Constant (pos 16))
    GivesNull)) ∷ (on 7 (Statement-F.Free (Held (H.Local 0)))) ∷ (on 8 (Statement-F.Realloc (Held (H.Local 2)) (Held (H.Local 1)) (Constant
    (pos 48)) GivesNull)) ∷ (on 9 (Statement-F.IfElse (IsNull (Held (H.Local 2))) ((on 10 (Statement-F.Free (Held (H.Local 1)))) ∷ []) ((on
    12 (Statement-F.Free (Held (H.Local 2)))) ∷ []))) ∷ []))) ∷ []) [] [] 0

limit_just_enough_run : run script_limit_just_enough_run (R.Limit 272) 10000 (shaped 4096 4096) ≡ result (Ended None []) ((line 1 144 0
    Granted) ∷ (line 2 64 144 Granted) ∷ (line 3 32 208 Granted) ∷ (line 4 64 208 Granted) ∷ []) [] [] 6
unfolding everything
limit_just_enough_run = refl

abbrev script_limit_one_byte_short_of_enough_run : Script
script_limit_one_byte_short_of_enough_run = script [] ((procedure 1 [] (body ((OfPointer None) ∷ (OfPointer None) ∷ (OfPointer None) ∷ [])
    ((on 5 (Statement-F.Alloc (Held (H.Local 0)) (Constant (pos 48)) GivesNull)) ∷ (on 6 (Statement-F.Alloc (Held (H.Local 1)) (Constant
    (pos 16)) GivesNull)) ∷ (on 7 (Statement-F.Free (Held (H.Local 0)))) ∷ (on 8 (Statement-F.Realloc (Held (H.Local 2)) (Held (H.Local 1))
    (Constant (pos 48)) GivesNull)) ∷ (on 9 (Statement-F.IfElse (IsNull (Held (H.Local 2))) ((on 10 (Statement-F.Free (Held (H.Local 1)))) ∷
    []) ((on 12 (Statement-F.Free (Held (H.Local 2)))) ∷ []))) ∷ []))) ∷ []) [] [] 0

limit_one_byte_short_of_enough_run : run script_limit_one_byte_short_of_enough_run (R.Limit 271) 10000 (shaped 4096 4096) ≡ result (Ended
    None []) ((line 1 144 0 Granted) ∷ (line 2 64 144 Granted) ∷ (line 3 32 208 Granted) ∷ (line 4 64 208 Refused) ∷ []) [] [] 6
unfolding everything
limit_one_byte_short_of_enough_run = refl

abbrev script_limit_stops_top_cell_growth_run : Script
script_limit_stops_top_cell_growth_run = script [] ((procedure 1 [] (body ((OfPointer None) ∷ (OfPointer None) ∷ (OfPointer None) ∷ []) ((on
    5 (Statement-F.Alloc (Held (H.Local 0)) (Constant (pos 48)) GivesNull)) ∷ (on 6 (Statement-F.Alloc (Held (H.Local 1)) (Constant (pos
    16)) GivesNull)) ∷ (on 7 (Statement-F.Free (Held (H.Local 0)))) ∷ (on 8 (Statement-F.Realloc (Held (H.Local 2)) (Held (H.Local 1))
    (Constant (pos 48)) GivesNull)) ∷ (on 9 (Statement-F.IfElse (IsNull (Held (H.Local 2))) ((on 10 (Statement-F.Free (Held (H.Local 1)))) ∷
    []) ((on 12 (Statement-F.Free (Held (H.Local 2)))) ∷ []))) ∷ []))) ∷ []) [] [] 0

limit_stops_top_cell_growth_run : run script_limit_stops_top_cell_growth_run (R.Limit 256) 10000 (shaped 4096 4096) ≡ result (Ended None [])
    ((line 1 144 0 Granted) ∷ (line 2 64 144 Granted) ∷ (line 3 32 208 Granted) ∷ (line 4 64 208 Refused) ∷ []) [] [] 6
unfolding everything
limit_stops_top_cell_growth_run = refl

abbrev script_refused_text_growth_after_leaving_allocation_run : Script
script_refused_text_growth_after_leaving_allocation_run = script [] ((procedure 1 [] (body ((OfPointer None) ∷ (OfPointer None) ∷ []) ((on 4
    (Statement-F.NewText (Held (H.Local 0)) (Constant (pos 4)) Leaves)) ∷ (on 5 (Statement-F.Append (InCell (Held (H.Local 0))) (Quoted 0)))
    ∷ (on 6 (Statement-F.FailNext (Constant (pos 1)))) ∷ (on 7 (Statement-F.ReallocText (Held (H.Local 1)) (Held (H.Local 0)) (Constant (pos
    20)))) ∷ (on 8 (Statement-F.PrintText (Of (InCell (Held (H.Local 0)))))) ∷ (on 9 (Statement-F.Free (Held (H.Local 0)))) ∷ []))) ∷ []) []
    ((97 ∷ 98 ∷ 99 ∷ []) ∷ []) 0

refused_text_growth_after_leaving_allocation_run : run script_refused_text_growth_after_leaving_allocation_run R.Unlimited 10000 (shaped
    4096 4096) ≡ result (Ended None []) ((line 1 144 0 Granted) ∷ (line 2 32 144 Granted) ∷ (line 3 64 144 Simulated) ∷ []) ((97 ∷ 98 ∷ 99 ∷
    []) ∷ []) [] 6
unfolding everything
refused_text_growth_after_leaving_allocation_run = refl

abbrev script_sixteen_nested_blocks_run : Script
script_sixteen_nested_blocks_run = script [] ((procedure 1 [] (body [] ((on 2 (Statement-F.Repeat (Constant (pos 1)) ((on 3
    (Statement-F.Repeat (Constant (pos 1)) ((on 4 (Statement-F.Repeat (Constant (pos 1)) ((on 5 (Statement-F.Repeat (Constant (pos 1)) ((on
    6 (Statement-F.Repeat (Constant (pos 1)) ((on 7 (Statement-F.Repeat (Constant (pos 1)) ((on 8 (Statement-F.Repeat (Constant (pos 1))
    ((on 9 (Statement-F.Repeat (Constant (pos 1)) ((on 10 (Statement-F.Repeat (Constant (pos 1)) ((on 11 (Statement-F.Repeat (Constant (pos
    1)) ((on 12 (Statement-F.Repeat (Constant (pos 1)) ((on 13 (Statement-F.Repeat (Constant (pos 1)) ((on 14 (Statement-F.Repeat (Constant
    (pos 1)) ((on 15 (Statement-F.Repeat (Constant (pos 1)) ((on 16 (Statement-F.Repeat (Constant (pos 1)) ((on 17 (Statement-F.Repeat
    (Constant (pos 1)) [])) ∷ []))) ∷ []))) ∷ []))) ∷ []))) ∷ []))) ∷ []))) ∷ []))) ∷ []))) ∷ []))) ∷ []))) ∷ []))) ∷ []))) ∷ []))) ∷ [])))
    ∷ []))) ∷ []))) ∷ []) [] [] 0

sixteen_nested_blocks_run : run script_sixteen_nested_blocks_run R.Unlimited 10000 (shaped 4096 4096) ≡ result (Ended None []) ((line 1 144
    0 Granted) ∷ []) [] [] 32
unfolding everything
sixteen_nested_blocks_run = refl

abbrev script_text_from_leaving_allocation_too_long_run : Script
script_text_from_leaving_allocation_too_long_run = script [] ((procedure 1 [] (body ((OfPointer None) ∷ OfNumber ∷ OfView ∷ []) ((on 5
    (Statement-F.NewText (Held (H.Local 0)) (Constant (pos 4)) Leaves)) ∷ (on 6 (Statement-F.GetMaximum 1 (InCell (Held (H.Local 0))))) ∷
    (on 7 (Statement-F.PrintNumber (Variable 1))) ∷ (on 8 (Statement-F.Append (InCell (Held (H.Local 0))) (Quoted 0))) ∷ (on 9
    (Statement-F.Append (InCell (Held (H.Local 0))) (Quoted 1))) ∷ []))) ∷ []) [] ((97 ∷ 98 ∷ 99 ∷ 100 ∷ 101 ∷ 102 ∷ []) ∷ (103 ∷ []) ∷ [])
    0

text_from_leaving_allocation_too_long_run : run script_text_from_leaving_allocation_too_long_run R.Unlimited 10000 (shaped 4096 4096) ≡
    result (Panicked (P.User 11)) ((line 1 144 0 Granted) ∷ (line 2 32 144 Granted) ∷ []) ((54 ∷ []) ∷ []) [] 5
unfolding everything
text_from_leaving_allocation_too_long_run = refl

abbrev script_top_cell_grows_in_place_run : Script
script_top_cell_grows_in_place_run = script [] ((procedure 1 [] (body ((OfPointer None) ∷ (OfPointer None) ∷ (OfPointer None) ∷ []) ((on 5
    (Statement-F.Alloc (Held (H.Local 0)) (Constant (pos 48)) GivesNull)) ∷ (on 6 (Statement-F.Alloc (Held (H.Local 1)) (Constant (pos 16))
    GivesNull)) ∷ (on 7 (Statement-F.Free (Held (H.Local 0)))) ∷ (on 8 (Statement-F.Realloc (Held (H.Local 2)) (Held (H.Local 1)) (Constant
    (pos 48)) GivesNull)) ∷ (on 9 (Statement-F.IfElse (IsNull (Held (H.Local 2))) ((on 10 (Statement-F.Free (Held (H.Local 1)))) ∷ []) ((on
    12 (Statement-F.Free (Held (H.Local 2)))) ∷ []))) ∷ []))) ∷ []) [] [] 0

top_cell_grows_in_place_run : run script_top_cell_grows_in_place_run R.Unlimited 10000 (shaped 4096 4096) ≡ result (Ended None []) ((line 1
    144 0 Granted) ∷ (line 2 64 144 Granted) ∷ (line 3 32 208 Granted) ∷ (line 4 64 208 Granted) ∷ []) [] [] 6
unfolding everything
top_cell_grows_in_place_run = refl

abbrev script_trapped_leave_leaves_again_run : Script
script_trapped_leave_leaves_again_run = script [] ((procedure 1 [] (body (OfNumber ∷ []) ((on 3 (Statement-F.Trap 0 ((on 4
    (Statement-F.Leave (Constant (negsuc 6)))) ∷ []))) ∷ (on 6 (Statement-F.PrintNumber (Variable 0))) ∷ (on 7 (Statement-F.LeaveIfError
    (Variable 0))) ∷ []))) ∷ []) [] [] 0

trapped_leave_leaves_again_run : run script_trapped_leave_leaves_again_run R.Unlimited 10000 (shaped 4096 4096) ≡ result (Ended (Some
    (negsuc 6)) []) ((line 1 144 0 Granted) ∷ []) ((45 ∷ 55 ∷ []) ∷ []) [] 4
unfolding everything
trapped_leave_leaves_again_run = refl

abbrev script_view_past_text_from_leaving_allocation_run : Script
script_view_past_text_from_leaving_allocation_run = script [] ((procedure 1 [] (body ((OfPointer None) ∷ OfNumber ∷ OfView ∷ []) ((on 5
    (Statement-F.NewText (Held (H.Local 0)) (Constant (pos 4)) Leaves)) ∷ (on 6 (Statement-F.GetMaximum 1 (InCell (Held (H.Local 0))))) ∷
    (on 7 (Statement-F.PrintNumber (Variable 1))) ∷ (on 8 (Statement-F.Append (InCell (Held (H.Local 0))) (Quoted 0))) ∷ (on 9
    (Statement-F.Mid 2 (Of (InCell (Held (H.Local 0)))) (Constant (pos 7)) (Constant (pos 0)))) ∷ []))) ∷ []) [] ((97 ∷ 98 ∷ 99 ∷ 100 ∷ 101
    ∷ 102 ∷ []) ∷ []) 0

view_past_text_from_leaving_allocation_run : run script_view_past_text_from_leaving_allocation_run R.Unlimited 10000 (shaped 4096 4096) ≡
    result (Panicked (P.User 10)) ((line 1 144 0 Granted) ∷ (line 2 32 144 Granted) ∷ []) ((54 ∷ []) ∷ []) [] 5
unfolding everything
view_past_text_from_leaving_allocation_run = refl
