-- Worked cases of `moving`, each by computing. Written by tools/cases_to_theorems.py; edit nothing here.
use Rattle.std.specs.Prelude.{◌≡◌, refl, pos, negsuc, [], ◌∷◌, length, Some, None}
use Rattle.wb_runs.specs.declared.failures.Failures.TheVariants.{Single, Every}
use Rattle.wb_heap_model.specs.declared.heap.Rule.TheVariants as R
use Rattle.wb_heap_model.specs.declared.heap.Panic.TheVariants as P
use Rattle.wb_tree.specs.declared.script.Holder.TheVariants as H
use Rattle.wb_heap_model.specs.declared.heap.Answer.TheVariants.{Granted, Simulated, Refused}
use Rattle.wb_runs.specs.declared.run_end.RunEnd.TheVariants as E
use Rattle.wb_meaning.specs.declared.run.Why.TheVariants.{Ceiling}
use Rattle.wb_meaning.specs.declared.run.Outcome.TheVariants.{Ended, Panicked, Cut}
use Rattle.wb_tree.specs.declared.script.Script.{Script}
use Rattle.wb_tree.specs.declared.script.Local.TheVariants.{OfPointer}
use Rattle.wb_tree.specs.declared.script.Pointer.TheVariants.{Held}
use Rattle.wb_tree.specs.declared.script.Number.TheVariants.{Constant}
use Rattle.wb_tree.specs.declared.script.Condition.TheVariants.{IsNull, NotNull}
use Rattle.wb_tree.specs.declared.script.Refusal.TheVariants.{GivesNull, Leaves}
use Rattle.wb_tree.specs.declared.script.Statement.TheOpen.{Statement-F}
use Rattle.wb_meaning.specs.Run.{run, required, rises}
use Rattle.wb_runs.specs.AllNumbers.{unfine_in}
use Rattle.wb_runs.specs.Lengths.{end_in, run_in}
use Rattle.wb_runs.specs.Sweeps.{runs_of, least_bad_or_cut}
use Rattle.wb_worked.specs.Shorthands.{
  everything,
  on,
  script,
  procedure,
  body,
  result,
  leak,
  shaped,
  shaped_moving,
  line,
  rise,
  ending,
  part,
}

abbrev script_ceiling_by_moving_check : Script
script_ceiling_by_moving_check = script [] ((procedure 2 [] (body ((OfPointer None) ∷ (OfPointer None) ∷ (OfPointer None) ∷ (OfPointer None)
    ∷ (OfPointer None) ∷ (OfPointer None) ∷ (OfPointer None) ∷ (OfPointer None) ∷ (OfPointer None) ∷ (OfPointer None) ∷ (OfPointer None) ∷
    (OfPointer None) ∷ (OfPointer None) ∷ (OfPointer None) ∷ (OfPointer None) ∷ (OfPointer None) ∷ []) ((on 19 (Statement-F.Alloc (Held
    (H.Local 0)) (Constant (pos 1048576)) GivesNull)) ∷ (on 20 (Statement-F.Alloc (Held (H.Local 1)) (Constant (pos 1048576)) GivesNull)) ∷
    (on 21 (Statement-F.Alloc (Held (H.Local 2)) (Constant (pos 1048576)) GivesNull)) ∷ (on 22 (Statement-F.Alloc (Held (H.Local 3))
    (Constant (pos 1048576)) GivesNull)) ∷ (on 23 (Statement-F.Alloc (Held (H.Local 4)) (Constant (pos 1048576)) GivesNull)) ∷ (on 24
    (Statement-F.Alloc (Held (H.Local 5)) (Constant (pos 1048576)) GivesNull)) ∷ (on 25 (Statement-F.Alloc (Held (H.Local 6)) (Constant (pos
    1048576)) GivesNull)) ∷ (on 26 (Statement-F.Alloc (Held (H.Local 7)) (Constant (pos 1048576)) GivesNull)) ∷ (on 27 (Statement-F.Alloc
    (Held (H.Local 8)) (Constant (pos 1048576)) GivesNull)) ∷ (on 28 (Statement-F.Alloc (Held (H.Local 9)) (Constant (pos 1048576))
    GivesNull)) ∷ (on 29 (Statement-F.Alloc (Held (H.Local 10)) (Constant (pos 1048576)) GivesNull)) ∷ (on 30 (Statement-F.Alloc (Held
    (H.Local 11)) (Constant (pos 1048576)) GivesNull)) ∷ (on 31 (Statement-F.Alloc (Held (H.Local 12)) (Constant (pos 1048576)) GivesNull))
    ∷ (on 32 (Statement-F.Alloc (Held (H.Local 13)) (Constant (pos 1048576)) GivesNull)) ∷ (on 33 (Statement-F.Alloc (Held (H.Local 14))
    (Constant (pos 1048576)) GivesNull)) ∷ (on 34 (Statement-F.Alloc (Held (H.Local 15)) (Constant (pos 100000)) GivesNull)) ∷ (on 35
    (Statement-F.Realloc (Held (H.Local 15)) (Held (H.Local 15)) (Constant (pos 1000000)) GivesNull)) ∷ (on 36 (Statement-F.Free (Held
    (H.Local 0)))) ∷ (on 37 (Statement-F.Free (Held (H.Local 1)))) ∷ (on 38 (Statement-F.Free (Held (H.Local 2)))) ∷ (on 39
    (Statement-F.Free (Held (H.Local 3)))) ∷ (on 40 (Statement-F.Free (Held (H.Local 4)))) ∷ (on 41 (Statement-F.Free (Held (H.Local 5)))) ∷
    (on 42 (Statement-F.Free (Held (H.Local 6)))) ∷ (on 43 (Statement-F.Free (Held (H.Local 7)))) ∷ (on 44 (Statement-F.Free (Held (H.Local
    8)))) ∷ (on 45 (Statement-F.Free (Held (H.Local 9)))) ∷ (on 46 (Statement-F.Free (Held (H.Local 10)))) ∷ (on 47 (Statement-F.Free (Held
    (H.Local 11)))) ∷ (on 48 (Statement-F.Free (Held (H.Local 12)))) ∷ (on 49 (Statement-F.Free (Held (H.Local 13)))) ∷ (on 50
    (Statement-F.Free (Held (H.Local 14)))) ∷ (on 51 (Statement-F.Free (Held (H.Local 15)))) ∷ []))) ∷ []) [] [] 0

ceiling_by_moving_check : (run script_ceiling_by_moving_check R.Unlimited 10000 (shaped_moving 4096 4096)).outcome ≡ Cut Ceiling
unfolding everything
ceiling_by_moving_check = refl

abbrev script_ceiling_by_moving_in_place_run : Script
script_ceiling_by_moving_in_place_run = script [] ((procedure 2 [] (body ((OfPointer None) ∷ (OfPointer None) ∷ (OfPointer None) ∷
    (OfPointer None) ∷ (OfPointer None) ∷ (OfPointer None) ∷ (OfPointer None) ∷ (OfPointer None) ∷ (OfPointer None) ∷ (OfPointer None) ∷
    (OfPointer None) ∷ (OfPointer None) ∷ (OfPointer None) ∷ (OfPointer None) ∷ (OfPointer None) ∷ (OfPointer None) ∷ []) ((on 19
    (Statement-F.Alloc (Held (H.Local 0)) (Constant (pos 1048576)) GivesNull)) ∷ (on 20 (Statement-F.Alloc (Held (H.Local 1)) (Constant (pos
    1048576)) GivesNull)) ∷ (on 21 (Statement-F.Alloc (Held (H.Local 2)) (Constant (pos 1048576)) GivesNull)) ∷ (on 22 (Statement-F.Alloc
    (Held (H.Local 3)) (Constant (pos 1048576)) GivesNull)) ∷ (on 23 (Statement-F.Alloc (Held (H.Local 4)) (Constant (pos 1048576))
    GivesNull)) ∷ (on 24 (Statement-F.Alloc (Held (H.Local 5)) (Constant (pos 1048576)) GivesNull)) ∷ (on 25 (Statement-F.Alloc (Held
    (H.Local 6)) (Constant (pos 1048576)) GivesNull)) ∷ (on 26 (Statement-F.Alloc (Held (H.Local 7)) (Constant (pos 1048576)) GivesNull)) ∷
    (on 27 (Statement-F.Alloc (Held (H.Local 8)) (Constant (pos 1048576)) GivesNull)) ∷ (on 28 (Statement-F.Alloc (Held (H.Local 9))
    (Constant (pos 1048576)) GivesNull)) ∷ (on 29 (Statement-F.Alloc (Held (H.Local 10)) (Constant (pos 1048576)) GivesNull)) ∷ (on 30
    (Statement-F.Alloc (Held (H.Local 11)) (Constant (pos 1048576)) GivesNull)) ∷ (on 31 (Statement-F.Alloc (Held (H.Local 12)) (Constant
    (pos 1048576)) GivesNull)) ∷ (on 32 (Statement-F.Alloc (Held (H.Local 13)) (Constant (pos 1048576)) GivesNull)) ∷ (on 33
    (Statement-F.Alloc (Held (H.Local 14)) (Constant (pos 1048576)) GivesNull)) ∷ (on 34 (Statement-F.Alloc (Held (H.Local 15)) (Constant
    (pos 100000)) GivesNull)) ∷ (on 35 (Statement-F.Realloc (Held (H.Local 15)) (Held (H.Local 15)) (Constant (pos 1000000)) GivesNull)) ∷
    (on 36 (Statement-F.Free (Held (H.Local 0)))) ∷ (on 37 (Statement-F.Free (Held (H.Local 1)))) ∷ (on 38 (Statement-F.Free (Held (H.Local
    2)))) ∷ (on 39 (Statement-F.Free (Held (H.Local 3)))) ∷ (on 40 (Statement-F.Free (Held (H.Local 4)))) ∷ (on 41 (Statement-F.Free (Held
    (H.Local 5)))) ∷ (on 42 (Statement-F.Free (Held (H.Local 6)))) ∷ (on 43 (Statement-F.Free (Held (H.Local 7)))) ∷ (on 44
    (Statement-F.Free (Held (H.Local 8)))) ∷ (on 45 (Statement-F.Free (Held (H.Local 9)))) ∷ (on 46 (Statement-F.Free (Held (H.Local 10))))
    ∷ (on 47 (Statement-F.Free (Held (H.Local 11)))) ∷ (on 48 (Statement-F.Free (Held (H.Local 12)))) ∷ (on 49 (Statement-F.Free (Held
    (H.Local 13)))) ∷ (on 50 (Statement-F.Free (Held (H.Local 14)))) ∷ (on 51 (Statement-F.Free (Held (H.Local 15)))) ∷ []))) ∷ []) [] [] 0

ceiling_by_moving_in_place_run : run script_ceiling_by_moving_in_place_run R.Unlimited 10000 (shaped 4096 4096) ≡ result (Ended None [])
    ((line 1 144 0 Granted) ∷ (line 2 1048592 144 Granted) ∷ (line 3 1048592 1048736 Granted) ∷ (line 4 1048592 2097328 Granted) ∷ (line 5
    1048592 3145920 Granted) ∷ (line 6 1048592 4194512 Granted) ∷ (line 7 1048592 5243104 Granted) ∷ (line 8 1048592 6291696 Granted) ∷
    (line 9 1048592 7340288 Granted) ∷ (line 10 1048592 8388880 Granted) ∷ (line 11 1048592 9437472 Granted) ∷ (line 12 1048592 10486064
    Granted) ∷ (line 13 1048592 11534656 Granted) ∷ (line 14 1048592 12583248 Granted) ∷ (line 15 1048592 13631840 Granted) ∷ (line 16
    1048592 14680432 Granted) ∷ (line 17 100016 15729024 Granted) ∷ (line 18 1000016 15729024 Granted) ∷ []) [] [] 33
unfolding everything
ceiling_by_moving_in_place_run = refl

abbrev script_ceiling_by_moving_run : Script
script_ceiling_by_moving_run = script [] ((procedure 2 [] (body ((OfPointer None) ∷ (OfPointer None) ∷ (OfPointer None) ∷ (OfPointer None) ∷
    (OfPointer None) ∷ (OfPointer None) ∷ (OfPointer None) ∷ (OfPointer None) ∷ (OfPointer None) ∷ (OfPointer None) ∷ (OfPointer None) ∷
    (OfPointer None) ∷ (OfPointer None) ∷ (OfPointer None) ∷ (OfPointer None) ∷ (OfPointer None) ∷ []) ((on 19 (Statement-F.Alloc (Held
    (H.Local 0)) (Constant (pos 1048576)) GivesNull)) ∷ (on 20 (Statement-F.Alloc (Held (H.Local 1)) (Constant (pos 1048576)) GivesNull)) ∷
    (on 21 (Statement-F.Alloc (Held (H.Local 2)) (Constant (pos 1048576)) GivesNull)) ∷ (on 22 (Statement-F.Alloc (Held (H.Local 3))
    (Constant (pos 1048576)) GivesNull)) ∷ (on 23 (Statement-F.Alloc (Held (H.Local 4)) (Constant (pos 1048576)) GivesNull)) ∷ (on 24
    (Statement-F.Alloc (Held (H.Local 5)) (Constant (pos 1048576)) GivesNull)) ∷ (on 25 (Statement-F.Alloc (Held (H.Local 6)) (Constant (pos
    1048576)) GivesNull)) ∷ (on 26 (Statement-F.Alloc (Held (H.Local 7)) (Constant (pos 1048576)) GivesNull)) ∷ (on 27 (Statement-F.Alloc
    (Held (H.Local 8)) (Constant (pos 1048576)) GivesNull)) ∷ (on 28 (Statement-F.Alloc (Held (H.Local 9)) (Constant (pos 1048576))
    GivesNull)) ∷ (on 29 (Statement-F.Alloc (Held (H.Local 10)) (Constant (pos 1048576)) GivesNull)) ∷ (on 30 (Statement-F.Alloc (Held
    (H.Local 11)) (Constant (pos 1048576)) GivesNull)) ∷ (on 31 (Statement-F.Alloc (Held (H.Local 12)) (Constant (pos 1048576)) GivesNull))
    ∷ (on 32 (Statement-F.Alloc (Held (H.Local 13)) (Constant (pos 1048576)) GivesNull)) ∷ (on 33 (Statement-F.Alloc (Held (H.Local 14))
    (Constant (pos 1048576)) GivesNull)) ∷ (on 34 (Statement-F.Alloc (Held (H.Local 15)) (Constant (pos 100000)) GivesNull)) ∷ (on 35
    (Statement-F.Realloc (Held (H.Local 15)) (Held (H.Local 15)) (Constant (pos 1000000)) GivesNull)) ∷ (on 36 (Statement-F.Free (Held
    (H.Local 0)))) ∷ (on 37 (Statement-F.Free (Held (H.Local 1)))) ∷ (on 38 (Statement-F.Free (Held (H.Local 2)))) ∷ (on 39
    (Statement-F.Free (Held (H.Local 3)))) ∷ (on 40 (Statement-F.Free (Held (H.Local 4)))) ∷ (on 41 (Statement-F.Free (Held (H.Local 5)))) ∷
    (on 42 (Statement-F.Free (Held (H.Local 6)))) ∷ (on 43 (Statement-F.Free (Held (H.Local 7)))) ∷ (on 44 (Statement-F.Free (Held (H.Local
    8)))) ∷ (on 45 (Statement-F.Free (Held (H.Local 9)))) ∷ (on 46 (Statement-F.Free (Held (H.Local 10)))) ∷ (on 47 (Statement-F.Free (Held
    (H.Local 11)))) ∷ (on 48 (Statement-F.Free (Held (H.Local 12)))) ∷ (on 49 (Statement-F.Free (Held (H.Local 13)))) ∷ (on 50
    (Statement-F.Free (Held (H.Local 14)))) ∷ (on 51 (Statement-F.Free (Held (H.Local 15)))) ∷ []))) ∷ []) [] [] 0

ceiling_by_moving_run : run script_ceiling_by_moving_run R.Unlimited 10000 (shaped_moving 4096 4096) ≡ result (Cut Ceiling) ((line 1 144 0
    Granted) ∷ (line 2 1048592 144 Granted) ∷ (line 3 1048592 1048736 Granted) ∷ (line 4 1048592 2097328 Granted) ∷ (line 5 1048592 3145920
    Granted) ∷ (line 6 1048592 4194512 Granted) ∷ (line 7 1048592 5243104 Granted) ∷ (line 8 1048592 6291696 Granted) ∷ (line 9 1048592
    7340288 Granted) ∷ (line 10 1048592 8388880 Granted) ∷ (line 11 1048592 9437472 Granted) ∷ (line 12 1048592 10486064 Granted) ∷ (line 13
    1048592 11534656 Granted) ∷ (line 14 1048592 12583248 Granted) ∷ (line 15 1048592 13631840 Granted) ∷ (line 16 1048592 14680432 Granted)
    ∷ (line 17 100016 15729024 Granted) ∷ []) [] [] 17
unfolding everything
ceiling_by_moving_run = refl

abbrev script_ceiling_by_moving_size : Script
script_ceiling_by_moving_size = script [] ((procedure 2 [] (body ((OfPointer None) ∷ (OfPointer None) ∷ (OfPointer None) ∷ (OfPointer None)
    ∷ (OfPointer None) ∷ (OfPointer None) ∷ (OfPointer None) ∷ (OfPointer None) ∷ (OfPointer None) ∷ (OfPointer None) ∷ (OfPointer None) ∷
    (OfPointer None) ∷ (OfPointer None) ∷ (OfPointer None) ∷ (OfPointer None) ∷ (OfPointer None) ∷ []) ((on 19 (Statement-F.Alloc (Held
    (H.Local 0)) (Constant (pos 1048576)) GivesNull)) ∷ (on 20 (Statement-F.Alloc (Held (H.Local 1)) (Constant (pos 1048576)) GivesNull)) ∷
    (on 21 (Statement-F.Alloc (Held (H.Local 2)) (Constant (pos 1048576)) GivesNull)) ∷ (on 22 (Statement-F.Alloc (Held (H.Local 3))
    (Constant (pos 1048576)) GivesNull)) ∷ (on 23 (Statement-F.Alloc (Held (H.Local 4)) (Constant (pos 1048576)) GivesNull)) ∷ (on 24
    (Statement-F.Alloc (Held (H.Local 5)) (Constant (pos 1048576)) GivesNull)) ∷ (on 25 (Statement-F.Alloc (Held (H.Local 6)) (Constant (pos
    1048576)) GivesNull)) ∷ (on 26 (Statement-F.Alloc (Held (H.Local 7)) (Constant (pos 1048576)) GivesNull)) ∷ (on 27 (Statement-F.Alloc
    (Held (H.Local 8)) (Constant (pos 1048576)) GivesNull)) ∷ (on 28 (Statement-F.Alloc (Held (H.Local 9)) (Constant (pos 1048576))
    GivesNull)) ∷ (on 29 (Statement-F.Alloc (Held (H.Local 10)) (Constant (pos 1048576)) GivesNull)) ∷ (on 30 (Statement-F.Alloc (Held
    (H.Local 11)) (Constant (pos 1048576)) GivesNull)) ∷ (on 31 (Statement-F.Alloc (Held (H.Local 12)) (Constant (pos 1048576)) GivesNull))
    ∷ (on 32 (Statement-F.Alloc (Held (H.Local 13)) (Constant (pos 1048576)) GivesNull)) ∷ (on 33 (Statement-F.Alloc (Held (H.Local 14))
    (Constant (pos 1048576)) GivesNull)) ∷ (on 34 (Statement-F.Alloc (Held (H.Local 15)) (Constant (pos 100000)) GivesNull)) ∷ (on 35
    (Statement-F.Realloc (Held (H.Local 15)) (Held (H.Local 15)) (Constant (pos 1000000)) GivesNull)) ∷ (on 36 (Statement-F.Free (Held
    (H.Local 0)))) ∷ (on 37 (Statement-F.Free (Held (H.Local 1)))) ∷ (on 38 (Statement-F.Free (Held (H.Local 2)))) ∷ (on 39
    (Statement-F.Free (Held (H.Local 3)))) ∷ (on 40 (Statement-F.Free (Held (H.Local 4)))) ∷ (on 41 (Statement-F.Free (Held (H.Local 5)))) ∷
    (on 42 (Statement-F.Free (Held (H.Local 6)))) ∷ (on 43 (Statement-F.Free (Held (H.Local 7)))) ∷ (on 44 (Statement-F.Free (Held (H.Local
    8)))) ∷ (on 45 (Statement-F.Free (Held (H.Local 9)))) ∷ (on 46 (Statement-F.Free (Held (H.Local 10)))) ∷ (on 47 (Statement-F.Free (Held
    (H.Local 11)))) ∷ (on 48 (Statement-F.Free (Held (H.Local 12)))) ∷ (on 49 (Statement-F.Free (Held (H.Local 13)))) ∷ (on 50
    (Statement-F.Free (Held (H.Local 14)))) ∷ (on 51 (Statement-F.Free (Held (H.Local 15)))) ∷ []))) ∷ []) [] [] 0

ceiling_by_moving_size : (run script_ceiling_by_moving_size R.Unlimited 10000 (shaped_moving 4096 4096)).outcome ≡ Cut Ceiling
unfolding everything
ceiling_by_moving_size = refl

abbrev script_empty_main_where_cells_move_run : Script
script_empty_main_where_cells_move_run = script [] ((procedure 1 [] (body [] [])) ∷ []) [] [] 0

empty_main_where_cells_move_run : run script_empty_main_where_cells_move_run R.Unlimited 10000 (shaped_moving 4096 4096) ≡ result (Ended
    None []) ((line 1 144 0 Granted) ∷ []) [] [] 0
unfolding everything
empty_main_where_cells_move_run = refl

abbrev script_grown_within_its_cell_run : Script
script_grown_within_its_cell_run = script [] ((procedure 2 [] (body ((OfPointer None) ∷ (OfPointer None) ∷ []) ((on 5 (Statement-F.Alloc
    (Held (H.Local 0)) (Constant (pos 20)) Leaves)) ∷ (on 6 (Statement-F.Push (Held (H.Local 0)))) ∷ (on 7 (Statement-F.Realloc (Held
    (H.Local 1)) (Held (H.Local 0)) (Constant (pos 32)) GivesNull)) ∷ (on 8 (Statement-F.PopCheck (Held (H.Local 1)))) ∷ (on 9
    (Statement-F.Store (Held (H.Local 0)) (Constant (pos 7)) (Constant (pos 1)))) ∷ (on 10 (Statement-F.Free (Held (H.Local 1)))) ∷ []))) ∷
    []) [] [] 0

grown_within_its_cell_run : run script_grown_within_its_cell_run R.Unlimited 10000 (shaped_moving 4096 4096) ≡ result (Ended None []) ((line
    1 144 0 Granted) ∷ (line 2 48 144 Granted) ∷ []) [] [] 6
unfolding everything
grown_within_its_cell_run = refl

abbrev script_growth_from_null_run : Script
script_growth_from_null_run = script [] ((procedure 1 [] (body ((OfPointer None) ∷ []) ((on 3 (Statement-F.Realloc (Held (H.Local 0)) (Held
    (H.Local 0)) (Constant (pos 40)) GivesNull)) ∷ (on 4 (Statement-F.If (NotNull (Held (H.Local 0))) ((on 5 (Statement-F.Store (Held
    (H.Local 0)) (Constant (pos 9)) (Constant (pos 5)))) ∷ []))) ∷ (on 7 (Statement-F.Free (Held (H.Local 0)))) ∷ []))) ∷ []) [] [] 0

growth_from_null_run : run script_growth_from_null_run R.Unlimited 10000 (shaped_moving 4096 4096) ≡ result (Ended None []) ((line 1 144 0
    Granted) ∷ (line 2 64 144 Granted) ∷ []) [] [] 4
unfolding everything
growth_from_null_run = refl

abbrev script_growth_twice_in_place_size : Script
script_growth_twice_in_place_size = script [] ((procedure 1 [] (body ((OfPointer None) ∷ (OfPointer None) ∷ []) ((on 4 (Statement-F.Alloc
    (Held (H.Local 0)) (Constant (pos 16)) Leaves)) ∷ (on 5 (Statement-F.Realloc (Held (H.Local 1)) (Held (H.Local 0)) (Constant (pos 48))
    GivesNull)) ∷ (on 6 (Statement-F.If (IsNull (Held (H.Local 1))) ((on 7 (Statement-F.Free (Held (H.Local 0)))) ∷ (on 8 (Statement-F.Leave
    (Constant (negsuc 3)))) ∷ []))) ∷ (on 10 (Statement-F.Set (Held (H.Local 0)) (Held (H.Local 1)))) ∷ (on 11 (Statement-F.Realloc (Held
    (H.Local 1)) (Held (H.Local 0)) (Constant (pos 96)) GivesNull)) ∷ (on 12 (Statement-F.If (IsNull (Held (H.Local 1))) ((on 13
    (Statement-F.Free (Held (H.Local 0)))) ∷ (on 14 (Statement-F.Leave (Constant (negsuc 3)))) ∷ []))) ∷ (on 16 (Statement-F.Store (Held
    (H.Local 1)) (Constant (pos 20)) (Constant (pos 3)))) ∷ (on 17 (Statement-F.Free (Held (H.Local 1)))) ∷ []))) ∷ []) [] [] 0

growth_twice_in_place_size : (required script_growth_twice_in_place_size 10000 (shaped 4096 4096) ≡ 256) × (rises
    script_growth_twice_in_place_size 10000 (shaped 4096 4096) ≡ (rise 1 144) ∷ (rise 2 176) ∷ (rise 3 208) ∷ (rise 4 256) ∷ [])
unfolding everything
growth_twice_in_place_size = (refl, refl)

abbrev script_growth_twice_json_size : Script
script_growth_twice_json_size = script [] ((procedure 1 [] (body ((OfPointer None) ∷ (OfPointer None) ∷ []) ((on 4 (Statement-F.Alloc (Held
    (H.Local 0)) (Constant (pos 16)) Leaves)) ∷ (on 5 (Statement-F.Realloc (Held (H.Local 1)) (Held (H.Local 0)) (Constant (pos 48))
    GivesNull)) ∷ (on 6 (Statement-F.If (IsNull (Held (H.Local 1))) ((on 7 (Statement-F.Free (Held (H.Local 0)))) ∷ (on 8 (Statement-F.Leave
    (Constant (negsuc 3)))) ∷ []))) ∷ (on 10 (Statement-F.Set (Held (H.Local 0)) (Held (H.Local 1)))) ∷ (on 11 (Statement-F.Realloc (Held
    (H.Local 1)) (Held (H.Local 0)) (Constant (pos 96)) GivesNull)) ∷ (on 12 (Statement-F.If (IsNull (Held (H.Local 1))) ((on 13
    (Statement-F.Free (Held (H.Local 0)))) ∷ (on 14 (Statement-F.Leave (Constant (negsuc 3)))) ∷ []))) ∷ (on 16 (Statement-F.Store (Held
    (H.Local 1)) (Constant (pos 20)) (Constant (pos 3)))) ∷ (on 17 (Statement-F.Free (Held (H.Local 1)))) ∷ []))) ∷ []) [] [] 0

growth_twice_json_size : (required script_growth_twice_json_size 10000 (shaped_moving 4096 4096) ≡ 352) × (rises
    script_growth_twice_json_size 10000 (shaped_moving 4096 4096) ≡ (rise 1 144) ∷ (rise 2 176) ∷ (rise 3 240) ∷ (rise 4 352) ∷ [])
unfolding everything
growth_twice_json_size = (refl, refl)

abbrev script_growth_twice_lengths : Script
script_growth_twice_lengths = script [] ((procedure 1 [] (body ((OfPointer None) ∷ (OfPointer None) ∷ []) ((on 4 (Statement-F.Alloc (Held
    (H.Local 0)) (Constant (pos 16)) Leaves)) ∷ (on 5 (Statement-F.Realloc (Held (H.Local 1)) (Held (H.Local 0)) (Constant (pos 48))
    GivesNull)) ∷ (on 6 (Statement-F.If (IsNull (Held (H.Local 1))) ((on 7 (Statement-F.Free (Held (H.Local 0)))) ∷ (on 8 (Statement-F.Leave
    (Constant (negsuc 3)))) ∷ []))) ∷ (on 10 (Statement-F.Set (Held (H.Local 0)) (Held (H.Local 1)))) ∷ (on 11 (Statement-F.Realloc (Held
    (H.Local 1)) (Held (H.Local 0)) (Constant (pos 96)) GivesNull)) ∷ (on 12 (Statement-F.If (IsNull (Held (H.Local 1))) ((on 13
    (Statement-F.Free (Held (H.Local 0)))) ∷ (on 14 (Statement-F.Leave (Constant (negsuc 3)))) ∷ []))) ∷ (on 16 (Statement-F.Store (Held
    (H.Local 1)) (Constant (pos 20)) (Constant (pos 3)))) ∷ (on 17 (Statement-F.Free (Held (H.Local 1)))) ∷ []))) ∷ []) [] [] 0

growth_twice_lengths : (end_in script_growth_twice_lengths 10000 (shaped_moving 4096 4096) 0 ≡ E.NoCleanup) × (end_in
    script_growth_twice_lengths 10000 (shaped_moving 4096 4096) 143 ≡ E.NoCleanup) × (end_in script_growth_twice_lengths 10000
    (shaped_moving 4096 4096) 144 ≡ E.Left (negsuc 3)) × (end_in script_growth_twice_lengths 10000 (shaped_moving 4096 4096) 351 ≡ E.Left
    (negsuc 3)) × (end_in script_growth_twice_lengths 10000 (shaped_moving 4096 4096) 352 ≡ E.Plain) × (end_in script_growth_twice_lengths
    10000 (shaped_moving 4096 4096) 16777216 ≡ E.Plain)
unfolding everything
growth_twice_lengths = (refl, refl, refl, refl, refl, refl)

abbrev script_growth_twice_min_step_run : Script
script_growth_twice_min_step_run = script [] ((procedure 1 [] (body ((OfPointer None) ∷ (OfPointer None) ∷ []) ((on 4 (Statement-F.Alloc
    (Held (H.Local 0)) (Constant (pos 16)) Leaves)) ∷ (on 5 (Statement-F.Realloc (Held (H.Local 1)) (Held (H.Local 0)) (Constant (pos 48))
    GivesNull)) ∷ (on 6 (Statement-F.If (IsNull (Held (H.Local 1))) ((on 7 (Statement-F.Free (Held (H.Local 0)))) ∷ (on 8 (Statement-F.Leave
    (Constant (negsuc 3)))) ∷ []))) ∷ (on 10 (Statement-F.Set (Held (H.Local 0)) (Held (H.Local 1)))) ∷ (on 11 (Statement-F.Realloc (Held
    (H.Local 1)) (Held (H.Local 0)) (Constant (pos 96)) GivesNull)) ∷ (on 12 (Statement-F.If (IsNull (Held (H.Local 1))) ((on 13
    (Statement-F.Free (Held (H.Local 0)))) ∷ (on 14 (Statement-F.Leave (Constant (negsuc 3)))) ∷ []))) ∷ (on 16 (Statement-F.Store (Held
    (H.Local 1)) (Constant (pos 20)) (Constant (pos 3)))) ∷ (on 17 (Statement-F.Free (Held (H.Local 1)))) ∷ []))) ∷ []) [] [] 0

growth_twice_min_step_run : run script_growth_twice_min_step_run R.Unlimited 10000 (shaped_moving 0 16) ≡ result (Ended None []) ((line 1
    144 0 Granted) ∷ (line 2 32 144 Granted) ∷ (line 3 64 176 Granted) ∷ (line 4 112 240 Granted) ∷ []) [] [] 8
unfolding everything
growth_twice_min_step_run = refl

abbrev script_growth_twice_run : Script
script_growth_twice_run = script [] ((procedure 1 [] (body ((OfPointer None) ∷ (OfPointer None) ∷ []) ((on 4 (Statement-F.Alloc (Held
    (H.Local 0)) (Constant (pos 16)) Leaves)) ∷ (on 5 (Statement-F.Realloc (Held (H.Local 1)) (Held (H.Local 0)) (Constant (pos 48))
    GivesNull)) ∷ (on 6 (Statement-F.If (IsNull (Held (H.Local 1))) ((on 7 (Statement-F.Free (Held (H.Local 0)))) ∷ (on 8 (Statement-F.Leave
    (Constant (negsuc 3)))) ∷ []))) ∷ (on 10 (Statement-F.Set (Held (H.Local 0)) (Held (H.Local 1)))) ∷ (on 11 (Statement-F.Realloc (Held
    (H.Local 1)) (Held (H.Local 0)) (Constant (pos 96)) GivesNull)) ∷ (on 12 (Statement-F.If (IsNull (Held (H.Local 1))) ((on 13
    (Statement-F.Free (Held (H.Local 0)))) ∷ (on 14 (Statement-F.Leave (Constant (negsuc 3)))) ∷ []))) ∷ (on 16 (Statement-F.Store (Held
    (H.Local 1)) (Constant (pos 20)) (Constant (pos 3)))) ∷ (on 17 (Statement-F.Free (Held (H.Local 1)))) ∷ []))) ∷ []) [] [] 0

growth_twice_run : run script_growth_twice_run R.Unlimited 10000 (shaped_moving 4096 4096) ≡ result (Ended None []) ((line 1 144 0 Granted)
    ∷ (line 2 32 144 Granted) ∷ (line 3 64 176 Granted) ∷ (line 4 112 240 Granted) ∷ []) [] [] 8
unfolding everything
growth_twice_run = refl

abbrev script_growth_twice_size : Script
script_growth_twice_size = script [] ((procedure 1 [] (body ((OfPointer None) ∷ (OfPointer None) ∷ []) ((on 4 (Statement-F.Alloc (Held
    (H.Local 0)) (Constant (pos 16)) Leaves)) ∷ (on 5 (Statement-F.Realloc (Held (H.Local 1)) (Held (H.Local 0)) (Constant (pos 48))
    GivesNull)) ∷ (on 6 (Statement-F.If (IsNull (Held (H.Local 1))) ((on 7 (Statement-F.Free (Held (H.Local 0)))) ∷ (on 8 (Statement-F.Leave
    (Constant (negsuc 3)))) ∷ []))) ∷ (on 10 (Statement-F.Set (Held (H.Local 0)) (Held (H.Local 1)))) ∷ (on 11 (Statement-F.Realloc (Held
    (H.Local 1)) (Held (H.Local 0)) (Constant (pos 96)) GivesNull)) ∷ (on 12 (Statement-F.If (IsNull (Held (H.Local 1))) ((on 13
    (Statement-F.Free (Held (H.Local 0)))) ∷ (on 14 (Statement-F.Leave (Constant (negsuc 3)))) ∷ []))) ∷ (on 16 (Statement-F.Store (Held
    (H.Local 1)) (Constant (pos 20)) (Constant (pos 3)))) ∷ (on 17 (Statement-F.Free (Held (H.Local 1)))) ∷ []))) ∷ []) [] [] 0

growth_twice_size : (required script_growth_twice_size 10000 (shaped_moving 4096 4096) ≡ 352) × (rises script_growth_twice_size 10000
    (shaped_moving 4096 4096) ≡ (rise 1 144) ∷ (rise 2 176) ∷ (rise 3 240) ∷ (rise 4 352) ∷ [])
unfolding everything
growth_twice_size = (refl, refl)

abbrev script_hidden_behind_a_failure_all_sweep : Script
script_hidden_behind_a_failure_all_sweep = script [] ((procedure 2 [] (body ((OfPointer None) ∷ (OfPointer None) ∷ (OfPointer None) ∷ [])
    ((on 6 (Statement-F.Alloc (Held (H.Local 0)) (Constant (pos 16)) GivesNull)) ∷ (on 7 (Statement-F.If (IsNull (Held (H.Local 0))) ((on 8
    Statement-F.Return) ∷ []))) ∷ (on 10 (Statement-F.Realloc (Held (H.Local 2)) (Held (H.Local 0)) (Constant (pos 48)) GivesNull)) ∷ (on 11
    (Statement-F.If (IsNull (Held (H.Local 2))) ((on 12 (Statement-F.Set (Held (H.Local 1)) (Held (H.Local 0)))) ∷ (on 13
    (Statement-F.Realloc (Held (H.Local 0)) (Held (H.Local 0)) (Constant (pos 80)) GivesNull)) ∷ (on 14 (Statement-F.If (IsNull (Held
    (H.Local 0))) ((on 15 (Statement-F.Set (Held (H.Local 0)) (Held (H.Local 1)))) ∷ []))) ∷ (on 17 (Statement-F.Store (Held (H.Local 1))
    (Constant (pos 0)) (Constant (pos 1)))) ∷ (on 18 (Statement-F.Free (Held (H.Local 0)))) ∷ (on 19 Statement-F.Return) ∷ []))) ∷ (on 21
    (Statement-F.Free (Held (H.Local 2)))) ∷ []))) ∷ []) [] [] 0

hidden_behind_a_failure_all_sweep : (length ((runs_of Single script_hidden_behind_a_failure_all_sweep 10000 (shaped_moving 4096 4096))
    0).trace ≡ 3) × (unfine_in (runs_of Single script_hidden_behind_a_failure_all_sweep 10000 (shaped_moving 4096 4096)) (part 0 16777216) ≡
    (ending 3 (E.Panicked (P.Workbench 1))) ∷ []) × ((runs_of Single script_hidden_behind_a_failure_all_sweep 10000 (shaped_moving 4096
    4096)) 3 ≡ result (Panicked (P.Workbench 1)) ((line 1 144 0 Granted) ∷ (line 2 32 144 Granted) ∷ (line 3 64 176 Simulated) ∷ (line 4 96
    176 Granted) ∷ []) [] [] 8)
unfolding everything
hidden_behind_a_failure_all_sweep = (refl, refl, refl)

abbrev script_hidden_behind_a_failure_check : Script
script_hidden_behind_a_failure_check = script [] ((procedure 2 [] (body ((OfPointer None) ∷ (OfPointer None) ∷ (OfPointer None) ∷ []) ((on 6
    (Statement-F.Alloc (Held (H.Local 0)) (Constant (pos 16)) GivesNull)) ∷ (on 7 (Statement-F.If (IsNull (Held (H.Local 0))) ((on 8
    Statement-F.Return) ∷ []))) ∷ (on 10 (Statement-F.Realloc (Held (H.Local 2)) (Held (H.Local 0)) (Constant (pos 48)) GivesNull)) ∷ (on 11
    (Statement-F.If (IsNull (Held (H.Local 2))) ((on 12 (Statement-F.Set (Held (H.Local 1)) (Held (H.Local 0)))) ∷ (on 13
    (Statement-F.Realloc (Held (H.Local 0)) (Held (H.Local 0)) (Constant (pos 80)) GivesNull)) ∷ (on 14 (Statement-F.If (IsNull (Held
    (H.Local 0))) ((on 15 (Statement-F.Set (Held (H.Local 0)) (Held (H.Local 1)))) ∷ []))) ∷ (on 17 (Statement-F.Store (Held (H.Local 1))
    (Constant (pos 0)) (Constant (pos 1)))) ∷ (on 18 (Statement-F.Free (Held (H.Local 0)))) ∷ (on 19 Statement-F.Return) ∷ []))) ∷ (on 21
    (Statement-F.Free (Held (H.Local 2)))) ∷ []))) ∷ []) [] [] 0

hidden_behind_a_failure_check : (required script_hidden_behind_a_failure_check 10000 (shaped_moving 4096 4096) ≡ 240) × (rises
    script_hidden_behind_a_failure_check 10000 (shaped_moving 4096 4096) ≡ (rise 1 144) ∷ (rise 2 176) ∷ (rise 3 240) ∷ []) × (length
    (runs_of Single script_hidden_behind_a_failure_check 10000 (shaped_moving 4096 4096) 0).trace ≡ 3) × (least_bad_or_cut Single
    script_hidden_behind_a_failure_check 10000 (shaped_moving 4096 4096) ≡ Some 3) × (runs_of Single script_hidden_behind_a_failure_check
    10000 (shaped_moving 4096 4096) 3 ≡ result (Panicked (P.Workbench 1)) ((line 1 144 0 Granted) ∷ (line 2 32 144 Granted) ∷ (line 3 64 176
    Simulated) ∷ (line 4 96 176 Granted) ∷ []) [] [] 8)
unfolding everything
hidden_behind_a_failure_check = (refl, refl, refl, refl, refl)

abbrev script_hidden_behind_a_failure_every_sweep : Script
script_hidden_behind_a_failure_every_sweep = script [] ((procedure 2 [] (body ((OfPointer None) ∷ (OfPointer None) ∷ (OfPointer None) ∷ [])
    ((on 6 (Statement-F.Alloc (Held (H.Local 0)) (Constant (pos 16)) GivesNull)) ∷ (on 7 (Statement-F.If (IsNull (Held (H.Local 0))) ((on 8
    Statement-F.Return) ∷ []))) ∷ (on 10 (Statement-F.Realloc (Held (H.Local 2)) (Held (H.Local 0)) (Constant (pos 48)) GivesNull)) ∷ (on 11
    (Statement-F.If (IsNull (Held (H.Local 2))) ((on 12 (Statement-F.Set (Held (H.Local 1)) (Held (H.Local 0)))) ∷ (on 13
    (Statement-F.Realloc (Held (H.Local 0)) (Held (H.Local 0)) (Constant (pos 80)) GivesNull)) ∷ (on 14 (Statement-F.If (IsNull (Held
    (H.Local 0))) ((on 15 (Statement-F.Set (Held (H.Local 0)) (Held (H.Local 1)))) ∷ []))) ∷ (on 17 (Statement-F.Store (Held (H.Local 1))
    (Constant (pos 0)) (Constant (pos 1)))) ∷ (on 18 (Statement-F.Free (Held (H.Local 0)))) ∷ (on 19 Statement-F.Return) ∷ []))) ∷ (on 21
    (Statement-F.Free (Held (H.Local 2)))) ∷ []))) ∷ []) [] [] 0

hidden_behind_a_failure_every_sweep : (length (runs_of Every script_hidden_behind_a_failure_every_sweep 10000 (shaped_moving 4096 4096)
    0).trace ≡ 3) × (least_bad_or_cut Every script_hidden_behind_a_failure_every_sweep 10000 (shaped_moving 4096 4096) ≡ Some 3) × (runs_of
    Every script_hidden_behind_a_failure_every_sweep 10000 (shaped_moving 4096 4096) 3 ≡ result (Panicked (P.Workbench 1)) ((line 1 144 0
    Granted) ∷ (line 2 32 144 Granted) ∷ (line 3 64 176 Simulated) ∷ (line 4 96 176 Granted) ∷ []) [] [] 8)
unfolding everything
hidden_behind_a_failure_every_sweep = (refl, refl, refl)

abbrev script_hidden_behind_a_failure_part_sweep : Script
script_hidden_behind_a_failure_part_sweep = script [] ((procedure 2 [] (body ((OfPointer None) ∷ (OfPointer None) ∷ (OfPointer None) ∷ [])
    ((on 6 (Statement-F.Alloc (Held (H.Local 0)) (Constant (pos 16)) GivesNull)) ∷ (on 7 (Statement-F.If (IsNull (Held (H.Local 0))) ((on 8
    Statement-F.Return) ∷ []))) ∷ (on 10 (Statement-F.Realloc (Held (H.Local 2)) (Held (H.Local 0)) (Constant (pos 48)) GivesNull)) ∷ (on 11
    (Statement-F.If (IsNull (Held (H.Local 2))) ((on 12 (Statement-F.Set (Held (H.Local 1)) (Held (H.Local 0)))) ∷ (on 13
    (Statement-F.Realloc (Held (H.Local 0)) (Held (H.Local 0)) (Constant (pos 80)) GivesNull)) ∷ (on 14 (Statement-F.If (IsNull (Held
    (H.Local 0))) ((on 15 (Statement-F.Set (Held (H.Local 0)) (Held (H.Local 1)))) ∷ []))) ∷ (on 17 (Statement-F.Store (Held (H.Local 1))
    (Constant (pos 0)) (Constant (pos 1)))) ∷ (on 18 (Statement-F.Free (Held (H.Local 0)))) ∷ (on 19 Statement-F.Return) ∷ []))) ∷ (on 21
    (Statement-F.Free (Held (H.Local 2)))) ∷ []))) ∷ []) [] [] 0

hidden_behind_a_failure_part_sweep : (length ((runs_of Single script_hidden_behind_a_failure_part_sweep 10000 (shaped_moving 4096 4096))
    0).trace ≡ 3) × (unfine_in (runs_of Single script_hidden_behind_a_failure_part_sweep 10000 (shaped_moving 4096 4096)) (part 1 2) ≡ [])
unfolding everything
hidden_behind_a_failure_part_sweep = (refl, refl)

abbrev script_lower_hole_limit_run : Script
script_lower_hole_limit_run = script [] ((procedure 2 [] (body ((OfPointer None) ∷ (OfPointer None) ∷ (OfPointer None) ∷ []) ((on 6
    (Statement-F.Alloc (Held (H.Local 0)) (Constant (pos 200)) GivesNull)) ∷ (on 7 (Statement-F.Alloc (Held (H.Local 1)) (Constant (pos 16))
    GivesNull)) ∷ (on 8 (Statement-F.Alloc (Held (H.Local 2)) (Constant (pos 16)) GivesNull)) ∷ (on 9 (Statement-F.Free (Held (H.Local 0))))
    ∷ (on 10 (Statement-F.SetNull (Held (H.Local 0)))) ∷ (on 11 (Statement-F.Realloc (Held (H.Local 2)) (Held (H.Local 2)) (Constant (pos
    64)) GivesNull)) ∷ (on 12 (Statement-F.Free (Held (H.Local 1)))) ∷ (on 13 (Statement-F.Free (Held (H.Local 2)))) ∷ []))) ∷ []) [] [] 0

lower_hole_limit_run : run script_lower_hole_limit_run (R.Limit 400) 10000 (shaped_moving 4096 4096) ≡ result (Ended None []) ((line 1 144 0
    Granted) ∷ (line 2 224 144 Granted) ∷ (line 3 32 368 Granted) ∷ (line 4 32 400 Refused) ∷ (line 5 80 144 Granted) ∷ []) [] [] 8
unfolding everything
lower_hole_limit_run = refl

abbrev script_lower_hole_takes_the_grown_cell_lengths : Script
script_lower_hole_takes_the_grown_cell_lengths = script [] ((procedure 2 [] (body ((OfPointer None) ∷ (OfPointer None) ∷ (OfPointer None) ∷
    []) ((on 6 (Statement-F.Alloc (Held (H.Local 0)) (Constant (pos 200)) GivesNull)) ∷ (on 7 (Statement-F.Alloc (Held (H.Local 1))
    (Constant (pos 16)) GivesNull)) ∷ (on 8 (Statement-F.Alloc (Held (H.Local 2)) (Constant (pos 16)) GivesNull)) ∷ (on 9 (Statement-F.Free
    (Held (H.Local 0)))) ∷ (on 10 (Statement-F.SetNull (Held (H.Local 0)))) ∷ (on 11 (Statement-F.Realloc (Held (H.Local 2)) (Held (H.Local
    2)) (Constant (pos 64)) GivesNull)) ∷ (on 12 (Statement-F.Free (Held (H.Local 1)))) ∷ (on 13 (Statement-F.Free (Held (H.Local 2)))) ∷
    []))) ∷ []) [] [] 0

lower_hole_takes_the_grown_cell_lengths : (end_in script_lower_hole_takes_the_grown_cell_lengths 10000 (shaped_moving 4096 4096) 0 ≡
    E.NoCleanup) × (end_in script_lower_hole_takes_the_grown_cell_lengths 10000 (shaped_moving 4096 4096) 143 ≡ E.NoCleanup) × (end_in
    script_lower_hole_takes_the_grown_cell_lengths 10000 (shaped_moving 4096 4096) 144 ≡ E.Plain) × (end_in
    script_lower_hole_takes_the_grown_cell_lengths 10000 (shaped_moving 4096 4096) 207 ≡ E.Plain) × (end_in
    script_lower_hole_takes_the_grown_cell_lengths 10000 (shaped_moving 4096 4096) 208 ≡ E.Leaked 1) × (end_in
    script_lower_hole_takes_the_grown_cell_lengths 10000 (shaped_moving 4096 4096) 287 ≡ E.Leaked 1) × (end_in
    script_lower_hole_takes_the_grown_cell_lengths 10000 (shaped_moving 4096 4096) 288 ≡ E.Plain) × (end_in
    script_lower_hole_takes_the_grown_cell_lengths 10000 (shaped_moving 4096 4096) 16777216 ≡ E.Plain) × (run_in
    script_lower_hole_takes_the_grown_cell_lengths 10000 (shaped_moving 4096 4096) 208 ≡ result (Ended None ((leak 4 32 176) ∷ [])) ((line 1
    144 0 Granted) ∷ (line 2 224 144 Refused) ∷ (line 3 32 144 Granted) ∷ (line 4 32 176 Granted) ∷ (line 5 80 208 Refused) ∷ []) [] [] 8)
unfolding everything
lower_hole_takes_the_grown_cell_lengths = (refl, refl, refl, refl, refl, refl, refl, refl, refl)

abbrev script_lower_hole_takes_the_grown_cell_run : Script
script_lower_hole_takes_the_grown_cell_run = script [] ((procedure 2 [] (body ((OfPointer None) ∷ (OfPointer None) ∷ (OfPointer None) ∷ [])
    ((on 6 (Statement-F.Alloc (Held (H.Local 0)) (Constant (pos 200)) GivesNull)) ∷ (on 7 (Statement-F.Alloc (Held (H.Local 1)) (Constant
    (pos 16)) GivesNull)) ∷ (on 8 (Statement-F.Alloc (Held (H.Local 2)) (Constant (pos 16)) GivesNull)) ∷ (on 9 (Statement-F.Free (Held
    (H.Local 0)))) ∷ (on 10 (Statement-F.SetNull (Held (H.Local 0)))) ∷ (on 11 (Statement-F.Realloc (Held (H.Local 2)) (Held (H.Local 2))
    (Constant (pos 64)) GivesNull)) ∷ (on 12 (Statement-F.Free (Held (H.Local 1)))) ∷ (on 13 (Statement-F.Free (Held (H.Local 2)))) ∷ [])))
    ∷ []) [] [] 0

lower_hole_takes_the_grown_cell_run : run script_lower_hole_takes_the_grown_cell_run R.Unlimited 10000 (shaped_moving 4096 4096) ≡ result
    (Ended None []) ((line 1 144 0 Granted) ∷ (line 2 224 144 Granted) ∷ (line 3 32 368 Granted) ∷ (line 4 32 400 Granted) ∷ (line 5 80 144
    Granted) ∷ []) [] [] 8
unfolding everything
lower_hole_takes_the_grown_cell_run = refl
