-- Worked cases of `first-path`, each by computing. Written by tools/cases_to_theorems.py; edit nothing here.
use Rattle.std.specs.Prelude.{◌≡◌, refl, pos, [], ◌∷◌, None}
use Rattle.wb_heap_model.specs.declared.heap.Rule.TheVariants as R
use Rattle.wb_heap_model.specs.declared.heap.Panic.TheVariants as P
use Rattle.wb_tree.specs.declared.script.Holder.TheVariants as H
use Rattle.wb_heap_model.specs.declared.heap.Answer.TheVariants.{Granted}
use Rattle.wb_meaning.specs.declared.run.Why.TheVariants.{Ceiling}
use Rattle.wb_meaning.specs.declared.run.Outcome.TheVariants.{Ended, Panicked, Cut}
use Rattle.wb_tree.specs.declared.script.Script.{Script}
use Rattle.wb_tree.specs.declared.script.Local.TheVariants.{OfPointer}
use Rattle.wb_tree.specs.declared.script.Pointer.TheVariants.{Held}
use Rattle.wb_tree.specs.declared.script.Number.TheVariants.{Constant}
use Rattle.wb_tree.specs.declared.script.Refusal.TheVariants.{GivesNull}
use Rattle.wb_tree.specs.declared.script.Statement.TheOpen.{Statement-F}
use Rattle.wb_meaning.specs.Run.{run}
use Rattle.wb_worked.specs.Shorthands.{everything, on, script, procedure, body, result, leak, shaped, line}

abbrev script_empty_main_run : Script
script_empty_main_run = script [] ((procedure 1 [] (body [] [])) ∷ []) [] [] 0

empty_main_run : run script_empty_main_run R.Unlimited 10000 (shaped 4096 4096) ≡ result (Ended None []) ((line 1 144 0 Granted) ∷ []) [] []
    0
unfolding everything
empty_main_run = refl

abbrev script_first_fit_reuses_hole_run : Script
script_first_fit_reuses_hole_run = script [] ((procedure 1 [] (body ((OfPointer None) ∷ (OfPointer None) ∷ (OfPointer None) ∷ []) ((on 5
    (Statement-F.Alloc (Held (H.Local 0)) (Constant (pos 10)) GivesNull)) ∷ (on 6 (Statement-F.Alloc (Held (H.Local 1)) (Constant (pos 100))
    GivesNull)) ∷ (on 7 (Statement-F.Free (Held (H.Local 0)))) ∷ (on 8 (Statement-F.Alloc (Held (H.Local 2)) (Constant (pos 16)) GivesNull))
    ∷ (on 9 (Statement-F.Free (Held (H.Local 1)))) ∷ (on 10 (Statement-F.Free (Held (H.Local 2)))) ∷ []))) ∷ []) [] [] 0

first_fit_reuses_hole_run : run script_first_fit_reuses_hole_run R.Unlimited 10000 (shaped 4096 4096) ≡ result (Ended None []) ((line 1 144
    0 Granted) ∷ (line 2 32 144 Granted) ∷ (line 3 128 176 Granted) ∷ (line 4 32 144 Granted) ∷ []) [] [] 6
unfolding everything
first_fit_reuses_hole_run = refl

abbrev script_forgotten_cell_leaks_run : Script
script_forgotten_cell_leaks_run = script [] ((procedure 1 [] (body ((OfPointer None) ∷ []) ((on 3 (Statement-F.Alloc (Held (H.Local 0))
    (Constant (pos 16)) GivesNull)) ∷ []))) ∷ []) [] [] 0

forgotten_cell_leaks_run : run script_forgotten_cell_leaks_run R.Unlimited 10000 (shaped 4096 4096) ≡ result (Ended None ((leak 2 32 144) ∷
    [])) ((line 1 144 0 Granted) ∷ (line 2 32 144 Granted) ∷ []) [] [] 1
unfolding everything
forgotten_cell_leaks_run = refl

abbrev script_freed_neighbours_merge_run : Script
script_freed_neighbours_merge_run = script [] ((procedure 1 [] (body ((OfPointer None) ∷ (OfPointer None) ∷ (OfPointer None) ∷ (OfPointer
    None) ∷ (OfPointer None) ∷ []) ((on 7 (Statement-F.Alloc (Held (H.Local 0)) (Constant (pos 16)) GivesNull)) ∷ (on 8 (Statement-F.Alloc
    (Held (H.Local 1)) (Constant (pos 16)) GivesNull)) ∷ (on 9 (Statement-F.Alloc (Held (H.Local 2)) (Constant (pos 16)) GivesNull)) ∷ (on
    10 (Statement-F.Alloc (Held (H.Local 3)) (Constant (pos 16)) GivesNull)) ∷ (on 11 (Statement-F.Free (Held (H.Local 1)))) ∷ (on 12
    (Statement-F.Free (Held (H.Local 0)))) ∷ (on 13 (Statement-F.Free (Held (H.Local 2)))) ∷ (on 14 (Statement-F.Alloc (Held (H.Local 4))
    (Constant (pos 80)) GivesNull)) ∷ (on 15 (Statement-F.Free (Held (H.Local 3)))) ∷ (on 16 (Statement-F.Free (Held (H.Local 4)))) ∷ [])))
    ∷ []) [] [] 0

freed_neighbours_merge_run : run script_freed_neighbours_merge_run R.Unlimited 10000 (shaped 4096 4096) ≡ result (Ended None []) ((line 1
    144 0 Granted) ∷ (line 2 32 144 Granted) ∷ (line 3 32 176 Granted) ∷ (line 4 32 208 Granted) ∷ (line 5 32 240 Granted) ∷ (line 6 96 144
    Granted) ∷ []) [] [] 10
unfolding everything
freed_neighbours_merge_run = refl

abbrev script_request_over_one_mebibyte_run : Script
script_request_over_one_mebibyte_run = script [] ((procedure 1 [] (body ((OfPointer None) ∷ []) ((on 3 (Statement-F.Alloc (Held (H.Local 0))
    (Constant (pos 1048577)) GivesNull)) ∷ []))) ∷ []) [] [] 0

request_over_one_mebibyte_run : run script_request_over_one_mebibyte_run R.Unlimited 10000 (shaped 4096 4096) ≡ result (Panicked
    (P.Workbench 9)) ((line 1 144 0 Granted) ∷ []) [] [] 1
unfolding everything
request_over_one_mebibyte_run = refl

abbrev script_seventeenth_cell_passes_the_ceiling_run : Script
script_seventeenth_cell_passes_the_ceiling_run = script [] ((procedure 1 [] (body ((OfPointer None) ∷ []) ((on 3 (Statement-F.Alloc (Held
    (H.Local 0)) (Constant (pos 1048576)) GivesNull)) ∷ (on 4 (Statement-F.Alloc (Held (H.Local 0)) (Constant (pos 1048576)) GivesNull)) ∷
    (on 5 (Statement-F.Alloc (Held (H.Local 0)) (Constant (pos 1048576)) GivesNull)) ∷ (on 6 (Statement-F.Alloc (Held (H.Local 0)) (Constant
    (pos 1048576)) GivesNull)) ∷ (on 7 (Statement-F.Alloc (Held (H.Local 0)) (Constant (pos 1048576)) GivesNull)) ∷ (on 8 (Statement-F.Alloc
    (Held (H.Local 0)) (Constant (pos 1048576)) GivesNull)) ∷ (on 9 (Statement-F.Alloc (Held (H.Local 0)) (Constant (pos 1048576))
    GivesNull)) ∷ (on 10 (Statement-F.Alloc (Held (H.Local 0)) (Constant (pos 1048576)) GivesNull)) ∷ (on 11 (Statement-F.Alloc (Held
    (H.Local 0)) (Constant (pos 1048576)) GivesNull)) ∷ (on 12 (Statement-F.Alloc (Held (H.Local 0)) (Constant (pos 1048576)) GivesNull)) ∷
    (on 13 (Statement-F.Alloc (Held (H.Local 0)) (Constant (pos 1048576)) GivesNull)) ∷ (on 14 (Statement-F.Alloc (Held (H.Local 0))
    (Constant (pos 1048576)) GivesNull)) ∷ (on 15 (Statement-F.Alloc (Held (H.Local 0)) (Constant (pos 1048576)) GivesNull)) ∷ (on 16
    (Statement-F.Alloc (Held (H.Local 0)) (Constant (pos 1048576)) GivesNull)) ∷ (on 17 (Statement-F.Alloc (Held (H.Local 0)) (Constant (pos
    1048576)) GivesNull)) ∷ (on 18 (Statement-F.Alloc (Held (H.Local 0)) (Constant (pos 1048576)) GivesNull)) ∷ []))) ∷ []) [] [] 0

seventeenth_cell_passes_the_ceiling_run : run script_seventeenth_cell_passes_the_ceiling_run R.Unlimited 10000 (shaped 4096 4096) ≡ result
    (Cut Ceiling) ((line 1 144 0 Granted) ∷ (line 2 1048592 144 Granted) ∷ (line 3 1048592 1048736 Granted) ∷ (line 4 1048592 2097328
    Granted) ∷ (line 5 1048592 3145920 Granted) ∷ (line 6 1048592 4194512 Granted) ∷ (line 7 1048592 5243104 Granted) ∷ (line 8 1048592
    6291696 Granted) ∷ (line 9 1048592 7340288 Granted) ∷ (line 10 1048592 8388880 Granted) ∷ (line 11 1048592 9437472 Granted) ∷ (line 12
    1048592 10486064 Granted) ∷ (line 13 1048592 11534656 Granted) ∷ (line 14 1048592 12583248 Granted) ∷ (line 15 1048592 13631840 Granted)
    ∷ (line 16 1048592 14680432 Granted) ∷ []) [] [] 16
unfolding everything
seventeenth_cell_passes_the_ceiling_run = refl

abbrev script_stale_pointer_freed_after_reuse_run : Script
script_stale_pointer_freed_after_reuse_run = script [] ((procedure 1 [] (body ((OfPointer None) ∷ (OfPointer None) ∷ []) ((on 4
    (Statement-F.Alloc (Held (H.Local 0)) (Constant (pos 16)) GivesNull)) ∷ (on 5 (Statement-F.Free (Held (H.Local 0)))) ∷ (on 6
    (Statement-F.Alloc (Held (H.Local 1)) (Constant (pos 16)) GivesNull)) ∷ (on 7 (Statement-F.Free (Held (H.Local 0)))) ∷ []))) ∷ []) [] []
    0

stale_pointer_freed_after_reuse_run : run script_stale_pointer_freed_after_reuse_run R.Unlimited 10000 (shaped 4096 4096) ≡ result (Panicked
    (P.User 42)) ((line 1 144 0 Granted) ∷ (line 2 32 144 Granted) ∷ (line 3 32 144 Granted) ∷ []) [] [] 4
unfolding everything
stale_pointer_freed_after_reuse_run = refl
