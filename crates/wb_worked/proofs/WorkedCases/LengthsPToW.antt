-- Worked cases of `lengths`, each by computing. Written by tools/cases_to_theorems.py; edit nothing here.
use Rattle.std.specs.Prelude.{◌≡◌, refl, pos, negsuc, [], ◌∷◌, Some, None}
use Rattle.wb_heap_model.specs.declared.heap.Panic.TheVariants as P
use Rattle.wb_tree.specs.declared.script.Holder.TheVariants as H
use Rattle.wb_heap_model.specs.declared.heap.Answer.TheVariants.{Granted, Simulated, Refused}
use Rattle.wb_runs.specs.declared.run_end.RunEnd.TheVariants as E
use Rattle.wb_heap_model.specs.declared.reported.Note.TheVariants.{Heap, Compress}
use Rattle.wb_meaning.specs.declared.run.Outcome.TheVariants.{Ended, Panicked}
use Rattle.wb_tree.specs.declared.script.Script.{Script}
use Rattle.wb_tree.specs.declared.script.Local.TheVariants.{OfPointer}
use Rattle.wb_tree.specs.declared.script.Pointer.TheVariants.{Held, Field}
use Rattle.wb_tree.specs.declared.script.Number.TheVariants.{Constant}
use Rattle.wb_tree.specs.declared.script.Writable.TheVariants.{InCell}
use Rattle.wb_tree.specs.declared.script.Readable.TheVariants.{Quoted}
use Rattle.wb_tree.specs.declared.script.Condition.TheVariants.{IsNull}
use Rattle.wb_tree.specs.declared.script.Refusal.TheVariants.{GivesNull, Leaves}
use Rattle.wb_tree.specs.declared.script.Statement.TheOpen.{Statement-F}
use Rattle.wb_runs.specs.Lengths.{end_in, run_in}
use Rattle.wb_worked.specs.Shorthands.{everything, on, script, class_of, procedure, body, result, leak, shaped, line}

abbrev script_pushed_object_survives_every_length_lengths : Script
script_pushed_object_survives_every_length_lengths = script ((class_of 1 16 (None ∷ []) (Some (body [] ((on 4 (Statement-F.NewText (Field
    H.This 0 0) (Constant (pos 4)) Leaves)) ∷ []))) (Some (body [] ((on 7 (Statement-F.Free (Field H.This 0 0))) ∷ [])))) ∷ []) ((procedure
    10 [] (body ((OfPointer (Some 0)) ∷ []) ((on 12 (Statement-F.New (Held (H.Local 0)) 0 Leaves)) ∷ (on 13 (Statement-F.PushObject (Held
    (H.Local 0)))) ∷ (on 14 (Statement-F.Construct (Held (H.Local 0)))) ∷ (on 15 (Statement-F.Pop (Constant (pos 1)))) ∷ (on 16
    (Statement-F.Delete (Held (H.Local 0)))) ∷ []))) ∷ []) [] [] 0

pushed_object_survives_every_length_lengths : (end_in script_pushed_object_survives_every_length_lengths 10000 (shaped 4096 4096) 0 ≡
    E.NoCleanup) × (end_in script_pushed_object_survives_every_length_lengths 10000 (shaped 4096 4096) 143 ≡ E.NoCleanup) × (end_in
    script_pushed_object_survives_every_length_lengths 10000 (shaped 4096 4096) 144 ≡ E.Left (negsuc 3)) × (end_in
    script_pushed_object_survives_every_length_lengths 10000 (shaped 4096 4096) 223 ≡ E.Left (negsuc 3)) × (end_in
    script_pushed_object_survives_every_length_lengths 10000 (shaped 4096 4096) 224 ≡ E.Plain) × (end_in
    script_pushed_object_survives_every_length_lengths 10000 (shaped 4096 4096) 16777216 ≡ E.Plain)
unfolding everything
pushed_object_survives_every_length_lengths = (refl, refl, refl, refl, refl, refl)

abbrev script_refused_by_the_script_itself_lengths : Script
script_refused_by_the_script_itself_lengths = script [] ((procedure 1 [] (body ((OfPointer None) ∷ (OfPointer None) ∷ []) ((on 4
    (Statement-F.FailNext (Constant (pos 2)))) ∷ (on 5 (Statement-F.Alloc (Held (H.Local 0)) (Constant (pos 16)) GivesNull)) ∷ (on 6
    (Statement-F.Alloc (Held (H.Local 1)) (Constant (pos 16)) GivesNull)) ∷ (on 7 (Statement-F.If (IsNull (Held (H.Local 1))) ((on 8
    (Statement-F.Leave (Constant (negsuc 3)))) ∷ []))) ∷ (on 10 (Statement-F.Free (Held (H.Local 0)))) ∷ (on 11 (Statement-F.Free (Held
    (H.Local 1)))) ∷ []))) ∷ []) [] [] 0

refused_by_the_script_itself_lengths : (end_in script_refused_by_the_script_itself_lengths 10000 (shaped 4096 4096) 0 ≡ E.NoCleanup) ×
    (end_in script_refused_by_the_script_itself_lengths 10000 (shaped 4096 4096) 143 ≡ E.NoCleanup) × (end_in
    script_refused_by_the_script_itself_lengths 10000 (shaped 4096 4096) 144 ≡ E.Left (negsuc 3)) × (end_in
    script_refused_by_the_script_itself_lengths 10000 (shaped 4096 4096) 175 ≡ E.Left (negsuc 3)) × (end_in
    script_refused_by_the_script_itself_lengths 10000 (shaped 4096 4096) 176 ≡ E.Leaked 1) × (end_in
    script_refused_by_the_script_itself_lengths 10000 (shaped 4096 4096) 16777216 ≡ E.Leaked 1) × (run_in
    script_refused_by_the_script_itself_lengths 10000 (shaped 4096 4096) 176 ≡ result (Ended (Some (negsuc 3)) ((leak 2 32 144) ∷ []))
    ((line 1 144 0 Granted) ∷ (line 2 32 144 Granted) ∷ (line 3 32 176 Simulated) ∷ []) [] [] 5)
unfolding everything
refused_by_the_script_itself_lengths = (refl, refl, refl, refl, refl, refl, refl)

abbrev script_second_free_of_a_cell_json_lengths : Script
script_second_free_of_a_cell_json_lengths = script [] ((procedure 1 [] (body ((OfPointer None) ∷ (OfPointer None) ∷ []) ((on 4
    (Statement-F.Alloc (Held (H.Local 0)) (Constant (pos 16)) GivesNull)) ∷ (on 5 (Statement-F.Free (Held (H.Local 0)))) ∷ (on 6
    (Statement-F.Alloc (Held (H.Local 1)) (Constant (pos 16)) GivesNull)) ∷ (on 7 (Statement-F.Free (Held (H.Local 0)))) ∷ []))) ∷ []) [] []
    0

second_free_of_a_cell_json_lengths : (end_in script_second_free_of_a_cell_json_lengths 10000 (shaped 4096 4096) 0 ≡ E.NoCleanup) × (end_in
    script_second_free_of_a_cell_json_lengths 10000 (shaped 4096 4096) 143 ≡ E.NoCleanup) × (end_in
    script_second_free_of_a_cell_json_lengths 10000 (shaped 4096 4096) 144 ≡ E.Plain) × (end_in script_second_free_of_a_cell_json_lengths
    10000 (shaped 4096 4096) 175 ≡ E.Plain) × (end_in script_second_free_of_a_cell_json_lengths 10000 (shaped 4096 4096) 176 ≡ E.Panicked
    (P.User 42)) × (end_in script_second_free_of_a_cell_json_lengths 10000 (shaped 4096 4096) 16777216 ≡ E.Panicked (P.User 42)) × (run_in
    script_second_free_of_a_cell_json_lengths 10000 (shaped 4096 4096) 176 ≡ result (Panicked (P.User 42)) ((line 1 144 0 Granted) ∷ (line 2
    32 144 Granted) ∷ (line 3 32 144 Granted) ∷ []) [] [] 4)
unfolding everything
second_free_of_a_cell_json_lengths = (refl, refl, refl, refl, refl, refl, refl)

abbrev script_second_free_of_a_cell_lengths : Script
script_second_free_of_a_cell_lengths = script [] ((procedure 1 [] (body ((OfPointer None) ∷ (OfPointer None) ∷ []) ((on 4 (Statement-F.Alloc
    (Held (H.Local 0)) (Constant (pos 16)) GivesNull)) ∷ (on 5 (Statement-F.Free (Held (H.Local 0)))) ∷ (on 6 (Statement-F.Alloc (Held
    (H.Local 1)) (Constant (pos 16)) GivesNull)) ∷ (on 7 (Statement-F.Free (Held (H.Local 0)))) ∷ []))) ∷ []) [] [] 0

second_free_of_a_cell_lengths : (end_in script_second_free_of_a_cell_lengths 10000 (shaped 4096 4096) 0 ≡ E.NoCleanup) × (end_in
    script_second_free_of_a_cell_lengths 10000 (shaped 4096 4096) 143 ≡ E.NoCleanup) × (end_in script_second_free_of_a_cell_lengths 10000
    (shaped 4096 4096) 144 ≡ E.Plain) × (end_in script_second_free_of_a_cell_lengths 10000 (shaped 4096 4096) 175 ≡ E.Plain) × (end_in
    script_second_free_of_a_cell_lengths 10000 (shaped 4096 4096) 176 ≡ E.Panicked (P.User 42)) × (end_in
    script_second_free_of_a_cell_lengths 10000 (shaped 4096 4096) 16777216 ≡ E.Panicked (P.User 42)) × (run_in
    script_second_free_of_a_cell_lengths 10000 (shaped 4096 4096) 176 ≡ result (Panicked (P.User 42)) ((line 1 144 0 Granted) ∷ (line 2 32
    144 Granted) ∷ (line 3 32 144 Granted) ∷ []) [] [] 4)
unfolding everything
second_free_of_a_cell_lengths = (refl, refl, refl, refl, refl, refl, refl)

abbrev script_small_minimum_and_step_lengths : Script
script_small_minimum_and_step_lengths = script [] ((procedure 1 [] (body ((OfPointer None) ∷ (OfPointer None) ∷ []) ((on 4
    (Statement-F.Alloc (Held (H.Local 0)) (Constant (pos 200)) GivesNull)) ∷ (on 5 (Statement-F.Alloc (Held (H.Local 1)) (Constant (pos 16))
    GivesNull)) ∷ (on 6 (Statement-F.Free (Held (H.Local 0)))) ∷ (on 7 Statement-F.NoteCompress) ∷ (on 8 Statement-F.NoteHeap) ∷ []))) ∷ [])
    [] [] 0

small_minimum_and_step_lengths : (end_in script_small_minimum_and_step_lengths 10000 (shaped 0 16) 0 ≡ E.NoCleanup) × (end_in
    script_small_minimum_and_step_lengths 10000 (shaped 0 16) 143 ≡ E.NoCleanup) × (end_in script_small_minimum_and_step_lengths 10000
    (shaped 0 16) 144 ≡ E.Plain) × (end_in script_small_minimum_and_step_lengths 10000 (shaped 0 16) 175 ≡ E.Plain) × (end_in
    script_small_minimum_and_step_lengths 10000 (shaped 0 16) 176 ≡ E.Leaked 1) × (end_in script_small_minimum_and_step_lengths 10000
    (shaped 0 16) 367 ≡ E.Leaked 1) × (end_in script_small_minimum_and_step_lengths 10000 (shaped 0 16) 368 ≡ E.Plain) × (end_in
    script_small_minimum_and_step_lengths 10000 (shaped 0 16) 399 ≡ E.Plain) × (end_in script_small_minimum_and_step_lengths 10000 (shaped 0
    16) 400 ≡ E.Leaked 1) × (end_in script_small_minimum_and_step_lengths 10000 (shaped 0 16) 16777216 ≡ E.Leaked 1) × (run_in
    script_small_minimum_and_step_lengths 10000 (shaped 0 16) 176 ≡ result (Ended None ((leak 3 32 144) ∷ [])) ((line 1 144 0 Granted) ∷
    (line 2 224 144 Refused) ∷ (line 3 32 144 Granted) ∷ []) [] ((Compress 0) ∷ (Heap 2 176 176) ∷ []) 5)
unfolding everything
small_minimum_and_step_lengths = (refl, refl, refl, refl, refl, refl, refl, refl, refl, refl, refl)

abbrev script_text_longer_than_its_cell_lengths : Script
script_text_longer_than_its_cell_lengths = script [] ((procedure 1 [] (body ((OfPointer None) ∷ []) ((on 3 (Statement-F.NewText (Held
    (H.Local 0)) (Constant (pos 4)) GivesNull)) ∷ (on 4 (Statement-F.Append (InCell (Held (H.Local 0))) (Quoted 0))) ∷ (on 5
    (Statement-F.Free (Held (H.Local 0)))) ∷ []))) ∷ []) [] ((97 ∷ 98 ∷ 99 ∷ 100 ∷ 101 ∷ 102 ∷ 103 ∷ []) ∷ []) 0

text_longer_than_its_cell_lengths : (end_in script_text_longer_than_its_cell_lengths 10000 (shaped 4096 4096) 0 ≡ E.NoCleanup) × (end_in
    script_text_longer_than_its_cell_lengths 10000 (shaped 4096 4096) 143 ≡ E.NoCleanup) × (end_in script_text_longer_than_its_cell_lengths
    10000 (shaped 4096 4096) 144 ≡ E.Panicked (P.Workbench 1)) × (end_in script_text_longer_than_its_cell_lengths 10000 (shaped 4096 4096)
    175 ≡ E.Panicked (P.Workbench 1)) × (end_in script_text_longer_than_its_cell_lengths 10000 (shaped 4096 4096) 176 ≡ E.Panicked (P.User
    11)) × (end_in script_text_longer_than_its_cell_lengths 10000 (shaped 4096 4096) 16777216 ≡ E.Panicked (P.User 11)) × (run_in
    script_text_longer_than_its_cell_lengths 10000 (shaped 4096 4096) 144 ≡ result (Panicked (P.Workbench 1)) ((line 1 144 0 Granted) ∷
    (line 2 32 144 Refused) ∷ []) [] [] 2)
unfolding everything
text_longer_than_its_cell_lengths = (refl, refl, refl, refl, refl, refl, refl)

abbrev script_top_cell_grows_in_place_lengths : Script
script_top_cell_grows_in_place_lengths = script [] ((procedure 1 [] (body ((OfPointer None) ∷ (OfPointer None) ∷ (OfPointer None) ∷ []) ((on
    5 (Statement-F.Alloc (Held (H.Local 0)) (Constant (pos 48)) GivesNull)) ∷ (on 6 (Statement-F.Alloc (Held (H.Local 1)) (Constant (pos
    16)) GivesNull)) ∷ (on 7 (Statement-F.Free (Held (H.Local 0)))) ∷ (on 8 (Statement-F.Realloc (Held (H.Local 2)) (Held (H.Local 1))
    (Constant (pos 48)) GivesNull)) ∷ (on 9 (Statement-F.IfElse (IsNull (Held (H.Local 2))) ((on 10 (Statement-F.Free (Held (H.Local 1)))) ∷
    []) ((on 12 (Statement-F.Free (Held (H.Local 2)))) ∷ []))) ∷ []))) ∷ []) [] [] 0

top_cell_grows_in_place_lengths : (end_in script_top_cell_grows_in_place_lengths 10000 (shaped 4096 4096) 0 ≡ E.NoCleanup) × (end_in
    script_top_cell_grows_in_place_lengths 10000 (shaped 4096 4096) 143 ≡ E.NoCleanup) × (end_in script_top_cell_grows_in_place_lengths
    10000 (shaped 4096 4096) 144 ≡ E.Plain) × (end_in script_top_cell_grows_in_place_lengths 10000 (shaped 4096 4096) 16777216 ≡ E.Plain)
unfolding everything
top_cell_grows_in_place_lengths = (refl, refl, refl, refl)

abbrev script_unpushed_object_leaks_when_construction_fails_lengths : Script
script_unpushed_object_leaks_when_construction_fails_lengths = script ((class_of 1 16 (None ∷ []) (Some (body [] ((on 4 (Statement-F.NewText
    (Field H.This 0 0) (Constant (pos 4)) Leaves)) ∷ []))) (Some (body [] ((on 7 (Statement-F.Free (Field H.This 0 0))) ∷ [])))) ∷ [])
    ((procedure 10 [] (body ((OfPointer (Some 0)) ∷ []) ((on 12 (Statement-F.New (Held (H.Local 0)) 0 Leaves)) ∷ (on 13
    (Statement-F.Construct (Held (H.Local 0)))) ∷ (on 14 (Statement-F.Delete (Held (H.Local 0)))) ∷ []))) ∷ []) [] [] 0

unpushed_object_leaks_when_construction_fails_lengths : (end_in script_unpushed_object_leaks_when_construction_fails_lengths 10000 (shaped
    4096 4096) 0 ≡ E.NoCleanup) × (end_in script_unpushed_object_leaks_when_construction_fails_lengths 10000 (shaped 4096 4096) 143 ≡
    E.NoCleanup) × (end_in script_unpushed_object_leaks_when_construction_fails_lengths 10000 (shaped 4096 4096) 144 ≡ E.Left (negsuc 3)) ×
    (end_in script_unpushed_object_leaks_when_construction_fails_lengths 10000 (shaped 4096 4096) 191 ≡ E.Left (negsuc 3)) × (end_in
    script_unpushed_object_leaks_when_construction_fails_lengths 10000 (shaped 4096 4096) 192 ≡ E.Leaked 1) × (end_in
    script_unpushed_object_leaks_when_construction_fails_lengths 10000 (shaped 4096 4096) 223 ≡ E.Leaked 1) × (end_in
    script_unpushed_object_leaks_when_construction_fails_lengths 10000 (shaped 4096 4096) 224 ≡ E.Plain) × (end_in
    script_unpushed_object_leaks_when_construction_fails_lengths 10000 (shaped 4096 4096) 16777216 ≡ E.Plain) × (run_in
    script_unpushed_object_leaks_when_construction_fails_lengths 10000 (shaped 4096 4096) 192 ≡ result (Ended (Some (negsuc 3)) ((leak 2 48
    144) ∷ [])) ((line 1 144 0 Granted) ∷ (line 2 48 144 Granted) ∷ (line 3 32 192 Refused) ∷ []) [] [] 3)
unfolding everything
unpushed_object_leaks_when_construction_fails_lengths = (refl, refl, refl, refl, refl, refl, refl, refl, refl)

abbrev script_would_end_past_the_ceiling_lengths : Script
script_would_end_past_the_ceiling_lengths = script [] ((procedure 1 [] (body ((OfPointer None) ∷ []) ((on 3 (Statement-F.Repeat (Constant
    (pos 15)) ((on 4 (Statement-F.Alloc (Held (H.Local 0)) (Constant (pos 1048560)) Leaves)) ∷ (on 5 (Statement-F.Push (Held (H.Local 0))))
    ∷ []))) ∷ (on 7 (Statement-F.Alloc (Held (H.Local 0)) (Constant (pos 1047616)) Leaves)) ∷ (on 8 (Statement-F.Push (Held (H.Local 0)))) ∷
    (on 9 (Statement-F.PopDestroy (Constant (pos 16)))) ∷ []))) ∷ []) [] [] 0

would_end_past_the_ceiling_lengths : (end_in script_would_end_past_the_ceiling_lengths 10000 (shaped 4096 4096) 0 ≡ E.NoCleanup) × (end_in
    script_would_end_past_the_ceiling_lengths 10000 (shaped 4096 4096) 143 ≡ E.NoCleanup) × (end_in
    script_would_end_past_the_ceiling_lengths 10000 (shaped 4096 4096) 144 ≡ E.Left (negsuc 3)) × (end_in
    script_would_end_past_the_ceiling_lengths 10000 (shaped 4096 4096) 16777216 ≡ E.Left (negsuc 3))
unfolding everything
would_end_past_the_ceiling_lengths = (refl, refl, refl, refl)
