-- Worked cases of `examples`, each by computing. Written by tools/cases_to_theorems.py; edit nothing here.
use Rattle.std.specs.Prelude.{◌≡◌, refl, pos, negsuc, [], ◌∷◌, length, Some, None}
use Rattle.wb_runs.specs.declared.failures.Failures.TheVariants.{Single, Every, Pairs}
use Rattle.wb_heap_model.specs.declared.heap.Rule.TheVariants as R
use Rattle.wb_heap_model.specs.declared.heap.Panic.TheVariants as P
use Rattle.wb_tree.specs.declared.script.Holder.TheVariants as H
use Rattle.wb_heap_model.specs.declared.heap.Answer.TheVariants.{Granted, Simulated, Refused}
use Rattle.wb_runs.specs.declared.run_end.RunEnd.TheVariants as E
use Rattle.wb_heap_model.specs.declared.reported.Note.TheVariants.{Heap, Available, Compress}
use Rattle.wb_meaning.specs.declared.run.Outcome.TheVariants.{Ended, Panicked}
use Rattle.wb_tree.specs.declared.script.Script.{Script}
use Rattle.wb_tree.specs.declared.script.Parameter.TheVariants as Par
use Rattle.wb_tree.specs.declared.script.Local.TheVariants.{OfPointer, OfNumber}
use Rattle.wb_tree.specs.declared.script.Pointer.TheVariants.{Held, Field}
use Rattle.wb_tree.specs.declared.script.Number.TheVariants.{Constant, Variable}
use Rattle.wb_tree.specs.declared.script.Writable.TheVariants.{InCell}
use Rattle.wb_tree.specs.declared.script.Readable.TheVariants.{Of, Quoted}
use Rattle.wb_tree.specs.declared.script.Condition.TheVariants.{IsNull, NotNull, Equal}
use Rattle.wb_tree.specs.declared.script.Argument.TheVariants.{Passed, Given}
use Rattle.wb_tree.specs.declared.script.Refusal.TheVariants.{GivesNull, Leaves}
use Rattle.wb_tree.specs.declared.script.Statement.TheOpen.{Statement-F}
use Rattle.wb_meaning.specs.Run.{run, required, rises}
use Rattle.wb_runs.specs.Lengths.{end_in}
use Rattle.wb_runs.specs.Pairs.{least_bad_or_cut_pair}
use Rattle.wb_runs.specs.Sweeps.{runs_of, least_bad_or_cut}
use Rattle.wb_worked.specs.Shorthands.{everything, on, script, class_of, procedure, body, result, leak, shaped, line, rise}

abbrev script_newlc_check : Script
script_newlc_check = script [] ((procedure 3 (Par.OfNumber ∷ []) (body ((OfPointer None) ∷ (OfPointer None) ∷ []) ((on 6 (Statement-F.Alloc
    (Held (H.Local 1)) (Constant (pos 40)) Leaves)) ∷ (on 8 (Statement-F.Push (Held (H.Local 1)))) ∷ (on 10 (Statement-F.Alloc (Held
    (H.Local 2)) (Constant (pos 200)) Leaves)) ∷ (on 11 (Statement-F.Push (Held (H.Local 2)))) ∷ (on 12 (Statement-F.Store (Held (H.Local
    2)) (Constant (pos 0)) (Variable 0))) ∷ (on 13 (Statement-F.Store (Held (H.Local 1)) (Constant (pos 0)) (Variable 0))) ∷ (on 14
    (Statement-F.PopDestroy (Constant (pos 1)))) ∷ (on 16 (Statement-F.ReturnPointer (Held (H.Local 1)))) ∷ []))) ∷ (procedure 19 [] (body
    ((OfPointer None) ∷ (OfPointer None) ∷ []) ((on 22 (Statement-F.CallTo 0 0 ((Given (Constant (pos 3))) ∷ []))) ∷ (on 24
    (Statement-F.CallTo 1 0 ((Given (Constant (pos 4))) ∷ []))) ∷ (on 25 (Statement-F.Store (Held (H.Local 0)) (Constant (pos 1)) (Constant
    (pos 7)))) ∷ (on 26 (Statement-F.Store (Held (H.Local 1)) (Constant (pos 1)) (Constant (pos 7)))) ∷ (on 27 (Statement-F.PopDestroy
    (Constant (pos 2)))) ∷ []))) ∷ []) [] [] 1

newlc_check : (required script_newlc_check 10000 (shaped 4096 4096) ≡ 496) × (rises script_newlc_check 10000 (shaped 4096 4096) ≡ (rise 1
    144) ∷ (rise 2 208) ∷ (rise 3 432) ∷ (rise 5 496) ∷ []) × (length (runs_of Single script_newlc_check 10000 (shaped 4096 4096) 0).trace ≡
    5) × (least_bad_or_cut Single script_newlc_check 10000 (shaped 4096 4096) ≡ None)
unfolding everything
newlc_check = (refl, refl, refl, refl)

abbrev script_newlc_refused_run : Script
script_newlc_refused_run = script [] ((procedure 3 (Par.OfNumber ∷ []) (body ((OfPointer None) ∷ (OfPointer None) ∷ []) ((on 6
    (Statement-F.Alloc (Held (H.Local 1)) (Constant (pos 40)) Leaves)) ∷ (on 8 (Statement-F.Push (Held (H.Local 1)))) ∷ (on 10
    (Statement-F.Alloc (Held (H.Local 2)) (Constant (pos 200)) Leaves)) ∷ (on 11 (Statement-F.Push (Held (H.Local 2)))) ∷ (on 12
    (Statement-F.Store (Held (H.Local 2)) (Constant (pos 0)) (Variable 0))) ∷ (on 13 (Statement-F.Store (Held (H.Local 1)) (Constant (pos
    0)) (Variable 0))) ∷ (on 14 (Statement-F.PopDestroy (Constant (pos 1)))) ∷ (on 16 (Statement-F.ReturnPointer (Held (H.Local 1)))) ∷
    []))) ∷ (procedure 19 [] (body ((OfPointer None) ∷ (OfPointer None) ∷ []) ((on 22 (Statement-F.CallTo 0 0 ((Given (Constant (pos 3))) ∷
    []))) ∷ (on 24 (Statement-F.CallTo 1 0 ((Given (Constant (pos 4))) ∷ []))) ∷ (on 25 (Statement-F.Store (Held (H.Local 0)) (Constant (pos
    1)) (Constant (pos 7)))) ∷ (on 26 (Statement-F.Store (Held (H.Local 1)) (Constant (pos 1)) (Constant (pos 7)))) ∷ (on 27
    (Statement-F.PopDestroy (Constant (pos 2)))) ∷ []))) ∷ []) [] [] 1

newlc_refused_run : run script_newlc_refused_run (R.Number 5) 10000 (shaped 4096 4096) ≡ result (Ended (Some (negsuc 3)) []) ((line 1 144 0
    Granted) ∷ (line 2 64 144 Granted) ∷ (line 3 224 208 Granted) ∷ (line 4 64 208 Granted) ∷ (line 5 224 272 Simulated) ∷ []) [] [] 16
unfolding everything
newlc_refused_run = refl

abbrev script_notes_run : Script
script_notes_run = script [] ((procedure 2 [] (body ((OfPointer None) ∷ (OfPointer None) ∷ []) ((on 5 (Statement-F.Alloc (Held (H.Local 0))
    (Constant (pos 40)) GivesNull)) ∷ (on 7 (Statement-F.Store (Held (H.Local 0)) (Constant (pos 9)) (Constant (negsuc 0)))) ∷ (on 8
    Statement-F.NoteHeap) ∷ (on 9 (Statement-F.Alloc (Held (H.Local 1)) (Constant (pos 5000)) GivesNull)) ∷ (on 10 Statement-F.NoteHeap) ∷
    (on 11 (Statement-F.Free (Held (H.Local 1)))) ∷ (on 13 Statement-F.NoteAvailable) ∷ (on 14 Statement-F.NoteCompress) ∷ (on 15
    Statement-F.NoteHeap) ∷ (on 16 (Statement-F.Free (Held (H.Local 0)))) ∷ []))) ∷ []) [] [] 0

notes_run : run script_notes_run R.Unlimited 10000 (shaped 4096 4096) ≡ result (Ended None []) ((line 1 144 0 Granted) ∷ (line 2 64 144
    Granted) ∷ (line 3 5024 208 Granted) ∷ []) [] ((Heap 2 208 4096) ∷ (Heap 3 5232 8192) ∷ (Available 7984 7984) ∷ (Compress 4096) ∷ (Heap
    2 208 4096) ∷ []) 10
unfolding everything
notes_run = refl

abbrev script_notes_with_a_step_of_64_run : Script
script_notes_with_a_step_of_64_run = script [] ((procedure 2 [] (body ((OfPointer None) ∷ (OfPointer None) ∷ []) ((on 5 (Statement-F.Alloc
    (Held (H.Local 0)) (Constant (pos 40)) GivesNull)) ∷ (on 7 (Statement-F.Store (Held (H.Local 0)) (Constant (pos 9)) (Constant (negsuc
    0)))) ∷ (on 8 Statement-F.NoteHeap) ∷ (on 9 (Statement-F.Alloc (Held (H.Local 1)) (Constant (pos 5000)) GivesNull)) ∷ (on 10
    Statement-F.NoteHeap) ∷ (on 11 (Statement-F.Free (Held (H.Local 1)))) ∷ (on 13 Statement-F.NoteAvailable) ∷ (on 14
    Statement-F.NoteCompress) ∷ (on 15 Statement-F.NoteHeap) ∷ (on 16 (Statement-F.Free (Held (H.Local 0)))) ∷ []))) ∷ []) [] [] 0

notes_with_a_step_of_64_run : run script_notes_with_a_step_of_64_run R.Unlimited 10000 (shaped 4096 64) ≡ result (Ended None []) ((line 1
    144 0 Granted) ∷ (line 2 64 144 Granted) ∷ (line 3 5024 208 Granted) ∷ []) [] ((Heap 2 208 4096) ∷ (Heap 3 5232 5248) ∷ (Available 5040
    5040) ∷ (Compress 1152) ∷ (Heap 2 208 4096) ∷ []) 10
unfolding everything
notes_with_a_step_of_64_run = refl

abbrev script_push_too_late_check : Script
script_push_too_late_check = script [] ((procedure 3 (Par.OfNumber ∷ []) (body ((OfPointer None) ∷ (OfPointer None) ∷ []) ((on 6
    (Statement-F.Alloc (Held (H.Local 1)) (Constant (pos 40)) Leaves)) ∷ (on 8 (Statement-F.Alloc (Held (H.Local 2)) (Constant (pos 200))
    Leaves)) ∷ (on 9 (Statement-F.Push (Held (H.Local 1)))) ∷ (on 10 (Statement-F.Push (Held (H.Local 2)))) ∷ (on 11 (Statement-F.Store
    (Held (H.Local 2)) (Constant (pos 0)) (Variable 0))) ∷ (on 12 (Statement-F.Store (Held (H.Local 1)) (Constant (pos 0)) (Variable 0))) ∷
    (on 13 (Statement-F.PopDestroy (Constant (pos 1)))) ∷ (on 14 (Statement-F.ReturnPointer (Held (H.Local 1)))) ∷ []))) ∷ (procedure 17 []
    (body ((OfPointer None) ∷ (OfPointer None) ∷ []) ((on 20 (Statement-F.CallTo 0 0 ((Given (Constant (pos 3))) ∷ []))) ∷ (on 21
    (Statement-F.CallTo 1 0 ((Given (Constant (pos 4))) ∷ []))) ∷ (on 22 (Statement-F.Store (Held (H.Local 0)) (Constant (pos 1)) (Constant
    (pos 7)))) ∷ (on 23 (Statement-F.Store (Held (H.Local 1)) (Constant (pos 1)) (Constant (pos 7)))) ∷ (on 24 (Statement-F.PopDestroy
    (Constant (pos 2)))) ∷ []))) ∷ []) [] [] 1

push_too_late_check : (required script_push_too_late_check 10000 (shaped 4096 4096) ≡ 496) × (rises script_push_too_late_check 10000 (shaped
    4096 4096) ≡ (rise 1 144) ∷ (rise 2 208) ∷ (rise 3 432) ∷ (rise 5 496) ∷ []) × (length (runs_of Single script_push_too_late_check 10000
    (shaped 4096 4096) 0).trace ≡ 5) × (least_bad_or_cut Single script_push_too_late_check 10000 (shaped 4096 4096) ≡ Some 3) × (runs_of
    Single script_push_too_late_check 10000 (shaped 4096 4096) 3 ≡ result (Ended (Some (negsuc 3)) ((leak 2 64 144) ∷ [])) ((line 1 144 0
    Granted) ∷ (line 2 64 144 Granted) ∷ (line 3 224 208 Simulated) ∷ []) [] [] 3)
unfolding everything
push_too_late_check = (refl, refl, refl, refl, refl)

abbrev script_regrown_member_check : Script
script_regrown_member_check = script ((class_of 3 4 (None ∷ []) (Some (body [] ((on 6 (Statement-F.NewText (Field H.This 0 0) (Constant (pos
    4)) Leaves)) ∷ (on 7 (Statement-F.Copy (InCell (Field H.This 0 0)) (Quoted 0))) ∷ []))) (Some (body [] ((on 10 (Statement-F.Free (Field
    H.This 0 0))) ∷ [])))) ∷ []) ((procedure 14 ((Par.OfPointer None) ∷ Par.OfNumber ∷ []) (body ((OfPointer None) ∷ []) ((on 16
    (Statement-F.ReallocText (Held (H.Local 2)) (Held (H.Local 0)) (Variable 1))) ∷ (on 17 (Statement-F.LeaveIfNull (Held (H.Local 2)))) ∷
    (on 18 (Statement-F.ReturnPointer (Held (H.Local 2)))) ∷ []))) ∷ (procedure 21 ((Par.OfPointer (Some 0)) ∷ []) (body ((OfPointer None) ∷
    []) ((on 23 (Statement-F.CallTo 1 0 ((Passed (Field (H.Local 0) 0 0)) ∷ (Given (Constant (pos 40))) ∷ []))) ∷ (on 24 (Statement-F.Set
    (Field (H.Local 0) 0 0) (Held (H.Local 1)))) ∷ (on 25 (Statement-F.Append (InCell (Field (H.Local 0) 0 0)) (Quoted 1))) ∷ []))) ∷
    (procedure 28 [] (body ((OfPointer (Some 0)) ∷ []) ((on 30 (Statement-F.New (Held (H.Local 0)) 0 Leaves)) ∷ (on 31
    (Statement-F.PushObject (Held (H.Local 0)))) ∷ (on 32 (Statement-F.Construct (Held (H.Local 0)))) ∷ (on 33 (Statement-F.Call 1 ((Passed
    (Held (H.Local 0))) ∷ []))) ∷ (on 34 (Statement-F.PrintText (Of (InCell (Field (H.Local 0) 0 0))))) ∷ (on 35 (Statement-F.PopDestroy
    (Constant (pos 1)))) ∷ []))) ∷ []) [] ((109 ∷ 105 ∷ 108 ∷ 107 ∷ []) ∷ (32 ∷ 97 ∷ 110 ∷ 100 ∷ 32 ∷ 98 ∷ 114 ∷ 101 ∷ 97 ∷ 100 ∷ []) ∷ [])
    2

regrown_member_check : (required script_regrown_member_check 10000 (shaped 4096 4096) ≡ 304) × (rises script_regrown_member_check 10000
    (shaped 4096 4096) ≡ (rise 1 144) ∷ (rise 2 192) ∷ (rise 3 224) ∷ (rise 4 304) ∷ []) × (length (runs_of Single
    script_regrown_member_check 10000 (shaped 4096 4096) 0).trace ≡ 4) × (least_bad_or_cut Single script_regrown_member_check 10000 (shaped
    4096 4096) ≡ None)
unfolding everything
regrown_member_check = (refl, refl, refl, refl)

abbrev script_regrown_member_run : Script
script_regrown_member_run = script ((class_of 3 4 (None ∷ []) (Some (body [] ((on 6 (Statement-F.NewText (Field H.This 0 0) (Constant (pos
    4)) Leaves)) ∷ (on 7 (Statement-F.Copy (InCell (Field H.This 0 0)) (Quoted 0))) ∷ []))) (Some (body [] ((on 10 (Statement-F.Free (Field
    H.This 0 0))) ∷ [])))) ∷ []) ((procedure 14 ((Par.OfPointer None) ∷ Par.OfNumber ∷ []) (body ((OfPointer None) ∷ []) ((on 16
    (Statement-F.ReallocText (Held (H.Local 2)) (Held (H.Local 0)) (Variable 1))) ∷ (on 17 (Statement-F.LeaveIfNull (Held (H.Local 2)))) ∷
    (on 18 (Statement-F.ReturnPointer (Held (H.Local 2)))) ∷ []))) ∷ (procedure 21 ((Par.OfPointer (Some 0)) ∷ []) (body ((OfPointer None) ∷
    []) ((on 23 (Statement-F.CallTo 1 0 ((Passed (Field (H.Local 0) 0 0)) ∷ (Given (Constant (pos 40))) ∷ []))) ∷ (on 24 (Statement-F.Set
    (Field (H.Local 0) 0 0) (Held (H.Local 1)))) ∷ (on 25 (Statement-F.Append (InCell (Field (H.Local 0) 0 0)) (Quoted 1))) ∷ []))) ∷
    (procedure 28 [] (body ((OfPointer (Some 0)) ∷ []) ((on 30 (Statement-F.New (Held (H.Local 0)) 0 Leaves)) ∷ (on 31
    (Statement-F.PushObject (Held (H.Local 0)))) ∷ (on 32 (Statement-F.Construct (Held (H.Local 0)))) ∷ (on 33 (Statement-F.Call 1 ((Passed
    (Held (H.Local 0))) ∷ []))) ∷ (on 34 (Statement-F.PrintText (Of (InCell (Field (H.Local 0) 0 0))))) ∷ (on 35 (Statement-F.PopDestroy
    (Constant (pos 1)))) ∷ []))) ∷ []) [] ((109 ∷ 105 ∷ 108 ∷ 107 ∷ []) ∷ (32 ∷ 97 ∷ 110 ∷ 100 ∷ 32 ∷ 98 ∷ 114 ∷ 101 ∷ 97 ∷ 100 ∷ []) ∷ [])
    2

regrown_member_run : run script_regrown_member_run R.Unlimited 10000 (shaped 4096 4096) ≡ result (Ended None []) ((line 1 144 0 Granted) ∷
    (line 2 48 144 Granted) ∷ (line 3 32 192 Granted) ∷ (line 4 112 192 Granted) ∷ []) ((109 ∷ 105 ∷ 108 ∷ 107 ∷ 32 ∷ 97 ∷ 110 ∷ 100 ∷ 32 ∷
    98 ∷ 114 ∷ 101 ∷ 97 ∷ 100 ∷ []) ∷ []) [] 17
unfolding everything
regrown_member_run = refl

abbrev script_retry_check : Script
script_retry_check = script [] ((procedure 3 [] (body ((OfPointer None) ∷ (OfPointer None) ∷ OfNumber ∷ []) ((on 7 (Statement-F.Alloc (Held
    (H.Local 0)) (Constant (pos 100)) GivesNull)) ∷ (on 8 (Statement-F.Repeat (Constant (pos 3)) ((on 9 (Statement-F.If (IsNull (Held
    (H.Local 1))) ((on 10 (Statement-F.Add 2 (Constant (pos 1)))) ∷ (on 11 (Statement-F.Alloc (Held (H.Local 1)) (Constant (pos 300))
    GivesNull)) ∷ (on 12 (Statement-F.If (IsNull (Held (H.Local 1))) ((on 14 (Statement-F.Free (Held (H.Local 0)))) ∷ (on 15
    (Statement-F.SetNull (Held (H.Local 0)))) ∷ []))) ∷ []))) ∷ []))) ∷ (on 19 (Statement-F.PrintNumber (Variable 2))) ∷ (on 20
    (Statement-F.Free (Held (H.Local 1)))) ∷ (on 21 (Statement-F.Free (Held (H.Local 0)))) ∷ []))) ∷ []) [] [] 0

retry_check : (required script_retry_check 10000 (shaped 4096 4096) ≡ 592) × (rises script_retry_check 10000 (shaped 4096 4096) ≡ (rise 1
    144) ∷ (rise 2 272) ∷ (rise 3 592) ∷ []) × (length (runs_of Single script_retry_check 10000 (shaped 4096 4096) 0).trace ≡ 3) ×
    (least_bad_or_cut Single script_retry_check 10000 (shaped 4096 4096) ≡ None)
unfolding everything
retry_check = (refl, refl, refl, refl)

abbrev script_retry_in_a_short_heap_run : Script
script_retry_in_a_short_heap_run = script [] ((procedure 3 [] (body ((OfPointer None) ∷ (OfPointer None) ∷ OfNumber ∷ []) ((on 7
    (Statement-F.Alloc (Held (H.Local 0)) (Constant (pos 100)) GivesNull)) ∷ (on 8 (Statement-F.Repeat (Constant (pos 3)) ((on 9
    (Statement-F.If (IsNull (Held (H.Local 1))) ((on 10 (Statement-F.Add 2 (Constant (pos 1)))) ∷ (on 11 (Statement-F.Alloc (Held (H.Local
    1)) (Constant (pos 300)) GivesNull)) ∷ (on 12 (Statement-F.If (IsNull (Held (H.Local 1))) ((on 14 (Statement-F.Free (Held (H.Local 0))))
    ∷ (on 15 (Statement-F.SetNull (Held (H.Local 0)))) ∷ []))) ∷ []))) ∷ []))) ∷ (on 19 (Statement-F.PrintNumber (Variable 2))) ∷ (on 20
    (Statement-F.Free (Held (H.Local 1)))) ∷ (on 21 (Statement-F.Free (Held (H.Local 0)))) ∷ []))) ∷ []) [] [] 0

retry_in_a_short_heap_run : run script_retry_in_a_short_heap_run (R.Limit 464) 10000 (shaped 4096 4096) ≡ result (Ended None []) ((line 1
    144 0 Granted) ∷ (line 2 128 144 Granted) ∷ (line 3 320 272 Refused) ∷ (line 4 320 144 Granted) ∷ []) ((50 ∷ []) ∷ []) [] 19
unfolding everything
retry_in_a_short_heap_run = refl

abbrev script_retry_leaks_check : Script
script_retry_leaks_check = script [] ((procedure 2 [] (body ((OfPointer None) ∷ (OfPointer None) ∷ []) ((on 5 (Statement-F.Repeat (Constant
    (pos 3)) ((on 6 (Statement-F.If (IsNull (Held (H.Local 1))) ((on 7 (Statement-F.Alloc (Held (H.Local 0)) (Constant (pos 16)) GivesNull))
    ∷ (on 8 (Statement-F.If (NotNull (Held (H.Local 0))) ((on 9 (Statement-F.Alloc (Held (H.Local 1)) (Constant (pos 200)) GivesNull)) ∷
    []))) ∷ []))) ∷ []))) ∷ (on 13 (Statement-F.Free (Held (H.Local 1)))) ∷ (on 14 (Statement-F.Free (Held (H.Local 0)))) ∷ []))) ∷ []) []
    [] 0

retry_leaks_check : (required script_retry_leaks_check 10000 (shaped 4096 4096) ≡ 400) × (rises script_retry_leaks_check 10000 (shaped 4096
    4096) ≡ (rise 1 144) ∷ (rise 2 176) ∷ (rise 3 400) ∷ []) × (length (runs_of Single script_retry_leaks_check 10000 (shaped 4096 4096)
    0).trace ≡ 3) × (least_bad_or_cut Single script_retry_leaks_check 10000 (shaped 4096 4096) ≡ Some 3) × (runs_of Single
    script_retry_leaks_check 10000 (shaped 4096 4096) 3 ≡ result (Ended None ((leak 2 32 144) ∷ [])) ((line 1 144 0 Granted) ∷ (line 2 32
    144 Granted) ∷ (line 3 224 176 Simulated) ∷ (line 4 32 176 Granted) ∷ (line 5 224 208 Granted) ∷ []) [] [] 15)
unfolding everything
retry_leaks_check = (refl, refl, refl, refl, refl)

abbrev script_retry_leaks_mended_check : Script
script_retry_leaks_mended_check = script [] ((procedure 2 [] (body ((OfPointer None) ∷ (OfPointer None) ∷ []) ((on 5 (Statement-F.Repeat
    (Constant (pos 3)) ((on 6 (Statement-F.If (IsNull (Held (H.Local 1))) ((on 7 (Statement-F.Alloc (Held (H.Local 0)) (Constant (pos 16))
    GivesNull)) ∷ (on 8 (Statement-F.If (NotNull (Held (H.Local 0))) ((on 9 (Statement-F.Alloc (Held (H.Local 1)) (Constant (pos 200))
    GivesNull)) ∷ (on 10 (Statement-F.If (IsNull (Held (H.Local 1))) ((on 11 (Statement-F.Free (Held (H.Local 0)))) ∷ (on 12
    (Statement-F.SetNull (Held (H.Local 0)))) ∷ []))) ∷ []))) ∷ []))) ∷ []))) ∷ (on 17 (Statement-F.Free (Held (H.Local 1)))) ∷ (on 18
    (Statement-F.Free (Held (H.Local 0)))) ∷ []))) ∷ []) [] [] 0

retry_leaks_mended_check : (required script_retry_leaks_mended_check 10000 (shaped 4096 4096) ≡ 400) × (rises
    script_retry_leaks_mended_check 10000 (shaped 4096 4096) ≡ (rise 1 144) ∷ (rise 2 176) ∷ (rise 3 400) ∷ []) × (length (runs_of Single
    script_retry_leaks_mended_check 10000 (shaped 4096 4096) 0).trace ≡ 3) × (least_bad_or_cut Single script_retry_leaks_mended_check 10000
    (shaped 4096 4096) ≡ None)
unfolding everything
retry_leaks_mended_check = (refl, refl, refl, refl)

abbrev script_save_leaks_check : Script
script_save_leaks_check = script [] ((procedure 5 [] (body ((OfPointer None) ∷ (OfPointer None) ∷ (OfPointer None) ∷ []) ((on 9
    (Statement-F.Alloc (Held (H.Local 0)) (Constant (pos 16)) Leaves)) ∷ (on 10 (Statement-F.Push (Held (H.Local 0)))) ∷ (on 11
    (Statement-F.Alloc (Held (H.Local 1)) (Constant (pos 600)) Leaves)) ∷ (on 12 (Statement-F.Free (Held (H.Local 1)))) ∷ (on 14
    (Statement-F.Pop (Constant (pos 1)))) ∷ (on 15 (Statement-F.Alloc (Held (H.Local 2)) (Constant (pos 500)) GivesNull)) ∷ (on 16
    (Statement-F.If (IsNull (Held (H.Local 2))) ((on 17 (Statement-F.Alloc (Held (H.Local 2)) (Constant (pos 250)) GivesNull)) ∷ []))) ∷ (on
    19 (Statement-F.If (IsNull (Held (H.Local 2))) ((on 20 (Statement-F.Alloc (Held (H.Local 2)) (Constant (pos 120)) Leaves)) ∷ []))) ∷ (on
    22 (Statement-F.Free (Held (H.Local 2)))) ∷ (on 23 (Statement-F.Free (Held (H.Local 0)))) ∷ []))) ∷ []) [] [] 0

save_leaks_check : (required script_save_leaks_check 10000 (shaped 4096 4096) ≡ 800) × (rises script_save_leaks_check 10000 (shaped 4096
    4096) ≡ (rise 1 144) ∷ (rise 2 176) ∷ (rise 3 800) ∷ []) × (length (runs_of Single script_save_leaks_check 10000 (shaped 4096 4096)
    0).trace ≡ 4) × (least_bad_or_cut Single script_save_leaks_check 10000 (shaped 4096 4096) ≡ None)
unfolding everything
save_leaks_check = (refl, refl, refl, refl)

abbrev script_save_leaks_every_sweep : Script
script_save_leaks_every_sweep = script [] ((procedure 5 [] (body ((OfPointer None) ∷ (OfPointer None) ∷ (OfPointer None) ∷ []) ((on 9
    (Statement-F.Alloc (Held (H.Local 0)) (Constant (pos 16)) Leaves)) ∷ (on 10 (Statement-F.Push (Held (H.Local 0)))) ∷ (on 11
    (Statement-F.Alloc (Held (H.Local 1)) (Constant (pos 600)) Leaves)) ∷ (on 12 (Statement-F.Free (Held (H.Local 1)))) ∷ (on 14
    (Statement-F.Pop (Constant (pos 1)))) ∷ (on 15 (Statement-F.Alloc (Held (H.Local 2)) (Constant (pos 500)) GivesNull)) ∷ (on 16
    (Statement-F.If (IsNull (Held (H.Local 2))) ((on 17 (Statement-F.Alloc (Held (H.Local 2)) (Constant (pos 250)) GivesNull)) ∷ []))) ∷ (on
    19 (Statement-F.If (IsNull (Held (H.Local 2))) ((on 20 (Statement-F.Alloc (Held (H.Local 2)) (Constant (pos 120)) Leaves)) ∷ []))) ∷ (on
    22 (Statement-F.Free (Held (H.Local 2)))) ∷ (on 23 (Statement-F.Free (Held (H.Local 0)))) ∷ []))) ∷ []) [] [] 0

save_leaks_every_sweep : (length (runs_of Every script_save_leaks_every_sweep 10000 (shaped 4096 4096) 0).trace ≡ 4) × (least_bad_or_cut
    Every script_save_leaks_every_sweep 10000 (shaped 4096 4096) ≡ None)
unfolding everything
save_leaks_every_sweep = (refl, refl)

abbrev script_save_leaks_lengths : Script
script_save_leaks_lengths = script [] ((procedure 5 [] (body ((OfPointer None) ∷ (OfPointer None) ∷ (OfPointer None) ∷ []) ((on 9
    (Statement-F.Alloc (Held (H.Local 0)) (Constant (pos 16)) Leaves)) ∷ (on 10 (Statement-F.Push (Held (H.Local 0)))) ∷ (on 11
    (Statement-F.Alloc (Held (H.Local 1)) (Constant (pos 600)) Leaves)) ∷ (on 12 (Statement-F.Free (Held (H.Local 1)))) ∷ (on 14
    (Statement-F.Pop (Constant (pos 1)))) ∷ (on 15 (Statement-F.Alloc (Held (H.Local 2)) (Constant (pos 500)) GivesNull)) ∷ (on 16
    (Statement-F.If (IsNull (Held (H.Local 2))) ((on 17 (Statement-F.Alloc (Held (H.Local 2)) (Constant (pos 250)) GivesNull)) ∷ []))) ∷ (on
    19 (Statement-F.If (IsNull (Held (H.Local 2))) ((on 20 (Statement-F.Alloc (Held (H.Local 2)) (Constant (pos 120)) Leaves)) ∷ []))) ∷ (on
    22 (Statement-F.Free (Held (H.Local 2)))) ∷ (on 23 (Statement-F.Free (Held (H.Local 0)))) ∷ []))) ∷ []) [] [] 0

save_leaks_lengths : (end_in script_save_leaks_lengths 10000 (shaped 4096 4096) 0 ≡ E.NoCleanup) × (end_in script_save_leaks_lengths 10000
    (shaped 4096 4096) 143 ≡ E.NoCleanup) × (end_in script_save_leaks_lengths 10000 (shaped 4096 4096) 144 ≡ E.Left (negsuc 3)) × (end_in
    script_save_leaks_lengths 10000 (shaped 4096 4096) 799 ≡ E.Left (negsuc 3)) × (end_in script_save_leaks_lengths 10000 (shaped 4096 4096)
    800 ≡ E.Plain) × (end_in script_save_leaks_lengths 10000 (shaped 4096 4096) 16777216 ≡ E.Plain)
unfolding everything
save_leaks_lengths = (refl, refl, refl, refl, refl, refl)

abbrev script_save_leaks_mended_lengths : Script
script_save_leaks_mended_lengths = script [] ((procedure 2 [] (body ((OfPointer None) ∷ (OfPointer None) ∷ (OfPointer None) ∷ []) ((on 6
    (Statement-F.Alloc (Held (H.Local 0)) (Constant (pos 16)) Leaves)) ∷ (on 7 (Statement-F.Push (Held (H.Local 0)))) ∷ (on 8
    (Statement-F.Alloc (Held (H.Local 1)) (Constant (pos 600)) Leaves)) ∷ (on 9 (Statement-F.Free (Held (H.Local 1)))) ∷ (on 10
    (Statement-F.Alloc (Held (H.Local 2)) (Constant (pos 500)) GivesNull)) ∷ (on 11 (Statement-F.If (IsNull (Held (H.Local 2))) ((on 12
    (Statement-F.Alloc (Held (H.Local 2)) (Constant (pos 250)) GivesNull)) ∷ []))) ∷ (on 14 (Statement-F.If (IsNull (Held (H.Local 2))) ((on
    15 (Statement-F.Alloc (Held (H.Local 2)) (Constant (pos 120)) Leaves)) ∷ []))) ∷ (on 17 (Statement-F.Free (Held (H.Local 2)))) ∷ (on 18
    (Statement-F.PopDestroy (Constant (pos 1)))) ∷ []))) ∷ []) [] [] 0

save_leaks_mended_lengths : (end_in script_save_leaks_mended_lengths 10000 (shaped 4096 4096) 0 ≡ E.NoCleanup) × (end_in
    script_save_leaks_mended_lengths 10000 (shaped 4096 4096) 143 ≡ E.NoCleanup) × (end_in script_save_leaks_mended_lengths 10000 (shaped
    4096 4096) 144 ≡ E.Left (negsuc 3)) × (end_in script_save_leaks_mended_lengths 10000 (shaped 4096 4096) 799 ≡ E.Left (negsuc 3)) ×
    (end_in script_save_leaks_mended_lengths 10000 (shaped 4096 4096) 800 ≡ E.Plain) × (end_in script_save_leaks_mended_lengths 10000
    (shaped 4096 4096) 16777216 ≡ E.Plain)
unfolding everything
save_leaks_mended_lengths = (refl, refl, refl, refl, refl, refl)

abbrev script_save_leaks_pairs_sweep : Script
script_save_leaks_pairs_sweep = script [] ((procedure 5 [] (body ((OfPointer None) ∷ (OfPointer None) ∷ (OfPointer None) ∷ []) ((on 9
    (Statement-F.Alloc (Held (H.Local 0)) (Constant (pos 16)) Leaves)) ∷ (on 10 (Statement-F.Push (Held (H.Local 0)))) ∷ (on 11
    (Statement-F.Alloc (Held (H.Local 1)) (Constant (pos 600)) Leaves)) ∷ (on 12 (Statement-F.Free (Held (H.Local 1)))) ∷ (on 14
    (Statement-F.Pop (Constant (pos 1)))) ∷ (on 15 (Statement-F.Alloc (Held (H.Local 2)) (Constant (pos 500)) GivesNull)) ∷ (on 16
    (Statement-F.If (IsNull (Held (H.Local 2))) ((on 17 (Statement-F.Alloc (Held (H.Local 2)) (Constant (pos 250)) GivesNull)) ∷ []))) ∷ (on
    19 (Statement-F.If (IsNull (Held (H.Local 2))) ((on 20 (Statement-F.Alloc (Held (H.Local 2)) (Constant (pos 120)) Leaves)) ∷ []))) ∷ (on
    22 (Statement-F.Free (Held (H.Local 2)))) ∷ (on 23 (Statement-F.Free (Held (H.Local 0)))) ∷ []))) ∷ []) [] [] 0

save_leaks_pairs_sweep : (length (runs_of Pairs script_save_leaks_pairs_sweep 10000 (shaped 4096 4096) 0).trace ≡ 4) × (least_bad_or_cut
    Pairs script_save_leaks_pairs_sweep 10000 (shaped 4096 4096) ≡ None) × (least_bad_or_cut_pair script_save_leaks_pairs_sweep 10000
    (shaped 4096 4096) ≡ None)
unfolding everything
save_leaks_pairs_sweep = (refl, refl, refl)

abbrev script_second_phase_leaks_check : Script
script_second_phase_leaks_check = script ((class_of 3 4 (None ∷ []) (Some (body [] ((on 6 (Statement-F.NewText (Field H.This 0 0) (Constant
    (pos 16)) Leaves)) ∷ (on 7 (Statement-F.Copy (InCell (Field H.This 0 0)) (Quoted 0))) ∷ []))) (Some (body [] ((on 10 (Statement-F.Free
    (Field H.This 0 0))) ∷ [])))) ∷ []) ((procedure 14 [] (body ((OfPointer (Some 0)) ∷ []) ((on 16 (Statement-F.New (Held (H.Local 0)) 0
    Leaves)) ∷ (on 18 (Statement-F.Construct (Held (H.Local 0)))) ∷ (on 19 (Statement-F.PrintText (Of (InCell (Field (H.Local 0) 0 0))))) ∷
    (on 20 (Statement-F.Delete (Held (H.Local 0)))) ∷ []))) ∷ []) [] ((109 ∷ 105 ∷ 108 ∷ 107 ∷ []) ∷ []) 0

second_phase_leaks_check : (required script_second_phase_leaks_check 10000 (shaped 4096 4096) ≡ 256) × (rises
    script_second_phase_leaks_check 10000 (shaped 4096 4096) ≡ (rise 1 144) ∷ (rise 2 192) ∷ (rise 3 256) ∷ []) × (length (runs_of Single
    script_second_phase_leaks_check 10000 (shaped 4096 4096) 0).trace ≡ 3) × (least_bad_or_cut Single script_second_phase_leaks_check 10000
    (shaped 4096 4096) ≡ Some 3) × (runs_of Single script_second_phase_leaks_check 10000 (shaped 4096 4096) 3 ≡ result (Ended (Some (negsuc
    3)) ((leak 2 48 144) ∷ [])) ((line 1 144 0 Granted) ∷ (line 2 48 144 Granted) ∷ (line 3 64 192 Simulated) ∷ []) [] [] 3)
unfolding everything
second_phase_leaks_check = (refl, refl, refl, refl, refl)

abbrev script_second_phase_leaks_mended_check : Script
script_second_phase_leaks_mended_check = script ((class_of 2 4 (None ∷ []) (Some (body [] ((on 5 (Statement-F.NewText (Field H.This 0 0)
    (Constant (pos 16)) Leaves)) ∷ (on 6 (Statement-F.Copy (InCell (Field H.This 0 0)) (Quoted 0))) ∷ []))) (Some (body [] ((on 9
    (Statement-F.Free (Field H.This 0 0))) ∷ [])))) ∷ []) ((procedure 13 [] (body ((OfPointer (Some 0)) ∷ []) ((on 15 (Statement-F.New (Held
    (H.Local 0)) 0 Leaves)) ∷ (on 16 (Statement-F.PushObject (Held (H.Local 0)))) ∷ (on 17 (Statement-F.Construct (Held (H.Local 0)))) ∷ (on
    18 (Statement-F.ReturnPointer (Held (H.Local 0)))) ∷ []))) ∷ (procedure 21 [] (body ((OfPointer (Some 0)) ∷ []) ((on 23
    (Statement-F.CallTo 0 0 [])) ∷ (on 24 (Statement-F.PrintText (Of (InCell (Field (H.Local 0) 0 0))))) ∷ (on 25 (Statement-F.PopDestroy
    (Constant (pos 1)))) ∷ []))) ∷ []) [] ((109 ∷ 105 ∷ 108 ∷ 107 ∷ []) ∷ []) 1

second_phase_leaks_mended_check : (required script_second_phase_leaks_mended_check 10000 (shaped 4096 4096) ≡ 256) × (rises
    script_second_phase_leaks_mended_check 10000 (shaped 4096 4096) ≡ (rise 1 144) ∷ (rise 2 192) ∷ (rise 3 256) ∷ []) × (length (runs_of
    Single script_second_phase_leaks_mended_check 10000 (shaped 4096 4096) 0).trace ≡ 3) × (least_bad_or_cut Single
    script_second_phase_leaks_mended_check 10000 (shaped 4096 4096) ≡ None)
unfolding everything
second_phase_leaks_mended_check = (refl, refl, refl, refl)

abbrev script_swallowed_leave_check : Script
script_swallowed_leave_check = script [] ((procedure 2 [] (body ((OfPointer None) ∷ OfNumber ∷ []) ((on 5 (Statement-F.Trap 1 ((on 6
    (Statement-F.NewText (Held (H.Local 0)) (Constant (pos 8)) Leaves)) ∷ []))) ∷ (on 9 (Statement-F.Append (InCell (Held (H.Local 0)))
    (Quoted 0))) ∷ (on 10 (Statement-F.PrintText (Of (InCell (Held (H.Local 0)))))) ∷ (on 11 (Statement-F.Free (Held (H.Local 0)))) ∷ [])))
    ∷ []) [] ((103 ∷ 117 ∷ 101 ∷ 115 ∷ 116 ∷ []) ∷ []) 0

swallowed_leave_check : (required script_swallowed_leave_check 10000 (shaped 4096 4096) ≡ 192) × (rises script_swallowed_leave_check 10000
    (shaped 4096 4096) ≡ (rise 1 144) ∷ (rise 2 192) ∷ []) × (length (runs_of Single script_swallowed_leave_check 10000 (shaped 4096 4096)
    0).trace ≡ 2) × (least_bad_or_cut Single script_swallowed_leave_check 10000 (shaped 4096 4096) ≡ Some 2) × (runs_of Single
    script_swallowed_leave_check 10000 (shaped 4096 4096) 2 ≡ result (Panicked (P.Workbench 1)) ((line 1 144 0 Granted) ∷ (line 2 48 144
    Simulated) ∷ []) [] [] 3)
unfolding everything
swallowed_leave_check = (refl, refl, refl, refl, refl)

abbrev script_swallowed_leave_mended_check : Script
script_swallowed_leave_mended_check = script [] ((procedure 2 [] (body ((OfPointer None) ∷ OfNumber ∷ []) ((on 5 (Statement-F.Trap 1 ((on 6
    (Statement-F.NewText (Held (H.Local 0)) (Constant (pos 8)) Leaves)) ∷ []))) ∷ (on 8 (Statement-F.IfElse (Equal (Variable 1) (Constant
    (pos 0))) ((on 9 (Statement-F.Append (InCell (Held (H.Local 0))) (Quoted 0))) ∷ (on 10 (Statement-F.PrintText (Of (InCell (Held (H.Local
    0)))))) ∷ (on 11 (Statement-F.Free (Held (H.Local 0)))) ∷ []) ((on 13 (Statement-F.PrintText (Quoted 1))) ∷ []))) ∷ []))) ∷ []) [] ((103
    ∷ 117 ∷ 101 ∷ 115 ∷ 116 ∷ []) ∷ (110 ∷ 111 ∷ 32 ∷ 114 ∷ 111 ∷ 111 ∷ 109 ∷ 32 ∷ 102 ∷ 111 ∷ 114 ∷ 32 ∷ 97 ∷ 32 ∷ 110 ∷ 97 ∷ 109 ∷ 101 ∷
    []) ∷ []) 0

swallowed_leave_mended_check : (required script_swallowed_leave_mended_check 10000 (shaped 4096 4096) ≡ 192) × (rises
    script_swallowed_leave_mended_check 10000 (shaped 4096 4096) ≡ (rise 1 144) ∷ (rise 2 192) ∷ []) × (length (runs_of Single
    script_swallowed_leave_mended_check 10000 (shaped 4096 4096) 0).trace ≡ 2) × (least_bad_or_cut Single
    script_swallowed_leave_mended_check 10000 (shaped 4096 4096) ≡ None)
unfolding everything
swallowed_leave_mended_check = (refl, refl, refl, refl)
