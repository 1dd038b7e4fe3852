-- Worked cases of `raw-heap`, each by computing. Written by tools/cases_to_theorems.py; edit nothing here.
use Rattle.std.specs.Prelude.{◌≡◌, refl, pos, [], ◌∷◌, None}
use Rattle.wb_heap_model.specs.declared.heap.Rule.TheVariants as R
use Rattle.wb_heap_model.specs.declared.heap.Panic.TheVariants as P
use Rattle.wb_tree.specs.declared.script.Holder.TheVariants as H
use Rattle.wb_heap_model.specs.declared.heap.Answer.TheVariants.{Granted, Refused}
use Rattle.wb_heap_model.specs.declared.reported.Note.TheVariants.{Heap, Available, Compress}
use Rattle.wb_meaning.specs.declared.run.Outcome.TheVariants.{Ended, Panicked, NoCleanup}
use Rattle.wb_tree.specs.declared.script.Script.{Script}
use Rattle.wb_tree.specs.declared.script.Local.TheVariants.{OfPointer}
use Rattle.wb_tree.specs.declared.script.Pointer.TheVariants.{Held}
use Rattle.wb_tree.specs.declared.script.Number.TheVariants.{Constant}
use Rattle.wb_tree.specs.declared.script.Readable.TheVariants.{Quoted}
use Rattle.wb_tree.specs.declared.script.Refusal.TheVariants.{GivesNull}
use Rattle.wb_tree.specs.declared.script.Statement.TheOpen.{Statement-F}
use Rattle.wb_meaning.specs.Run.{run}
use Rattle.wb_worked.specs.Shorthands.{everything, on, script, procedure, body, result, leak, shaped, line}

abbrev script_committed_length_notes_run : Script
script_committed_length_notes_run = script [] ((procedure 1 [] (body ((OfPointer None) ∷ []) ((on 3 (Statement-F.Alloc (Held (H.Local 0))
    (Constant (pos 200)) GivesNull)) ∷ (on 4 Statement-F.NoteAvailable) ∷ (on 5 Statement-F.NoteHeap) ∷ (on 6 (Statement-F.Free (Held
    (H.Local 0)))) ∷ (on 7 Statement-F.NoteAvailable) ∷ (on 8 Statement-F.NoteCompress) ∷ (on 9 Statement-F.NoteHeap) ∷ []))) ∷ []) [] [] 0

committed_length_notes_run : run script_committed_length_notes_run R.Unlimited 10000 (shaped 256 64) ≡ result (Ended None []) ((line 1 144 0
    Granted) ∷ (line 2 224 144 Granted) ∷ []) [] ((Available 16 16) ∷ (Heap 2 368 384) ∷ (Available 240 240) ∷ (Compress 128) ∷ (Heap 1 144
    256) ∷ []) 7
unfolding everything
committed_length_notes_run = refl

abbrev script_compress_never_grows_run : Script
script_compress_never_grows_run = script [] ((procedure 1 [] (body ((OfPointer None) ∷ []) ((on 3 (Statement-F.Alloc (Held (H.Local 0))
    (Constant (pos 3900)) GivesNull)) ∷ (on 4 Statement-F.NoteCompress) ∷ (on 5 Statement-F.NoteHeap) ∷ (on 6 (Statement-F.Free (Held
    (H.Local 0)))) ∷ []))) ∷ []) [] [] 0

compress_never_grows_run : run script_compress_never_grows_run R.Unlimited 10000 (shaped 4096 4112) ≡ result (Ended None []) ((line 1 144 0
    Granted) ∷ (line 2 3920 144 Granted) ∷ []) [] ((Compress 0) ∷ (Heap 2 4064 4096) ∷ []) 4
unfolding everything
compress_never_grows_run = refl

abbrev script_forged_header_in_a_payload_run : Script
script_forged_header_in_a_payload_run = script [] ((procedure 1 [] (body ((OfPointer None) ∷ (OfPointer None) ∷ (OfPointer None) ∷ []) ((on
    5 (Statement-F.Alloc (Held (H.Local 0)) (Constant (pos 16)) GivesNull)) ∷ (on 6 (Statement-F.Alloc (Held (H.Local 1)) (Constant (pos
    16)) GivesNull)) ∷ (on 7 (Statement-F.Free (Held (H.Local 0)))) ∷ (on 8 (Statement-F.Free (Held (H.Local 1)))) ∷ (on 9
    (Statement-F.Alloc (Held (H.Local 2)) (Constant (pos 64)) GivesNull)) ∷ (on 10 (Statement-F.Store (Held (H.Local 2)) (Constant (pos 4))
    (Constant (pos 32)))) ∷ (on 11 (Statement-F.Store (Held (H.Local 2)) (Constant (pos 5)) (Constant (pos 1)))) ∷ (on 12 (Statement-F.Store
    (Held (H.Local 2)) (Constant (pos 6)) (Constant (pos 0)))) ∷ (on 13 (Statement-F.Store (Held (H.Local 2)) (Constant (pos 7)) (Constant
    (pos 3)))) ∷ (on 14 (Statement-F.Free (Held (H.Local 1)))) ∷ []))) ∷ []) [] [] 0

forged_header_in_a_payload_run : run script_forged_header_in_a_payload_run R.Unlimited 10000 (shaped 4096 4096) ≡ result (Panicked (P.User
    42)) ((line 1 144 0 Granted) ∷ (line 2 32 144 Granted) ∷ (line 3 32 176 Granted) ∷ (line 4 80 144 Granted) ∷ []) [] [] 10
unfolding everything
forged_header_in_a_payload_run = refl

abbrev script_limit_not_a_multiple_of_sixteen_run : Script
script_limit_not_a_multiple_of_sixteen_run = script [] ((procedure 1 [] (body ((OfPointer None) ∷ []) ((on 3 (Statement-F.Alloc (Held
    (H.Local 0)) (Constant (pos 9)) GivesNull)) ∷ (on 4 Statement-F.NoteAvailable) ∷ (on 5 Statement-F.NoteHeap) ∷ (on 6
    Statement-F.NoteCompress) ∷ (on 7 (Statement-F.Alloc (Held (H.Local 0)) (Constant (pos 1)) GivesNull)) ∷ []))) ∷ []) [] [] 0

limit_not_a_multiple_of_sixteen_run : run script_limit_not_a_multiple_of_sixteen_run (R.Limit 190) 10000 (shaped 176 16) ≡ result (Ended
    None ((leak 2 32 144) ∷ [])) ((line 1 144 0 Granted) ∷ (line 2 32 144 Granted) ∷ (line 3 32 176 Refused) ∷ []) [] ((Available 0 0) ∷
    (Heap 2 176 176) ∷ (Compress 0) ∷ []) 5
unfolding everything
limit_not_a_multiple_of_sixteen_run = refl

abbrev script_limit_one_byte_below_the_cleanup_cell_run : Script
script_limit_one_byte_below_the_cleanup_cell_run = script [] ((procedure 1 [] (body [] [])) ∷ []) [] [] 0

limit_one_byte_below_the_cleanup_cell_run : run script_limit_one_byte_below_the_cleanup_cell_run (R.Limit 143) 10000 (shaped 4096 4096) ≡
    result NoCleanup ((line 1 144 0 Refused) ∷ []) [] [] 0
unfolding everything
limit_one_byte_below_the_cleanup_cell_run = refl

abbrev script_limit_refuses_every_cell_run : Script
script_limit_refuses_every_cell_run = script [] ((procedure 2 [] (body ((OfPointer None) ∷ (OfPointer None) ∷ (OfPointer None) ∷ []) ((on 6
    (Statement-F.Alloc (Held (H.Local 0)) (Constant (pos 10)) GivesNull)) ∷ (on 7 (Statement-F.Alloc (Held (H.Local 1)) (Constant (pos 100))
    GivesNull)) ∷ (on 8 (Statement-F.Free (Held (H.Local 0)))) ∷ (on 9 (Statement-F.Alloc (Held (H.Local 2)) (Constant (pos 16)) GivesNull))
    ∷ (on 10 (Statement-F.Free (Held (H.Local 1)))) ∷ (on 11 (Statement-F.Free (Held (H.Local 2)))) ∷ []))) ∷ []) [] [] 0

limit_refuses_every_cell_run : run script_limit_refuses_every_cell_run (R.Limit 160) 10000 (shaped 4096 4096) ≡ result (Ended None [])
    ((line 1 144 0 Granted) ∷ (line 2 32 144 Refused) ∷ (line 3 128 144 Refused) ∷ (line 4 32 144 Refused) ∷ []) [] [] 6
unfolding everything
limit_refuses_every_cell_run = refl

abbrev script_limit_refuses_one_cell_run : Script
script_limit_refuses_one_cell_run = script [] ((procedure 1 [] (body ((OfPointer None) ∷ (OfPointer None) ∷ (OfPointer None) ∷ []) ((on 5
    (Statement-F.Alloc (Held (H.Local 0)) (Constant (pos 10)) GivesNull)) ∷ (on 6 (Statement-F.Alloc (Held (H.Local 1)) (Constant (pos 100))
    GivesNull)) ∷ (on 7 (Statement-F.Free (Held (H.Local 0)))) ∷ (on 8 (Statement-F.Alloc (Held (H.Local 2)) (Constant (pos 16)) GivesNull))
    ∷ (on 9 (Statement-F.Free (Held (H.Local 1)))) ∷ (on 10 (Statement-F.Free (Held (H.Local 2)))) ∷ []))) ∷ []) [] [] 0

limit_refuses_one_cell_run : run script_limit_refuses_one_cell_run (R.Limit 303) 10000 (shaped 4096 4096) ≡ result (Ended None []) ((line 1
    144 0 Granted) ∷ (line 2 32 144 Granted) ∷ (line 3 128 176 Refused) ∷ (line 4 32 144 Granted) ∷ []) [] [] 6
unfolding everything
limit_refuses_one_cell_run = refl

abbrev script_limit_zero_run : Script
script_limit_zero_run = script [] ((procedure 1 [] (body ((OfPointer None) ∷ (OfPointer None) ∷ (OfPointer None) ∷ []) ((on 5
    (Statement-F.Alloc (Held (H.Local 0)) (Constant (pos 10)) GivesNull)) ∷ (on 6 (Statement-F.Alloc (Held (H.Local 1)) (Constant (pos 100))
    GivesNull)) ∷ (on 7 (Statement-F.Free (Held (H.Local 0)))) ∷ (on 8 (Statement-F.Alloc (Held (H.Local 2)) (Constant (pos 16)) GivesNull))
    ∷ (on 9 (Statement-F.Free (Held (H.Local 1)))) ∷ (on 10 (Statement-F.Free (Held (H.Local 2)))) ∷ []))) ∷ []) [] [] 0

limit_zero_run : run script_limit_zero_run (R.Limit 0) 10000 (shaped 4096 4096) ≡ result NoCleanup ((line 1 144 0 Refused) ∷ []) [] [] 0
unfolding everything
limit_zero_run = refl

abbrev script_prints_come_before_notes_run : Script
script_prints_come_before_notes_run = script [] ((procedure 1 [] (body ((OfPointer None) ∷ []) ((on 3 (Statement-F.Alloc (Held (H.Local 0))
    (Constant (pos 20)) GivesNull)) ∷ (on 4 Statement-F.NoteHeap) ∷ (on 5 (Statement-F.PrintText (Quoted 0))) ∷ (on 6 (Statement-F.Free
    (Held (H.Local 0)))) ∷ (on 7 Statement-F.NoteAvailable) ∷ (on 8 (Statement-F.PrintText (Quoted 1))) ∷ (on 9 Statement-F.NoteCompress) ∷
    (on 10 (Statement-F.PrintText (Quoted 2))) ∷ []))) ∷ []) [] ((111 ∷ 110 ∷ 101 ∷ 32 ∷ 99 ∷ 101 ∷ 108 ∷ 108 ∷ 32 ∷ 105 ∷ 115 ∷ 32 ∷ 108 ∷
    105 ∷ 118 ∷ 101 ∷ []) ∷ (105 ∷ 116 ∷ 32 ∷ 119 ∷ 97 ∷ 115 ∷ 32 ∷ 102 ∷ 114 ∷ 101 ∷ 101 ∷ 100 ∷ []) ∷ (97 ∷ 110 ∷ 100 ∷ 32 ∷ 105 ∷ 116 ∷
    115 ∷ 32 ∷ 109 ∷ 101 ∷ 109 ∷ 111 ∷ 114 ∷ 121 ∷ 32 ∷ 103 ∷ 105 ∷ 118 ∷ 101 ∷ 110 ∷ 32 ∷ 117 ∷ 112 ∷ []) ∷ []) 0

prints_come_before_notes_run : run script_prints_come_before_notes_run R.Unlimited 10000 (shaped 256 64) ≡ result (Ended None []) ((line 1
    144 0 Granted) ∷ (line 2 48 144 Granted) ∷ []) ((111 ∷ 110 ∷ 101 ∷ 32 ∷ 99 ∷ 101 ∷ 108 ∷ 108 ∷ 32 ∷ 105 ∷ 115 ∷ 32 ∷ 108 ∷ 105 ∷ 118 ∷
    101 ∷ []) ∷ (105 ∷ 116 ∷ 32 ∷ 119 ∷ 97 ∷ 115 ∷ 32 ∷ 102 ∷ 114 ∷ 101 ∷ 101 ∷ 100 ∷ []) ∷ (97 ∷ 110 ∷ 100 ∷ 32 ∷ 105 ∷ 116 ∷ 115 ∷ 32 ∷
    109 ∷ 101 ∷ 109 ∷ 111 ∷ 114 ∷ 121 ∷ 32 ∷ 103 ∷ 105 ∷ 118 ∷ 101 ∷ 110 ∷ 32 ∷ 117 ∷ 112 ∷ []) ∷ []) ((Heap 2 192 256) ∷ (Available 112
    112) ∷ (Compress 0) ∷ []) 8
unfolding everything
prints_come_before_notes_run = refl
