-- Worked cases of `texts`, each by computing. Written by tools/cases_to_theorems.py; edit nothing here.
use Rattle.std.specs.Prelude.{◌≡◌, refl, pos, negsuc, [], ◌∷◌, None}
use Rattle.wb_heap_model.specs.declared.heap.Rule.TheVariants as R
use Rattle.wb_heap_model.specs.declared.heap.Panic.TheVariants as P
use Rattle.wb_tree.specs.declared.script.Holder.TheVariants as H
use Rattle.wb_heap_model.specs.declared.heap.Answer.TheVariants.{Granted}
use Rattle.wb_meaning.specs.declared.run.Outcome.TheVariants.{Ended, Panicked}
use Rattle.wb_tree.specs.declared.script.Script.{Script}
use Rattle.wb_tree.specs.declared.script.Local.TheVariants.{OfPointer, OfNumber, OfBuffer, OfView}
use Rattle.wb_tree.specs.declared.script.Pointer.TheVariants.{Held}
use Rattle.wb_tree.specs.declared.script.Number.TheVariants.{Constant, Variable}
use Rattle.wb_tree.specs.declared.script.Writable.TheVariants.{OwnBuffer, InCell}
use Rattle.wb_tree.specs.declared.script.Readable.TheVariants.{Of, ViewOf, Quoted}
use Rattle.wb_tree.specs.declared.script.Refusal.TheVariants.{GivesNull}
use Rattle.wb_tree.specs.declared.script.Statement.TheOpen.{Statement-F}
use Rattle.wb_meaning.specs.Run.{run}
use Rattle.wb_worked.specs.Shorthands.{everything, on, script, procedure, body, result, shaped, line}

abbrev script_view_follows_its_text_run : Script
script_view_follows_its_text_run = script [] ((procedure 1 [] (body ((OfBuffer 8) ∷ OfView ∷ OfNumber ∷ []) ((on 5 (Statement-F.Copy
    (OwnBuffer 0) (Quoted 0))) ∷ (on 6 (Statement-F.Mid 1 (Of (OwnBuffer 0)) (Constant (pos 2)) (Constant (pos 3)))) ∷ (on 7
    (Statement-F.Copy (OwnBuffer 0) (Quoted 1))) ∷ (on 8 (Statement-F.PrintText (ViewOf 1))) ∷ (on 9 (Statement-F.GetLength 2 (ViewOf 1))) ∷
    (on 10 (Statement-F.PrintNumber (Variable 2))) ∷ []))) ∷ []) [] ((97 ∷ 98 ∷ 99 ∷ 100 ∷ 101 ∷ 102 ∷ []) ∷ (120 ∷ 121 ∷ 122 ∷ 119 ∷ []) ∷
    []) 0

view_follows_its_text_run : run script_view_follows_its_text_run R.Unlimited 10000 (shaped 4096 4096) ≡ result (Ended None []) ((line 1 144
    0 Granted) ∷ []) ((122 ∷ 119 ∷ 46 ∷ []) ∷ (51 ∷ []) ∷ []) [] 6
unfolding everything
view_follows_its_text_run = refl

abbrev script_view_of_a_cell_of_words_run : Script
script_view_of_a_cell_of_words_run = script [] ((procedure 2 [] (body ((OfPointer None) ∷ OfView ∷ []) ((on 5 (Statement-F.Alloc (Held
    (H.Local 0)) (Constant (pos 16)) GivesNull)) ∷ (on 6 (Statement-F.Mid 1 (Of (InCell (Held (H.Local 0)))) (Constant (negsuc 0)) (Constant
    (negsuc 0)))) ∷ []))) ∷ []) [] [] 0

view_of_a_cell_of_words_run : run script_view_of_a_cell_of_words_run R.Unlimited 10000 (shaped 4096 4096) ≡ result (Panicked (P.Workbench
    2)) ((line 1 144 0 Granted) ∷ (line 2 32 144 Granted) ∷ []) [] [] 2
unfolding everything
view_of_a_cell_of_words_run = refl

abbrev script_view_of_a_moved_text_run : Script
script_view_of_a_moved_text_run = script [] ((procedure 1 [] (body ((OfPointer None) ∷ (OfPointer None) ∷ OfView ∷ []) ((on 5
    (Statement-F.NewText (Held (H.Local 0)) (Constant (pos 4)) GivesNull)) ∷ (on 6 (Statement-F.Alloc (Held (H.Local 1)) (Constant (pos 1))
    GivesNull)) ∷ (on 7 (Statement-F.Append (InCell (Held (H.Local 0))) (Quoted 0))) ∷ (on 8 (Statement-F.Left 2 (Of (InCell (Held (H.Local
    0)))) (Constant (pos 2)))) ∷ (on 9 (Statement-F.ReallocText (Held (H.Local 0)) (Held (H.Local 0)) (Constant (pos 20)))) ∷ (on 10
    (Statement-F.PrintText (Of (InCell (Held (H.Local 0)))))) ∷ (on 11 (Statement-F.PrintText (ViewOf 2))) ∷ []))) ∷ []) [] ((97 ∷ 98 ∷ 99 ∷
    []) ∷ []) 0

view_of_a_moved_text_run : run script_view_of_a_moved_text_run R.Unlimited 10000 (shaped 4096 4096) ≡ result (Panicked (P.Workbench 1))
    ((line 1 144 0 Granted) ∷ (line 2 32 144 Granted) ∷ (line 3 32 176 Granted) ∷ (line 4 64 208 Granted) ∷ []) ((97 ∷ 98 ∷ 99 ∷ []) ∷ [])
    [] 7
unfolding everything
view_of_a_moved_text_run = refl

abbrev script_view_of_a_text_grown_in_place_run : Script
script_view_of_a_text_grown_in_place_run = script [] ((procedure 1 [] (body ((OfPointer None) ∷ OfView ∷ []) ((on 4 (Statement-F.NewText
    (Held (H.Local 0)) (Constant (pos 4)) GivesNull)) ∷ (on 5 (Statement-F.Append (InCell (Held (H.Local 0))) (Quoted 0))) ∷ (on 6
    (Statement-F.Left 1 (Of (InCell (Held (H.Local 0)))) (Constant (pos 2)))) ∷ (on 7 (Statement-F.ReallocText (Held (H.Local 0)) (Held
    (H.Local 0)) (Constant (pos 20)))) ∷ (on 8 (Statement-F.Append (InCell (Held (H.Local 0))) (Quoted 1))) ∷ (on 9 (Statement-F.PrintText
    (ViewOf 1))) ∷ (on 10 (Statement-F.PrintText (Of (InCell (Held (H.Local 0)))))) ∷ (on 11 (Statement-F.Free (Held (H.Local 0)))) ∷ [])))
    ∷ []) [] ((97 ∷ 98 ∷ 99 ∷ []) ∷ (100 ∷ 101 ∷ 102 ∷ 103 ∷ 104 ∷ 105 ∷ 106 ∷ 107 ∷ 108 ∷ []) ∷ []) 0

view_of_a_text_grown_in_place_run : run script_view_of_a_text_grown_in_place_run R.Unlimited 10000 (shaped 4096 4096) ≡ result (Ended None
    []) ((line 1 144 0 Granted) ∷ (line 2 32 144 Granted) ∷ (line 3 64 144 Granted) ∷ []) ((97 ∷ 98 ∷ []) ∷ (97 ∷ 98 ∷ 99 ∷ 100 ∷ 101 ∷ 102
    ∷ 103 ∷ 104 ∷ 105 ∷ 106 ∷ 107 ∷ 108 ∷ []) ∷ []) [] 8
unfolding everything
view_of_a_text_grown_in_place_run = refl

abbrev script_view_of_null_run : Script
script_view_of_null_run = script [] ((procedure 2 [] (body ((OfPointer None) ∷ OfView ∷ []) ((on 5 (Statement-F.Left 1 (Of (InCell (Held
    (H.Local 0)))) (Constant (pos 0)))) ∷ []))) ∷ []) [] [] 0

view_of_null_run : run script_view_of_null_run R.Unlimited 10000 (shaped 4096 4096) ≡ result (Panicked (P.Workbench 1)) ((line 1 144 0
    Granted) ∷ []) [] [] 1
unfolding everything
view_of_null_run = refl

abbrev script_views_of_a_view_follow_the_text_run : Script
script_views_of_a_view_follow_the_text_run = script [] ((procedure 2 [] (body ((OfBuffer 8) ∷ OfView ∷ OfView ∷ OfNumber ∷ []) ((on 7
    (Statement-F.Copy (OwnBuffer 0) (Quoted 0))) ∷ (on 8 (Statement-F.Left 1 (Of (OwnBuffer 0)) (Constant (pos 3)))) ∷ (on 9
    (Statement-F.Right 2 (ViewOf 1) (Constant (pos 2)))) ∷ (on 10 (Statement-F.PrintText (ViewOf 1))) ∷ (on 11 (Statement-F.PrintText
    (ViewOf 2))) ∷ (on 12 (Statement-F.Mid 1 (Of (OwnBuffer 0)) (Constant (pos 1)) (Constant (pos 3)))) ∷ (on 13 (Statement-F.PrintText
    (ViewOf 1))) ∷ (on 14 (Statement-F.Copy (OwnBuffer 0) (Quoted 1))) ∷ (on 15 (Statement-F.PrintText (ViewOf 1))) ∷ (on 16
    (Statement-F.PrintText (ViewOf 2))) ∷ (on 17 (Statement-F.GetLength 3 (ViewOf 1))) ∷ (on 18 (Statement-F.PrintNumber (Variable 3))) ∷
    (on 19 (Statement-F.Append (OwnBuffer 0) (ViewOf 1))) ∷ (on 20 (Statement-F.PrintText (Of (OwnBuffer 0)))) ∷ []))) ∷ []) [] ((99 ∷ 100 ∷
    101 ∷ 102 ∷ []) ∷ (97 ∷ 98 ∷ []) ∷ []) 0

views_of_a_view_follow_the_text_run : run script_views_of_a_view_follow_the_text_run R.Unlimited 10000 (shaped 4096 4096) ≡ result (Ended
    None []) ((line 1 144 0 Granted) ∷ []) ((99 ∷ 100 ∷ 101 ∷ []) ∷ (100 ∷ 101 ∷ []) ∷ (100 ∷ 101 ∷ 102 ∷ []) ∷ (98 ∷ 46 ∷ 46 ∷ []) ∷ (98 ∷
    46 ∷ []) ∷ (51 ∷ []) ∷ (97 ∷ 98 ∷ 98 ∷ 46 ∷ 46 ∷ []) ∷ []) [] 14
unfolding everything
views_of_a_view_follow_the_text_run = refl

abbrev script_views_of_buffers_views_and_literals_run : Script
script_views_of_buffers_views_and_literals_run = script [] ((procedure 1 [] (body ((OfBuffer 8) ∷ OfView ∷ OfNumber ∷ []) ((on 5
    (Statement-F.Copy (OwnBuffer 0) (Quoted 0))) ∷ (on 6 (Statement-F.Left 1 (Of (OwnBuffer 0)) (Constant (pos 2)))) ∷ (on 7
    (Statement-F.PrintText (ViewOf 1))) ∷ (on 8 (Statement-F.Right 1 (Of (OwnBuffer 0)) (Constant (pos 2)))) ∷ (on 9 (Statement-F.PrintText
    (ViewOf 1))) ∷ (on 10 (Statement-F.Mid 1 (Of (OwnBuffer 0)) (Constant (pos 2)) (Constant (pos 3)))) ∷ (on 11 (Statement-F.PrintText
    (ViewOf 1))) ∷ (on 12 (Statement-F.Right 1 (ViewOf 1) (Constant (pos 1)))) ∷ (on 13 (Statement-F.PrintText (ViewOf 1))) ∷ (on 14
    (Statement-F.Mid 1 (Quoted 1) (Constant (pos 3)) (Constant (pos 3)))) ∷ (on 15 (Statement-F.PrintText (ViewOf 1))) ∷ (on 16
    (Statement-F.GetLength 2 (ViewOf 1))) ∷ (on 17 (Statement-F.PrintNumber (Variable 2))) ∷ []))) ∷ []) [] ((97 ∷ 98 ∷ 99 ∷ 100 ∷ 101 ∷ 102
    ∷ []) ∷ (108 ∷ 105 ∷ 116 ∷ 101 ∷ 114 ∷ 97 ∷ 108 ∷ []) ∷ []) 0

views_of_buffers_views_and_literals_run : run script_views_of_buffers_views_and_literals_run R.Unlimited 10000 (shaped 4096 4096) ≡ result
    (Ended None []) ((line 1 144 0 Granted) ∷ []) ((97 ∷ 98 ∷ []) ∷ (101 ∷ 102 ∷ []) ∷ (99 ∷ 100 ∷ 101 ∷ []) ∷ (101 ∷ []) ∷ (101 ∷ 114 ∷ 97
    ∷ []) ∷ (51 ∷ []) ∷ []) [] 13
unfolding everything
views_of_buffers_views_and_literals_run = refl

abbrev script_word_of_a_text_run : Script
script_word_of_a_text_run = script [] ((procedure 1 [] (body ((OfPointer None) ∷ OfNumber ∷ []) ((on 4 (Statement-F.NewText (Held (H.Local
    0)) (Constant (pos 4)) GivesNull)) ∷ (on 5 (Statement-F.Load 1 (Held (H.Local 0)) (Constant (pos 99)))) ∷ []))) ∷ []) [] [] 0

word_of_a_text_run : run script_word_of_a_text_run R.Unlimited 10000 (shaped 4096 4096) ≡ result (Panicked (P.Workbench 2)) ((line 1 144 0
    Granted) ∷ (line 2 32 144 Granted) ∷ []) [] [] 2
unfolding everything
word_of_a_text_run = refl
