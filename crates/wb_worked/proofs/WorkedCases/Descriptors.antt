-- Worked cases of `descriptors`, each by computing. Written by tools/cases_to_theorems.py; edit nothing here.
use Rattle.std.specs.Prelude.{◌≡◌, refl, pos, [], ◌∷◌, None}
use Rattle.wb_heap_model.specs.declared.heap.Rule.TheVariants as R
use Rattle.wb_heap_model.specs.declared.heap.Panic.TheVariants as P
use Rattle.wb_tree.specs.declared.script.Holder.TheVariants as H
use Rattle.wb_heap_model.specs.declared.heap.Answer.TheVariants.{Granted, Simulated}
use Rattle.wb_meaning.specs.declared.run.Outcome.TheVariants.{Ended, Panicked}
use Rattle.wb_tree.specs.declared.script.Script.{Script}
use Rattle.wb_tree.specs.declared.script.Local.TheVariants.{OfPointer, OfNumber, OfBuffer, OfView}
use Rattle.wb_tree.specs.declared.script.Pointer.TheVariants.{Held}
use Rattle.wb_tree.specs.declared.script.Number.TheVariants.{Constant, Variable}
use Rattle.wb_tree.specs.declared.script.Writable.TheVariants.{OwnBuffer, InCell}
use Rattle.wb_tree.specs.declared.script.Readable.TheVariants.{Of, ViewOf, Quoted}
use Rattle.wb_tree.specs.declared.script.Refusal.TheVariants.{GivesNull}
use Rattle.wb_tree.specs.declared.script.Statement.TheOpen.{Statement-F}
use Rattle.wb_meaning.specs.Run.{run}
use Rattle.wb_worked.specs.Shorthands.{everything, on, script, procedure, body, result, shaped, line}

abbrev script_buffer_edits_one_after_another_run : Script
script_buffer_edits_one_after_another_run = script [] ((procedure 1 [] (body ((OfBuffer 8) ∷ OfView ∷ []) ((on 4 (Statement-F.Copy
    (OwnBuffer 0) (Quoted 0))) ∷ (on 5 (Statement-F.Insert (OwnBuffer 0) (Constant (pos 1)) (Quoted 1))) ∷ (on 6 (Statement-F.DeleteText
    (OwnBuffer 0) (Constant (pos 4)) (Constant (pos 99)))) ∷ (on 7 (Statement-F.Right 1 (Of (OwnBuffer 0)) (Constant (pos 2)))) ∷ (on 8
    (Statement-F.Append (OwnBuffer 0) (ViewOf 1))) ∷ (on 9 (Statement-F.SetLength (OwnBuffer 0) (Constant (pos 8)))) ∷ (on 10
    (Statement-F.PrintText (Of (OwnBuffer 0)))) ∷ []))) ∷ []) [] ((97 ∷ 98 ∷ 99 ∷ 100 ∷ []) ∷ (88 ∷ 89 ∷ []) ∷ []) 0

buffer_edits_one_after_another_run : run script_buffer_edits_one_after_another_run R.Unlimited 10000 (shaped 4096 4096) ≡ result (Ended None
    []) ((line 1 144 0 Granted) ∷ []) ((97 ∷ 88 ∷ 89 ∷ 98 ∷ 89 ∷ 98 ∷ 46 ∷ 46 ∷ []) ∷ []) [] 7
unfolding everything
buffer_edits_one_after_another_run = refl

abbrev script_refused_text_growth_keeps_the_text_run : Script
script_refused_text_growth_keeps_the_text_run = script [] ((procedure 1 [] (body ((OfPointer None) ∷ (OfPointer None) ∷ []) ((on 4
    (Statement-F.NewText (Held (H.Local 0)) (Constant (pos 4)) GivesNull)) ∷ (on 5 (Statement-F.Append (InCell (Held (H.Local 0))) (Quoted
    0))) ∷ (on 6 (Statement-F.FailNext (Constant (pos 1)))) ∷ (on 7 (Statement-F.ReallocText (Held (H.Local 1)) (Held (H.Local 0)) (Constant
    (pos 20)))) ∷ (on 8 (Statement-F.PrintText (Of (InCell (Held (H.Local 0)))))) ∷ (on 9 (Statement-F.Free (Held (H.Local 0)))) ∷ []))) ∷
    []) [] ((97 ∷ 98 ∷ 99 ∷ []) ∷ []) 0

refused_text_growth_keeps_the_text_run : run script_refused_text_growth_keeps_the_text_run R.Unlimited 10000 (shaped 4096 4096) ≡ result
    (Ended None []) ((line 1 144 0 Granted) ∷ (line 2 32 144 Granted) ∷ (line 3 64 144 Simulated) ∷ []) ((97 ∷ 98 ∷ 99 ∷ []) ∷ []) [] 6
unfolding everything
refused_text_growth_keeps_the_text_run = refl

abbrev script_text_longer_than_its_maximum_run : Script
script_text_longer_than_its_maximum_run = script [] ((procedure 1 [] (body ((OfPointer None) ∷ OfNumber ∷ OfView ∷ []) ((on 5
    (Statement-F.NewText (Held (H.Local 0)) (Constant (pos 4)) GivesNull)) ∷ (on 6 (Statement-F.GetMaximum 1 (InCell (Held (H.Local 0))))) ∷
    (on 7 (Statement-F.PrintNumber (Variable 1))) ∷ (on 8 (Statement-F.Append (InCell (Held (H.Local 0))) (Quoted 0))) ∷ (on 9
    (Statement-F.Append (InCell (Held (H.Local 0))) (Quoted 1))) ∷ []))) ∷ []) [] ((97 ∷ 98 ∷ 99 ∷ 100 ∷ 101 ∷ 102 ∷ []) ∷ (103 ∷ []) ∷ [])
    0

text_longer_than_its_maximum_run : run script_text_longer_than_its_maximum_run R.Unlimited 10000 (shaped 4096 4096) ≡ result (Panicked
    (P.User 11)) ((line 1 144 0 Granted) ∷ (line 2 32 144 Granted) ∷ []) ((54 ∷ []) ∷ []) [] 5
unfolding everything
text_longer_than_its_maximum_run = refl

abbrev script_text_made_shorter_than_its_length_run : Script
script_text_made_shorter_than_its_length_run = script [] ((procedure 1 [] (body ((OfPointer None) ∷ (OfPointer None) ∷ []) ((on 4
    (Statement-F.NewText (Held (H.Local 0)) (Constant (pos 4)) GivesNull)) ∷ (on 5 (Statement-F.Append (InCell (Held (H.Local 0))) (Quoted
    0))) ∷ (on 6 (Statement-F.ReallocText (Held (H.Local 1)) (Held (H.Local 0)) (Constant (pos 2)))) ∷ []))) ∷ []) [] ((97 ∷ 98 ∷ 99 ∷ []) ∷
    []) 0

text_made_shorter_than_its_length_run : run script_text_made_shorter_than_its_length_run R.Unlimited 10000 (shaped 4096 4096) ≡ result
    (Panicked (P.Workbench 8)) ((line 1 144 0 Granted) ∷ (line 2 32 144 Granted) ∷ []) [] [] 3
unfolding everything
text_made_shorter_than_its_length_run = refl

abbrev script_view_of_a_freed_text_run : Script
script_view_of_a_freed_text_run = script [] ((procedure 1 [] (body ((OfPointer None) ∷ OfView ∷ []) ((on 4 (Statement-F.NewText (Held
    (H.Local 0)) (Constant (pos 4)) GivesNull)) ∷ (on 5 (Statement-F.Mid 1 (Of (InCell (Held (H.Local 0)))) (Constant (pos 0)) (Constant
    (pos 0)))) ∷ (on 6 (Statement-F.Free (Held (H.Local 0)))) ∷ (on 7 (Statement-F.PrintText (ViewOf 1))) ∷ []))) ∷ []) [] [] 0

view_of_a_freed_text_run : run script_view_of_a_freed_text_run R.Unlimited 10000 (shaped 4096 4096) ≡ result (Panicked (P.Workbench 1))
    ((line 1 144 0 Granted) ∷ (line 2 32 144 Granted) ∷ []) [] [] 4
unfolding everything
view_of_a_freed_text_run = refl

abbrev script_view_of_an_empty_view_is_still_the_same_text_run : Script
script_view_of_an_empty_view_is_still_the_same_text_run = script [] ((procedure 1 [] (body (OfView ∷ OfView ∷ (OfBuffer 4) ∷ []) ((on 5
    (Statement-F.Copy (OwnBuffer 2) (Quoted 0))) ∷ (on 6 (Statement-F.Left 0 (Of (OwnBuffer 2)) (Constant (pos 0)))) ∷ (on 7
    (Statement-F.Left 1 (ViewOf 0) (Constant (pos 0)))) ∷ (on 8 (Statement-F.Insert (OwnBuffer 2) (Constant (pos 0)) (ViewOf 1))) ∷ []))) ∷
    []) [] ((97 ∷ 98 ∷ []) ∷ []) 0

view_of_an_empty_view_is_still_the_same_text_run : run script_view_of_an_empty_view_is_still_the_same_text_run R.Unlimited 10000 (shaped
    4096 4096) ≡ result (Panicked (P.Workbench 9)) ((line 1 144 0 Granted) ∷ []) [] [] 4
unfolding everything
view_of_an_empty_view_is_still_the_same_text_run = refl

abbrev script_view_of_nothing_run : Script
script_view_of_nothing_run = script [] ((procedure 1 [] (body (OfView ∷ OfView ∷ (OfBuffer 4) ∷ []) ((on 5 (Statement-F.Left 1 (ViewOf 0)
    (Constant (pos 0)))) ∷ (on 6 (Statement-F.Insert (OwnBuffer 2) (Constant (pos 0)) (ViewOf 1))) ∷ (on 7 (Statement-F.PrintText (Of
    (OwnBuffer 2)))) ∷ (on 8 (Statement-F.Left 1 (ViewOf 0) (Constant (pos 1)))) ∷ []))) ∷ []) [] [] 0

view_of_nothing_run : run script_view_of_nothing_run R.Unlimited 10000 (shaped 4096 4096) ≡ result (Panicked (P.User 10)) ((line 1 144 0
    Granted) ∷ []) ([] ∷ []) [] 4
unfolding everything
view_of_nothing_run = refl

abbrev script_view_position_past_the_text_run : Script
script_view_position_past_the_text_run = script [] ((procedure 1 [] (body ((OfPointer None) ∷ OfNumber ∷ OfView ∷ []) ((on 5
    (Statement-F.NewText (Held (H.Local 0)) (Constant (pos 4)) GivesNull)) ∷ (on 6 (Statement-F.GetMaximum 1 (InCell (Held (H.Local 0))))) ∷
    (on 7 (Statement-F.PrintNumber (Variable 1))) ∷ (on 8 (Statement-F.Append (InCell (Held (H.Local 0))) (Quoted 0))) ∷ (on 9
    (Statement-F.Mid 2 (Of (InCell (Held (H.Local 0)))) (Constant (pos 7)) (Constant (pos 0)))) ∷ []))) ∷ []) [] ((97 ∷ 98 ∷ 99 ∷ 100 ∷ 101
    ∷ 102 ∷ []) ∷ []) 0

view_position_past_the_text_run : run script_view_position_past_the_text_run R.Unlimited 10000 (shaped 4096 4096) ≡ result (Panicked (P.User
    10)) ((line 1 144 0 Granted) ∷ (line 2 32 144 Granted) ∷ []) ((54 ∷ []) ∷ []) [] 5
unfolding everything
view_position_past_the_text_run = refl
