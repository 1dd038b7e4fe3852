-- Worked cases of `classes`, each by computing. Written by tools/cases_to_theorems.py; edit nothing here.
use Rattle.std.specs.Prelude.{◌≡◌, refl, pos, negsuc, [], ◌∷◌, Some, None}
use Rattle.wb_heap_model.specs.declared.heap.Rule.TheVariants as R
use Rattle.wb_heap_model.specs.declared.heap.Panic.TheVariants as P
use Rattle.wb_tree.specs.declared.script.Holder.TheVariants as H
use Rattle.wb_heap_model.specs.declared.heap.Answer.TheVariants.{Granted, Simulated}
use Rattle.wb_meaning.specs.declared.run.Outcome.TheVariants.{Ended, Panicked}
use Rattle.wb_tree.specs.declared.script.Script.{Script}
use Rattle.wb_tree.specs.declared.script.Local.TheVariants.{OfPointer, OfNumber, OfView}
use Rattle.wb_tree.specs.declared.script.Pointer.TheVariants.{Held, Field}
use Rattle.wb_tree.specs.declared.script.Number.TheVariants.{Constant, Variable}
use Rattle.wb_tree.specs.declared.script.Writable.TheVariants.{InCell}
use Rattle.wb_tree.specs.declared.script.Readable.TheVariants.{Of, ViewOf, Quoted}
use Rattle.wb_tree.specs.declared.script.Refusal.TheVariants.{GivesNull, Leaves}
use Rattle.wb_tree.specs.declared.script.Statement.TheOpen.{Statement-F}
use Rattle.wb_meaning.specs.Run.{run}
use Rattle.wb_worked.specs.Shorthands.{everything, on, script, class_of, procedure, body, result, leak, shaped, line}

abbrev script_target_is_refused_before_the_attempt_run : Script
script_target_is_refused_before_the_attempt_run = script ((class_of 1 0 (None ∷ []) None None) ∷ []) ((procedure 4 [] (body ((OfPointer
    (Some 0)) ∷ []) ((on 6 (Statement-F.Alloc (Field (H.Local 0) 0 0) (Constant (pos 4)) GivesNull)) ∷ []))) ∷ []) [] [] 0

target_is_refused_before_the_attempt_run : run script_target_is_refused_before_the_attempt_run R.Unlimited 10000 (shaped 4096 4096) ≡ result
    (Panicked (P.Workbench 1)) ((line 1 144 0 Granted) ∷ []) [] [] 1
unfolding everything
target_is_refused_before_the_attempt_run = refl

abbrev script_text_in_a_field_is_not_put_into_itself_run : Script
script_text_in_a_field_is_not_put_into_itself_run = script ((class_of 1 0 (None ∷ []) None None) ∷ []) ((procedure 4 [] (body ((OfPointer
    (Some 0)) ∷ []) ((on 6 (Statement-F.New (Held (H.Local 0)) 0 Leaves)) ∷ (on 7 (Statement-F.NewText (Field (H.Local 0) 0 0) (Constant
    (pos 4)) Leaves)) ∷ (on 8 (Statement-F.Insert (InCell (Field (H.Local 0) 0 0)) (Constant (pos 9)) (Of (InCell (Field (H.Local 0) 0
    0))))) ∷ []))) ∷ []) [] [] 0

text_in_a_field_is_not_put_into_itself_run : run script_text_in_a_field_is_not_put_into_itself_run R.Unlimited 10000 (shaped 4096 4096) ≡
    result (Panicked (P.Workbench 9)) ((line 1 144 0 Granted) ∷ (line 2 32 144 Granted) ∷ (line 3 32 176 Granted) ∷ []) [] [] 3
unfolding everything
text_in_a_field_is_not_put_into_itself_run = refl

abbrev script_text_of_self_is_no_text_run : Script
script_text_of_self_is_no_text_run = script ((class_of 1 0 [] (Some (body [] ((on 3 (Statement-F.Copy (InCell (Held H.This)) (Quoted 0))) ∷
    []))) None) ∷ []) ((procedure 6 [] (body ((OfPointer (Some 0)) ∷ []) ((on 8 (Statement-F.New (Held (H.Local 0)) 0 Leaves)) ∷ (on 9
    (Statement-F.Construct (Held (H.Local 0)))) ∷ []))) ∷ []) [] ((120 ∷ []) ∷ []) 0

text_of_self_is_no_text_run : run script_text_of_self_is_no_text_run R.Unlimited 10000 (shaped 4096 4096) ≡ result (Panicked (P.Workbench
    2)) ((line 1 144 0 Granted) ∷ (line 2 32 144 Granted) ∷ []) [] [] 3
unfolding everything
text_of_self_is_no_text_run = refl

abbrev script_texts_in_fields_run : Script
script_texts_in_fields_run = script ((class_of 1 0 (None ∷ []) (Some (body [] ((on 4 (Statement-F.NewText (Field H.This 0 0) (Constant (pos
    8)) Leaves)) ∷ (on 5 (Statement-F.Copy (InCell (Field H.This 0 0)) (Quoted 0))) ∷ (on 6 (Statement-F.Append (InCell (Field H.This 0 0))
    (Quoted 1))) ∷ []))) (Some (body [] ((on 9 (Statement-F.Free (Field H.This 0 0))) ∷ [])))) ∷ []) ((procedure 12 [] (body ((OfPointer
    (Some 0)) ∷ OfNumber ∷ OfView ∷ []) ((on 16 (Statement-F.New (Held (H.Local 0)) 0 Leaves)) ∷ (on 17 (Statement-F.Construct (Held
    (H.Local 0)))) ∷ (on 18 (Statement-F.GetLength 1 (Of (InCell (Field (H.Local 0) 0 0))))) ∷ (on 19 (Statement-F.PrintNumber (Variable
    1))) ∷ (on 20 (Statement-F.PrintText (Of (InCell (Field (H.Local 0) 0 0))))) ∷ (on 21 (Statement-F.Mid 2 (Of (InCell (Field (H.Local 0)
    0 0))) (Constant (pos 1)) (Constant (pos 3)))) ∷ (on 22 (Statement-F.PrintText (ViewOf 2))) ∷ (on 23 (Statement-F.Append (InCell (Field
    (H.Local 0) 0 0)) (ViewOf 2))) ∷ (on 24 (Statement-F.PrintText (Of (InCell (Field (H.Local 0) 0 0))))) ∷ (on 25 (Statement-F.Delete
    (Held (H.Local 0)))) ∷ []))) ∷ []) [] ((97 ∷ 98 ∷ 99 ∷ []) ∷ (100 ∷ 101 ∷ []) ∷ []) 0

texts_in_fields_run : run script_texts_in_fields_run R.Unlimited 10000 (shaped 4096 4096) ≡ result (Ended None []) ((line 1 144 0 Granted) ∷
    (line 2 32 144 Granted) ∷ (line 3 48 176 Granted) ∷ []) ((53 ∷ []) ∷ (97 ∷ 98 ∷ 99 ∷ 100 ∷ 101 ∷ []) ∷ (98 ∷ 99 ∷ 100 ∷ []) ∷ (97 ∷ 98 ∷
    99 ∷ 100 ∷ 101 ∷ 98 ∷ 99 ∷ 100 ∷ []) ∷ []) [] 15
unfolding everything
texts_in_fields_run = refl

abbrev script_unpushed_object_leaks_when_construction_fails_run : Script
script_unpushed_object_leaks_when_construction_fails_run = script ((class_of 1 16 (None ∷ []) (Some (body [] ((on 4 (Statement-F.NewText
    (Field H.This 0 0) (Constant (pos 4)) Leaves)) ∷ []))) (Some (body [] ((on 7 (Statement-F.Free (Field H.This 0 0))) ∷ [])))) ∷ [])
    ((procedure 10 [] (body ((OfPointer (Some 0)) ∷ []) ((on 12 (Statement-F.New (Held (H.Local 0)) 0 Leaves)) ∷ (on 13
    (Statement-F.Construct (Held (H.Local 0)))) ∷ (on 14 (Statement-F.Delete (Held (H.Local 0)))) ∷ []))) ∷ []) [] [] 0

unpushed_object_leaks_when_construction_fails_run : run script_unpushed_object_leaks_when_construction_fails_run (R.Number 3) 10000 (shaped
    4096 4096) ≡ result (Ended (Some (negsuc 3)) ((leak 2 48 144) ∷ [])) ((line 1 144 0 Granted) ∷ (line 2 48 144 Granted) ∷ (line 3 32 192
    Simulated) ∷ []) [] [] 3
unfolding everything
unpushed_object_leaks_when_construction_fails_run = refl

abbrev script_words_in_fields_run : Script
script_words_in_fields_run = script ((class_of 1 0 (None ∷ []) None None) ∷ []) ((procedure 4 [] (body ((OfPointer (Some 0)) ∷ OfNumber ∷
    []) ((on 7 (Statement-F.New (Held (H.Local 0)) 0 Leaves)) ∷ (on 8 (Statement-F.Alloc (Field (H.Local 0) 0 0) (Constant (pos 4)) Leaves))
    ∷ (on 9 (Statement-F.Store (Field (H.Local 0) 0 0) (Constant (pos 1)) (Constant (negsuc 5)))) ∷ (on 10 (Statement-F.Load 1 (Field
    (H.Local 0) 0 0) (Constant (pos 1)))) ∷ (on 11 (Statement-F.PrintNumber (Variable 1))) ∷ (on 12 (Statement-F.AllocLen 1 (Field (H.Local
    0) 0 0))) ∷ (on 13 (Statement-F.PrintNumber (Variable 1))) ∷ (on 14 (Statement-F.Realloc (Field (H.Local 0) 0 0) (Field (H.Local 0) 0 0)
    (Constant (pos 40)) Leaves)) ∷ (on 15 (Statement-F.Load 1 (Field (H.Local 0) 0 0) (Constant (pos 1)))) ∷ (on 16 (Statement-F.PrintNumber
    (Variable 1))) ∷ (on 17 (Statement-F.Free (Field (H.Local 0) 0 0))) ∷ (on 18 (Statement-F.Free (Held (H.Local 0)))) ∷ []))) ∷ []) [] []
    0

words_in_fields_run : run script_words_in_fields_run R.Unlimited 10000 (shaped 4096 4096) ≡ result (Ended None []) ((line 1 144 0 Granted) ∷
    (line 2 32 144 Granted) ∷ (line 3 32 176 Granted) ∷ (line 4 64 176 Granted) ∷ []) ((45 ∷ 54 ∷ []) ∷ (49 ∷ 54 ∷ []) ∷ (45 ∷ 54 ∷ []) ∷
    []) [] 12
unfolding everything
words_in_fields_run = refl

abbrev script_words_of_an_object_are_not_read_run : Script
script_words_of_an_object_are_not_read_run = script ((class_of 1 16 [] None None) ∷ []) ((procedure 3 [] (body ((OfPointer (Some 0)) ∷
    OfNumber ∷ []) ((on 6 (Statement-F.New (Held (H.Local 0)) 0 Leaves)) ∷ (on 7 (Statement-F.AllocLen 1 (Held (H.Local 0)))) ∷ (on 8
    (Statement-F.PrintNumber (Variable 1))) ∷ (on 9 (Statement-F.Load 1 (Held (H.Local 0)) (Constant (pos 0)))) ∷ []))) ∷ []) [] [] 0

words_of_an_object_are_not_read_run : run script_words_of_an_object_are_not_read_run R.Unlimited 10000 (shaped 4096 4096) ≡ result (Panicked
    (P.Workbench 2)) ((line 1 144 0 Granted) ∷ (line 2 48 144 Granted) ∷ []) ((51 ∷ 50 ∷ []) ∷ []) [] 4
unfolding everything
words_of_an_object_are_not_read_run = refl
