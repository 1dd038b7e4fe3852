-- Worked cases of `language`, each by computing. Written by tools/cases_to_theorems.py; edit nothing here.
use Rattle.std.specs.Prelude.{◌≡◌, refl, pos, negsuc, [], ◌∷◌, None}
use Rattle.wb_heap_model.specs.declared.heap.Rule.TheVariants as R
use Rattle.wb_heap_model.specs.declared.heap.Panic.TheVariants as P
use Rattle.wb_tree.specs.declared.script.Holder.TheVariants as H
use Rattle.wb_heap_model.specs.declared.heap.Answer.TheVariants.{Granted}
use Rattle.wb_meaning.specs.declared.run.Outcome.TheVariants.{Ended, Panicked}
use Rattle.wb_tree.specs.declared.script.Script.{Script}
use Rattle.wb_tree.specs.declared.script.Local.TheVariants.{OfPointer, OfNumber}
use Rattle.wb_tree.specs.declared.script.Pointer.TheVariants.{Held}
use Rattle.wb_tree.specs.declared.script.Number.TheVariants.{Constant, Variable}
use Rattle.wb_tree.specs.declared.script.Refusal.TheVariants.{GivesNull}
use Rattle.wb_tree.specs.declared.script.Statement.TheOpen.{Statement-F}
use Rattle.wb_meaning.specs.Run.{run}
use Rattle.wb_worked.specs.Shorthands.{everything, on, script, procedure, body, result, shaped, line}

abbrev script_usable_length_is_rounded_up_run : Script
script_usable_length_is_rounded_up_run = script [] ((procedure 1 [] (body ((OfPointer None) ∷ OfNumber ∷ []) ((on 4 (Statement-F.Alloc (Held
    (H.Local 0)) (Constant (pos 1)) GivesNull)) ∷ (on 5 (Statement-F.AllocLen 1 (Held (H.Local 0)))) ∷ (on 6 (Statement-F.PrintNumber
    (Variable 1))) ∷ (on 7 (Statement-F.Realloc (Held (H.Local 0)) (Held (H.Local 0)) (Constant (pos 17)) GivesNull)) ∷ (on 8
    (Statement-F.AllocLen 1 (Held (H.Local 0)))) ∷ (on 9 (Statement-F.PrintNumber (Variable 1))) ∷ (on 10 (Statement-F.Realloc (Held
    (H.Local 0)) (Held (H.Local 0)) (Constant (pos 16)) GivesNull)) ∷ (on 11 (Statement-F.AllocLen 1 (Held (H.Local 0)))) ∷ (on 12
    (Statement-F.PrintNumber (Variable 1))) ∷ (on 13 (Statement-F.Realloc (Held (H.Local 0)) (Held (H.Local 0)) (Constant (pos 0))
    GivesNull)) ∷ (on 14 (Statement-F.AllocLen 1 (Held (H.Local 0)))) ∷ (on 15 (Statement-F.PrintNumber (Variable 1))) ∷ (on 16
    (Statement-F.Free (Held (H.Local 0)))) ∷ []))) ∷ []) [] [] 0

usable_length_is_rounded_up_run : run script_usable_length_is_rounded_up_run R.Unlimited 10000 (shaped 4096 4096) ≡ result (Ended None [])
    ((line 1 144 0 Granted) ∷ (line 2 32 144 Granted) ∷ (line 3 48 144 Granted) ∷ []) ((49 ∷ 54 ∷ []) ∷ (51 ∷ 50 ∷ []) ∷ (49 ∷ 54 ∷ []) ∷
    (48 ∷ []) ∷ []) [] 13
unfolding everything
usable_length_is_rounded_up_run = refl

abbrev script_usable_length_of_a_freed_cell_run : Script
script_usable_length_of_a_freed_cell_run = script [] ((procedure 1 [] (body ((OfPointer None) ∷ OfNumber ∷ []) ((on 4 (Statement-F.Alloc
    (Held (H.Local 0)) (Constant (pos 1)) GivesNull)) ∷ (on 5 (Statement-F.Free (Held (H.Local 0)))) ∷ (on 6 (Statement-F.AllocLen 1 (Held
    (H.Local 0)))) ∷ []))) ∷ []) [] [] 0

usable_length_of_a_freed_cell_run : run script_usable_length_of_a_freed_cell_run R.Unlimited 10000 (shaped 4096 4096) ≡ result (Panicked
    (P.User 42)) ((line 1 144 0 Granted) ∷ (line 2 32 144 Granted) ∷ []) [] [] 3
unfolding everything
usable_length_of_a_freed_cell_run = refl

abbrev script_usable_length_of_null_run : Script
script_usable_length_of_null_run = script [] ((procedure 1 [] (body ((OfPointer None) ∷ OfNumber ∷ []) ((on 4 (Statement-F.AllocLen 1 (Held
    (H.Local 0)))) ∷ []))) ∷ []) [] [] 0

usable_length_of_null_run : run script_usable_length_of_null_run R.Unlimited 10000 (shaped 4096 4096) ≡ result (Panicked (P.User 42)) ((line
    1 144 0 Granted) ∷ []) [] [] 1
unfolding everything
usable_length_of_null_run = refl

abbrev script_word_before_the_first_run : Script
script_word_before_the_first_run = script [] ((procedure 1 [] (body ((OfPointer None) ∷ OfNumber ∷ []) ((on 4 (Statement-F.Alloc (Held
    (H.Local 0)) (Constant (pos 1)) GivesNull)) ∷ (on 5 (Statement-F.SetNumber 1 (Constant (negsuc 0)))) ∷ (on 6 (Statement-F.Store (Held
    (H.Local 0)) (Variable 1) (Constant (pos 1)))) ∷ []))) ∷ []) [] [] 0

word_before_the_first_run : run script_word_before_the_first_run R.Unlimited 10000 (shaped 4096 4096) ≡ result (Panicked (P.Workbench 9))
    ((line 1 144 0 Granted) ∷ (line 2 32 144 Granted) ∷ []) [] [] 3
unfolding everything
word_before_the_first_run = refl

abbrev script_word_behind_the_last_run : Script
script_word_behind_the_last_run = script [] ((procedure 1 [] (body ((OfPointer None) ∷ OfNumber ∷ []) ((on 4 (Statement-F.Alloc (Held
    (H.Local 0)) (Constant (pos 1)) GivesNull)) ∷ (on 5 (Statement-F.Load 1 (Held (H.Local 0)) (Constant (pos 3)))) ∷ (on 6
    (Statement-F.Load 1 (Held (H.Local 0)) (Constant (pos 4)))) ∷ []))) ∷ []) [] [] 0

word_behind_the_last_run : run script_word_behind_the_last_run R.Unlimited 10000 (shaped 4096 4096) ≡ result (Panicked (P.Workbench 9))
    ((line 1 144 0 Granted) ∷ (line 2 32 144 Granted) ∷ []) [] [] 3
unfolding everything
word_behind_the_last_run = refl

abbrev script_word_loaded_before_the_first_run : Script
script_word_loaded_before_the_first_run = script [] ((procedure 2 [] (body ((OfPointer None) ∷ OfNumber ∷ []) ((on 5 (Statement-F.Alloc
    (Held (H.Local 0)) (Constant (pos 16)) GivesNull)) ∷ (on 6 (Statement-F.Load 1 (Held (H.Local 0)) (Constant (negsuc 0)))) ∷ []))) ∷ [])
    [] [] 0

word_loaded_before_the_first_run : run script_word_loaded_before_the_first_run R.Unlimited 10000 (shaped 4096 4096) ≡ result (Panicked
    (P.Workbench 9)) ((line 1 144 0 Granted) ∷ (line 2 32 144 Granted) ∷ []) [] [] 2
unfolding everything
word_loaded_before_the_first_run = refl

abbrev script_word_of_no_cell_run : Script
script_word_of_no_cell_run = script [] ((procedure 1 [] (body ((OfPointer None) ∷ OfNumber ∷ []) ((on 4 (Statement-F.Load 1 (Held (H.Local
    0)) (Constant (negsuc 0)))) ∷ []))) ∷ []) [] [] 0

word_of_no_cell_run : run script_word_of_no_cell_run R.Unlimited 10000 (shaped 4096 4096) ≡ result (Panicked (P.Workbench 1)) ((line 1 144 0
    Granted) ∷ []) [] [] 1
unfolding everything
word_of_no_cell_run = refl

abbrev script_word_stored_behind_the_last_run : Script
script_word_stored_behind_the_last_run = script [] ((procedure 2 [] (body ((OfPointer None) ∷ []) ((on 4 (Statement-F.Alloc (Held (H.Local
    0)) (Constant (pos 16)) GivesNull)) ∷ (on 5 (Statement-F.Store (Held (H.Local 0)) (Constant (pos 3)) (Constant (negsuc 0)))) ∷ (on 6
    (Statement-F.Store (Held (H.Local 0)) (Constant (pos 0)) (Constant (pos 7)))) ∷ (on 7 (Statement-F.Store (Held (H.Local 0)) (Constant
    (pos 4)) (Constant (pos 1)))) ∷ []))) ∷ []) [] [] 0

word_stored_behind_the_last_run : run script_word_stored_behind_the_last_run R.Unlimited 10000 (shaped 4096 4096) ≡ result (Panicked
    (P.Workbench 9)) ((line 1 144 0 Granted) ∷ (line 2 32 144 Granted) ∷ []) [] [] 4
unfolding everything
word_stored_behind_the_last_run = refl

abbrev script_word_stored_by_another_pointer_run : Script
script_word_stored_by_another_pointer_run = script [] ((procedure 2 [] (body ((OfPointer None) ∷ (OfPointer None) ∷ []) ((on 5
    (Statement-F.Alloc (Held (H.Local 0)) (Constant (pos 16)) GivesNull)) ∷ (on 6 (Statement-F.Store (Held (H.Local 1)) (Constant (pos 0))
    (Constant (pos 1)))) ∷ []))) ∷ []) [] [] 0

word_stored_by_another_pointer_run : run script_word_stored_by_another_pointer_run R.Unlimited 10000 (shaped 4096 4096) ≡ result (Panicked
    (P.Workbench 1)) ((line 1 144 0 Granted) ∷ (line 2 32 144 Granted) ∷ []) [] [] 2
unfolding everything
word_stored_by_another_pointer_run = refl

abbrev script_word_stored_in_a_freed_cell_run : Script
script_word_stored_in_a_freed_cell_run = script [] ((procedure 2 [] (body ((OfPointer None) ∷ []) ((on 4 (Statement-F.Alloc (Held (H.Local
    0)) (Constant (pos 16)) GivesNull)) ∷ (on 5 (Statement-F.Free (Held (H.Local 0)))) ∷ (on 6 (Statement-F.Store (Held (H.Local 0))
    (Constant (pos 4)) (Constant (pos 1)))) ∷ []))) ∷ []) [] [] 0

word_stored_in_a_freed_cell_run : run script_word_stored_in_a_freed_cell_run R.Unlimited 10000 (shaped 4096 4096) ≡ result (Panicked
    (P.Workbench 1)) ((line 1 144 0 Granted) ∷ (line 2 32 144 Granted) ∷ []) [] [] 3
unfolding everything
word_stored_in_a_freed_cell_run = refl

abbrev script_word_stored_in_no_cell_run : Script
script_word_stored_in_no_cell_run = script [] ((procedure 2 [] (body ((OfPointer None) ∷ []) ((on 4 (Statement-F.Store (Held (H.Local 0))
    (Constant (pos 0)) (Constant (pos 1)))) ∷ []))) ∷ []) [] [] 0

word_stored_in_no_cell_run : run script_word_stored_in_no_cell_run R.Unlimited 10000 (shaped 4096 4096) ≡ result (Panicked (P.Workbench 1))
    ((line 1 144 0 Granted) ∷ []) [] [] 1
unfolding everything
word_stored_in_no_cell_run = refl

abbrev script_words_of_a_grown_cell_are_zero_run : Script
script_words_of_a_grown_cell_are_zero_run = script [] ((procedure 1 [] (body ((OfPointer None) ∷ (OfPointer None) ∷ OfNumber ∷ []) ((on 5
    (Statement-F.Alloc (Held (H.Local 0)) (Constant (pos 16)) GivesNull)) ∷ (on 6 (Statement-F.Alloc (Held (H.Local 1)) (Constant (pos 32))
    GivesNull)) ∷ (on 7 (Statement-F.Store (Held (H.Local 1)) (Constant (pos 3)) (Constant (pos 7)))) ∷ (on 8 (Statement-F.Store (Held
    (H.Local 0)) (Constant (pos 3)) (Constant (negsuc 0)))) ∷ (on 9 (Statement-F.Free (Held (H.Local 1)))) ∷ (on 10 (Statement-F.Realloc
    (Held (H.Local 0)) (Held (H.Local 0)) (Constant (pos 64)) GivesNull)) ∷ (on 11 (Statement-F.Load 2 (Held (H.Local 0)) (Constant (pos
    3)))) ∷ (on 12 (Statement-F.PrintNumber (Variable 2))) ∷ (on 13 (Statement-F.Load 2 (Held (H.Local 0)) (Constant (pos 11)))) ∷ (on 14
    (Statement-F.PrintNumber (Variable 2))) ∷ (on 15 (Statement-F.Free (Held (H.Local 0)))) ∷ []))) ∷ []) [] [] 0

words_of_a_grown_cell_are_zero_run : run script_words_of_a_grown_cell_are_zero_run R.Unlimited 10000 (shaped 4096 4096) ≡ result (Ended None
    []) ((line 1 144 0 Granted) ∷ (line 2 32 144 Granted) ∷ (line 3 48 176 Granted) ∷ (line 4 80 144 Granted) ∷ []) ((45 ∷ 49 ∷ []) ∷ (48 ∷
    []) ∷ []) [] 11
unfolding everything
words_of_a_grown_cell_are_zero_run = refl

abbrev script_words_of_a_shrunk_cell_are_gone_run : Script
script_words_of_a_shrunk_cell_are_gone_run = script [] ((procedure 1 [] (body ((OfPointer None) ∷ OfNumber ∷ []) ((on 4 (Statement-F.Alloc
    (Held (H.Local 0)) (Constant (pos 32)) GivesNull)) ∷ (on 5 (Statement-F.Store (Held (H.Local 0)) (Constant (pos 7)) (Constant (pos 5))))
    ∷ (on 6 (Statement-F.Realloc (Held (H.Local 0)) (Held (H.Local 0)) (Constant (pos 16)) GivesNull)) ∷ (on 7 (Statement-F.Realloc (Held
    (H.Local 0)) (Held (H.Local 0)) (Constant (pos 32)) GivesNull)) ∷ (on 8 (Statement-F.Load 1 (Held (H.Local 0)) (Constant (pos 7)))) ∷
    (on 9 (Statement-F.PrintNumber (Variable 1))) ∷ (on 10 (Statement-F.Free (Held (H.Local 0)))) ∷ []))) ∷ []) [] [] 0

words_of_a_shrunk_cell_are_gone_run : run script_words_of_a_shrunk_cell_are_gone_run R.Unlimited 10000 (shaped 4096 4096) ≡ result (Ended
    None []) ((line 1 144 0 Granted) ∷ (line 2 48 144 Granted) ∷ (line 3 48 144 Granted) ∷ []) ((48 ∷ []) ∷ []) [] 7
unfolding everything
words_of_a_shrunk_cell_are_gone_run = refl
