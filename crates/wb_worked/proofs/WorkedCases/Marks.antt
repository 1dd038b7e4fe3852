-- Worked cases of `marks`, each by computing. Written by tools/cases_to_theorems.py; edit nothing here.
use Rattle.std.specs.Prelude.{◌≡◌, refl, pos, negsuc, [], ◌∷◌, None}
use Rattle.wb_heap_model.specs.declared.heap.Rule.TheVariants as R
use Rattle.wb_heap_model.specs.declared.heap.Panic.TheVariants as P
use Rattle.wb_tree.specs.declared.script.Holder.TheVariants as H
use Rattle.wb_heap_model.specs.declared.heap.Answer.TheVariants.{Granted}
use Rattle.wb_meaning.specs.declared.run.Outcome.TheVariants.{Panicked}
use Rattle.wb_tree.specs.declared.script.Script.{Script}
use Rattle.wb_tree.specs.declared.script.Local.TheVariants.{OfPointer}
use Rattle.wb_tree.specs.declared.script.Pointer.TheVariants.{Held}
use Rattle.wb_tree.specs.declared.script.Number.TheVariants.{Constant}
use Rattle.wb_tree.specs.declared.script.Refusal.TheVariants.{GivesNull}
use Rattle.wb_tree.specs.declared.script.Statement.TheOpen.{Statement-F}
use Rattle.wb_meaning.specs.Run.{run}
use Rattle.wb_worked.specs.Shorthands.{everything, on, script, procedure, body, result, shaped, line}

abbrev script_missing_mark_is_told_before_the_count_run : Script
script_missing_mark_is_told_before_the_count_run = script [] ((procedure 1 [] (body ((OfPointer None) ∷ []) ((on 3 (Statement-F.Alloc (Held
    (H.Local 0)) (Constant (pos 1)) GivesNull)) ∷ (on 4 (Statement-F.MarkEnd (Constant (pos 5)))) ∷ []))) ∷ []) [] [] 0

missing_mark_is_told_before_the_count_run : run script_missing_mark_is_told_before_the_count_run R.Unlimited 10000 (shaped 4096 4096) ≡
    result (Panicked (P.Workbench 6)) ((line 1 144 0 Granted) ∷ (line 2 32 144 Granted) ∷ []) [] [] 2
unfolding everything
missing_mark_is_told_before_the_count_run = refl

abbrev script_negative_count_is_told_before_a_missing_mark_run : Script
script_negative_count_is_told_before_a_missing_mark_run = script [] ((procedure 1 [] (body [] ((on 2 (Statement-F.MarkEnd (Constant (negsuc
    0)))) ∷ []))) ∷ []) [] [] 0

negative_count_is_told_before_a_missing_mark_run : run script_negative_count_is_told_before_a_missing_mark_run R.Unlimited 10000 (shaped
    4096 4096) ≡ result (Panicked (P.Workbench 9)) ((line 1 144 0 Granted) ∷ []) [] [] 1
unfolding everything
negative_count_is_told_before_a_missing_mark_run = refl

abbrev script_one_mark_end_more_than_marks_run : Script
script_one_mark_end_more_than_marks_run = script [] ((procedure 1 [] (body [] ((on 2 Statement-F.Mark) ∷ (on 3 Statement-F.Mark) ∷ (on 4
    (Statement-F.MarkEnd (Constant (pos 0)))) ∷ (on 5 (Statement-F.MarkEnd (Constant (pos 0)))) ∷ (on 6 (Statement-F.MarkEnd (Constant (pos
    0)))) ∷ []))) ∷ []) [] [] 0

one_mark_end_more_than_marks_run : run script_one_mark_end_more_than_marks_run R.Unlimited 10000 (shaped 4096 4096) ≡ result (Panicked
    (P.Workbench 6)) ((line 1 144 0 Granted) ∷ []) [] [] 5
unfolding everything
one_mark_end_more_than_marks_run = refl
