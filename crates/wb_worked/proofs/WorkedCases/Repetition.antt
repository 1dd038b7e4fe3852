-- Worked cases of `repetition`, each by computing. Written by tools/cases_to_theorems.py; edit nothing here.
use Rattle.std.specs.Prelude.{◌≡◌, refl, pos, negsuc, [], ◌∷◌, None}
use Rattle.wb_heap_model.specs.declared.heap.Rule.TheVariants as R
use Rattle.wb_heap_model.specs.declared.heap.Panic.TheVariants as P
use Rattle.wb_heap_model.specs.declared.heap.Answer.TheVariants.{Granted}
use Rattle.wb_meaning.specs.declared.run.Outcome.TheVariants.{Ended, Panicked}
use Rattle.wb_tree.specs.declared.script.Script.{Script}
use Rattle.wb_tree.specs.declared.script.Local.TheVariants.{OfNumber}
use Rattle.wb_tree.specs.declared.script.Number.TheVariants.{Constant, Variable}
use Rattle.wb_tree.specs.declared.script.Readable.TheVariants.{Quoted}
use Rattle.wb_tree.specs.declared.script.Statement.TheOpen.{Statement-F}
use Rattle.wb_meaning.specs.Run.{run}
use Rattle.wb_worked.specs.Shorthands.{everything, on, script, procedure, body, result, shaped, line}

abbrev script_fewer_turns_than_none_run : Script
script_fewer_turns_than_none_run = script [] ((procedure 1 [] (body [] ((on 2 (Statement-F.Repeat (Constant (negsuc 0)) [])) ∷ []))) ∷ [])
    [] [] 0

fewer_turns_than_none_run : run script_fewer_turns_than_none_run R.Unlimited 10000 (shaped 4096 4096) ≡ result (Panicked (P.Workbench 9))
    ((line 1 144 0 Granted) ∷ []) [] [] 1
unfolding everything
fewer_turns_than_none_run = refl

abbrev script_more_turns_than_there_may_be_run : Script
script_more_turns_than_there_may_be_run = script [] ((procedure 1 [] (body (OfNumber ∷ []) ((on 3 (Statement-F.SetNumber 0 (Constant (pos
    1048576)))) ∷ (on 4 (Statement-F.Add 0 (Constant (pos 1)))) ∷ (on 5 (Statement-F.Repeat (Variable 0) [])) ∷ []))) ∷ []) [] [] 0

more_turns_than_there_may_be_run : run script_more_turns_than_there_may_be_run R.Unlimited 10000 (shaped 4096 4096) ≡ result (Panicked
    (P.Workbench 9)) ((line 1 144 0 Granted) ∷ []) [] [] 3
unfolding everything
more_turns_than_there_may_be_run = refl

abbrev script_no_turns_run : Script
script_no_turns_run = script [] ((procedure 1 [] (body [] ((on 2 (Statement-F.Repeat (Constant (pos 0)) ((on 3 (Statement-F.PrintText
    (Quoted 0))) ∷ []))) ∷ (on 5 (Statement-F.PrintText (Quoted 1))) ∷ []))) ∷ []) [] ((110 ∷ 101 ∷ 118 ∷ 101 ∷ 114 ∷ []) ∷ (100 ∷ 111 ∷ 110
    ∷ 101 ∷ []) ∷ []) 0

no_turns_run : run script_no_turns_run R.Unlimited 10000 (shaped 4096 4096) ≡ result (Ended None []) ((line 1 144 0 Granted) ∷ []) ((100 ∷
    111 ∷ 110 ∷ 101 ∷ []) ∷ []) [] 2
unfolding everything
no_turns_run = refl

abbrev script_number_of_turns_is_read_once_run : Script
script_number_of_turns_is_read_once_run = script [] ((procedure 1 [] (body (OfNumber ∷ []) ((on 3 (Statement-F.SetNumber 0 (Constant (pos
    3)))) ∷ (on 4 (Statement-F.Repeat (Variable 0) ((on 5 (Statement-F.Add 0 (Constant (pos 1)))) ∷ []))) ∷ (on 7 (Statement-F.PrintNumber
    (Variable 0))) ∷ []))) ∷ []) [] [] 0

number_of_turns_is_read_once_run : run script_number_of_turns_is_read_once_run R.Unlimited 10000 (shaped 4096 4096) ≡ result (Ended None [])
    ((line 1 144 0 Granted) ∷ []) ((54 ∷ []) ∷ []) [] 9
unfolding everything
number_of_turns_is_read_once_run = refl

abbrev script_turns_inside_turns_run : Script
script_turns_inside_turns_run = script [] ((procedure 1 [] (body (OfNumber ∷ []) ((on 3 (Statement-F.Repeat (Constant (pos 3)) ((on 4
    (Statement-F.Repeat (Constant (pos 2)) ((on 5 (Statement-F.Add 0 (Constant (pos 1)))) ∷ []))) ∷ []))) ∷ (on 8 (Statement-F.PrintNumber
    (Variable 0))) ∷ []))) ∷ []) [] [] 0

turns_inside_turns_run : run script_turns_inside_turns_run R.Unlimited 10000 (shaped 4096 4096) ≡ result (Ended None []) ((line 1 144 0
    Granted) ∷ []) ((54 ∷ []) ∷ []) [] 20
unfolding everything
turns_inside_turns_run = refl
