-- Worked cases of `conditions`, each by computing. Written by tools/cases_to_theorems.py; edit nothing here.
use Rattle.std.specs.Prelude.{◌≡◌, refl, pos, negsuc, [], ◌∷◌, None}
use Rattle.wb_heap_model.specs.declared.heap.Rule.TheVariants as R
use Rattle.wb_tree.specs.declared.script.Holder.TheVariants as H
use Rattle.wb_heap_model.specs.declared.heap.Answer.TheVariants.{Granted}
use Rattle.wb_meaning.specs.declared.run.Outcome.TheVariants.{Ended}
use Rattle.wb_tree.specs.declared.script.Script.{Script}
use Rattle.wb_tree.specs.declared.script.Local.TheVariants.{OfPointer, OfNumber}
use Rattle.wb_tree.specs.declared.script.Pointer.TheVariants.{Held}
use Rattle.wb_tree.specs.declared.script.Number.TheVariants.{Constant, Variable}
use Rattle.wb_tree.specs.declared.script.Readable.TheVariants.{Quoted}
use Rattle.wb_tree.specs.declared.script.Condition.TheVariants.{NotNull, Equal, Less}
use Rattle.wb_tree.specs.declared.script.Refusal.TheVariants.{GivesNull}
use Rattle.wb_tree.specs.declared.script.Statement.TheOpen.{Statement-F}
use Rattle.wb_meaning.specs.Run.{run}
use Rattle.wb_worked.specs.Shorthands.{everything, on, script, procedure, body, result, shaped, line}

abbrev script_freed_pointer_is_not_null_run : Script
script_freed_pointer_is_not_null_run = script [] ((procedure 1 [] (body ((OfPointer None) ∷ []) ((on 3 (Statement-F.If (NotNull (Held
    (H.Local 0))) ((on 4 (Statement-F.PrintText (Quoted 0))) ∷ []))) ∷ (on 6 (Statement-F.Alloc (Held (H.Local 0)) (Constant (pos 5))
    GivesNull)) ∷ (on 7 (Statement-F.IfElse (NotNull (Held (H.Local 0))) ((on 8 (Statement-F.PrintText (Quoted 1))) ∷ []) ((on 10
    (Statement-F.PrintText (Quoted 2))) ∷ []))) ∷ (on 12 (Statement-F.Free (Held (H.Local 0)))) ∷ (on 13 (Statement-F.If (NotNull (Held
    (H.Local 0))) ((on 14 (Statement-F.PrintText (Quoted 3))) ∷ []))) ∷ (on 16 (Statement-F.SetNull (Held (H.Local 0)))) ∷ (on 17
    (Statement-F.IfElse (NotNull (Held (H.Local 0))) ((on 18 (Statement-F.PrintText (Quoted 4))) ∷ []) ((on 20 (Statement-F.PrintText
    (Quoted 5))) ∷ []))) ∷ []))) ∷ []) [] ((110 ∷ 101 ∷ 118 ∷ 101 ∷ 114 ∷ []) ∷ (115 ∷ 111 ∷ 109 ∷ 101 ∷ []) ∷ (110 ∷ 101 ∷ 118 ∷ 101 ∷ 114
    ∷ []) ∷ (115 ∷ 116 ∷ 105 ∷ 108 ∷ 108 ∷ []) ∷ (110 ∷ 101 ∷ 118 ∷ 101 ∷ 114 ∷ []) ∷ (110 ∷ 117 ∷ 108 ∷ 108 ∷ []) ∷ []) 0

freed_pointer_is_not_null_run : run script_freed_pointer_is_not_null_run R.Unlimited 10000 (shaped 4096 4096) ≡ result (Ended None [])
    ((line 1 144 0 Granted) ∷ (line 2 32 144 Granted) ∷ []) ((115 ∷ 111 ∷ 109 ∷ 101 ∷ []) ∷ (115 ∷ 116 ∷ 105 ∷ 108 ∷ 108 ∷ []) ∷ (110 ∷ 117
    ∷ 108 ∷ 108 ∷ []) ∷ []) [] 10
unfolding everything
freed_pointer_is_not_null_run = refl

abbrev script_if_without_else_leaves_its_turn_out_run : Script
script_if_without_else_leaves_its_turn_out_run = script [] ((procedure 1 [] (body (OfNumber ∷ []) ((on 3 (Statement-F.Repeat (Constant (pos
    3)) ((on 4 (Statement-F.Add 0 (Constant (pos 1)))) ∷ (on 5 (Statement-F.If (Equal (Variable 0) (Constant (pos 2))) ((on 6
    (Statement-F.PrintNumber (Variable 0))) ∷ []))) ∷ []))) ∷ []))) ∷ []) [] [] 0

if_without_else_leaves_its_turn_out_run : run script_if_without_else_leaves_its_turn_out_run R.Unlimited 10000 (shaped 4096 4096) ≡ result
    (Ended None []) ((line 1 144 0 Granted) ∷ []) ((50 ∷ []) ∷ []) [] 11
unfolding everything
if_without_else_leaves_its_turn_out_run = refl

abbrev script_numbers_are_compared_run : Script
script_numbers_are_compared_run = script [] ((procedure 1 [] (body (OfNumber ∷ OfNumber ∷ []) ((on 4 (Statement-F.SetNumber 0 (Constant (pos
    3)))) ∷ (on 5 (Statement-F.SetNumber 1 (Constant (negsuc 2)))) ∷ (on 6 (Statement-F.If (Less (Variable 1) (Variable 0)) ((on 7
    (Statement-F.PrintText (Quoted 0))) ∷ []))) ∷ (on 9 (Statement-F.If (Less (Variable 0) (Variable 0)) ((on 10 (Statement-F.PrintText
    (Quoted 1))) ∷ []))) ∷ (on 12 (Statement-F.IfElse (Equal (Variable 0) (Constant (pos 3))) ((on 13 (Statement-F.PrintText (Quoted 2))) ∷
    []) ((on 15 (Statement-F.PrintText (Quoted 3))) ∷ []))) ∷ (on 17 (Statement-F.IfElse (Equal (Variable 0) (Variable 1)) ((on 18
    (Statement-F.PrintText (Quoted 4))) ∷ []) ((on 20 (Statement-F.PrintText (Quoted 5))) ∷ []))) ∷ []))) ∷ []) [] ((108 ∷ 101 ∷ 115 ∷ 115 ∷
    []) ∷ (110 ∷ 101 ∷ 118 ∷ 101 ∷ 114 ∷ []) ∷ (101 ∷ 113 ∷ 117 ∷ 97 ∷ 108 ∷ []) ∷ (110 ∷ 101 ∷ 118 ∷ 101 ∷ 114 ∷ []) ∷ (110 ∷ 101 ∷ 118 ∷
    101 ∷ 114 ∷ []) ∷ (111 ∷ 116 ∷ 104 ∷ 101 ∷ 114 ∷ []) ∷ []) 0

numbers_are_compared_run : run script_numbers_are_compared_run R.Unlimited 10000 (shaped 4096 4096) ≡ result (Ended None []) ((line 1 144 0
    Granted) ∷ []) ((108 ∷ 101 ∷ 115 ∷ 115 ∷ []) ∷ (101 ∷ 113 ∷ 117 ∷ 97 ∷ 108 ∷ []) ∷ (111 ∷ 116 ∷ 104 ∷ 101 ∷ 114 ∷ []) ∷ []) [] 9
unfolding everything
numbers_are_compared_run = refl
