-- Worked cases of `budget`, each by computing. Written by tools/cases_to_theorems.py; edit nothing here.
use Rattle.std.specs.Prelude.{◌≡◌, refl, pos, [], ◌∷◌, None}
use Rattle.wb_heap_model.specs.declared.heap.Rule.TheVariants as R
use Rattle.wb_tree.specs.declared.script.Holder.TheVariants as H
use Rattle.wb_heap_model.specs.declared.heap.Answer.TheVariants.{Granted}
use Rattle.wb_meaning.specs.declared.run.Why.TheVariants.{Budget}
use Rattle.wb_meaning.specs.declared.run.Outcome.TheVariants.{Ended, Cut}
use Rattle.wb_tree.specs.declared.script.Script.{Script}
use Rattle.wb_tree.specs.declared.script.Local.TheVariants.{OfPointer}
use Rattle.wb_tree.specs.declared.script.Pointer.TheVariants.{Held}
use Rattle.wb_tree.specs.declared.script.Number.TheVariants.{Constant}
use Rattle.wb_tree.specs.declared.script.Refusal.TheVariants.{GivesNull}
use Rattle.wb_tree.specs.declared.script.Statement.TheOpen.{Statement-F}
use Rattle.wb_meaning.specs.Run.{run}
use Rattle.wb_worked.specs.Shorthands.{everything, on, script, procedure, body, result, shaped, line}

abbrev script_budget_exactly_enough_run : Script
script_budget_exactly_enough_run = script [] ((procedure 1 [] (body ((OfPointer None) ∷ (OfPointer None) ∷ (OfPointer None) ∷ []) ((on 5
    (Statement-F.Alloc (Held (H.Local 0)) (Constant (pos 10)) GivesNull)) ∷ (on 6 (Statement-F.Alloc (Held (H.Local 1)) (Constant (pos 100))
    GivesNull)) ∷ (on 7 (Statement-F.Free (Held (H.Local 0)))) ∷ (on 8 (Statement-F.Alloc (Held (H.Local 2)) (Constant (pos 16)) GivesNull))
    ∷ (on 9 (Statement-F.Free (Held (H.Local 1)))) ∷ (on 10 (Statement-F.Free (Held (H.Local 2)))) ∷ []))) ∷ []) [] [] 0

budget_exactly_enough_run : run script_budget_exactly_enough_run R.Unlimited 6 (shaped 4096 4096) ≡ result (Ended None []) ((line 1 144 0
    Granted) ∷ (line 2 32 144 Granted) ∷ (line 3 128 176 Granted) ∷ (line 4 32 144 Granted) ∷ []) [] [] 6
unfolding everything
budget_exactly_enough_run = refl

abbrev script_budget_one_step_short_run : Script
script_budget_one_step_short_run = script [] ((procedure 1 [] (body ((OfPointer None) ∷ (OfPointer None) ∷ (OfPointer None) ∷ []) ((on 5
    (Statement-F.Alloc (Held (H.Local 0)) (Constant (pos 10)) GivesNull)) ∷ (on 6 (Statement-F.Alloc (Held (H.Local 1)) (Constant (pos 100))
    GivesNull)) ∷ (on 7 (Statement-F.Free (Held (H.Local 0)))) ∷ (on 8 (Statement-F.Alloc (Held (H.Local 2)) (Constant (pos 16)) GivesNull))
    ∷ (on 9 (Statement-F.Free (Held (H.Local 1)))) ∷ (on 10 (Statement-F.Free (Held (H.Local 2)))) ∷ []))) ∷ []) [] [] 0

budget_one_step_short_run : run script_budget_one_step_short_run R.Unlimited 5 (shaped 4096 4096) ≡ result (Cut Budget) ((line 1 144 0
    Granted) ∷ (line 2 32 144 Granted) ∷ (line 3 128 176 Granted) ∷ (line 4 32 144 Granted) ∷ []) [] [] 5
unfolding everything
budget_one_step_short_run = refl
