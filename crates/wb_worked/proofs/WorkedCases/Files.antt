-- Worked cases of `files`, each by computing. Written by tools/cases_to_theorems.py; edit nothing here.
use Rattle.std.specs.Prelude.{◌≡◌, refl, pos, [], ◌∷◌, None}
use Rattle.wb_heap_model.specs.declared.heap.Rule.TheVariants as R
use Rattle.wb_tree.specs.declared.script.Holder.TheVariants as H
use Rattle.wb_heap_model.specs.declared.heap.Answer.TheVariants.{Granted}
use Rattle.wb_meaning.specs.declared.run.Outcome.TheVariants.{Ended}
use Rattle.wb_tree.specs.declared.script.Script.{Script}
use Rattle.wb_tree.specs.declared.script.Local.TheVariants.{OfPointer}
use Rattle.wb_tree.specs.declared.script.Pointer.TheVariants.{Held}
use Rattle.wb_tree.specs.declared.script.Number.TheVariants.{Constant}
use Rattle.wb_tree.specs.declared.script.Readable.TheVariants.{Quoted}
use Rattle.wb_tree.specs.declared.script.Refusal.TheVariants.{GivesNull}
use Rattle.wb_tree.specs.declared.script.Statement.TheOpen.{Statement-F}
use Rattle.wb_meaning.specs.Run.{run}
use Rattle.wb_worked.specs.Shorthands.{everything, on, script, procedure, body, result, leak, shaped, line}

abbrev script_named_file_run : Script
script_named_file_run = script [] ((procedure 2 [] (body ((OfPointer None) ∷ (OfPointer None) ∷ (OfPointer None) ∷ []) ((on 6
    (Statement-F.PrintText (Quoted 0))) ∷ (on 7 (Statement-F.Alloc (Held (H.Local 0)) (Constant (pos 10)) GivesNull)) ∷ (on 8
    (Statement-F.Alloc (Held (H.Local 1)) (Constant (pos 100)) GivesNull)) ∷ (on 9 (Statement-F.Free (Held (H.Local 0)))) ∷ (on 11
    (Statement-F.Alloc (Held (H.Local 2)) (Constant (pos 16)) GivesNull)) ∷ (on 12 (Statement-F.Free (Held (H.Local 1)))) ∷ []))) ∷ []) []
    ((116 ∷ 104 ∷ 114 ∷ 101 ∷ 101 ∷ 32 ∷ 114 ∷ 101 ∷ 113 ∷ 117 ∷ 101 ∷ 115 ∷ 116 ∷ 115 ∷ []) ∷ []) 0

named_file_run : run script_named_file_run R.Unlimited 10000 (shaped 4096 4096) ≡ result (Ended None ((leak 4 32 144) ∷ [])) ((line 1 144 0
    Granted) ∷ (line 2 32 144 Granted) ∷ (line 3 128 176 Granted) ∷ (line 4 32 144 Granted) ∷ []) ((116 ∷ 104 ∷ 114 ∷ 101 ∷ 101 ∷ 32 ∷ 114 ∷
    101 ∷ 113 ∷ 117 ∷ 101 ∷ 115 ∷ 116 ∷ 115 ∷ []) ∷ []) [] 6
unfolding everything
named_file_run = refl
