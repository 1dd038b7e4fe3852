-- Worked cases of `examples`, each by computing. Written by tools/cases_to_theorems.py; edit nothing here.
use Rattle.std.specs.Prelude.{◌≡◌, refl, pos, [], ◌∷◌, length, Some, None}
use Rattle.wb_runs.specs.declared.failures.Failures.TheVariants.{Single, Every, Pairs}
use Rattle.wb_heap_model.specs.declared.heap.Rule.TheVariants as R
use Rattle.wb_heap_model.specs.declared.heap.Panic.TheVariants as P
use Rattle.wb_tree.specs.declared.script.Holder.TheVariants as H
use Rattle.wb_heap_model.specs.declared.heap.Answer.TheVariants.{Granted, Simulated}
use Rattle.wb_meaning.specs.declared.run.Outcome.TheVariants.{Ended, Panicked}
use Rattle.wb_tree.specs.declared.script.Script.{Script}
use Rattle.wb_tree.specs.declared.script.Local.TheVariants.{OfPointer, OfNumber}
use Rattle.wb_tree.specs.declared.script.Pointer.TheVariants.{Held, Field}
use Rattle.wb_tree.specs.declared.script.Number.TheVariants.{Constant, Variable}
use Rattle.wb_tree.specs.declared.script.Writable.TheVariants.{InCell}
use Rattle.wb_tree.specs.declared.script.Readable.TheVariants.{Of, Quoted}
use Rattle.wb_tree.specs.declared.script.Condition.TheVariants.{IsNull, NotNull}
use Rattle.wb_tree.specs.declared.script.Refusal.TheVariants.{GivesNull, Leaves}
use Rattle.wb_tree.specs.declared.script.Statement.TheOpen.{Statement-F}
use Rattle.wb_meaning.specs.Run.{run, required, rises}
use Rattle.wb_runs.specs.Pairs.{pair_run, least_bad_or_cut_pair}
use Rattle.wb_runs.specs.Sweeps.{runs_of, least_bad_or_cut}
use Rattle.wb_worked.specs.Shorthands.{everything, on, script, class_of, procedure, body, result, leak, shaped, line, rise}

abbrev script_fallback_leaks_check : Script
script_fallback_leaks_check = script [] ((procedure 4 [] (body ((OfPointer None) ∷ (OfPointer None) ∷ []) ((on 7 (Statement-F.Alloc (Held
    (H.Local 0)) (Constant (pos 4000)) GivesNull)) ∷ (on 8 (Statement-F.If (IsNull (Held (H.Local 0))) ((on 9 (Statement-F.NewText (Held
    (H.Local 1)) (Constant (pos 20)) Leaves)) ∷ (on 10 (Statement-F.Copy (InCell (Held (H.Local 1))) (Quoted 0))) ∷ (on 12
    (Statement-F.Alloc (Held (H.Local 0)) (Constant (pos 500)) Leaves)) ∷ (on 13 (Statement-F.PrintText (Of (InCell (Held (H.Local 1)))))) ∷
    (on 14 (Statement-F.Free (Held (H.Local 1)))) ∷ []))) ∷ (on 16 (Statement-F.ReturnPointer (Held (H.Local 0)))) ∷ []))) ∷ (procedure 19
    [] (body ((OfPointer None) ∷ OfNumber ∷ []) ((on 22 (Statement-F.Trap 1 ((on 23 (Statement-F.CallTo 0 0 [])) ∷ []))) ∷ (on 25
    (Statement-F.PrintNumber (Variable 1))) ∷ (on 26 (Statement-F.Free (Held (H.Local 0)))) ∷ []))) ∷ []) [] ((105 ∷ 110 ∷ 32 ∷ 102 ∷ 101 ∷
    119 ∷ 32 ∷ 99 ∷ 111 ∷ 108 ∷ 111 ∷ 117 ∷ 114 ∷ 115 ∷ []) ∷ []) 1

fallback_leaks_check : (required script_fallback_leaks_check 10000 (shaped 4096 4096) ≡ 4160) × (rises script_fallback_leaks_check 10000
    (shaped 4096 4096) ≡ (rise 1 144) ∷ (rise 2 4160) ∷ []) × (length (runs_of Single script_fallback_leaks_check 10000 (shaped 4096 4096)
    0).trace ≡ 2) × (least_bad_or_cut Single script_fallback_leaks_check 10000 (shaped 4096 4096) ≡ None)
unfolding everything
fallback_leaks_check = (refl, refl, refl, refl)

abbrev script_fallback_leaks_every_json_check : Script
script_fallback_leaks_every_json_check = script [] ((procedure 4 [] (body ((OfPointer None) ∷ (OfPointer None) ∷ []) ((on 7
    (Statement-F.Alloc (Held (H.Local 0)) (Constant (pos 4000)) GivesNull)) ∷ (on 8 (Statement-F.If (IsNull (Held (H.Local 0))) ((on 9
    (Statement-F.NewText (Held (H.Local 1)) (Constant (pos 20)) Leaves)) ∷ (on 10 (Statement-F.Copy (InCell (Held (H.Local 1))) (Quoted 0)))
    ∷ (on 12 (Statement-F.Alloc (Held (H.Local 0)) (Constant (pos 500)) Leaves)) ∷ (on 13 (Statement-F.PrintText (Of (InCell (Held (H.Local
    1)))))) ∷ (on 14 (Statement-F.Free (Held (H.Local 1)))) ∷ []))) ∷ (on 16 (Statement-F.ReturnPointer (Held (H.Local 0)))) ∷ []))) ∷
    (procedure 19 [] (body ((OfPointer None) ∷ OfNumber ∷ []) ((on 22 (Statement-F.Trap 1 ((on 23 (Statement-F.CallTo 0 0 [])) ∷ []))) ∷ (on
    25 (Statement-F.PrintNumber (Variable 1))) ∷ (on 26 (Statement-F.Free (Held (H.Local 0)))) ∷ []))) ∷ []) [] ((105 ∷ 110 ∷ 32 ∷ 102 ∷ 101
    ∷ 119 ∷ 32 ∷ 99 ∷ 111 ∷ 108 ∷ 111 ∷ 117 ∷ 114 ∷ 115 ∷ []) ∷ []) 1

fallback_leaks_every_json_check : (required script_fallback_leaks_every_json_check 10000 (shaped 4096 4096) ≡ 4160) × (rises
    script_fallback_leaks_every_json_check 10000 (shaped 4096 4096) ≡ (rise 1 144) ∷ (rise 2 4160) ∷ []) × (length (runs_of Every
    script_fallback_leaks_every_json_check 10000 (shaped 4096 4096) 0).trace ≡ 2) × (least_bad_or_cut Every
    script_fallback_leaks_every_json_check 10000 (shaped 4096 4096) ≡ Some 2) × (runs_of Every script_fallback_leaks_every_json_check 10000
    (shaped 4096 4096) 2 ≡ result (Ended None ((leak 3 64 144) ∷ [])) ((line 1 144 0 Granted) ∷ (line 2 4016 144 Simulated) ∷ (line 3 64 144
    Granted) ∷ (line 4 528 208 Simulated) ∷ []) ((45 ∷ 52 ∷ []) ∷ []) [] 9)
unfolding everything
fallback_leaks_every_json_check = (refl, refl, refl, refl, refl)

abbrev script_fallback_leaks_every_run : Script
script_fallback_leaks_every_run = script [] ((procedure 4 [] (body ((OfPointer None) ∷ (OfPointer None) ∷ []) ((on 7 (Statement-F.Alloc
    (Held (H.Local 0)) (Constant (pos 4000)) GivesNull)) ∷ (on 8 (Statement-F.If (IsNull (Held (H.Local 0))) ((on 9 (Statement-F.NewText
    (Held (H.Local 1)) (Constant (pos 20)) Leaves)) ∷ (on 10 (Statement-F.Copy (InCell (Held (H.Local 1))) (Quoted 0))) ∷ (on 12
    (Statement-F.Alloc (Held (H.Local 0)) (Constant (pos 500)) Leaves)) ∷ (on 13 (Statement-F.PrintText (Of (InCell (Held (H.Local 1)))))) ∷
    (on 14 (Statement-F.Free (Held (H.Local 1)))) ∷ []))) ∷ (on 16 (Statement-F.ReturnPointer (Held (H.Local 0)))) ∷ []))) ∷ (procedure 19
    [] (body ((OfPointer None) ∷ OfNumber ∷ []) ((on 22 (Statement-F.Trap 1 ((on 23 (Statement-F.CallTo 0 0 [])) ∷ []))) ∷ (on 25
    (Statement-F.PrintNumber (Variable 1))) ∷ (on 26 (Statement-F.Free (Held (H.Local 0)))) ∷ []))) ∷ []) [] ((105 ∷ 110 ∷ 32 ∷ 102 ∷ 101 ∷
    119 ∷ 32 ∷ 99 ∷ 111 ∷ 108 ∷ 111 ∷ 117 ∷ 114 ∷ 115 ∷ []) ∷ []) 1

fallback_leaks_every_run : run script_fallback_leaks_every_run (R.Every 2) 10000 (shaped 4096 4096) ≡ result (Ended None ((leak 3 64 144) ∷
    [])) ((line 1 144 0 Granted) ∷ (line 2 4016 144 Simulated) ∷ (line 3 64 144 Granted) ∷ (line 4 528 208 Simulated) ∷ []) ((45 ∷ 52 ∷ [])
    ∷ []) [] 9
unfolding everything
fallback_leaks_every_run = refl

abbrev script_fallback_leaks_every_sweep : Script
script_fallback_leaks_every_sweep = script [] ((procedure 4 [] (body ((OfPointer None) ∷ (OfPointer None) ∷ []) ((on 7 (Statement-F.Alloc
    (Held (H.Local 0)) (Constant (pos 4000)) GivesNull)) ∷ (on 8 (Statement-F.If (IsNull (Held (H.Local 0))) ((on 9 (Statement-F.NewText
    (Held (H.Local 1)) (Constant (pos 20)) Leaves)) ∷ (on 10 (Statement-F.Copy (InCell (Held (H.Local 1))) (Quoted 0))) ∷ (on 12
    (Statement-F.Alloc (Held (H.Local 0)) (Constant (pos 500)) Leaves)) ∷ (on 13 (Statement-F.PrintText (Of (InCell (Held (H.Local 1)))))) ∷
    (on 14 (Statement-F.Free (Held (H.Local 1)))) ∷ []))) ∷ (on 16 (Statement-F.ReturnPointer (Held (H.Local 0)))) ∷ []))) ∷ (procedure 19
    [] (body ((OfPointer None) ∷ OfNumber ∷ []) ((on 22 (Statement-F.Trap 1 ((on 23 (Statement-F.CallTo 0 0 [])) ∷ []))) ∷ (on 25
    (Statement-F.PrintNumber (Variable 1))) ∷ (on 26 (Statement-F.Free (Held (H.Local 0)))) ∷ []))) ∷ []) [] ((105 ∷ 110 ∷ 32 ∷ 102 ∷ 101 ∷
    119 ∷ 32 ∷ 99 ∷ 111 ∷ 108 ∷ 111 ∷ 117 ∷ 114 ∷ 115 ∷ []) ∷ []) 1

fallback_leaks_every_sweep : (length (runs_of Every script_fallback_leaks_every_sweep 10000 (shaped 4096 4096) 0).trace ≡ 2) ×
    (least_bad_or_cut Every script_fallback_leaks_every_sweep 10000 (shaped 4096 4096) ≡ Some 2) × (runs_of Every
    script_fallback_leaks_every_sweep 10000 (shaped 4096 4096) 2 ≡ result (Ended None ((leak 3 64 144) ∷ [])) ((line 1 144 0 Granted) ∷
    (line 2 4016 144 Simulated) ∷ (line 3 64 144 Granted) ∷ (line 4 528 208 Simulated) ∷ []) ((45 ∷ 52 ∷ []) ∷ []) [] 9)
unfolding everything
fallback_leaks_every_sweep = (refl, refl, refl)

abbrev script_fallback_leaks_mended_check : Script
script_fallback_leaks_mended_check = script [] ((procedure 2 [] (body ((OfPointer None) ∷ (OfPointer None) ∷ []) ((on 5 (Statement-F.Alloc
    (Held (H.Local 0)) (Constant (pos 4000)) GivesNull)) ∷ (on 6 (Statement-F.If (IsNull (Held (H.Local 0))) ((on 7 (Statement-F.NewText
    (Held (H.Local 1)) (Constant (pos 20)) Leaves)) ∷ (on 8 (Statement-F.Push (Held (H.Local 1)))) ∷ (on 9 (Statement-F.Copy (InCell (Held
    (H.Local 1))) (Quoted 0))) ∷ (on 10 (Statement-F.Alloc (Held (H.Local 0)) (Constant (pos 500)) Leaves)) ∷ (on 11 (Statement-F.PrintText
    (Of (InCell (Held (H.Local 1)))))) ∷ (on 12 (Statement-F.PopDestroy (Constant (pos 1)))) ∷ []))) ∷ (on 14 (Statement-F.ReturnPointer
    (Held (H.Local 0)))) ∷ []))) ∷ (procedure 17 [] (body ((OfPointer None) ∷ OfNumber ∷ []) ((on 20 (Statement-F.Trap 1 ((on 21
    (Statement-F.CallTo 0 0 [])) ∷ []))) ∷ (on 23 (Statement-F.PrintNumber (Variable 1))) ∷ (on 24 (Statement-F.Free (Held (H.Local 0)))) ∷
    []))) ∷ []) [] ((105 ∷ 110 ∷ 32 ∷ 102 ∷ 101 ∷ 119 ∷ 32 ∷ 99 ∷ 111 ∷ 108 ∷ 111 ∷ 117 ∷ 114 ∷ 115 ∷ []) ∷ []) 1

fallback_leaks_mended_check : (required script_fallback_leaks_mended_check 10000 (shaped 4096 4096) ≡ 4160) × (rises
    script_fallback_leaks_mended_check 10000 (shaped 4096 4096) ≡ (rise 1 144) ∷ (rise 2 4160) ∷ []) × (length (runs_of Single
    script_fallback_leaks_mended_check 10000 (shaped 4096 4096) 0).trace ≡ 2) × (least_bad_or_cut Single script_fallback_leaks_mended_check
    10000 (shaped 4096 4096) ≡ None)
unfolding everything
fallback_leaks_mended_check = (refl, refl, refl, refl)

abbrev script_fallback_leaks_mended_every_sweep : Script
script_fallback_leaks_mended_every_sweep = script [] ((procedure 2 [] (body ((OfPointer None) ∷ (OfPointer None) ∷ []) ((on 5
    (Statement-F.Alloc (Held (H.Local 0)) (Constant (pos 4000)) GivesNull)) ∷ (on 6 (Statement-F.If (IsNull (Held (H.Local 0))) ((on 7
    (Statement-F.NewText (Held (H.Local 1)) (Constant (pos 20)) Leaves)) ∷ (on 8 (Statement-F.Push (Held (H.Local 1)))) ∷ (on 9
    (Statement-F.Copy (InCell (Held (H.Local 1))) (Quoted 0))) ∷ (on 10 (Statement-F.Alloc (Held (H.Local 0)) (Constant (pos 500)) Leaves))
    ∷ (on 11 (Statement-F.PrintText (Of (InCell (Held (H.Local 1)))))) ∷ (on 12 (Statement-F.PopDestroy (Constant (pos 1)))) ∷ []))) ∷ (on
    14 (Statement-F.ReturnPointer (Held (H.Local 0)))) ∷ []))) ∷ (procedure 17 [] (body ((OfPointer None) ∷ OfNumber ∷ []) ((on 20
    (Statement-F.Trap 1 ((on 21 (Statement-F.CallTo 0 0 [])) ∷ []))) ∷ (on 23 (Statement-F.PrintNumber (Variable 1))) ∷ (on 24
    (Statement-F.Free (Held (H.Local 0)))) ∷ []))) ∷ []) [] ((105 ∷ 110 ∷ 32 ∷ 102 ∷ 101 ∷ 119 ∷ 32 ∷ 99 ∷ 111 ∷ 108 ∷ 111 ∷ 117 ∷ 114 ∷ 115
    ∷ []) ∷ []) 1

fallback_leaks_mended_every_sweep : (length (runs_of Every script_fallback_leaks_mended_every_sweep 10000 (shaped 4096 4096) 0).trace ≡ 2) ×
    (least_bad_or_cut Every script_fallback_leaks_mended_every_sweep 10000 (shaped 4096 4096) ≡ None)
unfolding everything
fallback_leaks_mended_every_sweep = (refl, refl)

abbrev script_fallback_leaks_mended_pairs_sweep : Script
script_fallback_leaks_mended_pairs_sweep = script [] ((procedure 2 [] (body ((OfPointer None) ∷ (OfPointer None) ∷ []) ((on 5
    (Statement-F.Alloc (Held (H.Local 0)) (Constant (pos 4000)) GivesNull)) ∷ (on 6 (Statement-F.If (IsNull (Held (H.Local 0))) ((on 7
    (Statement-F.NewText (Held (H.Local 1)) (Constant (pos 20)) Leaves)) ∷ (on 8 (Statement-F.Push (Held (H.Local 1)))) ∷ (on 9
    (Statement-F.Copy (InCell (Held (H.Local 1))) (Quoted 0))) ∷ (on 10 (Statement-F.Alloc (Held (H.Local 0)) (Constant (pos 500)) Leaves))
    ∷ (on 11 (Statement-F.PrintText (Of (InCell (Held (H.Local 1)))))) ∷ (on 12 (Statement-F.PopDestroy (Constant (pos 1)))) ∷ []))) ∷ (on
    14 (Statement-F.ReturnPointer (Held (H.Local 0)))) ∷ []))) ∷ (procedure 17 [] (body ((OfPointer None) ∷ OfNumber ∷ []) ((on 20
    (Statement-F.Trap 1 ((on 21 (Statement-F.CallTo 0 0 [])) ∷ []))) ∷ (on 23 (Statement-F.PrintNumber (Variable 1))) ∷ (on 24
    (Statement-F.Free (Held (H.Local 0)))) ∷ []))) ∷ []) [] ((105 ∷ 110 ∷ 32 ∷ 102 ∷ 101 ∷ 119 ∷ 32 ∷ 99 ∷ 111 ∷ 108 ∷ 111 ∷ 117 ∷ 114 ∷ 115
    ∷ []) ∷ []) 1

fallback_leaks_mended_pairs_sweep : (length (runs_of Pairs script_fallback_leaks_mended_pairs_sweep 10000 (shaped 4096 4096) 0).trace ≡ 2) ×
    (least_bad_or_cut Pairs script_fallback_leaks_mended_pairs_sweep 10000 (shaped 4096 4096) ≡ None) × (least_bad_or_cut_pair
    script_fallback_leaks_mended_pairs_sweep 10000 (shaped 4096 4096) ≡ None)
unfolding everything
fallback_leaks_mended_pairs_sweep = (refl, refl, refl)

abbrev script_fallback_leaks_pairs_sweep : Script
script_fallback_leaks_pairs_sweep = script [] ((procedure 4 [] (body ((OfPointer None) ∷ (OfPointer None) ∷ []) ((on 7 (Statement-F.Alloc
    (Held (H.Local 0)) (Constant (pos 4000)) GivesNull)) ∷ (on 8 (Statement-F.If (IsNull (Held (H.Local 0))) ((on 9 (Statement-F.NewText
    (Held (H.Local 1)) (Constant (pos 20)) Leaves)) ∷ (on 10 (Statement-F.Copy (InCell (Held (H.Local 1))) (Quoted 0))) ∷ (on 12
    (Statement-F.Alloc (Held (H.Local 0)) (Constant (pos 500)) Leaves)) ∷ (on 13 (Statement-F.PrintText (Of (InCell (Held (H.Local 1)))))) ∷
    (on 14 (Statement-F.Free (Held (H.Local 1)))) ∷ []))) ∷ (on 16 (Statement-F.ReturnPointer (Held (H.Local 0)))) ∷ []))) ∷ (procedure 19
    [] (body ((OfPointer None) ∷ OfNumber ∷ []) ((on 22 (Statement-F.Trap 1 ((on 23 (Statement-F.CallTo 0 0 [])) ∷ []))) ∷ (on 25
    (Statement-F.PrintNumber (Variable 1))) ∷ (on 26 (Statement-F.Free (Held (H.Local 0)))) ∷ []))) ∷ []) [] ((105 ∷ 110 ∷ 32 ∷ 102 ∷ 101 ∷
    119 ∷ 32 ∷ 99 ∷ 111 ∷ 108 ∷ 111 ∷ 117 ∷ 114 ∷ 115 ∷ []) ∷ []) 1

fallback_leaks_pairs_sweep : (length (runs_of Pairs script_fallback_leaks_pairs_sweep 10000 (shaped 4096 4096) 0).trace ≡ 2) ×
    (least_bad_or_cut Pairs script_fallback_leaks_pairs_sweep 10000 (shaped 4096 4096) ≡ None) × (least_bad_or_cut_pair
    script_fallback_leaks_pairs_sweep 10000 (shaped 4096 4096) ≡ Some (2, 4)) × (pair_run script_fallback_leaks_pairs_sweep 10000 (shaped
    4096 4096) 2 4 ≡ result (Ended None ((leak 3 64 144) ∷ [])) ((line 1 144 0 Granted) ∷ (line 2 4016 144 Simulated) ∷ (line 3 64 144
    Granted) ∷ (line 4 528 208 Simulated) ∷ []) ((45 ∷ 52 ∷ []) ∷ []) [] 9)
unfolding everything
fallback_leaks_pairs_sweep = (refl, refl, refl, refl)

abbrev script_fallback_leaks_refused_run : Script
script_fallback_leaks_refused_run = script [] ((procedure 4 [] (body ((OfPointer None) ∷ (OfPointer None) ∷ []) ((on 7 (Statement-F.Alloc
    (Held (H.Local 0)) (Constant (pos 4000)) GivesNull)) ∷ (on 8 (Statement-F.If (IsNull (Held (H.Local 0))) ((on 9 (Statement-F.NewText
    (Held (H.Local 1)) (Constant (pos 20)) Leaves)) ∷ (on 10 (Statement-F.Copy (InCell (Held (H.Local 1))) (Quoted 0))) ∷ (on 12
    (Statement-F.Alloc (Held (H.Local 0)) (Constant (pos 500)) Leaves)) ∷ (on 13 (Statement-F.PrintText (Of (InCell (Held (H.Local 1)))))) ∷
    (on 14 (Statement-F.Free (Held (H.Local 1)))) ∷ []))) ∷ (on 16 (Statement-F.ReturnPointer (Held (H.Local 0)))) ∷ []))) ∷ (procedure 19
    [] (body ((OfPointer None) ∷ OfNumber ∷ []) ((on 22 (Statement-F.Trap 1 ((on 23 (Statement-F.CallTo 0 0 [])) ∷ []))) ∷ (on 25
    (Statement-F.PrintNumber (Variable 1))) ∷ (on 26 (Statement-F.Free (Held (H.Local 0)))) ∷ []))) ∷ []) [] ((105 ∷ 110 ∷ 32 ∷ 102 ∷ 101 ∷
    119 ∷ 32 ∷ 99 ∷ 111 ∷ 108 ∷ 111 ∷ 117 ∷ 114 ∷ 115 ∷ []) ∷ []) 1

fallback_leaks_refused_run : run script_fallback_leaks_refused_run (R.Number 2) 10000 (shaped 4096 4096) ≡ result (Ended None []) ((line 1
    144 0 Granted) ∷ (line 2 4016 144 Simulated) ∷ (line 3 64 144 Granted) ∷ (line 4 528 208 Granted) ∷ []) ((105 ∷ 110 ∷ 32 ∷ 102 ∷ 101 ∷
    119 ∷ 32 ∷ 99 ∷ 111 ∷ 108 ∷ 111 ∷ 117 ∷ 114 ∷ 115 ∷ []) ∷ (48 ∷ []) ∷ []) [] 12
unfolding everything
fallback_leaks_refused_run = refl

abbrev script_fallback_leaks_sweep : Script
script_fallback_leaks_sweep = script [] ((procedure 4 [] (body ((OfPointer None) ∷ (OfPointer None) ∷ []) ((on 7 (Statement-F.Alloc (Held
    (H.Local 0)) (Constant (pos 4000)) GivesNull)) ∷ (on 8 (Statement-F.If (IsNull (Held (H.Local 0))) ((on 9 (Statement-F.NewText (Held
    (H.Local 1)) (Constant (pos 20)) Leaves)) ∷ (on 10 (Statement-F.Copy (InCell (Held (H.Local 1))) (Quoted 0))) ∷ (on 12
    (Statement-F.Alloc (Held (H.Local 0)) (Constant (pos 500)) Leaves)) ∷ (on 13 (Statement-F.PrintText (Of (InCell (Held (H.Local 1)))))) ∷
    (on 14 (Statement-F.Free (Held (H.Local 1)))) ∷ []))) ∷ (on 16 (Statement-F.ReturnPointer (Held (H.Local 0)))) ∷ []))) ∷ (procedure 19
    [] (body ((OfPointer None) ∷ OfNumber ∷ []) ((on 22 (Statement-F.Trap 1 ((on 23 (Statement-F.CallTo 0 0 [])) ∷ []))) ∷ (on 25
    (Statement-F.PrintNumber (Variable 1))) ∷ (on 26 (Statement-F.Free (Held (H.Local 0)))) ∷ []))) ∷ []) [] ((105 ∷ 110 ∷ 32 ∷ 102 ∷ 101 ∷
    119 ∷ 32 ∷ 99 ∷ 111 ∷ 108 ∷ 111 ∷ 117 ∷ 114 ∷ 115 ∷ []) ∷ []) 1

fallback_leaks_sweep : (length (runs_of Single script_fallback_leaks_sweep 10000 (shaped 4096 4096) 0).trace ≡ 2) × (least_bad_or_cut Single
    script_fallback_leaks_sweep 10000 (shaped 4096 4096) ≡ None)
unfolding everything
fallback_leaks_sweep = (refl, refl)

abbrev script_grow_then_append_refused_run : Script
script_grow_then_append_refused_run = script [] ((procedure 2 [] (body ((OfPointer None) ∷ (OfPointer None) ∷ OfNumber ∷ []) ((on 6
    (Statement-F.NewText (Held (H.Local 0)) (Constant (pos 5)) GivesNull)) ∷ (on 7 (Statement-F.Append (InCell (Held (H.Local 0))) (Quoted
    0))) ∷ (on 9 (Statement-F.ReallocText (Held (H.Local 1)) (Held (H.Local 0)) (Constant (pos 9)))) ∷ (on 11 (Statement-F.GetMaximum 2
    (InCell (Held (H.Local 1))))) ∷ (on 12 (Statement-F.PrintNumber (Variable 2))) ∷ (on 13 (Statement-F.Append (InCell (Held (H.Local 1)))
    (Quoted 1))) ∷ (on 14 (Statement-F.PrintText (Of (InCell (Held (H.Local 1)))))) ∷ (on 15 (Statement-F.Free (Held (H.Local 1)))) ∷ [])))
    ∷ []) [] ((104 ∷ 101 ∷ 97 ∷ 112 ∷ []) ∷ (32 ∷ 102 ∷ 117 ∷ 108 ∷ 108 ∷ []) ∷ []) 0

grow_then_append_refused_run : run script_grow_then_append_refused_run (R.Number 3) 10000 (shaped 4096 4096) ≡ result (Panicked (P.Workbench
    1)) ((line 1 144 0 Granted) ∷ (line 2 32 144 Granted) ∷ (line 3 48 144 Simulated) ∷ []) [] [] 4
unfolding everything
grow_then_append_refused_run = refl

abbrev script_grow_then_append_run : Script
script_grow_then_append_run = script [] ((procedure 2 [] (body ((OfPointer None) ∷ (OfPointer None) ∷ OfNumber ∷ []) ((on 6
    (Statement-F.NewText (Held (H.Local 0)) (Constant (pos 5)) GivesNull)) ∷ (on 7 (Statement-F.Append (InCell (Held (H.Local 0))) (Quoted
    0))) ∷ (on 9 (Statement-F.ReallocText (Held (H.Local 1)) (Held (H.Local 0)) (Constant (pos 9)))) ∷ (on 11 (Statement-F.GetMaximum 2
    (InCell (Held (H.Local 1))))) ∷ (on 12 (Statement-F.PrintNumber (Variable 2))) ∷ (on 13 (Statement-F.Append (InCell (Held (H.Local 1)))
    (Quoted 1))) ∷ (on 14 (Statement-F.PrintText (Of (InCell (Held (H.Local 1)))))) ∷ (on 15 (Statement-F.Free (Held (H.Local 1)))) ∷ [])))
    ∷ []) [] ((104 ∷ 101 ∷ 97 ∷ 112 ∷ []) ∷ (32 ∷ 102 ∷ 117 ∷ 108 ∷ 108 ∷ []) ∷ []) 0

grow_then_append_run : run script_grow_then_append_run R.Unlimited 10000 (shaped 4096 4096) ≡ result (Ended None []) ((line 1 144 0 Granted)
    ∷ (line 2 32 144 Granted) ∷ (line 3 48 144 Granted) ∷ []) ((49 ∷ 52 ∷ []) ∷ (104 ∷ 101 ∷ 97 ∷ 112 ∷ 32 ∷ 102 ∷ 117 ∷ 108 ∷ 108 ∷ []) ∷
    []) [] 8
unfolding everything
grow_then_append_run = refl

abbrev script_grow_then_append_sweep : Script
script_grow_then_append_sweep = script [] ((procedure 2 [] (body ((OfPointer None) ∷ (OfPointer None) ∷ OfNumber ∷ []) ((on 6
    (Statement-F.NewText (Held (H.Local 0)) (Constant (pos 5)) GivesNull)) ∷ (on 7 (Statement-F.Append (InCell (Held (H.Local 0))) (Quoted
    0))) ∷ (on 9 (Statement-F.ReallocText (Held (H.Local 1)) (Held (H.Local 0)) (Constant (pos 9)))) ∷ (on 11 (Statement-F.GetMaximum 2
    (InCell (Held (H.Local 1))))) ∷ (on 12 (Statement-F.PrintNumber (Variable 2))) ∷ (on 13 (Statement-F.Append (InCell (Held (H.Local 1)))
    (Quoted 1))) ∷ (on 14 (Statement-F.PrintText (Of (InCell (Held (H.Local 1)))))) ∷ (on 15 (Statement-F.Free (Held (H.Local 1)))) ∷ [])))
    ∷ []) [] ((104 ∷ 101 ∷ 97 ∷ 112 ∷ []) ∷ (32 ∷ 102 ∷ 117 ∷ 108 ∷ 108 ∷ []) ∷ []) 0

grow_then_append_sweep : (length (runs_of Single script_grow_then_append_sweep 10000 (shaped 4096 4096) 0).trace ≡ 3) × (least_bad_or_cut
    Single script_grow_then_append_sweep 10000 (shaped 4096 4096) ≡ Some 2) × (runs_of Single script_grow_then_append_sweep 10000 (shaped
    4096 4096) 2 ≡ result (Panicked (P.Workbench 1)) ((line 1 144 0 Granted) ∷ (line 2 32 144 Simulated) ∷ []) [] [] 2)
unfolding everything
grow_then_append_sweep = (refl, refl, refl)

abbrev script_grown_unchecked_check : Script
script_grown_unchecked_check = script [] ((procedure 2 [] (body ((OfPointer None) ∷ []) ((on 4 (Statement-F.NewText (Held (H.Local 0))
    (Constant (pos 4)) GivesNull)) ∷ (on 5 (Statement-F.If (NotNull (Held (H.Local 0))) ((on 6 (Statement-F.Append (InCell (Held (H.Local
    0))) (Quoted 0))) ∷ (on 7 (Statement-F.ReallocText (Held (H.Local 0)) (Held (H.Local 0)) (Constant (pos 40)))) ∷ (on 8
    (Statement-F.Append (InCell (Held (H.Local 0))) (Quoted 1))) ∷ (on 9 (Statement-F.PrintText (Of (InCell (Held (H.Local 0)))))) ∷ (on 10
    (Statement-F.Free (Held (H.Local 0)))) ∷ []))) ∷ []))) ∷ []) [] ((83 ∷ 121 ∷ 109 ∷ []) ∷ (98 ∷ 105 ∷ 97 ∷ 110 ∷ 32 ∷ 79 ∷ 83 ∷ 32 ∷ 118
    ∷ 57 ∷ []) ∷ []) 0

grown_unchecked_check : (required script_grown_unchecked_check 10000 (shaped 4096 4096) ≡ 256) × (rises script_grown_unchecked_check 10000
    (shaped 4096 4096) ≡ (rise 1 144) ∷ (rise 2 176) ∷ (rise 3 256) ∷ []) × (length (runs_of Single script_grown_unchecked_check 10000
    (shaped 4096 4096) 0).trace ≡ 3) × (least_bad_or_cut Single script_grown_unchecked_check 10000 (shaped 4096 4096) ≡ Some 3) × (runs_of
    Single script_grown_unchecked_check 10000 (shaped 4096 4096) 3 ≡ result (Panicked (P.Workbench 1)) ((line 1 144 0 Granted) ∷ (line 2 32
    144 Granted) ∷ (line 3 112 144 Simulated) ∷ []) [] [] 5)
unfolding everything
grown_unchecked_check = (refl, refl, refl, refl, refl)

abbrev script_grown_unchecked_mended_check : Script
script_grown_unchecked_mended_check = script [] ((procedure 2 [] (body ((OfPointer None) ∷ (OfPointer None) ∷ []) ((on 5
    (Statement-F.NewText (Held (H.Local 0)) (Constant (pos 4)) GivesNull)) ∷ (on 6 (Statement-F.If (NotNull (Held (H.Local 0))) ((on 7
    (Statement-F.Append (InCell (Held (H.Local 0))) (Quoted 0))) ∷ (on 8 (Statement-F.ReallocText (Held (H.Local 1)) (Held (H.Local 0))
    (Constant (pos 40)))) ∷ (on 9 (Statement-F.If (NotNull (Held (H.Local 1))) ((on 10 (Statement-F.Set (Held (H.Local 0)) (Held (H.Local
    1)))) ∷ (on 11 (Statement-F.Append (InCell (Held (H.Local 0))) (Quoted 1))) ∷ []))) ∷ (on 14 (Statement-F.PrintText (Of (InCell (Held
    (H.Local 0)))))) ∷ (on 15 (Statement-F.Free (Held (H.Local 0)))) ∷ []))) ∷ []))) ∷ []) [] ((83 ∷ 121 ∷ 109 ∷ []) ∷ (98 ∷ 105 ∷ 97 ∷ 110
    ∷ 32 ∷ 79 ∷ 83 ∷ 32 ∷ 118 ∷ 57 ∷ []) ∷ []) 0

grown_unchecked_mended_check : (required script_grown_unchecked_mended_check 10000 (shaped 4096 4096) ≡ 256) × (rises
    script_grown_unchecked_mended_check 10000 (shaped 4096 4096) ≡ (rise 1 144) ∷ (rise 2 176) ∷ (rise 3 256) ∷ []) × (length (runs_of
    Single script_grown_unchecked_mended_check 10000 (shaped 4096 4096) 0).trace ≡ 3) × (least_bad_or_cut Single
    script_grown_unchecked_mended_check 10000 (shaped 4096 4096) ≡ None)
unfolding everything
grown_unchecked_mended_check = (refl, refl, refl, refl)

abbrev script_half_built_object_check : Script
script_half_built_object_check = script ((class_of 3 0 (None ∷ None ∷ []) (Some (body [] ((on 7 (Statement-F.NewText (Field H.This 0 0)
    (Constant (pos 8)) Leaves)) ∷ (on 8 (Statement-F.Alloc (Field H.This 0 1) (Constant (pos 40)) Leaves)) ∷ []))) (Some (body [] ((on 12
    (Statement-F.Store (Field H.This 0 1) (Constant (pos 0)) (Constant (pos 1)))) ∷ (on 13 (Statement-F.Free (Field H.This 0 1))) ∷ (on 14
    (Statement-F.Free (Field H.This 0 0))) ∷ [])))) ∷ []) ((procedure 18 [] (body ((OfPointer (Some 0)) ∷ []) ((on 20 (Statement-F.New (Held
    (H.Local 0)) 0 Leaves)) ∷ (on 21 (Statement-F.PushObject (Held (H.Local 0)))) ∷ (on 22 (Statement-F.Construct (Held (H.Local 0)))) ∷ (on
    23 (Statement-F.PopDestroy (Constant (pos 1)))) ∷ []))) ∷ []) [] [] 0

half_built_object_check : (required script_half_built_object_check 10000 (shaped 4096 4096) ≡ 304) × (rises script_half_built_object_check
    10000 (shaped 4096 4096) ≡ (rise 1 144) ∷ (rise 2 192) ∷ (rise 3 240) ∷ (rise 4 304) ∷ []) × (length (runs_of Single
    script_half_built_object_check 10000 (shaped 4096 4096) 0).trace ≡ 4) × (least_bad_or_cut Single script_half_built_object_check 10000
    (shaped 4096 4096) ≡ Some 3) × (runs_of Single script_half_built_object_check 10000 (shaped 4096 4096) 3 ≡ result (Panicked (P.Workbench
    1)) ((line 1 144 0 Granted) ∷ (line 2 48 144 Granted) ∷ (line 3 48 192 Simulated) ∷ []) [] [] 7)
unfolding everything
half_built_object_check = (refl, refl, refl, refl, refl)

abbrev script_half_built_object_mended_check : Script
script_half_built_object_mended_check = script ((class_of 2 0 (None ∷ None ∷ []) (Some (body [] ((on 6 (Statement-F.NewText (Field H.This 0
    0) (Constant (pos 8)) Leaves)) ∷ (on 7 (Statement-F.Alloc (Field H.This 0 1) (Constant (pos 40)) Leaves)) ∷ []))) (Some (body [] ((on 10
    (Statement-F.If (NotNull (Field H.This 0 1)) ((on 11 (Statement-F.Store (Field H.This 0 1) (Constant (pos 0)) (Constant (pos 1)))) ∷
    []))) ∷ (on 13 (Statement-F.Free (Field H.This 0 1))) ∷ (on 14 (Statement-F.Free (Field H.This 0 0))) ∷ [])))) ∷ []) ((procedure 18 []
    (body ((OfPointer (Some 0)) ∷ []) ((on 20 (Statement-F.New (Held (H.Local 0)) 0 Leaves)) ∷ (on 21 (Statement-F.PushObject (Held (H.Local
    0)))) ∷ (on 22 (Statement-F.Construct (Held (H.Local 0)))) ∷ (on 23 (Statement-F.PopDestroy (Constant (pos 1)))) ∷ []))) ∷ []) [] [] 0

half_built_object_mended_check : (required script_half_built_object_mended_check 10000 (shaped 4096 4096) ≡ 304) × (rises
    script_half_built_object_mended_check 10000 (shaped 4096 4096) ≡ (rise 1 144) ∷ (rise 2 192) ∷ (rise 3 240) ∷ (rise 4 304) ∷ []) ×
    (length (runs_of Single script_half_built_object_mended_check 10000 (shaped 4096 4096) 0).trace ≡ 4) × (least_bad_or_cut Single
    script_half_built_object_mended_check 10000 (shaped 4096 4096) ≡ None)
unfolding everything
half_built_object_mended_check = (refl, refl, refl, refl)

abbrev script_hole_reused_run : Script
script_hole_reused_run = script [] ((procedure 2 [] (body ((OfPointer None) ∷ (OfPointer None) ∷ (OfPointer None) ∷ OfNumber ∷ []) ((on 7
    (Statement-F.Alloc (Held (H.Local 0)) (Constant (pos 48)) GivesNull)) ∷ (on 8 (Statement-F.Alloc (Held (H.Local 1)) (Constant (pos 16))
    GivesNull)) ∷ (on 9 (Statement-F.Store (Held (H.Local 1)) (Constant (pos 0)) (Constant (pos 7)))) ∷ (on 10 (Statement-F.Alloc (Held
    (H.Local 2)) (Constant (pos 16)) GivesNull)) ∷ (on 12 (Statement-F.Free (Held (H.Local 0)))) ∷ (on 14 (Statement-F.Realloc (Held
    (H.Local 1)) (Held (H.Local 1)) (Constant (pos 40)) GivesNull)) ∷ (on 16 (Statement-F.Load 3 (Held (H.Local 1)) (Constant (pos 0)))) ∷
    (on 17 (Statement-F.PrintNumber (Variable 3))) ∷ (on 19 (Statement-F.SetNull (Held (H.Local 0)))) ∷ (on 21 (Statement-F.Realloc (Held
    (H.Local 0)) (Held (H.Local 0)) (Constant (pos 16)) GivesNull)) ∷ (on 22 (Statement-F.Free (Held (H.Local 0)))) ∷ (on 23
    (Statement-F.Free (Held (H.Local 2)))) ∷ (on 24 (Statement-F.Free (Held (H.Local 1)))) ∷ []))) ∷ []) [] [] 0

hole_reused_run : run script_hole_reused_run R.Unlimited 10000 (shaped 4096 4096) ≡ result (Ended None []) ((line 1 144 0 Granted) ∷ (line 2
    64 144 Granted) ∷ (line 3 32 208 Granted) ∷ (line 4 32 240 Granted) ∷ (line 5 64 144 Granted) ∷ (line 6 32 208 Granted) ∷ []) ((55 ∷ [])
    ∷ []) [] 13
unfolding everything
hole_reused_run = refl

abbrev script_holes_size : Script
script_holes_size = script [] ((procedure 2 [] (body ((OfPointer None) ∷ (OfPointer None) ∷ (OfPointer None) ∷ []) ((on 6 (Statement-F.Alloc
    (Held (H.Local 0)) (Constant (pos 112)) GivesNull)) ∷ (on 7 (Statement-F.Alloc (Held (H.Local 1)) (Constant (pos 16)) GivesNull)) ∷ (on
    9 (Statement-F.Free (Held (H.Local 0)))) ∷ (on 11 (Statement-F.Alloc (Held (H.Local 2)) (Constant (pos 240)) GivesNull)) ∷ (on 12
    (Statement-F.Free (Held (H.Local 1)))) ∷ (on 13 (Statement-F.Free (Held (H.Local 2)))) ∷ []))) ∷ []) [] [] 0

holes_size : (required script_holes_size 10000 (shaped 4096 4096) ≡ 560) × (rises script_holes_size 10000 (shaped 4096 4096) ≡ (rise 1 144)
    ∷ (rise 2 272) ∷ (rise 3 304) ∷ (rise 4 560) ∷ [])
unfolding everything
holes_size = (refl, refl)
