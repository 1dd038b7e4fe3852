-- What is told of parts of a script's numbers, and the order of failures: each example is proved by computing.
use Rattle.std.specs.Prelude.{◌≡◌, ℕ, pos, [], ◌∷◌, true, false, Some, None}
use Rattle.std.proofs.Common.{refl}
use Rattle.wb_runs.specs.declared.failures.Failing.TheVariants as failings
use Rattle.wb_runs.specs.declared.failures.Failures.TheVariants.{Single}
use Rattle.wb_runs.specs.declared.number_ends.NumberEnd.{NumberEnd}
use Rattle.wb_runs.specs.declared.part.Part.{Part}
use Rattle.wb_meaning.specs.declared.run.RunResult.{RunResult}
use Rattle.wb_runs.specs.declared.run_end.RunEnd.{RunEnd}
use Rattle.wb_runs.specs.declared.run_end.RunEnd.TheVariants.{Leaked}
use Rattle.wb_tree.specs.declared.script.Holder.TheVariants as H
use Rattle.wb_tree.specs.declared.script.Local.TheVariants.{OfPointer}
use Rattle.wb_tree.specs.declared.script.Number.TheVariants.{Constant}
use Rattle.wb_tree.specs.declared.script.Pointer.TheVariants.{Held}
use Rattle.wb_tree.specs.declared.script.Refusal.TheVariants.{Leaves}
use Rattle.wb_tree.specs.declared.script.Script.{Script}
use Rattle.wb_tree.specs.declared.script.Statement.TheOpen.{Statement-F}
use Rattle.wb_runs.specs.AllNumbers.{bad_count, first_bad, unfine_in}
use Rattle.wb_runs.specs.Parts.{comes_before}
use Rattle.wb_runs.specs.Sweeps.{runs_of}
use Rattle.wb_worked.specs.Shorthands.{everything, on, script, procedure, body, shaped}

abbrev part : ℕ → ℕ → Part
part from to = record { from = from; to = to }

abbrev told : ℕ → RunEnd → NumberEnd
told number end = record { number = number; end = end }

-- ---- the order of failures

single_before_two : comes_before (failings.Number 9) (failings.Pair 1 2) ≡ true
single_before_two = refl

two_after_single : comes_before (failings.Pair 1 2) (failings.Number 9) ≡ false
two_after_single = refl

first_number_tells : comes_before (failings.Pair 1 9) (failings.Pair 2 3) ≡ true
first_number_tells = refl

second_number_tells : comes_before (failings.Pair 2 3) (failings.Pair 2 9) ≡ true
second_number_tells = refl

none_before_itself : comes_before (failings.Pair 2 3) (failings.Pair 2 3) ≡ false
none_before_itself = refl

-- ---- a script of four attempts, of which the third and the fourth leak what came before

abbrev three_cells : Script
three_cells = script [] ((procedure 1 [] (body ((OfPointer None) ∷ (OfPointer None) ∷ (OfPointer None) ∷ [])
    ((on 5 (Statement-F.Alloc (Held (H.Local 0)) (Constant (pos 16)) Leaves)) ∷ (on 6 (Statement-F.Alloc (Held (H.Local 1)) (Constant (pos 16)) Leaves))
    ∷ (on 7 (Statement-F.Alloc (Held (H.Local 2)) (Constant (pos 16)) Leaves)) ∷ (on 8 (Statement-F.Free (Held (H.Local 0))))
    ∷ (on 9 (Statement-F.Free (Held (H.Local 1)))) ∷ (on 10 (Statement-F.Free (Held (H.Local 2)))) ∷ []))) ∷ []) [] [] 0

abbrev numbers : ℕ → RunResult
numbers = runs_of Single three_cells 10000 (shaped 4096 4096)

whole_part : unfine_in numbers (part 0 9) ≡ told 3 (Leaked 1) ∷ told 4 (Leaked 2) ∷ []
unfolding everything
whole_part = refl

part_from_the_last : unfine_in numbers (part 4 9) ≡ told 4 (Leaked 2) ∷ []
unfolding everything
part_from_the_last = refl

part_before_the_last : unfine_in numbers (part 0 3) ≡ told 3 (Leaked 1) ∷ []
unfolding everything
part_before_the_last = refl

part_that_is_fine : unfine_in numbers (part 0 2) ≡ []
unfolding everything
part_that_is_fine = refl

part_past_the_last : unfine_in numbers (part 5 9) ≡ []
unfolding everything
part_past_the_last = refl

both_leak : bad_count (told 3 (Leaked 1) ∷ told 4 (Leaked 2) ∷ []) ≡ 2
both_leak = refl

third_is_first : first_bad (told 3 (Leaked 1) ∷ told 4 (Leaked 2) ∷ []) ≡ Some 3
third_is_first = refl
