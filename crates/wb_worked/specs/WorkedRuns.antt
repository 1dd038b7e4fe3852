-- What runs under sets come to, of `three_tries`. Attempts 4 and 5 of it are made only where those before them failed.
use Rattle.std.specs.Prelude.{◌≡◌, ℕ, List, [], ◌∷◌}
use Rattle.wb_heap_model.specs.declared.heap.Answer.TheVariants.{Granted, Simulated}
use Rattle.wb_heap_model.specs.declared.heap.Rule.TheVariants as rules
use Rattle.wb_meaning.specs.declared.run.Outcome.TheVariants.{NoCleanup}
use Rattle.wb_meaning.specs.declared.run.RunResult.{RunResult}
use Rattle.wb_meaning.specs.Run.{run}
use Rattle.wb_runs.specs.Sets.{refused_numbers, set_run, IsSet}
use Rattle.wb_worked.specs.Shorthands.{line, result}
use Rattle.wb_worked.specs.WorkedScripts.{three_tries, heap, first, cell, ended_after, three_fail}

-- the run of `three_tries` in which the attempts of a set fail
abbrev pub under : List ℕ → RunResult
under numbers = set_run three_tries 10000 heap numbers

-- Under the empty set three attempts are made, and all are granted.
abbrev pub NoneFails : Type 0
NoneFails = under [] ≡ ended_after (first ∷ cell 2 144 Granted ∷ cell 3 176 Granted ∷ []) 5

-- Under {3} a fourth attempt is made, and it is granted.
abbrev pub OneFails : Type 0
OneFails = under (3 ∷ []) ≡ ended_after (first ∷ cell 2 144 Granted ∷ cell 3 176 Simulated ∷ cell 4 176 Granted ∷ []) 7

-- Under {3, 4} a fifth is made too, and nothing leaks.
abbrev pub TwoFail : Type 0
TwoFail =
    under (3 ∷ 4 ∷ []) ≡ ended_after (first ∷ cell 2 144 Granted ∷ cell 3 176 Simulated ∷ cell 4 176 Simulated ∷ cell 5 176 Granted ∷ []) 9

-- Under {3, 4, 5} the script leaves, and the cell of attempt 2 leaks.
abbrev pub ThreeFail : Type 0
ThreeFail = under (3 ∷ 4 ∷ 5 ∷ []) ≡ three_fail

-- Under {1} nothing begins, and no other attempt is made.
abbrev pub FirstFails : Type 0
FirstFails = under (1 ∷ []) ≡ result NoCleanup (line 1 144 0 Simulated ∷ []) [] [] 0

-- Under {4} nothing fails, since attempt 4 isn't made where attempt 3 is granted.
abbrev pub UnmadeAlone : Type 0
UnmadeAlone = under (4 ∷ []) ≡ under []

-- {3, 5} isn't all from 3 to 5: attempt 4 is granted, so attempt 5 isn't made, and the run is that under {3}.
abbrev pub UnmadeAfterAnother : Type 0
UnmadeAfterAnother = under (3 ∷ 5 ∷ []) ≡ under (3 ∷ [])

-- A set of one number gives the run under the rule `Number`.
abbrev pub OneIsNumber : Type 0
OneIsNumber = under (3 ∷ []) ≡ run three_tries (rules.Number 3) 10000 heap

-- A set of two numbers gives the run under the rule `Pair`: both count from 1, the second not from the first.
abbrev pub TwoArePair : Type 0
TwoArePair = under (3 ∷ 4 ∷ []) ≡ run three_tries (rules.Pair 3 4) 10000 heap

-- What the rule `From 3` refuses of this script is the set {3, 4, 5}.
abbrev pub PersistentIsSet : Type 0
PersistentIsSet = refused_numbers (run three_tries (rules.From 3) 10000 heap).trace ≡ 3 ∷ 4 ∷ 5 ∷ []

-- A heap of 176 bytes refuses the same attempts.
abbrev pub LimitIsSet : Type 0
LimitIsSet = refused_numbers (run three_tries (rules.Limit 176) 10000 heap).trace ≡ 3 ∷ 4 ∷ 5 ∷ []

-- The numbers of a set ascend from 1 on: not {0}, not {3, 3}, and not {4, 3}.
abbrev pub NumbersAscend : Type 0
NumbersAscend = IsSet (3 ∷ 4 ∷ 5 ∷ []) × (IsSet (0 ∷ []) → ⊥) × (IsSet (3 ∷ 3 ∷ []) → ⊥) × (IsSet (4 ∷ 3 ∷ []) → ⊥)
