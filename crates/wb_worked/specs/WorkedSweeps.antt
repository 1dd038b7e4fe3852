-- What sweeps over sets find, of both scripts: the least bad set of three, that fewer failures show nothing, and what parts find.
use Rattle.std.specs.Prelude.{◌≡◌, ℕ, [], ◌∷◌, true}
use Rattle.wb_runs.specs.EverySet.{IsLeastSetFoundIn, IsNoSetOfAnySizeIn}
use Rattle.wb_meaning.specs.Run.{is_bad}
use Rattle.wb_runs.specs.Met.{AreManyStatesIn, IsMetIn}
use Rattle.wb_runs.specs.SetAnswers.{found, least_set_of}
use Rattle.wb_runs.specs.SetParts.{IsNoSetIn, IsSetFoundIn}
use Rattle.wb_runs.specs.Sets.{set_comes_before, AreMade, AreSetsFine, IsLeastBadSet}
use Rattle.wb_runs.specs.Sweeps.{is_fine}
use Rattle.wb_worked.specs.WorkedScripts.{three_tries, two_tries_each, heap, three_fail, second_fails, second_fails_later, from_to}
use Rattle.wb_worked.specs.WorkedRuns.{under}

-- {3, 4, 5} is the least bad set of `three_tries`: no set of at most two shows anything, and no lesser set of three.
abbrev pub ThreeIsLeast : Type 0
ThreeIsLeast = IsLeastBadSet three_tries 10000 heap (3 ∷ 4 ∷ 5 ∷ []) three_fail

-- Each of its attempts is made where those before it fail.
abbrev pub ThreeAreMade : Type 0
ThreeAreMade = AreMade three_tries 10000 heap (3 ∷ 4 ∷ 5 ∷ [])

-- {2, 3, 4} is a lesser set of three of which each attempt is made, and its run is fine.
abbrev pub LesserIsFine : Type 0
LesserIsFine =
    (set_comes_before (2 ∷ 3 ∷ 4 ∷ []) (3 ∷ 4 ∷ 5 ∷ []) ≡ true)
    × AreMade three_tries 10000 heap (2 ∷ 3 ∷ 4 ∷ [])
    × (is_fine (under (2 ∷ 3 ∷ 4 ∷ [])) ≡ true)

-- A larger set needn't be bad: where attempt 2 fails too, no cell is left to leak.
abbrev pub LargerIsFine : Type 0
LargerIsFine = is_fine (under (2 ∷ 3 ∷ 4 ∷ 5 ∷ [])) ≡ true

-- `set none to 2` and `cut states`, as after 7 states: all sets of at most two attempts are fine, and yet one of three is bad.
abbrev pub TwoShowNothing : Type 0
TwoShowNothing = AreSetsFine three_tries 10000 heap 2 × (is_bad (under (3 ∷ 4 ∷ 5 ∷ [])) ≡ true)

-- So `set none to 3` would be wrong.
abbrev pub ThreeShowIt : Type 0
ThreeShowIt = AreSetsFine three_tries 10000 heap 3 → ⊥

-- ---- parts of `three_tries`

-- No set whose least number is at most 2 shows anything, however many numbers it has.
abbrev pub NoneBelow : Type 0
NoneBelow = IsNoSetOfAnySizeIn (from_to 0 2) three_tries 10000 heap

-- The part from 3 to 3 has the set {3, 4, 5}, and finds it.
abbrev pub FoundAtThree : Type 0
FoundAtThree = IsLeastSetFoundIn (from_to 3 3) three_tries 10000 heap (3 ∷ 4 ∷ 5 ∷ []) three_fail

-- With at most two failures that part finds none.
abbrev pub NoPairAtThree : Type 0
NoPairAtThree = IsNoSetIn (from_to 3 3) 2 three_tries 10000 heap

-- From 4 on no set is tried, since the run without failure makes three attempts.
abbrev pub NonePast : Type 0
NonePast = IsNoSetOfAnySizeIn (from_to 4 9) three_tries 10000 heap

-- ---- `set none to 1` and `cut states`, of a search over `three_tries` that may meet 4 states

-- The runs of all sets of one attempt are fine.
abbrev pub OneShowsNothing : Type 0
OneShowsNothing = AreSetsFine three_tries 10000 heap 1

-- Under sets of at most two attempts, which are tried of the part from 1 on, more than 4 states are met.
abbrev pub MoreThanFourAreMet : Type 0
MoreThanFourAreMet = AreManyStatesIn (from_to 1 9) 2 4 three_tries 10000 heap

-- Attempt 4 isn't made under {2, 4}, so that set has no state of its own.
abbrev pub UnmadeHasNoState : Type 0
UnmadeHasNoState = (attempts : ℕ) → IsMetIn (from_to 1 9) 2 three_tries 10000 heap (2 ∷ 4 ∷ []) attempts → ⊥

-- ---- parts of `two_tries_each`

-- The part from 2 to 2 finds {2, 4, 5}, where at most three attempts fail.
abbrev pub FoundAtTwo : Type 0
FoundAtTwo = IsSetFoundIn (from_to 2 2) 3 two_tries_each 10000 heap (2 ∷ 4 ∷ 5 ∷ []) second_fails_later

-- Where at most two fail, it finds none.
abbrev pub NoPairAtTwo : Type 0
NoPairAtTwo = IsNoSetIn (from_to 2 2) 2 two_tries_each 10000 heap

-- The part from 3 on finds {3, 4}.
abbrev pub FoundFromThree : Type 0
FoundFromThree = IsLeastSetFoundIn (from_to 3 9) two_tries_each 10000 heap (3 ∷ 4 ∷ []) second_fails

-- Of both the shorter set is the lesser, although its first number is greater.
abbrev pub ShorterIsLess : Type 0
ShorterIsLess =
    least_set_of (found (2 ∷ 4 ∷ 5 ∷ []) second_fails_later) (found (3 ∷ 4 ∷ []) second_fails) ≡ found (3 ∷ 4 ∷ []) second_fails

-- And that one is what the whole finds.
abbrev pub WholeFindsShorter : Type 0
WholeFindsShorter = IsLeastBadSet two_tries_each 10000 heap (3 ∷ 4 ∷ []) second_fails
