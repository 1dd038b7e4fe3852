-- Sets of attempts that fail. Attempts count from 1, and the numbers of a set ascend. A set comes before those that have more numbers, and
-- of two that have as many the one comes first that has the lesser number where they first differ.
use Rattle.std.specs.Prelude.{◌≡◌, ℕ, ◌<◌, ◌≤◌, List, [], ◌∷◌, ◌++◌, Bool, true, false, ◌&&◌, ◌||◌, nat_eq, nat_lt, length, map}
use Rattle.wb_heap_model.specs.declared.heap.Answer.{Answer}
use Rattle.wb_heap_model.specs.declared.heap.Answer.TheVariants.{Granted, Simulated}
use Rattle.wb_heap_model.specs.declared.heap.Attempt.{Attempt}
use Rattle.wb_heap_model.specs.declared.heap.Rule.TheVariants as rules
use Rattle.wb_heap_model.specs.declared.heap.Shape.{Shape}
use Rattle.wb_meaning.specs.declared.run.Outcome.TheVariants.{Cut}
use Rattle.wb_meaning.specs.declared.run.RunResult.{RunResult}
use Rattle.wb_meaning.specs.declared.run.Why.{Why}
use Rattle.wb_tree.specs.declared.script.Script.{Script}
use Rattle.wb_meaning.specs.Run.{run, is_bad}
use Rattle.wb_runs.specs.Sweeps.{is_fine}

-- the run in which the attempts of a set fail
abbrev pub set_run : Script → ℕ → Shape → List ℕ → RunResult
set_run script budget shape numbers = run script (rules.Set numbers) budget shape

-- each number is greater than the one before it, the first than this one
abbrev pub AscendsPast : ℕ → List ℕ → Type 0
AscendsPast before [] = Unit {0}
AscendsPast before (n ∷ ns) = (before < n) × AscendsPast n ns

-- the numbers of a set
abbrev pub IsSet : List ℕ → Type 0
IsSet numbers = AscendsPast 0 numbers

-- the lesser number is the first's, where the two first differ
abbrev pub has_lesser_number : List ℕ → List ℕ → Bool
has_lesser_number (m ∷ ms) (n ∷ ns) = nat_lt m n || (nat_eq m n && has_lesser_number ms ns)
has_lesser_number _ _ = false

-- the order of sets
abbrev pub set_comes_before : List ℕ → List ℕ → Bool
set_comes_before a b = nat_lt (length a) (length b) || (nat_eq (length a) (length b) && has_lesser_number a b)

-- the run of each set of at most so many attempts is neither bad nor cut
abbrev pub AreSetsFine : Script → ℕ → Shape → ℕ → Type 0
AreSetsFine script budget shape most =
    (numbers : List ℕ) → IsSet numbers → length numbers ≤ most → is_fine (set_run script budget shape numbers) ≡ true

-- so is that of each set, however many attempts it has
abbrev pub AreAllSetsFine : Script → ℕ → Shape → Type 0
AreAllSetsFine script budget shape = (numbers : List ℕ) → IsSet numbers → is_fine (set_run script budget shape numbers) ≡ true

-- the run of each set that comes before one is neither bad nor cut
abbrev pub AreSetsFineBefore : Script → ℕ → Shape → List ℕ → Type 0
AreSetsFineBefore script budget shape numbers =
    (other : List ℕ) → IsSet other → set_comes_before other numbers ≡ true → is_fine (set_run script budget shape other) ≡ true

-- the least set whose run leaks or panics, and that run; no lesser set's run is cut
pub record IsLeastBadSet (script : Script) (budget : ℕ) (shape : Shape) (numbers : List ℕ) (result : RunResult) : Type 0 where
  pub set : IsSet numbers
  pub bad : is_bad (set_run script budget shape numbers) ≡ true
  pub least : AreSetsFineBefore script budget shape numbers
  pub run_is : result ≡ set_run script budget shape numbers

-- the least set whose run is cut, and why; no lesser set's run leaks or panics
pub record IsLeastCutSet (script : Script) (budget : ℕ) (shape : Shape) (numbers : List ℕ) (why : Why) : Type 0 where
  pub set : IsSet numbers
  pub cut : (set_run script budget shape numbers).outcome ≡ Cut why
  pub least : AreSetsFineBefore script budget shape numbers

-- each number is that of an attempt which the run makes in which those before it fail, these first
abbrev pub AreMadeAfter : Script → ℕ → Shape → List ℕ → List ℕ → Type 0
AreMadeAfter script budget shape before [] = Unit {0}
AreMadeAfter script budget shape before (n ∷ ns) =
    (n ≤ length (set_run script budget shape before).trace) × AreMadeAfter script budget shape (before ++ n ∷ []) ns

abbrev pub AreMade : Script → ℕ → Shape → List ℕ → Type 0
AreMade script budget shape numbers = AreMadeAfter script budget shape [] numbers

-- ---- what other rules refuse

abbrev pub is_granted : Answer → Bool
is_granted Granted = true
is_granted _ = false

-- an answer, where each refusal is simulated
abbrev pub simulated_too : Answer → Answer
simulated_too Granted = Granted
simulated_too _ = Simulated

abbrev pub with_number_if_refused : Answer → ℕ → List ℕ → List ℕ
with_number_if_refused Granted number rest = rest
with_number_if_refused _ number rest = number ∷ rest

-- the numbers of the attempts that weren't granted
abbrev pub refused_numbers : List Attempt → List ℕ
refused_numbers [] = []
refused_numbers (t ∷ ts) = with_number_if_refused t.answer t.number (refused_numbers ts)

-- the same line, but that a refusal is simulated
abbrev pub as_simulated : Attempt → Attempt
as_simulated t = record t { answer = simulated_too t.answer }

-- equal but for notes, and for how the trace names refusals
pub record IsSameButRefusals (x y : RunResult) : Type 0 where
  pub outcome : y.outcome ≡ x.outcome
  pub trace : y.trace ≡ map as_simulated x.trace
  pub lines : y.lines ≡ x.lines
  pub steps : y.steps ≡ x.steps
