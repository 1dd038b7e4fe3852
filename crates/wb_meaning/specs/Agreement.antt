-- The Agreement law: two rules give the same run up to the first attempt that they answer differently.
use Rattle.std.specs.Prelude.{◌≡◌, ◌≢◌, ◌≤◌, ℕ, ◌+◌, List, ◌∷◌, ◌++◌, ◌⊎◌, Some, None, IsSome, length, slice_get}
use Rattle.wb_heap_model.specs.declared.heap.Rule.{Rule}
use Rattle.wb_heap_model.specs.declared.heap.Shape.{Shape}
use Rattle.wb_heap_model.specs.declared.heap.Answer.TheVariants.{Granted}
use Rattle.wb_heap_model.specs.declared.heap.Attempt.{Attempt}
use Rattle.wb_meaning.specs.declared.run.Why.TheVariants.{Ceiling}
use Rattle.wb_meaning.specs.declared.run.Outcome.TheVariants.{Cut}
use Rattle.wb_meaning.specs.declared.run.RunResult.{RunResult}
use Rattle.wb_tree.specs.declared.script.Script.{Script}
use Rattle.wb_heap_model.specs.Rules.{refusal_of}
use Rattle.wb_meaning.specs.Run.{run}
use Rattle.wb_meaning.specs.Traces.{refusal_by, answer_by}
use Rattle.wb_heap_model.specs.SameRules.{IsNoLimit}

-- of the attempts, which count from 1, the second rule refuses at least what the first refuses
abbrev pub RefusesAtLeast : Rule → Rule → Type 0
RefusesAtLeast r s = (number end : ℕ) → 1 ≤ number → IsSome (refusal_of r number end) → IsSome (refusal_of s number end)

-- a rule refuses none of the attempts that a trace tells as granted
abbrev pub RefusesNoGrant : Rule → List Attempt → Type 0
RefusesNoGrant s trace = (k : ℕ) (t : Attempt) → slice_get trace k ≡ Some t → t.answer ≡ Granted → refusal_by s t ≡ None

-- equal but for notes
pub record IsSameButNotes (x y : RunResult) : Type 0 where
  pub outcome : y.outcome ≡ x.outcome
  pub trace : y.trace ≡ x.trace
  pub lines : y.lines ≡ x.lines
  pub steps : y.steps ≡ x.steps

-- the same run, but for notes where one of the rules is a limit
pub record IsSameRun (r s : Rule) (x y : RunResult) : Type 0 where
  pub but_notes : IsSameButNotes x y
  pub notes_too : IsNoLimit r → IsNoLimit s → y ≡ x

-- The same lines, and then an attempt that is answered otherwise. The script's own setting leaves it to the rules: the first
-- answer is what the first rule and the ceiling say, and the second answer is the second rule's refusal.
pub record PartsAt (r s : Rule) (x y : List Attempt) : Type 0 where
  pub before : List Attempt
  pub one : Attempt
  pub other : Attempt
  pub after_one : List Attempt
  pub after_other : List Attempt
  pub is_one : x ≡ before ++ one ∷ after_one
  pub is_other : y ≡ before ++ other ∷ after_other
  pub counted : one.number ≡ length before + 1
  pub number : other.number ≡ one.number
  pub length : other.length ≡ one.length
  pub place : other.place ≡ one.place
  pub answered : answer_by r one ≡ Some one.answer
  pub refused : refusal_by s other ≡ Some other.answer
  pub answer : other.answer ≢ one.answer

-- Where the second rule refuses at least what the first refuses, and the ceiling doesn't cut the first run, the runs are the
-- same, but for notes where one rule is a limit; or they part at one attempt that the rules answer otherwise.
abbrev pub Agrees : Script → ℕ → Shape → Rule → Rule → Type 0
Agrees script budget shape r s =
    RefusesAtLeast r s → (run script r budget shape).outcome ≢ Cut Ceiling →
    IsSameRun r s (run script r budget shape) (run script s budget shape) ⊎ PartsAt r s (run script r budget shape).trace (run script s budget shape).trace
