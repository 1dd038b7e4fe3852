-- What the lines of a run's trace say: which attempts the run asked for, and who answered them.
use Rattle.std.specs.Prelude.{◌≡◌, ◌⊎◌, ℕ, ◌+◌, ◌<◌, ◌≤◌, List, [], ◌∷◌, true, Option, Some, None}
use Rattle.wb_basics.specs.declared.limits.TheConstants.{CEILING}
use Rattle.wb_heap_model.specs.declared.heap.Rule.{Rule}
use Rattle.wb_heap_model.specs.declared.heap.Answer.{Answer}
use Rattle.wb_heap_model.specs.declared.heap.Answer.TheVariants.{Granted, Simulated, Refused}
use Rattle.wb_heap_model.specs.declared.heap.Attempt.{Attempt}
use Rattle.wb_heap_model.specs.Rules.{Request, is_due, limit_of, refusal_of, unless_refused, answer_to}
use Rattle.wb_meaning.specs.State.{Process, ends, stops, asks, notes}
use Rattle.wb_heap_model.specs.Reported.{end_of_attempt}

-- what a rule refuses of an attempt with this number, place and length
abbrev pub refusal_by : Rule → Attempt → Option Answer
refusal_by rule t = refusal_of rule t.number (end_of_attempt t)

-- what a rule and the ceiling say of it, where the script's own setting leaves it to them
abbrev pub answer_by : Rule → Attempt → Option Answer
answer_by rule t = unless_refused (refusal_by rule t) (end_of_attempt t)

-- an attempt, and those after its answer; one that the ceiling cuts has none
abbrev pub asked_before : Option Answer → Request → (Answer → List Request) → List Request
asked_before None t rest = []
asked_before (Some answer) t rest = t ∷ rest answer

-- the attempts that a process asks for under a rule, in order, once a number of them were made
abbrev pub asked_for : Rule → ℕ → Process → List Request
asked_for rule made (ends way st) = []
asked_for rule made (stops stop st) = []
asked_for rule made (asks t cut go) =
    asked_before (answer_to rule (made + 1) t) t (λ answer. asked_for rule (made + 1) (go (made + 1) answer))
asked_for rule made (notes q p) = asked_for rule made p

-- each attempt of a process tells whether the script's own setting refuses it, as that setting is at the time
abbrev pub TellsSettings : Process → Type 0
TellsSettings (ends way st) = Unit {0}
TellsSettings (stops stop st) = Unit {0}
TellsSettings (asks t cut go) = (t.due ≡ is_due cut.heap.setting) × ((number : ℕ) (answer : Answer) → TellsSettings (go number answer))
TellsSettings (notes q p) = TellsSettings p

-- the line of an attempt that was asked for, once a number of them were made
pub record IsLine (rule : Rule) (made : ℕ) (asked : Request) (t : Attempt) : Type 0 where
  pub number : t.number ≡ made + 1
  pub length : t.length ≡ asked.length
  pub place : t.place ≡ asked.place
  -- the rule leaves the attempt open, and its cell ends within the ceiling
  pub granted : t.answer ≡ Granted → (refusal_by rule t ≡ None) × (end_of_attempt t ≤ CEILING)
  -- the rule is a limit, and the cell would end past it
  pub refused : t.answer ≡ Refused → (limit : ℕ) × (limit_of rule ≡ Some limit) × (limit < end_of_attempt t)
  -- the script's own setting refuses the attempt, or the rule lets it fail
  pub simulated : t.answer ≡ Simulated → (asked.due ≡ true) ⊎ (refusal_by rule t ≡ Some Simulated)
  -- and what the setting refuses isn't answered otherwise
  pub due : asked.due ≡ true → t.answer ≡ Simulated

-- the lines of attempts that were asked for, once a number of them were made
abbrev pub AreAnsweredLines : Rule → ℕ → List Request → List Attempt → Type 0
AreAnsweredLines rule made [] [] = Unit {0}
AreAnsweredLines rule made [] (t ∷ ts) = ⊥
AreAnsweredLines rule made (asked ∷ rest) [] = ⊥
AreAnsweredLines rule made (asked ∷ rest) (t ∷ ts) = IsLine rule made asked t × AreAnsweredLines rule (made + 1) rest ts
