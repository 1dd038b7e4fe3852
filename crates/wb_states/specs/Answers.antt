-- What a search over states finds.
use Rattle.std.specs.Prelude.{◌≡◌, ℕ, ◌+◌, ◌≤◌, Bool, List, length, true, false, max, IfSome}
use Rattle.wb_runs.specs.declared.failures.Failures.TheVariants.{Single}
use Rattle.wb_heap_model.specs.declared.heap.Shape.{Shape}
use Rattle.wb_runs.specs.declared.part.Part.{Part}
use Rattle.wb_tree.specs.declared.script.Script.{Script}
use Rattle.wb_runs.specs.Parts.{last_attempt}
use Rattle.wb_runs.specs.SetParts.{AreSetsFineInBefore, IsSetOf}
use Rattle.wb_runs.specs.Sets.{set_comes_before, set_run}
use Rattle.wb_runs.specs.Sweeps.{is_fine}
use Rattle.wb_states.specs.declared.searching.Looked.{Looked}
use Rattle.wb_states.specs.declared.searching.Looked.TheVariants.{Known, GoesOn}
use Rattle.wb_states.specs.declared.searching.Searched.{Searched}
use Rattle.wb_states.specs.declared.searching.Searched.TheVariants as found
use Rattle.wb_states.specs.declared.state.Shown.{Shown}
use Rattle.wb_states.specs.Ground.{run_of, Ground, IsTriedSet}
use Rattle.wb_states.specs.Many.{IsMetOf}
use Rattle.wb_runs.specs.Met.{AreMoreThan}
use Rattle.wb_states.specs.States.{IsShown}

-- the runs of the sets that are tried, and for which something holds, are neither bad nor cut
abbrev pub AreFineWhere : Ground → (List ℕ → Type 0) → Type 0
AreFineWhere g Holds = (numbers : List ℕ) → IsTriedSet g numbers → Holds numbers → is_fine (run_of g numbers) ≡ true

-- More states were met than are allowed, under sets of one attempt more at most. That the run without failure is fine is known before.
pub record IsAnswerOfMany (g : Ground) (fewer : ℕ) : Type 0 where
  pub fine : 1 ≤ fewer → AreFineWhere g (λ numbers. length numbers ≤ fewer)
  pub many : AreMoreThan g.allowed (IsMetOf g (fewer + 1))

-- what is found is true
abbrev pub IsAnswer : Ground → Searched → Type 0
IsAnswer g (found.Shown shown) = IsShown g shown × AreFineWhere g (λ numbers. set_comes_before numbers shown.numbers ≡ true)
IsAnswer g found.Fine = AreFineWhere g (λ numbers. Unit {0})
IsAnswer g (found.FineTo most) = AreFineWhere g (λ numbers. length numbers ≤ most)
IsAnswer g (found.ManyStates fewer) = IsAnswerOfMany g fewer

abbrev pub IsLookedTo : Ground → Looked → Type 0
IsLookedTo g (Known answer) = IfSome answer (IsAnswer g)
IsLookedTo g GoesOn = Unit {0}

-- an answer where it is known that no single failure shows anything
abbrev pub at_least_one : Searched → Searched
at_least_one (found.FineTo most) = found.FineTo (max most 1)
at_least_one (found.ManyStates fewer) = found.ManyStates (max fewer 1)
at_least_one answer = answer

-- all sets are tried only of a part that begins with number 0 and goes to the last attempt
pub record IsWholeIf (whole : Bool) (part : Part) (last : ℕ) : Type 0 where
  pub start : whole ≡ true → part.from ≡ 0
  pub end : whole ≡ true → last ≤ part.to

-- the least set that is tried of a part whose run is bad or cut, and that run
pub record IsLeastShownIn (part : Part) (script : Script) (budget : ℕ) (shape : Shape) (shown : Shown) : Type 0 where
  pub tried : IsSetOf part (last_attempt Single script budget shape) shown.numbers
  pub shows : is_fine (set_run script budget shape shown.numbers) ≡ false
  pub least : AreSetsFineInBefore part script budget shape shown.numbers
  pub run_is : shown.result ≡ set_run script budget shape shown.numbers
