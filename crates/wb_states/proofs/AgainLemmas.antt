-- Runs on the way to a state, once they go on under its set, and runs that are kept once more.
use Rattle.std.proofs.Common.{◌≡◌, ℕ, List, Some, refl, sym, subst, inl, inr}
use Rattle.std.specs.Prelude.{slice_get}
use Rattle.wb_machine.specs.Seen.{Seen}
use Rattle.wb_heap_model.specs.declared.heap.Rule.TheVariants.{Set}
use Rattle.wb_states.specs.declared.runs.Runs.{Runs}
use Rattle.wb_states.specs.declared.state.State.{State}
use Rattle.wb_states.specs.Ground.{Ground}
use Rattle.wb_states.specs.States.{AreOfOr, AreRunsOf, IsOnTheWay, IsRunOf}

pub on-the-way : (g : Ground) (state : State) (numbers : List ℕ) (m copy : Seen) → IsRunOf g state m → copy ≡ record m { rule = Set numbers } →
    IsOnTheWay g numbers copy
on-the-way g state numbers m copy run same = subst (IsOnTheWay g numbers) (sym same) (record {
  rule = refl;
  script = run.under_way.script;
  budget = run.under_way.budget;
  shape = run.under_way.shape;
  well = run.under_way.well;
  begun = run.begun;
  going = run.going;
  asks = run.asks;
  steps = run.under_way.steps;
})

pub runs-put-back : (g : Ground) (states : List State) (before after : Runs) (at : ℕ) (state : State) (m : Seen) → AreRunsOf g states before →
    slice_get states at ≡ Some state → IsRunOf g state m → AreOfOr before at m after → AreRunsOf g states after
runs-put-back g states before after at state m runs there run added i one other is_at kept =
    elim (added i other kept) [
      | inl is ↦
          let same : state ≡ one = (let first = there in let second = is_at in let index = is.0 in cc) in
          subst (λ (s : State). IsRunOf g s other) same (subst (IsRunOf g state) (sym is.1) run)
      | inr was ↦ runs i one other is_at was.1
    ]
