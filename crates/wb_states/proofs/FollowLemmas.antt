-- What a run has come to that was about to make an attempt, and made it.
use Rattle.std.proofs.Common.{◌≡◌, ℕ, zero, suc, ◌+◌, ◌<◌, ◌≤◌, arith, true, false, List, length, sym, ◌∙◌, ap, subst}
use Rattle.wb_machine.specs.Seen.{Seen}
use Rattle.wb_machine.specs.Turns.{IsSameRun}
use Rattle.wb_heap_model.specs.declared.heap.Rule.{Rule}
use Rattle.wb_heap_model.specs.declared.heap.Rule.TheVariants.{Set}
use Rattle.wb_heap_model.specs.declared.heap.Shape.{Shape}
use Rattle.wb_tree.specs.declared.script.Script.{Script}
use Rattle.wb_meaning.specs.Run.{run}
use Rattle.wb_states.specs.Ground.{run_of, turns_of, Ground}
use Rattle.wb_runs.specs.Met.{AreWithin}
use Rattle.wb_states.specs.States.{IsAboutTo, IsRunUnder, IsUnderWay}

module _ (g : Ground) (numbers : List ℕ) (m new : Seen) (about : IsAboutTo g numbers m) (same : IsSameRun m new) where
  pub run-under : new.failed ≡ false → IsRunUnder g numbers new
  run-under well = record {
    rule = same.rule ∙ about.rule;
    script = same.script ∙ about.script;
    budget = same.budget ∙ about.budget;
    shape = same.shape ∙ about.shape;
    well = well;
    set = about.set;
    tried = about.tried;
  }

  pub under-way : new.failed ≡ false → new.attempts ≡ m.attempts + 1 → new.steps ≤ new.budget → IsUnderWay g numbers new
  under-way well made within = record {
    rule = same.rule ∙ about.rule;
    script = same.script ∙ about.script;
    budget = same.budget ∙ about.budget;
    shape = same.shape ∙ about.shape;
    well = well;
    set = about.set;
    made = subst (λ n. AreWithin n numbers) (sym made) about.made;
    steps = within;
  }

  -- its run is the one under the set
  pub made-all : new.attempts ≡ length (run new.script new.rule new.budget new.shape).trace → new.attempts ≡ length (run_of g numbers).trace
  made-all made =
      made
      ∙ ap (λ (s : Script). length (run s new.rule new.budget new.shape).trace) (same.script ∙ about.script)
      ∙ ap (λ (r : Rule). length (run g.script r new.budget new.shape).trace) (same.rule ∙ about.rule)
      ∙ ap (λ (b : ℕ). length (run g.script (Set numbers) b new.shape).trace) (same.budget ∙ about.budget)
      ∙ ap (λ (s : Shape). length (run g.script (Set numbers) g.budget s).trace) (same.shape ∙ about.shape)

-- more turns were taken
pub turns-later : (m new : Seen) → (1 ≤ m.attempts → m.begun ≡ true) → (m.begun ≡ true → m.steps + 1 ≤ new.steps) → turns_of m.attempts m.steps < new.steps + 1
turns-later m new begun later = by m.attempts begun
  where
    by : (attempts : ℕ) → (1 ≤ attempts → m.begun ≡ true) → turns_of attempts m.steps < new.steps + 1
    by zero begun = omega arith
    by (suc n) begun = let more = later (begun (omega arith)) in omega (arith, more)
