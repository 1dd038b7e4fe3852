-- A scout of a run that isn't cut, and one of a run that is fine besides.
use Rattle.std.proofs.Common.{◌≡◌, ℕ, Bool, true, false, Option, Some, None, IfSome, refl, sym, ◌∙◌, subst}
use Rattle.std.proofs.lemmas.Bool.{true≢false}
use Rattle.wb_runs.specs.declared.failures.Failures.{Failures}
use Rattle.wb_heap_model.specs.declared.heap.Shape.{Shape}
use Rattle.wb_meaning.specs.declared.run.RunResult.{RunResult}
use Rattle.wb_tree.specs.declared.script.Script.{Script}
use Rattle.wb_runs.specs.Sweeps.{is_fine, runs_of}
use Rattle.wb_runs.proofs.PartAnswers.{fine_is_uncut}
use Rattle.wb_sweep.specs.declared.followed.Forked.{Forked}
use Rattle.wb_sweep.specs.declared.followed.Forked.TheVariants.{Met, Ran}
use Rattle.wb_sweep.specs.declared.scout.Scout.{Scout}
use Rattle.wb_sweep.specs.declared.scout.Meeting.TheVariants.{Alike, PastBudget}
use Rattle.wb_sweep.specs.Meetings.{FineSays, ForkedSays, IsAhead, IsScout, is_met}
use Rattle.wb_sweep.proofs.AnswerLemmas.{map_some}

module _ (failures : Failures) (script : Script) (budget : ℕ) (shape : Shape) where
  pub ahead-of : (scout : Scout) → IsScout failures script budget shape scout → IsAhead failures script budget shape scout
  ahead-of scout is = record {
    rule = is.rule;
    same_script = is.same_script;
    same_budget = is.same_budget;
    same_shape = is.same_shape;
    allowed = is.allowed;
    uncut = fine_is_uncut (runs_of failures script budget shape 0) is.run_is.fine;
    taken = is.run_is.taken;
  }

  pub any-ahead : (scout : Option Scout) → IfSome scout (IsScout failures script budget shape) → IfSome scout (IsAhead failures script budget shape)
  any-ahead scout = map_some scout ahead-of

  -- a scout of a run that is fine is still one once it has gone on
  pub still-scout : (old new : Option Scout) → IfSome old (IsScout failures script budget shape) → IfSome new (IsAhead failures script budget shape) →
      (old ≡ None → new ≡ None) → IfSome new (IsScout failures script budget shape)
  still-scout None new is ahead none = subst (λ s. IfSome s (IsScout failures script budget shape)) (sym (none refl)) _
  still-scout (Some old) None is ahead none = _
  still-scout (Some old) (Some new) is ahead none = record {
    rule = ahead.rule;
    same_script = ahead.same_script;
    same_budget = ahead.same_budget;
    same_shape = ahead.same_shape;
    allowed = ahead.allowed;
    run_is = record { fine = is.run_is.fine; taken = ahead.taken };
  }

  -- where a fork has met a scout, that one's run is fine
  fine-if-met : (scout : Option Scout) (met : Bool) → IfSome scout (IsScout failures script budget shape) → (scout ≡ None → met ≡ false) → met ≡ true →
      is_fine (runs_of failures script budget shape 0) ≡ true
  fine-if-met None met is unmet e = let no = unmet refl in absurd (true≢false (sym e ∙ no))
  fine-if-met (Some scout) met is unmet e = is.run_is.fine

  fine-says : (forked : Forked) (first result : RunResult) → ForkedSays forked first result → (is_met forked ≡ true → is_fine first ≡ true) → FineSays forked result
  fine-says (Met Alike) first result says fine = says.fine ∙ fine refl
  fine-says (Met PastBudget) first result says fine = says
  fine-says (Ran known) first result says fine = says

  -- so what is known of a fork says that it is fine, if it met the scout
  pub beside-fine : (scout : Option Scout) (forked : Forked) (result : RunResult) → IfSome scout (IsScout failures script budget shape) →
      ForkedSays forked (runs_of failures script budget shape 0) result → (scout ≡ None → is_met forked ≡ false) → FineSays forked result
  beside-fine scout forked result is says unmet =
      fine-says forked (runs_of failures script budget shape 0) result says (fine-if-met scout (is_met forked) is unmet)
