-- Of all lengths whose run leaks or panics there is one least.
use Rattle.std.proofs.Common.{◌≡◌, inl, inr, ◌⊎◌, ℕ, ◌<◌, sym, ◌∙◌, ap}
use Rattle.std.proofs.lemmas.Bool.{cases_order, false≢true}
use Rattle.wb_heap_model.specs.declared.heap.Shape.{Shape}
use Rattle.wb_meaning.specs.declared.run.RunResult.{RunResult}
use Rattle.wb_tree.specs.declared.script.Script.{Script}
use Rattle.wb_runs.specs.Lengths.{run_in, IsLeastBadLength, IsNoBadLength}

module _ (script : Script) (budget : ℕ) (shape : Shape) where
  pub once-bad-length : (length other : ℕ) (result another : RunResult) → IsLeastBadLength script budget shape length result →
      IsLeastBadLength script budget shape other another → (length ≡ other) × (result ≡ another)
  once-bad-length length other result another is too = by (cases_order length other)
    where
      by : (length ≡ other) ⊎ ((length < other) ⊎ (other < length)) → (length ≡ other) × (result ≡ another)
      by (inl same) = (same, is.run_is ∙ ap (run_in script budget shape) same ∙ sym too.run_is)
      by (inr (inl shorter)) = absurd (false≢true (sym (too.least length shorter) ∙ is.bad))
      by (inr (inr shorter)) = absurd (false≢true (sym (is.least other shorter) ∙ too.bad))

  pub bad-length-some : (length : ℕ) (result : RunResult) → IsLeastBadLength script budget shape length result → IsNoBadLength script budget shape → ⊥
  bad-length-some length result is none = false≢true (sym (none length is.within) ∙ is.bad)
