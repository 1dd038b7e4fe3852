-- What a sweep over a part answers is one thing, case by case: one failure is found, or one is cut, or there is none.
use Rattle.std.proofs.Common.{◌≡◌, ◌⊎◌, inl, inr, ℕ, ◌<◌, sym, ◌∙◌, ap}
use Rattle.std.proofs.lemmas.Bool.{cases_order, true≢false}
use Rattle.wb_runs.specs.declared.failures.Failing.{Failing}
use Rattle.wb_runs.specs.declared.failures.Failures.{Failures}
use Rattle.wb_heap_model.specs.declared.heap.Shape.{Shape}
use Rattle.wb_runs.specs.declared.part.Part.{Part}
use Rattle.wb_meaning.specs.declared.run.Outcome.TheVariants.{Cut}
use Rattle.wb_meaning.specs.declared.run.RunResult.{RunResult}
use Rattle.wb_meaning.specs.declared.run.Why.{Why}
use Rattle.wb_tree.specs.declared.script.Script.{Script}
use Rattle.wb_runs.specs.AllNumbers.{IsLeastBadOf, IsNoBadOf}
use Rattle.wb_runs.specs.Parts.{found, cut, none, IsCutIn, IsFoundIn, IsNoneIn, IsUncut}
use Rattle.wb_runs.specs.Sweeps.{is_cut_outcome, runs_of}
use Rattle.wb_runs.proofs.OneAnswer.{once-of-part}

module _ (failures : Failures) (part : Part) (script : Script) (budget : ℕ) (shape : Shape) where
  pub once-found-in : (at other : Failing) (result another : RunResult) → IsFoundIn failures part script budget shape at result
      → IsFoundIn failures part script budget shape other another → (at ≡ other) × (result ≡ another)
  once-found-in at other result another s t =
      let same : found at result ≡ found other another = once-of-part failures part script budget shape (found at result) (found other another) s t in
      let one : at ≡ other = cc in
      let run : result ≡ another = cc in
      (one, run)

  pub once-cut-in : (at other : Failing) (why another : Why) → IsCutIn failures part script budget shape at why → IsCutIn failures part script budget shape other another
      → (at ≡ other) × (why ≡ another)
  once-cut-in at other why another s t =
      let same : cut at why ≡ cut other another = once-of-part failures part script budget shape (cut at why) (cut other another) s t in
      let one : at ≡ other = cc in
      let reason : why ≡ another = cc in
      (one, reason)

  pub found-uncut-in : (at other : Failing) (result : RunResult) (why : Why) → IsFoundIn failures part script budget shape at result
      → IsCutIn failures part script budget shape other why → ⊥
  found-uncut-in at other result why s t =
      let same : found at result ≡ cut other why = once-of-part failures part script budget shape (found at result) (cut other why) s t in
      absurd (cc)

  pub found-some-in : (at : Failing) (result : RunResult) → IsFoundIn failures part script budget shape at result → IsNoneIn failures part script budget shape → ⊥
  found-some-in at result s t =
      let same : found at result ≡ none = once-of-part failures part script budget shape (found at result) none s t in
      absurd (cc)

  pub cut-some-in : (at : Failing) (why : Why) → IsCutIn failures part script budget shape at why → IsNoneIn failures part script budget shape → ⊥
  cut-some-in at why s t =
      let same : cut at why ≡ none = once-of-part failures part script budget shape (cut at why) none s t in
      absurd (cc)

  -- a run that is cut isn't one that isn't
  pub cut_or_uncut : (why : Why) → (runs_of failures script budget shape 0).outcome ≡ Cut why → IsUncut failures script budget shape → ⊥
  cut_or_uncut why is uncut = true≢false (sym (ap is_cut_outcome is) ∙ uncut)

  -- ---- all numbers

  pub once-least-bad : (m n : ℕ) (result another : RunResult) → IsLeastBadOf (runs_of failures script budget shape) part m result
      → IsLeastBadOf (runs_of failures script budget shape) part n another → (m ≡ n) × (result ≡ another)
  once-least-bad m n result another s t = let same = by (cases_order m n) in (same, s.run_is ∙ ap (runs_of failures script budget shape) same ∙ sym t.run_is)
    where
      by : (m ≡ n) ⊎ ((m < n) ⊎ (n < m)) → m ≡ n
      by (inl e) = e
      by (inr (inl less)) = absurd (true≢false (sym s.bad ∙ t.least m s.tried.from less))
      by (inr (inr less)) = absurd (true≢false (sym t.bad ∙ s.least n t.tried.from less))

  pub least-bad-some : (n : ℕ) (result : RunResult) → IsLeastBadOf (runs_of failures script budget shape) part n result
      → IsNoBadOf (runs_of failures script budget shape) part → ⊥
  least-bad-some n result s nothing = true≢false (sym s.bad ∙ nothing n s.tried)
