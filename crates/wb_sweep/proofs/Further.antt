-- The failures that are tried up to one attempt more, where the lead goes on by a turn.
use Rattle.std.proofs.Common.{◌≡◌, ◌+◌, ◌≤◌, ℕ, arith, inl, inr, Bool, true, false, refl, sym, ap, ◌∙◌, subst}
use Rattle.std.proofs.lemmas.Bool.{cases_lt}
use Rattle.wb_machine.specs.Seen.{Seen}
use Rattle.wb_runs.specs.declared.failures.Failures.{Failures}
use Rattle.wb_heap_model.specs.declared.heap.Shape.{Shape}
use Rattle.wb_tree.specs.declared.script.Script.{Script}
use Rattle.wb_runs.specs.Sweeps.{is_fine, runs_of}
use Rattle.wb_sweep.specs.Beside.{next_run, runs_beside}
use Rattle.wb_sweep.specs.Stretches.{AreFineFrom}

-- a lead is that of another's script, budget and shape
pub record IsOfSameRun (old lead : Seen) : Type 0 where
  pub script : lead.script ≡ old.script
  pub budget : lead.budget ≡ old.budget
  pub shape : lead.shape ≡ old.shape

-- what holds of its script, budget and shape holds of that other's
pub of-same : (old lead : Seen) → IsOfSameRun old lead → (P : Script → ℕ → Shape → Type 0) → P lead.script lead.budget lead.shape → P old.script old.budget old.shape
of-same old lead same P is =
    subst (λ (s : Script). P s old.budget old.shape) same.script
    (subst (λ (b : ℕ). P lead.script b old.shape) same.budget (subst (λ (h : Shape). P lead.script lead.budget h) same.shape is))

-- and the other way round
pub to-same : (old lead : Seen) → IsOfSameRun old lead → (P : Script → ℕ → Shape → Type 0) → P old.script old.budget old.shape → P lead.script lead.budget lead.shape
to-same old lead same P is =
    subst (λ (s : Script). P s lead.budget lead.shape) (sym same.script)
    (subst (λ (b : ℕ). P old.script b lead.shape) (sym same.budget) (subst (λ (h : Shape). P old.script old.budget h) (sym same.shape) is))

pub same-runs : (failures : Failures) (old lead : Seen) (n : ℕ) → IsOfSameRun old lead → runs_beside failures lead n ≡ runs_beside failures old n
same-runs failures old lead n same =
    ap (λ (s : Script). runs_of failures s lead.budget lead.shape n) same.script
    ∙ ap (λ (b : ℕ). runs_of failures old.script b lead.shape n) same.budget
    ∙ ap (λ (s : Shape). runs_of failures old.script old.budget s n) same.shape

pub fine-further : (failures : Failures) (old lead next : Seen) (from : ℕ) → IsOfSameRun old lead → AreFineFrom (runs_beside failures old) from (lead.attempts + 1) →
    next.attempts ≤ lead.attempts + 1 → (lead.asks ≡ false → next.attempts ≡ lead.attempts) →
    (lead.asks ≡ true → from ≤ lead.attempts + 1 → is_fine (next_run failures lead) ≡ true) → AreFineFrom (runs_beside failures old) from (next.attempts + 1)
fine-further failures old lead next from same fine more unasked asked n begun lt =
    elim (cases_lt n (lead.attempts + 1)) [
      | inl less ↦ fine n begun less
      | inr ge ↦ by lead.asks refl ge
    ]
  where
    by : (b : Bool) → lead.asks ≡ b → lead.attempts + 1 ≤ n → is_fine (runs_beside failures old n) ≡ true
    by false e ge = absurd (omega (arith, ge, lt, unasked e))
    by true e ge =
        let last : lead.attempts + 1 ≡ n = omega (arith, ge, lt, more) in
        subst (λ k. is_fine (runs_beside failures old k) ≡ true) last
        (ap is_fine (sym (same-runs failures old lead (lead.attempts + 1) same)) ∙ asked e (omega (arith, begun, last)))
