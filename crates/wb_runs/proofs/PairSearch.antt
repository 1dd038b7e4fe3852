-- What is found among the pairs whose attempts are made is the least of all pairs, where no single failure shows anything.
use Rattle.std.proofs.Common.{◌≡◌, inl, inr, ℕ, zero, suc, ◌+◌, ◌-◌, ◌<◌, ◌≤◌, arith, Bool, true, false, length, refl, sym, ◌∙◌, ap, subst, Option, Some, None, cond}
use Rattle.std.proofs.lemmas.Bool.{cases_lt}
use Rattle.wb_runs.specs.declared.failures.Failures.TheVariants.{Single}
use Rattle.wb_heap_model.specs.declared.heap.Shape.{Shape}
use Rattle.wb_meaning.specs.declared.run.RunResult.{RunResult}
use Rattle.wb_tree.specs.declared.script.Script.{Script}
use Rattle.wb_runs.specs.Pairs.{least_bad_or_cut_pair, least_from, least_pair_from, pair_or, pair_run, AreAllPairsFine, ArePairsFineBefore, ComesBefore}
use Rattle.wb_runs.specs.Sweeps.{is_fine, or_else, runs_of, AreAllFine}
use Rattle.wb_runs.proofs.PairLemmas.{all-made-fine, second-past}
use Rattle.wb_runs.proofs.SweepLemmas.{fine_uncut}

-- ---- one after another

module _ (runs : ℕ → RunResult) where
  none-from : (from more : ℕ) → least_from runs from more ≡ None → (n : ℕ) → from ≤ n → n < from + more → is_fine (runs n) ≡ true
  none-from from zero e n ge lt = absurd (omega (arith, ge, lt))
  none-from from (suc more) e n ge lt = by (is_fine (runs from)) refl e (none-from (from + 1) more)
    where
      by : (b : Bool) → is_fine (runs from) ≡ b → or_else (cond b None (Some from)) (least_from runs (from + 1) more) ≡ None →
          (least_from runs (from + 1) more ≡ None → (m : ℕ) → from + 1 ≤ m → m < from + 1 + more → is_fine (runs m) ≡ true) → is_fine (runs n) ≡ true
      by false f e later = cc
      by true f e later =
          elim (cases_lt from n) [
            | inl past ↦ later e n (omega (arith, past)) (omega (arith, lt))
            | inr le ↦ let same : from ≡ n = omega (arith, ge, le) in subst (λ k. is_fine (runs k) ≡ true) same f
          ]

  some-from : (from more n : ℕ) → least_from runs from more ≡ Some n →
      (is_fine (runs n) ≡ false) × (from ≤ n) × ((m : ℕ) → from ≤ m → m < n → is_fine (runs m) ≡ true)
  some-from from zero n e = cc
  some-from from (suc more) n e = by (is_fine (runs from)) refl e (some-from (from + 1) more n)
    where
      by : (b : Bool) → is_fine (runs from) ≡ b → or_else (cond b None (Some from)) (least_from runs (from + 1) more) ≡ Some n →
          (least_from runs (from + 1) more ≡ Some n →
          (is_fine (runs n) ≡ false) × (from + 1 ≤ n) × ((m : ℕ) → from + 1 ≤ m → m < n → is_fine (runs m) ≡ true)) →
          (is_fine (runs n) ≡ false) × (from ≤ n) × ((m : ℕ) → from ≤ m → m < n → is_fine (runs m) ≡ true)
      by false f e later =
          let same : from ≡ n = cc in
          (subst (λ k. is_fine (runs k) ≡ false) same f, omega (arith, same), λ m ge lt. absurd (omega (arith, same, ge, lt)))
      by true f e later =
          let (unfine, ge, least) = later e in (
            unfine,
            omega (arith, ge),
            λ m le lt. elim (cases_lt from m) [
              | inl past ↦ least m (omega (arith, past)) lt
              | inr within ↦ let same : from ≡ m = omega (arith, le, within) in subst (λ k. is_fine (runs k) ≡ true) same f
            ],
          )

-- ---- pair after pair

module _ (runs : ℕ → ℕ → RunResult) (last : ℕ → ℕ) where
  none-pair : (i more : ℕ) → least_pair_from runs last i more ≡ None → (a b : ℕ) → i ≤ a → a < i + more → a < b → b ≤ last a → is_fine (runs a b) ≡ true
  none-pair i zero e a b ge lt later made = absurd (omega (arith, ge, lt))
  none-pair i (suc more) e a b ge lt later made = by (least_from (runs i) (i + 1) (last i - i)) refl e (none-pair (i + 1) more)
    where
      by : (o : Option ℕ) → least_from (runs i) (i + 1) (last i - i) ≡ o → pair_or i o (least_pair_from runs last (i + 1) more) ≡ None →
          (least_pair_from runs last (i + 1) more ≡ None → (c d : ℕ) → i + 1 ≤ c → c < i + 1 + more → c < d → d ≤ last c → is_fine (runs c d) ≡ true) →
          is_fine (runs a b) ≡ true
      by (Some j) f e beyond = cc
      by None f e beyond =
          elim (cases_lt i a) [
            | inl past ↦ beyond e a b (omega (arith, past)) (omega (arith, lt)) later made
            | inr le ↦
                let same : i ≡ a = omega (arith, ge, le) in
                let within : b ≤ last i = subst (λ k. b ≤ last k) (sym same) made in
                subst (λ k. is_fine (runs k b) ≡ true) same (none-from (runs i) (i + 1) (last i - i) f b (omega (arith, same, later)) (omega (arith, same, later, within)))
          ]

  -- what comes before a pair, of those whose first attempt is one from a number on and whose second is made
  abbrev AreMadeFine : ℕ → ℕ → ℕ → Type 0
  AreMadeFine i a b = (c d : ℕ) → i ≤ c → c < d → d ≤ last c → ComesBefore c d a b → is_fine (runs c d) ≡ true

  some-pair : (i more a b : ℕ) → least_pair_from runs last i more ≡ Some (a, b) → (is_fine (runs a b) ≡ false) × (i ≤ a) × (a < b) × AreMadeFine i a b
  some-pair i zero a b e = cc
  some-pair i (suc more) a b e = by (least_from (runs i) (i + 1) (last i - i)) refl e (some-pair (i + 1) more a b)
    where
      by : (o : Option ℕ) → least_from (runs i) (i + 1) (last i - i) ≡ o → pair_or i o (least_pair_from runs last (i + 1) more) ≡ Some (a, b) →
          (least_pair_from runs last (i + 1) more ≡ Some (a, b) → (is_fine (runs a b) ≡ false) × (i + 1 ≤ a) × (a < b) × AreMadeFine (i + 1) a b) →
          (is_fine (runs a b) ≡ false) × (i ≤ a) × (a < b) × AreMadeFine i a b
      by (Some j) f e beyond =
          let same : ◌≡◌ {A = ℕ × ℕ} (i, j) (a, b) = cc in
          let first : i ≡ a = ap (λ (p : ℕ × ℕ). p.0) same in
          let second : j ≡ b = ap (λ (p : ℕ × ℕ). p.1) same in
          let (unfine, ge, least) = some-from (runs i) (i + 1) (last i - i) j f in
          let before : AreMadeFine i a b = λ c d from later made comes. elim comes [
            | inl less ↦ absurd (omega (arith, first, from, less))
            | inr w ↦
                let same : i ≡ c = omega (arith, first, w.0) in
                subst (λ k. is_fine (runs k d) ≡ true) same (least d (omega (arith, same, later)) (omega (arith, second, w.1)))
          ] in
          (ap is_fine (ap (λ k. runs k b) (sym first) ∙ ap (runs i) (sym second)) ∙ unfine, omega (arith, first), omega (arith, first, second, ge), before)
      by None f e beyond =
          let (unfine, ge, later, least) = beyond e in
          let before : AreMadeFine i a b = λ c d from after made comes. elim (cases_lt i c) [
            | inl past ↦ least c d (omega (arith, past)) after made comes
            | inr within ↦
                let same : i ≡ c = omega (arith, from, within) in
                let made : d ≤ last i = subst (λ k. d ≤ last k) (sym same) made in
                subst (λ k. is_fine (runs k d) ≡ true) same (none-from (runs i) (i + 1) (last i - i) f d (omega (arith, same, after)) (omega (arith, same, after, made)))
          ] in
          (unfine, omega (arith, ge), later, before)

-- ---- of a script

module _ (script : Script) (budget : ℕ) (shape : Shape) where
  abbrev single : ℕ → RunResult
  single = runs_of Single script budget shape

  pub least-pair-none : AreAllFine single → least_bad_or_cut_pair script budget shape ≡ None → AreAllPairsFine (pair_run script budget shape)
  least-pair-none fine e =
      all-made-fine script budget shape fine (λ i j first le later made.
      none-pair (pair_run script budget shape) (λ k. length (single k).trace) 1 (length (single 0).trace) e i j first (omega (arith, le)) later made)

  pub least-pair-some : AreAllFine single → (i j : ℕ) → least_bad_or_cut_pair script budget shape ≡ Some (i, j) →
      (1 ≤ i) × (i < j) × (is_fine (pair_run script budget shape i j) ≡ false) × ArePairsFineBefore (pair_run script budget shape) i j
  least-pair-some fine i j e =
      let (unfine, first, later, least) = some-pair (pair_run script budget shape) (λ k. length (single k).trace) 1 (length (single 0).trace) i j e in (
        first,
        later,
        unfine,
        λ a b one after comes. elim (cases_lt (length (single a).trace) b) [
          | inl past ↦ ap is_fine (second-past script budget shape a b after (fine_uncut (single a) (fine a)) past) ∙ fine a
          | inr made ↦ least a b one after made comes
        ],
      )
