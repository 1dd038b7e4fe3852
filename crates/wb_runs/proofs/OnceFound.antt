-- What a sweep answers is one thing: one failure is found, or one is cut, or there is none.
use Rattle.std.proofs.Common.{◌≡◌, ◌⊎◌, inl, inr, ℕ, ◌<◌, ◌≤◌, sym, ◌∙◌, ap, subst, Bool, true, false}
use Rattle.std.specs.Prelude.{not, ◌&&◌}
use Rattle.std.proofs.lemmas.Bool.{cases_order}
use Rattle.wb_runs.specs.declared.failures.Failing.{Failing}
use Rattle.wb_runs.specs.declared.failures.Failing.TheVariants.{Pair}
use Rattle.wb_runs.specs.declared.failures.Failures.{Failures}
use Rattle.wb_runs.specs.declared.failures.Failures.TheVariants.{Single, Every, Pairs, Persistent}
use Rattle.wb_heap_model.specs.declared.heap.Shape.{Shape}
use Rattle.wb_meaning.specs.declared.run.Outcome.{Outcome}
use Rattle.wb_meaning.specs.declared.run.Outcome.TheVariants.{Cut}
use Rattle.wb_meaning.specs.declared.run.RunResult.{RunResult}
use Rattle.wb_meaning.specs.declared.run.Why.{Why}
use Rattle.wb_tree.specs.declared.script.Script.{Script}
use Rattle.wb_runs.specs.Pairs.{pair_run, ArePairsFineBefore, IsCutPair, IsFoundPair}
use Rattle.wb_meaning.specs.Run.{run, is_bad, is_bad_outcome}
use Rattle.wb_runs.specs.SweepAnswers.{IsCutShort, IsFound, IsNoneFound}
use Rattle.wb_runs.specs.Sweeps.{failing_at, is_cut_outcome, is_fine, rule_for, runs_under, AreAllFine, AreFineBelow, IsCutAmong, IsFoundAmong}

-- ---- one run is bad, cut or fine

fine_or_bad : (bad cut : Bool) → bad ≡ true → (not bad && cut) ≡ true → ⊥
fine_or_bad true cut e f = cc
fine_or_bad false cut e f = cc

fine_or_cut : (bad cut : Bool) → cut ≡ true → (not bad && not cut) ≡ true → ⊥
fine_or_cut true true e f = cc
fine_or_cut false true e f = cc
fine_or_cut bad false e f = cc

pub bad-unfine : (told : RunResult) → is_bad told ≡ true → is_fine told ≡ true → ⊥
bad-unfine told = fine_or_bad (is_bad told) (not (is_cut_outcome told.outcome))

pub cut-unfine : (told : RunResult) (why : Why) → told.outcome ≡ Cut why → is_fine told ≡ true → ⊥
cut-unfine told why cut = fine_or_cut (is_bad told) (is_cut_outcome told.outcome) (ap is_cut_outcome cut)

-- a run isn't bad and cut
pub bad-or-cut : (outcome : Outcome) (why : Why) → is_bad_outcome outcome ≡ true → outcome ≡ Cut why → ⊥
bad-or-cut outcome why bad cut = let no : is_bad_outcome outcome ≡ false = ap is_bad_outcome cut in cc

-- a run is cut in one way
pub one-why : (a b : Why) (outcome : Outcome) → outcome ≡ Cut a → outcome ≡ Cut b → a ≡ b
one-why a b outcome e f = cc

-- ---- failures that are tried as 0, 1, 2 and so on

-- of two runs that aren't fine, and before which all are, neither comes first
one_unfine : (runs : ℕ → RunResult) (m n : ℕ) → (is_fine (runs m) ≡ true → ⊥) → (is_fine (runs n) ≡ true → ⊥) → AreFineBelow runs m → AreFineBelow runs n → m ≡ n
one_unfine runs m n here there below under = by (cases_order m n)
  where
    by : (m ≡ n) ⊎ ((m < n) ⊎ (n < m)) → m ≡ n
    by (inl e) = e
    by (inr (inl less)) = absurd (here (under m less))
    by (inr (inr less)) = absurd (there (below n less))

-- likewise of two pairs
one_pair : (runs : ℕ → ℕ → RunResult) (i j k l : ℕ) → 1 ≤ i → i < j → 1 ≤ k → k < l → (is_fine (runs i j) ≡ true → ⊥) → (is_fine (runs k l) ≡ true → ⊥) →
    ArePairsFineBefore runs i j → ArePairsFineBefore runs k l → (i ≡ k) × (j ≡ l)
one_pair runs i j k l first later first' later' here there before under = by (cases_order i k) (cases_order j l)
  where
    by : (i ≡ k) ⊎ ((i < k) ⊎ (k < i)) → (j ≡ l) ⊎ ((j < l) ⊎ (l < j)) → (i ≡ k) × (j ≡ l)
    by (inr (inl less)) second = absurd (here (under i j first later (inl less)))
    by (inr (inr less)) second = absurd (there (before k l first' later' (inl less)))
    by (inl e) (inl f) = (e, f)
    by (inl e) (inr (inl less)) = absurd (here (under i j first later (inr (e, less))))
    by (inl e) (inr (inr less)) = absurd (there (before k l first' later' (inr (sym e, less))))

module _ (script : Script) (budget : ℕ) (shape : Shape) where
  module _ (tried : ℕ → Failing) where
    abbrev runs : ℕ → RunResult
    runs = runs_under tried script budget shape

    found_once : (at at' : Failing) (r r' : RunResult) → IsFoundAmong tried script budget shape at r → IsFoundAmong tried script budget shape at' r' →
        (at ≡ at') × (r ≡ r')
    found_once at at' r r' (m, e, is) (n, f, is') =
        let same = one_unfine runs m n (bad-unfine (runs m) is.bad) (bad-unfine (runs n) is'.bad) is.least is'.least in
        (e ∙ ap tried same ∙ sym f, is.run_is ∙ ap runs same ∙ sym is'.run_is)

    cut_once : (at at' : Failing) (why why' : Why) → IsCutAmong tried script budget shape at why → IsCutAmong tried script budget shape at' why' →
        (at ≡ at') × (why ≡ why')
    cut_once at at' why why' (m, e, is) (n, f, is') =
        let same = one_unfine runs m n (cut-unfine (runs m) why is.cut) (cut-unfine (runs n) why' is'.cut) is.least is'.least in
        (e ∙ ap tried same ∙ sym f, one-why why why' (runs n).outcome (subst (λ k. (runs k).outcome ≡ Cut why) same is.cut) is'.cut)

    found_uncut : (at at' : Failing) (r : RunResult) (why : Why) → IsFoundAmong tried script budget shape at r → IsCutAmong tried script budget shape at' why → ⊥
    found_uncut at at' r why (m, e, is) (n, f, is') =
        let same = one_unfine runs m n (bad-unfine (runs m) is.bad) (cut-unfine (runs n) why is'.cut) is.least is'.least in
        bad-or-cut (runs n).outcome why (subst (λ k. is_bad (runs k) ≡ true) same is.bad) is'.cut

    found_unfine : (at : Failing) (r : RunResult) → IsFoundAmong tried script budget shape at r → AreAllFine runs → ⊥
    found_unfine at r (n, e, is) fine = bad-unfine (runs n) is.bad (fine n)

    cut_among_unfine : (at : Failing) (why : Why) → IsCutAmong tried script budget shape at why → AreAllFine runs → ⊥
    cut_among_unfine at why (n, e, is) fine = cut-unfine (runs n) why is.cut (fine n)

  -- ---- pairs

  abbrev pairs : ℕ → ℕ → RunResult
  pairs = pair_run script budget shape

  found_pair_once : (at at' : Failing) (r r' : RunResult) → IsFoundPair script budget shape at r → IsFoundPair script budget shape at' r' → (at ≡ at') × (r ≡ r')
  found_pair_once at at' r r' (i, j, e, is) (k, l, f, is') =
      let (first, second) = one_pair pairs i j k l is.counted is.later is'.counted is'.later (bad-unfine (pairs i j) is.bad) (bad-unfine (pairs k l) is'.bad) is.least is'.least in
      (e ∙ ap (λ n. Pair n j) first ∙ ap (Pair k) second ∙ sym f, is.run_is ∙ ap (λ n. pairs n j) first ∙ ap (pairs k) second ∙ sym is'.run_is)

  cut_pair_once : (at at' : Failing) (why why' : Why) → IsCutPair script budget shape at why → IsCutPair script budget shape at' why' → (at ≡ at') × (why ≡ why')
  cut_pair_once at at' why why' (i, j, e, is) (k, l, f, is') =
      let (first, second) = one_pair pairs i j k l is.counted is.later is'.counted is'.later (cut-unfine (pairs i j) why is.cut) (cut-unfine (pairs k l) why' is'.cut) is.least is'.least in
      let run = ap (λ n. pairs n j) first ∙ ap (pairs k) second in
      (e ∙ ap (λ n. Pair n j) first ∙ ap (Pair k) second ∙ sym f, one-why why why' (pairs k l).outcome (ap (λ x. x.outcome) (sym run) ∙ is.cut) is'.cut)

  found_pair_uncut : (at at' : Failing) (r : RunResult) (why : Why) → IsFoundPair script budget shape at r → IsCutPair script budget shape at' why → ⊥
  found_pair_uncut at at' r why (i, j, e, is) (k, l, f, is') =
      let (first, second) = one_pair pairs i j k l is.counted is.later is'.counted is'.later (bad-unfine (pairs i j) is.bad) (cut-unfine (pairs k l) why is'.cut) is.least is'.least in
      let run = ap (λ n. pairs n j) first ∙ ap (pairs k) second in
      bad-or-cut (pairs k l).outcome why (ap is_bad (sym run) ∙ is.bad) is'.cut

  -- ---- by the kind of failures

  among-run : (tried : ℕ → Failing) (at : Failing) (r : RunResult) → IsFoundAmong tried script budget shape at r → r ≡ run script (rule_for at) budget shape
  among-run tried at r (n, e, is) = is.run_is ∙ ap (λ f. run script (rule_for f) budget shape) (sym e)

  -- what is found is the run under that failure
  pub found-run : (failures : Failures) (at : Failing) (r : RunResult) → IsFound failures script budget shape at r → r ≡ run script (rule_for at) budget shape
  found-run Single at r is = among-run (failing_at Single) at r is
  found-run Every at r is = among-run (failing_at Every) at r is
  found-run Persistent at r is = among-run (failing_at Persistent) at r is
  found-run Pairs at r (inl is) = among-run (failing_at Pairs) at r is
  found-run Pairs at r (inr (i, j, e, is)) = is.run_is ∙ ap (λ f. run script (rule_for f) budget shape) (sym e)

  pub once-found : (failures : Failures) (at at' : Failing) (r r' : RunResult) → IsFound failures script budget shape at r → IsFound failures script budget shape at' r' →
      (at ≡ at') × (r ≡ r')
  once-found Single at at' r r' is is' = found_once (failing_at Single) at at' r r' is is'
  once-found Every at at' r r' is is' = found_once (failing_at Every) at at' r r' is is'
  once-found Persistent at at' r r' is is' = found_once (failing_at Persistent) at at' r r' is is'
  once-found Pairs at at' r r' (inl is) (inl is') = found_once (failing_at Pairs) at at' r r' is is'
  once-found Pairs at at' r r' (inl is) (inr (k, l, f, is')) = absurd (found_unfine (failing_at Pairs) at r is is'.alone)
  once-found Pairs at at' r r' (inr (i, j, e, is)) (inl is') = absurd (found_unfine (failing_at Pairs) at' r' is' is.alone)
  once-found Pairs at at' r r' (inr is) (inr is') = found_pair_once at at' r r' is is'

  pub once-cut : (failures : Failures) (at at' : Failing) (why why' : Why) → IsCutShort failures script budget shape at why → IsCutShort failures script budget shape at' why' →
      (at ≡ at') × (why ≡ why')
  once-cut Single at at' why why' is is' = cut_once (failing_at Single) at at' why why' is is'
  once-cut Every at at' why why' is is' = cut_once (failing_at Every) at at' why why' is is'
  once-cut Persistent at at' why why' is is' = cut_once (failing_at Persistent) at at' why why' is is'
  once-cut Pairs at at' why why' (inl is) (inl is') = cut_once (failing_at Pairs) at at' why why' is is'
  once-cut Pairs at at' why why' (inl is) (inr (k, l, f, is')) = absurd (cut_among_unfine (failing_at Pairs) at why is is'.alone)
  once-cut Pairs at at' why why' (inr (i, j, e, is)) (inl is') = absurd (cut_among_unfine (failing_at Pairs) at' why' is' is.alone)
  once-cut Pairs at at' why why' (inr is) (inr is') = cut_pair_once at at' why why' is is'

  pub found-uncut : (failures : Failures) (at at' : Failing) (r : RunResult) (why : Why) → IsFound failures script budget shape at r →
      IsCutShort failures script budget shape at' why → ⊥
  found-uncut Single at at' r why is is' = found_uncut (failing_at Single) at at' r why is is'
  found-uncut Every at at' r why is is' = found_uncut (failing_at Every) at at' r why is is'
  found-uncut Persistent at at' r why is is' = found_uncut (failing_at Persistent) at at' r why is is'
  found-uncut Pairs at at' r why (inl is) (inl is') = found_uncut (failing_at Pairs) at at' r why is is'
  found-uncut Pairs at at' r why (inl is) (inr (k, l, f, is')) = found_unfine (failing_at Pairs) at r is is'.alone
  found-uncut Pairs at at' r why (inr (i, j, e, is)) (inl is') = cut_among_unfine (failing_at Pairs) at' why is' is.alone
  found-uncut Pairs at at' r why (inr is) (inr is') = found_pair_uncut at at' r why is is'

  pub found-some : (failures : Failures) (at : Failing) (r : RunResult) → IsFound failures script budget shape at r → IsNoneFound failures script budget shape → ⊥
  found-some Single at r is none = found_unfine (failing_at Single) at r is none
  found-some Every at r is none = found_unfine (failing_at Every) at r is none
  found-some Persistent at r is none = found_unfine (failing_at Persistent) at r is none
  found-some Pairs at r (inl is) none = found_unfine (failing_at Pairs) at r is none.0
  found-some Pairs at r (inr (i, j, e, is)) none = bad-unfine (pairs i j) is.bad (none.1 i j is.counted is.later)

  pub cut-some : (failures : Failures) (at : Failing) (why : Why) → IsCutShort failures script budget shape at why → IsNoneFound failures script budget shape → ⊥
  cut-some Single at why is none = cut_among_unfine (failing_at Single) at why is none
  cut-some Every at why is none = cut_among_unfine (failing_at Every) at why is none
  cut-some Persistent at why is none = cut_among_unfine (failing_at Persistent) at why is none
  cut-some Pairs at why (inl is) none = cut_among_unfine (failing_at Pairs) at why is none.0
  cut-some Pairs at why (inr (i, j, e, is)) none = cut-unfine (pairs i j) why is.cut (none.1 i j is.counted is.later)
