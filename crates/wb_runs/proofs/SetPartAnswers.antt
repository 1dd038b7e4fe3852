-- A sweep over the sets of a part that begins with number 0, and goes to the last attempt at least, answers as one over all sets.
use Rattle.std.proofs.Common.{◌≡◌, ℕ, ◌<◌, ◌≤◌, ◌⊎◌, inl, inr, arith, true, false, List, [], ◌∷◌, length, refl, sym, ◌∙◌, ap, subst}
use Rattle.std.specs.Prelude.{◌↔◌}
use Rattle.std.proofs.lemmas.Bool.{cases_lt, false_from_ne_true}
use Rattle.wb_runs.specs.declared.failures.Failures.TheVariants.{Single}
use Rattle.wb_heap_model.specs.declared.heap.Shape.{Shape}
use Rattle.wb_runs.specs.declared.part.Part.{Part}
use Rattle.wb_meaning.specs.declared.run.RunResult.{RunResult}
use Rattle.wb_meaning.specs.declared.run.Why.{Why}
use Rattle.wb_tree.specs.declared.script.Script.{Script}
use Rattle.wb_runs.specs.Parts.{last_attempt, IsUncut}
use Rattle.wb_meaning.specs.Run.{is_bad}
use Rattle.wb_runs.specs.SetParts.{least_number, AreSetsFineInBefore, IsNoSetIn, IsSetCutIn, IsSetFoundIn, IsSetOf}
use Rattle.wb_runs.specs.Sets.{has_lesser_number, set_run, AreSetsFine, AreSetsFineBefore, IsLeastBadSet, IsLeastCutSet, IsSet}
use Rattle.wb_runs.specs.Sweeps.{is_cut_outcome, is_fine}
use Rattle.wb_runs.proofs.OnceFound.{bad-unfine, cut-unfine}
use Rattle.wb_runs.proofs.PartAnswers.{bad_is_uncut, fine_is_uncut}
use Rattle.wb_runs.proofs.SetLemmas.{least-made, none-fails, past-last}
use Rattle.wb_runs.proofs.SetOrder.{before-by, fewer-before, none-is-lesser}
use Rattle.wb_runs.proofs.SweepLemmas.{fine_uncut}

module _ (script : Script) (budget : ℕ) (shape : Shape) where
  abbrev runs : List ℕ → RunResult
  runs = set_run script budget shape

  abbrev last : ℕ
  last = last_attempt Single script budget shape

  same_last : length (runs []).trace ≡ last
  same_last = ap (λ (r : RunResult). length r.trace) (none-fails script budget shape)

  uncut_of : is_cut_outcome (runs []).outcome ≡ false → IsUncut Single script budget shape
  uncut_of = subst (λ (r : RunResult). is_cut_outcome r.outcome ≡ false) (none-fails script budget shape)

  -- a set whose first number is past the last attempt gives the run without failure
  past_fine : (n : ℕ) (ns : List ℕ) → IsSet (n ∷ ns) → last < n → is_fine (runs []) ≡ true → is_fine (runs (n ∷ ns)) ≡ true
  past_fine n ns up past fine = ap is_fine (past-last script budget shape [] (n ∷ ns) (fine_uncut (runs []) fine) (omega (arith, past, same_last), up.1)) ∙ fine

  -- the first number of a set whose run isn't fine, and before which all are, is no greater than the last attempt
  made_of : (numbers : List ℕ) → IsSet numbers → is_fine (runs numbers) ≡ false → AreSetsFineBefore script budget shape numbers → least_number numbers ≤ last
  made_of [] up unfine least = omega arith
  made_of (n ∷ ns) up unfine least = omega (arith, (least-made script budget shape (n ∷ ns) up unfine least).0, same_last)

  -- the run without failure isn't cut, where it is fine or the run of the empty set is bad
  uncut_before : (n : ℕ) (ns : List ℕ) → AreSetsFineBefore script budget shape (n ∷ ns) → IsUncut Single script budget shape
  uncut_before n ns least = uncut_of (fine_is_uncut (runs []) (least [] tt (fewer-before [] (n ∷ ns) (omega arith))))

  uncut_bad : (numbers : List ℕ) → is_bad (runs numbers) ≡ true → AreSetsFineBefore script budget shape numbers → IsUncut Single script budget shape
  uncut_bad [] bad least = uncut_of (bad_is_uncut (runs []).outcome bad)
  uncut_bad (n ∷ ns) bad least = uncut_before n ns least

  -- ---- the numbers of a whole part

  module _ (part : Part) (start : part.from ≡ 0) (within : last ≤ part.to) where
    set_of_part : (numbers : List ℕ) → IsSet numbers → least_number numbers ≤ last → IsSetOf part last numbers
    set_of_part numbers up made = record { set = up; least = record { from = omega (arith, start); to = omega (arith, made, within); made = made } }

    -- where what is tried is fine up to some length, so are all sets of these lengths
    fine_by : (numbers : List ℕ) → IsSet numbers → is_fine (runs []) ≡ true → (IsSetOf part last numbers → is_fine (runs numbers) ≡ true) → is_fine (runs numbers) ≡ true
    fine_by [] up fine tried = fine
    fine_by (n ∷ ns) up fine tried = elim (cases_lt last n) [
      | inl past ↦ past_fine n ns up past fine
      | inr le ↦ tried (set_of_part (n ∷ ns) up le)
    ]

    empty_of : IsSetOf part last []
    empty_of = set_of_part [] tt (omega arith)

    before_all : (numbers : List ℕ) → AreSetsFineInBefore part script budget shape numbers → AreSetsFineBefore script budget shape numbers
    before_all numbers least [] up comes = least [] empty_of comes
    before_all numbers least (n ∷ ns) up comes =
        fine_by (n ∷ ns) up (least [] empty_of (fewer-before [] numbers (some (before-by (n ∷ ns) numbers comes)))) (λ tried. least (n ∷ ns) tried comes)
      where
        some : (length (n ∷ ns) < length numbers) ⊎ ((length (n ∷ ns) ≡ length numbers) × (has_lesser_number (n ∷ ns) numbers ≡ true)) → 0 < length numbers
        some (inl lt) = omega (arith, lt)
        some (inr is) = omega (arith, is.0)

    all_before : (numbers : List ℕ) → AreSetsFineBefore script budget shape numbers → AreSetsFineInBefore part script budget shape numbers
    all_before numbers least other tried comes = least other tried.set comes

    found_all : (most : ℕ) (numbers : List ℕ) (result : RunResult) → IsSetFoundIn part most script budget shape numbers result →
        IsLeastBadSet script budget shape numbers result × (length numbers ≤ most)
    found_all most numbers result is =
        (record { set = is.tried.set; bad = is.bad; least = before_all numbers is.least; run_is = is.run_is }, is.few)

    all_found : (most : ℕ) (numbers : List ℕ) (result : RunResult) → IsLeastBadSet script budget shape numbers result × (length numbers ≤ most) →
        IsSetFoundIn part most script budget shape numbers result
    all_found most numbers result (is, few) = record {
      uncut = uncut_bad numbers is.bad is.least;
      tried = set_of_part numbers is.set (made_of numbers is.set (false_from_ne_true (is_fine (runs numbers)) (bad-unfine (runs numbers) is.bad)) is.least);
      few = few;
      bad = is.bad;
      least = all_before numbers is.least;
      run_is = is.run_is;
    }

    cut_all : (most : ℕ) (numbers : List ℕ) (why : Why) → IsSetCutIn part most script budget shape numbers why →
        IsLeastCutSet script budget shape numbers why × (length numbers ≤ most)
    cut_all most numbers why (inl is) = subst (λ ns. IsLeastCutSet script budget shape ns why × (length ns ≤ most)) (sym is.empty) (
      record { set = tt; cut = is.cut; least = λ other up comes. absurd (first other (before-by other [] comes)) },
      omega arith,
    )
      where
        first : (other : List ℕ) → (length other < 0) ⊎ ((length other ≡ 0) × (has_lesser_number other [] ≡ true)) → ⊥
        first other (inl lt) = omega (arith, lt)
        first other (inr is) = none-is-lesser other is.1
    cut_all most numbers why (inr is) = (record { set = is.tried.set; cut = is.cut; least = before_all numbers is.least }, is.few)

    all_cut : (most : ℕ) (numbers : List ℕ) (why : Why) → IsLeastCutSet script budget shape numbers why × (length numbers ≤ most) →
        IsSetCutIn part most script budget shape numbers why
    all_cut most [] why (is, few) = inl (record { empty = refl; cut = is.cut })
    all_cut most (n ∷ ns) why (is, few) = inr (record {
      uncut = uncut_before n ns is.least;
      tried = set_of_part (n ∷ ns) is.set (made_of (n ∷ ns) is.set (false_from_ne_true (is_fine (runs (n ∷ ns))) (cut-unfine (runs (n ∷ ns)) why is.cut)) is.least);
      few = few;
      cut = is.cut;
      least = all_before (n ∷ ns) is.least;
    })

    none_all : (most : ℕ) → IsNoSetIn part most script budget shape → AreSetsFine script budget shape most
    none_all most is numbers up few = fine_by numbers up (is.fine [] empty_of (omega arith)) (λ tried. is.fine numbers tried few)

    all_none : (most : ℕ) → AreSetsFine script budget shape most → IsNoSetIn part most script budget shape
    all_none most fine = record {
      uncut = uncut_of (fine_is_uncut (runs []) (fine [] tt (omega arith)));
      fine = λ numbers tried few. fine numbers tried.set few;
    }

-- ---- both ways

pub whole-set-found : (part : Part) (most : ℕ) (script : Script) (budget : ℕ) (shape : Shape) (numbers : List ℕ) (result : RunResult) → part.from ≡ 0 →
    last_attempt Single script budget shape ≤ part.to → IsSetFoundIn part most script budget shape numbers result
    ↔ (IsLeastBadSet script budget shape numbers result × (length numbers ≤ most))
whole-set-found part most script budget shape numbers result start within = (
  found_all script budget shape part start within most numbers result,
  all_found script budget shape part start within most numbers result,
)

pub whole-set-cut : (part : Part) (most : ℕ) (script : Script) (budget : ℕ) (shape : Shape) (numbers : List ℕ) (why : Why) → part.from ≡ 0 →
    last_attempt Single script budget shape ≤ part.to → IsSetCutIn part most script budget shape numbers why
    ↔ (IsLeastCutSet script budget shape numbers why × (length numbers ≤ most))
whole-set-cut part most script budget shape numbers why start within = (
  cut_all script budget shape part start within most numbers why,
  all_cut script budget shape part start within most numbers why,
)

pub whole-set-none : (part : Part) (most : ℕ) (script : Script) (budget : ℕ) (shape : Shape) → part.from ≡ 0 →
    last_attempt Single script budget shape ≤ part.to → IsNoSetIn part most script budget shape ↔ AreSetsFine script budget shape most
whole-set-none part most script budget shape start within = (
  none_all script budget shape part start within most,
  all_none script budget shape part start within most,
)
