-- The sets of at most one attempt are the single failures, and those of at most two are these and the pairs.
use Rattle.std.proofs.Common.{◌≡◌, ℕ, zero, suc, ◌<◌, ◌≤◌, ◌⊎◌, inl, inr, arith, Bool, true, false, List, [], ◌∷◌, length, refl, sym, ◌∙◌, ap, subst}
use Rattle.std.specs.Prelude.{◌↔◌, ◌||◌, ◌&&◌, nat_eq, nat_lt}
use Rattle.std.proofs.lemmas.Bool.{le-ltb, lt-ltb}
use Rattle.wb_runs.specs.declared.failures.Failing.{Failing}
use Rattle.wb_runs.specs.declared.failures.Failing.TheVariants.{Number, Pair}
use Rattle.wb_runs.specs.declared.failures.Failures.{Failures}
use Rattle.wb_runs.specs.declared.failures.Failures.TheVariants.{Single, Pairs}
use Rattle.wb_heap_model.specs.declared.heap.Shape.{Shape}
use Rattle.wb_runs.specs.declared.part.Part.{Part}
use Rattle.wb_meaning.specs.declared.run.RunResult.{RunResult}
use Rattle.wb_meaning.specs.declared.run.Why.{Why}
use Rattle.wb_tree.specs.declared.script.Script.{Script}
use Rattle.wb_runs.specs.Parts.{comes_before, last_attempt, run_at, AreFineBefore, IsNoneIn, IsTried, IsUncut}
use Rattle.wb_meaning.specs.Run.{is_bad}
use Rattle.wb_runs.specs.SetAnswers.{IsSetOfCut, IsSetOfFound}
use Rattle.wb_runs.specs.SetParts.{AreSetsFineInBefore, IsNoSetIn, IsSetCutIn, IsSetFoundIn, IsSetOf}
use Rattle.wb_runs.specs.Sets.{has_lesser_number, set_comes_before, set_run}
use Rattle.wb_runs.specs.Sweeps.{failing_at, is_cut_outcome, is_fine, runs_of, set_of}
use Rattle.wb_runs.proofs.SetLemmas.{none-fails, one-fails, two-fail}
use Rattle.wb_runs.proofs.SetOrder.{before-by}

-- ---- the order of failures is that of their sets

or_none : (a b : Bool) → a ≡ (a || (b && false))
or_none true b = refl
or_none false true = refl
or_none false false = refl

same_order : (part : Part) (last : ℕ) (at other : Failing) → IsTried Pairs part last at → IsTried Pairs part last other →
    comes_before at other ≡ set_comes_before (set_of at) (set_of other)
same_order part last (Number zero) (Number zero) is too = refl
same_order part last (Number zero) (Number (suc n)) is too = lt-ltb 0 (suc n) (omega arith)
same_order part last (Number (suc m)) (Number zero) is too = le-ltb (suc m) 0 (omega arith)
same_order part last (Number (suc m)) (Number (suc n)) is too = or_none (nat_lt (suc m) (suc n)) (nat_eq (suc m) (suc n))
same_order part last (Number zero) (Pair i j) is too = refl
same_order part last (Number (suc m)) (Pair i j) is too = refl
same_order part last (Pair a b) (Number zero) is too = refl
same_order part last (Pair a b) (Number (suc n)) is too = refl
same_order part last (Pair a b) (Pair i j) is too = ap (λ t. nat_lt a i || (nat_eq a i && t)) (or_none (nat_lt b j) (nat_eq b j))
same_order part last (Number zero) other is too = absurd too
same_order part last (Number (suc m)) other is too = absurd too
same_order part last (Pair a b) other is too = absurd too
same_order part last at other is too = absurd is

-- ---- which sets the failures are that a sweep tries

set_is : (part : Part) (last : ℕ) (at : Failing) → IsTried Pairs part last at → IsSetOf part last (set_of at)
set_is part last (Number zero) is = record { set = tt; least = is }
set_is part last (Number (suc n)) is = record { set = (omega arith, tt); least = is }
set_is part last (Pair i j) is = record { set = (omega (arith, is.1), (is.2, tt)); least = is.0 }
set_is part last at is = absurd is

-- the failures that a sweep tries, of those by pairs, are the sets of at most so many attempts
pub record AreSetsOfAtMost (most : ℕ) (failures : Failures) : Type 0 where
  pub without : failing_at failures 0 ≡ Number 0
  pub in_pairs : (part : Part) (last : ℕ) (at : Failing) → IsTried failures part last at → IsTried Pairs part last at
  pub few : (part : Part) (last : ℕ) (at : Failing) → IsTried failures part last at → length (set_of at) ≤ most
  pub from : (part : Part) (last : ℕ) (numbers : List ℕ) → IsSetOf part last numbers → length numbers ≤ most →
      (at : Failing) × (numbers ≡ set_of at) × IsTried failures part last at

single_sets : AreSetsOfAtMost 1 Single
single_sets = record { without = refl; in_pairs = in_pairs; few = few; from = from }
  where
    in_pairs : (part : Part) (last : ℕ) (at : Failing) → IsTried Single part last at → IsTried Pairs part last at
    in_pairs part last (Number n) is = is
    in_pairs part last at is = absurd is

    few : (part : Part) (last : ℕ) (at : Failing) → IsTried Single part last at → length (set_of at) ≤ 1
    few part last (Number zero) is = omega arith
    few part last (Number (suc n)) is = omega arith
    few part last at is = absurd is

    from : (part : Part) (last : ℕ) (numbers : List ℕ) → IsSetOf part last numbers → length numbers ≤ 1 →
        (at : Failing) × (numbers ≡ set_of at) × IsTried Single part last at
    from part last [] is few = (Number 0, refl, is.least)
    from part last (zero ∷ []) is few = absurd (omega (arith, is.set.0))
    from part last (suc n ∷ []) is few = (Number (suc n), refl, is.least)
    from part last (i ∷ j ∷ js) is few = absurd (omega (arith, few))

paired_sets : AreSetsOfAtMost 2 Pairs
paired_sets = record { without = refl; in_pairs = λ part last at is. is; few = few; from = from }
  where
    few : (part : Part) (last : ℕ) (at : Failing) → IsTried Pairs part last at → length (set_of at) ≤ 2
    few part last (Number zero) is = omega arith
    few part last (Number (suc n)) is = omega arith
    few part last (Pair i j) is = omega arith
    few part last at is = absurd is

    from : (part : Part) (last : ℕ) (numbers : List ℕ) → IsSetOf part last numbers → length numbers ≤ 2 →
        (at : Failing) × (numbers ≡ set_of at) × IsTried Pairs part last at
    from part last [] is few = (Number 0, refl, is.least)
    from part last (zero ∷ []) is few = absurd (omega (arith, is.set.0))
    from part last (suc n ∷ []) is few = (Number (suc n), refl, is.least)
    from part last (i ∷ j ∷ []) is few = (Pair i j, refl, (is.least, omega (arith, is.set.0), is.set.1.0))
    from part last (i ∷ j ∷ k ∷ ks) is few = absurd (omega (arith, few))

-- ---- what is found, cut and fine of them

module _ (failures : Failures) (most : ℕ) (are : AreSetsOfAtMost most failures) (part : Part) (script : Script) (budget : ℕ) (shape : Shape) where
  abbrev runs : List ℕ → RunResult
  runs = set_run script budget shape

  abbrev told : Failing → RunResult
  told = run_at script budget shape

  abbrev last : ℕ
  last = last_attempt failures script budget shape

  abbrev tried : Failing → Type 0
  tried at = IsTried failures part last at

  -- the run without failure is the same for each sweep
  without : runs_of failures script budget shape 0 ≡ runs_of Single script budget shape 0
  without = ap told are.without

  uncut : IsUncut failures script budget shape → IsUncut Single script budget shape
  uncut = subst (λ (r : RunResult). is_cut_outcome r.outcome ≡ false) without

  uncut_too : IsUncut Single script budget shape → IsUncut failures script budget shape
  uncut_too = subst (λ (r : RunResult). is_cut_outcome r.outcome ≡ false) (sym without)

  last_is : last ≡ last_attempt Single script budget shape
  last_is = ap (λ (r : RunResult). length r.trace) without

  set_tried : (at : Failing) → tried at → IsSetOf part (last_attempt Single script budget shape) (set_of at)
  set_tried at is = subst (λ l. IsSetOf part l (set_of at)) last_is (set_is part last at (are.in_pairs part last at is))

  failure_of : (numbers : List ℕ) → IsSetOf part (last_attempt Single script budget shape) numbers → length numbers ≤ most →
      (at : Failing) × (numbers ≡ set_of at) × tried at
  failure_of numbers is = are.from part last numbers (subst (λ l. IsSetOf part l numbers) (sym last_is) is)

  run_is : (at : Failing) → tried at → runs (set_of at) ≡ told at
  run_is at is = by at (are.in_pairs part last at is)
    where
      by : (at : Failing) → IsTried Pairs part last at → runs (set_of at) ≡ told at
      by (Number zero) is = none-fails script budget shape
      by (Number (suc n)) is = one-fails script budget shape (suc n)
      by (Pair i j) is = two-fail script budget shape i j
      by at is = absurd is

  order_is : (at other : Failing) → tried at → tried other → comes_before at other ≡ set_comes_before (set_of at) (set_of other)
  order_is at other is too = same_order part last at other (are.in_pairs part last at is) (are.in_pairs part last other too)

  sets_fine : ((at : Failing) → tried at → is_fine (told at) ≡ true) → (numbers : List ℕ) →
      IsSetOf part (last_attempt Single script budget shape) numbers → length numbers ≤ most → is_fine (runs numbers) ≡ true
  sets_fine fine numbers is few = by (failure_of numbers is few)
    where
      by : (at : Failing) × (numbers ≡ set_of at) × tried at → is_fine (runs numbers) ≡ true
      by (at, e, is_at) = ap (λ ns. is_fine (runs ns)) e ∙ ap is_fine (run_is at is_at) ∙ fine at is_at

  failures_fine : ((numbers : List ℕ) → IsSetOf part (last_attempt Single script budget shape) numbers → length numbers ≤ most → is_fine (runs numbers) ≡ true) →
      (at : Failing) → tried at → is_fine (told at) ≡ true
  failures_fine fine at is = ap is_fine (sym (run_is at is)) ∙ fine (set_of at) (set_tried at is) (are.few part last at is)

  sets_before : (at : Failing) → tried at → AreFineBefore failures part script budget shape at → AreSetsFineInBefore part script budget shape (set_of at)
  sets_before at is least other other_is comes = by (failure_of other other_is (no_longer (before-by other (set_of at) comes)))
    where
      few : length (set_of at) ≤ most
      few = are.few part last at is

      no_longer : (length other < length (set_of at)) ⊎ ((length other ≡ length (set_of at)) × (has_lesser_number other (set_of at) ≡ true)) → length other ≤ most
      no_longer (inl lt) = omega (arith, lt, few)
      no_longer (inr same) = omega (arith, same.0, few)

      by : (a : Failing) × (other ≡ set_of a) × tried a → is_fine (runs other) ≡ true
      by (a, e, is_a) =
          ap (λ ns. is_fine (runs ns)) e
          ∙ ap is_fine (run_is a is_a)
          ∙ least a is_a (order_is a at is_a is ∙ ap (λ ns. set_comes_before ns (set_of at)) (sym e) ∙ comes)

  failures_before : (at : Failing) → tried at → AreSetsFineInBefore part script budget shape (set_of at) → AreFineBefore failures part script budget shape at
  failures_before at is least other other_is comes =
      ap is_fine (sym (run_is other other_is)) ∙ least (set_of other) (set_tried other other_is) (sym (order_is other at other_is is) ∙ comes)

  -- ---- of a set the failure, and of a failure the set

  failure_found : (numbers : List ℕ) (result : RunResult) → IsSetFoundIn part most script budget shape numbers result → IsSetOfFound failures part script budget shape numbers result
  failure_found numbers result is = by (failure_of numbers is.tried is.few)
    where
      by : (at : Failing) × (numbers ≡ set_of at) × tried at → IsSetOfFound failures part script budget shape numbers result
      by (at, e, is_at) =
          let same : runs numbers ≡ told at = ap runs e ∙ run_is at is_at in (
            at,
            e,
            record {
              uncut = uncut_too is.uncut;
              tried = is_at;
              bad = ap is_bad (sym same) ∙ is.bad;
              least = failures_before at is_at (subst (AreSetsFineInBefore part script budget shape) e is.least);
              run_is = is.run_is ∙ same;
            },
          )

  set_found : (numbers : List ℕ) (result : RunResult) → IsSetOfFound failures part script budget shape numbers result → IsSetFoundIn part most script budget shape numbers result
  set_found numbers result (at, e, is) =
      let found : IsSetFoundIn part most script budget shape (set_of at) result = record {
        uncut = uncut is.uncut;
        tried = set_tried at is.tried;
        few = are.few part last at is.tried;
        bad = ap is_bad (run_is at is.tried) ∙ is.bad;
        least = sets_before at is.tried is.least;
        run_is = is.run_is ∙ sym (run_is at is.tried);
      } in
      subst (λ ns. IsSetFoundIn part most script budget shape ns result) (sym e) found

  failure_cut : (numbers : List ℕ) (why : Why) → IsSetCutIn part most script budget shape numbers why → IsSetOfCut failures part script budget shape numbers why
  failure_cut numbers why (inl is) = (
    Number 0,
    is.empty,
    inl (record { failing = sym are.without; cut = ap (λ (r : RunResult). r.outcome) (without ∙ sym (none-fails script budget shape)) ∙ is.cut }),
  )
  failure_cut numbers why (inr is) = by (failure_of numbers is.tried is.few)
    where
      by : (at : Failing) × (numbers ≡ set_of at) × tried at → IsSetOfCut failures part script budget shape numbers why
      by (at, e, is_at) =
          let same : runs numbers ≡ told at = ap runs e ∙ run_is at is_at in (
            at,
            e,
            inr (record {
              uncut = uncut_too is.uncut;
              tried = is_at;
              cut = ap (λ (r : RunResult). r.outcome) (sym same) ∙ is.cut;
              least = failures_before at is_at (subst (AreSetsFineInBefore part script budget shape) e is.least);
            }),
          )

  set_cut : (numbers : List ℕ) (why : Why) → IsSetOfCut failures part script budget shape numbers why → IsSetCutIn part most script budget shape numbers why
  set_cut numbers why (at, e, inl is) = inl (record {
    empty = e ∙ ap set_of (is.failing ∙ are.without);
    cut = ap (λ (r : RunResult). r.outcome) (none-fails script budget shape ∙ sym without) ∙ is.cut;
  })
  set_cut numbers why (at, e, inr is) =
      let cut : IsSetCutIn part most script budget shape (set_of at) why = inr (record {
        uncut = uncut is.uncut;
        tried = set_tried at is.tried;
        few = are.few part last at is.tried;
        cut = ap (λ (r : RunResult). r.outcome) (run_is at is.tried) ∙ is.cut;
        least = sets_before at is.tried is.least;
      }) in
      subst (λ ns. IsSetCutIn part most script budget shape ns why) (sym e) cut

  found : (numbers : List ℕ) (result : RunResult) → IsSetFoundIn part most script budget shape numbers result ↔ IsSetOfFound failures part script budget shape numbers result
  found numbers result = (failure_found numbers result, set_found numbers result)

  cut : (numbers : List ℕ) (why : Why) → IsSetCutIn part most script budget shape numbers why ↔ IsSetOfCut failures part script budget shape numbers why
  cut numbers why = (failure_cut numbers why, set_cut numbers why)

  none : IsNoSetIn part most script budget shape ↔ IsNoneIn failures part script budget shape
  none = (λ is. record { uncut = uncut_too is.uncut; fine = failures_fine is.fine }, λ is. record { uncut = uncut is.uncut; fine = sets_fine is.fine })

-- ---- single failures

pub single-found : (part : Part) (script : Script) (budget : ℕ) (shape : Shape) (numbers : List ℕ) (result : RunResult) →
    IsSetFoundIn part 1 script budget shape numbers result ↔ IsSetOfFound Single part script budget shape numbers result
single-found = found Single 1 single_sets

pub single-cut : (part : Part) (script : Script) (budget : ℕ) (shape : Shape) (numbers : List ℕ) (why : Why) →
    IsSetCutIn part 1 script budget shape numbers why ↔ IsSetOfCut Single part script budget shape numbers why
single-cut = cut Single 1 single_sets

pub single-none : (part : Part) (script : Script) (budget : ℕ) (shape : Shape) → IsNoSetIn part 1 script budget shape ↔ IsNoneIn Single part script budget shape
single-none = none Single 1 single_sets

-- ---- and pairs

pub paired-found : (part : Part) (script : Script) (budget : ℕ) (shape : Shape) (numbers : List ℕ) (result : RunResult) →
    IsSetFoundIn part 2 script budget shape numbers result ↔ IsSetOfFound Pairs part script budget shape numbers result
paired-found = found Pairs 2 paired_sets

pub paired-cut : (part : Part) (script : Script) (budget : ℕ) (shape : Shape) (numbers : List ℕ) (why : Why) →
    IsSetCutIn part 2 script budget shape numbers why ↔ IsSetOfCut Pairs part script budget shape numbers why
paired-cut = cut Pairs 2 paired_sets

pub paired-none : (part : Part) (script : Script) (budget : ℕ) (shape : Shape) → IsNoSetIn part 2 script budget shape ↔ IsNoneIn Pairs part script budget shape
paired-none = none Pairs 2 paired_sets
