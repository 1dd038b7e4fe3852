-- A sweep over a part that begins with number 0, and goes to the last attempt at least, answers as one that tries all failures.
use Rattle.std.proofs.Common.{◌≡◌, ℕ, ◌<◌, ◌≤◌, inl, inr, arith, Bool, true, false, refl, sym, ◌∙◌, ap, subst}
use Rattle.std.specs.Prelude.{not, ◌&&◌, ◌||◌, ◌↔◌, nat_eq, nat_lt}
use Rattle.std.proofs.lemmas.Bool.{and_right, cases_lt, eq-eqb, eqb-true, false≢true, lt-ltb, ltb-true, and_parts, or_left, or_right}
use Rattle.wb_runs.specs.declared.failures.Failing.{Failing}
use Rattle.wb_runs.specs.declared.failures.Failing.TheVariants.{Number, Pair}
use Rattle.wb_runs.specs.declared.failures.Failing.TheVariants as failings
use Rattle.wb_runs.specs.declared.failures.Failures.{Failures}
use Rattle.wb_runs.specs.declared.failures.Failures.TheVariants.{Single, Every, Pairs, Persistent}
use Rattle.wb_heap_model.specs.declared.heap.Shape.{Shape}
use Rattle.wb_runs.specs.declared.part.Part.{Part}
use Rattle.wb_meaning.specs.declared.run.Outcome.{Outcome}
use Rattle.wb_meaning.specs.declared.run.Outcome.TheVariants.{Ended, Panicked, NoCleanup, Cut}
use Rattle.wb_meaning.specs.declared.run.RunResult.{RunResult}
use Rattle.wb_meaning.specs.declared.run.Why.{Why}
use Rattle.wb_tree.specs.declared.script.Script.{Script}
use Rattle.wb_runs.specs.Pairs.{pair_run, ArePairsFineBefore, ComesBefore}
use Rattle.wb_runs.specs.Parts.{comes_before, last_attempt, run_at, AreFineBefore, IsCutIn, IsCutWithout, IsFoundIn, IsLeastCutIn, IsNoneIn, IsNumberOf, IsTried}
use Rattle.wb_meaning.specs.Run.{is_bad, is_bad_outcome}
use Rattle.wb_runs.specs.SweepAnswers.{IsCutShort, IsFound, IsNoneFound}
use Rattle.wb_runs.specs.Sweeps.{failing_at, is_cut_outcome, is_fine, runs_of, AreAllFine, AreFineBelow, IsCutAmong, IsLeastBad, IsLeastCut}
use Rattle.wb_runs.proofs.OnceFound.{bad-unfine, cut-unfine}
use Rattle.wb_runs.proofs.PairLemmas.{all-pairs-fine, first-past}
use Rattle.wb_runs.proofs.SweepLemmas.{all_fine, fine_uncut, unfine_within}

-- ---- one run

bad_is_unfine : (told : RunResult) → is_bad told ≡ true → is_fine told ≡ false
bad_is_unfine told bad = ap (λ b. not b && not (is_cut_outcome told.outcome)) bad

cut_is_unfine : (told : RunResult) (why : Why) → told.outcome ≡ Cut why → is_fine told ≡ false
cut_is_unfine told why cut = and_right (not (is_bad told)) (not (is_cut_outcome told.outcome)) (ap (λ o. not (is_cut_outcome o)) cut)

uncut_by : (bad cut : Bool) → (not bad && not cut) ≡ true → cut ≡ false
uncut_by bad false e = refl
uncut_by true true e = absurd (false≢true e)
uncut_by false true e = absurd (false≢true e)

pub fine_is_uncut : (told : RunResult) → is_fine told ≡ true → is_cut_outcome told.outcome ≡ false
fine_is_uncut told = uncut_by (is_bad told) (is_cut_outcome told.outcome)

pub bad_is_uncut : (outcome : Outcome) → is_bad_outcome outcome ≡ true → is_cut_outcome outcome ≡ false
bad_is_uncut (Ended left leaks) e = refl
bad_is_uncut (Panicked panic) e = refl
bad_is_uncut NoCleanup e = refl
bad_is_uncut (Cut why) e = absurd (false≢true e)

-- ---- numbers and pairs in their order

pub tried-at : (failures : Failures) (part : Part) (last n : ℕ) → IsNumberOf part last n → IsTried failures part last (failing_at failures n)
tried-at Single part last n is = is
tried-at Every part last n is = is
tried-at Persistent part last n is = is
tried-at Pairs part last n is = is

pub number_before : (failures : Failures) (m n : ℕ) → m < n → comes_before (failing_at failures m) (failing_at failures n) ≡ true
number_before Single m n lt = lt-ltb m n lt
number_before Every m n lt = lt-ltb m n lt
number_before Persistent m n lt = lt-ltb m n lt
number_before Pairs m n lt = lt-ltb m n lt

pub pair_before : (a b i j : ℕ) → ComesBefore a b i j → comes_before (Pair a b) (Pair i j) ≡ true
pair_before a b i j (inl less) = or_left (nat_lt a i) (nat_eq a i && nat_lt b j) (lt-ltb a i less)
pair_before a b i j (inr is) = or_right (nat_lt a i) (nat_eq a i && nat_lt b j) (ap (λ t. t && nat_lt b j) (eq-eqb a i is.0) ∙ lt-ltb b j is.1)

pub before_pair : (a b i j : ℕ) → comes_before (Pair a b) (Pair i j) ≡ true → ComesBefore a b i j
before_pair a b i j e = by (nat_lt a i) refl e
  where
    by : (t : Bool) → nat_lt a i ≡ t → (t || (nat_eq a i && nat_lt b j)) ≡ true → ComesBefore a b i j
    by true f e = inl (ltb-true a i f)
    by false f e = let both = and_parts (nat_eq a i) (nat_lt b j) e in inr (eqb-true a i both.0, ltb-true b j both.1)

-- what is tried before a number is a lesser one of the part
pub before-number : (failures : Failures) (part : Part) (script : Script) (budget : ℕ) (shape : Shape) (n : ℕ) →
    ((m : ℕ) → part.from ≤ m → m < n → is_fine (runs_of failures script budget shape m) ≡ true) → AreFineBefore failures part script budget shape (failing_at failures n)
before-number Single part script budget shape n below (Number m) tried e = below m tried.from (ltb-true m n e)
before-number Single part script budget shape n below at tried e = absurd tried
before-number Every part script budget shape n below (failings.Every m) tried e = below m tried.from (ltb-true m n e)
before-number Persistent part script budget shape n below (failings.From m) tried e = below m tried.from (ltb-true m n e)
before-number Every part script budget shape n below at tried e = absurd tried
before-number Persistent part script budget shape n below at tried e = absurd tried
before-number Pairs part script budget shape n below (Number m) tried e = below m tried.from (ltb-true m n e)
before-number Pairs part script budget shape n below (Pair i j) tried e = absurd (false≢true e)
before-number Pairs part script budget shape n below at tried e = absurd tried

-- what is tried before a pair is a number of the part, or a pair that comes before
pub before-pair : (part : Part) (script : Script) (budget : ℕ) (shape : Shape) (i j : ℕ) →
    ((n : ℕ) → IsNumberOf part (last_attempt Pairs script budget shape) n → is_fine (runs_of Single script budget shape n) ≡ true) →
    ((a b : ℕ) → part.from ≤ a → 1 ≤ a → a < b → ComesBefore a b i j → is_fine (pair_run script budget shape a b) ≡ true) →
    AreFineBefore Pairs part script budget shape (Pair i j)
before-pair part script budget shape i j fine least (Number m) tried e = fine m tried
before-pair part script budget shape i j fine least (failings.Every m) tried e = absurd tried
before-pair part script budget shape i j fine least (failings.From m) tried e = absurd tried
before-pair part script budget shape i j fine least (failings.Set numbers) tried e = absurd tried
before-pair part script budget shape i j fine least (Pair a b) tried e = least a b tried.0.from tried.1 tried.2 (before_pair a b i j e)

-- ---- the numbers of a whole part

module _ (part : Part) (script : Script) (budget : ℕ) (shape : Shape) (start : part.from ≡ 0) where
  abbrev pairs : ℕ → ℕ → RunResult
  pairs = pair_run script budget shape

  number_of : (failures : Failures) → last_attempt failures script budget shape ≤ part.to → (n : ℕ) → n ≤ last_attempt failures script budget shape →
      IsNumberOf part (last_attempt failures script budget shape) n
  number_of failures within n le = record { from = omega (arith, start); to = omega (arith, le, within); made = le }

  below_of : (failures : Failures) → last_attempt failures script budget shape ≤ part.to → (n : ℕ) → n ≤ last_attempt failures script budget shape →
      AreFineBefore failures part script budget shape (failing_at failures n) → AreFineBelow (runs_of failures script budget shape) n
  below_of failures within n made least m lt =
      least (failing_at failures m) (tried-at failures part (last_attempt failures script budget shape) m (number_of failures within m (omega (arith, lt, made))))
      (number_before failures m n lt)

  -- the single numbers, where a pair is the least, or none is found
  alone_of : last_attempt Pairs script budget shape ≤ part.to →
      ((n : ℕ) → n ≤ last_attempt Pairs script budget shape → is_fine (runs_of Pairs script budget shape n) ≡ true) → AreAllFine (runs_of Single script budget shape)
  alone_of within fine = all_fine Single script budget shape (λ n lt. fine n (omega (arith, lt)))

  alone_before : last_attempt Pairs script budget shape ≤ part.to → (i j : ℕ) → AreFineBefore Pairs part script budget shape (Pair i j) →
      AreAllFine (runs_of Single script budget shape)
  alone_before within i j least = alone_of within (λ n le. least (Number n) (number_of Pairs within n le) refl)

  pairs_before : last_attempt Pairs script budget shape ≤ part.to → (i j : ℕ) → i ≤ last_attempt Pairs script budget shape →
      AreFineBefore Pairs part script budget shape (Pair i j) → ArePairsFineBefore pairs i j
  pairs_before within i j made least a b first later comes =
      least (Pair a b) (number_of Pairs within a (at_most comes), first, later) (pair_before a b i j comes)
    where
      at_most : ComesBefore a b i j → a ≤ last_attempt Pairs script budget shape
      at_most (inl less) = omega (arith, less, made)
      at_most (inr is) = omega (arith, is.0, made)

  -- the first number of a pair whose run isn't fine is no greater than the last attempt
  pair_made : (i j : ℕ) → i < j → AreAllFine (runs_of Single script budget shape) → (is_fine (pairs i j) ≡ true → ⊥) → i ≤ last_attempt Pairs script budget shape
  pair_made i j later fine unfine =
      elim (cases_lt (last_attempt Pairs script budget shape) i) [
        | inl past ↦
            absurd (unfine (ap is_fine (first-past script budget shape i j later (fine_uncut (runs_of Single script budget shape 0) (fine 0)) past) ∙ fine 0))
        | inr le ↦ le
      ]

  -- ---- what is found

  number_found : (failures : Failures) → last_attempt failures script budget shape ≤ part.to → (n : ℕ) (result : RunResult) →
      IsLeastBad (runs_of failures script budget shape) n result → IsFoundIn failures part script budget shape (failing_at failures n) result
  number_found failures within n result is = record {
    uncut = uncut;
    tried = tried-at failures part (last_attempt failures script budget shape) n (number_of failures within n made);
    bad = is.bad;
    least = before-number failures part script budget shape n (λ m ge lt. is.least m lt);
    run_is = is.run_is;
  }
    where
      runs : ℕ → RunResult
      runs = runs_of failures script budget shape

      made : n ≤ last_attempt failures script budget shape
      made = unfine_within failures script budget shape n (record { unfine = bad_is_unfine (runs n) is.bad; least = is.least })

      uncut : is_cut_outcome (runs 0).outcome ≡ false
      uncut = elim (cases_lt 0 n) [
        | inl more ↦ fine_is_uncut (runs 0) (is.least 0 more)
        | inr le ↦ let none : n ≡ 0 = omega (arith, le) in bad_is_uncut (runs 0).outcome (subst (λ k. is_bad (runs k) ≡ true) none is.bad)
      ]

  found-all : (failures : Failures) → last_attempt failures script budget shape ≤ part.to → (at : Failing) (result : RunResult) →
      IsFoundIn failures part script budget shape at result → IsFound failures script budget shape at result
  found-all Single within (Number n) result is = (n, refl, record { bad = is.bad; least = below_of Single within n is.tried.made is.least; run_is = is.run_is })
  found-all Single within at result is = absurd is.tried
  found-all Every within (failings.Every n) result is = (n, refl, record { bad = is.bad; least = below_of Every within n is.tried.made is.least; run_is = is.run_is })
  found-all Persistent within (failings.From n) result is = (n, refl, record { bad = is.bad; least = below_of Persistent within n is.tried.made is.least; run_is = is.run_is })
  found-all Every within at result is = absurd is.tried
  found-all Persistent within at result is = absurd is.tried
  found-all Pairs within (Number n) result is = inl (n, refl, record { bad = is.bad; least = below_of Pairs within n is.tried.made is.least; run_is = is.run_is })
  found-all Pairs within (failings.Every n) result is = absurd is.tried
  found-all Pairs within (failings.From n) result is = absurd is.tried
  found-all Pairs within (failings.Set numbers) result is = absurd is.tried
  found-all Pairs within (Pair i j) result is = inr (
    i,
    j,
    refl,
    record {
      counted = is.tried.1;
      later = is.tried.2;
      alone = alone_before within i j is.least;
      bad = is.bad;
      least = pairs_before within i j is.tried.0.made is.least;
      run_is = is.run_is;
    },
  )

  all-found : (failures : Failures) → last_attempt failures script budget shape ≤ part.to → (at : Failing) (result : RunResult) →
      IsFound failures script budget shape at result → IsFoundIn failures part script budget shape at result
  all-found Single within at result (n, e, is) = subst (λ f. IsFoundIn Single part script budget shape f result) (sym e) (number_found Single within n result is)
  all-found Every within at result (n, e, is) = subst (λ f. IsFoundIn Every part script budget shape f result) (sym e) (number_found Every within n result is)
  all-found Persistent within at result (n, e, is) = subst (λ f. IsFoundIn Persistent part script budget shape f result) (sym e) (number_found Persistent within n result is)
  all-found Pairs within at result (inl (n, e, is)) = subst (λ f. IsFoundIn Pairs part script budget shape f result) (sym e) (number_found Pairs within n result is)
  all-found Pairs within at result (inr (i, j, e, is)) =
      let found : IsFoundIn Pairs part script budget shape (Pair i j) result = record {
        uncut = fine_is_uncut (runs_of Single script budget shape 0) (is.alone 0);
        tried = (number_of Pairs within i (pair_made i j is.later is.alone (bad-unfine (pairs i j) is.bad)), is.counted, is.later);
        bad = is.bad;
        least = before-pair part script budget shape i j (λ n tried. is.alone n) (λ a b ge. is.least a b);
        run_is = is.run_is;
      } in
      subst (λ f. IsFoundIn Pairs part script budget shape f result) (sym e) found

  -- ---- what is cut

  number_cut : (failures : Failures) → last_attempt failures script budget shape ≤ part.to → (n : ℕ) (why : Why) →
      IsLeastCut (runs_of failures script budget shape) n why → IsCutIn failures part script budget shape (failing_at failures n) why
  number_cut failures within n why is = elim (cases_lt 0 n) [
    | inl more ↦ inr (record {
      uncut = fine_is_uncut (runs 0) (is.least 0 more);
      tried = tried-at failures part (last_attempt failures script budget shape) n (number_of failures within n made);
      cut = is.cut;
      least = before-number failures part script budget shape n (λ m ge lt. is.least m lt);
    })
    | inr le ↦
        let none : n ≡ 0 = omega (arith, le) in
        inl (record { failing = ap (failing_at failures) none; cut = subst (λ k. (runs k).outcome ≡ Cut why) none is.cut })
  ]
    where
      runs : ℕ → RunResult
      runs = runs_of failures script budget shape

      made : n ≤ last_attempt failures script budget shape
      made = unfine_within failures script budget shape n (record { unfine = cut_is_unfine (runs n) why is.cut; least = is.least })

  cut_without : (failures : Failures) (at : Failing) (why : Why) → IsCutWithout failures script budget shape at why → IsCutAmong (failing_at failures) script budget shape at why
  cut_without failures at why is = (0, is.failing, record { cut = is.cut; least = λ n lt. absurd (omega (arith, lt)) })

  cut-all : (failures : Failures) → last_attempt failures script budget shape ≤ part.to → (at : Failing) (why : Why) →
      IsCutIn failures part script budget shape at why → IsCutShort failures script budget shape at why
  cut-all Single within at why (inl is) = cut_without Single at why is
  cut-all Every within at why (inl is) = cut_without Every at why is
  cut-all Persistent within at why (inl is) = cut_without Persistent at why is
  cut-all Pairs within at why (inl is) = inl (cut_without Pairs at why is)
  cut-all Single within (Number n) why (inr is) = (n, refl, record { cut = is.cut; least = below_of Single within n is.tried.made is.least })
  cut-all Single within at why (inr is) = absurd is.tried
  cut-all Every within (failings.Every n) why (inr is) = (n, refl, record { cut = is.cut; least = below_of Every within n is.tried.made is.least })
  cut-all Persistent within (failings.From n) why (inr is) = (n, refl, record { cut = is.cut; least = below_of Persistent within n is.tried.made is.least })
  cut-all Every within at why (inr is) = absurd is.tried
  cut-all Persistent within at why (inr is) = absurd is.tried
  cut-all Pairs within (Number n) why (inr is) = inl (n, refl, record { cut = is.cut; least = below_of Pairs within n is.tried.made is.least })
  cut-all Pairs within (failings.Every n) why (inr is) = absurd is.tried
  cut-all Pairs within (failings.From n) why (inr is) = absurd is.tried
  cut-all Pairs within (failings.Set numbers) why (inr is) = absurd is.tried
  cut-all Pairs within (Pair i j) why (inr is) = inr (
    i,
    j,
    refl,
    record {
      counted = is.tried.1;
      later = is.tried.2;
      alone = alone_before within i j is.least;
      cut = is.cut;
      least = pairs_before within i j is.tried.0.made is.least;
    },
  )

  all-cut : (failures : Failures) → last_attempt failures script budget shape ≤ part.to → (at : Failing) (why : Why) →
      IsCutShort failures script budget shape at why → IsCutIn failures part script budget shape at why
  all-cut Single within at why (n, e, is) = subst (λ f. IsCutIn Single part script budget shape f why) (sym e) (number_cut Single within n why is)
  all-cut Every within at why (n, e, is) = subst (λ f. IsCutIn Every part script budget shape f why) (sym e) (number_cut Every within n why is)
  all-cut Persistent within at why (n, e, is) = subst (λ f. IsCutIn Persistent part script budget shape f why) (sym e) (number_cut Persistent within n why is)
  all-cut Pairs within at why (inl (n, e, is)) = subst (λ f. IsCutIn Pairs part script budget shape f why) (sym e) (number_cut Pairs within n why is)
  all-cut Pairs within at why (inr (i, j, e, is)) =
      let cut : IsLeastCutIn Pairs part script budget shape (Pair i j) why = record {
        uncut = fine_is_uncut (runs_of Single script budget shape 0) (is.alone 0);
        tried = (number_of Pairs within i (pair_made i j is.later is.alone (cut-unfine (pairs i j) why is.cut)), is.counted, is.later);
        cut = is.cut;
        least = before-pair part script budget shape i j (λ n tried. is.alone n) (λ a b ge. is.least a b);
      } in
      subst (λ f. IsCutIn Pairs part script budget shape f why) (sym e) (inr cut)

  -- ---- nothing

  none-all : (failures : Failures) → last_attempt failures script budget shape ≤ part.to → IsNoneIn failures part script budget shape → IsNoneFound failures script budget shape
  none-all Single within is = all_fine Single script budget shape (λ n lt. is.fine (Number n) (number_of Single within n (omega (arith, lt))))
  none-all Every within is = all_fine Every script budget shape (λ n lt. is.fine (failings.Every n) (number_of Every within n (omega (arith, lt))))
  none-all Persistent within is = all_fine Persistent script budget shape (λ n lt. is.fine (failings.From n) (number_of Persistent within n (omega (arith, lt))))
  none-all Pairs within is =
      let alone = alone_of within (λ n le. is.fine (Number n) (number_of Pairs within n le)) in
      (alone, all-pairs-fine script budget shape (alone 0) (λ i first le j later. is.fine (Pair i j) (number_of Pairs within i le, first, later)))

  fine_at : (failures : Failures) → IsNoneFound failures script budget shape → (last : ℕ) (at : Failing) → IsTried failures part last at →
      is_fine (run_at script budget shape at) ≡ true
  fine_at Single fine last (Number n) tried = fine n
  fine_at Single fine last at tried = absurd tried
  fine_at Every fine last (failings.Every n) tried = fine n
  fine_at Persistent fine last (failings.From n) tried = fine n
  fine_at Every fine last at tried = absurd tried
  fine_at Persistent fine last at tried = absurd tried
  fine_at Pairs fine last (Number n) tried = fine.0 n
  fine_at Pairs fine last (failings.Every n) tried = absurd tried
  fine_at Pairs fine last (failings.From n) tried = absurd tried
  fine_at Pairs fine last (failings.Set numbers) tried = absurd tried
  fine_at Pairs fine last (Pair i j) tried = fine.1 i j tried.1 tried.2

  fine_without : (failures : Failures) → IsNoneFound failures script budget shape → is_fine (runs_of failures script budget shape 0) ≡ true
  fine_without Single fine = fine 0
  fine_without Every fine = fine 0
  fine_without Persistent fine = fine 0
  fine_without Pairs fine = fine.0 0

  all-none : (failures : Failures) → IsNoneFound failures script budget shape → IsNoneIn failures part script budget shape
  all-none failures fine = record {
    uncut = fine_is_uncut (runs_of failures script budget shape 0) (fine_without failures fine);
    fine = fine_at failures fine (last_attempt failures script budget shape);
  }

-- ---- both ways

pub whole-found : (failures : Failures) (part : Part) (script : Script) (budget : ℕ) (shape : Shape) (at : Failing) (result : RunResult) → part.from ≡ 0 →
    last_attempt failures script budget shape ≤ part.to → IsFoundIn failures part script budget shape at result ↔ IsFound failures script budget shape at result
whole-found failures part script budget shape at result start within = (
  found-all part script budget shape start failures within at result,
  all-found part script budget shape start failures within at result,
)

pub whole-cut : (failures : Failures) (part : Part) (script : Script) (budget : ℕ) (shape : Shape) (at : Failing) (why : Why) → part.from ≡ 0 →
    last_attempt failures script budget shape ≤ part.to → IsCutIn failures part script budget shape at why ↔ IsCutShort failures script budget shape at why
whole-cut failures part script budget shape at why start within = (
  cut-all part script budget shape start failures within at why,
  all-cut part script budget shape start failures within at why,
)

pub whole-none : (failures : Failures) (part : Part) (script : Script) (budget : ℕ) (shape : Shape) → part.from ≡ 0 →
    last_attempt failures script budget shape ≤ part.to → IsNoneIn failures part script budget shape ↔ IsNoneFound failures script budget shape
whole-none failures part script budget shape start within = (
  none-all part script budget shape start failures within,
  all-none part script budget shape start failures,
)
