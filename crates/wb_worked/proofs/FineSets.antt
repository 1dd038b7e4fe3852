-- That all sets of some kind are fine, by computing. A set whose numbers go past the attempts that are made has the run of a part of it, so only
-- sets of attempts that are made are tried.
use Rattle.std.proofs.Common.{◌≡◌, ℕ, zero, suc, ◌+◌, ◌-◌, ◌<◌, ◌≤◌, ◌⊎◌, inl, inr, arith, Bool, true, false, List, [], ◌∷◌, ◌++◌, length, append_assoc, append-nil, refl, sym, ◌∙◌, ap, subst}
use Rattle.std.specs.Prelude.{nat_lt, not, ◌||◌, ◌&&◌}
use Rattle.std.proofs.lemmas.Bool.{cases_lt, false≢true, le-ltb, lt-ltb, ltb-true}
use Rattle.std.proofs.lemmas.List.{length-append}
use Rattle.wb_heap_model.specs.declared.heap.Shape.{Shape}
use Rattle.wb_runs.specs.declared.part.Part.{Part}
use Rattle.wb_meaning.specs.declared.run.RunResult.{RunResult}
use Rattle.wb_tree.specs.declared.script.Script.{Script}
use Rattle.wb_runs.specs.SetParts.{IsSetOf}
use Rattle.wb_runs.specs.Sets.{has_lesser_number, set_comes_before, set_run, AreSetsFine, AreSetsFineBefore, AscendsPast}
use Rattle.wb_runs.specs.Sweeps.{is_fine}
use Rattle.wb_runs.proofs.SetLemmas.{past-last}
use Rattle.wb_runs.proofs.SetOrder.{before-by, fewer-before}
use Rattle.wb_runs.proofs.SweepLemmas.{fine_uncut}

-- of each of so many numbers past one
abbrev pub each_past : (ℕ → Bool) → ℕ → ℕ → Bool
each_past holds low zero = true
each_past holds low (suc count) = holds (suc low) && each_past holds (suc low) count

-- Whether the wanted sets are fine that begin with these numbers, the last of which is `low`. `deep` bounds how many more they have.
abbrev pub are_fine : (List ℕ → RunResult) → (List ℕ → Bool) → ℕ → List ℕ → ℕ → Bool
are_fine runs wanted zero before low = not (wanted before) || (is_fine (runs before) && nat_lt (length (runs before).trace) (suc low))
are_fine runs wanted (suc deep) before low =
    not (wanted before)
    || (is_fine (runs before) && each_past (λ n. are_fine runs wanted deep (before ++ n ∷ []) n) low (length (runs before).trace - low))

both : (x y : Bool) → (x && y) ≡ true → (x ≡ true) × (y ≡ true)
both true y e = (refl, e)
both false y e = absurd (false≢true e)

wanted_so : (w x : Bool) → w ≡ true → (not w || x) ≡ true → x ≡ true
wanted_so true x w e = e
wanted_so false x w e = absurd (false≢true w)

each-past : (holds : ℕ → Bool) (low count n : ℕ) → each_past holds low count ≡ true → low < n → n ≤ low + count → holds n ≡ true
each-past holds low zero n e lt le = absurd (omega (arith, lt, le))
each-past holds low (suc count) n e lt le =
    let is = both (holds (suc low)) (each_past holds (suc low) count) e in
    by (cases_lt (suc low) n) is.0 (λ more. each-past holds (suc low) count n is.1 more (omega (arith, le)))
  where
    by : (suc low < n) ⊎ (n ≤ suc low) → holds (suc low) ≡ true → (suc low < n → holds n ≡ true) → holds n ≡ true
    by (inl more) here later = later more
    by (inr most) here later = let same : suc low ≡ n = omega (arith, lt, most) in subst (λ k. holds k ≡ true) same here

-- a set is wanted only where those are that begin it
abbrev pub IsOfBeginnings : (List ℕ → Bool) → Type 0
IsOfBeginnings wanted = (ns : List ℕ) (n : ℕ) (more : List ℕ) → wanted (ns ++ n ∷ more) ≡ true → wanted ns ≡ true

module _ (script : Script) (budget : ℕ) (shape : Shape) (wanted : List ℕ → Bool) (begin : IsOfBeginnings wanted) where
  abbrev runs : List ℕ → RunResult
  runs = set_run script budget shape

  pub fine-from : (deep : ℕ) (before : List ℕ) (low : ℕ) (rest : List ℕ) → AscendsPast low rest → wanted (before ++ rest) ≡ true →
      are_fine runs wanted deep before low ≡ true → is_fine (runs (before ++ rest)) ≡ true
  fine-from zero before low [] up is tried =
      let same = append-nil before in
      let here = wanted_so (wanted before) _ (subst (λ ns. wanted ns ≡ true) same is) tried in
      subst (λ ns. is_fine (runs ns) ≡ true) (sym same) (both _ _ here).0
  fine-from (suc deep) before low [] up is tried =
      let same = append-nil before in
      let here = wanted_so (wanted before) _ (subst (λ ns. wanted ns ≡ true) same is) tried in
      subst (λ ns. is_fine (runs ns) ≡ true) (sym same) (both _ _ here).0
  fine-from zero before low (n ∷ ns) up is tried =
      let here = both _ _ (wanted_so (wanted before) _ (begin before n ns is) tried) in
      let past = ltb-true (length (runs before).trace) (suc low) here.1 in
      ap is_fine (past-last script budget shape before (n ∷ ns) (fine_uncut (runs before) here.0) (omega (arith, past, up.0), up.1)) ∙ here.0
  fine-from (suc deep) before low (n ∷ ns) up is tried =
      let here = both _ _ (wanted_so (wanted before) _ (begin before n ns is) tried) in
      let same = append_assoc before (n ∷ []) ns in
      by (cases_lt (length (runs before).trace) n) here.0
      (λ made. subst (λ ks. is_fine (runs ks) ≡ true) same
      (fine-from deep (before ++ n ∷ []) n ns up.1 (subst (λ ks. wanted ks ≡ true) (sym same) is)
      (each-past (λ k. are_fine runs wanted deep (before ++ k ∷ []) k) low (length (runs before).trace - low) n here.1 up.0 (omega (arith, made, up.0)))))
    where
      by : (length (runs before).trace < n) ⊎ (n ≤ length (runs before).trace) → is_fine (runs before) ≡ true →
          (n ≤ length (runs before).trace → is_fine (runs (before ++ n ∷ ns)) ≡ true) → is_fine (runs (before ++ n ∷ ns)) ≡ true
      by (inl past) fine later = ap is_fine (past-last script budget shape before (n ∷ ns) (fine_uncut (runs before) fine) (past, up.1)) ∙ fine
      by (inr made) fine later = later made

  -- of the sets of a part
  pub fine-in-part : (deep : ℕ) (part : Part) (last : ℕ) → (nat_lt 0 part.from || is_fine (runs [])) ≡ true →
      each_past (λ n. are_fine runs wanted deep (n ∷ []) n) (part.from - 1) (part.to - (part.from - 1)) ≡ true →
      (numbers : List ℕ) → IsSetOf part last numbers → wanted numbers ≡ true → is_fine (runs numbers) ≡ true
  fine-in-part deep part last none each [] is want =
      let zero_of : nat_lt 0 part.from ≡ false = le-ltb 0 part.from is.least.from in
      sym (ap (λ t. t || is_fine (runs [])) zero_of) ∙ none
  fine-in-part deep part last none each (n ∷ ns) is want =
      fine-from deep (n ∷ []) n ns is.set.1 want
      (each-past (λ k. are_fine runs wanted deep (k ∷ []) k) (part.from - 1) (part.to - (part.from - 1)) n each
      (omega (arith, is.set.0, is.least.from)) (omega (arith, is.set.0, is.least.from, is.least.to)))

-- ---- which sets are wanted

abbrev pub any_set : List ℕ → Bool
any_set numbers = true

abbrev pub at_most : ℕ → List ℕ → Bool
at_most most numbers = nat_lt (length numbers) (suc most)

abbrev pub lesser_than : List ℕ → List ℕ → Bool
lesser_than numbers other = set_comes_before other numbers

pub any-begins : IsOfBeginnings any_set
any-begins ns n more is = refl

pub few-begin : (most : ℕ) → IsOfBeginnings (at_most most)
few-begin most ns n more is =
    lt-ltb (length ns) (suc most) (omega (arith, ltb-true (length (ns ++ n ∷ more)) (suc most) is, length-append ns (n ∷ more)))

pub lesser-begin : (numbers : List ℕ) → IsOfBeginnings (lesser_than numbers)
lesser-begin numbers ns n more is = by (before-by (ns ++ n ∷ more) numbers is)
  where
    by : (length (ns ++ n ∷ more) < length numbers)
        ⊎ ((length (ns ++ n ∷ more) ≡ length numbers) × (has_lesser_number (ns ++ n ∷ more) numbers ≡ true)) →
        set_comes_before ns numbers ≡ true
    by (inl lt) = fewer-before ns numbers (omega (arith, lt, length-append ns (n ∷ more)))
    by (inr is) = fewer-before ns numbers (omega (arith, is.0, length-append ns (n ∷ more)))

module _ (script : Script) (budget : ℕ) (shape : Shape) where
  -- of at most so many attempts
  pub few-fine : (most : ℕ) → are_fine (set_run script budget shape) (at_most most) (suc most) [] 0 ≡ true → AreSetsFine script budget shape most
  few-fine most tried numbers up few =
      fine-from script budget shape (at_most most) (few-begin most) (suc most) [] 0 numbers up (lt-ltb (length numbers) (suc most) (omega (arith, few))) tried

  -- of those that come before one
  pub lesser-fine : (deep : ℕ) (numbers : List ℕ) → are_fine (set_run script budget shape) (lesser_than numbers) deep [] 0 ≡ true →
      AreSetsFineBefore script budget shape numbers
  lesser-fine deep numbers tried other up before =
      fine-from script budget shape (lesser_than numbers) (lesser-begin numbers) deep [] 0 other up before tried
