-- The least set whose run isn't fine, of those of one size: the sets that begin alike are tried by their next number, up to the last attempt of the
-- run in which those before it fail. Further numbers change nothing, since that run is fine once all smaller sets are.
use Rattle.std.proofs.Common.{◌≡◌, ℕ, zero, suc, ◌+◌, ◌-◌, ◌<◌, ◌≤◌, ◌⊎◌, inl, inr, arith, Bool, true, false, List, [], ◌∷◌, ◌++◌, length, append_assoc, append-nil, refl, sym, ◌∙◌, ap, subst}
use Rattle.std.proofs.lemmas.Bool.{cases_lt}
use Rattle.std.proofs.lemmas.List.{length-append}
use Rattle.wb_heap_model.specs.declared.heap.Shape.{Shape}
use Rattle.wb_meaning.specs.declared.run.RunResult.{RunResult}
use Rattle.wb_tree.specs.declared.script.Script.{Script}
use Rattle.wb_runs.specs.Sets.{has_lesser_number, set_run, AscendsPast}
use Rattle.wb_runs.specs.Sweeps.{is_fine}
use Rattle.wb_runs.proofs.SetLemmas.{past-last}
use Rattle.wb_runs.proofs.SetOrder.{lesser-first, none-is-lesser}
use Rattle.wb_runs.proofs.SweepLemmas.{fine_uncut}
use Rattle.wb_answers.proofs.LeastNumber.{least-or-none, AllFrom, LeastFrom}

no-numbers : (numbers : List ℕ) → length numbers ≡ 0 → numbers ≡ []
no-numbers [] e = refl
no-numbers (n ∷ ns) e = absurd (omega (arith, e))

module _ (script : Script) (budget : ℕ) (shape : Shape) where
  abbrev pub runs : List ℕ → RunResult
  runs = set_run script budget shape

  abbrev pub last_of : List ℕ → ℕ
  last_of numbers = length (runs numbers).trace

  abbrev pub IsFine : List ℕ → Type 0
  IsFine numbers = is_fine (runs numbers) ≡ true

  -- the runs of the sets that begin so, and have so many further numbers past one, are fine
  abbrev pub AreRestsFine : List ℕ → ℕ → ℕ → Type 0
  AreRestsFine before low size = (rest : List ℕ) → AscendsPast low rest → length rest ≡ size → IsFine (before ++ rest)

  -- and of those that have fewer
  abbrev pub AreFewerFine : List ℕ → ℕ → ℕ → Type 0
  AreFewerFine before low size = (rest : List ℕ) → AscendsPast low rest → length rest < size → IsFine (before ++ rest)

  -- the further numbers of the least of these sets whose run isn't fine
  pub record HasLeastRest (before : List ℕ) (low size : ℕ) : Type 0 where
    pub rest : List ℕ
    pub up : AscendsPast low rest
    pub many : length rest ≡ size
    pub unfine : is_fine (runs (before ++ rest)) ≡ false
    pub least : (other : List ℕ) → AscendsPast low other → length other ≡ size → has_lesser_number other rest ≡ true → IsFine (before ++ other)

  fine-without : (before : List ℕ) (low size : ℕ) → AreFewerFine before low (suc size) → IsFine before
  fine-without before low size fewer = subst IsFine (append-nil before) (fewer [] tt (omega arith))

  -- of sets with a further number
  fewer-with : (before : List ℕ) (low size n : ℕ) → AreFewerFine before low (suc size) → low < n → AreFewerFine (before ++ n ∷ []) n size
  fewer-with before low size n fewer lt rest up few =
      subst IsFine (sym (append_assoc before (n ∷ []) rest)) (fewer (n ∷ rest) (lt, up) (omega (arith, few)))

  -- those whose next number is lesser are fine
  first-least : (before : List ℕ) (low size : ℕ) →
      LeastFrom (λ n. HasLeastRest (before ++ n ∷ []) n size) (λ n. AreRestsFine (before ++ n ∷ []) n size)
      (low + 1) (low + 1 + (last_of before - low)) →
      HasLeastRest before low (suc size)
  first-least before low size is = record {
    rest = n ∷ is.has.rest;
    up = (omega (arith, is.begins), is.has.up);
    many = omega (arith, is.has.many);
    unfine = subst (λ ns. is_fine (runs ns) ≡ false) (append_assoc before (n ∷ []) is.has.rest) is.has.unfine;
    least = least;
  }
    where
      n : ℕ
      n = is.number

      least : (other : List ℕ) → AscendsPast low other → length other ≡ suc size →
          has_lesser_number other (n ∷ is.has.rest) ≡ true → IsFine (before ++ other)
      least [] up many lesser = cc
      least (m ∷ ms) up many lesser = subst IsFine (append_assoc before (m ∷ []) ms) (elim (lesser-first m n ms is.has.rest lesser) [
        | inl less ↦ is.lesser m (omega (arith, up.0)) less ms up.1 (omega (arith, many))
        | inr same ↦
            let up' : AscendsPast n ms = subst (λ k. AscendsPast k ms) same.0 up.1 in
            subst (λ k. IsFine ((before ++ k ∷ []) ++ ms)) (sym same.0) (is.has.least ms up' (omega (arith, many)) same.1)
      ])

  -- where none of the next numbers gives a run that isn't fine, none does
  none-first : (before : List ℕ) (low size : ℕ) → AreFewerFine before low (suc size) →
      AllFrom (λ n. AreRestsFine (before ++ n ∷ []) n size) (low + 1) (low + 1 + (last_of before - low)) → AreRestsFine before low (suc size)
  none-first before low size fewer none [] up many = absurd (omega (arith, many))
  none-first before low size fewer none (n ∷ ns) up many =
      let fine = fine-without before low size fewer in
      elim (cases_lt (last_of before) n) [
        | inl past ↦ ap is_fine (past-last script budget shape before (n ∷ ns) (fine_uncut (runs before) fine) (past, up.1)) ∙ fine
        | inr made ↦ subst IsFine (append_assoc before (n ∷ []) ns)
            (none n (omega (arith, up.0)) (omega (arith, made, up.0)) ns up.1 (omega (arith, many)))
      ]

  pub rests : (size : ℕ) (before : List ℕ) (low : ℕ) → AreFewerFine before low size → HasLeastRest before low size ⊎ AreRestsFine before low size
  rests zero before low fewer = by (is_fine (runs (before ++ []))) refl
    where
      by : (b : Bool) → is_fine (runs (before ++ [])) ≡ b → HasLeastRest before low zero ⊎ AreRestsFine before low zero
      by true e = inr (λ rest up none. subst (λ ns. IsFine (before ++ ns)) (sym (no-numbers rest none)) e)
      by false e =
          inl (record { rest = []; up = tt; many = refl; unfine = e; least = λ other up none lesser. absurd (none-is-lesser other lesser) })
  rests (suc size) before low fewer =
      elim (least-or-none (λ n. HasLeastRest (before ++ n ∷ []) n size) (λ n. AreRestsFine (before ++ n ∷ []) n size) (low + 1) (last_of before - low)
      (λ n ge lt none. rests size (before ++ n ∷ []) n (fewer-with before low size n fewer (omega (arith, ge))))) [
        | inl is ↦ inl (first-least before low size is)
        | inr none ↦ inr (none-first before low size fewer none)
      ]

  -- Sets of more numbers than any run makes attempts are fine where all of as many are.
  module _ (most : ℕ) (made : (numbers : List ℕ) → last_of numbers ≤ most) where
    pub beyond : (rest before : List ℕ) (low : ℕ) → AscendsPast low rest → length before ≤ low → low ≤ most → most < low + length rest →
        ((few : List ℕ) → AscendsPast low few → length before + length few ≤ most → IsFine (before ++ few)) → IsFine (before ++ rest)
    beyond [] before low up size le lt fine = absurd (omega (arith, le, lt))
    beyond (n ∷ ns) before low up size le lt fine = by (cases_lt (last_of before) n) (λ here. beyond ns (before ++ n ∷ []) n up.1)
      where
        own : IsFine before
        own = subst IsFine (append-nil before) (fine [] tt (omega (arith, size, le)))

        by : (last_of before < n) ⊎ (n ≤ last_of before) →
            (n ≤ last_of before → length (before ++ n ∷ []) ≤ n → n ≤ most → most < n + length ns →
            ((few : List ℕ) → AscendsPast n few → length (before ++ n ∷ []) + length few ≤ most → IsFine ((before ++ n ∷ []) ++ few)) →
            IsFine ((before ++ n ∷ []) ++ ns)) → IsFine (before ++ n ∷ ns)
        by (inl past) later = ap is_fine (past-last script budget shape before (n ∷ ns) (fine_uncut (runs before) own) (past, up.1)) ∙ own
        by (inr here) later =
            let longer = length-append before (n ∷ []) in
            let within = made before in
            subst IsFine (append_assoc before (n ∷ []) ns)
            (later here (omega (arith, longer, size, up.0)) (omega (arith, here, within)) (omega (arith, lt, up.0))
            (λ few ascends less. subst IsFine (sym (append_assoc before (n ∷ []) few))
            (fine (n ∷ few) (up.0, ascends) (omega (arith, less, longer)))))
