-- What is found among the sets that begin with the same numbers, by what is found among those that begin with one more of them.
use Rattle.std.proofs.Common.{◌≡◌, ℕ, ◌+◌, ◌-◌, ◌<◌, ◌≤◌, inl, inr, arith, Bool, true, false, List, [], ◌∷◌, ◌++◌, length, append_assoc, append-nil, refl, sym, ◌∙◌, ap, subst, cond, Some, None}
use Rattle.std.specs.Prelude.{nat_eq, ◌||◌}
use Rattle.std.specs.List.{list_any}
use Rattle.std.proofs.lemmas.Bool.{cases_lt, ne_eqb}
use Rattle.std.proofs.lemmas.List.Folds.{list_any-append}
use Rattle.wb_machine.specs.Seen.{Seen}
use Rattle.wb_heap_model.specs.declared.heap.Answer.TheVariants.{Simulated}
use Rattle.wb_heap_model.specs.declared.heap.Rule.TheVariants.{Set}
use Rattle.wb_heap_model.specs.declared.heap.Shape.{Shape}
use Rattle.wb_runs.specs.declared.failures.Failing.{Failing}
use Rattle.wb_runs.specs.declared.failures.Failing.TheVariants as failings
use Rattle.wb_meaning.specs.declared.run.Outcome.TheVariants.{Cut}
use Rattle.wb_meaning.specs.declared.run.RunResult.{RunResult}
use Rattle.wb_meaning.specs.declared.run.Why.{Why}
use Rattle.wb_tree.specs.declared.script.Script.{Script}
use Rattle.wb_heap_model.specs.SameRules.{SameSoFar}
use Rattle.wb_meaning.specs.Run.{is_bad}
use Rattle.wb_runs.specs.Sets.{AscendsPast, has_lesser_number, set_run}
use Rattle.wb_runs.specs.Sweeps.{is_fine}
use Rattle.wb_runs.proofs.SetLemmas.{past-last}
use Rattle.wb_runs.proofs.SweepLemmas.{fine_uncut}
use Rattle.wb_sweep.specs.declared.found.Found.{Found}
use Rattle.wb_sweep.specs.SetSearch.{AreFewerFine, AreFewerFineWith, AreFine, AreFineWith, IsCutAfter, IsCutWith, IsFoundAfter, IsFoundWith, IsRest, IsRestWith}
use Rattle.wb_sweep.specs.Sweeping.{IsBadAt}
use Rattle.wb_runs.proofs.SetOrder.{lesser-first, none-is-lesser}

or_false : (b : Bool) → (b || false) ≡ b
or_false true = refl
or_false false = refl

-- the rules of a set, and of that with a number more, say the same of the attempts before that number
pub set-fits : (set : List ℕ) (number attempts : ℕ) → attempts < number → SameSoFar (Set (set ++ number ∷ [])) (Set set) attempts
set-fits set number attempts later = record {
  no_limit = refl;
  own_no_limit = refl;
  same = λ n end first made.
      let is_other : nat_eq number n ≡ false = ne_eqb number n (λ e. omega (arith, e, made, later)) in
      ap (λ b. cond b (Some Simulated) None)
      (list_any-append (λ it. nat_eq it n) set (number ∷ []) ∙ ap (λ b. list_any (λ it. nat_eq it n) set || (b || false)) is_other ∙ or_false (list_any (λ it. nat_eq it n) set));
}

module _ (runs : List ℕ → RunResult) (set : List ℕ) where
  one-more : (number : ℕ) (rest : List ℕ) → (set ++ number ∷ []) ++ rest ≡ set ++ number ∷ rest
  one-more number rest = append_assoc set (number ∷ []) rest

  -- ---- the set with this number alone

  pub fine-alone : (number : ℕ) → is_fine (runs (set ++ number ∷ [])) ≡ true → AreFineWith runs set number 1
  fine-alone number fine [] is = fine
  fine-alone number fine (n ∷ ns) is = absurd (omega (arith, is.many))

  pub found-alone : (number : ℕ) (result : RunResult) (found : Found) → IsBadAt (failings.Set (set ++ number ∷ [])) result found → result ≡ runs (set ++ number ∷ []) →
      IsFoundWith runs set number 1 found
  found-alone number result found is ran = (
    [],
    is.failing,
    record {
      further = record { ascends = tt; many = refl };
      bad = ap is_bad (sym ran) ∙ is.bad;
      least = λ other of less. absurd (none-is-lesser other less);
      run_is = is.result ∙ ran;
    },
  )

  pub cut-alone : (number : ℕ) (result : RunResult) (at : Failing) (why : Why) → at ≡ failings.Set (set ++ number ∷ []) → result.outcome ≡ Cut why →
      result ≡ runs (set ++ number ∷ []) → IsCutWith runs set number 1 at why
  cut-alone number result at why named cut ran = (
    [],
    named,
    record {
      further = record { ascends = tt; many = refl };
      cut = ap (λ (r : RunResult). r.outcome) (sym ran) ∙ cut;
      least = λ other of less. absurd (none-is-lesser other less);
    },
  )

  -- ---- those with this number and further ones, by those that begin with the set of both

  module _ (number more : ℕ) (several : 1 < more) where
    inside : (rest : List ℕ) → IsRestWith number more rest → IsRest number (more - 1) rest
    inside rest is = record { ascends = is.ascends; many = omega (arith, is.many) }

    outside : (rest : List ℕ) → IsRest number (more - 1) rest → IsRestWith number more rest
    outside rest is = record { ascends = is.ascends; many = omega (arith, is.many, several) }

    pub fewer-inside : AreFewerFineWith runs set number more → AreFewerFine runs (set ++ number ∷ []) number (more - 1)
    fewer-inside fine rest up less = ap (λ xs. is_fine (runs xs)) (one-more number rest) ∙ fine rest up (omega (arith, less, several))

    pub fine-outside : AreFine runs (set ++ number ∷ []) number (more - 1) → AreFineWith runs set number more
    fine-outside fine rest is = ap (λ xs. is_fine (runs xs)) (sym (one-more number rest)) ∙ fine rest (inside rest is)

    pub found-outside : (found : Found) → IsFoundAfter runs (set ++ number ∷ []) number (more - 1) found → IsFoundWith runs set number more found
    found-outside found (rest, named, is) = (
      rest,
      named ∙ ap failings.Set (one-more number rest),
      record {
        further = outside rest is.further;
        bad = ap (λ xs. is_bad (runs xs)) (sym (one-more number rest)) ∙ is.bad;
        least = λ other of less. ap (λ xs. is_fine (runs xs)) (sym (one-more number other)) ∙ is.least other (inside other of) less;
        run_is = is.run_is ∙ ap runs (one-more number rest);
      },
    )

    pub cut-outside : (at : Failing) (why : Why) → IsCutAfter runs (set ++ number ∷ []) number (more - 1) at why → IsCutWith runs set number more at why
    cut-outside at why (rest, named, is) = (
      rest,
      named ∙ ap failings.Set (one-more number rest),
      record {
        further = outside rest is.further;
        cut = ap (λ xs. (runs xs).outcome) (sym (one-more number rest)) ∙ is.cut;
        least = λ other of less. ap (λ xs. is_fine (runs xs)) (sym (one-more number other)) ∙ is.least other (inside other of) less;
      },
    )

  -- ---- as the lead goes on

  -- those whose next number is past one, and of an attempt that was made, are fine
  abbrev pub AreFineUpTo : ℕ → ℕ → ℕ → Type 0
  AreFineUpTo past made more = (number : ℕ) → past < number → number ≤ made → AreFineWith runs set number more

  pub sets-further : (lead next : Seen) (past more : ℕ) → AreFineUpTo past lead.attempts more → next.attempts ≤ lead.attempts + 1 →
      (lead.asks ≡ false → next.attempts ≡ lead.attempts) → (lead.asks ≡ true → past < lead.attempts + 1 → AreFineWith runs set (lead.attempts + 1) more) →
      AreFineUpTo past next.attempts more
  sets-further lead next past more fine most unasked asked i begun le =
      elim (cases_lt lead.attempts i) [
        | inl later ↦ by lead.asks refl (omega (arith, later))
        | inr within ↦ fine i begun within
      ]
    where
      by : (b : Bool) → lead.asks ≡ b → lead.attempts + 1 ≤ i → AreFineWith runs set i more
      by false e later = absurd (omega (arith, later, le, unasked e))
      by true e later =
          let last : lead.attempts + 1 ≡ i = omega (arith, later, le, most) in
          subst (λ k. AreFineWith runs set k more) last (asked e (omega (arith, begun, last)))

  module _ (past made more number : ℕ) (next : number ≡ made + 1) (later : past < number) (fine : AreFineUpTo past made more) where
    rest-of : (rest : List ℕ) → IsRestWith number more rest → IsRest past more (number ∷ rest)
    rest-of rest is = record { ascends = (later, is.ascends); many = omega (arith, is.many) }

    -- those of which a number is less, where they first differ, are fine
    pub lesser-fine : (rest other : List ℕ) → ((ms : List ℕ) → IsRestWith number more ms → has_lesser_number ms rest ≡ true → is_fine (runs (set ++ number ∷ ms)) ≡ true) →
        IsRest past more other → has_lesser_number other (number ∷ rest) ≡ true → is_fine (runs (set ++ other)) ≡ true
    lesser-fine rest [] least of less = cc
    lesser-fine rest (m ∷ ms) least of less = elim (lesser-first m number ms rest less) [
      | inl lt ↦ fine m of.ascends.0 (omega (arith, lt, next)) ms (record { ascends = of.ascends.1; many = omega (arith, of.many) })
      | inr both ↦
          ap (λ k. is_fine (runs (set ++ k ∷ ms))) both.0
          ∙ least ms (record { ascends = subst (λ k. AscendsPast k ms) both.0 of.ascends.1; many = omega (arith, of.many) }) both.1
    ]

    pub found-further : (found : Found) → IsFoundWith runs set number more found → IsFoundAfter runs set past more found
    found-further found (rest, named, is) = (
      number ∷ rest,
      named,
      record {
        further = rest-of rest is.further;
        bad = is.bad;
        least = λ other. lesser-fine rest other is.least;
        run_is = is.run_is;
      },
    )

    pub cut-further : (at : Failing) (why : Why) → IsCutWith runs set number more at why → IsCutAfter runs set past more at why
    cut-further at why (rest, named, is) = (
      number ∷ rest,
      named,
      record {
        further = rest-of rest is.further;
        cut = is.cut;
        least = λ other. lesser-fine rest other is.least;
      },
    )

module _ (script : Script) (budget : ℕ) (shape : Shape) (set : List ℕ) (past more : ℕ) where
  abbrev runs : List ℕ → RunResult
  runs = set_run script budget shape

  -- those whose attempts are made are fine, and those with a later number give the run of the numbers before
  pub fine-after : (made : ℕ) → 1 ≤ more → AreFewerFine runs set past more → length (runs set).trace ≤ made → AreFineUpTo runs set past made more →
      AreFine runs set past more
  fine-after made one fewer end fine [] is = absurd (omega (arith, is.many, one))
  fine-after made one fewer end fine (n ∷ ns) is = elim (cases_lt made n) [
    | inl unmade ↦
        ap is_fine (past-last script budget shape set (n ∷ ns) (fine_uncut (runs set) itself) (omega (arith, end, unmade), is.ascends.1)) ∙ itself
    | inr le ↦ fine n is.ascends.0 le ns (record { ascends = is.ascends.1; many = omega (arith, is.many) })
  ]
    where
      itself : is_fine (runs set) ≡ true
      itself = ap (λ xs. is_fine (runs xs)) (sym (append-nil set)) ∙ fewer [] tt (omega (arith, one))
