-- What is found among the sets that begin with one number is the least of a part, where those with a lesser first number are fine and so are
-- those with fewer numbers.
use Rattle.std.proofs.Common.{◌≡◌, ℕ, zero, suc, ◌+◌, ◌-◌, ◌<◌, ◌≤◌, inl, inr, arith, Bool, true, false, List, [], ◌∷◌, length, min, refl, sym, ◌∙◌, subst}
use Rattle.std.proofs.lemmas.Bool.{cases_lt}
use Rattle.wb_runs.specs.declared.failures.Failing.{Failing}
use Rattle.wb_runs.specs.declared.failures.Failing.TheVariants.{Number, Set}
use Rattle.wb_runs.specs.declared.failures.Failures.TheVariants.{Single}
use Rattle.wb_heap_model.specs.declared.heap.Shape.{Shape}
use Rattle.wb_runs.specs.declared.part.Part.{Part}
use Rattle.wb_meaning.specs.declared.run.RunResult.{RunResult}
use Rattle.wb_meaning.specs.declared.run.Why.{Why}
use Rattle.wb_tree.specs.declared.script.Script.{Script}
use Rattle.wb_runs.specs.EverySet.{IsLeastSetCutIn}
use Rattle.wb_runs.specs.Parts.{last_attempt, IsCutIn, IsNumberOf, IsTried, IsUncut}
use Rattle.wb_runs.specs.SetParts.{AreSetsFineIn, AreSetsFineInBefore, IsLeastCutSetIn, IsSetCutIn, IsSetFoundIn, IsSetOf}
use Rattle.wb_runs.specs.Sets.{AscendsPast, has_lesser_number, set_run}
use Rattle.wb_runs.specs.Sweeps.{failing_set, is_fine, set_of, IsNamedAsSet}
use Rattle.wb_sweep.specs.declared.found.Found.{Found}
use Rattle.wb_sweep.specs.SetSearch.{AreFewerFineWith, IsCutAsSet, IsCutWith, IsFoundAsSet, IsFoundWith, IsRest}
use Rattle.wb_sweep.specs.SetSweeping.{IsCutAmongSets, IsFoundAmongSets}
use Rattle.wb_sweep.proofs.PartFound.{number-within, within-number}
use Rattle.wb_runs.proofs.OnceFound.{bad-unfine, cut-unfine}
use Rattle.wb_runs.proofs.SetOrder.{before-by}
use Rattle.wb_sweep.proofs.SetSearchLemmas.{AreFineUpTo, lesser-fine}

-- a run that has made fewer attempts than all isn't over
pub not-over : (over : Bool) (made all : ℕ) → (over ≡ true → made ≡ all) → made < all → over ≡ false
not-over false made all ends less = refl
not-over true made all ends less = absurd (omega (arith, ends refl, less))

module _ (part : Part) (script : Script) (budget : ℕ) (shape : Shape) where
  abbrev runs : List ℕ → RunResult
  runs = set_run script budget shape

  abbrev last : ℕ
  last = last_attempt Single script budget shape

  -- the number that all of the part's are past, but for number 0
  abbrev pub before_part : ℕ
  before_part = part.from - 1

  of-part : (n : ℕ) (ns : List ℕ) → IsNumberOf part last n → 1 ≤ n → AscendsPast n ns → IsSetOf part last (n ∷ ns)
  of-part n ns number one up = record { set = (omega (arith, one), up); least = number }

  pub fewer-of : (fewer number : ℕ) → AreSetsFineIn part fewer script budget shape → IsNumberOf part last number → 1 ≤ number →
      AreFewerFineWith runs [] number (fewer + 1)
  fewer-of fewer number fine of one rest up less = fine (number ∷ rest) (of-part number rest of one up) (omega (arith, less))

  -- the numbers of a set of the part are past what is before it
  as-rest : (many : ℕ) (other : List ℕ) → 1 ≤ many → IsSetOf part last other → length other ≡ many → IsRest before_part many other
  as-rest many [] one is e = absurd (omega (arith, one, e))
  as-rest many (m ∷ ms) one is e = record { ascends = (omega (arith, is.set.0, is.least.from), is.set.1); many = e }

  pub sets-fine : (fewer made : ℕ) → AreSetsFineIn part fewer script budget shape → AreFineUpTo runs [] before_part made (fewer + 1) → min part.to last ≤ made →
      AreSetsFineIn part (fewer + 1) script budget shape
  sets-fine fewer made fine up_to end numbers is few = elim (cases_lt fewer (length numbers)) [
    | inl more ↦ by numbers is (omega (arith, few, more))
    | inr le ↦ fine numbers is le
  ]
    where
      by : (numbers : List ℕ) → IsSetOf part last numbers → length numbers ≡ fewer + 1 → is_fine (runs numbers) ≡ true
      by [] is e = absurd (omega (arith, e))
      by (n ∷ ns) is e =
          let within = number-within part last n is.least in
          up_to n (omega (arith, is.set.0, is.least.from)) (omega (arith, within, end)) ns (record { ascends = is.set.1; many = omega (arith, e) })

  module _ (fewer made number : ℕ) (next : number ≡ made + 1) (begun : before_part < number) (end : number ≤ min part.to last)
      (uncut : IsUncut Single script budget shape) (fine : AreSetsFineIn part fewer script budget shape)
      (up_to : AreFineUpTo runs [] before_part made (fewer + 1)) where
    is_of : IsNumberOf part last number
    is_of = within-number part last number (omega (arith, begun)) end

    before : (rest : List ℕ) → length (number ∷ rest) ≡ fewer + 1 →
        ((other : List ℕ) → IsRest before_part (fewer + 1) other → has_lesser_number other (number ∷ rest) ≡ true → is_fine (runs other) ≡ true) →
        AreSetsFineInBefore part script budget shape (number ∷ rest)
    before rest many least other is comes = elim (before-by other (number ∷ rest) comes) [
      | inl less ↦ fine other is (omega (arith, less, many))
      | inr both ↦ least other (as-rest (fewer + 1) other (omega arith) is (both.0 ∙ many)) both.1
    ]

    pub set-found : (found : Found) → IsFoundWith runs [] number (fewer + 1) found → IsFoundAsSet part (fewer + 1) script budget shape found.at found.result
    set-found found (rest, named, is) =
        let many : length (number ∷ rest) ≡ fewer + 1 = omega (arith, is.further.many) in
        let least_set : IsSetFoundIn part (fewer + 1) script budget shape (number ∷ rest) found.result = record {
          uncut = uncut;
          tried = of-part number rest is_of (omega (arith, next)) is.further.ascends;
          few = omega (arith, many);
          bad = is.bad;
          least = before rest many (λ other. lesser-fine runs [] before_part made (fewer + 1) number next begun up_to rest other is.least);
          run_is = is.run_is;
        } in
        subst (λ f. IsFoundAsSet part (fewer + 1) script budget shape f found.result) (sym named) (refl, least_set)

    pub set-cut : (at : Failing) (why : Why) → IsCutWith runs [] number (fewer + 1) at why → IsCutAsSet part (fewer + 1) script budget shape at why
    set-cut at why (rest, named, is) =
        let many : length (number ∷ rest) ≡ fewer + 1 = omega (arith, is.further.many) in
        let least_set : IsLeastCutSetIn part (fewer + 1) script budget shape (number ∷ rest) why = record {
          uncut = uncut;
          tried = of-part number rest is_of (omega (arith, next)) is.further.ascends;
          few = omega (arith, many);
          cut = is.cut;
          least = before rest many (λ other. lesser-fine runs [] before_part made (fewer + 1) number next begun up_to rest other is.least);
        } in
        subst (λ f. IsCutAsSet part (fewer + 1) script budget shape f why) (sym named) (refl, least_set)

  -- ---- what is found of few is found of more

  pub found-weaker : (few most : ℕ) → few ≤ most → (numbers : List ℕ) (result : RunResult) → IsSetFoundIn part few script budget shape numbers result →
      IsSetFoundIn part most script budget shape numbers result
  found-weaker few most le numbers result is = record {
    uncut = is.uncut;
    tried = is.tried;
    few = omega (arith, is.few, le);
    bad = is.bad;
    least = is.least;
    run_is = is.run_is;
  }

  pub cut-weaker : (few most : ℕ) → few ≤ most → (numbers : List ℕ) (why : Why) → IsLeastCutSetIn part few script budget shape numbers why →
      IsLeastCutSetIn part most script budget shape numbers why
  cut-weaker few most le numbers why is = record {
    uncut = is.uncut;
    tried = is.tried;
    few = omega (arith, is.few, le);
    cut = is.cut;
    least = is.least;
  }

  pub any-cut-weaker : (few most : ℕ) → few ≤ most → (numbers : List ℕ) (why : Why) → IsSetCutIn part few script budget shape numbers why →
      IsSetCutIn part most script budget shape numbers why
  any-cut-weaker few most le numbers why (inl is) = inl is
  any-cut-weaker few most le numbers why (inr is) = inr (cut-weaker few most le numbers why is)

  -- where others know nothing of sets that have more attempts
  pub cut-of-any-size : (most : ℕ) (numbers : List ℕ) (why : Why) → IsSetCutIn part most script budget shape numbers why →
      IsLeastSetCutIn part script budget shape numbers why
  cut-of-any-size most numbers why (inl is) = inl is
  cut-of-any-size most numbers why (inr is) =
      inr (record { uncut = is.uncut; tried = is.tried; few = omega arith; cut = is.cut; least = is.least })

  -- ---- the failures that are named so

  -- a single number is
  pub number-named : (at : Failing) → IsTried Single part last at → IsNamedAsSet at
  number-named (Number zero) tried = refl
  number-named (Number (suc n)) tried = refl
  number-named at tried = absurd tried

  pub cut-named : (at : Failing) (why : Why) → IsCutIn Single part script budget shape at why → IsNamedAsSet at
  cut-named at why (inl is) = subst IsNamedAsSet (sym is.failing) refl
  cut-named at why (inr is) = number-named at is.tried

  -- a set with a run that isn't fine has two attempts and more, where those with fewer are fine
  pub several : AreSetsFineIn part 1 script budget shape → (numbers : List ℕ) → IsSetOf part last numbers → (is_fine (runs numbers) ≡ true → ⊥) → 2 ≤ length numbers
  several fine numbers tried unfine = elim (cases_lt 1 (length numbers)) [
    | inl more ↦ omega (arith, more)
    | inr few ↦ absurd (unfine (fine numbers tried few))
  ]

  as-set : (numbers : List ℕ) → 2 ≤ length numbers → Set numbers ≡ failing_set numbers
  as-set [] many = absurd (omega (arith, many))
  as-set (n ∷ []) many = absurd (omega (arith, many))
  as-set (m ∷ n ∷ ns) many = refl

  pub found-named : AreSetsFineIn part 1 script budget shape → (most : ℕ) (at : Failing) (result : RunResult) → IsFoundAsSet part most script budget shape at result →
      IsFoundAmongSets part most script budget shape at result
  found-named fine most at result is =
      (is.0 ∙ as-set (set_of at) (several fine (set_of at) is.1.tried (bad-unfine (runs (set_of at)) is.1.bad)), is.1)

  pub cut-as-named : AreSetsFineIn part 1 script budget shape → (most : ℕ) (at : Failing) (why : Why) → IsCutAsSet part most script budget shape at why →
      IsCutAmongSets part most script budget shape at why
  cut-as-named fine most at why is =
      (is.0 ∙ as-set (set_of at) (several fine (set_of at) is.1.tried (cut-unfine (runs (set_of at)) why is.1.cut)), inr is.1)
