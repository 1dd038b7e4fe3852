-- What is found among the sets of two attempts, as pairs.
use Rattle.std.proofs.Common.{◌≡◌, ◌≤◌, inl, inr, arith, List, ℕ, zero, suc, length, sym, subst, ◌∙◌, ap}
use Rattle.std.proofs.lemmas.Bool.{true≢false}
use Rattle.wb_runs.specs.declared.failures.Failing.{Failing}
use Rattle.wb_runs.specs.declared.failures.Failing.TheVariants.{Number, Pair, Set}
use Rattle.wb_runs.specs.declared.failures.Failures.TheVariants.{Pairs}
use Rattle.wb_heap_model.specs.declared.heap.Shape.{Shape}
use Rattle.wb_runs.specs.declared.part.Part.{Part}
use Rattle.wb_meaning.specs.declared.run.RunResult.{RunResult}
use Rattle.wb_meaning.specs.declared.run.Why.{Why}
use Rattle.wb_tree.specs.declared.script.Script.{Script}
use Rattle.wb_runs.specs.Parts.{last_attempt, IsCutIn, IsFoundIn, IsLeastCutIn, IsTried}
use Rattle.wb_runs.specs.SetAnswers.{IsSetOfCut, IsSetOfFound}
use Rattle.wb_runs.specs.SetParts.{IsNoSetIn}
use Rattle.wb_runs.specs.Sets.{set_run}
use Rattle.wb_runs.specs.Sweeps.{is_cut_outcome, set_of}
use Rattle.wb_runs.proofs.FewSets.{paired-cut, paired-found}
use Rattle.wb_runs.proofs.OnceFound.{bad-unfine, cut-unfine}
use Rattle.wb_sweep.specs.PairSets.{pair_of}
use Rattle.wb_sweep.specs.SetSearch.{IsCutAsSet, IsFoundAsSet}
use Rattle.wb_sweep.proofs.SetPartLemmas.{several}

-- the pair of a set of two attempts is the failure whose set it is
pair-of-set : (part : Part) (last : ℕ) (at : Failing) → IsTried Pairs part last at → (numbers : List ℕ) → numbers ≡ set_of at → 2 ≤ length numbers →
    pair_of (Set numbers) ≡ at
pair-of-set part last (Number zero) is numbers e many = let none = ap length e in absurd (omega (arith, none, many))
pair-of-set part last (Number (suc n)) is numbers e many = let one = ap length e in absurd (omega (arith, one, many))
pair-of-set part last (Pair i j) is numbers e many = ap (λ ns. pair_of (Set ns)) e
pair-of-set part last at is numbers e many = absurd is

module _ (part : Part) (script : Script) (budget : ℕ) (shape : Shape) (single : IsNoSetIn part 1 script budget shape) where
  abbrev runs : List ℕ → RunResult
  runs = set_run script budget shape

  pub pair-found : (at : Failing) (result : RunResult) → IsFoundAsSet part 2 script budget shape at result →
      IsFoundIn Pairs part script budget shape (pair_of at) result
  pair-found at result (named, is) = by ((paired-found part script budget shape (set_of at) result).0 is)
    where
      many : 2 ≤ length (set_of at)
      many = several part script budget shape single.fine (set_of at) is.tried (bad-unfine (runs (set_of at)) is.bad)

      by : IsSetOfFound Pairs part script budget shape (set_of at) result → IsFoundIn Pairs part script budget shape (pair_of at) result
      by (other, e, found) =
          subst (λ f. IsFoundIn Pairs part script budget shape f result)
          (sym (ap pair_of named ∙ pair-of-set part (last_attempt Pairs script budget shape) other found.tried (set_of at) e many)) found

  pub pair-cut : (at : Failing) (why : Why) → IsCutAsSet part 2 script budget shape at why → IsLeastCutIn Pairs part script budget shape (pair_of at) why
  pair-cut at why (named, is) = by ((paired-cut part script budget shape (set_of at) why).0 (inr is))
    where
      many : 2 ≤ length (set_of at)
      many = several part script budget shape single.fine (set_of at) is.tried (cut-unfine (runs (set_of at)) why is.cut)

      least : (other : Failing) → IsCutIn Pairs part script budget shape other why → IsLeastCutIn Pairs part script budget shape other why
      least other (inl without) = absurd (true≢false (sym (ap is_cut_outcome without.cut) ∙ is.uncut))
      least other (inr cut) = cut

      by : IsSetOfCut Pairs part script budget shape (set_of at) why → IsLeastCutIn Pairs part script budget shape (pair_of at) why
      by (other, e, cut) =
          let told = least other cut in
          subst (λ f. IsLeastCutIn Pairs part script budget shape f why)
          (sym (ap pair_of named ∙ pair-of-set part (last_attempt Pairs script budget shape) other told.tried (set_of at) e many)) told
