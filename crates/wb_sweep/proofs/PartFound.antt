-- What is found, or cut, among the numbers of a part is the least of all failures of the part; and what is fine of it.
use Rattle.std.proofs.Common.{◌≡◌, ℕ, ◌+◌, ◌≤◌, inl, inr, arith, true, min, refl, sym, subst}
use Rattle.std.proofs.Math.Nat.{min-eq_left, min-eq_right, min-le_left, min-le_right}
use Rattle.std.proofs.lemmas.Bool.{cases_lt}
use Rattle.wb_runs.specs.declared.failures.Failing.{Failing}
use Rattle.wb_runs.specs.declared.failures.Failing.TheVariants.{Number, Pair}
use Rattle.wb_runs.specs.declared.failures.Failing.TheVariants as failings
use Rattle.wb_runs.specs.declared.failures.Failures.{Failures}
use Rattle.wb_runs.specs.declared.failures.Failures.TheVariants.{Single, Every, Persistent}
use Rattle.wb_heap_model.specs.declared.heap.Shape.{Shape}
use Rattle.wb_runs.specs.declared.part.Part.{Part}
use Rattle.wb_meaning.specs.declared.run.RunResult.{RunResult}
use Rattle.wb_meaning.specs.declared.run.Why.{Why}
use Rattle.wb_tree.specs.declared.script.Script.{Script}
use Rattle.wb_runs.specs.Parts.{last_attempt, run_at, IsFoundIn, IsLeastCutIn, IsNoneIn, IsNumberOf, IsTried, IsUncut}
use Rattle.wb_runs.specs.Sweeps.{failing_at, is_fine, runs_of}
use Rattle.wb_meaning.specs.Run.{is_bad}
use Rattle.wb_runs.proofs.PartAnswers.{bad_is_uncut, before-number, tried-at}
use Rattle.wb_sweep.specs.Stretches.{AreFineFrom, AreNumbersFine, IsCutFrom, IsFoundFrom}

-- a number of a part is no greater than the last that is tried
pub number-within : (part : Part) (last n : ℕ) → IsNumberOf part last n → n ≤ min part.to last
number-within part last n is = elim (cases_lt last part.to) [
  | inl short ↦ let le : last ≤ part.to = omega (arith, short) in let least : min part.to last ≡ last = min-eq_right le in omega (arith, least, is.made)
  | inr long ↦ let least : min part.to last ≡ part.to = min-eq_left long in omega (arith, least, is.to)
]

pub within-number : (part : Part) (last n : ℕ) → part.from ≤ n → n ≤ min part.to last → IsNumberOf part last n
within-number part last n from le =
    let to = min-le_left part.to last in
    let made = min-le_right part.to last in
    record { from = from; to = omega (arith, le, to); made = omega (arith, le, made) }

-- what is fine up to the last that is tried is fine of the part
pub fine-of-part : (runs : ℕ → RunResult) (part : Part) (last end : ℕ) → end ≡ min part.to last → AreFineFrom runs part.from (end + 1) → AreNumbersFine runs part last
fine-of-part runs part last end e fine n is =
    let le = number-within part last n is in
    fine n is.from (omega (arith, le, e))

module _ (failures : Failures) (part : Part) (script : Script) (budget : ℕ) (shape : Shape) (end : ℕ) where
  abbrev last : ℕ
  last = last_attempt failures script budget shape

  pub found-of-part : end ≡ min part.to last → IsUncut failures script budget shape → (at : Failing) (result : RunResult) →
      IsFoundFrom (failing_at failures) part.from end script budget shape at result → IsFoundIn failures part script budget shape at result
  found-of-part e uncut at result (n, failing, is) =
      let le : n ≤ min part.to last = omega (arith, is.made, e) in
      let found : IsFoundIn failures part script budget shape (failing_at failures n) result = record {
        uncut = uncut;
        tried = tried-at failures part last n (within-number part last n is.begun le);
        bad = is.bad;
        least = before-number failures part script budget shape n is.least;
        run_is = is.run_is;
      } in
      subst (λ f. IsFoundIn failures part script budget shape f result) (sym failing) found

  pub cut-of-part : end ≡ min part.to last → IsUncut failures script budget shape → (at : Failing) (why : Why) →
      IsCutFrom (failing_at failures) part.from end script budget shape at why → IsLeastCutIn failures part script budget shape at why
  cut-of-part e uncut at why (n, failing, is) =
      let le : n ≤ min part.to last = omega (arith, is.made, e) in
      let cut : IsLeastCutIn failures part script budget shape (failing_at failures n) why = record {
        uncut = uncut;
        tried = tried-at failures part last n (within-number part last n is.begun le);
        cut = is.cut;
        least = before-number failures part script budget shape n is.least;
      } in
      subst (λ f. IsLeastCutIn failures part script budget shape f why) (sym failing) cut

-- the run without failure is the least failure of a part with number 0
pub first-found : (failures : Failures) (part : Part) (script : Script) (budget : ℕ) (shape : Shape) → part.from ≡ 0 →
    is_bad (runs_of failures script budget shape 0) ≡ true → IsFoundIn failures part script budget shape (failing_at failures 0) (runs_of failures script budget shape 0)
first-found failures part script budget shape start bad =
    let number : IsNumberOf part (last_attempt failures script budget shape) 0 = record { from = omega (arith, start); to = omega arith; made = omega arith } in
    record {
      uncut = bad_is_uncut (runs_of failures script budget shape 0).outcome bad;
      tried = tried-at failures part (last_attempt failures script budget shape) 0 number;
      bad = bad;
      least = before-number failures part script budget shape 0 (λ m from lt. absurd (omega (arith, lt)));
      run_is = refl;
    }

-- nothing is found where no number shows anything
module _ (part : Part) (script : Script) (budget : ℕ) (shape : Shape) where
  single_fine : AreNumbersFine (runs_of Single script budget shape) part (last_attempt Single script budget shape) →
      (at : Failing) → IsTried Single part (last_attempt Single script budget shape) at → is_fine (run_at script budget shape at) ≡ true
  single_fine fine (Number n) tried = fine n tried
  single_fine fine at tried = absurd tried

  rates_fine : AreNumbersFine (runs_of Every script budget shape) part (last_attempt Every script budget shape) →
      (at : Failing) → IsTried Every part (last_attempt Every script budget shape) at → is_fine (run_at script budget shape at) ≡ true
  rates_fine fine (failings.Every n) tried = fine n tried
  rates_fine fine at tried = absurd tried

  persistent_fine : AreNumbersFine (runs_of Persistent script budget shape) part (last_attempt Persistent script budget shape) →
      (at : Failing) → IsTried Persistent part (last_attempt Persistent script budget shape) at → is_fine (run_at script budget shape at) ≡ true
  persistent_fine fine (failings.From n) tried = fine n tried
  persistent_fine fine at tried = absurd tried

  pub none-single : IsUncut Single script budget shape → AreNumbersFine (runs_of Single script budget shape) part (last_attempt Single script budget shape) →
      IsNoneIn Single part script budget shape
  none-single uncut fine = record { uncut = uncut; fine = single_fine fine }

  pub none-rates : IsUncut Every script budget shape → AreNumbersFine (runs_of Every script budget shape) part (last_attempt Every script budget shape) →
      IsNoneIn Every part script budget shape
  none-rates uncut fine = record { uncut = uncut; fine = rates_fine fine }

  pub none-persistent : IsUncut Persistent script budget shape → AreNumbersFine (runs_of Persistent script budget shape) part (last_attempt Persistent script budget shape) →
      IsNoneIn Persistent part script budget shape
  none-persistent uncut fine = record { uncut = uncut; fine = persistent_fine fine }
