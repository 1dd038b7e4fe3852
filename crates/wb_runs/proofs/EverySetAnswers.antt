-- A sweep over all sets of a part has one answer; those of two parts make up that of both; and where no set shows anything, nothing does.
use Rattle.std.proofs.Common.{◌≡◌, ℕ, ◌+◌, ◌≤◌, inl, inr, arith, Bool, true, false, List, length, refl, cond}
use Rattle.std.specs.Prelude.{◌↔◌}
use Rattle.std.proofs.lemmas.Bool.{false_from_ne_true}
use Rattle.wb_runs.specs.declared.failures.Failures.{Failures}
use Rattle.wb_runs.specs.declared.failures.Failures.TheVariants.{Single}
use Rattle.wb_heap_model.specs.declared.heap.Rule.TheVariants.{Limit}
use Rattle.wb_heap_model.specs.declared.heap.Shape.{Shape}
use Rattle.wb_runs.specs.declared.part.Part.{Part}
use Rattle.wb_meaning.specs.declared.run.RunResult.{RunResult}
use Rattle.wb_meaning.specs.declared.run.Why.{Why}
use Rattle.wb_tree.specs.declared.script.Script.{Script}
use Rattle.wb_runs.specs.EverySet.{IsEverySetAnswerIn, IsLeastSetCutIn, IsLeastSetFoundIn, IsNoSetOfAnySizeIn}
use Rattle.wb_runs.specs.Lengths.{run_in, IsNoBadLength}
use Rattle.wb_runs.specs.Parts.{last_attempt, AreTogether, IsNoneIn}
use Rattle.wb_meaning.specs.Run.{is_bad}
use Rattle.wb_runs.specs.SetAnswers.{first_set_of, least_set_of, SetAnswer, found, cut, none, IsSetAnswerIn}
use Rattle.wb_runs.specs.SetParts.{IsNoSetIn, IsSetCutIn, IsSetFoundIn}
use Rattle.wb_runs.specs.Sets.{set_comes_before, AreAllSetsFine, IsLeastBadSet, IsLeastCutSet}
use Rattle.wb_runs.specs.Sweeps.{failing_at, rule_for, runs_of}
use Rattle.wb_runs.proofs.OneSetAnswer.{once-of-sets}
use Rattle.wb_runs.proofs.OnceFound.{bad-unfine}
use Rattle.wb_runs.proofs.PartAnswers.{fine_is_uncut}
use Rattle.wb_runs.proofs.RefusedSets.{fine-by-sets}
use Rattle.wb_runs.proofs.SetPartAnswers.{whole-set-cut, whole-set-found, whole-set-none}
use Rattle.wb_runs.proofs.SetPartsTogether.{least-sets-together}

-- ---- of some size

module _ (part : Part) (script : Script) (budget : ℕ) (shape : Shape) where
  none-of-size : (most : ℕ) → IsNoSetOfAnySizeIn part script budget shape → IsNoSetIn part most script budget shape
  none-of-size most is = record { uncut = is.uncut; fine = λ numbers tried few. is.fine numbers tried }

  none-of-all : ((most : ℕ) → IsNoSetIn part most script budget shape) → IsNoSetOfAnySizeIn part script budget shape
  none-of-all are = record { uncut = (are 0).uncut; fine = λ numbers tried. (are (length numbers)).fine numbers tried (omega arith) }

  -- how many numbers an answer's set has
  abbrev size_of : SetAnswer → ℕ
  size_of (found numbers result) = length numbers
  size_of (cut numbers why) = length numbers
  size_of none = 0

  at-size : (most : ℕ) (answer : SetAnswer) → size_of answer ≤ most → IsEverySetAnswerIn part script budget shape answer → IsSetAnswerIn part most script budget shape answer
  at-size most (found numbers result) few is =
      record { uncut = is.uncut; tried = is.tried; few = few; bad = is.bad; least = is.least; run_is = is.run_is }
  at-size most (cut numbers why) few (inl is) = inl is
  at-size most (cut numbers why) few (inr is) = inr (record { uncut = is.uncut; tried = is.tried; few = few; cut = is.cut; least = is.least })
  at-size most none few is = none-of-size most is

  found-of : (most : ℕ) (numbers : List ℕ) (result : RunResult) → IsSetFoundIn part most script budget shape numbers result →
      IsLeastSetFoundIn part script budget shape numbers result
  found-of most numbers result is =
      record { uncut = is.uncut; tried = is.tried; few = omega arith; bad = is.bad; least = is.least; run_is = is.run_is }

  cut-of : (most : ℕ) (numbers : List ℕ) (why : Why) → IsSetCutIn part most script budget shape numbers why → IsLeastSetCutIn part script budget shape numbers why
  cut-of most numbers why (inl is) = inl is
  cut-of most numbers why (inr is) = inr (record { uncut = is.uncut; tried = is.tried; few = omega arith; cut = is.cut; least = is.least })

  pub once-of-every-set : (answer another : SetAnswer) → IsEverySetAnswerIn part script budget shape answer →
      IsEverySetAnswerIn part script budget shape another → answer ≡ another
  once-of-every-set answer another x y =
      let most = size_of answer + size_of another in
      once-of-sets part most script budget shape answer another (at-size most answer (omega arith) x) (at-size most another (omega arith) y)

-- ---- parts that make up another

module _ (part next both : Part) (script : Script) (budget : ℕ) (shape : Shape) (are : AreTogether part next both) where
  together : (most : ℕ) (answer another : SetAnswer) → size_of part script budget shape answer ≤ most → size_of part script budget shape another ≤ most →
      IsEverySetAnswerIn part script budget shape answer → IsEverySetAnswerIn next script budget shape another →
      IsSetAnswerIn both most script budget shape (least_set_of answer another)
  together most answer another few less x y =
      least-sets-together part next both most script budget shape answer another are
      (at-size part script budget shape most answer few x) (at-size next script budget shape most another less y)

  -- an answer that names a set is one of any size
  of_named : (most : ℕ) (answer : SetAnswer) → (answer ≡ none → ⊥) → IsSetAnswerIn both most script budget shape answer → IsEverySetAnswerIn both script budget shape answer
  of_named most (found numbers result) isnt is = found-of both script budget shape most numbers result is
  of_named most (cut numbers why) isnt is = cut-of both script budget shape most numbers why is
  of_named most none isnt is = absurd (isnt refl)

  chosen : (numbers other : List ℕ) (a b : SetAnswer) → (a ≡ none → ⊥) → (b ≡ none → ⊥) → first_set_of numbers other a b ≡ none → ⊥
  chosen numbers other a b one two = by (set_comes_before other numbers)
    where
      by : (t : Bool) → cond t b a ≡ none → ⊥
      by true = two
      by false = one

  pub every-set-together : (answer another : SetAnswer) → IsEverySetAnswerIn part script budget shape answer →
      IsEverySetAnswerIn next script budget shape another → IsEverySetAnswerIn both script budget shape (least_set_of answer another)
  every-set-together none none x y = none-of-all both script budget shape (λ most. together most none none (omega arith) (omega arith) x y)
  every-set-together none (found other another) x y =
      found-of both script budget shape (length other) other another (together (length other) none (found other another) (omega arith) (omega arith) x y)
  every-set-together none (cut other another) x y =
      cut-of both script budget shape (length other) other another (together (length other) none (cut other another) (omega arith) (omega arith) x y)
  every-set-together (found numbers result) none x y =
      found-of both script budget shape (length numbers) numbers result (together (length numbers) (found numbers result) none (omega arith) (omega arith) x y)
  every-set-together (cut numbers why) none x y =
      cut-of both script budget shape (length numbers) numbers why (together (length numbers) (cut numbers why) none (omega arith) (omega arith) x y)
  every-set-together (found numbers result) (found other another) x y =
      let most = length numbers + length other in
      of_named most _ (chosen numbers other (found numbers result) (found other another) (λ e. cc) (λ e. cc))
      (together most (found numbers result) (found other another) (omega arith) (omega arith) x y)
  every-set-together (found numbers result) (cut other another) x y =
      let most = length numbers + length other in
      of_named most _ (chosen numbers other (found numbers result) (cut other another) (λ e. cc) (λ e. cc))
      (together most (found numbers result) (cut other another) (omega arith) (omega arith) x y)
  every-set-together (cut numbers why) (found other another) x y =
      let most = length numbers + length other in
      of_named most _ (chosen numbers other (cut numbers why) (found other another) (λ e. cc) (λ e. cc))
      (together most (cut numbers why) (found other another) (omega arith) (omega arith) x y)
  every-set-together (cut numbers why) (cut other another) x y =
      let most = length numbers + length other in
      of_named most _ (chosen numbers other (cut numbers why) (cut other another) (λ e. cc) (λ e. cc))
      (together most (cut numbers why) (cut other another) (omega arith) (omega arith) x y)

-- ---- a whole part

pub whole-every-found : (part : Part) (script : Script) (budget : ℕ) (shape : Shape) (numbers : List ℕ) (result : RunResult) → part.from ≡ 0 →
    last_attempt Single script budget shape ≤ part.to → IsLeastSetFoundIn part script budget shape numbers result ↔ IsLeastBadSet script budget shape numbers result
whole-every-found part script budget shape numbers result start within =
    let both = whole-set-found part (length numbers) script budget shape numbers result start within in
    (λ is. (both.0 is).0, λ is. both.1 (is, omega arith))

pub whole-every-cut : (part : Part) (script : Script) (budget : ℕ) (shape : Shape) (numbers : List ℕ) (why : Why) → part.from ≡ 0 →
    last_attempt Single script budget shape ≤ part.to → IsLeastSetCutIn part script budget shape numbers why ↔ IsLeastCutSet script budget shape numbers why
whole-every-cut part script budget shape numbers why start within =
    let both = whole-set-cut part (length numbers) script budget shape numbers why start within in
    (λ is. (both.0 is).0, λ is. both.1 (is, omega arith))

pub whole-every-none : (part : Part) (script : Script) (budget : ℕ) (shape : Shape) → part.from ≡ 0 → last_attempt Single script budget shape ≤ part.to →
    IsNoSetOfAnySizeIn part script budget shape ↔ AreAllSetsFine script budget shape
whole-every-none part script budget shape start within = (
  λ is numbers up. (whole-set-none part (length numbers) script budget shape start within).0 (none-of-size part script budget shape (length numbers) is)
      numbers up (omega arith),
  λ fine. none-of-all part script budget shape (λ most. (whole-set-none part most script budget shape start within).1 (λ numbers up few. fine numbers up)),
)

-- ---- nothing shows

module _ (script : Script) (budget : ℕ) (shape : Shape) (fine : AreAllSetsFine script budget shape) where
  pub no-length : IsNoBadLength script budget shape
  no-length length within =
      let result = run_in script budget shape length in
      false_from_ne_true (is_bad result) (λ bad. bad-unfine result bad (fine-by-sets script budget shape (Limit length) fine))

  pub no-sweep : (failures : Failures) (part : Part) → IsNoneIn failures part script budget shape
  no-sweep failures part = record {
    uncut = fine_is_uncut (runs_of failures script budget shape 0) (fine-by-sets script budget shape (rule_for (failing_at failures 0)) fine);
    fine = λ at tried. fine-by-sets script budget shape (rule_for at) fine;
  }
