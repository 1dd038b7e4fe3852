-- The lesser of the answers to the sets of two parts is the answer to those of both together.
use Rattle.std.proofs.Common.{◌≡◌, ℕ, ◌<◌, ◌≤◌, ◌⊎◌, inl, inr, arith, Bool, true, false, List, length, refl, cond}
use Rattle.wb_runs.specs.declared.failures.Failures.TheVariants.{Single}
use Rattle.wb_heap_model.specs.declared.heap.Shape.{Shape}
use Rattle.wb_runs.specs.declared.part.Part.{Part}
use Rattle.wb_meaning.specs.declared.run.RunResult.{RunResult}
use Rattle.wb_meaning.specs.declared.run.Why.{Why}
use Rattle.wb_tree.specs.declared.script.Script.{Script}
use Rattle.wb_runs.specs.Parts.{last_attempt, AreTogether}
use Rattle.wb_runs.specs.SetAnswers.{first_set_of, least_set_of, SetAnswer, found, cut, none, IsSetAnswerIn}
use Rattle.wb_runs.specs.SetParts.{least_number, AreSetsFineInBefore, IsLeastCutSetIn, IsNoSetIn, IsSetFoundIn, IsSetOf}
use Rattle.wb_runs.specs.Sets.{has_lesser_number, set_comes_before}
use Rattle.wb_runs.proofs.OneSetAnswer.{never-cut}
use Rattle.wb_runs.proofs.SetOrder.{before-by, set-before-later, set-through}

-- what is tried of two parts is tried of both, and nothing else is
pub record AreTriedTogether (last : ℕ) (part next both : Part) : Type 0 where
  pub first : (numbers : List ℕ) → IsSetOf part last numbers → IsSetOf both last numbers
  pub second : (numbers : List ℕ) → IsSetOf next last numbers → IsSetOf both last numbers
  pub either : (numbers : List ℕ) → IsSetOf both last numbers → IsSetOf part last numbers ⊎ IsSetOf next last numbers

tried_together : (last : ℕ) (part next both : Part) → AreTogether part next both → AreTriedTogether last part next both
tried_together last part next both is = record {
  first = λ numbers tried.
      let within = (is (least_number numbers)).1 (inl (tried.least.from, tried.least.to)) in
      record { set = tried.set; least = record { from = within.0; to = within.1; made = tried.least.made } };
  second = λ numbers tried.
      let within = (is (least_number numbers)).1 (inr (tried.least.from, tried.least.to)) in
      record { set = tried.set; least = record { from = within.0; to = within.1; made = tried.least.made } };
  either = λ numbers tried. of_one numbers tried ((is (least_number numbers)).0 (tried.least.from, tried.least.to));
}
  where
    of_one : (numbers : List ℕ) → IsSetOf both last numbers →
        ((part.from ≤ least_number numbers) × (least_number numbers ≤ part.to)) ⊎ ((next.from ≤ least_number numbers) × (least_number numbers ≤ next.to)) →
        IsSetOf part last numbers ⊎ IsSetOf next last numbers
    of_one numbers tried (inl within) = inl (record { set = tried.set; least = record { from = within.0; to = within.1; made = tried.least.made } })
    of_one numbers tried (inr within) = inr (record { set = tried.set; least = record { from = within.0; to = within.1; made = tried.least.made } })

-- so it is in the other order
turned : (last : ℕ) (part next both : Part) → AreTriedTogether last part next both → AreTriedTogether last next part both
turned last part next both is = record { first = is.second; second = is.first; either = λ numbers tried. swapped numbers (is.either numbers tried) }
  where
    swapped : (numbers : List ℕ) → IsSetOf part last numbers ⊎ IsSetOf next last numbers → IsSetOf next last numbers ⊎ IsSetOf part last numbers
    swapped numbers (inl in_part) = inr in_part
    swapped numbers (inr in_next) = inl in_next

module _ (most : ℕ) (script : Script) (budget : ℕ) (shape : Shape) where
  abbrev last : ℕ
  last = last_attempt Single script budget shape

  module _ (part next both : Part) (is : AreTriedTogether last part next both) where
    -- nothing is found in the next part
    before_none : (numbers : List ℕ) → length numbers ≤ most → AreSetsFineInBefore part script budget shape numbers → IsNoSetIn next most script budget shape →
        AreSetsFineInBefore both script budget shape numbers
    before_none numbers few least nothing other tried e = elim (is.either other tried) [
      | inl in_part ↦ least other in_part e
      | inr in_next ↦ nothing.fine other in_next (no_longer (before-by other numbers e))
    ]
      where
        no_longer : (length other < length numbers) ⊎ ((length other ≡ length numbers) × (has_lesser_number other numbers ≡ true)) → length other ≤ most
        no_longer (inl lt) = omega (arith, lt, few)
        no_longer (inr same) = omega (arith, same.0, few)

    -- and what is found there doesn't come before
    before_later : (numbers later : List ℕ) → set_comes_before later numbers ≡ false → AreSetsFineInBefore part script budget shape numbers →
        AreSetsFineInBefore next script budget shape later → AreSetsFineInBefore both script budget shape numbers
    before_later numbers later isnt least next_least other tried e = elim (is.either other tried) [
      | inl in_part ↦ least other in_part e
      | inr in_next ↦ next_least other in_next (set-through other numbers later e isnt)
    ]

    -- or comes before itself
    before_first : (numbers first : List ℕ) → set_comes_before first numbers ≡ true → AreSetsFineInBefore part script budget shape numbers →
        AreSetsFineInBefore next script budget shape first → AreSetsFineInBefore both script budget shape first
    before_first numbers first is_first least next_least other tried e = elim (is.either other tried) [
      | inl in_part ↦ least other in_part (set-before-later other first numbers e is_first)
      | inr in_next ↦ next_least other in_next e
    ]

    found_left : (numbers : List ℕ) (result : RunResult) → IsSetFoundIn part most script budget shape numbers result →
        AreSetsFineInBefore both script budget shape numbers → IsSetFoundIn both most script budget shape numbers result
    found_left numbers result x least = record {
      uncut = x.uncut;
      tried = is.first numbers x.tried;
      few = x.few;
      bad = x.bad;
      least = least;
      run_is = x.run_is;
    }

    cut_left : (numbers : List ℕ) (why : Why) → IsLeastCutSetIn part most script budget shape numbers why → AreSetsFineInBefore both script budget shape numbers →
        IsLeastCutSetIn both most script budget shape numbers why
    cut_left numbers why x least = record { uncut = x.uncut; tried = is.first numbers x.tried; few = x.few; cut = x.cut; least = least }

  choose : (both : Part) (numbers other : List ℕ) (a b : SetAnswer) → (set_comes_before other numbers ≡ false → IsSetAnswerIn both most script budget shape a) →
      (set_comes_before other numbers ≡ true → IsSetAnswerIn both most script budget shape b) → IsSetAnswerIn both most script budget shape (first_set_of numbers other a b)
  choose both numbers other a b isnt is_first = by (set_comes_before other numbers) refl
    where
      by : (t : Bool) → set_comes_before other numbers ≡ t → IsSetAnswerIn both most script budget shape (cond t b a)
      by true e = is_first e
      by false e = isnt e

  module _ (part next both : Part) (is : AreTriedTogether last part next both) where
    back : AreTriedTogether last next part both
    back = turned last part next both is

    least_of_both : (answer another : SetAnswer) → IsSetAnswerIn part most script budget shape answer → IsSetAnswerIn next most script budget shape another →
        IsSetAnswerIn both most script budget shape (least_set_of answer another)
    least_of_both none none x y = record {
      uncut = x.uncut;
      fine = λ numbers tried few. elim (is.either numbers tried) [
        | inl in_part ↦ x.fine numbers in_part few
        | inr in_next ↦ y.fine numbers in_next few
      ];
    }
    least_of_both none (found other another) x y = found_left next part both back other another y (before_none next part both back other y.few y.least x)
    least_of_both none (cut other another) x (inl y) = inl y
    least_of_both none (cut other another) x (inr y) = inr (cut_left next part both back other another y (before_none next part both back other y.few y.least x))
    least_of_both (found numbers result) none x y = found_left part next both is numbers result x (before_none part next both is numbers x.few x.least y)
    least_of_both (cut numbers why) none (inl x) y = inl x
    least_of_both (cut numbers why) none (inr x) y = inr (cut_left part next both is numbers why x (before_none part next both is numbers x.few x.least y))
    least_of_both (found numbers result) (found other another) x y =
        choose both numbers other (found numbers result) (found other another)
        (λ isnt. found_left part next both is numbers result x (before_later part next both is numbers other isnt x.least y.least))
        (λ is_first. found_left next part both back other another y (before_first part next both is numbers other is_first x.least y.least))
    least_of_both (found numbers result) (cut other another) x (inl y) = never-cut script budget shape other another x.uncut y
    least_of_both (found numbers result) (cut other another) x (inr y) =
        choose both numbers other (found numbers result) (cut other another)
        (λ isnt. found_left part next both is numbers result x (before_later part next both is numbers other isnt x.least y.least))
        (λ is_first. inr (cut_left next part both back other another y (before_first part next both is numbers other is_first x.least y.least)))
    least_of_both (cut numbers why) (found other another) (inl x) y = never-cut script budget shape numbers why y.uncut x
    least_of_both (cut numbers why) (found other another) (inr x) y =
        choose both numbers other (cut numbers why) (found other another)
        (λ isnt. inr (cut_left part next both is numbers why x (before_later part next both is numbers other isnt x.least y.least)))
        (λ is_first. found_left next part both back other another y (before_first part next both is numbers other is_first x.least y.least))
    least_of_both (cut numbers why) (cut other another) (inl x) (inl y) =
        choose both numbers other (cut numbers why) (cut other another) (λ isnt. inl x) (λ is_first. inl y)
    least_of_both (cut numbers why) (cut other another) (inl x) (inr y) = never-cut script budget shape numbers why y.uncut x
    least_of_both (cut numbers why) (cut other another) (inr x) (inl y) = never-cut script budget shape other another x.uncut y
    least_of_both (cut numbers why) (cut other another) (inr x) (inr y) =
        choose both numbers other (cut numbers why) (cut other another)
        (λ isnt. inr (cut_left part next both is numbers why x (before_later part next both is numbers other isnt x.least y.least)))
        (λ is_first. inr (cut_left next part both back other another y (before_first part next both is numbers other is_first x.least y.least)))

pub least-sets-together : (part next both : Part) (most : ℕ) (script : Script) (budget : ℕ) (shape : Shape) (answer another : SetAnswer) → AreTogether part next both →
    IsSetAnswerIn part most script budget shape answer → IsSetAnswerIn next most script budget shape another →
    IsSetAnswerIn both most script budget shape (least_set_of answer another)
least-sets-together part next both most script budget shape answer another is =
    least_of_both most script budget shape part next both (tried_together (last_attempt Single script budget shape) part next both is) answer another
