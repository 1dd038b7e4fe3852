-- The lesser of the answers to two parts is the answer to both together.
use Rattle.std.proofs.Common.{◌≡◌, ℕ, ◌≤◌, ◌⊎◌, inl, inr, arith, Bool, true, false, refl, sym, ◌∙◌, ap, cond}
use Rattle.std.proofs.lemmas.Bool.{cases_lt, false≢true}
use Rattle.wb_runs.specs.declared.failures.Failing.{Failing}
use Rattle.wb_runs.specs.declared.failures.Failing.TheVariants.{Number, Every, Pair, From}
use Rattle.wb_runs.specs.declared.failures.Failures.{Failures}
use Rattle.wb_runs.specs.declared.failures.Failures.TheVariants as kinds
use Rattle.wb_heap_model.specs.declared.heap.Shape.{Shape}
use Rattle.wb_runs.specs.declared.part.Part.{Part}
use Rattle.wb_meaning.specs.declared.run.RunResult.{RunResult}
use Rattle.wb_meaning.specs.declared.run.Why.{Why}
use Rattle.wb_tree.specs.declared.script.Script.{Script}
use Rattle.wb_runs.specs.Parts.{comes_before, first_of, last_attempt, least_of, Answer, found, cut, none, AreFineBefore, AreInARow, AreTogether, IsAnswerIn, IsCutWithout, IsFoundIn, IsLeastCutIn, IsNoneIn, IsNumberOf, IsTried, IsUncut}
use Rattle.wb_runs.specs.Sweeps.{is_cut_outcome}
use Rattle.wb_runs.proofs.FailureOrder.{before-later, through, tried-alike}

-- a part and the next one are together so as well in the other order
turned : (part next both : Part) → AreTogether part next both → AreTogether next part both
turned part next both is number = (λ within. other_way (is number).0 within, λ either. (is number).1 (swapped either))
  where
    swapped : ((next.from ≤ number) × (number ≤ next.to)) ⊎ ((part.from ≤ number) × (number ≤ part.to)) →
        ((part.from ≤ number) × (number ≤ part.to)) ⊎ ((next.from ≤ number) × (number ≤ next.to))
    swapped (inl in_next) = inr in_next
    swapped (inr in_part) = inl in_part

    back : ((part.from ≤ number) × (number ≤ part.to)) ⊎ ((next.from ≤ number) × (number ≤ next.to)) →
        ((next.from ≤ number) × (number ≤ next.to)) ⊎ ((part.from ≤ number) × (number ≤ part.to))
    back (inl in_part) = inr in_part
    back (inr in_next) = inl in_next

    other_way : ((both.from ≤ number) × (number ≤ both.to) → ((part.from ≤ number) × (number ≤ part.to)) ⊎ ((next.from ≤ number) × (number ≤ next.to))) →
        (both.from ≤ number) × (number ≤ both.to) → ((next.from ≤ number) × (number ≤ next.to)) ⊎ ((part.from ≤ number) × (number ≤ part.to))
    other_way way within = back (way within)

-- ---- what is tried of both

module _ (part next both : Part) (is : AreTogether part next both) (last : ℕ) where
  number_left : (n : ℕ) → IsNumberOf part last n → IsNumberOf both last n
  number_left n tried = let within = (is n).1 (inl (tried.from, tried.to)) in record { from = within.0; to = within.1; made = tried.made }

  number_either : (n : ℕ) → IsNumberOf both last n → IsNumberOf part last n ⊎ IsNumberOf next last n
  number_either n tried = by ((is n).0 (tried.from, tried.to))
    where
      by : ((part.from ≤ n) × (n ≤ part.to)) ⊎ ((next.from ≤ n) × (n ≤ next.to)) → IsNumberOf part last n ⊎ IsNumberOf next last n
      by (inl within) = inl (record { from = within.0; to = within.1; made = tried.made })
      by (inr within) = inr (record { from = within.0; to = within.1; made = tried.made })

  tried_left : (failures : Failures) (at : Failing) → IsTried failures part last at → IsTried failures both last at
  tried_left kinds.Single (Number n) tried = number_left n tried
  tried_left kinds.Single at tried = absurd tried
  tried_left kinds.Every (Every n) tried = number_left n tried
  tried_left kinds.Persistent (From n) tried = number_left n tried
  tried_left kinds.Every at tried = absurd tried
  tried_left kinds.Persistent at tried = absurd tried
  tried_left kinds.Pairs (Number n) tried = number_left n tried
  tried_left kinds.Pairs (Pair i j) tried = (number_left i tried.0, tried.1, tried.2)
  tried_left kinds.Pairs at tried = absurd tried

  tried_either : (failures : Failures) (at : Failing) → IsTried failures both last at → IsTried failures part last at ⊎ IsTried failures next last at
  tried_either kinds.Single (Number n) tried = number_either n tried
  tried_either kinds.Single at tried = absurd tried
  tried_either kinds.Every (Every n) tried = number_either n tried
  tried_either kinds.Persistent (From n) tried = number_either n tried
  tried_either kinds.Every at tried = absurd tried
  tried_either kinds.Persistent at tried = absurd tried
  tried_either kinds.Pairs (Number n) tried = number_either n tried
  tried_either kinds.Pairs (Pair i j) tried = by (number_either i tried.0)
    where
      by : IsNumberOf part last i ⊎ IsNumberOf next last i → IsTried kinds.Pairs part last (Pair i j) ⊎ IsTried kinds.Pairs next last (Pair i j)
      by (inl within) = inl (within, tried.1, tried.2)
      by (inr within) = inr (within, tried.1, tried.2)
  tried_either kinds.Pairs at tried = absurd tried

-- ---- what is fine of both

module _ (failures : Failures) (script : Script) (budget : ℕ) (shape : Shape) where
  abbrev last : ℕ
  last = last_attempt failures script budget shape

  module _ (part next both : Part) (is : AreTogether part next both) where
    -- nothing is found in the next part
    before_none : (at : Failing) → AreFineBefore failures part script budget shape at → IsNoneIn failures next script budget shape →
        AreFineBefore failures both script budget shape at
    before_none at least nothing other tried e = elim (tried_either part next both is last failures other tried) [
      | inl in_part ↦ least other in_part e
      | inr in_next ↦ nothing.fine other in_next
    ]

    -- and what is found there doesn't come before
    before_later : (at later : Failing) → IsTried failures next last later → comes_before later at ≡ false →
        AreFineBefore failures part script budget shape at → AreFineBefore failures next script budget shape later → AreFineBefore failures both script budget shape at
    before_later at later tried_later isnt least next_least other tried e = elim (tried_either part next both is last failures other tried) [
      | inl in_part ↦ least other in_part e
      | inr in_next ↦ next_least other in_next (through other at later (tried-alike failures next next last other later in_next tried_later) e isnt)
    ]

    -- or comes before itself
    before_first : (at first : Failing) → IsTried failures part last at → comes_before first at ≡ true →
        AreFineBefore failures part script budget shape at → AreFineBefore failures next script budget shape first → AreFineBefore failures both script budget shape first
    before_first at first tried_at is_first least next_least other tried e = elim (tried_either part next both is last failures other tried) [
      | inl in_part ↦ least other in_part (before-later other first at (tried-alike failures part part last other at in_part tried_at) e is_first)
      | inr in_next ↦ next_least other in_next e
    ]

    found_left : (at : Failing) (result : RunResult) → IsFoundIn failures part script budget shape at result → AreFineBefore failures both script budget shape at →
        IsFoundIn failures both script budget shape at result
    found_left at result x least = record {
      uncut = x.uncut;
      tried = tried_left part next both is last failures at x.tried;
      bad = x.bad;
      least = least;
      run_is = x.run_is;
    }

    cut_left : (at : Failing) (why : Why) → IsLeastCutIn failures part script budget shape at why → AreFineBefore failures both script budget shape at →
        IsLeastCutIn failures both script budget shape at why
    cut_left at why x least = record { uncut = x.uncut; tried = tried_left part next both is last failures at x.tried; cut = x.cut; least = least }

  -- the run without failure isn't cut in one way and uncut in another
  never : {A : Type 0} (at : Failing) (why : Why) → IsUncut failures script budget shape → IsCutWithout failures script budget shape at why → A
  never at why uncut is = absurd (false≢true (sym uncut ∙ ap is_cut_outcome is.cut))

  choose : (both : Part) (at other : Failing) (a b : Answer) → (comes_before other at ≡ false → IsAnswerIn failures both script budget shape a) →
      (comes_before other at ≡ true → IsAnswerIn failures both script budget shape b) → IsAnswerIn failures both script budget shape (first_of at other a b)
  choose both at other a b isnt is_first = by (comes_before other at) refl
    where
      by : (t : Bool) → comes_before other at ≡ t → IsAnswerIn failures both script budget shape (cond t b a)
      by true e = is_first e
      by false e = isnt e

  least-of-both : (part next both : Part) → AreTogether part next both → (answer another : Answer) → IsAnswerIn failures part script budget shape answer →
      IsAnswerIn failures next script budget shape another → IsAnswerIn failures both script budget shape (least_of answer another)
  least-of-both part next both is none none x y = record {
    uncut = x.uncut;
    fine = λ at tried. elim (tried_either part next both is last failures at tried) [
      | inl in_part ↦ x.fine at in_part
      | inr in_next ↦ y.fine at in_next
    ];
  }
  least-of-both part next both is none (found other another) x y =
      let back = turned part next both is in found_left next part both back other another y (before_none next part both back other y.least x)
  least-of-both part next both is none (cut other another) x (inl y) = inl y
  least-of-both part next both is none (cut other another) x (inr y) =
      let back = turned part next both is in inr (cut_left next part both back other another y (before_none next part both back other y.least x))
  least-of-both part next both is (found at result) none x y = found_left part next both is at result x (before_none part next both is at x.least y)
  least-of-both part next both is (cut at why) none (inl x) y = inl x
  least-of-both part next both is (cut at why) none (inr x) y = inr (cut_left part next both is at why x (before_none part next both is at x.least y))
  least-of-both part next both is (found at result) (found other another) x y =
      let back = turned part next both is in
      choose both at other (found at result) (found other another)
      (λ isnt. found_left part next both is at result x (before_later part next both is at other y.tried isnt x.least y.least))
      (λ is_first. found_left next part both back other another y (before_first part next both is at other x.tried is_first x.least y.least))
  least-of-both part next both is (found at result) (cut other another) x (inl y) = never other another x.uncut y
  least-of-both part next both is (found at result) (cut other another) x (inr y) =
      let back = turned part next both is in
      choose both at other (found at result) (cut other another)
      (λ isnt. found_left part next both is at result x (before_later part next both is at other y.tried isnt x.least y.least))
      (λ is_first. inr (cut_left next part both back other another y (before_first part next both is at other x.tried is_first x.least y.least)))
  least-of-both part next both is (cut at why) (found other another) (inl x) y = never at why y.uncut x
  least-of-both part next both is (cut at why) (found other another) (inr x) y =
      let back = turned part next both is in
      choose both at other (cut at why) (found other another)
      (λ isnt. inr (cut_left part next both is at why x (before_later part next both is at other y.tried isnt x.least y.least)))
      (λ is_first. found_left next part both back other another y (before_first part next both is at other x.tried is_first x.least y.least))
  least-of-both part next both is (cut at why) (cut other another) (inl x) (inl y) =
      choose both at other (cut at why) (cut other another) (λ isnt. inl x) (λ is_first. inl y)
  least-of-both part next both is (cut at why) (cut other another) (inl x) (inr y) = never at why y.uncut x
  least-of-both part next both is (cut at why) (cut other another) (inr x) (inl y) = never other another x.uncut y
  least-of-both part next both is (cut at why) (cut other another) (inr x) (inr y) =
      let back = turned part next both is in
      choose both at other (cut at why) (cut other another)
      (λ isnt. inr (cut_left part next both is at why x (before_later part next both is at other y.tried isnt x.least y.least)))
      (λ is_first. inr (cut_left next part both back other another y (before_first part next both is at other x.tried is_first x.least y.least)))

pub least-together : (failures : Failures) (part next both : Part) (script : Script) (budget : ℕ) (shape : Shape) (answer another : Answer) → AreTogether part next both →
    IsAnswerIn failures part script budget shape answer → IsAnswerIn failures next script budget shape another →
    IsAnswerIn failures both script budget shape (least_of answer another)
least-together failures part next both script budget shape answer another is = least-of-both failures script budget shape part next both is answer another

-- ---- parts in a row

pub row-together : (part next both : Part) → AreInARow part next both → AreTogether part next both
row-together part next both row n = (either, within)
  where
    either : (both.from ≤ n) × (n ≤ both.to) → ((part.from ≤ n) × (n ≤ part.to)) ⊎ ((next.from ≤ n) × (n ≤ next.to))
    either is = elim (cases_lt part.to n) [
      | inl past ↦ inr (omega (arith, past, row.follows), omega (arith, is.1, row.to))
      | inr le ↦ inl (omega (arith, is.0, row.from), le)
    ]

    within : ((part.from ≤ n) × (n ≤ part.to)) ⊎ ((next.from ≤ n) × (n ≤ next.to)) → (both.from ≤ n) × (n ≤ both.to)
    within (inl is) = (omega (arith, is.0, row.from), omega (arith, is.1, row.ends, row.to))
    within (inr is) = (omega (arith, is.0, row.from, row.begins, row.follows), omega (arith, is.1, row.to))
