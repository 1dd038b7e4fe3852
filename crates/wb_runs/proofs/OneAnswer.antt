-- A sweep over a part has one answer: one failure is found, or one is cut, or there is none.
use Rattle.std.proofs.Common.{◌≡◌, ℕ, inl, inr, Bool, true, false, refl, sym, ◌∙◌, ap, subst}
use Rattle.std.proofs.lemmas.Bool.{false≢true}
use Rattle.wb_runs.specs.declared.failures.Failing.{Failing}
use Rattle.wb_runs.specs.declared.failures.Failures.{Failures}
use Rattle.wb_heap_model.specs.declared.heap.Shape.{Shape}
use Rattle.wb_runs.specs.declared.part.Part.{Part}
use Rattle.wb_meaning.specs.declared.run.Outcome.TheVariants.{Cut}
use Rattle.wb_meaning.specs.declared.run.RunResult.{RunResult}
use Rattle.wb_meaning.specs.declared.run.Why.{Why}
use Rattle.wb_tree.specs.declared.script.Script.{Script}
use Rattle.wb_runs.specs.Parts.{comes_before, last_attempt, run_at, Answer, found, cut, none, AreFineBefore, IsAnswerIn, IsCutWithout, IsTried, IsUncut}
use Rattle.wb_meaning.specs.Run.{is_bad}
use Rattle.wb_runs.specs.Sweeps.{is_cut_outcome, is_fine}
use Rattle.wb_runs.proofs.FailureOrder.{in-order, tried-alike}
use Rattle.wb_runs.proofs.OnceFound.{bad-or-cut, bad-unfine, cut-unfine, one-why}

module _ (failures : Failures) (part : Part) (script : Script) (budget : ℕ) (shape : Shape) where
  abbrev last : ℕ
  last = last_attempt failures script budget shape

  abbrev told : Failing → RunResult
  told = run_at script budget shape

  -- of two failures that are tried, whose runs aren't fine, and before which all are, neither comes first
  one_failure : (at other : Failing) → IsTried failures part last at → IsTried failures part last other → (is_fine (told at) ≡ true → ⊥) →
      (is_fine (told other) ≡ true → ⊥) → AreFineBefore failures part script budget shape at → AreFineBefore failures part script budget shape other → at ≡ other
  one_failure at other tried too here there least least_too = by (comes_before at other) refl (comes_before other at) refl
    where
      by : (b : Bool) → comes_before at other ≡ b → (c : Bool) → comes_before other at ≡ c → at ≡ other
      by true e c f = absurd (here (least_too at tried e))
      by false e true f = absurd (there (least other too f))
      by false e false f = in-order at other (tried-alike failures part part last at other tried too) e f

  never : {A : Type 0} (at : Failing) (why : Why) → IsUncut failures script budget shape → IsCutWithout failures script budget shape at why → A
  never at why uncut is = absurd (false≢true (sym uncut ∙ ap is_cut_outcome is.cut))

  once : (answer another : Answer) → IsAnswerIn failures part script budget shape answer → IsAnswerIn failures part script budget shape another → answer ≡ another
  once none none x y = refl
  once none (found other another) x y = absurd (bad-unfine (told other) y.bad (x.fine other y.tried))
  once none (cut other another) x (inl y) = never other another x.uncut y
  once none (cut other another) x (inr y) = absurd (cut-unfine (told other) another y.cut (x.fine other y.tried))
  once (found at result) none x y = absurd (bad-unfine (told at) x.bad (y.fine at x.tried))
  once (cut at why) none (inl x) y = never at why y.uncut x
  once (cut at why) none (inr x) y = absurd (cut-unfine (told at) why x.cut (y.fine at x.tried))
  once (found at result) (found other another) x y =
      let same = one_failure at other x.tried y.tried (bad-unfine (told at) x.bad) (bad-unfine (told other) y.bad) x.least y.least in
      ap (λ r. found at r) (x.run_is ∙ ap told same ∙ sym y.run_is) ∙ ap (λ f. found f another) same
  once (found at result) (cut other another) x (inl y) = never other another x.uncut y
  once (found at result) (cut other another) x (inr y) =
      let same = one_failure at other x.tried y.tried (bad-unfine (told at) x.bad) (cut-unfine (told other) another y.cut) x.least y.least in
      absurd (bad-or-cut (told other).outcome another (subst (λ f. is_bad (told f) ≡ true) same x.bad) y.cut)
  once (cut at why) (found other another) (inl x) y = never at why y.uncut x
  once (cut at why) (found other another) (inr x) y =
      let same = one_failure at other x.tried y.tried (cut-unfine (told at) why x.cut) (bad-unfine (told other) y.bad) x.least y.least in
      absurd (bad-or-cut (told other).outcome why y.bad (subst (λ f. (told f).outcome ≡ Cut why) same x.cut))
  once (cut at why) (cut other another) (inl x) (inl y) =
      let same = x.failing ∙ sym y.failing in
      ap (λ w. cut at w) (one-why why another _ x.cut y.cut) ∙ ap (λ f. cut f another) same
  once (cut at why) (cut other another) (inl x) (inr y) = never at why y.uncut x
  once (cut at why) (cut other another) (inr x) (inl y) = never other another x.uncut y
  once (cut at why) (cut other another) (inr x) (inr y) =
      let same = one_failure at other x.tried y.tried (cut-unfine (told at) why x.cut) (cut-unfine (told other) another y.cut) x.least y.least in
      ap (λ w. cut at w) (one-why why another (told other).outcome (subst (λ f. (told f).outcome ≡ Cut why) same x.cut) y.cut) ∙ ap (λ f. cut f another) same

pub once-of-part : (failures : Failures) (part : Part) (script : Script) (budget : ℕ) (shape : Shape) (answer another : Answer) →
    IsAnswerIn failures part script budget shape answer → IsAnswerIn failures part script budget shape another → answer ≡ another
once-of-part = once
