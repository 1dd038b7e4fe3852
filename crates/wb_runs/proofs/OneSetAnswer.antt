-- A sweep over the sets of a part has one answer: one set is found, or one is cut, or there is none.
use Rattle.std.proofs.Common.{◌≡◌, ℕ, inl, inr, Bool, true, false, List, refl, sym, ◌∙◌, ap, subst}
use Rattle.std.proofs.lemmas.Bool.{false≢true}
use Rattle.wb_runs.specs.declared.failures.Failures.TheVariants.{Single}
use Rattle.wb_heap_model.specs.declared.heap.Shape.{Shape}
use Rattle.wb_runs.specs.declared.part.Part.{Part}
use Rattle.wb_meaning.specs.declared.run.Outcome.TheVariants.{Cut}
use Rattle.wb_meaning.specs.declared.run.RunResult.{RunResult}
use Rattle.wb_meaning.specs.declared.run.Why.{Why}
use Rattle.wb_tree.specs.declared.script.Script.{Script}
use Rattle.wb_runs.specs.Parts.{last_attempt, IsUncut}
use Rattle.wb_meaning.specs.Run.{is_bad}
use Rattle.wb_runs.specs.SetAnswers.{SetAnswer, found, cut, none, IsSetAnswerIn}
use Rattle.wb_runs.specs.SetParts.{AreSetsFineInBefore, IsCutWithoutSet, IsSetOf}
use Rattle.wb_runs.specs.Sets.{set_comes_before, set_run}
use Rattle.wb_runs.specs.Sweeps.{is_cut_outcome, is_fine}
use Rattle.wb_runs.proofs.OnceFound.{bad-or-cut, bad-unfine, cut-unfine, one-why}
use Rattle.wb_runs.proofs.SetLemmas.{none-fails}
use Rattle.wb_runs.proofs.SetOrder.{set-in-order}

-- the run without failure isn't cut in one way and uncut in another
pub never-cut : {A : Type 0} (script : Script) (budget : ℕ) (shape : Shape) (numbers : List ℕ) (why : Why) → IsUncut Single script budget shape →
    IsCutWithoutSet script budget shape numbers why → A
never-cut script budget shape numbers why uncut is =
    absurd (false≢true (sym uncut ∙ ap (λ (r : RunResult). is_cut_outcome r.outcome) (sym (none-fails script budget shape)) ∙ ap is_cut_outcome is.cut))

module _ (part : Part) (most : ℕ) (script : Script) (budget : ℕ) (shape : Shape) where
  abbrev last : ℕ
  last = last_attempt Single script budget shape

  abbrev told : List ℕ → RunResult
  told = set_run script budget shape

  -- of two sets that are tried, whose runs aren't fine, and before which all are, neither comes first
  one_set : (numbers other : List ℕ) → IsSetOf part last numbers → IsSetOf part last other → (is_fine (told numbers) ≡ true → ⊥) →
      (is_fine (told other) ≡ true → ⊥) → AreSetsFineInBefore part script budget shape numbers → AreSetsFineInBefore part script budget shape other → numbers ≡ other
  one_set numbers other tried too here there least least_too = by (set_comes_before numbers other) refl (set_comes_before other numbers) refl
    where
      by : (b : Bool) → set_comes_before numbers other ≡ b → (c : Bool) → set_comes_before other numbers ≡ c → numbers ≡ other
      by true e c f = absurd (here (least_too numbers tried e))
      by false e true f = absurd (there (least other too f))
      by false e false f = set-in-order numbers other e f

  once : (answer another : SetAnswer) → IsSetAnswerIn part most script budget shape answer → IsSetAnswerIn part most script budget shape another → answer ≡ another
  once none none x y = refl
  once none (found other another) x y = absurd (bad-unfine (told other) y.bad (x.fine other y.tried y.few))
  once none (cut other another) x (inl y) = never-cut script budget shape other another x.uncut y
  once none (cut other another) x (inr y) = absurd (cut-unfine (told other) another y.cut (x.fine other y.tried y.few))
  once (found numbers result) none x y = absurd (bad-unfine (told numbers) x.bad (y.fine numbers x.tried x.few))
  once (cut numbers why) none (inl x) y = never-cut script budget shape numbers why y.uncut x
  once (cut numbers why) none (inr x) y = absurd (cut-unfine (told numbers) why x.cut (y.fine numbers x.tried x.few))
  once (found numbers result) (found other another) x y =
      let same = one_set numbers other x.tried y.tried (bad-unfine (told numbers) x.bad) (bad-unfine (told other) y.bad) x.least y.least in
      ap (λ r. found numbers r) (x.run_is ∙ ap told same ∙ sym y.run_is) ∙ ap (λ ns. found ns another) same
  once (found numbers result) (cut other another) x (inl y) = never-cut script budget shape other another x.uncut y
  once (found numbers result) (cut other another) x (inr y) =
      let same = one_set numbers other x.tried y.tried (bad-unfine (told numbers) x.bad) (cut-unfine (told other) another y.cut) x.least y.least in
      absurd (bad-or-cut (told other).outcome another (subst (λ ns. is_bad (told ns) ≡ true) same x.bad) y.cut)
  once (cut numbers why) (found other another) (inl x) y = never-cut script budget shape numbers why y.uncut x
  once (cut numbers why) (found other another) (inr x) y =
      let same = one_set numbers other x.tried y.tried (cut-unfine (told numbers) why x.cut) (bad-unfine (told other) y.bad) x.least y.least in
      absurd (bad-or-cut (told other).outcome why y.bad (subst (λ ns. (told ns).outcome ≡ Cut why) same x.cut))
  once (cut numbers why) (cut other another) (inl x) (inl y) =
      let same = x.empty ∙ sym y.empty in
      ap (λ w. cut numbers w) (one-why why another _ x.cut y.cut) ∙ ap (λ ns. cut ns another) same
  once (cut numbers why) (cut other another) (inl x) (inr y) = never-cut script budget shape numbers why y.uncut x
  once (cut numbers why) (cut other another) (inr x) (inl y) = never-cut script budget shape other another x.uncut y
  once (cut numbers why) (cut other another) (inr x) (inr y) =
      let same = one_set numbers other x.tried y.tried (cut-unfine (told numbers) why x.cut) (cut-unfine (told other) another y.cut) x.least y.least in
      ap (λ w. cut numbers w) (one-why why another (told other).outcome (subst (λ ns. (told ns).outcome ≡ Cut why) same x.cut) y.cut)
      ∙ ap (λ ns. cut ns another) same

pub once-of-sets : (part : Part) (most : ℕ) (script : Script) (budget : ℕ) (shape : Shape) (answer another : SetAnswer) →
    IsSetAnswerIn part most script budget shape answer → IsSetAnswerIn part most script budget shape another → answer ≡ another
once-of-sets = once
