-- A sweep over sets has an answer, over a part and over all.
use Rattle.std.proofs.Common.{ℕ, inl, inr, arith, [], refl, ◌∙◌, ap}
use Rattle.wb_runs.specs.declared.failures.Failures.TheVariants.{Single}
use Rattle.wb_heap_model.specs.declared.heap.Shape.{Shape}
use Rattle.wb_runs.specs.declared.part.Part.{Part}
use Rattle.wb_meaning.specs.declared.run.RunResult.{RunResult}
use Rattle.wb_tree.specs.declared.script.Script.{Script}
use Rattle.wb_runs.specs.Parts.{last_attempt, IsUncut}
use Rattle.wb_runs.specs.SetAnswers.{found, cut, none}
use Rattle.wb_runs.specs.SetParts.{IsCutWithoutSet}
use Rattle.wb_runs.specs.Sets.{set_run}
use Rattle.wb_runs.specs.Sweeps.{runs_of}
use Rattle.wb_runs.proofs.EverySetAnswers.{whole-every-cut, whole-every-found, whole-every-none}
use Rattle.wb_runs.proofs.SetLemmas.{none-fails}
use Rattle.wb_runs.proofs.SetPartAnswers.{whole-set-cut, whole-set-found, whole-set-none}
use Rattle.wb_answers.specs.Answered.{HasEverySetAnswer, HasEverySetAnswerIn, HasSetAnswer, HasSetAnswerIn}
use Rattle.wb_answers.proofs.Judged.{bad-or-cut, cut-or-not, IsCutBy}
use Rattle.wb_answers.proofs.SetsTried.{every-tried, few-tried, HasLeastUnfine}

module _ (script : Script) (budget : ℕ) (shape : Shape) where
  without-set : (cuts : IsCutBy (runs_of Single script budget shape 0).outcome) → IsCutWithoutSet script budget shape [] cuts.0
  without-set cuts = record { empty = refl; cut = ap (λ (told : RunResult). told.outcome) (none-fails script budget shape) ∙ cuts.1 }

  module _ (part : Part) where
    named : (most : ℕ) → IsUncut Single script budget shape → HasLeastUnfine script budget shape part most →
        HasSetAnswerIn part most script budget shape
    named most uncut is = elim (bad-or-cut (set_run script budget shape is.numbers) is.unfine) [
      | inl bad ↦ (
        found is.numbers (set_run script budget shape is.numbers),
        record { uncut = uncut; tried = is.tried; few = is.few; bad = bad; least = is.least; run_is = refl },
      )
      | inr cuts ↦ (cut is.numbers cuts.0, inr (record { uncut = uncut; tried = is.tried; few = is.few; cut = cuts.1; least = is.least }))
    ]

    pub set-answer : (most : ℕ) → HasSetAnswerIn part most script budget shape
    set-answer most = elim (cut-or-not (runs_of Single script budget shape 0).outcome) [
      | inl cuts ↦ (cut [] cuts.0, inl (without-set cuts))
      | inr uncut ↦ elim (few-tried script budget shape part most) [
        | inl is ↦ named most uncut is
        | inr fine ↦ (none, record { uncut = uncut; fine = fine })
      ]
    ]

    named-of-any : (most : ℕ) → IsUncut Single script budget shape → HasLeastUnfine script budget shape part most →
        HasEverySetAnswerIn part script budget shape
    named-of-any most uncut is = elim (bad-or-cut (set_run script budget shape is.numbers) is.unfine) [
      | inl bad ↦ (
        found is.numbers (set_run script budget shape is.numbers),
        record { uncut = uncut; tried = is.tried; few = omega arith; bad = bad; least = is.least; run_is = refl },
      )
      | inr cuts ↦ (cut is.numbers cuts.0, inr (record { uncut = uncut; tried = is.tried; few = omega arith; cut = cuts.1; least = is.least }))
    ]

    pub every-set-answer : HasEverySetAnswerIn part script budget shape
    every-set-answer = elim (cut-or-not (runs_of Single script budget shape 0).outcome) [
      | inl cuts ↦ (cut [] cuts.0, inl (without-set cuts))
      | inr uncut ↦ elim (every-tried script budget shape part) [
        | inl is ↦ named-of-any _ uncut is
        | inr fine ↦ (none, record { uncut = uncut; fine = fine })
      ]
    ]

  -- ---- all sets

  abbrev last : ℕ
  last = last_attempt Single script budget shape

  -- all numbers up to the last attempt
  abbrev whole : Part
  whole = record { from = 0; to = last }

  pub whole-set-answer : (most : ℕ) → HasSetAnswer most script budget shape
  whole-set-answer most = by (set-answer whole most)
    where
      by : HasSetAnswerIn whole most script budget shape → HasSetAnswer most script budget shape
      by (found numbers result, is) =
          let all = (whole-set-found whole most script budget shape numbers result refl (omega arith)).0 is in inl (numbers, result, all.0, all.1)
      by (cut numbers why, is) =
          let all = (whole-set-cut whole most script budget shape numbers why refl (omega arith)).0 is in inr (inl (numbers, why, all.0, all.1))
      by (none, is) = inr (inr ((whole-set-none whole most script budget shape refl (omega arith)).0 is))

  pub whole-every-set-answer : HasEverySetAnswer script budget shape
  whole-every-set-answer = by (every-set-answer whole)
    where
      by : HasEverySetAnswerIn whole script budget shape → HasEverySetAnswer script budget shape
      by (found numbers result, is) = inl (numbers, result, (whole-every-found whole script budget shape numbers result refl (omega arith)).0 is)
      by (cut numbers why, is) = inr (inl (numbers, why, (whole-every-cut whole script budget shape numbers why refl (omega arith)).0 is))
      by (none, is) = inr (inr ((whole-every-none whole script budget shape refl (omega arith)).0 is))
