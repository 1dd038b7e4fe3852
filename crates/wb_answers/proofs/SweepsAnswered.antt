-- A sweep over failures has an answer, over a part and over all. Single failures and pairs are sets of one attempt and two.
use Rattle.std.proofs.Common.{◌≡◌, ℕ, ◌+◌, ◌-◌, ◌<◌, ◌≤◌, ◌⊎◌, inl, inr, arith, Bool, true, false, refl}
use Rattle.std.proofs.lemmas.Bool.{cases_lt}
use Rattle.wb_runs.specs.declared.failures.Failing.{Failing}
use Rattle.wb_runs.specs.declared.failures.Failing.TheVariants.{Number, Pair}
use Rattle.wb_runs.specs.declared.failures.Failing.TheVariants as failings
use Rattle.wb_runs.specs.declared.failures.Failures.{Failures}
use Rattle.wb_runs.specs.declared.failures.Failures.TheVariants.{Single, Every, Pairs, Persistent}
use Rattle.wb_heap_model.specs.declared.heap.Shape.{Shape}
use Rattle.wb_runs.specs.declared.part.Part.{Part}
use Rattle.wb_meaning.specs.declared.run.RunResult.{RunResult}
use Rattle.wb_tree.specs.declared.script.Script.{Script}
use Rattle.wb_runs.specs.Parts.{found, cut, none, last_attempt, run_at, IsNumberOf, IsTried, IsUncut}
use Rattle.wb_runs.specs.SetAnswers as sets
use Rattle.wb_runs.specs.Sweeps.{failing_at, is_fine, runs_of}
use Rattle.wb_runs.proofs.FewSets.{paired-cut, paired-found, paired-none, single-cut, single-found, single-none}
use Rattle.wb_runs.proofs.PartAnswers.{before-number, tried-at, whole-cut, whole-found, whole-none}
use Rattle.wb_answers.specs.Answered.{HasAnswer, HasAnswerIn, HasSetAnswerIn}
use Rattle.wb_answers.proofs.Judged.{bad-or-cut, cut-or-not}
use Rattle.wb_answers.proofs.LeastNumber.{least-or-none, LeastFrom}
use Rattle.wb_answers.proofs.SetsAnswered.{set-answer}

module _ (script : Script) (budget : ℕ) (shape : Shape) (part : Part) where
  -- ---- by sets

  of-single : HasSetAnswerIn part 1 script budget shape → HasAnswerIn Single part script budget shape
  of-single (sets.found numbers result, is) = let one = (single-found part script budget shape numbers result).0 is in (found one.0 result, one.2)
  of-single (sets.cut numbers why, is) = let one = (single-cut part script budget shape numbers why).0 is in (cut one.0 why, one.2)
  of-single (sets.none, is) = (none, (single-none part script budget shape).0 is)

  of-pairs : HasSetAnswerIn part 2 script budget shape → HasAnswerIn Pairs part script budget shape
  of-pairs (sets.found numbers result, is) = let one = (paired-found part script budget shape numbers result).0 is in (found one.0 result, one.2)
  of-pairs (sets.cut numbers why, is) = let one = (paired-cut part script budget shape numbers why).0 is in (cut one.0 why, one.2)
  of-pairs (sets.none, is) = (none, (paired-none part script budget shape).0 is)

  -- ---- by numbers

  module _ (failures : Failures) where
    abbrev told : ℕ → RunResult
    told = runs_of failures script budget shape

    abbrev last : ℕ
    last = last_attempt failures script budget shape

    record IsUnfine (n : ℕ) : Type 0 where
      pub tried : IsNumberOf part last n
      pub unfine : is_fine (told n) ≡ false

    abbrev IsTriedFine : ℕ → Type 0
    IsTriedFine n = IsNumberOf part last n → is_fine (told n) ≡ true

    decided : (n : ℕ) → part.from ≤ n → n ≤ last → IsUnfine n ⊎ IsTriedFine n
    decided n ge le = by (cases_lt part.to n) (is_fine (told n)) refl
      where
        by : (part.to < n) ⊎ (n ≤ part.to) → (b : Bool) → is_fine (told n) ≡ b → IsUnfine n ⊎ IsTriedFine n
        by (inl past) b e = inr (λ tried. absurd (omega (arith, past, tried.to)))
        by (inr to) true e = inr (λ tried. e)
        by (inr to) false e = inl (record { tried = record { from = ge; to = to; made = le }; unfine = e })

    tried-numbers : LeastFrom IsUnfine IsTriedFine part.from (part.from + (last + 1 - part.from)) ⊎ ((n : ℕ) → IsTriedFine n)
    tried-numbers =
        elim (least-or-none IsUnfine IsTriedFine part.from (last + 1 - part.from) (λ n ge lt none. decided n ge (omega (arith, ge, lt)))) [
          | inl is ↦ inl is
          | inr fine ↦ inr (λ n tried. fine n tried.from (omega (arith, tried.from, tried.made)) tried)
        ]

    named : IsUncut failures script budget shape → LeastFrom IsUnfine IsTriedFine part.from (part.from + (last + 1 - part.from)) →
        HasAnswerIn failures part script budget shape
    named uncut is =
        let n = is.number in
        let tried = tried-at failures part last n is.has.tried in
        let before = before-number failures part script budget shape n
        (λ m ge lt. is.lesser m ge lt (record { from = ge; to = omega (arith, lt, is.has.tried.to); made = omega (arith, lt, is.has.tried.made) })) in
        elim (bad-or-cut (told n) is.has.unfine) [
          | inl bad ↦ (found (failing_at failures n) (told n), record { uncut = uncut; tried = tried; bad = bad; least = before; run_is = refl })
          | inr cuts ↦ (cut (failing_at failures n) cuts.0, inr (record { uncut = uncut; tried = tried; cut = cuts.1; least = before }))
        ]

    by-numbers : (((n : ℕ) → IsTriedFine n) → (at : Failing) → IsTried failures part last at → is_fine (run_at script budget shape at) ≡ true) →
        HasAnswerIn failures part script budget shape
    by-numbers alone = elim (cut-or-not (told 0).outcome) [
      | inl cuts ↦ (cut (failing_at failures 0) cuts.0, inl (record { failing = refl; cut = cuts.1 }))
      | inr uncut ↦ elim tried-numbers [
        | inl is ↦ named uncut is
        | inr fine ↦ (none, record { uncut = uncut; fine = alone fine })
      ]
    ]

  every-alone : ((n : ℕ) → IsTriedFine Every n) → (at : Failing) → IsTried Every part (last Every) at → is_fine (run_at script budget shape at) ≡ true
  every-alone fine (failings.Every n) tried = fine n tried
  every-alone fine at tried = absurd tried

  persistent-alone : ((n : ℕ) → IsTriedFine Persistent n) → (at : Failing) → IsTried Persistent part (last Persistent) at →
      is_fine (run_at script budget shape at) ≡ true
  persistent-alone fine (failings.From n) tried = fine n tried
  persistent-alone fine at tried = absurd tried

  answered : (failures : Failures) → HasAnswerIn failures part script budget shape
  answered Single = of-single (set-answer script budget shape part 1)
  answered Pairs = of-pairs (set-answer script budget shape part 2)
  answered Every = by-numbers Every every-alone
  answered Persistent = by-numbers Persistent persistent-alone

pub sweep-answer : (failures : Failures) (part : Part) (script : Script) (budget : ℕ) (shape : Shape) → HasAnswerIn failures part script budget shape
sweep-answer failures part script budget shape = answered script budget shape part failures

pub whole-sweep-answer : (failures : Failures) (script : Script) (budget : ℕ) (shape : Shape) → HasAnswer failures script budget shape
whole-sweep-answer failures script budget shape = by (sweep-answer failures whole script budget shape)
  where
    whole : Part
    whole = record { from = 0; to = last_attempt failures script budget shape }

    by : HasAnswerIn failures whole script budget shape → HasAnswer failures script budget shape
    by (found at result, is) = inl (at, result, (whole-found failures whole script budget shape at result refl (omega arith)).0 is)
    by (cut at why, is) = inr (inl (at, why, (whole-cut failures whole script budget shape at why refl (omega arith)).0 is))
    by (none, is) = inr (inr ((whole-none failures whole script budget shape refl (omega arith)).0 is))
