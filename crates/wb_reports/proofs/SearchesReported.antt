-- Every search has a report, since it has an answer.
use Rattle.std.proofs.Common.{◌≡◌, ◌≢◌, ℕ, ◌⊎◌, inl, inr, Bool, true, false, List, ◌++◌, refl, ap}
use Rattle.wb_runs.specs.declared.failures.Failing.TheVariants.{Number}
use Rattle.wb_runs.specs.declared.failures.Failures.{Failures}
use Rattle.wb_runs.specs.declared.failures.Failures.TheVariants.{Single}
use Rattle.wb_heap_model.specs.declared.heap.Shape.{Shape}
use Rattle.wb_runs.specs.declared.part.Part.{Part}
use Rattle.wb_meaning.specs.declared.run.Outcome.{Outcome}
use Rattle.wb_meaning.specs.declared.run.Outcome.TheVariants.{Cut}
use Rattle.wb_meaning.specs.declared.run.RunResult.{RunResult}
use Rattle.wb_meaning.specs.declared.run.Why.{Why}
use Rattle.wb_meaning.specs.declared.run.Why.TheVariants.{Ceiling}
use Rattle.wb_tree.specs.declared.script.Script.{Script}
use Rattle.wb_runs.specs.Parts as parts
use Rattle.wb_runs.specs.SetAnswers as sets
use Rattle.wb_runs.specs.Sweeps.{failing_at, failing_set, is_cut_outcome, runs_of}
use Rattle.wb_runs.proofs.SameRuns.{past_the_last}
use Rattle.wb_answers.specs.Answered.{HasAnswer, HasAnswerIn, HasEverySetAnswer, HasEverySetAnswerIn, HasLeastBadOf, HasSetAnswer, HasSetAnswerIn}
use Rattle.wb_answers.proofs.Judged.{cut-or-not}
use Rattle.wb_answers.proofs.LengthsAnswered.{bad-number}
use Rattle.wb_answers.proofs.SetsAnswered.{every-set-answer, set-answer, whole-every-set-answer, whole-set-answer}
use Rattle.wb_answers.proofs.SweepsAnswered.{sweep-answer, whole-sweep-answer}
use Rattle.wb_command_line.specs.declared.command.Search.{Search}
use Rattle.wb_command_line.specs.declared.command.Search.TheVariants.{Least, All, Ends, Sets, EverySet}
use Rattle.wb_sweep.specs.declared.found.Listing.{Listing}
use Rattle.wb_sweep.specs.declared.found.Listing.TheVariants.{Unfine, Every}
use Rattle.workbench.specs.declared.report_values.FailingNumber.TheVariants.{At, Never}
use Rattle.workbench.specs.declared.report_values.ReportValues.{ReportValues}
use Rattle.workbench.specs.AllReport.{all_text, fine_status, told_of, IsListReport}
use Rattle.workbench.specs.EverySetReport.{no_set_at_all_line, IsEverySetReport, IsLeastSetCutOver, IsLeastSetFoundOver, IsNoSetOfAnySizeOver}
use Rattle.workbench.specs.PartReport.{is_whole, IsReportOver}
use Rattle.workbench.specs.ReportValues.{all_values, cut_values, sweep_values}
use Rattle.workbench.specs.RunText.{run_text}
use Rattle.workbench.specs.SearchReport.{IsSearchReport}
use Rattle.workbench.specs.SetsReport.{no_set_line, IsNoSetOver, IsSetCutOver, IsSetFoundOver, IsSetsReport}
use Rattle.workbench.specs.TwoNumbers.{attempts_line, attempts_of, cut_at_line, found_text, none_line}

-- a text, values and a status of which this holds
abbrev pub AnyOf : (List ℕ → ReportValues → ℕ → Type 0) → Type 0
AnyOf IsIt = (text : List ℕ) × (values : ReportValues) × (status : ℕ) × IsIt text values status

module _ (script : Script) (budget : ℕ) (shape : Shape) where
  abbrev without : Failures → Outcome
  without failures = (runs_of failures script budget shape 0).outcome

  -- ---- the least failure

  module _ (failures : Failures) (part : Part) where
    abbrev attempts : ℕ
    attempts = attempts_of failures script budget shape

    of-whole : HasAnswer failures script budget shape → AnyOf (IsReportOver true failures part script budget shape)
    of-whole (inl (at, result, is)) = (
      attempts_line attempts ++ found_text at result,
      sweep_values attempts (At at),
      1,
      inl (record { at = at; result = result; found = is; text_is = refl; values_are = refl }, refl),
    )
    of-whole (inr (inl (at, why, is))) =
        (cut_at_line at why, cut_values at, 3, inr (inr (record { at = at; why = why; cut = is; text_is = refl; values_are = refl }, refl)))
    of-whole (inr (inr is)) = (
      attempts_line attempts ++ none_line failures,
      sweep_values attempts Never,
      0,
      inr (inl (record { none = is; text_is = refl; values_are = refl }, refl)),
    )

    of-part : HasAnswerIn failures part script budget shape → AnyOf (IsReportOver false failures part script budget shape)
    of-part (parts.found at result, is) = (
      attempts_line attempts ++ found_text at result,
      sweep_values attempts (At at),
      1,
      inl (record { at = at; result = result; found = is; text_is = refl; values_are = refl }, refl),
    )
    of-part (parts.cut at why, is) =
        (cut_at_line at why, cut_values at, 3, inr (inr (record { at = at; why = why; cut = is; text_is = refl; values_are = refl }, refl)))
    of-part (parts.none, is) = (
      attempts_line attempts ++ none_line failures,
      sweep_values attempts Never,
      0,
      inr (inl (record { none = is; text_is = refl; values_are = refl }, refl)),
    )

    least-report : AnyOf (IsReportOver (is_whole part) failures part script budget shape)
    least-report = by (is_whole part)
      where
        by : (whole : Bool) → AnyOf (IsReportOver whole failures part script budget shape)
        by true = of-whole (whole-sweep-answer failures script budget shape)
        by false = of-part (sweep-answer failures part script budget shape)

    -- ---- lists

    ceiling-uncut : is_cut_outcome (without failures) ≡ false → without failures ≢ Cut Ceiling
    ceiling-uncut uncut cut = let is : is_cut_outcome (without failures) ≡ true = ap is_cut_outcome cut in cc

    list-report : (listing : Listing) → AnyOf (IsListReport listing failures part script budget shape)
    list-report listing = elim (cut-or-not (without failures)) [
      | inl cuts ↦ (
        cut_at_line (failing_at failures 0) cuts.0,
        cut_values (failing_at failures 0),
        3,
        inr (inr (record { why = cuts.0; cut = cuts.1; text_is = refl; values_are = refl }, refl)),
      )
      | inr uncut ↦ told uncut (bad-number (runs_of failures script budget shape) part)
    ]
      where
        told : is_cut_outcome (without failures) ≡ false → HasLeastBadOf (runs_of failures script budget shape) part →
            AnyOf (IsListReport listing failures part script budget shape)
        told uncut (inl (number, is)) =
            let ends = told_of listing failures part script budget shape in
            let result = runs_of failures script budget shape number in (
              all_text failures attempts ends ++ run_text result,
              all_values attempts ends (At (failing_at failures number)),
              1,
              inl (
                record {
                  uncut = uncut;
                  later = λ n past. past_the_last failures script budget shape n (ceiling-uncut uncut) past;
                  number = number;
                  result = result;
                  least = is;
                  text_is = refl;
                  values_are = refl;
                },
                refl,
              ),
            )
        told uncut (inr none) =
            let ends = told_of listing failures part script budget shape in (
              all_text failures attempts ends,
              all_values attempts ends Never,
              fine_status ends,
              inr (inl (record {
                uncut = uncut;
                later = λ n past. past_the_last failures script budget shape n (ceiling-uncut uncut) past;
                none = none;
                text_is = refl;
                values_are = refl;
                status_is = refl;
              })),
            )

  -- ---- sets

  abbrev made : ℕ
  made = attempts_of Single script budget shape

  module _ (part : Part) where
    -- what is found or cut, told whether the part is the whole
    sets-found : (most : ℕ) (numbers : List ℕ) (result : RunResult) → IsSetFoundOver (is_whole part) part most script budget shape numbers result →
        AnyOf (IsSetsReport part most script budget shape)
    sets-found most numbers result is = (
      attempts_line made ++ found_text (failing_set numbers) result,
      sweep_values made (At (failing_set numbers)),
      1,
      inl (record { numbers = numbers; result = result; found = is; text_is = refl; values_are = refl }, refl),
    )

    sets-cut : (most : ℕ) (numbers : List ℕ) (why : Why) → IsSetCutOver (is_whole part) part most script budget shape numbers why →
        AnyOf (IsSetsReport part most script budget shape)
    sets-cut most numbers why is = (
      cut_at_line (failing_set numbers) why,
      cut_values (failing_set numbers),
      3,
      inr (inr (record { numbers = numbers; why = why; cut = is; text_is = refl; values_are = refl }, refl)),
    )

    sets-none : (most : ℕ) → IsNoSetOver (is_whole part) part most script budget shape → AnyOf (IsSetsReport part most script budget shape)
    sets-none most is = (
      attempts_line made ++ no_set_line most,
      sweep_values made Never,
      0,
      inr (inl (record { none = is; text_is = refl; values_are = refl }, refl)),
    )

    -- an answer, told so
    abbrev SetsOver : Bool → ℕ → Type 0
    SetsOver whole most =
        ((numbers : List ℕ) × (result : RunResult) × IsSetFoundOver whole part most script budget shape numbers result)
        ⊎ (((numbers : List ℕ) × (why : Why) × IsSetCutOver whole part most script budget shape numbers why)
        ⊎ IsNoSetOver whole part most script budget shape)

    over-whole : (most : ℕ) → HasSetAnswer most script budget shape → SetsOver true most
    over-whole most (inl (numbers, result, is, few)) = inl (numbers, result, (is, few))
    over-whole most (inr (inl (numbers, why, is, few))) = inr (inl (numbers, why, (is, few)))
    over-whole most (inr (inr is)) = inr (inr is)

    over-part : (most : ℕ) → HasSetAnswerIn part most script budget shape → SetsOver false most
    over-part most (sets.found numbers result, is) = inl (numbers, result, is)
    over-part most (sets.cut numbers why, is) = inr (inl (numbers, why, is))
    over-part most (sets.none, is) = inr (inr is)

    sets-over : (whole : Bool) (most : ℕ) → SetsOver whole most
    sets-over true most = over-whole most (whole-set-answer script budget shape most)
    sets-over false most = over-part most (set-answer script budget shape part most)

    sets-report : (most : ℕ) → AnyOf (IsSetsReport part most script budget shape)
    sets-report most = elim (sets-over (is_whole part) most) [
      | inl is ↦ sets-found most is.0 is.1 is.2
      | inr (inl is) ↦ sets-cut most is.0 is.1 is.2
      | inr (inr is) ↦ sets-none most is
    ]

    -- ---- of any size

    abbrev EverySetOver : Bool → Type 0
    EverySetOver whole =
        ((numbers : List ℕ) × (result : RunResult) × IsLeastSetFoundOver whole part script budget shape numbers result)
        ⊎ (((numbers : List ℕ) × (why : Why) × IsLeastSetCutOver whole part script budget shape numbers why)
        ⊎ IsNoSetOfAnySizeOver whole part script budget shape)

    every-over-part : HasEverySetAnswerIn part script budget shape → EverySetOver false
    every-over-part (sets.found numbers result, is) = inl (numbers, result, is)
    every-over-part (sets.cut numbers why, is) = inr (inl (numbers, why, is))
    every-over-part (sets.none, is) = inr (inr is)

    every-over : (whole : Bool) → EverySetOver whole
    every-over true = whole-every-set-answer script budget shape
    every-over false = every-over-part (every-set-answer script budget shape part)

    every-set-report : (states : ℕ) → AnyOf (IsEverySetReport part states script budget shape)
    every-set-report states = elim (every-over (is_whole part)) [
      | inl is ↦ (
        attempts_line made ++ found_text (failing_set is.0) is.1,
        sweep_values made (At (failing_set is.0)),
        1,
        inl (record { numbers = is.0; result = is.1; found = is.2; text_is = refl; values_are = refl }, refl),
      )
      | inr (inl is) ↦ (
        cut_at_line (failing_set is.0) is.1,
        cut_values (failing_set is.0),
        3,
        inr (inr (inl (record { numbers = is.0; why = is.1; cut = is.2; text_is = refl; values_are = refl }, refl))),
      )
      | inr (inr is) ↦ (
        attempts_line made ++ no_set_at_all_line,
        sweep_values made Never,
        0,
        inr (inl (record { none = is; text_is = refl; values_are = refl }, refl)),
      )
    ]

  pub search-report : (search : Search) (part : Part) → AnyOf (IsSearchReport search part script budget shape)
  search-report (Least failures) part = least-report failures part
  search-report (All failures) part = list-report failures part Unfine
  search-report (Ends failures) part = list-report failures part Every
  search-report (Sets most) part = sets-report part most
  search-report (EverySet states) part = every-set-report part states
