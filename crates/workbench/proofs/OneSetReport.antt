-- The report of a sweep over sets is one: any two say the same.
use Rattle.std.proofs.Common.{◌≡◌, ◌∙◌, inl, inr, ℕ, List, ◌++◌, sym, ap}
use Rattle.wb_runs.specs.declared.failures.Failures.TheVariants.{Single}
use Rattle.wb_heap_model.specs.declared.heap.Shape.{Shape}
use Rattle.wb_runs.specs.declared.part.Part.{Part}
use Rattle.wb_tree.specs.declared.script.Script.{Script}
use Rattle.wb_runs.specs.SetParts.{IsNoSetIn, IsSetCutIn, IsSetFoundIn}
use Rattle.wb_runs.specs.Sweeps.{failing_set}
use Rattle.workbench.specs.declared.report_values.FailingNumber.TheVariants.{At}
use Rattle.workbench.specs.declared.report_values.ReportValues.{ReportValues}
use Rattle.workbench.specs.PartReport.{is_whole}
use Rattle.workbench.specs.ReportValues.{cut_values, sweep_values}
use Rattle.workbench.specs.SetsReport.{IsFailingSet, IsNoFailingSet, IsSetsReport, IsUnsweptSet}
use Rattle.workbench.specs.TwoNumbers.{attempts_line, attempts_of, cut_at_line, found_text}
use Rattle.workbench.proofs.OneSet.{cut-set-some, once-cut-set, once-set, set-some, set-uncut}
use Rattle.workbench.proofs.SetsOver.{cut-in, found-in, none-in, part_over}

module _ (part : Part) (most : ℕ) (script : Script) (budget : ℕ) (shape : Shape) where
  abbrev tried : Part
  tried = part_over script budget shape (is_whole part) part

  found_here : (text : List ℕ) (values : ReportValues) (s : IsFailingSet part most script budget shape text values) → IsSetFoundIn tried most script budget shape s.numbers s.result
  found_here text values s = found-in script budget shape part most (is_whole part) s.numbers s.result s.found

  cut_here : (text : List ℕ) (values : ReportValues) (s : IsUnsweptSet part most script budget shape text values) → IsSetCutIn tried most script budget shape s.numbers s.why
  cut_here text values s = cut-in script budget shape part most (is_whole part) s.numbers s.why s.cut

  none_here : (text : List ℕ) (values : ReportValues) → IsNoFailingSet part most script budget shape text values → IsNoSetIn tried most script budget shape
  none_here text values s = none-in script budget shape part most (is_whole part) s.none

  one_failing_set : (text text' : List ℕ) (values figures' : ReportValues) → IsFailingSet part most script budget shape text values
      → IsFailingSet part most script budget shape text' figures' → (text ≡ text') × (values ≡ figures')
  one_failing_set text text' values figures' s t =
      let (same, results) = once-set tried most script budget shape s.numbers t.numbers s.result t.result (found_here text values s) (found_here text' figures' t) in
      let words : found_text (failing_set s.numbers) s.result ≡ found_text (failing_set t.numbers) t.result =
      ap (λ numbers. found_text (failing_set numbers) s.result) same ∙ ap (found_text (failing_set t.numbers)) results in
      let attempts : ℕ = attempts_of Single script budget shape in (
        s.text_is ∙ ap (λ l. attempts_line attempts ++ l) words ∙ sym t.text_is,
        s.values_are ∙ ap (λ numbers. sweep_values attempts (At (failing_set numbers))) same ∙ sym t.values_are,
      )

  one_unswept_set : (text text' : List ℕ) (values figures' : ReportValues) → IsUnsweptSet part most script budget shape text values
      → IsUnsweptSet part most script budget shape text' figures' → (text ≡ text') × (values ≡ figures')
  one_unswept_set text text' values figures' s t =
      let (same, why) = once-cut-set tried most script budget shape s.numbers t.numbers s.why t.why (cut_here text values s) (cut_here text' figures' t) in (
        s.text_is ∙ ap (λ numbers. cut_at_line (failing_set numbers) s.why) same ∙ ap (cut_at_line (failing_set t.numbers)) why ∙ sym t.text_is,
        s.values_are ∙ ap (λ numbers. cut_values (failing_set numbers)) same ∙ sym t.values_are,
      )

  found_or_cut : (text text' : List ℕ) (values figures' : ReportValues) → IsFailingSet part most script budget shape text values
      → IsUnsweptSet part most script budget shape text' figures' → ⊥
  found_or_cut text text' values figures' s t = set-uncut tried most script budget shape s.numbers t.numbers s.result t.why (found_here text values s) (cut_here text' figures' t)

  found_or_none : (text text' : List ℕ) (values figures' : ReportValues) → IsFailingSet part most script budget shape text values
      → IsNoFailingSet part most script budget shape text' figures' → ⊥
  found_or_none text text' values figures' s t = set-some tried most script budget shape s.numbers s.result (found_here text values s) (none_here text' figures' t)

  cut_or_none : (text text' : List ℕ) (values figures' : ReportValues) → IsUnsweptSet part most script budget shape text values
      → IsNoFailingSet part most script budget shape text' figures' → ⊥
  cut_or_none text text' values figures' s t = cut-set-some tried most script budget shape s.numbers s.why (cut_here text values s) (none_here text' figures' t)

  pub one_sets : (text text' : List ℕ) (values figures' : ReportValues) (status status' : ℕ) → IsSetsReport part most script budget shape text values status
      → IsSetsReport part most script budget shape text' figures' status' → ((text ≡ text') × (values ≡ figures')) × (status ≡ status')
  one_sets text text' values figures' status status' (inl (s, e)) (inl (t, f)) = (one_failing_set text text' values figures' s t, e ∙ sym f)
  one_sets text text' values figures' status status' (inl (s, e)) (inr (inl (t, f))) = absurd (found_or_none text text' values figures' s t)
  one_sets text text' values figures' status status' (inl (s, e)) (inr (inr (t, f))) = absurd (found_or_cut text text' values figures' s t)
  one_sets text text' values figures' status status' (inr (inl (s, e))) (inl (t, f)) = absurd (found_or_none text' text figures' values t s)
  one_sets text text' values figures' status status' (inr (inl (s, e))) (inr (inl (t, f))) =
      ((s.text_is ∙ sym t.text_is, s.values_are ∙ sym t.values_are), e ∙ sym f)
  one_sets text text' values figures' status status' (inr (inl (s, e))) (inr (inr (t, f))) = absurd (cut_or_none text' text figures' values t s)
  one_sets text text' values figures' status status' (inr (inr (s, e))) (inl (t, f)) = absurd (found_or_cut text' text figures' values t s)
  one_sets text text' values figures' status status' (inr (inr (s, e))) (inr (inl (t, f))) = absurd (cut_or_none text text' values figures' s t)
  one_sets text text' values figures' status status' (inr (inr (s, e))) (inr (inr (t, f))) = (one_unswept_set text text' values figures' s t, e ∙ sym f)
