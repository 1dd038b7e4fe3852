-- The report of a command on bytes is one: any two say the same.
use Rattle.std.proofs.Common.{◌≡◌, ◌⊎◌, inl, inr, ℕ, ◌<◌, List, ◌++◌, sym, ◌∙◌, ap, subst, Bool, true, false, None, le_refl}
use Rattle.std.specs.Prelude.{IsSome}
use Rattle.std.proofs.lemmas.Bool.{cases_order, false≢true}
use Rattle.wb_runs.specs.declared.failures.Failing.TheVariants.{Number}
use Rattle.wb_runs.specs.declared.failures.Failures.{Failures}
use Rattle.wb_runs.specs.declared.number_ends.NumberEnd.{NumberEnd}
use Rattle.wb_runs.specs.declared.part.Part.{Part}
use Rattle.wb_heap_model.specs.declared.heap.Shape.{Shape}
use Rattle.wb_tree.specs.declared.script.Script.{Script}
use Rattle.wb_heap_model.specs.declared.size.Rise.{Rise}
use Rattle.wb_runs.specs.Parts.{IsNoneIn}
use Rattle.wb_runs.specs.Sizes.{IsHeapLength}
use Rattle.wb_runs.specs.SweepAnswers.{IsNoneFound}
use Rattle.wb_runs.specs.Sweeps.{failing_at}
use Rattle.wb_runs.specs.declared.lengths.LengthRange.{LengthRange}
use Rattle.wb_basics.specs.declared.limits.TheConstants.{CEILING}
use Rattle.wb_runs.specs.Lengths.{end_in, IsLengthTable}
use Rattle.wb_runs.proofs.LengthAnswers.{bad-length-some, once-bad-length}
use Rattle.wb_runs.proofs.LengthTables.{one-table}
use Rattle.wb_runs.proofs.OnceFound.{cut-some, found-some, found-uncut, once-cut, once-found, one-why}
use Rattle.wb_runs.proofs.OnceInPart.{cut_or_uncut, cut-some-in, found-some-in, found-uncut-in, least-bad-some, once-cut-in, once-found-in, once-least-bad}
use Rattle.wb_command_line.specs.declared.command.Command.{Command}
use Rattle.wb_command_line.specs.declared.command.Search.{Search}
use Rattle.wb_command_line.specs.declared.command.Search.TheVariants as S
use Rattle.wb_command_line.specs.declared.command.Task.{Task}
use Rattle.wb_command_line.specs.declared.command.Task.TheVariants as T
use Rattle.wb_command_line.specs.Spelled.{whole}
use Rattle.wb_sweep.specs.declared.found.Listing.{Listing}
use Rattle.wb_sweep.specs.declared.found.Listing.TheVariants.{Unfine, Every}
use Rattle.wb_script.proofs.one_script.FaultLaws.{fault_once, no_fault}
use Rattle.wb_script.proofs.one_script.ScriptLaws.{script_once}
use Rattle.workbench.specs.declared.report_values.ReportValues.{ReportValues}
use Rattle.workbench.specs.declared.report_values.FailingNumber.TheVariants.{At, Length, Never}
use Rattle.workbench.specs.AllReport.{IsListReport, IsToldWithBad, all_text, told_of}
use Rattle.workbench.specs.EverySetReport.{is_of_every_set, tries_every_set}
use Rattle.workbench.specs.LengthsReport.{IsBadLengthFound, IsFineStatus, IsLengthsReport, IsNoBadLengthFound, bad_length_text, found_length_text, table_lines}
use Rattle.workbench.specs.PartReport.{IsFailingIn, IsPartReport, IsReportOver, IsUnsweptIn, is_whole}
use Rattle.workbench.specs.RunText.{run_text}
use Rattle.workbench.specs.SearchReport.{IsCheckReport, IsSearchReport, IsSizedAndSearched}
use Rattle.workbench.specs.ReportValues.{all_values, both_values, cut_values, lengths_values, size_values, sweep_values}
use Rattle.workbench.specs.Report.{IsReport, IsReportOfFault, IsReportOfScript, IsTaskReport, fault_line}
use Rattle.workbench.specs.TwoNumbers.{IsFailing, IsSized, IsSizeReport, IsSweepReport, IsUnsized, IsUnswept, attempts_line, attempts_of, cut_at_line, found_text, size_text}
use Rattle.workbench.proofs.OneSetReport.{one_sets}

-- the same text and the same values
abbrev pub Alike : List ℕ → ReportValues → List ℕ → ReportValues → Type 0
Alike text values text' figures' = (text ≡ text') × (values ≡ figures')

-- ---- how long the heap must be

module _ (script : Script) (budget : ℕ) (shape : Shape) where
  enough_here : (m n : ℕ) (rs ss : List Rise) → IsHeapLength script budget shape m rs → IsHeapLength script budget shape n ss → m < n → ⊥
  enough_here m n rs ss one other less = absurd (false≢true (subst IsSome (one.enough m (le_refl m)) (other.short m less)))

  one_length : (m n : ℕ) (rs ss : List Rise) → IsHeapLength script budget shape m rs → IsHeapLength script budget shape n ss → m ≡ n
  one_length m n rs ss one other = by (cases_order m n)
    where
      by : (m ≡ n) ⊎ ((m < n) ⊎ (n < m)) → m ≡ n
      by (inl e) = e
      by (inr (inl less)) = absurd (enough_here m n rs ss one other less)
      by (inr (inr less)) = absurd (enough_here n m ss rs other one less)

  pub one_size : (text text' : List ℕ) (values figures' : ReportValues) → IsSized script budget shape text values → IsSized script budget shape text' figures'
      → Alike text values text' figures'
  one_size text text' values figures' s t =
      let same : s.required ≡ t.required = one_length s.required t.required s.rises t.rises s.needed t.needed in
      let rows : s.rises ≡ t.rises = s.rises_are ∙ sym t.rises_are in (
        s.text_is ∙ ap (λ n. size_text n s.rises) same ∙ ap (size_text t.required) rows ∙ sym t.text_is,
        s.values_are ∙ ap (λ n. size_values n s.rises) same ∙ ap (size_values t.required) rows ∙ sym t.values_are,
      )

  pub one_cut : (text text' : List ℕ) (values figures' : ReportValues) → IsUnsized script budget shape text values → IsUnsized script budget shape text' figures'
      → Alike text values text' figures'
  one_cut text text' values figures' s t =
      let why = one-why s.why t.why _ s.cut t.cut in
      (s.text_is ∙ ap (cut_at_line (Number 0)) why ∙ sym t.text_is, s.values_are ∙ sym t.values_are)

  pub never_both : (text text' : List ℕ) (values figures' : ReportValues) → IsSized script budget shape text values → IsUnsized script budget shape text' figures' → ⊥
  never_both text text' values figures' s t = s.uncut t.why t.cut

  one_sizing : (text text' : List ℕ) (values figures' : ReportValues) (status status' : ℕ) → IsSizeReport script budget shape text values status
      → IsSizeReport script budget shape text' figures' status' → Alike text values text' figures' × (status ≡ status')
  one_sizing text text' values figures' status status' (inl (s, e)) (inl (t, f)) = (one_size text text' values figures' s t, e ∙ sym f)
  one_sizing text text' values figures' status status' (inl (s, e)) (inr (t, f)) = absurd (never_both text text' values figures' s t)
  one_sizing text text' values figures' status status' (inr (s, e)) (inl (t, f)) = absurd (never_both text' text figures' values t s)
  one_sizing text text' values figures' status status' (inr (s, e)) (inr (t, f)) = (one_cut text text' values figures' s t, e ∙ sym f)

-- ---- which failure shows a leak or a panic

module _ (failures : Failures) (script : Script) (budget : ℕ) (shape : Shape) where
  one_failing : (text text' : List ℕ) (values figures' : ReportValues) → IsFailing failures script budget shape text values → IsFailing failures script budget shape text' figures'
      → Alike text values text' figures'
  one_failing text text' values figures' s t =
      let (same, results) = once-found script budget shape failures s.at t.at s.result t.result s.found t.found in
      let words : found_text s.at s.result ≡ found_text t.at t.result = ap (λ f. found_text f s.result) same ∙ ap (found_text t.at) results in
      let attempts : ℕ = attempts_of failures script budget shape in (
        s.text_is ∙ ap (λ l. attempts_line attempts ++ l) words ∙ sym t.text_is,
        s.values_are ∙ ap (λ f. sweep_values attempts (At f)) same ∙ sym t.values_are,
      )

  one_unswept : (text text' : List ℕ) (values figures' : ReportValues) → IsUnswept failures script budget shape text values → IsUnswept failures script budget shape text' figures'
      → Alike text values text' figures'
  one_unswept text text' values figures' s t =
      let (same, why) = once-cut script budget shape failures s.at t.at s.why t.why s.cut t.cut in
      (s.text_is ∙ ap (λ f. cut_at_line f s.why) same ∙ ap (cut_at_line t.at) why ∙ sym t.text_is, s.values_are ∙ ap cut_values same ∙ sym t.values_are)

  failing_or_cut : (text text' : List ℕ) (values figures' : ReportValues) → IsFailing failures script budget shape text values → IsUnswept failures script budget shape text' figures' → ⊥
  failing_or_cut text text' values figures' s t = found-uncut script budget shape failures s.at t.at s.result t.why s.found t.cut

  failing_or_none : (text : List ℕ) (values : ReportValues) → IsFailing failures script budget shape text values → IsNoneFound failures script budget shape → ⊥
  failing_or_none text values s none = found-some script budget shape failures s.at s.result s.found none

  cut_or_none : (text : List ℕ) (values : ReportValues) → IsUnswept failures script budget shape text values → IsNoneFound failures script budget shape → ⊥
  cut_or_none text values s none = cut-some script budget shape failures s.at s.why s.cut none

  one_sweep : (text text' : List ℕ) (values figures' : ReportValues) (status status' : ℕ) → IsSweepReport failures script budget shape text values status
      → IsSweepReport failures script budget shape text' figures' status' → Alike text values text' figures' × (status ≡ status')
  one_sweep text text' values figures' status status' (inl (s, e)) (inl (t, f)) = (one_failing text text' values figures' s t, e ∙ sym f)
  one_sweep text text' values figures' status status' (inl (s, e)) (inr (inl (t, f))) = absurd (failing_or_none text values s t.none)
  one_sweep text text' values figures' status status' (inl (s, e)) (inr (inr (t, f))) = absurd (failing_or_cut text text' values figures' s t)
  one_sweep text text' values figures' status status' (inr (inl (s, e))) (inl (t, f)) = absurd (failing_or_none text' figures' t s.none)
  one_sweep text text' values figures' status status' (inr (inl (s, e))) (inr (inl (t, f))) =
      ((s.text_is ∙ sym t.text_is, s.values_are ∙ sym t.values_are), e ∙ sym f)
  one_sweep text text' values figures' status status' (inr (inl (s, e))) (inr (inr (t, f))) = absurd (cut_or_none text' figures' t s.none)
  one_sweep text text' values figures' status status' (inr (inr (s, e))) (inl (t, f)) = absurd (failing_or_cut text' text figures' values t s)
  one_sweep text text' values figures' status status' (inr (inr (s, e))) (inr (inl (t, f))) = absurd (cut_or_none text values s t.none)
  one_sweep text text' values figures' status status' (inr (inr (s, e))) (inr (inr (t, f))) = (one_unswept text text' values figures' s t, e ∙ sym f)

  -- ---- of a part of its numbers

  module _ (part : Part) where
    one_failing_in : (text text' : List ℕ) (values figures' : ReportValues) → IsFailingIn failures part script budget shape text values
        → IsFailingIn failures part script budget shape text' figures' → Alike text values text' figures'
    one_failing_in text text' values figures' s t =
        let (same, results) = once-found-in failures part script budget shape s.at t.at s.result t.result s.found t.found in
        let words : found_text s.at s.result ≡ found_text t.at t.result = ap (λ f. found_text f s.result) same ∙ ap (found_text t.at) results in
        let attempts : ℕ = attempts_of failures script budget shape in (
          s.text_is ∙ ap (λ l. attempts_line attempts ++ l) words ∙ sym t.text_is,
          s.values_are ∙ ap (λ f. sweep_values attempts (At f)) same ∙ sym t.values_are,
        )

    one_unswept_in : (text text' : List ℕ) (values figures' : ReportValues) → IsUnsweptIn failures part script budget shape text values
        → IsUnsweptIn failures part script budget shape text' figures' → Alike text values text' figures'
    one_unswept_in text text' values figures' s t =
        let (same, why) = once-cut-in failures part script budget shape s.at t.at s.why t.why s.cut t.cut in
        (s.text_is ∙ ap (λ f. cut_at_line f s.why) same ∙ ap (cut_at_line t.at) why ∙ sym t.text_is, s.values_are ∙ ap cut_values same ∙ sym t.values_are)

    failing_or_cut_in : (text text' : List ℕ) (values figures' : ReportValues) → IsFailingIn failures part script budget shape text values
        → IsUnsweptIn failures part script budget shape text' figures' → ⊥
    failing_or_cut_in text text' values figures' s t = found-uncut-in failures part script budget shape s.at t.at s.result t.why s.found t.cut

    failing_or_none_in : (text : List ℕ) (values : ReportValues) → IsFailingIn failures part script budget shape text values → IsNoneIn failures part script budget shape → ⊥
    failing_or_none_in text values s none = found-some-in failures part script budget shape s.at s.result s.found none

    cut_or_none_in : (text : List ℕ) (values : ReportValues) → IsUnsweptIn failures part script budget shape text values → IsNoneIn failures part script budget shape → ⊥
    cut_or_none_in text values s none = cut-some-in failures part script budget shape s.at s.why s.cut none

    one_part : (text text' : List ℕ) (values figures' : ReportValues) (status status' : ℕ) → IsPartReport failures part script budget shape text values status
        → IsPartReport failures part script budget shape text' figures' status' → Alike text values text' figures' × (status ≡ status')
    one_part text text' values figures' status status' (inl (s, e)) (inl (t, f)) = (one_failing_in text text' values figures' s t, e ∙ sym f)
    one_part text text' values figures' status status' (inl (s, e)) (inr (inl (t, f))) = absurd (failing_or_none_in text values s t.none)
    one_part text text' values figures' status status' (inl (s, e)) (inr (inr (t, f))) = absurd (failing_or_cut_in text text' values figures' s t)
    one_part text text' values figures' status status' (inr (inl (s, e))) (inl (t, f)) = absurd (failing_or_none_in text' figures' t s.none)
    one_part text text' values figures' status status' (inr (inl (s, e))) (inr (inl (t, f))) =
        ((s.text_is ∙ sym t.text_is, s.values_are ∙ sym t.values_are), e ∙ sym f)
    one_part text text' values figures' status status' (inr (inl (s, e))) (inr (inr (t, f))) = absurd (cut_or_none_in text' figures' t s.none)
    one_part text text' values figures' status status' (inr (inr (s, e))) (inl (t, f)) = absurd (failing_or_cut_in text' text figures' values t s)
    one_part text text' values figures' status status' (inr (inr (s, e))) (inr (inl (t, f))) = absurd (cut_or_none_in text values s t.none)
    one_part text text' values figures' status status' (inr (inr (s, e))) (inr (inr (t, f))) = (one_unswept_in text text' values figures' s t, e ∙ sym f)

    one_over : (whole : Bool) (text text' : List ℕ) (values figures' : ReportValues) (status status' : ℕ) → IsReportOver whole failures part script budget shape text values status
        → IsReportOver whole failures part script budget shape text' figures' status' → Alike text values text' figures' × (status ≡ status')
    one_over true text text' values figures' status status' s t = one_sweep text text' values figures' status status' s t
    one_over false text text' values figures' status status' s t = one_part text text' values figures' status status' s t

    -- ---- lists of numbers

    one_told : (listing : Listing) (text text' : List ℕ) (values figures' : ReportValues) → IsToldWithBad listing failures part script budget shape text values
        → IsToldWithBad listing failures part script budget shape text' figures' → Alike text values text' figures'
    one_told listing text text' values figures' s t =
        let (same, results) = once-least-bad failures part script budget shape s.number t.number s.result t.result s.least t.least in
        let attempts : ℕ = attempts_of failures script budget shape in
        let ends : List NumberEnd = told_of listing failures part script budget shape in (
          s.text_is ∙ ap (λ r. all_text failures attempts ends ++ run_text r) results ∙ sym t.text_is,
          s.values_are ∙ ap (λ n. all_values attempts ends (At (failing_at failures n))) same ∙ sym t.values_are,
        )

    one_list : (listing : Listing) (text text' : List ℕ) (values figures' : ReportValues) (status status' : ℕ) → IsListReport listing failures part script budget shape text values status
        → IsListReport listing failures part script budget shape text' figures' status' → Alike text values text' figures' × (status ≡ status')
    one_list listing text text' values figures' status status' (inl (s, e)) (inl (t, f)) = (one_told listing text text' values figures' s t, e ∙ sym f)
    one_list listing text text' values figures' status status' (inl (s, e)) (inr (inl t)) = absurd (least-bad-some failures part script budget shape s.number s.result s.least t.none)
    one_list listing text text' values figures' status status' (inl (s, e)) (inr (inr (t, f))) = absurd (cut_or_uncut failures part script budget shape t.why t.cut s.uncut)
    one_list listing text text' values figures' status status' (inr (inl s)) (inl (t, f)) = absurd (least-bad-some failures part script budget shape t.number t.result t.least s.none)
    one_list listing text text' values figures' status status' (inr (inl s)) (inr (inl t)) = ((s.text_is ∙ sym t.text_is, s.values_are ∙ sym t.values_are), s.status_is ∙ sym t.status_is)
    one_list listing text text' values figures' status status' (inr (inl s)) (inr (inr (t, f))) = absurd (cut_or_uncut failures part script budget shape t.why t.cut s.uncut)
    one_list listing text text' values figures' status status' (inr (inr (s, e))) (inl (t, f)) = absurd (cut_or_uncut failures part script budget shape s.why s.cut t.uncut)
    one_list listing text text' values figures' status status' (inr (inr (s, e))) (inr (inl t)) = absurd (cut_or_uncut failures part script budget shape s.why s.cut t.uncut)
    one_list listing text text' values figures' status status' (inr (inr (s, e))) (inr (inr (t, f))) =
        let why = one-why s.why t.why _ s.cut t.cut in
        ((s.text_is ∙ ap (cut_at_line (failing_at failures 0)) why ∙ sym t.text_is, s.values_are ∙ sym t.values_are), e ∙ sym f)

-- ---- all lengths

module _ (script : Script) (budget : ℕ) (shape : Shape) where
  one_lengths_table : (table other : List LengthRange) → IsLengthTable script budget shape table → IsLengthTable script budget shape other → table ≡ other
  one_lengths_table table other is too = one-table (end_in script budget shape) CEILING 0 table other is too

  one_bad_length : (text text' : List ℕ) (values figures' : ReportValues) → IsBadLengthFound script budget shape text values → IsBadLengthFound script budget shape text' figures'
      → Alike text values text' figures'
  one_bad_length text text' values figures' s t =
      let rows = one_lengths_table s.table t.table s.right t.right in
      let (same, results) = once-bad-length script budget shape s.length t.length s.result t.result s.least t.least in (
        s.text_is ∙ ap (λ table. table_lines table ++ bad_length_text s.length s.result) rows ∙ ap (λ l. table_lines t.table ++ bad_length_text l s.result) same
            ∙ ap (λ r. table_lines t.table ++ bad_length_text t.length r) results ∙ sym t.text_is,
        s.values_are ∙ ap (λ table. lengths_values table (Length s.length)) rows ∙ ap (λ l. lengths_values t.table (Length l)) same ∙ sym t.values_are,
      )

  -- some length's run is cut, or none's is
  one_fine_status : (status status' : ℕ) → IsFineStatus script budget shape status → IsFineStatus script budget shape status' → status ≡ status'
  one_fine_status status status' (inl (s, cut)) (inl (t, too)) = s ∙ sym t
  one_fine_status status status' (inl (s, cut)) (inr (t, uncut)) = absurd (false≢true (sym (uncut cut.0 cut.1) ∙ cut.2))
  one_fine_status status status' (inr (s, uncut)) (inl (t, cut)) = absurd (false≢true (sym (uncut cut.0 cut.1) ∙ cut.2))
  one_fine_status status status' (inr (s, uncut)) (inr (t, too)) = s ∙ sym t

  one_fine_table : (text text' : List ℕ) (values figures' : ReportValues) (status status' : ℕ) → IsNoBadLengthFound script budget shape text values status
      → IsNoBadLengthFound script budget shape text' figures' status' → Alike text values text' figures' × (status ≡ status')
  one_fine_table text text' values figures' status status' s t =
      let rows = one_lengths_table s.table t.table s.right t.right in (
        (
          s.text_is ∙ ap (λ table. table_lines table ++ found_length_text None) rows ∙ sym t.text_is,
          s.values_are ∙ ap (λ table. lengths_values table Never) rows ∙ sym t.values_are,
        ),
        one_fine_status status status' s.status_is t.status_is,
      )

  one_lengths : (text text' : List ℕ) (values figures' : ReportValues) (status status' : ℕ) → IsLengthsReport script budget shape text values status
      → IsLengthsReport script budget shape text' figures' status' → Alike text values text' figures' × (status ≡ status')
  one_lengths text text' values figures' status status' (inl (s, e)) (inl (t, f)) = (one_bad_length text text' values figures' s t, e ∙ sym f)
  one_lengths text text' values figures' status status' (inl (s, e)) (inr t) = absurd (bad-length-some script budget shape s.length s.result s.least t.none)
  one_lengths text text' values figures' status status' (inr s) (inl (t, f)) = absurd (bad-length-some script budget shape t.length t.result t.least s.none)
  one_lengths text text' values figures' status status' (inr s) (inr t) = one_fine_table text text' values figures' status status' s t

-- ---- by what is searched for

module _ (search : Search) (script : Script) (budget : ℕ) (shape : Shape) where
  -- of each search but that among all sets
  pub one_search : (part : Part) → is_of_every_set search ≡ false → (text text' : List ℕ) (values figures' : ReportValues) (status status' : ℕ)
      → IsSearchReport search part script budget shape text values status
      → IsSearchReport search part script budget shape text' figures' status' → Alike text values text' figures' × (status ≡ status')
  one_search part old text text' values figures' status status' s t = by search old s t
    where
      by : (search : Search) → is_of_every_set search ≡ false → IsSearchReport search part script budget shape text values status
          → IsSearchReport search part script budget shape text' figures' status' → Alike text values text' figures' × (status ≡ status')
      by (S.Least failures) old s t = one_over failures script budget shape part (is_whole part) text text' values figures' status status' s t
      by (S.All failures) old s t = one_list failures script budget shape part Unfine text text' values figures' status status' s t
      by (S.Ends failures) old s t = one_list failures script budget shape part Every text text' values figures' status status' s t
      by (S.Sets most) old s t = one_sets part most script budget shape text text' values figures' status status' s t
      by (S.EverySet states) old s t = absurd (false≢true (sym old))

  -- the search comes after a size
  pub after-size : (text text' : List ℕ) (values figures' : ReportValues) (status status' : ℕ) (s : IsSizedAndSearched search script budget shape text values status)
      (t : IsSizedAndSearched search script budget shape text' figures' status') → Alike s.second s.sweep t.second t.sweep × (status ≡ status')
      → Alike text values text' figures' × (status ≡ status')
  after-size text text' values figures' status status' s t found =
      let (first, size) = one_size script budget shape s.first t.first s.size t.size s.sized t.sized in
      let ((second, sweep), same) = found in (
        (
          s.text_is ∙ ap (λ l. l ++ s.second) first ∙ ap (λ l. t.first ++ l) second ∙ sym t.text_is,
          s.values_are ∙ ap (λ f. both_values f s.sweep) size ∙ ap (both_values t.size) sweep ∙ sym t.values_are,
        ),
        same,
      )

  one_check : is_of_every_set search ≡ false → (text text' : List ℕ) (values figures' : ReportValues) (status status' : ℕ)
      → IsCheckReport search script budget shape text values status
      → IsCheckReport search script budget shape text' figures' status' → Alike text values text' figures' × (status ≡ status')
  one_check old text text' values figures' status status' (inl s) (inl t) =
      after-size text text' values figures' status status' s t
      (one_search whole old s.second t.second s.sweep t.sweep status status' s.searched t.searched)
  one_check old text text' values figures' status status' (inl s) (inr (t, f)) = absurd (never_both script budget shape s.first text' s.size figures' s.sized t)
  one_check old text text' values figures' status status' (inr (s, e)) (inl t) = absurd (never_both script budget shape t.first text t.size values t.sized s)
  one_check old text text' values figures' status status' (inr (s, e)) (inr (t, f)) = (one_cut script budget shape text text' values figures' s t, e ∙ sym f)

-- ---- by the task

module _ (script : Script) (budget : ℕ) (shape : Shape) where
  pub one_task : (task : Task) → tries_every_set task ≡ false → (text text' : List ℕ) (values figures' : ReportValues) (status status' : ℕ) → IsTaskReport task script budget shape text values status
      → IsTaskReport task script budget shape text' figures' status' → Alike text values text' figures' × (status ≡ status')
  one_task (T.Run rule) old text text' values figures' status status' s t =
      ((s.text_is ∙ sym t.text_is, s.values_are ∙ sym t.values_are), s.status_is ∙ sym t.status_is)
  one_task T.Size old text text' values figures' status status' s t =
      one_sizing script budget shape text text' values figures' status status' s t
  one_task T.Lengths old text text' values figures' status status' s t =
      one_lengths script budget shape text text' values figures' status status' s t
  one_task (T.Sweep search part) old text text' values figures' status status' s t =
      one_search search script budget shape part old text text' values figures' status status' s t
  one_task (T.Check search) old text text' values figures' status status' s t =
      one_check search script budget shape old text text' values figures' status status' s t

-- ---- of a script, or of a fault

module _ (command : Command) (bytes text text' : List ℕ) (values figures' : ReportValues) (status status' : ℕ) where
  of_script : tries_every_set command.task ≡ false → IsReportOfScript command bytes text values status → IsReportOfScript command bytes text' figures' status'
      → Alike text values text' figures' × (status ≡ status')
  of_script old s t =
      let same : s.script ≡ t.script = script_once bytes s.script t.script s.spelled t.spelled in
      one_task t.script command.budget command.shape command.task old text text' values figures' status status'
      (subst (λ script. IsTaskReport command.task script command.budget command.shape text values status) same s.task_report) t.task_report

  pub of_fault : IsReportOfFault bytes text values status → IsReportOfFault bytes text' figures' status' → Alike text values text' figures' × (status ≡ status')
  of_fault s t =
      let same : s.fault ≡ t.fault = fault_once bytes s.fault t.fault s.found t.found in
      ((s.text_is ∙ ap fault_line same ∙ sym t.text_is, s.values_are ∙ sym t.values_are), s.status_is ∙ sym t.status_is)

  pub report_once : tries_every_set command.task ≡ false → IsReport command bytes text values status → IsReport command bytes text' figures' status' → (text ≡ text') × (values ≡ figures') × (status ≡ status')
  report_once old (inl s) (inl t) = let ((words, values), same) = of_script old s t in (words, values, same)
  report_once old (inl s) (inr t) = absurd (no_fault bytes s.script t.fault s.spelled t.found)
  report_once old (inr s) (inl t) = absurd (no_fault bytes t.script s.fault t.spelled s.found)
  report_once old (inr s) (inr t) = let ((words, values), same) = of_fault s t in (words, values, same)
