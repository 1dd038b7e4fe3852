-- Reports are printable ASCII, since their lines are.
use Rattle.std.proofs.Common.{ℕ, Bool, true, false, List, ◌++◌, inl, inr, refl, sym, subst, codes, decimal, All}
use Rattle.wb_runs.specs.declared.failures.Failing.TheVariants.{Number}
use Rattle.wb_runs.specs.declared.failures.Failures.{Failures}
use Rattle.wb_heap_model.specs.declared.heap.Rule.{Rule}
use Rattle.wb_heap_model.specs.declared.heap.Shape.{Shape}
use Rattle.wb_heap_model.specs.declared.heap.Rule.TheVariants.{Limit, Set}
use Rattle.wb_runs.specs.declared.part.Part.{Part}
use Rattle.wb_meaning.specs.declared.run.RunResult.{RunResult}
use Rattle.wb_tree.specs.declared.script.Script.{Script}
use Rattle.wb_meaning.specs.Printable.{ArePrintable}
use Rattle.wb_meaning.specs.Run.{run}
use Rattle.wb_runs.specs.Sweeps.{failing_at, failing_set, rule_for}
use Rattle.wb_runs.proofs.OnceFound.{found-run}
use Rattle.wb_meaning.proofs.ThroughoutLemmas.{run-prints}
use Rattle.wb_command_line.specs.declared.command.Command.{Command}
use Rattle.wb_command_line.specs.declared.command.Search.{Search}
use Rattle.wb_command_line.specs.declared.command.Search.TheVariants as S
use Rattle.wb_command_line.specs.declared.command.Task.{Task}
use Rattle.wb_command_line.specs.declared.command.Task.TheVariants as T
use Rattle.wb_sweep.specs.declared.found.Listing.{Listing}
use Rattle.wb_sweep.specs.declared.found.Listing.TheVariants.{Unfine, Every}
use Rattle.workbench.specs.declared.report_values.ReportValues.{ReportValues}
use Rattle.workbench.specs.SearchReport.{IsSearchReport}
use Rattle.workbench.specs.Ascii.{IsPrintableText}
use Rattle.workbench.specs.Report.{IsReport, IsTaskReport}
use Rattle.wb_command_line.specs.Spelled.{whole}
use Rattle.workbench.specs.AllReport.{IsListReport, all_text, told_of}
use Rattle.workbench.specs.EverySetReport.{IsEverySetReport, no_set_at_all_line}
use Rattle.workbench.specs.PartReport.{IsFailingIn, IsReportOver, is_whole}
use Rattle.workbench.specs.LengthsReport.{IsLengthsReport, bad_length_text, table_lines}
use Rattle.workbench.specs.RunText.{line, run_text}
use Rattle.workbench.specs.SetsReport.{IsSetsReport, no_set_line}
use Rattle.workbench.specs.TwoNumbers.{IsFailing, IsSized, IsSizeReport, IsSweepReport, attempts_line, attempts_of, found_text, none_line}
use Rattle.workbench.proofs.AsciiLemmas.{both, of_all_text, of_attempts, of_cut_at, of_fault, of_found, of_many_states, of_no_set, of_no_set_at_all, of_none, of_number, of_run, of_size, of_table_lines, of_word}
use Rattle.workbench.proofs.SetsOver.{least-run-over, run-over}

module _ (script : Script) (budget : ℕ) (shape : Shape) where
  run_lines : (rule : Rule) → All ArePrintable (run script rule budget shape).lines
  run_lines rule = run-prints script budget shape rule

  of_sized : (text : List ℕ) (values : ReportValues) → IsSized script budget shape text values → IsPrintableText text
  of_sized text values is = subst IsPrintableText (sym is.text_is) (of_size is.required is.rises)

  of_size_report : (text : List ℕ) (values : ReportValues) (status : ℕ) → IsSizeReport script budget shape text values status → IsPrintableText text
  of_size_report text values status (inl is) = of_sized text values is.0
  of_size_report text values status (inr is) = subst IsPrintableText (sym is.0.text_is) (of_cut_at (Number 0) is.0.why)

  of_failing : (failures : Failures) (text : List ℕ) (values : ReportValues) → IsFailing failures script budget shape text values
      → IsPrintableText text
  of_failing failures text values is =
      let ran = found-run script budget shape failures is.at is.result is.found in
      let lines : All ArePrintable is.result.lines =
      subst (λ (r : RunResult). All ArePrintable r.lines) (sym ran) (run_lines (rule_for is.at)) in
      subst IsPrintableText (sym is.text_is)
      (both (attempts_line _) (found_text is.at is.result) (of_attempts _) (of_found is.at is.result lines))

  of_sweep_report : (failures : Failures) (text : List ℕ) (values : ReportValues) (status : ℕ)
      → IsSweepReport failures script budget shape text values status → IsPrintableText text
  of_sweep_report failures text values status (inl is) = of_failing failures text values is.0
  of_sweep_report failures text values status (inr (inl is)) =
      subst IsPrintableText (sym is.0.text_is) (both (attempts_line _) (none_line failures) (of_attempts _) (of_none failures))
  of_sweep_report failures text values status (inr (inr is)) = subst IsPrintableText (sym is.0.text_is) (of_cut_at is.0.at is.0.why)

  of_failing_in : (failures : Failures) (part : Part) (text : List ℕ) (values : ReportValues) → IsFailingIn failures part script budget shape text values
      → IsPrintableText text
  of_failing_in failures part text values is =
      let lines : All ArePrintable is.result.lines =
      subst (λ (r : RunResult). All ArePrintable r.lines) (sym is.found.run_is) (run_lines (rule_for is.at)) in
      subst IsPrintableText (sym is.text_is)
      (both (attempts_line _) (found_text is.at is.result) (of_attempts _) (of_found is.at is.result lines))

  of_report_over : (whole : Bool) (failures : Failures) (part : Part) (text : List ℕ) (values : ReportValues) (status : ℕ)
      → IsReportOver whole failures part script budget shape text values status → IsPrintableText text
  of_report_over true failures part text values status is = of_sweep_report failures text values status is
  of_report_over false failures part text values status (inl is) = of_failing_in failures part text values is.0
  of_report_over false failures part text values status (inr (inl is)) =
      subst IsPrintableText (sym is.0.text_is) (both (attempts_line _) (none_line failures) (of_attempts _) (of_none failures))
  of_report_over false failures part text values status (inr (inr is)) = subst IsPrintableText (sym is.0.text_is) (of_cut_at is.0.at is.0.why)

  of_list_report : (listing : Listing) (failures : Failures) (part : Part) (text : List ℕ) (values : ReportValues) (status : ℕ)
      → IsListReport listing failures part script budget shape text values status → IsPrintableText text
  of_list_report listing failures part text values status (inl is) =
      let lines : All ArePrintable is.0.result.lines =
      subst (λ (r : RunResult). All ArePrintable r.lines) (sym is.0.least.run_is) (run_lines (rule_for (failing_at failures is.0.number))) in
      let attempts = attempts_of failures script budget shape in
      let ends = told_of listing failures part script budget shape in
      subst IsPrintableText (sym is.0.text_is)
      (both (all_text failures attempts ends) (run_text is.0.result) (of_all_text failures attempts ends) (of_run is.0.result lines))
  of_list_report listing failures part text values status (inr (inl is)) = subst IsPrintableText (sym is.text_is) (of_all_text failures _ _)
  of_list_report listing failures part text values status (inr (inr is)) = subst IsPrintableText (sym is.0.text_is) (of_cut_at (failing_at failures 0) is.0.why)

  of_sets_report : (part : Part) (most : ℕ) (text : List ℕ) (values : ReportValues) (status : ℕ)
      → IsSetsReport part most script budget shape text values status → IsPrintableText text
  of_sets_report part most text values status (inl is) =
      let ran = run-over script budget shape part most (is_whole part) is.0.numbers is.0.result is.0.found in
      let lines : All ArePrintable is.0.result.lines =
      subst (λ (r : RunResult). All ArePrintable r.lines) (sym ran) (run_lines (Set is.0.numbers)) in
      subst IsPrintableText (sym is.0.text_is)
      (both (attempts_line _) (found_text (failing_set is.0.numbers) is.0.result) (of_attempts _) (of_found (failing_set is.0.numbers) is.0.result lines))
  of_sets_report part most text values status (inr (inl is)) =
      subst IsPrintableText (sym is.0.text_is) (both (attempts_line _) (no_set_line most) (of_attempts _) (of_no_set most))
  of_sets_report part most text values status (inr (inr is)) = subst IsPrintableText (sym is.0.text_is) (of_cut_at (failing_set is.0.numbers) is.0.why)

  of_every_set_report : (part : Part) (states : ℕ) (text : List ℕ) (values : ReportValues) (status : ℕ)
      → IsEverySetReport part states script budget shape text values status → IsPrintableText text
  of_every_set_report part states text values status (inl is) =
      let ran = least-run-over script budget shape part (is_whole part) is.0.numbers is.0.result is.0.found in
      let lines : All ArePrintable is.0.result.lines =
      subst (λ (r : RunResult). All ArePrintable r.lines) (sym ran) (run_lines (Set is.0.numbers)) in
      subst IsPrintableText (sym is.0.text_is)
      (both (attempts_line _) (found_text (failing_set is.0.numbers) is.0.result) (of_attempts _) (of_found (failing_set is.0.numbers) is.0.result lines))
  of_every_set_report part states text values status (inr (inl is)) =
      subst IsPrintableText (sym is.0.text_is) (both (attempts_line _) no_set_at_all_line (of_attempts _) of_no_set_at_all)
  of_every_set_report part states text values status (inr (inr (inl is))) = subst IsPrintableText (sym is.0.text_is) (of_cut_at (failing_set is.0.numbers) is.0.why)
  of_every_set_report part states text values status (inr (inr (inr is))) = subst IsPrintableText (sym is.0.text_is) (of_many_states _ is.0.fine)

  of_lengths_report : (text : List ℕ) (values : ReportValues) (status : ℕ) → IsLengthsReport script budget shape text values status → IsPrintableText text
  of_lengths_report text values status (inl is) =
      let lines : All ArePrintable is.0.result.lines =
      subst (λ (r : RunResult). All ArePrintable r.lines) (sym is.0.least.run_is) (run_lines (Limit is.0.length)) in
      subst IsPrintableText (sym is.0.text_is)
      (both (table_lines is.0.table) (bad_length_text is.0.length is.0.result) (of_table_lines is.0.table)
      (both (line (codes "length " ++ decimal is.0.length)) (run_text is.0.result) (of_number (codes "length ") is.0.length refl) (of_run is.0.result lines)))
  of_lengths_report text values status (inr is) =
      subst IsPrintableText (sym is.text_is) (both (table_lines is.table) (line (codes "length none")) (of_table_lines is.table) (of_word (codes "length none") refl))

  of_search : (search : Search) (part : Part) (text : List ℕ) (values : ReportValues) (status : ℕ)
      → IsSearchReport search part script budget shape text values status → IsPrintableText text
  of_search (S.Least failures) part text values status is = of_report_over (is_whole part) failures part text values status is
  of_search (S.All failures) part text values status is = of_list_report Unfine failures part text values status is
  of_search (S.Ends failures) part text values status is = of_list_report Every failures part text values status is
  of_search (S.Sets most) part text values status is = of_sets_report part most text values status is
  of_search (S.EverySet states) part text values status is = of_every_set_report part states text values status is

  of_task : (task : Task) (text : List ℕ) (values : ReportValues) (status : ℕ) → IsTaskReport task script budget shape text values status → IsPrintableText text
  of_task (T.Run rule) text values status is = subst IsPrintableText (sym is.text_is) (of_run (run script rule budget shape) (run_lines rule))
  of_task T.Size text values status is = of_size_report text values status is
  of_task T.Lengths text values status is = of_lengths_report text values status is
  of_task (T.Sweep search part) text values status is = of_search search part text values status is
  of_task (T.Check search) text values status (inl is) =
      subst IsPrintableText (sym is.text_is)
      (both is.first is.second (of_sized is.first is.size is.sized) (of_search search whole is.second is.sweep status is.searched))
  of_task (T.Check search) text values status (inr is) = subst IsPrintableText (sym is.0.text_is) (of_cut_at (Number 0) is.0.why)

pub report-printable : (command : Command) (bytes text : List ℕ) (values : ReportValues) (status : ℕ) → IsReport command bytes text values status → IsPrintableText text
report-printable command bytes text values status (inl is) = of_task is.script command.budget command.shape command.task text values status is.task_report
report-printable command bytes text values status (inr is) = subst IsPrintableText (sym is.text_is) (of_fault is.fault)
