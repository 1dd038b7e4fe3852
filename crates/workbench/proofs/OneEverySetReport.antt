-- Of a sweep over all sets that isn't cut by its states the report is one, and so is that of each command.
use Rattle.std.proofs.Common.{◌≡◌, ◌∙◌, inl, inr, ℕ, Bool, List, ◌++◌, None, Some, refl, sym, ap, subst}
use Rattle.wb_runs.specs.declared.failures.Failures.TheVariants.{Single}
use Rattle.wb_heap_model.specs.declared.heap.Shape.{Shape}
use Rattle.wb_runs.specs.declared.part.Part.{Part}
use Rattle.wb_tree.specs.declared.script.Script.{Script}
use Rattle.wb_runs.specs.EverySet.{IsEverySetAnswerIn}
use Rattle.wb_runs.specs.SetAnswers.{SetAnswer, found, cut, none}
use Rattle.wb_runs.specs.Sweeps.{failing_set}
use Rattle.wb_runs.proofs.EverySetAnswers.{once-of-every-set}
use Rattle.wb_command_line.specs.Spelled.{whole}
use Rattle.wb_command_line.specs.declared.command.Command.{Command}
use Rattle.wb_command_line.specs.declared.command.Search.{Search}
use Rattle.wb_command_line.specs.declared.command.Search.TheVariants as S
use Rattle.wb_command_line.specs.declared.command.Task.{Task}
use Rattle.wb_command_line.specs.declared.command.Task.TheVariants as T
use Rattle.wb_script.proofs.one_script.FaultLaws.{no_fault}
use Rattle.wb_script.proofs.one_script.ScriptLaws.{script_once}
use Rattle.workbench.specs.declared.report_values.FailingNumber.TheVariants.{At, Never}
use Rattle.workbench.specs.declared.report_values.ReportValues.{ReportValues}
use Rattle.workbench.specs.EverySetReport.{IsEverySetReport, no_set_at_all_line}
use Rattle.workbench.specs.PartReport.{is_whole}
use Rattle.workbench.specs.Report.{IsReport, IsReportOfScript, IsTaskReport}
use Rattle.workbench.specs.ReportValues.{cut_values, sweep_values}
use Rattle.workbench.specs.SearchReport.{IsCheckReport, IsSearchReport}
use Rattle.workbench.specs.TwoNumbers.{attempts_line, attempts_of, cut_at_line, found_text}
use Rattle.workbench.proofs.OneReport.{Alike, after-size, never_both, of_fault, one_cut, one_search, one_task}
use Rattle.workbench.proofs.SetsOver.{least-cut-in, least-found-in, none-of-any-size-in, part_over}

-- ---- what is told of an answer

module _ (part : Part) (script : Script) (budget : ℕ) (shape : Shape) where
  abbrev attempts : ℕ
  attempts = attempts_of Single script budget shape

  abbrev is_all : Bool
  is_all = is_whole part

  abbrev tried : Part
  tried = part_over script budget shape is_all part

  abbrev told_text : SetAnswer → List ℕ
  told_text (found numbers result) = attempts_line attempts ++ found_text (failing_set numbers) result
  told_text (cut numbers why) = cut_at_line (failing_set numbers) why
  told_text none = attempts_line attempts ++ no_set_at_all_line

  abbrev told_values : SetAnswer → ReportValues
  told_values (found numbers result) = sweep_values attempts (At (failing_set numbers))
  told_values (cut numbers why) = cut_values (failing_set numbers)
  told_values none = sweep_values attempts Never

  abbrev told_status : SetAnswer → ℕ
  told_status (found numbers result) = 1
  told_status (cut numbers why) = 3
  told_status none = 0

  record IsTold (text : List ℕ) (values : ReportValues) (status : ℕ) : Type 0 where
    answer : SetAnswer
    is : IsEverySetAnswerIn tried script budget shape answer
    text_is : text ≡ told_text answer
    values_are : values ≡ told_values answer
    status_is : status ≡ told_status answer

  -- a report tells of an answer, but that of a search with too many states
  as_told : (states : ℕ) (text : List ℕ) (values : ReportValues) (status : ℕ) → values.fine ≡ None
      → IsEverySetReport part states script budget shape text values status
      → IsTold text values status
  as_told states text values status ends (inl (s, e)) =
      let here = least-found-in script budget shape part is_all s.numbers s.result s.found in
      record { answer = found s.numbers s.result; is = here; text_is = s.text_is; values_are = s.values_are; status_is = e }
  as_told states text values status ends (inr (inl (s, e))) =
      let here = none-of-any-size-in script budget shape part is_all s.none in
      record { answer = none; is = here; text_is = s.text_is; values_are = s.values_are; status_is = e }
  as_told states text values status ends (inr (inr (inl (s, e)))) =
      let here = least-cut-in script budget shape part is_all s.numbers s.why s.cut in
      record { answer = cut s.numbers s.why; is = here; text_is = s.text_is; values_are = s.values_are; status_is = e }
  as_told states text values status ends (inr (inr (inr (s, e)))) = let known : values.fine ≡ Some s.fine = ap (λ (v : ReportValues). v.fine) s.values_are in cc

  one_every_set : (states : ℕ) (text text' : List ℕ) (values figures' : ReportValues) (status status' : ℕ) → values.fine ≡ None → figures'.fine ≡ None
      → IsEverySetReport part states script budget shape text values status → IsEverySetReport part states script budget shape text' figures' status'
      → Alike text values text' figures' × (status ≡ status')
  one_every_set states text text' values figures' status status' ends ends' is is' =
      let s = as_told states text values status ends is in
      let t = as_told states text' figures' status' ends' is' in
      let same = once-of-every-set tried script budget shape s.answer t.answer s.is t.is in (
        (s.text_is ∙ ap told_text same ∙ sym t.text_is, s.values_are ∙ ap told_values same ∙ sym t.values_are),
        s.status_is ∙ ap told_status same ∙ sym t.status_is,
      )

-- ---- by what is searched for

module _ (search : Search) (script : Script) (budget : ℕ) (shape : Shape) where
  -- of each search that isn't cut by its states
  one_ended_search : (part : Part) (text text' : List ℕ) (values figures' : ReportValues) (status status' : ℕ) → values.fine ≡ None → figures'.fine ≡ None
      → IsSearchReport search part script budget shape text values status → IsSearchReport search part script budget shape text' figures' status'
      → Alike text values text' figures' × (status ≡ status')
  one_ended_search part text text' values figures' status status' ends ends' s t = by search s t
    where
      by : (search : Search) → IsSearchReport search part script budget shape text values status → IsSearchReport search part script budget shape text' figures' status'
          → Alike text values text' figures' × (status ≡ status')
      by (S.EverySet states) s t = one_every_set part script budget shape states text text' values figures' status status' ends ends' s t
      by (S.Least failures) s t = one_search (S.Least failures) script budget shape part refl text text' values figures' status status' s t
      by (S.All failures) s t = one_search (S.All failures) script budget shape part refl text text' values figures' status status' s t
      by (S.Ends failures) s t = one_search (S.Ends failures) script budget shape part refl text text' values figures' status status' s t
      by (S.Sets most) s t = one_search (S.Sets most) script budget shape part refl text text' values figures' status status' s t

  one_ended_check : (text text' : List ℕ) (values figures' : ReportValues) (status status' : ℕ) → values.fine ≡ None → figures'.fine ≡ None
      → IsCheckReport search script budget shape text values status → IsCheckReport search script budget shape text' figures' status'
      → Alike text values text' figures' × (status ≡ status')
  one_ended_check text text' values figures' status status' ends ends' (inl s) (inl t) =
      let here : s.sweep.fine ≡ None = sym (ap (λ (v : ReportValues). v.fine) s.values_are) ∙ ends in
      let there : t.sweep.fine ≡ None = sym (ap (λ (v : ReportValues). v.fine) t.values_are) ∙ ends' in
      after-size search script budget shape text text' values figures' status status' s t
      (one_ended_search whole s.second t.second s.sweep t.sweep status status' here there s.searched t.searched)
  one_ended_check text text' values figures' status status' ends ends' (inl s) (inr (t, f)) = absurd (never_both script budget shape s.first text' s.size figures' s.sized t)
  one_ended_check text text' values figures' status status' ends ends' (inr (s, e)) (inl t) = absurd (never_both script budget shape t.first text t.size values t.sized s)
  one_ended_check text text' values figures' status status' ends ends' (inr (s, e)) (inr (t, f)) = (one_cut script budget shape text text' values figures' s t, e ∙ sym f)

-- ---- by the task

module _ (script : Script) (budget : ℕ) (shape : Shape) (text text' : List ℕ) (values figures' : ReportValues) (status status' : ℕ) (ends : values.fine ≡ None) (ends' : figures'.fine ≡ None) where
  one_ended_task : (task : Task) → IsTaskReport task script budget shape text values status → IsTaskReport task script budget shape text' figures' status'
      → Alike text values text' figures' × (status ≡ status')
  one_ended_task (T.Sweep search part) s t = one_ended_search search script budget shape part text text' values figures' status status' ends ends' s t
  one_ended_task (T.Check search) s t = one_ended_check search script budget shape text text' values figures' status status' ends ends' s t
  one_ended_task (T.Run rule) s t = one_task script budget shape (T.Run rule) refl text text' values figures' status status' s t
  one_ended_task T.Size s t = one_task script budget shape T.Size refl text text' values figures' status status' s t
  one_ended_task T.Lengths s t = one_task script budget shape T.Lengths refl text text' values figures' status status' s t

-- ---- of a script, or of a fault

module _ (command : Command) (bytes text text' : List ℕ) (values figures' : ReportValues) (status status' : ℕ) (ends : values.fine ≡ None) (ends' : figures'.fine ≡ None) where
  of_ended : IsReportOfScript command bytes text values status → IsReportOfScript command bytes text' figures' status'
      → Alike text values text' figures' × (status ≡ status')
  of_ended s t =
      let same : s.script ≡ t.script = script_once bytes s.script t.script s.spelled t.spelled in
      one_ended_task t.script command.budget command.shape text text' values figures' status status' ends ends' command.task
      (subst (λ script. IsTaskReport command.task script command.budget command.shape text values status) same s.task_report) t.task_report

  pub ended_once : IsReport command bytes text values status → IsReport command bytes text' figures' status' → (text ≡ text') × (values ≡ figures') × (status ≡ status')
  ended_once (inl s) (inl t) = let ((words, values), same) = of_ended s t in (words, values, same)
  ended_once (inl s) (inr t) = absurd (no_fault bytes s.script t.fault s.spelled t.found)
  ended_once (inr s) (inl t) = absurd (no_fault bytes t.script s.fault t.spelled s.found)
  ended_once (inr s) (inr t) = let ((words, values), same) = of_fault command bytes text text' values figures' status status' s t in (words, values, same)
