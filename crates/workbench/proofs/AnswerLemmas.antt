-- What an answer is by its status, whatever failed.
use Rattle.std.proofs.Common.{◌≡◌, ◌+◌, ◌<◌, ◌≤◌, ℕ, List, [], ◌∷◌, Bool, true, false, Option, Some, None, inl, inr, arith, length, take_all, le_refl, lit≤, sym, subst, cond}
use Rattle.std.specs.Io.KnownBytes.{Appends}
use Rattle.std.specs.List.{list_any}
use Rattle.wb_meaning.specs.declared.run.Outcome.{Outcome}
use Rattle.wb_meaning.specs.declared.run.Outcome.TheVariants.{Ended, Panicked, NoCleanup, Cut}
use Rattle.wb_runs.specs.declared.failures.Failures.{Failures}
use Rattle.wb_heap_model.specs.declared.heap.Shape.{Shape}
use Rattle.wb_runs.specs.declared.number_ends.NumberEnd.{NumberEnd}
use Rattle.wb_runs.specs.declared.part.Part.{Part}
use Rattle.wb_tree.specs.declared.script.Script.{Script}
use Rattle.wb_basics.specs.declared.limits.TheConstants.{LONGEST_SCRIPT}
use Rattle.wb_meaning.specs.Run.{run}
use Rattle.wb_runs.specs.RunEnds.{is_cut_end}
use Rattle.wb_command_line.specs.declared.command.Command.{Command}
use Rattle.wb_command_line.specs.declared.command.Search.{Search}
use Rattle.wb_command_line.specs.declared.command.Search.TheVariants as S
use Rattle.wb_command_line.specs.declared.command.Task.{Task}
use Rattle.wb_command_line.specs.declared.command.Task.TheVariants as T
use Rattle.wb_sweep.specs.declared.found.Listing.{Listing}
use Rattle.wb_sweep.specs.declared.found.Listing.TheVariants.{Unfine, Every}
use Rattle.workbench.specs.declared.findings.Findings.{Findings}
use Rattle.workbench.specs.declared.answer.Answered.{Answered}
use Rattle.workbench.specs.declared.report_values.ReportValues.{ReportValues}
use Rattle.workbench.specs.Answer.{AreFindings, AreFirst, IsAnswer, IsAnyMessage, IsMessage, IsPartWritten, IsReportOf, IsReported, IsReportWritten, IsSaid}
use Rattle.wb_command_line.specs.Spelled.{whole}
use Rattle.workbench.specs.AllReport.{IsListReport, fine_status, told_of}
use Rattle.workbench.specs.EverySetReport.{IsEverySetReport}
use Rattle.workbench.specs.JsonReport.{laid_out}
use Rattle.workbench.specs.PartReport.{IsReportOver, is_whole}
use Rattle.workbench.specs.Report.{IsReport, IsTaskReport, no_memory}
use Rattle.workbench.specs.LengthsReport.{IsFineStatus, IsLengthsReport}
use Rattle.workbench.specs.RunText.{outcome_status}
use Rattle.workbench.specs.SearchReport.{IsSearchReport}
use Rattle.workbench.specs.SetsReport.{IsSetsReport}
use Rattle.wb_streams.specs.Streams.{AppendsFirst, Came}
use Rattle.workbench.specs.TwoNumbers.{IsSizeReport, IsSweepReport}

-- ---- a report's status is at most 3

outcome_status_le : (outcome : Outcome) → outcome_status outcome ≤ 3
outcome_status_le (Ended left []) = lit≤ tt
outcome_status_le (Ended left (l ∷ ls)) = lit≤ tt
outcome_status_le (Panicked panic) = lit≤ tt
outcome_status_le NoCleanup = lit≤ tt
outcome_status_le (Cut why) = lit≤ tt

size_status_le : (script : Script) (budget : ℕ) (shape : Shape) (text : List ℕ) (values : ReportValues) (status : ℕ) → IsSizeReport script budget shape text values status → status ≤ 3
size_status_le script budget shape text values status (inl r) = omega (arith, r.1)
size_status_le script budget shape text values status (inr r) = omega (arith, r.1)

sweep_status_le : (failures : Failures) (script : Script) (budget : ℕ) (shape : Shape) (text : List ℕ) (values : ReportValues)
    (status : ℕ) → IsSweepReport failures script budget shape text values status → status ≤ 3
sweep_status_le failures script budget shape text values status (inl r) = omega (arith, r.1)
sweep_status_le failures script budget shape text values status (inr (inl r)) = omega (arith, r.1)
sweep_status_le failures script budget shape text values status (inr (inr r)) = omega (arith, r.1)

part_status_le : (whole : Bool) (failures : Failures) (part : Part) (script : Script) (budget : ℕ) (shape : Shape) (text : List ℕ) (values : ReportValues)
    (status : ℕ) → IsReportOver whole failures part script budget shape text values status → status ≤ 3
part_status_le true failures part script budget shape text values status r = sweep_status_le failures script budget shape text values status r
part_status_le false failures part script budget shape text values status (inl r) = omega (arith, r.1)
part_status_le false failures part script budget shape text values status (inr (inl r)) = omega (arith, r.1)
part_status_le false failures part script budget shape text values status (inr (inr r)) = omega (arith, r.1)

fine_status_le : (ends : List NumberEnd) → fine_status ends ≤ 3
fine_status_le ends = by (list_any (λ told. is_cut_end told.end) ends)
  where
    by : (cut : Bool) → cond cut 3 0 ≤ 3
    by true = lit≤ tt
    by false = lit≤ tt

list_status_le : (listing : Listing) (failures : Failures) (part : Part) (script : Script) (budget : ℕ) (shape : Shape) (text : List ℕ) (values : ReportValues)
    (status : ℕ) → IsListReport listing failures part script budget shape text values status → status ≤ 3
list_status_le listing failures part script budget shape text values status (inl r) = omega (arith, r.1)
list_status_le listing failures part script budget shape text values status (inr (inl r)) = subst (λ n. n ≤ 3) (sym r.status_is) (fine_status_le (told_of listing failures part script budget shape))
list_status_le listing failures part script budget shape text values status (inr (inr r)) = omega (arith, r.1)

sets_status_le : (part : Part) (most : ℕ) (script : Script) (budget : ℕ) (shape : Shape) (text : List ℕ) (values : ReportValues)
    (status : ℕ) → IsSetsReport part most script budget shape text values status → status ≤ 3
sets_status_le part most script budget shape text values status (inl r) = omega (arith, r.1)
sets_status_le part most script budget shape text values status (inr (inl r)) = omega (arith, r.1)
sets_status_le part most script budget shape text values status (inr (inr r)) = omega (arith, r.1)

every_set_status_le : (part : Part) (states : ℕ) (script : Script) (budget : ℕ) (shape : Shape) (text : List ℕ) (values : ReportValues) (status : ℕ)
    → IsEverySetReport part states script budget shape text values status → status ≤ 3
every_set_status_le part states script budget shape text values status (inl r) = omega (arith, r.1)
every_set_status_le part states script budget shape text values status (inr (inl r)) = omega (arith, r.1)
every_set_status_le part states script budget shape text values status (inr (inr (inl r))) = omega (arith, r.1)
every_set_status_le part states script budget shape text values status (inr (inr (inr r))) = omega (arith, r.1)

lengths_status_le : (script : Script) (budget : ℕ) (shape : Shape) (text : List ℕ) (values : ReportValues) (status : ℕ) → IsLengthsReport script budget shape text values status → status ≤ 3
lengths_status_le script budget shape text values status (inl r) = omega (arith, r.1)
lengths_status_le script budget shape text values status (inr r) = by r.status_is
  where
    by : IsFineStatus script budget shape status → status ≤ 3
    by (inl cut) = omega (arith, cut.0)
    by (inr fine) = omega (arith, fine.0)

search_status_le : (search : Search) (part : Part) (script : Script) (budget : ℕ) (shape : Shape) (text : List ℕ) (values : ReportValues)
    (status : ℕ) → IsSearchReport search part script budget shape text values status → status ≤ 3
search_status_le (S.Least failures) part script budget shape text values status r =
    part_status_le (is_whole part) failures part script budget shape text values status r
search_status_le (S.All failures) part script budget shape text values status r =
    list_status_le Unfine failures part script budget shape text values status r
search_status_le (S.Ends failures) part script budget shape text values status r =
    list_status_le Every failures part script budget shape text values status r
search_status_le (S.Sets most) part script budget shape text values status r =
    sets_status_le part most script budget shape text values status r
search_status_le (S.EverySet states) part script budget shape text values status r =
    every_set_status_le part states script budget shape text values status r

task_status_le : (task : Task) (script : Script) (budget : ℕ) (shape : Shape) (text : List ℕ) (values : ReportValues) (status : ℕ) → IsTaskReport task script budget shape text values status → status ≤ 3
task_status_le (T.Run rule) script budget shape text values status r = subst (λ n. n ≤ 3) (sym r.status_is) (outcome_status_le (run script rule budget shape).outcome)
task_status_le T.Size script budget shape text values status r = size_status_le script budget shape text values status r
task_status_le T.Lengths script budget shape text values status r = lengths_status_le script budget shape text values status r
task_status_le (T.Sweep search part) script budget shape text values status r =
    search_status_le search part script budget shape text values status r
task_status_le (T.Check search) script budget shape text values status (inl r) =
    search_status_le search whole script budget shape r.second r.sweep status r.searched
task_status_le (T.Check search) script budget shape text values status (inr r) = omega (arith, r.1)

report_status_le : (command : Command) (bytes text : List ℕ) (values : ReportValues) (status : ℕ) → IsReport command bytes text values status → status ≤ 3
report_status_le command bytes text values status (inl r) = task_status_le command.task r.script command.budget command.shape text values status r.task_report
report_status_le command bytes text values status (inr r) = omega (arith, r.status_is)

-- ---- what was read is reported on, and laid out

pub laid_out_is_reported : (command : Command) (input : Option (List ℕ)) (bytes seen lines text : List ℕ) (values : ReportValues) (status own : ℕ) (findings : Findings)
    → AreFirst (LONGEST_SCRIPT + 1) input bytes → seen ≡ bytes → IsReport command seen lines values own → text ≡ laid_out command lines values own → status ≡ own
    → AreFindings bytes values findings → IsReportOf command input text status findings
laid_out_is_reported command input bytes seen lines text values status own findings first same report laid is found =
    let reported : IsReported command input text own = record {
      bytes = bytes;
      read = first;
      lines = lines;
      values = values;
      report = subst (λ read. IsReport command read lines values own) same report;
      text_is = laid;
    } in
    let report_of : IsReportOf command input text own findings = record { reported = reported; found = found } in
    subst (λ n. IsReportOf command input text n findings) (sym is) report_of

-- ---- the answer, where a read and a write failed or did not

module _ (command : Command) (input held held' : Option (List ℕ)) where
  by_status : (read write : Bool) (text : List ℕ) (own status : ℕ) (found : Option Findings) → IsMessage command input read text own found
      → IsSaid held held' write text own status → (status ≤ 5) × (status < 4 → IsReportWritten command input held held' status) × (status ≡ 4 → Appends held held' no_memory)
  by_status read true text own status found m s = (omega (arith, s.1), λ low. absurd (omega (arith, s.1, low)), λ four. absurd (omega (arith, s.1, four)))
  by_status true false text own status found m s =
      (omega (arith, s.1, m.1), λ low. absurd (omega (arith, s.1, m.1, low)), λ four. absurd (omega (arith, s.1, m.1, four)))
  by_status false false text own status (Some findings) m s =
      let r = m.reported in
      let small = report_status_le command r.bytes r.lines r.values own r.report in (
        omega (arith, s.1, small),
        λ low. record { text = text; reported = subst (IsReported command input text) (sym s.1) r; written = s.0 },
        λ four. absurd (omega (arith, s.1, small, four)),
      )
  by_status false false text own status None n s =
      (omega (arith, s.1, n.1), λ low. absurd (omega (arith, s.1, n.1, low)), λ four. subst (Appends held held') n.0 s.0)

  message_is_any : (read : Bool) (text : List ℕ) (status : ℕ) (found : Option Findings) → IsMessage command input read text status found → IsAnyMessage command input text
  message_is_any true text status found m = inl m.0
  message_is_any false text status (Some findings) m = inr (inr (status, m.reported))
  message_is_any false text status None n = inr (inl n.0)

  said_is_first : (write : Bool) (text : List ℕ) (own status : ℕ) → IsSaid held held' write text own status → AppendsFirst held held' text
  said_is_first true text own status s = s.0
  said_is_first false text own status s = (length text, subst (Appends held held') (sym (take_all (length text) text (le_refl _))) s.0)

module _ {R W : Type 0} (remaining : R → Option (List ℕ)) (reads : R → Came → R → Type 0)
    (contents : W → Option (List ℕ)) (writes : W → Bool → W → Type 0)
    (command : Command) (reader reader' : R) (writer writer' : W) (answered : Answered)
    (a : IsAnswer remaining reads contents writes command reader reader' writer writer' answered) where
  pub answer_by_status : (answered.status ≤ 5)
      × (answered.status < 4 → IsReportWritten command (remaining reader) (contents writer) (contents writer') answered.status)
      × (answered.status ≡ 4 → Appends (contents writer) (contents writer') no_memory)
  answer_by_status =
      by_status command (remaining reader) (contents writer) (contents writer') a.failed a.written.failed a.text a.own answered.status answered.findings a.message a.written.said

  pub answer_is_part : IsPartWritten command (remaining reader) (contents writer) (contents writer')
  answer_is_part = record {
    text = a.text;
    message = message_is_any command (remaining reader) (contents writer) (contents writer') a.failed a.text a.own answered.findings a.message;
    written = said_is_first command (remaining reader) (contents writer) (contents writer') a.written.failed a.text a.own answered.status a.written.said;
  }
