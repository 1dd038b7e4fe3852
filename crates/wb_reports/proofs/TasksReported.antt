-- Every task has a report on a script, and every command on bytes that spell one or have a fault.
use Rattle.std.proofs.Common.{◌≡◌, ◌≢◌, ℕ, ◌⊎◌, inl, inr, true, false, List, ◌++◌, None, refl, ap, subst}
use Rattle.wb_runs.specs.declared.failures.Failing.TheVariants.{Number}
use Rattle.wb_language.specs.declared.fault.ScriptFault.{ScriptFault}
use Rattle.wb_language.specs.declared.fault.ScriptFault.TheVariants.{NoMemory}
use Rattle.wb_heap_model.specs.declared.heap.Rule.TheVariants.{Unlimited}
use Rattle.wb_heap_model.specs.declared.heap.Shape.{Shape}
use Rattle.wb_runs.specs.declared.lengths.LengthRange.{LengthRange}
use Rattle.wb_meaning.specs.declared.run.Outcome.TheVariants.{Cut}
use Rattle.wb_meaning.specs.declared.run.RunResult.{RunResult}
use Rattle.wb_meaning.specs.declared.run.Why.{Why}
use Rattle.wb_meaning.specs.declared.run.Why.TheVariants.{Ceiling}
use Rattle.wb_tree.specs.declared.script.Script.{Script}
use Rattle.wb_language.specs.Scripts.{IsFaultOf, IsScriptOf}
use Rattle.wb_runs.specs.Lengths.{IsLengthTable}
use Rattle.wb_meaning.specs.Run.{required, rises, run}
use Rattle.wb_runs.specs.Sweeps.{is_cut_outcome}
use Rattle.wb_answers.specs.Answered.{AnyCutOrNone, HasLeastBadLength}
use Rattle.wb_answers.proofs.Judged.{cut-or-not}
use Rattle.wb_answers.proofs.LengthsAnswered.{bad-length, cut-length, heap-length, length-table}
use Rattle.wb_command_line.specs.declared.command.Command.{Command}
use Rattle.wb_command_line.specs.declared.command.Search.{Search}
use Rattle.wb_command_line.specs.declared.command.Task.{Task}
use Rattle.wb_command_line.specs.declared.command.Task.TheVariants as T
use Rattle.wb_command_line.specs.Spelled.{whole}
use Rattle.workbench.specs.declared.report_values.FailingNumber.TheVariants.{Length, Never}
use Rattle.workbench.specs.LengthsReport.{bad_length_text, found_length_text, table_lines, IsFineStatus, IsLengthsReport}
use Rattle.workbench.specs.Report.{fault_line, IsTaskReport}
use Rattle.workbench.specs.ReportValues.{both_values, cut_values, lengths_values, no_values, run_values, size_values}
use Rattle.workbench.specs.RunText.{run_status, run_text}
use Rattle.workbench.specs.SearchReport.{IsCheckReport, IsSearchReport}
use Rattle.workbench.specs.TwoNumbers.{cut_at_line, size_text, IsSized, IsSizeReport}
use Rattle.wb_reports.specs.AnyReport.{AnyReport}
use Rattle.wb_reports.proofs.SearchesReported.{search-report, AnyOf}

module _ (script : Script) (budget : ℕ) (shape : Shape) where
  -- ---- a length of the heap

  abbrev free : RunResult
  free = run script Unlimited budget shape

  uncut-by : is_cut_outcome free.outcome ≡ false → (why : Why) → free.outcome ≢ Cut why
  uncut-by uncut why cut = let is : is_cut_outcome free.outcome ≡ true = ap is_cut_outcome cut in cc

  sized : (uncut : is_cut_outcome free.outcome ≡ false) →
      IsSized script budget shape (size_text (required script budget shape) (rises script budget shape))
      (size_values (required script budget shape) (rises script budget shape))
  sized uncut = record {
    required = required script budget shape;
    rises = rises script budget shape;
    uncut = uncut-by uncut;
    needed = heap-length script budget shape (uncut-by uncut Ceiling);
    rises_are = refl;
    text_is = refl;
    values_are = refl;
  }

  size-report : AnyOf (IsSizeReport script budget shape)
  size-report = elim (cut-or-not free.outcome) [
    | inl cuts ↦ (
      cut_at_line (Number 0) cuts.0,
      cut_values (Number 0),
      3,
      inr (record { why = cuts.0; cut = cuts.1; text_is = refl; values_are = refl }, refl),
    )
    | inr uncut ↦ (
      size_text (required script budget shape) (rises script budget shape),
      size_values (required script budget shape) (rises script budget shape),
      0,
      inl (sized uncut, refl),
    )
  ]

  -- ---- all lengths

  fine-status : AnyCutOrNone script budget shape → (status : ℕ) × IsFineStatus script budget shape status
  fine-status (inl cuts) = (3, inl (refl, cuts))
  fine-status (inr none) = (0, inr (refl, none))

  with-table : (table : List LengthRange) → IsLengthTable script budget shape table → HasLeastBadLength script budget shape →
      AnyOf (IsLengthsReport script budget shape)
  with-table table right (inl (length, result, least)) = (
    table_lines table ++ bad_length_text length result,
    lengths_values table (Length length),
    1,
    inl (
      record { table = table; right = right; length = length; result = result; least = least; text_is = refl; values_are = refl },
      refl,
    ),
  )
  with-table table right (inr none) =
      let status = fine-status (cut-length script budget shape) in (
        table_lines table ++ found_length_text None,
        lengths_values table Never,
        status.0,
        inr (record { table = table; right = right; none = none; text_is = refl; values_are = refl; status_is = status.1 }),
      )

  lengths-report : AnyOf (IsLengthsReport script budget shape)
  lengths-report = let table = length-table script budget shape in with-table table.0 table.1 (bad-length script budget shape)

  -- ---- tasks

  check-report : (search : Search) → AnyOf (IsCheckReport search script budget shape)
  check-report search = elim (cut-or-not free.outcome) [
    | inl cuts ↦ (
      cut_at_line (Number 0) cuts.0,
      cut_values (Number 0),
      3,
      inr (record { why = cuts.0; cut = cuts.1; text_is = refl; values_are = refl }, refl),
    )
    | inr uncut ↦ searched uncut (search-report script budget shape search whole)
  ]
    where
      searched : is_cut_outcome free.outcome ≡ false → AnyOf (IsSearchReport search whole script budget shape) →
          AnyOf (IsCheckReport search script budget shape)
      searched uncut (second, sweep, status, is) =
          let first = size_text (required script budget shape) (rises script budget shape) in
          let size = size_values (required script budget shape) (rises script budget shape) in (
            first ++ second,
            both_values size sweep,
            status,
            inl (record {
              first = first;
              second = second;
              size = size;
              sweep = sweep;
              sized = sized uncut;
              searched = is;
              text_is = refl;
              values_are = refl;
            }),
          )

  task-report : (task : Task) → AnyOf (IsTaskReport task script budget shape)
  task-report (T.Run rule) =
      let told = run script rule budget shape in
      (run_text told, run_values told, run_status told, record { text_is = refl; values_are = refl; status_is = refl })
  task-report T.Size = size-report
  task-report T.Lengths = lengths-report
  task-report (T.Sweep search part) = search-report script budget shape search part
  task-report (T.Check search) = check-report search

-- ---- commands

pub script-reported : (command : Command) (bytes : List ℕ) (script : Script) → IsScriptOf bytes script → AnyReport command bytes
script-reported command bytes script spelled =
    let (text, values, status, is) = task-report script command.budget command.shape command.task in
    (text, values, status, inl (record { script = script; spelled = spelled; task_report = is }))

none-of-memory : (bytes : List ℕ) (fault : ScriptFault) → IsFaultOf bytes fault → fault ≢ NoMemory
none-of-memory bytes fault found same = let none : ⊥ = subst (IsFaultOf bytes) same found in none

pub fault-reported : (command : Command) (bytes : List ℕ) (fault : ScriptFault) → IsFaultOf bytes fault → AnyReport command bytes
fault-reported command bytes fault found = (
  fault_line fault,
  no_values,
  2,
  inr (record {
    fault = fault;
    is_none_of_memory = none-of-memory bytes fault found;
    found = found;
    text_is = refl;
    values_are = refl;
    status_is = refl;
  }),
)
