-- From what a sweep tells to the report of it.
use Rattle.std.proofs.Common.{◌≡◌, ◌∙◌, ◌++◌, ℕ, List, Option, Some, None, Result, Ok, Err, inl, inr, refl, ap}
use Rattle.std.specs.Prelude.{IfOk}
use Rattle.wb_runs.specs.declared.failures.Failing.{Failing}
use Rattle.wb_runs.specs.declared.failures.Failures.{Failures}
use Rattle.wb_heap_model.specs.declared.heap.Shape.{Shape}
use Rattle.wb_basics.specs.declared.memory.NoMemory.{NoMemory}
use Rattle.wb_runs.specs.declared.part.Part.{Part}
use Rattle.wb_meaning.specs.declared.run.Why.{Why}
use Rattle.wb_tree.specs.declared.script.Script.{Script}
use Rattle.wb_runs.specs.AllNumbers.{bad_count}
use Rattle.wb_runs.specs.Parts.{IsCutWithout}
use Rattle.wb_sweep.specs.declared.found.AllNumbers.{AllNumbers}
use Rattle.wb_sweep.specs.declared.found.Found.{Found}
use Rattle.wb_sweep.specs.declared.found.Listing.{Listing}
use Rattle.wb_sweep.specs.AllOfAPart.{AreAllNumbers}
use Rattle.workbench.specs.declared.report.Report.{Report}
use Rattle.workbench.specs.declared.report_values.FailingNumber.TheVariants.{At, Never}
use Rattle.workbench.specs.declared.report_values.ReportValues.{ReportValues}
use Rattle.workbench.specs.AllReport.{IsListReport, IsUntold, all_lines, all_text, fine_status, told_of, told_status, told_text, told_values}
use Rattle.workbench.specs.ReportValues.{all_values, cut_values}
use Rattle.workbench.specs.RunText.{run_text}
use Rattle.workbench.specs.TwoNumbers.{attempts_of, cut_at_line}

module _ (listing : Listing) (failures : Failures) (part : Part) (script : Script) (budget : ℕ) (shape : Shape) where
  -- what the sweep tells is what the report says
  pub told_is : (all : AllNumbers) (text : List ℕ) (values : ReportValues) (status : ℕ) → AreAllNumbers listing failures part script budget shape all
      → text ≡ told_text failures all → values ≡ told_values all → status ≡ told_status all → IsListReport listing failures part script budget shape text values status
  told_is all text values status are text_is values_are status_is = go all.found refl
    where
      bad : all.bad ≡ bad_count (told_of listing failures part script budget shape)
      bad = are.bad ∙ ap bad_count are.ends

      lines : all_lines failures all.attempts all.ends all.bad ≡ all_text failures (attempts_of failures script budget shape) (told_of listing failures part script budget shape)
      lines = λ i. all_lines failures (are.attempts i) (are.ends i) (bad i)

      go : (found : Option Found) → all.found ≡ found → IsListReport listing failures part script budget shape text values status
      go None is = inr (inl (record {
        uncut = are.uncut;
        later = are.later;
        none = are.none is;
        text_is = (rw is at text_is) ∙ lines;
        values_are = (rw is at values_are) ∙ (λ i. all_values (are.attempts i) (are.ends i) Never);
        status_is = (rw is at status_is) ∙ ap fine_status are.ends;
      }))
      go (Some least) is =
          let found = rw is at are.found in
          inl (
            record {
              uncut = are.uncut;
              later = are.later;
              number = found.0;
              result = least.result;
              least = found.2;
              text_is = (rw is at text_is) ∙ ap (λ l. l ++ run_text least.result) lines;
              values_are = (rw is at values_are) ∙ (λ i. all_values (are.attempts i) (are.ends i) (At (found.1 i)));
            },
            rw is at status_is,
          )

  pub if_told : (made : Result Report NoMemory) (all : AllNumbers) → AreAllNumbers listing failures part script budget shape all
      → IfOk made (λ r. r.text.items ≡ told_text failures all) → IfOk made (λ r. r.values ≡ told_values all) → IfOk made (λ r. r.status ≡ told_status all)
      → IfOk made (λ r. IsListReport listing failures part script budget shape r.text.items r.values r.status)
  if_told (Ok r) all are text_is values_are status_is = told_is all r.text.items r.values r.status are text_is values_are status_is
  if_told (Err fault) all are text_is values_are status_is = tt

  -- the run without failure is cut
  untold_is : (at : Failing) (why : Why) (text : List ℕ) (values : ReportValues) → IsCutWithout failures script budget shape at why
      → text ≡ cut_at_line at why → values ≡ cut_values at → IsUntold failures script budget shape text values
  untold_is at why text values cut text_is values_are = record {
    why = why;
    cut = cut.cut;
    text_is = text_is ∙ ap (λ f. cut_at_line f why) cut.failing;
    values_are = values_are ∙ ap cut_values cut.failing;
  }

  pub if_untold : (made : Result Report NoMemory) (at : Failing) (why : Why) → IsCutWithout failures script budget shape at why
      → IfOk made (λ r. r.text.items ≡ cut_at_line at why) → IfOk made (λ r. r.values ≡ cut_values at) → IfOk made (λ r. r.status ≡ 3)
      → IfOk made (λ r. IsListReport listing failures part script budget shape r.text.items r.values r.status)
  if_untold (Ok r) at why cut text_is values_are status_is = inr (inr (untold_is at why r.text.items r.values cut text_is values_are, status_is))
  if_untold (Err fault) at why cut text_is values_are status_is = tt
