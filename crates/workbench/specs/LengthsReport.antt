-- What `lengths` says, as lines and as values, and what that means of runs in heaps of every length.
use Rattle.std.specs.Prelude.{◌≡◌, ◌⊎◌, ℕ, List, ◌++◌, codes, Option, Some, None}
use Rattle.std.specs.Fmt.{decimal}
use Rattle.std.specs.List.{flat_map}
use Rattle.wb_heap_model.specs.declared.heap.Shape.{Shape}
use Rattle.wb_runs.specs.declared.lengths.LengthRange.{LengthRange}
use Rattle.wb_meaning.specs.declared.run.RunResult.{RunResult}
use Rattle.wb_tree.specs.declared.script.Script.{Script}
use Rattle.wb_runs.specs.Lengths.{IsLeastBadLength, IsLengthTable, IsNoBadLength}
use Rattle.wb_lengths.specs.declared.all_lengths.BadLength.{BadLength}
use Rattle.wb_lengths.specs.Lengths.{IsCutNowhere, IsCutSomewhere}
use Rattle.workbench.specs.declared.report_values.FailingNumber.TheVariants.{Length, Never}
use Rattle.workbench.specs.declared.report_values.ReportValues.{ReportValues}
use Rattle.workbench.specs.ReportValues.{lengths_values}
use Rattle.workbench.specs.EndWords.{end_words}
use Rattle.workbench.specs.RunText.{line, run_text}

-- ---- the lines

-- in heaps of lengths from one on, up to the next line's, the run ends so
unfoldable pub range_line : LengthRange → List ℕ
range_line range = line (codes "from " ++ decimal range.from ++ codes " " ++ end_words range.end)

abbrev pub table_lines : List LengthRange → List ℕ
table_lines table = flat_map range_line table

abbrev pub bad_length_text : ℕ → RunResult → List ℕ
bad_length_text length result = line (codes "length " ++ decimal length) ++ run_text result

-- the length that was found and its run, or that there is none
abbrev pub found_length_text : Option BadLength → List ℕ
found_length_text None = line (codes "length none")
found_length_text (Some bad) = bad_length_text bad.length bad.result

-- ---- what they mean

-- A length is printed after the right table: the least, of all up to the ceiling, whose run leaks or panics, and the run there.
pub record IsBadLengthFound (script : Script) (budget : ℕ) (shape : Shape) (text : List ℕ) (values : ReportValues) : Type 0 where
  pub table : List LengthRange
  pub right : IsLengthTable script budget shape table
  pub length : ℕ
  pub result : RunResult
  pub least : IsLeastBadLength script budget shape length result
  pub text_is : text ≡ table_lines table ++ bad_length_text length result
  pub values_are : values ≡ lengths_values table (Length length)

-- the status where no length's run leaks or panics: 3 where one's is cut
abbrev pub IsFineStatus : Script → ℕ → Shape → ℕ → Type 0
IsFineStatus script budget shape status =
    ((status ≡ 3) × IsCutSomewhere script budget shape) ⊎ ((status ≡ 0) × IsCutNowhere script budget shape)

-- `none` is printed after the right table: no length's run leaks or panics
pub record IsNoBadLengthFound (script : Script) (budget : ℕ) (shape : Shape)
    (text : List ℕ) (values : ReportValues) (status : ℕ) : Type 0 where
  pub table : List LengthRange
  pub right : IsLengthTable script budget shape table
  pub none : IsNoBadLength script budget shape
  pub text_is : text ≡ table_lines table ++ found_length_text None
  pub values_are : values ≡ lengths_values table Never
  pub status_is : IsFineStatus script budget shape status

-- the report of `lengths`
abbrev pub IsLengthsReport : Script → ℕ → Shape → List ℕ → ReportValues → ℕ → Type 0
IsLengthsReport script budget shape text values status =
    (IsBadLengthFound script budget shape text values × (status ≡ 1)) ⊎ IsNoBadLengthFound script budget shape text values status
