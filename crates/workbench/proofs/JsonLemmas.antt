-- A JSON report has no fractions, and its lines are found one after another.
use Rattle.std.proofs.Common.{◌≡◌, ℕ, Bool, true, false, refl, sym, ap, ◌∙◌, List, [], ◌∷◌, Option, Some, None, map}
use Rattle.std.specs.Prelude.{◌==◌}
use Rattle.serde_json.specs.Data.{Data}
use Rattle.serde_json.specs.View.{items_of}
use Rattle.serde_json.specs.Written.{has_float, items_have_float}
use Rattle.wb_command_line.specs.declared.command.Search.TheVariants as S
use Rattle.wb_command_line.specs.declared.command.Task.{Task}
use Rattle.wb_command_line.specs.declared.command.Task.TheVariants as T
use Rattle.wb_runs.specs.declared.failures.Failing.TheVariants.{Number, Pair}
use Rattle.wb_runs.specs.declared.failures.Failing.TheVariants as failings
use Rattle.wb_runs.specs.declared.failures.Failures.{Failures}
use Rattle.wb_runs.specs.declared.failures.Failures.TheVariants.{Single, Every, Pairs, Persistent}
use Rattle.wb_runs.specs.declared.lengths.LengthRange.{LengthRange}
use Rattle.wb_runs.specs.declared.number_ends.NumberEnd.{NumberEnd}
use Rattle.wb_heap_model.specs.declared.size.Rise.{Rise}
use Rattle.wb_language.specs.Lines.{ends_line, lines_of, onto_first, pieces_from, quoted_after}
use Rattle.workbench.specs.declared.report_values.FailingNumber.{FailingNumber}
use Rattle.workbench.specs.declared.report_values.FailingNumber.TheVariants.{At, Length, Never}
use Rattle.workbench.specs.declared.report_values.ReportValues.{ReportValues}
use Rattle.workbench.specs.JsonReport.{count, count_or_null, failing_number, failures_kind, line_string, line_strings, common_members, range_pair, range_pairs, report_object, rise_pair, rise_pairs, told_pair, told_pairs}

-- ---- no fractions

each_has_none : {A : Type 0} (told : A → Data) → ((a : A) → has_float (told a) ≡ false) → (all : List A) → items_have_float (items_of (map told all)) ≡ false
each_has_none told none [] = refl
each_has_none told none (a ∷ all) = rw (none a) (each_has_none told none all)

count_has_none : (n : Option ℕ) → has_float (count_or_null n) ≡ false
count_has_none None = refl
count_has_none (Some n) = refl

failures_have_none : (failures : Failures) → has_float (failures_kind failures) ≡ false
failures_have_none Single = refl
failures_have_none Every = refl
failures_have_none Pairs = refl
failures_have_none Persistent = refl

number_has_none : (number : Option FailingNumber) → has_float (failing_number number) ≡ false
number_has_none None = refl
number_has_none (Some Never) = refl
number_has_none (Some (At (Number n))) = refl
number_has_none (Some (At (failings.Every n))) = refl
number_has_none (Some (At (failings.From n))) = refl
number_has_none (Some (At (Pair i j))) = refl
number_has_none (Some (At (failings.Set numbers))) = each_has_none count (λ n. refl) numbers
number_has_none (Some (Length length)) = refl

lines_have_none : (text : List ℕ) → has_float (line_strings text) ≡ false
lines_have_none text = each_has_none line_string (λ line. refl) (lines_of text)

rises_have_none : (rises : Option (List Rise)) → has_float (rise_pairs rises) ≡ false
rises_have_none None = refl
rises_have_none (Some rises) = each_has_none rise_pair (λ rise. refl) rises

ranges_have_none : (ranges : Option (List LengthRange)) → has_float (range_pairs ranges) ≡ false
ranges_have_none None = refl
ranges_have_none (Some table) = each_has_none range_pair (λ range. refl) table

told_have_none : (ends : Option (List NumberEnd)) → has_float (told_pairs ends) ≡ false
told_have_none None = refl
told_have_none (Some ends) = each_has_none told_pair (λ told. refl) ends

pub report_has_none : (task : Task) (text : List ℕ) (values : ReportValues) (status : ℕ)
    → has_float (report_object task text values status) ≡ false
unfolding report_object common_members
report_has_none T.Lengths text values status =
    rw (
      count_has_none values.attempts,
      lines_have_none text,
      number_has_none values.number,
      ranges_have_none values.ranges,
      count_has_none values.required,
      rises_have_none values.rises,
    ) refl
report_has_none (T.Run rule) text values status =
    rw (count_has_none values.attempts, lines_have_none text, number_has_none values.number, count_has_none values.required, rises_have_none values.rises) refl
report_has_none T.Size text values status =
    rw (count_has_none values.attempts, lines_have_none text, number_has_none values.number, count_has_none values.required, rises_have_none values.rises) refl
report_has_none (T.Sweep (S.Least failures) part) text values status =
    rw (
      count_has_none values.attempts,
      failures_have_none failures,
      lines_have_none text,
      number_has_none values.number,
      count_has_none values.required,
      rises_have_none values.rises,
    ) refl
report_has_none (T.Sweep (S.All failures) part) text values status =
    rw (
      told_have_none values.all,
      count_has_none values.attempts,
      failures_have_none failures,
      lines_have_none text,
      number_has_none values.number,
      count_has_none values.required,
      rises_have_none values.rises,
    ) refl
report_has_none (T.Sweep (S.Ends failures) part) text values status =
    rw (
      told_have_none values.all,
      count_has_none values.attempts,
      failures_have_none failures,
      lines_have_none text,
      number_has_none values.number,
      count_has_none values.required,
      rises_have_none values.rises,
    ) refl
report_has_none (T.Sweep (S.Sets most) part) text values status =
    rw (
      count_has_none values.attempts,
      lines_have_none text,
      number_has_none values.number,
      count_has_none values.required,
      rises_have_none values.rises,
    ) refl
report_has_none (T.Sweep (S.EverySet states) part) text values status =
    rw (
      count_has_none values.attempts,
      lines_have_none text,
      number_has_none values.number,
      count_has_none values.required,
      rises_have_none values.rises,
    ) refl
report_has_none (T.Check (S.Least failures)) text values status =
    rw (
      count_has_none values.attempts,
      failures_have_none failures,
      lines_have_none text,
      number_has_none values.number,
      count_has_none values.required,
      rises_have_none values.rises,
    ) refl
report_has_none (T.Check (S.All failures)) text values status =
    rw (
      told_have_none values.all,
      count_has_none values.attempts,
      failures_have_none failures,
      lines_have_none text,
      number_has_none values.number,
      count_has_none values.required,
      rises_have_none values.rises,
    ) refl
report_has_none (T.Check (S.Ends failures)) text values status =
    rw (
      told_have_none values.all,
      count_has_none values.attempts,
      failures_have_none failures,
      lines_have_none text,
      number_has_none values.number,
      count_has_none values.required,
      rises_have_none values.rises,
    ) refl
report_has_none (T.Check (S.Sets most)) text values status =
    rw (
      count_has_none values.attempts,
      lines_have_none text,
      number_has_none values.number,
      count_has_none values.required,
      rises_have_none values.rises,
    ) refl
report_has_none (T.Check (S.EverySet states)) text values status =
    rw (
      count_has_none values.attempts,
      lines_have_none text,
      number_has_none values.number,
      count_has_none values.required,
      rises_have_none values.rises,
    ) refl

-- ---- lines

-- a line feed ends a line whether quotes are open or not
pub unquoted : (quoted : Bool) (bytes : List ℕ) → pieces_from ends_line quoted bytes ≡ lines_of bytes
unquoted quoted [] = refl
unquoted quoted (byte ∷ bytes) = go (byte == 10) refl (unquoted (quoted_after quoted byte) bytes ∙ sym (unquoted (quoted_after false byte) bytes))
  where
    go : (b : Bool) → (byte == 10) ≡ b → pieces_from ends_line (quoted_after quoted byte) bytes ≡ pieces_from ends_line (quoted_after false byte) bytes
        → pieces_from ends_line quoted (byte ∷ bytes) ≡ lines_of (byte ∷ bytes)
    go true is same = rw (is, pieces_from) refl
    go false isnt same = rw (isnt, pieces_from) (ap (onto_first byte) same)
