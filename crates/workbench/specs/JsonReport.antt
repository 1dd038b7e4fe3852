-- The report as one JSON object: its lines and its values, and which failures were tried, under
-- the keys that version 2 of this form has, or version 3 of the reports of all lengths, of all that a sweep finds and of sets, and of
-- sweeps in which all attempts fail from one on.
use Rattle.std.specs.Prelude.{ℕ, List, Option, Some, None, codes, if◌then◌else◌, map}
use Rattle.serde_json.specs.Data.{Data, Members, null, number, string, array, object, item, no_items, member, no_members, put, unsigned}
use Rattle.serde_json.specs.View.{items_of}
use Rattle.serde_json.specs.Written.{compact_text}
use Rattle.wb_command_line.specs.declared.command.Command.{Command}
use Rattle.wb_command_line.specs.declared.command.Search.{Search}
use Rattle.wb_command_line.specs.declared.command.Search.TheVariants.{Least, All, Ends, Sets, EverySet}
use Rattle.wb_command_line.specs.declared.command.Task.{Task}
use Rattle.wb_command_line.specs.declared.command.Task.TheVariants as T
use Rattle.wb_runs.specs.declared.failures.Failing.{Failing}
use Rattle.wb_runs.specs.declared.failures.Failing.TheVariants.{Number, Pair}
use Rattle.wb_runs.specs.declared.failures.Failing.TheVariants as failings
use Rattle.wb_runs.specs.declared.failures.Failures.{Failures}
use Rattle.wb_runs.specs.declared.failures.Failures.TheVariants.{Single, Every, Pairs, Persistent}
use Rattle.wb_runs.specs.declared.lengths.LengthRange.{LengthRange}
use Rattle.wb_runs.specs.declared.number_ends.NumberEnd.{NumberEnd}
use Rattle.wb_runs.specs.declared.run_end.RunEnd.{RunEnd}
use Rattle.wb_heap_model.specs.declared.size.Rise.{Rise}
use Rattle.wb_language.specs.Lines.{lines_of}
use Rattle.workbench.specs.declared.report_values.FailingNumber.{FailingNumber}
use Rattle.workbench.specs.declared.report_values.FailingNumber.TheVariants.{At, Length, Never}
use Rattle.workbench.specs.declared.report_values.ReportValues.{ReportValues}
use Rattle.workbench.specs.Brief.{shown_text}
use Rattle.workbench.specs.EndWords.{end_words}
use Rattle.workbench.specs.RunText.{line}

abbrev pub count : ℕ → Data
count n = number (unsigned n)

abbrev pub count_or_null : Option ℕ → Data
count_or_null None = null
count_or_null (Some n) = count n

-- two numbers as a list
abbrev pub count_pair : ℕ → ℕ → Data
count_pair first second = array (item (count first) (item (count second) no_items))

-- whether numbers of attempts, rates or pairs are tried, or numbers from which on all attempts fail
abbrev pub failures_kind : Failures → Data
failures_kind Single = string (codes "single")
failures_kind Every = string (codes "every")
failures_kind Pairs = string (codes "pairs")
failures_kind Persistent = string (codes "persistent")

-- which failures a search tries, or that it tries sets
abbrev pub search_kind : Search → Data
search_kind (Least failures) = failures_kind failures
search_kind (All failures) = failures_kind failures
search_kind (Ends failures) = failures_kind failures
search_kind (Sets most) = string (codes "sets")
search_kind (EverySet states) = string (codes "sets")

-- so does a task, or it tries all lengths, whatever its report says; `null` where it tries none
abbrev pub kind_of : Task → Data
kind_of (T.Run rule) = null
kind_of T.Size = null
kind_of T.Lengths = string (codes "lengths")
kind_of (T.Sweep search part) = search_kind search
kind_of (T.Check search) = search_kind search

abbrev pub line_string : List ℕ → Data
line_string text = string text

-- the lines of the text report, without their line feeds
abbrev pub line_strings : List ℕ → Data
line_strings text = array (items_of (map line_string (lines_of text)))

-- the number of an attempt, alone or as the first of all that fail, a rate, or the numbers of those that fail
abbrev pub failing_value : Failing → Data
failing_value (Number n) = count n
failing_value (failings.Every n) = count n
failing_value (failings.From n) = count n
failing_value (Pair i j) = count_pair i j
failing_value (failings.Set numbers) = array (items_of (map count numbers))

abbrev pub failing_number : Option FailingNumber → Data
failing_number None = null
failing_number (Some Never) = string (codes "none")
failing_number (Some (At failing)) = failing_value failing
failing_number (Some (Length length)) = count length

-- `[number, top]`
abbrev pub rise_pair : Rise → Data
rise_pair rise = count_pair rise.number rise.top

abbrev pub rise_pairs : Option (List Rise) → Data
rise_pairs None = null
rise_pairs (Some rises) = array (items_of (map rise_pair rises))

-- a number, and how a run ends
abbrev pub words_pair : ℕ → RunEnd → Data
words_pair n end = array (item (count n) (item (line_string (end_words end)) no_items))

-- `[from, words]`
abbrev pub range_pair : LengthRange → Data
range_pair range = words_pair range.from range.end

abbrev pub range_pairs : Option (List LengthRange) → Data
range_pairs None = null
range_pairs (Some table) = array (items_of (map range_pair table))

-- the report of all lengths alone has them; `put` keeps the keys in the order of their letters, so that they come before `required`
abbrev pub with_ranges : Task → Option (List LengthRange) → Members → Members
with_ranges T.Lengths ranges members = put (codes "ranges") (range_pairs ranges) members
with_ranges _ ranges members = members

-- `[number, words]`
abbrev pub told_pair : NumberEnd → Data
told_pair told = words_pair told.number told.end

abbrev pub told_pairs : Option (List NumberEnd) → Data
told_pairs None = null
told_pairs (Some ends) = array (items_of (map told_pair ends))

-- what a task searches for among failures
abbrev pub searched : Task → Option Search
searched (T.Sweep search part) = Some search
searched (T.Check search) = Some search
searched _ = None

-- the reports of lists alone have them; by its letters their key comes first
abbrev pub with_list : Option Search → Option (List NumberEnd) → Members → Members
with_list (Some (All failures)) ends members = put (codes "all") (told_pairs ends) members
with_list (Some (Ends failures)) ends members = put (codes "all") (told_pairs ends) members
with_list _ ends members = members

abbrev pub with_all : Task → Option (List NumberEnd) → Members → Members
with_all task ends members = with_list (searched task) ends members

-- the reports of sets alone have it: how many attempts fail together at most, `null` where there is no such number; by its letters their
-- key comes after `lines`
abbrev pub with_greatest : Option Search → Members → Members
with_greatest (Some (Sets most)) members = put (codes "most") (count most) members
with_greatest (Some (EverySet states)) members = put (codes "most") null members
with_greatest _ members = members

abbrev pub with_most : Task → Members → Members
with_most task members = with_greatest (searched task) members

-- that of a sweep over such failures which tells of the least alone; version 2 has no kind `persistent`
abbrev pub failures_version : Failures → ℕ
failures_version Single = 2
failures_version Every = 2
failures_version Pairs = 2
failures_version Persistent = 3

abbrev pub search_version : Search → ℕ
search_version (Least failures) = failures_version failures
search_version _ = 3

abbrev pub version_of : Task → ℕ
version_of T.Lengths = 3
version_of (T.Sweep search part) = search_version search
version_of (T.Check search) = search_version search
version_of _ = 2

-- what each object has, by the task, the text report, its values and its status
unfoldable pub common_members : Task → List ℕ → ReportValues → ℕ → Members
common_members task text values status =
    member (codes "attempts") (count_or_null values.attempts) (
    member (codes "kind") (kind_of task) (
    member (codes "lines") (line_strings text) (
    member (codes "number") (failing_number values.number) (
    member (codes "required") (count_or_null values.required) (
    member (codes "rises") (rise_pairs values.rises) (
    member (codes "status") (count status) (
    member (codes "version") (count (version_of task)) no_members)))))))

-- the object
unfoldable pub report_object : Task → List ℕ → ReportValues → ℕ → Data
report_object task text values status =
    object (with_most task (with_all task values.all (with_ranges task values.ranges (common_members task text values status))))

-- the object as `serde_json` writes it, without blanks, and a line feed
abbrev pub json_text : Task → List ℕ → ReportValues → ℕ → List ℕ
json_text task text values status = line (compact_text (report_object task text values status))

-- a report as a command wants it: the lines that it shows, or JSON
abbrev pub laid_out : Command → List ℕ → ReportValues → ℕ → List ℕ
laid_out command text values status =
    let shown = shown_text command text in
    if command.json then json_text command.task shown values status else shown
