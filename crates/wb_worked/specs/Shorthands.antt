-- What the theorems of worked cases have in common. Written by tools/cases_to_theorems.py; edit nothing here.
use Rattle.std.specs.Prelude.{ℕ, List, length, Option, true, false}
use Rattle.std.specs.Fmt.{digits}
use Rattle.wb_heap_model.specs.declared.heap.Shape.{Shape}
use Rattle.wb_heap_model.specs.declared.heap.Answer.{Answer}
use Rattle.wb_heap_model.specs.declared.heap.Attempt.{Attempt}
use Rattle.wb_runs.specs.declared.number_ends.NumberEnd.{NumberEnd}
use Rattle.wb_runs.specs.declared.part.Part.{Part}
use Rattle.wb_runs.specs.declared.run_end.RunEnd.{RunEnd}
use Rattle.wb_heap_model.specs.declared.reported.Leak.{Leak}
use Rattle.wb_heap_model.specs.declared.reported.Note.{Note}
use Rattle.wb_meaning.specs.declared.run.Outcome.{Outcome}
use Rattle.wb_meaning.specs.declared.run.RunResult.{RunResult}
use Rattle.wb_tree.specs.declared.script.Script.{Script}
use Rattle.wb_tree.specs.declared.script.Body.{Body}
use Rattle.wb_tree.specs.declared.script.Class.{Class}
use Rattle.wb_tree.specs.declared.script.Operation.{Operation}
use Rattle.wb_tree.specs.declared.script.Procedure.{Procedure}
use Rattle.wb_tree.specs.declared.script.Local.{Local}
use Rattle.wb_tree.specs.declared.script.Parameter.{Parameter}
use Rattle.wb_heap_model.specs.declared.size.Rise.{Rise}
use Rattle.wb_tree.specs.declared.script.Statement.{Statement}
use Rattle.wb_tree.specs.declared.script.StatementAt.{StatementAt}
use Rattle.wb_tree.specs.declared.script.Statement.TheOpen.{Statement-F}
use Rattle.wb_tree.specs.declared.script.Statement.TheViews.{out-Statement, roll-Statement}
use Rattle.wb_meaning.specs.Run.{run}

-- what a run computes through
unfoldable pub everything : Unit {0}
unfolding out-Statement
    denote.Hole.Carrier.out
    roll-Statement
    denote.Hole.Carrier.roll
    denote.Hole.Carrier.shown
    denote.Hole.Carrier.hidden
    Rattle.wb_tree.specs.declared.script.Statement.TheBlock.shown-the_row-StatementAt-0
    digits
    Rattle.wb_meaning.specs.Attempts.attempt
    Rattle.wb_meaning.specs.Attempts.allocate
    Rattle.wb_meaning.specs.Attempts.reallocate_longer
    Rattle.wb_meaning.specs.Attempts.reallocate
    Rattle.wb_meaning.specs.Attempts.after_growth
    Rattle.wb_meaning.specs.Attempts.grow_if
    Rattle.wb_meaning.specs.Attempts.push
    Rattle.wb_meaning.specs.Meaning.begun_if
    Rattle.wb_meaning.specs.Meaning.begun
    Rattle.wb_meaning.specs.Meaning.piece
    Rattle.wb_meaning.specs.Meaning.meaning_within
    Rattle.wb_meaning.specs.Meaning.meaning_of
    Rattle.wb_meaning.specs.Operands.with_cell
    Rattle.wb_meaning.specs.Operands.with_fields
    Rattle.wb_meaning.specs.Operands.with_pointer
    Rattle.wb_meaning.specs.Reading.with_writable
    Rattle.wb_meaning.specs.Reading.with_readable
    Rattle.wb_meaning.specs.Reading.with_text_cell
    Rattle.wb_meaning.specs.Reading.with_base
    Rattle.wb_meaning.specs.Reading.with_units
    Rattle.wb_meaning.specs.Reading.with_room
    Rattle.wb_meaning.specs.Reading.write
    Rattle.wb_meaning.specs.Reading.write_view
    Rattle.wb_meaning.specs.Run.main_trapped
    Rattle.wb_meaning.specs.Run.in_main
    Rattle.wb_meaning.specs.Run.started
    Rattle.wb_meaning.specs.Run.process
    Rattle.wb_meaning.specs.State.and_then
    Rattle.wb_meaning.specs.State.on_plain_end
    Rattle.wb_meaning.specs.State.then_do
    Rattle.wb_meaning.specs.State.require
    Rattle.wb_meaning.specs.State.with_some
    Rattle.wb_meaning.specs.State.unless
    Rattle.wb_meaning.specs.Statements.given_to
    Rattle.wb_meaning.specs.Statements.alloc_raw
    Rattle.wb_meaning.specs.Statements.released
    Rattle.wb_meaning.specs.Statements.release
    Rattle.wb_meaning.specs.Statements.realloc_raw
    Rattle.wb_meaning.specs.Statements.realloc_of
    Rattle.wb_meaning.specs.Statements.with_words
    Rattle.wb_meaning.specs.Statements.in_frame
    Rattle.wb_meaning.specs.Statements.plain
    Rattle.wb_meaning.specs.Statements.with_arguments
    Rattle.wb_meaning.specs.Statements.with_class
    Rattle.wb_meaning.specs.Statements.destroyed_object
    Rattle.wb_meaning.specs.Statements.destroyed_item
    Rattle.wb_meaning.specs.Statements.trapped
    Rattle.wb_meaning.specs.Statements.with_condition
    Rattle.wb_meaning.specs.Statements.leave_if
    Rattle.wb_meaning.specs.Statements.new_object
    Rattle.wb_meaning.specs.Statements.realloc_text
    Rattle.wb_meaning.specs.Statements.statement
everything = tt

abbrev pub on : ℕ → Statement-F Statement StatementAt → StatementAt
on line layer = record { line = line; statement = roll-Statement layer }

abbrev pub script : List Class → List Procedure → List Operation → List (List ℕ) → ℕ → Script
script classes procedures operations literals main =
    record { classes = classes; procedures = procedures; operations = operations; literals = literals; main = main }

abbrev pub class_of : ℕ → ℕ → List (Option ℕ) → Option Body → Option Body → Class
class_of line extra fields construct destroy = record { line = line; extra = extra; fields = fields; construct = construct; destroy = destroy }

abbrev pub procedure : ℕ → List Parameter → Body → Procedure
procedure line parameters body = record { line = line; parameters = parameters; body = body }

abbrev pub operation : ℕ → Body → Operation
operation line body = record { line = line; body = body }

abbrev pub body : List Local → List StatementAt → Body
body locals statements = record { locals = locals; statements = statements }

abbrev pub result : Outcome → List Attempt → List (List ℕ) → List Note → ℕ → RunResult
result outcome trace lines notes steps = record { outcome = outcome; trace = trace; lines = lines; notes = notes; steps = steps }

abbrev pub leak : ℕ → ℕ → ℕ → Leak
leak number length place = record { number = number; length = length; place = place }

abbrev pub shaped : ℕ → ℕ → Shape
shaped min step = record { min = min; step = step; moving = false }

abbrev pub shaped_moving : ℕ → ℕ → Shape
shaped_moving min step = record { min = min; step = step; moving = true }

abbrev pub line : ℕ → ℕ → ℕ → Answer → Attempt
line number length place answer = record { number = number; length = length; place = place; answer = answer }

abbrev pub rise : ℕ → ℕ → Rise
rise number top = record { number = number; top = top }

abbrev pub ending : ℕ → RunEnd → NumberEnd
ending number end = record { number = number; end = end }

abbrev pub part : ℕ → ℕ → Part
part from to = record { from = from; to = to }
