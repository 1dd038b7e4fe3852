-- A whole run, which runs are bad, and what heap length a run needs.
use Rattle.std.specs.Prelude.{◌≡◌, ◌<◌, ◌⊎◌, ℤ, ℕ, List, [], ◌∷◌, Bool, true, false, nat_eq, nat_lt, if◌then◌else◌, Option, Some, None, map, length}
use Rattle.wb_heap_model.specs.declared.heap.TheConstants.Panic.{ITEMS_LEFT}
use Rattle.wb_heap_model.specs.declared.heap.Ptr.{Ptr}
use Rattle.wb_heap_model.specs.declared.heap.Rule.{Rule}
use Rattle.wb_heap_model.specs.declared.heap.Rule.TheVariants.{Unlimited}
use Rattle.wb_heap_model.specs.declared.heap.Shape.{Shape}
use Rattle.wb_heap_model.specs.declared.heap.Kind.TheVariants.{Cleanup}
use Rattle.wb_heap_model.specs.declared.reported.Leak.{Leak}
use Rattle.wb_meaning.specs.declared.run.Outcome.{Outcome}
use Rattle.wb_meaning.specs.declared.run.Outcome.TheVariants.{Ended, Panicked, NoCleanup, Cut}
use Rattle.wb_meaning.specs.declared.run.RisesResult.{RisesResult}
use Rattle.wb_meaning.specs.declared.run.RunResult.{RunResult}
use Rattle.wb_meaning.specs.declared.run.Why.TheVariants.{Ceiling}
use Rattle.wb_tree.specs.declared.script.Script.{Script}
use Rattle.wb_heap_model.specs.declared.size.Rise.{Rise}
use Rattle.wb_heap_model.specs.Row.{headers}
pub use Rattle.wb_heap_model.specs.Rises.{granted_end, end_of_line, highest_end, rises_above}
use Rattle.wb_heap_model.specs.Rises.{first_rises}
use Rattle.wb_heap_model.specs.Placement.{Placement, placement_of}
use Rattle.wb_heap_model.specs.Heap.{no_cells, cells_of_all_levels}
use Rattle.wb_meaning.specs.State.{State, require, Way, goes_on, returns, leaves, panics, is_cut, no_cleanup, Process, ends, stops, and_then, then_do, initial}
use Rattle.wb_heap_model.specs.Contents.{none}
use Rattle.wb_heap_model.specs.Pointers.{null}
use Rattle.wb_meaning.specs.Attempts.{allocate}
use Rattle.wb_meaning.specs.Statements.{all, destroy_items, Context, Meaning, done}
use Rattle.wb_tree.specs.Bodies.{procedure_at}
use Rattle.wb_meaning.specs.Meaning.{meaning_of}
use Rattle.wb_heap_model.specs.Space.{Space, space_of}
use Rattle.wb_meaning.specs.Account.{over, stopped, End, Account, Settled, settled}
use Rattle.wb_heap_model.specs.Reported.{leak_of}

-- the state before attempt 1, in a heap with this choice of places
abbrev pub start : Placement → State
start placement = record {
  heap = no_cells placement;
  cleanup = null;
  items = [];
  slots = 8;
  frame = record { this = null; locals = [] };
  lines = [];
  steps = 0;
}

-- `main`'s own TRAP: a leave destroys the items, and its code goes on
unfoldable pub main_trapped : Meaning → Context → Way → State → Process
main_trapped rec at (leaves code) st = then_do (rec at (destroy_items (length st.items)) st) (λ st. ends (leaves code) st)
main_trapped rec at _ st = require (nat_eq (length st.items) 0) ITEMS_LEFT st done

unfoldable pub in_main : Meaning → Script → State → Process
in_main rec script st =
    let at : Context = record { depth = 1; floor = 0 } in
    let main = procedure_at script script.main in
    and_then (rec at (all main.statements) (record st { frame = record { this = null; locals = map initial main.locals } })) (main_trapped rec at)

-- attempt 1, and then `main`; `None` if attempt 1 is refused
unfoldable pub started : Meaning → Script → Option Ptr → State → Process
started rec script (Some p) st = in_main rec script (record st { cleanup = p })
started rec script None st = stops no_cleanup st

-- a run in a heap with this choice of places, up to what the rule says
unfoldable pub process : Script → ℕ → Placement → Process
process script budget placement = allocate 128 Cleanup none (start placement) (started (meaning_of script budget) script)

abbrev pub leaks_in : State → List Leak
leaks_in st = map leak_of (cells_of_all_levels (headers st.heap.row))

abbrev pub left_by : Way → Option ℤ
left_by goes_on = None
left_by (returns p) = None
left_by (leaves code) = Some code

abbrev pub outcome_of : End → State → Outcome
outcome_of (over way) st = Ended (left_by way) (leaks_in st)
outcome_of (stopped (panics p)) st = Panicked p
outcome_of (stopped (is_cut why)) st = Cut why
outcome_of (stopped no_cleanup) st = NoCleanup

abbrev pub result_of : Settled → RunResult
result_of s = record {
  outcome = outcome_of s.end s.state;
  trace = s.account.trace;
  lines = s.state.lines;
  notes = s.account.notes;
  steps = s.state.steps;
}

-- the account before attempt 1, of a run that keeps the rises alone, or a line of each attempt
abbrev pub before_of : Bool → Space → Account
before_of keeps_rises space = record { attempts = 0; trace = []; rises = first_rises keeps_rises; notes = []; committed = space.least }

abbrev pub before : Space → Account
before space = before_of false space

-- the run of a script under a rule
abbrev pub run : Script → Rule → ℕ → Shape → RunResult
run script rule budget shape =
    result_of (settled rule (space_of rule shape) (process script budget (placement_of shape)) (before (space_of rule shape)))

-- what a run comes to: its result, how many attempts it made, and the rises where they are kept in the trace's place
pub record WholeRun : Type 0 where
  pub result : RunResult
  pub attempts : ℕ
  pub rises : Option (List Rise)

abbrev pub whole_of : Settled → WholeRun
whole_of s = record { result = result_of s; attempts = s.account.attempts; rises = s.account.rises }

abbrev pub whole_run : Bool → Script → Rule → ℕ → Shape → WholeRun
whole_run keeps_rises script rule budget shape =
    whole_of (settled rule (space_of rule shape) (process script budget (placement_of shape)) (before_of keeps_rises (space_of rule shape)))

-- what a run comes to that keeps the rises, from what one with lines tells
abbrev pub run_with_rises : RunResult → WholeRun
run_with_rises whole = record { result = record whole { trace = [] }; attempts = length whole.trace; rises = Some (rises_above 0 whole.trace) }

-- what is reported of a run that keeps the rises
abbrev pub rises_result_of : RunResult → RisesResult
rises_result_of whole = record { outcome = whole.outcome; rises = rises_above 0 whole.trace; steps = whole.steps }

-- what a sweep looks for: a panic, or a leak at the end; a leave alone is fine, and so is a run without its cleanup stack
abbrev pub is_bad_outcome : Outcome → Bool
is_bad_outcome (Ended left []) = false
is_bad_outcome (Ended left (l ∷ ls)) = true
is_bad_outcome (Panicked p) = true
is_bad_outcome NoCleanup = false
is_bad_outcome (Cut why) = false

abbrev pub is_bad : RunResult → Bool
is_bad r = is_bad_outcome r.outcome

-- the greatest end of a granted line without a limit
abbrev pub required : Script → ℕ → Shape → ℕ
required script budget shape = highest_end (run script Unlimited budget shape).trace

abbrev pub rises : Script → ℕ → Shape → List Rise
rises script budget shape = rises_above 0 (run script Unlimited budget shape).trace

-- the number of the first rise that passes a length
abbrev pub first_rise_above : ℕ → List Rise → Option ℕ
first_rise_above length [] = None
first_rise_above length (r ∷ rs) = if nat_lt length r.top then Some r.number else first_rise_above length rs

-- the attempt that a heap of a length refuses first
abbrev pub refused_at : Script → ℕ → Shape → ℕ → Option ℕ
refused_at script budget shape length = first_rise_above length (rises script budget shape)

-- a run makes more attempts than so many, or the ceiling cuts it where it asks for the next one
abbrev pub MakesMoreThan : ℕ → RunResult → Type 0
MakesMoreThan attempts ran =
    (attempts < length ran.trace)
    ⊎ ((attempts ≡ length ran.trace) × (ran.outcome ≡ Cut Ceiling))
