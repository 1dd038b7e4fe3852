-- A whole machine: what callers see of it, and what it keeps.
use Rattle.std.specs.Prelude.{◌≡◌, ◌-◌, ◌≤◌, Bool, true, false, not, ◌&&◌, length, slice_get, is_some}
use Rattle.wb_basics.specs.declared.limits.TheConstants.{LARGEST_BUDGET}
use Rattle.wb_heap_model.specs.declared.heap.Rule.{Rule}
use Rattle.wb_tree.specs.Sound.{is_script}
use Rattle.wb_heap_model.specs.Debug.{keeps_rises}
use Rattle.wb_heap_model.specs.Row.{headers}
use Rattle.wb_meaning.specs.Run.{WholeRun, whole_run}
use Rattle.wb_heap_model.specs.SameRules.{Fits}
use Rattle.wb_heap_model.specs.Space.{is_shape}
use Rattle.wb_meaning.specs.Rest.{Progress, next_line}
use Rattle.wb_machine.specs.declared.machine.Machine.TheInside.{Inside}
use Rattle.wb_machine.specs.RunState.{state_of}
use Rattle.wb_machine.specs.Asks.{asks_next}
use Rattle.wb_machine.specs.Depths.{open_traps_in}
use Rattle.wb_machine.specs.BetweenTurns.{IsBetweenTurns}
use Rattle.wb_machine.specs.Seen.{Seen}
use Rattle.wb_machine.specs.Flow.{is_stop, is_over, has_met_ceiling, pending_in, progress_of, rest_at}
use Rattle.wb_machine.specs.Results.{leaks_at_end}

-- the run has ended
abbrev pub has_ended : Inside → Bool
has_ended m = m.begun && is_over m.control.ending m.control.pieces.items

-- memory has run out in one of its turns
abbrev pub has_failed : Inside → Bool
has_failed m = is_some m.failed

abbrev pub progress_in : Inside → Progress
progress_in m = progress_of m.begun m.control.ending (pending_in m.state.callers m.control.pieces.items) (state_of m.script.now m.state)

abbrev pub seen : Inside → Seen
seen m = record {
  script = m.script.now;
  rule = m.state.debug.rule;
  budget = m.budget;
  shape = m.state.debug.shape;
  attempts = m.state.debug.attempts;
  steps = m.state.steps;
  live = headers m.state.debug.heap.row;
  committed = m.state.debug.committed;
  level = m.state.debug.heap.level;
  last = slice_get m.state.debug.trace (length m.state.debug.trace - 1);
  items = length m.state.items;
  traps = open_traps_in m.control.pieces.items;
  line = m.control.line;
  next = next_line (progress_in m);
  begun = m.begun;
  over = has_ended m;
  met_ceiling = has_met_ceiling m.control.ending;
  asks = not (has_failed m) && asks_next m.script.now m.budget (progress_in m);
  failed = has_failed m;
  keeps_rises = keeps_rises m.state.debug;
}

-- Rest: what the pending pieces give from the state on
abbrev pub rest_in : Rule → Inside → WholeRun
rest_in r m = rest_at m.script.now m.budget r m.begun m.control.ending m.control.pieces.items m.state

-- a machine whose memory hasn't run out
pub record IsSound (m : Inside) : Type 0 where
  pub script : is_script m.script.now ≡ true
  pub least : 1 ≤ m.budget
  pub small : m.budget ≤ LARGEST_BUDGET
  pub shape : m.shape ≡ m.state.debug.shape
  pub shaped : is_shape m.shape ≡ true
  pub between : IsBetweenTurns m.script.now m.budget m.begun m.control.ending m.control.pieces.items m.state
  -- no statement was begun yet
  pub no_line : m.begun ≡ false → m.control.line ≡ 0
  pub leaks : has_ended m ≡ true → is_stop m.control.ending ≡ false → m.leaks ≡ leaks_at_end m.state

-- under each rule that fits, the rest is the run under that rule
abbrev pub Keeps : Inside → Type 0
Keeps m = (r : Rule) → Fits r m.state.debug.rule (has_ended m) m.state.debug.attempts →
    rest_in r m ≡ whole_run (keeps_rises m.state.debug) m.script.now r m.budget m.state.debug.shape

-- what each machine keeps, unless its memory ran out
pub record IsMachine (m : Inside) : Type 0 where
  pub sound : has_failed m ≡ false → IsSound m
  pub keeps : has_failed m ≡ false → Keeps m
