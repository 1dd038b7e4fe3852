-- What callers see of a machine.
use Rattle.std.specs.Prelude.{ℕ, Bool, true, false, ◌&&◌, List, [], Option, None, nat_lt, unwrap_or, if◌then◌else◌}
use Rattle.wb_heap_model.specs.declared.heap.Attempt.{Attempt}
use Rattle.wb_heap_model.specs.declared.heap.Header.{Header}
use Rattle.wb_heap_model.specs.declared.heap.Rule.{Rule}
use Rattle.wb_heap_model.specs.declared.heap.Shape.{Shape}
use Rattle.wb_tree.specs.declared.script.Script.{Script}
use Rattle.wb_meaning.specs.Run.{WholeRun, whole_run}
use Rattle.wb_heap_model.specs.Space.{space_of}

pub record Seen : Type 0 where
  pub script : Script
  pub rule : Rule
  -- the greatest number of steps
  pub budget : ℕ
  pub shape : Shape
  -- how many attempts were made
  pub attempts : ℕ
  -- how many steps were counted
  pub steps : ℕ
  -- the live cells by place, the cleanup stack's own among them
  pub live : List Header
  -- the committed length, in bytes
  pub committed : ℕ
  -- how many marks are open
  pub level : ℕ
  -- the line of the attempt made last; `None` before the first, and where the rises are kept in the place of lines
  pub last : Option Attempt
  -- how many items are on the cleanup stack
  pub items : ℕ
  -- how many TRAPs are open, without `main`'s own
  pub traps : ℕ
  -- the line of the statement begun last, 0 before the first
  pub line : ℕ
  -- the line of the statement that is to begin next, where one is
  pub next : Option ℕ
  -- the first turn was taken
  pub begun : Bool
  -- the run has ended
  pub over : Bool
  -- the ceiling cut the run
  pub met_ceiling : Bool
  -- the next turn asks for an attempt, if it finds memory
  pub asks : Bool
  -- its memory ran out
  pub failed : Bool
  -- it keeps the rises, in the place of a line for each attempt
  pub keeps_rises : Bool

-- before the first turn
abbrev pub seen_at_start : Bool → Script → Rule → ℕ → Shape → Seen
seen_at_start keeps_rises script rule budget shape = record {
  script = script;
  rule = rule;
  budget = budget;
  shape = shape;
  attempts = 0;
  steps = 0;
  live = [];
  committed = (space_of rule shape).least;
  level = 0;
  last = None;
  items = 0;
  traps = 0;
  line = 0;
  next = None;
  begun = false;
  over = false;
  met_ceiling = false;
  asks = true;
  failed = false;
  keeps_rises = keeps_rises;
}

-- what the whole run comes to
abbrev pub whole_run_of : Seen → WholeRun
whole_run_of m = whole_run m.keeps_rises m.script m.rule m.budget m.shape

-- The line of the statement begun last, after a turn from here. The first turn begins no statement, and none is begun where the
-- budget is used up.
abbrev pub line_after : Seen → ℕ
line_after m = if m.begun && nat_lt m.steps m.budget then unwrap_or m.next m.line else m.line
