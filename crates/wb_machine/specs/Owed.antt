-- What each method owes that carries out a statement, or a part of one.
use Rattle.std.specs.Prelude.{◌≡◌, ◌+◌, ◌^◌, ◌<◌, ◌≤◌, length}
use Rattle.wb_heap_model.specs.Debug.{keeps_rises}
use Rattle.wb_machine.specs.declared.pieces.Ending.{Ending}
use Rattle.wb_tree.specs.declared.script.Script.{Script}
use Rattle.wb_machine.specs.RunState.{RunState}
use Rattle.wb_machine.specs.Effects.{Effect}
use Rattle.wb_machine.specs.ObjectInvariant.{StaysWhole}

-- one attempt more has a number of 32 bits
abbrev pub MayAttempt : RunState → Type 0
MayAttempt h = h.debug.attempts + 1 < 2 ^ 32

-- the cleanup stack's cell was granted
abbrev pub HasStack : RunState → Type 0
HasStack h = 1 ≤ h.cleanup.number

-- what no turn changes, and that it makes at most one attempt and sets at most one mark
pub record Stays (before after : RunState) : Type 0 where
  pub rule : after.debug.rule ≡ before.debug.rule
  pub shape : after.debug.shape ≡ before.debug.shape
  pub fewer : before.debug.attempts ≤ after.debug.attempts
  pub more : after.debug.attempts ≤ before.debug.attempts + 1
  -- a line of each attempt is kept, or the rises, as before
  pub kept : keeps_rises after.debug ≡ keeps_rises before.debug
  pub deeper : after.debug.heap.level ≤ before.debug.heap.level + 1
  -- a stack stays once it is there
  pub stack : HasStack before → HasStack after

-- the same of the head of a statement, which counts no step itself
pub record KeepsSteps (before after : RunState) : Type 0 where
  pub steps : after.steps ≡ before.steps
  pub stays : Stays before after

-- the same of a statement that is carried out in its own frame
pub record KeepsCount (before after : RunState) : Type 0 where
  pub steps : after.steps ≡ before.steps
  pub stays : Stays before after
  pub callers : after.callers ≡ before.callers

-- a statement ended so and left this state, as it is to be carried out
pub record CarriesOut (before : RunState) (effect : Effect) (ending : Ending) (after : RunState) : Type 0 where
  pub ends_so : ending ≡ effect.ending
  pub becomes : after ≡ effect.state
  pub keeps : KeepsCount before after

-- nothing but frames changed: their locals, and the object of the innermost one
abbrev pub IsSameButFrames : RunState → RunState → Type 0
IsSameButFrames before after = after ≡ record before { this = after.this; locals = after.locals; callers = after.callers }

-- nothing was asked of the rule and no step counted; cells and items may be gone
pub record IsQuiet (before after : RunState) : Type 0 where
  pub rule : after.debug.rule ≡ before.debug.rule
  pub shape : after.debug.shape ≡ before.debug.shape
  pub attempts : after.debug.attempts ≡ before.debug.attempts
  pub rises : after.debug.rises ≡ before.debug.rises
  pub level : after.debug.heap.level ≡ before.debug.heap.level
  pub cleanup : after.cleanup ≡ before.cleanup
  pub steps : after.steps ≡ before.steps
  pub items : length after.items ≤ length before.items
  pub slots : after.slots ≡ before.slots
  pub whole : (script : Script) → StaysWhole script before after
