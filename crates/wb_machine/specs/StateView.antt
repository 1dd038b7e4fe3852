-- What contracts see of the state of a machine: its fields as the state of a run.
use Rattle.wb_machine.specs.declared.state.State.TheInside.{Inside}
use Rattle.wb_machine.specs.RunState.{RunState}
use Rattle.wb_machine.specs.StackInvariant.{cell_or_null, items_or_none, slots_or_first}

abbrev pub run_state : Inside → RunState
run_state s = record { debug = s.heap; cleanup = cell_or_null s.cleanup; items = items_or_none s.cleanup s.heap; slots = slots_or_first s.cleanup; this = s.this; locals = s.locals.locals; callers = s.locals.callers; lines = s.lines; notes = s.notes; steps = s.steps }
