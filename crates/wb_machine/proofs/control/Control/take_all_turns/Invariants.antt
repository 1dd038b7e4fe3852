use Rattle.std.proofs.Common.{◌≡◌, ◌+◌, ◌-◌, true, cond}
use Rattle.wb_heap_model.specs.SameRules.{Fits}
use Rattle.wb_heap_model.specs.declared.heap.Rule.{Rule}
use Rattle.wb_machine.specs.BetweenTurns.{IsBetweenTurns, KeepsSetting}
use Rattle.wb_machine.specs.Flow.{is_over, rest_from}
use Rattle.wb_machine.proofs.control.Control.take_all_turns.Given as goal

-- the rest stays, a step is to come or the run is over, and what a turn asks for
abbrev pub invariant-loop-self : goal.invariant-loop-self
invariant-loop-self g l =
    record {
      kept : (r : Rule) → Fits r l.fn.state.debug.rule (is_over l.self.ending l.self.pieces.items) l.state.debug.attempts →
          rest_from l.fn.script l.fn.budget r l.self.ending l.self.pieces.items l.state ≡ rest_from l.fn.script l.fn.budget r l.fn.self.ending l.fn.self.pieces.items l.fn.state;
      between : IsBetweenTurns l.fn.script l.fn.budget true l.self.ending l.self.pieces.items l.state;
      setting : KeepsSetting l.fn.state l.state;
    }

-- the steps that are left, and the turn that ends the run
abbrev pub decreases-loop-self : goal.decreases-loop-self
decreases-loop-self g l = cond (is_over l.self.ending l.self.pieces.items) 0 1 + (l.fn.budget - l.state.steps)
