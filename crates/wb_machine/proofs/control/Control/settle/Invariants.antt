use Rattle.std.proofs.Common.{◌≡◌, ◌≤◌, ℕ, true}
use Rattle.wb_heap_model.specs.declared.heap.Rule.{Rule}
use Rattle.wb_tree.specs.declared.script.Script.{Script}
use Rattle.wb_machine.specs.Flow.{is_stop, AreSound, weight_of, rest_from}
use Rattle.wb_machine.specs.Owed.{IsQuiet}
use Rattle.wb_machine.specs.SlotInvariant.{HasRoom}
use Rattle.wb_machine.proofs.control.Control.settle.Given as goal

-- the rest stays, a stop, the line, what asks for nothing, the free slot, and that the pieces are the script's own
abbrev pub invariant-loop-self : goal.invariant-loop-self
invariant-loop-self l =
    record {
      kept : (script : Script) (r : Rule) (budget : ℕ) → l.fn.state.steps ≤ budget →
          rest_from script budget r l.self.ending l.self.pieces.items l.state ≡ rest_from script budget r l.fn.self.ending l.fn.self.pieces.items l.fn.state;
      stop : is_stop l.fn.self.ending ≡ true → is_stop l.self.ending ≡ true;
      line : l.self.line ≡ l.fn.self.line;
      quiet : IsQuiet l.fn.state l.state;
      room : HasRoom l.fn.self.ending l.fn.self.pieces.items l.fn.state → HasRoom l.self.ending l.self.pieces.items l.state;
      sound : (script : Script) → AreSound script l.fn.self.pieces.items → AreSound script l.self.pieces.items;
    }

abbrev pub decreases-loop-self : goal.decreases-loop-self
decreases-loop-self l = weight_of l.self.pieces.items
