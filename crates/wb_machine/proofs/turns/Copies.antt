-- A machine with another list of the same pieces keeps what it did.
use Rattle.std.proofs.Common.{◌≡◌, true, false, ◌&&◌, List, sym, subst}
use Rattle.wb_heap_model.specs.declared.heap.Rule.{Rule}
use Rattle.wb_heap_model.specs.Debug.{keeps_rises}
use Rattle.wb_heap_model.specs.SameRules.{Fits}
use Rattle.wb_meaning.specs.Run.{whole_run}
use Rattle.wb_machine.specs.declared.control.Control.{Control}
use Rattle.wb_machine.specs.declared.machine.Machine.TheInside.{Inside}
use Rattle.wb_machine.specs.declared.pieces.Ending.{Ending}
use Rattle.wb_machine.specs.declared.pieces.PendingPiece.{PendingPiece}
use Rattle.wb_machine.specs.BetweenTurns.{IsBetweenTurns}
use Rattle.wb_machine.specs.Flow.{is_stop, is_over, rest_at}
use Rattle.wb_machine.specs.Results.{leaks_at_end}
use Rattle.wb_machine.specs.Whole.{IsMachine}

module _ (m : Inside) (x : Control) (items : x.pieces.items ≡ m.control.pieces.items) (ending : x.ending ≡ m.control.ending) where
  moved : (P : Ending → List PendingPiece → Type 0) → P m.control.ending m.control.pieces.items → P x.ending x.pieces.items
  moved P h = subst (λ e. P e x.pieces.items) (sym ending) (subst (P m.control.ending) (sym items) h)

  pub same_control : x.line ≡ m.control.line → IsMachine m → IsMachine (record m { control = x })
  same_control line machine = record {
    sound = λ well.
        let s = machine.sound well in
        record {
          script = s.script;
          least = s.least;
          small = s.small;
          shape = s.shape;
          shaped = s.shaped;
          between = moved (λ e ps. IsBetweenTurns m.script.now m.budget m.begun e ps m.state) s.between;
          no_line = λ begun. subst (λ n. n ≡ 0) (sym line) (s.no_line begun);
          leaks = moved (λ e ps. (m.begun && is_over e ps) ≡ true → is_stop e ≡ false → m.leaks ≡ leaks_at_end m.state) s.leaks;
        };
    keeps = λ well.
        moved (λ e ps. (r : Rule) → Fits r m.state.debug.rule (m.begun && is_over e ps) m.state.debug.attempts →
        rest_at m.script.now m.budget r m.begun e ps m.state ≡ whole_run (keeps_rises m.state.debug) m.script.now r m.budget m.state.debug.shape) (machine.keeps well);
  }
