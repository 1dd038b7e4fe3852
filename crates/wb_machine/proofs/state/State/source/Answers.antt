use Rattle.std.proofs.Common.{subst}
use Rattle.wb_heap_model.specs.TextCells.{IsTextAt}
use Rattle.wb_machine.specs.RunState.{RunState}
use Rattle.wb_machine.specs.StateView.{run_state}
use Rattle.wb_machine.proofs.kept.TextInvariant.{text_of_base}
use Rattle.wb_machine.proofs.state.State.source.Goals as goal

pub returns-in-Cell-clause-source : goal.returns-in-Cell-clause-source
returns-in-Cell-clause-source c =
    let p = c.in-Cell.ptr in
    record {
      readable = subst (λ (x : RunState). IsTextAt p x.debug) c.self.view_is (text_of_base (run_state c.self.inside) c.args.self.now c.args.view.base p c.self.view_is c.self.invariant.texts c.in-Cell.is c.requires.base);
      ends = c.requires.ends;
    }
