use Rattle.std.proofs.Common.{ap, ◌∙◌}
use Rattle.wb_heap_model.specs.Debug.{keeps_rises}
use Rattle.wb_machine.specs.RunState.{RunState}
use Rattle.wb_machine.specs.Seen.{seen_at_start}
use Rattle.wb_machine.proofs.machine.Machine.start_rises.Goals as goal

pub returns : goal.returns
returns c =
    c.at_start.ensures
    ∙ ap (λ (x : RunState). seen_at_start (keeps_rises x.debug) c.args.script.now x.debug.rule c.args.conditions.budget x.debug.shape) c.in_ok-state.ensures
