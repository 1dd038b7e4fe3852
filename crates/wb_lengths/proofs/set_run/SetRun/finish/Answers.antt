use Rattle.std.proofs.Common.{◌∙◌, ap}
use Rattle.wb_heap_model.specs.declared.heap.Rule.{Rule}
use Rattle.wb_meaning.specs.Run.{run, whole_run}
use Rattle.wb_lengths.proofs.set_run.SetRun.finish.Goals as goal

pub returns : goal.returns
returns c =
    let m = c.args.self.machine in
    c.in_ok-finished.ensures ∙ ap (λ b. (whole_run b m.script m.rule m.budget m.shape).result) c.args.self.lines ∙ ap (λ (r : Rule). run m.script r m.budget m.shape) c.args.self.rule
