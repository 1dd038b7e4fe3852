-- What is kept afterwards was kept before, or is the run that was added.
use Rattle.std.proofs.Common.{sym, ◌∙◌}
use Rattle.wb_states.proofs.GrowLemmas.{on-ok}
use Rattle.wb_states.proofs.RunLemmas.{kept-with}
use Rattle.wb_states.proofs.runs.Runs.insert.Goals as goal

pub returns : goal.returns
returns c = λ i m kept.
    let updated = on-ok c.insert.result _ (sym c.is_err.ensures.value ∙ c.if-is_err.false) c.insert.ensures.updates in
    kept-with c.args.at i c.args.machine _ _ m (updated.0 i) kept
