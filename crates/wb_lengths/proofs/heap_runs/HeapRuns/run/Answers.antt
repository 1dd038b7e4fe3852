-- Proof: HeapRuns.run. The forks that a whole run leaves were there before.
use Rattle.std.proofs.lemmas.Result.{on_ok_weaker}
use Rattle.wb_lengths.proofs.heap_runs.HeapRuns.run.Goals as goal

pub returns-in-None-clause-forks : goal.returns-in-None-clause-forks
returns-in-None-clause-forks g c =
    on_ok_weaker c.run_whole.result (λ keeps. keeps c.args.script.now c.args.conditions.budget c.args.conditions.shape c.in_ok-run_result.ensures.forks)
    c.run_whole.ensures.forks
