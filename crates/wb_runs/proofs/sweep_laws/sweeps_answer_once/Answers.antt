use Rattle.wb_runs.proofs.OnceFound.{cut-some, found-run, found-some, found-uncut, once-cut, once-found}
use Rattle.wb_runs.proofs.sweep_laws.sweeps_answer_once.Goals as goal

pub returns : goal.returns
returns c = record {
  run = found-run;
  found = once-found;
  cut = once-cut;
  either = found-uncut;
  some = found-some;
  uncut = cut-some;
}
