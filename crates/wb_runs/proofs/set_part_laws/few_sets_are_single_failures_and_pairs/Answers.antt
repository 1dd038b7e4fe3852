use Rattle.wb_runs.proofs.FewSets.{paired-cut, paired-found, paired-none, single-cut, single-found, single-none}
use Rattle.wb_runs.proofs.set_part_laws.few_sets_are_single_failures_and_pairs.Goals as goal

pub returns : goal.returns
returns c = record {
  single = single-found;
  single_cut = single-cut;
  no_single = single-none;
  paired = paired-found;
  paired_cut = paired-cut;
  no_pair = paired-none;
}
