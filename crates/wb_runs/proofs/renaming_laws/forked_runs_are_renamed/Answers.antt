use Rattle.wb_renaming.proofs.SameForks.{forked-renaming, shared-are}
use Rattle.wb_runs.proofs.renaming_laws.forked_runs_are_renamed.Goals as goal

pub returns : goal.returns
returns c = record { renamed = forked-renaming; shared = shared-are }
