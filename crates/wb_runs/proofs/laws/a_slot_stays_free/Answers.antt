use Rattle.wb_meaning.proofs.FreeSlotLemmas.{run-has_free_slot, piece-has_free_slot}
use Rattle.wb_runs.proofs.laws.a_slot_stays_free.Goals as goal

pub returns-clause-run : goal.returns-clause-run
returns-clause-run c = run-has_free_slot

pub returns-clause-pieces : goal.returns-clause-pieces
returns-clause-pieces c = piece-has_free_slot
