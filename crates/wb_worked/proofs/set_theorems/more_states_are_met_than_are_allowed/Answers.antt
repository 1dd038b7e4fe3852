use Rattle.wb_worked.proofs.WorkedStates.{more-than-four, one-shows-nothing, unmade-has-no-state}
use Rattle.wb_worked.proofs.set_theorems.more_states_are_met_than_are_allowed.Goals as goal

pub returns : goal.returns
returns c = record { fine = one-shows-nothing; many = more-than-four; unmade = unmade-has-no-state }
