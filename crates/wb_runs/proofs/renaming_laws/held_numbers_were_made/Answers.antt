use Rattle.wb_renaming.proofs.HeldNumbers.{progress-made, statement-made}
use Rattle.wb_runs.proofs.renaming_laws.held_numbers_were_made.Goals as goal

pub returns : goal.returns
returns c = record { runs = progress-made; statements = statement-made }
