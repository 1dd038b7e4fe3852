use Rattle.wb_command_line.proofs.command_line.words_are_read.Goals as goal
use Rattle.wb_command_line.proofs.WordLemmas.{words_are_read}

pub returns : goal.returns
returns c = words_are_read
