use Rattle.std.proofs.Common.{◌≡◌, drop}
use Rattle.wb_machine.specs.LocalValues.{first_buffer}
use Rattle.wb_machine.proofs.locals.first_buffer.Given as goal

abbrev pub invariant-loop-stored : goal.invariant-loop-stored
invariant-loop-stored l = first_buffer l.end (drop l.stored-index l.frame) ≡ first_buffer l.end l.frame
