-- Proof: program. A command is carried out and handed on, and nothing is told.
use Rattle.std.proofs.Common.{map}
use Rattle.workbench.specs.Program.{fault_of_words}
use Rattle.workbench.proofs.ProgramLemmas.{done_with}
use Rattle.workbench.proofs.program.program.Goals as goal

pub returns-in-Ok-clause-done : goal.returns-in-Ok-clause-done
returns-in-Ok-clause-done g c =
    done_with c.args.words (λ had. map g.S.AsStr.text had.items) fault_of_words _ _ _ _ _ _ _ _ _ _ c.in-Ok.ensures c.answer_command-answered.ensures.done
    c.exit_of.ensures.answered c.exit_of.ensures.command
