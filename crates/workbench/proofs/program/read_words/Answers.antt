-- Proof: read_words. A fault of the words is the one that `command` finds.
use Rattle.std.proofs.Common.{map, rules}
use Rattle.workbench.specs.Program.{fault_of_words}
use Rattle.workbench.proofs.ProgramLemmas.{read_as_fault}
use Rattle.workbench.proofs.program.read_words.Goals as goal

pub returns-in_err-command : goal.returns-in_err-command
returns-in_err-command g c =
    read_as_fault c.args.words c.in_ok-words.words (λ had. map g.S.AsStr.text had.items) (map g.S.AsStr.text c.as_slice.result.now) fault_of_words _ _
    (search rules) (search rules) (search rules) c.in_err-command.ensures.fault c.in_err-command.ensures.taken
