use Rattle.wb_command_line.proofs.SetLemmas.{IsReadTo}
use Rattle.wb_command_line.proofs.command_line.set_list.numbers_ascending.Given as goal

abbrev pub invariant-loop-text : goal.invariant-loop-text
invariant-loop-text l = IsReadTo (λ text. text.now) l.texts l.text-index l.numbers l.last
