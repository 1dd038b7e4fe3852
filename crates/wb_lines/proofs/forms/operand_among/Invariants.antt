use Rattle.std.proofs.Common.{◌≡◌, drop}
use Rattle.wb_language.specs.Forms.{operand_among}
use Rattle.wb_lines.proofs.forms.operand_among.Given as goal

abbrev pub invariant-loop-kind : goal.invariant-loop-kind
invariant-loop-kind l = operand_among (drop l.kind-index l.kinds) l.word ≡ operand_among l.kinds l.word
