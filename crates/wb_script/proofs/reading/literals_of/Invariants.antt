use Rattle.std.proofs.Common.{◌≡◌, take}
use Rattle.wb_lines.specs.BytesOf.{bytes_of_texts}
use Rattle.wb_script.proofs.reading.literals_of.Given as goal

abbrev pub invariant-loop-text : goal.invariant-loop-text
invariant-loop-text l = l.literals.items ≡ bytes_of_texts (take l.text-index l.texts)
