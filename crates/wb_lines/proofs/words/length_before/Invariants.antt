use Rattle.std.proofs.Common.{◌≡◌, ◌+◌, drop}
use Rattle.wb_language.specs.Words.{length_before}
use Rattle.wb_lines.proofs.words.length_before.Given as goal

abbrev pub invariant-loop-index : goal.invariant-loop-index
invariant-loop-index l = l.index + length_before l.byte (drop l.index l.word) ≡ length_before l.byte l.word
