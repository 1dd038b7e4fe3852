use Rattle.std.proofs.Common.{◌≡◌, ◌++◌, length}
use Rattle.wb_language.specs.Lines.{words_of}
use Rattle.wb_lines.specs.BytesOf.{bytes_of_texts}
use Rattle.wb_lines.proofs.segments.add_words.Given as goal

abbrev pub invariant-loop-rest : goal.invariant-loop-rest
invariant-loop-rest l = bytes_of_texts l.words.items ++ words_of l.rest ≡ bytes_of_texts l.initial.words.items ++ words_of l.line

abbrev pub decreases-loop-rest : goal.decreases-loop-rest
decreases-loop-rest l = length l.rest
