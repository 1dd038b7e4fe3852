use Rattle.std.proofs.Common.{◌≡◌, drop}
use Rattle.wb_language.specs.Lines.{words_of}
use Rattle.wb_lines.proofs.segments.after_blanks.Given as goal

abbrev pub invariant-loop-index : goal.invariant-loop-index
invariant-loop-index l = words_of (drop l.index l.line) ≡ words_of l.line
