-- The two ways in which bytes are cut.
use Rattle.wb_language.specs.Lines.{Separator, ends_line, ends_word}
use Rattle.wb_lines.specs.declared.segments.Cut.{Cut}
use Rattle.wb_lines.specs.declared.segments.Cut.TheVariants.{Lines, Words}

abbrev pub ends_of : Cut → Separator
ends_of Lines = ends_line
ends_of Words = ends_word
