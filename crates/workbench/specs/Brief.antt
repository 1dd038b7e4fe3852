-- A report without the rows of its table: the lines that begin with `from`.
use Rattle.std.specs.Prelude.{ℕ, Bool, List, [], codes, if◌then◌else◌, nat_eq}
use Rattle.std.specs.List.{flat_map, starts_with}
use Rattle.wb_command_line.specs.declared.command.Command.{Command}
use Rattle.wb_language.specs.Lines.{lines_of}
use Rattle.workbench.specs.RunText.{line}

abbrev pub is_row : List ℕ → Bool
is_row words = starts_with nat_eq words (codes "from ")

-- a line as it is, but for a row
abbrev pub unless_row : List ℕ → List ℕ
unless_row words = if is_row words then [] else line words

abbrev pub brief_text : List ℕ → List ℕ
brief_text text = flat_map unless_row (lines_of text)

-- the lines of a report that a command shows
abbrev pub shown_text : Command → List ℕ → List ℕ
shown_text command text = if command.brief then brief_text text else text
