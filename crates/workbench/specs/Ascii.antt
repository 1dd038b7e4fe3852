-- Texts whose lines are printable ASCII.
use Rattle.std.specs.Prelude.{◌≡◌, ◌⊎◌, ℕ, List, All}
use Rattle.wb_language.specs.Lines.{lines_of}
use Rattle.wb_meaning.specs.Printable.{IsPrintable, ArePrintable}

-- a printable byte, or the line feed that ends a line
abbrev pub IsTextByte : ℕ → Type 0
IsTextByte byte = IsPrintable byte ⊎ (byte ≡ 10)

abbrev pub IsPrintableText : List ℕ → Type 0
IsPrintableText text = All IsTextByte text

-- each line of a text, without its line feed
unfoldable pub HasPrintableLines : List ℕ → Type 0
HasPrintableLines text = All ArePrintable (lines_of text)
