-- Printable ASCII, of which every printed line is.
use Rattle.std.specs.Prelude.{ℕ, ◌≤◌, List, All}

-- a blank, or a character of ASCII that shows
abbrev pub IsPrintable : ℕ → Type 0
IsPrintable byte = (32 ≤ byte) × (byte ≤ 126)

abbrev pub ArePrintable : List ℕ → Type 0
ArePrintable bytes = All IsPrintable bytes
