-- The rows that a brief report leaves out leave printable lines.
use Rattle.std.proofs.Common.{◌≡◌, ◌++◌, ℕ, Bool, true, false, List, [], ◌∷◌, inl, inr, refl, All, if◌then◌else◌}
use Rattle.std.specs.List.{flat_map}
use Rattle.std.proofs.lemmas.List.Elements.{All-nil, All-cons, All-head, All-tail, All-append}
use Rattle.wb_language.specs.Lines.{lines_of}
use Rattle.wb_meaning.specs.Printable.{IsPrintable, ArePrintable}
use Rattle.workbench.specs.Ascii.{HasPrintableLines, IsPrintableText, IsTextByte}
use Rattle.workbench.specs.Brief.{brief_text, is_row, unless_row}
use Rattle.workbench.specs.RunText.{line}
use Rattle.workbench.proofs.PrintableLines.{lines_from}

-- a printable line and its line feed
whole_line : (words : List ℕ) → ArePrintable words → IsPrintableText (line words)
whole_line [] are = All-cons IsTextByte 10 [] (inr refl) (All-nil IsTextByte)
whole_line (byte ∷ words) are =
    All-cons IsTextByte byte (line words) (inl (All-head IsPrintable byte words are)) (whole_line words (All-tail IsPrintable byte words are))

kept_line : (words : List ℕ) → ArePrintable words → IsPrintableText (unless_row words)
kept_line words are = by (is_row words)
  where
    by : (b : Bool) → IsPrintableText (if b then [] else line words)
    by true = All-nil IsTextByte
    by false = whole_line words are

kept_lines : (lines : List (List ℕ)) → All ArePrintable lines → IsPrintableText (flat_map unless_row lines)
kept_lines [] are = All-nil IsTextByte
kept_lines (words ∷ lines) are =
    All-append IsTextByte (unless_row words) (flat_map unless_row lines) (kept_line words (All-head ArePrintable words lines are))
    (kept_lines lines (All-tail ArePrintable words lines are))

pub brief_printable : (text : List ℕ) → HasPrintableLines text → HasPrintableLines (brief_text text)
unfolding HasPrintableLines
brief_printable text are = lines_from false (brief_text text) (kept_lines (lines_of text) are)
