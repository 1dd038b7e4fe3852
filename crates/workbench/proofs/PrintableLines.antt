-- The lines of a report are printable ASCII, and a lossy reading of such a line is the line itself.
use Rattle.std.proofs.Common.{◌≡◌, ℕ, ◌==◌, Bool, true, false, List, [], ◌∷◌, inl, inr, true≢false, eq-eqb, refl, sym, ◌∙◌, arith, All, IsAscii}
use Rattle.std.specs.Str.Lossy.{utf8_lossy}
use Rattle.std.proofs.lemmas.List.Elements.{All-nil, All-cons, All-head, All-tail}
use Rattle.std.proofs.lemmas.Str.{IsUtf8-from_ascii, utf8_lossy-IsUtf8}
use Rattle.std.proofs.lemmas.Str.Ascii.{IsAscii-cons, IsAscii-nil}
use Rattle.wb_language.specs.Lines.{ends_line, onto_first, pieces_from, quoted_after}
use Rattle.wb_meaning.specs.Printable.{IsPrintable, ArePrintable}
use Rattle.wb_command_line.specs.declared.command.Command.{Command}
use Rattle.workbench.specs.declared.report_values.ReportValues.{ReportValues}
use Rattle.workbench.specs.Ascii.{HasPrintableLines, IsPrintableText, IsTextByte}
use Rattle.workbench.specs.Report.{IsReport}
use Rattle.workbench.proofs.AsciiReports.{report-printable}

-- ---- the lines of a text

printable_unless : (byte : ℕ) → IsTextByte byte → (byte == 10) ≡ false → IsPrintable byte
printable_unless byte (inl is) isnt = is
printable_unless byte (inr e) isnt = absurd (true≢false (sym (eq-eqb byte 10 e) ∙ isnt))

one_more : (byte : ℕ) (pieces : List (List ℕ)) → IsPrintable byte → All ArePrintable pieces → All ArePrintable (onto_first byte pieces)
one_more byte [] is are = All-cons ArePrintable (byte ∷ []) [] (All-cons IsPrintable byte [] is (All-nil IsPrintable)) (All-nil ArePrintable)
one_more byte (piece ∷ pieces) is are =
    All-cons ArePrintable (byte ∷ piece) pieces (All-cons IsPrintable byte piece is (All-head ArePrintable piece pieces are)) (All-tail ArePrintable piece pieces are)

pub lines_from : (quoted : Bool) (text : List ℕ) → IsPrintableText text → All ArePrintable (pieces_from ends_line quoted text)
lines_from quoted [] are = All-nil ArePrintable
lines_from quoted (byte ∷ text) are =
    let rest = All-tail IsTextByte byte text are in
    by (byte == 10) refl (lines_from false text rest) (lines_from (quoted_after quoted byte) text rest)
  where
    by : (b : Bool) → (byte == 10) ≡ b → All ArePrintable (pieces_from ends_line false text) → All ArePrintable (pieces_from ends_line (quoted_after quoted byte) text) →
        All ArePrintable (elim b [ true ↦ [] ∷ pieces_from ends_line false text | false ↦ onto_first byte (pieces_from ends_line (quoted_after quoted byte) text) ])
    by true is lines more = All-cons ArePrintable [] (pieces_from ends_line false text) (All-nil IsPrintable) lines
    by false isnt lines more = one_more byte (pieces_from ends_line (quoted_after quoted byte) text) (printable_unless byte (All-head IsTextByte byte text are) isnt) more

pub report_lines : (command : Command) (bytes text : List ℕ) (values : ReportValues) (status : ℕ) → IsReport command bytes text values status → HasPrintableLines text
unfolding HasPrintableLines
report_lines command bytes text values status is = lines_from false text (report-printable command bytes text values status is)

-- ---- the lossy reading of such a line is the line itself

ascii : (bytes : List ℕ) → ArePrintable bytes → IsAscii bytes
ascii [] are = IsAscii-nil
ascii (byte ∷ bytes) are = let is = All-head IsPrintable byte bytes are in IsAscii-cons byte bytes (omega (arith, is.1)) (ascii bytes (All-tail IsPrintable byte bytes are))

pub lossless : (bytes : List ℕ) → ArePrintable bytes → utf8_lossy bytes ≡ bytes
lossless bytes are = utf8_lossy-IsUtf8 bytes (IsUtf8-from_ascii bytes (ascii bytes are))
