use Rattle.std.proofs.Common.{◌≡◌, ◌+◌, ◌≤◌, drop}
use Rattle.std.specs.List.{list_any, position_from}
use Rattle.wb_language.specs.Lines.{is_foreign, lines_of, first_foreign_line}
use Rattle.wb_lines.proofs.bytes.first_foreign_line.Given as goal

abbrev pub invariant-loop-byte : goal.invariant-loop-byte
invariant-loop-byte l = record {
  counted : l.line ≤ l.byte-index + 1;
  so_far : position_from (list_any is_foreign) l.line (lines_of (drop l.byte-index l.bytes)) ≡ first_foreign_line l.bytes;
}
