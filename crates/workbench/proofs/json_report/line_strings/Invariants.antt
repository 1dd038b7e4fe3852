-- Proof: line_strings. The strings so far and those of the lines that are left are all of them.
use Rattle.std.proofs.Common.{◌≡◌, ◌++◌, length, map}
use Rattle.serde_json.specs.View.{view}
use Rattle.wb_language.specs.Lines.{lines_of}
use Rattle.workbench.specs.Ascii.{HasPrintableLines}
use Rattle.workbench.specs.JsonReport.{line_string}
use Rattle.workbench.proofs.json_report.line_strings.Given as goal

abbrev pub invariant-loop-rest : goal.invariant-loop-rest
invariant-loop-rest l = record {
  strings : map view l.strings.items ++ map line_string (lines_of l.rest) ≡ map line_string (lines_of l.text);
  printable : HasPrintableLines l.rest;
}

abbrev pub decreases-loop-rest : goal.decreases-loop-rest
decreases-loop-rest l = length l.rest
