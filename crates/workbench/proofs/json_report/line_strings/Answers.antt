-- Proof: line_strings. The lines that are left are printable, and the next one is the first of them.
use Rattle.std.proofs.Common.{◌≡◌, ◌∙◌, All, ap, arith, map, subst}
use Rattle.std.proofs.lemmas.Grind.{common_steps}
use Rattle.std.proofs.lemmas.List.Elements.{All-head, All-tail}
use Rattle.serde_json.specs.Data.{array}
use Rattle.serde_json.specs.View.{items_of, view}
use Rattle.serde_json.proofs.Views.{view-Array}
use Rattle.wb_language.specs.Lines.{lines_of}
use Rattle.wb_meaning.specs.Printable.{ArePrintable}
use Rattle.workbench.specs.Ascii.{HasPrintableLines}
use Rattle.workbench.specs.JsonReport.{line_string}
use Rattle.workbench.proofs.json_report.line_strings.Goals as goal

pub line_string-requires : goal.line_string-requires
unfolding HasPrintableLines
line_string-requires c =
    All-head ArePrintable c.first_line.result.0.now (lines_of c.first_line.result.1.now)
    (subst (All ArePrintable) c.first_line.ensures.lines c.loop-rest.invariant.printable)

pub loop-rest-preserved : goal.loop-rest-preserved
unfolding HasPrintableLines
loop-rest-preserved c = record {
  strings = grind (arith, common_steps);
  printable = All-tail ArePrintable c.first_line.result.0.now (lines_of c.first_line.result.1.now)
      (subst (All ArePrintable) c.first_line.ensures.lines c.loop-rest.invariant.printable);
}

pub returns : goal.returns
returns c =
    let all : map view c.loop-rest.strings.items ≡ map line_string (lines_of c.args.text.now) = grind (arith, common_steps) in
    view-Array c.loop-rest.strings ∙ ap (λ told. array (items_of told)) all
