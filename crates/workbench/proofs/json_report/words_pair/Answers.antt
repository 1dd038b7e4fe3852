-- Proof: words_pair. How a run ended is written in printable words.
use Rattle.std.proofs.Common.{rules, ◌≡◌, subst, sym}
use Rattle.wb_meaning.specs.Printable.{ArePrintable}
use Rattle.workbench.specs.EndWords.{end_words}
use Rattle.workbench.proofs.AsciiLemmas.{printable_end_words}
use Rattle.workbench.proofs.json_report.words_pair.Goals as goal

pub line_string-requires : goal.line_string-requires
line_string-requires c =
    let words : c.as_slice.result.now ≡ end_words c.args.end = search rules in
    subst ArePrintable (sym words) (printable_end_words c.args.end)
