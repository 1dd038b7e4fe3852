-- Proof: line_string. A lossy reading loses nothing of ASCII.
use Rattle.std.proofs.Common.{◌≡◌, rules, ap, ◌∙◌, string_bytes}
use Rattle.serde_json.specs.View.{view}
use Rattle.serde_json.specs.Data.{string}
use Rattle.serde_json.specs.declared.value.Value.{String, the_lemmas}
use Rattle.workbench.proofs.PrintableLines.{lossless}
use Rattle.workbench.proofs.json_report.line_string.Goals as goal

pub returns : goal.returns
returns c =
    let read = c.in_ok-from_utf8_lossy.field-0 in
    let seen : view (String read) ≡ string (string_bytes read) = search (rules, the_lemmas) in
    seen ∙ ap string (c.in_ok-from_utf8_lossy.ensures.lossy ∙ lossless c.args.line.now c.requires)
