use Rattle.std.proofs.Common.{map, sym, ◌∙◌}
use Rattle.std.proofs.lemmas.List.{length-map}
use Rattle.wb_language.specs.Forms.{renamed_parameter_type}
use Rattle.wb_lines.specs.BytesOf.{bytes_of_text}
use Rattle.wb_script.proofs.names.OperandPlaces.{given_differ}
use Rattle.wb_script.proofs.checks.kinds.are_given.Goals as goal

pub returns-then-parameters-operands : goal.returns-then-parameters-operands
returns-then-parameters-operands c =
    let parameters = c.args.parameters.now in
    sym (given_differ (map (renamed_parameter_type bytes_of_text) parameters) c.args.operands.now (λ e. c.if-parameters-operands.true (sym (length-map parameters (renamed_parameter_type bytes_of_text)) ∙ e)))
