use Rattle.std.proofs.Common.{sym, ap, ◌∙◌, map, arith}
use Rattle.std.specs.Option.{option_map}
use Rattle.wb_script.specs.BytesOf.{bytes_of_items}
use Rattle.wb_script.specs.Stated.{bytes_of_parameter}
use Rattle.wb_script.proofs.building.PassedArguments.{signature_within}
use Rattle.wb_script.proofs.tree.calls.call_in.Goals as goal

pub overflow_cast-result : goal.overflow_cast-result
overflow_cast-result c =
    let parameter = bytes_of_parameter (bytes_of_items c.args.items.now) in
    omega (arith, signature_within c.args.items.now c.in-Some-Name-Procedure-default.index (map parameter c.in-Some.parameters.now) c.requires (ap (option_map (λ taken. map parameter taken.now)) (sym c.in-Some.is) ∙ c.signature_at.ensures))
