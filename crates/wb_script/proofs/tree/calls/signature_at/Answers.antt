use Rattle.std.proofs.Common.{sym, ap, ◌∙◌, map, Some}
use Rattle.std.specs.Option.{option_map}
use Rattle.wb_script.specs.BytesOf.{bytes_of_item, bytes_of_items}
use Rattle.wb_script.specs.Stated.{bytes_of_parameter}
use Rattle.wb_script.proofs.building.PassedArguments.{signature_there}
use Rattle.wb_script.proofs.tree.calls.signature_at.Goals as goal

pub returns-in-Some : goal.returns-in-Some
returns-in-Some c =
    ap (λ taken. Some (map (bytes_of_parameter (bytes_of_items c.args.items.now)) taken)) c.as_slice.ensures
    ∙ signature_there c.args.items.now c.args.index (Some c.in-Some.item) (ap (option_map (λ i. bytes_of_item i.now)) (sym c.in-Some.is) ∙ c.procedure.ensures)
