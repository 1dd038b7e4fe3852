use Rattle.wb_machine.proofs.kept.WholeCells.{whole_has_field}
use Rattle.wb_machine.proofs.laws.objects_have_their_fields.Goals as goal

pub returns : goal.returns
returns c = whole_has_field
