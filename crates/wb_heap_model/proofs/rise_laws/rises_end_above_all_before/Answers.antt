use Rattle.std.proofs.Common.{refl}
use Rattle.wb_heap_model.proofs.RiseLemmas.{no_rise, one_rise}
use Rattle.wb_heap_model.proofs.rise_laws.rises_end_above_all_before.Goals as goal

pub returns : goal.returns
returns c = record { nothing = refl; rise = one_rise; other = no_rise }
