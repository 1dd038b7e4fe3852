use Rattle.wb_heap_model.specs.declared.heap.Rule.TheVariants.{Unlimited}
use Rattle.wb_meaning.specs.Run.{run}
use Rattle.workbench.proofs.RiseLemmas.{rises_in_words}
use Rattle.workbench.proofs.laws.rises_are.Goals as goal

pub returns : goal.returns
returns c = λ script budget shape. rises_in_words (run script Unlimited budget shape).trace
