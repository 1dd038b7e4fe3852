use Rattle.std.proofs.Common.{refl}
use Rattle.wb_meaning.proofs.AccountLemmas.{whole-with_rises, alloc-alike, realloc-alike}
use Rattle.wb_heap_model.proofs.KeptRises.{top-highest}
use Rattle.wb_runs.proofs.laws.rises_are_kept.Goals as goal

pub returns : goal.returns
returns c = record {
  runs = λ script budget shape r. whole-with_rises script r budget shape;
  first = λ shape. refl;
  allocations = alloc-alike;
  reallocations = realloc-alike;
  top = top-highest;
}
