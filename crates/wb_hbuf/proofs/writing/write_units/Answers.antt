use Rattle.std.proofs.Common.{subst}
use Rattle.wb_hbuf.specs.Sources.{IsReadable}
use Rattle.wb_hbuf.proofs.Drafts.{text-has}
use Rattle.wb_hbuf.proofs.writing.write_units.Goals as goal

pub copy_part-requires-clause-source : goal.copy_part-requires-clause-source
copy_part-requires-clause-source c = text-has c.in-Cell.cell c.args.heap.now (subst (λ s. IsReadable c.args.heap.now s) c.in-Cell.is c.requires.source.readable)
