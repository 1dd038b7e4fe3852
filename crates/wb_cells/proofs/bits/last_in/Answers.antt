use Rattle.wb_cells.proofs.LastBits.{low_none, low_some}
use Rattle.wb_cells.proofs.bits.last_in.Goals as goal

pub returns-then-low-eq0 : goal.returns-then-low-eq0
returns-then-low-eq0 c = low_none c.args.word c.args.top c.requires c.if-low-eq0.true

pub returns : goal.returns
returns c = (low_some c.args.word c.args.top c.requires c.ranges.word.fits c.if-low-eq0.false).1
