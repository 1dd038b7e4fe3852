use Rattle.std.proofs.Common.{refl}
use Rattle.wb_language.specs.LineKinds.{line_kinds}
use Rattle.wb_lines.proofs.line_kinds.line_kinds.Goals as goal

pub returns : goal.returns
unfolding line_kinds
returns c = refl
