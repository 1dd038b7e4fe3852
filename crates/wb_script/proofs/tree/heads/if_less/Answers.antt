use Rattle.std.proofs.Common.{refl, ap}
use Rattle.wb_tree.specs.declared.script_lines.LineKind.TheVariants as line_kind
use Rattle.wb_tree.specs.declared.script_lines.Keyword.TheVariants as keyword
use Rattle.wb_language.specs.Trees.{line_or_unknown}
use Rattle.wb_script.proofs.tree.heads.if_less.Goals as goal

pub returns-in-Some : goal.returns-in-Some
returns-in-Some c =
    let (spelled, sound) = c.in-Some.ensures keyword.Less in
    record { line = ap (line_or_unknown line_kind.IfLess) spelled; line_kind_of = refl; first = refl; sound = λ declared depth trapped. sound }

pub returns-in-None : goal.returns-in-None
returns-in-None c = c.in-None.ensures keyword.Less
