use Rattle.std.proofs.Common.{refl}
use Rattle.wb_tree.specs.declared.script_lines.LineKind.TheVariants.{Class}
use Rattle.wb_lines.specs.BytesOf.{bytes_of_texts}
use Rattle.wb_lines.proofs.OperandPlaces.{form_here}
use Rattle.wb_lines.proofs.forms.form_in.Goals as goal

pub returns-in-Some : goal.returns-in-Some
returns-in-Some c =
    let here = form_here c.args.line_kinds.now c.loop-line_kind.line_kind-index Class c.args.first.now (bytes_of_texts c.args.words.now) c.loop-line_kind-test.true in
    rw (← c.loop-line_kind.invariant, here, ← c.in_ok-operands.ensures, c.in-Some.is, c.from_vec.ensures) refl

pub loop-line_kind-preserved : goal.loop-line_kind-preserved
loop-line_kind-preserved c =
    let here = form_here c.args.line_kinds.now c.loop-line_kind.line_kind-index Class c.args.first.now (bytes_of_texts c.args.words.now) c.loop-line_kind-test.true in
    rw (← c.loop-line_kind.invariant, here, ← c.in_ok-operands.ensures, c.in-None.is) refl
