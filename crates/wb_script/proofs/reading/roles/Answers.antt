use Rattle.std.proofs.Common.{ap, map, sym}
use Rattle.std.proofs.lemmas.List.{take_all}
use Rattle.wb_language.specs.Forms.{role_of_form}
use Rattle.wb_script.proofs.lists.Passes.{map_more}
use Rattle.wb_script.proofs.reading.roles.Goals as goal

pub loop-form-preserved : goal.loop-form-preserved
loop-form-preserved g c =
    let more = map_more role_of_form c.args.forms.now c.loop-form.form-index c.form-item.result c.loop-form-test.true c.form-item.is in
    rw (c.in_ok-add.ensures, c.loop-form.invariant, c.role.ensures) (sym more)

pub returns : goal.returns
returns g c = rw c.loop-form.invariant (ap (map role_of_form) (take_all c.loop-form.form-index c.args.forms.now c.loop-form-test.false))
