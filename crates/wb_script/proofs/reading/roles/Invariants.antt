use Rattle.std.proofs.Common.{◌≡◌, map, take}
use Rattle.wb_language.specs.Forms.{role_of_form}
use Rattle.wb_script.proofs.reading.roles.Given as goal

abbrev pub invariant-loop-form : goal.invariant-loop-form
invariant-loop-form g l = l.found.items ≡ map role_of_form (take l.form-index l.forms)
