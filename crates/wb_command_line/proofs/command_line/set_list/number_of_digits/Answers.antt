use Rattle.std.proofs.Common.{◌≡◌, ◌∙◌, Some, ap}
use Rattle.std.specs.Prelude.{slice_get}
use Rattle.wb_command_line.proofs.SetLemmas.{none_apart, plain_word}
use Rattle.wb_command_line.proofs.command_line.set_list.number_of_digits.Goals as goal
use Rattle.wb_command_line.proofs.command_line.set_list.number_of_digits.Goals.{in_default-via-in-Some+in_default, in_default-via-in_default}

pub returns-in_default : goal.returns-in_default
returns-in_default c =
    let no_plus : slice_get c.args.text.now 0 ≡ Some 43 → ⊥ = elim c.in_default.branch [
      | in_default-via-in-Some+in_default w ↦ λ plus.
          let first : Some w.in_default.field-0.now ≡ Some 43 = (rw w.in_default.is at c.first.ensures.value) ∙ ap (λ bytes. slice_get bytes 0) c.as_bytes.ensures.value ∙ plus in
          w.in_default.field-0-test.1 (cc)
      | in_default-via-in_default w ↦ λ plus.
          none_apart 43 ((rw w.in_default.is at c.first.ensures.value) ∙ ap (λ bytes. slice_get bytes 0) c.as_bytes.ensures.value ∙ plus)
    ] in
    c.ok.ensures.value ∙ plain_word c.args.text.now c.parse.result c.parse.ensures.value.0 no_plus
