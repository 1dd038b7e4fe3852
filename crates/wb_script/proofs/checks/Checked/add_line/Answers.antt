use Rattle.std.proofs.Common.{◌∙◌, ◌++◌, ◌∷◌, [], ap, length, refl}
use Rattle.std.proofs.lemmas.List.{length_push}
use Rattle.wb_lines.specs.BytesOf.{bytes_of_form}
use Rattle.wb_script.specs.BytesOf.{bytes_of_items}
use Rattle.wb_language.specs.Resolved.{resolved_line}
use Rattle.wb_script.specs.Checks.{known_in}
use Rattle.wb_script.proofs.names.CheckedLemmas.{one_more_checked, skipped_checked}
use Rattle.wb_script.proofs.checks.Checked.add_line.Goals as goal

pub returns-clause-checked : goal.returns-clause-checked
returns-clause-checked c = λ before checked.
    one_more_checked (bytes_of_items c.args.items.now) before (bytes_of_form c.args.form.now) c.args.self.now _ _ checked
    (c.len-number.ensures ∙ ap length c.in_ok-add.ensures.added ∙ length_push c.args.self.now.lines _)
    c.in_ok-add.ensures.added
    c.in_ok-add_line.ensures.known
    c.in_ok-add_line.ensures.literals
    c.with-self.ensures.unknown_name
    c.with-self.ensures.double_name
    c.with-self.ensures.wrong_kind
    c.with-self.ensures.may_leave
    c.with-self.ensures.too_many

pub returns-in-Skip-clause-checked : goal.returns-in-Skip-clause-checked
returns-in-Skip-clause-checked c = λ before checked.
    let items = bytes_of_items c.args.items.now in
    let known = known_in c.args.self.now.known in
    let lines = c.in_ok-add.ensures.added ∙ ap (λ f. c.args.self.now.lines ++ resolved_line items known (bytes_of_form f) ∷ []) c.in-Skip.is in
    rw c.in-Skip.is (skipped_checked items before c.args.self.now _ checked lines refl refl)
