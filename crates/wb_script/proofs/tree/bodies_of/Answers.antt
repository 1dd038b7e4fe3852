use Rattle.std.proofs.Common.{◌≤◌, List, ℕ, IsTrue, length, sym, ap, subst, ◌∙◌}
use Rattle.wb_basics.specs.declared.limits.TheConstants.{MOST_CLASSES}
use Rattle.wb_script.specs.BytesOf.{bytes_of_items, declared_by, fields_among}
use Rattle.wb_script.proofs.counts.FewCounts.{are_small, few_counted, few_declared}
use Rattle.wb_script.proofs.tree.bodies_of.Goals as goal

pub field_counts-requires : goal.field_counts-requires
field_counts-requires c =
    let few = few_counted (declared_by c.args.literals c.args.items.now) c.args.lines.now c.requires.fit in
    subst (λ (l : List ℕ). IsTrue (are_small l)) (c.requires.classes ∙ sym (ap (λ l. fields_among (bytes_of_items l)) c.as_slice.ensures)) few.fields

pub invariant_of-space : goal.invariant_of-space
invariant_of-space c =
    let few = few_declared c.args.literals c.args.items.now c.args.lines.now c.requires.fit c.requires.classes c.requires.procedures c.requires.operations in
    let counted = c.deref.ensures.value ∙ c.in_ok-fields.ensures ∙ ap (λ l. fields_among (bytes_of_items l)) c.as_slice.ensures in
    record { few = few.0; classes = subst (λ (l : List ℕ). length l ≤ MOST_CLASSES) (sym counted) few.1; counted = counted }
