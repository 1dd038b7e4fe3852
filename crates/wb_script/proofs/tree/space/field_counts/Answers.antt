use Rattle.std.proofs.Common.{◌≤◌, sym, ap, subst, ◌∙◌, ◌++◌, ◌∷◌, [], take, length}
use Rattle.std.proofs.lemmas.List.{take_more}
use Rattle.wb_basics.specs.declared.limits.TheConstants.{MOST_FIELDS}
use Rattle.wb_script.specs.declared.checks.items.Declaration.{Declaration}
use Rattle.wb_script.specs.BytesOf.{fields_among, bytes_of_items}
use Rattle.wb_script.proofs.counts.FieldCounts.{counted_more, few_fields}
use Rattle.wb_script.proofs.tree.space.field_counts.Goals as goal

pub add_count-requires : goal.add_count-requires
add_count-requires c = λ is.
    subst (λ (i : Declaration). length i.fields ≤ MOST_FIELDS) (sym c.item-item.is)
    (few_fields c.args.items.now c.loop-item.item-index c.item-item.result c.loop-item-test.true (ap (λ (i : Declaration). i.kind) (sym c.item-item.is) ∙ is) c.requires)

pub loop-item-preserved : goal.loop-item-preserved
loop-item-preserved c =
    let front = take c.loop-item.item-index c.args.items.now in
    let more = take_more c.args.items.now c.loop-item.item-index c.item-item.result c.loop-item-test.true ∙ ap (λ (i : Declaration). front ++ i ∷ []) (sym c.item-item.is) in
    c.in_ok-add_count.ensures ∙ ap (λ l. l ++ fields_among (bytes_of_items (c.item-item.result ∷ []))) c.loop-item.invariant
    ∙ sym (ap (λ l. fields_among (bytes_of_items l)) more ∙ counted_more front c.item-item.result)
