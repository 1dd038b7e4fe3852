-- How many items of a kind are among items.
use Rattle.std.proofs.Common.{◌≡◌, sym, ◌∙◌, ◌+◌, List, [], ◌∷◌, length, arith}
use Rattle.std.proofs.lemmas.List.{length-map}
use Rattle.wb_tree.specs.declared.script_lines.ItemKind.{ItemKind}
use Rattle.wb_tree.specs.declared.script_lines.ItemKind.TheVariants as kind
use Rattle.wb_language.specs.Names as model
use Rattle.wb_language.specs.Names.{of_kind, item_of_kind, count_among}
use Rattle.wb_script.specs.declared.checks.items.Declaration.{Declaration}
use Rattle.wb_script.specs.BytesOf.{bytes_of_item, bytes_of_items, fields_among}

all_kinds : (items : List model.Declaration) → length items ≡ count_among kind.Class items + (count_among kind.Procedure items + count_among kind.Operation items)
all_kinds [] = omega arith
all_kinds (i ∷ items) = on i.kind (all_kinds items)
  where
    on : (k : ItemKind) → length items ≡ count_among kind.Class items + (count_among kind.Procedure items + count_among kind.Operation items) →
        length (record i { kind = k } ∷ items) ≡ count_among kind.Class (record i { kind = k } ∷ items) + (count_among kind.Procedure (record i { kind = k } ∷ items) + count_among kind.Operation (record i { kind = k } ∷ items))
    on kind.Class rest = omega (arith, rest)
    on kind.Procedure rest = omega (arith, rest)
    on kind.Operation rest = omega (arith, rest)

-- each item is of one kind
pub all_items : (items : List Declaration) → length items ≡ count_among kind.Class (bytes_of_items items) + (count_among kind.Procedure (bytes_of_items items) + count_among kind.Operation (bytes_of_items items))
all_items items = sym (length-map items bytes_of_item) ∙ all_kinds (bytes_of_items items)

-- each class has its number of fields
pub as_many_classes : (items : List model.Declaration) → length (fields_among items) ≡ count_among kind.Class items
as_many_classes items = length-map (of_kind kind.Class items) (λ i. length i.fields)
