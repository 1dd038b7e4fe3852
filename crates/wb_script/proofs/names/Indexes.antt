-- The index of an item among those of its kind has 16 bits.
use Rattle.std.proofs.Common.{ℕ, suc, ◌<◌, ◌≤◌, List, [], ◌∷◌, Bool, true, false, length, arith}
use Rattle.std.specs.Prelude.{if◌then◌else◌}
use Rattle.std.proofs.lemmas.List.{length-map}
use Rattle.wb_basics.specs.declared.limits.TheConstants.{LONGEST_SCRIPT}
use Rattle.wb_tree.specs.declared.script_lines.ItemKind.{ItemKind}
use Rattle.wb_language.specs.Names as model
use Rattle.wb_language.specs.Names.{count_among, is_same_kind, of_kind}
use Rattle.wb_script.specs.declared.checks.items.Declaration.{Declaration}
use Rattle.wb_script.specs.BytesOf.{bytes_of_item, bytes_of_items}

few_of_kind : (kind : ItemKind) (items : List model.Declaration) → length (of_kind kind items) ≤ length items
few_of_kind kind [] = omega arith
few_of_kind kind (i ∷ items) = with_one (is_same_kind i.kind kind) (few_of_kind kind items)
  where
    with_one : (same : Bool) → length (of_kind kind items) ≤ length items → length (if same then (i ∷ of_kind kind items) else of_kind kind items) ≤ suc (length items)
    with_one true few = omega (arith, few)
    with_one false few = omega (arith, few)

pub index_fits : (kind : ItemKind) (items : List Declaration) (index : ℕ) → length items ≤ LONGEST_SCRIPT → index < count_among kind (bytes_of_items items) → index < 65536
index_fits kind items index few lt = omega (arith, few, lt, few_of_kind kind (bytes_of_items items), length-map items bytes_of_item)
