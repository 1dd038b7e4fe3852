use Rattle.std.proofs.Common.{◌≡◌, ◌+◌, ◌≤◌, drop}
use Rattle.wb_language.specs.Names.{count_among}
use Rattle.wb_script.specs.BytesOf.{bytes_of_items}
use Rattle.wb_script.proofs.checks.items.count_among.Given as goal

abbrev pub invariant-loop-item : goal.invariant-loop-item
invariant-loop-item l = record {
  within : l.count ≤ l.item-index;
  so_far : l.count + count_among l.kind (bytes_of_items (drop l.item-index l.items)) ≡ count_among l.kind (bytes_of_items l.items);
}
