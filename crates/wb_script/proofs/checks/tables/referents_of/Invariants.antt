use Rattle.std.proofs.Common.{◌≡◌, ◌++◌, ◌+◌, drop}
use Rattle.wb_script.specs.BytesOf.{bytes_of_items}
use Rattle.wb_script.specs.Tables.{no_counts, referents_from}
use Rattle.wb_script.proofs.checks.tables.referents_of.Given as goal

abbrev pub invariant-loop-item : goal.invariant-loop-item
invariant-loop-item l = record {
  counted : l.counts.classes + l.counts.procedures + l.counts.operations ≡ l.item-index;
  so_far : l.found.items ++ referents_from l.counts (bytes_of_items (drop l.item-index l.items)) ≡ referents_from no_counts (bytes_of_items l.items);
}
