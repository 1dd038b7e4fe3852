use Rattle.std.proofs.Common.{◌≡◌, take}
use Rattle.wb_script.specs.BytesOf.{fields_among, bytes_of_items}
use Rattle.wb_script.proofs.tree.space.field_counts.Given as goal

abbrev pub invariant-loop-item : goal.invariant-loop-item
invariant-loop-item l = l.counts.items ≡ fields_among (bytes_of_items (take l.item-index l.items))
