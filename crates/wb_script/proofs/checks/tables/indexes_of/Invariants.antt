use Rattle.std.proofs.Common.{◌≡◌, ◌++◌, drop}
use Rattle.wb_script.specs.BytesOf.{bytes_of_items}
use Rattle.wb_script.specs.Tables.{indexes_from}
use Rattle.wb_script.proofs.checks.tables.indexes_of.Given as goal

abbrev pub invariant-loop-index : goal.invariant-loop-index
invariant-loop-index l = l.found.items ++ indexes_from l.kind l.index (bytes_of_items (drop l.index l.items)) ≡ indexes_from l.kind 0 (bytes_of_items l.items)
