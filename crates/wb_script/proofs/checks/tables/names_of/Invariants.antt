use Rattle.std.proofs.Common.{◌≡◌, ◌≤◌, length}
use Rattle.std.specs.Borrow.{Bor}
use Rattle.std.specs.HashMap.{get_by}
use Rattle.std.specs.Str.{bytes_eq}
use Rattle.wb_language.specs.Names.{Text}
use Rattle.wb_script.proofs.names.Tables.{named_from}
use Rattle.wb_script.proofs.checks.tables.names_of.Given as goal

-- of the items from this index on
abbrev pub invariant-loop-at : goal.invariant-loop-at
invariant-loop-at l = record {
  within : l.at ≤ length l.items;
  so_far : (name : Bor Text) → get_by (λ k. bytes_eq name.now k.now) l.named ≡ named_from l.items l.at name.now;
}

abbrev pub decreases-loop-at : goal.decreases-loop-at
decreases-loop-at l = l.at
