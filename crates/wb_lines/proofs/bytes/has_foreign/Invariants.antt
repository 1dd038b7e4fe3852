use Rattle.std.proofs.Common.{◌≡◌, ◌||◌, drop}
use Rattle.std.specs.List.{list_any}
use Rattle.wb_language.specs.Lines.{is_foreign}
use Rattle.wb_lines.proofs.bytes.has_foreign.Given as goal

abbrev pub invariant-loop-byte : goal.invariant-loop-byte
invariant-loop-byte l = (l.found || list_any is_foreign (drop l.byte-index l.bytes)) ≡ list_any is_foreign l.bytes
