use Rattle.std.proofs.Common.{◌≡◌}
use Rattle.std.specs.Str.{bytes_eq}
use Rattle.wb_language.specs.Names.{first_declaration_of}
use Rattle.wb_lines.specs.BytesOf.{bytes_of_text, bytes_of_texts}
use Rattle.wb_script.proofs.lists.Passes.{found_from}
use Rattle.wb_script.proofs.checks.names.place_of.Given as goal

abbrev pub invariant-loop-index : goal.invariant-loop-index
invariant-loop-index l = found_from bytes_of_text (λ s n. s) (λ s n. bytes_eq n l.name) l.names l.index (tt {0}) ≡ first_declaration_of (bytes_of_texts l.names) l.name
