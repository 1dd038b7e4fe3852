-- The line kinds by the first byte of their words.
use Rattle.std.specs.Prelude.{ℕ, List, [], ◌∷◌, Bool, false, nat_eq}
use Rattle.std.specs.List.{filter}
use Rattle.wb_tree.specs.declared.script_lines.LineKind.{LineKind}
use Rattle.wb_language.specs.LineKinds.{line_kinds, text_of}

abbrev pub begins_with : ℕ → List ℕ → Bool
begins_with byte [] = false
begins_with byte (first ∷ rest) = nat_eq first byte

-- Opened only where first bytes are told apart, so that no other goal grows with the number of line kinds.
unfoldable pub line_kinds_with_first : ℕ → List LineKind
line_kinds_with_first byte = filter (λ line_kind. begins_with byte (text_of line_kind)) line_kinds
