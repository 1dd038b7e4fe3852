-- The lines of bytes, the words of a line, and which bytes no line holds.
use Rattle.std.specs.Prelude.{ℕ, List, [], ◌∷◌, Bool, true, false, not, ◌&&◌, ◌||◌, ◌==◌, nat_le, nat_lt, if◌then◌else◌, Option, length}
use Rattle.std.specs.List.{flat_map, list_any, position_from}
use Rattle.wb_basics.specs.declared.limits.TheConstants.{LONGEST_SCRIPT}

-- a blank, a tab or a carriage return
abbrev pub is_blank : ℕ → Bool
is_blank byte = byte == 32 || byte == 9 || byte == 13

-- What ends a piece of bytes: a test of whether quotes are open, and of a byte.
abbrev pub Separator : Type 0
Separator = Bool → ℕ → Bool

-- a line feed ends a line, also between quotes
abbrev pub ends_line : Separator
ends_line quoted byte = byte == 10

-- a blank ends a word, but not between quotes
abbrev pub ends_word : Separator
ends_word quoted byte = not quoted && is_blank byte

-- whether quotes are open after a byte
abbrev pub quoted_after : Bool → ℕ → Bool
quoted_after quoted byte = if byte == 34 then not quoted else quoted

abbrev pub onto_first : ℕ → List (List ℕ) → List (List ℕ)
onto_first byte [] = (byte ∷ []) ∷ []
onto_first byte (piece ∷ pieces) = (byte ∷ piece) ∷ pieces

-- the pieces of bytes, the empty ones too; an end that is the last byte begins no further piece
abbrev pub pieces_from : Separator → Bool → List ℕ → List (List ℕ)
pieces_from ends quoted [] = []
pieces_from ends quoted (byte ∷ bytes) =
    elim (ends quoted byte) [
      | true ↦ [] ∷ pieces_from ends false bytes
      | false ↦ onto_first byte (pieces_from ends (quoted_after quoted byte) bytes)
    ]

abbrev pub pieces : Separator → List ℕ → List (List ℕ)
pieces ends = pieces_from ends false

-- the lines, without their line feeds
abbrev pub lines_of : List ℕ → List (List ℕ)
lines_of = pieces ends_line

abbrev pub unless_empty : List ℕ → List (List ℕ)
unless_empty [] = []
unless_empty (byte ∷ bytes) = (byte ∷ bytes) ∷ []

-- the words of a line
abbrev pub words_of : List ℕ → List (List ℕ)
words_of line = flat_map unless_empty (pieces ends_word line)

-- a byte that no line holds: none but blanks, tabs, carriage returns and printable ASCII are in lines
abbrev pub is_foreign : ℕ → Bool
is_foreign byte = not (is_blank byte || byte == 10 || (nat_le 32 byte && nat_le byte 126))

-- the number of the first line with such a byte; lines count from 1
abbrev pub first_foreign_line : List ℕ → Option ℕ
first_foreign_line bytes = position_from (list_any is_foreign) 1 (lines_of bytes)

-- more bytes than a script may have
abbrev pub is_too_long : List ℕ → Bool
is_too_long bytes = nat_lt LONGEST_SCRIPT (length bytes)
