-- The free cells that words link, in order of place.
use Rattle.std.specs.Prelude.{ℕ, ◌+◌, ◌-◌, ◌*◌, ◌/◌, ◌≡◌, ◌≤◌, ◌<◌, List, [], ◌∷◌, length, slice_index, slice_set, nat_eq, if◌then◌else◌}
use Rattle.std.specs.List.{replace_range}
use Rattle.wb_chunk.specs.declared.TheConstants.{MOST_WORDS}

-- the link of the last free cell
abbrev pub NO_PLACE : ℕ
NO_PLACE = 4294967295

-- a free cell
pub record Gap : Type 0 where
  pub place : ℕ
  pub length : ℕ

-- from a place on the words link just these free cells, each of which has its length in its first word
abbrev pub Links : List ℕ → ℕ → List Gap → Type 0
Links words at [] = at ≡ NO_PLACE
Links words at (g ∷ gs) =
    (at ≡ g.place) × (slice_index words (g.place / 16 * 4) ≡ g.length) × (g.place / 16 * 4 + 4 ≤ length words) × (g.place < NO_PLACE)
    × (g.place < slice_index words (g.place / 16 * 4 + 2)) × Links words (slice_index words (g.place / 16 * 4 + 2)) gs

-- the place of the last one, or of what came before where there is none
abbrev pub last_place_or : List Gap → ℕ → ℕ
last_place_or [] none = none
last_place_or (g ∷ gs) none = last_place_or gs g.place

-- the place of the last one, or NO_PLACE where there is none
abbrev pub last_place : List Gap → ℕ
last_place gaps = last_place_or gaps NO_PLACE

-- the place of the first one, or NO_PLACE where there is none
abbrev pub first_place : List Gap → ℕ
first_place [] = NO_PLACE
first_place (g ∷ gs) = g.place

-- all begin below a place
abbrev pub AreBelow : ℕ → List Gap → Type 0
AreBelow place [] = Unit {0}
AreBelow place (g ∷ gs) = (g.place < place) × AreBelow place gs

-- none begins below a place
abbrev pub AreFrom : ℕ → List Gap → Type 0
AreFrom place [] = Unit {0}
AreFrom place (g ∷ gs) = (place ≤ g.place) × AreFrom place gs

-- the place of the last one but one, where the two before them are given
abbrev pub prior_place_or : List Gap → ℕ → ℕ → ℕ
prior_place_or [] prior before = prior
prior_place_or (g ∷ gs) prior before = prior_place_or gs before g.place

-- where the cell at a place ends
abbrev pub end_at : List ℕ → ℕ → ℕ
end_at words place = place + slice_index words (place / 16 * 4)

-- the neighbours of a place that has these free cells below it and these from it on; the last but one counts where the last ends at the place
pub record IsRound (words : List ℕ) (place : ℕ) (low high : List Gap) (prior before after : ℕ) : Type 0 where
  pub second : end_at words before ≡ place → prior ≡ prior_place_or low NO_PLACE NO_PLACE
  pub below : before ≡ last_place low
  pub above : after ≡ first_place high

-- the words once one follows another
abbrev pub linked_words : List ℕ → ℕ → ℕ → List ℕ
linked_words words before next = if nat_eq before NO_PLACE then words else slice_set words (before / 16 * 4 + 2) next

-- the first free cell once one follows another
abbrev pub linked_first : ℕ → ℕ → ℕ → ℕ
linked_first first before next = if nat_eq before NO_PLACE then next else first

-- the free cell that follows a number of bytes of a free cell
abbrev pub next_past : List ℕ → ℕ → ℕ → ℕ
next_past words place bytes =
    if nat_eq (slice_index words (place / 16 * 4) - bytes) 0 then slice_index words (place / 16 * 4 + 2) else place + bytes

-- the words once it was parted there
abbrev pub parted_words : List ℕ → ℕ → ℕ → List ℕ
parted_words words place bytes =
    if nat_eq (slice_index words (place / 16 * 4) - bytes) 0 then words else
    replace_range words ((place + bytes) / 16 * 4) ((place + bytes) / 16 * 4 + 4)
    ((slice_index words (place / 16 * 4) - bytes) ∷ 0 ∷ slice_index words (place / 16 * 4 + 2) ∷ 0 ∷ [])

-- the words at the place are a cell's, which ends within them
pub record IsWithin (words : List ℕ) (place : ℕ) : Type 0 where
  pub least : 16 ≤ slice_index words (place / 16 * 4)
  pub end : place + slice_index words (place / 16 * 4) ≤ 4 * length words
  pub bounded : length words ≤ MOST_WORDS
