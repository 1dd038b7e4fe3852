-- What every value of `Cells` keeps: its words are segments, its bits are where live cells begin, and its lengths by place
-- are those of the free cells.
use Rattle.std.specs.Prelude.{ℕ, ◌*◌, ◌%◌, ◌≡◌, ◌≢◌, ◌≤◌, List, ◌++◌, Bool, false, length, replicate, AllPairs}
use Rattle.wb_chunk.specs.declared.TheConstants.{MOST_WORDS}
use Rattle.wb_heap_model.specs.CellRow.{CellRow}
use Rattle.wb_heap_model.specs.Row.{headers}
use Rattle.wb_heap_model.specs.Spelling.{spelled}
use Rattle.wb_cells.specs.FreeList.{NO_PLACE}
use Rattle.wb_cells.specs.RowGaps.{AreGapsOf}
use Rattle.wb_cells.specs.Segments.{Segment, total, first_free, words_of, row_from, starts_of, AreWhole, AreMerged}

-- the row that words spell up to a top, and the bytes held
abbrev pub cells_in : List ℕ → ℕ → CellRow
cells_in words top = record { row = spelled words top; held = 4 * length words }

pub record IsLaid (words : List ℕ) (starts : List Bool) (top first : ℕ) : Type 0 where
  pub segments : List Segment
  -- the words past the top, which may be anything
  pub spare : List ℕ
  -- how many bits there are past the top
  pub unset : ℕ
  pub spelled : words ≡ words_of 0 segments NO_PLACE ++ spare
  pub marked : starts ≡ starts_of segments ++ replicate unset false
  pub ends : top ≡ total segments
  pub linked : first ≡ first_free 0 segments NO_PLACE
  pub whole : AreWhole segments
  pub merged : AreMerged segments
  pub numbered : AllPairs (λ g h. g.number ≢ h.number) (headers (row_from 0 segments))
  pub covered : length words ≤ 4 * length starts
  pub rounded : length words % 4 ≡ 0
  pub bounded : length words ≤ MOST_WORDS

pub record IsIndexed (words : List ℕ) (starts : List Bool) (gaps : List ℕ) (top first : ℕ) : Type 0 where
  pub laid : IsLaid words starts top first
  pub listed : AreGapsOf (spelled words top) gaps
  pub room : length words ≤ 4 * length gaps
