-- What `take` needs and leaves.
use Rattle.std.proofs.Common.{◌≡◌, ◌≢◌, ℕ, ◌+◌, ◌-◌, ◌*◌, ◌/◌, ◌%◌, ◌<◌, ◌≤◌, ◌⊎◌, inl, inr, List, ◌∷◌, ◌++◌, length, Bool, replicate, sym, ◌∙◌, ap, subst, arith}
use Rattle.std.proofs.lemmas.Bool.{cases_eq}
use Rattle.std.proofs.lemmas.List.{length-replicate}
use Rattle.wb_heap_model.specs.declared.heap.Header.{Header}
use Rattle.wb_heap_model.specs.Row.{Cell, headers, inserted}
use Rattle.wb_heap_model.specs.CellRow.{CellRow, IsGap}
use Rattle.wb_heap_model.specs.LimitedHeap.{zero_words}
use Rattle.wb_heap_model.specs.Spelling.{spelled}
use Rattle.wb_cells.specs.declared.free_list.Ends.{Ends}
use Rattle.wb_cells.specs.FreeList.{Gap, Links, AreBelow, AreFrom, last_place}
use Rattle.wb_cells.specs.Holes.{IsOpenable, IsOpened, IsRaised}
use Rattle.wb_cells.specs.Inside.{IsLaid, cells_in}
use Rattle.wb_cells.specs.Segments.{Segment, free, state_of, total, cell_from, row_from}
use Rattle.wb_cells.proofs.Laying.{spelled-laid}
use Rattle.wb_cells.proofs.Linking.{gaps_from, links_laid}
use Rattle.wb_cells.proofs.Rounds.{low_high, below_front, above_front, last_of_low}
use Rattle.wb_cells.proofs.Rooms.{IsRoom, room_in}
use Rattle.wb_cells.proofs.Placing.{IsPlaced, written, placed_above, spelled-taken, length-written}
use Rattle.wb_cells.proofs.Opening.{openable, placed_in}

module _ (words : List ℕ) (starts : List Bool) (top first : ℕ) (laid : IsLaid words starts top first) (place bytes : ℕ) (rounded : bytes % 16 ≡ 0) (least : 16 ≤ bytes)
    (row : List (Cell (List ℕ))) (is : spelled words top ≡ row) (gap : IsGap (headers row) place bytes) where
  gap_laid : IsGap (headers (row_from 0 laid.segments)) place bytes
  gap_laid = subst (λ r. IsGap (headers r) place bytes) (sym is ∙ spelled-laid words starts top first laid) gap

  pub room_laid : place ≢ top → IsRoom place bytes laid.segments
  room_laid low = room_in laid.segments place bytes laid.merged least gap_laid (λ e. low (e ∙ sym laid.ends))

  pub openable_laid : place ≢ top → IsOpenable words place bytes
  openable_laid low = openable words starts top first laid place bytes rounded least (room_laid low)

  pub placed : (words' : List ℕ) (ends : Ends) → place + bytes ≤ 4 * length words → (place ≡ top → IsRaised words words' first place bytes ends) →
      (place ≢ top → (low high : List Gap) → Links words first (low ++ high) → AreBelow place low → AreFrom place high →
      IsOpened words words' first top place bytes (last_place low) ends) → IsPlaced words' starts ends.top ends.first place bytes laid.segments
  placed words' ends within raised opened = go (cases_eq place top)
    where
      go : (place ≡ top) ⊎ (place ≡ top → ⊥) → IsPlaced words' starts ends.top ends.first place bytes laid.segments
      go (inl same) =
          let r = raised same in
          let up : top + bytes ≤ 4 * length words = omega (arith, same, within) in
          let p = placed_above words starts top first laid bytes rounded up in
          let q = subst (λ n. IsPlaced words starts (n + bytes) first n bytes laid.segments) (sym same) p in
          subst (λ e. IsPlaced words' starts e.top e.first place bytes laid.segments) (sym r.now)
          (subst (λ ws. IsPlaced ws starts (place + bytes) first place bytes laid.segments) (sym r.same) q)
      go (inr low) =
          let room = room_laid low in
          let rest = free room.body ∷ room.back in
          let links = subst (λ ys. Links words first (gaps_from 0 ys)) room.is (links_laid words starts top first laid) in
          let o = opened low (gaps_from 0 room.front) (gaps_from (total room.front) rest) (low_high words first room.front rest links)
          (subst (λ n. AreBelow n (gaps_from 0 room.front)) (sym room.here) (below_front words first room.front rest links))
          (subst (λ n. AreFrom n (gaps_from (total room.front) rest)) (sym room.here) (above_front words first room.front rest links)) in
          placed_in words starts top first laid place bytes rounded least room words' ends
          (subst (λ b. IsOpened words words' first top place bytes b ends) (last_of_low words first room.front rest links) o)

-- what contracts see once a cell was taken
pub view_taken : (words words' : List ℕ) (starts : List Bool) (top top' first place bytes : ℕ) (segments : List Segment)
    (hole : IsPlaced words' starts top' first place bytes segments) (rounded : bytes % 16 ≡ 0) (least : 16 ≤ bytes) (header : Header) (now : CellRow) →
    header.place ≡ place → header.length ≡ bytes → 1 ≤ header.number → state_of header.kind < 65552 → length words' ≡ length words → spelled words top ≡ row_from 0 segments → cells_in words top ≡ now →
    cells_in (written words' starts top' first place bytes segments hole rounded least header.kind header.level header.number) top' ≡
    record now { row = inserted (record { head = header; content = zero_words bytes }) now.row }
view_taken words words' starts top top' first place bytes segments hole rounded least header now here long numbered bound same_length old is =
    let n : bytes / 16 * 4 - 4 ≡ bytes / 4 - 4 = omega (arith, rounded) in
    let size : 16 + 4 * length (replicate (bytes / 16 * 4 - 4) 0) ≡ header.length =
    rw length-replicate (omega (arith, long, rounded, least)) in
    let cell : cell_from place header.kind header.level header.number (replicate (bytes / 16 * 4 - 4) 0) ≡ record { head = header; content = zero_words bytes } =
    λ i. record {
      head = record { place = sym here i; length = size i; kind = header.kind; level = header.level; number = header.number };
      content = replicate (n i) 0;
    } in
    let row : spelled (written words' starts top' first place bytes segments hole rounded least header.kind header.level header.number) top' ≡
    inserted (record { head = header; content = zero_words bytes }) now.row =
    spelled-taken words' starts top' first place bytes segments hole rounded least header.kind header.level header.number numbered bound
    ∙ ap (λ c. inserted c (row_from 0 segments)) cell
    ∙ ap (inserted (record { head = header; content = zero_words bytes })) (sym old ∙ ap (λ v. v.row) is) in
    let held : 4 * length (written words' starts top' first place bytes segments hole rounded least header.kind header.level header.number) ≡ now.held =
    ap (λ n. 4 * n) (length-written words' starts top' first place bytes segments hole rounded least header.kind header.level header.number ∙ same_length)
    ∙ ap (λ v. v.held) is in
    λ i. record { row = row i; held = held i }
