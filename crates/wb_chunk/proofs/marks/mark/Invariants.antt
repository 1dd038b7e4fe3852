-- So many blocks are marked, and none has lost its mark.
use Rattle.std.proofs.Common.{◌≡◌, ℕ, ◌/◌, ◌<◌, ◌≤◌, ◌⊎◌, false, get_or}
use Rattle.wb_chunk.proofs.marks.mark.Given as goal

abbrev pub invariant-loop-block : goal.invariant-loop-block
invariant-loop-block l = (j : ℕ) → get_or l.marks j false ≡ false → (get_or l.fn.marks j false ≡ false) × ((j < l.first / 256) ⊎ (l.block ≤ j))
