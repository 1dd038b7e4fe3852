-- As many pairs are where they belong, and the other words are as they were.
use Rattle.std.proofs.Common.{◌≡◌, ℕ, ◌+◌, ◌*◌, ◌/◌, ◌^◌, ◌<◌, ◌≤◌, ◌⊎◌, suc, get_or}
use Rattle.wb_chunk.proofs.halves.write_from_word.Given as goal

abbrev pub invariant-loop-k : goal.invariant-loop-k
invariant-loop-k l = record {
  inside : (j : ℕ) → j < l.k → get_or l.words (l.i / 2 + j) 0 ≡ get_or l.halves (2 * j) 0 + get_or l.halves (suc (2 * j)) 0 * 2 ^ 16;
  outside : (j : ℕ) → (j < l.i / 2) ⊎ (l.i / 2 + l.k ≤ j) → get_or l.words j 0 ≡ get_or l.fn.words j 0;
}
