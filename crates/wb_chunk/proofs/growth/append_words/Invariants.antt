use Rattle.std.proofs.Common.{◌≡◌, ◌+◌, ◌++◌, take}
use Rattle.wb_chunk.proofs.growth.append_words.Given as goal

abbrev pub invariant-loop-word : goal.invariant-loop-word
invariant-loop-word l =
    (l.next ≡ l.count + l.word-index) × (l.region.words ≡ l.initial.region.words ++ take l.word-index l.words)
    × (l.region.capacity ≡ l.initial.region.capacity) × (l.region.alloc ≡ l.initial.region.alloc)
