-- Where no difference was met, the words before this one are the same.
use Rattle.std.proofs.Common.{◌≡◌, true}
use Rattle.wb_chunk.specs.Marks.{AreSameWords}
use Rattle.wb_chunk.proofs.marks.same_words.Given as goal

abbrev pub invariant-loop-i : goal.invariant-loop-i
invariant-loop-i l = l.same ≡ true → AreSameWords l.words l.others l.first l.i
