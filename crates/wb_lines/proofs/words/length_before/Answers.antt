use Rattle.std.proofs.Common.{◌≡◌, ℕ, suc, ◌+◌, ◌<◌, List, length, get_or, drop, drop-cons, add-one, arith}
use Rattle.std.proofs.lemmas.Bool.Decides.{nat_tests}
use Rattle.std.proofs.lemmas.List.{drop_all}
use Rattle.wb_language.specs.Words.{length_before}
use Rattle.wb_lines.proofs.words.length_before.Goals as goal

later : (byte : ℕ) (word : List ℕ) (i : ℕ) → i < length word → (get_or word i 0 ≡ byte → ⊥) → length_before byte (drop i word) ≡ suc (length_before byte (drop (i + 1) word))
later byte word i lt other = rw (drop-cons word i 0 lt, add-one i) (grind (arith, nat_tests))

pub loop-index-preserved : goal.loop-index-preserved
loop-index-preserved c = omega (arith, later c.args.byte c.args.word.now c.loop-index.index c.loop-index-test.true c.if-other-byte.false, c.loop-index.invariant)

pub returns-clause-length : goal.returns-clause-length
returns-clause-length c = omega (arith, rw (drop_all c.loop-index.index c.args.word.now c.loop-index-test.false) at c.loop-index.invariant)
