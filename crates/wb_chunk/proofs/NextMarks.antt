-- The first mark of many blocks is the first of those that were looked at together.
use Rattle.std.proofs.Common.{◌≡◌, ℕ, ◌<◌, ◌≤◌, ◌⊎◌, inl, inr, List, Bool, true, false, arith, get_or}
use Rattle.std.proofs.lemmas.Bool.{cases_lt}
use Rattle.wb_chunk.specs.Marks.{AreUnmarked, IsNextInEither, IsNextMarked}

-- the blocks up to another have no mark, and those after it have none up to a third
pub unmarked-on : (marks : List Bool) (from block next : ℕ) → AreUnmarked marks from block → AreUnmarked marks block next → AreUnmarked marks from next
unmarked-on marks from block next before after k ge lt = at (cases_lt k block)
  where
    at : (k < block) ⊎ (block ≤ k) → get_or marks k false ≡ false
    at (inl less) = before k ge less
    at (inr more) = after k more lt

pub next-marked : (marks : List Bool) (from end block next at : ℕ) → from ≤ block → next ≤ end → AreUnmarked marks from block → IsNextMarked marks block next at →
    (AreUnmarked marks block next → ⊥) → IsNextMarked marks from end at
next-marked marks from end block next at ge le before is some = record {
  after = omega (arith, ge, is.after);
  within = omega (arith, le, is.within);
  passed = unmarked-on marks from block at before is.passed;
  found = λ _. here (cases_lt at next);
}
  where
    here : (at < next) ⊎ (next ≤ at) → get_or marks at false ≡ true
    here (inl less) = is.found less
    here (inr more) = absurd (some (λ k far lt. is.passed k far (omega (arith, lt, more))))

pub next-in-either : (marks others : List Bool) (from end block next at : ℕ) → from ≤ block → next ≤ end → AreUnmarked marks from block → AreUnmarked others from block →
    IsNextInEither marks others block next at → (AreUnmarked marks block next → AreUnmarked others block next → ⊥) → IsNextInEither marks others from end at
next-in-either marks others from end block next at ge le before clear is some = record {
  after = omega (arith, ge, is.after);
  within = omega (arith, le, is.within);
  passed = (unmarked-on marks from block at before is.passed.0, unmarked-on others from block at clear is.passed.1);
  found = λ _. here (cases_lt at next);
}
  where
    here : (at < next) ⊎ (next ≤ at) → (get_or marks at false ≡ true) ⊎ (get_or others at false ≡ true)
    here (inl less) = is.found less
    here (inr more) = absurd (some (λ k far lt. is.passed.0 k far (omega (arith, lt, more))) (λ k far lt. is.passed.1 k far (omega (arith, lt, more))))
