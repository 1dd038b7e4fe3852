-- The rises of a trace, in words: the granted lines that end past every granted line before them.
use Rattle.std.specs.Prelude.{◌≡◌, ◌↔◌, ℕ, ◌<◌, List, Some, slice_get}
use Rattle.wb_heap_model.specs.declared.heap.Answer.TheVariants.{Granted}
use Rattle.wb_heap_model.specs.declared.heap.Attempt.{Attempt}
use Rattle.wb_heap_model.specs.declared.size.Rise.{Rise}
use Rattle.wb_heap_model.specs.Reported.{end_of_attempt}

-- a granted line has this number and this end, which is past 0 and past the end of every granted line before
pub record IsRiseOf (trace : List Attempt) (rise : Rise) : Type 0 where
  pub at : ℕ
  pub line : Attempt
  pub there : slice_get trace at ≡ Some line
  pub granted : line.answer ≡ Granted
  pub numbered : rise.number ≡ line.number
  pub ends : rise.top ≡ end_of_attempt line
  pub above_zero : 0 < rise.top
  pub highest : (k : ℕ) (t : Attempt) → k < at → slice_get trace k ≡ Some t → t.answer ≡ Granted → end_of_attempt t < rise.top

-- a rise is listed
pub record IsListed (rises : List Rise) (rise : Rise) : Type 0 where
  pub at : ℕ
  pub there : slice_get rises at ≡ Some rise

-- exactly the rises of the trace are listed, each once, by ascending ends, which is the order of their lines
pub record AreRises (trace : List Attempt) (rises : List Rise) : Type 0 where
  pub exactly : (rise : Rise) → IsListed rises rise ↔ IsRiseOf trace rise
  pub ascending : (j k : ℕ) (r s : Rise) → j < k → slice_get rises j ≡ Some r → slice_get rises k ≡ Some s → r.top < s.top
