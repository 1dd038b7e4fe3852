-- What contracts see of the debug heap, from what it holds, and what it keeps.
use Rattle.std.specs.Prelude.{◌≡◌, ◌⊎◌, ℕ, ◌*◌, ◌≤◌, [], All, true, false, is_some, length, min}
use Rattle.wb_heap_model.specs.Debug.{Debug}
use Rattle.wb_heap_model.specs.LimitedHeap.{IsSoundHeap, space_in}
use Rattle.wb_heap_model.specs.Placement.{placement_of}
use Rattle.wb_heap_model.specs.Row.{headers}
use Rattle.wb_heap_model.specs.Space.{Space, limit_under}
use Rattle.wb_debug.specs.Log.{top_in}
use Rattle.wb_debug.specs.Setting.{setting_of}
use Rattle.wb_debug.specs.Tally.{IsTally}
use Rattle.wb_debug.specs.declared.debug_heap.DebugHeap.TheInside.{Inside}

abbrev pub debug_of : Inside → Debug
debug_of inside = record {
  heap = record {
    row = inside.heap.row;
    level = inside.level;
    setting = setting_of inside.setting;
    placement = placement_of inside.heap.shape;
  };
  rule = inside.rule;
  shape = inside.heap.shape;
  committed = inside.heap.committed;
  attempts = inside.attempts;
  trace = inside.log.trace;
  rises = inside.log.rises;
}

-- a length that the committed one may have had: the least, or a number of steps, but no more than the bound
abbrev pub IsStepped : Space → ℕ → Type 0
IsStepped space length = (length ≡ space.least) ⊎ ((steps : ℕ) × (length ≡ min (steps * space.step) space.bound))

-- The heap's limit is the rule's, each live cell has the number of an attempt that was made, and each attempt has its line, unless
-- the rises are kept. The tally is that of the live cells. The memory that is held reaches up to the last rise's end, so that no cell below it takes more.
pub record IsKept (inside : Inside) : Type 0 where
  pub sound : IsSoundHeap inside.heap
  pub limit : inside.heap.limit ≡ limit_under inside.rule
  pub numbered : All (λ h. h.number ≤ inside.attempts) (headers inside.heap.row)
  pub counted : is_some inside.log.rises ≡ false → inside.attempts ≡ length inside.log.trace
  pub untraced : is_some inside.log.rises ≡ true → inside.log.trace ≡ []
  pub stepped : IsStepped (space_in inside.heap) inside.heap.held
  pub reached : top_in inside.log.rises ≤ inside.heap.held
  pub tallied : IsTally inside.tally (headers inside.heap.row)
