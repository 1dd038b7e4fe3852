-- What a region ends as, once the slice of its words that it lent has ended.
use Rattle.std.specs.Prelude.{ℕ, List}
use Rattle.std.specs.Borrow.{Fml, RattleType, MutBor, Array, Lends, u32}
use Rattle.std.specs.declared.alloc.Allocator.{Ghosts}
use Rattle.wb_chunk.specs.declared.region.Region.{Region}
use Rattle.wb_chunk.specs.contracts.region.Region.{the_row}

abbrev pub with_words : {X : Type 0} → Region X → List ℕ → Region X
with_words r words = record { start = r.start; mark = r.mark; words = words; capacity = r.capacity; alloc = r.alloc }

abbrev pub lends_words : (R : RattleType) (g : Ghosts R.Denot) → MutBor (Region R.Denot) → MutBor (List ℕ) → Fml
lends_words R g r s = Lends (the_row R g) (Array u32 0) r s (with_words r.now)
