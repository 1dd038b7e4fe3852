use Rattle.std.proofs.Common.{◌≡◌, ◌∙◌, ap, sym, subst, length, set}
use Rattle.std.proofs.lemmas.List.{length-set}
use Rattle.std.specs.Prelude.{List}
use Rattle.std.specs.List.{refill}
use Rattle.arrayvec.proofs.ArrayVecLemmas.{items-with_items}
use Rattle.wb_debug.specs.declared.level_counts.LevelCount.{LevelCount}
use Rattle.wb_debug.specs.LevelCounts.{Edits, IsAt, LevelCounts, set_at}
use Rattle.wb_debug.proofs.LevelCounts.{edits-set, sets-there}
use Rattle.wb_debug.proofs.level_counts.LevelCounts.replace.Goals as goal

-- the level had a count, and it is written over
pub returns : goal.returns
returns c =
    let cs = c.self.inside.counts.items in
    let level = c.args.level in
    let cells = c.args.cells in
    let found = subst (λ (t : LevelCounts). IsAt t.counts level c.args.at) (sym c.self.view_is) c.requires in
    let written = λ (xs : List LevelCount). set xs c.args.at (record { level = level; cells = cells }) in
    let kept : refill (length cs) cs (written c.deref_mut.result.now) ≡ written cs =
    ap (λ (xs : List LevelCount). refill (length cs) cs (written xs)) c.deref_mut.ensures.value
    ∙ items-with_items c.self.inside.counts (written cs) (length-set cs c.args.at (record { level = level; cells = cells })) in
    subst (λ (t : LevelCounts). Edits (set_at t.counts level cells) t
    (record { counts = refill (length cs) cs (written c.deref_mut.result.now); known_from = c.self.inside.known_from })) c.self.view_is
    (edits-set cs (refill (length cs) cs (written c.deref_mut.result.now)) c.self.inside.known_from level cells
    (rw kept (sets-there cs c.self.invariant level c.args.at found cells)))
