use Rattle.std.proofs.Common.{sym, subst}
use Rattle.wb_debug.specs.LevelCounts.{Edits, IsAt, LevelCounts, no_cells, set_at}
use Rattle.wb_debug.proofs.LevelCounts.{edits-set, rises-removed, sets-nothing, sets-removed}
use Rattle.wb_debug.proofs.level_counts.LevelCounts.remove.Goals as goal

pub invariant_of-self : goal.invariant_of-self
invariant_of-self c =
    let found = subst (λ (t : LevelCounts). IsAt t.counts c.args.level c.in-Ok.at) (sym c.self.view_is) c.in-Ok.ensures.found in
    rw c.remove.ensures.items (rises-removed c.self.inside.counts.items c.self.invariant c.args.level c.in-Ok.at found)

pub returns-in-Ok : goal.returns-in-Ok
returns-in-Ok c =
    let found = subst (λ (t : LevelCounts). IsAt t.counts c.args.level c.in-Ok.at) (sym c.self.view_is) c.in-Ok.ensures.found in
    subst (λ (t : LevelCounts). Edits (set_at t.counts c.args.level no_cells) t (record { counts = c.remove.new.self.items; known_from = c.self.inside.known_from }))
    c.self.view_is (edits-set c.self.inside.counts.items c.remove.new.self.items c.self.inside.known_from c.args.level no_cells
    (rw c.remove.ensures.items (sets-removed c.self.inside.counts.items c.self.invariant c.args.level c.in-Ok.at found)))

pub returns-in_default : goal.returns-in_default
returns-in_default c = edits-set _ _ _ _ _ (sets-nothing _ _ _ c.in_default.ensures.absent)
