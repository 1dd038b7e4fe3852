use Rattle.std.proofs.Common.{◌≡◌, ◌≤◌, ◌-◌, ◌∙◌, length, refl, ap, sym, subst, arith}
use Rattle.std.proofs.lemmas.List.{get_or_default}
use Rattle.std.specs.List.{remove}
use Rattle.wb_debug.specs.declared.level_counts.LevelCount.{LevelCount}
use Rattle.wb_debug.specs.LevelCounts.{Edits, IsGapFor, LevelCounts, level_at, set_at}
use Rattle.wb_debug.proofs.LevelCounts.{edits-past, edits-set, gap-past, no_count, rises-inserted, sets-inserted}
use Rattle.wb_debug.proofs.level_counts.LevelCounts.insert.Goals as goal

-- there is room
pub returns-then-not-is_full : goal.returns-then-not-is_full
returns-then-not-is_full c =
    let cs = c.self.inside.counts.items in
    let count = c.args.count in
    let gap = subst (λ (t : LevelCounts). IsGapFor t.counts count.level c.args.at) (sym c.self.view_is) c.requires in
    subst (λ (t : LevelCounts). Edits (set_at t.counts count.level count.cells) t (record { counts = c.insert.new.self.items; known_from = c.self.inside.known_from }))
    c.self.view_is (edits-set cs c.insert.new.self.items c.self.inside.known_from count.level count.cells
    (rw c.insert.ensures.items (sets-inserted cs count.level c.args.at gap count.cells)))

-- the outermost count makes room
pub invariant_of-self-else-at-eq0-2 : goal.invariant_of-self-else-at-eq0-2
invariant_of-self-else-at-eq0-2 c =
    let cs = c.self.inside.counts.items in
    let count = c.args.count in
    let gap = subst (λ (t : LevelCounts). IsGapFor t.counts count.level c.args.at) (sym c.self.view_is) c.requires in
    let left : c.self-else-at-eq0.inside.counts.items ≡ remove cs 0 =
    ap (λ (t : LevelCounts). t.counts) c.self-else-at-eq0.view_is ∙ c.forget-else-at-eq0.ensures.counts ∙ c.remove-outermost.ensures.items in
    let some : 1 ≤ c.args.at = omega (arith, c.if-at-eq0.false) in
    rw c.insert-else-at-eq0.ensures.items (rises-inserted c.self-else-at-eq0.inside.counts.items count.level (c.args.at - 1)
    (rw left (gap-past cs count.level c.args.at (omega (arith, some, gap.in_range)) some gap)) count.cells c.self-else-at-eq0.invariant)

pub returns-else-at-eq0 : goal.returns-else-at-eq0
returns-else-at-eq0 c =
    let cs = c.self.inside.counts.items in
    let count = c.args.count in
    let gap = subst (λ (t : LevelCounts). IsGapFor t.counts count.level c.args.at) (sym c.self.view_is) c.requires in
    let left : c.self-else-at-eq0.inside.counts.items ≡ remove cs 0 =
    ap (λ (t : LevelCounts). t.counts) c.self-else-at-eq0.view_is ∙ c.forget-else-at-eq0.ensures.counts ∙ c.remove-outermost.ensures.items in
    let later = ap (λ (t : LevelCounts). t.known_from) c.self-else-at-eq0.view_is in
    let some : 1 ≤ c.args.at = omega (arith, c.if-at-eq0.false) in
    let within : 1 ≤ length cs = omega (arith, some, gap.in_range) in
    let outermost : c.remove-outermost.result.level ≡ level_at cs 0 =
    ap (λ (l : LevelCount). l.level) (c.remove-outermost.ensures.value ∙ get_or_default cs 0 c.remove-outermost.result no_count within) in
    subst (λ (t : LevelCounts). Edits (set_at t.counts count.level count.cells) t
    (record { counts = c.insert-else-at-eq0.new.self.items; known_from = c.self-else-at-eq0.inside.known_from })) c.self.view_is
    (edits-past cs c.insert-else-at-eq0.new.self.items count.level c.args.at count.cells c.self.inside.known_from c.self-else-at-eq0.inside.known_from some gap
    (c.insert-else-at-eq0.ensures.items ∙ rw left refl) (omega (arith, later, c.forget-else-at-eq0.ensures.known))
    (omega (arith, later, outermost, c.forget-else-at-eq0.ensures.forgotten)))
