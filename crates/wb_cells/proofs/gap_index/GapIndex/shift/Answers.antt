use Rattle.std.proofs.Common.{slice_set, sym, ◌∙◌, ap}
use Rattle.std.proofs.lemmas.List.{set-set}
use Rattle.wb_cells.proofs.Words.{sets_swap}
use Rattle.wb_cells.proofs.gap_index.GapIndex.shift.Goals as goal

pub returns-then-from-to : goal.returns-then-from-to
returns-then-from-to c =
    c.set-then-from-to.ensures ∙ ap (λ l. slice_set l c.args.from 0) c.set.ensures ∙ sym (sets_swap c.args.self.now c.args.from c.args.to 0 c.args.bytes c.if-from-to.true)

pub returns-else-from-to : goal.returns-else-from-to
returns-else-from-to c =
    c.set.ensures ∙ sym (ap (λ i. slice_set (slice_set c.args.self.now i 0) c.args.to c.args.bytes) c.if-from-to.false ∙ set-set c.args.self.now c.args.to 0 c.args.bytes)
