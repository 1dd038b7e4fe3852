use Rattle.std.proofs.Common.{ap, sym, subst, ◌∙◌}
use Rattle.wb_heap_model.specs.CellRow.{content_or_nil}
use Rattle.wb_heap_model.specs.Row.{cell_at}
use Rattle.wb_renaming.specs.SameButNumbers.{IsSameHeader}
use Rattle.wb_renaming.proofs.SameNumbers.{header-later}
use Rattle.wb_machine.specs.Alike.{AreWordsAlike}
use Rattle.wb_machine.proofs.likeness.CellsAlike.{cell-alike, head-is}
use Rattle.wb_machine.proofs.likeness.GrownMaps.{by-both}
use Rattle.wb_machine.proofs.alike.cells.end_if_same.Goals as goal

pub returns-clause-same : goal.returns-clause-same
returns-clause-same c script one other e f =
    let names = c.same_content.new.names.names in
    let head = head-is (cell_at c.args.ptr c.args.heap.now.heap.row) c.in-Some.cell one (sym c.header.ensures.header ∙ c.in-Some.is) e in
    let other_head = head-is (cell_at c.args.other c.args.other_heap.now.heap.row) c.in-Some-header.other_cell other (sym c.header-2.ensures.header ∙ c.in-Some-header.is) f in
    let same : IsSameHeader names c.in-Some.cell c.in-Some-header.other_cell =
    header-later c.same_content.ensures.grown.pairs (c.same_header.ensures.same c.if-not-same_header.false) in
    cell-alike names script one other (by-both (IsSameHeader names) head other_head same)
    (subst (λ k. AreWordsAlike names k one.content other.content) (ap (λ h. h.kind) (sym head))
    (by-both (AreWordsAlike names c.in-Some.cell.kind) (sym (ap content_or_nil e)) (sym (ap content_or_nil f)) (c.same_content.ensures.same c.if-not-same_content.false)))
