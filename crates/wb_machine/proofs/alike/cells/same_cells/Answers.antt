use Rattle.std.proofs.Common.{◌≡◌, ◌<◌, length, refl, ap, sym, subst, ◌∙◌}
use Rattle.wb_tree.specs.declared.script.Script.{Script}
use Rattle.wb_heap_model.specs.Row.{headers, end_of, cell_at}
use Rattle.wb_heap_model.proofs.Onward.{onward, onward_next, onward_fewer}
use Rattle.wb_renaming.proofs.SameHeaps.{end-same}
use Rattle.wb_machine.proofs.likeness.CellsAlike.{next-in, cells-first, cells-next, cells-done, AreCellsAlike, AreRowsAlike}
use Rattle.wb_machine.proofs.likeness.GrownMaps.{LeadsTo, grown-same, grown-twice}
use Rattle.wb_machine.proofs.alike.cells.same_cells.Goals as goal

pub loop-cell-init : goal.loop-cell-init
loop-cell-init c = record {
  lead = λ script. cells-first script c.args.heap.now.heap.row c.args.other.now.heap.row c.args.names.now.names;
  grown = grown-same refl;
}

pub loop-cell-smaller : goal.loop-cell-smaller
loop-cell-smaller c =
    let row = c.args.heap.now.heap.row in
    let cell = c.in-Some.cell in
    let first = sym c.next_live.ensures ∙ c.in-Some.is in
    let one = next-in c.loop-cell.at 0 cell row c.requires.sound.row.spaced first in
    let ends : c.in-Some-ends.end ≡ end_of cell =
    c.in-Some-ends.ensures.end one.cell (ap (λ p. cell_at p row) c.pointer.ensures ∙ one.found) ∙ ap end_of one.head in
    subst (λ n. length (onward n (headers row)) < length (onward c.loop-cell.at (headers row))) (sym ends)
    (onward_fewer (headers row) c.loop-cell.at cell (onward_next c.loop-cell.at 0 cell (headers row) c.requires.sound.row.spaced first))

pub loop-cell-preserved : goal.loop-cell-preserved
loop-cell-preserved c =
    let row = c.args.heap.now.heap.row in
    let other = c.args.other.now.heap.row in
    let cell = c.in-Some.cell in
    let other_cell = c.in-Some-next_live.other_cell in
    let names = c.end_if_same-ends.new.names.names in
    let one = next-in c.loop-cell.at 0 cell row c.requires.sound.row.spaced (sym c.next_live.ensures ∙ c.in-Some.is) in
    let two = next-in c.loop-cell.at 0 other_cell other c.requires.other_sound.row.spaced (sym c.next_live-in-Some.ensures ∙ c.in-Some-next_live.is) in
    let found = ap (λ p. cell_at p row) c.pointer.ensures ∙ one.found in
    let other_found = ap (λ p. cell_at p other) c.pointer-in-Some.ensures ∙ two.found in
    let ends : c.in-Some-ends.end ≡ end_of cell = c.in-Some-ends.ensures.end one.cell found ∙ ap end_of one.head in
    record {
      lead = λ (script : Script).
          let same = c.in-Some-ends.ensures.same script one.cell two.cell found other_found in
          subst (λ n. LeadsTo (AreCellsAlike script n row other) (AreRowsAlike script row other) names) (sym ends)
          (cells-next script c.loop-cell.at cell other_cell row other c.loop-cell.names.names names one two c.end_if_same-ends.ensures.grown.pairs same
          (sym (ap end_of two.head) ∙ end-same same.head ∙ ap end_of one.head) (c.loop-cell.invariant.lead script));
      grown = grown-twice c.loop-cell.invariant.grown c.end_if_same-ends.ensures.grown;
    }

pub returns-in-None-clause-same : goal.returns-in-None-clause-same
returns-in-None-clause-same c e script =
    cells-done script c.loop-cell.at c.args.heap.now.heap.row c.args.other.now.heap.row c.loop-cell.names.names (sym c.next_live.ensures ∙ c.in_default.is)
    (sym c.next_live-2.ensures ∙ c.in-None.is) (c.loop-cell.invariant.lead script)
