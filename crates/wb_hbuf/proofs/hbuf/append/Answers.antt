use Rattle.std.proofs.Common.{◌≡◌, ◌++◌, take, subst, arith}
use Rattle.std.proofs.lemmas.List.{take_all}
use Rattle.wb_heap_model.specs.TextCells.{text_at, max_at}
use Rattle.wb_heap_model.specs.Texts.{at_most}
use Rattle.wb_hbuf.specs.Drafts.{IsEdited}
use Rattle.wb_hbuf.specs.Sources.{source_units}
use Rattle.wb_hbuf.proofs.hbuf.append.Goals as goal

pub returns : goal.returns
returns c =
    let d = c.args.heap.now in
    let t = text_at c.args.ptr d in
    let us = source_units d t c.args.source in
    let whole : take c.length-end.result t ≡ t = take_all c.length-end.result t (omega (arith, c.length-end.ensures)) in
    subst (λ vs. IsEdited c.args.ptr d c.overwrite.new.heap c.overwrite.result (at_most (max_at c.args.ptr d) (vs ++ us))) whole c.overwrite.ensures
