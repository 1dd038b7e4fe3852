use Rattle.std.proofs.Common.{◌≡◌, ℕ, ◌-◌, ◌/◌, List, Option, Some, option_map, ap, sym, ◌∙◌, arith}
use Rattle.wb_heap_model.specs.declared.heap.Header.{Header}
use Rattle.wb_heap_model.specs.declared.heap.Ptr.{Ptr}
use Rattle.wb_heap_model.specs.Debug.{Debug}
use Rattle.wb_heap_model.specs.Texts.{max_units}
use Rattle.wb_heap_model.specs.Row.{Cell, cell_at, usable_of}
use Rattle.wb_heap_model.specs.TextCells.{IsTextAt, max_at, usable_or_none}
use Rattle.wb_heap_model.proofs.LimitedHeaps.{limit_under-ceiling}
use Rattle.wb_hbuf.proofs.Drafts.{text-words, text-has}
use Rattle.wb_hbuf.proofs.hbuf.measure.Goals as goal

head-found : (o : Option (Cell (List ℕ))) (cell : Cell (List ℕ)) (h : Header) → o ≡ Some cell → Some h ≡ option_map (λ c. c.head) o → cell.head ≡ h
head-found o cell h found is =
    let e : Some h ≡ Some cell.head = is ∙ ap (option_map (λ c. c.head)) found in cc

max-found : (p : Ptr) (d : Debug) (is : IsTextAt p d) (h : Header) → Some h ≡ option_map (λ c. c.head) (cell_at p d.heap.row) →
    (usable_of h - 4) / 2 ≡ max_at p d
max-found p d is h e =
    let same : is.cell.head.length ≡ h.length = ap (λ (x : Header). x.length) (head-found (cell_at p d.heap.row) is.cell h is.found e) in
    let most : (usable_of h - 4) / 2 ≡ max_units (is.cell.head.length - 16) = omega (arith, same) in
    most ∙ sym (ap (λ o. max_units (usable_or_none o)) is.found)

pub returns : goal.returns
returns c =
    let known = text-words c.args.ptr c.args.heap.now c.requires in
    record {
      length-is = c.length.ensures;
      max-is = ap (λ n. (n - 4) / 2) c.usable.ensures ∙ max-found c.args.ptr c.args.heap.now c.requires c.in-Some.header c.in-Some.ensures.header;
      room = omega (arith, c.in-Some.ensures.payload, known.some, c.usable.ensures);
      small = omega (arith, c.in-Some.ensures.payload, c.in-Some.ensures.live.within, limit_under-ceiling c.args.heap.now.rule);
      units = text-has c.args.ptr c.args.heap.now c.requires;
      sound = c.in-Some.ensures.sound;
    }
