use Rattle.std.proofs.Common.{rules, ◌≡◌, ◌≢◌, ◌⊎◌, ◌+◌, ◌*◌, ℕ, inl, inr, Bool, true, false, cond, Option, Some, None, List, [], ◌∷◌, ◌++◌, refl, sym, ap, ◌∙◌}
use Rattle.std.specs.Prelude.{nat_lt}
use Rattle.wb_heap_model.specs.declared.heap.Answer.{Answer}
use Rattle.wb_heap_model.specs.declared.heap.Answer.TheVariants.{Granted, Simulated, Refused}
use Rattle.wb_heap_model.specs.declared.heap.Gave.{Gave}
use Rattle.wb_heap_model.specs.declared.heap.Gave.TheVariants as gave
use Rattle.wb_heap_model.specs.declared.heap.Item.{Item}
use Rattle.wb_heap_model.specs.CellRow.{resized_words}
use Rattle.wb_heap_model.specs.Debug.{Debug, answer_in, longer_made, made_by, shorter_made}
use Rattle.wb_heap_model.specs.Heap.{after_realloc, realloc_request}
use Rattle.wb_heap_model.specs.Row.{Cell, cell_at, cell_length}
use Rattle.wb_cleanup.specs.declared.cleanup.Cleanup.{Cleanup}
use Rattle.wb_cleanup.specs.declared.cleanup.Pushed.{Pushed}
use Rattle.wb_cleanup.specs.declared.cleanup.Pushed.TheVariants.{Fine, Leave, Ceiling}
use Rattle.wb_cleanup.specs.Pushes.{fills, growth, items_by, push_made, pushed_by, remade}
use Rattle.wb_cleanup.specs.Stacks.{cell_of, items_of, slots_of}
use Rattle.wb_cleanup.proofs.Rewriting.{unwritten}
use Rattle.wb_cleanup.proofs.cleanup.Cleanup.push.Goals as goal

-- what is fine, or leaves, isn't cut
apart : (p q : Pushed) → (p ≡ Fine) ⊎ (p ≡ Leave) → p ≡ q → q ≢ Ceiling
apart p q (inl fine) same ceiling = let cut : p ≡ Ceiling = same ∙ ceiling in let both : Fine ≡ Ceiling = sym fine ∙ cut in cc
apart p q (inr left) same ceiling = let cut : p ≡ Ceiling = same ∙ ceiling in let both : Leave ≡ Ceiling = sym left ∙ cut in cc

-- the item is on the stack, unless the ceiling cut the run
one_more : (items : List Item) (item : Item) (g : Gave) → pushed_by g ≢ Ceiling → items ++ item ∷ [] ≡ items_by items item g
one_more items item (gave.Granted p) going = refl
one_more items item gave.Denied going = refl
one_more items item gave.Ceiling going = absurd (going refl)

pub returns-in-Fine-clause-pushed : goal.returns-in-Fine-clause-pushed
returns-in-Fine-clause-pushed c =
    let made = c.in_ok-pushed.ensures.made in
    let going : c.in_ok-pushed.pushed ≢ Ceiling = apart _ _ c.in-Fine.is refl in
    record {
      answer = made.answer;
      items =
          c.put.ensures.items ∙ ap (λ l. l ++ c.args.item ∷ []) c.make_room.ensures.items.items
          ∙ one_more (items_of c.args.self.now c.args.heap.now) c.args.item (push_made c.args.self.now c.args.heap.now).gave
          (apart _ _ c.in-Fine.is made.answer);
      slots = c.put.ensures.slots ∙ made.slots;
      cell = c.put.ensures.cell ∙ made.cell;
      heap = search rules;
      room = search rules;
      ceiling = λ is. absurd (going is);
    }

-- a push that the ceiling cuts adds nothing
none_more : (items : List Item) (item : Item) (g : Gave) → pushed_by g ≡ Ceiling → items ≡ items_by items item g
none_more items item (gave.Granted p) cut = cc
none_more items item gave.Denied cut = cc
none_more items item gave.Ceiling cut = refl

-- and leaves the heap
heap_stays : (stack : Cleanup) (d : Debug) → pushed_by (push_made stack d).gave ≡ Ceiling → (push_made stack d).debug ≡ d
heap_stays stack d cut = by (fills stack d) cut
  where
    bytes : ℕ
    bytes = 16 * (slots_of stack + 4)

    longer : (c : Cell (List ℕ)) (o : Option Answer) →
        let t = realloc_request d.heap c.head bytes in
        let made = made_by d t (after_realloc d.heap t c.head (resized_words t.length c.content)) o in
        pushed_by made.gave ≡ Ceiling → made.debug ≡ d
    longer c None e = refl
    longer c (Some Granted) e = cc
    longer c (Some Simulated) e = cc
    longer c (Some Refused) e = cc

    of_cell : (c : Cell (List ℕ)) (b : Bool) → pushed_by (cond b (longer_made d c bytes) (shorter_made d c bytes)).gave ≡ Ceiling →
        (cond b (longer_made d c bytes) (shorter_made d c bytes)).debug ≡ d
    of_cell c true e = longer c (answer_in d (realloc_request d.heap c.head bytes)) e
    of_cell c false e = cc

    grown : (o : Option (Cell (List ℕ))) → pushed_by (remade d bytes o).gave ≡ Ceiling → (remade d bytes o).debug ≡ d
    grown None e = refl
    grown (Some c) e = of_cell c (nat_lt c.head.length (cell_length bytes)) e

    by : (b : Bool) → pushed_by (cond b (growth stack d) (record { debug = d; gave = gave.Granted (cell_of stack) })).gave ≡ Ceiling →
        (cond b (growth stack d) (record { debug = d; gave = gave.Granted (cell_of stack) })).debug ≡ d
    by true e = grown (cell_at (cell_of stack) d.heap.row) e
    by false e = refl

pub returns-in-Ceiling-clause-pushed : goal.returns-in-Ceiling-clause-pushed
returns-in-Ceiling-clause-pushed c =
    let made = c.in_ok-pushed.ensures.made in
    let old = c.args.self.now in
    let d = c.args.heap.now in
    let cut : pushed_by (push_made old d).gave ≡ Ceiling = sym made.answer ∙ c.in-Ceiling.is in
    record {
      answer = made.answer;
      items = c.make_room.ensures.items.items ∙ none_more (items_of old d) c.args.item (push_made old d).gave cut;
      slots = made.slots;
      cell = made.cell;
      heap = unwritten c.make_room.new.self.cell _ c.make_room.new.heap made.heap;
      room = λ _. c.make_room.ensures.room;
      ceiling = λ is. record { stack = made.ceiling is; heap = made.heap ∙ heap_stays old d cut };
    }
