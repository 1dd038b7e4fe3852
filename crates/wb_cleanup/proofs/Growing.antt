-- A cell that was granted for the stack: its first one, and what a reallocation for more slots leaves.
use Rattle.std.proofs.Common.{◌≡◌, ◌≢◌, ℕ, ◌+◌, ◌-◌, ◌*◌, ◌/◌, ◌≤◌, List, [], ◌∷◌, All, AllPairs, length, take, replicate, Bool, true, false, cond, Option, Some, None, refl, sym, ap, subst, ◌∙◌, arith}
use Rattle.std.specs.Prelude.{IfSome}
use Rattle.std.proofs.lemmas.Bool.{lt-ltb, le-ltb}
use Rattle.std.proofs.lemmas.List.{length-replicate, take_all, take-append-le}
use Rattle.std.proofs.lemmas.List.Elements.{All-nil}
use Rattle.wb_basics.specs.declared.limits.TheConstants.{CEILING}
use Rattle.wb_heap_model.specs.declared.heap.Ptr.{Ptr}
use Rattle.wb_heap_model.specs.declared.heap.Kind.TheVariants.{Cleanup as CleanupKind}
use Rattle.wb_heap_model.specs.declared.heap.Rule.{Rule}
use Rattle.wb_heap_model.specs.declared.heap.Answer.{Answer}
use Rattle.wb_heap_model.specs.declared.heap.Answer.TheVariants.{Granted, Simulated, Refused}
use Rattle.wb_heap_model.specs.declared.heap.Gave.{Gave}
use Rattle.wb_heap_model.specs.declared.heap.Gave.TheVariants as G
use Rattle.wb_heap_model.specs.Placement.{place_to_put}
use Rattle.wb_heap_model.specs.Row.{Cell, headers, cell_at, cell_length, end_of, inserted, place_of, pointer_to, without}
use Rattle.wb_heap_model.specs.CellRow.{resized_words}
use Rattle.wb_heap_model.specs.CleanupCells.{IsItem, IsCleanup, IsCleanupAt}
use Rattle.wb_heap_model.specs.Rules.{Request, answer_to, refusal_of, unless_refused}
use Rattle.wb_heap_model.specs.Heap.{alloc_request, new_cell, after_alloc, realloc_request, moved, after_realloc}
use Rattle.wb_heap_model.specs.LimitedHeap.{zero_words}
use Rattle.wb_heap_model.specs.Space.{limit_under}
use Rattle.wb_heap_model.specs.Debug.{Debug, IsLiveIn, Made, IsSoundDebug, made_by, answer_in, number_of_next, alloc_made, longer_made, shorter_made, realloc_made}
use Rattle.wb_heap_model.proofs.LimitedHeaps.{limit_under-ceiling}
use Rattle.wb_heap_model.proofs.NewCells.{found-inserted}
use Rattle.wb_heap_model.proofs.Reallocations.{found-all, found-head, length-resized}
use Rattle.wb_cleanup.specs.declared.cleanup.Cleanup.{Cleanup}
use Rattle.wb_cleanup.specs.Pushes.{cell_by, growth, remade, slots_by}
use Rattle.wb_cleanup.specs.Stacks.{IsStack, cell_of, slots_of, count_of, items_of}
use Rattle.wb_cleanup.proofs.StackInHeap.{Stands, stands}

-- a new cell is found, and ends below the ceiling
record IsGranted (p : Ptr) (c : Cell (List ℕ)) (d : Debug) : Type 0 where
  found : cell_at p d.heap.row ≡ Some c
  below : end_of c.head ≤ CEILING

granted : (c : Cell (List ℕ)) (row : List (Cell (List ℕ))) (d : Debug) → d.heap.row ≡ inserted c row → IsSoundDebug d → IsGranted (pointer_to c.head) c d
granted c row d is sound =
    let apart = subst (λ r. AllPairs (λ g h. g.number ≢ h.number) (headers r)) is sound.row.numbered in
    let found : cell_at (pointer_to c.head) d.heap.row ≡ Some c = ap (cell_at (pointer_to c.head)) is ∙ found-inserted c row apart in
    let live = found-all (λ h. end_of h ≤ limit_under d.rule) (pointer_to c.head) (headers d.heap.row) c.head (λ k h lt. (sound.live k h lt).within)
    (found-head (pointer_to c.head) d.heap.row c found) in
    record { found = found; below = omega (arith, live, limit_under-ceiling d.rule) }

-- what ends below the ceiling is never cut
below-answered : (rule : Rule) (number : ℕ) (t : Request) → t.place + t.length ≤ CEILING → answer_to rule number t ≢ None
below-answered rule number t below = by t.due (refusal_of rule number (t.place + t.length)) (t.place + t.length) below
  where
    by : (b : Bool) (o : Option Answer) (end : ℕ) → end ≤ CEILING → cond b (Some Simulated) (unless_refused o end) ≢ None
    by true o end below e = cc
    by false (Some answer) end below e = cc
    by false None end below e =
        let given : Some Granted ≡ None = sym (ap (λ b. cond b None (Some Granted)) (le-ltb CEILING end below)) ∙ e in
        cc

-- the first cell, of eight slots
module _ (d e : Debug) (sound : IsSoundDebug e) where
  abbrev asked : Request
  asked = alloc_request d.heap 128

  abbrev first : Cell (List ℕ)
  first = new_cell d.heap (number_of_next d) asked CleanupKind (zero_words asked.length)

  abbrev by_answer : Option Answer → Made
  by_answer o = made_by d asked (after_alloc d.heap asked CleanupKind (zero_words asked.length)) o

  pub started : (stack : Cleanup) (p : Ptr) → G.Granted p ≡ (alloc_made d 128 CleanupKind).gave → e ≡ (alloc_made d 128 CleanupKind).debug →
      cell_of stack ≡ p → slots_of stack ≡ 8 → count_of stack ≡ 0 → Stands stack [] e
  started stack p given made cell slots counted = by (answer_in d asked) given made
    where
      at : Ptr
      at = pointer_to first.head

      fresh : e.heap.row ≡ inserted first d.heap.row → p ≡ pointer_to first.head → Stands stack [] e
      fresh row same =
          let is = granted first d.heap.row e row sound in
          stands stack [] e
          (subst (λ q. IsCleanupAt q (slots_of stack) [] e) (sym (cell ∙ same))
          (subst (λ n. IsCleanupAt (pointer_to first.head) n [] e) (sym slots)
          (record {
            cell = first;
            found = is.found;
            kind = refl;
            usable = omega arith;
            whole = omega arith;
            spells = record { words = refl; room = length-replicate {A = ℕ} 32 0; fits = omega arith; are_items = All-nil IsItem };
          }))) counted (omega (arith, slots))

      by : (o : Option Answer) → G.Granted p ≡ (by_answer o).gave → e ≡ (by_answer o).debug → Stands stack [] e
      by None g m = cc
      by (Some Simulated) g m = cc
      by (Some Refused) g m = cc
      by (Some Granted) g m = fresh (ap (λ (x : Debug). x.heap.row) m) cc

  -- it is never cut: where no attempt was made there is no cell
  pub uncut : d.attempts ≡ 0 → G.Ceiling ≡ (alloc_made d 128 CleanupKind).gave → e ≡ (alloc_made d 128 CleanupKind).debug → ⊥
  uncut none given made = by (answer_in d asked) refl given made
    where
      empty : (row : List (Cell (List ℕ))) → d.heap.row ≡ row → IsSoundDebug d → answer_in d asked ≢ None
      empty [] is kept cut =
          let place : asked.place ≡ 0 =
          ap (λ w. place_to_put w (headers d.heap.row) 144) kept.placed ∙ ap (λ r. place_of (headers r) 144) is in
          below-answered d.rule (number_of_next d) asked (omega (arith, place)) cut
      empty (c ∷ cs) is kept cut =
          let live : IsLiveIn d c.head = subst (λ r. All (IsLiveIn d) (headers r)) is kept.live 0 c.head (omega arith) in
          omega (arith, live.numbered, live.counted, none)

      by : (o : Option Answer) → answer_in d asked ≡ o → G.Ceiling ≡ (by_answer o).gave → e ≡ (by_answer o).debug → ⊥
      by None is g m = empty d.heap.row refl (subst IsSoundDebug m sound) is
      by (Some Granted) is g m = cc
      by (Some Simulated) is g m = cc
      by (Some Refused) is g m = cc

-- more slots
module _ (old new : Cleanup) (d e : Debug) (is : IsStack old d) (sound : IsSoundDebug e) where
  abbrev c : Cell (List ℕ)
  c = is.cell.cell

  abbrev bytes : ℕ
  bytes = 16 * (slots_of old + 4)

  abbrev more : Request
  more = realloc_request d.heap c.head bytes

  pub growth-is : growth old d ≡ longer_made d c bytes
  growth-is =
      ap (remade d bytes) is.cell.found
      ∙ ap (λ b. cond b (longer_made d c bytes) (shorter_made d c bytes)) (lt-ltb c.head.length (cell_length bytes) (omega (arith, is.cell.usable)))

  spells-more : IsCleanup (slots_of old + 4) (resized_words (cell_length bytes) c.content) (items_of old d)
  spells-more =
      let spells = is.cell.spells in
      let ws = c.content in
      let n = 4 * length (items_of old d) in
      let k = cell_length bytes / 4 - 4 in
      let wide : k ≡ 4 * (slots_of old + 4) = omega arith in
      let whole : take k ws ≡ ws = take_all k ws (omega (arith, wide, spells.room)) in
      record {
        words = take-append-le n (take k ws) (replicate (k - length ws) 0) (omega (arith, ap length whole, spells.room, spells.fits)) ∙ ap (take n) whole ∙ spells.words;
        room = length-resized (cell_length bytes) ws ∙ wide;
        fits = omega (arith, spells.fits);
        are_items = spells.are_items;
      }

  abbrev wider : Cell (List ℕ)
  wider = record { head = moved d.heap.placement c.head (number_of_next d) more; content = resized_words more.length c.content }

  abbrev after : Option Answer → Made
  after o = made_by d more (after_realloc d.heap more c.head (resized_words more.length c.content)) o

  pub grown : (gave : Gave) → gave ≡ (growth old d).gave → e ≡ (growth old d).debug → cell_of new ≡ cell_by (cell_of old) gave →
      slots_of new ≡ slots_by true (slots_of old) gave → count_of new ≡ count_of old → Stands new (items_of old d) e
  grown gave given made cell slots counted =
      by (answer_in d more) (given ∙ ap (λ (m : Made). m.gave) growth-is) (made ∙ ap (λ (m : Made). m.debug) growth-is)
    where
      stays : e.heap.row ≡ d.heap.row → cell_of new ≡ cell_of old → slots_of new ≡ slots_of old → Stands new (items_of old d) e
      stays row p n =
          stands new (items_of old d) e
          (subst (λ q. IsCleanupAt q (slots_of new) (items_of old d) e) (sym p)
          (subst (λ k. IsCleanupAt (cell_of old) k (items_of old d) e) (sym n)
          (record {
            cell = c;
            found = ap (cell_at (cell_of old)) row ∙ is.cell.found;
            kind = is.cell.kind;
            usable = is.cell.usable;
            whole = is.cell.whole;
            spells = is.cell.spells;
          }))) (counted ∙ is.counted) (omega (arith, n, is.bounded))

      widened : e.heap.row ≡ inserted wider (without (pointer_to c.head) d.heap.row) → cell_of new ≡ pointer_to wider.head → slots_of new ≡ slots_of old + 4 →
          Stands new (items_of old d) e
      widened row p n =
          let there = granted wider (without (pointer_to c.head) d.heap.row) e row sound in
          stands new (items_of old d) e
          (subst (λ q. IsCleanupAt q (slots_of new) (items_of old d) e) (sym p)
          (subst (λ k. IsCleanupAt (pointer_to wider.head) k (items_of old d) e) (sym n)
          (record {
            cell = wider;
            found = there.found;
            kind = is.cell.kind;
            usable = omega arith;
            whole = omega (arith, is.cell.whole);
            spells = spells-more;
          }))) (counted ∙ is.counted) (omega (arith, n, there.below))

      by : (o : Option Answer) → gave ≡ (after o).gave → e ≡ (after o).debug → Stands new (items_of old d) e
      by None g m = stays (ap (λ (x : Debug). x.heap.row) m) (cell ∙ ap (cell_by (cell_of old)) g) (slots ∙ ap (slots_by true (slots_of old)) g)
      by (Some Simulated) g m = stays (ap (λ (x : Debug). x.heap.row) m) (cell ∙ ap (cell_by (cell_of old)) g) (slots ∙ ap (slots_by true (slots_of old)) g)
      by (Some Refused) g m = stays (ap (λ (x : Debug). x.heap.row) m) (cell ∙ ap (cell_by (cell_of old)) g) (slots ∙ ap (slots_by true (slots_of old)) g)
      by (Some Granted) g m = widened (ap (λ (x : Debug). x.heap.row) m) (cell ∙ ap (cell_by (cell_of old)) g) (slots ∙ ap (slots_by true (slots_of old)) g)

  -- the same, as the call says it
  pub grown-by : (gave : Gave) → IfSome (cell_at (cell_of old) d.heap.row) (λ x. gave ≡ (realloc_made d x bytes).gave) →
      IfSome (cell_at (cell_of old) d.heap.row) (λ x. e ≡ (realloc_made d x bytes).debug) → cell_of new ≡ cell_by (cell_of old) gave →
      slots_of new ≡ slots_by true (slots_of old) gave → count_of new ≡ count_of old → Stands new (items_of old d) e
  grown-by gave given made =
      grown gave (by-cell (λ m. gave ≡ m.gave) (cell_at (cell_of old) d.heap.row) is.cell.found given)
      (by-cell (λ m. e ≡ m.debug) (cell_at (cell_of old) d.heap.row) is.cell.found made)
    where
      by-cell : (P : Made → Type 0) (o : Option (Cell (List ℕ))) → o ≡ Some c → IfSome o (λ x. P (realloc_made d x bytes)) → P (remade d bytes o)
      by-cell P None found p = cc
      by-cell P (Some x) found p = p
