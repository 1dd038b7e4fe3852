-- Heaps that are the same but for numbers: what they are asked is the same, and so is what an answer, a release or a mark leaves.
use Rattle.std.proofs.Common.{◌≡◌, ℕ, ◌+◌, ◌-◌, Bool, not, ◌&&◌, ◌||◌, List, inr, refl, ap, ◌∙◌, cond, Option, Some, None}
use Rattle.std.specs.Prelude.{nat_eq, nat_lt, nat_le}
use Rattle.wb_heap_model.specs.declared.heap.Answer.{Answer}
use Rattle.wb_heap_model.specs.declared.heap.Answer.TheVariants.{Granted, Simulated, Refused}
use Rattle.wb_heap_model.specs.declared.heap.Header.{Header}
use Rattle.wb_heap_model.specs.declared.heap.Kind.{Kind}
use Rattle.wb_heap_model.specs.declared.heap.Panic.{Panic}
use Rattle.wb_heap_model.specs.declared.heap.Panic.TheVariants.{Alloc}
use Rattle.wb_heap_model.specs.declared.heap.Ptr.{Ptr}
use Rattle.wb_heap_model.specs.Heap.{Heap, attempt_counted, alloc_request, after_alloc, realloc_request, moved, after_realloc, shortened, is_cleanup, cells_of_level, cells_of_all_levels, lowest, checked, lower, lowered, after_mark, after_mark_end, mark_end_refusal}
use Rattle.wb_heap_model.specs.Placement.{Placement, first_fit, by_placing, after_placing, fits_in_place, has_stayed, next_spot, place_to_grow_to, place_to_put, realloc_place}
use Rattle.wb_heap_model.specs.Row.{Cell, headers, end_of, pointer_to, cell_at, without, inserted, changed, place_from, cell_length}
use Rattle.wb_heap_model.specs.Rules.{Request, is_due, after_attempt}
use Rattle.wb_heap_model.specs.Contents.{Content}
use Rattle.wb_renaming.specs.SameButNumbers.{Names, Renames, Renaming, IsRenaming, one_more, AllBeside, none_beside, one_beside, IsSamePointer, IsSameHeader, IsSameContent, IsSameCell, IsSameHeap}
use Rattle.wb_renaming.proofs.SameNumbers.{ap_two, cond-beside, new-renamed, at-test, length-beside, filter-beside, BothSome, neither, both_some, Extends, content-later, row-later}

-- what doesn't depend on numbers
module _ {names : Names} where
  pub pointer_to-beside : {h g : Header} → IsSameHeader names h g → IsSamePointer names (pointer_to h) (pointer_to g)
  pointer_to-beside s = record { place = s.place; number = s.number }

  pub cell-beside : {h g : Header} {c d : Content} → IsSameHeader names h g → IsSameContent names c d →
      IsSameCell names (record { head = h; content = c }) (record { head = g; content = d })
  cell-beside s t = record { head = s; content = t }

  pub with_row-beside : {h g : Heap Content} {xs ys : List (Cell Content)} → AllBeside (IsSameCell names) xs ys → IsSameHeap names h g →
      IsSameHeap names (record h { row = xs }) (record g { row = ys })
  with_row-beside all s = record { row = all; level = s.level; setting = s.setting; placement = s.placement }

  pub end-same : {h g : Header} → IsSameHeader names h g → end_of g ≡ end_of h
  end-same s = ap_two ◌+◌ s.place s.length

  pub headers-beside : {xs ys : List (Cell Content)} → AllBeside (IsSameCell names) xs ys → AllBeside (IsSameHeader names) (headers xs) (headers ys)
  headers-beside none_beside = none_beside
  headers-beside (one_beside c rest) = one_beside c.head (headers-beside rest)

  pub inserted-beside : {c d : Cell Content} {xs ys : List (Cell Content)} → IsSameCell names c d → AllBeside (IsSameCell names) xs ys →
      AllBeside (IsSameCell names) (inserted c xs) (inserted d ys)
  inserted-beside s none_beside = one_beside s none_beside
  inserted-beside s (one_beside t rest) =
      cond-beside (AllBeside (IsSameCell names)) _ _ _ _ _ _ (ap_two nat_lt s.head.place t.head.place)
      (one_beside s (one_beside t rest)) (one_beside t (inserted-beside s rest))

  place_from-same : {hs gs : List Header} (at other length : ℕ) → other ≡ at → AllBeside (IsSameHeader names) hs gs → place_from other gs length ≡ place_from at hs length
  place_from-same at other length e none_beside = e
  place_from-same at other length e (one_beside {x = h} {y = g} s rest) =
      cond-beside (λ (x y : ℕ). y ≡ x) _ _ _ _ _ _ (ap_two nat_le (ap (λ n. n + length) e) s.place) e
      (place_from-same (end_of h) (end_of g) length (end-same s) rest)

  pub put-same : {way other : Placement} {hs gs : List Header} (length : ℕ) → other ≡ way → AllBeside (IsSameHeader names) hs gs →
      place_to_put other gs length ≡ place_to_put way hs length
  put-same {way = way} {hs = hs} {gs = gs} length e all = ap (λ (w : Placement). place_to_put w gs length) e ∙ by way
    where
      by : (way : Placement) → place_to_put way gs length ≡ place_to_put way hs length
      by (first_fit moving) = place_from-same 0 0 length refl all
      by (by_placing spots) = refl

  lower-beside : {h g : Header} (level other : ℕ) → other ≡ level → IsSameHeader names h g → IsSameHeader names (lower level h) (lower other g)
  lower-beside {h = h} {g = g} level other e s =
      let low : IsSameHeader names (record h { level = level - 1 }) (record g { level = other - 1 }) =
      record { place = s.place; length = s.length; kind = s.kind; level = ap (λ n. n - 1) e; number = s.number } in
      cond-beside (IsSameHeader names) _ _ _ _ _ _ (ap_two ◌&&◌ (ap_two nat_eq s.level e) (ap (λ k. not (is_cleanup k)) s.kind)) low s

  lowered-beside : {xs ys : List (Cell Content)} (level other : ℕ) → other ≡ level → AllBeside (IsSameCell names) xs ys →
      AllBeside (IsSameCell names) (lowered level xs) (lowered other ys)
  lowered-beside level other e none_beside = none_beside
  lowered-beside level other e (one_beside c rest) =
      one_beside (cell-beside (lower-beside level other e c.head) c.content) (lowered-beside level other e rest)

  level-beside : {hs gs : List Header} (level other : ℕ) → other ≡ level → AllBeside (IsSameHeader names) hs gs →
      AllBeside (IsSameHeader names) (cells_of_level level hs) (cells_of_level other gs)
  level-beside level other e all = filter-beside _ _ (λ h g s. ap_two ◌&&◌ (ap_two nat_eq s.level e) (ap (λ k. not (is_cleanup k)) s.kind)) all

  pub all_levels-beside : {hs gs : List Header} → AllBeside (IsSameHeader names) hs gs → AllBeside (IsSameHeader names) (cells_of_all_levels hs) (cells_of_all_levels gs)
  all_levels-beside all = filter-beside _ _ (λ h g s. ap (λ k. not (is_cleanup k)) s.kind) all

  lowest-same : {hs gs : List Header} → AllBeside (IsSameHeader names) hs gs → lowest gs ≡ lowest hs
  lowest-same none_beside = refl
  lowest-same (one_beside s rest) = s.place

  checked-same : {hs gs : List Header} (n : ℕ) → AllBeside (IsSameHeader names) hs gs → checked gs n ≡ checked hs n
  checked-same n all = ap_two (λ (count place : ℕ). refusal count place n) (length-beside all) (lowest-same all)
    where
      refusal : ℕ → ℕ → ℕ → Option Panic
      refusal count place n = cond (nat_eq count n) None (Some (Alloc place))

  pub level-check : {h g : Heap Content} (n : ℕ) → IsSameHeap names h g → checked (cells_of_level g.level (headers g.row)) n ≡ checked (cells_of_level h.level (headers h.row)) n
  level-check {h = h} {g = g} n s = checked-same n (level-beside h.level g.level s.level (headers-beside s.row))

  pub all_levels-check : {h g : Heap Content} (n : ℕ) → IsSameHeap names h g → checked (cells_of_all_levels (headers g.row)) n ≡ checked (cells_of_all_levels (headers h.row)) n
  all_levels-check n s = checked-same n (all_levels-beside (headers-beside s.row))

  pub mark_end-check : {h g : Heap Content} (n : ℕ) → IsSameHeap names h g → mark_end_refusal g n ≡ mark_end_refusal h n
  mark_end-check n s =
      cond-beside (λ (x y : Option Panic). y ≡ x) _ _ _ _ _ _ (ap (λ l. nat_eq l 0) s.level) refl (level-check n s)

  pub mark-beside : {h g : Heap Content} → IsSameHeap names h g → IsSameHeap names (after_mark h) (after_mark g)
  mark-beside s = record { row = s.row; level = ap (λ l. l + 1) s.level; setting = s.setting; placement = s.placement }

  pub mark_end-beside : {h g : Heap Content} → IsSameHeap names h g → IsSameHeap names (after_mark_end h) (after_mark_end g)
  mark_end-beside {h = h} {g = g} s =
      record { row = lowered-beside h.level g.level s.level s.row; level = ap (λ l. l - 1) s.level; setting = s.setting; placement = s.placement }

-- a request by its parts
abbrev request : ℕ → ℕ → Bool → Request
request length place due = record { length = length; place = place; due = due }

pub alloc_request-same : {names : Names} {h g : Heap Content} (bytes : ℕ) → IsSameHeap names h g → alloc_request g bytes ≡ alloc_request h bytes
alloc_request-same bytes s =
    ap_two (request (cell_length bytes)) (put-same (cell_length bytes) s.placement (headers-beside s.row)) (ap is_due s.setting)

-- what depends on which numbers are equal
module _ {w : Renaming} (is : IsRenaming w) where
  pub cell_at-beside : {p q : Ptr} {xs ys : List (Cell Content)} → IsSamePointer w.names p q → AllBeside (IsSameCell w.names) xs ys →
      BothSome (IsSameCell w.names) (cell_at p xs) (cell_at q ys)
  cell_at-beside s none_beside = neither
  cell_at-beside s (one_beside c rest) =
      cond-beside (BothSome (IsSameCell w.names)) _ _ _ _ _ _ (at-test is s c.head) (both_some c) (cell_at-beside s rest)

  pub without-beside : {p q : Ptr} {xs ys : List (Cell Content)} → IsSamePointer w.names p q → AllBeside (IsSameCell w.names) xs ys →
      AllBeside (IsSameCell w.names) (without p xs) (without q ys)
  without-beside s all = filter-beside _ _ (λ c d r. ap not (at-test is s r.head)) all

  pub changed-beside : {p q : Ptr} {xs ys : List (Cell Content)} (f g : Content → Content) →
      ((c d : Content) → IsSameContent w.names c d → IsSameContent w.names (f c) (g d)) → IsSamePointer w.names p q →
      AllBeside (IsSameCell w.names) xs ys → AllBeside (IsSameCell w.names) (changed p f xs) (changed q g ys)
  changed-beside f g same s none_beside = none_beside
  changed-beside f g same s (one_beside {x = c} {y = d} r rest) =
      let new = cell-beside r.head (same c.content d.content r.content) in
      cond-beside (AllBeside (IsSameCell w.names)) _ _ _ _ _ _ (at-test is s r.head) (one_beside new rest) (one_beside r (changed-beside f g same s rest))

  fits-same : {h g : Header} {hs gs : List Header} (length : ℕ) → IsSameHeader w.names h g → AllBeside (IsSameHeader w.names) hs gs →
      fits_in_place gs g length ≡ fits_in_place hs h length
  fits-same length s none_beside = refl
  fits-same length s (one_beside t rest) =
      ap_two ◌&&◌
      (ap_two ◌||◌ (at-test is (pointer_to-beside s) t)
      (ap_two ◌||◌ (ap_two nat_le (ap (λ p. p + length) s.place) t.place) (ap_two nat_le (end-same t) s.place)))
      (fits-same length s rest)

  realloc_place-same : {h g : Header} {hs gs : List Header} (moving : Bool) (length : ℕ) → IsSameHeader w.names h g → AllBeside (IsSameHeader w.names) hs gs →
      realloc_place moving gs g length ≡ realloc_place moving hs h length
  realloc_place-same moving length s all =
      cond-beside (λ (x y : ℕ). y ≡ x) _ _ _ _ _ _ (ap (λ b. not moving && b) (fits-same length s all)) s.place (place_from-same 0 0 length refl all)

  grow-same : {way other : Placement} {h g : Header} {hs gs : List Header} (length : ℕ) → other ≡ way → IsSameHeader w.names h g → AllBeside (IsSameHeader w.names) hs gs →
      place_to_grow_to other gs g length ≡ place_to_grow_to way hs h length
  grow-same {way = way} {h = h} {g = g} {hs = hs} {gs = gs} length e s all = ap (λ (u : Placement). place_to_grow_to u gs g length) e ∙ by way
    where
      by : (way : Placement) → place_to_grow_to way gs g length ≡ place_to_grow_to way hs h length
      by (first_fit moving) = realloc_place-same moving length s all
      by (by_placing spots) = ap (λ at. cond (next_spot spots).stays at (next_spot spots).place) s.place

  stayed-same : {way other : Placement} {h g : Header} {place to : ℕ} → other ≡ way → to ≡ place → IsSameHeader w.names h g →
      has_stayed other g to ≡ has_stayed way h place
  stayed-same {way = way} {h = h} {g = g} {place = place} {to = to} e at s = ap (λ (u : Placement). has_stayed u g to) e ∙ by way
    where
      by : (way : Placement) → has_stayed way g to ≡ has_stayed way h place
      by (first_fit moving) = ap_two nat_eq at s.place
      by (by_placing spots) = refl

  pub realloc_request-same : {h g : Heap Content} {c d : Header} (bytes : ℕ) → IsSameHeap w.names h g → IsSameHeader w.names c d →
      realloc_request g d bytes ≡ realloc_request h c bytes
  realloc_request-same bytes s t =
      ap_two (request (cell_length bytes)) (grow-same (cell_length bytes) s.placement t (headers-beside s.row)) (ap is_due s.setting)

  pub shortened-beside : {h g : Heap Content} {c d : Header} (length : ℕ) {one other : Content} → IsSameHeap w.names h g → IsSameHeader w.names c d →
      IsSameContent w.names one other → IsSameHeap w.names (shortened h c length one) (shortened g d length other)
  shortened-beside {c = c} {d = d} length s t same =
      let head : IsSameHeader w.names (record c { length = length }) (record d { length = length }) =
      record { place = t.place; length = refl; kind = t.kind; level = t.level; number = t.number } in
      record { row = inserted-beside (cell-beside head same) (without-beside (pointer_to-beside t) s.row); level = s.level; setting = s.setting; placement = s.placement }

  pub one_more-extends : Extends w.names (one_more w).names
  one_more-extends a b r = inr r

  counted-beside : {h g : Heap Content} → IsSameHeap w.names h g → IsSameHeap (one_more w).names (attempt_counted h) (attempt_counted g)
  counted-beside s = record { row = row-later one_more-extends s.row; level = s.level; setting = ap after_attempt s.setting; placement = ap after_placing s.placement }

  -- a heap after an answer, and the pointer given
  pub alloc-beside : {h g : Heap Content} {one other : Content} (t u : Request) (kind : Kind) (answer : Answer) → u ≡ t → IsSameHeap w.names h g → IsSameContent w.names one other →
      IsSameHeap (one_more w).names (after_alloc h t kind one (w.made + 1) answer).heap (after_alloc g u kind other (w.other_made + 1) answer).heap
      × BothSome (IsSamePointer (one_more w).names) (after_alloc h t kind one (w.made + 1) answer).given (after_alloc g u kind other (w.other_made + 1) answer).given
  alloc-beside t u kind Simulated e s same = (counted-beside s, neither)
  alloc-beside t u kind Refused e s same = (counted-beside s, neither)
  alloc-beside {h = h} {g = g} t u kind Granted e s same =
      let head : IsSameHeader (one_more w).names (record { place = t.place; length = t.length; kind = kind; level = h.level; number = w.made + 1 })
      (record { place = u.place; length = u.length; kind = kind; level = g.level; number = w.other_made + 1 }) = record {
        place = ap (λ (r : Request). r.place) e;
        length = ap (λ (r : Request). r.length) e;
        kind = refl;
        level = s.level;
        number = new-renamed w;
      } in
      let counted = counted-beside s in (
        record { row = inserted-beside (cell-beside head (content-later one_more-extends same)) counted.row; level = s.level; setting = counted.setting; placement = counted.placement },
        both_some (pointer_to-beside head),
      )

  moved-beside : {way other : Placement} {c d : Header} (t u : Request) → other ≡ way → u ≡ t → IsSameHeader w.names c d →
      IsSameHeader (one_more w).names (moved way c (w.made + 1) t) (moved other d (w.other_made + 1) u)
  moved-beside {c = c} {d = d} t u chosen e s = record {
    place = ap (λ (r : Request). r.place) e;
    length = ap (λ (r : Request). r.length) e;
    kind = s.kind;
    level = s.level;
    number = cond-beside (Renames (one_more w).names) _ _ _ _ _ _ (stayed-same chosen (ap (λ (r : Request). r.place) e) s) (one_more-extends c.number d.number s.number) (new-renamed w);
  }

  pub realloc-beside : {h g : Heap Content} {c d : Header} {one other : Content} (t u : Request) (answer : Answer) → u ≡ t → IsSameHeap w.names h g → IsSameHeader w.names c d → IsSameContent w.names one other →
      IsSameHeap (one_more w).names (after_realloc h t c one (w.made + 1) answer).heap (after_realloc g u d other (w.other_made + 1) answer).heap
      × BothSome (IsSamePointer (one_more w).names) (after_realloc h t c one (w.made + 1) answer).given (after_realloc g u d other (w.other_made + 1) answer).given
  realloc-beside t u Simulated e s head same = (counted-beside s, neither)
  realloc-beside t u Refused e s head same = (counted-beside s, neither)
  realloc-beside t u Granted e s head same =
      let m = moved-beside t u s.placement e head in
      let counted = counted-beside s in
      let kept = row-later one_more-extends (without-beside (pointer_to-beside head) s.row) in (
        record { row = inserted-beside (cell-beside m (content-later one_more-extends same)) kept; level = s.level; setting = counted.setting; placement = counted.placement },
        both_some (pointer_to-beside m),
      )
