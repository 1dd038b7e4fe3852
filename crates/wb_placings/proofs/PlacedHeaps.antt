-- Heaps that are the same but for partners, the first moving each growing cell: what an answer, a release or a mark leaves of the two is the same again.
use Rattle.std.proofs.Common.{◌≡◌, ◌≢◌, ℕ, ◌+◌, ◌-◌, ◌≤◌, Bool, true, false, not, List, inl, inr, refl, sym, ap, ◌∙◌, subst, arith, cond, length, Some, None}
use Rattle.std.specs.Prelude.{nat_eq, ◌&&◌}
use Rattle.std.proofs.lemmas.Bool.{ne_eqb}
use Rattle.wb_heap_model.specs.declared.heap.TheConstants.Panic.{NO_OPEN_MARK}
use Rattle.wb_heap_model.specs.declared.heap.Answer.{Answer}
use Rattle.wb_heap_model.specs.declared.heap.Answer.TheVariants.{Granted, Simulated, Refused}
use Rattle.wb_heap_model.specs.declared.heap.Header.{Header}
use Rattle.wb_heap_model.specs.declared.heap.Kind.{Kind}
use Rattle.wb_heap_model.specs.declared.heap.Panic.TheVariants.{Alloc}
use Rattle.wb_heap_model.specs.declared.heap.Ptr.{Ptr}
use Rattle.wb_heap_model.specs.Heap.{Heap, AfterAnswer, attempt_counted, alloc_request, after_alloc, realloc_request, moved, after_realloc, shortened, is_cleanup, cells_of_level, cells_of_all_levels, checked, after_mark, after_mark_end, mark_end_refusal, lowest, lowered}
use Rattle.wb_heap_model.specs.Placement.{first_fit, after_placing, has_stayed, place_to_grow_to, place_to_put}
use Rattle.wb_heap_model.specs.Row.{Cell, headers, pointer_to, is_at, cell_at, inserted, without, IsFree, IsLeastPlace, Misses, place_of, cell_length}
use Rattle.wb_heap_model.specs.Rules.{after_attempt}
use Rattle.wb_heap_model.specs.Contents.{Content}
use Rattle.wb_heap_model.proofs.Places.{place_of-least}
use Rattle.wb_heap_model.proofs.Rows.{headers-without, spaced-inserted}
use Rattle.wb_heap_model.proofs.Reallocations.{at-number, pointer-at, found-from, found-all, found-head, found-missed, fits-words, fits-free, fits-shorter, free-filter, cell_at-inserted_other}
use Rattle.wb_renaming.proofs.SameNumbers.{BothSome, neither, both_some}
use Rattle.wb_placings.proofs.Partners.{Stands, newest-stands, Partners, ArePartners, after_answer, answer-extends, answer-partners, IsSameContent, IsSameCell, content-later}
use Rattle.wb_placings.proofs.RowLemmas.{IsNumbered, Lacks, lacking-none, found-without_other, without-lacks, lacks-next}
use Rattle.wb_placings.proofs.SameRows.{AreSameRows, not-both, rows-without, rows-inserted, rows-lowered, rows-later}

pub record IsSameHeap (w : Partners) (h g : Heap Content) : Type 0 where
  pub rows : AreSameRows w h.row g.row
  pub level : g.level ≡ h.level
  pub setting : g.setting ≡ h.setting
  pub moving : h.placement ≡ first_fit true

pub with_rows : {w : Partners} {h g : Heap Content} {xs ys : List (Cell Content)} → AreSameRows w xs ys → IsSameHeap w h g → IsSameHeap w (record h { row = xs }) (record g { row = ys })
with_rows r s = record { rows = r; level = s.level; setting = s.setting; moving = s.moving }

-- all cells but one are found as before
abbrev pub KeepsOthers : Ptr → List (Cell Content) → List (Cell Content) → Type 0
KeepsOthers p xs zs = (a : Ptr) (c : Cell Content) → a ≢ p → cell_at a xs ≡ Some c → cell_at a zs ≡ Some c

-- what an answer leaves of two heaps
pub record AnsweredAlike (v : Partners) (p : Ptr) (h : Heap Content) (x y : AfterAnswer Content) : Type 0 where
  pub heap : IsSameHeap v x.heap y.heap
  pub given : BothSome (Stands v.pairs) x.given y.given
  pub kept : KeepsOthers p h.row x.heap.row

-- live cells of the two that are the same
pub record AreCells (w : Partners) (h g : Heap Content) (c d : Cell Content) : Type 0 where
  pub here : cell_at (pointer_to c.head) h.row ≡ Some c
  pub there : cell_at (pointer_to d.head) g.row ≡ Some d
  pub same : IsSameCell w.pairs c d

not_at-new : (new : Cell Content) (a : Ptr) (row : List (Cell Content)) (c : Cell Content) → Lacks new.head.number row → cell_at a row ≡ Some c → is_at a new.head ≡ false
not_at-new new a row c lacks e = by (is_at a new.head) refl
  where
    by : (b : Bool) → is_at a new.head ≡ b → is_at a new.head ≡ false
    by false at = at
    by true at = absurd (not-both e (lacking-none a row (subst (λ n. Lacks n row) (sym (at-number a new.head at)) lacks)))

counted-same : {w : Partners} {h g : Heap Content} (p q : Ptr) (answer : Answer) → p.number ≡ w.made + 1 → IsSameHeap w h g →
    IsSameHeap (after_answer w p q answer) (attempt_counted h) (attempt_counted g)
counted-same p q answer new s = record { rows = rows-later p q answer new s.rows; level = s.level; setting = ap after_attempt s.setting; moving = ap after_placing s.moving }

-- an allocation
abbrev pub new_pointer : Heap Content → ℕ → ℕ → Ptr
new_pointer heap bytes number = record { place = (alloc_request heap bytes).place; number = number }

pub alloc-alike : {w : Partners} {h g : Heap Content} {one other : Content} (bytes : ℕ) (kind : Kind) (moved : Ptr) (answer : Answer) → ArePartners w → IsSameHeap w h g →
    IsSameContent w.pairs one other →
    AnsweredAlike (after_answer w (new_pointer h bytes (w.made + 1)) (new_pointer g bytes (w.made + 1)) answer) moved h
    (after_alloc h (alloc_request h bytes) kind one (w.made + 1) answer) (after_alloc g (alloc_request g bytes) kind other (w.made + 1) answer)
alloc-alike {w} {h} {g} bytes kind moved Simulated is s same =
    record { heap = counted-same (new_pointer h bytes (w.made + 1)) (new_pointer g bytes (w.made + 1)) Simulated refl s; given = neither; kept = λ a c n e. e }
alloc-alike {w} {h} {g} bytes kind moved Refused is s same =
    record { heap = counted-same (new_pointer h bytes (w.made + 1)) (new_pointer g bytes (w.made + 1)) Refused refl s; given = neither; kept = λ a c n e. e }
alloc-alike {w} {h} {g} {one} {other} bytes kind moved Granted is s same = record {
  heap = with_rows rows (counted-same p q Granted refl s);
  given = both_some named;
  kept = λ a x n e. cell_at-inserted_other a c h.row (not_at-new c a h.row x (lacks-next w.made h.row s.rows.one) e) ∙ e;
}
  where
    n : ℕ
    n = w.made + 1

    p : Ptr
    p = new_pointer h bytes n

    q : Ptr
    q = new_pointer g bytes n

    v : Partners
    v = after_answer w p q Granted

    c : Cell Content
    c = record { head = record { place = p.place; length = cell_length bytes; kind = kind; level = h.level; number = n }; content = one }

    d : Cell Content
    d = record { head = record { place = q.place; length = cell_length bytes; kind = kind; level = g.level; number = n }; content = other }

    named : Stands v.pairs p q
    named = newest-stands w.pairs p q

    placed : IsLeastPlace (headers h.row) (cell_length bytes) p.place
    placed = subst (λ way. IsLeastPlace (headers h.row) (cell_length bytes) (place_to_put way (headers h.row) (cell_length bytes))) (sym s.moving)
        (place_of-least (headers h.row) (cell_length bytes) (omega arith) s.rows.spaced)

    rows : AreSameRows v (inserted c h.row) (inserted d g.row)
    rows =
        rows-inserted (answer-partners w p q Granted refl refl is)
        (record { head = record { length = refl; kind = refl; level = s.level; named = named }; content = content-later (answer-extends w p q Granted) same })
        (lacks-next w.made h.row s.rows.one) (lacks-next w.made g.row s.rows.other) (omega arith, omega arith) (omega arith, omega arith)
        (spaced-inserted c h.row 0 (omega arith) placed.aligned (omega arith) (omega arith) (omega arith) placed.free s.rows.spaced)
        (rows-later p q Granted refl s.rows)

-- a growth: in the first heap the cell moves, in the second it may stay
abbrev pub grown_pointer : Heap Content → Header → ℕ → ℕ → Ptr
grown_pointer heap h bytes number = pointer_to (moved heap.placement h number (realloc_request heap h bytes))

module _ {w : Partners} {h g : Heap Content} {c d : Cell Content} (is : ArePartners w) (s : IsSameHeap w h g) (cells : AreCells w h g c d) where
  rest : AreSameRows w (without (pointer_to c.head) h.row) (without (pointer_to d.head) g.row)
  rest = rows-without cells.same.head.named cells.here s.rows

  -- what is known of the two cells
  one_bounds : (1 ≤ c.head.number) × (c.head.number ≤ w.made)
  one_bounds = found-all (λ x. (1 ≤ x.number) × (x.number ≤ w.made)) (pointer_to c.head) (headers h.row) c.head s.rows.one.made_before (found-head (pointer_to c.head) h.row c cells.here)

  other_bounds : (1 ≤ d.head.number) × (d.head.number ≤ w.made)
  other_bounds = found-all (λ x. (1 ≤ x.number) × (x.number ≤ w.made)) (pointer_to d.head) (headers g.row) d.head s.rows.other.made_before (found-head (pointer_to d.head) g.row d cells.there)

  abbrev to_place : ℕ → ℕ
  to_place bytes = (realloc_request h c.head bytes).place

  placed : (bytes : ℕ) → IsLeastPlace (headers h.row) (cell_length bytes) (to_place bytes)
  placed bytes =
      subst (λ way. IsLeastPlace (headers h.row) (cell_length bytes) (place_to_grow_to way (headers h.row) c.head (cell_length bytes))) (sym s.moving)
      (place_of-least (headers h.row) (cell_length bytes) (omega arith) s.rows.spaced)

  -- a place beside the cell isn't its own
  elsewhere : (bytes : ℕ) → place_of (headers h.row) (cell_length bytes) ≢ c.head.place
  elsewhere bytes same =
      let found = found-head (pointer_to c.head) h.row c cells.here in
      let at = place_of-least (headers h.row) (cell_length bytes) (omega arith) s.rows.spaced in
      let own = found-from (pointer_to c.head) (headers h.row) 0 c.head s.rows.spaced found in
      by (found-missed (pointer_to c.head) (headers h.row) c.head (place_of (headers h.row) (cell_length bytes)) (cell_length bytes) at.free found) own.least
    where
      by : Misses (place_of (headers h.row) (cell_length bytes)) (cell_length bytes) c.head → 16 ≤ c.head.length → ⊥
      by (inl below) long = absurd (omega (arith, below, same))
      by (inr above) long = absurd (omega (arith, above, same, long))

  moves : (bytes : ℕ) → has_stayed h.placement c.head (to_place bytes) ≡ false
  moves bytes =
      subst (λ way. has_stayed way c.head (place_to_grow_to way (headers h.row) c.head (cell_length bytes)) ≡ false) (sym s.moving)
      (ne_eqb (place_of (headers h.row) (cell_length bytes)) c.head.place (elsewhere bytes))

  pub grown-number : (bytes : ℕ) → (grown_pointer h c.head bytes (w.made + 1)).number ≡ w.made + 1
  grown-number bytes = ap (λ b. cond b c.head.number (w.made + 1)) (moves bytes)

  -- the other's number is its own or the attempt's
  other_number : (P : ℕ → Type 0) (bytes : ℕ) → P d.head.number → P (w.made + 1) → P (grown_pointer g d.head bytes (w.made + 1)).number
  other_number P bytes own new = by (has_stayed g.placement d.head (realloc_request g d.head bytes).place)
    where
      by : (b : Bool) → P (cond b d.head.number (w.made + 1))
      by true = own
      by false = new

  pub grown-null : (bytes : ℕ) → nat_eq (grown_pointer g d.head bytes (w.made + 1)).number 0 ≡ nat_eq (grown_pointer h c.head bytes (w.made + 1)).number 0
  grown-null bytes =
      other_number (λ n. nat_eq n 0 ≡ false) bytes (ne_eqb d.head.number 0 (λ e. absurd (omega (arith, e, other_bounds.0)))) (ne_eqb (w.made + 1) 0 (λ e. absurd (omega (arith, e))))
      ∙ sym (ne_eqb _ 0 (λ e. let new = grown-number bytes in absurd (omega (arith, e, new))))

  pub realloc-alike : {one other : Content} (bytes : ℕ) (answer : Answer) → IsSameContent w.pairs one other →
      AnsweredAlike (after_answer w (grown_pointer h c.head bytes (w.made + 1)) (grown_pointer g d.head bytes (w.made + 1)) answer) (pointer_to c.head) h
      (after_realloc h (realloc_request h c.head bytes) c.head one (w.made + 1) answer) (after_realloc g (realloc_request g d.head bytes) d.head other (w.made + 1) answer)
  realloc-alike bytes Simulated same = record {
    heap = counted-same (grown_pointer h c.head bytes (w.made + 1)) (grown_pointer g d.head bytes (w.made + 1)) Simulated (grown-number bytes) s;
    given = neither;
    kept = λ a x n e. e;
  }
  realloc-alike bytes Refused same = record {
    heap = counted-same (grown_pointer h c.head bytes (w.made + 1)) (grown_pointer g d.head bytes (w.made + 1)) Refused (grown-number bytes) s;
    given = neither;
    kept = λ a x n e. e;
  }
  realloc-alike {one} {other} bytes Granted same = record {
    heap = with_rows rows (counted-same p q Granted (grown-number bytes) s);
    given = both_some named;
    kept = λ a y n e. cell_at-inserted_other a x (without (pointer_to c.head) h.row) (not_at-new x a h.row y (new_to h.row s.rows.one) e) ∙ found-without_other a (pointer_to c.head) h.row n ∙ e;
  }
    where
      p : Ptr
      p = grown_pointer h c.head bytes (w.made + 1)

      q : Ptr
      q = grown_pointer g d.head bytes (w.made + 1)

      v : Partners
      v = after_answer w p q Granted

      x : Cell Content
      x = record { head = moved h.placement c.head (w.made + 1) (realloc_request h c.head bytes); content = one }

      y : Cell Content
      y = record { head = moved g.placement d.head (w.made + 1) (realloc_request g d.head bytes); content = other }

      named : Stands v.pairs p q
      named = newest-stands w.pairs p q

      new_to : (row : List (Cell Content)) → IsNumbered w.made row → Lacks x.head.number row
      new_to row numbered = subst (λ n. Lacks n row) (sym (grown-number bytes)) (lacks-next w.made row numbered)

      free : IsFree (headers (without (pointer_to c.head) h.row)) x.head.place (cell_length bytes)
      free = subst (λ hs. IsFree hs x.head.place (cell_length bytes)) (sym (headers-without (pointer_to c.head) h.row))
          (free-filter (λ t. not (is_at (pointer_to c.head) t)) (headers h.row) x.head.place (cell_length bytes) (placed bytes).free)

      rows : AreSameRows v (inserted x (without (pointer_to c.head) h.row)) (inserted y (without (pointer_to d.head) g.row))
      rows =
          let number = grown-number bytes in
          rows-inserted (answer-partners w p q Granted number (grown-null bytes) is)
          (record { head = record { length = refl; kind = cells.same.head.kind; level = cells.same.head.level; named = named }; content = content-later (answer-extends w p q Granted) same })
          (new_to (without (pointer_to c.head) h.row) rest.one)
          (other_number (λ n. Lacks n (without (pointer_to d.head) g.row)) bytes (without-lacks w.made (pointer_to d.head) g.row d s.rows.other cells.there)
          (lacks-next w.made (without (pointer_to d.head) g.row) rest.other))
          (omega (arith, number), omega (arith, number))
          (other_number (λ n. (1 ≤ n) × (n ≤ w.made + 1)) bytes (other_bounds.0, omega (arith, other_bounds.1)) (omega arith, omega arith))
          (spaced-inserted x (without (pointer_to c.head) h.row) 0 (omega arith) (placed bytes).aligned (omega arith) (omega arith) (omega (arith, number)) free rest.spaced)
          (rows-later p q Granted number rest)

  -- a cell that becomes no longer stays in both
  pub shortened-alike : {one other : Content} (bytes : ℕ) → cell_length bytes ≤ c.head.length → IsSameContent w.pairs one other →
      IsSameHeap w (shortened h c.head (cell_length bytes) one) (shortened g d.head (cell_length bytes) other)
      × KeepsOthers (pointer_to c.head) h.row (shortened h c.head (cell_length bytes) one).row
  shortened-alike {one} {other} bytes shorter same = (with_rows rows s, kept)
    where
      x : Cell Content
      x = record { head = record c.head { length = cell_length bytes }; content = one }

      y : Cell Content
      y = record { head = record d.head { length = cell_length bytes }; content = other }

      p : Ptr
      p = pointer_to c.head

      free : IsFree (headers (without p h.row)) c.head.place (cell_length bytes)
      free = subst (λ hs. IsFree hs c.head.place (cell_length bytes)) (sym (headers-without p h.row))
          (fits-free p (cell_length bytes) (headers h.row) (fits-words (headers h.row) c.head (cell_length bytes)
          (fits-shorter p (headers h.row) 0 c.head (cell_length bytes) s.rows.spaced (found-head p h.row c cells.here) shorter)))

      rows : AreSameRows w (inserted x (without p h.row)) (inserted y (without (pointer_to d.head) g.row))
      rows =
          let own = found-from p (headers h.row) 0 c.head s.rows.spaced (found-head p h.row c cells.here) in
          rows-inserted is
          (record { head = record { length = refl; kind = cells.same.head.kind; level = cells.same.head.level; named = cells.same.head.named }; content = same })
          (without-lacks w.made p h.row c s.rows.one cells.here)
          (without-lacks w.made (pointer_to d.head) g.row d s.rows.other cells.there)
          one_bounds other_bounds
          (spaced-inserted x (without p h.row) 0 (omega arith) own.placed (omega arith) (omega arith) one_bounds.0 free rest.spaced) rest

      kept : KeepsOthers p h.row (inserted x (without p h.row))
      kept a z n e = cell_at-inserted_other a x (without p h.row) (by (is_at a x.head) refl) ∙ found-without_other a p h.row n ∙ e
        where
          by : (b : Bool) → is_at a x.head ≡ b → is_at a x.head ≡ false
          by false at = at
          by true at = absurd (n (sym (pointer-at a x.head at)))

-- marks and checks
pub mark-same : {w : Partners} {h g : Heap Content} → IsSameHeap w h g → IsSameHeap w (after_mark h) (after_mark g)
mark-same s = record { rows = s.rows; level = ap (λ l. l + 1) s.level; setting = s.setting; moving = s.moving }

pub mark_end-same : {w : Partners} {h g : Heap Content} → IsSameHeap w h g → IsSameHeap w (after_mark_end h) (after_mark_end g)
mark_end-same {w} {h} {g} s = record {
  rows = subst (λ l. AreSameRows w (after_mark_end h).row (lowered l g.row)) (sym s.level) (rows-lowered h.level s.rows);
  level = ap (λ l. l - 1) s.level;
  setting = s.setting;
  moving = s.moving;
}

-- a check that the first passes, the second does too
passed : (hs gs : List Header) (n : ℕ) → length gs ≡ length hs → checked hs n ≡ None → checked gs n ≡ None
passed hs gs n same e = by (nat_eq (length hs) n) refl e
  where
    by : (b : Bool) → nat_eq (length hs) n ≡ b → cond b None (Some (Alloc (lowest hs))) ≡ None → checked gs n ≡ None
    by true is e = ap (λ l. cond (nat_eq l n) None (Some (Alloc (lowest gs)))) same ∙ ap (λ b. cond b None (Some (Alloc (lowest gs)))) is
    by false is e = cc

module _ {w : Partners} {h g : Heap Content} (s : IsSameHeap w h g) where
  pub all_levels-counted : length (cells_of_all_levels (headers g.row)) ≡ length (cells_of_all_levels (headers h.row))
  all_levels-counted = s.rows.counts (λ l k. not (is_cleanup k))

  pub all_levels-passed : (n : ℕ) → checked (cells_of_all_levels (headers h.row)) n ≡ None → checked (cells_of_all_levels (headers g.row)) n ≡ None
  all_levels-passed n e = passed (cells_of_all_levels (headers h.row)) (cells_of_all_levels (headers g.row)) n all_levels-counted e

  pub level-passed : (n : ℕ) → checked (cells_of_level h.level (headers h.row)) n ≡ None → checked (cells_of_level g.level (headers g.row)) n ≡ None
  level-passed n e =
      passed (cells_of_level h.level (headers h.row)) (cells_of_level g.level (headers g.row)) n
      (ap (λ l. length (cells_of_level l (headers g.row))) s.level ∙ s.rows.counts (λ l k. nat_eq l h.level && not (is_cleanup k))) e

  pub mark_end-passed : (n : ℕ) → mark_end_refusal h n ≡ None → mark_end_refusal g n ≡ None
  mark_end-passed n e = ap (λ l. cond (nat_eq l 0) (Some NO_OPEN_MARK) (checked (cells_of_level g.level (headers g.row)) n)) s.level ∙ by (nat_eq h.level 0) e
    where
      by : (b : Bool) → cond b (Some NO_OPEN_MARK) (checked (cells_of_level h.level (headers h.row)) n) ≡ None →
          cond b (Some NO_OPEN_MARK) (checked (cells_of_level g.level (headers g.row)) n) ≡ None
      by true e = cc
      by false e = level-passed n e
