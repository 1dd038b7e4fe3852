-- Cells that are compared by place, and the words that they hold.
use Rattle.std.proofs.Common.{◌≡◌, ℕ, ◌+◌, ◌*◌, ◌<◌, ◌≤◌, Bool, true, false, ◌&&◌, List, [], ◌∷◌, length, take, drop, map, filter, refl, ap, ◌∙◌, sym, arith, cond, subst, Option, Some, None}
use Rattle.std.specs.Prelude.{nat_eq, nat_le, slice_index, option_map}
use Rattle.std.proofs.lemmas.Bool.{leb-true, leb-false, le-leb, lt-leb, eq-eqb, ne_eqb}
use Rattle.std.proofs.lemmas.List.{drop_more, drop_all, length-drop}
use Rattle.wb_heap_model.specs.declared.heap.Header.{Header}
use Rattle.wb_heap_model.specs.declared.heap.Kind.{Kind}
use Rattle.wb_heap_model.specs.declared.heap.Kind.TheVariants.{Raw, Object, Text, Cleanup}
use Rattle.wb_heap_model.specs.declared.heap.Ptr.{Ptr}
use Rattle.wb_tree.specs.declared.script.Script.{Script}
use Rattle.wb_heap_model.specs.Spelling.{pointers, signed, halves, read_as}
use Rattle.wb_heap_model.specs.LimitedHeap.{next_live_of}
use Rattle.wb_heap_model.specs.Row.{Cell, headers, end_of, is_at, cell_at, pointer_to, IsSpacedFrom}
use Rattle.wb_renaming.specs.SameButNumbers as numbers
use Rattle.wb_renaming.specs.SameButNumbers.{Names, AllBeside, none_beside, one_beside, IsSamePointer, IsSameHeader, IsSameContent, IsSameCell}
use Rattle.wb_renaming.proofs.SameNumbers.{Extends, ap_two, take-beside, pointer-later, cell-later}
use Rattle.wb_machine.specs.Alike.{ArePairsAlike, AreWordsAlike}
use Rattle.wb_machine.specs.RunState.{field_count, read_cell, read_row}
use Rattle.wb_machine.proofs.likeness.GrownMaps.{LeadsTo}

abbrev Words : Type 0
Words = Cell (List ℕ)

-- the cells that begin at a place or above it
abbrev pub from_place : ℕ → List Words → List Words
from_place at row = filter (λ c. nat_le at c.head.place) row

from-more : (at : ℕ) (c : Words) (cs : List Words) → at ≤ c.head.place → from_place at (c ∷ cs) ≡ c ∷ from_place at cs
from-more at c cs le = ap (λ b. cond b (c ∷ from_place at cs) (from_place at cs)) (le-leb at c.head.place le)

from-less : (at : ℕ) (c : Words) (cs : List Words) → c.head.place < at → from_place at (c ∷ cs) ≡ from_place at cs
from-less at c cs lt = ap (λ b. cond b (c ∷ from_place at cs) (from_place at cs)) (lt-leb at c.head.place lt)

from-all : (at low : ℕ) (cs : List Words) → IsSpacedFrom low (headers cs) → at ≤ low → from_place at cs ≡ cs
from-all at low [] s le = refl
from-all at low (c ∷ cs) s le =
    from-more at c cs (omega (arith, s.0, le)) ∙ ap (λ r. c ∷ r) (from-all at (end_of c.head) cs s.5 (omega (arith, s.0, le)))

pub from-start : (cs : List Words) → from_place 0 cs ≡ cs
from-start [] = refl
from-start (c ∷ cs) = from-more 0 c cs (omega arith) ∙ ap (λ r. c ∷ r) (from-start cs)

pub from-none : (at : ℕ) (cs : List Words) → next_live_of at (headers cs) ≡ None → from_place at cs ≡ []
from-none at [] e = refl
from-none at (c ∷ cs) e = by (nat_le at c.head.place) e (from-none at cs)
  where
    by : (b : Bool) → cond b (Some c.head) (next_live_of at (headers cs)) ≡ None → (next_live_of at (headers cs) ≡ None → from_place at cs ≡ []) →
        cond b (c ∷ from_place at cs) (from_place at cs) ≡ []
    by true e rest = cc
    by false e rest = rest e

-- the next cell, which its pointer names, and those after its end
pub record IsNextIn (at : ℕ) (h : Header) (row : List Words) : Type 0 where
  pub cell : Words
  pub head : cell.head ≡ h
  pub above : at ≤ h.place
  pub found : cell_at (pointer_to h) row ≡ Some cell
  pub there : from_place at row ≡ cell ∷ from_place (end_of h) row

own-at : (h : Header) → is_at (pointer_to h) h ≡ true
own-at h = ap_two ◌&&◌ (eq-eqb h.place h.place refl) (eq-eqb h.number h.number refl)

other-at : (p : Ptr) (h : Header) → h.place < p.place → is_at p h ≡ false
other-at p h lt = ap (λ b. b && nat_eq p.number h.number) (ne_eqb p.place h.place (λ e. omega (arith, e, lt)))

pub next-in : (at low : ℕ) (h : Header) (row : List Words) → IsSpacedFrom low (headers row) → next_live_of at (headers row) ≡ Some h → IsNextIn at h row
next-in at low h [] s e = cc
next-in at low h (c ∷ cs) s e = by (nat_le at c.head.place) refl e (next-in at (end_of c.head) h cs s.5)
  where
    by : (b : Bool) → nat_le at c.head.place ≡ b → cond b (Some c.head) (next_live_of at (headers cs)) ≡ Some h →
        (next_live_of at (headers cs) ≡ Some h → IsNextIn at h cs) → IsNextIn at h (c ∷ cs)
    by true t e rest =
        let same : c.head ≡ h = cc in
        let le : at ≤ c.head.place = leb-true _ _ t in
        subst (λ x. IsNextIn at x (c ∷ cs)) same (record {
          cell = c;
          head = refl;
          above = le;
          found = ap (λ b. cond b (Some c) (cell_at (pointer_to c.head) cs)) (own-at c.head);
          there = from-more at c cs le ∙ ap (λ r. c ∷ r) (from-all at (end_of c.head) cs s.5 (omega (arith, le))
              ∙ sym (from-less (end_of c.head) c cs (omega (arith, s.3)) ∙ from-all (end_of c.head) (end_of c.head) cs s.5 (omega arith)));
        })
    by false t e rest =
        let is = rest e in
        let below : c.head.place < at = leb-false _ _ t in
        record {
          cell = is.cell;
          head = is.head;
          above = is.above;
          found = ap (λ b. cond b (Some c) (cell_at (pointer_to h) cs)) (other-at (pointer_to h) c.head (omega (arith, below, is.above))) ∙ is.found;
          there = from-less at c cs below ∙ is.there ∙ ap (λ r. is.cell ∷ r) (sym (from-less (end_of h) c cs (omega (arith, below, is.above))));
        }

-- what is left of two rows from a place on, read as content
abbrev pub AreCellsAlike : Script → ℕ → List Words → List Words → Names → Type 0
AreCellsAlike script at row other names = AllBeside (IsSameCell names) (read_row script (from_place at row)) (read_row script (from_place at other))

abbrev pub AreRowsAlike : Script → List Words → List Words → Names → Type 0
AreRowsAlike script row other names = AllBeside (IsSameCell names) (read_row script row) (read_row script other)

pub cells-first : (script : Script) (row other : List Words) (names : Names) → LeadsTo (AreCellsAlike script 0 row other) (AreRowsAlike script row other) names
cells-first script row other names more e s =
    subst (λ r. AllBeside (IsSameCell more) (read_row script r) (read_row script other)) (from-start row)
    (subst (λ r. AllBeside (IsSameCell more) (read_row script (from_place 0 row)) (read_row script r)) (from-start other) s)

pub cells-next : (script : Script) (at : ℕ) (h g : Header) (row other : List Words) (names grown : Names) → (one : IsNextIn at h row) → (two : IsNextIn at g other) →
    Extends names grown → IsSameCell grown (read_cell script one.cell) (read_cell script two.cell) → end_of g ≡ end_of h →
    LeadsTo (AreCellsAlike script at row other) (AreRowsAlike script row other) names → LeadsTo (AreCellsAlike script (end_of h) row other) (AreRowsAlike script row other) grown
cells-next script at h g row other names grown one two e same ends lead more f rest =
    lead more (λ a b r. f a b (e a b r))
    (subst (λ r. AllBeside (IsSameCell more) (read_row script r) (read_row script (from_place at other))) (sym one.there)
    (subst (λ r. AllBeside (IsSameCell more) (read_cell script one.cell ∷ read_row script (from_place (end_of h) row)) (read_row script r)) (sym two.there)
    (one_beside (cell-later f same) (subst (λ n. AllBeside (IsSameCell more) (read_row script (from_place (end_of h) row)) (read_row script (from_place n other))) (sym ends) rest))))

pub cells-done : (script : Script) (at : ℕ) (row other : List Words) (names : Names) → next_live_of at (headers row) ≡ None → next_live_of at (headers other) ≡ None →
    LeadsTo (AreCellsAlike script at row other) (AreRowsAlike script row other) names → AreRowsAlike script row other names
cells-done script at row other names e g lead =
    lead names (λ a b r. r)
    (subst (λ r. AllBeside (IsSameCell names) (read_row script r) (read_row script (from_place at other))) (sym (from-none at row e))
    (subst (λ r. AllBeside (IsSameCell names) [] (read_row script r)) (sym (from-none at other g)) none_beside))

-- words, one by one
pub words-next : (ws vs : List ℕ) (i : ℕ) → i < length ws → i < length vs → slice_index ws i ≡ slice_index vs i → (drop i vs ≡ drop i ws → vs ≡ ws) →
    drop (i + 1) vs ≡ drop (i + 1) ws → vs ≡ ws
words-next ws vs i within other_within e lead rest =
    lead (drop_more vs i 0 other_within ∙ ap_two (λ (x : ℕ) (xs : List ℕ). x ∷ xs) (sym e) rest ∙ sym (drop_more ws i 0 within))

pub words-done : (ws vs : List ℕ) (n i : ℕ) → length ws ≡ n → length vs ≡ n → n ≤ i → (drop i vs ≡ drop i ws → vs ≡ ws) → vs ≡ ws
words-done ws vs n i e g past lead = lead (drop_all i vs (omega (arith, g, past)) ∙ sym (drop_all i ws (omega (arith, e, past))))

-- pointers in words, two by two
abbrev pub ArePairsFrom : ℕ → List ℕ → List ℕ → Names → Type 0
ArePairsFrom i ws vs names = AllBeside (IsSamePointer names) (pointers (drop (2 * i) ws)) (pointers (drop (2 * i) vs))

pair-there : (ws : List ℕ) (i : ℕ) → 2 * i + 1 < length ws →
    pointers (drop (2 * i) ws) ≡ record { place = slice_index ws (2 * i); number = slice_index ws (2 * i + 1) } ∷ pointers (drop (2 * (i + 1)) ws)
pair-there ws i within =
    ap pointers (drop_more ws (2 * i) 0 (omega (arith, within)) ∙ ap (λ r. slice_index ws (2 * i) ∷ r) (drop_more ws (2 * i + 1) 0 within))
    ∙ ap (λ n. record { place = slice_index ws (2 * i); number = slice_index ws (2 * i + 1) } ∷ pointers (drop n ws)) twice
  where
    twice : 2 * i + 1 + 1 ≡ 2 * (i + 1)
    twice = omega arith

pub pairs-next : (ws vs : List ℕ) (i : ℕ) (p q : Ptr) (names grown : Names) → 2 * i + 1 < length ws → 2 * i + 1 < length vs →
    p ≡ record { place = slice_index ws (2 * i); number = slice_index ws (2 * i + 1) } → q ≡ record { place = slice_index vs (2 * i); number = slice_index vs (2 * i + 1) } →
    Extends names grown → IsSamePointer grown p q →
    LeadsTo (ArePairsFrom i ws vs) (λ more. ArePairsAlike more ws vs) names → LeadsTo (ArePairsFrom (i + 1) ws vs) (λ more. ArePairsAlike more ws vs) grown
pairs-next ws vs i p q names grown within other_within is other_is e same lead more f rest =
    lead more (λ a b r. f a b (e a b r))
    (subst (λ ps. AllBeside (IsSamePointer more) ps (pointers (drop (2 * i) vs))) (ap (λ x. x ∷ pointers (drop (2 * (i + 1)) ws)) is ∙ sym (pair-there ws i within))
    (subst (λ qs. AllBeside (IsSamePointer more) (p ∷ pointers (drop (2 * (i + 1)) ws)) qs) (ap (λ x. x ∷ pointers (drop (2 * (i + 1)) vs)) other_is ∙ sym (pair-there vs i other_within))
    (one_beside (pointer-later f same) rest)))

few-none : (ws : List ℕ) → length ws ≤ 1 → pointers ws ≡ []
few-none [] le = refl
few-none (w ∷ []) le = refl
few-none (w ∷ v ∷ ws) le = absurd (omega (arith, le))

pub pairs-done : (ws vs : List ℕ) (n i : ℕ) (names : Names) → length ws ≡ n → length vs ≡ n → n ≤ 2 * i + 1 →
    LeadsTo (ArePairsFrom i ws vs) (λ more. ArePairsAlike more ws vs) names → ArePairsAlike names ws vs
pairs-done ws vs n i names e g past lead =
    lead names (λ a b r. r)
    (subst (λ ps. AllBeside (IsSamePointer names) ps (pointers (drop (2 * i) vs))) (sym (few-none (drop (2 * i) ws) (omega (arith, length-drop (2 * i) ws, e, past))))
    (subst (λ qs. AllBeside (IsSamePointer names) [] qs) (sym (few-none (drop (2 * i) vs) (omega (arith, length-drop (2 * i) vs, g, past)))) none_beside))

-- what the words of a kind read as
content-alike : (names : Names) (count : ℕ → ℕ) (kind : Kind) (ws vs : List ℕ) → AreWordsAlike names kind ws vs → IsSameContent names (read_as count kind ws) (read_as count kind vs)
content-alike names count Raw ws vs e = subst (λ us. IsSameContent names (read_as count Raw ws) (read_as count Raw us)) (sym e) (numbers.same_words (map signed ws))
content-alike names count (Object class) ws vs s = numbers.same_fields (take-beside (count class) s)
content-alike names count Text ws vs e =
    subst (λ us. IsSameContent names (read_as count Text ws) (read_as count Text us)) (sym e) (numbers.same_units (take (slice_index ws 0) (halves (drop 1 ws))))
content-alike names count Cleanup ws vs s = numbers.same_none

pub cell-alike : (names : Names) (script : Script) (c d : Words) → IsSameHeader names c.head d.head → AreWordsAlike names c.head.kind c.content d.content →
    IsSameCell names (read_cell script c) (read_cell script d)
cell-alike names script c d s same = record {
  head = s;
  content = subst (λ k. IsSameContent names (read_as (field_count script) c.head.kind c.content) (read_as (field_count script) k d.content)) (sym s.kind)
      (content-alike names (field_count script) c.head.kind c.content d.content same);
}

-- the header that was read is the cell's own
pub head-is : (o : Option Words) (h : Header) (c : Words) → option_map (λ (d : Words). d.head) o ≡ Some h → o ≡ Some c → c.head ≡ h
head-is o h c e f = let both : Some c.head ≡ Some h = sym (ap (option_map (λ (d : Words). d.head)) f) ∙ e in cc
