-- What a script does to its heap keeps the cells a row, numbered by the attempts so far, each with what its kind holds.
use Rattle.std.proofs.Common.{◌≡◌, ◌≢◌, ℕ, suc, ◌+◌, ◌-◌, ◌%◌, ◌≤◌, Bool, true, false, not, cond, List, [], ◌∷◌, length, filter, find, All, AllPairs, Some, refl, sym, subst, arith}
use Rattle.std.specs.Prelude.{◌&&◌, nat_eq}
use Rattle.std.proofs.lemmas.Bool.{and_parts}
use Rattle.std.proofs.lemmas.List.Elements.{All-cons, All-nil, All-filter}
use Rattle.std.proofs.lemmas.List.Kept.{AllPairs-cons}
use Rattle.wb_heap_model.specs.declared.heap.Ptr.{Ptr}
use Rattle.wb_heap_model.specs.declared.heap.Header.{Header}
use Rattle.wb_heap_model.specs.declared.heap.Kind.{Kind}
use Rattle.wb_heap_model.specs.declared.heap.Kind.TheVariants as K
use Rattle.wb_heap_model.specs.declared.heap.Answer.{Answer}
use Rattle.wb_heap_model.specs.declared.heap.Answer.TheVariants.{Granted, Simulated, Refused}
use Rattle.wb_tree.specs.declared.script.Script.{Script}
use Rattle.wb_heap_model.specs.Row.{Cell, headers, end_of, pointer_to, is_at, cell_at, cell_length, inserted, without, changed, place_of, IsSpacedFrom, IsRow, IsFree, IsLeastPlace}
use Rattle.wb_heap_model.specs.Placement.{Placement, first_fit, by_placing, after_placing, fits_in_place, has_stayed, place_to_put, place_to_grow_to, IsByFirstFit}
use Rattle.wb_heap_model.specs.Heap.{Heap, new_cell, moved, alloc_request, after_alloc, realloc_request, after_realloc, shortened, lower, lowered, is_cleanup}
use Rattle.wb_heap_model.specs.Rules.{Request}
use Rattle.wb_meaning.specs.Throughout.{SuitsKind, HoldsItsKind, AreCellsAfter}
use Rattle.wb_heap_model.specs.Contents.{Content, words, fields, units, none}
use Rattle.wb_meaning.specs.Attempts.{resized}
use Rattle.wb_heap_model.proofs.Places.{place_of-least}
use Rattle.wb_heap_model.proofs.Rows.{headers-without, headers-changed, IsRow-filter, IsRow-inserted, All-inserted, All-placed}
use Rattle.wb_heap_model.proofs.Reallocations.{pointer-at, found-from, found-all, found-head, fits-words, fits-free, fits-shorter, free-filter}
use Rattle.wb_heap_model.proofs.ReallocatedHeaps.{others-numbered}
use Rattle.wb_meaning.proofs.AlikeLemmas.{Lasting}

-- more attempts were made
later : (script : Script) (made more : ℕ) (cells : List (Cell Content)) → made ≤ more → AreCellsAfter script made cells → AreCellsAfter script more cells
later script made more cells le is = record { row = is.row; made_before = λ k d lt. omega (arith, le, is.made_before k d lt); kinds = is.kinds }

-- the cell that a pointer names
pub found-cell : (P : Cell Content → Type 0) (p : Ptr) (cells : List (Cell Content)) (c : Cell Content) → All P cells → cell_at p cells ≡ Some c → P c
found-cell P p [] c all e = cc
found-cell P p (d ∷ ds) c all e = by (is_at p d.head) e (found-cell P p ds c (λ k x lt. all (suc k) x (omega arith)))
  where
    by : (b : Bool) → cond b (Some d) (cell_at p ds) ≡ Some c → (cell_at p ds ≡ Some c → P c) → P c
    by true found rest = let same : d ≡ c = cc in subst P same (all 0 d (omega arith))
    by false found rest = rest found

-- resized content is of the same kind
suits-resized : (script : Script) (kind : Kind) (c : Content) (usable : ℕ) → SuitsKind script kind c → SuitsKind script kind (resized usable c)
suits-resized script K.Raw (words ws) usable is = tt
suits-resized script (K.Object class) (words ws) usable is = absurd is
suits-resized script K.Text (words ws) usable is = absurd is
suits-resized script K.Cleanup (words ws) usable is = absurd is
suits-resized script kind (fields ps) usable is = is
suits-resized script kind (units us) usable is = is
suits-resized script kind none usable is = is

-- the content of the cell that a pointer names is changed to fit
pub kinds-changed : (script : Script) (p : Ptr) (f : Content → Content) (cells : List (Cell Content)) →
    ((c : Cell Content) → cell_at p cells ≡ Some c → HoldsItsKind script c → SuitsKind script c.head.kind (f c.content)) →
    All (HoldsItsKind script) cells → All (HoldsItsKind script) (changed p f cells)
kinds-changed script p f [] suits all = All-nil (HoldsItsKind script)
kinds-changed script p f (d ∷ ds) suits all =
    by (is_at p d.head) suits (λ h. kinds-changed script p f ds h (λ k x lt. all (suc k) x (omega arith)))
  where
    by : (b : Bool) → ((c : Cell Content) → cond b (Some d) (cell_at p ds) ≡ Some c → HoldsItsKind script c → SuitsKind script c.head.kind (f c.content)) →
        (((c : Cell Content) → cell_at p ds ≡ Some c → HoldsItsKind script c → SuitsKind script c.head.kind (f c.content)) → All (HoldsItsKind script) (changed p f ds)) →
        All (HoldsItsKind script) (cond b (record d { content = f d.content } ∷ ds) (d ∷ changed p f ds))
    by true h rest = All-cons (HoldsItsKind script) (record d { content = f d.content }) ds (h d refl (all 0 d (omega arith))) (λ k x lt. all (suc k) x (omega arith))
    by false h rest = All-cons (HoldsItsKind script) d (changed p f ds) (all 0 d (omega arith)) (rest h)

-- a cell of another level is the same otherwise
lower-is : (P : Header → Type 0) (level : ℕ) (h : Header) → P h → P (record h { level = level - 1 }) → P (lower level h)
lower-is P level h here there = by (nat_eq h.level level && not (is_cleanup h.kind))
  where
    by : (b : Bool) → P (cond b (record h { level = level - 1 }) h)
    by true = there
    by false = here

All-lowered : (P : Header → Type 0) (level : ℕ) (cells : List (Cell Content)) → ((h : Header) (l : ℕ) → P h → P (record h { level = l })) →
    All P (headers cells) → All P (headers (lowered level cells))
All-lowered P level [] blind all = All-nil P
All-lowered P level (c ∷ cs) blind all =
    All-cons P (lower level c.head) (headers (lowered level cs))
    (lower-is P level c.head (all 0 c.head (omega arith)) (blind c.head (level - 1) (all 0 c.head (omega arith))))
    (All-lowered P level cs blind (λ k x lt. all (suc k) x (omega arith)))

pub kinds-lowered : (script : Script) (level : ℕ) (cells : List (Cell Content)) → All (HoldsItsKind script) cells → All (HoldsItsKind script) (lowered level cells)
kinds-lowered script level [] all = All-nil (HoldsItsKind script)
kinds-lowered script level (c ∷ cs) all =
    All-cons (HoldsItsKind script) (record c { head = lower level c.head }) (lowered level cs)
    (lower-is (λ h. SuitsKind script h.kind c.content) level c.head (all 0 c (omega arith)) (all 0 c (omega arith)))
    (kinds-lowered script level cs (λ k x lt. all (suc k) x (omega arith)))

spaced-lowered : (level : ℕ) (cells : List (Cell Content)) (at : ℕ) → IsSpacedFrom at (headers cells) → IsSpacedFrom at (headers (lowered level cells))
spaced-lowered level [] at s = tt
spaced-lowered level (c ∷ cs) at s =
    let rest = spaced-lowered level cs (end_of c.head) s.5 in
    let is : IsSpacedFrom at (c.head ∷ headers (lowered level cs)) = (s.0, s.1, s.2, s.3, s.4, rest) in
    lower-is (λ h. IsSpacedFrom at (h ∷ headers (lowered level cs))) level c.head is is

numbered-lowered : (level : ℕ) (cells : List (Cell Content)) → AllPairs (λ g h. g.number ≢ h.number) (headers cells) →
    AllPairs (λ g h. g.number ≢ h.number) (headers (lowered level cells))
numbered-lowered level [] apart = apart
numbered-lowered level (c ∷ cs) apart =
    AllPairs-cons (λ g h. g.number ≢ h.number) (lower level c.head) (headers (lowered level cs))
    (lower-is (λ g. All (λ h. g.number ≢ h.number) (headers (lowered level cs))) level c.head first first)
    (numbered-lowered level cs (λ i j x lt end. apart (suc i) (suc j) x (omega arith) (omega arith)))
  where
    first : All (λ h. c.head.number ≢ h.number) (headers (lowered level cs))
    first = All-lowered (λ h. c.head.number ≢ h.number) level cs (λ h l other. other) (λ k x lt. apart 0 (suc k) x (omega arith) (omega arith))

-- the cell with another place, length and number, and what it held
abbrev resized_to : Cell Content → ℕ → ℕ → ℕ → Cell Content
resized_to c place to number =
    record { head = record c.head { place = place; length = to; number = number }; content = resized (to - 16) c.content }

pub one_more : (n : ℕ) (ns : List ℕ) → n ≡ length ns + 1 → n ≡ length (n ∷ ns)
one_more n ns e = omega (arith, e)

-- of first fit, what holds of the first gap holds of the place of a new cell
put-by_first_fit : (P : ℕ → Type 0) (way : Placement) (row : List Header) (length : ℕ) → IsByFirstFit way → P (place_of row length) → P (place_to_put way row length)
put-by_first_fit P (first_fit moving) row length is p = p
put-by_first_fit P (by_placing spots) row length is p = absurd is

counted-by_first_fit : (way : Placement) → IsByFirstFit way → IsByFirstFit (after_placing way)
counted-by_first_fit (first_fit moving) is = is
counted-by_first_fit (by_placing spots) is = is

-- an answer leaves it so
pub alloc-by_first_fit : {A : Type 0} (heap : Heap A) (t : Request) (kind : Kind) (fresh : A) (n : ℕ) (answer : Answer) → IsByFirstFit heap.placement →
    IsByFirstFit (after_alloc heap t kind fresh n answer).heap.placement
alloc-by_first_fit heap t kind fresh n Granted is = counted-by_first_fit heap.placement is
alloc-by_first_fit heap t kind fresh n Simulated is = counted-by_first_fit heap.placement is
alloc-by_first_fit heap t kind fresh n Refused is = counted-by_first_fit heap.placement is

pub realloc-by_first_fit : {A : Type 0} (heap : Heap A) (t : Request) (h : Header) (content : A) (n : ℕ) (answer : Answer) → IsByFirstFit heap.placement →
    IsByFirstFit (after_realloc heap t h content n answer).heap.placement
realloc-by_first_fit heap t h content n Granted is = counted-by_first_fit heap.placement is
realloc-by_first_fit heap t h content n Simulated is = counted-by_first_fit heap.placement is
realloc-by_first_fit heap t h content n Refused is = counted-by_first_fit heap.placement is

-- a new cell
module _ (script : Script) (made : ℕ) (heap : Heap Content) (chosen : IsByFirstFit heap.placement) (is : AreCellsAfter script made heap.row) where
  pub allocated : (bytes : ℕ) (kind : Kind) (fresh : Content) (n : ℕ) (answer : Answer) → SuitsKind script kind fresh → n ≡ made + 1 →
      AreCellsAfter script n (after_alloc heap (alloc_request heap bytes) kind fresh n answer).heap.row
  allocated bytes kind fresh n Simulated suits next = later script made n heap.row (omega (arith, next)) is
  allocated bytes kind fresh n Refused suits next = later script made n heap.row (omega (arith, next)) is
  allocated bytes kind fresh n Granted suits next =
      let length = cell_length bytes in
      let place = put-by_first_fit (λ at. IsLeastPlace (headers heap.row) length at) heap.placement (headers heap.row) length chosen
      (place_of-least (headers heap.row) length (omega arith) is.row.spaced) in
      let cell : Cell Content =
      record { head = record { place = place_to_put heap.placement (headers heap.row) length; length = length; kind = kind; level = heap.level; number = n }; content = fresh } in
      record {
        row = IsRow-inserted cell heap.row place.aligned (omega arith) (omega arith) (omega (arith, next)) place.free
            (λ k d lt e. omega (arith, next, e, is.made_before k d lt)) is.row;
        made_before = All-inserted (λ h. h.number ≤ n) cell heap.row (omega arith) (λ k d lt. omega (arith, next, is.made_before k d lt));
        kinds = All-placed (HoldsItsKind script) cell heap.row suits is.kinds;
      }

  -- another cell in the place of one
  replaced : (c new : Cell Content) (more : ℕ) → made ≤ more → cell_at (pointer_to c.head) heap.row ≡ Some c → new.head.place % 16 ≡ 0 → new.head.length % 16 ≡ 0 →
      16 ≤ new.head.length → 1 ≤ new.head.number → IsFree (filter (λ h. not (is_at (pointer_to c.head) h)) (headers heap.row)) new.head.place new.head.length →
      All (λ h. h.number ≢ new.head.number) (filter (λ h. not (is_at (pointer_to c.head) h)) (headers heap.row)) → new.head.number ≤ more → HoldsItsKind script new →
      AreCellsAfter script more (inserted new (without (pointer_to c.head) heap.row))
  replaced c new more le e placed aligned long numbered free apart within suits =
      let p = pointer_to c.head in
      let others = sym (headers-without p heap.row) in
      record {
        row = IsRow-inserted new (without p heap.row) placed aligned long numbered (subst (λ hs. IsFree hs new.head.place new.head.length) others free)
            (subst (All (λ h. h.number ≢ new.head.number)) others apart) (subst IsRow others (IsRow-filter _ (headers heap.row) is.row));
        made_before = All-inserted (λ h. h.number ≤ more) new (without p heap.row) within
            (subst (All (λ h. h.number ≤ more)) others (All-filter _ (λ h. h.number ≤ more) (headers heap.row) (λ k d lt. omega (arith, le, is.made_before k d lt))));
        kinds = All-placed (HoldsItsKind script) new (without p heap.row) suits (All-filter _ (HoldsItsKind script) heap.row is.kinds);
      }

  -- a pointer that names a cell is its own
  own : (p : Ptr) (c : Cell Content) → cell_at p heap.row ≡ Some c → cell_at (pointer_to c.head) heap.row ≡ Some c
  own p c e =
      let there = found-from p (headers heap.row) 0 c.head is.row.spaced (found-head p heap.row c e) in
      subst (λ q. cell_at q heap.row ≡ Some c) (sym (pointer-at p c.head there.named)) e

  -- the cell with another place, length or number, among the others
  changed_to : (p : Ptr) (c : Cell Content) (place to number more : ℕ) → made ≤ more → cell_at p heap.row ≡ Some c → place % 16 ≡ 0 → to % 16 ≡ 0 → 16 ≤ to →
      IsFree (filter (λ h. not (is_at (pointer_to c.head) h)) (headers heap.row)) place to → 1 ≤ number → number ≤ more →
      All (λ h. h.number ≢ number) (filter (λ h. not (is_at (pointer_to c.head) h)) (headers heap.row)) →
      AreCellsAfter script more (inserted (resized_to c place to number) (without (pointer_to c.head) heap.row))
  changed_to p c place to number more le e placed aligned long free numbered within apart =
      replaced c (resized_to c place to number) more le (own p c e) placed aligned long numbered free apart within
      (suits-resized script c.head.kind c.content (to - 16) (found-cell (HoldsItsKind script) p heap.row c is.kinds e))

  found-own : (p : Ptr) (c : Cell Content) → cell_at p heap.row ≡ Some c → find (is_at (pointer_to c.head)) (headers heap.row) ≡ Some c.head
  found-own p c e = found-head (pointer_to c.head) heap.row c (own p c e)

  -- its own number, which no other has, is one of an attempt that was made
  own_number : (p : Ptr) (c : Cell Content) → cell_at p heap.row ≡ Some c → (1 ≤ c.head.number) × (c.head.number ≤ made)
  own_number p c e =
      let there = found-from (pointer_to c.head) (headers heap.row) 0 c.head is.row.spaced (found-own p c e) in
      (there.numbered, found-all (λ h. h.number ≤ made) (pointer_to c.head) (headers heap.row) c.head is.made_before (found-own p c e))

  -- a place that was chosen for a longer cell
  moved_to : (p : Ptr) (c : Cell Content) (place to n : ℕ) → n ≡ made + 1 → cell_at p heap.row ≡ Some c → place % 16 ≡ 0 → to % 16 ≡ 0 → 16 ≤ to →
      IsFree (filter (λ h. not (is_at (pointer_to c.head) h)) (headers heap.row)) place to →
      AreCellsAfter script n (inserted (resized_to c place to (cond (nat_eq place c.head.place) c.head.number n)) (without (pointer_to c.head) heap.row))
  moved_to p c place to n next e placed aligned long free = by (nat_eq place c.head.place)
    where
      by : (b : Bool) → AreCellsAfter script n (inserted (resized_to c place to (cond b c.head.number n)) (without (pointer_to c.head) heap.row))
      by true =
          let number = own_number p c e in
          changed_to p c place to c.head.number n (omega (arith, next)) e placed aligned long free number.0 (omega (arith, next, number.1))
          (others-numbered (pointer_to c.head) (headers heap.row) c.head is.row.numbered (found-own p c e))
      by false =
          changed_to p c place to n n (omega (arith, next)) e placed aligned long free (omega (arith, next)) (omega arith)
          (All-filter _ (λ h. h.number ≢ n) (headers heap.row) (λ k d lt same. omega (arith, next, same, is.made_before k d lt)))

  pub reallocated : (p : Ptr) (c : Cell Content) (bytes n : ℕ) (answer : Answer) → cell_at p heap.row ≡ Some c → n ≡ made + 1 →
      AreCellsAfter script n (after_realloc heap (realloc_request heap c.head bytes) c.head (resized (cell_length bytes - 16) c.content) n answer).heap.row
  reallocated p c bytes n Simulated e next = later script made n heap.row (omega (arith, next)) is
  reallocated p c bytes n Refused e next = later script made n heap.row (omega (arith, next)) is
  reallocated p c bytes n Granted e next = chosen_by heap.placement chosen
    where
      to : ℕ
      to = cell_length bytes

      q : Ptr
      q = pointer_to c.head

      by : (moving b : Bool) → (not moving && fits_in_place (headers heap.row) c.head to) ≡ b →
          AreCellsAfter script n
          (inserted
          (resized_to c (cond b c.head.place (place_of (headers heap.row) to)) to
          (cond (nat_eq (cond b c.head.place (place_of (headers heap.row) to)) c.head.place) c.head.number n)) (without q heap.row))
      by moving true stays =
          let fits = (and_parts (not moving) (fits_in_place (headers heap.row) c.head to) stays).1 in
          let there = found-from q (headers heap.row) 0 c.head is.row.spaced (found-own p c e) in
          moved_to p c c.head.place to n next e there.placed (omega arith) (omega arith)
          (fits-free q to (headers heap.row) (fits-words (headers heap.row) c.head to fits))
      by moving false full =
          let place = place_of-least (headers heap.row) to (omega arith) is.row.spaced in
          moved_to p c (place_of (headers heap.row) to) to n next e place.aligned (omega arith) (omega arith)
          (free-filter (λ h. not (is_at q h)) (headers heap.row) (place_of (headers heap.row) to) to place.free)

      chosen_by : (way : Placement) → IsByFirstFit way →
          AreCellsAfter script n
          (inserted
          (resized_to c (place_to_grow_to way (headers heap.row) c.head to) to
          (cond (has_stayed way c.head (place_to_grow_to way (headers heap.row) c.head to)) c.head.number n)) (without q heap.row))
      chosen_by (first_fit moving) first = by moving (not moving && fits_in_place (headers heap.row) c.head to) refl
      chosen_by (by_placing spots) first = absurd first

  pub cut_down : (p : Ptr) (c : Cell Content) (bytes : ℕ) → cell_at p heap.row ≡ Some c → cell_length bytes ≤ c.head.length →
      AreCellsAfter script made (shortened heap c.head (cell_length bytes) (resized (cell_length bytes - 16) c.content)).row
  cut_down p c bytes e shorter =
      let q = pointer_to c.head in
      let there = found-from q (headers heap.row) 0 c.head is.row.spaced (found-own p c e) in
      let number = own_number p c e in
      let fits = fits-words (headers heap.row) c.head (cell_length bytes) (fits-shorter q (headers heap.row) 0 c.head (cell_length bytes) is.row.spaced (found-own p c e) shorter) in
      changed_to p c c.head.place (cell_length bytes) c.head.number made (omega arith) e there.placed (omega arith) (omega arith)
      (fits-free q (cell_length bytes) (headers heap.row) fits) number.0 number.1
      (others-numbered q (headers heap.row) c.head is.row.numbered (found-own p c e))

  pub freed : (p : Ptr) → AreCellsAfter script made (without p heap.row)
  freed p =
      let others = sym (headers-without p heap.row) in
      record {
        row = subst IsRow others (IsRow-filter _ (headers heap.row) is.row);
        made_before = subst (All (λ h. h.number ≤ made)) others (All-filter _ (λ h. h.number ≤ made) (headers heap.row) is.made_before);
        kinds = All-filter _ (HoldsItsKind script) heap.row is.kinds;
      }

  pub rewritten : (p : Ptr) (f : Content → Content) →
      ((c : Cell Content) → cell_at p heap.row ≡ Some c → HoldsItsKind script c → SuitsKind script c.head.kind (f c.content)) → AreCellsAfter script made (changed p f heap.row)
  rewritten p f suits =
      let same = sym (headers-changed p f heap.row) in
      record {
        row = subst IsRow same is.row;
        made_before = subst (All (λ h. h.number ≤ made)) same is.made_before;
        kinds = kinds-changed script p f heap.row suits is.kinds;
      }

  pub mark_ended : (level : ℕ) → AreCellsAfter script made (lowered level heap.row)
  mark_ended level = record {
    row = record { spaced = spaced-lowered level heap.row 0 is.row.spaced; numbered = numbered-lowered level heap.row is.row.numbered };
    made_before = All-lowered (λ h. h.number ≤ made) level heap.row (λ h l le. le) is.made_before;
    kinds = kinds-lowered script level heap.row is.kinds;
  }

-- the numbers that attempts got, the newest first, count from 1
abbrev pub AreCounted : List ℕ → Type 0
AreCounted [] = Unit {0}
AreCounted (n ∷ ns) = (n ≡ length ns + 1) × AreCounted ns

-- that lasts
abbrev pub cells : Script → Lasting
cells script = record {
  script = script;
  Counts = λ _. Unit {0};
  Holds = λ ns heap. AreCounted ns → IsByFirstFit heap.placement × AreCellsAfter script (length ns) heap.row;
  Prints = λ _. Unit {0};
  printed = λ _ _ _ _. tt;
  allocated = λ ns heap bytes kind fresh n answer suits h counted. (
    alloc-by_first_fit heap (alloc_request heap bytes) kind fresh n answer (h counted.1).0,
    subst (λ m. AreCellsAfter script m (after_alloc heap (alloc_request heap bytes) kind fresh n answer).heap.row) (one_more n ns counted.0)
        (allocated script (length ns) heap (h counted.1).0 (h counted.1).1 bytes kind fresh n answer suits counted.0),
  );
  reallocated = λ ns heap p c bytes n answer e longer h counted. (
    realloc-by_first_fit heap (realloc_request heap c.head bytes) c.head (resized (cell_length bytes - 16) c.content) n answer (h counted.1).0,
    subst (λ m. AreCellsAfter script m (after_realloc heap (realloc_request heap c.head bytes) c.head (resized (cell_length bytes - 16) c.content) n answer).heap.row)
        (one_more n ns counted.0) (reallocated script (length ns) heap (h counted.1).0 (h counted.1).1 p c bytes n answer e counted.0),
  );
  cut_down = λ ns heap p c bytes e shorter h counted. ((h counted).0, cut_down script (length ns) heap (h counted).0 (h counted).1 p c bytes e shorter);
  freed = λ ns heap p h counted. ((h counted).0, freed script (length ns) heap (h counted).0 (h counted).1 p);
  rewritten = λ ns heap p f suits h counted. ((h counted).0, rewritten script (length ns) heap (h counted).0 (h counted).1 p f suits);
  marked = λ ns heap h. h;
  mark_ended = λ ns heap h counted. ((h counted).0, mark_ended script (length ns) heap (h counted).0 (h counted).1 heap.level);
  set = λ ns heap setting h. h;
}

-- each cell of a heap holds what its kind holds
abbrev pub AreOfKind : Script → Heap Content → Type 0
AreOfKind script heap = All (HoldsItsKind script) heap.row

pub kinds-allocated : (script : Script) (heap : Heap Content) (bytes : ℕ) (kind : Kind) (fresh : Content) (n : ℕ) (answer : Answer) → SuitsKind script kind fresh →
    AreOfKind script heap → AreOfKind script (after_alloc heap (alloc_request heap bytes) kind fresh n answer).heap
kinds-allocated script heap bytes kind fresh n Granted suits all =
    All-placed (HoldsItsKind script) (new_cell heap n (alloc_request heap bytes) kind fresh) heap.row suits all
kinds-allocated script heap bytes kind fresh n Simulated suits all = all
kinds-allocated script heap bytes kind fresh n Refused suits all = all

pub kinds-reallocated : (script : Script) (heap : Heap Content) (p : Ptr) (c : Cell Content) (bytes n : ℕ) (answer : Answer) → cell_at p heap.row ≡ Some c →
    AreOfKind script heap → AreOfKind script (after_realloc heap (realloc_request heap c.head bytes) c.head (resized (cell_length bytes - 16) c.content) n answer).heap
kinds-reallocated script heap p c bytes n Granted e all =
    All-placed (HoldsItsKind script) (record { head = moved heap.placement c.head n (realloc_request heap c.head bytes); content = resized (cell_length bytes - 16) c.content })
    (without (pointer_to c.head) heap.row) (suits-resized script c.head.kind c.content (cell_length bytes - 16) (found-cell (HoldsItsKind script) p heap.row c all e))
    (All-filter _ (HoldsItsKind script) heap.row all)
kinds-reallocated script heap p c bytes n Simulated e all = all
kinds-reallocated script heap p c bytes n Refused e all = all

pub kinds-shortened : (script : Script) (heap : Heap Content) (p : Ptr) (c : Cell Content) (bytes : ℕ) → cell_at p heap.row ≡ Some c →
    AreOfKind script heap → AreOfKind script (shortened heap c.head (cell_length bytes) (resized (cell_length bytes - 16) c.content))
kinds-shortened script heap p c bytes e all =
    All-placed (HoldsItsKind script) (record { head = record c.head { length = cell_length bytes }; content = resized (cell_length bytes - 16) c.content })
    (without (pointer_to c.head) heap.row) (suits-resized script c.head.kind c.content (cell_length bytes - 16) (found-cell (HoldsItsKind script) p heap.row c all e))
    (All-filter _ (HoldsItsKind script) heap.row all)

-- that lasts of itself
abbrev pub kinds : Script → Lasting
kinds script = record {
  script = script;
  Counts = λ _. Unit {0};
  Holds = λ ns heap. AreOfKind script heap;
  Prints = λ _. Unit {0};
  printed = λ _ _ _ _. tt;
  allocated = λ ns heap bytes kind fresh n answer suits all. kinds-allocated script heap bytes kind fresh n answer suits all;
  reallocated = λ ns heap p c bytes n answer e longer all. kinds-reallocated script heap p c bytes n answer e all;
  cut_down = λ ns heap p c bytes e shorter all. kinds-shortened script heap p c bytes e all;
  freed = λ ns heap p all. All-filter _ (HoldsItsKind script) heap.row all;
  rewritten = λ ns heap p f suits all. kinds-changed script p f heap.row suits all;
  marked = λ ns heap all. all;
  mark_ended = λ ns heap all. kinds-lowered script heap.level heap.row all;
  set = λ ns heap setting all. all;
}
