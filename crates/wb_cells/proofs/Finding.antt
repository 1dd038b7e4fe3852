-- Where a live cell is among the segments: by its pointer, and by the bit of its place.
use Rattle.std.proofs.Common.{◌≡◌, ◌≢◌, ℕ, zero, suc, ◌+◌, ◌-◌, ◌*◌, ◌/◌, ◌%◌, ◌<◌, ◌≤◌, ◌⊎◌, inl, inr, List, [], ◌∷◌, ◌++◌, length, slice_index, get_or, Bool, true, false, cond, drop, replicate, Some, None, refl, sym, ◌∙◌, ap, subst, arith, add_assoc, add-zero, zero-add, append_assoc, length-append}
use Rattle.std.specs.Prelude.{nat_eq, option_map}
use Rattle.std.proofs.lemmas.List.{get_or_at, get_or-drop, length-drop}
use Rattle.std.proofs.lemmas.Bool.{eqb-true, eq-eqb, ne_eqb, and_parts, false≢true}
use Rattle.wb_heap_model.specs.declared.heap.Ptr.{Ptr}
use Rattle.wb_heap_model.specs.declared.heap.Kind.{Kind}
use Rattle.wb_heap_model.specs.declared.heap.Kind.TheVariants.{Raw, Object, Text, Cleanup}
use Rattle.wb_heap_model.specs.Row.{is_at, cell_at}
use Rattle.wb_heap_model.specs.Spelling.{header_at, header_of}
use Rattle.wb_cells.specs.States.{IsState}
use Rattle.wb_cells.specs.FreeList.{NO_PLACE}
use Rattle.wb_cells.specs.Inside.{IsLaid}
use Rattle.wb_cells.specs.Segments.{Segment, live, free, state_of, total, words_of, cell_from, row_from, starts_of, AreWhole}
use Rattle.wb_cells.proofs.Laying.{starts_of-append, length-starts_of, total-whole, whole_front, whole_back, kind_of-state_of, words_from}

-- the segment of the cell that a pointer names
pub record IsNamed (p : Ptr) (at : ℕ) (xs : List Segment) : Type 0 where
  pub front : List Segment
  pub kind : Kind
  pub level : ℕ
  pub body : List ℕ
  pub back : List Segment
  pub is : xs ≡ front ++ live kind level p.number body ∷ back
  pub here : p.place ≡ at + total front

-- a pointer names no cell, or the cell of a segment
pub named_or : (p : Ptr) (xs : List Segment) (at : ℕ) → (cell_at p (row_from at xs) ≡ None) ⊎ IsNamed p at xs
named_or p [] at = inl refl
named_or p (free body ∷ xs) at = go (named_or p xs (at + (16 + 4 * length body)))
  where
    go : (cell_at p (row_from (at + (16 + 4 * length body)) xs) ≡ None) ⊎ IsNamed p (at + (16 + 4 * length body)) xs →
        (cell_at p (row_from (at + (16 + 4 * length body)) xs) ≡ None) ⊎ IsNamed p at (free body ∷ xs)
    go (inl none) = inl none
    go (inr s) = inr (record {
      front = free body ∷ s.front;
      kind = s.kind;
      level = s.level;
      body = s.body;
      back = s.back;
      is = ap (λ ys. free body ∷ ys) s.is;
      here = s.here ∙ add_assoc at (16 + 4 * length body) (total s.front);
    })
named_or p (live kind level number body ∷ xs) at =
    go (is_at p (cell_from at kind level number body).head) refl (named_or p xs (at + (16 + 4 * length body)))
  where
    go : (b : Bool) → is_at p (cell_from at kind level number body).head ≡ b →
        (cell_at p (row_from (at + (16 + 4 * length body)) xs) ≡ None) ⊎ IsNamed p (at + (16 + 4 * length body)) xs →
        (cond b (Some (cell_from at kind level number body)) (cell_at p (row_from (at + (16 + 4 * length body)) xs)) ≡ None)
        ⊎ IsNamed p at (live kind level number body ∷ xs)
    go true e rest =
        let same = and_parts _ _ e in
        inr (record {
          front = [];
          kind = kind;
          level = level;
          body = body;
          back = xs;
          is = ap (λ n. live kind level n body ∷ xs) (sym (eqb-true p.number number same.1));
          here = eqb-true p.place at same.0 ∙ sym (add-zero at);
        })
    go false e (inl none) = inl none
    go false e (inr s) = inr (record {
      front = live kind level number body ∷ s.front;
      kind = s.kind;
      level = s.level;
      body = s.body;
      back = s.back;
      is = ap (λ ys. live kind level number body ∷ ys) s.is;
      here = s.here ∙ add_assoc at (16 + 4 * length body) (total s.front);
    })

-- no cell above a place is named by a pointer to it
pub cell_at-above : (p : Ptr) (xs : List Segment) (at : ℕ) → p.place < at → cell_at p (row_from at xs) ≡ None
cell_at-above p [] at lt = refl
cell_at-above p (free body ∷ xs) at lt = cell_at-above p xs (at + (16 + 4 * length body)) (omega arith)
cell_at-above p (live kind level number body ∷ xs) at lt =
    rw (ne_eqb p.place at (λ e. omega (arith, e))) (cell_at-above p xs (at + (16 + 4 * length body)) (omega arith))

-- at the place of a live segment a pointer names that cell, if it has its number
pub cell_at-split : (p : Ptr) (front : List Segment) (kind : Kind) (level number : ℕ) (body : List ℕ) (back : List Segment) (at : ℕ) → p.place ≡ at + total front →
    cell_at p (row_from at (front ++ live kind level number body ∷ back)) ≡ cond (nat_eq p.number number) (Some (cell_from p.place kind level number body)) None
cell_at-split p [] kind level number body back at here =
    let same : p.place ≡ at = here ∙ add-zero at in
    rw (eq-eqb p.place at same, cell_at-above p back (at + (16 + 4 * length body)) (omega arith), same)
cell_at-split p (free body' ∷ front) kind level number body back at here =
    cell_at-split p front kind level number body back (at + (16 + 4 * length body')) (here ∙ sym (add_assoc at (16 + 4 * length body') (total front)))
cell_at-split p (live kind' level' number' body' ∷ front) kind level number body back at here =
    rw (ne_eqb p.place at (λ e. omega (arith, e, here)))
    (cell_at-split p front kind level number body back (at + (16 + 4 * length body')) (here ∙ sym (add_assoc at (16 + 4 * length body') (total front))))

-- the bit of a live cell's place is on
pub start_of-split : (front : List Segment) (kind : Kind) (level number : ℕ) (body : List ℕ) (back : List Segment) (more : List Bool) (k : ℕ) → AreWhole front → 16 * k ≡ total front →
    get_or (starts_of (front ++ live kind level number body ∷ back) ++ more) k false ≡ true
start_of-split front kind level number body back more k w here =
    let split : starts_of (front ++ live kind level number body ∷ back) ++ more ≡ starts_of front ++ (true ∷ ((replicate (length body / 4) false ++ starts_of back) ++ more)) =
    ap (λ bs. bs ++ more) (starts_of-append front (live kind level number body ∷ back)) ∙ append_assoc (starts_of front) _ more in
    ap (λ bs. get_or bs k false) split ∙ get_or_at (starts_of front) true _ false k (omega (arith, length-starts_of front w))

-- the segment that begins at a bit that is on
pub record IsStart (k : ℕ) (xs : List Segment) : Type 0 where
  pub front : List Segment
  pub kind : Kind
  pub level : ℕ
  pub number : ℕ
  pub body : List ℕ
  pub back : List Segment
  pub is : xs ≡ front ++ live kind level number body ∷ back
  pub here : 16 * k ≡ total front

get_or-off : (n k : ℕ) → get_or (replicate n false) k false ≡ false
get_or-off zero k = refl
get_or-off (suc n) zero = refl
get_or-off (suc n) (suc k) = get_or-off n k

past_off : (m k : ℕ) (bits : List Bool) → get_or (replicate m false ++ bits) k false ≡ true → (m ≤ k) × (get_or bits (k - m) false ≡ true)
past_off zero k bits on = (omega arith, let same : k - 0 ≡ k = omega arith in rw same on)
past_off (suc m) zero bits on = absurd (false≢true on)
past_off (suc m) (suc k) bits on = let rest = past_off m k bits on in (omega (arith, rest.0), let same : suc k - suc m ≡ k - m = omega arith in rw same rest.1)

pub start_at : (xs : List Segment) (k unset : ℕ) → AreWhole xs → get_or (starts_of xs ++ replicate unset false) k false ≡ true → IsStart k xs
start_at [] k unset w on = absurd (false≢true (sym (get_or-off unset k) ∙ on))
start_at (free body ∷ xs) zero unset w on = absurd (false≢true on)
start_at (free body ∷ xs) (suc k) unset w on =
    let past = past_off (length body / 4) k (starts_of xs ++ replicate unset false) (rw append_assoc at on) in
    let s = start_at xs (k - length body / 4) unset w.1 past.1 in
    record {
      front = free body ∷ s.front;
      kind = s.kind;
      level = s.level;
      number = s.number;
      body = s.body;
      back = s.back;
      is = ap (λ ys. free body ∷ ys) s.is;
      here = omega (arith, s.here, past.0, w.0);
    }
start_at (live kind level number body ∷ xs) zero unset w on = record {
  front = [];
  kind = kind;
  level = level;
  number = number;
  body = body;
  back = xs;
  is = refl;
  here = refl;
}
start_at (live kind level number body ∷ xs) (suc k) unset w on =
    let past = past_off (length body / 4) k (starts_of xs ++ replicate unset false) (rw append_assoc at on) in
    let s = start_at xs (k - length body / 4) unset w.3 past.1 in
    record {
      front = live kind level number body ∷ s.front;
      kind = s.kind;
      level = s.level;
      number = s.number;
      body = s.body;
      back = s.back;
      is = ap (λ ys. live kind level number body ∷ ys) s.is;
      here = omega (arith, s.here, past.0, w.0);
    }

pub state_of-state : (kind : Kind) → state_of kind < 65552 → IsState (state_of kind)
state_of-state Raw lt = record { least = omega arith; low = inl (omega arith); high = lt }
state_of-state Text lt = record { least = omega arith; low = inl (omega arith); high = lt }
state_of-state Cleanup lt = record { least = omega arith; low = inl (omega arith); high = lt }
state_of-state (Object class) lt = record { least = omega arith; low = inr (omega arith); high = lt }

-- the words where a live cell begins
pub record IsLiveAt (words : List ℕ) (place : ℕ) (xs : List Segment) : Type 0 where
  pub front : List Segment
  pub kind : Kind
  pub level : ℕ
  pub number : ℕ
  pub body : List ℕ
  pub back : List Segment
  pub is : xs ≡ front ++ live kind level number body ∷ back
  pub here : place ≡ total front
  -- all the words past the header
  pub past : List ℕ
  pub there : drop (place / 16 * 4) words ≡ (16 + 4 * length body) ∷ state_of kind ∷ level ∷ number ∷ (body ++ past)
  pub state : IsState (state_of kind)

whole_state : (front : List Segment) (kind : Kind) (level number : ℕ) (body : List ℕ) (back : List Segment) → AreWhole (front ++ live kind level number body ∷ back) →
    state_of kind < 65552
whole_state front kind level number body back w = (whole_back front (live kind level number body ∷ back) w).2

pub live_at-split : (words spare : List ℕ) (xs front : List Segment) (kind : Kind) (level number : ℕ) (body : List ℕ) (back : List Segment) (place : ℕ) →
    words ≡ words_of 0 xs NO_PLACE ++ spare → AreWhole xs → xs ≡ front ++ live kind level number body ∷ back → place ≡ total front → IsLiveAt words place xs
live_at-split words spare xs front kind level number body back place spelled whole is here =
    let w : AreWhole (front ++ live kind level number body ∷ back) = subst (λ ys. AreWhole ys) is whole in
    let rest = words_of (total front + (16 + 4 * length body)) back NO_PLACE in
    record {
      front = front;
      kind = kind;
      level = level;
      number = number;
      body = body;
      back = back;
      is = is;
      here = here;
      past = rest ++ spare;
      there = ap (drop (place / 16 * 4)) (spelled ∙ ap (λ ys. words_of 0 ys NO_PLACE ++ spare) is)
          ∙ words_from front (live kind level number body ∷ back) NO_PLACE (place / 16 * 4) spare (omega (arith, here, total-whole front (whole_front front (live kind level number body ∷ back) w)))
          ∙ ap (λ ws. (16 + 4 * length body) ∷ state_of kind ∷ level ∷ number ∷ ws) (append_assoc body rest spare);
      state = state_of-state kind (whole_state front kind level number body back w);
    }

module _ (words : List ℕ) (starts : List Bool) (top first : ℕ) (laid : IsLaid words starts top first) where
  pub live_at : (place : ℕ) → place % 16 ≡ 0 → get_or starts (place / 16) false ≡ true → IsLiveAt words place laid.segments
  live_at place rounded on =
      let s = start_at laid.segments (place / 16) laid.unset laid.whole (rw laid.marked at on) in
      live_at-split words laid.spare laid.segments s.front s.kind s.level s.number s.body s.back place laid.spelled laid.whole s.is (omega (arith, s.here, rounded))

  pub unnamed_unrounded : (p : Ptr) → p.place % 16 ≢ 0 → cell_at p (row_from 0 laid.segments) ≡ None
  unnamed_unrounded p odd = go (named_or p laid.segments 0)
    where
      go : (cell_at p (row_from 0 laid.segments) ≡ None) ⊎ IsNamed p 0 laid.segments → cell_at p (row_from 0 laid.segments) ≡ None
      go (inl none) = none
      go (inr s) =
          let w : AreWhole (s.front ++ live s.kind s.level p.number s.body ∷ s.back) = subst (λ ys. AreWhole ys) s.is laid.whole in
          absurd (odd (omega (arith, s.here, total-whole s.front (whole_front s.front _ w))))

  pub unnamed_off : (p : Ptr) → get_or starts (p.place / 16) false ≡ false → cell_at p (row_from 0 laid.segments) ≡ None
  unnamed_off p off = go (named_or p laid.segments 0)
    where
      go : (cell_at p (row_from 0 laid.segments) ≡ None) ⊎ IsNamed p 0 laid.segments → cell_at p (row_from 0 laid.segments) ≡ None
      go (inl none) = none
      go (inr s) =
          let w : AreWhole (s.front ++ live s.kind s.level p.number s.body ∷ s.back) = subst (λ ys. AreWhole ys) s.is laid.whole in
          let on : get_or starts (p.place / 16) false ≡ true =
          ap (λ bs. get_or bs (p.place / 16) false) (laid.marked ∙ ap (λ ys. starts_of ys ++ replicate laid.unset false) s.is)
          ∙ start_of-split s.front s.kind s.level p.number s.body s.back (replicate laid.unset false) (p.place / 16) (whole_front s.front _ w) (omega (arith, s.here, total-whole s.front (whole_front s.front _ w))) in
          absurd (false≢true (sym off ∙ on))

module _ (words : List ℕ) (place : ℕ) (xs : List Segment) (at : IsLiveAt words place xs) where
  pub within-live_at : place / 16 * 4 + 4 + length at.body ≤ length words
  within-live_at = omega (arith, ap length at.there, length-drop (place / 16 * 4) words, length-append at.body at.past)

  pub state-live_at : IsState (slice_index words (place / 16 * 4 + 1))
  state-live_at =
      let same : slice_index words (place / 16 * 4 + 1) ≡ state_of at.kind = sym (get_or-drop (place / 16 * 4) words 1 0) ∙ ap (λ ws. get_or ws 1 0) at.there in
      rw same at.state

  pub header-live_at : header_at place (drop (place / 16 * 4) words) ≡ Some (cell_from place at.kind at.level at.number at.body).head
  header-live_at =
      ap (header_at place) at.there
      ∙ ap (option_map (header_of place ((16 + 4 * length at.body) ∷ state_of at.kind ∷ at.level ∷ at.number ∷ (at.body ++ at.past)))) (kind_of-state_of at.kind at.state.high)

  pub cell_at-live_at : (p : Ptr) → p.place ≡ place → cell_at p (row_from 0 xs) ≡ cond (nat_eq p.number at.number) (Some (cell_from place at.kind at.level at.number at.body)) None
  cell_at-live_at p here =
      ap (λ ys. cell_at p (row_from 0 ys)) at.is
      ∙ cell_at-split p at.front at.kind at.level at.number at.body at.back 0 (here ∙ at.here ∙ sym (zero-add _))
      ∙ ap (λ q. cond (nat_eq p.number at.number) (Some (cell_from q at.kind at.level at.number at.body)) None) here
