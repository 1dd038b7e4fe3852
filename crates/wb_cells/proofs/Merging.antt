-- The free segments that touch a live one, below it and above it.
use Rattle.std.proofs.Common.{◌≡◌, ℕ, suc, ◌+◌, ◌*◌, ◌/◌, ◌%◌, ◌<◌, ◌≤◌, ◌⊎◌, inl, inr, List, [], ◌∷◌, ◌++◌, length, get_or, slice_index, Bool, true, false, cond, not, ◌&&◌, replicate, refl, sym, ◌∙◌, ap, subst, arith, zero-add, append_assoc, length-append}
use Rattle.std.specs.Prelude.{nat_eq}
use Rattle.std.proofs.lemmas.List.{append-nil, get_or_at, get_or-append-add}
use Rattle.std.proofs.lemmas.Bool.{eq-eqb, ne_eqb}
use Rattle.wb_chunk.specs.declared.TheConstants.{MOST_WORDS}
use Rattle.wb_heap_model.specs.declared.heap.Kind.{Kind}
use Rattle.wb_cells.specs.FreeList.{NO_PLACE, IsWithin, prior_place_or, end_at}
use Rattle.wb_cells.specs.Holes.{touches}
use Rattle.wb_cells.specs.Segments.{Segment, live, free, total, first_free, last_free, words_of, row_from, starts_of, AreWhole, BeginsLive, AreMerged}
use Rattle.wb_cells.proofs.Laying.{total-append, first_free-append, words_of-append, row_from-append, starts_of-append, length-words_of, total-whole, whole_front, whole_back}
use Rattle.wb_cells.proofs.Linking.{gaps_from, first_free-above}
use Rattle.wb_cells.proofs.Rounds.{prior_place-last}
use Rattle.wb_cells.proofs.Rooms.{merged_both}
use Rattle.wb_cells.proofs.Opening.{parted_free, starts_of-free}

-- a free segment's words
module _ (words spare : List ℕ) (front : List Segment) (body : List ℕ) (back : List Segment) (place : ℕ) (here : place ≡ total front) (whole : AreWhole (front ++ free body ∷ back))
    (spelled : words ≡ words_of 0 (front ++ free body ∷ back) NO_PLACE ++ spare) where
  abbrev size : ℕ
  size = 16 + 4 * length body

  abbrev next : ℕ
  next = total front + size

  abbrev below : List ℕ
  below = words_of 0 front (total front)

  abbrev own : List ℕ
  own = size ∷ 0 ∷ first_free next back NO_PLACE ∷ 0 ∷ (body ++ (words_of next back NO_PLACE ++ spare))

  length-low : length below ≡ place / 16 * 4
  length-low = omega (arith, length-words_of front 0 (total front), here, total-whole front (whole_front front (free body ∷ back) whole))

  parts : words ≡ below ++ own
  parts = spelled ∙ parted_free front body back spare

  pub size_at : slice_index words (place / 16 * 4) ≡ size
  size_at =
      ap (λ ws. get_or ws (place / 16 * 4) 0) parts
      ∙ get_or_at below size (0 ∷ first_free next back NO_PLACE ∷ 0 ∷ (body ++ (words_of next back NO_PLACE ++ spare))) 0 (place / 16 * 4) length-low

  pub link_at : slice_index words (place / 16 * 4 + 2) ≡ first_free next back NO_PLACE
  link_at =
      ap (λ ws. get_or ws (place / 16 * 4 + 2) 0) parts ∙ ap (λ n. get_or (below ++ own) (n + 2) 0) (sym length-low)
      ∙ get_or-append-add below own 2 0

  pub within_free : length words ≤ MOST_WORDS → IsWithin words place
  within_free bounded =
      let count : length words ≡ length below + (4 + (length body + length (words_of next back NO_PLACE ++ spare))) =
      ap length parts ∙ length-append below own ∙ omega (arith, length-append body (words_of next back NO_PLACE ++ spare)) in
      record {
        least = rw size_at (omega arith);
        end = rw size_at (omega (arith, count, length-low, here, total-whole front (whole_front front (free body ∷ back) whole)));
        bounded = bounded;
      }

-- the last free segment, if there is one
pub record IsLastFree (at last : ℕ) (xs : List Segment) : Type 0 where
  pub front : List Segment
  pub body : List ℕ
  pub back : List Segment
  pub is : xs ≡ front ++ free body ∷ back
  pub here : last ≡ at + total front

pub last_split : (xs : List Segment) (at none : ℕ) → (last_free at xs none ≡ none) ⊎ IsLastFree at (last_free at xs none) xs
last_split [] at none = inl refl
last_split (live kind level number body ∷ xs) at none = go (last_split xs (at + (16 + 4 * length body)) none)
  where
    go : (last_free (at + (16 + 4 * length body)) xs none ≡ none) ⊎ IsLastFree (at + (16 + 4 * length body)) (last_free (at + (16 + 4 * length body)) xs none) xs →
        (last_free (at + (16 + 4 * length body)) xs none ≡ none) ⊎ IsLastFree at (last_free (at + (16 + 4 * length body)) xs none) (live kind level number body ∷ xs)
    go (inl e) = inl e
    go (inr l) = inr (record {
      front = live kind level number body ∷ l.front;
      body = l.body;
      back = l.back;
      is = ap (λ ys. live kind level number body ∷ ys) l.is;
      here = omega (arith, l.here);
    })
last_split (free body ∷ xs) at none = inr (go (last_split xs (at + (16 + 4 * length body)) at))
  where
    go : (last_free (at + (16 + 4 * length body)) xs at ≡ at) ⊎ IsLastFree (at + (16 + 4 * length body)) (last_free (at + (16 + 4 * length body)) xs at) xs →
        IsLastFree at (last_free (at + (16 + 4 * length body)) xs at) (free body ∷ xs)
    go (inl e) = record { front = []; body = body; back = xs; is = refl; here = omega (arith, e) }
    go (inr l) = record {
      front = free body ∷ l.front;
      body = l.body;
      back = l.back;
      is = ap (λ ys. free body ∷ ys) l.is;
      here = omega (arith, l.here);
    }

last_free-free : (xs : List Segment) (body : List ℕ) (at none : ℕ) → last_free at (xs ++ free body ∷ []) none ≡ at + total xs
last_free-free [] body at none = omega arith
last_free-free (live kind level number body' ∷ xs) body at none = last_free-free xs body (at + (16 + 4 * length body')) none ∙ omega arith
last_free-free (free body' ∷ xs) body at none = last_free-free xs body (at + (16 + 4 * length body')) at ∙ omega arith

pub last_free-live : (xs : List Segment) (kind : Kind) (level number : ℕ) (body : List ℕ) (at none : ℕ) → last_free at (xs ++ live kind level number body ∷ []) none ≡ last_free at xs none
last_free-live [] kind level number body at none = refl
last_free-live (live kind' level' number' body' ∷ xs) kind level number body at none = last_free-live xs kind level number body (at + (16 + 4 * length body')) none
last_free-live (free body' ∷ xs) kind level number body at none = last_free-live xs kind level number body (at + (16 + 4 * length body')) at

-- a list of segments that ends in a live one, or in a free one
record EndsLive (xs : List Segment) : Type 0 where
  front : List Segment
  kind : Kind
  level : ℕ
  number : ℕ
  body : List ℕ
  is : xs ≡ front ++ live kind level number body ∷ []

record EndsFree (xs : List Segment) : Type 0 where
  front : List Segment
  body : List ℕ
  is : xs ≡ front ++ free body ∷ []

ending : (xs : List Segment) → (xs ≡ []) ⊎ (EndsLive xs ⊎ EndsFree xs)
ending [] = inl refl
ending (x ∷ xs) = inr (go (ending xs))
  where
    one : (y : Segment) → xs ≡ [] → EndsLive (y ∷ xs) ⊎ EndsFree (y ∷ xs)
    one (live kind level number body) e = inl (record {
      front = [];
      kind = kind;
      level = level;
      number = number;
      body = body;
      is = ap (λ ys. live kind level number body ∷ ys) e;
    })
    one (free body) e = inr (record { front = []; body = body; is = ap (λ ys. free body ∷ ys) e })

    go : (xs ≡ []) ⊎ (EndsLive xs ⊎ EndsFree xs) → EndsLive (x ∷ xs) ⊎ EndsFree (x ∷ xs)
    go (inl e) = one x e
    go (inr (inl l)) = inl (record {
      front = x ∷ l.front;
      kind = l.kind;
      level = l.level;
      number = l.number;
      body = l.body;
      is = ap (λ ys. x ∷ ys) l.is;
    })
    go (inr (inr f)) = inr (record { front = x ∷ f.front; body = f.body; is = ap (λ ys. x ∷ ys) f.is })

-- the segments from a place on, but for a free one that comes first, whose words are `more`
pub record IsUp (at : ℕ) (xs : List Segment) (end next : ℕ) : Type 0 where
  pub rest : List Segment
  pub more : List ℕ
  pub long : at + 4 * length more ≡ end
  pub rounded : length more % 4 ≡ 0
  pub link : next ≡ first_free end rest NO_PLACE
  pub spelled : words_of at xs NO_PLACE ≡ more ++ words_of end rest NO_PLACE
  pub row : row_from at xs ≡ row_from end rest
  pub marked : starts_of xs ≡ replicate (length more / 4) false ++ starts_of rest
  pub ends : at + total xs ≡ end + total rest
  pub whole : AreWhole rest
  pub merged : AreMerged rest
  pub begins : (rest ≡ []) ⊎ BeginsLive rest

stays_up : (at next : ℕ) (xs : List Segment) → next ≡ first_free at xs NO_PLACE → AreWhole xs → AreMerged xs → (xs ≡ []) ⊎ BeginsLive xs → IsUp at xs at next
stays_up at next xs link whole merged begins = record {
  rest = xs;
  more = [];
  long = omega arith;
  rounded = refl;
  link = link;
  spelled = refl;
  row = refl;
  marked = refl;
  ends = refl;
  whole = whole;
  merged = merged;
  begins = begins;
}

pub up : (words spare : List ℕ) (front xs : List Segment) (at after : ℕ) → at ≡ total front → words ≡ words_of 0 (front ++ xs) NO_PLACE ++ spare →
    AreWhole (front ++ xs) → AreMerged xs → at + total xs < NO_PLACE → after ≡ first_free at xs NO_PLACE →
    IsUp at xs (cond (nat_eq after at) (end_at words after) at) (cond (nat_eq after at) (slice_index words (after / 16 * 4 + 2)) after)
up words spare front [] at after here spelled whole merged under link =
    let apart : nat_eq after at ≡ false = ne_eqb after at (λ e. omega (arith, e, link, under)) in
    rw apart (stays_up at after [] link tt tt (inl refl))
up words spare front (live kind level number body ∷ xs) at after here spelled whole merged under link =
    let above = first_free-above xs (at + (16 + 4 * length body)) NO_PLACE (omega arith) in
    let apart : nat_eq after at ≡ false = ne_eqb after at (λ e. omega (arith, e, link, above)) in
    rw apart (stays_up at after (live kind level number body ∷ xs) link (whole_back front (live kind level number body ∷ xs) whole) merged (inr tt))
up words spare front (free body ∷ xs) at after here spelled whole merged under link =
    let same : nat_eq after at ≡ true = eq-eqb after at link in
    let w = whole_back front (free body ∷ xs) whole in
    let size = size_at words spare front body xs at here whole spelled in
    let next = link_at words spare front body xs at here whole spelled in
    let end : end_at words after ≡ at + (16 + 4 * length body) = rw link (ap (λ n. at + n) size) in
    let link' : slice_index words (after / 16 * 4 + 2) ≡ first_free (at + (16 + 4 * length body)) xs NO_PLACE = rw (link, here) (rw here at next) in
    rw (same, end, link') (record {
      rest = xs;
      more = (16 + 4 * length body) ∷ 0 ∷ first_free (at + (16 + 4 * length body)) xs NO_PLACE ∷ 0 ∷ body;
      long = omega arith;
      rounded = omega (arith, w.0);
      link = refl;
      spelled = refl;
      row = refl;
      marked = starts_of-free body xs (suc (suc (suc (suc (length body)))) / 4) (omega arith);
      ends = omega arith;
      whole = w.1;
      merged = merged.1;
      begins = inr merged.0;
    })

-- the segments up to a place, but for a free one that comes last, whose words are `less`
pub record IsDown (after place : ℕ) (xs : List Segment) (start before : ℕ) : Type 0 where
  pub rest : List Segment
  pub less : List ℕ
  pub from : ℕ
  pub here : start ≡ total rest
  pub long : start + 4 * length less ≡ place
  pub rounded : length less % 4 ≡ 0
  pub last : before ≡ last_free 0 rest NO_PLACE
  pub spelled : words_of 0 xs after ≡ words_of 0 rest from ++ less
  pub first : first_free 0 xs after ≡ first_free 0 rest from
  pub row : row_from 0 xs ≡ row_from 0 rest
  pub marked : starts_of xs ≡ starts_of rest ++ replicate (length less / 4) false
  pub whole : AreWhole rest
  pub merged : AreMerged rest
  pub closed : (body : List ℕ) (ys : List Segment) → BeginsLive ys → AreMerged ys → AreMerged (rest ++ free body ∷ ys)

stays_down : (after place before : ℕ) (xs : List Segment) → place ≡ total xs → before ≡ last_free 0 xs NO_PLACE → AreWhole xs → AreMerged xs →
    ((body : List ℕ) (ys : List Segment) → BeginsLive ys → AreMerged ys → AreMerged (xs ++ free body ∷ ys)) → IsDown after place xs place before
stays_down after place before xs here last whole merged closed = record {
  rest = xs;
  less = [];
  from = after;
  here = here;
  long = omega arith;
  rounded = refl;
  last = last;
  spelled = sym (append-nil (words_of 0 xs after));
  first = refl;
  row = refl;
  marked = sym (append-nil (starts_of xs));
  whole = whole;
  merged = merged;
  closed = closed;
}

-- segments before a free one don't end in one
pub merged_before : (xs : List Segment) (body : List ℕ) (ys : List Segment) → AreMerged (xs ++ free body ∷ ys) → AreMerged xs
merged_before [] body ys m = tt
merged_before (live kind level number body' ∷ xs) body ys m = merged_before xs body ys m
merged_before (free body' ∷ []) body ys m = absurd m.0
merged_before (free body' ∷ live kind level number body'' ∷ xs) body ys m = (tt, merged_before xs body ys m.1)
merged_before (free body' ∷ free body'' ∷ xs) body ys m = absurd m.0

module _ (words spare : List ℕ) (xs ys : List Segment) (place prior before after : ℕ) (here : place ≡ total xs) (spelled : words ≡ words_of 0 (xs ++ ys) NO_PLACE ++ spare)
    (whole : AreWhole (xs ++ ys)) (merged : AreMerged (xs ++ ys)) (begins : BeginsLive ys) (below_none : total xs < NO_PLACE)
    (second : end_at words before ≡ place → prior ≡ prior_place_or (gaps_from 0 xs) NO_PLACE NO_PLACE) (last : before ≡ last_free 0 xs NO_PLACE) where
  whole_xs : AreWhole xs
  whole_xs = whole_front xs ys whole

  -- none touches where the last free one ends below
  apart : (zs : List Segment) → last_free 0 xs NO_PLACE ≡ last_free 0 zs NO_PLACE → total zs < total xs → (rest : List Segment) → xs ≡ zs ++ rest → touches words before place ≡ false
  apart zs same less rest is = go (last_split zs 0 NO_PLACE)
    where
      go : (last_free 0 zs NO_PLACE ≡ NO_PLACE) ⊎ IsLastFree 0 (last_free 0 zs NO_PLACE) zs → touches words before place ≡ false
      go (inl none) = let e : nat_eq before NO_PLACE ≡ true = eq-eqb before NO_PLACE (last ∙ same ∙ none) in rw e refl
      go (inr l) =
          let at : before ≡ total l.front = last ∙ same ∙ l.here ∙ zero-add _ in
          let all : xs ++ ys ≡ l.front ++ free l.body ∷ (l.back ++ (rest ++ ys)) =
          ap (λ z. z ++ ys) is ∙ append_assoc zs rest ys ∙ ap (λ z. z ++ (rest ++ ys)) l.is ∙ append_assoc l.front (free l.body ∷ l.back) (rest ++ ys) in
          let size = size_at words spare l.front l.body (l.back ++ (rest ++ ys)) before at (subst (λ z. AreWhole z) all whole) (spelled ∙ ap (λ z. words_of 0 z NO_PLACE ++ spare) all) in
          let within = total-append l.front (free l.body ∷ l.back) in
          let other : nat_eq (end_at words before) place ≡ false = ne_eqb (end_at words before) place (λ e. omega (arith, e, size, at, within, ap total l.is, less, here)) in
          rw other (false_second (nat_eq before NO_PLACE))
        where
          false_second : (b : Bool) → (not b && false) ≡ false
          false_second true = refl
          false_second false = refl

  keeps : touches words before place ≡ false → AreMerged xs → ((body : List ℕ) (zs : List Segment) → BeginsLive zs → AreMerged zs → AreMerged (xs ++ free body ∷ zs)) →
      IsDown after place xs (cond (touches words before place) before place) (cond (touches words before place) prior before)
  keeps off m closed = rw off (stays_down after place before xs here last whole_xs m closed)

  down_none : xs ≡ [] → IsDown after place xs (cond (touches words before place) before place) (cond (touches words before place) prior before)
  down_none e =
      let none : nat_eq before NO_PLACE ≡ true = eq-eqb before NO_PLACE (last ∙ ap (λ z. last_free 0 z NO_PLACE) e) in
      let off : touches words before place ≡ false = rw none refl in
      keeps off (subst (λ z. AreMerged z) (sym e) tt) (λ body zs b m. subst (λ z. AreMerged (z ++ free body ∷ zs)) (sym e) (b, m))

  down_live : EndsLive xs → IsDown after place xs (cond (touches words before place) before place) (cond (touches words before place) prior before)
  down_live l =
      let one = live l.kind l.level l.number l.body in
      let same = ap (λ z. last_free 0 z NO_PLACE) l.is ∙ last_free-live l.front l.kind l.level l.number l.body 0 NO_PLACE in
      let less : total l.front < total xs = omega (arith, ap total l.is, total-append l.front (one ∷ [])) in
      let all : AreMerged (l.front ++ one ∷ ys) = subst (λ z. AreMerged z) (ap (λ z. z ++ ys) l.is ∙ append_assoc l.front (one ∷ []) ys) merged in
      let own : AreMerged xs = subst (λ z. AreMerged z) (sym l.is) (merged_both l.front (one ∷ ys) (one ∷ []) (λ b. tt) (λ m. tt) all) in
      keeps (apart l.front same less (one ∷ []) l.is) own
      (λ body zs b m. subst (λ z. AreMerged z) (sym (ap (λ z. z ++ free body ∷ zs) l.is ∙ append_assoc l.front (one ∷ []) (free body ∷ zs)))
      (merged_both l.front (one ∷ ys) (one ∷ free body ∷ zs) (λ c. tt) (λ c. (b, m)) all))

  down_free : EndsFree xs → IsDown after place xs (cond (touches words before place) before place) (cond (touches words before place) prior before)
  down_free f =
      let one = free f.body in
      let parts : xs ++ ys ≡ f.front ++ one ∷ ys = ap (λ z. z ++ ys) f.is ∙ append_assoc f.front (one ∷ []) ys in
      let all : AreMerged (f.front ++ one ∷ ys) = subst (λ z. AreMerged z) parts merged in
      let w : AreWhole (f.front ++ one ∷ ys) = subst (λ z. AreWhole z) parts whole in
      let at : before ≡ total f.front = last ∙ ap (λ z. last_free 0 z NO_PLACE) f.is ∙ last_free-free f.front f.body 0 NO_PLACE ∙ zero-add _ in
      let size = size_at words spare f.front f.body ys before at w (spelled ∙ ap (λ z. words_of 0 z NO_PLACE ++ spare) parts) in
      let sum : total xs ≡ total f.front + (16 + 4 * length f.body) = ap total f.is ∙ total-append f.front (one ∷ []) ∙ omega arith in
      let some : nat_eq before NO_PLACE ≡ false = ne_eqb before NO_PLACE (λ e. omega (arith, e, at, sum, below_none)) in
      let ends : end_at words before ≡ place = omega (arith, size, at, sum, here) in
      let meets : nat_eq (end_at words before) place ≡ true = eq-eqb (end_at words before) place ends in
      let on : touches words before place ≡ true = rw (some, meets) refl in
      let quarter : length f.body % 4 ≡ 0 = (whole_back f.front (one ∷ ys) w).0 in
      rw on (record {
        rest = f.front;
        less = (16 + 4 * length f.body) ∷ 0 ∷ after ∷ 0 ∷ f.body;
        from = total f.front;
        here = at;
        long = omega (arith, at, sum, here);
        rounded = omega (arith, quarter);
        last = second ends ∙ ap (λ z. prior_place_or (gaps_from 0 z) NO_PLACE NO_PLACE) f.is ∙ prior_place-last f.front f.body 0 NO_PLACE NO_PLACE;
        spelled = ap (λ z. words_of 0 z after) f.is ∙ words_of-append f.front (one ∷ []) 0 after
            ∙ ap (λ n. words_of 0 f.front n ++ ((16 + 4 * length f.body) ∷ 0 ∷ after ∷ 0 ∷ (f.body ++ []))) (zero-add (total f.front))
            ∙ ap (λ b. words_of 0 f.front (total f.front) ++ ((16 + 4 * length f.body) ∷ 0 ∷ after ∷ 0 ∷ b)) (append-nil f.body);
        first = ap (λ z. first_free 0 z after) f.is ∙ first_free-append f.front (one ∷ []) 0 after ∙ ap (λ n. first_free 0 f.front n) (zero-add (total f.front));
        row = ap (row_from 0) f.is ∙ row_from-append f.front (one ∷ []) 0 ∙ append-nil (row_from 0 f.front);
        marked = ap starts_of f.is ∙ starts_of-append f.front (one ∷ [])
            ∙ ap (λ bs. starts_of f.front ++ bs) (starts_of-free f.body [] (suc (suc (suc (suc (length f.body)))) / 4) (omega arith) ∙ append-nil _);
        whole = whole_front f.front (one ∷ ys) w;
        merged = merged_before f.front f.body ys all;
        closed = λ body zs b m. merged_both f.front (one ∷ ys) (free body ∷ zs) (λ c. absurd c) (λ c. (b, m)) all;
      })

  pub down : IsDown after place xs (cond (touches words before place) before place) (cond (touches words before place) prior before)
  down = go (ending xs)
    where
      go : (xs ≡ []) ⊎ (EndsLive xs ⊎ EndsFree xs) → IsDown after place xs (cond (touches words before place) before place) (cond (touches words before place) prior before)
      go (inl e) = down_none e
      go (inr (inl l)) = down_live l
      go (inr (inr f)) = down_free f
