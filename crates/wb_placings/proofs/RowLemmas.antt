-- What a pointer finds in a row once a cell was inserted, released or changed, and how many cells pass a test of level and kind.
use Rattle.std.proofs.Common.{◌≡◌, ◌≢◌, ℕ, suc, ◌+◌, ◌-◌, ◌≤◌, Bool, true, false, not, ◌&&◌, List, [], ◌∷◌, length, refl, sym, ap, ◌∙◌, subst, arith, cond, filter, All, AllPairs, Some, None}
use Rattle.std.specs.Prelude.{nat_eq, nat_lt}
use Rattle.std.proofs.lemmas.List.Elements.{All-cons, All-nil, All-filter, All-head, All-tail}
use Rattle.std.proofs.lemmas.List.Kept.{AllPairs-cons, AllPairs-filter}
use Rattle.wb_heap_model.specs.declared.heap.Header.{Header}
use Rattle.wb_heap_model.specs.declared.heap.Kind.{Kind}
use Rattle.wb_heap_model.specs.declared.heap.Ptr.{Ptr}
use Rattle.wb_heap_model.specs.Heap.{is_cleanup, lower, lowered}
use Rattle.wb_heap_model.specs.Row.{Cell, headers, pointer_to, is_at, cell_at, inserted, without, changed}
use Rattle.wb_heap_model.specs.Contents.{Content}
use Rattle.wb_heap_model.proofs.Rows.{headers-without, headers-changed, All-inserted, numbered-inserted}
use Rattle.wb_heap_model.proofs.Reallocations.{not_at-number, pointer-at, found-head, others-apart, without-absent}
use Rattle.wb_heap_model.proofs.ReallocatedHeaps.{others-numbered}

-- each cell has the number of an attempt made, and no two have one number
pub record IsNumbered (made : ℕ) (row : List (Cell Content)) : Type 0 where
  pub apart : AllPairs (λ g h. g.number ≢ h.number) (headers row)
  pub made_before : All (λ h. (1 ≤ h.number) × (h.number ≤ made)) (headers row)

-- no cell has the number
abbrev pub Lacks : ℕ → List (Cell Content) → Type 0
Lacks n row = All (λ h. h.number ≢ n) (headers row)

later-apart : (g : Header) (hs : List Header) → AllPairs (λ g h. g.number ≢ h.number) (g ∷ hs) → AllPairs (λ g h. g.number ≢ h.number) hs
later-apart g hs apart i j x lt end = apart (suc i) (suc j) x (omega arith) (omega arith)

-- what a pointer finds
pub found-at : (p : Ptr) (row : List (Cell Content)) (c : Cell Content) → cell_at p row ≡ Some c → is_at p c.head ≡ true
found-at p [] c e = cc
found-at p (d ∷ ds) c e = by (is_at p d.head) refl e (found-at p ds c)
  where
    by : (b : Bool) → is_at p d.head ≡ b → cond b (Some d) (cell_at p ds) ≡ Some c → (cell_at p ds ≡ Some c → is_at p c.head ≡ true) → is_at p c.head ≡ true
    by true at found rest = let same : d ≡ c = cc in subst (λ x. is_at p x.head ≡ true) same at
    by false at found rest = rest found

pub found-pointer : (p : Ptr) (row : List (Cell Content)) (c : Cell Content) → cell_at p row ≡ Some c → pointer_to c.head ≡ p
found-pointer p row c e = pointer-at p c.head (found-at p row c e)

pub lacking-none : (p : Ptr) (row : List (Cell Content)) → Lacks p.number row → cell_at p row ≡ None
lacking-none p [] lacks = refl
lacking-none p (d ∷ ds) lacks =
    ap (λ b. cond b (Some d) (cell_at p ds)) (not_at-number p d.head (All-head (λ h. h.number ≢ p.number) d.head (headers ds) lacks))
    ∙ lacking-none p ds (All-tail (λ h. h.number ≢ p.number) d.head (headers ds) lacks)

pub found-without_other : (p q : Ptr) (row : List (Cell Content)) → p ≢ q → cell_at p (without q row) ≡ cell_at p row
found-without_other p q [] other = refl
found-without_other p q (d ∷ ds) other = by (is_at q d.head) refl (is_at p d.head) refl (found-without_other p q ds other)
  where
    by : (b : Bool) → is_at q d.head ≡ b → (a : Bool) → is_at p d.head ≡ a → cell_at p (without q ds) ≡ cell_at p ds →
        cell_at p (cond (not b) (d ∷ without q ds) (without q ds)) ≡ cond a (Some d) (cell_at p ds)
    by true its true mine rest = absurd (other (sym (pointer-at p d.head mine) ∙ pointer-at q d.head its))
    by true its false mine rest = rest
    by false its a mine rest = ap (λ x. cond x (Some d) (cell_at p (without q ds))) mine ∙ ap (λ o. cond a (Some d) o) rest

pub found-without_own : (p : Ptr) (row : List (Cell Content)) → cell_at p (without p row) ≡ None
found-without_own p [] = refl
found-without_own p (d ∷ ds) = by (is_at p d.head) refl (found-without_own p ds)
  where
    by : (b : Bool) → is_at p d.head ≡ b → cell_at p (without p ds) ≡ None → cell_at p (cond (not b) (d ∷ without p ds) (without p ds)) ≡ None
    by true at rest = rest
    by false at rest = ap (λ x. cond x (Some d) (cell_at p (without p ds))) at ∙ rest

pub without-lacks : (made : ℕ) (p : Ptr) (row : List (Cell Content)) (c : Cell Content) → IsNumbered made row → cell_at p row ≡ Some c → Lacks c.head.number (without p row)
without-lacks made p row c is e =
    subst (All (λ h. h.number ≢ c.head.number)) (sym (headers-without p row)) (others-numbered p (headers row) c.head is.apart (found-head p row c e))

-- the content of a cell changes
abbrev pub with_content : (Content → Content) → Cell Content → Cell Content
with_content f c = record c { content = f c.content }

pub found-changed_own : (p : Ptr) (f : Content → Content) (row : List (Cell Content)) (c : Cell Content) → cell_at p row ≡ Some c →
    cell_at p (changed p f row) ≡ Some (with_content f c)
found-changed_own p f [] c e = cc
found-changed_own p f (d ∷ ds) c e = by (is_at p d.head) refl e (found-changed_own p f ds c)
  where
    by : (b : Bool) → is_at p d.head ≡ b → cond b (Some d) (cell_at p ds) ≡ Some c → (cell_at p ds ≡ Some c → cell_at p (changed p f ds) ≡ Some (with_content f c)) →
        cell_at p (cond b (with_content f d ∷ ds) (d ∷ changed p f ds)) ≡ Some (with_content f c)
    by true at found rest =
        let same : d ≡ c = cc in
        ap (λ x. cond x (Some (with_content f d)) (cell_at p ds)) at ∙ ap (λ (x : Cell Content). Some (with_content f x)) same
    by false at found rest = ap (λ x. cond x (Some d) (cell_at p (changed p f ds))) at ∙ rest found

pub found-changed_other : (p q : Ptr) (f : Content → Content) (row : List (Cell Content)) → p ≢ q → cell_at p (changed q f row) ≡ cell_at p row
found-changed_other p q f [] other = refl
found-changed_other p q f (d ∷ ds) other = by (is_at q d.head) refl (is_at p d.head) refl (found-changed_other p q f ds other)
  where
    by : (b : Bool) → is_at q d.head ≡ b → (a : Bool) → is_at p d.head ≡ a → cell_at p (changed q f ds) ≡ cell_at p ds →
        cell_at p (cond b (with_content f d ∷ ds) (d ∷ changed q f ds)) ≡ cond a (Some d) (cell_at p ds)
    by true its true mine rest = absurd (other (sym (pointer-at p d.head mine) ∙ pointer-at q d.head its))
    by true its false mine rest = ap (λ x. cond x (Some (with_content f d)) (cell_at p ds)) mine
    by false its a mine rest = ap (λ x. cond x (Some d) (cell_at p (changed q f ds))) mine ∙ ap (λ o. cond a (Some d) o) rest

-- each cell of a level takes the level below
abbrev pub with_lower : ℕ → Cell Content → Cell Content
with_lower level c = record c { head = lower level c.head }

lower-blind : {B : Type 0} (f : Header → B) (level : ℕ) (h : Header) → f (record h { level = level - 1 }) ≡ f h → f (lower level h) ≡ f h
lower-blind f level h e = by (nat_eq h.level level && not (is_cleanup h.kind))
  where
    by : (b : Bool) → f (cond b (record h { level = level - 1 }) h) ≡ f h
    by true = e
    by false = refl

pub found-lowered : (p : Ptr) (level : ℕ) (row : List (Cell Content)) (c : Cell Content) → cell_at p row ≡ Some c → cell_at p (lowered level row) ≡ Some (with_lower level c)
found-lowered p level [] c e = cc
found-lowered p level (d ∷ ds) c e = ap (λ x. cond x (Some (with_lower level d)) (cell_at p (lowered level ds))) (lower-blind (is_at p) level d.head refl) ∙ by (is_at p d.head) e (found-lowered p level ds c)
  where
    by : (b : Bool) → cond b (Some d) (cell_at p ds) ≡ Some c → (cell_at p ds ≡ Some c → cell_at p (lowered level ds) ≡ Some (with_lower level c)) →
        cond b (Some (with_lower level d)) (cell_at p (lowered level ds)) ≡ Some (with_lower level c)
    by true found rest = let same : d ≡ c = cc in ap (λ (x : Cell Content). Some (with_lower level x)) same
    by false found rest = rest found

pub lost-lowered : (p : Ptr) (level : ℕ) (row : List (Cell Content)) → cell_at p row ≡ None → cell_at p (lowered level row) ≡ None
lost-lowered p level [] e = refl
lost-lowered p level (d ∷ ds) e = ap (λ x. cond x (Some (with_lower level d)) (cell_at p (lowered level ds))) (lower-blind (is_at p) level d.head refl) ∙ by (is_at p d.head) e (lost-lowered p level ds)
  where
    by : (b : Bool) → cond b (Some d) (cell_at p ds) ≡ None → (cell_at p ds ≡ None → cell_at p (lowered level ds) ≡ None) →
        cond b (Some (with_lower level d)) (cell_at p (lowered level ds)) ≡ None
    by true found rest = cc
    by false found rest = rest found

-- how many cells pass a test of level and kind
abbrev pub count : (ℕ → Kind → Bool) → List (Cell Content) → ℕ
count f row = length (filter (λ h. f h.level h.kind) (headers row))

abbrev pub one_if : Bool → ℕ
one_if b = cond b 1 0

count-first : (f : ℕ → Kind → Bool) (c : Cell Content) (row : List (Cell Content)) → count f (c ∷ row) ≡ one_if (f c.head.level c.head.kind) + count f row
count-first f c row = by (f c.head.level c.head.kind)
  where
    by : (b : Bool) → length (cond b (c.head ∷ filter (λ h. f h.level h.kind) (headers row)) (filter (λ h. f h.level h.kind) (headers row))) ≡ one_if b + count f row
    by true = omega arith
    by false = omega arith

pub count-inserted : (f : ℕ → Kind → Bool) (c : Cell Content) (row : List (Cell Content)) → count f (inserted c row) ≡ one_if (f c.head.level c.head.kind) + count f row
count-inserted f c [] = count-first f c []
count-inserted f c (d ∷ ds) = by (nat_lt c.head.place d.head.place) (count-inserted f c ds)
  where
    by : (b : Bool) → count f (inserted c ds) ≡ one_if (f c.head.level c.head.kind) + count f ds →
        count f (cond b (c ∷ d ∷ ds) (d ∷ inserted c ds)) ≡ one_if (f c.head.level c.head.kind) + count f (d ∷ ds)
    by true rest = count-first f c (d ∷ ds)
    by false rest = omega (arith, rest, count-first f d (inserted c ds), count-first f d ds)

pub count-without : (f : ℕ → Kind → Bool) (p : Ptr) (row : List (Cell Content)) (c : Cell Content) → AllPairs (λ g h. g.number ≢ h.number) (headers row) → cell_at p row ≡ Some c →
    count f row ≡ one_if (f c.head.level c.head.kind) + count f (without p row)
count-without f p [] c apart e = cc
count-without f p (d ∷ ds) c apart e = by (is_at p d.head) refl e (count-without f p ds c (later-apart d.head (headers ds) apart))
  where
    by : (b : Bool) → is_at p d.head ≡ b → cond b (Some d) (cell_at p ds) ≡ Some c → (cell_at p ds ≡ Some c → count f ds ≡ one_if (f c.head.level c.head.kind) + count f (without p ds)) →
        count f (d ∷ ds) ≡ one_if (f c.head.level c.head.kind) + count f (cond (not b) (d ∷ without p ds) (without p ds))
    by true at found rest =
        let same : d ≡ c = cc in
        count-first f d ds ∙ ap (λ (x : Cell Content). one_if (f x.head.level x.head.kind) + count f ds) same
        ∙ ap (λ r. one_if (f c.head.level c.head.kind) + count f r) (sym (without-absent p ds (others-apart p d ds apart at)))
    by false at found rest = omega (arith, rest found, count-first f d ds, count-first f d (without p ds))

pub count-changed : (f : ℕ → Kind → Bool) (p : Ptr) (g : Content → Content) (row : List (Cell Content)) → count f (changed p g row) ≡ count f row
count-changed f p g row = ap (λ hs. length (filter (λ h. f h.level h.kind) hs)) (headers-changed p g row)

-- a test of the cells once they have the level below
abbrev pub before_lower : ℕ → (ℕ → Kind → Bool) → ℕ → Kind → Bool
before_lower level f l kind = f (cond (nat_eq l level && not (is_cleanup kind)) (level - 1) l) kind

pub count-lowered : (f : ℕ → Kind → Bool) (level : ℕ) (row : List (Cell Content)) → count f (lowered level row) ≡ count (before_lower level f) row
count-lowered f level [] = refl
count-lowered f level (d ∷ ds) =
    omega (arith, count-lowered f level ds, count-first f (with_lower level d) (lowered level ds), count-first (before_lower level f) d ds, by (nat_eq d.head.level level && not (is_cleanup d.head.kind)))
  where
    by : (b : Bool) → one_if (f (cond b (record d.head { level = level - 1 }) d.head).level (cond b (record d.head { level = level - 1 }) d.head).kind) ≡
        one_if (f (cond b (level - 1) d.head.level) d.head.kind)
    by true = refl
    by false = refl

-- numbers
pub numbered-later : (made more : ℕ) (row : List (Cell Content)) → made ≤ more → IsNumbered made row → IsNumbered more row
numbered-later made more row le is = record { apart = is.apart; made_before = λ k h lt. let m = is.made_before k h lt in (m.0, omega (arith, le, m.1)) }

pub lacks-next : (made : ℕ) (row : List (Cell Content)) → IsNumbered made row → Lacks (made + 1) row
lacks-next made row is k h lt e = let m = is.made_before k h lt in absurd (omega (arith, m.1, e))

pub numbered-without : (made : ℕ) (p : Ptr) (row : List (Cell Content)) → IsNumbered made row → IsNumbered made (without p row)
numbered-without made p row is = record {
  apart = subst (AllPairs (λ g h. g.number ≢ h.number)) (sym (headers-without p row)) (AllPairs-filter (λ g h. g.number ≢ h.number) (λ h. not (is_at p h)) (headers row) is.apart);
  made_before = subst (All (λ h. (1 ≤ h.number) × (h.number ≤ made))) (sym (headers-without p row)) (All-filter (λ h. not (is_at p h)) (λ h. (1 ≤ h.number) × (h.number ≤ made)) (headers row) is.made_before);
}

pub numbered-changed : (made : ℕ) (p : Ptr) (f : Content → Content) (row : List (Cell Content)) → IsNumbered made row → IsNumbered made (changed p f row)
numbered-changed made p f row is = record {
  apart = subst (AllPairs (λ g h. g.number ≢ h.number)) (sym (headers-changed p f row)) is.apart;
  made_before = subst (All (λ h. (1 ≤ h.number) × (h.number ≤ made))) (sym (headers-changed p f row)) is.made_before;
}

pub numbered-with : (made : ℕ) (c : Cell Content) (row : List (Cell Content)) → 1 ≤ c.head.number → c.head.number ≤ made → Lacks c.head.number row → IsNumbered made row →
    IsNumbered made (inserted c row)
numbered-with made c row one within lacks is = record {
  apart = numbered-inserted c row lacks is.apart;
  made_before = All-inserted (λ h. (1 ≤ h.number) × (h.number ≤ made)) c row (one, within) is.made_before;
}

All-lowered : (P : ℕ → Type 0) (level : ℕ) (row : List (Cell Content)) → All (λ h. P h.number) (headers row) → All (λ h. P h.number) (headers (lowered level row))
All-lowered P level [] all = All-nil (λ h. P h.number)
All-lowered P level (c ∷ cs) all =
    All-cons (λ h. P h.number) (lower level c.head) (headers (lowered level cs))
    (subst P (sym (lower-blind (λ h. h.number) level c.head refl)) (All-head (λ h. P h.number) c.head (headers cs) all))
    (All-lowered P level cs (All-tail (λ h. P h.number) c.head (headers cs) all))

apart-lowered : (level : ℕ) (row : List (Cell Content)) → AllPairs (λ g h. g.number ≢ h.number) (headers row) → AllPairs (λ g h. g.number ≢ h.number) (headers (lowered level row))
apart-lowered level [] apart = apart
apart-lowered level (c ∷ cs) apart =
    AllPairs-cons (λ g h. g.number ≢ h.number) (lower level c.head) (headers (lowered level cs))
    (subst (λ n. All (λ h. n ≢ h.number) (headers (lowered level cs))) (sym (lower-blind (λ h. h.number) level c.head refl))
    (All-lowered (λ n. c.head.number ≢ n) level cs (λ k x lt. apart 0 (suc k) x (omega arith) (omega arith))))
    (apart-lowered level cs (later-apart c.head (headers cs) apart))

pub numbered-lowered : (made level : ℕ) (row : List (Cell Content)) → IsNumbered made row → IsNumbered made (lowered level row)
numbered-lowered made level row is = record {
  apart = apart-lowered level row is.apart;
  made_before = All-lowered (λ n. (1 ≤ n) × (n ≤ made)) level row is.made_before;
}
