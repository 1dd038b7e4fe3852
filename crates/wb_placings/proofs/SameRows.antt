-- Rows whose cells are the same but for partners, in whatever order: what a pointer of the first finds, its partner finds in the second, and as many cells
-- of each level and kind are in both.
use Rattle.std.proofs.Common.{◌≡◌, ◌≢◌, ℕ, ◌+◌, ◌≤◌, Bool, true, false, not, ◌&&◌, List, [], ◌∷◌, ◌-◌, inl, inr, refl, sym, ap, ◌∙◌, subst, arith, cond, Option, Some, None}
use Rattle.std.specs.Prelude.{nat_eq}
use Rattle.std.proofs.lemmas.Bool.{false≢true}
use Rattle.wb_heap_model.specs.declared.heap.Answer.{Answer}
use Rattle.wb_heap_model.specs.declared.heap.Answer.TheVariants.{Granted, Simulated, Refused}
use Rattle.wb_heap_model.specs.declared.heap.Kind.{Kind}
use Rattle.wb_heap_model.specs.declared.heap.Ptr.{Ptr}
use Rattle.wb_heap_model.specs.Heap.{is_cleanup, lowered}
use Rattle.wb_heap_model.specs.Row.{Cell, headers, pointer_to, is_at, cell_at, inserted, without, changed, end_of, IsSpacedFrom}
use Rattle.wb_heap_model.specs.Contents.{Content}
use Rattle.wb_heap_model.proofs.Rows.{headers-without, headers-changed, spaced-filter}
use Rattle.wb_heap_model.proofs.Reallocations.{at-number, at-own, pointer-at, cell_at-inserted, cell_at-inserted_other}
use Rattle.wb_renaming.proofs.SameNumbers.{ap_two, cond-beside}
use Rattle.wb_placings.proofs.Partners.{PointerPairs, IsListed, Stands, Partners, ArePartners, after_answer, IsSameHeader, IsSameContent, IsSameCell, cell-later}
use Rattle.wb_placings.proofs.RowLemmas.{IsNumbered, Lacks, found-at, found-pointer, lacking-none, found-without_other, found-without_own, with_content, found-changed_own, found-changed_other, with_lower, found-lowered, lost-lowered, count, one_if, count-inserted, count-without, count-changed, before_lower, count-lowered, numbered-later, lacks-next, numbered-without, numbered-changed, numbered-with, numbered-lowered}

-- the cell in the other run that is the same
pub record HasPartner (pairs : PointerPairs) (c : Cell Content) (o : Option (Cell Content)) : Type 0 where
  pub cell : Cell Content
  pub is : o ≡ Some cell
  pub same : IsSameCell pairs c cell

-- live pointers have partners that are live, each its own; the first row is spaced, as first fit leaves it
pub record AreSameRows (w : Partners) (xs ys : List (Cell Content)) : Type 0 where
  pub found : (p q : Ptr) (c : Cell Content) → Stands w.pairs p q → cell_at p xs ≡ Some c → HasPartner w.pairs c (cell_at q ys)
  pub apart : (p q r : Ptr) (c d : Cell Content) → Stands w.pairs p r → Stands w.pairs q r → cell_at p xs ≡ Some c → cell_at q xs ≡ Some d → p ≡ q
  pub counts : (f : ℕ → Kind → Bool) → count f ys ≡ count f xs
  pub one : IsNumbered w.made xs
  pub other : IsNumbered w.made ys
  pub spaced : IsSpacedFrom 0 (headers xs)

pub not-both : {o : Option (Cell Content)} {c : Cell Content} → o ≡ Some c → o ≡ None → ⊥
not-both e f = cc

pub same-some : {c d : Cell Content} → Some c ≡ Some d → c ≡ d
same-some e = cc

count-same : {pairs : PointerPairs} {c d : Cell Content} (f : ℕ → Kind → Bool) → IsSameCell pairs c d → one_if (f d.head.level d.head.kind) ≡ one_if (f c.head.level c.head.kind)
count-same f s = ap_two (λ l k. one_if (f l k)) s.head.level s.head.kind

-- a cell is released
pub rows-without : {w : Partners} {xs ys : List (Cell Content)} {p q : Ptr} {c : Cell Content} → Stands w.pairs p q → cell_at p xs ≡ Some c → AreSameRows w xs ys →
    AreSameRows w (without p xs) (without q ys)
rows-without {w} {xs} {ys} {p} {q} {c} s e r = record {
  found = found;
  apart = λ a b x d f sa sb ea eb. r.apart a b x d f sa sb (kept a d ea) (kept b f eb);
  counts = λ f.
      let its = r.found p q c s e in
      omega (arith, r.counts f, count-without f p xs c r.one.apart e, count-without f q ys its.cell r.other.apart its.is, count-same f its.same);
  one = numbered-without w.made p xs r.one;
  other = numbered-without w.made q ys r.other;
  spaced = subst (IsSpacedFrom 0) (sym (headers-without p xs)) (spaced-filter (λ h. not (is_at p h)) (headers xs) 0 r.spaced);
}
  where
    other_than : (a : Ptr) (d : Cell Content) → cell_at a (without p xs) ≡ Some d → a ≢ p
    other_than a d ea same = not-both (subst (λ z. cell_at z (without p xs) ≡ Some d) same ea) (found-without_own p xs)

    kept : (a : Ptr) (d : Cell Content) → cell_at a (without p xs) ≡ Some d → cell_at a xs ≡ Some d
    kept a d ea = sym (found-without_other a p xs (other_than a d ea)) ∙ ea

    found : (a b : Ptr) (d : Cell Content) → Stands w.pairs a b → cell_at a (without p xs) ≡ Some d → HasPartner w.pairs d (cell_at b (without q ys))
    found a b d sa ea =
        let is = r.found a b d sa (kept a d ea) in
        let apart : b ≢ q = λ same. other_than a d ea (r.apart a p q d c (subst (Stands w.pairs a) same sa) s (kept a d ea) e) in
        record { cell = is.cell; is = found-without_other b q ys apart ∙ is.is; same = is.same }

-- a cell is put into each, whose numbers are new there
pub rows-inserted : {w : Partners} {xs ys : List (Cell Content)} {c d : Cell Content} → ArePartners w → IsSameCell w.pairs c d → Lacks c.head.number xs → Lacks d.head.number ys →
    (1 ≤ c.head.number) × (c.head.number ≤ w.made) → (1 ≤ d.head.number) × (d.head.number ≤ w.made) → IsSpacedFrom 0 (headers (inserted c xs)) → AreSameRows w xs ys →
    AreSameRows w (inserted c xs) (inserted d ys)
rows-inserted {w} {xs} {ys} {c} {d} is s new other_new bounds other_bounds spaced r = record {
  found = found;
  apart = apart;
  counts = λ f. omega (arith, r.counts f, count-inserted f c xs, count-inserted f d ys, count-same f s);
  one = numbered-with w.made c xs bounds.0 bounds.1 new r.one;
  other = numbered-with w.made d ys other_bounds.0 other_bounds.1 other_new r.other;
  spaced = spaced;
}
  where
    p : Ptr
    p = pointer_to c.head

    q : Ptr
    q = pointer_to d.head

    -- what is found among the others isn't the new cell
    elsewhere : (b : Ptr) (x : Cell Content) → cell_at b ys ≡ Some x → is_at b d.head ≡ false
    elsewhere b x e = by (is_at b d.head) refl
      where
        by : (t : Bool) → is_at b d.head ≡ t → is_at b d.head ≡ false
        by false at = at
        by true at = absurd (not-both e (lacking-none b ys (subst (λ n. Lacks n ys) (sym (at-number b d.head at)) other_new)))

    its : (a b : Ptr) → is_at a c.head ≡ true → Stands w.pairs a b → q ≡ b
    its a b at sa = is.once p q b s.head.named (subst (λ z. Stands w.pairs z b) (sym (pointer-at a c.head at)) sa)

    among : (a : Ptr) (x : Cell Content) → is_at a c.head ≡ false → cell_at a (inserted c xs) ≡ Some x → cell_at a xs ≡ Some x
    among a x at e = sym (cell_at-inserted_other a c xs at) ∙ e

    found : (a b : Ptr) (x : Cell Content) → Stands w.pairs a b → cell_at a (inserted c xs) ≡ Some x → HasPartner w.pairs x (cell_at b (inserted d ys))
    found a b x sa ea = by (is_at a c.head) refl
      where
        by : (t : Bool) → is_at a c.head ≡ t → HasPartner w.pairs x (cell_at b (inserted d ys))
        by true at =
            let own = cell_at-inserted a c xs at (subst (λ n. Lacks n xs) (sym (at-number a c.head at)) new) in
            let there = its a b at sa in
            subst (λ z. HasPartner w.pairs z (cell_at b (inserted d ys))) (same-some (sym own ∙ ea))
            (record {
              cell = d;
              is = cell_at-inserted b d ys (subst (λ z. is_at z d.head ≡ true) there (at-own d.head)) (subst (λ (z : Ptr). Lacks z.number ys) there other_new);
              same = s;
            })
        by false at =
            let old = r.found a b x sa (among a x at ea) in
            record { cell = old.cell; is = cell_at-inserted_other b d ys (elsewhere b old.cell old.is) ∙ old.is; same = old.same }

    clash : (a b x : Ptr) (z : Cell Content) → is_at a c.head ≡ true → Stands w.pairs a x → Stands w.pairs b x → cell_at b xs ≡ Some z → ⊥
    clash a b x z at sa sb eb =
        let old = r.found b x z sb eb in
        absurd (false≢true (sym (elsewhere x old.cell old.is) ∙ subst (λ y. is_at y d.head ≡ true) (its a x at sa) (at-own d.head)))

    apart : (a b x : Ptr) (y z : Cell Content) → Stands w.pairs a x → Stands w.pairs b x → cell_at a (inserted c xs) ≡ Some y → cell_at b (inserted c xs) ≡ Some z → a ≡ b
    apart a b x y z sa sb ea eb = by (is_at a c.head) refl (is_at b c.head) refl
      where
        by : (t : Bool) → is_at a c.head ≡ t → (u : Bool) → is_at b c.head ≡ u → a ≡ b
        by true at true bt = sym (pointer-at a c.head at) ∙ pointer-at b c.head bt
        by true at false bt = absurd (clash a b x z at sa sb (among b z bt eb))
        by false at true bt = absurd (clash b a x y bt sb sa (among a y at ea))
        by false at false bt = r.apart a b x y z sa sb (among a y at ea) (among b z bt eb)

-- the content of a cell changes
pub rows-changed : {w : Partners} {xs ys : List (Cell Content)} {p q : Ptr} {c : Cell Content} (f g : Content → Content) →
    ((x y : Content) → IsSameContent w.pairs x y → IsSameContent w.pairs (f x) (g y)) → ArePartners w → Stands w.pairs p q → cell_at p xs ≡ Some c → AreSameRows w xs ys →
    AreSameRows w (changed p f xs) (changed q g ys)
rows-changed {w} {xs} {ys} {p} {q} {c} f g alike is s e r = record {
  found = found;
  apart = λ a b x y z sa sb ea eb. let one = was a y ea in let two = was b z eb in r.apart a b x one.0 two.0 sa sb one.1 two.1;
  counts = λ t. count-changed t q g ys ∙ r.counts t ∙ sym (count-changed t p f xs);
  one = numbered-changed w.made p f xs r.one;
  other = numbered-changed w.made q g ys r.other;
  spaced = subst (IsSpacedFrom 0) (sym (headers-changed p f xs)) r.spaced;
}
  where
    mine : (a : Ptr) → is_at a c.head ≡ true → p ≡ a
    mine a at = sym (found-pointer p xs c e) ∙ pointer-at a c.head at

    another : (a : Ptr) → is_at a c.head ≡ false → a ≢ p
    another a at same = absurd (false≢true (sym at ∙ subst (λ z. is_at z c.head ≡ true) (sym same) (found-at p xs c e)))

    was : (a : Ptr) (x : Cell Content) → cell_at a (changed p f xs) ≡ Some x → (z : Cell Content) × (cell_at a xs ≡ Some z)
    was a x ea = by (is_at a c.head) refl
      where
        by : (t : Bool) → is_at a c.head ≡ t → (z : Cell Content) × (cell_at a xs ≡ Some z)
        by true at = (c, subst (λ z. cell_at z xs ≡ Some c) (mine a at) e)
        by false at = (x, sym (found-changed_other a p f xs (another a at)) ∙ ea)

    found : (a b : Ptr) (x : Cell Content) → Stands w.pairs a b → cell_at a (changed p f xs) ≡ Some x → HasPartner w.pairs x (cell_at b (changed q g ys))
    found a b x sa ea = by (is_at a c.head) refl
      where
        by : (t : Bool) → is_at a c.head ≡ t → HasPartner w.pairs x (cell_at b (changed q g ys))
        by true at =
            let old = r.found p q c s e in
            let new : cell_at p (changed p f xs) ≡ Some x = subst (λ z. cell_at z (changed p f xs) ≡ Some x) (sym (mine a at)) ea in
            let there : q ≡ b = is.once p q b s (subst (λ z. Stands w.pairs z b) (sym (mine a at)) sa) in
            subst (λ z. HasPartner w.pairs x (cell_at z (changed q g ys))) there
            (subst (λ z. HasPartner w.pairs z (cell_at q (changed q g ys))) (same-some (sym (found-changed_own p f xs c e) ∙ new))
            (record {
              cell = with_content g old.cell;
              is = found-changed_own q g ys old.cell old.is;
              same = record { head = old.same.head; content = alike c.content old.cell.content old.same.content };
            }))
        by false at =
            let before = sym (found-changed_other a p f xs (another a at)) ∙ ea in
            let old = r.found a b x sa before in
            let apart : b ≢ q = λ same. another a at (r.apart a p q x c (subst (Stands w.pairs a) same sa) s before e) in
            record { cell = old.cell; is = found-changed_other b q g ys apart ∙ old.is; same = old.same }

-- the cells of a level take the level below
spaced-lowered : (level : ℕ) (row : List (Cell Content)) (at : ℕ) → IsSpacedFrom at (headers row) → IsSpacedFrom at (headers (lowered level row))
spaced-lowered level [] at s = tt
spaced-lowered level (c ∷ cs) at s = by (nat_eq c.head.level level && not (is_cleanup c.head.kind)) (spaced-lowered level cs (end_of c.head) s.5)
  where
    by : (b : Bool) → IsSpacedFrom (end_of c.head) (headers (lowered level cs)) →
        IsSpacedFrom at (cond b (record c.head { level = level - 1 }) c.head ∷ headers (lowered level cs))
    by true rest = (s.0, s.1, s.2, s.3, s.4, rest)
    by false rest = (s.0, s.1, s.2, s.3, s.4, rest)

lower-same : {pairs : PointerPairs} {c d : Cell Content} (level : ℕ) → IsSameCell pairs c d → IsSameCell pairs (with_lower level c) (with_lower level d)
lower-same {pairs} {c} {d} level s =
    let low : IsSameHeader pairs (record c.head { level = level - 1 }) (record d.head { level = level - 1 }) =
    record { length = s.head.length; kind = s.head.kind; level = refl; named = s.head.named } in
    record {
      head = cond-beside (IsSameHeader pairs) _ _ _ _ _ _ (ap_two ◌&&◌ (ap (λ l. nat_eq l level) s.head.level) (ap (λ k. not (is_cleanup k)) s.head.kind)) low s.head;
      content = s.content;
    }

pub rows-lowered : {w : Partners} {xs ys : List (Cell Content)} (level : ℕ) → AreSameRows w xs ys → AreSameRows w (lowered level xs) (lowered level ys)
rows-lowered {w} {xs} {ys} level r = record {
  found = found;
  apart = λ a b x y z sa sb ea eb. let one = was a y ea in let two = was b z eb in r.apart a b x one.0 two.0 sa sb one.1 two.1;
  counts = λ f. count-lowered f level ys ∙ r.counts (before_lower level f) ∙ sym (count-lowered f level xs);
  one = numbered-lowered w.made level xs r.one;
  other = numbered-lowered w.made level ys r.other;
  spaced = spaced-lowered level xs 0 r.spaced;
}
  where
    was : (a : Ptr) (x : Cell Content) → cell_at a (lowered level xs) ≡ Some x → (z : Cell Content) × (cell_at a xs ≡ Some z)
    was a x ea = by (cell_at a xs) refl
      where
        by : (o : Option (Cell Content)) → cell_at a xs ≡ o → (z : Cell Content) × (cell_at a xs ≡ Some z)
        by (Some z) e = (z, e)
        by None e = absurd (not-both ea (lost-lowered a level xs e))

    found : (a b : Ptr) (x : Cell Content) → Stands w.pairs a b → cell_at a (lowered level xs) ≡ Some x → HasPartner w.pairs x (cell_at b (lowered level ys))
    found a b x sa ea =
        let before = was a x ea in
        let old = r.found a b before.0 sa before.1 in
        subst (λ z. HasPartner w.pairs z (cell_at b (lowered level ys))) (same-some (sym (found-lowered a level xs before.0 before.1) ∙ ea))
        (record { cell = with_lower level old.cell; is = found-lowered b level ys old.cell old.is; same = lower-same level old.same })

-- one more attempt was answered, and a pair was added whose first pointer is new
pub rows-later : {w : Partners} {xs ys : List (Cell Content)} (p q : Ptr) (answer : Answer) → p.number ≡ w.made + 1 → AreSameRows w xs ys → AreSameRows (after_answer w p q answer) xs ys
rows-later {w} {xs} {ys} p q Granted new r = record {
  found = found;
  apart = λ a b x y z sa sb ea eb. r.apart a b x y z (before a x y sa ea) (before b x z sb eb) ea eb;
  counts = r.counts;
  one = numbered-later w.made (w.made + 1) xs (omega arith) r.one;
  other = numbered-later w.made (w.made + 1) ys (omega arith) r.other;
  spaced = r.spaced;
}
  where
    before : (a b : Ptr) (x : Cell Content) → Stands ((p, q) ∷ w.pairs) a b → cell_at a xs ≡ Some x → Stands w.pairs a b
    before a b x sa ea = by sa.listed
      where
        by : IsListed ((p, q) ∷ w.pairs) a b → Stands w.pairs a b
        by (inr s) = record { listed = s }
        by (inl s) =
            let same : a.number ≡ w.made + 1 = ap (λ (z : Ptr). z.number) s.0 ∙ new in
            absurd (not-both ea (lacking-none a xs (subst (λ n. Lacks n xs) (sym same) (lacks-next w.made xs r.one))))

    found : (a b : Ptr) (x : Cell Content) → Stands ((p, q) ∷ w.pairs) a b → cell_at a xs ≡ Some x → HasPartner ((p, q) ∷ w.pairs) x (cell_at b ys)
    found a b x sa ea =
        let old = r.found a b x (before a b x sa ea) ea in
        record { cell = old.cell; is = old.is; same = cell-later (λ y z s. record { listed = inr s.listed }) old.same }
rows-later {w} {xs} {ys} p q Simulated new r = record {
  found = r.found;
  apart = r.apart;
  counts = r.counts;
  one = numbered-later w.made (w.made + 1) xs (omega arith) r.one;
  other = numbered-later w.made (w.made + 1) ys (omega arith) r.other;
  spaced = r.spaced;
}
rows-later {w} {xs} {ys} p q Refused new r = record {
  found = r.found;
  apart = r.apart;
  counts = r.counts;
  one = numbered-later w.made (w.made + 1) xs (omega arith) r.one;
  other = numbered-later w.made (w.made + 1) ys (omega arith) r.other;
  spaced = r.spaced;
}
