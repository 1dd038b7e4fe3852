-- The map that a comparison makes: the pairs that it holds, and a pair more.
use Rattle.std.proofs.Common.{◌≡◌, ℕ, ◌<◌, ◌≤◌, ◌⊎◌, inl, inr, Bool, true, false, ◌||◌, List, [], ◌∷◌, ◌++◌, refl, sym, ◌∙◌, ap, subst, cond, arith, Some, None, Result, Ok, Err}
use Rattle.std.specs.Prelude.{nat_eq, is_ok, OnOk, OnErr}
use Rattle.std.proofs.lemmas.Bool.{eq-eqb, false≢true}
use Rattle.wb_renaming.specs.SameButNumbers.{Names, Renames, AreAddedSince, since_fork, up_to}
use Rattle.wb_renaming.proofs.SameForks.{forked-renaming, shared-named}
use Rattle.wb_machine.specs.declared.alike.names.Name.{Name}
use Rattle.wb_machine.specs.Alike.{names_of, pair_of, IsGrown}
use Rattle.wb_machine.proofs.likeness.GrownMaps.{grown-same}

pub in_either : (xs ys : Names) (a b : ℕ) → Renames (xs ++ ys) a b → Renames xs a b ⊎ Renames ys a b
in_either [] ys a b r = inr r
in_either (n ∷ xs) ys a b (inl here) = inl (inl here)
in_either (n ∷ xs) ys a b (inr later) = by (in_either xs ys a b later)
  where
    by : Renames xs a b ⊎ Renames ys a b → Renames (n ∷ xs) a b ⊎ Renames ys a b
    by (inl r) = inl (inr r)
    by (inr r) = inr r

pub among_first : (xs ys : Names) (a b : ℕ) → Renames xs a b → Renames (xs ++ ys) a b
among_first [] ys a b r = absurd r
among_first (n ∷ xs) ys a b (inl here) = inl here
among_first (n ∷ xs) ys a b (inr later) = inr (among_first xs ys a b later)

pub beyond : (xs ys : Names) (a b : ℕ) → Renames ys a b → Renames (xs ++ ys) a b
beyond [] ys a b r = r
beyond (n ∷ xs) ys a b r = inr (beyond xs ys a b r)

pub names-append : (ps qs : List Name) → names_of (ps ++ qs) ≡ names_of ps ++ names_of qs
names-append [] qs = refl
names-append (p ∷ ps) qs = ap (λ ns. (p.here, p.there) ∷ ns) (names-append ps qs)

-- a pair that was found is in the map
pub found-renames : (here there : ℕ) (ps : List Name) (p : Name) → pair_of here there ps ≡ Some p → Renames (names_of ps) p.here p.there
found-renames here there [] p e = cc
found-renames here there (q ∷ ps) p e = by (nat_eq q.here here || nat_eq q.there there) e (found-renames here there ps p)
  where
    by : (b : Bool) → cond b (Some q) (pair_of here there ps) ≡ Some p → (pair_of here there ps ≡ Some p → Renames (names_of ps) p.here p.there) →
        Renames (names_of (q ∷ ps)) p.here p.there
    by true e rest = let same : q ≡ p = cc in inl (ap (λ (x : Name). x.here) (sym same), ap (λ (x : Name). x.there) (sym same))
    by false e rest = inr (rest e)

-- where none was found, neither number is in it
pub record IsNew (names : Names) (here there : ℕ) : Type 0 where
  pub here_new : (b : ℕ) → Renames names here b → ⊥
  pub there_new : (a : ℕ) → Renames names a there → ⊥

pub none-new : (here there : ℕ) (ps : List Name) → pair_of here there ps ≡ None → IsNew (names_of ps) here there
none-new here there [] e = record { here_new = λ b r. r; there_new = λ a r. r }
none-new here there (q ∷ ps) e = by (nat_eq q.here here) (nat_eq q.there there) refl refl e (none-new here there ps)
  where
    by : (h t : Bool) → nat_eq q.here here ≡ h → nat_eq q.there there ≡ t → cond (h || t) (Some q) (pair_of here there ps) ≡ None →
        (pair_of here there ps ≡ None → IsNew (names_of ps) here there) → IsNew (names_of (q ∷ ps)) here there
    by true t eh et e rest = cc
    by false true eh et e rest = cc
    by false false eh et e rest = record { here_new = here_new; there_new = there_new }
      where
        new : IsNew (names_of ps) here there
        new = rest e

        here_new : (b : ℕ) → Renames (names_of (q ∷ ps)) here b → ⊥
        here_new b (inl r) = absurd (false≢true (sym eh ∙ eq-eqb q.here here (sym r.0)))
        here_new b (inr r) = new.here_new b r

        there_new : (a : ℕ) → Renames (names_of (q ∷ ps)) a there → ⊥
        there_new a (inl r) = absurd (false≢true (sym et ∙ eq-eqb q.there there (sym r.1)))
        there_new a (inr r) = new.there_new a r

pub none-added : (since made other_made : ℕ) → since ≤ made → since ≤ other_made → AreAddedSince since [] made other_made
none-added since made other_made le other_le = record {
  once = λ a b c r s. absurd r;
  apart = λ a b c r s. absurd r;
  later = λ a b r. absurd r;
  made_before = λ a b r. absurd r;
  shared = (le, other_le);
}

-- a pair more, of numbers that are in none
one-more : (since here there made other_made : ℕ) (names : Names) → IsNew names here there → since < here → since < there → here ≤ made → there ≤ other_made →
    AreAddedSince since names made other_made → AreAddedSince since (names ++ (here, there) ∷ []) made other_made
one-more since here there made other_made names new late other_late within other_within are = record {
  once = λ a b c r s. once a b c (split a b r) (split a c s);
  apart = λ a b c r s. apart a b c (split a c r) (split b c s);
  later = λ a b r. later a b (split a b r);
  made_before = λ a b r. before a b (split a b r);
  shared = are.shared;
}
  where
    IsPair : ℕ → ℕ → Type 0
    IsPair a b = (a ≡ here) × (b ≡ there)

    split : (a b : ℕ) → Renames (names ++ (here, there) ∷ []) a b → Renames names a b ⊎ IsPair a b
    split a b r = by (in_either names ((here, there) ∷ []) a b r)
      where
        by : Renames names a b ⊎ Renames ((here, there) ∷ []) a b → Renames names a b ⊎ IsPair a b
        by (inl old) = inl old
        by (inr (inl is)) = inr is
        by (inr (inr none)) = absurd none

    once : (a b c : ℕ) → Renames names a b ⊎ IsPair a b → Renames names a c ⊎ IsPair a c → b ≡ c
    once a b c (inl r) (inl s) = are.once a b c r s
    once a b c (inl r) (inr s) = absurd (new.here_new b (subst (λ z. Renames names z b) s.0 r))
    once a b c (inr r) (inl s) = absurd (new.here_new c (subst (λ z. Renames names z c) r.0 s))
    once a b c (inr r) (inr s) = r.1 ∙ sym s.1

    apart : (a b c : ℕ) → Renames names a c ⊎ IsPair a c → Renames names b c ⊎ IsPair b c → a ≡ b
    apart a b c (inl r) (inl s) = are.apart a b c r s
    apart a b c (inl r) (inr s) = absurd (new.there_new a (subst (λ z. Renames names a z) s.1 r))
    apart a b c (inr r) (inl s) = absurd (new.there_new b (subst (λ z. Renames names b z) r.1 s))
    apart a b c (inr r) (inr s) = r.0 ∙ sym s.0

    later : (a b : ℕ) → Renames names a b ⊎ IsPair a b → (since < a) × (since < b)
    later a b (inl r) = are.later a b r
    later a b (inr r) = let one : a ≡ here = r.0 in let other : b ≡ there = r.1 in (omega (arith, late), omega (arith, other_late))

    before : (a b : ℕ) → Renames names a b ⊎ IsPair a b → (a ≤ made) × (b ≤ other_made)
    before a b (inl r) = are.made_before a b r
    before a b (inr r) = let one : a ≡ here = r.0 in let other : b ≡ there = r.1 in (omega (arith, within), omega (arith, other_within))

pub one-added : (since here there made other_made : ℕ) (names more : Names) → more ≡ names ++ (here, there) ∷ [] → IsNew names here there →
    since < here → since < there → here ≤ made → there ≤ other_made →
    AreAddedSince since names made other_made → AreAddedSince since more made other_made
one-added since here there made other_made names more e new late other_late within other_within are =
    subst (λ ns. AreAddedSince since ns made other_made) (sym e) (one-more since here there made other_made names new late other_late within other_within are)

-- the map once a pair was added
pub grown-pair : (since here there made other_made : ℕ) (names more : Names) → more ≡ names ++ (here, there) ∷ [] → AreAddedSince since more made other_made →
    IsGrown (since_fork since names made other_made) (since_fork since more made other_made)
grown-pair since here there made other_made names more e are = record {
  pairs = λ a b r. by a b (in_either names (up_to since) a b r);
  made = refl;
  other_made = refl;
  renaming = λ is. forked-renaming since made other_made more are;
}
  where
    by : (a b : ℕ) → Renames names a b ⊎ Renames (up_to since) a b → Renames (more ++ up_to since) a b
    by a b (inl r) = among_first more (up_to since) a b (subst (λ ns. Renames ns a b) (sym e) (among_first names ((here, there) ∷ []) a b r))
    by a b (inr r) = beyond more (up_to since) a b r

pub shared-renames : (since a b : ℕ) (names : Names) → a ≡ b → a ≤ since → Renames (names ++ up_to since) a b
shared-renames since a b names e le = beyond names (up_to since) a b (shared-named since a b e le)

-- what a push of a new pair leaves, whether or not there was room
pub record LeavesMap (since made other_made : ℕ) (ps qs : List Name) : Type 0 where
  pub added : AreAddedSince since (names_of qs) made other_made
  pub grown : IsGrown (since_fork since (names_of ps) made other_made) (since_fork since (names_of qs) made other_made)

pub kept-or-added : {A E : Type 0} (r : Result A E) (since here there made other_made : ℕ) (ps qs : List Name) →
    OnOk r (qs ≡ ps ++ record { here = here; there = there } ∷ []) → OnErr r (qs ≡ ps) → pair_of here there ps ≡ None →
    since < here → since < there → here ≤ made → there ≤ other_made → AreAddedSince since (names_of ps) made other_made → LeavesMap since made other_made ps qs
kept-or-added (Ok x) since here there made other_made ps qs ok err none late other_late within other_within are =
    let more : names_of qs ≡ names_of ps ++ (here, there) ∷ [] = ap names_of ok ∙ names-append ps (record { here = here; there = there } ∷ []) in
    let is = one-added since here there made other_made (names_of ps) (names_of qs) more (none-new here there ps none) late other_late within other_within are in
    record { added = is; grown = grown-pair since here there made other_made (names_of ps) (names_of qs) more is }
kept-or-added (Err e) since here there made other_made ps qs ok err none late other_late within other_within are =
    subst (λ xs. LeavesMap since made other_made ps xs) (sym err) (record { added = are; grown = grown-same refl })

pub added-renames : {A E : Type 0} (r : Result A E) (since here there : ℕ) (ps qs : List Name) → is_ok r ≡ true →
    OnOk r (qs ≡ ps ++ record { here = here; there = there } ∷ []) → Renames (names_of qs ++ up_to since) here there
added-renames (Ok x) since here there ps qs e ok =
    let more : names_of qs ≡ names_of ps ++ (here, there) ∷ [] = ap names_of ok ∙ names-append ps (record { here = here; there = there } ∷ []) in
    among_first (names_of qs) (up_to since) here there (subst (λ ns. Renames ns here there) (sym more) (beyond (names_of ps) ((here, there) ∷ []) here there (inl (refl, refl))))
added-renames (Err x) since here there ps qs e ok = cc
