-- What a loop of reads, and one of writes, does to known bytes.
use Rattle.std.proofs.Common.{◌≡◌, ℕ, ◌+◌, ◌-◌, ◌≤◌, List, [], ◌++◌, Option, None, Some, arith, length-take, length, take, drop, sym, ap, ◌∙◌, subst, append_assoc}
use Rattle.std.proofs.Math.Seq.{take-add}
use Rattle.std.proofs.lemmas.List.{append-nil, length-append, take-append-le, take_rest}
use Rattle.std.specs.Io.KnownBytes.{Appends, Consumes}
use Rattle.wb_streams.specs.Streams.{TakesAtMost}

pub Appends-nothing : (a : Option (List ℕ)) → Appends a a []
Appends-nothing None = tt
Appends-nothing (Some x) = sym (append-nil x)

pub Appends-trans : (a b c : Option (List ℕ)) (bs cs : List ℕ) → Appends a b bs → Appends b c cs → Appends a c (bs ++ cs)
Appends-trans None b c bs cs p q = tt
Appends-trans (Some x) None c bs cs p q = absurd p
Appends-trans (Some x) (Some y) None bs cs p q = absurd q
Appends-trans (Some x) (Some y) (Some z) bs cs p q = q ∙ ap (λ l. l ++ cs) p ∙ append_assoc x bs cs

pub Consumes-trans : (a b c : Option (List ℕ)) (bs cs : List ℕ) → Consumes a b bs → Consumes b c cs → Consumes a c (bs ++ cs)
Consumes-trans None b c bs cs p q = tt
Consumes-trans (Some x) None c bs cs p q = absurd p
Consumes-trans (Some x) (Some y) None bs cs p q = absurd q
Consumes-trans (Some x) (Some y) (Some z) bs cs p q = p ∙ ap (λ l. bs ++ l) q ∙ sym (append_assoc bs cs z)

-- the writer took the text up to a place, and then more of it
pub Appends-more : (a b c : Option (List ℕ)) (text : List ℕ) (at n : ℕ) → Appends a b (take at text)
    → Appends b c (take n (take (length text - at) (drop at text))) → Appends a c (take (at + n) text)
Appends-more a b c text at n before now =
    let joined : take at text ++ take n (take (length text - at) (drop at text)) ≡ take (at + n) text =
    ap (λ l. take at text ++ take n l) (take_rest text at) ∙ sym (take-add at n text) in
    subst (Appends a c) joined (Appends-trans a b c _ _ before now)

-- the reader gave what was kept, and then the first bytes of a part, which are kept too
pub Consumes-more : (a b c : Option (List ℕ)) (kept part rest longer : List ℕ) (n : ℕ) → longer ≡ kept ++ take n (part ++ rest) → n ≤ length part
    → Consumes a b kept → Consumes b c (take n part) → Consumes a c longer
Consumes-more a b c kept part rest longer n is fits before now =
    let same : longer ≡ kept ++ take n part = is ∙ ap (λ l. kept ++ l) (take-append-le n part rest fits) in
    subst (Consumes a c) (sym same) (Consumes-trans a b c _ _ before now)

-- the reader gave no more than that
pub taken_more : (most : ℕ) (a b c : Option (List ℕ)) (kept part : List ℕ) (n : ℕ) → length kept + n ≤ most → Consumes a b kept → Consumes b c (take n part)
    → TakesAtMost most a c
taken_more most a b c kept part n within before now =
    (kept ++ take n part, omega (arith, within, length-append kept (take n part), length-take n part), Consumes-trans a b c _ _ before now)
