-- The locals of frames, one above the other.
use Rattle.std.proofs.Common.{◌≡◌, ℕ, suc, ◌+◌, ◌-◌, ◌<◌, ◌≤◌, List, [], ◌∷◌, ◌++◌, map, take, drop, length, get_or, min, ap, ◌∙◌, sym, arith}
use Rattle.std.specs.Prelude.{slice_range, slice_set as set}
use Rattle.std.proofs.lemmas.List.{append_assoc, take-append-drop, map-append, take-map, take_min, take_rest, take-set-le, drop-map, drop_min, drop-append-le, drop-set-add, length-drop, length-take-le}
use Rattle.wb_machine.specs.LocalValues.{Frames, unframed}
use Rattle.wb_meaning.specs.State.{Value}
use Rattle.wb_machine.specs.RunState.{Values}
use Rattle.std.proofs.Math.Seq.{take-suc, take-append_seam, drop-append_seam}

-- one more element of a list that is gone through
pub one_more : {Y A : Type 0} (g : A → Y) (new old : List Y) (y : Y) (vs : List Y) (zs : List A) (i : ℕ) (a : A) →
    new ≡ old ++ y ∷ [] → old ≡ vs ++ map g (take i zs) → y ≡ g (get_or zs i a) → i < length zs → new ≡ vs ++ map g (take (i + 1) zs)
one_more g new old y vs zs i a is done this within =
    let next : i + 1 ≡ suc i = omega arith in
    is ∙ ap (λ ys. ys ++ y ∷ []) done ∙ append_assoc vs (map g (take i zs)) (y ∷ [])
    ∙ ap (λ y. vs ++ (map g (take i zs) ++ y ∷ [])) this
    ∙ ap (λ ys. vs ++ ys) (sym (map-append g (take i zs) (get_or zs i a ∷ [])))
    ∙ ap (λ ys. vs ++ map g ys) (sym (ap (λ k. take k zs) next ∙ take-suc zs i a within))

-- what is above a frame doesn't change it
pub frame_below : {X Y : Type 0} (f : X → Y) (items : List X) (vs more : List Y) (base end : ℕ) →
    map f items ≡ vs ++ more → length vs ≡ end → base ≤ end → map f (slice_range items base end) ≡ drop base vs
frame_below f items vs more base end is long within =
    sym (take-map f (end - base) (drop base items)) ∙ ap (take (end - base)) (sym (drop-map f base items) ∙ ap (drop base) is ∙ drop-append-le base vs more (omega (arith, long, within)))
    ∙ ap (λ n. take n (drop base vs ++ more)) (sym (length-drop base vs ∙ ap (λ n. n - base) long))
    ∙ take-append_seam (drop base vs) more

-- a frame on top of the others
abbrev pub above_all : Frames → Values → Frames
above_all was locals = record { callers = was.callers ++ was.locals; locals = locals }

pub frame_added : (old new given declared : Values) (base top : ℕ) (was : Frames) →
    record { callers = take base old; locals = drop base old } ≡ was → top ≡ length old → new ≡ (old ++ given) ++ declared →
    ◌≡◌ {A = Frames} (record { callers = take top new; locals = drop top new }) (above_all was (given ++ declared))
frame_added old new given declared base top was is long made =
    let above = given ++ declared in
    ap (λ (xs : Values). record { callers = take top xs; locals = drop top xs }) (made ∙ append_assoc old given declared)
    ∙ ap (λ n. record { callers = take n (old ++ above); locals = drop n (old ++ above) }) long
    ∙ ap (λ (xs : Values). record { callers = xs; locals = drop (length old) (old ++ above) }) (take-append_seam old above)
    ∙ ap (λ (xs : Values). record { callers = old; locals = xs }) (drop-append_seam old above)
    ∙ ap (λ (xs : Values). record { callers = xs; locals = above }) (sym (take-append-drop base old))
    ∙ ap (λ (w : Frames). above_all w above) is

-- the innermost frame is cut off; the one below begins no later
pub cut_off : (old new : Values) (end base next : ℕ) (was : Frames) →
    record { callers = take end old; locals = drop end old } ≡ was → end ≤ length old → new ≡ take end old → next ≡ min base end →
    record { callers = take next new; locals = drop next new } ≡ unframed was base
cut_off old new end base next was is within kept begins =
    let long : length (take end old) ≡ end = length-take-le end old (omega (arith, within)) in
    let at : next ≡ min base (length (take end old)) = begins ∙ ap (min base) (sym long) in
    ap (λ (xs : Values). record { callers = take next xs; locals = drop next xs }) kept
    ∙ ap (λ n. record { callers = take n (take end old); locals = drop n (take end old) }) at
    ∙ ap (λ (xs : Values). record { callers = xs; locals = drop (min base (length (take end old))) (take end old) }) (take_min base (take end old))
    ∙ ap (λ (xs : Values). record { callers = take base (take end old); locals = xs }) (drop_min base (take end old))
    ∙ ap (λ (w : Frames). unframed w base) is

-- a local of the innermost frame gets a value
pub local_set : (old new : Values) (base i : ℕ) (v : Value) (was : Frames) →
    record { callers = take base old; locals = drop base old } ≡ was → new ≡ set old (base + i) v →
    record { callers = take base new; locals = drop base new } ≡ record was { locals = set was.locals i v }
local_set old new base i v was is same =
    ap (λ (xs : Values). record { callers = take base xs; locals = drop base xs }) same
    ∙ ap (λ (xs : Values). record { callers = xs; locals = drop base (set old (base + i) v) }) (take-set-le base old (base + i) v (omega arith))
    ∙ ap (λ (xs : Values). record { callers = take base old; locals = xs }) (drop-set-add base old i v)
    ∙ ap (λ (w : Frames). record w { locals = set w.locals i v }) is

-- the locals of the innermost frame
pub frame_is : {X : Type 0} (f : X → Value) (items seen : List X) (base : ℕ) (was : Frames) → record { callers = take base (map f items); locals = drop base (map f items) } ≡ was →
    seen ≡ items → map f (take (length seen - base) (drop base seen)) ≡ was.locals
frame_is f items seen base was is same =
    ap (map f) (take_rest seen base) ∙ ap (λ xs. map f (drop base xs)) same ∙ sym (drop-map f base items) ∙ ap (λ (w : Frames). w.locals) is
