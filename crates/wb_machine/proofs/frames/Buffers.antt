-- Buffers in a list of their own, whose indexes ascend with the slots.
use Rattle.std.proofs.Common.{◌≡◌, ◌≢◌, ℕ, zero, suc, ◌+◌, ◌-◌, ◌<◌, ◌≤◌, List, [], ◌∷◌, ◌++◌, take, drop, length, get_or, refl, ap, ◌∙◌, subst, sym, arith}
use Rattle.std.specs.Prelude.{pos, slice_set as set}
use Rattle.std.proofs.Math.ListN.{get_or-append, get_or-map}
use Rattle.std.proofs.Math.Seq.{get_or-append_seam}
use Rattle.std.proofs.lemmas.List.{map-append, take-map, take_rest, nil_from_length, get_or-take, get_or-drop, get_or-set_same, get_or-set_other}
use Rattle.std.proofs.lemmas.Option.{unwrap_or-slice_get}
use Rattle.wb_heap_model.specs.Texts.{Buffer}
use Rattle.wb_meaning.specs.State.{number, buffer}
use Rattle.wb_meaning.specs.Reading.{max_in}
use Rattle.wb_machine.specs.RunState.{Values, value_in}
use Rattle.wb_machine.specs.declared.locals.Slot.{Slot}
use Rattle.wb_machine.specs.declared.locals.Slot.TheVariants as S
use Rattle.wb_machine.specs.declared.locals.BufferIndex.{BufferIndex}
use Rattle.wb_machine.specs.declared.locals.Stored.{Stored}
use Rattle.wb_machine.specs.declared.locals.Stored.TheVariants as T
use Rattle.wb_machine.specs.LocalValues.{Frames, buffer_in, value_of, value_of_buffer, no_buffer, value_stored, values_stored, stored_at, AreAscending, first_buffer}

-- bounds further apart
pub wider : (low low' end end' : ℕ) (xs : List Stored) → low' ≤ low → end ≤ end' → AreAscending low end xs → AreAscending low' end' xs
wider low low' end end' [] below above h = omega (arith, below, above, h)
wider low low' end end' (T.Small s ∷ xs) below above h = wider low low' end end' xs below above h
wider low low' end end' (T.Buffer b ∷ xs) below above h = (omega (arith, below, h.0), wider (suc b.at) (suc b.at) end end' xs (omega arith) above h.1)

pub ordered : (low end : ℕ) (xs : List Stored) → AreAscending low end xs → low ≤ end
ordered low end [] h = h
ordered low end (T.Small s ∷ xs) h = ordered low end xs h
ordered low end (T.Buffer b ∷ xs) h = omega (arith, h.0, ordered (suc b.at) end xs h.1)

pub first_not_below : (low end : ℕ) (xs : List Stored) → AreAscending low end xs → low ≤ first_buffer end xs
first_not_below low end [] h = h
first_not_below low end (T.Small s ∷ xs) h = first_not_below low end xs h
first_not_below low end (T.Buffer b ∷ xs) h = h.0

pub first_not_past : (low end : ℕ) (xs : List Stored) → AreAscending low end xs → first_buffer end xs ≤ end
first_not_past low end [] h = omega arith
first_not_past low end (T.Small s ∷ xs) h = first_not_past low end xs h
first_not_past low end (T.Buffer b ∷ xs) h = omega (arith, ordered (suc b.at) end xs h.1)

-- the slots below a frame have the buffers below its first one
pub below_frame : (low end k : ℕ) (xs : List Stored) → AreAscending low end xs → AreAscending low (first_buffer end (drop k xs)) (take k xs)
below_frame low end zero xs h = first_not_below low end xs h
below_frame low end (suc k) [] h = h
below_frame low end (suc k) (T.Small s ∷ xs) h = below_frame low end k xs h
below_frame low end (suc k) (T.Buffer b ∷ xs) h = (h.0, below_frame (suc b.at) end k xs h.1)

-- a frame's first buffer is none past the end
pub first_of_frame : (low end k : ℕ) (xs : List Stored) → AreAscending low end xs → first_buffer end (drop k xs) ≤ end
first_of_frame low end zero xs h = first_not_past low end xs h
first_of_frame low end (suc k) [] h = omega arith
first_of_frame low end (suc k) (T.Small s ∷ xs) h = first_of_frame low end k xs h
first_of_frame low end (suc k) (T.Buffer b ∷ xs) h = first_of_frame (suc b.at) end k xs h.1

pub small_after : (low end : ℕ) (xs : List Stored) (s : Slot) → AreAscending low end xs → AreAscending low end (xs ++ T.Small s ∷ [])
small_after low end [] s h = h
small_after low end (T.Small r ∷ xs) s h = small_after low end xs s h
small_after low end (T.Buffer b ∷ xs) s h = (h.0, small_after (suc b.at) end xs s h.1)

pub buffer_after : (low end : ℕ) (xs : List Stored) → AreAscending low end xs → AreAscending low (suc end) (xs ++ T.Buffer (record { at = end }) ∷ [])
buffer_after low end [] h = (h, omega arith)
buffer_after low end (T.Small r ∷ xs) h = buffer_after low end xs h
buffer_after low end (T.Buffer b ∷ xs) h = (h.0, buffer_after (suc b.at) end xs h.1)

pub buffer_pushed : (xs ys : List Stored) (end at next : ℕ) → at ≡ end → next ≡ end + 1 → ys ≡ xs ++ T.Buffer (record { at = at }) ∷ [] → AreAscending 0 end xs → AreAscending 0 next ys
buffer_pushed xs ys end at next here more following h =
    subst (λ (l : List Stored). AreAscending 0 next l) (sym following)
    (wider 0 0 (suc at) next (xs ++ T.Buffer (record { at = at }) ∷ []) (omega arith) (omega (arith, here, more)) (buffer_after 0 at xs (wider 0 0 end at xs (omega arith) (omega (arith, here)) h)))

pub small_set : (low end k : ℕ) (xs : List Stored) (s : Slot) → AreAscending low end xs → AreAscending low end (set xs k (T.Small s))
small_set low end k [] s h = h
small_set low end zero (T.Small r ∷ xs) s h = h
small_set low end zero (T.Buffer b ∷ xs) s h = wider (suc b.at) low end end xs (omega (arith, h.0)) (omega arith) h.1
small_set low end (suc k) (T.Small r ∷ xs) s h = small_set low end k xs s h
small_set low end (suc k) (T.Buffer b ∷ xs) s h = (h.0, small_set (suc b.at) end k xs s h.1)

-- other buffers that are the same where the slots have theirs
pub same_values : (bs cs : List Buffer) (low end : ℕ) (xs : List Stored) → ((i : ℕ) → low ≤ i → i < end → get_or bs i no_buffer ≡ get_or cs i no_buffer) →
    AreAscending low end xs → values_stored bs xs ≡ values_stored cs xs
same_values bs cs low end [] same h = refl
same_values bs cs low end (T.Small s ∷ xs) same h = ap (λ (vs : Values). value_of s ∷ vs) (same_values bs cs low end xs same h)
same_values bs cs low end (T.Buffer b ∷ xs) same h =
    let more = same_values bs cs (suc b.at) end xs (λ i from to. same i (omega (arith, from, h.0)) to) h.1 in
    ap (λ (x : Buffer). value_of_buffer x ∷ values_stored bs xs) (same b.at h.0 (ordered (suc b.at) end xs h.1))
    ∙ ap (λ (vs : Values). value_of_buffer (get_or cs b.at no_buffer) ∷ vs) more

pub not_below : (low end k : ℕ) (xs : List Stored) (i : BufferIndex) → AreAscending low end xs → stored_at xs k ≡ T.Buffer i → low ≤ i.at
not_below low end k [] i h is = cc is
not_below low end zero (T.Small s ∷ xs) i h is = cc is
not_below low end (suc k) (T.Small s ∷ xs) i h is = not_below low end k xs i h is
not_below low end zero (T.Buffer b ∷ xs) i h is =
    let same : b ≡ i = cc is in
    omega (arith, h.0, ap (λ (x : BufferIndex). x.at) same)
not_below low end (suc k) (T.Buffer b ∷ xs) i h is = omega (arith, h.0, not_below (suc b.at) end k xs i h.1 is)

pub not_past : (low end k : ℕ) (xs : List Stored) (i : BufferIndex) → AreAscending low end xs → stored_at xs k ≡ T.Buffer i → i.at < end
not_past low end k [] i h is = cc is
not_past low end zero (T.Small s ∷ xs) i h is = cc is
not_past low end (suc k) (T.Small s ∷ xs) i h is = not_past low end k xs i h is
not_past low end zero (T.Buffer b ∷ xs) i h is =
    let same : b ≡ i = cc is in
    omega (arith, ordered (suc b.at) end xs h.1, ap (λ (x : BufferIndex). x.at) same)
not_past low end (suc k) (T.Buffer b ∷ xs) i h is = not_past (suc b.at) end k xs i h.1 is

-- a new buffer after the others, for a new slot after the others
pub buffer_declared : (bs cs : List Buffer) (b : Buffer) (xs ys : List Stored) (end : ℕ) → end ≡ length bs → cs ≡ bs ++ b ∷ [] → ys ≡ xs ++ T.Buffer (record { at = end }) ∷ [] →
    AreAscending 0 end xs → values_stored cs ys ≡ values_stored bs xs ++ value_of_buffer b ∷ []
buffer_declared bs cs b xs ys end long new following h =
    ap (values_stored cs) following
    ∙ map-append (value_stored cs) xs (T.Buffer (record { at = end }) ∷ [])
    ∙ ap (λ (vs : Values). vs ++ value_of_buffer (get_or cs end no_buffer) ∷ []) (same_values cs bs 0 end xs (λ i from to. ap (λ (l : List Buffer). get_or l i no_buffer) new ∙ get_or-append bs (b ∷ []) no_buffer i (omega (arith, to, long))) h)
    ∙ ap (λ (x : Buffer). values_stored bs xs ++ value_of_buffer x ∷ [])
    (ap (λ (l : List Buffer). get_or l end no_buffer) new ∙ ap (λ n. get_or (bs ++ b ∷ []) n no_buffer) long ∙ get_or-append_seam bs b [] no_buffer)

small_is_none : {s : Slot} {i : BufferIndex} → T.Small s ≢ T.Buffer i
small_is_none is = cc is

-- a buffer that changes is that of one local alone
pub buffer_changed : (bs : List Buffer) (b : Buffer) (low end k : ℕ) (xs : List Stored) (i : BufferIndex) → end ≤ length bs → AreAscending low end xs → stored_at xs k ≡ T.Buffer i →
    values_stored (set bs i.at b) xs ≡ set (values_stored bs xs) k (value_of_buffer b)
buffer_changed bs b low end k [] i long h is = refl
buffer_changed bs b low end zero (T.Small s ∷ xs) i long h is = absurd (small_is_none is)
buffer_changed bs b low end (suc k) (T.Small s ∷ xs) i long h is = ap (λ (vs : Values). value_of s ∷ vs) (buffer_changed bs b low end k xs i long h is)
buffer_changed bs b low end zero (T.Buffer j ∷ xs) i long h is =
    let same : j ≡ i = cc is in
    let at : j.at ≡ i.at = ap (λ (x : BufferIndex). x.at) same in
    let there : j.at < end = ordered (suc j.at) end xs h.1 in
    ap (λ (x : Buffer). value_of_buffer x ∷ values_stored (set bs i.at b) xs)
    (ap (λ n. get_or (set bs i.at b) n no_buffer) at ∙ get_or-set_same bs i.at b no_buffer (omega (arith, long, there, at)))
    ∙ ap (λ (vs : Values). value_of_buffer b ∷ vs)
    (same_values (set bs i.at b) bs (suc j.at) end xs (λ n from to. get_or-set_other bs i.at n b no_buffer (λ (e : n ≡ i.at). omega (arith, e, from, at))) h.1)
buffer_changed bs b low end (suc k) (T.Buffer j ∷ xs) i long h is =
    let above : suc j.at ≤ i.at = not_below (suc j.at) end k xs i h.1 is in
    ap (λ (x : Buffer). value_of_buffer x ∷ values_stored (set bs i.at b) xs) (get_or-set_other bs i.at j.at b no_buffer (λ (e : j.at ≡ i.at). omega (arith, e, above)))
    ∙ ap (λ (vs : Values). value_of_buffer (get_or bs j.at no_buffer) ∷ vs) (buffer_changed bs b (suc j.at) end k xs i long h.1 is)

-- where a frame's buffers begin
pub frame_begins : (xs seen : List Stored) (base end len first : ℕ) → first ≡ first_buffer len (take (length seen - base) (drop base seen)) → seen ≡ xs → len ≡ end →
    first ≡ first_buffer end (drop base xs)
frame_begins xs seen base end len first is same long =
    is ∙ ap (first_buffer len) (take_rest seen base ∙ ap (drop base) same) ∙ ap (λ n. first_buffer n (drop base xs)) long

-- and so do those below a frame
pub frame_ascends : (xs ys : List Stored) (end k next : ℕ) → AreAscending 0 end xs → ys ≡ take k xs → next ≡ first_buffer end (drop k xs) → AreAscending 0 next ys
frame_ascends xs ys end k next h left first =
    subst (λ n. AreAscending 0 n ys) (sym first) (subst (λ (l : List Stored). AreAscending 0 (first_buffer end (drop k xs)) l) (sym left) (below_frame 0 end k xs h))

-- the values below a frame, once its buffers are dropped
pub frame_dropped : (bs cs : List Buffer) (xs ys : List Stored) (end k : ℕ) → AreAscending 0 end xs → cs ≡ take (first_buffer end (drop k xs)) bs → ys ≡ take k xs →
    values_stored cs ys ≡ take k (values_stored bs xs)
frame_dropped bs cs xs ys end k h dropped left =
    let first = first_buffer end (drop k xs) in
    ap (values_stored cs) left
    ∙ same_values cs bs 0 first (take k xs) (λ i from to. ap (λ (l : List Buffer). get_or l i no_buffer) dropped ∙ get_or-take first bs i no_buffer to) (below_frame 0 end k xs h)
    ∙ sym (take-map (value_stored bs) k xs)

-- a local of the innermost frame, by what is stored
pub read_stored : (bs : List Buffer) (xs : List Stored) (base i : ℕ) (was : Frames) →
    record { callers = take base (values_stored bs xs); locals = drop base (values_stored bs xs) } ≡ was → value_in was.locals i ≡ value_stored bs (stored_at xs (base + i))
read_stored bs xs base i was is =
    let none = number (pos 0) in
    ap (λ (w : Frames). value_in w.locals i) (sym is)
    ∙ unwrap_or-slice_get (drop base (values_stored bs xs)) i none
    ∙ get_or-drop base (values_stored bs xs) i none
    ∙ get_or-map (value_stored bs) xs (base + i) (T.Small (S.Number (pos 0)))

-- a value that isn't a buffer of its own reads as an empty one of maximum 0
pub small_reads : (s : Slot) → buffer_in (value_of s) ≡ no_buffer
small_reads (S.Pointer p) = refl
small_reads (S.Number z) = refl
small_reads (S.View v) = refl
small_reads S.NoBuffer = refl

pub no_units : (b : Buffer) → length b.units ≤ b.max → b.max ≡ 0 → value_of S.NoBuffer ≡ value_of_buffer b
no_units b fits none =
    ap (λ (us : List ℕ). buffer 0 us) (sym (nil_from_length b.units (omega (arith, fits, none)))) ∙ ap (λ max. buffer max b.units) (sym none)

-- the maximum of a local is that of the buffer in it
pub max_reads : (s : Slot) → max_in (value_of s) ≡ 0
max_reads (S.Pointer p) = refl
max_reads (S.Number z) = refl
max_reads (S.View v) = refl
max_reads S.NoBuffer = refl
