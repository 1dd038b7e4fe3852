-- What each call leaves of the heap's fields, and what that tells callers.
use Rattle.std.proofs.Common.{◌≡◌, ◌⊎◌, inl, inr, ℕ, suc, ◌+◌, ◌%◌, ◌≤◌, ◌<◌, ◌^◌, ◌++◌, max, Result, Ok, Err, IsErr, IsOkAnd, IfOk, OnErr, OnOk, All, List, [], ◌∷◌, length, length-append, Option, Some, None, is_some, IfSome, option_map, find, Bool, true, false, cond, refl, sym, ap, subst, ◌∙◌, arith}
use Rattle.std.specs.Prelude.{nat_lt}
use Rattle.std.proofs.lemmas.List.Elements.{All-cons, All-nil}
use Rattle.wb_heap_model.specs.declared.heap.Header.{Header}
use Rattle.wb_heap_model.specs.declared.heap.Kind.{Kind}
use Rattle.wb_heap_model.specs.declared.heap.Ptr.{Ptr}
use Rattle.wb_heap_model.specs.declared.heap.Answer.TheVariants.{Simulated, Refused}
use Rattle.wb_heap_model.specs.declared.heap.Attempt.{Attempt}
use Rattle.wb_heap_model.specs.declared.heap.Shape.{Shape}
use Rattle.wb_heap_model.specs.declared.size.Rise.{Rise}
use Rattle.wb_heap_model.specs.Debug.{Debug, IsLiveIn, IsSoundDebug}
use Rattle.wb_heap_model.specs.LimitedHeap.{LimitedHeap, IsSoundHeap, space_in, place_in, fresh_cell, heap_with, heap_without, heap_changed, heap_compressed}
use Rattle.wb_heap_model.specs.Rises.{end_of_line, granted_end, rise_of, rises_with, top_of_rises, trace_with}
use Rattle.wb_heap_model.specs.Row.{Cell, IsSpacedFrom, headers, end_of, inserted, is_at, cell_at, without}
use Rattle.wb_heap_model.specs.Space.{bound_below, space_below}
use Rattle.wb_heap_model.proofs.KeptRises.{last-rise}
use Rattle.wb_heap_model.proofs.LimitedHeaps.{top_of-committed, All-heap_with, All-heap_without}
use Rattle.wb_heap_model.proofs.Rows.{headers-changed, head-cell_at}
use Rattle.wb_debug.specs.declared.debug_heap.DebugHeap.TheInside.{Inside}
use Rattle.wb_debug.specs.declared.setting.Setting.{Setting}
use Rattle.wb_debug.specs.Debug.{debug_of, IsStepped, IsKept}
use Rattle.wb_debug.specs.Log.{Log, logged, top_in}
use Rattle.wb_debug.specs.Tally.{Tally, IsMore, IsTally}
use Rattle.wb_rheap.proofs.Growing.{cell-of, whole-cell}
use Rattle.wb_debug.proofs.Room.{HasRoom, held-stepped, inserted-has, same-room}
use Rattle.wb_debug.proofs.Counting.{row-within}
use Rattle.wb_debug.proofs.Tallies.{inserted-more, number-within, without-less}
use Rattle.wb_debug.specs.Levels.{is_counted}
use Rattle.wb_debug.specs.declared.checks.Levels.TheVariants as levels

-- each cell of a row
record IsSpaced (h : Header) : Type 0 where
  placed : h.place % 16 ≡ 0
  aligned : h.length % 16 ≡ 0
  least : 16 ≤ h.length
  numbered : 1 ≤ h.number

All-spaced : (hs : List Header) (at : ℕ) → IsSpacedFrom at hs → All IsSpaced hs
All-spaced [] at s = All-nil _
All-spaced (h ∷ hs) at s =
    All-cons IsSpaced h hs (record { placed = s.1; aligned = s.2; least = s.3; numbered = s.4 }) (All-spaced hs (end_of h) s.5)

pub kept-sound : (inside : Inside) → IsKept inside → IsSoundDebug (debug_of inside)
kept-sound inside kept = record {
  row = kept.sound.row;
  filled = kept.sound.filled;
  live = λ k h lt. record {
    placed = (All-spaced (headers inside.heap.row) 0 kept.sound.row.spaced k h lt).placed;
    aligned = (All-spaced (headers inside.heap.row) 0 kept.sound.row.spaced k h lt).aligned;
    least = (All-spaced (headers inside.heap.row) 0 kept.sound.row.spaced k h lt).least;
    numbered = (All-spaced (headers inside.heap.row) 0 kept.sound.row.spaced k h lt).numbered;
    counted = kept.numbered k h lt;
    within = omega (arith, kept.sound.within k h lt, kept.sound.bound, kept.limit);
  };
  attempts = kept.counted;
  untraced = kept.untraced;
  shape = kept.sound.shape;
  placed = refl;
}

-- what a look-up finds
find-All : (P : Header → Type 0) (test : Header → Bool) (hs : List Header) → All P hs → IfSome (find test hs) P
find-All P test [] all = tt
find-All P test (h ∷ hs) all = by (test h) (find-All P test hs (λ k x lt. all (suc k) x (omega arith)))
  where
    by : (b : Bool) → IfSome (find test hs) P → IfSome (cond b (Some h) (find test hs)) P
    by true rest = all 0 h (omega arith)
    by false rest = rest

pub cell-live : (inside : Inside) (d : Debug) (p : Ptr) → debug_of inside ≡ d → IsKept inside → IfSome (option_map (λ c. c.head) (cell_at p d.heap.row)) (IsLiveIn d)
cell-live inside d p is kept =
    subst (λ (x : Debug). IfSome (option_map (λ c. c.head) (cell_at p x.heap.row)) (IsLiveIn x)) is
    (subst (λ o. IfSome o (IsLiveIn (debug_of inside))) (sym (head-cell_at p inside.heap.row))
    (find-All (IsLiveIn (debug_of inside)) (is_at p) (headers inside.heap.row) (kept-sound inside kept).live))

-- other cells or another committed length, of the same memory
pub heap-kept : (inside : Inside) (row : List (Cell (List ℕ))) (committed : ℕ) (tally : Tally) → All (λ h. h.number ≤ inside.attempts) (headers row) →
    IsTally tally (headers row) →
    let heap : LimitedHeap = record inside.heap { row = row; committed = committed } in
    IsSoundHeap heap → IsKept inside → IsKept (record inside { heap = heap; tally = tally })
heap-kept inside row committed tally numbered tallied sound kept = record {
  sound = sound;
  limit = kept.limit;
  numbered = numbered;
  counted = kept.counted;
  untraced = kept.untraced;
  stepped = kept.stepped;
  reached = kept.reached;
  tallied = tallied;
}

-- the same of a heap that is equal to that
pub row-kept : (inside : Inside) (heap : LimitedHeap) (row : List (Cell (List ℕ))) (committed : ℕ) (tally : Tally) →
    heap ≡ record inside.heap { row = row; committed = committed } → All (λ h. h.number ≤ inside.attempts) (headers row) → IsTally tally (headers row) →
    IsSoundHeap heap → IsKept inside → IsKept (record inside { heap = heap; tally = tally })
row-kept inside heap row committed tally is numbered tallied sound kept =
    subst (λ (h : LimitedHeap). IsKept (record inside { heap = h; tally = tally })) (sym is)
    (heap-kept inside row committed tally numbered tallied (subst IsSoundHeap is sound) kept)

-- another payload
pub changed-kept : (inside : Inside) (heap : LimitedHeap) (p : Ptr) (words : List ℕ) → heap ≡ heap_changed inside.heap p words → IsSoundHeap heap → IsKept inside →
    IsKept (record inside { heap = heap })
changed-kept inside heap p words is sound kept =
    let same = sym (headers-changed p (λ _. words) inside.heap.row) in
    row-kept inside heap _ inside.heap.committed inside.tally is
    (subst (All (λ g. g.number ≤ inside.attempts)) same kept.numbered) (subst (IsTally inside.tally) same kept.tallied) sound kept

-- a release
pub released-kept : (inside : Inside) (heap : LimitedHeap) (p : Ptr) (h : Header) (tally : Tally) → option_map (λ c. c.head) (cell_at p inside.heap.row) ≡ Some h →
    heap ≡ heap_without inside.heap p → IsSoundHeap heap →
    ((row less : List Header) → IsMore less row h → IsTally inside.tally row → IsTally tally less) → IsKept inside → IsKept (record inside { heap = heap; tally = tally })
released-kept inside heap p h tally e is sound fewer kept =
    row-kept inside heap _ inside.heap.committed tally is (All-heap_without (λ g. g.number ≤ inside.attempts) inside.heap p kept.numbered)
    (fewer (headers inside.heap.row) (headers (without p inside.heap.row))
    (without-less p inside.heap.row (cell-of p inside.heap.row h) kept.sound.row.numbered (whole-cell p inside.heap.row h e)) kept.tallied) sound kept

-- the heap as it was
pub same-kept : (inside : Inside) (heap : LimitedHeap) → heap ≡ inside.heap → IsKept inside → IsKept (record inside { heap = heap })
same-kept inside heap is kept = subst (λ (h : LimitedHeap). IsKept (record inside { heap = h })) (sym is) kept

-- another level or setting, and a heap and what is kept of the attempts as they were
pub set-kept : (inside : Inside) (heap : LimitedHeap) (level : ℕ) (setting : Setting) (log : Log) → heap ≡ inside.heap → log ≡ inside.log → IsKept inside →
    IsKept (record inside { heap = heap; level = level; setting = setting; log = log })
set-kept inside heap level setting log is same kept =
    subst (λ (h : LimitedHeap). IsKept (record inside { heap = h; level = level; setting = setting; log = log })) (sym is)
    (subst (λ (l : Log). IsKept (record inside { level = level; setting = setting; log = l })) (sym same)
    (record {
      sound = kept.sound;
      limit = kept.limit;
      numbered = kept.numbered;
      counted = kept.counted;
      untraced = kept.untraced;
      stepped = kept.stepped;
      reached = kept.reached;
      tallied = kept.tallied;
    }))

-- one more attempt has its line
lines_counted : (log : Log) (line : Attempt) (attempts : ℕ) → (is_some log.rises ≡ false → attempts ≡ length log.trace) → is_some (logged log line).rises ≡ false →
    attempts + 1 ≡ length (logged log line).trace
lines_counted log line attempts = by log.rises
  where
    by : (o : Option (List Rise)) → (is_some o ≡ false → attempts ≡ length log.trace) → is_some (rises_with o line) ≡ false → attempts + 1 ≡ length (trace_with o log.trace line)
    by None counted none = ap (λ n. n + 1) (counted refl) ∙ sym (length-append log.trace (line ∷ []))
    by (Some rs) counted none = cc

-- or none, where the rises are kept
no_lines : (log : Log) (line : Attempt) → (is_some log.rises ≡ true → log.trace ≡ []) → is_some (logged log line).rises ≡ true → (logged log line).trace ≡ []
no_lines log line = by log.rises
  where
    by : (o : Option (List Rise)) → (is_some o ≡ true → log.trace ≡ []) → is_some (rises_with o line) ≡ true → trace_with o log.trace line ≡ []
    by None untraced some = cc
    by (Some rs) untraced some = untraced refl

-- the last rise is the one before, or ends where this attempt does
top_after : (o : Option (List Rise)) (line : Attempt) → top_in (rises_with o line) ≤ max (top_in o) (end_of_line line)
top_after None line = omega arith
top_after (Some rs) line = by (nat_lt (top_of_rises rs) (end_of_line line)) refl
  where
    by : (b : Bool) → nat_lt (top_of_rises rs) (end_of_line line) ≡ b → top_of_rises (cond b (rs ++ rise_of line ∷ []) rs) ≤ max (top_of_rises rs) (end_of_line line)
    by true e = omega (arith, last-rise 0 rs (rise_of line))
    by false e = omega arith

-- an attempt that was counted
pub counted-kept : (inside : Inside) (heap : LimitedHeap) (setting : Setting) (log : Log) (tally : Tally) (line : Attempt) →
    HasRoom inside.heap heap (end_of_line line) → All (λ h. h.number ≤ inside.attempts + 1) (headers heap.row) → IsTally tally (headers heap.row) → IsSoundHeap heap →
    log ≡ logged inside.log line → line.number ≡ inside.attempts + 1 →
    IsKept inside → IsKept (record inside { heap = heap; setting = setting; attempts = line.number; log = log; tally = tally })
counted-kept inside heap setting log tally line room numbered tallied sound more next kept =
    subst (λ (l : Log). IsKept (record inside { heap = heap; setting = setting; attempts = line.number; log = l; tally = tally })) (sym more) (record {
      sound = sound;
      limit = room.limit ∙ kept.limit;
      numbered = λ k h lt. omega (arith, numbered k h lt, next);
      counted = λ none. next ∙ lines_counted inside.log line inside.attempts kept.counted none;
      untraced = no_lines inside.log line kept.untraced;
      stepped = subst (λ (s : Shape). IsStepped (space_below (bound_below heap.limit) s) heap.held) (sym room.shape)
          (subst (λ l. IsStepped (space_below (bound_below l) inside.heap.shape) heap.held) (sym room.limit) room.stepped);
      reached = omega (arith, top_after inside.log.rises line, kept.reached, room.more, room.reaches);
      tallied = tallied;
    })

-- one that was granted
pub granted-kept : (inside : Inside) (heap : LimitedHeap) (setting : Setting) (log : Log) (tally : Tally) (line : Attempt) (place bytes : ℕ) (kind : Kind) (level : ℕ) →
    heap ≡ heap_with inside.heap bytes kind line.number level → line.number ≡ inside.attempts + 1 → place ≡ place_in inside.heap bytes → end_of_line line ≡ place + bytes →
    IsSoundHeap heap → log ≡ logged inside.log line →
    ((row more : List Header) → IsMore row more (record { place = place; length = bytes; kind = kind; level = level; number = line.number }) → IsTally inside.tally row →
    IsTally tally more) →
    IsKept inside → IsKept (record inside { heap = heap; setting = setting; attempts = line.number; log = log; tally = tally })
granted-kept inside heap setting log tally line place bytes kind level is next at ends sound more counts kept =
    let end : end_of_line line ≡ place_in inside.heap bytes + bytes = ends ∙ ap (λ p. p + bytes) at in
    let old = inside.heap in
    let new : LimitedHeap = heap_with old bytes kind line.number level in
    let sound' : IsSoundHeap new = subst IsSoundHeap is sound in
    let covered : place_in old bytes + bytes ≤ new.committed =
    inserted-has (λ h. end_of h ≤ new.committed) (fresh_cell (place_in old bytes) bytes kind line.number level) old.row sound'.within in
    let room : HasRoom old new (end_of_line line) = record {
      limit = refl;
      shape = refl;
      stepped = held-stepped (space_in old) old.held old.committed (place_in old bytes + bytes) kept.stepped kept.sound.covered;
      more = omega arith;
      reaches = omega (arith, end, covered, sound'.covered);
    } in
    let row : heap.row ≡ inserted (fresh_cell place bytes kind line.number level) old.row =
    ap (λ (h : LimitedHeap). h.row) is ∙ ap (λ p. inserted (fresh_cell p bytes kind line.number level) old.row) (sym at) in
    let tallied : IsTally tally (headers heap.row) =
    counts (headers old.row) (headers heap.row)
    (subst (λ r. IsMore (headers old.row) (headers r) (fresh_cell place bytes kind line.number level).head) (sym row)
    (inserted-more (fresh_cell place bytes kind line.number level) old.row)) kept.tallied in
    counted-kept inside heap setting log tally line (subst (λ (h : LimitedHeap). HasRoom old h (end_of_line line)) (sym is) room)
    (subst (λ (h : LimitedHeap). All (λ g. g.number ≤ inside.attempts + 1) (headers h.row)) (sym is)
    (All-heap_with (λ g. g.number ≤ inside.attempts + 1) old bytes kind line.number level (omega (arith, next)) (λ k h lt. omega (arith, kept.numbered k h lt))))
    tallied sound more next kept

-- what isn't granted ends nowhere
pub no-end : (line : Attempt) → (line.answer ≡ Simulated) ⊎ (line.answer ≡ Refused) → end_of_line line ≡ 0
no-end line (inl e) = ap (granted_end line) e
no-end line (inr e) = ap (granted_end line) e

-- one that was refused
pub refused-kept : (inside : Inside) (setting : Setting) (log : Log) (line : Attempt) → log ≡ logged inside.log line →
    line.number ≡ inside.attempts + 1 → (line.answer ≡ Simulated) ⊎ (line.answer ≡ Refused) → IsKept inside →
    IsKept (record inside { setting = setting; attempts = line.number; log = log })
refused-kept inside setting log line more next denied kept =
    counted-kept inside inside.heap setting log inside.tally line
    (subst (HasRoom inside.heap inside.heap) (sym (no-end line denied)) (same-room inside.heap kept.stepped))
    (λ k h lt. omega (arith, kept.numbered k h lt)) kept.tallied kept.sound more next kept

-- what a result says beside its value
pub on-ok : {T E : Type 0} (r : Result T E) (P : T → Type 0) (Q : Type 0) → IsOkAnd r P → OnOk r Q → Q
on-ok (Ok x) P Q given q = q
on-ok (Err e) P Q given q = absurd given

pub ok-value : {T E : Type 0} (r : Result T E) (P Q : T → Type 0) → IsOkAnd r P → IfOk r Q → (x : T) × P x × Q x
ok-value (Ok x) P Q given q = (x, given, q)
ok-value (Err e) P Q given q = absurd given

-- and where it is an error
pub on-err : {T E : Type 0} (r : Result T E) (Q : Type 0) → IsErr r → OnErr r Q → Q
on-err (Ok x) Q given q = cc
on-err (Err e) Q given q = q

-- a compression
pub compressed-kept : (inside : Inside) (heap : LimitedHeap) → heap ≡ heap_compressed inside.heap → IsSoundHeap heap → IsKept inside → IsKept (record inside { heap = heap })
compressed-kept inside heap is sound kept = row-kept inside heap inside.heap.row _ inside.tally is kept.numbered kept.tallied sound kept

-- there are fewer cells than a word counts
pub tally-room : (inside : Inside) → IsKept inside → inside.tally.total + 1 < 2 ^ 32
tally-room inside kept =
    omega (
      arith,
      kept.tallied.total,
      number-within (is_counted levels.All) (headers inside.heap.row),
      row-within (headers inside.heap.row) 0 kept.sound.row.spaced,
      top_of-committed inside.heap kept.sound,
      kept.sound.bound,
      kept.sound.limit,
    )
