-- A reallocation to a longer cell, from what was asked of the heap, comes to what the definitions make of it.
use Rattle.std.proofs.Common.{option_map, ◌≡◌, ◌≢◌, ◌⊎◌, inl, inr, Result, Err, IsErr, IfErr, is_some, ℕ, ◌+◌, ◌<◌, ◌≤◌, All, List, Option, Some, IfSome, Bool, true, false, cond, refl, sym, ap, subst, ◌∙◌, arith}
use Rattle.std.specs.Prelude.{nat_lt, nat_eq}
use Rattle.std.proofs.lemmas.Bool.{cond-false, lt-ltb, le-ltb}
use Rattle.wb_heap_model.specs.declared.heap.Answer.{Answer}
use Rattle.wb_heap_model.specs.declared.heap.Answer.TheVariants.{Granted, Simulated, Refused}
use Rattle.wb_heap_model.specs.declared.heap.Attempt.{Attempt}
use Rattle.wb_heap_model.specs.declared.heap.Header.{Header}
use Rattle.wb_heap_model.specs.declared.heap.Gave.{Gave}
use Rattle.wb_heap_model.specs.declared.heap.Gave.TheVariants as G
use Rattle.wb_heap_model.specs.declared.heap.Ptr.{Ptr}
use Rattle.wb_heap_model.specs.CellRow.{resized_words}
use Rattle.wb_heap_model.specs.Debug.{Debug, Made, made_by, number_of_next, answer_in, longer_made, shorter_made, realloc_made}
use Rattle.wb_heap_model.specs.Reported.{trace_line}
use Rattle.wb_heap_model.specs.Heap.{after_realloc, request_at, shortened}
use Rattle.wb_heap_model.specs.LimitedHeap.{LimitedHeap, IsSoundHeap, heap_grown, heap_shortened, heap_reallocated, committed_grown, grown_cell, grown_pointer, place_to_grow, space_in}
use Rattle.wb_heap_model.specs.Rises.{end_of_line, granted_end, rises_with}
use Rattle.wb_heap_model.specs.Placement.{placement_of}
use Rattle.wb_heap_model.specs.Row.{Cell, headers, end_of, cell_at, cell_length, inserted, pointer_to, without}
use Rattle.wb_heap_model.specs.Rules.{Request, after_attempt}
use Rattle.wb_heap_model.specs.Rules as rules
use Rattle.wb_heap_model.specs.Space.{committed_by, bound_below, space_below}
use Rattle.wb_heap_model.proofs.LimitedHeaps.{All-heap_without}
use Rattle.wb_heap_model.proofs.Reallocations.{found-all, found-head}
use Rattle.wb_heap_model.proofs.ReallocatedHeaps.{All-heap_reallocated}
use Rattle.wb_heap_model.proofs.Rows.{All-inserted}
use Rattle.wb_debug.specs.declared.debug_heap.DebugHeap.TheInside.{Inside}
use Rattle.wb_debug.specs.declared.setting.Setting.{Setting}
use Rattle.wb_debug.specs.Debug.{debug_of, IsKept}
use Rattle.wb_debug.specs.Log.{Log, logged}
use Rattle.wb_debug.specs.Setting.{setting_of}
use Rattle.wb_debug.proofs.DebugFields.{row-kept, counted-kept}
use Rattle.wb_rheap.proofs.Growing.{Names, cell-of, whole-cell, own-pointer}
use Rattle.wb_rheap.specs.declared.fault.HeapFault.{HeapFault}
use Rattle.wb_rheap.specs.declared.fault.HeapFault.TheVariants as faults
use Rattle.wb_debug.proofs.Rises.{granted-within, no_want, end-of-grant}
use Rattle.wb_debug.specs.Tally.{Tally, IsOther, IsTally}
use Rattle.wb_debug.proofs.Tallies.{inserted-more, tally-stays, without-less}
use Rattle.wb_debug.proofs.Room.{HasRoom, held-stepped, inserted-has}

-- the request for a longer cell
abbrev pub growth : Inside → Header → ℕ → Request
growth inside h len = request_at (debug_of inside).heap (place_to_grow inside.heap h len) len

-- a longer cell was asked for, and the line that the attempt adds has the answer
pub record IsAsked (inside : Inside) (p : Ptr) (cell : Cell (List ℕ)) (bytes len : ℕ) (line : Attempt) : Type 0 where
  pub found : cell_at p inside.heap.row ≡ Some cell
  pub long : len ≡ cell_length bytes
  pub longer : nat_lt cell.head.length len ≡ true
  pub answer : answer_in (debug_of inside) (growth inside cell.head len) ≡ Some line.answer
  pub added : line ≡ trace_line (number_of_next (debug_of inside)) (growth inside cell.head len) line.answer

-- the cell of a live header
abbrev pub asked-cell : Inside → Header → Cell (List ℕ)
asked-cell inside h = cell-of (pointer_to h) inside.heap.row h

pub found-cell : (inside : Inside) (p : Ptr) (h : Header) → IsKept inside → Names p inside.heap.row h → cell_at p inside.heap.row ≡ Some (asked-cell inside h)
found-cell inside p h kept e =
    whole-cell p inside.heap.row h e ∙ ap (λ q. Some (cell-of q inside.heap.row h)) (sym (own-pointer inside.heap p h kept.sound e))

pub asked : (inside : Inside) (d : Debug) (p : Ptr) (h : Header) (bytes len place : ℕ) (line : Attempt) → debug_of inside ≡ d → IsKept inside →
    Names p inside.heap.row h → len ≡ cell_length bytes → h.length < len → place ≡ place_to_grow inside.heap h len →
    Some line.answer ≡ answer_in d (request_at d.heap place len) → line ≡ trace_line (number_of_next d) (request_at d.heap place len) line.answer →
    IsAsked inside p (asked-cell inside h) bytes len line
asked inside d p h bytes len place line view kept e long longer at answer added = record {
  found = found-cell inside p h kept e;
  long = long;
  longer = lt-ltb h.length len longer;
  answer = subst (λ q. answer_in (debug_of inside) (request_at (debug_of inside).heap q len) ≡ Some line.answer) at
      (subst (λ (x : Debug). answer_in x (request_at x.heap place len) ≡ Some line.answer) (sym view) (sym answer));
  added = subst (λ q. line ≡ trace_line (number_of_next (debug_of inside)) (request_at (debug_of inside).heap q len) line.answer) at
      (subst (λ (x : Debug). line ≡ trace_line (number_of_next x) (request_at x.heap place len) line.answer) (sym view) added);
}

-- what the definitions make of an answer
abbrev made_of : Inside → Cell (List ℕ) → Request → Option Answer → Made
made_of inside c t o =
    let d = debug_of inside in made_by d t (after_realloc d.heap t c.head (resized_words t.length c.content)) o

made-longer : (inside : Inside) (p : Ptr) (cell : Cell (List ℕ)) (bytes len : ℕ) (line : Attempt) → (is : IsAsked inside p cell bytes len line) →
    realloc_made (debug_of inside) cell bytes ≡ made_of inside cell (growth inside cell.head len) (Some line.answer)
made-longer inside p cell bytes len line is =
    let d = debug_of inside in
    let longer : nat_lt cell.head.length (cell_length bytes) ≡ true = ap (λ n. nat_lt cell.head.length n) (sym is.long) ∙ is.longer in
    ap (λ b. cond b (longer_made d cell bytes) (shorter_made d cell bytes)) longer
    ∙ ap (λ n. made_of inside cell (growth inside cell.head n) (answer_in d (growth inside cell.head n))) (sym is.long)
    ∙ ap (made_of inside cell (growth inside cell.head len)) is.answer

-- what callers see of a heap, a setting, a number of attempts and what is kept of them
abbrev told : Inside → LimitedHeap → rules.Setting → ℕ → Log → Debug
told inside heap setting attempts log = record {
  heap = record { row = heap.row; level = inside.level; setting = setting; placement = placement_of heap.shape };
  rule = inside.rule;
  shape = heap.shape;
  committed = heap.committed;
  attempts = attempts;
  trace = log.trace;
  rises = log.rises;
}

-- what is kept, with the attempt
lines-added : (inside : Inside) (p : Ptr) (cell : Cell (List ℕ)) (bytes len : ℕ) (line : Attempt) (log : Log) (answer : Answer) → (is : IsAsked inside p cell bytes len line) →
    line.answer ≡ answer → log ≡ logged inside.log line →
    log ≡ logged inside.log (trace_line (number_of_next (debug_of inside)) (growth inside cell.head len) answer)
lines-added inside p cell bytes len line log answer is e more =
    more ∙ ap (logged inside.log) (is.added ∙ ap (trace_line (number_of_next (debug_of inside)) (growth inside cell.head len)) e)

-- a grant
pub granted-debug : (inside : Inside) (p : Ptr) (cell : Cell (List ℕ)) (bytes len : ℕ) (line : Attempt) (heap : LimitedHeap) (setting : Setting) (log : Log) →
    IsAsked inside p cell bytes len line → line.answer ≡ Granted → heap ≡ heap_grown inside.heap cell len line.number →
    log ≡ logged inside.log line → setting_of setting ≡ after_attempt (setting_of inside.setting) → IsKept inside →
    IfSome (cell_at p inside.heap.row) (λ c. debug_of (record inside { heap = heap; setting = setting; attempts = line.number; log = log }) ≡ (realloc_made (debug_of inside) c bytes).debug)
granted-debug inside p cell bytes len line heap setting log is e done more counted kept =
    let c = cell in
    let number : ℕ = number_of_next (debug_of inside) in
    let t : Request = growth inside c.head len in
    let after : rules.Setting = after_attempt (setting_of inside.setting) in
    let grown : heap ≡ heap_grown inside.heap c len number =
    done ∙ ap (λ (a : Attempt). heap_grown inside.heap c len a.number) is.added in
    subst (λ o. IfSome o (λ d. debug_of (record inside { heap = heap; setting = setting; attempts = line.number; log = log }) ≡ (realloc_made (debug_of inside) d bytes).debug)) (sym is.found)
    (ap (λ (h : LimitedHeap). debug_of (record inside { heap = h; setting = setting; attempts = line.number; log = log })) grown
    ∙ ap (λ s. told inside (heap_grown inside.heap c len number) s line.number log) counted
    ∙ ap (λ (a : Attempt). told inside (heap_grown inside.heap c len number) after a.number log) is.added
    ∙ ap (told inside (heap_grown inside.heap c len number) after number) (lines-added inside p cell bytes len line log Granted is e more)
    ∙ ap (λ b. record (told inside (heap_grown inside.heap c len number) after number (logged inside.log (trace_line number t Granted)))
    { committed = committed_by (space_below (bound_below b) inside.heap.shape) inside.heap.committed (t.place + t.length) }) kept.limit
    ∙ sym (ap (λ (m : Made). m.debug) (made-longer inside p cell bytes len line is ∙ ap (λ a. made_of inside c t (Some a)) e)))

pub granted-gave : (inside : Inside) (p : Ptr) (cell : Cell (List ℕ)) (bytes len : ℕ) (line : Attempt) (gave : Gave) (q : Ptr) → IsAsked inside p cell bytes len line → line.answer ≡ Granted →
    gave ≡ G.Granted q → q ≡ grown_pointer inside.heap cell.head len line.number →
    IfSome (cell_at p inside.heap.row) (λ c. gave ≡ (realloc_made (debug_of inside) c bytes).gave)
granted-gave inside p cell bytes len line gave q is e given pointer =
    let c = cell in
    let grown : q ≡ grown_pointer inside.heap c.head len (number_of_next (debug_of inside)) =
    pointer ∙ ap (λ (a : Attempt). grown_pointer inside.heap c.head len a.number) is.added in
    subst (λ o. IfSome o (λ d. gave ≡ (realloc_made (debug_of inside) d bytes).gave)) (sym is.found)
    (given ∙ ap G.Granted grown
    ∙ sym (ap (λ (m : Made). m.gave) (made-longer inside p cell bytes len line is ∙ ap (λ a. made_of inside c (growth inside c.head len) (Some a)) e)))

-- a refusal
pub denied-debug : (inside : Inside) (p : Ptr) (cell : Cell (List ℕ)) (bytes len : ℕ) (line : Attempt) (setting : Setting) (log : Log) →
    IsAsked inside p cell bytes len line → (line.answer ≡ Simulated) ⊎ (line.answer ≡ Refused) → log ≡ logged inside.log line →
    setting_of setting ≡ after_attempt (setting_of inside.setting) →
    IfSome (cell_at p inside.heap.row) (λ c. debug_of (record inside { setting = setting; attempts = line.number; log = log }) ≡ (realloc_made (debug_of inside) c bytes).debug)
denied-debug inside p cell bytes len line setting log is denied more counted =
    let after : rules.Setting = after_attempt (setting_of inside.setting) in
    subst (λ o. IfSome o (λ d. debug_of (record inside { setting = setting; attempts = line.number; log = log }) ≡ (realloc_made (debug_of inside) d bytes).debug)) (sym is.found)
    (ap (λ s. told inside inside.heap s line.number log) counted
    ∙ ap (λ (a : Attempt). told inside inside.heap after a.number log) is.added
    ∙ ap (told inside inside.heap after (number_of_next (debug_of inside))) (lines-added inside p cell bytes len line log line.answer is refl more)
    ∙ by line.answer denied ∙ sym (ap (λ (m : Made). m.debug) (made-longer inside p cell bytes len line is)))
  where
    by : (a : Answer) → (a ≡ Simulated) ⊎ (a ≡ Refused) →
        told inside inside.heap (after_attempt (setting_of inside.setting)) (number_of_next (debug_of inside))
        (logged inside.log (trace_line (number_of_next (debug_of inside)) (growth inside cell.head len) a))
        ≡ (made_of inside cell (growth inside cell.head len) (Some a)).debug
    by Granted (inl e) = cc
    by Granted (inr e) = cc
    by Simulated e = refl
    by Refused e = refl

pub denied-gave : (inside : Inside) (p : Ptr) (cell : Cell (List ℕ)) (bytes len : ℕ) (line : Attempt) → IsAsked inside p cell bytes len line →
    (line.answer ≡ Simulated) ⊎ (line.answer ≡ Refused) → IfSome (cell_at p inside.heap.row) (λ c. G.Denied ≡ (realloc_made (debug_of inside) c bytes).gave)
denied-gave inside p cell bytes len line is denied =
    subst (λ o. IfSome o (λ d. G.Denied ≡ (realloc_made (debug_of inside) d bytes).gave)) (sym is.found)
    (by line.answer denied ∙ sym (ap (λ (m : Made). m.gave) (made-longer inside p cell bytes len line is)))
  where
    by : (a : Answer) → (a ≡ Simulated) ⊎ (a ≡ Refused) → G.Denied ≡ (made_of inside cell (growth inside cell.head len) (Some a)).gave
    by Granted (inl e) = cc
    by Granted (inr e) = cc
    by Simulated e = refl
    by Refused e = refl

-- one cell is another now
replaced-other : (heap : LimitedHeap) (p : Ptr) (c new : Cell (List ℕ)) → IsSoundHeap heap → cell_at p heap.row ≡ Some c →
    IsOther (headers heap.row) (headers (inserted new (without (pointer_to c.head) heap.row))) c.head new.head
replaced-other heap p c new sound found =
    let own : pointer_to c.head ≡ p = own-pointer heap p c.head sound (ap (option_map (λ d. d.head)) found) in
    record {
      rest = headers (without (pointer_to c.head) heap.row);
      less = without-less (pointer_to c.head) heap.row c sound.row.numbered (subst (λ q. cell_at q heap.row ≡ Some c) (sym own) found);
      more = inserted-more new (without (pointer_to c.head) heap.row);
    }

-- what it keeps: the cell had an attempt's number, and keeps it or gets this one's
pub grown-kept : (inside : Inside) (p : Ptr) (cell : Cell (List ℕ)) (bytes len : ℕ) (line : Attempt) (heap : LimitedHeap) (setting : Setting) (log : Log) (place : ℕ)
    (tally : Tally) → IsAsked inside p cell bytes len line → line.answer ≡ Granted → heap ≡ heap_grown inside.heap cell len line.number → IsSoundHeap heap →
    log ≡ logged inside.log line → place ≡ place_to_grow inside.heap cell.head len →
    ((row new : List Header) (moved : Header) → IsOther row new cell.head moved → moved.kind ≡ cell.head.kind → moved.level ≡ cell.head.level → moved.place ≡ place →
    IsTally inside.tally row → IsTally tally new) →
    IsKept inside → IsKept (record inside { heap = heap; setting = setting; attempts = line.number; log = log; tally = tally })
grown-kept inside p cell bytes len line heap setting log place tally is granted done sound more at moves kept =
    let c = cell in
    let old = inside.heap in
    let new : LimitedHeap = heap_grown old c len line.number in
    let grown : heap ≡ new = done in
    let reallocated : heap ≡ heap_reallocated old c len line.number = grown ∙ ap (λ b. cond b new (heap_shortened old c len)) (sym is.longer) in
    let sound' : IsSoundHeap new = subst IsSoundHeap grown sound in
    let end : end_of_line line ≡ place_to_grow old c.head len + len =
    ap (granted_end line) granted ∙ ap (λ (a : Attempt). a.place + a.length) is.added in
    let covered : place_to_grow old c.head len + len ≤ new.committed =
    inserted-has (λ h. end_of h ≤ new.committed) (grown_cell old c len line.number) (without (pointer_to c.head) old.row) sound'.within in
    let room : HasRoom old new (end_of_line line) = record {
      limit = refl;
      shape = refl;
      stepped = held-stepped (space_in old) old.held old.committed (place_to_grow old c.head len + len) kept.stepped kept.sound.covered;
      more = omega arith;
      reaches = omega (arith, end, covered, sound'.covered);
    } in
    let own : c.head.number ≤ inside.attempts = found-all (λ h. h.number ≤ inside.attempts) p (headers old.row) c.head kept.numbered (found-head p old.row c is.found) in
    let numbered : (grown_pointer old c.head len line.number).number ≤ inside.attempts + 1 = by c own (nat_eq (place_to_grow old c.head len) c.head.place) in
    let other : IsOther (headers old.row) (headers heap.row) c.head (grown_cell old c len line.number).head =
    subst (λ (h : LimitedHeap). IsOther (headers old.row) (headers h.row) c.head (grown_cell old c len line.number).head) (sym grown)
    (replaced-other old p c (grown_cell old c len line.number) kept.sound is.found) in
    counted-kept inside heap setting log tally line (subst (λ (h : LimitedHeap). HasRoom old h (end_of_line line)) (sym grown) room)
    (subst (λ (h : LimitedHeap). All (λ g. g.number ≤ inside.attempts + 1) (headers h.row)) (sym reallocated)
    (All-heap_reallocated (λ g. g.number ≤ inside.attempts + 1) old c len line.number numbered (omega (arith, own)) (λ k h lt. omega (arith, kept.numbered k h lt))))
    (moves (headers old.row) (headers heap.row) (grown_cell old c len line.number).head other refl refl (sym at) kept.tallied)
    sound more (ap (λ (a : Attempt). a.number) is.added) kept
  where
    by : (c : Cell (List ℕ)) → c.head.number ≤ inside.attempts → (b : Bool) → cond b c.head.number line.number ≤ inside.attempts + 1
    by c own true = omega (arith, own)
    by c own false = omega (arith, ap (λ (a : Attempt). a.number) is.added)

-- a grant that leaves the rises is no error
pub grown-quiet : {T : Type 0} (inside : Inside) (p : Ptr) (cell : Cell (List ℕ)) (bytes len : ℕ) (line : Attempt) (r : Result T HeapFault) → (is : IsAsked inside p cell bytes len line) →
    line.answer ≡ Granted → is_some inside.log.rises ≡ true → (realloc_made (debug_of inside) cell bytes).debug.rises ≡ inside.log.rises →
    IsErr r → IfErr r (λ fault. fault ≢ faults.TooShort → fault ≡ faults.NoMemory) →
    (r ≡ Err faults.TooShort → inside.heap.limit < place_to_grow inside.heap cell.head len + len) →
    (committed_grown inside.heap cell.head len ≤ inside.heap.held → r ≢ Err faults.NoMemory) →
    IsKept inside → ⊥
grown-quiet inside p cell bytes len line r is granted some same wanting other short memory kept =
    let t = growth inside cell.head len in
    let number = number_of_next (debug_of inside) in
    let stays : rises_with inside.log.rises line ≡ inside.log.rises =
    ap (rises_with inside.log.rises) is.added ∙ sym (ap (λ (m : Made). m.debug.rises) (made-longer inside p cell bytes len line is)) ∙ same in
    let within = granted-within inside.rule number t (is.answer ∙ ap Some granted) in
    no_want inside line (place_to_grow inside.heap cell.head len + len) r kept (end-of-grant line number t is.added granted) some stays (omega (arith, within, kept.limit)) wanting
    other short memory

-- a cell that becomes no longer
module _ (inside : Inside) (p : Ptr) (h : Header) (len : ℕ) (heap : LimitedHeap) (e : Names p inside.heap.row h) (shorter : len ≤ h.length)
    (short : heap ≡ heap_shortened inside.heap (asked-cell inside h) len) (kept : IsKept inside) where
  pub shortened-kept : IsSoundHeap heap → IsKept (record inside { heap = heap })
  shortened-kept sound =
      let c = asked-cell inside h in
      let own : h.number ≤ inside.attempts = found-all (λ g. g.number ≤ inside.attempts) p (headers inside.heap.row) h kept.numbered (found-head p inside.heap.row c (found-cell inside p h kept e)) in
      let new : Cell (List ℕ) = record { head = record h { length = len }; content = resized_words len c.content } in
      row-kept inside heap (inserted new (without (pointer_to h) inside.heap.row)) inside.heap.committed inside.tally short
      (All-inserted (λ x. x.number ≤ inside.attempts) (record { head = record h { length = len }; content = resized_words len c.content })
      (without (pointer_to h) inside.heap.row) own (All-heap_without (λ x. x.number ≤ inside.attempts) inside.heap (pointer_to h) kept.numbered))
      (tally-stays inside.tally (headers inside.heap.row) (headers (inserted new (without (pointer_to h) inside.heap.row))) h new.head refl refl (λ has. omega arith)
      (replaced-other inside.heap p c new kept.sound (found-cell inside p h kept e)) kept.tallied)
      sound kept

  -- what the definitions make of it
  made-shorter : (bytes : ℕ) → len ≡ cell_length bytes → realloc_made (debug_of inside) (asked-cell inside h) bytes ≡ shorter_made (debug_of inside) (asked-cell inside h) bytes
  made-shorter bytes long =
      let d = debug_of inside in
      let c = asked-cell inside h in
      cond-false (nat_lt h.length (cell_length bytes)) (longer_made d c bytes) (shorter_made d c bytes)
      (ap (nat_lt h.length) (sym long) ∙ le-ltb h.length len shorter)

  pub shortened-gave : (bytes : ℕ) → len ≡ cell_length bytes → IfSome (cell_at p inside.heap.row) (λ c. G.Granted p ≡ (realloc_made (debug_of inside) c bytes).gave)
  shortened-gave bytes long =
      subst (λ o. IfSome o (λ c. G.Granted p ≡ (realloc_made (debug_of inside) c bytes).gave)) (sym (found-cell inside p h kept e))
      (ap G.Granted (sym (own-pointer inside.heap p h kept.sound e)) ∙ sym (ap (λ (m : Made). m.gave) (made-shorter bytes long)))

  pub shortened-debug : (bytes : ℕ) → len ≡ cell_length bytes →
      IfSome (cell_at p inside.heap.row) (λ c. debug_of (record inside { heap = heap }) ≡ (realloc_made (debug_of inside) c bytes).debug)
  shortened-debug bytes long =
      let d = debug_of inside in
      let c = asked-cell inside h in
      subst (λ o. IfSome o (λ x. debug_of (record inside { heap = heap }) ≡ (realloc_made (debug_of inside) x bytes).debug)) (sym (found-cell inside p h kept e))
      (ap (λ (x : LimitedHeap). debug_of (record inside { heap = x })) short
      ∙ ap (λ n. record d { heap = shortened d.heap h n (resized_words n c.content) }) long
      ∙ sym (ap (λ (m : Made). m.debug) (made-shorter bytes long)))
