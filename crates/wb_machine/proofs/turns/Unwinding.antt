-- What a piece without a step makes of how the one above it ended.
use Rattle.std.proofs.Common.{◌≡◌, ℕ, zero, suc, ◌-◌, ◌≤◌, ℤ, pos, false, true, not, List, [], ◌∷◌, take, drop, length, Option, Some, None, refl, ap, ◌∙◌, sym, arith}
use Rattle.std.specs.Prelude.{nat_lt}
use Rattle.std.proofs.lemmas.Bool.{lt-ltb, eq-eqb, ne_eqb}
use Rattle.wb_heap_model.specs.declared.heap.TheConstants.Panic.{ITEMS_LEFT}
use Rattle.wb_heap_model.specs.declared.heap.Ptr.{Ptr}
use Rattle.wb_heap_model.specs.declared.heap.Rule.{Rule}
use Rattle.wb_tree.specs.declared.script.Script.{Script}
use Rattle.wb_tree.specs.declared.script.StatementAt.{StatementAt}
use Rattle.wb_heap_model.specs.Pointers.{null}
use Rattle.wb_meaning.specs.State.{number, leaves, Process, ends, and_then, on_plain_end, then_do, require, set_local}
use Rattle.wb_meaning.specs.Statements.{all, turns, destroy_items, destroy_object, Context, trapped, done, plain}
use Rattle.wb_meaning.specs.Meaning.{piece, meaning_of}
use Rattle.wb_meaning.specs.Run.{main_trapped, whole_of}
use Rattle.wb_meaning.specs.Rest.{doing, catching, caught, calling, main_catching, main_caught, after_frame, resumed, resume}
use Rattle.wb_meaning.proofs.MeaningLemmas.{meaning_of-unfolds}
use Rattle.wb_meaning.proofs.ResumeLemmas.{and_then-assoc}
use Rattle.wb_machine.specs.declared.pieces.After.{After}
use Rattle.wb_machine.specs.declared.pieces.After.TheVariants.{Nothing, Gives, Releases}
use Rattle.wb_machine.specs.declared.pieces.Ending.{Ending}
use Rattle.wb_machine.specs.declared.pieces.Ending.TheVariants.{GoesOn, Returns, Leaves, Panics, Cut, NoCleanup}
use Rattle.wb_machine.specs.declared.pieces.PendingPiece.{PendingPiece}
use Rattle.wb_machine.specs.RunState.{Values, RunState, state_of}
use Rattle.wb_machine.specs.Effects.{Effect, stored, called_back}
use Rattle.wb_machine.specs.Bodies.{followed_effect}
use Rattle.wb_machine.specs.Owed.{CarriesOut}
use Rattle.wb_machine.specs.Flow.{in_main_frame, frame_with, afterwards, is_nothing, pending_in, is_stop, flow, rest_from, rest_after, rest_under}
use Rattle.wb_machine.proofs.effects.StatementEffects.{ComesTo}
use Rattle.wb_machine.proofs.effects.CellEffects.{release_kept}
use Rattle.wb_machine.proofs.turns.Steps.{rest_flow, rest_known}

-- the result of a body that ended so
abbrev pub result_by : Ending → Option Ptr
result_by GoesOn = Some null
result_by (Returns p) = Some p
result_by _ = None

no_turn : true ≡ false → ⊥
no_turn e = cc

-- a turn is left
turn_left : (n : ℕ) → nat_lt 0 (suc n) ≡ true
turn_left n = lt-ltb 0 (suc n) (omega arith)

module _ (script : Script) (budget : ℕ) (r : Rule) (pieces : List PendingPiece) where
  -- the rest of a block, and the turns of a loop, where none is left or the piece above doesn't go on
  pub fallen_code : (at : Context) (ss : List StatementAt) (ending : Ending) (h : RunState) → is_stop ending ≡ false → h.steps ≤ budget → (ending ≡ GoesOn → not (is_nothing ss) ≡ false) →
      rest_from script budget r ending pieces h ≡ rest_under script budget r ending (doing at (all ss) ∷ pending_in h.callers pieces) h
  unfolding and_then resume resumed on_plain_end piece
  fallen_code at [] GoesOn h going within none =
      rest_flow script budget r GoesOn pieces h
      ∙ sym (ap (λ x. whole_of (flow r (and_then x (resume script budget (pending_in h.callers pieces))) h)) (meaning_of-unfolds script budget at (all []) (state_of script h) within))
  fallen_code at (s ∷ ss) GoesOn h going within none = absurd (no_turn (none refl))
  fallen_code at ss (Returns p) h going within none = rest_flow script budget r (Returns p) pieces h
  fallen_code at ss (Leaves code) h going within none = rest_flow script budget r (Leaves code) pieces h
  fallen_code at ss (Panics p) h going within none = cc
  fallen_code at ss (Cut why) h going within none = cc
  fallen_code at ss NoCleanup h going within none = cc

  pub fallen_turns : (at : Context) (left : ℕ) (body : List StatementAt) (ending : Ending) (h : RunState) → is_stop ending ≡ false → h.steps ≤ budget → (ending ≡ GoesOn → nat_lt 0 left ≡ false) →
      rest_from script budget r ending pieces h ≡ rest_under script budget r ending (doing at (turns left body) ∷ pending_in h.callers pieces) h
  unfolding and_then resume resumed on_plain_end piece
  fallen_turns at zero body GoesOn h going within none =
      rest_flow script budget r GoesOn pieces h
      ∙ sym (ap (λ x. whole_of (flow r (and_then x (resume script budget (pending_in h.callers pieces))) h)) (meaning_of-unfolds script budget at (turns zero body) (state_of script h) within))
  fallen_turns at (suc n) body GoesOn h going within none = absurd (no_turn (sym (turn_left n) ∙ none refl))
  fallen_turns at left body (Returns p) h going within none = rest_flow script budget r (Returns p) pieces h
  fallen_turns at left body (Leaves code) h going within none = rest_flow script budget r (Leaves code) pieces h
  fallen_turns at left body (Panics p) h going within none = cc
  fallen_turns at left body (Cut why) h going within none = cc
  fallen_turns at left body NoCleanup h going within none = cc

  -- items that are to be destroyed, and an object
  pub fallen_items : (at : Context) (left : ℕ) (ending : Ending) (h : RunState) → is_stop ending ≡ false → h.steps ≤ budget → (ending ≡ GoesOn → nat_lt 0 left ≡ false) →
      rest_from script budget r ending pieces h ≡ rest_under script budget r ending (doing at (destroy_items left) ∷ pending_in h.callers pieces) h
  unfolding and_then resume resumed on_plain_end piece
  fallen_items at zero GoesOn h going within none =
      rest_flow script budget r GoesOn pieces h
      ∙ sym (ap (λ x. whole_of (flow r (and_then x (resume script budget (pending_in h.callers pieces))) h)) (meaning_of-unfolds script budget at (destroy_items zero) (state_of script h) within))
  fallen_items at (suc n) GoesOn h going within none = absurd (no_turn (sym (turn_left n) ∙ none refl))
  fallen_items at left (Returns p) h going within none = rest_flow script budget r (Returns p) pieces h
  fallen_items at left (Leaves code) h going within none = rest_flow script budget r (Leaves code) pieces h
  fallen_items at left (Panics p) h going within none = cc
  fallen_items at left (Cut why) h going within none = cc
  fallen_items at left NoCleanup h going within none = cc

  pub fallen_object : (at : Context) (p : Ptr) (ending : Ending) (h : RunState) → is_stop ending ≡ false → (ending ≡ GoesOn → true ≡ false) →
      rest_from script budget r ending pieces h ≡ rest_under script budget r ending (doing at (destroy_object p) ∷ pending_in h.callers pieces) h
  unfolding and_then resume resumed on_plain_end
  fallen_object at p GoesOn h going none = absurd (no_turn (none refl))
  fallen_object at p (Returns q) h going none = rest_flow script budget r (Returns q) pieces h
  fallen_object at p (Leaves code) h going none = rest_flow script budget r (Leaves code) pieces h
  fallen_object at p (Panics q) h going none = cc
  fallen_object at p (Cut why) h going none = cc
  fallen_object at p NoCleanup h going none = cc

  -- a TRAP whose body ends plainly, over the items of its entry, or over others
  pub trap_goes_on : (at : Context) (x entry : ℕ) (h g : RunState) → length h.items ≡ entry → g ≡ stored h x (number (pos 0)) →
      rest_from script budget r GoesOn pieces g ≡ rest_under script budget r GoesOn (catching at x entry ∷ pending_in h.callers pieces) h
  unfolding and_then resume resumed trapped require flow
  trap_goes_on at x entry h g same is =
      ap (λ (y : RunState). rest_from script budget r GoesOn pieces y) is ∙ rest_flow script budget r GoesOn pieces (stored h x (number (pos 0)))
      ∙ sym (ap (λ b. whole_of (flow r (and_then (require b ITEMS_LEFT (state_of script h) (λ st. done (set_local st x (number (pos 0))))) (resume script budget (pending_in h.callers pieces))) h)) (eq-eqb (length h.items) entry same))

  pub trap_items_left : (at : Context) (x entry : ℕ) (h : RunState) → (length h.items ≡ entry → ⊥) →
      rest_from script budget r (Panics ITEMS_LEFT) pieces h ≡ rest_under script budget r GoesOn (catching at x entry ∷ pending_in h.callers pieces) h
  unfolding and_then resume resumed trapped require
  trap_items_left at x entry h differ =
      rest_flow script budget r (Panics ITEMS_LEFT) pieces h
      ∙ sym (ap (λ b. whole_of (flow r (and_then (require b ITEMS_LEFT (state_of script h) (λ st. done (set_local st x (number (pos 0))))) (resume script budget (pending_in h.callers pieces))) h)) (ne_eqb (length h.items) entry differ))

  -- one that is left: its items are to be destroyed, and then its local gets the code
  pub trap_left : (at : Context) (x entry : ℕ) (code : ℤ) (new : List PendingPiece) (h : RunState) →
      pending_in h.callers new ≡ doing at (destroy_items (length h.items - entry)) ∷ caught x code ∷ pending_in h.callers pieces →
      rest_from script budget r GoesOn new h ≡ rest_under script budget r (Leaves code) (catching at x entry ∷ pending_in h.callers pieces) h
  unfolding and_then resume resumed trapped then_do on_plain_end
  trap_left at x entry code new h is =
      rest_known script budget r GoesOn new (doing at (destroy_items (length h.items - entry)) ∷ caught x code ∷ pending_in h.callers pieces) h is
      ∙ ap (λ y. whole_of (flow r y h)) (sym (and_then-assoc (meaning_of script budget at (destroy_items (length h.items - entry)) (state_of script h))
      (λ way st. on_plain_end way st (λ st. done (set_local st x (number code)))) (resume script budget (pending_in h.callers pieces))))

  pub trap_returns : (at : Context) (x entry : ℕ) (p : Ptr) (h : RunState) →
      rest_from script budget r (Returns p) pieces h ≡ rest_under script budget r (Returns p) (catching at x entry ∷ pending_in h.callers pieces) h
  unfolding and_then resume resumed trapped
  trap_returns at x entry p h = rest_flow script budget r (Returns p) pieces h

  -- the code of a leave, once the items are destroyed
  pub caught_goes_on : (x : ℕ) (code : ℤ) (h g : RunState) → g ≡ stored h x (number code) →
      rest_from script budget r GoesOn pieces g ≡ rest_under script budget r GoesOn (caught x code ∷ pending_in h.callers pieces) h
  unfolding and_then resume resumed on_plain_end flow
  caught_goes_on x code h g is = ap (λ (y : RunState). rest_from script budget r GoesOn pieces y) is ∙ rest_flow script budget r GoesOn pieces (stored h x (number code))

  pub caught_passes : (x : ℕ) (code : ℤ) (ending : Ending) (h : RunState) → is_stop ending ≡ false → (ending ≡ GoesOn → ⊥) →
      rest_from script budget r ending pieces h ≡ rest_under script budget r ending (caught x code ∷ pending_in h.callers pieces) h
  unfolding and_then resume resumed on_plain_end
  caught_passes x code GoesOn h going never = absurd (never refl)
  caught_passes x code (Returns p) h going never = rest_flow script budget r (Returns p) pieces h
  caught_passes x code (Leaves again) h going never = rest_flow script budget r (Leaves again) pieces h
  caught_passes x code (Panics p) h going never = cc
  caught_passes x code (Cut why) h going never = cc
  caught_passes x code NoCleanup h going never = cc

  -- `main`'s own TRAP, without an item or with some
  pub main_ends : (ending : Ending) (h : RunState) → is_stop ending ≡ false → ((code : ℤ) → ending ≡ Leaves code → ⊥) → length h.items ≡ 0 →
      rest_from script budget r GoesOn pieces h ≡ rest_under script budget r ending (main_catching in_main_frame ∷ pending_in h.callers pieces) h
  unfolding and_then resume resumed main_trapped require
  main_ends GoesOn h going never none =
      rest_flow script budget r GoesOn pieces h
      ∙ sym (ap (λ b. whole_of (flow r (and_then (require b ITEMS_LEFT (state_of script h) done) (resume script budget (pending_in h.callers pieces))) h)) (eq-eqb (length h.items) 0 none))
  main_ends (Returns p) h going never none =
      rest_flow script budget r GoesOn pieces h
      ∙ sym (ap (λ b. whole_of (flow r (and_then (require b ITEMS_LEFT (state_of script h) done) (resume script budget (pending_in h.callers pieces))) h)) (eq-eqb (length h.items) 0 none))
  main_ends (Leaves code) h going never none = absurd (never code refl)
  main_ends (Panics p) h going never none = cc
  main_ends (Cut why) h going never none = cc
  main_ends NoCleanup h going never none = cc

  pub main_items_left : (ending : Ending) (h : RunState) → is_stop ending ≡ false → ((code : ℤ) → ending ≡ Leaves code → ⊥) → (length h.items ≡ 0 → ⊥) →
      rest_from script budget r (Panics ITEMS_LEFT) pieces h ≡ rest_under script budget r ending (main_catching in_main_frame ∷ pending_in h.callers pieces) h
  unfolding and_then resume resumed main_trapped require
  main_items_left GoesOn h going never some =
      rest_flow script budget r (Panics ITEMS_LEFT) pieces h
      ∙ sym (ap (λ b. whole_of (flow r (and_then (require b ITEMS_LEFT (state_of script h) done) (resume script budget (pending_in h.callers pieces))) h)) (ne_eqb (length h.items) 0 some))
  main_items_left (Returns p) h going never some =
      rest_flow script budget r (Panics ITEMS_LEFT) pieces h
      ∙ sym (ap (λ b. whole_of (flow r (and_then (require b ITEMS_LEFT (state_of script h) done) (resume script budget (pending_in h.callers pieces))) h)) (ne_eqb (length h.items) 0 some))
  main_items_left (Leaves code) h going never some = absurd (never code refl)
  main_items_left (Panics p) h going never some = cc
  main_items_left (Cut why) h going never some = cc
  main_items_left NoCleanup h going never some = cc

  -- one that is left: all items are to be destroyed, and then the leave goes on
  pub main_left : (code : ℤ) (left : ℕ) (new : List PendingPiece) (h : RunState) → left ≡ length h.items →
      pending_in h.callers new ≡ doing in_main_frame (destroy_items left) ∷ main_caught code ∷ pending_in h.callers pieces →
      rest_from script budget r GoesOn new h ≡ rest_under script budget r (Leaves code) (main_catching in_main_frame ∷ pending_in h.callers pieces) h
  unfolding and_then resume resumed main_trapped then_do on_plain_end
  main_left code left new h all_of is =
      rest_known script budget r GoesOn new (doing in_main_frame (destroy_items (length h.items)) ∷ main_caught code ∷ pending_in h.callers pieces) h
      (is ∙ ap (λ (n : ℕ). doing in_main_frame (destroy_items n) ∷ main_caught code ∷ pending_in h.callers pieces) all_of)
      ∙ ap (λ y. whole_of (flow r y h)) (sym (and_then-assoc (meaning_of script budget in_main_frame (destroy_items (length h.items)) (state_of script h))
      (λ way st. on_plain_end way st (λ st. ends (leaves code) st)) (resume script budget (pending_in h.callers pieces))))

  pub main_caught_goes_on : (code : ℤ) (h : RunState) → rest_from script budget r (Leaves code) pieces h ≡ rest_under script budget r GoesOn (main_caught code ∷ pending_in h.callers pieces) h
  unfolding and_then resume resumed on_plain_end
  main_caught_goes_on code h = rest_flow script budget r (Leaves code) pieces h

  pub main_caught_passes : (code : ℤ) (ending : Ending) (h : RunState) → is_stop ending ≡ false → (ending ≡ GoesOn → ⊥) →
      rest_from script budget r ending pieces h ≡ rest_under script budget r ending (main_caught code ∷ pending_in h.callers pieces) h
  unfolding and_then resume resumed on_plain_end
  main_caught_passes code GoesOn h going never = absurd (never refl)
  main_caught_passes code (Returns p) h going never = rest_flow script budget r (Returns p) pieces h
  main_caught_passes code (Leaves again) h going never = rest_flow script budget r (Leaves again) pieces h
  main_caught_passes code (Panics p) h going never = cc
  main_caught_passes code (Cut why) h going never = cc
  main_caught_passes code NoCleanup h going never = cc

  -- what was carried out gives what it comes to
  pub effect_rest : (p : Process) (c : Effect) (ending : Ending) (h g : RunState) → CarriesOut h c ending g → ComesTo r script h p c →
      rest_from script budget r ending pieces g ≡ rest_after script budget r p pieces h
  effect_rest p c ending h g made comes =
      let ps = pending_in h.callers pieces in
      rest_known script budget r ending pieces ps g (ap (λ (callers : Values). pending_in callers pieces) made.keeps.callers)
      ∙ ap (λ e. rest_under script budget r e ps g) made.ends_so
      ∙ ap (λ (x : RunState). rest_under script budget r c.ending ps x) made.becomes
      ∙ ap whole_of (comes (resume script budget ps))

  -- what follows a body
  followed_comes : (after : After) (result : Ptr) (h : RunState) → ComesTo r script h (after_frame (afterwards after) result (state_of script h)) (followed_effect h after result)
  unfolding flow and_then
  followed_comes Nothing result h k = refl
  followed_comes (Gives x) result h k = refl
  followed_comes (Releases p) result h k = release_kept r script h p k

  -- a call whose body is left, or ends with a result
  pub call_left : (base : ℕ) (this : Ptr) (after : After) (code : ℤ) (h g : RunState) → g ≡ called_back h this base →
      rest_from script budget r (Leaves code) pieces g
      ≡ rest_under script budget r (Leaves code) (calling (frame_with this (drop base h.callers)) (afterwards after) ∷ pending_in (take base h.callers) pieces) h
  unfolding and_then resume resumed plain flow
  call_left base this after code h g is = ap (λ (y : RunState). rest_from script budget r (Leaves code) pieces y) is ∙ rest_flow script budget r (Leaves code) pieces (called_back h this base)

  resumed_call : (base : ℕ) (this : Ptr) (after : After) (ending : Ending) (result : Ptr) (h : RunState) → result_by ending ≡ Some result →
      rest_after script budget r (after_frame (afterwards after) result (state_of script (called_back h this base))) pieces (called_back h this base)
      ≡ rest_under script budget r ending (calling (frame_with this (drop base h.callers)) (afterwards after) ∷ pending_in (take base h.callers) pieces) h
  unfolding and_then resume resumed plain flow
  resumed_call base this after GoesOn result h e =
      let same : null ≡ result = cc in
      ap (λ p. rest_after script budget r (after_frame (afterwards after) p (state_of script (called_back h this base))) pieces (called_back h this base)) (sym same)
  resumed_call base this after (Returns p) result h e =
      let same : p ≡ result = cc in
      ap (λ p. rest_after script budget r (after_frame (afterwards after) p (state_of script (called_back h this base))) pieces (called_back h this base)) (sym same)
  resumed_call base this after (Leaves code) result h e = cc
  resumed_call base this after (Panics p) result h e = cc
  resumed_call base this after (Cut why) result h e = cc
  resumed_call base this after NoCleanup result h e = cc

  pub call_ends : (base : ℕ) (this : Ptr) (after : After) (was ending : Ending) (result : Ptr) (h k g : RunState) → result_by was ≡ Some result → k ≡ called_back h this base →
      CarriesOut k (followed_effect k after result) ending g →
      rest_from script budget r ending pieces g
      ≡ rest_under script budget r was (calling (frame_with this (drop base h.callers)) (afterwards after) ∷ pending_in (take base h.callers) pieces) h
  call_ends base this after was ending result h k g from is made =
      effect_rest (after_frame (afterwards after) result (state_of script k)) (followed_effect k after result) ending k g made (followed_comes after result k)
      ∙ ap (λ (x : RunState). rest_after script budget r (after_frame (afterwards after) result (state_of script x)) pieces x) is
      ∙ resumed_call base this after was result h from
