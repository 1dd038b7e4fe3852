-- What is the same but for numbers is so the other way round, by the same map read backwards.
use Rattle.std.proofs.Common.{ℕ, inl, inr, List, [], ◌∷◌, sym}
use Rattle.wb_heap_model.specs.declared.heap.Item.{Item}
use Rattle.wb_heap_model.specs.declared.heap.Header.{Header}
use Rattle.wb_heap_model.specs.declared.heap.Ptr.{Ptr}
use Rattle.wb_meaning.specs.declared.run.Outcome.{Outcome}
use Rattle.wb_heap_model.specs.declared.text.Base.{Base}
use Rattle.wb_heap_model.specs.declared.text.View.{View}
use Rattle.wb_heap_model.specs.Heap.{Heap}
use Rattle.wb_heap_model.specs.Row.{Cell}
use Rattle.wb_heap_model.specs.Contents.{Content}
use Rattle.wb_meaning.specs.State.{Value, Frame, State, Way}
use Rattle.wb_meaning.specs.Statements.{Todo}
use Rattle.wb_renaming.specs.Follows.{IsSameOutcome, same_end, same_panic, same_no_cleanup, same_cut}
use Rattle.wb_meaning.specs.Rest.{Afterwards, Pending, Progress}
use Rattle.wb_renaming.specs.SameButNumbers.{Names, Renames, Renaming, IsRenaming, turned_names, turned, AllBeside, none_beside, one_beside, IsSamePointer, IsSameHeader, IsSameContent, same_words, same_fields, same_units, same_none, IsSameCell, IsSameHeap, IsSameItem, same_free, same_delete, same_call, IsSameBase, same_nothing, same_literal, same_local, same_cell, IsSameView, IsSameValue, same_pointer, same_number, same_buffer, same_view, IsSameFrame, IsSameState, IsSameWay, same_plain, same_return, same_leave, IsSameTodo, same_statements, same_turns, same_items, same_object, IsSameAfterwards, same_nothing_more, same_gives_to, same_releases, IsSamePending, same_doing, same_catching, same_caught, same_calling, same_main_catching, same_main_caught, IsSameProgress, same_not_begun, same_going, same_stopped}

renames-turned : (names : Names) (a b : ℕ) → Renames names a b → Renames (turned_names names) b a
renames-turned (n ∷ names) a b (inl here) = inl (here.1, here.0)
renames-turned (n ∷ names) a b (inr later) = inr (renames-turned names a b later)
renames-turned [] a b none = absurd none

turned-renames : (names : Names) (a b : ℕ) → Renames (turned_names names) b a → Renames names a b
turned-renames (n ∷ names) a b (inl here) = inl (here.1, here.0)
turned-renames (n ∷ names) a b (inr later) = inr (turned-renames names a b later)
turned-renames [] a b none = absurd none

pub renaming-turned : (w : Renaming) → IsRenaming w → IsRenaming (turned w)
renaming-turned w is = record {
  null = renames-turned w.names 0 0 is.null;
  once = λ a b c r s. is.apart b c a (turned-renames w.names b a r) (turned-renames w.names c a s);
  apart = λ a b c r s. is.once c a b (turned-renames w.names c a r) (turned-renames w.names c b s);
  made_before = λ a b r. let before = is.made_before b a (turned-renames w.names b a r) in (before.1, before.0);
}

all-turned : {A B : Type 0} {R : A → B → Type 0} {S : B → A → Type 0} {xs : List A} {ys : List B} → ((x : A) (y : B) → R x y → S y x) → AllBeside R xs ys → AllBeside S ys xs
all-turned f none_beside = none_beside
all-turned f (one_beside r rest) = one_beside (f _ _ r) (all-turned f rest)

module _ {names : Names} where
  pointer-turned : {p q : Ptr} → IsSamePointer names p q → IsSamePointer (turned_names names) q p
  pointer-turned {p = p} {q = q} s = record { place = sym s.place; number = renames-turned names p.number q.number s.number }

  header-turned : {h g : Header} → IsSameHeader names h g → IsSameHeader (turned_names names) g h
  header-turned {h = h} {g = g} s = record {
    place = sym s.place;
    length = sym s.length;
    kind = sym s.kind;
    level = sym s.level;
    number = renames-turned names h.number g.number s.number;
  }

  content-turned : {c d : Content} → IsSameContent names c d → IsSameContent (turned_names names) d c
  content-turned (same_words ws) = same_words ws
  content-turned (same_fields s) = same_fields (all-turned (λ p q r. pointer-turned r) s)
  content-turned (same_units us) = same_units us
  content-turned same_none = same_none

  cell-turned : {c d : Cell Content} → IsSameCell names c d → IsSameCell (turned_names names) d c
  cell-turned s = record { head = header-turned s.head; content = content-turned s.content }

  heap-turned : {h g : Heap Content} → IsSameHeap names h g → IsSameHeap (turned_names names) g h
  heap-turned s = record { row = all-turned (λ c d r. cell-turned r) s.row; level = sym s.level; setting = sym s.setting; placement = sym s.placement }

  item-turned : {i j : Item} → IsSameItem names i j → IsSameItem (turned_names names) j i
  item-turned (same_free s) = same_free (pointer-turned s)
  item-turned (same_delete s) = same_delete (pointer-turned s)
  item-turned (same_call operation s) = same_call operation (pointer-turned s)

  base-turned : {b c : Base} → IsSameBase names b c → IsSameBase (turned_names names) c b
  base-turned same_nothing = same_nothing
  base-turned (same_literal i) = same_literal i
  base-turned (same_local i) = same_local i
  base-turned (same_cell s) = same_cell (pointer-turned s)

  view-turned : {v u : View} → IsSameView names v u → IsSameView (turned_names names) u v
  view-turned s = record { base = base-turned s.base; position = sym s.position; length = sym s.length }

  value-turned : {v u : Value} → IsSameValue names v u → IsSameValue (turned_names names) u v
  value-turned (same_pointer s) = same_pointer (pointer-turned s)
  value-turned (same_number z) = same_number z
  value-turned (same_buffer max us) = same_buffer max us
  value-turned (same_view s) = same_view (view-turned s)

  frame-turned : {f g : Frame} → IsSameFrame names f g → IsSameFrame (turned_names names) g f
  frame-turned s = record { this = pointer-turned s.this; locals = all-turned (λ v u r. value-turned r) s.locals }

  state-turned : {st other : State} → IsSameState names st other → IsSameState (turned_names names) other st
  state-turned s = record {
    heap = heap-turned s.heap;
    cleanup = pointer-turned s.cleanup;
    items = all-turned (λ i j r. item-turned r) s.items;
    slots = sym s.slots;
    frame = frame-turned s.frame;
  }

  way-turned : {way other_way : Way} → IsSameWay names way other_way → IsSameWay (turned_names names) other_way way
  way-turned same_plain = same_plain
  way-turned (same_return s) = same_return (pointer-turned s)
  way-turned (same_leave code) = same_leave code

  todo-turned : {p q : Todo} → IsSameTodo names p q → IsSameTodo (turned_names names) q p
  todo-turned (same_statements statements) = same_statements statements
  todo-turned (same_turns n body) = same_turns n body
  todo-turned (same_items n) = same_items n
  todo-turned (same_object s) = same_object (pointer-turned s)

  afterwards-turned : {a b : Afterwards} → IsSameAfterwards names a b → IsSameAfterwards (turned_names names) b a
  afterwards-turned same_nothing_more = same_nothing_more
  afterwards-turned (same_gives_to i) = same_gives_to i
  afterwards-turned (same_releases s) = same_releases (pointer-turned s)

  pending-turned : {p q : Pending} → IsSamePending names p q → IsSamePending (turned_names names) q p
  pending-turned (same_doing at s) = same_doing at (todo-turned s)
  pending-turned (same_catching at i entry) = same_catching at i entry
  pending-turned (same_caught i code) = same_caught i code
  pending-turned (same_calling f a) = same_calling (frame-turned f) (afterwards-turned a)
  pending-turned (same_main_catching at) = same_main_catching at
  pending-turned (same_main_caught code) = same_main_caught code

  pub progress-turned : {p q : Progress} → IsSameProgress names p q → IsSameProgress (turned_names names) q p
  progress-turned (same_not_begun placement) = same_not_begun placement
  progress-turned (same_going pieces way s) = same_going (all-turned (λ p q r. pending-turned r) pieces) (way-turned way) (state-turned s)
  progress-turned (same_stopped stop s) = same_stopped stop (state-turned s)

pub outcome-turned : {one other : Outcome} → IsSameOutcome one other → IsSameOutcome other one
outcome-turned (same_end left leaks) = same_end left (all-turned (λ x y l. record { place = sym l.place; length = sym l.length }) leaks)
outcome-turned (same_panic panic) = same_panic panic
outcome-turned same_no_cleanup = same_no_cleanup
outcome-turned (same_cut why) = same_cut why
