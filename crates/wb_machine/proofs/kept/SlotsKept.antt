-- The cleanup stack keeps a free slot while pieces are pending.
use Rattle.std.proofs.Common.{◌≡◌, ℕ, ◌+◌, ◌-◌, ◌<◌, ◌≤◌, List, [], ◌∷◌, ◌++◌, true, false, length, take, length-take-le, inl, refl, sym, ap, ◌∙◌, subst, arith}
use Rattle.std.specs.Prelude.{max}
use Rattle.wb_heap_model.specs.Debug.{keeps_rises}
use Rattle.std.proofs.lemmas.Bool.{ltb-false}
use Rattle.wb_heap_model.specs.declared.heap.Ptr.{Ptr}
use Rattle.wb_heap_model.specs.declared.heap.Gave.{Gave}
use Rattle.wb_heap_model.specs.declared.heap.Gave.TheVariants as gave
use Rattle.wb_meaning.specs.declared.run.Why.TheVariants.{Budget}
use Rattle.wb_tree.specs.declared.script.Local.{Local}
use Rattle.wb_tree.specs.declared.script.Script.{Script}
use Rattle.wb_meaning.specs.State.{State, Value, ends, stops, is_cut, Process, and_then}
use Rattle.wb_meaning.specs.Statements.{Layer, Meaning, Context, statement}
use Rattle.wb_heap_model.specs.Space.{space_of}
use Rattle.wb_meaning.proofs.EachStatement.{statement-free}
use Rattle.wb_meaning.proofs.FreeSlots.{KeepsFree, KeepsAll, and_then-free}
use Rattle.wb_meaning.proofs.FreeSlotLemmas.{ShownFree, settled-free}
use Rattle.wb_machine.specs.declared.pieces.Ending.{Ending}
use Rattle.wb_machine.specs.declared.pieces.Ending.TheVariants.{GoesOn, Returns, Leaves, Panics, Cut, NoCleanup}
use Rattle.wb_machine.specs.declared.pieces.PendingPiece.{PendingPiece}
use Rattle.wb_machine.specs.declared.pieces.PendingPiece.TheVariants.{Code, Turns, Items, Object, Trap, Caught, MainTrap, MainCaught, Call}
use Rattle.wb_machine.specs.declared.control.Control.{Control}
use Rattle.wb_machine.specs.RunState.{RunState, first_state, state_of, account_of, with_debug}
use Rattle.wb_machine.specs.Bodies.{without_newest}
use Rattle.wb_machine.specs.Effects.{stepped, stored, entered, first_made, started_by, called_back}
use Rattle.wb_machine.specs.Flow.{ended_by, flow, is_stop, needs_step, IsCarriedOut}
use Rattle.wb_machine.specs.Owed.{IsQuiet}
use Rattle.wb_machine.specs.SlotInvariant.{slots_for, slots_for_all, to_destroy, to_destroy_first, after_leave, coming_off, IsFree, IsFreeAfter, HasRoom, HasRoomUnder}

-- a piece on top
slots_on_top : (below : List PendingPiece) (p : PendingPiece) → slots_for_all (below ++ p ∷ []) ≡ max (slots_for_all below) (slots_for p)
slots_on_top [] p = omega arith
slots_on_top (q ∷ qs) p = omega (arith, slots_on_top qs p)

pub slots_pushed : (below all : List PendingPiece) (p : PendingPiece) → all ≡ below ++ p ∷ [] → slots_for_all all ≡ max (slots_for_all below) (slots_for p)
slots_pushed below all p is = ap slots_for_all is ∙ slots_on_top below p

first_on_top : (below : List PendingPiece) (p : PendingPiece) → to_destroy_first (below ++ p ∷ []) ≡ to_destroy p
first_on_top [] p = refl
first_on_top (q ∷ []) p = refl
first_on_top (q ∷ r ∷ rs) p = first_on_top (r ∷ rs) p

pub first_pushed : (below all : List PendingPiece) (p : PendingPiece) → all ≡ below ++ p ∷ [] → to_destroy_first all ≡ to_destroy p
first_pushed below all p is = ap to_destroy_first is ∙ first_on_top below p

-- where a slot is free, whatever ended so
pub free_room : (ending : Ending) (old new : List PendingPiece) (h g : RunState) → IsFree old h → slots_for_all new ≤ max (slots_for_all old) (length h.items + 1) →
    length g.items ≤ length h.items → g.slots ≡ h.slots → HasRoom ending new g
free_room ending old new h g is entered fewer same going = record {
  entered = omega (arith, entered, is.entered, is.free, same);
  some = omega (arith, is.free, same);
  within = omega (arith, is.free, fewer, same);
  free = omega (arith, is.free, fewer, same);
}

-- what a statement leaves that was carried out
shown_free : (script : Script) (least : ℕ) (h g : RunState) (ending : Ending) → is_stop ending ≡ false →
    ShownFree least (flow h.debug.rule (and_then (ended_by ending (state_of script g)) ends) g).end (flow h.debug.rule (and_then (ended_by ending (state_of script g)) ends) g).state →
    (least ≤ g.slots) × (length g.items < g.slots + after_leave ending)
unfolding flow and_then
shown_free script least h g GoesOn going f = (f.0, omega (arith, f.1))
shown_free script least h g (Returns p) going f = (f.0, omega (arith, f.1))
shown_free script least h g (Leaves code) going f = (f.0, omega (arith, f.1))
shown_free script least h g (Panics p) going f = cc
shown_free script least h g (Cut why) going f = cc
shown_free script least h g NoCleanup going f = cc

flowed_free : (least : ℕ) (p : Process) (h : RunState) → KeepsFree least p → ShownFree least (flow h.debug.rule p h).end (flow h.debug.rule p h).state
unfolding flow
flowed_free least p h keeps = settled-free least h.debug.rule (space_of h.debug.rule h.debug.shape) p (account_of h) keeps

pub effect_free : (script : Script) (floor : ℕ) (layer : Layer) (h g : RunState) (ending : Ending) → IsCarriedOut script floor layer h ending g →
    length h.items < h.slots → is_stop ending ≡ false → (h.slots ≤ g.slots) × (length g.items < g.slots + after_leave ending)
effect_free script floor layer h g ending kept free going =
    shown_free script h.slots h g ending going (subst (λ s. ShownFree h.slots s.end s.state) (sym same) (flowed_free h.slots p h keeps))
  where
    at : Context
    at = record { depth = 0; floor = floor }

    idle : Meaning
    idle at p st = stops (is_cut Budget) st

    idles : KeepsAll idle
    idles at p st finds = tt

    st : State
    st = state_of script h

    p : Process
    p = and_then (statement script idle at layer st) ends

    same : flow h.debug.rule (and_then (ended_by ending (state_of script g)) ends) g ≡ flow h.debug.rule p h
    same = kept h.debug.rule (inl refl) idle at refl ends

    keeps : KeepsFree h.slots p
    keeps = and_then-free h.slots (statement script idle at layer st) ends (statement-free idle idles h.slots script at layer st (omega arith, free)) (λ w st e. e)

-- at least as many come off where one does
leave_off : (ending : Ending) (pieces : List PendingPiece) → after_leave ending ≤ coming_off ending pieces
leave_off GoesOn pieces = omega arith
leave_off (Returns p) pieces = omega arith
leave_off (Leaves code) pieces = omega arith
leave_off (Panics p) pieces = omega arith
leave_off (Cut why) pieces = omega arith
leave_off NoCleanup pieces = omega arith

pub effect_room : (script : Script) (floor : ℕ) (layer : Layer) (pieces : List PendingPiece) (h g : RunState) (ending : Ending) → IsCarriedOut script floor layer h ending g →
    IsFree pieces h → HasRoom ending pieces g
effect_room script floor layer pieces h g ending kept is going =
    let left = effect_free script floor layer h g ending kept is.free going in
    record {
      entered = omega (arith, is.entered, left.0);
      some = omega (arith, is.free, left.0);
      within = within ending left.1;
      free = omega (arith, left.1, leave_off ending pieces);
    }
  where
    within : (ending : Ending) → length g.items < g.slots + after_leave ending → length g.items ≤ g.slots
    within GoesOn lt = omega (arith, lt)
    within (Returns p) lt = omega (arith, lt)
    within (Leaves code) lt = omega (arith, lt)
    within (Panics p) lt = omega (arith, lt)
    within (Cut why) lt = omega (arith, lt)
    within NoCleanup lt = omega (arith, lt)

-- below a piece that is done
done_destroys : (p : PendingPiece) → needs_step p ≡ false → to_destroy p ≡ 0
done_destroys (Items at left) e = omega (arith, ltb-false 0 left e)
done_destroys (Code at ss) e = refl
done_destroys (Turns at left body) e = refl
done_destroys (Object at p) e = refl
done_destroys (Trap at x entry) e = refl
done_destroys (Caught x code) e = refl
done_destroys MainTrap e = refl
done_destroys (MainCaught code) e = refl
done_destroys (Call base this after) e = refl

pub room_under : (ending : Ending) (below all : List PendingPiece) (p : PendingPiece) (h : RunState) → all ≡ below ++ p ∷ [] → (ending ≡ GoesOn → needs_step p ≡ false) →
    HasRoom ending all h → HasRoomUnder ending below h
room_under ending below all p h is done room going =
    let r = room going in
    record {
      entered = omega (arith, r.entered, slots_pushed below all p is);
      some = r.some;
      within = r.within;
      free = by ending done r.free;
    }
  where
    by : (ending : Ending) → (ending ≡ GoesOn → needs_step p ≡ false) → length h.items < h.slots + coming_off ending all → length h.items < h.slots + after_leave ending
    by GoesOn done lt = omega (arith, lt, first_pushed below all p is, done_destroys p (done refl))
    by (Returns q) done lt = lt
    by (Leaves code) done lt = lt
    by (Panics q) done lt = lt
    by (Cut why) done lt = lt
    by NoCleanup done lt = lt

pub entered_under : (ending : Ending) (below all : List PendingPiece) (p : PendingPiece) (h : RunState) → all ≡ below ++ p ∷ [] → is_stop ending ≡ false → HasRoom ending all h → slots_for p ≤ h.slots
entered_under ending below all p h is going room = let r = room going in omega (arith, r.entered, slots_pushed below all p is)

-- a piece that is done changes nothing, or its local alone
pub room_stays : (ending : Ending) (pieces : List PendingPiece) (h g : RunState) → length g.items ≤ length h.items → g.slots ≡ h.slots → HasRoomUnder ending pieces h → HasRoom ending pieces g
room_stays ending pieces h g fewer same room going =
    let r = room going in
    record {
      entered = omega (arith, r.entered, same);
      some = omega (arith, r.some, same);
      within = omega (arith, r.within, fewer, same);
      free = omega (arith, r.free, fewer, same, leave_off ending pieces);
    }

-- on top of which nothing is to be destroyed
pub room_free : (ending : Ending) (below all : List PendingPiece) (p : PendingPiece) (h : RunState) → ending ≡ GoesOn → all ≡ below ++ p ∷ [] → to_destroy p ≡ 0 → HasRoom ending all h → IsFree below h
room_free ending below all p h goes is none room =
    let r = subst (λ e. HasRoom e all h) goes room refl in
    record { entered = omega (arith, r.entered, slots_pushed below all p is); free = omega (arith, r.free, first_pushed below all p is, none) }

-- no item more, and no slot less
pub still_room : (ending : Ending) (old new : List PendingPiece) (h : RunState) → IsFree old h → slots_for_all new ≤ slots_for_all old → HasRoom ending new h
still_room ending old new h is entered = free_room ending old new h h is (omega (arith, entered)) (omega arith) refl

pub quiet_room : (ending : Ending) (old new : List PendingPiece) (h g : RunState) → IsFree old h → slots_for_all new ≤ slots_for_all old → IsQuiet h g → HasRoom ending new g
quiet_room ending old new h g is entered quiet = free_room ending old new h g is (omega (arith, entered)) quiet.items quiet.slots

-- a step that was counted
pub stepped_free : (pieces more : List PendingPiece) (h g : RunState) → g ≡ stepped h → slots_for_all more ≤ slots_for_all pieces → IsFree pieces h → IsFree more g
stepped_free pieces more h g is entered f =
    subst (λ (x : RunState). IsFree more x) (sym is) (record { entered = omega (arith, entered, f.entered); free = f.free })

-- and an item that was taken off then
pub taken_free : (pieces more : List PendingPiece) (h m g : RunState) → m ≡ stepped h → g ≡ without_newest m → slots_for_all more ≤ slots_for_all pieces → IsFreeAfter 1 pieces h →
    IsFree more g
taken_free pieces more h m g is taken entered f =
    let long : length (take (length h.items - 1) h.items) ≡ length h.items - 1 = length-take-le (length h.items - 1) h.items (omega arith) in
    subst (λ (x : RunState). IsFree more x) (sym (taken ∙ ap without_newest is))
    (record { entered = omega (arith, entered, f.entered); free = omega (arith, long, f.within, f.some) })

-- the piece on top is to destroy items
pub room_items : (ending : Ending) (below all : List PendingPiece) (p : PendingPiece) (h : RunState) → ending ≡ GoesOn → all ≡ below ++ p ∷ [] → HasRoom ending all h → IsFreeAfter 1 below h
room_items ending below all p h goes is room =
    let r = subst (λ e. HasRoom e all h) goes room refl in
    record { entered = omega (arith, r.entered, slots_pushed below all p is); some = r.some; within = r.within; free = omega (arith, r.within) }

-- a stop
pub stop_room : (ending : Ending) (pieces : List PendingPiece) (h : RunState) → is_stop ending ≡ true → HasRoom ending pieces h
stop_room ending pieces h stop going = let clash : true ≡ false = sym stop ∙ going in cc

-- a local that was set
pub stored_room : (ending : Ending) (pieces : List PendingPiece) (h g : RunState) (i : ℕ) (v : Value) → g ≡ stored h i v → HasRoomUnder ending pieces h → HasRoom ending pieces g
stored_room ending pieces h g i v is room =
    subst (λ (x : RunState). HasRoom ending pieces x) (sym is) (room_stays ending pieces h (stored h i v) (omega arith) refl room)

-- a leave that a TRAP takes
pub leave_room : (ending goes : Ending) (entry : ℕ) (old new : List PendingPiece) (h : RunState) → is_stop ending ≡ false → goes ≡ GoesOn → entry < h.slots →
    slots_for_all new ≤ slots_for_all old → to_destroy_first new ≡ length h.items - entry → HasRoomUnder ending old h → HasRoom goes new h
leave_room ending goes entry old new h going is had entered first room _ =
    let r = room going in
    subst (λ e. IsFreeAfter (coming_off e new) new h) (sym is) (record {
      entered = omega (arith, entered, r.entered);
      some = r.some;
      within = r.within;
      free = omega (arith, first, had, r.within);
    })

-- `main` has ended, and no item is left
pub main_room : (ending goes : Ending) (pieces : List PendingPiece) (h : RunState) → is_stop ending ≡ false → length h.items ≡ 0 → HasRoomUnder ending pieces h → HasRoom goes pieces h
main_room ending goes pieces h going none room _ =
    let r = room going in record { entered = r.entered; some = r.some; within = r.within; free = omega (arith, none, r.some) }

-- another ending of a piece that is done
pub passed_room : (ending goes : Ending) (pieces : List PendingPiece) (h g : RunState) → after_leave ending ≡ 0 → is_stop ending ≡ false → length g.items ≤ length h.items → g.slots ≡ h.slots →
    HasRoomUnder ending pieces h → HasRoom goes pieces g
passed_room ending goes pieces h g plain going fewer same room _ =
    let r = room going in
    record {
      entered = omega (arith, r.entered, same);
      some = omega (arith, r.some, same);
      within = omega (arith, r.within, fewer, same);
      free = omega (arith, r.free, plain, fewer, same);
    }

-- attempt 1 was granted, and `main` begins
started_items : (h : RunState) (g : Gave) → ((started_by h g).items ≡ h.items) × ((started_by h g).slots ≡ h.slots)
started_items h (gave.Granted p) = (refl, refl)
started_items h gave.Denied = (refl, refl)
started_items h gave.Ceiling = (refl, refl)

pub begun_room : (ending : Ending) (pieces : List PendingPiece) (h m g : RunState) (locals : List Local) → h ≡ first_state (keeps_rises h.debug) h.debug.rule h.debug.shape →
    m ≡ started_by (with_debug h (first_made h).debug) (first_made h).gave → g ≡ entered m locals → slots_for_all pieces ≡ 0 → HasRoom ending pieces g
begun_room ending pieces h m g locals start begun is none going =
    let of = started_items (with_debug h (first_made h).debug) (first_made h).gave in
    let items : length g.items ≡ 0 =
    ap (λ (x : RunState). length x.items) is ∙ ap (λ (x : RunState). length x.items) begun ∙ ap length of.0 ∙ ap (λ (x : RunState). length x.items) start in
    let slots : g.slots ≡ 8 = ap (λ (x : RunState). x.slots) is ∙ ap (λ (x : RunState). x.slots) begun ∙ of.1 ∙ ap (λ (x : RunState). x.slots) start in
    record { entered = omega (arith, none); some = omega (arith, slots); within = omega (arith, items); free = omega (arith, items, slots) }

-- what one of the branches of a turn made
pub moved_room : (made mid : Control) (st g : RunState) → mid ≡ made → g ≡ st → HasRoom made.ending made.pieces.items st → HasRoom mid.ending mid.pieces.items g
moved_room made mid st g e d room =
    subst (λ (x : Control). HasRoom x.ending x.pieces.items g) (sym e) (subst (λ (x : RunState). HasRoom made.ending made.pieces.items x) (sym d) room)

-- a caller's frame again
pub back_room : (ending : Ending) (pieces : List PendingPiece) (h g : RunState) (this : Ptr) (base : ℕ) → g ≡ called_back h this base → HasRoomUnder ending pieces h → HasRoom ending pieces g
back_room ending pieces h g this base is room =
    subst (λ (x : RunState). HasRoom ending pieces x) (sym is) (room_stays ending pieces h (called_back h this base) (omega arith) refl room)
