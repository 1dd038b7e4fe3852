use Rattle.std.proofs.Common.{◌≡◌, ◌∷◌, ◌++◌, [], List, ◌-◌, take, drop, length, vec_len, refl, ap, ◌∙◌, sym, subst, arith}
use Rattle.wb_tree.specs.declared.script.StatementAt.{StatementAt}
use Rattle.wb_meaning.specs.Statements.{all, turns, destroy_items, destroy_object}
use Rattle.wb_meaning.specs.Rest.{doing}
use Rattle.wb_machine.specs.declared.pieces.PendingPiece.{PendingPiece}
use Rattle.wb_machine.specs.declared.pieces.PendingPiece.TheVariants.{Code, Turns, Items, Object}
use Rattle.wb_machine.specs.Flow.{context_of, AreOwn, rest_from, rest_of_piece}
use Rattle.wb_machine.proofs.effects.Outcomes.{on_ok_then, on_ok_anyhow, split_first}
use Rattle.wb_machine.proofs.kept.WholeCells.{stepped_whole}
use Rattle.wb_machine.proofs.turns.Steps.{pending_pushed, rest_on_top, rest_stepped}
use Rattle.wb_machine.proofs.turns.Scripts.{own_first, own_rest, sound_below, sound_pushed, sound_top}
use Rattle.wb_machine.proofs.kept.SlotsKept.{room_free, room_items, slots_pushed, stepped_free, still_room}
use Rattle.wb_machine.proofs.control.Control.step.Goals as goal

pub step_code-requires-clause-own : goal.step_code-requires-clause-own
step_code-requires-clause-own c =
    let script = c.args.script.now in
    let arm = c.in-Code-default-len1-up in
    let old = c.args.self.now.pieces.items in
    let below = take (vec_len c.args.self.now.pieces - 1) old in
    let top : old ≡ below ++ Code arm.at arm.field-1 ∷ [] = c.top.ensures.top ∙ ap (λ (p : PendingPiece). below ++ p ∷ []) arm.is in
    let ss = arm.field-1.now in
    let rest = take (length ss - 1) (drop 1 ss) in
    let split : ss ≡ c.first-item.result ∷ rest = split_first ss c.first-item.result c.first-item.is arm.len_at_least in
    own_first script c.first-item.result rest (subst (AreOwn script) split (sound_top script below old (Code arm.at arm.field-1) top c.requires.may.sound))

pub step_code-requires-clause-may : goal.step_code-requires-clause-may
step_code-requires-clause-may c =
    let script = c.args.script.now in
    let arm = c.in-Code-default-len1-up in
    let old = c.args.self.now.pieces.items in
    let below = take (vec_len c.args.self.now.pieces - 1) old in
    let top : old ≡ below ++ Code arm.at arm.field-1 ∷ [] = c.top.ensures.top ∙ ap (λ (p : PendingPiece). below ++ p ∷ []) arm.is in
    let ss = arm.field-1.now in
    let rest = take (length ss - 1) (drop 1 ss) in
    let split : ss ≡ c.first-item.result ∷ rest = split_first ss c.first-item.result c.first-item.is arm.len_at_least in
    let mid = c.replace_top.new.self.pieces.items in
    let pushed = c.replace_top.ensures.pieces below (Code arm.at arm.field-1) top in
    let own = subst (AreOwn script) split (sound_top script below old (Code arm.at arm.field-1) top c.requires.may.sound) in
    let free = room_free c.args.self.now.ending below old (Code arm.at arm.field-1) c.args.state.now c.requires.may.ready.0 top refl c.requires.may.room in
    record {
      going = c.replace_top.ensures.ending ∙ c.requires.may.ready.0;
      sound = sound_pushed script below mid _ pushed (sound_below script below old (Code arm.at arm.field-1) top c.requires.may.sound) (own_rest script c.first-item.result rest own);
      free = record { entered = omega (arith, free.entered, slots_pushed below mid _ pushed); free = free.free };
      stack = c.requires.may.stack;
      number = c.requires.may.number;
      level = c.requires.may.level;
    }

pub returns-in-Code-default-len1-up-clause-kept : goal.returns-in-Code-default-len1-up-clause-kept
returns-in-Code-default-len1-up-clause-kept c =
    on_ok_then c.step_code.result c.step_code.ensures.kept (λ kept r budget within f.
    let script = c.args.script.now in
    let arm = c.in-Code-default-len1-up in
    let old = c.args.self.now.pieces.items in
    let below = take (vec_len c.args.self.now.pieces - 1) old in
    let top : old ≡ below ++ Code arm.at arm.field-1 ∷ [] = c.top.ensures.top ∙ ap (λ (p : PendingPiece). below ++ p ∷ []) arm.is in
    let ss = arm.field-1.now in
    let rest = take (length ss - 1) (drop 1 ss) in
    let split : ss ≡ c.first-item.result ∷ rest = split_first ss c.first-item.result c.first-item.is arm.len_at_least in
    let mid = c.replace_top.new.self.pieces.items in
    let h = c.args.state.now in
    let at = context_of arm.at in
    rest_stepped script budget r at c.first-item.result rest below mid c.step_code.new.self.pieces.items c.step_code.new.self.ending h c.step_code.new.state
    (pending_pushed h.callers below mid _ (c.replace_top.ensures.pieces below (Code arm.at arm.field-1) top)) within (kept r budget f)
    ∙ ap (λ (ss : List StatementAt). rest_of_piece script budget r (doing at (all ss)) below h) (sym split)
    ∙ sym (ap (λ e. rest_from script budget r e old h) c.requires.may.ready.0 ∙ rest_on_top script budget r old below (doing at (all ss)) h (pending_pushed h.callers below old (Code arm.at arm.field-1) top)))

pub returns-in-Turns-clause-kept : goal.returns-in-Turns-clause-kept
returns-in-Turns-clause-kept c =
    on_ok_then c.step_turns.result c.step_turns.ensures.kept (λ kept r budget within f.
    let script = c.args.script.now in
    let arm = c.in-Turns in
    let old = c.args.self.now.pieces.items in
    let below = take (vec_len c.args.self.now.pieces - 1) old in
    let top : old ≡ below ++ Turns arm.at arm.left arm.body ∷ [] = c.top.ensures.top ∙ ap (λ (p : PendingPiece). below ++ p ∷ []) arm.is in
    let h = c.args.state.now in
    kept script r budget below top within
    ∙ sym (ap (λ e. rest_from script budget r e old h) c.requires.may.ready.0 ∙ rest_on_top script budget r old below (doing (context_of arm.at) (turns arm.left arm.body.now)) h (pending_pushed h.callers below old (Turns arm.at arm.left arm.body) top)))

pub returns-in-Turns-clause-sound : goal.returns-in-Turns-clause-sound
returns-in-Turns-clause-sound c =
    let script = c.args.script.now in
    let arm = c.in-Turns in
    let old = c.args.self.now.pieces.items in
    let below = take (vec_len c.args.self.now.pieces - 1) old in
    let top : old ≡ below ++ Turns arm.at arm.left arm.body ∷ [] = c.top.ensures.top ∙ ap (λ (p : PendingPiece). below ++ p ∷ []) arm.is in
    on_ok_then c.step_turns.result c.step_turns.ensures.sound (λ sound.
    sound script below top (sound_top script below old (Turns arm.at arm.left arm.body) top c.requires.may.sound) (sound_below script below old (Turns arm.at arm.left arm.body) top c.requires.may.sound))

pub returns-in-Turns-clause-whole : goal.returns-in-Turns-clause-whole
returns-in-Turns-clause-whole c = on_ok_anyhow c.step_turns.result (stepped_whole c.args.script.now c.args.state.now c.step_turns.new.state c.step_turns.ensures.state)

pub returns-in-Turns-clause-room : goal.returns-in-Turns-clause-room
returns-in-Turns-clause-room c =
    let arm = c.in-Turns in
    let old = c.args.self.now.pieces.items in
    let below = take (vec_len c.args.self.now.pieces - 1) old in
    let top : old ≡ below ++ Turns arm.at arm.left arm.body ∷ [] = c.top.ensures.top ∙ ap (λ (p : PendingPiece). below ++ p ∷ []) arm.is in
    let h = c.args.state.now in
    let g = c.step_turns.new.state in
    on_ok_then c.step_turns.result c.step_turns.ensures.slots (λ slots.
    still_room c.step_turns.new.self.ending below c.step_turns.new.self.pieces.items g
    (stepped_free below below h g c.step_turns.ensures.state (omega arith) (room_free c.args.self.now.ending below old (Turns arm.at arm.left arm.body) h c.requires.may.ready.0 top refl c.requires.may.room)) (slots below top))

pub step_items-requires-clause-free : goal.step_items-requires-clause-free
step_items-requires-clause-free c =
    let arm = c.in-Items in
    let old = c.args.self.now.pieces.items in
    let below = c.drop_top.new.self.pieces.items in
    let top : old ≡ below ++ Items arm.at arm.left ∷ [] =
    c.top.ensures.top ∙ ap (λ (ps : List PendingPiece). ps ++ c.top.result ∷ []) (sym c.drop_top.ensures.pieces) ∙ ap (λ (p : PendingPiece). below ++ p ∷ []) arm.is in
    room_items c.args.self.now.ending below old (Items arm.at arm.left) c.args.state.now c.requires.may.ready.0 top c.requires.may.room

pub returns-in-Items-clause-kept : goal.returns-in-Items-clause-kept
returns-in-Items-clause-kept c =
    on_ok_then c.step_items.result c.step_items.ensures.kept (λ kept r budget within f.
    let script = c.args.script.now in
    let arm = c.in-Items in
    let old = c.args.self.now.pieces.items in
    let below = c.drop_top.new.self.pieces.items in
    let top : old ≡ below ++ Items arm.at arm.left ∷ [] =
    c.top.ensures.top ∙ ap (λ (ps : List PendingPiece). ps ++ c.top.result ∷ []) (sym c.drop_top.ensures.pieces) ∙ ap (λ (p : PendingPiece). below ++ p ∷ []) arm.is in
    let h = c.args.state.now in
    kept r budget within
    ∙ sym (ap (λ e. rest_from script budget r e old h) c.requires.may.ready.0 ∙ rest_on_top script budget r old below (doing (context_of arm.at) (destroy_items arm.left)) h (pending_pushed h.callers below old (Items arm.at arm.left) top)))

pub returns-in-Items-clause-sound : goal.returns-in-Items-clause-sound
returns-in-Items-clause-sound c =
    let arm = c.in-Items in
    let old = c.args.self.now.pieces.items in
    let below = c.drop_top.new.self.pieces.items in
    let top : old ≡ below ++ Items arm.at arm.left ∷ [] =
    c.top.ensures.top ∙ ap (λ (ps : List PendingPiece). ps ++ c.top.result ∷ []) (sym c.drop_top.ensures.pieces) ∙ ap (λ (p : PendingPiece). below ++ p ∷ []) arm.is in
    on_ok_then c.step_items.result c.step_items.ensures.sound (λ sound. sound (sound_below c.args.script.now below old (Items arm.at arm.left) top c.requires.may.sound))

pub step_object-requires-clause-free : goal.step_object-requires-clause-free
step_object-requires-clause-free c =
    let arm = c.in-Object in
    let old = c.args.self.now.pieces.items in
    let below = c.drop_top-in-Object.new.self.pieces.items in
    let top : old ≡ below ++ Object arm.at arm.ptr ∷ [] =
    c.top.ensures.top ∙ ap (λ (ps : List PendingPiece). ps ++ c.top.result ∷ []) (sym c.drop_top-in-Object.ensures.pieces) ∙ ap (λ (p : PendingPiece). below ++ p ∷ []) arm.is in
    room_free c.args.self.now.ending below old (Object arm.at arm.ptr) c.args.state.now c.requires.may.ready.0 top refl c.requires.may.room

pub returns-in-Object-clause-kept : goal.returns-in-Object-clause-kept
returns-in-Object-clause-kept c =
    on_ok_then c.step_object.result c.step_object.ensures.kept (λ kept r budget within f.
    let script = c.args.script.now in
    let arm = c.in-Object in
    let old = c.args.self.now.pieces.items in
    let below = c.drop_top-in-Object.new.self.pieces.items in
    let top : old ≡ below ++ Object arm.at arm.ptr ∷ [] =
    c.top.ensures.top ∙ ap (λ (ps : List PendingPiece). ps ++ c.top.result ∷ []) (sym c.drop_top-in-Object.ensures.pieces) ∙ ap (λ (p : PendingPiece). below ++ p ∷ []) arm.is in
    let h = c.args.state.now in
    kept r budget within
    ∙ sym (ap (λ e. rest_from script budget r e old h) c.requires.may.ready.0 ∙ rest_on_top script budget r old below (doing (context_of arm.at) (destroy_object arm.ptr)) h (pending_pushed h.callers below old (Object arm.at arm.ptr) top)))

pub returns-in-Object-clause-sound : goal.returns-in-Object-clause-sound
returns-in-Object-clause-sound c =
    let arm = c.in-Object in
    let old = c.args.self.now.pieces.items in
    let below = c.drop_top-in-Object.new.self.pieces.items in
    let top : old ≡ below ++ Object arm.at arm.ptr ∷ [] =
    c.top.ensures.top ∙ ap (λ (ps : List PendingPiece). ps ++ c.top.result ∷ []) (sym c.drop_top-in-Object.ensures.pieces) ∙ ap (λ (p : PendingPiece). below ++ p ∷ []) arm.is in
    on_ok_then c.step_object.result c.step_object.ensures.sound (λ sound. sound (sound_below c.args.script.now below old (Object arm.at arm.ptr) top c.requires.may.sound))
