-- Wherever a run goes on, the cleanup stack has a free slot, for every script: the induction over what is still to do.
use Rattle.std.proofs.Common.{◌≡◌, ℕ, zero, suc, ◌+◌, ◌-◌, ◌≤◌, Bool, true, false, [], ◌∷◌, length, take, length-take-le, arith, Option, Some, None}
use Rattle.std.specs.Prelude.{nat_lt}
use Rattle.wb_heap_model.specs.declared.heap.Ptr.{Ptr}
use Rattle.wb_tree.specs.declared.script.Script.{Script}
use Rattle.wb_tree.specs.declared.script.Statement.TheViews.{out-Statement}
use Rattle.wb_meaning.specs.State.{State, Way, goes_on, returns, leaves, Process, ends, stops, asks, notes, is_cut}
use Rattle.wb_meaning.specs.Statements.{Todo, all, turns, destroy_items, destroy_object, Context, Meaning, drop_newest}
use Rattle.wb_heap_model.specs.declared.heap.Rule.{Rule}
use Rattle.wb_heap_model.specs.declared.heap.Answer.{Answer}
use Rattle.wb_meaning.specs.declared.run.Why.TheVariants.{Ceiling}
use Rattle.wb_heap_model.specs.Placement.{Placement}
use Rattle.wb_heap_model.specs.Rules.{answer_to}
use Rattle.wb_heap_model.specs.Space.{Space}
use Rattle.wb_meaning.specs.Account.{End, over, stopped, Account, settled, on_answer, next_number, recorded, noted}
use Rattle.wb_meaning.specs.Meaning.{begun_if, begun, piece, meaning_within, meaning_of}
use Rattle.wb_meaning.specs.Run.{start, main_trapped, in_main, started, process}
use Rattle.wb_meaning.specs.FreeSlots.{HasFreeSlot, WhereverItGoesOn}
use Rattle.wb_meaning.proofs.FreeSlots.{HasFree, EndsFree, KeepsFree, and_then-free, then_do-free, require-free, with_some-free, with_class-free, allocate-free, release-free, plain-free, FindsFree, KeepsAll, inside, in_frame-free, destroyed_item-free}
use Rattle.wb_meaning.proofs.EachStatement.{statement-free}

begun-free : (least budget : ℕ) (st : State) (go : State → Process) → KeepsFree least (go (record st { steps = st.steps + 1 })) → KeepsFree least (begun budget st go)
unfolding begun begun_if
begun-free least budget st go k = by (nat_lt st.steps budget)
  where
    by : (b : Bool) → KeepsFree least (begun_if b st go)
    by true = k
    by false = tt

-- the newest item is off a stack that may have been full
taken-free : (st : State) → length st.items ≤ st.slots → 1 ≤ st.slots → HasFree st.slots (drop_newest 1 st)
taken-free st fits some =
    let long : length (take (length st.items - 1) st.items) ≡ length st.items - 1 = length-take-le (length st.items - 1) st.items (omega arith) in
    (omega arith, omega (arith, long, fits, some))

module _ (script : Script) (budget : ℕ) where
  piece-free : (rec : Meaning) → KeepsAll rec → KeepsAll (piece script budget rec)
  unfolding piece
  piece-free rec keeps at (all []) st finds = (omega arith, finds)
  piece-free rec keeps at (all (s ∷ rest)) st finds =
      begun-free st.slots budget st _ (then_do-free st.slots _ _ (statement-free rec keeps st.slots script at (out-Statement s.statement) (record st { steps = st.steps + 1 }) (omega arith, finds))
      (λ after f. inside rec keeps st.slots _ (all rest) after f.0 f.1))
  piece-free rec keeps at (turns zero body) st finds = (omega arith, finds)
  piece-free rec keeps at (turns (suc n) body) st finds =
      begun-free st.slots budget st _ (then_do-free st.slots _ _ (inside rec keeps st.slots _ (all body) (record st { steps = st.steps + 1 }) (omega arith) finds)
      (λ after f. inside rec keeps st.slots _ (turns n body) after f.0 f.1))
  piece-free rec keeps at (destroy_items zero) st finds = (omega arith, omega (arith, finds.1))
  piece-free rec keeps at (destroy_items (suc n)) st finds =
      begun-free st.slots budget st _ (with_some-free st.slots _ _ _ _ (λ item.
      then_do-free st.slots _ _ (destroyed_item-free rec keeps st.slots script at item (drop_newest 1 (record st { steps = st.steps + 1 })) (taken-free (record st { steps = st.steps + 1 }) finds.0 finds.2))
      (λ after f. inside rec keeps st.slots _ (destroy_items n) after f.0 (omega (arith, f.1), omega (arith, f.1), omega (arith, f.1)))))
  piece-free rec keeps at (destroy_object p) st finds =
      begun-free st.slots budget st _ (with_class-free st.slots _ _ _ (λ class.
      in_frame-free rec keeps st.slots _ _ _ _ (record st { steps = st.steps + 1 }) _ (omega arith, finds) (λ w after e. plain-free st.slots _ w after e (λ _ left f. release-free st.slots p left f))))

  meaning_within-free : (n : ℕ) → KeepsAll (meaning_within script budget n)
  unfolding meaning_within
  meaning_within-free zero at p st finds = tt
  meaning_within-free (suc n) at p st finds = piece-free (meaning_within script budget n) (meaning_within-free n) at p st finds

  meaning-free : KeepsAll (meaning_of script budget)
  unfolding meaning_of
  meaning-free at p st finds = meaning_within-free (suc budget) at p st finds

  main_trapped-free : (at : Context) (w : Way) (st : State) → EndsFree 8 w st → KeepsFree 8 (main_trapped (meaning_of script budget) at w st)
  unfolding main_trapped
  main_trapped-free at goes_on st f = require-free 8 _ _ _ _ f
  main_trapped-free at (returns p) st f = require-free 8 _ _ _ _ f
  main_trapped-free at (leaves code) st f =
      then_do-free 8 _ _ (inside (meaning_of script budget) meaning-free 8 _ _ st f.0 (f.1, omega (arith, f.0), omega (arith, f.0))) (λ st f. (f.0, omega (arith, f.1)))

  started-free : (o : Option Ptr) (st : State) → HasFree 8 st → KeepsFree 8 (started (meaning_of script budget) script o st)
  unfolding started in_main
  started-free None st f = tt
  started-free (Some p) st f = and_then-free 8 _ _ (inside (meaning_of script budget) meaning-free 8 _ _ _ f.0 f.1) (λ w st e. main_trapped-free _ w st e)

  process-free : (placement : Placement) → KeepsFree 8 (process script budget placement)
  unfolding process
  process-free placement = allocate-free 8 _ _ _ (start placement) _ (omega arith, omega arith) (λ o heap. started-free o _ (omega arith, omega arith))

-- how a process ends under a rule, where it keeps a slot free
abbrev pub ShownFree : ℕ → End → State → Type 0
ShownFree least (over way) st = EndsFree least way st
ShownFree least (stopped stop) st = Unit {0}

pub settled-free : (least : ℕ) (rule : Rule) (space : Space) (p : Process) (a : Account) → KeepsFree least p →
    ShownFree least (settled rule space p a).end (settled rule space p a).state
settled-free least rule space (ends way st) a k = k
settled-free least rule space (stops stop st) a k = tt
settled-free least rule space (asks t cut go) a k =
    told (answer_to rule (next_number a) t) (λ w. settled-free least rule space (go (next_number a) w) (recorded space (next_number a) t w a) (k.1 (next_number a) w))
  where
    told : (o : Option Answer) →
        ((w : Answer) → ShownFree least (settled rule space (go (next_number a) w) (recorded space (next_number a) t w a)).end
        (settled rule space (go (next_number a) w) (recorded space (next_number a) t w a)).state) →
        ShownFree least (on_answer o (record { end = stopped (is_cut Ceiling); state = cut; account = a })
        (λ w. settled rule space (go (next_number a) w) (recorded space (next_number a) t w a))).end
        (on_answer o (record { end = stopped (is_cut Ceiling); state = cut; account = a })
        (λ w. settled rule space (go (next_number a) w) (recorded space (next_number a) t w a))).state
    told None rest = tt
    told (Some w) rest = rest w
settled-free least rule space (notes q p) a k = settled-free least rule space p (noted space q a) k

-- what is said of ways to end is more than what is said of going on
onward : (least : ℕ) (p : Process) → KeepsFree least p → WhereverItGoesOn HasFreeSlot p
onward least (ends goes_on st) k = k.1
onward least (ends (returns p) st) k = k.1
onward least (ends (leaves code) st) k = tt
onward least (stops stop st) k = tt
onward least (asks t cut go) k = (k.0.1, λ n a. onward least (go n a) (k.1 n a))
onward least (notes q p) k = onward least p k

finds : (p : Todo) (st : State) → HasFreeSlot st → FindsFree p st
finds (all ss) st free = free
finds (turns n body) st free = free
finds (destroy_items n) st free = (omega (arith, free), omega (arith, free), omega (arith, free))
finds (destroy_object p) st free = free

pub run-has_free_slot : (script : Script) (budget : ℕ) (placement : Placement) → WhereverItGoesOn HasFreeSlot (process script budget placement)
run-has_free_slot script budget placement = onward 8 (process script budget placement) (process-free script budget placement)

pub piece-has_free_slot : (script : Script) (budget : ℕ) (at : Context) (p : Todo) (st : State) → HasFreeSlot st → WhereverItGoesOn HasFreeSlot (meaning_of script budget at p st)
piece-has_free_slot script budget at p st free = onward st.slots (meaning_of script budget at p st) (meaning-free script budget at p st (finds p st free))
