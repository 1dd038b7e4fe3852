-- Each number that a state beside another holds is of an attempt made; so a run that begins so goes on so.
use Rattle.std.proofs.Common.{ℕ, ◌≤◌, ◌⊎◌, inl, inr, List, [], refl, subst, sym, arith}
use Rattle.wb_heap_model.specs.declared.heap.Header.{Header}
use Rattle.wb_heap_model.specs.declared.heap.Item.{Item}
use Rattle.wb_heap_model.specs.declared.heap.Ptr.{Ptr}
use Rattle.wb_heap_model.specs.declared.heap.Rule.{Rule}
use Rattle.wb_tree.specs.declared.script.Script.{Script}
use Rattle.wb_heap_model.specs.declared.text.Base.{Base}
use Rattle.wb_heap_model.specs.declared.text.View.{View}
use Rattle.wb_heap_model.specs.Heap.{Heap}
use Rattle.wb_heap_model.specs.Row.{Cell}
use Rattle.wb_heap_model.specs.Space.{Space}
use Rattle.wb_meaning.specs.Meaning.{meaning_of}
use Rattle.wb_heap_model.specs.Contents.{Content}
use Rattle.wb_meaning.specs.State.{Value, Frame, State, Process}
use Rattle.wb_meaning.specs.Statements.{Context, Layer, statement}
use Rattle.wb_meaning.specs.Account.{Account, Settled, settled}
use Rattle.wb_meaning.specs.Rest.{Progress, left_to_do}
use Rattle.wb_renaming.specs.SameButNumbers.{Renames, Renaming, IsRenaming, up_to, since_fork, HoldsMadeNumbers, AllBeside, none_beside, one_beside, IsSamePointer, IsSameHeader, IsSameContent, same_words, same_fields, same_units, same_none, IsSameCell, IsSameHeap, IsSameItem, same_free, same_delete, same_call, IsSameBase, same_nothing, same_literal, same_local, same_cell, IsSameView, IsSameValue, same_pointer, same_number, same_buffer, same_view, IsSameFrame, IsSameState, IsSameProgress}
use Rattle.wb_renaming.specs.Follows.{Follows, steps_of}
use Rattle.wb_renaming.proofs.FollowPieces.{left_to_do-follows, meaning-follows, meaning-late}
use Rattle.wb_renaming.proofs.FollowRuns.{SettlesAlike, IsCutFirst, settles}
use Rattle.wb_renaming.proofs.FollowStatements.{statement-follows}
use Rattle.wb_renaming.proofs.SameForks.{forked-renaming, shared-named}

all-itself : {A B : Type 0} {R : A → B → Type 0} {S : A → A → Type 0} {xs : List A} {ys : List B} → ((x : A) (y : B) → R x y → S x x) → AllBeside R xs ys → AllBeside S xs xs
all-itself f none_beside = none_beside
all-itself f (one_beside r rest) = one_beside (f _ _ r) (all-itself f rest)

module _ {v : Renaming} (is : IsRenaming v) where
  number-itself : (a b : ℕ) → Renames v.names a b → Renames (up_to v.made) a a
  number-itself a b r = let before = is.made_before a b r in shared-named v.made a a refl before.0

  pointer-itself : {p q : Ptr} → IsSamePointer v.names p q → IsSamePointer (up_to v.made) p p
  pointer-itself {p = p} {q = q} s = record { place = refl; number = number-itself p.number q.number s.number }

  header-itself : {h g : Header} → IsSameHeader v.names h g → IsSameHeader (up_to v.made) h h
  header-itself {h = h} {g = g} s = record { place = refl; length = refl; kind = refl; level = refl; number = number-itself h.number g.number s.number }

  content-itself : {c d : Content} → IsSameContent v.names c d → IsSameContent (up_to v.made) c c
  content-itself (same_words ws) = same_words ws
  content-itself (same_fields s) = same_fields (all-itself (λ p q r. pointer-itself r) s)
  content-itself (same_units us) = same_units us
  content-itself same_none = same_none

  cell-itself : {c d : Cell Content} → IsSameCell v.names c d → IsSameCell (up_to v.made) c c
  cell-itself s = record { head = header-itself s.head; content = content-itself s.content }

  heap-itself : {h g : Heap Content} → IsSameHeap v.names h g → IsSameHeap (up_to v.made) h h
  heap-itself s = record { row = all-itself (λ c d r. cell-itself r) s.row; level = refl; setting = refl; placement = refl }

  item-itself : {i j : Item} → IsSameItem v.names i j → IsSameItem (up_to v.made) i i
  item-itself (same_free s) = same_free (pointer-itself s)
  item-itself (same_delete s) = same_delete (pointer-itself s)
  item-itself (same_call operation s) = same_call operation (pointer-itself s)

  base-itself : {b c : Base} → IsSameBase v.names b c → IsSameBase (up_to v.made) b b
  base-itself same_nothing = same_nothing
  base-itself (same_literal i) = same_literal i
  base-itself (same_local i) = same_local i
  base-itself (same_cell s) = same_cell (pointer-itself s)

  view-itself : {x y : View} → IsSameView v.names x y → IsSameView (up_to v.made) x x
  view-itself s = record { base = base-itself s.base; position = refl; length = refl }

  value-itself : {x y : Value} → IsSameValue v.names x y → IsSameValue (up_to v.made) x x
  value-itself (same_pointer s) = same_pointer (pointer-itself s)
  value-itself (same_number z) = same_number z
  value-itself (same_buffer max us) = same_buffer max us
  value-itself (same_view s) = same_view (view-itself s)

  frame-itself : {f g : Frame} → IsSameFrame v.names f g → IsSameFrame (up_to v.made) f f
  frame-itself s = record { this = pointer-itself s.this; locals = all-itself (λ x y r. value-itself r) s.locals }

  pub state-itself : {st other : State} → IsSameState v.names st other → HoldsMadeNumbers v.made st
  state-itself s = record {
    heap = heap-itself s.heap;
    cleanup = pointer-itself s.cleanup;
    items = all-itself (λ i j r. item-itself r) s.items;
    slots = refl;
    frame = frame-itself s.frame;
  }

-- the numbers up to the attempts made stand for themselves
abbrev itself : ℕ → Renaming
itself made = since_fork made [] made made

itself-renaming : (made : ℕ) → IsRenaming (itself made)
itself-renaming made = forked-renaming made made made [] (record {
  once = λ a b c r s. absurd r;
  apart = λ a b c r s. absurd r;
  later = λ a b r. absurd r;
  made_before = λ a b r. absurd r;
  shared = (omega arith, omega arith);
})

-- what a process that follows itself settles to
settles-made : (budget : ℕ) (r : Rule) (space : Space) (p : Process) (a : Account) → Follows budget 0 (itself a.attempts) p p →
    HoldsMadeNumbers (settled r space p a).account.attempts (settled r space p a).state
settles-made budget r space p a f = by (settles budget 0 r r space space f a a refl refl (λ n end from. refl))
  where
    x : Settled
    x = settled r space p a

    by : SettlesAlike budget 0 (itself a.attempts) x x ⊎ IsCutFirst budget 0 x x → HoldsMadeNumbers x.account.attempts x.state
    by (inl s) = subst (λ n. HoldsMadeNumbers n x.state) (sym s.made) (state-itself s.beside.renamed s.beside.same)
    by (inr s) = let past = s.late.past in let within = s.late.within in absurd (omega (arith, past, within))

pub progress-made : (script : Script) (budget : ℕ) (r : Rule) (space : Space) (p : Progress) (a : Account) → IsSameProgress (up_to a.attempts) p p → steps_of p ≤ budget →
    HoldsMadeNumbers (settled r space (left_to_do script budget p) a).account.attempts (settled r space (left_to_do script budget p) a).state
progress-made script budget r space p a same within =
    settles-made budget r space (left_to_do script budget p) a
    (left_to_do-follows budget 0 script (record { renamed = itself-renaming a.attempts; same = same; steps = omega arith; within = within }))

pub statement-made : (script : Script) (budget : ℕ) (r : Rule) (space : Space) (at : Context) (s : Layer) (st : State) (a : Account) → HoldsMadeNumbers a.attempts st → st.steps ≤ budget →
    HoldsMadeNumbers (settled r space (statement script (meaning_of script budget) at s st) a).account.attempts (settled r space (statement script (meaning_of script budget) at s st) a).state
statement-made script budget r space at s st a made within =
    settles-made budget r space (statement script (meaning_of script budget) at s st) a
    (statement-follows budget 0 script (meaning_of script budget) (meaning_of script budget) at s st st (meaning-follows budget 0 script) (meaning-late budget 0 script)
    (record { renamed = itself-renaming a.attempts; same = made; steps = omega arith; within = within }))
