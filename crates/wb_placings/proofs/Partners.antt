-- Pointers of a run in a heap where each growing cell moves, each with its partner, which the other run holds in its place; and what it means that two states
-- are the same but for that. A pointer of the first has one partner. Two of its pointers may have the same: one whose cell has moved, and the one that it got.
use Rattle.std.proofs.Common.{◌≡◌, ◌⊎◌, ℕ, ℤ, ◌+◌, ◌≤◌, List, [], ◌∷◌, inl, inr, refl, sym, ap, ◌∙◌, arith}
use Rattle.wb_heap_model.specs.declared.heap.Answer.{Answer}
use Rattle.wb_heap_model.specs.declared.heap.Answer.TheVariants.{Granted, Simulated, Refused}
use Rattle.wb_heap_model.specs.declared.heap.Header.{Header}
use Rattle.wb_heap_model.specs.declared.heap.Item.{Item}
use Rattle.wb_heap_model.specs.declared.heap.Item.TheVariants as I
use Rattle.wb_heap_model.specs.declared.heap.Ptr.{Ptr}
use Rattle.wb_heap_model.specs.declared.text.Base.{Base}
use Rattle.wb_heap_model.specs.declared.text.Base.TheVariants as B
use Rattle.wb_heap_model.specs.declared.text.View.{View}
use Rattle.wb_heap_model.specs.Row.{Cell, pointer_to}
use Rattle.wb_heap_model.specs.Contents.{Content, words, fields, units, none}
use Rattle.wb_meaning.specs.State.{Value, pointer, number, buffer, view, Frame, Way, goes_on, returns, leaves}
use Rattle.wb_heap_model.specs.Pointers.{null, is_null}
use Rattle.wb_meaning.specs.Statements.{Todo, all, turns, destroy_items, destroy_object}
use Rattle.wb_tree.specs.declared.script.StatementAt.{StatementAt}
use Rattle.wb_renaming.specs.SameButNumbers.{AllBeside}
use Rattle.wb_renaming.proofs.SameNumbers.{all-weaker}

-- pointers, each with its partner
abbrev pub PointerPairs : Type 0
PointerPairs = List (Ptr × Ptr)

abbrev pub IsListed : PointerPairs → Ptr → Ptr → Type 0
IsListed [] p q = ⊥
IsListed (x ∷ pairs) p q = ((p ≡ x.0) × (q ≡ x.1)) ⊎ IsListed pairs p q

-- the second is the first's partner
pub record Stands (pairs : PointerPairs) (p q : Ptr) : Type 0 where
  pub listed : IsListed pairs p q

pub newest-stands : (pairs : PointerPairs) (p q : Ptr) → Stands ((p, q) ∷ pairs) p q
newest-stands pairs p q = record { listed = inl (refl, refl) }

-- and how many attempts each of the two runs has made
pub record Partners : Type 0 where
  pub pairs : PointerPairs
  pub made : ℕ

-- null's partner is null, and it is no other's; each pointer has one; and none has the number of an attempt that is still to be made
pub record ArePartners (w : Partners) : Type 0 where
  pub null : Stands w.pairs null null
  pub once : (p q r : Ptr) → Stands w.pairs p q → Stands w.pairs p r → q ≡ r
  pub nulls : (p q : Ptr) → Stands w.pairs p q → is_null q ≡ is_null p
  pub made_before : (p q : Ptr) → Stands w.pairs p q → p.number ≤ w.made

-- the pairs once an attempt was answered that gives these two pointers if it is granted
abbrev pub after_answer : Partners → Ptr → Ptr → Answer → Partners
after_answer w p q Granted = record { pairs = (p, q) ∷ w.pairs; made = w.made + 1 }
after_answer w p q _ = record { pairs = w.pairs; made = w.made + 1 }

abbrev pub Extends : PointerPairs → PointerPairs → Type 0
Extends pairs more = (p q : Ptr) → Stands pairs p q → Stands more p q

pub answer-extends : (w : Partners) (p q : Ptr) (answer : Answer) → Extends w.pairs (after_answer w p q answer).pairs
answer-extends w p q Granted x y s = record { listed = inr s.listed }
answer-extends w p q Simulated x y s = s
answer-extends w p q Refused x y s = s

pub answer-partners : (w : Partners) (p q : Ptr) (answer : Answer) → p.number ≡ w.made + 1 → is_null q ≡ is_null p → ArePartners w → ArePartners (after_answer w p q answer)
answer-partners w p q Granted new alike is = record {
  null = record { listed = inr is.null.listed };
  once = λ x y z s t. once x y z s.listed t.listed;
  nulls = λ x y s. nulls x y s.listed;
  made_before = λ x y s. before x y s.listed;
}
  where
    old : (x y : Ptr) → IsListed w.pairs x y → Stands w.pairs x y
    old x y s = record { listed = s }

    fresh : (x y : Ptr) → x ≡ p → IsListed w.pairs x y → ⊥
    fresh x y e s = let earlier = is.made_before x y (old x y s) in let same : x.number ≡ w.made + 1 = ap (λ (z : Ptr). z.number) e ∙ new in absurd (omega (arith, earlier, same))

    once : (x y z : Ptr) → IsListed ((p, q) ∷ w.pairs) x y → IsListed ((p, q) ∷ w.pairs) x z → y ≡ z
    once x y z (inl s) (inl t) = s.1 ∙ sym t.1
    once x y z (inl s) (inr t) = absurd (fresh x z s.0 t)
    once x y z (inr s) (inl t) = absurd (fresh x y t.0 s)
    once x y z (inr s) (inr t) = is.once x y z (old x y s) (old x z t)

    nulls : (x y : Ptr) → IsListed ((p, q) ∷ w.pairs) x y → is_null y ≡ is_null x
    nulls x y (inl s) = ap is_null s.1 ∙ alike ∙ sym (ap is_null s.0)
    nulls x y (inr s) = is.nulls x y (old x y s)

    before : (x y : Ptr) → IsListed ((p, q) ∷ w.pairs) x y → x.number ≤ w.made + 1
    before x y (inl s) = let same : x.number ≡ w.made + 1 = ap (λ (z : Ptr). z.number) s.0 ∙ new in omega (arith, same)
    before x y (inr s) = omega (arith, is.made_before x y (old x y s))
answer-partners w p q Simulated new alike is =
    record { null = is.null; once = is.once; nulls = is.nulls; made_before = λ x y s. omega (arith, is.made_before x y s) }
answer-partners w p q Refused new alike is =
    record { null = is.null; once = is.once; nulls = is.nulls; made_before = λ x y s. omega (arith, is.made_before x y s) }

-- ---- what is the same but for partners

pub record IsSameHeader (pairs : PointerPairs) (h g : Header) : Type 0 where
  pub length : g.length ≡ h.length
  pub kind : g.kind ≡ h.kind
  pub level : g.level ≡ h.level
  pub named : Stands pairs (pointer_to h) (pointer_to g)

pub data IsSameContent (pairs : PointerPairs) : Content → Content → Type 0 where
  same_words : (ws : List ℤ) → IsSameContent pairs (words ws) (words ws)
  same_fields : {ps qs : List Ptr} → AllBeside (Stands pairs) ps qs → IsSameContent pairs (fields ps) (fields qs)
  same_units : (us : List ℕ) → IsSameContent pairs (units us) (units us)
  same_none : IsSameContent pairs none none

pub record IsSameCell (pairs : PointerPairs) (c d : Cell Content) : Type 0 where
  pub head : IsSameHeader pairs c.head d.head
  pub content : IsSameContent pairs c.content d.content

pub data IsSameItem (pairs : PointerPairs) : Item → Item → Type 0 where
  same_free : {p q : Ptr} → Stands pairs p q → IsSameItem pairs (I.Free p) (I.Free q)
  same_delete : {p q : Ptr} → Stands pairs p q → IsSameItem pairs (I.Delete p) (I.Delete q)
  same_call : {p q : Ptr} (operation : ℕ) → Stands pairs p q → IsSameItem pairs (I.Call p operation) (I.Call q operation)

pub data IsSameBase (pairs : PointerPairs) : Base → Base → Type 0 where
  same_nothing : IsSameBase pairs B.Nothing B.Nothing
  same_literal : (i : ℕ) → IsSameBase pairs (B.Literal i) (B.Literal i)
  same_local : (i : ℕ) → IsSameBase pairs (B.Local i) (B.Local i)
  same_cell : {p q : Ptr} → Stands pairs p q → IsSameBase pairs (B.Cell p) (B.Cell q)

pub record IsSameView (pairs : PointerPairs) (v u : View) : Type 0 where
  pub base : IsSameBase pairs v.base u.base
  pub position : u.position ≡ v.position
  pub length : u.length ≡ v.length

pub data IsSameValue (pairs : PointerPairs) : Value → Value → Type 0 where
  same_pointer : {p q : Ptr} → Stands pairs p q → IsSameValue pairs (pointer p) (pointer q)
  same_number : (z : ℤ) → IsSameValue pairs (number z) (number z)
  same_buffer : (max : ℕ) (us : List ℕ) → IsSameValue pairs (buffer max us) (buffer max us)
  same_view : {v u : View} → IsSameView pairs v u → IsSameValue pairs (view v) (view u)

pub record IsSameFrame (pairs : PointerPairs) (f g : Frame) : Type 0 where
  pub this : Stands pairs f.this g.this
  pub locals : AllBeside (IsSameValue pairs) f.locals g.locals

pub data IsSameWay (pairs : PointerPairs) : Way → Way → Type 0 where
  same_plain : IsSameWay pairs goes_on goes_on
  same_return : {p q : Ptr} → Stands pairs p q → IsSameWay pairs (returns p) (returns q)
  same_leave : (code : ℤ) → IsSameWay pairs (leaves code) (leaves code)

pub data IsSameTodo (pairs : PointerPairs) : Todo → Todo → Type 0 where
  same_statements : (statements : List StatementAt) → IsSameTodo pairs (all statements) (all statements)
  same_turns : (n : ℕ) (body : List StatementAt) → IsSameTodo pairs (turns n body) (turns n body)
  same_items : (n : ℕ) → IsSameTodo pairs (destroy_items n) (destroy_items n)
  same_object : {p q : Ptr} → Stands pairs p q → IsSameTodo pairs (destroy_object p) (destroy_object q)

-- ---- what has the same partners later too

module _ {pairs more : PointerPairs} (x : Extends pairs more) where
  pub pointer-later : {p q : Ptr} → Stands pairs p q → Stands more p q
  pointer-later {p = p} {q = q} s = x p q s

  pub header-later : {h g : Header} → IsSameHeader pairs h g → IsSameHeader more h g
  header-later {h = h} {g = g} s = record { length = s.length; kind = s.kind; level = s.level; named = x (pointer_to h) (pointer_to g) s.named }

  pub content-later : {c d : Content} → IsSameContent pairs c d → IsSameContent more c d
  content-later (same_words ws) = same_words ws
  content-later (same_fields s) = same_fields (all-weaker (λ p q r. x p q r) s)
  content-later (same_units us) = same_units us
  content-later same_none = same_none

  pub cell-later : {c d : Cell Content} → IsSameCell pairs c d → IsSameCell more c d
  cell-later s = record { head = header-later s.head; content = content-later s.content }

  item-later : {i j : Item} → IsSameItem pairs i j → IsSameItem more i j
  item-later (same_free s) = same_free (x _ _ s)
  item-later (same_delete s) = same_delete (x _ _ s)
  item-later (same_call operation s) = same_call operation (x _ _ s)

  pub items-later : {is js : List Item} → AllBeside (IsSameItem pairs) is js → AllBeside (IsSameItem more) is js
  items-later same = all-weaker (λ i j r. item-later r) same

  base-later : {b c : Base} → IsSameBase pairs b c → IsSameBase more b c
  base-later same_nothing = same_nothing
  base-later (same_literal i) = same_literal i
  base-later (same_local i) = same_local i
  base-later (same_cell s) = same_cell (x _ _ s)

  value-later : {v u : Value} → IsSameValue pairs v u → IsSameValue more v u
  value-later (same_pointer s) = same_pointer (x _ _ s)
  value-later (same_number z) = same_number z
  value-later (same_buffer max us) = same_buffer max us
  value-later (same_view s) = same_view (record { base = base-later s.base; position = s.position; length = s.length })

  pub frame-later : {f g : Frame} → IsSameFrame pairs f g → IsSameFrame more f g
  frame-later s = record { this = pointer-later s.this; locals = all-weaker (λ v u r. value-later r) s.locals }
