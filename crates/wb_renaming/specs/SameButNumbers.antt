-- What it means that two states are the same but for allocation numbers: a one-to-one map carries the numbers that the first holds
-- to those that the second holds. What each has printed and how many steps it has counted isn't compared.
use Rattle.std.specs.Prelude.{◌≡◌, ℕ, ℤ, zero, suc, ◌+◌, ◌<◌, ◌≤◌, ◌⊎◌, List, [], ◌∷◌, ◌++◌}
use Rattle.wb_heap_model.specs.declared.heap.Header.{Header}
use Rattle.wb_heap_model.specs.declared.heap.Item.{Item}
use Rattle.wb_heap_model.specs.declared.heap.Item.TheVariants as I
use Rattle.wb_heap_model.specs.declared.heap.Ptr.{Ptr}
use Rattle.wb_tree.specs.declared.script.StatementAt.{StatementAt}
use Rattle.wb_heap_model.specs.declared.text.Base.{Base}
use Rattle.wb_heap_model.specs.declared.text.Base.TheVariants as B
use Rattle.wb_heap_model.specs.declared.text.View.{View}
use Rattle.wb_heap_model.specs.Heap.{Heap}
use Rattle.wb_heap_model.specs.Placement.{Placement}
use Rattle.wb_heap_model.specs.Row.{Cell}
use Rattle.wb_heap_model.specs.Contents.{Content, words, fields, units, none}
use Rattle.wb_meaning.specs.State.{Value, pointer, number, buffer, view, Frame, State, Way, goes_on, returns, leaves, Stop}
use Rattle.wb_meaning.specs.Statements.{Todo, all, turns, destroy_items, destroy_object, Context}
use Rattle.wb_meaning.specs.Rest.{Afterwards, nothing_more, gives_to, releases, Pending, doing, catching, caught, calling, main_catching, main_caught, Progress, not_begun, going, has_stopped}

-- numbers, each with the one that stands for it in the other run
abbrev pub Names : Type 0
Names = List (ℕ × ℕ)

-- the map carries a number to a number
abbrev pub Renames : Names → ℕ → ℕ → Type 0
Renames [] a b = ⊥
Renames (n ∷ names) a b = ((a ≡ n.0) × (b ≡ n.1)) ⊎ Renames names a b

-- a map of numbers, and how many attempts each of the two runs has made
pub record Renaming : Type 0 where
  pub names : Names
  pub made : ℕ
  pub other_made : ℕ

-- Null stands for null, the map is one-to-one, and no number is that of an attempt which is still to be made: so that a new number is
-- new to both.
pub record IsRenaming (w : Renaming) : Type 0 where
  pub null : Renames w.names 0 0
  pub once : (a b c : ℕ) → Renames w.names a b → Renames w.names a c → b ≡ c
  pub apart : (a b c : ℕ) → Renames w.names a c → Renames w.names b c → a ≡ b
  pub made_before : (a b : ℕ) → Renames w.names a b → (a ≤ w.made) × (b ≤ w.other_made)

-- the map once both have made an attempt more
abbrev pub one_more : Renaming → Renaming
one_more w = record {
  names = (w.made + 1, w.other_made + 1) ∷ w.names;
  made = w.made + 1;
  other_made = w.other_made + 1;
}

-- each number up to this one, for itself
abbrev pub up_to : ℕ → Names
up_to zero = (0, 0) ∷ []
up_to (suc n) = (suc n, suc n) ∷ up_to n

-- Pairs that two runs add which were one run up to the attempt with this number: all that they share stands for itself, and what is
-- added is of later attempts of either.
pub record AreAddedSince (since : ℕ) (added : Names) (made other_made : ℕ) : Type 0 where
  pub once : (a b c : ℕ) → Renames added a b → Renames added a c → b ≡ c
  pub apart : (a b c : ℕ) → Renames added a c → Renames added b c → a ≡ b
  pub later : (a b : ℕ) → Renames added a b → (since < a) × (since < b)
  pub made_before : (a b : ℕ) → Renames added a b → (a ≤ made) × (b ≤ other_made)
  pub shared : (since ≤ made) × (since ≤ other_made)

-- the map of two such runs
abbrev pub since_fork : ℕ → Names → ℕ → ℕ → Renaming
since_fork since added made other_made = record { names = added ++ up_to since; made = made; other_made = other_made }

-- the map read backwards
abbrev pub turned_names : Names → Names
turned_names [] = []
turned_names (n ∷ names) = (n.1, n.0) ∷ turned_names names

abbrev pub turned : Renaming → Renaming
turned w = record { names = turned_names w.names; made = w.other_made; other_made = w.made }

-- two lists that are as long, and related one by one
pub data AllBeside {A B : Type 0} (R : A → B → Type 0) : List A → List B → Type 0 where
  none_beside : AllBeside R [] []
  one_beside : {x : A} {y : B} {xs : List A} {ys : List B} → R x y → AllBeside R xs ys → AllBeside R (x ∷ xs) (y ∷ ys)

-- the place of a pointer to a cell that is gone counts too
pub record IsSamePointer (names : Names) (p q : Ptr) : Type 0 where
  pub place : q.place ≡ p.place
  pub number : Renames names p.number q.number

pub record IsSameHeader (names : Names) (h g : Header) : Type 0 where
  pub place : g.place ≡ h.place
  pub length : g.length ≡ h.length
  pub kind : g.kind ≡ h.kind
  pub level : g.level ≡ h.level
  pub number : Renames names h.number g.number

pub data IsSameContent (names : Names) : Content → Content → Type 0 where
  same_words : (ws : List ℤ) → IsSameContent names (words ws) (words ws)
  same_fields : {ps qs : List Ptr} → AllBeside (IsSamePointer names) ps qs → IsSameContent names (fields ps) (fields qs)
  same_units : (us : List ℕ) → IsSameContent names (units us) (units us)
  same_none : IsSameContent names none none

pub record IsSameCell (names : Names) (c d : Cell Content) : Type 0 where
  pub head : IsSameHeader names c.head d.head
  pub content : IsSameContent names c.content d.content

-- the setting as what is left of it until it refuses next; both choose places alike
pub record IsSameHeap (names : Names) (h g : Heap Content) : Type 0 where
  pub row : AllBeside (IsSameCell names) h.row g.row
  pub level : g.level ≡ h.level
  pub setting : g.setting ≡ h.setting
  pub placement : g.placement ≡ h.placement

pub data IsSameItem (names : Names) : Item → Item → Type 0 where
  same_free : {p q : Ptr} → IsSamePointer names p q → IsSameItem names (I.Free p) (I.Free q)
  same_delete : {p q : Ptr} → IsSamePointer names p q → IsSameItem names (I.Delete p) (I.Delete q)
  same_call : {p q : Ptr} (operation : ℕ) → IsSamePointer names p q → IsSameItem names (I.Call p operation) (I.Call q operation)

pub data IsSameBase (names : Names) : Base → Base → Type 0 where
  same_nothing : IsSameBase names B.Nothing B.Nothing
  same_literal : (i : ℕ) → IsSameBase names (B.Literal i) (B.Literal i)
  same_local : (i : ℕ) → IsSameBase names (B.Local i) (B.Local i)
  same_cell : {p q : Ptr} → IsSamePointer names p q → IsSameBase names (B.Cell p) (B.Cell q)

pub record IsSameView (names : Names) (v u : View) : Type 0 where
  pub base : IsSameBase names v.base u.base
  pub position : u.position ≡ v.position
  pub length : u.length ≡ v.length

pub data IsSameValue (names : Names) : Value → Value → Type 0 where
  same_pointer : {p q : Ptr} → IsSamePointer names p q → IsSameValue names (pointer p) (pointer q)
  same_number : (z : ℤ) → IsSameValue names (number z) (number z)
  same_buffer : (max : ℕ) (us : List ℕ) → IsSameValue names (buffer max us) (buffer max us)
  same_view : {v u : View} → IsSameView names v u → IsSameValue names (view v) (view u)

pub record IsSameFrame (names : Names) (f g : Frame) : Type 0 where
  pub this : IsSamePointer names f.this g.this
  pub locals : AllBeside (IsSameValue names) f.locals g.locals

pub record IsSameState (names : Names) (st other : State) : Type 0 where
  pub heap : IsSameHeap names st.heap other.heap
  pub cleanup : IsSamePointer names st.cleanup other.cleanup
  pub items : AllBeside (IsSameItem names) st.items other.items
  pub slots : other.slots ≡ st.slots
  pub frame : IsSameFrame names st.frame other.frame

-- each number that a state holds is of an attempt made: it is the same as itself where these numbers alone stand for themselves
abbrev pub HoldsMadeNumbers : ℕ → State → Type 0
HoldsMadeNumbers made st = IsSameState (up_to made) st st

-- how the piece above ended
pub data IsSameWay (names : Names) : Way → Way → Type 0 where
  same_plain : IsSameWay names goes_on goes_on
  same_return : {p q : Ptr} → IsSamePointer names p q → IsSameWay names (returns p) (returns q)
  same_leave : (code : ℤ) → IsSameWay names (leaves code) (leaves code)

pub data IsSameTodo (names : Names) : Todo → Todo → Type 0 where
  same_statements : (statements : List StatementAt) → IsSameTodo names (all statements) (all statements)
  same_turns : (n : ℕ) (body : List StatementAt) → IsSameTodo names (turns n body) (turns n body)
  same_items : (n : ℕ) → IsSameTodo names (destroy_items n) (destroy_items n)
  same_object : {p q : Ptr} → IsSamePointer names p q → IsSameTodo names (destroy_object p) (destroy_object q)

pub data IsSameAfterwards (names : Names) : Afterwards → Afterwards → Type 0 where
  same_nothing_more : IsSameAfterwards names nothing_more nothing_more
  same_gives_to : (i : ℕ) → IsSameAfterwards names (gives_to i) (gives_to i)
  same_releases : {p q : Ptr} → IsSamePointer names p q → IsSameAfterwards names (releases p) (releases q)

pub data IsSamePending (names : Names) : Pending → Pending → Type 0 where
  same_doing : (at : Context) {p q : Todo} → IsSameTodo names p q → IsSamePending names (doing at p) (doing at q)
  same_catching : (at : Context) (x entry : ℕ) → IsSamePending names (catching at x entry) (catching at x entry)
  same_caught : (x : ℕ) (code : ℤ) → IsSamePending names (caught x code) (caught x code)
  same_calling : {f g : Frame} {a b : Afterwards} → IsSameFrame names f g → IsSameAfterwards names a b → IsSamePending names (calling f a) (calling g b)
  same_main_catching : (at : Context) → IsSamePending names (main_catching at) (main_catching at)
  same_main_caught : (code : ℤ) → IsSamePending names (main_caught code) (main_caught code)

pub data IsSameProgress (names : Names) : Progress → Progress → Type 0 where
  same_not_begun : (placement : Placement) → IsSameProgress names (not_begun placement) (not_begun placement)
  same_going : {ps qs : List Pending} {way other_way : Way} {st other : State} → AllBeside (IsSamePending names) ps qs →
      IsSameWay names way other_way → IsSameState names st other → IsSameProgress names (going ps way st) (going qs other_way other)
  same_stopped : (stop : Stop) {st other : State} → IsSameState names st other → IsSameProgress names (has_stopped stop st) (has_stopped stop other)
