-- Frames, arguments, destructions, traps and conditions in states that are the same but for partners, where what is inside goes alike.
use Rattle.std.proofs.Common.{◌≡◌, ℕ, ℤ, ◌-◌, Bool, true, false, not, ◌&&◌, List, [], ◌∷◌, map, refl, ap, ◌∙◌}
use Rattle.std.specs.Prelude.{nat_eq, int_le, int_lt, pos}
use Rattle.wb_heap_model.specs.declared.heap.Item.{Item}
use Rattle.wb_heap_model.specs.declared.heap.Ptr.{Ptr}
use Rattle.wb_tree.specs.declared.script.Argument.{Argument}
use Rattle.wb_tree.specs.declared.script.Argument.TheVariants.{Passed, Given}
use Rattle.wb_tree.specs.declared.script.Body.{Body}
use Rattle.wb_tree.specs.declared.script.Condition.{Condition}
use Rattle.wb_tree.specs.declared.script.Condition.TheVariants.{IsNull, NotNull, Equal, Less}
use Rattle.wb_tree.specs.declared.script.Local.{Local}
use Rattle.wb_tree.specs.declared.script.Local.TheVariants.{OfPointer, OfNumber, OfBuffer, OfView}
use Rattle.wb_tree.specs.declared.script.Script.{Script}
use Rattle.wb_tree.specs.Bodies.{operation_at}
use Rattle.wb_meaning.specs.Operands.{number_of}
use Rattle.wb_meaning.specs.State.{Frame, Value, number, initial, State, Way, leaves, Process, ends}
use Rattle.wb_meaning.specs.Statements.{Todo, destroy_items, Context, Meaning, in_frame, plain, with_arguments, destroyed_object, destroyed_item, trapped, with_condition, leave_if}
use Rattle.wb_renaming.specs.SameButNumbers.{AllBeside, none_beside, one_beside}
use Rattle.wb_renaming.proofs.SameNumbers.{ap_two, length-beside, append-beside}
use Rattle.wb_placings.proofs.Partners.{PointerPairs, Stands, Partners, ArePartners, IsSameItem, same_free, same_delete, same_call, same_nothing, IsSameValue, same_pointer, same_number, same_buffer, same_view, IsSameFrame, IsSameWay, same_plain, same_return, same_leave, IsSameTodo, same_statements, same_items, same_object, frame-later}
use Rattle.wb_placings.proofs.PlacedProcesses.{IsBeside, GoesAlike, both_end, number-same, set_local-beside, GoesOn, and_then-alike, then_do-alike, require-alike, given-same, with_pointer-alike}
use Rattle.wb_placings.proofs.PlacedTexts.{release-alike}

module _ {w : Partners} where
  initial-same : ArePartners w → (l : Local) → IsSameValue w.pairs (initial l) (initial l)
  initial-same is (OfPointer class) = same_pointer is.null
  initial-same is OfNumber = same_number (pos 0)
  initial-same is (OfBuffer max) = same_buffer max []
  initial-same is OfView = same_view (record { base = same_nothing; position = refl; length = refl })

  pub initials-same : ArePartners w → (ls : List Local) → AllBeside (IsSameValue w.pairs) (map initial ls) (map initial ls)
  initials-same is [] = none_beside
  initials-same is (l ∷ ls) = one_beside (initial-same is l) (initials-same is ls)

pub frame-same : {pairs : PointerPairs} {p q : Ptr} {vs us : List Value} → Stands pairs p q → AllBeside (IsSameValue pairs) vs us →
    IsSameFrame pairs (record { this = p; locals = vs }) (record { this = q; locals = us })
frame-same s all = record { this = s; locals = all }

-- what is inside goes alike too
abbrev pub AllGoAlike : Meaning → Meaning → Type 0
AllGoAlike rec other_rec =
    (w : Partners) (at : Context) (p q : Todo) (st other : State) → IsSameTodo w.pairs p q → IsBeside w st other → GoesAlike w (rec at p st) (other_rec at q other)

pub plain-alike : {w : Partners} {way other_way : Way} {st other : State} (go other_go : Ptr → State → Process) → IsSameWay w.pairs way other_way → IsBeside w st other →
    ((p q : Ptr) → Stands w.pairs p q → GoesAlike w (go p st) (other_go q other)) → GoesAlike w (plain go way st) (plain other_go other_way other)
unfolding plain
plain-alike go other_go same_plain b f = f _ _ b.partners.null
plain-alike go other_go (same_return s) b f = f _ _ s
plain-alike go other_go (same_leave code) b f = both_end (same_leave code) b

-- the frame of another state
pub framed-beside : {w : Partners} {st other : State} {f g : Frame} → IsSameFrame w.pairs f g → IsBeside w st other → IsBeside w (record st { frame = f }) (record other { frame = g })
framed-beside s b = record {
  partners = b.partners;
  heap = b.heap;
  cleanup = b.cleanup;
  items = b.items;
  slots = b.slots;
  frame = s;
  lines = b.lines;
  steps = b.steps;
}

pub in_frame-alike : {w : Partners} {this other_this : Ptr} {given other_given : List Value} {st other : State} (rec other_rec : Meaning) (at : Context) (body : Body) (go other_go : Way → State → Process) →
    AllGoAlike rec other_rec → Stands w.pairs this other_this → AllBeside (IsSameValue w.pairs) given other_given → IsBeside w st other → GoesOn w go other_go →
    GoesAlike w (in_frame rec at this given body st go) (in_frame other_rec at other_this other_given body other other_go)
unfolding in_frame
in_frame-alike {w = w} {st = st} {other = other} rec other_rec at body go other_go k this given b f =
    require-alike _ _ _ _ _ (λ deep. deep) (λ _.
    and_then-alike _ _
    (k w _ _ _ _ _ (same_statements body.statements) (framed-beside (frame-same this (append-beside given (initials-same b.partners body.locals))) b))
    (λ v way other_way after other_after x s c. f v way other_way _ _ x s (framed-beside (frame-later x b.frame) c)))

pub with_arguments-alike : {w : Partners} {st other : State} (arguments : List Argument) (go other_go : List Value → Process) → IsBeside w st other →
    ((vs us : List Value) → AllBeside (IsSameValue w.pairs) vs us → GoesAlike w (go vs) (other_go us)) →
    GoesAlike w (with_arguments st arguments go) (with_arguments other arguments other_go)
unfolding with_arguments
with_arguments-alike [] go other_go b f = f _ _ none_beside
with_arguments-alike (Passed p ∷ rest) go other_go b f =
    with_pointer-alike p _ _ b (λ q r s _. with_arguments-alike rest _ _ b (λ vs us same. f _ _ (one_beside (same_pointer s) same)))
with_arguments-alike {w = w} {st = st} {other = other} (Given v ∷ rest) go other_go b f =
    with_arguments-alike rest _ _ b (λ vs us same.
    given-same (λ (z : ℤ). go (number z ∷ vs)) (λ (z : ℤ). other_go (number z ∷ us)) (number_of st v) (number_of other v) (number-same b v)
    (f _ _ (one_beside (same_number (number_of st v)) same)))

pub destroyed_object-alike : {w : Partners} {p q : Ptr} {st other : State} (rec other_rec : Meaning) (at : Context) (null other_null : Bool) → other_null ≡ null →
    AllGoAlike rec other_rec → Stands w.pairs p q → IsBeside w st other →
    GoesAlike w (destroyed_object null rec at p st) (destroyed_object other_null other_rec at q other)
unfolding destroyed_object
destroyed_object-alike rec other_rec at true true e k s b = both_end same_plain b
destroyed_object-alike {w = w} rec other_rec at false false e k s b = k w _ _ _ _ _ (same_object s) b
destroyed_object-alike rec other_rec at true false e k s b = cc
destroyed_object-alike rec other_rec at false true e k s b = cc

pub destroyed_item-alike : {w : Partners} {i j : Item} {st other : State} (script : Script) (rec other_rec : Meaning) (at : Context) →
    AllGoAlike rec other_rec → IsSameItem w.pairs i j → IsBeside w st other →
    GoesAlike w (destroyed_item script rec at i st) (destroyed_item script other_rec at j other)
unfolding destroyed_item
destroyed_item-alike script rec other_rec at k (same_free s) b = release-alike s b
destroyed_item-alike script rec other_rec at k (same_delete {p} {q} s) b = destroyed_object-alike rec other_rec at _ _ (b.partners.nulls p q s) k s b
destroyed_item-alike script rec other_rec at k (same_call operation s) b =
    in_frame-alike rec other_rec at (operation_at script operation) _ _ k b.partners.null (one_beside (same_pointer s) none_beside) b
    (λ v way other_way st other x s c. plain-alike _ _ s c (λ p q s. both_end same_plain c))

pub trapped-alike : {w : Partners} {way other_way : Way} {st other : State} (rec other_rec : Meaning) (at : Context) (target entry other_entry : ℕ) → other_entry ≡ entry →
    AllGoAlike rec other_rec → IsSameWay w.pairs way other_way → IsBeside w st other →
    GoesAlike w (trapped rec at target entry way st) (trapped other_rec at target other_entry other_way other)
unfolding trapped
trapped-alike rec other_rec at target entry other_entry e k same_plain b =
    require-alike _ _ _ _ _ (λ left. ap_two nat_eq (length-beside b.items) e ∙ left) (λ _. both_end same_plain (set_local-beside target (same_number (pos 0)) b))
trapped-alike {w = w} {st = st} {other = other} rec other_rec at target entry other_entry e k (same_leave code) b =
    then_do-alike _ _
    (given-same (λ (n : ℕ). rec at (destroy_items n) st) (λ (n : ℕ). other_rec at (destroy_items n) other) _ _ (ap_two ◌-◌ (length-beside b.items) e) (k w _ _ _ _ _ (same_items _) b))
    (λ v st other x c. both_end same_plain (set_local-beside target (same_number code) c))
trapped-alike rec other_rec at target entry other_entry e k (same_return s) b = both_end (same_return s) b

pub with_condition-alike : {w : Partners} {st other : State} (c : Condition) (go other_go : Bool → Process) → IsBeside w st other →
    ((holds : Bool) → GoesAlike w (go holds) (other_go holds)) → GoesAlike w (with_condition st c go) (with_condition other c other_go)
unfolding with_condition
with_condition-alike (IsNull p) go other_go b f = with_pointer-alike p _ _ b (λ q r s _. given-same go other_go _ _ (b.partners.nulls q r s) (f _))
with_condition-alike (NotNull p) go other_go b f = with_pointer-alike p _ _ b (λ q r s _. given-same go other_go _ _ (ap not (b.partners.nulls q r s)) (f _))
with_condition-alike (Equal v u) go other_go b f =
    let one = number-same b v in
    let two = number-same b u in
    given-same go other_go _ _ (ap_two ◌&&◌ (ap_two int_le one two) (ap_two int_le two one)) (f _)
with_condition-alike (Less v u) go other_go b f = given-same go other_go _ _ (ap_two int_lt (number-same b v) (number-same b u)) (f _)

pub leave_if-alike : {w : Partners} {st other : State} (leaving other_leaving : Bool) (code other_code : ℤ) → other_leaving ≡ leaving → other_code ≡ code → IsBeside w st other →
    GoesAlike w (leave_if leaving code st) (leave_if other_leaving other_code other)
unfolding leave_if
leave_if-alike {st = st} {other = other} true true code other_code e same b =
    given-same (λ (z : ℤ). ends (leaves z) st) (λ (z : ℤ). ends (leaves z) other) code other_code same (both_end (same_leave code) b)
leave_if-alike false false code other_code e same b = both_end same_plain b
leave_if-alike true false code other_code e same b = cc
leave_if-alike false true code other_code e same b = cc
