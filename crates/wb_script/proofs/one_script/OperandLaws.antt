-- An operand that is spelled says what it spells.
use Rattle.std.proofs.Common.{◌≡◌, refl, sym, ap, subst, ◌∙◌, ℕ, List, [], ◌∷◌, ◌++◌, IsTrue, is_some, Option, Some, None, map, append-nil}
use Rattle.std.specs.List.{flat_map}
use Rattle.std.specs.Prelude.{unwrap_or}
use Rattle.std.proofs.lemmas.Bool.{false≢true}
use Rattle.std.proofs.lemmas.List.{map-append}
use Rattle.wb_tree.specs.declared.script_lines.Referent.{Referent}
use Rattle.wb_tree.specs.declared.script_lines.Referent.TheVariants as referent
use Rattle.wb_tree.specs.declared.script_lines.Operand.{Operand}
use Rattle.wb_tree.specs.declared.script_lines.Operand.TheVariants.{Name, Number, Literal, Keyword}
use Rattle.wb_tree.specs.declared.script_lines.Operand.TheVariants as spelled
use Rattle.wb_tree.specs.declared.script_lines.ParameterType.TheVariants as parameter_type
use Rattle.wb_tree.specs.declared.script.Parameter.{Parameter}
use Rattle.wb_tree.specs.declared.script.Parameter.TheVariants as parameter
use Rattle.wb_tree.specs.declared.script.Argument.{Argument}
use Rattle.wb_tree.specs.declared.script.Argument.TheVariants.{Passed, Given}
use Rattle.wb_tree.specs.declared.script.Holder.TheVariants as H
use Rattle.wb_tree.specs.declared.script.Pointer.{Pointer}
use Rattle.wb_tree.specs.declared.script.Pointer.TheVariants as P
use Rattle.wb_tree.specs.declared.script.Number as N
use Rattle.wb_tree.specs.declared.script.Number.TheVariants.{Constant, Variable}
use Rattle.wb_tree.specs.declared.script.Writable.{Writable}
use Rattle.wb_tree.specs.declared.script.Writable.TheVariants.{OwnBuffer, InCell}
use Rattle.wb_tree.specs.declared.script.Readable.{Readable}
use Rattle.wb_tree.specs.declared.script.Readable.TheVariants.{Of, ViewOf, Quoted}
use Rattle.wb_language.specs.Names.{parameter_type_of}
use Rattle.wb_tree.specs.Spellings.{Spelled, pointer_operand, number_operand, writable_operand, text_operand, argument_operand}
use Rattle.wb_language.specs.Trees.{parameter_operand, and_operand, all_spelled}
use Rattle.wb_script.specs.Building.{parameter_taking}

-- the pointer, the number or the local that an operand spells
abbrev pub pointer_in : Operand Referent → Pointer
pointer_in (Name (referent.Pointer i)) = P.Held (H.Local i)
pointer_in (spelled.Field (referent.Pointer i) (referent.Field class index)) = P.Field (H.Local i) class index
pointer_in (spelled.Field referent.This (referent.Field class index)) = P.Field H.This class index
pointer_in _ = P.Held H.This

abbrev pub variable_in : Operand Referent → ℕ
variable_in (Name (referent.Number i)) = i
variable_in _ = 0

abbrev pub number_in : Operand Referent → N.Number
number_in (Number z) = Constant z
number_in operand = Variable (variable_in operand)

-- the text that an operand spells
abbrev pub writable_in : Operand Referent → Writable
writable_in (Name (referent.Buffer i)) = OwnBuffer i
writable_in operand = InCell (pointer_in operand)

abbrev pub view_in : Operand Referent → ℕ
view_in (Name (referent.View i)) = i
view_in _ = 0

abbrev pub text_in : Operand Referent → Readable
text_in (Literal (referent.Literal i)) = Quoted i
text_in (Name (referent.View i)) = ViewOf i
text_in operand = Of (writable_in operand)

abbrev pub argument_in : Operand Referent → Argument
argument_in (Number z) = Given (Constant z)
argument_in (Name (referent.Number i)) = Given (Variable i)
argument_in operand = Passed (pointer_in operand)

abbrev pub local_in : Operand Referent → ℕ
local_in (Name (referent.Pointer i)) = i
local_in _ = 0

abbrev pub class_in : Operand Referent → ℕ
class_in (Name (referent.Class i)) = i
class_in _ = 0

abbrev pub procedure_in : Operand Referent → ℕ
procedure_in (Name (referent.Procedure i)) = i
procedure_in _ = 0

abbrev pub operation_in : Operand Referent → ℕ
operation_in (Name (referent.Operation i)) = i
operation_in _ = 0

-- an operand that is spelled tells what it spells
pub pointer_back : (p : Pointer) (a : Operand Referent) → pointer_operand p ≡ Some a → pointer_in a ≡ p
pointer_back (P.Held (H.Local i)) a is = let same : Name (referent.Pointer i) ≡ a = cc in subst (λ o. pointer_in o ≡ P.Held (H.Local i)) same refl
pointer_back (P.Held H.This) a is = let same : Name referent.This ≡ a = cc in subst (λ o. pointer_in o ≡ P.Held H.This) same refl
pointer_back (P.Field (H.Local i) class index) a is =
    let same : spelled.Field (referent.Pointer i) (referent.Field class index) ≡ a = cc in
    subst (λ o. pointer_in o ≡ P.Field (H.Local i) class index) same refl
pointer_back (P.Field H.This class index) a is =
    let same : spelled.Field referent.This (referent.Field class index) ≡ a = cc in
    subst (λ o. pointer_in o ≡ P.Field H.This class index) same refl

-- a pointer is spelled neither as a number nor as a text of the body's own
spelled_otherwise : {A : Type 0} (read : Operand Referent → A) (make : Pointer → A) → ((i : ℕ) → read (Name (referent.Pointer i)) ≡ make (P.Held (H.Local i))) → read (Name referent.This) ≡ make (P.Held H.This) →
    ((base field : Referent) → read (spelled.Field base field) ≡ make (pointer_in (spelled.Field base field))) → (p : Pointer) (a : Operand Referent) → pointer_operand p ≡ Some a → read a ≡ make p
spelled_otherwise read make local this field (P.Held (H.Local i)) a is = let same : Name (referent.Pointer i) ≡ a = cc in subst (λ o. read o ≡ make (P.Held (H.Local i))) same (local i)
spelled_otherwise read make local this field (P.Held H.This) a is = let same : Name referent.This ≡ a = cc in subst (λ o. read o ≡ make (P.Held H.This)) same this
spelled_otherwise read make local this field (P.Field (H.Local i) class index) a is =
    let same : spelled.Field (referent.Pointer i) (referent.Field class index) ≡ a = cc in
    subst (λ o. read o ≡ make (P.Field (H.Local i) class index)) same (field (referent.Pointer i) (referent.Field class index))
spelled_otherwise read make local this field (P.Field H.This class index) a is =
    let same : spelled.Field referent.This (referent.Field class index) ≡ a = cc in
    subst (λ o. read o ≡ make (P.Field H.This class index)) same (field referent.This (referent.Field class index))

pub number_back : (v : N.Number) (a : Operand Referent) → number_operand v ≡ Some a → number_in a ≡ v
number_back (Constant z) a is = let same : Number z ≡ a = cc in subst (λ o. number_in o ≡ Constant z) same refl
number_back (Variable i) a is = let same : Name (referent.Number i) ≡ a = cc in subst (λ o. number_in o ≡ Variable i) same refl

pub writable_back : (d : Writable) (a : Operand Referent) → writable_operand d ≡ Some a → writable_in a ≡ d
writable_back (OwnBuffer i) a is = let same : Name (referent.Buffer i) ≡ a = cc in subst (λ o. writable_in o ≡ OwnBuffer i) same refl
writable_back (InCell p) a is = spelled_otherwise writable_in InCell (λ i. refl) refl (λ base field. refl) p a is

pub text_back : (t : Readable) (a : Operand Referent) → text_operand t ≡ Some a → text_in a ≡ t
text_back (Of (OwnBuffer i)) a is = let same : Name (referent.Buffer i) ≡ a = cc in subst (λ o. text_in o ≡ Of (OwnBuffer i)) same refl
text_back (Of (InCell p)) a is = spelled_otherwise text_in (λ p. Of (InCell p)) (λ i. refl) refl (λ base field. refl) p a is
text_back (ViewOf i) a is = let same : Name (referent.View i) ≡ a = cc in subst (λ o. text_in o ≡ ViewOf i) same refl
text_back (Quoted i) a is = let same : Literal (referent.Literal i) ≡ a = cc in subst (λ o. text_in o ≡ Quoted i) same refl

-- how operands that are spelled begin
begun : (s : Spelled) (rest : Option (List (Operand Referent))) (operands : List (Operand Referent)) → and_operand s rest ≡ Some operands → (a : Operand Referent) × (more : List (Operand Referent)) × (s ≡ Some a) × (rest ≡ Some more) × (a ∷ more ≡ operands)
begun (Some a) (Some more) operands is = (a, more, refl, refl, cc)
begun (Some a) None operands is = let clash : ⊥ = cc in absurd clash
begun None rest operands is = let clash : ⊥ = cc in absurd clash

pub argument_back : (argument : Argument) (a : Operand Referent) → argument_operand argument ≡ Some a → argument_in a ≡ argument
argument_back (Given (Constant z)) a is = let e : Number z ≡ a = cc in subst (λ o. argument_in o ≡ Given (Constant z)) e refl
argument_back (Given (Variable i)) a is = let e : Name (referent.Number i) ≡ a = cc in subst (λ o. argument_in o ≡ Given (Variable i)) e refl
argument_back (Passed p) a is = spelled_otherwise argument_in Passed (λ i. refl) refl (λ base field. refl) p a is

pub arguments_back : (arguments : List Argument) (operands : List (Operand Referent)) → all_spelled (map argument_operand arguments) ≡ Some operands → map argument_in operands ≡ arguments
arguments_back [] operands is = let same : [] ≡ operands = cc in subst (λ l. map argument_in l ≡ []) same refl
arguments_back (argument ∷ arguments) operands is =
    let (a, more, first, rest, parts) = begun (argument_operand argument) (all_spelled (map argument_operand arguments)) operands is in
    subst (λ l. map argument_in l ≡ argument ∷ arguments) parts (ap (λ z. z ∷ map argument_in more) (argument_back argument a first) ∙ ap (λ l. argument ∷ l) (arguments_back arguments more rest))

-- the operand that spells a pointer, a number, a text or arguments, and is read as what it spells
pub pointer_word : Pointer → Operand Referent
pointer_word p = unwrap_or (pointer_operand p) Keyword

pub pointer_is : (p : Pointer) → pointer_operand p ≡ Some (pointer_word p)
unfolding pointer_word
pointer_is (P.Held holder) = refl
pointer_is (P.Field holder class i) = refl

pub pointer_read : (p : Pointer) → pointer_in (pointer_word p) ≡ p
pointer_read p = pointer_back p (pointer_word p) (pointer_is p)

pub number_word : N.Number → Operand Referent
number_word v = unwrap_or (number_operand v) Keyword

pub number_is : (v : N.Number) → number_operand v ≡ Some (number_word v)
unfolding number_word
number_is (Constant z) = refl
number_is (Variable i) = refl

pub number_read : (v : N.Number) → number_in (number_word v) ≡ v
number_read v = number_back v (number_word v) (number_is v)

pub writable_word : Writable → Operand Referent
writable_word d = unwrap_or (writable_operand d) Keyword

pub writable_is : (d : Writable) → writable_operand d ≡ Some (writable_word d)
unfolding writable_word
writable_is (OwnBuffer i) = refl
writable_is (InCell (P.Held holder)) = refl
writable_is (InCell (P.Field holder class i)) = refl

pub writable_read : (d : Writable) → writable_in (writable_word d) ≡ d
writable_read d = writable_back d (writable_word d) (writable_is d)

pub text_word : Readable → Operand Referent
text_word t = unwrap_or (text_operand t) Keyword

pub text_is : (t : Readable) → text_operand t ≡ Some (text_word t)
unfolding text_word
text_is (Of (OwnBuffer i)) = refl
text_is (Of (InCell (P.Held holder))) = refl
text_is (Of (InCell (P.Field holder class i))) = refl
text_is (ViewOf i) = refl
text_is (Quoted i) = refl

pub text_read : (t : Readable) → text_in (text_word t) ≡ t
text_read t = text_back t (text_word t) (text_is t)

pub argument_words : List Argument → List (Operand Referent)
argument_words arguments = unwrap_or (all_spelled (map argument_operand arguments)) []

and_words : (s : Spelled) (o : Option (List (Operand Referent))) → IsTrue (is_some s) → IsTrue (is_some o) → IsTrue (is_some (and_operand s o))
and_words (Some a) (Some words) p q = refl
and_words (Some a) None p q = q
and_words None o p q = absurd (false≢true p)

pub argument_spelled : (a : Argument) → IsTrue (is_some (argument_operand a))
argument_spelled (Passed (P.Held holder)) = refl
argument_spelled (Passed (P.Field holder class i)) = refl
argument_spelled (Given (Constant z)) = refl
argument_spelled (Given (Variable i)) = refl

arguments_spelled : (arguments : List Argument) → IsTrue (is_some (all_spelled (map argument_operand arguments)))
arguments_spelled [] = refl
arguments_spelled (a ∷ arguments) = and_words (argument_operand a) (all_spelled (map argument_operand arguments)) (argument_spelled a) (arguments_spelled arguments)

pub arguments_are : (arguments : List Argument) → all_spelled (map argument_operand arguments) ≡ Some (argument_words arguments)
unfolding argument_words
arguments_are arguments = by (all_spelled (map argument_operand arguments)) (arguments_spelled arguments)
  where
    by : (o : Option (List (Operand Referent))) → IsTrue (is_some o) → o ≡ Some (unwrap_or o [])
    by (Some words) is = refl
    by None is = absurd (false≢true is)

pub arguments_read : (arguments : List Argument) → map argument_in (argument_words arguments) ≡ arguments
arguments_read arguments = arguments_back arguments (argument_words arguments) (arguments_are arguments)

-- the parameters that operands declare
abbrev pub parameters_in : List (Operand Referent) → List Parameter
parameters_in operands = map parameter_taking (flat_map parameter_type_of operands)

parameter_back : (p : Parameter) (a : Operand Referent) → parameter_operand p ≡ Some a → parameters_in (a ∷ []) ≡ p ∷ []
parameter_back (parameter.OfPointer None) a is = let e : spelled.Parameter referent.Parameter parameter_type.Pointer ≡ a = cc in subst (λ o. parameters_in (o ∷ []) ≡ parameter.OfPointer None ∷ []) e refl
parameter_back (parameter.OfPointer (Some class)) a is =
    let e : spelled.Parameter referent.Parameter (parameter_type.OfClass (referent.Class class)) ≡ a = cc in
    subst (λ o. parameters_in (o ∷ []) ≡ parameter.OfPointer (Some class) ∷ []) e refl
parameter_back parameter.OfNumber a is = let e : spelled.Parameter referent.Parameter parameter_type.Number ≡ a = cc in subst (λ o. parameters_in (o ∷ []) ≡ parameter.OfNumber ∷ []) e refl

parameters-append : (a : Operand Referent) (more : List (Operand Referent)) → parameters_in (a ∷ more) ≡ parameters_in (a ∷ []) ++ parameters_in more
parameters-append a more =
    map-append parameter_taking (parameter_type_of a) (flat_map parameter_type_of more) ∙ ap (λ l. map parameter_taking l ++ parameters_in more) (sym (append-nil (parameter_type_of a)))

-- a head tells its parameters
pub parameters_back : (parameters : List Parameter) (operands : List (Operand Referent)) → all_spelled (map parameter_operand parameters) ≡ Some operands → parameters_in operands ≡ parameters
parameters_back [] operands is = let same : [] ≡ operands = cc in subst (λ l. parameters_in l ≡ []) same refl
parameters_back (p ∷ ps) operands is =
    let (a, more, first, rest, parts) = begun (parameter_operand p) (all_spelled (map parameter_operand ps)) operands is in
    subst (λ l. parameters_in l ≡ p ∷ ps) parts (parameters-append a more ∙ ap (λ l. l ++ parameters_in more) (parameter_back p a first) ∙ ap (λ l. p ∷ l) (parameters_back ps more rest))
