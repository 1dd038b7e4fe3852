-- The first fault of bytes is one, and bytes that spell a script have none.
use Rattle.std.proofs.Common.{◌≡◌, refl, sym, ap, subst, ◌∙◌, ℕ, zero, suc, ◌+◌, ◌-◌, ◌<◌, ◌≤◌, List, [], ◌∷◌, ◌++◌, true, false, length, take, drop, Option, Some, None, append_assoc, arith}
use Rattle.std.specs.Option.{option_map}
use Rattle.std.proofs.lemmas.List.{take-append-drop}
use Rattle.wb_language.specs.declared.fault.ScriptFault.{ScriptFault}
use Rattle.wb_language.specs.declared.fault.ScriptFault.TheVariants.{TooLong, NotAscii, Grammar, UnknownName, DoubleName, WrongKind, MayLeave, NoMain, TooMany, NoMemory}
use Rattle.wb_tree.specs.declared.script_lines.Form.{Form}
use Rattle.wb_tree.specs.declared.script.Script.{Script}
use Rattle.wb_language.specs.Forms.{forms_of}
use Rattle.wb_language.specs.Lines.{lines_of, first_foreign_line, is_too_long}
use Rattle.wb_language.specs.Names.{Text, first_refused, passes_limit}
use Rattle.wb_language.specs.Scripts.{AreLines, AreFirstLines, IsGrammarLine, IsPlainText, IsWellFormed, IsTreeOf, IsScriptOf, IsLinesFault, IsFaultOf, main_of, number_of_line, first_unknown, first_double, first_wrong, first_leaving}

take_fewer : {X : Type 0} (n m : ℕ) (xs : List X) → n ≤ m → take n (take m xs) ≡ take n xs
take_fewer zero m xs le = refl
take_fewer (suc n) zero xs le = absurd (omega arith)
take_fewer (suc n) (suc m) [] le = refl
take_fewer (suc n) (suc m) (x ∷ xs) le = ap (λ l. x ∷ l) (take_fewer n m xs (omega arith))

-- fewer of some first lines are first lines too
front_begins : (lines : List Text) (n m : ℕ) → n ≤ m → AreFirstLines (take m lines) → AreFirstLines (take n lines)
front_begins lines n m le (more, are) =
    let parts : take m lines ++ more ≡ take n lines ++ (drop n (take m lines) ++ more) =
    ap (λ l. l ++ more) (sym (take-append-drop n (take m lines))) ∙ append_assoc (take n (take m lines)) (drop n (take m lines)) more ∙ ap (λ l. l ++ (drop n (take m lines) ++ more)) (take_fewer n m lines le) in
    (drop n (take m lines) ++ more, subst AreLines parts are)

not_earlier : (lines : List Text) (n m : ℕ) → IsGrammarLine lines n → IsGrammarLine lines m → n < m → ⊥
not_earlier lines n m a b lt = a.here (omega (arith, b.within)) (front_begins lines n (m - 1) (omega arith) b.before)

one_grammar_line : (lines : List Text) (n m : ℕ) → IsGrammarLine lines n → IsGrammarLine lines m → n ≡ m
one_grammar_line lines n m a b = omega (arith, not_earlier lines n m a b, not_earlier lines m n b a)

no_grammar_line : (lines : List Text) (n : ℕ) → AreLines lines → IsGrammarLine lines n → ⊥
no_grammar_line lines n are line =
    let past : n ≤ length lines → ⊥ = λ le. line.here le (drop n lines, subst AreLines (sym (take-append-drop n lines)) are) in
    let following : n ≡ length lines + 1 → ⊥ = λ is. line.unfinished is are in
    omega (arith, past, following, line.within)

-- the fault that the checks of names, kinds and limits find
abbrev with_main : Option ℕ → List (Form Text) → Option ScriptFault
with_main None forms = Some NoMain
with_main (Some main) forms = option_map TooMany (number_of_line (first_refused passes_limit forms))

abbrev with_leaving : Option ℕ → List (Form Text) → Option ScriptFault
with_leaving (Some index) forms = Some (MayLeave (suc index))
with_leaving None forms = with_main (main_of forms) forms

abbrev with_wrong : Option ℕ → List (Form Text) → Option ScriptFault
with_wrong (Some index) forms = Some (WrongKind (suc index))
with_wrong None forms = with_leaving (first_leaving forms) forms

abbrev with_double : Option ℕ → List (Form Text) → Option ScriptFault
with_double (Some index) forms = Some (DoubleName (suc index))
with_double None forms = with_wrong (first_wrong forms) forms

abbrev with_unknown : Option ℕ → List (Form Text) → Option ScriptFault
with_unknown (Some index) forms = Some (UnknownName (suc index))
with_unknown None forms = with_double (first_double forms) forms

abbrev lines_fault : List (Form Text) → Option ScriptFault
lines_fault forms = with_unknown (first_unknown forms) forms

pub found_line : (o : Option ℕ) (n : ℕ) → number_of_line o ≡ Some n → (index : ℕ) × (o ≡ Some index) × (suc index ≡ n)
found_line None n is = let clash : ⊥ = cc in absurd clash
found_line (Some index) n is = (index, refl, cc)

lines_fault_is : (forms : List (Form Text)) (fault : ScriptFault) → IsLinesFault forms fault → lines_fault forms ≡ Some fault
lines_fault_is forms (UnknownName n) is =
    let (index, at, same) = found_line (first_unknown forms) n is in
    rw at (ap (λ k. Some (UnknownName k)) same)
lines_fault_is forms (DoubleName n) (known, is) =
    let (index, at, same) = found_line (first_double forms) n is in
    rw (known, at) (ap (λ k. Some (DoubleName k)) same)
lines_fault_is forms (WrongKind n) (known, once, is) =
    let (index, at, same) = found_line (first_wrong forms) n is in
    rw (known, once, at) (ap (λ k. Some (WrongKind k)) same)
lines_fault_is forms (MayLeave n) (known, once, right, is) =
    let (index, at, same) = found_line (first_leaving forms) n is in
    rw (known, once, right, at) (ap (λ k. Some (MayLeave k)) same)
lines_fault_is forms NoMain (named, none) = rw (named.known, named.once, named.right, named.quiet, none) refl
lines_fault_is forms (TooMany n) (named, some, is) = rw (named.known, named.once, named.right, named.quiet) (go (main_of forms) some)
  where
    go : (o : Option ℕ) → (o ≡ None → ⊥) → with_main o forms ≡ Some (TooMany n)
    go None some = absurd (some refl)
    go (Some main) some = ap (option_map TooMany) is
lines_fault_is forms TooLong is = absurd is
lines_fault_is forms (NotAscii n) is = absurd is
lines_fault_is forms (Grammar n) is = absurd is
lines_fault_is forms NoMemory is = absurd is

no_lines_fault : (forms : List (Form Text)) (script : Script) → IsTreeOf forms script → lines_fault forms ≡ None
no_lines_fault forms script tree = rw (tree.named.known, tree.named.once, tree.named.right, tree.named.quiet, tree.main, tree.within) refl

-- the check that finds a fault
data Finds (bytes : List ℕ) : ScriptFault → Type 0 where
  long : is_too_long bytes ≡ true → Finds bytes TooLong
  foreign : {n : ℕ} → is_too_long bytes ≡ false → first_foreign_line bytes ≡ Some n → Finds bytes (NotAscii n)
  grammar : {n : ℕ} → IsPlainText bytes → IsGrammarLine (lines_of bytes) n → Finds bytes (Grammar n)
  names : {fault : ScriptFault} → IsWellFormed bytes → lines_fault (forms_of (lines_of bytes)) ≡ Some fault → Finds bytes fault

finds : (bytes : List ℕ) (fault : ScriptFault) → IsFaultOf bytes fault → Finds bytes fault
finds bytes TooLong is = Finds.long is
finds bytes (NotAscii n) (short, is) = Finds.foreign short is
finds bytes (Grammar n) (text, is) = Finds.grammar text is
finds bytes (UnknownName n) (formed, is) = Finds.names formed (lines_fault_is (forms_of (lines_of bytes)) (UnknownName n) is)
finds bytes (DoubleName n) (formed, is) = Finds.names formed (lines_fault_is (forms_of (lines_of bytes)) (DoubleName n) is)
finds bytes NoMain (formed, is) = Finds.names formed (lines_fault_is (forms_of (lines_of bytes)) NoMain is)
finds bytes (TooMany n) (formed, is) = Finds.names formed (lines_fault_is (forms_of (lines_of bytes)) (TooMany n) is)
finds bytes (WrongKind n) (formed, is) = Finds.names formed (lines_fault_is (forms_of (lines_of bytes)) (WrongKind n) is)
finds bytes (MayLeave n) (formed, is) = Finds.names formed (lines_fault_is (forms_of (lines_of bytes)) (MayLeave n) is)
finds bytes NoMemory is = absurd is

one_found : (bytes : List ℕ) (fault other : ScriptFault) → Finds bytes fault → Finds bytes other → fault ≡ other
one_found bytes fault other (Finds.long a) (Finds.long b) = refl
one_found bytes fault other (Finds.long a) (Finds.foreign short b) = let clash : ⊥ = cc in absurd clash
one_found bytes fault other (Finds.long a) (Finds.grammar text b) = let clash : ⊥ = cc (a, text.short) in absurd clash
one_found bytes fault other (Finds.long a) (Finds.names formed b) = let clash : ⊥ = cc (a, formed.text.short) in absurd clash
one_found bytes fault other (Finds.foreign short a) (Finds.long b) = let clash : ⊥ = cc in absurd clash
one_found bytes fault other (Finds.foreign {n = n} short a) (Finds.foreign {n = m} also b) = let same : n ≡ m = cc in ap NotAscii same
one_found bytes fault other (Finds.foreign short a) (Finds.grammar text b) = let clash : ⊥ = cc (a, text.printable) in absurd clash
one_found bytes fault other (Finds.foreign short a) (Finds.names formed b) = let clash : ⊥ = cc (a, formed.text.printable) in absurd clash
one_found bytes fault other (Finds.grammar text a) (Finds.long b) = let clash : ⊥ = cc (b, text.short) in absurd clash
one_found bytes fault other (Finds.grammar text a) (Finds.foreign short b) = let clash : ⊥ = cc (b, text.printable) in absurd clash
one_found bytes fault other (Finds.grammar {n = n} text a) (Finds.grammar {n = m} also b) = ap Grammar (one_grammar_line (lines_of bytes) n m a b)
one_found bytes fault other (Finds.grammar {n = n} text a) (Finds.names formed b) = absurd (no_grammar_line (lines_of bytes) n formed.grammar a)
one_found bytes fault other (Finds.names formed a) (Finds.long b) = let clash : ⊥ = cc (b, formed.text.short) in absurd clash
one_found bytes fault other (Finds.names formed a) (Finds.foreign short b) = let clash : ⊥ = cc (b, formed.text.printable) in absurd clash
one_found bytes fault other (Finds.names formed a) (Finds.grammar {n = m} text b) = absurd (no_grammar_line (lines_of bytes) m formed.grammar b)
one_found bytes fault other (Finds.names {fault = f} formed a) (Finds.names {fault = g} also b) = let same : f ≡ g = cc in same

pub fault_once : (bytes : List ℕ) (fault other : ScriptFault) → IsFaultOf bytes fault → IsFaultOf bytes other → fault ≡ other
fault_once bytes fault other a b = one_found bytes fault other (finds bytes fault a) (finds bytes other b)

none_found : (bytes : List ℕ) (script : Script) (fault : ScriptFault) → IsScriptOf bytes script → Finds bytes fault → ⊥
none_found bytes script fault is (Finds.long a) = cc (a, is.well_formed.text.short)
none_found bytes script fault is (Finds.foreign short a) = cc (a, is.well_formed.text.printable)
none_found bytes script fault is (Finds.grammar {n = n} text a) = no_grammar_line (lines_of bytes) n is.well_formed.grammar a
none_found bytes script fault is (Finds.names formed a) = cc (a, no_lines_fault (forms_of (lines_of bytes)) script is.tree)

pub no_fault : (bytes : List ℕ) (script : Script) (fault : ScriptFault) → IsScriptOf bytes script → IsFaultOf bytes fault → ⊥
no_fault bytes script fault is a = none_found bytes script fault is (finds bytes fault a)
