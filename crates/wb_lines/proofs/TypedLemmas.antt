-- The form of a line has operands of the operand places of its line kind.
use Rattle.std.proofs.Common.{◌≡◌, ◌∙◌, refl, sym, ap, subst, ℕ, ℤ, zero, suc, pos, neg_ℤ, ◌+◌, ◌-◌, ◌^◌, ◌<◌, ◌≤◌, List, [], ◌∷◌, Bool, true, false, ◌&&◌, ◌||◌, nat_eq, nat_lt, nat_le, length, drop, Option, Some, None, fold, arith, length-drop}
use Rattle.std.specs.Prelude.{if◌then◌else◌}
use Rattle.std.specs.Option.{option_map}
use Rattle.std.specs.List.{list_all, list_any}
use Rattle.std.specs.Str.{bytes_eq}
use Rattle.std.proofs.lemmas.Bool.{le-leb}
use Rattle.std.proofs.lemmas.Bool.Decides.{nat_tests}
use Rattle.std.proofs.lemmas.List.{length-take}
use Rattle.wb_tree.specs.declared.script_lines.LineKind.{LineKind}
use Rattle.wb_tree.specs.declared.script_lines.OperandPlace.{OperandPlace}
use Rattle.wb_tree.specs.declared.script_lines.ParameterType.{ParameterType}
use Rattle.wb_tree.specs.declared.script_lines.ParameterType.TheVariants as parameter_type
use Rattle.wb_tree.specs.declared.script_lines.WordKind.{WordKind}
use Rattle.wb_tree.specs.declared.script_lines.WordKind.TheVariants as word
use Rattle.wb_tree.specs.declared.script_lines.Operand.{Operand}
use Rattle.wb_tree.specs.declared.script_lines.Operand.TheVariants.{Name, Field, Number, Size, Literal, Parameter, Keyword}
use Rattle.wb_tree.specs.declared.script_lines.Form.{Form}
use Rattle.wb_language.specs.Forms.{operand_as, operand_among, operand_of, operands_of, onto, operands_if, line_or, form_in, form_of, skipped_or, begins_comment, forms_of, either, size_of, parameter_of, field_of}
use Rattle.wb_language.specs.LineKinds.{line_kinds, operand_places_for, text_of, word_kinds}
use Rattle.wb_language.specs.Lines.{words_of}
use Rattle.wb_language.specs.Names.{Text}
use Rattle.wb_tree.specs.Sound.{is_literal_text, is_quotable}
use Rattle.wb_language.specs.Words.{is_digit, with_digit, digits_of, number_spelled, declared_name, used_name, literal_spelled, is_literal, inside, base_name, field_name, parameter_name, parameter_type_of_word, text_of_keyword}
use Rattle.wb_lines.specs.Typed.{is_short, is_word_of, is_operand, are_operands, is_typed, AreTyped}
use Rattle.wb_lines.proofs.Cuts.{AreWithin, words_within}
use Rattle.wb_lines.proofs.Digits.{digit_at_most_nine, one_more_digit, nine_digits}

pub both : (a b : Bool) → (a && b) ≡ true → (a ≡ true) × (b ≡ true)
both true b e = (refl, e)
both false b e = let clash : ⊥ = cc in absurd clash

-- the first of two, where the second gives it too
pub either_first : (a b : Bool) → (b ≡ true → a ≡ true) → (a || b) ≡ true → a ≡ true
either_first true b other e = refl
either_first false b other e = other e

-- what a test that holds gives
given : {X : Type 0} (b : Bool) (x y : X) → (if b then Some x else None) ≡ Some y → (b ≡ true) × (x ≡ y)
given true x y e = (refl, cc)
given false x y e = let clash : ⊥ = cc in absurd clash

digits_below : (word : List ℕ) (value i : ℕ) → i + length word ≤ 9 → value < 10 ^ i → list_all is_digit word ≡ true → fold with_digit value word < 10 ^ 9
digits_below [] value i few below digits = nine_digits i value (omega arith) below
digits_below (byte ∷ bytes) value i few below digits =
    let (first, rest) = both (is_digit byte) (list_all is_digit bytes) digits in
    let one_digit : byte - 48 ≤ 9 = digit_at_most_nine byte first in
    digits_below bytes (with_digit value byte) (i + 1) (omega arith) (one_more_digit i value (byte - 48) (omega arith) below one_digit) rest

digits_bounded : (word : List ℕ) (n : ℕ) → digits_of word ≡ Some n → n ≤ 999999999
digits_bounded word n is =
    let (tested, value) = given (nat_le 1 (length word) && nat_le (length word) 9 && list_all is_digit word) (fold with_digit 0 word) n is in
    let (sizes, digits) = both (nat_le 1 (length word) && nat_le (length word) 9) (list_all is_digit word) tested in
    let (some, few) = both (nat_le 1 (length word)) (nat_le (length word) 9) sizes in
    let short : length word ≤ 9 = grind (arith, nat_tests) in
    let below : fold with_digit 0 word < 10 ^ 9 = digits_below word 0 0 (omega arith) (omega arith) digits in
    omega arith

positive : (o : Option ℕ) (z : ℤ) → ((n : ℕ) → o ≡ Some n → n ≤ 999999999) → option_map pos o ≡ Some z → is_short z ≡ true
positive None z bound is = let clash : ⊥ = cc in absurd clash
positive (Some n) z bound is =
    let small : n ≤ 999999999 = bound n refl in
    let passes : nat_le n 999999999 ≡ true = grind (arith, nat_tests) in
    let same : pos n ≡ z = cc in
    subst (λ v. is_short v ≡ true) same passes

negated : (n : ℕ) → n ≤ 999999999 → is_short (neg_ℤ (pos n)) ≡ true
negated zero small = refl
negated (suc n) small = let passes : nat_lt n 999999999 ≡ true = grind (arith, nat_tests) in passes

negative : (o : Option ℕ) (z : ℤ) → ((n : ℕ) → o ≡ Some n → n ≤ 999999999) → option_map (λ n. neg_ℤ (pos n)) o ≡ Some z → is_short z ≡ true
negative None z bound is = let clash : ⊥ = cc in absurd clash
negative (Some n) z bound is =
    let same : neg_ℤ (pos n) ≡ z = cc in
    subst (λ v. is_short v ≡ true) same (negated n (bound n refl))

number_bounded : (word : List ℕ) (z : ℤ) → number_spelled word ≡ Some z → is_short z ≡ true
number_bounded [] z is = let clash : ⊥ = cc in absurd clash
number_bounded (byte ∷ bytes) z is = go (nat_eq byte 45) is
  where
    go : (b : Bool) → (if b then option_map (λ n. neg_ℤ (pos n)) (digits_of bytes) else option_map pos (digits_of (byte ∷ bytes))) ≡ Some z → is_short z ≡ true
    go true e = negative (digits_of bytes) z (digits_bounded bytes) e
    go false e = positive (digits_of (byte ∷ bytes)) z (digits_bounded (byte ∷ bytes)) e

-- what a map of an option made stands for what the option holds
mapped : {X Y : Type 0} (P : Y → Type 0) (f : X → Y) (o : Option X) (y : Y) → ((x : X) → o ≡ Some x → P (f x)) → option_map f o ≡ Some y → P y
mapped P f None y each is = let clash : ⊥ = cc in absurd clash
mapped P f (Some x) y each is = let same : f x ≡ y = cc in subst P same (each x refl)

-- what is in a word is no longer than the word
inside_within : (word : Text) → length (inside word) ≤ length word
inside_within word = omega (arith, length-take (length word - 1 - 1) (drop 1 word), length-drop 1 word)

literal_sound : (word text : Text) → length word ≤ 65536 → literal_spelled word ≡ Some text → is_literal_text text ≡ true
literal_sound word text short is =
    let (tested, same) = given (is_literal word) (inside word) text is in
    let quotable : list_all is_quotable (inside word) ≡ true = (both _ (list_all is_quotable (inside word)) tested).1 in
    let within : nat_le (length (inside word)) 65536 ≡ true = le-leb (length (inside word)) 65536 (omega (arith, short, inside_within word)) in
    subst (λ t. is_literal_text t ≡ true) same (rw (quotable, within) refl)

size_typed : (number : Option ℤ) (operand : Operand Text) → size_of number ≡ Some operand → is_word_of operand word.Size ≡ true
size_typed (Some (pos n)) operand is = let same : Size n ≡ operand = cc in subst (λ o. is_word_of o word.Size ≡ true) same refl
size_typed _ operand is = let clash : ⊥ = cc in absurd clash

parameter_typed : (name : Option Text) (kind : Option (ParameterType Text)) (operand : Operand Text) → parameter_of name kind ≡ Some operand → is_word_of operand word.Parameter ≡ true
parameter_typed (Some name) (Some kind) operand is = let same : Parameter name kind ≡ operand = cc in subst (λ o. is_word_of o word.Parameter ≡ true) same refl
parameter_typed (Some name) None operand is = let clash : ⊥ = cc in absurd clash
parameter_typed None kind operand is = let clash : ⊥ = cc in absurd clash

field_typed : (base field : Option Text) (operand : Operand Text) → field_of base field ≡ Some operand → is_word_of operand word.Field ≡ true
field_typed (Some base) (Some field) operand is = let same : Field base field ≡ operand = cc in subst (λ o. is_word_of o word.Field ≡ true) same refl
field_typed (Some base) None operand is = let clash : ⊥ = cc in absurd clash
field_typed None field operand is = let clash : ⊥ = cc in absurd clash

kind_typed : (kind : WordKind) (text : Text) (operand : Operand Text) → length text ≤ 65536 → operand_as kind text ≡ Some operand → is_word_of operand kind ≡ true
kind_typed word.NewName text operand short is = mapped (λ o. is_word_of o word.NewName ≡ true) Name (declared_name text) operand (λ n e. refl) is
kind_typed word.Name text operand short is = mapped (λ o. is_word_of o word.Name ≡ true) Name (used_name text) operand (λ n e. refl) is
kind_typed word.Field text operand short is = field_typed (base_name text) (field_name text) operand is
kind_typed word.Number text operand short is = mapped (λ o. is_word_of o word.Number ≡ true) Number (number_spelled text) operand (λ z e. number_bounded text z e) is
kind_typed word.Size text operand short is = size_typed (number_spelled text) operand is
kind_typed word.Literal text operand short is = mapped (λ o. is_word_of o word.Literal ≡ true) Literal (literal_spelled text) operand (λ t e. literal_sound text t short e) is
kind_typed word.Parameter text operand short is = parameter_typed (parameter_name text) (parameter_type_of_word text) operand is
kind_typed word.NewPointer text operand short is = mapped (λ o. is_word_of o word.NewPointer ≡ true) (λ n. Parameter n parameter_type.Pointer) (declared_name text) operand (λ n e. refl) is
kind_typed (word.Keyword k) text operand short is = subst (λ o. is_word_of o (word.Keyword k) ≡ true) (given (bytes_eq text (text_of_keyword k)) Keyword operand is).1 refl

-- a word of one of some kinds
among_typed : (kinds : List WordKind) (text : Text) (operand : Operand Text) → length text ≤ 65536 → operand_among kinds text ≡ Some operand → list_any (is_word_of operand) kinds ≡ true
among_typed [] text operand short is = let clash : ⊥ = cc in absurd clash
among_typed (kind ∷ kinds) text operand short is = go (operand_as kind text) (λ o. kind_typed kind text o short) (among_typed kinds text operand short) is
  where
    later : (b : Bool) → list_any (is_word_of operand) kinds ≡ true → (b || list_any (is_word_of operand) kinds) ≡ true
    later true e = refl
    later false e = e

    go : (first : Option (Operand Text)) → ((o : Operand Text) → first ≡ Some o → is_word_of o kind ≡ true) → (operand_among kinds text ≡ Some operand → list_any (is_word_of operand) kinds ≡ true) → either first (operand_among kinds text) ≡ Some operand → list_any (is_word_of operand) (kind ∷ kinds) ≡ true
    go (Some o) one others e = rw (one operand e) refl
    go None one others e = later (is_word_of operand kind) (others e)

operand_typed : (operand_place : OperandPlace) (text : Text) (operand : Operand Text) → length text ≤ 65536 → operand_of operand_place text ≡ Some operand → is_operand operand_place operand ≡ true
operand_typed operand_place text operand short is = among_typed (word_kinds operand_place) text operand short is

operands_typed : (operand_places : List OperandPlace) (words : List Text) (operands : List (Operand Text)) → AreWithin 65536 words → operands_of operand_places words ≡ Some operands → are_operands operand_places operands ≡ true
operands_typed [] [] operands short is = let same : [] ≡ operands = cc in subst (λ o. are_operands [] o ≡ true) same refl
operands_typed [] (word ∷ words) operands short is = let clash : ⊥ = cc in absurd clash
operands_typed (operand_place ∷ operand_places) [] operands short is = let clash : ⊥ = cc in absurd clash
operands_typed (operand_place ∷ operand_places) (word ∷ words) operands (here, rest) is = go (operand_of operand_place word) (operands_of operand_places words) (λ p. operand_typed operand_place word p here) (λ ps. operands_typed operand_places words ps rest) is
  where
    go : (o : Option (Operand Text)) (rest : Option (List (Operand Text))) → ((p : Operand Text) → o ≡ Some p → is_operand operand_place p ≡ true) → ((ps : List (Operand Text)) → rest ≡ Some ps → are_operands operand_places ps ≡ true) → onto o rest ≡ Some operands → are_operands (operand_place ∷ operand_places) operands ≡ true
    go None rest one more e = let clash : ⊥ = cc in absurd clash
    go (Some p) None one more e = let clash : ⊥ = cc in absurd clash
    go (Some p) (Some ps) one more e =
        let same : p ∷ ps ≡ operands = cc in
        subst (λ o. are_operands (operand_place ∷ operand_places) o ≡ true) same (rw (one p refl) (more ps refl))

-- as many operands as words
operands_many : (operand_places : List OperandPlace) (words : List Text) (operands : List (Operand Text)) → operands_of operand_places words ≡ Some operands → length operands ≡ length words
operands_many [] [] operands is = let same : [] ≡ operands = cc in ap length (sym same)
operands_many [] (word ∷ words) operands is = let clash : ⊥ = cc in absurd clash
operands_many (operand_place ∷ operand_places) [] operands is = let clash : ⊥ = cc in absurd clash
operands_many (operand_place ∷ operand_places) (word ∷ words) operands is = go (operand_of operand_place word) (operands_of operand_places words) (operands_many operand_places words) is
  where
    go : (o : Option (Operand Text)) (rest : Option (List (Operand Text))) → ((ps : List (Operand Text)) → rest ≡ Some ps → length ps ≡ length words) → onto o rest ≡ Some operands → length operands ≡ suc (length words)
    go None rest more e = let clash : ⊥ = cc in absurd clash
    go (Some p) None more e = let clash : ⊥ = cc in absurd clash
    go (Some p) (Some ps) more e = let same : p ∷ ps ≡ operands = cc in ap length (sym same) ∙ ap suc (more ps refl)

chosen_typed : (line_kind : LineKind) (o : Option (List (Operand Text))) (other : Form Text) → ((ps : List (Operand Text)) → o ≡ Some ps → are_operands (operand_places_for line_kind (length ps)) ps ≡ true) → is_typed other ≡ true → is_typed (line_or line_kind o other) ≡ true
chosen_typed line_kind (Some ps) other typed rest = typed ps refl
chosen_typed line_kind None other typed rest = rest

-- none of a line kind whose text differs
if_typed : (b : Bool) (line_kind : LineKind) (words : List Text) (ps : List (Operand Text)) → AreWithin 65536 words → operands_if b line_kind words ≡ Some ps → are_operands (operand_places_for line_kind (length ps)) ps ≡ true
if_typed true line_kind words ps short is =
    ap (λ n. are_operands (operand_places_for line_kind n) ps) (operands_many (operand_places_for line_kind (length words)) words ps is)
    ∙ operands_typed (operand_places_for line_kind (length words)) words ps short is
if_typed false line_kind words ps short is = let clash : ⊥ = cc in absurd clash

form_typed : (ks : List LineKind) (first : Text) (words : List Text) → AreWithin 65536 words → is_typed (form_in ks first words) ≡ true
form_typed [] first words short = refl
form_typed (line_kind ∷ ks) first words short =
    let same = bytes_eq (text_of line_kind) first in
    chosen_typed line_kind (operands_if same line_kind words) (form_in ks first words) (λ ps. if_typed same line_kind words ps short) (form_typed ks first words short)

words_typed : (words : List Text) → AreWithin 65536 words → is_typed (form_of words) ≡ true
words_typed [] short = refl
words_typed (first ∷ words) (here, rest) = go (begins_comment first)
  where
    go : (b : Bool) → is_typed (skipped_or b (form_in line_kinds first words)) ≡ true
    go true = refl
    go false = form_typed line_kinds first words rest

pub lines_typed : (lines : List Text) → AreWithin 65536 lines → AreTyped (forms_of lines)
lines_typed [] short = refl
lines_typed (line ∷ lines) (here, rest) = rw (words_typed (words_of line) (words_within 65536 line here)) (lines_typed lines rest)
