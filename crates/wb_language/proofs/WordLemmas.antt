-- A line that says something is made of words.
use Rattle.std.proofs.Common.{◌≡◌, ◌≢◌, inl, inr, ℕ, zero, suc, ap, ℤ, pos, neg_ℤ, nat_le, length, fold, ◌≤◌, List, [], ◌∷◌, ◌++◌, ◌+◌, take, drop, Bool, true, false, not, ◌&&◌, nat_eq, Option, Some, None, if◌then◌else◌, arith, refl, sym, subst}
use Rattle.std.specs.Prelude.{codes}
use Rattle.std.specs.List.{list_all}
use Rattle.std.specs.Option.{option_map}
use Rattle.std.specs.Str.{bytes_eq}
use Rattle.std.specs.Cmp.Lexicographic.{same_text}
use Rattle.std.proofs.lemmas.Bool.Decides.{nat_tests}
use borrow.Author.Tests.{ne_eqb, eqb-true}
use Rattle.wb_tree.specs.declared.script_lines.LineKind.{LineKind}
use Rattle.wb_tree.specs.declared.script_lines.OperandPlace.{OperandPlace}
use Rattle.wb_tree.specs.declared.script_lines.Operand.{Operand}
use Rattle.wb_tree.specs.declared.script_lines.Operand.TheVariants.{Name, Number, Literal, Keyword}
use Rattle.wb_tree.specs.declared.script_lines.Operand.TheVariants as spelled
use Rattle.wb_tree.specs.declared.script_lines.ParameterType.{ParameterType}
use Rattle.wb_tree.specs.declared.script_lines.ParameterType.TheVariants.{Pointer, OfClass}
use Rattle.wb_tree.specs.declared.script_lines.Keyword as model
use Rattle.wb_tree.specs.declared.script_lines.Keyword.TheVariants as keyword
use Rattle.wb_tree.specs.declared.script_lines.Form.{Form}
use Rattle.wb_tree.specs.declared.script_lines.Form.TheVariants.{Line}
use Rattle.wb_language.specs.Lines.{is_blank, words_of}
use Rattle.wb_language.specs.Words.{is_reserved, with_digit, is_digit, is_name_byte, is_name, is_letter, declared_name, used_name, digits_of, number_spelled, literal_spelled, length_before, before_first, after_first_of, base_name, field_name, parameter_type_after_colon, parameter_name, parameter_type_of_word, text_of_keyword}
use Rattle.wb_tree.specs.declared.script_lines.WordKind.{WordKind}
use Rattle.wb_tree.specs.declared.script_lines.WordKind.TheVariants as kind
use Rattle.wb_language.specs.LineKinds.{line_kinds, text_of, operand_places_for, word_kinds}
use Rattle.wb_language.specs.Forms.{operand_of, operand_as, operand_among, operands_of, operands_if, either, size_of, parameter_of, field_of, onto, line_or, form_in, begins_comment, skipped_or, form_of}
use Rattle.wb_language.specs.Writing.{is_plain, IsWord, AreWords, IsMadeOfWords}
use Rattle.wb_language.proofs.WritingLemmas.{both, quoted_of_literal}

-- bytes of names and numbers are neither blanks nor quotes

plain_byte : (byte : ℕ) → byte ≢ 32 → byte ≢ 9 → byte ≢ 13 → byte ≢ 34 → not (is_blank byte) && not (nat_eq byte 34) ≡ true
plain_byte byte a b c d = rw (ne_eqb byte 32 a, ne_eqb byte 9 b, ne_eqb byte 13 c, ne_eqb byte 34 d) refl

high_byte : (byte : ℕ) → 45 ≤ byte → not (is_blank byte) && not (nat_eq byte 34) ≡ true
high_byte byte high = plain_byte byte (λ e. omega arith) (λ e. omega arith) (λ e. omega arith) (λ e. omega arith)

high_of_name : (byte : ℕ) → is_name_byte byte ≡ true → 45 ≤ byte
high_of_name byte h = grind (arith, nat_tests)

high_of_digit : (byte : ℕ) → is_digit byte ≡ true → 45 ≤ byte
high_of_digit byte h = grind (arith, nat_tests)

high_of_operand_place : (byte : ℕ) → is_letter byte ≡ true → 45 ≤ byte
high_of_operand_place byte h = grind (arith, nat_tests)

both_hold : (a b : Bool) → a ≡ true → b ≡ true → a && b ≡ true
both_hold a b is_a is_b = rw (is_a, is_b) refl

plain_all : (test : ℕ → Bool) → ((byte : ℕ) → test byte ≡ true → 45 ≤ byte) → (bytes : List ℕ) → list_all test bytes ≡ true → is_plain bytes ≡ true
plain_all test high [] h = refl
plain_all test high (byte ∷ bytes) h =
    let (here, there) = both (test byte) (list_all test bytes) h in
    both_hold _ (is_plain bytes) (high_byte byte (high byte here)) (plain_all test high bytes there)

not_empty : (byte : ℕ) (bytes : List ℕ) → (byte ∷ bytes) ≢ []
not_empty byte bytes e = let clash : ⊥ = cc in clash

-- what a chosen value says

chosen_back : {T : Type 0} (b : Bool) (one other : T) → (if b then Some one else None) ≡ Some other → b ≡ true
chosen_back true one other h = refl
chosen_back false one other h = cc

mapped_back : {S T : Type 0} (f : S → T) (o : Option S) (one : T) → option_map f o ≡ Some one → (x : S) × (o ≡ Some x)
mapped_back f None one h = cc
mapped_back f (Some x) one h = (x, refl)

-- names, numbers, literals

word_of_name : (word : List ℕ) → is_name word ≡ true → IsWord word
word_of_name [] h = cc
word_of_name (byte ∷ bytes) h =
    let (here, there) = both (is_letter byte) (list_all is_name_byte bytes) h in
    inl (not_empty byte bytes, both_hold _ (is_plain bytes) (high_byte byte (high_of_operand_place byte here)) (plain_all is_name_byte high_of_name bytes there))

word_of_declared : (word name : List ℕ) → declared_name word ≡ Some name → IsWord word
word_of_declared word name h =
    let (is, _) = both (is_name word) (not (is_reserved word)) (chosen_back (is_name word && not (is_reserved word)) word name h) in
    word_of_name word is

word_of_used : (word name : List ℕ) → used_name word ≡ Some name → IsWord word
word_of_used word name h = word_of_name word (chosen_back (is_name word) word name h)

plain_of_digits : (word : List ℕ) (n : ℕ) → digits_of word ≡ Some n → is_plain word ≡ true
plain_of_digits word n h =
    let (_, are_digits) = both _ (list_all is_digit word) (chosen_back (nat_le 1 (length word) && nat_le (length word) 9 && list_all is_digit word) (fold with_digit 0 word) n h) in
    plain_all is_digit high_of_digit word are_digits

word_of_number : (word : List ℕ) (z : ℤ) → number_spelled word ≡ Some z → IsWord word
word_of_number [] z h = cc
word_of_number (byte ∷ bytes) z h = inl (not_empty byte bytes, signed (nat_eq byte 45) refl h)
  where
    signed : (minus : Bool) → nat_eq byte 45 ≡ minus → (if minus then option_map (λ n. neg_ℤ (pos n)) (digits_of bytes) else option_map pos (digits_of (byte ∷ bytes))) ≡ Some z → is_plain (byte ∷ bytes) ≡ true
    signed true is h =
        let (n, digits) = mapped_back (λ n. neg_ℤ (pos n)) (digits_of bytes) z h in
        let minus : byte ≡ 45 = eqb-true byte 45 is in
        both_hold _ (is_plain bytes) (high_byte byte (omega arith)) (plain_of_digits bytes n digits)
    signed false is h = let (n, digits) = mapped_back pos (digits_of (byte ∷ bytes)) z h in plain_of_digits (byte ∷ bytes) n digits

word_of_literal : (word text : List ℕ) → literal_spelled word ≡ Some text → IsWord word
word_of_literal word text h = let (printable, is) = quoted_of_literal word text h in inr (text, printable, is)

-- a word of either of two kinds
word_of_either : (word : List ℕ) (first other : Option (Operand (List ℕ))) (operand : Operand (List ℕ)) → ((o : Operand (List ℕ)) → first ≡ Some o → IsWord word) → ((o : Operand (List ℕ)) → other ≡ Some o → IsWord word) → either first other ≡ Some operand → IsWord word
word_of_either word (Some o) other operand one two h = one o refl
word_of_either word None other operand one two h = two operand h

word_of_size : (word : List ℕ) (operand : Operand (List ℕ)) → size_of (number_spelled word) ≡ Some operand → IsWord word
word_of_size word operand h = go (number_spelled word) refl h
  where
    go : (o : Option ℤ) → number_spelled word ≡ o → size_of o ≡ Some operand → IsWord word
    go (Some z) is h = word_of_number word z is
    go None is h = cc

plain_append : (front back : List ℕ) → is_plain front ≡ true → is_plain back ≡ true → is_plain (front ++ back) ≡ true
plain_append [] back f b = b
plain_append (byte ∷ front) back f b =
    let (here, there) = both (not (is_blank byte) && not (nat_eq byte 34)) (is_plain front) f in
    both_hold _ (is_plain (front ++ back)) here (plain_append front back there b)

plain_of_name : (word : List ℕ) → is_name word ≡ true → (word ≢ []) × (is_plain word ≡ true)
plain_of_name [] h = cc
plain_of_name (byte ∷ bytes) h =
    let (here, there) = both (is_letter byte) (list_all is_name_byte bytes) h in
    (not_empty byte bytes, both_hold _ (is_plain bytes) (high_byte byte (high_of_operand_place byte here)) (plain_all is_name_byte high_of_name bytes there))

plain_of_parameter_type : (bytes : List ℕ) (kind : ParameterType (List ℕ)) → parameter_type_after_colon bytes ≡ Some kind → is_plain bytes ≡ true
plain_of_parameter_type bytes kind h = go (bytes_eq bytes (codes "ptr")) (bytes_eq bytes (codes "int")) refl refl h
  where
    go : (ptr int : Bool) → bytes_eq bytes (codes "ptr") ≡ ptr → bytes_eq bytes (codes "int") ≡ int → parameter_type_after_colon bytes ≡ Some kind → is_plain bytes ≡ true
    go true int is_ptr is_int h = subst (λ b. is_plain b ≡ true) (sym (same_text bytes (codes "ptr") (sym is_ptr))) refl
    go false true is_ptr is_int h = subst (λ b. is_plain b ≡ true) (sym (same_text bytes (codes "int") (sym is_int))) refl
    go false false is_ptr is_int h =
        let named : option_map OfClass (used_name bytes) ≡ Some kind = rw (is_ptr, is_int) at h in
        let (name, is) = mapped_back OfClass (used_name bytes) kind named in
        (plain_of_name bytes (chosen_back (is_name bytes) bytes name is)).1

none_taken : (n : ℕ) (word : List ℕ) → word ≡ [] → take n word ≡ []
none_taken zero word h = refl
none_taken (suc n) word h = ap (take (suc n)) h

-- what is before and after a byte that is plain, and the byte itself
module _ (byte : ℕ) (plain : is_plain (byte ∷ []) ≡ true) where
  -- one byte more, which is this one or not
  plain_here : (b : ℕ) (word : List ℕ) (same : Bool) → nat_eq b byte ≡ same → (is_plain (before_first byte word) ≡ true → is_plain (after_first_of byte word) ≡ true → is_plain word ≡ true) →
      is_plain (before_first byte (b ∷ word)) ≡ true → is_plain (after_first_of byte (b ∷ word)) ≡ true → is_plain (b ∷ word) ≡ true
  plain_here b word true is rest front back =
      let here : b ≡ byte = eqb-true b byte is in
      let following : is_plain word ≡ true = rw (is) at back in
      plain_append (b ∷ []) word (subst (λ x. is_plain (x ∷ []) ≡ true) (sym here) plain) following
  plain_here b word false is rest front back =
      let before : is_plain (b ∷ before_first byte word) ≡ true = rw (is) at front in
      let one_less : suc (length_before byte word) + 1 ≡ suc (length_before byte word + 1) = omega arith in
      let shifted : is_plain (drop (suc (length_before byte word) + 1) (b ∷ word)) ≡ true = rw (is) at back in
      let following : is_plain (after_first_of byte word) ≡ true = subst (λ n. is_plain (drop n (b ∷ word)) ≡ true) one_less shifted in
      let (first, others) = both (not (is_blank b) && not (nat_eq b 34)) (is_plain (before_first byte word)) before in
      both_hold _ (is_plain word) first (rest others following)

  plain_around : (word : List ℕ) → is_plain (before_first byte word) ≡ true → is_plain (after_first_of byte word) ≡ true → is_plain word ≡ true
  plain_around [] front back = refl
  plain_around (b ∷ word) front back = plain_here b word (nat_eq b byte) refl (plain_around word) front back

  -- the first part isn't empty
  word_around : (word : List ℕ) → before_first byte word ≢ [] → is_plain (before_first byte word) ≡ true → is_plain (after_first_of byte word) ≡ true → IsWord word
  word_around word some front back = inl ((λ none. some (none_taken (length_before byte word) word none)), plain_around word front back)

word_of_parameter : (word : List ℕ) (operand : Operand (List ℕ)) → parameter_of (parameter_name word) (parameter_type_of_word word) ≡ Some operand → IsWord word
word_of_parameter word operand h = go (parameter_name word) (parameter_type_of_word word) refl refl h
  where
    front : List ℕ
    front = before_first 58 word

    go : (name : Option (List ℕ)) (kind : Option (ParameterType (List ℕ))) → parameter_name word ≡ name → parameter_type_of_word word ≡ kind → parameter_of name kind ≡ Some operand → IsWord word
    go (Some name) (Some kind) is_name_there is_kind h =
        let (named, _) = both (is_name front) (not (is_reserved front)) (chosen_back (is_name front && not (is_reserved front)) front name is_name_there) in
        let (some, plain) = plain_of_name front named in
        word_around 58 refl word some plain (plain_of_parameter_type (after_first_of 58 word) kind is_kind)
    go (Some name) None is_name_there is_kind h = cc
    go None kind is_name_there is_kind h = cc

word_of_field : (word : List ℕ) (operand : Operand (List ℕ)) → field_of (base_name word) (field_name word) ≡ Some operand → IsWord word
word_of_field word operand h = go (base_name word) (field_name word) refl refl h
  where
    go : (base field : Option (List ℕ)) → base_name word ≡ base → field_name word ≡ field → field_of base field ≡ Some operand → IsWord word
    go (Some base) (Some field) is_base is_field h =
        let (some, plain) = plain_of_name (before_first 46 word) (chosen_back (is_name (before_first 46 word)) (before_first 46 word) base is_base) in
        let (_, following) = plain_of_name (after_first_of 46 word) (chosen_back (is_name (after_first_of 46 word)) (after_first_of 46 word) field is_field) in
        word_around 46 refl word some plain following
    go (Some base) None is_base is_field h = cc
    go None field is_base is_field h = cc

plain_keyword : (k : model.Keyword) → IsWord (text_of_keyword k)
plain_keyword keyword.Null = word_of_name (codes "null") refl
plain_keyword keyword.Some = word_of_name (codes "some") refl
plain_keyword keyword.Equal = word_of_name (codes "eq") refl
plain_keyword keyword.Less = word_of_name (codes "less") refl

word_of_keyword : (k : model.Keyword) (word : List ℕ) (same : Bool) → bytes_eq word (text_of_keyword k) ≡ same → (operand : Operand (List ℕ)) → (if same then Some Keyword else None) ≡ Some operand → IsWord word
word_of_keyword k word true is operand h = subst IsWord (sym (same_text word (text_of_keyword k) (sym is))) (plain_keyword k)
word_of_keyword k word false is operand h = cc

-- a word of one of the kinds
word_of_kind : (kind : WordKind) (word : List ℕ) (operand : Operand (List ℕ)) → operand_as kind word ≡ Some operand → IsWord word
word_of_kind kind.NewName word operand h = let (name, is) = mapped_back Name (declared_name word) operand h in word_of_declared word name is
word_of_kind kind.Name word operand h = let (name, is) = mapped_back Name (used_name word) operand h in word_of_used word name is
word_of_kind kind.Field word operand h = word_of_field word operand h
word_of_kind kind.Number word operand h = let (z, is) = mapped_back Number (number_spelled word) operand h in word_of_number word z is
word_of_kind kind.Size word operand h = word_of_size word operand h
word_of_kind kind.Literal word operand h = let (text, is) = mapped_back Literal (literal_spelled word) operand h in word_of_literal word text is
word_of_kind kind.Parameter word operand h = word_of_parameter word operand h
word_of_kind kind.NewPointer word operand h = let (name, is) = mapped_back (λ n. spelled.Parameter n Pointer) (declared_name word) operand h in word_of_declared word name is
word_of_kind (kind.Keyword k) word operand h = word_of_keyword k word (bytes_eq word (text_of_keyword k)) refl operand h

word_among : (kinds : List WordKind) (word : List ℕ) (operand : Operand (List ℕ)) → operand_among kinds word ≡ Some operand → IsWord word
word_among [] word operand h = cc
word_among (kind ∷ kinds) word operand h = word_of_either word (operand_as kind word) (operand_among kinds word) operand (word_of_kind kind word) (word_among kinds word) h

onto_back : (first : Option (Operand (List ℕ))) (rest : Option (List (Operand (List ℕ)))) (operands : List (Operand (List ℕ))) → onto first rest ≡ Some operands → ((o : Operand (List ℕ)) × (first ≡ Some o)) × ((os : List (Operand (List ℕ))) × (rest ≡ Some os))
onto_back None rest operands h = cc
onto_back (Some o) None operands h = cc
onto_back (Some o) (Some os) operands h = ((o, refl), (os, refl))

words_of_operands : (operand_places : List OperandPlace) (words : List (List ℕ)) (operands : List (Operand (List ℕ))) → operands_of operand_places words ≡ Some operands → AreWords words
words_of_operands [] [] operands h = tt
words_of_operands [] (word ∷ words) operands h = cc
words_of_operands (operand_place ∷ operand_places) [] operands h = cc
words_of_operands (operand_place ∷ operand_places) (word ∷ words) operands h =
    let ((o, is_first), (os, are_rest)) = onto_back (operand_of operand_place word) (operands_of operand_places words) operands h in
    (word_among (word_kinds operand_place) word o is_first, words_of_operands operand_places words os are_rest)

-- lines

module _ (first : List ℕ) (words : List (List ℕ)) (line_kind : LineKind) (operands : List (Operand (List ℕ))) where
  fitting : (k : LineKind) (found : Option (List (Operand (List ℕ)))) (rest : Form (List ℕ)) → operands_of (operand_places_for k (length words)) words ≡ found → IsWord first → (rest ≡ Line line_kind operands → AreWords (first ∷ words)) → line_or k found rest ≡ Line line_kind operands → AreWords (first ∷ words)
  fitting k (Some found) rest is word otherwise h = (word, words_of_operands (operand_places_for k (length words)) words found is)
  fitting k None rest is word otherwise h = otherwise h

  one_line_kind : (k : LineKind) (same : Bool) (rest : Form (List ℕ)) → is_name (text_of k) ≡ true → bytes_eq (text_of k) first ≡ same → (rest ≡ Line line_kind operands → AreWords (first ∷ words)) → line_or k (operands_if same k words) rest ≡ Line line_kind operands → AreWords (first ∷ words)
  one_line_kind k true rest named same otherwise h =
      fitting k (operands_of (operand_places_for k (length words)) words) rest refl (subst IsWord (same_text (text_of k) first (sym same)) (word_of_name (text_of k) named)) otherwise h
  one_line_kind k false rest named same otherwise h = otherwise h

  words_of_form : (ks : List LineKind) → list_all (λ k. is_name (text_of k)) ks ≡ true → form_in ks first words ≡ Line line_kind operands → AreWords (first ∷ words)
  words_of_form [] named h = cc
  words_of_form (k ∷ ks) named h =
      let (here, there) = both (is_name (text_of k)) (list_all (λ k. is_name (text_of k)) ks) named in
      one_line_kind k (bytes_eq (text_of k) first) (form_in ks first words) here refl (words_of_form ks there) h

  not_skipped : (skipped : Bool) (form : Form (List ℕ)) → skipped_or skipped form ≡ Line line_kind operands → form ≡ Line line_kind operands
  not_skipped true form h = cc
  not_skipped false form h = h

line_kinds_are_named : list_all (λ k. is_name (text_of k)) line_kinds ≡ true
unfolding line_kinds
line_kinds_are_named = refl

words_of_line : (words : List (List ℕ)) (line_kind : LineKind) (operands : List (Operand (List ℕ))) → form_of words ≡ Line line_kind operands → AreWords words
words_of_line [] line_kind operands h = tt
words_of_line (first ∷ words) line_kind operands h =
    words_of_form first words line_kind operands line_kinds line_kinds_are_named (not_skipped first words line_kind operands (begins_comment first) (form_in line_kinds first words) h)

pub made_of_words : (line : List ℕ) → IsMadeOfWords line
made_of_words line = λ line_kind operands h. words_of_line (words_of line) line_kind operands h
