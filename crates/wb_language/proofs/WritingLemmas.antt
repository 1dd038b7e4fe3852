-- What is written is read: lines, words and literals.
use Rattle.std.proofs.Common.{◌≡◌, ◌≢◌, inl, inr, ℕ, List, [], ◌∷◌, ◌++◌, Bool, true, false, not, ◌&&◌, nat_eq, nat_le, ◌+◌, ◌-◌, ◌≤◌, suc, if◌then◌else◌, length, length-append, take, take_all, slice_index, Some, None, arith, refl, sym, ap, ◌∙◌, append_assoc, append-nil}
use Rattle.std.specs.List.{list_all, flat_map}
use Rattle.std.proofs.lemmas.List.{take_more}
use Rattle.std.proofs.Math.Seq.{take-append_seam, get_or-append_seam}
use borrow.Author.Tests.{leb-true, le-leb, eq-eqb, eqb-true}
use Rattle.wb_language.specs.Lines.{is_blank, ends_line, ends_word, quoted_after, onto_first, pieces_from, lines_of, unless_empty, words_of}
use Rattle.wb_tree.specs.Sound.{is_quotable}
use Rattle.wb_language.specs.Words.{inside, is_literal, literal_spelled}
use Rattle.wb_language.specs.Writing.{is_line, ended, ReadsLines, is_quoted_text, quoted, ReadsLiterals, is_plain, IsWord, spaced, ReadsWords}

pub both : (a b : Bool) → a && b ≡ true → (a ≡ true) × (b ≡ true)
both true b h = (refl, h)
both false b h = cc

pub not_true : (a : Bool) → not a ≡ true → a ≡ false
not_true true h = cc
not_true false h = refl

-- Lines.

-- a line without its line feed, with quotes open or not, before anything else
a_line : (line rest : List ℕ) (open_quote : Bool) → is_line line ≡ true → pieces_from ends_line open_quote (line ++ 10 ∷ rest) ≡ line ∷ lines_of rest
a_line [] rest open_quote h = refl
a_line (byte ∷ line) rest open_quote h =
    let (here, there) = both (not (nat_eq byte 10)) (is_line line) h in
    let other : nat_eq byte 10 ≡ false = not_true (nat_eq byte 10) here in
    rw (other, pieces_from) (ap (onto_first byte) (a_line line rest (quoted_after open_quote byte) there))

-- the last line, without a line feed
the_last : (byte : ℕ) (line : List ℕ) (open_quote : Bool) → is_line (byte ∷ line) ≡ true → pieces_from ends_line open_quote (byte ∷ line) ≡ (byte ∷ line) ∷ []
the_last byte [] open_quote h =
    let (here, there) = both (not (nat_eq byte 10)) true h in
    let other : nat_eq byte 10 ≡ false = not_true (nat_eq byte 10) here in
    rw (other, pieces_from) refl
the_last byte (next ∷ line) open_quote h =
    let (here, there) = both (not (nat_eq byte 10)) (is_line (next ∷ line)) h in
    let other : nat_eq byte 10 ≡ false = not_true (nat_eq byte 10) here in
    rw (other, pieces_from) (ap (onto_first byte) (the_last next line (quoted_after open_quote byte) there))

ended_line : (line rest : List ℕ) → is_line line ≡ true → lines_of (ended line ++ rest) ≡ line ∷ lines_of rest
ended_line line rest h = ap lines_of (append_assoc line (10 ∷ []) rest) ∙ a_line line rest false h

lines_then : (lines : List (List ℕ)) (rest : List ℕ) → list_all is_line lines ≡ true → lines_of (flat_map ended lines ++ rest) ≡ lines ++ lines_of rest
lines_then [] rest h = refl
lines_then (line ∷ lines) rest h =
    let (here, there) = both (is_line line) (list_all is_line lines) h in
    ap lines_of (append_assoc (ended line) (flat_map ended lines) rest)
    ∙ ended_line line (flat_map ended lines ++ rest) here
    ∙ ap (λ l. line ∷ l) (lines_then lines rest there)

the_last_line : (last : List ℕ) → last ≢ [] → is_line last ≡ true → lines_of last ≡ last ∷ []
the_last_line [] some h = absurd (some refl)
the_last_line (byte ∷ line) some h = the_last byte line false h

pub reads_lines : (lines : List (List ℕ)) → ReadsLines lines
reads_lines lines h = (
  ap lines_of (sym (append-nil (flat_map ended lines))) ∙ lines_then lines [] h ∙ append-nil lines,
  λ last some whole. lines_then lines last h ∙ ap (λ l. lines ++ l) (the_last_line last some whole),
)

-- Words.

-- a plain word, before a blank and anything else
plain_word : (word rest : List ℕ) → is_plain word ≡ true → pieces_from ends_word false (word ++ 32 ∷ rest) ≡ word ∷ pieces_from ends_word false rest
plain_word [] rest h = refl
plain_word (byte ∷ word) rest h =
    let (here, there) = both (not (is_blank byte) && not (nat_eq byte 34)) (is_plain word) h in
    let (no_blank, no_quote) = both (not (is_blank byte)) (not (nat_eq byte 34)) here in
    let solid : is_blank byte ≡ false = not_true (is_blank byte) no_blank in
    let other : nat_eq byte 34 ≡ false = not_true (nat_eq byte 34) no_quote in
    let opens : quoted_after false byte ≡ false = rw other refl in
    let step : pieces_from ends_word false (byte ∷ (word ++ 32 ∷ rest)) ≡ onto_first byte (pieces_from ends_word (quoted_after false byte) (word ++ 32 ∷ rest)) = rw (solid, pieces_from) refl in
    step ∙ ap (λ q. onto_first byte (pieces_from ends_word q (word ++ 32 ∷ rest))) opens ∙ ap (onto_first byte) (plain_word word rest there)

-- the text of a literal and its closing quote
closed_text : (text rest : List ℕ) → is_quoted_text text ≡ true → pieces_from ends_word true (text ++ (34 ∷ (32 ∷ rest))) ≡ (text ++ 34 ∷ []) ∷ pieces_from ends_word false rest
closed_text [] rest h = refl
closed_text (byte ∷ text) rest h =
    let (here, there) = both (is_quotable byte) (is_quoted_text text) h in
    let (printable, no_quote) = both _ (not (nat_eq byte 34)) here in
    let other : nat_eq byte 34 ≡ false = not_true (nat_eq byte 34) no_quote in
    let stays : quoted_after true byte ≡ true = rw other refl in
    ap (λ q. onto_first byte (pieces_from ends_word q (text ++ (34 ∷ (32 ∷ rest))))) stays ∙ ap (onto_first byte) (closed_text text rest there)

quoted_word : (text rest : List ℕ) → is_quoted_text text ≡ true → words_of (spaced (quoted text) ++ rest) ≡ quoted text ∷ words_of rest
quoted_word text rest h =
    let regrouped : spaced (quoted text) ++ rest ≡ 34 ∷ (text ++ (34 ∷ (32 ∷ rest))) = simp append_assoc in
    ap words_of regrouped ∙ ap (λ pieces. flat_map unless_empty (onto_first 34 pieces)) (closed_text text rest h)

a_word : (word rest : List ℕ) → IsWord word → words_of (spaced word ++ rest) ≡ word ∷ words_of rest
a_word [] rest (inl (some, plain)) = absurd (some refl)
a_word (byte ∷ word) rest (inl (some, plain)) =
    ap words_of (append_assoc (byte ∷ word) (32 ∷ []) rest) ∙ ap (flat_map unless_empty) (plain_word (byte ∷ word) rest plain)
a_word word rest (inr (text, whole, is)) =
    ap (λ w. words_of (spaced w ++ rest)) is ∙ quoted_word text rest whole ∙ ap (λ w. w ∷ words_of rest) (sym is)

pub reads_words : (words : List (List ℕ)) → ReadsWords words
reads_words [] h = refl
reads_words (word ∷ words) (here, there) = a_word word (flat_map spaced words) here ∙ ap (λ l. word ∷ l) (reads_words words there)

-- Literals.

before_last : (text : List ℕ) → length (quoted text) - 1 ≡ suc (length text)
before_last text = omega (arith, length-append text (34 ∷ []))

inside_quoted : (text : List ℕ) → inside (quoted text) ≡ text
inside_quoted text =
    let size : length (quoted text) - 1 - 1 ≡ length text = omega (arith, before_last text) in
    ap (λ n. take n (text ++ 34 ∷ [])) size ∙ take-append_seam text (34 ∷ [])

closing_quote : (text : List ℕ) → slice_index (quoted text) (length (quoted text) - 1) ≡ 34
closing_quote text = ap (slice_index (quoted text)) (before_last text) ∙ get_or-append_seam text 34 [] 0

all_four : (a b c d : Bool) → a ≡ true → b ≡ true → c ≡ true → d ≡ true → a && b && c && d ≡ true
all_four a b c d is_a is_b is_c is_d = rw (is_a, is_b, is_c, is_d) refl

quoted_is_literal : (text : List ℕ) → is_quoted_text text ≡ true → is_literal (quoted text) ≡ true
quoted_is_literal text h =
    let long : 2 ≤ length (quoted text) = omega (arith, before_last text) in
    all_four (nat_le 2 (length (quoted text))) true (nat_eq (slice_index (quoted text) (length (quoted text) - 1)) 34) (list_all is_quotable (inside (quoted text)))
    (le-leb 2 (length (quoted text)) long) refl (eq-eqb _ 34 (closing_quote text)) (ap is_quoted_text (inside_quoted text) ∙ h)

chosen : (b : Bool) (text : List ℕ) → b ≡ true → (if b then Some text else None) ≡ Some text
chosen b text is = rw is refl

chosen_back : (b : Bool) (text other : List ℕ) → (if b then Some text else None) ≡ Some other → (b ≡ true) × (text ≡ other)
chosen_back true text other h = (refl, cc)
chosen_back false text other h = cc

literal_of_quoted : (text : List ℕ) → is_quoted_text text ≡ true → literal_spelled (quoted text) ≡ Some text
literal_of_quoted text h = chosen (is_literal (quoted text)) (inside (quoted text)) (quoted_is_literal text h) ∙ ap Some (inside_quoted text)

-- a list that is not empty, as what is before its last element, and that
front_and_last : (xs : List ℕ) → 1 ≤ length xs → xs ≡ take (length xs - 1) xs ++ slice_index xs (length xs - 1) ∷ []
front_and_last xs some = sym (take_all (length xs - 1 + 1) xs (omega arith)) ∙ take_more xs (length xs - 1) 0 (omega arith)

pub quoted_of_literal : (word text : List ℕ) → literal_spelled word ≡ Some text → (is_quoted_text text ≡ true) × (word ≡ quoted text)
quoted_of_literal [] text h = let clash : ⊥ = cc in absurd clash
quoted_of_literal (first ∷ rest) text h =
    let word = first ∷ rest in
    let (literal, is_text) = chosen_back (is_literal word) (inside word) text h in
    let (three, printable) = both _ (list_all is_quotable (inside word)) literal in
    let (two, closes) = both _ (nat_eq (slice_index word (length word - 1)) 34) three in
    let (long, begins) = both (nat_le 2 (length word)) (nat_eq first 34) two in
    let some : 1 ≤ length rest = omega (arith, leb-true 2 (length word) long) in
    let at = length rest - 1 in
    let last : length word - 1 ≡ suc at = omega arith in
    let is_first : first ≡ 34 = eqb-true first 34 begins in
    let is_last : slice_index rest at ≡ 34 = sym (ap (slice_index word) last) ∙ eqb-true (slice_index word (length word - 1)) 34 closes in
    let is_front : take at rest ≡ text = ap (λ n. take n rest) (sym (ap (λ n. n - 1) last ∙ omega arith)) ∙ is_text in
    let whole : rest ≡ take at rest ++ slice_index rest at ∷ [] = front_and_last rest some in
    (sym (ap is_quoted_text is_text) ∙ printable, cc)

pub reads_literals : (word text : List ℕ) → ReadsLiterals word text
reads_literals word text = (λ whole is. ap literal_spelled is ∙ literal_of_quoted text whole, quoted_of_literal word text)
