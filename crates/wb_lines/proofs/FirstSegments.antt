-- The first piece of bytes.
use Rattle.std.proofs.Common.{◌≡◌, ◌≢◌, ℕ, suc, ◌+◌, ◌-◌, ◌<◌, ◌≤◌, List, [], ◌∷◌, ◌++◌, length, get_or, take, drop, Bool, true, false, nat_eq, refl, sym, ap, ◌∙◌, arith, add-one, drop-cons, take_all, length-drop, append_assoc}
use Rattle.std.proofs.lemmas.List.{take_more, drop_all}
use Rattle.std.specs.List.{flat_map}
use Rattle.std.proofs.lemmas.Bool.Decides.{nat_tests}
use Rattle.wb_lines.specs.declared.segments.Cut.{Cut}
use Rattle.wb_lines.specs.declared.segments.Cut.TheVariants.{Lines, Words}
use Rattle.wb_lines.specs.Segments.{ends_of}
use Rattle.wb_language.specs.Lines.{Separator, ends_word, is_blank, onto_first, quoted_after, pieces_from, pieces, unless_empty, words_of}

pub to_end : (n : ℕ) (bytes : List ℕ) → take (length bytes - n) (drop n bytes) ≡ drop n bytes
to_end n bytes = take_all (length bytes - n) (drop n bytes) (simp length-drop (omega arith))

-- bytes before the first piece
abbrev pub onto_all : List ℕ → List (List ℕ) → List (List ℕ)
onto_all [] pieces = pieces
onto_all (byte ∷ bytes) pieces = onto_first byte (onto_all bytes pieces)

onto_all-push : (front : List ℕ) (byte : ℕ) (pieces : List (List ℕ)) → onto_all (front ++ byte ∷ []) pieces ≡ onto_all front (onto_first byte pieces)
onto_all-push [] byte pieces = refl
onto_all-push (b ∷ front) byte pieces = ap (onto_first b) (onto_all-push front byte pieces)

onto_all-piece : (front : List ℕ) (pieces : List (List ℕ)) → onto_all front ([] ∷ pieces) ≡ front ∷ pieces
onto_all-piece [] pieces = refl
onto_all-piece (b ∷ front) pieces = ap (onto_first b) (onto_all-piece front pieces)

onto_all-whole : (byte : ℕ) (bytes : List ℕ) → onto_all (byte ∷ bytes) [] ≡ (byte ∷ bytes) ∷ []
onto_all-whole byte [] = refl
onto_all-whole byte (next ∷ bytes) = ap (onto_first byte) (onto_all-whole next bytes)

module _ (ends : Separator) (bytes : List ℕ) (quoted : Bool) where
  -- a byte that ends nothing
  pub one_more : (i : ℕ) → i < length bytes → ends quoted (get_or bytes i 0) ≡ false → onto_all (take i bytes) (pieces_from ends quoted (drop i bytes)) ≡ pieces ends bytes → onto_all (take (i + 1) bytes) (pieces_from ends (quoted_after quoted (get_or bytes i 0)) (drop (i + 1) bytes)) ≡ pieces ends bytes
  one_more i lt goes_on so_far =
      let here : pieces_from ends quoted (drop i bytes) ≡ onto_first (get_or bytes i 0) (pieces_from ends (quoted_after quoted (get_or bytes i 0)) (drop (suc i) bytes)) = rw (drop-cons bytes i 0 lt) (rw (goes_on, pieces_from) refl) in
      rw (take_more bytes i 0 lt, add-one) (onto_all-push (take i bytes) (get_or bytes i 0) (pieces_from ends (quoted_after quoted (get_or bytes i 0)) (drop (suc i) bytes)) ∙ ap (onto_all (take i bytes)) (sym here) ∙ so_far)

  -- a byte that ends the piece
  pub piece_ends : (i : ℕ) → i < length bytes → ends quoted (get_or bytes i 0) ≡ true → onto_all (take i bytes) (pieces_from ends quoted (drop i bytes)) ≡ pieces ends bytes → pieces ends bytes ≡ take i bytes ∷ pieces ends (drop (suc i) bytes)
  piece_ends i lt here_ends so_far =
      let here : pieces_from ends quoted (drop i bytes) ≡ [] ∷ pieces ends (drop (suc i) bytes) = rw (drop-cons bytes i 0 lt) (rw (here_ends, pieces_from) refl) in
      sym so_far ∙ ap (onto_all (take i bytes)) here ∙ onto_all-piece (take i bytes) (pieces ends (drop (suc i) bytes))

-- nothing ends the piece
pub last_piece : (ends : Separator) (bytes : List ℕ) (quoted : Bool) (i : ℕ) → bytes ≢ [] → length bytes ≤ i → onto_all (take i bytes) (pieces_from ends quoted (drop i bytes)) ≡ pieces ends bytes → pieces ends bytes ≡ bytes ∷ []
last_piece ends [] quoted i some le so_far = absurd (some refl)
last_piece ends (byte ∷ bytes) quoted i some le so_far =
    let front = take_all i (byte ∷ bytes) le in
    let rest = drop_all i (byte ∷ bytes) le in
    sym so_far ∙ ap (λ l. onto_all l (pieces_from ends quoted (drop i (byte ∷ bytes)))) front ∙ ap (λ l. onto_all (byte ∷ bytes) (pieces_from ends quoted l)) rest ∙ onto_all-whole byte bytes

-- one more piece of a line is a word, or nothing if it is empty
pub words_more : (rest piece after : List ℕ) (word found whole : List (List ℕ)) → pieces ends_word rest ≡ piece ∷ pieces ends_word after → word ≡ unless_empty piece → found ++ words_of rest ≡ whole → (found ++ word) ++ words_of after ≡ whole
words_more rest piece after word found whole cut is so_far =
    ap (λ w. (found ++ w) ++ words_of after) is ∙ append_assoc found (unless_empty piece) (words_of after) ∙ ap (λ ps. found ++ flat_map unless_empty ps) (sym cut) ∙ so_far

-- nothing above a quote ends a line or a word, or is a quote
pub quoted_above : (quoted : Bool) (byte : ℕ) → 34 < byte → quoted_after quoted byte ≡ quoted
quoted_above quoted byte above =
    let other : nat_eq byte 34 ≡ false = grind (arith, nat_tests) in
    rw other refl

no_blank : (byte : ℕ) → 34 < byte → is_blank byte ≡ false
no_blank byte above =
    let blank : nat_eq byte 32 ≡ false = grind (arith, nat_tests) in
    let tab : nat_eq byte 9 ≡ false = grind (arith, nat_tests) in
    let return : nat_eq byte 13 ≡ false = grind (arith, nat_tests) in
    rw (blank, tab, return) refl

pub ends_above : (cut : Cut) (quoted : Bool) (byte : ℕ) → 34 < byte → ends_of cut quoted byte ≡ false
ends_above Lines quoted byte above = grind (arith, nat_tests)
ends_above Words true byte above = refl
ends_above Words false byte above = no_blank byte above
