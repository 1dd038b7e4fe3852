-- What bytes are cut into is no longer than they are.
use Rattle.std.proofs.Common.{ℕ, zero, suc, ◌≤◌, List, [], ◌∷◌, Bool, true, false, length, arith}
use Rattle.std.specs.List.{flat_map}
use Rattle.wb_language.specs.Lines.{Separator, onto_first, quoted_after, ends_line, ends_word, pieces_from, lines_of, unless_empty, words_of}
use Rattle.wb_language.specs.Names.{Text}

-- none of the texts has more than a number of bytes
abbrev pub AreWithin : ℕ → List Text → Type 0
AreWithin n [] = Unit {0}
AreWithin n (text ∷ texts) = (length text ≤ n) × AreWithin n texts

one_longer : (n : ℕ) (texts : List Text) → AreWithin n texts → AreWithin (suc n) texts
one_longer n [] within = tt
one_longer n (text ∷ texts) (here, rest) = (omega (arith, here), one_longer n texts rest)

onto_within : (byte n : ℕ) (texts : List Text) → AreWithin n texts → AreWithin (suc n) (onto_first byte texts)
onto_within byte n [] within = (omega arith, tt)
onto_within byte n (text ∷ texts) (here, rest) = (omega (arith, here), one_longer n texts rest)

pieces_within : (ends : Separator) (bytes : List ℕ) (quoted : Bool) (n : ℕ) → length bytes ≤ n → AreWithin n (pieces_from ends quoted bytes)
pieces_within ends [] quoted n short = tt
pieces_within ends (byte ∷ bytes) quoted zero short = let clash : ⊥ = omega (arith, short) in absurd clash
pieces_within ends (byte ∷ bytes) quoted (suc n) short =
    let rest : length bytes ≤ n = omega (arith, short) in
    go (ends quoted byte) (pieces_within ends bytes false n rest) (pieces_within ends bytes (quoted_after quoted byte) n rest)
  where
    go : (b : Bool) → AreWithin n (pieces_from ends false bytes) → AreWithin n (pieces_from ends (quoted_after quoted byte) bytes) →
        AreWithin (suc n) (elim b as (λ _. List (List ℕ)) [ true ↦ [] ∷ pieces_from ends false bytes | false ↦ onto_first byte (pieces_from ends (quoted_after quoted byte) bytes) ])
    go true ended on = (omega arith, one_longer n (pieces_from ends false bytes) ended)
    go false ended on = onto_within byte n (pieces_from ends (quoted_after quoted byte) bytes) on

nonempty_within : (n : ℕ) (texts : List Text) → AreWithin n texts → AreWithin n (flat_map unless_empty texts)
nonempty_within n [] within = tt
nonempty_within n ([] ∷ texts) (here, rest) = nonempty_within n texts rest
nonempty_within n ((byte ∷ bytes) ∷ texts) (here, rest) = (here, nonempty_within n texts rest)

pub lines_within : (n : ℕ) (bytes : List ℕ) → length bytes ≤ n → AreWithin n (lines_of bytes)
lines_within n bytes short = pieces_within ends_line bytes false n short

pub words_within : (n : ℕ) (line : List ℕ) → length line ≤ n → AreWithin n (words_of line)
words_within n line short = nonempty_within n _ (pieces_within ends_word line false n short)
