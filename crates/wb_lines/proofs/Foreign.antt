-- A loop over bytes that counts lines, against the lines.
use Rattle.std.proofs.Common.{◌≡◌, ℕ, suc, ◌+◌, ◌<◌, ◌≤◌, List, [], ◌∷◌, length, get_or, drop, Bool, true, false, ◌||◌, Option, None, nat_eq, refl, sym, ap, ◌∙◌, add-one, drop-cons, arith}
use Rattle.std.proofs.lemmas.Bool.{false≢true}
use Rattle.std.proofs.lemmas.Bool.Decides.{nat_tests}
use Rattle.std.proofs.lemmas.Grind.{common_steps}
use Rattle.std.specs.List.{list_any, position_from}
use Rattle.wb_language.specs.Lines.{is_foreign, first_foreign_line, is_too_long, quoted_after, onto_first, ends_line, pieces_from, lines_of}

pub at_most : (bytes : List ℕ) → is_too_long bytes ≡ false → length bytes ≤ 65536
at_most bytes short = grind (arith, common_steps, nat_tests)

-- the same at a byte, where the lines after it do not depend on whether quotes are open
at_byte : (byte : ℕ) (bytes : List ℕ) (quoted : Bool) (b : Bool) → ((q : Bool) → pieces_from ends_line q bytes ≡ pieces_from ends_line false bytes) →
    elim b as (λ _. List (List ℕ)) [ true ↦ [] ∷ pieces_from ends_line false bytes | false ↦ onto_first byte (pieces_from ends_line (quoted_after quoted byte) bytes) ]
    ≡ elim b as (λ _. List (List ℕ)) [ true ↦ [] ∷ pieces_from ends_line false bytes | false ↦ onto_first byte (pieces_from ends_line false bytes) ]
at_byte byte bytes quoted true same = refl
at_byte byte bytes quoted false same = ap (onto_first byte) (same (quoted_after quoted byte))

-- quotes do not matter to lines
unquoted : (bytes : List ℕ) (quoted : Bool) → pieces_from ends_line quoted bytes ≡ pieces_from ends_line false bytes
unquoted [] quoted = refl
unquoted (byte ∷ bytes) quoted = at_byte byte bytes quoted (nat_eq byte 10) (unquoted bytes) ∙ sym (at_byte byte bytes false (nat_eq byte 10) (unquoted bytes))

abbrev pub first_foreign : ℕ → List (List ℕ) → Option ℕ
first_foreign = position_from (list_any is_foreign)

onto_fine : (byte line : ℕ) (lines : List (List ℕ)) → is_foreign byte ≡ false → first_foreign line (onto_first byte lines) ≡ first_foreign line lines
onto_fine byte line [] fine = rw fine refl
onto_fine byte line (first ∷ lines) fine = rw fine refl

module _ (bytes : List ℕ) (i line : ℕ) where
  -- a line feed
  pub next_line : i < length bytes → get_or bytes i 0 ≡ 10 → first_foreign line (lines_of (drop i bytes)) ≡ first_foreign (line + 1) (lines_of (drop (i + 1) bytes))
  next_line within feed = rw (drop-cons bytes i 0 within, feed, add-one i) refl

  -- any other byte that a line may hold
  pub same_line : i < length bytes → (get_or bytes i 0 ≡ 10 → ⊥) → is_foreign (get_or bytes i 0) ≡ false → first_foreign line (lines_of (drop i bytes)) ≡ first_foreign line (lines_of (drop (i + 1) bytes))
  same_line within other fine =
      let byte = get_or bytes i 0 in
      let rest = drop (suc i) bytes in
      let differs : nat_eq byte 10 ≡ false = grind (arith, nat_tests) in
      let here : lines_of (drop i bytes) ≡ onto_first byte (pieces_from ends_line (quoted_after false byte) rest) = rw (drop-cons bytes i 0 within) (rw (differs, pieces_from) refl) in
      ap (first_foreign line) (here ∙ ap (onto_first byte) (unquoted rest (quoted_after false byte))) ∙ onto_fine byte line (lines_of rest) fine ∙ ap (λ n. first_foreign line (lines_of (drop n bytes))) (sym (add-one i))

neither : (a b : Bool) → (a || b) ≡ false → (a ≡ false) × (b ≡ false)
neither false b is = (refl, is)
neither true b is = absurd (false≢true (sym is))

-- where no byte is foreign, no line has one
none_from : (bytes : List ℕ) (line : ℕ) → list_any is_foreign bytes ≡ false → first_foreign line (lines_of bytes) ≡ None
none_from [] line none = refl
none_from (byte ∷ bytes) line none =
    let parts = neither (is_foreign byte) (list_any is_foreign bytes) none in
    go (nat_eq byte 10) (λ n. none_from bytes n parts.1) parts.0
  where
    go : (b : Bool) → ((n : ℕ) → first_foreign n (lines_of bytes) ≡ None) → is_foreign byte ≡ false →
        first_foreign line (elim b as (λ _. List (List ℕ)) [ true ↦ [] ∷ pieces_from ends_line false bytes | false ↦ onto_first byte (pieces_from ends_line (quoted_after false byte) bytes) ]) ≡ None
    go true others fine = others (line + 1)
    go false others fine =
        ap (λ ls. first_foreign line (onto_first byte ls)) (unquoted bytes (quoted_after false byte)) ∙ onto_fine byte line (lines_of bytes) fine ∙ others line

pub none_foreign : (bytes : List ℕ) → list_any is_foreign bytes ≡ false → first_foreign_line bytes ≡ None
none_foreign bytes none = none_from bytes 1 none
