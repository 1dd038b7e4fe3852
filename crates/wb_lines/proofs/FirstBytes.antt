-- Of all line kinds only those need to be tried whose words begin as the first word of a line does.
use Rattle.std.proofs.Common.{◌≡◌, ℕ, ◌<◌, List, [], ◌∷◌, length, get_or, Bool, true, false, cond, ◌&&◌, nat_eq, refl, sym, ap, ◌∙◌, arith}
use Rattle.std.specs.List.{filter, list_all, list_any}
use Rattle.std.specs.Str.{bytes_eq}
use Rattle.std.proofs.lemmas.Bool.{false≢true, eqb-true}
use Rattle.wb_tree.specs.declared.script_lines.Form.TheVariants.{Unknown}
use Rattle.wb_tree.specs.declared.script_lines.LineKind.{LineKind}
use Rattle.wb_language.specs.Forms.{form_in, line_or, operands_if}
use Rattle.wb_language.specs.LineKinds.{line_kinds, text_of}
use Rattle.wb_language.specs.Names.{Text}
use Rattle.wb_lines.specs.FirstBytes.{begins_with, line_kinds_with_first}

-- the bytes with which words of line kinds begin
abbrev pub firsts : List ℕ
firsts = 97 ∷ 98 ∷ 99 ∷ 100 ∷ 101 ∷ 102 ∷ 103 ∷ 104 ∷ 105 ∷ 108 ∷ 109 ∷ 110 ∷ 111 ∷ 112 ∷ 114 ∷ 115 ∷ 116 ∷ 118 ∷ []

abbrev begins_among : List ℕ → Text → Bool
begins_among bytes text = list_any (λ b. begins_with b text) bytes

-- a text that begins with one of these bytes begins with no other
begins_otherwise : (byte : ℕ) (bytes : List ℕ) (text : Text) → list_any (λ b. nat_eq byte b) bytes ≡ false → begins_among bytes text ≡ true → begins_with byte text ≡ false
begins_otherwise byte bytes [] none among = refl
begins_otherwise byte bytes (first ∷ rest) none among = go (nat_eq first byte) refl
  where
    go : (b : Bool) → nat_eq first byte ≡ b → b ≡ false
    go false is = refl
    go true is =
        let same = ap (λ n. list_any (λ b. nat_eq n b) bytes) (eqb-true first byte is) in
        absurd (false≢true (sym none ∙ sym same ∙ among))

both : (a b : Bool) → (a && b) ≡ true → (a ≡ true) × (b ≡ true)
both true b is = (refl, is)
both false b is = absurd (false≢true is)

none_with : (byte : ℕ) (bytes : List ℕ) (ks : List LineKind) → list_any (λ b. nat_eq byte b) bytes ≡ false → list_all (λ k. begins_among bytes (text_of k)) ks ≡ true → filter (λ k. begins_with byte (text_of k)) ks ≡ []
none_with byte bytes [] none among = refl
none_with byte bytes (k ∷ ks) none among =
    let parts = both (begins_among bytes (text_of k)) (list_all (λ k. begins_among bytes (text_of k)) ks) among in
    rw (begins_otherwise byte bytes (text_of k) none parts.0) (none_with byte bytes ks none parts.1)

-- no word of a line kind begins with any other byte
pub no_line_kinds : (byte : ℕ) → list_any (λ b. nat_eq byte b) firsts ≡ false → line_kinds_with_first byte ≡ []
unfolding line_kinds_with_first line_kinds
no_line_kinds byte none = none_with byte firsts line_kinds none refl

module _ (words : List Text) where
  unlike : (byte : ℕ) (rest text : Text) → begins_with byte text ≡ false → bytes_eq text (byte ∷ rest) ≡ false
  unlike byte rest [] is = refl
  unlike byte rest (first ∷ others) is = rw is refl

  form_among : (byte : ℕ) (rest : Text) (ks : List LineKind) → form_in (filter (λ k. begins_with byte (text_of k)) ks) (byte ∷ rest) words ≡ form_in ks (byte ∷ rest) words
  form_among byte rest [] = refl
  form_among byte rest (k ∷ ks) = go (begins_with byte (text_of k)) refl (form_among byte rest ks)
    where
      go : (b : Bool) → begins_with byte (text_of k) ≡ b → form_in (filter (λ k. begins_with byte (text_of k)) ks) (byte ∷ rest) words ≡ form_in ks (byte ∷ rest) words →
          form_in (cond b (k ∷ filter (λ k. begins_with byte (text_of k)) ks) (filter (λ k. begins_with byte (text_of k)) ks)) (byte ∷ rest) words
          ≡ line_or k (operands_if (bytes_eq (text_of k) (byte ∷ rest)) k words) (form_in ks (byte ∷ rest) words)
      go true is others = ap (line_or k (operands_if (bytes_eq (text_of k) (byte ∷ rest)) k words)) others
      go false is others = rw (unlike byte rest (text_of k) is) others

  -- the line of the line kinds with its first byte is the line of all line kinds
  pub form_by_first : (first : Text) → 0 < length first → form_in (line_kinds_with_first (get_or first 0 0)) first words ≡ form_in line_kinds first words
  unfolding line_kinds_with_first
  form_by_first [] some = absurd (omega (arith, some))
  form_by_first (byte ∷ rest) some = form_among byte rest line_kinds

  -- no line kind has an empty word
  pub form_without_first : (first : Text) → length first < 1 → form_in line_kinds first words ≡ Unknown
  unfolding line_kinds
  form_without_first [] none = refl
  form_without_first (byte ∷ rest) none = absurd (omega (arith, none))
