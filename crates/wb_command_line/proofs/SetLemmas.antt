-- What the text of `--set` is read as.
use Rattle.std.proofs.Common.{◌≡◌, ◌∙◌, ◌+◌, ◌<◌, ◌≤◌, ◌^◌, ◌&&◌, ◌⊎◌, inl, inr, ℕ, Bool, cond, true, false, refl, sym, ap, arith, not, List, [], ◌∷◌, ◌++◌, codes, length, map, drop, get_or, Option, Some, None, option_map, Result, Ok, Err}
use Rattle.std.specs.Prelude.{◌≢◌, ◌==◌, nat_le, nat_lt, slice_get}
use Rattle.std.specs.List.{list_all}
use Rattle.std.specs.Option.{option_map_or}
use Rattle.std.specs.Result.{OkIff, result_ok}
use Rattle.std.specs.Str.{all_ascii_digits}
use Rattle.std.specs.Str.Parse.{ParsesUnsigned, digits_value}
use Rattle.std.proofs.lemmas.Bool.{and_parts, and_right, cases_lt, le-leb, leb-true, lt-leb, lt-ltb, ltb-true}
use Rattle.std.proofs.lemmas.List.{append-nil, append_assoc, drop_all, drop_more, length-map}
use Rattle.std.proofs.lemmas.List.Splits.{length-slice_split}
use Rattle.std.proofs.lemmas.Str.Parse.{IsNumeralModel, numerals_by_value, parse_plain, tells_all_ascii_digits}
use Rattle.clap.specs.Words.{Row, Text, first_of}
use Rattle.wb_basics.specs.declared.limits.TheConstants.{CEILING}
use Rattle.wb_command_line.specs.Command.{are_ascending, are_of_set, ascend_after}
use Rattle.wb_command_line.specs.Fault.{IsFaultOfSet, IsFaultOfText}
use Rattle.wb_command_line.specs.SetList.{ascending_in, between_commas, is_list, is_next, is_of_digits, listed, numbers_in, written_by}
use Rattle.wb_command_line.specs.Spelled.{gives_no_list, set_of}
use Rattle.wb_command_line.specs.declared.command.CommandFault.{CommandFault}
use Rattle.wb_command_line.specs.declared.command.CommandFault.TheVariants.{Usage, Both, Also, Shape, Range, NoMemory}

-- ---- the texts, one after another

-- the numbers that they write, where each is the next after the one before it
abbrev pub listed_after : ℕ → List Text → Option (List ℕ)
listed_after last [] = Some []
listed_after last (t ∷ ts) = cond (is_next last t) (option_map (λ ns. digits_value 10 t ∷ ns) (listed_after (digits_value 10 t) ts)) None

-- they are of digits, and ascend
abbrev ascend_from : ℕ → List Text → Bool
ascend_from last ts = list_all is_of_digits ts && (ascend_after last (written_by ts) && list_all (λ n. nat_le n CEILING) (written_by ts))

-- what is asked of the first and of the others, together
merged : (digits after within all ascend low : Bool) (n : ℕ) (ns : List ℕ)
    → cond (digits && (after && within)) (option_map (λ more. n ∷ more) (cond (all && (ascend && low)) (Some ns) None)) None
    ≡ cond ((digits && all) && ((after && ascend) && (within && low))) (Some (n ∷ ns)) None
merged false after within all ascend low n ns = refl
merged true false within false ascend low n ns = refl
merged true false within true ascend low n ns = refl
merged true true false false ascend low n ns = refl
merged true true false true false low n ns = refl
merged true true false true true low n ns = refl
merged true true true false ascend low n ns = refl
merged true true true true false low n ns = refl
merged true true true true true false n ns = refl
merged true true true true true true n ns = refl

listed_by : (last : ℕ) (ts : List Text) → listed_after last ts ≡ cond (ascend_from last ts) (Some (written_by ts)) None
listed_by last [] = refl
listed_by last (t ∷ ts) =
    ap (λ o. cond (is_next last t) (option_map (λ ns. digits_value 10 t ∷ ns) o) None) (listed_by (digits_value 10 t) ts)
    ∙ merged (is_of_digits t) (nat_lt last (digits_value 10 t)) (nat_le (digits_value 10 t) CEILING)
    (list_all is_of_digits ts) (ascend_after (digits_value 10 t) (written_by ts)) (list_all (λ n. nat_le n CEILING) (written_by ts))
    (digits_value 10 t) (written_by ts)

pub listed_from_first : (ts : List Text) → listed_after 0 ts ≡ ascending_in ts
listed_from_first ts = listed_by 0 ts

-- the numbers so far, then one more, then those of the rest
joined : (numbers : List ℕ) (n : ℕ) (o : Option (List ℕ))
    → option_map (λ more. numbers ++ more) (option_map (λ ns. n ∷ ns) o) ≡ option_map (λ more. (numbers ++ n ∷ []) ++ more) o
joined numbers n None = refl
joined numbers n (Some ns) = ap (λ l. Some l) (sym (append_assoc numbers (n ∷ []) ns))

all_of : (o : Option (List ℕ)) → o ≡ option_map (λ more. [] ++ more) o
all_of None = refl
all_of (Some ns) = refl

-- texts as code holds them, and what has been read of the first of them
module _ {X : Type 0} (f : X → Text) (xs : List X) where
  -- the numbers so far, and those of the rest after the last of them, are those of all
  abbrev pub IsReadTo : ℕ → List ℕ → ℕ → Type 0
  IsReadTo i numbers last = listed_after 0 (map f xs) ≡ option_map (λ more. numbers ++ more) (listed_after last (map f (drop i xs)))

  pub none_read : IsReadTo 0 [] 0
  none_read = all_of (listed_after 0 (map f xs))

  at_text : (i last : ℕ) (numbers : List ℕ) (d : X) → i < length xs → IsReadTo i numbers last
      → listed_after 0 (map f xs) ≡ option_map (λ more. numbers ++ more) (listed_after last (f (get_or xs i d) ∷ map f (drop (i + 1) xs)))
  at_text i last numbers d within read = read ∙ ap (λ ys. option_map (λ more. numbers ++ more) (listed_after last (map f ys))) (drop_more xs i d within)

  pub one_more : (i last n : ℕ) (numbers : List ℕ) (d : X) → i < length xs → IsReadTo i numbers last
      → is_next last (f (get_or xs i d)) ≡ true → n ≡ digits_value 10 (f (get_or xs i d)) → IsReadTo (i + 1) (numbers ++ n ∷ []) n
  one_more i last n numbers d within read next is =
      let rest = map f (drop (i + 1) xs) in
      at_text i last numbers d within read
      ∙ ap (λ b. option_map (λ more. numbers ++ more) (cond b (option_map (λ ns. digits_value 10 (f (get_or xs i d)) ∷ ns) (listed_after (digits_value 10 (f (get_or xs i d))) rest)) None)) next
      ∙ ap (λ v. option_map (λ more. numbers ++ more) (option_map (λ ns. v ∷ ns) (listed_after v rest))) (sym is)
      ∙ joined numbers n (listed_after n rest)

  pub none_next : (i last : ℕ) (numbers : List ℕ) (d : X) → i < length xs → IsReadTo i numbers last
      → is_next last (f (get_or xs i d)) ≡ false → None ≡ ascending_in (map f xs)
  none_next i last numbers d within read isnt =
      let rest = map f (drop (i + 1) xs) in
      sym (at_text i last numbers d within read
      ∙ ap (λ b. option_map (λ more. numbers ++ more) (cond b (option_map (λ ns. digits_value 10 (f (get_or xs i d)) ∷ ns) (listed_after (digits_value 10 (f (get_or xs i d))) rest)) None)) isnt)
      ∙ listed_from_first (map f xs)

  pub all_read : (i last : ℕ) (numbers : List ℕ) → length xs ≤ i → IsReadTo i numbers last → Some numbers ≡ ascending_in (map f xs)
  all_read i last numbers past read =
      sym (read ∙ ap (λ ys. option_map (λ more. numbers ++ more) (listed_after last (map f ys))) (drop_all i xs past)
      ∙ ap (λ l. Some l) (append-nil numbers))
      ∙ listed_from_first (map f xs)

-- what an answer of one text says
pub next_some : (b : Bool) (v n : ℕ) → Some n ≡ cond b (Some v) None → (b ≡ true) × (n ≡ v)
next_some true v n is = (refl, cc)
next_some false v n is = absurd (cc)

pub next_none : (b : Bool) (v : ℕ) → None ≡ cond b (Some v) None → b ≡ false
next_none true v is = absurd (cc)
next_none false v is = refl

-- ---- how many there are

some_texts : (text : Text) → 1 ≤ length (numbers_in text)
some_texts text = omega (arith, length-slice_split (λ byte. byte == 44) text, length-map (between_commas text) (digits_value 10))

and_both : (a b : Bool) → b ≡ true → (a && b) ≡ a
and_both true b is = is
and_both false b is = refl

and_none : (a b c : Bool) → c ≡ false → (a && (b && c)) ≡ false
and_none false b c isnt = refl
and_none true false c isnt = refl
and_none true true c isnt = isnt

pub few_listed : (text : Text) → length (between_commas text) ≤ 256 → ascending_in (between_commas text) ≡ listed text
few_listed text few =
    let count = length-map (between_commas text) (digits_value 10) in
    let counted : (nat_le 1 (length (numbers_in text)) && nat_le (length (numbers_in text)) 256) ≡ true =
    rw (le-leb 1 (length (numbers_in text)) (some_texts text), le-leb (length (numbers_in text)) 256 (omega (arith, few, count))) refl in
    ap (λ b. cond (list_all is_of_digits (between_commas text) && b) (Some (numbers_in text)) None)
    (sym (and_both (are_ascending (numbers_in text)) (nat_le 1 (length (numbers_in text)) && nat_le (length (numbers_in text)) 256) counted))

pub many_unlisted : (text : Text) → 256 < length (between_commas text) → None ≡ listed text
many_unlisted text many =
    let count = length-map (between_commas text) (digits_value 10) in
    let uncounted : (nat_le 1 (length (numbers_in text)) && nat_le (length (numbers_in text)) 256) ≡ false =
    rw (le-leb 1 (length (numbers_in text)) (some_texts text), lt-leb (length (numbers_in text)) 256 (omega (arith, many, count))) refl in
    ap (λ b. cond b (Some (numbers_in text)) None)
    (sym (and_none (list_all is_of_digits (between_commas text)) (are_ascending (numbers_in text)) (nat_le 1 (length (numbers_in text)) && nat_le (length (numbers_in text)) 256) uncounted))

-- what is listed is a list
pub listed_some : (text : Text) (numbers : List ℕ) → Some numbers ≡ listed text → (numbers ≡ numbers_in text) × (is_list text ≡ true)
listed_some text numbers is = go (is_list text) refl
  where
    go : (b : Bool) → is_list text ≡ b → (numbers ≡ numbers_in text) × (is_list text ≡ true)
    go true list = let same : Some numbers ≡ Some (numbers_in text) = rw list at is in (cc, list)
    go false isnt = let none : Some numbers ≡ None = rw isnt at is in absurd (cc)

pub listed_none : (text : Text) → None ≡ listed text → is_list text ≡ false
listed_none text is = go (is_list text) refl
  where
    go : (b : Bool) → is_list text ≡ b → is_list text ≡ false
    go true list = let some : None ≡ Some (numbers_in text) = rw list at is in absurd (cc)
    go false isnt = isnt

-- ---- one text

-- the number of a text of digits that is less than 2^32
abbrev pub word_of : Text → Option ℕ
word_of text = cond (is_of_digits text && nat_lt (digits_value 10 text) (2 ^ 32)) (Some (digits_value 10 text)) None

own : IsNumeralModel (λ ds. all_ascii_digits ds ≡ true) (digits_value 10)
own = numerals_by_value _ tells_all_ascii_digits

pub none_apart : (n : ℕ) → None ≡ Some n → ⊥
none_apart n is = absurd (cc)

pub plain_word : {E : Type 0} (text : Text) (r : Result ℕ E) → ParsesUnsigned 32 10 text r → (slice_get text 0 ≡ Some 43 → ⊥) → result_ok r ≡ word_of text
plain_word {E} text r parses no_plus = go r (parse_plain own 32 text r parses (no_first text no_plus))
  where
    no_first : (t : Text) → (slice_get t 0 ≡ Some 43 → ⊥) → get_or t 0 0 ≢ 43
    no_first [] none is = absurd (cc)
    no_first (c ∷ cs) none is = none (ap (λ x. Some x) is)

    go : (r : Result ℕ E) → OkIff r ((all_ascii_digits text ≡ true) × (0 < length text) × (digits_value 10 text < 2 ^ 32)) (digits_value 10 text) → result_ok r ≡ word_of text
    go (Ok n) reads = rw (reads.0.0, le-leb 1 (length text) (omega (arith, reads.0.1)), lt-ltb (digits_value 10 text) (2 ^ 32) reads.0.2) (ap (λ x. Some x) reads.1)
    go (Err e) none = by (all_ascii_digits text) refl (nat_le 1 (length text)) refl (nat_lt (digits_value 10 text) (2 ^ 32)) refl
      where
        by : (a : Bool) → all_ascii_digits text ≡ a → (b : Bool) → nat_le 1 (length text) ≡ b → (c : Bool) → nat_lt (digits_value 10 text) (2 ^ 32) ≡ c → None ≡ word_of text
        by false x b y c z = rw x refl
        by true x false y c z = rw (x, y) refl
        by true x true y false z = rw (x, y, z) refl
        by true x true y true z = absurd (none (x, leb-true 1 (length text) y, ltb-true (digits_value 10 text) (2 ^ 32) z))

-- whether the number that is read comes next
pub word_next : (last n : ℕ) (text : Text) → Some n ≡ word_of text → (n ≡ digits_value 10 text) × (is_next last text ≡ (nat_lt last n && nat_le n CEILING))
word_next last n text read = go (is_of_digits text) refl (nat_lt (digits_value 10 text) (2 ^ 32)) refl
  where
    go : (a : Bool) → is_of_digits text ≡ a → (b : Bool) → nat_lt (digits_value 10 text) (2 ^ 32) ≡ b → (n ≡ digits_value 10 text) × (is_next last text ≡ (nat_lt last n && nat_le n CEILING))
    go true x true y = let same : Some n ≡ Some (digits_value 10 text) = rw (x, y) at read in let is : n ≡ digits_value 10 text = cc in (is, rw (x, is) refl)
    go true x false y = let none : Some n ≡ None = rw (x, y) at read in absurd (cc)
    go false x b y = let none : Some n ≡ None = rw x at read in absurd (cc)

pub no_word_next : (last : ℕ) (text : Text) → None ≡ word_of text → is_next last text ≡ false
no_word_next last text read = go (is_of_digits text) refl (cases_lt (digits_value 10 text) (2 ^ 32))
  where
    go : (a : Bool) → is_of_digits text ≡ a → (digits_value 10 text < 2 ^ 32) ⊎ (2 ^ 32 ≤ digits_value 10 text) → is_next last text ≡ false
    go false x w = rw x refl
    go true x (inl low) = let some : None ≡ Some (digits_value 10 text) = rw (x, lt-ltb (digits_value 10 text) (2 ^ 32) low) at read in absurd (cc)
    go true x (inr high) = rw x (and_right (nat_lt last (digits_value 10 text)) (nat_le (digits_value 10 text) CEILING) (lt-leb (digits_value 10 text) CEILING (omega (arith, high))))

-- ---- what a set's option was given

-- no text was given
module _ (rows : List Row) (none : None ≡ first_of (codes "set") rows) where
  pub none_given : None ≡ set_of rows
  none_given = ap (option_map numbers_in) none

  pub nothing_given : gives_no_list rows ≡ false
  nothing_given = ap (λ o. option_map_or (λ text. not (is_list text)) o false) (sym none)

-- one was
module _ (rows : List Row) (text : Text) (given : Some text ≡ first_of (codes "set") rows) where
  pub given_numbers : Some (numbers_in text) ≡ set_of rows
  given_numbers = ap (option_map numbers_in) given

  told : gives_no_list rows ≡ not (is_list text)
  told = ap (λ o. option_map_or (λ text. not (is_list text)) o false) (sym given)

  pub given_listed : is_list text ≡ true → gives_no_list rows ≡ false
  given_listed list = told ∙ ap not list

  pub fault_of_set : (fault : CommandFault) → IsFaultOfText text fault → IsFaultOfSet rows fault
  fault_of_set (Usage e) is = (is.0, told ∙ ap not is.1)
  fault_of_set Both none = absurd none
  fault_of_set Also none = absurd none
  fault_of_set Shape none = absurd none
  fault_of_set Range none = absurd none
  fault_of_set NoMemory want = tt

pub set_range : (text : Text) (numbers : List ℕ) → numbers ≡ numbers_in text → is_list text ≡ true → are_of_set numbers ≡ true
set_range text numbers is list = ap are_of_set is ∙ (and_parts (list_all is_of_digits (between_commas text)) _ list).1
