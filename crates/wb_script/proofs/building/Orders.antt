-- Items in the order of their lines: one whose line is after those of all others is last.
use Rattle.std.proofs.Common.{◌≡◌, refl, sym, ap, ◌∙◌, ℕ, suc, ◌+◌, ◌<◌, ◌≤◌, List, [], ◌∷◌, ◌++◌, length, Bool, true, false, nat_lt, add-zero, arith}
use Rattle.std.specs.Prelude.{if◌then◌else◌}
use Rattle.std.specs.List.{list_all}
use Rattle.std.proofs.lemmas.Bool.Decides.{nat_tests}
use Rattle.std.proofs.lemmas.Grind.{fold-append}
use Rattle.wb_language.specs.Trees.{Lines, each_from, in_place, in_order}
use Rattle.wb_script.proofs.lists.Tests.{parts, together, below_of, below_test}

-- items are before a line
abbrev pub are_before : ℕ → List Lines → Bool
are_before number items = list_all (λ item. nat_lt item.number number) items

inserted_last : (item : Lines) (others : List Lines) → are_before item.number others ≡ true → in_place item others ≡ others ++ item ∷ []
inserted_last item [] below = refl
inserted_last item (other ∷ others) below =
    let (here, rest) = parts (nat_lt other.number item.number) (are_before item.number others) below in
    rw here (ap (λ l. other ∷ l) (inserted_last item others rest))

not_below : (a b : ℕ) → a < b → nat_lt b a ≡ false
not_below a b lt = grind (arith, nat_tests)

inserted_before_last : (item last : Lines) (others : List Lines) → item.number < last.number → in_place item (others ++ last ∷ []) ≡ in_place item others ++ last ∷ []
inserted_before_last item last [] lt = rw (not_below item.number last.number lt) refl
inserted_before_last item last (other ∷ others) lt = on (nat_lt other.number item.number) (inserted_before_last item last others lt)
  where
    on : (b : Bool) → in_place item (others ++ last ∷ []) ≡ in_place item others ++ last ∷ [] → (if b then (other ∷ in_place item (others ++ last ∷ [])) else (item ∷ other ∷ (others ++ last ∷ []))) ≡ (if b then (other ∷ in_place item others) else (item ∷ other ∷ others)) ++ last ∷ []
    on true later = ap (λ l. other ∷ l) later
    on false later = refl

inserted_below : (number : ℕ) (item : Lines) (others : List Lines) → nat_lt item.number number ≡ true → are_before number others ≡ true → are_before number (in_place item others) ≡ true
inserted_below number item [] here below = together _ _ here refl
inserted_below number item (other ∷ others) here below =
    let (first, rest) = parts (nat_lt other.number number) (are_before number others) below in
    on (nat_lt other.number item.number) first (inserted_below number item others here rest)
  where
    on : (b : Bool) → nat_lt other.number number ≡ true → are_before number (in_place item others) ≡ true → are_before number (if b then (other ∷ in_place item others) else (item ∷ other ∷ others)) ≡ true
    on true first rest = together _ _ first rest
    on false first rest = together _ _ here below

pub in_order_below : (number : ℕ) (items others : List Lines) → are_before number items ≡ true → are_before number others ≡ true → are_before number (in_order items others) ≡ true
in_order_below number [] others first second = second
in_order_below number (item ∷ items) others first second =
    let (here, rest) = parts (nat_lt item.number number) (are_before number items) first in
    in_order_below number items (in_place item others) rest (inserted_below number item others here second)

-- one more of the first kind, and of the second
pub first_last : (items others : List Lines) (last : Lines) → are_before last.number items ≡ true → are_before last.number others ≡ true → in_order (items ++ last ∷ []) others ≡ in_order items others ++ last ∷ []
first_last items others last first second =
    fold-append (λ found item. in_place item found) others items (last ∷ [])
    ∙ inserted_last last (in_order items others) (in_order_below last.number items others first second)

pub second_last : (items others : List Lines) (last : Lines) → are_before last.number items ≡ true → in_order items (others ++ last ∷ []) ≡ in_order items others ++ last ∷ []
second_last [] others last first = refl
second_last (item ∷ items) others last first =
    let (here, rest) = parts (nat_lt item.number last.number) (are_before last.number items) first in
    ap (in_order items) (inserted_before_last item last others (below_of item.number last.number here)) ∙ second_last items (in_place item others) last rest

module _ {A : Type 0} (lines : ℕ → A → Lines) where
  pub each_from-last : (index : ℕ) (items : List A) (item : A) → each_from lines index (items ++ item ∷ []) ≡ each_from lines index items ++ lines (index + length items) item ∷ []
  each_from-last index [] item = ap (λ i. lines i item ∷ []) (sym (add-zero index))
  each_from-last index (other ∷ others) item =
      let same : suc index + length others ≡ index + suc (length others) = omega arith in
      ap (λ l. lines index other ∷ l) (each_from-last (suc index) others item ∙ ap (λ i. each_from lines (suc index) others ++ lines i item ∷ []) same)

  pub each_below : (line : A → ℕ) → ((i : ℕ) (a : A) → (lines i a).number ≡ line a) → (number index : ℕ) (items : List A) → list_all (λ a. nat_lt (line a) number) items ≡ true → are_before number (each_from lines index items) ≡ true
  each_below line is number index [] below = refl
  each_below line is number index (item ∷ items) below =
      let (here, rest) = parts (nat_lt (line item) number) (list_all (λ a. nat_lt (line a) number) items) below in
      together _ _ (ap (λ n. nat_lt n number) (is index item) ∙ here) (each_below line is number (suc index) items rest)

-- what is before a line is before a later one
pub all_below : {A : Type 0} (line : A → ℕ) (small large : ℕ) → small ≤ large → (items : List A) → list_all (λ a. nat_lt (line a) small) items ≡ true → list_all (λ a. nat_lt (line a) large) items ≡ true
all_below line small large le [] below = refl
all_below line small large le (item ∷ items) below =
    let (here, rest) = parts (nat_lt (line item) small) (list_all (λ a. nat_lt (line a) small) items) below in
    let lt : line item < large = omega (arith, le, below_of (line item) small here) in
    together _ _ (below_test (line item) large lt) (all_below line small large le items rest)
