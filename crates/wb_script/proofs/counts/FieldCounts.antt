-- How many fields each class among items has, item by item.
use Rattle.std.proofs.Common.{◌≡◌, refl, sym, ap, ◌∙◌, ℕ, zero, suc, ◌<◌, ◌≤◌, List, [], ◌∷◌, ◌++◌, length, map, get_or, Bool, true, false, nat_le, arith}
use Rattle.std.specs.Prelude.{if◌then◌else◌}
use Rattle.std.specs.List.{list_all}
use Rattle.std.proofs.lemmas.List.{length-map}
use Rattle.wb_basics.specs.declared.limits.TheConstants.{MOST_FIELDS}
use Rattle.wb_tree.specs.declared.script_lines.ItemKind.TheVariants as kind
use Rattle.wb_language.specs.Names as model
use Rattle.wb_language.specs.Names.{is_same_kind, of_kind}
use Rattle.wb_script.specs.declared.checks.items.Declaration.{Declaration}
use Rattle.wb_lines.specs.BytesOf.{bytes_of_text}
use Rattle.wb_script.specs.BytesOf.{fields_among, bytes_of_item, bytes_of_items}
use Rattle.wb_script.proofs.lists.Tests.{parts, within_of}

-- the counts of items after others, with that of the first where it is a class
abbrev with_first : Bool → ℕ → List ℕ → List ℕ
with_first true count counts = count ∷ counts
with_first false count counts = counts

first_counted : (i : Declaration) (items : List Declaration) → fields_among (bytes_of_items (i ∷ items)) ≡ with_first (is_same_kind i.kind kind.Class) (length i.fields) (fields_among (bytes_of_items items))
first_counted i items = on (is_same_kind i.kind kind.Class)
  where
    on : (b : Bool) →
        map (λ (j : model.Declaration). length j.fields) (if b then (bytes_of_item i ∷ of_kind kind.Class (bytes_of_items items)) else of_kind kind.Class (bytes_of_items items))
        ≡ with_first b (length i.fields) (fields_among (bytes_of_items items))
    on true = ap (λ n. n ∷ fields_among (bytes_of_items items)) (length-map i.fields bytes_of_text)
    on false = refl

pub counted_more : (items : List Declaration) (i : Declaration) → fields_among (bytes_of_items (items ++ i ∷ [])) ≡ fields_among (bytes_of_items items) ++ fields_among (bytes_of_items (i ∷ []))
counted_more [] i = refl
counted_more (j ∷ items) i =
    first_counted j (items ++ i ∷ []) ∙ on (is_same_kind j.kind kind.Class) (counted_more items i) ∙ ap (λ l. l ++ fields_among (bytes_of_items (i ∷ []))) (sym (first_counted j items))
  where
    on : (b : Bool) → fields_among (bytes_of_items (items ++ i ∷ [])) ≡ fields_among (bytes_of_items items) ++ fields_among (bytes_of_items (i ∷ [])) →
        with_first b (length j.fields) (fields_among (bytes_of_items (items ++ i ∷ []))) ≡ with_first b (length j.fields) (fields_among (bytes_of_items items)) ++ fields_among (bytes_of_items (i ∷ []))
    on true more = ap (λ l. length j.fields ∷ l) more
    on false more = more

-- one item
pub class_counted : (i : Declaration) → i.kind ≡ kind.Class → fields_among (bytes_of_items (i ∷ [])) ≡ length i.fields ∷ []
class_counted i is = first_counted i [] ∙ ap (λ k. with_first (is_same_kind k kind.Class) (length i.fields) []) is

pub other_counted : (i : Declaration) → is_same_kind i.kind kind.Class ≡ false → fields_among (bytes_of_items (i ∷ [])) ≡ []
other_counted i is = first_counted i [] ∙ ap (λ b. with_first b (length i.fields) []) is

-- each class has few fields where all have
pub few_fields : (items : List Declaration) (n : ℕ) (d : Declaration) → n < length items → (get_or items n d).kind ≡ kind.Class → list_all (λ n. nat_le n MOST_FIELDS) (fields_among (bytes_of_items items)) ≡ true → length (get_or items n d).fields ≤ MOST_FIELDS
few_fields [] n d lt is all = absurd (omega arith)
few_fields (i ∷ items) zero d lt is all =
    let list = first_counted i items ∙ ap (λ k. with_first (is_same_kind k kind.Class) (length i.fields) (fields_among (bytes_of_items items))) is in
    within_of (length i.fields) 16 (parts (nat_le (length i.fields) 16) _ (ap (list_all (λ n. nat_le n 16)) (sym list) ∙ all)).0
few_fields (i ∷ items) (suc n) d lt is all = few_fields items n d (omega arith) is (on (is_same_kind i.kind kind.Class) (ap (list_all (λ n. nat_le n 16)) (sym (first_counted i items)) ∙ all))
  where
    on : (b : Bool) → list_all (λ n. nat_le n 16) (with_first b (length i.fields) (fields_among (bytes_of_items items))) ≡ true → list_all (λ n. nat_le n 16) (fields_among (bytes_of_items items)) ≡ true
    on true e = (parts (nat_le (length i.fields) 16) _ e).1
    on false e = e
