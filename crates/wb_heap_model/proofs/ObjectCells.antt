-- Objects in words: their class and fields are read as they were written, and other words are no object's.
use Rattle.std.proofs.Common.{◌≡◌, ℕ, ◌-◌, ◌*◌, List, [], ◌∷◌, ◌++◌, length, take, slice_index, refl, ap, ◌∙◌, arith}
use Rattle.wb_heap_model.specs.declared.heap.Ptr.{Ptr}
use Rattle.wb_heap_model.specs.Spelling.{pointers, fields_in}
use Rattle.wb_heap_model.specs.ObjectCells.{pointer_words, IsObject}
use Rattle.wb_heap_model.proofs.TextCells.{exactly-longer, zeros}

length-pointer_words : (ps : List Ptr) → length (pointer_words ps) ≡ 2 * length ps
length-pointer_words [] = refl
length-pointer_words (p ∷ ps) = omega (arith, length-pointer_words ps)

-- the words of pointers are read as these pointers, whatever follows
pub pointers-read : (ps : List Ptr) (rest : List ℕ) → take (length ps) (pointers (pointer_words ps ++ rest)) ≡ ps
pointers-read [] rest = refl
pointers-read (p ∷ ps) rest = ap (λ qs. p ∷ qs) (pointers-read ps rest)

-- what is known of the words of an object
pub record IsReadObject (class : ℕ) (ws : List ℕ) (fields : List Ptr) : Type 0 where
  pub class-is : slice_index ws 0 ≡ class
  pub zero-is : slice_index ws 1 ≡ 0
  pub fields-are : fields_in (length fields) ws ≡ fields

pub object-read : (class : ℕ) (ws : List ℕ) (fields : List Ptr) → IsObject class ws fields → IsReadObject class ws fields
object-read class ws fields is =
    let head : List ℕ = class ∷ 0 ∷ pointer_words fields in
    let filled : ws ≡ head ++ zeros (length ws - length head) =
    is.words ∙ exactly-longer (length ws) head (omega (arith, is.fits, length-pointer_words fields)) in
    record {
      class-is = ap (λ vs. slice_index vs 0) filled;
      zero-is = ap (λ vs. slice_index vs 1) filled;
      fields-are = ap (fields_in (length fields)) filled ∙ pointers-read fields (zeros (length ws - length head));
    }

abbrev at : ℕ → ℕ → Ptr
at place number = record { place = place; number = number }

object_of_one_field : IsObject 2 (2 ∷ 0 ∷ 144 ∷ 3 ∷ 0 ∷ 0 ∷ 0 ∷ 0 ∷ []) (at 144 3 ∷ [])
object_of_one_field = record { words = refl; fits = omega arith }

object_of_another_class : IsObject 2 (3 ∷ 0 ∷ 0 ∷ 0 ∷ []) [] → ⊥
object_of_another_class is = omega (arith, ap (λ ws. slice_index ws 0) is.words)

object_with_a_second_word : IsObject 2 (2 ∷ 1 ∷ 0 ∷ 0 ∷ []) [] → ⊥
object_with_a_second_word is = omega (arith, ap (λ ws. slice_index ws 1) is.words)

object_with_words_past_its_fields : IsObject 2 (2 ∷ 0 ∷ 9 ∷ 0 ∷ []) [] → ⊥
object_with_words_past_its_fields is = omega (arith, ap (λ ws. slice_index ws 2) is.words)

object_without_room_for_its_field : IsObject 2 (2 ∷ 0 ∷ 144 ∷ []) (at 144 3 ∷ []) → ⊥
object_without_room_for_its_field is = omega (arith, is.fits)
