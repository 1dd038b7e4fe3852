-- Small words, and the cells that they spell: state words that are no live cell's spell none.
use Rattle.std.proofs.Common.{◌≡◌, [], ◌∷◌, Some, None, refl}
use Rattle.wb_heap_model.specs.declared.heap.Kind.TheVariants.{Raw, Object, Text, Cleanup}
use Rattle.wb_heap_model.specs.Spelling.{kind_of, spelled}

free_state : kind_of 0 ≡ None
free_state = refl

text_state : kind_of 2 ≡ Some Text
text_state = refl

cleanup_state : kind_of 3 ≡ Some Cleanup
cleanup_state = refl

state_past_the_kinds : kind_of 4 ≡ None
state_past_the_kinds = refl

state_below_the_classes : kind_of 15 ≡ None
state_below_the_classes = refl

first_class : kind_of 16 ≡ Some (Object 0)
first_class = refl

last_class : kind_of 65551 ≡ Some (Object 65535)
last_class = refl

state_past_the_classes : kind_of 65552 ≡ None
state_past_the_classes = refl

cell_behind_a_free_one : spelled (16 ∷ 0 ∷ 4294967295 ∷ 0 ∷ 16 ∷ 1 ∷ 2 ∷ 7 ∷ []) 32 ≡
    record { head = record { place = 16; length = 16; kind = Raw; level = 2; number = 7 }; content = [] } ∷ []
cell_behind_a_free_one = refl

no_cell_of_an_unknown_state : spelled (16 ∷ 7 ∷ 0 ∷ 1 ∷ []) 16 ≡ []
no_cell_of_an_unknown_state = refl
