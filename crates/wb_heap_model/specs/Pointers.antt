-- Null, pointers that are the same, and the items of the cleanup stack.
use Rattle.wb_heap_model.specs.declared.heap.Ptr.{Ptr}
use Rattle.std.specs.Prelude.{Bool, nat_eq, ◌-◌, List, Option, length, slice_get, ◌&&◌}
use Rattle.wb_heap_model.specs.declared.heap.Item.{Item}
use Rattle.wb_heap_model.specs.declared.heap.Item.TheVariants as I

abbrev pub null : Ptr
null = record { place = 0; number = 0 }

abbrev pub is_null : Ptr → Bool
is_null p = nat_eq p.number 0

abbrev pub newest : List Item → Option Item
newest items = slice_get items (length items - 1)

abbrev pub item_pointer : Item → Ptr
item_pointer (I.Free p) = p
item_pointer (I.Delete p) = p
item_pointer (I.Call p op) = p

abbrev pub is_same_pointer : Ptr → Ptr → Bool
is_same_pointer p q = nat_eq p.place q.place && nat_eq p.number q.number
