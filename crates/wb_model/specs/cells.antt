-- The definitions of this subject, given on.
pub use Rattle.wb_heap_model.specs.CellRow.{CellRow, content_or_nil, payload_of, with_payload, resized_words, resized_cell, with_length, with_level, room_after, Clears, FitsInPlace, IsSoundCells, IsGap}
pub use Rattle.wb_heap_model.specs.CleanupCells.{slot_words, items_words, IsItem, IsCleanup, IsCleanupAt, item_of, item_before, items_in}
pub use Rattle.wb_heap_model.specs.ObjectCells.{pointer_words, object_words, IsObject, IsObjectAt}
pub use Rattle.wb_heap_model.specs.Spelling.{kind_of, header_of, header_at, cell_of, with_cell_if, spelled_from, spelled, signed, pointers, halves, fields_in, read_as}
pub use Rattle.wb_heap_model.specs.TextCells.{joined, room_in, text_words, units_after, text_in, IsText, text_at, usable_or_none, max_at, IsTextAt, text_changed, debug_edited, IsGrantedText, IsRemadeText}
