-- The definitions of this subject, given on.
pub use Rattle.wb_meaning.specs.Attempts.{attempt, allocate, resized, reallocate_longer, reallocate, after_growth, grow_if, push}
pub use Rattle.wb_tree.specs.Bodies.{no_body, operation_at, procedure_at, class_at}
pub use Rattle.wb_meaning.specs.Destructions.{StopsUnasked, GoesOnWith}
pub use Rattle.wb_meaning.specs.Meaning.{begun_if, begun, piece, meaning_within, meaning_of}
pub use Rattle.wb_meaning.specs.Operands.{workbench, number_of, within, not_negative, held_by, fields_of, raw_words_of, units_of, with_cell, with_fields, with_pointer, set_field, set_row, set_pointer}
pub use Rattle.wb_meaning.specs.Printable.{IsPrintable, ArePrintable}
pub use Rattle.wb_tree.specs.Quiet.{is_quiet_local, blocks_of, is_quiet_statement, are_quiet, is_quiet_body, is_quiet_if_there, is_quiet}
pub use Rattle.wb_meaning.specs.Reading.{Source, whole, part, base_of, with_writable, view_in, with_readable, buffer_text, max_in, literal_at, with_text_cell, with_base, with_units, with_room, set_units, set_text, write, position_of, write_view, is_same_base}
pub use Rattle.wb_heap_model.specs.Pointers.{is_same_pointer}
pub use Rattle.wb_heap_model.specs.Texts.{max_units, printed_unit, printed}
pub use Rattle.wb_meaning.specs.State.{Value, pointer, number, buffer, view, initial, Frame, State, Way, goes_on, returns, leaves, Stop, panics, is_cut, no_cleanup, Query, heap_note, available_note, compress_note, Process, ends, stops, asks, notes, and_then, on_plain_end, then_do, require, with_some, unless, set_heap, set_local, pointer_in, number_in, local_of}
pub use Rattle.wb_heap_model.specs.Contents.{Content, words, fields, units, none}
pub use Rattle.wb_heap_model.specs.Pointers.{null}
pub use Rattle.wb_meaning.specs.Statements.{Todo, all, turns, destroy_items, destroy_object, Context, Meaning, Layer, done, panic_with, given_to, fresh_words, alloc_raw, released, of_script, release, is_raw, realloc_raw, realloc_of, with_words, index_in, in_range, in_frame, plain, with_arguments, with_class, drop_newest, has_above, destroyed_object, destroyed_item, trapped, with_condition, choice, leave_if, print_line, new_object, realloc_text, set_setting, at_least_one, statement}
pub use Rattle.wb_heap_model.specs.Contents.{class_of}
pub use Rattle.wb_heap_model.specs.Pointers.{is_null, item_pointer, newest}
pub use Rattle.wb_tree.specs.Bodies.{payload_of_object}
pub use Rattle.wb_heap_model.specs.Texts.{Buffer, AreUnits, IsBuffer, Edited, edited, answer_of, at_most, insert_text, delete_text, exactly, set_length_text, Part, left_part, right_part, mid_part, view_of_part, units_of_part}
