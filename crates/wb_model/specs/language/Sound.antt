-- Given on from `wb_tree`.
pub use Rattle.wb_tree.specs.Sound.{Scope, is_class_among, is_local, is_pointer_local, is_number_local, is_buffer_local, is_view_local, class_of_local, class_of_holder, is_class, is_index, is_pointer, is_target, is_variable, is_number, is_writable, is_view, is_readable, is_condition, is_statement, is_simple, Declared, is_passed, are_passed, is_called, is_call, is_nested, are_within, are_statements, is_parameter, local_of_parameter, locals_of, is_body, scope_of, is_procedure, is_operation, is_own_body, is_class_of, are_classes, is_literal_text, fields_declared, signatures_of, declared_in, is_entry, are_few, is_sound_script, is_script}
