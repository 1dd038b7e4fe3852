-- The definitions of this subject, given on. Those stand in a module of their own some of whose names others here have too.
pub mod PassedLimits
pub mod Sound
pub use Rattle.wb_language.specs.DeclaredAgain.{Space, of_script, of_class, of_body, names_by, declares_in, is_class_role, begins_space, IsDeclaredIn, DeclaresAnother, HasTwoAlike, DeclaresAgain}
pub use Rattle.wb_language.specs.FaultOrder.{number_of_fault}
pub use Rattle.wb_language.specs.FirstLines.{Said, IsOfNone, IsFirstLine, IsOfNoLine}
pub use Rattle.wb_language.specs.Forms.{renamed_parameter_type, renamed_operand, renamed, role_of_form, either, size_of, parameter_of, field_of, operand_as, operand_among, operand_of, onto, operands_of, operands_if, line_or, form_in, begins_comment, skipped_or, form_of, line_form, forms_of}
pub use Rattle.wb_language.specs.Grammar.{AreStatements, none, plain, loop, one_way, two_ways, IsBody, statements, declaration, AreFields, field, IsOptional, absent, present, AreItems, class, procedure, content, IsGrammatical, Begins, EndsComplete, IsFirstMisfit}
pub use Rattle.wb_language.specs.Kinds.{operand_kind_of_name, operand_kind_of_field, operand_kind_of_class, operand_kind_of_type, operand_kind_of, is_right, are_right, same, sides_agree, is_given, are_given, is_given_to, call_agrees, arguments_agree, is_right_line, is_nothing, is_class_line_kind, misuses_main, ends_body, is_trap, returns_in_trap, is_of_procedure, returns_pointer, returns_outside, has_wrong_kind, may_leave}
pub use Rattle.wb_language.specs.LineKinds.{line_kinds, text_of, operand_places_of, rest_of, operand_places_with, operand_places_for, role_of, is_outside_role, is_outside, is_loud, may_leave_in, word_kinds, is_pointer_kind, takes}
pub use Rattle.wb_tree.specs.QuietLines.{is_quiet}
pub use Rattle.wb_language.specs.Lines.{is_blank, Separator, ends_line, ends_word, quoted_after, onto_first, pieces_from, pieces, lines_of, unless_empty, words_of, is_foreign, first_foreign_line, is_too_long}
pub use Rattle.wb_language.specs.MissedFields.{Held, held_by_parameter, held_as, held_with, held_by, names_held, IsFirstHeld, IsOpenBody, IsHeldAs, IsClassNamed, IsClassAround, IsClassOf, is_field_role, is_among_fields, DeclareField, field_named, MissesField, UsesUnknown}
pub use Rattle.wb_language.specs.Names.{Text, first_name, literal_text, literals_in, name_passed, parameter_type_of, parameter_names, parameters_in, Declaration, item_kind_of, item_kind_in, fields_with, following_fields, fields_in_item, declaration_of, items_of_kind, items_by, items_of, names_of, is_same_kind, of_kind, item_of_kind, count_among, literals_of, second_name, local_kind_of, local_kind_in, kind_of_parameter, with_one, without_last, line_kind_in, NamesSoFar, nothing_known, count_begun, locals_by, begins_body, locals_after, kinds_by, kinds_after, fields_after, blocks_after, body_kind_of, body_in, body_after, known_with, known_after, first_declaration_of, bodies_before, items_before, names_before, is_item_before, is_declared_there, is_among, has_double, declares_again, is_one_more, is_long_name, has_long_class, is_long, has_long_name, is_large, has_more_parameters, passes_limit, first_refused}
pub use Rattle.wb_language.specs.Passes.{first_bad, first_where, state_after, each_with}
pub use Rattle.wb_language.specs.QuietBodies.{quiet_words, does_something, is_never_quiet, begins_quiet_body, IsInQuietBody, MayLeaveThere}
pub use Rattle.wb_language.specs.Resolved.{local_referent, referent_at, has_this, is_this, this_referent, own_referent, referent_of_kind, item_after, item_at, item_referent, class_in, class_named, class_if_named, class_of_kind, class_of_local, class_of_this, class_of_base, fields_of_item, fields_of_class, field_at, field_referent, name_referent, resolved_parameter_type, resolved_operand, resolved_operands, resolved_line, resolved_among, resolved, refers_to_nothing, takes_nothing, means_nothing, has_unknown, uses_unknown}
pub use Rattle.wb_language.specs.Scripts.{AreLines, AreFirstLines, IsGrammarLine, procedure_referent, main_of, IsPlainText, IsWellFormed, first_unknown, first_double, first_wrong, first_leaving, IsNamed, IsTreeOf, IsScriptOf, number_of_line, IsLinesFault, IsFaultOf}
pub use Rattle.wb_language.specs.Trees.{Indexed, Marked, number_kept, mark, counted, counted_from, parameter_operand, and_operand, all_spelled, line_or_unknown, line, spelled_line, condition_line, statement_line, end_line, else_line, lines_joined, lines_inside, layer_lines, statement_at_layer, lines_of_statement, statement_at_lines, statement_lines, local_line, local_lines, head_line, body_lines, procedure_head, procedure_lines, operation_head, operation_lines, field_line, field_lines, own_body_lines, class_head, class_lines, Lines, lines_of_class, lines_of_procedure, lines_of_operation, each_from, in_place, in_order, all_lines, bodies_in_order, script_lines}
pub use Rattle.wb_tree.specs.Spellings.{Spelled, Spelling, holder_referent, pointer_operand, number_operand, variable_operand, view_operand, writable_operand, text_operand, argument_operand, class_operand, procedure_operand, operation_operand, keyword_operand, set_line_kind, its_parameters, condition_spelling, statement_spelling, statement_kind}
pub use Rattle.wb_language.specs.Undeclared.{local_used, item_used, names_used, used_in, stays_inside, is_of_object, declares, IsDeclared, UsesUndeclaredName, is_missing, field_missed, uses_undeclared_field, UsesUndeclared, UsesDeclaredUpTo, IsFirstUndeclared, IsFirstUndeclaredLine}
pub use Rattle.wb_language.specs.Words.{is_letter, is_digit, is_name_byte, is_name, reserved, is_reserved, declared_name, used_name, length_before, before_first, after_first_of, with_digit, digits_of, number_spelled, inside, is_literal, literal_spelled, base_name, field_name, parameter_type_after_colon, parameter_name, parameter_type_of_word, text_of_keyword}
pub use Rattle.wb_tree.specs.Sound.{is_quotable}
pub use Rattle.wb_language.specs.Writing.{is_line, ended, ReadsLines, is_quoted_text, quoted, ReadsLiterals, is_plain, IsWord, AreWords, spaced, ReadsWords, IsMadeOfWords}
pub use Rattle.wb_language.specs.WrongSorts.{IsItemNamed, sort_of_item, sort_of_local, NamesItem, NamesLocal, NamesSort, TakesSort, IsOfSort, IsTaken, placed, HasWrongOperand, SidesDiffer, place_for, ArgumentsFit, called_by, CallsWrongly, LeaveOpen, heads_trap, IsInTrap, heads_no_procedure, IsInNoProcedure, IsWrong, operand, sides, arguments, main, trapped, outside}
