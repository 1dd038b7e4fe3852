-- Given on from `wb_language`.
pub use Rattle.wb_language.specs.PassedLimits.{count_of, is_procedure_role, is_block_role, is_end_role, is_in_no_body, DeclareSoMany, HaveOpenBlocks, PassesLimit, name, parameters, size, class, procedure, field, local, block}
