-- The text that `--set` is given: whether it is a list of numbers, and of which.
use Rattle.std.specs.Prelude.{ℕ, Bool, ◌&&◌, ◌==◌, List, Option, Some, None, if◌then◌else◌, length, map, nat_le, nat_lt}
use Rattle.std.specs.List.{list_all, slice_split}
use Rattle.std.specs.Str.{all_ascii_digits}
use Rattle.std.specs.Str.Parse.{digits_value}
use Rattle.clap.specs.Words.{Text}
use Rattle.wb_command_line.specs.Command.{are_ascending, are_of_set}
use Rattle.wb_basics.specs.declared.limits.TheConstants.{CEILING}

-- what stands between the commas (44) of a text, before the first and after the last: one text more than there are commas
abbrev pub between_commas : Text → List Text
between_commas text = slice_split (λ byte. byte == 44) text

-- one digit or more, and nothing else: no plus, no blank
abbrev pub is_of_digits : Text → Bool
is_of_digits text = all_ascii_digits text && nat_le 1 (length text)

-- the text is of digits alone, and its number comes after this one and is no greater than the greatest length of a heap
abbrev pub is_next : ℕ → Text → Bool
is_next last text = is_of_digits text && (nat_lt last (digits_value 10 text) && nat_le (digits_value 10 text) CEILING)

-- the numbers that texts of digits write; leading zeros make no difference
abbrev pub written_by : List Text → List ℕ
written_by texts = map (digits_value 10) texts

-- those of texts of digits alone, if they ascend; `None` of any other texts
abbrev pub ascending_in : List Text → Option (List ℕ)
ascending_in texts = if list_all is_of_digits texts && are_ascending (written_by texts) then Some (written_by texts) else None

-- the numbers that are written between the commas of a text
abbrev pub numbers_in : Text → List ℕ
numbers_in text = written_by (between_commas text)

-- each text between the commas is of digits alone, and the numbers are those of a set
abbrev pub is_list : Text → Bool
is_list text = list_all is_of_digits (between_commas text) && are_of_set (numbers_in text)

-- the numbers of a list; `None` of any other text
abbrev pub listed : Text → Option (List ℕ)
listed text = if is_list text then Some (numbers_in text) else None
