-- What every command that words spell keeps.
use Rattle.std.specs.Prelude.{ℕ, Bool, true, ◌&&◌, ◌%◌, List, [], ◌∷◌, Option, length, nat_eq, nat_le, nat_lt}
use Rattle.std.specs.List.{list_all}
use Rattle.std.specs.Option.{option_map_or}
use Rattle.wb_heap_model.specs.Space.{is_shape}
use Rattle.wb_basics.specs.declared.limits.TheConstants.{CEILING, LARGEST_BUDGET}
use Rattle.wb_heap_model.specs.declared.heap.Rule.TheVariants.{Every, From, Limit, Number, Pair, Set, Unlimited}
use Rattle.wb_heap_model.specs.declared.heap.Shape.{Shape}
use Rattle.wb_runs.specs.declared.part.Part.{Part}
use Rattle.wb_command_line.specs.declared.command_line.following.TheConstants.{MOST_FOLLOWED}
use Rattle.wb_command_line.specs.declared.command_line.sets.TheConstants.{MOST_STATES, MOST_TOGETHER}
use Rattle.wb_command_line.specs.declared.command.Command.{Command}
use Rattle.wb_command_line.specs.declared.command.Search.{Search}
use Rattle.wb_command_line.specs.declared.command.Search.TheVariants.{Least, All, Ends, Sets, EverySet}
use Rattle.wb_command_line.specs.declared.command.Task.{Task}
use Rattle.wb_command_line.specs.declared.command.Task.TheVariants.{Run, Size, Lengths, Sweep, Check}

-- attempts count from 1, and the second comes after the first
abbrev pub are_in_order : ℕ → ℕ → Bool
are_in_order first second = nat_le 1 first && nat_lt first second

-- each number is greater than the one before it, and the first of them than this one
abbrev pub ascend_after : ℕ → List ℕ → Bool
ascend_after last [] = true
ascend_after last (n ∷ ns) = nat_lt last n && ascend_after n ns

-- the numbers ascend, from 1 to the greatest length of a heap
abbrev pub are_ascending : List ℕ → Bool
are_ascending numbers = ascend_after 0 numbers && list_all (λ n. nat_le n CEILING) numbers

-- the numbers are those of a set of attempts: they ascend, and are 1 to 256
abbrev pub are_of_set : List ℕ → Bool
are_of_set numbers = are_ascending numbers && (nat_le 1 (length numbers) && nat_le (length numbers) 256)

-- so many attempts may be asked to fail together
abbrev pub may_fail_together : ℕ → Bool
may_fail_together most = nat_le 1 most && nat_le most MOST_TOGETHER

-- so many states may be met at most
abbrev pub may_be_met : ℕ → Bool
may_be_met states = nat_le 1 states && nat_le states MOST_STATES

-- of the sets that are tried, as many attempts fail at most as may, or as many states are met at most
abbrev pub is_search_in_range : Search → Bool
is_search_in_range (Least failures) = true
is_search_in_range (All failures) = true
is_search_in_range (Ends failures) = true
is_search_in_range (Sets most) = may_fail_together most
is_search_in_range (EverySet states) = may_be_met states

-- a limit, the number of an attempt, or a rate is no greater than the greatest length of a heap; of two attempts,
-- which are in order, the second is; of a set they all are; and of a part its last number is
abbrev pub is_in_range : Task → Bool
is_in_range (Run Unlimited) = true
is_in_range (Run (Limit l)) = nat_le l CEILING
is_in_range (Run (Number n)) = nat_le n CEILING
is_in_range (Run (Every n)) = nat_le n CEILING
is_in_range (Run (From n)) = nat_le n CEILING
is_in_range (Run (Pair i j)) = are_in_order i j && nat_le j CEILING
is_in_range (Run (Set numbers)) = are_of_set numbers
is_in_range Size = true
is_in_range Lengths = true
is_in_range (Sweep search part) = is_search_in_range search && nat_le part.to CEILING
is_in_range (Check search) = is_search_in_range search

-- a part has a number
abbrev pub has_number : Part → Bool
has_number part = nat_le part.from part.to

-- the part that a task names, where it names one, has a number
abbrev pub is_filled : Task → Bool
is_filled (Sweep search part) = has_number part
is_filled _ = true

-- the minimum length and the step are multiples of 16
abbrev pub is_sixteenfold : Shape → Bool
is_sixteenfold shape = nat_eq (shape.min % 16) 0 && nat_eq (shape.step % 16) 0

-- how many steps are followed, where any are
abbrev pub is_followed_in_range : Option ℕ → Bool
is_followed_in_range follow = option_map_or (λ steps. nat_le 1 steps && nat_le steps MOST_FOLLOWED) follow true

-- the attempt about which steps are followed, where one is named
abbrev pub is_around_in_range : Option ℕ → Bool
is_around_in_range around = option_map_or (λ number. nat_le 1 number && nat_le number CEILING) around true

-- the numbers of a command are in their ranges
abbrev pub is_answerable : Command → Bool
is_answerable c = nat_le 1 c.budget && nat_le c.budget LARGEST_BUDGET && is_shape c.shape && is_in_range c.task && is_filled c.task && is_followed_in_range c.follow && is_around_in_range c.around
