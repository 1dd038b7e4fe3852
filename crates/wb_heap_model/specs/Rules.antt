-- What a rule and the script's own setting say of an attempt.
use Rattle.std.specs.Prelude.{ℕ, zero, suc, ◌+◌, ◌%◌, Bool, false, ◌||◌, nat_eq, nat_lt, nat_le, if◌then◌else◌, Option, Some, None}
use Rattle.std.specs.List.{list_any}
use Rattle.wb_basics.specs.declared.limits.TheConstants.{CEILING}
use Rattle.wb_heap_model.specs.declared.heap.Rule.{Rule}
use Rattle.wb_heap_model.specs.declared.heap.Rule.TheVariants.{Limit, Number, Every, From, Pair, Set}
use Rattle.wb_heap_model.specs.declared.heap.Answer.{Answer}
use Rattle.wb_heap_model.specs.declared.heap.Answer.TheVariants.{Granted, Simulated, Refused}

-- the length past which a rule refuses each end, where it has one
abbrev pub limit_of : Rule → Option ℕ
limit_of (Limit l) = Some l
limit_of _ = None

-- whether a rule simulates the failure of the attempt with this number; rate 0 and `From 0` simulate none
abbrev pub simulates : Rule → ℕ → Bool
simulates (Number n) number = nat_eq n number
simulates (Every n) number = if nat_eq n 0 then false else nat_eq (number % n) 0
simulates (From n) number = if nat_eq n 0 then false else nat_le n number
simulates (Pair i j) number = nat_eq i number || nat_eq j number
simulates (Set numbers) number = list_any (λ it. nat_eq it number) numbers
simulates _ number = false

-- what is refused of an end past a limit
abbrev pub refusal_past : Option ℕ → ℕ → Option Answer
refusal_past None end = None
refusal_past (Some l) end = if nat_lt l end then Some Refused else None

-- what a rule says of an attempt with this number and end
abbrev pub refusal_of : Rule → ℕ → ℕ → Option Answer
refusal_of rule number end = if simulates rule number then Some Simulated else refusal_past (limit_of rule) end

-- the script's own setting: none, the k-th next attempt, or every k-th
pub data Setting : Type 0 where
  never : Setting
  next : ℕ → Setting
  -- k, and how many attempts are left until the next that is refused
  each : ℕ → ℕ → Setting

-- whether the setting refuses the attempt at hand
abbrev pub is_due : Setting → Bool
is_due never = false
is_due (next k) = nat_eq k 1
is_due (each k left) = nat_eq left 1

-- a setting for the k-th next attempt, one attempt later; the one that fired becomes none
abbrev pub count_down : ℕ → Setting
count_down zero = never
count_down (suc zero) = never
count_down (suc (suc k)) = next (suc k)

-- a setting for every k-th attempt, with a number of attempts left until the next, one attempt later
abbrev pub turn_round : ℕ → ℕ → Setting
turn_round k zero = each k k
turn_round k (suc zero) = each k k
turn_round k (suc (suc left)) = each k (suc left)

-- the setting once it has counted an attempt
abbrev pub after_attempt : Setting → Setting
after_attempt never = never
after_attempt (next k) = count_down k
after_attempt (each k left) = turn_round k left

-- the setting once it has counted a number of attempts
abbrev pub after_attempts : ℕ → Setting → Setting
after_attempts zero s = s
after_attempts (suc n) s = after_attempts n (after_attempt s)

-- what an attempt asks for, and whether the script's own setting refuses it
pub record Request : Type 0 where
  pub length : ℕ
  pub place : ℕ
  pub due : Bool

-- what a rule leaves open is granted, unless the end passes the ceiling
abbrev pub unless_refused : Option Answer → ℕ → Option Answer
unless_refused (Some answer) end = Some answer
unless_refused None end = if nat_lt CEILING end then None else Some Granted

-- the answer to an attempt: the setting is asked first, then the rule; `None` if the ceiling cuts the run
abbrev pub answer_to : Rule → ℕ → Request → Option Answer
answer_to rule number t = if t.due then Some Simulated else unless_refused (refusal_of rule number (t.place + t.length)) (t.place + t.length)
