-- What it means that one process follows another: both begin in states that are the same but for allocation numbers, and the one that
-- follows has counted more steps, or as many. Both ask the same and come to the same, whatever is answered, until the budget cuts the
-- one that follows.
use Rattle.std.specs.Prelude.{◌≡◌, ℕ, ℤ, ◌+◌, ◌<◌, ◌≤◌, List, Option}
use Rattle.wb_heap_model.specs.declared.heap.Answer.{Answer}
use Rattle.wb_heap_model.specs.declared.heap.Panic.{Panic}
use Rattle.wb_heap_model.specs.declared.heap.Rule.{Rule}
use Rattle.wb_heap_model.specs.declared.reported.Leak.{Leak}
use Rattle.wb_meaning.specs.declared.run.Outcome.{Outcome}
use Rattle.wb_meaning.specs.declared.run.Outcome.TheVariants.{Ended, Panicked, NoCleanup, Cut}
use Rattle.wb_meaning.specs.declared.run.Why.{Why}
use Rattle.wb_meaning.specs.declared.run.Why.TheVariants.{Budget}
use Rattle.wb_heap_model.specs.Rules.{Request, refusal_of}
use Rattle.wb_meaning.specs.State.{State, Way, Stop, is_cut, Query, Process, ends, stops, asks, notes}
use Rattle.wb_meaning.specs.Account.{Account}
use Rattle.wb_meaning.specs.Rest.{Progress, not_begun, going, has_stopped}
use Rattle.wb_meaning.specs.Run.{WholeRun}
use Rattle.wb_renaming.specs.SameButNumbers.{Renaming, IsRenaming, one_more, AllBeside, IsSameState, IsSameWay, IsSameProgress}

-- so many steps that with some further ones the budget would be passed
pub record IsLate (budget further : ℕ) (st : State) : Type 0 where
  pub past : budget < st.steps + further
  pub within : st.steps ≤ budget

-- wherever a process ends or stops, or may be cut by the ceiling, it is late
abbrev pub IsPast : ℕ → ℕ → Process → Type 0
IsPast budget further (ends way st) = IsLate budget further st
IsPast budget further (stops stop st) = IsLate budget further st
IsPast budget further (asks t cut go) = IsLate budget further cut × ((number : ℕ) (answer : Answer) → IsPast budget further (go number answer))
IsPast budget further (notes q p) = IsPast budget further p

-- the other state is the same but for numbers, and has counted so many steps more
pub record IsBeside (budget further : ℕ) (w : Renaming) (st other : State) : Type 0 where
  pub renamed : IsRenaming w
  pub same : IsSameState w.names st other
  pub steps : other.steps ≡ st.steps + further
  pub within : other.steps ≤ budget

-- Both end, or stop, or ask for an attempt, or make a note. They ask for the same attempts, number by number from those made so far on,
-- and whatever is answered, they go on so. Or the budget cuts the second, and the first takes more further steps than were left to it.
pub data Follows (budget further : ℕ) : Renaming → Process → Process → Type 0 where
  both_end : {w : Renaming} {way other_way : Way} {st other : State} → IsSameWay w.names way other_way → IsBeside budget further w st other →
      Follows budget further w (ends way st) (ends other_way other)
  both_stop : {w : Renaming} {stop other_stop : Stop} {st other : State} → other_stop ≡ stop → IsBeside budget further w st other →
      Follows budget further w (stops stop st) (stops other_stop other)
  both_ask : {w : Renaming} {t other_t : Request} {cut other_cut : State} {go other_go : ℕ → Answer → Process} → other_t ≡ t → IsBeside budget further w cut other_cut →
      ((answer : Answer) → Follows budget further (one_more w) (go (w.made + 1) answer) (other_go (w.other_made + 1) answer)) →
      Follows budget further w (asks t cut go) (asks other_t other_cut other_go)
  both_note : {w : Renaming} {q other_q : Query} {p other : Process} → Follows budget further w p other →
      Follows budget further w (notes q p) (notes other_q other)
  cut_first : {w : Renaming} {p : Process} {other : State} → IsPast budget further p → Follows budget further w p (stops (is_cut Budget) other)

-- the steps counted so far
abbrev pub steps_of : Progress → ℕ
steps_of (not_begun placement) = 0
steps_of (going ps way st) = st.steps
steps_of (has_stopped stop st) = st.steps

-- two runs that have come to the same but for numbers, of which the other has counted so many steps more
pub record AreBeside (budget further : ℕ) (w : Renaming) (p other : Progress) : Type 0 where
  pub renamed : IsRenaming w
  pub same : IsSameProgress w.names p other
  pub steps : steps_of other ≡ steps_of p + further
  pub within : steps_of other ≤ budget

-- a leak but for its number
pub record IsSameLeak (leak other : Leak) : Type 0 where
  pub place : other.place ≡ leak.place
  pub length : other.length ≡ leak.length

-- the same outcome but for the numbers of leaks
pub data IsSameOutcome : Outcome → Outcome → Type 0 where
  same_end : (left : Option ℤ) {leaks others : List Leak} → AllBeside IsSameLeak leaks others → IsSameOutcome (Ended left leaks) (Ended left others)
  same_panic : (panic : Panic) → IsSameOutcome (Panicked panic) (Panicked panic)
  same_no_cleanup : IsSameOutcome NoCleanup NoCleanup
  same_cut : (why : Why) → IsSameOutcome (Cut why) (Cut why)

-- how far a run has come: the attempts that it has made and the steps that it has counted
pub record Reached : Type 0 where
  pub attempts : ℕ
  pub steps : ℕ

abbrev pub reached : Progress → Account → Reached
reached p a = record { attempts = a.attempts; steps = steps_of p }

-- of the attempts that are still to be made, the second rule says what the first says, number by number
abbrev pub RefusesAlike : Rule → Rule → Reached → Reached → Type 0
RefusesAlike r s here there = (n end : ℕ) → 1 ≤ n → refusal_of s (there.attempts + n) end ≡ refusal_of r (here.attempts + n) end

-- the other run comes to the same, with as many steps and as many attempts from where they had come
pub record ComesToTheSame (here there : Reached) (x y : WholeRun) : Type 0 where
  pub outcome : IsSameOutcome x.result.outcome y.result.outcome
  pub steps : y.result.steps + here.steps ≡ x.result.steps + there.steps
  pub attempts : y.attempts + here.attempts ≡ x.attempts + there.attempts

-- the second run comes to what the first comes to, where the budget allows it as many steps from where it had come, and else it is cut
pub record RestsAgree (budget : ℕ) (here there : Reached) (x y : WholeRun) : Type 0 where
  pub alike : x.result.steps + there.steps ≤ budget + here.steps → ComesToTheSame here there x y
  pub cut : budget + here.steps < x.result.steps + there.steps → y.result.outcome ≡ Cut Budget
