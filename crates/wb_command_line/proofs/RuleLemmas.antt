-- The rule that options spell together with a second number.
use Rattle.std.proofs.Common.{◌≡◌, ◌∙◌, ℕ, not, true, false, refl, sym, ap, Option, Some, None, Result, Ok, Err, List, codes, true≢false}
use Rattle.std.specs.Prelude.{IfErr, IfOk, IsTrue, OnErr, OnOk}
use Rattle.std.proofs.lemmas.Bool.{le-leb, or_parts}
use Rattle.clap.specs.Words.{Row}
use Rattle.wb_heap_model.specs.declared.heap.Rule.{Rule}
use Rattle.wb_heap_model.specs.declared.heap.Rule.TheVariants.{Number, Pair}
use Rattle.wb_basics.specs.declared.limits.TheConstants.{CEILING}
use Rattle.wb_command_line.specs.Command.{is_in_range}
use Rattle.wb_command_line.specs.Fault.{IsFaultOfRule}
use Rattle.wb_command_line.specs.Spelled.{IsPairOf, are_disordered, are_several, comes_before, first_rule_of, gives_disorder, gives_no_list, gives_several, gives_several_numbers, number_of, rule_beside, rule_by, rule_of, set_of}
use Rattle.wb_command_line.specs.declared.command.CommandFault.{CommandFault}
use Rattle.wb_command_line.specs.declared.command.CommandFault.TheVariants.{Also}
use Rattle.wb_command_line.specs.declared.command.Task.TheVariants.{Run}
use Rattle.wb_command_line.proofs.MatchesLemmas.{IsNumberOf}

-- where no more than one of the four is there, a rule that lets one attempt fail is that of the number
one_attempt : (limit number rate first : Option ℕ) (set : Option (List ℕ)) (i j : ℕ) → are_several limit number rate first ≡ false
    → rule_by limit number None rate first set ≡ Number i
    → (number ≡ Some i) × (rule_by limit number (Some j) rate first set ≡ Pair i j)
one_attempt (Some l) (Some n) rate first set i j one is = absurd (true≢false one)
one_attempt (Some l) None rate first set i j one is = absurd (cc)
one_attempt None (Some n) (Some r) first set i j one is = absurd (true≢false one)
one_attempt None (Some n) None (Some f) set i j one is = absurd (true≢false one)
one_attempt None (Some n) None None set i j one is = let same : n ≡ i = cc in (ap (λ x. Some x) same, ap (λ x. Pair x j) same)
one_attempt None None (Some r) first set i j one is = absurd (cc)
one_attempt None None None (Some f) set i j one is = absurd (cc)
one_attempt None None None None (Some numbers) i j one is = absurd (cc)
one_attempt None None None None None i j one is = absurd (cc)

-- and where the second number doesn't come after that of the rule, the numbers are not in order
not_after : (limit number rate first : Option ℕ) (set : Option (List ℕ)) (j : ℕ) → are_several limit number rate first ≡ false
    → comes_before (rule_by limit number None rate first set) j ≡ false
    → are_disordered number (Some j) ≡ true
not_after limit None rate first set j one isnt = refl
not_after (Some l) (Some n) rate first set j one isnt = absurd (true≢false one)
not_after None (Some n) (Some r) first set j one isnt = absurd (true≢false one)
not_after None (Some n) None (Some f) set j one isnt = absurd (true≢false one)
not_after None (Some n) None None set j one isnt = ap not isnt

-- no second number was read
module _ (rows : List Row) {read : Option ℕ} (also : IsNumberOf (codes "also") rows 0 CEILING read) (absent : read ≡ None) where
  no_second : number_of (codes "also") rows ≡ None
  no_second = sym also.is ∙ absent

  pub alone_rule : first_rule_of rows ≡ rule_of rows
  alone_rule = ap (λ s. rule_beside s (set_of rows) rows) (sym no_second)

  pub alone_ordered : gives_disorder rows ≡ false
  alone_ordered = ap (are_disordered (number_of (codes "fail") rows)) no_second

-- one was, beside a list or no set, and what is no more than one of a limit, a number, a rate, a first number and a set
module _ (rows : List Row) {first : Rule} {read : Option ℕ} {j : ℕ} (is_first : first ≡ first_rule_of rows) (list : gives_no_list rows ≡ false) (one : gives_several rows ≡ false)
    (also : IsNumberOf (codes "also") rows 0 CEILING read) (given : read ≡ Some j) where
  one_number : gives_several_numbers rows ≡ false
  one_number = (or_parts (gives_several_numbers rows) _ one).0

  is_second : number_of (codes "also") rows ≡ Some j
  is_second = sym also.is ∙ given

  paired : (rule : Rule) (p : IsPairOf first j rule)
      → (number_of (codes "fail") rows ≡ Some p.number)
      × (rule_beside (Some j) (set_of rows) rows ≡ Pair p.number j)
  paired rule p = one_attempt (number_of (codes "limit") rows) (number_of (codes "fail") rows) (number_of (codes "every") rows) (number_of (codes "fail-from") rows)
      (set_of rows) p.number j one_number (sym is_first ∙ p.alone)

  pub second_rule : (r : Result Rule CommandFault) → IfOk r (IsPairOf first j) → IfOk r (λ rule. rule ≡ rule_of rows)
  second_rule (Err fault) p = tt
  second_rule (Ok rule) p =
      p.pair ∙ sym (paired rule p).1
      ∙ ap (λ s. rule_beside s (set_of rows) rows) (sym is_second)

  pub second_range : (r : Result Rule CommandFault) → IfOk r (IsPairOf first j) → IfOk r (λ rule. IsTrue (is_in_range (Run rule)))
  second_range (Err fault) p = tt
  second_range (Ok rule) p = let within = rw given at also.within in rw (p.pair, p.ordered, le-leb _ _ within.1) refl

  pub second_ordered : (r : Result Rule CommandFault) → IfOk r (IsPairOf first j) → OnOk r (gives_disorder rows ≡ false)
  second_ordered (Err fault) p = tt
  second_ordered (Ok rule) p = rw (is_second, (paired rule p).0, p.ordered) refl

  pub second_fault : (r : Result Rule CommandFault) → IfErr r (λ fault. fault ≡ Also) → OnErr r (comes_before first j ≡ false) → IfErr r (IsFaultOfRule rows)
  second_fault (Ok rule) is isnt = tt
  second_fault (Err fault) is isnt =
      let not_before = sym (ap (λ f. comes_before f j) is_first) ∙ isnt in
      let disordered = not_after (number_of (codes "limit") rows) (number_of (codes "fail") rows) (number_of (codes "every") rows) (number_of (codes "fail-from") rows)
      (set_of rows) j one_number not_before in
      rw is (record { listed = list; one_rule = one; disordered = ap (are_disordered (number_of (codes "fail") rows)) is_second ∙ disordered })
