-- From what a sweep returns to the report of it.
use Rattle.std.proofs.Common.{◌≡◌, ◌∙◌, ◌++◌, ◌+◌, ◌≤◌, ℕ, List, Option, Some, None, Result, Ok, Err, inl, inr, refl, ap, subst, sym}
use Rattle.std.specs.Prelude.{◌≢◌, IfOk}
use Rattle.wb_runs.specs.declared.failures.Failing.{Failing}
use Rattle.wb_runs.specs.declared.failures.Failures.{Failures}
use Rattle.wb_runs.specs.declared.failures.Failures.TheVariants.{Single}
use Rattle.wb_heap_model.specs.declared.heap.Shape.{Shape}
use Rattle.wb_basics.specs.declared.memory.NoMemory.{NoMemory}
use Rattle.wb_basics.specs.declared.limits.TheConstants.{LARGEST_BUDGET}
use Rattle.wb_runs.specs.declared.part.Part.{Part}
use Rattle.wb_meaning.specs.declared.run.Why.{Why}
use Rattle.wb_tree.specs.declared.script.Script.{Script}
use Rattle.wb_runs.specs.Met.{AreManyStatesIn}
use Rattle.wb_runs.specs.Parts.{last_attempt, IsCutIn}
use Rattle.wb_runs.specs.SetParts.{IsNoSetIn}
use Rattle.wb_runs.specs.SweepAnswers.{IsCutShort}
use Rattle.wb_runs.specs.Sweeps.{failing_set, set_of}
use Rattle.wb_sweep.specs.declared.fault.Unswept.{Unswept}
use Rattle.wb_sweep.specs.declared.fault.Unswept.TheVariants.{Cut, ManyStates}
use Rattle.wb_sweep.specs.declared.fault.Unswept.TheVariants as faults
use Rattle.wb_sweep.specs.declared.found.Found.{Found}
use Rattle.wb_sweep.specs.declared.found.Sweep.{Sweep}
use Rattle.wb_sweep.specs.SetSweeping.{IsCutAmongAllSets, IsCutAmongSets, IsEverySetSweepIn, IsSetSweepIn}
use Rattle.wb_sweep.specs.Sweeping.{IsSweep, IsSweepIn}
use Rattle.wb_command_line.specs.declared.command.Search.{Search}
use Rattle.wb_command_line.specs.declared.command.Search.TheVariants.{EverySet, Least, Sets}
use Rattle.workbench.specs.declared.report.Report.{Report}
use Rattle.workbench.specs.declared.report_values.FailingNumber.TheVariants.{At, Never}
use Rattle.workbench.specs.declared.report_values.ReportValues.{ReportValues}
use Rattle.workbench.specs.EverySetReport.{IsEverySetReport, many_states_text, no_set_at_all_line}
use Rattle.workbench.specs.PartReport.{is_whole, IsPartReport}
use Rattle.workbench.specs.ReportValues.{cut_values, many_states_values, sweep_values}
use Rattle.workbench.specs.SearchReport.{IsReportOfSwept, IsSearchReport}
use Rattle.workbench.specs.SetsReport.{IsSetsReport, no_set_line}
use Rattle.workbench.specs.TwoNumbers.{IsSweepReport, attempts_line, attempts_of, cut_at_line, found_text, none_line}
use Rattle.workbench.proofs.SetsOver.{cut-over, found-over, least-cut-over, least-found-over, none-of-any-size-over, none-over}

pub map_ok : {A E : Type 0} {P Q : A → Type 0} (r : Result A E) → ((a : A) → P a → Q a) → IfOk r P → IfOk r Q
map_ok (Ok a) f is = f a is
map_ok (Err e) f is = is

module _ (script : Script) (budget : ℕ) (shape : Shape) where
  -- too many states were met
  pub if_many_states : (search : Search) (fine : ℕ) (made : Result Report NoMemory)
      → IfOk made (λ r. r.text.items ≡ many_states_text (attempts_of Single script budget shape) fine)
      → IfOk made (λ r. r.values ≡ many_states_values fine) → IfOk made (λ r. r.status ≡ 3)
      → IfOk made (λ r. IsReportOfSwept search script budget shape (Err (ManyStates fine)) r.text.items r.values r.status)
  if_many_states search fine (Ok r) text_is values_are status_is = (text_is, values_are, status_is)
  if_many_states search fine (Err fault) text_is values_are status_is = tt

  -- the report of a search of this name
  pub for_search : (search named : Search) → search ≡ named → (part : Part) (made : Result Report NoMemory) (swept : Result Sweep Unswept)
      → ((r : Report) → IsReportOfSwept named script budget shape swept r.text.items r.values r.status
      → IsSearchReport named part script budget shape r.text.items r.values r.status)
      → IfOk made (λ r. IsReportOfSwept named script budget shape swept r.text.items r.values r.status)
      → IfOk made (λ r. IsSearchReport search part script budget shape r.text.items r.values r.status)
  for_search search named is part made swept reports given =
      subst (λ (s : Search). IfOk made (λ r. IsSearchReport s part script budget shape r.text.items r.values r.status)) (sym is)
      (map_ok made reports given)

  -- ---- the failures of one kind

  module _ (failures : Failures) (text : List ℕ) (values : ReportValues) (status : ℕ) where
    pub sweep-report : (swept : Result Sweep Unswept) → IfOk swept (IsSweep failures script budget shape)
        → ((at : Failing) (why : Why) → swept ≡ Err (Cut at why) → IsCutShort failures script budget shape at why)
        → ((fine : ℕ) → swept ≢ Err (ManyStates fine))
        → IsReportOfSwept (Least failures) script budget shape swept text values status → IsSweepReport failures script budget shape text values status
    sweep-report (Ok sweep) swept cut known is = go sweep.found refl
      where
        go : (found : Option Found) → sweep.found ≡ found → IsSweepReport failures script budget shape text values status
        go None e = inr (inl (
          record {
            none = swept.none e;
            text_is = (rw e at is.0) ∙ ap (λ n. attempts_line n ++ none_line failures) swept.attempts;
            values_are = (rw e at is.1) ∙ ap (λ n. sweep_values n Never) swept.attempts;
          },
          rw e at is.2,
        ))
        go (Some least) e = inl (
          record {
            at = least.at;
            result = least.result;
            found = rw e at swept.found;
            text_is = (rw e at is.0) ∙ ap (λ n. attempts_line n ++ found_text least.at least.result) swept.attempts;
            values_are = (rw e at is.1) ∙ ap (λ n. sweep_values n (At least.at)) swept.attempts;
          },
          rw e at is.2,
        )
    sweep-report (Err (Cut at why)) swept cut known is =
        inr (inr (record { at = at; why = why; cut = cut at why refl; text_is = is.0; values_are = is.1 }, is.2))
    sweep-report (Err (ManyStates fine)) swept cut known is = absurd (known fine refl)
    sweep-report (Err faults.NoMemory) swept cut known is = absurd is

    pub part-report : (part : Part) (swept : Result Sweep Unswept) → IfOk swept (IsSweepIn failures part script budget shape)
        → ((at : Failing) (why : Why) → swept ≡ Err (Cut at why) → IsCutIn failures part script budget shape at why)
        → ((fine : ℕ) → swept ≢ Err (ManyStates fine))
        → IsReportOfSwept (Least failures) script budget shape swept text values status → IsPartReport failures part script budget shape text values status
    part-report part (Ok sweep) swept cut known is = go sweep.found refl
      where
        go : (found : Option Found) → sweep.found ≡ found → IsPartReport failures part script budget shape text values status
        go None e = inr (inl (
          record {
            none = swept.none e;
            text_is = (rw e at is.0) ∙ ap (λ n. attempts_line n ++ none_line failures) swept.attempts;
            values_are = (rw e at is.1) ∙ ap (λ n. sweep_values n Never) swept.attempts;
          },
          rw e at is.2,
        ))
        go (Some least) e = inl (
          record {
            at = least.at;
            result = least.result;
            found = rw e at swept.found;
            text_is = (rw e at is.0) ∙ ap (λ n. attempts_line n ++ found_text least.at least.result) swept.attempts;
            values_are = (rw e at is.1) ∙ ap (λ n. sweep_values n (At least.at)) swept.attempts;
          },
          rw e at is.2,
        )
    part-report part (Err (Cut at why)) swept cut known is =
        inr (inr (record { at = at; why = why; cut = cut at why refl; text_is = is.0; values_are = is.1 }, is.2))
    part-report part (Err (ManyStates fine)) swept cut known is = absurd (known fine refl)
    part-report part (Err faults.NoMemory) swept cut known is = absurd is

  -- ---- sets

  module _ (part : Part) (allowed : budget ≤ LARGEST_BUDGET) (text : List ℕ) (values : ReportValues) (status : ℕ) where
    -- the text of a failure that is named as its set is
    named-text : (at : Failing) → at ≡ failing_set (set_of at) → (why : Why) → cut_at_line at why ≡ cut_at_line (failing_set (set_of at)) why
    named-text at named why = ap (λ f. cut_at_line f why) named

    pub sets-report : (most : ℕ) (swept : Result Sweep Unswept) → IfOk swept (IsSetSweepIn part most script budget shape)
        → ((at : Failing) (why : Why) → swept ≡ Err (Cut at why) → IsCutAmongSets part most script budget shape at why)
        → ((at : Failing) (why : Why) → swept ≡ Err (Cut at why) → last_attempt Single script budget shape ≤ budget + 1)
        → ((fine : ℕ) → swept ≢ Err (ManyStates fine))
        → IsReportOfSwept (Sets most) script budget shape swept text values status → IsSetsReport part most script budget shape text values status
    sets-report most (Ok sweep) swept cut few_cut known is = go sweep.found refl
      where
        few : last_attempt Single script budget shape ≤ budget + 1
        few = subst (λ n. n ≤ budget + 1) swept.attempts swept.few

        go : (found : Option Found) → sweep.found ≡ found → IsSetsReport part most script budget shape text values status
        go None e = inr (inl (
          record {
            none = none-over part script budget shape allowed few most (is_whole part) refl (swept.none e);
            text_is = (rw e at is.0) ∙ ap (λ n. attempts_line n ++ no_set_line most) swept.attempts;
            values_are = (rw e at is.1) ∙ ap (λ n. sweep_values n Never) swept.attempts;
          },
          rw e at is.2,
        ))
        go (Some least) e =
            let told = rw e at swept.found in
            inl (
              record {
                numbers = set_of least.at;
                result = least.result;
                found = found-over part script budget shape allowed few most (is_whole part) refl (set_of least.at) least.result told.1;
                text_is =
                    (rw e at is.0) ∙ ap (λ n. attempts_line n ++ found_text least.at least.result) swept.attempts
                    ∙ ap (λ f. attempts_line (attempts_of Single script budget shape) ++ found_text f least.result) told.0;
                values_are =
                    (rw e at is.1) ∙ ap (λ n. sweep_values n (At least.at)) swept.attempts
                    ∙ ap (λ f. sweep_values (attempts_of Single script budget shape) (At f)) told.0;
              },
              rw e at is.2,
            )
    sets-report most (Err (Cut at why)) swept cut few_cut known is =
        let told = cut at why refl in
        let over = cut-over part script budget shape allowed (few_cut at why refl) most (is_whole part) refl (set_of at) why told.1 in
        inr (inr (
          record {
            numbers = set_of at;
            why = why;
            cut = over;
            text_is = is.0 ∙ named-text at told.0 why;
            values_are = is.1 ∙ ap cut_values told.0;
          },
          is.2,
        ))
    sets-report most (Err (ManyStates fine)) swept cut few_cut known is = absurd (known fine refl)
    sets-report most (Err faults.NoMemory) swept cut few_cut known is = absurd is

    pub every-set-report : (states : ℕ) (swept : Result Sweep Unswept) → IfOk swept (IsEverySetSweepIn part script budget shape)
        → ((at : Failing) (why : Why) → swept ≡ Err (Cut at why) → IsCutAmongAllSets part script budget shape at why)
        → ((at : Failing) (why : Why) → swept ≡ Err (Cut at why) → last_attempt Single script budget shape ≤ budget + 1)
        → ((fine : ℕ) → swept ≡ Err (ManyStates fine) → (1 ≤ fine) × IsNoSetIn part fine script budget shape)
        → ((fine : ℕ) → swept ≡ Err (ManyStates fine) → AreManyStatesIn part (fine + 1) states script budget shape)
        → ((fine : ℕ) → swept ≡ Err (ManyStates fine) → last_attempt Single script budget shape ≤ budget + 1)
        → IsReportOfSwept (EverySet states) script budget shape swept text values status → IsEverySetReport part states script budget shape text values status
    every-set-report states (Ok sweep) swept cut few_cut many met few_met is = go sweep.found refl
      where
        few : last_attempt Single script budget shape ≤ budget + 1
        few = subst (λ n. n ≤ budget + 1) swept.attempts swept.few

        go : (found : Option Found) → sweep.found ≡ found → IsEverySetReport part states script budget shape text values status
        go None e = inr (inl (
          record {
            none = none-of-any-size-over part script budget shape allowed few (is_whole part) refl (swept.none e);
            text_is = (rw e at is.0) ∙ ap (λ n. attempts_line n ++ no_set_at_all_line) swept.attempts;
            values_are = (rw e at is.1) ∙ ap (λ n. sweep_values n Never) swept.attempts;
          },
          rw e at is.2,
        ))
        go (Some least) e =
            let told = rw e at swept.found in
            inl (
              record {
                numbers = set_of least.at;
                result = least.result;
                found = least-found-over part script budget shape allowed few (is_whole part) refl (set_of least.at) least.result told.1;
                text_is =
                    (rw e at is.0) ∙ ap (λ n. attempts_line n ++ found_text least.at least.result) swept.attempts
                    ∙ ap (λ f. attempts_line (attempts_of Single script budget shape) ++ found_text f least.result) told.0;
                values_are =
                    (rw e at is.1) ∙ ap (λ n. sweep_values n (At least.at)) swept.attempts
                    ∙ ap (λ f. sweep_values (attempts_of Single script budget shape) (At f)) told.0;
              },
              rw e at is.2,
            )
    every-set-report states (Err (Cut at why)) swept cut few_cut many met few_met is =
        let told = cut at why refl in
        let over = least-cut-over part script budget shape allowed (few_cut at why refl) (is_whole part) refl (set_of at) why told.1 in
        inr (inr (inl (
          record {
            numbers = set_of at;
            why = why;
            cut = over;
            text_is = is.0 ∙ named-text at told.0 why;
            values_are = is.1 ∙ ap cut_values told.0;
          },
          is.2,
        )))
    every-set-report states (Err (ManyStates fine)) swept cut few_cut many met few_met is =
        let told = many fine refl in
        let none = none-over part script budget shape allowed (few_met fine refl) fine (is_whole part) refl told.1 in
        inr (inr (inr (record { fine = fine; some = told.0; none = none; many = met fine refl; text_is = is.0; values_are = is.1 }, is.2)))
    every-set-report states (Err faults.NoMemory) swept cut few_cut many met few_met is = absurd is
