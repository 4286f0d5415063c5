-- A `switch` in the code takes the edge of the case that the reference machine takes (C11 6.8.4.2). For the simulation.
use Rattle.std.proofs.Common.{◌≡◌, ℕ, ◌+◌, ℤ, Bool, true, false, List, [], ◌∷◌, length, drop, Option, Some, None, unwrap_or}
use Rattle.std.proofs.Common.{if◌then◌else◌, arith, refl, sym, ap, ◌∙◌, subst}
use Rattle.std.specs.Ordering.{int_eq}
use Rattle.cs_ast.specs.declared.place.Place.{Place}
use Rattle.cs_ast.specs.declared.typed.statement.Case.{Case}
use Rattle.cs_ast.specs.TypedTree.{Typed, Switch, Statements, count_of}
use Rattle.cs_ast.specs.TypedProgram.{TypedProgram, Routine}
use Rattle.cs_events.specs.declared.event.Label.TheVariants as label
use Rattle.cs_events.specs.declared.point.PointKind.TheVariants as point
use Rattle.cs_events.specs.declared.outcome.RunBudgets.{RunBudgets}
use Rattle.cs_events.specs.Touches.{Meets}
use Rattle.cs_events.specs.Acts.{Goes, Touches}
use Rattle.cs_events.specs.Simulation.{Yields, together, both_go, both_touch}
use Rattle.cs_meaning.specs.Initials.{number_in}
use Rattle.cs_meaning.specs.Access.{shows_then}
use Rattle.cs_meaning.specs.Machine.{Item, Decide, CallFrame, State, to_do, pop, cell_at, routine_of}
use Rattle.cs_meaning.specs.Statements.{Chosen, stands_for, has_value, case_of, default_item, values_in, chosen_case, switch_to, executes_from}
use Rattle.cs_cfg.specs.Graph as graph
use Rattle.cs_cfg.specs.Graph.{SwitchCase, Point, Flow, Code, block_of}
use Rattle.cs_cfg.specs.CodeSteps.{Way, way_of, goes_way, code_step}
use Rattle.cs_cfg.specs.Executing.{case_leads, cases_lead}
use Rattle.cs_cfg.specs.Standing.{decides_at}
use Rattle.cs_cfg.proofs.Acting.{as_code, dropped}
use Rattle.cs_cfg.proofs.Alike.{yields_shows}
use Rattle.cs_cfg.proofs.Related.{CallersStand, Related, now}
use Rattle.cs_cfg.proofs.Moving.{uncut, Home, onward, with_depth, aligned, enters_block, Answer}
use Rattle.cs_cfg.proofs.Arriving.{rest_arrives}

-- the case that is found, or else any other number
chosen_else : (cases : List Case) (statements : Statements) (found : Option Chosen)
    → chosen_case cases statements found ≡ unwrap_or found (record { number = values_in cases; item = default_item cases (count_of statements) })
chosen_else cases statements (Some chosen) = refl
chosen_else cases statements None = refl

module _ (program : TypedProgram) (flow : Flow) (routine : Routine) (labels : ℕ → Point) (entries : ℕ → Point) where
  -- an edge shows the number of a case and leads to its entry
  record Picks (way : Way) (chosen : Chosen) : Type 0 where
    number : way.number ≡ chosen.number
    leads : block_of flow way.block ≡ entries chosen.item

  module _ (otherwise : ℕ) (n : ℤ) (default : Chosen) (ends : block_of flow otherwise ≡ entries default.item) where
    -- the first of the cases, or one of the others
    picks_if : (here : Bool) (way rest : Way) (chosen : Chosen) (others : Option Chosen) → Picks way chosen → Picks rest (unwrap_or others default)
        → Picks (if here then way else rest) (unwrap_or (if here then Some chosen else others) default)
    picks_if true way rest chosen others one other = one
    picks_if false way rest chosen others one other = other

    picks_one : (value : Option ℤ) (item : ℕ) (others : List Case) (ways : List SwitchCase) (count : ℕ)
        → case_leads program flow routine labels entries value item ways (cases_lead program flow routine labels entries others) →
        default.number ≡ count + (has_value value + values_in others) →
        ((rest : List SwitchCase) (from : ℕ) → cases_lead program flow routine labels entries others rest → default.number ≡ from + values_in others
        → Picks (way_of rest otherwise n from) (unwrap_or (case_of others n from) default)) →
        Picks (way_of ways otherwise n count)
        (unwrap_or (if stands_for value n then Some (record { number = count; item = item }) else case_of others n (count + has_value value)) default)
    picks_one None item others ways count it e more =
        let none : count + 0 ≡ count = omega arith in
        subst (λ k. Picks (way_of ways otherwise n k) (unwrap_or (case_of others n (count + 0)) default)) none (more ways (count + 0) it (omega arith))
    picks_one (Some value) item others [] count it e more = absurd it
    picks_one (Some value) item others (one ∷ ways) count it e more =
        subst (λ v.
        Picks (way_of (one ∷ ways) otherwise n count)
        (unwrap_or (if int_eq v n then Some (record { number = count; item = item }) else case_of others n (count + 1)) default)) it.0
        (picks_if (int_eq one.value n) (record { number = count; block = one.block }) (way_of ways otherwise n (count + 1))
        (record { number = count; item = item }) (case_of others n (count + 1))
        (record { number = refl; leads = it.1 }) (more ways (count + 1) it.2 (omega arith)))

    picks : (cases : List Case) (ways : List SwitchCase) (count : ℕ) → cases_lead program flow routine labels entries cases ways
        → default.number ≡ count + values_in cases →
        Picks (way_of ways otherwise n count) (unwrap_or (case_of cases n count) default)
    picks [] ways count it e = subst (λ w. Picks (way_of w otherwise n count) default) (sym it) (record { number = omega arith; leads = ends })
    picks (c ∷ cases) ways count it e = picks_one c.value c.item cases ways count it e (λ rest from lead same. picks cases rest from lead same)

module _ (code : Code) (program : TypedProgram) (budgets : RunBudgets) (m : State) (home : Home code program m.frame.function)
    (callers : List (CallFrame Point)) (waiting : CallersStand code program m.callers callers) where
  -- the code's run shows an edge and takes it, once the newest temporary is dropped
  switches_so : (at : Place) (ways : List SwitchCase) (otherwise : ℕ) → length m.frame.stack ≡ 1 →
      let way = way_of ways otherwise (number_in (cell_at m 0)) 0 in
      code_step code program budgets (as_code (record { operations = []; end = graph.Switch at 0 ways otherwise }) callers m)
      ≡ Touches (Meets point.Switch at) (shows_then at (label.Case way.number) (Goes (as_code (block_of home.flow way.block) callers (pop m))))
  switches_so at ways otherwise deep =
      let p : Point = record { operations = []; end = graph.Switch at 0 ways otherwise } in
      let way = way_of ways otherwise (number_in (cell_at m 0)) 0 in
      ap (λ t. goes_way code at (way_of ways otherwise (number_in (cell_at t 0)) 0) (pop t)) (uncut 1 p callers m deep)
      ∙ ap (λ t. Touches (Meets point.Switch at) (shows_then at (label.Case way.number) (Goes t)))
      (enters_block code program way.block p callers (pop m) home)

  pub switch_decides : (counted_point : ℕ) (items : List Item) (p : Point) → length m.frame.stack ≡ 1
      → (at : Place) (value : Typed) (cases : List Case) (statements : Statements) →
      decides_at program home.flow (routine_of program m.frame.function) home.lowers.labels (Switch at value cases statements) counted_point home.out home.again
      (λ d q. onward code program home items d q) p →
      Answer code program budgets (to_do (Decide (Switch at value cases statements) counted_point ∷ items) m) (as_code p callers m)
  switch_decides counted_point items p single at value cases statements it =
      let routine = routine_of program m.frame.function in
      let here : Point = record { operations = []; end = graph.Switch at 0 it.0 it.1 } in
      let number = number_in (cell_at m 0) in
      let default : Chosen = record { number = values_in cases; item = default_item cases (count_of statements) } in
      let chosen : Chosen = unwrap_or (case_of cases number 0) default in
      let way = way_of it.0 it.1 number 0 in
      let pick = picks program home.flow routine home.lowers.labels it.2 it.1 number default it.6 cases it.0 0 it.5 (omega arith) in
      let left : 0 ≡ length (drop 1 m.frame.stack) = sym (dropped 1 0 m.frame.stack single) in
      let rest = executes_from chosen.item statements counted_point items in
      let s = rest_arrives program home.flow routine home.lowers.labels chosen.item statements counted_point items home.out home.again (it.2 chosen.item)
      home.out (it.4 chosen.item) it.7 in
      let acts = λ (number : ℕ) (q : Point). Touches (Meets point.Switch at) (shows_then at (label.Case number) (Goes (as_code q callers (pop m)))) in
      let reported : Yields (Related code program budgets) (switch_to at statements counted_point chosen (pop (to_do items m)))
      (acts chosen.number (it.2 chosen.item))
      = both_touch (yields_shows (Related code program budgets) at (label.Case chosen.number)
      (both_go
      (now (aligned code program (to_do rest (pop m)) home (it.2 chosen.item) callers (with_depth code program home rest (it.2 chosen.item) left s)
      waiting)))) in
      let same : acts way.number (block_of home.flow way.block) ≡ acts chosen.number (it.2 chosen.item) =
      ap (λ k. acts k (block_of home.flow way.block)) pick.number ∙ ap (acts chosen.number) pick.leads in
      let code_acts = subst (Yields (Related code program budgets) (switch_to at statements counted_point chosen (pop (to_do items m))))
      (sym (switches_so at it.0 it.1 single ∙ same)) reported in
      subst (λ x. Answer code program budgets (to_do (Decide (Switch at value cases statements) counted_point ∷ items) m) (as_code x callers m)) (sym it.3)
      (together
      (subst (λ c.
      Yields (Related code program budgets) (switch_to at statements counted_point c (pop (to_do items m)))
      (code_step code program budgets (as_code here callers m))) (sym (chosen_else cases statements (case_of cases number 0))) code_acts))
