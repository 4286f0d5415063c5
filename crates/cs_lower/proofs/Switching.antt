-- The code of a `switch`: for the contracts of `lower_entries`, of the functions in `switches`, and of a `switch` in
-- `lower_statement`.
use Rattle.std.proofs.Common.{◌≡◌, ℕ, zero, suc, ◌+◌, ◌-◌, ◌≤◌, ℤ, List, [], ◌∷◌, ◌++◌, length, drop, get_or, drop-cons}
use Rattle.std.proofs.Common.{Option, Some, None, refl, sym, ap, subst, ◌∙◌, arith}
use Rattle.std.proofs.lemmas.Option.{slice_get_past}
use Rattle.std.specs.Prelude.{unwrap_or}
use Rattle.cs_ast.specs.declared.place.Place.{Place}
use Rattle.cs_ast.specs.declared.typed.statement.Case.{Case}
use Rattle.cs_ast.specs.declared.typed.statement.Stmt.{Stmt}
use Rattle.cs_ast.specs.TypedView.{statement, statement_list}
use Rattle.cs_ast.specs.TypedTree.{Typed, Statement, Switch, Statements, Empty, Then}
use Rattle.cs_ast.specs.TypedProgram.{TypedProgram, Routine}
use Rattle.cs_events.specs.declared.point.PointKind.TheVariants as point
use Rattle.cs_meaning.specs.CountedPoints.{counted_points, counted_points_in}
use Rattle.cs_meaning.specs.Statements.{default_item}
use Rattle.cs_cfg.specs.ControlPoints.{met, in_switch, starts_in}
use Rattle.cs_cfg.specs.Graph.{Point, Flow, SwitchCase, block_of}
use Rattle.cs_cfg.specs.Placing.{there, jumps}
use Rattle.cs_cfg.specs.Executing.{executes_at, all_at, from_at, case_leads, cases_lead}
use Rattle.cs_cfg.proofs.AddedPoints.{switch_adds}
use Rattle.cs_cfg.proofs.Fitting.{adds_jump, adds_both, nothing_then}
use Rattle.cs_cfg.proofs.Meeting.{switch_meets, same_meets}
use Rattle.cs_cfg.proofs.Starting.{all_start}
use Rattle.cs_lower.specs.Allocations.{StatementHasArguments}
use Rattle.cs_lower.specs.Building.{jump_to, Built, Has}
use Rattle.cs_lower.specs.Sealing.{Seals}
use Rattle.cs_lower.specs.Expressions.{Uses}
use Rattle.cs_lower.specs.Statements.{labels_in, block_at, Executes, ExecutesIn, EntersAll}
use Rattle.cs_lower.specs.Switching.{with_case, cases_to, leads_to}
use Rattle.cs_lower.proofs.Aiming.{aims_of, aims_in_switch}
use Rattle.cs_lower.proofs.AddedPoints.{adds_less}
use Rattle.cs_lower.proofs.Built.{nothing_more, more_and_more, adds_nothing}
use Rattle.cs_lower.proofs.Executing.{counted_point_before, counted_point_stays}
use Rattle.cs_lower.proofs.Integers.{integers_same, integers_both, integers_end}

module _ (program : TypedProgram) (routine : Routine) where
  -- execution from the first statement on is execution of all statements
  all_from : (flow : Flow) (statements : Statements) (counted_point : ℕ) (out again p q : Point)
      → from_at program flow routine (labels_in routine flow) 0 statements counted_point out again p q
      → all_at program flow routine (labels_in routine flow) statements counted_point out again p q
  all_from flow Empty counted_point out again p q h = h
  all_from flow (Then first others) counted_point out again p q h = h

  -- the cases of a `switch` lead to its statements
  case_led : (flow : Flow) (value : Option ℤ) (item : ℕ) (blocks : List ℕ) (end : ℕ) (others : List SwitchCase) (Others : List SwitchCase → Type 0)
      → Others others
      → case_leads program flow routine (labels_in routine flow) (λ n. block_of flow (block_at blocks end n)) value item
      (with_case value (block_at blocks end item) others) Others
  case_led flow None item blocks end others Others h = h
  case_led flow (Some value) item blocks end others Others h = (refl, refl, h)

  cases_led : (flow : Flow) (cases : List Case) (blocks : List ℕ) (end : ℕ)
      → cases_lead program flow routine (labels_in routine flow) (λ n. block_of flow (block_at blocks end n)) cases (cases_to blocks end cases)
  cases_led flow [] blocks end = refl
  cases_led flow (one ∷ others) blocks end =
      case_led flow one.value one.item blocks end (cases_to blocks end others)
      (cases_lead program flow routine (labels_in routine flow) (λ n. block_of flow (block_at blocks end n)) others) (cases_led flow others blocks end)

module _ {program : TypedProgram} {routine : Routine} where
  -- statements that each begin a block
  pub enters_none : (out again : ℕ) (built : Built) (end : ℕ) → EntersAll program routine Empty out again built built [] end
  enters_none out again built end = record {
    grows = nothing_more built;
    counts = refl;
    does = λ flow has args counted_point e item. there;
    adds = λ flow has args counted_point e to aims following m. adds_nothing;
    integers = λ count ints. integers_same;
  }

  pub enters_then : {first : Statement} {others : Statements} {out again : ℕ} {old mid new : Built} {block next end : ℕ} {entries : List ℕ}
      → next ≡ block_at entries end 0
      → EntersAll program routine others out again old mid entries end → ExecutesIn program routine first out again mid new block next
      → EntersAll program routine (Then first others) out again old new (block ∷ entries) end
  enters_then {first = first} {others = others} {out = out} {again = again} {old = old} {mid = mid} {new = new} {block = block} {next = next} {end =
      end} {entries = entries} is last one =
      let counts = last.counts in
      record {
        grows = more_and_more (counted_points_in others) (counted_points first) (counted_points first + counted_points_in others) last.grows one.grows
            (omega arith);
        counts = omega arith;
        does = λ flow has args counted_point e.
            enters flow counted_point (one.does flow has args.0 counted_point e)
            (last.does flow (one.grows.keeps flow has) args.1 (counted_point + counted_points first) (counted_point_before one.grows counted_point e));
        adds = λ flow has args counted_point e to aims following m.
            let in_mid = one.grows.keeps flow has in
            let below = counted_point_before one.grows counted_point e in
            let following_first = others_at flow counted_point (last.does flow in_mid args.1 (counted_point + counted_points first) below) in
            let on = all_start program flow routine (labels_in routine flow) others (counted_point + counted_points first) (block_of flow out)
            (block_of flow again) (block_of flow next) (block_of flow end) (aims_of aims) following_first m in
            adds_both (last.adds flow in_mid args.1 (counted_point + counted_points first) below to aims following m)
            (nothing_then (adds_jump next) (one.adds flow has args.0 counted_point e to aims (starts_in to others following) on));
        integers = λ count ints. integers_both (last.integers count ints.1) (one.integers count ints.0);
      }
    where
      others_at : (flow : Flow) (counted_point : ℕ)
          → ((item : ℕ) → from_at program flow routine (labels_in routine flow) item others (counted_point + counted_points first) (block_of flow out)
          (block_of flow again) (block_of flow (block_at entries end item)) (block_of flow end))
          → all_at program flow routine (labels_in routine flow) others (counted_point + counted_points first) (block_of flow out) (block_of flow again)
          (block_of flow next) (block_of flow end)
      others_at flow counted_point following =
          subst (λ (b : ℕ).
          all_at program flow routine (labels_in routine flow) others (counted_point + counted_points first) (block_of flow out) (block_of flow again)
          (block_of flow b) (block_of flow end)) (sym is)
          (all_from program routine flow others (counted_point + counted_points first) (block_of flow out) (block_of flow again)
          (block_of flow (block_at entries end 0)) (block_of flow end) (following 0))

      enters : (flow : Flow) (counted_point : ℕ)
          → executes_at program flow routine (labels_in routine flow) first counted_point (block_of flow out) (block_of flow again) (block_of flow block)
          (jump_to next)
          → ((item : ℕ) → from_at program flow routine (labels_in routine flow) item others (counted_point + counted_points first) (block_of flow out)
          (block_of flow again) (block_of flow (block_at entries end item)) (block_of flow end))
          → (item : ℕ) → from_at program flow routine (labels_in routine flow) item (Then first others) counted_point (block_of flow out)
          (block_of flow again) (block_of flow (block_at (block ∷ entries) end item)) (block_of flow end)
      enters flow counted_point here following zero = (block_of flow next, (jump_to next, here, jumps there), others_at flow counted_point following)
      enters flow counted_point here following (suc item) = following item

  -- one more statement of a list, whose last one is lowered first
  pub enters_further : {out again : ℕ} {old mid new : Built} {block next end : ℕ} {blocks more : List ℕ} (row : List Stmt) (left : ℕ) (s : Stmt)
      → 1 ≤ left → left ≤ length row → s ≡ get_or row (left - 1) s → next ≡ block_at blocks end 0 → more ≡ block ∷ blocks
      → EntersAll program routine (statement_list (drop left row)) out again old mid blocks end
      → ExecutesIn program routine (statement s) out again mid new block next
      → EntersAll program routine (statement_list (drop (left - 1) row)) out again old new more end
  enters_further {out = out} {again = again} {old = old} {new = new} {block = block} {end = end} {blocks = blocks} row left s some within is first others last
      one =
      let next : left ≡ suc (left - 1) = omega arith in
      let cut : drop (left - 1) row ≡ s ∷ drop left row =
      drop-cons row (left - 1) s (omega arith) ∙ (ap (λ x. x ∷ drop (suc (left - 1)) row) (sym is) ∙ ap (λ (n : ℕ). s ∷ drop n row) (sym next)) in
      subst (λ b. EntersAll program routine (statement_list (drop (left - 1) row)) out again old new b end) (sym others)
      (subst (λ l. EntersAll program routine (statement_list l) out again old new (block ∷ blocks) end) (sym cut) (enters_then first last one))

  -- a `switch`
  pub switch_made : {at : Place} {value : Typed} {cases : List
      Case} {statements : Statements} {out again end : ℕ} {old x y new : Built} {p q : Point} {entries : List ℕ} → Seals old x end q
      → EntersAll program routine statements end again x y entries end → Uses program value 0 y new p (leads_to at cases entries end)
      → Executes program routine (Switch at value cases statements) out again old new p q
  switch_made {at = at} {value = value} {cases = cases} {statements = statements} {out = out} {again = again} {end = end} {new = new} {p = p} {q = q} {entries =
      entries} ends enters goes =
      let placed : (flow : Flow) → Has flow new → StatementHasArguments (Switch at value cases statements)
      → (counted_point : ℕ) → counted_point + length new.heads ≡ new.counted_points →
      executes_at program flow routine (labels_in routine flow) (Switch at value cases statements) counted_point (block_of flow out) (block_of flow again) p q =
      λ flow has args counted_point e.
      let in_y = goes.grows.keeps flow has in
      let on = ends.is flow (enters.grows.keeps flow in_y) in
      let From : ℕ → Point → Type 0 = λ item o.
      from_at program flow routine (labels_in routine flow) item statements counted_point o (block_of flow again)
      (block_of flow (block_at entries end item)) o in (
        cases_to entries end cases,
        block_at entries end (default_item cases (length entries)),
        (λ item. block_of flow (block_at entries end item)),
        goes.does flow has args.0,
        (λ item. subst (λ o. From item o) on (enters.does flow in_y args.1 counted_point (counted_point_stays goes.grows counted_point e) item)),
        cases_led program routine flow cases entries end,
        ap (λ (n : ℕ). block_of flow (block_at entries end (default_item cases n))) enters.counts,
        (block_at entries end 0, there),
      ) in
      record {
        grows = more_and_more 0 (counted_points_in statements) (counted_points_in statements) ends.grows
            (more_and_more (counted_points_in statements) 0 (counted_points_in statements) enters.grows goes.grows (omega arith)) (omega arith);
        does = placed;
        adds = λ flow has args counted_point e to aims following m.
            let in_y = goes.grows.keeps flow has in
            let on = same_meets (ends.is flow (enters.grows.keeps flow in_y)) m in
            let inner_aims = aims_in_switch (block_of flow end) aims on in
            switch_adds program flow routine (labels_in routine flow) counted_point (block_of flow out) (block_of flow again) p q (aims_of aims) m
            (ends.adds flow) at value cases statements end (placed flow has args counted_point e)
            (nothing_then adds_less (enters.adds flow in_y args.1 counted_point (counted_point_stays goes.grows counted_point e) (in_switch to following)
            inner_aims following on))
            (goes.adds flow has args.0 (met point.Switch at)
            (switch_meets at (cases_to entries end cases) (block_at entries end (default_item cases (length entries)))));
        integers = λ count ints.
            integers_both (ends.integers count) (integers_both (enters.integers count ints.1) (integers_end (goes.integers count ints.0)));
      }

-- the cases with a value, and that of `default`, in the order of the loop
pub cases_to-on : (blocks : List ℕ) (end : ℕ) (cases : List Case) (i : ℕ) (one : Case) → suc i ≤ length cases → one ≡ get_or cases i one
    → cases_to blocks end (drop i cases) ≡ with_case one.value (block_at blocks end one.item) [] ++ cases_to blocks end (drop (i + 1) cases)
cases_to-on blocks end cases i one within is =
    let next : suc i ≡ i + 1 = omega arith in
    let cut : drop i cases ≡ one ∷ drop (i + 1) cases =
    drop-cons cases i one within ∙ (ap (λ x. x ∷ drop (suc i) cases) (sym is) ∙ ap (λ (n : ℕ). one ∷ drop n cases) next) in
    ap (cases_to blocks end) cut ∙ split one.value
  where
    split : (value : Option ℤ) → with_case value (block_at blocks end one.item) (cases_to blocks end (drop (i + 1) cases))
        ≡ with_case value (block_at blocks end one.item) [] ++ cases_to blocks end (drop (i + 1) cases)
    split None = refl
    split (Some value) = refl

-- no element remains from the end of a list on
pub dropped : {X : Type 0} (xs : List X) (i : ℕ) → length xs ≤ i → drop i xs ≡ []
dropped [] zero h = refl
dropped [] (suc i) h = refl
dropped (x ∷ xs) zero h = absurd (omega arith)
dropped (x ∷ xs) (suc i) h = dropped xs i (omega arith)

nothing_after : {X : Type 0} (xs : List X) → xs ++ [] ≡ xs
nothing_after [] = refl
nothing_after (x ∷ xs) = ap (λ l. x ∷ l) (nothing_after xs)

-- if no case is the `default`, it leads to the end of the statements
pub no_default : (blocks : List ℕ) (end : ℕ) (cases : List Case) (i : ℕ) → length cases ≤ i
    → default_item (drop i cases) (length blocks) ≡ default_item cases (length blocks) → end ≡ block_at blocks end (default_item cases (length blocks))
no_default blocks end cases i past is =
    let past_all : length blocks ≤ length blocks = omega arith in
    let none : default_item cases (length blocks) ≡ length blocks = sym is ∙ ap (λ l. default_item l (length blocks)) (dropped cases i past) in
    sym (ap (block_at blocks end) none ∙ ap (λ b. unwrap_or b end) (slice_get_past blocks (length blocks) past_all))
