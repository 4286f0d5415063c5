-- The code of statements, one after another: for the contracts of `lower_statement` and of the functions that it calls.
use Rattle.std.proofs.Common.{◌≡◌, ℕ, suc, ◌+◌, ◌-◌, ◌≤◌, List, [], ◌∷◌, length, drop, get_or, drop-cons, Option, Some, None, refl}
use Rattle.std.proofs.Common.{sym, ap, subst, ◌∙◌, arith}
use Rattle.std.specs.Prelude.{option_map, unwrap_or}
use Rattle.cs_ast.specs.declared.place.Place.{Place}
use Rattle.cs_ast.specs.declared.typed.statement.Stmt.{Stmt}
use Rattle.cs_ast.specs.TypedView.{statement, statement_list}
use Rattle.cs_ast.specs.TypedTree.{Typed, Initial, Statement, Block, Declare, Run, If, IfElse, Label, Statements, Empty, Then}
use Rattle.cs_ast.specs.TypedProgram.{TypedProgram, Routine}
use Rattle.cs_events.specs.declared.point.PointKind.TheVariants as point
use Rattle.cs_meaning.specs.Machine.{body_of}
use Rattle.cs_meaning.specs.CountedPoints.{counted_points, counted_points_in}
use Rattle.cs_meaning.specs.Jumps.{Landing, landing}
use Rattle.cs_cfg.specs.ControlPoints.{met, starts_in}
use Rattle.cs_cfg.specs.Graph as graph
use Rattle.cs_cfg.specs.Graph.{Point, Flow, block_of}
use Rattle.cs_cfg.specs.GraphPoints.{past_jump}
use Rattle.cs_cfg.specs.Placing.{does, split, Joins, there, jumps, evaluates}
use Rattle.cs_cfg.specs.Executing.{executes_at, all_at, is_led_to}
use Rattle.cs_cfg.proofs.AddedPoints.{if_adds, label_adds}
use Rattle.cs_cfg.proofs.Fitting.{adds_past, adds_both, nothing_then, then_nothing}
use Rattle.cs_cfg.proofs.Meeting.{does_meets, split_meets, same_meets}
use Rattle.cs_cfg.proofs.Starting.{starts_meet, all_start}
use Rattle.cs_lower.specs.Allocations.{StatementHasArguments}
use Rattle.cs_lower.specs.Building.{jump_to, Built, Has, Grows}
use Rattle.cs_lower.specs.Sealing.{Seals, SealsCountedPoint}
use Rattle.cs_lower.specs.Expressions.{Evaluates, Uses}
use Rattle.cs_lower.specs.Statements.{labels_in, Executes, ExecutesAll, ExecutesIn, Declares}
use Rattle.cs_lower.proofs.Aiming.{aims_of}
use Rattle.cs_lower.proofs.AddedPoints.{if_else_adds}
use Rattle.cs_lower.proofs.Built.{nothing_more, more_and_more, adds_nothing}
use Rattle.cs_lower.proofs.Integers.{integers_same, integers_both, integers_end, integers_past, integers_after, integers_before}
use Rattle.cs_lower.proofs.Evaluating.{jump_joins, same_after, same_before}

-- the counted points after a statement follow those of the statement
pub counted_point_before : {old new : Built} {count : ℕ} → Grows count old new
    → (counted_point : ℕ) → counted_point + length new.heads ≡ new.counted_points → counted_point + count + length old.heads ≡ old.counted_points
counted_point_before grows counted_point e =
    let counts = grows.counts in
    let same = grows.same in
    omega arith

-- they are the same after code without counted points
pub counted_point_stays : {old new : Built} → Grows 0 old new → (counted_point : ℕ) → counted_point + length new.heads ≡ new.counted_points
    → counted_point + length old.heads ≡ old.counted_points
counted_point_stays grows counted_point e =
    let counts = grows.counts in
    let same = grows.same in
    omega arith

module _ {program : TypedProgram} {flow : Flow} where
  joins_on : {p q r : Point} → Joins program flow p q → Joins program flow q r → Joins program flow p r
  joins_on there on = on
  joins_on (jumps more) on = jumps (joins_on more on)

module _ {program : TypedProgram} {routine : Routine} where
  -- a statement can be replaced by an equal one
  pub as_statement : {s it : Statement} {out again : ℕ} {old new : Built} {p q : Point} → s ≡ it → Executes program routine it out again old new p q
      → Executes program routine s out again old new p q
  as_statement {out = out} {again = again} {old = old} {new = new} {p = p} {q = q} is h =
      subst (λ s. Executes program routine s out again old new p q) (sym is) h

  pub block : {at : Place} {statements : Statements} {out again : ℕ} {old new : Built} {p q : Point}
      → ExecutesAll program routine statements out again old new p q → Executes program routine (Block at statements) out again old new p q
  block h = record { grows = h.grows; does = h.does; adds = h.adds; integers = h.integers }

  pub declare : {at : Place} {declaration : ℕ} {initial : Option Initial} {out again : ℕ} {old new : Built} {p q : Point}
      → Declares program routine at declaration initial old new p q → Executes program routine (Declare at declaration initial) out again old new p q
  declare h = record {
    grows = h.grows;
    does = λ flow has args counted_point e. h.does flow has args;
    adds = λ flow has args counted_point e to aims following m. h.adds flow has args to following m;
    integers = λ count ints. h.integers count ints.0 ints.1;
  }

  pub run : {at : Place} {e : Typed} {out again : ℕ} {old new : Built} {p s q : Point} → s ≡ does at 0 graph.Drop q → Evaluates program e 0 old new p s
      → Executes program routine (Run at e) out again old new p q
  run {at = place} {e = e} {p = p} {q = q} is h = record {
    grows = h.grows;
    does = λ flow has args counted_point at. subst (λ s. evaluates program flow e 0 p s) is (h.does flow has args);
    adds = λ flow has args counted_point at to aims following m.
        adds_past place 0 graph.Drop q refl (same_after is (h.adds flow has args following (same_meets is (does_meets place 0 graph.Drop q refl m))));
    integers = λ count ints. integers_past place 0 graph.Drop q tt (integers_after is (h.integers count ints));
  }

  -- a statement at the beginning of a block
  pub executes_in : {s : Statement} {out again block end : ℕ} {old mid new : Built} {p q : Point} → q ≡ jump_to end
      → Executes program routine s out again old mid p q → Seals mid new block p → ExecutesIn program routine s out again old new block end
  executes_in {s = s} {out = out} {again = again} {end = end} {p = p} {q = q} is h seals = record {
    grows = more_and_more (counted_points s) 0 (counted_points s) h.grows seals.grows (omega arith);
    does = λ flow has args counted_point e.
        subst (λ r. executes_at program flow routine (labels_in routine flow) s counted_point (block_of flow out) (block_of flow again) r (jump_to end))
        (sym (seals.is flow has))
        (subst (λ r. executes_at program flow routine (labels_in routine flow) s counted_point (block_of flow out) (block_of flow again) p r) is
        (h.does flow (seals.grows.keeps flow has) args counted_point (counted_point_stays seals.grows counted_point e)));
    adds = λ flow has args counted_point e to aims following m.
        then_nothing (same_after is (h.adds flow (seals.grows.keeps flow has) args counted_point (counted_point_stays seals.grows counted_point e) to aims
        following (same_meets is (past_jump m)))) (seals.adds flow);
    integers = λ count ints. integers_both (integers_end (integers_after is (h.integers count ints))) (seals.integers count);
  }

  -- an `if`, and one with an `else`
  pub if : {at : Place} {test : Typed} {body : Statement} {out again end one : ℕ} {old x y new : Built} {p q : Point} → Seals old x end q
      → ExecutesIn program routine body out again x y one end → Uses program test 0 y new p (split at 0 one end)
      → Executes program routine (If at test body) out again old new p q
  if {at = at} {test = test} {body = body} {out = out} {again = again} {end = end} {one = one} {new = new} {p = p} {q = q} ends way tests =
      let placed : (flow : Flow) → Has flow new → StatementHasArguments (If at test body)
      → (counted_point : ℕ) → counted_point + length new.heads ≡ new.counted_points →
      executes_at program flow routine (labels_in routine flow) (If at test body) counted_point (block_of flow out) (block_of flow again) p q =
      λ flow has args counted_point e.
      let in_y = tests.grows.keeps flow has in
      let is = ends.is flow (way.grows.keeps flow in_y) in (
        one,
        end,
        tests.does flow has args.0,
        (
          (jump_to end, way.does flow in_y args.1 counted_point (counted_point_stays tests.grows counted_point e), jump_joins program flow end q is),
          subst (λ r. Joins program flow r q) (sym is) there,
        ),
      ) in
      record {
        grows = more_and_more 0 (counted_points body) (counted_points body) ends.grows
            (more_and_more (counted_points body) 0 (counted_points body) way.grows tests.grows (omega arith)) (omega arith);
        does = placed;
        adds = λ flow has args counted_point e to aims following m.
            let in_y = tests.grows.keeps flow has in
            let on = same_meets (ends.is flow (way.grows.keeps flow in_y)) m in
            if_adds program flow routine (labels_in routine flow) counted_point (block_of flow out) (block_of flow again) p q (aims_of aims) m (ends.adds flow)
            at test body end (placed flow has args counted_point e)
            (way.adds flow in_y args.1 counted_point (counted_point_stays tests.grows counted_point e) to aims following on)
            (tests.adds flow has args.0 (met point.Branch at) (split_meets at 0 one end));
        integers = λ count ints.
            integers_both (ends.integers count) (integers_both (way.integers count ints.1) (integers_end (tests.integers count ints.0)));
      }

  pub if_else : {at : Place} {test : Typed} {body following : Statement} {out again end one other : ℕ} {old x y z new : Built} {p q : Point}
      → Seals old x end q → ExecutesIn program routine following out again x y other end → ExecutesIn program routine body out again y z one end
      → Uses program test 0 z new p (split at 0 one other) → Executes program routine (IfElse at test body following) out again old new p q
  if_else {at = at} {test = test} {body = body} {following = following} {out = out} {again = again} {end = end} {one = one} {other = other} {p = p} {q = q} ends
      way_other way_one tests = record {
        grows = more_and_more 0 (counted_points body + counted_points following) (counted_points body + counted_points following) ends.grows
            (more_and_more (counted_points following) (counted_points body) (counted_points body + counted_points following) way_other.grows
            (more_and_more (counted_points body) 0 (counted_points body) way_one.grows tests.grows (omega arith)) (omega arith)) (omega arith);
        does = λ flow has args counted_point e.
            let in_z = tests.grows.keeps flow has in
            let in_y = way_one.grows.keeps flow in_z in
            let here = counted_point_stays tests.grows counted_point e in
            let on = jump_joins program flow end q (ends.is flow (way_other.grows.keeps flow in_y)) in (
              one,
              other,
              tests.does flow has args.0,
              (
                (jump_to end, way_one.does flow in_z args.1 counted_point here, on),
                (
                  jump_to end,
                  way_other.does flow in_y args.2 (counted_point + counted_points body) (counted_point_before way_one.grows counted_point here),
                  on,
                ),
              ),
            );
        adds = λ flow has args counted_point e to aims next m.
            let in_z = tests.grows.keeps flow has in
            let in_y = way_one.grows.keeps flow in_z in
            let here = counted_point_stays tests.grows counted_point e in
            let below = counted_point_before way_one.grows counted_point here in
            let on = same_meets (ends.is flow (way_other.grows.keeps flow in_y)) m in
            let o = block_of flow out in
            let a = block_of flow again in
            let one_met = starts_meet program flow routine (labels_in routine flow) body counted_point o a (block_of flow one) (jump_to end) (aims_of aims)
            (way_one.does flow in_z args.1 counted_point here) (past_jump on) in
            let other_met = starts_meet program flow routine (labels_in routine flow) following (counted_point + counted_points body) o a (block_of flow other)
            (jump_to end) (aims_of aims) (way_other.does flow in_y args.2 (counted_point + counted_points body) below) (past_jump on) in
            nothing_then (ends.adds flow)
            (if_else_adds at test body following to next one other end one_met other_met
            (way_other.adds flow in_y args.2 (counted_point + counted_points body) below to aims next on)
            (way_one.adds flow in_z args.1 counted_point here to aims next on) (tests.adds flow has args.0 (met point.Branch at) (split_meets at 0 one other)));
        integers = λ count ints.
            integers_both (ends.integers count) (integers_both (way_other.integers count ints.2)
            (integers_both (way_one.integers count ints.1) (integers_end (tests.integers count ints.0))));
      }

  -- a label
  pub label : {at : Place} {number counted_point inner out again : ℕ} {body : Statement} {old x new : Built} {p r q : Point}
      → counted_point + suc (inner + length old.heads) ≡ old.counted_points → inner ≡ counted_points body
      → Executes program routine body out again old x r q → SealsCountedPoint x new point.Label at r → p ≡ jump_to counted_point
      → Executes program routine (Label at number body) out again old new p q
  label {at = at} {number = number} {counted_point = counted_point} {inner = inner} {out = out} {again = again} {body = body} {old = old} {x = x} {new =
      new} {p = p} {r = r} {q = q} before counts inside seals jump =
      let a = inside.grows.counts in
      let c = inside.grows.same in
      let last : counted_point + suc (length x.heads) ≡ x.counted_points = omega arith in
      let here : counted_point + 1 + length x.heads ≡ x.counted_points = omega arith in
      record {
        grows = more_and_more (counted_points body) 1 (1 + counted_points body) inside.grows seals.grows (omega arith);
        does = λ flow has args n e.
            let b = seals.grows.counts in
            let d = seals.grows.same in
            let is : counted_point ≡ n = omega arith in
            subst (λ (m : ℕ).
            executes_at program flow routine (labels_in routine flow) (Label at number body) m (block_of flow out) (block_of flow again) p q) is (
              block_of flow counted_point,
              r,
              subst (λ s. Joins program flow s (block_of flow counted_point)) (sym jump) (jumps there),
              seals.is flow has counted_point last,
              led flow (landing number (body_of routine) 0 []),
              inside.does flow (seals.grows.keeps flow has) args (counted_point + 1) here,
            );
        adds = λ flow has args n e to aims following m.
            let in_x = seals.grows.keeps flow has in
            let inside_met = starts_meet program flow routine (labels_in routine flow) body (counted_point + 1) (block_of flow out) (block_of flow again) r q
            (aims_of aims) (inside.does flow in_x args (counted_point + 1) here) m in
            same_before jump (label_adds at number body counted_point counted_point to r q following inside_met
            (inside.adds flow in_x args (counted_point + 1) here to aims following m) (seals.adds flow counted_point last));
        integers = λ count ints. integers_before jump
            (integers_both (inside.integers count ints) (integers_both (seals.integers count) (integers_end integers_same)));
      }
    where
      led : (flow : Flow) (o : Option Landing)
          → is_led_to program flow routine (labels_in routine flow) o counted_point
          (block_of flow (unwrap_or (option_map (λ (l : Landing). l.counted_point) o) 0)) (block_of flow counted_point)
      led flow None = tt
      led flow (Some l) = λ e. ap (block_of flow) e

  -- lists of statements, the last of which is lowered first
  pub executes_none : (out again : ℕ) (built : Built) (p : Point) → ExecutesAll program routine Empty out again built built p p
  executes_none out again built p = record {
    grows = nothing_more built;
    does = λ flow has args counted_point e. there;
    adds = λ flow has args counted_point e to aims following m. adds_nothing;
    integers = λ count ints. integers_same;
  }

  pub executes_then : {first : Statement} {others : Statements} {out again : ℕ} {old mid new : Built} {p r q : Point}
      → ExecutesAll program routine others out again old mid r q → Executes program routine first out again mid new p r
      → ExecutesAll program routine (Then first others) out again old new p q
  executes_then {first = first} {others = others} {out = out} {again = again} {r = r} {q = q} last one = record {
    grows = more_and_more (counted_points_in others) (counted_points first) (counted_points first + counted_points_in others) last.grows one.grows
        (omega arith);
    does = λ flow has args counted_point e. (
      r,
      (r, one.does flow has args.0 counted_point e, there),
      last.does flow (one.grows.keeps flow has) args.1 (counted_point + counted_points first) (counted_point_before one.grows counted_point e),
    );
    adds = λ flow has args counted_point e to aims following m.
        let in_mid = one.grows.keeps flow has in
        let below = counted_point_before one.grows counted_point e in
        let on = all_start program flow routine (labels_in routine flow) others (counted_point + counted_points first) (block_of flow out) (block_of flow again)
        r q (aims_of aims) (last.does flow in_mid args.1 (counted_point + counted_points first) below) m in
        adds_both (last.adds flow in_mid args.1 (counted_point + counted_points first) below to aims following m)
        (one.adds flow has args.0 counted_point e to aims (starts_in to others following) on);
    integers = λ count ints. integers_both (last.integers count ints.1) (one.integers count ints.0);
  }

  -- one more statement of a list, whose last one is lowered first
  pub executes_further : {out again : ℕ} {old mid new : Built} {p r q : Point} (row : List Stmt) (left : ℕ) (s : Stmt) → 1 ≤ left
      → left ≤ length row → s ≡ get_or row (left - 1) s
      → ExecutesAll program routine (statement_list (drop left row)) out again old mid r q → Executes program routine (statement s) out again mid new p r
      → ExecutesAll program routine (statement_list (drop (left - 1) row)) out again old new p q
  executes_further {out = out} {again = again} {old = old} {new = new} {p = p} {q = q} row left s some within is last one =
      let next : left ≡ suc (left - 1) = omega arith in
      let cut : drop (left - 1) row ≡ s ∷ drop left row =
      drop-cons row (left - 1) s (omega arith) ∙ (ap (λ x. x ∷ drop (suc (left - 1)) row) (sym is) ∙ ap (λ (n : ℕ). s ∷ drop n row) (sym next)) in
      subst (λ l. ExecutesAll program routine (statement_list l) out again old new p q) (sym cut) (executes_then last one)

-- the last point of a list of statements may lead on by jumps
pub all_on : (program : TypedProgram) (routine : Routine) (flow : Flow) (statements : Statements) (counted_point : ℕ) (out again p q r : Point)
    → all_at program flow routine (labels_in routine flow) statements counted_point out again p q → Joins program flow q r
    → all_at program flow routine (labels_in routine flow) statements counted_point out again p r
all_on program routine flow Empty counted_point out again p q r h on = joins_on h on
all_on program routine flow (Then first others) counted_point out again p q r h on =
    (h.0, h.1, all_on program routine flow others (counted_point + counted_points first) out again h.0 q r h.2 on)
