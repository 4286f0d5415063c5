-- The code of loops that have a test: for the contracts of `lower_while` and `lower_do`.
use Rattle.std.proofs.Common.{◌≡◌, ℕ, suc, ◌+◌, length, refl, sym, subst, arith}
use Rattle.cs_ast.specs.declared.place.Place.{Place}
use Rattle.cs_ast.specs.TypedTree.{Typed, Statement, While, Do}
use Rattle.cs_ast.specs.TypedProgram.{TypedProgram, Routine}
use Rattle.cs_events.specs.declared.point.PointKind.TheVariants as point
use Rattle.cs_meaning.specs.CountedPoints.{counted_points}
use Rattle.cs_cfg.specs.ControlPoints.{met, first, in_loop}
use Rattle.cs_cfg.specs.Graph as graph
use Rattle.cs_cfg.specs.Graph.{Point, Flow, block_of}
use Rattle.cs_cfg.specs.GraphPoints.{past_jump}
use Rattle.cs_cfg.specs.Placing.{split, Joins, there, jumps}
use Rattle.cs_cfg.specs.Executing.{executes_at}
use Rattle.cs_cfg.proofs.AddedPoints.{while_adds, do_adds}
use Rattle.cs_cfg.proofs.Fitting.{then_nothing}
use Rattle.cs_cfg.proofs.Meeting.{point_meets, split_meets, same_meets, used_meets}
use Rattle.cs_lower.specs.Allocations.{StatementHasArguments}
use Rattle.cs_lower.specs.Building.{jump_to, Built, Has, Grows}
use Rattle.cs_lower.specs.Sealing.{Seals, SealsCountedPoint}
use Rattle.cs_lower.specs.Expressions.{Uses}
use Rattle.cs_lower.specs.Statements.{labels_in, Executes, ExecutesIn}
use Rattle.cs_lower.proofs.Aiming.{aims_of, aims_in_loop}
use Rattle.cs_lower.proofs.Built.{more_and_more}
use Rattle.cs_lower.proofs.Evaluating.{jump_joins, same_after, same_before}
use Rattle.cs_lower.proofs.Executing.{counted_point_stays}
use Rattle.cs_lower.proofs.Integers.{integers_same, integers_both, integers_end, integers_after, integers_before}

-- the head of a loop has the number that it got before its body was built
pub is_head : {old y new : Built} {count head inner counted_point : ℕ} → Grows count old y → Grows 1 y new
    → head + suc (inner + length old.heads) ≡ old.counted_points → inner ≡ count → counted_point + length new.heads ≡ new.counted_points
    → head ≡ counted_point
is_head inside seals before counts e =
    let a = inside.counts in
    let b = seals.counts in
    let c = inside.same in
    let d = seals.same in
    omega arith

-- and is the last counted point without a block
pub is_last : {old y : Built} {count inner : ℕ} (head : ℕ) → Grows count old y → head + suc (inner + length old.heads) ≡ old.counted_points
    → inner ≡ count → head + suc (length y.heads) ≡ y.counted_points
is_last head inside before counts =
    let a = inside.counts in
    let c = inside.same in
    omega arith

-- the counted point after the head
pub after_head : (built : Built) (head : ℕ) → head + suc (length built.heads) ≡ built.counted_points
    → head + 1 + length built.heads ≡ built.counted_points
after_head built head e = omega arith

module _ (program : TypedProgram) (flow : Flow) where
  -- a block leads to the point that it is
  pub block_joins : (block : ℕ) (q : Point) → block_of flow block ≡ q → Joins program flow (block_of flow block) q
  block_joins block q is = subst (λ r. Joins program flow r q) (sym is) there

module _ {program : TypedProgram} {routine : Routine} where
  -- a `while`
  pub while_made : {at : Place} {test : Typed} {body : Statement} {out again inner head end one : ℕ} {old x y z new : Built} {p r q : Point}
      → head + suc (inner + length old.heads) ≡ old.counted_points → inner ≡ counted_points body
      → Seals old x end q → ExecutesIn program routine body end head x y one head → Uses program test 0 y z r (split at 0 one end)
      → SealsCountedPoint z new point.Head at r → p ≡ jump_to head
      → Executes program routine (While at test body) out again old new p q
  while_made {at = at} {test = test} {body = body} {out = out} {again = again} {head = head} {end = end} {one = one} {z = z} {new = new} {p = p} {r = r} {q = q}
      before counts ends way tests seals jump =
      let inside = more_and_more 0 (counted_points body) (counted_points body) ends.grows
      (more_and_more (counted_points body) 0 (counted_points body) way.grows tests.grows (omega arith)) (omega arith) in
      let last = is_last head inside before counts in
      let here = counted_point_stays tests.grows (head + 1) (after_head z head last) in
      let placed : (flow : Flow) → Has flow new → StatementHasArguments (While at test body)
      → executes_at program flow routine (labels_in routine flow) (While at test body) head (block_of flow out) (block_of flow again) p q =
      λ flow has args.
      let in_z = seals.grows.keeps flow has in
      let in_y = tests.grows.keeps flow in_z in
      let in_x = way.grows.keeps flow in_y in
      let executed = way.does flow in_y args.1 (head + 1) here in (
        block_of flow head,
        subst (λ s. Joins program flow s (block_of flow head)) (sym jump) (jumps there),
        (
          r,
          seals.is flow has head last,
          (
            one,
            end,
            tests.does flow in_z args.0,
            (
              (
                jump_to head,
                subst (λ s.
                    executes_at program flow routine (labels_in routine flow) body (head + 1) s (block_of flow head) (block_of flow one) (jump_to head))
                    (ends.is flow in_x) executed,
                jumps there,
              ),
              block_joins program flow end q (ends.is flow in_x),
            ),
          ),
        ),
      ) in
      record {
        grows = more_and_more (counted_points body) 1 (1 + counted_points body) inside seals.grows (omega arith);
        does = λ flow has args counted_point e.
            subst (λ (m : ℕ). executes_at program flow routine (labels_in routine flow) (While at test body) m (block_of flow out) (block_of flow again) p q)
            (is_head inside seals.grows before counts e) (placed flow has args);
        adds = λ flow has args counted_point e to aims following m.
            let in_z = seals.grows.keeps flow has in
            let in_y = tests.grows.keeps flow in_z in
            let in_x = way.grows.keeps flow in_y in
            let turns = same_meets (seals.is flow has head last) (point_meets at 0 (graph.Reach point.Head head) r refl) in
            let inner_aims = aims_in_loop (block_of flow end) (block_of flow head) aims (same_meets (ends.is flow in_x) m) turns in
            same_before jump
            (while_adds program flow routine (labels_in routine flow) head (block_of flow out) (block_of flow again) p q (aims_of aims) m (ends.adds flow) at
            test body head (placed flow has args)
            (way.adds flow in_y args.1 (head + 1) here (in_loop to following (met point.Head at)) inner_aims (met point.Head at) turns)
            (tests.adds flow in_z args.0 (met point.Branch at) (split_meets at 0 one end)) (seals.adds flow head last));
        integers = λ count ints.
            integers_before jump (integers_both (ends.integers count) (integers_both (way.integers count ints.1)
            (integers_both (integers_end (tests.integers count ints.0)) (integers_both (seals.integers count) (integers_end integers_same)))));
      }

  -- a `do`
  pub do_made : {at : Place} {test : Typed} {body : Statement} {out again inner head end following : ℕ} {old x y z w new : Built} {p v r q s : Point}
      → head + suc (inner + length old.heads) ≡ old.counted_points → inner ≡ counted_points body
      → Seals old x end q → Uses program test 0 x y r (split at 0 head end) → Seals y z following r → s ≡ jump_to following
      → Executes program routine body end following z w v s → SealsCountedPoint w new point.Head at v → p ≡ jump_to head
      → Executes program routine (Do at body test) out again old new p q
  do_made {at = at} {test = test} {body = body} {out = out} {again = again} {head = head} {end = end} {following = following} {w = w} {new = new} {p = p} {v =
      v} {r = r} {q = q} {s = s} before counts ends tests tested leads way seals jump =
      let inside = more_and_more 0 (counted_points body) (counted_points body) ends.grows
      (more_and_more 0 (counted_points body) (counted_points body) tests.grows
      (more_and_more 0 (counted_points body) (counted_points body) tested.grows way.grows (omega arith)) (omega arith)) (omega arith) in
      let last = is_last head inside before counts in
      let here = after_head w head last in
      let placed : (flow : Flow) → Has flow new → StatementHasArguments (Do at body test)
      → executes_at program flow routine (labels_in routine flow) (Do at body test) head (block_of flow out) (block_of flow again) p q =
      λ flow has args.
      let in_w = seals.grows.keeps flow has in
      let in_z = way.grows.keeps flow in_w in
      let in_y = tested.grows.keeps flow in_z in
      let in_x = tests.grows.keeps flow in_y in
      let executed = way.does flow in_w args.0 (head + 1) here in
      let At : Point → Point → Point → Type 0 = λ o a t. executes_at program flow routine (labels_in routine flow) body (head + 1) o a v t in
      let turned = subst (λ o. At o r (jump_to following)) (ends.is flow in_x)
      (subst (λ a. At (block_of flow end) a (jump_to following)) (tested.is flow in_z)
      (subst (λ t. At (block_of flow end) (block_of flow following) t) leads executed)) in (
        block_of flow head,
        r,
        subst (λ t. Joins program flow t (block_of flow head)) (sym jump) (jumps there),
        (
          v,
          seals.is flow has head last,
          (jump_to following, turned, jump_joins program flow following r (tested.is flow in_z)),
          (head, end, tests.does flow in_y args.1, (there, block_joins program flow end q (ends.is flow in_x))),
        ),
      ) in
      record {
        grows = more_and_more (counted_points body) 1 (1 + counted_points body) inside seals.grows (omega arith);
        does = λ flow has args counted_point e.
            subst (λ (m : ℕ). executes_at program flow routine (labels_in routine flow) (Do at body test) m (block_of flow out) (block_of flow again) p q)
            (is_head inside seals.grows before counts e) (placed flow has args);
        adds = λ flow has args counted_point e to aims next m.
            let in_w = seals.grows.keeps flow has in
            let in_z = way.grows.keeps flow in_w in
            let in_y = tested.grows.keeps flow in_z in
            let in_x = tests.grows.keeps flow in_y in
            let again_next = first test (met point.Branch at) in
            let again_met = same_meets (tested.is flow in_z)
            (used_meets program flow test 0 r (split at 0 head end) (tests.does flow in_y args.1) (split_meets at 0 head end)) in
            let inner_aims = aims_in_loop (block_of flow end) (block_of flow following) aims (same_meets (ends.is flow in_x) m) again_met in
            same_before jump
            (do_adds program flow routine (labels_in routine flow) head (block_of flow out) (block_of flow again) p q (aims_of aims) m (ends.adds flow) at body
            test head following (placed flow has args)
            (then_nothing (tests.adds flow in_y args.1 (met point.Branch at) (split_meets at 0 head end)) (tested.adds flow))
            (same_after leads (way.adds flow in_w args.0 (head + 1) here (in_loop to next again_next) inner_aims again_next
            (same_meets leads (past_jump again_met)))) (seals.adds flow head last));
        integers = λ count ints.
            let turned = integers_end (integers_after leads (way.integers count ints.0)) in
            integers_before jump (integers_both (ends.integers count) (integers_both (integers_end (tests.integers count ints.1))
            (integers_both (tested.integers count) (integers_both turned (integers_both (seals.integers count) (integers_end integers_same))))));
      }
