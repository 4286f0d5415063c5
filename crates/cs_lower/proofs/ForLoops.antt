-- The code of a `for`: for the contract of `lower_for`.
use Rattle.std.proofs.Common.{◌≡◌, ℕ, suc, ◌+◌, ◌∷◌, ◌++◌, length, Option, refl, subst, arith}
use Rattle.cs_ast.specs.declared.place.Place.{Place}
use Rattle.cs_ast.specs.TypedTree.{Typed, Statement, For, Statements}
use Rattle.cs_ast.specs.TypedProgram.{TypedProgram, Routine}
use Rattle.cs_events.specs.declared.point.PointKind.TheVariants as point
use Rattle.cs_meaning.specs.CountedPoints.{counted_points, counted_points_in}
use Rattle.cs_cfg.specs.ControlPoints.{Next, met, first_some, points_some, Targets, for_test, for_tested, for_points, in_loop, in_switch, starts, flows}
use Rattle.cs_cfg.specs.Fitting.{AddsPoints}
use Rattle.cs_cfg.specs.Graph.{Point, Flow, Reach, block_of}
use Rattle.cs_cfg.specs.GraphPoints.{MeetsNext, past_jump}
use Rattle.cs_cfg.specs.Placing.{does, jumps, there}
use Rattle.cs_cfg.specs.Executing.{for_loop, executes_at, all_at}
use Rattle.cs_cfg.proofs.Fitting.{adds_jump, adds_both, nothing_then}
use Rattle.cs_cfg.proofs.Meeting.{point_meets, same_meets}
use Rattle.cs_cfg.proofs.Starting.{last_meets, for_test_meets, starts_meet}
use Rattle.cs_lower.specs.Allocations.{OptionHasArguments, StatementHasArguments}
use Rattle.cs_lower.specs.Building.{jump_to, Built, blocks, Has, Grows}
use Rattle.cs_lower.specs.Integers.{OptionIsOfIntegers, StatementIsOfIntegers, AddsIntegers}
use Rattle.cs_lower.specs.Sealing.{Seals, SealsCountedPoint}
use Rattle.cs_lower.specs.Statements.{labels_in, Aims, Executes, ExecutesAll, TestsFor, EndsFor}
use Rattle.cs_lower.proofs.Aiming.{aims_of, aims_in_loop, aims_in_switch}
use Rattle.cs_lower.proofs.AddedPoints.{for_adds}
use Rattle.cs_lower.proofs.Built.{more_and_more}
use Rattle.cs_lower.proofs.Evaluating.{same_after}
use Rattle.cs_lower.proofs.Executing.{counted_point_stays, all_on}
use Rattle.cs_lower.proofs.Integers.{integers_both, integers_between, integers_end, integers_after}
use Rattle.cs_lower.proofs.TurningLoops.{after_head}

-- the first control point after the body of a `for`, the targets inside of it, and the first control point of the body
abbrev pub turning : Place → Option Typed → Next
turning at last = first_some last (met point.Head at)

abbrev pub in_for : Targets → Place → Option Typed → Next → Targets
in_for to at last following = in_loop to following (turning at last)

abbrev pub in_body : Targets → Place → Option Typed → Statement → Next → Next
in_body to at last body following = starts (in_for to at last following) body (turning at last)

-- the block of the head of a `for` visits it, and continues at a point
abbrev pub IsHead : Flow → Place → ℕ → Point → Type 0
IsHead flow at head r = block_of flow head ≡ does at 0 (Reach point.Head head) r

module _ (program : TypedProgram) (routine : Routine) where
  -- a `for` without its first clause, which has this many counted points: its head continues at a point, and the point after the
  -- loop is a block
  pub record TurnsFor (at : Place) (test last : Option Typed) (body : Statement) (before : ℕ) (old new : Built) (head end : ℕ) (r q : Point) : Type 0 where
    pub grows : Grows (counted_points body) old new
    pub counts : head + suc (before + length new.heads) ≡ new.counted_points
    pub is : (flow : Flow) → Has flow new → block_of flow end ≡ q
    pub does : (flow : Flow) → Has flow new → OptionHasArguments test → OptionHasArguments last → StatementHasArguments body → IsHead flow at head r
        →
        (again : Point) × for_loop program flow at test last head
        (λ o a x y. executes_at program flow routine (labels_in routine flow) body (head + 1 + before) o a x y) (block_of flow head) again q
    pub meets : (flow : Flow) → Has flow new → OptionHasArguments test → OptionHasArguments last → StatementHasArguments body → IsHead flow at head r
        → (to : Targets) (out again : Point) → Aims program routine flow to out again →
        (following : Next) → MeetsNext flow q following → MeetsNext flow r (for_test at test (in_body to at last body following))
    pub adds : (flow : Flow) → Has flow new → OptionHasArguments test → OptionHasArguments last → StatementHasArguments body → IsHead flow at head r
        → (to : Targets) (out again : Point) → Aims program routine flow to out again →
        (following : Next) → MeetsNext flow q following →
        AddsPoints flow ((for_tested at test (in_body to at last body following) following ++ for_points at test)
        ++ (flows (in_for to at last following) body (turning at last) ++ points_some last (met point.Head at))) (q ∷ blocks old) (r ∷ blocks new)
    pub integers : (count : ℕ) → OptionIsOfIntegers count test → OptionIsOfIntegers count last → StatementIsOfIntegers count body
        → AddsIntegers count (q ∷ blocks old) (r ∷ blocks new)

module _ {program : TypedProgram} {routine : Routine} where
  pub for_turned : {at : Place} {test last : Option
      Typed} {body : Statement} {before counted inside inner head end following : ℕ} {old x y z new : Built} {v r q s : Point}
      → head + suc (inner + length old.heads) ≡ old.counted_points → inner ≡ counted + inside → counted ≡ before → inside ≡ counted_points body
      → Seals old x end q → EndsFor program last x y following head → s ≡ jump_to following → Executes program routine body end following y z v s
      → TestsFor program at test z new r v end
      → TurnsFor program routine at test last body before old new head end r q
  for_turned {at = at} {test = test} {last = last} {body = body} {before = before} {counted = count} {inside = inside} {inner = inner} {head = head} {end =
      end} {following = block} {old = old} {y = y} {z = z} {new = new} {v = v} {r = r} {q = q} {s = s} start inner_is count_is inside_is ends ended leads way
      tests =
      let grown = more_and_more 0 (counted_points body) (counted_points body) ends.grows
      (more_and_more 0 (counted_points body) (counted_points body) ended.grows
      (more_and_more (counted_points body) 0 (counted_points body) way.grows tests.grows (omega arith)) (omega arith)) (omega arith) in
      let a = grown.counts in
      let b = grown.same in
      let counted : head + suc (before + length new.heads) ≡ new.counted_points = omega arith in
      let here : head + 1 + before + length new.heads ≡ new.counted_points = omega arith in
      let counted_point = head + 1 + before in
      let inner_counted_point = counted_point_stays tests.grows counted_point here in
      let in_z : (flow : Flow) → Has flow new → Has flow z = tests.grows.keeps in
      let in_y : (flow : Flow) → Has flow new → Has flow y = λ flow has. way.grows.keeps flow (in_z flow has) in
      let on : (flow : Flow) → Has flow new → block_of flow end ≡ q = λ flow has. ends.is flow (ended.grows.keeps flow (in_y flow has)) in
      let turns : (flow : Flow) → IsHead flow at head r → MeetsNext flow (block_of flow head) (met point.Head at) = λ flow head_is.
      same_meets head_is (point_meets at 0 (Reach point.Head head) r refl) in
      let again_met : (flow : Flow) → Has flow new → OptionHasArguments last → IsHead flow at head r
      → MeetsNext flow (block_of flow block) (turning at last) =
      λ flow has has_last head_is.
      last_meets program flow routine (labels_in routine flow) last (block_of flow block) (block_of flow head) (ended.does flow (in_y flow has) has_last)
      (turns flow head_is) in
      let inner_aims : (flow : Flow) → Has flow new → OptionHasArguments last → IsHead flow at head r
      → (to : Targets) (out again : Point) → Aims program routine flow to out again → (following : Next) → MeetsNext flow q following →
      Aims program routine flow (in_for to at last following) (block_of flow end) (block_of flow block) =
      λ flow has has_last head_is to out again aims following m.
      aims_in_loop (block_of flow end) (block_of flow block) aims (same_meets (on flow has) m) (again_met flow has has_last head_is) in
      let body_met : (flow : Flow) → Has flow new → OptionHasArguments last → StatementHasArguments body → IsHead flow at head r
      → (to : Targets) (out again : Point) → Aims program routine flow to out again → (following : Next) → MeetsNext flow q following →
      MeetsNext flow v (in_body to at last body following) =
      λ flow has has_last has_body head_is to out again aims following m.
      starts_meet program flow routine (labels_in routine flow) body counted_point (block_of flow end) (block_of flow block) v s
      (aims_of (inner_aims flow has has_last head_is to out again aims following m))
      (way.does flow (in_z flow has) has_body counted_point inner_counted_point) (same_meets leads (past_jump (again_met flow has has_last head_is))) in
      record {
        grows = grown;
        counts = counted;
        is = on;
        does = λ flow has has_test has_last has_body head_is.
            let At : Point → Point → Type 0 = λ o b.
            executes_at program flow routine (labels_in routine flow) body counted_point o (block_of flow block) v b in
            let turned = subst (λ o. At o (jump_to block)) (on flow has)
            (subst (λ b. At (block_of flow end) b) leads (way.does flow (in_z flow has) has_body counted_point inner_counted_point)) in (
              block_of flow block,
              (r, v, head_is, tests.does flow q has has_test (on flow has), (jump_to block, turned, jumps there), ended.does flow (in_y flow has) has_last),
            );
        meets = λ flow has has_test has_last has_body head_is to out again aims following m.
            for_test_meets program flow routine (labels_in routine flow) at test r v q (tests.does flow q has has_test (on flow has))
            (body_met flow has has_last has_body head_is to out again aims following m);
        adds = λ flow has has_test has_last has_body head_is to out again aims following m.
            let last_adds = ended.adds flow (in_y flow has) has_last (met point.Head at) (turns flow head_is) in
            let body_adds = way.adds flow (in_z flow has) has_body counted_point inner_counted_point (in_for to at last following)
            (inner_aims flow has has_last head_is to out again aims following m) (turning at last)
            (same_meets leads (past_jump (again_met flow has has_last head_is))) in
            let test_adds = tests.adds flow has has_test (in_body to at last body following) following
            (body_met flow has has_last has_body head_is to out again aims following m) (same_meets (on flow has) m) in
            adds_both (adds_both (nothing_then (ends.adds flow) (nothing_then (adds_jump head) last_adds))
            (nothing_then (adds_jump block) (same_after leads body_adds))) test_adds;
        integers = λ count in_test in_last in_body.
            let round = integers_end (integers_after leads (way.integers count in_body)) in
            integers_both (ends.integers count) (integers_both (ended.integers count in_last) (integers_both round (tests.integers count in_test)));
      }

  -- a `for`
  pub for_made : {at : Place} {first : Statements} {test last : Option
      Typed} {body : Statement} {out again head end : ℕ} {old z u new : Built} {p r q t : Point}
      → TurnsFor program routine at test last body (counted_points_in first) old z head end r q
      → t ≡ jump_to head → ExecutesAll program routine first end again z u p t → SealsCountedPoint u new point.Head at r
      → Executes program routine (For at first test last body) out again old new p q
  for_made {at = at} {first = first} {test = test} {last = last} {body = body} {out = out} {again = again} {head = head} {end = end} {z = z} {u = u} {new =
      new} {p = p} {r = r} {q = q} turns starts before_it seals =
      let all = counted_points_in first + counted_points body in
      let inside = more_and_more (counted_points body) (counted_points_in first) all turns.grows before_it.grows (omega arith) in
      let counted = turns.counts in
      let a = before_it.grows.counts in
      let b = before_it.grows.same in
      let final : head + suc (length u.heads) ≡ u.counted_points = omega arith in
      let here = after_head u head final in
      record {
        grows = more_and_more all 1 (1 + counted_points_in first + counted_points body) inside seals.grows (omega arith);
        does = λ flow has args counted_point e.
            let c = seals.grows.counts in
            let d = seals.grows.same in
            let in_u = seals.grows.keeps flow has in
            let in_z = before_it.grows.keeps flow in_u in
            let same : head ≡ counted_point = omega arith in
            let First : Point → Point → Type 0 = λ o b.
            all_at program flow routine (labels_in routine flow) first (head + 1) o (block_of flow again) p b in
            let begins = subst (λ o. First o (jump_to head)) (turns.is flow in_z)
            (subst (λ b. First (block_of flow end) b) starts (before_it.does flow in_u args.0 (head + 1) here)) in
            let loop = turns.does flow in_z args.1 args.2 args.3 (seals.is flow has head final) in
            subst (λ (m : ℕ).
            executes_at program flow routine (labels_in routine flow) (For at first test last body) m (block_of flow out) (block_of flow again) p q) same (
              block_of flow head,
              loop.0,
              all_on program routine flow first (head + 1) q (block_of flow again) p (jump_to head) (block_of flow head) begins (jumps there),
              loop.1,
            );
        adds = λ flow has args counted_point e to aims following m.
            let in_u = seals.grows.keeps flow has in
            let in_z = before_it.grows.keeps flow in_u in
            let head_is = seals.is flow has head final in
            let o = block_of flow out in
            let g = block_of flow again in
            let head_met = same_meets head_is (point_meets at 0 (Reach point.Head head) r refl) in
            let first_aims = aims_in_switch (block_of flow end) aims (same_meets (turns.is flow in_z) m) in
            let first_adds = before_it.adds flow in_u args.0 (head + 1) here (in_switch to following) first_aims (met point.Head at)
            (same_meets starts (past_jump head_met)) in
            for_adds at first test last body to following head p r (turns.meets flow in_z args.1 args.2 args.3 head_is to o g aims following m)
            (turns.adds flow in_z args.1 args.2 args.3 head_is to o g aims following m) (same_after starts first_adds) (seals.adds flow head final);
        integers = λ count ints.
            let loop = turns.integers count ints.1 ints.2 ints.3 in
            integers_between loop (integers_end (integers_after starts (before_it.integers count ints.0))) (seals.integers count);
      }
