-- The code of the test of a `for` and of its last clause, either of which is optional, and of a `return`: for the contracts of
-- `lower_for_test`, `lower_last` and `lower_return`.
use Rattle.std.proofs.Common.{◌≡◌, ℕ, List, ◌∷◌, Option, Some, None, refl, sym, subst}
use Rattle.cs_ast.specs.declared.place.Place.{Place}
use Rattle.cs_ast.specs.TypedTree.{Typed, Return}
use Rattle.cs_ast.specs.TypedProgram.{TypedProgram, Routine}
use Rattle.cs_events.specs.declared.point.PointKind.TheVariants as point
use Rattle.cs_cfg.specs.ControlPoints.{Next, met, points_some, Targets, flows}
use Rattle.cs_cfg.specs.Executing.{leaving}
use Rattle.cs_cfg.specs.Fitting.{AddsPoints}
use Rattle.cs_cfg.specs.Graph as graph
use Rattle.cs_cfg.specs.Graph.{Point, Flow, block_of}
use Rattle.cs_cfg.specs.GraphPoints.{past_jump}
use Rattle.cs_cfg.specs.Placing.{does, split, Joins, there, jumps, used}
use Rattle.cs_cfg.proofs.AddedPoints.{for_test_adds, return_adds}
use Rattle.cs_cfg.proofs.Fitting.{adds_among, adds_jump, adds_past, adds_silent, nothing_then, then_nothing}
use Rattle.cs_cfg.proofs.Meeting.{does_meets, point_meets, same_meets, split_meets}
use Rattle.cs_lower.specs.Building.{jump_to, Built, blocks}
use Rattle.cs_lower.specs.Sealing.{Seals}
use Rattle.cs_lower.specs.Expressions.{Uses}
use Rattle.cs_lower.specs.Statements.{TestsFor, EndsFor, Returns}
use Rattle.cs_lower.proofs.Built.{nothing_more, grows_on, adds_nothing, among_rest}
use Rattle.cs_lower.proofs.Evaluating.{same_after, same_before}
use Rattle.cs_lower.proofs.Integers.{integers_same, integers_both, integers_end, integers_past, integers_after, integers_before}

module _ (program : TypedProgram) (flow : Flow) where
  -- a block and its point lead to each other
  block_joins : (block : ℕ) (q : Point) → block_of flow block ≡ q → Joins program flow (block_of flow block) q
  block_joins block q is = subst (λ r. Joins program flow r q) (sym is) there

  joins_block : (block : ℕ) (q : Point) → block_of flow block ≡ q → Joins program flow q (block_of flow block)
  joins_block block q is = subst (λ r. Joins program flow r (block_of flow block)) is there

-- a `return` adds its own control point and those of its value
return_alone : {flow : Flow} {at : Place} {some new : List Point} (value : Option Typed) (to : Targets) (following : Next)
    → AddsPoints flow (points_some value (met point.Return at)) (does at 1 (graph.Meet point.Return) leaving ∷ some) new
    → AddsPoints flow (flows to (Return at value) following) some new
return_alone {at = at} {some = some} value to following values =
    nothing_then (adds_jump 0) (return_adds at value to (jump_to 0) following (adds_among (jump_to 0 ∷ some) some (among_rest (jump_to 0) some)) values)

module _ {program : TypedProgram} where
  -- the test of a `for`
  pub no_test : {at : Place} {built : Built} {p : Point} {end : ℕ} → TestsFor program at None built built p p end
  no_test {built = built} {end = end} = record {
    grows = nothing_more built;
    does = λ flow q has args is. (refl, (end, joins_block program flow end q is));
    adds = λ flow has args inside following m m'. adds_nothing;
    integers = λ count ints. integers_same;
  }

  pub tests_for : {at : Place} {test : Typed} {one end : ℕ} {old x new : Built} {p body : Point} → Seals old x one body
      → Uses program test 0 x new p (split at 0 one end) → TestsFor program at (Some test) old new p body end
  tests_for {at = at} {test = test} {one = one} {end = end} seals tests = record {
    grows = grows_on seals.grows tests.grows;
    does = λ flow q has args is. (one, end, tests.does flow has args, (seals.is flow (tests.grows.keeps flow has), block_joins program flow end q is));
    adds = λ flow has args inside following m m'.
        let way = same_meets (seals.is flow (tests.grows.keeps flow has)) m in
        nothing_then (seals.adds flow) (for_test_adds at test one end way m' (tests.adds flow has args (met point.Branch at) (split_meets at 0 one end)));
    integers = λ count ints. integers_both (seals.integers count) (integers_end (tests.integers count ints));
  }

  -- the last clause of a `for`
  pub no_last : {built : Built} {head : ℕ} → EndsFor program None built built head head
  no_last {built = built} {head = head} = record {
    grows = nothing_more built;
    does = λ flow has args. there;
    adds = λ flow has args following m. adds_among (jump_to head ∷ blocks built) (blocks built) (among_rest (jump_to head) (blocks built));
    integers = λ count ints. integers_same;
  }

  pub ends_for : {at : Place} {last : Typed} {block head : ℕ} {old x new : Built} {p s : Point} → s ≡ does at 0 graph.Drop (jump_to head)
      → Uses program last 0 old x p s → Seals x new block p → EndsFor program (Some last) old new block head
  ends_for {at = at} {last = last} {head = head} {p = p} is one seals = record {
    grows = grows_on one.grows seals.grows;
    does = λ flow has args. (
      at,
      jump_to head,
      subst (λ r. used program flow last 0 r (does at 0 graph.Drop (jump_to head))) (sym (seals.is flow has))
          (subst (λ s. used program flow last 0 p s) is (one.does flow (seals.grows.keeps flow has) args)),
      jumps there,
    );
    adds = λ flow has args following m.
        let dropped = does_meets at 0 graph.Drop (jump_to head) refl (past_jump m) in
        let part = one.adds flow (seals.grows.keeps flow has) args following (same_meets is dropped) in
        then_nothing (adds_past at 0 graph.Drop (jump_to head) refl (same_after is part)) (seals.adds flow);
    integers = λ count ints.
        let part = integers_after is (one.integers count ints) in
        integers_both (integers_end (integers_past at 0 graph.Drop (jump_to head) tt part)) (seals.integers count);
  }

  -- a `return` without a value, and with one
  module _ {routine : Routine} where
    pub returns_nothing : {at : Place} {built : Built} {p s l : Point} → l ≡ leaving → s ≡ does at 1 (graph.Meet point.Return) l
        → p ≡ does at 0 graph.Nothing s → Returns program routine at None built built p
    returns_nothing {at = at} {built = built} {p = p} {s = s} {l = l} left meets is =
        let returned : s ≡ does at 1 (graph.Meet point.Return) leaving = subst (λ r. s ≡ does at 1 (graph.Meet point.Return) r) left meets in
        let whole : p ≡ does at 0 graph.Nothing (does at 1 (graph.Meet point.Return) leaving) = subst (λ r. p ≡ does at 0 graph.Nothing r) returned is in
        record {
          grows = nothing_more built;
          does = λ flow has args. whole;
          adds = λ flow has args to following. return_alone None to following
              (same_before whole (adds_silent at 0 graph.Nothing (does at 1 (graph.Meet point.Return) leaving) refl));
          integers = λ count ints.
              let given = integers_past at 0 graph.Nothing (does at 1 (graph.Meet point.Return) leaving) tt integers_same in
              integers_before whole (integers_end (integers_past at 1 (graph.Meet point.Return) leaving tt given));
        }

    pub returns_value : {at : Place} {e : Typed} {old new : Built} {p s l : Point} → l ≡ leaving → s ≡ does at 1 (graph.Meet point.Return) l
        → Uses program e 0 old new p s → Returns program routine at (Some e) old new p
    returns_value {at = at} {e = e} {old = old} {p = p} {s = s} left meets h =
        let returned : s ≡ does at 1 (graph.Meet point.Return) leaving = subst (λ r. s ≡ does at 1 (graph.Meet point.Return) r) left meets in
        record {
          grows = h.grows;
          does = λ flow has args. subst (λ r. used program flow e 0 p r) returned (h.does flow has args);
          adds = λ flow has args to following.
              let value = h.adds flow has args (met point.Return at) (same_meets returned (point_meets at 1 (graph.Meet point.Return) leaving refl)) in
              return_alone (Some e) to following (same_after returned value);
          integers = λ count ints. integers_end (integers_past at 1 (graph.Meet point.Return) leaving tt (integers_after returned (h.integers count ints)));
        }
