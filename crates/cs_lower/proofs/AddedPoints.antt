-- The control points that combined code adds: for the control points of what is built.
use Rattle.std.proofs.Common.{ℕ, List, [], ◌∷◌, ◌++◌, Option, refl}
use Rattle.cs_ast.specs.declared.place.Place.{Place}
use Rattle.cs_ast.specs.TypedTree.{Typed, Statement, Statements, IfElse, For}
use Rattle.cs_events.specs.declared.point.PointKind.TheVariants as point
use Rattle.cs_cfg.specs.ControlPoints.{Next, met, first_some, points, points_some, Targets, for_test, for_tested, for_points, in_loop, in_switch, starts, flows}
use Rattle.cs_cfg.specs.ControlPoints.{flows_in}
use Rattle.cs_cfg.specs.Fitting.{AddsPoints}
use Rattle.cs_cfg.specs.Graph.{Point, Flow, Reach, block_of}
use Rattle.cs_cfg.specs.GraphPoints.{MeetsNext}
use Rattle.cs_cfg.specs.Placing.{does, split}
use Rattle.cs_cfg.proofs.Fitting.{fits_passed, block_point, fit_first, fit_others, fit_more, fit_jump, fit_split, includes_none, includes_first}
use Rattle.cs_cfg.proofs.Fitting.{includes_second, includes_both, includes_one, includes_others}
use Rattle.cs_lower.specs.Building.{jump_to}

module _ {flow : Flow} where
  -- all blocks except the first
  pub adds_less : {block : Point} {blocks : List Point} → AddsPoints flow [] (block ∷ blocks) blocks
  adds_less = record { keeps = λ all includes fit. fit_others fit }

  -- an `if` with an `else`, whose other branch is built first
  pub if_else_adds : (at : Place) (test : Typed) (body other : Statement) (to : Targets) (following : Next)
      (one two end : ℕ) {old with_other with_both new : List Point} →
      MeetsNext flow (block_of flow one) (starts to body following) → MeetsNext flow (block_of flow two) (starts to other following)
      → AddsPoints flow (flows to other following) (jump_to end ∷ old) with_other →
      AddsPoints flow (flows to body following) (jump_to end ∷ with_other) with_both
      → AddsPoints flow (points test (met point.Branch at)) (split at 0 one two ∷ with_both) new
      → AddsPoints flow (flows to (IfElse at test body other) following) old new
  if_else_adds at test body other to following one two end one_met two_met others inside tests = record {
    keeps = λ all includes fit.
        let in_test = points test (met point.Branch at) in
        let in_body = flows to body following in
        let in_other = flows to other following in
        let has = includes_others includes in
        let first_two = includes_first (in_test ++ in_body) in_other has in
        let way = others.keeps all (includes_second (in_test ++ in_body) in_other has) (fit_jump end fit) in
        let both = inside.keeps all (includes_second in_test in_body first_two) (fit_jump end way) in
        tests.keeps all (includes_first in_test in_body first_two) (fit_split at 0 one two (includes_one includes) one_met two_met both);
  }

  -- a `for`, whose first clause is built after the loop and before the block of its head
  pub for_adds : (at : Place) (beginning : Statements) (test last : Option Typed) (body : Statement) (to : Targets) (following : Next) (head : ℕ)
      (p r : Point) {old with_loop with_first new : List Point} →
      MeetsNext flow r (for_test at test (starts (in_loop to following (first_some last (met point.Head at))) body (first_some last (met point.Head at)))) →
      AddsPoints flow ((for_tested at test (starts (in_loop to following (first_some last (met point.Head at))) body (first_some last (met point.Head at)))
      following ++ for_points at test)
      ++ (flows (in_loop to following (first_some last (met point.Head at))) body (first_some last (met point.Head at))
      ++ points_some last (met point.Head at))) old (r ∷ with_loop) →
      AddsPoints flow (flows_in (in_switch to following) beginning (met point.Head at)) (jump_to head ∷ with_loop) (p ∷ with_first)
      → AddsPoints flow [] (does at 0 (Reach point.Head head) r ∷ with_first) new →
      AddsPoints flow (flows to (For at beginning test last body) following) old (p ∷ new)
  for_adds at beginning test last body to following head p r inside_met loop begins heads = record {
    keeps = λ all includes fit.
        let to_last = first_some last (met point.Head at) in
        let inner = in_loop to following to_last in
        let in_test = for_tested at test (starts inner body to_last) following in
        let in_beginning = flows_in (in_switch to following) beginning (met point.Head at) in
        let of_test = for_points at test in
        let in_last = points_some last (met point.Head at) in
        let in_body = flows inner body to_last in
        let has = includes_others includes in
        let four = includes_first (in_test ++ in_beginning ++ of_test ++ in_last) in_body has in
        let three = includes_first (in_test ++ in_beginning ++ of_test) in_last four in
        let two = includes_first (in_test ++ in_beginning) of_test three in
        let has_test = includes_both in_test of_test (includes_first in_test in_beginning two) (includes_second (in_test ++ in_beginning) of_test three) in
        let has_body = includes_second (in_test ++ in_beginning ++ of_test ++ in_last) in_body has in
        let has_last = includes_second (in_test ++ in_beginning ++ of_test) in_last four in
        let looped = loop.keeps all (includes_both (in_test ++ of_test) (in_body ++ in_last) has_test (includes_both in_body in_last has_body has_last)) fit in
        let begun = begins.keeps all (includes_second in_test in_beginning two) (fit_jump head (fit_others looped)) in
        let work = Reach point.Head head in
        let head_fits = block_point at 0 work r (includes_one includes) (fits_passed 0 work r refl inside_met) (fit_first looped) in
        fit_more (fit_first begun) (heads.keeps all includes_none (fit_more head_fits (fit_others begun)));
  }
