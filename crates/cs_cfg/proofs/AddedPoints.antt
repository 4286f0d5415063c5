-- The code of each statement adds no control points but those of the statement. For the builder of a graph.
use Rattle.std.proofs.Common.{◌≡◌, ℕ, ◌+◌, List, [], ◌∷◌, ◌++◌, Option, Some, refl}
use Rattle.std.proofs.lemmas.List.Elements.{All-contains_itself}
use Rattle.cs_ast.specs.declared.place.Place.{Place}
use Rattle.cs_ast.specs.declared.typed.statement.Case.{Case}
use Rattle.cs_ast.specs.TypedTree.{Typed, Statement, If, While, Do, Switch, Label, Return, Statements, count_of}
use Rattle.cs_ast.specs.TypedProgram.{TypedProgram, Routine}
use Rattle.cs_events.specs.declared.point.PointKind.TheVariants as point
use Rattle.cs_meaning.specs.Machine.{body_of}
use Rattle.cs_meaning.specs.Statements.{default_item}
use Rattle.cs_cfg.specs.Graph as graph
use Rattle.cs_cfg.specs.Graph.{Point, Flow, block_of}
use Rattle.cs_cfg.specs.ControlPoints.{Next, met, first, last_point, points, points_some, Targets, for_tested, for_points, flows, flows_in, starts, in_loop}
use Rattle.cs_cfg.specs.ControlPoints.{in_switch, end_of, body_targets, control_points}
use Rattle.cs_cfg.specs.GraphPoints.{MeetsNext}
use Rattle.cs_cfg.specs.Fitting.{AllFit, Includes, AddsPoints}
use Rattle.cs_cfg.specs.Placing.{does, split}
use Rattle.cs_cfg.specs.Executing.{leaving, executes_at}
use Rattle.cs_cfg.specs.Placed.{LowersBody}
use Rattle.cs_cfg.proofs.ReadOff.{body_meets}
use Rattle.cs_cfg.proofs.Cases.{chooses, fits_switched}
use Rattle.cs_cfg.proofs.Meeting.{joins_meet, point_meets, split_meets, same_meets, used_meets}
use Rattle.cs_cfg.proofs.Fitting.{fits_passed, fits_last, block_end, block_choice, fit_more, fit_point, includes_none, includes_first, includes_second}
use Rattle.cs_cfg.proofs.Fitting.{includes_one, includes_others, jump_to, fit_jump, fit_split}
use Rattle.cs_cfg.proofs.Starting.{Aims, aims_in_loop, aims_in_switch, starts_meet, from_start}

module _ (program : TypedProgram) (flow : Flow) (routine : Routine) (labels : ℕ
    → Point) {to : Targets} (counted_point : ℕ) (out again p q : Point) {following : Next} (aims : Aims program flow routine labels to out again)
    (m : MeetsNext flow q following)
    {old sealed : List Point} (end : AddsPoints flow [] (q ∷ old) sealed) where
  -- the point after becomes a block, to which the body jumps and to which the test leads; then the body is built, then the test
  pub if_adds : (at : Place) (test : Typed) (body : Statement) (block : ℕ) {with_body new : List Point}
      (it : executes_at program flow routine labels (If at test body) counted_point out again p q) →
      AddsPoints flow (flows to body following) (jump_to block ∷ sealed) with_body
      → AddsPoints flow (points test (met point.Branch at)) (split at 0 it.0 it.1 ∷ with_body) (p ∷ new) →
      AddsPoints flow (flows to (If at test body) following) (q ∷ old) (p ∷ new)
  if_adds at test body block it inside tests = record {
    keeps = λ all includes fit.
        let in_test = points test (met point.Branch at) in
        let in_body = flows to body following in
        let has = includes_others includes in
        let way = it.3.0 in
        let made = inside.keeps all (includes_second in_test in_body has) (fit_jump block (end.keeps all includes_none fit)) in
        tests.keeps all (includes_first in_test in_body has)
        (fit_split at 0 it.0 it.1 (includes_one includes)
        (starts_meet program flow routine labels body counted_point out again _ way.0 aims way.1 (joins_meet way.2 m)) (joins_meet it.3.1 m) made);
  }

  -- the body of a loop jumps back to the head, which becomes a block last
  pub while_adds : (at : Place) (test : Typed) (body : Statement) (block : ℕ) {with_body with_test new : List Point}
      (it : executes_at program flow routine labels (While at test body) counted_point out again p q) →
      AddsPoints flow (flows (in_loop to following (met point.Head at)) body (met point.Head at)) (jump_to block ∷ sealed) with_body →
      AddsPoints flow (points test (met point.Branch at)) (split at 0 it.2.2.0 it.2.2.1 ∷ with_body) (it.2.0 ∷ with_test) →
      AddsPoints flow [] (does at 0 (graph.Reach point.Head counted_point) it.2.0 ∷ with_test) new
      → AddsPoints flow (flows to (While at test body) following) (q ∷ old) (jump_to block ∷ new)
  while_adds at test body block it inside tests last = record {
    keeps = λ all includes fit.
        let in_test = points test (met point.Branch at) in
        let in_body = flows (in_loop to following (met point.Head at)) body (met point.Head at) in
        let loop = it.2 in
        let way = loop.2.3.0 in
        let work = graph.Reach point.Head counted_point in
        let turns = same_meets loop.1 (point_meets at 0 work loop.0 refl) in
        let has = includes_others (includes_others includes) in
        let made = inside.keeps all (includes_second in_test in_body has) (fit_jump block (end.keeps all includes_none fit)) in
        let body_meets = starts_meet program flow routine labels body (counted_point + 1) q it.0 _ way.0
        (aims_in_loop program flow routine labels q it.0 aims m turns) way.1 (joins_meet way.2 turns) in
        let tested_so = tests.keeps all (includes_first in_test in_body has)
        (fit_split at 0 loop.2.0 loop.2.1 (includes_one (includes_others includes)) body_meets (joins_meet loop.2.3.1 m) made) in
        let head_fits = fits_passed 0 work loop.0 refl (used_meets program flow test 0 loop.0 _ loop.2.2 (split_meets at 0 loop.2.0 loop.2.1)) in
        fit_jump block (last.keeps all includes_none (fit_point at 0 work loop.0 (includes_one includes) head_fits tested_so));
  }

  -- the test becomes a block, to which the body jumps
  pub do_adds : (at : Place) (body : Statement) (test : Typed) (block test_block : ℕ) {with_test with_body new : List Point}
      (it : executes_at program flow routine labels (Do at body test) counted_point out again p q) →
      AddsPoints flow (points test (met point.Branch at)) (split at 0 it.3.3.0 it.3.3.1 ∷ sealed) with_test →
      AddsPoints flow (flows (in_loop to following (first test (met point.Branch at))) body (first test (met point.Branch at)))
      (jump_to test_block ∷ with_test) (it.3.0 ∷ with_body) →
      AddsPoints flow [] (does at 0 (graph.Reach point.Head counted_point) it.3.0 ∷ with_body) new
      → AddsPoints flow (flows to (Do at body test) following) (q ∷ old) (jump_to block ∷ new)
  do_adds at body test block test_block it tests inside last = record {
    keeps = λ all includes fit.
        let in_test = points test (met point.Branch at) in
        let in_body = flows (in_loop to following (first test (met point.Branch at))) body (first test (met point.Branch at)) in
        let loop = it.3 in
        let way = loop.2 in
        let work = graph.Reach point.Head counted_point in
        let turns = same_meets loop.1 (point_meets at 0 work loop.0 refl) in
        let test_met = used_meets program flow test 0 it.1 _ loop.3.2 (split_meets at 0 loop.3.0 loop.3.1) in
        let has = includes_others (includes_others includes) in
        let tested_so = tests.keeps all (includes_second in_body in_test has)
        (fit_split at 0 loop.3.0 loop.3.1 (includes_one (includes_others includes)) (joins_meet loop.3.3.0 turns) (joins_meet loop.3.3.1 m)
        (end.keeps all includes_none fit)) in
        let made = inside.keeps all (includes_first in_body in_test has) (fit_jump test_block tested_so) in
        let body_meets = starts_meet program flow routine labels body (counted_point + 1) q it.1 loop.0 way.0
        (aims_in_loop program flow routine labels q it.1 aims m test_met) way.1 (joins_meet way.2 test_met) in
        fit_jump block (last.keeps all includes_none (fit_point at 0 work loop.0 (includes_one includes) (fits_passed 0 work loop.0 refl body_meets) made));
  }

  -- each statement with a case becomes a block, and the first one too, if nothing leads to it
  pub switch_adds : (at : Place) (value : Typed) (cases : List Case) (statements : Statements) (block : ℕ) {with_statements new : List Point}
      (it : executes_at program flow routine labels (Switch at value cases statements) counted_point out again p q) →
      AddsPoints flow (flows_in (in_switch to following) statements following) (jump_to block ∷ sealed) with_statements →
      AddsPoints flow (points value (met point.Switch at)) (chooses at it.0 it.1 ∷ with_statements) (p ∷ new)
      → AddsPoints flow (flows to (Switch at value cases statements) following) (q ∷ old) (p ∷ new)
  switch_adds at value cases statements block it inside values = record {
    keeps = λ all includes fit.
        let in_value = points value (met point.Switch at) in
        let in_statements = flows_in (in_switch to following) statements following in
        let has = includes_others includes in
        let aims' = aims_in_switch program flow routine labels q aims m in
        let enters = λ (item : ℕ). from_start program flow routine labels item statements counted_point q again (it.2 item) q aims' (it.4 item) m in
        let other_met = same_meets it.6 (enters (default_item cases (count_of statements))) in
        let fits = fits_switched program flow routine labels it.2 (in_switch to following) statements following enters at it.0 it.1 _ other_met cases it.5 in
        let made = inside.keeps all (includes_second in_value in_statements has) (fit_jump block (end.keeps all includes_none fit)) in
        values.keeps all (includes_first in_value in_statements has) (fit_more (block_choice (graph.Switch at 0 it.0 it.1) (includes_one includes) fits) made);
  }

module _ {flow : Flow} where
  -- the test of a `for`, before its body
  pub for_test_adds : (at : Place) (test : Typed) (one other : ℕ) {body_next following : Next} {with_body new : List Point}
      → MeetsNext flow (block_of flow one) body_next → MeetsNext flow (block_of flow other) following →
      AddsPoints flow (points test (met point.Branch at)) (split at 0 one other ∷ with_body) new
      → AddsPoints flow (for_tested at (Some test) body_next following ++ for_points at (Some test)) with_body new
  for_test_adds at test one other m m' tests =
      record { keeps = λ all includes fit. tests.keeps all (includes_others includes) (fit_split at 0 one other (includes_one includes) m m' fit) }

  -- a label, which becomes a block
  pub label_adds : (at : Place) (label : ℕ) (body : Statement) (counted_point block : ℕ) (to : Targets) (inside q : Point)
      (following : Next) {old with_body new : List Point} → MeetsNext flow inside (starts to body following) →
      AddsPoints flow (flows to body following) (q ∷ old) (inside ∷ with_body)
      → AddsPoints flow [] (does at 0 (graph.Reach point.Label counted_point) inside ∷ with_body) new →
      AddsPoints flow (flows to (Label at label body) following) (q ∷ old) (jump_to block ∷ new)
  label_adds at label body counted_point block to inside q following m parts last = record {
    keeps = λ all includes fit.
        let made = parts.keeps all (includes_others includes) fit in
        fit_jump block (last.keeps all includes_none
        (fit_point at 0 (graph.Reach point.Label counted_point) inside (includes_one includes)
        (fits_passed 0 (graph.Reach point.Label counted_point) inside refl m) made));
  }

  -- a `return`, where the point after has become a block
  pub return_adds : (at : Place) (value : Option Typed) (to : Targets) (q : Point) (following : Next) {old sealed new : List Point}
      → AddsPoints flow [] (q ∷ old) sealed →
      AddsPoints flow (points_some value (met point.Return at)) (does at 1 (graph.Meet point.Return) leaving ∷ sealed) new
      → AddsPoints flow (flows to (Return at value) following) (q ∷ old) new
  return_adds at value to q following end values = record {
    keeps = λ all includes fit.
        let last = fit_more (block_end (graph.Return 0) refl) (end.keeps all includes_none fit) in
        values.keeps all (includes_others includes)
        (fit_point at 1 (graph.Meet point.Return) leaving (includes_one includes) (fits_last 1 (graph.Meet point.Return) leaving refl refl) last);
  }

-- all blocks of a graph fit once it begins at the body, which was put before its end
pub graph_fits : (program : TypedProgram) (flow : Flow) (routine : Routine) (body : Statement) (has_body : routine.body ≡ Some body)
    (lowers : LowersBody program routine body flow) {old built : List Point} (blocks : List Point) →
    AddsPoints flow (flows (body_targets routine) (body_of routine) (end_of routine)) (does routine.closes 0 (graph.Close lowers.nothing) leaving ∷ old)
    (lowers.inside ∷ built) →
    AddsPoints flow [] (does routine.at 0 (graph.Meet point.Enter) lowers.inside ∷ built) blocks → AllFit flow (control_points routine) old
    → AllFit flow (control_points routine) blocks
graph_fits program flow routine body has_body lowers blocks inside last fit =
    let closes = graph.Close lowers.nothing in
    let enters = graph.Meet point.Enter in
    let in_body = flows (body_targets routine) (body_of routine) (end_of routine) in
    let itself : Includes (control_points routine) (control_points routine) = record { all = All-contains_itself (control_points routine) } in
    let has = includes_others itself in
    let end_fits = fits_last 0 closes leaving refl refl in
    let ends = fit_point routine.closes 0 closes leaving (includes_one (includes_second in_body (last_point point.End routine.closes ∷ []) has)) end_fits
    (fit_more (block_end (graph.Return 0) refl) fit) in
    let made = inside.keeps (control_points routine) (includes_first in_body (last_point point.End routine.closes ∷ []) has) ends in
    let begins = fits_passed 0 enters lowers.inside refl (body_meets program flow routine body has_body lowers) in
    last.keeps (control_points routine) includes_none (fit_point routine.at 0 enters lowers.inside (includes_one itself) begins made)
