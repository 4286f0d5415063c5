-- Each control point of a statement is in the graph, with all of its edges, if the statement is placed at a point of the graph. For the
-- control points of placed code.
use Rattle.std.proofs.Common.{ℕ, ◌+◌, List, [], ◌∷◌, Option, Some, None, refl, subst}
use Rattle.cs_ast.specs.declared.place.Place.{Place}
use Rattle.cs_ast.specs.TypedTree.{Typed, Initial, Value, Parts, Bytes, Statement, Block, Declare, Run, If, IfElse, While, Do, For, Switch, Goto, Label, Break}
use Rattle.cs_ast.specs.TypedTree.{Continue, Return, Statements, Empty, Then, count_of}
use Rattle.cs_ast.specs.TypedProgram.{TypedProgram, Routine}
use Rattle.cs_events.specs.declared.point.PointKind.TheVariants as point
use Rattle.cs_meaning.specs.Initials.{Piece, Evaluated, Spelled, pieces}
use Rattle.cs_meaning.specs.Machine.{body_of}
use Rattle.cs_meaning.specs.Jumps.{Landing, landing}
use Rattle.cs_meaning.specs.CountedPoints.{counted_points, counted_points_in}
use Rattle.cs_meaning.specs.Statements.{default_item}
use Rattle.cs_cfg.specs.Graph as graph
use Rattle.cs_cfg.specs.Graph.{Work, Point, Flow, block_of}
use Rattle.cs_cfg.specs.ControlPoints.{Next, met, tested, ControlPoint, points, points_initial, points_some, Targets, for_tested, for_points, flows, flows_in}
use Rattle.cs_cfg.specs.ControlPoints.{in_switch}
use Rattle.cs_cfg.specs.GraphPoints.{MeetsNext}
use Rattle.cs_cfg.specs.Placing.{does, split, used}
use Rattle.cs_cfg.specs.Executing.{type_in, leaving, last_at, for_test_at, stores_at, declares_at, goes_to, returns_at, executes_at, all_at}
use Rattle.cs_cfg.specs.PiecePoints.{points_pieces}
use Rattle.cs_cfg.proofs.Pieces.{points_same}
use Rattle.cs_cfg.proofs.Arriving.{from_first}
use Rattle.cs_cfg.proofs.Cases.{shows_switched}
use Rattle.cs_cfg.proofs.Meeting.{joins_meet, does_meets, point_meets, split_meets, switch_meets, same_meets, used_meets}
use Rattle.cs_cfg.proofs.Keeping.{Kept, kept_block, kept_is, kept_same, kept_past, kept_joins}
use Rattle.cs_cfg.proofs.Showing.{Shows, Shown, shown_none, shown_more, shown_both, Walked, walked_none, walked_past, walked_joins, walked_then, shows_passed}
use Rattle.cs_cfg.proofs.Showing.{shows_last, shows_tested}
use Rattle.cs_cfg.proofs.Shown.{walks, used_walks}
use Rattle.cs_cfg.proofs.Starting.{stores_meet, last_meets, for_test_meets, Aims, aims_in_loop, aims_in_switch, starts_meet, all_start, from_start}

-- one more control point before the others
also : {program : TypedProgram} {flow : Flow} {q : Point} {one : ControlPoint} {others : List ControlPoint} → Shows flow one → Walked program flow q others
    → Walked program flow q (one ∷ others)
also shows walked = record { kept = walked.kept; shown = shown_more shows walked.shown }

module _ (program : TypedProgram) (flow : Flow) where
  -- a test is in the graph, and so are the control points in it
  record TestShown (at : Place) (test : Typed) (one_next other_next : Next) : Type 0 where
    itself : Shows flow (tested at one_next other_next)
    inside : Shown flow (points test (met point.Branch at))

  test_shown : (at : Place) (test : Typed) (p : Point) (one other : ℕ) {one_next other_next : Next} → used program flow test 0 p (split at 0 one other)
      → Kept program flow p →
      MeetsNext flow (block_of flow one) one_next → MeetsNext flow (block_of flow other) other_next → TestShown at test one_next other_next
  test_shown at test p one other it kept m m' =
      let walked = used_walks program flow test 0 p _ it (split_meets at 0 one other) kept in
      record { itself = shows_tested at 0 one other walked.kept m m'; inside = walked.shown }

  -- the test of a `for`, if it has one; the body is in the graph, and what follows the loop
  record ForTestShown (at : Place) (test : Option Typed) (inside q : Point) (body_next next : Next) : Type 0 where
    body : Kept program flow inside
    following : Kept program flow q
    itself : Shown flow (for_tested at test body_next next)
    points_in_it : Shown flow (for_points at test)

  for_test_shown : (at : Place) (test : Option Typed) (p inside q : Point) {body_next next : Next} → for_test_at program flow at test p inside q
      → Kept program flow p →
      MeetsNext flow inside body_next → MeetsNext flow q next → ForTestShown at test inside q body_next next
  for_test_shown at None p inside q it kept m m' = record {
    body = kept_same it.0 kept;
    following = kept_is it.1;
    itself = shown_none;
    points_in_it = shown_none;
  }
  for_test_shown at (Some test) p inside q it kept m m' =
      let one = it.0 in
      let other = it.1 in
      let shown = test_shown at test p one other it.2 kept (same_meets it.3.0 m) (joins_meet it.3.1 m') in
      record {
        body = kept_same it.3.0 (kept_block one);
        following = kept_joins it.3.1 (kept_block other);
        itself = shown_more shown.itself shown_none;
        points_in_it = shown.inside;
      }

  -- the last part of a `for`
  last_walks : (last : Option Typed) (p head : Point) {next : Next} → last_at program flow last p head → MeetsNext flow head next → Kept program flow p
      → Walked program flow head (points_some last next)
  last_walks None p head way m kept = walked_joins way (walked_none kept)
  last_walks (Some e) p head it m kept =
      walked_joins it.3 (walked_past it.0 0 graph.Drop it.1
      (used_walks program flow e 0 p _ it.2 (does_meets it.0 0 graph.Drop it.1 refl (joins_meet it.3 m)) kept))

  module _ (routine : Routine) (labels : ℕ → Point) where
    -- the pieces of an initializer
    stores_walk : (list : List Piece) (at : Place) (declaration : ℕ) (p q : Point) {next : Next}
        → stores_at program flow routine labels at declaration list p q → MeetsNext flow q next → Kept program flow p →
        Walked program flow q (points_pieces list next)
    stores_walk [] at declaration p q it m kept = walked_none (kept_same it kept)
    stores_walk (Evaluated offset e ∷ others) at declaration p q it m kept =
        let later = stores_meet program flow routine labels others at declaration it.0 q it.2 m in
        walked_then (walked_past at 0 _ it.0 (used_walks program flow e 0 p _ it.1 (does_meets at 0 _ it.0 refl later) kept))
        (λ k. stores_walk others at declaration it.0 q it.2 m k)
    stores_walk (Spelled offset bytes ∷ others) at declaration p q it m kept =
        stores_walk others at declaration it.0 q it.2 m (kept_past at 0 _ it.0 (kept_same it.1 kept))

    initial_walks : (initial : Initial) (at : Place) (declaration : ℕ) (p q : Point) {next : Next}
        → stores_at program flow routine labels at declaration (pieces program (type_in routine declaration) 0 initial) p q →
        MeetsNext flow q next → Kept program flow p → Walked program flow q (points_initial initial next)
    initial_walks initial at declaration p q {next = next} it m kept =
        let ty = type_in routine declaration in
        subst (Walked program flow q) (points_same program initial ty 0 next) (stores_walk (pieces program ty 0 initial) at declaration p q it m kept)

    -- a declaration
    declares_walk : (at : Place) (declaration : ℕ) (initial : Initial) (p q : Point) {next : Next}
        → declares_at program flow routine labels at declaration (Some initial) p q →
        MeetsNext flow q next → Kept program flow p → Walked program flow q (points_initial initial next)
    declares_walk at declaration (Value e) p q it m kept = walked_past at 0 _ q (used_walks program flow e 0 p _ it (does_meets at 0 _ q refl m) kept)
    declares_walk at declaration (Parts parts) p q it m kept =
        initial_walks (Parts parts) at declaration it.0 q it.2 m (kept_past at 0 (graph.Zero declaration) it.0 (kept_same it.1 kept))
    declares_walk at declaration (Bytes bytes) p q it m kept =
        initial_walks (Bytes bytes) at declaration it.0 q it.2 m (kept_past at 0 (graph.Zero declaration) it.0 (kept_same it.1 kept))

    -- a `return`
    returns_shown : (at : Place) (value : Option Typed) (p : Point) → returns_at program flow routine labels at value p → Kept program flow p →
        Walked program flow (does at 1 (graph.Meet point.Return) leaving) (points_some value (met point.Return at))
    returns_shown at None p it kept = walked_none (kept_past at 0 graph.Nothing _ (kept_same it kept))
    returns_shown at (Some e) p it kept = used_walks program flow e 0 p _ it (point_meets at 1 (graph.Meet point.Return) leaving refl) kept

    -- after a `goto`
    after_goto : (found : Option Landing) (label p q : Point) → goes_to program flow routine labels found label p q → Kept program flow p
        → Kept program flow q
    after_goto None label p q it kept = kept_joins it kept
    after_goto (Some l) label p q it kept = kept_is it.1

    mutual
      -- a statement
      pub executed : (s : Statement) {to : Targets} (counted_point : ℕ) (out again p q : Point) {next : Next}
          → Aims program flow routine labels to out again → executes_at program flow routine labels s counted_point out again p q →
          MeetsNext flow q next → Kept program flow p → Walked program flow q (flows to s next)
      executed (Block at statements) counted_point out again p q aims it m kept = all_executed statements counted_point out again p q aims it m kept
      executed (Declare at declaration None) counted_point out again p q aims it m kept = walked_none (kept_past at 0 _ q (kept_same it kept))
      executed (Declare at declaration (Some initial)) counted_point out again p q aims it m kept = declares_walk at declaration initial p q it m kept
      executed (Run at e) counted_point out again p q aims it m kept =
          walked_past at 0 graph.Drop q (walks program flow e 0 p _ it (does_meets at 0 graph.Drop q refl m) kept)
      executed (If at test body) counted_point out again p q aims it m kept =
          let way = it.3.0 in
          let following = joins_meet way.2 m in
          let shown = test_shown at test p it.0 it.1 it.2 kept
          (starts_meet program flow routine labels body counted_point out again _ way.0 aims way.1 following) (joins_meet it.3.1 m) in
          let inside = executed body counted_point out again _ way.0 aims way.1 following (kept_block it.0) in
          also shown.itself (record { kept = kept_joins way.2 inside.kept; shown = shown_both shown.inside inside.shown })
      executed (IfElse at test body other) counted_point out again p q aims it m kept =
          let one = it.3.0 in
          let two = it.3.1 in
          let shown = test_shown at test p it.0 it.1 it.2 kept
          (starts_meet program flow routine labels body counted_point out again _ one.0 aims one.1 (joins_meet one.2 m))
          (starts_meet program flow routine labels other (counted_point + counted_points body) out again _ two.0 aims two.1 (joins_meet two.2 m)) in
          let inside = executed body counted_point out again _ one.0 aims one.1 (joins_meet one.2 m) (kept_block it.0) in
          let others = executed other (counted_point + counted_points body) out again _ two.0 aims two.1 (joins_meet two.2 m) (kept_block it.1) in
          also shown.itself (record { kept = kept_joins one.2 inside.kept; shown = shown_both (shown_both shown.inside inside.shown) others.shown })
      executed (While at test body) counted_point out again p q aims it m kept =
          let head = it.0 in
          let loop = it.2 in
          let way = loop.2.3.0 in
          let work = graph.Reach point.Head counted_point in
          let at_head = kept_same loop.1 (kept_joins it.1 kept) in
          let turns = same_meets loop.1 (point_meets at 0 work loop.0 refl) in
          let aims' = aims_in_loop program flow routine labels q head aims m turns in
          let shown = test_shown at test loop.0 loop.2.0 loop.2.1 loop.2.2 (kept_past at 0 work loop.0 at_head)
          (starts_meet program flow routine labels body (counted_point + 1) q head _ way.0 aims' way.1 (joins_meet way.2 turns)) (joins_meet loop.2.3.1 m) in
          let inside = executed body (counted_point + 1) q head _ way.0 aims' way.1 (joins_meet way.2 turns) (kept_block loop.2.0) in
          also (shows_passed 0 work loop.0 at_head refl refl (used_meets program flow test 0 loop.0 _ loop.2.2 (split_meets at 0 loop.2.0 loop.2.1)))
          (also shown.itself (record { kept = kept_joins loop.2.3.1 (kept_block loop.2.1); shown = shown_both shown.inside inside.shown }))
      executed (Do at body test) counted_point out again p q aims it m kept =
          let head = it.0 in
          let test_at = it.1 in
          let loop = it.3 in
          let way = loop.2 in
          let one = loop.3.0 in
          let other = loop.3.1 in
          let work = graph.Reach point.Head counted_point in
          let at_head = kept_same loop.1 (kept_joins it.2 kept) in
          let turns = same_meets loop.1 (point_meets at 0 work loop.0 refl) in
          let tests = used_meets program flow test 0 test_at _ loop.3.2 (split_meets at 0 one other) in
          let aims' = aims_in_loop program flow routine labels q test_at aims m tests in
          let inside = executed body (counted_point + 1) q test_at loop.0 way.0 aims' way.1 (joins_meet way.2 tests) (kept_past at 0 work loop.0 at_head) in
          let shown = test_shown at test test_at one other loop.3.2 (kept_joins way.2 inside.kept) (joins_meet loop.3.3.0 turns) (joins_meet loop.3.3.1 m) in
          also (shows_passed 0 work loop.0 at_head refl refl
          (starts_meet program flow routine labels body (counted_point + 1) q test_at loop.0 way.0 aims' way.1 (joins_meet way.2 tests)))
          (also shown.itself (record { kept = kept_joins loop.3.3.1 (kept_block other); shown = shown_both inside.shown shown.inside }))
      executed (For at beginning test last body) counted_point out again p q aims it m kept =
          let head = it.0 in
          let last_part = it.1 in
          let loop = it.3 in
          let way = loop.4 in
          let number = counted_point + 1 + counted_points_in beginning in
          let work = graph.Reach point.Head counted_point in
          let turns = same_meets loop.2 (point_meets at 0 work loop.0 refl) in
          let first_part = all_executed beginning (counted_point + 1) q again p head (aims_in_switch program flow routine labels q aims m) it.2 turns kept in
          let at_head = kept_same loop.2 first_part.kept in
          let ends = last_meets program flow routine labels last last_part head loop.5 turns in
          let aims' = aims_in_loop program flow routine labels q last_part aims m ends in
          let body_meets = starts_meet program flow routine labels body number q last_part loop.1 way.0 aims' way.1 (joins_meet way.2 ends) in
          let shown = for_test_shown at test loop.0 loop.1 q loop.3 (kept_past at 0 work loop.0 at_head) body_meets m in
          let inside = executed body number q last_part loop.1 way.0 aims' way.1 (joins_meet way.2 ends) shown.body in
          let end = last_walks last last_part head loop.5 turns (kept_joins way.2 inside.kept) in
          also (shows_passed 0 work loop.0 at_head refl refl (for_test_meets program flow routine labels at test loop.0 loop.1 q loop.3 body_meets))
          (record {
            kept = shown.following;
            shown = shown_both (shown_both (shown_both (shown_both shown.itself first_part.shown) shown.points_in_it) end.shown) inside.shown;
          })
      executed (Switch at value cases statements) {to = to} counted_point out again p q {next = next} aims it m kept =
          let entries = it.2 in
          let aims' = aims_in_switch program flow routine labels q aims m in
          let value_shown = used_walks program flow value 0 p _ it.3 (switch_meets at it.0 it.1) kept in
          let enters = λ (item : ℕ). from_start program flow routine labels item statements counted_point q again (entries item) q aims' (it.4 item) m in
          let inside = all_executed statements counted_point q again (entries 0) q aims'
          (from_first program flow routine labels statements counted_point q again (entries 0) q (it.4 0)) m (kept_is it.7) in
          also (shows_switched program flow routine labels entries (in_switch to next) statements next enters at it.0 it.1 _
          (same_meets it.6 (enters (default_item cases (count_of statements)))) cases value_shown.kept it.5)
          (record { kept = inside.kept; shown = shown_both value_shown.shown inside.shown })
      executed (Goto at label) counted_point out again p q aims it m kept =
          walked_none (after_goto (landing label (body_of routine) 0 []) (labels label) p q it kept)
      executed (Label at label body) counted_point out again p q aims it m kept =
          let work = graph.Reach point.Label counted_point in
          let at_label = kept_same it.3 (kept_joins it.2 kept) in
          also (shows_passed 0 work it.1 at_label refl refl (starts_meet program flow routine labels body (counted_point + 1) out again it.1 q aims it.5 m))
          (executed body (counted_point + 1) out again it.1 q aims it.5 m (kept_past at 0 work it.1 at_label))
      executed (Break at) counted_point out again p q aims it m kept = walked_none (kept_is it.1)
      executed (Continue at) counted_point out again p q aims it m kept = walked_none (kept_is it.1)
      executed (Return at value) counted_point out again p q aims it m kept =
          let walked = returns_shown at value p it.0 kept in
          also (shows_last 1 (graph.Meet point.Return) leaving walked.kept refl) (record { kept = kept_is it.1; shown = walked.shown })

      -- statements one after another
      pub all_executed : (statements : Statements) {to : Targets} (counted_point : ℕ) (out again p q : Point) {next : Next}
          → Aims program flow routine labels to out again → all_at program flow routine labels statements counted_point out again p q →
          MeetsNext flow q next → Kept program flow p → Walked program flow q (flows_in to statements next)
      all_executed Empty counted_point out again p q aims it m kept = walked_none (kept_joins it kept)
      all_executed (Then one others) counted_point out again p q aims it m kept =
          let later = all_start program flow routine labels others (counted_point + counted_points one) out again it.0 q aims it.2 m in
          walked_then (walked_joins it.1.2 (executed one counted_point out again p it.1.0 aims it.1.1 (joins_meet it.1.2 later) kept))
          (λ k. all_executed others (counted_point + counted_points one) out again it.0 q aims it.2 m k)
