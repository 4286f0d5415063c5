-- When control points of a list are in a graph with all of their edges, and how this is composed. For the control points of placed
-- code.
use Rattle.std.specs.List.{All}
use Rattle.std.proofs.Common.{◌≡◌, ℕ, true, false, List, [], ◌∷◌, ◌++◌, Some}
use Rattle.std.proofs.lemmas.List.Elements.{All-nil, All-cons, All-append}
use Rattle.cs_ast.specs.declared.place.Place.{Place}
use Rattle.cs_ast.specs.TypedTree.{Typed, Of, Call}
use Rattle.cs_ast.specs.TypedProgram.{TypedProgram}
use Rattle.cs_events.specs.declared.point.PointKind.{PointKind}
use Rattle.cs_events.specs.declared.point.PointKind.TheVariants as point
use Rattle.cs_cfg.specs.Graph as graph
use Rattle.cs_cfg.specs.Graph.{Work, Point, Flow, block_of}
use Rattle.cs_cfg.specs.ControlPoints.{Next, the_point, way, Onward, TruthOf, Way, ControlPoint, passed, tested, last_point}
use Rattle.cs_cfg.specs.GraphPoints.{met_in, goes_on, IsMet, by_operation, by_branch, Leads, onward, on_truth, MeetsNext, Occurs}
use Rattle.cs_cfg.specs.Placing.{does, split, used_then, Joins}
use Rattle.cs_cfg.proofs.Keeping.{Kept, kept_past, kept_joins, occurs}

module _ (flow : Flow) where
  -- the graph leaves a point by an edge, and the next control point is that of the edge
  abbrev pub GoesOn : Point → ControlPoint → Way → Type 0
  GoesOn p one w = (q : Point) × Leads flow p (the_point one.kind one.at) w.exit q × MeetsNext flow q w.next

  -- a control point is in the graph, with all of its edges
  pub record Shows (one : ControlPoint) : Type 0 where
    pub there : Point
    pub occurs : Occurs flow there
    pub meets : IsMet there (the_point one.kind one.at)
    pub ways : All (GoesOn there one) one.ways

  -- the same for each of a list
  pub record Shown (points : List ControlPoint) : Type 0 where
    pub all : All Shows points

module _ {flow : Flow} where
  pub shown_none : Shown flow []
  shown_none = record { all = All-nil (Shows flow) }

  pub shown_more : {one : ControlPoint} {others : List ControlPoint} → Shows flow one → Shown flow others → Shown flow (one ∷ others)
  shown_more {one = one} {others = others} first rest = record { all = All-cons (Shows flow) one others first rest.all }

  pub shown_both : {xs ys : List ControlPoint} → Shown flow xs → Shown flow ys → Shown flow (xs ++ ys)
  shown_both {xs = xs} {ys = ys} first rest = record { all = All-append (Shows flow) xs ys first.all rest.all }

-- a point of the graph has been reached, and these control points are in the graph
pub record Walked (program : TypedProgram) (flow : Flow) (q : Point) (points : List ControlPoint) : Type 0 where
  pub kept : Kept program flow q
  pub shown : Shown flow points

module _ {program : TypedProgram} {flow : Flow} where
  pub walked_none : {q : Point} → Kept program flow q → Walked program flow q []
  walked_none kept = record { kept = kept; shown = shown_none }

  -- after an operation
  pub walked_past : (at : Place) (number : ℕ) (work : Work) (q : Point) {points : List ControlPoint} → Walked program flow (does at number work q) points
      → Walked program flow q points
  walked_past at number work q walked = record { kept = kept_past at number work q walked.kept; shown = walked.shown }

  -- after the use of a value
  pub walked_use : (e : Typed) (number : ℕ) (q : Point) {points : List ControlPoint} → Walked program flow (used_then e number q) points
      → Walked program flow q points
  walked_use (Of at ty (Call function arguments)) number q walked = walked_past at number graph.Use q walked
  walked_use (Of at ty other) number q walked = walked

  -- through jumps
  pub walked_joins : {p q : Point} {points : List ControlPoint} → Joins program flow p q → Walked program flow p points → Walked program flow q points
  walked_joins way walked = record { kept = kept_joins way walked.kept; shown = walked.shown }

  -- one part and then another
  pub walked_then : {r q : Point} {xs ys : List ControlPoint} → Walked program flow r xs → (Kept program flow r → Walked program flow q ys)
      → Walked program flow q (xs ++ ys)
  walked_then first rest = record { kept = (rest first.kept).kept; shown = shown_both first.shown (rest first.kept).shown }

  -- the head of a loop, a label or the beginning of a body
  pub shows_passed : {kind : PointKind} {at : Place} {next : Next} (number : ℕ) (work : Work) (q : Point) → Kept program flow (does at number work q) →
      met_in at work ≡ Some (the_point kind at) → goes_on kind ≡ true → MeetsNext flow q next → Shows flow (passed kind at next)
  shows_passed {kind = kind} {at = at} {next = next} number work q kept is further m =
      let operation : graph.Operation = record { at = at; temporary = number; work = work } in
      let here : IsMet (does at number work q) (the_point kind at) = by_operation {operation = operation} {p = q} is in
      let P = GoesOn flow (does at number work q) (passed kind at next) in
      record {
        there = does at number work q;
        occurs = occurs kept here;
        meets = here;
        ways = All-cons P (way Onward next) [] (q, onward {operation = operation} {p = q} is further, m) (All-nil P);
      }

  -- a `return` or the end of a body
  pub shows_last : {kind : PointKind} {at : Place} (number : ℕ) (work : Work) (q : Point) → Kept program flow (does at number work q) →
      met_in at work ≡ Some (the_point kind at) → Shows flow (last_point kind at)
  shows_last {kind = kind} {at = at} number work q kept is =
      let here : IsMet (does at number work q) (the_point kind at) =
      by_operation {operation = record { at = at; temporary = number; work = work }} {p = q} is in
      record {
        there = does at number work q;
        occurs = occurs kept here;
        meets = here;
        ways = All-nil (GoesOn flow (does at number work q) (last_point kind at));
      }

  -- a test
  pub shows_tested : {one_next other_next : Next} (at : Place) (number one other : ℕ) → Kept program flow (split at number one other) →
      MeetsNext flow (block_of flow one) one_next → MeetsNext flow (block_of flow other) other_next → Shows flow (tested at one_next other_next)
  shows_tested {one_next = a} {other_next = b} at number one other kept m m' =
      let here : IsMet (split at number one other) (the_point point.Branch at) = by_branch in
      let P = GoesOn flow (split at number one other) (tested at a b) in
      record {
        there = split at number one other;
        occurs = occurs kept here;
        meets = here;
        ways = All-cons P (way (TruthOf true) a) (way (TruthOf false) b ∷ []) (block_of flow one, on_truth, m)
            (All-cons P (way (TruthOf false) b) [] (block_of flow other, on_truth, m') (All-nil P));
      }
