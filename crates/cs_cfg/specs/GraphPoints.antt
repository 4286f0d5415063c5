-- The control points of the graph of a function, and what is reached next on each way out of them, determined by its blocks only.
use Rattle.std.specs.Prelude.{◌≡◌, ℕ, Bool, true, false, List, [], ◌++◌, length, Contains, Option, Some, None, slice_get, if◌then◌else◌}
use Rattle.cs_ast.specs.declared.place.Place.{Place}
use Rattle.cs_events.specs.declared.point.PointKind.{PointKind}
use Rattle.cs_events.specs.declared.point.PointKind.TheVariants as point
use Rattle.cs_cfg.specs.Graph.{Work, Reach, Meet, Close, Operation, SwitchCase, Jump, Branch, Switch, Finish, Point, before, Flow, block_of}
use Rattle.cs_cfg.specs.ControlPoints.{Met, Next, the_point, met, Exit, Onward, TruthOf, CaseOf, Way, ControlPoint}

-- the control point of an operation, if it is one
abbrev pub met_in : Place → Work → Option Met
met_in at (Reach kind counted_point) = met kind at
met_in at (Meet kind) = met kind at
met_in at (Close nothing) = met point.End at
met_in at other = None

abbrev pub met_by : Operation → Option Met
met_by operation = met_in operation.at operation.work

-- whether the function may reach another point after a control point: not after a `return` or the end of the body
abbrev pub goes_on : PointKind → Bool
goes_on point.Return = false
goes_on point.End = false
goes_on other = true

-- the control point at a point of the graph
pub data IsMet : Point → Met → Type 0 where
  by_operation : {operation : Operation} {p : Point} {m : Met} → met_by operation ≡ Some m → IsMet (before operation p) m
  by_branch : {at : Place} {temporary one other : ℕ} → IsMet (record { operations = []; end = Branch at temporary one other }) (the_point point.Branch at)
  by_switch : {at : Place} {temporary otherwise : ℕ} {cases : List SwitchCase}
      → IsMet (record { operations = []; end = Switch at temporary cases otherwise }) (the_point point.Switch at)

-- a way out of a control point, and the point at which the graph continues
pub data Leads (flow : Flow) : Point → Met → Exit → Point → Type 0 where
  onward : {operation : Operation} {p : Point} {m : Met} → met_by operation ≡ Some m → goes_on m.kind ≡ true
      → Leads flow (before operation p) m Onward p
  on_truth : {at : Place} {temporary one other : ℕ} {holds : Bool} →
      Leads flow (record { operations = []; end = Branch at temporary one other }) (the_point point.Branch at) (TruthOf holds)
      (block_of flow (if holds then one else other))
  on_case : {at : Place} {temporary otherwise number : ℕ} {cases : List SwitchCase} {taken : SwitchCase} → slice_get cases number ≡ Some taken →
      Leads flow (record { operations = []; end = Switch at temporary cases otherwise }) (the_point point.Switch at) (CaseOf number) (block_of flow taken.block)
  on_no_case : {at : Place} {temporary otherwise : ℕ} {cases : List SwitchCase} →
      Leads flow (record { operations = []; end = Switch at temporary cases otherwise }) (the_point point.Switch at) (CaseOf (length cases))
      (block_of flow otherwise)

-- the control point that is reached next from a point on; none if the frame returns at once
pub data MeetsNext (flow : Flow) : Point → Next → Type 0 where
  here : {p : Point} {m : Met} → IsMet p m → MeetsNext flow p (Some m)
  past : {operation : Operation} {p : Point} {next : Next} → met_by operation ≡ None → MeetsNext flow p next → MeetsNext flow (before operation p) next
  past_jump : {block : ℕ} {next : Next} → MeetsNext flow (block_of flow block) next → MeetsNext flow (record { operations = []; end = Jump block }) next
  never : MeetsNext flow (record { operations = []; end = Finish }) None

-- a point is the rest of a block
pub record IsRest (block p : Point) : Type 0 where
  pub done : List Operation
  pub left : block.operations ≡ done ++ p.operations
  pub ends : block.end ≡ p.end

-- a point is the rest of some block of a graph
pub record Occurs (flow : Flow) (p : Point) : Type 0 where
  pub block : Point
  pub among : Contains flow.blocks block
  pub rest : IsRest block p

-- the graph has exactly these control points, and on each way out of each of them reaches next exactly what they name
pub record HasPoints (flow : Flow) (points : List ControlPoint) : Type 0 where
  -- each of them is there
  pub has : (one : ControlPoint) → Contains points one → (p : Point) × Occurs flow p × IsMet p (the_point one.kind one.at)
  -- no other point is
  pub has_only : (p : Point) (m : Met) → Occurs flow p → IsMet p m → (one : ControlPoint) × Contains points one × (the_point one.kind one.at ≡ m)
  -- each of their ways is there
  pub leads : (one : ControlPoint) (way : Way) → Contains points one → Contains one.ways way →
      (p q : Point) × Occurs flow p × Leads flow p (the_point one.kind one.at) way.exit q × MeetsNext flow q way.next
  -- no other way is, and each reaches what they name
  pub leads_only : (p q : Point) (m : Met) (exit : Exit) → Occurs flow p → Leads flow p m exit q →
      (one : ControlPoint) × (way : Way) × Contains points one × Contains one.ways way × (the_point one.kind one.at ≡ m) × (way.exit ≡ exit)
      × MeetsNext flow q way.next
