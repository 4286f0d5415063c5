-- A sample: a function with code to which nothing leads, and a hand-written graph that is its lowering.
use Rattle.std.proofs.Common.{◌≡◌, ℕ, zero, suc, true, [], ◌∷◌, Some, None, refl, subst, arith}
use Rattle.cs_types.specs.Shape.{void}
use Rattle.cs_ast.specs.TypedTree.{Statement, Block, Label, Return, Empty}
use Rattle.cs_ast.specs.TypedProgram.{TypedProgram, Routine}
use Rattle.cs_events.specs.declared.point.PointKind.TheVariants as point
use Rattle.cs_meaning.specs.Machine.{routine_of}
use Rattle.cs_meaning.proofs.Building.{at, sequence, defined, functions}
use Rattle.cs_cfg.specs.Graph as graph
use Rattle.cs_cfg.specs.Graph.{Point, Flow, Code, flow_of}
use Rattle.cs_cfg.specs.ControlPoints.{met, passed, last_point, control_points}
use Rattle.cs_cfg.specs.GraphPoints.{MeetsNext}
use Rattle.cs_cfg.specs.Fitting.{BlockFits, CodeFits}
use Rattle.cs_cfg.specs.Placing.{does, there}
use Rattle.cs_cfg.specs.Executing.{leaving}
use Rattle.cs_cfg.specs.Placed.{LowersBody, IsPlaced}
use Rattle.cs_cfg.specs.Lowered.{IsLowered}
use Rattle.cs_cfg.proofs.Meeting.{does_meets, point_meets}
use Rattle.cs_cfg.proofs.Fitting.{fits_passed, fits_last, block_end, block_silent, block_point, fit_none, fit_more}
use Rattle.cs_cfg.proofs.ReadOff.{reads_off}
use Rattle.cs_cfg.proofs.Returned.{is_lowered}

-- void f(void){return;L:;}
abbrev body : Statement
body = Block (at 6) (sequence (Return (at 14) None ∷ (Label (at 21) 7 (Block (at 23) Empty) ∷ [])))

abbrev routine : Routine
routine = defined 6 void 0 [] 24 (Return (at 14) None ∷ (Label (at 21) 7 (Block (at 23) Empty) ∷ []))

abbrev program : TypedProgram
program = functions (routine ∷ [])

-- its control points: nothing leads to the label
points : control_points routine ≡
    passed point.Enter (at 6) (met point.Return (at 14))
    ∷ (last_point point.Return (at 14) ∷ (passed point.Label (at 21) (met point.End (at 24)) ∷ (last_point point.End (at 24) ∷ [])))
points = refl

-- after the label, at the label, at the `return`, and at the beginning of the function
abbrev closes : Point
closes = does (at 24) 0 (graph.Close true) leaving

abbrev labelled : Point
labelled = does (at 21) 0 (graph.Reach point.Label 0) closes

abbrev gives : Point
gives = does (at 14) 1 (graph.Meet point.Return) leaving

abbrev returns : Point
returns = does (at 14) 0 graph.Nothing gives

abbrev begins : Point
begins = does (at 6) 0 (graph.Meet point.Enter) returns

abbrev flow : Flow
flow = record { blocks = labelled ∷ (begins ∷ []); entry = 1; counted_points = 1 }

abbrev code : Code
code = record { flows = Some flow ∷ [] }

lowers : LowersBody program routine body flow
lowers = record {
  labels = λ label. labelled;
  inside = returns;
  following = closes;
  nothing = true;
  begins = refl;
  executes = (labelled, (labelled, (refl, (0, there)), there), (closes, (closes, (labelled, closes, there, refl, (λ first. refl), there), there), there));
  ends = there;
  gives = refl;
  counts = refl;
}

placed : IsPlaced code program
placed = record { graphs = elim [ zero ↦ refl | suc n ↦ refl ]; bodies = bodies }
  where
    bodies : (function : ℕ) (found : Statement) (its : Flow) → (routine_of program function).body ≡ Some found → flow_of code function ≡ Some its
        → LowersBody program (routine_of program function) found its
    bodies zero found its e f =
        let same : body ≡ found = cc in
        let same_flow : flow ≡ its = cc in
        subst (λ s. LowersBody program routine s its) same (subst (LowersBody program routine body) same_flow lowers)
    bodies (suc n) found its e f = cc

-- each control point in its blocks fits
fits : CodeFits code program
fits zero =
    let end_met : MeetsNext flow closes (met point.End (at 24)) = point_meets (at 24) 0 (graph.Close true) leaving refl in
    let return_met : MeetsNext flow returns (met point.Return (at 14)) =
    does_meets (at 14) 0 graph.Nothing gives refl (point_meets (at 14) 1 (graph.Meet point.Return) leaving refl) in
    let left : BlockFits flow (control_points routine) leaving = block_end (graph.Return 0) refl in
    let first = block_point (at 21) 0 (graph.Reach point.Label 0) closes (2, omega arith, refl) (fits_passed 0 (graph.Reach point.Label 0) closes refl end_met)
    (block_point (at 24) 0 (graph.Close true) leaving (3, omega arith, refl) (fits_last 0 (graph.Close true) leaving refl refl) left) in
    let second = block_point (at 6) 0 (graph.Meet point.Enter) returns (0, omega arith, refl) (fits_passed 0 (graph.Meet point.Enter) returns refl return_met)
    (block_silent (at 14) 0 graph.Nothing gives refl
    (block_point (at 14) 1 (graph.Meet point.Return) leaving (1, omega arith, refl) (fits_last 1 (graph.Meet point.Return) leaving refl refl) left)) in
    fit_more first (fit_more second fit_none)
fits (suc n) = tt

lowered : IsLowered code program
lowered = is_lowered code program placed (reads_off code program placed fits)
