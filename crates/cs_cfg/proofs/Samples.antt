-- Samples: the text of a flow, and small hand-written graphs whose runs end as those of the reference machine.
use Rattle.std.proofs.Common.{◌≡◌, ℕ, pos, true, false, [], ◌∷◌, map, Some, None, refl, sym, ap, ◌∙◌}
use Rattle.std.specs.List.{range_with_len}
use Rattle.cs_types.specs.declared.int_type.IntType.TheVariants.{Int}
use Rattle.cs_types.specs.Shape.{array}
use Rattle.cs_ast.specs.declared.typed.operator.BinOp.TheVariants as op
use Rattle.cs_ast.specs.declared.typed.operator.CmpOp.TheVariants as cmp
use Rattle.cs_ast.specs.declared.typed.operator.Direction.TheVariants.{Forward}
use Rattle.cs_ast.specs.declared.typed.operator.Gives.TheVariants.{Old}
use Rattle.cs_ast.specs.declared.typed.operator.Order.TheVariants.{PointerFirst}
use Rattle.cs_ast.specs.TypedTree as tree
use Rattle.cs_ast.specs.TypedTree.{Typed, Of}
use Rattle.cs_ast.specs.TypedProgram.{TypedProgram, Routine}
use Rattle.cs_model.specs.declared.kind.Kind.TheVariants as kind
use Rattle.cs_events.specs.declared.outcome.Outcome.TheVariants.{Done, Fault}
use Rattle.cs_events.specs.declared.outcome.Returned.TheVariants as returned
use Rattle.cs_events.specs.declared.point.PointKind.TheVariants as point
use Rattle.cs_events.specs.Runs as runs
use Rattle.cs_meaning.proofs.Building.{at, int, to_int, literal, local, loaded, value, sequence, named, defined, functions, given, USUAL, plain}
use Rattle.cs_cfg.specs.Graph.{Code, Flow, Number, Local, Sum, Load, Compare, Store, FetchNumber, Update, Drop, Clear, Reach, Meet, Close, Jump, Branch, Return}
use Rattle.cs_cfg.specs.declared.touch.Touch.TheVariants as touch
use Rattle.cs_cfg.specs.declared.code.Spot.{Spot}
use Rattle.cs_cfg.specs.Spots.{point_of}
use Rattle.cs_cfg.specs.Instructions.{takes_from, leads_at, jump_at, here, jumps, JumpsForEver, IsSettled}
use Rattle.cs_cfg.specs.Touching.{touch_at}
use Rattle.cs_cfg.specs.ControlPoints.{met, Onward, TruthOf, way, control_points}
use Rattle.cs_cfg.proofs.Building.{does, direct_local, pointed, machine_run, code_run, outcome_of}

-- int f(int n){int a[3];int i;for(i=0;i<n;i++)a[i]=0;return a[0];}
abbrev element : ℕ → Typed → Typed
element column number = Of (at column) int (tree.Index (Of (at 45) to_int (tree.Decay (local 45 (array int 3) 1))) number PointerFirst)

abbrev fills_routine : Routine
fills_routine = defined 5 int 1 (named 110 int ∷ (named 97 (array int 3) ∷ (named 105 int ∷ []))) 64 (
    tree.Declare (at 18) 1 None ∷ (
    tree.Declare (at 27) 2 None ∷ (
    tree.For (at 29) (sequence (tree.Run (at 33) (Of (at 34) int (tree.Assign (local 33 int 2) (literal 35 0))) ∷ []))
    (Some (Of (at 38) int (tree.Compare cmp.Less (value 37 int 2) (value 39 int 0))))
    (Some (Of (at 42) int (tree.Update op.Add (local 41 int 2) (literal 42 1) Int Old)))
    (tree.Run (at 45) (Of (at 49) int (tree.Assign (element 46 (value 47 int 2)) (literal 50 0)))) ∷ (
    tree.Return (at 52) (Some (loaded (Of (at 60) int (tree.Index (Of (at 59) to_int (tree.Decay (local 59 (array int 3) 1))) (literal 61 0) PointerFirst))))
    ∷ []))))

abbrev fills : TypedProgram
fills = functions (fills_routine ∷ [])

-- its control points, with their edges
fills_points : control_points fills_routine ≡
    record { kind = point.Enter; at = at 5; ways = way Onward (met point.Head (at 29)) ∷ [] }
    ∷ (record { kind = point.Head; at = at 29; ways = way Onward (met point.Branch (at 29)) ∷ [] }
    ∷ (record {
      kind = point.Branch;
      at = at 29;
      ways = way (TruthOf true) (met point.Head (at 29)) ∷ (way (TruthOf false) (met point.Return (at 52)) ∷ []);
    }
    ∷ (record { kind = point.Return; at = at 52; ways = [] } ∷ (record { kind = point.End; at = at 64; ways = [] } ∷ []))))
fills_points = refl

abbrev fills_flow_graph : Flow
fills_flow_graph = record {
  blocks =
      record {
        operations = does 5 0 (Meet point.Enter)
            ∷ (does 18 0 (Clear 1 false)
            ∷ (does 27 0 (Clear 2 true)
            ∷ (does 33 0 (Local 2) ∷ (does 35 1 (Number (pos 0)) ∷ (does 34 0 (Store (direct_local 33 int 2)) ∷ (does 33 0 Drop ∷ []))))));
        end = Jump 1;
      }
      ∷ (record {
        operations = does 29 0 (Reach point.Head 0)
            ∷ (does 37 0 (Local 2) ∷ (does 37 0 (Load (direct_local 37 int 2))
            ∷ (does 39 1 (Local 0) ∷ (does 39 1 (Load (direct_local 39 int 0)) ∷ (does 38 0 (Compare cmp.Less) ∷ [])))));
        end = Branch (at 29) 0 2 3;
      }
      ∷ (record {
        operations =
            does 45 0 (Local 1)
            ∷ (does 47 1 (Local 2) ∷ (does 47 1 (Load (direct_local 47 int 2))
            ∷ (does 46 0 (Sum 4 Forward PointerFirst) ∷ (does 50 1 (Number (pos 0)) ∷ (does 49 0 (Store (pointed 46 int)) ∷ (does 45 0 Drop
            ∷ (does 41 0 (Local 2) ∷ (does 42 0 (FetchNumber (direct_local 41 int 2) Int)
            ∷ (does 42 3 (Number (pos 1)) ∷ (does 42 0 (Update op.Add (direct_local 41 int 2) Int Old) ∷ (does 42 0 Drop ∷ [])))))))))));
        end = Jump 1;
      }
      ∷ (record {
        operations =
            does 59 0 (Local 1) ∷ (does 61 1 (Number (pos 0))
            ∷ (does 60 0 (Sum 4 Forward PointerFirst) ∷ (does 60 0 (Load (pointed 60 int)) ∷ (does 52 1 (Meet point.Return) ∷ []))));
        end = Return 0;
      }
      ∷ (record { operations = does 64 0 (Close false) ∷ []; end = Return 0 } ∷ []))));
  entry = 0;
  counted_points = 1;
}

abbrev fills_code : Code
fills_code = record { flows = Some fills_flow_graph ∷ [] }

-- what the block at the head of its loop touches, spot by spot: the operations, the end, and a missing spot
fills_touches : map (λ number. touch_at fills_code (record { function = 0; block = 1; operation = number })) (range_with_len 0 8) ≡
    Some (touch.Point point.Head (at 29))
    ∷ (None ∷ (Some (touch.Load 2 (at 37))
    ∷ (None ∷ (Some (touch.Load 0 (at 39)) ∷ (None ∷ (Some (touch.Point point.Branch (at 29)) ∷ (None ∷ [])))))))
fills_touches = refl

-- a spot of its graph, by its block and its number there
abbrev spot : ℕ → ℕ → Spot
spot block number = record { function = 0; block = block; operation = number }

-- how many operands are taken at the spots of its first block: the operations, the end, and a missing spot
fills_takes : map (λ number. takes_from (point_of fills_code (spot 0 number))) (range_with_len 0 9)
    ≡ 0 ∷ (0 ∷ (0 ∷ (0 ∷ (0 ∷ (2 ∷ (1 ∷ (0 ∷ (0 ∷ []))))))))
fills_takes = refl

-- the last operation of its first block leads to the end, the end to the head of the loop, the test at the end of the loop's head to no
-- single spot, and a missing spot to none
fills_leads : map (leads_at fills_code) (spot 0 6 ∷ (spot 0 7 ∷ (spot 1 6 ∷ (spot 0 8 ∷ []))))
    ≡ Some (spot 0 7) ∷ (Some (spot 1 0) ∷ (None ∷ (None ∷ [])))
fills_leads = refl

-- so a run that has reached the end of the first block is at the head, where the instruction is no jump
fills_settles : IsSettled fills_code (spot 0 7) (Some (spot 1 0))
fills_settles = (jumps refl here, refl)

-- a block that only jumps to itself: the jumps never end
abbrev round : Code
round = record { flows = Some (record { blocks = record { operations = []; end = Jump 0 } ∷ []; entry = 0; counted_points = 0 }) ∷ [] }

goes_round : (last : Spot) → spot 0 0 ≡ last → JumpsForEver round last
goes_round start same last here = (spot 0 0, ap (jump_at round) (sym same))
goes_round start same last (jumps {next = next} e way) =
    let jumped : Some next ≡ Some (spot 0 0) = sym e ∙ ap (jump_at round) (sym same) in
    let back : spot 0 0 ≡ next = cc in
    goes_round next back last way

round_never_settles : IsSettled round (spot 0 0) None
round_never_settles = goes_round (spot 0 0) refl

-- the array has three elements
fills_too_many : outcome_of (code_run fills_code fills 0 (plain (given 110 (pos 4) ∷ [])) USUAL 120) ≡ Some (Fault kind.Bounds (at 46))
unfolding runs.perform
fills_too_many = refl

fills_too_many_alike : code_run fills_code fills 0 (plain (given 110 (pos 4) ∷ [])) USUAL 120
    ≡ machine_run fills 0 (plain (given 110 (pos 4) ∷ [])) USUAL 240
unfolding runs.perform
fills_too_many_alike = refl

fills_two : outcome_of (code_run fills_code fills 0 (plain (given 110 (pos 2) ∷ [])) USUAL 120) ≡ Some (Done (returned.Number (pos 0)))
unfolding runs.perform
fills_two = refl

fills_two_alike : code_run fills_code fills 0 (plain (given 110 (pos 2) ∷ [])) USUAL 120 ≡ machine_run fills 0 (plain (given 110 (pos 2) ∷ [])) USUAL 240
unfolding runs.perform
fills_two_alike = refl

fills_none_alike : code_run fills_code fills 0 (plain []) USUAL 120 ≡ machine_run fills 0 (plain []) USUAL 240
unfolding runs.perform
fills_none_alike = refl
