-- Where a frame continues, and the instruction there: for the contracts of steps.
use Rattle.std.proofs.Common.{◌≡◌, ℕ, zero, suc, List, [], ◌∷◌, Option, Some, None, All, refl, sym, ap, ◌∙◌, subst}
use Rattle.std.specs.Prelude.{option_map, unwrap_or, slice_get}
use Rattle.std.specs.Option.{option_and_then}
use Rattle.std.proofs.lemmas.List.Elements.{All-head, All-tail, All-get_or}
use Rattle.std.proofs.lemmas.Option.{same_Some, slice_get_within, get_or_from_slice_get}
use Rattle.cs_ast.specs.TypedProgram.{TypedProgram}
use Rattle.cs_cfg.specs.declared.code.Spot.{Spot}
use Rattle.cs_cfg.specs.Graph.{Operation, Point, Flow, Code, before, no_point, flow_of}
use Rattle.cs_cfg.specs.Spots as spots
use Rattle.cs_cfg.specs.Spots.{rest_from, point_in, point_of, begins}
use Rattle.cs_cfg.specs.Instructions.{jump_from, JumpsTo, here, jumps, leads_first, IsNext}
use Rattle.cs_cfg.specs.IntegerCode.{IsIntegerWork, IsIntegerOperation, IsIntegerPoint, HasIntegerCode, count_of_locals}
use Rattle.cs_spots.specs.AtSpots.{StandsAt}

module _ (code : Code) where
  landed : (spot next : Spot) (found : Option ℕ) → option_map (begins spot.function) found ≡ Some next → next.function ≡ spot.function
  landed spot next None e = cc
  landed spot next (Some block) e = sym (ap (λ (s : Spot). s.function) (same_Some (begins spot.function block) next e))

  -- jumps lead to spots of the same function
  pub jumps_stay : {spot last : Spot} → JumpsTo code spot last → last.function ≡ spot.function
  jumps_stay here = refl
  jumps_stay (jumps {spot = spot} {next = next} e way) = jumps_stay way ∙ landed spot next (jump_from (point_of code spot)) e

  -- after an operation, jumps continue from the next spot in its block
  pub next_jumps : (spot last : Spot) (operation : Operation) → StandsAt code operation spot → IsNext code spot (Some last)
      → JumpsTo code (spots.after spot) last
  next_jumps spot last operation stands (next, leads, settled) =
      let following : Some (spots.after spot) ≡ Some next = sym (ap (λ (p : Point). leads_first spot p.operations p.end) stands) ∙ leads in
      subst (λ (s : Spot). JumpsTo code s last) (sym (same_Some (spots.after spot) next following)) settled.0

  module _ (program : TypedProgram) (spot : Spot) (operation : Operation) (following : Point) where
    abbrev count : ℕ
    count = count_of_locals program spot.function

    -- the rest of a block has operations of the block
    first_left : (number : ℕ) (all rest : List Operation) → rest_from number all ≡ Some (operation ∷ rest)
        → All (IsIntegerOperation count) all → IsIntegerOperation count operation
    first_left zero all rest e integer =
        All-head (IsIntegerOperation count) operation rest
        (subst (All (IsIntegerOperation count)) (same_Some all (operation ∷ rest) e) integer)
    first_left (suc number) [] rest e integer = cc
    first_left (suc number) (one ∷ all) rest e integer = first_left number all rest e (All-tail (IsIntegerOperation count) one all integer)

    nowhere : {A : Type 0} → no_point ≡ before operation following → A
    nowhere e = let wrong : [] ≡ operation ∷ following.operations = ap (λ (p : Point). p.operations) e in absurd cc

    in_rest : (block : Point) → IsIntegerPoint count block → (left : Option (List Operation)) → rest_from spot.operation block.operations ≡ left
        → unwrap_or (option_map (λ (operations : List Operation). record { operations = operations; end = block.end }) left) no_point
        ≡ before operation following → IsIntegerOperation count operation
    in_rest block integer None found e = nowhere e
    in_rest block integer (Some operations) found e =
        let same : operations ≡ operation ∷ following.operations = ap (λ (p : Point). p.operations) e in
        first_left spot.operation block.operations following.operations (found ∙ ap Some same) integer

    in_block : (flow : Flow) → All (IsIntegerPoint count) flow.blocks → (block : Option Point) → slice_get flow.blocks spot.block ≡ block
        → unwrap_or (option_and_then (λ (b : Point). point_in b spot.operation) block) no_point ≡ before operation following
        → IsIntegerOperation count operation
    in_block flow integer None found e = nowhere e
    in_block flow integer (Some block) found e =
        let one = All-get_or (IsIntegerPoint count) flow.blocks spot.block block (slice_get_within flow.blocks spot.block block found) integer in
        in_rest block (subst (IsIntegerPoint count) (get_or_from_slice_get flow.blocks spot.block block block found) one)
        (rest_from spot.operation block.operations) refl e

    in_flow : HasIntegerCode code program spot.function → (flow : Option Flow) → flow_of code spot.function ≡ flow
        → unwrap_or (option_and_then (λ (b : Point). point_in b spot.operation) (option_and_then (λ (f : Flow). slice_get f.blocks spot.block) flow))
        no_point
        ≡ before operation following → IsIntegerOperation count operation
    in_flow integer None found e = nowhere e
    in_flow integer (Some flow) found e = in_block flow (integer flow found) (slice_get flow.blocks spot.block) refl e

    -- an operation of integer code works only with integers
    pub integer_at : HasIntegerCode code program spot.function → point_of code spot ≡ before operation following
        → IsIntegerWork count operation.work
    integer_at integer e = in_flow integer (flow_of code spot.function) refl e
