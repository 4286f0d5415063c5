-- Each point of a graph is at a spot: for the law `points_are_at_spots`.
use Rattle.std.proofs.Common.{◌≡◌, ℕ, List, [], ◌∷◌, ◌++◌, length, Option, Some, refl, ap, ◌∙◌}
use Rattle.std.specs.Prelude.{option_map, slice_get}
use Rattle.std.specs.Option.{option_and_then}
use Rattle.std.proofs.lemmas.Option.{slice_get-get_or}
use Rattle.cs_cfg.specs.declared.code.Spot.{Spot}
use Rattle.cs_cfg.specs.Graph.{Operation, Point, Flow, Code, flow_of}
use Rattle.cs_cfg.specs.GraphPoints.{IsRest, Occurs}
use Rattle.cs_cfg.specs.Spots.{rest_from, point_in, point_at}

-- what remains after so many operations
left_following : (done operations : List Operation) → rest_from (length done) (done ++ operations) ≡ Some operations
left_following [] operations = refl
left_following (operation ∷ done) operations = left_following done operations

-- the rest of a block is at a number in it
rest_at : (block p : Point) (rest : IsRest block p) → point_in block (length rest.done) ≡ Some p
rest_at block p rest =
    ap (λ operations. option_map (λ left. record { operations = left; end = block.end }) (rest_from (length rest.done) operations)) rest.left
    ∙ ap (option_map (λ left. record { operations = left; end = block.end })) (left_following rest.done p.operations)
    ∙ ap (λ end. Some (record { operations = p.operations; end = end })) rest.ends

pub has_spot : (code : Code) (function : ℕ) (flow : Flow) (p : Point) → flow_of code function ≡ Some flow → Occurs flow p →
    (spot : Spot) × (spot.function ≡ function) × (point_at code spot ≡ Some p)
has_spot code function flow p e occurs =
    let among = occurs.among in
    let there : slice_get flow.blocks among.0 ≡ Some occurs.block = slice_get-get_or flow.blocks among.0 occurs.block among.1 ∙ ap Some among.2 in
    let number = length occurs.rest.done in (
      record { function = function; block = among.0; operation = number },
      refl,
      ap (λ (found : Option Flow). option_and_then (λ block. point_in block number) (option_and_then (λ f. slice_get f.blocks among.0) found)) e
          ∙ ap (option_and_then (λ block. point_in block number)) there
          ∙ rest_at occurs.block p occurs.rest,
    )
