-- Runs of code whose frames are at spots: for the laws `blocks_begin_at_spots`, `steps_go_by_spots` and `jumps_are_silent`.
use Rattle.std.proofs.Common.{◌≡◌, ℕ, zero, suc, ◌+◌, List, [], ◌∷◌, Option, Some, None, arith, refl, sym, ap, ◌∙◌}
use Rattle.std.specs.Prelude.{option_map, unwrap_or, slice_get}
use Rattle.std.specs.Option.{option_and_then}
use Rattle.cs_ast.specs.TypedProgram.{TypedProgram}
use Rattle.cs_events.specs.declared.outcome.RunBudgets.{RunBudgets}
use Rattle.cs_events.specs.Acts.{Act, Goes}
use Rattle.cs_events.specs.Runs.{Setting, Log, Continues, perform, Leads, stays, goes}
use Rattle.cs_meaning.specs.Machine.{to_do}
use Rattle.cs_cfg.specs.declared.code.Spot.{Spot}
use Rattle.cs_cfg.specs.Graph.{Operation, BlockEnd, Jump, Branch, Switch, Return, Finish, Point, Flow, Code, no_point, no_flow, flow_of, block_of, block_in}
use Rattle.cs_cfg.specs.Working.{CodeState}
use Rattle.cs_cfg.specs.CodeSteps.{step_at, code_step, do_operation}
use Rattle.cs_cfg.specs.Spots.{SpotState, rest_from, point_in, point_in_or, block_at, point_of, begins, after, at_points}
use Rattle.cs_cfg.specs.Instructions.{jump_first, jump_from, JumpsTo, here, jumps, step_first, spot_step}
use Rattle.cs_cfg.proofs.Endless.{jump_parts}

module _ (code : Code) where
  -- a block is the point at its beginning
  pub begins_block : (function block : ℕ) → point_of code (begins function block) ≡ block_in code function block
  begins_block function block = in_flow (flow_of code function)
    where
      in_blocks : (one : Option Point) → unwrap_or (option_and_then (λ one. point_in one 0) one) no_point ≡ unwrap_or one no_point
      in_blocks None = refl
      in_blocks (Some one) = refl

      in_flow : (flow : Option Flow)
          → unwrap_or (option_and_then (λ one. point_in one 0) (option_and_then (λ (f : Flow). slice_get f.blocks block) flow)) no_point
          ≡ block_of (unwrap_or flow no_flow) block
      in_flow None = refl
      in_flow (Some flow) = in_blocks (slice_get flow.blocks block)

  -- after an operation the rest of the block remains
  next_rest : (all : List Operation) (number : ℕ) (one : Operation) (rest : List Operation) → rest_from number all ≡ Some (one ∷ rest)
      → rest_from (number + 1) all ≡ Some rest
  next_rest [] zero one rest e = cc
  next_rest [] (suc number) one rest e = cc
  next_rest (first ∷ all) zero one rest e = let same : all ≡ rest = cc in ap Some same
  next_rest (first ∷ all) (suc number) one rest e =
      let next : suc number + 1 ≡ suc (number + 1) = omega arith in
      ap (λ n. rest_from n (first ∷ all)) next ∙ next_rest all number one rest e

  next_in : (block : Point) (number : ℕ) (one : Operation) (rest : List Operation) (end : BlockEnd)
      → point_in_or block number ≡ record { operations = one ∷ rest; end = end }
      → point_in_or block (number + 1) ≡ record { operations = rest; end = end }
  next_in block number one rest end e = found (rest_from number block.operations) refl e
    where
      found : (left : Option (List Operation)) → rest_from number block.operations ≡ left
          → unwrap_or (option_map (λ (operations : List Operation). record { operations = operations; end = block.end }) left) no_point
          ≡ record { operations = one ∷ rest; end = end }
          → point_in_or block (number + 1) ≡ record { operations = rest; end = end }
      found None f e = let wrong : [] ≡ one ∷ rest = ap (λ (p : Point). p.operations) e in absurd cc
      found (Some operations) f e =
          let same : operations ≡ one ∷ rest = ap (λ (p : Point). p.operations) e in
          let ends : block.end ≡ end = ap (λ (p : Point). p.end) e in
          let left = next_rest block.operations number one rest (f ∙ ap Some same) in
          ap (λ (left : Option (List Operation)).
          unwrap_or (option_map (λ (operations : List Operation). record { operations = operations; end = block.end }) left) no_point) left
          ∙ ap (λ (end : BlockEnd). record { operations = rest; end = end }) ends

  after_first : (spot : Spot) (one : Operation) (rest : List Operation) (end : BlockEnd)
      → point_of code spot ≡ record { operations = one ∷ rest; end = end }
      → point_of code (after spot) ≡ record { operations = rest; end = end }
  after_first spot one rest end e = found (block_at code spot) e
    where
      found : (block : Option Point) → unwrap_or (option_and_then (λ b. point_in b spot.operation) block) no_point
          ≡ record { operations = one ∷ rest; end = end }
          → unwrap_or (option_and_then (λ b. point_in b (spot.operation + 1)) block) no_point ≡ record { operations = rest; end = end }
      found None e = let wrong : [] ≡ one ∷ rest = ap (λ (p : Point). p.operations) e in absurd cc
      found (Some block) e = next_in block spot.operation one rest end e

  abbrev point : List Operation → BlockEnd → Point
  point operations end = record { operations = operations; end = end }

  -- a point that jumps at once
  jumping : (p : Point) (block : ℕ) → jump_from p ≡ Some block → p ≡ record { operations = []; end = Jump block }
  jumping p block e = found p.operations p.end e
    where
      found : (operations : List Operation) (end : BlockEnd) → jump_first operations end ≡ Some block
          → point operations end ≡ point [] (Jump block)
      found [] (Jump other) e = let same : other ≡ block = cc in ap (λ b. point [] (Jump b)) same
      found [] (Branch at temporary one other) e = cc
      found [] (Switch at temporary cases otherwise) e = cc
      found [] (Return temporary) e = cc
      found [] Finish e = cc
      found (operation ∷ operations) end e = cc

  module _ (program : TypedProgram) (budgets : RunBudgets) where
    -- a step is that of the instruction at the spot
    pub goes_by_spot : (m : SpotState) → code_step code program budgets (at_points code m) ≡ spot_step code program budgets m
    goes_by_spot m = by_first (point_of code m.frame.todo).operations (point_of code m.frame.todo).end refl
      where
        by_first : (operations : List Operation) (end : BlockEnd) → point_of code m.frame.todo ≡ record { operations = operations; end = end }
            → step_at code program budgets operations end (at_points code m) ≡ step_first code program budgets operations end m
        by_first [] end e = refl
        by_first (operation ∷ operations) end e =
            ap (λ (p : Point). do_operation code program budgets operation (to_do p (at_points code m)))
            (sym (after_first m.frame.todo operation operations end e))

    -- a jump is one silent step
    jump_step : (spot next : Spot) (m : SpotState) (block : ℕ) → jump_from (point_of code spot) ≡ Some block → next ≡ begins spot.function block
        → code_step code program budgets (at_points code (to_do spot m)) ≡ Goes (at_points code (to_do next m))
    jump_step spot next m block from is =
        ap (λ (p : Point). step_at code program budgets p.operations p.end (at_points code (to_do spot m))) (jumping (point_of code spot) block from)
        ∙ ap (λ (p : Point). Goes (to_do p (at_points code (to_do spot m)))) (sym (begins_block spot.function block))
        ∙ ap (λ (s : Spot). Goes (at_points code (to_do s m))) (sym is)

    jump_goes : (setting : Setting) (log : Log) (act : Act CodeState) (next : CodeState) → act ≡ Goes next
        → perform setting log act ≡ Continues next log
    unfolding perform
    jump_goes setting log act next e = ap (perform setting log) e

    pub silent : (setting : Setting) (log : Log) (m : SpotState) {spot last : Spot} → JumpsTo code spot last
        → Leads (code_step code program budgets) setting (at_points code (to_do spot m)) log (at_points code (to_do last m)) log
    silent setting log m here = stays refl refl
    silent setting log m (jumps {spot = spot} {next = next} e way) =
        let one = jump_parts code spot next e in
        goes (jump_goes setting log _ (at_points code (to_do next m)) (jump_step spot next m one.block one.from one.is)) (silent setting log m way)
