-- Points that are in a graph: if a point is the rest of a block, so is each point at which it continues. For the control points of
-- placed code.
use Rattle.std.specs.Prelude.{◌⊎◌, Contains, slice_get}
use Rattle.std.proofs.Common.{◌≡◌, ℕ, zero, suc, List, [], ◌∷◌, ◌++◌, Option, Some, None, unwrap_or, refl, sym, ap, ◌∙◌, subst, inl}
use Rattle.std.proofs.Common.{inr, append_assoc, arith}
use Rattle.std.proofs.lemmas.List.Elements.{Contains-append_right}
use Rattle.cs_ast.specs.declared.place.Place.{Place}
use Rattle.cs_ast.specs.TypedProgram.{TypedProgram}
use Rattle.cs_events.specs.declared.point.PointKind.TheVariants as point
use Rattle.cs_cfg.specs.Graph.{Work, Operation, BlockEnd, Branch, Switch, Finish, Point, before, no_point, Flow, block_of}
use Rattle.cs_cfg.specs.ControlPoints.{Met, met}
use Rattle.cs_cfg.specs.GraphPoints.{met_by, IsMet, by_operation, by_branch, by_switch, IsRest, Occurs}
use Rattle.cs_cfg.specs.Placing.{does, Joins, there, jumps}
use Rattle.cs_cfg.specs.Executing.{IsKept}

-- the control point that a point is, if it is one
abbrev pub met_at : List Operation → BlockEnd → Option Met
met_at (operation ∷ operations) end = met_by operation
met_at [] (Branch at temporary one other) = met point.Branch at
met_at [] (Switch at temporary cases otherwise) = met point.Switch at
met_at [] other = None

abbrev pub met_of : Point → Option Met
met_of p = met_at p.operations p.end

pub is_met : {p : Point} {m : Met} → IsMet p m → met_of p ≡ Some m
is_met (by_operation e) = e
is_met by_branch = refl
is_met by_switch = refl

-- all of a block is a rest of it
pub whole : (block : Point) → IsRest block block
whole block = record { done = []; left = refl; ends = refl }

-- the rest after an operation
pub rest_past : (block : Point) (operation : Operation) (p : Point) → IsRest block (before operation p) → IsRest block p
rest_past block operation p rest = record {
  done = rest.done ++ operation ∷ [];
  left = rest.left ∙ sym (append_assoc rest.done (operation ∷ []) p.operations);
  ends = rest.ends;
}

-- a number that isn't a block's yields the point that leaves the frame
pub contains_at : (blocks : List Point) (number : ℕ) → Contains blocks (unwrap_or (slice_get blocks number) no_point)
    ⊎ (unwrap_or (slice_get blocks number) no_point ≡ no_point)
contains_at [] number = inr refl
contains_at (first ∷ others) zero = inl (0, omega arith, refl)
contains_at (first ∷ others) (suc number) = following (contains_at others number)
  where
    following : {p : Point} → Contains others p ⊎ (p ≡ no_point) → Contains (first ∷ others) p ⊎ (p ≡ no_point)
    following (inl among) = inl (Contains-append_right (first ∷ []) others _ among)
    following (inr none) = inr none

-- and that is no control point
nothing_met : (done operations : List Operation) (end : BlockEnd) (m : Met) → [] ≡ done ++ operations → Finish ≡ end
    → met_at operations end ≡ Some m → ⊥
nothing_met [] [] end m e f is =
    let none : None ≡ Some m = ap (met_at []) f ∙ is in
    cc
nothing_met [] (operation ∷ operations) end m e f is = cc
nothing_met (operation ∷ done) operations end m e f is = cc

module _ (program : TypedProgram) (flow : Flow) where
  -- a point is the rest of the block with a number, or jumps lead to such a point
  pub record Kept (p : Point) : Type 0 where
    pub here : Point
    pub way : Joins program flow p here
    pub block : ℕ
    pub rest : IsRest (block_of flow block) here

module _ {program : TypedProgram} {flow : Flow} where
  pub kept_block : (block : ℕ) → Kept program flow (block_of flow block)
  kept_block block = record { here = block_of flow block; way = there; block = block; rest = whole (block_of flow block) }

  pub kept_is : {p : Point} → IsKept program flow p → Kept program flow p
  kept_is it = record { here = block_of flow it.0; way = it.1; block = it.0; rest = whole (block_of flow it.0) }

  pub kept_same : {p q : Point} → p ≡ q → Kept program flow p → Kept program flow q
  kept_same e kept = subst (Kept program flow) e kept

  -- through jumps
  pub kept_joins : {p q : Point} → Joins program flow p q → Kept program flow p → Kept program flow q
  kept_joins there kept = kept
  kept_joins (jumps {block = block} way) kept = kept_joins way (kept_block block)

  -- from an operation no jumps lead on
  stays_at : {p q : Point} (operation : Operation) (operations : List Operation) → Joins program flow p q → p.operations ≡ operation ∷ operations
      → p ≡ q
  stays_at operation operations there e = refl
  stays_at operation operations (jumps way) e = cc

  stays_met : {p q : Point} {m : Met} → Joins program flow p q → met_of p ≡ Some m → p ≡ q
  stays_met there e = refl
  stays_met (jumps way) e = cc

  -- after an operation
  pub kept_past : (at : Place) (number : ℕ) (work : Work) (q : Point) → Kept program flow (does at number work q) → Kept program flow q
  kept_past at number work q kept =
      let operation : Operation = record { at = at; temporary = number; work = work } in
      let here = stays_at operation q.operations kept.way refl in
      record {
        here = q;
        way = there;
        block = kept.block;
        rest = rest_past (block_of flow kept.block) operation q (subst (IsRest (block_of flow kept.block)) (sym here) kept.rest);
      }

  -- a control point of a kept point occurs in the graph
  pub occurs : {p : Point} {m : Met} → Kept program flow p → IsMet p m → Occurs flow p
  occurs {p = p} {m = m} kept is =
      let here = stays_met kept.way (is_met is) in
      found (contains_at flow.blocks kept.block) (subst (IsRest (block_of flow kept.block)) (sym here) kept.rest)
    where
      found : Contains flow.blocks (block_of flow kept.block) ⊎ (block_of flow kept.block ≡ no_point) → IsRest (block_of flow kept.block) p
          → Occurs flow p
      found (inl among) rest = record { block = block_of flow kept.block; among = among; rest = rest }
      found (inr none) rest =
          let left = subst (λ b. IsRest b p) none rest in
          absurd (nothing_met left.done p.operations p.end m left.left left.ends (is_met is))
