-- Unreachable code: for the contract of `keep`, and for every statement that jumps.
use Rattle.std.proofs.Common.{◌≡◌, ℕ, sym, subst}
use Rattle.cs_ast.specs.TypedProgram.{TypedProgram}
use Rattle.cs_cfg.specs.Graph.{Point, Flow, block_of}
use Rattle.cs_cfg.specs.Placing.{Joins, there, jumps}
use Rattle.cs_cfg.specs.Executing.{IsKept}
use Rattle.cs_lower.specs.Building.{jump_to, Built}
use Rattle.cs_lower.specs.Keeping.{Keeps}
use Rattle.cs_lower.specs.Sealing.{Seals}
use Rattle.cs_lower.proofs.AddedPoints.{adds_less}
use Rattle.cs_lower.proofs.Built.{nothing_more}
use Rattle.cs_lower.proofs.Integers.{integers_less}

module _ (program : TypedProgram) (flow : Flow) where
  -- a block is kept
  pub kept_at : (block : ℕ) (q : Point) → block_of flow block ≡ q → IsKept program flow q
  kept_at block q is = (block, subst (λ r. Joins program flow q r) (sym is) there)

  -- a jump to a block is kept too
  pub kept_jump : (block : ℕ) (q : Point) → q ≡ jump_to block → IsKept program flow q
  kept_jump block q is = (block, subst (λ r. Joins program flow r (block_of flow block)) (sym is) (jumps there))

-- a jump needs no block of its own; other code gets one
pub keeps_jump : {built : Built} {p : Point} {block : ℕ} → p ≡ jump_to block → Keeps built built p
keeps_jump {built = built} {p = p} {block = block} is =
    record {
      grows = nothing_more built;
      kept = λ program flow has. kept_jump program flow block p is;
      adds = λ flow. adds_less;
      integers = λ count. integers_less;
    }

pub keeps_block : {old new : Built} {p : Point} {block : ℕ} → Seals old new block p → Keeps old new p
keeps_block {p = p} {block = block} seals = record {
  grows = seals.grows;
  kept = λ program flow has. kept_at program flow block p (seals.is flow has);
  adds = seals.adds;
  integers = seals.integers;
}
