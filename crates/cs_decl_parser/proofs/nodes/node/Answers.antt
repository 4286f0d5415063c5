use Rattle.std.proofs.Common.{sym, subst}
use Rattle.cs_ast.specs.declared.raw.statement.RawStmtKind.{RawStmtKind}
use Rattle.cs_decl_parser.specs.FilePlaces.{ArePartsPlaced}
use Rattle.cs_decl_parser.proofs.nodes.node.Goals as goal

pub returns-clause-placed : goal.returns-clause-placed
returns-clause-placed c =
    λ list at parts. (at, subst (λ (k : RawStmtKind). ArePartsPlaced k list) (sym c.in_ok-kind.ensures.ok) parts)
